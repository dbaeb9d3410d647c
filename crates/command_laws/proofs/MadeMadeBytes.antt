-- How many made bytes there are.
use Rattle.std.proofs.Common.{◌≡◌, ℕ, ◌+◌, ◌*◌, ◌%◌, length, sym, ap, ◌∙◌}
use Rattle.command_laws.proofs.TextMaking.{length-made_from, made_bytes_from}
use Rattle.command_spec.specs.Make.{made_length, made_bytes}

pub length-made_bytes : (seed volume : ℕ) → length (made_bytes seed volume) ≡ made_length seed volume
length-made_bytes seed volume =
    ap length (sym (made_bytes_from seed volume)) ∙ length-made_from ((seed + volume * 31) % 251) (made_length seed volume)
