-- The printed texts.
use Rattle.std.proofs.Common.{◌≡◌, ℕ, ◌-◌, ◌<◌, ◌≤◌, true, List, length, take, get_or, sym, ap, ◌∙◌, [], refl}
use Rattle.command_laws.proofs.TextTrimmed.{trimmed-filler, take_last}
use Rattle.command_laws.specs.TextTerms.{is_filler}
use Rattle.command_spec.specs.Lines.{trimmed}

-- a front that ends in filling, and one that doesn't
pub trimmed-take-filler : (bytes : List ℕ) (len : ℕ) → 0 < len → len ≤ length bytes → is_filler (get_or bytes (len - 1) 0) ≡ true →
    trimmed (take (len - 1) bytes) ≡ trimmed (take len bytes)
trimmed-take-filler bytes len some within filler =
    sym (ap trimmed (take_last bytes len some within) ∙ trimmed-filler (take (len - 1) bytes) (get_or bytes (len - 1) 0) filler)

pub trimmed-none : trimmed [] ≡ []
unfolding trimmed
trimmed-none = refl
