-- The made bytes.
use Rattle.std.proofs.Common.{◌≡◌, ℕ, ◌+◌, ◌%◌, length, ◌*◌, map, ◌∙◌, arith}
use Rattle.std.proofs.lemmas.List.FromFn.{length-map-range_with_len, get_or-map-range_with_len, fill_by_all}
use Rattle.std.specs.List.{range_with_len}
use Rattle.command_laws.specs.TextGenerator.{made_from}
use Rattle.command_spec.specs.Make.{made_bytes, made_length}
use Rattle.command_laws.specs.MadeTerms.{made_byte}

pub length-made_from : (first count : ℕ) → length (made_from first count) ≡ count
unfolding made_from
length-made_from first count = length-map-range_with_len (λ i. (first + i) % 251) 0 count

-- a made volume counts on from its first byte
pub made_bytes_from : (seed volume : ℕ) → made_from ((seed + volume * 31) % 251)
    (1000 * (1 + (seed * 37 + volume * 101) % 20000)) ≡ made_bytes seed volume
unfolding made_from made_bytes
made_bytes_from seed volume =
    let f : ℕ → ℕ = λ i. ((seed + volume * 31) % 251 + i) % 251 in
    let n : ℕ = made_length seed volume in
    fill_by_all (made_byte seed volume) (map f (range_with_len 0 n)) n 0
    (length-map-range_with_len f 0 n)
    (λ k here. get_or-map-range_with_len f 0 n k k 0 here (omega arith)
    ∙ (let e : ((seed + volume * 31) % 251 + k) % 251 ≡ (k + 31 * volume + seed) % 251 = omega arith in e))
