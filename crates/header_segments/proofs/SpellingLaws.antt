-- What an encoder writes spells the header and its map.
use Rattle.std.proofs.Common.{◌≡◌, ℕ, suc, ◌+◌, ◌%◌, ◌<◌, List, [], ◌∷◌, length, set, take, drop, sym, ◌∙◌, arith, refl}
use Rattle.std.proofs.lemmas.List.{set_split, append_assoc}
use Rattle.cartridge_laws.proofs.HeaderSpellingLaws.{profile_fit}
use Rattle.cartridge_laws.specs.HeaderWriting.{with_fields}
use Rattle.cartridge_spec.specs.Header.{profile_fields}
use Rattle.header_segments.proofs.FieldSets.{length-before_fields}
use Rattle.qic_base.specs.Cartridge.{IsLength}
use Rattle.qic_base.specs.Field.{little_endian_bytes, overwritten}

-- ---- single writes

-- one byte as a field
pub set-overwritten : (sector : List ℕ) (at value : ℕ) → at < length sector → value < 256 → set sector at value ≡ overwritten sector at
    (little_endian_bytes 1 value)
unfolding overwritten little_endian_bytes
set-overwritten sector at value h small =
    let same : value % 256 ≡ value = omega arith in
    let next : at + 1 ≡ suc at = omega arith in
    rw (same, next) (set_split sector at value h ∙ sym (append_assoc (take at sector) (value ∷ []) (drop (suc at) sector)))

-- a first sector that is whole after the profile's fields were whole before
pub profile_whole : (n : ℕ) (sector : List ℕ) → IsLength n → length (with_fields (profile_fields n) sector) ≡ 1024 → length sector ≡ 1024
profile_whole n sector long whole = length-before_fields (profile_fields n) sector refl (profile_fit n long) whole
