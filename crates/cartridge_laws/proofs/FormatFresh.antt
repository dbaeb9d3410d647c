-- Fresh header data pass all tests, where no sector in front is marked.
use Rattle.std.proofs.Common.{◌≡◌, ℕ, ◌-◌, true, List, Option, None, eq-eqb, [], ◌∷◌, ap, ◌∙◌, All, ◌<◌, arith, zero, suc, ◌^◌, get_or}
use Rattle.std.proofs.Common.{take, ◌+◌, drop, inl, inr, length, ◌%◌, ◌/◌, sym, ◌*◌, ◌≤◌}
use Rattle.std.specs.Option.{option_or}
use Rattle.std.proofs.lemmas.List.Elements.{All-get_or}
use Rattle.std.proofs.Math.Nat.{pow-suc}
use Rattle.std.proofs.lemmas.List.{get_or-drop, get_or_past}
use Rattle.std.proofs.lemmas.Bool.{cases_lt}
use Rattle.std.proofs.lemmas.Option.{unwrap_or-slice_get}
use Rattle.std.proofs.lemmas.Nat.Bits.{same_from_bits_below, bit_at-zero}
use Rattle.std.proofs.lemmas.List.FromFn.{get_or-map-range_with_len}
use Rattle.cartridge_spec.specs.Formatting.{IsFreshFor}
use Rattle.cartridge_spec.specs.Header.{number_in, HeaderFault, first_fault, word_in, header_fault, has_signature, profile_fields}
use Rattle.cartridge_laws.specs.HeaderTerms.{map_fault, words_in}
use Rattle.cartridge_spec.specs.Shape.{sector_at}
use Rattle.qic_base.specs.Cartridge.{IsSector, Cartridge}
use Rattle.qic_base.specs.CartridgeTerms.{IsCartridge, IsLost}
use Rattle.qic_base.specs.Field.{little_endian, number_at}
use Rattle.cartridge_laws.proofs.HeaderReadingLaws.{any}
use Rattle.cartridge_laws.proofs.HeaderRefusals.{map_fault-none, first_fault-holds}

-- ---- the words of the map

-- a number of so many bytes
little_endian-below : (n : ℕ) (xs : List ℕ) → ((i : ℕ) → get_or xs i 0 < 256) → little_endian (take n xs) < 256 ^ n
little_endian-below zero xs small = omega arith
little_endian-below (suc n) [] small =
    let some = little_endian-below n [] small in
    omega (arith, pow-suc 256 n)
little_endian-below (suc n) (x ∷ xs) small =
    let first : x < 256 = small 0 in
    let rest : little_endian (take n xs) < 256 ^ n = little_endian-below n xs (λ i. small (suc i)) in
    omega (arith, pow-suc 256 n)

number_at-below : (bytes : List ℕ) (at : ℕ) → ((i : ℕ) → get_or bytes i 0 < 256) → number_at bytes at 4 < 2 ^ 32
unfolding number_at
number_at-below bytes at small =
    let wide : at + 4 - at ≡ 4 = omega arith in
    rw wide (little_endian-below 4 (drop at bytes) (λ i. rw (get_or-drop at bytes i 0) (small (at + i))))

-- each byte of a sector, and what stands behind its end
small_bytes : (area : List (List ℕ)) (k i : ℕ) → All IsSector area → get_or (sector_at area k) i 0 < 256
small_bytes area k i sectors =
    rw (unwrap_or-slice_get area k [])
    (elim (cases_lt k (length area)) [
      | inl within ↦
          let sector : IsSector (get_or area k []) = All-get_or IsSector area k [] within sectors in
          elim (cases_lt i (length (get_or area k []))) [
            | inl inside ↦ All-get_or (λ b. b < 256) (get_or area k []) i 0 inside sector.each
            | inr behind ↦ rw (get_or_past (get_or area k []) i 0 behind) (omega arith)
          ]
      | inr past ↦ rw (get_or_past area k [] past) (omega arith)
    ])

even : (x : ℕ) → (x % 2 ≡ 1 → ⊥) → x % 2 ≡ 0
even x odd = omega arith

-- a word of 32 bits without a bit is 0
word_without_bits : (w : ℕ) → w < 2 ^ 32 → ((i : ℕ) → i < 32 → IsLost w i → ⊥) → w ≡ 0
word_without_bits w small none =
    same_from_bits_below 32 w 0 small (omega arith) (λ i h. even (w / 2 ^ i) (none i h) ∙ sym (bit_at-zero i))

-- ---- fresh header data

pub record AreSound (area : List (List ℕ)) (n : ℕ) : Type 0 where
  pub signature : has_signature area ≡ true
  pub sound : header_fault area n ≡ None

front_words : (c : Cartridge) (label : List ℕ) (date : ℕ) (words : List ℕ) (area : List (List ℕ)) (s : ℕ) → IsCartridge c →
    IsFreshFor c label date words area → s < 3 → word_in area s ≡ 0
front_words c label date words area s whole for below =
    let least : 3 ≤ c.info.segments_per_track = whole.long.shortest in
    let on : s < 28 * c.info.segments_per_track = omega arith in
    let is : words ≡ words_in area (28 * c.info.segments_per_track) = for.fresh.spells.shows.map in
    let read : get_or words s 0 ≡ word_in area s =
    ap (λ (xs : List ℕ). get_or xs s 0) is ∙ get_or-map-range_with_len (word_in area) 0 (28 * c.info.segments_per_track) s s 0 on
    (omega arith) in
    let offset : ℕ = 2048 + 4 * s in
    let small : word_in area s < 2 ^ 32 =
    number_at-below (sector_at area (offset / 1024)) (offset % 1024) (λ i. small_bytes area (offset / 1024) i for.fresh.size.sectors) in
    word_without_bits (word_in area s) small (λ i h lost.
    for.front s below i h ((for.fresh.marks.each s i on h).0 (rw read lost)))

pub fresh_are_sound : (c : Cartridge) (label : List ℕ) (date : ℕ) (words : List ℕ) (area : List (List ℕ)) → IsCartridge c →
    IsFreshFor c label date words area → AreSound area c.info.segments_per_track
fresh_are_sound c label date words area whole for =
    let n : ℕ = c.info.segments_per_track in
    let signature : number_in area 0 4 ≡ 0xAA55_AA55 = for.fresh.spells.profile 0 any (omega arith) in
    let fields : first_fault area (profile_fields n) ≡ None = first_fault-holds (profile_fields n) area for.fresh.spells.profile in
    let marks : map_fault area ≡ None = map_fault-none area (λ s below. front_words c label date words area s whole for below) in
    record {
      signature = eq-eqb _ _ signature;
      sound = ap (λ (o : Option HeaderFault). option_or o (map_fault area)) fields ∙ marks;
    }
