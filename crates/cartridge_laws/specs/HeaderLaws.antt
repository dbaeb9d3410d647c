-- Laws of the header (this project's profile).
use Rattle.std.specs.Prelude.{◌≡◌, ℕ, List, None, true, ◌<◌, slice_index}
use Rattle.cartridge_spec.specs.Header.{Header, Shows, has_signature, header_fault, SpellsHeader}
use Rattle.qic_base.specs.Cartridge.{IsLength}

-- what the same data show is equal
abbrev pub HeaderIsDetermined : Type 0
HeaderIsDetermined =
    (area : List (List ℕ)) (one other : Header) (words others : List ℕ) →
    Shows area one words → Shows area other others → (one ≡ other) × (words ≡ others)

-- data are taken, by a drive that reports this many segments per track, and show these
pub record AreTaken (area : List (List ℕ)) (n : ℕ) (h : Header) (words : List ℕ) : Type 0 where
  pub signature : has_signature area ≡ true
  pub sound : header_fault area n ≡ None
  pub shown : Shows area h words

-- what spells a header and a map without a bad sector in segments 0 to 2 is taken as them
abbrev pub SpelledIsRead : Type 0
SpelledIsRead =
    (h : Header) (words : List ℕ) (area : List (List ℕ)) → IsLength h.segments_per_track → SpellsHeader h words area →
    ((segment : ℕ) → segment < 3 → slice_index words segment ≡ 0) →
    AreTaken area h.segments_per_track h words
