-- What formatting writes into a cartridge's header exists, and is determined, as facts.
use Rattle.std.specs.Prelude.{ℕ, ◌⊎◌, ◌≡◌, List, ◌^◌, ◌<◌, All}
use Rattle.cartridge_spec.specs.Formatting.{IsFirstDefectInFront, HasNoDefectInFront, MarksDefects, IsFreshWith, IsLabel}
use Rattle.cartridge_spec.specs.Header.{Header, SpellsHeader, Shows}
use Rattle.cartridge_spec.specs.Shape.{IsArea}
use Rattle.qic_base.specs.Cartridge.{Cartridge}
use Rattle.qic_base.specs.CartridgeTerms.{IsCartridge}

-- ---- defects in front

-- some segment is the first of those in front that has a defect
pub record HasDefectInFront (c : Cartridge) : Type 0 where
  pub segment : ℕ
  pub is_first : IsFirstDefectInFront c segment

abbrev pub FirstDefectOrNone : Type 0
FirstDefectOrNone = (c : Cartridge) → HasDefectInFront c ⊎ HasNoDefectInFront c

-- and not both
abbrev pub FirstDefectIsNone : Type 0
FirstDefectIsNone = (c : Cartridge) → HasDefectInFront c → HasNoDefectInFront c → ⊥

abbrev pub FirstDefectIsOne : Type 0
FirstDefectIsOne =
    (c : Cartridge) (one other : ℕ) → IsFirstDefectInFront c one → IsFirstDefectInFront c other → one ≡ other

-- ---- at most one

-- areas that spell the same header and the same map are equal
abbrev pub SpelledIsOne : Type 0
SpelledIsOne =
    (h : Header) (words : List ℕ) (one other : List (List ℕ)) → IsArea one → IsArea other →
    SpellsHeader h words one → SpellsHeader h words other → one ≡ other

-- the words of a map have 32 bits
abbrev pub AreWords : List ℕ → Type 0
AreWords words = All (λ word. word < 2 ^ 32) words

abbrev pub ShownAreWords : Type 0
ShownAreWords = (h : Header) (words : List ℕ) (area : List (List ℕ)) → IsArea area → Shows area h words → AreWords words

-- words that mark the same cartridge's defects are equal
abbrev pub MarksAreOne : Type 0
MarksAreOne =
    (c : Cartridge) (one other : List ℕ) → AreWords one → AreWords other → MarksDefects c one → MarksDefects c other →
    one ≡ other

abbrev pub FreshAreaIsOne : Type 0
FreshAreaIsOne =
    (c : Cartridge) (label : List ℕ) (date : ℕ) (words others : List ℕ) (area other : List (List ℕ)) →
    IsFreshWith c label date words area → IsFreshWith c label date others other → (words ≡ others) × (area ≡ other)

-- ---- and one

pub record HasFreshArea (c : Cartridge) (label : List ℕ) (date : ℕ) : Type 0 where
  pub words : List ℕ
  pub area : List (List ℕ)
  pub is_fresh : IsFreshWith c label date words area

abbrev pub FreshAreaExists : Type 0
FreshAreaExists =
    (c : Cartridge) (label : List ℕ) (date : ℕ) → IsCartridge c → IsLabel label → date < 2 ^ 32 → HasFreshArea c label date
