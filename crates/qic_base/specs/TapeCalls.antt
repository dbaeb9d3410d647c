-- What a call of a tape did, by its answer, and what holds of a tape between calls (this project's profile).
use Rattle.std.specs.Prelude.{◌≡◌, ℕ, ◌≤◌, ◌<◌, ◌&&◌, Bool, true, false, List, [], map, slice_index_or, Option, Some, None, IsSome, IfSome}
use Rattle.std.specs.Prelude.{IsSomeAnd, Result, Ok, Err}
use Rattle.qic_base.specs.declared.tape.SectorView.{SectorView}
use Rattle.qic_base.specs.declared.tape.SectorView.TheVariants.{Blank, Defect, Lost, Holds}
use Rattle.qic_base.specs.declared.tape.SectorRead.{SectorRead}
use Rattle.qic_base.specs.declared.tape.SectorRead.TheVariants as read
use Rattle.qic_base.specs.declared.tape.SectorWrite.{SectorWrite}
use Rattle.qic_base.specs.declared.tape.SectorWrite.TheVariants as write
use Rattle.qic_base.specs.Cartridge.{Cartridge, IsPlace, lost_places}
use Rattle.qic_base.specs.Step.{Step, NewSector}
use Rattle.qic_base.specs.Tape.{Meaning, Done, Broke}
use Rattle.qic_base.specs.CartridgeTerms.{IsCartridge, is_lost}

-- What a call with these steps did, by its answer.
abbrev pub Does : {S T E : Type 0} (m : Meaning S) (old new : S) (steps : List Step) (result : Result T E) → Type 0
Does m old new steps (Ok x) = Done m old new steps
Does m old new steps (Err e) = Broke m old new steps

-- a fact of the cartridge, where the tape tells that it is there
abbrev pub Tells : {S : Type 0} (m : Meaning S) (s : S) (P : Cartridge → Type 0) → Type 0
Tells m s P = IfSome (m.told s) (λ held. IfSome held P)

-- the place lies on the cartridge, by the size that the tape told
abbrev pub IsPlaceOf : {S : Type 0} (m : Meaning S) (s : S) (segment sector : ℕ) → Type 0
IsPlaceOf m s segment sector = IsSomeAnd (m.size s) (λ n. IsPlace n segment sector)

-- A read of a sector with this view: its bytes exactly where it holds some, and else the bytes that were there.
abbrev pub Reads : SectorView → (old new : List ℕ) → SectorRead → Type 0
Reads Blank old new answer = (answer ≡ read.Blank) × (new ≡ old)
Reads Defect old new answer = (answer ≡ read.Lost) × (new ≡ old)
Reads Lost old new answer = (answer ≡ read.Lost) × (new ≡ old)
Reads (Holds bytes) old new answer = (answer ≡ read.Good) × (new ≡ bytes)

-- A write is taken by each sector that was formatted or is a defect.
abbrev pub write_answer : SectorView → SectorWrite
write_answer Blank = write.Blank
write_answer Defect = write.Taken
write_answer Lost = write.Taken
write_answer (Holds bytes) = write.Taken

-- ---- several sectors of a segment, by words with bit i for sector i, and by lists with an entry for each of the 32

abbrev pub is_readable : SectorView → Bool
is_readable (Holds bytes) = true
is_readable view = false

abbrev pub is_blank : SectorView → Bool
is_blank Blank = true
is_blank view = false

-- a wanted sector's entry gets its bytes where it holds some
abbrev pub bytes_read : (is_wanted : Bool) → SectorView → List ℕ → List ℕ
bytes_read true (Holds bytes) old = bytes
bytes_read is_wanted view old = old

-- A read of the wanted sectors: which of them are good and which were never formatted, and the entries of all 32. The other
-- wanted ones are lost, or defects.
pub record ReadsSectors (wanted good blank : ℕ) (view : ℕ → SectorView) (old new : List (List ℕ)) : Type 0 where
  pub good_are : (i : ℕ) → i < 32 → is_lost good i ≡ (is_lost wanted i && is_readable (view i))
  pub blank_are : (i : ℕ) → i < 32 → is_lost blank i ≡ (is_lost wanted i && is_blank (view i))
  pub bytes : (i : ℕ) → i < 32 → slice_index_or new i [] ≡ bytes_read (is_lost wanted i) (view i) (slice_index_or old i [])

-- an entry stays whose sector isn't good
abbrev pub KeepsOthers : (good : ℕ) → (old new : List (List ℕ)) → Type 0
KeepsOthers good old new = (i : ℕ) → i < 32 → is_lost good i ≡ false → slice_index_or new i [] ≡ slice_index_or old i []

-- the sectors that are written, each with its entry
abbrev pub chosen : (written : ℕ) → (sectors : List (List ℕ)) → List NewSector
chosen written sectors = map (λ i. record { sector = i; bytes = slice_index_or sectors i [] }) (lost_places written 32)

-- a write of several is taken by those that were formatted or are defects; the word has the others
abbrev pub AreBlank : (written blank : ℕ) → (view : ℕ → SectorView) → Type 0
AreBlank written blank view = (i : ℕ) → i < 32 → is_lost blank i ≡ (is_lost written i && is_blank (view i))

-- A told cartridge is whole, and where the size is a number it is there with that number.
abbrev pub IsToldRight : Option (Option Cartridge) → Option ℕ → Type 0
IsToldRight None size = Unit {0}
IsToldRight (Some None) size = size ≡ None
IsToldRight (Some (Some c)) size = IsCartridge c × IfSome size (λ n. c.info.segments_per_track ≡ n)

-- A tape that tells its stops tells its cartridge; a stop now leaves just that, and a stop since an earlier moment might
-- have left it too, and all that one since a later moment might have left.
pub record IsLeftNow {S : Type 0} (m : Meaning S) (s : S) : Type 0 where
  pub telling : m.tells_stops s ≡ true → IsSome (m.told s)
  pub counts : (t : ℕ) (left : Option Cartridge) → m.tells_stops s ≡ true → t ≤ m.moment s → m.told s ≡ Some left → m.left_since s t left
  pub only : (left : Option Cartridge) → m.tells_stops s ≡ true → m.left_since s (m.moment s) left → m.told s ≡ Some left
  pub earlier : (t u : ℕ) (left : Option Cartridge) → t ≤ u → u ≤ m.moment s → m.left_since s u left → m.left_since s t left
