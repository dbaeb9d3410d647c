-- What a step of a tape makes of a cartridge, and what a stop inside leaves (this project's own).
use Rattle.std.specs.Prelude.{ℕ, ◌+◌, ◌*◌, Bool, true, List, [], ◌∷◌, ◌++◌, take, drop, map, Option, Some, None, ◌≡◌, ◌<◌, ◌≤◌, ◌⊎◌, length}
use Rattle.std.specs.Prelude.{slice_get}
use Rattle.qic_base.specs.declared.tape.SectorView.{SectorView}
use Rattle.qic_base.specs.declared.tape.SectorView.TheVariants.{Blank, Defect, Lost, Holds}
use Rattle.qic_base.specs.Cartridge.{Cartridge, view_at, with_view, new_cartridge, zero_sector}

-- a sector of a segment, by its index, and the 1,024 bytes that it gets
pub record NewSector : Type 0 where
  pub sector : ℕ
  pub bytes : List ℕ

-- A change of the cartridge: some sectors of a segment written; or, with its segment and sector index, another one; or one of
-- the version that it is kept in.
pub data Step : Type 0 where
  WriteSectors : ℕ → List NewSector → Step
  FormatSegment : ℕ → Step
  SetReferenced : Step
  SetProtected : Bool → Step
  Renew : ℕ → Step
  Wear : ℕ → ℕ → Step
  Spoil : ℕ → ℕ → Step
  Upgrade : Step

-- a write is taken by a formatted sector that is no defect
abbrev pub written_view : List ℕ → SectorView → SectorView
written_view bytes Lost = Holds bytes
written_view bytes (Holds old) = Holds bytes
written_view bytes view = view

-- formatting makes zero bytes of all but a defect
abbrev pub formatted_view : SectorView → SectorView
formatted_view Defect = Defect
formatted_view view = Holds zero_sector

-- a worn sector can be read no more
abbrev pub worn_view : SectorView → SectorView
worn_view (Holds old) = Lost
worn_view view = view

-- only a sector that was never formatted becomes a defect
abbrev pub spoiled_view : SectorView → SectorView
spoiled_view Blank = Defect
spoiled_view view = view

-- the write of one sector
abbrev pub write_sector : (segment sector : ℕ) → (bytes : List ℕ) → Step
write_sector segment sector bytes = WriteSectors segment (record { sector = sector; bytes = bytes } ∷ [])

-- the cartridge with one sector written, ..
abbrev pub with_sector : (segment : ℕ) → NewSector → Cartridge → Cartridge
with_sector segment new c = with_view c segment new.sector (written_view new.bytes (view_at c segment new.sector))

-- .. and with several
abbrev pub with_sectors : (segment : ℕ) → List NewSector → Cartridge → Cartridge
with_sectors segment [] c = c
with_sectors segment (new ∷ more) c = with_sectors segment more (with_sector segment new c)

-- .. or with one that can be read no more
abbrev pub with_worn : (segment sector : ℕ) → Cartridge → Cartridge
with_worn segment sector c = with_view c segment sector (worn_view (view_at c segment sector))

-- a change of a cartridge that is there
abbrev pub changed : Step → Cartridge → Cartridge
changed (WriteSectors segment new) c = with_sectors segment new c
changed (FormatSegment segment) c =
    let formatted : List SectorView = map formatted_view (take 32 (drop (32 * segment) c.views)) in
    record c { views = take (32 * segment) c.views ++ formatted ++ drop (32 * (segment + 1)) c.views }
changed SetReferenced c = record c { info = record c.info { referenced = true } }
changed (SetProtected on) c = record c { info = record c.info { protected = on } }
changed (Renew n) c = new_cartridge n
changed (Wear segment sector) c = with_worn segment sector c
changed (Spoil segment sector) c = with_view c segment sector (spoiled_view (view_at c segment sector))
changed Upgrade c = record c { version = 2 }

-- a change of what the drive holds: only a new cartridge makes one where there is none
abbrev pub effect : Step → Option Cartridge → Option Cartridge
effect s (Some c) = Some (changed s c)
effect (Renew n) None = Some (new_cartridge n)
effect s None = None

-- several changes, the first of them first
abbrev pub effects : List Step → Option Cartridge → Option Cartridge
effects [] held = held
effects (s ∷ ss) held = effects ss (effect s held)

-- ---- what a stop leaves: inside a call of a tape, and inside a list of them

-- Sectors of which none is written yet: each is as it was, or can be read no more; ..
abbrev pub AreClosing : (segment : ℕ) → List NewSector → (old now : Cartridge) → Type 0
AreClosing segment [] old now = now ≡ old
AreClosing segment (new ∷ more) old now =
    AreClosing segment more old now ⊎ AreClosing segment more (with_worn segment new.sector old) now

-- .. and when their bytes stand: each can be read no more, or is written.
abbrev pub AreOpening : (segment : ℕ) → List NewSector → (old now : Cartridge) → Type 0
AreOpening segment [] old now = now ≡ old
AreOpening segment (new ∷ more) old now =
    AreOpening segment more (with_worn segment new.sector old) now ⊎ AreOpening segment more (with_sector segment new old) now

-- a sector of a segment whose formatting has begun: as it was, or lost where it was formatted and is no defect
abbrev pub ClosingView : SectorView → SectorView → Type 0
ClosingView (Holds bytes) new = (new ≡ Holds bytes) ⊎ (new ≡ Lost)
ClosingView old new = new ≡ old

-- a sector of a segment whose formatting is about to end: lost, or of zero bytes, or still not formatted
abbrev pub OpeningView : SectorView → SectorView → Type 0
OpeningView Blank new = (new ≡ Blank) ⊎ (new ≡ Lost) ⊎ (new ≡ Holds zero_sector)
OpeningView Defect new = new ≡ Defect
OpeningView old new = (new ≡ Lost) ⊎ (new ≡ Holds zero_sector)

-- each sector of one segment changed so, and nothing else changed
pub record SegmentBecame (Became : SectorView → SectorView → Type 0) (segment : ℕ) (old new : Cartridge) : Type 0 where
  pub info : new.info ≡ old.info
  pub version : new.version ≡ old.version
  pub sectors : length new.views ≡ length old.views
  pub within : (sector : ℕ) → sector < 32 → Became (view_at old segment sector) (view_at new segment sector)
  pub below : (place : ℕ) → place < 32 * segment → slice_get new.views place ≡ slice_get old.views place
  pub above : (place : ℕ) → 32 * (segment + 1) ≤ place → slice_get new.views place ≡ slice_get old.views place

-- What a stop inside a step leaves: of sectors that are written each is as it was, or can be read no more; or each can be
-- read no more, or is written, so that old and new bytes never stand side by side. Of a segment that is formatted each sector
-- is as it was, or lost where it held bytes; or each one but the defects is lost, or holds zero bytes, or was never formatted
-- where it was so before. While a new cartridge is put in there is none. The other steps are done or not.
abbrev pub Halfway : Step → Option Cartridge → Option Cartridge → Type 0
Halfway (WriteSectors segment new) (Some old) (Some left) = AreClosing segment new old left ⊎ AreOpening segment new old left
Halfway (FormatSegment segment) (Some old) (Some new) =
    SegmentBecame ClosingView segment old new ⊎ SegmentBecame OpeningView segment old new
Halfway (Renew n) held left = left ≡ None
Halfway step held left = ⊥

-- What a stop before a list of steps, inside it or after it leaves: a front of them was done, with at most the next
-- one stopped.
abbrev pub Torn : List Step → Option Cartridge → Option Cartridge → Type 0
Torn [] held left = left ≡ held
Torn (s ∷ ss) held left = (left ≡ held) ⊎ Halfway s held left ⊎ Torn ss (effect s held) left
