-- The plain machine of `scrub` in its two forms: the segments that it looks at, what it finds, writes and prints of each, and its
-- counts (this project's own).
use Rattle.std.specs.Prelude.{ℕ, List, [], ◌∷◌, ◌+◌, ◌++◌, Bool, true, false, nat_lt, if◌then◌else◌, codes, decimal, length, ◌≡◌, map}
use Rattle.std.specs.Prelude.{flat_map, ◌≢◌, ◌<◌, ◌≤◌, slice_index, Option, Some, None, IsSomeAnd, ◌⊎◌}
use Rattle.cartridge_spec.specs.Header.{Header, has_signature}
use Rattle.cartridge_spec.specs.Mounting.{settled}
use Rattle.cartridge_spec.specs.Says.{whole_mask, cells_of, Saying, Data, LostSectors, Mismatch, with_parity, Says, unreadable_count}
use Rattle.cartridge_spec.specs.Settling.{changed_by}
use Rattle.cartridge_spec.specs.Shape.{mask_at, is_unreadable, usable_places, usable_count}
use Rattle.cartridge_spec.specs.Table.{Entry}
use Rattle.cartridge_spec.specs.Volumes.{carrying_segments, worn}
use Rattle.command_spec.specs.Outcome.{settling_act, CommandOutcome, WritableOutcome}
use Rattle.qic_base.specs.Acts.{Act, steps_of}
use Rattle.qic_base.specs.Cartridge.{Cartridge, view_at}
use Rattle.qic_base.specs.Step.{Step, write_sector}
use Rattle.qic_base.specs.declared.tape.SectorView.{SectorView}
use Rattle.command_spec.specs.declared.depth.Depth.{Depth}
use Rattle.command_spec.specs.declared.depth.Depth.TheVariants.{Shallow, Deep}
use Rattle.command_spec.specs.Command.{Command, plain_command, IsUnprotected, CanBeMounted, none_of_them, Part, Word}
use Rattle.command_spec.specs.declared.status.Status.TheVariants as status

-- ---- the segments that are looked at

-- a segment, and the mask of its usable sectors
pub record Looked : Type 0 where
  pub segment : ℕ
  pub mask : ℕ

-- the header copies and the volume table have no bad sector
abbrev pub whole_segment : ℕ → Looked
whole_segment segment = record { segment = segment; mask = whole_mask }

-- the carrying segments of some volumes, with their words of the map
abbrev pub looked_volumes : (words : List ℕ) → List Entry → List Looked
looked_volumes words entries =
    flat_map (λ e. map (λ s. record { segment = s; mask = mask_at words s }) (carrying_segments words e)) entries

-- both header copies, the table's segment, and the carrying segments of all volumes, in this order
abbrev pub looked_at : (words : List ℕ) → List Entry → List Looked
looked_at words entries = whole_segment 0 ∷ whole_segment 1 ∷ whole_segment 2 ∷ looked_volumes words entries

-- the views of its usable sectors
abbrev pub cells_at : Cartridge → Looked → List SectorView
cells_at c looked = cells_of c looked.segment looked.mask

-- ---- one segment

-- it reads where it says data; a header copy does so only where they begin with a header's signature
abbrev pub reads : Looked → Saying → Bool
reads looked (Data sectors) = if nat_lt looked.segment 2 then has_signature sectors else true
reads looked other = false

-- Of these sector indexes of a segment, a write for each that is unreadable, of its sector of a list, in order. A defect
-- and a sector that was never formatted have their write as well, and take nothing.
abbrev pub mending_writes : Cartridge → (segment : ℕ) → (places : List ℕ) → (sectors : List (List ℕ)) → List Step
mending_writes c segment (place ∷ places) (bytes ∷ sectors) =
    if is_unreadable (view_at c segment place) then write_sector segment place bytes ∷ mending_writes c segment places sectors
    else mending_writes c segment places sectors
mending_writes c segment places sectors = []

-- the writes in a segment that says this: its unreadable usable sectors, ascending, with their sectors of its block, and
-- none in one that does not read
abbrev pub steps_in : Cartridge → Looked → Saying → List Step
steps_in c looked (Data sectors) =
    if reads looked (Data sectors) then mending_writes c looked.segment (usable_places looked.mask) (with_parity sectors) else []
steps_in c looked other = []

-- the line of a segment other than a header copy that does not read
abbrev pub fault_line : (segment : ℕ) → Saying → List ℕ
fault_line segment (Data sectors) = []
fault_line segment (LostSectors n) = codes "lost " ++ decimal segment ++ codes " " ++ decimal n ++ codes "\n"
fault_line segment Mismatch = codes "mismatch " ++ decimal segment ++ codes "\n"

-- what is printed of a segment that says this: nothing of one that reads
abbrev pub line_in : Looked → Saying → List ℕ
line_in looked saying =
    if reads looked saying then []
    else if nat_lt looked.segment 2 then codes "header " ++ decimal looked.segment ++ codes " unreadable\n"
    else fault_line looked.segment saying

-- ---- what is found of one: `scrub deep` also mends a sector that can be read and holds wrong bytes (QIC-80-MC: two code blocks
-- differ in at least four sectors)

-- where a wrong sector is looked for: in no segment, or in each but the table's
abbrev pub IsSearched : Depth → Looked → Type 0
IsSearched Shallow looked = ⊥
IsSearched Deep looked = looked.segment ≢ 2

-- what is found of a segment: what it says, and the index of the wrong sector, which then counts as lost
pub record Finding : Type 0 where
  pub saying : Saying
  pub wrong : Option ℕ

-- the cartridge with that sector lost
abbrev pub without : (wrong : Option ℕ) → Looked → Cartridge → Cartridge
without None looked c = c
without (Some sector) looked c = worn looked.segment sector c

-- A usable sector is wrong: no code block agrees with those that can be read, and at most one can't; with this one lost as well
-- the segment says these data, and reads. Its place is that among the usable sectors, its index that in the segment.
pub record IsWrong (c : Cartridge) (looked : Looked) (sector : ℕ) (sectors : List (List ℕ)) : Type 0 where
  pub place : ℕ
  pub within : place < usable_count looked.mask
  pub index : slice_index (usable_places looked.mask) place ≡ sector
  pub mismatch : Says (cells_at c looked) Mismatch
  pub few : unreadable_count (cells_at c looked) ≤ 1
  pub says : Says (cells_at (worn looked.segment sector c) looked) (Data sectors)
  pub can_be_read : reads looked (Data sectors) ≡ true

-- what a segment says, where no sector is found to be wrong; else what it says with the wrong one lost; if it is searched
abbrev pub HasFoundBy : (searched : Type 0) → Cartridge → Looked → Saying → (wrong : Option ℕ) → Type 0
HasFoundBy searched c looked saying None =
    Says (cells_at c looked) saying × (searched → (sector : ℕ) (sectors : List (List ℕ)) → IsWrong c looked sector sectors → ⊥)
HasFoundBy searched c looked saying (Some sector) =
    searched × (sectors : List (List ℕ)) × (saying ≡ Data sectors) × IsWrong c looked sector sectors

abbrev pub HasFound : Depth → Cartridge → Looked → Saying → (wrong : Option ℕ) → Type 0
HasFound depth c looked saying wrong = HasFoundBy (IsSearched depth looked) c looked saying wrong

-- the writes: those of a scrub, where the wrong sector counts as lost
abbrev pub steps_for : Cartridge → Looked → Finding → List Step
steps_for c looked finding = steps_in (without finding.wrong looked c) looked finding.saying

-- the line of a wrong sector, with its index in the segment
abbrev pub wrong_line : (segment : ℕ) → (wrong : Option ℕ) → List ℕ
wrong_line segment None = []
wrong_line segment (Some sector) = codes "wrong " ++ decimal segment ++ codes " " ++ decimal sector ++ codes "\n"

-- a segment with a wrong sector reads, so one line at most is printed
abbrev pub line_for : Looked → Finding → List ℕ
line_for looked finding = wrong_line looked.segment finding.wrong ++ line_in looked finding.saying

-- ---- all of them, one after the other

-- this is found of each of these segments, on the cartridge as it stands when it is looked at
abbrev pub FindInTurn : Depth → Cartridge → List Looked → List Finding → Type 0
FindInTurn depth c [] [] = Unit {0}
FindInTurn depth c (l ∷ ls) (f ∷ fs) = HasFound depth c l f.saying f.wrong × FindInTurn depth (changed_by (steps_for c l f) c) ls fs
FindInTurn depth c ls fs = ⊥

-- the acts: in each segment its writes, then its line
abbrev pub finding_acts : Cartridge → List Looked → List Finding → List Act
finding_acts c (l ∷ ls) (f ∷ fs) =
    record { steps = steps_for c l f; text = line_for l f } ∷ finding_acts (changed_by (steps_for c l f) c) ls fs
finding_acts c ls fs = []

abbrev pub sayings_of : List Finding → List Saying
sayings_of findings = map (λ finding. finding.saying) findings

-- ---- the counts

-- as many of them do not read
abbrev pub unread_count : List Looked → List Saying → ℕ
unread_count (l ∷ ls) (s ∷ ss) = (if reads l s then 0 else 1) + unread_count ls ss
unread_count ls ss = 0

-- what is counted: segments that were looked at, sectors in them for which a write was sent behind the settling of the table (whether
-- they took it or not), and segments that do not read
pub record Counts : Type 0 where
  pub segments : ℕ
  pub mended : ℕ
  pub unreadable : ℕ

abbrev pub counted : List Looked → List Act → List Saying → Counts
counted looked acts sayings =
    record { segments = length looked; mended = length (steps_of acts); unreadable = unread_count looked sayings }

abbrev pub counts_line : Counts → List ℕ
counts_line counts =
    codes "scrub " ++ decimal counts.segments ++ codes " " ++ decimal counts.mended ++ codes " " ++ decimal counts.unreadable
    ++ codes "\n"

-- the acts in these segments, and the last one: no step, and the line of the counts
abbrev pub with_counts : List Looked → List Act → List Saying → List Act
with_counts looked acts sayings = acts ++ record { steps = []; text = counts_line (counted looked acts sayings) } ∷ []

-- ---- what a scrub does and prints

-- The acts of scrubbing a cartridge with this map and these volumes in this form. A wrong sector is counted as one of those for which
-- a write was sent.
pub record ScrubsAs (depth : Depth) (c : Cartridge) (words : List ℕ) (entries : List Entry) (acts : List Act) : Type 0 where
  pub findings : List Finding
  pub found : FindInTurn depth c (looked_at words entries) findings
  pub are : acts ≡ with_counts (looked_at words entries) (finding_acts c (looked_at words entries) findings) (sayings_of findings)

-- the lines of these segments, one after the other, where this is found of them
abbrev pub lines_for : List Looked → List Finding → List ℕ
lines_for (l ∷ ls) (f ∷ fs) = line_for l f ++ lines_for ls fs
lines_for ls fs = []

-- what may be found of a segment in a form, whatever the tape holds: a wrong sector where one is looked for and the segment reads
abbrev pub MayFind : Depth → Looked → Saying → (wrong : Option ℕ) → Type 0
MayFind depth looked saying None = Unit {0}
MayFind depth looked saying (Some sector) = IsSearched depth looked × (reads looked saying ≡ true) × (sector < 32)

abbrev pub MayBeFound : Depth → List Looked → List Finding → Type 0
MayBeFound depth [] [] = Unit {0}
MayBeFound depth (l ∷ ls) (f ∷ fs) = MayFind depth l f.saying f.wrong × MayBeFound depth ls fs
MayBeFound depth ls fs = ⊥

-- The text of a scrubbing in this form with these counts, whatever the tape holds: at most one line for each segment, and the
-- counts.
pub record IsTextFor (depth : Depth) (looked : List Looked) (counts : Counts) (text : List ℕ) : Type 0 where
  pub findings : List Finding
  pub may : MayBeFound depth looked findings
  pub lines : text ≡ lines_for looked findings ++ counts_line counts
  pub segments : counts.segments ≡ length looked
  pub unreadable : counts.unreadable ≡ unread_count looked (sayings_of findings)

-- ---- the commands

-- once it is open the settled cartridge is scrubbed in this form
pub record ScrubsBy (depth : Depth) (c : Cartridge) (header : Header) (words : List ℕ) (table : List (List ℕ)) (entries : List Entry)
    (outcome : CommandOutcome) : Type 0 where
  pub acts : List Act
  pub scrubs : ScrubsAs depth (settled table c) words entries acts
  pub is : outcome ≡ record { acts = settling_act table c ∷ acts; taken = 0; status = status.Done }

-- a command with these words that scrubs in this form, and keeps all that stands
abbrev pub scrubbing_command : Depth → List Part → Command
scrubbing_command depth form =
    record (plain_command (form ∷ []) (λ held input outcome. WritableOutcome (ScrubsBy depth) held outcome)
    (λ text. (words : List ℕ) × ((entries : List Entry) × ((counts : Counts) × IsTextFor depth (looked_at words entries) counts text)))) {
      traits = record none_of_them { goes = true; memory = true; cartridge = true; writable = true; mounts = true };
      needs = λ held input. IsSomeAnd held (λ c. IsUnprotected c × CanBeMounted c);
    }

abbrev pub scrub_command : Command
scrub_command = scrubbing_command Shallow (Word (codes "scrub") ∷ [])

-- It keeps the list of a protected cartridge, and where no sector of the first header copy is wrong. Two header copies may hold
-- different headers: where the first doesn't read for a wrong sector, the second is in force, and once that sector is mended the
-- first is. On a cartridge that stands for a plain one no sector of the first is wrong.
abbrev pub deep_scrub_command : Command
deep_scrub_command = record (scrubbing_command Deep (Word (codes "scrub") ∷ Word (codes "deep") ∷ [])) {
  keeps_list = λ c. (c.info.protected ≡ true) ⊎ ((sector : ℕ) (sectors : List (List ℕ)) → ¬ (IsWrong c (whole_segment 0) sector sectors));
}
