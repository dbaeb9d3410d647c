-- The plain machine of `make`: the volumes that it appends, the steps of a generated run, what each does, what a run may
-- print, how many were appended by its answer, and the command (this project's own).
use Rattle.std.specs.Prelude.{flat_map, fold, ℕ, ◌+◌, ◌*◌, ◌%◌, List, map, ◌++◌, codes, decimal, [], ◌∷◌, take, ◌==◌, if◌then◌else◌, length}
use Rattle.std.specs.Prelude.{drop, Some, ◌≡◌, true, slice_get, IsSomeAnd, ◌^◌, sum, ◌⊎◌, false, ◌≢◌, ◌<◌, ◌≤◌, All, nat_lt, ◌&&◌}
use Rattle.std.specs.List.{list_any, range_with_len}
use Rattle.cartridge_spec.specs.Appending.{room, entry_behind, Content, with_all}
use Rattle.cartridge_spec.specs.Header.{Header}
use Rattle.cartridge_spec.specs.TableSegment.{TableIs, table_cells}
use Rattle.cartridge_spec.specs.Mounting.{settled}
use Rattle.cartridge_spec.specs.Says.{LostSectors, ByCode, TableSays}
use Rattle.cartridge_spec.specs.Settling.{changed_by}
use Rattle.cartridge_spec.specs.Shape.{mask_at, usable_places}
use Rattle.cartridge_spec.specs.Table.{Entry}
use Rattle.cartridge_spec.specs.Volumes.{carrying_segments, volume_length, Plain, entries_of}
use Rattle.command_spec.specs.Append.{append_acts, has_promised_room, kept_over}
use Rattle.command_spec.specs.Numbers.{AreTooMany}
use Rattle.command_spec.specs.Outcome.{settling_act, CommandOutcome, WritableOutcome}
use Rattle.command_spec.specs.Restore.{GivingEnd, Restored, RestoresVolume, pieces, volume_at, LosesFew, ending_status}
use Rattle.command_spec.specs.Scrub.{Counts, looked_at, ScrubsAs, IsTextFor}
use Rattle.command_spec.specs.declared.status.Status.{Status}
use Rattle.qic_base.specs.Acts.{Act, text_of, steps_of}
use Rattle.qic_base.specs.Cartridge.{Cartridge}
use Rattle.qic_base.specs.Field.{filled}
use Rattle.qic_base.specs.Step.{Wear}
use Rattle.command_spec.specs.Command.{Command, plain_command, IsUnprotected, ReadsAs, none_of_them, Word, AnyNumber, Number}
use Rattle.command_spec.specs.declared.depth.Depth.TheVariants.{Shallow}
use Rattle.command_spec.specs.declared.status.Status.TheVariants as status

-- ---- what is made

-- a made volume's number of bytes
abbrev pub made_length : (seed volume : ℕ) → ℕ
made_length seed volume = 1000 * (1 + (seed * 37 + volume * 101) % 20000)

unfoldable pub made_bytes : (seed volume : ℕ) → List ℕ
made_bytes seed volume = map (λ place. (place + 31 * volume + seed) % 251) (range_with_len 0 (made_length seed volume))

-- A step of a run: the made volume with this number is appended; a sector is worn; all is scrubbed; the volume with this
-- number in the list is restored, and summed.
pub data MakeStep : Type 0 where
  AppendMade : (volume : ℕ) → MakeStep
  WearSector : (segment sector : ℕ) → MakeStep
  ScrubAll : MakeStep
  SumVolume : (number : ℕ) → MakeStep

-- ---- the volumes

-- the name of a made volume
abbrev pub made_name : (volume : ℕ) → List ℕ
made_name volume = filled (codes "made-" ++ decimal volume)

-- the volumes behind a step that was carried out: a made one has the date word 0
abbrev pub after_item : (seed : ℕ) → (words : List ℕ) → List Entry → MakeStep → List Entry
after_item seed words entries (AppendMade volume) =
    entries ++ entry_behind words entries (made_name volume) 0 (made_bytes seed volume) ∷ []
after_item seed words entries other = entries

-- ---- the steps

-- so many made volumes are appended, from this one on
abbrev pub appending : (volume count : ℕ) → List MakeStep
appending volume count = map AppendMade (range_with_len volume count)

-- the first two usable sectors are worn in each of these segments whose number is a multiple of 100
abbrev pub wearing_in : (words segments : List ℕ) → List MakeStep
wearing_in words segments =
    flat_map (λ s. if s % 100 == 0 then map (WearSector s) (take 2 (usable_places (mask_at words s))) else []) segments

-- .. and so in the carrying segments of these volumes
abbrev pub wearing_volumes : (words : List ℕ) → List Entry → List MakeStep
wearing_volumes words entries = flat_map (λ e. wearing_in words (carrying_segments words e)) entries

-- so many volumes are restored and summed, from this number on
abbrev pub summing : (number count : ℕ) → List MakeStep
summing number count = map SumVolume (range_with_len number count)

-- the list behind so many made volumes
abbrev pub made_list : (seed count : ℕ) → (words : List ℕ) → List Entry → List Entry
made_list seed count words entries = fold (after_item seed words) entries (appending 1 count)

-- all steps of a run
abbrev pub making : (seed count : ℕ) → (words : List ℕ) → List Entry → List MakeStep
making seed count words entries =
    appending 1 count
    ++ (wearing_volumes words (drop (length entries) (made_list seed count words entries)) ++ ScrubAll ∷ summing (length entries + 1) count)

-- ---- an append

-- it is full where fewer bytes have room than are promised
abbrev pub made_answer : (seed : ℕ) → (words : List ℕ) → List Entry → (volume : ℕ) → Status
made_answer seed words entries volume =
    if has_promised_room (room words entries) (Some (made_length seed volume)) then status.Done
    else status.Full (made_length seed volume) (room words entries)

-- The volume table reads, and is settled; and the volume's bytes are appended, as many as are promised, without a reply,
-- or it has no room.
pub record IsAppended (seed : ℕ) (c : Cartridge) (words : List ℕ) (entries : List Entry) (volume : ℕ) (acts : List Act)
    (answer : Status) : Type 0 where
  pub table : List (List ℕ)
  pub reads : TableIs c table
  pub does : acts ≡ append_acts (kept_over c words entries table) (made_name volume) 0 (Some (made_length seed volume))
      (λ entry. []) (made_bytes seed volume)
  pub answered : answer ≡ made_answer seed words entries volume

-- it has lost more than three sectors
abbrev pub IsTableLost : Cartridge → List Act → Status → Type 0
IsTableLost c acts answer =
    (lost : ℕ) × TableSays (table_cells c) (ByCode (LostSectors lost)) × (acts ≡ []) × (answer ≡ status.Lost 2 lost)

-- a cartridge that is protected takes no write
abbrev pub IsRefused : Cartridge → List Act → Status → Type 0
IsRefused c acts answer = (c.info.protected ≡ true) × (acts ≡ []) × (answer ≡ status.Protected)

-- ---- a volume's sum

-- a volume's number, how many bytes it has, and their sum
unfoldable pub sum_line : (number bytes total : ℕ) → List ℕ
sum_line number bytes total =
    codes "volume " ++ decimal number ++ codes " " ++ decimal bytes ++ codes " " ++ decimal total ++ codes "\n"

-- the line of a volume of which these are the bytes, once all of them were read; nothing of them is printed
abbrev pub sum_acts : (number bytes : ℕ) → (given : List ℕ) → GivingEnd → List Act
sum_acts number bytes given Restored = record { steps = []; text = sum_line number bytes (sum given % 2 ^ 32) } ∷ []
sum_acts number bytes given refused = []

-- ---- one step, and a run

-- what a step does on a cartridge with this map and these volumes, and how it is answered
abbrev pub StepDoes : (seed : ℕ) → Cartridge → (words : List ℕ) → List Entry → MakeStep → List Act → Status → Type 0
StepDoes seed c words entries (AppendMade volume) acts answer =
    IsRefused c acts answer
    ⊎ ((c.info.protected ≡ false) × (IsAppended seed c words entries volume acts answer ⊎ IsTableLost c acts answer))
StepDoes seed c words entries (WearSector segment sector) acts answer =
    (acts ≡ record { steps = Wear segment sector ∷ []; text = [] } ∷ []) × (answer ≡ status.Done)
StepDoes seed c words entries ScrubAll acts answer =
    IsRefused c acts answer ⊎ ((c.info.protected ≡ false) × (ScrubsAs Shallow c words entries acts × (answer ≡ status.Done)))
StepDoes seed c words entries (SumVolume number) acts answer =
    RestoresVolume c words entries number
    (λ entry given ending. (acts ≡ sum_acts number (volume_length words entry) (text_of given) ending) × (answer ≡ ending_status ending))

-- Steps, one after the other, each on the cartridge that the ones before it leave. The first refusal ends them, and is the
-- answer.
abbrev pub Runs : (seed : ℕ) → Cartridge → (words : List ℕ) → List Entry → List MakeStep → List Act → Status → Type 0
Runs seed c words entries [] acts answer = (acts ≡ []) × (answer ≡ status.Done)
Runs seed c words entries (item ∷ items) acts answer =
    ((answer ≢ status.Done) × StepDoes seed c words entries item acts answer)
    ⊎ ((first : List Act) × (rest : List Act) × (first ++ rest ≡ acts) × StepDoes seed c words entries item first status.Done
    × Runs seed (changed_by (steps_of first) c) words (after_item seed words entries item) items rest answer)

-- a volume's line has its number and its length; a segment that ends a restore is one of the volume's
abbrev pub MaySum : (words : List ℕ) → (number : ℕ) → Entry → (text : List ℕ) → Status → Type 0
MaySum words number e text status.Done = (total : ℕ) × (total < 2 ^ 32) × (text ≡ sum_line number (volume_length words e) total)
MaySum words number e text (status.Lost segment lost) =
    (text ≡ []) × ((read : ℕ) × (AreTooMany lost × IsSomeAnd (slice_get (pieces words e) read) (λ piece. piece.segment ≡ segment)))
MaySum words number e text (status.Mismatch segment) =
    (text ≡ []) × ((read : ℕ) × IsSomeAnd (slice_get (pieces words e) read) (λ piece. piece.segment ≡ segment))
MaySum words number e text answer = ⊥

-- A step may print this and be answered so, over any cartridge. An append is carried out, or full, by the map and the
-- volumes; else the cartridge is protected, or its table was refused: as one that no code block agrees with only where the
-- cartridge is not told.
abbrev pub MayDo : (seed : ℕ) → (words : List ℕ) → List Entry → MakeStep → (text : List ℕ) → Status → Type 0
MayDo seed words entries (AppendMade volume) text status.Protected = text ≡ []
MayDo seed words entries (AppendMade volume) text status.TableMismatch = text ≡ []
MayDo seed words entries (AppendMade volume) text (status.Lost segment lost) = (text ≡ []) × ((segment ≡ 2) × AreTooMany lost)
MayDo seed words entries (AppendMade volume) text answer = (text ≡ []) × (made_answer seed words entries volume ≡ answer)
MayDo seed words entries (WearSector segment sector) text answer = (text ≡ []) × (answer ≡ status.Done)
MayDo seed words entries ScrubAll text status.Done = (counts : Counts) × IsTextFor Shallow (looked_at words entries) counts text
MayDo seed words entries ScrubAll text status.Protected = text ≡ []
MayDo seed words entries ScrubAll text answer = ⊥
MayDo seed words entries (SumVolume number) text answer =
    (e : Entry) × (volume_at entries number ≡ Some e) × MaySum words number e text answer

-- steps, one after the other
abbrev pub MayRun : (seed : ℕ) → (words : List ℕ) → List Entry → List MakeStep → (text : List ℕ) → Status → Type 0
MayRun seed words entries [] text answer = (text ≡ []) × (answer ≡ status.Done)
MayRun seed words entries (item ∷ items) text answer =
    ((answer ≢ status.Done) × MayDo seed words entries item text answer)
    ⊎ ((first : List ℕ) × (rest : List ℕ) × (first ++ rest ≡ text) × MayDo seed words entries item first status.Done
    × MayRun seed words (after_item seed words entries item) items rest answer)

-- the table is settled, and the steps of a run are carried out on the settled cartridge
pub record Making (seed count : ℕ) (c : Cartridge) (header : Header) (words : List ℕ) (table : List (List ℕ)) (entries : List Entry)
    (outcome : CommandOutcome) : Type 0 where
  pub acts : List Act
  pub answer : Status
  pub makes : Runs seed (settled table c) words entries (making seed count words entries) acts answer
  pub is : outcome ≡ record { acts = settling_act table c ∷ acts; taken = 0; status = answer }

-- so many made volumes, from this one on
abbrev pub made_contents : (seed volume count : ℕ) → List Content
made_contents seed volume count =
    map (λ v. record { name = made_name v; date = 0; bytes = made_bytes seed v }) (range_with_len volume count)

-- the plain cartridge with the first ones of these
abbrev pub with_made : Plain → (seed n : ℕ) → Plain
with_made plain seed n = with_all plain (made_contents seed 1 n)

-- ---- how many were appended

-- So many of the volumes were appended by a run that is answered so: all of them where it was carried out, or one of
-- them was not given back; those in front of the one that has no room; or some, where the volume table does not read.
abbrev pub AppendedBy : (seed count : ℕ) → (words : List ℕ) → List Entry → Status → (n : ℕ) → Type 0
AppendedBy seed count words entries status.Done n = n ≡ count
AppendedBy seed count words entries (status.Full need have) n =
    (n < count) × (made_answer seed words (made_list seed n words entries) (1 + n) ≡ status.Full need have)
AppendedBy seed count words entries (status.Lost segment lost) n = (n ≤ count) × (segment ≢ 2 → n ≡ count)
AppendedBy seed count words entries (status.Mismatch segment) n = n ≡ count
AppendedBy seed count words entries other n = n ≤ count

-- ---- a run that is carried out

-- behind the appends, the worn sectors and the scrub no segment that holds some of a made volume has more than three
-- unreadable sectors
abbrev pub LoseFewBehind : (seed count : ℕ) → Cartridge → Plain → Type 0
LoseFewBehind seed count c plain =
    let entries : List Entry = entries_of plain in
    let made : List Entry = made_list seed count plain.words entries in
    (acts : List Act) (number : ℕ) (e : Entry) → Runs seed c plain.words entries
    (appending 1 count ++ (wearing_volumes plain.words (drop (length entries) made) ++ ScrubAll ∷ [])) acts status.Done →
    length entries < number → volume_at made number ≡ Some e →
    All (LosesFew (changed_by (steps_of acts) c) plain.words) (pieces plain.words e)

-- ---- the command

-- each of its volumes has room when its turn comes, and they lose few sectors of a segment once they were appended, worn and scrubbed
pub record CanMake (c : Cartridge) (seed count : ℕ) : Type 0 where
  pub plain : Plain
  pub mounts : ReadsAs c plain
  pub room : (n : ℕ) → n < count → made_answer seed plain.words (made_list seed n plain.words (entries_of plain)) (1 + n) ≡ status.Done
  pub few : LoseFewBehind seed count (settled plain.table_area c) plain

-- Where it is refused, the lines before the step that was refused are printed; where it is cut off, they may be any. `Full` is
-- answered of the length of one of its volumes, which is more than the room that there is. Volumes are added, but to a protected
-- cartridge.
abbrev pub make_command : (seed count : ℕ) → Command
make_command seed count =
    record (plain_command ((Word (codes "make") ∷ AnyNumber seed ∷ Number 1 200 count ∷ []) ∷ [])
    (λ held input outcome. WritableOutcome (Making seed count) held outcome)
    (λ text. (words : List ℕ) × ((entries : List Entry) × MayRun seed words entries (making seed count words entries) text status.Done))) {
      values = count ≤ 200;
      traits = record none_of_them { goes = true; memory = true; cartridge = true; writable = true; mounts = true; restores = true };
      fronts = λ text. Unit {0};
      refused = λ answer text. (text ≡ []) ⊎ ((words : List ℕ) × ((entries : List Entry)
          × MayRun seed words entries (making seed count words entries) text answer));
      needs = λ held input. IsSomeAnd held (λ c. IsUnprotected c × CanMake c seed count);
      keeps_volumes = λ c plain. c.info.protected ≡ true;
      keeps_list = λ c. c.info.protected ≡ true;
      is_full = λ need have. nat_lt have need && list_any (λ volume. made_length seed volume == need) (range_with_len 1 count);
    }
