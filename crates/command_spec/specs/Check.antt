-- The plain machine of `check`, which looks at every segment that a scrub looks at and writes nothing: what it tells of each, its counts
-- and its answers (this project's own).
use Rattle.std.specs.Prelude.{ℕ, List, [], ◌∷◌, ◌++◌, Bool, true, false, not, ◌&&◌, ◌||◌, ◌==◌, nat_lt, if◌then◌else◌, codes, decimal}
use Rattle.std.specs.Prelude.{length, take}
use Rattle.std.specs.Prelude.{count_by, Option, Some, None, ◌≡◌, ◌<◌, ◌≤◌, ◌⊎◌, IsSomeAnd, All}
use Rattle.std.specs.List.{AllZip}
use Rattle.cartridge_spec.specs.Header.{Header}
use Rattle.cartridge_spec.specs.Mounting.{Mounting, Mounted, Mounts, RefusesHeader, RefusesTable}
use Rattle.cartridge_spec.specs.Says.{Saying, Data, LostSectors, Mismatch, last_used_below, unreadable_count}
use Rattle.cartridge_spec.specs.Table.{Entry}
use Rattle.cartridge_spec.specs.TableSegment.{TableIs, table_cells}
use Rattle.command_spec.specs.Command.{Command, plain_command, none_of_them, Word}
use Rattle.command_spec.specs.Lines.{place_line, number_line}
use Rattle.command_spec.specs.Numbers.{AreTooMany}
use Rattle.command_spec.specs.Outcome.{CommandOutcome, HeldOutcome, refused}
use Rattle.command_spec.specs.Scrub.{Looked, Finding, HasFoundBy, cells_at, looked_at, reads, whole_segment}
use Rattle.command_spec.specs.declared.status.Status.{Status}
use Rattle.command_spec.specs.declared.verdict.Verdict.{Verdict}
use Rattle.command_spec.specs.declared.verdict.Verdict.TheVariants.{Sound, Weak, Wrong, Unsettled, Contradicts, Gone}
use Rattle.qic_base.specs.Acts.{Act}
use Rattle.qic_base.specs.Cartridge.{Cartridge}
use Rattle.cartridge_spec.specs.Mounting as mounting
use Rattle.command_spec.specs.declared.status.Status.TheVariants as status

-- ---- one segment

abbrev pub is_last_used : Option ℕ → ℕ → Bool
is_last_used None sector = false
is_last_used (Some used) sector = used == sector

-- A wrong sector is named. One of the table's segment is where each sector of data can be read, and it is one of them and not the
-- last one in use: a stopped append leaves no such one. With a sector of data lost, what it leaves may look like such a one.
abbrev pub is_named : Cartridge → Looked → (sector : ℕ) → Bool
is_named c looked sector =
    not (looked.segment == 2)
    || (unreadable_count (take 29 (table_cells c)) == 0 && nat_lt sector 29
    && not (is_last_used (last_used_below (table_cells c) 29) sector))

-- a mount reads the volume table, or it doesn't
abbrev pub TableOpens : Cartridge → Bool → Type 0
TableOpens c true = (area : List (List ℕ)) × TableIs c area
TableOpens c false = (area : List (List ℕ)) → ¬ (TableIs c area)

-- no code block agrees with all that can be read, and no sector is named
abbrev pub undecided : (segment : ℕ) → (opens : Bool) → Verdict
undecided segment opens = if segment == 2 && opens then Unsettled else Contradicts

-- so many can't be read where it reads
abbrev pub read_but : (lost : ℕ) → Verdict
read_but lost = if lost == 0 then Sound else Weak lost

-- by what a search for a wrong sector in every segment finds
abbrev pub verdict_by : Cartridge → Looked → (opens : Bool) → Saying → (wrong : Option ℕ) → Verdict
verdict_by c looked opens saying (Some sector) = if is_named c looked sector then Wrong sector else undecided looked.segment opens
verdict_by c looked opens (Data sectors) None =
    if reads looked (Data sectors) then read_but (unreadable_count (cells_at c looked)) else Contradicts
verdict_by c looked opens (LostSectors n) None = Gone n
verdict_by c looked opens Mismatch None = undecided looked.segment opens

-- this is told of a segment
pub record IsTold (c : Cartridge) (looked : Looked) (verdict : Verdict) : Type 0 where
  pub finding : Finding
  pub found : HasFoundBy (Unit {0}) c looked finding.saying finding.wrong
  pub opens : Bool
  pub table : looked.segment ≡ 2 → TableOpens c opens
  pub is : verdict ≡ verdict_by c looked opens finding.saying finding.wrong

-- the line of a segment: none where it is sound
abbrev pub verdict_line : (segment : ℕ) → Verdict → List ℕ
verdict_line segment Sound = []
verdict_line segment (Weak lost) = place_line (codes "weak") segment lost
verdict_line segment (Wrong sector) = place_line (codes "wrong") segment sector
verdict_line segment Unsettled = number_line (codes "unsettled") segment
verdict_line segment Contradicts = number_line (codes "mismatch") segment
verdict_line segment (Gone lost) = place_line (codes "lost") segment lost

-- ---- all of them

-- an act for each: no step, and its line
abbrev pub verdict_acts : List Looked → List Verdict → List Act
verdict_acts (looked ∷ more) (verdict ∷ verdicts) =
    record { steps = []; text = verdict_line looked.segment verdict } ∷ verdict_acts more verdicts
verdict_acts more verdicts = []

abbrev pub verdict_lines : List Looked → List Verdict → List ℕ
verdict_lines (looked ∷ more) (verdict ∷ verdicts) = verdict_line looked.segment verdict ++ verdict_lines more verdicts
verdict_lines more verdicts = []

-- a scrub, a deep one, the next mount or the loss of the named sector mends it
abbrev pub is_mendable : Verdict → Bool
is_mendable (Weak lost) = true
is_mendable (Wrong sector) = true
is_mendable Unsettled = true
is_mendable other = false

-- it does not read
abbrev pub is_bad : Verdict → Bool
is_bad Contradicts = true
is_bad (Gone lost) = true
is_bad other = false

-- the last line: how many segments were looked at, how many of them can be mended, and how many can't
abbrev pub check_line : (segments : ℕ) → List Verdict → List ℕ
check_line segments verdicts =
    codes "check " ++ decimal segments ++ codes " " ++ decimal (count_by is_mendable verdicts) ++ codes " "
    ++ decimal (count_by is_bad verdicts) ++ codes "\n"

-- the answer, by those counts
abbrev pub check_status : List Verdict → Status
check_status verdicts =
    if count_by is_mendable verdicts == 0 && count_by is_bad verdicts == 0 then status.Done
    else status.Unsound (count_by is_mendable verdicts) (count_by is_bad verdicts)

-- ---- what a check does and prints

-- the lines of these segments, and behind them these acts and this answer
pub record Tells (c : Cartridge) (looked : List Looked) (last : List Verdict → List Act) (why : List Verdict → Status)
    (outcome : CommandOutcome) : Type 0 where
  pub verdicts : List Verdict
  pub told : AllZip (IsTold c) looked verdicts
  pub is : outcome ≡ record { acts = verdict_acts looked verdicts ++ last verdicts; taken = 0; status = why verdicts }

abbrev pub TellsOf : Cartridge → List Looked → Status → CommandOutcome → Type 0
TellsOf c looked why outcome = Tells c looked (λ verdicts. []) (λ verdicts. why) outcome

-- both header copies, and with them the table's segment
abbrev pub header_copies : List Looked
header_copies = whole_segment 0 ∷ whole_segment 1 ∷ []

abbrev pub in_front : List Looked
in_front = whole_segment 0 ∷ whole_segment 1 ∷ whole_segment 2 ∷ []

-- It goes as far as it can by what a mount gives: a header that is refused comes behind the lines of its copies, a table behind its own.
abbrev pub ChecksAs : Cartridge → Mounting → CommandOutcome → Type 0
ChecksAs c mounting.NotFormatted outcome = TellsOf c header_copies status.NotFormatted outcome
ChecksAs c (mounting.Foreign fault) outcome =
    (RefusesHeader c fault × TellsOf c header_copies (status.Foreign fault.field fault.value) outcome)
    ⊎ (RefusesTable c fault × TellsOf c in_front (status.Foreign fault.field fault.value) outcome)
ChecksAs c (mounting.TableLost lost) outcome = TellsOf c in_front (status.Lost 2 lost) outcome
ChecksAs c mounting.TableMismatch outcome = TellsOf c in_front status.TableMismatch outcome
ChecksAs c (Mounted header words table entries) outcome =
    let looked : List Looked = looked_at words entries in
    Tells c looked (λ verdicts. record { steps = []; text = check_line (length looked) verdicts } ∷ []) check_status outcome

-- without reference bursts nothing is looked at
abbrev pub Checks : Cartridge → CommandOutcome → Type 0
Checks c outcome =
    ((c.info.referenced ≡ false) × (outcome ≡ refused status.NotFormatted))
    ⊎ ((c.info.referenced ≡ true) × ((m : Mounting) × Mounts c m × ChecksAs c m outcome))

-- ---- what may be printed, whatever the tape holds

abbrev pub MayBeTold : Looked → Verdict → Type 0
MayBeTold looked Sound = Unit {0}
MayBeTold looked (Weak lost) = (1 ≤ lost) × (lost ≤ 3)
MayBeTold looked (Wrong sector) = sector < 32
MayBeTold looked Unsettled = looked.segment ≡ 2
MayBeTold looked Contradicts = Unit {0}
MayBeTold looked (Gone lost) = AreTooMany lost

-- the lines of these segments
pub record AreLines (looked : List Looked) (text : List ℕ) : Type 0 where
  pub verdicts : List Verdict
  pub may : AllZip MayBeTold looked verdicts
  pub lines : text ≡ verdict_lines looked verdicts

-- the lines of all segments and the counts, with this answer
pub record IsCheck (answer : Status) (text : List ℕ) : Type 0 where
  pub words : List ℕ
  pub entries : List Entry
  pub verdicts : List Verdict
  pub may : AllZip MayBeTold (looked_at words entries) verdicts
  pub lines : text ≡ verdict_lines (looked_at words entries) verdicts ++ check_line (length (looked_at words entries)) verdicts
  pub answered : answer ≡ check_status verdicts

-- with a refusal: nothing without a cartridge or its reference bursts, else the lines in front of it
abbrev pub check_refused : Status → List ℕ → Type 0
check_refused (status.Unsound mendable bad) text = IsCheck (status.Unsound mendable bad) text
check_refused status.NotFormatted text = (text ≡ []) ⊎ AreLines header_copies text
check_refused (status.Foreign field value) text = AreLines header_copies text ⊎ AreLines in_front text
check_refused (status.Lost segment lost) text = AreLines in_front text
check_refused status.TableMismatch text = AreLines in_front text
check_refused answer text = text ≡ []

-- ---- the command

-- each segment of a cartridge that mounts is sound
pub record IsSound (c : Cartridge) : Type 0 where
  pub header : Header
  pub words : List ℕ
  pub table : List (List ℕ)
  pub entries : List Entry
  pub mounts : Mounts c (Mounted header words table entries)
  pub each : All (λ looked. IsTold c looked Sound) (looked_at words entries)

abbrev pub check_command : Command
check_command =
    record (plain_command ((Word (codes "check") ∷ []) ∷ []) (λ held input. HeldOutcome Checks held) (IsCheck status.Done)) {
      traits = record none_of_them { goes = true; memory = true; cartridge = true; mounts = true; checks = true };
      fronts = λ text. (rest : List ℕ) × ((answer : Status) × IsCheck answer (text ++ rest));
      refused = check_refused;
      needs = λ held input. IsSomeAnd held IsSound;
    }
