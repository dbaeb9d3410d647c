-- What it means that a check finds a cartridge sound, that a scrub then writes nothing, and what `scrub deep` makes of one of which a
-- check tells nothing but what that mends, as facts.
use Rattle.std.specs.Prelude.{◌≡◌, ◌≢◌, ◌≤◌, ◌<◌, ◌⊎◌, ◌↔◌, ℕ, [], List, All, Some, None, false, true, length}
use Rattle.cartridge_laws.specs.Segment.{unreadable_data}
use Rattle.cartridge_laws.specs.TableCells.{last_used}
use Rattle.cartridge_laws.specs.WrongTableSector.{IsWrongInTable}
use Rattle.cartridge_spec.specs.Header.{Header}
use Rattle.cartridge_spec.specs.HeaderCopies.{CopyReads}
use Rattle.cartridge_spec.specs.Mounting.{Mounted, Mounts}
use Rattle.cartridge_spec.specs.Says.{Data, Saying, Says, unreadable_count}
use Rattle.cartridge_spec.specs.Settling.{changed_by, settling_steps}
use Rattle.cartridge_spec.specs.Table.{Entry}
use Rattle.cartridge_spec.specs.TableSegment.{table_cells}
use Rattle.cartridge_spec.specs.Volumes.{Plain, Stands}
use Rattle.command_laws.specs.CommandFields.{Yields}
use Rattle.command_laws.specs.ScrubLaws.{AreAllLive}
use Rattle.command_laws.specs.SilentSegments.{IsMendable}
use Rattle.command_spec.specs.Check.{IsSound, IsTold, verdict_by}
use Rattle.command_spec.specs.Outcome.{CommandOutcome, output_of}
use Rattle.command_spec.specs.Scrub.{counts_line, IsWrong, Looked, cells_at, looked_at, reads, whole_segment}
use Rattle.command_spec.specs.declared.verdict.Verdict.{Verdict}
use Rattle.command_spec.specs.declared.verdict.Verdict.TheVariants.{Sound, Weak, Wrong}
use Rattle.qic_base.specs.Acts.{steps_of}
use Rattle.qic_base.specs.Cartridge.{Cartridge}
use Rattle.qic_base.specs.CartridgeTerms.{IsCartridge}
use Rattle.command_spec.specs.declared.status.Status.TheVariants as status
use Rattle.command_spec.specs.declared.words.Words.TheVariants as commands

-- ---- a sound segment

-- each usable sector of a segment can be read, and holds its own of one code block; it reads with the data of that
pub record IsReadWhole (c : Cartridge) (looked : Looked) : Type 0 where
  pub sectors : List (List ℕ)
  pub says : Says (cells_at c looked) (Data sectors)
  pub can_be_read : reads looked (Data sectors) ≡ true
  pub each : unreadable_count (cells_at c looked) ≡ 0

-- that is what `sound` means, ..
abbrev pub SoundIsReadWhole : Type 0
SoundIsReadWhole = (c : Cartridge) (looked : Looked) → IsTold c looked Sound → IsReadWhole c looked

-- .. and it is told of each such segment
abbrev pub ReadWholeIsSound : Type 0
ReadWholeIsSound = (c : Cartridge) (looked : Looked) → IsCartridge c → IsReadWhole c looked → IsTold c looked Sound

-- ---- a sound cartridge

-- the cartridge mounts, and each segment that is looked at is so
pub record IsReadThroughout (c : Cartridge) : Type 0 where
  pub header : Header
  pub words : List ℕ
  pub table : List (List ℕ)
  pub entries : List Entry
  pub mounts : Mounts c (Mounted header words table entries)
  pub each : All (IsReadWhole c) (looked_at words entries)

-- a check is done exactly where each segment is told to be sound, ..
abbrev pub DoneWhereSound : Type 0
DoneWhereSound =
    (c : Cartridge) (input : List ℕ) (outcome : CommandOutcome) → Yields commands.Check (Some c) input outcome →
    (outcome.status ≡ status.Done) ↔ IsSound c

-- .. that is, where each is read as a whole
abbrev pub DoneWhereReadThroughout : Type 0
DoneWhereReadThroughout =
    (c : Cartridge) (input : List ℕ) (outcome : CommandOutcome) → IsCartridge c → Yields commands.Check (Some c) input outcome →
    (outcome.status ≡ status.Done) ↔ IsReadThroughout c

-- ---- a scrub of it

-- the settling of its table takes no step, ..
abbrev pub SoundIsSettled : Type 0
SoundIsSettled =
    (c : Cartridge) (header : Header) (words : List ℕ) (table : List (List ℕ)) (entries : List Entry) → IsSound c →
    Mounts c (Mounted header words table entries) → settling_steps table c ≡ []

-- .. and so does a scrub in either form, whether the cartridge is protected or not
abbrev pub SoundIsLeftByScrub : Type 0
SoundIsLeftByScrub =
    (c : Cartridge) (input : List ℕ) (outcome : CommandOutcome) → IsSound c → Yields commands.Scrub (Some c) input outcome →
    steps_of outcome.acts ≡ []

abbrev pub SoundIsLeftByDeepScrub : Type 0
SoundIsLeftByDeepScrub =
    (c : Cartridge) (input : List ℕ) (outcome : CommandOutcome) → IsSound c → Yields commands.ScrubDeep (Some c) input outcome →
    steps_of outcome.acts ≡ []

-- Where the cartridge isn't protected it is carried out and prints its counts alone: nothing was mended, and each segment reads.
abbrev pub SoundScrubPrints : Type 0
SoundScrubPrints =
    (c : Cartridge) (header : Header) (words : List ℕ) (table : List (List ℕ)) (entries : List Entry) (input : List ℕ)
    (outcome : CommandOutcome) → IsSound c → Mounts c (Mounted header words table entries) → c.info.protected ≡ false →
    Yields commands.Scrub (Some c) input outcome ⊎ Yields commands.ScrubDeep (Some c) input outcome →
    (outcome.status ≡ status.Done)
    × (output_of outcome ≡ counts_line (record { segments = length (looked_at words entries); mended = 0; unreadable = 0 }))

-- ---- a wrong sector of the table

-- A sector of data of the table's segment holds other bytes than the block of all others, and isn't the last one in use. Where each
-- sector of data can be read, and at most one of parity can't, it is named.
abbrev pub WrongInTableIsNamed : Type 0
WrongInTableIsNamed =
    (c : Cartridge) (wrong : ℕ) (area : List (List ℕ)) → IsCartridge c → IsWrongInTable c wrong area → wrong < 29 →
    last_used (table_cells c) ≢ Some wrong → unreadable_data (table_cells c) ≡ 0 → unreadable_count (table_cells c) ≤ 1 →
    IsTold c (whole_segment 2) (Wrong wrong)

-- So whatever is told of that segment is that it is wrong.
abbrev pub WrongInTableIsTold : Type 0
WrongInTableIsTold =
    (c : Cartridge) (wrong : ℕ) (area : List (List ℕ)) (verdict : Verdict) → IsWrongInTable c wrong area → wrong < 29 →
    last_used (table_cells c) ≢ Some wrong → unreadable_data (table_cells c) ≡ 0 → unreadable_count (table_cells c) ≤ 1 →
    IsTold c (whole_segment 2) verdict → verdict ≡ Wrong wrong

-- no other sector of that segment is named
abbrev pub NamedInTableIsWrong : Type 0
NamedInTableIsWrong =
    (c : Cartridge) (wrong : ℕ) → IsTold c (whole_segment 2) (Wrong wrong) →
    ((area : List (List ℕ)) × IsWrongInTable c wrong area) × (wrong < 29) × (last_used (table_cells c) ≢ Some wrong)
    × (unreadable_data (table_cells c) ≡ 0) × (unreadable_count (table_cells c) ≤ 1)

-- Where a sector of data is unreadable it is told what the segment says, as if no wrong sector were looked for.
abbrev pub LostInTableIsUnsearched : Type 0
LostInTableIsUnsearched =
    (c : Cartridge) (saying : Saying) (verdict : Verdict) → 0 < unreadable_data (table_cells c) → Says (table_cells c) saying →
    (told : IsTold c (whole_segment 2) verdict) → verdict ≡ verdict_by c (whole_segment 2) told.opens saying None

-- ---- what a deep scrub mends

-- a segment is sound, or has sectors that can't be read, or one that holds other bytes
abbrev pub IsToldMended : Cartridge → Looked → Type 0
IsToldMended c looked = IsTold c looked Sound ⊎ ((n : ℕ) × (IsTold c looked (Weak n) ⊎ IsTold c looked (Wrong n)))

-- so is told of each segment but the table's
abbrev pub AreToldMended : Cartridge → List Looked → Type 0
AreToldMended c looked = All (λ l. l.segment ≢ 2 → IsToldMended c l) looked

-- such a segment, but for the table's, holds enough of some data, by which a deep scrub makes it whole
abbrev pub ToldIsMendable : Type 0
ToldIsMendable =
    (c : Cartridge) (looked : Looked) → looked.segment ≢ 2 → IsToldMended c looked →
    (sectors : List (List ℕ)) × IsMendable c looked sectors

-- where a sector of the first header copy is wrong, the second one holds the same header
abbrev pub HasOneHeader : Cartridge → Type 0
HasOneHeader c = (sector : ℕ) (sectors : List (List ℕ)) → IsWrong c (whole_segment 0) sector sectors → CopyReads c 1 sectors

-- so it is on a cartridge that stands for a plain one
abbrev pub StandingHasOneHeader : Type 0
StandingHasOneHeader = (c : Cartridge) (plain : Plain) → Stands c plain → HasOneHeader c

-- A cartridge mounts with this header, map and list, isn't protected, and has one header; and each sector of the segments that are
-- looked at takes what is written to it.
pub record IsOpenLive (c : Cartridge) (header : Header) (words : List ℕ) (table : List (List ℕ)) (entries : List Entry) : Type 0 where
  pub whole : IsCartridge c
  pub mounts : Mounts c (Mounted header words table entries)
  pub unprotected : c.info.protected ≡ false
  pub one_header : HasOneHeader c
  pub live : AreAllLive c (looked_at words entries)

-- Where each segment but the table's is told to be sound, weak or wrong, `scrub deep` is carried out on it and leaves all of them
-- sound, with the same header, map and list. The table's segment it settles, whatever is told of that: its parity becomes that of the
-- data that the mount has read.
abbrev pub DeepScrubMakesSound : Type 0
DeepScrubMakesSound =
    (c : Cartridge) (header : Header) (words : List ℕ) (table : List (List ℕ)) (entries : List Entry) (input : List ℕ)
    (outcome : CommandOutcome) → IsOpenLive c header words table entries → AreToldMended c (looked_at words entries) →
    Yields commands.ScrubDeep (Some c) input outcome →
    (outcome.status ≡ status.Done)
    × Mounts (changed_by (steps_of outcome.acts) c) (Mounted header words table entries)
    × All (λ looked. IsTold (changed_by (steps_of outcome.acts) c) looked Sound) (looked_at words entries)

-- So where a check answers that some segments can be mended, and that none is bad, the check behind a deep scrub is done.
abbrev pub MendedCheckIsDone : Type 0
MendedCheckIsDone =
    (c : Cartridge) (header : Header) (words : List ℕ) (table : List (List ℕ)) (entries : List Entry) (mendable : ℕ)
    (input more last : List ℕ) (first outcome again : CommandOutcome) → IsOpenLive c header words table entries →
    Yields commands.Check (Some c) input first → first.status ≡ status.Unsound mendable 0 →
    Yields commands.ScrubDeep (Some c) more outcome →
    Yields commands.Check (Some (changed_by (steps_of outcome.acts) c)) last again → again.status ≡ status.Done
