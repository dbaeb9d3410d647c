-- What `scrub deep` makes of a segment that was written, whatever became of the others, as facts.
use Rattle.std.specs.Prelude.{◌≡◌, ◌≢◌, ◌⊎◌, ◌<◌, ℕ, All, Contains, List, Option, Some, IsSomeAnd, false, length, sum_by}
use Rattle.cartridge_laws.specs.Table.{IsSoundList}
use Rattle.cartridge_spec.specs.Header.{Header}
use Rattle.cartridge_spec.specs.Mounting.{Mounted, Mounts}
use Rattle.cartridge_spec.specs.Settling.{changed_by}
use Rattle.cartridge_spec.specs.Shape.{data_count, mask_at}
use Rattle.cartridge_spec.specs.Table.{Entry}
use Rattle.cartridge_spec.specs.Volumes.{Plain, Volume, VolumeStands, carrying_segments, entries_of, parts_of}
use Rattle.command_laws.specs.CommandFields.{Yields}
use Rattle.command_laws.specs.SilentSegments.{IsMadeWhole, IsMendable, IsPutRight, segment_of}
use Rattle.command_spec.specs.Outcome.{CommandOutcome}
use Rattle.command_spec.specs.Scrub.{Looked, ScrubsAs, looked_at}
use Rattle.command_spec.specs.declared.depth.Depth.TheVariants.{Deep}
use Rattle.qic_base.specs.Acts.{Act, steps_of}
use Rattle.qic_base.specs.Cartridge.{Cartridge, view_at}
use Rattle.qic_base.specs.Step.{Torn}
use Rattle.command_spec.specs.declared.status.Status.TheVariants as status
use Rattle.command_spec.specs.declared.words.Words.TheVariants as commands

-- ---- the scrubbing

-- a segment that is looked at, and was written with these data, and holds enough of them, is whole behind it, ..
abbrev pub SegmentsAreMadeWhole : Type 0
SegmentsAreMadeWhole =
    (c : Cartridge) (words : List ℕ) (entries : List Entry) (last : ℕ) (acts : List Act) (looked : Looked) (sectors : List (List ℕ)) →
    IsSoundList last entries → ScrubsAs Deep c words entries acts → Contains (looked_at words entries) looked →
    IsMendable c looked sectors → IsMadeWhole c (changed_by (steps_of acts) c) looked sectors

-- .. and behind a stop it holds enough of them still
abbrev pub StoppedStayMendable : Type 0
StoppedStayMendable =
    (c : Cartridge) (words : List ℕ) (entries : List Entry) (last : ℕ) (acts : List Act) (looked : Looked) (sectors : List (List ℕ))
    (left : Option Cartridge) → IsSoundList last entries → ScrubsAs Deep c words entries acts → Contains (looked_at words entries) looked →
    IsMendable c looked sectors → Torn (steps_of acts) (Some c) left → IsSomeAnd left (λ d. IsMendable d looked sectors)

-- whatever the segments hold, nothing else changes: each sector is as it was, or was put right
abbrev pub NothingElseChanges : Type 0
NothingElseChanges =
    (c : Cartridge) (words : List ℕ) (entries : List Entry) (last : ℕ) (acts : List Act) (segment sector : ℕ) →
    IsSoundList last entries → ScrubsAs Deep c words entries acts → sector < 32 →
    (view_at (changed_by (steps_of acts) c) segment sector ≡ view_at c segment sector)
    ⊎ IsPutRight (looked_at words entries) c (changed_by (steps_of acts) c) segment sector

-- a volume all of whose segments hold enough stands behind it, whatever became of the others
abbrev pub VolumesAreMadeWhole : Type 0
VolumesAreMadeWhole =
    (c : Cartridge) (plain : Plain) (last : ℕ) (acts : List Act) (volume : Volume) → IsSoundList last (entries_of plain) →
    ScrubsAs Deep c plain.words (entries_of plain) acts → Contains plain.volumes volume →
    length volume.area ≡ sum_by (λ s. data_count (mask_at plain.words s)) (carrying_segments plain.words volume.entry) →
    All (λ part. IsMendable c (segment_of plain.words part) part.sectors)
    (parts_of plain.words (carrying_segments plain.words volume.entry) volume.area) →
    VolumeStands (changed_by (steps_of acts) c) plain.words volume

-- ---- the command

-- It is carried out on each cartridge that mounts and isn't protected, and so is made whole each segment but the table's, which is
-- settled before.
abbrev pub DeepScrubMakesWhole : Type 0
DeepScrubMakesWhole =
    (c : Cartridge) (header : Header) (words : List ℕ) (table : List (List ℕ)) (entries : List Entry) (input : List ℕ)
    (outcome : CommandOutcome)
    (looked : Looked) (sectors : List (List ℕ)) → Mounts c (Mounted header words table entries) → c.info.protected ≡ false →
    Yields commands.ScrubDeep (Some c) input outcome → Contains (looked_at words entries) looked → looked.segment ≢ 2 →
    IsMendable c looked sectors →
    (outcome.status ≡ status.Done) × IsMadeWhole c (changed_by (steps_of outcome.acts) c) looked sectors

-- .. and a stop in it leaves each such segment so that it is made whole by the next one
abbrev pub StoppedDeepScrubStaysMendable : Type 0
StoppedDeepScrubStaysMendable =
    (c : Cartridge) (header : Header) (words : List ℕ) (table : List (List ℕ)) (entries : List Entry) (input : List ℕ)
    (outcome : CommandOutcome)
    (looked : Looked) (sectors : List (List ℕ)) (left : Option Cartridge) → Mounts c (Mounted header words table entries) →
    Yields commands.ScrubDeep (Some c) input outcome → Contains (looked_at words entries) looked → looked.segment ≢ 2 →
    IsMendable c looked sectors → Torn (steps_of outcome.acts) (Some c) left → IsSomeAnd left (λ d. IsMendable d looked sectors)
