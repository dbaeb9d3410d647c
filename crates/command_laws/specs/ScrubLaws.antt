-- What scrubbing does, and what it leaves, done or stopped, as facts.
use Rattle.std.specs.Prelude.{◌≡◌, ℕ, List, ◌≤◌, All, ◌↔◌, ◌<◌, true, ◌+◌, [], ◌∷◌, ◌++◌, if◌then◌else◌, length, take, slice_get, IsSomeAnd}
use Rattle.std.specs.Prelude.{Option, Some}
use Rattle.cartridge_laws.specs.AppendSettled.{IsSettledFor}
use Rattle.cartridge_laws.specs.Segment.{IsUnreadable, data_of, sectors_of}
use Rattle.cartridge_laws.specs.Shape.{Carries}
use Rattle.cartridge_laws.specs.Table.{IsSoundList}
use Rattle.cartridge_laws.specs.Writes.{named_writes}
use Rattle.cartridge_spec.specs.Code.{IsCodeBlock}
use Rattle.cartridge_spec.specs.Formatting.{StandsCleanly}
use Rattle.cartridge_spec.specs.Header.{Header}
use Rattle.cartridge_spec.specs.Shape.{IsArea, usable_count, IsLive}
use Rattle.cartridge_spec.specs.TableSegment.{table_cells, TableIs}
use Rattle.cartridge_spec.specs.HeaderCopies.{copy_cells, CopyReads}
use Rattle.cartridge_spec.specs.Mounting.{Mounted, Mounts}
use Rattle.cartridge_spec.specs.Says.{Data, Says, Saying}
use Rattle.cartridge_spec.specs.Settling.{changed_by}
use Rattle.cartridge_spec.specs.Table.{Entry}
use Rattle.cartridge_spec.specs.Volumes.{Plain, Stands, entries_of}
use Rattle.command_laws.specs.ScrubMended.{IsScrubbed, IsBeingMended}
use Rattle.command_laws.specs.ScrubPlain.{Scrubs, looking_acts, SayInTurn}
use Rattle.command_laws.specs.ScrubSayings.{Rise, SayAtOnce, acts_at_once}
use Rattle.command_spec.specs.Scrub.{looked_at, whole_segment, reads, Looked, unread_count, cells_at, steps_in}
use Rattle.command_laws.specs.ScrubTerms.{look_act}
use Rattle.qic_base.specs.Acts.{Act, steps_of}
use Rattle.qic_base.specs.Cartridge.{Cartridge, view_at}
use Rattle.qic_base.specs.CartridgeTerms.{IsCartridge, IsLost}
use Rattle.qic_base.specs.Step.{Torn}
use Rattle.qic_base.specs.declared.tape.SectorView.TheVariants.{Holds}

-- ---- what it does

-- the scrubbing of a cartridge is one list of acts
abbrev pub ScrubsIsFunction : Type 0
ScrubsIsFunction =
    (c : Cartridge) (words : List ℕ) (entries : List Entry) (a b : List Act) → Scrubs c words entries a → Scrubs c words entries b → a ≡ b

-- and there is one
abbrev pub ScrubsAlways : Type 0
ScrubsAlways =
    (c : Cartridge) (words : List ℕ) (entries : List Entry) → IsCartridge c → (acts : List Act) × Scrubs c words entries acts

-- each segment that is looked at carries data, and lies on the cartridge
abbrev pub LookedCarry : Type 0
LookedCarry =
    (words : List ℕ) (entries : List Entry) (last : ℕ) → IsSoundList last entries → 2 ≤ last →
    All (λ l. Carries l.mask × (l.segment ≤ last)) (looked_at words entries)

-- the table's segment of a settled cartridge says the table's data, so it reads
abbrev pub SettledTableReads : Type 0
SettledTableReads =
    (c : Cartridge) (area : List (List ℕ)) → IsArea area → IsSettledFor c area → Says (table_cells c) (Data area)

-- a header copy that says something reads just where it can be read as a header copy
abbrev pub CopyIsLookedAt : Type 0
CopyIsLookedAt =
    (c : Cartridge) (copy : ℕ) (saying : Saying) → copy < 2 → Says (copy_cells c copy) saying →
    (reads (whole_segment copy) saying ≡ true) ↔ ((area : List (List ℕ)) × CopyReads c copy area)

-- the segments that are looked at ascend, so no write touches one that is looked at later: ..
abbrev pub LookedRise : Type 0
LookedRise = (words : List ℕ) (entries : List Entry) (last : ℕ) → IsSoundList last entries → Rise (looked_at words entries)

-- .. what each one says, and what is done in it, follows from the cartridge as it was before the first write
abbrev pub ScrubsAtOnce : Type 0
ScrubsAtOnce =
    (c : Cartridge) (words : List ℕ) (entries : List Entry) (last : ℕ) (acts : List Act) → IsSoundList last entries →
    (scrubs : Scrubs c words entries acts) →
    SayAtOnce c (looked_at words entries) scrubs.sayings
    × (looking_acts c (looked_at words entries) scrubs.sayings ≡ acts_at_once c (looked_at words entries) scrubs.sayings)

-- ---- step by step

-- what one segment more adds to those that were looked at
pub record LooksOnce (c : Cartridge) (looked : List Looked) (sayings : List Saying) (l : Looked) (s : Saying) : Type 0 where
  pub said : SayInTurn c (looked ++ l ∷ []) (sayings ++ s ∷ [])
  pub acts : looking_acts c (looked ++ l ∷ []) (sayings ++ s ∷ [])
      ≡ looking_acts c looked sayings ++ look_act (changed_by (steps_of (looking_acts c looked sayings)) c) l s ∷ []
  pub unread : unread_count (looked ++ l ∷ []) (sayings ++ s ∷ [])
      ≡ unread_count looked sayings + (if reads l s then 0 else 1)

abbrev pub OneMoreLook : Type 0
OneMoreLook =
    (c : Cartridge) (looked : List Looked) (sayings : List Saying) (l : Looked) (s : Saying) → SayInTurn c looked sayings →
    Says (cells_at (changed_by (steps_of (looking_acts c looked sayings)) c) l) s → LooksOnce c looked sayings l s

-- The writes in a segment that reads are those to the places of its unreadable sectors, where the sectors at hand begin with
-- a code block.
abbrev pub StepsByPlaces : Type 0
StepsByPlaces =
    (c : Cartridge) (l : Looked) (lost : ℕ) (sectors : List (List ℕ)) → IsCodeBlock (take (usable_count l.mask) sectors) →
    usable_count l.mask ≤ length sectors → reads l (Data (data_of (take (usable_count l.mask) sectors))) ≡ true →
    ((i : ℕ) → IsLost lost i ↔ IsSomeAnd (slice_get (cells_at c l) i) IsUnreadable) →
    steps_in c l (Data (data_of (take (usable_count l.mask) sectors))) ≡ named_writes l.segment l.mask lost sectors

-- they are as many as these places
abbrev pub CountOfNamed : Type 0
CountOfNamed =
    (segment usable places : ℕ) (sectors : List (List ℕ)) →
    length (named_writes segment usable places sectors) ≡ length (sectors_of places)

-- ---- all steps done

-- each unreadable usable sector of a segment that is looked at and reads holds its sector of the block, where it takes a
-- write; nothing else changes
abbrev pub DoneScrub : Type 0
DoneScrub =
    (c : Cartridge) (words : List ℕ) (entries : List Entry) (last : ℕ) (acts : List Act) → IsSoundList last entries →
    Scrubs c words entries acts → IsScrubbed (looked_at words entries) c (changed_by (steps_of acts) c)

-- what stood stands, with header copies that formatting may begin over where they were so, ..
abbrev pub DoneScrubStands : Type 0
DoneScrubStands =
    (c : Cartridge) (plain : Plain) (acts : List Act) → Stands c plain → Scrubs c plain.words (entries_of plain) acts →
    Stands (changed_by (steps_of acts) c) plain

abbrev pub DoneScrubIsClean : Type 0
DoneScrubIsClean =
    (c : Cartridge) (plain : Plain) (acts : List Act) → StandsCleanly c plain → Scrubs c plain.words (entries_of plain) acts →
    StandsCleanly (changed_by (steps_of acts) c) plain

-- .. what was mounted is mounted so, ..
abbrev pub DoneScrubMounts : Type 0
DoneScrubMounts =
    (c : Cartridge) (header : Header) (words : List ℕ) (area : List (List ℕ)) (entries : List Entry) (acts : List Act) →
    Mounts c (Mounted header words area entries) → Scrubs c words entries acts →
    Mounts (changed_by (steps_of acts) c) (Mounted header words area entries)

-- .. and the table reads the same
abbrev pub DoneScrubTable : Type 0
DoneScrubTable =
    (c : Cartridge) (words : List ℕ) (entries : List Entry) (last : ℕ) (acts : List Act) (area : List (List ℕ)) →
    IsSoundList last entries → Scrubs c words entries acts → TableIs c area → TableIs (changed_by (steps_of acts) c) area

-- a settled table is settled still
abbrev pub DoneScrubIsSettled : Type 0
DoneScrubIsSettled =
    (c : Cartridge) (words : List ℕ) (entries : List Entry) (last : ℕ) (acts : List Act) (area : List (List ℕ)) →
    IsSoundList last entries → Scrubs c words entries acts → IsSettledFor c area → IsSettledFor (changed_by (steps_of acts) c) area

-- what is left is a cartridge
abbrev pub DoneScrubIsCartridge : Type 0
DoneScrubIsCartridge =
    (c : Cartridge) (words : List ℕ) (entries : List Entry) (acts : List Act) → IsCartridge c → Scrubs c words entries acts →
    IsCartridge (changed_by (steps_of acts) c)

-- ---- a second scrub

-- each usable sector of these segments takes what is written to it
abbrev pub AreAllLive : Cartridge → List Looked → Type 0
AreAllLive c looked = All (λ l. All IsLive (cells_at c l)) looked

-- where that is so, a second scrub writes nothing
abbrev pub SecondScrubWritesNothing : Type 0
SecondScrubWritesNothing =
    (c : Cartridge) (words : List ℕ) (entries : List Entry) (last : ℕ) (acts again : List Act) → IsSoundList last entries →
    AreAllLive c (looked_at words entries) → Scrubs c words entries acts →
    Scrubs (changed_by (steps_of acts) c) words entries again → steps_of again ≡ []

-- ---- a stop

-- a stop among the steps leaves each sector as it was, but for lost ones of those, which may hold their sector of the block;
-- it may come behind the last of them
abbrev pub StoppedScrub : Type 0
StoppedScrub =
    (c : Cartridge) (words : List ℕ) (entries : List Entry) (last : ℕ) (acts : List Act) (left : Option Cartridge) →
    IsSoundList last entries → Scrubs c words entries acts → Torn (steps_of acts) (Some c) left →
    IsSomeAnd left (IsBeingMended (looked_at words entries) c)

-- so each readable sector is as it was
abbrev pub ReadableStays : Type 0
ReadableStays =
    (looked : List Looked) (c d : Cartridge) (segment sector : ℕ) (bytes : List ℕ) → sector < 32 → IsBeingMended looked c d →
    view_at c segment sector ≡ Holds bytes → view_at d segment sector ≡ Holds bytes

-- what is left is a cartridge
abbrev pub StoppedScrubIsCartridge : Type 0
StoppedScrubIsCartridge =
    (c : Cartridge) (words : List ℕ) (entries : List Entry) (acts : List Act) (left : Option Cartridge) → IsCartridge c →
    Scrubs c words entries acts → Torn (steps_of acts) (Some c) left → IsSomeAnd left IsCartridge

-- what stood stands, with header copies that formatting may begin over where they were so, ..
abbrev pub StoppedScrubStands : Type 0
StoppedScrubStands =
    (c : Cartridge) (plain : Plain) (acts : List Act) (left : Option Cartridge) → Stands c plain →
    Scrubs c plain.words (entries_of plain) acts → Torn (steps_of acts) (Some c) left → IsSomeAnd left (λ d. Stands d plain)

abbrev pub StoppedScrubIsClean : Type 0
StoppedScrubIsClean =
    (c : Cartridge) (plain : Plain) (acts : List Act) (left : Option Cartridge) → StandsCleanly c plain →
    Scrubs c plain.words (entries_of plain) acts → Torn (steps_of acts) (Some c) left → IsSomeAnd left (λ d. StandsCleanly d plain)

-- .. what was mounted is mounted so, ..
abbrev pub StoppedScrubMounts : Type 0
StoppedScrubMounts =
    (c : Cartridge) (header : Header) (words : List ℕ) (area : List (List ℕ)) (entries : List Entry) (acts : List Act)
    (left : Option Cartridge) → Mounts c (Mounted header words area entries) → Scrubs c words entries acts →
    Torn (steps_of acts) (Some c) left → IsSomeAnd left (λ d. Mounts d (Mounted header words area entries))

-- .. and the table reads the same
abbrev pub StoppedScrubTable : Type 0
StoppedScrubTable =
    (c : Cartridge) (words : List ℕ) (entries : List Entry) (last : ℕ) (acts : List Act) (area : List (List ℕ))
    (left : Option Cartridge) → IsSoundList last entries → Scrubs c words entries acts → TableIs c area →
    Torn (steps_of acts) (Some c) left → IsSomeAnd left (λ d. TableIs d area)

-- a settled table is settled still
abbrev pub StoppedScrubIsSettled : Type 0
StoppedScrubIsSettled =
    (c : Cartridge) (words : List ℕ) (entries : List Entry) (last : ℕ) (acts : List Act) (area : List (List ℕ))
    (left : Option Cartridge) → IsSoundList last entries → Scrubs c words entries acts → IsSettledFor c area →
    Torn (steps_of acts) (Some c) left → IsSomeAnd left (λ d. IsSettledFor d area)
