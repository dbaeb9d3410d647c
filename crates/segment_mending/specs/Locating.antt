-- What is found of a segment, and what may be found of it (this project's own).
use Rattle.std.specs.Prelude.{◌≡◌, ℕ, ◌<◌, ◌≤◌, ◌^◌, List, [], ◌∷◌, length, take, Option, Some, None, Result, Ok, Err, true, false}
use Rattle.cartridge_spec.specs.Code.{IsCodeBlock}
use Rattle.cartridge_spec.specs.Says.{Saying, Data, LostSectors, unreadable_count, whole_mask}
use Rattle.cartridge_laws.specs.Segment.{data_of}
use Rattle.cartridge_spec.specs.Shape.{usable_count}
use Rattle.command_spec.specs.Scrub.{Looked, cells_at, reads, Finding, HasFoundBy, without, wrong_line}
use Rattle.command_spec.specs.declared.depth.Depth.{Depth}
use Rattle.command_spec.specs.declared.depth.Depth.TheVariants.{Shallow, Deep}
use Rattle.cartridge_laws.specs.Writes.{named_writes}
use Rattle.erasure_solve.specs.Lost.{lost_count}
use Rattle.qic_base.specs.Acts.{Act, Outside, TapeFails, SinkFails, Went, Cut}
use Rattle.qic_base.specs.Alone.{no_source}
use Rattle.qic_base.specs.Cartridge.{Cartridge}
use Rattle.qic_base.specs.declared.tape.SectorView.{SectorView}
use Rattle.segment_solve.specs.Gathered.{NamesUnreadable}
use Rattle.qic_base.specs.declared.store_fault.StoreFault.{StoreFault}
use Rattle.segment_mending.specs.declared.locating.Found.{Found}
use Rattle.segment_mending.specs.declared.locating.Found.TheVariants.{Reads, Fails}
use Rattle.segment_mending.specs.declared.locating.Unread.{Unread}
use Rattle.segment_mending.specs.declared.locating.Unread.TheVariants.{NoHeader, Lost, Mismatch}
use Rattle.silent_locate.specs.declared.Located.{Located}
use Rattle.silent_locate.specs.declared.Located.TheVariants.{Agrees, Wrong}
use Rattle.silent_locate.specs.declared.LocateFault.{LocateFault}
use Rattle.cartridge_spec.specs.Says as saying
use Rattle.qic_base.specs.Sink as sinks
use Rattle.qic_base.specs.Tape as tapes
use Rattle.qic_base.specs.TapeCalls as tape_calls
use Rattle.qic_base.specs.declared.store_fault.StoreFault.TheVariants as cuts
use Rattle.silent_locate.specs.Deep as deep
use Rattle.silent_locate.specs.declared.LocateFault.TheVariants as fault

-- ---- the cells alone

-- The answer is what the cells are found to be: a block is left, and perhaps the place of a cell that does not agree with
-- it, or there is no such block.
abbrev pub Locates : (cells : List SectorView) (block : List (List ℕ)) → Result Located LocateFault → Type 0
Locates cells block (Ok Agrees) = deep.Deep cells block None
Locates cells block (Ok (Wrong place)) = deep.Deep cells block (Some place)
Locates cells block (Err (fault.TooMany n)) = (unreadable_count cells ≡ n) × (3 < n)
Locates cells block (Err fault.Mismatch) = (unreadable_count cells ≤ 3) × deep.HasNoReading cells

-- ---- a segment, of which the block stands at the first places of a workspace

-- The block stands there, and of its sectors those at these places could not be read.
pub record HasBlock (l : Looked) (lost : ℕ) (sectors : List (List ℕ)) : Type 0 where
  pub room : length sectors ≡ 32
  -- a header copy has no bad sector
  pub whole : l.segment < 2 → l.mask ≡ whole_mask
  pub within : lost < 2 ^ usable_count l.mask
  pub code : IsCodeBlock (take (usable_count l.mask) sectors)

-- it says the block's data
abbrev pub data_in : Looked → (sectors : List (List ℕ)) → Saying
data_in l sectors = Data (data_of (take (usable_count l.mask) sectors))

-- what one says that does not read
abbrev pub unread_saying : Looked → Unread → (sectors : List (List ℕ)) → Saying
unread_saying l NoHeader sectors = data_in l sectors
unread_saying l (Lost n) sectors = LostSectors n
unread_saying l Mismatch sectors = saying.Mismatch

abbrev pub finding_of : Looked → Found → (sectors : List (List ℕ)) → Finding
finding_of l (Reads places wrong) sectors = record { saying = data_in l sectors; wrong = wrong }
finding_of l (Fails why) sectors = record { saying = unread_saying l why sectors; wrong = None }

-- the places to be written are those of the sectors that can't be read, with the wrong one among them
abbrev pub NamesPlaces : Cartridge → Looked → Found → Type 0
NamesPlaces c l (Reads places wrong) = NamesUnreadable (cells_at (without wrong l c) l) places
NamesPlaces c l (Fails why) = Unit {0}

-- this is found of a segment of a cartridge, if it is searched
pub record IsFoundBy (searched : Type 0) (c : Cartridge) (l : Looked) (found : Found) (sectors : List (List ℕ)) : Type 0 where
  pub finds : HasFoundBy searched c l (finding_of l found sectors).saying (finding_of l found sectors).wrong
  pub places : NamesPlaces c l found

-- a segment is searched, whichever it is
abbrev pub IsDeep : Depth → Type 0
IsDeep Shallow = ⊥
IsDeep Deep = Unit {0}

-- a wrong sector was looked for in it
abbrev pub DeepFinds : Cartridge → Looked → Found → (sectors : List (List ℕ)) → Type 0
DeepFinds c l found sectors = IsFoundBy (Unit {0}) c l found sectors

-- ---- whatever the tape holds

-- a wrong sector may be found in a segment that is searched
abbrev pub MayBeWrong : (searched : Type 0) → (wrong : Option ℕ) → Type 0
MayBeWrong searched None = Unit {0}
MayBeWrong searched (Some sector) = searched × (sector < 32)

-- the sectors at these places may be written
pub record MayMend (searched : Type 0) (l : Looked) (places : ℕ) (wrong : Option ℕ) (sectors : List (List ℕ)) : Type 0 where
  pub within : places < 2 ^ usable_count l.mask
  pub code : IsCodeBlock (take (usable_count l.mask) sectors)
  pub can_be_read : reads l (data_in l sectors) ≡ true
  pub may : MayBeWrong searched wrong

abbrev pub MayBeIn : (searched : Type 0) → Looked → Found → (sectors : List (List ℕ)) → Type 0
MayBeIn searched l (Reads places wrong) sectors = MayMend searched l places wrong sectors
MayBeIn searched l (Fails why) sectors = reads l (unread_saying l why sectors) ≡ false

-- So many sectors can't be read, where a wrong one is looked for and none is found: at most three in a segment that reads.
abbrev pub HasCount : Found → Type 0
HasCount (Reads places None) = lost_count places ≤ 3
HasCount (Reads places (Some sector)) = Unit {0}
HasCount (Fails (Lost n)) = (3 < n) × (n ≤ 32)
HasCount (Fails why) = Unit {0}

-- this may be found of a segment, if it is searched
pub record MayBeBy (searched : Type 0) (l : Looked) (found : Found) (sectors : List (List ℕ)) : Type 0 where
  pub fits : MayBeIn searched l found sectors
  pub count : searched → HasCount found

abbrev pub DeepMayFind : Looked → Found → (sectors : List (List ℕ)) → Type 0
DeepMayFind l found sectors = MayBeBy (Unit {0}) l found sectors

-- this is found of a segment on the cartridge that the tape tells, if it is searched, and may be over any tape
pub record Finds {T : Type 0} (t : tapes.Meaning T) (tape : T) (searched : Type 0) (l : Looked) (found : Found)
    (sectors : List (List ℕ)) : Type 0 where
  pub told : tape_calls.Tells t tape (λ c. IsFoundBy searched c l found sectors)
  pub may : MayBeBy searched l found sectors

-- ---- what is done

-- the writes to these places, and behind them the line of a wrong sector
abbrev pub mending : Looked → (places : ℕ) → (wrong : Option ℕ) → (sectors : List (List ℕ)) → Act
mending l places wrong sectors = record { steps = named_writes l.segment l.mask places sectors; text = wrong_line l.segment wrong }

-- an act went, or a fault cut it off
abbrev pub GoesAs : {T K : Type 0} (t : tapes.Meaning T) (k : sinks.Meaning K) (act : Act) (old new : Outside T (Unit {0}) K) →
    Result (Unit {0}) StoreFault → Type 0
GoesAs t k act old new (Ok done) = Went t no_source k old new (act ∷ [])
GoesAs t k act old new (Err cuts.Sink) = Cut t no_source k old new (act ∷ []) SinkFails
GoesAs t k act old new (Err cuts.Tape) = Cut t no_source k old new (act ∷ []) TapeFails
GoesAs t k act old new (Err other) = ⊥
