-- What the writes of a segment leave, as facts of the cartridge.
use Rattle.std.specs.Prelude.{ℕ, ◌≤◌, List, length, ◌≡◌, All, ◌<◌, slice_index}
use Rattle.cartridge_laws.specs.Shape.{Carries}
use Rattle.cartridge_laws.specs.Writes.{data_in, segment_writes}
use Rattle.cartridge_spec.specs.Says.{cells_of, Written, unreadable_count}
use Rattle.cartridge_spec.specs.Settling.{changed_by, writes_of}
use Rattle.cartridge_spec.specs.Shape.{usable_count, IsLive}
use Rattle.qic_base.specs.Cartridge.{Cartridge, view_at}

-- after a segment was written, its cells are those of the data and their parity
abbrev pub WritesLeaveData : Type 0
WritesLeaveData =
    (c : Cartridge) (segment usable : ℕ) (sectors : List (List ℕ)) → Carries usable → usable_count usable ≤ length sectors →
    Written (cells_of (changed_by (segment_writes segment usable sectors) c) segment usable) (data_in usable sectors)

-- and where all of them are live, each can be read
abbrev pub WritesMakeReadable : Type 0
WritesMakeReadable =
    (c : Cartridge) (segment usable : ℕ) (sectors : List (List ℕ)) → Carries usable → usable_count usable ≤ length sectors →
    All IsLive (cells_of c segment usable) →
    unreadable_count (cells_of (changed_by (segment_writes segment usable sectors) c) segment usable) ≡ 0

-- writes change no sector but those that they name
abbrev pub WritesTouchOnly : Type 0
WritesTouchOnly =
    (c : Cartridge) (segment : ℕ) (indexes : List ℕ) (sectors : List (List ℕ)) (other index : ℕ) →
    ((k : ℕ) → k < length indexes → slice_index indexes k < 32) → index < 32 →
    (other ≡ segment → (k : ℕ) → k < length indexes → slice_index indexes k ≡ index → ⊥) →
    view_at (changed_by (writes_of segment indexes sectors) c) other index ≡ view_at c other index
