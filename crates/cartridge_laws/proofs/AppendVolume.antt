-- A stop among the writes of a new volume's segments.
use Rattle.std.proofs.Common.{ℕ, List, All, ◌≤◌, length, ◌<◌, sym, subst, arith, ◌∙◌, ◌≡◌, ◌⊎◌, true}
use Rattle.std.proofs.lemmas.List.Elements.{All-weaker}
use Rattle.cartridge_laws.proofs.AppendKeeping.{AreIn, parts_of_segments, IsKeptBut, steps_stopped}
use Rattle.cartridge_laws.proofs.AppendOrders.{LiesWithin, lie_within, end_least}
use Rattle.cartridge_laws.proofs.AppendSegments.{AreTaken, HasRoom, room_is, segments_taken, carrying_from}
use Rattle.cartridge_laws.proofs.AppendStanding.{AreKeptTo, volumes_kept_to, stands_with}
use Rattle.cartridge_laws.proofs.FormatStanding.{same_cells}
use Rattle.cartridge_laws.proofs.FormatWriting.{some_weaker}
use Rattle.cartridge_laws.proofs.HeaderRefusals.{plain_last}
use Rattle.cartridge_laws.proofs.TableOrders.{faultless_is_sound}
use Rattle.cartridge_laws.specs.AppendBetween.{IsWhole}
use Rattle.cartridge_laws.specs.AppendLaws.{FreeWritesStand, StoppedVolume, new_volume, volume_steps, MayAppendTo}
use Rattle.cartridge_laws.specs.Table.{LieBehind, last_end}
use Rattle.cartridge_laws.specs.VolumeParts.{new_segments}
use Rattle.cartridge_spec.specs.Appending.{Content, has_room}
use Rattle.cartridge_spec.specs.HeaderCopies.{last_segment}
use Rattle.cartridge_spec.specs.TableSegment.{table_cells}
use Rattle.cartridge_spec.specs.Says.{whole_mask, Written, ReadsAll}
use Rattle.cartridge_spec.specs.Volumes.{Plain, Stands, entries_of, carrying, VolumeStands}
use Rattle.qic_base.specs.Cartridge.{Cartridge}
use Rattle.qic_base.specs.declared.tape.SectorView.{SectorView}

-- ---- what is known of a cartridge that is ready

pub old_order : (c : Cartridge) (plain : Plain) → Stands c plain → LieBehind 2 (last_segment c) (entries_of plain)
old_order c plain stood = faultless_is_sound plain.table_area (last_segment c) (entries_of plain) stood.sound_table stood.shown

pub old_volumes : (c : Cartridge) (plain : Plain) → Stands c plain → All (LiesWithin 2 (last_end (entries_of plain))) plain.volumes
old_volumes c plain stood = lie_within 2 (last_segment c) plain.volumes (old_order c plain stood)

pub last_end_least : (c : Cartridge) (plain : Plain) → Stands c plain → 2 ≤ last_end (entries_of plain)
last_end_least c plain stood = end_least 2 (last_segment c) (entries_of plain) (old_order c plain stood)

pub plain_room : (plain : Plain) (bytes : ℕ) → has_room plain bytes ≡ true → HasRoom plain.words (entries_of plain) bytes
plain_room plain bytes room = room_is plain.words (entries_of plain) bytes room

pub ready_taken : (c : Cartridge) (plain : Plain) (content : Content) → MayAppendTo c plain content →
    AreTaken plain.words (last_end (entries_of plain)) (last_segment c) (new_segments plain content.bytes)
ready_taken c plain content ready =
    subst (λ (last : ℕ). AreTaken plain.words (last_end (entries_of plain)) last (new_segments plain content.bytes))
    (plain_last c plain ready.stands)
    (segments_taken plain.words (entries_of plain) (length content.bytes) (plain_room plain (length content.bytes) ready.room))

pub taken_behind : (words : List ℕ) (from last : ℕ) (segments : List ℕ) → AreTaken words from last segments → All (λ s. from < s) segments
taken_behind words from last segments taken =
    let behind : from < taken.start = taken.behind in
    subst (λ (ss : List ℕ). All (λ s. from < s) ss) (sym taken.are)
    (All-weaker (λ (s : ℕ). taken.start ≤ s) (λ (s : ℕ). from < s) (λ s (h : taken.start ≤ s). omega arith)
    (carrying words taken.start taken.end) (carrying_from words taken.start taken.end))

-- the writes lie behind the last volume
abbrev pub Behind : Plain → (segment sector : ℕ) → Type 0
Behind plain segment sector = last_end (entries_of plain) < segment

pub volume_writes_behind : (c : Cartridge) (plain : Plain) (content : Content) → MayAppendTo c plain content →
    AreIn (Behind plain) (volume_steps plain content)
volume_writes_behind c plain content ready =
    let segments : List ℕ = new_segments plain content.bytes in
    parts_of_segments (λ s. last_end (entries_of plain) < s) plain.words segments (new_volume plain content).area
    (taken_behind plain.words (last_end (entries_of plain)) (last_segment c) segments (ready_taken c plain content ready))

-- ---- what they leave

pub kept_to : (c d : Cartridge) (plain : Plain) (to : ℕ) → to ≤ last_end (entries_of plain) → IsKeptBut (Behind plain) c d →
    AreKeptTo to c d
kept_to c d plain to least kept s i within h = kept.others s i h (λ (past : last_end (entries_of plain) < s). omega arith)

pub whole_kept : (c d : Cartridge) (area : List (List ℕ)) → AreKeptTo 2 c d → IsWhole c area → IsWhole d area
whole_kept c d area kept whole i h = kept 2 i (omega arith) h ∙ whole i h

-- the old volumes stand
pub old_stand : (c d : Cartridge) (plain : Plain) → Stands c plain → AreKeptTo (last_end (entries_of plain)) c d →
    All (VolumeStands d plain.words) plain.volumes
old_stand c d plain stood kept =
    volumes_kept_to c d plain.words 2 (last_end (entries_of plain)) plain.volumes kept (old_volumes c plain stood) stood.volumes

-- a cartridge of which nothing but sectors behind the volumes changed
stands_still : (c d : Cartridge) (plain : Plain) → Stands c plain → IsKeptBut (Behind plain) c d → Stands d plain
stands_still c d plain stood kept =
    let least : 2 ≤ last_end (entries_of plain) = last_end_least c plain stood in
    let same : table_cells d ≡ table_cells c = same_cells c d 2 whole_mask (λ i h. kept_to c d plain 2 least kept 2 i (omega arith) h) in
    stands_with c d plain plain.table_area plain.volumes stood kept.info (kept_to c d plain 1 (omega arith) kept) (record {
      area = stood.whole.table_area;
      areas = stood.whole.areas;
      sound = stood.sound_table;
      shown = stood.shown;
      stand = old_stand c d plain stood (kept_to c d plain (last_end (entries_of plain)) (omega arith) kept);
      reads = subst (λ (cells : List SectorView). Written cells plain.table_area ⊎ ReadsAll cells plain.table_area) (sym same) stood.table;
    })

pub free_writes_stand : FreeWritesStand
free_writes_stand c plain steps left stood free torn =
    some_weaker left (λ d kept. (
      stands_still c d plain stood kept,
      record { info = kept.info; sectors = kept_to c d plain (last_end (entries_of plain)) (omega arith) kept },
    ))
    (steps_stopped (Behind plain) steps c left free torn)

pub stopped_volume : StoppedVolume
stopped_volume c plain content left ready torn =
    some_weaker left (λ d known. (known.0, λ i h. known.1.sectors 2 i (last_end_least c plain ready.may.stands) h ∙ ready.whole i h))
    (free_writes_stand c plain (volume_steps plain content) left ready.may.stands
    (volume_writes_behind c plain content ready.may) torn)
