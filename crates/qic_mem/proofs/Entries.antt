-- What one more entry of a disk's record does to its events.
use Rattle.std.proofs.Common.{◌≡◌, ℕ, ◌+◌, ◌-◌, ◌*◌, ◌<◌, ◌≤◌, Bool, true, false, List, [], ◌∷◌, ◌++◌, take, drop, length, Some, refl, sym}
use Rattle.std.proofs.Common.{ap, ◌∙◌, arith, length-append, length-drop, if◌then◌else◌}
use Rattle.std.specs.Prelude.{◌==◌, ◌||◌, nat_lt}
use Rattle.std.specs.Vec.{vec_capacity}
use Rattle.std.proofs.lemmas.Bool.Decides.{nat_tests}
use Rattle.std.proofs.lemmas.List.{take_all, take-append-le, drop-append-le, nil_from_length, length_push}
use Rattle.qic_mem.specs.declared.disk.entry.DiskChange.TheVariants.{WriteAt, SetLen, Sync}
use Rattle.qic_mem.specs.declared.disk.entry.DiskEntry.{DiskEntry}
use Rattle.qic_mem.specs.declared.disk.entry.DiskEntry.TheVariants as entry
use Rattle.qic_mem.specs.declared.disk.log.DiskRecord.TheInside.{Inside}
use Rattle.qic_mem.specs.DiskLog.{DiskEvent, Settled, DiskPoint, after_event, point_of, is_pending, event_size, logged, settled}
use Rattle.qic_mem.specs.DiskEntry.{entry_size, event_of, leaves_pending}
use Rattle.qic_mem.specs.DiskEntries.{events_from, sizes, IsWhole, log_of}

-- ---- one entry

pending-behind : (e : DiskEntry) (part : List ℕ) (p : DiskPoint) → is_pending (after_event (event_of e part) p) ≡ leaves_pending e
pending-behind (entry.Made (WriteAt place count)) part p = refl
pending-behind (entry.Made (SetLen n)) part p = refl
pending-behind (entry.Made Sync) part p = refl
pending-behind (entry.Broke change) part p = refl
pending-behind entry.Settled part p = refl

size-of : (e : DiskEntry) (part : List ℕ) → entry_size e ≡ length part → event_size (event_of e part) ≡ length part
size-of (entry.Made (WriteAt place count)) part size = refl
size-of (entry.Made (SetLen n)) part size = size
size-of (entry.Made Sync) part size = size
size-of (entry.Broke (WriteAt place count)) part size = refl
size-of (entry.Broke (SetLen n)) part size = size
size-of (entry.Broke Sync) part size = size
size-of entry.Settled part size = size

-- ---- one more entry

sizes-push : (entries : List DiskEntry) (e : DiskEntry) → sizes (entries ++ e ∷ []) ≡ sizes entries + entry_size e
sizes-push [] e = omega arith
sizes-push (x ∷ entries) e = let more = sizes-push entries e in omega arith

events_from-push : (entries : List DiskEntry) (bytes : List ℕ) (events : List DiskEvent) (e : DiskEntry) (part : List ℕ) →
    sizes entries ≡ length bytes → entry_size e ≡ length part →
    events_from (entries ++ e ∷ []) (bytes ++ part) events ≡ event_of e part ∷ events_from entries bytes events
events_from-push [] bytes events e part taken size =
    let none : bytes ≡ [] = nil_from_length bytes (sym taken) in
    let all : take (entry_size e) part ≡ part = take_all (entry_size e) part (omega arith) in
    rw (none, all) refl
events_from-push (x ∷ entries) bytes events e part taken size =
    let front : take (entry_size x) (bytes ++ part) ≡ take (entry_size x) bytes = take-append-le (entry_size x) bytes part (omega arith) in
    let rest : drop (entry_size x) (bytes ++ part) ≡ drop (entry_size x) bytes ++ part = drop-append-le (entry_size x) bytes part
    (omega arith) in
    ap (λ (bs : List ℕ). events_from (entries ++ e ∷ []) bs (event_of x (take (entry_size x) (bytes ++ part)) ∷ events)) rest
    ∙ ap (λ (bs : List ℕ). events_from (entries ++ e ∷ []) (drop (entry_size x) bytes ++ part) (event_of x bs ∷ events)) front
    ∙ events_from-push entries (drop (entry_size x) bytes) (event_of x (take (entry_size x) bytes) ∷ events) e part
    (omega (arith, length-drop (entry_size x) bytes)) size

-- ---- a call that is noted

-- there is room for it
pub room-left : (calls_left bytes_left count : ℕ) (none few : Bool) → none ≡ (calls_left == 0) → few ≡ nat_lt bytes_left count →
    none || few ≡ false → (0 < calls_left) × (count ≤ bytes_left)
room-left calls_left bytes_left count true few none_is few_is room = cc
room-left calls_left bytes_left count false true none_is few_is room = cc
room-left calls_left bytes_left count false false none_is few_is room =
    (left calls_left (sym none_is), enough bytes_left count (sym few_is))
  where
    left : (n : ℕ) → (n == 0) ≡ false → 0 < n
    left n is = grind (arith, nat_tests)

    enough : (n k : ℕ) → nat_lt n k ≡ false → k ≤ n
    enough n k is = grind (arith, nat_tests)

-- what an open end takes of the room
pub one-at-most : (b : Bool) → (if b then 1 else 0) ≤ 1
one-at-most true = omega arith
one-at-most false = omega arith

-- The record l, with the entry and its bytes behind.
pub record IsNoted (l m : Inside) (e : DiskEntry) (part : List ℕ) : Type 0 where
  pub whole : IsWhole l
  pub entries : m.entries.items ≡ l.entries.items ++ e ∷ []
  pub entries_room : vec_capacity l.entries ≤ vec_capacity m.entries
  pub bytes : m.bytes.items ≡ l.bytes.items ++ part
  pub bytes_room : vec_capacity l.bytes ≤ vec_capacity m.bytes
  pub size : entry_size e ≡ length part
  pub pending : m.pending ≡ leaves_pending e

events-noted : (l m : Inside) (e : DiskEntry) (part : List ℕ) → IsNoted l m e part → (log_of m).events ≡ event_of e part ∷ (log_of l).events
events-noted l m e part noted =
    ap (λ (es : List DiskEntry). events_from es m.bytes.items []) noted.entries
    ∙ ap (λ (bs : List ℕ). events_from (l.entries.items ++ e ∷ []) bs []) noted.bytes
    ∙ events_from-push l.entries.items l.bytes.items [] e part noted.whole.taken noted.size

pub whole-noted : (l m : Inside) (e : DiskEntry) (part : List ℕ) → IsNoted l m e part →
    2 * m.calls_left + (if m.pending then 1 else 0) + 1 ≤ 2 * l.calls_left + (if l.pending then 1 else 0) →
    m.bytes_left + length part ≤ l.bytes_left → IsWhole m
whole-noted l m e part noted calls bytes =
    let fit = noted.whole.entries_fit in
    let entries_room = noted.entries_room in
    let bytes_fit = noted.whole.bytes_fit in
    let bytes_room = noted.bytes_room in
    let taken = noted.whole.taken in
    let size = noted.size in
    let more : length m.entries.items ≡ length l.entries.items + 1 = ap length noted.entries ∙ length_push l.entries.items e in
    let longer : length m.bytes.items ≡ length l.bytes.items + length part = ap length noted.bytes ∙ length-append l.bytes.items part in
    let larger : sizes m.entries.items ≡ sizes l.entries.items + entry_size e = ap sizes noted.entries ∙ sizes-push l.entries.items e in
    record {
      entries_fit = omega arith;
      bytes_fit = omega arith;
      taken = omega arith;
      pends = ap (λ (events : List DiskEvent). is_pending (point_of events)) (events-noted l m e part noted)
          ∙ pending-behind e part (point_of (log_of l).events) ∙ sym noted.pending;
    }

pub log-noted : (l m : Inside) (e : DiskEntry) (part : List ℕ) → IsNoted l m e part → m.calls_left ≡ l.calls_left - 1 →
    m.bytes_left ≡ l.bytes_left - length part → Some (log_of m) ≡ logged (Some (log_of l)) (event_of e part)
log-noted l m e part noted calls bytes =
    let events : (log_of m).events ≡ event_of e part ∷ (log_of l).events = events-noted l m e part noted in
    let size : event_size (event_of e part) ≡ length part = size-of e part noted.size in
    rw (events, calls, bytes, size) refl

pub log-settled : (l m : Inside) → IsNoted l m entry.Settled [] → l.pending ≡ true → m.calls_left ≡ l.calls_left →
    m.bytes_left ≡ l.bytes_left → Some (log_of m) ≡ settled (Some (log_of l))
log-settled l m noted was calls bytes =
    let events : (log_of m).events ≡ Settled ∷ (log_of l).events = events-noted l m entry.Settled [] noted in
    let pends : is_pending (point_of (log_of l).events) ≡ true = noted.whole.pends ∙ was in
    rw (events, calls, bytes, pends) refl
