-- Where the head stands on its way over the segments of a track.
use Rattle.std.proofs.Common.{◌≡◌, ℕ, ◌+◌, ◌*◌, ◌%◌, ◌<◌, ◌≤◌, Bool, true, false, refl, sym, ◌∙◌, ap, subst, arith, Option, Some, None}
use Rattle.std.proofs.Common.{IsSomeAnd}
use Rattle.std.specs.Option.{option_map_or}
use Rattle.std.proofs.Math.Nat.{mul-le-mul_right}
use Rattle.std.proofs.lemmas.Nat.{mod-mul-add}
use Rattle.qic_base.specs.Tape.{Meaning}
use Rattle.qic_base.specs.declared.tape.TapeInfo.{TapeInfo}
use Rattle.drive_spec.specs.declared.deck.Deck.{Deck}
use Rattle.drive_spec.specs.declared.deck.Motion.{Motion}
use Rattle.drive_spec.specs.declared.deck.Motion.TheVariants.{Stopped, Streaming, Seeking}
use Rattle.drive_spec.specs.Deck.{segments_per_track, is_stopped, is_streaming, limit}
use Rattle.drive_spec.specs.Terms.{is_protected, is_referenced, referenced_as}
use Rattle.drive_states.specs.Reach.{segment_of, StreamsTo, IsUnder}
use Rattle.drive_states.specs.Sound.{HasLength, IsSound, IsInMotion}
use Rattle.drive_states.specs.Unit.{UnitView, Knows}
use Rattle.host_driver.specs.declared.host.Host.{Host}
use Rattle.host_driver.specs.Fits.{Fits, segments_of}
use Rattle.host_driver.specs.Place.{StreamsAt, RunsOn}
use Rattle.drive_states.proofs.Bounds.{limit_within}

-- ---- what a host knows

pub length_known : {T : Type 0} {m : Meaning T} {h : Host} {u : UnitView T} → Fits m h u → segments_of h ≡ segments_per_track u.drive.deck
length_known {h = h} {u = u} f = by_cartridge u.drive.deck.cartridge f.cartridge
  where
    by_cartridge : (o : Option TapeInfo) → IsSomeAnd o (λ info. info.segments_per_track ≡ segments_of h) →
        segments_of h ≡ option_map_or (λ (c : TapeInfo). c.segments_per_track) o 0
    by_cartridge None there = absurd there
    by_cartridge (Some info) there = sym there

pub length_kept : (a b : Deck) → b.cartridge ≡ a.cartridge → segments_per_track b ≡ segments_per_track a
length_kept a b same = ap (λ (o : Option TapeInfo). option_map_or (λ (c : TapeInfo). c.segments_per_track) o 0) same

-- a track has segments
pub some_segments : {T : Type 0} {m : Meaning T} {h : Host} {u : UnitView T} → Fits m h u → 0 < segments_per_track u.drive.deck
some_segments {h = h} {u = u} f = by_cartridge u.drive.deck.cartridge f.cartridge f.sound.drive.deck.long
  where
    by_cartridge : (o : Option TapeInfo) → IsSomeAnd o (λ info. info.segments_per_track ≡ segments_of h) → HasLength o →
        0 < option_map_or (λ (c : TapeInfo). c.segments_per_track) o 0
    by_cartridge None there long = absurd there
    by_cartridge (Some info) there long = let least : 3 ≤ info.segments_per_track = long.shortest in omega arith

-- ---- where it stands

-- a tape that streams is before the end of its track
streams_within : (d : Deck) → IsSound d → is_streaming d.motion ≡ true → d.offset < segments_per_track d
streams_within d sound streams =
    let below : d.offset < limit d = by_motion d.motion sound.motion streams in
    let most : limit d ≤ segments_per_track d = limit_within d in
    omega arith
  where
    by_motion : (m : Motion) → IsInMotion (limit d) d.offset m → is_streaming m ≡ true → d.offset < limit d
    by_motion Stopped h e = cc
    by_motion (Streaming next) h e = h.0
    by_motion (Seeking left) h e = cc

-- two places on tracks of n segments that are one have one offset
same_offset : (n a i b j : ℕ) → i < n → j < n → a * n + i ≡ b * n + j → i ≡ j
same_offset n a i b j low high same = sym (mod-mul-add a n i low) ∙ ap (λ (k : ℕ). k % n) same ∙ mod-mul-add b n j high

-- of n segments from one on, so many are behind the head: it streams at the next, or stands behind the last
pub record IsBefore (n first offset : ℕ) (d : Deck) : Type 0 where
  pub streams : offset < n → StreamsAt (first + offset) 0 d
  pub stops : n ≤ offset → is_stopped d.motion ≡ true

pub before_first : (n first : ℕ) (d : Deck) → 0 < n → StreamsAt first 0 d → IsBefore n first 0 d
before_first n first d some at = record {
  streams = λ within. record { motion = at.motion; here = let same : first + 0 ≡ first = omega arith in same ∙ at.here };
  stops = λ past. absurd (omega arith);
}

-- a segment of a track lies on the tape
pub segment_within : (track offset count long n : ℕ) → count ≡ n → offset < count → track < 28 → long ≡ 28 * n →
    track * count + offset < long
segment_within track offset count long n same within on_tape size =
    let next : track + 1 ≤ 28 = omega arith in
    let most : (track + 1) * count ≤ 28 * count = mul-le-mul_right count next in
    let all : long ≡ 28 * count = size ∙ ap (λ (k : ℕ). 28 * k) (sym same) in
    omega arith

-- and so does the first one, ..
pub first_within : (track count n : ℕ) → count ≡ n → 0 < count → track < 28 → track * count < 28 * n
first_within track count n same some on_tape =
    let here : track * count + 0 < 28 * n = segment_within track 0 count (28 * n) n same some on_tape refl in
    omega arith

-- .. which no other one comes before
pub none_before : (track count n : ℕ) → count ≡ n → 0 < count → (track * count) % n ≡ 0
none_before track count n same some =
    let here : track * count ≡ track * count + 0 = omega arith in
    subst (λ (k : ℕ). (track * count) % k ≡ 0) same (ap (λ (s : ℕ). s % count) here ∙ mod-mul-add track count 0 some)

pub streaming_under : (segment index : ℕ) (d : Deck) → IsUnder d segment index → is_streaming d.motion ≡ true
streaming_under segment index d under = by_motion d.motion under.streams
  where
    by_motion : (m : Motion) → StreamsTo m index → is_streaming m ≡ true
    by_motion Stopped h = absurd h
    by_motion (Streaming next) h = refl
    by_motion (Seeking left) h = absurd h

-- the tape runs on from a segment of the track
pub before_next : (n track offset : ℕ) (old new : Deck) → segments_per_track old ≡ n → IsSound old → offset < n →
    is_streaming old.motion ≡ true → track * n + offset ≡ segment_of old → RunsOn old new → IsBefore n (track * n) (offset + 1) new
before_next n track offset old new length sound within streams here runs =
    let inside : old.offset < segments_per_track old = streams_within old sound streams in
    let low : old.offset < n = omega arith in
    let place : track * n + offset ≡ old.track * n + old.offset = here ∙ ap (λ (k : ℕ). old.track * k + old.offset) length in
    let same : offset ≡ old.offset = same_offset n track offset old.track old.offset within low place in
    record {
      streams = λ more.
          let at : StreamsAt (segment_of old + 1) 0 new = runs.within (omega arith) in
          record { motion = at.motion; here = let next : track * n + (offset + 1) ≡ segment_of old + 1 = omega arith in next ∙ at.here };
      stops = λ past. ap is_stopped (runs.end (omega arith));
    }

-- with the reference bursts the length is what it was
pub length_referenced : (a b : Deck) → b.cartridge ≡ referenced_as true a.cartridge → segments_per_track b ≡ segments_per_track a
length_referenced a b marks =
    ap (λ (o : Option TapeInfo). option_map_or (λ (c : TapeInfo). c.segments_per_track) o 0) marks ∙ by_cartridge a.cartridge
  where
    by_cartridge : (o : Option TapeInfo) → option_map_or (λ (c : TapeInfo). c.segments_per_track) (referenced_as true o) 0 ≡ option_map_or
        (λ (c : TapeInfo). c.segments_per_track) o 0
    by_cartridge None = refl
    by_cartridge (Some info) = refl

-- and so is the tape's size
pub size_known : {T : Type 0} {m : Meaning T} {h : Host} {u : UnitView T} → Fits m h u →
    m.size u.tape ≡ Some (segments_per_track u.drive.deck)
size_known {m = m} {h = h} {u = u} f = by_cartridge u.drive.deck.cartridge f.cartridge f.sound.known
  where
    by_cartridge : (o : Option TapeInfo) → IsSomeAnd o (λ info. info.segments_per_track ≡ segments_of h) → Knows o (m.size u.tape) →
        m.size u.tape ≡ Some (option_map_or (λ (c : TapeInfo). c.segments_per_track) o 0)
    by_cartridge None there known = absurd there
    by_cartridge (Some info) there known = known

-- a cartridge that gets the reference bursts is referenced, ..
pub referenced_by : (h : Host) (a b : Deck) → IsSomeAnd a.cartridge (λ info. info.segments_per_track ≡ segments_of h) →
    b.cartridge ≡ referenced_as true a.cartridge → is_referenced b ≡ true
referenced_by h a b there marks = ap (λ (o : Option TapeInfo). option_map_or (λ (c : TapeInfo). c.referenced) o false) marks
    ∙ by_cartridge a.cartridge there
  where
    by_cartridge : (o : Option TapeInfo) → IsSomeAnd o (λ info. info.segments_per_track ≡ segments_of h) →
        option_map_or (λ (c : TapeInfo). c.referenced) (referenced_as true o) false ≡ true
    by_cartridge None none = absurd none
    by_cartridge (Some info) some = refl

-- .. stays so where the drive knows the same of it, ..
pub mark_kept : (a b : Deck) → b.cartridge ≡ a.cartridge → is_referenced a ≡ true → is_referenced b ≡ true
mark_kept a b same was = ap (λ (o : Option TapeInfo). option_map_or (λ (c : TapeInfo). c.referenced) o false) same ∙ was

-- .. and may be written where it could be before them
pub unmarked : (a b c : Deck) → b.cartridge ≡ referenced_as true a.cartridge → c.cartridge ≡ b.cartridge → (is_protected a ≡ true → ⊥) →
    is_protected c ≡ false
unmarked a b c marks same writable =
    ap (λ (o : Option TapeInfo). option_map_or (λ (i : TapeInfo). i.protected) o false) (same ∙ marks) ∙ by_cartridge a.cartridge writable
  where
    by_mark : (b : Bool) → (b ≡ true → ⊥) → b ≡ false
    by_mark true other = absurd (other refl)
    by_mark false other = refl

    by_cartridge : (o : Option TapeInfo) → (option_map_or (λ (i : TapeInfo). i.protected) o false ≡ true → ⊥) →
        option_map_or (λ (i : TapeInfo). i.protected) (referenced_as true o) false ≡ false
    by_cartridge None other = refl
    by_cartridge (Some info) other = by_mark info.protected other
