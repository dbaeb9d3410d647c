-- A run of `make` is carried out where its volumes have room, and can be read behind the scrub.
use Rattle.std.proofs.Common.{List, [], ◌∷◌, ◌+◌, ◌++◌, ℕ, Bool, true, false, cond, ◌%◌, ◌==◌, ◌≡◌, refl, inl, inr, subst, ◌∙◌, ◌<◌, suc}
use Rattle.std.proofs.Common.{ap, arith, zero, ◌≤◌, sym, Contains, slice_get, Option, Some, None, All, length, drop, append_assoc}
use Rattle.std.specs.Option.{option_map}
use Rattle.std.proofs.lemmas.List.Elements.{Contains-get_or}
use Rattle.std.proofs.lemmas.Option.{slice_get-map, slice_get_within, get_or_from_slice_get, same_Some, none-some}
use Rattle.cartridge_spec.specs.Appending.{with_all}
use Rattle.cartridge_spec.specs.Settling.{changed_by}
use Rattle.cartridge_spec.specs.Table.{Entry}
use Rattle.cartridge_spec.specs.Volumes.{carrying_segments, Plain, entries_of, Volume, Stands, volume_length}
use Rattle.command_laws.proofs.MadeMachineLaws.{never_unlocked, RunsBehind, RunsFront, after_items-append, runs_behind, runs_front}
use Rattle.command_laws.proofs.MadeStops.{AreStill, still_after, still_done, entries_more, StillBehind, behind_next, done_append_open}
use Rattle.command_laws.proofs.MadeStops.{sum_in_no_step, appends_done, behind_is_still, made_one}
use Rattle.command_laws.proofs.RestoreStanding.{restores_byte_for_byte}
use Rattle.command_laws.specs.MadeLaws.{MadeWhereThereIsRoom}
use Rattle.command_laws.specs.MountedKept.{IsOpen}
use Rattle.command_laws.specs.RestoreLaws.{HasVolume}
use Rattle.command_spec.specs.Make.{made_contents, MakeStep, AppendMade, WearSector, ScrubAll, SumVolume, wearing_in}
use Rattle.command_spec.specs.Make.{wearing_volumes, StepDoes, Runs, made_answer, appending, summing, made_list, making}
use Rattle.command_spec.specs.Make.{with_made}
use Rattle.command_laws.specs.MadeTerms.{before_sums, first_two, IsSummed, after_items, wearing}
use Rattle.command_spec.specs.Restore.{volume_at, LosesFew, pieces, Restores, ending_status}
use Rattle.qic_base.specs.Acts.{Act, steps_of, text_of}
use Rattle.qic_base.specs.Cartridge.{Cartridge}
use Rattle.qic_base.specs.Step.{Step}
use Rattle.command_spec.specs.declared.status.Status.{Status}
use Rattle.cartridge_laws.proofs.MountOnce.{not_lost}
use Rattle.command_spec.specs.declared.status.Status.TheVariants as status
use Rattle.cartridge_laws.specs.AppendLaws.{with_content}

-- ---- worn sectors, and a scrub

abbrev IsMending : MakeStep → Type 0
IsMending (AppendMade volume) = ⊥
IsMending (WearSector segment sector) = Unit {0}
IsMending ScrubAll = Unit {0}
IsMending (SumVolume number) = ⊥

abbrev AreMending : List MakeStep → Type 0
AreMending [] = Unit {0}
AreMending (item ∷ items) = IsMending item × AreMending items

mending_append : (xs ys : List MakeStep) → AreMending xs → AreMending ys → AreMending (xs ++ ys)
mending_append [] ys one other = other
mending_append (x ∷ xs) ys one other = (one.0, mending_append xs ys one.1 other)

mending_wearing : (segment : ℕ) (sectors : List ℕ) → AreMending (wearing segment sectors)
mending_wearing segment [] = tt
mending_wearing segment (sector ∷ sectors) = (tt, mending_wearing segment sectors)

mending_if : (b : Bool) (items : List MakeStep) → AreMending items → AreMending (cond b items [])
mending_if true items mends = mends
mending_if false items mends = tt

mending_in : (words segments : List ℕ) → AreMending (wearing_in words segments)
mending_in words [] = tt
mending_in words (s ∷ ss) =
    mending_append (cond (s % 100 == 0) (wearing s (first_two words s)) []) (wearing_in words ss)
    (mending_if (s % 100 == 0) (wearing s (first_two words s)) (mending_wearing s (first_two words s))) (mending_in words ss)

mending_volumes : (words : List ℕ) (es : List Entry) → AreMending (wearing_volumes words es)
mending_volumes words [] = tt
mending_volumes words (e ∷ es) =
    mending_append (wearing_in words (carrying_segments words e)) (wearing_volumes words es) (mending_in words (carrying_segments words e))
    (mending_volumes words es)

-- they leave the list
mending_after : (seed : ℕ) (words : List ℕ) (es : List Entry) (items : List MakeStep) → AreMending items →
    after_items seed words es items ≡ es
mending_after seed words es [] mends = refl
mending_after seed words es (AppendMade volume ∷ items) mends = absurd mends.0
mending_after seed words es (WearSector segment sector ∷ items) mends = mending_after seed words es items mends.1
mending_after seed words es (ScrubAll ∷ items) mends = mending_after seed words es items mends.1
mending_after seed words es (SumVolume number ∷ items) mends = absurd mends.0

mending_goes : (seed : ℕ) (c : Cartridge) (plain : Plain) (item : MakeStep) (acts : List Act) (answer : Status) → IsMending item →
    IsOpen c plain →
    StepDoes seed c plain.words (entries_of plain) item acts answer → answer ≡ status.Done
mending_goes seed c plain (AppendMade volume) acts answer mends held does = absurd mends
mending_goes seed c plain (WearSector segment sector) acts answer mends held does = does.1
mending_goes seed c plain ScrubAll acts answer mends held (inl refused) = absurd (never_unlocked c refused.0 held.unprotected)
mending_goes seed c plain ScrubAll acts answer mends held (inr (free, done)) = done.1
mending_goes seed c plain (SumVolume number) acts answer mends held does = absurd mends

all_mending_go : (seed : ℕ) (items : List MakeStep) (c : Cartridge) (plain : Plain) (acts : List Act) (answer : Status) → AreStill items →
    AreMending items → IsOpen c plain →
    Runs seed c plain.words (entries_of plain) items acts answer → answer ≡ status.Done
all_mending_go seed [] c plain acts answer still mends held (none, done) = done
all_mending_go seed (item ∷ items) c plain acts answer still mends held (inl (other, does)) =
    absurd (other (mending_goes seed c plain item acts answer mends.0 held does))
all_mending_go seed (item ∷ items) c plain acts answer still mends held (inr (first, rest, parts, does, more)) =
    all_mending_go seed items (changed_by (steps_of first) c) plain rest answer still.1 mends.1
    (still_done seed c plain item first still.0 held does)
    (subst (λ (es : List Entry). Runs seed (changed_by (steps_of first) c) plain.words es items rest answer)
    (still_after seed plain.words (entries_of plain) item still.0) more)

-- ---- the appends, and these steps behind them

append_goes : (seed : ℕ) (c : Cartridge) (plain : Plain) (volume : ℕ) (acts : List Act) (answer : Status) → IsOpen c plain →
    made_answer seed plain.words (entries_of plain) volume ≡ status.Done → StepDoes seed c plain.words (entries_of plain)
    (AppendMade volume) acts answer → answer ≡ status.Done
append_goes seed c plain volume acts answer held room (inl refused) = absurd (never_unlocked c refused.0 held.unprotected)
append_goes seed c plain volume acts answer held room (inr (free, inl appended)) = appended.answered ∙ room
append_goes seed c plain volume acts answer held room (inr (free, inr lost)) = absurd (not_lost c plain.table_area lost.0 held.table lost.1)

-- so many volumes, from this one on, have room when their turn comes
abbrev HaveRoomFrom : (seed : ℕ) → (words : List ℕ) → List Entry → (volume n : ℕ) → Type 0
HaveRoomFrom seed words es volume n = (k : ℕ) → k < n → made_answer seed words (after_items seed words es (appending volume k))
    (volume + k) ≡ status.Done

room_here : (seed : ℕ) (words : List ℕ) (es : List Entry) (volume n : ℕ) → HaveRoomFrom seed words es volume (suc n) →
    made_answer seed words es volume ≡ status.Done
room_here seed words es volume n room =
    let same : volume ≡ volume + 0 = omega arith in
    ap (λ (v : ℕ). made_answer seed words es v) same ∙ room 0 (omega arith)

room_next : (seed : ℕ) (plain : Plain) (volume n : ℕ) → HaveRoomFrom seed plain.words (entries_of plain) volume (suc n) →
    HaveRoomFrom seed plain.words (entries_of (with_content plain (made_one seed volume))) (volume + 1) n
room_next seed plain volume n room k small =
    let same : volume + 1 + k ≡ volume + suc k = omega arith in
    ap (λ (es : List Entry). made_answer seed plain.words (after_items seed plain.words es (appending (volume + 1) k)) (volume + 1 + k))
    (entries_more seed plain volume)
    ∙ ap (λ (v : ℕ). made_answer seed plain.words (after_items seed plain.words (entries_of plain) (appending volume (suc k))) v) same
    ∙ room (suc k) (omega arith)

front_goes : (seed : ℕ) (rest : List MakeStep) (n : ℕ) (c : Cartridge) (plain : Plain) (volume : ℕ) (acts : List Act) (answer : Status) →
    volume + n ≤ 201 → IsOpen c plain →
    HaveRoomFrom seed plain.words (entries_of plain) volume n → StillBehind seed plain.words (entries_of plain) volume n rest →
    AreMending rest → Runs seed c plain.words (entries_of plain) (appending volume n ++ rest) acts answer → answer ≡ status.Done
front_goes seed rest zero c plain volume acts answer few held room still mends runs =
    all_mending_go seed rest c plain acts answer (still c plain held.stands refl refl) mends held runs
front_goes seed rest (suc n) c plain volume acts answer few held room still mends (inl (other, does)) =
    absurd (other (append_goes seed c plain volume acts answer held (room_here seed plain.words (entries_of plain) volume n room) does))
front_goes seed rest (suc n) c plain volume acts answer few held room still mends (inr (first, rear, parts, does, more)) =
    front_goes seed rest n (changed_by (steps_of first) c) (with_content plain (made_one seed volume))
    (volume + 1) rear answer (omega arith)
    (done_append_open seed c plain held volume (omega arith) first does) (room_next seed plain volume n room)
    (behind_next seed rest plain volume n still) mends
    (subst (λ (es : List Entry). Runs seed (changed_by (steps_of first) c) plain.words es (appending (volume + 1) n ++ rest) rear answer)
    (sym (entries_more seed plain volume)) more)

-- ---- the sums

-- a volume has this entry
record HasEntry (plain : Plain) (e : Entry) : Type 0 where
  volume : Volume
  among : Contains plain.volumes volume
  is : volume.entry ≡ e

has_entry : (plain : Plain) (number : ℕ) (e : Entry) → volume_at (entries_of plain) number ≡ Some e → HasEntry plain e
has_entry plain zero e at = absurd (none-some e at)
has_entry plain (suc n) e at =
    by_slice (slice_get plain.volumes n) refl (sym (slice_get-map (λ (v : Volume). v.entry) plain.volumes n) ∙ at)
  where
    by_slice : (o : Option Volume) → slice_get plain.volumes n ≡ o → option_map (λ (v : Volume). v.entry) o ≡ Some e → HasEntry plain e
    by_slice None is there = absurd (none-some e there)
    by_slice (Some v) is there = record {
      volume = v;
      among = subst (Contains plain.volumes) (get_or_from_slice_get plain.volumes n v v is)
          (Contains-get_or plain.volumes n v (slice_get_within plain.volumes n v is));
      is = same_Some v.entry e there;
    }

-- the volumes from this number on have lost few sectors
abbrev LoseFewFrom : Cartridge → Plain → (number : ℕ) → Type 0
LoseFewFrom d plain number = (m : ℕ) (e : Entry) → number ≤ m → volume_at (entries_of plain) m ≡ Some e →
    All (LosesFew d plain.words) (pieces plain.words e)

sum_goes : (d : Cartridge) (plain : Plain) (number : ℕ) (acts : List Act) (answer : Status) → Stands d plain → LoseFewFrom d plain number →
    IsSummed d plain.words (entries_of plain) number acts answer → answer ≡ status.Done
sum_goes d plain number acts answer stands few sum =
    let has : HasEntry plain sum.entry = has_entry plain number sum.entry sum.numbered in
    let there : HasVolume d plain has.volume = record { stands = stands; among = has.among } in
    sum.is.1 ∙ ap ending_status (restores_byte_for_byte d plain has.volume sum.acts sum.ending there
    (subst (λ (e : Entry). All (LosesFew d plain.words) (pieces plain.words e)) (sym has.is)
    (few number sum.entry (omega arith) sum.numbered))
    (subst (λ (e : Entry). Restores d plain.words (pieces plain.words e) sum.acts sum.ending) (sym has.is) sum.restores)).0

sums_go : (seed n : ℕ) (d : Cartridge) (plain : Plain) (number : ℕ) (acts : List Act) (answer : Status) → Stands d plain →
    LoseFewFrom d plain number →
    Runs seed d plain.words (entries_of plain) (summing number n) acts answer → answer ≡ status.Done
sums_go seed zero d plain number acts answer stands few (none, done) = done
sums_go seed (suc n) d plain number acts answer stands few (inl (other, does)) =
    absurd (other (sum_goes d plain number acts answer stands few does))
sums_go seed (suc n) d plain number acts answer stands few (inr (first, rest, parts, does, more)) =
    let none : steps_of first ≡ [] = ap steps_of does.is.0 ∙ sum_in_no_step number (volume_length plain.words does.entry)
    (text_of does.acts) does.ending in
    sums_go seed n d plain (number + 1) rest answer stands (λ m e later at. few m e (omega arith) at)
    (subst (λ (steps : List Step). Runs seed (changed_by steps d) plain.words (entries_of plain) (summing (number + 1) n) rest answer) none
    more)

-- ---- a run

made_words : (seed n : ℕ) (plain : Plain) (volume : ℕ) → (with_all plain (made_contents seed volume n)).words ≡ plain.words
made_words seed zero plain volume = refl
made_words seed (suc n) plain volume = made_words seed n (with_content plain (made_one seed volume)) (volume + 1)

made_entries : (seed n : ℕ) (plain : Plain) (volume : ℕ) →
    entries_of (with_all plain (made_contents seed volume n)) ≡ after_items seed plain.words (entries_of plain) (appending volume n)
made_entries seed zero plain volume = refl
made_entries seed (suc n) plain volume =
    made_entries seed n (with_content plain (made_one seed volume)) (volume + 1)
    ∙ ap (λ (es : List Entry). after_items seed plain.words es (appending (volume + 1) n)) (entries_more seed plain volume)

stills_front : (xs ys : List MakeStep) → AreStill (xs ++ ys) → AreStill xs
stills_front [] ys all = tt
stills_front (x ∷ xs) ys all = (all.0, stills_front xs ys all.1)

pub made_where_there_is_room : MadeWhereThereIsRoom
made_where_there_is_room seed count c plain acts answer small held room few makes =
    let words : List ℕ = plain.words in
    let es : List Entry = entries_of plain in
    let worn : List MakeStep = wearing_volumes words (drop (length es) (made_list seed count words es)) in
    let rest : List MakeStep = worn ++ ScrubAll ∷ [] in
    let sums : List MakeStep = summing (length es + 1) count in
    let front : List MakeStep = before_sums seed count plain in
    let rear : rest ++ sums ≡ worn ++ ScrubAll ∷ sums = append_assoc worn (ScrubAll ∷ []) sums in
    let all : front ++ sums ≡ making seed count words es =
    append_assoc (appending 1 count) rest sums ∙ ap (λ (items : List MakeStep). appending 1 count ++ items) rear in
    let still : StillBehind seed words es 1 count rest =
    λ d p stands same list. stills_front rest sums (subst AreStill (sym rear) (behind_is_still seed count words es d p stands same list)) in
    let mends : AreMending rest = mending_append worn (ScrubAll ∷ [])
    (mending_volumes words (drop (length es) (made_list seed count words es))) (tt, tt) in
    let here : Runs seed c words es (front ++ sums) acts answer = subst (λ (items : List MakeStep). Runs seed c words es items acts answer)
    (sym all) makes in
    let begun : RunsFront seed c words es front acts answer = runs_front seed c words es front sums acts answer here in
    let done : begun.answer ≡ status.Done = front_goes seed rest count c plain 1 begun.acts begun.answer
    (omega arith) held room still mends begun.runs in
    let ran : Runs seed c words es front begun.acts status.Done =
    subst (λ (a : Status). Runs seed c words es front begun.acts a) done begun.runs in
    let behind : RunsBehind seed c words es front sums begun.acts acts answer =
    runs_behind seed c words es front sums begun.acts acts answer ran here in
    let d : Cartridge = changed_by (steps_of begun.acts) c in
    let more : Plain = with_made plain seed count in
    let now : IsOpen d more = appends_done seed rest count c plain 1 begun.acts (omega arith) held still ran in
    let same : more.words ≡ words = made_words seed count plain 1 in
    let list : entries_of more ≡ made_list seed count words es = made_entries seed count plain 1 in
    let after : after_items seed words es front ≡ entries_of more =
    after_items-append seed words es (appending 1 count) rest ∙ mending_after seed words (made_list seed count words es) rest mends
    ∙ sym list in
    sums_go seed count d more (length es + 1) behind.rest answer now.stands
    (λ m e later at. subst (λ (ws : List ℕ). All (LosesFew d ws) (pieces ws e)) (sym same)
    (few begun.acts m e ran (omega arith) (ap (λ (listed : List Entry). volume_at listed m) (sym list) ∙ at)))
    (subst (λ (ws : List ℕ). Runs seed d ws (entries_of more) sums behind.rest answer) (sym same)
    (subst (λ (listed : List Entry). Runs seed d words listed sums behind.rest answer) after behind.runs))
