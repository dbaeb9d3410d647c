-- A run of `make` on a cartridge that stands for a plain one, step by step.
use Rattle.std.proofs.Common.{◌⊎◌, Option, Some, None, IsSomeAnd, ◌≡◌, ℕ, ◌+◌, ◌-◌, ◌≤◌, ◌++◌, length, arith, codes, decimal, ◌%◌, ◌^◌, ◌<◌}
use Rattle.std.proofs.Common.{List, [], ◌∷◌, All, replicate, inl, inr, Bool, true, false, cond, refl, sym, ap, ◌∙◌, append-nil, subst, ◌==◌}
use Rattle.std.proofs.Common.{zero, suc, drop}
use Rattle.std.proofs.lemmas.Fmt.{length-decimal-le, decimal_by_steps}
use Rattle.std.proofs.lemmas.List.{length-append, length-replicate, get_or_default, map-append}
use Rattle.std.proofs.lemmas.List.Elements.{All-push, All-from_recursion, All-append, All-replicate, All-map, All-head, All-tail, All-take}
use Rattle.std.proofs.lemmas.List.Elements.{All-weaker}
use Rattle.std.specs.List.{range_with_len}
use Rattle.std.proofs.lemmas.Bool.{cases_Bool}
use Rattle.cartridge_laws.proofs.AppendSegments.{carrying_from}
use Rattle.cartridge_laws.proofs.AppendVolume.{old_order}
use Rattle.cartridge_laws.proofs.FormatWriting.{some_weaker, some_and, effects-some}
use Rattle.cartridge_laws.proofs.MountKeeping.{stopped_stands}
use Rattle.cartridge_laws.proofs.MountStanding.{standing_data}
use Rattle.cartridge_laws.proofs.Places.{usable_small}
use Rattle.cartridge_laws.specs.AppendLaws.{with_content, IsAppendable, new_volume}
use Rattle.cartridge_laws.specs.Table.{LieBehind}
use Rattle.cartridge_spec.specs.Appending.{has_room, with_all, room, Content}
use Rattle.cartridge_spec.specs.Formatting.{IsLabel}
use Rattle.cartridge_spec.specs.TableSegment.{TableIs}
use Rattle.cartridge_spec.specs.HeaderCopies.{last_segment}
use Rattle.cartridge_spec.specs.Settling.{settling_steps, changed_by}
use Rattle.cartridge_spec.specs.Shape.{mask_at, usable_places}
use Rattle.cartridge_spec.specs.Table.{Entry}
use Rattle.cartridge_spec.specs.Volumes.{Plain, entries_of, Stands, volume_length, carrying_segments, Volume, worn}
use Rattle.command_laws.proofs.MadeMachineLaws.{never_unlocked, runs_one}
use Rattle.command_laws.proofs.MadeMadeBytes.{length-made_bytes}
use Rattle.command_laws.proofs.MountedKeeping.{kept_open, scrubbed_open, worn_open, acts_stopped, changed_by_acts}
use Rattle.command_laws.proofs.MountedStanding.{all_writes, no_writes, open_appended, kept_appended, stopped_appended}
use Rattle.command_laws.proofs.ScrubMounted.{stopped_scrub_stands}
use Rattle.command_laws.specs.MadeLaws.{StoppedMakeStands, DoneMakeStands, StopsInStep, StopsAreInSteps, MakesOneThing}
use Rattle.command_laws.specs.MountedKept.{IsOpen, settle_and_append, IsKept}
use Rattle.command_spec.specs.Append.{Kept, append_acts, room_in, has_promised_room, kept_over}
use Rattle.command_laws.specs.MadeTerms.{made_byte, made_acts, first_two, made_entry, after_items, wearing}
use Rattle.command_laws.specs.AppendTerms.{silently, content_with}
use Rattle.command_spec.specs.Make.{made_length, made_bytes, made_contents, made_name, AppendMade, StepDoes, IsAppended, made_answer}
use Rattle.command_spec.specs.Make.{MakeStep, WearSector, ScrubAll, SumVolume, after_item, sum_acts, Runs, wearing_in, wearing_volumes}
use Rattle.command_spec.specs.Make.{summing, appending, made_list, making}
use Rattle.command_spec.specs.Restore.{GivingEnd, Restored, LostIn, MismatchIn}
use Rattle.qic_base.proofs.Steps.{Torn-all}
use Rattle.qic_base.specs.Acts.{Act, steps_of, text_of}
use Rattle.qic_base.specs.Cartridge.{Cartridge}
use Rattle.qic_base.specs.Field.{filled}
use Rattle.qic_base.specs.Step.{Step, Wear, Torn}
use Rattle.command_spec.specs.declared.status.Status.{Status}
use Rattle.command_laws.proofs.ScrubPlain.{as_plain}
use Rattle.cartridge_laws.proofs.MountOnce.{not_lost}
use Rattle.command_spec.specs.declared.status.Status.TheVariants as status

-- a fact of two or of one, of what a stop left
pub some_split : (P Q : Cartridge → Type 0) (left : Option Cartridge) → IsSomeAnd left (λ d. P d ⊎ Q d) → IsSomeAnd left P
    ⊎ IsSomeAnd left Q
some_split P Q None fact = absurd fact
some_split P Q (Some d) fact = fact

-- ---- what is appended

-- the name of a made volume is one of 44 bytes
name_short : (volume : ℕ) → volume ≤ 200 → length (codes "made-" ++ decimal volume) ≤ 44
name_short volume few =
    let digits : length (decimal volume) ≤ 3 = length-decimal-le 3 volume (omega arith) (omega arith) (omega arith) in
    let long : length (codes "made-" ++ decimal volume) ≡ 5 + length (decimal volume) = length-append (codes "made-") (decimal volume) in
    omega arith

decimal_bytes : (n : ℕ) → n < 2 ^ 64 → All (λ b. b < 256) (decimal n)
decimal_bytes = decimal_by_steps (λ n ds. All (λ b. b < 256) ds) one more where
  one : (n : ℕ) → n < 10 → All (λ b. b < 256) ((48 + n) ∷ [])
  one n few = All-push (λ b. b < 256) [] (48 + n) (λ k d h. absurd (omega arith)) (omega arith)

  more : (n : ℕ) (ds : List ℕ) → 10 ≤ n → All (λ b. b < 256) ds → All (λ b. b < 256) (ds ++ (48 + n % 10) ∷ [])
  more n ds many digits = All-push (λ b. b < 256) ds (48 + n % 10) digits (omega arith)

letters : All (λ b. b < 256) (codes "made-")
letters = All-from_recursion (λ b. b < 256) (codes "made-") (omega arith, (omega arith, (omega arith, (omega arith, (omega arith, tt)))))

pub made_label : (volume : ℕ) → volume ≤ 200 → IsLabel (made_name volume)
unfolding filled
made_label volume few =
    let text : List ℕ = codes "made-" ++ decimal volume in
    let short : length text ≤ 44 = name_short volume few in
    let pads : List ℕ = replicate (44 - length text) 0x20 in
    let fill : length pads ≡ 44 - length text = length-replicate (44 - length text) 0x20 in
    let whole : length (text ++ pads) ≡ length text + length pads = length-append text pads in
    record {
      size = omega (arith, short, fill, whole);
      bytes = All-append (λ b. b < 256) text pads
          (All-append (λ b. b < 256) (codes "made-") (decimal volume) letters (decimal_bytes volume (omega arith)))
          (All-replicate (λ b. b < 256) (44 - length text) 0x20 (omega arith));
    }

pub made_content : (seed volume : ℕ) → All (λ b. b < 256) (made_bytes seed volume)
unfolding made_bytes
made_content seed volume = All-map (λ b. b < 256) (made_byte seed volume) (range_with_len 0 (made_length seed volume))
    (λ k d h. omega arith)

abbrev pub made_one : (seed volume : ℕ) → Content
made_one seed volume = content_with (made_name volume) 0 (made_bytes seed volume)

pub made_named : (seed volume : ℕ) → volume ≤ 200 → IsAppendable (made_one seed volume)
made_named seed volume few = record { label = made_label volume few; word = omega arith; bytes = made_content seed volume }

-- ---- an append, as a step

-- the steps of the append to a cartridge that stands for a plain one
module _ (seed : ℕ) (c : Cartridge) (plain : Plain) (held : IsOpen c plain) (volume : ℕ) where
  abbrev bytes : List ℕ
  bytes = made_bytes seed volume

  abbrev settling : List Step
  settling = settling_steps plain.table_area c

  -- what it goes by
  abbrev kept_now : Kept
  kept_now = kept_over c plain.words (entries_of plain) plain.table_area

  -- its acts, where so many bytes are promised
  abbrev acts_by : (promised : ℕ) → List Act
  acts_by promised = append_acts kept_now (made_name volume) 0 (Some promised) silently bytes

  abbrev room_for : (promised : ℕ) → Bool
  room_for promised = has_promised_room (room_in kept_now) (Some promised)

  same_acts : (table : List (List ℕ)) → TableIs c table →
      made_acts seed c plain.words (entries_of plain) table volume ≡ acts_by (length bytes)
  same_acts table reads =
      ap (λ (t : List (List ℕ)). made_acts seed c plain.words (entries_of plain) t volume) (standing_data c plain table held.stands reads)
      ∙ ap acts_by (sym (length-made_bytes seed volume))

  pub same_room : has_promised_room (room plain.words (entries_of plain)) (Some (made_length seed volume))
      ≡ has_room plain (length bytes)
  same_room = ap room_for (sym (length-made_bytes seed volume))

  -- all its steps, where there is room, or none of the volume
  abbrev all_steps : List Step
  all_steps = settle_and_append c plain (made_one seed volume)

  pub steps_are : (table : List (List ℕ)) → TableIs c table → has_room plain (length bytes) ≡ true →
      steps_of (made_acts seed c plain.words (entries_of plain) table volume) ≡ all_steps
  steps_are table reads enough =
      ap steps_of (same_acts table reads)
      ∙ ap (λ (rest : List Step). settling ++ rest) (all_writes plain (made_one seed volume) settling enough)

  pub only_settled : (table : List (List ℕ)) → TableIs c table → has_room plain (length bytes) ≡ false →
      steps_of (made_acts seed c plain.words (entries_of plain) table volume) ≡ settling
  only_settled table reads short =
      ap steps_of (same_acts table reads)
      ∙ ap (λ (rest : List Step). settling ++ rest) (no_writes plain (made_one seed volume) settling short)
      ∙ append-nil settling

  -- what the step is: the table reads, and there is room or not
  pub append_is : (acts : List Act) (answer : Status) → StepDoes seed c plain.words (entries_of plain) (AppendMade volume) acts answer →
      IsAppended seed c plain.words (entries_of plain) volume acts answer
  append_is acts answer (inl refused) = absurd (never_unlocked c refused.0 held.unprotected)
  append_is acts answer (inr (free, inl appended)) = appended
  append_is acts answer (inr (free, inr lost)) = absurd (not_lost c plain.table_area lost.0 held.table lost.1)

  -- where it was carried out there was room, and all its steps were done
  pub done_append : (acts : List Act) → StepDoes seed c plain.words (entries_of plain) (AppendMade volume) acts status.Done →
      (has_room plain (length bytes) ≡ true) × (steps_of acts ≡ all_steps)
  done_append acts does =
      let is = append_is acts status.Done does in
      let enough : has_room plain (length bytes) ≡ true = by_answer (has_room plain (length bytes)) same_room is.answered in
      (enough, ap steps_of is.does ∙ steps_are is.table is.reads enough)
    where
      by_answer : (b : Bool) → has_promised_room (room plain.words (entries_of plain)) (Some (made_length seed volume)) ≡ b →
          status.Done ≡ made_answer seed plain.words (entries_of plain) volume → b ≡ true
      by_answer true is answered = refl
      by_answer false is answered =
          let full : status.Done ≡ status.Full (made_length seed volume) (room plain.words (entries_of plain)) =
          answered ∙ ap (λ (b : Bool). cond b status.Done (status.Full (made_length seed volume) (room plain.words (entries_of plain)))) is
          in
          absurd (cc)

-- what it leaves, done
pub done_append_open : (seed : ℕ) (c : Cartridge) (plain : Plain) → IsOpen c plain → (volume : ℕ) → volume ≤ 200 → (acts : List Act) →
    StepDoes seed c plain.words (entries_of plain) (AppendMade volume) acts status.Done → IsOpen (changed_by (steps_of acts) c)
    (with_content plain (made_one seed volume))
done_append_open seed c plain held volume small acts does =
    let did = done_append seed c plain held volume acts does in
    subst (λ (steps : List Step). IsOpen (changed_by steps c) (with_content plain (made_one seed volume))) (sym did.1)
    (open_appended c plain (made_one seed volume) held (made_named seed volume small) did.0)

-- where each sector of the table's segment takes a write, done or stopped
module _ (seed : ℕ) (c : Cartridge) (plain : Plain) (held : IsKept c plain) (volume : ℕ) (small : volume ≤ 200) where
  abbrev more : Plain
  more = with_content plain (made_one seed volume)

  named : IsAppendable (made_one seed volume)
  named = made_named seed volume small

  pub done_append_kept : (acts : List Act) → StepDoes seed c plain.words (entries_of plain) (AppendMade volume) acts status.Done →
      IsKept (changed_by (steps_of acts) c) more
  done_append_kept acts does =
      let did = done_append seed c plain (kept_open c plain held) volume acts does in
      subst (λ (steps : List Step). IsKept (changed_by steps c) more) (sym did.1)
      (kept_appended (made_one seed volume) named c plain held did.0)

  pub stopped_append_stands : (acts : List Act) (answer : Status) (left : Option Cartridge) → StepDoes seed c plain.words (entries_of plain)
      (AppendMade volume) acts answer →
      Torn (steps_of acts) (Some c) left → IsSomeAnd left (λ d. Stands d plain ⊎ Stands d more)
  stopped_append_stands acts answer left does torn =
      let here : IsOpen c plain = kept_open c plain held in
      let is = append_is seed c plain here volume acts answer does in
      elim (cases_Bool (has_room plain (length (made_bytes seed volume)))) [
        | inl enough ↦ stopped_appended (made_one seed volume) named c plain held left enough
            (subst (λ (steps : List Step). Torn steps (Some c) left)
            (ap steps_of is.does ∙ steps_are seed c plain here volume is.table is.reads enough) torn)
        | inr short ↦ some_weaker left (λ d stands. inl stands)
            (stopped_stands c plain plain.table_area left held.stands held.table
            (subst (λ (steps : List Step). Torn steps (Some c) left)
            (ap steps_of is.does ∙ only_settled seed c plain here volume is.table is.reads short) torn))
      ]

-- ---- the other steps

-- a step that leaves the volumes: a worn sector lies behind the table
abbrev pub IsStill : MakeStep → Type 0
IsStill (AppendMade volume) = ⊥
IsStill (WearSector segment sector) = (3 ≤ segment) × (sector < 32)
IsStill ScrubAll = Unit {0}
IsStill (SumVolume number) = Unit {0}

abbrev pub AreStill : List MakeStep → Type 0
AreStill [] = Unit {0}
AreStill (item ∷ items) = IsStill item × AreStill items

pub still_after : (seed : ℕ) (words : List ℕ) (es : List Entry) (item : MakeStep) → IsStill item → after_item seed words es item ≡ es
still_after seed words es (AppendMade volume) still = absurd still
still_after seed words es (WearSector segment sector) still = refl
still_after seed words es ScrubAll still = refl
still_after seed words es (SumVolume number) still = refl

-- the acts of a sum take no step
pub sum_in_no_step : (number size : ℕ) (given : List ℕ) (ending : GivingEnd) → steps_of (sum_acts number size given ending) ≡ []
sum_in_no_step number size given Restored = refl
sum_in_no_step number size given (LostIn segment lost) = refl
sum_in_no_step number size given (MismatchIn segment) = refl

nothing_changed : (c : Cartridge) (plain : Plain) (acts : List Act) → steps_of acts ≡ [] → IsOpen c plain →
    IsOpen (changed_by (steps_of acts) c) plain
nothing_changed c plain acts none held = subst (λ (steps : List Step). IsOpen (changed_by steps c) plain) (sym none) held

pub still_done : (seed : ℕ) (c : Cartridge) (plain : Plain) (item : MakeStep) (acts : List Act) → IsStill item → IsOpen c plain →
    StepDoes seed c plain.words (entries_of plain) item acts status.Done → IsOpen (changed_by (steps_of acts) c) plain
still_done seed c plain (AppendMade volume) acts still held does = absurd still
still_done seed c plain (WearSector segment sector) acts still held does =
    subst (λ (zs : List Act). IsOpen (changed_by (steps_of zs) c) plain) (sym does.0)
    (worn_open c plain segment sector held still.0 still.1)
still_done seed c plain ScrubAll acts still held (inl refused) = absurd (never_unlocked c refused.0 held.unprotected)
still_done seed c plain ScrubAll acts still held (inr (free, done)) = scrubbed_open c plain acts held done.0
still_done seed c plain (SumVolume number) acts still held does =
    nothing_changed c plain acts (ap steps_of does.is.0 ∙ sum_in_no_step number (volume_length plain.words does.entry)
    (text_of does.acts) does.ending) held

stands_there : (c : Cartridge) (plain : Plain) (left : Option Cartridge) → IsOpen c plain → left ≡ Some c →
    IsSomeAnd left (λ d. Stands d plain)
stands_there c plain left held is = some_and (λ d. Stands d plain) c left held.stands is

still_stopped : (seed : ℕ) (c : Cartridge) (plain : Plain) (item : MakeStep) (acts : List Act) (answer : Status) (left : Option Cartridge) →
    IsStill item → IsOpen c plain →
    StepDoes seed c plain.words (entries_of plain) item acts answer → Torn (steps_of acts) (Some c) left →
    IsSomeAnd left (λ d. Stands d plain)
still_stopped seed c plain (AppendMade volume) acts answer left still held does torn = absurd still
still_stopped seed c plain (WearSector segment sector) acts answer left still held does torn =
    by_torn (subst (λ (zs : List Act). Torn (steps_of zs) (Some c) left) does.0 torn)
  where
    by_torn : Torn (Wear segment sector ∷ []) (Some c) left → IsSomeAnd left (λ d. Stands d plain)
    by_torn (inl is) = stands_there c plain left held is
    by_torn (inr (inl half)) = absurd half
    by_torn (inr (inr is)) = stands_there (worn segment sector c) plain left (worn_open c plain segment sector held still.0 still.1) is
still_stopped seed c plain ScrubAll acts answer left still held (inl refused) torn = absurd (never_unlocked c refused.0 held.unprotected)
still_stopped seed c plain ScrubAll acts answer left still held (inr (free, done)) torn = stopped_scrub_stands c plain acts left held.stands
    (as_plain c plain.words (entries_of plain) acts done.0) torn
still_stopped seed c plain (SumVolume number) acts answer left still held does torn =
    stands_there c plain left held
    (subst (λ (steps : List Step). Torn steps (Some c) left)
    (ap steps_of does.is.0 ∙ sum_in_no_step number (volume_length plain.words does.entry) (text_of does.acts) does.ending) torn)

-- ---- several steps

pub stills_stopped : (seed : ℕ) (items : List MakeStep) (c : Cartridge) (plain : Plain) (acts : List Act) (answer : Status)
    (left : Option Cartridge) → AreStill items → IsOpen c plain →
    Runs seed c plain.words (entries_of plain) items acts answer → Torn (steps_of acts) (Some c) left → IsSomeAnd left (λ d. Stands d plain)
stills_stopped seed [] c plain acts answer left still held (none, done) torn =
    stands_there c plain left held (subst (λ (zs : List Act). Torn (steps_of zs) (Some c) left) none torn)
stills_stopped seed (item ∷ items) c plain acts answer left still held (inl (other, does)) torn =
    still_stopped seed c plain item acts answer left still.0 held does torn
stills_stopped seed (item ∷ items) c plain acts answer left still held (inr (first, rest, parts, does, more)) torn =
    elim (acts_stopped first rest acts c left parts torn) [
      | inl here ↦ still_stopped seed c plain item first status.Done left still.0 held does here
      | inr behind ↦ stills_stopped seed items (changed_by (steps_of first) c) plain rest answer left still.1
          (still_done seed c plain item first still.0 held does)
          (subst (λ (es : List Entry). Runs seed (changed_by (steps_of first) c) plain.words es items rest answer)
          (still_after seed plain.words (entries_of plain) item still.0) more) behind
    ]

stills_done : (seed : ℕ) (items : List MakeStep) (c : Cartridge) (plain : Plain) (acts : List Act) → AreStill items → IsOpen c plain →
    Runs seed c plain.words (entries_of plain) items acts status.Done → IsOpen (changed_by (steps_of acts) c) plain
stills_done seed [] c plain acts still held (none, done) = nothing_changed c plain acts (ap steps_of none) held
stills_done seed (item ∷ items) c plain acts still held (inl (other, does)) = absurd (other refl)
stills_done seed (item ∷ items) c plain acts still held (inr (first, rest, parts, does, more)) =
    let d : Cartridge = changed_by (steps_of first) c in
    let now : IsOpen (changed_by (steps_of rest) d) plain = stills_done seed items d plain rest still.1
    (still_done seed c plain item first still.0 held does)
    (subst (λ (es : List Entry). Runs seed d plain.words es items rest status.Done)
    (still_after seed plain.words (entries_of plain) item still.0) more) in
    subst (λ (e : Cartridge). IsOpen e plain)
    (sym (ap (λ (zs : List Act). changed_by (steps_of zs) c) (sym parts) ∙ changed_by_acts first rest c)) now

-- ---- which steps are still

pub stills_append : (xs ys : List MakeStep) → AreStill xs → AreStill ys → AreStill (xs ++ ys)
stills_append [] ys one other = other
stills_append (x ∷ xs) ys one other = (one.0, stills_append xs ys one.1 other)

still_wearing : (segment : ℕ) (sectors : List ℕ) → 3 ≤ segment → All (λ s. s < 32) sectors → AreStill (wearing segment sectors)
still_wearing segment [] behind small = tt
still_wearing segment (sector ∷ sectors) behind small = (
  (behind, All-head (λ s. s < 32) sector sectors small),
  still_wearing segment sectors behind
      (All-tail (λ s. s < 32) sector sectors small),
)

still_if : (b : Bool) (items : List MakeStep) → AreStill items → AreStill (cond b items [])
still_if true items still = still
still_if false items still = tt

first_small : (words : List ℕ) (segment : ℕ) → All (λ s. s < 32) (first_two words segment)
first_small words segment =
    All-take (λ s. s < 32) 2 (usable_places (mask_at words segment))
    (λ k d h. subst (λ s. s < 32) (get_or_default (usable_places (mask_at words segment)) k 0 d h)
    (usable_small (mask_at words segment) k h))

still_wearing_in : (words segments : List ℕ) → All (λ s. 3 ≤ s) segments → AreStill (wearing_in words segments)
still_wearing_in words [] behind = tt
still_wearing_in words (s ∷ ss) behind =
    stills_append (cond (s % 100 == 0) (wearing s (first_two words s)) []) (wearing_in words ss)
    (still_if (s % 100 == 0) (wearing s (first_two words s))
    (still_wearing s (first_two words s) (All-head (λ s. 3 ≤ s) s ss behind) (first_small words s)))
    (still_wearing_in words ss (All-tail (λ s. 3 ≤ s) s ss behind))

still_wearing_volumes : (words : List ℕ) (before last : ℕ) (es : List Entry) → 2 ≤ before → LieBehind before last es →
    AreStill (wearing_volumes words es)
still_wearing_volumes words before last [] least order = tt
still_wearing_volumes words before last (e ∷ es) least order =
    let from : 3 ≤ e.start = omega (arith, order.0) in
    stills_append (wearing_in words (carrying_segments words e)) (wearing_volumes words es)
    (still_wearing_in words (carrying_segments words e)
    (All-weaker (λ (s : ℕ). e.start ≤ s) (λ (s : ℕ). 3 ≤ s) (λ s (h : e.start ≤ s). omega arith) (carrying_segments words e)
    (carrying_from words e.start e.end)))
    (still_wearing_volumes words e.end last es (omega (arith, order.0, order.1)) order.3)

-- also without the first of them
pub still_wearing_behind : (words : List ℕ) (n before last : ℕ) (es : List Entry) → 2 ≤ before → LieBehind before last es →
    AreStill (wearing_volumes words (drop n es))
still_wearing_behind words zero before last es least order = still_wearing_volumes words before last es least order
still_wearing_behind words (suc n) before last [] least order = tt
still_wearing_behind words (suc n) before last (e ∷ es) least order =
    still_wearing_behind words n e.end last es (omega (arith, order.0, order.1)) order.3

pub still_summing : (number count : ℕ) → AreStill (summing number count)
still_summing number zero = tt
still_summing number (suc count) = (tt, still_summing (number + 1) count)

-- ---- the appends, and what comes behind them

-- the entries of the plain cartridge with a made volume
pub entries_more : (seed : ℕ) (plain : Plain) (volume : ℕ) →
    entries_of (with_content plain (made_one seed volume)) ≡ entries_of plain ++ made_entry seed plain.words
    (entries_of plain) volume ∷ []
entries_more seed plain volume = map-append (λ (v : Volume). v.entry) plain.volumes
    (new_volume plain (made_one seed volume) ∷ [])

-- what comes behind the appends is still where they all stand
abbrev pub StillBehind : (seed : ℕ) (words : List ℕ) (es : List Entry) (volume n : ℕ) (rest : List MakeStep) → Type 0
StillBehind seed words es volume n rest =
    (d : Cartridge) (p : Plain) → Stands d p → p.words ≡ words → entries_of p ≡ after_items seed words es (appending volume n) →
    AreStill rest

module _ (seed : ℕ) (rest : List MakeStep) where
  -- with one volume more the same comes behind
  pub behind_next : (plain : Plain) (volume n : ℕ) → StillBehind seed plain.words (entries_of plain) volume (suc n) rest →
      StillBehind seed plain.words (entries_of (with_content plain (made_one seed volume))) (volume + 1) n rest
  behind_next plain volume n still d p stands words es =
      still d p stands words (es ∙ ap (λ (now : List Entry). after_items seed plain.words now (appending (volume + 1) n))
      (entries_more seed plain volume))

  -- how many volumes stand, behind so many
  pub record StandsFrom (plain : Plain) (volume n : ℕ) (left : Option Cartridge) : Type 0 where
    pub appended : ℕ
    pub within : appended ≤ n
    pub stands : IsSomeAnd left (λ d. Stands d (with_all plain (made_contents seed volume appended)))

  from_next : (plain : Plain) (volume n : ℕ) (left : Option Cartridge) →
      StandsFrom (with_content plain (made_one seed volume)) (volume + 1) n left → StandsFrom plain volume (suc n) left
  from_next plain volume n left from = record {
    appended = suc from.appended;
    within = (let few = from.within in omega arith);
    stands = from.stands;
  }

  pub appends_stopped : (n : ℕ) (c : Cartridge) (plain : Plain) (volume : ℕ) (acts : List Act) (answer : Status) (left : Option Cartridge) →
      volume + n ≤ 201 → IsKept c plain →
      StillBehind seed plain.words (entries_of plain) volume n rest →
      Runs seed c plain.words (entries_of plain) (appending volume n ++ rest) acts answer → Torn (steps_of acts) (Some c) left →
      StandsFrom plain volume n left
  appends_stopped zero c plain volume acts answer left few held still runs torn = record {
    appended = 0;
    within = omega arith;
    stands = stills_stopped seed rest c plain acts answer left (still c plain held.stands refl refl) (kept_open c plain held) runs torn;
  }
  appends_stopped (suc n) c plain volume acts answer left few held still (inl (other, does)) torn =
      by_stop (some_split (λ d. Stands d plain) (λ d. Stands d (with_content plain (made_one seed volume))) left
      (stopped_append_stands seed c plain held volume (omega arith) acts answer left does torn))
    where
      by_stop : IsSomeAnd left (λ d. Stands d plain)
          ⊎ IsSomeAnd left (λ d. Stands d (with_content plain (made_one seed volume))) → StandsFrom plain volume (suc n) left
      by_stop (inl stands) = record { appended = 0; within = omega arith; stands = stands }
      by_stop (inr stands) = record { appended = 1; within = omega arith; stands = stands }
  appends_stopped (suc n) c plain volume acts answer left few held still (inr (first, rear, parts, does, more)) torn =
      let next : Plain = with_content plain (made_one seed volume) in
      let small : volume ≤ 200 = omega arith in
      elim (acts_stopped first rear acts c left parts torn) [
        | inl here ↦ by_stop (some_split (λ d. Stands d plain)
            (λ d. Stands d (with_content plain (made_one seed volume))) left
            (stopped_append_stands seed c plain held volume small first status.Done left does here))
        | inr behind ↦ from_next plain volume n left
            (appends_stopped n (changed_by (steps_of first) c) next (volume + 1) rear answer left (omega arith)
            (done_append_kept seed c plain held volume small first does) (behind_next plain volume n still)
            (subst (λ (es : List Entry). Runs seed (changed_by (steps_of first) c) plain.words es
            (appending (volume + 1) n ++ rest) rear answer)
            (sym (entries_more seed plain volume)) more) behind)
      ]
    where
      by_stop : IsSomeAnd left (λ d. Stands d plain)
          ⊎ IsSomeAnd left (λ d. Stands d (with_content plain (made_one seed volume))) → StandsFrom plain volume (suc n) left
      by_stop (inl stands) = record { appended = 0; within = omega arith; stands = stands }
      by_stop (inr stands) = record { appended = 1; within = omega arith; stands = stands }

  pub appends_done : (n : ℕ) (c : Cartridge) (plain : Plain) (volume : ℕ) (acts : List Act) → volume + n ≤ 201 → IsOpen c plain →
      StillBehind seed plain.words (entries_of plain) volume n rest →
      Runs seed c plain.words (entries_of plain) (appending volume n ++ rest) acts status.Done → IsOpen (changed_by (steps_of acts) c)
      (with_all plain (made_contents seed volume n))
  appends_done zero c plain volume acts few held still runs = stills_done seed rest c plain acts
      (still c plain held.stands refl refl) held runs
  appends_done (suc n) c plain volume acts few held still (inl (other, does)) = absurd (other refl)
  appends_done (suc n) c plain volume acts few held still (inr (first, rear, parts, does, more)) =
      let next : Plain = with_content plain (made_one seed volume) in
      let d : Cartridge = changed_by (steps_of first) c in
      let now : IsOpen (changed_by (steps_of rear) d) (with_all next (made_contents seed (volume + 1) n)) =
      appends_done n d next (volume + 1) rear (omega arith) (done_append_open seed c plain held volume (omega arith) first does)
      (behind_next plain volume n still)
      (subst (λ (es : List Entry). Runs seed d plain.words es (appending (volume + 1) n ++ rest) rear status.Done)
      (sym (entries_more seed plain volume)) more) in
      subst (λ (e : Cartridge). IsOpen e (with_all next (made_contents seed (volume + 1) n)))
      (sym (ap (λ (zs : List Act). changed_by (steps_of zs) c) (sym parts) ∙ changed_by_acts first rear c)) now

-- ---- a run

pub behind_is_still : (seed count : ℕ) (words : List ℕ) (es : List Entry) →
    StillBehind seed words es 1 count (wearing_volumes words (drop (length es) (made_list seed count words es)) ++ ScrubAll ∷ summing
    (length es + 1) count)
behind_is_still seed count words es d p stands same list =
    let order : LieBehind 2 (last_segment d) (made_list seed count words es) =
    subst (LieBehind 2 (last_segment d)) list (old_order d p stands) in
    stills_append (wearing_volumes words (drop (length es) (made_list seed count words es))) (ScrubAll ∷ summing (length es + 1) count)
    (still_wearing_behind words (length es) 2 (last_segment d) (made_list seed count words es) (omega arith) order)
    (tt, still_summing (length es + 1) count)

pub stopped_make_stands : StoppedMakeStands
stopped_make_stands seed count c plain acts answer left few held makes torn =
    let rest : List MakeStep = wearing_volumes plain.words
    (drop (length (entries_of plain)) (made_list seed count plain.words (entries_of plain))) ++ ScrubAll ∷ summing
    (length (entries_of plain) + 1) count in
    let from = appends_stopped seed rest count c plain 1 acts answer left (omega arith) held
    (behind_is_still seed count plain.words (entries_of plain)) makes torn in
    record { appended = from.appended; within = from.within; stands = from.stands }

pub done_make_stands : DoneMakeStands
done_make_stands seed count c plain acts few held makes =
    let rest : List MakeStep = wearing_volumes plain.words
    (drop (length (entries_of plain)) (made_list seed count plain.words (entries_of plain))) ++ ScrubAll ∷ summing
    (length (entries_of plain) + 1) count in
    (appends_done seed rest count c plain 1 acts (omega arith) held (behind_is_still seed count plain.words (entries_of plain))
    makes).stands

-- ---- a stop is in one step

stops_behind : (seed : ℕ) (c : Cartridge) (words : List ℕ) (es : List Entry) (item : MakeStep) (items : List MakeStep) (first : List Act)
    (left : Option Cartridge) →
    StepDoes seed c words es item first status.Done → StopsInStep seed (changed_by (steps_of first) c) words
    (after_item seed words es item) items left →
    StopsInStep seed c words es (item ∷ items) left
stops_behind seed c words es item items first left does stops =
    let d : Cartridge = changed_by (steps_of first) c in
    let same : changed_by (steps_of (first ++ stops.done)) c ≡ changed_by (steps_of stops.done) d = changed_by_acts first stops.done c in
    record {
      front = item ∷ stops.front;
      item = stops.item;
      rest = stops.rest;
      parts = ap (λ (xs : List MakeStep). item ∷ xs) stops.parts;
      done = first ++ stops.done;
      ran = inr (first, stops.done, refl, does, stops.ran);
      acts = stops.acts;
      answer = stops.answer;
      does = subst (λ (e : Cartridge). StepDoes seed e words (after_items seed words (after_item seed words es item) stops.front) stops.item
          stops.acts stops.answer) (sym same) stops.does;
      torn = subst (λ (e : Cartridge). Torn (steps_of stops.acts) (Some e) left) (sym same) stops.torn;
    }

stops_here : (seed : ℕ) (c : Cartridge) (words : List ℕ) (es : List Entry) (item : MakeStep) (items : List MakeStep) (acts : List Act)
    (answer : Status) (left : Option Cartridge) →
    StepDoes seed c words es item acts answer → Torn (steps_of acts) (Some c) left → StopsInStep seed c words es (item ∷ items) left
stops_here seed c words es item items acts answer left does torn = record {
  front = [];
  item = item;
  rest = items;
  parts = refl;
  done = [];
  ran = (refl, refl);
  acts = acts;
  answer = answer;
  does = does;
  torn = torn;
}

pub stops_are_in_steps : StopsAreInSteps
stops_are_in_steps seed c words es [] acts answer left (none, done) torn =
    inl (refl, subst (λ (zs : List Act). Torn (steps_of zs) (Some c) left) none torn)
stops_are_in_steps seed c words es (item ∷ items) acts answer left (inl (other, does)) torn =
    inr (stops_here seed c words es item items acts answer left does torn)
stops_are_in_steps seed c words es (item ∷ items) acts answer left (inr (first, rest, parts, does, more)) torn =
    elim (acts_stopped first rest acts c left parts torn) [
      | inl here ↦ inr (stops_here seed c words es item items first status.Done left does here)
      | inr behind ↦ elim (stops_are_in_steps seed (changed_by (steps_of first) c) words
          (after_item seed words es item) items rest answer left more behind) [
            | inl (none, is) ↦ inr (stops_here seed c words es item items first status.Done left does
                (subst (λ (o : Option Cartridge). Torn (steps_of first) (Some c) o) (effects-some (steps_of first) c ∙ sym is)
                (Torn-all (steps_of first) (Some c))))
            | inr stops ↦ inr (stops_behind seed c words es item items first left does stops)
          ]
    ]

pub makes_one_thing : MakesOneThing
makes_one_thing seed count c words entries a b x y one other = runs_one seed c words entries
    (making seed count words entries) a b x y one other
