-- A run of `make` comes to something, whatever the sectors of its cartridge hold.
use Rattle.std.proofs.Common.{◌≡◌, ◌≤◌, List, Some, ℕ, false, nat_lt, arith, length, take, inl, inr, ◌+◌, Bool, true, cond, [], ◌∷◌, ◌++◌}
use Rattle.std.proofs.Common.{refl, sym, ap, ◌∙◌, subst, zero, suc, ◌%◌, ◌==◌, ◌<◌, slice_get, drop}
use Rattle.std.proofs.lemmas.Bool.{le-ltb, cases_Bool}
use Rattle.std.proofs.lemmas.List.{take_all}
use Rattle.cartridge_spec.specs.Settling.{changed_by}
use Rattle.cartridge_spec.specs.Table.{Entry}
use Rattle.cartridge_spec.specs.Volumes.{volume_length, carrying_segments}
use Rattle.command_laws.proofs.MadeLoops.{after_wearing_volumes, length-made}
use Rattle.command_laws.proofs.MadeMachineLaws.{done_or_not}
use Rattle.command_laws.proofs.MadeMadeBytes.{length-made_bytes}
use Rattle.command_laws.proofs.MadeStops.{made_label, sum_in_no_step}
use Rattle.command_laws.proofs.MountedListed.{append_listed, listed_reads, scrub_listed, wear_listed}
use Rattle.command_laws.proofs.MountedSaying.{restores_anyway, scrubs_anyway}
use Rattle.command_laws.specs.MadeLaws.{MakesSomething}
use Rattle.command_laws.specs.MountedListed.{IsListed, listed_behind}
use Rattle.command_spec.specs.Append.{Kept, Taking, Fits, TooLong, TooShort, has_promised_room, room_in, taking, kept_over}
use Rattle.command_laws.specs.MadeTerms.{made_entry, made_acts, first_two, after_items, wearing}
use Rattle.command_laws.specs.AppendTerms.{silently}
use Rattle.command_spec.specs.Make.{made_length, made_bytes, MakeStep, AppendMade, WearSector, ScrubAll, SumVolume, after_item, StepDoes}
use Rattle.command_spec.specs.Make.{made_name, made_answer, sum_acts, Runs, appending, wearing_in, wearing_volumes, summing, made_list}
use Rattle.command_spec.specs.Make.{making}
use Rattle.command_spec.specs.Restore.{volume_at, pieces, ending_status}
use Rattle.qic_base.specs.Acts.{Act, steps_of, text_of}
use Rattle.qic_base.specs.Cartridge.{Cartridge}
use Rattle.qic_base.specs.Step.{Step, Wear}
use Rattle.command_spec.specs.declared.status.Status.{Status}
use Rattle.command_spec.specs.declared.status.Status.TheVariants as status

-- ---- one step

-- what it asks: a made volume's number is small, and a volume that is summed is in the list
abbrev pub CanDo : List Entry → MakeStep → Type 0
CanDo entries (AppendMade volume) = volume ≤ 200
CanDo entries (WearSector segment sector) = Unit {0}
CanDo entries ScrubAll = Unit {0}
CanDo entries (SumVolume number) = (e : Entry) × (volume_at entries number ≡ Some e)

-- it does something, and where it was carried out its list stands
record DoesSomething (seed : ℕ) (c : Cartridge) (words : List ℕ) (entries : List Entry) (item : MakeStep) : Type 0 where
  acts : List Act
  answer : Status
  does : StepDoes seed c words entries item acts answer
  next : answer ≡ status.Done → IsListed (changed_by (steps_of acts) c) words (after_item seed words entries item)

all_taken : (n : ℕ) (xs : List ℕ) → length xs ≡ n → take n xs ≡ xs
all_taken n xs long = take_all n xs (omega arith)

module _ (seed : ℕ) (c : Cartridge) (words : List ℕ) (entries : List Entry) (listed : IsListed c words entries) where
  -- the list behind a made volume that had room
  pub made_behind : (table : List (List ℕ)) (volume : ℕ) → made_answer seed words entries volume ≡ status.Done →
      listed_behind (kept_over c words entries table) (made_name volume) 0
      (taking (room_in (kept_over c words entries table)) (Some (made_length seed volume)) (made_bytes seed volume))
      ≡ entries ++ made_entry seed words entries volume ∷ []
  made_behind table volume done = by_room (has_promised_room have (Some n)) refl done
    where
      kept : Kept
      kept = kept_over c words entries table

      bytes : List ℕ
      bytes = made_bytes seed volume

      n : ℕ
      n = made_length seed volume

      have : ℕ
      have = room_in kept

      behind : Taking → List Entry
      behind became = listed_behind kept (made_name volume) 0 became

      long : length bytes ≡ n
      long = length-made_bytes seed volume

      by_room : (b : Bool) → has_promised_room have (Some n) ≡ b → cond b status.Done (status.Full n have) ≡ status.Done →
          behind (taking have (Some n) bytes) ≡ entries ++ made_entry seed words entries volume ∷ []
      by_room true enough is =
          ap (λ (b : Bool). behind (cond b (cond (nat_lt (length bytes) n) (TooShort n (length bytes)) (Fits (take n bytes)))
          (TooLong n have))) enough
          ∙ ap (λ (b : Bool). behind (cond b (TooShort n (length bytes)) (Fits (take n bytes))))
          (le-ltb (length bytes) n (omega (arith, long)))
          ∙ ap (λ (xs : List ℕ). behind (Fits xs)) (all_taken n bytes long)
      by_room false short is = absurd (cc)

  append_does : (volume : ℕ) → volume ≤ 200 → DoesSomething seed c words entries (AppendMade volume)
  append_does volume few =
      elim (cases_Bool c.info.protected) [
        | inl mark ↦ record {
          acts = [];
          answer = status.Protected;
          does = inl (mark, refl, refl);
          next = λ is. absurd (cc);
        }
        | inr free ↦ elim (listed_reads c words entries listed free) [
          | inl (table, reads, shown) ↦ record {
            acts = made_acts seed c words entries table volume;
            answer = made_answer seed words entries volume;
            does = inr (free, inl (record { table = table; reads = reads; does = refl; answered = refl }));
            next = λ done.
                subst (λ (es : List Entry). IsListed (changed_by (steps_of (made_acts seed c words entries table volume)) c) words es)
                (made_behind table volume done)
                (append_listed c words entries table (made_name volume) 0 (Some (made_length seed volume)) silently
                (made_bytes seed volume) listed free reads
                (made_label volume few) (omega arith));
          }
          | inr (lost, says) ↦ record {
            acts = [];
            answer = status.Lost 2 lost;
            does = inr (free, inr (lost, says, refl, refl));
            next = λ is. absurd (cc);
          }
        ]
      ]

  wear_does : (segment sector : ℕ) → DoesSomething seed c words entries (WearSector segment sector)
  wear_does segment sector = record {
    acts = record { steps = Wear segment sector ∷ []; text = [] } ∷ [];
    answer = status.Done;
    does = (refl, refl);
    next = λ is. wear_listed c words entries segment sector listed;
  }

  scrub_does : DoesSomething seed c words entries ScrubAll
  scrub_does =
      elim (cases_Bool c.info.protected) [
        | inl mark ↦ record {
          acts = [];
          answer = status.Protected;
          does = inl (mark, refl, refl);
          next = λ is. absurd (cc);
        }
        | inr free ↦
            let scrub = scrubs_anyway c words entries in
            record {
              acts = scrub.0;
              answer = status.Done;
              does = inr (free, (scrub.1, refl));
              next = λ is. scrub_listed c words entries scrub.0 listed free scrub.1;
            }
      ]

  sum_does : (number : ℕ) (e : Entry) → volume_at entries number ≡ Some e → DoesSomething seed c words entries (SumVolume number)
  sum_does number e there =
      let gives = restores_anyway c words (pieces words e) in
      record {
        acts = sum_acts number (volume_length words e) (text_of gives.0) gives.1;
        answer = ending_status gives.1;
        does = record { entry = e; numbered = there; acts = gives.0; ending = gives.1; restores = gives.2; is = (refl, refl) };
        next = λ is.
            subst (λ (steps : List Step). IsListed (changed_by steps c) words entries)
            (sym (sum_in_no_step number (volume_length words e) (text_of gives.0) gives.1)) listed;
      }

  does_something : (item : MakeStep) → CanDo entries item → DoesSomething seed c words entries item
  does_something (AppendMade volume) can = append_does volume can
  does_something (WearSector segment sector) can = wear_does segment sector
  does_something ScrubAll can = scrub_does
  does_something (SumVolume number) (e, there) = sum_does number e there

-- ---- steps one after the other

abbrev pub CanRun : (seed : ℕ) (words : List ℕ) → List Entry → List MakeStep → Type 0
CanRun seed words entries [] = Unit {0}
CanRun seed words entries (item ∷ items) = CanDo entries item × CanRun seed words (after_item seed words entries item) items

runs_somehow : (seed : ℕ) (words : List ℕ) (items : List MakeStep) (c : Cartridge) (entries : List Entry) → IsListed c words entries →
    CanRun seed words entries items →
    (acts : List Act) × (answer : Status) × Runs seed c words entries items acts answer
runs_somehow seed words [] c entries listed can = ([], status.Done, (refl, refl))
runs_somehow seed words (item ∷ items) c entries listed can =
    let some : DoesSomething seed c words entries item = does_something seed c words entries listed item can.0 in
    elim (done_or_not some.answer) [
      | inl done ↦
          let rest = runs_somehow seed words items (changed_by (steps_of some.acts) c) (after_item seed words entries item)
          (some.next done) can.1 in (
            some.acts ++ rest.0,
            rest.1,
            inr (some.acts, rest.0, refl, subst (StepDoes seed c words entries item some.acts) done some.does, rest.2),
          )
      | inr other ↦ (some.acts, some.answer, inl (other, some.does))
    ]

can_both : (seed : ℕ) (words : List ℕ) (xs ys : List MakeStep) (entries : List Entry) → CanRun seed words entries xs →
    CanRun seed words (after_items seed words entries xs) ys →
    CanRun seed words entries (xs ++ ys)
can_both seed words [] ys entries first next = next
can_both seed words (x ∷ xs) ys entries first next = (first.0, can_both seed words xs ys (after_item seed words entries x) first.1 next)

-- ---- which steps can run

can_append : (seed : ℕ) (words : List ℕ) (volume count : ℕ) (entries : List Entry) → volume + count ≤ 201 →
    CanRun seed words entries (appending volume count)
can_append seed words volume zero entries few = tt
can_append seed words volume (suc count) entries few =
    (omega arith, can_append seed words (volume + 1) count (entries ++ made_entry seed words entries volume ∷ []) (omega arith))

abbrev pub AreWears : List MakeStep → Type 0
AreWears [] = Unit {0}
AreWears (AppendMade volume ∷ items) = ⊥
AreWears (WearSector segment sector ∷ items) = AreWears items
AreWears (ScrubAll ∷ items) = ⊥
AreWears (SumVolume number ∷ items) = ⊥

wears_both : (xs ys : List MakeStep) → AreWears xs → AreWears ys → AreWears (xs ++ ys)
wears_both [] ys first next = next
wears_both (AppendMade volume ∷ xs) ys first next = absurd first
wears_both (WearSector segment sector ∷ xs) ys first next = wears_both xs ys first next
wears_both (ScrubAll ∷ xs) ys first next = absurd first
wears_both (SumVolume number ∷ xs) ys first next = absurd first

can_wear : (seed : ℕ) (words : List ℕ) (entries : List Entry) (items : List MakeStep) → AreWears items → CanRun seed words entries items
can_wear seed words entries [] are = tt
can_wear seed words entries (AppendMade volume ∷ items) are = absurd are
can_wear seed words entries (WearSector segment sector ∷ items) are = (tt, can_wear seed words entries items are)
can_wear seed words entries (ScrubAll ∷ items) are = absurd are
can_wear seed words entries (SumVolume number ∷ items) are = absurd are

wears_one : (segment : ℕ) (sectors : List ℕ) → AreWears (wearing segment sectors)
wears_one segment [] = tt
wears_one segment (sector ∷ sectors) = wears_one segment sectors

wears_if : (b : Bool) (items : List MakeStep) → AreWears items → AreWears (cond b items [])
wears_if true items are = are
wears_if false items are = tt

wears_in : (words segments : List ℕ) → AreWears (wearing_in words segments)
wears_in words [] = tt
wears_in words (s ∷ ss) =
    wears_both (cond (s % 100 == 0) (wearing s (first_two words s)) []) (wearing_in words ss)
    (wears_if (s % 100 == 0) (wearing s (first_two words s)) (wears_one s (first_two words s))) (wears_in words ss)

pub wears_volumes : (words : List ℕ) (es : List Entry) → AreWears (wearing_volumes words es)
wears_volumes words [] = tt
wears_volumes words (e ∷ es) =
    wears_both (wearing_in words (carrying_segments words e)) (wearing_volumes words es) (wears_in words (carrying_segments words e))
    (wears_volumes words es)

pub entry_there : (es : List Entry) (n : ℕ) → n < length es → (e : Entry) × (slice_get es n ≡ Some e)
entry_there [] n within = absurd (omega arith)
entry_there (e ∷ es) zero within = (e, refl)
entry_there (e ∷ es) (suc n) within = entry_there es n (omega arith)

numbered : (es : List Entry) (number : ℕ) → 1 ≤ number → number ≤ length es → (e : Entry) × (volume_at es number ≡ Some e)
numbered es zero some within = absurd (omega arith)
numbered es (suc n) some within = entry_there es n (omega arith)

can_sum : (seed : ℕ) (words : List ℕ) (es : List Entry) (number count : ℕ) → 1 ≤ number → number + count ≤ length es + 1 →
    CanRun seed words es (summing number count)
can_sum seed words es number zero some within = tt
can_sum seed words es number (suc count) some within =
    (numbered es number some (omega arith), can_sum seed words es (number + 1) count (omega arith) (omega arith))

-- ---- a run

pub can_make : (seed count : ℕ) (words : List ℕ) (entries : List Entry) → count ≤ 200 →
    CanRun seed words entries (making seed count words entries)
can_make seed count words entries few =
    let made : List Entry = made_list seed count words entries in
    let wears : List MakeStep = wearing_volumes words (drop (length entries) made) in
    let sums : List MakeStep = summing (length entries + 1) count in
    let long : length made ≡ length entries + count = length-made seed words entries 1 count in
    can_both seed words (appending 1 count) (wears ++ ScrubAll ∷ sums) entries (can_append seed words 1 count entries (omega arith))
    (can_both seed words wears (ScrubAll ∷ sums) made (can_wear seed words made wears (wears_volumes words (drop (length entries) made)))
    (subst (λ (es : List Entry). CanRun seed words es (ScrubAll ∷ sums))
    (sym (after_wearing_volumes seed words made (drop (length entries) made)))
    (tt, can_sum seed words made (length entries + 1) count (omega arith) (omega arith))))

pub makes_something : MakesSomething
makes_something seed count c words entries listed few =
    runs_somehow seed words (making seed count words entries) c entries listed (can_make seed count words entries few)
