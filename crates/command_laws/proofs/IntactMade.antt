-- A generated run, done or stopped, on a cartridge whose whole table holds what it should.
use Rattle.std.proofs.Common.{◌≡◌, ◌∙◌, ◌++◌, ◌+◌, ◌≤◌, zero, suc, ℕ, List, [], ◌∷◌, Option, Some, IsSomeAnd, inl, inr, ap, sym, subst}
use Rattle.std.proofs.Common.{refl, arith, length, drop, true, ◌≢◌}
use Rattle.std.proofs.lemmas.Bool.{cases_Bool}
use Rattle.cartridge_spec.specs.Appending.{has_room, with_all}
use Rattle.cartridge_spec.specs.Settling.{changed_by}
use Rattle.cartridge_spec.specs.Table.{Entry}
use Rattle.cartridge_spec.specs.Volumes.{Plain, entries_of, volume_length, worn}
use Rattle.command_laws.proofs.IntactKeeping.{appends_leave_intact, intact_is_one, scrubs_leave_intact, wears_leave_intact}
use Rattle.command_laws.proofs.IntactKeeping.{whole_needs_no_steps, less_comes, next_comes, one_comes}
use Rattle.command_laws.proofs.MadeAnswered.{append_prints_nothing, quiet_front, torn_behind, two_fronts}
use Rattle.command_laws.proofs.MadeMachineLaws.{never_unlocked}
use Rattle.command_laws.proofs.MadeStops.{AreStill, IsStill, StillBehind, append_is, behind_is_still, behind_next, done_append, made_one}
use Rattle.command_laws.proofs.MadeStops.{entries_more, made_named, only_settled, still_after, steps_are, sum_in_no_step}
use Rattle.command_laws.proofs.MountedKeeping.{acts_stopped, changed_by_acts, kept_open, lies_apart}
use Rattle.command_laws.specs.Intact.{AppendLeavesIntact, DoneMakeIsIntact, IsIntact, StoppedMakeComesBack, PrintedMakeComesBack}
use Rattle.command_spec.specs.Make.{made_bytes, AppendMade, MakeStep, Runs, ScrubAll, StepDoes, SumVolume, WearSector, appending, made_list}
use Rattle.command_spec.specs.Make.{summing, wearing_volumes, made_contents}
use Rattle.command_spec.specs.OneLoss.{ComesBackAsOneOf, SomeComeBack}
use Rattle.qic_base.proofs.Joins.{text_of-append}
use Rattle.qic_base.specs.Acts.{Act, steps_of, text_of, next_steps}
use Rattle.qic_base.specs.Cartridge.{Cartridge}
use Rattle.qic_base.specs.Step.{Step, Wear, Torn}
use Rattle.command_spec.specs.declared.status.Status.{Status}
use Rattle.command_spec.specs.declared.status.Status.TheVariants as status
use Rattle.cartridge_laws.specs.AppendLaws.{with_content}

-- ---- an append

module _ (seed : ℕ) (c : Cartridge) (plain : Plain) (intact : IsIntact c plain) (volume : ℕ) (small : volume ≤ 200) where
  abbrev more : Plain
  more = with_content plain (made_one seed volume)

  leaves : has_room plain (length (made_bytes seed volume)) ≡ true → AppendLeavesIntact c plain (made_one seed volume)
  leaves enough = appends_leave_intact c plain (made_one seed volume) intact (made_named seed volume small) enough

  done_append_intact : (acts : List Act) → StepDoes seed c plain.words (entries_of plain) (AppendMade volume) acts status.Done →
      IsIntact (changed_by (steps_of acts) c) more
  done_append_intact acts does =
      let did = done_append seed c plain (kept_open c plain intact.kept) volume acts does in
      let now = leaves did.0 in
      subst (λ (steps : List Step). IsIntact (changed_by steps c) more) (sym did.1) now.done

  stopped_append_comes : (acts : List Act) (answer : Status) (left : Option Cartridge) → StepDoes seed c plain.words (entries_of plain)
      (AppendMade volume) acts answer →
      Torn (steps_of acts) (Some c) left → IsSomeAnd left (ComesBackAsOneOf plain more)
  stopped_append_comes acts answer left does torn =
      let here = kept_open c plain intact.kept in
      let is = append_is seed c plain here volume acts answer does in
      elim (cases_Bool (has_room plain (length (made_bytes seed volume)))) [
        | inl enough ↦
            let now = leaves enough in
            now.stopped left (subst (λ (steps : List Step). Torn steps (Some c) left)
            (ap steps_of is.does ∙ steps_are seed c plain here volume is.table is.reads enough) torn)
        | inr short ↦
            intact_is_one c plain more left intact
            (subst (λ (steps : List Step). Torn steps (Some c) left)
            (ap steps_of is.does ∙ only_settled seed c plain here volume is.table is.reads short
            ∙ whole_needs_no_steps c plain.table_area intact.table intact.kept.unprotected) torn)
      ]

-- ---- the other steps

still_done : (seed : ℕ) (c : Cartridge) (plain : Plain) (item : MakeStep) (acts : List Act) → IsStill item → IsIntact c plain →
    StepDoes seed c plain.words (entries_of plain) item acts status.Done → IsIntact (changed_by (steps_of acts) c) plain
still_done seed c plain (AppendMade volume) acts still intact does = absurd still
still_done seed c plain (WearSector segment sector) acts still intact does =
    subst (λ (zs : List Act). IsIntact (changed_by (steps_of zs) c) plain) (sym does.0)
    (wears_leave_intact c plain segment sector intact (inl still.0) (lies_apart segment still.0) still.1)
still_done seed c plain ScrubAll acts still intact (inl refused) = absurd (never_unlocked c refused.0 intact.kept.unprotected)
still_done seed c plain ScrubAll acts still intact (inr (free, done)) = let now = scrubs_leave_intact c plain acts intact done.0 in now.done
still_done seed c plain (SumVolume number) acts still intact does =
    subst (λ (steps : List Step). IsIntact (changed_by steps c) plain)
    (sym (ap steps_of does.is.0 ∙ sum_in_no_step number (volume_length plain.words does.entry) (text_of does.acts) does.ending)) intact

still_stopped : (seed : ℕ) (c : Cartridge) (plain : Plain) (item : MakeStep) (acts : List Act) (answer : Status) (left : Option Cartridge) →
    IsStill item → IsIntact c plain →
    StepDoes seed c plain.words (entries_of plain) item acts answer → Torn (steps_of acts) (Some c) left →
    IsSomeAnd left (ComesBackAsOneOf plain plain)
still_stopped seed c plain (AppendMade volume) acts answer left still intact does torn = absurd still
still_stopped seed c plain (WearSector segment sector) acts answer left still intact does torn =
    by_torn (subst (λ (zs : List Act). Torn (steps_of zs) (Some c) left) does.0 torn)
  where
    by_torn : Torn (Wear segment sector ∷ []) (Some c) left → IsSomeAnd left (ComesBackAsOneOf plain plain)
    by_torn (inl is) = intact_is_one c plain plain left intact is
    by_torn (inr (inl half)) = absurd half
    by_torn (inr (inr is)) = intact_is_one (worn segment sector c) plain plain left
        (wears_leave_intact c plain segment sector intact (inl still.0) (lies_apart segment still.0) still.1) is
still_stopped seed c plain ScrubAll acts answer left still intact (inl refused) torn =
    absurd (never_unlocked c refused.0 intact.kept.unprotected)
still_stopped seed c plain ScrubAll acts answer left still intact (inr (free, done)) torn =
    let now = scrubs_leave_intact c plain acts intact done.0 in now.stopped left torn
still_stopped seed c plain (SumVolume number) acts answer left still intact does torn =
    intact_is_one c plain plain left intact
    (subst (λ (steps : List Step). Torn steps (Some c) left)
    (ap steps_of does.is.0 ∙ sum_in_no_step number (volume_length plain.words does.entry) (text_of does.acts) does.ending) torn)

stills_stopped : (seed : ℕ) (items : List MakeStep) (c : Cartridge) (plain : Plain) (acts : List Act) (answer : Status)
    (left : Option Cartridge) → AreStill items → IsIntact c plain →
    Runs seed c plain.words (entries_of plain) items acts answer → Torn (steps_of acts) (Some c) left →
    IsSomeAnd left (ComesBackAsOneOf plain plain)
stills_stopped seed [] c plain acts answer left still intact (none, done) torn =
    intact_is_one c plain plain left intact (subst (λ (zs : List Act). Torn (steps_of zs) (Some c) left) none torn)
stills_stopped seed (item ∷ items) c plain acts answer left still intact (inl (other, does)) torn =
    still_stopped seed c plain item acts answer left still.0 intact does torn
stills_stopped seed (item ∷ items) c plain acts answer left still intact (inr (first, rest, parts, does, more)) torn =
    elim (acts_stopped first rest acts c left parts torn) [
      | inl here ↦ still_stopped seed c plain item first status.Done left still.0 intact does here
      | inr behind ↦ stills_stopped seed items (changed_by (steps_of first) c) plain rest answer left still.1
          (still_done seed c plain item first still.0 intact does)
          (subst (λ (es : List Entry). Runs seed (changed_by (steps_of first) c) plain.words es items rest answer)
          (still_after seed plain.words (entries_of plain) item still.0) more) behind
    ]

stills_done : (seed : ℕ) (items : List MakeStep) (c : Cartridge) (plain : Plain) (acts : List Act) → AreStill items → IsIntact c plain →
    Runs seed c plain.words (entries_of plain) items acts status.Done → IsIntact (changed_by (steps_of acts) c) plain
stills_done seed [] c plain acts still intact (none, done) = subst (λ (steps : List Step). IsIntact (changed_by steps c) plain)
    (sym (ap steps_of none)) intact
stills_done seed (item ∷ items) c plain acts still intact (inl (other, does)) = absurd (other refl)
stills_done seed (item ∷ items) c plain acts still intact (inr (first, rest, parts, does, more)) =
    let d : Cartridge = changed_by (steps_of first) c in
    let now : IsIntact (changed_by (steps_of rest) d) plain = stills_done seed items d plain rest still.1
    (still_done seed c plain item first still.0 intact does)
    (subst (λ (es : List Entry). Runs seed d plain.words es items rest status.Done)
    (still_after seed plain.words (entries_of plain) item still.0) more) in
    subst (λ (e : Cartridge). IsIntact e plain)
    (sym (ap (λ (zs : List Act). changed_by (steps_of zs) c) (sym parts) ∙ changed_by_acts first rest c)) now

-- ---- the appends, and what comes behind them

module _ (seed : ℕ) (rest : List MakeStep) where
  abbrev standing : Plain → (volume n : ℕ) → Plain
  standing plain volume n = with_all plain (made_contents seed volume n)

  in_append : (plain : Plain) (volume n : ℕ) (left : Option Cartridge) →
      IsSomeAnd left (ComesBackAsOneOf plain (with_content plain (made_one seed volume))) →
      SomeComeBack (standing plain volume) 0 (suc n) left
  in_append plain volume n left comes = record {
    one = 0;
    other = 1;
    from = omega arith;
    next = (omega arith, omega arith);
    within = omega arith;
    comes = comes;
  }

  comes_next : (plain : Plain) (volume least n : ℕ) (left : Option Cartridge) →
      SomeComeBack (standing (with_content plain (made_one seed volume)) (volume + 1)) least n left →
      SomeComeBack (standing plain volume) (suc least) (suc n) left
  comes_next plain volume least n left back = next_comes (standing plain volume) least n left back

  -- behind all of them
  still_comes : (c : Cartridge) (plain : Plain) (volume : ℕ) (acts : List Act) (answer : Status) (left : Option Cartridge) →
      IsIntact c plain → StillBehind seed plain.words (entries_of plain) volume 0 rest →
      Runs seed c plain.words (entries_of plain) rest acts answer → Torn (steps_of acts) (Some c) left →
      SomeComeBack (standing plain volume) 0 0 left
  still_comes c plain volume acts answer left intact still runs torn =
      one_comes (standing plain volume) 0 left
      (stills_stopped seed rest c plain acts answer left (still c plain intact.kept.stands refl refl) intact runs torn)

  appends_come_back : (n : ℕ) (c : Cartridge) (plain : Plain) (volume : ℕ) (acts : List Act) (answer : Status) (left : Option Cartridge) →
      volume + n ≤ 201 → IsIntact c plain →
      StillBehind seed plain.words (entries_of plain) volume n rest →
      Runs seed c plain.words (entries_of plain) (appending volume n ++ rest) acts answer → Torn (steps_of acts) (Some c) left →
      SomeComeBack (standing plain volume) 0 n left
  appends_come_back zero c plain volume acts answer left few intact still runs torn =
      still_comes c plain volume acts answer left intact still runs torn
  appends_come_back (suc n) c plain volume acts answer left few intact still (inl (other, does)) torn =
      in_append plain volume n left (stopped_append_comes seed c plain intact volume (omega arith) acts answer left does torn)
  appends_come_back (suc n) c plain volume acts answer left few intact still (inr (first, rear, parts, does, more)) torn =
      let next : Plain = with_content plain (made_one seed volume) in
      let small : volume ≤ 200 = omega arith in
      elim (acts_stopped first rear acts c left parts torn) [
        | inl here ↦ in_append plain volume n left (stopped_append_comes seed c plain intact volume small first status.Done left does here)
        | inr behind ↦
            less_comes (standing plain volume) 0 1 (suc n) left (omega arith)
            (comes_next plain volume 0 n left
            (appends_come_back n (changed_by (steps_of first) c) next (volume + 1) rear answer left (omega arith)
            (done_append_intact seed c plain intact volume small first does) (behind_next seed rest plain volume n still)
            (subst (λ (es : List Entry). Runs seed (changed_by (steps_of first) c) plain.words es
            (appending (volume + 1) n ++ rest) rear answer)
            (sym (entries_more seed plain volume)) more) behind))
      ]

  -- nothing is printed before they are all done
  appends_printed : (n : ℕ) (c : Cartridge) (plain : Plain) (volume : ℕ) (acts front rear : List Act) (answer : Status)
      (left : Option Cartridge) → volume + n ≤ 201 → IsIntact c plain →
      StillBehind seed plain.words (entries_of plain) volume n rest →
      Runs seed c plain.words (entries_of plain) (appending volume n ++ rest) acts answer → front ++ rear ≡ acts → text_of front ≢ [] →
      Torn (next_steps rear) (Some (changed_by (steps_of front) c)) left → SomeComeBack (standing plain volume) n n left
  appends_printed zero c plain volume acts front rear answer left few intact still runs parts printed torn =
      still_comes c plain volume acts answer left intact still runs (torn_behind front rear acts c left parts torn)
  appends_printed (suc n) c plain volume acts front rear answer left few intact still (inl (other, does)) parts printed torn =
      absurd (printed (quiet_front front rear acts parts
      (append_prints_nothing seed c plain.words (entries_of plain) volume acts answer does)))
  appends_printed (suc n) c plain volume acts front rear answer left few intact still
      (inr (first, behind, joined, does, more)) parts printed torn =
      let next : Plain = with_content plain (made_one seed volume) in
      let quiet : text_of first ≡ [] = append_prints_nothing seed c plain.words (entries_of plain) volume first status.Done does in
      elim (two_fronts front rear first behind (parts ∙ sym joined)) [
        | inl (some, is) ↦ absurd (printed (quiet_front front some first is quiet))
        | inr (later, is, parted) ↦
            comes_next plain volume n n left
            (appends_printed n (changed_by (steps_of first) c) next (volume + 1) behind later rear answer left (omega arith)
            (done_append_intact seed c plain intact volume (omega arith) first does) (behind_next seed rest plain volume n still)
            (subst (λ (es : List Entry). Runs seed (changed_by (steps_of first) c) plain.words es
            (appending (volume + 1) n ++ rest) behind answer)
            (sym (entries_more seed plain volume)) more) parted
            (λ none. printed (ap text_of (sym is) ∙ text_of-append first later ∙ ap (λ (text : List ℕ). text ++ text_of later) quiet
            ∙ none))
            (subst (λ (d : Cartridge). Torn (next_steps rear) (Some d) left)
            (ap (λ (zs : List Act). changed_by (steps_of zs) c) (sym is) ∙ changed_by_acts first later c) torn))
      ]

  appends_intact : (n : ℕ) (c : Cartridge) (plain : Plain) (volume : ℕ) (acts : List Act) → volume + n ≤ 201 → IsIntact c plain →
      StillBehind seed plain.words (entries_of plain) volume n rest →
      Runs seed c plain.words (entries_of plain) (appending volume n ++ rest) acts status.Done → IsIntact (changed_by (steps_of acts) c)
      (standing plain volume n)
  appends_intact zero c plain volume acts few intact still runs = stills_done seed rest c plain acts
      (still c plain intact.kept.stands refl refl) intact runs
  appends_intact (suc n) c plain volume acts few intact still (inl (other, does)) = absurd (other refl)
  appends_intact (suc n) c plain volume acts few intact still (inr (first, rear, parts, does, more)) =
      let next : Plain = with_content plain (made_one seed volume) in
      let d : Cartridge = changed_by (steps_of first) c in
      let now : IsIntact (changed_by (steps_of rear) d) (standing next (volume + 1) n) =
      appends_intact n d next (volume + 1) rear (omega arith) (done_append_intact seed c plain intact volume (omega arith) first does)
      (behind_next seed rest plain volume n still)
      (subst (λ (es : List Entry). Runs seed d plain.words es (appending (volume + 1) n ++ rest) rear status.Done)
      (sym (entries_more seed plain volume)) more) in
      subst (λ (e : Cartridge). IsIntact e (standing next (volume + 1) n))
      (sym (ap (λ (zs : List Act). changed_by (steps_of zs) c) (sym parts) ∙ changed_by_acts first rear c)) now

-- ---- a run

abbrev behind_them : (seed count : ℕ) → Plain → List MakeStep
behind_them seed count plain =
    wearing_volumes plain.words (drop (length (entries_of plain)) (made_list seed count plain.words (entries_of plain))) ++ ScrubAll ∷
    summing (length (entries_of plain) + 1) count

pub stopped_make_comes_back : StoppedMakeComesBack
stopped_make_comes_back seed count c plain acts answer left few intact makes torn =
    appends_come_back seed (behind_them seed count plain) count c plain 1 acts answer left (omega arith) intact
    (behind_is_still seed count plain.words (entries_of plain)) makes torn

pub printed_make_comes_back : PrintedMakeComesBack
printed_make_comes_back seed count c plain acts front rest answer left few intact makes parts printed torn =
    appends_printed seed (behind_them seed count plain) count c plain 1 acts front rest answer left (omega arith) intact
    (behind_is_still seed count plain.words (entries_of plain)) makes parts printed torn

pub done_make_is_intact : DoneMakeIsIntact
done_make_is_intact seed count c plain acts few intact makes =
    appends_intact seed (behind_them seed count plain) count c plain 1 acts (omega arith) intact
    (behind_is_still seed count plain.words (entries_of plain)) makes
