-- What a run of `make` leaves of a cartridge that stands for a plain one, however it was answered.
use Rattle.std.proofs.Common.{◌≡◌, ◌≢◌, ℕ, zero, suc, ◌+◌, ◌≤◌, List, ◌∷◌, ◌++◌, Bool, false, cond, Option, Some, inl, inr, refl, sym, ap}
use Rattle.std.proofs.Common.{◌∙◌, subst, arith, drop, length}
use Rattle.std.proofs.lemmas.Bool.{cases_Bool}
use Rattle.cartridge_laws.proofs.FormatWriting.{effects-some}
use Rattle.cartridge_laws.proofs.MountKeeping.{stopped_stands}
use Rattle.cartridge_spec.specs.Appending.{has_room, with_all, room}
use Rattle.cartridge_spec.specs.Settling.{changed_by}
use Rattle.cartridge_spec.specs.Table.{Entry}
use Rattle.cartridge_spec.specs.Volumes.{Plain, Stands, entries_of}
use Rattle.command_laws.proofs.MadeCounting.{counts_behind, counts_more, counts_refused}
use Rattle.command_laws.proofs.MadeStops.{StillBehind, append_is, behind_is_still, behind_next, done_append_open, entries_more, made_one}
use Rattle.command_laws.proofs.MadeStops.{only_settled, same_room, stills_stopped}
use Rattle.command_laws.proofs.MountedKeeping.{changed_by_acts}
use Rattle.command_laws.specs.MadeLaws.{AnsweredMakeStands}
use Rattle.command_laws.specs.MountedKept.{IsOpen}
use Rattle.command_spec.specs.Append.{has_promised_room}
use Rattle.command_laws.specs.MadeTerms.{AppendedFrom}
use Rattle.command_spec.specs.Make.{made_bytes, made_length, made_contents, AppendMade, MakeStep, Runs, ScrubAll, StepDoes, appending}
use Rattle.command_spec.specs.Make.{made_list, summing, wearing_volumes}
use Rattle.qic_base.proofs.Steps.{Torn-all}
use Rattle.qic_base.specs.Acts.{Act, steps_of}
use Rattle.qic_base.specs.Cartridge.{Cartridge}
use Rattle.qic_base.specs.Step.{Step, Torn}
use Rattle.command_spec.specs.declared.status.Status.{Status}
use Rattle.command_spec.specs.declared.status.Status.TheVariants as status
use Rattle.cartridge_laws.specs.AppendLaws.{with_content}

-- all steps done are a stop behind the last
all_done : (steps : List Step) (c : Cartridge) → Torn steps (Some c) (Some (changed_by steps c))
all_done steps c = subst (λ (o : Option Cartridge). Torn steps (Some c) o) (effects-some steps c) (Torn-all steps (Some c))

-- ---- an append that was refused

module _ (seed : ℕ) (c : Cartridge) (plain : Plain) (held : IsOpen c plain) (volume : ℕ) where
  abbrev fits : Bool
  fits = has_promised_room (room plain.words (entries_of plain)) (Some (made_length seed volume))

  -- it had no room
  no_room : (answer : Status) → answer ≢ status.Done →
      answer ≡ cond fits status.Done (status.Full (made_length seed volume) (room plain.words (entries_of plain))) →
      has_room plain (length (made_bytes seed volume)) ≡ false
  no_room answer other is =
      elim (cases_Bool (has_room plain (length (made_bytes seed volume)))) [
        | inl enough ↦ absurd (other (is
            ∙ ap (λ (b : Bool). cond b status.Done (status.Full (made_length seed volume) (room plain.words (entries_of plain))))
            (same_room seed c plain held volume ∙ enough)))
        | inr short ↦ short
      ]

  refused_append_stands : (acts : List Act) (answer : Status) → answer ≢ status.Done → StepDoes seed c plain.words (entries_of plain)
      (AppendMade volume) acts answer →
      Stands (changed_by (steps_of acts) c) plain
  refused_append_stands acts answer other does =
      let is = append_is seed c plain held volume acts answer does in
      stopped_stands c plain plain.table_area (Some (changed_by (steps_of acts) c)) held.stands held.table
      (subst (λ (steps : List Step). Torn steps (Some c) (Some (changed_by (steps_of acts) c)))
      (ap steps_of is.does ∙ only_settled seed c plain held volume is.table is.reads (no_room answer other is.answered))
      (all_done (steps_of acts) c))

-- ---- the appends, and what comes behind them

-- how many stand
record StandsAppended (seed : ℕ) (plain : Plain) (volume n : ℕ) (answer : Status) (d : Cartridge) : Type 0 where
  appended : ℕ
  within : appended ≤ n
  counts : AppendedFrom seed volume n plain.words (entries_of plain) answer appended
  stands : Stands d (with_all plain (made_contents seed volume appended))

module _ (seed : ℕ) (rest : List MakeStep) where
  appends_answered : (n : ℕ) (c : Cartridge) (plain : Plain) (volume : ℕ) (acts : List Act) (answer : Status) → volume + n ≤ 201 →
      IsOpen c plain →
      StillBehind seed plain.words (entries_of plain) volume n rest → Runs seed c plain.words (entries_of plain)
      (appending volume n ++ rest) acts answer →
      StandsAppended seed plain volume n answer (changed_by (steps_of acts) c)
  appends_answered zero c plain volume acts answer few held still runs = record {
    appended = 0;
    within = omega arith;
    counts = counts_behind seed volume rest c plain.words (entries_of plain) acts answer (still c plain held.stands refl refl) runs;
    stands = stills_stopped seed rest c plain acts answer (Some (changed_by (steps_of acts) c))
        (still c plain held.stands refl refl) held runs (all_done (steps_of acts) c);
  }
  appends_answered (suc n) c plain volume acts answer few held still (inl (other, does)) = record {
    appended = 0;
    within = omega arith;
    counts = counts_refused seed volume n c plain.words (entries_of plain) acts answer other does;
    stands = refused_append_stands seed c plain held volume acts answer other does;
  }
  appends_answered (suc n) c plain volume acts answer few held still (inr (first, rear, parts, does, more)) =
      let next : Plain = with_content plain (made_one seed volume) in
      let d : Cartridge = changed_by (steps_of first) c in
      let r : StandsAppended seed next (volume + 1) n answer (changed_by (steps_of rear) d) =
      appends_answered n d next (volume + 1) rear answer (omega arith) (done_append_open seed c plain held volume (omega arith) first does)
      (behind_next seed rest plain volume n still)
      (subst (λ (es : List Entry). Runs seed d plain.words es (appending (volume + 1) n ++ rest) rear answer)
      (sym (entries_more seed plain volume)) more) in
      record {
        appended = suc r.appended;
        within = (let few = r.within in omega arith);
        counts = counts_more seed volume n r.appended plain.words (entries_of plain) answer
            (subst (λ (es : List Entry). AppendedFrom seed (volume + 1) n plain.words es answer r.appended)
            (entries_more seed plain volume) r.counts);
        stands = subst (λ (e : Cartridge). Stands e (with_all next (made_contents seed (volume + 1) r.appended)))
            (sym (ap (λ (zs : List Act). changed_by (steps_of zs) c) (sym parts) ∙ changed_by_acts first rear c)) r.stands;
      }

-- ---- a run

pub answered_make_stands : AnsweredMakeStands
answered_make_stands seed count c plain acts answer few held makes =
    let rest : List MakeStep = wearing_volumes plain.words
    (drop (length (entries_of plain)) (made_list seed count plain.words (entries_of plain))) ++ ScrubAll ∷ summing
    (length (entries_of plain) + 1) count in
    let r = appends_answered seed rest count c plain 1 acts answer (omega arith) held
    (behind_is_still seed count plain.words (entries_of plain)) makes in
    (r.appended, r.within, r.counts, r.stands)
