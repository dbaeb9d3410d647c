-- How `check` ends: with its counts, refused, or cut off.
use Rattle.std.proofs.Common.{◌≡◌, ◌≢◌, ◌<◌, ◌≤◌, ◌∙◌, ℕ, ◌+◌, ◌*◌, Bool, List, [], true, false, None, refl, subst, sym, inl, inr}
use Rattle.std.proofs.Common.{arith, if◌then◌else◌}
use Rattle.std.proofs.lemmas.Bool.{cases_eq, eq-eqb, le-leb, lt-ltb, false≢true}
use Rattle.std.specs.Prelude.{◌==◌, ◌&&◌, nat_lt}
use Rattle.cartridge_check.specs.Checking.{CheckCut, CheckFails, HasChecked, WasRefused, ended, fault_status, is_refusal}
use Rattle.cartridge_check.specs.Checking.{tally_status}
use Rattle.cartridge_check.specs.declared.fault.CheckFault.{CheckFault}
use Rattle.cartridge_check.specs.declared.tally.Tally.{Tally}
use Rattle.command_laws.proofs.StoreTaking.{both_true}
use Rattle.command_laws.proofs.CommandEndings.{appends_none}
use Rattle.command_laws.specs.RunTerms.{EndsBlind}
use Rattle.command_spec.specs.Check.{IsCheck, check_refused}
use Rattle.command_spec.specs.Machine.{fault_of, may_come_from}
use Rattle.command_spec.specs.Numbers.{are_too_many, is_segment_count}
use Rattle.command_spec.specs.declared.status.Status.{Status}
use Rattle.hand_commands.proofs.Endings.{none_taken, told_map}
use Rattle.qic_base.specs.Acts.{Failing, TapeFails, SourceFails, SinkFails, text_of}
use Rattle.qic_base.specs.Alone.{around}
use Rattle.qic_base.specs.declared.TheConstants.{LONGEST}
use Rattle.cartridge_check.specs.declared.fault.CheckFault.TheVariants as fault
use Rattle.command_spec.specs.declared.status.Status.TheVariants as status
use Rattle.command_spec.specs.declared.words.Words.TheVariants as words
use Rattle.qic_base.specs.Sink as sinks
use Rattle.qic_base.specs.Tape as tapes

-- ---- its answers

-- the answer where nothing is counted, or so many are
abbrev by_counts : (clean : Bool) (mendable bad : ℕ) → Status
by_counts clean mendable bad = if clean then status.Done else status.Unsound mendable bad

some_counted : (mendable bad : ℕ) → (mendable == 0 && bad == 0) ≡ false → 0 < mendable + bad
some_counted mendable bad some = elim (cases_eq mendable 0) [
  | inr apart ↦ omega (arith, apart)
  | inl none ↦ elim (cases_eq bad 0) [
    | inr apart ↦ omega (arith, apart)
    | inl neither ↦ absurd (false≢true (sym some ∙ both_true (mendable == 0) (bad == 0) (eq-eqb mendable 0 none) (eq-eqb bad 0 neither)))
  ]
]

counts_sound : (clean : Bool) (mendable bad : ℕ) → (mendable == 0 && bad == 0) ≡ clean → mendable + bad ≤ 28 * LONGEST →
    may_come_from (by_counts clean mendable bad) words.Check ≡ true
counts_sound true mendable bad is few = refl
counts_sound false mendable bad is few =
    both_true (nat_lt 0 (mendable + bad)) (is_segment_count (mendable + bad)) (lt-ltb 0 (mendable + bad) (some_counted mendable bad is))
    (le-leb (mendable + bad) (28 * LONGEST) few)

counts_printed : (clean : Bool) (mendable bad : ℕ) (text : List ℕ) → by_counts clean mendable bad ≢ status.Done →
    IsCheck (by_counts clean mendable bad) text → check_refused (by_counts clean mendable bad) text
counts_printed true mendable bad text unlike is = absurd (unlike refl)
counts_printed false mendable bad text unlike is = is

refusal_sound : (why : CheckFault) → is_refusal why ≡ true → may_come_from (fault_status why) words.Check ≡ true
refusal_sound fault.NoCartridge sound = refl
refusal_sound fault.NotFormatted sound = refl
refusal_sound (fault.Foreign field value) sound = sound
refusal_sound (fault.Lost lost) sound = both_true (are_too_many lost) true sound refl
refusal_sound fault.TableMismatch sound = refl
refusal_sound why sound = absurd (cc)

refusal_undone : (why : CheckFault) → fault_status why ≢ status.Done
refusal_undone fault.NoCartridge is = cc
refusal_undone fault.NotFormatted is = cc
refusal_undone (fault.Foreign field value) is = cc
refusal_undone (fault.Lost lost) is = cc
refusal_undone fault.TableMismatch is = cc
refusal_undone fault.Sink is = cc
refusal_undone fault.Tape is = cc

-- ---- its ends

module _ {T K : Type 0} (t : tapes.Meaning T) (k : sinks.Meaning K) (a b : T) (x y : K) where
  pub checked : (tally : Tally) → HasChecked t k (around a x) (around b y) tally → EndsBlind t k words.Check a b x y (tally_status tally)
  checked tally is = inl (record {
    outcome = ended is.acts (tally_status tally);
    answered = refl;
    told = told_map (t.told a) _ _ is.told (λ held does. ([], tt, (appends_none words.Check None [] refl, does)));
    went = is.went;
    left = none_taken (tally_status tally) 0;
    sound = counts_sound (tally.mendable == 0 && tally.bad == 0) tally.mendable tally.bad refl is.few;
    none_taken = λ blind. refl;
    prints = (
      (λ done. subst (λ (answer : Status). IsCheck answer (text_of is.acts)) done is.prints),
      (λ unlike.
          counts_printed (tally.mendable == 0 && tally.bad == 0) tally.mendable tally.bad (text_of is.acts) unlike is.prints),
    );
    silent = λ still. absurd (cc);
    fault = tt;
  })

  turned : (why : CheckFault) → WasRefused t k (around a x) (around b y) why → EndsBlind t k words.Check a b x y (fault_status why)
  turned why is = inl (record {
    outcome = ended is.acts (fault_status why);
    answered = refl;
    told = told_map (t.told a) _ _ is.told (λ held does. ([], tt, (appends_none words.Check None [] refl, does)));
    went = is.went;
    left = none_taken (fault_status why) 0;
    sound = refusal_sound why is.sound;
    none_taken = λ blind. refl;
    prints = ((λ done. absurd (refusal_undone why done)), (λ unlike. is.prints));
    silent = λ still. absurd (cc);
    fault = tt;
  })

  cut : (failing : Failing) → failing ≢ SourceFails → CheckCut t k (around a x) (around b y) failing →
      EndsBlind t k words.Check a b x y (fault_of failing)
  cut failing other is = inr (
    failing,
    refl,
    record {
      told = told_map (t.told a) _ _ is.told
          (λ held each. (
            [],
            tt,
            (
              appends_none words.Check None [] refl,
              λ outcome does. record {
                cut = each outcome does;
                taken = 0;
                left = refl;
                reaches = omega arith;
                done = λ sink still. absurd (cc);
                silent = λ still. absurd (cc);
              },
            ),
          ));
      acts = is.acts;
      cut = is.cut;
      front = is.front;
      silent = λ still. absurd (cc);
      reads = λ same. absurd (other same);
      source_tells = refl;
    },
  )

  pub check_failed : (why : CheckFault) → CheckFails t k (around a x) (around b y) why →
      EndsBlind t k words.Check a b x y (fault_status why)
  check_failed fault.Sink is = cut SinkFails (λ same. cc) is
  check_failed fault.Tape is = cut TapeFails (λ same. cc) is
  check_failed fault.NoCartridge is = turned fault.NoCartridge is
  check_failed fault.NotFormatted is = turned fault.NotFormatted is
  check_failed (fault.Foreign field value) is = turned (fault.Foreign field value) is
  check_failed (fault.Lost lost) is = turned (fault.Lost lost) is
  check_failed fault.TableMismatch is = turned fault.TableMismatch is
