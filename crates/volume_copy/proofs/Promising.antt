-- What a copy promises, by how its calls ended.
use Rattle.std.proofs.Common.{◌≡◌, ◌≢◌, ◌⊎◌, ◌↔◌, ℕ, true, false, List, [], ◌∷◌, length, map, arith, Option, Some, None, IfSome, refl, ap}
use Rattle.std.proofs.Common.{sym, subst, ◌∙◌, inl, inr}
use Rattle.std.specs.Prelude.{◌==◌}
use Rattle.std.proofs.lemmas.Bool.{eqb-true}
use Rattle.command_spec.specs.CopyPromises.{CopyEnds, CopyPromises, Decks, FromAnswers, HasKind, HasRisen, IsUnasked, PrintsCopies}
use Rattle.command_spec.specs.CopyPromises.{TargetComesBack, TargetGains, TargetGrows, TargetLives, ToAnswers}
use Rattle.command_spec.specs.CopyPromises.{ToLeaves}
use Rattle.command_spec.specs.Headline.{EachLeft}
use Rattle.command_spec.specs.declared.copy_status.CopyStatus.{CopyStatus}
use Rattle.qic_base.specs.Cartridge.{Cartridge}
use Rattle.volume_copy.proofs.Answering.{IsOther, no_text, none_joins, run_joins, run_kind, run_printed, run_risen}
use Rattle.volume_copy.proofs.Deciding.{from_left, from_stays, run_short, run_source, run_target}
use Rattle.volume_copy.proofs.Ends.{AtStart, decks_of, run_ended, runs_end}
use Rattle.volume_copy.proofs.Following.{Ended, complete, done, gave, gave_all, over, prints, returns, returns_all, to_gains}
use Rattle.volume_copy.proofs.Following.{to_grows, to_left, to_lives, to_returns}
use Rattle.volume_copy.specs.Printing.{PrintsLines}
use Rattle.volume_copy.specs.Runs.{CopyRuns, RunEnds, Units, is_asked}
use Rattle.qic_base.specs.declared.store_fault.StoreFault.TheVariants as fault
use Rattle.command_spec.specs.declared.copy_status.CopyStatus.TheVariants as status
use Rattle.qic_base.specs.Sink as sinks
use Rattle.qic_base.specs.Tape as tapes

if_told : (o : Option (Option Cartridge)) (P : Option Cartridge → Type 0) → ((held : Option Cartridge) → o ≡ Some held → P held) →
    IfSome o P
if_told None P each = tt
if_told (Some held) P each = each held refl

asked_or_not : (answer : CopyStatus) → IsUnasked answer ⊎ (is_asked answer ≡ true)
asked_or_not status.Usage = inl (inl refl)
asked_or_not status.NoMemory = inl (inr refl)
asked_or_not answer = inr refl

never_unasked : (answer : CopyStatus) → is_asked answer ≡ true → IsUnasked answer → ⊥
never_unasked answer asked (inl is) = let no = sym asked ∙ ap is_asked is in cc
never_unasked answer asked (inr is) = let no = sym asked ∙ ap is_asked is in cc

-- ---- words

pub some_words : {X : Type 0} (f : X → List ℕ) (items : List X) (n : ℕ) → n ≡ length items → (n == 0) ≡ false → map f items ≢ []
some_words f [] n long test none = let no : true ≡ false = sym (ap (λ (m : ℕ). m == 0) long) ∙ test in cc
some_words f (x ∷ xs) n long test none = cc

pub no_words : {X : Type 0} (f : X → List ℕ) (items : List X) (n : ℕ) → n ≡ length items → (n == 0) ≡ true → map f items ≡ []
no_words f [] n long test = refl
no_words f (x ∷ xs) n long test = let zero : n ≡ 0 = eqb-true n 0 test in absurd (omega (arith, long, zero))

-- there are some, and the answer says so
pub usage_is : (words : List (List ℕ)) → words ≢ [] → (status.Usage ≡ status.Usage) ↔ (words ≢ [])
usage_is words some = ((λ is. some), (λ other. refl))

-- there are none, and another answer
pub usage_not : (answer : CopyStatus) (words : List (List ℕ)) → answer ≢ status.Usage → words ≡ [] → (answer ≡ status.Usage) ↔ (words ≢ [])
usage_not answer words other none = ((λ is. absurd (other is)), (λ some. absurd (some none)))

pub asked_is_other : (answer : CopyStatus) → is_asked answer ≡ true → answer ≢ status.Usage
asked_is_other answer asked is = let no = sym asked ∙ ap is_asked is in cc

-- ---- the promises

-- what is so of both answers that are given unasked
of_unasked : (P : CopyStatus → Type 0) (answer : CopyStatus) → P status.Usage → P status.NoMemory → IsUnasked answer → P answer
of_unasked P answer usage memory (inl is) = subst P (sym is) usage
of_unasked P answer usage memory (inr is) = subst P (sym is) memory

module _ {A B K : Type 0} (a : tapes.Meaning A) (b : tapes.Meaning B) (k : sinks.Meaning K) (words : List (List ℕ)) (old new : Units A B K)
    (answer : CopyStatus) (laws : AtStart a b k (decks_of old))
    (usage : (answer ≡ status.Usage) ↔ (words ≢ [])) where
  abbrev before : Decks A B K
  before = decks_of old

  abbrev after : Decks A B K
  after = decks_of new

  -- the clauses that hold whether a drive was asked or not
  left_alive : Ended a b k before after laws answer → (from : Option Cartridge) → a.told before.from ≡ Some from → EachLeft b before.to
      after.to (ToLeaves from)
  left_alive ended from told = to_left a b k before after laws answer ended from told

  -- nothing was done, or a drive was asked
  unasked_ended : IsUnasked answer → new ≡ old → Ended a b k before after laws answer
  unasked_ended unasked same = inl (ap decks_of same, (λ is. no_done is unasked))
    where
      no_done : answer ≡ status.Done → IsUnasked answer → ⊥
      no_done is (inl not) = let no = sym not ∙ is in cc
      no_done is (inr not) = let no = sym not ∙ is in cc

  asked_ended : RunEnds a b k old new answer → Ended a b k before after laws answer
  asked_ended runs = inr (λ from to from_told to_told. run_ended a b k old new laws from to from_told to_told answer runs)

  unasked_promises : IsUnasked answer → new ≡ old → CopyPromises a b k words before after answer
  unasked_promises unasked same =
      let still : after ≡ before = ap decks_of same in
      let ended : Ended a b k before after laws answer = unasked_ended unasked same in
      record {
        usage = usage;
        untouched = λ is. still;
        ends = λ asked. absurd (asked unasked);
        complete = λ none quiet c one d other from_told to_told can. by_answer none unasked;
        cause = subst (λ (decks : Decks A B K). HasRisen a b k before decks answer) (sym still)
            (of_unasked (HasRisen a b k before before) answer (record { from = refl; to = refl; sink = refl })
            (record { from = refl; to = refl; sink = refl }) unasked);
        kind = of_unasked HasKind answer tt tt unasked;
        short = λ promised read is. absurd (no_short promised read is unasked);
        source = if_told (a.told before.from) (λ held. FromAnswers held answer) (λ held told. of_unasked (FromAnswers held) answer tt tt
            unasked);
        target = if_told (b.told before.to) (λ held. ToAnswers held answer) (λ held told. of_unasked (ToAnswers held) answer tt tt unasked);
        printed = subst (λ (decks : Decks A B K). PrintsCopies k answer before.sink decks.sink) (sym still)
            (record { text = []; is_text = no_text answer (other unasked); took = laws.nothing before.sink });
        from_left = from_left a b k old new laws answer (inl same);
        from_stays = from_stays a b k old new laws answer (from_left a b k old new laws answer (inl same));
        to_left = if_told (a.told before.from) (λ from. EachLeft b before.to after.to (ToLeaves from)) (λ from told. left_alive ended from
            told);
        to_lives = if_told (a.told before.from) (λ from. EachLeft b before.to after.to TargetLives) (λ from told. to_lives a b k before
            after laws answer from (left_alive ended from told));
        to_grows = if_told (a.told before.from) (λ from. EachLeft b before.to after.to (TargetGrows from))
            (λ from told. to_grows a b k before after laws answer from told (left_alive ended from told));
        over = λ c one d other from_told to_told alike. over a b k before after laws answer c one d other from_told to_told ended alike;
        done = λ c one d other from_told to_told stands standing like is. absurd (no_done is unasked);
        to_gains = if_told (a.told before.from) (λ from. EachLeft b before.to after.to (TargetGains from))
            (λ from told. to_gains a b k before after laws answer from told (left_alive ended from told));
        gave = λ from d other from_told to_told standing live. gave a b k before after laws answer from d from_told to_told ended other
            standing live;
        gave_all = λ from d other from_told to_told standing is. absurd (no_done is unasked);
        to_returns = if_told (a.told before.from) (λ from. EachLeft b before.to after.to (TargetComesBack from))
            (λ from told. to_returns a b k before after laws answer from told (left_alive ended from told));
        returns = λ from d other from_told to_told standing live. returns a b k before after laws answer from d from_told to_told ended
            other standing live;
        returns_all = λ from d other from_told to_told standing live is. absurd (no_done is unasked);
        joins = none_joins a b k before after still;
      }
    where
      by_answer : words ≡ [] → IsUnasked answer → (answer ≡ status.NoMemory) ⊎ (answer ≡ status.Done)
      by_answer none (inl is) = absurd (usage.0 is none)
      by_answer none (inr is) = inl is

      no_short : (promised read : ℕ) → answer ≡ status.To (fault.Short promised read) → IsUnasked answer → ⊥
      no_short promised read is (inl not) = let no = sym not ∙ is in cc
      no_short promised read is (inr not) = let no = sym not ∙ is in cc

      no_done : answer ≡ status.Done → IsUnasked answer → ⊥
      no_done is (inl not) = let no = sym not ∙ is in cc
      no_done is (inr not) = let no = sym not ∙ is in cc

      other : IsUnasked answer → IsOther answer
      other (inl not) = record { done = λ is. let no = sym not ∙ is in cc; sink = λ is. let no = sym not ∙ is in cc }
      other (inr not) = record { done = λ is. let no = sym not ∙ is in cc; sink = λ is. let no = sym not ∙ is in cc }

  asked_promises : is_asked answer ≡ true → RunEnds a b k old new answer → CopyPromises a b k words before after answer
  asked_promises asked runs =
      let ended : Ended a b k before after laws answer = inr ends in
      record {
        usage = usage;
        untouched = λ is. absurd (never_unasked answer asked is);
        ends = λ some. if_told (a.told before.from) _ (λ from from_told. if_told (b.told before.to) _ (λ to to_told. ends from to from_told
            to_told));
        complete = λ none quiet c one d other from_told to_told can. inr (complete a b k before after laws answer c one d other from_told
            to_told ends risen quiet can);
        cause = risen;
        kind = run_kind a b k laws.both laws.nothing old new answer runs;
        short = λ promised read is. run_short a b k old new laws answer runs promised read is;
        source = if_told (a.told before.from) (λ held. FromAnswers held answer) (λ held told. run_source a b k old new laws answer held told
            runs);
        target = if_told (b.told before.to) (λ held. ToAnswers held answer) (λ held told. run_target a b k old new laws answer held told
            runs);
        printed = run_printed a b k laws.both laws.nothing old new answer runs;
        from_left = from_left a b k old new laws answer (inr runs);
        from_stays = from_stays a b k old new laws answer (from_left a b k old new laws answer (inr runs));
        to_left = if_told (a.told before.from) (λ from. EachLeft b before.to after.to (ToLeaves from)) (λ from told. left_alive ended from
            told);
        to_lives = if_told (a.told before.from) (λ from. EachLeft b before.to after.to TargetLives) (λ from told. to_lives a b k before
            after laws answer from (left_alive ended from told));
        to_grows = if_told (a.told before.from) (λ from. EachLeft b before.to after.to (TargetGrows from))
            (λ from told. to_grows a b k before after laws answer from told (left_alive ended from told));
        over = λ c one d other from_told to_told alike. over a b k before after laws answer c one d other from_told to_told ended alike;
        done = λ c one d other from_told to_told stands standing like is. done a b k before after laws answer c one d other from_told
            to_told ends stands standing like is;
        to_gains = if_told (a.told before.from) (λ from. EachLeft b before.to after.to (TargetGains from))
            (λ from told. to_gains a b k before after laws answer from told (left_alive ended from told));
        gave = λ from d other from_told to_told standing live. gave a b k before after laws answer from d from_told to_told ended other
            standing live;
        gave_all = λ from d other from_told to_told standing is. gave_all a b k before after laws answer from d from_told to_told ends other
            standing is;
        to_returns = if_told (a.told before.from) (λ from. EachLeft b before.to after.to (TargetComesBack from))
            (λ from told. to_returns a b k before after laws answer from told (left_alive ended from told));
        returns = λ from d other from_told to_told standing live. returns a b k before after laws answer from d from_told to_told ended
            other standing live;
        returns_all = λ from d other from_told to_told standing live is. returns_all a b k before after laws answer from d from_told to_told
            ends other standing live is;
        joins = run_joins a b k laws.both laws.nothing old new answer runs;
      }
    where
      ends : (from to : Option Cartridge) → a.told before.from ≡ Some from → b.told before.to ≡ Some to → CopyEnds a b k before after answer
          from to
      ends from to from_told to_told = run_ended a b k old new laws from to from_told to_told answer runs

      risen : HasRisen a b k before after answer
      risen = run_risen a b k laws.both laws.nothing old new answer runs

  pub promises : CopyRuns a b k old new answer → CopyPromises a b k words before after answer
  promises runs = elim (asked_or_not answer) [
    | inl unasked ↦ unasked_promises unasked (untouched unasked)
    | inr asked ↦ asked_promises asked (runs_end a b k old new answer runs (never_unasked answer asked))
  ]
    where
      untouched : IsUnasked answer → new ≡ old
      untouched (inl is) = subst (CopyRuns a b k old new) is runs
      untouched (inr is) = subst (CopyRuns a b k old new) is runs

  pub prints_lines : CopyRuns a b k old new answer → PrintsLines a b k before after answer
  prints_lines runs c one d other from_told to_told alike = prints a b k before after laws answer c one d other from_told to_told ended
      alike
    where
      untouched : IsUnasked answer → new ≡ old
      untouched (inl is) = subst (CopyRuns a b k old new) is runs
      untouched (inr is) = subst (CopyRuns a b k old new) is runs

      ended : Ended a b k before after laws answer
      ended = elim (asked_or_not answer) [
        | inl unasked ↦ unasked_ended unasked (untouched unasked)
        | inr asked ↦ asked_ended (runs_end a b k old new answer runs (never_unasked answer asked))
      ]
