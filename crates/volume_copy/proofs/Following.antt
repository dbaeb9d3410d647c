-- What follows of a copy's ends, where both tapes tell: completeness, and what is left of the target.
use Rattle.std.proofs.Common.{◌≡◌, ◌≢◌, ◌⊎◌, ℕ, List, [], ◌∷◌, ◌++◌, length, Option, Some, None, IfSome, IsSomeAnd, refl, ap, sym}
use Rattle.std.proofs.Common.{subst, ◌∙◌, inl, inr, append-nil, append_assoc}
use Rattle.std.specs.Option.{option_map}
use Rattle.std.specs.Prelude.{is_some}
use Rattle.cartridge_laws.proofs.FormatWriting.{effects-some, some_and}
use Rattle.cartridge_spec.specs.TableSegment.{IsTableLive}
use Rattle.cartridge_spec.specs.Settling.{changed_by}
use Rattle.cartridge_spec.specs.Volumes.{Plain, Stands}
use Rattle.command_laws.proofs.CommandEnds.{LeftBy, each_left, told_whole}
use Rattle.command_laws.proofs.CopyComplete.{copy_with_room_is_done}
use Rattle.command_laws.proofs.CopyIntact.{done_copy_comes_back, printed_copy_comes_back, stopped_copy_comes_back}
use Rattle.command_laws.proofs.CopyLeaving.{done_copy_gives, stopped_copy_gives}
use Rattle.command_laws.proofs.CopyOutcomes.{copies_something}
use Rattle.command_laws.proofs.CopyPrinted.{printed_copies_stand, printed_copy_gives}
use Rattle.command_laws.proofs.CopySteps.{copied_table_lives}
use Rattle.command_laws.proofs.CopyStood.{done_copy_stands, stopped_copy_stands}
use Rattle.command_laws.specs.ActStops.{IsLeftBy}
use Rattle.command_spec.specs.Copied.{BeginsLike, CanBeCopied, StandAlike, StandsPrinted, StandsUpTo, copied}
use Rattle.command_spec.specs.CopyGiven.{GivenBy, KeepsOrGains, KeepsOrPrints, StandsWithAll}
use Rattle.command_spec.specs.CopyOneLoss.{ComesBackWithAll, SettlesOrComesBack}
use Rattle.command_spec.specs.CopyPromises.{CopyComesBack, CopyEnds, CopyGave, CopyIsOver, CopyWent, Decks, HasRisen, NoDeckRose}
use Rattle.command_spec.specs.CopyPromises.{TargetComesBack, TargetGains, TargetGrows, TargetLives, ToLeaves}
use Rattle.command_spec.specs.Copying.{CopyOutcome, CopyYields}
use Rattle.command_spec.specs.Headline.{EachLeft, ToldNow}
use Rattle.command_spec.specs.declared.copy_status.CopyStatus.{CopyStatus}
use Rattle.qic_base.proofs.Joins.{steps_of-append, text_of-append}
use Rattle.qic_base.proofs.Outcomes.{cut_is_torn, cut_stops}
use Rattle.qic_base.proofs.Steps.{Stops-nothing, Torn-all, Torn-front, Torn-nothing}
use Rattle.qic_base.specs.Acts.{Act, SinkFails, TapeFails, next_steps, steps_of, text_of}
use Rattle.qic_base.specs.Alone.{around, no_source}
use Rattle.qic_base.specs.CartridgeTerms.{IsCartridge}
use Rattle.qic_base.specs.Cartridge.{Cartridge}
use Rattle.qic_base.specs.Step.{Step as TapeStep, effects, Torn}
use Rattle.volume_copy.proofs.Ends.{AtStart}
use Rattle.volume_copy.proofs.Text.{text_begins}
use Rattle.volume_copy.specs.Printing.{PrintsMissing}
use Rattle.qic_base.specs.declared.store_fault.StoreFault.TheVariants as fault
use Rattle.command_spec.specs.declared.copy_status.CopyStatus.TheVariants as status
use Rattle.qic_base.specs.Sink as sinks
use Rattle.qic_base.specs.Tape as tapes

-- a tape that told goes on to tell
still_told : (o p : Option (Option Cartridge)) (held : Option Cartridge) → is_some p ≡ is_some o → o ≡ Some held → (left : Option Cartridge)
    × (p ≡ Some left)
still_told None p held same told = absurd (cc)
still_told (Some h) None held same told = absurd (cc)
still_told (Some h) (Some left) held same told = (left, refl)

-- a fact of what is told now
now_told : (o : Option (Option Cartridge)) (P : Option Cartridge → Type 0) (left : Option Cartridge) → o ≡ Some left → P left →
    IsSomeAnd o P
now_told o P left told holds = subst (λ (p : Option (Option Cartridge)). IsSomeAnd p P) (sym told) holds

pub each_left_map : {T : Type 0} (t : tapes.Meaning T) (old new : T) (P Q : (held left : Option Cartridge) → Type 0) →
    ((held left : Option Cartridge) → t.told old ≡ Some held → P held left → Q held left) → EachLeft t old new P → EachLeft t old new Q
each_left_map t old new P Q follows each = record {
  told = λ held told. told_map (t.told new) held told (each.told held told);
  since = λ held left telling told was. follows held left told (each.since held left telling told was);
}
  where
    told_map : (o : Option (Option Cartridge)) (held : Option Cartridge) → t.told old ≡ Some held → IsSomeAnd o (P held) →
        IsSomeAnd o (Q held)
    told_map None held told known = absurd known
    told_map (Some left) held told known = follows held left told known

module _ {A B K : Type 0} (a : tapes.Meaning A) (b : tapes.Meaning B) (k : sinks.Meaning K) (old new : Decks A B K)
    (laws : AtStart a b k old) (answer : CopyStatus) where
  -- ---- the target, whatever it ends with

  went_left : (acts : List Act) (held : Option Cartridge) → b.told old.to ≡ Some held → tapes.Done b old.to new.to (steps_of acts) →
      b.told new.to ≡ Some (effects (steps_of acts) held)
  went_left acts held told did = did.told ∙ ap (option_map (effects (steps_of acts))) told

  module _ (from : Option Cartridge) (to : Option Cartridge) (to_told : b.told old.to ≡ Some to) where
    -- what a stop in its acts leaves
    by_outcome : (outcome : CopyOutcome) → CopyYields from to outcome → tapes.Stops b old.to new.to (steps_of outcome.acts) →
        IsSomeAnd (b.told new.to) (λ left. Torn (steps_of outcome.acts) to left) →
        LeftBy b old.to new.to to (ToLeaves from to)
    by_outcome outcome plain stops torn = record {
      steps = steps_of outcome.acts;
      stops = stops;
      torn = torn;
      leaves = λ left is.
          inr (outcome, plain, is);
    }

    left_by : (found : CopyStatus) → CopyEnds a b k old new found from to → LeftBy b old.to new.to to (ToLeaves from to)
    left_by (status.From fault.Tape) cut =
        let all : steps_of cut.front ++ steps_of cut.rest ≡ steps_of cut.outcome.acts = sym (steps_of-append cut.front cut.rest) ∙
        ap steps_of cut.parts in record {
          steps = steps_of cut.front;
          stops = cut.went.did.stops;
          torn = now_told (b.told new.to) (λ left. Torn (steps_of cut.front) to left) (effects (steps_of cut.front) to)
              (went_left cut.front to to_told cut.went.did) (Torn-all (steps_of cut.front) to);
          leaves = λ left is.
              inr (
                cut.outcome,
                cut.plain,
                subst (λ (ss : List TapeStep). Torn ss to left) all
                    (Torn-front (steps_of cut.front) (steps_of cut.rest) to left is),
              );
        }
    left_by (status.To fault.Tape) cut =
        by_outcome cut.outcome cut.plain (cut_stops b no_source k (around old.to old.sink) (around new.to new.sink) cut.outcome.acts
        TapeFails cut.cut)
        (cut_is_torn b no_source k (around old.to old.sink) (around new.to new.sink) cut.outcome.acts TapeFails to cut.cut to_told)
    left_by status.SinkFault cut =
        by_outcome cut.outcome cut.plain (cut_stops b no_source k (around old.to old.sink) (around new.to new.sink) cut.outcome.acts
        SinkFails cut.cut)
        (cut_is_torn b no_source k (around old.to old.sink) (around new.to new.sink) cut.outcome.acts SinkFails to cut.cut to_told)
    left_by found went =
        by_outcome went.outcome went.plain went.went.did.stops
        (now_told (b.told new.to) (λ left. Torn (steps_of went.outcome.acts) to left) (effects (steps_of went.outcome.acts) to)
        (went_left went.outcome.acts to to_told went.went.did)
        (Torn-all (steps_of went.outcome.acts) to))

  -- nothing was done
  left_alone : (from held : Option Cartridge) → new ≡ old → b.told old.to ≡ Some held → LeftBy b old.to new.to held (ToLeaves from held)
  left_alone from held same told =
      subst (λ (decks : Decks A B K). LeftBy b old.to decks.to held (ToLeaves from held)) (sym same) (record {
        steps = [];
        stops = Stops-nothing b old.to;
        torn = now_told (b.told old.to) (λ left. left ≡ held) held told refl;
        leaves = λ left is. inl is;
      })

  -- how it ended: nothing was done, or the plain machine's outcome, or a front of it
  abbrev pub Ended : Type 0
  Ended = ((new ≡ old) × (answer ≢ status.Done)) ⊎ ((from to : Option Cartridge) → a.told old.from ≡ Some from → b.told old.to ≡ Some to →
      CopyEnds a b k old new answer from to)

  pub to_left : Ended → (from : Option Cartridge) → a.told old.from ≡ Some from → EachLeft b old.to new.to (ToLeaves from)
  to_left (inl (same, other)) from from_told = each_left b old.to new.to (ToLeaves from) laws.to_now (λ held told. left_alone from held same
      told)
  to_left (inr ends) from from_told = each_left b old.to new.to (ToLeaves from) laws.to_now (λ held told. left_by from held told answer
      (ends from held from_told told))

  pub to_lives : (from : Option Cartridge) → EachLeft b old.to new.to (ToLeaves from) → EachLeft b old.to new.to TargetLives
  to_lives from each = each_left_map b old.to new.to (ToLeaves from) TargetLives follows each
    where
      follows : (held left : Option Cartridge) → b.told old.to ≡ Some held → ToLeaves from held left → TargetLives held left
      follows held left told (inl same) d is live = some_and IsTableLive d left live (same ∙ is)
      follows held left told (inr (outcome, plain, torn)) d is live =
          copied_table_lives from d outcome left live (subst (λ (h : Option Cartridge). CopyYields from h outcome) is plain)
          (subst (λ (h : Option Cartridge). Torn (steps_of outcome.acts) h left) is torn)

  whole_from : (c : Cartridge) → a.told old.from ≡ Some (Some c) → IsCartridge c
  whole_from c told = told_whole (Some c) (a.told old.from) (a.size old.from) laws.from_right told

  whole_to : (d : Cartridge) → b.told old.to ≡ Some (Some d) → IsCartridge d
  whole_to d told = told_whole (Some d) (b.told old.to) (b.size old.to) laws.to_right told

  pub to_grows : (from : Option Cartridge) → a.told old.from ≡ Some from → EachLeft b old.to new.to (ToLeaves from) → EachLeft b old.to
      new.to (TargetGrows from)
  to_grows from from_told each = each_left_map b old.to new.to (ToLeaves from) (TargetGrows from) follows each
    where
      follows : (held left : Option Cartridge) → b.told old.to ≡ Some held → ToLeaves from held left → TargetGrows from held left
      follows held left told leaves c one d other is_from is_to alike =
          let from_so : a.told old.from ≡ Some (Some c) = from_told ∙ ap (λ (h : Option Cartridge). Some h) is_from in
          let to_so : b.told old.to ≡ Some (Some d) = told ∙ ap (λ (h : Option Cartridge). Some h) is_to in
          let whole : IsCartridge d = whole_to d to_so in
          by_left whole (copies_something (Some c) (Some d) (whole_from c from_so) whole)
          (subst (λ (h : Option Cartridge). ToLeaves (Some c) h left) is_to (subst (λ (h : Option Cartridge). ToLeaves h held left)
          is_from leaves))
        where
          by_left : IsCartridge d → ((outcome : CopyOutcome) × CopyYields (Some c) (Some d) outcome) → ToLeaves (Some c) (Some d) left →
              StandsUpTo one other left
          by_left whole some (inl same) =
              stopped_copy_stands c one d other some.0 left whole alike some.1
              (subst (λ (l : Option Cartridge). Torn (steps_of some.0.acts) (Some d) l) (sym same) (Torn-nothing (steps_of some.0.acts)
              (Some d)))
          by_left whole some (inr (outcome, plain, torn)) = stopped_copy_stands c one d other outcome left whole alike plain torn

  -- whatever the source is
  whole_held : (from : Option Cartridge) → a.told old.from ≡ Some from → IfSome from IsCartridge
  whole_held from told = told_whole from (a.told old.from) (a.size old.from) laws.from_right told

  pub to_gains : (from : Option Cartridge) → a.told old.from ≡ Some from → EachLeft b old.to new.to (ToLeaves from) → EachLeft b old.to
      new.to (TargetGains from)
  to_gains from from_told each = each_left_map b old.to new.to (ToLeaves from) (TargetGains from) follows each
    where
      follows : (held left : Option Cartridge) → b.told old.to ≡ Some held → ToLeaves from held left → TargetGains from held left
      follows held left told leaves d other is standing live =
          let whole : IsCartridge d = whole_to d (told ∙ ap (λ (h : Option Cartridge). Some h) is) in
          by_left whole (copies_something from (Some d) (whole_held from from_told) whole)
          (subst (λ (h : Option Cartridge). ToLeaves from h left) is leaves)
        where
          by_left : IsCartridge d → ((outcome : CopyOutcome) × CopyYields from (Some d) outcome) → ToLeaves from (Some d) left →
              KeepsOrGains from other left
          by_left whole some (inl same) =
              stopped_copy_gives from d other some.0 left (whole_held from from_told) whole standing live some.1
              (subst (λ (l : Option Cartridge). Torn (steps_of some.0.acts) (Some d) l) (sym same) (Torn-nothing (steps_of some.0.acts)
              (Some d)))
          by_left whole some (inr (outcome, plain, torn)) =
              stopped_copy_gives from d other outcome left (whole_held from from_told) whole standing live plain torn

  -- .. and where one sector of the table's segment is lost besides
  pub to_returns : (from : Option Cartridge) → a.told old.from ≡ Some from → EachLeft b old.to new.to (ToLeaves from) → EachLeft b old.to
      new.to (TargetComesBack from)
  to_returns from from_told each = each_left_map b old.to new.to (ToLeaves from) (TargetComesBack from) follows each
    where
      follows : (held left : Option Cartridge) → b.told old.to ≡ Some held → ToLeaves from held left → TargetComesBack from held left
      follows held left told leaves d other is standing live =
          let whole : IsCartridge d = whole_to d (told ∙ ap (λ (h : Option Cartridge). Some h) is) in
          by_left whole (copies_something from (Some d) (whole_held from from_told) whole)
          (subst (λ (h : Option Cartridge). ToLeaves from h left) is leaves)
        where
          by_left : IsCartridge d → ((outcome : CopyOutcome) × CopyYields from (Some d) outcome) → ToLeaves from (Some d) left →
              SettlesOrComesBack from d other [] left
          by_left whole some (inl same) =
              stopped_copy_comes_back from d other some.0 left (whole_held from from_told) whole standing live some.1
              (subst (λ (l : Option Cartridge). Torn (steps_of some.0.acts) (Some d) l) (sym same) (Torn-nothing (steps_of some.0.acts)
              (Some d)))
          by_left whole some (inr (outcome, plain, torn)) =
              stopped_copy_comes_back from d other outcome left (whole_held from from_told) whole standing live plain torn

  -- ---- when it is over

  -- an outcome was cut off, or carried out: the text that was printed is a front of its own, and all of that at Done
  record HasLeft (from : Option Cartridge) (d : Cartridge) (found : CopyStatus) : Type 0 where
    outcome : CopyOutcome
    plain : CopyYields from (Some d) outcome
    text : List ℕ
    more : List ℕ
    whole : text ++ more ≡ text_of outcome.acts
    all : found ≡ status.Done → (outcome.status ≡ status.Done) × (more ≡ [])
    took : k.took old.sink text new.sink
    left : Option Cartridge
    now : b.told new.to ≡ Some left
    is : IsLeftBy d outcome.acts text left

  module _ (from : Option Cartridge) (d : Cartridge) (from_told : a.told old.from ≡ Some from)
      (to_told : b.told old.to ≡ Some (Some d)) where
    front_text : (front rest acts : List Act) → front ++ rest ≡ acts → text_of front ++ text_of rest ≡ text_of acts
    front_text front rest acts parts = sym (text_of-append front rest) ∙ ap text_of parts

    left_ends : (found : CopyStatus) → CopyEnds a b k old new found from (Some d) → HasLeft from d found
    left_ends (status.From fault.Tape) cut = record {
      outcome = cut.outcome;
      plain = cut.plain;
      text = text_of cut.front;
      more = text_of cut.rest;
      whole = front_text cut.front cut.rest cut.outcome.acts cut.parts;
      all = λ is. absurd (cc);
      took = cut.went.wrote.took;
      left = effects (steps_of cut.front) (Some d);
      now = went_left cut.front (Some d) to_told cut.went.did;
      is = inl (record {
        front = cut.front;
        rest = cut.rest;
        parts = cut.parts;
        torn = Torn-nothing (next_steps cut.rest) (effects (steps_of cut.front) (Some d));
        is_text = refl;
      });
    }
    left_ends (status.To fault.Tape) cut =
        let now = still_told (b.told old.to) (b.told new.to) (Some d) cut.cut.broke.tells to_told in record {
          outcome = cut.outcome;
          plain = cut.plain;
          text = text_of cut.cut.front;
          more = text_of cut.cut.rest;
          whole = front_text cut.cut.front cut.cut.rest cut.outcome.acts cut.cut.parts;
          all = λ is. absurd (cc);
          took = cut.cut.wrote.took;
          left = now.0;
          now = now.1;
          is = inl (record {
            front = cut.cut.front;
            rest = cut.cut.rest;
            parts = cut.cut.parts;
            torn = cut.cut.here (Some d) now.0 to_told now.1;
            is_text = refl;
          });
        }
    left_ends status.SinkFault cut =
        let steps : List TapeStep = steps_of cut.cut.at.front ++ cut.cut.at.act.steps in
        let front : List ℕ = text_of cut.cut.at.front in
        let behind : List ℕ = text_of cut.cut.at.rest in record {
          outcome = cut.outcome;
          plain = cut.plain;
          text = front ++ cut.cut.broke.part;
          more = cut.cut.broke.rest ++ behind;
          whole = append_assoc front cut.cut.broke.part (cut.cut.broke.rest ++ behind)
              ∙ ap (λ (xs : List ℕ). front ++ xs) (sym (append_assoc cut.cut.broke.part cut.cut.broke.rest behind) ∙
              ap (λ (xs : List ℕ). xs ++ behind) cut.cut.broke.parts)
              ∙ front_text cut.cut.at.front (cut.cut.at.act ∷ cut.cut.at.rest) cut.outcome.acts cut.cut.at.parts;
          all = λ is. absurd (cc);
          took = cut.cut.broke.took;
          left = effects steps (Some d);
          now = cut.cut.did.told ∙ ap (option_map (effects steps)) to_told;
          is = inr (record {
            front = cut.cut.at.front;
            act = cut.cut.at.act;
            rest = cut.cut.at.rest;
            parts = cut.cut.at.parts;
            is = refl;
            some = cut.cut.broke.part;
            more = cut.cut.broke.rest;
            written = cut.cut.broke.parts;
            lacks = cut.cut.broke.some;
            is_text = refl;
          });
        }
    left_ends found went = record {
      outcome = went.outcome;
      plain = went.plain;
      text = text_of went.outcome.acts;
      more = [];
      whole = append-nil (text_of went.outcome.acts);
      all = λ is. (sym went.answered ∙ is, refl);
      took = went.went.wrote.took;
      left = effects (steps_of went.outcome.acts) (Some d);
      now = went_left went.outcome.acts (Some d) to_told went.went.did;
      is = inl (record { front = went.outcome.acts; rest = []; parts = append-nil went.outcome.acts; torn = refl; is_text = refl });
    }

    untouched : new ≡ old → answer ≢ status.Done → HasLeft from d answer
    untouched same unlike =
        let some = copies_something from (Some d) (whole_held from from_told) (whole_to d to_told) in record {
          outcome = some.0;
          plain = some.1;
          text = [];
          more = text_of some.0.acts;
          whole = refl;
          all = λ is. absurd (unlike is);
          took = subst (λ (decks : Decks A B K). k.took old.sink [] decks.sink) (sym same) (laws.nothing old.sink);
          left = Some d;
          now = subst (λ (decks : Decks A B K). b.told decks.to ≡ Some (Some d)) (sym same) to_told;
          is = inl (record {
            front = [];
            rest = some.0.acts;
            parts = refl;
            torn = Torn-nothing (next_steps some.0.acts) (Some d);
            is_text = refl;
          });
        }

    has_left : Ended → HasLeft from d answer
    has_left (inl (same, unlike)) = untouched same unlike
    has_left (inr ends) = left_ends answer (ends from (Some d) from_told to_told)

    pub gave : Ended → (other : Plain) → Stands d other → IsTableLive d → CopyGave b k old new from other
    gave ended other standing live =
        let at = has_left ended in record {
          text = at.text;
          took = at.took;
          printed = now_told (b.told new.to) (KeepsOrPrints from other at.text) at.left at.now
              (printed_copy_gives from d other at.outcome at.text at.left (whole_held from from_told) (whole_to d to_told) standing live
              at.plain at.is);
        }

    pub returns : Ended → (other : Plain) → Stands d other → IsTableLive d → CopyComesBack b k old new from d other
    returns ended other standing live =
        let at = has_left ended in record {
          text = at.text;
          took = at.took;
          comes = now_told (b.told new.to) (SettlesOrComesBack from d other at.text) at.left at.now
              (printed_copy_comes_back from d other at.outcome at.text at.left (whole_held from from_told) (whole_to d to_told) standing
              live at.plain at.is);
        }

    -- what is left at Done
    all_done : (Q : Option Cartridge → Type 0) →
        ((outcome : CopyOutcome) → CopyYields from (Some d) outcome → outcome.status ≡ status.Done →
        Q (Some (changed_by (steps_of outcome.acts) d))) →
        ((held to : Option Cartridge) → a.told old.from ≡ Some held → b.told old.to ≡ Some to → CopyEnds a b k old new answer held to) →
        answer ≡ status.Done → ToldNow b new.to Q
    all_done Q leaves ends is =
        let went : CopyWent a b k old new status.Done from (Some d) =
        subst (λ (found : CopyStatus). CopyEnds a b k old new found from (Some d)) is (ends from (Some d) from_told to_told) in
        now_told (b.told new.to) Q (Some (changed_by (steps_of went.outcome.acts) d))
        (went_left went.outcome.acts (Some d) to_told went.went.did ∙ ap (λ (h : Option Cartridge). Some h)
        (effects-some (steps_of went.outcome.acts) d))
        (leaves went.outcome went.plain (sym went.answered))

    pub gave_all : ((held to : Option Cartridge) → a.told old.from ≡ Some held → b.told old.to ≡ Some to → CopyEnds a b k old new answer
        held to) → (other : Plain) → Stands d other → answer ≡ status.Done →
        ToldNow b new.to (λ left. GivenBy from other (λ side. StandsWithAll side other left))
    gave_all ends other standing is =
        all_done (λ left. GivenBy from other (λ side. StandsWithAll side other left))
        (λ outcome plain done. done_copy_gives from d other outcome (whole_held from from_told) (whole_to d to_told) standing plain done)
        ends is

    pub returns_all : ((held to : Option Cartridge) → a.told old.from ≡ Some held → b.told old.to ≡ Some to →
        CopyEnds a b k old new answer held to) → (other : Plain) → Stands d other → IsTableLive d → answer ≡ status.Done →
        ToldNow b new.to (λ left. GivenBy from other (λ side. ComesBackWithAll side other left))
    returns_all ends other standing live is =
        all_done (λ left. GivenBy from other (λ side. ComesBackWithAll side other left))
        (λ outcome plain done. done_copy_comes_back from d other outcome (whole_held from from_told) (whole_to d to_told) standing live
        plain done) ends is

  module _ (c : Cartridge) (one : Plain) (d : Cartridge) (other : Plain) (from_told : a.told old.from ≡ Some (Some c))
      (to_told : b.told old.to ≡ Some (Some d)) where
    whole_d : IsCartridge d
    whole_d = whole_to d to_told

    pub prints : Ended → StandAlike c one d other → PrintsMissing b k old new answer one other
    prints ended alike =
        let at = has_left (Some c) d from_told to_told ended in
        let begins = text_begins c one d other (record {
          source = whole_from c from_told;
          target = whole_d;
          stands = alike.source;
          standing = alike.target;
          like = alike.like;
        }) at.outcome at.plain in record {
          text = at.text;
          rest = at.more ++ begins.rest;
          parts = sym (append_assoc at.text at.more begins.rest) ∙ ap (λ (xs : List ℕ). xs ++ begins.rest) at.whole ∙ begins.parts;
          all = λ done. ap (λ (xs : List ℕ). xs ++ begins.rest) (at.all done).1 ∙ begins.all (at.all done).0;
          took = at.took;
          printed = now_told (b.told new.to) (StandsPrinted one other (length at.text)) at.left at.now
              (printed_copies_stand c one d other at.outcome at.text at.left whole_d alike at.plain at.is);
        }

    pub over : Ended → StandAlike c one d other → CopyIsOver b k old new one other
    over ended alike = let all = prints ended alike in record { text = all.text; took = all.took; printed = all.printed }

    pub done : ((from to : Option Cartridge) → a.told old.from ≡ Some from → b.told old.to ≡ Some to → CopyEnds a b k old new answer from
        to) → Stands c one → Stands d other → BeginsLike one other → answer ≡ status.Done →
        ToldNow b new.to (λ left. IsSomeAnd left (λ e. Stands e (copied one other (length one.volumes))))
    done ends stands standing like is =
        all_done (Some c) d from_told to_told (λ left. IsSomeAnd left (λ e. Stands e (copied one other (length one.volumes))))
        (λ outcome plain done. done_copy_stands c one d other outcome (record {
          source = whole_from c from_told;
          target = whole_d;
          stands = stands;
          standing = standing;
          like = like;
        }) plain done) ends is

    -- where all is there that it needs, it is Done
    pub complete : ((from to : Option Cartridge) → a.told old.from ≡ Some from → b.told old.to ≡ Some to → CopyEnds a b k old new answer
        from to) → HasRisen a b k old new answer → NoDeckRose a b k old new →
        CanBeCopied c one d other → answer ≡ status.Done
    complete ends risen none can = by_answer answer risen (ends (Some c) (Some d) from_told to_told)
      where
        by_answer : (found : CopyStatus) → HasRisen a b k old new found → CopyEnds a b k old new found (Some c) (Some d) →
            found ≡ status.Done
        by_answer (status.From fault.Tape) rose cut = absurd (none.from rose.from)
        by_answer (status.To fault.Tape) rose cut = absurd (none.to rose.to)
        by_answer status.SinkFault rose cut = absurd (none.sink rose.sink)
        by_answer found rose went = went.answered ∙ copy_with_room_is_done c one d other went.outcome whole_d can went.plain
