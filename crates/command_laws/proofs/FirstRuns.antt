-- What the promises of a run over a cartridge that comes back say of the settled one.
use Rattle.std.proofs.Common.{false, ◌≡◌, ◌≢◌, ◌∙◌, ◌⊎◌, ◌++◌, ◌<◌, ℕ, All, List, [], Option, Some, IfSome, IsSomeAnd, ap, inl, inr}
use Rattle.std.proofs.Common.{subst, sym, take}
use Rattle.cartridge_laws.proofs.MountWhole.{settled_is_cartridge}
use Rattle.cartridge_spec.specs.Mounting.{settled}
use Rattle.cartridge_spec.specs.Settling.{settling_steps}
use Rattle.cartridge_spec.specs.Volumes.{Plain, Stands, Volume, entries_of, volume_bytes}
use Rattle.cartridge_spec.specs.Appending.{with_bytes}
use Rattle.command_laws.proofs.CommandAppends.{append_done, append_refused, can_append}
use Rattle.command_laws.proofs.CommandEnds.{told_weaker}
use Rattle.command_laws.proofs.CommandGivenBack.{GivesSo, IsGivenSo, gives_back_so, stands_gives}
use Rattle.command_laws.proofs.CommandOneLoss.{nothing_torn}
use Rattle.command_laws.proofs.RestoreGivenBack.{few_alike, lost_alike, pieces_elsewhere}
use Rattle.command_laws.specs.AppendTerms.{content_with}
use Rattle.command_laws.specs.RestoreTerms.{bytes_held}
use Rattle.cartridge_laws.proofs.MountSettled.{settled_keeps_table}
use Rattle.command_spec.specs.Restore.{HasNumber, Piece, piece_cells, pieces_in, volume_at}
use Rattle.cartridge_spec.specs.Says.{unreadable_count}
use Rattle.cartridge_laws.proofs.MountStanding.{can_be_read}
use Rattle.command_laws.proofs.CommandScripted.{some_scripted}
use Rattle.command_laws.proofs.CommandSeveral.{some_made}
use Rattle.command_laws.proofs.CommandSurvives.{stopped_comes_back}
use Rattle.command_laws.proofs.CommandTable.{has_values}
use Rattle.command_laws.proofs.CommandVolumes.{appended_or_not}
use Rattle.command_laws.proofs.MountedHeld.{settled_live}
use Rattle.command_laws.proofs.SettledRuns.{outcomes_over_settled}
use Rattle.command_laws.proofs.TextWords.{one_command}
use Rattle.command_laws.specs.CommandFields.{Yields}
use Rattle.command_laws.specs.FirstRuns.{FirstRunsOverSettled, IsBackNow, IsLeftOfSettled, IsLeftUnsettled}
use Rattle.command_laws.specs.SettledRuns.{IsOverSettled, SettlesFirst}
use Rattle.command_spec.specs.Headline.{Stepped, WordsLeave}
use Rattle.command_spec.specs.Machine.{HasValues, Spells, Step, is_fault}
use Rattle.command_spec.specs.Outcome.{CommandOutcome}
use Rattle.command_spec.specs.declared.status.Status.{Status}
use Rattle.command_spec.specs.declared.words.Words.{Words}
use Rattle.qic_base.specs.Cartridge.{Cartridge}
use Rattle.qic_base.specs.CartridgeTerms.{IsCartridge}
use Rattle.qic_base.specs.Source.{IsInput}
use Rattle.qic_base.specs.Step.{Torn}
use Rattle.qic_base.specs.Sink as sinks
use Rattle.qic_base.specs.Source as sources
use Rattle.qic_base.specs.Tape as tapes
use Rattle.command_spec.specs.declared.status.Status.TheVariants as status
use Rattle.command_spec.specs.declared.words.Words.TheVariants as commands
use Rattle.cartridge_laws.specs.AppendLaws.{with_content}

module _ (words : List (List ℕ)) (command : Words) (c : Cartridge) (plain : Plain) (spelled : Spells words command)
    (settles : SettlesFirst command) (back : IsBackNow c plain) where
  abbrev over : Cartridge
  over = settled plain.table_area c

  run_over : (other : Words) (input : List ℕ) (outcome : CommandOutcome) → Spells words other → Yields other (Some c) input outcome →
      IsOverSettled other c plain.table_area input outcome
  run_over other input outcome spells yields =
      let settles_so : SettlesFirst other = subst SettlesFirst (one_command words command other spelled spells) settles in
      outcomes_over_settled other c plain.header plain.words plain.table_area (entries_of plain) input outcome settles_so back.live
      back.comes.mounts yields

  unsettled : (left : Option Cartridge) → Torn (settling_steps plain.table_area c) (Some c) left → IsLeftUnsettled c plain left
  unsettled left torn = record { torn = torn; mounts = back.comes.stopped left torn }

  of_settled : (told : Option (List ℕ)) (left : Option Cartridge) → WordsLeave told words (Some over) left →
      IsLeftOfSettled told words over plain left
  of_settled told left leaves =
      let whole : IsCartridge over = settled_is_cartridge c plain.table_area back.whole back.comes.mounts.reads in
      let values : (other : Words) → Spells words other → HasValues other = λ other spells. has_values words other spells in
      record {
        stands = back.comes.stands back.free;
        live = settled_live c plain.table_area back.comes.mounts.reads back.live;
        stops = leaves;
        appends = appended_or_not told words (Some over) left values whole leaves;
        makes = some_made told words (Some over) left values whole leaves;
        scripts = some_scripted told words (Some over) left whole leaves;
        survives = stopped_comes_back told words (Some over) left values whole leaves;
      }

  left_over : (told : Option (List ℕ)) (left : Option Cartridge) → WordsLeave told words (Some c) left →
      IsLeftUnsettled c plain left ⊎ IsLeftOfSettled told words over plain left
  left_over told left (inl same) = inl (unsettled left (nothing_torn c (settling_steps plain.table_area c) left same))
  left_over told left (inr (other, spells, l)) =
      let so = run_over other l.input l.outcome spells l.plain in
      elim (so.stopped left l.torn) [
        | inl torn ↦ inl (unsettled left torn)
        | inr torn ↦ inr (of_settled told left (inr (
          other,
          spells,
          record {
            input = l.input;
            is_told = l.is_told;
            bytes = l.bytes;
            outcome = so.over;
            plain = so.plain;
            torn = torn;
          },
        )))
      ]

  step_over : (input output : List ℕ) (taken : ℕ) (answer : Status) (left : Option Cartridge) →
      Step words (Some c) input left output taken answer → Step words (Some over) input left output taken answer
  step_over input output taken answer left (inl none) = absurd (none.0 command spelled)
  step_over input output taken answer left (inr (other, spells, (outcome, yields, is_left, is_output, is_taken, is_answer))) =
      let so = run_over other input outcome spells yields in
      inr (
        other,
        spells,
        (
          so.over,
          so.plain,
          is_left ∙ sym so.all,
          is_output ∙ sym so.output,
          is_taken ∙ sym so.taken,
          is_answer ∙ sym so.status,
        ),
      )

  -- a volume of its number, given back
  gives_over : (number : ℕ) (volume : Volume) → command ≡ commands.Restore number → volume_at plain.volumes number ≡ Some volume →
      GivesSo number c plain volume
  gives_over number volume same at outcome yields =
      let so : IsOverSettled (commands.Restore number) c plain.table_area [] outcome =
      outcomes_over_settled (commands.Restore number) c plain.header plain.words plain.table_area (entries_of plain) [] outcome tt back.live
      back.comes.mounts yields in
      let keeps = settled_keeps_table c plain.table_area back.comes.mounts.reads in
      let has : HasNumber over plain number volume = record {
        stands = back.comes.stands back.free;
        reads = can_be_read over plain.table_area keeps.table;
        is = at;
      } in
      let alike = pieces_elsewhere number over plain volume has c over keeps.others in
      let g : IsGivenSo over plain volume so.over = stands_gives number over plain volume has so.over so.plain in
      record {
        whole = λ few.
            let is = g.whole (few_alike c over plain.words (pieces_in plain volume) alike few) in
            (sym so.status ∙ is.0, sym so.output ∙ is.1);
        lost = λ first.
            let a = lost_alike c over plain.words (pieces_in plain volume) first alike in
            let is = g.lost a.there in (
              sym so.status ∙ is.0 ∙ ap (λ (p : Piece). status.Lost p.segment (unreadable_count
                  (piece_cells over plain.words a.there.piece)))
                  a.piece
                  ∙ ap (λ (n : ℕ). status.Lost first.piece.segment n) a.count,
              sym so.output ∙ is.1 ∙ ap (λ (ps : List Piece). take (bytes_held ps) (volume_bytes plain.words volume))
                  a.front,
            );
        front = record { rest = g.front.rest; parts = ap (λ (text : List ℕ). text ++ g.front.rest) (sym so.output) ∙ g.front.parts };
      }

  -- an append was carried out, or refused, by a step over the settled one
  append_over : (name : List ℕ) (date : ℕ) (input output : List ℕ) (taken : ℕ) (answer : Status) (left : Option Cartridge) →
      Spells words (commands.Append name date) → Step words (Some over) input left output taken answer →
      (answer ≡ status.Done → All (λ b. b < 256) input → IsSomeAnd left (λ d. Stands d (with_bytes plain name date input)))
      × (answer ≢ status.Done → IsSomeAnd left (λ d. Stands d plain))
  append_over name date input output taken answer left spells (inl none) = absurd (none.0 (commands.Append name date) spells)
  append_over name date input output taken answer left spells (inr (
    other,
    spelled_so,
    (outcome, yields, is_left, is_output, is_taken, is),
  )) =
      let same : other ≡ commands.Append name date = one_command words other (commands.Append name date) spelled_so spells in
      let does : Yields (commands.Append name date) (Some over) input outcome =
      subst (λ (w : Words). Yields w (Some over) input outcome) same yields in
      let values : HasValues (commands.Append name date) = has_values words (commands.Append name date) spells in
      let whole : IsCartridge over = settled_is_cartridge c plain.table_area back.whole back.comes.mounts.reads in
      let stood : Stands over plain = back.comes.stands back.free in (
        λ done bytes. subst (λ (o : Option Cartridge). IsSomeAnd o (λ d. Stands d (with_bytes plain name date input))) (sym is_left)
            (append_done (content_with name date input) over plain outcome (can_append values bytes) whole stood does (sym is ∙ done)),
        λ not_done. subst (λ (o : Option Cartridge). IsSomeAnd o (λ d. Stands d plain)) (sym is_left)
            (append_refused (content_with name date input) over plain outcome whole stood does (λ done. not_done (is ∙ done))),
      )

pub first_runs_over_settled : {T S K : Type 0} (t : tapes.Meaning T) (s : sources.Meaning S) (k : sinks.Meaning K) →
    FirstRunsOverSettled t s k
first_runs_over_settled t s k words old new answer command c plain promises spelled settles told back =
    let same : (held : Option Cartridge) → t.told old.tape ≡ Some held → held ≡ Some c =
    λ held is. let both : Some held ≡ Some (Some c) = sym is ∙ told in cc in
    let left_so : (held left : Option Cartridge) → t.told old.tape ≡ Some held → WordsLeave (s.left old.source) words held left →
    IsLeftUnsettled c plain left ⊎ IsLeftOfSettled (s.left old.source) words (settled plain.table_area c) plain left =
    λ held left is leaves. left_over words command c plain spelled settles back (s.left old.source) left
    (subst (λ (h : Option Cartridge). WordsLeave (s.left old.source) words h left) (same held is) leaves) in
    let carried_over : is_fault answer ≡ false → (input : List ℕ) × IsInput (s.left old.source) input × ((answer ≡ status.NoMemory)
    ⊎ Stepped t s k words (Some (settled plain.table_area c)) input old new answer) =
    λ no_fault.
    let so = subst (λ (o : Option (Option Cartridge)). IfSome o (λ held. (input : List ℕ) × IsInput (s.left old.source) input
    × ((answer ≡ status.NoMemory) ⊎ Stepped t s k words held input old new answer))) told (promises.carried no_fault) in (
      so.0,
      so.1,
      elim so.2 [
        | inl none ↦ inl none
        | inr step ↦ inr (record {
          held' = step.held';
          output = step.output;
          taken = step.taken;
          step = step_over words command c plain spelled settles back so.0 step.output step.taken answer step.held' step.step;
          tape = step.tape;
          source = step.source;
          took = step.took;
          written = step.written;
        })
      ],
    ) in
    let step : is_fault answer ≡ false → answer ≢ status.NoMemory → (input : List ℕ) × IsInput (s.left old.source) input
    × Stepped t s k words (Some (settled plain.table_area c)) input old new answer =
    λ no_fault memory.
    let so = carried_over no_fault in (so.0, so.1, elim so.2 [ inl none ↦ absurd (memory none) | inr stepped ↦ stepped ]) in
    record {
      left = record {
        told = λ held is. told_weaker (t.told new.tape) (λ left leaves. left_so held left is leaves) (promises.stops.told held is);
        since = λ held left telling is moment. left_so held left is (promises.stops.since held left telling is moment);
      };
      carried = carried_over;
      restores = λ number volume spells at.
          gives_back_so t s k words old new answer promises.carried promises.cut number c plain volume spells told
          (gives_over words command c plain spelled settles back number volume (one_command words command (commands.Restore number) spelled
          spells) at);
      appended = λ content spells tells bytes done.
          let so = step (ap is_fault done) (λ none. let no = sym done ∙ none in absurd (cc)) in
          let same : so.0 ≡ content.bytes = subst (λ (o : Option (List ℕ)). IsInput o so.0) tells so.1 in
          told_so (Some so.2.held') (λ left. IsSomeAnd left (λ d. Stands d (with_content plain content))) so.2.tape
          (subst (λ (i : List ℕ). IsSomeAnd so.2.held' (λ d. Stands d (with_bytes plain content.name content.date i))) same
          ((append_over words command c plain spelled settles back content.name content.date so.0 so.2.output so.2.taken answer
          so.2.held' spells so.2.step).0
          done (subst (λ (i : List ℕ). All (λ b. b < 256) i) (sym same) bytes)));
      unchanged = λ name date spells no_fault memory not_done.
          let so = step no_fault memory in
          told_so (Some so.2.held') (λ left. IsSomeAnd left (λ d. Stands d plain)) so.2.tape
          ((append_over words command c plain spelled settles back name date so.0 so.2.output so.2.taken answer so.2.held' spells
          so.2.step).1
          not_done);
    }
  where
    told_so : (o : Option (Option Cartridge)) (P : Option Cartridge → Type 0) → t.told new.tape ≡ o → IsSomeAnd o P →
        IsSomeAnd (t.told new.tape) P
    told_so o P is holds = subst (λ (x : Option (Option Cartridge)). IsSomeAnd x P) (sym is) holds
