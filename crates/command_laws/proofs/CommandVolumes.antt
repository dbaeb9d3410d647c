-- What a run leaves of what a cartridge stands for, by what a stop in its command leaves.
use Rattle.std.proofs.Common.{[], ◌≡◌, List, Option, Some, IsSomeAnd, sym, ◌∙◌, subst, refl, ℕ, IfSome, ap, inl, inr, false, Bool, true}
use Rattle.std.proofs.Common.{◌∷◌, ◌⊎◌, ◌<◌, All, IfNone, None, append-nil, arith}
use Rattle.cartridge_laws.proofs.ChangeLive.{steps_keep_live}
use Rattle.cartridge_laws.proofs.FormatClearing.{clearing_clears, cleared_copies_are_zero}
use Rattle.cartridge_laws.proofs.FormatCopies.{unformatted_from_bare}
use Rattle.cartridge_laws.proofs.FormatDone.{formatting_formats, formatted_stands, formatted_is_live}
use Rattle.cartridge_laws.proofs.FormatStops.{stopped_clearing, stopped_format, stopped_clearing_new, stopped_format_new}
use Rattle.cartridge_laws.proofs.FormatWriting.{some_and, some_weaker, effects-some}
use Rattle.cartridge_spec.specs.Appending.{with_bytes}
use Rattle.cartridge_spec.specs.Formatting.{HasNoDefectInFront, IsFreshFor, IsFreshWith, StandsCleanly, HasNoHeader, HasCleanCopies}
use Rattle.cartridge_spec.specs.Formatting.{format_steps, clearing_steps}
use Rattle.cartridge_spec.specs.Header.{Header}
use Rattle.cartridge_spec.specs.HeaderCopies.{IsUnformatted}
use Rattle.cartridge_spec.specs.Shape.{IsArea}
use Rattle.cartridge_spec.specs.Mounting.{Mounts, Mounted}
use Rattle.cartridge_spec.specs.TableSegment.{IsTableLive}
use Rattle.cartridge_spec.specs.Settling.{changed_by}
use Rattle.cartridge_spec.specs.Table.{Entry}
use Rattle.cartridge_spec.specs.Volumes.{Plain, Stands}
use Rattle.command_laws.proofs.CommandAppends.{append_stopped, append_refused, append_unanswered, append_done, can_append}
use Rattle.command_laws.proofs.CommandEnds.{after_steps, told_weaker, over_at, told_whole, Laws, ends_finished}
use Rattle.command_laws.proofs.CommandKeeping.{same_stands}
use Rattle.command_laws.proofs.CommandPlainLaws.{FormatLeaves, format_leaves}
use Rattle.command_laws.proofs.CommandTable.{laws_of, plain_answers}
use Rattle.command_laws.proofs.TextWords.{one_command}
use Rattle.command_laws.specs.AppendTerms.{content_with}
use Rattle.command_laws.specs.RunTerms.{WasNotDone}
use Rattle.command_spec.specs.Command.{Command}
use Rattle.command_spec.specs.Commands.{traits_of, command_of}
use Rattle.command_spec.specs.Single.{FormatOutcome}
use Rattle.command_spec.specs.Headline.{ToldNow, EachLeft, StopLeaves, WordsLeave}
use Rattle.command_laws.specs.CommandFields.{Yields}
use Rattle.command_spec.specs.Machine.{HasValues, Spells, IsOfBytes, fault_of, may_come_from, IsCutOff, Finished, CommandEnds, is_fault}
use Rattle.command_spec.specs.Outcome.{CommandOutcome}
use Rattle.command_spec.specs.Volumes.{IsCarriedOut, StandsEmpty, FormatsOrNot, TellsBytes, StandsAppended, AppendedOrNot, IsChanged}
use Rattle.command_spec.specs.Volumes.{StillHolds}
use Rattle.command_spec.specs.declared.status.Status.{Status}
use Rattle.command_spec.specs.declared.words.Words.{Words}
use Rattle.qic_base.proofs.Steps.{Done-nothing}
use Rattle.qic_base.specs.Acts.{steps_of, Outside, Failing, TapeFails, SourceFails, SinkFails}
use Rattle.qic_base.specs.Cartridge.{Cartridge, new_cartridge}
use Rattle.qic_base.specs.CartridgeTerms.{IsCartridge}
use Rattle.qic_base.specs.Step.{Step as TapeStep, effects, Renew, Torn}
use Rattle.qic_base.specs.Source.{IsInput}
use Rattle.cartridge_laws.specs.HeaderTerms.{IsBare}
use Rattle.qic_base.specs.Tape as tapes
use Rattle.qic_base.specs.TapeCalls as tape_calls
use Rattle.qic_base.specs.Sink as sinks
use Rattle.qic_base.specs.Source as sources
use Rattle.command_spec.specs.declared.status.Status.TheVariants as status
use Rattle.command_spec.specs.declared.words.Words.TheVariants as commands

-- an answer that tells of a change
abbrev pub may_change : Status → Bool
may_change status.Done = true
may_change (status.DefectInFront segment) = true
may_change answer = false

-- ---- each that is left

-- a fact of each cartridge that is left follows from another, over a whole cartridge or none
pub each_weaker : {T : Type 0} {P Q : (held left : Option Cartridge) → Type 0} (t : tapes.Meaning T) (a b : T) →
    tape_calls.IsToldRight (t.told a) (t.size a) →
    ((held left : Option Cartridge) → IfSome held IsCartridge → P held left → Q held left) → EachLeft t a b P → EachLeft t a b Q
each_weaker t a b right follows each = record {
  told = λ held told. told_weaker (t.told b) (λ left is. follows held left (told_whole held (t.told a) (t.size a) right told) is)
      (each.told held told);
  since = λ held left telling told is. follows held left (told_whole held (t.told a) (t.size a) right told)
      (each.since held left telling told is);
}

-- ---- what a command keeps

module _ {T : Type 0} (t : tapes.Meaning T) (told : Option (List ℕ)) (words : List (List ℕ)) (a b : T)
    (right : tape_calls.IsToldRight (t.told a) (t.size a)) (leaves : EachLeft t a b (WordsLeave told words)) where
  still_holds : (keeps : Command → Cartridge → Type 0) (Holds : Cartridge → Type 0) →
      ((command : Words) (c : Cartridge) (input : List ℕ) (outcome : CommandOutcome) (left : Option Cartridge) →
      keeps (command_of command) c → Holds c →
      Yields command (Some c) input outcome → Torn (steps_of outcome.acts) (Some c) left → IsSomeAnd left Holds) →
      EachLeft t a b (StillHolds words keeps Holds)
  still_holds keeps Holds follows = each_weaker t a b right (λ held left whole is. by_left held left is) leaves
    where
      by_left : (held left : Option Cartridge) → WordsLeave told words held left → StillHolds words keeps Holds held left
      by_left held left (inl same) c is holds keep = some_and Holds c left holds (same ∙ is)
      by_left held left (inr (command, spells, leaves)) c is holds keep =
          follows command c leaves.input leaves.outcome left (keep command spells) holds
          (subst (λ (h : Option Cartridge). Yields command h leaves.input leaves.outcome) is leaves.plain)
          (subst (λ (h : Option Cartridge). Torn (steps_of leaves.outcome.acts) h left) is leaves.torn)

  pub volumes_stay : (plain : Plain) → EachLeft t a b (StillHolds words (λ command c. command.keeps_volumes c plain) (λ c. Stands c plain))
  volumes_stay plain =
      still_holds (λ command c. command.keeps_volumes c plain) (λ c. Stands c plain)
      (λ command c input outcome left keep stood yields torn. (laws_of command).stands c plain keep stood input outcome left yields torn)

  pub list_stays : (header : Header) (map_words : List ℕ) (table : List (List ℕ)) (entries : List Entry) →
      EachLeft t a b (StillHolds words (λ command c. command.keeps_list c) (λ c. Mounts c (Mounted header map_words table entries)))
  list_stays header map_words table entries =
      still_holds (λ command c. command.keeps_list c) (λ c. Mounts c (Mounted header map_words table entries))
      (λ command c input outcome left keep mounts yields torn. (laws_of command).mounts c header map_words table entries keep mounts input
      outcome left yields torn)

  pub stays_live : EachLeft t a b (StillHolds words (λ command c. command.keeps_live) IsTableLive)
  stays_live =
      still_holds (λ command c. command.keeps_live) IsTableLive
      (λ command c input outcome left keep live yields torn.
      steps_keep_live (steps_of outcome.acts) c left ((laws_of command).live (Some c) input outcome keep yields) live torn)

  pub stays_clean : (area : List (List ℕ)) → IsArea area →
      EachLeft t a b (StillHolds words (λ command c. command.keeps_copies c) (λ c. HasCleanCopies c area))
  stays_clean area is_area =
      still_holds (λ command c. command.keeps_copies c) (λ c. HasCleanCopies c area)
      (λ command c input outcome left keep clean yields torn. (laws_of command).clean c area keep is_area clean input outcome left yields
      torn)

  pub stays_bare : EachLeft t a b (StillHolds words (λ command c. command.keeps_copies c) HasNoHeader)
  stays_bare =
      still_holds (λ command c. command.keeps_copies c) HasNoHeader
      (λ command c input outcome left keep bare yields torn. (laws_of command).bare c keep bare input outcome left yields torn)

-- ---- formatting

fresh_for : (c : Cartridge) (label : List ℕ) (date : ℕ) (words : List ℕ) (area : List (List ℕ)) → HasNoDefectInFront c →
    IsFreshWith c label date words area →
    IsFreshFor c label date words area
fresh_for c label date words area none fresh = record { fresh = fresh; front = none }

pub format_standing : (label : List ℕ) (date : ℕ) (c : Cartridge) (plain : Plain) (left : Option Cartridge) → IsCartridge c →
    StandsCleanly c plain →
    FormatLeaves label date (Some c) left →
    IsSomeAnd left (λ d. StandsCleanly d plain ⊎ IsUnformatted d ⊎ StandsEmpty Stands c label date d)
format_standing label date c plain left whole stood (inl (locked, same)) =
    some_and (λ d. StandsCleanly d plain ⊎ IsUnformatted d ⊎ StandsEmpty Stands c label date d) c left (inl stood) same
format_standing label date c plain left whole stood (inr (inl (free, torn))) =
    some_weaker left (λ d is. elim is [ inl stands ↦ inl stands | inr none ↦ inr (inl (unformatted_from_bare d none)) ])
    (stopped_clearing c plain left whole stood torn)
format_standing label date c plain left whole stood (inr (inr (free, none, (words, (area, fresh, torn))))) =
    let is_fresh : IsFreshFor c label date words area = fresh_for c label date words area none fresh in
    some_weaker left
    (λ d is. elim is [
      | inl stands ↦ inl stands
      | inr (inl bare) ↦ inr (inl bare)
      | inr (inr empty) ↦ inr (inr (record { words = words; area = area; fresh = is_fresh; stands = empty.0; live = empty.1 }))
    ])
    (stopped_format c plain label date words area left whole stood is_fresh torn)

pub format_bare : (label : List ℕ) (date : ℕ) (c : Cartridge) (left : Option Cartridge) → IsCartridge c → HasNoHeader c →
    IsUnformatted c → FormatLeaves label date (Some c) left → IsSomeAnd left (λ d. IsUnformatted d ⊎ StandsEmpty Stands c label date d)
format_bare label date c left whole bare unformatted (inl (locked, same)) =
    some_and (λ d. IsUnformatted d ⊎ StandsEmpty Stands c label date d) c left (inl unformatted) same
format_bare label date c left whole bare unformatted (inr (inl (free, torn))) =
    some_weaker left (λ d is. inl (unformatted_from_bare d is)) (stopped_clearing_new c left whole bare torn)
format_bare label date c left whole bare unformatted (inr (inr (free, none, (words, (area, fresh, torn))))) =
    let is_fresh : IsFreshFor c label date words area = fresh_for c label date words area none fresh in
    some_weaker left
    (λ d is. elim is [
      | inl bare ↦ inl bare
      | inr empty ↦ inr (record { words = words; area = area; fresh = is_fresh; stands = empty.0; live = empty.1 })
    ])
    (stopped_format_new c label date words area left whole bare is_fresh torn)

-- what words of formatting leave: what the drive held, or what a stop in the formatting leaves
left_by_format : (told : Option (List ℕ)) (words : List (List ℕ)) (held left : Option Cartridge) (label : List ℕ) (date : ℕ)
    (c : Cartridge) → Spells words (commands.Format label date) → held ≡ Some c →
    WordsLeave told words held left → (left ≡ Some c) ⊎ FormatLeaves label date (Some c) left
left_by_format told words held left label date c spells is (inl same) = inl (same ∙ is)
left_by_format told words held left label date c spells is (inr (command, spelled, leaves)) =
    let other : Words = commands.Format label date in
    let same : command ≡ other = one_command words command other spelled spells in
    let l : StopLeaves told other (Some c) left =
    subst (λ (w : Words). StopLeaves told w (Some c) left) same (subst (λ (h : Option Cartridge). StopLeaves told command h left) is leaves)
    in
    inr (format_leaves label date (Some c) left l.outcome l.plain l.torn)

pub whole_of : (held : Option Cartridge) (c : Cartridge) → IfSome held IsCartridge → held ≡ Some c → IsCartridge c
whole_of held c whole is = subst (λ (h : Option Cartridge). IfSome h IsCartridge) is whole

formats_or_not : (told : Option (List ℕ)) (words : List (List ℕ)) (held left : Option Cartridge) → IfSome held IsCartridge →
    WordsLeave told words held left → FormatsOrNot words held left
formats_or_not told words held left whole leaves = record {
  standing = λ label date c plain spells is stood.
      elim (left_by_format told words held left label date c spells is leaves) [
        | inl same ↦ some_and (λ d. StandsCleanly d plain ⊎ IsUnformatted d ⊎ StandsEmpty Stands c label date d) c left (inl stood) same
        | inr formatting ↦ format_standing label date c plain left (whole_of held c whole is) stood formatting
      ];
  bare = λ label date c spells is none.
      elim (left_by_format told words held left label date c spells is leaves) [
        | inl same ↦ some_and (λ d. IsUnformatted d ⊎ StandsEmpty Stands c label date d) c left (inl (unformatted_from_bare c none)) same
        | inr formatting ↦ format_bare label date c left (whole_of held c whole is) none (unformatted_from_bare c none) formatting
      ];
}

pub stops_format : {T : Type 0} (t : tapes.Meaning T) (told : Option (List ℕ)) (words : List (List ℕ)) (a b : T) →
    tape_calls.IsToldRight (t.told a) (t.size a) → EachLeft t a b (WordsLeave told words) → EachLeft t a b (FormatsOrNot words)
stops_format t told words a b right leaves = each_weaker t a b right (λ held left whole is. formats_or_not told words held left whole is)
    leaves

-- ---- appending

-- an input is one of bytes, told or not
pub of_bytes : (told : Option (List ℕ)) (input : List ℕ) → TellsBytes told → IsInput told input → IfNone told (All (λ b. b < 256) input) →
    All (λ b. b < 256) input
of_bytes None input known is given = given
of_bytes (Some bytes) input known is given = subst (λ (xs : List ℕ). All (λ b. b < 256) xs) (sym is) known

-- what is left by words of appending
pub appended_or_not : (told : Option (List ℕ)) (words : List (List ℕ)) (held left : Option Cartridge) →
    ((command : Words) → Spells words command → HasValues command) → IfSome held IsCartridge →
    WordsLeave told words held left → AppendedOrNot told words held left
appended_or_not told words held left values whole (inl same) name date c plain spells is bytes stood live =
    some_and (λ d. Stands d plain ⊎ StandsAppended told name date c plain d) c left (inl stood) (same ∙ is)
appended_or_not told words held left values whole (inr (command, spelled, leaves)) name date c plain spells is bytes stood live =
    let other : Words = commands.Append name date in
    let same : command ≡ other = one_command words command other spelled spells in
    let known : HasValues other = values other spells in
    let l : StopLeaves told other (Some c) left =
    subst (λ (w : Words). StopLeaves told w (Some c) left) same (subst (λ (h : Option Cartridge). StopLeaves told command h left) is leaves)
    in
    some_weaker left
    (λ d stands. elim stands [ inl old ↦ inl old | inr new ↦ inr (record { input = l.input; is_told = l.is_told; stands = new }) ])
    (append_stopped (content_with name date l.input) c plain l.outcome left
    (can_append known (of_bytes told l.input bytes l.is_told (l.bytes refl))) (whole_of held c whole is) stood live l.plain l.torn)

pub stops_append : {T : Type 0} (t : tapes.Meaning T) (told : Option (List ℕ)) (words : List (List ℕ)) (a b : T) →
    tape_calls.IsToldRight (t.told a) (t.size a) →
    ((command : Words) → Spells words command → HasValues command) → EachLeft t a b (WordsLeave told words) →
    EachLeft t a b (AppendedOrNot told words)
stops_append t told words a b right values leaves = each_weaker t a b right
    (λ held left whole is. appended_or_not told words held left values whole is) leaves

-- ---- when a run is over

-- what stands behind steps that were done
pub done_now : {T : Type 0} (t : tapes.Meaning T) (a b : T) (steps : List TapeStep) (held : Option Cartridge) → tapes.Done t a b steps →
    t.told a ≡ Some held →
    ToldNow t b (λ left. left ≡ effects steps held)
done_now t a b steps held did told =
    subst (λ (o : Option (Option Cartridge)). IsSomeAnd o (λ left. left ≡ effects steps held))
    (sym (after_steps t a b steps held did told)) refl

pub now_weaker : {T : Type 0} {P Q : (left : Option Cartridge) → Type 0} (t : tapes.Meaning T) (a b : T) →
    ((left : Option Cartridge) → P left → Q left) → ToldNow t b P → ToldNow t b Q
now_weaker t a b follows each = told_weaker (t.told b) follows each

-- over what was told, an outcome with this status was done
pub record Did {T : Type 0} (t : tapes.Meaning T) (told : Option (List ℕ)) (command : Words) (a b : T) (held : Option Cartridge)
    (is : Status) : Type 0 where
  pub input : List ℕ
  pub is_told : IsInput told input
  pub bytes : IsOfBytes command told input
  pub outcome : CommandOutcome
  pub sound : outcome.status ≡ is
  pub plain : Yields command held input outcome
  pub did : tapes.Done t a b (steps_of outcome.acts)

module _ {T S K : Type 0} (t : tapes.Meaning T) (s : sources.Meaning S) (k : sinks.Meaning K) (command : Words) (old new : Outside T S K)
    (answer : Status) where
  finished_did : (held : Option Cartridge) (is : Status) → t.told old.tape ≡ Some held → Finished t s k command old new answer →
      answer ≡ is →
      Did t (s.left old.source) command old.tape new.tape held is
  finished_did held is told finished same =
      let over = over_at (t.told old.tape) _ held finished.told told in record {
        input = over.0;
        is_told = over.1;
        bytes = over.2.0;
        outcome = finished.outcome;
        sound = sym finished.answered ∙ same;
        plain = over.2.1;
        did = finished.went.did;
      }

  not_otherwise : (failing : Failing) → IsCarriedOut answer → answer ≡ fault_of failing → failing ≡ SinkFails
  not_otherwise TapeFails (inl done) is = absurd (cc)
  not_otherwise TapeFails (inr fault) is = absurd (cc)
  not_otherwise SourceFails (inl done) is = absurd (cc)
  not_otherwise SourceFails (inr fault) is = absurd (cc)
  not_otherwise SinkFails which is = refl

  -- it was carried out, though its output may be cut off
  pub carried_out_did : (held : Option Cartridge) → IfSome held IsCartridge → HasValues command → (traits_of command).goes ≡ false →
      t.told old.tape ≡ Some held →
      IsCarriedOut answer → CommandEnds t s k command old new answer → Did t (s.left old.source) command old.tape new.tape held status.Done
  carried_out_did held whole values still told (inl done) (inl finished) = finished_did held status.Done told finished done
  carried_out_did held whole values still told (inr fault) (inl finished) =
      let no = ap (λ (a : Status). may_come_from a command) fault in let sound = finished.sound in absurd (cc)
  carried_out_did held whole values still told which (inr (failing, is, stopped)) =
      let sink : failing ≡ SinkFails = not_otherwise failing which is in
      let over = over_at (t.told old.tape) _ held stopped.told told in
      let some = plain_answers command held over.0 values whole in
      let off : IsCutOff t s k command held over.0 old new SinkFails some.0 =
      subst (λ (f : Failing). IsCutOff t s k command held over.0 old new f some.0) sink
      (over.2.1 some.0 some.1) in
      let all = off.done refl still in record {
        input = over.0;
        is_told = over.1;
        bytes = over.2.0;
        outcome = some.0;
        sound = all.0;
        plain = some.1;
        did = all.1;
      }

pub renewed_effect : (segments : ℕ) (held : Option Cartridge) → effects (Renew segments ∷ []) held ≡ Some (new_cartridge segments)
renewed_effect segments None = refl
renewed_effect segments (Some c) = refl

pub formatted_fresh : (label : List ℕ) (date : ℕ) (c : Cartridge) (outcome : CommandOutcome) → IsCartridge c →
    FormatOutcome label date (Some c) outcome → outcome.status ≡ status.Done →
    IsSomeAnd (effects (steps_of outcome.acts) (Some c)) (StandsEmpty StandsCleanly c label date)
formatted_fresh label date c outcome whole (inl (locked, is)) done = let other = ap (λ (o : CommandOutcome). o.status) is in absurd (cc)
formatted_fresh label date c outcome whole (inr (inl (free, (segment, first, is)))) done = let other =
    ap (λ (o : CommandOutcome). o.status) is in absurd (cc)
formatted_fresh label date c outcome whole (inr (inr (free, none, (words, (area, fresh, is))))) done =
    let n : ℕ = c.info.segments_per_track in
    let is_fresh : IsFreshFor c label date words area = fresh_for c label date words area none fresh in
    some_and (StandsEmpty StandsCleanly c label date) (changed_by (format_steps n area) c) (effects (steps_of outcome.acts) (Some c))
    (record {
      words = words;
      area = area;
      fresh = is_fresh;
      stands = formatted_stands c (changed_by (format_steps n area) c) label date words area whole is_fresh
          (formatting_formats c area whole fresh.size none);
      live = formatted_is_live c (changed_by (format_steps n area) c) area whole none (formatting_formats c area whole fresh.size none);
    })
    (ap (λ (o : CommandOutcome). effects (steps_of o.acts) (Some c)) is ∙ ap (λ (steps : List TapeStep). effects steps (Some c))
    (append-nil (format_steps n area)) ∙ effects-some (format_steps n area) c)

cleared_bare : (c : Cartridge) → IsCartridge c → IsBare (changed_by (clearing_steps c.info.segments_per_track) c)
cleared_bare c whole =
    let d : Cartridge = changed_by (clearing_steps c.info.segments_per_track) c in
    let bare : HasNoHeader d = record {
      first = inl (cleared_copies_are_zero c d 0 whole (clearing_clears c whole) (omega arith));
      second = inl (cleared_copies_are_zero c d 1 whole (clearing_clears c whole) (omega arith));
    } in
    (bare, unformatted_from_bare d bare)

pub cleared_is_bare : (label : List ℕ) (date front : ℕ) (c : Cartridge) (outcome : CommandOutcome) → IsCartridge c →
    FormatOutcome label date (Some c) outcome → outcome.status ≡ status.DefectInFront front →
    IsSomeAnd (effects (steps_of outcome.acts) (Some c)) IsBare
cleared_is_bare label date front c outcome whole (inl (locked, is)) done = let other = ap (λ (o : CommandOutcome). o.status) is in
    absurd (cc)
cleared_is_bare label date front c outcome whole (inr (inl (free, (segment, first, is)))) done =
    let n : ℕ = c.info.segments_per_track in
    some_and IsBare (changed_by (clearing_steps n) c) (effects (steps_of outcome.acts) (Some c)) (cleared_bare c whole)
    (ap (λ (o : CommandOutcome). effects (steps_of o.acts) (Some c)) is ∙ ap (λ (steps : List TapeStep). effects steps (Some c))
    (append-nil (clearing_steps n)) ∙ effects-some (clearing_steps n) c)
cleared_is_bare label date front c outcome whole (inr (inr (free, none, (words, (area, fresh, is))))) done = let other =
    ap (λ (o : CommandOutcome). o.status) is in absurd (cc)

-- an append that was refused, or whose input failed
append_unchanged : {T S K : Type 0} (t : tapes.Meaning T) (s : sources.Meaning S) (k : sinks.Meaning K) (name : List ℕ) (date : ℕ)
    (old new : Outside T S K) (answer : Status) (c : Cartridge) (plain : Plain) →
    Laws t s k old new → HasValues (commands.Append name date) → IsCartridge c → Stands c plain → t.told old.tape ≡ Some (Some c) →
    WasNotDone answer → CommandEnds t s k (commands.Append name date) old new answer →
    ToldNow t new.tape (λ left. IsSomeAnd left (λ d. Stands d plain))
append_unchanged t s k name date old new answer c plain laws values whole stood told not (inl finished) =
    let d : Did t (s.left old.source) (commands.Append name date) old.tape new.tape (Some c) answer =
    finished_did t s k (commands.Append name date) old new answer (Some c) answer told finished refl in
    now_weaker t old.tape new.tape
    (λ left is. subst (λ (o : Option Cartridge). IsSomeAnd o (λ e. Stands e plain)) (sym is)
    (append_refused (content_with name date d.input) c plain d.outcome whole stood d.plain (λ same. not.0 (sym d.sound ∙ same))))
    (done_now t old.tape new.tape (steps_of d.outcome.acts) (Some c) d.did told)
append_unchanged t s k name date old new answer c plain laws values whole stood told not (inr (TapeFails, is, stopped)) = absurd (not.2 is)
append_unchanged t s k name date old new answer c plain laws values whole stood told not (inr (SinkFails, is, stopped)) = absurd (not.1 is)
append_unchanged t s k name date old new answer c plain laws values whole stood told not (inr (SourceFails, is, stopped)) =
    let command : Words = commands.Append name date in
    let over = over_at (t.told old.tape) _ (Some c) stopped.told told in
    let some = plain_answers command (Some c) over.0 values whole in
    let off : IsCutOff t s k command (Some c) over.0 old new SourceFails some.0 = over.2.1 some.0 some.1 in
    let cut = off.cut in
    now_weaker t old.tape new.tape
    (λ left same. subst (λ (o : Option Cartridge). IsSomeAnd o (λ e. Stands e plain)) (sym same)
    (append_unanswered (content_with name date over.0) c plain some.0 cut.front cut.rest whole stood some.1 cut.parts (off.silent refl)))
    (done_now t old.tape new.tape (steps_of cut.front) (Some c) cut.did told)

pub is_changed : {T S K : Type 0} (t : tapes.Meaning T) (s : sources.Meaning S) (k : sinks.Meaning K) (words : List (List ℕ))
    (command : Words) (old new : Outside T S K) (answer : Status) →
    Laws t s k old new → Spells words command → HasValues command → CommandEnds t s k command old new answer →
    IsChanged t (s.left old.source) words old.tape new.tape answer
is_changed t s k words command old new answer laws spelled values ends = record {
  renewed = λ segments held which spells told.
      let other : Words = commands.New segments in
      let same : command ≡ other = one_command words command other spelled spells in
      let d : Did t (s.left old.source) other old.tape new.tape held status.Done =
      carried_out_did t s k other old new answer held (told_whole held (t.told old.tape) (t.size old.tape) laws.right told)
      (subst HasValues same values) refl told which (subst (λ (w : Words). CommandEnds t s k w old new answer) same ends) in
      now_weaker t old.tape new.tape
      (λ left is. is ∙ ap (λ (o : CommandOutcome). effects (steps_of o.acts) held) d.plain ∙ renewed_effect segments held)
      (done_now t old.tape new.tape (steps_of d.outcome.acts) held d.did told);
  formatted = λ label date c which spells told.
      let other : Words = commands.Format label date in
      let same : command ≡ other = one_command words command other spelled spells in
      let whole : IsCartridge c = told_whole (Some c) (t.told old.tape) (t.size old.tape) laws.right told in
      let d : Did t (s.left old.source) other old.tape new.tape (Some c) status.Done =
      carried_out_did t s k other old new answer (Some c) whole
      (subst HasValues same values) refl told which (subst (λ (w : Words). CommandEnds t s k w old new answer) same ends) in
      let fresh : IsSomeAnd (effects (steps_of d.outcome.acts) (Some c)) (StandsEmpty StandsCleanly c label date) =
      formatted_fresh label date c d.outcome whole d.plain d.sound in
      now_weaker t old.tape new.tape
      (λ left is. subst (λ (o : Option Cartridge). IsSomeAnd o (StandsEmpty StandsCleanly c label date)) (sym is) fresh)
      (done_now t old.tape new.tape (steps_of d.outcome.acts) (Some c) d.did told);
  cleared = λ label date segment c front spells told.
      let other : Words = commands.Format label date in
      let same : command ≡ other = one_command words command other spelled spells in
      let whole : IsCartridge c = told_whole (Some c) (t.told old.tape) (t.size old.tape) laws.right told in
      let finished : Finished t s k other old new answer =
      ends_finished t s k words other old new answer (subst (λ (w : Words). CommandEnds t s k w old new answer) same ends)
      (ap is_fault front) in
      let d : Did t (s.left old.source) other old.tape new.tape (Some c) (status.DefectInFront segment) =
      finished_did t s k other old new answer (Some c) (status.DefectInFront segment) told finished front in
      let none : IsSomeAnd (effects (steps_of d.outcome.acts) (Some c)) IsBare =
      cleared_is_bare label date segment c d.outcome whole d.plain d.sound in
      now_weaker t old.tape new.tape
      (λ left is. subst (λ (o : Option Cartridge). IsSomeAnd o IsBare) (sym is) none)
      (done_now t old.tape new.tape (steps_of d.outcome.acts) (Some c) d.did told);
  appended = λ name date c plain which spells told bytes stood.
      let other : Words = commands.Append name date in
      let same : command ≡ other = one_command words command other spelled spells in
      let whole : IsCartridge c = told_whole (Some c) (t.told old.tape) (t.size old.tape) laws.right told in
      let known : HasValues other = subst HasValues same values in
      let d : Did t (s.left old.source) other old.tape new.tape (Some c) status.Done =
      carried_out_did t s k other old new answer (Some c) whole known refl told which
      (subst (λ (w : Words). CommandEnds t s k w old new answer) same ends) in
      let left : IsSomeAnd (effects (steps_of d.outcome.acts) (Some c)) (λ e. Stands e (with_bytes plain name date d.input)) =
      append_done (content_with name date d.input) c plain d.outcome
      (can_append known (of_bytes (s.left old.source) d.input bytes d.is_told (d.bytes refl))) whole stood d.plain d.sound in
      now_weaker t old.tape new.tape
      (λ l is. subst (λ (o : Option Cartridge). IsSomeAnd o (StandsAppended (s.left old.source) name date c plain)) (sym is)
      (some_weaker (effects (steps_of d.outcome.acts) (Some c))
      (λ e stands. record { input = d.input; is_told = d.is_told; stands = stands }) left))
      (done_now t old.tape new.tape (steps_of d.outcome.acts) (Some c) d.did told);
  unchanged = λ name date c plain not_done no_sink no_tape spells told stood.
      let other : Words = commands.Append name date in
      let same : command ≡ other = one_command words command other spelled spells in
      let whole : IsCartridge c = told_whole (Some c) (t.told old.tape) (t.size old.tape) laws.right told in
      append_unchanged t s k name date old new answer c plain laws (subst HasValues same values) whole stood told
      (not_done, no_sink, no_tape) (subst (λ (w : Words). CommandEnds t s k w old new answer) same ends);
}

-- words of no command change nothing, and want of memory
pub none_changed : {T : Type 0} (t : tapes.Meaning T) (input : Option (List ℕ)) (words : List (List ℕ)) (a : T) (answer : Status) →
    is_fault answer ≡ false → may_change answer ≡ false → IsChanged t input words a a answer
none_changed t input words a answer no_fault none = record {
  renewed = λ segments held which spells told. absurd (never which);
  formatted = λ label date c which spells told. absurd (never which);
  cleared = λ label date segment c front spells told. let no = ap may_change front in absurd (cc);
  appended = λ name date c plain which spells told bytes stood. absurd (never which);
  unchanged = λ name date c plain not_done no_sink no_tape spells told stood.
      now_weaker t a a (λ left is. same_stands c plain left stood is) (done_now t a a [] (Some c) (Done-nothing t a) told);
} where
  never : IsCarriedOut answer → ⊥
  never (inl done) = let no = ap may_change done in cc
  never (inr fault) = let no = ap is_fault fault in cc
