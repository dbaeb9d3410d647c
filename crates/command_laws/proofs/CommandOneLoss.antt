-- A cartridge that an append left, done or stopped, comes back where one sector more of its table's segment is lost.
use Rattle.std.proofs.Common.{inl, ℕ, ◌≤◌, List, ◌∙◌, ◌⊎◌, inr, ◌++◌, ◌+◌, Option, Some, subst, ◌≡◌, true, false, IsSomeAnd}
use Rattle.std.proofs.Common.{refl, [], ◌∷◌, ap, length, min, sym, ◌≢◌}
use Rattle.std.proofs.lemmas.Bool.{cases_Bool}
use Rattle.cartridge_laws.proofs.AppendReady.{settled_is_ready}
use Rattle.cartridge_laws.proofs.AppendVolume.{free_writes_stand, last_end_least, stopped_volume}
use Rattle.cartridge_laws.proofs.FormatWriting.{changed_by-append, effects-some, some_weaker, some_and}
use Rattle.cartridge_laws.proofs.MountSettled.{settled_needs_no_steps, settled_stands, settled_is_whole}
use Rattle.cartridge_laws.proofs.MountWhole.{settling_effects, table_is_area}
use Rattle.cartridge_laws.proofs.OneLossComesBack.{stopped_append_comes_back, done_append_comes_back, whole_comes_back}
use Rattle.cartridge_laws.specs.AppendBetween.{IsWhole}
use Rattle.cartridge_laws.specs.AppendLaws.{IsReadyFor, with_content, IsAppendable}
use Rattle.cartridge_laws.specs.AppendWrites.{KeepsTo}
use Rattle.cartridge_laws.specs.Table.{last_end}
use Rattle.cartridge_spec.specs.Appending.{Content}
use Rattle.cartridge_spec.specs.Shape.{IsArea}
use Rattle.cartridge_spec.specs.TableSegment.{TableIs, IsTableLive, LosesOneAlone}
use Rattle.cartridge_spec.specs.Mounting.{settled, ComesBackAs}
use Rattle.cartridge_spec.specs.Settling.{settling_steps, changed_by}
use Rattle.cartridge_spec.specs.Volumes.{Plain, Stands, entries_of}
use Rattle.command_laws.proofs.CommandAppends.{behind_settling, segments_acts, table_acts, fits, segments_are_free, no_table, steps_are}
use Rattle.command_laws.proofs.CommandAppends.{course, kept_by, kept_of, done_behind, done_fits, not_done_small}
use Rattle.command_laws.proofs.MountedKeeping.{kept_may}
use Rattle.command_spec.specs.Append.{AppendOutcome, room_in}
use Rattle.command_spec.specs.OneLoss.{ComesBackAsOneOf}
use Rattle.command_spec.specs.Outcome.{CommandOutcome}
use Rattle.qic_base.proofs.Steps.{Torn-append}
use Rattle.qic_base.specs.Acts.{Act, steps_of}
use Rattle.qic_base.specs.Cartridge.{Cartridge}
use Rattle.qic_base.specs.CartridgeTerms.{IsCartridge}
use Rattle.qic_base.specs.Step.{Step, effects, Torn}
use Rattle.cartridge_laws.specs.AppendLaws as appends
use Rattle.command_spec.specs.declared.status.Status.TheVariants as status
use Rattle.command_laws.specs.MountedKept.{IsKept}

-- ---- a table whose sectors are all there

pub kept_whole : (c d : Cartridge) (area : List (List ℕ)) (last : ℕ) → 2 ≤ last → KeepsTo last c d → IsWhole c area → IsWhole d area
kept_whole c d area last h kept whole i low = kept.sectors 2 i h low ∙ whole i low

-- ---- a stop

-- a stop comes before the table is settled, or behind that
settled_or_not : (c : Cartridge) (plain : Plain) (steps : List Step) (left : Option Cartridge) → TableIs c plain.table_area →
    IsTableLive c →
    Torn (behind_settling c plain steps) (Some c) left →
    Torn (settling_steps plain.table_area c) (Some c) left ⊎ Torn steps (Some (settled plain.table_area c)) left
settled_or_not c plain steps left table live torn =
    let area : List (List ℕ) = plain.table_area in
    let s : Cartridge = settled area c in
    elim (Torn-append (settling_steps area c) (settling_steps area s ++ steps) (Some c) left torn) [
      | inl front ↦ inl front
      | inr rest ↦
          inr (subst (λ (again : List Step). Torn (again ++ steps) (Some s) left) (settled_needs_no_steps c area table live)
          (subst (λ (held : Option Cartridge). Torn (settling_steps area s ++ steps) held left) (settling_effects c area table) rest))
    ]

module _ (content : Content) (c : Cartridge) (plain : Plain) (may : IsAppendable content) (kept : IsKept c plain) where
  -- the settled cartridge
  abbrev s : Cartridge
  s = settled plain.table_area c

  s_stands : Stands s plain
  s_stands = settled_stands c plain plain.table_area kept.stands kept.table

  s_whole : IsWhole s plain.table_area
  s_whole i h = settled_is_whole c plain.table_area i kept.table kept.unprotected kept.live h

  is_area : IsArea plain.table_area
  is_area = table_is_area c plain.table_area kept.cartridge kept.table

  ready : fits plain content.bytes ≡ true → IsReadyFor s plain content
  ready enough = settled_is_ready c plain content (kept_may kept enough may)

  -- among the writes of free segments
  free_survives : (new : Plain) (left : Option Cartridge) → Torn (steps_of (segments_acts c plain content.bytes)) (Some s) left →
      IsSomeAnd left (ComesBackAsOneOf plain new)
  free_survives new left torn =
      some_weaker left
      (λ d known f lost loses.
      inl (whole_comes_back d plain known.0
      (kept_whole s d plain.table_area (last_end (entries_of plain)) (last_end_least c plain kept.stands) known.1 s_whole)
      is_area f lost loses))
      (free_writes_stand s plain (steps_of (segments_acts c plain content.bytes)) left s_stands
      (segments_are_free c plain content.bytes) torn)

  -- among the writes of an append
  pub append_survives : fits plain content.bytes ≡ true → (left : Option Cartridge) → Torn (appends.append_steps_of plain content)
      (Some s) left → IsSomeAnd left (ComesBackAsOneOf plain (with_content plain content))
  append_survives enough left torn =
      let front : List Step = appends.volume_steps plain content in
      let rear : List Step = appends.list_steps plain content in
      let new : Plain = with_content plain content in
      elim (Torn-append front rear (Some s) left torn) [
        | inl among ↦ some_weaker left (λ d known f lost loses. inl (whole_comes_back d plain known.0 known.1 is_area f lost loses))
            (stopped_volume s plain content left (ready enough) among)
        | inr behind ↦ stopped_append_comes_back s (changed_by front s) plain content left (ready enough) refl
            (subst (λ (held : Option Cartridge). Torn rear held left) (effects-some front s) behind)
      ]

  run_survives : (left : Option Cartridge) →
      Torn (behind_settling c plain (steps_of (segments_acts c plain content.bytes ++ table_acts c plain content))) (Some c) left →
      Torn (settling_steps plain.table_area c) (Some c) left ⊎ IsSomeAnd left (ComesBackAsOneOf plain (with_content plain content))
  run_survives left torn =
      elim (cases_Bool (fits plain content.bytes)) [
        | inl enough ↦ elim (settled_or_not c plain (appends.append_steps_of plain content) left kept.table kept.live
            (subst (λ (steps : List Step). Torn (behind_settling c plain steps) (Some c) left)
            (steps_are content c plain enough) torn)) [
              | inl settling ↦ inl settling
              | inr behind ↦ inr (append_survives enough left behind)
            ]
        | inr small ↦ elim (settled_or_not c plain (steps_of (segments_acts c plain content.bytes)) left kept.table kept.live
            (subst (λ (acts : List Act). Torn (behind_settling c plain (steps_of acts)) (Some c) left)
            (no_table c plain content small) torn)) [
              | inl settling ↦ inl settling
              | inr behind ↦ inr (free_survives (with_content plain content) left behind)
            ]
      ]

  -- where there is no room for the volume
  small_survives : fits plain content.bytes ≡ false → (left : Option Cartridge) →
      Torn (behind_settling c plain (steps_of (segments_acts c plain content.bytes ++ table_acts c plain content))) (Some c) left →
      Torn (settling_steps plain.table_area c) (Some c) left ⊎ IsSomeAnd left (ComesBackAsOneOf plain plain)
  small_survives small left torn =
      elim (settled_or_not c plain (steps_of (segments_acts c plain content.bytes)) left kept.table kept.live
      (subst (λ (acts : List Act). Torn (behind_settling c plain (steps_of acts)) (Some c) left)
      (no_table c plain content small) torn)) [
        | inl settling ↦ inl settling
        | inr behind ↦ inr (free_survives plain left behind)
      ]

  -- once all is done
  pub done_survives : fits plain content.bytes ≡ true → (f : Cartridge) (lost : ℕ) →
      LosesOneAlone (changed_by (appends.append_steps_of plain content) s) f lost → ComesBackAs f (with_content plain content)
  done_survives enough f lost loses =
      done_append_comes_back s (changed_by (appends.append_steps_of plain content) s) plain content (ready enough)
      (changed_by-append (appends.volume_steps plain content) (appends.list_steps plain content) s) f lost loses

-- ---- the plain machine

pub nothing_torn : (c : Cartridge) (steps : List Step) (left : Option Cartridge) → left ≡ Some c → Torn steps (Some c) left
nothing_torn c [] left same = same
nothing_torn c (x ∷ xs) left same = inl same

-- a stop leaves a table that is not yet settled, or what comes back
pub append_comes_back : (content : Content) (c : Cartridge) (plain : Plain) (outcome : CommandOutcome)
    (left : Option Cartridge) → IsAppendable content → IsCartridge c → Stands c plain → IsTableLive c →
    AppendOutcome content.name content.date (Some c) content.bytes outcome → Torn (steps_of outcome.acts) (Some c) left →
    Torn (settling_steps plain.table_area c) (Some c) left ⊎ IsSomeAnd left (ComesBackAsOneOf plain (with_content plain content))
append_comes_back content c plain outcome left may whole stood live machine torn =
    elim (course content c plain outcome stood machine) [
      | inl none ↦
          inl (nothing_torn c (settling_steps plain.table_area c) left
          (subst (λ (ss : List Step). Torn ss (Some c) left) (ap (λ (o : CommandOutcome). steps_of o.acts) none.is ∙ none.none) torn))
      | inr run ↦
          run_survives content c plain may (kept_by whole stood live run) left
          (subst (λ (o : CommandOutcome). Torn (steps_of o.acts) (Some c) left) run.is torn)
    ]

-- where it was done, it comes back with the volume
pub done_comes_back : (content : Content) (c : Cartridge) (plain : Plain) (outcome : CommandOutcome) →
    IsAppendable content → IsCartridge c → Stands c plain → IsTableLive c →
    AppendOutcome content.name content.date (Some c) content.bytes outcome → outcome.status ≡ status.Done →
    IsSomeAnd (effects (steps_of outcome.acts) (Some c))
    (λ d. (f : Cartridge) (lost : ℕ) → LosesOneAlone d f lost → ComesBackAs f (with_content plain content))
done_comes_back content c plain outcome may whole stood live machine is_done =
    elim (course content c plain outcome stood machine) [
      | inl none ↦ absurd (none.not_done (sym (ap (λ (o : CommandOutcome). o.status) none.is) ∙ is_done))
      | inr run ↦
          let have : ℕ = room_in (kept_of c plain) in
          let enough : fits plain content.bytes ≡ true =
          done_fits (fits plain content.bytes) (min (length content.bytes) (have + 1)) have
          (sym (ap (λ (o : CommandOutcome). o.status) run.is) ∙ is_done)
          in
          some_and (λ d. (f : Cartridge) (lost : ℕ) → LosesOneAlone d f lost → ComesBackAs f (with_content plain content))
          (changed_by (appends.append_steps_of plain content) (settled plain.table_area c))
          (effects (steps_of outcome.acts) (Some c)) (done_survives content c plain may (kept_by whole stood live run) enough)
          (ap (λ (o : CommandOutcome). effects (steps_of o.acts) (Some c)) run.is
          ∙ ap (λ (steps : List Step). effects (behind_settling c plain steps) (Some c)) (steps_are content c plain enough)
          ∙ done_behind c plain (appends.append_steps_of plain content) run.table)
    ]

-- where it was refused, it comes back without the volume
pub refused_comes_back : (content : Content) (c : Cartridge) (plain : Plain) (outcome : CommandOutcome)
    (left : Option Cartridge) → IsAppendable content → IsCartridge c → Stands c plain → IsTableLive c →
    AppendOutcome content.name content.date (Some c) content.bytes outcome → outcome.status ≢ status.Done →
    Torn (steps_of outcome.acts) (Some c) left →
    Torn (settling_steps plain.table_area c) (Some c) left ⊎ IsSomeAnd left (ComesBackAsOneOf plain plain)
refused_comes_back content c plain outcome left may whole stood live machine other torn =
    elim (course content c plain outcome stood machine) [
      | inl none ↦
          inl (nothing_torn c (settling_steps plain.table_area c) left
          (subst (λ (ss : List Step). Torn ss (Some c) left) (ap (λ (o : CommandOutcome). steps_of o.acts) none.is ∙ none.none) torn))
      | inr run ↦
          let have : ℕ = room_in (kept_of c plain) in
          let small : fits plain content.bytes ≡ false =
          not_done_small (fits plain content.bytes) (min (length content.bytes) (have + 1)) have
          (λ is. other (ap (λ (o : CommandOutcome). o.status) run.is ∙ is)) in
          small_survives content c plain may (kept_by whole stood live run) small left
          (subst (λ (o : CommandOutcome). Torn (steps_of o.acts) (Some c) left) run.is torn)
    ]
