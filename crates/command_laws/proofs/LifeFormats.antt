-- What `new` and `format`, answered or stopped, make of the volumes.
use Rattle.std.proofs.Common.{◌≡◌, ◌⊎◌, ℕ, inl, inr, List, [], ◌∷◌, ◌++◌, ◌*◌, ap, ◌∙◌, sym, subst, refl, Bool, Option, Some, None}
use Rattle.std.proofs.Common.{IsSomeAnd, IfSome, true, false}
use Rattle.cartridge_laws.proofs.ChangeLive.{steps_keep_live}
use Rattle.cartridge_laws.proofs.FormatCopies.{new_has_no_header}
use Rattle.cartridge_laws.specs.ChangeSteps.{HasNoRenew}
use Rattle.cartridge_spec.specs.Formatting.{HasNoHeader, StandsCleanly, copy_writes, fresh_plain}
use Rattle.cartridge_laws.specs.FormatMarks.{segment_formats}
use Rattle.cartridge_spec.specs.HeaderCopies.{IsUnformatted}
use Rattle.cartridge_spec.specs.TableSegment.{IsTableLive}
use Rattle.cartridge_spec.specs.Says.{with_parity}
use Rattle.cartridge_spec.specs.Volumes.{Plain, Stands}
use Rattle.command_laws.proofs.CommandPlainLaws.{format_leaves}
use Rattle.command_laws.proofs.CommandTable.{only_new_renews}
use Rattle.command_laws.proofs.CommandVolumes.{cleared_is_bare, format_bare, format_standing, formatted_fresh, renewed_effect}
use Rattle.command_laws.proofs.CommandUnread.{neither_from_bare, neither_from_unformatted}
use Rattle.command_laws.proofs.LifeUnformatted.{IsReferenced, formatting_references}
use Rattle.command_laws.specs.Outcomes.{NewOutcome}
use Rattle.command_laws.specs.Life.{Ended, Answered, Stopped, Becomes, IsSoundWith, IsSound, IsWithout, Leaves, MayEnd, begun_by}
use Rattle.command_spec.specs.Single.{FormatOutcome}
use Rattle.command_spec.specs.Outcome.{CommandOutcome}
use Rattle.command_spec.specs.Volumes.{StandsEmpty}
use Rattle.command_spec.specs.declared.status.Status.{Status}
use Rattle.command_spec.specs.declared.words.Words.{Words}
use Rattle.qic_base.proofs.Steps.{Torn-all}
use Rattle.qic_base.specs.Acts.{steps_of}
use Rattle.qic_base.specs.Cartridge.{Cartridge, new_cartridge}
use Rattle.qic_base.specs.CartridgeTerms.{IsCartridge}
use Rattle.qic_base.specs.Step.{Renew, effects, Torn}
use Rattle.command_laws.proofs.CopyPrinted.{left_torn}
use Rattle.cartridge_laws.specs.HeaderTerms.{NeitherReads, IsBare}
use Rattle.command_spec.specs.declared.status.Status.TheVariants as status
use Rattle.command_spec.specs.declared.words.Words.TheVariants as words

-- what a command makes of the volumes, and that the next run may rely on it
abbrev pub Makes : Words → (input : List ℕ) → Ended → (begun : Bool) → (held left : Option Cartridge) → (before : Option Plain) → Type 0
Makes command input ended begun held left before =
    (after : Option Plain) × Becomes command held input ended before after × IsSound (begun_by command ended begun) left after

-- an answered run is one that a stop behind its last step leaves
pub torn_by : (ended : Ended) (outcome : CommandOutcome) (held left : Option Cartridge) → Leaves ended outcome held left →
    Torn (steps_of outcome.acts) held left
torn_by (Answered answer printed) outcome held left leaves =
    subst (λ (l : Option Cartridge). Torn (steps_of outcome.acts) held l) (sym leaves.2) (Torn-all (steps_of outcome.acts) held)
torn_by (Stopped (Some text)) outcome (Some c) left leaves = left_torn c outcome.acts text left leaves
torn_by (Stopped (Some text)) outcome None left leaves = leaves
torn_by (Stopped None) outcome held left leaves = leaves

-- ---- what is sound

-- where a formatting was stopped, no more is asked
sound_begun : (begun : Bool) (held : Option Cartridge) (before : Option Plain) → IsSound begun held before → IsSound true held before
sound_begun begun None None sound = tt
sound_begun begun None (Some plain) sound = absurd sound
sound_begun begun (Some c) None sound = record { whole = sound.whole; first = sound.first; second = sound.second; bare = λ is. absurd (cc) }
sound_begun begun (Some c) (Some plain) sound =
    record { whole = sound.whole; stands = sound.stands; live = sound.live; clean = λ is. absurd (cc) }

without_bare : (begun : Bool) (left : Option Cartridge) → IfSome left IsCartridge → IsSomeAnd left HasNoHeader → IsSound begun left None
without_bare begun None whole bare = tt
without_bare begun (Some d) whole bare =
    let none : NeitherReads d = neither_from_bare d bare in
    record { whole = whole; first = none.0; second = none.1; bare = λ is. bare }

-- ---- a new cartridge

new_sound : (segments : ℕ) (begun : Bool) (left : Option Cartridge) → IfSome left IsCartridge → left ≡ Some (new_cartridge segments) →
    IsSound begun left None
new_sound segments begun left whole is =
    without_bare begun left whole (subst (λ (o : Option Cartridge). IsSomeAnd o HasNoHeader) (sym is) (new_has_no_header segments))

pub new_makes : (segments : ℕ) (input : List ℕ) (ended : Ended) (begun : Bool) (held left : Option Cartridge) (before : Option Plain)
    (outcome : CommandOutcome) →
    IsSound begun held before → NewOutcome segments outcome → Leaves ended outcome held left → IfSome left IsCartridge →
    Makes (words.New segments) input ended begun held left before
new_makes segments input (Answered answer printed) begun held left before outcome sound is leaves whole = (
  None,
  refl,
  new_sound segments false left whole (leaves.2 ∙ ap (λ (o : CommandOutcome). effects (steps_of o.acts) held) is
      ∙ renewed_effect segments held),
)
new_makes segments input (Stopped printed) begun held left before outcome sound is leaves whole =
    by_stop (subst (λ (o : CommandOutcome). Torn (steps_of o.acts) held left) is (torn_by (Stopped printed) outcome held left leaves))
  where
    by_stop : Torn (Renew segments ∷ []) held left → Makes (words.New segments) input (Stopped printed) begun held left before
    by_stop (inl same) = (before, inl refl, subst (λ (o : Option Cartridge). IsSound begun o before) (sym same) sound)
    by_stop (inr (inl none)) = (None, inr refl, subst (λ (o : Option Cartridge). IsSound begun o None) (sym none) tt)
    by_stop (inr (inr new)) = (None, inr refl, new_sound segments begun left whole (new ∙ renewed_effect segments held))

-- ---- formatting

module _ (label : List ℕ) (date : ℕ) (c : Cartridge) (input : List ℕ) (begun : Bool) (before : Option Plain) (whole : IsCartridge c)
    (sound : IsSound begun (Some c) before) (outcome : CommandOutcome) (plain : FormatOutcome label date (Some c) outcome) where
  abbrev command : Words
  command = words.Format label date

  -- carried out, or refused
  fresh_makes : (printed : List ℕ) (left : Option Cartridge) → IfSome left IsCartridge →
      IsSomeAnd left (StandsEmpty StandsCleanly c label date) → Makes command input (Answered status.Done printed) begun
      (Some c) left before
  fresh_makes printed None whole_left fresh = absurd fresh
  fresh_makes printed (Some d) whole_left fresh = (
    Some (fresh_plain c label date fresh.words fresh.area),
    inl (refl, record { words = fresh.words; area = fresh.area; fresh = fresh.fresh; is = refl }),
    record {
      whole = whole_left;
      stands = fresh.stands.stands;
      live = fresh.live;
      clean = λ is. fresh.stands.copies;
    },
  )

  cleared_makes : (printed : List ℕ) (segment : ℕ) (left : Option Cartridge) → IfSome left IsCartridge → IsSomeAnd left IsBare →
      Makes command input (Answered (status.DefectInFront segment) printed) begun (Some c) left before
  cleared_makes printed segment None whole_left bare = absurd bare
  cleared_makes printed segment (Some d) whole_left bare =
      (None, inr (inl ((segment, refl), refl)), without_bare false (Some d) whole_left bare.0)

  answered_makes : (answer : Status) (printed : List ℕ) (left : Option Cartridge) → FormatOutcome label date (Some c) outcome →
      Leaves (Answered answer printed) outcome (Some c) left → IfSome left IsCartridge →
      Makes command input (Answered answer printed) begun (Some c) left before
  answered_makes answer printed left (inl (locked, is)) leaves whole_left =
      let told : status.Protected ≡ answer = sym (ap (λ (o : CommandOutcome). o.status) is) ∙ leaves.0 in
      let same : left ≡ Some c = leaves.2 ∙ ap (λ (o : CommandOutcome). effects (steps_of o.acts) (Some c)) is in
      subst (λ (a : Status). Makes command input (Answered a printed) begun (Some c) left before) told
      (before, inr (inr (refl, refl)), subst (λ (o : Option Cartridge). IsSound begun o before) (sym same) sound)
  answered_makes answer printed left (inr (inl (free, (segment, first, is)))) leaves whole_left =
      let told : outcome.status ≡ status.DefectInFront segment = ap (λ (o : CommandOutcome). o.status) is in
      subst (λ (a : Status). Makes command input (Answered a printed) begun (Some c) left before) (sym told ∙ leaves.0)
      (cleared_makes printed segment left whole_left
      (subst (λ (o : Option Cartridge). IsSomeAnd o IsBare) (sym leaves.2) (cleared_is_bare label date segment c outcome whole plain told)))
  answered_makes answer printed left (inr (inr (free, none, (ws, (area, fresh, is))))) leaves whole_left =
      let told : outcome.status ≡ status.Done = ap (λ (o : CommandOutcome). o.status) is in
      subst (λ (a : Status). Makes command input (Answered a printed) begun (Some c) left before) (sym told ∙ leaves.0)
      (fresh_makes printed left whole_left
      (subst (λ (o : Option Cartridge). IsSomeAnd o (StandsEmpty StandsCleanly c label date)) (sym leaves.2)
      (formatted_fresh label date c outcome whole plain told)))

  -- stopped before its first step, or behind it
  no_new : HasNoRenew (steps_of outcome.acts)
  no_new = only_new_renews command (Some c) input outcome tt plain

  has_begun : (left : Option Cartridge) → Torn (steps_of outcome.acts) (Some c) left → FormatOutcome label date (Some c) outcome →
      (left ≡ Some c) ⊎ IsSomeAnd left IsReferenced
  has_begun left torn (inl (locked, is)) = inl (subst (λ (o : CommandOutcome). Torn (steps_of o.acts) (Some c) left) is torn)
  has_begun left torn (inr (inl (free, (segment, first, is)))) =
      formatting_references (segment_formats (28 * c.info.segments_per_track) ++ []) c left
      (subst (λ (o : CommandOutcome). HasNoRenew (steps_of o.acts)) is no_new)
      (subst (λ (o : CommandOutcome). Torn (steps_of o.acts) (Some c) left) is torn)
  has_begun left torn (inr (inr (free, none, (ws, (area, fresh, is))))) =
      formatting_references
      ((segment_formats (28 * c.info.segments_per_track) ++ copy_writes 0 (with_parity area) ++ copy_writes 1 (with_parity area)) ++ []) c
      left
      (subst (λ (o : CommandOutcome). HasNoRenew (steps_of o.acts)) is no_new)
      (subst (λ (o : CommandOutcome). Torn (steps_of o.acts) (Some c) left) is torn)

  abbrev Stops : Option (List ℕ) → Option Cartridge → Type 0
  Stops printed left = Makes command input (Stopped printed) begun (Some c) left before

  stopped_as_it_was : (printed : Option (List ℕ)) (left : Option Cartridge) → left ≡ Some c → Stops printed left
  stopped_as_it_was printed left same = (
    before,
    inl refl,
    subst (λ (o : Option Cartridge). IsSound true o before) (sym same)
        (sound_begun begun (Some c) before sound),
  )

  stopped_without : (printed : Option (List ℕ)) (d : Cartridge) → IsCartridge d → IsReferenced d → IsUnformatted d → Stops printed (Some d)
  stopped_without printed d whole_left referenced none =
      let neither : NeitherReads d = neither_from_unformatted d none referenced in
      (None, inr (inl refl), record { whole = whole_left; first = neither.0; second = neither.1; bare = λ is. absurd (cc) })

  stopped_empty : (printed : Option (List ℕ)) (d : Cartridge) → IsCartridge d → StandsEmpty Stands c label date d → Stops printed (Some d)
  stopped_empty printed d whole_left empty = (
    Some (fresh_plain c label date empty.words empty.area),
    inr (inr (record { words = empty.words; area = empty.area; fresh = empty.fresh; is = refl })),
    record { whole = whole_left; stands = empty.stands; live = empty.live; clean = λ is. absurd (cc) },
  )

-- a stop over a cartridge with a list, whose header copies are clean
standing_stops : (printed : Option (List ℕ)) (label : List ℕ) (date : ℕ) (c : Cartridge) (input : List ℕ) (plain : Plain)
    (left : Option Cartridge) (ready : IsSoundWith false c plain) (outcome : CommandOutcome) →
    FormatOutcome label date (Some c) outcome → Torn (steps_of outcome.acts) (Some c) left → IfSome left IsCartridge →
    Makes (words.Format label date) input (Stopped printed) false (Some c) left (Some plain)
standing_stops printed label date c input plain left ready outcome yields torn whole_left =
    elim (has_begun label date c input false (Some plain) ready.whole ready outcome yields left torn yields) [
      | inl same ↦ stopped_as_it_was label date c input false (Some plain) ready.whole ready outcome yields printed left same
      | inr referenced ↦ by_left left whole_left referenced live
          (format_standing label date c plain left ready.whole
          (record { stands = ready.stands; copies = ready.clean refl })
          (format_leaves label date (Some c) left outcome yields torn))
    ]
  where
    live : IsSomeAnd left IsTableLive
    live = steps_keep_live (steps_of outcome.acts) c left (only_new_renews (words.Format label date) (Some c) input outcome tt yields)
        ready.live torn

    by_left : (l : Option Cartridge) → IfSome l IsCartridge → IsSomeAnd l IsReferenced → IsSomeAnd l IsTableLive →
        IsSomeAnd l (λ d. StandsCleanly d plain ⊎ IsUnformatted d ⊎ StandsEmpty Stands c label date d) →
        Makes (words.Format label date) input (Stopped printed) false (Some c) l (Some plain)
    by_left None whole referenced live is = absurd is
    by_left (Some d) whole referenced live (inl stands) =
        (Some plain, inl refl, record { whole = whole; stands = stands.stands; live = live; clean = λ is. absurd (cc) })
    by_left (Some d) whole referenced live (inr (inl none)) = stopped_without label date c input false
        (Some plain) ready.whole ready outcome yields printed d whole referenced none
    by_left (Some d) whole referenced live (inr (inr empty)) = stopped_empty label date c input false
        (Some plain) ready.whole ready outcome yields printed d whole empty

-- .. and over one with bare header copies
without_stops : (printed : Option (List ℕ)) (label : List ℕ) (date : ℕ) (c : Cartridge) (input : List ℕ) (left : Option Cartridge)
    (without : IsWithout false c) (outcome : CommandOutcome) →
    FormatOutcome label date (Some c) outcome → Torn (steps_of outcome.acts) (Some c) left → IfSome left IsCartridge →
    Makes (words.Format label date) input (Stopped printed) false (Some c) left None
without_stops printed label date c input left without outcome yields torn whole_left =
    elim (has_begun label date c input false None without.whole without outcome yields left torn yields) [
      | inl same ↦ stopped_as_it_was label date c input false None without.whole without outcome yields printed left same
      | inr referenced ↦ by_left left whole_left referenced
          (format_bare label date c left without.whole (without.bare refl) (inr (without.first, without.second))
          (format_leaves label date (Some c) left outcome yields torn))
    ]
  where
    by_left : (l : Option Cartridge) → IfSome l IsCartridge → IsSomeAnd l IsReferenced →
        IsSomeAnd l (λ d. IsUnformatted d ⊎ StandsEmpty Stands c label date d) →
        Makes (words.Format label date) input (Stopped printed) false (Some c) l None
    by_left None whole referenced is = absurd is
    by_left (Some d) whole referenced (inl none) = stopped_without label date c input false None without.whole without outcome yields
        printed d whole referenced none
    by_left (Some d) whole referenced (inr empty) = stopped_empty label date c input false None without.whole without outcome yields printed
        d whole empty

pub format_makes : (label : List ℕ) (date : ℕ) (input : List ℕ) (ended : Ended) (begun : Bool) (c : Cartridge) (left : Option Cartridge)
    (before : Option Plain) (outcome : CommandOutcome) →
    IsSound begun (Some c) before → MayEnd (words.Format label date) ended begun → FormatOutcome label date (Some c) outcome →
    Leaves ended outcome (Some c) left → IfSome left IsCartridge →
    Makes (words.Format label date) input ended begun (Some c) left before
format_makes label date input (Answered answer printed) begun c left None outcome sound may plain leaves whole =
    answered_makes label date c input begun None sound.whole sound outcome plain answer printed left plain leaves whole
format_makes label date input (Answered answer printed) begun c left (Some list) outcome sound may plain leaves whole =
    answered_makes label date c input begun (Some list) sound.whole sound outcome plain answer printed left plain leaves whole
format_makes label date input (Stopped printed) true c left before outcome sound may plain leaves whole = absurd (cc)
format_makes label date input (Stopped printed) false c left None outcome sound may plain leaves whole =
    without_stops printed label date c input left sound outcome plain (torn_by (Stopped printed) outcome (Some c) left leaves) whole
format_makes label date input (Stopped printed) false c left (Some list) outcome sound may plain leaves whole =
    standing_stops printed label date c input list left sound outcome plain (torn_by (Stopped printed) outcome (Some c) left leaves) whole
