-- What scrubbing in either form leaves, done or stopped: what a scrub leaves where the wrong sectors were lost before it.
use Rattle.std.proofs.Common.{◌≡◌, ◌⊎◌, ℕ, inl, inr, List, [], ◌∷◌, refl, ◌<◌, sym, ◌∙◌, subst, ap, Option, Some, None, IsSomeAnd}
use Rattle.std.proofs.lemmas.Bool.{cases_eq}
use Rattle.std.proofs.lemmas.List.{append-nil}
use Rattle.cartridge_laws.proofs.AppendKeeping.{IsIn, AreIn}
use Rattle.cartridge_laws.proofs.AppendWhole.{sector_writes_are_cartridge}
use Rattle.cartridge_laws.proofs.FormatStanding.{same_cells}
use Rattle.cartridge_laws.proofs.FormatViews.{view_of_sector, view_of_other_sector}
use Rattle.cartridge_laws.proofs.FormatWriting.{some_weaker, effects-some, some_and}
use Rattle.cartridge_laws.specs.AppendWrites.{AreWrites, EachIs, IsOfSector}
use Rattle.cartridge_spec.specs.Says.{Saying, Says, Data, with_parity}
use Rattle.cartridge_spec.specs.Settling.{changed_by}
use Rattle.cartridge_spec.specs.Shape.{IsLive, is_unreadable, sector_at}
use Rattle.cartridge_spec.specs.Table.{Entry}
use Rattle.cartridge_laws.specs.Table.{IsSoundList}
use Rattle.cartridge_spec.specs.Volumes.{worn}
use Rattle.command_laws.proofs.ScrubApart.{looked_rise}
use Rattle.command_laws.proofs.ScrubAtOnce.{IsPlaced, at_once_placed}
use Rattle.command_laws.proofs.ScrubDone.{scrubbed_at_once}
use Rattle.command_laws.proofs.ScrubMending.{stopped_at_once, writes_more}
use Rattle.command_laws.proofs.ScrubSeen.{wrong_small, found_at_once, IsSeen, is_seen, said_at_once, IsLostNow, finds_says}
use Rattle.command_laws.proofs.ScrubTurns.{steps_whole}
use Rattle.command_laws.specs.DeepScrubLaws.{FoundMayBe, FindsAtOnce, DoneInForm, StoppedInForm, DoneFormIsCartridge}
use Rattle.command_laws.specs.DeepScrubLaws.{StoppedFormIsCartridge}
use Rattle.command_laws.specs.ScrubFound.{FindAtOnce, without_all, IsBeingScrubbed}
use Rattle.command_laws.specs.ScrubMended.{IsMended, IsBeingMended, IsScrubbed}
use Rattle.command_laws.specs.ScrubSayings.{Rise, SayAtOnce, acts_at_once}
use Rattle.command_spec.specs.Scrub.{reads, Looked, looked_at, MayFind, Finding, FindInTurn, HasFound, ScrubsAs, finding_acts, sayings_of}
use Rattle.command_spec.specs.Scrub.{steps_for, without}
use Rattle.command_laws.specs.ScrubTerms.{last_act, counts_for}
use Rattle.command_spec.specs.declared.depth.Depth.{Depth}
use Rattle.qic_base.proofs.Joins.{steps_of-append}
use Rattle.qic_base.proofs.Steps.{Torn-all}
use Rattle.qic_base.specs.Acts.{Act, steps_of}
use Rattle.qic_base.specs.Cartridge.{Cartridge, view_at, with_view}
use Rattle.qic_base.specs.CartridgeTerms.{IsCartridge}
use Rattle.qic_base.specs.Step.{AreClosing, AreOpening, NewSector, with_sector, with_sectors, with_worn}
use Rattle.qic_base.specs.Step.{Step, WriteSectors, FormatSegment, SetReferenced, SetProtected, Renew, Wear, Spoil, Upgrade, changed}
use Rattle.qic_base.specs.Step.{written_view, worn_view, effects, Halfway, Torn}
use Rattle.qic_base.specs.declared.tape.SectorView.{SectorView}
use Rattle.qic_base.specs.declared.tape.SectorView.TheVariants.{Blank, Lost, Holds}

-- ---- whatever the tape holds

may_find : (depth : Depth) (c : Cartridge) (l : Looked) (s : Saying) (w : Option ℕ) → HasFound depth c l s w → MayFind depth l s w
may_find depth c l s None found = tt
may_find depth c l s (Some sector) found = (found.0, ap (reads l) found.2 ∙ found.3.can_be_read, wrong_small found.3)

pub found_may_be : FoundMayBe
found_may_be depth c [] [] found = tt
found_may_be depth c [] (f ∷ fs) found = absurd found
found_may_be depth c (l ∷ ls) [] found = absurd found
found_may_be depth c (l ∷ ls) (f ∷ fs) found =
    (may_find depth c l f.saying f.wrong found.0, found_may_be depth (changed_by (steps_for c l f) c) ls fs found.1)

-- ---- at once

pub finds_at_once_is : FindsAtOnce
finds_at_once_is depth c words entries last acts order scrubs =
    let all = found_at_once depth (looked_at words entries) scrubs.findings c (looked_rise words last entries order) scrubs.found in
    (all.found, all.acts)

-- the steps of a scrub, as those of its findings
pub form_steps : (depth : Depth) (c : Cartridge) (words : List ℕ) (entries : List Entry) (acts : List Act)
    (scrubs : ScrubsAs depth c words entries acts) →
    steps_of acts ≡ steps_of (finding_acts c (looked_at words entries) scrubs.findings)
form_steps depth c words entries acts scrubs =
    let looked : List Looked = looked_at words entries in
    ap (λ (all : List Act). steps_of all) scrubs.are
    ∙ steps_of-append (finding_acts c looked scrubs.findings) (last_act (counts_for c looked scrubs.findings) ∷ [])
    ∙ append-nil (steps_of (finding_acts c looked scrubs.findings))

-- A scrub, seen with the wrong sectors lost before it.
pub record AsSeen (depth : Depth) (c : Cartridge) (words : List ℕ) (entries : List Entry) (acts : List Act)
    (fs : List Finding) : Type 0 where
  pub rise : Rise (looked_at words entries)
  pub found : FindAtOnce depth c (looked_at words entries) fs
  pub seen : IsSeen depth c (without_all c (looked_at words entries) fs) (looked_at words entries) fs
  pub say : SayAtOnce (without_all c (looked_at words entries) fs) (looked_at words entries) (sayings_of fs)
  pub steps : steps_of acts ≡ steps_of (acts_at_once (without_all c (looked_at words entries) fs) (looked_at words entries) (sayings_of fs))

pub as_seen : (depth : Depth) (c : Cartridge) (words : List ℕ) (entries : List Entry) (last : ℕ) (acts : List Act) →
    IsSoundList last entries →
    (scrubs : ScrubsAs depth c words entries acts) → AsSeen depth c words entries acts scrubs.findings
as_seen depth c words entries last acts order scrubs =
    let looked : List Looked = looked_at words entries in
    let fs : List Finding = scrubs.findings in
    let rise = looked_rise words last entries order in
    let once = finds_at_once_is depth c words entries last acts order scrubs in
    let seen = is_seen depth c looked fs rise once.0 in
    let said = said_at_once depth (without_all c looked fs) c looked fs once.0 seen.seen in
    record {
      rise = rise;
      found = once.0;
      seen = seen;
      say = said.say;
      steps = form_steps depth c words entries acts scrubs ∙ ap (λ (all : List Act). steps_of all) once.1 ∙ sym said.steps;
    }

-- ---- the same writes on both

-- Each sector is the same on both, or was not written yet: then it is as it was on each.
pub record IsBehind (c e d y : Cartridge) : Type 0 where
  pub info : (d.info ≡ c.info) × (y.info ≡ e.info)
  pub each : (s i : ℕ) → i < 32 → (view_at d s i ≡ view_at y s i) ⊎ ((view_at d s i ≡ view_at c s i) × (view_at y s i ≡ view_at e s i))

-- sectors of both take writes alike
abbrev pub TakeAlike : (c e : Cartridge) → Type 0
TakeAlike c e =
    (s i : ℕ) → i < 32 →
    (view_at e s i ≡ view_at c s i) ⊎ ((old : List ℕ) × (view_at c s i ≡ Holds old) × (view_at e s i ≡ Lost))

not_begun : (c e : Cartridge) → IsBehind c e c e
not_begun c e = record { info = (refl, refl); each = λ s i h. inr (refl, refl) }

-- a change of a sector that makes both the same
changed_both : (c e d y : Cartridge) (s i : ℕ) (f : SectorView → SectorView) → f Blank ≡ Blank → ((old : List ℕ) → f (Holds old) ≡ f Lost) →
    i < 32 →
    TakeAlike c e → IsBehind c e d y → IsBehind c e (with_view d s i (f (view_at d s i))) (with_view y s i (f (view_at y s i)))
changed_both c e d y s i f blank alike small take behind = record {
  info = behind.info;
  each = λ t j h. elim (cases_eq t s) [
    | inl segment ↦ elim (cases_eq j i) [
      | inl sector ↦ inl (subst (λ (u : ℕ). view_at d2 u j ≡ view_at y2 u j) (sym segment)
          (subst (λ (k : ℕ). view_at d2 s k ≡ view_at y2 s k) (sym sector) here))
      | inr apart ↦ other t j h (λ same is. apart (sym is))
    ]
    | inr apart ↦ other t j h (λ same is. apart same)
  ];
}
  where
    d2 : Cartridge
    d2 = with_view d s i (f (view_at d s i))

    y2 : Cartridge
    y2 = with_view y s i (f (view_at y s i))

    here : view_at (with_view d s i (f (view_at d s i))) s i ≡ view_at (with_view y s i (f (view_at y s i))) s i
    here =
        view_of_sector d s i f blank
        ∙ elim (behind.each s i small) [
          | inl same ↦ ap f same
          | inr kept ↦ elim (take s i small) [
            | inl same ↦ ap f (kept.0 ∙ sym same ∙ sym kept.1)
            | inr both ↦ ap f (kept.0 ∙ both.1) ∙ alike both.0 ∙ ap f (sym both.2 ∙ sym kept.1)
          ]
        ]
        ∙ sym (view_of_sector y s i f blank)

    other : (t j : ℕ) → j < 32 → (t ≡ s → i ≡ j → ⊥) →
        (view_at (with_view d s i (f (view_at d s i))) t j ≡ view_at (with_view y s i (f (view_at y s i))) t j)
        ⊎ ((view_at (with_view d s i (f (view_at d s i))) t j ≡ view_at c t j)
        × (view_at (with_view y s i (f (view_at y s i))) t j ≡ view_at e t j))
    other t j h apart =
        let first = view_of_other_sector d s i t j (f (view_at d s i)) small h apart in
        let second = view_of_other_sector y s i t j (f (view_at y s i)) small h apart in
        elim (behind.each t j h) [
          | inl same ↦ inl (first ∙ same ∙ sym second)
          | inr kept ↦ inr (first ∙ kept.0, second ∙ kept.1)
        ]

abbrev pub IsPlacedIn : ℕ → List NewSector → Type 0
IsPlacedIn segment new = EachIs (λ s i bytes. IsPlaced s i × (i < 32)) segment new

sectors_both : (c e d y : Cartridge) (segment : ℕ) (new : List NewSector) → IsPlacedIn segment new → TakeAlike c e → IsBehind c e d y →
    IsBehind c e (with_sectors segment new d) (with_sectors segment new y)
sectors_both c e d y segment [] are take behind = behind
sectors_both c e d y segment (first ∷ more) are take behind =
    sectors_both c e (with_sector segment first d) (with_sector segment first y) segment more are.1 take
    (changed_both c e d y segment first.sector (written_view first.bytes) refl (λ old. refl) are.0.1 take behind)

step_both : (c e d y : Cartridge) (s : Step) → IsIn IsPlaced s → TakeAlike c e → IsBehind c e d y → IsBehind c e (changed s d) (changed s y)
step_both c e d y (WriteSectors segment new) is take behind = sectors_both c e d y segment new is take behind
step_both c e d y (FormatSegment segment) is take behind = absurd is
step_both c e d y SetReferenced is take behind = absurd is
step_both c e d y (SetProtected on) is take behind = absurd is
step_both c e d y (Renew n) is take behind = absurd is
step_both c e d y (Wear segment sector) is take behind = absurd is
step_both c e d y (Spoil segment sector) is take behind = absurd is
step_both c e d y Upgrade is take behind = absurd is

done_both : (c e d y : Cartridge) (ss : List Step) → AreIn IsPlaced ss → TakeAlike c e → IsBehind c e d y →
    IsBehind c e (changed_by ss d) (changed_by ss y)
done_both c e d y [] are take behind = behind
done_both c e d y (s ∷ ss) are take behind = done_both c e (changed s d) (changed s y) ss are.1 take (step_both c e d y s are.0 take behind)

-- a stop on one, and the same stop on the other
pub record StopsBoth (c e y : Cartridge) (ss : List Step) (d : Cartridge) : Type 0 where
  pub other : Cartridge
  pub torn : Torn ss (Some y) (Some other)
  pub behind : IsBehind c e d other

-- the same sectors lost, ..
closing_both : (c e d y : Cartridge) (segment : ℕ) (new : List NewSector) (left : Cartridge) → IsPlacedIn segment new → TakeAlike c e →
    IsBehind c e d y → AreClosing segment new d left →
    (other : Cartridge) × AreClosing segment new y other × IsBehind c e left other
closing_both c e d y segment [] left are take behind same = (y, refl, subst (λ x. IsBehind c e x y) (sym same) behind)
closing_both c e d y segment (first ∷ more) left are take behind (inl stood) =
    let stops = closing_both c e d y segment more left are.1 take behind stood in
    (stops.0, inl stops.1, stops.2)
closing_both c e d y segment (first ∷ more) left are take behind (inr worn) =
    let stops = closing_both c e (with_worn segment first.sector d) (with_worn segment first.sector y) segment more left are.1 take
    (changed_both c e d y segment first.sector worn_view refl (λ old. refl) are.0.1 take behind) worn in
    (stops.0, inr stops.1, stops.2)

-- .. or lost and written
opening_both : (c e d y : Cartridge) (segment : ℕ) (new : List NewSector) (left : Cartridge) → IsPlacedIn segment new → TakeAlike c e →
    IsBehind c e d y → AreOpening segment new d left →
    (other : Cartridge) × AreOpening segment new y other × IsBehind c e left other
opening_both c e d y segment [] left are take behind same = (y, refl, subst (λ x. IsBehind c e x y) (sym same) behind)
opening_both c e d y segment (first ∷ more) left are take behind (inl worn) =
    let stops = opening_both c e (with_worn segment first.sector d) (with_worn segment first.sector y) segment more left are.1 take
    (changed_both c e d y segment first.sector worn_view refl (λ old. refl) are.0.1 take behind) worn in
    (stops.0, inl stops.1, stops.2)
opening_both c e d y segment (first ∷ more) left are take behind (inr written) =
    let stops = opening_both c e (with_sector segment first d) (with_sector segment first y) segment more left are.1 take
    (changed_both c e d y segment first.sector (written_view first.bytes) refl (λ old. refl) are.0.1 take behind) written in
    (stops.0, inr stops.1, stops.2)

writes_both : (c e d y : Cartridge) (segment : ℕ) (new : List NewSector) (ss : List Step) (left : Option Cartridge) →
    IsPlacedIn segment new → TakeAlike c e → IsBehind c e d y → Halfway (WriteSectors segment new) (Some d) left →
    IsSomeAnd left (StopsBoth c e y (WriteSectors segment new ∷ ss))
writes_both c e d y segment new ss None are take behind half = absurd half
writes_both c e d y segment new ss (Some x) are take behind (inl closing) =
    let stops = closing_both c e d y segment new x are take behind closing in
    record { other = stops.0; torn = inr (inl (inl stops.1)); behind = stops.2 }
writes_both c e d y segment new ss (Some x) are take behind (inr opening) =
    let stops = opening_both c e d y segment new x are take behind opening in
    record { other = stops.0; torn = inr (inl (inr stops.1)); behind = stops.2 }

half_both : (c e d y : Cartridge) (s : Step) (ss : List Step) (left : Option Cartridge) → IsIn IsPlaced s → TakeAlike c e →
    IsBehind c e d y →
    Halfway s (Some d) left → IsSomeAnd left (StopsBoth c e y (s ∷ ss))
half_both c e d y (WriteSectors segment new) ss left is take behind half = writes_both c e d y segment new ss left is take behind half
half_both c e d y (FormatSegment segment) ss left is take behind half = absurd is
half_both c e d y SetReferenced ss left is take behind half = absurd is
half_both c e d y (SetProtected on) ss left is take behind half = absurd is
half_both c e d y (Renew n) ss left is take behind half = absurd is
half_both c e d y (Wear segment sector) ss left is take behind half = absurd is
half_both c e d y (Spoil segment sector) ss left is take behind half = absurd is
half_both c e d y Upgrade ss left is take behind half = absurd is

stops_both : (c e d y : Cartridge) (ss : List Step) (left : Option Cartridge) → AreIn IsPlaced ss → TakeAlike c e → IsBehind c e d y →
    Torn ss (Some d) left → IsSomeAnd left (StopsBoth c e y ss)
stops_both c e d y [] left are take behind is = some_and (StopsBoth c e y []) d left (record { other = y; torn = refl; behind = behind }) is
stops_both c e d y (s ∷ ss) left are take behind (inl is) =
    some_and (StopsBoth c e y (s ∷ ss)) d left (record { other = y; torn = inl refl; behind = behind }) is
stops_both c e d y (s ∷ ss) left are take behind (inr (inl half)) = half_both c e d y s ss left are.0 take behind half
stops_both c e d y (s ∷ ss) left are take behind (inr (inr torn)) =
    some_weaker left (λ x stops. record { other = stops.other; torn = inr (inr stops.torn); behind = stops.behind })
    (stops_both c e (changed s d) (changed s y) ss left are.1 take (step_both c e d y s are.0 take behind) torn)

-- ---- what is left

take_alike : (depth : Depth) (c e : Cartridge) (ls : List Looked) (fs : List Finding) → IsSeen depth c e ls fs → TakeAlike c e
take_alike depth c e ls fs seen s i h =
    elim (seen.each s i h) [
      | inl same ↦ inl same
      | inr lost ↦ inr (lost.old, lost.held, lost.lost)
    ]

-- what a stop leaves is behind what the same stop leaves where the wrong sectors were lost before
pub record IsLeft (looked : List Looked) (c e d : Cartridge) : Type 0 where
  pub other : Cartridge
  pub way : IsBeingMended looked e other
  pub behind : IsBehind c e d other

pub stopped_left : (depth : Depth) (c : Cartridge) (words : List ℕ) (entries : List Entry) (acts : List Act) (fs : List Finding)
    (left : Option Cartridge) →
    AsSeen depth c words entries acts fs → Torn (steps_of acts) (Some c) left →
    IsSomeAnd left (IsLeft (looked_at words entries) c (without_all c (looked_at words entries) fs))
stopped_left depth c words entries acts fs left run torn =
    let looked : List Looked = looked_at words entries in
    let e : Cartridge = without_all c looked fs in
    let steps : List Step = steps_of (acts_at_once e looked (sayings_of fs)) in
    some_weaker left
    (λ d stops. record {
      other = stops.other;
      way = stopped_at_once looked e (sayings_of fs) (Some stops.other) run.say stops.torn;
      behind = stops.behind;
    })
    (stops_both c e c e steps left (at_once_placed e looked (sayings_of fs)) (take_alike depth c e looked fs run.seen) (not_begun c e)
    (subst (λ (ss : List Step). Torn ss (Some c) left) run.steps torn))

was_live : (depth : Depth) (c e : Cartridge) (ls : List Looked) (s i : ℕ) → (view_at e s i ≡ view_at c s i) ⊎ IsLostNow depth c e ls s i →
    view_at e s i ≡ Lost → IsLive (view_at c s i)
was_live depth c e ls s i (inl same) lost = subst IsLive (sym lost ∙ same) tt
was_live depth c e ls s i (inr wrong) lost = subst IsLive (sym wrong.held) tt

-- a wrong sector is one of those to be mended
pub wrong_is_mended : (depth : Depth) (c e : Cartridge) (ls : List Looked) (s i : ℕ) → IsLostNow depth c e ls s i →
    (bytes : List ℕ) × IsMended e ls s i bytes
wrong_is_mended depth c e ls s i lost =
    let l : Looked = lost.found.at in
    let wrong = lost.found.wrong in (
      sector_at (with_parity lost.found.sectors) wrong.place,
      record {
        at = l;
        among = lost.found.among;
        here = lost.found.here;
        sectors = lost.found.sectors;
        says = subst (λ (xs : List SectorView). Says xs (Data lost.found.sectors))
            (sym (same_cells (worn l.segment i c) e l.segment l.mask lost.seen)) wrong.says;
        can_be_read = wrong.can_be_read;
        place = wrong.place;
        within = wrong.within;
        index = wrong.index;
        unreadable = ap (λ (v : SectorView). is_unreadable v) lost.lost;
        block = refl;
      },
    )

being_scrubbed : (depth : Depth) (looked : List Looked) (c e d : Cartridge) (fs : List Finding) → IsSeen depth c e looked fs →
    IsLeft looked c e d →
    IsBeingScrubbed looked e c d
being_scrubbed depth looked c e d fs seen left = record {
  info = left.behind.info.0;
  each = λ s i h. elim (left.behind.each s i h) [
    | inr kept ↦ inl kept.0
    | inl same ↦ elim (left.way.each s i h) [
      | inr has ↦ inr (record {
        bytes = has.0;
        mended = has.1;
        live = was_live depth c e looked s i (seen.each s i h) has.2;
        became = inr (same ∙ has.3);
      })
      | inl as_seen ↦ elim (seen.each s i h) [
        | inl is ↦ inl (same ∙ as_seen ∙ is)
        | inr lost ↦
            let mended = wrong_is_mended depth c e looked s i lost in
            inr (record {
              bytes = mended.0;
              mended = mended.1;
              live = subst IsLive (sym lost.held) tt;
              became = inl (same ∙ as_seen ∙ lost.lost);
            })
      ]
    ]
  ];
}

pub stopped_in_form : StoppedInForm
stopped_in_form depth c words entries last acts left order scrubs torn =
    let looked : List Looked = looked_at words entries in
    let run = as_seen depth c words entries last acts order scrubs in
    some_weaker left (λ d is. being_scrubbed depth looked c (without_all c looked scrubs.findings) d scrubs.findings run.seen is)
    (stopped_left depth c words entries acts scrubs.findings left run torn)

-- ---- all of it done

done_behind : (depth : Depth) (c : Cartridge) (words : List ℕ) (entries : List Entry) (acts : List Act) (fs : List Finding) →
    AsSeen depth c words entries acts fs →
    IsBehind c (without_all c (looked_at words entries) fs) (changed_by (steps_of acts) c)
    (changed_by (steps_of (acts_at_once (without_all c (looked_at words entries) fs) (looked_at words entries) (sayings_of fs)))
    (without_all c (looked_at words entries) fs))
done_behind depth c words entries acts fs run =
    let looked : List Looked = looked_at words entries in
    let e : Cartridge = without_all c looked fs in
    let steps : List Step = steps_of (acts_at_once e looked (sayings_of fs)) in
    subst (λ (ss : List Step). IsBehind c e (changed_by ss c) (changed_by steps e)) (sym run.steps)
    (done_both c e c e steps (at_once_placed e looked (sayings_of fs)) (take_alike depth c e looked fs run.seen) (not_begun c e))

-- both are the same then
same_done : (depth : Depth) (looked : List Looked) (c e d y : Cartridge) (fs : List Finding) → IsSeen depth c e looked fs →
    IsScrubbed looked e y →
    IsBehind c e d y → (s i : ℕ) → i < 32 → view_at d s i ≡ view_at y s i
same_done depth looked c e d y fs seen scrubbed behind s i h =
    elim (behind.each s i h) [
      | inl same ↦ same
      | inr kept ↦ elim (seen.each s i h) [
        | inl is ↦ kept.0 ∙ sym is ∙ sym kept.1
        | inr lost ↦
            let mended = wrong_is_mended depth c e looked s i lost in
            let both : Lost ≡ Holds mended.0 =
            sym (kept.1 ∙ lost.lost) ∙ scrubbed.mended s i mended.0 h mended.1 ∙ ap (written_view mended.0) lost.lost in
            absurd (cc)
      ]
    ]

-- what is left, as it is mended where the wrong sectors were lost before
pub mended_as_seen : (depth : Depth) (c : Cartridge) (words : List ℕ) (entries : List Entry) (acts : List Act) (fs : List Finding) →
    AsSeen depth c words entries acts fs →
    IsBeingMended (looked_at words entries) (without_all c (looked_at words entries) fs) (changed_by (steps_of acts) c)
mended_as_seen depth c words entries acts fs run =
    let looked : List Looked = looked_at words entries in
    let e : Cartridge = without_all c looked fs in
    let steps : List Step = steps_of (acts_at_once e looked (sayings_of fs)) in
    let d : Cartridge = changed_by (steps_of acts) c in
    let y : Cartridge = changed_by steps e in
    let way : IsBeingMended looked e y =
    subst (λ (o : Option Cartridge). IsSomeAnd o (IsBeingMended looked e)) (effects-some steps e)
    (stopped_at_once looked e (sayings_of fs) (effects steps (Some e)) run.say (Torn-all steps (Some e))) in
    let behind : IsBehind c e d y = done_behind depth c words entries acts fs run in
    let same : (s i : ℕ) → i < 32 → view_at d s i ≡ view_at y s i =
    same_done depth looked c e d y fs run.seen (scrubbed_at_once looked e (sayings_of fs) run.rise run.say) behind in
    record {
      info = behind.info.0 ∙ sym run.seen.info;
      each = λ s i h. elim (way.each s i h) [
        | inl is ↦ inl (same s i h ∙ is)
        | inr has ↦ inr (has.0, has.1, has.2, same s i h ∙ has.3)
      ];
    }

pub scrubbed_as_seen : (depth : Depth) (c : Cartridge) (words : List ℕ) (entries : List Entry) (acts : List Act) (fs : List Finding) →
    AsSeen depth c words entries acts fs →
    IsScrubbed (looked_at words entries) (without_all c (looked_at words entries) fs) (changed_by (steps_of acts) c)
scrubbed_as_seen depth c words entries acts fs run =
    let looked : List Looked = looked_at words entries in
    let e : Cartridge = without_all c looked fs in
    let d : Cartridge = changed_by (steps_of acts) c in
    let y : Cartridge = changed_by (steps_of (acts_at_once e looked (sayings_of fs))) e in
    let scrubbed : IsScrubbed looked e y = scrubbed_at_once looked e (sayings_of fs) run.rise run.say in
    let behind : IsBehind c e d y = done_behind depth c words entries acts fs run in
    let same : (s i : ℕ) → i < 32 → view_at d s i ≡ view_at y s i = same_done depth looked c e d y fs run.seen scrubbed behind in
    record {
      info = behind.info.0 ∙ sym run.seen.info;
      mended = λ s i bytes h mended. same s i h ∙ scrubbed.mended s i bytes h mended;
      others = λ s i h none. same s i h ∙ scrubbed.others s i h none;
    }

pub done_in_form : DoneInForm
done_in_form depth c words entries last acts order scrubs =
    scrubbed_as_seen depth c words entries acts scrubs.findings (as_seen depth c words entries last acts order scrubs)

-- ---- what is left is a cartridge

finding_whole : (depth : Depth) (ls : List Looked) (fs : List Finding) (c : Cartridge) → FindInTurn depth c ls fs →
    AreWrites IsOfSector (steps_of (finding_acts c ls fs))
finding_whole depth [] fs c found = tt
finding_whole depth (l ∷ ls) [] c found = tt
finding_whole depth (l ∷ ls) (f ∷ fs) c found =
    writes_more IsOfSector (steps_for c l f) (steps_of (finding_acts (changed_by (steps_for c l f) c) ls fs))
    (steps_whole (without f.wrong l c) l f.saying (finds_says depth c l f found.0))
    (finding_whole depth ls fs (changed_by (steps_for c l f) c) found.1)

pub stopped_form_is_cartridge : StoppedFormIsCartridge
stopped_form_is_cartridge depth c words entries acts left whole scrubs torn =
    let looked : List Looked = looked_at words entries in
    sector_writes_are_cartridge c (steps_of (finding_acts c looked scrubs.findings)) left whole
    (finding_whole depth looked scrubs.findings c scrubs.found)
    (subst (λ (ss : List Step). Torn ss (Some c) left) (form_steps depth c words entries acts scrubs) torn)

pub done_form_is_cartridge : DoneFormIsCartridge
done_form_is_cartridge depth c words entries acts whole scrubs =
    subst (λ (o : Option Cartridge). IsSomeAnd o IsCartridge) (effects-some (steps_of acts) c)
    (stopped_form_is_cartridge depth c words entries acts (effects (steps_of acts) (Some c)) whole scrubs
    (Torn-all (steps_of acts) (Some c)))
