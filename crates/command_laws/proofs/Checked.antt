-- What a check tells of each segment: one thing, and something; and that it tells it with no step.
use Rattle.std.proofs.Common.{◌≡◌, inl, inr, ℕ, List, [], ◌∷◌, ◌++◌, refl, sym, ◌∙◌, ap, subst, Option, Some, None, Bool, true, false}
use Rattle.std.proofs.Common.{arith, All}
use Rattle.std.proofs.Common.{IfSome}
use Rattle.std.proofs.lemmas.Bool.{cases_eq, ne_eqb, false≢true}
use Rattle.std.proofs.lemmas.List.Elements.{All-head, All-tail}
use Rattle.std.specs.List.{AllZip}
use Rattle.std.specs.Prelude.{◌==◌, ◌&&◌, count_by, if◌then◌else◌}
use Rattle.cartridge_laws.proofs.Blocks.{says_always}
use Rattle.cartridge_laws.proofs.MountOnce.{mounts_always, mounts_is_function, not_lost}
use Rattle.cartridge_laws.proofs.Sayings.{says_is_function}
use Rattle.cartridge_laws.proofs.Segments.{cells_are_views, length-whole_cells}
use Rattle.cartridge_laws.proofs.TableSayings.{table_says_is_function, table_says_always}
use Rattle.cartridge_spec.specs.Header.{HeaderFault, header_fault}
use Rattle.cartridge_spec.specs.HeaderCopies.{copy_cells}
use Rattle.cartridge_spec.specs.Mounting.{Mounting, Mounted, Mounts, RefusesHeader, RefusesTable}
use Rattle.cartridge_spec.specs.Says.{Saying, Data, LostSectors, Mismatch, TableSaying, TableSays, AsRead, ByCode, whole_mask}
use Rattle.cartridge_spec.specs.TableSegment.{TableIs, table_cells}
use Rattle.command_laws.proofs.ScrubOneWrong.{found_once, search}
use Rattle.command_spec.specs.Check.{IsTold, TableOpens, undecided, verdict_by, verdict_acts, Tells, ChecksAs, Checks, check_status}
use Rattle.command_spec.specs.Check.{is_mendable, is_named}
use Rattle.command_spec.specs.Check.{is_bad, IsSound, header_copies, in_front}
use Rattle.command_spec.specs.Outcome.{CommandOutcome, HeldOutcome}
use Rattle.command_spec.specs.Scrub.{Looked, cells_at, looked_at}
use Rattle.command_spec.specs.declared.status.Status.{Status}
use Rattle.command_spec.specs.declared.verdict.Verdict.{Verdict}
use Rattle.command_spec.specs.declared.verdict.Verdict.TheVariants.{Sound, Contradicts, Unsettled, Wrong}
use Rattle.qic_base.proofs.Joins.{steps_of-append}
use Rattle.qic_base.specs.Acts.{Act, steps_of}
use Rattle.qic_base.specs.Cartridge.{Cartridge}
use Rattle.qic_base.specs.CartridgeTerms.{IsCartridge}
use Rattle.cartridge_spec.specs.Mounting as mounting
use Rattle.command_spec.specs.declared.status.Status.TheVariants as status

-- ---- one thing

opens_once : (c : Cartridge) (p q : Bool) → TableOpens c p → TableOpens c q → p ≡ q
opens_once c true true a b = refl
opens_once c true false a b = absurd (b a.0 a.1)
opens_once c false true a b = absurd (a b.0 b.1)
opens_once c false false a b = refl

-- what a mount reads of the table matters in its segment alone
decided_elsewhere : (segment : ℕ) (p q : Bool) → (segment == 2) ≡ false → undecided segment p ≡ undecided segment q
decided_elsewhere segment p q apart =
    ap (λ (here : Bool). if here && p then Unsettled else Contradicts) apart
    ∙ sym (ap (λ (here : Bool). if here && q then Unsettled else Contradicts) apart)

verdict_elsewhere : (c : Cartridge) (l : Looked) (p q : Bool) (s : Saying) (w : Option ℕ) → (l.segment == 2) ≡ false →
    verdict_by c l p s w ≡ verdict_by c l q s w
verdict_elsewhere c l p q (Data sectors) None apart = refl
verdict_elsewhere c l p q (LostSectors n) None apart = refl
verdict_elsewhere c l p q Mismatch None apart = decided_elsewhere l.segment p q apart
verdict_elsewhere c l p q s (Some sector) apart =
    ap (λ (v : Verdict). if is_named c l sector then Wrong sector else v) (decided_elsewhere l.segment p q apart)

verdict_once : (c : Cartridge) (l : Looked) (p q : Bool) (s : Saying) (w : Option ℕ) → (l.segment ≡ 2 → TableOpens c p) →
    (l.segment ≡ 2 → TableOpens c q) → verdict_by c l p s w ≡ verdict_by c l q s w
verdict_once c l p q s w first second =
    elim (cases_eq l.segment 2) [
      | inl is ↦ ap (λ (opens : Bool). verdict_by c l opens s w) (opens_once c p q (first is) (second is))
      | inr apart ↦ verdict_elsewhere c l p q s w (ne_eqb l.segment 2 apart)
    ]

pub told_once : (c : Cartridge) (l : Looked) (v w : Verdict) → IsTold c l v → IsTold c l w → v ≡ w
told_once c l v w one two =
    let same = found_once (Unit {0}) c l one.finding.saying two.finding.saying one.finding.wrong two.finding.wrong one.found two.found in
    one.is ∙ verdict_once c l one.opens two.opens one.finding.saying one.finding.wrong one.table two.table
    ∙ ap (λ (s : Saying). verdict_by c l two.opens s one.finding.wrong) same.0
    ∙ ap (λ (x : Option ℕ). verdict_by c l two.opens two.finding.saying x) same.1 ∙ sym two.is

pub all_told_once : (c : Cartridge) (ls : List Looked) (vs ws : List Verdict) → AllZip (IsTold c) ls vs → AllZip (IsTold c) ls ws → vs ≡ ws
all_told_once c [] [] [] a b = refl
all_told_once c [] [] (w ∷ ws) a b = absurd b
all_told_once c [] (v ∷ vs) ws a b = absurd a
all_told_once c (l ∷ ls) [] ws a b = absurd a
all_told_once c (l ∷ ls) (v ∷ vs) [] a b = absurd b
all_told_once c (l ∷ ls) (v ∷ vs) (w ∷ ws) a b =
    ap (λ (x : Verdict). x ∷ vs) (told_once c l v w a.0 b.0) ∙ ap (λ (xs : List Verdict). w ∷ xs) (all_told_once c ls vs ws a.1 b.1)

-- ---- something

opens_by : (c : Cartridge) (saying : TableSaying) → TableSays (table_cells c) saying → (p : Bool) × TableOpens c p
opens_by c (AsRead area) says = (true, (area, inl says))
opens_by c (ByCode (Data area)) says = (true, (area, inr says))
opens_by c (ByCode (LostSectors n)) says = (false, λ area is. not_lost c area n is says)
opens_by c (ByCode Mismatch) says = (false, λ area is. refuted area is)
  where
    refuted : (area : List (List ℕ)) → TableIs c area → ⊥
    refuted area (inl read) = let same = table_says_is_function (table_cells c) (AsRead area) (ByCode Mismatch) read says in cc
    refuted area (inr coded) = let same = table_says_is_function (table_cells c) (ByCode (Data area)) (ByCode Mismatch) coded says in cc

pub opens_always : (c : Cartridge) → IsCartridge c → (p : Bool) × TableOpens c p
opens_always c whole =
    let long = length-whole_cells c 2 in
    let says = table_says_always (table_cells c) (omega arith) (cells_are_views c 2 whole_mask whole) in
    opens_by c says.0 says.1

pub told_always : (c : Cartridge) (l : Looked) → IsCartridge c → (v : Verdict) × IsTold c l v
told_always c l whole =
    let says = says_always (cells_at c l) (cells_are_views c l.segment l.mask whole) in
    let opens = opens_always c whole in
    elim (search c l says.0 whole says.1) [
      | inl found ↦ (
        verdict_by c l opens.0 (Data found.sectors) (Some found.sector),
        record {
          finding = record { saying = Data found.sectors; wrong = Some found.sector };
          found = (tt, found.sectors, refl, found.wrong);
          opens = opens.0;
          table = λ is. opens.1;
          is = refl;
        },
      )
      | inr none ↦ (
        verdict_by c l opens.0 says.0 None,
        record {
          finding = record { saying = says.0; wrong = None };
          found = (says.1, λ searched. none);
          opens = opens.0;
          table = λ is. opens.1;
          is = refl;
        },
      )
    ]

pub all_told : (c : Cartridge) (ls : List Looked) → IsCartridge c → (vs : List Verdict) × AllZip (IsTold c) ls vs
all_told c [] whole = ([], tt)
all_told c (l ∷ ls) whole =
    let first = told_always c l whole in
    let rest = all_told c ls whole in
    (first.0 ∷ rest.0, (first.1, rest.1))

-- ---- the outcome

tells : (c : Cartridge) (ls : List Looked) (last : List Verdict → List Act) (why : List Verdict → Status) → IsCartridge c →
    (outcome : CommandOutcome) × Tells c ls last why outcome
tells c ls last why whole = let all = all_told c ls whole in (_, record { verdicts = all.0; told = all.1; is = refl })

checks_as : (c : Cartridge) (m : Mounting) → IsCartridge c → Mounts c m → (outcome : CommandOutcome) × ChecksAs c m outcome
checks_as c mounting.NotFormatted whole mounts = tells c header_copies _ _ whole
checks_as c (mounting.Foreign fault) whole (inl refuses) = let all = tells c header_copies _ _ whole in (all.0, inl (refuses, all.1))
checks_as c (mounting.Foreign fault) whole (inr refuses) = let all = tells c in_front _ _ whole in (all.0, inr (refuses, all.1))
checks_as c (mounting.TableLost lost) whole mounts = tells c in_front _ _ whole
checks_as c mounting.TableMismatch whole mounts = tells c in_front _ _ whole
checks_as c (Mounted header words table entries) whole mounts = tells c (looked_at words entries) _ _ whole

pub checks_always : (held : Option Cartridge) → IfSome held IsCartridge → (outcome : CommandOutcome) × HeldOutcome Checks held outcome
checks_always None whole = (_, refl)
checks_always (Some c) whole = by_bursts c.info.referenced refl
  where
    by_bursts : (bursts : Bool) → c.info.referenced ≡ bursts → (outcome : CommandOutcome) × Checks c outcome
    by_bursts false is = (_, inl (is, refl))
    by_bursts true is =
        let some = mounts_always c whole in
        let does = checks_as c some.0 whole some.1 in
        (does.0, inr (is, (some.0, some.1, does.1)))

tells_once : (c : Cartridge) (ls : List Looked) (last : List Verdict → List Act) (why : List Verdict → Status) (a b : CommandOutcome) →
    Tells c ls last why a → Tells c ls last why b → a ≡ b
tells_once c ls last why a b one two =
    one.is ∙ ap (λ (vs : List Verdict). record { acts = verdict_acts ls vs ++ last vs; taken = 0; status = why vs })
    (all_told_once c ls one.verdicts two.verdicts one.told two.told) ∙ sym two.is

-- a header is not both refused and sound
not_both : (c : Cartridge) (f g : HeaderFault) → RefusesHeader c f → RefusesTable c g → ⊥
not_both c f g header table =
    let sound = table.formatted in
    let same : header.area ≡ sound.area =
    elim header.has_header.in_force [
      | inl first ↦ elim sound.formatted.has_header.in_force [
        | inl other ↦ let both = says_is_function (copy_cells c 0) (Data header.area) (Data sound.area) first.says other.says in cc
        | inr other ↦ absurd (other.0 header.area first)
      ]
      | inr second ↦ elim sound.formatted.has_header.in_force [
        | inl other ↦ absurd (second.0 sound.area other)
        | inr other ↦ let both = says_is_function (copy_cells c 1) (Data header.area) (Data sound.area) second.1.says other.1.says in cc
      ]
    ] in
    let none = ap (λ (area : List (List ℕ)). header_fault area c.info.segments_per_track) same ∙ sound.formatted.sound in
    let some = header.first in
    cc

checks_as_once : (c : Cartridge) (m : Mounting) (a b : CommandOutcome) → ChecksAs c m a → ChecksAs c m b → a ≡ b
checks_as_once c mounting.NotFormatted a b one two = tells_once c header_copies _ _ a b one two
checks_as_once c (mounting.Foreign fault) a b (inl one) (inl two) = tells_once c header_copies _ _ a b one.1 two.1
checks_as_once c (mounting.Foreign fault) a b (inl one) (inr two) = absurd (not_both c fault fault one.0 two.0)
checks_as_once c (mounting.Foreign fault) a b (inr one) (inl two) = absurd (not_both c fault fault two.0 one.0)
checks_as_once c (mounting.Foreign fault) a b (inr one) (inr two) = tells_once c in_front _ _ a b one.1 two.1
checks_as_once c (mounting.TableLost lost) a b one two = tells_once c in_front _ _ a b one two
checks_as_once c mounting.TableMismatch a b one two = tells_once c in_front _ _ a b one two
checks_as_once c (Mounted header words table entries) a b one two = tells_once c (looked_at words entries) _ _ a b one two

pub checks_once : (held : Option Cartridge) (a b : CommandOutcome) → HeldOutcome Checks held a → HeldOutcome Checks held b → a ≡ b
checks_once None a b one two = one ∙ sym two
checks_once (Some c) a b (inl one) (inl two) = one.1 ∙ sym two.1
checks_once (Some c) a b (inl one) (inr two) = absurd (false≢true (sym one.0 ∙ two.0))
checks_once (Some c) a b (inr one) (inl two) = absurd (false≢true (sym two.0 ∙ one.0))
checks_once (Some c) a b (inr (is, (m, mounts, does))) (inr (was, (n, other, did))) =
    checks_as_once c m a b does (subst (λ (k : Mounting). ChecksAs c k b) (mounts_is_function c n m other mounts) did)

-- ---- no step

verdicts_take_none : (ls : List Looked) (vs : List Verdict) → steps_of (verdict_acts ls vs) ≡ []
verdicts_take_none [] vs = refl
verdicts_take_none (l ∷ ls) [] = refl
verdicts_take_none (l ∷ ls) (v ∷ vs) = verdicts_take_none ls vs

tells_none : (c : Cartridge) (ls : List Looked) (last : List Verdict → List Act) (why : List Verdict → Status) (outcome : CommandOutcome) →
    ((vs : List Verdict) → steps_of (last vs) ≡ []) → Tells c ls last why outcome → steps_of outcome.acts ≡ []
tells_none c ls last why outcome none told =
    ap (λ (o : CommandOutcome). steps_of o.acts) told.is ∙ steps_of-append (verdict_acts ls told.verdicts) (last told.verdicts)
    ∙ ap (λ steps. steps ++ steps_of (last told.verdicts)) (verdicts_take_none ls told.verdicts) ∙ none told.verdicts

checks_as_none : (c : Cartridge) (m : Mounting) (outcome : CommandOutcome) → ChecksAs c m outcome → steps_of outcome.acts ≡ []
checks_as_none c mounting.NotFormatted outcome told = tells_none c header_copies _ _ outcome (λ vs. refl) told
checks_as_none c (mounting.Foreign fault) outcome (inl told) = tells_none c header_copies _ _ outcome (λ vs. refl) told.1
checks_as_none c (mounting.Foreign fault) outcome (inr told) = tells_none c in_front _ _ outcome (λ vs. refl) told.1
checks_as_none c (mounting.TableLost lost) outcome told = tells_none c in_front _ _ outcome (λ vs. refl) told
checks_as_none c mounting.TableMismatch outcome told = tells_none c in_front _ _ outcome (λ vs. refl) told
checks_as_none c (Mounted header words table entries) outcome told = tells_none c (looked_at words entries) _ _ outcome (λ vs. refl) told

pub check_takes_no_step : (held : Option Cartridge) (outcome : CommandOutcome) → HeldOutcome Checks held outcome → steps_of outcome.acts ≡
    []
check_takes_no_step None outcome is = ap (λ (o : CommandOutcome). steps_of o.acts) is
check_takes_no_step (Some c) outcome (inl is) = ap (λ (o : CommandOutcome). steps_of o.acts) is.1
check_takes_no_step (Some c) outcome (inr (is, (m, mounts, does))) = checks_as_none c m outcome does

-- ---- a sound one

-- nothing is counted
pub none_counted : (c : Cartridge) (ls : List Looked) (vs : List Verdict) → AllZip (IsTold c) ls vs → All (λ l. IsTold c l Sound) ls →
    (count_by is_mendable vs ≡ 0) × (count_by is_bad vs ≡ 0)
none_counted c [] [] told sound = (refl, refl)
none_counted c [] (v ∷ vs) told sound = absurd told
none_counted c (l ∷ ls) [] told sound = absurd told
none_counted c (l ∷ ls) (v ∷ vs) told sound =
    let first : v ≡ Sound = told_once c l v Sound told.0 (All-head (λ (m : Looked). IsTold c m Sound) l ls sound) in
    let rest = none_counted c ls vs told.1 (All-tail (λ (m : Looked). IsTold c m Sound) l ls sound) in
    (ap (λ (x : Verdict). count_by is_mendable (x ∷ vs)) first ∙ rest.0, ap (λ (x : Verdict). count_by is_bad (x ∷ vs)) first ∙ rest.1)

sound_is_done : (vs : List Verdict) → count_by is_mendable vs ≡ 0 → count_by is_bad vs ≡ 0 → check_status vs ≡ status.Done
sound_is_done vs mendable bad =
    ap (λ (n : ℕ). if n == 0 && count_by is_bad vs == 0 then status.Done else status.Unsound n (count_by is_bad vs)) mendable
    ∙ ap (λ (n : ℕ). if n == 0 then status.Done else status.Unsound 0 n) bad

pub sound_checks : (c : Cartridge) (outcome : CommandOutcome) → IsSound c → Checks c outcome → outcome.status ≡ status.Done
sound_checks c outcome sound (inl is) = let bursts = sound.mounts.formatted.has_header.referenced in absurd (false≢true (sym is.0 ∙ bursts))
sound_checks c outcome sound (inr (is, (m, mounts, does))) =
    let all = subst (λ (k : Mounting). ChecksAs c k outcome)
    (mounts_is_function c m (Mounted sound.header sound.words sound.table sound.entries) mounts sound.mounts) does in
    let none = none_counted c (looked_at sound.words sound.entries) all.verdicts all.told sound.each in
    ap (λ (o : CommandOutcome). o.status) all.is ∙ sound_is_done all.verdicts none.0 none.1
