-- What an append leaves, stopped or done, with sectors lost besides and the table settled behind it, is of two tables.
use Rattle.std.proofs.Common.{◌≡◌, ◌⊎◌, inl, inr, ℕ, ◌<◌, ◌≤◌, List, Option, Some, arith, ap, sym, ◌∙◌, refl, subst, length}
use Rattle.std.specs.Prelude.{IsSomeAnd}
use Rattle.std.proofs.lemmas.Bool.{cases_eq, cases_lt}
use Rattle.cartridge_laws.proofs.AppendBetween.{before_reads_old, turned_reads_new}
use Rattle.cartridge_laws.proofs.AppendDone.{stopped_list}
use Rattle.cartridge_laws.proofs.AppendReady.{settled_is_ready}
use Rattle.cartridge_laws.proofs.AppendVolume.{stopped_volume}
use Rattle.cartridge_laws.proofs.FormatViews.{view_of_other_sector, view_of_sector}
use Rattle.cartridge_laws.proofs.FormatWriting.{effects-some, some_weaker}
use Rattle.cartridge_laws.proofs.MountOnce.{one_table}
use Rattle.cartridge_laws.proofs.MountSettling.{IsKeptBy, stopped_keeps}
use Rattle.cartridge_laws.proofs.MountWhole.{settling_effects}
use Rattle.cartridge_laws.proofs.OneLossAppend.{append_changes_one_sector}
use Rattle.cartridge_laws.proofs.OneLossParity.{parity_differs}
use Rattle.cartridge_laws.proofs.OneLossRead.{before_reads_old_still, lost_data_reads_new, lost_parity_reads_new, one_loss_reads_either}
use Rattle.cartridge_laws.specs.AppendBetween.{Between, IsBegun, IsTurned, IsWhole}
use Rattle.cartridge_laws.specs.AppendLaws.{IsReadyFor, append_steps_of, list_steps, new_table, volume_steps}
use Rattle.cartridge_laws.specs.MountBlocks.{HoldsPart}
use Rattle.cartridge_laws.specs.OneLossTables.{DifferInOne, IsLastInUse}
use Rattle.cartridge_laws.specs.Segment.{IsUnreadable}
use Rattle.cartridge_laws.specs.Slots.{slot_sector}
use Rattle.cartridge_spec.specs.Appending.{Content}
use Rattle.cartridge_spec.specs.Mounting.{settled}
use Rattle.cartridge_spec.specs.Says.{with_parity}
use Rattle.cartridge_spec.specs.Settling.{changed_by, settling_steps}
use Rattle.cartridge_spec.specs.Shape.{is_unreadable, sector_at}
use Rattle.cartridge_spec.specs.TableSegment.{TableIs}
use Rattle.cartridge_spec.specs.Volumes.{Plain}
use Rattle.qic_base.proofs.Steps.{Torn-append}
use Rattle.qic_base.specs.Cartridge.{Cartridge, view_at, with_view}
use Rattle.qic_base.specs.Step.{Step, Torn, worn_view, written_view}
use Rattle.qic_base.specs.declared.tape.SectorView.{SectorView}
use Rattle.qic_base.specs.declared.tape.SectorView.TheVariants.{Blank, Defect, Holds, Lost}
use Rattle.check_laws.proofs.Named.{HasFewNew, IsBetween, IsNotOld, IsOfTwo, between_names_none}
use Rattle.check_laws.specs.NamingLaws.{LosesAtMostOne, LosesSome, NamesNone}
use Rattle.check_laws.specs.NamingLaws.{NextAppendNamesNone, StoppedAppendNamesNone, StoppedSettlingNamesNone}

-- ---- sectors lost

-- a sector that holds its part of an area held it before
held_before : (c d : Cartridge) (area : List (List ℕ)) (i : ℕ) → LosesSome c d → i < 32 → HoldsPart d area i → HoldsPart c area i
held_before c d area i loses h part =
    elim (loses i h) [
      | inl same ↦ sym same ∙ part
      | inr lost ↦ let both : Lost ≡ Holds (sector_at (with_parity area) i) = sym lost ∙ part in absurd (cc)
    ]

lost_gone : (view : SectorView) → view ≡ Lost → IsUnreadable view
lost_gone view is = ap is_unreadable is

few_still : (c d : Cartridge) (new : List (List ℕ)) → LosesSome c d → HasFewNew c new → HasFewNew d new
few_still c d new loses few i j from before h first second =
    few i j from before h (held_before c d new i loses (omega arith) first) (held_before c d new j loses h second)

not_old_still : (c d : Cartridge) (new : List (List ℕ)) (k : ℕ) → k < 32 → LosesSome c d → IsNotOld c new k → IsNotOld d new k
not_old_still c d new k small loses turned =
    elim (loses k small) [
      | inl same ↦ elim turned [ inl gone ↦ inl (ap is_unreadable same ∙ gone) | inr part ↦ inr (same ∙ part) ]
      | inr lost ↦ inl (lost_gone (view_at d 2 k) lost)
    ]

two_still : (c d : Cartridge) (old new : List (List ℕ)) → LosesSome c d → IsOfTwo c old new → IsOfTwo d old new
two_still c d old new loses each i h =
    elim (loses i h) [
      | inr lost ↦ inl (lost_gone (view_at d 2 i) lost)
      | inl same ↦ elim (each i h) [
        | inl gone ↦ inl (ap is_unreadable same ∙ gone)
        | inr (inl part) ↦ inr (inl (same ∙ part))
        | inr (inr part) ↦ inr (inr (same ∙ part))
      ]
    ]

still_between : (c d : Cartridge) (old new : List (List ℕ)) (k : ℕ) → LosesSome c d → IsBetween c old new k → IsBetween d old new k
still_between c d old new k loses left = record {
  differ = left.differ;
  last = left.last;
  each = two_still c d old new loses left.each;
  turned =
      let place : k < 29 = left.differ.data_sector in
      elim left.turned [
        | inl turned ↦ inl (not_old_still c d new k (omega arith) loses turned)
        | inr few ↦ inr (few_still c d new loses few)
      ];
}

names_none : (c : Cartridge) (old new : List (List ℕ)) (k : ℕ) → IsBetween c old new k → NamesNone c
names_none c old new k left d sector loses = between_names_none d old new k (still_between c d old new k loses left) sector

-- at most one is lost
at_most_one : (c d : Cartridge) → LosesAtMostOne c d → LosesSome c d
at_most_one c d (inl same) i h = inl (ap (λ (e : Cartridge). view_at e 2 i) same)
at_most_one c d (inr (lost, loses)) i h =
    elim (cases_eq i lost) [
      | inl there ↦ inr (ap (view_at d 2) there ∙ loses.here)
      | inr apart ↦ inl (loses.others i h apart)
    ]

-- ---- a state between two tables

module _ (old new : List (List ℕ)) (k : ℕ) (differ : DifferInOne old new k) (last : IsLastInUse new k) where
  -- a sector of parity holds its part of one of them alone
  not_both : (c : Cartridge) (i : ℕ) → 29 ≤ i → i < 32 → HoldsPart c old i → HoldsPart c new i → ⊥
  not_both c i from h first second =
      let both : Holds (sector_at (with_parity old) i) ≡ Holds (sector_at (with_parity new) i) = sym first ∙ second in
      parity_differs old new k i differ from h (cc)

  old_has_few : (c : Cartridge) → ((i : ℕ) → 30 ≤ i → i < 32 → HoldsPart c old i ⊎ (view_at c 2 i ≡ Lost)) → HasFewNew c new
  old_has_few c each i j from before h first second =
      elim (each j (omega arith) h) [
        | inl part ↦ not_both c j (omega arith) h part second
        | inr lost ↦ let both : Lost ≡ Holds (sector_at (with_parity new) j) = sym lost ∙ second in absurd (cc)
      ]

  before_few : (c : Cartridge) → IsWhole c old ⊎ IsBegun c old k → HasFewNew c new
  before_few c (inl whole) = old_has_few c (λ i from h. inl (whole i h))
  before_few c (inr begun) =
      let place : k < 29 = differ.data_sector in old_has_few c (λ i from h. inl (begun.others i h (λ same. omega arith)))

  before_two : (c : Cartridge) → IsWhole c old ⊎ IsBegun c old k → IsOfTwo c old new
  before_two c (inl whole) i h = inr (inl (whole i h))
  before_two c (inr begun) i h =
      elim (cases_eq i k) [
        | inl same ↦ inl (lost_gone (view_at c 2 i) (ap (view_at c 2) same ∙ begun.lost))
        | inr apart ↦ inr (inl (begun.others i h apart))
      ]

  turned_two : (c : Cartridge) → IsTurned c old new → IsOfTwo c old new
  turned_two c turned i h =
      elim (cases_lt i turned.turn) [
        | inl before ↦ inr (inr (turned.before i before))
        | inr from ↦ elim (cases_eq turned.turn i) [
          | inl here ↦ elim (turned.here (omega arith)) [
            | inl part ↦ inr (inl (subst (HoldsPart c old) here part))
            | inr lost ↦ inl (lost_gone (view_at c 2 i) (subst (λ (j : ℕ). view_at c 2 j ≡ Lost) here lost))
          ]
          | inr apart ↦ inr (inl (turned.behind i (omega arith) h))
        ]
      ]

  turned_not_old : (c : Cartridge) → IsTurned c old new → IsNotOld c new k
  turned_not_old c turned = let place : k < 29 = differ.data_sector in let from = turned.from in inr (turned.before k (omega arith))

  -- until the second sector of parity is new
  turned_few : (c : Cartridge) → (turned : IsTurned c old new) → turned.turn ≤ 30 → HasFewNew c new
  turned_few c turned early =
      old_has_few c (λ i from h.
      elim (cases_eq turned.turn i) [
        | inl here ↦
            subst (λ (j : ℕ). HoldsPart c old j ⊎ (view_at c 2 j ≡ Lost)) here (turned.here (omega arith))
        | inr apart ↦ inl (turned.behind i (omega arith) h)
      ])

  before_between : (c : Cartridge) → IsWhole c old ⊎ IsBegun c old k → IsBetween c old new k
  before_between c before = record { differ = differ; last = last; each = before_two c before; turned = inr (before_few c before) }

  turned_between : (c : Cartridge) → IsTurned c old new → IsBetween c old new k
  turned_between c turned = record { differ = differ; last = last; each = turned_two c turned; turned = inl (turned_not_old c turned) }

  between_two : (c : Cartridge) → Between c old new k → IsBetween c old new k
  between_two c (inl whole) = before_between c (inl whole)
  between_two c (inr (inl begun)) = before_between c (inr begun)
  between_two c (inr (inr turned)) = turned_between c turned

  -- ---- what is read, and what can be settled to it

  -- the table is read as the new one, and the changed sector isn't old; or as the old one, and at most one sector of parity is new
  IsReadBetween : (e : Cartridge) (area : List (List ℕ)) → Type 0
  IsReadBetween e area = IsOfTwo e old new × (((area ≡ new) × IsNotOld e new k) ⊎ ((area ≡ old) × HasFewNew e new))

  before_reads : (d e : Cartridge) (area : List (List ℕ)) → IsWhole d old ⊎ IsBegun d old k → LosesAtMostOne d e → TableIs e area →
      IsReadBetween e area
  unfolding IsReadBetween
  before_reads d e area before loses reads =
      let some : LosesSome d e = at_most_one d e loses in (
        two_still d e old new some (before_two d before),
        inr (one_table e area old reads (old_read d e before loses), few_still d e new some (before_few d before)),
      )
    where
      old_read : (d e : Cartridge) → IsWhole d old ⊎ IsBegun d old k → LosesAtMostOne d e → TableIs e old
      old_read d e before (inl same) =
          subst (λ (f : Cartridge). TableIs f old) (sym same) (before_reads_old d old k differ.old_area differ.data_sector before)
      old_read d e before (inr (lost, loses)) =
          before_reads_old_still d e old k lost differ.old_area differ.data_sector before loses

  -- from then on the new one is read
  late_read : (d e : Cartridge) → (turned : IsTurned d old new) → 31 ≤ turned.turn → LosesAtMostOne d e → TableIs e new
  late_read d e turned late (inl same) =
      subst (λ (f : Cartridge). TableIs f new) (sym same) (turned_reads_new d old new differ.new_area turned)
  late_read d e turned late (inr (lost, loses)) =
      elim (cases_lt lost 29) [
        | inl front ↦
            lost_data_reads_new d e old new k lost differ last turned front loses (omega arith) (λ second. absurd (omega arith))
        | inr behind ↦ lost_parity_reads_new d e old new lost differ.new_area turned behind loses
      ]

  either_read : (d e : Cartridge) → IsTurned d old new → LosesAtMostOne d e → TableIs e old ⊎ TableIs e new
  either_read d e turned (inl same) =
      inr (subst (λ (f : Cartridge). TableIs f new) (sym same) (turned_reads_new d old new differ.new_area turned))
  either_read d e turned (inr (lost, loses)) = one_loss_reads_either d e old new k lost differ last (inr (inr turned)) loses

  turned_reads : (d e : Cartridge) (area : List (List ℕ)) → IsTurned d old new → LosesAtMostOne d e → TableIs e area → IsReadBetween e area
  unfolding IsReadBetween
  turned_reads d e area turned loses reads =
      let some : LosesSome d e = at_most_one d e loses in
      let place : k < 29 = differ.data_sector in
      let not_old : IsNotOld e new k = not_old_still d e new k (omega arith) some (turned_not_old d turned) in (
        two_still d e old new some (turned_two d turned),
        elim (cases_lt 30 turned.turn) [
          | inl late ↦ inl (one_table e area new reads (late_read d e turned (omega arith) loses), not_old)
          | inr early ↦ elim (either_read d e turned loses) [
            | inl before ↦
                inr (one_table e area old reads before, few_still d e new some (turned_few d turned (omega arith)))
            | inr behind ↦ inl (one_table e area new reads behind, not_old)
          ]
        ],
      )

  between_reads : (d e : Cartridge) (area : List (List ℕ)) → Between d old new k → LosesAtMostOne d e → TableIs e area →
      IsReadBetween e area
  between_reads d e area (inl whole) loses reads = before_reads d e area (inl whole) loses reads
  between_reads d e area (inr (inl begun)) loses reads = before_reads d e area (inr begun) loses reads
  between_reads d e area (inr (inr turned)) loses reads = turned_reads d e area turned loses reads

  -- each sector is as it was, unreadable, or written with its part of what was read
  IsSettling : (e : Cartridge) (area : List (List ℕ)) (f : Cartridge) → Type 0
  IsSettling e area f = (i : ℕ) → i < 32 → (view_at f 2 i ≡ view_at e 2 i) ⊎ IsUnreadable (view_at f 2 i) ⊎ HoldsPart f area i

  changed_one : (e : Cartridge) (area : List (List ℕ)) (i : ℕ) (f : Cartridge) (change : SectorView → SectorView) → i < 32 →
      change Blank ≡ Blank → ((view : SectorView) → IsUnreadable (change view) ⊎ (change view ≡ Holds (sector_at (with_parity area) i))) →
      IsSettling e area f → IsSettling e area (with_view f 2 i (change (view_at f 2 i)))
  unfolding IsSettling
  changed_one e area i f change small blank becomes way j h =
      let g : Cartridge = with_view f 2 i (change (view_at f 2 i)) in
      elim (cases_eq j i) [
        | inl same ↦
            let here : view_at g 2 j ≡ change (view_at f 2 i) = ap (view_at g 2) same ∙ view_of_sector f 2 i change blank in
            elim (becomes (view_at f 2 i)) [
              | inl gone ↦ inr (inl (ap is_unreadable here ∙ gone))
              | inr part ↦ inr (inr (here ∙ part ∙ ap (λ (n : ℕ). Holds (sector_at (with_parity area) n)) (sym same)))
            ]
        | inr apart ↦
            let other : view_at g 2 j ≡ view_at f 2 j =
            view_of_other_sector f 2 i 2 j (change (view_at f 2 i)) small h (λ e same. apart (sym same)) in
            elim (way j h) [
              | inl kept ↦ inl (other ∙ kept)
              | inr (inl gone) ↦ inr (inl (ap is_unreadable other ∙ gone))
              | inr (inr part) ↦ inr (inr (other ∙ part))
            ]
      ]

  settling_kept : (e : Cartridge) (area : List (List ℕ)) → IsKeptBy (IsSettling e area) (with_parity area)
  settling_kept e area = record {
    written = λ i f small way.
        changed_one e area i f (written_view (sector_at (with_parity area) i)) small refl
        (written_becomes (sector_at (with_parity area) i)) way;
    worn = λ i f small way. changed_one e area i f worn_view small refl (λ view. inl (worn_becomes view)) way;
  }
    where
      written_becomes : (bytes : List ℕ) (view : SectorView) →
          IsUnreadable (written_view bytes view) ⊎ (written_view bytes view ≡ Holds bytes)
      written_becomes bytes Blank = inl refl
      written_becomes bytes Defect = inl refl
      written_becomes bytes Lost = inr refl
      written_becomes bytes (Holds held) = inr refl

      worn_becomes : (view : SectorView) → IsUnreadable (worn_view view)
      worn_becomes Blank = refl
      worn_becomes Defect = refl
      worn_becomes Lost = refl
      worn_becomes (Holds held) = refl

  settling_two : (e f : Cartridge) (area : List (List ℕ)) → IsOfTwo e old new → (area ≡ old) ⊎ (area ≡ new) → IsSettling e area f →
      IsOfTwo f old new
  unfolding IsSettling
  settling_two e f area each one way i h =
      elim (way i h) [
        | inl same ↦ elim (each i h) [
          | inl gone ↦ inl (ap is_unreadable same ∙ gone)
          | inr (inl part) ↦ inr (inl (same ∙ part))
          | inr (inr part) ↦ inr (inr (same ∙ part))
        ]
        | inr (inl gone) ↦ inl gone
        | inr (inr part) ↦ elim one [
          | inl before ↦ inr (inl (subst (λ (a : List (List ℕ)). HoldsPart f a i) before part))
          | inr behind ↦ inr (inr (subst (λ (a : List (List ℕ)). HoldsPart f a i) behind part))
        ]
      ]

  settling_not_old : (e f : Cartridge) (area : List (List ℕ)) → area ≡ new → IsNotOld e new k → IsSettling e area f → IsNotOld f new k
  unfolding IsSettling
  settling_not_old e f area is turned way =
      let place : k < 29 = differ.data_sector in
      elim (way k (omega arith)) [
        | inl same ↦ elim turned [ inl gone ↦ inl (ap is_unreadable same ∙ gone) | inr part ↦ inr (same ∙ part) ]
        | inr (inl gone) ↦ inl gone
        | inr (inr part) ↦ inr (subst (λ (a : List (List ℕ)). HoldsPart f a k) is part)
      ]

  gone_not_held : (f : Cartridge) (i : ℕ) (bytes : List ℕ) → IsUnreadable (view_at f 2 i) → view_at f 2 i ≡ Holds bytes → ⊥
  gone_not_held f i bytes gone held = let both = sym gone ∙ ap is_unreadable held in cc

  -- what is new of parity was so before
  new_before : (e f : Cartridge) (area : List (List ℕ)) (i : ℕ) → area ≡ old → IsSettling e area f → 29 ≤ i → i < 32 → HoldsPart f new i →
      HoldsPart e new i
  unfolding IsSettling
  new_before e f area i is way from h held =
      elim (way i h) [
        | inl same ↦ sym same ∙ held
        | inr (inl gone) ↦ absurd (gone_not_held f i (sector_at (with_parity new) i) gone held)
        | inr (inr part) ↦ absurd (not_both f i from h (subst (λ (a : List (List ℕ)). HoldsPart f a i) is part) held)
      ]

  settling_between : (e f : Cartridge) (area : List (List ℕ)) → IsReadBetween e area → IsSettling e area f → IsBetween f old new k
  unfolding IsReadBetween
  settling_between e f area (each, inl (is, turned)) way = record {
    differ = differ;
    last = last;
    each = settling_two e f area each (inr is) way;
    turned = inl (settling_not_old e f area is turned way);
  }
  settling_between e f area (each, inr (is, few)) way = record {
    differ = differ;
    last = last;
    each = settling_two e f area each (inl is) way;
    turned = inr (λ i j from before h first second.
        few i j from before h (new_before e f area i is way from (omega arith) first)
        (new_before e f area j is way (omega arith) h second));
  }

  settling_names_none : (d e : Cartridge) (area : List (List ℕ)) (behind : Option Cartridge) → Between d old new k → LosesAtMostOne d e →
      TableIs e area → Torn (settling_steps area e) (Some e) behind → IsSomeAnd behind NamesNone
  unfolding IsSettling
  settling_names_none d e area behind between loses reads torn =
      let read : IsReadBetween e area = between_reads d e area between loses reads in
      some_weaker behind (λ f way. names_none f old new k (settling_between e f area read way))
      (stopped_keeps (IsSettling e area) e area behind (settling_kept e area) (λ i h. inl refl) torn)

-- ---- an append

stopped_between : (c : Cartridge) (plain : Plain) (content : Content) (left : Option Cartridge) → IsReadyFor c plain content →
    Torn (append_steps_of plain content) (Some c) left →
    IsSomeAnd left (λ d. Between d plain.table_area (new_table plain content) (slot_sector (length plain.volumes)))
stopped_between c plain content left ready torn =
    let first : List Step = volume_steps plain content in
    let next : List Step = list_steps plain content in
    elim (Torn-append first next (Some c) left torn) [
      | inl front ↦ some_weaker left (λ d stood. inl stood.1) (stopped_volume c plain content left ready front)
      | inr behind ↦
          stopped_list c (changed_by first c) plain content left ready refl
          (subst (λ (held : Option Cartridge). Torn next held left) (effects-some first c) behind)
    ]

pub stopped_append_names_none : StoppedAppendNamesNone
stopped_append_names_none c plain content left ready torn =
    let changes = append_changes_one_sector c plain content ready.may in
    let old : List (List ℕ) = plain.table_area in
    let new : List (List ℕ) = new_table plain content in
    let k : ℕ = slot_sector (length plain.volumes) in
    some_weaker left (λ d between. names_none d old new k (between_two old new k changes.0 changes.1 d between))
    (stopped_between c plain content left ready torn)

pub stopped_settling_names_none : StoppedSettlingNamesNone
stopped_settling_names_none c plain content left ready torn =
    let changes = append_changes_one_sector c plain content ready.may in
    let old : List (List ℕ) = plain.table_area in
    let new : List (List ℕ) = new_table plain content in
    let k : ℕ = slot_sector (length plain.volumes) in
    some_weaker left (λ d between e area behind loses reads then.
    settling_names_none old new k changes.0 changes.1 d e area behind between loses reads then)
    (stopped_between c plain content left ready torn)

pub next_append_names_none : NextAppendNamesNone
next_append_names_none c plain content left ready torn =
    some_weaker left (λ d settling e more next behind loses may then.
    let first : List Step = settling_steps more.table_area e in
    let rest : List Step = append_steps_of more next in
    elim (Torn-append first rest (Some e) behind then) [
      | inl front ↦ settling e more.table_area behind loses may.table front
      | inr last ↦
          stopped_append_names_none (settled more.table_area e) more next behind (settled_is_ready e more next may)
          (subst (λ (held : Option Cartridge). Torn rest held behind) (settling_effects e more.table_area may.table) last)
    ])
    (stopped_settling_names_none c plain content left ready torn)
