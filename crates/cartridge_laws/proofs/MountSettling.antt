-- What a stop among the writes that settle a table leaves.
use Rattle.std.proofs.Common.{ℕ, List, ◌≡◌, inl, inr, ◌∙◌, ap, subst, arith, Bool, Option, Some, IsSomeAnd, ◌≢◌, ◌<◌, ◌≤◌, sym, false, []}
use Rattle.std.proofs.Common.{◌∷◌, ◌++◌, true, ◌⊎◌, refl}
use Rattle.std.proofs.lemmas.Bool.{cases_eq, cases_lt, true≢false, cases_Bool}
use Rattle.std.specs.Prelude.{if◌then◌else◌}
use Rattle.cartridge_laws.proofs.FormatWriting.{some_and, some_weaker}
use Rattle.cartridge_laws.proofs.MountFar.{IsApart, IsFar, is_far}
use Rattle.cartridge_laws.proofs.MountLeftOut.{none_left_out, unsettled_test, no_other_is_part, left_out_data, unsettled_holds_not}
use Rattle.cartridge_laws.proofs.MountLeftOut.{settled_parity, left_out_parity, not_left_out, plain_places}
use Rattle.cartridge_laws.proofs.MountNear.{PartOrGone, AllBut, first_gone, gone_not_read, few_gone, three_parts}
use Rattle.cartridge_laws.proofs.MountPlaces.{one_place, AreSmall, rest_small, both_small, where_small}
use Rattle.cartridge_laws.proofs.MountSoFar.{IsBase, nothing_yet, stopped_from, written_here, IsTest, worn_here, worn_gone}
use Rattle.cartridge_laws.proofs.MountStanding.{plain_is_table}
use Rattle.cartridge_laws.proofs.MountStops.{plain_stopped, written_mild, worn_mild, IsOnTheWay, way_more, way_begun, some_both}
use Rattle.cartridge_laws.proofs.MountWriting.{places_that, places_are, unsettled_data}
use Rattle.cartridge_laws.specs.MountBlocks.{HoldsPart}
use Rattle.cartridge_laws.specs.MountLaws.{StoppedSettling}
use Rattle.cartridge_laws.specs.Segment.{IsUnreadable, places_where}
use Rattle.cartridge_spec.specs.TableSegment.{TableIs, ReadsPlainly}
use Rattle.cartridge_spec.specs.Says.{with_parity}
use Rattle.cartridge_spec.specs.Settling.{block_writes, settling_places, settling_steps}
use Rattle.cartridge_laws.specs.TableCells.{is_unsettled, is_left_out}
use Rattle.cartridge_spec.specs.Shape.{is_unreadable, sector_at}
use Rattle.qic_base.proofs.SectorsWritten.{torn_write}
use Rattle.qic_base.specs.Cartridge.{Cartridge, view_at}
use Rattle.qic_base.specs.Step.{Step, write_sector, changed, written_view, Wear, worn_view, Torn}
use Rattle.cartridge_laws.proofs.AppendTableWrites.{written_other, worn_other}

-- ---- where a sector of data is unreadable

-- the writes of a cartridge that is not protected
abbrev pub settling_writes : Cartridge → (area : List (List ℕ)) → List Step
settling_writes c area = block_writes (with_parity area) (settling_places c area)

base_stopped : (c : Cartridge) (area : List (List ℕ)) (m : ℕ) (left : Option Cartridge) → IsBase c area m →
    Torn (settling_writes c area) (Some c) left → IsSomeAnd left (λ d. TableIs d area)
base_stopped c area m left base torn =
    let test : ℕ → Bool = is_unsettled c (with_parity area) in
    let places : settling_places c area ≡ places_that test 0 32 =
    none_left_out c area (λ i h.
    elim (cases_eq i m) [
      | inl same ↦ inr (ap (λ (j : ℕ). is_unreadable (view_at c 2 j)) same ∙ base.gone)
      | inr apart ↦ inl (base.data_sectors i h apart)
    ])
    ∙ places_are test in
    stopped_from c area test m 32 0 c left base (unsettled_test c area) (omega arith) (nothing_yet c area)
    (subst (λ (ps : List ℕ). Torn (block_writes (with_parity area) ps) (Some c) left) places torn)

apart_part : (c : Cartridge) (area : List (List ℕ)) (m k i : ℕ) → IsApart c area m k → i < 29 → i ≢ m → i ≢ k → HoldsPart c area i
apart_part c area m k i apart h not_m not_k = apart.holds i (omega arith) (not_k, (not_m, ((λ e. omega arith), tt)))

apart_parity : (c : Cartridge) (area : List (List ℕ)) (m k i : ℕ) → IsApart c area m k → 30 ≤ i → i < 32 → HoldsPart c area i
apart_parity c area m k i apart from h =
    let small : m < 29 = apart.small in
    let place : k < 29 = apart.place in
    apart.holds i h ((λ e. omega arith), ((λ e. omega arith), ((λ e. omega arith), tt)))

-- the sector holds its part
apart_base : (c : Cartridge) (area : List (List ℕ)) (m k : ℕ) → IsApart c area m k → TableIs c area →
    is_left_out c (with_parity area) k ≡ false → IsBase c area m
apart_base c area m k apart reads kept = record {
  is_area = apart.is_area;
  small = apart.small;
  gone = apart.gone;
  data_sectors = λ i h not_m.
      elim (cases_eq i k) [
        | inl same ↦
            subst (HoldsPart c area) (sym same)
            (no_other_is_part (view_at c 2 k) (sector_at (with_parity area) k) (apart.read (λ e. not_m (same ∙ e)))
            (sym (left_out_data c (with_parity area) k apart.place) ∙ kept))
        | inr not_k ↦ apart_part c area m k i apart h not_m not_k
      ];
  reads = reads;
  parity = inl (apart_parity c area m k 30 apart (omega arith) (omega arith), apart_parity c area m k 31 apart (omega arith) (omega arith));
}

-- once it is written, it does
written_base : (c : Cartridge) (area : List (List ℕ)) (m k : ℕ) → IsApart c area m k → k ≢ m →
    IsBase (changed (write_sector 2 k (sector_at (with_parity area) k)) c) area m
written_base c area m k apart other =
    let bytes : List ℕ = sector_at (with_parity area) k in
    let d : Cartridge = changed (write_sector 2 k bytes) c in
    let small : m < 29 = apart.small in
    let place : k < 29 = apart.place in
    let read = apart.read other in
    let lost : IsUnreadable (view_at d 2 m) =
    ap is_unreadable (written_other c k m bytes (omega arith) (omega arith) (λ e. other (sym e))) ∙ apart.gone in
    let all : AllBut d area m =
    λ i h not_m.
    elim (cases_eq i k) [
      | inl same ↦ subst (HoldsPart d area) (sym same) (written_here c k bytes ∙ ap (written_view bytes) read.1)
      | inr not_k ↦ written_other c k i bytes (omega arith) (omega arith) not_k ∙ apart_part c area m k i apart h not_m not_k
    ] in
    let p30 : HoldsPart d area 30 =
    written_other c k 30 bytes (omega arith) (omega arith) (λ e. omega arith) ∙ apart_parity c area m k 30 apart (omega arith)
    (omega arith) in
    let p31 : HoldsPart d area 31 =
    written_other c k 31 bytes (omega arith) (omega arith) (λ e. omega arith) ∙ apart_parity c area m k 31 apart (omega arith)
    (omega arith) in
    let same_29 : view_at d 2 29 ≡ view_at c 2 29 = written_other c k 29 bytes (omega arith) (omega arith) (λ e. omega arith) in
    let p29 : PartOrGone d area 29 =
    elim apart.first [ inl part ↦ inl (same_29 ∙ part) | inr gone ↦ inr (ap is_unreadable same_29 ∙ gone) ] in
    record {
      is_area = apart.is_area;
      small = small;
      gone = lost;
      data_sectors = all;
      reads = first_gone d area m apart.is_area all (inr lost) p29 p30 p31;
      parity = inl (p30, p31);
    }

written_test : (c : Cartridge) (area : List (List ℕ)) (m k : ℕ) → IsApart c area m k → k ≢ m →
    IsTest (changed (write_sector 2 k (sector_at (with_parity area) k)) c) area (is_unsettled c (with_parity area))
written_test c area m k apart other =
    let bytes : List ℕ = sector_at (with_parity area) k in
    let place : k < 29 = apart.place in
    let read = apart.read other in
    record {
      passes = λ i h passes part.
          elim (cases_eq i k) [
            | inl same ↦
                gone_not_read (view_at c 2 k) read.0
                (sym (unsettled_data c (with_parity area) k place) ∙ ap (is_unsettled c (with_parity area)) (sym same) ∙ passes) read.1
            | inr not_k ↦ unsettled_holds_not c area i passes (sym (written_other c k i bytes (omega arith) h not_k) ∙ part)
          ];
      fails = λ i back h fails. written_other c k i bytes (omega arith) h (λ e. omega arith) ∙ settled_parity c area i back fails;
    }

-- where its write was stopped
worn_reads : (c : Cartridge) (area : List (List ℕ)) (m k : ℕ) → IsApart c area m k → k ≢ m → TableIs (changed (Wear 2 k) c) area
worn_reads c area m k apart other =
    let d : Cartridge = changed (Wear 2 k) c in
    let small : m < 29 = apart.small in
    let place : k < 29 = apart.place in
    let same_29 : view_at d 2 29 ≡ view_at c 2 29 = worn_other c k 29 (omega arith) (omega arith) (λ e. omega arith) in
    let p29 : PartOrGone d area 29 =
    elim apart.first [ inl part ↦ inl (same_29 ∙ part) | inr gone ↦ inr (ap is_unreadable same_29 ∙ gone) ] in
    few_gone d area (k ∷ m ∷ 29 ∷ []) apart.is_area (omega arith)
    (λ i h none. worn_other c k i (omega arith) h none.0 ∙ apart.holds i h none)
    (λ i one.
    three_parts d area k m 29 i (inr (ap is_unreadable (worn_here c k) ∙ worn_gone (view_at c 2 k)))
    (inr (ap is_unreadable (worn_other c k m (omega arith) (omega arith) (λ e. other (sym e))) ∙ apart.gone)) p29 one)

apart_stopped : (c : Cartridge) (area : List (List ℕ)) (m k : ℕ) (left : Option Cartridge) → IsApart c area m k → TableIs c area →
    is_left_out c (with_parity area) k ≡ true → Torn (settling_writes c area) (Some c) left → IsSomeAnd left (λ d. TableIs d area)
apart_stopped c area m k left apart reads out torn =
    let block : List (List ℕ) = with_parity area in
    let small : m < 29 = apart.small in
    let place : k < 29 = apart.place in
    let places : settling_places c area ≡ k ∷ places_that (is_unsettled c block) 0 32 =
    ap (λ (ps : List ℕ). ps ++ places_where (is_unsettled c block))
    (one_place (is_left_out c block) k (omega arith) out (λ i h not_k.
    elim (cases_lt i 29) [
      | inl front ↦ elim (cases_eq i m) [
        | inl same ↦ not_left_out c area i front (inr (ap (λ (j : ℕ). is_unreadable (view_at c 2 j)) same ∙ apart.gone))
        | inr not_m ↦ not_left_out c area i front (inl (apart_part c area m k i apart front not_m not_k))
      ]
      | inr back ↦ left_out_parity c block i back
    ]))
    ∙ ap (λ (ps : List ℕ). k ∷ ps) (places_are (is_unsettled c block)) in
    step (subst (λ (ps : List ℕ). Torn (block_writes block ps) (Some c) left) places torn)
  where
    other : k ≢ m
    other same =
        let kept : is_left_out c (with_parity area) k ≡ false =
        not_left_out c area k apart.place (inr (ap (λ (j : ℕ). is_unreadable (view_at c 2 j)) same ∙ apart.gone)) in
        true≢false (sym out ∙ kept)

    step : Torn (block_writes (with_parity area) (k ∷ places_that (is_unsettled c (with_parity area)) 0 32)) (Some c) left →
        IsSomeAnd left (λ d. TableIs d area)
    step torn =
        let bytes : List ℕ = sector_at (with_parity area) k in
        let d : Cartridge = changed (write_sector 2 k bytes) c in
        let rest : List Step = block_writes (with_parity area) (places_that (is_unsettled c (with_parity area)) 0 32) in
        elim (torn_write 2 k bytes rest (Some c) left torn) [
          | inl before ↦ some_and (λ d. TableIs d area) c left reads before
          | inr (inl worn) ↦ some_and (λ d. TableIs d area) (changed (Wear 2 k) c) left (worn_reads c area m k apart other) worn
          | inr (inr behind) ↦
              stopped_from d area (is_unsettled c (with_parity area)) m 32 0 d left (written_base c area m k apart other)
              (written_test c area m k apart other) (omega arith) (nothing_yet d area) behind
        ]

far_stopped : (c : Cartridge) (area : List (List ℕ)) (left : Option Cartridge) → TableIs c area → IsFar c area →
    Torn (settling_writes c area) (Some c) left → IsSomeAnd left (λ d. TableIs d area)
far_stopped c area left reads (inl (m, base)) torn = base_stopped c area m left base torn
far_stopped c area left reads (inr (m, k, apart)) torn =
    elim (cases_Bool (is_left_out c (with_parity area) k)) [
      | inl out ↦ apart_stopped c area m k left apart reads out torn
      | inr kept ↦ base_stopped c area m left (apart_base c area m k apart reads kept) torn
    ]

plain_is_stopped : (c : Cartridge) (area : List (List ℕ)) (left : Option Cartridge) → ReadsPlainly c area →
    Torn (settling_writes c area) (Some c) left → IsSomeAnd left (λ d. ReadsPlainly d area)
plain_is_stopped c area left plain torn =
    plain_stopped c area left plain
    (subst (λ (ps : List ℕ). Torn (block_writes (with_parity area) ps) (Some c) left)
    (plain_places c area plain ∙ places_are (is_unsettled c (with_parity area))) torn)

-- ---- any

by_reading : (c : Cartridge) (area : List (List ℕ)) (left : Option Cartridge) → TableIs c area → ReadsPlainly c area ⊎ IsFar c area →
    Torn (settling_writes c area) (Some c) left → IsSomeAnd left (λ d. TableIs d area)
by_reading c area left reads (inl plain) torn =
    some_weaker left (λ d still. plain_is_table d area still) (plain_is_stopped c area left plain torn)
by_reading c area left reads (inr far) torn = far_stopped c area left reads far torn

-- none is written on a protected cartridge
by_marks : (P : Cartridge → Type 0) (c : Cartridge) (area : List (List ℕ)) (left : Option Cartridge) (protected : Bool) → P c →
    (Torn (settling_writes c area) (Some c) left → IsSomeAnd left P) →
    Torn (if protected then [] else settling_writes c area) (Some c) left → IsSomeAnd left P
by_marks P c area left true here behind torn = some_and P c left here torn
by_marks P c area left false here behind torn = behind torn

stopped_reads : (c : Cartridge) (area : List (List ℕ)) (left : Option Cartridge) → TableIs c area →
    Torn (settling_steps area c) (Some c) left → IsSomeAnd left (λ d. TableIs d area)
stopped_reads c area left reads torn =
    by_marks (λ d. TableIs d area) c area left c.info.protected reads (by_reading c area left reads (is_far c area reads)) torn

pub stopped_plainly : (c : Cartridge) (area : List (List ℕ)) (left : Option Cartridge) → ReadsPlainly c area →
    Torn (settling_steps area c) (Some c) left → IsSomeAnd left (λ d. ReadsPlainly d area)
stopped_plainly c area left plain torn =
    by_marks (λ d. ReadsPlainly d area) c area left c.info.protected plain (plain_is_stopped c area left plain) torn

-- ---- what a stop keeps besides

-- what each write keeps, done or stopped
pub record IsKeptBy (P : Cartridge → Type 0) (block : List (List ℕ)) : Type 0 where
  pub written : (i : ℕ) (d : Cartridge) → i < 32 → P d → P (changed (write_sector 2 i (sector_at block i)) d)
  pub worn : (i : ℕ) (d : Cartridge) → i < 32 → P d → P (changed (Wear 2 i) d)

places_stopped : (P : Cartridge → Type 0) (block : List (List ℕ)) (ps : List ℕ) (c : Cartridge) (left : Option Cartridge) →
    IsKeptBy P block →
    AreSmall ps → P c → Torn (block_writes block ps) (Some c) left → IsSomeAnd left P
places_stopped P block [] c left kept small holds torn = some_and P c left holds torn
places_stopped P block (p ∷ ps) c left kept small holds torn =
    elim (torn_write 2 p (sector_at block p) (block_writes block ps) (Some c) left torn) [
      | inl before ↦ some_and P c left holds before
      | inr (inl worn) ↦ some_and P (changed (Wear 2 p) c) left (kept.worn p c (small p (inl refl)) holds) worn
      | inr (inr behind) ↦
          places_stopped P block ps (changed (write_sector 2 p (sector_at block p)) c) left kept (rest_small p ps small)
          (kept.written p c (small p (inl refl)) holds) behind
    ]

pub settling_small : (c : Cartridge) (area : List (List ℕ)) → AreSmall (settling_places c area)
settling_small c area =
    both_small (places_where (is_left_out c (with_parity area))) (places_where (is_unsettled c (with_parity area)))
    (where_small (is_left_out c (with_parity area))) (where_small (is_unsettled c (with_parity area)))

pub stopped_keeps : (P : Cartridge → Type 0) (c : Cartridge) (area : List (List ℕ)) (left : Option Cartridge) →
    IsKeptBy P (with_parity area) →
    P c → Torn (settling_steps area c) (Some c) left → IsSomeAnd left P
stopped_keeps P c area left kept holds torn =
    by_marks P c area left c.info.protected holds
    (places_stopped P (with_parity area) (settling_places c area) c left kept (settling_small c area) holds) torn

way_kept : (c : Cartridge) (block : List (List ℕ)) → IsKeptBy (IsOnTheWay c) block
way_kept c block = record {
  written = λ i d small way. way_more c d i (written_view (sector_at block i)) small (written_mild (sector_at block i)) way;
  worn = λ i d small way. way_more c d i worn_view small worn_mild way;
}

pub stopped_way : (c : Cartridge) (area : List (List ℕ)) (left : Option Cartridge) → Torn (settling_steps area c) (Some c) left →
    IsSomeAnd left (IsOnTheWay c)
stopped_way c area left torn = stopped_keeps (IsOnTheWay c) c area left (way_kept c (with_parity area)) (way_begun c) torn

pub stopped_settling : StoppedSettling
stopped_settling c area left reads torn =
    some_weaker left (λ d known. record { info = known.0.info; others = known.0.others; table = known.1 })
    (some_both (IsOnTheWay c) (λ d. TableIs d area) left (stopped_way c area left torn) (stopped_reads c area left reads torn))
