-- What is read of the table's segment between two tables, where one sector more is lost.
use Rattle.std.proofs.Common.{◌≢◌, ℕ, ◌<◌, ◌∙◌, List, ◌≡◌, ◌⊎◌, inl, inr, ap, ◌≤◌, sym, arith, [], ◌∷◌, subst}
use Rattle.std.proofs.lemmas.Bool.{cases_eq, cases_lt}
use Rattle.cartridge_laws.proofs.MountParts.{length-block, data_read}
use Rattle.cartridge_laws.proofs.MountSeen.{few_in_table}
use Rattle.cartridge_laws.proofs.MountStanding.{written_table}
use Rattle.cartridge_laws.proofs.MountStops.{block_written}
use Rattle.cartridge_laws.proofs.OneLossLines.{IsBroken, all_old, first_lost, all_old_at_once, first_lost_at_once, one_new_still_old}
use Rattle.cartridge_laws.proofs.OneLossLines.{one_new, second_lost, two_new, third_lost, all_new}
use Rattle.cartridge_laws.specs.AppendBetween.{IsWhole, IsBegun, IsTurned}
use Rattle.cartridge_laws.specs.MountBlocks.{HoldsPart}
use Rattle.cartridge_laws.specs.OneLossLaws.{BeforeReadsOldStill, LostParityReadsNew, LostDataReadsOld, LostDataReadsNew}
use Rattle.cartridge_laws.specs.OneLossLaws.{OneLossReadsEither}
use Rattle.cartridge_laws.specs.OneLossTables.{DifferInOne, IsLastInUse}
use Rattle.cartridge_spec.specs.TableSegment.{table_cells, TableIs, LosesOne}
use Rattle.cartridge_spec.specs.Says.{unreadable_count, with_parity}
use Rattle.cartridge_spec.specs.Shape.{sector_at}
use Rattle.qic_base.specs.Cartridge.{Cartridge, view_at}
use Rattle.qic_base.specs.declared.tape.SectorView.TheVariants.{Lost, Holds}

-- ---- before the changed sector is new

-- a sector that is not lost holds what it held
kept : (c d : Cartridge) (area : List (List ℕ)) (m i : ℕ) → LosesOne c d m → i < 32 → i ≢ m → HoldsPart c area i → HoldsPart d area i
kept c d area m i loses h apart part = loses.others i h apart ∙ part

old_or_lost : (c d : Cartridge) (old : List (List ℕ)) (k m i : ℕ) → IsWhole c old ⊎ IsBegun c old k → LosesOne c d m → i < 32 →
    HoldsPart d old i ⊎ (view_at d 2 i ≡ Lost)
old_or_lost c d old k m i before loses h =
    elim (cases_eq i m) [
      | inl same ↦ inr (ap (view_at d 2) same ∙ loses.here)
      | inr apart ↦ by_state before apart
    ]
  where
    by_state : IsWhole c old ⊎ IsBegun c old k → i ≢ m → HoldsPart d old i ⊎ (view_at d 2 i ≡ Lost)
    by_state (inl whole) apart = inl (kept c d old m i loses h apart (whole i h))
    by_state (inr begun) apart =
        elim (cases_eq i k) [
          | inl changed ↦ inr (loses.others i h apart ∙ ap (view_at c 2) changed ∙ begun.lost)
          | inr other ↦ inl (kept c d old m i loses h apart (begun.others i h other))
        ]

old_outside : (c d : Cartridge) (old : List (List ℕ)) (k m i : ℕ) → IsWhole c old ⊎ IsBegun c old k → LosesOne c d m → i < 32 →
    i ≢ m → i ≢ k → HoldsPart d old i
old_outside c d old k m i (inl whole) loses h apart other = kept c d old m i loses h apart (whole i h)
old_outside c d old k m i (inr begun) loses h apart other = kept c d old m i loses h apart (begun.others i h other)

pub before_reads_old_still : BeforeReadsOldStill
before_reads_old_still c d old k m is small before loses =
    let few : unreadable_count (table_cells d) ≤ 2 =
    few_in_table d (m ∷ k ∷ []) (λ i h none.
    (sector_at (with_parity old) i, old_outside c d old k m i before loses h none.0 none.1.0)) in
    written_table d old is
    (block_written d old (length-block old is) (λ i held h view.
    elim (old_or_lost c d old k m i before loses h) [
      | inl part ↦ let there : Holds held ≡ Holds (sector_at (with_parity old) i) = sym view ∙ part in cc
      | inr lost ↦ absurd (cc)
    ]))
    (inr (omega arith))

-- ---- a sector of parity

pub lost_parity_reads_new : LostParityReadsNew
lost_parity_reads_new c d old new m is turned from loses =
    let begins : 29 ≤ turned.turn = turned.from in
    inl (data_read d new is (λ i h. kept c d new m i loses (omega arith) (λ e. omega arith) (turned.before i (omega arith))))

-- ---- a sector of data

broken_by : (c d : Cartridge) (old new : List (List ℕ)) (k m : ℕ) → DifferInOne old new k → IsLastInUse new k → IsTurned c old new →
    m < 29 →
    LosesOne c d m → IsBroken d old new k m
broken_by c d old new k m differ last turned small loses =
    let begins : 29 ≤ turned.turn = turned.from in
    record {
      differ = differ;
      last = last;
      small = small;
      here = loses.here;
      data_sectors = λ i h apart. kept c d new m i loses (omega arith) apart (turned.before i (omega arith));
    }

-- the sector of the turn, by its number
turn_at : (c d : Cartridge) (old new : List (List ℕ)) (m p : ℕ) → (turned : IsTurned c old new) → LosesOne c d m → m < 29 →
    29 ≤ p → p < 32 →
    turned.turn ≡ p → HoldsPart d old p ⊎ (view_at d 2 p ≡ Lost)
turn_at c d old new m p turned loses small from below same =
    elim (turned.here (omega arith)) [
      | inl part ↦ inl (kept c d old m p loses below (λ e. omega arith) (subst (HoldsPart c old) same part))
      | inr lost ↦ inr (loses.others p below (λ e. omega arith) ∙ subst (λ (i : ℕ). view_at c 2 i ≡ Lost) same lost)
    ]

new_at : (c d : Cartridge) (old new : List (List ℕ)) (m p : ℕ) → (turned : IsTurned c old new) → LosesOne c d m → m < 29 → 29 ≤ p → p < 32 →
    p < turned.turn → HoldsPart d new p
new_at c d old new m p turned loses small from below before =
    kept c d new m p loses below (λ e. omega arith) (turned.before p before)

old_at : (c d : Cartridge) (old new : List (List ℕ)) (m p : ℕ) → (turned : IsTurned c old new) → LosesOne c d m → m < 29 → 29 ≤ p → p < 32 →
    turned.turn < p → HoldsPart d old p
old_at c d old new m p turned loses small from below behind =
    kept c d old m p loses below (λ e. omega arith) (turned.behind p behind below)

pub lost_data_reads_old : LostDataReadsOld
lost_data_reads_old c d old new k m differ last turned small loses (inl first) =
    let broken : IsBroken d old new k m = broken_by c d old new k m differ last turned small loses in
    let p30 : HoldsPart d old 30 = old_at c d old new m 30 turned loses small (omega arith) (omega arith) (omega arith) in
    let p31 : HoldsPart d old 31 = old_at c d old new m 31 turned loses small (omega arith) (omega arith) (omega arith) in
    elim (cases_eq m k) [
      | inl same ↦ elim (turn_at c d old new m 29 turned loses small (omega arith) (omega arith) first) [
        | inl p29 ↦ all_old_at_once d old new k m broken same p29 p30 p31
        | inr gone ↦ first_lost_at_once d old new k m broken same gone p30 p31
      ]
      | inr other ↦ elim (turn_at c d old new m 29 turned loses small (omega arith) (omega arith) first) [
        | inl p29 ↦ all_old d old new k m broken other p29 p30 p31
        | inr gone ↦ first_lost d old new k m broken other gone p30 p31
      ]
    ]
lost_data_reads_old c d old new k m differ last turned small loses (inr second) =
    let turn : turned.turn ≡ 30 = second.0 in
    one_new_still_old d old new k m (broken_by c d old new k m differ last turned small loses) second.2
    (new_at c d old new m 29 turned loses small (omega arith) (omega arith) (omega arith))
    (kept c d old m 30 loses (omega arith) (λ e. omega arith) second.1)
    (old_at c d old new m 31 turned loses small (omega arith) (omega arith) (omega arith))

pub lost_data_reads_new : LostDataReadsNew
lost_data_reads_new c d old new k m differ last turned small loses least apart =
    let broken : IsBroken d old new k m = broken_by c d old new k m differ last turned small loses in
    let p29 : HoldsPart d new 29 = new_at c d old new m 29 turned loses small (omega arith) (omega arith) (omega arith) in
    let most : turned.turn ≤ 32 = turned.within in
    elim (cases_eq turned.turn 30) [
      | inl second ↦
          let p31 : HoldsPart d old 31 = old_at c d old new m 31 turned loses small (omega arith) (omega arith) (omega arith) in
          elim (turn_at c d old new m 30 turned loses small (omega arith) (omega arith) second) [
            | inl p30 ↦ one_new d old new k m broken
                (apart second (sym (loses.others 30 (omega arith) (λ e. omega arith)) ∙ p30)) p29 p30 p31
            | inr gone ↦ second_lost d old new k m broken p29 gone p31
          ]
      | inr not_second ↦
          let p30 : HoldsPart d new 30 = new_at c d old new m 30 turned loses small (omega arith) (omega arith) (omega arith) in
          elim (cases_eq turned.turn 31) [
            | inl third ↦ elim (turn_at c d old new m 31 turned loses small (omega arith) (omega arith) third) [
              | inl p31 ↦ two_new d old new k m broken p29 p30 p31
              | inr gone ↦ third_lost d old new k m broken p29 p30 gone
            ]
            | inr not_third ↦ all_new d old new k m broken p29 p30
                (new_at c d old new m 31 turned loses small (omega arith) (omega arith) (omega arith))
          ]
    ]

-- ---- either

turned_reads_either : (c d : Cartridge) (old new : List (List ℕ)) (k m : ℕ) → DifferInOne old new k → IsLastInUse new k →
    IsTurned c old new → m < 29 →
    LosesOne c d m → TableIs d old ⊎ TableIs d new
turned_reads_either c d old new k m differ last turned small loses =
    let begins : 29 ≤ turned.turn = turned.from in
    elim (cases_eq turned.turn 29) [
      | inl first ↦ inl (lost_data_reads_old c d old new k m differ last turned small loses (inl first))
      | inr not_first ↦ elim (cases_eq m k) [
        | inr other ↦ inr (lost_data_reads_new c d old new k m differ last turned small loses (omega arith) (λ second part. other))
        | inl same ↦ elim (cases_eq turned.turn 30) [
          | inl second ↦ elim (turned.here (omega arith)) [
            | inl part ↦ inl (lost_data_reads_old c d old new k m differ last turned small loses
                (inr (second, subst (HoldsPart c old) second part, same)))
            | inr lost ↦
                let gone : view_at c 2 30 ≡ Lost = subst (λ (i : ℕ). view_at c 2 i ≡ Lost) second lost in
                inr (lost_data_reads_new c d old new k m differ last turned small loses (omega arith) (λ e part. absurd (cc)))
          ]
          | inr not_second ↦
              inr (lost_data_reads_new c d old new k m differ last turned small loses (omega arith)
              (λ second part. absurd (not_second second)))
        ]
      ]
    ]

pub one_loss_reads_either : OneLossReadsEither
one_loss_reads_either c d old new k m differ last (inl whole) loses =
    inl (before_reads_old_still c d old k m differ.old_area differ.data_sector (inl whole) loses)
one_loss_reads_either c d old new k m differ last (inr (inl begun)) loses =
    inl (before_reads_old_still c d old k m differ.old_area differ.data_sector (inr begun) loses)
one_loss_reads_either c d old new k m differ last (inr (inr turned)) loses =
    elim (cases_lt m 29) [
      | inl small ↦ turned_reads_either c d old new k m differ last turned small loses
      | inr parity ↦ inr (lost_parity_reads_new c d old new m differ.new_area turned parity loses)
    ]
