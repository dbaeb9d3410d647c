-- A cartridge whose table was settled.
use Rattle.std.proofs.Common.{subst, List, Option, Some, IsSomeAnd, ℕ, ◌≡◌, ap, Bool, false, cond, sym, ◌∙◌, inl, inr, refl, not, ◌<◌, ◌++◌}
use Rattle.std.proofs.Common.{[], true}
use Rattle.std.proofs.lemmas.Bool.{cases_lt}
use Rattle.std.specs.Prelude.{if◌then◌else◌}
use Rattle.cartridge_laws.proofs.MountAlike.{stopped_settles_alike}
use Rattle.cartridge_laws.proofs.MountFar.{length-table_block, is_far, far_area}
use Rattle.cartridge_laws.proofs.MountKeeping.{kept_mounts, data_kept, clean_kept}
use Rattle.cartridge_laws.proofs.MountLeftOut.{left_out_parity, not_left_out}
use Rattle.cartridge_laws.proofs.MountPlaces.{no_place}
use Rattle.cartridge_laws.proofs.MountSettling.{stopped_settling, stopped_plainly, settling_writes}
use Rattle.cartridge_laws.proofs.MountStanding.{standing_plainly, can_be_read, plainly_read}
use Rattle.cartridge_laws.proofs.MountStops.{written_right, block_written, holds_same}
use Rattle.cartridge_laws.proofs.MountWhole.{settling_effects}
use Rattle.cartridge_laws.proofs.MountWriting.{IsAllWritten, all_written, unsettled_data, unsettled_parity}
use Rattle.cartridge_laws.specs.MountBlocks.{KeepsTable, HoldsPart}
use Rattle.cartridge_laws.specs.MountLaws.{SettledKeepsTable, SettledMounts, SettledStands, SettledIsClean, SettledTwice, SettledIsWritten}
use Rattle.cartridge_laws.specs.MountLaws.{SettledReadsPlainly, SettledIsWhole, SettledNeedsNoSteps}
use Rattle.cartridge_spec.specs.TableSegment.{TableIs, ReadsPlainly, IsTableLive}
use Rattle.cartridge_spec.specs.Mounting.{settled}
use Rattle.cartridge_spec.specs.Says.{whole_mask, with_parity}
use Rattle.cartridge_spec.specs.Settling.{settling_steps, writes_of, changed_by, holds, block_writes, settling_places}
use Rattle.cartridge_laws.specs.TableCells.{is_unsettled, is_left_out}
use Rattle.cartridge_laws.specs.Segment.{places_where}
use Rattle.cartridge_spec.specs.Shape.{usable_places, sector_at, is_unreadable}
use Rattle.qic_base.proofs.Steps.{Torn-all}
use Rattle.qic_base.specs.Cartridge.{Cartridge, view_at}
use Rattle.qic_base.specs.Step.{Step, effects}
use Rattle.qic_base.specs.declared.tape.SectorView.{SectorView}
use Rattle.qic_base.specs.declared.tape.SectorView.TheVariants.{Holds}
use Rattle.qic_base.specs.declared.tape.TapeInfo.{TapeInfo}
use Rattle.cartridge_laws.proofs.Writing.{live_holds}

-- ---- it says the same

pub settled_keeps_table : SettledKeepsTable
settled_keeps_table c area table =
    let steps : List Step = settling_steps area c in
    let all : IsSomeAnd (effects steps (Some c)) (KeepsTable area c) =
    stopped_settling c area (effects steps (Some c)) table (Torn-all steps (Some c)) in
    subst (λ (o : Option Cartridge). IsSomeAnd o (KeepsTable area c)) (settling_effects c area table) all

-- what is read plainly is read so still
settled_plainly : (c : Cartridge) (area : List (List ℕ)) → TableIs c area → ReadsPlainly c area → ReadsPlainly (settled area c) area
settled_plainly c area table plain =
    let steps : List Step = settling_steps area c in
    let all : IsSomeAnd (effects steps (Some c)) (λ d. ReadsPlainly d area) =
    stopped_plainly c area (effects steps (Some c)) plain (Torn-all steps (Some c)) in
    subst (λ (o : Option Cartridge). IsSomeAnd o (λ d. ReadsPlainly d area)) (settling_effects c area table) all

pub settled_mounts : SettledMounts
settled_mounts c header words area entries mounted =
    kept_mounts c (settled area c) header words area entries (settled_keeps_table c area mounted.reads) mounted

pub settled_stands : SettledStands
settled_stands c plain area stood table =
    data_kept c (settled area c) plain area stood table (settled_keeps_table c area table)
    (settled_plainly c area table (standing_plainly c plain area stood table))

pub settled_is_clean : SettledIsClean
settled_is_clean c plain area clean table =
    clean_kept c (settled area c) plain area clean table (settled_keeps_table c area table)
    (settled_plainly c area table (standing_plainly c plain area clean.stands table))

pub settled_twice : SettledTwice
settled_twice c area table =
    let steps : List Step = settling_steps area c in
    let alike : Cartridge → Type 0 = λ d. settled area d ≡ settled area c in
    let all : IsSomeAnd (effects steps (Some c)) alike =
    stopped_settles_alike c area (effects steps (Some c)) table (Torn-all steps (Some c)) in
    subst (λ (o : Option Cartridge). IsSomeAnd o alike) (settling_effects c area table) all

-- ---- its sectors

-- one that is not protected
settled_open : (c : Cartridge) (area : List (List ℕ)) → c.info.protected ≡ false →
    settled area c ≡ changed_by (writes_of 2 (usable_places whole_mask) (with_parity area)) c
settled_open c area is = ap (λ (b : Bool). cond b c (changed_by (writes_of 2 (usable_places whole_mask) (with_parity area)) c)) is

settled_all_written : (c : Cartridge) (area : List (List ℕ)) → TableIs c area → c.info.protected ≡ false →
    IsAllWritten (with_parity area) c (settled area c)
settled_all_written c area table is =
    subst (IsAllWritten (with_parity area) c) (sym (settled_open c area is))
    (all_written (with_parity area) c (length-table_block c area table))

pub settled_is_written : SettledIsWritten
settled_is_written c area table is =
    let written = settled_all_written c area table is in
    block_written (settled area c) area (length-table_block c area table) (λ i held h view.
    written_right (sector_at (with_parity area) i) (view_at c 2 i) held (sym (written.table i h) ∙ view))

-- so the data are read plainly
pub settled_reads_plainly : SettledReadsPlainly
settled_reads_plainly c area table is =
    elim (is_far c area table) [
      | inl plain ↦ settled_plainly c area table plain
      | inr far ↦
          plainly_read (settled area c) area (far_area c area far) (inl (settled_is_written c area table is))
          (can_be_read (settled area c) area (settled_keeps_table c area table).table)
    ]

pub settled_is_whole : SettledIsWhole
settled_is_whole c area i table is live h =
    (settled_all_written c area table is).table i h ∙ live_holds (view_at c 2 i) (sector_at (with_parity area) i) (live i h)

-- ---- it needs no steps

whole_is_settled : (d : Cartridge) (block : List (List ℕ)) (i : ℕ) → view_at d 2 i ≡ Holds (sector_at block i) →
    is_unsettled d block i ≡ false
whole_is_settled d block i view =
    let bytes : List ℕ = sector_at block i in
    elim (cases_lt i 29) [
      | inl data_sector ↦ unsettled_data d block i data_sector ∙ ap (λ (v : SectorView). is_unreadable v) view
      | inr parity ↦ unsettled_parity d block i parity ∙ ap (λ (v : SectorView). not (holds v bytes)) view ∙ holds_same bytes
    ]

whole_is_left : (d : Cartridge) (area : List (List ℕ)) (i : ℕ) → HoldsPart d area i → is_left_out d (with_parity area) i ≡ false
whole_is_left d area i part =
    elim (cases_lt i 29) [
      | inl data_sector ↦ not_left_out d area i data_sector (inl part)
      | inr parity ↦ left_out_parity d (with_parity area) i parity
    ]

no_writes : (d : Cartridge) (area : List (List ℕ)) → ((i : ℕ) → i < 32 → HoldsPart d area i) → settling_writes d area ≡ []
no_writes d area whole =
    ap (λ (places : List ℕ). block_writes (with_parity area) (places ++ places_where (is_unsettled d (with_parity area))))
    (no_place (is_left_out d (with_parity area)) (λ i h. whole_is_left d area i (whole i h)))
    ∙ ap (λ (places : List ℕ). block_writes (with_parity area) places)
    (no_place (is_unsettled d (with_parity area)) (λ i h. whole_is_settled d (with_parity area) i (whole i h)))

by_marks : (c : Cartridge) (area : List (List ℕ)) (b : Bool) → c.info.protected ≡ b → TableIs c area → IsTableLive c →
    (if b then [] else settling_writes (settled area c) area) ≡ []
by_marks c area true is table live = refl
by_marks c area false is table live = no_writes (settled area c) area (λ i h. settled_is_whole c area i table is live h)

pub settled_needs_no_steps : SettledNeedsNoSteps
settled_needs_no_steps c area table live =
    let info = (settled_keeps_table c area table).info in
    ap (λ (i : TapeInfo). if i.protected then [] else settling_writes (settled area c) area) info
    ∙ by_marks c area c.info.protected refl table live

-- nothing settles a protected cartridge
pub locked_steps : (table : List (List ℕ)) (c : Cartridge) → c.info.protected ≡ true → settling_steps table c ≡ []
locked_steps table c is = ap (λ (b : Bool). if b then [] else block_writes (with_parity table) (settling_places c table)) is
