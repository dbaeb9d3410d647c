-- What all steps of formatting leave.
use Rattle.std.proofs.Common.{◌≡◌, ℕ, List, length, arith, refl, ◌<◌, ◌≤◌, ◌∙◌, ap, ◌++◌, zero, suc, sym, subst, true, inl, ◌↔◌, ◌*◌, inr}
use Rattle.std.proofs.lemmas.Bool.{cases_lt}
use Rattle.cartridge_laws.proofs.FormatClearing.{cleared_to_the_end, formatted_zeros}
use Rattle.cartridge_laws.proofs.FormatCopies.{HoldsZeros, IsCopyOf, copy_is_written, copy_is_readable, written_reads}
use Rattle.cartridge_laws.proofs.FormatEmpty.{empty_stands}
use Rattle.cartridge_laws.proofs.FormatFresh.{fresh_are_sound}
use Rattle.cartridge_laws.proofs.FormatWriting.{IsWritable, IsWritten, copy_written, changed_by-append, view_of_written}
use Rattle.cartridge_laws.specs.FormatLaws.{FormattingFormats, FormattedStands, FormattedIsLive, FormattedIsMarked}
use Rattle.cartridge_laws.specs.FormatMarks.{IsFormattedFrom}
use Rattle.cartridge_spec.specs.Formatting.{IsDefect, clearing_steps, copy_writes, HasNoDefectInFront, format_steps, IsFreshFor}
use Rattle.cartridge_spec.specs.Formatting.{fresh_plain}
use Rattle.cartridge_spec.specs.Shape.{IsArea, sector_at, IsLive}
use Rattle.cartridge_spec.specs.Says.{with_parity}
use Rattle.cartridge_spec.specs.Settling.{changed_by}
use Rattle.cartridge_spec.specs.Volumes.{Stands}
use Rattle.qic_base.specs.Cartridge.{zero_sector, Cartridge, view_at}
use Rattle.qic_base.specs.CartridgeTerms.{IsCartridge}
use Rattle.qic_base.specs.Step.{formatted_view, written_view, Step}
use Rattle.qic_base.specs.declared.tape.SectorView.{SectorView}
use Rattle.qic_base.specs.declared.tape.SectorView.TheVariants.{Blank, Defect, Lost, Holds}
use Rattle.qic_base.specs.declared.tape.TapeInfo.{TapeInfo}
use Rattle.cartridge_laws.proofs.MountParts.{length-block}

-- what holds of a cleared cartridge without a defect in front: its first segments hold zero bytes
pub formatted_holds : (view : SectorView) → (IsDefect view → ⊥) → formatted_view view ≡ Holds zero_sector
formatted_holds Blank sound = refl
formatted_holds Defect sound = absurd (sound tt)
formatted_holds Lost sound = refl
formatted_holds (Holds bytes) sound = refl

-- the steps up to the first copy's, with that copy, and all
abbrev pub cleared : Cartridge → Cartridge
cleared c = changed_by (clearing_steps c.info.segments_per_track) c

abbrev pub with_first : Cartridge → (block : List (List ℕ)) → Cartridge
with_first c block = changed_by (copy_writes 0 block) (cleared c)

pub cleared_front : (c : Cartridge) (segment i : ℕ) → IsCartridge c → HasNoDefectInFront c → segment < 3 → i < 32 →
    view_at (cleared c) segment i ≡ Holds zero_sector
cleared_front c segment i whole front below h =
    let least : 3 ≤ c.info.segments_per_track = whole.long.shortest in
    (cleared_to_the_end c whole).formatted segment i (omega arith) h ∙ formatted_holds (view_at c segment i) (front segment below i h)

pub first_writable : (c : Cartridge) → IsCartridge c → HasNoDefectInFront c → IsWritable (cleared c) 0
first_writable c whole front = record {
  each = λ i bytes h. ap (written_view bytes) (cleared_front c 0 i whole front (omega arith) h);
}

pub first_written : (c : Cartridge) (block : List (List ℕ)) → IsCartridge c → HasNoDefectInFront c → length block ≡ 32 →
    IsWritten 0 block (cleared c) (with_first c block)
first_written c block whole front long = copy_written 0 block (cleared c) long (first_writable c whole front)

pub second_writable : (c : Cartridge) (block : List (List ℕ)) → IsCartridge c → HasNoDefectInFront c → length block ≡ 32 →
    IsWritable (with_first c block) 1
second_writable c block whole front long = record {
  each = λ i bytes h.
      ap (written_view bytes) ((first_written c block whole front long).almost.others 1 i h (λ same. absurd (omega arith))
      ∙ cleared_front c 1 i whole front (omega arith) h);
}

second_written : (c : Cartridge) (block : List (List ℕ)) → IsCartridge c → HasNoDefectInFront c → length block ≡ 32 →
    IsWritten 1 block (with_first c block) (changed_by (copy_writes 1 block) (with_first c block))
second_written c block whole front long = copy_written 1 block (with_first c block) long (second_writable c block whole front long)

-- all steps, one list after the other
all_steps : (c : Cartridge) (area : List (List ℕ)) →
    changed_by (format_steps c.info.segments_per_track area) c ≡ changed_by (copy_writes 1 (with_parity area))
    (with_first c (with_parity area))
all_steps c area =
    let clearing : List Step = clearing_steps c.info.segments_per_track in
    let first : List Step = copy_writes 0 (with_parity area) in
    let second : List Step = copy_writes 1 (with_parity area) in
    changed_by-append (clearing ++ first) second c
    ∙ ap (changed_by second) (changed_by-append clearing first c)

both_written : (c : Cartridge) (area : List (List ℕ)) → IsCartridge c → IsArea area → HasNoDefectInFront c →
    IsFormattedFrom c (changed_by (copy_writes 1 (with_parity area)) (with_first c (with_parity area))) area
both_written c area whole is_area front =
    let block : List (List ℕ) = with_parity area in
    let long : length block ≡ 32 = length-block area is_area in
    let before = cleared_to_the_end c whole in
    let first = first_written c block whole front long in
    let second = second_written c block whole front long in
    record {
      info = second.almost.info ∙ first.almost.info ∙ before.info;
      copies = λ copy i below h. by_copy copy i below h;
      others = λ s i from on h.
          second.almost.others s i h (λ same. absurd (omega arith))
          ∙ first.almost.others s i h (λ same. absurd (omega arith))
          ∙ before.formatted s i on h;
    }
  where
    by_copy : (copy i : ℕ) → copy < 2 → i < 32 →
        view_at (changed_by (copy_writes 1 (with_parity area)) (with_first c (with_parity area))) copy i ≡ Holds
        (sector_at (with_parity area) i)
    by_copy zero i below h =
        let long : length (with_parity area) ≡ 32 = length-block area is_area in
        (second_written c (with_parity area) whole front long).almost.others 0 i h (λ same. absurd (omega arith))
        ∙ view_of_written i (first_written c (with_parity area) whole front long) h
    by_copy (suc zero) i below h =
        let long : length (with_parity area) ≡ 32 = length-block area is_area in
        view_of_written i (second_written c (with_parity area) whole front long) h
    by_copy (suc (suc copy)) i below h = absurd (omega arith)

pub formatting_formats : FormattingFormats
formatting_formats c area whole is_area front =
    subst (λ (d : Cartridge). IsFormattedFrom c d area) (sym (all_steps c area)) (both_written c area whole is_area front)

-- ---- what it stands for

-- one whose copy 0 was written, but that its first sector may be unreadable
pub copy_stands : (c d : Cartridge) (label : List ℕ) (date : ℕ) (words : List ℕ) (area : List (List ℕ)) → IsCartridge c →
    IsFreshFor c label date words area → d.info ≡ record c.info { referenced = true } → IsCopyOf d 0 (with_parity area) → HoldsZeros d 2 →
    Stands d (fresh_plain c label date words area)
copy_stands c d label date words area whole for info copy zeros =
    let written = copy_is_written d 0 area (length-block area for.fresh.size) copy in
    let sound = fresh_are_sound c label date words area whole for in
    empty_stands c d label date words area whole for info written
    (written_reads d 0 area for.fresh.size sound.signature written (copy_is_readable d 0 (with_parity area) copy)) zeros

formatted_copy : (old new : Cartridge) (copy : ℕ) (area : List (List ℕ)) → IsFormattedFrom old new area → copy < 2 →
    IsCopyOf new copy (with_parity area)
formatted_copy old new copy area formatted below = record {
  first = λ bytes view.
      let same : Holds bytes ≡ Holds (sector_at (with_parity area) 0) = sym view ∙ formatted.copies copy 0 below (omega arith) in
      cc;
  here = λ i from h. formatted.copies copy i below h;
}

formatted_table : (old new : Cartridge) (area : List (List ℕ)) → IsCartridge old → IsFormattedFrom old new area → HoldsZeros new 2
formatted_table old new area whole formatted =
    let least : 3 ≤ old.info.segments_per_track = whole.long.shortest in
    record {
      each = λ i bytes h view.
          formatted_zeros (view_at old 2 i) bytes (sym (formatted.others 2 i (omega arith) (omega arith) h) ∙ view);
    }

pub formatted_stands : FormattedStands
formatted_stands old new label date words area whole for formatted =
    let long : length (with_parity area) ≡ 32 = length-block area for.fresh.size in
    let first = formatted_copy old new 0 area formatted (omega arith) in
    let second = formatted_copy old new 1 area formatted (omega arith) in
    record {
      stands = copy_stands old new label date words area whole for formatted.info first (formatted_table old new area whole formatted);
      copies = record {
        first = inl (copy_is_written new 0 area long first);
        second = inl (copy_is_written new 1 area long second);
      };
    }

-- its table's segment takes writes
pub formatted_is_live : FormattedIsLive
formatted_is_live old new area whole front formatted i h =
    let least : 3 ≤ old.info.segments_per_track = whole.long.shortest in
    let zeros : view_at new 2 i ≡ Holds zero_sector =
    formatted.others 2 i (omega arith) (omega arith) h ∙ formatted_holds (view_at old 2 i) (front 2 (omega arith) i h) in
    subst IsLive (sym zeros) tt

-- ---- the defects

defect_formatted : (view : SectorView) → IsDefect view ↔ IsDefect (formatted_view view)
defect_formatted Blank = (λ d. d, λ d. absurd d)
defect_formatted Defect = (λ d. d, λ d. d)
defect_formatted Lost = (λ d. d, λ d. absurd d)
defect_formatted (Holds bytes) = (λ d. d, λ d. absurd d)

pub formatted_is_marked : FormattedIsMarked
formatted_is_marked old new words area whole marks front formatted =
    let same : new.info.segments_per_track ≡ old.info.segments_per_track = ap (λ (i : TapeInfo). i.segments_per_track) formatted.info in
    record {
      size = marks.size ∙ ap (λ (n : ℕ). 28 * n) (sym same);
      each = λ s i on h.
          let before : s < 28 * old.info.segments_per_track = omega arith in
          elim (cases_lt s 2) [
            | inl copy ↦
                let here = formatted.copies s i copy h in (
                  λ marked. absurd (front s (omega arith) i h ((marks.each s i before h).0 marked)),
                  λ defect. absurd (subst IsDefect here defect),
                )
            | inr other ↦
                let here = formatted.others s i other before h in (
                  λ marked. subst IsDefect (sym here) ((defect_formatted (view_at old s i)).0 ((marks.each s i before h).0 marked)),
                  λ defect. (marks.each s i before h).1 ((defect_formatted (view_at old s i)).1 (subst IsDefect here defect)),
                )
          ];
    }
