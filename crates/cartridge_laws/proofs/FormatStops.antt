-- What a stop among the steps of formatting leaves, from the first to the last.
use Rattle.std.proofs.Common.{◌⊎◌, inl, inr, ℕ, ◌≤◌, sym, ◌∙◌, arith, ◌≡◌, ◌<◌, List, ◌++◌, length, ap, subst, Option, Some, IsSomeAnd}
use Rattle.cartridge_laws.proofs.FormatClearing.{cleared_to_the_end, formatted_zeros}
use Rattle.cartridge_laws.proofs.FormatCopies.{unformatted_from_bare, bare_shrank, zero_from_views, HoldsZeros, zero_front_does_not_read}
use Rattle.cartridge_laws.proofs.FormatCopies.{IsCopyOf}
use Rattle.cartridge_laws.proofs.FormatDone.{cleared, cleared_front, copy_stands, with_first, first_written, first_writable}
use Rattle.cartridge_laws.proofs.FormatDone.{second_writable}
use Rattle.cartridge_laws.proofs.FormatHalfway.{IsKeptOrBare, IsKeptCopy, clearing_stopped}
use Rattle.cartridge_laws.proofs.FormatStanding.{kept_stands}
use Rattle.cartridge_laws.proofs.FormatWriting.{some_weaker, IsUntouched, IsAlmostWritten, IsPartlyWritten, changed_by-append, effects-some}
use Rattle.cartridge_laws.proofs.FormatWriting.{copy_stopped}
use Rattle.cartridge_laws.proofs.Segments.{zero_does_not_read}
use Rattle.cartridge_laws.specs.FormatLaws.{StoppedClearing, StoppedClearingNew, StoppedFormat, StoppedFormatNew}
use Rattle.cartridge_spec.specs.Formatting.{StandsCleanly, HasNoHeader, HasNoDefectInFront, IsFreshFor, fresh_plain, clearing_steps}
use Rattle.cartridge_spec.specs.Formatting.{copy_writes, format_steps}
use Rattle.cartridge_laws.specs.HeaderTerms.{IsBareCopy}
use Rattle.cartridge_spec.specs.HeaderCopies.{IsUnformatted}
use Rattle.cartridge_spec.specs.TableSegment.{IsTableLive}
use Rattle.cartridge_spec.specs.Says.{with_parity}
use Rattle.cartridge_spec.specs.Shape.{IsLive}
use Rattle.cartridge_spec.specs.Volumes.{Plain, Stands}
use Rattle.qic_base.proofs.Steps.{Torn-append}
use Rattle.qic_base.specs.Cartridge.{Cartridge, view_at, zero_sector}
use Rattle.qic_base.specs.CartridgeTerms.{IsCartridge}
use Rattle.qic_base.specs.Step.{Step, effects, Torn}
use Rattle.qic_base.specs.declared.tape.SectorView.TheVariants.{Holds}
use Rattle.cartridge_laws.proofs.MountParts.{length-block}

-- ---- among the steps that clear

kept_or_bare_stands : (c d : Cartridge) (plain : Plain) → StandsCleanly c plain → IsKeptOrBare c d → StandsCleanly d plain ⊎ HasNoHeader d
kept_or_bare_stands c d plain stood (inl kept) = kept_stands c d plain stood kept
kept_or_bare_stands c d plain stood (inr bare) = inr bare

pub bare_kept : (copy : ℕ) (c d : Cartridge) → IsBareCopy c copy → IsKeptCopy copy c d → IsBareCopy d copy
bare_kept copy c d bare (inl shrank) = bare_shrank shrank bare
bare_kept copy c d bare (inr zeros) = inl (zero_from_views zeros)

stays_bare : (c d : Cartridge) → HasNoHeader c → IsKeptOrBare c d → HasNoHeader d
stays_bare c d none (inl kept) = record { first = bare_kept 0 c d none.first kept.first; second = bare_kept 1 c d none.second kept.second }
stays_bare c d none (inr bare) = bare

pub stopped_clearing : StoppedClearing
stopped_clearing c plain left whole stood torn =
    some_weaker left (λ d kept. kept_or_bare_stands c d plain stood kept) (clearing_stopped c left whole torn)

pub stopped_clearing_new : StoppedClearingNew
stopped_clearing_new c left whole none torn =
    some_weaker left (λ d kept. stays_bare c d none kept) (clearing_stopped c left whole torn)

-- ---- among all of them

-- what is left: what the clearing leaves, an unformatted cartridge, or one that stands for the empty one, and takes writes
abbrev LeftByFormat : (c : Cartridge) (empty : Plain) (d : Cartridge) → Type 0
LeftByFormat c empty d = IsKeptOrBare c d ⊎ IsUnformatted d ⊎ (Stands d empty × IsTableLive d)

-- sector 0 of copy 0 still holds zero bytes, and so does copy 1
untouched_unformatted : (c d : Cartridge) → IsCartridge c → HasNoDefectInFront c → IsUntouched 0 1 (cleared c) d → IsUnformatted d
untouched_unformatted c d whole front kept =
    let least : 3 ≤ c.info.segments_per_track = whole.long.shortest in
    let zeros : HoldsZeros d 1 = record {
      each = λ i bytes h view.
          formatted_zeros (view_at c 1 i) bytes
          (sym (kept.others 1 i h (λ same. absurd (omega arith)) ∙ (cleared_to_the_end c whole).formatted 1 i (omega arith) h) ∙ view);
    } in
    inr (
      zero_front_does_not_read d 0 (kept.others 0 0 (omega arith) (λ same. omega arith) ∙ cleared_front c 0 0 whole front (omega arith)
          (omega arith)),
      zero_does_not_read d 1 (zero_from_views zeros),
    )

-- the table's segment holds zero bytes, where it is as it was cleared
table_zeros : (c d : Cartridge) → IsCartridge c → HasNoDefectInFront c → ((i : ℕ) → i < 32 → view_at d 2 i ≡ view_at (cleared c) 2 i) →
    HoldsZeros d 2
table_zeros c d whole front same = record {
  each = λ i bytes h view.
      let held : Holds zero_sector ≡ Holds bytes = sym (same i h ∙ cleared_front c 2 i whole front (omega arith) h) ∙ view in
      cc;
}

-- and each of its sectors takes a write
table_live : (c d : Cartridge) → IsCartridge c → HasNoDefectInFront c → ((i : ℕ) → i < 32 → view_at d 2 i ≡ view_at (cleared c) 2 i) →
    IsTableLive d
table_live c d whole front same i h = subst IsLive (sym (same i h ∙ cleared_front c 2 i whole front (omega arith) h)) tt

almost_copy : {segment : ℕ} {block : List (List ℕ)} {c d : Cartridge} → IsAlmostWritten segment block c d → IsCopyOf d segment block
almost_copy almost = record { first = almost.first; here = almost.here }

-- a stop in copy 0
first_left : (c d : Cartridge) (label : List ℕ) (date : ℕ) (words : List ℕ) (area : List (List ℕ)) → IsCartridge c →
    IsFreshFor c label date words area → IsPartlyWritten 0 (with_parity area) (cleared c) d →
    LeftByFormat c (fresh_plain c label date words area) d
first_left c d label date words area whole for (inl kept) = inr (inl (untouched_unformatted c d whole for.front kept))
first_left c d label date words area whole for (inr almost) =
    let table : (i : ℕ) → i < 32 → view_at d 2 i ≡ view_at (cleared c) 2 i = λ i h. almost.others 2 i h (λ same. absurd (omega arith)) in
    inr (inr (
      copy_stands c d label date words area whole for (almost.info ∙ (cleared_to_the_end c whole).info) (almost_copy almost)
          (table_zeros c d whole for.front table),
      table_live c d whole for.front table,
    ))

-- all but segment 1 is as it was
record IsLeftFrom (c d : Cartridge) : Type 0 where
  info : d.info ≡ c.info
  others : (s i : ℕ) → i < 32 → (s ≡ 1 → ⊥) → view_at d s i ≡ view_at c s i

-- a stop in copy 1 leaves the rest as it was
others_left : {block : List (List ℕ)} {c d : Cartridge} → IsPartlyWritten 1 block c d → IsLeftFrom c d
others_left (inl kept) = record { info = kept.info; others = λ s i h apart. kept.others s i h (λ same. absurd (apart same)) }
others_left (inr almost) = record { info = almost.info; others = almost.others }

second_left : (c d : Cartridge) (label : List ℕ) (date : ℕ) (words : List ℕ) (area : List (List ℕ)) → IsCartridge c →
    IsFreshFor c label date words area → IsPartlyWritten 1 (with_parity area) (with_first c (with_parity area)) d →
    LeftByFormat c (fresh_plain c label date words area) d
second_left c d label date words area whole for partly =
    let first = first_written c (with_parity area) whole for.front (length-block area for.fresh.size) in
    let left = others_left partly in
    let copy : IsCopyOf d 0 (with_parity area) = record {
      first = λ bytes view.
          first.almost.first bytes (sym (left.others 0 0 (omega arith) (λ same. absurd (omega arith))) ∙ view);
      here = λ i from h. left.others 0 i h (λ same. absurd (omega arith)) ∙ first.almost.here i from h;
    } in
    let table : (i : ℕ) → i < 32 → view_at d 2 i ≡ view_at (cleared c) 2 i =
    λ i h. left.others 2 i h (λ same. absurd (omega arith)) ∙ first.almost.others 2 i h (λ same. absurd (omega arith)) in
    inr (inr (
      copy_stands c d label date words area whole for (left.info ∙ first.almost.info ∙ (cleared_to_the_end c whole).info) copy
          (table_zeros c d whole for.front table),
      table_live c d whole for.front table,
    ))

format_stopped : (c : Cartridge) (label : List ℕ) (date : ℕ) (words : List ℕ) (area : List (List ℕ)) (left : Option Cartridge) →
    IsCartridge c →
    IsFreshFor c label date words area → Torn (format_steps c.info.segments_per_track area) (Some c) left →
    IsSomeAnd left (LeftByFormat c (fresh_plain c label date words area))
format_stopped c label date words area left whole for torn =
    let block : List (List ℕ) = with_parity area in
    let long : length block ≡ 32 = length-block area for.fresh.size in
    let clearing : List Step = clearing_steps c.info.segments_per_track in
    let first : List Step = copy_writes 0 block in
    let second : List Step = copy_writes 1 block in
    elim (Torn-append (clearing ++ first) second (Some c) left torn) [
      | inl front ↦ elim (Torn-append clearing first (Some c) left front) [
        | inl begun ↦ some_weaker left (λ d kept. inl kept) (clearing_stopped c left whole begun)
        | inr copying ↦
            some_weaker left (λ d partly. first_left c d label date words area whole for partly)
            (copy_stopped 0 block (cleared c) left long (first_writable c whole for.front)
            (subst (λ (held : Option Cartridge). Torn first held left) (effects-some clearing c) copying))
      ]
      | inr behind ↦
          let held : effects (clearing ++ first) (Some c) ≡ Some (with_first c block) =
          effects-some (clearing ++ first) c ∙ ap (λ (d : Cartridge). Some d) (changed_by-append clearing first c) in
          some_weaker left (λ d partly. second_left c d label date words area whole for partly)
          (copy_stopped 1 block (with_first c block) left long (second_writable c block whole for.front long)
          (subst (λ (o : Option Cartridge). Torn second o left) held behind))
    ]

standing_left : (c d : Cartridge) (plain empty : Plain) → StandsCleanly c plain → LeftByFormat c empty d →
    StandsCleanly d plain ⊎ IsUnformatted d ⊎ (Stands d empty × IsTableLive d)
standing_left c d plain empty stood (inl kept) =
    elim (kept_or_bare_stands c d plain stood kept) [
      | inl stands ↦ inl stands
      | inr bare ↦ inr (inl (unformatted_from_bare d bare))
    ]
standing_left c d plain empty stood (inr rest) = inr rest

new_left : (c d : Cartridge) (empty : Plain) → HasNoHeader c → LeftByFormat c empty d → IsUnformatted d ⊎ (Stands d empty × IsTableLive d)
new_left c d empty none (inl kept) = inl (unformatted_from_bare d (stays_bare c d none kept))
new_left c d empty none (inr rest) = rest

pub stopped_format : StoppedFormat
stopped_format c plain label date words area left whole stood for torn =
    some_weaker left (λ d after. standing_left c d plain (fresh_plain c label date words area) stood after)
    (format_stopped c label date words area left whole for torn)

pub stopped_format_new : StoppedFormatNew
stopped_format_new c label date words area left whole none for torn =
    some_weaker left (λ d after. new_left c d (fresh_plain c label date words area) none after)
    (format_stopped c label date words area left whole for torn)
