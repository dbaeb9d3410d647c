-- A cartridge that stands for a plain one stands for it still while it is scrubbed in either form, and behind that.
use Rattle.std.proofs.Common.{◌≡◌, ℕ, inl, inr, List, ◌<◌, arith, sym, ◌∙◌, subst, ap, Option, Some, IsSomeAnd}
use Rattle.cartridge_laws.proofs.FormatStanding.{same_cells}
use Rattle.cartridge_laws.proofs.FormatWriting.{some_weaker, effects-some}
use Rattle.cartridge_laws.proofs.Sayings.{says_is_function}
use Rattle.cartridge_spec.specs.Formatting.{StandsCleanly}
use Rattle.cartridge_spec.specs.HeaderCopies.{CopyReads, last_segment}
use Rattle.cartridge_spec.specs.Shape.{IsArea}
use Rattle.cartridge_laws.specs.HeaderTerms.{IsInForce, IsCleanCopy}
use Rattle.cartridge_spec.specs.Says.{Says, Data, Mismatch}
use Rattle.cartridge_spec.specs.Volumes.{Plain, Stands, entries_of}
use Rattle.command_laws.proofs.ScrubBeside.{beside_stands, standing_wrong, written_not_wrong, zero_not_wrong}
use Rattle.command_laws.proofs.ScrubForms.{as_seen, IsBehind, IsLeft, stopped_left}
use Rattle.command_laws.proofs.ScrubMounted.{in_order, mending_is_clean}
use Rattle.command_laws.proofs.ScrubSeen.{IsSeen, IsFoundWrong}
use Rattle.command_laws.proofs.ScrubStanding.{mending_stands, looks_in_front, copy_reads}
use Rattle.command_laws.specs.DeepScrubLaws.{StoppedFormStands, DoneFormStands, StoppedFormIsClean, DoneFormIsClean}
use Rattle.command_laws.specs.ScrubFound.{without_all}
use Rattle.command_laws.specs.ScrubMended.{IsBeingMended}
use Rattle.command_laws.specs.ScrubSayings.{Rise}
use Rattle.command_spec.specs.Scrub.{Looked, looked_at, whole_segment, cells_at, Finding, IsWrong}
use Rattle.command_spec.specs.declared.depth.Depth.{Depth}
use Rattle.qic_base.proofs.Steps.{Torn-all}
use Rattle.qic_base.specs.Acts.{steps_of}
use Rattle.qic_base.specs.Cartridge.{Cartridge, view_at}
use Rattle.qic_base.specs.Step.{effects}
use Rattle.qic_base.specs.declared.tape.SectorView.{SectorView}

-- ---- where no sector is wrong

-- the same views, as those of a cartridge that is not mended yet
all_same : (looked : List Looked) (c d : Cartridge) → d.info ≡ c.info → ((s i : ℕ) → i < 32 → view_at d s i ≡ view_at c s i) →
    IsBeingMended looked c d
all_same looked c d info same = record { info = info; each = λ s i h. inl (same s i h) }

abbrev NoneWrong : (depth : Depth) (c : Cartridge) (looked : List Looked) → Type 0
NoneWrong depth c looked = (s i : ℕ) → IsFoundWrong depth c looked s i → ⊥

seen_none : (depth : Depth) (c e : Cartridge) (looked : List Looked) (fs : List Finding) → NoneWrong depth c looked →
    IsSeen depth c e looked fs → (s i : ℕ) → i < 32 →
    view_at e s i ≡ view_at c s i
seen_none depth c e looked fs none seen s i h =
    elim (seen.each s i h) [
      | inl same ↦ same
      | inr lost ↦ absurd (none s i lost.found)
    ]

behind_none : (c e d y : Cartridge) → ((s i : ℕ) → i < 32 → view_at e s i ≡ view_at c s i) → IsBehind c e d y → (s i : ℕ) → i < 32 →
    view_at d s i ≡ view_at y s i
behind_none c e d y same behind s i h =
    elim (behind.each s i h) [
      | inl is ↦ is
      | inr kept ↦ kept.0 ∙ sym (same s i h) ∙ sym kept.1
    ]

-- ---- where one of the second header copy is

module _ (depth : Depth) (c e : Cartridge) (plain : Plain) (fs : List Finding) (stood : Stands c plain)
    (seen : IsSeen depth c e (looked_at plain.words (entries_of plain)) fs) where
  -- the other segments are as they were
  seen_beside : (s i : ℕ) → i < 32 → (s ≡ 1 → ⊥) → view_at e s i ≡ view_at c s i
  seen_beside s i h other =
      elim (seen.each s i h) [
        | inl same ↦ same
        | inr lost ↦
            let second : lost.found.at ≡ whole_segment 1 = standing_wrong depth c plain s i stood lost.found in
            absurd (other (sym lost.found.here ∙ ap (λ (l : Looked). l.segment) second))
      ]

  reads_beside : CopyReads c 0 plain.header_area → CopyReads e 0 plain.header_area
  reads_beside first = record {
    says = subst (λ (cells : List SectorView). Says cells (Data plain.header_area))
        (sym (same_cells c e 0 (whole_segment 0).mask (λ i h. seen_beside 0 i h (λ is. omega arith)))) first.says;
    signature = first.signature;
  }

  pub seen_stands_beside : CopyReads c 0 plain.header_area → Stands e plain
  seen_stands_beside first =
      beside_stands c e plain stood (record {
        info = seen.info;
        no_more = λ s i bytes h other view. sym (seen_beside s i h other) ∙ view;
        table = λ i h. seen_beside 2 i h (λ is. omega arith);
        first = reads_beside first;
      })

  -- where the second copy is the one in force no sector is wrong
  pub second_none : CopyReads c 1 plain.header_area → NoneWrong depth c (looked_at plain.words (entries_of plain))
  second_none second s i found =
      let at : found.at ≡ whole_segment 1 = standing_wrong depth c plain s i stood found in
      let wrong : IsWrong c (whole_segment 1) i found.sectors = subst (λ (l : Looked). IsWrong c l i found.sectors) at found.wrong in
      let both : Data plain.header_area ≡ Mismatch = says_is_function (cells_at c (whole_segment 1))
      (Data plain.header_area) Mismatch second.says wrong.mismatch in
      absurd (cc)

  -- what a stop leaves
  left_stands : (d : Cartridge) → Rise (looked_at plain.words (entries_of plain)) →
      IsLeft (looked_at plain.words (entries_of plain)) c e d →
      IsInForce c plain.header_area → Stands d plain
  left_stands d rise left (inl first) =
      let looked : List Looked = looked_at plain.words (entries_of plain) in
      let y : Cartridge = left.other in
      let front = looks_in_front plain.words (entries_of plain) rise in
      let same : (s i : ℕ) → i < 32 → (s ≡ 1 → ⊥) → view_at d s i ≡ view_at y s i =
      λ s i h other. elim (left.behind.each s i h) [
        | inl is ↦ is
        | inr kept ↦ kept.0 ∙ sym (seen_beside s i h other) ∙ sym kept.1
      ] in
      let reads : CopyReads y 0 plain.header_area = copy_reads looked e y 0 plain.header_area rise front.first left.way
      (reads_beside first) in
      beside_stands y d plain (mending_stands e y plain rise (seen_stands_beside first) left.way) (record {
        info = left.behind.info.0 ∙ sym (left.behind.info.1 ∙ seen.info);
        no_more = λ s i bytes h other view. sym (same s i h other) ∙ view;
        table = λ i h. same 2 i h (λ is. omega arith);
        first = record {
          says = subst (λ (cells : List SectorView). Says cells (Data plain.header_area))
              (sym (same_cells y d 0 (whole_segment 0).mask (λ i h. same 0 i h (λ is. omega arith)))) reads.says;
          signature = reads.signature;
        };
      })
  left_stands d rise left (inr second) =
      let looked : List Looked = looked_at plain.words (entries_of plain) in
      let y : Cartridge = left.other in
      let same = seen_none depth c e looked fs (second_none second.1) seen in
      let e_stands : Stands e plain = mending_stands c e plain rise stood (all_same looked c e seen.info same) in
      mending_stands y d plain rise (mending_stands e y plain rise e_stands left.way)
      (all_same looked y d (left.behind.info.0 ∙ sym (left.behind.info.1 ∙ seen.info)) (behind_none c e d y same left.behind))

pub stopped_form_stands : StoppedFormStands
stopped_form_stands depth c plain acts left stood scrubs torn =
    let looked : List Looked = looked_at plain.words (entries_of plain) in
    let fs : List Finding = scrubs.findings in
    let run = as_seen depth c plain.words (entries_of plain) (last_segment c) acts (in_order c plain stood) scrubs in
    some_weaker left (λ d is. left_stands depth c (without_all c looked fs) plain fs stood run.seen d run.rise is stood.header.in_force)
    (stopped_left depth c plain.words (entries_of plain) acts fs left run torn)

pub done_form_stands : DoneFormStands
done_form_stands depth c plain acts stood scrubs =
    subst (λ (o : Option Cartridge). IsSomeAnd o (λ d. Stands d plain)) (effects-some (steps_of acts) c)
    (stopped_form_stands depth c plain acts (effects (steps_of acts) (Some c)) stood scrubs (Torn-all (steps_of acts) (Some c)))

-- ---- header copies

clean_not_wrong : (c : Cartridge) (plain : Plain) (sector : ℕ) (ds : List (List ℕ)) → IsArea plain.header_area →
    IsCleanCopy c 1 plain.header_area →
    IsWrong c (whole_segment 1) sector ds → ⊥
clean_not_wrong c plain sector ds is_area (inl written) wrong =
    written_not_wrong c (whole_segment 1) plain.header_area sector ds is_area.sectors written wrong
clean_not_wrong c plain sector ds is_area (inr zeros) wrong = zero_not_wrong c 1 sector ds zeros wrong

pub stopped_form_is_clean : StoppedFormIsClean
stopped_form_is_clean depth c plain acts left clean scrubs torn =
    let looked : List Looked = looked_at plain.words (entries_of plain) in
    let fs : List Finding = scrubs.findings in
    let e : Cartridge = without_all c looked fs in
    let run = as_seen depth c plain.words (entries_of plain) (last_segment c) acts (in_order c plain clean.stands) scrubs in
    let none : NoneWrong depth c looked =
    λ s i found. clean_not_wrong c plain i found.sectors clean.stands.whole.header_area clean.copies.second
    (subst (λ (l : Looked). IsWrong c l i found.sectors) (standing_wrong depth c plain s i clean.stands found) found.wrong) in
    let same = seen_none depth c e looked fs none run.seen in
    some_weaker left (λ d is.
    mending_is_clean is.other d plain run.rise
    (mending_is_clean e is.other plain run.rise (mending_is_clean c e plain run.rise clean (all_same looked c e run.seen.info same)) is.way)
    (all_same looked is.other d (is.behind.info.0 ∙ sym (is.behind.info.1 ∙ run.seen.info)) (behind_none c e d is.other same is.behind)))
    (stopped_left depth c plain.words (entries_of plain) acts fs left run torn)

pub done_form_is_clean : DoneFormIsClean
done_form_is_clean depth c plain acts clean scrubs =
    subst (λ (o : Option Cartridge). IsSomeAnd o (λ d. StandsCleanly d plain)) (effects-some (steps_of acts) c)
    (stopped_form_is_clean depth c plain acts (effects (steps_of acts) (Some c)) clean scrubs (Torn-all (steps_of acts) (Some c)))
