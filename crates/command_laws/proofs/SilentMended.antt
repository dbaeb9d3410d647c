-- A deep scrub mends the sectors that silently hold other bytes: what differs from a cartridge that stands in such ones alone
-- stands behind it, and is mounted as that one before it.
use Rattle.std.proofs.Common.{◌≡◌, ◌⊎◌, ℕ, inl, inr, List, ◌∷◌, refl, ◌+◌, ◌-◌, ◌*◌, ◌<◌, ◌≤◌, arith, sym, ◌∙◌, subst, ap, length}
use Rattle.std.proofs.Common.{slice_get, Contains, Option, Some, None, Bool, true, cond}
use Rattle.std.proofs.lemmas.Bool.{cases_eq, lt-ltb, le-ltb}
use Rattle.std.proofs.lemmas.List.{length-append}
use Rattle.std.proofs.lemmas.List.Elements.{All-contains}
use Rattle.cartridge_laws.proofs.Cells.{one_agreeing_block}
use Rattle.cartridge_laws.proofs.ChangeViews.{held_before, worn_reads_no_more}
use Rattle.cartridge_laws.proofs.FormatCopies.{written_reads}
use Rattle.cartridge_laws.proofs.FormatStanding.{same_cells, signature_in_force}
use Rattle.cartridge_laws.proofs.Places.{count_below, usable_small}
use Rattle.cartridge_laws.proofs.Sayings.{says_is_function, written_is_said}
use Rattle.cartridge_laws.proofs.Segments.{count_of_cells, count_of_whole}
use Rattle.cartridge_spec.specs.Code.{parity_sectors, IsCodeBlock}
use Rattle.cartridge_spec.specs.Header.{has_signature, header_fault}
use Rattle.cartridge_spec.specs.HeaderCopies.{CopyReads, copy_cells, last_segment}
use Rattle.cartridge_spec.specs.TableSegment.{TableIs}
use Rattle.cartridge_laws.specs.HeaderTerms.{IsInForce}
use Rattle.cartridge_spec.specs.Says.{Saying, Says, Data, Mismatch, TableSays, AsRead, ByCode, Written, with_parity, unreadable_count}
use Rattle.cartridge_spec.specs.Says.{Agrees, HasNoBlock}
use Rattle.cartridge_spec.specs.Settling.{changed_by}
use Rattle.cartridge_spec.specs.Shape.{usable_count}
use Rattle.cartridge_spec.specs.Table.{slot_fault}
use Rattle.cartridge_spec.specs.Volumes.{Plain, Stands, entries_of, worn}
use Rattle.command_laws.proofs.ScrubApart.{contains_cases, contains_first, one_looked, looked_rise}
use Rattle.command_laws.proofs.ScrubBeside.{beside_stands, written_before, written_not_wrong, not_the_table, HasWritten, volumes_written}
use Rattle.command_laws.proofs.ScrubForms.{as_seen, mended_as_seen}
use Rattle.command_laws.proofs.ScrubMounted.{in_order}
use Rattle.command_laws.proofs.ScrubOneWrong.{IsPlace, wrong_place, worn_count, finds_one}
use Rattle.command_laws.proofs.ScrubSeen.{IsSeen, found_of, worn_here, worn_elsewhere}
use Rattle.command_laws.proofs.ScrubStanding.{mending_stands}
use Rattle.cartridge_laws.proofs.Writing.{cell_at}
use Rattle.command_laws.specs.DeepScrubLaws.{SilentSectorsAreMended, SilentSectorsAreMounted}
use Rattle.command_laws.specs.ScrubFound.{FindAtOnce, without_all}
use Rattle.command_laws.specs.ScrubSayings.{Rise}
use Rattle.command_laws.specs.SilentSectors.{IsSameIn, HasOneSilent, IsSilentIn, HasCopy, DiffersSilently}
use Rattle.command_spec.specs.Scrub.{Looked, cells_at, reads, looked_at, looked_volumes, whole_segment, Finding, IsWrong, HasFound, without}
use Rattle.command_spec.specs.declared.depth.Depth.TheVariants.{Deep}
use Rattle.gf256_qic.proofs.Parities.{parity_block, length-parity_sectors}
use Rattle.qic_base.specs.Acts.{steps_of}
use Rattle.qic_base.specs.Cartridge.{Cartridge, view_at}
use Rattle.qic_base.specs.declared.tape.SectorView.{SectorView}
use Rattle.qic_base.specs.declared.tape.SectorView.TheVariants.{Lost, Holds}
use Rattle.qic_base.specs.declared.tape.TapeInfo.{TapeInfo}
use Rattle.cartridge_laws.proofs.FormatWriting.{worn_holds}

-- ---- one segment

-- the segment was written with data that read
record IsKnown (k : Cartridge) (l : Looked) : Type 0 where
  has : HasWritten k l
  can : reads l (Data has.xs) ≡ true

-- what can be read with the sector worn is as it was
worn_before : (k c : Cartridge) (l : Looked) → (one : HasOneSilent k c l) → (j : ℕ) (held : List ℕ) → j < 32 →
    view_at (worn l.segment one.sector c) l.segment j ≡ Holds held → view_at k l.segment j ≡ Holds held
worn_before k c l one j held h view =
    let d : Cartridge = worn l.segment one.sector c in
    let small : one.sector < 32 = subst (λ (i : ℕ). i < 32) one.index (usable_small l.mask one.place one.within) in
    elim (cases_eq j one.sector) [
      | inl same ↦
          absurd (worn_holds (view_at c l.segment one.sector) held
          (sym (worn_here c l.segment one.sector) ∙ subst (λ (i : ℕ). view_at d l.segment i ≡ Holds held) same view))
      | inr apart ↦
          sym (one.others j h apart) ∙ sym (worn_elsewhere c l.segment one.sector l.segment j small h (λ here e. apart (sym e))) ∙ view
    ]

held_at : (c : Cartridge) (l : Looked) (place sector : ℕ) (bytes : List ℕ) → IsPlace l place sector →
    view_at c l.segment sector ≡ Holds bytes →
    slice_get (cells_at c l) place ≡ Some (Holds bytes)
held_at c l place sector bytes is view =
    cell_at c l.segment l.mask place is.within ∙ ap (λ (i : ℕ). Some (view_at c l.segment i)) is.index
    ∙ ap (λ (v : SectorView). Some v) view

-- such a sector is the wrong one
silent_wrong : (k c : Cartridge) (l : Looked) → (known : IsKnown k l) → (one : HasOneSilent k c l) → IsWrong c l one.sector known.has.xs
silent_wrong k c l known one =
    let d : Cartridge = worn l.segment one.sector c in
    let xs : List (List ℕ) = known.has.xs in
    let is : IsPlace l one.place one.sector = record { within = one.within; index = one.index } in
    let written : Written (cells_at k l) xs = known.has.written in
    let less : Written (cells_at d l) xs = written_before k d l.segment l.mask xs (worn_before k c l one) written in
    let carries : 4 ≤ usable_count l.mask = known.has.carries in
    let most : usable_count l.mask ≤ 32 = count_below l.mask 32 in
    let cells : length (cells_at k l) ≡ usable_count l.mask = count_of_cells k l.segment l.mask in
    let whole : length (with_parity xs) ≡ length (cells_at k l) = written.size in
    let parts : length (with_parity xs) ≡ length xs + length (parity_sectors xs) = length-append xs (parity_sectors xs) in
    let three : length (parity_sectors xs) ≡ 3 = length-parity_sectors xs in
    let count : unreadable_count (cells_at d l) ≤ unreadable_count (cells_at c l) + 1 = worn_count c l one.place one.sector is in
    let one_few : unreadable_count (cells_at c l) ≤ 1 = one.few in
    let few : unreadable_count (cells_at d l) ≤ 3 = omega arith in
    let code : IsCodeBlock (with_parity xs) = parity_block xs (omega arith) (omega arith) known.has.are in
    let said : Says (cells_at d l) (Data xs) = written_is_said (cells_at d l) xs (omega arith) (omega arith) known.has.are less few in
    let none : HasNoBlock (cells_at c l) = λ block block_code agrees.
    let agrees_less : Agrees (cells_at d l) block = record {
      size = agrees.size ∙ count_of_cells c l.segment l.mask ∙ sym (count_of_cells d l.segment l.mask);
      each = λ i bytes at. agrees.each i bytes (held_before c d l.segment l.mask i bytes (worn_reads_no_more c l.segment one.sector) at);
    } in
    let same : block ≡ with_parity xs = one_agreeing_block (cells_at d l) block (with_parity xs) block_code code agrees_less less few in
    let here : slice_get block one.place ≡ Some one.wrong = agrees.each one.place one.wrong
    (held_at c l one.place one.sector one.wrong is one.is) in
    let there : slice_get (with_parity xs) one.place ≡ Some one.right =
    written.each one.place one.right (held_at k l one.place one.sector one.right is one.was) in
    let both : Some one.wrong ≡ Some one.right = sym here ∙ ap (λ (b : List (List ℕ)). slice_get b one.place) same ∙ there in
    one.differs (cc) in
    record {
      place = one.place;
      within = one.within;
      index = one.index;
      mismatch = (omega arith, none);
      few = one.few;
      says = said;
      can_be_read = known.can;
    }

-- ---- the segments of a cartridge that stands

-- each one but that of the second header copy, and the table's, is known
looked_known : (k : Cartridge) (plain : Plain) (l : Looked) → Stands k plain → Rise (looked_at plain.words (entries_of plain)) →
    Written (copy_cells k 0) plain.header_area → Contains (looked_at plain.words (entries_of plain)) l → (l.segment ≡ 1 → ⊥) →
    (l.segment ≡ 2 → ⊥) →
    IsKnown k l
looked_known k plain l stood rise first among not_second not_table =
    let rest : List Looked = looked_volumes plain.words (entries_of plain) in
    elim (contains_cases (whole_segment 0) l (whole_segment 1 ∷ whole_segment 2 ∷ rest) among) [
      | inl is ↦ subst (IsKnown k) is (record {
        has = record {
          xs = plain.header_area;
          are = stood.whole.header_area.sectors;
          written = first;
          carries = omega (arith, count_of_whole);
        };
        can = ap (λ (b : Bool). cond b (has_signature plain.header_area) true) (lt-ltb 0 2 (omega arith))
            ∙ signature_in_force k plain.header_area stood.header.in_force;
      })
      | inr behind ↦ elim (contains_cases (whole_segment 1) l (whole_segment 2 ∷ rest) behind) [
        | inl is ↦ absurd (not_second (sym (ap (λ (m : Looked). m.segment) is)))
        | inr later ↦ elim (contains_cases (whole_segment 2) l rest later) [
          | inl is ↦ absurd (not_table (sym (ap (λ (m : Looked). m.segment) is)))
          | inr volume ↦
              let has = All-contains (HasWritten k) rest l (volumes_written k plain.words plain.volumes stood.whole.areas stood.volumes)
              volume in
              let past : 2 < l.segment = All-contains (λ (m : Looked). 2 < m.segment) rest l rise.1.1.0 volume in
              record {
                has = has;
                can = ap (λ (b : Bool). cond b (has_signature has.xs) true) (le-ltb l.segment 2 (omega arith));
              }
        ]
      ]
    ]

-- ---- with the wrong sectors lost

-- that of the first header copy can be read
first_few : (k c : Cartridge) (plain : Plain) (s : Saying) (w : Option ℕ) → Stands k plain → DiffersSilently k c plain →
    HasFound Deep c (whole_segment 0) s w → HasCopy k c plain →
    unreadable_count (cells_at (without w (whole_segment 0) c) (whole_segment 0)) ≤ 3
first_few k c plain s None stood silent found (inl first) = first.1
first_few k c plain s None stood silent found (inr second) = let few : unreadable_count (copy_cells c 0) ≤ 1 = second.3 in omega arith
first_few k c plain s (Some sector) stood silent found (inl first) =
    let written : Written (copy_cells c 0) plain.header_area =
    subst (λ (cells : List SectorView). Written cells plain.header_area)
    (sym (same_cells k c 0 (whole_segment 0).mask first.0)) silent.first in
    absurd (written_not_wrong c (whole_segment 0) plain.header_area sector found.1 stood.whole.header_area.sectors written found.3)
first_few k c plain s (Some sector) stood silent found (inr second) =
    let few : unreadable_count (copy_cells c 0) ≤ 1 = second.3 in
    let count : unreadable_count (cells_at (worn 0 sector c) (whole_segment 0)) ≤ unreadable_count (copy_cells c 0) + 1 =
    worn_count c (whole_segment 0) found.3.place sector (wrong_place found.3) in
    omega arith

module _ (k c e : Cartridge) (plain : Plain) (fs : List Finding) (stood : Stands k plain) (silent : DiffersSilently k c plain)
    (rise : Rise (looked_at plain.words (entries_of plain))) (found : FindAtOnce Deep c (looked_at plain.words (entries_of plain)) fs)
    (seen : IsSeen Deep c e (looked_at plain.words (entries_of plain)) fs) where
  -- a segment with a wrong sector is as it was with that sector worn
  silent_seen : (s i : ℕ) (bytes : List ℕ) → i < 32 → (s ≡ 1 → ⊥) → view_at e s i ≡ Holds bytes → IsSilentIn k c plain s →
      view_at k s i ≡ Holds bytes
  silent_seen s i bytes h other view one =
      let l : Looked = one.at in
      let known : IsKnown k l =
      looked_known k plain l stood rise silent.first one.among (λ is. other (sym one.here ∙ is))
      (λ is. one.not_table (sym one.here ∙ is)) in
      let of = found_of Deep c e (looked_at plain.words (entries_of plain)) fs l found seen.seen one.among in
      let wrong : Finding = record { saying = Data known.has.xs; wrong = Some one.one.sector } in
      let same : of.finding ≡ wrong =
      finds_one Deep c l of.finding wrong of.finds
      (λ is. one.not_table (sym one.here ∙ is), known.has.xs, refl, silent_wrong k c l known one.one) in
      let worn_seen : IsSameIn (worn l.segment one.one.sector c) e l.segment =
      subst (λ (f : Finding). IsSameIn (without f.wrong l c) e l.segment) same of.seen in
      subst (λ (t : ℕ). view_at k t i ≡ Holds bytes) one.here
      (worn_before k c l one.one i bytes h (sym (worn_seen i h) ∙ subst (λ (t : ℕ). view_at e t i ≡ Holds bytes) (sym one.here) view))

  no_more : (s i : ℕ) (bytes : List ℕ) → i < 32 → (s ≡ 1 → ⊥) → view_at e s i ≡ Holds bytes → view_at k s i ≡ Holds bytes
  no_more s i bytes h other view =
      elim (silent.each s) [
        | inr one ↦ silent_seen s i bytes h other view one
        | inl same ↦ elim (seen.each s i h) [
          | inl is ↦ sym (same i h) ∙ sym is ∙ view
          | inr lost ↦ let both : Lost ≡ Holds bytes = sym lost.lost ∙ view in absurd (cc)
        ]
      ]

  table_same : IsSameIn k e 2
  table_same i h =
      elim (silent.each 2) [
        | inr one ↦ absurd (one.not_table refl)
        | inl same ↦ elim (seen.each 2 i h) [
          | inl is ↦ is ∙ same i h
          | inr lost ↦ absurd (not_the_table Deep lost.found.at lost.found.searched lost.found.here)
        ]
      ]

  first_reads : CopyReads e 0 plain.header_area
  first_reads =
      let looked : List Looked = looked_at plain.words (entries_of plain) in
      let of =
      found_of Deep c e looked fs (whole_segment 0) found seen.seen
      (contains_first (whole_segment 0) (whole_segment 1 ∷ whole_segment 2 ∷ looked_volumes plain.words (entries_of plain))) in
      let cells : cells_at e (whole_segment 0) ≡ cells_at (without of.finding.wrong (whole_segment 0) c) (whole_segment 0) =
      same_cells (without of.finding.wrong (whole_segment 0) c) e 0 (whole_segment 0).mask of.seen in
      written_reads e 0 plain.header_area stood.whole.header_area (signature_in_force k plain.header_area stood.header.in_force)
      (written_before k e 0 (whole_segment 0).mask plain.header_area (λ j held h view. no_more 0 j held h (λ is. omega arith) view)
      silent.first)
      (subst (λ (xs : List SectorView). unreadable_count xs ≤ 3) (sym cells)
      (first_few k c plain of.finding.saying of.finding.wrong stood silent of.finds silent.copy))

  seen_stands : Stands e plain
  seen_stands =
      beside_stands k e plain stood (record {
        info = seen.info ∙ silent.info;
        no_more = no_more;
        table = table_same;
        first = first_reads;
      })

pub silent_sectors_are_mended : SilentSectorsAreMended
silent_sectors_are_mended k c plain acts stood silent scrubs =
    let looked : List Looked = looked_at plain.words (entries_of plain) in
    let run = as_seen Deep c plain.words (entries_of plain) (last_segment k) acts (in_order k plain stood) scrubs in
    let e : Cartridge = without_all c looked scrubs.findings in
    mending_stands e (changed_by (steps_of acts) c) plain run.rise
    (seen_stands k c e plain scrubs.findings stood silent run.rise run.found run.seen)
    (mended_as_seen Deep c plain.words (entries_of plain) acts scrubs.findings run)

-- ---- before the scrub

first_copy_reads : (k c : Cartridge) (plain : Plain) → Stands k plain → DiffersSilently k c plain → IsSameIn k c 0 →
    unreadable_count (copy_cells c 0) ≤ 3 → CopyReads c 0 plain.header_area
first_copy_reads k c plain stood silent same few =
    written_reads c 0 plain.header_area stood.whole.header_area (signature_in_force k plain.header_area stood.header.in_force)
    (subst (λ (cells : List SectorView). Written cells plain.header_area) (sym (same_cells k c 0 (whole_segment 0).mask same)) silent.first)
    few

silent_in_force : (k c : Cartridge) (plain : Plain) → Stands k plain → DiffersSilently k c plain →
    Rise (looked_at plain.words (entries_of plain)) →
    HasCopy k c plain → IsInForce c plain.header_area
silent_in_force k c plain stood silent rise (inl first) = inl (first_copy_reads k c plain stood silent first.0 first.1)
silent_in_force k c plain stood silent rise (inr second) =
    let few : unreadable_count (copy_cells c 0) ≤ 1 = second.3 in
    elim (silent.each 0) [
      | inl same ↦ inl (first_copy_reads k c plain stood silent same (omega arith))
      | inr one ↦
          let looked : List Looked = looked_at plain.words (entries_of plain) in
          let front : Contains looked (whole_segment 0) =
          contains_first (whole_segment 0) (whole_segment 1 ∷ whole_segment 2 ∷ looked_volumes plain.words (entries_of plain)) in
          let at : one.at ≡ whole_segment 0 = one_looked looked one.at (whole_segment 0) rise one.among front one.here in
          let silent_one : HasOneSilent k c (whole_segment 0) = subst (HasOneSilent k c) at one.one in
          let known : IsKnown k (whole_segment 0) = looked_known k plain (whole_segment 0) stood rise silent.first front (λ is. omega arith)
          (λ is. omega arith) in
          let wrong = silent_wrong k c (whole_segment 0) known silent_one in
          inr (
            λ area copy_reads.
                let both : Data area ≡ Mismatch = says_is_function (copy_cells c 0) (Data area) Mismatch copy_reads.says wrong.mismatch in
                absurd (cc),
            written_reads c 1 plain.header_area stood.whole.header_area (signature_in_force k plain.header_area stood.header.in_force)
                (subst (λ (cells : List SectorView). Written cells plain.header_area)
                (sym (same_cells k c 1 (whole_segment 1).mask second.0)) second.1) second.2,
          )
    ]

pub table_reads : (k c : Cartridge) (plain : Plain) (area : List (List ℕ)) → DiffersSilently k c plain → TableIs k area → TableIs c area
table_reads k c plain area silent reads =
    elim (silent.each 2) [
      | inr one ↦ absurd (one.not_table refl)
      | inl same ↦
          subst (λ (cells : List SectorView). TableSays cells (AsRead area) ⊎ TableSays cells (ByCode (Data area)))
          (sym (same_cells k c 2 (whole_segment 2).mask same)) reads
    ]

pub silent_sectors_are_mounted : SilentSectorsAreMounted
silent_sectors_are_mounted k c plain stood mounts silent =
    let rise = looked_rise plain.words (last_segment k) (entries_of plain) (in_order k plain stood) in
    record {
      area = plain.header_area;
      formatted = record {
        has_header = record {
          referenced = ap (λ (i : TapeInfo). i.referenced) silent.info ∙ stood.header.referenced;
          in_force = silent_in_force k c plain stood silent rise silent.copy;
        };
        sound = ap (λ (i : TapeInfo). header_fault plain.header_area i.segments_per_track) silent.info ∙ stood.sound_header;
        shown = stood.whole.shown;
      };
      reads = table_reads k c plain plain.table_area silent mounts.reads;
      sound = λ i h. ap (λ (info : TapeInfo). slot_fault plain.table_area (28 * info.segments_per_track - 1) i) silent.info
          ∙ stood.sound_table i h;
      shown = stood.shown;
    }
