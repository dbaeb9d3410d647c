-- What a scrub leaves, done or stopped, stands for what stood, is mounted as it was, and its table reads the same.
use Rattle.std.proofs.Common.{ℕ, ◌<◌, inl, inr, List, Contains, arith, ◌-◌, ◌*◌, ap, ◌∙◌}
use Rattle.cartridge_laws.proofs.AppendVolume.{old_order}
use Rattle.cartridge_laws.proofs.FormatWriting.{some_weaker}
use Rattle.cartridge_laws.proofs.TableOrders.{faultless_is_sound}
use Rattle.cartridge_laws.specs.Table.{IsSoundList}
use Rattle.cartridge_spec.specs.Formatting.{StandsCleanly}
use Rattle.cartridge_laws.specs.HeaderTerms.{IsCleanCopy}
use Rattle.cartridge_spec.specs.Header.{Header, header_fault}
use Rattle.cartridge_spec.specs.HeaderCopies.{last_segment}
use Rattle.cartridge_spec.specs.Shape.{IsArea}
use Rattle.cartridge_spec.specs.Mounting.{IsMounted}
use Rattle.cartridge_spec.specs.Settling.{changed_by}
use Rattle.cartridge_spec.specs.Table.{Entry, slot_fault}
use Rattle.cartridge_spec.specs.Volumes.{Plain, Stands, entries_of}
use Rattle.command_laws.proofs.ScrubApart.{looked_rise}
use Rattle.command_laws.proofs.ScrubDone.{done_being_mended}
use Rattle.command_laws.proofs.ScrubMending.{stopped_scrub}
use Rattle.command_laws.proofs.ScrubStanding.{mending_stands, written_kept, zero_kept, looks_in_front, in_force, table_kept}
use Rattle.command_laws.specs.ScrubLaws.{DoneScrubStands, StoppedScrubStands, DoneScrubIsClean, StoppedScrubIsClean, DoneScrubMounts}
use Rattle.command_laws.specs.ScrubLaws.{StoppedScrubMounts, DoneScrubTable, StoppedScrubTable}
use Rattle.command_laws.specs.ScrubMended.{IsBeingMended}
use Rattle.command_laws.specs.ScrubSayings.{Rise}
use Rattle.command_spec.specs.Scrub.{Looked, whole_segment, looked_at}
use Rattle.qic_base.specs.Acts.{steps_of}
use Rattle.qic_base.specs.Cartridge.{Cartridge}
use Rattle.qic_base.specs.declared.tape.TapeInfo.{TapeInfo}

pub in_order : (c : Cartridge) (plain : Plain) → Stands c plain → IsSoundList (last_segment c) (entries_of plain)
in_order c plain stood = old_order c plain stood

-- ---- what stood

pub done_scrub_stands : DoneScrubStands
done_scrub_stands c plain acts stood scrubs =
    let order = in_order c plain stood in
    mending_stands c (changed_by (steps_of acts) c) plain (looked_rise plain.words (last_segment c) (entries_of plain) order) stood
    (done_being_mended c plain.words (entries_of plain) (last_segment c) acts order scrubs)

pub stopped_scrub_stands : StoppedScrubStands
stopped_scrub_stands c plain acts left stood scrubs torn =
    let order = in_order c plain stood in
    some_weaker left (λ d. mending_stands c d plain (looked_rise plain.words (last_segment c) (entries_of plain) order) stood)
    (stopped_scrub c plain.words (entries_of plain) (last_segment c) acts left order scrubs torn)

-- ---- header copies

pub clean_copy : (looked : List Looked) (c d : Cartridge) (copy : ℕ) (area : List (List ℕ)) → copy < 2 → Rise looked →
    Contains looked (whole_segment copy) →
    IsBeingMended looked c d → IsArea area → IsCleanCopy c copy area → IsCleanCopy d copy area
clean_copy looked c d copy area small rise among way is_area (inl written) =
    inl (written_kept looked c d (whole_segment copy) area rise among is_area.sectors way written)
clean_copy looked c d copy area small rise among way is_area (inr zeros) = inr (zero_kept looked c d copy small rise among way zeros)

pub mending_is_clean : (c d : Cartridge) (plain : Plain) → Rise (looked_at plain.words (entries_of plain)) → StandsCleanly c plain →
    IsBeingMended (looked_at plain.words (entries_of plain)) c d → StandsCleanly d plain
mending_is_clean c d plain rise clean way =
    let looked : List Looked = looked_at plain.words (entries_of plain) in
    let front = looks_in_front plain.words (entries_of plain) rise in
    let is_area : IsArea plain.header_area = clean.stands.whole.header_area in
    record {
      stands = mending_stands c d plain rise clean.stands way;
      copies = record {
        first = clean_copy looked c d 0 plain.header_area (omega arith) rise front.first way is_area clean.copies.first;
        second = clean_copy looked c d 1 plain.header_area (omega arith) rise front.second way is_area clean.copies.second;
      };
    }

pub done_scrub_is_clean : DoneScrubIsClean
done_scrub_is_clean c plain acts clean scrubs =
    let order = in_order c plain clean.stands in
    mending_is_clean c (changed_by (steps_of acts) c) plain (looked_rise plain.words (last_segment c) (entries_of plain) order) clean
    (done_being_mended c plain.words (entries_of plain) (last_segment c) acts order scrubs)

pub stopped_scrub_is_clean : StoppedScrubIsClean
stopped_scrub_is_clean c plain acts left clean scrubs torn =
    let order = in_order c plain clean.stands in
    some_weaker left (λ d. mending_is_clean c d plain (looked_rise plain.words (last_segment c) (entries_of plain) order) clean)
    (stopped_scrub c plain.words (entries_of plain) (last_segment c) acts left order scrubs torn)

-- ---- mounting

pub mounted_order : (c : Cartridge) (header : Header) (words : List ℕ) (area : List (List ℕ)) (entries : List Entry) →
    IsMounted c header words area entries →
    IsSoundList (last_segment c) entries
mounted_order c header words area entries mounted = faultless_is_sound area (last_segment c) entries mounted.sound mounted.shown

mending_mounts : (c d : Cartridge) (header : Header) (words : List ℕ) (area : List (List ℕ)) (entries : List Entry) →
    Rise (looked_at words entries) →
    IsMounted c header words area entries → IsBeingMended (looked_at words entries) c d → IsMounted d header words area entries
mending_mounts c d header words area entries rise mounted way =
    let looked : List Looked = looked_at words entries in
    let front = looks_in_front words entries rise in
    record {
      area = mounted.area;
      formatted = record {
        has_header = record {
          referenced = ap (λ (i : TapeInfo). i.referenced) way.info ∙ mounted.formatted.has_header.referenced;
          in_force = in_force looked c d mounted.area front way mounted.formatted.has_header.in_force;
        };
        sound = ap (λ (i : TapeInfo). header_fault mounted.area i.segments_per_track) way.info ∙ mounted.formatted.sound;
        shown = mounted.formatted.shown;
      };
      reads = table_kept looked c d area front way mounted.reads;
      sound = λ i h. ap (λ (info : TapeInfo). slot_fault area (28 * info.segments_per_track - 1) i) way.info ∙ mounted.sound i h;
      shown = mounted.shown;
    }

pub done_scrub_mounts : DoneScrubMounts
done_scrub_mounts c header words area entries acts mounted scrubs =
    let order = mounted_order c header words area entries mounted in
    mending_mounts c (changed_by (steps_of acts) c) header words area entries (looked_rise words (last_segment c) entries order) mounted
    (done_being_mended c words entries (last_segment c) acts order scrubs)

pub stopped_scrub_mounts : StoppedScrubMounts
stopped_scrub_mounts c header words area entries acts left mounted scrubs torn =
    let order = mounted_order c header words area entries mounted in
    some_weaker left (λ d. mending_mounts c d header words area entries (looked_rise words (last_segment c) entries order) mounted)
    (stopped_scrub c words entries (last_segment c) acts left order scrubs torn)

-- ---- the table

pub done_scrub_table : DoneScrubTable
done_scrub_table c words entries last acts area order scrubs table =
    table_kept (looked_at words entries) c (changed_by (steps_of acts) c) area
    (looks_in_front words entries (looked_rise words last entries order))
    (done_being_mended c words entries last acts order scrubs) table

pub stopped_scrub_table : StoppedScrubTable
stopped_scrub_table c words entries last acts area left order scrubs table torn =
    some_weaker left (λ d way. table_kept (looked_at words entries) c d area
    (looks_in_front words entries (looked_rise words last entries order)) way table)
    (stopped_scrub c words entries last acts left order scrubs torn)
