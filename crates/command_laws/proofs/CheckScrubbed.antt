-- Where a check tells of each segment but the table's nothing but what a deep scrub mends, that makes the cartridge sound.
use Rattle.std.proofs.Common.{◌≡◌, ◌≢◌, ◌<◌, inl, inr, ℕ, List, ◌∷◌, refl, sym, ◌∙◌, ap, subst, Some}
use Rattle.std.proofs.Common.{All, Contains, arith, get_or, length}
use Rattle.std.proofs.lemmas.Bool.{cases_eq, false≢true}
use Rattle.std.proofs.lemmas.List.{take_all}
use Rattle.std.proofs.lemmas.List.Elements.{All-contains, All-contains_itself, All-weaker}
use Rattle.std.specs.Prelude.{◌-◌, ◌*◌}
use Rattle.cartridge_laws.proofs.Cells.{count_of_readable}
use Rattle.cartridge_laws.proofs.FormatWriting.{changed_by-append}
use Rattle.cartridge_laws.proofs.MountOnce.{mounts_is_function}
use Rattle.cartridge_laws.proofs.MountSettled.{settled_is_whole, settled_is_written, settled_keeps_table, settled_reads_plainly}
use Rattle.cartridge_laws.proofs.MountSettles.{settling_settles}
use Rattle.cartridge_laws.proofs.MountStanding.{said_area, written_table}
use Rattle.cartridge_laws.proofs.MountWhole.{settled_is_cartridge}
use Rattle.cartridge_laws.proofs.Places.{usable_small}
use Rattle.cartridge_laws.proofs.Sayings.{said_is_written, written_is_said}
use Rattle.cartridge_laws.proofs.Segments.{cells_are_views, cells_of_whole, count_of_whole, length-whole_cells}
use Rattle.cartridge_laws.proofs.TableSayings.{read_are_sectors}
use Rattle.cartridge_spec.specs.Header.{Header, header_fault}
use Rattle.cartridge_spec.specs.HeaderCopies.{CopyReads, last_segment}
use Rattle.cartridge_spec.specs.Mounting.{IsMounted, Mounted, Mounting, Mounts, settled}
use Rattle.cartridge_spec.specs.Says.{Data, Says, unreadable_count, whole_mask, with_parity}
use Rattle.cartridge_spec.specs.Settling.{changed_by, settling_steps}
use Rattle.cartridge_spec.specs.Shape.{IsArea, IsLive, sector_at, usable_places}
use Rattle.cartridge_spec.specs.Table.{Entry, slot_fault}
use Rattle.cartridge_spec.specs.TableSegment.{IsTableLive, TableIs, table_cells}
use Rattle.command_laws.proofs.CheckMended.{IsAllLive, IsReadAs, held_of, made_read, mendable_by, read_as_whole, said_mendable, same_header}
use Rattle.command_laws.proofs.CheckMended.{told_is_mendable}
use Rattle.command_laws.proofs.CheckSound.{read_whole_is_sound}
use Rattle.command_laws.proofs.CheckTable.{whole_place}
use Rattle.command_laws.proofs.ScrubAgain.{live_at}
use Rattle.command_laws.proofs.ScrubApart.{contains_first, contains_more, looked_rise, one_looked}
use Rattle.command_laws.proofs.ScrubForms.{as_seen, done_form_is_cartridge, mended_as_seen}
use Rattle.command_laws.proofs.ScrubMounted.{mounted_order}
use Rattle.command_laws.proofs.SilentRest.{mendable_same, settled_same}
use Rattle.command_laws.proofs.SilentWhole.{segments_are_made_whole}
use Rattle.command_laws.specs.CheckLaws.{DeepScrubMakesSound, IsOpenLive, IsToldMended}
use Rattle.command_laws.specs.CheckLaws.{AreToldMended}
use Rattle.command_laws.specs.Outcomes.{MendsDeep}
use Rattle.command_laws.specs.SilentSectors.{IsSameIn}
use Rattle.command_laws.specs.SilentSegments.{IsMendable}
use Rattle.command_spec.specs.Check.{IsTold}
use Rattle.command_spec.specs.Outcome.{CommandOutcome, Opened}
use Rattle.command_spec.specs.Scrub.{Looked, ScrubsAs, ScrubsBy, looked_at, looked_volumes, reads, whole_segment}
use Rattle.command_spec.specs.declared.depth.Depth.TheVariants.{Deep}
use Rattle.command_spec.specs.declared.verdict.Verdict.TheVariants.{Sound}
use Rattle.qic_base.specs.Acts.{Act, steps_of}
use Rattle.qic_base.specs.Cartridge.{Cartridge, view_at}
use Rattle.qic_base.specs.CartridgeTerms.{IsCartridge}
use Rattle.qic_base.specs.declared.tape.SectorView.{SectorView}
use Rattle.qic_base.specs.declared.tape.SectorView.TheVariants.{Holds}
use Rattle.qic_base.specs.declared.tape.TapeInfo.{TapeInfo}

-- ---- all segments

front_among : (words : List ℕ) (entries : List Entry) → Contains (looked_at words entries) (whole_segment 0)
front_among words entries = contains_first (whole_segment 0) (whole_segment 1 ∷ whole_segment 2 ∷ looked_volumes words entries)

table_among : (words : List ℕ) (entries : List Entry) → Contains (looked_at words entries) (whole_segment 2)
table_among words entries =
    let rest : List Looked = looked_volumes words entries in
    contains_more (whole_segment 0) (whole_segment 2) (whole_segment 1 ∷ whole_segment 2 ∷ rest)
    (contains_more (whole_segment 1) (whole_segment 2) (whole_segment 2 ∷ rest) (contains_first (whole_segment 2) rest))

module _ (c e : Cartridge) (header : Header) (words : List ℕ) (table : List (List ℕ)) (entries : List Entry) (acts : List Act)
    (mounted : IsMounted c header words table entries) (info : e.info ≡ c.info) (whole : IsCartridge e)
    (live : (l : Looked) → Contains (looked_at words entries) l → IsAllLive e l)
    (first : IsMendable e (whole_segment 0) mounted.area) (second : IsMendable e (whole_segment 2) table)
    (held : (l : Looked) → Contains (looked_at words entries) l → (xs : List (List ℕ)) × IsMendable e l xs)
    (scrubs : ScrubsAs Deep e words entries acts) where
  abbrev looked : List Looked
  looked = looked_at words entries

  abbrev d : Cartridge
  d = changed_by (steps_of acts) e

  read_behind : (l : Looked) (xs : List (List ℕ)) → Contains (looked_at words entries) l → IsMendable e l xs →
      IsReadAs (changed_by (steps_of acts) e) l xs
  read_behind l xs among mendable =
      made_read e d l xs (live l among) mendable
      (segments_are_made_whole e words entries (last_segment c) acts l xs (mounted_order c header words table entries mounted) scrubs among
      mendable)

  info_kept : d.info ≡ c.info
  info_kept =
      let run = as_seen Deep e words entries (last_segment c) acts (mounted_order c header words table entries mounted) scrubs in
      (mended_as_seen Deep e words entries acts scrubs.findings run).info ∙ run.seen.info ∙ info

  first_copy : CopyReads (changed_by (steps_of acts) e) 0 mounted.area
  first_copy =
      let read = read_behind (whole_segment 0) mounted.area (front_among words entries) first in
      record { says = read.says; signature = read.can_be_read }

  table_reads : TableIs (changed_by (steps_of acts) e) table
  table_reads =
      let read = read_behind (whole_segment 2) table (table_among words entries) second in
      let none : unreadable_count (table_cells d) ≡ 0 = read.each in
      written_table d table (said_area d table read.says) (said_is_written (table_cells d) table read.says) (inr (omega arith))

  mounts_behind : IsMounted (changed_by (steps_of acts) e) header words table entries
  mounts_behind = record {
    area = mounted.area;
    formatted = record {
      has_header = record {
        referenced = ap (λ (i : TapeInfo). i.referenced) info_kept ∙ mounted.formatted.has_header.referenced;
        in_force = inl first_copy;
      };
      sound = ap (λ (i : TapeInfo). header_fault mounted.area i.segments_per_track) info_kept ∙ mounted.formatted.sound;
      shown = mounted.formatted.shown;
    };
    reads = table_reads;
    sound = λ i h. ap (λ (info : TapeInfo). slot_fault table (28 * info.segments_per_track - 1) i) info_kept ∙ mounted.sound i h;
    shown = mounted.shown;
  }

  sound_behind : All (λ (l : Looked). IsTold (changed_by (steps_of acts) e) l Sound) (looked_at words entries)
  sound_behind =
      All-weaker (Contains looked) (λ (l : Looked). IsTold d l Sound) (λ l among.
      let mendable = held l among in
      read_whole_is_sound d l (done_form_is_cartridge Deep e words entries acts whole scrubs)
      (read_as_whole d l mendable.0 (read_behind l mendable.0 among mendable.1))) looked (All-contains_itself looked)

-- the first header copy is not the table's segment
apart : (segment : ℕ) → segment < 2 → segment ≢ 2
apart segment small same = omega arith

first_apart : (whole_segment 0).segment ≢ 2
first_apart = apart 0 (omega arith)

-- ---- the settled cartridge

module _ (c : Cartridge) (header : Header) (words : List ℕ) (table : List (List ℕ)) (entries : List Entry)
    (is : IsOpenLive c header words table entries) where
  abbrev e : Cartridge
  e = settled table c

  abbrev segments : List Looked
  segments = looked_at words entries

  settled_whole : IsCartridge (settled table c)
  settled_whole = settled_is_cartridge c table is.whole is.mounts.reads

  -- the table's segment is whole
  table_live : IsTableLive c
  table_live i h =
      subst (λ (k : ℕ). IsLive (view_at c 2 k)) (whole_place i h)
      (live_at c segments (whole_segment 2) i is.live (table_among words entries) (omega (arith, count_of_whole)))

  table_view : (i : ℕ) → i < 32 → view_at (settled table c) 2 i ≡ Holds (sector_at (with_parity table) i)
  table_view i h = settled_is_whole c table i is.mounts.reads is.unprotected table_live h

  table_area : IsArea table
  table_area =
      elim (settled_reads_plainly c table is.mounts.reads is.unprotected) [
        | inl reads ↦ record {
          size = reads.size;
          sectors = read_are_sectors (table_cells e) table (cells_are_views e 2 whole_mask settled_whole) reads;
        }
        | inr says ↦ said_area e table says
      ]

  table_none : unreadable_count (table_cells (settled table c)) ≡ 0
  table_none =
      let long : length (table_cells e) ≡ 32 = length-whole_cells e 2 in
      ap (λ (vs : List SectorView). unreadable_count vs) (sym (take_all 32 (table_cells e) (omega arith)))
      ∙ count_of_readable 32 (table_cells e) (λ i h. (
        sector_at (with_parity table) i,
        cells_of_whole e 2 i h ∙ ap (λ (v : SectorView). Some v) (table_view i h),
      ))

  table_says : Says (table_cells (settled table c)) (Data table)
  table_says =
      let size : length table ≡ 29 = table_area.size in
      written_is_said (table_cells e) table (omega arith) (omega arith) table_area.sectors
      (settled_is_written c table is.mounts.reads is.unprotected) (omega (arith, table_none))

  table_mendable : IsMendable (settled table c) (whole_segment 2) table
  table_mendable = said_mendable e (whole_segment 2) table table_says refl

  -- the others are as they were
  others_same : (l : Looked) → l.segment ≢ 2 → IsSameIn c (settled table c) l.segment
  others_same l other = settled_same c header words table entries l is.mounts other

  settled_live : (l : Looked) → Contains (looked_at words entries) l → IsAllLive (settled table c) l
  settled_live l among k h =
      let place : ℕ = get_or (usable_places l.mask) k 0 in
      let small : place < 32 = usable_small l.mask k h in
      elim (cases_eq l.segment 2) [
        | inl here ↦ subst IsLive (sym (ap (λ (s : ℕ). view_at e s place) here ∙ table_view place small)) tt
        | inr other ↦ subst IsLive (sym (others_same l other place small)) (live_at c segments l k is.live among h)
      ]

  settled_held : ((l : Looked) → Contains (looked_at words entries) l → l.segment ≢ 2 → IsToldMended c l) → (l : Looked) →
      Contains (looked_at words entries) l → (xs : List (List ℕ)) × IsMendable (settled table c) l xs
  settled_held told l among =
      elim (cases_eq l.segment 2) [
        | inl here ↦
            let rise = looked_rise words (last_segment c) entries (mounted_order c header words table entries is.mounts) in
            let same : l ≡ whole_segment 2 = one_looked segments l (whole_segment 2) rise among (table_among words entries) here in
            (table, subst (λ (m : Looked). IsMendable e m table) (sym same) table_mendable)
        | inr other ↦
            let mendable = told_is_mendable c l other (told l among other) in
            (mendable.0, mendable_same c e l mendable.0 (others_same l other) mendable.1)
      ]

  settled_first : IsToldMended c (whole_segment 0) → IsMendable (settled table c) (whole_segment 0) is.mounts.area
  settled_first told =
      let held = held_of c (whole_segment 0) told in
      subst (IsMendable e (whole_segment 0))
      (same_header c is.mounts.area held.sectors is.mounts.formatted.has_header is.one_header held.by)
      (mendable_same c e (whole_segment 0) held.sectors (others_same (whole_segment 0) first_apart)
      (mendable_by c (whole_segment 0) held.sectors first_apart held.by))

-- ---- the command

abbrev BecomesSound : (header : Header) → (words : List ℕ) → (table : List (List ℕ)) → List Entry → Cartridge → Type 0
BecomesSound header words table entries d =
    Mounts d (Mounted header words table entries) × All (λ l. IsTold d l Sound) (looked_at words entries)

sound_by_scrub : (c : Cartridge) (header : Header) (words : List ℕ) (table : List (List ℕ)) (entries : List Entry)
    (outcome : CommandOutcome) → IsOpenLive c header words table entries → AreToldMended c (looked_at words entries) →
    ScrubsBy Deep c header words table entries outcome →
    BecomesSound header words table entries (changed_by (steps_of outcome.acts) c)
sound_by_scrub c header words table entries outcome is told on =
    let e : Cartridge = settled table c in
    let each : (l : Looked) → Contains (looked_at words entries) l → l.segment ≢ 2 → IsToldMended c l =
    λ l among. All-contains (λ (m : Looked). m.segment ≢ 2 → IsToldMended c m) (looked_at words entries) l told among in
    let info = (settled_keeps_table c table is.mounts.reads).info in
    let whole = settled_whole c header words table entries is in
    let live = settled_live c header words table entries is in
    let first = settled_first c header words table entries is
    (each (whole_segment 0) (front_among words entries) first_apart) in
    let second = table_mendable c header words table entries is in
    let held = settled_held c header words table entries is each in
    let settles : changed_by (settling_steps table c) c ≡ settled table c = settling_settles c table is.mounts.reads in
    subst (λ (o : CommandOutcome). BecomesSound header words table entries (changed_by (steps_of o.acts) c)) (sym on.is)
    (subst (BecomesSound header words table entries)
    (sym (changed_by-append (settling_steps table c) (steps_of on.acts) c ∙ ap (changed_by (steps_of on.acts)) settles)) (
      mounts_behind c e header words table entries on.acts is.mounts info whole live first second held on.scrubs,
      sound_behind c e header words table entries on.acts is.mounts info whole live first second held on.scrubs,
    ))

pub deep_scrub_makes_sound : DeepScrubMakesSound
deep_scrub_makes_sound c header words table entries input outcome is told (inl locked) =
    absurd (false≢true (sym is.unprotected ∙ locked.0))
deep_scrub_makes_sound c header words table entries input outcome is told (inr (unlocked, (m, mounted, opened))) =
    let on : ScrubsBy Deep c header words table entries outcome =
    subst (λ (a : Mounting). Opened MendsDeep c a outcome)
    (mounts_is_function c m (Mounted header words table entries) mounted is.mounts) opened in
    let sound = sound_by_scrub c header words table entries outcome is told on in
    (ap (λ (o : CommandOutcome). o.status) on.is, sound.0, sound.1)
