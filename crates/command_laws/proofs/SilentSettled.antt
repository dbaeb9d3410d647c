-- The settling with which a deep scrub begins changes nothing where the table was settled, so a run of it mends silent sectors.
use Rattle.std.proofs.Common.{◌≡◌, ℕ, inl, inr, List, ◌<◌, ◌≤◌, refl, sym, ◌∙◌, subst, ap, Bool, cond, false}
use Rattle.std.proofs.lemmas.Bool.{cases_eq}
use Rattle.cartridge_laws.proofs.FormatStanding.{same_cells}
use Rattle.cartridge_laws.proofs.FormatWriting.{changed_by-append}
use Rattle.cartridge_laws.proofs.MountFar.{length-table_block}
use Rattle.cartridge_laws.proofs.MountSettled.{settled_keeps_table}
use Rattle.cartridge_laws.proofs.MountSettles.{settling_settles}
use Rattle.cartridge_laws.proofs.MountWriting.{IsAllWritten, all_written}
use Rattle.cartridge_laws.proofs.Places.{usable_small}
use Rattle.cartridge_laws.specs.AppendSettled.{IsSettledFor}
use Rattle.cartridge_spec.specs.TableSegment.{TableIs}
use Rattle.cartridge_spec.specs.Mounting.{settled}
use Rattle.cartridge_spec.specs.Says.{unreadable_count, with_parity, whole_mask}
use Rattle.cartridge_spec.specs.Settling.{changed_by, settling_steps, writes_of}
use Rattle.cartridge_spec.specs.Shape.{IsLive, sector_at, usable_places}
use Rattle.cartridge_spec.specs.Volumes.{Plain, Stands}
use Rattle.command_laws.proofs.SilentMended.{silent_sectors_are_mended, table_reads}
use Rattle.command_laws.specs.DeepScrubLaws.{SilentSectorsEnd}
use Rattle.command_laws.specs.SilentSectors.{HasOneSilent, HasCopy, DiffersSilently, IsSameIn}
use Rattle.command_spec.specs.Outcome.{CommandOutcome}
use Rattle.command_spec.specs.Scrub.{Looked, cells_at, whole_segment}
use Rattle.qic_base.specs.Acts.{steps_of}
use Rattle.qic_base.specs.Cartridge.{Cartridge, view_at}
use Rattle.qic_base.specs.Step.{written_view}
use Rattle.qic_base.specs.declared.tape.SectorView.{SectorView}
use Rattle.qic_base.specs.declared.tape.SectorView.TheVariants.{Blank, Defect, Lost, Holds}

-- ---- the same views

abbrev AllSame : (c e : Cartridge) → Type 0
AllSame c e = (segment : ℕ) → IsSameIn c e segment

count_same : (c e : Cartridge) (l : Looked) (n : ℕ) → AllSame c e → unreadable_count (cells_at c l) ≤ n →
    unreadable_count (cells_at e l) ≤ n
count_same c e l n same few =
    subst (λ (cells : List SectorView). unreadable_count cells ≤ n) (sym (same_cells c e l.segment l.mask (same l.segment))) few

silent_same : (k c e : Cartridge) (l : Looked) → AllSame c e → HasOneSilent k c l → HasOneSilent k e l
silent_same k c e l same one = record {
  place = one.place;
  within = one.within;
  sector = one.sector;
  index = one.index;
  right = one.right;
  was = one.was;
  wrong = one.wrong;
  is = same l.segment one.sector (subst (λ (i : ℕ). i < 32) one.index (usable_small l.mask one.place one.within)) ∙ one.is;
  differs = one.differs;
  others = λ i h apart. same l.segment i h ∙ one.others i h apart;
  few = count_same c e l 1 same one.few;
}

copy_same : (k c e : Cartridge) (plain : Plain) → AllSame c e → HasCopy k c plain → HasCopy k e plain
copy_same k c e plain same (inl first) = inl (λ i h. same 0 i h ∙ first.0 i h, count_same c e (whole_segment 0) 3 same first.1)
copy_same k c e plain same (inr second) = inr (
  λ i h. same 1 i h ∙ second.0 i h,
  second.1,
  count_same c e (whole_segment 1) 3 same second.2,
  count_same c e (whole_segment 0) 1 same second.3,
)

differs_same : (k c e : Cartridge) (plain : Plain) → e.info ≡ c.info → AllSame c e → DiffersSilently k c plain → DiffersSilently k e plain
differs_same k c e plain info same silent = record {
  info = info ∙ silent.info;
  each = λ segment. elim (silent.each segment) [
    | inl is ↦ inl (λ i h. same segment i h ∙ is i h)
    | inr one ↦ inr (record {
      at = one.at;
      among = one.among;
      here = one.here;
      not_table = one.not_table;
      one = silent_same k c e one.at same one.one;
    })
  ];
  first = silent.first;
  copy = copy_same k c e plain same silent.copy;
}

-- ---- the settled table

settled_view : (part : List ℕ) (view : SectorView) → (IsLive view → view ≡ Holds part) → written_view part view ≡ view
settled_view part Blank holds = refl
settled_view part Defect holds = refl
settled_view part Lost holds = let both : Lost ≡ Holds part = holds tt in absurd (cc)
settled_view part (Holds old) holds = sym (holds tt)

table_same : (k c : Cartridge) (plain : Plain) → DiffersSilently k c plain → IsSameIn k c 2
table_same k c plain silent =
    elim (silent.each 2) [
      | inl same ↦ same
      | inr one ↦ absurd (one.not_table refl)
    ]

settling_same : (k c : Cartridge) (plain : Plain) → IsSettledFor k plain.table_area → DiffersSilently k c plain →
    TableIs c plain.table_area →
    c.info.protected ≡ false → AllSame c (settled plain.table_area c)
settling_same k c plain known silent reads unprotected segment i h =
    let area : List (List ℕ) = plain.table_area in
    let same : IsSameIn k c 2 = table_same k c plain silent in
    let all : Cartridge = changed_by (writes_of 2 (usable_places whole_mask) (with_parity area)) c in
    let written : IsAllWritten (with_parity area) c (settled area c) =
    subst (IsAllWritten (with_parity area) c) (sym (ap (λ (b : Bool). cond b c all) unprotected))
    (all_written (with_parity area) c (length-table_block c area reads)) in
    elim (cases_eq segment 2) [
      | inl is ↦
          subst (λ (s : ℕ). view_at (settled area c) s i ≡ view_at c s i) (sym is)
          (written.table i h
          ∙ settled_view (sector_at (with_parity area) i) (view_at c 2 i)
          (λ live. same i h ∙ known.live i h (subst IsLive (same i h) live)))
      | inr other ↦ (settled_keeps_table c area reads).others segment i h other
    ]

pub silent_sectors_end : SilentSectorsEnd
silent_sectors_end k c plain outcome stood known unprotected silent on =
    let area : List (List ℕ) = plain.table_area in
    let e : Cartridge = settled area c in
    let reads : TableIs c area = table_reads k c plain area silent known.table in
    let settles : changed_by (settling_steps area c) c ≡ e = settling_settles c area reads in
    let differs : DiffersSilently k e plain =
    differs_same k c e plain (settled_keeps_table c area reads).info (settling_same k c plain known silent reads unprotected) silent in
    subst (λ (o : CommandOutcome). Stands (changed_by (steps_of o.acts) c) plain) (sym on.is)
    (subst (λ (d : Cartridge). Stands d plain)
    (sym (changed_by-append (settling_steps area c) (steps_of on.acts) c ∙ ap (changed_by (steps_of on.acts)) settles))
    (silent_sectors_are_mended k e plain on.acts stood differs on.scrubs))
