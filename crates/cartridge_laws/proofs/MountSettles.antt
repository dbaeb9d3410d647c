-- All writes that settle a table leave its whole segment written.
use Rattle.std.proofs.Common.{◌≡◌, ℕ, refl, List, ◌<◌, inl, inr, sym, ◌∙◌, ap, subst, ◌∷◌, ◌+◌, ◌*◌, [], false, Bool, true}
use Rattle.std.proofs.lemmas.Bool.{cases_eq, cases_lt, true≢false}
use Rattle.std.proofs.lemmas.List.{length-set}
use Rattle.std.specs.Prelude.{if◌then◌else◌}
use Rattle.cartridge_laws.proofs.FormatViews.{view_of_other_sector}
use Rattle.cartridge_laws.proofs.MountFar.{length-table_block}
use Rattle.cartridge_laws.proofs.MountLeftOut.{no_other_is_part, left_out_data, settled_parity}
use Rattle.cartridge_laws.proofs.MountNear.{gone_or_read}
use Rattle.cartridge_laws.proofs.MountPlaces.{AreSmall, rest_small, none_of_rest, where_fails}
use Rattle.cartridge_laws.proofs.MountSeen.{none_of_first}
use Rattle.cartridge_laws.proofs.MountSettling.{settling_writes, settling_small}
use Rattle.cartridge_laws.proofs.MountSoFar.{written_here}
use Rattle.cartridge_laws.proofs.MountWriting.{IsAllWritten, unsettled_data, all_written, same_written}
use Rattle.cartridge_laws.proofs.Sets.{IsNoneOf}
use Rattle.cartridge_laws.specs.MountBlocks.{HoldsPart}
use Rattle.cartridge_laws.specs.MountLaws.{SettlingSettles}
use Rattle.cartridge_spec.specs.Says.{with_parity, whole_mask}
use Rattle.cartridge_spec.specs.Settling.{changed_by, block_writes, settling_places, writes_of}
use Rattle.cartridge_laws.specs.TableCells.{is_left_out, is_unsettled}
use Rattle.cartridge_laws.specs.Segment.{places_where}
use Rattle.cartridge_spec.specs.Shape.{sector_at, usable_places}
use Rattle.qic_base.specs.Cartridge.{Cartridge, view_at}
use Rattle.qic_base.specs.Step.{written_view, write_sector, changed, Step}
use Rattle.qic_base.specs.declared.tape.SectorView.{SectorView}
use Rattle.qic_base.specs.declared.tape.SectorView.TheVariants.{Blank, Defect, Lost, Holds}
use Rattle.cartridge_laws.proofs.AppendTableWrites.{written_other}

-- ---- all writes

written_again : (bytes : List ℕ) (view : SectorView) → written_view bytes (written_view bytes view) ≡ written_view bytes view
written_again bytes Blank = refl
written_again bytes Defect = refl
written_again bytes Lost = refl
written_again bytes (Holds held) = refl

-- each other sector of the segment is as its write would leave it
abbrev StaysOutside : (block : List (List ℕ)) → (ps : List ℕ) → Cartridge → Type 0
StaysOutside block ps c = (i : ℕ) → i < 32 → IsNoneOf ps i → view_at c 2 i ≡ written_view (sector_at block i) (view_at c 2 i)

abbrev with_part : (block : List (List ℕ)) → (p : ℕ) → Cartridge → Cartridge
with_part block p c = changed (write_sector 2 p (sector_at block p)) c

-- once one is written, each takes its part as before
takes_still : (block : List (List ℕ)) (p i : ℕ) (c : Cartridge) → p < 32 → i < 32 →
    written_view (sector_at block i) (view_at (with_part block p c) 2 i) ≡ written_view (sector_at block i) (view_at c 2 i)
takes_still block p i c small h =
    let d : Cartridge = with_part block p c in
    let bytes : List ℕ = sector_at block p in
    elim (cases_eq i p) [
      | inl same ↦
          subst (λ (j : ℕ). written_view (sector_at block j) (view_at d 2 j) ≡ written_view (sector_at block j) (view_at c 2 j)) (sym same)
          (ap (written_view bytes) (written_here c p bytes) ∙ written_again bytes (view_at c 2 p))
      | inr apart ↦ ap (written_view (sector_at block i)) (written_other c p i bytes small h apart)
    ]

stays_still : (block : List (List ℕ)) (p : ℕ) (ps : List ℕ) (c : Cartridge) → p < 32 → StaysOutside block (p ∷ ps) c →
    StaysOutside block ps (with_part block p c)
stays_still block p ps c small stays i h none =
    let d : Cartridge = with_part block p c in
    let bytes : List ℕ = sector_at block p in
    elim (cases_eq i p) [
      | inl same ↦
          subst (λ (j : ℕ). view_at d 2 j ≡ written_view (sector_at block j) (view_at d 2 j)) (sym same)
          (written_here c p bytes ∙ sym (written_again bytes (view_at c 2 p)) ∙ ap (written_view bytes) (sym (written_here c p bytes)))
      | inr apart ↦ written_other c p i bytes small h apart ∙ stays i h (apart, none) ∙ sym (takes_still block p i c small h)
    ]

written_then : (block : List (List ℕ)) (p : ℕ) (c e : Cartridge) → p < 32 → IsAllWritten block (with_part block p c) e →
    IsAllWritten block c e
written_then block p c e small rest =
    let view : SectorView = written_view (sector_at block p) (view_at c 2 p) in
    record {
      info = rest.info;
      version = rest.version;
      size = rest.size ∙ length-set c.views (32 * 2 + p) view;
      table = λ i h. rest.table i h ∙ takes_still block p i c small h;
      others = λ s i h apart. rest.others s i h apart ∙ view_of_other_sector c 2 p s i view small h (λ same e. absurd (apart same));
    }

-- then the whole segment is written
places_written : (block : List (List ℕ)) (ps : List ℕ) (c : Cartridge) → AreSmall ps → StaysOutside block ps c →
    IsAllWritten block c (changed_by (block_writes block ps) c)
places_written block [] c small stays = record {
  info = refl;
  version = refl;
  size = refl;
  table = λ i h. stays i h tt;
  others = λ s i h apart. refl;
}
places_written block (p ∷ ps) c small stays =
    let here : p < 32 = small p (inl refl) in
    let d : Cartridge = with_part block p c in
    written_then block p c (changed_by (block_writes block ps) d) here
    (places_written block ps d (rest_small p ps small) (stays_still block p ps c here stays))

-- a sector that is not written holds its part
part_there : (c : Cartridge) (area : List (List ℕ)) (i : ℕ) → is_left_out c (with_parity area) i ≡ false →
    is_unsettled c (with_parity area) i ≡ false → HoldsPart c area i
part_there c area i kept fails =
    elim (cases_lt i 29) [
      | inl front ↦ elim (gone_or_read (view_at c 2 i)) [
        | inl gone ↦ absurd (true≢false (sym gone ∙ sym (unsettled_data c (with_parity area) i front) ∙ fails))
        | inr read ↦
            no_other_is_part (view_at c 2 i) (sector_at (with_parity area) i) read (sym (left_out_data c (with_parity area) i front) ∙ kept)
      ]
      | inr back ↦ settled_parity c area i back fails
    ]

settling_written : (c : Cartridge) (area : List (List ℕ)) → IsAllWritten (with_parity area) c (changed_by (settling_writes c area) c)
settling_written c area =
    let block : List (List ℕ) = with_parity area in
    let out : List ℕ = places_where (is_left_out c block) in
    let others : List ℕ = places_where (is_unsettled c block) in
    places_written block (settling_places c area) c (settling_small c area) (λ i h none.
    let part : view_at c 2 i ≡ Holds (sector_at block i) =
    part_there c area i (where_fails (is_left_out c block) i h (none_of_first out others i none))
    (where_fails (is_unsettled c block) i h (none_of_rest out others i none)) in
    part ∙ sym (ap (written_view (sector_at block i)) part))

-- ---- settling

by_protection : (c written : Cartridge) (steps : List Step) (protected : Bool) → changed_by steps c ≡ written →
    changed_by (if protected then [] else steps) c ≡ (if protected then c else written)
by_protection c written steps true same = refl
by_protection c written steps false same = same

pub settling_settles : SettlingSettles
settling_settles c area reads =
    let block : List (List ℕ) = with_parity area in
    by_protection c (changed_by (writes_of 2 (usable_places whole_mask) block) c) (settling_writes c area) c.info.protected
    (same_written block c _ _ (settling_written c area) (all_written block c (length-table_block c area reads)))
