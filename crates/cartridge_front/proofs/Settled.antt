-- The writes of a settling are those of the cartridge, and what they leave.
use Rattle.std.proofs.Common.{◌≡◌, ◌↔◌, ℕ, refl, ◌<◌, sym, subst, Option, Some, ◌∙◌, ap, Bool, not, List, arith, inl, inr, true, false, []}
use Rattle.std.proofs.Common.{length, take, ◌++◌, ◌∷◌}
use Rattle.std.proofs.lemmas.Bool.{ne_eqb, false≢true, cases_lt, lt-ltb, le-ltb, cases_Bool}
use Rattle.std.specs.Prelude.{IsSomeAnd, ◌||◌, if◌then◌else◌, unwrap_or}
use Rattle.std.specs.List.{slice_get}
use Rattle.std.specs.Str.{bytes_eq}
use Rattle.std.proofs.lemmas.Slice.Eq.{bytes_eq-Decides}
use Rattle.cartridge_laws.proofs.MountLeftOut.{left_out_data, left_out_parity}
use Rattle.cartridge_laws.proofs.MountParts.{sector_there}
use Rattle.cartridge_laws.proofs.Segments.{cells_of_whole}
use Rattle.cartridge_laws.specs.Segment.{IsUnreadable, places_where}
use Rattle.cartridge_spec.specs.Code.{parity_sectors}
use Rattle.cartridge_spec.specs.TableSegment.{table_cells}
use Rattle.cartridge_spec.specs.Settling.{holds, holds_other, block_writes, settling_places, settling_steps, writes_of, changed_by}
use Rattle.cartridge_laws.specs.TableCells.{is_unsettled, is_left_out}
use Rattle.cartridge_spec.specs.Shape.{is_unreadable, sector_at}
use Rattle.erasure_solve.proofs.Places.{is_lost_from}
use Rattle.qic_base.specs.Cartridge.{Cartridge, view_at}
use Rattle.qic_base.specs.CartridgeTerms.{IsLost, is_lost}
use Rattle.qic_base.specs.Step.{write_sector, changed}
use Rattle.qic_base.specs.declared.tape.SectorView.{SectorView}
use Rattle.qic_base.specs.declared.tape.SectorView.TheVariants.{Blank, Defect, Lost, Holds}
use Rattle.segment_solve.specs.Gathered.{NamesUnreadable}
use Rattle.cartridge_front.proofs.Mending.{places_same}
use Rattle.cartridge_front.proofs.Stale.{within_data, bytes_same}
use Rattle.table_solve.specs.Reading.{IsReadBut, HoldsOther}
use Rattle.cartridge_front.specs.Settling.{is_stale, collected_block, mending_steps}
use Rattle.table_solve.specs.declared.unread.Unread.{Unread}

-- ---- the writes in the workspace are those of the cartridge

lost_is : (view : SectorView) (lost i : ℕ) → (IsLost lost i ↔ IsUnreadable view) → is_lost lost i ≡ is_unreadable view
lost_is Blank lost i names = is_lost_from lost i (names.1 refl)
lost_is Defect lost i names = is_lost_from lost i (names.1 refl)
lost_is Lost lost i names = is_lost_from lost i (names.1 refl)
lost_is (Holds bytes) lost i names = ne_eqb _ _ (λ is. false≢true (names.0 is))

-- the cell at a place is lost exactly where its view is unreadable
names_view : (c : Cartridge) (lost i : ℕ) → i < 32 → NamesUnreadable (table_cells c) lost → IsLost lost i ↔ IsUnreadable (view_at c 2 i)
names_view c lost i within names =
    let there : slice_get (table_cells c) i ≡ Some (view_at c 2 i) = cells_of_whole c 2 i within in (
      λ is. subst (λ (o : Option SectorView). IsSomeAnd o IsUnreadable) there ((names i).0 is),
      λ bad. (names i).1 (subst (λ (o : Option SectorView). IsSomeAnd o IsUnreadable) (sym there) bad),
    )

stale_parity : (view : SectorView) (lost i : ℕ) (held wanted : List ℕ) → is_lost lost i ≡ is_unreadable view →
    ((bytes : List ℕ) → view ≡ Holds bytes → held ≡ bytes) →
    (is_lost lost i || not (bytes_eq held wanted)) ≡ not (holds view wanted)
stale_parity Blank lost i held wanted is shown = ap (λ (b : Bool). b || not (bytes_eq held wanted)) is
stale_parity Defect lost i held wanted is shown = ap (λ (b : Bool). b || not (bytes_eq held wanted)) is
stale_parity Lost lost i held wanted is shown = ap (λ (b : Bool). b || not (bytes_eq held wanted)) is
stale_parity (Holds bytes) lost i held wanted is shown =
    ap (λ (b : Bool). b || not (bytes_eq held wanted)) is
    ∙ ap (λ (s : List ℕ). not (bytes_eq s wanted)) (shown bytes refl)

abbrev unsettled_by : (b : Bool) (view : SectorView) (bytes : List ℕ) → Bool
unsettled_by b view bytes = if b then is_unreadable view else not (holds view bytes)

-- no sector of parity was left out
left_is_data : (cells : List SectorView) (unread : Unread) (sectors : List (List ℕ)) (i : ℕ) → IsReadBut cells unread sectors →
    IsLost unread.left_out i → i < 29
left_is_data cells unread sectors i known is = ((known.left_out i).0 is).data_sector

stale_test : (c : Cartridge) (unread : Unread) (sectors : List (List ℕ)) → length sectors ≡ 32 → IsReadBut (table_cells c) unread sectors →
    (i : ℕ) → i < 32 →
    is_stale unread.lost sectors (collected_block sectors) i ≡ is_unsettled c (collected_block sectors) i
stale_test c unread sectors room known i within =
    let is : is_lost unread.lost i ≡ is_unreadable (view_at c 2 i) = lost_is (view_at c 2 i) unread.lost i
    (names_view c unread.lost i within known.lost) in
    elim (cases_lt i 29) [
      | inl lower ↦
          ap (λ (b : Bool). is_lost unread.lost i || not b)
          (bytes_same (sector_at sectors i) (sector_at (collected_block sectors) i)
          (within_data sectors (parity_sectors (take 29 sectors)) i room lower))
          ∙ plain (is_lost unread.lost i) ∙ is
          ∙ sym (ap (λ (b : Bool). unsettled_by b (view_at c 2 i) (sector_at (collected_block sectors) i)) (lt-ltb i 29 lower))
      | inr upper ↦
          stale_parity (view_at c 2 i) unread.lost i (sector_at sectors i) (sector_at (collected_block sectors) i) is
          (λ bytes view. ap (λ (o : Option (List ℕ)). unwrap_or o [])
          (known.held i bytes (λ left. let lower : i < 29 = left_is_data (table_cells c) unread sectors i known left in
          absurd (omega arith))
          (cells_of_whole c 2 i within ∙ ap Some view)))
          ∙ sym (ap (λ (b : Bool). unsettled_by b (view_at c 2 i) (sector_at (collected_block sectors) i)) (le-ltb i 29 upper))
    ]
  where
    plain : (b : Bool) → (b || false) ≡ b
    plain true = refl
    plain false = refl

abbrev LeftOutAt : (cells : List SectorView) (sectors : List (List ℕ)) (left i : ℕ) → Type 0
LeftOutAt cells sectors left i = IsLost left i ↔ HoldsOther cells sectors i

-- a sector of data was left out exactly where its view holds other bytes than stand in its place
left_view : (view : SectorView) (cells : List SectorView) (sectors : List (List ℕ)) (left i : ℕ) → i < 29 → i < length sectors →
    slice_get cells i ≡ Some view → LeftOutAt cells sectors left i →
    is_lost left i ≡ holds_other view (sector_at sectors i)
left_view Blank cells sectors left i lower long at is =
    ne_eqb _ _ (λ there. let held = ((is.0 there).held) in let same : Some Blank ≡ Some (Holds (is.0 there).bytes) = sym at ∙ held in
    absurd (cc))
left_view Defect cells sectors left i lower long at is =
    ne_eqb _ _ (λ there. let held = ((is.0 there).held) in let same : Some Defect ≡ Some (Holds (is.0 there).bytes) = sym at ∙ held in
    absurd (cc))
left_view Lost cells sectors left i lower long at is =
    ne_eqb _ _ (λ there. let held = ((is.0 there).held) in let same : Some Lost ≡ Some (Holds (is.0 there).bytes) = sym at ∙ held in
    absurd (cc))
left_view (Holds bytes) cells sectors left i lower long at is =
    elim (cases_Bool (bytes_eq bytes (sector_at sectors i))) [
      | inl same ↦
          let equal : bytes ≡ sector_at sectors i = (bytes_eq-Decides bytes (sector_at sectors i)).0 same in
          ne_eqb _ _ (λ there.
          let other = is.0 there in
          let one : Some (Holds bytes) ≡ Some (Holds other.bytes) = sym at ∙ other.held in
          let bytes_are : bytes ≡ other.bytes = cc in
          absurd (other.other (sector_there sectors i long ∙ ap Some (sym equal ∙ bytes_are))))
          ∙ sym (ap not same)
      | inr differs ↦
          is_lost_from left i (is.1 (record {
            data_sector = lower;
            bytes = bytes;
            held = at;
            other = λ there.
                let one : Some (sector_at sectors i) ≡ Some bytes = sym (sector_there sectors i long) ∙ there in
                let equal : sector_at sectors i ≡ bytes = cc in
                false≢true (sym differs ∙ bytes_same bytes (sector_at sectors i) (sym equal));
          }))
          ∙ sym (ap not differs)
    ]

left_test : (c : Cartridge) (unread : Unread) (sectors : List (List ℕ)) → length sectors ≡ 32 → IsReadBut (table_cells c) unread sectors →
    (i : ℕ) → i < 32 →
    is_lost unread.left_out i ≡ is_left_out c (collected_block sectors) i
left_test c unread sectors room known i within =
    elim (cases_lt i 29) [
      | inl lower ↦
          left_view (view_at c 2 i) (table_cells c) sectors unread.left_out i lower (omega arith) (cells_of_whole c 2 i within)
          (known.left_out i)
          ∙ ap (holds_other (view_at c 2 i)) (within_data sectors (parity_sectors (take 29 sectors)) i room lower)
          ∙ sym (left_out_data c (collected_block sectors) i lower)
      | inr upper ↦
          ne_eqb _ _ (λ left. let lower : i < 29 = left_is_data (table_cells c) unread sectors i known left in absurd (omega arith))
          ∙ sym (left_out_parity c (collected_block sectors) i upper)
    ]

pub mending_settles : (c : Cartridge) (protected : Bool) (unread : Unread) (sectors : List (List ℕ)) → length sectors ≡ 32 →
    IsReadBut (table_cells c) unread sectors → c.info.protected ≡ protected →
    mending_steps protected unread sectors ≡ settling_steps (take 29 sectors) c
mending_settles c protected unread sectors room known mark =
    let block : List (List ℕ) = collected_block sectors in
    ap (λ (places : List ℕ). if protected then [] else block_writes block (places ++ places_where (is_stale unread.lost sectors block)))
    (places_same (is_lost unread.left_out) (is_left_out c block) (left_test c unread sectors room known))
    ∙ ap (λ (places : List ℕ). if protected then [] else block_writes block (places_where (is_left_out c block) ++ places))
    (places_same (is_stale unread.lost sectors block) (is_unsettled c block) (stale_test c unread sectors room known))
    ∙ ap (λ (b : Bool). if b then [] else block_writes block (settling_places c (take 29 sectors))) (sym mark)

-- writes change no mark
pub writes_info : (places : List ℕ) (sectors : List (List ℕ)) (c : Cartridge) (segment : ℕ) →
    (changed_by (writes_of segment places sectors) c).info ≡ c.info
writes_info [] sectors c segment = refl
writes_info (p ∷ places) [] c segment = refl
writes_info (p ∷ places) (bytes ∷ sectors) c segment = writes_info places sectors (changed (write_sector segment p bytes) c) segment
