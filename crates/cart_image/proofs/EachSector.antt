-- From what became of each sector of a segment to what a write of several makes of the cartridge, and to what a stop in it leaves.
use Rattle.std.proofs.Common.{◌≡◌, ◌≢◌, ℕ, ◌+◌, ◌*◌, ◌-◌, ◌<◌, ◌≤◌, ◌⊎◌, inl, inr, ⊎_elim, Bool, true, false, List, [], ◌∷◌}
use Rattle.std.proofs.Common.{length, get_or, refl, sym, ◌∙◌, ap, arith, subst}
use Rattle.std.specs.List.{All}
use Rattle.std.specs.Prelude.{slice_get, slice_index_or, slice_set, unwrap_or}
use Rattle.std.proofs.lemmas.Bool.{cases_eq, cases_lt}
use Rattle.std.proofs.lemmas.List.{same_lists, get_or_default, length-set, length-map, get_or-set_same}
use Rattle.std.proofs.lemmas.List.{get_or-set_other, set-get_or, get_or-map}
use Rattle.std.proofs.lemmas.List.Elements.{All-cons, All-head, All-tail, All-weaker, All-map, All-nil}
use Rattle.std.proofs.lemmas.Option.{unwrap_or-slice_get}
use Rattle.qic_base.specs.declared.tape.SectorView.{SectorView}
use Rattle.qic_base.specs.declared.tape.SectorView.TheVariants.{Blank, Defect, Lost, Holds}
use Rattle.qic_base.specs.declared.tape.TapeInfo.{TapeInfo}
use Rattle.qic_base.specs.Cartridge.{Cartridge, view_at, with_view, lost_places}
use Rattle.qic_base.specs.CartridgeTerms.{is_lost}
use Rattle.qic_base.specs.Step.{NewSector, written_view, worn_view, with_sectors, ClosingView, AreClosing, AreOpening}
use Rattle.qic_base.specs.TapeCalls.{chosen}
use Rattle.cart_image.proofs.Places.{places-are, place-among}

-- each sector of one segment, by its index, changed so, and nothing else changed
pub record SectorsBecame (Became : ℕ → SectorView → SectorView → Type 0) (segment : ℕ) (old new : Cartridge) : Type 0 where
  pub info : new.info ≡ old.info
  pub version : new.version ≡ old.version
  pub sectors : length new.views ≡ length old.views
  pub within : (sector : ℕ) → sector < 32 → Became sector (view_at old segment sector) (view_at new segment sector)
  pub below : (place : ℕ) → place < 32 * segment → slice_get new.views place ≡ slice_get old.views place
  pub above : (place : ℕ) → 32 * (segment + 1) ≤ place → slice_get new.views place ≡ slice_get old.views place

-- a sector that is written became so, and another one stayed
abbrev pub WhereWritten : (is_written : Bool) (Became : SectorView → SectorView → Type 0) → SectorView → SectorView → Type 0
WhereWritten true Became old new = Became old new
WhereWritten false Became old new = new ≡ old

-- one that takes these bytes is lost, or holds them
abbrev pub TakingView : List ℕ → SectorView → SectorView → Type 0
TakingView bytes Blank new = new ≡ Blank
TakingView bytes Defect new = new ≡ Defect
TakingView bytes old new = (new ≡ Lost) ⊎ (new ≡ Holds bytes)

-- ---- cartridges with another view

pub same-cartridge : (a b : Cartridge) → a.info ≡ b.info → a.version ≡ b.version → a.views ≡ b.views → a ≡ b
same-cartridge a b p q r =
    ap (λ (i : TapeInfo). record { info = i; version = a.version; views = a.views }) p
    ∙ ap (λ (v : ℕ). record { info = b.info; version = v; views = a.views }) q
    ∙ ap (λ (vs : List SectorView). record { info = b.info; version = b.version; views = vs }) r

pub same-get : (a b : List SectorView) (k : ℕ) (d : SectorView) → slice_get a k ≡ slice_get b k → get_or a k d ≡ get_or b k d
same-get a b k d same = sym (unwrap_or-slice_get a k d) ∙ ap (λ o. unwrap_or o d) same ∙ unwrap_or-slice_get b k d

module _ (segment sector : ℕ) (old : Cartridge) (v : SectorView) where
  pub view-there : 32 * segment + sector < length old.views → view_at (with_view old segment sector v) segment sector ≡ v
  view-there on =
      unwrap_or-slice_get (with_view old segment sector v).views (32 * segment + sector) Blank
      ∙ get_or-set_same old.views (32 * segment + sector) v Blank on

  pub view-other : (i : ℕ) → i ≢ sector → view_at (with_view old segment sector v) segment i ≡ view_at old segment i
  view-other i ne =
      unwrap_or-slice_get (with_view old segment sector v).views (32 * segment + i) Blank
      ∙ get_or-set_other old.views (32 * segment + sector) (32 * segment + i) v Blank (λ e. ne (omega arith))
      ∙ sym (unwrap_or-slice_get old.views (32 * segment + i) Blank)

  -- a view put where it stands changes nothing
  pub put-back : v ≡ view_at old segment sector → with_view old segment sector v ≡ old
  put-back is =
      same-cartridge (with_view old segment sector v) old refl refl
      (ap (slice_set old.views (32 * segment + sector)) (is ∙ unwrap_or-slice_get old.views (32 * segment + sector) Blank)
      ∙ set-get_or old.views (32 * segment + sector) Blank)

-- ---- sectors of a segment, one by one

-- these sectors became so, by the bytes that each gets, and nothing else changed
pub record BecameOf (Became : List ℕ → SectorView → SectorView → Type 0) (segment : ℕ) (sectors : List NewSector) (old now : Cartridge)
    : Type 0 where
  pub info : now.info ≡ old.info
  pub version : now.version ≡ old.version
  pub long : length now.views ≡ length old.views
  pub each : All (λ (s : NewSector). Became s.bytes (view_at old segment s.sector) (view_at now segment s.sector)) sectors
  pub others : (k : ℕ) → All (λ (s : NewSector). k ≢ 32 * segment + s.sector) sectors → get_or now.views k Blank ≡ get_or old.views k Blank

-- they lie on the cartridge
abbrev pub LieOn : (segment : ℕ) → List NewSector → Cartridge → Type 0
LieOn segment sectors c = All (λ (s : NewSector). 32 * segment + s.sector < length c.views) sectors

nothing-became : (Became : List ℕ → SectorView → SectorView → Type 0) (segment : ℕ) (old now : Cartridge) →
    BecameOf Became segment [] old now → now ≡ old
nothing-became Became segment old now b =
    same-cartridge now old b.info b.version (same_lists _ _ b.long (λ k d less.
    let n = b.long in
    get_or_default now.views k d Blank less
    ∙ b.others k (All-nil (λ (s : NewSector). k ≢ 32 * segment + s.sector))
    ∙ get_or_default old.views k Blank d (omega arith)))

-- the first of them is changed, and the others become so from there
module _ (Became : List ℕ → SectorView → SectorView → Type 0) (segment : ℕ) (first : NewSector) (more : List NewSector)
    (old now : Cartridge) (b : BecameOf Became segment (first ∷ more) old now)
    (keeps : (bytes : List ℕ) (u v : SectorView) → Became bytes u v → Became bytes v v)
    (on : 32 * segment + first.sector < length old.views) where
  abbrev view : SectorView
  view = view_at now segment first.sector

  abbrev mid : Cartridge
  mid = with_view old segment first.sector view

  rest-each : (s : NewSector) → Became s.bytes (view_at old segment s.sector) (view_at now segment s.sector) →
      Became s.bytes (view_at mid segment s.sector) (view_at now segment s.sector)
  rest-each s is = by_place (cases_eq s.sector first.sector)
    where
      by_place : (s.sector ≡ first.sector) ⊎ (s.sector ≢ first.sector) →
          Became s.bytes (view_at mid segment s.sector) (view_at now segment s.sector)
      by_place (inl same) =
          let P : ℕ → Type 0 = λ i. Became s.bytes (view_at old segment i) (view_at now segment i) →
          Became s.bytes (view_at mid segment i) (view_at now segment i) in
          let Q : SectorView → Type 0 = λ u. Became s.bytes u view in
          subst P (sym same) (λ was. subst Q (sym (view-there segment first.sector old view on))
          (keeps s.bytes (view_at old segment first.sector) view was)) is
      by_place (inr ne) =
          let Q : SectorView → Type 0 = λ u. Became s.bytes u (view_at now segment s.sector) in
          subst Q (sym (view-other segment first.sector old view s.sector ne)) is

  rest-others : (k : ℕ) → All (λ (s : NewSector). k ≢ 32 * segment + s.sector) more →
      get_or now.views k Blank ≡ get_or mid.views k Blank
  rest-others k apart = by_place (cases_eq k (32 * segment + first.sector))
    where
      by_place : (k ≡ 32 * segment + first.sector) ⊎ (k ≢ 32 * segment + first.sector) → get_or now.views k Blank ≡ get_or mid.views k Blank
      by_place (inl same) =
          ap (λ j. get_or now.views j Blank) same
          ∙ sym (unwrap_or-slice_get now.views (32 * segment + first.sector) Blank)
          ∙ sym (ap (λ j. get_or mid.views j Blank) same ∙ get_or-set_same old.views (32 * segment + first.sector) view Blank on)
      by_place (inr ne) =
          b.others k (All-cons (λ (s : NewSector). k ≢ 32 * segment + s.sector) first more ne apart)
          ∙ sym (get_or-set_other old.views (32 * segment + first.sector) k view Blank ne)

  rest-became : BecameOf Became segment more mid now
  rest-became = record {
    info = b.info;
    version = b.version;
    long = b.long ∙ sym (length-set old.views (32 * segment + first.sector) view);
    each = All-weaker (λ (s : NewSector). Became s.bytes (view_at old segment s.sector) (view_at now segment s.sector))
        (λ (s : NewSector). Became s.bytes (view_at mid segment s.sector) (view_at now segment s.sector)) rest-each more
        (All-tail (λ (s : NewSector). Became s.bytes (view_at old segment s.sector) (view_at now segment s.sector)) first more b.each);
    others = rest-others;
  }

  first-became : Became first.bytes (view_at old segment first.sector) view
  first-became =
      All-head (λ (s : NewSector). Became s.bytes (view_at old segment s.sector) (view_at now segment s.sector)) first more b.each

rest-lie : (segment : ℕ) (first : NewSector) (more : List NewSector) (old : Cartridge) (v : SectorView) →
    LieOn segment (first ∷ more) old → LieOn segment more (with_view old segment first.sector v)
rest-lie segment first more old v lie =
    let n = length-set old.views (32 * segment + first.sector) v in
    All-weaker (λ (s : NewSector). 32 * segment + s.sector < length old.views)
    (λ (s : NewSector). 32 * segment + s.sector < length (with_view old segment first.sector v).views) (λ s less. omega arith) more
    (All-tail (λ (s : NewSector). 32 * segment + s.sector < length old.views) first more lie)

-- what holds at the end, and before each change where it holds behind it
module _ (Became : List ℕ → SectorView → SectorView → Type 0) (segment : ℕ) (now : Cartridge)
    (keeps : (bytes : List ℕ) (u v : SectorView) → Became bytes u v → Became bytes v v)
    (Ends : List NewSector → Cartridge → Type 0) (none : Ends [] now)
    (one : (first : NewSector) (more : List NewSector) (old : Cartridge) →
    Became first.bytes (view_at old segment first.sector) (view_at now segment first.sector) →
    Ends more (with_view old segment first.sector (view_at now segment first.sector)) → Ends (first ∷ more) old) where
  ends : (sectors : List NewSector) (old : Cartridge) → LieOn segment sectors old → BecameOf Became segment sectors old now →
      Ends sectors old
  ends [] old lie b = subst (Ends []) (nothing-became Became segment old now b) none
  ends (first ∷ more) old lie b =
      let on : 32 * segment + first.sector < length old.views =
      All-head (λ (s : NewSector). 32 * segment + s.sector < length old.views) first more lie in
      one first more old (first-became Became segment first more old now b keeps on)
      (ends more (with_view old segment first.sector (view_at now segment first.sector))
      (rest-lie segment first more old (view_at now segment first.sector) lie)
      (rest-became Became segment first more old now b keeps on))

-- ---- the write, and stops in it

closing-stays : (v : SectorView) → ClosingView v v
closing-stays Blank = refl
closing-stays Defect = refl
closing-stays Lost = refl
closing-stays (Holds bytes) = inl refl

closing-ends : (u v : SectorView) → ClosingView u v → (v ≡ u) ⊎ (v ≡ worn_view u)
closing-ends Blank v is = inl is
closing-ends Defect v is = inl is
closing-ends Lost v is = inl is
closing-ends (Holds bytes) v is = is

taking-stays : (bytes : List ℕ) (u v : SectorView) → TakingView bytes u v → TakingView bytes v v
taking-stays bytes Blank v is = subst (λ w. TakingView bytes w w) (sym is) refl
taking-stays bytes Defect v is = subst (λ w. TakingView bytes w w) (sym is) refl
taking-stays bytes Lost v (inl lost) = subst (λ w. TakingView bytes w w) (sym lost) (inl refl)
taking-stays bytes Lost v (inr put) = subst (λ w. TakingView bytes w w) (sym put) (inr refl)
taking-stays bytes (Holds old) v (inl lost) = subst (λ w. TakingView bytes w w) (sym lost) (inl refl)
taking-stays bytes (Holds old) v (inr put) = subst (λ w. TakingView bytes w w) (sym put) (inr refl)

taking-ends : (bytes : List ℕ) (u v : SectorView) → TakingView bytes u v → (v ≡ worn_view u) ⊎ (v ≡ written_view bytes u)
taking-ends bytes Blank v is = inl is
taking-ends bytes Defect v is = inl is
taking-ends bytes Lost v is = is
taking-ends bytes (Holds old) v is = is

written-stays : (bytes : List ℕ) (u v : SectorView) → v ≡ written_view bytes u → v ≡ written_view bytes v
written-stays bytes Blank v is = subst (λ w. w ≡ written_view bytes w) (sym is) refl
written-stays bytes Defect v is = subst (λ w. w ≡ written_view bytes w) (sym is) refl
written-stays bytes Lost v is = subst (λ w. w ≡ written_view bytes w) (sym is) refl
written-stays bytes (Holds old) v is = subst (λ w. w ≡ written_view bytes w) (sym is) refl

module _ (segment : ℕ) (sectors : List NewSector) (old now : Cartridge) (lie : LieOn segment sectors old) where
  -- each was as it is, or can be read no more
  pub closing-became : BecameOf (λ bytes. ClosingView) segment sectors old now → AreClosing segment sectors old now
  closing-became =
      ends (λ bytes. ClosingView) segment now (λ bytes u v is. closing-stays v) (λ ss c. AreClosing segment ss c now) refl one sectors old
      lie
    where
      one : (first : NewSector) (more : List NewSector) (c : Cartridge) →
          ClosingView (view_at c segment first.sector) (view_at now segment first.sector) →
          AreClosing segment more (with_view c segment first.sector (view_at now segment first.sector)) now →
          AreClosing segment (first ∷ more) c now
      one first more c is behind =
          elim (closing-ends (view_at c segment first.sector) (view_at now segment first.sector) is) [
            | inl same ↦ inl (subst (λ (m : Cartridge). AreClosing segment more m now)
                (put-back segment first.sector c (view_at now segment first.sector) same) behind)
            | inr worn ↦ inr (subst (λ (v : SectorView). AreClosing segment more (with_view c segment first.sector v) now) worn behind)
          ]

  -- each can be read no more, or is written
  pub opening-became : BecameOf TakingView segment sectors old now → AreOpening segment sectors old now
  opening-became =
      ends TakingView segment now taking-stays (λ ss c. AreOpening segment ss c now) refl one sectors old lie
    where
      one : (first : NewSector) (more : List NewSector) (c : Cartridge) →
          TakingView first.bytes (view_at c segment first.sector) (view_at now segment first.sector) →
          AreOpening segment more (with_view c segment first.sector (view_at now segment first.sector)) now →
          AreOpening segment (first ∷ more) c now
      one first more c is behind =
          elim (taking-ends first.bytes (view_at c segment first.sector) (view_at now segment first.sector) is) [
            | inl worn ↦ inl (subst (λ (v : SectorView). AreOpening segment more (with_view c segment first.sector v) now) worn behind)
            | inr put ↦ inr (subst (λ (v : SectorView). AreOpening segment more (with_view c segment first.sector v) now) put behind)
          ]

  -- each is written
  pub written-became : BecameOf (λ bytes before after. after ≡ written_view bytes before) segment sectors old now →
      with_sectors segment sectors old ≡ now
  written-became =
      ends (λ bytes before after. after ≡ written_view bytes before) segment now written-stays
      (λ ss c. with_sectors segment ss c ≡ now) refl one sectors old lie
    where
      one : (first : NewSector) (more : List NewSector) (c : Cartridge) →
          view_at now segment first.sector ≡ written_view first.bytes (view_at c segment first.sector) →
          with_sectors segment more (with_view c segment first.sector (view_at now segment first.sector)) ≡ now →
          with_sectors segment (first ∷ more) c ≡ now
      one first more c is behind =
          ap (λ (v : SectorView). with_sectors segment more (with_view c segment first.sector v)) (sym is) ∙ behind

-- ---- those that a set names

module _ (segment written : ℕ) (from : List (List ℕ)) (old : Cartridge) (lies : 32 * segment + 32 ≤ length old.views) where
  abbrev entry : ℕ → NewSector
  entry i = record { sector = i; bytes = slice_index_or from i [] }

  pub chosen-lie : LieOn segment (chosen written from) old
  chosen-lie =
      All-map (λ (s : NewSector). 32 * segment + s.sector < length old.views) entry (lost_places written 32)
      (All-weaker (λ i. (i < 32) × (is_lost written i ≡ true)) (λ i. 32 * segment + i < length old.views)
      (λ i is. let less = is.0 in omega arith) (lost_places written 32) (places-are written 32))

-- what became of each sector of the segment is what became of them
module _ (Became : List ℕ → SectorView → SectorView → Type 0) (segment written : ℕ) (from : List (List ℕ)) (old now : Cartridge)
    (lies : 32 * segment + 32 ≤ length old.views)
    (b : SectorsBecame (λ i. WhereWritten (is_lost written i) (Became (slice_index_or from i []))) segment old now) where
  abbrev its : ℕ → NewSector
  its i = record { sector = i; bytes = slice_index_or from i [] }

  chosen-each : All (λ (s : NewSector). Became s.bytes (view_at old segment s.sector) (view_at now segment s.sector)) (chosen written from)
  chosen-each =
      All-map (λ (s : NewSector). Became s.bytes (view_at old segment s.sector) (view_at now segment s.sector)) its (lost_places written 32)
      (All-weaker (λ i. (i < 32) × (is_lost written i ≡ true))
      (λ i. Became (slice_index_or from i []) (view_at old segment i) (view_at now segment i))
      (λ i is.
      let P : Bool → Type 0 = λ w. WhereWritten w (Became (slice_index_or from i [])) (view_at old segment i) (view_at now segment i) in
      subst P is.1 (b.within i is.0)) (lost_places written 32) (places-are written 32))

  chosen-others : (k : ℕ) → All (λ (s : NewSector). k ≢ 32 * segment + s.sector) (chosen written from) →
      get_or now.views k Blank ≡ get_or old.views k Blank
  chosen-others k apart =
      ⊎_elim (λ below. same-get now.views old.views k Blank (b.below k below))
      (λ late. ⊎_elim (λ inside.
      let there : k ≡ 32 * segment + (k - 32 * segment) = omega arith in
      by_bit (k - 32 * segment) (omega arith) there (is_lost written (k - 32 * segment)) refl)
      (λ past. same-get now.views old.views k Blank (b.above k (omega arith))) (cases_lt k (32 * segment + 32))) (cases_lt k (32 * segment))
    where
      by_bit : (i : ℕ) → i < 32 → k ≡ 32 * segment + i → (w : Bool) → is_lost written i ≡ w →
          get_or now.views k Blank ≡ get_or old.views k Blank
      by_bit i less there true bit =
          let at = place-among written 32 i less bit in
          let n = length-map (lost_places written 32) its in
          let one : slice_index_or (chosen written from) at.0 (its 0) ≡ its i =
          get_or-map its (lost_places written 32) at.0 0 (its 0) at.1 ∙ ap its at.2 in
          let P : NewSector → Type 0 = λ s. k ≢ 32 * segment + s.sector in
          let inside = at.1 in
          absurd (subst P one (apart at.0 (its 0) (omega arith)) there)
      by_bit i less there false bit =
          let P : Bool → Type 0 = λ w. WhereWritten w (Became (slice_index_or from i [])) (view_at old segment i) (view_at now segment i) in
          ap (λ j. get_or now.views j Blank) there
          ∙ sym (unwrap_or-slice_get now.views (32 * segment + i) Blank)
          ∙ subst P bit (b.within i less)
          ∙ unwrap_or-slice_get old.views (32 * segment + i) Blank
          ∙ ap (λ j. get_or old.views j Blank) (sym there)

  pub chosen-became : BecameOf Became segment (chosen written from) old now
  chosen-became = record { info = b.info; version = b.version; long = b.sectors; each = chosen-each; others = chosen-others }
