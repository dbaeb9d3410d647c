-- At most one sector of a segment is found to be wrong, and whether one is can be decided.
use Rattle.std.proofs.Common.{◌≡◌, ◌⊎◌, ℕ, inl, inr, List, [], ◌∷◌, refl, zero, suc, ◌+◌, ◌<◌, ◌≤◌, arith, sym, ◌∙◌, subst, ap, length}
use Rattle.std.proofs.Common.{get_or, slice_get, Option, Some, None, true, cond, IsSomeAnd}
use Rattle.std.proofs.lemmas.Bool.{cases_eq, cases_lt, cases_Bool, false≢true}
use Rattle.std.proofs.lemmas.Option.{slice_get_within}
use Rattle.cartridge_laws.proofs.AppendWhole.{sector_writes_are_cartridge}
use Rattle.cartridge_laws.proofs.Blocks.{says_always}
use Rattle.cartridge_laws.proofs.Cells.{unreadable_count-first, one_agreeing_block, one_if_any}
use Rattle.cartridge_laws.proofs.ChangeViews.{held_before, worn_reads_no_more}
use Rattle.cartridge_laws.proofs.FormatCopies.{no_fewer_unreadable}
use Rattle.cartridge_laws.proofs.FormatWriting.{effects-some, worn_holds}
use Rattle.cartridge_laws.proofs.Places.{usable_small}
use Rattle.cartridge_laws.proofs.Sayings.{says_is_function}
use Rattle.cartridge_laws.proofs.Segments.{count_of_cells, cells_are_views, view_of_cartridge}
use Rattle.cartridge_laws.proofs.Whole.{with_view_whole, worn_is_view}
use Rattle.cartridge_spec.specs.Says.{Saying, Says, Data, LostSectors, Mismatch, unreadable_count, Agrees}
use Rattle.cartridge_spec.specs.Settling.{changed_by}
use Rattle.cartridge_spec.specs.Shape.{is_unreadable, usable_places, usable_count}
use Rattle.cartridge_spec.specs.Volumes.{worn}
use Rattle.command_laws.proofs.ScrubSeen.{worn_here, worn_elsewhere, finds_says}
use Rattle.command_laws.proofs.ScrubStanding.{same_place}
use Rattle.cartridge_laws.proofs.Writing.{cell_at}
use Rattle.command_laws.proofs.ScrubTurns.{steps_whole}
use Rattle.command_laws.specs.DeepScrubLaws.{FormIsFunction, FormAlways}
use Rattle.command_spec.specs.Scrub.{Looked, cells_at, reads, looked_at, Finding, IsSearched, IsWrong, HasFoundBy, FindInTurn, steps_for}
use Rattle.command_spec.specs.Scrub.{without}
use Rattle.command_laws.specs.ScrubTerms.{Finds, acts_for}
use Rattle.command_spec.specs.declared.depth.Depth.{Depth}
use Rattle.command_spec.specs.declared.depth.Depth.TheVariants.{Shallow, Deep}
use Rattle.qic_base.proofs.Steps.{Torn-all}
use Rattle.qic_base.specs.Cartridge.{Cartridge, view_at}
use Rattle.qic_base.specs.CartridgeTerms.{IsCartridge}
use Rattle.qic_base.specs.Step.{Step, worn_view, effects}
use Rattle.qic_base.specs.declared.tape.SectorView.{SectorView}
use Rattle.qic_base.specs.declared.tape.SectorView.TheVariants.{Blank, Defect, Lost, Holds}

-- ---- how many are unreadable

holds_no_less : (x y : SectorView) → ((bytes : List ℕ) → x ≡ Holds bytes → y ≡ Holds bytes) →
    cond (is_unreadable y) 1 0 ≤ cond (is_unreadable x) 1 0
holds_no_less Blank y held = one_if_any (is_unreadable y)
holds_no_less Defect y held = one_if_any (is_unreadable y)
holds_no_less Lost y held = one_if_any (is_unreadable y)
holds_no_less (Holds bytes) y held =
    let one : SectorView → ℕ = λ view. cond (is_unreadable view) 1 0 in
    let none : one y ≡ 0 = ap one (held bytes refl) in
    omega arith

-- where all that could be read but one can be read still, at most one more can't
pub count_one_more : (k : ℕ) (xs ys : List SectorView) → length xs ≡ length ys →
    ((i : ℕ) (bytes : List ℕ) → (i ≡ k → ⊥) → slice_get xs i ≡ Some (Holds bytes) → slice_get ys i ≡ Some (Holds bytes)) →
    unreadable_count ys ≤ unreadable_count xs + 1
count_one_more k [] [] long held = omega arith
count_one_more k [] (y ∷ ys) long held = absurd (omega arith)
count_one_more k (x ∷ xs) [] long held = absurd (omega arith)
count_one_more zero (x ∷ xs) (y ∷ ys) long held =
    let rest = no_fewer_unreadable ys xs (omega arith) (λ i bytes at. held (suc i) bytes (λ e. omega arith) at) in
    omega (arith, unreadable_count-first x xs, unreadable_count-first y ys, one_if_any (is_unreadable y))
count_one_more (suc k) (x ∷ xs) (y ∷ ys) long held =
    let rest = count_one_more k xs ys (omega arith) (λ i bytes apart at. held (suc i) bytes (λ e. apart (omega arith)) at) in
    let first = holds_no_less x y (λ bytes is. let at : Some y ≡ Some (Holds bytes) = held 0 bytes (λ e. omega arith)
    (ap (λ (z : SectorView). Some z) is) in cc) in
    omega (arith, unreadable_count-first x xs, unreadable_count-first y ys)

-- ---- the cells with a sector worn

-- the sector at a place among the usable ones
pub record IsPlace (l : Looked) (place sector : ℕ) : Type 0 where
  pub within : place < usable_count l.mask
  pub index : get_or (usable_places l.mask) place 0 ≡ sector

pub wrong_place : {c : Cartridge} {l : Looked} {sector : ℕ} {ds : List (List ℕ)} (wrong : IsWrong c l sector ds) →
    IsPlace l wrong.place sector
wrong_place wrong = record { within = wrong.within; index = wrong.index }

-- all other cells are as they were
pub cell_unworn : (c : Cartridge) (l : Looked) (place sector i : ℕ) (bytes : List ℕ) → IsPlace l place sector → (i ≡ place → ⊥) →
    slice_get (cells_at c l) i ≡ Some (Holds bytes) → slice_get (cells_at (worn l.segment sector c) l) i ≡ Some (Holds bytes)
cell_unworn c l place sector i bytes is apart at =
    let here : i < length (cells_at c l) = slice_get_within (cells_at c l) i (Holds bytes) at in
    let h : i < usable_count l.mask = omega (arith, count_of_cells c l.segment l.mask) in
    let small : sector < 32 = subst (λ (j : ℕ). j < 32) is.index (usable_small l.mask place is.within) in
    cell_at (worn l.segment sector c) l.segment l.mask i h
    ∙ ap (λ (v : SectorView). Some v) (worn_elsewhere c l.segment sector l.segment (get_or (usable_places l.mask) i 0) small
    (usable_small l.mask i h)
    (λ same e. apart (same_place l.mask i place h is.within (sym e ∙ sym is.index))))
    ∙ sym (cell_at c l.segment l.mask i h) ∙ at

-- and that one can't be read
pub cell_worn : (c : Cartridge) (l : Looked) (place sector : ℕ) (bytes : List ℕ) → IsPlace l place sector →
    slice_get (cells_at (worn l.segment sector c) l) place ≡ Some (Holds bytes) → ⊥
cell_worn c l place sector bytes is at =
    let d : Cartridge = worn l.segment sector c in
    let both : Some (Holds bytes) ≡ Some (view_at d l.segment sector) =
    sym at ∙ cell_at d l.segment l.mask place is.within ∙ ap (λ (j : ℕ). Some (view_at d l.segment j)) is.index in
    let view : view_at d l.segment sector ≡ Holds bytes = cc in
    worn_holds (view_at c l.segment sector) bytes (sym (worn_here c l.segment sector) ∙ view)

pub worn_count : (c : Cartridge) (l : Looked) (place sector : ℕ) → IsPlace l place sector →
    unreadable_count (cells_at (worn l.segment sector c) l) ≤ unreadable_count (cells_at c l) + 1
worn_count c l place sector is =
    count_one_more place (cells_at c l) (cells_at (worn l.segment sector c) l)
    (count_of_cells c l.segment l.mask ∙ sym (count_of_cells (worn l.segment sector c) l.segment l.mask))
    (λ i bytes apart at. cell_unworn c l place sector i bytes is apart at)

-- ---- one wrong sector

pub agrees_less : (xs ys : List SectorView) (block : List (List ℕ)) → length xs ≡ length ys →
    ((i : ℕ) (bytes : List ℕ) → slice_get ys i ≡ Some (Holds bytes) → slice_get xs i ≡ Some (Holds bytes)) → Agrees xs block →
    Agrees ys block
agrees_less xs ys block long held agrees = record {
  size = agrees.size ∙ long;
  each = λ i bytes at. agrees.each i bytes (held i bytes at);
}

no_two_wrong : (c : Cartridge) (l : Looked) (i j : ℕ) (ds es : List (List ℕ)) → IsWrong c l i ds → IsWrong c l j es → (i ≡ j → ⊥) → ⊥
no_two_wrong c l i j ds es one two apart =
    let ci : Cartridge = worn l.segment i c in
    let cj : Cartridge = worn l.segment j c in
    let both : Cartridge = worn l.segment j ci in
    let first : IsPlace l one.place i = wrong_place one in
    let second : IsPlace l two.place j = wrong_place two in
    let size : (a b : Cartridge) → length (cells_at a l) ≡ length (cells_at b l) =
    λ a b. count_of_cells a l.segment l.mask ∙ sym (count_of_cells b l.segment l.mask) in
    let few : unreadable_count (cells_at both l) ≤ 3 =
    omega (arith, worn_count c l one.place i first, worn_count ci l two.place j second, one.few) in
    let in_first : (k : ℕ) (bytes : List ℕ) → slice_get (cells_at both l) k ≡ Some (Holds bytes) →
    slice_get (cells_at ci l) k ≡ Some (Holds bytes) =
    λ k bytes at. held_before ci both l.segment l.mask k bytes (worn_reads_no_more ci l.segment j) at in
    let in_second : (k : ℕ) (bytes : List ℕ) → slice_get (cells_at both l) k ≡ Some (Holds bytes) →
    slice_get (cells_at cj l) k ≡ Some (Holds bytes) =
    λ k bytes at. elim (cases_eq k two.place) [
      | inl same ↦ absurd (cell_worn ci l two.place j bytes second
          (subst (λ (p : ℕ). slice_get (cells_at both l) p ≡ Some (Holds bytes)) same at))
      | inr other ↦
          cell_unworn c l two.place j k bytes second other
          (held_before c ci l.segment l.mask k bytes (worn_reads_no_more c l.segment i) (in_first k bytes at))
    ] in
    let has = one.says.1 in
    let other = two.says.1 in
    let same : has.block ≡ other.block =
    one_agreeing_block (cells_at both l) has.block other.block has.code other.code
    (agrees_less (cells_at ci l) (cells_at both l) has.block (size ci both) in_first has.agrees)
    (agrees_less (cells_at cj l) (cells_at both l) other.block (size cj both) in_second other.agrees) few in
    one.mismatch.1 has.block has.code (record {
      size = has.agrees.size ∙ size ci c;
      each = λ k bytes at. elim (cases_eq k one.place) [
        | inl here ↦
            let away : k ≡ two.place → ⊥ =
            λ there. apart (sym first.index ∙ ap (λ (p : ℕ). get_or (usable_places l.mask) p 0) (sym here ∙ there) ∙ second.index) in
            ap (λ (block : List (List ℕ)). slice_get block k) same
            ∙ other.agrees.each k bytes (cell_unworn c l two.place j k bytes second away at)
        | inr away ↦ has.agrees.each k bytes (cell_unworn c l one.place i k bytes first away at)
      ];
    })

pub one_wrong : (c : Cartridge) (l : Looked) (i j : ℕ) (ds es : List (List ℕ)) → IsWrong c l i ds → IsWrong c l j es → i ≡ j
one_wrong c l i j ds es one two =
    elim (cases_eq i j) [
      | inl same ↦ same
      | inr apart ↦ absurd (no_two_wrong c l i j ds es one two apart)
    ]

finding_same : (f g : Finding) → f.saying ≡ g.saying → f.wrong ≡ g.wrong → f ≡ g
finding_same f g saying wrong =
    ap (λ (s : Saying). record { saying = s; wrong = f.wrong }) saying
    ∙ ap (λ (w : Option ℕ). record { saying = g.saying; wrong = w }) wrong

pub found_once : (searched : Type 0) (c : Cartridge) (l : Looked) (s t : Saying) (v w : Option ℕ) → HasFoundBy searched c l s v →
    HasFoundBy searched c l t w →
    (s ≡ t) × (v ≡ w)
found_once searched c l s t None None one two = (says_is_function (cells_at c l) s t one.0 two.0, refl)
found_once searched c l s t None (Some j) one two = absurd (one.1 two.0 j two.1 two.3)
found_once searched c l s t (Some i) None one two = absurd (two.1 one.0 i one.1 one.3)
found_once searched c l s t (Some i) (Some j) one two =
    let index : i ≡ j = one_wrong c l i j one.1 two.1 one.3 two.3 in
    let same : Data one.1 ≡ Data two.1 =
    says_is_function (cells_at (worn l.segment j c) l) (Data one.1) (Data two.1)
    (subst (λ (k : ℕ). Says (cells_at (worn l.segment k c) l) (Data one.1)) index one.3.says) two.3.says in
    (one.2 ∙ same ∙ sym two.2, ap (λ (k : ℕ). Some k) index)

pub finds_one : (depth : Depth) (c : Cartridge) (l : Looked) (f g : Finding) → Finds depth c l f → Finds depth c l g → f ≡ g
finds_one depth c l f g one two =
    let both = found_once (IsSearched depth l) c l f.saying g.saying f.wrong g.wrong one two in
    finding_same f g both.0 both.1

pub one_turn : (depth : Depth) (ls : List Looked) (c : Cartridge) (fs gs : List Finding) → FindInTurn depth c ls fs →
    FindInTurn depth c ls gs → fs ≡ gs
one_turn depth [] c [] [] a b = refl
one_turn depth [] c [] (g ∷ gs) a b = absurd b
one_turn depth [] c (f ∷ fs) gs a b = absurd a
one_turn depth (l ∷ ls) c [] gs a b = absurd a
one_turn depth (l ∷ ls) c (f ∷ fs) [] a b = absurd b
one_turn depth (l ∷ ls) c (f ∷ fs) (g ∷ gs) a b =
    let same : f ≡ g = finds_one depth c l f g a.0 b.0 in
    let rest : fs ≡ gs =
    one_turn depth ls (changed_by (steps_for c l f) c) fs gs a.1
    (subst (λ (x : Finding). FindInTurn depth (changed_by (steps_for c l x) c) ls gs) (sym same) b.1) in
    ap (λ (x : Finding). x ∷ fs) same ∙ ap (λ (xs : List Finding). g ∷ xs) rest

pub form_is_function : FormIsFunction
form_is_function depth c words entries a b one other =
    one.are ∙ ap (acts_for c (looked_at words entries))
    (one_turn depth (looked_at words entries) c one.findings other.findings one.found other.found)
    ∙ sym other.are

-- ---- whether there is one

-- with a sector lost the segment says data and reads, or does not
data_or_not : (cells : List SectorView) (l : Looked) (s : Saying) → Says cells s →
    ((ds : List (List ℕ)) × Says cells (Data ds) × (reads l (Data ds) ≡ true))
    ⊎ ((ds : List (List ℕ)) → Says cells (Data ds) → reads l (Data ds) ≡ true → ⊥)
data_or_not cells l (Data ds) says =
    elim (cases_Bool (reads l (Data ds))) [
      | inl can ↦ inl (ds, says, can)
      | inr fails ↦ inr (λ es other can. false≢true (sym fails ∙ ap (reads l) (says_is_function cells (Data ds) (Data es) says other)
          ∙ can))
    ]
data_or_not cells l (LostSectors n) says = inr (λ es other can. let both = says_is_function cells (LostSectors n) (Data es) says other in
    cc)
data_or_not cells l Mismatch says = inr (λ es other can. let both = says_is_function cells Mismatch (Data es) says other in cc)

worn_whole : (c : Cartridge) (segment sector : ℕ) → IsCartridge c → IsCartridge (worn segment sector c)
worn_whole c segment sector whole =
    with_view_whole c segment sector (worn_view (view_at c segment sector)) whole
    (worn_is_view (view_at c segment sector) (view_of_cartridge c segment sector whole))

pub record IsSomeWrong (c : Cartridge) (l : Looked) : Type 0 where
  pub sector : ℕ
  pub sectors : List (List ℕ)
  pub wrong : IsWrong c l sector sectors

-- no sector at one of the first places is wrong
abbrev NoneBefore : Cartridge → Looked → ℕ → Type 0
NoneBefore c l n = (sector : ℕ) (ds : List (List ℕ)) (wrong : IsWrong c l sector ds) → wrong.place < n → ⊥

search_before : (c : Cartridge) (l : Looked) (n : ℕ) → n ≤ usable_count l.mask → IsCartridge c → Says (cells_at c l) Mismatch →
    unreadable_count (cells_at c l) ≤ 1 → IsSomeWrong c l ⊎ NoneBefore c l n
search_before c l zero h whole mismatch few = inr (λ sector ds wrong below. omega arith)
search_before c l (suc n) h whole mismatch few =
    let sector : ℕ = get_or (usable_places l.mask) n 0 in
    let d : Cartridge = worn l.segment sector c in
    let says = says_always (cells_at d l) (cells_are_views d l.segment l.mask (worn_whole c l.segment sector whole)) in
    elim (data_or_not (cells_at d l) l says.0 says.1) [
      | inl found ↦ inl (record {
        sector = sector;
        sectors = found.0;
        wrong = record {
          place = n;
          within = omega arith;
          index = refl;
          mismatch = mismatch;
          few = few;
          says = found.1;
          can_be_read = found.2;
        };
      })
      | inr none ↦ elim (search_before c l n (omega arith) whole mismatch few) [
        | inl found ↦ inl found
        | inr before ↦ inr (λ other ds wrong below. elim (cases_eq wrong.place n) [
          | inl here ↦
              let same : sector ≡ other = ap (λ (p : ℕ). get_or (usable_places l.mask) p 0) (sym here) ∙ wrong.index in
              none ds (subst (λ (i : ℕ). Says (cells_at (worn l.segment i c) l) (Data ds)) (sym same) wrong.says) wrong.can_be_read
          | inr apart ↦ before other ds wrong (omega arith)
        ])
      ]
    ]

pub search : (c : Cartridge) (l : Looked) (s : Saying) → IsCartridge c → Says (cells_at c l) s →
    IsSomeWrong c l ⊎ ((sector : ℕ) (ds : List (List ℕ)) → IsWrong c l sector ds → ⊥)
search c l (Data xs) whole says = inr (λ sector ds wrong. let both = says_is_function (cells_at c l)
    (Data xs) Mismatch says wrong.mismatch in cc)
search c l (LostSectors n) whole says = inr
    (λ sector ds wrong. let both = says_is_function (cells_at c l) (LostSectors n) Mismatch says wrong.mismatch in cc)
search c l Mismatch whole says =
    elim (cases_lt (unreadable_count (cells_at c l)) 2) [
      | inl few ↦ elim (search_before c l (usable_count l.mask) (omega arith) whole says (omega arith)) [
        | inl found ↦ inl found
        | inr none ↦ inr (λ sector ds wrong. none sector ds wrong wrong.within)
      ]
      | inr many ↦ inr (λ sector ds wrong. let one : unreadable_count (cells_at c l) ≤ 1 = wrong.few in omega arith)
    ]

is_searched : (depth : Depth) (l : Looked) → IsSearched depth l ⊎ (IsSearched depth l → ⊥)
is_searched Shallow l = inr (λ searched. searched)
is_searched Deep l =
    elim (cases_eq l.segment 2) [
      | inl is ↦ inr (λ searched. searched is)
      | inr apart ↦ inl apart
    ]

finds_always : (depth : Depth) (c : Cartridge) (l : Looked) → IsCartridge c → (f : Finding) × Finds depth c l f
finds_always depth c l whole =
    let says = says_always (cells_at c l) (cells_are_views c l.segment l.mask whole) in
    elim (is_searched depth l) [
      | inr not ↦ (record { saying = says.0; wrong = None }, (says.1, λ searched. absurd (not searched)))
      | inl searched ↦ elim (search c l says.0 whole says.1) [
        | inl found ↦ (record { saying = Data found.sectors; wrong = Some found.sector }, (searched, found.sectors, refl, found.wrong))
        | inr none ↦ (record { saying = says.0; wrong = None }, (says.1, λ is. none))
      ]
    ]

-- what the writes of one segment leave is a cartridge
found_whole : (depth : Depth) (c : Cartridge) (l : Looked) (f : Finding) → IsCartridge c → Finds depth c l f →
    IsCartridge (changed_by (steps_for c l f) c)
found_whole depth c l f whole found =
    let steps : List Step = steps_for c l f in
    subst (λ (o : Option Cartridge). IsSomeAnd o IsCartridge) (effects-some steps c)
    (sector_writes_are_cartridge c steps (effects steps (Some c)) whole
    (steps_whole (without f.wrong l c) l f.saying (finds_says depth c l f found))
    (Torn-all steps (Some c)))

some_turn : (depth : Depth) (ls : List Looked) (c : Cartridge) → IsCartridge c → (fs : List Finding) × FindInTurn depth c ls fs
some_turn depth [] c whole = ([], tt)
some_turn depth (l ∷ ls) c whole =
    let here = finds_always depth c l whole in
    let rest = some_turn depth ls (changed_by (steps_for c l here.0) c) (found_whole depth c l here.0 whole here.1) in
    (here.0 ∷ rest.0, (here.1, rest.1))

pub form_always : FormAlways
form_always depth c words entries whole =
    let all = some_turn depth (looked_at words entries) c whole in
    (acts_for c (looked_at words entries) all.0, record { findings = all.0; found = all.1; are = refl })
