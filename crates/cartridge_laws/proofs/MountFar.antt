-- What the reading of a table tells of its segment, where sectors were left out of account.
use Rattle.std.proofs.Common.{◌≡◌, ◌⊎◌, ℕ, suc, ◌+◌, inl, inr, subst, arith, Bool, true, List, [], ◌∷◌, ◌<◌, sym, ◌∙◌, ap, ◌≢◌, ◌≤◌, length}
use Rattle.std.proofs.Common.{slice_get, Option, Some, zero, ◌++◌, None, refl, length-append}
use Rattle.std.specs.Prelude.{if◌then◌else◌, unwrap_or, ◌==◌}
use Rattle.std.proofs.lemmas.Bool.{cases_Bool, true≢false, cases_eq, ne_eqb, cases_lt, le-ltb}
use Rattle.cartridge_laws.proofs.Cells.{unreadable_at}
use Rattle.cartridge_laws.proofs.FormatCopies.{view_held}
use Rattle.cartridge_laws.proofs.Hiding.{nothing_is_hidden}
use Rattle.cartridge_laws.proofs.MountNear.{gone_or_read, IsRead, PartOrGone, AllBut}
use Rattle.cartridge_laws.proofs.MountParts.{length-block}
use Rattle.cartridge_laws.proofs.MountSeen.{not_both, gone_there, HoldsOutside, sets_of_one, sets_of_two}
use Rattle.cartridge_laws.proofs.MountSoFar.{IsBase}
use Rattle.cartridge_laws.proofs.MountStanding.{said_area}
use Rattle.cartridge_laws.proofs.Readings.{AreAmong}
use Rattle.cartridge_laws.proofs.Sayings.{said_are_sectors, said_is_written}
use Rattle.cartridge_laws.proofs.Segments.{length-whole_cells}
use Rattle.cartridge_laws.proofs.Sets.{IsOneOf, none_is_unnamed, one_is_named, length-hidden, seen_outside, few_outside}
use Rattle.cartridge_laws.proofs.Sets.{unreadable_is_named}
use Rattle.cartridge_laws.specs.MountBlocks.{HoldsPart}
use Rattle.cartridge_laws.specs.Segment.{IsUnreadable, hidden}
use Rattle.cartridge_spec.specs.Code.{parity_sectors}
use Rattle.cartridge_spec.specs.TableSegment.{table_cells, TableIs, ReadsPlainly}
use Rattle.cartridge_spec.specs.Shape.{IsArea, is_unreadable}
use Rattle.cartridge_spec.specs.Says.{Says, Data, Agrees, HasBlock, unreadable_count, with_parity, HasFirstBlock, unreadable_from, set_of}
use Rattle.cartridge_spec.specs.Says.{shows_used_slot, last_used_below, with_used, sets_by}
use Rattle.cartridge_laws.specs.TableCells.{unreadable_places, last_used, sets_by_one, sets_by_two}
use Rattle.gf256_qic.proofs.Parities.{length-parity_sectors}
use Rattle.qic_base.specs.Cartridge.{Cartridge, view_at}
use Rattle.qic_base.specs.declared.tape.SectorView.{SectorView}
use Rattle.qic_base.specs.declared.tape.SectorView.TheVariants.{Holds, Lost}

-- ---- what a set tells

-- the unreadable places are unreadable
named_is_unreadable : (place : ℕ) (cells : List SectorView) (j : ℕ) → IsOneOf (unreadable_from place cells) j →
    (i : ℕ) × (j ≡ place + i) × (unreadable_at cells i ≡ true)
unfolding unreadable_from unreadable_at
named_is_unreadable place [] j one = absurd one
named_is_unreadable place (cell ∷ cells) j one =
    elim (cases_Bool (is_unreadable cell)) [
      | inl gone ↦
          by_first gone (subst (λ (b : Bool). IsOneOf
          (if b then place ∷ unreadable_from (suc place) cells else unreadable_from (suc place) cells) j)
          gone one) (λ rest. named_is_unreadable (suc place) cells j rest)
      | inr kept ↦
          later (named_is_unreadable (suc place) cells j
          (subst (λ (b : Bool). IsOneOf (if b then place ∷ unreadable_from (suc place) cells else unreadable_from (suc place) cells) j) kept
          one))
    ]
  where
    later : (i : ℕ) × (j ≡ suc place + i) × (unreadable_at cells i ≡ true) →
        (i : ℕ) × (j ≡ place + i) × (unreadable_at (cell ∷ cells) i ≡ true)
    later found = (suc found.0, (let same : j ≡ suc place + found.0 = found.1 in omega arith), found.2)

    by_first : is_unreadable cell ≡ true → (j ≡ place) ⊎ IsOneOf (unreadable_from (suc place) cells) j →
        (IsOneOf (unreadable_from (suc place) cells) j → (i : ℕ) × (j ≡ suc place + i) × (unreadable_at cells i ≡ true)) →
        (i : ℕ) × (j ≡ place + i) × (unreadable_at (cell ∷ cells) i ≡ true)
    by_first gone (inl same) rest = (0, (omega arith), gone)
    by_first gone (inr one) rest = later (rest one)

is_gone : (c : Cartridge) (i : ℕ) → i < 32 → IsOneOf (unreadable_places (table_cells c)) i → IsUnreadable (view_at c 2 i)
is_gone c i h one =
    let found = named_is_unreadable 0 (table_cells c) i one in
    let same : i ≡ 0 + found.0 = found.1 in
    let there : found.0 ≡ i = omega arith in
    let un : unreadable_at (table_cells c) i ≡ true = ap (unreadable_at (table_cells c)) (sym there) ∙ found.2 in
    elim (gone_or_read (view_at c 2 i)) [
      | inl gone ↦ gone
      | inr read ↦ not_both (table_cells c) i un (read.0, view_held c 2 i read.0 h read.1)
    ]

-- each other sector can be read
read_there : (c : Cartridge) (ps : List ℕ) (i : ℕ) → AreAmong (table_cells c) ps → i < 32 → (IsOneOf ps i → ⊥) → IsRead (view_at c 2 i)
read_there c ps i among h not_one =
    elim (gone_or_read (view_at c 2 i)) [
      | inl gone ↦ absurd (not_one (among i (gone_there c i h gone)))
      | inr read ↦ read
    ]

-- the sectors outside a set with a block hold their parts
outside : (c : Cartridge) (area : List (List ℕ)) (ps : List ℕ) → length ps ≤ 3 → AreAmong (table_cells c) ps →
    HasBlock (hidden (set_of ps) (table_cells c)) area → IsArea area × HoldsOutside c area ps
outside c area ps few among has =
    let cells : List SectorView = hidden (set_of ps) (table_cells c) in
    let count : unreadable_count cells ≤ length ps = few_outside (table_cells c) ps among in
    let says : Says cells (Data area) = ((omega arith), has) in
    let are = said_are_sectors cells area says in
    let size : length area + 3 ≡ length cells = are.size in
    let long : length cells ≡ 32 = length-hidden (set_of ps) 0 (table_cells c) ∙ length-whole_cells c 2 in
    let written : Agrees cells (with_parity area) = said_is_written cells area says in (
      record { size = omega arith; sectors = are.each },
      λ i h none.
          let read = read_there c ps i among h (λ one.
          true≢false (sym (one_is_named ps i one) ∙ none_is_unnamed ps i none)) in
          let there : slice_get (with_parity area) i ≡ Some read.0 =
          written.each i read.0 (seen_outside (set_of ps) (table_cells c) i read.0 (none_is_unnamed ps i none)
          (view_held c 2 i read.0 h read.1)) in
          read.1 ∙ ap Holds (sym (ap (λ (o : Option (List ℕ)). unwrap_or o []) there)),
    )

-- ---- what was left out of account

-- a sector of data that can be read may differ, beside an unreadable one; the first sector of parity may be unreadable
pub record IsApart (c : Cartridge) (area : List (List ℕ)) (m k : ℕ) : Type 0 where
  pub is_area : IsArea area
  pub small : m < 29
  pub place : k < 29
  pub gone : IsUnreadable (view_at c 2 m)
  pub read : k ≢ m → IsRead (view_at c 2 k)
  pub holds : HoldsOutside c area (k ∷ m ∷ 29 ∷ [])
  pub first : PartOrGone c area 29

abbrev pub IsFar : Cartridge → (area : List (List ℕ)) → Type 0
IsFar c area = ((m : ℕ) × IsBase c area m) ⊎ ((m : ℕ) × (k : ℕ) × IsApart c area m k)

far_base : (c : Cartridge) (area : List (List ℕ)) (m : ℕ) → TableIs c area → IsArea area → m < 29 → IsUnreadable (view_at c 2 m) →
    AllBut c area m → (HoldsPart c area 30 × HoldsPart c area 31) ⊎ (HoldsPart c area 29 × IsRead (view_at c 2 31)) → IsFar c area
far_base c area m reads is small gone data_sectors parity =
    inl (
      m,
      record {
        is_area = is;
        small = small;
        gone = gone;
        data_sectors = data_sectors;
        reads = reads;
        parity = parity;
      },
    )

far_third : (c : Cartridge) (area : List (List ℕ)) (m : ℕ) → TableIs c area → IsArea area → m < 29 → IsUnreadable (view_at c 2 m) →
    HoldsOutside c area (m ∷ 30 ∷ 31 ∷ []) → IsRead (view_at c 2 31) → IsFar c area
far_third c area m reads is small gone holds read =
    far_base c area m reads is small gone
    (λ i h apart. holds i (omega arith) (apart, ((λ e. omega arith), ((λ e. omega arith), tt))))
    (inr (holds 29 (omega arith) ((λ e. omega arith), ((λ e. omega arith), ((λ e. omega arith), tt))), read))

far_first : (c : Cartridge) (area : List (List ℕ)) (m : ℕ) → TableIs c area → IsArea area → m < 29 → IsUnreadable (view_at c 2 m) →
    HoldsOutside c area (m ∷ 29 ∷ []) → IsFar c area
far_first c area m reads is small gone holds =
    far_base c area m reads is small gone
    (λ i h apart. holds i (omega arith) (apart, ((λ e. omega arith), tt)))
    (inl (
      holds 30 (omega arith) ((λ e. omega arith), ((λ e. omega arith), tt)),
      holds 31 (omega arith) ((λ e. omega arith), ((λ e. omega arith), tt)),
    ))

last_below : (cells : List SectorView) (n k : ℕ) → last_used_below cells n ≡ Some k → k < n
unfolding last_used_below
last_below cells zero k is = absurd (cc)
last_below cells (suc n) k is =
    let shown : Bool = shows_used_slot (unwrap_or (slice_get cells n) Lost) in
    elim (cases_Bool shown) [
      | inl shows ↦
          let here : Some n ≡ Some k = sym (ap (λ (b : Bool). if b then Some n else last_used_below cells n) shows) ∙ is in
          let same : n ≡ k = cc in
          omega arith
      | inr hides ↦
          let rest : k < n = last_below cells n k (sym (ap (λ (b : Bool). if b then Some n else last_used_below cells n) hides) ∙ is) in
          omega arith
    ]

far_beside : (c : Cartridge) (area : List (List ℕ)) (m k : ℕ) → last_used (table_cells c) ≡ Some k → IsArea area → m < 29 →
    IsUnreadable (view_at c 2 m) → (k ≢ m → IsRead (view_at c 2 k)) → HoldsOutside c area (k ∷ m ∷ 29 ∷ []) → PartOrGone c area 29 →
    IsFar c area
far_beside c area m k used is small gone read holds first =
    inr (
      m,
      k,
      record {
        is_area = is;
        small = small;
        place = last_below (table_cells c) 29 k used;
        gone = gone;
        read = read;
        holds = holds;
        first = first;
      },
    )

only_this : (m i : ℕ) → i ≢ m → IsOneOf (m ∷ []) i → ⊥
only_this m i apart (inl same) = apart same
only_this m i apart (inr more) = more

these_two : (m p i : ℕ) → i ≢ m → i ≢ p → IsOneOf (m ∷ p ∷ []) i → ⊥
these_two m p i apart away (inl same) = apart same
these_two m p i apart away (inr (inl same)) = away same
these_two m p i apart away (inr (inr more)) = more

front_of : (m i : ℕ) (ps : List ℕ) → IsOneOf (m ∷ []) i → IsOneOf (m ∷ ps) i
front_of m i ps (inl same) = inl same
front_of m i ps (inr more) = absurd more

-- ---- one sector is unreadable

far_by_one : (c : Cartridge) (area : List (List ℕ)) (m : ℕ) (used : Option ℕ) → last_used (table_cells c) ≡ used → TableIs c area →
    m < 29 → IsUnreadable (view_at c 2 m) →
    AreAmong (table_cells c) (m ∷ []) → HasFirstBlock (sets_by_one used m) (table_cells c) area → IsFar c area
far_by_one c area m used is_used reads small gone among (inl third) =
    let out = outside c area (m ∷ 31 ∷ []) (omega arith) (λ i un. front_of m i (31 ∷ []) (among i un)) third in
    far_third c area m reads out.0 small gone (λ i h none. out.1 i h (none.0, (none.1.1.0, tt)))
    (read_there c (m ∷ []) 31 among (omega arith) (only_this m 31 (λ e. omega arith)))
far_by_one c area m used is_used reads small gone among (inr (_, inl first)) =
    let out = outside c area (m ∷ 29 ∷ []) (omega arith) (λ i un. front_of m i (29 ∷ []) (among i un)) first in
    far_first c area m reads out.0 small gone out.1
far_by_one c area m used is_used reads small gone among (inr (_, inr (_, rest))) = by_used used is_used rest
  where
    both : HasBlock (hidden (set_of (m ∷ 30 ∷ 31 ∷ [])) (table_cells c)) area → IsFar c area
    both has =
        let out = outside c area (m ∷ 30 ∷ 31 ∷ []) (omega arith) (λ i un. front_of m i (30 ∷ 31 ∷ []) (among i un)) has in
        far_third c area m reads out.0 small gone out.1
        (read_there c (m ∷ []) 31 among (omega arith) (only_this m 31 (λ e. omega arith)))

    with_k : (k : ℕ) → last_used (table_cells c) ≡ Some k → HasBlock (hidden (set_of (k ∷ m ∷ [])) (table_cells c)) area → IsFar c area
    with_k k is has =
        let place : k < 29 = last_below (table_cells c) 29 k is in
        let out = outside c area (k ∷ m ∷ []) (omega arith) (λ i un. inr (among i un)) has in
        far_beside c area m k is out.0 small gone
        (λ apart. read_there c (m ∷ []) k among (omega arith) (only_this m k apart))
        (λ i h none. out.1 i h (none.0, (none.1.0, tt)))
        (inl (out.1 29 (omega arith) ((λ e. omega arith), ((λ e. omega arith), tt))))

    by_used : (u : Option ℕ) → last_used (table_cells c) ≡ u →
        HasFirstBlock (with_used u (m ∷ []) ++ set_of (m ∷ 30 ∷ 31 ∷ []) ∷ []) (table_cells c) area → IsFar c area
    by_used None is (inl has) = both has
    by_used None is (inr none) = absurd none.1
    by_used (Some k) is (inl has) = with_k k is has
    by_used (Some k) is (inr (_, inl has)) = both has
    by_used (Some k) is (inr (_, inr none)) = absurd none.1

-- ---- two are

far_by_two : (c : Cartridge) (area : List (List ℕ)) (m other : ℕ) (used : Option ℕ) → last_used (table_cells c) ≡ used → TableIs c area →
    m < 29 → unreadable_places (table_cells c) ≡ m ∷ other ∷ [] →
    AreAmong (table_cells c) (m ∷ other ∷ []) → HasFirstBlock (sets_by_two used m other) (table_cells c) area → IsFar c area
far_by_two c area m other used is_used reads small places among first =
    elim (cases_eq other 29) [
      | inl same ↦ with_first used is_used
          (subst (λ (p : ℕ). AreAmong (table_cells c) (m ∷ p ∷ [])) same among)
          (subst (λ (p : ℕ). unreadable_places (table_cells c) ≡ m ∷ p ∷ []) same places)
          (subst (λ (p : ℕ). HasFirstBlock (sets_by_two used m p) (table_cells c) area) same first)
      | inr apart ↦ elim (cases_eq other 30) [
        | inl same ↦ with_second
            (subst (λ (p : ℕ). AreAmong (table_cells c) (m ∷ p ∷ [])) same among)
            (subst (λ (p : ℕ). HasFirstBlock (sets_by_two used m p) (table_cells c) area) same first)
        | inr away ↦
            let none : sets_by_two used m other ≡ [] =
            ap (λ (b : Bool). if b then with_used used (m ∷ 29 ∷ []) else if other == 30 then set_of (m ∷ 30 ∷ 31 ∷ []) ∷ [] else [])
            (ne_eqb other 29 apart)
            ∙ ap (λ (b : Bool). if b then set_of (m ∷ 30 ∷ 31 ∷ []) ∷ [] else []) (ne_eqb other 30 away) in
            absurd (subst (λ (ss : List ℕ). HasFirstBlock ss (table_cells c) area) none first)
      ]
    ]
  where
    gone : IsUnreadable (view_at c 2 m)
    gone = is_gone c m (omega arith) (subst (λ (ps : List ℕ). IsOneOf ps m) (sym places) (inl refl))

    with_first : (u : Option ℕ) → last_used (table_cells c) ≡ u → AreAmong (table_cells c) (m ∷ 29 ∷ []) →
        unreadable_places (table_cells c) ≡ m ∷ 29 ∷ [] →
        HasFirstBlock (with_used u (m ∷ 29 ∷ [])) (table_cells c) area → IsFar c area
    with_first None is those found none = absurd none
    with_first (Some k) is those found (inl has) =
        let place : k < 29 = last_below (table_cells c) 29 k is in
        let out = outside c area (k ∷ m ∷ 29 ∷ []) (omega arith) (λ i un. inr (those i un)) has in
        far_beside c area m k is out.0 small gone
        (λ apart. read_there c (m ∷ 29 ∷ []) k those (omega arith) (these_two m 29 k apart (λ e. omega arith)))
        out.1
        (inr (is_gone c 29 (omega arith) (subst (λ (ps : List ℕ). IsOneOf ps 29) (sym found) (inr (inl refl)))))
    with_first (Some k) is those found (inr none) = absurd none.1

    with_second : AreAmong (table_cells c) (m ∷ 30 ∷ []) → HasFirstBlock (set_of (m ∷ 30 ∷ 31 ∷ []) ∷ []) (table_cells c) area →
        IsFar c area
    with_second those (inl has) =
        let out = outside c area (m ∷ 30 ∷ 31 ∷ []) (omega arith) (λ i un. wider i (those i un)) has in
        far_third c area m reads out.0 small gone out.1
        (read_there c (m ∷ 30 ∷ []) 31 those (omega arith) (these_two m 30 31 (λ e. omega arith) (λ e. omega arith)))
      where
        wider : (i : ℕ) → IsOneOf (m ∷ 30 ∷ []) i → IsOneOf (m ∷ 30 ∷ 31 ∷ []) i
        wider i (inl same) = inl same
        wider i (inr (inl same)) = inr (inl same)
        wider i (inr (inr more)) = absurd more
    with_second those (inr none) = absurd none.1

-- ---- any

far_by : (c : Cartridge) (area : List (List ℕ)) (places : List ℕ) → unreadable_places (table_cells c) ≡ places → TableIs c area →
    HasFirstBlock (sets_by (last_used (table_cells c)) places) (table_cells c) area → IsFar c area
far_by c area [] found reads first = absurd first
far_by c area (m ∷ []) found reads first =
    let used : Option ℕ = last_used (table_cells c) in
    let among : AreAmong (table_cells c) (m ∷ []) =
    λ i un. subst (λ (ps : List ℕ). IsOneOf ps i) found (unreadable_is_named (table_cells c) i un) in
    elim (cases_lt m 29) [
      | inl small ↦
          far_by_one c area m used refl reads small
          (is_gone c m (omega arith) (subst (λ (ps : List ℕ). IsOneOf ps m) (sym found) (inl refl))) among
          (subst (λ (ss : List ℕ). HasFirstBlock ss (table_cells c) area) (sets_of_one used m small) first)
      | inr large ↦
          absurd (subst (λ (ss : List ℕ). HasFirstBlock ss (table_cells c) area)
          (ap (λ (b : Bool). if b then sets_by_one used m else []) (le-ltb m 29 large)) first)
    ]
far_by c area (m ∷ other ∷ []) found reads first =
    let used : Option ℕ = last_used (table_cells c) in
    let among : AreAmong (table_cells c) (m ∷ other ∷ []) =
    λ i un. subst (λ (ps : List ℕ). IsOneOf ps i) found (unreadable_is_named (table_cells c) i un) in
    elim (cases_lt m 29) [
      | inl small ↦
          far_by_two c area m other used refl reads small found among
          (subst (λ (ss : List ℕ). HasFirstBlock ss (table_cells c) area) (sets_of_two used m other small) first)
      | inr large ↦
          absurd (subst (λ (ss : List ℕ). HasFirstBlock ss (table_cells c) area)
          (ap (λ (b : Bool). if b then sets_by_two used m other else []) (le-ltb m 29 large)) first)
    ]
far_by c area (m ∷ other ∷ third ∷ more) found reads first = absurd first

-- plainly, or by one of the sets
pub is_far : (c : Cartridge) (area : List (List ℕ)) → TableIs c area → ReadsPlainly c area ⊎ IsFar c area
is_far c area (inl reads) = inl (inl reads)
is_far c area (inr (some, (few, inl has))) =
    inl (inr (few, subst (λ (cells : List SectorView). HasBlock cells area) (nothing_is_hidden (table_cells c)) has))
is_far c area (inr (some, (few, inr (none, first)))) =
    inr (far_by c area (unreadable_places (table_cells c)) refl (inr (some, (few, inr (none, first)))) first)

-- ---- the data

pub far_area : (c : Cartridge) (area : List (List ℕ)) → IsFar c area → IsArea area
far_area c area (inl (m, base)) = base.is_area
far_area c area (inr (m, k, apart)) = apart.is_area

-- their block has 32 sectors
pub length-table_block : (c : Cartridge) (area : List (List ℕ)) → TableIs c area → length (with_parity area) ≡ 32
length-table_block c area reads =
    elim (is_far c area reads) [ inl plain ↦ by_plain plain | inr far ↦ length-block area (far_area c area far) ]
  where
    by_plain : ReadsPlainly c area → length (with_parity area) ≡ 32
    by_plain (inl all) =
        let size : length area ≡ 29 = all.size in
        omega (arith, length-append area (parity_sectors area), length-parity_sectors area)
    by_plain (inr says) = length-block area (said_area c area says)
