-- A wrong sector of the volume table's segment that no stop in an append left is named.
use Rattle.std.proofs.Common.{◌≡◌, ◌≢◌, ◌<◌, ◌≤◌, ℕ, List, Option, Some, None, Bool, true, false, not, refl, sym, ◌∙◌, ap, arith, get_or}
use Rattle.std.proofs.Common.{subst}
use Rattle.std.proofs.lemmas.Bool.{and_from, and_left, and_parts, eq-eqb, false≢true, lt-ltb, ltb-true, eqb-true, ne_eqb}
use Rattle.std.proofs.lemmas.List.FromFn.{get_or-range_with_len}
use Rattle.std.specs.Prelude.{if◌then◌else◌, nat_lt, ◌&&◌, ◌==◌}
use Rattle.cartridge_laws.proofs.Segments.{count_of_whole, places_of_whole}
use Rattle.cartridge_laws.proofs.Sayings.{says_is_function}
use Rattle.cartridge_laws.specs.Segment.{unreadable_data}
use Rattle.cartridge_laws.specs.TableCells.{last_used}
use Rattle.cartridge_laws.specs.WrongTableSector.{IsWrongInTable}
use Rattle.cartridge_spec.specs.Says.{Data, LostSectors, Mismatch, Saying, Says, unreadable_count, whole_mask}
use Rattle.cartridge_spec.specs.Shape.{usable_places}
use Rattle.cartridge_spec.specs.TableSegment.{table_cells}
use Rattle.command_laws.proofs.Checked.{opens_always, told_once}
use Rattle.command_laws.specs.CheckLaws.{LostInTableIsUnsearched, NamedInTableIsWrong, WrongInTableIsNamed, WrongInTableIsTold}
use Rattle.command_spec.specs.Check.{is_last_used, is_named, undecided, verdict_by}
use Rattle.command_spec.specs.Scrub.{HasFoundBy, IsWrong, whole_segment}
use Rattle.command_spec.specs.declared.verdict.Verdict.TheVariants.{Contradicts, Sound, Unsettled, Weak, Wrong}
use Rattle.qic_base.specs.Cartridge.{Cartridge}

-- a sector of a whole segment stands at its index
pub whole_place : (i : ℕ) → i < 32 → get_or (usable_places whole_mask) i 0 ≡ i
whole_place i h =
    ap (λ (places : List ℕ). get_or places i 0) places_of_whole ∙ get_or-range_with_len 0 32 i 0 h ∙ omega arith

wrong_there : (c : Cartridge) (wrong : ℕ) (area : List (List ℕ)) → IsWrongInTable c wrong area → unreadable_count (table_cells c) ≤ 1 →
    IsWrong c (whole_segment 2) wrong area
wrong_there c wrong area is few = record {
  place = wrong;
  within = let small : wrong < 32 = is.within in omega (arith, count_of_whole);
  index = whole_place wrong is.within;
  mismatch = (omega arith, is.mismatch);
  few = few;
  says = is.says;
  can_be_read = refl;
}

not_last : (used : Option ℕ) (sector : ℕ) → used ≢ Some sector → is_last_used used sector ≡ false
not_last None sector other = refl
not_last (Some last) sector other = ne_eqb last sector (λ same. other (ap (λ (i : ℕ). Some i) same))

-- what the segment asks of a sector that is named
abbrev named_here : (c : Cartridge) (wrong : ℕ) → Bool
named_here c wrong =
    unreadable_data (table_cells c) == 0 && nat_lt wrong 29 && not (is_last_used (last_used (table_cells c)) wrong)

named : (c : Cartridge) (wrong : ℕ) → wrong < 29 → last_used (table_cells c) ≢ Some wrong → unreadable_data (table_cells c) ≡ 0 →
    is_named c (whole_segment 2) wrong ≡ true
named c wrong data_sector other readable =
    and_from (unreadable_data (table_cells c) == 0 && nat_lt wrong 29) (not (is_last_used (last_used (table_cells c)) wrong))
    (and_from (unreadable_data (table_cells c) == 0) (nat_lt wrong 29) (eq-eqb (unreadable_data (table_cells c)) 0 readable)
    (lt-ltb wrong 29 data_sector))
    (ap not (not_last (last_used (table_cells c)) wrong other))

pub wrong_in_table_is_named : WrongInTableIsNamed
wrong_in_table_is_named c wrong area whole is data_sector other readable few =
    let opens = opens_always c whole in
    record {
      finding = record { saying = Data area; wrong = Some wrong };
      found = (tt, area, refl, wrong_there c wrong area is few);
      opens = opens.0;
      table = λ here. opens.1;
      is = sym (ap (λ (b : Bool). if b then Wrong wrong else undecided 2 opens.0) (named c wrong data_sector other readable));
    }

pub wrong_in_table_is_told : WrongInTableIsTold
wrong_in_table_is_told c wrong area verdict is data_sector other readable few told =
    told_once c (whole_segment 2) verdict (Wrong wrong) told (record {
      finding = record { saying = Data area; wrong = Some wrong };
      found = (tt, area, refl, wrong_there c wrong area is few);
      opens = told.opens;
      table = told.table;
      is = sym (ap (λ (b : Bool). if b then Wrong wrong else undecided 2 told.opens) (named c wrong data_sector other readable));
    })

-- ---- no other one

-- nothing but the search tells of a wrong sector
undecided_not_wrong : (unsettled : Bool) (wrong : ℕ) → (if unsettled then Unsettled else Contradicts) ≢ Wrong wrong
undecided_not_wrong true wrong is = cc
undecided_not_wrong false wrong is = cc

read_not_wrong : (none : Bool) (lost wrong : ℕ) → (if none then Sound else Weak lost) ≢ Wrong wrong
read_not_wrong true lost wrong is = cc
read_not_wrong false lost wrong is = cc

unsearched_not_wrong : (c : Cartridge) (opens : Bool) (saying : Saying) (wrong : ℕ) →
    verdict_by c (whole_segment 2) opens saying None ≢ Wrong wrong
unsearched_not_wrong c opens (Data sectors) wrong is =
    read_not_wrong (unreadable_count (table_cells c) == 0) (unreadable_count (table_cells c)) wrong is
unsearched_not_wrong c opens (LostSectors n) wrong is = cc
unsearched_not_wrong c opens Mismatch wrong is = undecided_not_wrong opens wrong is

-- the sector that is told is the one that was found, and is one to be named
told_named : (named opens : Bool) (sector wrong : ℕ) → Wrong wrong ≡ (if named then Wrong sector else undecided 2 opens) →
    (sector ≡ wrong) × (named ≡ true)
told_named true opens sector wrong is = (cc, refl)
told_named false opens sector wrong is = absurd (undecided_not_wrong opens wrong (sym is))

is_the_last : (used : Option ℕ) (sector : ℕ) → not (is_last_used used sector) ≡ true → used ≢ Some sector
is_the_last None sector is same = cc
is_the_last (Some last) sector is same =
    let one : last ≡ sector = cc in
    false≢true (sym (ap not (eq-eqb last sector one)) ∙ is)

-- a wrong sector of the segment holds other bytes than the block of all others
pub wrong_of_search : (c : Cartridge) (sector : ℕ) (sectors : List (List ℕ)) → IsWrong c (whole_segment 2) sector sectors →
    IsWrongInTable c sector sectors
wrong_of_search c sector sectors is =
    let small : is.place < 32 = let within = is.within in omega (arith, count_of_whole) in
    let index : is.place ≡ sector = sym (whole_place is.place small) ∙ is.index in
    record {
      within = omega arith;
      mismatch = is.mismatch.1;
      says = is.says;
    }

named_in : (c : Cartridge) (wrong : ℕ) (saying : Saying) (found : Option ℕ) (opens : Bool) →
    HasFoundBy (Unit {0}) c (whole_segment 2) saying found → Wrong wrong ≡ verdict_by c (whole_segment 2) opens saying found →
    ((area : List (List ℕ)) × IsWrongInTable c wrong area) × (wrong < 29) × (last_used (table_cells c) ≢ Some wrong)
    × (unreadable_data (table_cells c) ≡ 0) × (unreadable_count (table_cells c) ≤ 1)
named_in c wrong saying None opens found is = absurd (unsearched_not_wrong c opens saying wrong (sym is))
named_in c wrong saying (Some sector) opens found is =
    let told = told_named (named_here c sector) opens sector wrong is in
    let parts = and_parts (unreadable_data (table_cells c) == 0 && nat_lt sector 29)
    (not (is_last_used (last_used (table_cells c)) sector)) told.1 in
    let first = and_parts (unreadable_data (table_cells c) == 0) (nat_lt sector 29) parts.0 in
    subst (λ (s : ℕ). ((area : List (List ℕ)) × IsWrongInTable c s area) × (s < 29) × (last_used (table_cells c) ≢ Some s)
    × (unreadable_data (table_cells c) ≡ 0) × (unreadable_count (table_cells c) ≤ 1)) told.0 (
      (found.1, wrong_of_search c sector found.1 found.3),
      ltb-true sector 29 first.1,
      is_the_last (last_used (table_cells c)) sector parts.1,
      eqb-true (unreadable_data (table_cells c)) 0 first.0,
      found.3.few,
    )

pub named_in_table_is_wrong : NamedInTableIsWrong
named_in_table_is_wrong c wrong told = named_in c wrong told.finding.saying told.finding.wrong told.opens told.found told.is

-- ---- where a sector of data is unreadable

not_named : (c : Cartridge) (sector : ℕ) → 0 < unreadable_data (table_cells c) → named_here c sector ≡ false
not_named c sector some =
    and_left (unreadable_data (table_cells c) == 0 && nat_lt sector 29) (not (is_last_used (last_used (table_cells c)) sector))
    (and_left (unreadable_data (table_cells c) == 0) (nat_lt sector 29)
    (ne_eqb (unreadable_data (table_cells c)) 0 (λ none. omega arith)))

unsearched : (c : Cartridge) (saying other : Saying) (found : Option ℕ) (opens : Bool) → 0 < unreadable_data (table_cells c) →
    Says (table_cells c) saying → HasFoundBy (Unit {0}) c (whole_segment 2) other found →
    verdict_by c (whole_segment 2) opens other found ≡ verdict_by c (whole_segment 2) opens saying None
unsearched c saying other None opens some says found =
    ap (λ (s : Saying). verdict_by c (whole_segment 2) opens s None) (says_is_function (table_cells c) other saying found.0 says)
unsearched c saying other (Some sector) opens some says found =
    ap (λ (b : Bool). if b then Wrong sector else undecided 2 opens) (not_named c sector some)
    ∙ ap (λ (s : Saying). verdict_by c (whole_segment 2) opens s None)
    (says_is_function (table_cells c) Mismatch saying found.3.mismatch says)

pub lost_in_table_is_unsearched : LostInTableIsUnsearched
lost_in_table_is_unsearched c saying verdict some says told =
    told.is ∙ unsearched c saying told.finding.saying told.finding.wrong told.opens some says told.found
