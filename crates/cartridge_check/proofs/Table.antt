-- What is told of the volume table's segment, by what a search finds of it and by what a mount reads.
use Rattle.std.proofs.Common.{◌≡◌, ℕ, ◌<◌, ◌∙◌, sym, ap, refl, inl, inr, Bool, true, false, cond, List, length, take, map, Option}
use Rattle.std.proofs.Common.{[], Some, None, Result, Ok, Err, subst, slice_get, arith}
use Rattle.std.proofs.lemmas.Bool.{and_left, and_right, eq-eqb, le-ltb, ne_eqb}
use Rattle.std.specs.Prelude.{◌==◌, ◌≤◌, ◌&&◌, IfOk, IfSome, not, nat_lt}
use Rattle.command_laws.proofs.Checked.{opens_always}
use Rattle.cartridge_front.specs.Finding.{FindsTable}
use Rattle.cartridge_laws.proofs.Cells.{count_of_readable}
use Rattle.table_solve.proofs.Segment.{collected_loses, collected_reads}
use Rattle.table_solve.proofs.Tried.{last_lost}
use Rattle.table_solve.specs.declared.unread.Unread.{Unread}
use Rattle.cartridge_laws.proofs.MountOnce.{not_lost}
use Rattle.cartridge_laws.proofs.Segments.{length-whole_cells}
use Rattle.cartridge_laws.proofs.TableSayings.{table_says_is_function}
use Rattle.cartridge_laws.specs.Says.{LosesData}
use Rattle.cartridge_laws.specs.Segment.{hidden, unreadable_data}
use Rattle.cartridge_laws.specs.TableCells.{last_used}
use Rattle.cartridge_spec.specs.Says.{AsRead, ByCode, Data, LostSectors, TableSays}
use Rattle.cartridge_spec.specs.Says as says
use Rattle.cartridge_spec.specs.TableSegment.{TableIs, table_cells}
use Rattle.command_spec.specs.Check.{IsTold, is_last_used, is_named, read_but, undecided}
use Rattle.command_spec.specs.Scrub.{whole_segment}
use Rattle.command_spec.specs.declared.verdict.Verdict.{Verdict}
use Rattle.command_spec.specs.declared.verdict.Verdict.TheVariants.{Contradicts, Gone, Unsettled, Wrong}
use Rattle.qic_base.proofs.Steps.{Tells-map, Tells-read, tells_two}
use Rattle.qic_base.specs.Cartridge.{Cartridge}
use Rattle.qic_base.specs.CartridgeTerms.{IsCartridge}
use Rattle.qic_base.specs.Tape.{Meaning, Done}
use Rattle.qic_base.specs.TapeCalls.{IsToldRight, Tells}
use Rattle.qic_base.specs.declared.tape.SectorView.TheVariants.{Holds}
use Rattle.qic_base.specs.declared.tape.TapeFailed.{TapeFailed}
use Rattle.segment_solve.proofs.SolvedCells.{slice_get-take}
use Rattle.segment_solve.specs.Gathered.{Gathered}
use Rattle.segment_solve.specs.declared.fault.SegFault.{SegFault}
use Rattle.segment_mending.specs.Locating.{data_in}
use Rattle.segment_mending.specs.Searching.{SearchFinds}
use Rattle.segment_mending.specs.declared.locating.Unread.TheVariants.{Lost, Mismatch}
use Rattle.segment_mending.specs.declared.searching.Searched.TheVariants.{Reads, Fails}
use Rattle.cartridge_check.proofs.Telling.{told_by, verdict_of_read}
use Rattle.cartridge_check.specs.Verdicts.{IsJudged, IsUndecided}
use Rattle.segment_solve.specs.declared.fault.SegFault.TheVariants as seg
use Rattle.segment_mending.specs.declared.searching.Searched.TheVariants as searching

-- ---- a mount reads it, or it doesn't

not_at_odds : (c : Cartridge) (area : List (List ℕ)) → TableSays (table_cells c) (ByCode says.Mismatch) → TableIs c area → ⊥
not_at_odds c area none (inl read) =
    let same : AsRead area ≡ ByCode says.Mismatch =
    table_says_is_function (table_cells c) (AsRead area) (ByCode says.Mismatch) read none in
    cc
not_at_odds c area none (inr found) =
    let same : ByCode (Data area) ≡ ByCode says.Mismatch =
    table_says_is_function (table_cells c) (ByCode (Data area)) (ByCode says.Mismatch) found none in
    cc

undecided_found : (c : Cartridge) (sectors : List (List ℕ)) (fault : SegFault) →
    FindsTable {A = Unread} c sectors (Err fault) → IsUndecided c Contradicts
undecided_found c sectors (seg.Lost segment n) finds =
    record { opens = false; table = λ area table. not_lost c area n table finds.1; is = refl }
undecided_found c sectors (seg.Mismatch segment) finds =
    record { opens = false; table = λ area table. not_at_odds c area finds.1 table; is = refl }

module _ {T : Type 0} (m : Meaning T) (tape : T) (sectors : List (List ℕ)) where
  pub undecided_open : Tells m tape (λ c. TableIs c (take 29 sectors)) → Tells m tape (λ c. IsUndecided c Unsettled)
  undecided_open told =
      Tells-map m tape (λ c. TableIs c (take 29 sectors)) (λ c. IsUndecided c Unsettled)
      (λ c table. record { opens = true; table = (take 29 sectors, table); is = refl }) told

  pub undecided_by : (fault : SegFault) → Tells m tape (λ c. FindsTable {A = Unread} c sectors (Err fault)) →
      Tells m tape (λ c. IsUndecided c Contradicts)
  undecided_by fault told =
      Tells-map m tape (λ c. FindsTable {A = Unread} c sectors (Err fault)) (λ c. IsUndecided c Contradicts)
      (λ c finds. undecided_found c sectors fault finds) told

-- ---- the last sector in use

-- none of data is among the sectors that were not gathered
all_read : (c : Cartridge) (lost : ℕ) (sectors : List (List ℕ)) → Gathered (table_cells c) lost sectors → length sectors ≡ 32 →
    ¬ (LosesData lost) → unreadable_data (table_cells c) ≡ 0
all_read c lost sectors gathered room none =
    let reads = collected_reads (table_cells c) lost sectors (length-whole_cells c 2) room gathered none in
    count_of_readable 29 (table_cells c) (λ i h. ((reads.each i h).0, (reads.each i h).1))

-- where one is, no sector is named
pub not_named : (c : Cartridge) (lost : ℕ) (sectors : List (List ℕ)) (sector : ℕ) → Gathered (table_cells c) lost sectors →
    LosesData lost → is_named c (whole_segment 2) sector ≡ false
not_named c lost sectors sector gathered loses =
    let some : 0 < unreadable_data (table_cells c) = collected_loses (table_cells c) lost sectors gathered loses in
    and_left (unreadable_data (table_cells c) == 0 && nat_lt sector 29) (not (is_last_used (last_used (table_cells c)) sector))
    (and_left (unreadable_data (table_cells c) == 0) (nat_lt sector 29)
    (ne_eqb (unreadable_data (table_cells c)) 0 (λ none. omega arith)))

-- nor is one of parity
pub no_parity_named : (c : Cartridge) (sector : ℕ) → 29 ≤ sector → is_named c (whole_segment 2) sector ≡ false
no_parity_named c sector parity =
    and_left (unreadable_data (table_cells c) == 0 && nat_lt sector 29) (not (is_last_used (last_used (table_cells c)) sector))
    (and_right (unreadable_data (table_cells c) == 0) (nat_lt sector 29) (le-ltb sector 29 parity))

pub named_by : (c : Cartridge) (lost : ℕ) (used : Option ℕ) (area sectors : List (List ℕ)) (sector : ℕ) →
    Gathered (table_cells c) lost sectors → length sectors ≡ 32 → ¬ (LosesData lost) → length area ≡ 29 → area ≡ take 29 sectors →
    used ≡ last_used (hidden lost (map Holds area)) →
    is_named c (whole_segment 2) sector ≡ (nat_lt sector 29 && not (is_last_used used sector))
named_by c lost used area sectors sector gathered room none size are last =
    let cells : last_used (table_cells c) ≡ last_used (hidden lost (map Holds area)) =
    last_lost (table_cells c) lost area (length-whole_cells c 2) size gathered.unreadable
    (λ i bytes within held. subst (λ (l : List (List ℕ)). slice_get l i ≡ Some bytes) (sym are) (first_of i bytes within held)) in
    let read : (unreadable_data (table_cells c) == 0) ≡ true =
    eq-eqb (unreadable_data (table_cells c)) 0 (all_read c lost sectors gathered room none) in
    ap (λ (b : Bool). b && nat_lt sector 29 && not (is_last_used (last_used (table_cells c)) sector)) read
    ∙ ap (λ (o : Option ℕ). nat_lt sector 29 && not (is_last_used o sector)) (cells ∙ sym last)
  where
    first_of : (i : ℕ) (bytes : List ℕ) → i < 29 → slice_get (table_cells c) i ≡ Some (Holds bytes) →
        slice_get (take 29 sectors) i ≡ Some bytes
    first_of i bytes within held = slice_get-take 29 sectors i within ∙ gathered.readable i bytes held

-- ---- told

pub read_table_told : (c : Cartridge) (lost : ℕ) (sectors : List (List ℕ)) → IsCartridge c →
    SearchFinds c (whole_segment 2) (Reads lost) sectors → IsTold c (whole_segment 2) (read_but lost)
read_table_told c lost sectors whole is =
    let opens = opens_always c whole in
    told_by c (whole_segment 2) opens.0 (record { saying = data_in (whole_segment 2) sectors; wrong = None }) (read_but lost)
    (λ here. opens.1) is.0 (verdict_of_read c (whole_segment 2) opens.0 lost sectors refl is.1)

pub lost_table_told : (c : Cartridge) (n : ℕ) (sectors : List (List ℕ)) → IsCartridge c →
    SearchFinds c (whole_segment 2) (Fails (Lost n)) sectors → IsTold c (whole_segment 2) (Gone n)
lost_table_told c n sectors whole is =
    let opens = opens_always c whole in
    told_by c (whole_segment 2) opens.0 (record { saying = LostSectors n; wrong = None }) (Gone n) (λ here. opens.1) is refl

pub wrong_table_told : (c : Cartridge) (sector : ℕ) (sectors : List (List ℕ)) (verdict : Verdict) →
    SearchFinds c (whole_segment 2) (searching.Wrong sector) sectors → IsJudged c sector verdict → IsTold c (whole_segment 2) verdict
wrong_table_told c sector sectors verdict is judged =
    told_by c (whole_segment 2) judged.opens (record { saying = data_in (whole_segment 2) sectors; wrong = Some sector }) verdict
    (λ here. judged.table) is judged.is

pub undecided_table_told : (c : Cartridge) (sectors : List (List ℕ)) (verdict : Verdict) →
    SearchFinds c (whole_segment 2) (Fails Mismatch) sectors → IsUndecided c verdict → IsTold c (whole_segment 2) verdict
undecided_table_told c sectors verdict is und =
    told_by c (whole_segment 2) und.opens (record { saying = says.Mismatch; wrong = None }) verdict (λ here. und.table) is und.is

pub judged_wrong : (c : Cartridge) (sector : ℕ) → IsCartridge c → is_named c (whole_segment 2) sector ≡ true →
    IsJudged c sector (Wrong sector)
judged_wrong c sector whole named =
    let opens = opens_always c whole in
    record {
      opens = opens.0;
      table = opens.1;
      is = sym (ap (λ (b : Bool). cond b (Wrong sector) (undecided 2 opens.0)) named);
    }

pub judged_undecided : (c : Cartridge) (sector : ℕ) (verdict : Verdict) → is_named c (whole_segment 2) sector ≡ false →
    IsUndecided c verdict → IsJudged c sector verdict
judged_undecided c sector verdict named und = record {
  opens = und.opens;
  table = und.table;
  is = und.is ∙ sym (ap (λ (b : Bool). cond b (Wrong sector) (undecided 2 und.opens)) named);
}

-- ---- what is told of a tape, by two calls that read

pub told_later : {T A : Type 0} (m : Meaning T) (old mid : T) (P : Cartridge → Type 0) (Q R : A → Cartridge → Type 0)
    (result : Result A TapeFailed) → ((answer : A) (c : Cartridge) → P c → Q answer c → R answer c) → Done m old mid [] →
    Tells m old P → IfOk result (λ answer. Tells m mid (Q answer)) → IfOk result (λ answer. Tells m old (R answer))
told_later m old mid P Q R (Ok answer) follows read first second =
    tells_two m old P (Q answer) (R answer) (follows answer) first (Tells-read (Q answer) read second)
told_later m old mid P Q R (Err fault) follows read first second = tt

-- a told cartridge is whole
pub whole_told : {T : Type 0} (m : Meaning T) (tape : T) → IsToldRight (m.told tape) (m.size tape) → Tells m tape IsCartridge
whole_told m tape right = by_told (m.told tape) (m.size tape) right
  where
    by_told : (held : Option (Option Cartridge)) (size : Option ℕ) → IsToldRight held size → IfSome held (λ h. IfSome h IsCartridge)
    by_told None size is = tt
    by_told (Some None) size is = tt
    by_told (Some (Some c)) size is = is.0
