-- What is told of a segment, by what a search finds of it.
use Rattle.std.proofs.Common.{◌≡◌, ◌≢◌, ℕ, ◌∙◌, sym, ap, refl, Bool, true, false, cond, List, Some, None}
use Rattle.std.specs.Prelude.{◌==◌, ◌||◌, ◌&&◌, not, nat_lt}
use Rattle.std.proofs.lemmas.Bool.{ne_eqb}
use Rattle.cartridge_laws.specs.Segment.{unreadable_data}
use Rattle.cartridge_spec.specs.Says.{LostSectors, last_used_below, unreadable_count}
use Rattle.cartridge_spec.specs.TableSegment.{table_cells}
use Rattle.command_spec.specs.Check.{IsTold, TableOpens, is_last_used, is_named, read_but, undecided, verdict_by}
use Rattle.command_spec.specs.Scrub.{Finding, HasFoundBy, Looked, cells_at, reads}
use Rattle.command_spec.specs.declared.verdict.Verdict.{Verdict}
use Rattle.command_spec.specs.declared.verdict.Verdict.TheVariants.{Wrong, Unsettled, Contradicts, Gone}
use Rattle.qic_base.specs.Cartridge.{Cartridge}
use Rattle.segment_mending.specs.Locating.{data_in}
use Rattle.segment_mending.specs.Searching.{SearchFinds, SearchMayFind}
use Rattle.segment_mending.specs.declared.searching.Searched.TheVariants.{Reads, Fails}
use Rattle.segment_mending.specs.declared.locating.Unread.TheVariants.{NoHeader, Lost, Mismatch}
use Rattle.cartridge_spec.specs.Says as saying
use Rattle.segment_mending.specs.declared.searching.Searched.TheVariants as searching

-- by a finding, and by whether a mount reads the table
pub told_by : (c : Cartridge) (l : Looked) (opens : Bool) (finding : Finding) (verdict : Verdict) → (l.segment ≡ 2 → TableOpens c opens) →
    HasFoundBy (Unit {0}) c l finding.saying finding.wrong → verdict ≡ verdict_by c l opens finding.saying finding.wrong →
    IsTold c l verdict
told_by c l opens finding verdict table found same =
    record { finding = finding; found = found; opens = opens; table = table; is = same }

-- ---- the verdict

pub verdict_of_read : (c : Cartridge) (l : Looked) (opens : Bool) (lost : ℕ) (sectors : List (List ℕ)) →
    reads l (data_in l sectors) ≡ true → lost ≡ unreadable_count (cells_at c l) →
    read_but lost ≡ verdict_by c l opens (data_in l sectors) None
verdict_of_read c l opens lost sectors can count =
    ap read_but count ∙ sym (ap (λ (b : Bool). cond b (read_but (unreadable_count (cells_at c l))) Contradicts) can)

pub verdict_of_no_header : (c : Cartridge) (l : Looked) (opens : Bool) (sectors : List (List ℕ)) → reads l (data_in l sectors) ≡ false →
    Contradicts ≡ verdict_by c l opens (data_in l sectors) None
verdict_of_no_header c l opens sectors can =
    sym (ap (λ (b : Bool). cond b (read_but (unreadable_count (cells_at c l))) Contradicts) can)

-- ---- a segment other than the table's

named_elsewhere : (c : Cartridge) (l : Looked) (sector : ℕ) → l.segment ≢ 2 → is_named c l sector ≡ true
named_elsewhere c l sector other =
    ap (λ (b : Bool). not b || (unreadable_data (table_cells c) == 0 && nat_lt sector 29
    && not (is_last_used (last_used_below (table_cells c) 29) sector))) (ne_eqb l.segment 2 other)

verdict_of_wrong : (c : Cartridge) (l : Looked) (opens : Bool) (sectors : List (List ℕ)) (sector : ℕ) → l.segment ≢ 2 →
    Wrong sector ≡ verdict_by c l opens (data_in l sectors) (Some sector)
verdict_of_wrong c l opens sectors sector other =
    sym (ap (λ (b : Bool). cond b (Wrong sector) (undecided l.segment opens)) (named_elsewhere c l sector other))

undecided_elsewhere : (segment : ℕ) (opens : Bool) → segment ≢ 2 → Contradicts ≡ undecided segment opens
undecided_elsewhere segment opens other =
    sym (ap (λ (b : Bool). cond (b && opens) Unsettled Contradicts) (ne_eqb segment 2 other))

module _ (c : Cartridge) (l : Looked) (sectors : List (List ℕ)) (other : l.segment ≢ 2) where
  elsewhere : (finding : Finding) (verdict : Verdict) → HasFoundBy (Unit {0}) c l finding.saying finding.wrong →
      verdict ≡ verdict_by c l true finding.saying finding.wrong → IsTold c l verdict
  elsewhere finding verdict found same = told_by c l true finding verdict (λ here. absurd (other here)) found same

  pub read_elsewhere : (lost : ℕ) → SearchMayFind l (Reads lost) sectors → SearchFinds c l (Reads lost) sectors →
      IsTold c l (read_but lost)
  read_elsewhere lost may is =
      elsewhere (record { saying = data_in l sectors; wrong = None }) (read_but lost) is.0
      (verdict_of_read c l true lost sectors may.0 is.1)

  pub wrong_elsewhere : (sector : ℕ) → SearchFinds c l (searching.Wrong sector) sectors → IsTold c l (Wrong sector)
  wrong_elsewhere sector is =
      elsewhere (record { saying = data_in l sectors; wrong = Some sector }) (Wrong sector) is
      (verdict_of_wrong c l true sectors sector other)

  pub lost_elsewhere : (n : ℕ) → SearchFinds c l (Fails (Lost n)) sectors → IsTold c l (Gone n)
  lost_elsewhere n is = elsewhere (record { saying = LostSectors n; wrong = None }) (Gone n) is refl

  pub no_header_elsewhere : SearchMayFind l (Fails NoHeader) sectors → SearchFinds c l (Fails NoHeader) sectors → IsTold c l Contradicts
  no_header_elsewhere may is =
      elsewhere (record { saying = data_in l sectors; wrong = None }) Contradicts is (verdict_of_no_header c l true sectors may.0)

  pub mismatch_elsewhere : SearchFinds c l (Fails Mismatch) sectors → IsTold c l Contradicts
  mismatch_elsewhere is =
      elsewhere (record { saying = saying.Mismatch; wrong = None }) Contradicts is (undecided_elsewhere l.segment true other)
