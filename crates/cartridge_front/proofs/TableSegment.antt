-- What is found in the collected sectors of the table's segment.
use Rattle.std.proofs.Common.{◌≡◌, ℕ, ◌-◌, ◌/◌, ◌%◌, ◌^◌, ◌<◌, ◌≤◌, zero, suc, Bool, cond, List, [], ◌∷◌, length, take, Option, Some}
use Rattle.std.proofs.Common.{IsSomeAnd, Result, Ok, Err, IfOk, refl, sym, ap, ◌∙◌, subst, inl, inr, arith, get_or, length-take}
use Rattle.std.specs.List.{slice_get}
use Rattle.std.proofs.lemmas.Nat.Bits.{bit_at-zero}
use Rattle.std.proofs.lemmas.List.{get_or-take, take_all}
use Rattle.std.proofs.lemmas.Option.{slice_get-get_or, slice_get_within}
use Rattle.qic_base.specs.Cartridge.{Cartridge, lost_places}
use Rattle.qic_base.specs.CartridgeTerms.{IsLost}
use Rattle.qic_base.specs.Tape.{Meaning}
use Rattle.qic_base.specs.TapeCalls.{Tells}
use Rattle.qic_base.proofs.Steps.{Tells-map}
use Rattle.qic_base.specs.declared.tape.SectorView.{SectorView}
use Rattle.qic_base.specs.declared.tape.SectorView.TheVariants.{Blank, Defect, Lost, Holds}
use Rattle.cartridge_laws.specs.Segment.{IsUnreadable, unreadable_data, data_of}
use Rattle.cartridge_spec.specs.Shape.{is_unreadable}
use Rattle.cartridge_spec.specs.Says.{unreadable_count, ReadsAll, TableSays, ByCode, LostSectors}
use Rattle.cartridge_laws.specs.Says.{LosesData}
use Rattle.cartridge_spec.specs.TableSegment.{table_cells, TableIs}
use Rattle.cartridge_laws.proofs.Cells.{unreadable_count-first}
use Rattle.cartridge_laws.specs.Shape.{Carries}
use Rattle.cartridge_laws.proofs.Segments.{length-whole_cells, count_of_whole}
use Rattle.segment_solve.specs.Gathered.{Gathered, IsUnreadableAt, NamesUnreadable}
use Rattle.segment_solve.specs.declared.fault.SegFault.{SegFault}
use Rattle.segment_solve.proofs.SolvedCells.{says_lost}
use Rattle.table_solve.specs.declared.unread.Unread.{Unread}
use Rattle.cartridge_spec.specs.Table.{Entry}
use Rattle.qic_base.specs.declared.store_fault.StoreFault.{StoreFault}
use Rattle.cartridge_front.specs.Finding.{FindsTable, FindsVolumes, DecodesTable}
use Rattle.table_solve.specs.Reading.{IsReadBut, SolvesTable}
use Rattle.segment_solve.specs.declared.fault.SegFault.TheVariants as seg
use Rattle.qic_base.specs.declared.store_fault.StoreFault.TheVariants as store
use Rattle.table_solve.proofs.Segment.{collected_reads, collected_loses}

-- where all data sectors can be read, they are the table's data
pub finds_read : (c : Cartridge) (lost : ℕ) (sectors : List (List ℕ)) → length sectors ≡ 32 → Gathered (table_cells c) lost sectors →
    ¬ (LosesData lost) → TableIs c (take 29 sectors)
finds_read c lost sectors room gathered none =
    inl (collected_reads (table_cells c) lost sectors (length-whole_cells c 2) room gathered none)

-- .. and the other sectors stand as the tape holds them
pub read_known : (cells : List SectorView) (lost : ℕ) (sectors : List (List ℕ)) (unread : Unread) → unread.lost ≡ lost →
    unread.left_out ≡ 0 → Gathered cells lost sectors →
    IsReadBut cells unread sectors
read_known cells lost sectors unread same none gathered = record {
  lost = subst (NamesUnreadable cells) (sym same) gathered.unreadable;
  left_out = λ i. (
    λ there. absurd (no_bit i (subst (λ (set : ℕ). IsLost set i) none there)),
    λ other. absurd (other.other (gathered.readable i other.bytes other.held)),
  );
  held = λ i bytes kept at. gathered.readable i bytes at;
}
  where
    no_bit : (i : ℕ) → IsLost 0 i → ⊥
    no_bit i there = let bit : 0 / 2 ^ i % 2 ≡ 0 = bit_at-zero i in absurd (omega arith)

-- .. and else those that the code says
pub finds_solving : (c : Cartridge) (sectors : List (List ℕ)) (r : Result Unread SegFault) → SolvesTable (table_cells c) sectors r →
    FindsTable c sectors r
finds_solving c sectors (Ok unread) solves = inr solves.says
finds_solving c sectors (Err (seg.Lost segment n)) solves = absurd solves
finds_solving c sectors (Err (seg.Mismatch segment)) solves = solves

pub known_solving : {T : Type 0} (m : Meaning T) (tape : T) (lost : ℕ) (old new : List (List ℕ)) (r : Result Unread SegFault) →
    ((cells : List SectorView) → length cells ≡ 32 → Gathered cells lost old → SolvesTable cells new r) →
    Tells m tape (λ c. Gathered (table_cells c) lost old) →
    IfOk r (λ unread. Tells m tape (λ c. IsReadBut (table_cells c) unread new))
known_solving m tape lost old new (Ok unread) solves told =
    Tells-map m tape (λ c. Gathered (table_cells c) lost old) (λ c. IsReadBut (table_cells c) unread new)
    (λ c gathered. (solves (table_cells c) (length-whole_cells c 2) gathered).known) told
known_solving m tape lost old new (Err fault) solves told = tt

-- .. or that more than three were lost
pub finds_many : (c : Cartridge) (lost n : ℕ) (sectors : List (List ℕ)) → Gathered (table_cells c) lost sectors → LosesData lost →
    length (lost_places lost 32) ≡ n → 3 < n → TableSays (table_cells c) (ByCode (LostSectors n))
finds_many c lost n sectors gathered loses count many =
    let few : length (table_cells c) ≤ 32 = omega (arith, length-whole_cells c 2) in
    (collected_loses (table_cells c) lost sectors gathered loses, says_lost (table_cells c) lost n few gathered.unreadable count many)

-- a slot at fault in the data is one in the table's
pub finds_bad : (c : Cartridge) (last n : ℕ) (sectors area : List (List ℕ)) (entries : List Entry) (fault : StoreFault)
    (r : Result Unread StoreFault) → r ≡ Err fault → n ≡ last → area ≡ take 29 sectors →
    TableIs c (take 29 sectors) → DecodesTable area n entries (Err fault) → FindsVolumes c last sectors entries r
finds_bad c last n sectors area entries fault r is same here table decodes =
    subst (λ (answer : Result Unread StoreFault). FindsVolumes c last sectors entries answer) (sym is)
    (by_fault fault (subst (λ (k : ℕ). DecodesTable (take 29 sectors) k entries (Err fault)) same
    (subst (λ (a : List (List ℕ)). DecodesTable a n entries (Err fault)) here decodes)))
  where
    by_fault : (f : StoreFault) → DecodesTable (take 29 sectors) last entries (Err f) → FindsVolumes c last sectors entries (Err f)
    by_fault (store.Foreign field value) bad = record { area = take 29 sectors; table = table; bad = bad }
    by_fault store.NotFormatted bad = absurd bad
    by_fault (store.Lost segment lost) bad = absurd bad
    by_fault store.TableMismatch bad = absurd bad
    by_fault (store.Full need have) bad = absurd bad
    by_fault (store.NoVolume number count) bad = absurd bad
    by_fault (store.Mismatch segment) bad = absurd bad
    by_fault store.Protected bad = absurd bad
    by_fault (store.Short promised read) bad = absurd bad
    by_fault store.Source bad = absurd bad
    by_fault store.Sink bad = absurd bad
    by_fault store.Tape bad = absurd bad
