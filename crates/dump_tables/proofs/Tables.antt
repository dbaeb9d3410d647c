-- The data of a table are those of its segment alone.
use Rattle.std.proofs.Common.{◌≡◌, ℕ, Bool, false, List, Option, Some, None, refl, sym, ap, subst, ◌∙◌, inl, inr}
use Rattle.cartridge_laws.proofs.TableSayings.{table_says_is_function}
use Rattle.cartridge_spec.specs.Says.{AsRead, ByCode, Data}
use Rattle.dump_laws.proofs.Determined.{one_counting, one_giving}
use Rattle.std.proofs.lemmas.Bool.{false≢true}
use Rattle.dump_spec.specs.Dump.{Dump}
use Rattle.dump_spec.specs.Given.{given_area, all_sure}
use Rattle.dump_spec.specs.Pieces.{Layout}
use Rattle.dump_spec.specs.Table.{FoundTable, HasTableData, IsTable, IsTableData, IsTapeTable, begins_with_volume, table_segment}
use Rattle.dump_spec.specs.declared.form.Form.{Form}
use Rattle.qic_base.specs.declared.tape.SectorView.{SectorView}

one_tape_table : (cells : List SectorView) (one other : List (List ℕ)) → IsTapeTable cells one → IsTapeTable cells other → one ≡ other
one_tape_table cells one other (inl a) (inl b) =
    let same : AsRead one ≡ AsRead other = table_says_is_function cells (AsRead one) (AsRead other) a b in cc
one_tape_table cells one other (inl a) (inr b) =
    let same : AsRead one ≡ ByCode (Data other) = table_says_is_function cells (AsRead one) (ByCode (Data other)) a b in cc
one_tape_table cells one other (inr a) (inl b) =
    let same : ByCode (Data one) ≡ AsRead other = table_says_is_function cells (ByCode (Data one)) (AsRead other) a b in cc
one_tape_table cells one other (inr a) (inr b) =
    let same : ByCode (Data one) ≡ ByCode (Data other) =
    table_says_is_function cells (ByCode (Data one)) (ByCode (Data other)) a b in cc

pub one_table : (form : Form) (zero_lost : Bool) (mask : ℕ) (cells : List SectorView) (one other : List (List ℕ)) (sure also : Bool) →
    HasTableData form zero_lost mask cells one sure → HasTableData form zero_lost mask cells other also → one ≡ other
one_table form zero_lost mask cells one other sure also p q =
    let counted : p.counted ≡ q.counted = one_counting form zero_lost cells p.counted q.counted p.counts q.counts in
    let given : p.given ≡ q.given = one_giving form zero_lost cells p.given q.given p.gives q.gives in
    elim p.data_are [
      | inl a ↦ elim q.data_are [
        | inl b ↦ one_tape_table q.counted one other (subst (λ (cs : List SectorView). IsTapeTable cs one) counted a.1) b.1
        | inr b ↦ absurd (b.0 a.0 one (subst (λ (cs : List SectorView). IsTapeTable cs one) counted a.1))
      ]
      | inr a ↦ elim q.data_are [
        | inl b ↦ absurd (a.0 b.0 other (subst (λ (cs : List SectorView). IsTapeTable cs other) (sym counted) b.1))
        | inr b ↦ a.1 ∙ ap given_area given ∙ sym b.1
      ]
    ]

-- where they don't begin with a volume, no data of the segment do
pub none_begins : (form : Form) (zero_lost : Bool) (mask : ℕ) (cells : List SectorView) (area : List (List ℕ)) (sure : Bool) →
    HasTableData form zero_lost mask cells area sure → begins_with_volume area ≡ false → (other : List (List ℕ)) (also : Bool) →
    HasTableData form zero_lost mask cells other also → begins_with_volume other ≡ false
none_begins form zero_lost mask cells area sure has none other also too =
    ap begins_with_volume (sym (one_table form zero_lost mask cells area other sure also has too)) ∙ none

one_sure : (form : Form) (zero_lost : Bool) (mask : ℕ) (cells : List SectorView) (one other : List (List ℕ)) (sure also : Bool) →
    HasTableData form zero_lost mask cells one sure → HasTableData form zero_lost mask cells other also → sure ≡ also
one_sure form zero_lost mask cells one other sure also p q =
    p.marks ∙ ap all_sure (one_giving form zero_lost cells p.given q.given p.gives q.gives) ∙ sym q.marks

abbrev table_of : ℕ → List (List ℕ) → Bool → FoundTable
table_of segment area sure = record { segment = segment; area = area; sure = sure }

same_table : (one other : FoundTable) → one.segment ≡ other.segment → one.area ≡ other.area → one.sure ≡ other.sure → one ≡ other
same_table one other segment area sure =
    ap (λ (s : ℕ). table_of s one.area one.sure) segment ∙ ap (λ (a : List (List ℕ)). table_of other.segment a one.sure) area
    ∙ ap (table_of other.segment other.area) sure

one_found : (header : Option (List (List ℕ))) (dump : Dump) (layout : Layout) (zero_lost : Bool) (one other : FoundTable) →
    one.segment ≡ table_segment header layout → other.segment ≡ table_segment header layout →
    IsTableData header dump layout zero_lost one.area one.sure → IsTableData header dump layout zero_lost other.area other.sure →
    one ≡ other
one_found header dump layout zero_lost one other at also p q =
    same_table one other (at ∙ sym also) (one_table layout.form zero_lost _ _ one.area other.area one.sure other.sure p q)
    (one_sure layout.form zero_lost _ _ one.area other.area one.sure other.sure p q)

-- a dump has one table, or none
pub one_is_table : (header : Option (List (List ℕ))) (dump : Dump) (layout : Layout) (zero_lost : Bool) (one other : Option FoundTable) →
    IsTable header dump layout zero_lost one → IsTable header dump layout zero_lost other → one ≡ other
one_is_table (Some head) dump layout zero_lost (Some one) (Some other) p q =
    ap Some (one_found (Some head) dump layout zero_lost one other p.0 q.0 p.1 q.1)
one_is_table (Some head) dump layout zero_lost None (Some other) p q = absurd p
one_is_table (Some head) dump layout zero_lost None None p q = refl
one_is_table (Some head) dump layout zero_lost (Some one) None p q = absurd q
one_is_table None dump layout zero_lost (Some one) (Some other) p q =
    ap Some (one_found None dump layout zero_lost one other p.0 q.0 p.1 q.1)
one_is_table None dump layout zero_lost (Some one) None p q = absurd (false≢true (sym (q one.area one.sure p.1) ∙ p.2))
one_is_table None dump layout zero_lost None (Some other) p q = absurd (false≢true (sym (p other.area other.sure q.1) ∙ q.2))
one_is_table None dump layout zero_lost None None p q = refl
