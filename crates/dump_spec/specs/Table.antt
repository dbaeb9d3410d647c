-- The volume table of a dump: where it lies, its data, and whether they are sure (this project's profile; the further reading
-- is that of a cartridge's table).
use Rattle.std.specs.Prelude.{ℕ, ◌≡◌, ◌⊎◌, Bool, true, false, List, Option, Some, None}
use Rattle.cartridge_spec.specs.Says.{whole_mask, TableSays, AsRead, ByCode}
use Rattle.cartridge_spec.specs.Says as sayings
use Rattle.cartridge_spec.specs.Table.{slot, is_used}
use Rattle.qic_base.specs.declared.tape.SectorView.{SectorView}
use Rattle.dump_spec.specs.Cells.{cells_in}
use Rattle.dump_spec.specs.Dump.{Dump}
use Rattle.dump_spec.specs.Given.{CountAs, Gives, Given, given_area, all_sure}
use Rattle.dump_spec.specs.Header.{first_data}
use Rattle.dump_spec.specs.Pieces.{Layout}
use Rattle.dump_spec.specs.declared.form.Form.{Form}
use Rattle.dump_spec.specs.declared.form.Form.TheVariants as forms

-- its segment, its data sectors, and whether all of them are sure
pub record FoundTable : Type 0 where
  pub segment : ℕ
  pub area : List (List ℕ)
  pub sure : Bool

-- ---- its data

-- what the table of a cartridge is read as: its data as they stand where all can be read, or by the code
abbrev pub IsTapeTable : List SectorView → (area : List (List ℕ)) → Type 0
IsTapeTable cells area = TableSays cells (AsRead area) ⊎ TableSays cells (ByCode (sayings.Data area))

-- that reading is of the form of sectors, in a segment without a bad sector
pub record IsWholeSegment (form : Form) (mask : ℕ) : Type 0 where
  pub sectors : form ≡ forms.Sectors
  pub usable : mask ≡ whole_mask

-- it gives nothing, or the segment is none of that kind
abbrev pub HasNoTapeTable : Form → (mask : ℕ) → List SectorView → Type 0
HasNoTapeTable form mask cells =
    IsWholeSegment form mask → (area : List (List ℕ)) → IsTapeTable cells area → ⊥

-- The data of the table: by that reading where it gives any, and else what the segment gives, as any segment does. They are sure
-- where the latter is.
pub record HasTableData (form : Form) (zero_lost : Bool) (mask : ℕ) (cells : List SectorView) (area : List (List ℕ)) (sure : Bool) : Type 0
  where
    pub counted : List SectorView
    pub counts : CountAs form zero_lost cells counted
    pub given : List Given
    pub gives : Gives form zero_lost cells given
    pub data_are : (IsWholeSegment form mask × IsTapeTable counted area) ⊎ (HasNoTapeTable form mask counted × (area ≡ given_area given))
    pub marks : sure ≡ all_sure given

-- ---- where it is

-- without a header: segment 2, and in the form of data that of the first piece
abbrev pub segment_without : Form → (first : ℕ) → ℕ
segment_without forms.Sectors first = 2
segment_without forms.Data first = first

-- the first data segment
abbrev pub table_segment : (header : Option (List (List ℕ))) → Layout → ℕ
table_segment (Some area) layout = first_data area
table_segment None layout = segment_without layout.form layout.first

-- the data of the table's segment
abbrev pub IsTableData : (header : Option (List (List ℕ))) → Dump → Layout → (zero_lost : Bool) → (area : List (List ℕ)) → (sure : Bool) →
    Type 0
IsTableData header dump layout zero_lost area sure =
    let segment : ℕ = table_segment header layout in
    HasTableData layout.form zero_lost (layout.masks segment) (cells_in dump layout segment) area sure

-- they begin with a volume's slot
abbrev pub begins_with_volume : (area : List (List ℕ)) → Bool
begins_with_volume area = is_used (slot area 0)

-- the table of a dump: without a header there is one where the data begin with a volume's slot
abbrev pub IsTable : (header : Option (List (List ℕ))) → Dump → Layout → (zero_lost : Bool) → Option FoundTable → Type 0
IsTable (Some head) dump layout zero_lost (Some table) =
    (table.segment ≡ table_segment (Some head) layout) × IsTableData (Some head) dump layout zero_lost table.area table.sure
IsTable (Some head) dump layout zero_lost None = ⊥
IsTable None dump layout zero_lost (Some table) =
    (table.segment ≡ table_segment None layout) × IsTableData None dump layout zero_lost table.area table.sure
    × (begins_with_volume table.area ≡ true)
IsTable None dump layout zero_lost None =
    (area : List (List ℕ)) (sure : Bool) → IsTableData None dump layout zero_lost area sure → begins_with_volume area ≡ false
