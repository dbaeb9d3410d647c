-- Fields written into a sector one after the other: each holds its value then, and no other byte changes.
use Rattle.std.proofs.Common.{◌≡◌, ℕ, ◌+◌, List, ◌||◌, Bool, nat_le, ◌&&◌, true, [], ◌∷◌, false, refl, ◌⊎◌, inl, inr, ◌≤◌, arith, length}
use Rattle.std.proofs.Common.{◌∙◌, ◌<◌, get_or}
use Rattle.std.specs.List.{slice_range, All}
use Rattle.std.proofs.lemmas.Bool.Decides.{nat_tests}
use Rattle.std.proofs.lemmas.List.Elements.{All-head, All-tail, All-nil, All-cons}
use Rattle.std.proofs.lemmas.Bool.{cases_lt}
use Rattle.cartridge_laws.specs.HeaderWriting.{HasRoom, value_bytes, FieldFits, with_fields}
use Rattle.cartridge_spec.specs.Header.{Value, Number, Text, Field}
use Rattle.cartridge_laws.specs.HeaderTerms.{IsInField}
use Rattle.qic_base.proofs.FieldLaws.{length-little_endian_bytes, number_at-overwritten, slice_range-overwritten}
use Rattle.qic_base.proofs.FieldLaws.{number_at-overwritten_below, number_at-overwritten_above, slice_range-overwritten_below}
use Rattle.qic_base.proofs.FieldLaws.{slice_range-overwritten_above, length-overwritten, get_or-overwritten_below, get_or-overwritten_above}
use Rattle.qic_base.specs.Field.{number_at, overwritten}
use Rattle.cartridge_laws.proofs.FreshFields.{and-left, and-right}

-- what a sector holds in a field
abbrev pub HoldsHere : List ℕ → (offset width : ℕ) → Value → Type 0
HoldsHere sector offset width (Number value) = number_at sector offset width ≡ value
HoldsHere sector offset width (Text bytes) = slice_range sector offset (offset + width) ≡ bytes

abbrev pub HoldsIn : List ℕ → Field → Type 0
HoldsIn sector field = HoldsHere sector field.offset field.width field.value

-- ---- places

-- the first field ends before the second begins, or the other way round
abbrev pub are_apart : Field → Field → Bool
are_apart f g = nat_le (f.offset + f.width) g.offset || nat_le (g.offset + g.width) f.offset

abbrev pub is_apart_from : Field → List Field → Bool
is_apart_from f [] = true
is_apart_from f (g ∷ gs) = are_apart f g && is_apart_from f gs

-- the fields lie in a sector, each apart from all others
abbrev pub are_placed : List Field → Bool
are_placed [] = true
are_placed (f ∷ fs) = nat_le (f.offset + f.width) 1024 && is_apart_from f fs && are_placed fs

apart-cases : (a b c d : ℕ) → (nat_le a b || nat_le c d) ≡ true → (a ≤ b) ⊎ (c ≤ d)
apart-cases a b c d h = by_test (nat_le a b) refl
  where
    by_test : (t : Bool) → nat_le a b ≡ t → (a ≤ b) ⊎ (c ≤ d)
    by_test true e = inl (grind (arith, nat_tests))
    by_test false e = inr (grind (arith, nat_tests))

-- ---- one field

pub length-value_bytes : (width : ℕ) (value : Value) → HasRoom width value → length (value_bytes width value) ≡ width
length-value_bytes width (Number value) h = length-little_endian_bytes width value
length-value_bytes width (Text bytes) h = h

HoldsHere-written : (sector : List ℕ) (offset width : ℕ) (value : Value) → offset ≤ length sector → HasRoom width value →
    HoldsHere (overwritten sector offset (value_bytes width value)) offset width value
HoldsHere-written sector offset width (Number value) h room = number_at-overwritten sector offset width value h room
HoldsHere-written sector offset width (Text bytes) h room = slice_range-overwritten sector bytes offset (offset + width) h (omega arith)

HoldsHere-kept : (sector part : List ℕ) (at offset width : ℕ) (value : Value) → at + length part ≤ length sector → (offset + width ≤ at)
    ⊎ (at + length part ≤ offset) → HoldsHere sector offset width value → HoldsHere (overwritten sector at part) offset width value
HoldsHere-kept sector part at offset width (Number value) h (inl below) holds = number_at-overwritten_below sector part at offset width
    (omega arith) below ∙ holds
HoldsHere-kept sector part at offset width (Number value) h (inr above) holds =
    number_at-overwritten_above sector part at offset width h above ∙ holds
HoldsHere-kept sector part at offset width (Text bytes) h (inl below) holds = slice_range-overwritten_below sector part at offset
    (offset + width) (omega arith) (omega arith) below ∙ holds
HoldsHere-kept sector part at offset width (Text bytes) h (inr above) holds = slice_range-overwritten_above sector part at offset
    (offset + width) h above (omega arith) ∙ holds

-- ---- a list of fields

fits_sector : (f : Field) (rest : Bool) (sector : List ℕ) → (nat_le (f.offset + f.width) 1024 && rest) ≡ true → length sector ≡ 1024 →
    f.offset + f.width ≤ length sector
fits_sector f rest sector h l =
    let e : nat_le (f.offset + f.width) 1024 ≡ true = and-left _ rest h in
    grind (arith, nat_tests)

length-written : (f : Field) (sector : List ℕ) → FieldFits f → f.offset + f.width ≤ length sector → length sector ≡ 1024 →
    length (overwritten sector f.offset (value_bytes f.width f.value)) ≡ 1024
length-written f sector room h l =
    length-overwritten sector (value_bytes f.width f.value) f.offset (omega (arith, length-value_bytes f.width f.value room)) ∙ l

-- a field that is apart from all that are written keeps its value
HoldsIn-kept : (fs : List Field) (f : Field) (sector : List ℕ) → is_apart_from f fs ≡ true → are_placed fs ≡ true → All FieldFits fs →
    length sector ≡ 1024 → HoldsIn sector f → HoldsIn (with_fields fs sector) f
HoldsIn-kept [] f sector apart placed fits l holds = holds
HoldsIn-kept (g ∷ gs) f sector apart placed fits l holds =
    let room : FieldFits g = All-head FieldFits g gs fits in
    let inside : g.offset + g.width ≤ length sector = fits_sector g _ sector (and-left _ _ placed) l in
    let size : length (value_bytes g.width g.value) ≡ g.width = length-value_bytes g.width g.value room in
    HoldsIn-kept gs f (overwritten sector g.offset (value_bytes g.width g.value))
    (and-right _ _ apart) (and-right _ _ placed) (All-tail FieldFits g gs fits) (length-written g sector room inside l)
    (HoldsHere-kept sector (value_bytes g.width g.value) g.offset f.offset f.width f.value (omega arith)
    (by_side (apart-cases (f.offset + f.width) g.offset (g.offset + g.width) f.offset (and-left _ _ apart)) size) holds)
  where
    by_side : (f.offset + f.width ≤ g.offset) ⊎ (g.offset + g.width ≤ f.offset) → length (value_bytes g.width g.value) ≡ g.width →
        (f.offset + f.width ≤ g.offset) ⊎ (g.offset + length (value_bytes g.width g.value) ≤ f.offset)
    by_side (inl below) size = inl below
    by_side (inr above) size = inr (omega arith)

-- each of the fields that are written holds its value
pub HoldsIn-with_fields : (fs : List Field) (sector : List ℕ) → are_placed fs ≡ true → All FieldFits fs → length sector ≡ 1024 →
    All (HoldsIn (with_fields fs sector)) fs
HoldsIn-with_fields [] sector placed fits l = All-nil (HoldsIn sector)
HoldsIn-with_fields (f ∷ fs) sector placed fits l =
    let room : FieldFits f = All-head FieldFits f fs fits in
    let inside : f.offset + f.width ≤ length sector = fits_sector f _ sector (and-left _ _ placed) l in
    let next : length (overwritten sector f.offset (value_bytes f.width f.value)) ≡ 1024 = length-written f sector room inside l in
    All-cons (HoldsIn (with_fields fs (overwritten sector f.offset (value_bytes f.width f.value)))) f fs
    (HoldsIn-kept fs f (overwritten sector f.offset (value_bytes f.width f.value)) (and-right _ _ (and-left _ _ placed))
    (and-right _ _ placed) (All-tail FieldFits f fs fits) next
    (HoldsHere-written sector f.offset f.width f.value (omega arith) room))
    (HoldsIn-with_fields fs (overwritten sector f.offset (value_bytes f.width f.value)) (and-right _ _ placed)
    (All-tail FieldFits f fs fits) next)

-- a byte outside of all of them stays
pub get_or-with_fields : (fs : List Field) (sector : List ℕ) (k : ℕ) → are_placed fs ≡ true → All FieldFits fs → length sector ≡ 1024 →
    All (λ field. ¬ (IsInField k field)) fs → get_or (with_fields fs sector) k 0 ≡ get_or sector k 0
get_or-with_fields [] sector k placed fits l outside = refl
get_or-with_fields (f ∷ fs) sector k placed fits l outside =
    let room : FieldFits f = All-head FieldFits f fs fits in
    let inside : f.offset + f.width ≤ length sector = fits_sector f _ sector (and-left _ _ placed) l in
    let size : length (value_bytes f.width f.value) ≡ f.width = length-value_bytes f.width f.value room in
    get_or-with_fields fs (overwritten sector f.offset (value_bytes f.width f.value)) k
    (and-right _ _ placed) (All-tail FieldFits f fs fits) (length-written f sector room inside l)
    (All-tail (λ (field : Field). ¬ (IsInField k field)) f fs outside)
    ∙ by_side inside size (cases_lt k f.offset)
  where
    not_in : f.offset ≤ k → k < f.offset + f.width → ⊥
    not_in from below = All-head (λ (field : Field). ¬ (IsInField k field)) f fs outside (from, below)

    by_end : f.offset + f.width ≤ length sector → length (value_bytes f.width f.value) ≡ f.width → f.offset ≤ k → (k < f.offset + f.width)
        ⊎ (f.offset + f.width ≤ k) → get_or (overwritten sector f.offset (value_bytes f.width f.value)) k 0 ≡ get_or sector k 0
    by_end inside size from (inl below) = absurd (not_in from below)
    by_end inside size from (inr past) = get_or-overwritten_above sector (value_bytes f.width f.value) f.offset k 0 (omega arith)
        (omega arith)

    by_side : f.offset + f.width ≤ length sector → length (value_bytes f.width f.value) ≡ f.width → (k < f.offset) ⊎ (f.offset ≤ k) →
        get_or (overwritten sector f.offset (value_bytes f.width f.value)) k 0 ≡ get_or sector k 0
    by_side inside size (inl below) = get_or-overwritten_below sector (value_bytes f.width f.value) f.offset k 0 (omega arith) below
    by_side inside size (inr from) = by_end inside size from (cases_lt k (f.offset + f.width))
