-- The masks of segments, by the map of the header in force.
use Rattle.std.proofs.Common.{◌≡◌, ◌↔◌, inl, inr, ℕ, ◌*◌, ◌^◌, ◌<◌, ◌≤◌, ◌==◌, ◌||◌, nat_lt, Bool, true, false, List, [], length}
use Rattle.std.proofs.Common.{map}
use Rattle.std.proofs.Common.{get_or, if◌then◌else◌, Option, Some, refl, sym, ap, ◌∙◌, eq-eqb, arith}
use Rattle.std.proofs.lemmas.Bool.{eqb-true}
use Rattle.std.proofs.lemmas.Bool.Decides.{nat_tests}
use Rattle.std.proofs.lemmas.List.{length-map, get_or-map}
use Rattle.std.specs.Int.{bit_at}
use Rattle.std.specs.List.{range_with_len}
use Rattle.cartridge_laws.proofs.FreshMarks.{shown_are_words}
use Rattle.cartridge_laws.proofs.HeaderRefusals.{fault-segments, length-words_in, word_in-read}
use Rattle.cartridge_laws.proofs.Sayings.{said_are_sectors}
use Rattle.cartridge_laws.proofs.Segments.{length-whole_cells}
use Rattle.cartridge_laws.specs.HeaderTerms.{IsInForce}
use Rattle.cartridge_spec.specs.Header.{Header, number, number_in, word_in}
use Rattle.cartridge_spec.specs.HeaderCopies.{CopyReads, copy_cells, IsFormatted}
use Rattle.cartridge_spec.specs.Shape.{IsArea, mask_of, mask_at}
use Rattle.dump_header.proofs.Bits.{are_masks}
use Rattle.dump_header.specs.Marking.{AreMasks}
use Rattle.qic_base.specs.Cartridge.{Cartridge}
use Rattle.dump_spec.specs.Header.{is_mapped_bad, is_entered_bad}
use Rattle.dump_spec.specs.Masks.{dump_mask, is_bad}
use Rattle.salvage_laws.proofs.Fields.{are_sound}
use Rattle.salvage_laws.proofs.Headers.{header_is_in_force}
use Rattle.salvage_laws.specs.CellLaws.{MasksAreOfMap}

-- ---- the header in force

copy_is_area : (c : Cartridge) (copy : ℕ) (area : List (List ℕ)) → CopyReads c copy area → IsArea area
copy_is_area c copy area reads =
    let are = said_are_sectors (copy_cells c copy) area reads.says in
    let size = are.size in
    let long = length-whole_cells c copy in
    record { size = omega arith; sectors = are.each }

in_force_is_area : (c : Cartridge) (area : List (List ℕ)) → IsInForce c area → IsArea area
in_force_is_area c area (inl reads) = copy_is_area c 0 area reads
in_force_is_area c area (inr (not, reads)) = copy_is_area c 1 area reads

-- its map has a word for each segment
pub told_segments : (c : Cartridge) (area : List (List ℕ)) (header : Header) (words : List ℕ) → IsFormatted c area header words →
    header.segments_per_track ≡ c.info.segments_per_track
told_segments c area header words formatted =
    let there : number_in area 24 2 ≡ header.segments_per_track = formatted.shown.header 2 (number 24 2 0) (omega arith) in
    sym there ∙ fault-segments area c.info.segments_per_track formatted.sound

-- ---- bits

-- by a header of format code 2 a sector is bad where its bit of the map is 1
bad_by_map : (area : List (List ℕ)) (s i : ℕ) → number_in area 4 1 ≡ 2 → s < 6912 →
    is_bad (Some area) [] s i ≡ (bit_at (word_in area s) i == 1)
bad_by_map area s i code few =
    let mapped : nat_lt s 6912 ≡ true = grind (arith, nat_tests) in
    let has : ((number_in area 4 1 == 2) || (number_in area 4 1 == 5)) ≡ true =
    ap (λ (n : ℕ). (n == 2) || (n == 5)) code in
    ap (λ (b : Bool). (if b then is_mapped_bad area s i else is_entered_bad area s i) || false) has
    ∙ rw mapped (or_none (bit_at (word_in area s) i == 1))
  where
    or_none : (b : Bool) → (b || false) ≡ b
    or_none true = refl
    or_none false = refl

both_ways : (is : Bool) (bit : ℕ) → is ≡ (bit == 1) → ((bit ≡ 1) ↔ (is ≡ true))
both_ways is bit same = ((λ e. same ∙ eq-eqb bit 1 e), (λ e. eqb-true bit 1 (sym same ∙ e)))

masks_by : (area : List (List ℕ)) (words : List ℕ) (n s : ℕ) → IsArea area → number_in area 4 1 ≡ 2 → n ≤ 6912 →
    words ≡ map (word_in area) (range_with_len 0 n) → ((k : ℕ) → k < n → get_or words k 0 < 2 ^ 32) → s < n →
    dump_mask (Some area) [] s ≡ mask_at words s
masks_by area words n s whole code few are small within =
    let long : length words ≡ n = length-words_in area words n are in
    let masks : List ℕ = map mask_of words in
    let size : length masks ≡ length words = length-map words mask_of in
    let by : AreMasks (Some area) [] masks =
    are_masks (Some area) [] words masks size
    (λ k below.
    let low = small k (omega arith) in
    let here = get_or-map mask_of words k 0 0 below in
    omega arith)
    (λ k i below low.
    both_ways (is_bad (Some area) [] k i) (bit_at (get_or words k 0) i)
    (bad_by_map area k i code (omega arith)
    ∙ ap (λ (word : ℕ). bit_at word i == 1) (sym (word_in-read area words n k are (omega arith))))) in
    sym (by s (omega arith)) ∙ get_or-map mask_of words s 0 0 (omega arith)

-- ---- by what is known

pub masks_are_of_map : MasksAreOfMap
masks_are_of_map c sure command known header words table entries s fit by within =
    let formatted = fit.mounts.formatted in
    let area : List (List ℕ) = fit.mounts.area in
    let whole : IsArea area = in_force_is_area c area formatted.has_header.in_force in
    let told = told_segments c area header words formatted in
    let short = fit.whole.long.longest in
    let are = shown_are_words header words area whole formatted.shown in
    let long = length-words_in area words (28 * header.segments_per_track) formatted.shown.map in
    by.masks s
    ∙ ap (λ (found : Option (List (List ℕ))). dump_mask found [] s)
    (header_is_in_force c sure command known area fit.whole by formatted.has_header fit.hides_none)
    ∙ masks_by area words (28 * header.segments_per_track) s whole (are_sound area c.info.segments_per_track formatted.sound).code
    (omega arith) formatted.shown.map (λ k below. are k 0 (omega arith)) (omega arith)
