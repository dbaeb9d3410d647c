-- What data show, and that what spells a header and a map is read as them.
use Rattle.std.proofs.Common.{ℕ, List, ◌≡◌, refl, arith, ◌*◌, sym, ap, ◌∙◌, ◌≤◌, None, Option, eq-eqb}
use Rattle.std.specs.Option.{option_or}
use Rattle.cartridge_laws.proofs.HeaderRefusals.{first_fault-holds, map_fault-none, word_in-read}
use Rattle.cartridge_laws.specs.HeaderLaws.{HeaderIsDetermined, SpelledIsRead}
use Rattle.cartridge_spec.specs.Header.{Field, number, Header, number_in, Shows, HeaderFault, first_fault, profile_fields}
use Rattle.cartridge_laws.specs.HeaderTerms.{text_in, words_in, map_fault}

pub any : Field
any = number 0 0 0

-- the header that data show, field by field
unfoldable pub in_area : List (List ℕ) → Header
in_area area = record {
  format_date = number_in area 14 4;
  write_date = number_in area 18 4;
  segments_per_track = number_in area 24 2;
  label = text_in area 30 44;
  label_date = number_in area 74 4;
}

same-fields : (h : Header) (format_date write_date segments : ℕ) (label : List ℕ) (label_date : ℕ) →
    format_date ≡ h.format_date → write_date ≡ h.write_date → segments ≡ h.segments_per_track → label ≡ h.label →
    label_date ≡ h.label_date →
    record { format_date = format_date; write_date = write_date; segments_per_track = segments; label = label; label_date = label_date } ≡ h
same-fields h format_date write_date segments label label_date f w n l d = rw (f, w, n, l, d) refl

shown-is : (area : List (List ℕ)) (h : Header) (words : List ℕ) → Shows area h words → in_area area ≡ h
unfolding in_area
shown-is area h words s =
    let format_date : number_in area 14 4 ≡ h.format_date = s.header 0 any (omega arith) in
    let write_date : number_in area 18 4 ≡ h.write_date = s.header 1 any (omega arith) in
    let segments : number_in area 24 2 ≡ h.segments_per_track = s.header 2 any (omega arith) in
    let label : text_in area 30 44 ≡ h.label = s.header 3 any (omega arith) in
    let label_date : number_in area 74 4 ≡ h.label_date = s.header 4 any (omega arith) in
    same-fields h _ _ _ _ _ format_date write_date segments label label_date

pub header_is_determined : HeaderIsDetermined
header_is_determined area one other words others s t =
    let same : one ≡ other = sym (shown-is area one words s) ∙ shown-is area other others t in
    (same, s.map ∙ ap (λ (h : Header). words_in area (28 * h.segments_per_track)) same ∙ sym t.map)

pub spelled_is_read : SpelledIsRead
spelled_is_read h words area long spells good =
    let signature : number_in area 0 4 ≡ 0xAA55_AA55 = spells.profile 0 any (omega arith) in
    let fields : first_fault area (profile_fields h.segments_per_track) ≡ None =
    first_fault-holds (profile_fields h.segments_per_track) area spells.profile in
    let least : 3 ≤ h.segments_per_track = long.shortest in
    let marks : map_fault area ≡ None = map_fault-none area (λ s below.
    sym (word_in-read area words (28 * h.segments_per_track) s spells.shows.map (omega arith)) ∙ good s below) in
    record {
      signature = eq-eqb _ _ signature;
      sound = ap (λ (o : Option HeaderFault). option_or o (map_fault area)) fields ∙ marks;
      shown = spells.shows;
    }
