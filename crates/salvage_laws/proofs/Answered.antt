-- What is answered of the dump of a cartridge, behind all refusals.
use Rattle.std.proofs.Common.{◌≡◌, ℕ, zero, suc, ◌+◌, ◌-◌, ◌*◌, ◌≤◌, ◌==◌, ◌&&◌, nat_le, nat_lt, not, Bool, true, false, if◌then◌else◌}
use Rattle.std.proofs.Common.{List, [], ◌∷◌, length, map, get_or, Option, Some, None, refl, ap, subst, ◌∙◌, arith}
use Rattle.std.proofs.lemmas.Bool.Decides.{nat_tests}
use Rattle.std.proofs.lemmas.List.Sums.{sum_by-append}
use Rattle.std.specs.List.{range_with_len}
use Rattle.std.specs.Option.{option_map, option_and_then, option_or}
use Rattle.std.specs.Prelude.{count_by, unwrap_or}
use Rattle.cartridge_laws.proofs.MountWhole.{table_is_area}
use Rattle.cartridge_spec.specs.Header.{Header, HeaderFault, number_in}
use Rattle.cartridge_spec.specs.Shape.{IsArea, mask_of}
use Rattle.cartridge_spec.specs.Says.{unreadable_count, whole_mask, Written}
use Rattle.cartridge_spec.specs.Table.{Entry}
use Rattle.cartridge_spec.specs.TableSegment.{table_cells}
use Rattle.cartridge_laws.proofs.HeaderRefusals.{word_in-read}
use Rattle.flat_dump.proofs.Bytes.{dump_is_whole}
use Rattle.flat_dump.proofs.Maps.{each_map_tells}
use Rattle.flat_dump.specs.Dump.{dump_of}
use Rattle.flat_dump.specs.Held.{map_of}
use Rattle.qic_base.specs.Cartridge.{Cartridge}
use Rattle.qic_base.specs.CartridgeTerms.{IsCartridge}
use Rattle.qic_base.specs.declared.foreign.ForeignField.TheVariants.{FormatCode, FirstData, LastData}
use Rattle.rescue_map.specs.Map.{Reading, reading_of}
use Rattle.dump_spec.specs.Answers.{Answer, Answers, AnswersBehind, AnswersRead, AnswersTo, AnswersUnless, Inputs, IsKnown, Known}
use Rattle.dump_spec.specs.Answers.{early_refusal, foreign_in, foreign_status, length_refusal, map_fault, sure_refusal}
use Rattle.dump_spec.specs.Answers.{TableIs, volumes_in}
use Rattle.dump_spec.specs.Header.{first_data, header_refusal, is_wide, last_data}
use Rattle.dump_spec.specs.Lists.{is_missing}
use Rattle.dump_spec.specs.Pieces.{Layout, most_bytes}
use Rattle.dump_spec.specs.Table.{FoundTable, IsTable}
use Rattle.dump_spec.specs.Volumes.{volumes_of}
use Rattle.dump_spec.specs.declared.asked.Asked.{Asked}
use Rattle.dump_spec.specs.declared.asked.Command.{Command}
use Rattle.dump_spec.specs.declared.form.Form.TheVariants as forms
use Rattle.dump_spec.specs.declared.status.Status.{Status}
use Rattle.salvage_laws.proofs.Fields.{AreSound, are_sound}
use Rattle.salvage_laws.proofs.Headers.{header_is_in_force, known_of}
use Rattle.salvage_laws.proofs.Masks.{masks_are_of_map, told_segments}
use Rattle.salvage_laws.proofs.Tables.{plain_volume, sure_if_written, table_found, volumes_are}
use Rattle.salvage_laws.proofs.Views.{known_layout, plain_layout}
use Rattle.salvage_laws.specs.Exported.{exported, plainly, IsReadAs}

-- ---- nothing is refused in front of the header

-- no segment lacks
count_all : (a n : ℕ) → count_by (λ segment. not (is_missing [] segment)) (range_with_len a n) ≡ n
count_all a zero = refl
count_all a (suc n) =
    sum_by-append (λ segment. if not (is_missing [] segment) then 1 else 0) (a ∷ []) (range_with_len (a + 1) n)
    ∙ (let rest = count_all (a + 1) n in omega arith)

most_is : (first : ℕ) → most_bytes forms.Sectors first [] ≡ 32768 * (65536 - first)
most_is first = ap (λ (n : ℕ). 32768 * n) (count_all first (65536 - first))

short_enough : (bytes : List ℕ) (n : ℕ) → length bytes ≡ 917504 * n → n ≤ 246 →
    nat_lt (most_bytes forms.Sectors 0 []) (length bytes) ≡ false
short_enough bytes n long short =
    let most = most_is 0 in
    let few : length bytes ≤ most_bytes forms.Sectors 0 [] = omega arith in
    grind (arith, nat_tests)

none_early : (c : Cartridge) (sure : Option (List ℕ)) (command : Command) → IsCartridge c → sure_refusal sure ≡ None →
    early_refusal (exported c sure) (plainly command) ≡ None
none_early c sure command is not =
    let tells = each_map_tells c is in
    let length_none : length_refusal (exported c sure) (plainly command) ≡ None =
    rw (short_enough (dump_of c) c.info.segments_per_track (dump_is_whole c is) is.long.longest) refl in
    ap (λ (o : Option Status). option_or o (option_or (map_fault (reading_of (map_of c)))
    (length_refusal (exported c sure) (plainly command)))) not
    ∙ ap (λ (r : Reading). option_or (map_fault r) (length_refusal (exported c sure) (plainly command))) tells.reading
    ∙ length_none

behind_none : (inputs : Inputs) (asked : Asked) (answer : Answer) → early_refusal inputs asked ≡ None → Answers inputs asked answer →
    AnswersRead inputs asked answer
behind_none inputs asked answer none answers =
    subst (λ (o : Option Status). AnswersUnless inputs asked o answer) none answers

-- ---- the header is not refused

wide_not : (area : List (List ℕ)) → number_in area 4 1 ≡ 2 → is_wide area ≡ false
wide_not area code = ap (λ (n : ℕ). n == 6) code

first_is : (area : List (List ℕ)) (n : ℕ) → AreSound area n → first_data area ≡ 2
first_is area n sound =
    ap (λ (b : Bool). if b then number_in area 242 4 else number_in area 10 2) (wide_not area sound.code) ∙ sound.first

last_is : (area : List (List ℕ)) (n : ℕ) → AreSound area n → last_data area ≡ 28 * n - 1
last_is area n sound =
    ap (λ (b : Bool). if b then number_in area 246 4 else number_in area 12 2) (wide_not area sound.code) ∙ sound.last

-- the refusal by the code and the first and the last data segment
abbrev refusal_by : (code first last : ℕ) → Option HeaderFault
refusal_by code first last =
    if not (nat_le 2 code && nat_le code 6) then Some (record { field = FormatCode; value = code })
    else if nat_lt last first then Some (record { field = FirstData; value = first })
    else if nat_lt 65535 last then Some (record { field = LastData; value = last })
    else None

not_refused : (area : List (List ℕ)) (n : ℕ) → AreSound area n → 3 ≤ n → n ≤ 246 → header_refusal area ≡ None
not_refused area n sound least most =
    let before : nat_lt (28 * n - 1) 2 ≡ false = (let l : 2 ≤ 28 * n - 1 = omega arith in grind (arith, nat_tests)) in
    let few : nat_lt 65535 (28 * n - 1) ≡ false = (let l : 28 * n - 1 ≤ 65535 = omega arith in grind (arith, nat_tests)) in
    ap (λ (code : ℕ). refusal_by code (first_data area) (last_data area)) sound.code
    ∙ ap (λ (first : ℕ). refusal_by 2 first (last_data area)) (first_is area n sound)
    ∙ ap (λ (last : ℕ). refusal_by 2 2 last) (last_is area n sound)
    ∙ ap (λ (b : Bool). if b then Some (record { field = FirstData; value = 2 })
    else if nat_lt 65535 (28 * n - 1) then Some (record { field = LastData; value = 28 * n - 1 }) else None) before
    ∙ ap (λ (b : Bool). if b then Some (record { field = LastData; value = 28 * n - 1 }) else None) few

-- ---- what is known

-- the dump is known, with a header that is not refused, and is answered of
pub record IsAnswered (c : Cartridge) (sure : Option (List ℕ)) (command : Command) (answer : Answer) : Type 0 where
  pub known : Known
  pub by : IsKnown (exported c sure) (plainly command) known
  pub to : AnswersTo known command answer

pub is_answered : (c : Cartridge) (sure : Option (List ℕ)) (command : Command) (header : Header) (words : List ℕ)
    (table : List (List ℕ)) (entries : List Entry) (answer : Answer) → IsReadAs c header words table entries →
    sure_refusal sure ≡ None → Answers (exported c sure) (plainly command) answer → IsAnswered c sure command answer
is_answered c sure command header words table entries answer fit empty answers =
    let read = behind_none (exported c sure) (plainly command) answer (none_early c sure command fit.whole empty) answers in
    let known : Known = read.0 in
    let area : List (List ℕ) = fit.mounts.area in
    let formatted = fit.mounts.formatted in
    let sound = are_sound area c.info.segments_per_track formatted.sound in
    let head = header_is_in_force c sure command known area fit.whole read.1 formatted.has_header fit.hides_none in
    let taken : foreign_in known ≡ None =
    ap (λ (found : Option (List (List ℕ))). option_map foreign_status (option_and_then header_refusal found)) head
    ∙ ap (λ (fault : Option HeaderFault). option_map foreign_status fault)
    (not_refused area c.info.segments_per_track sound fit.whole.long.shortest fit.whole.long.longest) in
    record { known = known; by = read.1; to = subst (λ (o : Option Status). AnswersBehind known command o answer) taken read.2 }

-- the table is found in segment 2, with these volumes
pub record IsListed (c : Cartridge) (known : Known) (area : List (List ℕ)) (entries : List Entry) (found : Option FoundTable) : Type 0 where
  pub table : FoundTable
  pub is : found ≡ Some table
  pub segment : table.segment ≡ 2
  pub volumes : volumes_in known table ≡ map plain_volume entries
  pub sure : Written (table_cells c) area → unreadable_count (table_cells c) ≤ 2 → table.sure ≡ true

pub is_listed : (c : Cartridge) (sure : Option (List ℕ)) (command : Command) (known : Known) (header : Header) (words : List ℕ)
    (table : List (List ℕ)) (entries : List Entry) (found : Option FoundTable) → IsReadAs c header words table entries →
    IsKnown (exported c sure) (plainly command) known → TableIs known found → IsListed c known table entries found
is_listed c sure command known header words table entries found fit by is =
    let area : List (List ℕ) = fit.mounts.area in
    let formatted = fit.mounts.formatted in
    let sound = are_sound area c.info.segments_per_track formatted.sound in
    let short = fit.whole.long.shortest in
    let told = told_segments c area header words formatted in
    let head = header_is_in_force c sure command known area fit.whole by formatted.has_header fit.hides_none in
    let word : get_or words 2 0 ≡ 0 =
    word_in-read area words (28 * header.segments_per_track) 2 formatted.shown.map (omega arith) ∙ sound.table_word in
    let mask : known.layout.masks 2 ≡ whole_mask =
    masks_are_of_map c sure command known header words table entries 2 fit by (omega arith) ∙ ap mask_of word in
    let plain : IsTable (Some area) known.dump (plain_layout known.layout.masks) false found =
    subst (λ (zeros : Bool). IsTable (Some area) known.dump (plain_layout known.layout.masks) zeros found) by.zero_lost
    (subst (λ (l : Layout). IsTable (Some area) known.dump l known.zero_lost found) (known_layout c sure command known by)
    (subst (λ (o : Option (List (List ℕ))). IsTable o known.dump known.layout known.zero_lost found) head is)) in
    let whole : IsArea table = table_is_area c table fit.whole fit.mounts.reads in
    let there = table_found c known.dump known.layout.masks area table found (known_of c sure command known fit.whole by)
    (first_is area c.info.segments_per_track sound) mask fit.mounts.reads plain in
    record {
      table = there.table_there;
      is = there.is;
      segment = there.segment;
      volumes =
          ap (λ (o : Option (List (List ℕ))). volumes_of (unwrap_or (option_map is_wide o) false) there.table_there.segment
          there.table_there.area) head
          ∙ ap (λ (b : Bool). volumes_of b there.table_there.segment there.table_there.area) (wide_not area sound.code)
          ∙ ap (λ (t : List (List ℕ)). volumes_of false there.table_there.segment t) there.area
          ∙ volumes_are table entries whole.size fit.mounts.shown fit.uncompressed;
      sure = λ written few. sure_if_written c table there.table_there.area there.table_there.sure there.gives whole written few;
    }
