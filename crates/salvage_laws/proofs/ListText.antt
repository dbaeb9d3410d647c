-- The list of the volumes of an exported cartridge.
use Rattle.std.proofs.Common.{◌≡◌, ℕ, zero, suc, ◌+◌, ◌-◌, ◌*◌, ◌<◌, ◌≤◌, ◌==◌, ◌&&◌, nat_le, nat_lt, not, Bool, true, false}
use Rattle.std.proofs.Common.{List, [], ◌∷◌, ◌++◌, map, if◌then◌else◌, Option, Some, refl, sym, ap, ap₂, ◌∙◌}
use Rattle.std.proofs.Common.{arith}
use Rattle.std.proofs.lemmas.Bool.Decides.{nat_tests}
use Rattle.std.proofs.lemmas.List.{length-map}
use Rattle.std.proofs.lemmas.List.Sums.{sum_by-cons}
use Rattle.std.specs.List.{range_with_len}
use Rattle.std.specs.Prelude.{sum_by}
use Rattle.cartridge_laws.proofs.TableOrders.{faultless_is_sound}
use Rattle.cartridge_laws.specs.Table.{LieBehind}
use Rattle.cartridge_spec.specs.Header.{Header}
use Rattle.cartridge_spec.specs.HeaderCopies.{last_segment}
use Rattle.cartridge_spec.specs.Shape.{capacity, mask_at}
use Rattle.cartridge_spec.specs.Table.{Entry}
use Rattle.cartridge_spec.specs.Volumes.{capacity_between, entries_of, volume_length}
use Rattle.command_spec.specs.Lines.{count_line, list_text, volume_line, volume_lines}
use Rattle.qic_base.specs.Cartridge.{Cartridge}
use Rattle.dump_spec.specs.Answers.{Answer, IsKnown, Known, list_answer}
use Rattle.dump_spec.specs.Lines.{listed_lines}
use Rattle.dump_spec.specs.Lines as dump_lines
use Rattle.dump_spec.specs.Volumes.{Volume, carried, carried_between, has_bad_range, length_of}
use Rattle.dump_spec.specs.declared.asked.Command.{Command}
use Rattle.dump_spec.specs.declared.asked.Command.TheVariants as commands
use Rattle.salvage_laws.proofs.Answered.{is_answered, is_listed}
use Rattle.salvage_laws.proofs.Masks.{masks_are_of_map}
use Rattle.salvage_laws.proofs.Standing.{standing_is_read_as}
use Rattle.salvage_laws.proofs.Tables.{plain_volume}
use Rattle.salvage_laws.specs.Exported.{exported, plainly, IsReadAs}
use Rattle.salvage_laws.specs.ListLaws.{ListAgrees, StandingListAgrees}

-- ---- what segments carry

-- the masks of the first segments, so many, are those of the map
abbrev pub AreOfMap : (masks : ℕ → ℕ) → (words : List ℕ) → (segments : ℕ) → Type 0
AreOfMap masks words segments = (s : ℕ) → s < segments → masks s ≡ mask_at words s

carried_from : (masks : ℕ → ℕ) (words : List ℕ) (segments a n : ℕ) → AreOfMap masks words segments → a + n ≤ segments →
    sum_by (λ s. capacity (masks s)) (range_with_len a n) ≡ sum_by (λ s. capacity (mask_at words s)) (range_with_len a n)
carried_from masks words segments a zero are within = refl
carried_from masks words segments a (suc n) are within =
    sum_by-cons (λ s. capacity (masks s)) a (range_with_len (a + 1) n)
    ∙ ap₂ (λ (x y : ℕ). x + y) (ap capacity (are a (omega arith))) (carried_from masks words segments (a + 1) n are (omega arith))
    ∙ sym (sum_by-cons (λ s. capacity (mask_at words s)) a (range_with_len (a + 1) n))

pub carried_is : (masks : ℕ → ℕ) (words : List ℕ) (start end segments : ℕ) → AreOfMap masks words segments → start ≤ end →
    end < segments → carried_between masks start end ≡ capacity_between words start end
carried_is masks words start end segments are forwards within =
    carried_from masks words segments start (end + 1 - start) are (omega arith)

-- ---- a volume

and_plain : (a b : Bool) → (a && not false && b) ≡ (a && b)
and_plain true b = refl
and_plain false b = refl

pub good_range : (e : Entry) (last : ℕ) → 2 < e.start → e.start ≤ e.end → e.end ≤ last → last ≤ 65535 →
    has_bad_range 2 (plain_volume e) ≡ false
good_range e last behind forwards within short =
    let first : nat_lt e.end e.start ≡ false = grind (arith, nat_tests) in
    let second : nat_lt 65535 e.end ≡ false = (let l : e.end ≤ 65535 = omega arith in grind (arith, nat_tests)) in
    let third : nat_le e.start 2 ≡ false = grind (arith, nat_tests) in
    rw (first, second, third) refl

pub length_is : (masks : ℕ → ℕ) (words : List ℕ) (segments : ℕ) (e : Entry) → AreOfMap masks words segments → e.start ≤ e.end →
    e.end < segments → has_bad_range 2 (plain_volume e) ≡ false → length_of masks 2 (plain_volume e) ≡ volume_length words e
length_is masks words segments e are forwards within good =
    let all : carried masks (plain_volume e) ≡ capacity_between words e.start e.end =
    carried_is masks words e.start e.end segments are forwards within in
    ap (λ (b : Bool). if b then 0
    else if (e.directory == 0) && not false && nat_le e.size (carried masks (plain_volume e)) then e.size
    else carried masks (plain_volume e)) good
    ∙ ap (λ (b : Bool). if b then e.size else carried masks (plain_volume e))
    (and_plain (e.directory == 0) (nat_le e.size (carried masks (plain_volume e))))
    ∙ ap (λ (n : ℕ). if (e.directory == 0) && nat_le e.size n then e.size else n) all

-- ---- the lines

lines_are : (masks : ℕ → ℕ) (words : List ℕ) (segments number before last : ℕ) (es : List Entry) → AreOfMap masks words segments →
    last < segments → last ≤ 65535 → 2 ≤ before → LieBehind before last es →
    listed_lines masks 2 number (map plain_volume es) ≡ volume_lines words number es
unfolding volume_lines
lines_are masks words segments number before last [] are within short least lie = refl
lines_are masks words segments number before last (e ∷ es) are within short least lie =
    let behind : before < e.start = lie.0 in
    let forwards : e.start ≤ e.end = lie.1 in
    let low : e.end ≤ last = lie.2 in
    let good : has_bad_range 2 (plain_volume e) ≡ false = good_range e last (omega arith) forwards low short in
    ap₂ (λ (xs ys : List ℕ). xs ++ ys)
    (ap (λ (b : Bool). if b then dump_lines.bad_volume_line number (plain_volume e)
    else volume_line number e (length_of masks 2 (plain_volume e))) good
    ∙ ap (volume_line number e) (length_is masks words segments e are forwards (omega arith) good))
    (lines_are masks words segments (number + 1) e.end last es are within short (omega arith) lie.3)

pub text_is : (masks : ℕ → ℕ) (words : List ℕ) (segments last : ℕ) (es : List Entry) → AreOfMap masks words segments →
    last < segments → last ≤ 65535 → LieBehind 2 last es →
    dump_lines.list_text masks 2 (map plain_volume es) ≡ list_text words es
unfolding list_text
text_is masks words segments last es are within short lie =
    ap₂ (λ (xs : List ℕ) (n : ℕ). xs ++ count_line n) (lines_are masks words segments 1 2 last es are within short (omega arith) lie)
    (length-map es plain_volume)

-- ---- the list

-- the volumes lie behind the table, in order, on the cartridge
pub in_order : (c : Cartridge) (header : Header) (words : List ℕ) (table : List (List ℕ)) (entries : List Entry) →
    IsReadAs c header words table entries → LieBehind 2 (last_segment c) entries
in_order c header words table entries fit = faultless_is_sound table (last_segment c) entries fit.mounts.sound fit.mounts.shown

pub of_map : (c : Cartridge) (sure : Option (List ℕ)) (command : Command) (known : Known) (header : Header) (words : List ℕ)
    (table : List (List ℕ)) (entries : List Entry) → IsReadAs c header words table entries →
    IsKnown (exported c sure) (plainly command) known → AreOfMap known.layout.masks words (28 * c.info.segments_per_track)
of_map c sure command known header words table entries fit by s within =
    masks_are_of_map c sure command known header words table entries s fit by within

pub list_agrees : ListAgrees
list_agrees c header words table entries sure answer fit empty answers =
    let answered = is_answered c sure commands.List header words table entries answer fit empty answers in
    let known : Known = answered.known in
    let listed = is_listed c sure commands.List known header words table entries answered.to.0 fit answered.by answered.to.1 in
    let short = fit.whole.long.shortest in
    let long = fit.whole.long.longest in
    let are = of_map c sure commands.List known header words table entries fit answered.by in
    let is : answer ≡ list_answer known (Some listed.table) = answered.to.2 ∙ ap (list_answer known) listed.is in
    record {
      status = ap (λ (a : Answer). a.status) is;
      printed = ap (λ (a : Answer). a.printed) is
          ∙ ap₂ (λ (segment : ℕ) (volumes : List Volume). dump_lines.list_text known.layout.masks segment volumes) listed.segment
          listed.volumes
          ∙ text_is known.layout.masks words (28 * c.info.segments_per_track) (last_segment c) entries are (omega arith) (omega arith)
          (in_order c header words table entries fit);
      sure = λ written few. ap (λ (a : Answer). a.warned) is ∙ ap not (listed.sure written few);
    }

pub standing_list_agrees : StandingListAgrees
standing_list_agrees c plain sure answer is stood reads uncompressed empty answers =
    list_agrees c plain.header plain.words plain.table_area (entries_of plain) sure answer
    (standing_is_read_as c plain is stood reads uncompressed) empty answers
