-- Which sectors are rescued by a map, as a test.
use Rattle.std.proofs.Common.{◌≡◌, ◌≢◌, ◌↔◌, inl, inr, ⊎_elim, ℕ, zero, suc, ◌+◌, ◌*◌, ◌/◌, ◌%◌, ◌<◌, ◌≤◌, ◌==◌, ◌&&◌, ◌||◌, Bool, true}
use Rattle.std.proofs.Common.{false}
use Rattle.std.proofs.Common.{List, [], ◌∷◌, length, get_or, Option, Some, None, nat_le, nat_lt, refl, ap, ◌∙◌, arith}
use Rattle.std.specs.Int.{bit_at}
use Rattle.std.proofs.lemmas.Bool.Decides.{nat_tests}
use Rattle.std.proofs.lemmas.Bool.{or_cases, or_left, or_right, cases_eq, false≢true}
use Rattle.std.proofs.lemmas.Nat.Bits.{bit_at_ones}
use Rattle.rescue_map.specs.Map.{Rescued, IsIn, IsWhole}
use Rattle.rescue_map.specs.Mask.{IsMarked}
use Rattle.rescue_map.specs.declared.form.Block.{Block}
use Rattle.dump_spec.specs.Dump.{Dump}
use Rattle.dump_spec.specs.Dump as dumps
use Rattle.dump_reader.specs.Piece.{IsRescuedSet}
use Rattle.dump_opening.specs.Texts.{IsRescuedBy}

-- ---- bytes

abbrev pub has_byte : Block → ℕ → Bool
has_byte block byte = (block.mark == 43) && (nat_le block.start byte && nat_lt byte (block.start + block.size))

abbrev pub byte_rescued : List Block → ℕ → Bool
byte_rescued [] byte = false
byte_rescued (block ∷ blocks) byte = has_byte block byte || byte_rescued blocks byte

has_it : (block : Block) (byte : ℕ) → has_byte block byte ≡ true → (block.mark ≡ 43) × IsIn block byte
has_it block byte has = (grind (arith, nat_tests), (grind (arith, nat_tests), grind (arith, nat_tests)))

it_has : (block : Block) (byte : ℕ) → block.mark ≡ 43 → IsIn block byte → has_byte block byte ≡ true
it_has block byte mark within = let low = within.0 in let high = within.1 in grind (arith, nat_tests)

byte_is : (blocks : List Block) (byte : ℕ) → byte_rescued blocks byte ≡ true → Rescued blocks byte
byte_is [] byte is = false≢true is
byte_is (block ∷ blocks) byte is = ⊎_elim (λ here. inl (has_it block byte here)) (λ later. inr (byte_is blocks byte later))
    (or_cases (has_byte block byte) (byte_rescued blocks byte) is)

is_byte : (blocks : List Block) (byte : ℕ) → Rescued blocks byte → byte_rescued blocks byte ≡ true
is_byte [] byte is = absurd is
is_byte (block ∷ blocks) byte is = ⊎_elim
    (λ here. or_left (has_byte block byte) (byte_rescued blocks byte) (it_has block byte here.0 here.1))
    (λ later. or_right (has_byte block byte) (byte_rescued blocks byte) (is_byte blocks byte later)) is

-- ---- sectors

-- so many bytes from one on are
unfoldable pub bytes_rescued : List Block → (first count : ℕ) → Bool
bytes_rescued blocks first zero = true
bytes_rescued blocks first (suc count) = byte_rescued blocks (first + count) && bytes_rescued blocks first count

both_true : (a b : Bool) → (a && b) ≡ true → (a ≡ true) × (b ≡ true)
both_true true b is = (refl, is)
both_true false b is = absurd (cc (is))

bytes_are : (blocks : List Block) (first count : ℕ) → bytes_rescued blocks first count ≡ true →
    (byte : ℕ) → first ≤ byte → byte < first + count → Rescued blocks byte
unfolding bytes_rescued
bytes_are blocks first zero is byte low high = absurd (omega arith)
bytes_are blocks first (suc count) is byte low high =
    let both = both_true (byte_rescued blocks (first + count)) (bytes_rescued blocks first count) is in
    ⊎_elim
    (λ (e : byte ≡ first + count). byte_is blocks byte (ap (byte_rescued blocks) e ∙ both.0))
    (λ (apart : byte ≢ first + count). bytes_are blocks first count both.1 byte low (omega (arith, apart)))
    (cases_eq byte (first + count))

are_bytes : (blocks : List Block) (first count : ℕ) →
    ((byte : ℕ) → first ≤ byte → byte < first + count → Rescued blocks byte) → bytes_rescued blocks first count ≡ true
unfolding bytes_rescued
are_bytes blocks first zero are = refl
are_bytes blocks first (suc count) are =
    rw (is_byte blocks (first + count) (are (first + count) (omega arith) (omega arith)))
    (are_bytes blocks first count (λ byte low high. are byte low (omega arith)))

abbrev pub rescued_by : Option (List Block) → (sector : ℕ) → Bool
rescued_by None sector = true
rescued_by (Some blocks) sector = bytes_rescued blocks (1024 * sector) 1024

whole_is : (blocks : List Block) (sector : ℕ) → (rescued_by (Some blocks) sector ≡ true) ↔ IsWhole blocks sector
whole_is blocks sector = (bytes_are blocks (1024 * sector) 1024, are_bytes blocks (1024 * sector) 1024)

-- ---- a dump, and the set in memory

abbrev pub dump_by : (bytes : List ℕ) → Option (List Block) → Dump
dump_by bytes blocks = record { bytes = bytes; rescued = rescued_by blocks }

pub dump_is : (bytes : List ℕ) (blocks : Option (List Block)) → dumps.IsRescuedBy blocks (dump_by bytes blocks)
dump_is bytes None = λ q. refl
dump_is bytes (Some blocks) = whole_is blocks

pub set_is : (blocks : Option (List Block)) (rescued : List ℕ) (dump : Dump) → IsRescuedBy blocks rescued →
    dumps.IsRescuedBy blocks dump → IsRescuedSet dump rescued
set_is None rescued dump all every = λ q within. ((λ marked. every q), (λ yes. all q within))
set_is (Some blocks) rescued dump is whole = λ q within.
    ((λ marked. (whole q).1 ((is q within).0 marked)), (λ yes. (is q within).1 ((whole q).0 yes)))

-- a set with all bits
pub all_marked : (set : List ℕ) → ((k : ℕ) → k < length set → get_or set k 0 ≡ 4294967295) → (q : ℕ) → q < 32 * length set → IsMarked set q
all_marked set full q within =
    ap (λ (word : ℕ). bit_at word (q % 32)) (full (q / 32) (omega arith)) ∙ bit_at_ones 32 (q % 32) (omega arith)
