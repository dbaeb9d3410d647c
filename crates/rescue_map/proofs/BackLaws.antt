-- What is written of a mask reads back.
use Rattle.std.proofs.Common.{◌≡◌, ◌≢◌, ◌⊎◌, inl, inr, ⊎_elim, ℕ, zero, suc, ◌+◌, ◌*◌, ◌/◌, ◌%◌, ◌^◌, ◌<◌, ◌≤◌, ◌==◌, Bool, true, false}
use Rattle.std.proofs.Common.{List, [], ◌∷◌, ◌++◌, length, Some, None, if◌then◌else◌, ◌&&◌, nat_lt, nat_le, refl, sym, ap, ◌∙◌, subst}
use Rattle.std.proofs.Common.{arith, append_assoc, append-nil, codes}
use Rattle.std.proofs.lemmas.Bool.{ne_eqb, eq-eqb, lt-ltb, le-leb}
use Rattle.std.proofs.lemmas.Bool.Decides.{nat_tests}
use Rattle.rescue_map.specs.declared.spelling.Word.TheVariants.{Number, Mark}
use Rattle.rescue_map.specs.declared.form.Block.{Block}
use Rattle.rescue_map.specs.declared.form.Expected.{Expected}
use Rattle.rescue_map.specs.declared.form.Expected.TheVariants as awaits
use Rattle.rescue_map.specs.declared.form.Said.TheVariants as said
use Rattle.rescue_map.specs.Spelling.{digit_value, digits_from, limited, word_is}
use Rattle.rescue_map.specs.Lines.{Line, lines_of, words_from, words_of, is_blank, content_of}
use Rattle.rescue_map.specs.Form.{block_form, is_block_mark, line_says}
use Rattle.rescue_map.specs.Map.{State, Going, Blocks, behind_said, behind_line, behind_lines, behind_all, most_lines, endless}
use Rattle.qic_base.specs.LineBytes.{NoNewline}
use Rattle.rescue_map.specs.Text.{hex_digit, hex_digits, hex_text, block_text, blocks_text, head_text, runs_of}
use Rattle.rescue_map.specs.Laws.{ReadsBack}
use Rattle.rescue_map.proofs.Cutting.{without_return-push}
use Rattle.rescue_map.proofs.Digits.{digits_from-digit, limited-small}
use Rattle.std.proofs.Math.Nat.{pow-suc}
use Rattle.rescue_map.proofs.Lining.{lines_of-ended}
use Rattle.rescue_map.proofs.RunLaws.{IsRun, Meet, runs_from-meet, length-runs_from}

-- ---- hexadecimal digits

digit_value-hex_digit : (n : ℕ) → n < 16 → digit_value (hex_digit n) ≡ n
digit_value-hex_digit n few = grind (arith, nat_tests)

high_hex_digit : (n : ℕ) → n < 16 → 48 ≤ hex_digit n
high_hex_digit n few = grind (arith, nat_tests)

digits_from-push : (base so_far value b : ℕ) (bs : List ℕ) → digits_from base so_far bs ≡ Some value → digit_value b < base →
    digits_from base so_far (bs ++ b ∷ []) ≡ Some (value * base + digit_value b)
digits_from-push base so_far value b [] e low =
    let same : so_far ≡ value = cc in
    digits_from-digit base so_far b [] low ∙ ap (λ (n : ℕ). Some (n * base + digit_value b)) same
digits_from-push base so_far value b (c ∷ bs) e low = by_test (nat_lt (digit_value c) base)
    (λ so e. digits_from-push base so value b bs e low) e where
      by_test : (t : Bool) → ((so : ℕ) → digits_from base so bs ≡ Some value → digits_from base so (bs ++ b ∷ []) ≡ Some
          (value * base + digit_value b)) →
          (if t then digits_from base (so_far * base + digit_value c) bs else None) ≡ Some value →
          (if t then digits_from base (so_far * base + digit_value c) (bs ++ b ∷ []) else None) ≡ Some (value * base + digit_value b)
      by_test true next e = next (so_far * base + digit_value c) e
      by_test false next e = absurd (cc)

hex_value : (count n : ℕ) → n < 16 ^ count → digits_from 16 0 (hex_digits count n) ≡ Some n
hex_value zero n few = ap (λ (k : ℕ). Some k) (let z : 0 ≡ n = omega arith in z)
hex_value (suc count) n few =
    let digit : n % 16 < 16 = omega arith in
    let value : digit_value (hex_digit (n % 16)) ≡ n % 16 = digit_value-hex_digit (n % 16) digit in
    let front : n / 16 < 16 ^ count = few_front in
    digits_from-push 16 0 (n / 16) (hex_digit (n % 16)) (hex_digits count (n / 16)) (hex_value count (n / 16) front) (omega arith)
    ∙ ap (λ (k : ℕ). Some k) (let e : n / 16 * 16 + digit_value (hex_digit (n % 16)) ≡ n = omega arith in e) where
      few_front : n / 16 < 16 ^ count
      few_front = let p : 16 ^ suc count ≡ 16 ^ count * 16 = pow-suc 16 count in omega arith

-- ---- words

-- bytes that are no blank, no newline, no carriage return and no `#`
abbrev Plain : List ℕ → Type 0
Plain [] = Unit {0}
Plain (b ∷ bs) = (36 ≤ b) × Plain bs

Plain-append : (xs ys : List ℕ) → Plain xs → Plain ys → Plain (xs ++ ys)
Plain-append [] ys p q = q
Plain-append (x ∷ xs) ys p q = (p.0, Plain-append xs ys p.1 q)

Plain-hex_digits : (count n : ℕ) → Plain (hex_digits count n)
Plain-hex_digits zero n = tt
Plain-hex_digits (suc count) n =
    let h : 48 ≤ hex_digit (n % 16) = high_hex_digit (n % 16) (omega arith) in
    Plain-append (hex_digits count (n / 16)) (hex_digit (n % 16) ∷ []) (Plain-hex_digits count (n / 16)) (omega arith, tt)

Plain-hex_text : (n : ℕ) → Plain (hex_text n)
unfolding hex_text
Plain-hex_text n = Plain-append (codes "0x") (hex_digits 8 n) (omega arith, (omega arith, tt)) (Plain-hex_digits 8 n)

-- bytes that are no newline
abbrev OtherBytes : List ℕ → Type 0
OtherBytes [] = Unit {0}
OtherBytes (b ∷ bs) = (b ≢ 10) × OtherBytes bs

OtherBytes-append : (xs ys : List ℕ) → OtherBytes xs → OtherBytes ys → OtherBytes (xs ++ ys)
OtherBytes-append [] ys p q = q
OtherBytes-append (x ∷ xs) ys p q = (p.0, OtherBytes-append xs ys p.1 q)

OtherBytes-plain : (xs : List ℕ) → Plain xs → OtherBytes xs
OtherBytes-plain [] p = tt
OtherBytes-plain (x ∷ xs) p = let high = p.0 in ((λ e. omega arith), OtherBytes-plain xs p.1)

no_blank : (b : ℕ) → 36 ≤ b → is_blank b ≡ false
no_blank b high =
    let space : (b == 32) ≡ false = ne_eqb b 32 (λ e. omega arith) in
    let tab : (b == 9) ≡ false = ne_eqb b 9 (λ e. omega arith) in
    rw (space, tab) refl

-- a word's bytes
words_from-plain : (begun word rest : List ℕ) → Plain word → words_from begun (word ++ rest) ≡ words_from (begun ++ word) rest
words_from-plain begun [] rest plain = ap (λ xs. words_from xs rest) (sym (append-nil begun))
words_from-plain begun (b ∷ word) rest plain =
    let high = plain.0 in
    let blank : is_blank b ≡ false = no_blank b high in
    let hash : (b == 35) ≡ false = ne_eqb b 35 (λ e. omega arith) in
    let none : ((length begun == 0) && (b == 35)) ≡ false = rw hash (last_false (length begun == 0)) in
    let next : words_from begun (b ∷ (word ++ rest)) ≡ words_from (begun ++ b ∷ []) (word ++ rest) = rw (blank, none) refl in
    next ∙ words_from-plain (begun ++ b ∷ []) word rest plain.1 ∙ ap (λ xs. words_from xs rest) (append_assoc begun (b ∷ []) word) where
      last_false : (b : Bool) → (b && false) ≡ false
      last_false true = refl
      last_false false = refl

-- a word and two spaces
words_from-word : (word rest : List ℕ) → Plain word → 0 < length word → words_from [] (word ++ (32 ∷ 32 ∷ rest)) ≡ word ∷ words_from [] rest
words_from-word word rest plain some =
    let there : (length word == 0) ≡ false = ne_eqb (length word) 0 (λ e. omega arith) in
    words_from-plain [] word (32 ∷ 32 ∷ rest) plain ∙ rw there refl

-- a block's line has three words
abbrev line_front : Block → List ℕ
line_front block = hex_text block.start ++ (32 ∷ 32 ∷ (hex_text block.size ++ (32 ∷ 32 ∷ [])))

length-hex_text : (n : ℕ) → length (hex_text n) ≡ 10
unfolding hex_text
length-hex_text n = refl

block_words : (block : Block) → 36 ≤ block.mark →
    words_from [] (line_front block ++ block.mark ∷ []) ≡ hex_text block.start ∷ hex_text block.size ∷ (block.mark ∷ []) ∷ []
block_words block high =
    let s = length-hex_text block.start in
    let z = length-hex_text block.size in
    ap (words_from []) (append_assoc (hex_text block.start) (32 ∷ 32 ∷ (hex_text block.size ++ (32 ∷ 32 ∷ []))) (block.mark ∷ []))
    ∙ words_from-word (hex_text block.start) ((hex_text block.size ++ (32 ∷ 32 ∷ [])) ++ block.mark ∷ []) (Plain-hex_text block.start)
    (omega arith)
    ∙ ap (λ (ws : List (List ℕ)). hex_text block.start ∷ ws)
    (ap (words_from []) (append_assoc (hex_text block.size) (32 ∷ 32 ∷ []) (block.mark ∷ []))
    ∙ words_from-word (hex_text block.size) (block.mark ∷ []) (Plain-hex_text block.size) (omega arith)
    ∙ ap (λ (ws : List (List ℕ)). hex_text block.size ∷ ws) (words_from-plain [] (block.mark ∷ []) [] (high, tt)))

-- ---- what the words are

hex_word : (n : ℕ) → n < 2 ^ 32 → word_is (hex_text n) ≡ Number n false
unfolding hex_text
hex_word n few = ap (limited false) (hex_value 8 n (omega arith)) ∙ limited-small false n (omega arith)

mark_word : (mark : ℕ) → (mark ≡ 43) ⊎ (mark ≡ 45) → word_is (mark ∷ []) ≡ Mark mark
mark_word mark (inl e) = rw e refl
mark_word mark (inr e) = rw e refl

block_said : (block : Block) → IsRun block → block_form (Number block.start false) (Number block.size false) (Mark block.mark) ≡ Some block
block_said block run =
    let fits = run.fits in
    let some : nat_le 1 block.size ≡ true = le-leb 1 block.size run.some in
    let small : nat_lt (block.start + block.size) (2 ^ 63) ≡ true = lt-ltb (block.start + block.size) (2 ^ 63) (omega arith) in
    let mark : is_block_mark block.mark ≡ true = of_mark block.mark run.mark in
    rw (some, small, mark) refl where
      of_mark : (mark : ℕ) → (mark ≡ 43) ⊎ (mark ≡ 45) → is_block_mark mark ≡ true
      of_mark mark (inl e) = rw e refl
      of_mark mark (inr e) = rw e refl

-- a block may stand at this byte
abbrev Fits : (at : ℕ) → Expected → Type 0
Fits at awaits.Status = ⊥
Fits at awaits.First = Unit {0}
Fits at (awaits.Next end) = at ≡ end

words_said : (block : Block) (expected : Expected) → IsRun block → Fits block.start expected →
    line_says expected (hex_text block.start ∷ hex_text block.size ∷ (block.mark ∷ []) ∷ []) ≡ said.Block block
words_said block awaits.Status run fits = absurd fits
words_said block awaits.First run fits =
    let ends = run.fits in
    rw (hex_word block.start (omega arith), hex_word block.size (omega arith), mark_word block.mark run.mark, block_said block run) refl
words_said block (awaits.Next end) run fits =
    let ends = run.fits in
    let here : (block.start == end) ≡ true = eq-eqb block.start end fits in
    rw (hex_word block.start (omega arith), hex_word block.size (omega arith), mark_word block.mark run.mark, block_said block run, here)
    refl

-- ---- the lines of the text

-- no byte of these is a newline
not_newline : (bytes : List ℕ) → OtherBytes bytes → NoNewline bytes
not_newline [] other k d here = absurd (omega arith)
not_newline (b ∷ bs) other zero d here = other.0
not_newline (b ∷ bs) other (suc k) d here = not_newline bs other.1 k d (omega arith)

line_no_newline : (block : Block) → 36 ≤ block.mark → NoNewline (line_front block ++ block.mark ∷ [])
line_no_newline block high =
    not_newline (line_front block ++ block.mark ∷ [])
    (OtherBytes-append (line_front block) (block.mark ∷ [])
    (OtherBytes-append (hex_text block.start) (32 ∷ 32 ∷ (hex_text block.size ++ (32 ∷ 32 ∷ [])))
    (OtherBytes-plain (hex_text block.start) (Plain-hex_text block.start)) (
      (λ e. omega arith),
      (
        (λ e. omega arith),
        OtherBytes-append (hex_text block.size) (32 ∷ 32 ∷ []) (OtherBytes-plain (hex_text block.size) (Plain-hex_text block.size))
            ((λ e. omega arith), ((λ e. omega arith), tt)),
      ),
    ))
    ((λ e. omega arith), tt))

length-line : (block : Block) → length (line_front block ++ block.mark ∷ []) ≡ 25
unfolding hex_text
length-line block = refl

-- the text of a block and what comes behind it
text_parts : (block : Block) (rest : List ℕ) → block_text block ++ rest ≡ ((line_front block ++ block.mark ∷ []) ++ 10 ∷ []) ++ rest
unfolding hex_text
text_parts block rest = refl

mark_high : (mark : ℕ) → (mark ≡ 43) ⊎ (mark ≡ 45) → 36 ≤ mark
mark_high mark either = ⊎_elim (λ e. omega arith) (λ e. omega arith) either

block_read : (block : Block) (rest : List ℕ) (blocks : List Block) (expected : Expected) (number : ℕ) → IsRun block →
    Fits block.start expected → number ≤ most_lines →
    behind_lines (Going blocks expected number) (lines_of (block_text block ++ rest))
    ≡ behind_lines (Going (blocks ++ block ∷ []) (awaits.Next (block.start + block.size)) (number + 1)) (lines_of rest)
block_read block rest blocks expected number run fits few =
    let high = mark_high block.mark run.mark in
    let body : List ℕ = line_front block ++ block.mark ∷ [] in
    let line : Line = record { bytes = body; ended = true } in
    let content : content_of line ≡ body = without_return-push (line_front block) block.mark (λ e. omega arith) in
    let words : words_of line ≡ hex_text block.start ∷ hex_text block.size ∷ (block.mark ∷ []) ∷ [] = ap (words_from []) content
    ∙ block_words block high in
    let says : line_says expected (words_of line) ≡ said.Block block = ap (line_says expected) words ∙ words_said block expected run fits in
    let long = length-line block in
    let a : nat_lt most_lines number ≡ false = grind (arith, nat_tests) in
    let b : nat_le endless (length line.bytes) ≡ false = rw long refl in
    let there : behind_line (Going blocks expected number) line ≡ behind_said blocks expected number (line_says expected (words_of line)) =
    rw (a, b) refl in
    ap (λ (t : List ℕ). behind_lines (Going blocks expected number) (lines_of t)) (text_parts block rest)
    ∙ ap (behind_lines (Going blocks expected number)) (lines_of-ended body rest (line_no_newline block high))
    ∙ ap (λ (s : State). behind_lines s (lines_of rest)) (there ∙ ap (behind_said blocks expected number) says)

blocks_read : (blocks before : List Block) (expected : Expected) (at number : ℕ) → Meet at blocks → Fits at expected →
    number + length blocks ≤ most_lines + 1 →
    behind_all (behind_lines (Going before expected number) (lines_of (blocks_text blocks))) ≡ Blocks (before ++ blocks)
blocks_read [] before awaits.Status at number meet fits few = absurd fits
blocks_read [] before awaits.First at number meet fits few = ap (λ (bs : List Block). Blocks bs) (sym (append-nil before))
blocks_read [] before (awaits.Next end) at number meet fits few = ap (λ (bs : List Block). Blocks bs) (sym (append-nil before))
blocks_read (block ∷ blocks) before expected at number meet fits few =
    let P : ℕ → Type 0 = λ n. Fits n expected in
    ap behind_all (block_read block (blocks_text blocks) before expected number meet.1 (subst P (sym meet.0) fits) (omega arith))
    ∙ blocks_read blocks (before ++ block ∷ []) (awaits.Next (block.start + block.size)) (block.start + block.size) (number + 1) meet.2 refl
    (omega arith)
    ∙ ap (λ (bs : List Block). Blocks bs) (append_assoc before (block ∷ []) blocks)

head_read : (rest : List ℕ) → behind_lines (Going [] awaits.Status 1) (lines_of (head_text ++ rest)) ≡ behind_lines
    (Going [] awaits.First 5) (lines_of rest)
unfolding head_text
head_read rest = refl

pub reads_back : ReadsBack
reads_back mask few =
    let runs = length-runs_from mask 0 (32 * length mask) in
    let most : length mask ≤ 6888 = few in
    ap behind_all (head_read (blocks_text (runs_of mask)))
    ∙ blocks_read (runs_of mask) [] awaits.First 0 5 (runs_from-meet mask 0 (32 * length mask) (omega arith)) tt (omega arith)
