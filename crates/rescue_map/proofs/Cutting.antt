-- The words of a line, cut from its bytes one after the other.
use Rattle.std.proofs.Common.{◌≡◌, ℕ, ◌+◌, ◌-◌, ◌<◌, ◌≤◌, ◌==◌, Bool, true, false, List, [], ◌∷◌, ◌++◌, length, get_or, take, set, min}
use Rattle.std.proofs.Common.{if◌then◌else◌, nat_lt, refl, sym, ap, ◌∙◌, subst, ⊎_elim, ◌&&◌, append_assoc, append-nil, arith}
use Rattle.std.proofs.lemmas.Bool.Decides.{nat_tests}
use Rattle.std.proofs.lemmas.Bool.{cases_lt, cases_eq, eq-eqb, ne_eqb, false≢true}
use Rattle.std.proofs.lemmas.List.{length_push, length-take-le, get_or_append_left, get_or_at, take_all, take_more_set, take-append-le}
use Rattle.std.proofs.Math.Seq.{take-append_seam}
use Rattle.rescue_map.specs.declared.spelling.Word.{Word}
use Rattle.rescue_map.specs.declared.spelling.Word.TheVariants.{Missing}
use Rattle.rescue_map.specs.declared.words.LineWords.{LineWords}
use Rattle.rescue_map.specs.declared.scan.Scan.{Scan}
use Rattle.rescue_map.specs.Spelling.{word_is}
use Rattle.rescue_map.specs.Lines.{word_at, begun_word, words_from, is_blank, without_return, content_of}
use Rattle.rescue_map.specs.Scanning.{AreWords, IsBegun, Cut, held_bytes, Scanned}

-- ---- the words that are kept

word_at-below : (list : List (List ℕ)) (x : List ℕ) (k : ℕ) → k < length list → word_at (list ++ x ∷ []) k ≡ word_at list k
word_at-below list x k here =
    let long : length (list ++ x ∷ []) ≡ length list + 1 = length_push list x in
    let new : nat_lt k (length (list ++ x ∷ [])) ≡ true = grind (arith, nat_tests) in
    let old : nat_lt k (length list) ≡ true = grind (arith, nat_tests) in
    rw (new, old) (ap word_is (get_or_append_left list (x ∷ []) [] k here))

word_at-here : (list : List (List ℕ)) (x : List ℕ) (k : ℕ) → k ≡ length list → word_at (list ++ x ∷ []) k ≡ word_is x
word_at-here list x k here =
    let long : length (list ++ x ∷ []) ≡ length list + 1 = length_push list x in
    let new : nat_lt k (length (list ++ x ∷ [])) ≡ true = grind (arith, nat_tests) in
    rw new (ap word_is (get_or_at list x [] [] k (sym here)))

word_at-above : (list : List (List ℕ)) (k : ℕ) → length list ≤ k → word_at list k ≡ Missing
word_at-above list k past = let old : nat_lt k (length list) ≡ false = grind (arith, nat_tests) in rw old refl

word_at-past : (list : List (List ℕ)) (x : List ℕ) (k : ℕ) → length list < k → word_at (list ++ x ∷ []) k ≡ word_at list k
word_at-past list x k past =
    let long : length (list ++ x ∷ []) ≡ length list + 1 = length_push list x in
    word_at-above (list ++ x ∷ []) k (omega arith) ∙ sym (word_at-above list k (omega arith))

pub push_second : (old : LineWords) (word : Word) (list : List (List ℕ)) (x : List ℕ) → AreWords old list → old.count ≡ 1 →
    word ≡ word_is x →
    AreWords record { first = old.first; second = word; third = old.third; count = 2 } (list ++ x ∷ [])
push_second old word list x are count is =
    let c = are.count in
    let l = length_push list x in
    let one : length list ≡ 1 = omega arith in
    record {
      first = are.first ∙ sym (word_at-below list x 0 (omega arith));
      second = is ∙ sym (word_at-here list x 1 (sym one));
      third = are.third ∙ sym (word_at-past list x 2 (omega arith));
      count = omega arith;
    }

pub push_third : (old : LineWords) (word : Word) (list : List (List ℕ)) (x : List ℕ) → AreWords old list → old.count ≡ 2 →
    word ≡ word_is x →
    AreWords record { first = old.first; second = old.second; third = word; count = 3 } (list ++ x ∷ [])
push_third old word list x are count is =
    let c = are.count in
    let l = length_push list x in
    let two : length list ≡ 2 = omega arith in
    record {
      first = are.first ∙ sym (word_at-below list x 0 (omega arith));
      second = are.second ∙ sym (word_at-below list x 1 (omega arith));
      third = is ∙ sym (word_at-here list x 2 (sym two));
      count = omega arith;
    }

pub push_more : (old : LineWords) (list : List (List ℕ)) (x : List ℕ) → AreWords old list → 3 ≤ old.count →
    AreWords record { first = old.first; second = old.second; third = old.third; count = 4 } (list ++ x ∷ [])
push_more old list x are count =
    let c = are.count in
    let l = length_push list x in
    record {
      first = are.first ∙ sym (word_at-below list x 0 (omega arith));
      second = are.second ∙ sym (word_at-below list x 1 (omega arith));
      third = are.third ∙ sym (word_at-below list x 2 (omega arith));
      count = omega arith;
    }

-- ---- the word that has begun

-- no more than 32 bytes of a word matter
word_is-take : (begun : List ℕ) → word_is (take 32 begun) ≡ word_is begun
word_is-take begun = ⊎_elim few many (cases_lt (length begun) 32) where
  few : length begun < 32 → word_is (take 32 begun) ≡ word_is begun
  few h = ap word_is (take_all 32 begun (omega arith))

  many : 32 ≤ length begun → word_is (take 32 begun) ≡ word_is begun
  many h =
      let l : length (take 32 begun) ≡ 32 = length-take-le 32 begun h in
      let front : nat_lt 31 (length (take 32 begun)) ≡ true = grind (arith, nat_tests) in
      let all : nat_lt 31 (length begun) ≡ true = grind (arith, nat_tests) in
      rw (front, all) refl

-- the word that has begun is over
pub close_some : (scan : Scan) (words : LineWords) (over : List (List ℕ)) (begun : List ℕ) →
    ((list : List (List ℕ)) (bytes : List ℕ) → AreWords scan.words list → word_is (take scan.len scan.begun) ≡ word_is bytes →
    AreWords words (list ++ bytes ∷ [])) →
    0 < scan.len → AreWords scan.words over → IsBegun scan begun → AreWords words (over ++ begun_word begun)
close_some scan words over begun push some are is =
    let long = is.long in
    let there : (length begun == 0) ≡ false = grind (arith, nat_tests) in
    let word : word_is (take scan.len scan.begun) ≡ word_is begun = ap word_is is.kept ∙ word_is-take begun in
    let P : List (List ℕ) → Type 0 = λ list. AreWords words (over ++ list) in
    let e : begun_word begun ≡ begun ∷ [] = rw there refl in
    subst P (sym e) (push over begun are word)

-- a byte more is kept
pub keep_some : (begun : List ℕ) (len byte : ℕ) (buffer : List ℕ) → len < 32 → length buffer ≡ 32 → take len buffer ≡ take 32 begun →
    len ≡ min (length begun) 32 →
    (take (len + 1) (set buffer len byte) ≡ take 32 (begun ++ byte ∷ [])) × (len + 1 ≡ min (length (begun ++ byte ∷ [])) 32)
keep_some begun len byte buffer room full kept long =
    let l = length_push begun byte in
    let few : length begun ≤ 32 = omega arith in
    let more : length (begun ++ byte ∷ []) ≤ 32 = omega arith in (
      take_more_set buffer len byte (omega arith) ∙ ap (λ xs. xs ++ byte ∷ []) (kept ∙ take_all 32 begun few)
          ∙ sym (take_all 32 (begun ++ byte ∷ []) more),
      omega arith,
    )

pub keep_none : (begun : List ℕ) (len byte : ℕ) (buffer : List ℕ) → 32 ≤ len → take len buffer ≡ take 32 begun →
    len ≡ min (length begun) 32 →
    (take len buffer ≡ take 32 (begun ++ byte ∷ [])) × (len ≡ min (length (begun ++ byte ∷ [])) 32)
keep_none begun len byte buffer full kept long =
    let l = length_push begun byte in
    let many : 32 ≤ length begun = omega arith in
    (kept ∙ sym (take-append-le 32 begun (byte ∷ []) many), omega arith)

-- ---- a byte of a line

-- a record of the same parts is cut so, too
pub Cut-same : (old new : Scan) (bytes : List ℕ) → new.words ≡ old.words → new.begun ≡ old.begun → new.len ≡ old.len →
    new.comment ≡ old.comment → Cut old bytes → Cut new bytes
Cut-same old new bytes words begun len comment cut = record {
  over = cut.over;
  begun = cut.begun;
  words = rw comment cut.words;
  are = (let P : LineWords → Type 0 = λ w. AreWords w cut.over in subst P (sym words) cut.are);
  is_begun = record { kept = rw (len, begun) cut.is_begun.kept; long = len ∙ cut.is_begun.long };
  quiet = λ c. len ∙ cut.quiet (sym comment ∙ c);
}

next_words : (bytes : List ℕ) (byte : ℕ) (rest : List ℕ) → words_from [] ((bytes ++ byte ∷ []) ++ rest) ≡ words_from []
    (bytes ++ byte ∷ rest)
next_words bytes byte rest = ap (words_from []) (append_assoc bytes (byte ∷ []) rest)

-- a blank
pub push_blank : (old new : Scan) (bytes : List ℕ) (byte : ℕ) → is_blank byte ≡ true → old.comment ≡ false → new.comment ≡ old.comment →
    new.len ≡ 0 →
    ((over : List (List ℕ)) (begun : List ℕ) → AreWords old.words over → IsBegun old begun →
    AreWords new.words (over ++ begun_word begun)) →
    Cut old bytes → Cut new (bytes ++ byte ∷ [])
push_blank old new bytes byte blank none same len closed cut = record {
  over = cut.over ++ begun_word cut.begun;
  begun = [];
  words = λ rest.
      let first : words_from [] (bytes ++ byte ∷ rest) ≡ cut.over ++ words_from cut.begun (byte ∷ rest) = cut.words (byte ∷ rest)
      ∙ rw none refl in
      let next : words_from cut.begun (byte ∷ rest) ≡ begun_word cut.begun ++ words_from [] rest = rw blank refl in
      let last : (if new.comment then [] else words_from [] rest) ≡ words_from [] rest = rw (same, none) refl in
      next_words bytes byte rest ∙ first ∙ ap (λ ws. cut.over ++ ws) next
      ∙ sym (append_assoc cut.over (begun_word cut.begun) (words_from [] rest))
      ∙ ap (λ ws. (cut.over ++ begun_word cut.begun) ++ ws) (sym last);
  are = closed cut.over cut.begun cut.are cut.is_begun;
  is_begun = record { kept = rw len refl; long = len };
  quiet = λ c. len;
}

-- a byte of a word
pub push_byte : (old new : Scan) (bytes : List ℕ) (byte : ℕ) → is_blank byte ≡ false → (byte ≡ 35 → old.len ≡ 0 → ⊥) → old.comment ≡ false →
    new.comment ≡ old.comment →
    new.words ≡ old.words → ((begun : List ℕ) → IsBegun old begun → IsBegun new (begun ++ byte ∷ [])) → Cut old bytes →
    Cut new (bytes ++ byte ∷ [])
push_byte old new bytes byte blank hash none same words kept cut = record {
  over = cut.over;
  begun = cut.begun ++ byte ∷ [];
  words = λ rest.
      let long = cut.is_begun.long in
      let no_hash : ((length cut.begun == 0) && (byte == 35)) ≡ false = not_both cut.begun byte old.len long hash in
      let next : words_from cut.begun (byte ∷ rest) ≡ words_from (cut.begun ++ byte ∷ []) rest = rw (blank, no_hash) refl in
      let last : (if new.comment then [] else words_from (cut.begun ++ byte ∷ []) rest) ≡ words_from (cut.begun ++ byte ∷ []) rest =
      rw (same, none) refl in
      next_words bytes byte rest ∙ cut.words (byte ∷ rest) ∙ rw (none, next) (ap (λ ws. cut.over ++ ws) (sym last));
  are = (let P : LineWords → Type 0 = λ w. AreWords w cut.over in subst P (sym words) cut.are);
  is_begun = kept cut.begun cut.is_begun;
  quiet = λ c. absurd (false≢true (sym none ∙ sym same ∙ c));
} where
  last_false : (b : Bool) → (b && false) ≡ false
  last_false true = refl
  last_false false = refl

  not_both : (begun : List ℕ) (byte len : ℕ) → len ≡ min (length begun) 32 → (byte ≡ 35 → len ≡ 0 → ⊥) →
      ((length begun == 0) && (byte == 35)) ≡ false
  not_both begun byte len long hash = ⊎_elim
      (λ e. ⊎_elim (λ z. absurd (hash e z)) (λ z. let n : (length begun == 0) ≡ false = ne_eqb (length begun) 0 (λ l. z (omega arith)) in
      rw n refl) (cases_eq len 0))
      (λ e. let n : (byte == 35) ≡ false = ne_eqb byte 35 e in rw n (last_false (length begun == 0)))
      (cases_eq byte 35)

-- ---- a line

-- the words of a line that is over
pub cut_words : (scan : Scan) (bytes : List ℕ) (cut : Cut scan bytes) → words_from [] bytes ≡ cut.over ++ begun_word cut.begun
cut_words scan bytes cut =
    ap (words_from []) (sym (append-nil bytes)) ∙ cut.words [] ∙ ap (λ ws. cut.over ++ ws) (by_comment scan.comment refl) where
      by_comment : (c : Bool) → c ≡ scan.comment → (if scan.comment then [] else words_from cut.begun []) ≡ begun_word cut.begun
      by_comment true e =
          let long = cut.is_begun.long in
          let none = cut.quiet (sym e) in
          let empty : (length cut.begun == 0) ≡ true = grind (arith, nat_tests) in
          rw (sym e, empty) refl
      by_comment false e = rw (sym e) refl

-- the last byte is no carriage return
pub without_return-push : (line : List ℕ) (byte : ℕ) → (byte ≡ 13 → ⊥) → without_return (line ++ byte ∷ []) ≡ line ++ byte ∷ []
without_return-push line byte other =
    let l = length_push line byte in
    let at : length line ≡ length (line ++ byte ∷ []) - 1 = omega arith in
    let last : get_or (line ++ byte ∷ []) (length (line ++ byte ∷ []) - 1) 0 ≡ byte = get_or_at line byte [] 0
    (length (line ++ byte ∷ []) - 1) at in
    let no : (get_or (line ++ byte ∷ []) (length (line ++ byte ∷ []) - 1) 0 == 13) ≡ false = ne_eqb _ 13 (λ e. other (sym last ∙ e)) in
    rw no refl

-- the last byte is one
without_return-return : (line : List ℕ) → without_return (line ++ 13 ∷ []) ≡ line
without_return-return line =
    let l = length_push line 13 in
    let at : length line ≡ length (line ++ 13 ∷ []) - 1 = omega arith in
    let last : get_or (line ++ 13 ∷ []) (length (line ++ 13 ∷ []) - 1) 0 ≡ 13 = get_or_at line 13 [] 0 (length (line ++ 13 ∷ []) - 1) at in
    let yes : (get_or (line ++ 13 ∷ []) (length (line ++ 13 ∷ []) - 1) 0 == 13) ≡ true = eq-eqb _ 13 last in
    rw yes (ap (λ (n : ℕ). take n (line ++ 13 ∷ [])) (sym at) ∙ take-append_seam line (13 ∷ []))

-- a newline drops a carriage return before it
pub ended_cut : (scan : Scan) (line : List ℕ) (ended : Bool) → ended ≡ true → Scanned scan line →
    Cut scan (content_of record { bytes = line; ended = ended })
ended_cut scan line ended over scanned =
    let P : List ℕ → Type 0 = λ bytes. Cut scan bytes in
    let content : content_of record { bytes = line; ended = ended } ≡ without_return line = rw over refl in
    subst P (sym content) (subst P (by_held scan.held refl) scanned.cut) where
      by_held : (held : Bool) → held ≡ scan.held → scanned.bytes ≡ without_return line
      by_held true e =
          let whole : line ≡ scanned.bytes ++ 13 ∷ [] = scanned.whole ∙ ap (λ h. scanned.bytes ++ held_bytes h) (sym e) in
          sym (ap without_return whole ∙ without_return-return scanned.bytes)
      by_held false e =
          let whole : line ≡ scanned.bytes = scanned.whole ∙ ap (λ h. scanned.bytes ++ held_bytes h) (sym e) ∙ append-nil scanned.bytes in
          sym (scanned.no_return (sym e) ∙ whole)
