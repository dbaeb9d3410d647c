-- The lines of a script, and what is no item.
use Rattle.std.proofs.Common.{◌≡◌, ℕ, List, [], ◌∷◌, ◌++◌, codes, sym, ap, ◌∙◌, inl, inr, refl, arith, ◌<◌, length, ◌≤◌, ◌≢◌, append_assoc}
use Rattle.std.proofs.Common.{get_or, Option, Some, None, IfSome, IfNone}
use Rattle.std.specs.List.{AllZip, join_with_byte}
use Rattle.std.proofs.lemmas.List.Splits.{join_with_byte-slice_split}
use Rattle.std.proofs.lemmas.List.{length-append}
use Rattle.std.specs.Option.{option_map}
use Rattle.command_laws.proofs.ScriptInput.{same_line}
use Rattle.command_laws.proofs.TextLined.{end_no_newline}
use Rattle.command_spec.specs.Command.{Word, SpellsPart}
use Rattle.command_laws.specs.Inputs.{words_of}
use Rattle.command_spec.specs.Input.{EndsEarly, IsLineText, IsItem, promised, Item, IsFault, most_items}
use Rattle.command_spec.specs.declared.line.Line.{Line}
use Rattle.tape_script.proofs.Rests.{Rest, stop_rest}
use Rattle.volume_script.proofs.Content.{stop_bytes, zero_byte}
use Rattle.qic_base.specs.Disk.{AreBytes}
use Rattle.command_laws.proofs.TextInputs.{SameItem}
use Rattle.command_spec.specs.declared.line.Line.TheVariants as line

-- ---- the line `end`

pub end_text : (text : List ℕ) → IsLineText text line.End → text ≡ codes "end\n"
end_text text is = elim is.has [
  | inl words ↦
      let before : is.before ≡ codes "end" = sym (join_with_byte-slice_split 0x20 is.before)
      ∙ ap (join_with_byte 0x20) (one_word (words_of is.before) words) in
      is.whole ∙ ap (λ (bs : List ℕ). bs ++ 0x0A ∷ []) before
  | inr never ↦ absurd never
] where
  one_word : (words : List (List ℕ)) → AllZip SpellsPart words (Word (codes "end") ∷ []) → words ≡ codes "end" ∷ []
  one_word [] spells = absurd spells
  one_word (word ∷ []) spells = ap (λ (w : List ℕ). w ∷ []) spells.0
  one_word (word ∷ other ∷ words) spells = absurd spells.1

pub end_is_line : IsLineText (codes "end\n") line.End
end_is_line = record { before = codes "end"; short = omega arith; one_line = end_no_newline; whole = refl; has = inl (refl, tt) }

pub some_text : (text : List ℕ) (asked : Line) → IsLineText text asked → 0 < length text
some_text text asked is = let l = ap length is.whole in let m = length-append is.before (0x0A ∷ []) in omega arith

pub line_short : (text : List ℕ) (asked : Line) → IsLineText text asked → length text ≤ 128
line_short text asked is = let l = ap length is.whole in let m = length-append is.before (0x0A ∷ []) in let s = is.short in omega arith

-- a line with the bytes that it promises is an item
pub item_of : (text bytes : List ℕ) (asked : Line) → IsLineText text asked → asked ≢ line.End → length bytes ≡ promised asked →
    IsItem (text ++ bytes) (record { line = asked; bytes = bytes })
item_of text bytes asked is other long = record { front = text; lined = is; not_end = other; whole = refl; kept = long }

-- the line of an item, where another line begins the input
pub line_of_item : (text rest front behind : List ℕ) (asked : Line) (item : Item) → IsLineText text asked → (is : IsItem front item) →
    text ++ rest ≡ front ++ behind →
    SameItem is.front text (item.bytes ++ behind) rest item.line asked
line_of_item text rest front behind asked item lined is e =
    same_line is.front text (item.bytes ++ behind) rest item.line asked is.lined lined
    (sym (append_assoc is.front item.bytes behind) ∙ ap (λ t. t ++ behind) (sym is.whole) ∙ sym e)

-- ---- faults

-- no line begins these bytes
pub record NoLine (rest : List ℕ) : Type 0 where
  pub some : rest ≢ []
  pub no_line : (asked : Line) (text behind : List ℕ) → IsLineText text asked → rest ≡ text ++ behind → ⊥

pub no_line_fault : (number : ℕ) (rest : List ℕ) → NoLine rest → IsFault IsItem number rest
no_line_fault number rest none = record {
  some = none.some;
  no_stop = λ stop. none.no_line line.End (codes "end\n") stop.0 end_is_line stop.1;
  no_item = λ within item.
      let is = item.1.1.1.1 in
      none.no_line item.0.line is.front (item.0.bytes ++ item.1.1.0) is.lined
      (item.1.1.1.0 ∙ ap (λ t. t ++ item.1.1.0) is.whole ∙ append_assoc is.front item.0.bytes item.1.1.0);
}

pub no_line_early : (rest : List ℕ) → NoLine rest → ¬ (EndsEarly rest)
no_line_early rest none early = none.no_line (line.Append early.name early.promised early.date) early.text early.bytes early.lined
    early.parts

-- bytes that an append's line begins, and that end before what it promises
pub early_fault : (number : ℕ) (rest : List ℕ) → (early : EndsEarly rest) → IsFault IsItem number rest
early_fault number rest early =
    let asked : Line = line.Append early.name early.promised early.date in
    record {
      some = λ e. (let l = ap length (sym e ∙ early.parts) in let m = length-append early.text early.bytes in
          let n = some_text early.text asked early.lined in omega arith);
      no_stop = λ stop.
          let same = same_line early.text (codes "end\n") early.bytes stop.0 asked line.End early.lined end_is_line
          (sym early.parts ∙ stop.1) in
          let lines : line.Append early.name early.promised early.date ≡ line.End = same.items in cc;
      no_item = λ within item.
          let is = item.1.1.1.1 in
          let same = line_of_item early.text early.bytes item.1.0 item.1.1.0 asked item.0 early.lined is (sym early.parts ∙ item.1.1.1.0) in
          let long = is.kept in let n = ap promised same.items in let r = ap length same.rests in
          let l = length-append item.0.bytes item.1.1.0 in let s = early.short in
          omega arith;
    }

-- ---- what a source gave that begins with no line

-- a byte that begins no line
zero_line : NoLine (0 ∷ [])
zero_line = record {
  some = λ e. cc;
  no_line = λ asked text behind is e. without is.before behind
      (e ∙ ap (λ t. t ++ behind) is.whole ∙ append_assoc is.before (0x0A ∷ []) behind);
} where
  nothing : (before rest : List ℕ) → [] ≡ before ++ 0x0A ∷ rest → ⊥
  nothing [] rest e = cc
  nothing (b ∷ before) rest e = cc

  other : (n : ℕ) → n ≡ 0x0A → n ≡ 0 → ⊥
  other n p q = omega arith

  without : (before rest : List ℕ) → 0 ∷ [] ≡ before ++ 0x0A ∷ rest → ⊥
  without [] rest e = other 0 (ap (λ t. get_or t 0 0) e) refl
  without (b ∷ before) rest e = nothing before rest (cc)

some_given : (all bytes : List ℕ) (p : Option (List ℕ)) (n : ℕ) → 0 < n → length bytes ≡ n →
    Some all ≡ option_map (λ rest. bytes ++ rest) p → all ≢ []
some_given all bytes None n some long gave e = absurd (cc)
some_given all bytes (Some rest) n some long gave e =
    let same : all ≡ bytes ++ rest = cc in
    let l = ap length (sym e ∙ same) in let m = length-append bytes rest in omega arith

pub none_rest : (o p : Option (List ℕ)) (n : ℕ) (bytes : List ℕ) → 0 < n → length bytes ≡ n → o ≡ option_map (λ rest. bytes ++ rest) p →
    ((asked : Line) → IfSome o (λ all. (text rest : List ℕ) → all ≡ text ++ rest → ¬ (IsLineText text asked))) → Rest o NoLine
none_rest None p n bytes some long gave no_line = record { rest = 0 ∷ []; told = tt; has = zero_line }
none_rest (Some all) p n bytes some long gave no_line = record {
  rest = all;
  told = refl;
  has = record {
    some = some_given all bytes p n some long gave;
    no_line = λ asked text behind is e. no_line asked text behind e is;
  };
}

-- the same, where no item may come any more
pub on_rest : (number : ℕ) (o p : Option (List ℕ)) (n : ℕ) (bytes : List ℕ) → most_items < number → 0 < n → length bytes ≡ n →
    o ≡ option_map (λ rest. bytes ++ rest) p →
    IfSome o (λ all. (text rest : List ℕ) → all ≡ text ++ rest → ¬ (text ≡ codes "end\n")) → Rest o (IsFault IsItem number)
on_rest number None p n bytes beyond some long gave no_stop =
    record { rest = 0 ∷ []; told = tt; has = no_line_fault number (0 ∷ []) zero_line }
on_rest number (Some all) p n bytes beyond some long gave no_stop = record {
  rest = all;
  told = refl;
  has = record {
    some = some_given all bytes p n some long gave;
    no_stop = λ stop. no_stop (codes "end\n") stop.0 stop.1 refl;
    no_item = λ within item. absurd (omega arith);
  };
}

-- ---- of bytes, where none are told

pub none_content : (o p : Option (List ℕ)) (n : ℕ) (bytes : List ℕ) (some : 0 < n) (long : length bytes ≡ n)
    (gave : o ≡ option_map (λ rest. bytes ++ rest) p)
    (no_line : (asked : Line) → IfSome o (λ all. (text rest : List ℕ) → all ≡ text ++ rest → ¬ (IsLineText text asked))) →
    IfNone o (AreBytes (none_rest o p n bytes some long gave no_line).rest)
unfolding none_rest
none_content None p n bytes some long gave no_line = zero_byte
none_content (Some all) p n bytes some long gave no_line = tt

pub on_content : (number : ℕ) (o p : Option (List ℕ)) (n : ℕ) (bytes : List ℕ) (beyond : most_items < number) (some : 0 < n)
    (long : length bytes ≡ n) (gave : o ≡ option_map (λ rest. bytes ++ rest) p)
    (no_stop : IfSome o (λ all. (text rest : List ℕ) → all ≡ text ++ rest → ¬ (text ≡ codes "end\n"))) →
    IfNone o (AreBytes (on_rest number o p n bytes beyond some long gave no_stop).rest)
unfolding on_rest
on_content number None p n bytes beyond some long gave no_stop = zero_byte
on_content number (Some all) p n bytes beyond some long gave no_stop = tt

pub stop_content : (o p : Option (List ℕ)) (gave : o ≡ option_map (λ rest. codes "end\n" ++ rest) p) →
    IfNone o (AreBytes (stop_rest o p gave).rest)
unfolding stop_rest
stop_content (Some all) p gave = tt
stop_content None (Some rest) gave = absurd (cc)
stop_content None None gave = stop_bytes
