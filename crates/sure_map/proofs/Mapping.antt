-- The map of bytes, while they come.
use Rattle.std.proofs.Common.{◌≡◌, ◌≢◌, ℕ, ◌+◌, ◌==◌, ◌&&◌, Bool, true, false, List, [], ◌++◌, replicate}
use Rattle.std.proofs.Common.{if◌then◌else◌, refl, sym, ap, ◌∙◌, arith, append_assoc, append-nil, ◌⊎◌, inl, inr, ⊎_elim}
use Rattle.std.proofs.lemmas.Bool.{cases_eq, eq-eqb, ne_eqb}
use Rattle.std.proofs.lemmas.List.{length-append, length-replicate}
use Rattle.rescue_map.specs.Text.{block_text, blocks_text}
use Rattle.dump_spec.specs.Answers.{output_status}
use Rattle.dump_spec.specs.Output.{all_are_sure, mark_byte, marked_bytes, sure_text}
use Rattle.dump_spec.specs.declared.mark.Mark.{Mark}
use Rattle.dump_spec.specs.declared.mark.Mark.TheVariants.{Sure, Unchecked, Filled}
use Rattle.dump_spec.specs.declared.status.Status.TheVariants as status
use Rattle.sure_map.specs.Counts.{IsMore}
use Rattle.sure_map.specs.Maps.{IsMapOf, ended_line, last_line}
use Rattle.sure_map.specs.Runs.{block_of, end_of, line_before, with_bytes, blocks_from}
use Rattle.sure_map.specs.declared.map.SureMap.{SureMap}
use Rattle.sure_map.proofs.Counting.{all_sure_by, and_false, marked_more}
use Rattle.sure_map.proofs.Running.{more_lines, end_more}

-- bytes of one more mark
pub pushed : (map new : SureMap) (mark : Mark) (count : ℕ) (marks : List Mark) (front : List ℕ) → count ≢ 0 →
    new.run ≡ with_bytes map.run (mark_byte mark) count → IsMore mark count map.tally new.tally → IsMapOf map marks front →
    IsMapOf new (marks ++ replicate count mark) (front ++ ended_line map mark count)
pushed map new mark count marks front some run more is =
    let line : ended_line map mark count ≡ line_before map.run (mark_byte mark) =
    ap (λ (t : Bool). if t then [] else line_before map.run (mark_byte mark)) (ne_eqb count 0 some) in
    record {
      text = λ behind.
          append_assoc front (ended_line map mark count) (blocks_text (blocks_from new.run behind))
          ∙ ap (λ (t : List ℕ). front ++ t)
          (ap (λ (t : List ℕ). t ++ blocks_text (blocks_from new.run behind)) line
          ∙ ap (λ r. line_before map.run (mark_byte mark) ++ blocks_text (blocks_from r behind)) run
          ∙ sym (more_lines map.run mark count behind some))
          ∙ is.text (replicate count mark ++ behind)
          ∙ ap sure_text (sym (append_assoc marks (replicate count mark) behind));
      bytes = ap end_of run ∙ end_more map.run (mark_byte mark) count
          ∙ (let b = is.bytes in let l = length-append marks (replicate count mark) in let r = length-replicate count mark in omega arith);
      counts = λ m. more m ∙ ap (λ (n : ℕ). n + (if mark_byte mark == mark_byte m then count else 0)) (is.counts m)
          ∙ sym (marked_more m mark count marks);
    }

-- with the line of the last run it is whole
pub map_ends : (map : SureMap) (marks : List Mark) (front : List ℕ) → IsMapOf map marks front → front ++ last_line map ≡ sure_text marks
map_ends map marks front is =
    ⊎_elim
    (λ (z : map.run.size ≡ 0). let none : (map.run.size == 0) ≡ true = eq-eqb map.run.size 0 z in
    let all = rw none at (is.text []) in
    rw none (all ∙ ap sure_text (append-nil marks)))
    (λ (some : map.run.size ≢ 0). let there : (map.run.size == 0) ≡ false = ne_eqb map.run.size 0 some in
    let all = rw there at (is.text []) in
    rw there (ap (λ (t : List ℕ). front ++ t) (sym (append-nil (block_text (block_of map.run)))) ∙ all ∙ ap sure_text (append-nil marks)))
    (cases_eq map.run.size 0)

-- ---- how the output ends

pub sure_status : (map : SureMap) (marks : List Mark) (front : List ℕ) → map.tally.unchecked ≡ 0 → map.tally.filled ≡ 0 →
    IsMapOf map marks front → status.Done ≡ output_status marks
sure_status map marks front unchecked filled is =
    let u : marked_bytes Unchecked marks ≡ 0 = sym (is.counts Unchecked) ∙ unchecked in
    let f : marked_bytes Filled marks ≡ 0 = sym (is.counts Filled) ∙ filled in
    let all : all_are_sure marks ≡ true =
    all_sure_by marks ∙ ap (λ (n : ℕ). (n == 0) && (marked_bytes Filled marks == 0)) u ∙ ap (λ (n : ℕ). (0 == 0) && (n == 0)) f in
    rw all refl

some_other : (marks : List Mark) → (marked_bytes Unchecked marks ≢ 0) ⊎ (marked_bytes Filled marks ≢ 0) → all_are_sure marks ≡ false
some_other marks (inl u) =
    all_sure_by marks
    ∙ ap (λ (t : Bool). t && (marked_bytes Filled marks == 0)) (ne_eqb (marked_bytes Unchecked marks) 0 u)
some_other marks (inr f) =
    all_sure_by marks
    ∙ ap (λ (t : Bool). (marked_bytes Unchecked marks == 0) && t) (ne_eqb (marked_bytes Filled marks) 0 f)
    ∙ sym (and_false (marked_bytes Unchecked marks == 0))

pub other_status : (map : SureMap) (marks : List Mark) (front : List ℕ) (sure unchecked filled : ℕ) →
    (map.tally.unchecked ≢ 0) ⊎ (map.tally.filled ≢ 0) →
    sure ≡ map.tally.sure → unchecked ≡ map.tally.unchecked → filled ≡ map.tally.filled → IsMapOf map marks front →
    status.NotAllSure sure unchecked filled ≡ output_status marks
other_status map marks front sure unchecked filled some s u f is =
    let all : all_are_sure marks ≡ false =
    some_other marks (⊎_elim (λ n. inl (λ e. n (is.counts Unchecked ∙ e))) (λ n. inr (λ e. n (is.counts Filled ∙ e))) some) in
    let a = s ∙ is.counts Sure in
    let b = u ∙ is.counts Unchecked in
    let d = f ∙ is.counts Filled in
    rw (all, a, b, d) refl
