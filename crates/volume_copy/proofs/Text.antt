-- The text of a copy is a front of the lines of the missing volumes and their count.
use Rattle.std.proofs.Common.{◌≡◌, ◌≢◌, ℕ, ◌+◌, ◌-◌, ◌≤◌, arith, List, [], ◌∷◌, ◌++◌, length, drop, take, All, Some, inl, inr, refl, sym}
use Rattle.std.proofs.Common.{ap, ◌∙◌, subst, append-nil, append_assoc, length-append}
use Rattle.std.proofs.lemmas.List.{length-drop, length-map, take_all}
use Rattle.std.proofs.lemmas.List.Elements.{All-head, All-tail}
use Rattle.cartridge_spec.specs.Mounting.{settled}
use Rattle.cartridge_spec.specs.Settling.{changed_by}
use Rattle.cartridge_spec.specs.Table.{Entry}
use Rattle.cartridge_spec.specs.Volumes.{Plain, Volume, entries_of}
use Rattle.command_laws.proofs.CopyGiven.{with_entry}
use Rattle.command_laws.proofs.CopyLeaving.{missing_values, opened, to_does}
use Rattle.command_laws.proofs.CopyPrinted.{refused_text}
use Rattle.command_laws.proofs.CopyStanding.{done_text, open_behind, side_behind, side_for}
use Rattle.command_laws.proofs.CopyStood.{stood_side, stood_values, within}
use Rattle.command_laws.proofs.CopyValues.{HasValues}
use Rattle.command_laws.specs.CopyLaws.{AreCopied}
use Rattle.command_laws.specs.MountedKept.{IsOpen}
use Rattle.command_spec.specs.Copied.{copied_lines, lengths_of, lines_upto}
use Rattle.command_spec.specs.CopyGiven.{MountsSide, missing_on}
use Rattle.command_spec.specs.Copying.{Copies, CopyOutcome, CopyYields, Side, copied_line, length_on}
use Rattle.command_spec.specs.Lines.{count_line}
use Rattle.command_spec.specs.declared.copy_status.CopyStatus.{CopyStatus}
use Rattle.qic_base.proofs.Joins.{text_of-append}
use Rattle.qic_base.specs.Acts.{Act, steps_of, text_of}
use Rattle.qic_base.specs.Cartridge.{Cartridge}
use Rattle.command_spec.specs.declared.copy_status.CopyStatus.TheVariants as status

-- this begins the whole, and is all of it at Done
pub record Begins (whole text : List ℕ) (answer : CopyStatus) : Type 0 where
  pub rest : List ℕ
  pub parts : text ++ rest ≡ whole
  pub all : answer ≡ status.Done → rest ≡ []

-- no text does
none_begins : (whole text : List ℕ) (answer : CopyStatus) → text ≡ [] → answer ≢ status.Done → Begins whole text answer
none_begins whole text answer none other = record {
  rest = whole;
  parts = ap (λ (xs : List ℕ). xs ++ whole) none;
  all = λ is.
      absurd (other is);
}

more_begins : (line whole text : List ℕ) (answer : CopyStatus) → Begins whole text answer → Begins (line ++ whole) (line ++ text) answer
more_begins line whole text answer begins = record {
  rest = begins.rest;
  parts = append_assoc line text begins.rest ∙ ap (λ (xs : List ℕ). line ++ xs) begins.parts;
  all = begins.all;
}

module _ (from : Side) where
  -- the lines of volumes behind those of a plain cartridge, and the count
  abbrev lines_behind : (before : ℕ) → List Entry → List ℕ
  lines_behind before es = copied_lines (before + 1) (lengths_of from.words es) ++ count_line (before + length es)

  more_lines : (before : ℕ) (e : Entry) (es : List Entry) →
      copied_line (before + 1) (length_on from e) ++ lines_behind (before + 1) es ≡ lines_behind before (e ∷ es)
  more_lines before e es =
      let same : before + 1 + length es ≡ before + length (e ∷ es) = omega arith in
      ap (λ (n : ℕ). copied_line (before + 1) (length_on from e) ++
      (copied_lines (before + 1 + 1) (lengths_of from.words es) ++ count_line n)) same
      ∙ sym (append_assoc (copied_line (before + 1) (length_on from e)) (copied_lines (before + 1 + 1) (lengths_of from.words es))
      (count_line (before + length (e ∷ es))))

  copies_text : (es : List Entry) → All HasValues es → (d : Cartridge) (p : Plain) → IsOpen d p → (acts : List Act)
      (answer : CopyStatus) → Copies from es (side_for d p) acts answer →
      Begins (lines_behind (length p.volumes) es) (text_of acts) answer
  copies_text [] values d p held acts answer (is, done) = record {
    rest = [];
    parts =
        let entries : length (entries_of p) ≡ length p.volumes = length-map p.volumes (λ (v : Volume). v.entry) in
        let count : length (entries_of p) ≡ length p.volumes + 0 = omega (arith, entries) in
        append-nil (text_of acts) ∙ ap text_of is ∙ append-nil (count_line (length (entries_of p))) ∙ ap count_line count;
    all = λ same. refl;
  }
  copies_text (e ∷ es) values d p held acts answer (inl (other, does)) =
      none_begins (lines_behind (length p.volumes) (e ∷ es)) (text_of acts) answer (refused_text from e (side_for d p) acts answer other
      does) other
  copies_text (e ∷ es) values d p held acts answer (inr (first, rest, parts, does, later)) =
      let has : HasValues e = All-head HasValues e es values in
      let f : Cartridge = changed_by (steps_of first) d in
      let next : Plain = with_entry from p e in
      let line : List ℕ = copied_line (length p.volumes + 1) (length_on from e) in
      let count : length next.volumes ≡ length p.volumes + 1 = length-append p.volumes _ in
      let behind_it : Begins (lines_behind (length next.volumes) es) (text_of rest) answer =
      copies_text es (All-tail HasValues e es values) f next (open_behind from e has d p held first does) rest answer
      (subst (λ (side : Side). Copies from es side rest answer) (side_behind from e has d p held first) later) in
      let text : line ++ text_of rest ≡ text_of acts =
      ap (λ (xs : List ℕ). xs ++ text_of rest) (sym (done_text from e has d p held first does)) ∙ sym (text_of-append first rest)
      ∙ ap text_of parts in
      subst (λ (xs : List ℕ). Begins xs (text_of acts) answer) (more_lines (length p.volumes) e es)
      (subst (λ (xs : List ℕ). Begins (line ++ lines_behind (length p.volumes + 1) es) xs answer) text
      (more_begins line (lines_behind (length p.volumes + 1) es) (text_of rest) answer
      (subst (λ (n : ℕ). Begins (lines_behind n es) (text_of rest) answer) count behind_it)))

module _ (c : Cartridge) (one : Plain) (d : Cartridge) (other : Plain) (are : AreCopied c one d other) where
  abbrev pub whole : List ℕ
  whole = lines_upto one other (length one.volumes) ++ count_line (length one.volumes)

  whole_is : (from : Side) → MountsSide c from → lines_behind from (length other.volumes) (missing_on from other) ≡ whole
  whole_is from mounts =
      let still : Side = side_for (settled one.table_area c) one in
      let long : length (entries_of one) ≡ length one.volumes = length-map one.volumes (λ (v : Volume). v.entry) in
      let all : take (length one.volumes) (entries_of one) ≡ entries_of one =
      take_all (length one.volumes) (entries_of one) (omega (arith, long)) in
      let rest : length (drop (length other.volumes) (entries_of one)) ≡ length (entries_of one) - length other.volumes =
      length-drop (length other.volumes) (entries_of one) in
      let few : length other.volumes ≤ length one.volumes = within one other are.like in
      let count : length other.volumes + length (drop (length other.volumes) (entries_of one)) ≡ length one.volumes =
      omega (arith, rest, few, long) in
      ap (λ (side : Side). lines_behind side (length other.volumes) (missing_on side other)) (stood_side c one are.stands from mounts)
      ∙ ap (λ (es : List Entry). copied_lines (length other.volumes + 1) (lengths_of one.words (drop (length other.volumes) es))
      ++ count_line (length other.volumes + length (drop (length other.volumes) (entries_of one)))) (sym all)
      ∙ ap (λ (n : ℕ). lines_upto one other (length one.volumes) ++ count_line n) count

  pub text_begins : (outcome : CopyOutcome) → CopyYields (Some c) (Some d) outcome → Begins whole (text_of outcome.acts) outcome.status
  text_begins outcome plain = elim (to_does d other are.standing outcome (Some c) (stood_values c one are.stands) plain) [
    | inl (from, mounts, like, to) ↦
        subst (λ (xs : List ℕ). Begins xs (text_of outcome.acts) outcome.status) (whole_is from mounts)
        (subst (λ (zs : List Act). Begins (lines_behind from (length other.volumes) (missing_on from other))
        (text_of zs) outcome.status) (sym to.acts)
        (copies_text from (missing_on from other) (missing_values d other outcome are.target are.standing from like to)
        (settled other.table_area d) other
        (opened d other outcome are.target are.standing from like to) to.rest outcome.status to.copies))
    | inr none ↦ none_begins whole (text_of outcome.acts) outcome.status (elim none.acts [
      | inl is ↦ ap text_of is
      | inr (reads, is) ↦ ap text_of is
    ]) none.unlike
  ]
