-- The volumes whose lines a stopped copy has printed stand on its target.
use Rattle.std.proofs.Common.{◌⊎◌, ◌≡◌, ◌≢◌, ℕ, zero, suc, ◌+◌, ◌-◌, ◌<◌, ◌≤◌, arith, List, [], ◌∷◌, ◌++◌, length, take, drop, All, IfSome}
use Rattle.std.proofs.Common.{Option, Some, inl, inr, refl, sym, ap, ◌∙◌, subst, append-nil, append_assoc, length-append, codes, decimal}
use Rattle.std.proofs.lemmas.List.{drop-take, length-drop, length-map, length-take-le}
use Rattle.std.proofs.lemmas.List.Elements.{All-head, All-tail}
use Rattle.cartridge_laws.proofs.FormatWriting.{effects-some}
use Rattle.cartridge_laws.proofs.MountKeeping.{stopped_stands}
use Rattle.cartridge_laws.proofs.MountSettles.{settling_settles}
use Rattle.cartridge_spec.specs.Mounting.{settled}
use Rattle.cartridge_spec.specs.Settling.{changed_by, settling_steps}
use Rattle.cartridge_spec.specs.Table.{Entry}
use Rattle.cartridge_spec.specs.TableSegment.{IsTableLive}
use Rattle.cartridge_spec.specs.Volumes.{Plain, Stands, Volume, entries_of, volume_length}
use Rattle.command_laws.proofs.CopyGiven.{GivesAll, with_entry}
use Rattle.command_laws.proofs.CopyLeaving.{CopiesTo, DoesNothing, ListsValues, given_map, given_up, held_values, kept, missing_values}
use Rattle.command_laws.proofs.CopyLeaving.{stays, to_does}
use Rattle.command_laws.proofs.CopyOnce.{begun_text}
use Rattle.command_laws.proofs.CopyStanding.{StandsWith, copies_next, copies_stopped, done_parts, done_reads, done_text, done_volume}
use Rattle.command_laws.proofs.CopyStanding.{is_next, kept_behind, last_acts, like_next, quiet_acts, quiet_text, side_for, stands_either}
use Rattle.command_laws.proofs.CopyStanding.{stands_more, stands_none, stopped_volume}
use Rattle.command_laws.proofs.CopyStood.{stood_side, stood_values, up_to, up_to_none}
use Rattle.command_laws.proofs.CopyValues.{HasValues}
use Rattle.command_laws.proofs.MadeAnswered.{quiet_front, next_torn}
use Rattle.command_laws.proofs.MountedFronts.{ends_in, front_within, no_nil}
use Rattle.command_laws.proofs.MountedKeeping.{kept_open}
use Rattle.command_laws.proofs.ScriptActs.{full_acts}
use Rattle.command_laws.specs.ActStops.{IsLeftBy}
use Rattle.command_laws.specs.CopyLaws.{PrintedCopiesStand, PrintedCopyGives}
use Rattle.command_laws.specs.MountedKept.{IsKept, IsOpen}
use Rattle.command_spec.specs.Copied.{StandsPrinted, copied_lines, lengths_of, lines_upto}
use Rattle.command_spec.specs.CopyGiven.{KeepsOrPrints, ListsLike, MountsSide, PrintedWithGiven, missing_on}
use Rattle.command_spec.specs.Copying.{Copies, CopiesVolume, CopyOutcome, CopyYields, DoneOf, Side, copied_behind, copied_line}
use Rattle.command_spec.specs.Copying.{giving_status, kept_on, length_on}
use Rattle.command_spec.specs.Lines.{place_line}
use Rattle.command_spec.specs.Outcome.{settling_act}
use Rattle.command_spec.specs.Restore.{GivingEnd, LostIn, MismatchIn, Restored}
use Rattle.command_spec.specs.declared.copy_status.CopyStatus.{CopyStatus}
use Rattle.qic_base.proofs.Joins.{steps_of-append, text_of-append}
use Rattle.qic_base.proofs.Steps.{effects-append, Torn-all, Torn-behind, Torn-front}
use Rattle.qic_base.specs.Acts.{Act, next_steps, steps_of, text_of}
use Rattle.qic_base.specs.Cartridge.{Cartridge}
use Rattle.qic_base.specs.CartridgeTerms.{IsCartridge}
use Rattle.qic_base.specs.Step.{Step, effects, Torn}
use Rattle.command_spec.specs.declared.copy_status.CopyStatus.TheVariants as status

-- ---- acts that were cut off

-- they were stopped among their steps, ..
pub left_torn : (c : Cartridge) (acts : List Act) (text : List ℕ) (left : Option Cartridge) → IsLeftBy c acts text left →
    Torn (steps_of acts) (Some c) left
left_torn c acts text left (inl at) =
    subst (λ (ss : List Step). Torn ss (Some c) left) (sym (steps_of-append at.front at.rest) ∙ ap steps_of at.parts)
    (Torn-behind (steps_of at.front) (steps_of at.rest) (Some c) left
    (next_torn at.rest (effects (steps_of at.front) (Some c)) left at.torn))
left_torn c acts text left (inr at) =
    let done : Torn (steps_of at.front ++ at.act.steps) (Some c) left =
    subst (λ (o : Option Cartridge). Torn (steps_of at.front ++ at.act.steps) (Some c) o) (sym at.is)
    (Torn-all (steps_of at.front ++ at.act.steps) (Some c)) in
    let parts : (steps_of at.front ++ at.act.steps) ++ steps_of at.rest ≡ steps_of acts =
    append_assoc (steps_of at.front) at.act.steps (steps_of at.rest) ∙ sym (steps_of-append at.front (at.act ∷ at.rest))
    ∙ ap steps_of at.parts in
    subst (λ (ss : List Step). Torn ss (Some c) left) parts
    (Torn-front (steps_of at.front ++ at.act.steps) (steps_of at.rest) (Some c) left done)

-- .. and printed no more than all of them print
pub left_text : (c : Cartridge) (acts : List Act) (text : List ℕ) (left : Option Cartridge) → IsLeftBy c acts text left →
    length text ≤ length (text_of acts)
left_text c acts text left (inl at) =
    let all : length (text_of acts) ≡ length (text_of at.front ++ text_of at.rest) = ap (λ (zs : List Act). length (text_of zs))
    (sym at.parts) ∙ ap (λ (xs : List ℕ). length xs) (text_of-append at.front at.rest) in
    let both : length (text_of at.front ++ text_of at.rest) ≡ length (text_of at.front) + length (text_of at.rest) =
    length-append (text_of at.front) (text_of at.rest) in
    let is : length text ≡ length (text_of at.front) = ap (λ (xs : List ℕ). length xs) at.is_text in
    omega arith
left_text c acts text left (inr at) =
    let all : length (text_of acts) ≡ length (text_of at.front ++ (at.act.text ++ text_of at.rest)) =
    ap (λ (zs : List Act). length (text_of zs)) (sym at.parts)
    ∙ ap (λ (xs : List ℕ). length xs) (text_of-append at.front (at.act ∷ at.rest)) in
    let both : length (text_of at.front ++ (at.act.text ++ text_of at.rest)) ≡ length (text_of at.front) + length
    (at.act.text ++ text_of at.rest) = length-append (text_of at.front) (at.act.text ++ text_of at.rest) in
    let next : length (at.act.text ++ text_of at.rest) ≡ length at.act.text + length (text_of at.rest) = length-append at.act.text
    (text_of at.rest) in
    let line : length at.act.text ≡ length (at.some ++ at.more) = ap (λ (xs : List ℕ). length xs) (sym at.written) in
    let some : length (at.some ++ at.more) ≡ length at.some + length at.more = length-append at.some at.more in
    let is : length text ≡ length (text_of at.front) + length at.some = ap (λ (xs : List ℕ). length xs) at.is_text
    ∙ length-append (text_of at.front) at.some in
    omega arith

-- cut off in the first of two lists, before the whole text of that was written, or behind it
pub data CutIn (c : Cartridge) (first rest : List Act) (text : List ℕ) (left : Option Cartridge) : Type 0 where
  Early : Torn (steps_of first) (Some c) left → (front behind : List Act) → front ++ behind ≡ first → behind ≢ [] →
      (length text ≤ length (text_of front)) ⊎ (length text < length (text_of first)) → CutIn c first rest text left
  Late : (more : List ℕ) → text ≡ text_of first ++ more → IsLeftBy (changed_by (steps_of first) c) rest more left →
      CutIn c first rest text left

behind_first : (first more : List Act) (c : Cartridge) → effects (steps_of (first ++ more)) (Some c) ≡ effects (steps_of more)
    (Some (changed_by (steps_of first) c))
behind_first first more c =
    ap (λ (ss : List Step). effects ss (Some c)) (steps_of-append first more) ∙ effects-append (steps_of first) (steps_of more) (Some c)
    ∙ ap (effects (steps_of more)) (effects-some (steps_of first) c)

some_more : (xs : List ℕ) → xs ≢ [] → 0 < length xs
some_more [] some = absurd (some refl)
some_more (x ∷ xs) some = omega arith

pub cut_in : (c : Cartridge) (first rest acts : List Act) (text : List ℕ) (left : Option Cartridge) → first ++ rest ≡ acts →
    IsLeftBy c acts text left → CutIn c first rest text left
cut_in c first rest acts text left parts (inl at) = elim (ends_in at.front at.rest first rest (at.parts ∙ sym parts)) [
  | inl w ↦
      let torn : Torn w.act.steps (effects (steps_of at.front) (Some c)) left =
      subst (λ (zs : List Act). Torn (next_steps zs) (effects (steps_of at.front) (Some c)) left) w.rest_is at.torn in
      let all : Torn (steps_of at.front ++ steps_of (w.act ∷ w.behind)) (Some c) left =
      Torn-behind (steps_of at.front) (steps_of (w.act ∷ w.behind)) (Some c) left
      (Torn-front w.act.steps (steps_of w.behind) (effects (steps_of at.front) (Some c)) left torn) in
      Early (subst (λ (ss : List Step). Torn ss (Some c) left) (sym (steps_of-append at.front (w.act ∷ w.behind)) ∙ ap steps_of w.whole)
      all)
      at.front (w.act ∷ w.behind) w.whole (no_nil w.act w.behind)
      (inl (let is : length text ≡ length (text_of at.front) = ap (λ (xs : List ℕ). length xs) at.is_text in omega arith))
  | inr p ↦ Late (text_of p.next) (at.is_text ∙ ap text_of p.front_is ∙ text_of-append first p.next)
      (inl (record {
        front = p.next;
        rest = at.rest;
        parts = p.parts;
        torn = subst (λ (o : Option Cartridge). Torn (next_steps at.rest) o left)
            (ap (λ (zs : List Act). effects (steps_of zs) (Some c)) p.front_is ∙ behind_first first p.next c) at.torn;
        is_text = refl;
      }))
]
cut_in c first rest acts text left parts (inr at) = elim (ends_in at.front (at.act ∷ at.rest) first rest (at.parts ∙ sym parts)) [
  | inl w ↦
      let same : at.act ≡ w.act = let is = w.rest_is in cc in
      let done : Torn (steps_of at.front ++ at.act.steps) (Some c) left =
      subst (λ (o : Option Cartridge). Torn (steps_of at.front ++ at.act.steps) (Some c) o) (sym at.is)
      (Torn-all (steps_of at.front ++ at.act.steps) (Some c)) in
      let pieces : (steps_of at.front ++ at.act.steps) ++ steps_of w.behind ≡ steps_of first =
      append_assoc (steps_of at.front) at.act.steps (steps_of w.behind)
      ∙ ap (λ (a : Act). steps_of at.front ++ (a.steps ++ steps_of w.behind)) same
      ∙ sym (steps_of-append at.front (w.act ∷ w.behind)) ∙ ap steps_of w.whole in
      let all : length (text_of first) ≡ length (text_of at.front ++ (at.act.text ++ text_of w.behind)) =
      ap (λ (zs : List Act). length (text_of zs)) (sym w.whole)
      ∙ ap (λ (xs : List ℕ). length xs) (text_of-append at.front (w.act ∷ w.behind))
      ∙ ap (λ (a : Act). length (text_of at.front ++ (a.text ++ text_of w.behind))) (sym same) in
      let both : length (text_of at.front ++ (at.act.text ++ text_of w.behind)) ≡ length (text_of at.front) + length
      (at.act.text ++ text_of w.behind) = length-append (text_of at.front) (at.act.text ++ text_of w.behind) in
      let next : length (at.act.text ++ text_of w.behind) ≡ length at.act.text + length (text_of w.behind) = length-append at.act.text
      (text_of w.behind) in
      let line : length at.act.text ≡ length (at.some ++ at.more) = ap (λ (xs : List ℕ). length xs) (sym at.written) in
      let some : length (at.some ++ at.more) ≡ length at.some + length at.more = length-append at.some at.more in
      let lacks : 0 < length at.more = some_more at.more at.lacks in
      let is : length text ≡ length (text_of at.front) + length at.some = ap (λ (xs : List ℕ). length xs) at.is_text
      ∙ length-append (text_of at.front) at.some in
      Early (subst (λ (ss : List Step). Torn ss (Some c) left) pieces
      (Torn-front (steps_of at.front ++ at.act.steps) (steps_of w.behind) (Some c) left done))
      at.front (w.act ∷ w.behind) w.whole (no_nil w.act w.behind) (inr (omega arith))
  | inr p ↦
      let front_text : text_of at.front ≡ text_of first ++ text_of p.next = ap text_of p.front_is ∙ text_of-append first p.next in
      Late (text_of p.next ++ at.some) (at.is_text ∙ ap (λ (xs : List ℕ). xs ++ at.some) front_text
      ∙ append_assoc (text_of first) (text_of p.next) at.some)
      (inr (record {
        front = p.next;
        act = at.act;
        rest = at.rest;
        parts = p.parts;
        is = at.is ∙ effects-append (steps_of at.front) at.act.steps (Some c)
            ∙ ap (effects at.act.steps) (ap (λ (zs : List Act). effects (steps_of zs) (Some c)) p.front_is ∙ behind_first first p.next c)
            ∙ sym (effects-append (steps_of p.next) at.act.steps (Some (changed_by (steps_of first) c)));
        some = at.some;
        more = at.more;
        written = at.written;
        lacks = at.lacks;
        is_text = refl;
      }))
]

-- ---- lines

pub line_long : (number bytes : ℕ) → 0 < length (copied_line number bytes)
unfolding place_line
line_long number bytes =
    let rest : List ℕ = codes " " ++ decimal number ++ codes " " ++ decimal bytes ++ codes "\n" in
    let long : length (codes "copied" ++ rest) ≡ length (codes "copied") + length rest = length-append (codes "copied") rest in
    omega arith

-- a volume that was refused prints none
pub refused_text : (from : Side) (e : Entry) (to : Side) (acts : List Act) (answer : CopyStatus) → answer ≢ status.Done →
    CopiesVolume from e to acts answer → text_of acts ≡ []
refused_text from e to acts answer other (inl lost) = ap text_of lost.does
refused_text from e to acts answer other (inr (table, reads, inl full)) =
    ap text_of (full.does ∙ full_acts (kept_on to table) e.name e.date (length_on from e) full.none (copied_behind (length to.entries)) [])
refused_text from e to acts answer other (inr (table, reads, inr is)) = by_ending is.ending is.does is.answered
  where
    by_ending : (ending : GivingEnd) → DoneOf from e to table is.bytes ending acts → answer ≡ giving_status ending → text_of acts ≡ []
    by_ending Restored does answered = absurd (other answered)
    by_ending (LostIn segment lost) does answered = begun_text from e to table is.bytes acts does
    by_ending (MismatchIn segment) does answered = begun_text from e to table is.bytes acts does

-- ---- volumes one after the other

-- so many bytes of lines
abbrev pub lines_of : (from : Side) → (number : ℕ) → List Entry → (n : ℕ) → ℕ
lines_of from number es n = length (copied_lines number (lengths_of from.words (take n es)))

-- some volumes stand behind those of a plain cartridge, among them those whose lines were printed
pub record PrintedWith (from : Side) (es : List Entry) (p : Plain) (printed : ℕ) (left : Option Cartridge) : Type 0 where
  pub with : StandsWith from es p left
  pub whole : (n : ℕ) → n ≤ length es → lines_of from (length p.volumes + 1) es n ≤ printed → n ≤ length with.contents

pub lines_more : (from : Side) (number : ℕ) (e : Entry) (es : List Entry) (n : ℕ) →
    lines_of from number (e ∷ es) (suc n) ≡ length (copied_line number (length_on from e)) + lines_of from (number + 1) es n
lines_more from number e es n =
    length-append (copied_line number (length_on from e)) (copied_lines (number + 1) (lengths_of from.words (take n es)))

-- before the first line was written whole
early_with : (from : Side) (e : Entry) (es : List Entry) (p : Plain) (printed : ℕ) (left : Option Cartridge) →
    StandsWith from (e ∷ es) p left → printed < length (copied_line (length p.volumes + 1) (length_on from e)) →
    PrintedWith from (e ∷ es) p printed left
early_with from e es p printed left with short = record { with = with; whole = by_number }
  where
    by_number : (n : ℕ) → n ≤ length (e ∷ es) → lines_of from (length p.volumes + 1) (e ∷ es) n ≤ printed → n ≤ length with.contents
    by_number zero within lines = omega arith
    by_number (suc n) within lines =
        let more : lines_of from (length p.volumes + 1) (e ∷ es) (suc n)
        ≡ length (copied_line (length p.volumes + 1) (length_on from e)) + lines_of from (length p.volumes + 1 + 1) es n =
        lines_more from (length p.volumes + 1) e es n in
        absurd (omega arith)

-- behind it
late_with : (from : Side) (e : Entry) (es : List Entry) (p : Plain) (printed more : ℕ) (left : Option Cartridge) → GivesAll from e →
    printed ≡ length (copied_line (length p.volumes + 1) (length_on from e)) + more →
    PrintedWith from es (with_entry from p e) more left → PrintedWith from (e ∷ es) p printed left
late_with from e es p printed more left read is later =
    record { with = stands_more from e es p left read later.with; whole = by_number }
  where
    count : length (with_entry from p e).volumes ≡ length p.volumes + 1
    count = length-append p.volumes _

    by_number : (n : ℕ) → n ≤ length (e ∷ es) → lines_of from (length p.volumes + 1) (e ∷ es) n ≤ printed →
        n ≤ suc (length later.with.contents)
    by_number zero within lines = omega arith
    by_number (suc n) within lines =
        let all : lines_of from (length p.volumes + 1) (e ∷ es) (suc n)
        ≡ length (copied_line (length p.volumes + 1) (length_on from e)) + lines_of from (length p.volumes + 1 + 1) es n =
        lines_more from (length p.volumes + 1) e es n in
        let same : lines_of from (length (with_entry from p e).volumes + 1) es n ≡ lines_of from (length p.volumes + 1 + 1) es n =
        ap (λ (number : ℕ). lines_of from (number + 1) es n) count in
        let few : n ≤ length later.with.contents = later.whole n (omega arith) (omega arith) in
        omega arith

module _ (from : Side) where
  pub early_text : (e : Entry) (has : HasValues e) (d : Cartridge) (p : Plain) (held : IsOpen d p) (first : List Act) →
      CopiesVolume from e (side_for d p) first status.Done → (front behind : List Act) → front ++ behind ≡ first → behind ≢ [] →
      text_of front ≡ []
  early_text e has d p held first does front behind parts some =
      let within = front_within front behind (quiet_acts from e has d p held) (last_acts from e has d p held)
      (parts ∙ done_parts from e has d p held first does) (omega arith) (inl some) in
      quiet_front front within.0 (quiet_acts from e has d p held) within.1 (quiet_text from e has d p held)

  pub copies_printed : (es : List Entry) → All HasValues es → (d : Cartridge) (p : Plain) → IsKept d p → ListsLike from p →
      missing_on from p ≡ es → (acts : List Act) (answer : CopyStatus) (text : List ℕ) (left : Option Cartridge) →
      Copies from es (side_for d p) acts answer → IsLeftBy d acts text left → PrintedWith from es p (length text) left
  copies_printed [] values d p held like is acts answer text left does at = record {
    with = copies_stopped from [] values d p held like is acts answer left does (left_torn d acts text left at);
    whole = λ n within lines. omega arith;
  }
  copies_printed (e ∷ es) values d p held like is acts answer text left (inl (other, does)) at =
      let quiet : text_of acts ≡ [] = refused_text from e (side_for d p) acts answer other does in
      let few : length text ≤ length (text_of acts) = left_text d acts text left at in
      let none : length (text_of acts) ≡ 0 = ap (λ (xs : List ℕ). length xs) quiet in
      let long : 0 < length (copied_line (length p.volumes + 1) (length_on from e)) = line_long (length p.volumes + 1) (length_on from e) in
      early_with from e es p (length text) left
      (copies_stopped from (e ∷ es) values d p held like is acts answer left (inl (other, does)) (left_torn d acts text left at))
      (omega arith)
  copies_printed (e ∷ es) values d p held like is acts answer text left (inr (first, rest, parts, does, later)) at =
      by_cut (cut_in d first rest acts text left parts at)
      (λ more left_at. copies_printed es (All-tail HasValues e es values) (changed_by (steps_of first) d) (with_entry from p e)
      (kept_behind from e has d p held first does)
      (like_next from e es values d p opened like is (done_volume from e has d p opened first does).0)
      (is_next from e es values d p opened like is) rest answer more left
      (copies_next from e es values d p opened like is first rest answer later) left_at)
    where
      has : HasValues e
      has = All-head HasValues e es values

      opened : IsOpen d p
      opened = kept_open d p held

      line : length (text_of first) ≡ length (copied_line (length p.volumes + 1) (length_on from e))
      line = ap (λ (xs : List ℕ). length xs) (done_text from e has d p opened first does)

      by_cut : CutIn d first rest text left →
          ((more : List ℕ) → IsLeftBy (changed_by (steps_of first) d) rest more left → PrintedWith from es (with_entry from p e)
          (length more) left) →
          PrintedWith from (e ∷ es) p (length text) left
      by_cut (Early torn front next whole some short) go =
          let is_line : length (text_of first) ≡ length (copied_line (length p.volumes + 1) (length_on from e)) = line in
          let long : 0 < length (copied_line (length p.volumes + 1) (length_on from e)) = line_long (length p.volumes + 1)
          (length_on from e) in
          let quiet : length (text_of front) ≡ 0 = ap (λ (xs : List ℕ). length xs)
          (early_text e has d p opened first does front next whole some) in
          early_with from e es p (length text) left
          (stands_either from e es values d p opened like is left
          (stopped_volume from e has d p held first status.Done left does torn))
          (elim short [
            | inl few ↦ omega arith
            | inr less ↦ omega arith
          ])
      by_cut (Late more is_text left_at) go =
          let is_line : length (text_of first) ≡ length (copied_line (length p.volumes + 1) (length_on from e)) = line in
          let all : length text ≡ length (text_of first) + length more = ap (λ (xs : List ℕ). length xs) is_text
          ∙ length-append (text_of first) more in
          late_with from e es p (length text) (length more) left (done_reads from e has d p opened first does) (omega arith)
          (go more left_at)

-- ---- the outcome

-- nothing was printed
none_with : (from : Side) (es : List Entry) (p : Plain) (printed : ℕ) (left : Option Cartridge) → printed ≡ 0 →
    StandsWith from es p left → PrintedWith from es p printed left
none_with from [] p printed left none with = record { with = with; whole = λ n within lines. omega arith }
none_with from (e ∷ es) p printed left none with =
    let long : 0 < length (copied_line (length p.volumes + 1) (length_on from e)) = line_long (length p.volumes + 1)
    (length_on from e) in
    early_with from e es p printed left with (omega arith)

module _ (d : Cartridge) (other : Plain) (outcome : CopyOutcome) (whole : IsCartridge d) (standing : Stands d other)
    (live : IsTableLive d) (text : List ℕ) (left : Option Cartridge) where
  abbrev pub settles : List Act
  settles = settling_act other.table_area d ∷ []

  pub settles_quiet : (front next : List Act) → front ++ next ≡ settles → length (text_of front) ≡ 0
  settles_quiet front next parts = ap (λ (xs : List ℕ). length xs) (quiet_front front next settles parts refl)

  module _ (from : Side) (like : ListsLike from other) (to : CopiesTo d other outcome from) where
    pub still_is : changed_by (steps_of settles) d ≡ settled other.table_area d
    still_is = ap (λ (ss : List Step). changed_by ss d) (append-nil (settling_steps other.table_area d))
        ∙ settling_settles d other.table_area to.reads.reads

    by_cut : CutIn d settles to.rest text left → PrintedWith from (missing_on from other) other (length text) left
    by_cut (Early torn front next parts some short) =
        let quiet : length (text_of front) ≡ 0 = settles_quiet front next parts in
        none_with from (missing_on from other) other (length text) left
        (elim short [
          | inl few ↦ omega arith
          | inr less ↦ absurd (omega arith)
        ])
        (stands_none from (missing_on from other) other left like (stopped_stands d other other.table_area left standing to.reads.reads
        (subst (λ (ss : List Step). Torn ss (Some d) left) (append-nil (settling_steps other.table_area d)) torn)))
    by_cut (Late more is_text at) =
        subst (λ (xs : List ℕ). PrintedWith from (missing_on from other) other (length xs) left) (sym is_text)
        (copies_printed from (missing_on from other) (missing_values d other outcome whole standing from like to)
        (settled other.table_area d) other
        (kept d other outcome whole standing from like to live) like refl to.rest outcome.status more left to.copies
        (subst (λ (f : Cartridge). IsLeftBy f to.rest more left) still_is at))

    pub printed_given : IsLeftBy d outcome.acts text left → PrintedWithGiven from other (length text) left
    printed_given at =
        let with = by_cut (cut_in d settles to.rest outcome.acts text left (sym to.acts) at) in
        record { some = given_up from other left with.with; whole = with.whole }

  -- where nothing was done but the settling
  pub no_text : DoesNothing d other outcome → IsLeftBy d outcome.acts text left → text ≡ []
  no_text none at =
      let few : length text ≤ length (text_of outcome.acts) = left_text d outcome.acts text left at in
      let quiet : text_of outcome.acts ≡ [] = elim none.acts [
        | inl is ↦ ap text_of is
        | inr (reads, is) ↦ ap text_of is
      ] in
      let long : length (text_of outcome.acts) ≡ 0 = ap (λ (xs : List ℕ). length xs) quiet in
      empty text (omega arith)
    where
      empty : (xs : List ℕ) → length xs ≤ 0 → xs ≡ []
      empty [] none = refl
      empty (x ∷ xs) none = absurd (omega arith)

pub printed_gives : (held : Option Cartridge) (d : Cartridge) (other : Plain) (outcome : CopyOutcome) (text : List ℕ)
    (left : Option Cartridge) → IfSome held ListsValues → IsCartridge d → Stands d other → IsTableLive d →
    CopyYields held (Some d) outcome → IsLeftBy d outcome.acts text left → KeepsOrPrints held other text left
printed_gives held d other outcome text left values whole standing live yields at =
    elim (to_does d other standing outcome held values yields) [
      | inl copies ↦
          inr (given_map held other (λ side. CopiesTo d other outcome side) (λ side. PrintedWithGiven side other (length text) left)
          (λ from like to. printed_given d other outcome whole standing live text left from like to at) copies)
      | inr none ↦
          inl (
            no_text d other outcome whole standing live text left none at,
            stays d other outcome whole standing none left
                (left_torn d outcome.acts text left at),
          )
    ]

pub printed_copy_gives : PrintedCopyGives
printed_copy_gives held d other outcome text left from_whole whole standing live yields at =
    printed_gives held d other outcome text left (held_values held from_whole) whole standing live yields at

-- ---- where the source stands for a plain cartridge

pub printed_copies_stand : PrintedCopiesStand
printed_copies_stand c one d other outcome text left whole alike yields at =
    by_given (printed_gives (Some c) d other outcome text left (stood_values c one alike.source) whole alike.target alike.live yields at)
  where
    lines_are : (from : Side) → MountsSide c from → (n : ℕ) → length other.volumes ≤ n →
        lines_of from (length other.volumes + 1) (missing_on from other) (n - length other.volumes) ≡ length (lines_upto one other n)
    lines_are from mounts n past =
        let m : ℕ = n - length other.volumes in
        let same : length other.volumes + m ≡ n = omega arith in
        ap (λ (side : Side). lines_of side (length other.volumes + 1) (missing_on side other) m) (stood_side c one alike.source from mounts)
        ∙ ap (λ (es : List Entry). length (copied_lines (length other.volumes + 1) (lengths_of one.words es)))
        (sym (drop-take (length other.volumes) m (entries_of one))
        ∙ ap (λ (k : ℕ). drop (length other.volumes) (take k (entries_of one))) same)

    missing_count : (from : Side) → MountsSide c from → length (missing_on from other) ≡ length one.volumes - length other.volumes
    missing_count from mounts =
        ap (λ (side : Side). length (missing_on side other)) (stood_side c one alike.source from mounts)
        ∙ length-drop (length other.volumes) (entries_of one)
        ∙ ap (λ (n : ℕ). n - length other.volumes) (length-map one.volumes (λ (v : Volume). v.entry))

    by_given : KeepsOrPrints (Some c) other text left → StandsPrinted one other (length text) left
    by_given (inl (none, stands)) =
        let up = up_to_none c one alike.source other alike.like left stands in
        record { up = up.0; whole = λ n past within lines. absurd (no_line n past within lines) }
      where
        some_lines : (es : List Entry) → 0 < length es → 0 < length (copied_lines (length other.volumes + 1) (lengths_of one.words es))
        some_lines [] some = absurd (omega arith)
        some_lines (e ∷ es) some =
            let first : 0 < length (copied_line (length other.volumes + 1) (volume_length one.words e)) =
            line_long (length other.volumes + 1) (volume_length one.words e) in
            let both : length (copied_lines (length other.volumes + 1) (lengths_of one.words (e ∷ es)))
            ≡ length (copied_line (length other.volumes + 1) (volume_length one.words e))
            + length (copied_lines (length other.volumes + 1 + 1) (lengths_of one.words es)) =
            length-append (copied_line (length other.volumes + 1) (volume_length one.words e))
            (copied_lines (length other.volumes + 1 + 1) (lengths_of one.words es)) in
            omega arith

        no_line : (n : ℕ) → length other.volumes < n → n ≤ length one.volumes → length (lines_upto one other n) ≤ length text → ⊥
        no_line n past within lines =
            let empty : length text ≡ 0 = ap (λ (xs : List ℕ). length xs) none in
            let m : ℕ = n - length other.volumes in
            let same : length other.volumes + m ≡ n = omega arith in
            let es : List Entry = drop (length other.volumes) (take n (entries_of one)) in
            let all : length (entries_of one) ≡ length one.volumes = length-map one.volumes (λ (v : Volume). v.entry) in
            let long : length (take n (entries_of one)) ≡ n = length-take-le n (entries_of one) (omega arith) in
            let count : length es ≡ length (take n (entries_of one)) - length other.volumes =
            length-drop (length other.volumes) (take n (entries_of one)) in
            let some : 0 < length (copied_lines (length other.volumes + 1) (lengths_of one.words es)) = some_lines es (omega arith) in
            omega arith
    by_given (inr (from, mounts, like, given)) =
        let up = up_to c one alike.source other alike.like from mounts left given.some in
        record {
          up = up.0;
          whole = λ n past within lines.
              let m : ℕ = n - length other.volumes in
              let count : length (missing_on from other) ≡ length one.volumes - length other.volumes = missing_count from mounts in
              let same : lines_of from (length other.volumes + 1) (missing_on from other) m ≡ length (lines_upto one other n) =
              lines_are from mounts n (omega arith) in
              let few : m ≤ length given.some.contents = given.whole m (omega arith) (omega arith) in
              let is : up.0.upto ≡ length other.volumes + length given.some.contents = up.1 in
              omega arith;
        }
