-- Looking at some segments and then at others: what is found of them, their acts, lines and counts.
use Rattle.std.proofs.Common.{◌≡◌, ℕ, suc, ◌+◌, ◌≤◌, Bool, true, false, cond, List, [], ◌∷◌, ◌++◌, length, None, refl, sym, ap, ◌∙◌, subst}
use Rattle.std.proofs.Common.{arith, append_assoc}
use Rattle.qic_base.specs.Cartridge.{Cartridge}
use Rattle.qic_base.specs.Acts.{Act, steps_of, text_of}
use Rattle.cartridge_spec.specs.Says.{Saying, Mismatch}
use Rattle.cartridge_spec.specs.Settling.{changed_by}
use Rattle.cartridge_laws.proofs.FormatWriting.{changed_by-append}
use Rattle.command_spec.specs.Scrub.{Looked, reads, unread_count, Finding, FindInTurn, MayBeFound, finding_acts, steps_for, line_for}
use Rattle.command_spec.specs.Scrub.{lines_for, sayings_of}
use Rattle.command_laws.specs.ScrubTerms.{find_act}
use Rattle.command_spec.specs.declared.depth.Depth.{Depth}

-- the cartridge behind the acts of some segments
abbrev pub behind : Cartridge → List Looked → List Finding → Cartridge
behind c looked findings = changed_by (steps_of (finding_acts c looked findings)) c

behind_first : (c : Cartridge) (l : Looked) (ls : List Looked) (f : Finding) (fs : List Finding) →
    behind c (l ∷ ls) (f ∷ fs) ≡ behind (changed_by (steps_for c l f) c) ls fs
behind_first c l ls f fs =
    let d : Cartridge = changed_by (steps_for c l f) c in changed_by-append (steps_for c l f) (steps_of (finding_acts d ls fs)) c

-- ---- one behind the other

pub turns_join : (depth : Depth) (xs ys : List Looked) (c : Cartridge) (fs gs : List Finding) → FindInTurn depth c xs fs →
    FindInTurn depth (behind c xs fs) ys gs → FindInTurn depth c (xs ++ ys) (fs ++ gs)
turns_join depth [] ys c [] gs first next = next
turns_join depth [] ys c (f ∷ fs) gs first next = absurd first
turns_join depth (x ∷ xs) ys c [] gs first next = absurd first
turns_join depth (x ∷ xs) ys c (f ∷ fs) gs first next = (
  first.0,
  turns_join depth xs ys (changed_by (steps_for c x f) c) fs gs first.1
      (subst (λ (d : Cartridge). FindInTurn depth d ys gs) (behind_first c x xs f fs) next),
)

pub acts_join : (depth : Depth) (xs ys : List Looked) (c : Cartridge) (fs gs : List Finding) → FindInTurn depth c xs fs →
    finding_acts c (xs ++ ys) (fs ++ gs) ≡ finding_acts c xs fs ++ finding_acts (behind c xs fs) ys gs
acts_join depth [] ys c [] gs first = refl
acts_join depth [] ys c (f ∷ fs) gs first = absurd first
acts_join depth (x ∷ xs) ys c [] gs first = absurd first
acts_join depth (x ∷ xs) ys c (f ∷ fs) gs first =
    let d : Cartridge = changed_by (steps_for c x f) c in
    ap (λ (acts : List Act). find_act c x f ∷ acts) (acts_join depth xs ys d fs gs first.1)
    ∙ ap (λ (e : Cartridge). find_act c x f ∷ (finding_acts d xs fs ++ finding_acts e ys gs)) (sym (behind_first c x xs f fs))

-- what is found of two parts one after the other
pub record TurnsOf (depth : Depth) (c : Cartridge) (xs ys : List Looked) (hs : List Finding) : Type 0 where
  pub front : List Finding
  pub rest : List Finding
  pub parts : hs ≡ front ++ rest
  pub first : FindInTurn depth c xs front
  pub next : FindInTurn depth (behind c xs front) ys rest

pub turns_part : (depth : Depth) (xs ys : List Looked) (c : Cartridge) (hs : List Finding) → FindInTurn depth c (xs ++ ys) hs →
    TurnsOf depth c xs ys hs
turns_part depth [] ys c hs found = record { front = []; rest = hs; parts = refl; first = tt; next = found }
turns_part depth (x ∷ xs) ys c [] found = absurd found
turns_part depth (x ∷ xs) ys c (h ∷ hs) found =
    let d : Cartridge = changed_by (steps_for c x h) c in
    let later : TurnsOf depth d xs ys hs = turns_part depth xs ys d hs found.1 in
    record {
      front = h ∷ later.front;
      rest = later.rest;
      parts = ap (λ (fs : List Finding). h ∷ fs) later.parts;
      first = (found.0, later.first);
      next = subst (λ (e : Cartridge). FindInTurn depth e ys later.rest) (sym (behind_first c x xs h later.front)) later.next;
    }

-- ---- what may be found

-- one finding for each segment
pub as_many : (depth : Depth) (ls : List Looked) (fs : List Finding) → MayBeFound depth ls fs → length fs ≡ length ls
as_many depth [] [] may = refl
as_many depth [] (f ∷ fs) may = absurd may
as_many depth (l ∷ ls) [] may = absurd may
as_many depth (l ∷ ls) (f ∷ fs) may = ap suc (as_many depth ls fs may.1)

pub may_join : (depth : Depth) (xs ys : List Looked) (fs gs : List Finding) → MayBeFound depth xs fs → MayBeFound depth ys gs →
    MayBeFound depth (xs ++ ys) (fs ++ gs)
may_join depth [] ys [] gs first next = next
may_join depth [] ys (f ∷ fs) gs first next = absurd first
may_join depth (x ∷ xs) ys [] gs first next = absurd first
may_join depth (x ∷ xs) ys (f ∷ fs) gs first next = (first.0, may_join depth xs ys fs gs first.1 next)

-- ---- lines and counts

pub lines_join : (xs ys : List Looked) (fs gs : List Finding) → length fs ≡ length xs →
    lines_for (xs ++ ys) (fs ++ gs) ≡ lines_for xs fs ++ lines_for ys gs
lines_join [] ys [] gs each = refl
lines_join [] ys (f ∷ fs) gs each = absurd (omega arith)
lines_join (x ∷ xs) ys [] gs each = absurd (omega arith)
lines_join (x ∷ xs) ys (f ∷ fs) gs each =
    ap (λ (text : List ℕ). line_for x f ++ text) (lines_join xs ys fs gs (omega arith))
    ∙ sym (append_assoc (line_for x f) (lines_for xs fs) (lines_for ys gs))

pub unread_join : (xs ys : List Looked) (fs gs : List Finding) → length fs ≡ length xs →
    unread_count (xs ++ ys) (sayings_of (fs ++ gs)) ≡ unread_count xs (sayings_of fs) + unread_count ys (sayings_of gs)
unread_join [] ys [] gs each = omega arith
unread_join [] ys (f ∷ fs) gs each = absurd (omega arith)
unread_join (x ∷ xs) ys [] gs each = absurd (omega arith)
unread_join (x ∷ xs) ys (f ∷ fs) gs each =
    let rest : unread_count (xs ++ ys) (sayings_of (fs ++ gs)) ≡ unread_count xs (sayings_of fs) + unread_count ys (sayings_of gs) =
    unread_join xs ys fs gs (omega arith) in
    omega arith

one_at_most : (b : Bool) → ◌≤◌ (cond b 0 1) 1
one_at_most true = omega arith
one_at_most false = omega arith

pub unread_most : (xs : List Looked) (ss : List Saying) → unread_count xs ss ≤ length xs
unread_most [] ss = omega arith
unread_most (x ∷ xs) [] = omega arith
unread_most (x ∷ xs) (s ∷ ss) =
    let here : cond (reads x s) 0 1 ≤ 1 = one_at_most (reads x s) in
    let rest : unread_count xs ss ≤ length xs = unread_most xs ss in
    omega arith

-- ---- some findings, where nothing is known

pub mismatches : List Looked → List Finding
mismatches [] = []
mismatches (l ∷ ls) = record { saying = Mismatch; wrong = None } ∷ mismatches ls

pub mismatches_may : (depth : Depth) (ls : List Looked) → MayBeFound depth ls (mismatches ls)
unfolding mismatches
mismatches_may depth [] = tt
mismatches_may depth (l ∷ ls) = (tt, mismatches_may depth ls)

-- acts with no step, and the lines of these findings
pub line_acts : List Looked → List Finding → List Act
line_acts [] fs = []
line_acts (l ∷ ls) [] = []
line_acts (l ∷ ls) (f ∷ fs) = record { steps = []; text = line_for l f } ∷ line_acts ls fs

pub text_of_lines : (ls : List Looked) (fs : List Finding) → text_of (line_acts ls fs) ≡ lines_for ls fs
unfolding line_acts
text_of_lines [] fs = refl
text_of_lines (l ∷ ls) [] = refl
text_of_lines (l ∷ ls) (f ∷ fs) = ap (λ (text : List ℕ). line_for l f ++ text) (text_of_lines ls fs)
