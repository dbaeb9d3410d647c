-- A file as a sink meets the laws of a sink.
use Rattle.std.proofs.Common.{◌≡◌, ◌≢◌, ◌≤◌, ◌<◌, ◌+◌, ◌-◌, ◌^◌, ◌++◌, ◌⊎◌, ℕ, List}
use Rattle.std.proofs.Common.{[], length, take, drop, Option, Some, None, refl, ap, sym, subst}
use Rattle.std.proofs.Common.{◌∙◌, arith, inl, inr, false, length-append}
use Rattle.std.proofs.lemmas.Bool.{cases_eq}
use Rattle.std.proofs.lemmas.Grind.{common_steps}
use Rattle.std.proofs.lemmas.List.{take-append-drop, length-take-le, append_assoc, append-nil, take_at}
use Rattle.qic_base.specs.Disk.{Meaning}
use Rattle.qic_base.specs.Tape.{Rose}
use Rattle.file_streams.specs.declared.sink.FileSink.{FileSink}
use Rattle.file_streams.specs.FileSink.{Begins, FileGrew, Grew, IsVast, KeepsFront, Took, longer_by, bytes_of}

longer-nothing : (told : Option (List ℕ)) → told ≡ longer_by [] told
longer-nothing None = refl
longer-nothing (Some bytes) = grind (arith, common_steps)

longer-twice : (xs ys : List ℕ) (told : Option (List ℕ)) → longer_by ys (longer_by xs told) ≡ longer_by (xs ++ ys) told
longer-twice xs ys None = refl
longer-twice xs ys (Some bytes) = grind (arith, common_steps)

-- ---- what the disk holds, and its count

-- bytes that stay begin with themselves
pub begins-still : (told : Option (List ℕ)) (at : ℕ) (bytes : List ℕ) → told ≡ Some bytes → Begins told (take at bytes ++ [])
begins-still told at bytes is =
    (drop at bytes, is ∙ ap Some (sym (ap (λ (l : List ℕ). l ++ drop at bytes) (append-nil (take at bytes)) ∙ take-append-drop at bytes)))

grew-nothing : {D : Type 0} (d : Meaning D) (disk : Option D) (at faults : ℕ) → FileGrew d disk disk at at [] faults faults
grew-nothing d None at faults = (refl, refl)
grew-nothing d (Some disk) at faults = record {
  place = omega arith;
  telling = refl;
  kept = λ bytes loses is within. begins-still (d.told disk) at bytes is;
  stood = λ same small. refl;
  failed = λ more small. absurd (omega arith);
}

front-both : {D : Type 0} (d : Meaning D) (a b c : D) (at mid : ℕ) (xs ys : List ℕ) → mid ≡ at + length xs →
    d.tells_stops b ≡ d.tells_stops a → KeepsFront d a b at xs → KeepsFront d b c mid ys → KeepsFront d a c at (xs ++ ys)
front-both d a b c at mid xs ys place telling first next bytes loses is within =
    let front : List ℕ = take at bytes ++ xs in
    let one = first bytes loses is within in
    let long : length front ≡ mid =
    length-append (take at bytes) xs ∙ ap (λ (n : ℕ). n + length xs) (length-take-le at bytes within) ∙ sym place in
    let two = next (front ++ one.0) (telling ∙ loses) one.1
    (let all : length (front ++ one.0) ≡ length front + length one.0 = length-append front one.0 in omega arith) in
    let same : take mid (front ++ one.0) ++ ys ≡ take at bytes ++ (xs ++ ys) =
    ap (λ (l : List ℕ). l ++ ys) (take_at front one.0 mid long) ∙ append_assoc (take at bytes) xs ys in
    (two.0, two.1 ∙ ap (λ (l : List ℕ). Some (l ++ two.0)) same)

grew-both : {D : Type 0} (d : Meaning D) (a b c : Option D) (at mid end : ℕ) (xs ys : List ℕ) (before between after : ℕ) →
    before ≤ between → between ≤ after → FileGrew d a b at mid xs before between → FileGrew d b c mid end ys between after →
    FileGrew d a c at end (xs ++ ys) before after
grew-both d None None None at mid end xs ys before between after rose more first next = (next.0 ∙ first.0, next.1 ∙ first.1)
grew-both d None None (Some c) at mid end xs ys before between after rose more first next = next
grew-both d None (Some b) c at mid end xs ys before between after rose more first next = absurd first
grew-both d (Some a) None c at mid end xs ys before between after rose more first next = absurd first
grew-both d (Some a) (Some b) None at mid end xs ys before between after rose more first next = next
grew-both d (Some a) (Some b) (Some c) at mid end xs ys before between after rose more first next = record {
  place = (let one = first.place in let two = next.place in let all : length (xs ++ ys) ≡ length xs + length ys = length-append xs ys in
      omega arith);
  telling = next.telling ∙ first.telling;
  kept = front-both d a b c at mid xs ys first.place first.telling first.kept next.kept;
  stood = λ same small. next.stood (omega arith) small ∙ first.stood (omega arith) (omega arith);
  failed = λ one small. by_middle (cases_eq between before) one small;
}
  where
    by_middle : (between ≡ before) ⊎ (between ≢ before) → after ≡ before + 1 → after < 2 ^ 64 - 1 →
        Rose (d.faults a) (d.faults c) ⊎ IsVast end
    by_middle (inl still) one small = elim (next.failed (omega arith) small) [
      | inl broke ↦ inl (subst (λ (n : ℕ). Rose n (d.faults c)) (first.stood still (omega arith)) broke)
      | inr vast ↦ inr vast
    ]
    by_middle (inr rose_first) one small = elim (first.failed (omega arith) (omega arith)) [
      | inl broke ↦ inl (subst (λ (n : ℕ). Rose (d.faults a) n) (sym (next.stood (omega arith) (omega arith))) broke)
      | inr vast ↦ inr (let two = next.place in omega (arith, vast))
    ]

pub took-nothing : {D : Type 0} (d : Meaning D) (m : FileSink D) → Took d m [] m
took-nothing d m = record {
  later = omega arith;
  ends = λ whole is. is;
  longer = λ whole is. longer-nothing (bytes_of d m);
  file = grew-nothing d m.disk m.at m.faults;
}

pub took-both : {D : Type 0} (d : Meaning D) (a b c : FileSink D) (xs ys : List ℕ) → Took d a xs b → Took d b ys c → Took d a (xs ++ ys) c
took-both d a b c xs ys first next = record {
  later = (let f : a.faults ≤ b.faults = first.later in let n : b.faults ≤ c.faults = next.later in omega arith);
  ends = λ whole is. next.ends whole (first.ends (still whole) is);
  longer = λ whole is.
      next.longer whole (first.ends (still whole) is)
      ∙ ap (longer_by ys) (first.longer (still whole) is)
      ∙ longer-twice xs ys (bytes_of d a);
  file = grew-both d a.disk b.disk c.disk a.at b.at c.at xs ys a.faults b.faults c.faults first.later next.later first.file next.file;
}
  where
    still : c.faults ≡ 0 → b.faults ≡ 0
    still whole = let n : b.faults ≤ c.faults = next.later in omega arith
