-- A file that gets longer by what is written at its end.
use Rattle.std.proofs.Common.{◌≡◌, ◌+◌, ◌≤◌, ◌<◌, ◌++◌, ◌∷◌, [], ℕ, zero, suc, List}
use Rattle.std.proofs.Common.{Option, Some, None, length, take, drop, slice_get, refl, ap, arith}
use Rattle.std.proofs.Common.{sym, subst, ◌∙◌, is_some, true, false, inl, inr, length-append, length-take, rules}
use Rattle.std.proofs.lemmas.List.{append-nil, take-append-drop}
use Rattle.std.proofs.lemmas.Grind.{common_steps}
use Rattle.std.specs.Option.{option_map}
use Rattle.qic_base.specs.Disk.{WriteAt, SetLen, stored, resized, Meaning, Stored, Failed, IsToldRight, Unsynced, TornRange, TornLength}
use Rattle.qic_base.specs.Field.{overwritten}
use Rattle.file_streams.specs.FileSink.{Begins, IsEnd, KeepsFront, longer_by}

grown : (at : ℕ) (bytes part : List ℕ) → at ≡ length bytes → overwritten (resized (at + length part) bytes) at part ≡ bytes ++ part
unfolding overwritten
grown at bytes part is = grind (arith, common_steps)

pub told-grown : (at end : ℕ) (part : List ℕ) (told : Option (List ℕ)) → end ≡ at + length part → IsEnd at told →
    option_map (stored (WriteAt at part)) (option_map (stored (SetLen end)) told) ≡ longer_by part told
told-grown at end part None long is = refl
told-grown at end part (Some bytes) long is = rw long (ap Some (grown at bytes part is))

-- ---- what stands before the place

-- bytes of which those below the place are these
abbrev pub AgreeBelow : (at : ℕ) (bytes left : List ℕ) → Type 0
AgreeBelow at bytes left = (at ≤ length left) × ((k : ℕ) → k < at → slice_get left k ≡ slice_get bytes k)

same-front : (at : ℕ) (bytes left : List ℕ) → at ≤ length bytes → AgreeBelow at bytes left → take at left ≡ take at bytes
same-front zero bytes left within agree = refl
same-front (suc at) [] left within agree = absurd (omega arith)
same-front (suc at) (x ∷ bytes) [] within agree = absurd (omega (arith, agree.0))
same-front (suc at) (x ∷ bytes) (y ∷ left) within agree =
    let first : Some y ≡ Some x = agree.1 0 (omega arith) in
    let same : y ≡ x = cc in
    rw same (ap (λ (l : List ℕ). x ∷ l) (same-front at bytes left (omega arith) (
      omega (arith, agree.0),
      λ k below. agree.1
          (suc k) (omega arith),
    )))

-- what is told then begins with the bytes below the place
begins-same : (told : Option (List ℕ)) (at : ℕ) (bytes : List ℕ) → is_some told ≡ true → at ≤ length bytes →
    ((left : List ℕ) → told ≡ Some left → AgreeBelow at bytes left) → Begins told (take at bytes ++ [])
begins-same None at bytes some within agree = absurd (cc)
begins-same (Some left) at bytes some within agree = (
  drop at left,
  ap Some (sym (take-append-drop at left)
      ∙ ap (λ (l : List ℕ). l ++ drop at left) (same-front at bytes left within (agree left refl) ∙ sym (append-nil (take at bytes)))),
)

-- a new length past the place, old or torn
agree-resized : (at end : ℕ) (bytes left : List ℕ) → at ≤ length bytes → at ≤ end → Unsynced (SetLen end) bytes left →
    AgreeBelow at bytes left
agree-resized at end bytes left within past (inl same) = (rw same within, λ k below. ap (λ (l : List ℕ). slice_get l k) same)
agree-resized at end bytes left within past (inr torn) =
    ((let n = torn.size in omega arith), λ k below. torn.kept k (omega arith) (omega arith))

pub failed-length : {D : Type 0} (m : Meaning D) (old new : D) (at end : ℕ) → IsToldRight m old → at ≤ end → Failed m old new (SetLen end) →
    KeepsFront m old new at []
failed-length m old new at end right past failed bytes loses is within =
    begins-same (m.told new) at bytes (failed.tells ∙ ap is_some is) within (λ left told.
    let one = failed.torn left told in
    let was : one.0 ≡ bytes = (right.untold loses).only bytes one.0 is one.1 in
    agree-resized at end bytes left within past (subst (λ (b : List ℕ). Unsynced (SetLen end) b left) was one.2))

-- the bytes below both lengths stay
get-first : (k : ℕ) (xs ys : List ℕ) → k < length xs → slice_get (xs ++ ys) k ≡ slice_get xs k
get-first k [] ys within = absurd (omega arith)
get-first zero (x ∷ xs) ys within = refl
get-first (suc k) (x ∷ xs) ys within = get-first k xs ys (omega arith)

get-take : (n k : ℕ) (xs : List ℕ) → k < n → slice_get (take n xs) k ≡ slice_get xs k
get-take zero k xs below = absurd (omega arith)
get-take (suc n) k [] below = refl
get-take (suc n) zero (x ∷ xs) below = refl
get-take (suc n) (suc k) (x ∷ xs) below = get-take n k xs (omega arith)

slice_get-resized : (end k : ℕ) (bytes : List ℕ) → k < end → k < length bytes → slice_get (resized end bytes) k ≡ slice_get bytes k
slice_get-resized end k bytes below within =
    get-first k (take end bytes) _ (omega (arith, length-take end bytes)) ∙ get-take end k bytes below

pub failed-write : {D : Type 0} (m : Meaning D) (old mid new : D) (at end : ℕ) (part : List ℕ) → IsToldRight m mid →
    end ≡ at + length part →
    Stored m old mid (SetLen end) → Failed m mid new (WriteAt at part) → KeepsFront m old new at []
failed-write m old mid new at end part right long did failed bytes loses is within =
    let there : m.told mid ≡ Some (resized end bytes) = did.told ∙ ap (option_map (stored (SetLen end))) is in
    begins-same (m.told new) at bytes (failed.tells ∙ ap is_some there) within (λ left told.
    let one = failed.torn left told in
    let was : one.0 ≡ resized end bytes = (right.untold (did.crashes.telling ∙ loses)).only (resized end bytes) one.0 there one.1 in
    let torn : TornRange at (length part) (resized end bytes) left = subst (λ (b : List ℕ). Unsynced (WriteAt at part) b left) was one.2 in
    let size : length (resized end bytes) ≡ end = length-resized end bytes in (
      (let n = torn.size in omega arith),
      λ k below. torn.below k below ∙ slice_get-resized end k bytes (omega arith) (omega arith),
    ))
  where
    length-resized : (n : ℕ) (bytes : List ℕ) → length (resized n bytes) ≡ n
    length-resized n bytes = grind (arith, common_steps)

-- both done
grown-front : (at : ℕ) (bytes part : List ℕ) → at ≤ length bytes →
    overwritten (resized (at + length part) bytes) at part ≡ take at bytes ++ part
unfolding overwritten
grown-front at bytes part within = grind (arith, common_steps)

pub took-piece : {D : Type 0} (m : Meaning D) (old mid new : D) (at end : ℕ) (part : List ℕ) → end ≡ at + length part →
    Stored m old mid (SetLen end) → Stored m mid new (WriteAt at part) → KeepsFront m old new at part
took-piece m old mid new at end part long did wrote bytes loses is within =
    let there : m.told mid ≡ Some (resized end bytes) = did.told ∙ ap (option_map (stored (SetLen end))) is in
    let then : m.told new ≡ Some (overwritten (resized end bytes) at part) = wrote.told
    ∙ ap (option_map (stored (WriteAt at part))) there in
    let same : overwritten (resized end bytes) at part ≡ take at bytes ++ part =
    ap (λ (n : ℕ). overwritten (resized n bytes) at part) long ∙ grown-front at bytes part within in
    ([], then ∙ ap Some (same ∙ sym (append-nil (take at bytes ++ part))))
