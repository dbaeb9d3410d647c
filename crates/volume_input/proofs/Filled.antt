-- Bytes that fill some segments, and what goes behind them.
use Rattle.std.proofs.Common.{◌≡◌, ◌⊎◌, inl, inr, ℕ, ◌+◌, ◌-◌, ◌*◌, ◌<◌, ◌≤◌, Bool, true, false, cond, List, [], ◌∷◌, ◌++◌, length, drop}
use Rattle.std.proofs.Common.{All, refl, sym, ap, ◌∙◌, arith, nat_le}
use Rattle.std.proofs.lemmas.Bool.{le-leb, lt-leb}
use Rattle.std.proofs.lemmas.List.{length-append, length-drop, take-append-le, drop-append-le}
use Rattle.std.proofs.lemmas.List.Elements.{All-head, All-tail}
use Rattle.qic_base.specs.Acts.{Act}
use Rattle.cartridge_laws.specs.Shape.{Carries}
use Rattle.cartridge_spec.specs.Shape.{mask_at, usable_count, data_count, capacity}
use Rattle.cartridge_spec.specs.Appending.{part_writes, in_sectors, taken_by}
use Rattle.cartridge_laws.proofs.AppendBySegments.{sectors_take_theirs}
use Rattle.cartridge_laws.proofs.AppendBytes.{capacity_of, capacity_cons, carried_all}
use Rattle.command_spec.specs.Append.{segment_act, volume_acts, filled_acts}

abbrev pub Carry : (words segments : List ℕ) → Type 0
Carry words segments = All (λ s. Carries (mask_at words s)) segments

-- there are some bytes more, or nothing is before them
abbrev pub GoesOn : (front more : List ℕ) → Type 0
GoesOn front more = (front ≡ []) ⊎ (1 ≤ length more)

pub carry_head : (words : List ℕ) (s : ℕ) (ss : List ℕ) → Carry words (s ∷ ss) → Carries (mask_at words s)
carry_head words s ss carry = All-head (λ (t : ℕ). Carries (mask_at words t)) s ss carry

carry_tail : (words : List ℕ) (s : ℕ) (ss : List ℕ) → Carry words (s ∷ ss) → Carry words ss
carry_tail words s ss carry = All-tail (λ (t : ℕ). Carries (mask_at words t)) s ss carry

pub carries_some : (words : List ℕ) (s : ℕ) → Carries (mask_at words s) → 1024 ≤ capacity (mask_at words s)
carries_some words s carry =
    let all = carried_all words s carry in
    let least : 4 ≤ usable_count (mask_at words s) = carry in
    omega arith

-- ---- one segment

abbrev sectors_act : (words : List ℕ) → (segment : ℕ) → List (List ℕ) → Act
sectors_act words segment sectors = record { steps = part_writes words (record { segment = segment; sectors = sectors }); text = [] }

-- bytes behind those that fill a segment are not written in it
pub act_front : (words : List ℕ) (s : ℕ) (bytes more : List ℕ) → Carries (mask_at words s) → capacity (mask_at words s) ≤ length bytes →
    segment_act words s (bytes ++ more) ≡ segment_act words s bytes
act_front words s bytes more carry full =
    let n : ℕ = data_count (mask_at words s) in
    let room : 1024 * n ≤ length bytes = omega (arith, carried_all words s carry) in
    ap (sectors_act words s) (
    sym (sectors_take_theirs n (bytes ++ more))
    ∙ ap (in_sectors n) (take-append-le (1024 * n) bytes more room)
    ∙ sectors_take_theirs n bytes
    )

-- ---- what is decided by a test

pub chosen : {A : Type 0} (b : Bool) (x y : A) → b ≡ true → cond b x y ≡ x
chosen true x y is = refl
chosen false x y is = absurd (cc)

pub refused : {A : Type 0} (b : Bool) (x y : A) → b ≡ false → cond b x y ≡ y
refused true x y is = absurd (cc)
refused false x y is = refl

-- the acts of a segment that bytes don't go beyond, or do
pub volume_ends : (words : List ℕ) (s : ℕ) (ss bytes : List ℕ) → length bytes ≤ capacity (mask_at words s) →
    volume_acts words (s ∷ ss) bytes ≡ segment_act words s bytes ∷ []
volume_ends words s ss bytes few =
    ap (λ (acts : List Act). segment_act words s bytes ∷ acts)
    (chosen (nat_le (length bytes) (capacity (mask_at words s))) [] (volume_acts words ss (drop (capacity (mask_at words s)) bytes))
    (le-leb (length bytes) (capacity (mask_at words s)) few))

volume_more : (words : List ℕ) (s : ℕ) (ss bytes : List ℕ) → capacity (mask_at words s) < length bytes →
    volume_acts words (s ∷ ss) bytes ≡ segment_act words s bytes ∷ volume_acts words ss (drop (capacity (mask_at words s)) bytes)
volume_more words s ss bytes many =
    ap (λ (acts : List Act). segment_act words s bytes ∷ acts)
    (refused (nat_le (length bytes) (capacity (mask_at words s))) [] (volume_acts words ss (drop (capacity (mask_at words s)) bytes))
    (lt-leb (length bytes) (capacity (mask_at words s)) many))

-- those of one that they fill, or don't
pub filled_more : (words : List ℕ) (s : ℕ) (ss bytes : List ℕ) → capacity (mask_at words s) ≤ length bytes →
    filled_acts words (s ∷ ss) bytes ≡ segment_act words s bytes ∷ filled_acts words ss (drop (capacity (mask_at words s)) bytes)
filled_more words s ss bytes full =
    chosen (nat_le (capacity (mask_at words s)) (length bytes))
    (segment_act words s bytes ∷ filled_acts words ss (drop (capacity (mask_at words s)) bytes)) []
    (le-leb (capacity (mask_at words s)) (length bytes) full)

pub filled_ends : (words : List ℕ) (s : ℕ) (ss bytes : List ℕ) → length bytes < capacity (mask_at words s) →
    filled_acts words (s ∷ ss) bytes ≡ []
filled_ends words s ss bytes few =
    refused (nat_le (capacity (mask_at words s)) (length bytes))
    (segment_act words s bytes ∷ filled_acts words ss (drop (capacity (mask_at words s)) bytes)) []
    (lt-leb (capacity (mask_at words s)) (length bytes) few)

taken_ends : (words : List ℕ) (s : ℕ) (ss : List ℕ) (n : ℕ) → n ≤ capacity (mask_at words s) → taken_by words n (s ∷ ss) ≡ s ∷ []
taken_ends words s ss n few =
    ap (λ (ts : List ℕ). s ∷ ts)
    (chosen (nat_le n (capacity (mask_at words s))) [] (taken_by words (n - capacity (mask_at words s)) ss)
    (le-leb n (capacity (mask_at words s)) few))

taken_more : (words : List ℕ) (s : ℕ) (ss : List ℕ) (n : ℕ) → capacity (mask_at words s) < n →
    taken_by words n (s ∷ ss) ≡ s ∷ taken_by words (n - capacity (mask_at words s)) ss
taken_more words s ss n many =
    ap (λ (ts : List ℕ). s ∷ ts)
    (refused (nat_le n (capacity (mask_at words s))) [] (taken_by words (n - capacity (mask_at words s)) ss)
    (lt-leb n (capacity (mask_at words s)) many))

-- ---- bytes that fill some segments

no_bytes : (words bytes : List ℕ) → length bytes ≡ capacity_of words [] → bytes ≡ []
no_bytes words [] none = refl
no_bytes words (b ∷ bs) none = absurd (omega arith)

front_full : (words : List ℕ) (s : ℕ) (ss bytes : List ℕ) → length bytes ≡ capacity_of words (s ∷ ss) →
    capacity (mask_at words s) ≤ length bytes
front_full words s ss bytes full = omega (arith, capacity_cons words s ss)

rest_full : (words : List ℕ) (s : ℕ) (ss bytes : List ℕ) → length bytes ≡ capacity_of words (s ∷ ss) →
    length (drop (capacity (mask_at words s)) bytes) ≡ capacity_of words ss
rest_full words s ss bytes full = omega (arith, capacity_cons words s ss, length-drop (capacity (mask_at words s)) bytes)

-- the acts of a segment more in front
push_act : (words : List ℕ) (s : ℕ) (bytes more : List ℕ) (xs ys zs : List Act) → Carries (mask_at words s) →
    capacity (mask_at words s) ≤ length bytes →
    xs ≡ ys ++ zs → segment_act words s (bytes ++ more) ∷ xs ≡ (segment_act words s bytes ∷ ys) ++ zs
push_act words s bytes more xs ys zs carry full same =
    ap (λ (act : Act). act ∷ xs) (act_front words s bytes more carry full) ∙ ap (λ (acts : List Act). segment_act words s bytes ∷ acts) same

-- of these and further bytes those segments are filled ..
pub filled_behind : (words front rest bytes more : List ℕ) → Carry words front → length bytes ≡ capacity_of words front →
    filled_acts words (front ++ rest) (bytes ++ more) ≡ filled_acts words front bytes ++ filled_acts words rest more
filled_behind words [] rest bytes more carry full = ap (λ (xs : List ℕ). filled_acts words rest (xs ++ more)) (no_bytes words bytes full)
filled_behind words (s ∷ ss) rest bytes more carry full =
    let cap : ℕ = capacity (mask_at words s) in
    let here : cap ≤ length bytes = front_full words s ss bytes full in
    let all : cap ≤ length (bytes ++ more) = omega (arith, length-append bytes more) in
    filled_more words s (ss ++ rest) (bytes ++ more) all
    ∙ push_act words s bytes more (filled_acts words (ss ++ rest) (drop cap (bytes ++ more))) (filled_acts words ss (drop cap bytes))
    (filled_acts words rest more)
    (carry_head words s ss carry) here
    (ap (λ (xs : List ℕ). filled_acts words (ss ++ rest) xs) (drop-append-le cap bytes more here)
    ∙ filled_behind words ss rest (drop cap bytes) more (carry_tail words s ss carry) (rest_full words s ss bytes full))
    ∙ ap (λ (acts : List Act). acts ++ filled_acts words rest more) (sym (filled_more words s ss bytes here))

-- .. and so they are of a volume, where there are further ones
pub volume_behind : (words front rest bytes more : List ℕ) → Carry words front → length bytes ≡ capacity_of words front →
    GoesOn front more →
    volume_acts words (front ++ rest) (bytes ++ more) ≡ filled_acts words front bytes ++ volume_acts words rest more
volume_behind words [] rest bytes more carry full on = ap (λ (xs : List ℕ). volume_acts words rest (xs ++ more)) (no_bytes words bytes full)
volume_behind words (s ∷ ss) rest bytes more carry full (inl none) = absurd (cc)
volume_behind words (s ∷ ss) rest bytes more carry full (inr some) =
    let cap : ℕ = capacity (mask_at words s) in
    let here : cap ≤ length bytes = front_full words s ss bytes full in
    let beyond : cap < length (bytes ++ more) = omega (arith, length-append bytes more) in
    volume_more words s (ss ++ rest) (bytes ++ more) beyond
    ∙ push_act words s bytes more (volume_acts words (ss ++ rest) (drop cap (bytes ++ more))) (filled_acts words ss (drop cap bytes))
    (volume_acts words rest more)
    (carry_head words s ss carry) here
    (ap (λ (xs : List ℕ). volume_acts words (ss ++ rest) xs) (drop-append-le cap bytes more here)
    ∙ volume_behind words ss rest (drop cap bytes) more (carry_tail words s ss carry) (rest_full words s ss bytes full) (inr some))
    ∙ ap (λ (acts : List Act). acts ++ volume_acts words rest more) (sym (filled_more words s ss bytes here))

-- .. or where there is none
pub volume_full : (words front rest bytes : List ℕ) → Carry words front → length bytes ≡ capacity_of words front → 1 ≤ length front →
    volume_acts words (front ++ rest) bytes ≡ filled_acts words front bytes
volume_full words [] rest bytes carry full some = absurd (omega arith)
volume_full words (s ∷ []) rest bytes carry full some =
    let cap : ℕ = capacity (mask_at words s) in
    let few : length bytes ≤ cap = omega (arith, capacity_cons words s []) in
    let here : cap ≤ length bytes = front_full words s [] bytes full in
    volume_ends words s rest bytes few ∙ sym (filled_more words s [] bytes here)
volume_full words (s ∷ t ∷ ss) rest bytes carry full some =
    let cap : ℕ = capacity (mask_at words s) in
    let next : 1024 ≤ capacity (mask_at words t) = carries_some words t (carry_head words t ss (carry_tail words s (t ∷ ss) carry)) in
    let beyond : cap < length bytes = omega (arith, capacity_cons words s (t ∷ ss), capacity_cons words t ss) in
    volume_more words s (t ∷ ss ++ rest) bytes beyond
    ∙ ap (λ (acts : List Act). segment_act words s bytes ∷ acts)
    (volume_full words (t ∷ ss) rest (drop cap bytes) (carry_tail words s (t ∷ ss) carry) (rest_full words s (t ∷ ss) bytes full)
    (omega arith))
    ∙ sym (filled_more words s (t ∷ ss) bytes (omega arith))

-- ---- the segments that are taken

taken_behind : (words front rest : List ℕ) (m n : ℕ) → m ≡ capacity_of words front → (front ≡ []) ⊎ (1 ≤ n) →
    taken_by words (m + n) (front ++ rest) ≡ front ++ taken_by words n rest
taken_behind words [] rest m n full on = ap (λ (k : ℕ). taken_by words k rest) (let none : m ≡ 0 = full in omega arith)
taken_behind words (s ∷ ss) rest m n full (inl none) = absurd (cc)
taken_behind words (s ∷ ss) rest m n full (inr some) =
    let cap : ℕ = capacity (mask_at words s) in
    let all = capacity_cons words s ss in
    let left : m + n - cap ≡ (m - cap) + n = omega arith in
    taken_more words s (ss ++ rest) (m + n) (omega arith)
    ∙ ap (λ (k : ℕ). s ∷ taken_by words k (ss ++ rest)) left
    ∙ ap (λ (ts : List ℕ). s ∷ ts) (taken_behind words ss rest (m - cap) n (omega arith) (inr some))

pub taken_full : (words front rest : List ℕ) (m : ℕ) → Carry words front → m ≡ capacity_of words front → 1 ≤ length front →
    taken_by words m (front ++ rest) ≡ front
taken_full words [] rest m carry full some = absurd (omega arith)
taken_full words (s ∷ []) rest m carry full some = taken_ends words s rest m (omega (arith, capacity_cons words s []))
taken_full words (s ∷ t ∷ ss) rest m carry full some =
    let cap : ℕ = capacity (mask_at words s) in
    let next : 1024 ≤ capacity (mask_at words t) = carries_some words t (carry_head words t ss (carry_tail words s (t ∷ ss) carry)) in
    let all = capacity_cons words s (t ∷ ss) in
    let more = capacity_cons words t ss in
    taken_more words s (t ∷ ss ++ rest) m (omega arith)
    ∙ ap (λ (ts : List ℕ). s ∷ ts) (taken_full words (t ∷ ss) rest (m - cap) (carry_tail words s (t ∷ ss) carry) (omega arith)
    (omega arith))

-- up to the one that takes the last byte
pub taken_last : (words front : List ℕ) (s : ℕ) (rest : List ℕ) (m n : ℕ) → m ≡ capacity_of words front → (front ≡ []) ⊎ (1 ≤ n) →
    n ≤ capacity (mask_at words s) → taken_by words (m + n) (front ++ s ∷ rest) ≡ front ++ s ∷ []
taken_last words front s rest m n full on few =
    taken_behind words front (s ∷ rest) m n full on ∙ ap (λ (ts : List ℕ). front ++ ts) (taken_ends words s rest n few)
