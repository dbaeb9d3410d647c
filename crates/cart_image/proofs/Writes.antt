-- What writes leave of places that they spare, told and in a crash, and what stands where they write one value.
use Rattle.std.proofs.Common.{◌≡◌, ℕ, ◌+◌, ◌-◌, ◌<◌, ◌≤◌, ◌⊎◌, inl, inr, ⊎_elim, List, [], ◌∷◌, ◌++◌, length, get_or, refl, sym, ◌∙◌}
use Rattle.std.proofs.Common.{arith, subst}
use Rattle.std.proofs.lemmas.Bool.{cases_lt}
use Rattle.qic_base.specs.Disk.{DiskStep, Look, WriteAt, SetLen, Sync, stored}
use Rattle.qic_base.specs.Field.{overwritten}
use Rattle.qic_base.proofs.FieldLaws.{get_or-overwritten}
use Rattle.cart_image.specs.Layout.{synced}
use Rattle.cart_image.specs.Run.{after_steps, Pending, Crashed}
use Rattle.cart_image.proofs.Bytes.{OnlyIn, OnlyIn-torn, OnlyIn-written}

-- bytes that are the same at each place of a set
pub record SameAt (P : ℕ → Type 0) (old new : List ℕ) : Type 0 where
  pub size : length new ≡ length old
  pub same : (k : ℕ) → P k → get_or new k 0 ≡ get_or old k 0

pub SameAt-all : (P : ℕ → Type 0) (bytes : List ℕ) → SameAt P bytes bytes
SameAt-all P bytes = record { size = refl; same = λ k at. refl }

SameAt-only : (P : ℕ → Type 0) (place count : ℕ) (a b c : List ℕ) → ((k : ℕ) → P k → (k < place) ⊎ (place + count ≤ k)) → SameAt P a b →
    OnlyIn place count b c → SameAt P a c
SameAt-only P place count a b c off kept only = record {
  size = only.size ∙ kept.size;
  same = λ k at. ⊎_elim (λ below. only.below k below ∙ kept.same k at) (λ above. only.above k above ∙ kept.same k at) (off k at);
}

-- writes that lie in a file and spare the places of a set
abbrev pub Spares : (P : ℕ → Type 0) (len : ℕ) → List DiskStep → Type 0
Spares P len [] = Unit {0}
Spares P len (Look ∷ steps) = Spares P len steps
Spares P len (Sync ∷ steps) = Spares P len steps
Spares P len (SetLen n ∷ steps) = ⊥
Spares P len (WriteAt place part ∷ steps) = (place + length part ≤ len) × ((k : ℕ) → P k → (k < place) ⊎ (place + length part ≤ k))
    × Spares P len steps

pub Spares-both : (P : ℕ → Type 0) (len : ℕ) (xs ys : List DiskStep) → Spares P len xs → Spares P len ys → Spares P len (xs ++ ys)
Spares-both P len [] ys a b = b
Spares-both P len (Look ∷ xs) ys a b = Spares-both P len xs ys a b
Spares-both P len (Sync ∷ xs) ys a b = Spares-both P len xs ys a b
Spares-both P len (SetLen n ∷ xs) ys a b = absurd a
Spares-both P len (WriteAt place part ∷ xs) ys a b = (a.0, a.1, Spares-both P len xs ys a.2 b)

-- .. with a sync behind them
pub Spares-synced : (P : ℕ → Type 0) (len : ℕ) (writes : List DiskStep) → Spares P len writes → Spares P len (synced writes)
Spares-synced P len [] spares = tt
Spares-synced P len (w ∷ ws) spares = Spares-both P len (w ∷ ws) (Sync ∷ []) spares tt

pub spared : (P : ℕ → Type 0) (steps : List DiskStep) (origin bytes : List ℕ) → Spares P (length bytes) steps → SameAt P origin bytes →
    SameAt P origin (after_steps steps bytes)
spared P [] origin bytes spares kept = kept
spared P (Look ∷ steps) origin bytes spares kept = spared P steps origin bytes spares kept
spared P (Sync ∷ steps) origin bytes spares kept = spared P steps origin bytes spares kept
spared P (SetLen n ∷ steps) origin bytes spares kept = absurd spares
spared P (WriteAt place part ∷ steps) origin bytes spares kept =
    let only = OnlyIn-written place bytes part spares.0 in
    spared P steps origin (overwritten bytes place part) (subst (λ (len : ℕ). Spares P len steps) (sym only.size) spares.2)
    (SameAt-only P place (length part) origin bytes _ spares.1 kept only)

pub spared-crash : (P : ℕ → Type 0) (steps : List DiskStep) (origin bytes left : List ℕ) (may : List ℕ → Type 0) →
    Spares P (length bytes) steps → SameAt P origin bytes → ((b : List ℕ) → may b → SameAt P origin b)
    → Crashed may bytes steps left → SameAt P origin left
spared-crash P [] origin bytes left may spares kept only crashed = absurd crashed
spared-crash P (Look ∷ steps) origin bytes left may spares kept only (inl inside) = only left (subst may (sym inside.2) inside.1)
spared-crash P (Look ∷ steps) origin bytes left may spares kept only (inr behind) =
    spared-crash P steps origin bytes left may spares kept only behind
spared-crash P (Sync ∷ steps) origin bytes left may spares kept only (inl inside) = only left (subst may (sym inside.2) inside.1)
spared-crash P (Sync ∷ steps) origin bytes left may spares kept only (inr behind) =
    spared-crash P steps origin bytes left (λ b. b ≡ bytes) spares kept (λ b same. let Q : List ℕ → Type 0 = λ c. SameAt P origin c in
    subst Q (sym same) kept) behind
spared-crash P (SetLen n ∷ steps) origin bytes left may spares kept only crashed = absurd spares
spared-crash P (WriteAt place part ∷ steps) origin bytes left may spares kept only (inl inside) =
    SameAt-only P place (length part) origin inside.0 left spares.1 (only inside.0 inside.1) (OnlyIn-torn _ _ _ _ inside.2)
spared-crash P (WriteAt place part ∷ steps) origin bytes left may spares kept only (inr behind) =
    let written = OnlyIn-written place bytes part spares.0 in
    spared-crash P steps origin (overwritten bytes place part) left (Pending (WriteAt place part) bytes may)
    (subst (λ (len : ℕ). Spares P len steps) (sym written.size) spares.2)
    (SameAt-only P place (length part) origin bytes _ spares.1 kept written)
    (λ b pending. SameAt-only P place (length part) origin pending.0 b spares.1 (only pending.0 pending.1) (OnlyIn-torn _ _ _ _ pending.2))
    behind

-- a crash in steps that end in a sync, or behind them
pub Crashed-front : (may : List ℕ → Type 0) (steps rest : List DiskStep) (bytes left : List ℕ) →
    Crashed may bytes ((steps ++ Sync ∷ []) ++ rest) left
    → Crashed may bytes (steps ++ Sync ∷ []) left ⊎ Crashed (λ b. b ≡ after_steps steps bytes) (after_steps steps bytes) rest left
Crashed-front may [] rest bytes left (inl inside) = inl (inl inside)
Crashed-front may [] rest bytes left (inr behind) = inr behind
Crashed-front may (s ∷ steps) rest bytes left (inl inside) = inl (inl inside)
Crashed-front may (s ∷ steps) rest bytes left (inr behind) =
    elim (Crashed-front (Pending s bytes may) steps rest (stored s bytes) left behind) [
      | inl in_front ↦ inl (inr in_front)
      | inr later ↦ inr later
    ]

pub after-both : (xs ys : List DiskStep) (bytes : List ℕ) → after_steps (xs ++ ys) bytes ≡ after_steps ys (after_steps xs bytes)
after-both [] ys bytes = refl
after-both (x ∷ xs) ys bytes = after-both xs ys (stored x bytes)

pub after-synced : (writes : List DiskStep) (bytes : List ℕ) → after_steps (synced writes) bytes ≡ after_steps writes bytes
after-synced [] bytes = refl
after-synced (w ∷ ws) bytes = after-both ws (Sync ∷ []) (stored w bytes)

-- a crash in writes and the sync behind them, or later
pub Crashed-synced : (writes rest : List DiskStep) (bytes left : List ℕ) → Crashed (λ b. b ≡ bytes) bytes (synced writes ++ rest) left
    → Crashed (λ b. b ≡ bytes) bytes (synced writes) left ⊎ Crashed (λ b. b ≡ after_steps writes bytes) (after_steps writes bytes) rest left
Crashed-synced [] rest bytes left crashed = inr crashed
Crashed-synced (w ∷ ws) rest bytes left crashed = Crashed-front (λ b. b ≡ bytes) (w ∷ ws) rest bytes left crashed

-- writes each of whose bytes is right at its place
abbrev pub Puts : (Is : ℕ → ℕ → Type 0) (len : ℕ) → List DiskStep → Type 0
Puts Is len [] = Unit {0}
Puts Is len (Look ∷ steps) = Puts Is len steps
Puts Is len (Sync ∷ steps) = Puts Is len steps
Puts Is len (SetLen n ∷ steps) = ⊥
Puts Is len (WriteAt place part ∷ steps) = (place + length part ≤ len)
    × ((i : ℕ) → i < length part → Is (place + i) (get_or part i 0)) × Puts Is len steps

pub Puts-both : (Is : ℕ → ℕ → Type 0) (len : ℕ) (xs ys : List DiskStep) → Puts Is len xs → Puts Is len ys → Puts Is len (xs ++ ys)
Puts-both Is len [] ys a b = b
Puts-both Is len (Look ∷ xs) ys a b = Puts-both Is len xs ys a b
Puts-both Is len (Sync ∷ xs) ys a b = Puts-both Is len xs ys a b
Puts-both Is len (SetLen n ∷ xs) ys a b = absurd a
Puts-both Is len (WriteAt place part ∷ xs) ys a b = (a.0, a.1, Puts-both Is len xs ys a.2 b)

-- .. where that is a function of the place
abbrev pub Even : (value : ℕ → ℕ) (len : ℕ) → List DiskStep → Type 0
Even value len steps = Puts (λ k b. b ≡ value k) len steps

pub Even-both : (value : ℕ → ℕ) (len : ℕ) (xs ys : List DiskStep) → Even value len xs → Even value len ys → Even value len (xs ++ ys)
Even-both value len xs ys a b = Puts-both (λ k b. b ≡ value k) len xs ys a b

-- a place that one of the writes reaches
abbrev pub Reached : (k : ℕ) → List DiskStep → Type 0
Reached k [] = ⊥
Reached k (Look ∷ steps) = Reached k steps
Reached k (Sync ∷ steps) = Reached k steps
Reached k (SetLen n ∷ steps) = Reached k steps
Reached k (WriteAt place part ∷ steps) = ((place ≤ k) × (k < place + length part)) ⊎ Reached k steps

pub Reached-first : (k : ℕ) (xs ys : List DiskStep) → Reached k xs → Reached k (xs ++ ys)
Reached-first k [] ys reached = absurd reached
Reached-first k (Look ∷ xs) ys reached = Reached-first k xs ys reached
Reached-first k (Sync ∷ xs) ys reached = Reached-first k xs ys reached
Reached-first k (SetLen n ∷ xs) ys reached = Reached-first k xs ys reached
Reached-first k (WriteAt place part ∷ xs) ys (inl here) = inl here
Reached-first k (WriteAt place part ∷ xs) ys (inr later) = inr (Reached-first k xs ys later)

pub Reached-later : (k : ℕ) (xs ys : List DiskStep) → Reached k ys → Reached k (xs ++ ys)
Reached-later k [] ys reached = reached
Reached-later k (Look ∷ xs) ys reached = Reached-later k xs ys reached
Reached-later k (Sync ∷ xs) ys reached = Reached-later k xs ys reached
Reached-later k (SetLen n ∷ xs) ys reached = Reached-later k xs ys reached
Reached-later k (WriteAt place part ∷ xs) ys reached = inr (Reached-later k xs ys reached)

-- .. has a right byte in the end, as has one that had it before
pub has-put : (Is : ℕ → ℕ → Type 0) (k : ℕ) (steps : List DiskStep) (bytes : List ℕ) → Puts Is (length bytes) steps →
    Is k (get_or bytes k 0) ⊎ Reached k steps → Is k (get_or (after_steps steps bytes) k 0)
has-put Is k [] bytes puts (inl has) = has
has-put Is k [] bytes puts (inr reached) = absurd reached
has-put Is k (Look ∷ steps) bytes puts has = has-put Is k steps bytes puts has
has-put Is k (Sync ∷ steps) bytes puts has = has-put Is k steps bytes puts has
has-put Is k (SetLen n ∷ steps) bytes puts has = absurd puts
has-put Is k (WriteAt place part ∷ steps) bytes puts has =
    let only = OnlyIn-written place bytes part puts.0 in
    has-put Is k steps (overwritten bytes place part) (subst (λ (len : ℕ). Puts Is len steps) (sym only.size) puts.2) (now has)
  where
    here : place ≤ k → k < place + length part → Is k (get_or (overwritten bytes place part) k 0)
    here at_least less =
        let at : k ≡ place + (k - place) = omega arith in
        let fits = puts.0 in
        let P : ℕ → Type 0 = λ j. Is j (get_or (overwritten bytes place part) j 0) in
        let Q : ℕ → Type 0 = λ v. Is (place + (k - place)) v in
        subst P (sym at) (subst Q (sym (get_or-overwritten bytes part place (k - place) 0 (omega arith) (omega arith)))
        (puts.1 (k - place) (omega arith)))

    now : Is k (get_or bytes k 0) ⊎ Reached k (WriteAt place part ∷ steps) → Is k (get_or (overwritten bytes place part) k 0)
        ⊎ Reached k steps
    now (inl had) =
        let only = OnlyIn-written place bytes part puts.0 in
        let Q : ℕ → Type 0 = λ v. Is k v in
        ⊎_elim (λ below. inl (subst Q (sym (only.below k below)) had))
        (λ at_least. ⊎_elim (λ less. inl (here at_least less)) (λ above. inl (subst Q (sym (only.above k above)) had))
        (cases_lt k (place + length part))) (cases_lt k place)
    now (inr (inl there)) = inl (here there.0 there.1)
    now (inr (inr later)) = inr later

pub has-value : (value : ℕ → ℕ) (k : ℕ) (steps : List DiskStep) (bytes : List ℕ) → Even value (length bytes) steps →
    (get_or bytes k 0 ≡ value k) ⊎ Reached k steps → get_or (after_steps steps bytes) k 0 ≡ value k
has-value value k steps bytes even has = has-put (λ j b. b ≡ value j) k steps bytes even has
