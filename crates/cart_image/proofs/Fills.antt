-- The writes that give a part of chosen sectors its values: they spare all else, and reach each of its bytes.
use Rattle.std.proofs.Common.{◌≡◌, ◌≢◌, ℕ, zero, suc, ◌+◌, ◌-◌, ◌*◌, ◌<◌, ◌≤◌, ◌⊎◌, inl, inr, ⊎_elim, Bool, true, false, List, [], ◌∷◌}
use Rattle.std.proofs.Common.{◌++◌}
use Rattle.std.proofs.Common.{length, get_or, refl, sym, ◌∙◌, ap, arith, subst}
use Rattle.std.specs.Prelude.{if◌then◌else◌, slice_range}
use Rattle.std.proofs.lemmas.Bool.{cases_lt}
use Rattle.std.proofs.lemmas.List.{length-replicate, get_or-replicate}
use Rattle.std.proofs.lemmas.List.Edits.{length-between, get_or-between}
use Rattle.qic_base.specs.Disk.{DiskStep}
use Rattle.cart_image.specs.declared.layout.Layout.{Layout}
use Rattle.cart_image.specs.declared.layout.Part.{Part}
use Rattle.cart_image.specs.Layout.{sectors, end_of, width, place, touches, run_write, fill_writes, fill, even}
use Rattle.cart_image.specs.Run.{after_steps, Crashed}
use Rattle.cart_image.proofs.Layouts.{laid_out, in-row, width-few, width-less, width-more, width-one, width-sum}
use Rattle.cart_image.proofs.Writes.{SameAt, SameAt-all, Spares, Spares-both, Spares-synced, spared, spared-crash, Puts, Puts-both, Reached}
use Rattle.cart_image.proofs.Writes.{Reached-first, Reached-later, has-put}

-- writes of right bytes that spare the places of one set, and reach those of another
record IsFill (Is : ℕ → ℕ → Type 0) (P R : ℕ → Type 0) (len : ℕ) (steps : List DiskStep) : Type 0 where
  spares : Spares P len steps
  puts : Puts Is len steps
  reached : (k : ℕ) → R k → Reached k steps

IsFill-both : (Is : ℕ → ℕ → Type 0) (P R S : ℕ → Type 0) (len : ℕ) (xs ys : List DiskStep) → IsFill Is P R len xs → IsFill Is P S len ys →
    IsFill Is P (λ k. R k ⊎ S k) len (xs ++ ys)
IsFill-both Is P R S len xs ys a b = record {
  spares = Spares-both P len xs ys a.spares b.spares;
  puts = Puts-both Is len xs ys a.puts b.puts;
  reached = λ k is. elim is [
    | inl first ↦ Reached-first k xs ys (a.reached k first)
    | inr later ↦ Reached-later k xs ys (b.reached k later)
  ];
}

IsFill-less : (Is : ℕ → ℕ → Type 0) (P R S : ℕ → Type 0) (len : ℕ) (xs : List DiskStep) → ((k : ℕ) → S k → R k) → IsFill Is P R len xs →
    IsFill Is P S len xs
IsFill-less Is P R S len xs less a = record { spares = a.spares; puts = a.puts; reached = λ k is. a.reached k (less k is) }

-- a place outside that part of chosen sectors
abbrev pub OffChosen : (l : Layout) (p : Part) (first : ℕ) (chosen : List Bool) (k : ℕ) → Type 0
OffChosen l p first chosen k = (i : ℕ) → get_or chosen i false ≡ true → (k < place l p (first + i)) ⊎ (place l p (first + i) + width p ≤ k)

module _ (l : Layout) (p : Part) (values : List ℕ) (len : ℕ) (room : end_of l ≤ len) (first : ℕ) (whole : length values ≡ width p * 32)
    (within : first + 32 ≤ sectors l.segments_per_track) where
  -- where the part of one of the sectors begins
  abbrev spot : ℕ → ℕ
  spot i = place l p (first + i)

  -- a place outside it
  abbrev OffPart : (k i : ℕ) → Type 0
  OffPart k i = (k < spot i) ⊎ (spot i + width p ≤ k)

  -- .. and one in it
  abbrev InPart : (k i : ℕ) → Type 0
  InPart k i = (spot i ≤ k) × (k < spot i + width p)

  -- a byte there is that of the values
  abbrev Right : (k byte : ℕ) → Type 0
  Right k byte = (i : ℕ) → i < 32 → spot i ≤ k → k < spot i + width p → byte ≡ get_or values (width p * i + (k - spot i)) 0

  -- parts that stand in a row
  abbrev InRow : (at count : ℕ) → Type 0
  InRow at count = (i : ℕ) → i < count → spot (at + i) ≡ spot at + width p * i

  from-first : touches l.kind ≡ true → (i : ℕ) → spot i ≡ place l p first + width p * i
  from-first meet i = in-row l p first i meet

  in_row : (at count : ℕ) → (touches l.kind ≡ true) ⊎ (count ≤ 1) → InRow at count
  in_row at count (inl meet) i less =
      let a = from-first meet at in
      let b = from-first meet (at + i) in
      let c = width-sum p at i in
      omega arith
  in_row at count (inr few) i less =
      let none : i ≡ 0 = omega arith in
      let here : at + 0 ≡ at = omega arith in
      let nothing : spot at ≡ spot at + width p * 0 = omega arith in
      rw none (ap spot here ∙ nothing)

  off-run : (c at k : ℕ) → InRow at (suc c) → ((i : ℕ) → i < suc c → OffPart k (at + i)) → (k < spot at)
      ⊎ (spot at + width p * suc c ≤ k)
  off-run zero at k row off =
      let here = row 0 (omega arith) in
      elim (off 0 (omega arith)) [
        | inl below ↦ inl (omega arith)
        | inr above ↦ inr (let m = width-more p 0 in omega arith)
      ]
  off-run (suc c) at k row off =
      let here = row (suc c) (omega arith) in
      elim (off-run c at k (λ i less. row i (omega arith)) (λ i less. off i (omega arith))) [
        | inl below ↦ inl below
        | inr above ↦ elim (off (suc c) (omega arith)) [
          | inl inside ↦ absurd (omega arith)
          | inr past ↦ inr (let m = width-more p (suc c) in omega arith)
        ]
      ]

  -- where a byte of a run's part stands among the values
  same-index : (at c i j : ℕ) → (touches l.kind ≡ true) ⊎ (suc c ≤ 1) → at + suc c ≤ 32 → i < 32 → j < width p * suc c →
      spot i ≤ spot at + j → spot at + j < spot i + width p → width p * at + j ≡ width p * i + (spot at + j - spot i)
  same-index at c i j (inl meet) on less inside at_least most =
      let a = from-first meet at in
      let b = from-first meet i in
      omega arith
  same-index at c i j (inr few) on less inside at_least most =
      let none : c ≡ 0 = omega arith in
      let e : width p * suc c ≡ width p = ap (λ n. width p * suc n) none ∙ width-one p in
      let apart : at ≢ i → ⊥ = λ ne. ⊎_elim (λ before. omega arith) (λ behind. omega arith)
      ((laid_out l).apart p p (first + at) (first + i) (omega arith) (omega arith) (inr (λ same. ne (omega arith)))) in
      let P : ℕ → Type 0 = λ q. width p * at + j ≡ width p * q + (spot at + j - spot q) in
      ⊎_elim (λ before. absurd (apart (λ same. omega arith)))
      (λ le. ⊎_elim (λ behind. absurd (apart (λ same. omega arith)))
      (λ ge. let same : at ≡ i = omega arith in subst P same (omega arith)) (cases_lt i at)) (cases_lt at i)

  -- sectors from one on
  abbrev InRun : (at count k : ℕ) → Type 0
  InRun at count k = (i : ℕ) × (i < count) × InPart k (at + i)

  run-fill : (P : ℕ → Type 0) (at count : ℕ) → at + count ≤ 32 → (touches l.kind ≡ true) ⊎ (count ≤ 1)
      → ((k : ℕ) → P k → (i : ℕ) → i < count → OffPart k (at + i)) → IsFill Right P (InRun at count) len
      (run_write l p values first at count)
  run-fill P at zero on meet off = record { spares = tt; puts = tt; reached = λ k is. let less = is.1 in absurd (omega arith) }
  run-fill P at (suc c) on meet off =
      let row = in_row at (suc c) meet in
      let sum = width-sum p at (suc c) in
      let few = width-few p (at + suc c) on in
      let long : length (slice_range values (width p * at) (width p * (at + suc c))) ≡ width p * suc c =
      length-between values (width p * at) (width p * (at + suc c)) (omega arith) ∙ (omega arith) in
      let last = row c (omega arith) in
      let more = width-more p c in
      let before = (laid_out l).before p (first + (at + c)) (omega arith) in
      let fits : spot at + length (slice_range values (width p * at) (width p * (at + suc c))) ≤ len = omega arith in
      record {
        spares = (
          fits,
          (λ k out. elim (off-run c at k row (off k out)) [
            | inl below ↦ inl below
            | inr above ↦ inr (omega arith)
          ]),
          tt,
        );
        puts = (
          fits,
          (λ j less i there at_least most.
              get_or-between values (width p * at) (width p * (at + suc c)) j 0 (omega arith)
              ∙ ap (λ n. get_or values n 0) (same-index at c i j meet on there (omega arith) at_least most)),
          tt,
        );
        reached = λ k is.
            let here = row is.0 is.1 in
            let a = is.2.0 in
            let b = is.2.1 in
            let m = width-less p is.0 (suc c) is.1 in
            inl (omega arith, omega arith);
      }

  -- what is written from a chosen sector on, where neighbours meet and where they don't
  abbrev joined : (at : ℕ) (chosen : List Bool) (under : ℕ) → List DiskStep
  joined at chosen under = fill_writes l p values first (suc at) chosen (suc under)

  abbrev alone : (at : ℕ) (chosen : List Bool) (under : ℕ) → List DiskStep
  alone at chosen under = run_write l p values first at 1 ++ fill_writes l p values first (suc at) chosen under

  -- the run under way, and the chosen ones of the sectors to come
  abbrev ToFill : (at : ℕ) (chosen : List Bool) (under k : ℕ) → Type 0
  ToFill at chosen under k = InRun (at - under) under k ⊎ ((i : ℕ) × (get_or chosen i false ≡ true) × InPart k (at + i))

  fill-is : (P : ℕ → Type 0) (at : ℕ) (chosen : List Bool) (under : ℕ) → at + length chosen ≤ 32 →
      under ≤ at → (touches l.kind ≡ true) ⊎ (under ≡ 0)
      → ((k : ℕ) → P k → (i : ℕ) → i < under → OffPart k (at - under + i)) →
      ((k : ℕ) → P k → (i : ℕ) → get_or chosen i false ≡ true → OffPart k (at + i))
      → IsFill Right P (ToFill at chosen under) len (fill_writes l p values first at chosen under)
  fill-is P at [] under on few meet front back =
      IsFill-less Right P (InRun (at - under) under) (ToFill at [] under) len _ (λ k is. elim is [
        | inl run ↦ run
        | inr none ↦ (let e = none.1 in cc)
      ])
      (run-fill P (at - under) under (omega arith) (⊎_elim (λ m. inl m) (λ z. inr (omega arith)) meet) front)
  fill-is P at (false ∷ chosen) under on few meet front back =
      IsFill-less Right P (λ k. InRun (at - under) under k ⊎ ToFill (suc at) chosen 0 k)
      (ToFill at (false ∷ chosen) under) len _ (λ k is. elim is [
        | inl run ↦ inl run
        | inr later ↦ inr (inr (past k later.0 later.1 later.2))
      ])
      (IsFill-both Right P (InRun (at - under) under) (ToFill (suc at) chosen 0) len (run_write l p values first (at - under) under)
      (fill_writes l p values first (suc at) chosen 0)
      (run-fill P (at - under) under (omega arith) (⊎_elim (λ m. inl m) (λ z. inr (omega arith)) meet) front)
      (fill-is P (suc at) chosen 0 (omega arith) (omega arith) (inr refl) (λ k out i less. absurd (omega arith))
      (λ k out i is. let there : suc at + i ≡ at + suc i = omega arith in
      subst (λ (q : ℕ). OffPart k q) (sym there) (back k out (suc i) is))))
    where
      past : (k i : ℕ) → get_or (false ∷ chosen) i false ≡ true → InPart k (at + i) → (j : ℕ) × (get_or chosen j false ≡ true)
          × InPart k (suc at + j)
      past k zero is out = cc
      past k (suc i) is out = (i, is, (let there : at + suc i ≡ suc at + i = omega arith in subst (λ (q : ℕ). InPart k q) there out))
  fill-is P at (true ∷ chosen) under on few meet front back =
      by_touch (touches l.kind) refl (λ is. fill-is P (suc at) chosen (suc under) (omega arith) (omega arith) (inl is) longer later)
      (λ none. fill-is P (suc at) chosen under (omega arith) (omega arith) (inr none) (λ k out i less. absurd (omega arith)) later)
    where
      later : (k : ℕ) → P k → (i : ℕ) → get_or chosen i false ≡ true → OffPart k (suc at + i)
      later k out i is = let there : suc at + i ≡ at + suc i = omega arith in
          subst (λ (q : ℕ). OffPart k q) (sym there) (back k out (suc i) is)

      here : (k : ℕ) → P k → OffPart k at
      here k out = let there : at + 0 ≡ at = omega arith in subst (λ (q : ℕ). OffPart k q) there (back k out 0 refl)

      longer : (k : ℕ) → P k → (i : ℕ) → i < suc under → OffPart k (suc at - suc under + i)
      longer k out i less = ⊎_elim
          (λ in_front. let there : suc at - suc under + i ≡ at - under + i = omega arith in
          subst (λ (q : ℕ). OffPart k q) (sym there) (front k out i in_front))
          (λ last. let there : suc at - suc under + i ≡ at = omega arith in
          subst (λ (q : ℕ). OffPart k q) (sym there) (here k out))
          (cases_lt i under)

      in_joined : (k : ℕ) → ToFill at (true ∷ chosen) under k → ToFill (suc at) chosen (suc under) k
      in_joined k (inl run) =
          let there : at - under + run.0 ≡ suc at - suc under + run.0 = omega arith in
          let less = run.1 in
          inl (run.0, omega arith, subst (λ (q : ℕ). InPart k q) there run.2)
      in_joined k (inr some) = out some.0 some.1 some.2
        where
          out : (i : ℕ) → get_or (true ∷ chosen) i false ≡ true → InPart k (at + i) → ToFill (suc at) chosen (suc under) k
          out zero is within = inl (
            under,
            omega arith,
            (let there : at + 0 ≡ suc at - suc under + under = omega arith in subst (λ (q : ℕ). InPart k q) there within),
          )
          out (suc i) is within = inr (
            i,
            is,
            (let there : at + suc i ≡ suc at + i = omega arith in subst (λ (q : ℕ). InPart k q) there within),
          )

      in_alone : (k : ℕ) → under ≡ 0 → ToFill at (true ∷ chosen) under k → InRun at 1 k ⊎ ToFill (suc at) chosen under k
      in_alone k none (inl run) = let less = run.1 in absurd (omega arith)
      in_alone k none (inr some) = out some.0 some.1 some.2
        where
          out : (i : ℕ) → get_or (true ∷ chosen) i false ≡ true → InPart k (at + i) → InRun at 1 k
              ⊎ ToFill (suc at) chosen under k
          out zero is within = inl (0, omega arith, within)
          out (suc i) is within = inr (inr
              (i, is, (let there : at + suc i ≡ suc at + i = omega arith in subst (λ (q : ℕ). InPart k q) there within)))

      apart : touches l.kind ≡ false → (touches l.kind ≡ true) ⊎ (under ≡ 0) → under ≡ 0
      apart not (inl is) = cc
      apart not (inr none) = none

      by_touch : (t : Bool) → touches l.kind ≡ t →
          (touches l.kind ≡ true → IsFill Right P (ToFill (suc at) chosen (suc under)) len (joined at chosen under)) →
          (under ≡ 0 → IsFill Right P (ToFill (suc at) chosen under) len (fill_writes l p values first (suc at) chosen under))
          → IsFill Right P (ToFill at (true ∷ chosen) under) len
          (if touches l.kind then joined at chosen under else alone at chosen under)
      by_touch true is in_row alone_on =
          let C : Bool → Type 0 = λ t. IsFill Right P (ToFill at (true ∷ chosen) under) len
          (if t then joined at chosen under else alone at chosen under) in
          subst C (sym is) (IsFill-less Right P (ToFill (suc at) chosen (suc under)) (ToFill at (true ∷ chosen) under) len
          (joined at chosen under) in_joined (in_row is))
      by_touch false is in_row alone_on =
          let C : Bool → Type 0 = λ t. IsFill Right P (ToFill at (true ∷ chosen) under) len
          (if t then joined at chosen under else alone at chosen under) in
          let none = apart is meet in
          subst C (sym is)
          (IsFill-less Right P (λ k. InRun at 1 k ⊎ ToFill (suc at) chosen under k) (ToFill at (true ∷ chosen) under) len
          (alone at chosen under) (λ k. in_alone k none)
          (IsFill-both Right P (InRun at 1) (ToFill (suc at) chosen under) len (run_write l p values first at 1)
          (fill_writes l p values first (suc at) chosen under)
          (run-fill P at 1 (omega arith) (inr (omega arith))
          (λ k out i less. let there : at + i ≡ at = omega arith in subst (λ (q : ℕ). OffPart k q) (sym there) (here k out)))
          (alone_on none)))

  module _ (chosen : List Bool) (few : length chosen ≤ 32) where
    whole-fill : IsFill Right (OffChosen l p first chosen) (ToFill 0 chosen 0) len (fill_writes l p values first 0 chosen 0)
    whole-fill = fill-is (OffChosen l p first chosen) 0 chosen 0 (omega arith) (omega arith) (inr refl)
        (λ k out i less. absurd (omega arith))
        (λ k out i is. let there : i ≡ 0 + i = omega arith in subst (λ (q : ℕ). OffPart k q) there (out i is))

    pub fill-spares : Spares (OffChosen l p first chosen) len (fill_writes l p values first 0 chosen 0)
    fill-spares = let f = whole-fill in f.spares

    pub fill-kept : (bytes : List ℕ) → length bytes ≡ len → SameAt (OffChosen l p first chosen) bytes
        (after_steps (fill_writes l p values first 0 chosen 0) bytes)
    fill-kept bytes is =
        spared (OffChosen l p first chosen) (fill_writes l p values first 0 chosen 0) bytes bytes
        (subst (λ (n : ℕ). Spares (OffChosen l p first chosen) n (fill_writes l p values first 0 chosen 0)) (sym is) fill-spares)
        (SameAt-all _ bytes)

    pub fill-value : (bytes : List ℕ) → length bytes ≡ len → (i : ℕ) → i < 32 → get_or chosen i false ≡ true → (k : ℕ) →
        place l p (first + i) ≤ k → k < place l p (first + i) + width p
        → get_or (after_steps (fill_writes l p values first 0 chosen 0) bytes) k 0 ≡ get_or values
        (width p * i + (k - place l p (first + i))) 0
    fill-value bytes is i inside chosen_is k at_least less =
        let f = whole-fill in
        has-put Right k (fill_writes l p values first 0 chosen 0) bytes
        (subst (λ (n : ℕ). Puts Right n (fill_writes l p values first 0 chosen 0)) (sym is) f.puts)
        (inr (f.reached k (inr (
          i,
          chosen_is,
          (let there : i ≡ 0 + i = omega arith in subst (λ (q : ℕ). InPart k q) there
              (at_least, less)),
        ))))
        i inside at_least less

    pub fill-crash : (bytes left : List ℕ) → length bytes ≡ len → Crashed (λ b. b ≡ bytes) bytes (fill l p values first chosen) left →
        SameAt (OffChosen l p first chosen) bytes left
    fill-crash bytes left is crashed =
        spared-crash (OffChosen l p first chosen) (fill l p values first chosen) bytes bytes left (λ b. b ≡ bytes)
        (subst (λ (n : ℕ). Spares (OffChosen l p first chosen) n (fill l p values first chosen)) (sym is)
        (Spares-synced (OffChosen l p first chosen) len (fill_writes l p values first 0 chosen 0) fill-spares))
        (SameAt-all _ bytes) (λ b same. let Q : List ℕ → Type 0 = λ c. SameAt (OffChosen l p first chosen) bytes c in
        subst Q (sym same) (SameAt-all _ bytes)) crashed

-- the same value for each byte
pub length-even : (p : Part) (value : ℕ) → length (even p value) ≡ width p * 32
unfolding even
length-even p value = length-replicate {A = ℕ} (width p * 32) value

pub get_or-even : (p : Part) (value k : ℕ) → k < width p * 32 → get_or (even p value) k 0 ≡ value
unfolding even
get_or-even p value k less = get_or-replicate {A = ℕ} (width p * 32) k value 0 less
