-- The loops that write the chosen parts, run by run, and the cells of a segment.
use Rattle.std.proofs.Common.{◌≡◌, ℕ, zero, suc, ◌+◌, ◌-◌, ◌*◌, ◌<◌, ◌≤◌, ◌⊎◌, Bool, true, false, List, [], ◌∷◌, ◌++◌, length, get_or, drop}
use Rattle.std.proofs.Common.{append_assoc, refl, sym, ◌∙◌, ap, arith, subst, inl, inr, Result, Ok, Err}
use Rattle.std.proofs.lemmas.List.{drop_more, drop_all}
use Rattle.std.specs.List.{list_any}
use Rattle.std.specs.Prelude.{if◌then◌else◌, slice_range}
use Rattle.qic_base.specs.Disk.{Meaning, DiskStep, WriteAt, Sync, Stored, Failed, Stores}
use Rattle.cart_image.specs.declared.layout.Kind.{Kind}
use Rattle.cart_image.specs.declared.layout.Kind.TheVariants.{Planes, Cells, CellsBehind}
use Rattle.cart_image.specs.declared.layout.Layout.{Layout}
use Rattle.cart_image.specs.declared.layout.Part.{Part}
use Rattle.cart_image.specs.Layout.{width, place, touches, run_write, step_writes, step_under, fill_writes, fill, synced}
use Rattle.cart_image.specs.Run.{Ran, Halted, Runs}
use Rattle.cart_image.proofs.Exits.{Runs-after}
use Rattle.cart_image.proofs.Runs.{Ran-Ran, Ran-Halted, Halted-front}

-- the runs so far, done, and those to come are all runs
pub record Goes {D : Type 0} (m : Meaning D) (old now : D) (l : Layout) (p : Part) (values : List ℕ) (first : ℕ) (chosen : List Bool)
    (i under : ℕ) : Type 0 where
  pub few : under ≤ i
  pub meet : (touches l.kind ≡ true) ⊎ (under ≡ 0)
  pub done : List DiskStep
  pub ran : Ran m old now done
  pub rest : done ++ fill_writes l p values first i (drop i chosen) under ≡ fill_writes l p values first 0 chosen 0

step-is : (l : Layout) (p : Part) (values : List ℕ) (first at : ℕ) (c : Bool) (cs : List Bool) (under : ℕ) →
    fill_writes l p values first at (c ∷ cs) under ≡ step_writes l p values first at c under ++ fill_writes l p values first (suc at) cs
    (step_under l.kind c under)
step-is l p values first at false cs under = refl
step-is l p values first at true cs under = by_touch (touches l.kind)
  where
    by_touch : (t : Bool) → (if t then fill_writes l p values first (suc at) cs (suc under) else run_write l p values first at 1
        ++ fill_writes l p values first (suc at) cs under)
        ≡ (if t then [] else run_write l p values first at 1) ++ fill_writes l p values first (suc at) cs (if t then suc under else under)
    by_touch true = refl
    by_touch false = refl

step-few : (k : Kind) (c : Bool) (under i : ℕ) → under ≤ i → step_under k c under ≤ i + 1
step-few Planes true under i few = omega arith
step-few Cells true under i few = omega arith
step-few CellsBehind true under i few = omega arith
step-few k false under i few = omega arith

step-meet : (k : Kind) (c : Bool) (under : ℕ) → (touches k ≡ true) ⊎ (under ≡ 0) → (touches k ≡ true) ⊎ (step_under k c under ≡ 0)
step-meet Planes true under meet = inl refl
step-meet Cells true under meet = meet
step-meet CellsBehind true under meet = meet
step-meet k false under meet = inr refl

module _ {D : Type 0} (m : Meaning D) (old now : D) (l : Layout) (p : Part) (values : List ℕ) (first : ℕ) (chosen : List Bool) (i under : ℕ)
    (goes : Goes m old now l p values first chosen i under) where
  module _ (c : Bool) (less : i < length chosen) (is : get_or chosen i false ≡ c) where
    gone : (goes.done ++ step_writes l p values first i c under) ++ fill_writes l p values first (i + 1) (drop (i + 1) chosen)
        (step_under l.kind c under) ≡ fill_writes l p values first 0 chosen 0
    gone =
        append_assoc goes.done (step_writes l p values first i c under)
        (fill_writes l p values first (i + 1) (drop (i + 1) chosen) (step_under l.kind c under))
        ∙ ap (λ rest. goes.done ++ rest)
        ((let e : i + 1 ≡ suc i = omega arith in
        ap (λ q. step_writes l p values first i c under ++ fill_writes l p values first q (drop (i + 1) chosen) (step_under l.kind c under))
        e)
        ∙ sym (step-is l p values first i c (drop (i + 1) chosen) under)
        ∙ sym (ap (λ cs. fill_writes l p values first i cs under)
        (drop_more chosen i false less ∙ ap (λ b. b ∷ drop (i + 1) chosen) is)))
        ∙ goes.rest

    -- one more sector
    pub goes-on : (next : D) (u : ℕ) → u ≡ step_under l.kind c under → Ran m now next (step_writes l p values first i c under) →
        Goes m old next l p values first chosen (i + 1) u
    goes-on next u u-is ran = subst (λ (v : ℕ). Goes m old next l p values first chosen (i + 1) v) (sym u-is) (record {
      few = step-few l.kind c under i goes.few;
      meet = step-meet l.kind c under goes.meet;
      done = goes.done ++ step_writes l p values first i c under;
      ran = Ran-Ran m old now next goes.done (step_writes l p values first i c under) goes.ran ran;
      rest = gone;
    })

    -- its write failed
    pub goes-halted : (next : D) → Halted m now next (step_writes l p values first i c under) →
        Halted m old next (fill_writes l p values first 0 chosen 0)
    goes-halted next halted =
        let P : List DiskStep → Type 0 = λ ss. Halted m old next ss in
        subst P gone
        (Halted-front m old next (goes.done ++ step_writes l p values first i c under)
        (fill_writes l p values first (i + 1) (drop (i + 1) chosen) (step_under l.kind c under))
        (Ran-Halted m old now next goes.done (step_writes l p values first i c under) goes.ran halted))

  -- the last run
  pub goes-last : {T E : Type 0} (next : D) (r : Result T E) → length chosen ≤ i →
      Runs m now next (run_write l p values first (i - under) under) r → Runs m old next (fill_writes l p values first 0 chosen 0) r
  goes-last next r past runs =
      let P : List DiskStep → Type 0 = λ ss. Runs m old next ss r in
      subst P
      (ap (λ cs. goes.done ++ fill_writes l p values first i cs under) (sym (drop_all i chosen past)) ∙ goes.rest)
      (Runs-after m old now next goes.done (run_write l p values first (i - under) under) r goes.ran runs)

-- none chosen: nothing is written
no-writes : (l : Layout) (p : Part) (values : List ℕ) (first at : ℕ) (chosen : List Bool) → list_any (λ c. c) chosen ≡ false →
    fill_writes l p values first at chosen 0 ≡ []
no-writes l p values first at [] none = refl
no-writes l p values first at (true ∷ chosen) none = cc
no-writes l p values first at (false ∷ chosen) none = no-writes l p values first (suc at) chosen none

pub none-chosen : (l : Layout) (p : Part) (values : List ℕ) (first : ℕ) (chosen : List Bool) → list_any (λ c. c) chosen ≡ false →
    fill l p values first chosen ≡ []
none-chosen l p values first chosen none = ap synced (no-writes l p values first 0 chosen none)

-- some chosen: the writes and a sync
synced-some : (writes : List DiskStep) → 0 < length writes → synced writes ≡ writes ++ Sync ∷ []
synced-some [] some = absurd (omega arith)
synced-some (w ∷ ws) some = refl

by-touch : (t : Bool) (xs ys : List DiskStep) (write : DiskStep) → 0 < length xs → 0 < length (if t then xs else (write ∷ ys))
by-touch true xs ys write some = some
by-touch false xs ys write some = omega arith

run-under : (l : Layout) (p : Part) (values : List ℕ) (first at : ℕ) (chosen : List Bool) (under : ℕ) →
    0 < length (fill_writes l p values first at chosen (suc under))
run-under l p values first at [] under = omega arith
run-under l p values first at (false ∷ chosen) under = omega arith
run-under l p values first at (true ∷ chosen) under =
    by-touch (touches l.kind) (fill_writes l p values first (suc at) chosen (suc (suc under)))
    (fill_writes l p values first (suc at) chosen (suc under)) _ (run-under l p values first (suc at) chosen (suc under))

some-writes : (l : Layout) (p : Part) (values : List ℕ) (first at : ℕ) (chosen : List Bool) → list_any (λ c. c) chosen ≡ true →
    0 < length (fill_writes l p values first at chosen 0)
some-writes l p values first at [] some = cc
some-writes l p values first at (false ∷ chosen) some = some-writes l p values first (suc at) chosen some
some-writes l p values first at (true ∷ chosen) some =
    by-touch (touches l.kind) (fill_writes l p values first (suc at) chosen 1) (fill_writes l p values first (suc at) chosen 0) _
    (run-under l p values first (suc at) chosen 0)

pub some-chosen : (l : Layout) (p : Part) (values : List ℕ) (first : ℕ) (chosen : List Bool) → list_any (λ c. c) chosen ≡ true →
    fill l p values first chosen ≡ fill_writes l p values first 0 chosen 0 ++ Sync ∷ []
some-chosen l p values first chosen some =
    synced-some (fill_writes l p values first 0 chosen 0) (some-writes l p values first 0 chosen some)

-- writes, and then a sync
pub then-sync : {D T E : Type 0} (m : Meaning D) (a b c : D) (writes steps : List DiskStep) (r : Result T E) → steps ≡ writes ++ Sync ∷ [] →
    Ran m a b writes → Runs m b c (Sync ∷ []) r → Runs m a c steps r
then-sync m a b c writes steps r is ran runs =
    let P : List DiskStep → Type 0 = λ ss. Runs m a c ss r in
    subst P (sym is) (Runs-after m a b c writes (Sync ∷ []) r ran runs)

pub halted-sync : {D : Type 0} (m : Meaning D) (a b : D) (writes steps : List DiskStep) → steps ≡ writes ++ Sync ∷ [] →
    Halted m a b writes → Halted m a b steps
halted-sync m a b writes steps is halted =
    let P : List DiskStep → Type 0 = λ ss. Halted m a b ss in
    subst P (sym is) (Halted-front m a b writes (Sync ∷ []) halted)

pub run-part : (w : ℕ) (p : Part) (at count : ℕ) (values : List ℕ) → w ≡ width p →
    slice_range values (w * at) (w * (at + count)) ≡ slice_range values (width p * at) (width p * (at + count))
run-part w p at count values is = ap (λ n. slice_range values (n * at) (n * (at + count))) is

pub run-written : {D : Type 0} (m : Meaning D) (a b : D) (l : Layout) (p : Part) (values : List ℕ) (first at count here : ℕ) (part : List ℕ)
    → 0 < count → here ≡ place l p (first + at) → part ≡ slice_range values (width p * at) (width p * (at + count)) →
    Stored m a b (WriteAt here part) → Ran m a b (run_write l p values first at count)
run-written m a b l p values first at zero here part some there is s = absurd (omega arith)
run-written m a b l p values first at (suc count) here part some there is s =
    (b, subst (λ q. Stored m a b (WriteAt (place l p (first + at)) q)) is (subst (λ (q : ℕ). Stored m a b (WriteAt q part)) there s), refl)

pub run-failed : {D : Type 0} (m : Meaning D) (a b : D) (l : Layout) (p : Part) (values : List ℕ) (first at count here : ℕ) (part : List ℕ)
    → 0 < count → here ≡ place l p (first + at) → part ≡ slice_range values (width p * at) (width p * (at + count)) →
    Failed m a b (WriteAt here part) → Halted m a b (run_write l p values first at count)
run-failed m a b l p values first at zero here part some there is s = absurd (omega arith)
run-failed m a b l p values first at (suc count) here part some there is s =
    inl (subst (λ q. Failed m a b (WriteAt (place l p (first + at)) q)) is (subst (λ (q : ℕ). Failed m a b (WriteAt q part)) there s))

pub sync-runs : {D T E : Type 0} (m : Meaning D) (a b : D) (r : Result T E) → Stores m a b Sync r → Runs m a b (Sync ∷ []) r
sync-runs m a b (Ok x) s = (b, s, refl)
sync-runs m a b (Err e) f = inl f

pub none-ran : {D : Type 0} (m : Meaning D) (d : D) (steps : List DiskStep) → steps ≡ [] → Ran m d d steps
none-ran m d steps none =
    let P : List DiskStep → Type 0 = λ ss. Ran m d d ss in
    subst P (sym none) refl

pub goes-end : {D : Type 0} (m : Meaning D) (old now : D) (l : Layout) (p : Part) (values : List ℕ) (first : ℕ) (chosen : List Bool)
    (i end under : ℕ) → i ≡ end → Goes m old now l p values first chosen i under → Goes m old now l p values first chosen end under
goes-end m old now l p values first chosen i end under same goes =
    subst (λ (k : ℕ). Goes m old now l p values first chosen k under) same goes

-- the same steps, written in another way

pub halted-is : {D : Type 0} (m : Meaning D) (a b : D) (xs ys : List DiskStep) → xs ≡ ys → Halted m a b xs → Halted m a b ys
halted-is m a b xs ys is halted = let P : List DiskStep → Type 0 = λ ss. Halted m a b ss in subst P is halted

pub ran-is : {D : Type 0} (m : Meaning D) (a b : D) (xs ys : List DiskStep) → xs ≡ ys → Ran m a b xs → Ran m a b ys
ran-is m a b xs ys is ran = let P : List DiskStep → Type 0 = λ ss. Ran m a b ss in subst P is ran
