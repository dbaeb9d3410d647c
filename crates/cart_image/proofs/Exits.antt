-- What a function on the disk did, at each of its exits.
use Rattle.std.proofs.Common.{◌≡◌, ℕ, inl, inr, List, [], ◌++◌, refl, sym, ◌∙◌, ap, Option, Some, None, IfSome, subst, Result, Ok, Err}
use Rattle.cart_image.specs.declared.layout.Layout.{Layout}
use Rattle.std.specs.Prelude.{OnOk}
use Rattle.qic_base.specs.Disk.{Meaning, DiskStep, Look, Failed}
use Rattle.cart_image.specs.Run.{Looks, Looked, Ran, Halted, Runs, Went, Carried, CarriedBy}
use Rattle.cart_image.proofs.Runs.{Looks-Looks, Ran-Ran, Ran-Halted, Ran-changes}

pub told-fact : {X : Type 0} (told : Option X) (P : X → Type 0) (x : X) → told ≡ Some x → IfSome told P → P x
told-fact {X = X} told P x is fact =
    let Q : Option X → Type 0 = λ o. IfSome o P in
    subst Q is fact

-- the exit of a `?`

pub Runs-err : {D T E : Type 0} (m : Meaning D) (a b : D) (steps : List DiskStep) (r : Result T E) (e : E) → r ≡ Err e →
    Halted m a b steps → Runs m a b steps r
Runs-err m a b steps (Ok x) e is halted = cc
Runs-err m a b steps (Err f) e is halted = halted

-- a last call, after others
pub Runs-after : {D T E : Type 0} (m : Meaning D) (a b c : D) (xs ys : List DiskStep) (r : Result T E) → Ran m a b xs → Runs m b c ys r →
    Runs m a c (xs ++ ys) r
Runs-after m a b c xs ys (Ok x) ran runs = Ran-Ran m a b c xs ys ran runs
Runs-after m a b c xs ys (Err e) ran runs = Ran-Halted m a b c xs ys ran runs

-- looks, one after the other
pub Looked-after : {D T E : Type 0} (m : Meaning D) (a b c : D) (r : Result T E) → Looks m a b → Looked m b c r → Looked m a c r
Looked-after m a b c (Ok x) first next = Looks-Looks first next
Looked-after m a b c (Err e) first next = (next.0, Looks-Looks first next.1, next.2)

-- the steps of a plan, where the disk tells its bytes
plan_of : (List ℕ → List DiskStep) → Option (List ℕ) → List DiskStep
plan_of plan None = []
plan_of plan (Some bytes) = plan bytes

plan_of-told : (plan : List ℕ → List DiskStep) (told : Option (List ℕ)) (bytes : List ℕ) → told ≡ Some bytes →
    plan_of plan told ≡ plan bytes
unfolding plan_of
plan_of-told plan told bytes is = ap (plan_of plan) is

-- a look failed
pub Carried-failed : {D T E : Type 0} (m : Meaning D) (old mid new : D) (plan : List ℕ → List DiskStep) (r : Result T E) (e : E) →
    r ≡ Err e → Looks m old mid → Failed m mid new Look → Carried m old new plan r
Carried-failed m old mid new plan (Ok x) e is looks failed = cc
Carried-failed m old mid new plan (Err f) e is looks failed =
    record { steps = plan_of plan (m.told old); planned = plan_of-told plan (m.told old); went = (mid, looks, inl failed) }

-- looks, and then a run that failed
pub Carried-halted : {D T E : Type 0} (m : Meaning D) (old mid new : D) (plan : List ℕ → List DiskStep) (steps : List DiskStep)
    (r : Result T E) (e : E) → r ≡ Err e → Looks m old mid → Halted m mid new steps
    → ((bytes : List ℕ) → m.told old ≡ Some bytes → steps ≡ plan bytes) → Carried m old new plan r
Carried-halted m old mid new plan steps (Ok x) e is looks halted planned = cc
Carried-halted m old mid new plan steps (Err f) e is looks halted planned =
    record { steps = steps; planned = planned; went = (mid, looks, inr halted) }

-- looks, and then a run
pub Carried-runs : {D T E : Type 0} (m : Meaning D) (old mid new : D) (plan : List ℕ → List DiskStep) (steps : List DiskStep)
    (r : Result T E) → Looks m old mid → Runs m mid new steps r
    → ((bytes : List ℕ) → m.told old ≡ Some bytes → steps ≡ plan bytes) → Carried m old new plan r
Carried-runs m old mid new plan steps (Ok x) looks runs planned = record { steps = steps; planned = planned; went = (mid, looks, runs) }
Carried-runs m old mid new plan steps (Err e) looks runs planned =
    record { steps = steps; planned = planned; went = (mid, looks, inr runs) }

-- nothing but looks
pub Carried-looked : {D T E : Type 0} (m : Meaning D) (old new : D) (r : Result T E) → Looked m old new r →
    Carried m old new (λ bytes. []) r
Carried-looked m old new (Ok x) looks = record { steps = []; planned = λ bytes told. refl; went = (new, looks, refl) }
Carried-looked m old new (Err e) looked = record { steps = []; planned = λ bytes told. refl; went = (looked.0, looked.1, inl looked.2) }

pub planned-by : {X : Type 0} (told : Option (List ℕ)) (s : X) (F : List ℕ → X) (plan : List ℕ → List DiskStep) (steps : List DiskStep) →
    IfSome told (λ bytes. s ≡ F bytes) → ((bytes : List ℕ) → s ≡ F bytes → steps ≡ plan bytes)
    → (bytes : List ℕ) → told ≡ Some bytes → steps ≡ plan bytes
planned-by told s F plan steps fact follows bytes is = follows bytes (told-fact told (λ b. s ≡ F b) bytes is fact)

pub Looked-err : {D T E : Type 0} (m : Meaning D) (a b c : D) (r : Result T E) (e : E) → r ≡ Err e → Looks m a b →
    ((mid : D) × Looks m b mid × Failed m mid c Look) → Looked m a c r
Looked-err m a b c (Ok x) e is first next = cc
Looked-err m a b c (Err f) e is first next = (next.0, Looks-Looks first next.1, next.2)

-- after looks
pub Carried-after : {D T E : Type 0} (m : Meaning D) (old mid new : D) (plan : List ℕ → List DiskStep) (r : Result T E) → Looks m old mid →
    Carried m mid new plan r → Carried m old new plan r
Carried-after {D = D} {T = T} {E = E} m old mid new plan r looks carried = record {
  steps = carried.steps;
  planned = λ bytes told. carried.planned bytes (looks.told ∙ told);
  went = by_result r carried.went;
}
  where
    by_result : (r : Result T E) → Went m mid new carried.steps r → Went m old new carried.steps r
    by_result (Ok x) went = (went.0, Looks-Looks looks went.1, went.2)
    by_result (Err e) went = (went.0, Looks-Looks looks went.1, went.2)

-- a look failed, whatever the plan
pub CarriedBy-failed : {D E : Type 0} (T : Type 0) (m : Meaning D) (old new : D) (layout : Option Layout)
    (plan : Layout → List ℕ → List DiskStep) (e : E) → ((mid : D) × Looks m old mid × Failed m mid new Look) →
    CarriedBy {T = T} {E = E} m old new layout plan (Err e)
CarriedBy-failed T m old new None plan e looked = tt
CarriedBy-failed T m old new (Some l) plan e looked = Carried-failed m old looked.0 new (plan l) (Err e) e refl looked.1 looked.2

-- .. where the plan is by this layout
pub CarriedBy-layout : {D T E : Type 0} (m : Meaning D) (old new : D) (layout : Option Layout) (l : Layout)
    (plan : Layout → List ℕ → List DiskStep) (r : Result T E) → layout ≡ Some l → Carried m old new (plan l) r →
    CarriedBy m old new layout plan r
CarriedBy-layout m old new layout l plan r is carried =
    let P : Option Layout → Type 0 = λ o. CarriedBy m old new o plan r in
    subst P (sym is) carried

-- what was carried out left the count of failed changes as it was
pub changes-stood : {D T E : Type 0} (m : Meaning D) (old new : D) (plan : List ℕ → List DiskStep) (r : Result T E) →
    Carried m old new plan r → OnOk r (m.failed_changes new ≡ m.failed_changes old)
changes-stood m old new plan (Ok x) carried = Ran-changes m carried.went.0 new carried.steps carried.went.2 ∙ carried.went.1.changes
changes-stood m old new plan (Err e) carried = tt
