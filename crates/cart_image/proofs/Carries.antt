-- From what a call does to the disk to what it does to the cartridge that the disk's bytes are read as.
use Rattle.std.proofs.Common.{◌≡◌, ℕ, ◌≤◌, ◌⊎◌, inl, inr, List, refl, sym, ◌∙◌, ap, arith, Option, Some, None, is_some, subst, Result, Ok}
use Rattle.std.proofs.Common.{Err}
use Rattle.std.specs.Option.{option_map}
use Rattle.qic_base.specs.Cartridge.{Cartridge}
use Rattle.qic_base.specs.Step.{Step, effects, Torn}
use Rattle.qic_base.specs.Tape.{Meaning as TapeMeaning, Stops}
use Rattle.qic_base.specs.Disk.{Meaning, DiskStep, Look, IsSettled, Failed}
use Rattle.cart_image.specs.Image.{cartridge_of}
use Rattle.cart_image.specs.Run.{Looks, Ran, Halted, Carried, after_steps, Crashed}
use Rattle.cart_image.specs.Tape.{disk_means}
use Rattle.cart_image.proofs.Runs.{Passes, Passes-Passes, Looks-Passes, Failed-Passes, Ran-Passes, Halted-Passes, Ran-told, Ran-since}
use Rattle.cart_image.proofs.Runs.{Halted-since, Halted-told}
use Rattle.qic_base.proofs.Steps.{Torn-nothing}

some_bytes : (told : Option (List ℕ)) (held : Option Cartridge) → option_map cartridge_of told ≡ Some held → (bytes : List ℕ)
    × (told ≡ Some bytes) × (cartridge_of bytes ≡ held)
some_bytes None held is = cc
some_bytes (Some bytes) held is = (bytes, refl, (let e : Some (cartridge_of bytes) ≡ Some held = is in cc))

-- What came of a call, apart from the counts of faults. All of its steps were done, ..
pub record Finished {S : Type 0} (m : TapeMeaning S) (old new : S) (steps : List Step) : Type 0 where
  pub told : m.told new ≡ option_map (effects steps) (m.told old)
  pub stops : Stops m old new steps

-- .. or they were broken off, ..
pub record CutShort {S : Type 0} (m : TapeMeaning S) (old new : S) (steps : List Step) : Type 0 where
  pub tells : is_some (m.told new) ≡ is_some (m.told old)
  pub torn : (held left : Option Cartridge) → m.told old ≡ Some held → m.told new ≡ Some left → Torn steps held left
  pub stops : Stops m old new steps

-- .. by its answer.
abbrev pub Outcome : {S T E : Type 0} (m : TapeMeaning S) (old new : S) (steps : List Step) (result : Result T E) → Type 0
Outcome m old new steps (Ok x) = Finished m old new steps
Outcome m old new steps (Err e) = CutShort m old new steps

-- What a run makes of the cartridge: at the end the effect of these steps, and in a crash what a stop in them leaves.
pub record Means (run : List DiskStep) (steps : List Step) (bytes : List ℕ) : Type 0 where
  pub done : cartridge_of (after_steps run bytes) ≡ effects steps (cartridge_of bytes)
  pub torn : (left : List ℕ) → Crashed (λ b. b ≡ bytes) bytes run left → Torn steps (cartridge_of bytes) (cartridge_of left)

is_some-both : (a b : Option (List ℕ)) → is_some a ≡ is_some b → is_some (option_map cartridge_of a) ≡ is_some (option_map cartridge_of b)
is_some-both None None same = refl
is_some-both None (Some b) same = cc
is_some-both (Some a) None same = cc
is_some-both (Some a) (Some b) same = refl

module _ (steps : List Step) where
  -- each crash since then left what a stop in the call leaves
  abbrev LeavesTorn : {D : Type 0} (m : Meaning D) (old new : D) → Type 0
  LeavesTorn m old new = (bytes left : List ℕ) (t : ℕ) → m.told old ≡ Some bytes → t ≤ m.moment old → m.left_since new t left →
      m.left_since old t left ⊎ Torn steps (cartridge_of bytes) (cartridge_of left)

  Stops-carried : {D : Type 0} {m : Meaning D} {old new : D} → Passes m old new → LeavesTorn m old new → Stops (disk_means m) old new steps
  Stops-carried {m = m} {old = old} {new = new} passes each = record {
    telling = passes.telling;
    clock = passes.clock;
    kept = λ t left early was. (was.0, passes.kept t was.0 early was.1, was.2);
    parted = λ t u left order early is.
        elim (passes.parted t u is.0 order early is.1) [
          | inl was ↦ inl (is.0, was, is.2)
          | inr later ↦ inr (is.0, later, is.2)
        ];
    since = λ t held left told early is.
        let b = some_bytes (m.told old) held told in
        elim (each b.0 is.0 t b.1 early is.1) [
          | inl was ↦ inl (is.0, was, is.2)
          | inr stopped ↦ inr (
              let P : Option Cartridge → Type 0 = λ h. Torn steps h left in
              let Q : Option Cartridge → Type 0 = λ l. Torn steps (cartridge_of b.0) l in
              subst P b.2 (subst Q (sym is.2) stopped))
        ];
  }

  -- a crash in the looks at a settled disk leaves what was there
  Looks-torn : {D : Type 0} {m : Meaning D} {old : D} (bytes left : List ℕ) → IsSettled m old → m.told old ≡ Some bytes →
      m.may_leave old left → Torn steps (cartridge_of bytes) (cartridge_of left)
  Looks-torn bytes left settled told is =
      let same : left ≡ bytes = settled.only bytes left told is in
      let Q : List ℕ → Type 0 = λ l. Torn steps (cartridge_of bytes) (cartridge_of l) in
      subst Q (sym same) (Torn-nothing steps (cartridge_of bytes))

  ends : (bytes after : List ℕ) (held left : Option Cartridge) → cartridge_of bytes ≡ held → cartridge_of after ≡ left →
      Torn steps (cartridge_of bytes) (cartridge_of after) → Torn steps held left
  ends bytes after held left reads now is =
      let P : Option Cartridge → Type 0 = λ h. Torn steps h left in
      let Q : Option Cartridge → Type 0 = λ l. Torn steps (cartridge_of bytes) l in
      subst P reads (subst Q now is)

  told_by : (was now : Option (List ℕ)) → is_some now ≡ is_some was
      → ((bytes : List ℕ) → was ≡ Some bytes →
      (left : List ℕ) × (now ≡ Some left) × (cartridge_of left ≡ effects steps (cartridge_of bytes)))
      → option_map cartridge_of now ≡ option_map (effects steps) (option_map cartridge_of was)
  told_by None None same told = refl
  told_by None (Some left) same told = cc
  told_by (Some bytes) now same told = let w = told bytes refl in rw w.1 (ap Some w.2)

  -- the calls went on from the looks
  module _ {D : Type 0} (m : Meaning D) (old : D) (settled : IsSettled m old) where
    may_only : (bytes : List ℕ) → m.told old ≡ Some bytes → (mid : D) → Looks m old mid → (left : List ℕ) → m.may_leave mid left →
        left ≡ bytes
    may_only bytes told mid looks left is = settled.only bytes left told (looks.leaves left is)

    looked_since : (mid : D) → Looks m old mid → LeavesTorn m old mid
    looked_since mid looks bytes left t told early is = elim (looks.since t left early is) [
      | inl was ↦ inl was
      | inr now ↦ inr (Looks-torn bytes left settled told now)
    ]

    then_since : (mid new : D) (Inner : List ℕ → List ℕ → Type 0) → Looks m old mid
        → ((bytes left : List ℕ) → m.told old ≡ Some bytes → Inner bytes left → Torn steps (cartridge_of bytes) (cartridge_of left))
        → ((bytes left : List ℕ) (t : ℕ) → m.told old ≡ Some bytes → t ≤ m.moment mid → m.left_since new t left → m.left_since mid t left
        ⊎ Inner bytes left)
        → LeavesTorn m old new
    then_since mid new Inner looks each inner bytes left t told early is =
        elim (inner bytes left t told (let e = looks.clock in omega arith) is) [
          | inl was ↦ looked_since mid looks bytes left t told early was
          | inr crashed ↦ inr (each bytes left told crashed)
        ]

    Ran-finished : (mid new : D) (ran : List DiskStep) (plan : List ℕ → List DiskStep) → Looks m old mid → Ran m mid new ran
        → ((bytes : List ℕ) → m.told old ≡ Some bytes → ran ≡ plan bytes)
        → ((bytes : List ℕ) → m.told old ≡ Some bytes → Means (plan bytes) steps bytes)
        → Finished (disk_means m) old new steps
    Ran-finished mid new ran plan looks runs planned means =
        let passes : Passes m old new = Passes-Passes (Looks-Passes looks) (Ran-Passes m mid new ran runs) in
        record {
          told = told_by (m.told old) (m.told new) passes.tells (λ bytes told. (
            after_steps (plan bytes) bytes,
            Ran-told m mid new ran bytes (looks.told ∙ told) runs ∙ ap (λ ss. Some (after_steps ss bytes)) (planned bytes told),
            (means bytes told).done,
          ));
          stops = Stops-carried passes (then_since mid new (λ bytes left. Crashed (λ b. b ≡ bytes) bytes ran left) looks
              (λ bytes left told crashed. (means bytes told).torn left
              (let P : List DiskStep → Type 0 = λ ss. Crashed (λ b. b ≡ bytes) bytes ss left in subst P (planned bytes told) crashed))
              (λ bytes left t told early is. Ran-since m mid new ran bytes (λ b. b ≡ bytes) (looks.told ∙ told)
              (may_only bytes told mid looks) runs t left early is));
        }

    Halted-cut : (mid new : D) (ran : List DiskStep) (plan : List ℕ → List DiskStep) → Looks m old mid → Halted m mid new ran
        → ((bytes : List ℕ) → m.told old ≡ Some bytes → ran ≡ plan bytes)
        → ((bytes : List ℕ) → m.told old ≡ Some bytes → Means (plan bytes) steps bytes)
        → CutShort (disk_means m) old new steps
    Halted-cut mid new ran plan looks halted planned means =
        let passes : Passes m old new = Passes-Passes (Looks-Passes looks) (Halted-Passes m mid new ran halted) in
        let at_plan : (bytes left : List ℕ) → m.told old ≡ Some bytes → Crashed (λ b. b ≡ bytes) bytes ran left →
        Torn steps (cartridge_of bytes) (cartridge_of left) =
        λ bytes left told crashed. (means bytes told).torn left
        (let P : List DiskStep → Type 0 = λ ss. Crashed (λ b. b ≡ bytes) bytes ss left in subst P (planned bytes told) crashed) in
        record {
          tells = is_some-both (m.told new) (m.told old) passes.tells;
          torn = λ held left before after.
              let was = some_bytes (m.told old) held before in
              let now = some_bytes (m.told new) left after in
              ends was.0 now.0 held left was.2 now.2
              (at_plan was.0 now.0 was.1
              (Halted-told m mid new ran was.0 now.0 (λ b. b ≡ was.0) (looks.told ∙ was.1)
              (may_only was.0 was.1 mid looks) halted now.1));
          stops = Stops-carried passes (then_since mid new (λ bytes left. Crashed (λ b. b ≡ bytes) bytes ran left) looks at_plan
              (λ bytes left t told early is. Halted-since m mid new ran bytes (λ b. b ≡ bytes) (looks.told ∙ told)
              (may_only bytes told mid looks) halted t left early is));
        }

-- the calls looked, and the disk failed in that
pub Failed-cut : {D : Type 0} (m : Meaning D) (old : D) → IsSettled m old → (mid new : D) (steps : List Step) → Looks m old mid →
    Failed m mid new Look → CutShort (disk_means m) old new steps
Failed-cut m old settled mid new steps looks failed =
    let passes : Passes m old new = Passes-Passes (Looks-Passes looks) (Failed-Passes failed) in
    record {
      tells = is_some-both (m.told new) (m.told old) passes.tells;
      torn = λ held left before after.
          let was = some_bytes (m.told old) held before in
          let now = some_bytes (m.told new) left after in
          let inside = failed.torn now.0 now.1 in
          let may : m.may_leave old now.0 = looks.leaves now.0 (subst (m.may_leave mid) (sym inside.2) inside.1) in
          ends steps was.0 now.0 held left was.2 now.2 (Looks-torn steps was.0 now.0 settled was.1 may);
      stops = Stops-carried steps passes (then_since steps m old settled mid new (λ bytes left. left ≡ bytes) looks
          (λ bytes left told same. let Q : List ℕ → Type 0 = λ l. Torn steps (cartridge_of bytes) (cartridge_of l) in
          subst Q (sym same) (Torn-nothing steps (cartridge_of bytes)))
          (λ bytes left t told early is. elim (failed.crashes.since t left early is) [
            | inl was ↦ inl was
            | inr inside ↦ inr (may_only steps m old settled bytes told mid looks left
                (subst (m.may_leave mid) (sym inside.2) inside.1))
          ]));
    }

-- what a call did to the cartridge, by its answer
pub Outcome-carried : {D T E : Type 0} (m : Meaning D) (old new : D) (plan : List ℕ → List DiskStep) (steps : List Step)
    (result : Result T E) → IsSettled m old → Carried m old new plan result
    → ((bytes : List ℕ) → m.told old ≡ Some bytes → Means (plan bytes) steps bytes) → Outcome (disk_means m) old new steps result
Outcome-carried m old new plan steps (Ok x) settled carried means =
    Ran-finished steps m old settled carried.went.0 new carried.steps plan carried.went.1 carried.went.2 carried.planned means
Outcome-carried m old new plan steps (Err e) settled carried means =
    elim carried.went.2 [
      | inl failed ↦ Failed-cut m old settled carried.went.0 new steps carried.went.1 failed
      | inr halted ↦ Halted-cut steps m old settled carried.went.0 new carried.steps plan carried.went.1 halted carried.planned means
    ]
