-- What a run of `make` comes to, and what a stop in it leaves, as facts.
use Rattle.std.specs.Prelude.{◌≡◌, ℕ, List, ◌≤◌, ◌∷◌, ◌++◌, Option, Some, ◌⊎◌, [], IsSomeAnd, ◌≢◌}
use Rattle.cartridge_spec.specs.Header.{Header}
use Rattle.cartridge_spec.specs.Mounting.{Lists}
use Rattle.cartridge_spec.specs.Settling.{changed_by}
use Rattle.cartridge_spec.specs.Table.{Entry}
use Rattle.cartridge_spec.specs.Volumes.{Plain, Stands, entries_of}
use Rattle.command_laws.specs.MountedKept.{IsKept, IsOpen}
use Rattle.command_laws.specs.MountedListed.{IsListed}
use Rattle.command_laws.specs.MadeTerms.{AppendedFrom, Makes, after_items, HaveRoom}
use Rattle.command_spec.specs.Make.{LoseFewBehind, MakeStep, StepDoes, Runs, made_list, with_made}
use Rattle.qic_base.specs.Acts.{Act, steps_of, text_of, next_steps}
use Rattle.qic_base.specs.Cartridge.{Cartridge}
use Rattle.qic_base.specs.Step.{Torn}
use Rattle.command_spec.specs.declared.status.Status.{Status}
use Rattle.command_spec.specs.declared.status.Status.TheVariants as status

-- ---- any cartridge

-- a run does one thing
abbrev pub MakesOneThing : Type 0
MakesOneThing =
    (seed count : ℕ) (c : Cartridge) (words : List ℕ) (entries : List Entry) (a b : List Act) (x y : Status) →
    Makes seed count c words entries a x → Makes seed count c words entries b y → (a ≡ b) × (x ≡ y)

-- and it does something, whatever the sectors of the cartridge hold
abbrev pub MakesSomething : Type 0
MakesSomething =
    (seed count : ℕ) (c : Cartridge) (words : List ℕ) (entries : List Entry) → IsListed c words entries → count ≤ 200 →
    (acts : List Act) × (answer : Status) × Makes seed count c words entries acts answer

-- a stop inside one of the steps, with all of those before it carried out
pub record StopsInStep (seed : ℕ) (c : Cartridge) (words : List ℕ) (entries : List Entry) (items : List MakeStep)
    (left : Option Cartridge) : Type 0 where
  pub front : List MakeStep
  pub item : MakeStep
  pub rest : List MakeStep
  pub parts : front ++ item ∷ rest ≡ items
  pub done : List Act
  pub ran : Runs seed c words entries front done status.Done
  pub acts : List Act
  pub answer : Status
  pub does : StepDoes seed (changed_by (steps_of done) c) words (after_items seed words entries front) item acts answer
  pub torn : Torn (steps_of acts) (Some (changed_by (steps_of done) c)) left

-- a stop among all acts of some steps is one inside a step; where there is no step, nothing was changed
abbrev pub StopsAreInSteps : Type 0
StopsAreInSteps =
    (seed : ℕ) (c : Cartridge) (words : List ℕ) (entries : List Entry) (items : List MakeStep) (acts : List Act) (answer : Status)
    (left : Option Cartridge) → Runs seed c words entries items acts answer → Torn (steps_of acts) (Some c) left →
    ((items ≡ []) × (left ≡ Some c)) ⊎ StopsInStep seed c words entries items left

-- what stands is the plain cartridge with some of the made volumes, up to so many
pub record StandsWithMade (seed count : ℕ) (plain : Plain) (left : Option Cartridge) : Type 0 where
  pub appended : ℕ
  pub within : appended ≤ count
  pub stands : IsSomeAnd left (λ d. Stands d (with_made plain seed appended))

-- a stop among the steps of a run leaves the made volumes of some front of its steps; it may come behind the last
abbrev pub StoppedMakeStands : Type 0
StoppedMakeStands =
    (seed count : ℕ) (c : Cartridge) (plain : Plain) (acts : List Act) (answer : Status) (left : Option Cartridge) → count ≤ 200 →
    IsKept c plain → Makes seed count c plain.words (entries_of plain) acts answer → Torn (steps_of acts) (Some c) left →
    StandsWithMade seed count plain left

-- where all was carried out, all of them stand, also where sectors of the table's segment take no write
abbrev pub DoneMakeStands : Type 0
DoneMakeStands =
    (seed count : ℕ) (c : Cartridge) (plain : Plain) (acts : List Act) → count ≤ 200 → IsOpen c plain →
    Makes seed count c plain.words (entries_of plain) acts status.Done →
    Stands (changed_by (steps_of acts) c) (with_made plain seed count)

-- .. and however it was answered, as many of them as were appended by the answer
abbrev pub AnsweredMakeStands : Type 0
AnsweredMakeStands =
    (seed count : ℕ) (c : Cartridge) (plain : Plain) (acts : List Act) (answer : Status) → count ≤ 200 → IsOpen c plain →
    Makes seed count c plain.words (entries_of plain) acts answer →
    (n : ℕ) × (n ≤ count) × AppendedFrom seed 1 count plain.words (entries_of plain) answer n
    × Stands (changed_by (steps_of acts) c) (with_made plain seed n)

-- .. and where each of these takes a write, so they do where something was printed before a stop, which may come inside the steps
-- of the next act
abbrev pub MadeAreAnswered : Type 0
MadeAreAnswered =
    (seed count : ℕ) (c : Cartridge) (plain : Plain) (acts front rest : List Act) (answer : Status) (left : Option Cartridge) →
    count ≤ 200 → IsKept c plain → Makes seed count c plain.words (entries_of plain) acts answer → front ++ rest ≡ acts →
    text_of front ≢ [] → Torn (next_steps rest) (Some (changed_by (steps_of front) c)) left →
    IsSomeAnd left (λ d. Stands d (with_made plain seed count))

-- then all steps are carried out, also where sectors of the table's segment take no write
abbrev pub MadeWhereThereIsRoom : Type 0
MadeWhereThereIsRoom =
    (seed count : ℕ) (c : Cartridge) (plain : Plain) (acts : List Act) (answer : Status) → count ≤ 200 → IsOpen c plain →
    HaveRoom seed count plain → LoseFewBehind seed count c plain → Makes seed count c plain.words (entries_of plain) acts answer →
    answer ≡ status.Done

-- ---- a mounted cartridge, whatever the sectors of its volumes hold

-- what is left is mounted with the list that was mounted and some of the made volumes behind it, up to so many; with those that were
-- appended by the answer where no act is left
pub record ListsWithMade (seed count : ℕ) (header : Header) (words : List ℕ) (entries : List Entry) (rest : List Act) (answer : Status)
    (left : Option Cartridge) : Type 0 where
  pub appended : ℕ
  pub within : appended ≤ count
  pub answered : rest ≡ [] → AppendedFrom seed 1 count words entries answer appended
  pub lists : IsSomeAnd left (λ d. Lists d header words (made_list seed appended words entries))

-- so it is behind each front of the acts of a run
abbrev pub MakeLists : Type 0
MakeLists =
    (seed count : ℕ) (c : Cartridge) (header : Header) (words : List ℕ) (entries : List Entry) (acts front rest : List Act)
    (answer : Status) (left : Option Cartridge) → count ≤ 200 → Lists c header words entries → IsListed c words entries →
    Makes seed count c words entries acts answer → front ++ rest ≡ acts → left ≡ Some (changed_by (steps_of front) c) →
    ListsWithMade seed count header words entries rest answer left

-- .. with all of them where all acts were carried out, or something was printed
abbrev pub MadeAreListed : Type 0
MadeAreListed =
    (seed count : ℕ) (c : Cartridge) (header : Header) (words : List ℕ) (entries : List Entry) (acts front rest : List Act)
    (answer : Status) (left : Option Cartridge) → count ≤ 200 → Lists c header words entries → IsListed c words entries →
    Makes seed count c words entries acts answer → front ++ rest ≡ acts → left ≡ Some (changed_by (steps_of front) c) →
    ((rest ≡ []) × (answer ≡ status.Done)) ⊎ (text_of front ≢ []) →
    IsSomeAnd left (λ d. Lists d header words (made_list seed count words entries))
