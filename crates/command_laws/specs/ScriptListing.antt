-- What a script leaves of a mounted cartridge, whatever the sectors of its volumes hold, as facts (this project's own).
use Rattle.std.specs.Prelude.{◌≡◌, ℕ, ◌+◌, List, ◌++◌, length, Option, Some, ◌<◌, ◌≤◌, ◌∷◌, IsSomeAnd}
use Rattle.cartridge_spec.specs.Header.{Header}
use Rattle.cartridge_spec.specs.Mounting.{Lists}
use Rattle.cartridge_spec.specs.Settling.{changed_by}
use Rattle.cartridge_spec.specs.Table.{Entry}
use Rattle.command_laws.specs.MountedListed.{IsListed}
use Rattle.command_spec.specs.Outcome.{CommandOutcome}
use Rattle.command_spec.specs.Script.{ScriptDoes, entries_behind}
use Rattle.command_spec.specs.ScriptLists.{ListsAnswered, ListsBroken, ItemsWearBehind}
use Rattle.qic_base.specs.Acts.{Act, steps_of, text_of}
use Rattle.qic_base.specs.Cartridge.{Cartridge}

-- so it is behind each front of the acts, with their texts written, over any input
abbrev pub ListedBetween : Type 0
ListedBetween =
    (c : Cartridge) (header : Header) (words : List ℕ) (entries : List Entry) (input : List ℕ) (outcome : CommandOutcome)
    (front rest : List Act) (left : Option Cartridge) → Lists c header words entries → IsListed c words entries →
    (does : ScriptDoes c words entries input outcome) → front ++ rest ≡ outcome.acts →
    left ≡ Some (changed_by (steps_of front) c) →
    ListsAnswered header words entries does.items does.dids (length (text_of front)) left

-- .. behind the steps of the next act, with a part of its text written and not the whole
abbrev pub ListedBehind : Type 0
ListedBehind =
    (c : Cartridge) (header : Header) (words : List ℕ) (entries : List Entry) (input : List ℕ) (outcome : CommandOutcome)
    (front : List Act) (act : Act) (rest : List Act) (left : Option Cartridge) (printed : ℕ) → Lists c header words entries →
    IsListed c words entries → (does : ScriptDoes c words entries input outcome) →
    front ++ act ∷ rest ≡ outcome.acts → left ≡ Some (changed_by (steps_of front ++ act.steps) c) →
    length (text_of front) ≤ printed → printed < length (text_of front) + length act.text →
    ListsBroken header words entries does.items does.dids printed left

-- .. with the list behind all items, where all acts were done
abbrev pub ListedDone : Type 0
ListedDone =
    (c : Cartridge) (header : Header) (words : List ℕ) (entries : List Entry) (input : List ℕ) (outcome : CommandOutcome)
    (left : Option Cartridge) → Lists c header words entries → IsListed c words entries →
    (does : ScriptDoes c words entries input outcome) → ItemsWearBehind does.items →
    left ≡ Some (changed_by (steps_of outcome.acts) c) →
    IsSomeAnd left (λ d. Lists d header words (entries_behind entries does.dids))

-- .. and where nothing was done, nor printed
abbrev pub ListedNone : Type 0
ListedNone =
    (c d : Cartridge) (header : Header) (words : List ℕ) (entries : List Entry) (input : List ℕ) (outcome : CommandOutcome) →
    (does : ScriptDoes c words entries input outcome) → Lists d header words entries →
    ListsAnswered header words entries does.items does.dids 0 (Some d)
