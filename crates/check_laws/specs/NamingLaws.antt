-- What a check names of the table's segment where appends were stopped, as facts.
use Rattle.std.specs.Prelude.{◌≡◌, ◌<◌, ◌⊎◌, ◌++◌, ℕ, List, Option, Some, IsSomeAnd}
use Rattle.cartridge_laws.specs.AppendLaws.{IsReadyFor, MayAppend, append_steps_of}
use Rattle.cartridge_spec.specs.Appending.{Content}
use Rattle.cartridge_spec.specs.Settling.{settling_steps}
use Rattle.cartridge_spec.specs.TableSegment.{LosesOne, TableIs}
use Rattle.cartridge_spec.specs.Volumes.{Plain}
use Rattle.command_spec.specs.Check.{IsTold}
use Rattle.command_spec.specs.Scrub.{whole_segment}
use Rattle.command_spec.specs.declared.verdict.Verdict.TheVariants.{Wrong}
use Rattle.qic_base.specs.Cartridge.{Cartridge, view_at}
use Rattle.qic_base.specs.Step.{Torn}
use Rattle.qic_base.specs.declared.tape.SectorView.TheVariants.{Lost}

-- any sectors of the table's segment are lost, or none, and the others are as they were
abbrev pub LosesSome : Cartridge → Cartridge → Type 0
LosesSome c d = (i : ℕ) → i < 32 → (view_at d 2 i ≡ view_at c 2 i) ⊎ (view_at d 2 i ≡ Lost)

-- nothing has changed, or one of them is lost
abbrev pub LosesAtMostOne : Cartridge → Cartridge → Type 0
LosesAtMostOne c d = (d ≡ c) ⊎ ((lost : ℕ) × LosesOne c d lost)

-- whichever of them are lost besides, a check names none
abbrev pub NamesNone : Cartridge → Type 0
NamesNone c = (d : Cartridge) (sector : ℕ) → LosesSome c d → ¬ (IsTold d (whole_segment 2) (Wrong sector))

-- ---- an append

-- it was stopped, or done
abbrev pub StoppedAppendNamesNone : Type 0
StoppedAppendNamesNone =
    (c : Cartridge) (plain : Plain) (content : Content) (left : Option Cartridge) → IsReadyFor c plain content →
    Torn (append_steps_of plain content) (Some c) left → IsSomeAnd left NamesNone

-- at most one sector was lost then, and the settling of the table, as it is read, was stopped or done
abbrev pub StoppedSettlingNamesNone : Type 0
StoppedSettlingNamesNone =
    (c : Cartridge) (plain : Plain) (content : Content) (left : Option Cartridge) → IsReadyFor c plain content →
    Torn (append_steps_of plain content) (Some c) left →
    IsSomeAnd left (λ d. (e : Cartridge) (area : List (List ℕ)) (behind : Option Cartridge) → LosesAtMostOne d e → TableIs e area →
    Torn (settling_steps area e) (Some e) behind → IsSomeAnd behind NamesNone)

-- or so was another append, which settles the table first
abbrev pub NextAppendNamesNone : Type 0
NextAppendNamesNone =
    (c : Cartridge) (plain : Plain) (content : Content) (left : Option Cartridge) → IsReadyFor c plain content →
    Torn (append_steps_of plain content) (Some c) left →
    IsSomeAnd left (λ d. (e : Cartridge) (more : Plain) (next : Content) (behind : Option Cartridge) → LosesAtMostOne d e →
    MayAppend e more next → Torn (settling_steps more.table_area e ++ append_steps_of more next) (Some e) behind →
    IsSomeAnd behind NamesNone)
