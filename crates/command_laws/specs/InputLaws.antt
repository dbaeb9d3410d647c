-- The laws of the acts of a volume, as facts.
use Rattle.std.specs.Prelude.{◌≡◌, ℕ, List, All, [], Bool, ◌<◌}
use Rattle.cartridge_laws.specs.AppendSteps.{writes_into}
use Rattle.cartridge_laws.specs.AppendWrites.{AreWrites, IsFree, IsOfSector}
use Rattle.cartridge_laws.specs.Shape.{Carries}
use Rattle.cartridge_spec.specs.Shape.{mask_at}
use Rattle.command_spec.specs.Append.{volume_acts, filled_acts, input_acts}
use Rattle.qic_base.specs.Acts.{steps_of, text_of}

-- ---- a whole volume

-- its steps are the writes of its bytes into carrying segments
abbrev pub VolumeIsWrites : Type 0
VolumeIsWrites =
    (words segments bytes : List ℕ) → All (λ s. Carries (mask_at words s)) segments →
    steps_of (volume_acts words segments bytes) ≡ writes_into words segments bytes

-- ---- each of the acts

-- they print nothing
abbrev pub VolumePrintsNothing : Type 0
VolumePrintsNothing = (words segments bytes : List ℕ) → text_of (volume_acts words segments bytes) ≡ []

abbrev pub FilledPrintsNothing : Type 0
FilledPrintsNothing = (words segments bytes : List ℕ) → text_of (filled_acts words segments bytes) ≡ []

abbrev pub InputPrintsNothing : Type 0
InputPrintsNothing =
    (words segments : List ℕ) (most : ℕ) (exact : Bool) (input : List ℕ) →
    text_of (input_acts words segments most exact input) ≡ []

-- they write behind a segment where their segments lie behind it, ..
abbrev pub VolumeIsFree : Type 0
VolumeIsFree =
    (before : ℕ) (words segments bytes : List ℕ) → All (λ s. before < s) segments →
    AreWrites (IsFree before) (steps_of (volume_acts words segments bytes))

abbrev pub FilledIsFree : Type 0
FilledIsFree =
    (before : ℕ) (words segments bytes : List ℕ) → All (λ s. before < s) segments →
    AreWrites (IsFree before) (steps_of (filled_acts words segments bytes))

abbrev pub InputIsFree : Type 0
InputIsFree =
    (before : ℕ) (words segments : List ℕ) (most : ℕ) (exact : Bool) (input : List ℕ) → All (λ s. before < s) segments →
    AreWrites (IsFree before) (steps_of (input_acts words segments most exact input))

-- .. and whole sectors
abbrev pub VolumeIsOfSectors : Type 0
VolumeIsOfSectors =
    (words segments bytes : List ℕ) → All (λ b. b < 256) bytes →
    AreWrites IsOfSector (steps_of (volume_acts words segments bytes))

abbrev pub FilledIsOfSectors : Type 0
FilledIsOfSectors =
    (words segments bytes : List ℕ) → All (λ b. b < 256) bytes →
    AreWrites IsOfSector (steps_of (filled_acts words segments bytes))

abbrev pub InputIsOfSectors : Type 0
InputIsOfSectors =
    (words segments : List ℕ) (most : ℕ) (exact : Bool) (input : List ℕ) → All (λ b. b < 256) input →
    AreWrites IsOfSector (steps_of (input_acts words segments most exact input))
