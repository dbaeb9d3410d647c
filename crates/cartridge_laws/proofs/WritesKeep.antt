-- What stays true of a cartridge where one sector is lost, and where one is written, stays so under writes, done or stopped.
use Rattle.std.proofs.Common.{ℕ, List, [], ◌∷◌, Option, Some, IsSomeAnd, inl, inr}
use Rattle.cartridge_laws.proofs.FormatWriting.{some_and}
use Rattle.cartridge_laws.specs.AppendWrites.{EachIs, IsWrite, AreWrites}
use Rattle.cartridge_spec.specs.Settling.{changed_by}
use Rattle.qic_base.proofs.SectorsWritten.{StaysWritten, StayWritten, sectors_keep, half_keeps}
use Rattle.qic_base.specs.Cartridge.{Cartridge}
use Rattle.qic_base.specs.Step.{Step, NewSector, WriteSectors, FormatSegment, SetReferenced, SetProtected, Renew, Wear, Spoil, Upgrade}
use Rattle.qic_base.specs.Step.{changed, Halfway, Torn}

-- it stays so under each write and each loss of a sector of which this is true: its segment, its index and its new bytes
abbrev pub KeepsEach : (of : ℕ → ℕ → List ℕ → Type 0) → (P : Cartridge → Type 0) → Type 0
KeepsEach of P = (segment : ℕ) (new : NewSector) → of segment new.sector new.bytes → StaysWritten P segment new

-- ---- one step

pub each_stays : (of : ℕ → ℕ → List ℕ → Type 0) (P : Cartridge → Type 0) (segment : ℕ) (new : List NewSector) → KeepsEach of P →
    EachIs of segment new → StayWritten P segment new
each_stays of P segment [] keeps are = tt
each_stays of P segment (new ∷ more) keeps are = (keeps segment new are.0, each_stays of P segment more keeps are.1)

pub write_keeps : (of : ℕ → ℕ → List ℕ → Type 0) (P : Cartridge → Type 0) (s : Step) (c : Cartridge) → KeepsEach of P → IsWrite of s → P c →
    P (changed s c)
write_keeps of P (WriteSectors segment new) c keeps is holds = sectors_keep P segment new c (each_stays of P segment new keeps is) holds
write_keeps of P (FormatSegment segment) c keeps is holds = absurd is
write_keeps of P SetReferenced c keeps is holds = absurd is
write_keeps of P (SetProtected on) c keeps is holds = absurd is
write_keeps of P (Renew n) c keeps is holds = absurd is
write_keeps of P (Wear segment sector) c keeps is holds = absurd is
write_keeps of P (Spoil segment sector) c keeps is holds = absurd is
write_keeps of P Upgrade c keeps is holds = absurd is

pub half_write_keeps : (of : ℕ → ℕ → List ℕ → Type 0) (P : Cartridge → Type 0) (s : Step) (c : Cartridge) (left : Option Cartridge) →
    KeepsEach of P → IsWrite of s → P c → Halfway s (Some c) left → IsSomeAnd left P
half_write_keeps of P (WriteSectors segment new) c left keeps is holds half =
    half_keeps P segment new c left (each_stays of P segment new keeps is) holds half
half_write_keeps of P (FormatSegment segment) c left keeps is holds half = absurd is
half_write_keeps of P SetReferenced c left keeps is holds half = absurd is
half_write_keeps of P (SetProtected on) c left keeps is holds half = absurd is
half_write_keeps of P (Renew n) c left keeps is holds half = absurd is
half_write_keeps of P (Wear segment sector) c left keeps is holds half = absurd is
half_write_keeps of P (Spoil segment sector) c left keeps is holds half = absurd is
half_write_keeps of P Upgrade c left keeps is holds half = absurd is

-- ---- several

pub writes_keep : (of : ℕ → ℕ → List ℕ → Type 0) (P : Cartridge → Type 0) (ss : List Step) (c : Cartridge) → KeepsEach of P →
    AreWrites of ss → P c → P (changed_by ss c)
writes_keep of P [] c keeps are holds = holds
writes_keep of P (s ∷ ss) c keeps are holds = writes_keep of P ss (changed s c) keeps are.1 (write_keeps of P s c keeps are.0 holds)

pub torn_writes_keep : (of : ℕ → ℕ → List ℕ → Type 0) (P : Cartridge → Type 0) (ss : List Step) (c : Cartridge) (left : Option Cartridge) →
    KeepsEach of P → AreWrites of ss → P c → Torn ss (Some c) left → IsSomeAnd left P
torn_writes_keep of P [] c left keeps are holds is = some_and P c left holds is
torn_writes_keep of P (s ∷ ss) c left keeps are holds (inl is) = some_and P c left holds is
torn_writes_keep of P (s ∷ ss) c left keeps are holds (inr (inl half)) = half_write_keeps of P s c left keeps are.0 holds half
torn_writes_keep of P (s ∷ ss) c left keeps are holds (inr (inr torn)) =
    torn_writes_keep of P ss (changed s c) left keeps are.1 (write_keeps of P s c keeps are.0 holds) torn
