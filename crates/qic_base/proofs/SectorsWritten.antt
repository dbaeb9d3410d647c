-- What a stop inside a write of sectors leaves: that of one sector, and what holds of each cartridge that one of several leaves.
use Rattle.std.proofs.Common.{◌≡◌, ℕ, ◌⊎◌, inl, inr, List, [], ◌∷◌, sym, ap, Option, Some, None, IsSomeAnd, subst}
use Rattle.qic_base.specs.Cartridge.{Cartridge}
use Rattle.qic_base.specs.Step.{Step, NewSector, WriteSectors, Wear, write_sector, with_sector, with_sectors, with_worn}
use Rattle.qic_base.specs.Step.{AreClosing, AreOpening, Halfway, Torn, effect}
use Rattle.qic_base.proofs.Steps.{Torn-nothing}

-- a stop inside the write of one sector leaves it as it was, or lost, or written
pub half_write : (segment sector : ℕ) (bytes : List ℕ) (held left : Option Cartridge) →
    Halfway (write_sector segment sector bytes) held left →
    (left ≡ held) ⊎ (left ≡ effect (Wear segment sector) held) ⊎ (left ≡ effect (write_sector segment sector bytes) held)
half_write segment sector bytes (Some old) (Some now) (inl (inl same)) = inl (ap Some same)
half_write segment sector bytes (Some old) (Some now) (inl (inr worn)) = inr (inl (ap Some worn))
half_write segment sector bytes (Some old) (Some now) (inr (inl worn)) = inr (inl (ap Some worn))
half_write segment sector bytes (Some old) (Some now) (inr (inr written)) = inr (inr (ap Some written))
half_write segment sector bytes (Some old) None half = absurd half
half_write segment sector bytes None left half = absurd half

-- .. and so does one in front of it, inside it or behind it: it came before, the sector is lost, or the rest was stopped
pub torn_write : (segment sector : ℕ) (bytes : List ℕ) (rest : List Step) (held left : Option Cartridge) →
    Torn (write_sector segment sector bytes ∷ rest) held left →
    (left ≡ held) ⊎ (left ≡ effect (Wear segment sector) held)
    ⊎ Torn rest (effect (write_sector segment sector bytes) held) left
torn_write segment sector bytes rest held left (inl before) = inl before
torn_write segment sector bytes rest held left (inr (inl half)) =
    elim (half_write segment sector bytes held left half) [
      | inl same ↦ inl same
      | inr (inl worn) ↦ inr (inl worn)
      | inr (inr written) ↦ inr (inr (subst (Torn rest (effect (write_sector segment sector bytes) held)) (sym written)
          (Torn-nothing rest (effect (write_sector segment sector bytes) held))))
    ]
torn_write segment sector bytes rest held left (inr (inr behind)) = inr (inr behind)

-- ---- several

-- this stays where one of them is lost, and where one is written
pub record StaysWritten (P : Cartridge → Type 0) (segment : ℕ) (new : NewSector) : Type 0 where
  pub worn : (c : Cartridge) → P c → P (with_worn segment new.sector c)
  pub written : (c : Cartridge) → P c → P (with_sector segment new c)

abbrev pub StayWritten : (P : Cartridge → Type 0) → (segment : ℕ) → List NewSector → Type 0
StayWritten P segment [] = Unit {0}
StayWritten P segment (new ∷ more) = StaysWritten P segment new × StayWritten P segment more

pub sectors_keep : (P : Cartridge → Type 0) (segment : ℕ) (new : List NewSector) (c : Cartridge) → StayWritten P segment new → P c →
    P (with_sectors segment new c)
sectors_keep P segment [] c stay is = is
sectors_keep P segment (new ∷ more) c stay is = sectors_keep P segment more (with_sector segment new c) stay.1 (stay.0.written c is)

pub closing_keeps : (P : Cartridge → Type 0) (segment : ℕ) (new : List NewSector) (old now : Cartridge) → StayWritten P segment new →
    P old → AreClosing segment new old now → P now
closing_keeps P segment [] old now stay is same = subst P (sym same) is
closing_keeps P segment (new ∷ more) old now stay is (inl stood) = closing_keeps P segment more old now stay.1 is stood
closing_keeps P segment (new ∷ more) old now stay is (inr worn) =
    closing_keeps P segment more (with_worn segment new.sector old) now stay.1 (stay.0.worn old is) worn

pub opening_keeps : (P : Cartridge → Type 0) (segment : ℕ) (new : List NewSector) (old now : Cartridge) → StayWritten P segment new →
    P old → AreOpening segment new old now → P now
opening_keeps P segment [] old now stay is same = subst P (sym same) is
opening_keeps P segment (new ∷ more) old now stay is (inl worn) =
    opening_keeps P segment more (with_worn segment new.sector old) now stay.1 (stay.0.worn old is) worn
opening_keeps P segment (new ∷ more) old now stay is (inr written) =
    opening_keeps P segment more (with_sector segment new old) now stay.1 (stay.0.written old is) written

pub half_keeps : (P : Cartridge → Type 0) (segment : ℕ) (new : List NewSector) (old : Cartridge) (left : Option Cartridge) →
    StayWritten P segment new → P old → Halfway (WriteSectors segment new) (Some old) left → IsSomeAnd left P
half_keeps P segment new old (Some now) stay is (inl closing) = closing_keeps P segment new old now stay is closing
half_keeps P segment new old (Some now) stay is (inr opening) = opening_keeps P segment new old now stay is opening
half_keeps P segment new old None stay is half = absurd half
