-- The four writes of a table's new data: what a stop among them leaves, and all of them.
use Rattle.std.proofs.Common.{◌≡◌, ◌≢◌, ℕ, ◌<◌, List, ◌≤◌, refl, ap, ◌∙◌, sym, arith, inl, inr, subst, ◌+◌, ◌∷◌, Option, Some, IsSomeAnd}
use Rattle.std.proofs.Common.{[]}
use Rattle.std.proofs.lemmas.Bool.{cases_eq}
use Rattle.cartridge_laws.proofs.FormatViews.{view_of_sector, view_of_other_sector}
use Rattle.cartridge_laws.proofs.FormatWriting.{some_and, some_weaker}
use Rattle.cartridge_laws.specs.AppendBetween.{IsWhole, IsBegun, IsTurned, Between}
use Rattle.cartridge_laws.specs.MountBlocks.{HoldsPart}
use Rattle.cartridge_spec.specs.Appending.{table_writes}
use Rattle.cartridge_spec.specs.Says.{with_parity}
use Rattle.cartridge_spec.specs.Settling.{changed_by}
use Rattle.cartridge_spec.specs.Shape.{sector_at, IsLive}
use Rattle.qic_base.proofs.SectorsWritten.{torn_write}
use Rattle.qic_base.specs.Cartridge.{Cartridge, view_at}
use Rattle.qic_base.specs.Step.{changed, Step, write_sector, written_view, Wear, worn_view, Torn}
use Rattle.qic_base.specs.declared.tape.SectorView.{SectorView}
use Rattle.qic_base.specs.declared.tape.SectorView.TheVariants.{Holds, Lost, Blank, Defect}

-- two tables' data differ in one sector of data
abbrev pub DifferIn : (old new : List (List ℕ)) → (changed : ℕ) → Type 0
DifferIn old new changed = (i : ℕ) → i < 29 → i ≢ changed → sector_at (with_parity new) i ≡ sector_at (with_parity old) i

-- each sector of which this is true holds its part of these data
abbrev pub HoldParts : (of : ℕ → Type 0) → Cartridge → (area : List (List ℕ)) → Type 0
HoldParts of c area = (i : ℕ) → i < 32 → of i → HoldsPart c area i

-- of the sectors of which this is true those before one are new, and the others old
record IsAt (of : ℕ → Type 0) (c : Cartridge) (old new : List (List ℕ)) (turn : ℕ) : Type 0 where
  before : (i : ℕ) → i < turn → of i → HoldsPart c new i
  behind : (i : ℕ) → turn ≤ i → i < 32 → of i → HoldsPart c old i

-- of all 32
abbrev pub Each : ℕ → Type 0
Each i = Unit {0}

abbrev sector_write : (new : List (List ℕ)) → (i : ℕ) → Step
sector_write new i = write_sector 2 i (sector_at (with_parity new) i)

-- ---- one write

-- a sector that held bytes holds those that were written
written_here : (c : Cartridge) (i : ℕ) (old bytes : List ℕ) → view_at c 2 i ≡ Holds old →
    view_at (changed (write_sector 2 i bytes) c) 2 i ≡ Holds bytes
written_here c i old bytes holds = view_of_sector c 2 i (written_view bytes) refl ∙ ap (written_view bytes) holds

worn_here : (c : Cartridge) (i : ℕ) (old : List ℕ) → view_at c 2 i ≡ Holds old → view_at (changed (Wear 2 i) c) 2 i ≡ Lost
worn_here c i old holds = view_of_sector c 2 i worn_view refl ∙ ap worn_view holds

pub written_other : (c : Cartridge) (i j : ℕ) (bytes : List ℕ) → i < 32 → j < 32 → j ≢ i →
    view_at (changed (write_sector 2 i bytes) c) 2 j ≡ view_at c 2 j
written_other c i j bytes small h apart =
    view_of_other_sector c 2 i 2 j (written_view bytes (view_at c 2 i)) small h (λ e same. apart (sym same))

pub worn_other : (c : Cartridge) (i j : ℕ) → i < 32 → j < 32 → j ≢ i → view_at (changed (Wear 2 i) c) 2 j ≡ view_at c 2 j
worn_other c i j small h apart = view_of_other_sector c 2 i 2 j (worn_view (view_at c 2 i)) small h (λ e same. apart (sym same))

-- ---- the sector of data

begun : (c : Cartridge) (old : List (List ℕ)) (k : ℕ) → k < 29 → IsWhole c old → IsBegun (changed (Wear 2 k) c) old k
begun c old k small whole = record {
  lost = worn_here c k (sector_at (with_parity old) k) (whole k (omega arith));
  others = λ i h apart. worn_other c k i (omega arith) h apart ∙ whole i h;
}

turned : (of : ℕ → Type 0) (c : Cartridge) (old new : List (List ℕ)) (k : ℕ) → k < 29 → DifferIn old new k → HoldParts of c old →
    IsAt of (changed (sector_write new k) c) old new 29
turned of c old new k small differ held =
    let bytes : List ℕ = sector_at (with_parity new) k in
    let d : Cartridge = changed (sector_write new k) c in
    record {
      before = λ i h is.
          elim (cases_eq i k) [
            | inl same ↦
                subst (HoldsPart d new) (sym same)
                (written_here c k (sector_at (with_parity old) k) bytes (held k (omega arith) (subst of same is)))
            | inr apart ↦
                written_other c k i bytes (omega arith) (omega arith) apart ∙ held i (omega arith) is
                ∙ ap (λ (part : List ℕ). Holds part) (sym (differ i h apart))
          ];
      behind = λ i from h is. written_other c k i bytes (omega arith) h (λ e. omega arith) ∙ held i h is;
    }

-- ---- the sectors of parity

is_turned : (c : Cartridge) (old new : List (List ℕ)) (turn : ℕ) → 29 ≤ turn → turn ≤ 32 → IsAt Each c old new turn → IsTurned c old new
is_turned c old new turn from within at = record {
  turn = turn;
  within = within;
  from = from;
  before = λ i h. at.before i h tt;
  here = λ h. inl (at.behind turn (omega arith) h tt);
  behind = λ i past h. at.behind i (omega arith) h tt;
}

worn_turned : (c : Cartridge) (old new : List (List ℕ)) (turn : ℕ) → 29 ≤ turn → turn < 32 → IsAt Each c old new turn →
    IsTurned (changed (Wear 2 turn) c) old new
worn_turned c old new turn from within at = record {
  turn = turn;
  within = omega arith;
  from = from;
  before = λ i h. worn_other c turn i within (omega arith) (λ e. omega arith) ∙ at.before i h tt;
  here = λ h. inr (worn_here c turn (sector_at (with_parity old) turn) (at.behind turn (omega arith) h tt));
  behind = λ i past h. worn_other c turn i within h (λ e. omega arith) ∙ at.behind i (omega arith) h tt;
}

next : (of : ℕ → Type 0) (c : Cartridge) (old new : List (List ℕ)) (turn : ℕ) → turn < 32 → IsAt of c old new turn →
    IsAt of (changed (sector_write new turn) c) old new (turn + 1)
next of c old new turn small at =
    let bytes : List ℕ = sector_at (with_parity new) turn in
    let d : Cartridge = changed (sector_write new turn) c in
    record {
      before = λ i h is.
          elim (cases_eq i turn) [
            | inl same ↦
                subst (HoldsPart d new) (sym same)
                (written_here c turn (sector_at (with_parity old) turn) bytes (at.behind turn (omega arith) small (subst of same is)))
            | inr apart ↦ written_other c turn i bytes small (omega arith) apart ∙ at.before i (omega arith) is
          ];
      behind = λ i from h is. written_other c turn i bytes small h (λ e. omega arith) ∙ at.behind i (omega arith) h is;
    }

-- a stop among the writes from one of them on
turn_stopped : (c : Cartridge) (old new : List (List ℕ)) (turn : ℕ) (rest : List Step) (left : Option Cartridge) → 29 ≤ turn → turn < 32 →
    IsAt Each c old new turn →
    (Torn rest (Some (changed (sector_write new turn) c)) left → IsSomeAnd left (λ d. IsTurned d old new)) →
    Torn (sector_write new turn ∷ rest) (Some c) left → IsSomeAnd left (λ d. IsTurned d old new)
turn_stopped c old new turn rest left from small at then torn =
    elim (torn_write 2 turn (sector_at (with_parity new) turn) rest (Some c) left torn) [
      | inl is ↦ some_and (λ d. IsTurned d old new) c left (is_turned c old new turn from (omega arith) at) is
      | inr (inl is) ↦ some_and (λ d. IsTurned d old new) (changed (Wear 2 turn) c) left (worn_turned c old new turn from small at) is
      | inr (inr behind) ↦ then behind
    ]

parity_stopped : (c : Cartridge) (old new : List (List ℕ)) (left : Option Cartridge) → IsAt Each c old new 29 →
    Torn (sector_write new 29 ∷ sector_write new 30 ∷ sector_write new 31 ∷ []) (Some c) left → IsSomeAnd left (λ d. IsTurned d old new)
parity_stopped c old new left at torn =
    let second : Cartridge = changed (sector_write new 29) c in
    let third : Cartridge = changed (sector_write new 30) second in
    let last : Cartridge = changed (sector_write new 31) third in
    let at_second : IsAt Each second old new 30 = next Each c old new 29 (omega arith) at in
    let at_third : IsAt Each third old new 31 = next Each second old new 30 (omega arith) at_second in
    let at_last : IsAt Each last old new 32 = next Each third old new 31 (omega arith) at_third in
    turn_stopped c old new 29 (sector_write new 30 ∷ sector_write new 31 ∷ []) left (omega arith) (omega arith) at
    (turn_stopped second old new 30 (sector_write new 31 ∷ []) left (omega arith) (omega arith) at_second
    (turn_stopped third old new 31 [] left (omega arith) (omega arith) at_third
    (some_and (λ d. IsTurned d old new) last left (is_turned last old new 32 (omega arith) (omega arith) at_last))))
    torn

-- ---- all four

pub table_stopped : (c : Cartridge) (old new : List (List ℕ)) (k : ℕ) (left : Option Cartridge) → k < 29 → DifferIn old new k →
    IsWhole c old →
    Torn (table_writes k new) (Some c) left → IsSomeAnd left (λ d. Between d old new k)
table_stopped c old new k left small differ whole torn =
    elim (torn_write 2 k (sector_at (with_parity new) k) (sector_write new 29 ∷ sector_write new 30 ∷ sector_write new 31 ∷ [])
    (Some c) left torn) [
      | inl is ↦ some_and (λ d. Between d old new k) c left (inl whole) is
      | inr (inl is) ↦ some_and (λ d. Between d old new k) (changed (Wear 2 k) c) left (inr (inl (begun c old k small whole))) is
      | inr (inr behind) ↦
          some_weaker left (λ d is. inr (inr is))
          (parity_stopped (changed (sector_write new k) c) old new left (turned Each c old new k small differ (λ i h is. whole i h)) behind)
    ]

-- each sector that held its part of the old data holds that of the new ones
pub table_written : (of : ℕ → Type 0) (c : Cartridge) (old new : List (List ℕ)) (k : ℕ) → k < 29 → DifferIn old new k → HoldParts of c old →
    HoldParts of (changed_by (table_writes k new) c) new
table_written of c old new k small differ held =
    let first : Cartridge = changed (sector_write new k) c in
    let second : Cartridge = changed (sector_write new 29) first in
    let third : Cartridge = changed (sector_write new 30) second in
    let last : IsAt of (changed (sector_write new 31) third) old new 32 =
    next of third old new 31 (omega arith)
    (next of second old new 30 (omega arith) (next of first old new 29 (omega arith) (turned of c old new k small differ held))) in
    last.before

-- ---- sectors that take no write

live_before : (bytes : List ℕ) (view : SectorView) → IsLive (written_view bytes view) → IsLive view
live_before bytes Blank live = live
live_before bytes Defect live = live
live_before bytes Lost live = tt
live_before bytes (Holds old) live = tt

lived : (c : Cartridge) (k i : ℕ) (bytes : List ℕ) → k < 32 → i < 32 →
    IsLive (view_at (changed (write_sector 2 k bytes) c) 2 i) → IsLive (view_at c 2 i)
lived c k i bytes small h live =
    elim (cases_eq i k) [
      | inl same ↦
          subst (λ (j : ℕ). IsLive (view_at c 2 j)) (sym same)
          (live_before bytes (view_at c 2 k) (subst IsLive (view_of_sector c 2 k (written_view bytes) refl)
          (subst (λ (j : ℕ). IsLive (view_at (changed (write_sector 2 k bytes) c) 2 j)) same live)))
      | inr apart ↦ subst IsLive (written_other c k i bytes small h apart) live
    ]

-- one that takes a write after the four took one before them
pub table_lived : (c : Cartridge) (new : List (List ℕ)) (k i : ℕ) → k < 29 → i < 32 →
    IsLive (view_at (changed_by (table_writes k new) c) 2 i) →
    IsLive (view_at c 2 i)
table_lived c new k i small h live =
    let first : Cartridge = changed (sector_write new k) c in
    let second : Cartridge = changed (sector_write new 29) first in
    let third : Cartridge = changed (sector_write new 30) second in
    let part : ℕ → List ℕ = sector_at (with_parity new) in
    lived c k i (part k) (omega arith) h
    (lived first 29 i (part 29) (omega arith) h
    (lived second 30 i (part 30) (omega arith) h (lived third 31 i (part 31) (omega arith) h live)))
