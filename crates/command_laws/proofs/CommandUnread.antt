-- What becomes of a cartridge of which no header copy can be read: it stays so where its header copies are left alone, and what
-- would mount it is refused.
use Rattle.std.proofs.Common.{◌≡◌, ◌⊎◌, ◌≤◌, ℕ, inl, inr, List, [], ap, sym, subst, refl, ◌<◌, arith, Option, Some, IsSomeAnd, true, false}
use Rattle.std.proofs.Common.{◌∙◌}
use Rattle.cartridge_laws.proofs.ChangeClean.{no_header_less, referenced_is_bare}
use Rattle.cartridge_laws.proofs.ChangeStanding.{CellsAlike, same_alike, says_alike, turned}
use Rattle.cartridge_laws.proofs.ChangeViews.{view_of_other, worn_reads_no_more}
use Rattle.cartridge_laws.proofs.FormatCopies.{unformatted_from_bare}
use Rattle.cartridge_laws.proofs.FormatStanding.{same_cells}
use Rattle.cartridge_laws.proofs.FormatWriting.{some_and}
use Rattle.cartridge_laws.proofs.MountOnce.{mounts_is_function}
use Rattle.cartridge_spec.specs.Formatting.{HasNoHeader}
use Rattle.cartridge_spec.specs.HeaderCopies.{CopyDoesNotRead, IsUnformatted, copy_cells}
use Rattle.cartridge_spec.specs.Mounting.{Mounting}
use Rattle.cartridge_spec.specs.Says.{whole_mask}
use Rattle.command_spec.specs.Outcome.{CommandOutcome, Going, OpenOutcome, Opened, WritableOutcome}
use Rattle.qic_base.specs.Acts.{steps_of}
use Rattle.qic_base.specs.Cartridge.{Cartridge, view_at}
use Rattle.qic_base.specs.Step.{Step, SetReferenced, Wear, changed, worn_view, Torn}
use Rattle.cartridge_laws.specs.HeaderTerms.{NeitherReads}
use Rattle.cartridge_spec.specs.Mounting as mounting

alike_reads : (c d : Cartridge) (copy : ℕ) → CellsAlike (copy_cells c copy) (copy_cells d copy) → CopyDoesNotRead c copy →
    CopyDoesNotRead d copy
alike_reads c d copy alike none area reads =
    none area (record {
      says = says_alike (copy_cells d copy) (copy_cells c copy) area (turned alike) reads.says;
      signature =
          reads.signature;
    })

pub neither_alike : (c d : Cartridge) → ((copy : ℕ) → copy < 2 → CellsAlike (copy_cells c copy) (copy_cells d copy)) → NeitherReads c →
    NeitherReads d
neither_alike c d alike none = (alike_reads c d 0 (alike 0 (omega arith)) none.0, alike_reads c d 1 (alike 1 (omega arith)) none.1)

neither_same : (c d : Cartridge) → ((copy : ℕ) → copy < 2 → copy_cells d copy ≡ copy_cells c copy) → NeitherReads c → NeitherReads d
neither_same c d same none = neither_alike c d (λ copy h. same_alike (copy_cells c copy) (copy_cells d copy) (sym (same copy h))) none

pub neither_from_unformatted : (c : Cartridge) → IsUnformatted c → c.info.referenced ≡ true → NeitherReads c
neither_from_unformatted c (inl without) is = let no : false ≡ true = sym without ∙ is in absurd (cc)
neither_from_unformatted c (inr none) is = none

pub neither_from_bare : (c : Cartridge) → HasNoHeader c → NeitherReads c
neither_from_bare c bare =
    let d : Cartridge = changed SetReferenced c in
    neither_same d c (λ copy h. refl) (neither_from_unformatted d (unformatted_from_bare d (referenced_is_bare c bare)) refl)

-- a lost sector that spares the header copies leaves them so
pub worn_neither : (c : Cartridge) (segment sector : ℕ) → sector < 32 → (2 ≤ segment) ⊎ HasNoHeader c → NeitherReads c →
    NeitherReads (changed (Wear segment sector) c)
worn_neither c segment sector small spares none =
    let d : Cartridge = changed (Wear segment sector) c in
    elim spares [
      | inl behind ↦
          neither_same c d
          (λ copy h. same_cells c d copy whole_mask
          (λ i few. view_of_other c segment sector copy i (worn_view (view_at c segment sector)) small few (λ same. absurd (omega arith))))
          none
      | inr bare ↦ neither_from_bare d (no_header_less c d (worn_reads_no_more c segment sector) bare)
    ]

-- ---- outcomes

-- a cartridge that isn't mounted is refused
turned_away : (goes : Going) (c : Cartridge) (outcome : CommandOutcome) → NeitherReads c → OpenOutcome goes (Some c) outcome →
    steps_of outcome.acts ≡ []
turned_away goes c outcome none (m, mounts, opened) =
    let same : m ≡ mounting.NotFormatted = mounts_is_function c m mounting.NotFormatted mounts (inr none) in
    ap (λ (o : CommandOutcome). steps_of o.acts) (subst (λ (a : Mounting). Opened goes c a outcome) same opened)

turned_off : (goes : Going) (c : Cartridge) (outcome : CommandOutcome) → NeitherReads c → WritableOutcome goes (Some c) outcome →
    steps_of outcome.acts ≡ []
turned_off goes c outcome none (inl is) = ap (λ (o : CommandOutcome). steps_of o.acts) is.1
turned_off goes c outcome none (inr is) = turned_away goes c outcome none is.1

by_none : (c : Cartridge) (steps : List Step) (left : Option Cartridge) → NeitherReads c → Torn steps (Some c) left → steps ≡ [] →
    IsSomeAnd left NeitherReads
by_none c steps left none torn is = some_and NeitherReads c left none (subst (λ (ss : List Step). Torn ss (Some c) left) is torn)

-- the marks say nothing of the header copies
pub marked_neither : (c d : Cartridge) → d.views ≡ c.views → NeitherReads c → NeitherReads d
marked_neither c d same none =
    neither_same c d (λ copy h. same_cells c d copy whole_mask (λ i few. ap (λ views. view_at (record c { views = views }) copy i) same))
    none

-- so it stays where it would be mounted, to look at it or to write on it
pub open_unread : (goes : Going) (c : Cartridge) (outcome : CommandOutcome) (left : Option Cartridge) → NeitherReads c →
    OpenOutcome goes (Some c) outcome →
    Torn (steps_of outcome.acts) (Some c) left → IsSomeAnd left NeitherReads
open_unread goes c outcome left none plain torn = by_none c (steps_of outcome.acts) left none torn (turned_away goes c outcome none plain)

pub writable_unread : (goes : Going) (c : Cartridge) (outcome : CommandOutcome) (left : Option Cartridge) → NeitherReads c →
    WritableOutcome goes (Some c) outcome →
    Torn (steps_of outcome.acts) (Some c) left → IsSomeAnd left NeitherReads
writable_unread goes c outcome left none plain torn = by_none c (steps_of outcome.acts) left none torn
    (turned_off goes c outcome none plain)
