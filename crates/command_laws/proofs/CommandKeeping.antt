-- What a stop in an outcome leaves of what a cartridge stands for, and of what it is mounted as.
use Rattle.std.proofs.Common.{◌≡◌, List, Option, Some, IsSomeAnd, sym, ◌∙◌, subst, refl, ℕ, inl, inr, true, ◌⊎◌}
use Rattle.cartridge_laws.proofs.ChangeMounted.{referenced_mounts}
use Rattle.cartridge_laws.proofs.ChangeStanding.{referenced_stands}
use Rattle.cartridge_laws.proofs.FormatWriting.{some_and}
use Rattle.cartridge_laws.proofs.MountKeeping.{stopped_stands, stopped_mounts}
use Rattle.cartridge_laws.proofs.MountOnce.{mounts_is_function}
use Rattle.cartridge_laws.proofs.MountSettled.{settled_stands, settled_mounts}
use Rattle.cartridge_laws.proofs.MountStanding.{standing_mounts_only_so}
use Rattle.cartridge_spec.specs.Header.{Header}
use Rattle.cartridge_spec.specs.Mounting.{Mounting, TableLost, Mounts, mounted_as, Mounted, settled}
use Rattle.cartridge_spec.specs.Table.{Entry}
use Rattle.cartridge_spec.specs.Volumes.{Plain, Stands, entries_of}
use Rattle.command_laws.proofs.CommandPlainLaws.{SectorLeaves, OpeningLeaves, ScrubbingLeaves, FormatLeaves}
use Rattle.command_laws.proofs.ScrubMounted.{stopped_scrub_stands, stopped_scrub_mounts}
use Rattle.command_laws.proofs.ScrubPlain.{as_plain}
use Rattle.command_spec.specs.Outcome.{HasPlace}
use Rattle.command_spec.specs.Scrub.{ScrubsAs}
use Rattle.command_spec.specs.declared.depth.Depth.TheVariants.{Shallow}
use Rattle.qic_base.specs.Cartridge.{Cartridge}
use Rattle.qic_base.specs.Step.{Step as TapeStep, effect, changed, SetReferenced}

pub same_stands : (c : Cartridge) (plain : Plain) (left : Option Cartridge) → Stands c plain → left ≡ Some c →
    IsSomeAnd left (λ d. Stands d plain)
same_stands c plain left stood is = some_and (λ d. Stands d plain) c left stood is

pub sector_left : (P : Cartridge → Type 0) (step : TapeStep) (segment sector : ℕ) (c : Cartridge) (left : Option Cartridge) → P c →
    (HasPlace c segment sector → P (changed step c)) →
    SectorLeaves step segment sector (Some c) left → IsSomeAnd left P
sector_left P step segment sector c left before behind (inl same) = some_and P c left before same
sector_left P step segment sector c left before behind (inr is) = some_and P (changed step c) left (behind is.0) is.1

pub open_stands : (c : Cartridge) (plain : Plain) (left : Option Cartridge) → Stands c plain → OpeningLeaves (Some c) left →
    IsSomeAnd left (λ d. Stands d plain)
open_stands c plain left stood (inl before) = same_stands c plain left stood before
open_stands c plain left stood (inr (header, (words, (table, (entries, mounts, torn))))) =
    stopped_stands c plain table left stood mounts.reads torn

-- the mounting of a cartridge that stands for a plain one is that one's
stands_as : (c : Cartridge) (plain : Plain) (m : Mounting) → Stands c plain → Mounts c m → (n : Mounting) → m ≡ n →
    ((lost : ℕ) → n ≡ TableLost lost → ⊥) → n ≡ mounted_as plain
stands_as c plain m stood mounts n same read =
    elim (standing_mounts_only_so c plain m stood mounts) [ inl is ↦ sym same ∙ is | inr (lost, is) ↦ absurd (read lost (sym same ∙ is)) ]

pub scrub_stands : (c : Cartridge) (plain : Plain) (left : Option Cartridge) → Stands c plain → ScrubbingLeaves (Some c) left →
    IsSomeAnd left (λ d. Stands d plain)
scrub_stands c plain left stood (inl before) = same_stands c plain left stood before
scrub_stands c plain left stood (inr (header, (words, (table, (entries, (acts, mounts, scrubs, inl torn)))))) =
    stopped_stands c plain table left stood mounts.reads torn
scrub_stands c plain left stood (inr (header, (words, (table, (entries, (acts, mounts, scrubs, inr torn)))))) =
    let m : Mounting = Mounted header words table entries in
    let same : m ≡ mounted_as plain = stands_as c plain m stood mounts m refl (λ lost is. cc) in
    let map : words ≡ plain.words = cc in
    let list : entries ≡ entries_of plain = cc in
    stopped_scrub_stands (settled table c) plain acts left (settled_stands c plain table stood mounts.reads)
    (as_plain (settled table c) plain.words (entries_of plain) acts
    (subst (λ (es : List Entry). ScrubsAs Shallow (settled table c) plain.words es acts) list
    (subst (λ (ws : List ℕ). ScrubsAs Shallow (settled table c) ws entries acts) map scrubs))) torn

pub format_stands : (label : List ℕ) (date : ℕ) (c : Cartridge) (plain : Plain) (left : Option Cartridge) → Stands c plain →
    c.info.protected ≡ true →
    FormatLeaves label date (Some c) left → IsSomeAnd left (λ d. Stands d plain)
format_stands label date c plain left stood locked (inl same) = same_stands c plain left stood same.1
format_stands label date c plain left stood locked (inr (inl torn)) = let free = torn.0 in absurd (cc)
format_stands label date c plain left stood locked (inr (inr torn)) = let free = torn.0 in absurd (cc)

pub pulses_stand : (c : Cartridge) (plain : Plain) (left : Option Cartridge) → Stands c plain → (left ≡ Some c)
    ⊎ (left ≡ effect SetReferenced (Some c)) → IsSomeAnd left (λ d. Stands d plain)
pulses_stand c plain left stood (inl before) = same_stands c plain left stood before
pulses_stand c plain left stood (inr behind) = same_stands (changed SetReferenced c) plain left (referenced_stands c plain stood) behind

-- ---- commands that keep the list

pub open_mounts : (c : Cartridge) (m : Mounting) (left : Option Cartridge) → Mounts c m → OpeningLeaves (Some c) left →
    IsSomeAnd left (λ d. Mounts d m)
open_mounts c m left mounts (inl before) = some_and (λ d. Mounts d m) c left mounts before
open_mounts c m left mounts (inr (header, (words, (table, (entries, again, torn))))) =
    let same : Mounted header words table entries ≡ m = mounts_is_function c (Mounted header words table entries) m again mounts in
    subst (λ (n : Mounting). IsSomeAnd left (λ d. Mounts d n)) same (stopped_mounts c header words table entries left again torn)

pub scrub_mounts : (c : Cartridge) (m : Mounting) (left : Option Cartridge) → Mounts c m → ScrubbingLeaves (Some c) left →
    IsSomeAnd left (λ d. Mounts d m)
scrub_mounts c m left mounts (inl before) = some_and (λ d. Mounts d m) c left mounts before
scrub_mounts c m left mounts (inr (header, (words, (table, (entries, (acts, again, scrubs, inl torn)))))) =
    let same : Mounted header words table entries ≡ m = mounts_is_function c (Mounted header words table entries) m again mounts in
    subst (λ (n : Mounting). IsSomeAnd left (λ d. Mounts d n)) same (stopped_mounts c header words table entries left again torn)
scrub_mounts c m left mounts (inr (header, (words, (table, (entries, (acts, again, scrubs, inr torn)))))) =
    let same : Mounted header words table entries ≡ m = mounts_is_function c (Mounted header words table entries) m again mounts in
    subst (λ (n : Mounting). IsSomeAnd left (λ d. Mounts d n)) same
    (stopped_scrub_mounts (settled table c) header words table entries acts left (settled_mounts c header words table entries again)
    (as_plain (settled table c) words entries acts scrubs) torn)

module _ (c : Cartridge) (header : Header) (words : List ℕ) (table : List (List ℕ)) (entries : List Entry) (left : Option Cartridge)
    (mounts : Mounts c (Mounted header words table entries)) where
  abbrev StillSo : Cartridge → Type 0
  StillSo d = Mounts d (Mounted header words table entries)

  pub pulses_mount : (left ≡ Some c) ⊎ (left ≡ effect SetReferenced (Some c)) → IsSomeAnd left StillSo
  pulses_mount (inl before) = some_and StillSo c left mounts before
  pulses_mount (inr behind) = some_and StillSo (changed SetReferenced c) left (referenced_mounts c header words table entries mounts) behind

  pub format_mounts : (label : List ℕ) (date : ℕ) → c.info.protected ≡ true → FormatLeaves label date (Some c) left → IsSomeAnd left StillSo
  format_mounts label date locked (inl same) = some_and StillSo c left mounts same.1
  format_mounts label date locked (inr (inl torn)) = let free = torn.0 in absurd (cc)
  format_mounts label date locked (inr (inr torn)) = let free = torn.0 in absurd (cc)
