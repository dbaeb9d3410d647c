-- How the openings of a copy end, where a tape tells what its drive holds.
use Rattle.std.proofs.Common.{◌≡◌, ◌⊎◌, ℕ, Bool, List, [], ◌++◌, Option, Some, None, IfSome, IsSomeAnd, refl, ap, sym, subst, ◌∙◌, inl, inr}
use Rattle.std.proofs.Common.{append-nil}
use Rattle.std.specs.Option.{option_map}
use Rattle.cartridge_laws.proofs.MountOnce.{mounts_is_function}
use Rattle.cartridge_laws.proofs.MountWhole.{settling_effects}
use Rattle.cartridge_spec.specs.Header.{Header}
use Rattle.cartridge_laws.specs.HeaderTerms.{fault_as}
use Rattle.cartridge_spec.specs.Mounting.{Mounting, Mounts, settled}
use Rattle.cartridge_spec.specs.Settling.{settling_steps}
use Rattle.cartridge_spec.specs.Table.{Entry}
use Rattle.command_laws.proofs.CommandEnds.{over_at}
use Rattle.command_spec.specs.CopyPromises.{MountingRefuses}
use Rattle.command_spec.specs.Copying.{CopyOutcome, CopyYields, FromMounted, Side, ToDoes, ToMounted, copy_refused, side_of}
use Rattle.qic_base.specs.declared.store_fault.StoreFault.{StoreFault}
use Rattle.command_spec.specs.declared.copy_status.CopyStatus.{CopyStatus}
use Rattle.drive_spec.specs.Terms.{is_protected}
use Rattle.drive_states.specs.Unit.{UnitView}
use Rattle.qic_base.specs.Acts.{Act, next_steps}
use Rattle.qic_base.specs.Cartridge.{Cartridge}
use Rattle.qic_base.specs.Step.{Step as TapeStep, effects}
use Rattle.volume_store.proofs.Opened.{IsKnown, known_before, opened_known}
use Rattle.volume_store.specs.Opening.{HasOpened}
use Rattle.cartridge_front.specs.Learning.{MountRefuses}
use Rattle.volume_store.specs.Mounting.{IsSettling, StoreView, IsOpened}
use Rattle.cartridge_laws.proofs.MountSettled.{locked_steps}
use Rattle.cartridge_spec.specs.Mounting as mounting
use Rattle.qic_base.specs.declared.store_fault.StoreFault.TheVariants as fault
use Rattle.command_spec.specs.declared.copy_status.CopyStatus.TheVariants as status
use Rattle.qic_base.specs.Tape as tapes

-- ---- opened

-- the drive held this cartridge, which mounts as the store shows it; the tape tells it then, settled
pub record OpenedAt {T : Type 0} (m : tapes.Meaning T) (held : Option Cartridge) (unit : UnitView T) (store : StoreView)
    (steps : List TapeStep) : Type 0 where
  pub cartridge : Cartridge
  pub is : held ≡ Some cartridge
  pub at : IsOpened cartridge store steps
  pub told : m.told unit.tape ≡ Some (Some (settled at.table cartridge))

pub opened_at : {T : Type 0} (m : tapes.Meaning T) (old : T) (unit : UnitView T) (store : StoreView) (held : Option Cartridge) →
    (opened : HasOpened m old unit store) → m.told old ≡ Some held →
    OpenedAt m held unit store opened.steps
opened_at m old unit store held opened told = by_held held told
    (over_at (m.told old) (λ h. IsSomeAnd h (λ c. IsOpened c store opened.steps)) held opened.told told)
  where
    by_held : (h : Option Cartridge) → m.told old ≡ Some h → IsSomeAnd h (λ c. IsOpened c store opened.steps) → OpenedAt m h unit store
        opened.steps
    by_held None is none = absurd none
    by_held (Some c) is at = record {
      cartridge = c;
      is = refl;
      at = at;
      told = opened.did.told ∙ ap (option_map (effects opened.steps)) is
          ∙ ap (λ (ss : List TapeStep). Some (effects ss (Some c))) at.settles ∙ ap (λ (h : Option Cartridge). Some h)
          (settling_effects c at.table at.mounts.reads);
    }

-- its mark is the one that the drive knows
pub opened_mark : {T : Type 0} (m : tapes.Meaning T) (old : T) (unit : UnitView T) (store : StoreView) (held : Option Cartridge) →
    (opened : HasOpened m old unit store) →
    (o : OpenedAt m held unit store opened.steps) → (mark : Bool) → is_protected unit.drive.deck ≡ mark → o.cartridge.info.protected ≡ mark
opened_mark m old unit store held opened o mark is =
    let known : IsKnown (settled o.at.table o.cartridge) store mark =
    over_at (m.told unit.tape) (λ h. IfSome h (λ d. IsKnown d store mark)) (Some (settled o.at.table o.cartridge))
    (opened_known m old unit store opened mark is) o.told in
    (known_before o.cartridge store mark opened.steps o.at known).protected

-- ---- refused

-- the mounting that refuses so
pub record RefusedAs (c : Cartridge) (found : StoreFault) : Type 1 where
  pub mounting : Mounting
  pub mounts : Mounts c mounting
  pub is : (OnceMounted : Header → (words : List ℕ) → (table : List (List ℕ)) → List Entry → Type 0) → MountingRefuses mounting found
      OnceMounted
  pub from : (to : Option Cartridge) → FromMounted c mounting to (copy_refused (status.From found))
  pub to : (from : Side) → ToMounted from c mounting [] (status.To found)

pub refused_as : (c : Cartridge) (f : StoreFault) → MountRefuses c f → RefusedAs c f
refused_as c fault.NotFormatted refuses =
    record { mounting = mounting.NotFormatted; mounts = refuses; is = λ P. refl; from = λ to. refl; to = λ from. (refl, refl) }
refused_as c (fault.Foreign field value) refuses =
    record {
      mounting = mounting.Foreign (fault_as field value);
      mounts = refuses;
      is = λ P. refl;
      from = λ to. refl;
      to = λ from.
          (refl, refl);
    }
refused_as c (fault.Lost segment lost) refuses =
    let same : fault.Lost segment lost ≡ fault.Lost 2 lost = ap (λ (s : ℕ). fault.Lost s lost) refuses.0 in
    record {
      mounting = mounting.TableLost lost;
      mounts = refuses.1;
      is = λ P. same;
      from = λ to. ap (λ (found : StoreFault). copy_refused (status.From found)) same;
      to = λ from. (refl, ap (λ (found : StoreFault). status.To found) same);
    }
refused_as c fault.TableMismatch refuses =
    record { mounting = mounting.TableMismatch; mounts = refuses; is = λ P. refl; from = λ to. refl; to = λ from. (refl, refl) }
refused_as c f refuses = absurd refuses

-- ---- what an outcome begins with

-- over a source that mounts so, it settles that, and goes on with the target
pub settles_first : (c : Cartridge) (header : Header) (words : List ℕ) (table : List (List ℕ)) (entries : List Entry)
    (to : Option Cartridge) (outcome : CopyOutcome) →
    Mounts c (mounting.Mounted header words table entries) → CopyYields (Some c) to outcome →
    (outcome.settling ≡ settling_steps table c) × ToDoes (side_of c words table entries) to outcome.acts outcome.status
settles_first c header words table entries to outcome mounts (m, also, does) =
    let same : m ≡ mounting.Mounted header words table entries = mounts_is_function c m _ also mounts in
    subst (λ (n : Mounting). FromMounted c n to outcome) same does

-- a front of the source's settling is one of what is done to that
pub source_begins : (held to : Option Cartridge) (steps : List TapeStep) (outcome : CopyOutcome) → (steps ≡ []) ⊎
    IsSomeAnd held (λ c. IsSettling c steps) → CopyYields held to outcome →
    (rest : List TapeStep) × (steps ++ rest ≡ outcome.settling)
source_begins held to steps outcome (inl none) yields = (outcome.settling, ap (λ (ss : List TapeStep). ss ++ outcome.settling) none)
source_begins None to steps outcome (inr settling) yields = absurd settling
source_begins (Some c) to steps outcome (inr settling) yields =
    let found = settling.settles in
    let first = settles_first c settling.header settling.words found.table settling.entries to outcome found.mounts yields in
    ([], append-nil steps ∙ found.settles ∙ sym first.0)

-- .. and of the target's of what is done to this
pub target_begins : (from : Side) (held : Option Cartridge) (steps : List TapeStep) (acts : List Act) (answer : CopyStatus) → (steps ≡ []) ⊎
    IsSomeAnd held (λ c. IsSettling c steps) → ToDoes from held acts answer →
    (rest : List TapeStep) × (steps ++ rest ≡ next_steps acts)
target_begins from held steps acts answer (inl none) does = (next_steps acts, ap (λ (ss : List TapeStep). ss ++ next_steps acts) none)
target_begins from None steps acts answer (inr settling) does = absurd settling
target_begins from (Some d) steps acts answer (inr settling) (m, also, does) =
    let found = settling.settles in
    let same : m ≡ mounting.Mounted settling.header settling.words found.table settling.entries = mounts_is_function d m _ also found.mounts
    in
    by_mark (subst (λ (n : Mounting). ToMounted from d n acts answer) same does)
  where
    by_mark : ToMounted from d (mounting.Mounted settling.header settling.words settling.settles.table settling.entries) acts answer →
        (rest : List TapeStep) × (steps ++ rest ≡ next_steps acts)
    by_mark (inl locked) =
        let none : steps ≡ [] = settling.settles.settles ∙ locked_steps settling.settles.table d locked.0 in
        (next_steps acts, ap (λ (ss : List TapeStep). ss ++ next_steps acts) none)
    by_mark (inr free) = ([], append-nil steps ∙ settling.settles.settles ∙ sym (ap next_steps free.1.1))
