-- How a command goes on that has mounted a cartridge: the settling, and then its acts.
use Rattle.std.proofs.Common.{◌≡◌, ◌-◌, List, [], ◌∷◌, ◌++◌, refl, sym, subst, arith, append-nil, Option, Some, None, IfSome, IsSomeAnd, ap}
use Rattle.std.proofs.Common.{◌∙◌, Bool, length, ℕ, ◌*◌, true, false, ◌≢◌}
use Rattle.std.specs.Option.{option_map}
use Rattle.std.specs.Prelude.{◌↔◌}
use Rattle.cartridge_laws.proofs.MountSettled.{settled_keeps_table}
use Rattle.cartridge_laws.proofs.MountWhole.{settling_effects}
use Rattle.cartridge_spec.specs.HeaderCopies.{last_segment}
use Rattle.cartridge_spec.specs.Mounting.{settled}
use Rattle.command_laws.proofs.CommandOpened.{quiet}
use Rattle.drive_spec.specs.Terms.{is_protected}
use Rattle.drive_states.specs.Unit.{UnitView}
use Rattle.qic_base.proofs.Joins.{went_both, went_then_cut}
use Rattle.qic_base.proofs.Steps.{Broke-front}
use Rattle.qic_base.proofs.Writing.{TakesBoth}
use Rattle.qic_base.specs.Acts.{Outside, Act, next_steps, Failing, TapeCut, Went, Cut}
use Rattle.qic_base.specs.Cartridge.{Cartridge}
use Rattle.qic_base.specs.Step.{Step as TapeStep, effects}
use Rattle.qic_base.specs.declared.tape.TapeInfo.{TapeInfo}
use Rattle.volume_store.specs.Opening.{HasOpened}
use Rattle.cartridge_front.proofs.Copies.{IsLearnt, told_learnt}
use Rattle.volume_store.specs.Mounting.{StoreView, IsOpened}
use Rattle.qic_base.specs.declared.store_fault.StoreFault.{StoreFault}
use Rattle.qic_base.specs.Alone.{outside}
use Rattle.qic_base.specs.Sink as sinks
use Rattle.qic_base.specs.Source as sources
use Rattle.qic_base.specs.Tape as tapes
use Rattle.qic_base.specs.TapeCalls as tape_calls
use Rattle.qic_base.specs.declared.store_fault.StoreFault.TheVariants as fault

module _ {T S K : Type 0} (t : tapes.Meaning T) (s : sources.Meaning S) (k : sinks.Meaning K) where
  -- steps that were done went as such an act
  quiet_went : ((z : K) → k.took z [] z) → (a b : T) (i : S) (x : K) (steps : List TapeStep) → tapes.Done t a b steps →
      Went t s k (outside a i x) (outside b i x) (quiet steps ∷ [])
  quiet_went nothing a b i x steps did = record {
    did = subst (tapes.Done t a b) (sym (append-nil steps)) did;
    wrote = record { took = nothing x; later = omega arith };
    source_later = omega arith;
  }

  -- acts behind it
  pub went_behind : TakesBoth k → ((z : K) → k.took z [] z) → (a b : T) (i : S) (x : K) (new : Outside T S K) (steps : List TapeStep)
      (acts : List Act) → tapes.Done t a b steps →
      Went t s k (outside b i x) new acts → Went t s k (outside a i x) new (quiet steps ∷ acts)
  went_behind both nothing a b i x new steps acts did went =
      went_both t s k both (outside a i x) (outside b i x) new (quiet steps ∷ []) acts (quiet_went nothing a b i x steps did) went

  pub cut_behind : TakesBoth k → ((z : K) → k.took z [] z) → (a b : T) (i : S) (x : K) (new : Outside T S K) (steps : List TapeStep)
      (acts : List Act) (failing : Failing) → tapes.Done t a b steps →
      Cut t s k (outside b i x) new acts failing → Cut t s k (outside a i x) new (quiet steps ∷ acts) failing
  cut_behind both nothing a b i x new steps acts failing did cut =
      went_then_cut t s k both (outside a i x) (outside b i x) new (quiet steps ∷ []) acts failing
      (quiet_went nothing a b i x steps did) cut

  -- a fault of the tape in a front of the steps of the first of some acts
  abbrev pub opening_cut : ((z : K) → k.took z [] z) → (a b : T) (i : S) (x : K) (steps : List TapeStep) (acts : List Act)
      (rest : List TapeStep) → steps ++ rest ≡ next_steps acts → tapes.Broke t a b steps →
      TapeCut t s k (outside a i x) (outside b i x) acts
  opening_cut nothing a b i x steps acts rest is broke =
      let longer : tapes.Broke t a b (next_steps acts) = subst (tapes.Broke t a b) is (Broke-front rest broke) in record {
        front = [];
        rest = acts;
        parts = refl;
        broke = longer;
        here = λ held left told now. longer.torn held left told now;
        wrote = record { took = nothing x; later = omega arith };
        source_later = omega arith;
      }

-- what is told of the settled cartridge is so of the one that was mounted
pub settled_told : {T : Type 0} (t : tapes.Meaning T) (a : T) (b : UnitView T) (store : StoreView) (opening : HasOpened t a b store)
    (P : Cartridge → Type 0) (R : Option Cartridge → Type 0) →
    tape_calls.Tells t b.tape P → ((c : Cartridge) (is : IsOpened c store opening.steps) → P (settled is.table c) → R (Some c)) →
    IfSome (t.told a) R
settled_told t a b store opening P R told follows = by_told (t.told a) (t.told b.tape) opening.did.told opening.told told
  where
    by_told : (o p : Option (Option Cartridge)) → p ≡ option_map (effects opening.steps) o →
        IfSome o (λ held. IsSomeAnd held (λ c. IsOpened c store opening.steps)) →
        IfSome p (λ h. IfSome h P) → IfSome o R
    by_told None p is opened known = tt
    by_told (Some None) p is opened known = absurd opened
    by_told (Some (Some c)) p is opened known =
        let after : effects opening.steps (Some c) ≡ Some (settled opened.table c) =
        ap (λ (ss : List TapeStep). effects ss (Some c)) opened.settles ∙ settling_effects c opened.table opened.mounts.reads in
        follows c opened
        (subst (λ (h : Option Cartridge). IfSome h P) after
        (subst (λ (q : Option (Option Cartridge)). IfSome q (λ h. IfSome h P)) is known))

-- what is told of it, by what the store's host has learnt
pub record IsKnown (c : Cartridge) (store : StoreView) (mark : Bool) : Type 0 where
  pub protected : c.info.protected ≡ mark
  pub last : length store.words - 1 ≡ last_segment c

pub opened_known : {T : Type 0} (t : tapes.Meaning T) (a : T) (b : UnitView T) (store : StoreView) (opening : HasOpened t a b store)
    (mark : Bool) → is_protected b.drive.deck ≡ mark →
    tape_calls.Tells t b.tape (λ d. IsKnown d store mark)
opened_known t a b store opening mark is =
    let fits = opening.fits in
    by_known (t.told b.tape) (told_learnt t store.host b fits.host fits.agrees)
  where
    by_known : (o : Option (Option Cartridge)) → IfSome o (λ h. IfSome h (IsLearnt store.host)) →
        IfSome o (λ h. IfSome h (λ d. IsKnown d store mark))
    by_known None known = tt
    by_known (Some None) known = tt
    by_known (Some (Some d)) known =
        let fits = opening.fits in record {
          protected = known.protected ∙ sym (ap is_protected fits.host.deck) ∙ is;
          last = ap (λ (n : ℕ). n - 1) (fits.words ∙ ap (λ (n : ℕ). 28 * n) (sym known.length_told));
        }

-- .. and of the one that was mounted
pub known_before : (c : Cartridge) (store : StoreView) (mark : Bool) (steps : List TapeStep) → (is : IsOpened c store steps) →
    IsKnown (settled is.table c) store mark → IsKnown c store mark
known_before c store mark steps is known =
    let same : (settled is.table c).info ≡ c.info = (settled_keeps_table c is.table is.mounts.reads).info in
    record {
      protected = ap (λ (info : TapeInfo). info.protected) (sym same) ∙ known.protected;
      last = known.last ∙ ap (λ (info : TapeInfo). 28 * info.segments_per_track - 1) same;
    }

-- .. which is protected where the drive knows so
pub found_locked : {T : Type 0} (t : tapes.Meaning T) (a : T) (b : UnitView T) (store : StoreView) (opening : HasOpened t a b store) →
    is_protected b.drive.deck ≡ true →
    IfSome (t.told a) (λ held. IsSomeAnd held (λ c. c.info.protected ≡ true))
found_locked t a b store opening locked =
    settled_told t a b store opening (λ d. IsKnown d store true) (λ held. IsSomeAnd held (λ c. c.info.protected ≡ true))
    (opened_known t a b store opening true locked)
    (λ c is known. (known_before c store true opening.steps is known).protected)

pub never_both : (held : Option Cartridge) → IfSome held (λ c. c.info.protected ≡ false) → IsSomeAnd held (λ c. c.info.protected ≡ true) → ⊥
never_both None free locked = locked
never_both (Some c) free locked = cc

-- the cartridge is not protected, where something is not so that is so of a protected one
pub unlocked_where : {T : Type 0} (b : UnitView T) (P : Type 0) → (is_protected b.drive.deck ≡ true → P) → (P → ⊥) →
    is_protected b.drive.deck ≡ false
unlocked_where b P locked never = by_mark (is_protected b.drive.deck) refl
  where
    by_mark : (m : Bool) → is_protected b.drive.deck ≡ m → is_protected b.drive.deck ≡ false
    by_mark true is = absurd (never (locked is))
    by_mark false is = is

-- an answer other than Protected, which comes just where it is protected
pub unlocked : {T : Type 0} (b : UnitView T) (f : StoreFault) → (f ≡ fault.Protected) ↔ (is_protected b.drive.deck ≡ true) →
    f ≢ fault.Protected → is_protected b.drive.deck ≡ false
unlocked b f mark other = unlocked_where b (f ≡ fault.Protected) mark.1 other
