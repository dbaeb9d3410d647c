-- The marks that the drive knows of stay those of the tape's cartridge.
use Rattle.std.proofs.Common.{◌≡◌, ℕ, ◌⊎◌, inl, inr, true, false, List, [], ◌∷◌, refl, sym, ap, ◌∙◌, subst, Some, None, Option, is_some}
use Rattle.std.proofs.Common.{IfSome, IsSomeAnd}
use Rattle.std.specs.Option.{option_map}
use Rattle.qic_base.specs.Cartridge.{Cartridge}
use Rattle.qic_base.specs.Step.{Step, NewSector, WriteSectors, FormatSegment, SetReferenced, Wear, effects, Torn, SegmentBecame}
use Rattle.qic_base.specs.Step.{ClosingView, OpeningView}
use Rattle.qic_base.specs.Tape.{Meaning, Done, Broke}
use Rattle.qic_base.specs.declared.tape.TapeInfo.{TapeInfo}
use Rattle.qic_base.proofs.SectorsWritten.{StayWritten, half_keeps, sectors_keep}
use Rattle.qic_base.proofs.Steps.{Torn-all}
use Rattle.drive_spec.specs.Terms.{referenced_as}
use Rattle.drive_states.specs.Unit.{UnitView}
use Rattle.host_driver.specs.Fits.{AgreesWithTape}

-- steps that leave a cartridge's length and marks, done or stopped
abbrev pub KeepsInfo : List Step → Type 0
KeepsInfo steps = (info : TapeInfo) (held left : Option Cartridge) → Torn steps held left → IsSomeAnd held (λ c. c.info ≡ info) →
    IsSomeAnd left (λ c. c.info ≡ info)

pub nothing_keeps : KeepsInfo []
nothing_keeps info held left torn h = subst (λ (o : Option Cartridge). IsSomeAnd o (λ c. c.info ≡ info)) (sym torn) h

-- no length and mark changes where one sector is worn, and where one is written
stay_written : (info : TapeInfo) (segment : ℕ) (new : List NewSector) → StayWritten (λ c. c.info ≡ info) segment new
stay_written info segment [] = tt
stay_written info segment (first ∷ more) = (record { worn = λ c is. is; written = λ c is. is }, stay_written info segment more)

pub write_keeps : (segment : ℕ) (new : List NewSector) → KeepsInfo (WriteSectors segment new ∷ [])
write_keeps segment new info None left torn h = absurd h
write_keeps segment new info (Some c) left (inl before) h = subst (λ (o : Option Cartridge). IsSomeAnd o (λ c. c.info ≡ info))
    (sym before) h
write_keeps segment new info (Some c) left (inr (inl inside)) h =
    half_keeps (λ c. c.info ≡ info) segment new c left (stay_written info segment new) h inside
write_keeps segment new info (Some c) left (inr (inr behind)) h = subst (λ (o : Option Cartridge). IsSomeAnd o (λ c. c.info ≡ info))
    (sym behind) (sectors_keep (λ c. c.info ≡ info) segment new c (stay_written info segment new) h)

pub wear_keeps : (segment sector : ℕ) → KeepsInfo (Wear segment sector ∷ [])
wear_keeps segment sector info None left torn h = absurd h
wear_keeps segment sector info (Some c) left (inl before) h = subst (λ (o : Option Cartridge). IsSomeAnd o (λ c. c.info ≡ info))
    (sym before) h
wear_keeps segment sector info (Some c) left (inr (inl inside)) h = absurd inside
wear_keeps segment sector info (Some c) left (inr (inr behind)) h = subst (λ (o : Option Cartridge). IsSomeAnd o (λ c. c.info ≡ info))
    (sym behind) h

half_format_keeps : (segment : ℕ) (info : TapeInfo) (old new : Cartridge) → SegmentBecame ClosingView segment old new
    ⊎ SegmentBecame OpeningView segment old new → old.info ≡ info → new.info ≡ info
half_format_keeps segment info old new (inl closing) h = closing.info ∙ h
half_format_keeps segment info old new (inr opening) h = opening.info ∙ h

pub format_keeps : (segment : ℕ) → KeepsInfo (FormatSegment segment ∷ [])
format_keeps segment info None left torn h = absurd h
format_keeps segment info (Some c) left (inl before) h = subst (λ (o : Option Cartridge). IsSomeAnd o (λ c. c.info ≡ info)) (sym before) h
format_keeps segment info (Some c) None (inr (inl inside)) h = absurd inside
format_keeps segment info (Some c) (Some new) (inr (inl inside)) h = half_format_keeps segment info c new inside h
format_keeps segment info (Some c) left (inr (inr behind)) h = subst (λ (o : Option Cartridge). IsSomeAnd o (λ c. c.info ≡ info))
    (sym behind) h

module _ {T : Type 0} (m : Meaning T) (u v : UnitView T) (steps : List Step) (keeps : KeepsInfo steps)
    (same : v.drive.deck.cartridge ≡ u.drive.deck.cartridge) where
  torn_agrees : is_some (m.told v.tape) ≡ is_some (m.told u.tape) →
      ((held left : Option Cartridge) → m.told u.tape ≡ Some held → m.told v.tape ≡ Some left → Torn steps held left) → AgreesWithTape m u →
      AgreesWithTape m v
  torn_agrees tells torn agrees =
      subst (λ (o : Option TapeInfo). IfSome o (λ info. IfSome (m.told v.tape) (λ there. IsSomeAnd there (λ c. c.info ≡ info)))) (sym same)
      (by_cartridge u.drive.deck.cartridge agrees)
    where
      by_told : (info : TapeInfo) (old new : Option (Option Cartridge)) → m.told u.tape ≡ old → m.told v.tape ≡ new →
          is_some new ≡ is_some old →
          IfSome old (λ there. IsSomeAnd there (λ c. c.info ≡ info)) → IfSome new (λ there. IsSomeAnd there (λ c. c.info ≡ info))
      by_told info old None p q t h = tt
      by_told info None (Some left) p q t h = cc
      by_told info (Some held) (Some left) p q t h = keeps info held left (torn held left p q) h

      by_cartridge : (o : Option TapeInfo) → IfSome o (λ info. IfSome (m.told u.tape) (λ there. IsSomeAnd there (λ c. c.info ≡ info))) →
          IfSome o (λ info. IfSome (m.told v.tape) (λ there. IsSomeAnd there (λ c. c.info ≡ info)))
      by_cartridge None h = tt
      by_cartridge (Some info) h = by_told info (m.told u.tape) (m.told v.tape) refl refl tells h

  pub broke_agrees : Broke m u.tape v.tape steps → AgreesWithTape m u → AgreesWithTape m v
  broke_agrees b = torn_agrees b.tells b.torn

  told_all : m.told v.tape ≡ option_map (effects steps) (m.told u.tape) → (held left : Option Cartridge) → m.told u.tape ≡ Some held →
      m.told v.tape ≡ Some left → Torn steps held left
  told_all told held left p q =
      let after : Some left ≡ Some (effects steps held) = sym q ∙ told ∙ ap (option_map (effects steps)) p in
      let is : left ≡ effects steps held = cc in
      subst (λ (o : Option Cartridge). Torn steps held o) (sym is) (Torn-all steps held)

  pub done_agrees : Done m u.tape v.tape steps → AgreesWithTape m u → AgreesWithTape m v
  done_agrees d = torn_agrees (tells (m.told u.tape) d.told) (told_all d.told)
    where
      tells : (o : Option (Option Cartridge)) → m.told v.tape ≡ option_map (effects steps) o → is_some (m.told v.tape) ≡ is_some o
      tells None e = ap is_some e
      tells (Some held) e = ap is_some e

-- the reference bursts were written, and the drive knows it
pub reference_agrees : {T : Type 0} (m : Meaning T) (u v : UnitView T) →
    v.drive.deck.cartridge ≡ referenced_as true u.drive.deck.cartridge →
    Done m u.tape v.tape (SetReferenced ∷ []) → AgreesWithTape m u → AgreesWithTape m v
reference_agrees m u v marks d agrees =
    subst (λ (o : Option TapeInfo). IfSome o (λ info. IfSome (m.told v.tape) (λ there. IsSomeAnd there (λ c. c.info ≡ info)))) (sym marks)
    (subst (λ (told : Option (Option Cartridge)). IfSome (referenced_as true u.drive.deck.cartridge)
    (λ info. IfSome told (λ there. IsSomeAnd there (λ c. c.info ≡ info)))) (sym d.told)
    (by_cartridge u.drive.deck.cartridge (m.told u.tape) agrees))
  where
    by_cartridge : (o : Option TapeInfo) (told : Option (Option Cartridge)) →
        IfSome o (λ info. IfSome told (λ there. IsSomeAnd there (λ c. c.info ≡ info))) →
        IfSome (referenced_as true o) (λ info. IfSome (option_map (effects (SetReferenced ∷ [])) told)
        (λ there. IsSomeAnd there (λ c. c.info ≡ info)))
    by_cartridge None told h = tt
    by_cartridge (Some info) None h = tt
    by_cartridge (Some info) (Some None) h = absurd h
    by_cartridge (Some info) (Some (Some c)) h = ap (λ (i : TapeInfo). record i { referenced = true }) h

pub unmarked : (c : Option TapeInfo) → referenced_as false (referenced_as true c) ≡ referenced_as false c
unmarked None = refl
unmarked (Some info) = refl
