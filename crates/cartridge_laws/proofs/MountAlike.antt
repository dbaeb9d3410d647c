-- A table whose settling was stopped is settled as if it had not been.
use Rattle.std.proofs.Common.{◌≡◌, ℕ, Bool, true, false, List, [], Option, Some, IsSomeAnd, refl, ap, ◌∙◌}
use Rattle.std.specs.Prelude.{if◌then◌else◌}
use Rattle.cartridge_laws.proofs.FormatWriting.{some_and, some_weaker}
use Rattle.cartridge_laws.proofs.MountFar.{length-table_block}
use Rattle.cartridge_laws.proofs.MountSettling.{settling_writes, stopped_way}
use Rattle.cartridge_laws.proofs.MountStops.{IsOnTheWay, open_alike, some_both}
use Rattle.cartridge_laws.specs.MountLaws.{StoppedSettlesAlike}
use Rattle.cartridge_spec.specs.TableSegment.{TableIs}
use Rattle.cartridge_spec.specs.Mounting.{settled}
use Rattle.cartridge_spec.specs.Says.{whole_mask, with_parity}
use Rattle.cartridge_spec.specs.Settling.{writes_of, changed_by}
use Rattle.cartridge_spec.specs.Shape.{usable_places}
use Rattle.qic_base.specs.Cartridge.{Cartridge}
use Rattle.qic_base.specs.Step.{Step, Torn}
use Rattle.qic_base.specs.declared.tape.TapeInfo.{TapeInfo}

-- on a protected cartridge nothing was written
same_choice : (c : Cartridge) (area : List (List ℕ)) (left : Option Cartridge) (b : Bool) → TableIs c area → IsSomeAnd left (IsOnTheWay c) →
    Torn (if b then [] else settling_writes c area) (Some c) left →
    IsSomeAnd left (λ d. (if b then d else changed_by (writes_of 2 (usable_places whole_mask) (with_parity area)) d)
    ≡ (if b then c else changed_by (writes_of 2 (usable_places whole_mask) (with_parity area)) c))
same_choice c area left true table way torn = some_and (λ d. d ≡ c) c left refl torn
same_choice c area left false table way torn =
    some_weaker left (λ d on. open_alike (with_parity area) c d (length-table_block c area table) on) way

pub stopped_settles_alike : StoppedSettlesAlike
stopped_settles_alike c area left table torn =
    let writes : List Step = writes_of 2 (usable_places whole_mask) (with_parity area) in
    let way : IsSomeAnd left (IsOnTheWay c) = stopped_way c area left torn in
    let both = some_both (IsOnTheWay c) (λ d. (if c.info.protected then d else changed_by writes d) ≡ settled area c) left way
    (same_choice c area left c.info.protected table way torn) in
    some_weaker left (λ d known. ap (λ (i : TapeInfo). if i.protected then d else changed_by writes d) known.0.info ∙ known.1) both
