-- What the reading of one piece of a volume gave, by the answer of the call.
use Rattle.std.proofs.Common.{◌≡◌, ℕ, List, Option, Some, None, IfSome, Result, Ok, Err, refl, sym, ap, subst}
use Rattle.qic_base.specs.Cartridge.{Cartridge}
use Rattle.qic_base.specs.Tape.{Meaning}
use Rattle.qic_base.specs.TapeCalls.{Tells}
use Rattle.qic_base.proofs.Steps.{Done-told, Broke-told}
use Rattle.cartridge_spec.specs.Volumes.{carrying}
use Rattle.command_spec.specs.Restore.{Piece, pieces, pieces_of}
use Rattle.volume_output.specs.Part.{PartEnds}
use Rattle.volume_output.specs.declared.extent.Extent.{Extent}
use Rattle.volume_output.specs.declared.part.PartRead.{PartRead}
use Rattle.volume_store.specs.Mounting.{StoreView}
use Rattle.volume_store.specs.Restoring.{FindsVolume, ReadsPart}
use Rattle.qic_base.specs.declared.store_fault.StoreFault.{StoreFault}
use Rattle.qic_base.specs.declared.store_fault.StoreFault.TheVariants as fault

-- where there is no such volume
pub no_part : {T : Type 0} (t : Meaning T) (old : T) (part : ℕ) (store : StoreView) (number : ℕ) (why : StoreFault) →
    FindsVolume store number (Err why) → ReadsPart t store store number part old old (Err why)
no_part t old part store number (fault.NoVolume asked count) finds =
    record { none = finds.0; named = finds.1; counted = finds.2; tape = refl; sink = refl }
no_part t old part store number f finds = absurd finds

module _ {T : Type 0} (t : Meaning T) (old new : T) (part : ℕ) (sectors : List (List ℕ)) where
  -- by the answer of the reading
  module _ (store : StoreView) (number : ℕ) (words : List ℕ) (volume : Extent) (same : words ≡ store.words)
      (found : FindsVolume store number (Ok volume)) where
    pub of_volume : (answer : Result (Option PartRead) StoreFault) →
        PartEnds t words (pieces_of words (carrying words volume.start volume.end) volume.bytes) part old new sectors answer →
        PartEnds t store.words (pieces store.words found.0) part old new sectors answer
    of_volume answer ends =
        subst (λ (v : Extent). PartEnds t store.words (pieces_of store.words (carrying store.words v.start v.end) v.bytes) part old new
        sectors answer) found.2
        (subst (λ (ws : List ℕ). PartEnds t ws (pieces_of ws (carrying ws volume.start volume.end) volume.bytes) part old new sectors
        answer) same ends)

    pub part_failed : (why : StoreFault) →
        PartEnds t words (pieces_of words (carrying words volume.start volume.end) volume.bytes) part old new sectors (Err why) →
        ReadsPart t store store number part old new (Err why)
    part_failed why ends = by_fault why (of_volume (Err why) ends)
      where
        by_fault : (why : StoreFault) → PartEnds t store.words (pieces store.words found.0) part old new sectors (Err why) →
            ReadsPart t store store number part old new (Err why)
        by_fault (fault.Lost segment lost) ends = (found.0, found.1, ends)
        by_fault (fault.Mismatch segment) ends = (found.0, found.1, ends)
        by_fault fault.Tape ends = (found.0, found.1, ends)
        by_fault f ends = absurd ends

  -- the tape was only read
  part_told : (words : List ℕ) (needed : List Piece) (answer : Result (Option PartRead) StoreFault) →
      PartEnds t words needed part old new sectors answer → t.told new ≡ t.told old
  part_told words needed (Ok None) ends = ap t.told ends.1
  part_told words needed (Ok (Some read)) ends = Done-told ends.2.did
  part_told words needed (Err (fault.Lost segment lost)) ends = Done-told ends.2.did
  part_told words needed (Err (fault.Mismatch segment)) ends = Done-told ends.2.did
  part_told words needed (Err fault.Tape) ends = Broke-told ends.2
  part_told words needed (Err f) ends = absurd ends

  pub part_tells : (words : List ℕ) (needed : List Piece) (answer : Result (Option PartRead) StoreFault) (P : Cartridge → Type 0) →
      PartEnds t words needed part old new sectors answer → Tells t old P → Tells t new P
  part_tells words needed answer P ends told =
      subst (λ (held : Option (Option Cartridge)). IfSome held (λ h. IfSome h P)) (sym (part_told words needed answer ends)) told
