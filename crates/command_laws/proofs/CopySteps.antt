-- No copy puts in a new cartridge, so that a volume table that takes each write goes on to do so.
use Rattle.std.proofs.Common.{◌≡◌, ℕ, List, [], ◌∷◌, ◌++◌, length, Option, Some, None, inl, inr, sym, ap, ◌∙◌, subst, append_assoc}
use Rattle.cartridge_laws.proofs.ChangeLive.{steps_keep_live}
use Rattle.cartridge_laws.specs.ChangeSteps.{HasNoRenew}
use Rattle.cartridge_spec.specs.Mounting.{Mounting}
use Rattle.cartridge_spec.specs.Table.{Entry}
use Rattle.command_laws.proofs.CommandSteps.{AreNoRenew, append_none, none_both, none_in_settling, settled_none}
use Rattle.command_laws.specs.CopyLaws.{CopiedTableLives}
use Rattle.command_spec.specs.Append.{Kept, entry_acts, room_in, taking}
use Rattle.command_spec.specs.Copying.{Compares, Copies, CopiesVolume, CopyOutcome, CopyYields, DoneOf, FromMounted, IsBegun, Side, ToDoes}
use Rattle.command_spec.specs.Copying.{ToMounted, behind_copy, copied_behind, copy_acts, first_difference, kept_on, length_on, missing}
use Rattle.command_spec.specs.Copying.{side_of}
use Rattle.command_spec.specs.Outcome.{settling_act}
use Rattle.command_spec.specs.Restore.{GivingEnd, LostIn, MismatchIn, Restored}
use Rattle.command_spec.specs.declared.copy_status.CopyStatus.{CopyStatus}
use Rattle.qic_base.proofs.Joins.{steps_of-append}
use Rattle.qic_base.specs.Acts.{Act, steps_of}
use Rattle.qic_base.specs.Cartridge.{Cartridge}
use Rattle.qic_base.specs.Step.{Step}
use Rattle.cartridge_spec.specs.Mounting as mounting

none_front : (xs ys : List Step) → HasNoRenew (xs ++ ys) → HasNoRenew xs
none_front [] ys none = tt
none_front (x ∷ xs) ys none = (none.0, none_front xs ys none.1)

acts_front : (front rest acts : List Act) → front ++ rest ≡ acts → AreNoRenew acts → AreNoRenew front
acts_front front rest acts parts none =
    none_front (steps_of front) (steps_of rest) (subst HasNoRenew (ap steps_of (sym parts) ∙ steps_of-append front rest) none)

acts_none : (acts other : List Act) → acts ≡ other → AreNoRenew other → AreNoRenew acts
acts_none acts other is none = subst AreNoRenew (sym is) none

module _ (from : Side) (e : Entry) (to : Side) where
  all_none : (table : List (List ℕ)) (bytes : List ℕ) → AreNoRenew (copy_acts from e to table bytes)
  all_none table bytes =
      append_none (kept_on to table) e.name e.date (Some (length_on from e)) (copied_behind (length to.entries)) bytes
      (none_in_settling table to.cartridge)

  begun_none : (table : List (List ℕ)) (bytes : List ℕ) (acts : List Act) → IsBegun from e to table bytes acts → AreNoRenew acts
  begun_none table bytes acts begun =
      let kept : Kept = kept_on to table in
      let last : List Act = entry_acts kept e.name e.date (copied_behind (length to.entries))
      (taking (room_in kept) (Some (length_on from e)) bytes) in
      acts_front acts (begun.rest ++ last) (copy_acts from e to table bytes)
      (sym (append_assoc acts begun.rest last) ∙ ap (λ (zs : List Act). zs ++ last) begun.parts)
      (all_none table bytes)

  volume_none : (acts : List Act) (answer : CopyStatus) → CopiesVolume from e to acts answer → AreNoRenew acts
  volume_none acts answer (inl lost) = acts_none acts [] lost.does tt
  volume_none acts answer (inr (table, reads, inl full)) = acts_none acts (copy_acts from e to table []) full.does (all_none table [])
  volume_none acts answer (inr (table, reads, inr given)) = by_ending given.ending given.does
    where
      by_ending : (ending : GivingEnd) → DoneOf from e to table given.bytes ending acts → AreNoRenew acts
      by_ending Restored does = acts_none acts (copy_acts from e to table given.bytes) does (all_none table given.bytes)
      by_ending (LostIn segment lost) does = begun_none table given.bytes acts does
      by_ending (MismatchIn segment) does = begun_none table given.bytes acts does

copies_none : (from : Side) (es : List Entry) (to : Side) (acts : List Act) (answer : CopyStatus) → Copies from es to acts answer →
    AreNoRenew acts
copies_none from [] to acts answer does = acts_none acts _ does.0 tt
copies_none from (e ∷ es) to acts answer (inl (other, does)) = volume_none from e to acts answer does
copies_none from (e ∷ es) to acts answer (inr (first, rest, parts, does, more)) =
    acts_none acts (first ++ rest) (sym parts)
    (subst HasNoRenew (sym (steps_of-append first rest))
    (none_both (steps_of first) (steps_of rest) (volume_none from e to first _ does)
    (copies_none from es (behind_copy from e to first) rest answer more)))

compares_none : (from to : Side) (difference : Option ℕ) (acts : List Act) (answer : CopyStatus) → Compares from to difference acts answer →
    AreNoRenew acts
compares_none from to (Some number) acts answer does = acts_none acts [] does.0 tt
compares_none from to None acts answer does = copies_none from (missing from to) to acts answer does

mounted_none : (from : Side) (d : Cartridge) (m : Mounting) (acts : List Act) (answer : CopyStatus) → ToMounted from d m acts answer →
    AreNoRenew acts
mounted_none from d mounting.NotFormatted acts answer does = acts_none acts [] does.0 tt
mounted_none from d (mounting.Foreign found) acts answer does = acts_none acts [] does.0 tt
mounted_none from d (mounting.TableLost lost) acts answer does = acts_none acts [] does.0 tt
mounted_none from d mounting.TableMismatch acts answer does = acts_none acts [] does.0 tt
mounted_none from d (mounting.Mounted header words table entries) acts answer (inl locked) = acts_none acts [] locked.1 tt
mounted_none from d (mounting.Mounted header words table entries) acts answer (inr (free, (rest, is, does))) =
    let to : Side = side_of d words table entries in
    acts_none acts (settling_act table d ∷ rest) is
    (settled_none table d rest (compares_none from to (first_difference from to) rest answer does))

to_none : (from : Side) (held : Option Cartridge) (acts : List Act) (answer : CopyStatus) → ToDoes from held acts answer → AreNoRenew acts
to_none from None acts answer does = acts_none acts [] does.0 tt
to_none from (Some d) acts answer (m, mounts, does) = mounted_none from d m acts answer does

from_none : (c : Cartridge) (m : Mounting) (to : Option Cartridge) (outcome : CopyOutcome) → FromMounted c m to outcome →
    AreNoRenew outcome.acts
from_none c mounting.NotFormatted to outcome is = acts_none outcome.acts [] (ap (λ (o : CopyOutcome). o.acts) is) tt
from_none c (mounting.Foreign found) to outcome is = acts_none outcome.acts [] (ap (λ (o : CopyOutcome). o.acts) is) tt
from_none c (mounting.TableLost lost) to outcome is = acts_none outcome.acts [] (ap (λ (o : CopyOutcome). o.acts) is) tt
from_none c mounting.TableMismatch to outcome is = acts_none outcome.acts [] (ap (λ (o : CopyOutcome). o.acts) is) tt
from_none c (mounting.Mounted header words table entries) to outcome (settles, does) =
    to_none (side_of c words table entries) to outcome.acts outcome.status does

copy_none : (from to : Option Cartridge) (outcome : CopyOutcome) → CopyYields from to outcome → AreNoRenew outcome.acts
copy_none None to outcome is = acts_none outcome.acts [] (ap (λ (o : CopyOutcome). o.acts) is) tt
copy_none (Some c) to outcome (m, mounts, does) = from_none c m to outcome does

pub copied_table_lives : CopiedTableLives
copied_table_lives from d outcome left live plain torn = steps_keep_live (steps_of outcome.acts) d left
    (copy_none from (Some d) outcome plain) live torn
