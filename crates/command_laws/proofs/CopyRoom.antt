-- A copy that is refused as full names the length of the next volume, and the room behind those that were copied.
use Rattle.std.proofs.Common.{◌≡◌, ℕ, suc, List, [], ◌∷◌, Option, Some, None, IfSome, IsSomeAnd, inl, inr, refl, sym, ap, ◌∙◌, subst}
use Rattle.std.proofs.Common.{slice_get, take}
use Rattle.cartridge_spec.specs.Appending.{room}
use Rattle.cartridge_spec.specs.Mounting.{Mounting, Mounts}
use Rattle.cartridge_spec.specs.Table.{Entry}
use Rattle.command_laws.proofs.CommandEnds.{over_at}
use Rattle.command_laws.specs.CopyRoom.{FullAnswerNamesRoom, FullCopyNamesRoom, NamesRoom, list_with}
use Rattle.command_spec.specs.Append.{room_in}
use Rattle.command_spec.specs.CopyGiven.{MountsSide}
use Rattle.command_spec.specs.CopyPromises.{CopyEnds, CopyWent, IsUnasked}
use Rattle.command_spec.specs.Copying.{Compares, Copies, CopiesVolume, CopyOutcome, CopyYields, FromMounted, Side, ToDoes}
use Rattle.command_spec.specs.Copying.{ToMounted, behind_copy, first_difference, foreign_fault, giving_status, kept_on, length_on, missing}
use Rattle.command_spec.specs.Copying.{side_of}
use Rattle.command_spec.specs.Restore.{GivingEnd, LostIn, MismatchIn, Restored}
use Rattle.command_spec.specs.declared.copy_status.CopyStatus.{CopyStatus}
use Rattle.qic_base.specs.Acts.{Act}
use Rattle.qic_base.specs.Cartridge.{Cartridge}
use Rattle.cartridge_spec.specs.Mounting as mounting
use Rattle.qic_base.specs.declared.store_fault.StoreFault.TheVariants as fault
use Rattle.command_spec.specs.declared.copy_status.CopyStatus.TheVariants as status
use Rattle.qic_base.specs.Sink as sinks
use Rattle.qic_base.specs.Tape as tapes

-- among these volumes, behind this list
record NamesAmong (from : Side) (es : List Entry) (words : List ℕ) (entries : List Entry) (need have : ℕ) : Type 0 where
  count : ℕ
  volume : Entry
  next : slice_get es count ≡ Some volume
  needs : need ≡ length_on from volume
  has : have ≡ room words (list_with from (take count es) words entries)

module _ (need have : ℕ) where
  abbrev full : CopyStatus
  full = status.To (fault.Full need have)

  ending_no : (ending : GivingEnd) → full ≡ giving_status ending → ⊥
  ending_no Restored is = cc
  ending_no (LostIn segment lost) is = cc
  ending_no (MismatchIn segment) is = cc

  volume_full : (from : Side) (e : Entry) (to : Side) (acts : List Act) → CopiesVolume from e to acts full →
      (need ≡ length_on from e) × (have ≡ room to.words to.entries)
  volume_full from e to acts (inl lost) = absurd (let is : full ≡ status.To (fault.Lost 2 lost.lost) = lost.answered in cc)
  volume_full from e to acts (inr (table, reads, inl is)) =
      let same : full ≡ status.To (fault.Full (length_on from e) (room_in (kept_on to table))) = is.answered in ((cc), (cc))
  volume_full from e to acts (inr (table, reads, inr given)) = absurd (ending_no given.ending given.answered)

  copies_full : (from : Side) (es : List Entry) (to : Side) (acts : List Act) → Copies from es to acts full →
      NamesAmong from es to.words to.entries need have
  copies_full from [] to acts (does, is) = absurd (cc)
  copies_full from (e ∷ es) to acts (inl (other, does)) =
      let names = volume_full from e to acts does in
      record { count = 0; volume = e; next = refl; needs = names.0; has = names.1 }
  copies_full from (e ∷ es) to acts (inr (first, rest, parts, does, later)) =
      let names = copies_full from es (behind_copy from e to first) rest later in
      record { count = suc names.count; volume = names.volume; next = names.next; needs = names.needs; has = names.has }

  compares_full : (from to : Side) (difference : Option ℕ) (acts : List Act) → Compares from to difference acts full →
      NamesRoom from to need have
  compares_full from to (Some number) acts (does, is) = absurd (cc)
  compares_full from to None acts does =
      let names = copies_full from (missing from to) to acts does in
      record { count = names.count; volume = names.volume; next = names.next; needs = names.needs; has = names.has }

  abbrev OfBoth : (source : Side) → (d : Cartridge) → Type 0
  OfBoth source d = (target : Side) × MountsSide d target × NamesRoom source target need have

  mounted_full : (from : Side) (d : Cartridge) (m : Mounting) (acts : List Act) → Mounts d m → ToMounted from d m acts full → OfBoth from d
  mounted_full from d mounting.NotFormatted acts mounts (does, is) = absurd (cc)
  mounted_full from d (mounting.Foreign found) acts mounts (does, is) = absurd (foreign_no is)
    where
      foreign_no : full ≡ status.To (foreign_fault found) → ⊥
      foreign_no is = cc
  mounted_full from d (mounting.TableLost lost) acts mounts (does, is) = absurd (cc)
  mounted_full from d mounting.TableMismatch acts mounts (does, is) = absurd (cc)
  mounted_full from d (mounting.Mounted header words table entries) acts mounts (inl (locked, does, is)) = absurd (cc)
  mounted_full from d (mounting.Mounted header words table entries) acts mounts (inr (free, (rest, does, compares))) =
      let to : Side = side_of d words table entries in
      (to, (header, (table, mounts, refl)), compares_full from to (first_difference from to) rest compares)

  to_full : (from : Side) (held : Option Cartridge) (acts : List Act) → ToDoes from held acts full → IsSomeAnd held (OfBoth from)
  to_full from None acts (does, is) = absurd (cc)
  to_full from (Some d) acts (m, mounts, does) = mounted_full from d m acts mounts does

pub full_copy_names_room : FullCopyNamesRoom
full_copy_names_room from to outcome need have yields is = by_source from yields
  where
    refused_no : (why : CopyStatus) → outcome ≡ record { settling = []; acts = []; status = why } →
        (status.To (fault.Full need have) ≡ why → ⊥) → ⊥
    refused_no why same other = other (sym is ∙ ap (λ (o : CopyOutcome). o.status) same)

    Names : Cartridge → Type 0
    Names c = IsSomeAnd to (λ d. (source : Side) × (target : Side) × MountsSide c source × MountsSide d target
        × NamesRoom source target need have)

    of_both : (held : Option Cartridge) (c : Cartridge) (source : Side) → MountsSide c source →
        IsSomeAnd held (OfBoth need have source) → IsSomeAnd held (λ d. (source : Side) × (target : Side) × MountsSide c source
        × MountsSide d target × NamesRoom source target need have)
    of_both None c source mounted names = absurd names
    of_both (Some d) c source mounted (target, mounts, names) = (source, target, mounted, mounts, names)

    by_mounting : (c : Cartridge) (m : Mounting) → Mounts c m → FromMounted c m to outcome → Names c
    by_mounting c mounting.NotFormatted mounts same = absurd (refused_no (status.From fault.NotFormatted) same (λ no. cc))
    by_mounting c (mounting.Foreign found) mounts same = absurd (refused_no (status.From (foreign_fault found)) same (λ no. cc))
    by_mounting c (mounting.TableLost lost) mounts same = absurd (refused_no (status.From (fault.Lost 2 lost)) same (λ no. cc))
    by_mounting c mounting.TableMismatch mounts same = absurd (refused_no (status.From fault.TableMismatch) same (λ no. cc))
    by_mounting c (mounting.Mounted header words table entries) mounts (settles, does) =
        let source : Side = side_of c words table entries in
        of_both to c source (header, (table, mounts, refl))
        (to_full need have source to outcome.acts (subst (λ (answer : CopyStatus). ToDoes source to outcome.acts answer) is does))

    by_source : (held : Option Cartridge) → CopyYields held to outcome → IsSomeAnd held Names
    by_source None same = absurd (refused_no status.FromAbsent same (λ no. cc))
    by_source (Some c) (m, mounts, does) = by_mounting c m mounts does

pub full_answer_names_room : {A B K : Type 0} (a : tapes.Meaning A) (b : tapes.Meaning B) (k : sinks.Meaning K) → FullAnswerNamesRoom a b k
full_answer_names_room a b k words old new answer from to need have promises from_told to_told is =
    let ends : CopyEnds a b k old new answer from to =
    over_at (b.told old.to) (λ held. CopyEnds a b k old new answer from held) to
    (over_at (a.told old.from) (λ held. IfSome (b.told old.to) (λ there. CopyEnds a b k old new answer held there)) from
    (promises.ends asked) from_told) to_told in
    let went : CopyWent a b k old new (status.To (fault.Full need have)) from to =
    subst (λ (found : CopyStatus). CopyEnds a b k old new found from to) is ends in
    full_copy_names_room from to went.outcome need have went.plain (sym went.answered)
  where
    asked : IsUnasked answer → ⊥
    asked (inl unasked) = let no = sym is ∙ unasked in cc
    asked (inr unasked) = let no = sym is ∙ unasked in cc
