-- A copy does nothing to its target but to write sectors, so that the marks of that are as they were, done or stopped.
use Rattle.std.proofs.Common.{◌≡◌, ℕ, ◌/◌, Bool, true, false, cond, List, [], ◌∷◌, ◌++◌, length, map, Option, Some, None, IfSome, IsSomeAnd}
use Rattle.std.proofs.Common.{inl, inr, refl, sym, ap, ◌∙◌, subst}
use Rattle.cartridge_laws.proofs.WritesKeep.{torn_writes_keep}
use Rattle.cartridge_laws.specs.AppendWrites.{AreWrites, EachIs, IsFree, IsWrite}
use Rattle.cartridge_laws.specs.Table.{last_end}
use Rattle.cartridge_spec.specs.Appending.{entry_behind, table_writes}
use Rattle.cartridge_spec.specs.Says.{with_parity}
use Rattle.cartridge_spec.specs.Settling.{block_writes, settling_places, settling_steps, writes_of}
use Rattle.cartridge_spec.specs.Shape.{sector_at}
use Rattle.cartridge_spec.specs.Table.{Entry, table_with}
use Rattle.cartridge_spec.specs.Volumes.{Plain, Stands}
use Rattle.command_laws.proofs.CopyLeaving.{given_map, held_values, to_does}
use Rattle.command_laws.proofs.CopyStanding.{behind_last}
use Rattle.command_spec.specs.Append.{Fits, Kept, Taking, TooLong, TooShort, entry_acts, input_writes, room_in, taking}
use Rattle.command_spec.specs.CopyGiven.{GivenBy}
use Rattle.command_spec.specs.Copying.{Copies, CopiesVolume, CopyOutcome, CopyYields, DoneOf, IsBegun, Side, behind_copy, copied_behind}
use Rattle.command_spec.specs.Copying.{copy_acts, kept_on, length_on}
use Rattle.command_spec.specs.Outcome.{settling_act}
use Rattle.command_spec.specs.Restore.{GivingEnd, LostIn, MismatchIn, Restored}
use Rattle.command_spec.specs.declared.copy_status.CopyStatus.{CopyStatus}
use Rattle.qic_base.proofs.Joins.{steps_of-append}
use Rattle.qic_base.specs.Acts.{Act, steps_of}
use Rattle.qic_base.specs.Cartridge.{Cartridge}
use Rattle.qic_base.specs.CartridgeTerms.{IsCartridge}
use Rattle.qic_base.specs.Step.{FormatSegment, NewSector, Renew, SetProtected, SetReferenced, Spoil, Step, Torn, Upgrade, Wear}
use Rattle.qic_base.specs.Step.{WriteSectors}

-- any sector
abbrev Any : ℕ → ℕ → List ℕ → Type 0
Any segment sector bytes = Unit {0}

abbrev OnlyWrite : List Act → Type 0
OnlyWrite acts = AreWrites Any (steps_of acts)

-- ---- lists of steps

each_any : (of : ℕ → ℕ → List ℕ → Type 0) (segment : ℕ) (new : List NewSector) → EachIs of segment new → EachIs Any segment new
each_any of segment [] each = tt
each_any of segment (new ∷ more) each = (tt, each_any of segment more each.1)

write_any : (of : ℕ → ℕ → List ℕ → Type 0) (s : Step) → IsWrite of s → IsWrite Any s
write_any of (WriteSectors segment new) each = each_any of segment new each
write_any of (FormatSegment segment) is = is
write_any of SetReferenced is = is
write_any of (SetProtected on) is = is
write_any of (Renew n) is = is
write_any of (Wear segment sector) is = is
write_any of (Spoil segment sector) is = is
write_any of Upgrade is = is

writes_any : (of : ℕ → ℕ → List ℕ → Type 0) (ss : List Step) → AreWrites of ss → AreWrites Any ss
writes_any of [] are = tt
writes_any of (s ∷ ss) are = (write_any of s are.0, writes_any of ss are.1)

both_any : (xs ys : List Step) → AreWrites Any xs → AreWrites Any ys → AreWrites Any (xs ++ ys)
both_any [] ys first next = next
both_any (x ∷ xs) ys first next = (first.0, both_any xs ys first.1 next)

front_any : (xs ys : List Step) → AreWrites Any (xs ++ ys) → AreWrites Any xs
front_any [] ys all = tt
front_any (x ∷ xs) ys all = (all.0, front_any xs ys all.1)

of_any : (segment : ℕ) (places : List ℕ) (sectors : List (List ℕ)) → AreWrites Any (writes_of segment places sectors)
of_any segment [] sectors = tt
of_any segment (place ∷ places) [] = tt
of_any segment (place ∷ places) (bytes ∷ sectors) = ((tt, tt), of_any segment places sectors)

block_any : (block : List (List ℕ)) (places : List ℕ) → AreWrites Any (block_writes block places)
block_any block places = of_any 2 places (map (sector_at block) places)

settling_any : (table : List (List ℕ)) (c : Cartridge) → AreWrites Any (settling_steps table c)
settling_any table c = by_mark c.info.protected
  where
    by_mark : (b : Bool) → AreWrites Any (cond b [] (block_writes (with_parity table) (settling_places c table)))
    by_mark true = tt
    by_mark false = block_any (with_parity table) (settling_places c table)

-- ---- lists of acts

acts_any : (acts other : List Act) → acts ≡ other → OnlyWrite other → OnlyWrite acts
acts_any acts other is only = subst OnlyWrite (sym is) only

join_any : (xs ys : List Act) → OnlyWrite xs → OnlyWrite ys → OnlyWrite (xs ++ ys)
join_any xs ys first next = subst (AreWrites Any) (sym (steps_of-append xs ys)) (both_any (steps_of xs) (steps_of ys) first next)

module _ (from : Side) (e : Entry) (to : Side) where
  abbrev written : (bytes : List ℕ) → List Act
  written bytes = input_writes to.words to.entries (Some (length_on from e)) bytes

  input_any : (table : List (List ℕ)) (bytes : List ℕ) → OnlyWrite (written bytes)
  input_any table bytes = writes_any (IsFree (last_end to.entries)) (steps_of (written bytes)) (behind_last (kept_on to table)
      (length_on from e) bytes)

  begin_any : (table : List (List ℕ)) (bytes : List ℕ) →
      OnlyWrite (record { steps = (kept_on to table).settling; text = [] } ∷ written bytes)
  begin_any table bytes = both_any (settling_steps table to.cartridge) (steps_of (written bytes)) (settling_any table to.cartridge)
      (input_any table bytes)

  entry_any : (kept : Kept) (took : Taking) → OnlyWrite (entry_acts kept e.name e.date (copied_behind (length to.entries)) took)
  entry_any kept (Fits bytes) =
      let new : List (List ℕ) = table_with kept.table (length kept.entries) (entry_behind kept.words kept.entries e.name e.date bytes) in
      both_any (table_writes (length kept.entries / 8) new) []
      (block_any (with_parity new) (length kept.entries / 8 ∷ 29 ∷ 30 ∷ 31 ∷ [])) tt
  entry_any kept (TooLong need have) = tt
  entry_any kept (TooShort promised read) = tt

  all_any : (table : List (List ℕ)) (bytes : List ℕ) → OnlyWrite (copy_acts from e to table bytes)
  all_any table bytes =
      let kept : Kept = kept_on to table in
      join_any (record { steps = kept.settling; text = [] } ∷ written bytes)
      (entry_acts kept e.name e.date (copied_behind (length to.entries)) (taking (room_in kept) (Some (length_on from e)) bytes))
      (begin_any table bytes) (entry_any kept (taking (room_in kept) (Some (length_on from e)) bytes))

  begun_any : (table : List (List ℕ)) (bytes : List ℕ) (acts : List Act) → IsBegun from e to table bytes acts → OnlyWrite acts
  begun_any table bytes acts begun =
      front_any (steps_of acts) (steps_of begun.rest) (subst (AreWrites Any) (ap steps_of (sym begun.parts) ∙ steps_of-append acts
      begun.rest) (begin_any table bytes))

  volume_any : (acts : List Act) (answer : CopyStatus) → CopiesVolume from e to acts answer → OnlyWrite acts
  volume_any acts answer (inl lost) = acts_any acts [] lost.does tt
  volume_any acts answer (inr (table, reads, inl full)) = acts_any acts (copy_acts from e to table []) full.does (all_any table [])
  volume_any acts answer (inr (table, reads, inr given)) = by_ending given.ending given.does
    where
      by_ending : (ending : GivingEnd) → DoneOf from e to table given.bytes ending acts → OnlyWrite acts
      by_ending Restored does = acts_any acts (copy_acts from e to table given.bytes) does (all_any table given.bytes)
      by_ending (LostIn segment lost) does = begun_any table given.bytes acts does
      by_ending (MismatchIn segment) does = begun_any table given.bytes acts does

copies_any : (from : Side) (es : List Entry) (to : Side) (acts : List Act) (answer : CopyStatus) → Copies from es to acts answer →
    OnlyWrite acts
copies_any from [] to acts answer does = acts_any acts _ does.0 tt
copies_any from (e ∷ es) to acts answer (inl (other, does)) = volume_any from e to acts answer does
copies_any from (e ∷ es) to acts answer (inr (first, rest, parts, does, more)) =
    acts_any acts (first ++ rest) (sym parts)
    (join_any first rest (volume_any from e to first _ does) (copies_any from es (behind_copy from e to first) rest answer more))

settled_any : (d : Cartridge) (other : Plain) (acts rest : List Act) → acts ≡ settling_act other.table_area d ∷ rest → OnlyWrite rest →
    OnlyWrite acts
settled_any d other acts rest is only =
    acts_any acts (settling_act other.table_area d ∷ rest) is
    (both_any (settling_steps other.table_area d) (steps_of rest) (settling_any other.table_area d) only)

-- ---- the outcome

pub copy_keeps_marks : (from : Option Cartridge) (d : Cartridge) (other : Plain) (outcome : CopyOutcome) (left : Option Cartridge) →
    IfSome from IsCartridge → Stands d other → CopyYields from (Some d) outcome → Torn (steps_of outcome.acts) (Some d) left →
    IsSomeAnd left (λ f. f.info ≡ d.info)
copy_keeps_marks from d other outcome left whole standing yields torn =
    torn_writes_keep Any (λ f. f.info ≡ d.info) (steps_of outcome.acts) d left
    (λ segment new is. record { worn = λ f same. same; written = λ f same. same }) only refl torn
  where
    by_given : (held : Option Cartridge) → GivenBy held other (λ side. OnlyWrite outcome.acts) → OnlyWrite outcome.acts
    by_given None given = absurd given
    by_given (Some c) (side, mounts, like, only) = only

    only : OnlyWrite outcome.acts
    only = elim (to_does d other standing outcome from (held_values from whole) yields) [
      | inl copies ↦
          by_given from (given_map from other _ (λ side. OnlyWrite outcome.acts)
          (λ side like to. settled_any d other outcome.acts to.rest to.acts (copies_any side _ _ to.rest outcome.status to.copies)) copies)
      | inr none ↦ elim none.acts [
        | inl is ↦ acts_any outcome.acts [] is tt
        | inr (reads, is) ↦ settled_any d other outcome.acts [] is tt
      ]
    ]
