-- Where a stopped copy is run again, all is there that the rest of it needs, if all was there that the first one needed.
use Rattle.std.proofs.Common.{◌⊎◌, ◌≡◌, ℕ, suc, ◌+◌, ◌-◌, ◌<◌, ◌≤◌, arith, true, List, length, drop, All, Option, Some, None, IsSomeAnd}
use Rattle.std.proofs.Common.{inl, inr, refl, sym, ap, ◌∙◌, subst, get_or, get_or-drop, slice_get}
use Rattle.std.proofs.lemmas.List.{length-drop}
use Rattle.std.proofs.lemmas.List.Elements.{All-get_or}
use Rattle.std.proofs.lemmas.Option.{slice_get-get_or}
use Rattle.cartridge_laws.proofs.FormatWriting.{some_and, some_weaker}
use Rattle.cartridge_laws.proofs.MountKeeping.{stopped_stands}
use Rattle.cartridge_laws.proofs.MountSettling.{stopped_settling}
use Rattle.cartridge_laws.proofs.MountStanding.{can_be_read}
use Rattle.cartridge_spec.specs.Appending.{has_room}
use Rattle.cartridge_spec.specs.Mounting.{Mounted, Mounts}
use Rattle.cartridge_spec.specs.Settling.{settling_steps}
use Rattle.cartridge_spec.specs.TableSegment.{CanBeRead}
use Rattle.cartridge_spec.specs.Volumes.{Plain, Stands, Volume, volume_length}
use Rattle.command_laws.proofs.CopyAgain.{stopped_copy_can_be_read, target_stands}
use Rattle.command_laws.proofs.CopyGoing.{copied_count, copy_goes_on}
use Rattle.command_laws.proofs.CopyMarks.{copy_keeps_marks}
use Rattle.command_laws.proofs.RestoreGivenBack.{few_alike, pieces_elsewhere}
use Rattle.command_laws.specs.CopyIntact.{CopyRunAgainIsDone}
use Rattle.command_spec.specs.Command.{IsUnprotected, ReadsAs}
use Rattle.command_spec.specs.Copied.{StandAlike, StandsUpTo, copied}
use Rattle.command_spec.specs.CopyPromises.{FromLeaves, ToLeaves}
use Rattle.command_spec.specs.Restore.{LosesFew, pieces_in}
use Rattle.qic_base.specs.Cartridge.{Cartridge, view_at}
use Rattle.qic_base.specs.CartridgeTerms.{IsCartridge}
use Rattle.qic_base.specs.Step.{Torn}
use Rattle.command_spec.specs.declared.copy_status.CopyStatus.TheVariants as status
use Rattle.qic_base.specs.Sink as sinks
use Rattle.qic_base.specs.Tape as tapes

-- ---- the source

-- each segment of these volumes has lost few sectors
abbrev HaveFew : Cartridge → Plain → (volumes : List Volume) → Type 0
HaveFew c one volumes = All (λ volume. All (LosesFew c one.words) (pieces_in one volume)) volumes

-- so have those of a cartridge that differs in the table alone, of fewer volumes
few_elsewhere : (c f : Cartridge) (one : Plain) (n m : ℕ) → ReadsAs c one → n ≤ m →
    ((segment sector : ℕ) → sector < 32 → (segment ≡ 2 → ⊥) → view_at f segment sector ≡ view_at c segment sector) →
    HaveFew c one (drop n one.volumes) → HaveFew f one (drop m one.volumes)
few_elsewhere c f one n m reads fewer others few = λ i d within.
    let volume : Volume = get_or (drop m one.volumes) i d in
    let rest : length (drop m one.volumes) ≡ length one.volumes - m = length-drop m one.volumes in
    let more : length (drop n one.volumes) ≡ length one.volumes - n = length-drop n one.volumes in
    let place : ℕ = m + i - n in
    let there : n + place ≡ m + i = omega arith in
    let here : volume ≡ get_or one.volumes (m + i) d = get_or-drop m one.volumes i d in
    let same : get_or (drop n one.volumes) place d ≡ volume =
    get_or-drop n one.volumes place d ∙ ap (λ (k : ℕ). get_or one.volumes k d) there ∙ sym here in
    let at : slice_get one.volumes (m + i) ≡ Some volume =
    slice_get-get_or one.volumes (m + i) d (omega arith) ∙ ap (λ (v : Volume). Some v) (sym here) in
    few_alike c f one.words (pieces_in one volume)
    (pieces_elsewhere (suc (m + i)) c one volume (record { stands = reads.stands; reads = reads.reads; is = at }) c f others)
    (subst (λ (v : Volume). All (LosesFew c one.words) (pieces_in one v)) same
    (All-get_or (λ volume. All (LosesFew c one.words) (pieces_in one volume)) (drop n one.volumes) place d (omega arith) few))

-- it can be read, and gives its volumes
record GoesOn (f : Cartridge) (one : Plain) (m : ℕ) : Type 0 where
  reads : ReadsAs f one
  few : HaveFew f one (drop m one.volumes)

source_goes_on : (c : Cartridge) (one : Plain) (n m : ℕ) (left : Option Cartridge) → ReadsAs c one → n ≤ m →
    HaveFew c one (drop n one.volumes) → FromLeaves (Some c) left → IsSomeAnd left (λ f. GoesOn f one m)
source_goes_on c one n m left reads fewer few (inl same) =
    some_and (λ f. GoesOn f one m) c left
    (record { reads = reads; few = few_elsewhere c c one n m reads fewer (λ segment sector small other. refl) few }) same
source_goes_on c one n m left reads fewer few (inr torn) =
    let is : c ≡ torn.cartridge = (let same = torn.is in cc) in
    let mounts : Mounts c (Mounted torn.header torn.words torn.table torn.entries) =
    subst (λ (e : Cartridge). Mounts e (Mounted torn.header torn.words torn.table torn.entries)) (sym is) torn.mounts in
    let steps : Torn (settling_steps torn.table c) (Some c) left =
    subst (λ (e : Cartridge). Torn (settling_steps torn.table e) (Some c) left) (sym is) torn.torn in
    both left (stopped_stands c one torn.table left reads.stands mounts.reads steps)
    (some_weaker left (λ f keeps. (can_be_read f torn.table keeps.table, few_elsewhere c f one n m reads fewer keeps.others few))
    (stopped_settling c torn.table left mounts.reads steps))
  where
    both : (o : Option Cartridge) → IsSomeAnd o (λ f. Stands f one) → IsSomeAnd o (λ f. CanBeRead f × HaveFew f one (drop m one.volumes)) →
        IsSomeAnd o (λ f. GoesOn f one m)
    both None stands known = absurd stands
    both (Some f) stands known = record { reads = record { stands = stands; reads = known.0 }; few = known.1 }

-- ---- the target

unprotected_still : (c d : Cartridge) (other : Plain) (left : Option Cartridge) → IsCartridge c → Stands d other → IsUnprotected d →
    ToLeaves (Some c) (Some d) left → IsSomeAnd left IsUnprotected
unprotected_still c d other left whole standing free (inl same) = some_and IsUnprotected d left free same
unprotected_still c d other left whole standing free (inr (outcome, plain, torn)) =
    some_weaker left (λ f same. ap (λ i. i.protected) same ∙ free)
    (copy_keeps_marks (Some c) d other outcome left whole standing plain torn)

pub copy_run_again_is_done : {A B K : Type 0} (a : tapes.Meaning A) (b : tapes.Meaning B) (k : sinks.Meaning K) → CopyRunAgainIsDone a b k
copy_run_again_is_done a b k c one d other from_left to_left whole_c whole_d can live from_leaves to_leaves old new answer promises
    from_told to_told quiet =
    let alike : StandAlike c one d other =
    record { source = can.source.stands; target = can.target.stands; like = can.like; live = live } in
    let up : StandsUpTo one other to_left = target_stands c one d other to_left whole_d alike to_leaves in
    go_on from_left to_left up
    (source_goes_on c one (length other.volumes) (length (copied one other up.upto).volumes) from_left can.source
    (let count : length (copied one other up.upto).volumes ≡ up.upto = copied_count one other up.upto up.least up.most in
    let least : length other.volumes ≤ up.upto = up.least in omega arith) can.few from_leaves)
    (stopped_copy_can_be_read (Some c) d other to_left whole_c whole_d can.target live to_leaves)
    (unprotected_still c d other to_left whole_c can.target.stands can.unprotected to_leaves) from_told to_told
  where
    go_on : (source target : Option Cartridge) (up : StandsUpTo one other target) →
        IsSomeAnd source (λ f. GoesOn f one (length (copied one other up.upto).volumes)) → IsSomeAnd target CanBeRead →
        IsSomeAnd target IsUnprotected → a.told old.from ≡ Some source → b.told old.to ≡ Some target →
        (answer ≡ status.NoMemory) ⊎ (answer ≡ status.Done)
    go_on None target up source reads free told to_so = absurd source
    go_on (Some e) None up source reads free told to_so = absurd reads
    go_on (Some e) (Some f) up source reads free told to_so =
        promises.complete refl quiet e one f (copied one other up.upto) told to_so (record {
          source = source.reads;
          target = record { stands = up.stands; reads = reads };
          like = up.like;
          unprotected = free;
          few = source.few;
          room = λ n volume past at. has_still n volume (past_upto n past) at;
        })
      where
        past_upto : (n : ℕ) → length (copied one other up.upto).volumes ≤ n → up.upto ≤ n
        past_upto n past =
            let count : length (copied one other up.upto).volumes ≡ up.upto = copied_count one other up.upto up.least up.most in
            omega arith

        has_still : (n : ℕ) (volume : Volume) → up.upto ≤ n → slice_get one.volumes n ≡ Some volume →
            has_room (copied one (copied one other up.upto) n) (volume_length one.words volume.entry) ≡ true
        has_still n volume past at =
            let least : length other.volumes ≤ up.upto = up.least in
            ap (λ (p : Plain). has_room p (volume_length one.words volume.entry))
            (copy_goes_on one other up.upto n up.least past up.most) ∙ can.room n volume (omega arith) at
