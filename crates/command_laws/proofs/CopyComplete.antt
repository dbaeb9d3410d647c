-- A copy is Done where all is there that it needs.
use Rattle.std.proofs.Common.{◌≡◌, ℕ, zero, suc, ◌+◌, ◌-◌, arith, true, false, List, [], ◌∷◌, length, take, drop, All, Option, Some, inl}
use Rattle.std.proofs.Common.{inr, refl, sym, ap, ◌∙◌, subst, get_or, get_or-drop, slice_get}
use Rattle.std.proofs.lemmas.List.{length-drop, length-map}
use Rattle.std.proofs.lemmas.List.Elements.{All-drop, All-get_or, All-head, All-tail}
use Rattle.std.proofs.lemmas.Option.{slice_get-get_or}
use Rattle.cartridge_laws.proofs.MountOnce.{mounts_is_function, not_lost}
use Rattle.cartridge_laws.proofs.MountSettled.{settled_stands}
use Rattle.cartridge_laws.proofs.MountStanding.{standing_mounts}
use Rattle.cartridge_spec.specs.Appending.{has_room, with_all, with_bytes}
use Rattle.cartridge_spec.specs.Mounting.{Mounting, Mounts, mounted_as, settled}
use Rattle.cartridge_spec.specs.Settling.{changed_by}
use Rattle.cartridge_spec.specs.Table.{Entry}
use Rattle.cartridge_spec.specs.Volumes.{Plain, Stands, Volume, entries_of, volume_bytes, volume_length}
use Rattle.command_laws.proofs.CopyGoing.{behind}
use Rattle.command_laws.proofs.CopyGiven.{given_of, read_text, with_entry}
use Rattle.command_laws.proofs.CopyStanding.{open_behind, side_behind, side_for}
use Rattle.command_laws.proofs.CopyStood.{copied_some, entries_in, missing_is}
use Rattle.command_laws.proofs.CopyValues.{HasValues, IsOriginal, originals, restored_whole}
use Rattle.command_laws.proofs.MadeMachineLaws.{never_unlocked}
use Rattle.command_laws.proofs.MountedHeld.{mounted_open}
use Rattle.command_laws.proofs.RestoreGivenBack.{given_whole}
use Rattle.command_laws.proofs.MountedSaying.{restores_anyway}
use Rattle.command_laws.specs.CopyLaws.{CopyWithRoomIsDone}
use Rattle.command_laws.specs.MountedKept.{IsOpen}
use Rattle.command_spec.specs.Command.{ReadsAs}
use Rattle.command_spec.specs.Copied.{content_of, contents_of}
use Rattle.command_spec.specs.Copying.{Compares, Copies, CopiesVolume, FromMounted, Side, ToMounted, giving_status, has_room_for, missing}
use Rattle.command_spec.specs.Outcome.{settling_act}
use Rattle.command_spec.specs.Restore.{GivingEnd, LosesFew, LostIn, MismatchIn, Restored, Restores, ending_status, pieces_in, HasNumber}
use Rattle.command_spec.specs.declared.copy_status.CopyStatus.{CopyStatus}
use Rattle.qic_base.specs.Acts.{Act, steps_of}
use Rattle.qic_base.specs.Cartridge.{Cartridge}
use Rattle.command_spec.specs.declared.copy_status.CopyStatus.TheVariants as status
use Rattle.command_spec.specs.declared.status.Status.TheVariants as answers
use Rattle.cartridge_laws.specs.AppendLaws.{with_content}

-- ---- the source

-- the volume is given whole by this cartridge
abbrev GivesWhole : Cartridge → Plain → Volume → Type 0
GivesWhole c one volume = (read : List Act) (ending : GivingEnd) → Restores c one.words (pieces_in one volume) read ending →
    ending ≡ Restored

restored_is_done : (ending : GivingEnd) → ending_status ending ≡ answers.Done → ending ≡ Restored
restored_is_done Restored is = refl
restored_is_done (LostIn segment lost) is = absurd (cc)
restored_is_done (MismatchIn segment) is = absurd (cc)

module _ (c : Cartridge) (one : Plain) (reads : ReadsAs c one) where
  mounts_so : Mounts c (mounted_as one)
  mounts_so = standing_mounts c one reads.stands reads.reads

  given_all : (place : ℕ) (volume : Volume) → slice_get one.volumes place ≡ Some volume →
      All (LosesFew c one.words) (pieces_in one volume) → GivesWhole (settled one.table_area c) one volume
  given_all place volume at few read ending restores =
      let has : HasNumber c one (suc place) volume = record { stands = reads.stands; reads = reads.reads; is = at } in
      restored_is_done ending
      (given_whole (suc place) c one volume
      (record { acts = settling_act one.table_area c ∷ read; taken = 0; status = ending_status ending }) has
      (record { table = mounts_so.reads; acts = read; ending = ending; restores = restores; is = refl }) few).0

  -- so are all volumes behind some first ones
  all_given : (n : ℕ) → All (λ volume. All (LosesFew c one.words) (pieces_in one volume)) (drop n one.volumes) →
      All (GivesWhole (settled one.table_area c) one) (drop n one.volumes)
  all_given n few = λ i d within.
      let volume : Volume = get_or (drop n one.volumes) i d in
      let rest : length (drop n one.volumes) ≡ length one.volumes - n = length-drop n one.volumes in
      let at : slice_get one.volumes (n + i) ≡ Some volume =
      slice_get-get_or one.volumes (n + i) d (omega arith) ∙ ap (λ (v : Volume). Some v) (sym (get_or-drop n one.volumes i d)) in
      given_all (n + i) volume at (All-get_or (λ volume. All (LosesFew c one.words) (pieces_in one volume))
      (drop n one.volumes) i d within few)

-- ---- one volume

-- then the bytes that are given are its own
given_own : (c : Cartridge) (one : Plain) (volume : Volume) → IsOriginal c one volume → GivesWhole c one volume →
    given_of (side_for c one) volume.entry ≡ volume_bytes one.words volume
given_own c one volume original gives =
    let some = restores_anyway c one.words (pieces_in one volume) in
    let all : Restores c one.words (pieces_in one volume) some.0 Restored =
    subst (λ (ending : GivingEnd). Restores c one.words (pieces_in one volume) some.0 ending) (gives some.0 some.1 some.2) some.2 in
    read_text (side_for c one) volume.entry some.0 all ∙ restored_whole c one volume some.0 original.has all

volume_goes : (c : Cartridge) (one : Plain) (volume : Volume) (original : IsOriginal c one volume) (d : Cartridge) (p : Plain)
    (held : IsOpen d p) (acts : List Act) (answer : CopyStatus) →
    GivesWhole c one volume → has_room p (volume_length one.words volume.entry) ≡ true → CopiesVolume (side_for c one) volume.entry
    (side_for d p) acts answer → answer ≡ status.Done
volume_goes c one volume original d p held acts answer gives room (inl lost) =
    absurd (not_lost d p.table_area lost.lost held.table lost.says)
volume_goes c one volume original d p held acts answer gives room (inr (table, reads, inl full)) =
    let enough : has_room_for (side_for c one) volume.entry (side_for d p) ≡ true = room in
    absurd (let no : true ≡ false = sym enough ∙ full.none in cc)
volume_goes c one volume original d p held acts answer gives room (inr (table, reads, inr is)) =
    is.answered ∙ ap giving_status (gives is.read is.ending is.restores)

-- ---- volumes one after the other

abbrev with_volume : (one : Plain) → Plain → Volume → Plain
with_volume one p volume = with_content p (content_of one.words volume)

-- each has room when its turn comes
abbrev HaveRoom : (one : Plain) → List Volume → Plain → Type 0
HaveRoom one [] p = Unit {0}
HaveRoom one (volume ∷ volumes) p = (has_room p (volume_length one.words volume.entry) ≡ true)
    × HaveRoom one volumes (with_volume one p volume)

have_room : (one : Plain) (volumes : List Volume) (p : Plain) →
    ((k : ℕ) (volume : Volume) → slice_get volumes k ≡ Some volume → has_room (with_all p (contents_of one.words (take k volumes)))
    (volume_length one.words volume.entry) ≡ true) →
    HaveRoom one volumes p
have_room one [] p each = tt
have_room one (volume ∷ volumes) p each =
    (each 0 volume refl, have_room one volumes (with_volume one p volume) (λ k v at. each (suc k) v at))

copies_go : (c : Cartridge) (one : Plain) (volumes : List Volume) → All (IsOriginal c one) volumes → All (GivesWhole c one) volumes →
    (d : Cartridge) (p : Plain) → IsOpen d p → HaveRoom one volumes p →
    (acts : List Act) (answer : CopyStatus) → Copies (side_for c one) (entries_in volumes) (side_for d p) acts answer → answer ≡ status.Done
copies_go c one [] are give d p held room acts answer (does, done) = done
copies_go c one (volume ∷ volumes) are give d p held room acts answer (inl (other, does)) =
    absurd (other (volume_goes c one volume (All-head (IsOriginal c one) volume volumes are) d p held acts answer
    (All-head (GivesWhole c one) volume volumes give) room.0 does))
copies_go c one (volume ∷ volumes) are give d p held room acts answer (inr (first, rest, parts, does, behind)) =
    let original : IsOriginal c one volume = All-head (IsOriginal c one) volume volumes are in
    let gives : GivesWhole c one volume = All-head (GivesWhole c one) volume volumes give in
    let has : HasValues volume.entry = record { label = original.may.label; word = original.may.word } in
    let same : with_entry (side_for c one) p volume.entry ≡ with_volume one p volume =
    ap (λ (bytes : List ℕ). with_bytes p volume.entry.name volume.entry.date bytes) (given_own c one volume original gives) in
    let f : Cartridge = changed_by (steps_of first) d in
    copies_go c one volumes (All-tail (IsOriginal c one) volume volumes are) (All-tail (GivesWhole c one) volume volumes give)
    f (with_volume one p volume)
    (subst (λ (q : Plain). IsOpen f q) same (open_behind (side_for c one) volume.entry has d p held first does)) room.1 rest answer
    (subst (λ (q : Plain). Copies (side_for c one) (entries_in volumes) (side_for f q) rest answer) same
    (subst (λ (side : Side). Copies (side_for c one) (entries_in volumes) side rest answer)
    (side_behind (side_for c one) volume.entry has d p held first) behind))

-- ---- the outcome

slice_behind : (n k : ℕ) (vs : List Volume) (volume : Volume) → slice_get (drop n vs) k ≡ Some volume → slice_get vs (n + k) ≡ Some volume
slice_behind zero k vs volume at =
    let same : k ≡ 0 + k = omega arith in
    subst (λ (m : ℕ). slice_get vs m ≡ Some volume) same at
slice_behind (suc n) k [] volume at = absurd (none_there k at)
  where
    none_there : (k : ℕ) → slice_get [] k ≡ Some volume → ⊥
    none_there zero is = cc
    none_there (suc k) is = cc
slice_behind (suc n) k (v ∷ vs) volume at =
    let same : suc (n + k) ≡ suc n + k = omega arith in
    subst (λ (m : ℕ). slice_get (v ∷ vs) m ≡ Some volume) same (slice_behind n k vs volume at)

pub copy_with_room_is_done : CopyWithRoomIsDone
copy_with_room_is_done c one d other outcome whole can (m, mounts, does) =
    let is : m ≡ mounted_as one = mounts_is_function c m (mounted_as one) mounts (mounts_so c one can.source) in
    let did : FromMounted c (mounted_as one) (Some d) outcome = subst (λ (k : Mounting). FromMounted c k (Some d) outcome) is does in
    let reads : Mounts d (mounted_as other) = standing_mounts d other can.target.stands can.target.reads in
    let found : did.1.0 ≡ mounted_as other = mounts_is_function d did.1.0 (mounted_as other) did.1.1 reads in
    by_mark reads (subst (λ (k : Mounting). ToMounted (side_for (settled one.table_area c) one) d k outcome.acts outcome.status) found
    did.1.2)
  where
    by_mark : Mounts d (mounted_as other) → ToMounted (side_for (settled one.table_area c) one) d
        (mounted_as other) outcome.acts outcome.status → outcome.status ≡ status.Done
    by_mark reads (inl locked) = absurd (never_unlocked d locked.0 can.unprotected)
    by_mark reads (inr (free, (rest, acts, compares))) =
        let still : Cartridge = settled one.table_area c in
        let stays : Stands still one = settled_stands c one one.table_area can.source.stands (mounts_so c one can.source).reads in
        let copies : Copies (side_for still one) (missing (side_for still one) (side_for (settled other.table_area d) other))
        (side_for (settled other.table_area d) other) rest outcome.status =
        subst (λ (o : Option ℕ). Compares (side_for still one) (side_for (settled other.table_area d) other) o rest outcome.status) can.like
        compares in
        copies_go still one (behind one other)
        (All-drop (IsOriginal still one) (length other.volumes) one.volumes (originals still one stays))
        (all_given c one can.source (length other.volumes) can.few)
        (settled other.table_area d) other (mounted_open d other whole can.target.stands reads can.unprotected)
        (have_room one (behind one other) other
        (λ k volume at. subst (λ (p : Plain). has_room p (volume_length one.words volume.entry) ≡ true) (copied_some one other k)
        (can.room (length other.volumes + k) volume (omega arith) (slice_behind (length other.volumes) k one.volumes volume at))))
        rest outcome.status
        (subst (λ (es : List Entry). Copies (side_for still one) es (side_for (settled other.table_area d) other) rest outcome.status)
        (ap (λ (n : ℕ). drop n (entries_of one)) (length-map other.volumes (λ (v : Volume). v.entry)) ∙ missing_is one other still) copies)
