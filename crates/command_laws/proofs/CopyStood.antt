-- What a copy leaves where its source stands for a plain cartridge, too: what is given back are the volumes of that.
use Rattle.std.proofs.Common.{◌≡◌, ℕ, ◌+◌, ◌-◌, ◌≤◌, arith, List, [], ◌∷◌, map, length, take, drop, All, Option, Some, IsSomeAnd}
use Rattle.std.proofs.Common.{inl, inr, refl, sym, ap, ◌∙◌, subst}
use Rattle.std.proofs.lemmas.List.{drop-map, drop-take, length-drop, length-map}
use Rattle.std.proofs.lemmas.List.Elements.{All-drop, All-head, All-tail}
use Rattle.cartridge_laws.proofs.MountSettled.{settled_stands}
use Rattle.cartridge_laws.proofs.MountStanding.{standing_mounts_only_so}
use Rattle.cartridge_spec.specs.Appending.{Content, with_all}
use Rattle.cartridge_spec.specs.Header.{Header}
use Rattle.cartridge_spec.specs.Mounting.{Mounted, Mounts, mounted_as, settled}
use Rattle.cartridge_spec.specs.Settling.{changed_by}
use Rattle.cartridge_spec.specs.Table.{Entry}
use Rattle.cartridge_spec.specs.TableSegment.{TableIs}
use Rattle.cartridge_spec.specs.Volumes.{Plain, Stands, Volume, entries_of, volume_bytes}
use Rattle.command_laws.proofs.CopyGoing.{behind, like_within}
use Rattle.command_laws.proofs.CopyLeaving.{ListsValues, done_copy_gives, stopped_gives}
use Rattle.command_laws.proofs.CopyStanding.{side_for}
use Rattle.command_laws.proofs.CopyValues.{HasValues, IsOriginal, originals, restored_whole, shown_values}
use Rattle.command_laws.specs.CopyLaws.{DoneCopyStands, StoppedCopyStands}
use Rattle.command_spec.specs.Copied.{BeginsLike, StandsUpTo, content_of, contents_of, copied}
use Rattle.command_spec.specs.CopyGiven.{AreGivenBack, GivenBack, GivenBy, ListsLike, MountsSide, StandsWithAll}
use Rattle.command_spec.specs.CopyGiven.{StandsWithGiven, missing_on}
use Rattle.command_spec.specs.Copying.{Side}
use Rattle.qic_base.specs.Acts.{steps_of}
use Rattle.qic_base.specs.Cartridge.{Cartridge}

-- ---- the missing volumes

abbrev pub entries_in : List Volume → List Entry
entries_in volumes = map (λ volume. volume.entry) volumes

module _ (one other : Plain) (like : BeginsLike one other) where
  pub within : length other.volumes ≤ length one.volumes
  within =
      let some : length (entries_of other) ≤ length (entries_of one) = like_within one.words (entries_of one) other.words
      (entries_of other) 1 like in
      let few : length (entries_of other) ≡ length other.volumes = length-map other.volumes (λ (v : Volume). v.entry) in
      let all : length (entries_of one) ≡ length one.volumes = length-map one.volumes (λ (v : Volume). v.entry) in
      omega arith

-- the entries that are missing are those of these volumes
pub missing_is : (one other : Plain) (c : Cartridge) → missing_on (side_for c one) other ≡ entries_in (behind one other)
missing_is one other c = drop-map (λ (v : Volume). v.entry) (length other.volumes) one.volumes

-- with so many of them
pub copied_some : (one other : Plain) (n : ℕ) → copied one other (length other.volumes + n) ≡ with_all other
    (contents_of one.words (take n (behind one other)))
copied_some one other n = ap (λ (vs : List Volume). with_all other (contents_of one.words vs))
    (drop-take (length other.volumes) n one.volumes)

-- ---- the source

-- it mounts as what it stands for
module _ (c : Cartridge) (one : Plain) (stood : Stands c one) where
  pub stood_mounting : (header : Header) (words : List ℕ) (table : List (List ℕ)) (entries : List Entry) →
      Mounts c (Mounted header words table entries) → Mounted header words table entries ≡ mounted_as one
  stood_mounting header words table entries mounts =
      elim (standing_mounts_only_so c one (Mounted header words table entries) stood mounts) [
        | inl is ↦ is
        | inr (n, is) ↦ absurd (cc)
      ]

  pub stood_values : ListsValues c
  stood_values header words table entries mounts =
      let is : Mounted header words table entries ≡ mounted_as one = stood_mounting header words table entries mounts in
      let same : entries ≡ entries_of one = (cc) in
      subst (All HasValues) (sym same) (shown_values one.table_area (entries_of one) stood.whole.table_area stood.shown)

  -- as this side
  abbrev pub still : Side
  still = side_for (settled one.table_area c) one

  pub stood_side : (from : Side) → MountsSide c from → from ≡ still
  stood_side from (header, (table, mounts, settles)) =
      let is : Mounted header from.words table from.entries ≡ mounted_as one = stood_mounting header from.words table from.entries mounts in
      let words : from.words ≡ one.words = (cc) in
      let area : table ≡ one.table_area = (cc) in
      let entries : from.entries ≡ entries_of one = (cc) in
      ap (λ (f : Cartridge). record { cartridge = f; words = from.words; entries = from.entries })
      (settles ∙ ap (λ (t : List (List ℕ)). settled t c) area)
      ∙ ap (λ (ws : List ℕ). record { cartridge = settled one.table_area c; words = ws; entries = from.entries }) words
      ∙ ap (λ (es : List Entry). record { cartridge = settled one.table_area c; words = one.words; entries = es }) entries

  pub stood_settled : (from : Side) → MountsSide c from → Stands (settled one.table_area c) one
  stood_settled from (header, (table, mounts, settles)) =
      let is : Mounted header from.words table from.entries ≡ mounted_as one = stood_mounting header from.words table from.entries mounts in
      let area : table ≡ one.table_area = (cc) in
      settled_stands c one one.table_area stood (subst (TableIs c) area mounts.reads)

  pub missing_are : (from : Side) → MountsSide c from → (n : ℕ) → All (IsOriginal (settled one.table_area c) one) (drop n one.volumes)
  missing_are from mounts n =
      All-drop (IsOriginal (settled one.table_area c) one) n one.volumes
      (originals (settled one.table_area c) one (stood_settled from mounts))

-- ---- what is given back

same_content : (c : Cartridge) (one : Plain) (volume : Volume) (content : Content) → IsOriginal c one volume →
    GivenBack (side_for c one) volume.entry content → content ≡ content_of one.words volume
same_content c one volume content original back =
    let bytes : content.bytes ≡ volume_bytes one.words volume =
    back.bytes ∙ restored_whole c one volume back.read original.has back.restores in
    ap (λ (xs : List ℕ). record { name = xs; date = content.date; bytes = content.bytes }) back.name
    ∙ ap (λ (n : ℕ). record { name = volume.entry.name; date = n; bytes = content.bytes }) back.date
    ∙ ap (λ (xs : List ℕ). record { name = volume.entry.name; date = volume.entry.date; bytes = xs }) bytes

pub same_contents : (c : Cartridge) (one : Plain) (volumes : List Volume) (contents : List Content) → All (IsOriginal c one) volumes →
    AreGivenBack (side_for c one) (entries_in volumes) contents →
    (length contents ≤ length volumes) × (contents ≡ contents_of one.words (take (length contents) volumes))
same_contents c one volumes [] are back = (omega arith, refl)
same_contents c one [] (content ∷ contents) are back = absurd back
same_contents c one (volume ∷ volumes) (content ∷ contents) are (back, more) =
    let rest = same_contents c one volumes contents (All-tail (IsOriginal c one) volume volumes are) more in
    let few : length contents ≤ length volumes = rest.0 in (
      omega arith,
      ap (λ (x : Content). x ∷ contents) (same_content c one volume content (All-head (IsOriginal c one) volume volumes are) back)
          ∙ ap (λ (xs : List Content). content_of one.words volume ∷ xs) rest.1,
    )

module _ (c : Cartridge) (one : Plain) (stood : Stands c one) (other : Plain) (like : BeginsLike one other) where
  -- the volumes behind those of the other one
  pub up_to : (from : Side) → MountsSide c from → (left : Option Cartridge) → (given : StandsWithGiven from other left) →
      (up : StandsUpTo one other left) × (up.upto ≡ length other.volumes + length given.contents)
  up_to from mounts left given =
      let back : AreGivenBack (side_for (settled one.table_area c) one) (entries_in (behind one other)) given.contents =
      subst (λ (es : List Entry). AreGivenBack (side_for (settled one.table_area c) one) es given.contents)
      (missing_is one other (settled one.table_area c))
      (subst (λ (side : Side). AreGivenBack side (missing_on side other) given.contents) (stood_side c one stood from mounts)
      given.given) in
      let same = same_contents (settled one.table_area c) one (behind one other) given.contents
      (missing_are c one stood from mounts (length other.volumes)) back in
      let plain : with_all other given.contents ≡ copied one other (length other.volumes + length given.contents) =
      ap (with_all other) same.1 ∙ sym (copied_some one other (length given.contents)) in
      let few : length given.contents ≤ length (behind one other) = same.0 in
      let rest : length (behind one other) ≡ length one.volumes - length other.volumes = length-drop (length other.volumes) one.volumes in
      let enough : length other.volumes ≤ length one.volumes = within one other like in (
        record {
          upto = length other.volumes + length given.contents;
          least = omega arith;
          most = omega arith;
          stands = subst (λ (p : Plain). IsSomeAnd left (λ d. Stands d p)) plain given.stands;
          like = subst (λ (p : Plain). BeginsLike one p) plain
              (subst (λ (side : Side). ListsLike side (with_all other given.contents)) (stood_side c one stood from mounts) given.like);
        },
        refl,
      )

  -- nothing was done
  pub up_to_none : (left : Option Cartridge) → IsSomeAnd left (λ d. Stands d other) →
      (up : StandsUpTo one other left) × (up.upto ≡ length other.volumes)
  up_to_none left stands =
      let enough : length other.volumes ≤ length one.volumes = within one other like in
      let none : length other.volumes + 0 ≡ length other.volumes = omega arith in
      let same : copied one other (length other.volumes) ≡ other =
      ap (copied one other) (sym none) ∙ copied_some one other 0 in (
        record {
          upto = length other.volumes;
          least = omega arith;
          most = enough;
          stands = subst (λ (p : Plain). IsSomeAnd left (λ d. Stands d p)) (sym same) stands;
          like = subst (λ (p : Plain). BeginsLike one p) (sym same) like;
        },
        refl,
      )

-- ---- done, or stopped

pub stopped_copy_stands : StoppedCopyStands
stopped_copy_stands c one d other outcome left whole alike yields torn =
    elim (stopped_gives (Some c) d other outcome left (stood_values c one alike.source) whole alike.target alike.live yields torn) [
      | inl none ↦ (up_to_none c one alike.source other alike.like left none).0
      | inr (from, mounts, like, given) ↦ (up_to c one alike.source other alike.like from mounts left given).0
    ]

pub done_copy_stands : DoneCopyStands
done_copy_stands c one d other outcome are yields done =
    let all = done_copy_gives (Some c) d other outcome are.source are.target are.standing yields done in
    by_given all
  where
    by_given : GivenBy (Some c) other (λ side. StandsWithAll side other (Some (changed_by (steps_of outcome.acts) d))) →
        Stands (changed_by (steps_of outcome.acts) d) (copied one other (length one.volumes))
    by_given (from, mounts, like, given) =
        let up = up_to c one are.stands other are.like from mounts (Some (changed_by (steps_of outcome.acts) d)) given.some in
        let count : length given.some.contents ≡ length (missing_on from other) = given.all in
        let entries : length (missing_on from other) ≡ length (missing_on (side_for (settled one.table_area c) one) other) =
        ap (λ (side : Side). length (missing_on side other)) (stood_side c one are.stands from mounts) in
        let volumes : length (missing_on (side_for (settled one.table_area c) one) other) ≡ length (entries_of one) - length other.volumes =
        length-drop (length other.volumes) (entries_of one) in
        let all : length (entries_of one) ≡ length one.volumes = length-map one.volumes (λ (v : Volume). v.entry) in
        let enough : length other.volumes ≤ length one.volumes = within one other are.like in
        let last : up.0.upto ≡ length one.volumes = up.1 ∙ omega arith in
        subst (λ (n : ℕ). Stands (changed_by (steps_of outcome.acts) d) (copied one other n)) last up.0.stands
