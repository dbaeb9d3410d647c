-- The volumes of a cartridge that stands for a plain one can be appended to another one: their names, dates and bytes.
use Rattle.std.proofs.Common.{◌≡◌, ℕ, ◌-◌, ◌*◌, ◌/◌, ◌%◌, ◌^◌, ◌<◌, ◌≤◌, List, [], ◌∷◌, All, Contains, Some, sym, ap, ◌∙◌}
use Rattle.std.proofs.Common.{subst, arith, get_or, slice_get, length, drop, inl, inr}
use Rattle.std.specs.Option.{option_map}
use Rattle.std.proofs.lemmas.List.{length-drop, length-map, length-take-le}
use Rattle.std.proofs.lemmas.List.Elements.{All-append, All-contains_itself, All-drop, All-from_get_or, All-get_or, All-head, All-tail}
use Rattle.std.proofs.lemmas.List.Elements.{All-take, All-contains}
use Rattle.std.proofs.lemmas.Option.{slice_get-get_or, slice_get-map, get_or_from_slice_get, unwrap_or-slice_get}
use Rattle.cartridge_spec.specs.Volumes.{bytes_in, volume_bytes, Plain, Stands, Volume, entries_of, volume_length}
use Rattle.cartridge_spec.specs.Formatting.{IsLabel}
use Rattle.cartridge_spec.specs.Shape.{IsArea, sector_at}
use Rattle.cartridge_spec.specs.Table.{Entry, Shows, entry_in, slot}
use Rattle.command_laws.proofs.RestoreStanding.{few_or_first_lost, restores_byte_for_byte, restores_front}
use Rattle.command_laws.specs.RestoreLaws.{HasVolume}
use Rattle.command_spec.specs.Copied.{content_of}
use Rattle.command_spec.specs.Restore.{Restored, Restores, pieces_in}
use Rattle.qic_base.specs.Acts.{Act, text_of}
use Rattle.qic_base.specs.Cartridge.{Cartridge, IsSector}
use Rattle.qic_base.specs.Field.{number_at}
use Rattle.cartridge_laws.proofs.FreshMarks.{little_endian-below}
use Rattle.cartridge_laws.specs.AppendLaws.{IsAppendable}

-- ---- a slot of the table's data

date_below : (bytes : List ℕ) → All (λ b. b < 256) bytes → number_at bytes 52 4 < 2 ^ 32
unfolding number_at
date_below bytes small = little_endian-below 4 (drop 52 bytes) (All-drop (λ b. b < 256) 52 bytes small)

module _ (area : List (List ℕ)) (is : IsArea area) (i : ℕ) (within : i < 232) where
  abbrev sector : List ℕ
  sector = sector_at area (i / 8)

  sector_is : IsSector sector
  sector_is =
      subst IsSector (sym (unwrap_or-slice_get area (i / 8) []))
      (let long = is.size in All-get_or IsSector area (i / 8) [] (omega arith) is.sectors)

  slot_bytes : All (λ b. b < 256) (slot area i)
  unfolding slot
  slot_bytes = All-take (λ b. b < 256) 128 (drop (128 * (i % 8)) sector) (All-drop (λ b. b < 256) (128 * (i % 8)) sector sector_is.each)

  slot_long : length (slot area i) ≡ 128
  unfolding slot
  slot_long =
      let long : length sector ≡ 1024 = sector_is.size in
      let rest : length (drop (128 * (i % 8)) sector) ≡ length sector - 128 * (i % 8) = length-drop (128 * (i % 8)) sector in
      length-take-le 128 (drop (128 * (i % 8)) sector) (omega arith)

  name_is : IsLabel (entry_in (slot area i)).name
  name_is =
      let rest : length (drop 8 (slot area i)) ≡ length (slot area i) - 8 = length-drop 8 (slot area i) in
      let long : length (slot area i) ≡ 128 = slot_long in
      record {
        size = length-take-le 44 (drop 8 (slot area i)) (omega arith);
        bytes = All-take (λ b. b < 256) 44 (drop 8 (slot area i)) (All-drop (λ b. b < 256) 8 (slot area i) slot_bytes);
      }

  date_is : (entry_in (slot area i)).date < 2 ^ 32
  date_is = date_below (slot area i) slot_bytes

-- an entry that can be appended to a list
pub record HasValues (e : Entry) : Type 0 where
  pub label : IsLabel e.name
  pub word : e.date < 2 ^ 32

slot_has : (area : List (List ℕ)) (i : ℕ) → IsArea area → i < 232 → HasValues (entry_in (slot area i))
slot_has area i is within = record { label = name_is area is i within; word = date_is area is i within }

-- so is each that a table shows
pub shown_values : (area : List (List ℕ)) (entries : List Entry) → IsArea area → Shows area entries → All HasValues entries
shown_values area entries is shown = λ i d within.
    let few : length entries ≤ 232 = shown.room in
    subst HasValues (sym (get_or_from_slice_get entries i (entry_in (slot area i)) d (shown.shown i within)))
    (slot_has area i is (omega arith))

-- ---- a volume's bytes

pub sectors_bytes : (sectors : List (List ℕ)) → All IsSector sectors → All (λ b. b < 256) (bytes_in sectors)
sectors_bytes [] are = All-from_get_or (λ b. b < 256) [] 0 (λ i h. absurd (omega arith))
sectors_bytes (sector ∷ sectors) are =
    All-append (λ b. b < 256) sector (bytes_in sectors) (All-head IsSector sector sectors are).each
    (sectors_bytes sectors (All-tail IsSector sector sectors are))

-- ---- the volumes of a cartridge that stands

-- one of them, which can be appended
pub record IsOriginal (c : Cartridge) (one : Plain) (volume : Volume) : Type 0 where
  pub has : HasVolume c one volume
  pub may : IsAppendable (content_of one.words volume)

module _ (c : Cartridge) (one : Plain) (stands : Stands c one) where
  values : (i : ℕ) (d : Volume) → i < length one.volumes → HasValues (get_or one.volumes i d).entry
  values i d within =
      let long : length (entries_of one) ≡ length one.volumes = length-map one.volumes (λ (v : Volume). v.entry) in
      let here : slice_get (entries_of one) i ≡ Some (get_or one.volumes i d).entry =
      slice_get-map (λ (v : Volume). v.entry) one.volumes i ∙ ap (option_map (λ (v : Volume). v.entry))
      (slice_get-get_or one.volumes i d within) in
      subst HasValues (get_or_from_slice_get (entries_of one) i (get_or one.volumes i d).entry d.entry here)
      (All-get_or HasValues (entries_of one) i d.entry (omega arith)
      (shown_values one.table_area (entries_of one) stands.whole.table_area stands.shown))

  original : (i : ℕ) (d : Volume) → i < length one.volumes → IsOriginal c one (get_or one.volumes i d)
  original i d within =
      let volume : Volume = get_or one.volumes i d in
      let among : Contains one.volumes volume = All-get_or (Contains one.volumes) one.volumes i d within
      (All-contains_itself one.volumes) in
      let has : HasValues volume.entry = values i d within in
      record {
        has = record { stands = stands; among = among };
        may = record {
          label = has.label;
          word = has.word;
          bytes = All-take (λ b. b < 256) (volume_length one.words volume.entry) (bytes_in volume.area)
              (sectors_bytes volume.area (All-contains (λ (v : Volume). All IsSector v.area) one.volumes volume stands.whole.areas among));
        };
      }

  pub originals : All (IsOriginal c one) one.volumes
  originals = λ i d within. original i d within

-- what is printed of a volume that was read whole is its bytes
pub restored_whole : (c : Cartridge) (one : Plain) (volume : Volume) (read : List Act) → HasVolume c one volume →
    Restores c one.words (pieces_in one volume) read Restored → text_of read ≡ volume_bytes one.words volume
restored_whole c one volume read has restores = elim (few_or_first_lost c one.words (pieces_in one volume)) [
  | inl few ↦ (restores_byte_for_byte c one volume read Restored has few restores).1
  | inr first ↦ absurd (let ends = (restores_front c one volume first read Restored has restores).ends in cc)
]
