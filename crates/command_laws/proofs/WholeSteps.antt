-- Which lists of steps leave a whole cartridge, done or stopped.
use Rattle.std.proofs.Common.{◌≡◌, ℕ, ◌+◌, ◌*◌, ◌<◌, List, [], ◌∷◌, ◌++◌, All, Option, Some, None, IsSomeAnd, inl, inr, refl, sym, ap, ◌∙◌}
use Rattle.std.proofs.Common.{subst, arith, map, take, drop, length, slice_get, length-append, length-take, length-drop, ◌-◌, Bool}
use Rattle.std.proofs.Common.{true, false, cond, is_some}
use Rattle.std.specs.Prelude.{unwrap_or}
use Rattle.std.proofs.lemmas.Bool.{cases_lt}
use Rattle.std.proofs.lemmas.Option.{unwrap_or-slice_get}
use Rattle.std.proofs.lemmas.List.{length-map, length-replicate}
use Rattle.std.proofs.lemmas.List.Elements.{All-append, All-drop, All-from_get_or, All-map, All-replicate, All-take, All-weaker}
use Rattle.std.specs.List.{range_with_len}
use Rattle.cartridge_laws.proofs.AppendWhole.{sector_writes_are_cartridge, block_sector, writes_more, writes_whole}
use Rattle.cartridge_laws.proofs.FormatWriting.{some_and}
use Rattle.cartridge_laws.proofs.MountSettles.{settling_settles}
use Rattle.cartridge_laws.proofs.MountWhole.{settled_is_cartridge, stopped_is_cartridge, block_sectors}
use Rattle.cartridge_laws.proofs.Segments.{view_of_cartridge}
use Rattle.cartridge_laws.proofs.Whole.{with_view_whole, worn_is_view}
use Rattle.cartridge_laws.specs.AppendLaws.{IsAppendable}
use Rattle.cartridge_laws.specs.AppendWrites.{AreWrites, IsOfSector}
use Rattle.cartridge_spec.specs.Appending.{table_writes, Content}
use Rattle.cartridge_spec.specs.Formatting.{clearing_steps, copy_writes, format_steps}
use Rattle.cartridge_spec.specs.Shape.{IsArea}
use Rattle.cartridge_spec.specs.TableSegment.{TableIs}
use Rattle.cartridge_spec.specs.Mounting.{settled}
use Rattle.cartridge_spec.specs.Says.{with_parity}
use Rattle.cartridge_spec.specs.Settling.{changed_by, settling_steps, writes_of}
use Rattle.cartridge_spec.specs.Table.{Entry, slot_bytes}
use Rattle.cartridge_laws.specs.Slots.{slot_sector, with_slot}
use Rattle.command_laws.proofs.CommandClean.{Leaves, both_leave, leaves_done}
use Rattle.command_laws.proofs.InputActLaws.{input_is_of_sectors}
use Rattle.command_laws.proofs.MountedListed.{entry_area, slot_free}
use Rattle.command_laws.specs.MountedListed.{IsListed}
use Rattle.command_spec.specs.Append.{Fits, Kept, Taking, TooLong, TooShort, append_acts, entry_acts, has_promised_room, input_acts}
use Rattle.command_spec.specs.Append.{input_writes, kept_over, room_in, taking}
use Rattle.command_laws.specs.AppendTerms.{entry_for, free_in, most_written}
use Rattle.qic_base.proofs.Joins.{steps_of-append}
use Rattle.qic_base.specs.Acts.{Act, steps_of}
use Rattle.qic_base.specs.Cartridge.{Cartridge, IsLength, IsSector, new_cartridge, view_at, zero_sector}
use Rattle.qic_base.specs.CartridgeTerms.{IsVersion, IsCartridge, IsView, with_segment, HalfFormatted}
use Rattle.qic_base.specs.Step.{FormatSegment, SetProtected, SetReferenced, Spoil, Step, Upgrade, Wear, changed, formatted_view}
use Rattle.qic_base.specs.Step.{spoiled_view, worn_view, ClosingView, OpeningView, SegmentBecame}
use Rattle.qic_base.specs.declared.tape.TapeInfo.{TapeInfo}
use Rattle.qic_base.specs.declared.tape.SectorView.{SectorView}
use Rattle.qic_base.specs.declared.tape.SectorView.TheVariants.{Blank, Defect, Lost, Holds}
use Rattle.qic_base.proofs.Arrays.{zero_sector-is_sector}

-- ---- one sector or mark

pub worn_whole : (c : Cartridge) (segment sector : ℕ) → IsCartridge c → IsCartridge (changed (Wear segment sector) c)
worn_whole c segment sector whole =
    with_view_whole c segment sector (worn_view (view_at c segment sector)) whole
    (worn_is_view (view_at c segment sector) (view_of_cartridge c segment sector whole))

spoiled_is_view : (view : SectorView) → IsView view → IsView (spoiled_view view)
spoiled_is_view Blank good = tt
spoiled_is_view Defect good = tt
spoiled_is_view Lost good = tt
spoiled_is_view (Holds old) good = good

pub spoiled_whole : (c : Cartridge) (segment sector : ℕ) → IsCartridge c → IsCartridge (changed (Spoil segment sector) c)
spoiled_whole c segment sector whole =
    with_view_whole c segment sector (spoiled_view (view_at c segment sector)) whole
    (spoiled_is_view (view_at c segment sector) (view_of_cartridge c segment sector whole))

pub referenced_whole : (c : Cartridge) → IsCartridge c → IsCartridge (changed SetReferenced c)
referenced_whole c whole = record { long = whole.long; version = whole.version; sectors = whole.sectors; views = whole.views }

pub protected_whole : (c : Cartridge) (on : _) → IsCartridge c → IsCartridge (changed (SetProtected on) c)
protected_whole c on whole = record { long = whole.long; version = whole.version; sectors = whole.sectors; views = whole.views }

pub upgraded_whole : (c : Cartridge) → IsCartridge c → IsCartridge (changed Upgrade c)
upgraded_whole c whole =
    record {
      long = whole.long;
      version = record { oldest = omega arith; newest = omega arith };
      sectors = whole.sectors;
      views = whole.views;
    }

pub new_whole : (n : ℕ) → IsLength n → IsCartridge (new_cartridge n)
new_whole n long = record {
  long = long;
  version = record { oldest = omega arith; newest = omega arith };
  sectors = length-replicate (896 * n) Blank;
  views = All-replicate IsView (896 * n) Blank tt;
}

-- ---- writes of whole sectors, and the settling

writes_leave : (c : Cartridge) (steps : List Step) → AreWrites IsOfSector steps → IsCartridge c → Leaves IsCartridge c steps
writes_leave c steps are whole left torn = sector_writes_are_cartridge c steps left whole are torn

settling_leaves : (c : Cartridge) (table : List (List ℕ)) → IsCartridge c → TableIs c table → Leaves IsCartridge c (settling_steps table c)
settling_leaves c table whole reads left torn = stopped_is_cartridge c table left whole reads torn

-- and steps behind it
pub behind_leave : (c : Cartridge) (table : List (List ℕ)) (steps : List Step) → IsCartridge c → TableIs c table →
    (IsCartridge (settled table c) → Leaves IsCartridge (settled table c) steps) → Leaves IsCartridge c (settling_steps table c ++ steps)
behind_leave c table steps whole reads next =
    both_leave IsCartridge c (settling_steps table c) steps (settling_leaves c table whole reads)
    (subst (λ (d : Cartridge). Leaves IsCartridge d steps) (sym (settling_settles c table reads))
    (next (settled_is_cartridge c table whole reads)))

-- ---- formatting

formatted_is_view : (view : SectorView) → IsView view → IsView (formatted_view view)
formatted_is_view Blank good = zero_sector-is_sector
formatted_is_view Defect good = tt
formatted_is_view Lost good = zero_sector-is_sector
formatted_is_view (Holds old) good = zero_sector-is_sector

view_by : (a b : SectorView) → a ≡ b → IsView b → IsView a
view_by a b same good = subst IsView (sym same) good

closing_is_view : (old new : SectorView) → IsView old → ClosingView old new → IsView new
closing_is_view Blank new good is = view_by new Blank is tt
closing_is_view Defect new good is = view_by new Defect is tt
closing_is_view Lost new good is = view_by new Lost is tt
closing_is_view (Holds bytes) new good (inl is) = view_by new (Holds bytes) is good
closing_is_view (Holds bytes) new good (inr is) = view_by new Lost is tt

opening_is_view : (old new : SectorView) → IsView old → OpeningView old new → IsView new
opening_is_view Blank new good (inl is) = view_by new Blank is tt
opening_is_view Blank new good (inr (inl is)) = view_by new Lost is tt
opening_is_view Blank new good (inr (inr is)) = view_by new (Holds zero_sector) is zero_sector-is_sector
opening_is_view Defect new good is = view_by new Defect is tt
opening_is_view Lost new good (inl is) = view_by new Lost is tt
opening_is_view Lost new good (inr is) = view_by new (Holds zero_sector) is zero_sector-is_sector
opening_is_view (Holds bytes) new good (inl is) = view_by new Lost is tt
opening_is_view (Holds bytes) new good (inr is) = view_by new (Holds zero_sector) is zero_sector-is_sector

segment_whole : (c : Cartridge) (segment : ℕ) → IsCartridge c → IsCartridge (changed (FormatSegment segment) c)
segment_whole c segment whole =
    let front : List SectorView = take (32 * segment) c.views in
    let part : List SectorView = take 32 (drop (32 * segment) c.views) in
    let rear : List SectorView = drop (32 * (segment + 1)) c.views in
    record {
      long = whole.long;
      version = whole.version;
      sectors = same_long c segment ∙ whole.sectors;
      views = All-append IsView (front ++ map formatted_view part) rear
          (All-append IsView front (map formatted_view part) (All-take IsView (32 * segment) c.views whole.views)
          (All-map IsView formatted_view part (All-weaker IsView (λ v. IsView (formatted_view v)) formatted_is_view part
          (All-take IsView 32 (drop (32 * segment) c.views) (All-drop IsView (32 * segment) c.views whole.views)))))
          (All-drop IsView (32 * (segment + 1)) c.views whole.views);
    }
  where
    same_long : (d : Cartridge) (s : ℕ) → length (with_segment d s formatted_view).views ≡ length d.views
    same_long d s = simp (length-append, length-map, length-take, length-drop) (omega arith)

any_view : (c : Cartridge) (place : ℕ) → IsCartridge c → IsView (unwrap_or (slice_get c.views place) Blank)
any_view c place whole =
    let same : 32 * 0 + place ≡ place = omega arith in
    subst (λ (p : ℕ). IsView (unwrap_or (slice_get c.views p) Blank)) same (view_of_cartridge c 0 place whole)

became_whole : (Became : SectorView → SectorView → Type 0) (segment : ℕ) (c d : Cartridge) →
    ((old new : SectorView) → IsView old → Became old new → IsView new) → IsCartridge c →
    SegmentBecame Became segment c d → IsCartridge d
became_whole Became segment c d keeps whole became = record {
  long = subst (λ (i : TapeInfo). IsLength i.segments_per_track) (sym became.info) whole.long;
  version = subst IsVersion (sym became.version) whole.version;
  sectors = became.sectors ∙ whole.sectors ∙ ap (λ (i : TapeInfo). 896 * i.segments_per_track) (sym became.info);
  views = All-from_get_or IsView d.views Blank (λ place inside. subst IsView (unwrap_or-slice_get d.views place Blank) (at place));
}
  where
    at : (place : ℕ) → IsView (unwrap_or (slice_get d.views place) Blank)
    at place =
        elim (cases_lt place (32 * segment)) [
          | inl below ↦ subst (λ (o : Option SectorView). IsView (unwrap_or o Blank)) (sym (became.below place below))
              (any_view c place whole)
          | inr past ↦ elim (cases_lt place (32 * (segment + 1))) [
            | inl inside ↦
                let sum : 32 * segment + (place - 32 * segment) ≡ place = omega arith in
                subst (λ (p : ℕ). IsView (unwrap_or (slice_get d.views p) Blank)) sum
                (keeps (view_at c segment (place - 32 * segment)) (view_at d segment (place - 32 * segment))
                (view_of_cartridge c segment (place - 32 * segment) whole)
                (became.within (place - 32 * segment) (omega arith)))
            | inr above ↦ subst (λ (o : Option SectorView). IsView (unwrap_or o Blank)) (sym (became.above place above))
                (any_view c place whole)
          ]
        ]

half_whole : (segment : ℕ) (c : Cartridge) (left : Option Cartridge) → IsCartridge c → HalfFormatted segment (Some c) left →
    IsSomeAnd left IsCartridge
half_whole segment c None whole half = absurd half
half_whole segment c (Some d) whole (inl closing) = became_whole ClosingView segment c d closing_is_view whole closing
half_whole segment c (Some d) whole (inr opening) = became_whole OpeningView segment c d opening_is_view whole opening

formats_leave : (segments : List ℕ) (c : Cartridge) → IsCartridge c → Leaves IsCartridge c (map (λ s. FormatSegment s) segments)
formats_leave [] c whole left torn = some_and IsCartridge c left whole torn
formats_leave (s ∷ ss) c whole left (inl same) = some_and IsCartridge c left whole same
formats_leave (s ∷ ss) c whole left (inr (inl half)) = half_whole s c left whole half
formats_leave (s ∷ ss) c whole left (inr (inr torn)) = formats_leave ss (changed (FormatSegment s) c) (segment_whole c s whole) left torn

pub clearing_leaves : (n : ℕ) (c : Cartridge) → IsCartridge c → Leaves IsCartridge c (clearing_steps n)
clearing_leaves n c whole left (inl same) = some_and IsCartridge c left whole same
clearing_leaves n c whole left (inr (inl half)) = absurd half
clearing_leaves n c whole left (inr (inr torn)) = formats_leave (range_with_len 0 (28 * n)) (changed SetReferenced c)
    (referenced_whole c whole) left torn

-- ---- header copies

copy_whole : (copy : ℕ) (block : List (List ℕ)) → All IsSector block → AreWrites IsOfSector (copy_writes copy block)
copy_whole copy block are =
    writes_more (writes_of copy (range_with_len 1 31) (drop 1 block)) (writes_of copy (0 ∷ []) (take 1 block))
    (writes_whole copy (range_with_len 1 31) (drop 1 block) (All-drop IsSector 1 block are))
    (writes_whole copy (0 ∷ []) (take 1 block) (All-take IsSector 1 block are))

pub format_steps_leave : (n : ℕ) (area : List (List ℕ)) (c : Cartridge) → IsCartridge c → IsArea area →
    Leaves IsCartridge c (format_steps n area)
format_steps_leave n area c whole is =
    let block : List (List ℕ) = with_parity area in
    let first : List Step = clearing_steps n ++ copy_writes 0 block in
    let one : Leaves IsCartridge c first =
    both_leave IsCartridge c (clearing_steps n) (copy_writes 0 block) (clearing_leaves n c whole)
    (writes_leave (changed_by (clearing_steps n) c) (copy_writes 0 block) (copy_whole 0 block (block_sectors area is))
    (leaves_done IsCartridge c (clearing_steps n) (clearing_leaves n c whole))) in
    both_leave IsCartridge c first (copy_writes 1 block) one
    (writes_leave (changed_by first c) (copy_writes 1 block) (copy_whole 1 block (block_sectors area is))
    (leaves_done IsCartridge c first one))

-- ---- an append

table_whole : (n : ℕ) (area : List (List ℕ)) → n < 232 → IsArea area → AreWrites IsOfSector (table_writes (slot_sector n) area)
table_whole n area few is = (
  (block_sector area (slot_sector n) is (omega arith), tt),
  (
    (block_sector area 29 is (omega arith), tt),
    ((block_sector area 30 is (omega arith), tt), ((block_sector area 31 is (omega arith), tt), tt)),
  ),
)

where_whole : (b : Bool) (xs : List Act) → AreWrites IsOfSector (steps_of xs) → AreWrites IsOfSector (steps_of (cond b xs []))
where_whole true xs are = are
where_whole false xs are = tt

module _ (c : Cartridge) (words : List ℕ) (entries : List Entry) (table : List (List ℕ)) (listed : IsListed c words entries)
    (mark : c.info.protected ≡ false) (reads : TableIs c table) (whole : IsCartridge c)
    (content : Content) (may : IsAppendable content) (promised : Option ℕ) (reply : Entry → List ℕ) where
  abbrev kept : Kept
  kept = kept_over c words entries table

  entry_whole : (became : Taking) → taking (room_in kept) promised content.bytes ≡ became →
      AreWrites IsOfSector (steps_of (entry_acts kept content.name content.date reply became))
  entry_whole (Fits bytes) took =
      let e : Entry = entry_for kept content.name content.date bytes in
      let new : List (List ℕ) = with_slot table (length entries) (slot_bytes e) in
      writes_more (table_writes (slot_sector (length entries)) new) []
      (table_whole (length entries) new
      (slot_free c words entries table listed mark reads content.name content.date promised reply content.bytes may.label may.word
      bytes took)
      (entry_area c words entries table listed mark reads content.name content.date promised reply content.bytes may.label may.word
      bytes took)) tt
  entry_whole (TooLong need have) took = tt
  entry_whole (TooShort asked read) took = tt

  pub append_leaves : Leaves IsCartridge c (steps_of (append_acts kept content.name content.date promised reply content.bytes))
  append_leaves =
      let became : Taking = taking (room_in kept) promised content.bytes in
      let ins : List Act = input_writes kept.words kept.entries promised content.bytes in
      let entry : List Act = entry_acts kept content.name content.date reply became in
      let are : AreWrites IsOfSector (steps_of (ins ++ entry)) =
      subst (λ (ss : List Step). AreWrites IsOfSector ss) (sym (steps_of-append ins entry))
      (writes_more (steps_of ins) (steps_of entry)
      (where_whole (has_promised_room (room_in kept) promised)
      (input_acts words (free_in kept) (most_written (room_in kept) promised) (is_some promised) content.bytes)
      (input_is_of_sectors words (free_in kept) (most_written (room_in kept) promised) (is_some promised) content.bytes may.bytes))
      (entry_whole became refl)) in
      behind_leave c table (steps_of (ins ++ entry)) whole reads
      (λ still. writes_leave (settled table c) (steps_of (ins ++ entry)) are still)
