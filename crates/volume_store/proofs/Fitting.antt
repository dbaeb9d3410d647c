-- What is known of a store and its unit after an append.
use Rattle.std.proofs.Common.{◌≡◌, ◌≢◌, ℕ, ◌-◌, ◌*◌, ◌/◌, ◌<◌, ◌≤◌, false, List, [], ◌∷◌, ◌++◌, length, Option, Some, None, IfSome, Err}
use Rattle.std.proofs.Common.{refl, sym, ap, ◌∙◌, subst, arith, Bool}
use Rattle.std.specs.Option.{option_map}
use Rattle.std.proofs.lemmas.List.{length-append}
use Rattle.cartridge_laws.proofs.MountSettles.{settling_settles}
use Rattle.cartridge_laws.specs.TableCells.{HasList}
use Rattle.cartridge_laws.specs.Slots.{slot_sector}
use Rattle.qic_base.specs.Cartridge.{Cartridge}
use Rattle.qic_base.specs.Alone.{reading}
use Rattle.qic_base.specs.CartridgeTerms.{IsCartridge}
use Rattle.qic_base.specs.Step.{Step, effects}
use Rattle.qic_base.specs.Tape.{Meaning, Done}
use Rattle.qic_base.specs.TapeCalls.{Tells}
use Rattle.qic_base.proofs.Steps.{Tells-map, Done-told, tells_two}
use Rattle.cartridge_spec.specs.Formatting.{IsLabel}
use Rattle.cartridge_laws.proofs.FormatWriting.{effects-some}
use Rattle.qic_base.specs.Acts.{steps_of}
use Rattle.cartridge_spec.specs.Shape.{IsArea}
use Rattle.cartridge_spec.specs.TableSegment.{TableIs}
use Rattle.cartridge_spec.specs.Table.{slot_bytes, table_with, Entry, Shows}
use Rattle.cartridge_laws.specs.Table.{IsSoundList, last_end}
use Rattle.cartridge_spec.specs.Settling.{changed_by, settling_steps}
use Rattle.cartridge_laws.proofs.SlotBytes.{length-slot_bytes, slot_are_bytes}
use Rattle.cartridge_laws.proofs.Slots.{slot_area}
use Rattle.cartridge_laws.specs.AppendSettled.{IsSettledFor}
use Rattle.cartridge_laws.proofs.AppendDead.{settled_is_settled_for, table_settled}
use Rattle.cartridge_laws.proofs.AppendKeeping.{AreIn}
use Rattle.cartridge_laws.proofs.AppendOrders.{end_least}
use Rattle.cartridge_laws.proofs.AppendTable.{slot_differs}
use Rattle.drive_states.specs.Unit.{UnitView}
use Rattle.host_driver.specs.declared.host.Host.{Host}
use Rattle.host_driver.specs.Calls.{Keeps}
use Rattle.host_driver.specs.Fits.{segments_of}
use Rattle.cartridge_laws.proofs.MountWhole.{table_is_area}
use Rattle.qic_base.specs.declared.store_fault.StoreFault.{StoreFault}
use Rattle.cartridge_front.specs.Again.{IsSettledAgain, IsAdded, SettlesAgain, AddsEntry, entry_writes}
use Rattle.command_spec.specs.Append.{input_writes}
use Rattle.volume_store.specs.Appending.{InputIs}
use Rattle.volume_store.specs.Mounting.{StoreView, StoreFits}
use Rattle.command_laws.proofs.StoreBehind.{input_behind, settled_behind, front_behind}
use Rattle.volume_store.proofs.Ending.{has_list}
use Rattle.volume_store.proofs.Storing.{one_length, still_primary, still_referenced}
use Rattle.cartridge_laws.proofs.MountOnce.{one_table}
use Rattle.drive_spec.specs.Terms.{is_protected}
use Rattle.cartridge_front.proofs.Copies.{IsLearnt, told_learnt}
use Rattle.qic_base.specs.Source as sources
use Rattle.qic_base.specs.Tape as tapes
use Rattle.qic_base.specs.declared.store_fault.StoreFault.TheVariants as fault
use Rattle.qic_base.specs.TapeCalls as tape_calls

forth : {T : Type 0} (m : Meaning T) (old new : T) (steps : List Step) (P : Cartridge → Type 0) → (m.told old ≡ Some None → ⊥) →
    m.told new ≡ option_map (effects steps) (m.told old) →
    Tells m old (λ c. P (changed_by steps c)) → Tells m new P
forth m old new steps P some done fact = subst (λ (o : Option (Option Cartridge)). IfSome o (λ h. IfSome h P)) (sym done)
    (by_told (m.told old) some fact)
  where
    by_told : (o : Option (Option Cartridge)) → (o ≡ Some None → ⊥) → IfSome o (λ h. IfSome h (λ c. P (changed_by steps c))) →
        IfSome (option_map (effects steps) o) (λ h. IfSome h P)
    by_told None some fact = tt
    by_told (Some None) some fact = absurd (some refl)
    by_told (Some (Some c)) some fact = subst (λ (h : Option Cartridge). IfSome h P) (sym (effects-some steps c)) fact

pub same_told : {T : Type 0} (m : Meaning T) (old new : T) (P : Cartridge → Type 0) → Done m old new [] → Tells m old P → Tells m new P
same_told m old new P done fact = subst (λ (o : Option (Option Cartridge)). IfSome o (λ h. IfSome h P)) (sym (Done-told done)) fact

-- the list of a cartridge that may be written
abbrev pub Listed : List Entry → Cartridge → Type 0
Listed entries c = c.info.protected ≡ false → HasList c entries

pub fits_with : {T : Type 0} {part : List (List ℕ)} (m : Meaning T) (old : StoreView) (u : UnitView T) (host : Host) (v : UnitView T)
    (entries : List Entry) → StoreFits m old u →
    Keeps m host u v → IsSoundList (length old.words - 1) entries → Tells m v.tape (Listed entries) →
    StoreFits m (record { host = host; header = old.header; words = old.words; entries = entries; part = part }) v
fits_with m old u host v entries fits keeps order volumes =
    let one : segments_of old.host ≡ segments_of host = one_length m old.host host u v fits.host keeps.ready.fits keeps.same.cartridge in
    let words : length old.words ≡ 28 * segments_of host = fits.words ∙ ap (λ (n : ℕ). 28 * n) one in
    record {
      host = keeps.ready.fits;
      rest = keeps.ready.rest;
      mode = still_primary u.drive.deck v.drive.deck keeps.same fits.mode;
      referenced = still_referenced u.drive.deck v.drive.deck keeps.same fits.referenced;
      agrees = keeps.agrees fits.agrees;
      header = fits.header ∙ one;
      words = words;
      list = subst (λ (n : ℕ). IsSoundList (n - 1) entries) words order;
      volumes = volumes;
    }

-- ---- what refusals leave

pub settling_refused : {T : Type 0} (m : Meaning T) (x y : T) (entries : List Entry) (sectors : List (List ℕ)) (why : StoreFault) →
    why ≢ fault.Tape → SettlesAgain {A = Unit {0}} m x y entries sectors (Err why) → Done m x y []
settling_refused m x y entries sectors (fault.Lost segment lost) other did = did.done
settling_refused m x y entries sectors fault.TableMismatch other did = did.done
settling_refused m x y entries sectors fault.Tape other did = absurd (other refl)
settling_refused m x y entries sectors fault.NotFormatted other did = absurd did
settling_refused m x y entries sectors (fault.Foreign field value) other did = absurd did
settling_refused m x y entries sectors (fault.Full need room_left) other did = absurd did
settling_refused m x y entries sectors (fault.NoVolume number count) other did = absurd did
settling_refused m x y entries sectors (fault.Mismatch segment) other did = absurd did
settling_refused m x y entries sectors fault.Protected other did = absurd did
settling_refused m x y entries sectors (fault.Short asked read) other did = absurd did
settling_refused m x y entries sectors fault.Source other did = absurd did
settling_refused m x y entries sectors fault.Sink other did = absurd did

pub adding_refused : {T : Type 0} (m : Meaning T) (x y : T) (entries : List Entry) (e : Entry) (why : StoreFault) → why ≢ fault.Tape →
    AddsEntry {A = Unit {0}} m x y entries e (Err why) → Done m x y []
adding_refused m x y entries e (fault.Lost segment lost) other did = did.done
adding_refused m x y entries e fault.TableMismatch other did = did.done
adding_refused m x y entries e fault.Tape other did = absurd (other refl)
adding_refused m x y entries e fault.NotFormatted other did = absurd did
adding_refused m x y entries e (fault.Foreign field value) other did = absurd did
adding_refused m x y entries e (fault.Full need room_left) other did = absurd did
adding_refused m x y entries e (fault.NoVolume number count) other did = absurd did
adding_refused m x y entries e (fault.Mismatch segment) other did = absurd did
adding_refused m x y entries e fault.Protected other did = absurd did
adding_refused m x y entries e (fault.Short asked read) other did = absurd did
adding_refused m x y entries e fault.Source other did = absurd did
adding_refused m x y entries e fault.Sink other did = absurd did

-- steps behind the table were done
abbrev pub DidBehind : {T : Type 0} (m : Meaning T) (x y : T) → Type 0
DidBehind m x y = (steps : List Step) × AreIn (λ s i. 2 < s) steps × Done m x y steps

pub least_end : (last : ℕ) (entries : List Entry) → IsSoundList last entries → 2 ≤ last_end entries
least_end last entries order = end_least 2 last entries order

pub input_did : {T S : Type 0} (t : tapes.Meaning T) (s : sources.Meaning S) (words : List ℕ) (entries : List Entry) (promised : Option ℕ)
    (x y : T) (a b : S) (why : StoreFault) → 2 ≤ last_end entries → why ≢ fault.Tape →
    InputIs t s words entries promised (reading x a) (reading y b) (Err why) → DidBehind t x y
input_did t s words entries promised x y a b (fault.Full need room_left) least other is =
    (steps_of (input_writes words entries promised is.input), input_behind words entries promised is.input least, is.went.did)
input_did t s words entries promised x y a b (fault.Short asked read) least other is =
    (steps_of (input_writes words entries promised is.input), input_behind words entries promised is.input least, is.went.did)
input_did t s words entries promised x y a b fault.Source least other is = (
  steps_of is.cut.front,
  front_behind is.cut.front is.cut.rest (input_writes words entries promised is.input) is.cut.parts
      (input_behind words entries promised is.input least),
  is.cut.did,
)
input_did t s words entries promised x y a b fault.Tape least other is = absurd (other refl)
input_did t s words entries promised x y a b fault.NotFormatted least other is = absurd is
input_did t s words entries promised x y a b (fault.Foreign field value) least other is = absurd is
input_did t s words entries promised x y a b fault.TableMismatch least other is = absurd is
input_did t s words entries promised x y a b (fault.NoVolume number count) least other is = absurd is
input_did t s words entries promised x y a b (fault.Lost segment lost) least other is = absurd is
input_did t s words entries promised x y a b (fault.Mismatch segment) least other is = absurd is
input_did t s words entries promised x y a b fault.Protected least other is = absurd is
input_did t s words entries promised x y a b fault.Sink least other is = absurd is

-- ---- the table is settled, ..
pub settled_later : {T : Type 0} (t : Meaning T) (x0 x1 x2 : T) (entries : List Entry) (area : List (List ℕ)) →
    IsSettledAgain t x0 x1 entries area → Tells t x0 (λ c. c.info.protected ≡ false) →
    (t.told x0 ≡ Some None → ⊥) → (t.told x1 ≡ Some None → ⊥) → DidBehind t x1 x2 → Tells t x2 (λ c. IsSettledFor c area)
settled_later t x0 x1 x2 entries area again unprotected some0 some1 did =
    let first : Tells t x1 (λ c. IsSettledFor c area) =
    forth t x0 x1 again.steps (λ d. IsSettledFor d area) some0 again.done.told
    (tells_two t x0 (λ c. TableIs c area × (again.steps ≡ settling_steps area c)) (λ c. c.info.protected ≡ false)
    (λ c. IsSettledFor (changed_by again.steps c) area)
    (λ c known mark. subst (λ (d : Cartridge). IsSettledFor d area)
    (sym (ap (λ (ss : List Step). changed_by ss c) known.1 ∙ settling_settles c area known.0))
    (settled_is_settled_for c area known.0 mark))
    again.told unprotected) in
    forth t x1 x2 did.0 (λ d. IsSettledFor d area) some1 did.2.told
    (Tells-map t x1 (λ c. IsSettledFor c area) (λ c. IsSettledFor (changed_by did.0 c) area)
    (λ c known. settled_behind c area did.0 did.1 known) first)

pub lists_later : {T : Type 0} (t : Meaning T) (x : T) (entries : List Entry) (area : List (List ℕ)) → Shows area entries →
    Tells t x (λ c. IsSettledFor c area) → Tells t x IsCartridge → Tells t x (Listed entries)
lists_later t x entries area shown known whole =
    tells_two t x (λ c. IsSettledFor c area) IsCartridge (Listed entries) (λ c now is mark. has_list c area entries is now shown) known
    whole

-- .. and with the entry it is again
pub lists_added : {T : Type 0} (t : Meaning T) (x y : T) (entries : List Entry) (e : Entry) (area : List (List ℕ)) →
    IsAdded t x y entries e → IsLabel e.name → e.flags < 256 → e.sequence < 256 →
    (t.told x ≡ Some None → ⊥) → Tells t x (λ c. IsSettledFor c area) → Tells t x IsCartridge → Tells t y IsCartridge →
    Tells t y (Listed (entries ++ e ∷ []))
lists_added t x y entries e area did label flags sequence some known whole after =
    let n : ℕ = length entries in
    let new : List (List ℕ) = table_with did.area (length entries) e in
    let within : n < 232 = (let room = did.with_entry.room in let long = length-append entries (e ∷ []) in omega arith) in
    let small : n / 8 < 29 = omega arith in
    let both : Tells t x (λ c. IsSettledFor c area × IsCartridge c) =
    tells_two t x (λ c. IsSettledFor c area) IsCartridge (λ c. IsSettledFor c area × IsCartridge c)
    (λ c one other. (one, other)) known whole in
    let now : Tells t y (λ c. IsSettledFor c new) =
    forth t x y (entry_writes entries e did.area) (λ d. IsSettledFor d new) some did.done.told
    (tells_two t x (λ c. IsSettledFor c area × IsCartridge c) (λ c. TableIs c did.area)
    (λ c. IsSettledFor (changed_by (entry_writes entries e did.area) c) new)
    (λ c was there.
    let one : area ≡ did.area = one_table c area did.area was.0.table there in
    let is_area : IsArea did.area = table_is_area c did.area was.1 there in
    table_settled c did.area new (slot_sector n) small (slot_differs did.area n (slot_bytes e) is_area)
    (slot_area did.area n (slot_bytes e) is_area within (length-slot_bytes e label.size) (slot_are_bytes e label.bytes flags sequence))
    (subst (λ (d : List (List ℕ)). IsSettledFor c d) one was.0))
    both did.told) in
    lists_later t y (entries ++ e ∷ []) new did.with_entry now after

-- the cartridge's mark is that which the drive knows
pub told_mark : {T : Type 0} (t : tapes.Meaning T) (held : StoreView) (u : UnitView T) → StoreFits t held u → (mark : Bool) →
    is_protected u.drive.deck ≡ mark →
    tape_calls.Tells t u.tape (λ c. c.info.protected ≡ mark)
told_mark t held u fits mark is =
    Tells-map t u.tape (IsLearnt held.host) (λ c. c.info.protected ≡ mark)
    (λ c known. known.protected ∙ sym (ap is_protected fits.host.deck) ∙ is)
    (told_learnt t held.host u fits.host fits.agrees)
