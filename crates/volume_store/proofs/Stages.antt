-- An append stage by stage, from a store that fits a unit whose cartridge may be written: the list, the fit, and how it ended.
use Rattle.std.proofs.Common.{◌≡◌, ◌≢◌, ◌⊎◌, inl, inr, ℕ, ◌-◌, false, List, [], ◌∷◌, ◌++◌, length, Option, Err, sym, ◌∙◌, subst, arith}
use Rattle.cartridge_laws.specs.TableCells.{HasList}
use Rattle.qic_base.specs.Alone.{reading}
use Rattle.qic_base.specs.CartridgeTerms.{IsCartridge}
use Rattle.qic_base.specs.Tape.{Meaning}
use Rattle.qic_base.specs.TapeCalls.{Tells, IsToldRight}
use Rattle.qic_base.proofs.Steps.{Tells-map, tells_two}
use Rattle.cartridge_spec.specs.Formatting.{IsLabel}
use Rattle.qic_base.specs.Acts.{steps_of}
use Rattle.cartridge_spec.specs.Table.{Entry}
use Rattle.cartridge_laws.specs.Table.{IsSoundList}
use Rattle.cartridge_laws.specs.AppendSettled.{IsSettledFor}
use Rattle.drive_spec.specs.Terms.{is_protected}
use Rattle.drive_states.specs.Unit.{UnitView}
use Rattle.host_driver.specs.declared.host.Host.{Host}
use Rattle.host_driver.specs.Calls.{Keeps}
use Rattle.host_driver.specs.Fits.{deck_of}
use Rattle.host_driver.proofs.Keeping.{keeps_both}
use Rattle.volume_input.specs.declared.written.Written.{Written}
use Rattle.volume_store.specs.declared.appended.Appended.{Appended}
use Rattle.qic_base.specs.declared.store_fault.StoreFault.{StoreFault}
use Rattle.cartridge_front.specs.Again.{IsSettledAgain, IsAdded, IsOfReading, SettlesAgain, AddsEntry}
use Rattle.volume_store.specs.Appending.{InputIs, InputWritten, HasAppended, AppendEnds}
use Rattle.command_spec.specs.Append.{input_writes}
use Rattle.volume_store.specs.Mounting.{StoreView, StoreFits}
use Rattle.command_laws.proofs.StoreBehind.{input_behind}
use Rattle.cartridge_front.proofs.Copies.{IsLearnt, told_learnt}
use Rattle.volume_store.proofs.Ending.{right_tells, made}
use Rattle.volume_store.proofs.Fitting.{DidBehind, Listed, adding_refused, fits_with, input_did, least_end, lists_added, lists_later}
use Rattle.volume_store.proofs.Fitting.{same_told, settled_later, settling_refused}
use Rattle.volume_store.proofs.Scrubs.{told_there}
use Rattle.qic_base.specs.Source as sources
use Rattle.qic_base.specs.Tape as tapes
use Rattle.qic_base.specs.declared.store_fault.StoreFault.TheVariants as fault
use Rattle.volume_store.proofs.Ending as ending

-- a store that fits a unit, of whose told cartridge is known that it may be written
pub record IsWritable {T : Type 0} (t : Meaning T) (store : StoreView) (u : UnitView T) : Type 0 where
  pub fits : StoreFits t store u
  pub unprotected : Tells t u.tape (λ c. c.info.protected ≡ false)
  pub order : IsSoundList (length store.words - 1) store.entries

-- a store's view fits as the store does, and the host has learnt that the cartridge isn't protected
pub writable : {T : Type 0} (t : Meaning T) (view store : StoreView) (u : UnitView T) → view ≡ store → StoreFits t store u →
    is_protected (deck_of view.host) ≡ false → IsWritable t view u
writable t view store u same fits mark =
    let here : StoreFits t view u = subst (λ (v : StoreView). StoreFits t v u) (sym same) fits in
    record {
      fits = here;
      unprotected = Tells-map t u.tape (IsLearnt view.host) (λ c. c.info.protected ≡ false) (λ c known. known.protected ∙ mark)
          (told_learnt t view.host u here.host here.agrees);
      order = subst (λ (n : ℕ). IsSoundList (n - 1) view.entries) (sym here.words) here.list;
    }

-- a store with this host and these entries, and whatever sectors
abbrev pub with_list : StoreView → Host → List Entry → (part : List (List ℕ)) → StoreView
with_list store host entries part = record { host = host; header = store.header; words = store.words; entries = entries; part = part }

module _ {T S : Type 0} (t : tapes.Meaning T) (s : sources.Meaning S) {store : StoreView} {u : UnitView T}
    (may : IsWritable t store u) where
  -- ---- the settling was refused
  module _ {h : Host} {v : UnitView T} (keeps : Keeps t h u v) (sectors : List (List ℕ)) (why : StoreFault)
      (did : SettlesAgain {A = Unit {0}} t u.tape v.tape store.entries sectors (Err why)) where
    pub settling_fits : {part : List (List ℕ)} → why ≢ fault.Tape → StoreFits t (with_list store h store.entries part) v
    settling_fits other =
        fits_with t store u h v store.entries may.fits keeps may.order
        (same_told t u.tape v.tape (Listed store.entries) (settling_refused t u.tape v.tape store.entries sectors why other did)
        may.fits.volumes)

    pub settling_ends : (part : List (List ℕ)) (name : List ℕ) (date : ℕ) (promised : Option ℕ) (a : S) →
        IsOfReading {A = Unit {0}} (Err why) →
        AppendEnds t s (reading u.tape a) (reading v.tape a) store (with_list store h store.entries part) name date promised (Err why)
    settling_ends part name date promised a kind =
        ending.first_refused t s store (with_list store h store.entries part) name date promised u.tape v.tape a sectors why did kind
        (tells_two t u.tape (Listed store.entries) (λ c. c.info.protected ≡ false) (λ c. HasList c store.entries)
        (λ c shows off. shows off) may.fits.volumes may.unprotected)

  -- ---- the table is settled
  module _ {h k : Host} {v w : UnitView T} {area : List (List ℕ)} (again : IsSettledAgain t u.tape v.tape store.entries area)
      (keeps : Keeps t h u v) (next : Keeps t k v w)
      (right : IsToldRight (t.told w.tape) (t.size w.tape)) where
    whole : Tells t w.tape IsCartridge
    whole = right_tells t w.tape right

    -- .. and stays so
    still_settled : DidBehind t v.tape w.tape → Tells t w.tape (λ c. IsSettledFor c area)
    still_settled did =
        settled_later t u.tape v.tape w.tape store.entries area again may.unprotected
        (told_there t store.host u may.fits.host may.fits.agrees)
        (told_there t h v keeps.ready.fits (keeps.agrees may.fits.agrees)) did

    still_listed : DidBehind t v.tape w.tape → Tells t w.tape (Listed store.entries)
    still_listed did = lists_later t w.tape store.entries area again.shown (still_settled did) whole

    -- the input came to nothing
    pub input_fits : {part : List (List ℕ)} (promised : Option ℕ) (a b : S) (why : StoreFault) →
        InputIs t s store.words store.entries promised (reading v.tape a) (reading w.tape b) (Err why) → why ≢ fault.Tape →
        StoreFits t (with_list store k store.entries part) w
    input_fits promised a b why is other =
        fits_with t store u k w store.entries may.fits (keeps_both keeps next) may.order
        (still_listed (input_did t s store.words store.entries promised v.tape w.tape a b why
        (least_end (length store.words - 1) store.entries may.order) other is))

    pub input_ends : (part : List (List ℕ)) (name : List ℕ) (date : ℕ) (promised : Option ℕ) (a b : S) (why : StoreFault) →
        InputIs t s store.words store.entries promised (reading v.tape a) (reading w.tape b) (Err why) →
        AppendEnds t s (reading u.tape a) (reading w.tape b) store (with_list store k store.entries part) name date promised (Err why)
    input_ends part name date promised a b why is = ending.input_refused t s store
        (with_list store k store.entries part) name date promised u.tape v.tape w.tape a b area again why is

    -- ---- and the input was written
    module _ (name : List ℕ) (date : ℕ) (promised : Option ℕ) (a b : S) (written : Written) (size : ℕ) (sized : size ≡ written.bytes)
        (wrote : InputWritten t s store.words store.entries promised (reading v.tape a) (reading w.tape b) written) where
      abbrev new : Entry
      new = made name date written.start written.end size

      did_input : DidBehind t v.tape w.tape
      did_input = (
        steps_of (input_writes store.words store.entries promised wrote.went.input),
        input_behind store.words store.entries promised wrote.went.input (least_end (length store.words - 1) store.entries may.order),
        wrote.went.went.did,
      )

      order_with : IsSoundList (length store.words - 1) (store.entries ++ new ∷ [])
      order_with = ending.new_order t s store store name date promised u.tape v.tape w.tape a b area again w.tape written size sized
          may.order may.unprotected whole wrote

      -- the list as it was, or with the entry
      pub either_order : (list : List Entry) → (list ≡ store.entries) ⊎ (list ≡ store.entries ++ new ∷ []) →
          IsSoundList (length store.words - 1) list
      either_order list (inl is) = subst (λ (es : List Entry). IsSoundList (length store.words - 1) es) (sym is) may.order
      either_order list (inr is) = subst (λ (es : List Entry). IsSoundList (length store.words - 1) es) (sym is) order_with

      module _ {j : Host} {x : UnitView T} (last : Keeps t j w x) (list : List Entry) where
        -- the entry was refused
        pub entry_fits : {part : List (List ℕ)} (why : StoreFault) → AddsEntry {A = Unit {0}} t w.tape x.tape store.entries new (Err why) →
            why ≢ fault.Tape → list ≡ store.entries →
            StoreFits t (with_list store j list part) x
        entry_fits why did other same =
            fits_with t store u j x list may.fits (keeps_both (keeps_both keeps next) last) (either_order list (inl same))
            (subst (λ (es : List Entry). Tells t x.tape (Listed es)) (sym same)
            (same_told t w.tape x.tape (Listed store.entries) (adding_refused t w.tape x.tape store.entries new why other did)
            (still_listed did_input)))

        pub entry_ends : (part : List (List ℕ)) (why : StoreFault) → AddsEntry {A = Unit {0}} t w.tape x.tape store.entries new (Err why) →
            IsOfReading {A = Unit {0}} (Err why) →
            AppendEnds t s (reading u.tape a) (reading x.tape b) store (with_list store j list part) name date promised (Err why)
        entry_ends part why did kind =
            ending.entry_refused t s store (with_list store j list part) name date promised u.tape v.tape w.tape a b area again x.tape
            written size sized may.order may.unprotected whole wrote
            why did kind

        -- the list was written with the entry
        module _ (did : IsAdded t w.tape x.tape store.entries new) (is : list ≡ store.entries ++ new ∷ []) where
          pub added_fits : {part : List (List ℕ)} → IsLabel name → IsToldRight (t.told x.tape) (t.size x.tape) →
              StoreFits t (with_list store j list part) x
          added_fits label there =
              let both = keeps_both keeps next in
              fits_with t store u j x list may.fits (keeps_both both last) (either_order list (inr is))
              (subst (λ (es : List Entry). Tells t x.tape (Listed es)) (sym is)
              (lists_added t w.tape x.tape store.entries new area did label (omega arith) (omega arith)
              (told_there t k w both.ready.fits (both.agrees may.fits.agrees))
              (still_settled did_input) whole (right_tells t x.tape there)))

          pub added_ends : {part : List (List ℕ)} (appended : Appended) → appended.number ≡ length list → appended.bytes ≡ size →
              appended.start ≡ written.start → appended.end ≡ written.end →
              HasAppended t s (reading u.tape a) (reading x.tape b) store (with_list store j list part) name date promised appended
          added_ends {part = part} appended number bytes start end =
              ending.added t s store (with_list store j list part) name date promised u.tape v.tape w.tape a b area again x.tape written
              size sized may.order may.unprotected whole wrote
              appended did is number bytes start end
