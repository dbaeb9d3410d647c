-- In which order an append asked its source and wrote its entry, by what its stages did.
use Rattle.std.proofs.Common.{◌≡◌, ℕ, List, [], ◌∷◌, ◌++◌, drop, Option, Some, None, IfSome, Result, Ok, Err, inl, inr, refl, sym}
use Rattle.std.proofs.Common.{ap, ◌∙◌, subst, ◌<◌}
use Rattle.std.specs.Option.{option_map}
use Rattle.std.proofs.lemmas.List.Elements.{All-nil}
use Rattle.cartridge_spec.specs.TableSegment.{TableIs}
use Rattle.cartridge_spec.specs.Settling.{settling_steps}
use Rattle.command_spec.specs.Append.{input_writes}
use Rattle.qic_base.proofs.Giving.{Gave-nothing}
use Rattle.qic_base.proofs.Joins.{went_then_cut}
use Rattle.qic_base.proofs.Steps.{Tells-map, Broke-front}
use Rattle.qic_base.specs.Acts.{Act, Cut, Failing, Outside, SourceFails, TapeFails}
use Rattle.qic_base.specs.Alone.{no_sink, reading}
use Rattle.qic_base.specs.Step.{Step}
use Rattle.volume_input.proofs.Inputs.{whole_told, untold_content}
use Rattle.volume_input.specs.declared.written.Written.{Written}
use Rattle.volume_store.proofs.Ending.{act_went, broke_cut, fits_taken}
use Rattle.volume_input.proofs.Running.{no_text}
use Rattle.volume_store.proofs.Taking.{given_content}
use Rattle.cartridge_front.specs.Again.{IsOfReading, IsSettledAgain, SettlesAgain}
use Rattle.volume_store.specs.Appending.{AskedFor, AsksInRoom, CutBeforeEntry, HasGivenAll, HasRoomFor, InOrder, InputBroke, InputIs}
use Rattle.volume_store.specs.Appending.{InputWritten, ListsLast, MayAsk, acts_before_entry, kept_by}
use Rattle.volume_store.specs.Mounting.{StoreView}
use Rattle.volume_store.specs.declared.appended.Appended.{Appended}
use Rattle.qic_base.specs.declared.store_fault.StoreFault.{StoreFault}
use Rattle.cartridge_laws.proofs.MountOnce.{one_table}
use Rattle.qic_base.specs.SourceCalls.{input_of}
use Rattle.qic_base.specs.Source as sources
use Rattle.qic_base.specs.Tape as tapes
use Rattle.qic_base.specs.declared.store_fault.StoreFault.TheVariants as fault

-- what is told of an end, by the store's view, is told of the answer that is that end
module _ {T S : Type 0} {t : tapes.Meaning T} {s : sources.Meaning S} {old new : Outside T S (Unit {0})} {view store : StoreView}
    {promised : Option ℕ} {end r : Result Appended StoreFault} where
  pub ordered : view ≡ store → r ≡ end → InOrder t s old new view promised end → InOrder t s old new store promised r
  ordered same is order =
      subst (λ (v : StoreView). InOrder t s old new v promised r) same
      (subst (λ (answer : Result Appended StoreFault). InOrder t s old new view promised answer) (sym is) order)

module _ {T S : Type 0} (t : tapes.Meaning T) (s : sources.Meaning S) (store : StoreView) (promised : Option ℕ) where
  -- ---- the settling was refused, or broke off
  module _ (x0 x1 : T) (a : S) (sectors : List (List ℕ)) where
    broke_early : SettlesAgain {A = Unit {0}} t x0 x1 store.entries sectors (Err fault.Tape) →
        CutBeforeEntry t s (reading x0 a) (reading x1 a) store promised TapeFails
    broke_early did = record {
      input = input_of (s.left a);
      is_told = whole_told (s.left a) (s.left a) [] (Gave-nothing s a a refl);
      content = given_content (s.left a) (s.left a) [] (Gave-nothing s a a refl)
          (untold_content (s.left a) [] (All-nil (λ (b : ℕ). b < 256)));
      told = Tells-map t x0 (λ c. (area : List (List ℕ)) → TableIs c area → (rest : List Step)
          × (did.steps ++ rest ≡ settling_steps area c))
          (λ c. (table : List (List ℕ)) → TableIs c table →
          Cut t s no_sink (reading x0 a) (reading x1 a)
          (acts_before_entry (kept_by store table (settling_steps table c)) promised (input_of (s.left a))) TapeFails)
          (λ c known table is.
          let got = known table is in
          broke_cut t s x0 x1 a (record { steps = settling_steps table c; text = [] })
          (input_writes store.words store.entries promised (input_of (s.left a)))
          (subst (tapes.Broke t x0 x1) got.1 (Broke-front got.0 did.broke))) did.told;
    }

    pub settling_order : (why : StoreFault) → SettlesAgain {A = Unit {0}} t x0 x1 store.entries sectors (Err why) →
        IsOfReading {A = Unit {0}} (Err why) →
        InOrder t s (reading x0 a) (reading x1 a) store promised (Err why)
    settling_order why did kind = record { asks = inl refl; entry = by_fault why did kind }
      where
        by_fault : (f : StoreFault) → SettlesAgain {A = Unit {0}} t x0 x1 store.entries sectors (Err f) →
            IsOfReading {A = Unit {0}} (Err f) →
            ListsLast t s (reading x0 a) (reading x1 a) store promised (Err f)
        by_fault (fault.Lost segment lost) did kind = tt
        by_fault fault.TableMismatch did kind = tt
        by_fault fault.Tape did kind = inl (broke_early did)
        by_fault fault.NotFormatted did kind = tt
        by_fault (fault.Foreign field value) did kind = tt
        by_fault (fault.Full need have) did kind = absurd kind
        by_fault (fault.NoVolume number count) did kind = tt
        by_fault (fault.Mismatch segment) did kind = tt
        by_fault fault.Protected did kind = tt
        by_fault (fault.Short asked read) did kind = tt
        by_fault fault.Source did kind = absurd kind
        by_fault fault.Sink did kind = tt

  -- ---- the table is settled
  module _ (x0 x1 x2 : T) (a b : S) (area : List (List ℕ)) (again : IsSettledAgain t x0 x1 store.entries area) where
    abbrev first_act : Act
    first_act = record { steps = again.steps; text = [] }

    asks_in : HasRoomFor store.words store.entries promised → MayAsk t x0 store promised
    asks_in room = record {
      table = area;
      shown = again.shown;
      read = Tells-map t x0 (λ c. TableIs c area × (again.steps ≡ settling_steps area c)) (λ c. TableIs c area)
          (λ c known. known.0) again.told;
      room = room;
    }

    broke_late : (failing : Failing) → InputBroke t s store.words store.entries promised (reading x1 a) (reading x2 b) failing →
        CutBeforeEntry t s (reading x0 a) (reading x2 b) store promised failing
    broke_late failing broke = record {
      input = broke.input;
      is_told = broke.is_told;
      content = broke.content;
      told = Tells-map t x0 (λ c. TableIs c area × (again.steps ≡ settling_steps area c))
          (λ c. (table : List (List ℕ)) → TableIs c table →
          Cut t s no_sink (reading x0 a) (reading x2 b)
          (acts_before_entry (kept_by store table (settling_steps table c)) promised broke.input) failing)
          (λ c known table is.
          let same : again.steps ≡ settling_steps table c = known.1 ∙ ap (λ (d : List (List ℕ)). settling_steps d c)
          (one_table c area table known.0 is) in
          subst (λ (ss : List Step). Cut t s no_sink (reading x0 a) (reading x2 b)
          (acts_before_entry (kept_by store table ss) promised broke.input) failing) same
          (went_then_cut t s no_sink no_text (reading x0 a) (reading x1 a) (reading x2 b) (first_act ∷ [])
          (input_writes store.words store.entries promised broke.input) failing
          (act_went t s x0 x1 a again.steps again.done) broke.cut)) again.told;
    }

    -- where there is no room for what is promised nothing was asked
    full : (p : Option ℕ) → (HasRoomFor store.words store.entries p → MayAsk t x0 store promised) → IfSome p (λ n. b ≡ a) →
        AsksInRoom t (reading x0 a) (reading x2 b) store promised
    full None may asked = inr (may tt)
    full (Some n) may asked = inl asked

    -- the input came to nothing
    pub input_order : (why : StoreFault) → InputIs t s store.words store.entries promised (reading x1 a) (reading x2 b) (Err why) →
        IfSome promised (λ n. AskedFor store.words store.entries n a b (Err why)) → InOrder t s (reading x0 a) (reading x2 b) store promised
        (Err why)
    input_order (fault.Full need have) is asked = record { asks = full promised (λ room. asks_in room) asked; entry = asked }
    input_order (fault.Short wanted read) is asked = record { asks = inr (asks_in asked); entry = tt }
    input_order fault.Source is asked = record { asks = inr (asks_in asked); entry = (asks_in asked, broke_late SourceFails is) }
    input_order fault.Tape is asked = record { asks = inr (asks_in asked); entry = inl (broke_late TapeFails is) }
    input_order fault.NotFormatted is asked = absurd is
    input_order (fault.Foreign field value) is asked = absurd is
    input_order fault.TableMismatch is asked = absurd is
    input_order (fault.NoVolume number count) is asked = absurd is
    input_order (fault.Lost segment lost) is asked = absurd is
    input_order (fault.Mismatch segment) is asked = absurd is
    input_order fault.Protected is asked = absurd is
    input_order fault.Sink is asked = absurd is

    -- ---- and the input was written
    module _ (x3 : T) (written : Written)
        (wrote : InputWritten t s store.words store.entries promised (reading x1 a) (reading x2 b) written)
        (asked : IfSome promised (λ n. AskedFor store.words store.entries n a b (Ok written))) where
      given_all : HasGivenAll s a b store promised
      given_all = record {
        input = wrote.went.input;
        is_told = wrote.went.is_told;
        content = wrote.went.content;
        bytes = wrote.bytes;
        took = wrote.went.took;
        left = wrote.went.left ∙ ap (λ (n : ℕ). option_map (drop n) (s.left a)) (fits_taken promised wrote.bytes);
      }

      -- the entry was refused
      pub entry_order : (why : StoreFault) → IsOfReading {A = Unit {0}} (Err why) → InOrder t s (reading x0 a) (reading x3 b) store promised
          (Err why)
      entry_order why kind = record { asks = inr (asks_in asked); entry = by_fault why kind }
        where
          by_fault : (f : StoreFault) → IsOfReading {A = Unit {0}} (Err f) → ListsLast t s (reading x0 a) (reading x3 b) store promised
              (Err f)
          by_fault (fault.Lost segment lost) kind = tt
          by_fault fault.TableMismatch kind = tt
          by_fault fault.Tape kind = inr (asks_in asked, given_all)
          by_fault fault.NotFormatted kind = tt
          by_fault (fault.Foreign field value) kind = tt
          by_fault (fault.Full need have) kind = absurd kind
          by_fault (fault.NoVolume number count) kind = tt
          by_fault (fault.Mismatch segment) kind = tt
          by_fault fault.Protected kind = tt
          by_fault (fault.Short wanted read) kind = tt
          by_fault fault.Source kind = absurd kind
          by_fault fault.Sink kind = tt

      -- the list was written with it
      pub added_order : (appended : Appended) → InOrder t s (reading x0 a) (reading x3 b) store promised (Ok appended)
      added_order appended = record { asks = inr (asks_in asked); entry = tt }
