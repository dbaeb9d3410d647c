-- An append that a fault of the outside ended, over a table's segment that says no data.
use Rattle.std.proofs.Common.{◌≡◌, inl, inr, List, [], ℕ, Result, Ok, Err, refl, sym, subst, arith}
use Rattle.qic_base.specs.Source as sources
use Rattle.qic_base.specs.Step.{Step}
use Rattle.qic_base.specs.Tape as tapes
use Rattle.qic_base.specs.Tape.{Broke}
use Rattle.qic_base.specs.TapeCalls.{Tells}
use Rattle.qic_base.proofs.Steps.{Tells-map}
use Rattle.qic_base.specs.Acts.{Cut, Failing, Outside, TapeFails, SourceFails}
use Rattle.qic_base.specs.Alone.{no_sink, reading}
use Rattle.cartridge_spec.specs.TableSegment.{TableIs}
use Rattle.cartridge_spec.specs.Settling.{settling_steps}
use Rattle.segment_io.proofs.Going.{tells_always}
use Rattle.volume_store.specs.declared.appended.Appended.{Appended}
use Rattle.qic_base.specs.declared.store_fault.StoreFault.{StoreFault}
use Rattle.qic_base.specs.declared.store_fault.StoreFault.TheVariants as fault
use Rattle.cartridge_front.specs.Again.{FaultUnread, IsOfReading}
use Rattle.volume_store.specs.Appending.{CutUnread, FaultsUnread}

module _ {T S : Type 0} (t : tapes.Meaning T) (s : sources.Meaning S) where
  -- nothing was done before it
  broke_first : (x0 x1 : T) (a : S) → Broke t x0 x1 [] → Cut t s no_sink (reading x0 a) (reading x1 a) [] TapeFails
  broke_first x0 x1 a broke = record {
    front = [];
    rest = [];
    parts = refl;
    broke = broke;
    here = broke.torn;
    wrote = record { took = refl; later = omega arith };
    source_later = omega arith;
  }

  -- the settling failed
  pub unread_first : (x0 x1 : T) (a : S) (why : StoreFault) (r : Result Appended StoreFault) → r ≡ Err why →
      FaultUnread {A = Unit {0}} t x0 x1 (Err why) → IsOfReading {A = Unit {0}} (Err why) →
      FaultsUnread t s (reading x0 a) (reading x1 a) r
  unread_first x0 x1 a why r is unread kind =
      subst (λ (answer : Result Appended StoreFault). FaultsUnread t s (reading x0 a) (reading x1 a) answer) (sym is)
      (by_fault why unread kind)
    where
      by_fault : (f : StoreFault) → FaultUnread {A = Unit {0}} t x0 x1 (Err f) → IsOfReading {A = Unit {0}} (Err f) →
          FaultsUnread t s (reading x0 a) (reading x1 a) (Err f)
      by_fault fault.Tape (inl broke) kind =
          tells_always t x0 (λ c. ((table : List (List ℕ)) → TableIs c table → ⊥) →
          Cut t s no_sink (reading x0 a) (reading x1 a) [] TapeFails) (λ c none. broke_first x0 x1 a broke)
      by_fault fault.Tape (inr told) kind =
          Tells-map t x0 (λ c. (area : List (List ℕ)) × TableIs c area)
          (λ c. ((table : List (List ℕ)) → TableIs c table → ⊥) → Cut t s no_sink (reading x0 a) (reading x1 a) [] TapeFails)
          (λ c some none. absurd (none some.0 some.1)) told
      by_fault fault.Source unread kind = absurd kind
      by_fault (fault.Lost segment lost) unread kind = tt
      by_fault fault.TableMismatch unread kind = tt
      by_fault fault.NotFormatted unread kind = tt
      by_fault (fault.Foreign field value) unread kind = tt
      by_fault (fault.Full need have) unread kind = tt
      by_fault (fault.NoVolume number count) unread kind = tt
      by_fault (fault.Mismatch segment) unread kind = tt
      by_fault fault.Protected unread kind = tt
      by_fault (fault.Short promised read) unread kind = tt
      by_fault fault.Sink unread kind = tt

  -- the settling went, so the table says data
  known_cut : (old new : Outside T S (Unit {0})) (area : List (List ℕ)) (steps : List Step) (failing : Failing) →
      Tells t old.tape (λ c. TableIs c area × (steps ≡ settling_steps area c)) →
      CutUnread t s old new failing
  known_cut old new area steps failing told =
      Tells-map t old.tape (λ c. TableIs c area × (steps ≡ settling_steps area c))
      (λ c. ((table : List (List ℕ)) → TableIs c table → ⊥) → Cut t s no_sink old new [] failing)
      (λ c known none. absurd (none area known.0)) told

  pub unread_known : (old new : Outside T S (Unit {0})) (area : List (List ℕ)) (steps : List Step) (r : Result Appended StoreFault) →
      Tells t old.tape (λ c. TableIs c area × (steps ≡ settling_steps area c)) → FaultsUnread t s old new r
  unread_known old new area steps (Ok appended) told = tt
  unread_known old new area steps (Err fault.Tape) told = known_cut old new area steps TapeFails told
  unread_known old new area steps (Err fault.Source) told = known_cut old new area steps SourceFails told
  unread_known old new area steps (Err (fault.Lost segment lost)) told = tt
  unread_known old new area steps (Err fault.TableMismatch) told = tt
  unread_known old new area steps (Err fault.NotFormatted) told = tt
  unread_known old new area steps (Err (fault.Foreign field value)) told = tt
  unread_known old new area steps (Err (fault.Full need have)) told = tt
  unread_known old new area steps (Err (fault.NoVolume number count)) told = tt
  unread_known old new area steps (Err (fault.Mismatch segment)) told = tt
  unread_known old new area steps (Err fault.Protected) told = tt
  unread_known old new area steps (Err (fault.Short promised read)) told = tt
  unread_known old new area steps (Err fault.Sink) told = tt
