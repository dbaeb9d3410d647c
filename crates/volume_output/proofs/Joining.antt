-- How one segment's part joins those behind it.
use Rattle.std.proofs.Common.{◌≡◌, Bool, true, false, List, [], ◌∷◌, refl, ◌++◌, ap, ℕ, length, arith, Result, Ok, Err, sym, ◌∙◌, subst}
use Rattle.command_laws.proofs.OutputJoining.{EndsAt-more}
use Rattle.command_laws.proofs.RestoreEndings.{read_goes_on, one_act}
use Rattle.command_laws.specs.OutputText.{printed, AreOf}
use Rattle.command_spec.specs.Restore.{Piece, Restored, IsRead, GivingEnd, PieceEnds, LostIn, MismatchIn, Restores}
use Rattle.command_laws.specs.RestoreTerms.{EndsAt}
use Rattle.qic_base.proofs.Joins.{nothing_went, went_both, went_then_cut, cut_is_longer}
use Rattle.qic_base.proofs.Steps.{Tells-map, Tells-read}
use Rattle.qic_base.proofs.Writing.{TakesBoth}
use Rattle.qic_base.specs.Acts.{Act, steps_of, Outside, Failing, TapeFails, SinkFails, Went, Cut}
use Rattle.qic_base.specs.Alone.{no_source}
use Rattle.qic_base.specs.Cartridge.{Cartridge}
use Rattle.qic_base.specs.Step.{Step}
use Rattle.segment_io.proofs.Going.{tells_always, tells_then}
use Rattle.volume_output.specs.Output.{GaveVolume, VolumeCut, OutputEnds}
use Rattle.qic_base.specs.declared.store_fault.StoreFault.{StoreFault}
use Rattle.qic_base.specs.Sink as sinks
use Rattle.qic_base.specs.Tape as tapes
use Rattle.qic_base.specs.TapeCalls as tape_calls
use Rattle.qic_base.specs.declared.store_fault.StoreFault.TheVariants as fault

-- ---- lists of acts as they are printed

pub printed_none : (lined : Bool) (needed : List Piece) → printed lined needed [] ≡ []
printed_none true [] = refl
printed_none true (piece ∷ needed) = refl
printed_none false needed = refl

printed_more : (lined : Bool) (piece : Piece) (needed : List Piece) (act : Act) (acts : List Act) →
    printed lined (piece ∷ []) (act ∷ []) ++ printed lined needed acts ≡ printed lined (piece ∷ needed) (act ∷ acts)
printed_more true piece needed act acts = refl
printed_more false piece needed act acts = refl

pub printed_steps : (lined : Bool) (piece : Piece) (act : Act) → act.steps ≡ [] → steps_of (printed lined (piece ∷ []) (act ∷ [])) ≡ []
printed_steps true piece act none = ap (λ (steps : List Step). steps ++ []) none
printed_steps false piece act none = ap (λ (steps : List Step). steps ++ []) none

-- ---- the part of one segment, and those behind it

module _ {T K : Type 0} (t : tapes.Meaning T) (k : sinks.Meaning K) (words : List ℕ) (lined : Bool) where
  -- no segment is left
  pub gave_none : ((x : K) → k.took x [] x) → (a : Outside T (Unit {0}) K) → GaveVolume t k words [] lined a a Restored
  gave_none none a = record {
    acts = [];
    went = subst (Went t no_source k a a) (sym (printed_none lined [])) (nothing_went t no_source k none a);
    told = tells_always t a.tape (λ c. Restores c words [] [] Restored) (λ c. (refl, refl));
    are = tt;
    ends = refl;
  }

  module _ (piece : Piece) (needed : List Piece) (a b : Outside T (Unit {0}) K) where
    -- the act of the piece went
    record Given : Type 0 where
      act : Act
      went : Went t no_source k a b (printed lined (piece ∷ []) (act ∷ []))
      told : tape_calls.Tells t a.tape (λ c. IsRead c words piece act)
      steps : act.steps ≡ []
      size : length act.text ≡ piece.count

    given_acts : (acts : List Act) → Went t no_source k a b (printed lined (piece ∷ []) acts) →
        tape_calls.Tells t a.tape (λ c. Restores c words (piece ∷ []) acts Restored) → AreOf (piece ∷ []) acts → length acts ≡ 1 → Given
    given_acts [] went told are one = absurd (omega arith)
    given_acts (act ∷ []) went told (steps, size, none) one = record {
      act = act;
      went = went;
      told = Tells-map t a.tape (λ c. Restores c words (piece ∷ []) (act ∷ []) Restored) (λ c. IsRead c words piece act) (λ c h. h.0) told;
      steps = steps;
      size = size;
    }
    given_acts (act ∷ other ∷ acts) went told (steps, size, none) one = absurd none

    given : GaveVolume t k words (piece ∷ []) lined a b Restored → Given
    given gave = given_acts gave.acts gave.went gave.told gave.are gave.ends

    only_read : Given → tapes.Done t a.tape b.tape []
    only_read one = subst (tapes.Done t a.tape b.tape) (printed_steps lined piece one.act one.steps) one.went.did

    -- ---- it went, and then those behind it ended

    module _ (both : TakesBoth k) (new : Outside T (Unit {0}) K) (one : Given) where
      gave_more : (ending : GivingEnd) → GaveVolume t k words needed lined b new ending →
          GaveVolume t k words (piece ∷ needed) lined a new ending
      gave_more ending gave =
          let P : Cartridge → Type 0 = λ c. Restores c words needed gave.acts ending in
          let Q : Cartridge → Type 0 = λ c. Restores c words (piece ∷ needed) (one.act ∷ gave.acts) ending in
          record {
            acts = one.act ∷ gave.acts;
            went = subst (Went t no_source k a new) (printed_more lined piece needed one.act gave.acts)
                (went_both t no_source k both a b new (printed lined (piece ∷ []) (one.act ∷ []))
                (printed lined needed gave.acts) one.went gave.went);
            told = tells_then t a.tape P Q
                (Tells-map t a.tape (λ c. IsRead c words piece one.act) (λ c. P c → Q c) (λ c read rest. (read, rest)) one.told)
                (Tells-read P (only_read one) gave.told);
            are = (one.steps, one.size, gave.are);
            ends = EndsAt-more piece needed (length gave.acts) ending gave.ends;
          }

      -- acts behind it that were cut off
      cut_behind : (failing : Failing) (acts : List Act) → Cut t no_source k b new (printed lined needed acts) failing →
          Cut t no_source k a new (printed lined (piece ∷ needed) (one.act ∷ acts)) failing
      cut_behind failing acts cut =
          subst (λ (xs : List Act). Cut t no_source k a new xs failing) (printed_more lined piece needed one.act acts)
          (went_then_cut t no_source k both a b new (printed lined (piece ∷ []) (one.act ∷ []))
          (printed lined needed acts) failing one.went cut)

      cut_acts : (failing : Failing) (c : Cartridge) → IsRead c words piece one.act →
          ((acts : List Act) (ending : GivingEnd) → Restores c words needed acts ending →
          Cut t no_source k b new (printed lined needed acts) failing) →
          (acts : List Act) (ending : GivingEnd) → Restores c words (piece ∷ needed) acts ending →
          Cut t no_source k a new (printed lined (piece ∷ needed) acts) failing
      cut_acts failing c read rest [] ending restores = absurd (read_goes_on c words piece one.act ending read restores)
      cut_acts failing c read rest (act ∷ acts) ending restores =
          let same : one.act ≡ act = one_act c words piece one.act act read restores.0 in
          subst (λ (x : Act). Cut t no_source k a new (printed lined (piece ∷ needed) (x ∷ acts)) failing) same
          (cut_behind failing acts (rest acts ending restores.1))

      cut_more : (failing : Failing) → VolumeCut t k words needed lined b new failing →
          VolumeCut t k words (piece ∷ needed) lined a new failing
      cut_more failing cut =
          let P : Cartridge → Type 0 = λ c. (acts : List Act) (ending : GivingEnd) → Restores c words needed acts ending →
          Cut t no_source k b new (printed lined needed acts) failing in
          let Q : Cartridge → Type 0 = λ c. (acts : List Act) (ending : GivingEnd) → Restores c words (piece ∷ needed) acts ending →
          Cut t no_source k a new (printed lined (piece ∷ needed) acts) failing in
          record {
            told = tells_then t a.tape P Q
                (Tells-map t a.tape (λ c. IsRead c words piece one.act) (λ c. P c → Q c)
                (λ c read rest. cut_acts failing c read rest) one.told)
                (Tells-read P (only_read one) cut.told);
            acts = one.act ∷ cut.acts;
            are = (one.steps, one.size, cut.are);
            cut = cut_behind failing cut.acts cut.cut;
          }

    pub ends_behind : TakesBoth k → (new : Outside T (Unit {0}) K) (result : Result (Unit {0}) StoreFault) →
        GaveVolume t k words (piece ∷ []) lined a b Restored → OutputEnds t k words needed lined b new result →
        OutputEnds t k words (piece ∷ needed) lined a new result
    ends_behind both new (Ok done) first rest = gave_more both new (given first) Restored rest
    ends_behind both new (Err (fault.Lost segment lost)) first rest = gave_more both new (given first) (LostIn segment lost) rest
    ends_behind both new (Err (fault.Mismatch segment)) first rest = gave_more both new (given first) (MismatchIn segment) rest
    ends_behind both new (Err fault.Sink) first rest = cut_more both new (given first) SinkFails rest
    ends_behind both new (Err fault.Tape) first rest = cut_more both new (given first) TapeFails rest
    ends_behind both new (Err other) first rest = absurd rest

    -- ---- it ended, and those behind it were not begun

    -- no act went
    pub none_given : (ending : GivingEnd) (xs : List Piece) → Went t no_source k a b (printed lined xs []) →
        tape_calls.Tells t a.tape (λ c. PieceEnds c words piece ending) → EndsAt (piece ∷ needed) 0 ending →
        GaveVolume t k words (piece ∷ needed) lined a b ending
    none_given ending xs went told ends = record {
      acts = [];
      went = subst (Went t no_source k a b) (printed_none lined xs ∙ sym (printed_none lined (piece ∷ needed))) went;
      told = told;
      are = tt;
      ends = ends;
    }

    lost_first : (segment lost : ℕ) (acts : List Act) → Went t no_source k a b (printed lined (piece ∷ []) acts) →
        tape_calls.Tells t a.tape (λ c. Restores c words (piece ∷ []) acts (LostIn segment lost)) → AreOf (piece ∷ []) acts →
        EndsAt (piece ∷ []) (length acts) (LostIn segment lost) → GaveVolume t k words (piece ∷ needed) lined a b (LostIn segment lost)
    lost_first segment lost [] went told are ends = none_given (LostIn segment lost) (piece ∷ []) went told ends
    lost_first segment lost (act ∷ []) went told are ends = absurd ends.1
    lost_first segment lost (act ∷ other ∷ acts) went told (steps, size, none) ends = absurd none

    mismatch_first : (segment : ℕ) (acts : List Act) → Went t no_source k a b (printed lined (piece ∷ []) acts) →
        tape_calls.Tells t a.tape (λ c. Restores c words (piece ∷ []) acts (MismatchIn segment)) → AreOf (piece ∷ []) acts →
        EndsAt (piece ∷ []) (length acts) (MismatchIn segment) → GaveVolume t k words (piece ∷ needed) lined a b (MismatchIn segment)
    mismatch_first segment [] went told are ends = none_given (MismatchIn segment) (piece ∷ []) went told ends
    mismatch_first segment (act ∷ []) went told are ends = absurd ends
    mismatch_first segment (act ∷ other ∷ acts) went told (steps, size, none) ends = absurd none

    module _ (failing : Failing) where
      -- its acts that were cut off begin those of all
      cut_none : Cut t no_source k a b (printed lined (piece ∷ []) []) failing →
          Cut t no_source k a b (printed lined (piece ∷ needed) []) failing
      cut_none cut =
          subst (λ (xs : List Act). Cut t no_source k a b xs failing)
          (printed_none lined (piece ∷ []) ∙ sym (printed_none lined (piece ∷ needed))) cut

      cut_one : (act : Act) (acts : List Act) → Cut t no_source k a b (printed lined (piece ∷ []) (act ∷ [])) failing →
          Cut t no_source k a b (printed lined (piece ∷ needed) (act ∷ acts)) failing
      cut_one act acts cut =
          subst (λ (xs : List Act). Cut t no_source k a b xs failing) (printed_more lined piece needed act acts)
          (cut_is_longer t no_source k a b (printed lined (piece ∷ []) (act ∷ [])) (printed lined needed acts) failing cut)

      first_acts : (c : Cartridge) →
          ((acts : List Act) (ending : GivingEnd) → Restores c words (piece ∷ []) acts ending →
          Cut t no_source k a b (printed lined (piece ∷ []) acts) failing) →
          (acts : List Act) (ending : GivingEnd) → Restores c words (piece ∷ needed) acts ending →
          Cut t no_source k a b (printed lined (piece ∷ needed) acts) failing
      first_acts c first [] ending restores = cut_none (first [] ending restores)
      first_acts c first (act ∷ acts) ending restores = cut_one act acts (first (act ∷ []) Restored (restores.0, (refl, refl)))

      are_first : (acts : List Act) → AreOf (piece ∷ []) acts → AreOf (piece ∷ needed) acts
      are_first [] are = tt
      are_first (act ∷ []) (steps, size, none) = (steps, size, tt)
      are_first (act ∷ other ∷ acts) (steps, size, none) = absurd none

      cut_some : (acts : List Act) → AreOf (piece ∷ []) acts → Cut t no_source k a b (printed lined (piece ∷ []) acts) failing →
          Cut t no_source k a b (printed lined (piece ∷ needed) acts) failing
      cut_some [] are cut = cut_none cut
      cut_some (act ∷ []) are cut = cut_one act [] cut
      cut_some (act ∷ other ∷ acts) (steps, size, none) cut = absurd none

      cut_first : VolumeCut t k words (piece ∷ []) lined a b failing → VolumeCut t k words (piece ∷ needed) lined a b failing
      cut_first cut = record {
        told = Tells-map t a.tape
            (λ c. (acts : List Act) (ending : GivingEnd) → Restores c words (piece ∷ []) acts ending →
            Cut t no_source k a b (printed lined (piece ∷ []) acts) failing)
            (λ c. (acts : List Act) (ending : GivingEnd) → Restores c words (piece ∷ needed) acts ending →
            Cut t no_source k a b (printed lined (piece ∷ needed) acts) failing)
            first_acts cut.told;
        acts = cut.acts;
        are = are_first cut.acts cut.are;
        cut = cut_some cut.acts cut.are cut.cut;
      }

    pub ends_there : (why : StoreFault) → OutputEnds t k words (piece ∷ []) lined a b (Err why) →
        OutputEnds t k words (piece ∷ needed) lined a b (Err why)
    ends_there (fault.Lost segment lost) ends = lost_first segment lost ends.acts ends.went ends.told ends.are ends.ends
    ends_there (fault.Mismatch segment) ends = mismatch_first segment ends.acts ends.went ends.told ends.are ends.ends
    ends_there fault.Sink ends = cut_first SinkFails ends
    ends_there fault.Tape ends = cut_first TapeFails ends
    ends_there other ends = absurd ends
