-- How many volumes a run of `make` has appended, by its answer.
use Rattle.cartridge_spec.specs.Appending.{room}
use Rattle.std.proofs.Common.{◌≡◌, ◌≢◌, ℕ, suc, ◌+◌, ◌≤◌, List, [], ◌∷◌, ◌++◌, Bool, true, false, cond, Some, inl, inr, refl, ap, ◌∙◌, sym}
use Rattle.std.proofs.Common.{subst, arith}
use Rattle.cartridge_spec.specs.Settling.{changed_by}
use Rattle.cartridge_spec.specs.Table.{Entry}
use Rattle.command_laws.proofs.MadeStops.{AreStill, IsStill, still_after}
use Rattle.command_spec.specs.Append.{has_promised_room}
use Rattle.command_laws.specs.MadeTerms.{AppendedFrom, made_entry, after_items}
use Rattle.command_spec.specs.Make.{made_length, MakeStep, AppendMade, WearSector, ScrubAll, SumVolume, Runs, StepDoes, appending}
use Rattle.command_spec.specs.Make.{made_answer, AppendedBy}
use Rattle.command_spec.specs.Restore.{GivingEnd, Restored, LostIn, MismatchIn, ending_status}
use Rattle.command_spec.specs.declared.status.Status.{Status}
use Rattle.qic_base.specs.Acts.{Act, steps_of}
use Rattle.qic_base.specs.Cartridge.{Cartridge}
use Rattle.command_spec.specs.declared.status.Status.TheVariants as status

-- so many of all volumes were appended
pub appended_by : (seed count : ℕ) (words : List ℕ) (es : List Entry) (why : Status) (n : ℕ) → n ≤ count →
    AppendedFrom seed 1 count words es why n →
    AppendedBy seed count words es why n
appended_by seed count words es status.Done n within from = from
appended_by seed count words es (status.Full need have) n within from = from
appended_by seed count words es (status.Lost segment lost) n within from = (within, from)
appended_by seed count words es (status.Mismatch segment) n within from = from
appended_by seed count words es why n within from = within

-- ---- steps that leave the volumes are never full

ending_not_full : (need have : ℕ) (ending : GivingEnd) → status.Full need have ≡ ending_status ending → ⊥
ending_not_full need have Restored is = cc
ending_not_full need have (LostIn segment lost) is = cc
ending_not_full need have (MismatchIn segment) is = cc

still_not_full : (seed : ℕ) (c : Cartridge) (words : List ℕ) (es : List Entry) (item : MakeStep) (acts : List Act) (need have : ℕ) →
    IsStill item → StepDoes seed c words es item acts (status.Full need have) → ⊥
still_not_full seed c words es (AppendMade volume) acts need have still does = still
still_not_full seed c words es (WearSector segment sector) acts need have still does = let same = does.1 in cc
still_not_full seed c words es ScrubAll acts need have still (inl refused) = let same = refused.2 in cc
still_not_full seed c words es ScrubAll acts need have still (inr (free, done)) = let same = done.1 in cc
still_not_full seed c words es (SumVolume number) acts need have still does = ending_not_full need have does.ending does.is.1

stills_not_full : (seed : ℕ) (items : List MakeStep) (c : Cartridge) (words : List ℕ) (es : List Entry) (acts : List Act) (need have : ℕ) →
    AreStill items →
    Runs seed c words es items acts (status.Full need have) → ⊥
stills_not_full seed [] c words es acts need have still (none, done) = cc
stills_not_full seed (item ∷ items) c words es acts need have still (inl (other, does)) =
    still_not_full seed c words es item acts need have still.0 does
stills_not_full seed (item ∷ items) c words es acts need have still (inr (first, behind, joined, does, more)) =
    stills_not_full seed items (changed_by (steps_of first) c) words es behind need have still.1
    (subst (λ (list : List Entry). Runs seed (changed_by (steps_of first) c) words list items behind (status.Full need have))
    (still_after seed words es item still.0) more)

-- ---- the count

-- behind all of them
pub counts_behind : (seed volume : ℕ) (items : List MakeStep) (c : Cartridge) (words : List ℕ) (es : List Entry) (acts : List Act)
    (answer : Status) → AreStill items →
    Runs seed c words es items acts answer → AppendedFrom seed volume 0 words es answer 0
counts_behind seed volume items c words es acts status.Done still runs = refl
counts_behind seed volume items c words es acts (status.Full need have) still runs =
    absurd (stills_not_full seed items c words es acts need have still runs)
counts_behind seed volume items c words es acts (status.Lost segment lost) still runs = λ other. refl
counts_behind seed volume items c words es acts (status.Mismatch segment) still runs = refl
counts_behind seed volume items c words es acts answer still runs = tt

-- an append is answered status.Done or status.Full
room_loses_none : (need have segment lost : ℕ) (b : Bool) → status.Lost segment lost ≡ cond b status.Done (status.Full need have) → ⊥
room_loses_none need have segment lost true is = cc
room_loses_none need have segment lost false is = cc

room_matches : (need have segment : ℕ) (b : Bool) → status.Mismatch segment ≡ cond b status.Done (status.Full need have) → ⊥
room_matches need have segment true is = cc
room_matches need have segment false is = cc

-- one that was refused: none
pub counts_refused : (seed volume n : ℕ) (c : Cartridge) (words : List ℕ) (es : List Entry) (acts : List Act) (answer : Status) →
    answer ≢ status.Done →
    StepDoes seed c words es (AppendMade volume) acts answer → AppendedFrom seed volume (suc n) words es answer 0
counts_refused seed volume n c words es acts status.Done other does = absurd (other refl)
counts_refused seed volume n c words es acts (status.Full need have) other (inl refused) = absurd (let same = refused.2 in cc)
counts_refused seed volume n c words es acts (status.Full need have) other (inr (free, inl appended)) =
    (omega arith, ap (λ (v : ℕ). made_answer seed words es v) (none_more volume) ∙ sym appended.answered)
  where
    none_more : (v : ℕ) → v + 0 ≡ v
    none_more v = omega arith
counts_refused seed volume n c words es acts (status.Full need have) other (inr (free, inr lost)) = absurd (let same = lost.3 in cc)
counts_refused seed volume n c words es acts (status.Lost segment lost) other (inl refused) = absurd (let same = refused.2 in cc)
counts_refused seed volume n c words es acts (status.Lost segment lost) other (inr (free, inl appended)) =
    absurd (room_loses_none (made_length seed volume) (room words es) segment lost
    (has_promised_room (room words es) (Some (made_length seed volume))) appended.answered)
counts_refused seed volume n c words es acts (status.Lost segment lost) other (inr (free, inr table)) =
    λ elsewhere. absurd (let same = table.3 in let here : segment ≡ 2 = cc in elsewhere here)
counts_refused seed volume n c words es acts (status.Mismatch segment) other (inl refused) = absurd (let same = refused.2 in cc)
counts_refused seed volume n c words es acts (status.Mismatch segment) other (inr (free, inl appended)) =
    absurd (room_matches (made_length seed volume) (room words es) segment
    (has_promised_room (room words es) (Some (made_length seed volume))) appended.answered)
counts_refused seed volume n c words es acts (status.Mismatch segment) other (inr (free, inr lost)) = absurd (let same = lost.3 in cc)
counts_refused seed volume n c words es acts answer other does = tt

-- .. and with one more in front
pub counts_more : (seed volume n m : ℕ) (words : List ℕ) (es : List Entry) (answer : Status) →
    AppendedFrom seed (volume + 1) n words (es ++ made_entry seed words es volume ∷ []) answer m →
    AppendedFrom seed volume (suc n) words es answer (suc m)
counts_more seed volume n m words es status.Done counts = ap (λ (k : ℕ). suc k) counts
counts_more seed volume n m words es (status.Full need have) counts = (
  omega (arith, counts.0),
  ap (λ (v : ℕ). made_answer seed words (after_items seed words es (appending volume (suc m))) v)
      (shifted volume m) ∙ counts.1,
)
  where
    shifted : (v k : ℕ) → v + suc k ≡ v + 1 + k
    shifted v k = omega arith
counts_more seed volume n m words es (status.Lost segment lost) counts = λ other. ap (λ (k : ℕ). suc k) (counts other)
counts_more seed volume n m words es (status.Mismatch segment) counts = ap (λ (k : ℕ). suc k) counts
counts_more seed volume n m words es answer counts = tt
