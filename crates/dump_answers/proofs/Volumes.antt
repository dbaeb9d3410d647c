-- How a volume is given.
use Rattle.std.proofs.Common.{◌≡◌, ℕ, Bool, true, false, not, [], if◌then◌else◌, refl, sym, subst}
use Rattle.std.specs.Prelude.{MatchBool, Result, Ok, Option, Some}
use Rattle.qic_base.specs.Sink as sinks
use Rattle.dump_output.specs.declared.fault.PutFault.{PutFault}
use Rattle.dump_spec.specs.Answers.{Answer, Known, AnswersVolume, GivesVolume, PutsOut, refused, volumes_in, numbered}
use Rattle.dump_spec.specs.Table.{FoundTable}
use Rattle.dump_spec.specs.Volumes.{Volume, carried, has_bad_range, length_of}
use Rattle.dump_spec.specs.declared.status.Status.{Status}
use Rattle.dump_spec.specs.declared.status.Status.TheVariants as ends
use Rattle.dump_answers.specs.Ends.{StatusEnds, Sinks}
use Rattle.dump_answers.proofs.Endings.{ends_as, refusal_ends}

-- how many bytes are asked for
abbrev pub asked_of : Known → FoundTable → (whole : Bool) → Volume → ℕ
asked_of known table whole volume =
    if whole then carried known.layout.masks volume else length_of known.layout.masks table.segment volume

-- one with a bad range is refused
pub bad_range_ends : {K M : Type 0} (k : sinks.Meaning K) (m : sinks.Meaning M) (known : Known) (table : FoundTable) (number : ℕ)
    (whole : Bool) (volume : Volume) (both : Sinks K M) → k.took both.output [] both.output → m.took both.sure [] both.sure →
    has_bad_range table.segment volume ≡ true →
    StatusEnds k m (GivesVolume known table number whole (Some volume)) both both (Ok (ends.BadRange number))
bad_range_ends k m known table number whole volume both nothing none bad =
    refusal_ends k m (GivesVolume known table number whole (Some volume)) (not table.sure) (ends.BadRange number) both nothing none
    (subst (λ (b : Bool). MatchBool b (refused (not table.sure) (ends.BadRange number) ≡ refused (not table.sure) (ends.BadRange number))
    (PutsOut known (not table.sure) volume.entry.start volume.entry.end (asked_of known table whole volume)
    (refused (not table.sure) (ends.BadRange number)))) (sym bad) refl)

-- its bytes are put out
pub volume_put : {K M : Type 0} (k : sinks.Meaning K) (m : sinks.Meaning M) (known : Known) (table : FoundTable) (number size : ℕ)
    (whole : Bool) (volume : Volume) (old new : Sinks K M) (result : Result Status PutFault) → has_bad_range table.segment volume ≡ false →
    size ≡ asked_of known table whole volume →
    StatusEnds k m (PutsOut known (not table.sure) volume.entry.start volume.entry.end size) old new result →
    StatusEnds k m (GivesVolume known table number whole (Some volume)) old new result
volume_put k m known table number size whole volume old new result good asked put =
    ends_as k m (PutsOut known (not table.sure) volume.entry.start volume.entry.end size)
    (GivesVolume known table number whole (Some volume)) old new result
    (λ answer is. there answer (subst (λ (n : ℕ). PutsOut known (not table.sure) volume.entry.start volume.entry.end n answer) asked is))
    (λ answer is. subst (λ (n : ℕ). PutsOut known (not table.sure) volume.entry.start volume.entry.end n answer) (sym asked)
    (back answer is))
    put
  where
    asked_put : Answer → Type 0
    asked_put answer = PutsOut known (not table.sure) volume.entry.start volume.entry.end (asked_of known table whole volume) answer

    either : Answer → Bool → Type 0
    either answer bad = MatchBool bad (answer ≡ refused (not table.sure) (ends.BadRange number)) (asked_put answer)

    there : (answer : Answer) → asked_put answer → either answer (has_bad_range table.segment volume)
    there answer is = subst (λ (b : Bool). either answer b) (sym good) is

    back : (answer : Answer) → either answer (has_bad_range table.segment volume) → asked_put answer
    back answer is = subst (λ (b : Bool). either answer b) good is

-- the one with a number
pub numbered_ends : {K M : Type 0} (k : sinks.Meaning K) (m : sinks.Meaning M) (known : Known) (table : FoundTable) (number : ℕ)
    (whole : Bool) (volume : Option Volume) (old new : Sinks K M) (result : Result Status PutFault) →
    volume ≡ numbered (volumes_in known table) number → StatusEnds k m (GivesVolume known table number whole volume) old new result →
    StatusEnds k m (AnswersVolume known number whole (Some table)) old new result
numbered_ends k m known table number whole volume old new result is put =
    subst (λ (v : Option Volume). StatusEnds k m (GivesVolume known table number whole v) old new result) is put
