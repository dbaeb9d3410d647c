-- How a command ends, by how its parts do.
use Rattle.std.proofs.Common.{◌≡◌, inl, inr, ℕ, ◌+◌, ◌-◌, Bool, List, [], ◌∷◌, ◌++◌, refl, sym, ap, subst}
use Rattle.std.proofs.Common.{◌∙◌, append-nil}
use Rattle.std.proofs.Common.{arith}
use Rattle.std.specs.Prelude.{Result, Ok, Err}
use Rattle.std.specs.List.{range_with_len}
use Rattle.qic_base.specs.Acts.{TookFront}
use Rattle.qic_base.specs.Cause.{HasCause}
use Rattle.qic_base.specs.Disk as disks
use Rattle.qic_base.specs.Sink as sinks
use Rattle.qic_base.specs.Sink.{Wrote}
use Rattle.qic_base.specs.SinkCalls.{Writes, BrokeOff}
use Rattle.dump_opening.specs.Opened.{Shows}
use Rattle.dump_opening.specs.declared.opened.OpenDump.{OpenDump}
use Rattle.dump_output.specs.Put.{Outside, WroteFront, Cut}
use Rattle.dump_output.specs.Put as puts
use Rattle.dump_output.specs.Whole.{PutsWhole}
use Rattle.dump_output.specs.declared.fault.PutFault.{PutFault}
use Rattle.dump_output.specs.declared.fault.PutFault.TheVariants as faults
use Rattle.dump_reader.specs.Laid.{Describes}
use Rattle.dump_spec.specs.Answers.{Answer, Known, PutsOut, output_answer, refused}
use Rattle.dump_spec.specs.Dump.{Dump}
use Rattle.dump_spec.specs.Given.{Given}
use Rattle.dump_spec.specs.Output.{Give, GiveInTurn, Output, output_of}
use Rattle.dump_spec.specs.Pieces.{Layout}
use Rattle.dump_spec.specs.declared.status.Status.{Status}
use Rattle.dump_answers.specs.Ends.{TookFronts, CountsByFault, StatusEnds, Sinks}

-- ---- fronts

pub front_wrote : {K : Type 0} {m : sinks.Meaning K} {old new : K} {text : List ℕ} → WroteFront m old new text → TookFront m old new text
front_wrote w = record { front = w.front; rest = w.rest; parts = w.parts; took = w.wrote.took }

pub front_broke : {K : Type 0} {m : sinks.Meaning K} {old new : K} {text : List ℕ} → BrokeOff m old new text → TookFront m old new text
front_broke b = record { front = b.front; rest = b.rest; parts = b.parts; took = b.took }

pub front_none : {K : Type 0} (m : sinks.Meaning K) (k : K) (text : List ℕ) → m.took k [] k → TookFront m k k text
front_none m k text nothing = record { front = []; rest = text; parts = refl; took = nothing }

pub wrote_none : {K : Type 0} (m : sinks.Meaning K) (k : K) → m.took k [] k → Wrote m k k []
wrote_none m k nothing = record { took = nothing; later = refl }

-- ---- an output of bytes

-- the sinks, without the disk
abbrev pub sinks_of : {D K M : Type 0} → Outside D K M → Sinks K M
sinks_of o = record { output = o.output; sure = o.sure }

cut_fronts : {D K M : Type 0} (d : disks.Meaning D) (k : sinks.Meaning K) (m : sinks.Meaning M) (old new : Outside D K M) (output : Output)
    (warned : Bool) (fault : PutFault) → Cut d k m old new output fault →
    TookFronts k m (sinks_of old) (sinks_of new) (output_answer warned output)
cut_fronts d k m old new output warned faults.Input cut = record { printed = front_wrote cut.bytes; mapped = front_wrote cut.map }
cut_fronts d k m old new output warned faults.Output (inl cut) = record { printed = front_broke cut.bytes; mapped = front_wrote cut.map }
cut_fronts d k m old new output warned faults.Output (inr cut) = record { printed = front_wrote cut.bytes; mapped = front_broke cut.map }

cut_counts : {D K M : Type 0} (d : disks.Meaning D) (k : sinks.Meaning K) (m : sinks.Meaning M) (old new : Outside D K M) (output : Output)
    (fault : PutFault) → Cut d k m old new output fault →
    CountsByFault {T = Status} (d.faults old.disk ∷ []) (d.faults new.disk ∷ []) (k.faults old.output ∷ m.faults old.sure ∷ [])
    (k.faults new.output ∷ m.faults new.sure ∷ []) (Err fault)
cut_counts d k m old new output faults.Input cut = (inl (cut.failed.cause, refl), rw (cut.bytes.wrote.later, cut.map.wrote.later) refl)
cut_counts d k m old new output faults.Output (inl cut) =
    (rw cut.looked.later refl, inl (cut.bytes.cause, rw cut.map.wrote.later refl))
cut_counts d k m old new output faults.Output (inr cut) =
    (rw cut.looked.later refl, inr (cut.bytes.wrote.later, inl (cut.map.cause, refl)))

pub put_counts : {D K M : Type 0} (d : disks.Meaning D) (k : sinks.Meaning K) (m : sinks.Meaning M) (size : ℕ) (old new : Outside D K M)
    (rest : List ℕ) (given : List Given) (result : Result Status PutFault) →
    puts.Puts d k m size old new rest given result →
    CountsByFault (d.faults old.disk ∷ []) (d.faults new.disk ∷ []) (k.faults old.output ∷ m.faults old.sure ∷ [])
    (k.faults new.output ∷ m.faults new.sure ∷ []) result
put_counts d k m size old new rest given (Ok status) (none, all) =
    (rw all.looked.later refl, rw (all.bytes.later, all.map.later) refl)
put_counts d k m size old new rest given (Err fault) cut =
    cut_counts d k m old new (output_of size (given ++ [])) fault (cut [] (λ none. refl))

-- all that its segments give is given, or a front of that
pub put_ends : {D K M : Type 0} (d : disks.Meaning D) (k : sinks.Meaning K) (m : sinks.Meaning M) (known : Known) (warned : Bool)
    (first last size : ℕ) (old new : Outside D K M) (front rest : List ℕ) (given : List Given) (result : Result Status PutFault) →
    front ++ rest ≡ range_with_len first (last + 1 - first) → GiveInTurn known.dump known.layout known.zero_lost front given →
    puts.Puts d k m size old new rest given result →
    ((whole : List Given) → Give known.dump known.layout known.zero_lost first last whole → PutsWhole d k m size old new whole result) →
    StatusEnds k m (PutsOut known warned first last size) (sinks_of old) (sinks_of new) result
put_ends d k m known warned first last size old new front rest given (Ok status) parts gives (none, all) whole = (
  output_answer warned (output_of size given),
  (
    given,
    subst (λ (segments : List ℕ). GiveInTurn known.dump known.layout known.zero_lost segments given)
        (sym (append-nil front) ∙ ap (λ (behind : List ℕ). front ++ behind) (sym none) ∙ parts) gives,
    refl,
  ),
  all.status_is,
  record { printed = all.bytes; mapped = all.map },
)
put_ends d k m known warned first last size old new front rest given (Err fault) parts gives cut whole = λ answer answers.
    subst (λ (a : Answer). TookFronts k m (sinks_of old) (sinks_of new) a) (sym answers.2)
    (cut_fronts d k m old new (output_of size answers.0) warned fault (whole answers.0 answers.1))

-- of an opened dump
pub put_shown : {D K M : Type 0} (d : disks.Meaning D) (k : sinks.Meaning K) (m : sinks.Meaning M) (view : OpenDump) (known : Known)
    (warned : Bool) (first last size : ℕ) (old new : Outside D K M) (result : Result Status PutFault) →
    Shows view (d.told old.disk) known → puts.PutsOut d k m view.known view.zero_lost first last size old new result →
    ((dump : Dump) (layout : Layout) (whole : List Given) → Describes view.known (d.told old.disk) dump layout →
    Give dump layout view.zero_lost first last whole → PutsWhole d k m size old new whole result) →
    StatusEnds k m (PutsOut known warned first last size) (sinks_of old) (sinks_of new) result
put_shown d k m view known warned first last size old new result shows out whole =
    put_ends d k m known warned first last size old new out.front out.rest out.given result out.parts
    (subst (λ (z : Bool). GiveInTurn known.dump known.layout z out.front out.given) (sym shows.zero_lost)
    (out.gives known.dump known.layout shows.describes))
    out.puts
    (λ all give.
    whole known.dump known.layout all shows.describes
    (subst (λ (z : Bool). Give known.dump known.layout z first last all) shows.zero_lost give))

-- ---- answers of another kind

pub ends_as : {K M : Type 0} (k : sinks.Meaning K) (m : sinks.Meaning M) (P Q : Answer → Type 0) (old new : Sinks K M)
    (result : Result Status PutFault) → ((answer : Answer) → P answer → Q answer) → ((answer : Answer) → Q answer → P answer) →
    StatusEnds k m P old new result → StatusEnds k m Q old new result
ends_as k m P Q old new (Ok status) there back ends = (ends.0, there ends.0 ends.1, ends.2, ends.3)
ends_as k m P Q old new (Err fault) there back ends = λ answer is. ends answer (back answer is)

-- a refusal
pub refusal_ends : {K M : Type 0} (k : sinks.Meaning K) (m : sinks.Meaning M) (Answers : Answer → Type 0) (warned : Bool) (status : Status)
    (sinks : Sinks K M) → k.took sinks.output [] sinks.output → m.took sinks.sure [] sinks.sure → Answers (refused warned status) →
    StatusEnds k m Answers sinks sinks (Ok status)
refusal_ends k m Answers warned status sinks nothing none answers = (
  refused warned status,
  answers,
  refl,
  record { printed = wrote_none k sinks.output nothing; mapped = wrote_none m sinks.sure none },
)

-- ---- causes

pub writes_cause : {K T E : Type 0} (k : sinks.Meaning K) (old new : K) (text : List ℕ) (result : Result T E) →
    Writes k old new text result → HasCause (k.faults old) (k.faults new) result
writes_cause k old new text (Ok x) wrote = record { later = omega (arith, wrote.later); stood = wrote.later; failed = tt }
writes_cause k old new text (Err e) broke = record { later = broke.later; stood = tt; failed = broke.cause }
