use Rattle.std.proofs.Common.{◌≡◌, ℕ, ◌+◌, ◌-◌, ◌^◌, ◌<◌, ◌≤◌, length, List, [], take, Some, None, Ok, Err, refl, sym, ◌∙◌, subst}
use Rattle.std.proofs.Common.{arith}
use Rattle.std.specs.Prelude.{min}
use Rattle.cartridge_spec.specs.Volumes.{bytes_in}
use Rattle.volume_store.specs.Restoring.{ReadsPart}
use Rattle.volume_copy.proofs.Bytes.{none_unread, none_held, some_unread}
use Rattle.volume_copy.proofs.Filling.{after, part_reads, part_held, part_some, some_sound, some_kept, some_left, none_sound}
use Rattle.volume_copy.proofs.Filling.{none_kept, none_ended, none_known, again_sound, again_kept, again_left, refused_sound}
use Rattle.volume_copy.proofs.Filling.{refused_kept, left_still}
use Rattle.volume_copy.specs.Source.{SourceView, KeepsVolume, source_means, unread_in}
use Rattle.volume_copy.specs.declared.source.VolumeSource.TheInside.{Inside}
use Rattle.volume_copy.proofs.source.VolumeSource.fill.Goals as goal

-- the source as it was before the piece, by its fields
abbrev seen : {T : Type 0} → Inside T → SourceView T
seen i = record {
  store = i.store;
  unit = i.unit;
  number = i.number;
  done = i.next;
  unread = unread_in i.store.part i.held i.given;
  faults = i.refusals;
  fault = i.fault;
}

pub returns-then-self-clause-some : goal.returns-then-self-clause-some
returns-then-self-clause-some g c = λ is.
    let i = c.self.inside in
    subst (λ (s : SourceView g.row.T.Denot). 0 < length s.unread) c.self.view_is (some_unread i.store.part i.held i.given c.self.invariant.0
    c.if-self.true)

pub invariant_of-self-in-Ok-Some : goal.invariant_of-self-in-Ok-Some
invariant_of-self-in-Ok-Some g c =
    let m = g.T.Tape.means in
    let v = seen c.self.inside in
    let store = c.part.new.self in
    let unit = c.part.new.unit in
    let count = c.in-Ok-Some.bytes in
    let part : ReadsPart m v.store store v.number v.done v.unit.tape unit.tape (Ok (Some count)) = rw c.in-Ok-Some.field-0-is at
    c.in-Ok-Some.ensures.ends in
    let read = part_reads m v store unit (Ok (Some count)) part in (
      part_held m v store unit c.part.ensures.store c.part.ensures.fits read c.self.invariant.1 count part,
      some_sound m v store unit c.part.ensures.store c.part.ensures.fits read c.self.invariant.1 count part
          (take count (bytes_in store.part)),
    )

pub invariant_of-self-in-Ok-None : goal.invariant_of-self-in-Ok-None
invariant_of-self-in-Ok-None g c =
    let m = g.T.Tape.means in
    let i = c.self.inside in
    let v = seen i in
    let store = c.part.new.self in
    let unit = c.part.new.unit in
    let part : ReadsPart m v.store store v.number v.done v.unit.tape unit.tape (Ok None) = rw c.in-Ok-None.field-0-is at
    c.in-Ok-None.ensures.ends in
    let read = part_reads m v store unit (Ok None) part in (
      none_held i.store.part store.part i.held i.given c.self.invariant.0 c.if-self.false,
      none_sound m v store unit c.part.ensures.store c.part.ensures.fits read c.self.invariant.1 (unread_in store.part i.held i.given),
    )

pub invariant_of-self-in-Err : goal.invariant_of-self-in-Err
invariant_of-self-in-Err g c =
    let m = g.T.Tape.means in
    let i = c.self.inside in
    let v = seen i in
    let store = c.part.new.self in
    let unit = c.part.new.unit in
    let why = c.in-Err.fault in
    let part : ReadsPart m v.store store v.number v.done v.unit.tape unit.tape (Err why) = c.in-Err.ensures.ends in
    let read = part_reads m v store unit (Err why) part in (
      none_held i.store.part store.part i.held i.given c.self.invariant.0 c.if-self.false,
      refused_sound m v store unit c.part.ensures.store c.part.ensures.fits read c.self.invariant.1 why part
          (unread_in store.part i.held i.given)
          c.saturating_add-self-inside-in-Err.result c.saturating_add-self-inside-in-Err.ensures,
    )

pub invariant_of-self : goal.invariant_of-self
invariant_of-self g c =
    let m = g.T.Tape.means in
    let v = seen c.self.inside in (
      c.self.invariant.0,
      again_sound m v (sym c.is_some.ensures ∙ c.if-is_some.true) c.saturating_add-self-inside.result c.saturating_add-self-inside.ensures
          c.self.invariant.1,
    )

pub returns-then-is_some : goal.returns-then-is_some
returns-then-is_some g c =
    let m = g.T.Tape.means in
    let v = seen c.self.inside in
    let faults = c.saturating_add-self-inside.result in
    let rise = c.saturating_add-self-inside.ensures in
    let next : SourceView g.row.T.Denot = record v { faults = faults } in
    record {
      kept = subst (λ (s : SourceView g.row.T.Denot). KeepsVolume m s next) c.self.view_is
          (again_kept m v (sym c.is_some.ensures ∙ c.if-is_some.true) faults rise);
      left = subst (λ (s : SourceView g.row.T.Denot). (source_means m).left next ≡ (source_means m).left s) c.self.view_is
          (again_left m v faults);
      some = λ is. absurd (cc);
      ended = λ is. absurd (cc);
      count = subst (λ (s : SourceView g.row.T.Denot). faults ≡ min (s.faults + 1) (2 ^ 64 - 1)) c.self.view_is rise;
      later = subst (λ (s : SourceView g.row.T.Denot). s.faults ≤ faults) c.self.view_is (omega (arith, rise));
    }

pub returns-in-Ok-Some : goal.returns-in-Ok-Some
returns-in-Ok-Some g c =
    let m = g.T.Tape.means in
    let i = c.self.inside in
    let v = seen i in
    let store = c.part.new.self in
    let unit = c.part.new.unit in
    let count = c.in-Ok-Some.bytes in
    let part : ReadsPart m v.store store v.number v.done v.unit.tape unit.tape (Ok (Some count)) = rw c.in-Ok-Some.field-0-is at
    c.in-Ok-Some.ensures.ends in
    let read = part_reads m v store unit (Ok (Some count)) part in
    let next : SourceView g.row.T.Denot = after m v store unit (v.done + 1) (take count (bytes_in store.part)) v.faults v.fault in
    record {
      kept = subst (λ (s : SourceView g.row.T.Denot). KeepsVolume m s next) c.self.view_is
          (some_kept m v store unit c.part.ensures.store c.part.ensures.fits read c.self.invariant.1 count part
          (take count (bytes_in store.part)) (none_known v.fault (sym c.is_some.ensures ∙ c.if-is_some.false)));
      left = subst (λ (s : SourceView g.row.T.Denot). (source_means m).left next ≡ (source_means m).left s) c.self.view_is
          (some_left m v store unit c.part.ensures.store c.part.ensures.fits read c.self.invariant.1 count part
          (none_unread i.store.part i.held i.given c.if-self.false));
      some = λ is. part_some m v store unit c.part.ensures.store c.part.ensures.fits read c.self.invariant.1 count part;
      ended = λ is. absurd (cc);
      count = subst (λ (s : SourceView g.row.T.Denot). next.faults ≡ s.faults) c.self.view_is refl;
      later = subst (λ (s : SourceView g.row.T.Denot). s.faults ≤ next.faults) c.self.view_is (omega arith);
    }

pub returns-in-Ok-None : goal.returns-in-Ok-None
returns-in-Ok-None g c =
    let m = g.T.Tape.means in
    let i = c.self.inside in
    let v = seen i in
    let store = c.part.new.self in
    let unit = c.part.new.unit in
    let part : ReadsPart m v.store store v.number v.done v.unit.tape unit.tape (Ok None) = rw c.in-Ok-None.field-0-is at
    c.in-Ok-None.ensures.ends in
    let read = part_reads m v store unit (Ok None) part in
    let unread : List ℕ = unread_in store.part i.held i.given in
    let none : unread ≡ [] = none_unread store.part i.held i.given c.if-self.false in
    let all : v.unread ≡ [] = none_unread i.store.part i.held i.given c.if-self.false in
    let next : SourceView g.row.T.Denot = after m v store unit v.done unread v.faults v.fault in
    record {
      kept = subst (λ (s : SourceView g.row.T.Denot). KeepsVolume m s next) c.self.view_is
          (none_kept m v store unit c.part.ensures.store c.part.ensures.fits read c.self.invariant.1 unread
          (none_known v.fault (sym c.is_some.ensures ∙ c.if-is_some.false)) part);
      left = subst (λ (s : SourceView g.row.T.Denot). (source_means m).left next ≡ (source_means m).left s) c.self.view_is
          (left_still m v store unit c.part.ensures.store c.part.ensures.fits read c.self.invariant.1 unread (none ∙ sym all) v.faults
          v.fault);
      some = λ is. absurd (cc);
      ended = λ is. none_ended m v store unit c.part.ensures.store c.part.ensures.fits read c.self.invariant.1 part all unread none;
      count = subst (λ (s : SourceView g.row.T.Denot). next.faults ≡ s.faults) c.self.view_is refl;
      later = subst (λ (s : SourceView g.row.T.Denot). s.faults ≤ next.faults) c.self.view_is (omega arith);
    }

pub returns-in-Err : goal.returns-in-Err
returns-in-Err g c =
    let m = g.T.Tape.means in
    let i = c.self.inside in
    let v = seen i in
    let store = c.part.new.self in
    let unit = c.part.new.unit in
    let why = c.in-Err.fault in
    let part : ReadsPart m v.store store v.number v.done v.unit.tape unit.tape (Err why) = c.in-Err.ensures.ends in
    let read = part_reads m v store unit (Err why) part in
    let faults = c.saturating_add-self-inside-in-Err.result in
    let rise = c.saturating_add-self-inside-in-Err.ensures in
    let unread : List ℕ = unread_in store.part i.held i.given in
    let same : unread ≡ v.unread = none_unread store.part i.held i.given c.if-self.false ∙
    sym (none_unread i.store.part i.held i.given c.if-self.false) in
    let next : SourceView g.row.T.Denot = after m v store unit v.done unread faults (Some why) in
    record {
      kept = subst (λ (s : SourceView g.row.T.Denot). KeepsVolume m s next) c.self.view_is
          (refused_kept m v store unit c.part.ensures.store c.part.ensures.fits read c.self.invariant.1 why part unread faults rise
          (none_known v.fault (sym c.is_some.ensures ∙ c.if-is_some.false)));
      left = subst (λ (s : SourceView g.row.T.Denot). (source_means m).left next ≡ (source_means m).left s) c.self.view_is
          (left_still m v store unit c.part.ensures.store c.part.ensures.fits read c.self.invariant.1 unread same faults (Some why));
      some = λ is. absurd (cc);
      ended = λ is. absurd (cc);
      count = subst (λ (s : SourceView g.row.T.Denot). faults ≡ min (s.faults + 1) (2 ^ 64 - 1)) c.self.view_is rise;
      later = subst (λ (s : SourceView g.row.T.Denot). s.faults ≤ faults) c.self.view_is (omega (arith, rise));
    }
