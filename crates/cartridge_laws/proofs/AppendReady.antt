-- A settled cartridge is ready for an append, and so is one that was appended to; a stop from the settling on.
use Rattle.std.proofs.Common.{inl, inr, List, Option, Some, subst}
use Rattle.cartridge_laws.proofs.AppendDead.{ready_settled}
use Rattle.cartridge_laws.proofs.AppendDone.{stopped_append, done_stands, appended_is_whole}
use Rattle.cartridge_laws.proofs.AppendWhole.{done_is_cartridge}
use Rattle.cartridge_laws.proofs.FormatWriting.{some_weaker}
use Rattle.cartridge_laws.proofs.MountKeeping.{stopped_stands}
use Rattle.cartridge_laws.proofs.MountSettled.{settled_stands, settled_is_whole}
use Rattle.cartridge_laws.proofs.MountWhole.{settled_is_cartridge, settling_effects}
use Rattle.cartridge_laws.specs.AppendLaws.{SettledIsReady, append_steps_of, StoppedFromTheStart, AppendedIsReady}
use Rattle.cartridge_laws.specs.AppendSettled.{SettledMayAppendTo, ReadyIsSettledFor, DoneMayAppendTo}
use Rattle.cartridge_spec.specs.Mounting.{settled}
use Rattle.cartridge_spec.specs.Settling.{settling_steps}
use Rattle.qic_base.proofs.Steps.{Torn-append}
use Rattle.qic_base.specs.Cartridge.{Cartridge}
use Rattle.qic_base.specs.Step.{Step, Torn}

pub settled_may_append_to : SettledMayAppendTo
settled_may_append_to c plain content may table = record {
  cartridge = settled_is_cartridge c plain.table_area may.cartridge table;
  stands = settled_stands c plain plain.table_area may.stands table;
  room = may.room;
  appendable = may.appendable;
}

pub ready_is_settled_for : ReadyIsSettledFor
ready_is_settled_for c plain content ready = (ready.may, ready_settled ready)

pub settled_is_ready : SettledIsReady
settled_is_ready c plain content ready = record {
  may = settled_may_append_to c plain content ready.may ready.table;
  whole = λ i h. settled_is_whole c plain.table_area i ready.table ready.unprotected ready.live h;
}

-- a stop among the steps that settle it and those that append behind them
pub stopped_from_the_start : StoppedFromTheStart
stopped_from_the_start c plain content left may torn =
    let first : List Step = settling_steps plain.table_area c in
    let d : Cartridge = settled plain.table_area c in
    let next : List Step = append_steps_of plain content in
    elim (Torn-append first next (Some c) left torn) [
      | inl front ↦ some_weaker left (λ e stood. inl stood) (stopped_stands c plain plain.table_area left may.may.stands may.table front)
      | inr behind ↦
          stopped_append d plain content left (settled_is_ready c plain content may)
          (subst (λ (held : Option Cartridge). Torn next held left) (settling_effects c plain.table_area may.table) behind)
    ]

-- ---- after an append

pub done_may_append_to : DoneMayAppendTo
done_may_append_to c plain content more may known room appendable = record {
  cartridge = done_is_cartridge c plain content may;
  stands = done_stands c plain content may known;
  room = room;
  appendable = appendable;
}

pub appended_is_ready : AppendedIsReady
appended_is_ready c plain content more ready room appendable = record {
  may = done_may_append_to c plain content more ready.may (ready_settled ready) room appendable;
  whole = appended_is_whole c plain content ready;
}
