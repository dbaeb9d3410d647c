-- What a tape in memory shows whose calls never fail: its cartridge, its size as told, and its room (this project's
-- profile).
use Rattle.std.specs.Prelude.{false, Some, IfSome}
use Rattle.qic_base.specs.Cartridge.{IsLength}
use Rattle.qic_base.specs.Tape.{Meaning}
use Rattle.qic_base.specs.TapeCalls.{IsToldRight, IsLeftNow}
use Rattle.qic_mem.specs.declared.tape.sure.SureTape.{SureTape}
use Rattle.qic_mem.specs.Holder.{HolderState, holder_state, holder-size_fits, holder-told_right}

unfoldable pub sure_state : SureTape → HolderState
sure_state t = holder_state t.holder

-- it tells its cartridge and not its stops, and counts no faults
abbrev pub sure_means : Meaning SureTape
sure_means = record {
  told = λ t. Some (sure_state t).cartridge;
  size = λ t. (sure_state t).size;
  faults = λ t. 0;
  failed_last = λ t. false;
  tells_stops = λ t. false;
  moment = λ t. 0;
  left_since = λ t moment left. Unit {0};
}

-- the laws of a tape
pub sure-size_fits : (t : SureTape) → IfSome (sure_means.size t) IsLength
unfolding sure_state
sure-size_fits t = holder-size_fits t.holder

pub sure-told_right : (t : SureTape) → IsToldRight (sure_means.told t) (sure_means.size t)
unfolding sure_state
sure-told_right t = holder-told_right t.holder

pub sure-left_now : (t : SureTape) → IsLeftNow sure_means t
sure-left_now t = record {
  telling = λ telling. cc;
  counts = λ moment left telling early told. tt;
  only = λ left telling was. cc;
  earlier = λ s u left order early was. tt;
}
