-- An append of promised bytes, by its answer (this project's own).
use Rattle.std.specs.Prelude.{◌≡◌, ℕ, List, Some, Result}
use Rattle.qic_base.specs.Source as sources
use Rattle.qic_base.specs.Tape as tapes
use Rattle.qic_base.specs.Alone.{reading}
use Rattle.volume_store.specs.Appending.{AppendEnds, FaultsUnread}
use Rattle.volume_store.specs.Mounting.{StoreView}
use Rattle.volume_store.specs.declared.appended.Appended.{Appended}
use Rattle.qic_base.specs.declared.store_fault.StoreFault.{StoreFault}
use Rattle.volume_script.specs.declared.limited.Limited.{Limited}
use Rattle.volume_script.specs.Limited.{Lends, limited_means}

-- A store's append was lent the promised bytes of a source, and left so many of them.
pub record RanPromised {T S : Type 0} (t : tapes.Meaning T) (s : sources.Meaning S) (a b : T) (i j : S) (store after : StoreView)
    (name : List ℕ) (date promised left : ℕ) (answer : Result Appended StoreFault) : Type 0 where
  pub before : Limited S
  pub behind : Limited S
  pub starts : before.source.now ≡ i
  pub promises : before.left ≡ promised
  pub stops : behind.source.now ≡ j
  pub leaves : behind.left ≡ left
  pub lends : Lends s before behind
  pub ends : AppendEnds t (limited_means s) (reading a before) (reading b behind) store after name date (Some promised) answer
  pub unread : FaultsUnread t (limited_means s) (reading a before) (reading b behind) answer
