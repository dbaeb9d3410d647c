-- The segments in front of the volumes can be read.
use Rattle.std.proofs.Common.{◌≡◌, ℕ, ◌<◌, true}
use Rattle.drive_spec.specs.Terms.{is_referenced}
use Rattle.drive_states.specs.Reach.{reads_in}
use Rattle.drive_states.specs.Unit.{UnitView}
use Rattle.host_driver.specs.Calls.{IsReady}
use Rattle.host_driver.specs.declared.host.Host.{Host}
use Rattle.qic_base.specs.Tape.{Meaning}
use Rattle.segment_io.proofs.Going.{front_segment}
use Rattle.segment_io.specs.Calls.{CanRead}

pub reads_front : {T : Type 0} {m : Meaning T} {h : Host} {u : UnitView T} (segment : ℕ) → IsReady m h u →
    is_referenced u.drive.deck ≡ true → reads_in u.drive.deck.mode ≡ true → segment < 3 → CanRead m h u segment 4294967295
reads_front segment ready referenced mode front = record {
  ready = ready;
  segment = front_segment segment ready.fits referenced front;
  mode = mode;
}
