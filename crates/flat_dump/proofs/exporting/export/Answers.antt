use Rattle.std.proofs.Common.{◌≡◌, Option, Some, ℕ, IfSome, refl, subst}
use Rattle.qic_base.specs.Cartridge.{IsLength}
use Rattle.flat_dump.proofs.Ended.{exports}
use Rattle.flat_dump.proofs.exporting.export.Goals as goal

pub returns-in-Ok-Some : goal.returns-in-Ok-Some
returns-in-Ok-Some g c =
    let t = g.T.Tape.means in
    let size : t.size c.info.new.self ≡ Some c.in-Ok-Some.info.segments_per_track =
    rw c.in-Ok-Some.field-0-is at c.in-Ok-Some.ensures.size in
    let long : IsLength c.in-Ok-Some.info.segments_per_track = subst (λ (o : Option ℕ). IfSome o IsLength) size
    (g.met.T.Tape.size_fits c.info.new.self) in
    let told = rw c.in-Ok-Some.field-0-is at c.in-Ok-Some.ensures.info in
    exports t g.K.Sink.means c.args.tape.now c.info.new.self c.export_segments.new.tape c.args.sink.now c.export_segments.new.sink
    c.in-Ok-Some.info.segments_per_track
    (t.size c.args.tape.now) c.in-Ok-Some.info c.export_segments.new.mask.items c.export_segments.result long refl
    (g.met.T.Tape.told_right c.args.tape.now) told c.in-Ok-Some.ensures.did
    c.export_segments.ensures
