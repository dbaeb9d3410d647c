use Rattle.std.proofs.Common.{◌≡◌, map}
use Rattle.qic_base.specs.declared.tape.SectorView.TheVariants.{Holds}
use Rattle.cartridge_laws.specs.Segment.{hidden}
use Rattle.cartridge_spec.specs.Says.{last_used_below}
use Rattle.volume_table.proofs.leaving_out.last_used.Given as goal

abbrev pub invariant-loop-place : goal.invariant-loop-place
invariant-loop-place l = l.last ≡ last_used_below (hidden l.lost (map Holds l.area)) l.place
