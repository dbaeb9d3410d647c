use Rattle.std.proofs.Common.{◌≡◌, ap, Err, arith}
use Rattle.cartridge_laws.proofs.Places.{count_below}
use Rattle.segment_solve.specs.declared.fault.SegFault.TheVariants.{Lost, Mismatch}
use Rattle.segment_io.proofs.reading.read_segment.Goals as goal

pub returns-in-Err-clause-read : goal.returns-in-Err-clause-read
returns-in-Err-clause-read g c = record {
  within = tt;
  block = tt;
  many = λ named n e.
      let same : c.in-Err.fault ≡ Lost named n = cc in
      let told = (c.in-Err.ensures.solved.many named n).0 (ap Err same) in
      (told.0, told.2, omega (arith, told.1, count_below c.in_ok-lost.lost 32));
  mismatch = λ named e.
      let same : c.in-Err.fault ≡ Mismatch named = cc in
      ((c.in-Err.ensures.solved.mismatch named).0 (ap Err same)).0;
}
