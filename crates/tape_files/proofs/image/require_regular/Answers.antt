use Rattle.std.proofs.Common.{refl}
use Rattle.tape_files.proofs.image.require_regular.Goals as goal

pub returns-then-is_file : goal.returns-then-is_file
returns-then-is_file c = record {
  regular = (λ ok. c.is_file.ensures.0 c.if-is_file.true, λ is. refl);
  refused = tt;
}

pub returns-else-is_file : goal.returns-else-is_file
returns-else-is_file c = record {
  regular = (λ ok. cc ok, λ is. cc (c.is_file.ensures.1 is, c.if-is_file.false));
  refused = refl;
}
