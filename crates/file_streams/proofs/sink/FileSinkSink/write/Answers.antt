use Rattle.std.proofs.Common.{arith}
use Rattle.file_streams.proofs.sink.FileSinkSink.write.Goals as goal

pub returns-in-Ok-clause-cause : goal.returns-in-Ok-clause-cause
returns-in-Ok-clause-cause g c = let stood = c.in-Ok.ensures.stood in record { later = omega arith; stood = stood; failed = tt }
