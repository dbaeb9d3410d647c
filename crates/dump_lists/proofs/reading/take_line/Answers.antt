use Rattle.std.proofs.Common.{◌∷◌, [], append-nil}
use Rattle.rescue_map.specs.Lines.{content_of}
use Rattle.dump_lists.specs.Names.{bit_range}
use Rattle.dump_lists.proofs.Naming.{line_names, mask_more}
use Rattle.dump_lists.proofs.reading.take_line.Goals as goal

pub returns-in-Nothing : goal.returns-in-Nothing
returns-in-Nothing c = λ ranges is. (
  [],
  line_names c.args.kind (content_of record { bytes = c.args.line.now; ended = c.args.ended }) c.content.result.now c.read_numbers.result
      c.names_of.result _ c.content.ensures c.read_numbers.ensures c.names_of.ensures c.in-Nothing.is,
  rw (append-nil ranges) is,
)

pub returns-in-Bits : goal.returns-in-Bits
returns-in-Bits c = λ ranges is. (
  bit_range c.in-Bits.first c.in-Bits.end ∷ [],
  line_names c.args.kind (content_of record { bytes = c.args.line.now; ended = c.args.ended }) c.content.result.now c.read_numbers.result
      c.names_of.result _ c.content.ensures c.read_numbers.ensures c.names_of.ensures c.in-Bits.is,
  mask_more c.args.mask.now c.mark.new.mask ranges c.in-Bits.first c.in-Bits.end c.mark.auto.mask
      (rw (c.from.ensures, c.from-in-Bits.ensures) at c.mark.ensures) is,
)

pub returns-in-Fault : goal.returns-in-Fault
returns-in-Fault c = λ ranges is.
    line_names c.args.kind (content_of record { bytes = c.args.line.now; ended = c.args.ended }) c.content.result.now c.read_numbers.result
    c.names_of.result _ c.content.ensures c.read_numbers.ensures c.names_of.ensures c.in-Fault.is
