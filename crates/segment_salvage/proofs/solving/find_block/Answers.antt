use Rattle.std.proofs.Common.{refl, ap, subst, sym, ◌∙◌, arith, Ok, Err}
use Rattle.segment_salvage.specs.Filled.{filled_from}
use Rattle.segment_salvage.specs.Found.{IsFound}
use Rattle.segment_salvage.specs.declared.reading.SegmentReading.{SegmentReading}
use Rattle.segment_salvage.proofs.solving.find_block.Goals as goal

pub returns-in-Ok-Wrong : goal.returns-in-Ok-Wrong
returns-in-Ok-Wrong c = record {
  lost_is = refl;
  is_case = (c.in-Ok-Wrong.ensures.wrong c.in-Ok-Wrong.place c.locate.new.sectors).0 (ap Ok c.in-Ok-Wrong.field-0-is, refl);
  left = c.locate.auto.sectors;
}

pub returns-in-Err-TooMany : goal.returns-in-Err-TooMany
returns-in-Err-TooMany c =
    let many = (c.in-Err-TooMany.ensures.too_many c.in-Err-TooMany.field-0-0).0 (ap Err c.in-Err-TooMany.field-0-is) in
    subst (λ (r : SegmentReading). IsFound c.args.lost c.args.sectors.now r c.leave_as_read-in-Err-TooMany.new.sectors)
    (sym c.leave_as_read-in-Err-TooMany.ensures.reading)
    (record {
      lost_is = refl;
      is_case = omega (arith, many.0, many.1);
      left = c.leave_as_read-in-Err-TooMany.ensures.filled ∙ ap (filled_from c.args.lost 0) c.in-Err-TooMany.ensures.unchanged;
    })
