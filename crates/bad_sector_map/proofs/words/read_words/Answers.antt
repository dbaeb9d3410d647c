use Rattle.std.proofs.Common.{arith}
use Rattle.bad_sector_map.proofs.AreaLaws.{words_in-more}
use Rattle.bad_sector_map.proofs.words.read_words.Goals as goal

pub loop-segment-preserved : goal.loop-segment-preserved
loop-segment-preserved c = record {
  items = let more = words_in-more c.args.area.now c.loop-segment.segment in cc;
  len = omega (arith, c.push_within.ensures.len, c.loop-segment.invariant.len);
  room = omega (arith, c.push_within.ensures.capacity, c.loop-segment.invariant.room);
}
