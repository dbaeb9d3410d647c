use Rattle.std.proofs.Common.{◌≡◌, ℕ, ◌+◌, ◌*◌, ◌<◌, List, length, replicate, refl, ap, ap₂, ◌∙◌, subst, arith, rules}
use Rattle.std.specs.Prelude.{slice_index}
use Rattle.std.proofs.lemmas.List.{length-replicate, take_all}
use Rattle.qic_base.proofs.Giving.{Gave-nothing}
use Rattle.qic_base.proofs.Steps.{Rose-after}
use Rattle.sector_fill.specs.Filling.{AreFilled}
use Rattle.cart_image.specs.Layout.{cells_len}
use Rattle.flat_dump.specs.Cells.{cells_of, joined}
use Rattle.flat_dump.proofs.Copying.{CopiedSoFar, copied_ended, copied_more, copied_to_end}
use Rattle.flat_dump.proofs.Copying.{copied_to_limit, few_more, filled_ended, filled_whole}
use Rattle.flat_dump.proofs.Copying.{filled_within, length-segment, no_image_yet, none_copied}
use Rattle.flat_dump.proofs.Laying.{length-laid}
use Rattle.flat_dump.proofs.Passing.{append_fails, append_ran}
use Rattle.flat_dump.proofs.importing.copy_segments.Goals as goal

pub loop-segment-init : goal.loop-segment-init
loop-segment-init g c = record {
  seen = c.requires.seen;
  kept = g.met.S.Source.keeps_itself c.args.source.now;
  stood = refl;
  room = length-replicate {A = List ℕ} 32 (replicate 1024 0);
  segments = refl;
  bytes = refl;
  few = omega arith;
  so_far = none_copied g.S.Source.means g.D.Disk.means c.args.source.now c.args.disk.now c.args.mask.now
      (Gave-nothing g.S.Source.means c.args.source.now c.args.source.now refl);
}

pub returns-in-Ok-eq0-clause-copies : goal.returns-in-Ok-eq0-clause-copies
returns-in-Ok-eq0-clause-copies g c =
    let m = g.D.Disk.means in
    let s = g.S.Source.means in
    let before = c.loop-segment.invariant in
    let room = before.room in
    let size = c.in-Ok-eq0.ensures.size in
    let filled : AreFilled s c.loop-segment.source c.fill_sectors.new.source 32 32768 c.fill_sectors.new.sectors c.in-Ok-eq0.field-0 =
    subst (λ (xs : List (List ℕ)). AreFilled s c.loop-segment.source c.fill_sectors.new.source 32 32768 xs c.in-Ok-eq0.field-0)
    (take_all 32 c.fill_sectors.new.sectors (omega arith)) c.in-Ok-eq0.ensures.filled in
    let none = subst (λ (n : ℕ). AreFilled s c.loop-segment.source c.fill_sectors.new.source 32 32768 c.fill_sectors.new.sectors n)
    c.in-Ok-eq0.field-0-test filled in
    let ended = copied_ended s m c.args.source.now c.loop-segment.source c.fill_sectors.new.source c.args.disk.now c.loop-segment.disk
    c.args.mask.now c.loop-segment.segment c.loop-segment.copied.lost
    (32768 * c.loop-segment.segment) c.fill_sectors.new.sectors before.so_far none in
    copied_to_end s m c.args.source.now c.fill_sectors.new.source c.args.disk.now c.loop-segment.disk c.args.mask.now c.args.most
    c.loop-segment.segment c.loop-segment.copied.lost
    (32768 * c.loop-segment.segment) c.loop-segment.copied ended.0 ended.1 before.segments refl before.bytes (omega arith) c.requires.few
    (omega arith) (omega arith)

pub returns-in-Err-clause-copies : goal.returns-in-Err-clause-copies
returns-in-Err-clause-copies g c =
    let before = c.loop-segment.invariant in
    let so_far = before.so_far in
    let cause = c.in-Err.ensures.cause in (
      Rose-after (g.S.Source.means.faults c.args.source.now) (g.S.Source.means.faults c.loop-segment.source)
          (g.S.Source.means.faults c.fill_sectors.new.source) before.stood cause.failed,
      λ first u. no_image_yet g.D.Disk.means first c.loop-segment.disk so_far.file (so_far.goes first u),
    )

pub write_segment-requires-clause-whole : goal.write_segment-requires-clause-whole
write_segment-requires-clause-whole g c =
    let s = g.S.Source.means in
    let before = c.loop-segment.invariant in
    let room = before.room in
    let size = c.in-Ok.ensures.size in
    let filled : AreFilled s c.loop-segment.source c.fill_sectors.new.source 32 32768 c.fill_sectors.new.sectors c.in-Ok.len =
    subst (λ (xs : List (List ℕ)). AreFilled s c.loop-segment.source c.fill_sectors.new.source 32 32768 xs c.in-Ok.len)
    (take_all 32 c.fill_sectors.new.sectors (omega arith)) c.in-Ok.ensures.filled in
    filled_whole s c.loop-segment.source c.fill_sectors.new.source c.fill_sectors.new.sectors c.in-Ok.len filled

pub returns-in-Err-write_segment-clause-copies : goal.returns-in-Err-write_segment-clause-copies
returns-in-Err-write_segment-clause-copies g c = λ first u.
    let m = g.D.Disk.means in
    let s = g.S.Source.means in
    let before = c.loop-segment.invariant in
    let so_far = before.so_far in
    let room = before.room in
    let size = c.in-Ok.ensures.size in
    let word : ℕ = slice_index c.args.mask.now c.loop-segment.segment in
    let filled : AreFilled s c.loop-segment.source c.fill_sectors.new.source 32 32768 c.fill_sectors.new.sectors c.in-Ok.len =
    subst (λ (xs : List (List ℕ)). AreFilled s c.loop-segment.source c.fill_sectors.new.source 32 32768 xs c.in-Ok.len)
    (take_all 32 c.fill_sectors.new.sectors (omega arith)) c.in-Ok.ensures.filled in
    let long : length so_far.file ≡ 64 + cells_len * c.loop-segment.segment = let v = so_far.size in
    length-laid so_far.file so_far.views so_far.laid ∙ (omega arith) in
    append_fails m g.met.D.Disk.left_now g.met.D.Disk.told_right first c.loop-segment.disk c.write_segment.new.disk c.loop-segment.segment
    so_far.file
    (joined (cells_of word c.in-Ok.len c.fill_sectors.new.sectors)) long
    (length-segment word c.in-Ok.len c.fill_sectors.new.sectors
    (filled_whole s c.loop-segment.source c.fill_sectors.new.source c.fill_sectors.new.sectors c.in-Ok.len filled))
    (so_far.goes first u) c.in-Err-write_segment.ensures.ran

pub returns-then-len-lt-SEGMENT_LEN-clause-copies :
    goal.returns-then-len-lt-SEGMENT_LEN-clause-copies
returns-then-len-lt-SEGMENT_LEN-clause-copies g c =
    let m = g.D.Disk.means in
    let s = g.S.Source.means in
    let before = c.loop-segment.invariant in
    let room = before.room in
    let size = c.in-Ok.ensures.size in
    let word : ℕ = slice_index c.args.mask.now c.loop-segment.segment in
    let filled : AreFilled s c.loop-segment.source c.fill_sectors.new.source 32 32768 c.fill_sectors.new.sectors c.in-Ok.len =
    subst (λ (xs : List (List ℕ)). AreFilled s c.loop-segment.source c.fill_sectors.new.source 32 32768 xs c.in-Ok.len)
    (take_all 32 c.fill_sectors.new.sectors (omega arith)) c.in-Ok.ensures.filled in
    let within = filled_within s c.loop-segment.source c.fill_sectors.new.source c.fill_sectors.new.sectors c.in-Ok.len filled in
    let some : 0 < c.in-Ok.len = search rules in
    let more = copied_more s m c.args.source.now c.loop-segment.source c.fill_sectors.new.source c.args.disk.now c.loop-segment.disk
    c.write_segment.new.disk c.args.mask.now c.loop-segment.segment
    c.loop-segment.copied.lost c.in-Ok.len c.in-Ok-write_segment.lost c.fill_sectors.new.sectors before.so_far filled
    c.in-Ok-write_segment.ensures.lost
    (λ disk file long u. append_ran m g.met.D.Disk.left_now g.met.D.Disk.told_right disk c.loop-segment.disk c.write_segment.new.disk
    c.loop-segment.segment file
    (joined (cells_of word c.in-Ok.len c.fill_sectors.new.sectors)) long
    (length-segment word c.in-Ok.len c.fill_sectors.new.sectors
    (filled_whole s c.loop-segment.source c.fill_sectors.new.source c.fill_sectors.new.sectors c.in-Ok.len filled)) u
    c.in-Ok-write_segment.ensures.ran) in
    copied_to_end s m c.args.source.now c.fill_sectors.new.source c.args.disk.now c.write_segment.new.disk c.args.mask.now c.args.most
    (c.loop-segment.segment + 1)
    (c.loop-segment.copied.lost + c.in-Ok-write_segment.lost) (32768 * c.loop-segment.segment + c.in-Ok.len) _ more
    (filled_ended s c.loop-segment.source c.fill_sectors.new.source c.fill_sectors.new.sectors c.in-Ok.len filled (omega arith)) refl refl
    (ap₂ (λ (a b : ℕ). a + b) before.bytes c.from.ensures)
    (omega arith) c.requires.few (omega arith) (omega arith)

pub loop-segment-preserved : goal.loop-segment-preserved
loop-segment-preserved g c =
    let m = g.D.Disk.means in
    let s = g.S.Source.means in
    let before = c.loop-segment.invariant in
    let room = before.room in
    let bytes = before.bytes in
    let few = before.few in
    let size = c.in-Ok.ensures.size in
    let lost = c.in-Ok-write_segment.ensures.few in
    let word : ℕ = slice_index c.args.mask.now c.loop-segment.segment in
    let filled : AreFilled s c.loop-segment.source c.fill_sectors.new.source 32 32768 c.fill_sectors.new.sectors c.in-Ok.len =
    subst (λ (xs : List (List ℕ)). AreFilled s c.loop-segment.source c.fill_sectors.new.source 32 32768 xs c.in-Ok.len)
    (take_all 32 c.fill_sectors.new.sectors (omega arith)) c.in-Ok.ensures.filled in
    let within = filled_within s c.loop-segment.source c.fill_sectors.new.source c.fill_sectors.new.sectors c.in-Ok.len filled in
    let all : 32768 * c.loop-segment.segment + c.in-Ok.len ≡ 32768 * (c.loop-segment.segment + 1) = omega arith in
    let more = copied_more s m c.args.source.now c.loop-segment.source c.fill_sectors.new.source c.args.disk.now c.loop-segment.disk
    c.write_segment.new.disk c.args.mask.now c.loop-segment.segment
    c.loop-segment.copied.lost c.in-Ok.len c.in-Ok-write_segment.lost c.fill_sectors.new.sectors before.so_far filled
    c.in-Ok-write_segment.ensures.lost
    (λ disk file long u. append_ran m g.met.D.Disk.left_now g.met.D.Disk.told_right disk c.loop-segment.disk c.write_segment.new.disk
    c.loop-segment.segment file
    (joined (cells_of word c.in-Ok.len c.fill_sectors.new.sectors)) long
    (length-segment word c.in-Ok.len c.fill_sectors.new.sectors
    (filled_whole s c.loop-segment.source c.fill_sectors.new.source c.fill_sectors.new.sectors c.in-Ok.len filled)) u
    c.in-Ok-write_segment.ensures.ran) in
    record {
      seen = c.in-Ok-write_segment.ensures.seen;
      kept = g.met.S.Source.keeps_on _ _ _ before.kept c.in-Ok.ensures.kept;
      stood = c.in-Ok.ensures.cause.stood ∙ before.stood;
      room = c.in-Ok.ensures.size ∙ before.room;
      segments = refl;
      bytes = omega arith;
      few = omega arith;
      so_far = subst (λ (n : ℕ). CopiedSoFar s m c.args.source.now c.fill_sectors.new.source c.args.disk.now c.write_segment.new.disk
          c.args.mask.now (c.loop-segment.segment + 1)
          (c.loop-segment.copied.lost + c.in-Ok-write_segment.lost) n) all more;
    }

pub returns-in-Ok-count_next-clause-copies : goal.returns-in-Ok-count_next-clause-copies
returns-in-Ok-count_next-clause-copies g c =
    let m = g.D.Disk.means in
    let s = g.S.Source.means in
    let before = c.loop-segment.invariant in
    let at : c.loop-segment.segment ≡ c.args.most = omega arith in
    let bytes : c.loop-segment.copied.bytes ≡ 32768 * c.args.most = before.bytes ∙ ap (λ (n : ℕ). 32768 * n) at in
    let so_far = subst (λ (n : ℕ). CopiedSoFar s m c.args.source.now c.loop-segment.source c.args.disk.now c.loop-segment.disk
    c.args.mask.now n c.loop-segment.copied.lost (32768 * n)) at before.so_far in
    copied_to_limit s m c.args.source.now c.loop-segment.source c.args.disk.now c.loop-segment.disk c.args.mask.now c.args.most
    c.loop-segment.copied.lost c.in-Ok-count_next.more _ so_far c.in-Ok-count_next.ensures.counts (before.segments ∙ at) refl
    (ap (λ (b : ℕ). b + c.in-Ok-count_next.more) bytes)

pub returns-in-Err-count_next-clause-copies : goal.returns-in-Err-count_next-clause-copies
returns-in-Err-count_next-clause-copies g c =
    let before = c.loop-segment.invariant in
    let so_far = before.so_far in
    let cause = c.in-Err-count_next.ensures.cause in (
      Rose-after (g.S.Source.means.faults c.args.source.now) (g.S.Source.means.faults c.loop-segment.source)
          (g.S.Source.means.faults c.count_next.new.source) before.stood cause.failed,
      λ first u. no_image_yet g.D.Disk.means first c.loop-segment.disk so_far.file (so_far.goes first u),
    )

pub returns-in-Err-write_segment-clause-kept : goal.returns-in-Err-write_segment-clause-kept
returns-in-Err-write_segment-clause-kept g c = let before = c.loop-segment.invariant in
    g.met.S.Source.keeps_on _ _ _ before.kept c.in-Ok.ensures.kept

pub returns-then-len-lt-SEGMENT_LEN-clause-kept : goal.returns-then-len-lt-SEGMENT_LEN-clause-kept
returns-then-len-lt-SEGMENT_LEN-clause-kept g c = let before = c.loop-segment.invariant in
    g.met.S.Source.keeps_on _ _ _ before.kept c.in-Ok.ensures.kept

pub returns-in-Err-write_segment-clause-counts : goal.returns-in-Err-write_segment-clause-counts
returns-in-Err-write_segment-clause-counts g c = let before = c.loop-segment.invariant in c.in-Ok.ensures.cause.stood ∙ before.stood

pub returns-in-Ok-eq0-clause-stood : goal.returns-in-Ok-eq0-clause-stood
returns-in-Ok-eq0-clause-stood g c = let before = c.loop-segment.invariant in c.in-Ok-eq0.ensures.cause.stood ∙ before.stood

pub returns-then-len-lt-SEGMENT_LEN-clause-stood : goal.returns-then-len-lt-SEGMENT_LEN-clause-stood
returns-then-len-lt-SEGMENT_LEN-clause-stood g c = let before = c.loop-segment.invariant in c.in-Ok.ensures.cause.stood ∙ before.stood

pub returns-in-Ok-count_next-clause-stood : goal.returns-in-Ok-count_next-clause-stood
returns-in-Ok-count_next-clause-stood g c = let before = c.loop-segment.invariant in c.in-Ok-count_next.ensures.cause.stood ∙ before.stood

pub returns-in-Err-clause-counts : goal.returns-in-Err-clause-counts
returns-in-Err-clause-counts g c =
    let before = c.loop-segment.invariant in
    let cause = c.in-Err.ensures.cause in
    Rose-after (g.S.Source.means.faults c.args.source.now) (g.S.Source.means.faults c.loop-segment.source)
    (g.S.Source.means.faults c.fill_sectors.new.source) before.stood cause.failed

pub returns-in-Err-count_next-clause-counts : goal.returns-in-Err-count_next-clause-counts
returns-in-Err-count_next-clause-counts g c =
    let before = c.loop-segment.invariant in
    let cause = c.in-Err-count_next.ensures.cause in
    Rose-after (g.S.Source.means.faults c.args.source.now) (g.S.Source.means.faults c.loop-segment.source)
    (g.S.Source.means.faults c.count_next.new.source) before.stood cause.failed

pub returns-in-Err-clause-gave : goal.returns-in-Err-clause-gave
returns-in-Err-clause-gave g c =
    let before = c.loop-segment.invariant in
    let filled = c.in-Err.ensures.filled in
    few_more g.S.Source.means g.D.Disk.means c.args.source.now c.loop-segment.source c.fill_sectors.new.source c.args.disk.now
    c.loop-segment.disk c.args.mask.now c.loop-segment.segment c.loop-segment.copied.lost (32768 * c.args.most + 1) 32768 filled.0
    before.so_far filled.2 (omega arith) filled.3

pub returns-in-Err-write_segment-clause-gave : goal.returns-in-Err-write_segment-clause-gave
returns-in-Err-write_segment-clause-gave g c =
    let before = c.loop-segment.invariant in
    let filled = c.in-Ok.ensures.filled in
    let gave = filled.2 in
    few_more g.S.Source.means g.D.Disk.means c.args.source.now c.loop-segment.source c.fill_sectors.new.source c.args.disk.now
    c.loop-segment.disk c.args.mask.now c.loop-segment.segment c.loop-segment.copied.lost (32768 * c.args.most + 1) 32768 filled.0
    before.so_far gave.within (omega arith) gave.gave

pub returns-then-len-lt-SEGMENT_LEN-clause-gave : goal.returns-then-len-lt-SEGMENT_LEN-clause-gave
returns-then-len-lt-SEGMENT_LEN-clause-gave g c =
    let before = c.loop-segment.invariant in
    let filled = c.in-Ok.ensures.filled in
    let gave = filled.2 in
    few_more g.S.Source.means g.D.Disk.means c.args.source.now c.loop-segment.source c.fill_sectors.new.source c.args.disk.now
    c.loop-segment.disk c.args.mask.now c.loop-segment.segment c.loop-segment.copied.lost (32768 * c.args.most + 1) 32768 filled.0
    before.so_far gave.within (omega arith) gave.gave

pub returns-in-Ok-count_next-clause-gave : goal.returns-in-Ok-count_next-clause-gave
returns-in-Ok-count_next-clause-gave g c =
    let before = c.loop-segment.invariant in
    let gave = c.in-Ok-count_next.ensures.gave in
    few_more g.S.Source.means g.D.Disk.means c.args.source.now c.loop-segment.source c.count_next.new.source c.args.disk.now
    c.loop-segment.disk c.args.mask.now c.loop-segment.segment c.loop-segment.copied.lost (32768 * c.args.most + 1) 1 gave.0 before.so_far
    gave.1 (omega arith) gave.2

pub returns-in-Err-count_next-clause-gave : goal.returns-in-Err-count_next-clause-gave
returns-in-Err-count_next-clause-gave g c =
    let before = c.loop-segment.invariant in
    let gave = c.in-Err-count_next.ensures.gave in
    few_more g.S.Source.means g.D.Disk.means c.args.source.now c.loop-segment.source c.count_next.new.source c.args.disk.now
    c.loop-segment.disk c.args.mask.now c.loop-segment.segment c.loop-segment.copied.lost (32768 * c.args.most + 1) 1 gave.0 before.so_far
    gave.1 (omega arith) gave.2
