use Rattle.std.proofs.Common.{◌≡◌, ℕ, ◌+◌, ◌-◌, ◌*◌, length, ◌∙◌, subst, arith}
use Rattle.cart_image.specs.Layout.{cells_len}
use Rattle.flat_dump.specs.Import.{IsDumpOf}
use Rattle.flat_dump.proofs.Imports.{copies_failed, failed_is, fits_counted, fits_within, imported_is, read_by, refused_is}
use Rattle.flat_dump.proofs.Laying.{length-laid}
use Rattle.flat_dump.proofs.importing.fill_image.Goals as goal

pub returns-in-Err-clause-fills : goal.returns-in-Err-clause-fills
returns-in-Err-clause-fills g c = λ first begins.
    copies_failed g.S.Source.means g.D.Disk.means c.args.source.now c.copy_segments.new.source first c.args.disk.now
    c.copy_segments.new.disk c.args.mask.now c.most_segments-most.result c.args.segments_per_track
    c.in-Err.error c.in-Err.ensures.copies begins

pub finish-requires-clause-order : goal.finish-requires-clause-order
finish-requires-clause-order g c =
    let was = c.in-Ok.ensures.copies in
    let is = c.in-Some.ensures in
    let fits = fits_counted c.args.segments_per_track (length was.dump) c.in-Some.n is.0
    (subst (λ (k : ℕ). IsDumpOf c.args.segments_per_track k c.in-Some.n) (read_by c.args.segments_per_track c.most_segments-most.result
    (length was.dump) c.in-Ok.copied.bytes c.most_segments-most.ensures.limit was.bytes) is.1) in
    let within = fits_within c.args.segments_per_track (length was.dump) c.in-Some.n fits in
    let needed = was.needed in
    omega arith

pub imported_as-requires-clause-order : goal.imported_as-requires-clause-order
imported_as-requires-clause-order g c =
    let was = c.in-Ok.ensures.copies in
    let is = c.in-Some.ensures in
    let fits = fits_counted c.args.segments_per_track (length was.dump) c.in-Some.n is.0
    (subst (λ (k : ℕ). IsDumpOf c.args.segments_per_track k c.in-Some.n) (read_by c.args.segments_per_track c.most_segments-most.result
    (length was.dump) c.in-Ok.copied.bytes c.most_segments-most.ensures.limit was.bytes) is.1) in
    let within = fits_within c.args.segments_per_track (length was.dump) c.in-Some.n fits in
    let needed = was.needed in
    omega arith

pub returns-in-Ok-finish-clause-fills : goal.returns-in-Ok-finish-clause-fills
returns-in-Ok-finish-clause-fills g c = λ first begins.
    let was = c.in-Ok.ensures.copies in
    let is = c.in-Some.ensures in
    let n : ℕ = c.in-Some.n in
    let fits = fits_counted c.args.segments_per_track (length was.dump) n is.0
    (subst (λ (k : ℕ). IsDumpOf c.args.segments_per_track k n) (read_by c.args.segments_per_track c.most_segments-most.result
    (length was.dump) c.in-Ok.copied.bytes c.most_segments-most.ensures.limit was.bytes) is.1) in
    let within = fits_within c.args.segments_per_track (length was.dump) n fits in
    let more : ℕ = 28 * n - c.in-Ok.copied.segments in
    let order : c.in-Ok.copied.segments + more ≡ 28 * n = omega (arith, was.needed) in
    let long : length was.file ≡ 64 + cells_len * c.in-Ok.copied.segments = length-laid was.file was.views was.laid
    ∙ (omega (arith, was.size)) in
    imported_is g.S.Source.means g.D.Disk.means c.args.source.now c.args.disk.now c.copy_segments.new.disk c.args.mask.now
    c.most_segments-most.result c.in-Ok.copied was n more is.0 order
    (c.most_segments-most.ensures.enough (length was.dump) n is.0 fits) c.args.segments_per_track fits first c.finish.new.disk
    c.imported_as.result
    (c.in-Ok-finish.ensures first was.file more long order (was.goes first begins)) c.imported_as.ensures.segments
    (c.imported_as.ensures.lost more order)

pub returns-in-Err-finish-clause-fills : goal.returns-in-Err-finish-clause-fills
returns-in-Err-finish-clause-fills g c = λ first begins.
    let was = c.in-Ok.ensures.copies in
    let is = c.in-Some.ensures in
    let n : ℕ = c.in-Some.n in
    let fits = fits_counted c.args.segments_per_track (length was.dump) n is.0
    (subst (λ (k : ℕ). IsDumpOf c.args.segments_per_track k n) (read_by c.args.segments_per_track c.most_segments-most.result
    (length was.dump) c.in-Ok.copied.bytes c.most_segments-most.ensures.limit was.bytes) is.1) in
    let within = fits_within c.args.segments_per_track (length was.dump) n fits in
    let more : ℕ = 28 * n - c.in-Ok.copied.segments in
    let order : c.in-Ok.copied.segments + more ≡ 28 * n = omega (arith, was.needed) in
    let long : length was.file ≡ 64 + cells_len * c.in-Ok.copied.segments = length-laid was.file was.views was.laid
    ∙ (omega (arith, was.size)) in
    failed_is g.S.Source.means g.D.Disk.means c.args.source.now c.args.disk.now c.copy_segments.new.disk c.args.mask.now
    c.most_segments-most.result c.in-Ok.copied was n more is.0 order
    (c.most_segments-most.ensures.enough (length was.dump) n is.0 fits) c.args.segments_per_track fits first c.finish.new.disk
    (c.in-Err-finish.ensures first was.file more long order (was.goes first begins))

pub returns-in-None-clause-fills : goal.returns-in-None-clause-fills
returns-in-None-clause-fills g c = λ first begins.
    refused_is g.S.Source.means g.D.Disk.means c.args.source.now c.copy_segments.new.source first c.args.disk.now c.copy_segments.new.disk
    c.args.mask.now c.most_segments-most.result c.args.segments_per_track
    c.in-Ok.copied c.in-Ok.ensures.copies c.most_segments-most.ensures.limit c.in-None.ensures begins
