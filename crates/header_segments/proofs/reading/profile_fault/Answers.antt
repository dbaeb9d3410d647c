use Rattle.std.proofs.Common.{IfSome}
use Rattle.header_segments.proofs.Fitting.{field_fits, or_fits}
use Rattle.header_segments.specs.Refusal.{IsFitting}
use Rattle.qic_base.specs.declared.foreign.ForeignField.TheVariants.{FormatCode, FirstHeader, SecondHeader, FirstData, LastData}
use Rattle.qic_base.specs.declared.foreign.ForeignField.TheVariants.{SegmentsPerTrack, Tracks, TrackMaximum, SectorMaximum}
use Rattle.header_segments.proofs.reading.profile_fault.Goals as goal

pub returns-clause-fits : goal.returns-clause-fits
returns-clause-fits c =
    let up_to-1 : IfSome c.or.result IsFitting =
    or_fits c.byte_fault.result c.number_fault.result c.or.result c.or.ensures
    (field_fits FormatCode 256 (λ value low. low) c.byte_fault.result c.byte_fault.ensures.fits)
    (field_fits FirstHeader 65536 (λ value low. low) c.number_fault.result c.number_fault.ensures.fits) in
    let up_to-2 : IfSome c.or-2.result IsFitting =
    or_fits c.or.result c.number_fault-2.result c.or-2.result c.or-2.ensures up_to-1
    (field_fits SecondHeader 65536 (λ value low. low) c.number_fault-2.result c.number_fault-2.ensures.fits) in
    let up_to-3 : IfSome c.or-3.result IsFitting =
    or_fits c.or-2.result c.number_fault-3.result c.or-3.result c.or-3.ensures up_to-2
    (field_fits FirstData 65536 (λ value low. low) c.number_fault-3.result c.number_fault-3.ensures.fits) in
    let up_to-4 : IfSome c.or-4.result IsFitting =
    or_fits c.or-3.result c.number_fault-4.result c.or-4.result c.or-4.ensures up_to-3
    (field_fits LastData 65536 (λ value low. low) c.number_fault-4.result c.number_fault-4.ensures.fits) in
    let up_to-5 : IfSome c.or-5.result IsFitting =
    or_fits c.or-4.result c.number_fault-5.result c.or-5.result c.or-5.ensures up_to-4
    (field_fits SegmentsPerTrack 65536 (λ value low. low) c.number_fault-5.result c.number_fault-5.ensures.fits) in
    let up_to-6 : IfSome c.or-6.result IsFitting =
    or_fits c.or-5.result c.byte_fault-2.result c.or-6.result c.or-6.ensures up_to-5
    (field_fits Tracks 256 (λ value low. low) c.byte_fault-2.result c.byte_fault-2.ensures.fits) in
    let up_to-7 : IfSome c.or-7.result IsFitting =
    or_fits c.or-6.result c.byte_fault-3.result c.or-7.result c.or-7.ensures up_to-6
    (field_fits TrackMaximum 256 (λ value low. low) c.byte_fault-3.result c.byte_fault-3.ensures.fits) in
    or_fits c.or-7.result c.byte_fault-4.result c.or-8.result c.or-8.ensures up_to-7
    (field_fits SectorMaximum 256 (λ value low. low) c.byte_fault-4.result c.byte_fault-4.ensures.fits)
