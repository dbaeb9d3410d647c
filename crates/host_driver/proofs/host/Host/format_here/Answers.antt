use Rattle.std.proofs.Common.{[], ◌∷◌, ap, rules}
use Rattle.qic_base.specs.Step.{FormatSegment}
use Rattle.drive_spec.specs.declared.deck.Deck.{Deck}
use Rattle.drive_states.specs.Reach.{segment_of}
use Rattle.host_driver.proofs.Marks.{format_keeps, broke_agrees}
use Rattle.host_driver.proofs.host.Host.format_here.Goals as goal

pub returns-in_err-format_segment-clause-keeps : goal.returns-in_err-format_segment-clause-keeps
returns-in_err-format_segment-clause-keeps g c =
    let found = c.in_err-format_segment.ensures.reached c.requires.formatting in
    record {
      ready = search rules;
      same = search rules;
      agrees = broke_agrees g.T.Tape.means c.args.unit.now c.format_segment.new.self
          (FormatSegment (segment_of c.args.unit.now.drive.deck) ∷ []) (format_keeps (segment_of c.args.unit.now.drive.deck))
          (ap (λ (d : Deck). d.cartridge) found.0) found.1;
      size = search rules;
    }
