use Rattle.std.proofs.Common.{◌≡◌, ℕ, ◌*◌, sym, ap, ◌∙◌, arith}
use Rattle.cartridge_spec.specs.Header.{number, number_in}
use Rattle.cartridge_laws.specs.HeaderTerms.{words_in}
use Rattle.header_segments.proofs.Refusals.{refusal-segments}
use Rattle.header_segments.proofs.reading.decode.Goals as goal

pub returns-in-None-clause-shown : goal.returns-in-None-clause-shown
returns-in-None-clause-shown c =
    let drive : number_in c.args.area.now 24 2 ≡ c.args.drive_segments =
    refusal-segments c.args.area.now c.args.drive_segments (sym c.in-None.ensures.fault) in
    let read : number_in c.args.area.now 24 2 ≡ c.fields_of.result.segments_per_track = c.fields_of.ensures 2 (number 0 0 0)
    (omega arith) in
    record {
      header = c.fields_of.ensures;
      map = c.read.ensures ∙ ap (λ (n : ℕ). words_in c.args.area.now (28 * n)) (c.from-segments.ensures ∙ sym drive ∙ read);
    }
