use Rattle.std.proofs.Common.{◌≡◌, ℕ, ◌*◌, inl, inr, length, ap, subst, sym, ◌∙◌}
use Rattle.std.proofs.lemmas.Result.{err_from_is_err_and}
use Rattle.qic_base.specs.Tape.{Done, Broke}
use Rattle.qic_base.proofs.Steps.{Done-before_reads, Broke-before_reads}
use Rattle.drive_spec.specs.Deck.{segments_per_track}
use Rattle.cartridge_spec.specs.Formatting.{clearing_steps}
use Rattle.cartridge_laws.specs.HeaderTerms.{IsFreshArea}
use Rattle.formatter.proofs.Copies.{lent_room}
use Rattle.formatter.proofs.Keeping.{kept_both, leaves_fault, leaves_then}
use Rattle.formatter.proofs.Places.{size_known, length_known, length_kept, length_referenced, referenced_by, mark_kept, unmarked}
use Rattle.formatter.proofs.Told.{marks_formattable, first_defect, all_done, all_broken}
use Rattle.formatter.proofs.formatting.format.Goals as goal

-- broken off in the verify pass
pub returns-in_err-mark_all-clause-did : goal.returns-in_err-mark_all-clause-did
returns-in_err-mark_all-clause-did g c =
    let broke : Broke g.T.Tape.means c.args.unit.now.tape c.mark_all.new.unit.tape
    (clearing_steps (segments_per_track c.args.unit.now.drive.deck)) =
    Broke-before_reads c.in_ok-clear.ensures.did c.in_err-mark_all.ensures.did in
    let p = err_from_is_err_and c.from_residual-in_err-mark_all.result c.from_residual-in_err-mark_all.ensures.1 in
    rw (p.1, p.2) (inl broke)

-- a defect in front
pub returns-in-Some-clause-did : goal.returns-in-Some-clause-did
returns-in-Some-clause-did g c =
    let n : ℕ = segments_per_track c.args.unit.now.drive.deck in
    let long : length c.mark_all.new.map ≡ 28 * n =
    c.in_ok-mark_all.ensures.words ∙ ap (λ (k : ℕ). 28 * k)
    (length_referenced c.args.unit.now.drive.deck c.clear.new.unit.drive.deck c.in_ok-clear.ensures.ends.marks) in
    record {
      in_front = c.in-Some.ensures.in_front;
      did = Done-before_reads c.in_ok-clear.ensures.did c.in_ok-mark_all.ensures.did;
      first = first_defect g.T.Tape.means c.args.unit.now.tape c.clear.new.unit.tape n c.mark_all.new.map c.in-Some.segment
          (g.met.T.Tape.told_right c.args.unit.now.tape) (size_known c.requires.ready.fits) long
          c.in_ok-clear.ensures.did c.in_ok-mark_all.ensures.marks c.in-Some.ensures;
    }

-- broken off in the header
pub returns-in_err-write_header-clause-did : goal.returns-in_err-write_header-clause-did
returns-in_err-write_header-clause-did g c =
    let n : ℕ = segments_per_track c.args.unit.now.drive.deck in
    let length_is : segments_per_track c.clear.new.unit.drive.deck ≡ n =
    length_referenced c.args.unit.now.drive.deck c.clear.new.unit.drive.deck c.in_ok-clear.ensures.ends.marks in
    let long : length c.mark_all.new.map ≡ 28 * n = c.in_ok-mark_all.ensures.words ∙ ap (λ (k : ℕ). 28 * k) length_is in
    let cleared : Done g.T.Tape.means c.args.unit.now.tape c.mark_all.new.unit.tape (clearing_steps n) =
    Done-before_reads c.in_ok-clear.ensures.did c.in_ok-mark_all.ensures.did in
    let written = c.in_err-write_header.ensures.did in
    let same : segments_per_track c.mark_all.new.unit.drive.deck ≡ n =
    length_kept c.clear.new.unit.drive.deck c.mark_all.new.unit.drive.deck c.in_ok-mark_all.ensures.keeps.cartridge ∙ length_is in
    let p = err_from_is_err_and c.from_residual-in_err-write_header.result c.from_residual-in_err-write_header.ensures.1 in
    rw (p.1, p.2)
    (inr (record {
      area = written.area;
      fresh = subst (λ (k : ℕ). IsFreshArea k c.args.label.now c.args.date c.mark_all.new.map written.area) same written.fresh;
      broke = all_broken g.T.Tape.means c.args.unit.now.tape c.mark_all.new.unit.tape c.write_header.new.unit.tape n written.area cleared
          written.did;
      marks = marks_formattable g.T.Tape.means c.args.unit.now.tape c.clear.new.unit.tape n c.mark_all.new.map
          (g.met.T.Tape.told_right c.args.unit.now.tape) (size_known c.requires.ready.fits) long
          c.in_ok-clear.ensures.did c.in_ok-mark_all.ensures.marks c.in_default.ensures;
    }))

pub returns-clause-did : goal.returns-clause-did
returns-clause-did g c =
    let n : ℕ = segments_per_track c.args.unit.now.drive.deck in
    let length_is : segments_per_track c.clear.new.unit.drive.deck ≡ n =
    length_referenced c.args.unit.now.drive.deck c.clear.new.unit.drive.deck c.in_ok-clear.ensures.ends.marks in
    let long : length c.mark_all.new.map ≡ 28 * n = c.in_ok-mark_all.ensures.words ∙ ap (λ (k : ℕ). 28 * k) length_is in
    let cleared : Done g.T.Tape.means c.args.unit.now.tape c.mark_all.new.unit.tape (clearing_steps n) =
    Done-before_reads c.in_ok-clear.ensures.did c.in_ok-mark_all.ensures.did in
    let written = c.in_ok-write_header.ensures.did in
    let same : segments_per_track c.mark_all.new.unit.drive.deck ≡ n =
    length_kept c.clear.new.unit.drive.deck c.mark_all.new.unit.drive.deck c.in_ok-mark_all.ensures.keeps.cartridge ∙ length_is in
    let whole : segments_per_track c.write_header.new.unit.drive.deck ≡ n =
    length_kept c.mark_all.new.unit.drive.deck c.write_header.new.unit.drive.deck c.in_ok-write_header.ensures.keeps.cartridge ∙ same in
    record {
      area = written.area;
      fresh = subst (λ (k : ℕ). IsFreshArea k c.args.label.now c.args.date c.mark_all.new.map written.area) same written.fresh;
      did = all_done g.T.Tape.means c.args.unit.now.tape c.mark_all.new.unit.tape c.write_header.new.unit.tape n written.area cleared
          written.did;
      marks = marks_formattable g.T.Tape.means c.args.unit.now.tape c.clear.new.unit.tape n c.mark_all.new.map
          (g.met.T.Tape.told_right c.args.unit.now.tape) (size_known c.requires.ready.fits) long
          c.in_ok-clear.ensures.did c.in_ok-mark_all.ensures.marks c.in_default.ensures;
      segments = c.segments.ensures.value
          ∙ ap (λ (k : ℕ). 28 * k) (c.geometry.ensures ∙ length_known c.write_header.ensures.keeps.ready.fits ∙ whole);
      bad = c.marked.ensures;
    }

pub mark_all-requires-clause-stands : goal.mark_all-requires-clause-stands
mark_all-requires-clause-stands g c = record {
  go = record {
    ready = record { fits = c.clear.ensures.leaves.fits; rest = c.in_ok-clear.ensures.leaves.rest (λ is. cc) };
    referenced = referenced_by c.args.host.now c.args.unit.now.drive.deck c.clear.new.unit.drive.deck
        c.requires.ready.fits.cartridge c.in_ok-clear.ensures.ends.marks;
  };
  stopped = c.in_ok-clear.ensures.ends.stopped;
}

pub mark_all-requires-clause-room : goal.mark_all-requires-clause-room
mark_all-requires-clause-room g c = c.sectors_mut-sectors.ensures.size

pub write_header-requires-clause-stands : goal.write_header-requires-clause-stands
write_header-requires-clause-stands g c = record {
  go = record {
    ready = c.in_ok-mark_all.ensures.keeps.ready;
    referenced = mark_kept c.clear.new.unit.drive.deck c.mark_all.new.unit.drive.deck c.in_ok-mark_all.ensures.keeps.cartridge
        (referenced_by c.args.host.now c.args.unit.now.drive.deck c.clear.new.unit.drive.deck
        c.requires.ready.fits.cartridge c.in_ok-clear.ensures.ends.marks);
  };
  stopped = c.in_ok-mark_all.ensures.stopped;
}

pub write_header-requires-clause-words : goal.write_header-requires-clause-words
write_header-requires-clause-words g c =
    c.in_ok-mark_all.ensures.words
    ∙ ap (λ (n : ℕ). 28 * n) (sym (length_kept c.clear.new.unit.drive.deck c.mark_all.new.unit.drive.deck
    c.in_ok-mark_all.ensures.keeps.cartridge))

pub write_header-requires-clause-writable : goal.write_header-requires-clause-writable
write_header-requires-clause-writable g c =
    unmarked c.args.unit.now.drive.deck c.clear.new.unit.drive.deck c.mark_all.new.unit.drive.deck c.in_ok-clear.ensures.ends.marks
    c.in_ok-mark_all.ensures.keeps.cartridge
    (λ marked. let no = c.in_ok-clear.ensures.protected.1 marked in absurd (cc))

pub returns-in_err-clear-clause-leaves : goal.returns-in_err-clear-clause-leaves
returns-in_err-clear-clause-leaves g c =
    let p = err_from_is_err_and c.from_residual.result c.from_residual.ensures.1 in
    rw (p.1, p.2) (leaves_fault _ c.in_err-clear.ensures.leaves)

pub returns-in_err-clear-clause-room : goal.returns-in_err-clear-clause-room
returns-in_err-clear-clause-room g c = lent_room c.sectors_mut-sectors.result.now c.args.work.now c.sectors_mut-sectors.ensures.size

pub returns-in_err-mark_all-clause-room : goal.returns-in_err-mark_all-clause-room
returns-in_err-mark_all-clause-room g c = lent_room c.mark_all.new.sectors c.args.work.now
    (c.mark_all.auto.sectors ∙ c.sectors_mut-sectors.ensures.size)

pub returns-in-Some-clause-room : goal.returns-in-Some-clause-room
returns-in-Some-clause-room g c = lent_room c.mark_all.new.sectors c.args.work.now
    (c.mark_all.auto.sectors ∙ c.sectors_mut-sectors.ensures.size)

pub returns-in_err-mark_all-clause-protected : goal.returns-in_err-mark_all-clause-protected
returns-in_err-mark_all-clause-protected g c =
    let p = err_from_is_err_and c.from_residual-in_err-mark_all.result c.from_residual-in_err-mark_all.ensures.1 in
    rw (p.1, p.2) (λ is. absurd (cc), λ marked. let no = c.in_ok-clear.ensures.protected.1 marked in absurd (cc))

pub returns-in_err-mark_all-clause-leaves : goal.returns-in_err-mark_all-clause-leaves
returns-in_err-mark_all-clause-leaves g c = leaves_then _ _ c.in_ok-clear.ensures.leaves c.in_err-mark_all.ensures.keeps

pub returns-in-Some-clause-protected : goal.returns-in-Some-clause-protected
returns-in-Some-clause-protected g c = (λ is. absurd (cc), λ marked. let no = c.in_ok-clear.ensures.protected.1 marked in absurd (cc))

pub returns-in-Some-clause-leaves : goal.returns-in-Some-clause-leaves
returns-in-Some-clause-leaves g c = leaves_then _ _ c.in_ok-clear.ensures.leaves c.in_ok-mark_all.ensures.keeps

pub returns-in_err-write_header-clause-protected : goal.returns-in_err-write_header-clause-protected
returns-in_err-write_header-clause-protected g c =
    let p = err_from_is_err_and c.from_residual-in_err-write_header.result c.from_residual-in_err-write_header.ensures.1 in
    rw (p.1, p.2) (λ is. absurd (cc), λ marked. let no = c.in_ok-clear.ensures.protected.1 marked in absurd (cc))

pub returns-in_err-write_header-clause-leaves : goal.returns-in_err-write_header-clause-leaves
returns-in_err-write_header-clause-leaves g c =
    leaves_then _ _ c.in_ok-clear.ensures.leaves (kept_both c.in_ok-mark_all.ensures.keeps c.in_err-write_header.ensures.keeps)

pub returns-clause-protected : goal.returns-clause-protected
returns-clause-protected g c = (λ is. absurd (cc), λ marked. let no = c.in_ok-clear.ensures.protected.1 marked in absurd (cc))

pub returns-clause-leaves : goal.returns-clause-leaves
returns-clause-leaves g c =
    leaves_then _ _ c.in_ok-clear.ensures.leaves (kept_both c.in_ok-mark_all.ensures.keeps c.in_ok-write_header.ensures.keeps)
