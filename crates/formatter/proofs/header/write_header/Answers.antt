use Rattle.std.proofs.Common.{◌≡◌, ℕ, ◌*◌, ◌++◌, List, length, take, drop, false, arith, Option, OnOk, subst, sym, ap, ◌∙◌}
use Rattle.std.specs.Option.{option_map_or}
use Rattle.std.proofs.lemmas.Result.{err_from_is_err_and}
use Rattle.qic_base.specs.declared.tape.TapeInfo.{TapeInfo}
use Rattle.qic_base.specs.Tape.{Done, Broke}
use Rattle.qic_base.specs.TapeCalls.{Does}
use Rattle.qic_base.proofs.Steps.{Done-Does, Broke-front}
use Rattle.qic117_commands.specs.declared.view.Mode.TheVariants.{Primary}
use Rattle.qic117_commands.specs.Views.{is_primary}
use Rattle.host_driver.proofs.Keeping.{may_write_kept}
use Rattle.cartridge_spec.specs.Formatting.{copy_writes}
use Rattle.cartridge_spec.specs.Says.{with_parity}
use Rattle.cartridge_laws.specs.HeaderTerms.{IsFreshArea}
use Rattle.formatter.specs.Formats.{header_writes}
use Rattle.formatter.proofs.Copies.{lent_room}
use Rattle.formatter.proofs.Keeping.{is_entered, kept, entered, kept_both, go_kept, can_write_copy}
use Rattle.formatter.proofs.Places.{length_known}
use Rattle.qic_base.proofs.Arrays.{lent}
use Rattle.formatter.proofs.header.write_header.Goals as goal

-- copy 0 was broken off
pub returns-in_err-write_copy-clause-did : goal.returns-in_err-write_copy-clause-did
returns-in_err-write_copy-clause-did g c =
    let area : List (List ℕ) = take 29 c.spell.new.sectors in
    let size : length c.spell.new.sectors ≡ 32 = c.spell.auto.sectors ∙ c.sectors_mut.ensures.size in
    let block : take 32 (c.spell.new.sectors ++ drop (length c.spell.new.sectors) c.args.work.now) ≡ with_parity area =
    lent c.spell.new.sectors c.args.work.now size ∙ c.spell.ensures.parity in
    let first : Broke g.T.Tape.means c.enter.new.unit.tape c.write_copy.new.unit.tape (copy_writes 0 (with_parity area)) =
    subst (λ (l : List (List ℕ)). Broke g.T.Tape.means c.enter.new.unit.tape c.write_copy.new.unit.tape (copy_writes 0 l)) block
    c.in_err-write_copy.ensures.did in
    let whole : Broke g.T.Tape.means c.args.unit.now.tape c.write_copy.new.unit.tape (header_writes area) =
    subst (λ (t : _). Broke g.T.Tape.means t c.write_copy.new.unit.tape (header_writes area)) c.enter.ensures.tape
    (Broke-front {xs = copy_writes 0 (with_parity area)} (copy_writes 1 (with_parity area)) first) in
    let p = err_from_is_err_and c.from_residual.result c.from_residual.ensures.1 in
    record {
      area = area;
      fresh = subst (λ (n : ℕ). IsFreshArea n c.args.label.now c.args.date c.args.map.now area)
          (c.geometry.ensures ∙ length_known c.requires.stands.go.ready.fits) c.spell.ensures.fresh;
      did = rw p.1 whole;
    }

-- copy 1 was written, or broken off
pub returns-clause-did : goal.returns-clause-did
returns-clause-did g c =
    let area : List (List ℕ) = take 29 c.spell.new.sectors in
    let size : length c.spell.new.sectors ≡ 32 = c.spell.auto.sectors ∙ c.sectors_mut.ensures.size in
    let block : take 32 (c.spell.new.sectors ++ drop (length c.spell.new.sectors) c.args.work.now) ≡ with_parity area =
    lent c.spell.new.sectors c.args.work.now size ∙ c.spell.ensures.parity in
    let first : Done g.T.Tape.means c.enter.new.unit.tape c.write_copy.new.unit.tape (copy_writes 0 (with_parity area)) =
    subst (λ (l : List (List ℕ)). Done g.T.Tape.means c.enter.new.unit.tape c.write_copy.new.unit.tape (copy_writes 0 l)) block
    c.in_ok-write_copy.ensures.did in
    let next : Does g.T.Tape.means c.write_copy.new.unit.tape c.write_copy-2.new.unit.tape (copy_writes 1 (with_parity area))
    c.write_copy-2.result =
    subst (λ (l : List (List ℕ)). Does g.T.Tape.means c.write_copy.new.unit.tape c.write_copy-2.new.unit.tape (copy_writes 1 l)
    c.write_copy-2.result) block c.write_copy-2.ensures.did in
    record {
      area = area;
      fresh = subst (λ (n : ℕ). IsFreshArea n c.args.label.now c.args.date c.args.map.now area)
          (c.geometry.ensures ∙ length_known c.requires.stands.go.ready.fits) c.spell.ensures.fresh;
      did = subst (λ (t : _). Does g.T.Tape.means t c.write_copy-2.new.unit.tape (header_writes area) c.write_copy-2.result)
          c.enter.ensures.tape
          (Done-Does g.T.Tape.means c.enter.new.unit.tape c.write_copy.new.unit.tape c.write_copy-2.new.unit.tape
          (copy_writes 0 (with_parity area)) (copy_writes 1 (with_parity area)) c.write_copy-2.result first next);
    }

pub spell-requires-clause-words : goal.spell-requires-clause-words
spell-requires-clause-words g c =
    c.requires.words ∙ ap (λ (n : ℕ). 28 * n) (sym (c.geometry.ensures ∙ length_known c.requires.stands.go.ready.fits))

pub unwrap-requires : goal.unwrap-requires
unwrap-requires g c = is_entered c.enter.result (λ refused. let no = (c.enter.ensures.protected.0 refused).0 in absurd (cc))

pub write_copy-requires-clause-can : goal.write_copy-requires-clause-can
write_copy-requires-clause-can g c =
    can_write_copy 0 (go_kept c.requires.stands.go c.enter.ensures.ready c.enter.ensures.cartridge) (record {
      mode = ap is_primary
          (subst (λ (r : _). OnOk r (c.enter.new.unit.drive.deck.mode ≡ Primary)) c.unwrap.ensures c.enter.ensures.mode);
      writable = ap (λ (cartridge : Option TapeInfo). option_map_or (λ (info : TapeInfo). info.protected) cartridge false)
          c.enter.ensures.cartridge ∙ c.requires.writable;
    }) (omega arith)

pub write_copy-requires-clause-room : goal.write_copy-requires-clause-room
write_copy-requires-clause-room g c =
    let size : length c.spell.new.sectors ≡ 32 = c.spell.auto.sectors ∙ c.sectors_mut.ensures.size in
    lent_room c.spell.new.sectors c.args.work.now size

pub write_copy-requires-2-clause-can : goal.write_copy-requires-2-clause-can
write_copy-requires-2-clause-can g c =
    let keeps = c.in_ok-write_copy.ensures.keeps in
    can_write_copy 1 (go_kept c.requires.stands.go keeps.ready (keeps.same.cartridge ∙ c.enter.ensures.cartridge))
    (may_write_kept c.enter.new.unit.drive.deck c.write_copy.new.unit.drive.deck keeps.same (record {
      mode = ap is_primary
          (subst (λ (r : _). OnOk r (c.enter.new.unit.drive.deck.mode ≡ Primary)) c.unwrap.ensures c.enter.ensures.mode);
      writable = ap (λ (cartridge : Option TapeInfo). option_map_or (λ (info : TapeInfo). info.protected) cartridge false)
          c.enter.ensures.cartridge ∙ c.requires.writable;
    })) (omega arith)

pub write_copy-requires-2-clause-room : goal.write_copy-requires-2-clause-room
write_copy-requires-2-clause-room g c =
    let size : length c.spell.new.sectors ≡ 32 = c.spell.auto.sectors ∙ c.sectors_mut.ensures.size in
    lent_room c.spell.new.sectors c.args.work.now size

pub returns-in_err-write_copy-clause-room : goal.returns-in_err-write_copy-clause-room
returns-in_err-write_copy-clause-room g c =
    let size : length c.spell.new.sectors ≡ 32 = c.spell.auto.sectors ∙ c.sectors_mut.ensures.size in
    lent_room c.spell.new.sectors c.args.work.now size

pub returns-in_err-write_copy-clause-keeps : goal.returns-in_err-write_copy-clause-keeps
returns-in_err-write_copy-clause-keeps g c =
    kept_both (entered c.enter.ensures.ready c.enter.ensures.cartridge c.enter.ensures.tape) (kept c.in_err-write_copy.ensures.keeps)

pub returns-clause-room : goal.returns-clause-room
returns-clause-room g c =
    let size : length c.spell.new.sectors ≡ 32 = c.spell.auto.sectors ∙ c.sectors_mut.ensures.size in
    lent_room c.spell.new.sectors c.args.work.now size

pub returns-clause-keeps : goal.returns-clause-keeps
returns-clause-keeps g c =
    kept_both (kept_both (entered c.enter.ensures.ready c.enter.ensures.cartridge c.enter.ensures.tape)
    (kept c.in_ok-write_copy.ensures.keeps)) (kept c.write_copy-2.ensures.keeps)
