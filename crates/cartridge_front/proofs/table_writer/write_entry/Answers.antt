use Rattle.std.proofs.Common.{◌≡◌, ℕ, ◌<◌, ◌∷◌, [], List, length, take, Err, ap, ◌∙◌, subst, arith}
use Rattle.qic_base.specs.Tape.{Done, Broke}
use Rattle.qic_base.specs.TapeCalls.{Does}
use Rattle.qic_base.specs.Step.{Step}
use Rattle.cartridge_spec.specs.Appending.{table_writes}
use Rattle.cartridge_spec.specs.Says.{with_parity}
use Rattle.cartridge_laws.specs.Slots.{slot_sector, with_slot}
use Rattle.cartridge_laws.specs.Segment.{sectors_of}
use Rattle.cartridge_spec.specs.Table.{slot_bytes}
use Rattle.cartridge_spec.specs.Settling.{block_writes}
use Rattle.volume_table.specs.Entry.{entry_of}
use Rattle.qic_base.specs.declared.tape.TapeFailed.{TapeFailed}
use Rattle.cartridge_front.proofs.Adding.{slot_writes, parity_writes, both_writes, does_after, broke_front}
use Rattle.command_laws.proofs.Passing.{passed}
use Rattle.cartridge_front.proofs.table_writer.write_entry.Goals as goal

pub returns-clause-did : goal.returns-clause-did
returns-clause-did g c =
    let m = g.T.Tape.means in
    let area : List (List ℕ) = with_slot (take 29 c.args.work.now) (length c.args.table.now) (slot_bytes (entry_of c.args.entry.now)) in
    let block : List (List ℕ) = c.put_entry-changed.new.work in
    let sector : ℕ = c.put_entry-changed.result in
    let within : sector < 32 = omega (arith, c.put_entry-changed.ensures.sector, c.requires.free) in
    let one : block_writes block (sectors_of c.from_mask.result) ≡ block_writes (with_parity area) (sector ∷ []) =
    ap (λ (places : ℕ). block_writes block (sectors_of places)) c.from_mask.ensures
    ∙ slot_writes block area sector c.put_entry-changed.ensures.block within in
    let rest : block_writes block (sectors_of c.from_mask-2.result) ≡ block_writes (with_parity area) (29 ∷ 30 ∷ 31 ∷ []) =
    ap (λ (places : ℕ). block_writes block (sectors_of places)) c.from_mask-2.ensures
    ∙ parity_writes block area c.put_entry-changed.ensures.block in
    let first : Done m c.args.unit.now.tape c.write_places.new.unit.tape (block_writes (with_parity area) (sector ∷ [])) =
    subst (Done m c.args.unit.now.tape c.write_places.new.unit.tape) one c.in_ok-write_places.ensures.did in
    let next : Does m c.write_places.new.unit.tape c.write_places-2.new.unit.tape
    (block_writes (with_parity area) (29 ∷ 30 ∷ 31 ∷ [])) c.write_places-2.result =
    subst (λ (steps : List Step). Does m c.write_places.new.unit.tape c.write_places-2.new.unit.tape steps c.write_places-2.result) rest
    c.write_places-2.ensures.did in
    does_after m c.args.unit.now.tape c.write_places.new.unit.tape c.write_places-2.new.unit.tape
    (block_writes (with_parity area) (sector ∷ [])) (block_writes (with_parity area) (29 ∷ 30 ∷ 31 ∷ []))
    (table_writes (slot_sector (length c.args.table.now)) area) c.write_places-2.result
    (both_writes area sector ∙ ap (λ (k : ℕ). table_writes k area) c.put_entry-changed.ensures.sector) first next

pub returns-in_err-write_places-clause-did : goal.returns-in_err-write_places-clause-did
returns-in_err-write_places-clause-did g c =
    let m = g.T.Tape.means in
    let area : List (List ℕ) = with_slot (take 29 c.args.work.now) (length c.args.table.now) (slot_bytes (entry_of c.args.entry.now)) in
    let block : List (List ℕ) = c.put_entry-changed.new.work in
    let sector : ℕ = c.put_entry-changed.result in
    let within : sector < 32 = omega (arith, c.put_entry-changed.ensures.sector, c.requires.free) in
    let one : block_writes block (sectors_of c.from_mask.result) ≡ block_writes (with_parity area) (sector ∷ []) =
    ap (λ (places : ℕ). block_writes block (sectors_of places)) c.from_mask.ensures
    ∙ slot_writes block area sector c.put_entry-changed.ensures.block within in
    let fault : TapeFailed = c.in_err-write_places.field-0.0 in
    let is : c.from_residual.result ≡ Err fault = passed c.from_residual.result fault c.from_residual.ensures.1 in
    broke_front m c.args.unit.now.tape c.write_places.new.unit.tape
    (block_writes (with_parity area) (sector ∷ [])) (block_writes (with_parity area) (29 ∷ 30 ∷ 31 ∷ []))
    (table_writes (slot_sector (length c.args.table.now)) area)
    fault c.from_residual.result is (both_writes area sector ∙ ap (λ (k : ℕ). table_writes k area) c.put_entry-changed.ensures.sector)
    (subst (Broke m c.args.unit.now.tape c.write_places.new.unit.tape) one c.in_err-write_places.ensures.did)
