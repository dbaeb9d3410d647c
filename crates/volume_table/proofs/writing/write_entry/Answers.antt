use Rattle.std.proofs.Common.{◌≡◌, ℕ, [], codes, length, replicate, refl, sym, ap, ◌∙◌, arith}
use Rattle.std.proofs.lemmas.List.Edits.{length-between}
use Rattle.qic_base.specs.Field.{little_endian_bytes, overwritten}
use Rattle.qic_base.proofs.FieldLaws.{length-little_endian_bytes, put_mid-overwritten}
use Rattle.volume_table.proofs.Spelling.{IsSpelled, next_part, next_bytes, skip_zeros}
use Rattle.volume_table.proofs.writing.write_entry.Goals as goal
use borrow.Rule.Slice.PartMut.{put_mid}

signature_bytes : little_endian_bytes 4 0x4C42_5456 ≡ codes "VTBL"
unfolding little_endian_bytes
signature_bytes = refl

pub returns-clause-fits : goal.returns-clause-fits
returns-clause-fits c =
    let long : length c.copy_from_slice.new.self ≡ 44 =
    omega (arith, c.copy_from_slice.ensures.len, length-between c.write_u16-2.new.bytes 8 52 (omega arith)) in
    record {
      start = omega arith;
      end = omega arith;
      name = ap length (sym (c.copy_from_slice.ensures.after ∙ c.bytes.ensures)) ∙ long;
      date = omega arith;
      directory = omega arith;
      size = omega arith;
    }

pub returns-clause-spelled : goal.returns-clause-spelled
returns-clause-spelled c =
    let e = c.args.entry.now in
    let name : c.copy_from_slice.new.self ≡ e.name = c.copy_from_slice.ensures.after ∙ c.bytes.ensures in
    let named : length e.name ≡ 44 = (returns-clause-fits c).name in
    let copied : put_mid 8 44 c.write_u16-2.new.bytes c.copy_from_slice.new.self ≡ overwritten c.write_u16-2.new.bytes 8 e.name =
    ap (put_mid 8 44 c.write_u16-2.new.bytes) name ∙ put_mid-overwritten c.write_u16-2.new.bytes e.name 8 44 named in
    let zeros : IsSpelled c.fill.new.self [] 0 128 =
    record { is = c.fill.ensures.after (λ y e. e) ∙ ap (λ (n : ℕ). replicate n 0) c.requires; long = refl } in
    let signature : IsSpelled c.write_u32.new.bytes (codes "VTBL") 4 124 =
    next_part (codes "VTBL") 4 124 zeros refl (c.write_u32.ensures.whole ∙ ap (overwritten c.fill.new.self 0) signature_bytes) in
    let start = next_part (little_endian_bytes 2 e.start) 2 122 signature (length-little_endian_bytes 2 e.start) c.write_u16.ensures.whole
    in
    let end = next_part (little_endian_bytes 2 e.end) 2 120 start (length-little_endian_bytes 2 e.end) c.write_u16-2.ensures.whole in
    let text = next_part e.name 44 76 end named copied in
    let date = next_part (little_endian_bytes 4 e.date) 4 72 text (length-little_endian_bytes 4 e.date) c.write_u32-2.ensures.whole in
    let flags = skip_zeros 34 36 (next_bytes e.flags e.sequence 70 date) in
    let directory =
    next_part (little_endian_bytes 4 e.directory) 4 32 flags (length-little_endian_bytes 4 e.directory) c.write_u32-3.ensures.whole in
    let size = next_part (little_endian_bytes 8 e.size) 8 24 directory (length-little_endian_bytes 8 e.size) c.write_u64.ensures.whole in
    size.is
