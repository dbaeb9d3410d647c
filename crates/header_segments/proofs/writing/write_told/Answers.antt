use Rattle.std.proofs.Common.{◌≡◌, length, sym, ap, ◌∙◌, arith}
use Rattle.std.proofs.lemmas.List.Edits.{length-between}
use Rattle.std.proofs.lemmas.List.Elements.{All-from_recursion}
use Rattle.qic_base.specs.Field.{overwritten}
use Rattle.header_segments.specs.Header.{header_of}
use Rattle.cartridge_laws.specs.HeaderWriting.{FieldFits, told_fields}
use Rattle.header_segments.proofs.writing.write_told.Goals as goal
use borrow.Rule.Slice.PartMut.{put_mid}
use Rattle.qic_base.proofs.FieldLaws.{put_mid-overwritten}

pub returns-clause-whole : goal.returns-clause-whole
returns-clause-whole c =
    let long : length c.write_u32-2.new.bytes ≡ 1024 = omega (arith, c.write_u32-2.auto.bytes, c.write_u32.auto.bytes, c.told-sector) in
    let label : length c.copy_from_slice.new.self ≡ 44 =
    omega (arith, c.copy_from_slice.ensures.len, length-between c.write_u32-2.new.bytes 30 74 (omega arith)) in
    let copied : put_mid 30 44 c.write_u32-2.new.bytes c.copy_from_slice.new.self ≡ overwritten c.write_u32-2.new.bytes 30
    c.copy_from_slice.new.self =
    put_mid-overwritten c.write_u32-2.new.bytes c.copy_from_slice.new.self 30 44 label in
    cc (
      c.write_u32.ensures.whole,
      c.write_u32-2.ensures.whole,
      c.write_u32-3.ensures.whole,
      c.copy_from_slice.ensures.after,
      c.bytes.ensures,
    )

pub returns-clause-fits : goal.returns-clause-fits
returns-clause-fits c =
    let long : length c.write_u32-2.new.bytes ≡ 1024 = omega (arith, c.write_u32-2.auto.bytes, c.write_u32.auto.bytes, c.told-sector) in
    let copied : length c.copy_from_slice.new.self ≡ 44 =
    omega (arith, c.copy_from_slice.ensures.len, length-between c.write_u32-2.new.bytes 30 74 (omega arith)) in
    let label : length c.args.header.now.label ≡ 44 = ap length (sym c.bytes.ensures ∙ sym c.copy_from_slice.ensures.after) ∙ copied in
    All-from_recursion FieldFits (told_fields (header_of c.args.header.now)) (omega arith, (omega arith, (label, (omega arith, tt))))
