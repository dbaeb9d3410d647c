use Rattle.std.proofs.Common.{◌≡◌, sym, ◌∙◌}
use Rattle.dump_spec.specs.Header.{format_code}
use Rattle.dump_header.proofs.masks.mark_bad.Goals as goal

pub returns-in-3 : goal.returns-in-3
returns-in-3 c =
    let code : format_code c.args.area.now ≡ 3 = sym c.read_code.ensures ∙ c.in-3.is in
    rw code c.mark_list.ensures
