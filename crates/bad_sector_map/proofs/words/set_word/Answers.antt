-- The word lies in one sector, and fills four bytes there.
use Rattle.std.proofs.Common.{◌≡◌, ◌+◌, ◌/◌, ◌<◌, [], length, get_or, refl, arith}
use Rattle.cartridge_laws.proofs.MapAreaLaws.{byte_in-other_word}
use Rattle.bad_sector_map.proofs.words.set_word.Goals as goal

pub returns-clause-others : goal.returns-clause-others
returns-clause-others c k outside =
    let there : 2 + c.args.segment / 256 < length c.args.area.now = omega (arith, c.requires.sectors, c.requires.within) in
    let long : length (get_or c.args.area.now (2 + c.args.segment / 256) []) ≡ 1024 = c.told-area (2 + c.args.segment / 256) there in
    byte_in-other_word c.args.area.now c.write_u32.new.bytes (get_or c.args.area.now (2 + c.args.segment / 256) []) c.args.segment
    c.args.word k there refl (omega (arith, long)) c.write_u32.ensures.whole outside
