use Rattle.std.proofs.Common.{◌≡◌, [], length, get_or, sym, ap, ◌∙◌, arith}
use Rattle.header_segments.specs.Header.{header_of}
use Rattle.cartridge_laws.specs.HeaderWriting.{with_fields, told_fields}
use Rattle.cartridge_laws.proofs.HeaderSpellingLaws.{encoded_spells}
use Rattle.header_segments.proofs.SpellingLaws.{profile_whole}
use Rattle.header_segments.proofs.writing.encode.Goals as goal

pub returns : goal.returns
returns c =
    let long : length (get_or c.write.new.area 0 []) ≡ 1024 =
    profile_whole c.args.header.now.segments_per_track _ c.requires.long
    (ap length (sym c.write_profile.ensures) ∙ c.write_profile.array_long) in
    encoded_spells (header_of c.args.header.now) c.args.map.now c.write_told.new.sector c.clear.new.area c.write.new.area
    (record {
      tracks = c.requires.long;
      told = c.write_told.ensures.fits;
      count = c.requires.map;
      clear = c.clear.ensures;
      words_written = c.write.ensures.words;
      others = c.write.ensures.others;
      sectors = omega (arith, c.write.auto.area, c.clear.auto.area);
      long = long;
      fields = c.write_told.ensures.whole ∙ ap (with_fields (told_fields (header_of c.args.header.now))) c.write_profile.ensures;
    })
