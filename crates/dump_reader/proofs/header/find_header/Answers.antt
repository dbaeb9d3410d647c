use Rattle.std.proofs.Common.{take, refl}
use Rattle.std.proofs.lemmas.List.{get_or-replicate}
use Rattle.std.proofs.lemmas.Result.{IfOk-weaker}
use Rattle.dump_reader.proofs.HeaderFound.{header_by}
use Rattle.dump_reader.proofs.header.find_header.Goals as goal

pub returns-clause-found : goal.returns-clause-found
returns-clause-found g c =
    IfOk-weaker c.search.result _ _
    (λ found tells. λ dump layout by.
    header_by c.args.known.now _ (g.D.Disk.means.told c.args.disk.now) dump layout c.args.zero_lost (take 29 c.search.new.sectors) found
    (tells dump layout)
    (record {
      form = refl;
      bytes = refl;
      rescued = refl;
      first = refl;
      missing = refl;
      masks = λ segment within. get_or-replicate 64 segment 4294967295 0 within;
    })
    c.if-not-is_looked_for.ensures.there by)
    c.search.ensures.found
