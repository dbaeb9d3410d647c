use Rattle.std.proofs.Common.{◌∷◌, ◌++◌, [], refl, sym, append-nil}
use Rattle.rescue_map.proofs.Cutting.{Cut-same, without_return-push}
use Rattle.rescue_map.proofs.scan.Scan.take.Goals as goal

pub returns-else-byte-eq13 : goal.returns-else-byte-eq13
returns-else-byte-eq13 c = λ line scanned. record {
  bytes = line ++ c.args.byte ∷ [];
  whole = sym (append-nil (line ++ c.args.byte ∷ []));
  no_return = λ none. without_return-push line c.args.byte c.if-byte-eq13.false;
  cut = Cut-same c.push.new.self _ (line ++ c.args.byte ∷ []) refl refl refl refl (c.push.ensures line (c.release.ensures line scanned));
}
