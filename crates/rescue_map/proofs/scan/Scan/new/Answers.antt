use Rattle.std.proofs.Common.{[], refl}
use Rattle.rescue_map.proofs.scan.Scan.new.Goals as goal

pub returns : goal.returns
returns c = record {
  bytes = [];
  whole = refl;
  no_return = λ none. refl;
  cut = record {
    over = [];
    begun = [];
    words = λ rest. refl;
    are = c.new.ensures;
    is_begun = record { kept = refl; long = refl };
    quiet = λ e. refl;
  };
}
