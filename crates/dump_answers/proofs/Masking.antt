-- The masks in memory are those of the dump.
use Rattle.std.proofs.Common.{ℕ, List, Option, sym}
use Rattle.dump_opening.specs.Opened.{Shows}
use Rattle.dump_opening.specs.declared.opened.OpenDump.{OpenDump}
use Rattle.dump_spec.specs.Answers.{Known}
use Rattle.dump_volumes.specs.Masks.{HoldMasks}

pub holds : (view : OpenDump) (told : Option (List ℕ)) (known : Known) → Shows view told known →
    HoldMasks view.known.masks.now known.layout.masks
holds view told known shows = λ segment within. sym (shows.describes.laid.masks segment within)
