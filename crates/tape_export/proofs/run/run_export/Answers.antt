use Rattle.std.proofs.Common.{◌≡◌, ◌≤◌, ◌∙◌, ℕ, List, length, sym, subst}
use Rattle.rescue_map.specs.Laws.{most_words}
use Rattle.flat_dump.specs.Held.{held_mask}
use Rattle.flat_dump.proofs.Maps.{few_words}
use Rattle.tape_export.proofs.run.run_export.Goals as goal

pub write_map-requires : goal.write_map-requires
write_map-requires g c =
    let mask : c.deref.result.now ≡ held_mask c.in-Ok.ensures.cartridge = c.deref.ensures.value ∙ c.in-Ok.ensures.masked in
    subst (λ (m : List ℕ). length m ≤ most_words) (sym mask) (few_words c.in-Ok.ensures.cartridge c.in-Ok.ensures.is_on.whole)
