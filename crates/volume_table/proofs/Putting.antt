-- A slot that was written shows its entry behind those of the slots before it.
use Rattle.std.proofs.Common.{◌≡◌, ℕ, ◌<◌, List, [], length, get_or, ap, ◌∙◌, arith}
use Rattle.std.proofs.lemmas.Option.{unwrap_or-slice_get}
use Rattle.cartridge_laws.proofs.Slots.{IsLong}

pub arrays_are_long : (area : List (List ℕ)) → length area ≡ 29 → ((i : ℕ) → i < length area → length (get_or area i []) ≡ 1024) →
    IsLong area
arrays_are_long area size told = record {
  size = size;
  sectors = λ i h. ap length (unwrap_or-slice_get area i []) ∙ told i (omega (arith, size));
}
