-- What a store that fits a unit knows of the cartridge's segments.
use Rattle.std.proofs.Common.{◌≡◌, ℕ, ◌-◌, ◌*◌, ◌<◌, Option, Some, None, IsSomeAnd, slice_get, length, sym, subst, arith}
use Rattle.std.specs.Option.{option_map_or}
use Rattle.qic_base.specs.declared.tape.TapeInfo.{TapeInfo}
use Rattle.qic_base.specs.Cartridge.{IsPlace}
use Rattle.qic_base.specs.Tape as tapes
use Rattle.cartridge_spec.specs.Table.{Entry}
use Rattle.cartridge_laws.specs.Table.{LieBehind}
use Rattle.drive_spec.specs.Deck.{segments_per_track}
use Rattle.drive_states.specs.Unit.{UnitView}
use Rattle.host_driver.specs.Fits.{segments_of}
use Rattle.segment_mending.proofs.Looked.{LiesOn, lies_on}
use Rattle.volume_store.specs.Mounting.{StoreView, StoreFits}

module _ {T : Type 0} (t : tapes.Meaning T) (held : StoreView) (u : UnitView T) (fits : StoreFits t held u) where
  length_known : segments_per_track u.drive.deck ≡ segments_of held.host
  length_known = by_cartridge u.drive.deck.cartridge fits.host.cartridge
    where
      by_cartridge : (o : Option TapeInfo) → IsSomeAnd o (λ info. info.segments_per_track ≡ segments_of held.host) →
          option_map_or (λ (c : TapeInfo). c.segments_per_track) o 0 ≡ segments_of held.host
      by_cartridge None known = absurd known
      by_cartridge (Some info) known = known

  pub place_of : (segment sector : ℕ) → segment < length held.words → sector < 32 → IsPlace (segments_per_track u.drive.deck) segment sector
  place_of segment sector within small =
      let known : segments_per_track u.drive.deck ≡ segments_of held.host = length_known in
      let size : length held.words ≡ 28 * segments_of held.host = fits.words in
      record { on_tape = omega (arith, known, size, within); in_segment = small }

  pub lies : (index : ℕ) (e : Entry) → slice_get held.entries index ≡ Some e → LiesOn (length held.words - 1) e
  lies index e at =
      let size : length held.words ≡ 28 * segments_of held.host = fits.words in
      lies_on (length held.words - 1) held.entries index e
      (subst (λ (n : ℕ). LieBehind 2 (n - 1) held.entries) (sym size) fits.list) at
