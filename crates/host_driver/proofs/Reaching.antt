-- The sectors that the host asks for are under the head.
use Rattle.std.proofs.Common.{◌≡◌, ℕ, ◌*◌, ◌<◌, Bool, true, sym, subst, Some, None, Option, IsSomeAnd, arith}
use Rattle.std.proofs.lemmas.Nat.{mul-add-lt}
use Rattle.std.specs.Option.{option_map_or}
use Rattle.qic_base.specs.declared.tape.TapeInfo.{TapeInfo}
use Rattle.qic117_commands.specs.declared.view.Mode.{Mode}
use Rattle.tape_geometry.specs.Geometry.{HasAddress}
use Rattle.tape_geometry.specs.declared.geometry.FloppyAddr.{FloppyAddr}
use Rattle.drive_spec.specs.declared.deck.Deck.{Deck}
use Rattle.drive_spec.specs.Deck.{limit, segments_per_track, is_streaming}
use Rattle.drive_states.specs.Reach.{IsUnder, Reaches, segment_of}
use Rattle.drive_states.specs.Sound.{IsSound}
use Rattle.drive_states.proofs.Bounds.{before_limit, limit_within}
use Rattle.drive_states.proofs.Places.{streams_to}

pub length_is : (n : ℕ) (c : Option TapeInfo) → IsSomeAnd c (λ info. info.segments_per_track ≡ n) →
    option_map_or (λ (i : TapeInfo). i.segments_per_track) c 0 ≡ n
length_is n None h = absurd h
length_is n (Some info) h = h

-- a tape that streams is in a segment of the cartridge
segment_on_tape : (d : Deck) → IsSound d → is_streaming d.motion ≡ true → segment_of d < 28 * segments_per_track d
segment_on_tape d s running =
    let before = before_limit d.motion (limit d) d.offset running s.motion in
    let within = limit_within d in
    let offset : d.offset < segments_per_track d = omega arith in
    omega (arith, mul-add-lt d.track (segments_per_track d) d.offset 28 s.track offset)

pub under_on_tape : (d : Deck) (segment index : ℕ) → IsSound d → IsUnder d segment index → segment < 28 * segments_per_track d
under_on_tape d segment index s under =
    subst (λ (n : ℕ). n < 28 * segments_per_track d) (sym under.here) (segment_on_tape d s (streams_to d.motion index under.streams))

pub reaches : (has_call : Mode → Bool) (d : Deck) (n segment index : ℕ) (addr : FloppyAddr) →
    IsSomeAnd d.cartridge (λ info. info.segments_per_track ≡ n) →
    has_call d.mode ≡ true → IsUnder d segment index → HasAddress n segment index addr → Reaches has_call d addr segment index
reaches has_call d n segment index addr long mode under address = record {
  mode = mode;
  sector = record {
    under = under;
    address = subst (λ (k : ℕ). HasAddress k segment index addr) (sym (length_is n d.cartridge long)) address;
  };
}
