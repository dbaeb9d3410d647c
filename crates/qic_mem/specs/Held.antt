-- The cartridge that stands in a list of views, which may be longer (this project's profile).
use Rattle.std.specs.Prelude.{◌≡◌, ℕ, ◌*◌, ◌≤◌, Bool, true, false, List, take, length, All, Option, Some, None, IfSome, if◌then◌else◌, refl}
use Rattle.std.specs.Option.{option_map, ForSome}
use Rattle.std.proofs.Common.{arith, length-take}
use Rattle.std.proofs.lemmas.List.Elements.{All-take}
use Rattle.qic_base.specs.declared.tape.SectorView.{SectorView}
use Rattle.qic_base.specs.declared.tape.TapeInfo.{TapeInfo}
use Rattle.qic_base.specs.Cartridge.{Cartridge, IsLength, new_version}
use Rattle.qic_base.specs.CartridgeTerms.{IsCartridge, IsView}
use Rattle.qic_base.specs.TapeCalls.{IsToldRight}

-- the cartridge with these marks: its version is that of a new one, and its views are the first of the list
abbrev pub held : Option TapeInfo → List SectorView → Option Cartridge
held info views = option_map (λ i. record { info = i; version = new_version; views = take (896 * i.segments_per_track) views }) info

-- the size, where it was told
abbrev pub size_told : Bool → Option TapeInfo → Option ℕ
size_told told info = if told then option_map (λ i. i.segments_per_track) info else None

-- the cartridge's length is one, and within the room
pub record FitsRoom (room : ℕ) (i : TapeInfo) : Type 0 where
  pub long : IsLength i.segments_per_track
  pub within : i.segments_per_track ≤ room

-- what the size tells is a length
pub size_told-fits : (told : Bool) (info : Option TapeInfo) (room : ℕ) → ForSome info (FitsRoom room) →
    IfSome (size_told told info) IsLength
size_told-fits false info room fits = tt
size_told-fits true None room fits = tt
size_told-fits true (Some i) room fits = (fits i refl).long

whole_cartridge : (i : TapeInfo) (room : ℕ) (views : List SectorView) → FitsRoom room i → length views ≡ 896 * room → All IsView views →
    IsCartridge (record { info = i; version = new_version; views = take (896 * i.segments_per_track) views })
whole_cartridge i room views fits long whole = record {
  long = fits.long;
  version = record { oldest = omega arith; newest = omega arith };
  sectors = let within = fits.within in omega (arith, length-take (896 * i.segments_per_track) views);
  views = All-take IsView (896 * i.segments_per_track) views whole;
}

-- what is held is a whole cartridge, of the size told
pub held-right : (told : Bool) (info : Option TapeInfo) (room : ℕ) (views : List SectorView) → ForSome info (FitsRoom room) →
    length views ≡ 896 * room → All IsView views → IsToldRight (Some (held info views)) (size_told told info)
held-right false None room views fits long whole = refl
held-right true None room views fits long whole = refl
held-right false (Some i) room views fits long whole = (whole_cartridge i room views (fits i refl) long whole, tt)
held-right true (Some i) room views fits long whole = (whole_cartridge i room views (fits i refl) long whole, refl)
