-- The bytes of sectors that are given, with their marks.
use Rattle.std.proofs.Common.{◌≡◌, inl, inr, ℕ, zero, suc, List, [], ◌∷◌, ◌++◌, length, take, replicate, All, refl, sym, ap}
use Rattle.std.proofs.Common.{subst, ◌∙◌}
use Rattle.std.proofs.Common.{arith}
use Rattle.std.proofs.lemmas.List.Elements.{All-head, All-tail}
use Rattle.std.specs.List.{AllZip, flat_map}
use Rattle.cartridge_laws.proofs.FreshBuilding.{zero_bytes}
use Rattle.cartridge_spec.specs.Volumes.{bytes_in}
use Rattle.qic_base.specs.Cartridge.{IsSector}
use Rattle.dump_spec.specs.Given.{Given, given_area}
use Rattle.dump_spec.specs.declared.mark.Mark.{Mark}
use Rattle.dump_spec.specs.declared.mark.Mark.TheVariants.{Filled}
use Rattle.salvage_laws.proofs.SegmentGiven.{IsSameOrFilled}
use Rattle.salvage_laws.specs.VolumeLaws.{Tell}

-- ---- one sector

tell_same : (n : ℕ) (mark : Mark) (bytes : List ℕ) → length bytes ≡ n → Tell bytes (replicate n mark) bytes
tell_same zero mark [] size = tt
tell_same zero mark (b ∷ bytes) size = absurd (omega arith)
tell_same (suc n) mark [] size = absurd (omega arith)
tell_same (suc n) mark (b ∷ bytes) size = (inl refl, tell_same n mark bytes (omega arith))

tell_zeros : (n : ℕ) (told : List ℕ) → length told ≡ n → Tell (replicate n 0) (replicate n Filled) told
tell_zeros zero [] size = tt
tell_zeros zero (t ∷ told) size = absurd (omega arith)
tell_zeros (suc n) [] size = absurd (omega arith)
tell_zeros (suc n) (t ∷ told) size = (inr (refl, refl), tell_zeros n told (omega arith))

tell_one : (g : Given) (sector : List ℕ) → length sector ≡ 1024 → IsSameOrFilled g sector → Tell g.bytes (replicate 1024 g.mark) sector
tell_one g sector size (inl same) =
    subst (λ (bytes : List ℕ). Tell bytes (replicate 1024 g.mark) sector) (sym same) (tell_same 1024 g.mark sector size)
tell_one g sector size (inr filled) =
    subst (λ (bytes : List ℕ). Tell bytes (replicate 1024 g.mark) sector) (sym (filled.1 ∙ zero_bytes))
    (subst (λ (mark : Mark). Tell (replicate 1024 0) (replicate 1024 mark) sector) (sym filled.0) (tell_zeros 1024 sector size))

-- ---- lists

tell-append : (bytes more : List ℕ) (marks others : List Mark) (told rest : List ℕ) → Tell bytes marks told → Tell more others rest →
    Tell (bytes ++ more) (marks ++ others) (told ++ rest)
tell-append [] more [] others [] rest tell behind = behind
tell-append [] more [] others (t ∷ told) rest tell behind = absurd tell
tell-append [] more (m ∷ marks) others told rest tell behind = absurd tell
tell-append (b ∷ bytes) more [] others told rest tell behind = absurd tell
tell-append (b ∷ bytes) more (m ∷ marks) others [] rest tell behind = absurd tell
tell-append (b ∷ bytes) more (m ∷ marks) others (t ∷ told) rest tell behind =
    (tell.0, tell-append bytes more marks others told rest tell.1 behind)

pub tell-take : (n : ℕ) (bytes : List ℕ) (marks : List Mark) (told : List ℕ) → Tell bytes marks told →
    Tell (take n bytes) (take n marks) (take n told)
tell-take zero bytes marks told tell = tt
tell-take (suc n) [] [] [] tell = tt
tell-take (suc n) [] [] (t ∷ told) tell = absurd tell
tell-take (suc n) [] (m ∷ marks) told tell = absurd tell
tell-take (suc n) (b ∷ bytes) [] told tell = absurd tell
tell-take (suc n) (b ∷ bytes) (m ∷ marks) [] tell = absurd tell
tell-take (suc n) (b ∷ bytes) (m ∷ marks) (t ∷ told) tell = (tell.0, tell-take n bytes marks told tell.1)

-- ---- sectors

pub tell_sectors : (given : List Given) (sectors : List (List ℕ)) → All IsSector sectors → AllZip IsSameOrFilled given sectors →
    Tell (flat_map (λ g. g.bytes) given) (flat_map (λ g. replicate 1024 g.mark) given) (bytes_in sectors)
tell_sectors [] [] are zip = tt
tell_sectors [] (s ∷ ss) are zip = absurd zip
tell_sectors (g ∷ gs) [] are zip = absurd zip
tell_sectors (g ∷ gs) (s ∷ ss) are zip =
    tell-append g.bytes (flat_map (λ x. x.bytes) gs) (replicate 1024 g.mark) (flat_map (λ x. replicate 1024 x.mark) gs) s (bytes_in ss)
    (tell_one g s (All-head IsSector s ss are).size zip.0) (tell_sectors gs ss (All-tail IsSector s ss are) zip.1)

-- the bytes of the sectors that are given, where they are these
pub bytes_of_area : (given : List Given) → flat_map (λ g. g.bytes) given ≡ bytes_in (given_area given)
bytes_of_area [] = refl
bytes_of_area (g ∷ gs) = ap (λ (bytes : List ℕ). g.bytes ++ bytes) (bytes_of_area gs)
