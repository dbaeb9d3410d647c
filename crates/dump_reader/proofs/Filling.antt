-- Bytes with zero bytes behind them, parted into sectors.
use Rattle.std.proofs.Common.{◌≡◌, ℕ, ◌-◌, min, List, ◌++◌, length, take, drop, replicate, Option, Some, None}
use Rattle.std.proofs.Common.{IfSome, sym, ap, ◌∙◌, arith}
use Rattle.std.proofs.lemmas.List.{take_min, length-take}
use Rattle.std.specs.Simd.{first_chunks}
use Rattle.cartridge_laws.proofs.AppendBySegments.{sectors_take_theirs, take_sectors}
use Rattle.dump_spec.specs.HeaderPlace.{filed_area}
use Rattle.sector_fill.proofs.Sectors.{cut_filled}

filed_is : (file bytes cleared : List ℕ) (sectors : List (List ℕ)) (len : ℕ) → len ≡ min 29696 (length file) →
    take len bytes ≡ take len file → cleared ≡ take len bytes ++ replicate (32768 - len) 0 → sectors ≡ first_chunks 1024 32 cleared →
    take 29 sectors ≡ filed_area file
filed_is file bytes cleared sectors len amount given behind put =
    let front : List ℕ = take 29696 file in
    let same : take len bytes ≡ front = given ∙ ap (λ (k : ℕ). take k file) amount ∙ take_min 29696 file in
    let long : length front ≡ len = length-take 29696 file ∙ sym amount in
    ap (λ (s : List (List ℕ)). take 29 s)
    (put ∙ ap (first_chunks 1024 32) (behind ∙ ap (λ (xs : List ℕ). xs ++ replicate (32768 - len) 0) same)
    ∙ cut_filled 32 front (32768 - len) (omega arith))
    ∙ take_sectors 29 3 front ∙ sectors_take_theirs 29 file

pub filed_told : (told : Option (List ℕ)) (bytes cleared : List ℕ) (sectors : List (List ℕ)) (len : ℕ) →
    IfSome told (λ file. len ≡ min 29696 (length file - 0)) → IfSome told (λ file. take len bytes ≡ take len (drop 0 file)) →
    cleared ≡ take len bytes ++ replicate (32768 - len) 0 → sectors ≡ first_chunks 1024 32 cleared →
    IfSome told (λ file. take 29 sectors ≡ filed_area file)
filed_told None bytes cleared sectors len amount given behind put = tt
filed_told (Some file) bytes cleared sectors len amount given behind put =
    let all : length file - 0 ≡ length file = omega arith in
    filed_is file bytes cleared sectors len (amount ∙ ap (λ (k : ℕ). min 29696 k) all) given behind put
