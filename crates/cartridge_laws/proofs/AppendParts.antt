-- The writes of a new volume's segments leave each of them written with its part.
use Rattle.std.proofs.Common.{◌≡◌, ℕ, ◌+◌, ◌-◌, ◌≤◌, List, [], ◌++◌, length, replicate, ap, ◌∙◌, subst, arith, length-append, ◌<◌, ◌∷◌}
use Rattle.std.proofs.Common.{take, drop, All, sym, zero, suc, refl}
use Rattle.std.proofs.lemmas.List.{take_at, length-replicate, length-take, length-drop}
use Rattle.std.proofs.lemmas.List.Elements.{All-nil, All-cons, All-head, All-tail, All-append, All-replicate, All-take, All-drop}
use Rattle.std.proofs.lemmas.List.Sums.{sum_by-cons}
use Rattle.cartridge_laws.proofs.AppendKeeping.{parts_of_segments, steps_kept}
use Rattle.cartridge_laws.proofs.AppendSegments.{IsRising}
use Rattle.cartridge_laws.proofs.FormatStanding.{same_cells}
use Rattle.cartridge_laws.proofs.FormatWriting.{changed_by-append}
use Rattle.cartridge_laws.proofs.Writing.{writes_leave_data}
use Rattle.cartridge_laws.specs.AppendSteps.{parts_writes}
use Rattle.cartridge_laws.specs.Shape.{Carries}
use Rattle.cartridge_spec.specs.Appending.{part_writes, filled_up, in_sectors}
use Rattle.cartridge_laws.specs.VolumeParts.{PartStands, sectors_in}
use Rattle.cartridge_spec.specs.Says.{cells_of, Written}
use Rattle.cartridge_spec.specs.Settling.{changed_by}
use Rattle.cartridge_spec.specs.Shape.{mask_at, usable_count, data_count}
use Rattle.cartridge_spec.specs.Volumes.{Part, parts_of}
use Rattle.qic_base.specs.Cartridge.{Cartridge, IsSector}
use Rattle.qic_base.specs.declared.tape.SectorView.{SectorView}

-- ---- one segment

part_written : (c : Cartridge) (words : List ℕ) (s : ℕ) (sectors : List (List ℕ)) → Carries (mask_at words s) →
    length sectors ≡ data_count (mask_at words s) →
    PartStands (changed_by (part_writes words (record { segment = s; sectors = sectors })) c) words
    (record { segment = s; sectors = sectors })
part_written c words s sectors carries long =
    let mask : ℕ = mask_at words s in
    let none : List (List ℕ) = replicate 3 [] in
    let count : length (sectors ++ none) ≡ length sectors + 3 =
    length-append sectors none ∙ ap (λ (n : ℕ). length sectors + n) (length-replicate {A = List ℕ} 3 []) in
    let least : 4 ≤ usable_count mask = carries in
    subst (λ (xs : List (List ℕ)).
    Written (cells_of (changed_by (part_writes words (record { segment = s; sectors = xs })) c) s mask) xs)
    (take_at sectors none (data_count mask) long)
    (writes_leave_data c s mask (sectors ++ none) carries (omega arith))

-- ---- several, ascending

pub parts_written : (c : Cartridge) (words segments : List ℕ) (area : List (List ℕ)) → IsRising segments →
    All (λ s. Carries (mask_at words s)) segments →
    length area ≡ sectors_in words segments →
    All (PartStands (changed_by (parts_writes words (parts_of words segments area)) c) words) (parts_of words segments area)
parts_written c words [] area rise carry long = All-nil (PartStands c words)
parts_written c words (s ∷ ss) area rise carry long =
    let mask : ℕ = mask_at words s in
    let n : ℕ = data_count mask in
    let part : Part = record { segment = s; sectors = take n area } in
    let rest : List Part = parts_of words ss (drop n area) in
    let first : Cartridge = changed_by (part_writes words part) c in
    let last : Cartridge = changed_by (parts_writes words rest) first in
    let whole : length area ≡ n + sectors_in words ss = long ∙ sum_by-cons (λ t. data_count (mask_at words t)) s ss in
    let front : length (take n area) ≡ n = omega (arith, length-take n area) in
    let rear : length (drop n area) ≡ sectors_in words ss = omega (arith, length-drop n area) in
    let kept = steps_kept (λ t i. s < t) (parts_writes words rest) first (parts_of_segments (λ t. s < t) words ss (drop n area) rise.0) in
    subst (λ (d : Cartridge). All (PartStands d words) (part ∷ rest))
    (sym (changed_by-append (part_writes words part) (parts_writes words rest) c))
    (All-cons (PartStands last words) part rest
    (subst (λ (cells : List SectorView). Written cells (take n area))
    (sym (same_cells first last s mask (λ i h. kept.others s i h (λ (past : s < s). omega arith))))
    (part_written c words s (take n area) (All-head (λ (t : ℕ). Carries (mask_at words t)) s ss carry) front))
    (parts_written first words ss (drop n area) rise.1 (All-tail (λ (t : ℕ). Carries (mask_at words t)) s ss carry) rear))

-- ---- the bytes in sectors

pub length-in_sectors : (count : ℕ) (bytes : List ℕ) → length (in_sectors count bytes) ≡ count
length-in_sectors zero bytes = refl
length-in_sectors (suc count) bytes = ap suc (length-in_sectors count (drop 1024 bytes))

filled_sector : (bytes : List ℕ) → length bytes ≤ 1024 → All (λ b. b < 256) bytes → IsSector (filled_up bytes)
filled_sector bytes most are =
    let zeros : List ℕ = replicate (1024 - length bytes) 0 in
    let rest : length zeros ≡ 1024 - length bytes = length-replicate {A = ℕ} (1024 - length bytes) 0 in
    record {
      size = length-append bytes zeros ∙ omega arith;
      each = All-append (λ (b : ℕ). b < 256) bytes zeros are
          (All-replicate (λ (b : ℕ). b < 256) (1024 - length bytes) 0 (omega arith));
    }

pub are_sectors : (count : ℕ) (bytes : List ℕ) → All (λ b. b < 256) bytes → All IsSector (in_sectors count bytes)
are_sectors zero bytes are = All-nil IsSector
are_sectors (suc count) bytes are =
    All-cons IsSector (filled_up (take 1024 bytes)) (in_sectors count (drop 1024 bytes))
    (filled_sector (take 1024 bytes) (omega (arith, length-take 1024 bytes)) (All-take (λ (b : ℕ). b < 256) 1024 bytes are))
    (are_sectors count (drop 1024 bytes) (All-drop (λ (b : ℕ). b < 256) 1024 bytes are))
