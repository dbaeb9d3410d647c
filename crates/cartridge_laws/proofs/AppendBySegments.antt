-- The writes of a new volume, one segment after the other.
use Rattle.std.proofs.Common.{◌≡◌, ℕ, zero, suc, ◌+◌, List, ◌∷◌, take, drop, refl, ap, ◌∙◌, arith, ◌-◌, ◌*◌, ◌++◌, Bool, true, false, cond}
use Rattle.std.proofs.Common.{[], length, sym, nat_le}
use Rattle.std.proofs.lemmas.List.{drop-drop, length-drop}
use Rattle.std.proofs.lemmas.List.Sums.{sum_by-cons}
use Rattle.cartridge_laws.proofs.AppendBytes.{carried_all}
use Rattle.cartridge_laws.specs.AppendLaws.{WritesBySegment, VolumeStepsByBytes, SectorsTakeTheirs}
use Rattle.cartridge_laws.specs.AppendSteps.{parts_writes}
use Rattle.cartridge_laws.specs.VolumeParts.{sectors_in}
use Rattle.cartridge_spec.specs.Appending.{filled_up, in_sectors, part_writes, taken_by}
use Rattle.cartridge_spec.specs.Shape.{mask_at, data_count, capacity}
use Rattle.cartridge_spec.specs.Volumes.{parts_of}
use Rattle.qic_base.specs.Step.{Step}

-- ---- bytes in sectors

pub take_sectors : (n m : ℕ) (bytes : List ℕ) → take n (in_sectors (n + m) bytes) ≡ in_sectors n bytes
take_sectors zero m bytes = refl
take_sectors (suc n) m bytes =
    let more : suc n + m ≡ suc (n + m) = omega arith in
    ap (λ (k : ℕ). take (suc n) (in_sectors k bytes)) more
    ∙ ap (λ (sectors : List (List ℕ)). filled_up (take 1024 bytes) ∷ sectors) (take_sectors n m (drop 1024 bytes))

drop_sectors : (n m : ℕ) (bytes : List ℕ) → drop n (in_sectors (n + m) bytes) ≡ in_sectors m (drop (1024 * n) bytes)
drop_sectors zero m bytes =
    let none : 0 + m ≡ m = omega arith in
    ap (λ (k : ℕ). in_sectors k bytes) none
drop_sectors (suc n) m bytes =
    let more : suc n + m ≡ suc (n + m) = omega arith in
    let place : 1024 + 1024 * n ≡ 1024 * suc n = omega arith in
    ap (λ (k : ℕ). drop (suc n) (in_sectors k bytes)) more
    ∙ drop_sectors n m (drop 1024 bytes)
    ∙ ap (in_sectors m) (drop-drop (1024 * n) 1024 bytes)
    ∙ ap (λ (k : ℕ). in_sectors m (drop k bytes)) place

-- ---- one segment, and the others

parts_head : (words : List ℕ) (s : ℕ) (taken : List ℕ) (bytes : List ℕ) →
    parts_writes words (parts_of words (s ∷ taken) (in_sectors (sectors_in words (s ∷ taken)) bytes))
    ≡ part_writes words (record { segment = s; sectors = in_sectors (data_count (mask_at words s)) bytes })
    ++ parts_writes words (parts_of words taken (in_sectors (sectors_in words taken) (drop (1024 * data_count (mask_at words s)) bytes)))
parts_head words s taken bytes =
    let n : ℕ = data_count (mask_at words s) in
    let m : ℕ = sectors_in words taken in
    let rest : List (List ℕ) → List Step = λ area. parts_writes words (parts_of words taken area) in
    ap (λ (k : ℕ). parts_writes words (parts_of words (s ∷ taken) (in_sectors k bytes)))
    (sum_by-cons (λ t. data_count (mask_at words t)) s taken)
    ∙ ap (λ (front : List (List ℕ)). part_writes words (record { segment = s; sectors = front }) ++ rest
    (drop n (in_sectors (n + m) bytes)))
    (take_sectors n m bytes)
    ∙ ap (λ (rear : List (List ℕ)). part_writes words (record { segment = s; sectors = in_sectors n bytes }) ++ rest rear)
    (drop_sectors n m bytes)

head_ends : (words : List ℕ) (s : ℕ) (taken : List ℕ) (bytes : List ℕ) (ends : Bool) →
    parts_writes words (parts_of words (s ∷ cond ends [] taken) (in_sectors (sectors_in words (s ∷ cond ends [] taken)) bytes))
    ≡ part_writes words (record { segment = s; sectors = in_sectors (data_count (mask_at words s)) bytes })
    ++ cond ends [] (parts_writes words (parts_of words taken
    (in_sectors (sectors_in words taken) (drop (1024 * data_count (mask_at words s)) bytes))))
head_ends words s taken bytes true = parts_head words s [] bytes
head_ends words s taken bytes false = parts_head words s taken bytes

pub writes_by_segment : WritesBySegment
writes_by_segment words s segments bytes carry =
    let cap : ℕ = capacity (mask_at words s) in
    let n : ℕ = data_count (mask_at words s) in
    let ends : Bool = nat_le (length bytes) cap in
    let into : (count from : ℕ) → List Step =
    λ count from. parts_writes words (parts_of words (taken_by words count segments)
    (in_sectors (sectors_in words (taken_by words count segments)) (drop from bytes))) in
    head_ends words s (taken_by words (length bytes - cap) segments) bytes ends
    ∙ ap (λ (steps : List Step). part_writes words (record { segment = s; sectors = in_sectors n bytes }) ++ cond ends [] steps)
    (ap (λ (count : ℕ). into count (1024 * n)) (sym (length-drop cap bytes))
    ∙ ap (into (length (drop cap bytes))) (sym (carried_all words s carry)))

pub volume_steps_by_bytes : VolumeStepsByBytes
volume_steps_by_bytes plain content = refl

-- ---- each sector has its own bytes

more_room : (a b : ℕ) → suc a + b ≡ suc (a + b)
more_room a b = omega arith

no_room : (b : ℕ) → 0 + b ≡ b
no_room b = omega arith

take_nothing : (b : ℕ) → [] ≡ take {A = ℕ} b []
take_nothing zero = refl
take_nothing (suc b) = refl

take_front : (a b : ℕ) (xs : List ℕ) → take a (take (a + b) xs) ≡ take a xs
take_front zero b xs = refl
take_front (suc a) b [] = ap (λ (k : ℕ). take (suc a) (take k [])) (more_room a b)
take_front (suc a) b (x ∷ xs) =
    ap (λ (k : ℕ). take (suc a) (take k (x ∷ xs))) (more_room a b) ∙ ap (λ (ys : List ℕ). x ∷ ys) (take_front a b xs)

drop_front : (a b : ℕ) (xs : List ℕ) → drop a (take (a + b) xs) ≡ take b (drop a xs)
drop_front zero b xs = ap (λ (k : ℕ). take k xs) (no_room b)
drop_front (suc a) b [] = ap (λ (k : ℕ). drop (suc a) (take k [])) (more_room a b) ∙ take_nothing b
drop_front (suc a) b (x ∷ xs) = ap (λ (k : ℕ). drop (suc a) (take k (x ∷ xs))) (more_room a b) ∙ drop_front a b xs

pub sectors_take_theirs : SectorsTakeTheirs
sectors_take_theirs zero bytes = refl
sectors_take_theirs (suc n) bytes =
    let room : 1024 * suc n ≡ 1024 + 1024 * n = omega arith in
    ap (λ (k : ℕ). filled_up (take 1024 (take k bytes)) ∷ in_sectors n (drop 1024 (take k bytes))) room
    ∙ ap (λ (front : List ℕ). filled_up front ∷ in_sectors n (drop 1024 (take (1024 + 1024 * n) bytes))) (take_front 1024 (1024 * n) bytes)
    ∙ ap (λ (rear : List ℕ). filled_up (take 1024 bytes) ∷ in_sectors n rear) (drop_front 1024 (1024 * n) bytes)
    ∙ ap (λ (sectors : List (List ℕ)). filled_up (take 1024 bytes) ∷ sectors) (sectors_take_theirs n (drop 1024 bytes))
