-- The first eight bytes of a file, as a read gives them.
use Rattle.std.proofs.Common.{◌≡◌, ◌≢◌, ℕ, ◌-◌, ◌<◌, nat_eq, min, Bool, List, length}
use Rattle.std.proofs.Common.{take, drop, Option, Some, None, IfSome}
use Rattle.std.proofs.Common.{sym, ap, ap₂, ◌∙◌, arith}
use Rattle.std.proofs.lemmas.List.{take_all}
use Rattle.image_kind.specs.Free.{free_by, is_free, is_stopped_len}

-- all eight were read
pub read_all : (told : Option (List ℕ)) (head : List ℕ) (count len : ℕ) (free : Bool) → length head ≡ 8 → count ≡ 8 →
    IfSome told (λ bytes. take count head ≡ take count (drop 0 bytes)) → IfSome told (λ bytes. len ≡ length bytes) →
    free ≡ free_by len head → IfSome told (λ bytes. free ≡ is_free bytes)
unfolding is_free
read_all None head count len free long all given size is = tt
read_all (Some bytes) head count len free long all given size is =
    let whole : take 8 head ≡ head = take_all 8 head (omega arith) in
    let same : take 8 head ≡ take 8 bytes = rw all at given in
    is ∙ ap₂ free_by size (sym whole ∙ same)

-- a length below that of a head
short_len : (len : ℕ) (head : List ℕ) → len < 8 → nat_eq len 0 ≡ free_by len head
unfolding is_stopped_len
short_len len head few = grind arith

-- there are fewer
pub read_few : (told : Option (List ℕ)) (count len : ℕ) → count ≢ 8 →
    IfSome told (λ bytes. count ≡ min 8 (length bytes - 0)) → IfSome told (λ bytes. len ≡ length bytes) →
    IfSome told (λ bytes. nat_eq len 0 ≡ is_free bytes)
unfolding is_free
read_few None count len short amount size = tt
read_few (Some bytes) count len short amount size =
    let few : length bytes < 8 = omega (arith, amount, short) in
    ap (λ (n : ℕ). nat_eq n 0) size ∙ short_len (length bytes) (take 8 bytes) few
