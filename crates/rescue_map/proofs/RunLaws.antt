-- The runs of a mask: which bytes they rescue, and that they meet.
use Rattle.std.proofs.Common.{◌≡◌, ◌⊎◌, inl, inr, ⊎_elim, ℕ, zero, suc, ◌+◌, ◌*◌, ◌/◌, ◌^◌, ◌<◌, ◌≤◌, ◌==◌, Bool, true, false, List, []}
use Rattle.std.proofs.Common.{◌∷◌, length, if◌then◌else◌, refl, sym, ◌∙◌, subst, arith}
use Rattle.std.proofs.lemmas.Bool.{cases_lt, eqb-true, eqb-false, eq-eqb}
use Rattle.rescue_map.specs.declared.form.Block.{Block}
use Rattle.rescue_map.specs.Map.{IsIn, Rescued}
use Rattle.rescue_map.specs.Mask.{IsMarked}
use Rattle.rescue_map.specs.Text.{is_marked, sector_block, joined, runs_from}
use Rattle.rescue_map.specs.Laws.{Alternate, RunsAlternate, RescuesMarked}

-- ---- blocks that meet

-- a block of at least a byte, which ends below 2^32 and has one of the two marks
pub record IsRun (block : Block) : Type 0 where
  pub some : 1 ≤ block.size
  pub fits : block.start + block.size < 2 ^ 32
  pub mark : (block.mark ≡ 43) ⊎ (block.mark ≡ 45)

-- the blocks meet, and the first of them starts there
abbrev pub Meet : (at : ℕ) → List Block → Type 0
Meet at [] = Unit {0}
Meet at (block ∷ blocks) = (block.start ≡ at) × IsRun block × Meet (block.start + block.size) blocks

joined-meet : (block : Block) (rest : List Block) → IsRun block → Meet (block.start + block.size) rest →
    Meet block.start (joined block rest)
joined-meet block [] run meet = (refl, run, tt)
joined-meet block (next ∷ blocks) run meet = by_test (block.mark == next.mark) where
  by_test : (t : Bool) → Meet block.start
      (if t then record { start = block.start; size = block.size + next.size; mark = block.mark } ∷ blocks else block ∷ next ∷ blocks)
  by_test true =
      let e : next.start ≡ block.start + block.size = meet.0 in
      let few = meet.1.fits in
      let some = run.some in
      let same : next.start + next.size ≡ block.start + (block.size + next.size) = omega arith in
      let P : ℕ → Type 0 = λ at. Meet at blocks in
      (refl, record { some = omega arith; fits = omega arith; mark = run.mark }, subst P same meet.2)
  by_test false = (refl, run, meet)

abbrev run_mark : Bool → ℕ
run_mark marked = if marked then 43 else 45

mark_of : (marked : Bool) → (run_mark marked ≡ 43) ⊎ (run_mark marked ≡ 45)
mark_of true = inl refl
mark_of false = inr refl

pub runs_from-meet : (mask : List ℕ) (sector left : ℕ) → 1024 * (sector + left) < 2 ^ 32 → Meet (1024 * sector) (runs_from mask sector left)
runs_from-meet mask sector zero few = tt
runs_from-meet mask sector (suc left) few =
    let block = sector_block sector (is_marked mask sector) in
    let behind = runs_from-meet mask (sector + 1) left (omega arith) in
    let P : ℕ → Type 0 = λ at. Meet at (runs_from mask (sector + 1) left) in
    let same : 1024 * (sector + 1) ≡ 1024 * sector + 1024 = omega arith in
    joined-meet block (runs_from mask (sector + 1) left)
    (record { some = omega arith; fits = omega arith; mark = mark_of (is_marked mask sector) }) (subst P same behind)

length-joined : (block : Block) (rest : List Block) → length (joined block rest) ≤ length rest + 1
length-joined block [] = omega arith
length-joined block (next ∷ blocks) = by_test (block.mark == next.mark) where
  by_test : (t : Bool) → length (if t then record { start = block.start; size = block.size + next.size; mark = block.mark } ∷ blocks else
      block ∷ next ∷ blocks) ≤ length (next ∷ blocks) + 1
  by_test true = omega arith
  by_test false = omega arith

pub length-runs_from : (mask : List ℕ) (sector left : ℕ) → length (runs_from mask sector left) ≤ left
length-runs_from mask sector zero = omega arith
length-runs_from mask sector (suc left) =
    let l = length-joined (sector_block sector (is_marked mask sector)) (runs_from mask (sector + 1) left) in
    let m = length-runs_from mask (sector + 1) left in omega arith

-- ---- what they rescue

abbrev RescuedBy : Block → List Block → ℕ → Type 0
RescuedBy block rest byte = ((block.mark ≡ 43) × IsIn block byte) ⊎ Rescued rest byte

rescued_by_joined : (block : Block) (rest : List Block) (byte : ℕ) → Meet (block.start + block.size) rest →
    Rescued (joined block rest) byte → RescuedBy block rest byte
rescued_by_joined block [] byte meet r = r
rescued_by_joined block (next ∷ blocks) byte meet r = by_test (block.mark == next.mark) refl r where
  by_test : (t : Bool) → t ≡ (block.mark == next.mark) →
      Rescued (if t then record { start = block.start; size = block.size + next.size; mark = block.mark } ∷ blocks else
      block ∷ next ∷ blocks) byte → RescuedBy block (next ∷ blocks) byte
  by_test true e r = ⊎_elim
      (λ h.
      let at = meet.0 in
      let low = h.1.0 in
      let high = h.1.1 in
      ⊎_elim
      (λ before. inl (h.0, (low, before)))
      (λ behind. inr (inl (sym (eqb-true block.mark next.mark (sym e)) ∙ h.0, (omega arith, omega arith))))
      (cases_lt byte (block.start + block.size)))
      (λ h. inr (inr h)) r
  by_test false e r = r

joined_rescued : (block : Block) (rest : List Block) (byte : ℕ) → Meet (block.start + block.size) rest → RescuedBy block rest byte →
    Rescued (joined block rest) byte
joined_rescued block [] byte meet r = r
joined_rescued block (next ∷ blocks) byte meet r = by_test (block.mark == next.mark) refl where
  by_test : (t : Bool) → t ≡ (block.mark == next.mark) →
      Rescued (if t then record { start = block.start; size = block.size + next.size; mark = block.mark } ∷ blocks else
      block ∷ next ∷ blocks) byte
  by_test true e =
      let at = meet.0 in
      ⊎_elim
      (λ h. let low = h.1.0 in let high = h.1.1 in inl (h.0, (low, omega arith)))
      (λ h. ⊎_elim
      (λ n. let low = n.1.0 in let high = n.1.1 in inl (eqb-true block.mark next.mark (sym e) ∙ n.0, (omega arith, omega arith)))
      (λ n. inr n) h)
      r
  by_test false e = r

marked_mark : (mask : List ℕ) (sector : ℕ) → run_mark (is_marked mask sector) ≡ 43 → IsMarked mask sector
marked_mark mask sector = by_test (is_marked mask sector) refl where
  by_test : (t : Bool) → t ≡ is_marked mask sector → run_mark t ≡ 43 → IsMarked mask sector
  by_test true e h = eqb-true _ 1 (sym e)
  by_test false e h = absurd (let h' : 45 ≡ 43 = h in omega arith)

mark_marked : (mask : List ℕ) (sector : ℕ) → IsMarked mask sector → run_mark (is_marked mask sector) ≡ 43
mark_marked mask sector marked = let t : is_marked mask sector ≡ true = eq-eqb _ 1 marked in rw t refl

runs_rescue : (mask : List ℕ) (sector left byte : ℕ) → 1024 * (sector + left) < 2 ^ 32 → Rescued (runs_from mask sector left) byte →
    (1024 * sector ≤ byte) × IsMarked mask (byte / 1024)
runs_rescue mask sector zero byte few r = absurd r
runs_rescue mask sector (suc left) byte few r =
    let block = sector_block sector (is_marked mask sector) in
    let behind = runs_from-meet mask (sector + 1) left (omega arith) in
    let P : ℕ → Type 0 = λ at. Meet at (runs_from mask (sector + 1) left) in
    let same : 1024 * (sector + 1) ≡ 1024 * sector + 1024 = omega arith in
    ⊎_elim
    (λ h.
    let low : 1024 * sector ≤ byte = h.1.0 in
    let high : byte < 1024 * sector + 1024 = h.1.1 in
    let Q : ℕ → Type 0 = λ q. IsMarked mask q in
    let here : sector ≡ byte / 1024 = omega arith in
    (low, subst Q here (marked_mark mask sector h.0)))
    (λ h. let next = runs_rescue mask (sector + 1) left byte (omega arith) h in (let l = next.0 in omega arith, next.1))
    (rescued_by_joined block (runs_from mask (sector + 1) left) byte (subst P same behind) r)

rescued_by_runs : (mask : List ℕ) (sector left byte : ℕ) → 1024 * (sector + left) < 2 ^ 32 → 1024 * sector ≤ byte →
    byte < 1024 * (sector + left) → IsMarked mask (byte / 1024) →
    Rescued (runs_from mask sector left) byte
rescued_by_runs mask sector zero byte few low high marked = absurd (omega arith)
rescued_by_runs mask sector (suc left) byte few low high marked =
    let block = sector_block sector (is_marked mask sector) in
    let behind = runs_from-meet mask (sector + 1) left (omega arith) in
    let P : ℕ → Type 0 = λ at. Meet at (runs_from mask (sector + 1) left) in
    let same : 1024 * (sector + 1) ≡ 1024 * sector + 1024 = omega arith in
    joined_rescued block (runs_from mask (sector + 1) left) byte (subst P same behind)
    (⊎_elim
    (λ here.
    let Q : ℕ → Type 0 = λ q. IsMarked mask q in
    let at : byte / 1024 ≡ sector = omega arith in
    inl (mark_marked mask sector (subst Q at marked), (low, here)))
    (λ past. inr (rescued_by_runs mask (sector + 1) left byte (omega arith) (omega arith) (omega arith) marked))
    (cases_lt byte (1024 * sector + 1024)))

pub rescues_marked : RescuesMarked
rescues_marked mask byte few within = (
  (λ r. (runs_rescue mask 0 (32 * length mask) byte (omega arith) r).1),
  (λ marked. rescued_by_runs mask 0 (32 * length mask) byte (omega arith) (omega arith) (omega arith) marked),
)

-- ---- and that they are the longest

joined-alternate : (block : Block) (rest : List Block) → Alternate rest → Alternate (joined block rest)
joined-alternate block [] other = tt
joined-alternate block (next ∷ []) other = by_test (block.mark == next.mark) refl where
  by_test : (t : Bool) → t ≡ (block.mark == next.mark) →
      Alternate (if t then record { start = block.start; size = block.size + next.size; mark = block.mark } ∷ [] else block ∷ next ∷ [])
  by_test true e = tt
  by_test false e = (eqb-false block.mark next.mark (sym e), tt)
joined-alternate block (next ∷ third ∷ blocks) other = by_test (block.mark == next.mark) refl where
  by_test : (t : Bool) → t ≡ (block.mark == next.mark) →
      Alternate (if t then record { start = block.start; size = block.size + next.size; mark = block.mark } ∷ third ∷ blocks else
      block ∷ next ∷ third ∷ blocks)
  by_test true e = ((λ same. other.0 (sym (eqb-true block.mark next.mark (sym e)) ∙ same)), other.1)
  by_test false e = (eqb-false block.mark next.mark (sym e), other)

runs_from-alternate : (mask : List ℕ) (sector left : ℕ) → Alternate (runs_from mask sector left)
runs_from-alternate mask sector zero = tt
runs_from-alternate mask sector (suc left) = joined-alternate (sector_block sector (is_marked mask sector))
    (runs_from mask (sector + 1) left) (runs_from-alternate mask (sector + 1) left)

pub runs_alternate : RunsAlternate
runs_alternate mask = runs_from-alternate mask 0 (32 * length mask)
