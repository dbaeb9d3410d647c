-- Zero bytes put into the lost sectors one by one.
use Rattle.std.proofs.Common.{◌≡◌, ℕ, ◌+◌, ◌<◌, ◌≤◌, Bool, true, false, if◌then◌else◌, List, [], ◌∷◌, ◌++◌, length, take, drop, set, get_or}
use Rattle.std.proofs.Common.{replicate, refl, sym, ap, ◌∙◌, arith, zero-add, add-zero}
use Rattle.std.proofs.lemmas.List.{take_more, take_more_set, take_all, drop-drop, get_or-drop, length-set, length-take-le, drop-set-lt}
use Rattle.qic_base.specs.Cartridge.{zero_sector}
use Rattle.qic_base.specs.CartridgeTerms.{is_lost}
use Rattle.segment_salvage.proofs.Zeros.{filled_from-more}
use Rattle.segment_salvage.specs.Filled.{filled_from}

-- the sectors below a place are filled where they are lost, and the others are as they were
pub record IsFilledBelow (lost place : ℕ) (old now : List (List ℕ)) : Type 0 where
  pub size : length now ≡ length old
  pub front : take place now ≡ filled_from lost 0 (take place old)
  pub rest : drop place now ≡ drop place old

pub filled_none : (lost : ℕ) (old : List (List ℕ)) → IsFilledBelow lost 0 old old
unfolding filled_from
filled_none lost old = record { size = refl; front = refl; rest = refl }

-- the sector there, with zero bytes where it is lost
abbrev filled_one : (lost place : ℕ) → (old : List (List ℕ)) → List ℕ
filled_one lost place old = if is_lost lost place then zero_sector else get_or old place []

filled_more : (lost place : ℕ) (old now next : List (List ℕ)) → place < length old → IsFilledBelow lost place old now →
    length next ≡ length now → take (place + 1) next ≡ take place now ++ filled_one lost place old ∷ [] →
    drop (place + 1) next ≡ drop (place + 1) now → IsFilledBelow lost (place + 1) old next
filled_more lost place old now next within g size front rest =
    let long : length (take place old) ≡ place = length-take-le place old (omega arith) in
    record {
      size = size ∙ g.size;
      front =
          front
          ∙ ap (λ (s : List (List ℕ)). s ++ filled_one lost place old ∷ []) g.front
          ∙ sym (filled_from-more lost 0 (take place old) (get_or old place []) place (sym long ∙ sym (zero-add (length (take place old)))))
          ∙ ap (filled_from lost 0) (sym (take_more old place [] within));
      rest =
          rest ∙ sym (drop-drop 1 place now) ∙ ap (drop 1) g.rest ∙ drop-drop 1 place old;
    }

pub filled_lost : (lost place : ℕ) (old now : List (List ℕ)) → place < length old → IsFilledBelow lost place old now →
    is_lost lost place ≡ true → IsFilledBelow lost (place + 1) old (set now place (replicate 1024 0))
unfolding zero_sector
filled_lost lost place old now within g on =
    let same : length now ≡ length old = g.size in
    filled_more lost place old now (set now place (replicate 1024 0)) within g (length-set now place (replicate 1024 0))
    (take_more_set now place (replicate 1024 0) (omega arith)
    ∙ ap (λ (b : Bool). take place now ++ (if b then zero_sector else get_or old place []) ∷ []) (sym on))
    (drop-set-lt (place + 1) now place (replicate 1024 0) (omega arith))

pub filled_kept : (lost place : ℕ) (old now : List (List ℕ)) → place < length old → IsFilledBelow lost place old now →
    is_lost lost place ≡ false → IsFilledBelow lost (place + 1) old now
filled_kept lost place old now within g off =
    let same : length now ≡ length old = g.size in
    let held : get_or now place [] ≡ get_or old place [] =
    ap (λ (k : ℕ). get_or now k []) (sym (add-zero place)) ∙ sym (get_or-drop place now 0 [])
    ∙ ap (λ (s : List (List ℕ)). get_or s 0 []) g.rest ∙ get_or-drop place old 0 [] ∙ ap (λ (k : ℕ). get_or old k []) (add-zero place) in
    filled_more lost place old now now within g refl
    (take_more now place [] (omega arith)
    ∙ ap (λ (s : List ℕ). take place now ++ s ∷ []) held
    ∙ ap (λ (b : Bool). take place now ++ (if b then zero_sector else get_or old place []) ∷ []) (sym off))
    refl

pub filled_all : (lost place : ℕ) (old now : List (List ℕ)) → length old ≤ place → IsFilledBelow lost place old now → now ≡ filled_from lost
    0 old
filled_all lost place old now all g =
    let same : length now ≡ length old = g.size in
    sym (take_all place now (omega arith)) ∙ g.front ∙ ap (filled_from lost 0) (take_all place old all)
