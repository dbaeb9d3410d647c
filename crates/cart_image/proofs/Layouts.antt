-- What proofs need of a layout: the parts of the sectors lie behind the head and before the end, and no two of them meet.
use Rattle.std.proofs.Common.{◌≡◌, ◌≢◌, ℕ, suc, ◌+◌, ◌*◌, ◌<◌, ◌≤◌, ◌⊎◌, inl, inr, ⊎_elim, true, refl, arith}
use Rattle.std.proofs.lemmas.Bool.{cases_lt}
use Rattle.cart_image.specs.declared.layout.Kind.{Kind}
use Rattle.cart_image.specs.declared.layout.Kind.TheVariants.{Planes, Cells, CellsBehind}
use Rattle.cart_image.specs.declared.layout.Layout.{Layout}
use Rattle.cart_image.specs.declared.layout.Part.{Part}
use Rattle.cart_image.specs.declared.layout.Part.TheVariants.{GateByte, FormedByte, DefectByte, Data}
use Rattle.cart_image.specs.Layout.{cell_len}
use Rattle.cart_image.specs.Layout.{sectors, image_len, base_of, end_of, width, plane_place, cell_place, place_in, place, touches}

-- two parts that begin at a and b, and don't meet
abbrev pub Apart : (a m b k : ℕ) → Type 0
Apart a m b k = (a + m ≤ b) ⊎ (b + k ≤ a)

pub record IsLaidOut (at : Part → ℕ → ℕ) (count end : ℕ) : Type 0 where
  pub behind : (p : Part) (q : ℕ) → q < count → 64 ≤ at p q
  pub before : (p : Part) (q : ℕ) → q < count → at p q + width p ≤ end
  pub apart : (p r : Part) (q k : ℕ) → q < count → k < count → (p ≢ r) ⊎ (q ≢ k) → Apart (at p q) (width p) (at r k) (width r)

-- two numbers, in one order or the other
ordered : (q k : ℕ) (C : Type 0) → (q < k → C) → (k < q → C) → (q ≡ k → C) → C
ordered q k C less more same =
    ⊎_elim less (λ le. ⊎_elim more (λ ge. same (omega arith)) (cases_lt k q)) (cases_lt q k)

module _ (n : ℕ) where
  planes-behind : (p : Part) (q : ℕ) → q < sectors n → 64 ≤ plane_place n p q
  planes-behind GateByte q on = omega arith
  planes-behind FormedByte q on = omega arith
  planes-behind DefectByte q on = omega arith
  planes-behind Data q on = omega arith

  planes-before : (p : Part) (q : ℕ) → q < sectors n → plane_place n p q + width p ≤ image_len n
  planes-before GateByte q on = omega arith
  planes-before FormedByte q on = omega arith
  planes-before DefectByte q on = omega arith
  planes-before Data q on = omega arith

  planes-apart : (p r : Part) (q k : ℕ) → q < sectors n → k < sectors n → (p ≢ r) ⊎ (q ≢ k) → Apart (plane_place n p q) (width p)
      (plane_place n r k) (width r)
  planes-apart GateByte FormedByte q k a b ne = inl (omega arith)
  planes-apart GateByte DefectByte q k a b ne = inl (omega arith)
  planes-apart GateByte Data q k a b ne = inl (omega arith)
  planes-apart FormedByte DefectByte q k a b ne = inl (omega arith)
  planes-apart FormedByte Data q k a b ne = inl (omega arith)
  planes-apart DefectByte Data q k a b ne = inl (omega arith)
  planes-apart FormedByte GateByte q k a b ne = inr (omega arith)
  planes-apart DefectByte GateByte q k a b ne = inr (omega arith)
  planes-apart DefectByte FormedByte q k a b ne = inr (omega arith)
  planes-apart Data GateByte q k a b ne = inr (omega arith)
  planes-apart Data FormedByte q k a b ne = inr (omega arith)
  planes-apart Data DefectByte q k a b ne = inr (omega arith)
  planes-apart GateByte GateByte q k a b (inl ne) = absurd (ne refl)
  planes-apart FormedByte FormedByte q k a b (inl ne) = absurd (ne refl)
  planes-apart DefectByte DefectByte q k a b (inl ne) = absurd (ne refl)
  planes-apart Data Data q k a b (inl ne) = absurd (ne refl)
  planes-apart GateByte GateByte q k a b (inr ne) = ordered q k _ (λ l. inl (omega arith)) (λ m. inr (omega arith)) (λ e. absurd (ne e))
  planes-apart FormedByte FormedByte q k a b (inr ne) = ordered q k _ (λ l. inl (omega arith)) (λ m. inr (omega arith)) (λ e. absurd (ne e))
  planes-apart DefectByte DefectByte q k a b (inr ne) = ordered q k _ (λ l. inl (omega arith)) (λ m. inr (omega arith)) (λ e. absurd (ne e))
  planes-apart Data Data q k a b (inr ne) = ordered q k _ (λ l. inl (omega arith)) (λ m. inr (omega arith)) (λ e. absurd (ne e))

  planes : IsLaidOut (plane_place n) (sectors n) (image_len n)
  planes = record { behind = planes-behind; before = planes-before; apart = planes-apart }

  module _ (base : ℕ) (late : 64 ≤ base) where
    -- a part lies in its sector's cell
    in-cell : (p : Part) (q : ℕ) → (base + cell_len * q ≤ cell_place base p q)
        × (cell_place base p q + width p ≤ base + cell_len * q + cell_len)
    in-cell GateByte q = (omega arith, omega arith)
    in-cell FormedByte q = (omega arith, omega arith)
    in-cell DefectByte q = (omega arith, omega arith)
    in-cell Data q = (omega arith, omega arith)

    -- .. apart from the others of the cell
    within : (p r : Part) (q : ℕ) → p ≢ r → Apart (cell_place base p q) (width p) (cell_place base r q) (width r)
    within GateByte FormedByte q ne = inl (omega arith)
    within GateByte DefectByte q ne = inl (omega arith)
    within GateByte Data q ne = inl (omega arith)
    within FormedByte DefectByte q ne = inl (omega arith)
    within FormedByte Data q ne = inl (omega arith)
    within DefectByte Data q ne = inl (omega arith)
    within FormedByte GateByte q ne = inr (omega arith)
    within DefectByte GateByte q ne = inr (omega arith)
    within DefectByte FormedByte q ne = inr (omega arith)
    within Data GateByte q ne = inr (omega arith)
    within Data FormedByte q ne = inr (omega arith)
    within Data DefectByte q ne = inr (omega arith)
    within GateByte GateByte q ne = absurd (ne refl)
    within FormedByte FormedByte q ne = absurd (ne refl)
    within DefectByte DefectByte q ne = absurd (ne refl)
    within Data Data q ne = absurd (ne refl)

    same-cell : (p r : Part) (q k : ℕ) → q ≡ k → (p ≢ r) ⊎ (q ≢ k) → Apart (cell_place base p q) (width p) (cell_place base r k) (width r)
    same-cell p r q k e (inl ne) = rw e (within p r k ne)
    same-cell p r q k e (inr ne) = absurd (ne e)

    cells : IsLaidOut (cell_place base) (sectors n) (base + cell_len * sectors n)
    cells = record {
      behind = λ p q on. let i = in-cell p q in let a = i.0 in omega arith;
      before = λ p q on. let i = in-cell p q in let a = i.1 in omega arith;
      apart = λ p r q k a b ne. ordered q k _
          (λ l. let i = in-cell p q in let j = in-cell r k in let x = i.1 in let y = j.0 in inl (omega arith))
          (λ m. let i = in-cell p q in let j = in-cell r k in let x = i.0 in let y = j.1 in inr (omega arith))
          (λ e. same-cell p r q k e ne);
    }

laid_out-in : (kind : Kind) (n : ℕ) → IsLaidOut (place_in kind n) (sectors n) (base_of kind n + cell_len * sectors n)
laid_out-in Planes n = planes n
laid_out-in Cells n = cells n 64 (omega arith)
laid_out-in CellsBehind n = cells n (image_len n) (omega arith)

-- so is each layout
pub laid_out : (l : Layout) → IsLaidOut (place l) (sectors l.segments_per_track) (end_of l)
laid_out l = laid_out-in l.kind l.segments_per_track

pub width-some : (p : Part) → 1 ≤ width p
width-some GateByte = omega arith
width-some FormedByte = omega arith
width-some DefectByte = omega arith
width-some Data = omega arith

-- where parts of neighbours are neighbours, they stand in a row
pub in-row : (l : Layout) (p : Part) (q i : ℕ) → touches l.kind ≡ true → place l p (q + i) ≡ place l p q + width p * i
in-row l p q i is = by_kind l.kind p is
  where
    by_kind : (kind : Kind) (p : Part) → touches kind ≡ true → place_in kind l.segments_per_track p
        (q + i) ≡ place_in kind l.segments_per_track p q + width p * i
    by_kind Planes GateByte is = omega arith
    by_kind Planes FormedByte is = omega arith
    by_kind Planes DefectByte is = omega arith
    by_kind Planes Data is = omega arith
    by_kind Cells p is = cc
    by_kind CellsBehind p is = cc

-- .. one behind the other
pub width-more : (p : Part) (c : ℕ) → width p * suc c ≡ width p * c + width p
width-more GateByte c = omega arith
width-more FormedByte c = omega arith
width-more DefectByte c = omega arith
width-more Data c = omega arith

pub width-less : (p : Part) (i c : ℕ) → i < c → width p * i + width p ≤ width p * c
width-less GateByte i c less = omega arith
width-less FormedByte i c less = omega arith
width-less DefectByte i c less = omega arith
width-less Data i c less = omega arith

pub width-few : (p : Part) (c : ℕ) → c ≤ 32 → width p * c ≤ width p * 32
width-few GateByte c few = omega arith
width-few FormedByte c few = omega arith
width-few DefectByte c few = omega arith
width-few Data c few = omega arith

pub width-sum : (p : Part) (a b : ℕ) → width p * (a + b) ≡ width p * a + width p * b
width-sum GateByte a b = omega arith
width-sum FormedByte a b = omega arith
width-sum DefectByte a b = omega arith
width-sum Data a b = omega arith

pub width-one : (p : Part) → width p * 1 ≡ width p
width-one GateByte = refl
width-one FormedByte = refl
width-one DefectByte = refl
width-one Data = refl
