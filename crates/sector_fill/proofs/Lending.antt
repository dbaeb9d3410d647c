-- A slice of sectors is lent on in two parts: the bytes of the first sectors, as one slice, and the other sectors. Once both
-- are given back, the slice is the first part cut into sectors, and the second behind it.
use Rattle.std.proofs.Common.{◌≡◌, ℕ, ◌+◌, ◌*◌, List, [], ◌∷◌, ◌++◌, length, refl, sym, ap, ◌∙◌, subst, arith}
use Rattle.std.specs.Prelude.{flat_map}
use Rattle.std.specs.Simd.{first_chunks}
use Rattle.std.proofs.lemmas.List as lists
use seplogic.Ra.Ura.{Ura}
use mir.Syntax.{Lifetime}
use mir.Val.{Val}
use base.Logic.{SProp, ent, sep, ex, emp, guard}
use base.Stored.{coded_list}
use base.Fml.{Lft, GName, Share, flft, fobs, fbor}
use types.Logic.{Logic, sem}
use types.Kit.{Item, ‵, ◌⊛◌, raw, given, some, later, ◌$◌, ◌∵◌, !, qed, move, keep, drop, use1, use2, split, split3, pick, learn, check}
use types.Kit.{group, rewrite, fsplit, fsplit3, fjoin, feq_l, feq_i, show, await, updating, now, done}
use types.SemTy.{cells, Arr, Body}
use types.Mut.{open_ref}
use types.Follow.{after₂, takes_two}
use denote.RattleType.{RattleType}
use denote.Memory.{mem}
use denote.ArrayMemory.{Single}
use denote.Array.{Array}
use denote.Slice.{MutSlice, Room, slice_val}
use denote.FollowSlice.{heres_id, slice_of}
use denote.Steps.{nothing}
use borrow.Table.Elements.{at, cut_app, join_app}
use Rattle.core.proofs.slice.Relends.{runs_out, runs_in, length-first_chunks}

-- arrays of n elements each, of which ys lie at the offset o of the block b, and the ones behind front at the offset p
module _ {M : Type 1} {𝓤 : Ura M} (𝓛 : Logic 𝓤) (ℓ : Lifetime) (κ : Lft) (q : Share) (b o : ℕ) (γ : GName) (R : RattleType)
    (single : Single R.mir) (n : ℕ)
    (ys front back : List (List R.Denot)) (cut : ys ≡ front ++ back) (count : ℕ) (many : length front ≡ count) (p : ℕ)
    (on : at o (mem (Array R n)).size count ≡ p)
    (room : Room R (count * n)) (rest : Room (Array R n) (length back)) where
  open 𝓛 use {H, A}

  abbrev S : RattleType
  S = Array R n

  abbrev xs : List R.Denot
  xs = flat_map (λ x. x) front

  -- what the whole ends as
  abbrev joined : List R.Denot → List (List R.Denot) → List (List R.Denot)
  joined ws zs = first_chunks n count ws ++ zs

  -- the two parts under new names, the token, and what the whole ends as
  abbrev pub parts_lent : GName × GName → Item 𝓤
  parts_lent δ = given (length xs ≡ count * n)
      (‵ ((MutSlice ℓ κ R).own_val (record { ref_ptr = (b, o); ghost_name = δ.0; now = xs }) (slice_val (b, o) (length xs) ∷ []))
      ⊛ ‵ ((MutSlice ℓ κ S).own_val (record { ref_ptr = (b, p); ghost_name = δ.1; now = back }) (slice_val (b, p) (length back) ∷ []))
      ⊛ ‵ (flft κ q) ⊛ ‵ (after₂ (Arr (mem S) 0) (Arr (mem R) 0) (Arr (mem S) 0) γ δ.0 δ.1 joined))

  abbrev pub PartsLent : GName × GName → SProp 𝓤
  PartsLent δ = guard 𝓤 (length xs ≡ count * n)
      (sep 𝓤 (sem 𝓛 ((MutSlice ℓ κ R).own_val (record { ref_ptr = (b, o); ghost_name = δ.0; now = xs })
      (slice_val (b, o) (length xs) ∷ [])))
      (sep 𝓤 (sem 𝓛 ((MutSlice ℓ κ S).own_val (record { ref_ptr = (b, p); ghost_name = δ.1; now = back })
      (slice_val (b, p) (length back) ∷ [])))
      (sep 𝓤 (A.lft κ q) (sem 𝓛 (after₂ (Arr (mem S) 0) (Arr (mem R) 0) (Arr (mem S) 0) γ δ.0 δ.1 joined)))))

  put : length xs ≡ count * n → (ws : List R.Denot) (zs : List (List R.Denot))
      → ent 𝓤 (sep 𝓤 (sem 𝓛 ((Arr (mem R) (length xs)).own_at ws b o)) (sep 𝓤 (sem 𝓛 ((Arr (mem S) (length back)).own_at zs b p)) (emp 𝓤)))
      (sem 𝓛 ((Arr (mem S) (length ys)).own_at (joined ws zs) b o))
  put all ws zs =
      let runs : List (List R.Denot) = first_chunks n count ws in
      let long : length runs ≡ count = length-first_chunks n count ws in
      let past : p ≡ at o (mem S).size (length runs) = sym (ap (at o (mem S).size) long ∙ on) in
      let whole : length ys ≡ length front + length back = ap (λ (l : List (List R.Denot)). length l) cut
      ∙ lists.length-append front back in
      let now_whole : length (runs ++ zs) ≡ length runs + length zs = lists.length-append runs zs in
      qed 𝓛 (‵ ((Arr (mem R) (length xs)).own_at ws b o) ∷ ‵ ((Arr (mem S) (length back)).own_at zs b p) ∷ raw (emp 𝓤) ∷ []) ∵ fsplit ! $
      feq_l ! (λ e.
      use1 𝓛 (‵ (cells (mem S) runs b o)) (runs_in 𝓛 R single n b count ws o (sym (e ∙ all))) $ move ! (1 ∷ []) $ fsplit ! $ feq_l ! (λ k.
      rewrite ! 0 (λ (j : ℕ). ‵ (cells (mem S) zs b j)) past refl $ move ! (1 ∷ 0 ∷ []) $
      use2 𝓛 (‵ (cells (mem S) (runs ++ zs) b o)) (join_app 𝓛 (mem S) runs zs b o) $
      feq_i ! ℕ (length (runs ++ zs)) (length ys) (omega arith) $ fjoin ! $ keep ! (0 ∷ []) $ done !))

  pub lends_parts : (vs : List Val)
      → ent 𝓤 (sep 𝓤 (sem 𝓛 ((MutSlice ℓ κ S).own_val (record { ref_ptr = (b, o); ghost_name = γ; now = ys }) vs)) (A.lft κ q))
      (H.⇛ (ex 𝓤 PartsLent))
  lends_parts vs =
      let past : at o (mem S).size (length front) ≡ p = ap (at o (mem S).size) many ∙ on in
      qed 𝓛 (‵ ((MutSlice ℓ κ S).own_val (record { ref_ptr = (b, o); ghost_name = γ; now = ys }) vs) ∷ ‵ (flft κ q) ∷ []) ∵ updating ! $
      fsplit3 ! $ drop ! $
      rewrite ! 0 (λ (l : List S.Denot). ‵ (fobs γ ((coded_list S.coded).code l))) (heres_id S ys) refl $ open_ref ! tt
      (Arr (mem S) (length ys)) {b = b} {o = o} $ fsplit ! $ drop ! $
      rewrite ! 0 (λ (l : List S.Denot). ‵ (cells (mem S) l b o)) cut refl $
      use1 𝓛 (‵ (cells (mem S) front b o) ⊛ ‵ (cells (mem S) back b (at o (mem S).size (length front))))
      (cut_app 𝓛 (mem S) front back b o) $ split ! $
      use1 𝓛 (given (length xs ≡ length front * n) (‵ (cells (mem R) xs b o))) (runs_out 𝓛 R single n b front o) $ learn ! (λ whole.
      let all : length xs ≡ count * n = whole ∙ ap (λ (j : ℕ). j * n) many in
      feq_i ! ℕ (length xs) (length xs) refl $ fjoin ! $ move ! (1 ∷ []) $
      rewrite ! 0 (λ (j : ℕ). ‵ (cells (mem S) back b j)) past refl $ feq_i ! ℕ (length back) (length back) refl $ fjoin ! $
      nothing ! $ move ! (3 ∷ 4 ∷ 5 ∷ 2 ∷ 1 ∷ 0 ∷ []) $ group ! 6 $
      use1 𝓛 (later (some (λ (δ : GName × GName).
      (‵ (fobs δ.0 ((coded_list R.coded).code xs)) ⊛ ‵ (fbor κ (Body (Arr (mem R) (length xs)) b o δ.0)))
      ⊛ (‵ (fobs δ.1 ((coded_list S.coded).code back)) ⊛ ‵ (fbor κ (Body (Arr (mem S) (length back)) b p δ.1)))
      ⊛ ‵ (flft κ q) ⊛ ‵ (after₂ (Arr (mem S) 0) (Arr (mem R) 0) (Arr (mem S) 0) γ δ.0 δ.1 joined))))
      (takes_two 𝓛 (Arr (mem S) (length ys)) (Arr (mem R) (length xs)) (Arr (mem S) (length back)) joined κ q b o b o b p γ (emp 𝓤)
      (put all)
      ((coded_list S.coded).code ys) ((coded_list S.coded).code ys) xs back) $ await ! tt $ pick ! (λ δ. split3 ! $
      split ! $ use2 𝓛 (‵ ((MutSlice ℓ κ R).own_val (record { ref_ptr = (b, o); ghost_name = δ.0; now = xs })
      (slice_val (b, o) (length xs) ∷ [])))
      (slice_of 𝓛 R ℓ κ b o δ.0 xs (subst (Room R) (sym all) room)) $ move ! (1 ∷ []) $
      split ! $ use2 𝓛 (‵ ((MutSlice ℓ κ S).own_val (record { ref_ptr = (b, p); ghost_name = δ.1; now = back })
      (slice_val (b, p) (length back) ∷ [])))
      (slice_of 𝓛 S ℓ κ b p δ.1 back rest) $ move ! (1 ∷ 0 ∷ []) $ now ! $ show ! PartsLent δ $ check ! all $ done !))
