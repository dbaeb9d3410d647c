-- `split_bytes` lends the bytes of the first sectors, and the other sectors: a walk of its code by hand, since it goes
-- through a raw pointer.
use Rattle.std.proofs.Common.{◌≡◌, ℕ, ◌+◌, ◌-◌, ◌*◌, ◌^◌, ◌<◌, ◌≤◌, List, [], ◌∷◌, ◌++◌, length, take, drop as rest_of, sym, refl, ap}
use Rattle.std.proofs.Common.{arith, MutBor}
use Rattle.std.specs.Prelude.{flat_map}
use Rattle.std.proofs.lemmas.List.{take-append-drop, length-take-le, length-drop}
use seplogic.Ra.Ura.{Ura}
use mir.Syntax.{Body, named, seq, assign, place, rv_opd, copy, return, int_big, w64}
use mir.Val.{Val, Fits, vint, vstruct, vcons, vnil}
use base.Logic.{SProp, ent, via, guard_i}
use base.Fml.{Lft, GName, Share, ftrue, flft}
use prog.Memory.{Memory}
use prog.Routine.{Routine}
use prog.Wp.{Env, Calls, Loops, WpFn, Tables}
use types.Logic.{Logic}
use contract.Monad.{Fun}
use contract.Running.{tables, tables_of}
use sound.WpLaws.{WpFn-mono}
use types.Kit.{Item, ‵, ◌⊛◌, some, later, at_ret, ◌$◌, ◌∵◌, !, qed, move, keep, split, split3, join, learn, fsplit, fjoin, fpack, feq_i}
use types.Kit.{use2, await, pick, suffices, frame, done}
use types.Part.{whole, sub, agg}
use types.Run.{Opd, stop, fld, hop, from, addr, bin, and_then, no_more, of_opd, first, blocks, exec, returns, enter}
use types.ByLocal.{alloc_all, pass_all, free_all, look_at, look_in_at, get, get_in, sets, sets_last, env}
use denote.Array.{Array}
use denote.Builtin.{u8, usize}
use denote.Exit.{yes, no}
use denote.Follow.{both_by}
use denote.Plain.{uint_vals, uint_Tells}
use denote.RattleType.{RattleType, Valss, owns}
use denote.Signature.{plain, mut_slice_of}
use denote.Slice.{MutSlice, Room, slice_val, mut_slice_vals, mut_slice_Tells}
use denote.Steps.{nothing}
use denote.Struct.Declared.{shape}
use denote.Struct.Struct.{within as laid_within}
use denote.Struct.Tuple.{tuple_type}
use denote.Triple.Clauses.{Clauses}
use denote.Triple.Entry.{on_entry}
use denote.Triple.Spec.{Meets, triple_of}
use denote.Triple.Table.{entered}
use denote.Triple.Walked.{needs, Stays, stay_dropped, walk_of, ends_at, walked, Goes-dropped, Goes-spent_slice, walk_Meets}
use borrow.Table.Elements.{at, at_mul}
use Rattle.core.proofs.mem.Facts.{says_three}
use Rattle.cartridge_spec.specs.Volumes.{bytes_in}
use Rattle.sector_fill.proofs.Lending.{parts_lent, lends_parts}
use Rattle.sector_fill.specs.contracts.flat.split_bytes.Key.{name as #split_bytes}
use Rattle.sector_fill.specs.contracts.flat.split_bytes as F
use Rattle.sector_fill.proofs.flat.split_bytes.Statement as stated
use Rattle.sector_fill.proofs.flat.split_bytes.Code as code

abbrev Sector : RattleType
Sector = Array u8 1024

-- nothing is left of the parameters when the function returns
abbrev stayed : Stays (F.ended).signature.params (F.ended).kept
stayed = (stay_dropped (mut_slice_of (0 ∷ []) tt (plain (λ _. Sector))) no, (stay_dropped (plain (λ _. usize)) yes, tt))

-- the code behind the `unsafe` block
abbrev after_block : Body
after_block = seq (assign (place 0 []) (rv_opd (copy (place 7 [])))) return

-- the bytes of some sectors, told in two ways
same_bytes : (sectors : List (List ℕ)) → flat_map (λ sector. sector) sectors ≡ bytes_in sectors
same_bytes [] = refl
same_bytes (sector ∷ sectors) = ap (λ (bytes : List ℕ). sector ++ bytes) (same_bytes sectors)

module _ {M : Type 1} {𝓤 : Ura M} (𝓛 : Logic 𝓤) (at_mem : Memory → SProp 𝓤) (run : Routine → Fun 𝓤) where
  open 𝓛 use {H}

  abbrev clauses : Clauses 𝓤 F.ended
  clauses = F.clauses 𝓛 at_mem run

  -- the sectors are lent for κ, lie at the offset o of the block b, are named γ and hold xs
  module _ (C : Calls 𝓤 H) (Λ : Loops 𝓤 H) (κ : Lft) (q : Share) (b o : ℕ) (γ : GName) (xs : List (List ℕ)) (m : ℕ) where
    abbrev self : MutBor (List (List ℕ))
    self = record { ref_ptr = (b, o); ghost_name = γ; now = xs }

    abbrev words : List Val × (List Val × Unit {0})
    words = (mut_slice_vals self, (vint w64 m ∷ [], tt))

    abbrev bound : (walk_of 𝓛 F.ended stayed clauses).Ghost
    bound = (((κ, tt), (q, tt), tt, (self, (m, tt)), words), tt)

    abbrev Post : Val → SProp 𝓤
    Post = (walk_of 𝓛 F.ended stayed clauses).post bound

    -- the size of a sector, as the code has it
    size : {K : Type 0} {Γ : List (Item 𝓤)} {E : Env 𝓤 H} → Opd K 𝓛 Γ E (int_big w64 1024) (vint w64 1024)
    size = record {
      go = λ Kt h. via 𝓤 (Kt (vint w64 1024)) h
          (guard_i 𝓤 (Fits w64 1024) (Kt (vint w64 1024)) (record { fits = omega arith }));
    }

    walk : Room Sector (length xs) → m < 2 ^ 64 → m ≤ length xs
        → ent 𝓤 (on_entry 𝓛 F.signature (κ, tt) (q, tt) (self, (m, tt)) words)
        (WpFn 𝓤 H C Λ code.function (slice_val (b, o) (length xs) ∷ vint w64 m ∷ []) Post)
    unfolding both_by
    walk room fm le =
        let count : length xs < 2 ^ 64 = room.0 in
        let space : length xs * 1024 < 2 ^ 63 = room.1 in
        let bytes : m * 1024 < 2 ^ 64 = omega arith in
        let others : length xs - m < 2 ^ 64 = omega arith in
        let front : List (List ℕ) = take m xs in
        let back : List (List ℕ) = rest_of m xs in
        let lf : length front ≡ m = length-take-le m xs le in
        let lb : length back ≡ length xs - m = length-drop m xs in
        let p : ℕ = m * 1024 + o in
        let on : at o 1024 m ≡ p = at_mul o 1024 m in
        let roomy : Room u8 (m * 1024) = (omega arith, omega arith) in
        let rest : Room Sector (length back) = (omega arith, omega arith) in
        let ys : List ℕ = flat_map (λ sector. sector) front in
        let halves : List RattleType = MutSlice (named 0) κ u8 ∷ MutSlice (named 0) κ Sector ∷ [] in
        let one : GName × GName → MutBor (List ℕ) = λ δ. record { ref_ptr = (b, o); ghost_name = δ.0; now = ys } in
        let two : GName × GName → MutBor (List (List ℕ)) = λ δ. record { ref_ptr = (b, p); ghost_name = δ.1; now = back } in
        let v : Val = vstruct (vcons (slice_val (b, o) (m * 1024)) (vcons (slice_val (b, p) (length xs - m)) vnil)) in
        qed 𝓛 ((‵ (flft κ q) ⊛ ‵ ftrue) ∷ ‵ (owns (MutSlice (named 0) κ Sector ∷ usize ∷ []) (self, (m, tt)) words) ∷ []) ∵
        enter ! C Λ code.function (slice_val (b, o) (length xs) ∷ vint w64 m ∷ []) _ $
        alloc_all ! (λ l. pass_all ! refl ((tt, (tt, (record { fits = count }, tt))), ((tt, record { fits = fm }), tt)) $
        let En : Env 𝓤 H = env (code.function).locals l in
        -- let len = count * 1024;
        sets ! (bin ! (get ! refl) size (record { fits = bytes })) refl (tt, record { fits = bytes }) $
        -- let rest = sectors.len() - count;
        sets ! (of_opd ! (get_in ! (fld ! refl (stop !)) (sub ! 1 refl (whole !)))) refl (tt, record { fits = count }) $
        sets ! (bin ! (get ! refl) (get ! refl) le) refl (tt, record { fits = others }) $
        -- let start = sectors.as_mut_ptr();
        sets ! (addr ! (from ! (fld ! refl (hop ! (look_in_at ! 1 (sub ! 0 refl (whole !))) (stop !))))) refl (tt, tt) $
        first ! $ blocks ! $
        -- from_raw_parts_mut(start as *mut u8, len)
        sets ! (of_opd ! (get ! refl)) refl (tt, tt) $
        sets ! (agg ! (and_then ! (get ! refl) (and_then ! (get ! refl) (no_more !)))) refl (tt, (tt, (record { fits = bytes }, tt))) $
        -- from_raw_parts_mut(start.add(count), rest)
        sets ! (bin ! (get ! refl) size (record { fits = bytes })) refl (tt, record { fits = bytes }) $
        sets ! (bin ! (get ! refl) (get ! refl) tt) refl (tt, tt) $
        sets ! (agg ! (and_then ! (get ! refl) (and_then ! (get ! refl) (no_more !)))) refl (tt, (tt, (record { fits = others }, tt))) $
        sets_last ! (agg ! (and_then ! (get ! refl) (and_then ! (get ! refl) (no_more !)))) refl
        (tt, ((tt, (record { fits = bytes }, tt)), ((tt, (record { fits = others }, tt)), tt))) $
        exec ! C Λ En after_block (at_ret En Post) $
        sets ! (of_opd ! (get ! refl)) refl (tt, ((tt, (record { fits = bytes }, tt)), ((tt, (record { fits = others }, tt)), tt))) $
        -- the sectors are lent on in two parts
        split ! $ move ! (2 ∷ []) $ fsplit ! $ move ! (0 ∷ 2 ∷ []) $
        use2 𝓛 (later (some (parts_lent 𝓛 (named 0) κ q b o γ u8 tt 1024 xs front back (sym (take-append-drop m xs)) m lf p on roomy rest)))
        (lends_parts 𝓛 (named 0) κ q b o γ u8 tt 1024 xs front back (sym (take-append-drop m xs)) m lf p on roomy rest
        (mut_slice_vals self)) $
        await ! tt $ pick ! (λ δ. learn ! (λ all.
        let same : m * 1024 ≡ length ys = sym all in
        split3 ! $ nothing ! $ move ! (2 ∷ 0 ∷ []) $ fjoin ! $ move ! (1 ∷ 0 ∷ []) $ fjoin ! $
        feq_i ! (List Val) (v ∷ []) (vstruct (vcons (slice_val (b, o) (length ys)) (vcons (slice_val (b, p) (length back)) vnil)) ∷ [])
        (λ k. vstruct (vcons (slice_val (b, o) (same k)) (vcons (slice_val (b, p) (sym lb k)) vnil)) ∷ []) $ fjoin ! $
        fpack ! (Valss halves) (laid_within (shape (tuple_type halves)) (one δ, (two δ, tt)) (v ∷ []))
        (slice_val (b, o) (length ys) ∷ [], (slice_val (b, p) (length back) ∷ [], tt)) $
        move ! (1 ∷ []) $ split ! $ move ! (2 ∷ 0 ∷ 1 ∷ []) $
        returns ! (look_at ! 0 refl) $ free_all ! refl $ keep ! (0 ∷ 1 ∷ 2 ∷ 4 ∷ []) $
        suffices ! _ (ends_at 𝓛 F.ended stayed clauses bound v (one δ, two δ) (tt, (tt, tt)) (tt, (tt, tt))) $
        nothing ! $ nothing ! $ fjoin ! $ nothing ! $ fjoin ! $ join ! $ move ! (1 ∷ 3 ∷ []) $ join ! $ join ! $ frame ! $
        says_three ! (same_bytes front, omega (arith, same), refl) $ done !)))

  meets : (𝓣 : Tables 𝓤 H) → Meets 𝓛 F.signature (WpFn 𝓤 H 𝓣.C 𝓣.Λ code.function) (F.spec 𝓛 at_mem run)
  meets 𝓣 =
      walk_Meets 𝓛 F.ended stayed
      (Goes-spent_slice 𝓛 1 (0 ∷ []) tt (plain (λ _. Sector)), (Goes-dropped 𝓛 1 (plain (λ _. usize)) yes (λ κs x f. refl), tt))
      clauses (WpFn 𝓤 H 𝓣.C 𝓣.Λ code.function) (WpFn-mono 𝓤 H 𝓛.laws 𝓣 code.function)
      (walked 𝓛 F.ended stayed clauses (WpFn 𝓤 H 𝓣.C 𝓣.Λ code.function)
      (λ κs. (mut_slice_vals, (uint_vals w64, tt))) (λ κs. (mut_slice_Tells (named 0) κs.0 Sector, (uint_Tells w64, tt)))
      (λ κs qs bounds a g are. needs 𝓤 (a.1.0 ≤ length a.0.now) _
      (walk 𝓣.C 𝓣.Λ κs.0 qs.0 a.0.ref_ptr.0 a.0.ref_ptr.1 a.0.ghost_name a.0.now a.1.0 are.0.0.1 are.1.0.1)))

pub split_bytes_spec : {M : Type 1} → stated.statement M
unfolding tables_of
split_bytes_spec 𝓤 𝓛 𝓜 𝓡 wired =
    entered 𝓤 𝓛.H (triple_of 𝓛 F.signature (F.spec 𝓛 𝓜.mem 𝓡.returns))
    (tables 𝓤 𝓛.H 𝓜 𝓡 𝓡.env).C (tables 𝓤 𝓛.H 𝓜 𝓡 𝓡.env).Λ #split_bytes code.function (code.unfolded 𝓤 𝓛.H 𝓜 𝓡 wired)
    (meets 𝓛 𝓜.mem 𝓡.returns (tables_of 𝓤 𝓛.H 𝓜 (tables 𝓤 𝓛.H 𝓜 𝓡 𝓡.env)))
