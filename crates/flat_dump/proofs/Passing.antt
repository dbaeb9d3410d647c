-- What steps leave of a file that is written and is no image yet.
use Rattle.std.proofs.Common.{◌≡◌, ℕ, zero, suc, ◌+◌, ◌-◌, ◌*◌, ◌≤◌, inl, inr, Bool, true, false, List, [], ◌∷◌, ◌++◌, length, get_or, take}
use Rattle.std.proofs.Common.{drop, replicate, Option, Some, None, is_some, IsSome, IfSome, Result, Ok, Err, refl, sym, ◌∙◌, ap, subst}
use Rattle.std.proofs.Common.{arith, append-nil}
use Rattle.std.specs.Prelude.{◌==◌, slice_index}
use Rattle.std.specs.Option.{option_map}
use Rattle.std.proofs.lemmas.Bool.{eqb-true}
use Rattle.std.proofs.lemmas.List.{take_all, drop_all, take_at, same_lists, get_or_default, length-take-le}
use Rattle.std.proofs.lemmas.List as lists
use Rattle.qic_base.proofs.Steps.{Rose-after}
use Rattle.qic_base.specs.Disk.{Meaning, DiskStep, WriteAt, SetLen, Sync, stored, resized, TornRange, Unsynced, Inside, Crashes, Stored}
use Rattle.qic_base.specs.Disk.{Failed, IsSettled, IsToldRight, IsLeftNow}
use Rattle.qic_base.specs.Field.{overwritten, little_endian_bytes}
use Rattle.cart_image.specs.declared.layout.Head.{Head}
use Rattle.cart_image.specs.Image.{head_of, cartridge_of}
use Rattle.cart_image.specs.Layout.{append_steps, cells_len, first_letter, head_len, made_head, resize, sign_steps}
use Rattle.cart_image.specs.Run.{Ran, Halted, Runs}
use Rattle.cart_image.specs.Whole.{head_of-parts, cartridge_of-none}
use Rattle.cart_image.proofs.Bytes.{OnlyIn, OnlyIn-torn, OnlyIn-written}
use Rattle.cart_image.proofs.Renews.{length-made-rest, length-resized, none-by-first}
use Rattle.flat_dump.specs.Import.{IsEmpty, IsNoImage, Cleared, CrashesLeave}
use Rattle.flat_dump.specs.Importing.{Stays, Unfinished, FailedSince, Goes, IsNoneOr, Finished, Ends, begun, image_with}
use Rattle.flat_dump.specs.Stops.{IsUnsigned, KeepsFirst}
use Rattle.flat_dump.proofs.Stops.{unsigned_none, kept_first}

-- ---- what a disk tells

tells_on : (step : DiskStep) (p q : Option (List ℕ)) → q ≡ option_map (stored step) p → is_some q ≡ is_some p
tells_on step None q e = ap is_some e
tells_on step (Some x) q e = ap is_some e

told_on : (step : DiskStep) (file : List ℕ) (o p q : Option (List ℕ)) → q ≡ option_map (stored step) p → p ≡ option_map (λ b. file) o →
    q ≡ option_map (λ b. stored step file) o
told_on step file None p q e f = e ∙ ap (option_map (stored step)) f
told_on step file (Some b) p q e f = e ∙ ap (option_map (stored step)) f

some_bytes : (o : Option (List ℕ)) → IsSome o → (b : List ℕ) × (o ≡ Some b)
some_bytes None is = cc
some_bytes (Some b) is = (b, refl)

some_as : (o p : Option (List ℕ)) → is_some p ≡ is_some o → IsSome o → IsSome p
some_as o p e is = e ∙ is

told_exact : (file : List ℕ) (o p : Option (List ℕ)) → p ≡ option_map (λ b. file) o → IsSome o → p ≡ Some file
told_exact file None p e is = cc
told_exact file (Some b) p e is = e

-- ---- bytes of no image

-- as short as a head
none_short : (bytes : List ℕ) → length bytes ≤ 64 → IsNoImage bytes
none_short bytes short = by_head (head_of bytes) refl
  where
    by_head : (o : Option Head) → head_of bytes ≡ o → cartridge_of bytes ≡ None
    by_head None is = cartridge_of-none bytes is
    by_head (Some h) is =
        let f = (head_of-parts bytes h is).fits in
        let long = f.long in
        let least = f.shortest in
        absurd (omega arith)

-- ---- a step more

pub stays_as : {D : Type 0} (m : Meaning D) (first now : D) (P Q R S : List ℕ → Type 0) → ((b : List ℕ) → P b → Q b) →
    ((b : List ℕ) → R b → S b) → Stays m first now P R → Stays m first now Q S
stays_as m first now P Q R S one two s = record {
  tells = s.tells;
  later = s.later;
  telling = s.telling;
  clock = s.clock;
  leaves = λ some left may. one left (s.leaves some left may);
  since = λ left stops is. two left (s.since left stops is);
}

module _ {D : Type 0} (m : Meaning D) (left_now : (d : D) → IsLeftNow m d) (right : (d : D) → IsToldRight m d) where
  stays_on : (first old new : D) (step : DiskStep) (P Q R : List ℕ → Type 0) →
      ((before left : List ℕ) → P before → Unsynced step before left → Q left) → ((left : List ℕ) → Q left → R left) →
      is_some (m.told new) ≡ is_some (m.told old) → m.faults old ≤ m.faults new →
      ((left : List ℕ) → m.may_leave new left → Inside m old step left) → Crashes m old new step → Stays m first old P R →
      Stays m first new Q R
  stays_on first old new step P Q R closes gives tells later leaves crashes before = record {
    tells = tells ∙ before.tells;
    later = let a = before.later in omega arith;
    telling = crashes.telling ∙ before.telling;
    clock = let a = before.clock in let b = crashes.clock in omega arith;
    leaves = λ some left may. let i = leaves left may in closes i.0 left (before.leaves some i.0 i.1) i.2;
    since = λ left stops is.
        elim (crashes.since (m.moment first) left before.clock is) [
          | inl was ↦ before.since left stops was
          | inr i ↦ gives left (closes i.0 left (before.leaves ((left_now first).telling stops) i.0 i.1) i.2)
        ];
  }

  -- a sync leaves what is told alone
  stays_synced : (first old new : D) (P R : List ℕ → Type 0) → ((b : List ℕ) → P b → R b) → Stored m old new Sync → Stays m first old P R →
      Stays m first new P R
  stays_synced first old new P R gives sync before = record {
    tells = tells_on Sync (m.told old) (m.told new) sync.told ∙ before.tells;
    later = let a = before.later in let b = sync.later in omega arith;
    telling = let c = sync.crashes in c.telling ∙ before.telling;
    clock = let a = before.clock in let c = sync.crashes in let b = c.clock in omega arith;
    leaves = λ some left may.
        let b = some_bytes (m.told old) (some_as (m.told first) (m.told old) before.tells some) in
        let settled = sync.leaves in
        let same : left ≡ b.0 = settled.only b.0 left (sync.told ∙ ap (option_map (stored Sync)) b.1) may in
        subst P (sym same) (before.leaves some b.0 ((right old).may_leave b.0 b.1));
    since = λ left stops is.
        let c = sync.crashes in
        elim (c.since (m.moment first) left before.clock is) [
          | inl was ↦ before.since left stops was
          | inr i ↦ gives left (subst P (sym i.2) (before.leaves ((left_now first).telling stops) i.0 i.1))
        ];
  }

  -- .. where the file is known
  stays_exact : (first now : D) (P Q R : List ℕ → Type 0) (file : List ℕ) → m.told now ≡ option_map (λ b. file) (m.told first) →
      IsSettled m now → Q file → Stays m first now P R → Stays m first now Q R
  stays_exact first now P Q R file told settled q s = record {
    tells = s.tells;
    later = s.later;
    telling = s.telling;
    clock = s.clock;
    since = s.since;
    leaves = λ some left may. subst Q (sym (settled.only file left (told_exact file (m.told first) (m.told now) told some) may)) q;
  }

  -- a failed step
  stays_failed : (first old new : D) (step : DiskStep) (P Q R : List ℕ → Type 0) →
      ((before left : List ℕ) → P before → Unsynced step before left → Q left) → ((left : List ℕ) → Q left → R left) →
      Failed m old new step → m.faults old ≡ m.faults first → Stays m first old P R → FailedSince m first new R
  stays_failed first old new step P Q R closes gives failed stood before = record {
    cause = Rose-after (m.faults first) (m.faults old) (m.faults new) stood failed.cause;
    stays = stays_as m first new Q R R R gives (λ b r. r)
        (stays_on first old new step P Q R closes gives failed.tells failed.later failed.leaves failed.crashes before);
  }

  -- what is told now
  pub told_is : (first now : D) (P R : List ℕ → Type 0) → Stays m first now P R → IfSome (m.told now) P
  told_is first now P R s = by_told (m.told now) refl where
    by_told : (o : Option (List ℕ)) → m.told now ≡ o → IfSome o P
    by_told None e = tt
    by_told (Some b) e = s.leaves (let t : is_some (m.told first) ≡ true = sym s.tells ∙ ap is_some e in t) b ((right now).may_leave b e)

  -- ---- a file that is no image yet

  writes_on : (first old new : D) (step : DiskStep) (file : List ℕ) → KeepsFirst step →
      ((left : List ℕ) → m.may_leave new left → Inside m old step left) → Stored m old new step →
      Unfinished m first old file → Unfinished m first new (stored step file)
  writes_on first old new step file keeps leaves did before = record {
    told = told_on step file (m.told first) (m.told old) (m.told new) did.told before.told;
    stood = did.later ∙ before.stood;
    stays = stays_on first old new step IsUnsigned IsUnsigned IsNoImage (λ b left one torn. kept_first step b left keeps one torn)
        unsigned_none
        (tells_on step (m.told old) (m.told new) did.told) (let e = did.later in omega arith) leaves did.crashes before.stays;
  }

  fails_on : (first old new : D) (step : DiskStep) (file : List ℕ) → KeepsFirst step → Failed m old new step → Unfinished m first old file →
      FailedSince m first new IsNoImage
  fails_on first old new step file keeps failed before =
      stays_failed first old new step IsUnsigned IsUnsigned IsNoImage (λ b left one torn. kept_first step b left keeps one torn)
      unsigned_none failed before.stood before.stays

  -- ---- begun

  pub begin_goes : {T E : Type 0} (old new : D) (result : Result T E) → IsEmpty m old → Runs m old new (resize head_len) result →
      Goes m old new begun result
  begin_goes {T} {E} old new result empty runs = by_result result runs where
    Early : List ℕ → Type 0
    Early b = length b ≤ 64

    only : IsSome (m.told old) → (left : List ℕ) → m.may_leave old left → left ≡ []
    only some left may =
        let b = some_bytes (m.told old) some in
        let settled = empty.settled in
        let nothing : IfSome (m.told old) (λ bytes. bytes ≡ []) = empty.told in
        let none : b.0 ≡ [] = subst (λ (o : Option (List ℕ)). IfSome o (λ bytes. bytes ≡ [])) b.1 nothing in
        settled.only b.0 left b.1 may ∙ none

    before : Stays m old old (λ b. b ≡ []) IsNoImage
    before = record {
      tells = refl;
      later = omega arith;
      telling = refl;
      clock = omega arith;
      leaves = only;
      since = λ left stops is.
          let l = left_now old in
          let none = only (l.telling stops) left (l.only left stops is) in
          subst IsNoImage (sym none) (none_short [] (omega arith));
    }

    closes : (b left : List ℕ) → b ≡ [] → Unsynced (SetLen head_len) b left → length left ≤ 64
    closes b left none (inl same) = let l : length left ≡ 0 = ap (λ (xs : List ℕ). length xs) (same ∙ none) in omega arith
    closes b left none (inr torn) = let l = torn.size in omega arith

    told_begun : (o p : Option (List ℕ)) → IfSome o (λ b. b ≡ []) → p ≡ option_map (stored (SetLen head_len)) o →
        p ≡ option_map (λ b. begun) o
    told_begun None p nothing e = e
    told_begun (Some b) p nothing e = e ∙ ap (λ (xs : List ℕ). Some (resized head_len xs)) nothing

    by_result : (r : Result T E) → Runs m old new (resize head_len) r → Goes m old new begun r
    by_result (Ok x) (mid, longer, (last, synced, same)) =
        let one = stays_on old old mid (SetLen head_len) (λ b. b ≡ []) Early IsNoImage closes none_short
        (tells_on (SetLen head_len) (m.told old) (m.told mid) longer.told)
        (let e = longer.later in omega arith) longer.leaves longer.crashes before in
        let two = stays_synced old mid last Early IsNoImage none_short synced one in
        let told = told_on Sync begun (m.told old) (m.told mid) (m.told last) synced.told
        (told_begun (m.told old) (m.told mid) empty.told longer.told) in
        subst (λ (d : D). Unfinished m old d begun) (sym same)
        (record {
          told = told;
          stood = synced.later ∙ longer.later;
          stays = stays_exact old last Early IsUnsigned IsNoImage begun told synced.leaves refl two;
        })
    by_result (Err e) (inl failed) = stays_failed old old new (SetLen head_len) (λ b. b ≡ []) Early IsNoImage closes none_short failed refl
        before
    by_result (Err e) (inr (mid, longer, inl failed)) =
        let one = stays_on old old mid (SetLen head_len) (λ b. b ≡ []) Early IsNoImage closes none_short
        (tells_on (SetLen head_len) (m.told old) (m.told mid) longer.told)
        (let e = longer.later in omega arith) longer.leaves longer.crashes before in
        stays_failed old mid new Sync Early Early IsNoImage (λ b left few same. subst Early (sym same) few) none_short failed longer.later
        one
    by_result (Err e) (inr (mid, longer, inr other)) = absurd other.2

  -- ---- a segment more

  written_behind : (file cells : List ℕ) (place : ℕ) → length file ≡ place →
      stored (WriteAt place cells) (stored (SetLen (place + length cells)) file) ≡ file ++ cells
  unfolding overwritten
  written_behind file cells place long =
      let all : take (place + length cells) file ≡ file = take_all (place + length cells) file (omega arith) in
      let whole : length (resized (place + length cells) file) ≡ place + length cells = length-resized (place + length cells) file in
      let zeros : List ℕ = replicate (place + length cells - length file) 0 in
      let front : take place (resized (place + length cells) file) ≡ file =
      ap (λ (xs : List ℕ). take place (xs ++ zeros)) all ∙ take_at file zeros place long in
      let rest : drop (place + length cells) (resized (place + length cells) file) ≡ [] = drop_all (place + length cells)
      (resized (place + length cells) file) (omega arith) in
      ap (λ (xs : List ℕ). xs ++ cells ++ drop (place + length cells) (resized (place + length cells) file)) front
      ∙ ap (λ (xs : List ℕ). file ++ cells ++ xs) rest ∙ append-nil (file ++ cells)

  -- where the cells of a segment begin
  abbrev begins : ℕ → ℕ
  begins segment = head_len + cells_len * segment

  pub append_goes : {T E : Type 0} (first old new : D) (segment : ℕ) (file cells : List ℕ) (result : Result T E) →
      length file ≡ begins segment → length cells ≡ cells_len →
      Unfinished m first old file → Runs m old new (append_steps segment cells) result → Goes m first new (file ++ cells) result
  append_goes first old new segment file cells (Ok x) long size before (mid, longer, (last, wrote, same)) =
      let one = writes_on first old mid (SetLen (begins segment + cells_len)) file (omega arith) longer.leaves longer before in
      let two = writes_on first mid last (WriteAt (begins segment) cells)
      (stored (SetLen (begins segment + cells_len)) file) (omega arith) wrote.leaves wrote one in
      let at : stored (WriteAt (begins segment) cells)
      (stored (SetLen (begins segment + cells_len)) file) ≡ file ++ cells =
      ap (λ (n : ℕ). stored (WriteAt (begins segment) cells) (stored (SetLen (begins segment + n)) file)) (sym size)
      ∙ written_behind file cells (begins segment) long in
      subst (λ (d : D). Unfinished m first d (file ++ cells)) (sym same) (subst (λ (f : List ℕ). Unfinished m first last f) at two)
  append_goes first old new segment file cells (Err e) long size before (inl failed) =
      fails_on first old new (SetLen (begins segment + cells_len)) file (omega arith) failed before
  append_goes first old new segment file cells (Err e) long size before (inr (mid, longer, inl failed)) =
      let one = writes_on first old mid (SetLen (begins segment + cells_len)) file (omega arith) longer.leaves longer before in
      fails_on first mid new (WriteAt (begins segment) cells) (stored (SetLen (begins segment + cells_len)) file)
      (omega arith) failed one
  append_goes first old new segment file cells (Err e) long size before (inr (mid, longer, inr other)) = absurd other.2

  pub append_fails : (first old new : D) (segment : ℕ) (file cells : List ℕ) → length file ≡ begins segment →
      length cells ≡ cells_len → Unfinished m first old file →
      Halted m old new (append_steps segment cells) → FailedSince m first new IsNoImage
  append_fails first old new segment file cells long size before halted =
      append_goes {T = Unit {0}} {E = Unit {0}} first old new segment file cells (Err tt) long size before halted

  pub append_ran : (first old new : D) (segment : ℕ) (file cells : List ℕ) → length file ≡ begins segment →
      length cells ≡ cells_len → Unfinished m first old file →
      Ran m old new (append_steps segment cells) → Unfinished m first new (file ++ cells)
  append_ran first old new segment file cells long size before ran =
      append_goes {T = Unit {0}} {E = Unit {0}} first old new segment file cells (Ok tt) long size before ran

  -- ---- the file made empty

  pub clear_leaves : {T E : Type 0} (first old new : D) (P : List ℕ → Type 0) (result : Result T E) → ((b : List ℕ) → IsNoImage b → P b) →
      Stays m first old P P → Runs m old new (resize 0) result →
      (m.faults old ≤ m.faults new) × CrashesLeave m first new P × Cleared m old new P
  clear_leaves {T} {E} first old new P result none before runs = by_result result runs where
    closes : (b left : List ℕ) → P b → Unsynced (SetLen 0) b left → P left
    closes b left p (inl same) = subst P (sym same) p
    closes b left p (inr torn) = none left (none_short left (let l = torn.size in omega arith))

    same_left : (b left : List ℕ) → P b → left ≡ b → P left
    same_left b left p same = subst P (sym same) p

    nothing : (b : List ℕ) → resized 0 b ≡ []
    nothing b = same_lists (resized 0 b) [] (length-resized 0 b) (λ k d within. let l = length-resized 0 b in absurd (omega arith))

    told_empty : (o p : Option (List ℕ)) → p ≡ option_map (stored (SetLen 0)) o → IfSome p (λ b. b ≡ [])
    told_empty None p e = subst (λ (q : Option (List ℕ)). IfSome q (λ b. b ≡ [])) (sym e) tt
    told_empty (Some b) p e = subst (λ (q : Option (List ℕ)). IfSome q (λ c. c ≡ [])) (sym e) (nothing b)

    told_same : (o p : Option (List ℕ)) → p ≡ option_map (stored Sync) o → IfSome o (λ b. b ≡ []) → IfSome p (λ b. b ≡ [])
    told_same None p e none = subst (λ (q : Option (List ℕ)). IfSome q (λ b. b ≡ [])) (sym e) tt
    told_same (Some b) p e none = subst (λ (q : Option (List ℕ)). IfSome q (λ c. c ≡ [])) (sym e) none

    shorter : (mid : D) → Stored m old mid (SetLen 0) → Stays m first mid P P
    shorter mid cut = stays_on first old mid (SetLen 0) P P P closes (λ b p. p) (tells_on (SetLen 0) (m.told old) (m.told mid) cut.told)
        (let e = cut.later in omega arith) cut.leaves cut.crashes before

    by_result : (r : Result T E) → Runs m old new (resize 0) r → (m.faults old ≤ m.faults new) × CrashesLeave m first new P
        × Cleared m old new P
    by_result (Ok x) (mid, cut, (last, synced, same)) =
        let two = stays_synced first mid last P P (λ b p. p) synced (shorter mid cut) in
        let Q : D → Type 0 = λ d. (m.faults old ≤ m.faults d) × CrashesLeave m first d P × Cleared m old d P in
        subst Q (sym same) (
          (let a = cut.later in let b = synced.later in let c : m.faults old ≤ m.faults last = omega arith in c),
          two.since,
          inl (
            record {
              told = told_same (m.told mid) (m.told last) synced.told (told_empty (m.told old) (m.told mid) cut.told);
              settled = synced.leaves;
            },
            synced.later ∙ cut.later,
          ),
        )
    by_result (Err e) (inl failed) =
        let all = stays_on first old new (SetLen 0) P P P closes (λ b p. p) failed.tells failed.later failed.leaves failed.crashes before in
        (failed.later, all.since, inr (failed.cause, told_is first new P P all))
    by_result (Err e) (inr (mid, cut, inl failed)) =
        let all = stays_on first mid new Sync P P P same_left (λ b p. p) failed.tells failed.later failed.leaves failed.crashes
        (shorter mid cut) in (
          (let a = cut.later in let b = failed.later in let c : m.faults old ≤ m.faults new = omega arith in c),
          all.since,
          inr (Rose-after (m.faults old) (m.faults mid) (m.faults new) cut.later failed.cause, told_is first new P P all),
        )
    by_result (Err e) (inr (mid, cut, inr other)) = absurd other.2

  -- ---- the head

  module _ (n : ℕ) where
    abbrev rest : List ℕ
    rest = drop 1 (made_head true n)

    head_is : first_letter ∷ rest ≡ made_head true n
    unfolding little_endian_bytes
    head_is = refl

    abbrev unsigned : List ℕ → List ℕ
    unsigned file = overwritten file 1 rest

    abbrev signed : List ℕ → List ℕ
    signed file = overwritten (unsigned file) 0 (first_letter ∷ [])

    signed_is : (file : List ℕ) → 64 ≤ length file → signed file ≡ image_with n file
    unfolding overwritten
    signed_is file long =
        let one : length (take 1 file) ≡ 1 = length-take-le 1 file (omega arith) in
        let r = length-made-rest true n in
        let past : 1 + length rest ≡ 64 = omega arith in
        let behind : drop 1 (take 1 file ++ rest ++ drop (1 + length rest) file) ≡ rest ++ drop 64 file =
        ap (drop 1) (lists.append_assoc (take 1 file) rest (drop (1 + length rest) file))
        ∙ lists.drop_at (take 1 file) (rest ++ drop (1 + length rest) file) 1 one
        ∙ ap (λ (k : ℕ). rest ++ drop k file) past in
        ap (λ (xs : List ℕ). first_letter ∷ xs) behind
        ∙ ap (λ (xs : List ℕ). xs ++ drop 64 file) head_is

    first_is : (file : List ℕ) → slice_index (signed file) 0 ≡ first_letter
    unfolding overwritten
    first_is file = refl

    torn_first : (file left : List ℕ) → 64 ≤ length file → TornRange 0 1 (unsigned file) left → IsNoneOr (image_with n file) left
    torn_first file left long torn = by_first (slice_index left 0 == first_letter) refl
      where
        size : length (unsigned file) ≡ length file
        size = let r = length-made-rest true n in let o = OnlyIn-written 1 file rest (omega arith) in o.size

        now : OnlyIn 0 1 (unsigned file) left
        now = OnlyIn-torn 0 1 (unsigned file) left torn

        later : OnlyIn 0 1 (unsigned file) (signed file)
        later = let s = size in OnlyIn-written 0 (unsigned file) (first_letter ∷ []) (omega arith)

        at : slice_index left 0 ≡ first_letter → (k : ℕ) → get_or left k 0 ≡ get_or (signed file) k 0
        at first zero = first ∙ sym (first_is file)
        at first (suc k) = let a = now in let b = later in a.above (suc k) (omega arith) ∙ sym (b.above (suc k) (omega arith))

        is : slice_index left 0 ≡ first_letter → left ≡ signed file
        is first =
            let a = now in
            let b = later in
            same_lists left (signed file) (a.size ∙ sym b.size) (λ k d within.
            get_or_default left k d 0 within ∙ at first k ∙ get_or_default (signed file) k 0 d
            (let s = a.size in let t = b.size in omega arith))

        by_first : (holds : Bool) → (slice_index left 0 == first_letter) ≡ holds → IsNoneOr (image_with n file) left
        by_first false e = inl (none-by-first left e)
        by_first true e = inr (is (eqb-true (slice_index left 0) first_letter e) ∙ signed_is file long)

    pub sign_ends : {T E : Type 0} (first old new : D) (file : List ℕ) (result : Result T E) → 64 ≤ length file →
        Unfinished m first old file → Runs m old new (sign_steps true n) result →
        Ends m first new (image_with n file) result
    sign_ends {T} {E} first old new file result long before runs = by_result result runs where
      none_or : (b : List ℕ) → IsNoImage b → IsNoneOr (image_with n file) b
      none_or b none = inl none

      written : (mid : D) → Stored m old mid (WriteAt 1 rest) → Unfinished m first mid (unsigned file)
      written mid wrote = writes_on first old mid (WriteAt 1 rest) file (omega arith) wrote.leaves wrote before

      told_synced : (mid next : D) → Stored m old mid (WriteAt 1 rest) → Stored m mid next Sync →
          m.told next ≡ option_map (λ b. unsigned file) (m.told first)
      told_synced mid next wrote synced = told_on Sync (unsigned file) (m.told first) (m.told mid) (m.told next) synced.told
          (let u = written mid wrote in u.told)

      stood_synced : (mid next : D) → Stored m old mid (WriteAt 1 rest) → Stored m mid next Sync → m.faults next ≡ m.faults first
      stood_synced mid next wrote synced = synced.later ∙ wrote.later ∙ before.stood

      settled : (mid next : D) → Stored m old mid (WriteAt 1 rest) → Stored m mid next Sync → Stays m first next (λ b. b ≡ unsigned file)
          (IsNoneOr (image_with n file))
      settled mid next wrote synced =
          let u = written mid wrote in
          let s = stays_synced first mid next IsUnsigned IsNoImage unsigned_none synced u.stays in
          stays_as m first next (λ b. b ≡ unsigned file) (λ b. b ≡ unsigned file) IsNoImage (IsNoneOr (image_with n file))
          (λ b e. e) none_or
          (stays_exact first next IsUnsigned (λ b. b ≡ unsigned file) IsNoImage (unsigned file)
          (told_synced mid next wrote synced) synced.leaves refl s)

      closes : (b left : List ℕ) → b ≡ unsigned file → Unsynced (WriteAt 0 (first_letter ∷ [])) b left → IsNoneOr (image_with n file) left
      closes b left same torn = torn_first file left long (subst (λ (c : List ℕ). TornRange 0 1 c left) same torn)

      same_left : (b left : List ℕ) → IsNoneOr (image_with n file) b → left ≡ b → IsNoneOr (image_with n file) left
      same_left b left p same = subst (IsNoneOr (image_with n file)) (sym same) p

      by_result : (r : Result T E) → Runs m old new (sign_steps true n) r → Ends m first new (image_with n file) r
      by_result (Ok x) (mid, wrote, (next, synced, (third, signs, (last, ended, same)))) =
          let three = stays_on first next third (WriteAt 0 (first_letter ∷ [])) (λ b. b ≡ unsigned file) (IsNoneOr (image_with n file))
          (IsNoneOr (image_with n file)) closes (λ b p. p)
          (tells_on (WriteAt 0 (first_letter ∷ [])) (m.told next) (m.told third) signs.told)
          (let e = signs.later in omega arith) signs.leaves signs.crashes (settled mid next wrote synced) in
          let four = stays_synced first third last (IsNoneOr (image_with n file)) (IsNoneOr (image_with n file)) (λ b p. p) ended three in
          let told = told_on Sync (signed file) (m.told first) (m.told third) (m.told last) ended.told
          (told_on (WriteAt 0 (first_letter ∷ [])) (unsigned file) (m.told first) (m.told next) (m.told third) signs.told
          (told_synced mid next wrote synced)) in
          subst (λ (d : D). Finished m first d (image_with n file)) (sym same) (record {
            told = told ∙ ap (λ (f : List ℕ). option_map (λ b. f) (m.told first)) (signed_is file long);
            stood = ended.later ∙ signs.later ∙ stood_synced mid next wrote synced;
            settled = ended.leaves;
            since = four.since;
          })
      by_result (Err e) (inl failed) = weaker (fails_on first old new (WriteAt 1 rest) file (omega arith) failed before)
        where
          weaker : FailedSince m first new IsNoImage → FailedSince m first new (IsNoneOr (image_with n file))
          weaker f = record {
            cause = f.cause;
            stays = stays_as m first new IsNoImage (IsNoneOr (image_with n file)) IsNoImage
                (IsNoneOr (image_with n file)) none_or none_or f.stays;
          }
      by_result (Err e) (inr (mid, wrote, inl failed)) = weaker (fails_on first mid new Sync (unsigned file) tt failed (written mid wrote))
        where
          weaker : FailedSince m first new IsNoImage → FailedSince m first new (IsNoneOr (image_with n file))
          weaker f = record {
            cause = f.cause;
            stays = stays_as m first new IsNoImage (IsNoneOr (image_with n file)) IsNoImage
                (IsNoneOr (image_with n file)) none_or none_or f.stays;
          }
      by_result (Err e) (inr (mid, wrote, inr (next, synced, inl failed))) =
          stays_failed first next new (WriteAt 0 (first_letter ∷ [])) (λ b. b ≡ unsigned file) (IsNoneOr (image_with n file))
          (IsNoneOr (image_with n file)) closes (λ b p. p) failed (stood_synced mid next wrote synced) (settled mid next wrote synced)
      by_result (Err e) (inr (mid, wrote, inr (next, synced, inr (third, signs, inl failed)))) =
          let three = stays_on first next third (WriteAt 0 (first_letter ∷ [])) (λ b. b ≡ unsigned file) (IsNoneOr (image_with n file))
          (IsNoneOr (image_with n file)) closes (λ b p. p)
          (tells_on (WriteAt 0 (first_letter ∷ [])) (m.told next) (m.told third) signs.told)
          (let e = signs.later in omega arith) signs.leaves signs.crashes (settled mid next wrote synced) in
          stays_failed first third new Sync (IsNoneOr (image_with n file)) (IsNoneOr (image_with n file))
          (IsNoneOr (image_with n file)) same_left (λ b p. p) failed (signs.later ∙ stood_synced mid next wrote synced) three
      by_result (Err e) (inr (mid, wrote, inr (next, synced, inr (third, signs, inr (last, ended, other))))) = absurd other

-- a call's answer
pub goes_err : {D T E : Type 0} (m : Meaning D) (first now : D) (file : List ℕ) (result : Result T E) (e : E) → result ≡ Err e →
    FailedSince m first now IsNoImage → Goes m first now file result
goes_err m first now file (Ok x) e same failed = cc
goes_err m first now file (Err x) e same failed = failed

pub ends_err : {D T E : Type 0} (m : Meaning D) (first now : D) (image : List ℕ) (result : Result T E) (e : E) → result ≡ Err e →
    FailedSince m first now (IsNoneOr image) → Ends m first now image result
ends_err m first now image (Ok x) e same failed = cc
ends_err m first now image (Err x) e same failed = failed

pub none_or : {D : Type 0} (m : Meaning D) (first now : D) (image : List ℕ) → FailedSince m first now IsNoImage →
    FailedSince m first now (IsNoneOr image)
none_or m first now image failed = record {
  cause = failed.cause;
  stays = stays_as m first now IsNoImage (IsNoneOr image) IsNoImage
      (IsNoneOr image) (λ b none. inl none) (λ b none. inl none) failed.stays;
}
