-- What the writes of a new image make of the cartridge, at the end and in a crash.
use Rattle.std.proofs.Common.{◌≡◌, ℕ, zero, suc, ◌+◌, ◌*◌, ◌-◌, ◌/◌, ◌%◌, ◌<◌, ◌≤◌, ◌⊎◌, inl, inr, ⊎_elim, Bool, true, false, List, [], ◌∷◌}
use Rattle.std.proofs.Common.{◌++◌, length, get_or, take, drop, replicate, refl, sym, ◌∙◌, ap, arith, Option, Some, None, subst}
use Rattle.std.specs.Prelude.{slice_index, slice_range, ◌==◌, if◌then◌else◌, unwrap_or}
use Rattle.std.proofs.lemmas.Slice.Eq.{bytes_eq-Decides}
use Rattle.std.proofs.lemmas.Bool.{cases_lt, eqb-true, eq-eqb, le-leb}
use Rattle.std.proofs.lemmas.List.{same_lists, length-replicate, get_or-replicate, get_or_past, length-take, length-append, length-drop}
use Rattle.std.proofs.lemmas.List.{get_or-take, get_or-drop, get_or_append_left, get_or-append_right, get_or_default}
use Rattle.std.proofs.lemmas.List.Edits.{length-between, get_or-between}
use Rattle.std.proofs.lemmas.Option.{unwrap_or-slice_get}
use Rattle.qic_base.specs.declared.tape.SectorView.{SectorView}
use Rattle.qic_base.specs.declared.tape.SectorView.TheVariants.{Blank}
use Rattle.qic_base.specs.declared.TheConstants.{LONGEST}
use Rattle.qic_base.specs.Cartridge.{Cartridge, IsLength, new_cartridge}
use Rattle.qic_base.specs.Disk.{DiskStep, TornRange, TornLength, resized}
use Rattle.qic_base.specs.Field.{little_endian_bytes, number_at, overwritten}
use Rattle.qic_base.specs.Step.{Renew, effect, Torn}
use Rattle.qic_base.proofs.FieldLaws.{get_or-overwritten, length-overwritten}
use Rattle.cart_image.specs.declared.layout.Head.{Head}
use Rattle.cart_image.specs.declared.layout.Kind.TheVariants.{Cells}
use Rattle.cart_image.specs.declared.layout.Layout.{Layout}
use Rattle.cart_image.specs.declared.layout.Part.TheVariants.{FormedByte, DefectByte}
use Rattle.cart_image.specs.Layout.{signature, first_letter, head_len, sectors, image_len, place, made_head, put, resize, renew_steps}
use Rattle.cart_image.specs.Image.{read_len, layout_by, head_by, head_of, view_by, view_in, views_in, cartridge_of, layout_of}
use Rattle.cart_image.specs.Run.{after_steps, Crashed}
use Rattle.cart_image.specs.Whole.{head_of-parts, cartridge_of-read, cartridge_of-none, layout_of-read, length-views}
use Rattle.cart_image.proofs.Carries.{Means}
use Rattle.cart_image.proofs.Bytes.{OnlyIn, OnlyIn-torn, OnlyIn-written, view_in-is}
use Rattle.cart_image.proofs.Changes.{get_or-views}
use Rattle.cart_image.proofs.Sectors.{Crashed-put, byte-written}

-- bytes of no image

pub none-by-first : (bytes : List ℕ) → (slice_index bytes 0 == first_letter) ≡ false → cartridge_of bytes ≡ None
none-by-first bytes other = by_head (head_of bytes) refl
  where
    by_head : (o : Option Head) → head_of bytes ≡ o → cartridge_of bytes ≡ None
    by_head None is = cartridge_of-none bytes is
    by_head (Some h) is =
        let p = head_of-parts bytes h is in
        let f = p.fits in
        let long = f.long in
        let short = f.shortest in
        let e : slice_range (slice_range bytes 0 read_len) 0 8 ≡ signature =
        (bytes_eq-Decides (slice_range (slice_range bytes 0 read_len) 0 8) signature).0 p.signed in
        let n = length-between bytes 0 24 (omega arith) in
        let q : slice_index bytes 0 ≡ first_letter =
        sym (get_or-between (slice_range bytes 0 read_len) 0 8 0 0 (omega arith) ∙ get_or-between bytes 0 24 0 0 (omega arith))
        ∙ ap (λ xs. slice_index xs 0) e in
        let holds : (slice_index bytes 0 == first_letter) ≡ true = eq-eqb (slice_index bytes 0) first_letter q in cc

none-by-length : (bytes : List ℕ) → length bytes ≡ 64 → cartridge_of bytes ≡ None
none-by-length bytes short = by_head (head_of bytes) refl
  where
    by_head : (o : Option Head) → head_of bytes ≡ o → cartridge_of bytes ≡ None
    by_head None is = cartridge_of-none bytes is
    by_head (Some h) is =
        let f = (head_of-parts bytes h is).fits in
        let long = f.long in
        let least = f.shortest in
        absurd (omega arith)

-- a new length

pub length-resized : (n : ℕ) (bytes : List ℕ) → length (resized n bytes) ≡ n
length-resized n bytes =
    let a = length-append (take n bytes) (replicate (n - length bytes) 0) in
    let t = length-take n bytes in
    let r : length (replicate (n - length bytes) 0) ≡ n - length bytes = length-replicate {A = ℕ} (n - length bytes) 0 in
    omega (arith, a, t, r)

pub get_or-resized : (n : ℕ) (bytes : List ℕ) (k : ℕ) → k < n → get_or (resized n bytes) k 0 ≡ get_or bytes k 0
get_or-resized n bytes k less =
    let t = length-take n bytes in
    ⊎_elim
    (λ inside. get_or_append_left (take n bytes) (replicate (n - length bytes) 0) 0 k (omega arith) ∙ get_or-take n bytes k 0 less)
    (λ past.
    get_or-append_right (take n bytes) (replicate (n - length bytes) 0) (length bytes) k 0 (omega arith) past
    ∙ get_or-replicate (n - length bytes) (k - length bytes) 0 0 (omega arith)
    ∙ sym (get_or_past bytes k 0 past)) (cases_lt k (length bytes))

-- a crash in a new length, or behind it
pub Crashed-resize : (n : ℕ) (bytes left : List ℕ) (rest : List DiskStep) → Crashed (λ b. b ≡ bytes) bytes (resize n ++ rest) left
    → (left ≡ bytes) ⊎ TornLength n bytes left ⊎ Crashed (λ b. b ≡ resized n bytes) (resized n bytes) rest left
Crashed-resize n bytes left rest (inl inside) = by_torn inside.0 inside.1 inside.2
  where
    by_torn : (before : List ℕ) → before ≡ bytes → (left ≡ before) ⊎ TornLength n before left → (left ≡ bytes) ⊎ TornLength n bytes left
        ⊎ Crashed (λ b. b ≡ resized n bytes) (resized n bytes) rest left
    by_torn before same (inl old) = inl (old ∙ same)
    by_torn before same (inr torn) = inr (inl (subst (λ b. TornLength n b left) same torn))
Crashed-resize n bytes left rest (inr (inl synced)) = by_torn synced.0 synced.1.0 synced.1.1 synced.1.2 synced.2
  where
    by_torn : (at before : List ℕ) → before ≡ bytes → (at ≡ before) ⊎ TornLength n before at → left ≡ at → (left ≡ bytes)
        ⊎ TornLength n bytes left ⊎ Crashed (λ b. b ≡ resized n bytes) (resized n bytes) rest left
    by_torn at before same (inl old) is = inl (is ∙ old ∙ same)
    by_torn at before same (inr torn) is =
        let P : List ℕ → Type 0 = λ l. TornLength n bytes l in
        inr (inl (subst P (sym is) (subst (λ b. TornLength n b at) same torn)))
Crashed-resize n bytes left rest (inr (inr behind)) = inr (inr behind)

-- the head of an image that is made

pub length-made : (referenced : Bool) (n : ℕ) → length (made_head referenced n) ≡ 64
unfolding little_endian_bytes
length-made referenced n = refl

pub length-made-rest : (referenced : Bool) (n : ℕ) → length (drop 1 (made_head referenced n)) ≡ 63
length-made-rest referenced n = let l = length-drop 1 (made_head referenced n) in let h = length-made referenced n in omega arith

number : (n : ℕ) → IsLength n → n % 256 + 256 * (n / 256 % 256 + 256 * 0) ≡ n
number n long = let h = long.longest in omega arith

pub made-told : (referenced : Bool) (n : ℕ) → IsLength n → head_by (image_len n) (slice_range (made_head referenced n) 0 read_len)
    ≡ Some (record { layout = record { segments_per_track = n; kind = Cells }; protected = false; referenced = referenced })
unfolding layout_by little_endian_bytes number_at
made-told true n long =
    let least = le-leb 3 n long.shortest in
    let most = le-leb n LONGEST long.longest in
    let fits = le-leb (image_len n) (image_len n) (omega arith) in
    rw (number n long, least, most, fits) refl
made-told false n long =
    let least = le-leb 3 n long.shortest in
    let most = le-leb n LONGEST long.longest in
    let fits = le-leb (image_len n) (image_len n) (omega arith) in
    rw (number n long, least, most, fits) refl

-- the new image

module _ (n : ℕ) (long : IsLength n) where
  abbrev whole : ℕ
  whole = image_len n

  abbrev head : List ℕ
  head = made_head false n

  abbrev tail_steps : List DiskStep
  tail_steps = resize head_len ++ (resize whole ++ (put 1 (drop 1 head) ++ put 0 (first_letter ∷ [])))

  -- bytes that are the new image
  record IsNew (bytes : List ℕ) : Type 0 where
    size : length bytes ≡ whole
    at_head : (k : ℕ) → k < 64 → slice_index bytes k ≡ slice_index head k
    behind : (k : ℕ) → 64 ≤ k → slice_index bytes k ≡ 0

  abbrev new_layout : Layout
  new_layout = record { segments_per_track = n; kind = Cells }

  abbrev new_told : Head
  new_told = record { layout = new_layout; protected = false; referenced = false }

  new-head : (bytes : List ℕ) → IsNew bytes → slice_range bytes 0 read_len ≡ slice_range head 0 read_len
  new-head bytes new =
      let s = new.size in
      let h = length-made false n in
      let a = length-between bytes 0 24 (omega arith) in
      let b = length-between head 0 24 (omega arith) in
      same_lists _ _ (a ∙ sym b) (λ k d less.
      let zero_k : 0 + k ≡ k = omega arith in
      get_or-between bytes 0 24 k d (omega arith) ∙ get_or_default bytes (0 + k) d 0 (omega arith)
      ∙ ap (slice_index bytes) zero_k ∙ new.at_head k (omega arith) ∙ ap (slice_index head) (sym zero_k)
      ∙ get_or_default head (0 + k) 0 d (omega arith) ∙ sym (get_or-between head 0 24 k d (omega arith)))

  new-views : (bytes : List ℕ) → IsNew bytes → views_in new_layout bytes ≡ replicate (896 * n) Blank
  new-views bytes new =
      same_lists _ _ (length-views new_layout bytes ∙ sym (length-replicate (896 * n) Blank)) (λ k d less.
      let there : k < sectors n = let v = length-views new_layout bytes in omega arith in
      get_or-views new_layout bytes k d there ∙ blank k there ∙ sym (get_or-replicate (896 * n) k Blank d there))
    where
      by_bytes : (d f g : ℕ) (s : List ℕ) → d ≡ 0 → f ≡ 0 → view_by d f g s ≡ Blank
      by_bytes d f g s p q = rw (p, q) refl

      blank : (k : ℕ) → k < sectors n → view_in new_layout bytes k ≡ Blank
      blank k there = view_in-is new_layout bytes k ∙ by_bytes _ _ _ _ (new.behind (place new_layout DefectByte k) (omega arith))
          (new.behind (place new_layout FormedByte k) (omega arith))

  head-new : (bytes : List ℕ) → IsNew bytes → head_of bytes ≡ Some new_told
  unfolding head_of
  head-new bytes new = ap (λ len. head_by len (slice_range bytes 0 read_len)) new.size ∙ ap (head_by whole) (new-head bytes new)
      ∙ made-told false n long

  reads-new : (bytes : List ℕ) → IsNew bytes → cartridge_of bytes ≡ Some (new_cartridge n)
  reads-new bytes new =
      cartridge_of-read bytes new_told (head-new bytes new)
      ∙ ap (λ (vs : List SectorView). Some
      (record { info = record { segments_per_track = n; protected = false; referenced = false }; version = 2; views = vs }))
      (new-views bytes new)

  module _ (b0 : List ℕ) (other : (slice_index b0 0 == first_letter) ≡ false) where
    abbrev b5 : List ℕ
    b5 = resized head_len b0

    abbrev b6 : List ℕ
    b6 = resized whole b5

    abbrev b7 : List ℕ
    b7 = overwritten b6 1 (drop 1 head)

    abbrev b8 : List ℕ
    b8 = overwritten b7 0 (first_letter ∷ [])

    length5 : length b5 ≡ 64
    length5 = length-resized 64 b0

    length6 : length b6 ≡ whole
    length6 = length-resized whole b5

    length7 : length b7 ≡ whole
    length7 = let l = length6 in let p = length-made-rest false n in length-overwritten b6 (drop 1 head) 1 (omega arith) ∙ length6

    length8 : length b8 ≡ whole
    length8 = let l = length7 in length-overwritten b7 (first_letter ∷ []) 0 (omega arith) ∙ length7

    first5 : (slice_index b5 0 == first_letter) ≡ false
    first5 = ap (λ b. b == first_letter) (get_or-resized 64 b0 0 (omega arith)) ∙ other

    first6 : (slice_index b6 0 == first_letter) ≡ false
    first6 = ap (λ b. b == first_letter) (get_or-resized whole b5 0 (omega arith)) ∙ first5

    zero6 : (k : ℕ) → 64 ≤ k → slice_index b6 k ≡ 0
    zero6 k more =
        let l5 = length5 in
        let l6 = length6 in
        ⊎_elim (λ less. get_or-resized whole b5 k less ∙ get_or_past b5 k 0 (omega arith)) (λ past. get_or_past b6 k 0 (omega arith))
        (cases_lt k whole)

    only8 : OnlyIn 0 1 b7 b8
    only8 = let l = length7 in OnlyIn-written 0 b7 (first_letter ∷ []) (omega arith)

    new8 : IsNew b8
    new8 = record {
      size = length8;
      at_head = λ k less. at k less;
      behind = λ k more.
          let l = length6 in
          let p = length-made-rest false n in
          let o = OnlyIn-written 1 b6 (drop 1 head) (omega arith) in
          let o8 = only8 in
          o8.above k (omega arith) ∙ o.above k (omega arith) ∙ zero6 k more;
    }
      where
        at : (k : ℕ) → k < 64 → slice_index b8 k ≡ slice_index head k
        at zero less = byte-written b7 0 first_letter (omega arith)
        at (suc k) less =
            let l = length6 in
            let p = length-made-rest false n in
            let o8 = only8 in
            let there : suc k ≡ 1 + k = omega arith in
            o8.above (suc k) (omega arith) ∙ ap (slice_index b7) there ∙ get_or-overwritten b6 (drop 1 head) 1 k 0 (omega arith)
            (omega arith)
            ∙ get_or-drop 1 head k 0 ∙ ap (slice_index head) (sym there)

    none-torn : (bytes left : List ℕ) (m : ℕ) → (slice_index bytes 0 == first_letter) ≡ false → 0 < m → 0 < length bytes →
        TornLength m bytes left → cartridge_of left ≡ None
    none-torn bytes left m not_first some there torn =
        none-by-first left (ap (λ b. b == first_letter)
        (sym (unwrap_or-slice_get left 0 0) ∙ ap (λ (o : Option ℕ). unwrap_or o 0) (torn.kept 0 some there)
        ∙ unwrap_or-slice_get bytes 0 0) ∙ not_first)

    -- the same bytes, but for the first
    torn-first : (left : List ℕ) → TornRange 0 1 b7 left → (cartridge_of left ≡ None) ⊎ (cartridge_of left ≡ Some (new_cartridge n))
    torn-first left torn = by_first (slice_index left 0 == first_letter) refl
      where
        only : OnlyIn 0 1 b7 left
        only = OnlyIn-torn 0 1 b7 left torn

        is-new : slice_index left 0 ≡ first_letter → IsNew left
        is-new first =
            let o = only in
            let new = new8 in
            let o8 = only8 in
            record {
              size = o.size ∙ length7;
              at_head = λ k less. at k less;
              behind = λ k more. o.above k (omega arith) ∙ sym (o8.above k (omega arith)) ∙ new.behind k more;
            }
          where
            at : (k : ℕ) → k < 64 → slice_index left k ≡ slice_index head k
            at zero less = first
            at (suc k) less = let o = only in let new = new8 in let o8 = only8 in
                o.above (suc k) (omega arith) ∙ sym (o8.above (suc k) (omega arith)) ∙ new.at_head (suc k) less

        by_first : (holds : Bool) → (slice_index left 0 == first_letter) ≡ holds → (cartridge_of left ≡ None)
            ⊎ (cartridge_of left ≡ Some (new_cartridge n))
        by_first false is = inl (none-by-first left is)
        by_first true is = inr (reads-new left (is-new (eqb-true (slice_index left 0) first_letter is)))

    tail-done : cartridge_of (after_steps tail_steps b0) ≡ Some (new_cartridge n)
    tail-done = reads-new b8 new8

    tail-laid : layout_of (after_steps tail_steps b0) ≡ Some new_layout
    tail-laid = layout_of-read b8 new_told (head-new b8 new8)

    tail-torn : (left : List ℕ) → Crashed (λ b. b ≡ b0) b0 tail_steps left → (cartridge_of left ≡ None)
        ⊎ (cartridge_of left ≡ Some (new_cartridge n))
    tail-torn left crashed =
        elim (Crashed-resize head_len b0 left (resize whole ++ (put 1 (drop 1 head) ++ put 0 (first_letter ∷ []))) crashed) [
          | inl same ↦ inl (ap cartridge_of same ∙ none-by-first b0 other)
          | inr (inl torn) ↦ inl (none-by-length left torn.size)
          | inr (inr later) ↦ elim (Crashed-resize whole b5 left (put 1 (drop 1 head) ++ put 0 (first_letter ∷ [])) later) [
            | inl same ↦ inl (ap cartridge_of same ∙ none-by-first b5 first5)
            | inr (inl torn) ↦ inl (let l = length5 in none-torn b5 left whole first5 (omega arith) (omega arith) torn)
            | inr (inr later2) ↦ elim (Crashed-put 1 (drop 1 head) b6 left (put 0 (first_letter ∷ [])) later2) [
              | inl torn ↦ inl (let o = OnlyIn-torn _ _ _ _ torn in
                  none-by-first left (ap (λ b. b == first_letter) (o.below 0 (omega arith)) ∙ first6))
              | inr later3 ↦ elim (Crashed-put 0 (first_letter ∷ []) b7 left [] later3) [
                | inl torn ↦ torn-first left torn
                | inr none ↦ absurd none
              ]
            ]
          ]
        ]

  effect-renew : (held : Option Cartridge) → effect (Renew n) held ≡ Some (new_cartridge n)
  effect-renew None = refl
  effect-renew (Some c) = refl

  ends : (bytes left : List ℕ) → (cartridge_of left ≡ None) ⊎ (cartridge_of left ≡ Some (new_cartridge n)) →
      Torn (Renew n ∷ []) (cartridge_of bytes) (cartridge_of left)
  ends bytes left (inl none) = inr (inl none)
  ends bytes left (inr new) = inr (inr (new ∙ sym (effect-renew (cartridge_of bytes))))

  -- an image's first byte, torn
  clear-torn : (bytes left : List ℕ) → (slice_index bytes 0 == first_letter) ≡ true → TornRange 0 1 bytes left →
      Torn (Renew n ∷ []) (cartridge_of bytes) (cartridge_of left)
  clear-torn bytes left first torn = by_first (slice_index left 0 == first_letter) refl
    where
      same : slice_index left 0 ≡ first_letter → left ≡ bytes
      same now =
          let o = OnlyIn-torn 0 1 bytes left torn in
          same_lists _ _ o.size (λ k d less. get_or_default left k d 0 less ∙ at k
          ∙ get_or_default bytes k 0 d (let s = o.size in omega arith))
        where
          at : (k : ℕ) → slice_index left k ≡ slice_index bytes k
          at zero = now ∙ sym (eqb-true (slice_index bytes 0) first_letter first)
          at (suc k) = let o = OnlyIn-torn 0 1 bytes left torn in o.above (suc k) (omega arith)

      by_first : (holds : Bool) → (slice_index left 0 == first_letter) ≡ holds → Torn (Renew n ∷ []) (cartridge_of bytes)
          (cartridge_of left)
      by_first true is = inl (ap cartridge_of (same (eqb-true (slice_index left 0) first_letter is)))
      by_first false is = inr (inl (none-by-first left is))

  abbrev with-first : (q : Bool) → List DiskStep
  with-first q = (if q then put 0 (0 ∷ []) else []) ++ tail_steps

  renew-by : (bytes : List ℕ) (q : Bool) → (slice_index bytes 0 == first_letter) ≡ q → Means (with-first q) (Renew n ∷ []) bytes
  renew-by bytes false is = record {
    done = tail-done bytes is ∙ sym (effect-renew (cartridge_of bytes));
    torn = λ left crashed. ends bytes left (tail-torn bytes is left crashed);
  }
  renew-by bytes true is =
      let zero_first : (slice_index (overwritten bytes 0 (0 ∷ [])) 0 == first_letter) ≡ false = ap (λ b. b == first_letter)
      (byte-written bytes 0 0 (omega arith)) in
      record {
        done = tail-done (overwritten bytes 0 (0 ∷ [])) zero_first ∙ sym (effect-renew (cartridge_of bytes));
        torn = λ left crashed.
            elim (Crashed-put 0 (0 ∷ []) bytes left tail_steps crashed) [
              | inl torn ↦ clear-torn bytes left is torn
              | inr later ↦ ends bytes left (tail-torn (overwritten bytes 0 (0 ∷ [])) zero_first left later)
            ];
      }

  -- the call leaves a new cartridge, and a crash in it the old one, none, or the new one
  pub renew-means : (bytes : List ℕ) → Means (renew_steps n (slice_index bytes 0)) (Renew n ∷ []) bytes
  unfolding renew_steps
  renew-means bytes = renew-by bytes (slice_index bytes 0 == first_letter) refl

  -- .. in the layout of new ones
  laid-by : (bytes : List ℕ) (q : Bool) → (slice_index bytes 0 == first_letter) ≡ q →
      layout_of (after_steps (with-first q) bytes) ≡ Some new_layout
  laid-by bytes false is = tail-laid bytes is
  laid-by bytes true is = tail-laid (overwritten bytes 0 (0 ∷ [])) (ap (λ b. b == first_letter) (byte-written bytes 0 0 (omega arith)))

  pub renew-laid : (bytes : List ℕ) → layout_of (after_steps (renew_steps n (slice_index bytes 0)) bytes) ≡ Some
      (record { segments_per_track = n; kind = Cells })
  unfolding renew_steps
  renew-laid bytes = laid-by bytes (slice_index bytes 0 == first_letter) refl
