-- A copy that goes on behind some of the missing volumes.
use Rattle.std.proofs.Common.{◌≡◌, ℕ, zero, suc, ◌+◌, ◌-◌, ◌≤◌, ◌==◌, ◌&&◌, arith, Bool, true, false, cond, List, [], ◌∷◌, ◌++◌}
use Rattle.std.proofs.Common.{length, take, drop, Some, None, refl, sym, ap, ◌∙◌, subst, eq-eqb, length-append, length-drop}
use Rattle.std.specs.Str.{bytes_eq}
use Rattle.std.proofs.lemmas.List.{length-map, length-take-le, map-append}
use Rattle.std.proofs.lemmas.Slice.Eq.{bytes_eq-Decides}
use Rattle.cartridge_laws.proofs.AppendBytes.{done_bytes}
use Rattle.cartridge_laws.specs.AppendLaws.{new_volume, with_content, MayAppendTo}
use Rattle.cartridge_spec.specs.Appending.{Content, has_room, with_all}
use Rattle.cartridge_spec.specs.Volumes.{Plain, Stands, Volume, entries_of, volume_length}
use Rattle.cartridge_spec.specs.Table.{Entry}
use Rattle.command_laws.proofs.CopyGiven.{content_of, given_long, given_may, given_of, with_entry}
use Rattle.command_laws.proofs.CopyValues.{HasValues}
use Rattle.command_laws.specs.CopyLaws.{CopyGoesOn}
use Rattle.command_spec.specs.Copied.{contents_of, copied, missing_contents}
use Rattle.command_spec.specs.CopyGiven.{ListsLike, missing_on}
use Rattle.command_spec.specs.Copying.{Side, difference, is_alike}
use Rattle.qic_base.specs.Cartridge.{Cartridge}
use Rattle.qic_base.specs.CartridgeTerms.{IsCartridge}

-- ---- the volumes that both have

-- those of the first list that begins like the second are no fewer
pub like_within : (words : List ℕ) (es : List Entry) (words' : List ℕ) (fs : List Entry) (number : ℕ) →
    difference words es words' fs number ≡ None → length fs ≤ length es
like_within words es words' [] number like = omega arith
like_within words [] words' (f ∷ fs) number like = absurd (cc)
like_within words (e ∷ es) words' (f ∷ fs) number like =
    by_first (is_alike words e words' f) (λ rest. like_within words es words' fs (number + 1) rest) like
  where
    by_first : (b : Bool) → (difference words es words' fs (number + 1) ≡ None → length fs ≤ length es) →
        cond b (difference words es words' fs (number + 1)) (Some number) ≡ None → length (f ∷ fs) ≤ length (e ∷ es)
    by_first true more rest = (let few = more rest in omega arith)
    by_first false more rest = absurd (cc)

-- one more is like the next one
like_more : (words : List ℕ) (es : List Entry) (words' : List ℕ) (fs : List Entry) (number : ℕ) (e : Entry) (rest : List Entry)
    (f : Entry) →
    difference words es words' fs number ≡ None → drop (length fs) es ≡ e ∷ rest → is_alike words e words' f ≡ true →
    difference words es words' (fs ++ f ∷ []) number ≡ None
like_more words es words' [] number e rest f like next alike =
    ap (λ (xs : List Entry). difference words xs words' (f ∷ []) number) next
    ∙ ap (λ (b : Bool). cond b None (Some number)) alike
like_more words [] words' (x ∷ fs) number e rest f like next alike = absurd (cc)
like_more words (y ∷ es) words' (x ∷ fs) number e rest f like next alike =
    by_first (is_alike words y words' x) (λ behind. like_more words es words' fs (number + 1) e rest f behind next alike) like
  where
    by_first : (b : Bool) → (difference words es words' fs (number + 1) ≡ None → difference words es words' (fs ++ f ∷ [])
        (number + 1) ≡ None) →
        cond b (difference words es words' fs (number + 1)) (Some number) ≡ None →
        cond b (difference words es words' (fs ++ f ∷ []) (number + 1)) (Some number) ≡ None
    by_first true more behind = more behind
    by_first false more behind = absurd (cc)

-- the volumes behind those that both have
abbrev pub behind : (one other : Plain) → List Volume
behind one other = drop (length other.volumes) one.volumes

drop_next : {X : Type 0} (n : ℕ) (xs : List X) (x : X) (rest : List X) → drop n xs ≡ x ∷ rest → drop (n + 1) xs ≡ rest
drop_next zero [] x rest is = absurd (cc)
drop_next zero (y ∷ xs) x rest is = (cc)
drop_next (suc n) [] x rest is = absurd (cc)
drop_next (suc n) (y ∷ xs) x rest is =
    let same : suc (n + 1) ≡ suc n + 1 = omega arith in
    subst (λ (m : ℕ). drop m (y ∷ xs) ≡ rest) same (drop_next n xs x rest is)

-- with the next one of them the target is like the source, too
module _ (from : Side) (e : Entry) (values : HasValues e) (p : Plain) where
  abbrev bytes : List ℕ
  bytes = given_of from e

  abbrev next : Plain
  next = with_entry from p e

  pub next_missing : (rest : List Entry) → missing_on from p ≡ e ∷ rest → missing_on from next ≡ rest
  next_missing rest is =
      ap (λ (n : ℕ). drop n from.entries) (length-append p.volumes (new_volume p (content_of from e) ∷ []))
      ∙ drop_next (length p.volumes) from.entries e rest is

  same_name : bytes_eq e.name e.name ≡ true
  same_name = (bytes_eq-Decides e.name e.name).1 refl

  next_alike : (d : Cartridge) → IsCartridge d → Stands d p → has_room p (length bytes) ≡ true →
      is_alike from.words e p.words (new_volume p (content_of from e)).entry ≡ true
  next_alike d whole stands room =
      let may : MayAppendTo d p (content_of from e) =
      record { cartridge = whole; stands = stands; room = room; appendable = given_may from e values } in
      let new : volume_length p.words (new_volume p (content_of from e)).entry ≡ length bytes =
      (done_bytes d p (content_of from e) may).0 in
      let old : length bytes ≡ volume_length from.words e = given_long from e in
      ap (λ (b : Bool). b && (e.date == e.date && volume_length from.words e == volume_length p.words
      (new_volume p (content_of from e)).entry)) same_name
      ∙ ap (λ (b : Bool). b && volume_length from.words e == volume_length p.words
      (new_volume p (content_of from e)).entry) (eq-eqb e.date e.date refl)
      ∙ eq-eqb _ _ (sym (new ∙ old))

  pub next_like : (d : Cartridge) (rest : List Entry) → IsCartridge d → Stands d p → has_room p (length bytes) ≡ true → ListsLike from p →
      missing_on from p ≡ e ∷ rest → ListsLike from next
  next_like d rest whole stands room like is =
      let new : Entry = (new_volume p (content_of from e)).entry in
      let list : entries_of next ≡ entries_of p ++ new ∷ [] =
      map-append (λ (v : Volume). v.entry) p.volumes (new_volume p (content_of from e) ∷ []) in
      let there : drop (length (entries_of p)) from.entries ≡ e ∷ rest =
      ap (λ (n : ℕ). drop n from.entries) (length-map p.volumes (λ (v : Volume). v.entry)) ∙ is in
      ap (λ (fs : List Entry). difference from.words from.entries p.words fs 1) list
      ∙ like_more from.words from.entries p.words (entries_of p) 1 e rest new like there
      (next_alike d whole stands room)

-- ---- several

pub with_all-append : (plain : Plain) (xs ys : List Content) → with_all plain (xs ++ ys) ≡ with_all (with_all plain xs) ys
with_all-append plain [] ys = refl
with_all-append plain (x ∷ xs) ys = with_all-append (with_content plain x) xs ys

with_all-count : (plain : Plain) (xs : List Content) → length (with_all plain xs).volumes ≡ length plain.volumes + length xs
with_all-count plain [] = omega arith
with_all-count plain (x ∷ xs) =
    let more : length (with_all plain (x ∷ xs)).volumes ≡ length (with_content plain x).volumes + length xs =
    with_all-count (with_content plain x) xs in
    let one : length (with_content plain x).volumes ≡ length plain.volumes + 1 =
    length-append plain.volumes (new_volume plain x ∷ []) in
    omega arith

-- two pieces of a list
parted : (xs : List Volume) (i j n : ℕ) → i ≤ j → j ≤ n → drop i (take n xs) ≡ drop i (take j xs) ++ drop j (take n xs)
parted xs zero zero n low high = refl
parted xs (suc i) zero n low high = absurd (omega arith)
parted [] zero (suc j) zero low high = refl
parted [] zero (suc j) (suc n) low high = refl
parted [] (suc i) (suc j) zero low high = refl
parted [] (suc i) (suc j) (suc n) low high = refl
parted (x ∷ xs) zero (suc j) zero low high = absurd (omega arith)
parted (x ∷ xs) zero (suc j) (suc n) low high = ap (λ (vs : List Volume). x ∷ vs) (parted xs zero j n (omega arith) (omega arith))
parted (x ∷ xs) (suc i) (suc j) zero low high = absurd (omega arith)
parted (x ∷ xs) (suc i) (suc j) (suc n) low high = parted xs i j n (omega arith) (omega arith)

pub copied_count : (one other : Plain) (upto : ℕ) → length other.volumes ≤ upto → upto ≤ length one.volumes →
    length (copied one other upto).volumes ≡ upto
copied_count one other upto low high =
    let count : length (copied one other upto).volumes ≡ length other.volumes + length (missing_contents one other upto) =
    with_all-count other (missing_contents one other upto) in
    let contents : length (missing_contents one other upto) ≡ length (drop (length other.volumes) (take upto one.volumes)) =
    length-map (drop (length other.volumes) (take upto one.volumes)) _ in
    let rest : length (drop (length other.volumes) (take upto one.volumes)) ≡ length (take upto one.volumes) - length other.volumes =
    length-drop (length other.volumes) (take upto one.volumes) in
    let all : length (take upto one.volumes) ≡ upto = length-take-le upto one.volumes high in
    omega arith

pub copy_goes_on : CopyGoesOn
copy_goes_on one other upto n low high within =
    let some : Plain = copied one other upto in
    let pieces : missing_contents one other n ≡ missing_contents one other upto ++ contents_of one.words (drop upto (take n one.volumes)) =
    ap (λ (vs : List Volume). contents_of one.words vs) (parted one.volumes (length other.volumes) upto n low high)
    ∙ map-append _ (drop (length other.volumes) (take upto one.volumes)) (drop upto (take n one.volumes)) in
    ap (λ (m : ℕ). with_all some (contents_of one.words (drop m (take n one.volumes)))) (copied_count one other upto low within)
    ∙ sym (ap (λ (xs : List Content). with_all other xs) pieces ∙ with_all-append other (missing_contents one other upto)
    (contents_of one.words (drop upto (take n one.volumes))))
