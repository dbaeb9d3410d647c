-- The register of a column: its three bytes are the data's parity, and so its rows are parity sectors.
use Rattle.std.proofs.Common.{◌≡◌, ℕ, zero, suc, ◌+◌, ◌<◌, ◌≤◌, refl, sym, ◌∙◌, ap, subst, arith, List, [], ◌∷◌, ◌++◌, length, All, get_or}
use Rattle.std.proofs.Common.{bit_xor, replicate}
use Rattle.std.specs.Int.Bits.{xor_assoc, xor_zero_l, xor_zero_r}
use Rattle.std.proofs.lemmas.Nat.{xor_comm}
use Rattle.std.proofs.lemmas.List.Elements.{All-get_or, All-push}
use Rattle.std.proofs.lemmas.List.{same_lists, length-replicate}
use Rattle.std.proofs.Math.ListN.{length-append}
use Rattle.cartridge_spec.specs.Code.{shifted_copies, remainder, product, power, value_at, added, lagrange, parity, parity_sectors, column}
use Rattle.cartridge_spec.specs.Code.{IsCodeBlock}
use Rattle.gf256_qic.specs.Code.{parity_sector, data_sum, scaled, distance}
use Rattle.qic_base.specs.Cartridge.{IsSector, zero_sector}
use Rattle.gf256_qic.proofs.Sums.{sum_byte}
use Rattle.gf256_qic.proofs.Products.{product_byte, product_comm, product_assoc, product_sum_left, product_sum_right, product_zero_left}
use Rattle.gf256_qic.proofs.Products.{product_one_right}
use Rattle.gf256_qic.proofs.Powers.{power_more, power_one, power_byte}
use Rattle.gf256_qic.proofs.Values.{no_bytes, more_bytes, first_byte, other_bytes, value_at-none, value_at-first, value_at-append}
use Rattle.gf256_qic.proofs.Values.{value_at-added, value_at-scaled, data_sum-push}
use Rattle.gf256_qic.proofs.Distance.{AtRoots}
use Rattle.gf256_qic.proofs.Agreement.{near_columns, distance-le, any_default, same_from_columns, column-one}
use Rattle.gf256_qic.proofs.Parities.{bytes_of_column, column-append, length-parity, bytes_of_parity, value_at-parity}
use Rattle.gf256_qic.proofs.Parities.{column-parity_sectors, length-parity_sectors, parity_sectors-are_sectors, length-parity_sector}
use Rattle.gf256_qic.proofs.Parities.{get_or-parity_sector, parity_block, parity_block_only}
use Rattle.segment_parity.specs.declared.Parity.{Parity}
use Rattle.segment_parity.specs.Register.{pushed, Holds, at, feedback, Shifted}
use Rattle.qic_base.specs.Disk.{AreBytes}
use Rattle.qic_base.proofs.Arrays.{zeros_are_zero}

-- ---- products with 0xC0

pub product_0xC0 : (a : ℕ) → a < 256 → bit_xor (bit_xor (product a 2) a) (product a 0xC3) ≡ product a 0xC0
product_0xC0 a h =
    ap (λ v. bit_xor (bit_xor (product a 2) v) (product a 0xC3)) (sym (product_one_right a h))
    ∙ ap (λ v. bit_xor v (product a 0xC3)) (sym (product_sum_right a 2 1))
    ∙ sym (product_sum_right a 3 0xC3)

-- ---- one column, one byte further

-- the polynomial x^3 + 0xC0 x^2 + 0xC0 x + 1 is 0 at the three roots, by computation
abbrev lower : List ℕ
lower = 0xC0 ∷ 0xC0 ∷ 1 ∷ []

generator_at_roots : AtRoots (λ p. value_at p lower ≡ power p 3)
unfolding value_at product shifted_copies remainder power
generator_at_roots = record { at_inverse = refl; at_one = refl; at_generator = refl }

bytes_of_lower : AreBytes lower
bytes_of_lower =
    more_bytes 0xC0 (0xC0 ∷ 1 ∷ []) (omega arith) (more_bytes 0xC0 (1 ∷ []) (omega arith) (more_bytes 1 [] (omega arith) no_bytes))

-- a column's register after one more byte, where f is the feedback
abbrev pub shifted : ℕ → ℕ → ℕ → List ℕ
shifted m l f = bit_xor m (product f 0xC0) ∷ bit_xor l (product f 0xC0) ∷ f ∷ []

shifted-sum : (m l f : ℕ) → f < 256 → added (m ∷ l ∷ 0 ∷ []) (scaled f lower) ≡ shifted m l f
unfolding added
shifted-sum m l f h =
    ap (λ v. bit_xor m (product f 0xC0) ∷ bit_xor l (product f 0xC0) ∷ v ∷ [])
    (xor_zero_l (product f 1) ∙ product_one_right f h)

-- a column's value with a byte of 0 behind it
value_at-zero : (p : ℕ) (cs : List ℕ) → p < 256 → AreBytes cs → value_at p (cs ++ 0 ∷ []) ≡ product (value_at p cs) p
value_at-zero p cs h all =
    let last : value_at p (0 ∷ []) ≡ 0 =
    value_at-first p 0 [] ∙ ap (λ x. bit_xor x (value_at p [])) (product_zero_left (power p 0))
    ∙ ap (bit_xor 0) (value_at-none p) in
    value_at-append p cs (0 ∷ []) h all
    ∙ ap (bit_xor (product (value_at p cs) (power p 1))) last
    ∙ xor_zero_r (product (value_at p cs) (power p 1))
    ∙ ap (product (value_at p cs)) (power_one p h)

value_at-shifted : (p m l f : ℕ) → p < 256 → m < 256 → l < 256 → f < 256 → value_at p lower ≡ power p 3 →
    value_at p (shifted m l f) ≡ bit_xor (product (value_at p (m ∷ l ∷ [])) p) (product f (power p 3))
value_at-shifted p m l f hp hm hl hf root =
    let both : AreBytes (m ∷ l ∷ []) = more_bytes m (l ∷ []) hm (more_bytes l [] hl no_bytes) in
    ap (value_at p) (sym (shifted-sum m l f hf))
    ∙ value_at-added p (m ∷ l ∷ 0 ∷ []) (scaled f lower) refl
    ∙ ap (λ v. bit_xor v (value_at p (scaled f lower))) (value_at-zero p (m ∷ l ∷ []) hp both)
    ∙ ap (bit_xor (product (value_at p (m ∷ l ∷ [])) p))
    (value_at-scaled p f lower hp hf bytes_of_lower ∙ ap (product f) root)

data_sum-more : (p : ℕ) (ds : List ℕ) (d h m l : ℕ) → p < 256 → AreBytes ds → d < 256 → h < 256 →
    value_at p (h ∷ m ∷ l ∷ []) ≡ data_sum p ds →
    data_sum p (ds ++ d ∷ []) ≡ bit_xor (product (value_at p (m ∷ l ∷ [])) p) (product (bit_xor h d) (power p 3))
data_sum-more p ds d h m l hp all hd hh value =
    let v : ℕ = value_at p (m ∷ l ∷ []) in
    let p2 : ℕ = power p 2 in
    let p3 : ℕ = power p 3 in
    let h2 : p2 < 256 = power_byte p 2 hp in
    let cube : product (product h p2) p ≡ product h p3 =
    product_assoc h p2 p hh h2 hp ∙ ap (product h) (product_comm p2 p h2 hp ∙ sym (power_more p 2)) in
    data_sum-push p ds d hp all hd
    ∙ ap (λ x. bit_xor (product x p) (product d p3)) (sym value ∙ value_at-first p h (m ∷ l ∷ []))
    ∙ ap (λ x. bit_xor x (product d p3))
    (product_sum_left (product h p2) v p ∙ ap (λ x. bit_xor x (product v p)) cube ∙ xor_comm (product h p3) (product v p))
    ∙ xor_assoc (product v p) (product h p3) (product d p3)
    ∙ ap (bit_xor (product v p)) (sym (product_sum_left h d p3))

-- the parity of data with one more byte
pub parity_more : (ds : List ℕ) (d h m l : ℕ) → AreBytes ds → d < 256 → h ∷ m ∷ l ∷ [] ≡ parity ds →
    shifted m l (bit_xor h d) ≡ parity (ds ++ d ∷ [])
parity_more ds d h m l all hd same =
    let f : ℕ = bit_xor h d in
    let bytes : AreBytes (h ∷ m ∷ l ∷ []) = subst AreBytes (sym same) (bytes_of_parity ds all) in
    let tail : AreBytes (m ∷ l ∷ []) = other_bytes h (m ∷ l ∷ []) bytes in
    let hh : h < 256 = first_byte h (m ∷ l ∷ []) bytes in
    let hm : m < 256 = first_byte m (l ∷ []) tail in
    let hl : l < 256 = first_byte l [] (other_bytes m (l ∷ []) tail) in
    let hf : f < 256 = sum_byte h d hh hd in
    let hw : product f 0xC0 < 256 = product_byte f 0xC0 hf (omega arith) in
    let more : AreBytes (ds ++ d ∷ []) = All-push (λ c. c < 256) ds d all hd in
    let before : AtRoots (λ p. value_at p (parity ds) ≡ data_sum p ds) = value_at-parity ds all in
    let after : AtRoots (λ p. value_at p (parity (ds ++ d ∷ [])) ≡ data_sum p (ds ++ d ∷ [])) =
    value_at-parity (ds ++ d ∷ []) more in
    let at_root : (p : ℕ) → p < 256 → value_at p lower ≡ power p 3 → value_at p (parity ds) ≡ data_sum p ds →
    value_at p (parity (ds ++ d ∷ [])) ≡ data_sum p (ds ++ d ∷ []) →
    value_at p (shifted m l f) ≡ value_at p (parity (ds ++ d ∷ [])) =
    λ p hp root was is.
    value_at-shifted p m l f hp hm hl hf root
    ∙ sym (data_sum-more p ds d h m l hp all hd hh (ap (value_at p) same ∙ was))
    ∙ sym is in
    let near : distance (shifted m l f) (parity (ds ++ d ∷ [])) ≤ length (shifted m l f) =
    distance-le (shifted m l f) (parity (ds ++ d ∷ [])) in
    near_columns (shifted m l f) (parity (ds ++ d ∷ []))
    (more_bytes (bit_xor m (product f 0xC0)) (bit_xor l (product f 0xC0) ∷ f ∷ [])
    (sum_byte m (product f 0xC0) hm hw)
    (more_bytes (bit_xor l (product f 0xC0)) (f ∷ []) (sum_byte l (product f 0xC0) hl hw)
    (more_bytes f [] hf no_bytes)))
    (bytes_of_parity (ds ++ d ∷ []) more)
    (sym (length-parity (ds ++ d ∷ []))) (omega arith) (omega arith)
    (record {
      at_inverse = at_root 0xC3 (omega arith) generator_at_roots.at_inverse before.at_inverse after.at_inverse;
      at_one = at_root 1 (omega arith) generator_at_roots.at_one before.at_one after.at_one;
      at_generator = at_root 2 (omega arith) generator_at_roots.at_generator before.at_generator after.at_generator;
    })

-- ---- the rows

column-three : (j : ℕ) (rows : List (List ℕ)) → length rows ≡ 3 →
    column j rows ≡ at rows 0 j ∷ at rows 1 j ∷ at rows 2 j ∷ []
unfolding column
column-three j [] h = absurd (omega arith)
column-three j (a ∷ []) h = absurd (omega arith)
column-three j (a ∷ b ∷ []) h = absurd (omega arith)
column-three j (a ∷ b ∷ c ∷ []) h = refl
column-three j (a ∷ b ∷ c ∷ d ∷ rows) h = absurd (omega arith)

-- the register's columns, one sector further, are the parity of the columns
shifted_column :
    (old new : List (List ℕ)) (s : List ℕ) (ss : List (List ℕ)) (j : ℕ) → j < 1024 →
    length old ≡ 3 → length new ≡ 3 → All IsSector ss → IsSector s →
    Shifted old s new 1024 → old ≡ parity_sectors ss → column j new ≡ parity (column j (ss ++ s ∷ []))
shifted_column old new s ss j h three three' all one shift same =
    let d : ℕ = get_or s j 0 in
    let size : length s ≡ 1024 = one.size in
    let byte : d < 256 = All-get_or (λ b. b < 256) s j 0 (omega arith) one.each in
    let f : ℕ = feedback old s j in
    let before : at old 0 j ∷ at old 1 j ∷ at old 2 j ∷ [] ≡ parity (column j ss) =
    sym (column-three j old three) ∙ ap (column j) same ∙ column-parity_sectors j ss h in
    column-three j new three'
    ∙ ap (λ (x : ℕ). x ∷ at new 1 j ∷ at new 2 j ∷ []) (shift.high j h)
    ∙ ap (λ (x : ℕ). bit_xor (at old 1 j) (product f 0xC0) ∷ x ∷ at new 2 j ∷ []) (shift.middle j h)
    ∙ ap (λ (x : ℕ). bit_xor (at old 1 j) (product f 0xC0) ∷ bit_xor (at old 2 j) (product f 0xC0) ∷ x ∷ []) (shift.low j h)
    ∙ parity_more (column j ss) d (at old 0 j) (at old 1 j) (at old 2 j) (bytes_of_column j ss h all) byte before
    ∙ ap parity (sym (column-append j ss (s ∷ []) ∙ ap (λ c. column j ss ++ c) (column-one j s)))

-- and so its rows are the parity sectors of one sector more
register_more :
    (old new : List (List ℕ)) (s : List ℕ) (ss : List (List ℕ)) →
    length new ≡ 3 → All IsSector new → All IsSector ss → IsSector s →
    Shifted old s new 1024 → old ≡ parity_sectors ss → new ≡ parity_sectors (ss ++ s ∷ [])
register_more old new s ss three rows all one shift same =
    let more : All IsSector (ss ++ s ∷ []) = All-push IsSector ss s all one in
    let three' : length old ≡ 3 = ap (λ (rs : List (List ℕ)). length rs) same ∙ length-parity_sectors ss in
    same_from_columns new (parity_sectors (ss ++ s ∷ [])) rows (parity_sectors-are_sectors (ss ++ s ∷ []) more)
    (three ∙ sym (length-parity_sectors (ss ++ s ∷ []))) (λ j h.
    shifted_column old new s ss j h three' three all one shift same
    ∙ sym (column-parity_sectors j (ss ++ s ∷ []) h))

-- ---- what the register stands for

pub column-none : (j : ℕ) → column j [] ≡ []
unfolding column
column-none j = refl

-- the parity of no data is 0, by computation
pub parity_none : parity [] ≡ 0 ∷ 0 ∷ 0 ∷ []
unfolding parity value_at lagrange added product shifted_copies remainder power
parity_none = refl

zeros_are_parity : (k : ℕ) → k < 3 → zero_sector ≡ parity_sector [] k
unfolding zero_sector
zeros_are_parity k h =
    let size : length zero_sector ≡ 1024 = length-replicate {A = ℕ} 1024 0 in
    let size' : length (parity_sector [] k) ≡ 1024 = length-parity_sector [] k in
    same_lists zero_sector (parity_sector [] k) (size ∙ sym size') (λ j d lt.
    any_default zero_sector j d lt
    ∙ zeros_are_zero 1024 j
    ∙ sym (
    any_default (parity_sector [] k) j d (omega arith)
    ∙ get_or-parity_sector [] k j (omega arith)
    ∙ ap (λ (ds : List ℕ). get_or (parity ds) k 0) (column-none j)
    ∙ ap (λ (ps : List ℕ). get_or ps k 0) parity_none
    ∙ zero_of_three k h))
  where
    zero_of_three : (i : ℕ) → i < 3 → get_or {A = ℕ} (0 ∷ 0 ∷ 0 ∷ []) i 0 ≡ 0
    zero_of_three zero lt = refl
    zero_of_three (suc zero) lt = refl
    zero_of_three (suc (suc zero)) lt = refl
    zero_of_three (suc (suc (suc i))) lt = absurd (omega arith)

pub zeros_are_register : replicate 1024 0 ∷ replicate 1024 0 ∷ replicate 1024 0 ∷ [] ≡ parity_sectors []
unfolding zero_sector parity_sectors parity_sector
zeros_are_register =
    ap (λ (r : List ℕ). r ∷ zero_sector ∷ zero_sector ∷ []) (zeros_are_parity 0 (omega arith))
    ∙ ap (λ (r : List ℕ). parity_sector [] 0 ∷ r ∷ zero_sector ∷ []) (zeros_are_parity 1 (omega arith))
    ∙ ap (λ (r : List ℕ). parity_sector [] 0 ∷ parity_sector [] 1 ∷ r ∷ []) (zeros_are_parity 2 (omega arith))

pub register_block :
    (p : Parity) (ss : List (List ℕ)) → 0 < pushed p → Holds p ss → IsCodeBlock (ss ++ p.register)
register_block p ss some holds =
    let count : pushed p ≡ length ss = holds.count in
    subst (λ (rs : List (List ℕ)). IsCodeBlock (ss ++ rs)) (sym holds.register)
    (parity_block ss (omega arith) holds.most holds.sectors_fit)

pub register_only :
    (p : Parity) (ss ps : List (List ℕ)) → Holds p ss → length ps ≡ 3 → IsCodeBlock (ss ++ ps) → ps ≡ p.register
register_only p ss ps holds three block = parity_block_only ss ps three block ∙ sym holds.register

pub holds_more :
    (p : Parity) (new : List (List ℕ)) (s : List ℕ) (ss : List (List ℕ)) →
    pushed p < 29 → length new ≡ 3 → IsSector s →
    (All IsSector p.register → Shifted p.register s new 1024) → (All IsSector p.register → All IsSector new) →
    Holds p ss → Holds (record { register = new; count = pushed p + 1 }) (ss ++ s ∷ [])
holds_more p new s ss room three one shift rows holds =
    let long : length (ss ++ s ∷ []) ≡ length ss + 1 = length-append ss (s ∷ []) in
    let before : pushed p ≡ length ss = holds.count in
    let fit : All IsSector p.register =
    subst (λ (rs : List (List ℕ)). All IsSector rs) (sym holds.register) (parity_sectors-are_sectors ss holds.sectors_fit) in
    record {
      count = omega arith;
      most = omega arith;
      sectors_fit = All-push IsSector ss s holds.sectors_fit one;
      register = register_more p.register new s ss three (rows fit) holds.sectors_fit one (shift fit) holds.register;
    }
