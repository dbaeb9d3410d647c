-- The mask of a cartridge has just the sectors that hold bytes, and so has its map.
use Rattle.std.proofs.Common.{◌≡◌, ◌↔◌, ℕ, zero, suc, ◌+◌, ◌*◌, ◌/◌, ◌%◌, ◌<◌, ◌≤◌, List, [], ◌∷◌, length, get_or, take, drop, refl, sym}
use Rattle.std.proofs.Common.{ap, ◌∙◌, arith}
use Rattle.std.specs.Int.{bit_at}
use Rattle.std.proofs.lemmas.List.{get_or-drop, get_or-take, drop-drop}
use Rattle.std.proofs.lemmas.Nat.Bits.{bit_at-suc, bit_at_lowest, bit_at-zero}
use Rattle.qic_base.specs.Cartridge.{Cartridge}
use Rattle.qic_base.specs.CartridgeTerms.{IsCartridge}
use Rattle.qic_base.specs.declared.tape.SectorView.{SectorView}
use Rattle.qic_base.specs.declared.tape.SectorView.TheVariants.{Blank, Defect, Lost, Holds}
use Rattle.rescue_map.specs.Mask.{IsMarked}
use Rattle.rescue_map.specs.Map.{Rescued}
use Rattle.rescue_map.specs.Text.{runs_of}
use Rattle.rescue_map.proofs.BackLaws.{reads_back}
use Rattle.rescue_map.proofs.RunLaws.{rescues_marked}
use Rattle.flat_dump.specs.Held.{IsHeld, held_bit, held_word, held_words, held_mask}
use Rattle.flat_dump.specs.Laws.{EachMapTells}
use Rattle.flat_dump.proofs.Held.{held_bit-small}

length-held_words : (n : ℕ) (views : List SectorView) → length (held_words n views) ≡ n
length-held_words zero views = refl
length-held_words (suc n) views = ap suc (length-held_words n (drop 32 views))

bit_of_word : (views : List SectorView) (i : ℕ) → bit_at (held_word views) i ≡ held_bit (get_or views i Blank)
bit_of_word [] i = bit_at-zero i
bit_of_word (view ∷ views) zero = bit_at_lowest (held_word (view ∷ views)) ∙ (let small = held_bit-small view in omega arith)
bit_of_word (view ∷ views) (suc i) =
    bit_at-suc (held_word (view ∷ views)) i
    ∙ ap (λ (n : ℕ). bit_at n i) (let small = held_bit-small view in let e : (held_bit view + 2 * held_word views) / 2 ≡ held_word views =
    omega arith in e)
    ∙ bit_of_word views i

word_of : (n s : ℕ) (views : List SectorView) → s < n → get_or (held_words n views) s 0 ≡ held_word (take 32 (drop (32 * s) views))
word_of zero s views within = absurd (omega arith)
word_of (suc n) zero views within = refl
word_of (suc n) (suc s) views within =
    let far : 32 + 32 * s ≡ 32 * suc s = omega arith in
    word_of n s (drop 32 views) (omega arith) ∙ ap (λ (vs : List SectorView). held_word (take 32 vs))
    (drop-drop (32 * s) 32 views ∙ ap (λ (k : ℕ). drop k views) far)

-- the bit of a sector
bit_of : (n q : ℕ) (views : List SectorView) → q < 32 * n → bit_at (get_or (held_words n views) (q / 32) 0) (q % 32) ≡ held_bit
    (get_or views q Blank)
bit_of n q views within =
    let low : q % 32 < 32 = omega arith in
    let place : 32 * (q / 32) + q % 32 ≡ q = omega arith in
    ap (λ (w : ℕ). bit_at w (q % 32)) (word_of n (q / 32) views (omega arith))
    ∙ bit_of_word (take 32 (drop (32 * (q / 32)) views)) (q % 32)
    ∙ ap held_bit (get_or-take 32 (drop (32 * (q / 32)) views) (q % 32) Blank low ∙ get_or-drop (32 * (q / 32)) views (q % 32) Blank
    ∙ ap (λ (k : ℕ). get_or views k Blank) place)

held_by_bit : (view : SectorView) → held_bit view ≡ 1 → (bytes : List ℕ) × (view ≡ Holds bytes)
held_by_bit Blank e = absurd (omega arith)
held_by_bit Defect e = absurd (omega arith)
held_by_bit Lost e = absurd (omega arith)
held_by_bit (Holds bytes) e = (bytes, refl)

marked_is_held : (c : Cartridge) (q : ℕ) → IsCartridge c → q < 896 * c.info.segments_per_track → (IsMarked (held_mask c) q ↔ IsHeld c q)
marked_is_held c q is within =
    let bit = bit_of (28 * c.info.segments_per_track) q c.views (omega arith) in (
      (λ marked. held_by_bit (get_or c.views q Blank) (sym bit ∙ marked)),
      (λ held. bit ∙ ap held_bit held.1),
    )

-- the words of a cartridge's mask
length-held_mask : (c : Cartridge) → length (held_mask c) ≡ 28 * c.info.segments_per_track
length-held_mask c = length-held_words (28 * c.info.segments_per_track) c.views

pub few_words : (c : Cartridge) → IsCartridge c → length (held_mask c) ≤ 6888
few_words c is = let n = length-held_mask c in let long = is.long.longest in omega arith

pub rescued_is_held : (c : Cartridge) (byte : ℕ) → IsCartridge c → byte < 917504 * c.info.segments_per_track →
    (Rescued (runs_of (held_mask c)) byte ↔ IsHeld c (byte / 1024))
rescued_is_held c byte is within =
    let n = length-held_mask c in
    let few = few_words c is in
    let marked = rescues_marked (held_mask c) byte few (omega arith) in
    let held = marked_is_held c (byte / 1024) is (omega arith) in (
      (λ r. held.0 (marked.0 r)),
      (λ h. marked.1 (held.1 h)),
    )

pub each_map_tells : EachMapTells
each_map_tells c is = record {
  blocks = runs_of (held_mask c);
  reading = reads_back (held_mask c) (few_words c is);
  rescued = λ byte within. rescued_is_held c byte is within;
}
