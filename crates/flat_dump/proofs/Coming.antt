-- What is imported of a dump and a map: one cartridge, and of an exported one the same again.
use Rattle.std.proofs.Common.{◌≡◌, inl, inr, ℕ, ◌+◌, ◌*◌, ◌/◌, ◌<◌, ◌≤◌, List, length, get_or, Option, Some, refl, sym, ap, ◌∙◌, subst}
use Rattle.std.proofs.Common.{arith}
use Rattle.std.proofs.lemmas.List.{same_lists, get_or_default, get_or-map, length-map}
use Rattle.qic_base.specs.Cartridge.{Cartridge}
use Rattle.qic_base.specs.CartridgeTerms.{IsCartridge}
use Rattle.qic_base.specs.declared.tape.SectorView.{SectorView}
use Rattle.qic_base.specs.declared.tape.SectorView.TheVariants.{Blank, Defect, Lost, Holds}
use Rattle.qic_base.specs.declared.tape.TapeInfo.{TapeInfo}
use Rattle.rescue_map.specs.declared.form.Block.{Block}
use Rattle.rescue_map.specs.Map.{Blocks, Reading, reading_of, IsWhole}
use Rattle.rescue_map.specs.Text.{runs_of}
use Rattle.rescue_map.proofs.BackLaws.{reads_back}
use Rattle.flat_dump.specs.Dump.{dump_of, sector_bytes}
use Rattle.flat_dump.specs.Held.{IsHeld, held_mask, map_of}
use Rattle.flat_dump.specs.Imported.{IsImportedView, brought_view}
use Rattle.flat_dump.specs.Laws.{ImportsOne, BringsBack}
use Rattle.flat_dump.proofs.Bytes.{dump_is_whole, range_of}
use Rattle.flat_dump.proofs.Maps.{few_words, rescued_is_held}

one_view : (dump : List ℕ) (blocks : Option (List Block)) (q : ℕ) (v w : SectorView) → IsImportedView dump blocks q v →
    IsImportedView dump blocks q w → v ≡ w
one_view dump blocks q v w (inl a) (inl b) = a.1 ∙ sym b.1
one_view dump blocks q v w (inl a) (inr b) = absurd (b.0 a.0)
one_view dump blocks q v w (inr a) (inl b) = absurd (a.0 b.0)
one_view dump blocks q v w (inr a) (inr b) = a.1 ∙ sym b.1

pub imports_one : ImportsOne
imports_one dump blocks n c d a b =
    let size = a.size in
    let other = b.size in
    let views : c.views ≡ d.views = same_lists c.views d.views (size ∙ sym other)
    (λ k e within.
    get_or_default c.views k e Blank within
    ∙ one_view dump blocks k (get_or c.views k Blank) (get_or d.views k Blank) (a.views k (omega arith)) (b.views k (omega arith))
    ∙ get_or_default d.views k Blank e (omega arith)) in
    ap (λ (i : TapeInfo). record c { info = i }) (a.info ∙ sym b.info)
    ∙ ap (λ (v : ℕ). record d { version = v; views = c.views }) (a.version ∙ sym b.version)
    ∙ ap (λ (vs : List SectorView). record d { views = vs }) views

-- ---- an exported cartridge

abbrev block_list : Reading → List Block → List Block
block_list (Blocks blocks) other = blocks
block_list _ other = other

map_blocks : (c : Cartridge) (blocks : List Block) → IsCartridge c → reading_of (map_of c) ≡ Blocks blocks → blocks ≡ runs_of (held_mask c)
map_blocks c blocks is reading =
    let both : Blocks blocks ≡ Blocks (runs_of (held_mask c)) = sym reading ∙ reads_back (held_mask c) (few_words c is) in
    ap (λ (r : Reading). block_list r blocks) both

-- a sector that holds something is taken, and no other one is
held_is_whole : (c : Cartridge) (q : ℕ) → IsCartridge c → q < 896 * c.info.segments_per_track → IsHeld c q →
    IsWhole (runs_of (held_mask c)) q
held_is_whole c q is within held byte low high =
    let at : q ≡ byte / 1024 = omega arith in
    (rescued_is_held c byte is (omega arith)).1 (subst (IsHeld c) at held)

whole_is_held : (c : Cartridge) (q : ℕ) → IsCartridge c → q < 896 * c.info.segments_per_track → IsWhole (runs_of (held_mask c)) q →
    IsHeld c q
whole_is_held c q is within whole =
    let at : 1024 * q / 1024 ≡ q = omega arith in
    subst (IsHeld c) at ((rescued_is_held c (1024 * q) is (omega arith)).0 (whole (1024 * q) (omega arith) (omega arith)))

not_held : (c : Cartridge) (q : ℕ) (view : SectorView) → get_or c.views q Blank ≡ view → ((bytes : List ℕ) → view ≡ Holds bytes → ⊥) →
    IsHeld c q → ⊥
not_held c q view e other held = other held.0 (sym e ∙ held.1)

come_view : (c : Cartridge) (q : ℕ) (view : SectorView) → IsCartridge c → q < 896 * c.info.segments_per_track →
    get_or c.views q Blank ≡ view →
    IsImportedView (dump_of c) (Some (runs_of (held_mask c))) q (brought_view view)
come_view c q Blank is within e = inr ((λ t. not_held c q Blank e (λ bytes f. cc) (whole_is_held c q is within t.1)), refl)
come_view c q Defect is within e = inr ((λ t. not_held c q Defect e (λ bytes f. cc) (whole_is_held c q is within t.1)), refl)
come_view c q Lost is within e = inr ((λ t. not_held c q Lost e (λ bytes f. cc) (whole_is_held c q is within t.1)), refl)
come_view c q (Holds bytes) is within e =
    let n = is.sectors in
    let long = dump_is_whole c is in
    inl (
      (let has : 1024 * q + 1024 ≤ length (dump_of c) = omega arith in has, held_is_whole c q is within (bytes, e)),
      ap Holds (sym (range_of c.views q is.views (omega arith) ∙ ap sector_bytes e)),
    )

pub brings_back : BringsBack
brings_back c blocks is reading =
    let n = is.sectors in
    rw (map_blocks c blocks is reading) (record {
      info = refl;
      version = refl;
      size = length-map c.views brought_view ∙ n;
      views = λ q within.
          let P : SectorView → Type 0 = λ view. IsImportedView (dump_of c) (Some (runs_of (held_mask c))) q view in
          subst P (sym (get_or-map brought_view c.views q Blank Blank (omega arith)))
          (come_view c q (get_or c.views q Blank) is within refl);
    })
