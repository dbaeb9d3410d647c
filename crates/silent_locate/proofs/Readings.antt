-- The laws of the deep reading.
use Rattle.std.proofs.Common.{◌≡◌, ℕ, ◌+◌, ◌≤◌, refl, sym, ◌∙◌, ap, arith, inl, inr, Bool, nat_eq, List, length, slice_get, Option, Some}
use Rattle.std.proofs.Common.{None}
use Rattle.std.proofs.lemmas.Bool.{cases_eq, eqb-false, or_parts}
use Rattle.qic_base.specs.declared.tape.SectorView.{SectorView}
use Rattle.qic_base.specs.declared.tape.SectorView.TheVariants.{Blank, Defect, Lost, Holds}
use Rattle.cartridge_spec.specs.Code.{IsCodeBlock}
use Rattle.gf256_qic.specs.Code.{lost_below}
use Rattle.gf256_qic.proofs.Agreement.{one_block, lost_below-same}
use Rattle.cartridge_spec.specs.Says.{unreadable_count, Agrees}
use Rattle.silent_locate.specs.Deep.{AgreesBut, IsWrongAt, Deep}
use Rattle.silent_locate.specs.Laws.{DiffersAt, ReadAlike}
use Rattle.cartridge_laws.proofs.Cells.{unreadable_at, IsReadable, readable_at, lost_below-cells, one_agreeing_block}
use Rattle.silent_locate.proofs.Cells.{or_place, held_at, same_test, lost_below-or}

-- ---- blocks that agree with the same cells

-- two code blocks that agree with all cells that can be read but one each, of which at most one can't be read
one_mended : (cells : List SectorView) (p q : ℕ) (ss ts : List (List ℕ)) → IsCodeBlock ss → IsCodeBlock ts →
    AgreesBut cells p ss → AgreesBut cells q ts → unreadable_count cells ≤ 1 → ss ≡ ts
one_mended cells p q ss ts cs ct hs ht few =
    let lost : ℕ → Bool = or_place (or_place (unreadable_at cells) p) q in
    let first : lost_below (unreadable_at cells) (length ss) ≡ unreadable_count cells =
    ap (lost_below (unreadable_at cells)) hs.size ∙ lost_below-cells cells in
    let then : lost_below (or_place (unreadable_at cells) p) (length ss) ≤ lost_below (unreadable_at cells) (length ss) + 1 =
    lost_below-or (unreadable_at cells) p (length ss) in
    let last : lost_below lost (length ss) ≤ lost_below (or_place (unreadable_at cells) p) (length ss) + 1 =
    lost_below-or (or_place (unreadable_at cells) p) q (length ss) in
    one_block lost ss ts cs ct
    (record {
      size = hs.size ∙ sym ht.size;
      others = λ i h kept.
          let long : length ss ≡ length cells = hs.size in
          let outer = or_parts (or_place (unreadable_at cells) p i) (nat_eq i q) kept in
          let inner = or_parts (unreadable_at cells i) (nat_eq i p) outer.0 in
          let held : IsReadable cells i = readable_at cells i (omega arith) inner.0 in
          hs.each i held.0 (eqb-false i p inner.1) held.1 ∙ sym (ht.each i held.0 (eqb-false i q outer.1) held.1);
    })
    (omega arith)

agrees_but : (cells : List SectorView) (place : ℕ) (block : List (List ℕ)) → Agrees cells block → AgreesBut cells place block
agrees_but cells place block agrees = record { size = agrees.size; each = λ i bytes apart at. agrees.each i bytes at }

-- a block that agrees with all cells but one, and with that one too
whole : (cells : List SectorView) (place : ℕ) (block : List (List ℕ)) → AgreesBut cells place block →
    ((bytes : List ℕ) → slice_get cells place ≡ Some (Holds bytes) → slice_get block place ≡ Some bytes) → Agrees cells block
whole cells place block agrees here = record {
  size = agrees.size;
  each = λ i bytes at.
      elim (cases_eq i place) [
        | inl e ↦
            ap (slice_get block) e
            ∙ here bytes (ap (slice_get cells) (sym e) ∙ at)
        | inr apart ↦ agrees.each i bytes apart at
      ];
}

-- ---- one reading

same_place : (cells : List SectorView) (a b : List (List ℕ)) (p q : ℕ) → IsWrongAt cells p a → IsWrongAt cells q b → a ≡ b → p ≡ q
same_place cells a b p q ha hb same =
    elim (cases_eq p q) [
      | inl e ↦ e
      | inr apart ↦
          absurd (ha.none_agrees a ha.code (whole cells p a ha.agrees (λ bytes at.
          ap (λ (block : List (List ℕ)). slice_get block p) same ∙ hb.agrees.each p bytes apart at)))
    ]

pub one_deep_reading : (cells : List SectorView) (a b : List (List ℕ)) (v w : Option ℕ) →
    Deep cells a v → Deep cells b w → (a ≡ b) × (v ≡ w)
one_deep_reading cells a b None None ha hb = (one_agreeing_block cells a b ha.code hb.code ha.agrees hb.agrees ha.few, refl)
one_deep_reading cells a b None (Some q) ha hb = absurd (hb.none_agrees a ha.code ha.agrees)
one_deep_reading cells a b (Some p) None ha hb = absurd (ha.none_agrees b hb.code hb.agrees)
one_deep_reading cells a b (Some p) (Some q) ha hb =
    let same : a ≡ b = one_mended cells p q a b ha.code hb.code ha.agrees hb.agrees ha.few in
    (same, ap Some (same_place cells a b p q ha hb same))

-- ---- the place

pub wrong_place_differs : (cells : List SectorView) (block : List (List ℕ)) (place : ℕ) → IsWrongAt cells place block →
    DiffersAt cells place block
wrong_place_differs cells block place wrong = by_cell (slice_get cells place) refl
  where
    unread : ((bytes : List ℕ) → slice_get cells place ≡ Some (Holds bytes) → ⊥) → ⊥
    unread never =
        wrong.none_agrees block wrong.code (whole cells place block wrong.agrees (λ bytes at. absurd (never bytes at)))

    by_cell : (cell : Option SectorView) → slice_get cells place ≡ cell → DiffersAt cells place block
    by_cell None is = absurd (unread (λ bytes at. cc))
    by_cell (Some Blank) is = absurd (unread (λ bytes at. cc))
    by_cell (Some Defect) is = absurd (unread (λ bytes at. cc))
    by_cell (Some Lost) is = absurd (unread (λ bytes at. cc))
    by_cell (Some (Holds held)) is = record {
      bytes = held;
      held = is;
      differs = λ same.
          wrong.none_agrees block wrong.code (whole cells place block wrong.agrees (λ bytes at.
          let one : held ≡ bytes = cc in
          same ∙ ap Some one));
    }

pub one_wrong_is_found : (cells : List SectorView) (block : List (List ℕ)) (place : ℕ) → unreadable_count cells ≤ 1 →
    IsCodeBlock block → AgreesBut cells place block → DiffersAt cells place block → IsWrongAt cells place block
one_wrong_is_found cells block place few code agrees differs = record {
  none_agrees = λ other code' agrees'.
      let same : block ≡ other =
      one_mended cells place place block other code code' agrees (agrees_but cells place other agrees') few in
      differs.differs (
      ap (λ (b : List (List ℕ)). slice_get b place) same
      ∙ agrees'.each place differs.bytes differs.held);
  few = few;
  code = code;
  agrees = agrees;
}

-- ---- cells that are read alike

pub count_alike : (cells others : List SectorView) → ReadAlike cells others → unreadable_count cells ≡ unreadable_count others
count_alike cells others alike =
    let long : length cells ≡ length others = alike.size in
    sym (lost_below-cells cells)
    ∙ lost_below-same (unreadable_at cells) (unreadable_at others) (length cells) (λ i h.
    same_test others i (unreadable_at cells i) (omega arith)
    (λ kept. let held : IsReadable cells i = readable_at cells i h kept in (held.0, (alike.each i held.0).0 held.1))
    (λ held. held_at cells i held.0 ((alike.each i held.0).1 held.1)))
    ∙ ap (lost_below (unreadable_at others)) long
    ∙ lost_below-cells others

agrees_alike : (cells others : List SectorView) (block : List (List ℕ)) → ReadAlike cells others →
    Agrees others block → Agrees cells block
agrees_alike cells others block alike agrees = record {
  size = agrees.size ∙ sym alike.size;
  each = λ i bytes at. agrees.each i bytes ((alike.each i bytes).0 at);
}

pub alike_back : (cells others : List SectorView) → ReadAlike cells others → ReadAlike others cells
alike_back cells others alike = record {
  size = sym alike.size;
  each = λ i bytes. ((alike.each i bytes).1, (alike.each i bytes).0);
}

pub deep_by_readable : (cells others : List SectorView) (block : List (List ℕ)) (wrong : Option ℕ) → ReadAlike cells others →
    Deep cells block wrong → Deep others block wrong
deep_by_readable cells others block None alike deep =
    let count : unreadable_count cells ≡ unreadable_count others = count_alike cells others alike in
    let few : unreadable_count cells ≤ 3 = deep.few in
    record {
      few = omega arith;
      code = deep.code;
      agrees = agrees_alike others cells block (alike_back cells others alike) deep.agrees;
    }
deep_by_readable cells others block (Some place) alike deep =
    let count : unreadable_count cells ≡ unreadable_count others = count_alike cells others alike in
    let few : unreadable_count cells ≤ 1 = deep.few in
    record {
      none_agrees = λ other code agrees. deep.none_agrees other code (agrees_alike cells others other alike agrees);
      few = omega arith;
      code = deep.code;
      agrees = record {
        size = deep.agrees.size ∙ alike.size;
        each = λ i bytes apart at. deep.agrees.each i bytes apart ((alike.each i bytes).1 at);
      };
    }
