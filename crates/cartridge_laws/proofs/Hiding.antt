-- Readings that leave sectors out of account.
use Rattle.std.proofs.Common.{◌≡◌, ℕ, ◌/◌, ◌%◌, ◌^◌, arith, false, suc, refl, ◌∙◌, ap, Bool, List, [], ◌∷◌, inl, inr, subst, sym}
use Rattle.std.specs.Prelude.{◌==◌, if◌then◌else◌}
use Rattle.std.proofs.lemmas.Bool.{ne_eqb}
use Rattle.std.proofs.lemmas.List.Elements.{All-nil, All-cons, All-head}
use Rattle.std.proofs.lemmas.Nat.Bits.{bit_at-zero}
use Rattle.cartridge_laws.specs.ReadingLaws.{NothingIsHidden, SaysByNone}
use Rattle.cartridge_spec.specs.Says.{hidden_from, HasBlock, HasFirstBlock, Data, LostSectors, Mismatch, HasNoBlock}
use Rattle.qic_base.specs.declared.tape.SectorView.{SectorView}
use Rattle.qic_base.specs.declared.tape.SectorView.TheVariants.{Lost}

-- the empty set names no place
names_none : (place : ℕ) → (0 / 2 ^ place % 2 == 1) ≡ false
names_none place =
    let none : 0 / 2 ^ place % 2 ≡ 0 = bit_at-zero place in
    ne_eqb (0 / 2 ^ place % 2) 1 (omega arith)

none_hidden : (place : ℕ) (cells : List SectorView) → hidden_from 0 place cells ≡ cells
unfolding hidden_from
none_hidden place [] = refl
none_hidden place (cell ∷ cells) =
    ap (λ (b : Bool). (if b then Lost else cell) ∷ hidden_from 0 (suc place) cells) (names_none place)
    ∙ ap (λ (rest : List SectorView). cell ∷ rest) (none_hidden (suc place) cells)

pub nothing_is_hidden : NothingIsHidden
nothing_is_hidden cells = none_hidden 0 cells

first_of_one : (cells : List SectorView) (sectors : List (List ℕ)) → HasFirstBlock (0 ∷ []) cells sectors → HasBlock cells sectors
first_of_one cells sectors (inl block) = subst (λ (cs : List SectorView). HasBlock cs sectors) (nothing_is_hidden cells) block
first_of_one cells sectors (inr rest) = absurd rest.1

pub says_by_none : SaysByNone
says_by_none cells (Data sectors) = (
  λ says. (says.0, first_of_one cells sectors says.1),
  λ says. (says.0, inl (subst (λ (cs : List SectorView). HasBlock cs sectors) (sym (nothing_is_hidden cells)) says.1)),
)
says_by_none cells (LostSectors n) = (λ says. says, λ says. says)
says_by_none cells Mismatch = (
  λ says. (
    says.0,
    subst (λ (cs : List SectorView). HasNoBlock cs) (nothing_is_hidden cells)
        (All-head (λ (set : ℕ). HasNoBlock (hidden_from set 0 cells)) 0 [] says.1),
  ),
  λ says. (
    says.0,
    All-cons (λ (set : ℕ). HasNoBlock (hidden_from set 0 cells)) 0 []
        (subst (λ (cs : List SectorView). HasNoBlock cs) (sym (nothing_is_hidden cells)) says.1)
        (All-nil (λ (set : ℕ). HasNoBlock (hidden_from set 0 cells))),
  ),
)
