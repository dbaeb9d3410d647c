-- What a restore gives is what its pieces give one by one.
use Rattle.std.proofs.Common.{◌≡◌, ℕ, zero, suc, ◌≤◌, List, [], ◌∷◌, length, Some, slice_get, refl, ap, subst, arith}
use Rattle.std.proofs.lemmas.Option.{same_Some}
use Rattle.command_laws.specs.RestoreLaws.{GivesOneByOne, RestoresOneByOne, OneByOneRestores}
use Rattle.command_spec.specs.Restore.{Piece, IsRead}
use Rattle.qic_base.specs.Acts.{Act}
use Rattle.qic_base.specs.Cartridge.{Cartridge}

-- the first piece, and those behind it
each_more : (c : Cartridge) (words : List ℕ) (piece : Piece) (needed : List Piece) (act : Act) (acts : List Act) →
    IsRead c words piece act →
    ((i : ℕ) (p : Piece) (a : Act) → slice_get needed i ≡ Some p → slice_get acts i ≡ Some a → IsRead c words p a) →
    (i : ℕ) (p : Piece) (a : Act) → slice_get (piece ∷ needed) i ≡ Some p → slice_get (act ∷ acts) i ≡ Some a → IsRead c words p a
each_more c words piece needed act acts first rest zero p a at other =
    subst (λ (q : Piece). IsRead c words q a) (same_Some piece p at) (subst (IsRead c words piece) (same_Some act a other) first)
each_more c words piece needed act acts first rest (suc i) p a at other = rest i p a at other

pub restores_one_by_one : RestoresOneByOne
restores_one_by_one c words [] acts ending h = record {
  within = let none : length acts ≡ 0 = ap (λ (xs : List Act). length xs) h.0 in omega arith;
  each = λ i piece act at other. absurd (cc);
  ends = h.1;
}
restores_one_by_one c words (piece ∷ needed) [] ending h = record {
  within = omega arith;
  each = λ i p a at other. absurd (cc);
  ends = h;
}
restores_one_by_one c words (piece ∷ needed) (act ∷ acts) ending h =
    let rest : GivesOneByOne c words needed acts ending = restores_one_by_one c words needed acts ending h.1 in
    record {
      within = let few : length acts ≤ length needed = rest.within in omega arith;
      each = each_more c words piece needed act acts h.0 rest.each;
      ends = rest.ends;
    }

pub one_by_one_restores : OneByOneRestores
one_by_one_restores c words [] [] ending h = (refl, h.ends)
one_by_one_restores c words [] (act ∷ acts) ending h = let few = h.within in absurd (omega arith)
one_by_one_restores c words (piece ∷ needed) [] ending h = h.ends
one_by_one_restores c words (piece ∷ needed) (act ∷ acts) ending h = (
  h.each 0 piece act refl refl,
  one_by_one_restores c words needed acts ending (record {
    within = let few = h.within in omega arith;
    each = λ i p a. h.each (suc i) p a;
    ends = h.ends;
  }),
)
