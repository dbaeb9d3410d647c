use Rattle.std.proofs.Common.{◌≡◌, ℕ, sym, ◌∙◌, ap, subst, arith, List, [], ◌++◌, length, take, drop}
use Rattle.std.proofs.Math.ListN.{drop_of_length-le}
use Rattle.std.proofs.lemmas.List.{append-nil, length-drop}
use Rattle.std.proofs.lemmas.Slice.{take-put_mid_below}
use borrow.Rule.Slice.PartMut.{put_mid, post_of}
use Rattle.cartridge_spec.specs.Code.{IsCodeBlock}
use Rattle.code_speed.proofs.encode.Goals as goal

put_last : (xs ys : List (List ℕ)) → length xs ≡ 32 → put_mid 29 3 xs ys ≡ take 29 xs ++ ys
put_last xs ys h =
    let rest : post_of 29 3 xs ≡ [] = drop_of_length-le (drop 29 xs) {i = 3} (omega (arith, length-drop 29 xs)) in
    ap (λ (l : List (List ℕ)). take 29 xs ++ (ys ++ l)) rest ∙ ap (λ (l : List (List ℕ)). take 29 xs ++ l) (append-nil ys)

pub returns-clause-block : goal.returns-clause-block
returns-clause-block c =
    let ss : List (List ℕ) = c.args.segment.now in
    subst IsCodeBlock
    (sym (ap (put_mid 29 3 ss) c.copy_from_slice.ensures.after ∙ put_last ss c.parity_of-parity.result c.told-segment))
    c.parity_of-parity.ensures.block

pub returns-clause-data : goal.returns-clause-data
returns-clause-data c =
    take-put_mid_below 29 3 c.args.segment.now c.copy_from_slice.new.self 29 (omega arith) (omega (arith, c.told-segment))
