-- Where the volumes of a list in order lie, and the free segments behind them.
use Rattle.std.proofs.Common.{ℕ, ◌<◌, ◌≤◌, List, [], ◌∷◌, arith, map, All, ◌++◌}
use Rattle.std.proofs.lemmas.List.Elements.{All-nil, All-cons, All-weaker}
use Rattle.cartridge_laws.specs.Table.{LieBehind}
use Rattle.cartridge_spec.specs.Appending.{end_behind}
use Rattle.cartridge_spec.specs.Table.{Entry}
use Rattle.cartridge_spec.specs.Volumes.{Volume}

-- a volume lies behind a segment, up to another
pub record LiesWithin (from to : ℕ) (volume : Volume) : Type 0 where
  pub behind : from < volume.entry.start
  pub before : volume.entry.end ≤ to

pub end_least : (before last : ℕ) (es : List Entry) → LieBehind before last es → before ≤ end_behind before es
end_least before last [] order = omega arith
end_least before last (e ∷ es) order =
    let behind = order.0 in
    let forwards = order.1 in
    let rest : e.end ≤ end_behind e.end es = end_least e.end last es order.3 in
    omega arith

pub lie_within : (before last : ℕ) (volumes : List Volume) → LieBehind before last (map (λ volume. volume.entry) volumes) →
    All (LiesWithin before (end_behind before (map (λ volume. volume.entry) volumes))) volumes
lie_within before last [] order = All-nil (LiesWithin before before)
lie_within before last (volume ∷ volumes) order =
    let entry : Entry = volume.entry in
    let entries : List Entry = map (λ volume. volume.entry) volumes in
    let to : ℕ = end_behind entry.end entries in
    let behind : before < entry.start = order.0 in
    let forwards : entry.start ≤ entry.end = order.1 in
    All-cons (LiesWithin before to) volume volumes
    (record { behind = behind; before = end_least entry.end last entries order.3 })
    (All-weaker (LiesWithin entry.end to) (LiesWithin before to)
    (λ other lies. let past : entry.end < other.entry.start = lies.behind in record { behind = omega arith; before = lies.before })
    volumes (lie_within entry.end last volumes order.3))

-- one more volume behind them
pub order_more : (before last : ℕ) (es : List Entry) (e : Entry) → LieBehind before last es → end_behind before es < e.start →
    e.start ≤ e.end → e.end ≤ last → LieBehind before last (es ++ e ∷ [])
order_more before last [] e order behind forwards within = (behind, forwards, within, tt)
order_more before last (x ∷ xs) e order behind forwards within =
    (order.0, order.1, order.2, order_more x.end last xs e order.3 behind forwards within)
