use Rattle.std.proofs.Common.{◌≡◌, ℕ, ◌+◌, ◌-◌, ◌++◌, List, All, length, take, drop, ap, subst, sym, ◌∙◌, arith, length-append, length-drop}
use Rattle.std.proofs.lemmas.List.{length-take-le, take_at}
use Rattle.qic_base.specs.Cartridge.{IsSector}
use Rattle.cartridge_spec.specs.Header.{SpellsHeader}
use Rattle.cartridge_spec.specs.Says.{with_parity}
use Rattle.cartridge_laws.proofs.Sayings.{parity_put}
use Rattle.cartridge_spec.specs.Formatting.{fresh_header}
use Rattle.cartridge_laws.specs.HeaderTerms.{IsFreshArea}
use Rattle.formatter.proofs.Copies.{block_data}
use Rattle.formatter.proofs.header.spell.Goals as goal

pub slice_bounds-encode-end-2 : goal.slice_bounds-encode-end-2
slice_bounds-encode-end-2 c =
    let long : length c.args.sectors.now ≡ 32 = c.requires.room in
    sym (length-take-le 29 c.args.sectors.now (omega arith))

pub encode-requires-clause-sectors : goal.encode-requires-clause-sectors
encode-requires-clause-sectors c =
    let long : length c.args.sectors.now ≡ 32 = c.requires.room in
    length-take-le 29 c.args.sectors.now (omega arith)

block_long : (area old : List (List ℕ)) → length area ≡ 29 → length old ≡ 32 → length (area ++ drop 29 old) ≡ 32
block_long area old size long =
    let both : length (area ++ drop 29 old) ≡ length area + length (drop 29 old) = length-append area (drop 29 old) in
    let rest : length (drop 29 old) ≡ length old - 29 = length-drop 29 old in
    omega arith

pub returns-clause-parity : goal.returns-clause-parity
returns-clause-parity c =
    let area : List (List ℕ) = c.encode.new.into in
    let long : length c.args.sectors.now ≡ 32 = c.requires.room in
    let size : length area ≡ 29 = c.encode.auto.into ∙ length-take-le 29 c.args.sectors.now (omega arith) in
    let put : c.put_parity.new.sectors ≡ with_parity area =
    parity_put (area ++ drop 29 c.args.sectors.now) c.put_parity.new.sectors (block_long area c.args.sectors.now size long)
    c.put_parity.ensures.parity ∙ ap with_parity (take_at area (drop 29 c.args.sectors.now) 29 size) in
    put ∙ ap with_parity (sym (ap (take 29) put ∙ block_data area size))

pub returns-clause-fresh : goal.returns-clause-fresh
returns-clause-fresh c =
    let area : List (List ℕ) = c.encode.new.into in
    let long : length c.args.sectors.now ≡ 32 = c.requires.room in
    let size : length area ≡ 29 = c.encode.auto.into ∙ length-take-le 29 c.args.sectors.now (omega arith) in
    let front : take 29 (area ++ drop 29 c.args.sectors.now) ≡ area = take_at area (drop 29 c.args.sectors.now) 29 size in
    let put : c.put_parity.new.sectors ≡ with_parity area =
    parity_put (area ++ drop 29 c.args.sectors.now) c.put_parity.new.sectors (block_long area c.args.sectors.now size long)
    c.put_parity.ensures.parity ∙ ap with_parity front in
    subst (λ (a : List (List ℕ)). IsFreshArea c.args.geometry c.args.label.now c.args.date c.args.map.now a)
    (sym (ap (take 29) put ∙ block_data area size))
    (record {
      size = record { size = size; sectors = subst (λ (a : List (List ℕ)). All IsSector a) front c.put_parity.ensures.data };
      spells = subst (λ (n : ℕ). SpellsHeader (fresh_header n c.args.label.now c.args.date) c.args.map.now area)
          c.segments_per_track.ensures.value c.encode.ensures;
    })
