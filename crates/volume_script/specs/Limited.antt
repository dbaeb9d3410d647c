-- The bytes of one line, as a source: what its calls keep (this project's own). The laws at the end are those that a source
-- has to have.
use Rattle.std.proofs.Common.{arith, ◌∙◌, ◌++◌, refl}
use Rattle.std.proofs.lemmas.List.{length-append}
use Rattle.std.specs.Prelude.{◌≡◌, ℕ, ◌+◌, [], take}
use Rattle.std.specs.Option.{option_map}
use Rattle.qic_base.specs.Source.{Meaning}
use Rattle.qic_base.specs.SourceCalls.{GaveSome}
use Rattle.qic_base.proofs.Giving.{Gave-nothing, Gave-Gave}
use Rattle.volume_script.specs.declared.limited.Limited.{Limited}

-- It lends the same source, which gave as many bytes as fewer are left of the limit.
pub record Lends {S : Type 0} (m : Meaning S) (a b : Limited S) : Type 0 where
  pub same : b.source.ghost_name ≡ a.source.ghost_name
  pub kept : m.keeps a.source.now b.source.now
  pub count : ℕ
  pub counted : a.left ≡ b.left + count
  pub gave : GaveSome m a.source.now b.source.now count

abbrev pub limited_means : {S : Type 0} → Meaning S → Meaning (Limited S)
limited_means m = record {
  left = λ l. option_map (take l.left) (m.left l.source.now);
  keeps = λ a b. Lends m a b;
  faults = λ l. m.faults l.source.now;
}

pub lends_itself : {S : Type 0} (m : Meaning S) → ((s : S) → m.keeps s s) → (a : Limited S) → Lends m a a
lends_itself m itself a = record {
  same = refl;
  kept = itself a.source.now;
  count = 0;
  counted = omega arith;
  gave = ([], refl, Gave-nothing m a.source.now a.source.now refl);
}

pub lends_on : {S : Type 0} (m : Meaning S) → ((a b c : S) → m.keeps a b → m.keeps b c → m.keeps a c) → (a b c : Limited S) → Lends m a b →
    Lends m b c → Lends m a c
lends_on m on a b c first next = record {
  same = next.same ∙ first.same;
  kept = on a.source.now b.source.now c.source.now first.kept next.kept;
  count = first.count + next.count;
  counted = let e = first.counted in let f = next.counted in omega arith;
  gave = (
    first.gave.0 ++ next.gave.0,
    (let l = length-append first.gave.0 next.gave.0 in let e = first.gave.1 in let f = next.gave.1 in omega arith),
    Gave-Gave m a.source.now b.source.now c.source.now first.gave.0 next.gave.0 first.gave.2 next.gave.2,
  );
}
