-- How far an input was taken, by what its source gave.
use Rattle.std.proofs.Common.{◌≡◌, ◌≢◌, ℕ, ◌+◌, ◌-◌, ◌≤◌, List, [], ◌++◌, length, take, drop, Option, Some, None, refl, sym, ap}
use Rattle.std.proofs.Common.{◌∙◌, subst, arith, append_assoc}
use Rattle.std.specs.Option.{option_map}
use Rattle.std.proofs.lemmas.List.{length-append, take-append-le}
use Rattle.std.proofs.lemmas.List.Elements.{All-nil, All-take}
use Rattle.command_spec.specs.Input.{AtEnd, HasItems, Reaches, ReachesLine}
use Rattle.qic_base.specs.LineBytes.{NoNewline}
use Rattle.qic_base.specs.Source.{IsInput}
use Rattle.tape_script.proofs.Rests.{left_behind}

-- ---- into a line

-- bytes of one line
abbrev pub InLine : List ℕ → Type 0
InLine came = (length came ≤ 128) × NoNewline (take (length came - 1) came)

pub in_line : (came rest : List ℕ) → InLine came → ReachesLine (came ++ rest) (length came)
in_line came rest line = (line.0, subst NoNewline (sym (take-append-le (length came - 1) came rest (omega arith))) line.1)

pub none_of_line : (back : List ℕ) → ReachesLine back 0
none_of_line back = (omega arith, All-nil (λ (b : ℕ). b ≢ 0x0A))

-- the front of a line
pub front_in_line : (came : List ℕ) → length came ≤ 127 → NoNewline came → InLine came
front_in_line came few none = (omega arith, All-take (λ (b : ℕ). b ≢ 0x0A) (length came - 1) came none)

-- ---- behind items

-- so much of an input was taken
pub record Took {I : Type 0} (Spelled : List ℕ → I → Type 0) (Did : List I → Type 0) (Into : (back : List ℕ) → ℕ → Type 0)
    (input : List ℕ) (before after : Option (List ℕ)) : Type 0 where
  pub taken : ℕ
  pub left : after ≡ option_map (drop taken) before
  pub reaches : Reaches Spelled Did Into input taken

-- The source gave the bytes of some items, and then some more; where it tells none of them, none may have been.
pub took : {I : Type 0} (Spelled : List ℕ → I → Type 0) (Did : List I → Type 0) (Into : (back : List ℕ) → ℕ → Type 0)
    (before mid after : Option (List ℕ)) (front came : List ℕ) (items : List I) (input : List ℕ) → IsInput before input →
    before ≡ option_map (λ rest. front ++ rest) mid → mid ≡ option_map (λ rest. came ++ rest) after →
    HasItems Spelled 1 0 front items AtEnd → Did items → Did [] → ((rest : List ℕ) → Into (came ++ rest) (length came)) →
    ((back : List ℕ) → Into back 0) → Took Spelled Did Into input before after
took Spelled Did Into None None None front came items input told gave more read did none into nothing = record {
  taken = 0;
  left = refl;
  reaches = record {
    front = [];
    back = input;
    parts = refl;
    items = [];
    read = refl;
    did = none;
    more = 0;
    count = refl;
    into = nothing input;
  };
}
took Spelled Did Into None None (Some rest) front came items input told gave more read did none into nothing = absurd (cc)
took Spelled Did Into None (Some behind) after front came items input told gave more read did none into nothing = absurd (cc)
took Spelled Did Into (Some bytes) None after front came items input told gave more read did none into nothing = absurd (cc)
took Spelled Did Into (Some bytes) (Some behind) None front came items input told gave more read did none into nothing = absurd (cc)
took Spelled Did Into (Some bytes) (Some behind) (Some rest) front came items input told gave more read did none into nothing =
    let back : behind ≡ came ++ rest = cc in
    let whole : bytes ≡ front ++ behind = cc in
    let all : bytes ≡ front ++ (came ++ rest) = whole ∙ ap (λ (xs : List ℕ). front ++ xs) back in
    record {
      taken = length front + length came;
      left = left_behind (Some bytes) (Some rest) (front ++ came) (length front + length came)
          (ap (λ (xs : List ℕ). Some xs) (all ∙ sym (append_assoc front came rest))) (sym (length-append front came));
      reaches = record {
        front = front;
        back = came ++ rest;
        parts = told ∙ all;
        items = items;
        read = read;
        did = did;
        more = length came;
        count = refl;
        into = into rest;
      };
    }
