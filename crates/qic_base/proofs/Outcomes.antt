-- What follows of acts that were cut off: for the tape, for its stops, for the text and for the counts.
use Rattle.std.proofs.Common.{◌≡◌, arith, List, ◌∷◌, ◌++◌, sym, ap, ◌∙◌, append_assoc, [], refl, ℕ, Option, Some, None, IsSomeAnd}
use Rattle.std.proofs.Common.{subst}
use Rattle.std.specs.Option.{option_map}
use Rattle.std.specs.Prelude.{is_some}
use Rattle.qic_base.proofs.Joins.{steps_of-append, text_of-append}
use Rattle.qic_base.proofs.Steps.{Torn-all, Torn-front, Stops-front}
use Rattle.qic_base.specs.Acts.{Act, steps_of, Parted, next_steps, text_of, TapeFails, SourceFails, SinkFails}
use Rattle.qic_base.specs.Cartridge.{Cartridge}
use Rattle.qic_base.specs.JoinLaws.{CutIsTorn, CutStops, CutTookFront, CutFellNone, CutOthersStood, CutRose}
use Rattle.qic_base.specs.Step.{Step, effects, Torn}
use Rattle.qic_base.specs.Sink as sinks
use Rattle.qic_base.specs.Source as sources
use Rattle.qic_base.specs.Tape as tapes

-- the steps of a front and of the next act are the first of all
steps_parted : (acts : List Act) (at : Parted acts) → (steps_of at.front ++ at.act.steps) ++ steps_of at.rest ≡ steps_of acts
steps_parted acts at =
    append_assoc (steps_of at.front) at.act.steps (steps_of at.rest)
    ∙ sym (steps_of-append at.front (at.act ∷ at.rest))
    ∙ ap (λ (xs : List Act). steps_of xs) at.parts

-- and so are those of a front, and of the first act behind it
behind_next : List Act → List Act
behind_next [] = []
behind_next (act ∷ acts) = acts

next_first : (rest : List Act) → next_steps rest ++ steps_of (behind_next rest) ≡ steps_of rest
unfolding behind_next
next_first [] = refl
next_first (act ∷ rest) = refl

steps_cut : (acts front rest : List Act) → front ++ rest ≡ acts →
    (steps_of front ++ next_steps rest) ++ steps_of (behind_next rest) ≡ steps_of acts
steps_cut acts front rest parts =
    append_assoc (steps_of front) (next_steps rest) (steps_of (behind_next rest))
    ∙ ap (λ (steps : List Step). steps_of front ++ steps) (next_first rest)
    ∙ sym (steps_of-append front rest)
    ∙ ap (λ (xs : List Act). steps_of xs) parts

steps_fronted : (acts front rest : List Act) → front ++ rest ≡ acts → steps_of front ++ steps_of rest ≡ steps_of acts
steps_fronted acts front rest parts = sym (steps_of-append front rest) ∙ ap (λ (xs : List Act). steps_of xs) parts

text_fronted : (acts front rest : List Act) → front ++ rest ≡ acts → text_of front ++ text_of rest ≡ text_of acts
text_fronted acts front rest parts = sym (text_of-append front rest) ∙ ap (λ (xs : List Act). text_of xs) parts

module _ {T S K : Type 0} (t : tapes.Meaning T) (s : sources.Meaning S) (k : sinks.Meaning K) where
  done_torn : (x y : T) (steps more all : List Step) (held : Option Cartridge) → steps ++ more ≡ all → tapes.Done t x y steps →
      t.told x ≡ Some held →
      IsSomeAnd (t.told y) (λ left. Torn all held left)
  done_torn x y steps more all held parts did told =
      let now : t.told y ≡ Some (effects steps held) = did.told
      ∙ ap (λ (o : Option (Option Cartridge)). option_map (effects steps) o) told in
      let torn : Torn all held (effects steps held) =
      subst (λ (ss : List Step). Torn ss held (effects steps held)) parts
      (Torn-front steps more held (effects steps held) (Torn-all steps held)) in
      subst (λ (o : Option (Option Cartridge)). IsSomeAnd o (λ left. Torn all held left)) (sym now) torn

  some_torn : (o : Option (Option Cartridge)) (steps more all : List Step) (held : Option Cartridge) → steps ++ more ≡ all →
      is_some o ≡ is_some (Some held) →
      ((left : Option Cartridge) → o ≡ Some left → Torn steps held left) → IsSomeAnd o (λ left. Torn all held left)
  some_torn None steps more all held parts tells torn = absurd (cc)
  some_torn (Some left) steps more all held parts tells torn =
      subst (λ (ss : List Step). Torn ss held left) parts (Torn-front steps more held left (torn left refl))

  broke_torn : (x y : T) (steps more all : List Step) (held : Option Cartridge) → steps ++ more ≡ all → tapes.Broke t x y steps →
      t.told x ≡ Some held →
      IsSomeAnd (t.told y) (λ left. Torn all held left)
  broke_torn x y steps more all held parts broke told =
      some_torn (t.told y) steps more all held parts
      (broke.tells ∙ ap (λ (o : Option (Option Cartridge)). is_some o) told)
      (λ left now. broke.torn held left told now)

  pub cut_is_torn : CutIsTorn t s k
  cut_is_torn a b acts TapeFails held cut told =
      broke_torn a.tape b.tape (steps_of cut.front ++ next_steps cut.rest) (steps_of (behind_next cut.rest)) (steps_of acts) held
      (steps_cut acts cut.front cut.rest cut.parts) cut.broke told
  cut_is_torn a b acts SourceFails held cut told =
      done_torn a.tape b.tape (steps_of cut.front) (steps_of cut.rest) (steps_of acts) held
      (steps_fronted acts cut.front cut.rest cut.parts) cut.did told
  cut_is_torn a b acts SinkFails held cut told =
      done_torn a.tape b.tape (steps_of cut.at.front ++ cut.at.act.steps) (steps_of cut.at.rest) (steps_of acts) held
      (steps_parted acts cut.at) cut.did told

  pub cut_stops : CutStops t s k
  cut_stops a b acts TapeFails cut =
      subst (tapes.Stops t a.tape b.tape) (steps_cut acts cut.front cut.rest cut.parts)
      (Stops-front (steps_of (behind_next cut.rest)) cut.broke.stops)
  cut_stops a b acts SourceFails cut =
      subst (tapes.Stops t a.tape b.tape) (steps_fronted acts cut.front cut.rest cut.parts) (Stops-front (steps_of cut.rest) cut.did.stops)
  cut_stops a b acts SinkFails cut =
      subst (tapes.Stops t a.tape b.tape) (steps_parted acts cut.at) (Stops-front (steps_of cut.at.rest) cut.did.stops)

  pub cut_took_front : CutTookFront t s k
  cut_took_front a b acts TapeFails cut = record {
    front = text_of cut.front;
    rest = text_of cut.rest;
    parts = text_fronted acts cut.front cut.rest cut.parts;
    took = cut.wrote.took;
  }
  cut_took_front a b acts SourceFails cut = record {
    front = text_of cut.front;
    rest = text_of cut.rest;
    parts = text_fronted acts cut.front cut.rest cut.parts;
    took = cut.wrote.took;
  }
  cut_took_front a b acts SinkFails cut =
      let before : List ℕ = text_of cut.at.front in
      let part : List ℕ = cut.broke.part in
      let behind : List ℕ = text_of cut.at.rest in
      record {
        front = before ++ part;
        rest = cut.broke.rest ++ behind;
        parts = append_assoc before part (cut.broke.rest ++ behind)
            ∙ ap (λ (text : List ℕ). before ++ text) (sym (append_assoc part cut.broke.rest behind))
            ∙ ap (λ (text : List ℕ). before ++ (text ++ behind)) cut.broke.parts
            ∙ text_fronted acts cut.at.front (cut.at.act ∷ cut.at.rest) cut.at.parts;
        took = cut.broke.took;
      }

  pub cut_fell_none : CutFellNone t s k
  cut_fell_none a b acts TapeFails cut =
      record { tape = cut.broke.later; source = let e = cut.source_later in omega arith; sink = let e = cut.wrote.later in omega arith }
  cut_fell_none a b acts SourceFails cut =
      record { tape = let e = cut.did.later in omega arith; source = cut.source_later; sink = let e = cut.wrote.later in omega arith }
  cut_fell_none a b acts SinkFails cut =
      record { tape = let e = cut.did.later in omega arith; source = let e = cut.source_later in omega arith; sink = cut.broke.later }

  pub cut_others_stood : CutOthersStood t s k
  cut_others_stood a b acts TapeFails cut = (cut.source_later, cut.wrote.later)
  cut_others_stood a b acts SourceFails cut = (cut.did.later, cut.wrote.later)
  cut_others_stood a b acts SinkFails cut = (cut.did.later, cut.source_later)

  pub cut_rose : CutRose t s k
  cut_rose a b acts TapeFails cut = cut.broke.cause
  cut_rose a b acts SourceFails cut = cut.cause
  cut_rose a b acts SinkFails cut = cut.broke.cause
