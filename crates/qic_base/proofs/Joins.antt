-- How runs over acts join.
use Rattle.std.proofs.Common.{◌≡◌, List, [], ◌∷◌, ◌++◌, refl, sym, ap, ◌∙◌, append_assoc, ℕ, Option, subst, arith, append-nil, Some}
use Rattle.std.specs.Option.{option_map}
use Rattle.qic_base.proofs.Steps.{effects-append, Rose-after, Torn-nothing, Done-nothing, Done-Done, Done-Broke, Broke-front}
use Rattle.qic_base.proofs.Writing.{TakesBoth, Wrote-Wrote}
use Rattle.qic_base.specs.Acts.{Act, steps_of, text_of, Parted, WroteAndBroke, next_steps, Outside, TapeFails, SourceFails, SinkFails, Went}
use Rattle.qic_base.specs.Acts.{TapeCut, SinkCut, SourceCut, Cut}
use Rattle.qic_base.specs.Cartridge.{Cartridge}
use Rattle.qic_base.specs.JoinLaws.{NothingWent, WentBoth, WentThenCut, CutIsLonger}
use Rattle.qic_base.specs.Step.{Step, effects, Torn}
use Rattle.qic_base.specs.Sink as sinks
use Rattle.qic_base.specs.SinkCalls as sink_calls
use Rattle.qic_base.specs.Source as sources
use Rattle.qic_base.specs.Tape as tapes

-- ---- lists of acts

pub steps_of-append : (xs ys : List Act) → steps_of (xs ++ ys) ≡ steps_of xs ++ steps_of ys
steps_of-append [] ys = refl
steps_of-append (x ∷ xs) ys =
    ap (λ (steps : List Step). x.steps ++ steps) (steps_of-append xs ys)
    ∙ sym (append_assoc x.steps (steps_of xs) (steps_of ys))

pub text_of-append : (xs ys : List Act) → text_of (xs ++ ys) ≡ text_of xs ++ text_of ys
text_of-append [] ys = refl
text_of-append (x ∷ xs) ys =
    ap (λ (text : List ℕ). x.text ++ text) (text_of-append xs ys)
    ∙ sym (append_assoc x.text (text_of xs) (text_of ys))

-- the steps of a front and some steps, behind others
pub steps_behind : (xs front : List Act) (next : List Step) → steps_of xs ++ (steps_of front ++ next) ≡ steps_of (xs ++ front) ++ next
steps_behind xs front next =
    sym (append_assoc (steps_of xs) (steps_of front) next)
    ∙ ap (λ (steps : List Step). steps ++ next) (sym (steps_of-append xs front))

-- what acts and others behind them make of a cartridge
pub effects_behind : (xs front : List Act) (held : Option Cartridge) →
    effects (steps_of front) (effects (steps_of xs) held) ≡ effects (steps_of (xs ++ front)) held
effects_behind xs front held =
    sym (effects-append (steps_of xs) (steps_of front) held)
    ∙ ap (λ (steps : List Step). effects steps held) (sym (steps_of-append xs front))

abbrev pub parted_behind : (xs ys : List Act) → Parted ys → Parted (xs ++ ys)
parted_behind xs ys at = record {
  front = xs ++ at.front;
  act = at.act;
  rest = at.rest;
  parts = append_assoc xs at.front (at.act ∷ at.rest) ∙ ap (λ (zs : List Act). xs ++ zs) at.parts;
}

abbrev pub parted_before : (xs ys : List Act) → Parted xs → Parted (xs ++ ys)
parted_before xs ys at = record {
  front = at.front;
  act = at.act;
  rest = at.rest ++ ys;
  parts = sym (append_assoc at.front (at.act ∷ at.rest) ys) ∙ ap (λ (zs : List Act). zs ++ ys) at.parts;
}

-- ---- texts that broke off

-- before the text that broke off nothing was written, ..
pub broke_first : {K : Type 0} {k : sinks.Meaning K} {a b : K} {next : List ℕ} → sink_calls.BrokeOff k a b next →
    WroteAndBroke k a b [] next
broke_first broke = record {
  part = broke.front;
  rest = broke.rest;
  parts = broke.parts;
  some = broke.some;
  took = broke.took;
  cause = broke.cause;
  later = broke.later;
}

-- .. or a text that is empty
pub broke_behind : {K : Type 0} {k : sinks.Meaning K} {a b : K} {next : List ℕ} (text : List ℕ) → text ≡ [] →
    sink_calls.BrokeOff k a b next →
    WroteAndBroke k a b text next
broke_behind {k = k} {a = a} {b = b} {next = next} text none broke =
    subst (λ (written : List ℕ). WroteAndBroke k a b written next) (sym none) (broke_first broke)

-- a text behind others broke off
pub then_broke : {K : Type 0} (k : sinks.Meaning K) → TakesBoth k → (a b c : K) (xs ys next : List ℕ) → sinks.Wrote k a b xs →
    WroteAndBroke k b c ys next →
    WroteAndBroke k a c (xs ++ ys) next
then_broke k both a b c xs ys next first broke = record {
  part = broke.part;
  rest = broke.rest;
  parts = broke.parts;
  some = broke.some;
  took = subst (λ (text : List ℕ). k.took a text c) (sym (append_assoc xs ys broke.part))
      (both a b c xs (ys ++ broke.part) first.took broke.took);
  cause = Rose-after (k.faults a) (k.faults b) (k.faults c) first.later broke.cause;
  later = let e = first.later in let f = broke.later in omega arith;
}

-- ---- acts behind those that were left

pub broke_longer : {T : Type 0} (t : tapes.Meaning T) (x y : T) (steps : List Step) (rest ys : List Act) →
    tapes.Broke t x y (steps ++ next_steps rest) → tapes.Broke t x y (steps ++ next_steps (rest ++ ys))
broke_longer t x y steps [] ys broke =
    subst (tapes.Broke t x y) (ap (λ (ss : List Step). ss ++ next_steps ys) (append-nil steps)) (Broke-front (next_steps ys) broke)
broke_longer t x y steps (act ∷ rest) ys broke = broke

pub torn_longer : (rest ys : List Act) (held left : Option Cartridge) → Torn (next_steps rest) held left →
    Torn (next_steps (rest ++ ys)) held left
torn_longer [] ys held left is = subst (Torn (next_steps ys) held) (sym is) (Torn-nothing (next_steps ys) held)
torn_longer (act ∷ rest) ys held left torn = torn

-- ---- runs

module _ {T S K : Type 0} (t : tapes.Meaning T) (s : sources.Meaning S) (k : sinks.Meaning K) where
  pub nothing_went : ((x : K) → k.took x [] x) → NothingWent t s k
  nothing_went none a = record {
    did = Done-nothing t a.tape;
    wrote = record { took = none a.sink; later = omega arith };
    source_later = omega arith;
  }

  pub went_both : TakesBoth k → WentBoth t s k
  went_both both a b c xs ys first next = record {
    did = subst (tapes.Done t a.tape c.tape) (sym (steps_of-append xs ys)) (Done-Done first.did next.did);
    wrote = subst (sinks.Wrote k a.sink c.sink) (sym (text_of-append xs ys)) (Wrote-Wrote both first.wrote next.wrote);
    source_later = let e = first.source_later in let f = next.source_later in omega arith;
  }

  -- what stands behind the front of later acts, told from the start
  pub here_behind : (a b c : Outside T S K) (xs ys : List Act) → Went t s k a b xs → (cut : TapeCut t s k b c ys) →
      (held left : Option Cartridge) →
      t.told a.tape ≡ Some held → t.told c.tape ≡ Some left → Torn (next_steps cut.rest) (effects (steps_of (xs ++ cut.front)) held) left
  here_behind a b c xs ys first cut held left told now =
      let between : t.told b.tape ≡ Some (effects (steps_of xs) held) =
      first.did.told ∙ ap (λ (o : Option (Option Cartridge)). option_map (effects (steps_of xs)) o) told in
      subst (λ (h : Option Cartridge). Torn (next_steps cut.rest) h left) (effects_behind xs cut.front held)
      (cut.here (effects (steps_of xs) held) left between now)

  abbrev pub tape_cut : TakesBoth k → (a b c : Outside T S K) (xs ys : List Act) → Went t s k a b xs → TapeCut t s k b c ys →
      TapeCut t s k a c (xs ++ ys)
  tape_cut both a b c xs ys first cut = record {
    front = xs ++ cut.front;
    rest = cut.rest;
    parts = append_assoc xs cut.front cut.rest ∙ ap (λ (zs : List Act). xs ++ zs) cut.parts;
    broke = subst (tapes.Broke t a.tape c.tape) (steps_behind xs cut.front (next_steps cut.rest)) (Done-Broke first.did cut.broke);
    here = here_behind a b c xs ys first cut;
    wrote = subst (sinks.Wrote k a.sink c.sink) (sym (text_of-append xs cut.front)) (Wrote-Wrote both first.wrote cut.wrote);
    source_later = let e = first.source_later in let f = cut.source_later in omega arith;
  }

  abbrev pub sink_cut : TakesBoth k → (a b c : Outside T S K) (xs ys : List Act) → Went t s k a b xs → SinkCut t s k b c ys →
      SinkCut t s k a c (xs ++ ys)
  sink_cut both a b c xs ys first cut = record {
    at = parted_behind xs ys cut.at;
    did = subst (tapes.Done t a.tape c.tape) (steps_behind xs cut.at.front cut.at.act.steps) (Done-Done first.did cut.did);
    broke = subst (λ (text : List ℕ). WroteAndBroke k a.sink c.sink text cut.at.act.text) (sym (text_of-append xs cut.at.front))
        (then_broke k both a.sink b.sink c.sink (text_of xs) (text_of cut.at.front) cut.at.act.text first.wrote cut.broke);
    source_later = let e = first.source_later in let f = cut.source_later in omega arith;
  }

  abbrev pub source_cut : TakesBoth k → (a b c : Outside T S K) (xs ys : List Act) → Went t s k a b xs → SourceCut t s k b c ys →
      SourceCut t s k a c (xs ++ ys)
  source_cut both a b c xs ys first cut = record {
    front = xs ++ cut.front;
    rest = cut.rest;
    parts = append_assoc xs cut.front cut.rest ∙ ap (λ (zs : List Act). xs ++ zs) cut.parts;
    did = subst (tapes.Done t a.tape c.tape) (sym (steps_of-append xs cut.front)) (Done-Done first.did cut.did);
    wrote = subst (sinks.Wrote k a.sink c.sink) (sym (text_of-append xs cut.front)) (Wrote-Wrote both first.wrote cut.wrote);
    cause = Rose-after (s.faults a.source) (s.faults b.source) (s.faults c.source) first.source_later cut.cause;
    source_later = let e = first.source_later in let f = cut.source_later in omega arith;
  }

  -- the text of one act alone broke off
  pub sink_cut_one : (a b : Outside T S K) (act : Act) → tapes.Done t a.tape b.tape act.steps →
      sink_calls.BrokeOff k a.sink b.sink act.text →
      s.faults b.source ≡ s.faults a.source → Cut t s k a b (act ∷ []) SinkFails
  sink_cut_one a b act did broke later = record {
    at = record { front = []; act = act; rest = []; parts = refl };
    did = did;
    broke = broke_first broke;
    source_later = later;
  }

  pub went_then_cut : TakesBoth k → WentThenCut t s k
  went_then_cut both a b c xs ys TapeFails first cut = tape_cut both a b c xs ys first cut
  went_then_cut both a b c xs ys SourceFails first cut = source_cut both a b c xs ys first cut
  went_then_cut both a b c xs ys SinkFails first cut = sink_cut both a b c xs ys first cut

  abbrev pub tape_cut_longer : (a b : Outside T S K) (xs ys : List Act) → TapeCut t s k a b xs → TapeCut t s k a b (xs ++ ys)
  tape_cut_longer a b xs ys cut = record {
    front = cut.front;
    rest = cut.rest ++ ys;
    parts = sym (append_assoc cut.front cut.rest ys) ∙ ap (λ (zs : List Act). zs ++ ys) cut.parts;
    broke = broke_longer t a.tape b.tape (steps_of cut.front) cut.rest ys cut.broke;
    here = λ held left told now. torn_longer cut.rest ys (effects (steps_of cut.front) held) left (cut.here held left told now);
    wrote = cut.wrote;
    source_later = cut.source_later;
  }

  abbrev pub source_cut_longer : (a b : Outside T S K) (xs ys : List Act) → SourceCut t s k a b xs → SourceCut t s k a b (xs ++ ys)
  source_cut_longer a b xs ys cut = record {
    front = cut.front;
    rest = cut.rest ++ ys;
    parts = sym (append_assoc cut.front cut.rest ys) ∙ ap (λ (zs : List Act). zs ++ ys) cut.parts;
    did = cut.did;
    wrote = cut.wrote;
    cause = cut.cause;
    source_later = cut.source_later;
  }

  abbrev pub sink_cut_longer : (a b : Outside T S K) (xs ys : List Act) → SinkCut t s k a b xs → SinkCut t s k a b (xs ++ ys)
  sink_cut_longer a b xs ys cut = record {
    at = parted_before xs ys cut.at;
    did = cut.did;
    broke = cut.broke;
    source_later = cut.source_later;
  }

  pub cut_is_longer : CutIsLonger t s k
  cut_is_longer a b xs ys TapeFails cut = tape_cut_longer a b xs ys cut
  cut_is_longer a b xs ys SourceFails cut = source_cut_longer a b xs ys cut
  cut_is_longer a b xs ys SinkFails cut = sink_cut_longer a b xs ys cut
