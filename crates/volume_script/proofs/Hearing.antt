-- What one line of the input did, from the line that was read and what was done with it.
use Rattle.std.proofs.Common.{◌≡◌, ◌≢◌, ℕ, ◌+◌, ◌<◌, ◌≤◌, nat_le, leb-true, leb-false, List, [], ◌++◌, length, take, drop, Option, Some}
use Rattle.std.proofs.Common.{None, IfSome, Err, codes, refl, sym, ap, ◌∙◌, subst, arith, inl, inr, append_assoc}
use Rattle.std.specs.Option.{option_map}
use Rattle.std.proofs.lemmas.Bool.{cases_Bool}
use Rattle.std.proofs.lemmas.List.{length-append, length-take-le, take-append-drop}
use Rattle.qic_base.specs.Cartridge.{Cartridge}
use Rattle.qic_base.specs.Tape.{Rose}
use Rattle.qic_base.specs.Sink as sinks
use Rattle.qic_base.specs.Source as sources
use Rattle.qic_base.specs.Tape as tapes
use Rattle.qic_base.proofs.Steps.{Rose-after, Tells-map, Done-nothing}
use Rattle.qic_base.specs.Acts.{Act, Outside, Failing, TapeFails, SourceFails, SinkFails, Went, Cut}
use Rattle.qic_base.proofs.Joins.{cut_is_longer}
use Rattle.segment_io.proofs.Going.{tells_always}
use Rattle.command_spec.specs.declared.line.Line.{Line}
use Rattle.command_spec.specs.declared.status.Status.{Status}
use Rattle.qic_base.specs.declared.store_fault.StoreFault.{StoreFault}
use Rattle.qic_base.specs.declared.store_fault.StoreFault.TheVariants as fault
use Rattle.command_spec.specs.declared.line.Line.TheVariants as line
use Rattle.command_spec.specs.Input.{AtEnd, AtStop, AtFault, EndsEarly, promised, most_items, IsLineText}
use Rattle.command_spec.specs.Script.{ReachesItem}
use Rattle.qic_base.specs.LineBytes.{NoNewline}
use Rattle.qic_base.specs.SourceCalls.{Gave}
use Rattle.tape_script.specs.Reading.{GaveFront, GaveInLine, GaveNoEnd, BeginsWithNo}
use Rattle.qic_base.proofs.Giving.{Gave-Gave}
use Rattle.tape_script.proofs.Lined.{IsLined-one_newline}
use Rattle.tape_script.proofs.Reaching.{front_in_line, in_line}
use Rattle.tape_script.proofs.Rests.{whole_told}
use Rattle.volume_store.specs.Mounting.{StoreView}
use Rattle.volume_script.specs.Heard.{HeardItem, HeardShort, HeardCut, Hears, InItem, NextDoes, status_behind}
use Rattle.command_laws.specs.Inputs.{IsLine}
use Rattle.command_laws.specs.ScriptItems.{EarlyDoes}
use Rattle.volume_script.specs.Items.{ItemDone, ItemEnds, ItemShort, ItemCut, ItemMismatched, WouldDo}
use Rattle.command_spec.specs.Script.{LineDoes}
use Rattle.volume_script.proofs.Appended.{flip}
use Rattle.volume_script.proofs.Content.{any_bytes, content_behind}
use Rattle.volume_script.proofs.Input.{end_is_line, item_of, line_of_item, line_short, some_text}
use Rattle.command_laws.proofs.ScriptInput.{same_line}
use Rattle.command_laws.proofs.ScriptLifting.{TakesNone}
use Rattle.qic_base.specs.Alone.{outside}

-- an append's line with too few bytes behind it
abbrev pub early_of : (text bytes : List ℕ) (asked : Line) → IsLineText text asked → length bytes < promised asked →
    EndsEarly (text ++ bytes)
early_of text bytes (line.Append name n date) is short =
    record { name = name; promised = n; date = date; text = text; bytes = bytes; lined = is; parts = refl; short = short }
early_of text bytes line.List is short = absurd (omega arith)
early_of text bytes (line.Restore number) is short = absurd (omega arith)
early_of text bytes line.Scrub is short = absurd (omega arith)
early_of text bytes (line.Lose segment sector) is short = absurd (omega arith)
early_of text bytes line.End is short = absurd (omega arith)

-- ---- how far a line that was cut off reaches

-- the front of a line
pub front_into : (came : List ℕ) → length came ≤ 127 → NoNewline came → InItem came
front_into came few none rest = inl (in_line came rest (front_in_line came few none))

-- a line, and some of the bytes that it promises: of those that follow it there are enough, or they end early
into_item : (text : List ℕ) (asked : Line) → IsLineText text asked → asked ≢ line.End → (given rest : List ℕ) →
    length given ≤ promised asked → ReachesItem ((text ++ given) ++ rest) (length (text ++ given))
into_item text asked is other given rest few = elim (cases_Bool (nat_le (promised asked) (length (given ++ rest)))) [
  | inl enough ↦
      let n : ℕ = promised asked in
      let behind : List ℕ = given ++ rest in
      let long : length (take n behind) ≡ n = length-take-le n behind (leb-true n (length behind) enough) in
      inr (inl (
        record { line = asked; bytes = take n behind },
        (
          text ++ take n behind,
          (
            drop n behind,
            (
              append_assoc text given rest ∙ ap (λ (bs : List ℕ). text ++ bs) (sym (take-append-drop n behind))
                  ∙ sym (append_assoc text (take n behind) (drop n behind)),
              item_of text (take n behind) asked is other long,
              omega (arith, length-append text given, length-append text (take n behind)),
            ),
          ),
        ),
      ))
  | inr fewer ↦
      inr (inr (subst EndsEarly (sym (append_assoc text given rest))
      (early_of text (given ++ rest) asked is (leb-false (promised asked) (length (given ++ rest)) fewer))))
]

-- ---- behind the last line that may be an item

no_stop_behind : (o p : Option (List ℕ)) (text : List ℕ) (asked : Line) → IsLineText text asked → asked ≢ line.End →
    o ≡ option_map (λ rest. text ++ rest) p →
    IfSome o (λ all. (t rest : List ℕ) → all ≡ t ++ rest → ¬ (t ≡ codes "end\n"))
no_stop_behind None p text asked is other gave = tt
no_stop_behind (Some all) None text asked is other gave = absurd (cc)
no_stop_behind (Some all) (Some behind) text asked is other gave = λ t rest parts stop.
    let same : all ≡ text ++ behind = cc in
    other (same_line text (codes "end\n") behind rest asked line.End is end_is_line
    (sym same ∙ parts ∙ ap (λ (l : List ℕ). l ++ rest) stop)).items

pub on_line : {S : Type 0} (s : sources.Meaning S) (i j : S) (asked : Line) (n : ℕ) → asked ≢ line.End →
    (text : List ℕ) × IsLineText text asked × (length text ≡ n) × Gave s i j text → GaveNoEnd s i j
on_line s i j asked n other read = record {
  n = n;
  some = let l = some_text read.0 asked read.1 in let m = read.2 in omega arith;
  few = let l = line_short read.0 asked read.1 in let m = read.2 in omega arith;
  gave = (
    read.0,
    read.2,
    read.3,
    IsLined-one_newline (λ before. IsLine before asked) read.0 n read.2 read.1,
    inl (read.1.before, read.1.whole),
  );
  no_stop = no_stop_behind (s.left i) (s.left j) read.0 asked read.1 other read.3;
}

no_stop_there : (o : Option (List ℕ)) → IfSome o (λ all. (text rest : List ℕ) → all ≡ text ++ rest → ¬ (IsLineText text line.End)) →
    IfSome o (λ all. (t rest : List ℕ) → all ≡ t ++ rest → ¬ (t ≡ codes "end\n"))
no_stop_there None no_line = tt
no_stop_there (Some all) no_line = λ t rest parts stop. no_line t rest parts
    (subst (λ (l : List ℕ). IsLineText l line.End) (sym stop) end_is_line)

pub on_bad : {S : Type 0} (s : sources.Meaning S) (i j : S) (n : ℕ) → 0 < n → n ≤ 128 → GaveInLine s i j n →
    ((asked : Line) → BeginsWithNo s i (λ text. IsLineText text asked)) → GaveNoEnd s i j
on_bad s i j n some few gave no_line = record {
  n = n;
  some = some;
  few = few;
  gave = gave;
  no_stop = no_stop_there (s.left i) (no_line line.End);
}

module _ {T S K : Type 0} (t : tapes.Meaning T) (s : sources.Meaning S) (k : sinks.Meaning K) where
  -- ---- from before the line was read

  pub earlier_went : (a : T) (i m : S) (x : K) (new : Outside T S K) (acts : List Act) → s.faults m ≡ s.faults i →
      Went t s k (outside a m x) new acts → Went t s k (outside a i x) new acts
  earlier_went a i m x new acts later went = record {
    did = went.did;
    wrote = went.wrote;
    source_later = let e = went.source_later in
        omega arith;
  }

  pub earlier_cut : (a : T) (i m : S) (x : K) (new : Outside T S K) (acts : List Act) (failing : Failing) → s.faults m ≡ s.faults i →
      Cut t s k (outside a m x) new acts failing →
      Cut t s k (outside a i x) new acts failing
  earlier_cut a i m x new acts TapeFails later cut = record {
    front = cut.front;
    rest = cut.rest;
    parts = cut.parts;
    broke = cut.broke;
    here = cut.here;
    wrote = cut.wrote;
    source_later = let e = cut.source_later in omega arith;
  }
  earlier_cut a i m x new acts SourceFails later cut = record {
    front = cut.front;
    rest = cut.rest;
    parts = cut.parts;
    did = cut.did;
    wrote = cut.wrote;
    cause = Rose-after (s.faults i) (s.faults m) (s.faults new.source) later cut.cause;
    source_later = let e = cut.source_later in omega arith;
  }
  earlier_cut a i m x new acts SinkFails later cut =
      record { at = cut.at; did = cut.did; broke = cut.broke; source_later = let e = cut.source_later in omega arith }

  module _ (store after : StoreView) (a b : T) (i m j : S) (x y : K) (later : s.faults m ≡ s.faults i) where
    -- ---- a line that is no end

    module _ (asked : Line) (text : List ℕ) (is : IsLineText text asked) (other : asked ≢ line.End) (gave : Gave s i m text) where
      pub heard_item : (n : ℕ) → length text ≡ n → ItemDone t s k store after (outside a m x) (outside b j y) asked →
          HeardItem t s k store after (outside a i x) (outside b j y) (n + promised asked)
      heard_item n long done = record {
        item = record { line = asked; bytes = done.bytes };
        text = text ++ done.bytes;
        is = item_of text done.bytes asked is other done.kept;
        long = (let l = length-append text done.bytes in let kept = done.kept in omega arith);
        gave = Gave-Gave s i m j text done.bytes gave done.gave;
        content = content_behind (s.left i) (s.left m) text done.bytes asked is gave done.content;
        acts = done.acts;
        went = earlier_went a i m x (outside b j y) done.acts later done.went;
        told = done.told;
      }

      pub heard_short : (read : ℕ) → ItemShort t s k store (outside a m x) (outside b j y) asked read → HeardShort t s k store
          (outside a i x) (outside b j y)
      heard_short read short = record {
        asked = asked;
        text = text;
        is = is;
        bytes = short.bytes;
        short = short.short;
        gave = Gave-Gave s i m j text short.bytes gave short.gave;
        content = content_behind (s.left i) (s.left m) text short.bytes asked is gave short.content;
        ended = short.ended;
        acts = short.acts;
        went = earlier_went a i m x (outside b j y) short.acts later short.went;
        told = short.told;
      }

      pub heard_mismatch : ItemMismatched t s k (outside a m x) (outside b j y) → ItemMismatched t s k (outside a i x) (outside b j y)
      heard_mismatch mismatch = record {
        acts = mismatch.acts;
        went = earlier_went a i m x (outside b j y) mismatch.acts later mismatch.went;
        told = mismatch.told;
        bytes = text ++ mismatch.bytes;
        gave = Gave-Gave s i m j text mismatch.bytes gave mismatch.gave;
      }

      -- what the plain machine does next is what the line would do
      would_next : (c : Cartridge) (number place : ℕ) (rest : List ℕ) (acts : List Act) → number ≤ most_items →
          NextDoes c store.words store.entries number place (text ++ rest) acts →
          WouldDo c store.words store.entries asked rest acts
      would_next c number place rest acts within (inl (below, (item, (front, (behind, (parts, item_is, (did, same, does))))))) =
          let one = line_of_item text rest front behind asked item is item_is parts in
          inl (
            item.bytes,
            (
              behind,
              (
                sym one.rests,
                item_is.kept ∙ ap promised one.items,
                (did, same, subst (λ (l : Line). LineDoes c store.words store.entries l item.bytes did) one.items does),
              ),
            ),
          )
      would_next c number place rest acts within (inr (AtEnd, ends, does)) =
          absurd (let l = ap length ends in let e = length-append text rest in let n = some_text text asked is in omega arith)
      would_next c number place rest acts within (inr (AtStop, ends, does)) =
          absurd (other (same_line text (codes "end\n") rest ends.0 asked line.End is end_is_line ends.1).items)
      would_next c number place rest acts within (inr (AtFault line_number at, ends, inl (below, (early, (meeting, meets, are))))) =
          let one = same_line text early.text rest early.bytes asked (line.Append early.name early.promised early.date) is early.lined
          early.parts in
          let does : EarlyDoes c store.words store.entries (line.Append early.name early.promised early.date) early.bytes acts =
          (meeting, meets, are) in
          inr (
            (let e = early.short in let r = ap length one.rests in let p = ap promised one.items in omega arith),
            subst (λ (bs : List ℕ). EarlyDoes c store.words store.entries asked bs acts) (sym one.rests)
                (subst (λ (l : Line). EarlyDoes c store.words store.entries l early.bytes acts) (sym one.items) does),
          )
      would_next c number place rest acts within (inr (AtFault line_number at, ends, inr (never, are))) =
          elim (cases_Bool (nat_le (promised asked) (length rest))) [
            | inl enough ↦
                let n : ℕ = promised asked in
                absurd (ends.0.no_item within (
                  record { line = asked; bytes = take n rest },
                  (
                    text ++ take n rest,
                    (
                      drop n rest,
                      (
                        ap (λ (bs : List ℕ). text ++ bs) (sym (take-append-drop n rest))
                            ∙ sym (append_assoc text (take n rest) (drop n rest)),
                        item_of text (take n rest) asked is other (length-take-le n rest (leb-true n (length rest) enough)),
                      ),
                    ),
                  ),
                ))
            | inr few ↦
                absurd (never (let e = ends.1 in omega arith)
                (early_of text rest asked is (leb-false (promised asked) (length rest) few)))
          ]

      pub heard_cut : (number place : ℕ) (failing : Failing) → number ≤ most_items → ItemCut t s k store (outside a m x)
          (outside b j y) asked failing →
          HeardCut t s k store (outside a i x) (outside b j y) number place failing
      heard_cut number place failing within cut = record {
        rest = text ++ cut.rest;
        is_told = flip (s.left i) (text ++ cut.rest) (whole_told (s.left i) (s.left m) text cut.rest gave cut.is_told);
        content = content_behind (s.left i) (s.left m) text cut.rest asked is gave cut.content;
        told = Tells-map t a (λ c. (acts : List Act) → WouldDo c store.words store.entries asked cut.rest acts →
            Cut t s k (outside a m x) (outside b j y) acts failing)
            (λ c. (acts : List Act) → NextDoes c store.words store.entries number place (text ++ cut.rest) acts →
            Cut t s k (outside a i x) (outside b j y) acts failing)
            (λ c each acts next. earlier_cut a i m x (outside b j y) acts failing later
            (each acts (would_next c number place cut.rest acts within next))) cut.told;
        given = text ++ cut.given;
        gave = Gave-Gave s i m j text cut.given gave cut.gave;
        into = λ rest. into_item text asked is other cut.given rest cut.few;
        acts = cut.acts;
        cut = earlier_cut a i m x (outside b j y) cut.acts failing later cut.cut;
      }

      -- a fault that is no refusal
      pub ends_script : (number place : ℕ) (why : StoreFault) → ItemEnds t s k store after (outside a m x) (outside b j y) asked (Err why) →
          status_behind why number place ≢ None
      ends_script number place (fault.Short all read) ends none = cc
      ends_script number place fault.TableMismatch ends none = cc
      ends_script number place fault.Source ends none = cc
      ends_script number place fault.Sink ends none = cc
      ends_script number place fault.Tape ends none = cc
      ends_script number place f ends none = absurd ends

      heard_failing : (number place : ℕ) (why : StoreFault) → number ≤ most_items →
          ItemEnds t s k store after (outside a m x) (outside b j y) asked (Err why) →
          IfSome (status_behind why number place)
          (λ answer. Hears t s k store after (outside a i x) (outside b j y) number place (Err answer))
      heard_failing number place (fault.Short all read) within ends = (refl, refl, inr (heard_short read ends.1))
      heard_failing number place fault.TableMismatch within ends = heard_mismatch ends
      heard_failing number place fault.Source within ends = heard_cut number place SourceFails within ends
      heard_failing number place fault.Sink within ends = heard_cut number place SinkFails within ends
      heard_failing number place fault.Tape within ends = heard_cut number place TapeFails within ends
      heard_failing number place f within ends = absurd ends

      pub heard_failed : (number place : ℕ) (why : StoreFault) (answer : Status) → number ≤ most_items →
          Some answer ≡ status_behind why number place →
          ItemEnds t s k store after (outside a m x) (outside b j y) asked (Err why) →
          Hears t s k store after (outside a i x) (outside b j y) number place (Err answer)
      heard_failed number place why answer within is ends =
          subst (λ (o : Option Status). IfSome o
          (λ status. Hears t s k store after (outside a i x) (outside b j y) number place (Err status))) (sym is)
          (heard_failing number place why within ends)

  module _ (store after : StoreView) (a b : T) (i m j : S) (x y : K) (later : s.faults i ≤ s.faults m) where
    -- ---- the source failed before the line's end

    pub unheard : TakesNone k → (number place : ℕ) → Rose (s.faults i) (s.faults m) → GaveFront s i m → HeardCut t s k store (outside a i x)
        (outside a m x) number place SourceFails
    unheard none number place rose front =
        let rest = any_bytes (s.left i) in
        let cut : Cut t s k (outside a i x) (outside a m x) [] SourceFails = record {
          front = [];
          rest = [];
          parts = refl;
          did = Done-nothing t a;
          wrote = record { took = none x; later = omega arith };
          cause = rose;
          source_later = later;
        } in
        record {
          rest = rest.rest;
          is_told = rest.told;
          content = rest.content;
          told = tells_always t a (λ c. (acts : List Act) → NextDoes c store.words store.entries number place rest.rest acts →
              Cut t s k (outside a i x) (outside a m x) acts SourceFails)
              (λ c acts next. cut_is_longer t s k (outside a i x) (outside a m x) [] acts SourceFails cut);
          given = front.0;
          gave = front.3;
          into = front_into front.0 front.1 front.2;
          acts = [];
          cut = cut;
        }
