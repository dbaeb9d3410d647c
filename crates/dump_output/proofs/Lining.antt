-- The map of bytes, while their marks are added.
use Rattle.std.proofs.Common.{◌≡◌, ℕ, zero, suc, ◌+◌, ◌-◌, ◌*◌, ◌≤◌, List, [], ◌++◌, length, take, replicate, min}
use Rattle.std.proofs.Common.{refl, sym, ap, subst, ◌∙◌, arith, append_assoc, append-nil, zero-add}
use Rattle.std.proofs.lemmas.Grind.{flat_map-append}
use Rattle.std.proofs.lemmas.List.{length-append, length-replicate}
use Rattle.std.specs.List.{flat_map, range_with_len}
use Rattle.dump_spec.specs.Output.{mark_blocks, sure_head, sure_text}
use Rattle.dump_spec.specs.declared.mark.Mark.{Mark}
use Rattle.dump_output.specs.Marks.{marks_in}
use Rattle.dump_output.specs.SoFar.{MapSoFar}
use Rattle.qic_base.proofs.Arrays.{range_part}
use Rattle.dump_output.proofs.Fronts.{take_both, take_copies}
use Rattle.qic_base.specs.Sink.{Meaning, Wrote}
use Rattle.qic_base.specs.SinkCalls.{BrokeOff}
use Rattle.qic_base.proofs.Writing.{TakesBoth, Wrote-Wrote, Wrote-BrokeOff, BrokeOff-longer}
use Rattle.rescue_map.specs.Text.{blocks_text}
use Rattle.segment_salvage.specs.Reading.{mark_of}
use Rattle.segment_salvage.specs.declared.reading.SegmentReading.{SegmentReading}
use Rattle.sure_map.specs.Maps.{IsMapOf, ended_line, last_line}
use Rattle.sure_map.specs.Runs.{blocks_from}
use Rattle.sure_map.specs.declared.map.SureMap.{SureMap}

-- ---- the marks of a segment

range_long : (reading : SegmentReading) (a n : ℕ) →
    length (flat_map (λ place. replicate 1024 (mark_of reading place)) (range_with_len a n)) ≡ 1024 * n
range_long reading a zero = refl
range_long reading a (suc n) =
    let here = length-append (replicate 1024 (mark_of reading a))
    (flat_map (λ place. replicate 1024 (mark_of reading place)) (range_with_len (a + 1) n)) in
    let one = length-replicate 1024 (mark_of reading a) in
    let more = range_long reading (a + 1) n in
    omega arith

pub marks_in_long : (reading : SegmentReading) (sectors : ℕ) → length (marks_in reading sectors) ≡ 1024 * sectors
marks_in_long reading sectors = range_long reading 0 sectors

-- those of the first sectors, and of those behind them
marks_part : (reading : SegmentReading) (place more : ℕ) → marks_in reading (place + more)
    ≡ marks_in reading place ++ flat_map (λ p. replicate 1024 (mark_of reading p)) (range_with_len (0 + place) more)
marks_part reading place more =
    ap (flat_map (λ p. replicate 1024 (mark_of reading p))) (range_part 0 place more)
    ∙ flat_map-append (λ p. replicate 1024 (mark_of reading p)) (range_with_len 0 place) (range_with_len (0 + place) more)

-- one sector more
pub marks_more : (reading : SegmentReading) (bytes left place count : ℕ) → left ≡ bytes - 1024 * place → count ≡ min left 1024 →
    take bytes (marks_in reading place) ++ replicate count (mark_of reading place) ≡ take bytes (marks_in reading (place + 1))
marks_more reading bytes left place count is few =
    let long = marks_in_long reading place in
    let here : bytes - length (marks_in reading place) ≡ left = omega arith in
    sym (ap (take bytes) (marks_part reading place 1
    ∙ ap (λ (p : ℕ). marks_in reading place ++ (replicate 1024 (mark_of reading p) ++ [])) (zero-add place)
    ∙ ap (λ (ms : List Mark). marks_in reading place ++ ms) (append-nil (replicate 1024 (mark_of reading place))))
    ∙ take_both bytes (marks_in reading place) (replicate 1024 (mark_of reading place))
    ∙ ap (λ (n : ℕ). take bytes (marks_in reading place) ++ take n (replicate 1024 (mark_of reading place))) here
    ∙ ap (λ (ms : List Mark). take bytes (marks_in reading place) ++ ms) (take_copies left 1024 (mark_of reading place))
    ∙ ap (λ (n : ℕ). take bytes (marks_in reading place) ++ replicate n (mark_of reading place)) (sym few))

pub marks_grow : (marks : List Mark) (reading : SegmentReading) (bytes left place count : ℕ) (mark : Mark) →
    left ≡ bytes - 1024 * place → count ≡ min left 1024 → mark ≡ mark_of reading place →
    (marks ++ take bytes (marks_in reading place)) ++ replicate count mark ≡ marks ++ take bytes (marks_in reading (place + 1))
marks_grow marks reading bytes left place count mark is few of =
    append_assoc marks (take bytes (marks_in reading place)) (replicate count mark)
    ∙ ap (λ (ms : List Mark). marks ++ ms)
    (ap (λ m. take bytes (marks_in reading place) ++ replicate count m) of ∙ marks_more reading bytes left place count is few)

-- and those of the others
pub marks_behind : (reading : SegmentReading) (bytes place sectors : ℕ) → place ≤ sectors →
    (rest : List Mark) × (take bytes (marks_in reading sectors) ≡ take bytes (marks_in reading place) ++ rest)
marks_behind reading bytes place sectors low =
    let all : sectors ≡ place + (sectors - place) = omega arith in (
      take (bytes - length (marks_in reading place))
          (flat_map (λ p. replicate 1024 (mark_of reading p)) (range_with_len (0 + place) (sectors - place))),
      ap (λ (n : ℕ). take bytes (marks_in reading n)) all ∙ ap (take bytes) (marks_part reading place (sectors - place))
          ∙ take_both bytes (marks_in reading place)
          (flat_map (λ p. replicate 1024 (mark_of reading p)) (range_with_len (0 + place) (sectors - place))),
    )

-- ---- lines

-- what a push keeps
abbrev pub Pushes : (old new : SureMap) → Mark → (count : ℕ) → Type 0
Pushes old new mark count =
    (marks : List Mark) (front : List ℕ) → IsMapOf old marks front →
    IsMapOf new (marks ++ replicate count mark) (front ++ ended_line old mark count)

pub pushed_more : {M : Type 0} {s : Meaning M} {from old new : M} (both : TakesBoth s) (map next : SureMap) (mark : Mark) (count : ℕ)
    (marks : List Mark) → Pushes map next mark count → MapSoFar s from old map marks → Wrote s old new (ended_line map mark count) →
    MapSoFar s from new next (marks ++ replicate count mark)
pushed_more both map next mark count marks pushes before wrote = record {
  front = before.front ++ ended_line map mark count;
  wrote = Wrote-Wrote both before.wrote wrote;
  is = pushes marks before.front before.is;
}

pub push_broke : {M : Type 0} {s : Meaning M} {from old new : M} (both : TakesBoth s) (map next : SureMap) (mark : Mark) (count : ℕ)
    (marks all : List Mark) (rest : List Mark) → Pushes map next mark count → MapSoFar s from old map marks →
    BrokeOff s old new (ended_line map mark count) → all ≡ (marks ++ replicate count mark) ++ rest →
    (more : List Mark) → BrokeOff s from new (sure_text (all ++ more))
push_broke {s = s} {from = from} {new = new} both map next mark count marks all rest pushes before broke is more =
    let here = pushes marks before.front before.is in
    let text : (marks ++ replicate count mark) ++ (rest ++ more) ≡ all ++ more =
    sym (append_assoc (marks ++ replicate count mark) rest more) ∙ ap (λ (ms : List Mark). ms ++ more) (sym is) in
    subst (λ (ms : List Mark). BrokeOff s from new (sure_text ms)) text
    (BrokeOff-longer (blocks_text (blocks_from next.run (rest ++ more))) (sure_text ((marks ++ replicate count mark) ++ (rest ++ more)))
    (here.text (rest ++ more)) (Wrote-BrokeOff both before.wrote broke))

-- ---- the begin and the end of a map

pub begin_broke : {M : Type 0} {s : Meaning M} {old new : M} (marks : List Mark) → BrokeOff s old new sure_head →
    BrokeOff s old new (sure_text marks)
begin_broke marks broke = BrokeOff-longer (blocks_text (mark_blocks 0 marks)) (sure_text marks) refl broke

pub finished : {M : Type 0} {s : Meaning M} {from old new : M} (both : TakesBoth s) (map : SureMap) (marks : List Mark) →
    ((ms : List Mark) (front : List ℕ) → IsMapOf map ms front → front ++ last_line map ≡ sure_text ms) →
    MapSoFar s from old map marks → Wrote s old new (last_line map) → Wrote s from new (sure_text marks)
finished {s = s} {from = from} {new = new} both map marks whole before wrote =
    subst (λ (t : List ℕ). Wrote s from new t) (whole marks before.front before.is) (Wrote-Wrote both before.wrote wrote)

pub finish_broke : {M : Type 0} {s : Meaning M} {from old new : M} (both : TakesBoth s) (map : SureMap) (marks : List Mark) →
    ((ms : List Mark) (front : List ℕ) → IsMapOf map ms front → front ++ last_line map ≡ sure_text ms) →
    MapSoFar s from old map marks → BrokeOff s old new (last_line map) → BrokeOff s from new (sure_text marks)
finish_broke {s = s} {from = from} {new = new} both map marks whole before broke =
    subst (λ (t : List ℕ). BrokeOff s from new t) (whole marks before.front before.is) (Wrote-BrokeOff both before.wrote broke)
