-- The sinks, while a segment more is put out.
use Rattle.std.proofs.Common.{◌≡◌, ℕ, ◌+◌, ◌-◌, ◌*◌, inl, inr, List, ◌++◌, length, take, min}
use Rattle.std.proofs.Common.{sym, ap, subst, ◌∙◌, arith, append_assoc}
use Rattle.std.proofs.lemmas.Grind.{flat_map-append}
use Rattle.std.proofs.lemmas.List.{length-append}
use Rattle.std.specs.List.{flat_map}
use Rattle.dump_spec.specs.Given.{Given}
use Rattle.dump_spec.specs.Output.{output_of, sure_text}
use Rattle.dump_spec.specs.declared.mark.Mark.{Mark}
use Rattle.dump_output.specs.Marks.{marks_in}
use Rattle.dump_output.specs.Put.{WroteFront}
use Rattle.dump_output.specs.Sinks.{PutSoFar, SinkCut}
use Rattle.dump_output.specs.SoFar.{MapSoFar}
use Rattle.dump_output.specs.declared.progress.Progress.{Progress}
use Rattle.dump_output.proofs.Fronts.{take_min, bytes_of, marks_of, marks_long, given_bytes, given_long, given_marks}
use Rattle.dump_output.proofs.Fronts.{bytes_begin, marks_begin}
use Rattle.dump_output.proofs.Lining.{marks_in_long}
use Rattle.qic_base.specs.Sink.{Meaning, Wrote}
use Rattle.qic_base.specs.SinkCalls.{BrokeOff}
use Rattle.qic_base.proofs.Writing.{TakesBoth, Wrote-Wrote, Wrote-BrokeOff, BrokeOff-longer}
use Rattle.rescue_map.specs.Text.{blocks_text}
use Rattle.segment_salvage.specs.Reading.{given_as}
use Rattle.segment_salvage.specs.declared.reading.SegmentReading.{SegmentReading}
use Rattle.sure_map.specs.Runs.{blocks_from}
use Rattle.sure_map.specs.declared.map.SureMap.{SureMap}

-- ---- fronts of the output of more sectors

pub wrote_bytes_front : {K : Type 0} {k : Meaning K} {first now : K} (size : ℕ) (given more : List Given) →
    Wrote k first now (output_of size given).bytes → WroteFront k first now (output_of size (given ++ more)).bytes
wrote_bytes_front size given more wrote = record {
  front = (output_of size given).bytes;
  rest = take (size - length (bytes_of given)) (bytes_of more);
  parts = sym (bytes_begin size given more);
  wrote = wrote;
}

pub wrote_map_front : {M : Type 0} {s : Meaning M} {begun now : M} (map : SureMap) (size : ℕ) (given more : List Given) →
    MapSoFar s begun now map (output_of size given).marks → WroteFront s begun now (sure_text (output_of size (given ++ more)).marks)
wrote_map_front map size given more so_far =
    let rest : List Mark = take (size - length (marks_of given)) (marks_of more) in
    record {
      front = so_far.front;
      rest = blocks_text (blocks_from map.run rest);
      parts = so_far.is.text rest ∙ ap sure_text (sym (marks_begin size given more));
      wrote = so_far.wrote;
    }

-- ---- a segment more

-- how many of its bytes are put out
pub record IsTaken (progress : Progress) (sectors : List (List ℕ)) (count : ℕ) : Type 0 where
  pub long : length (flat_map (λ bytes. bytes) sectors) ≡ length sectors * 1024
  pub is : count ≡ min progress.left (length (flat_map (λ bytes. bytes) sectors))

pub is_taken : (progress : Progress) (sectors : List (List ℕ)) (bytes : List ℕ) (count : ℕ) → bytes ≡ flat_map (λ bytes. bytes) sectors →
    length bytes ≡ length sectors * 1024 → count ≡ min progress.left (length bytes) → IsTaken progress sectors count
is_taken progress sectors bytes count value long few = record {
  long = ap (λ (xs : List ℕ). length xs) (sym value) ∙ long;
  is = few ∙ ap (λ (xs : List ℕ). min progress.left (length xs)) value;
}

bytes_all : {K M : Type 0} {k : Meaning K} {s : Meaning M} {first old : K} {begun sure : M} (progress : Progress) (size count : ℕ)
    (given : List Given) (reading : SegmentReading) (sectors : List (List ℕ)) →
    PutSoFar k s first old begun sure progress size given → IsTaken progress sectors count →
    (output_of size (given ++ given_as reading 0 sectors)).bytes
    ≡ (output_of size given).bytes ++ take count (flat_map (λ bytes. bytes) sectors)
bytes_all progress size count given reading sectors before taken =
    let whole = before.whole in
    let left = before.left in
    let here : size - length (bytes_of given) ≡ progress.left = omega arith in
    bytes_begin size given (given_as reading 0 sectors)
    ∙ ap (λ (n : ℕ). (output_of size given).bytes ++ take n (bytes_of (given_as reading 0 sectors))) here
    ∙ ap (λ (xs : List ℕ). (output_of size given).bytes ++ take progress.left xs) (given_bytes reading 0 sectors)
    ∙ ap (λ (xs : List ℕ). (output_of size given).bytes ++ xs)
    (sym (take_min progress.left (flat_map (λ bytes. bytes) sectors))
    ∙ ap (λ (n : ℕ). take n (flat_map (λ bytes. bytes) sectors)) (sym taken.is))

marks_all : {K M : Type 0} {k : Meaning K} {s : Meaning M} {first old : K} {begun sure : M} (progress : Progress) (size count : ℕ)
    (given : List Given) (reading : SegmentReading) (sectors : List (List ℕ)) →
    PutSoFar k s first old begun sure progress size given → IsTaken progress sectors count →
    (output_of size (given ++ given_as reading 0 sectors)).marks
    ≡ (output_of size given).marks ++ take count (marks_in reading (length sectors))
marks_all progress size count given reading sectors before taken =
    let left = before.left in
    let long = marks_long given in
    let here : size - length (marks_of given) ≡ progress.left = omega arith in
    let marks = marks_in_long reading (length sectors) in
    let bytes = taken.long in
    let few = taken.is in
    let same : min progress.left (length (marks_in reading (length sectors))) ≡ count =
    ap (min progress.left) (let e : length (marks_in reading (length sectors)) ≡ length (flat_map (λ bytes. bytes) sectors)
    = omega arith in e)
    ∙ sym taken.is in
    marks_begin size given (given_as reading 0 sectors)
    ∙ ap (λ (n : ℕ). (output_of size given).marks ++ take n (marks_of (given_as reading 0 sectors))) here
    ∙ ap (λ (ms : List Mark). (output_of size given).marks ++ take progress.left ms) (given_marks reading sectors)
    ∙ ap (λ (ms : List Mark). (output_of size given).marks ++ ms)
    (sym (take_min progress.left (marks_in reading (length sectors)))
    ∙ ap (λ (n : ℕ). take n (marks_in reading (length sectors))) same)

pub put_more : {K M : Type 0} {k : Meaning K} {s : Meaning M} {first old new : K} {begun before_sure sure : M} (both : TakesBoth k)
    (progress next : Progress) (size count : ℕ) (given : List Given) (reading : SegmentReading) (sectors : List (List ℕ)) →
    PutSoFar k s first old begun before_sure progress size given → IsTaken progress sectors count →
    Wrote k old new (take count (flat_map (λ bytes. bytes) sectors)) →
    MapSoFar s begun sure next.map ((output_of size given).marks ++ take count (marks_in reading (length sectors))) →
    next.left ≡ progress.left - count →
    PutSoFar k s first new begun sure next size (given ++ given_as reading 0 sectors)
put_more {k = k} {s = s} {first = first} {new = new} {begun = begun} {sure = sure} both progress next size count given reading sectors
    before
    taken wrote lines left =
    let here : List Given = given_as reading 0 sectors in
    let count_of : length (given ++ here) ≡ length given + length sectors =
    length-append given here ∙ ap (λ (n : ℕ). length given + n) (given_long reading 0 sectors) in
    let bytes : length (bytes_of (given ++ here)) ≡ length (bytes_of given) + length (flat_map (λ bytes. bytes) sectors) =
    ap (λ (xs : List ℕ). length xs) (flat_map-append (λ g. g.bytes) given here) ∙ length-append (bytes_of given) (bytes_of here)
    ∙ ap (λ (xs : List ℕ). length (bytes_of given) + length xs) (given_bytes reading 0 sectors) in
    let whole = before.whole in
    let was = before.left in
    let long = taken.long in
    let few = taken.is in
    record {
      bytes = subst (λ (t : List ℕ). Wrote k first new t) (sym (bytes_all progress size count given reading sectors before taken))
          (Wrote-Wrote both before.bytes wrote);
      map = subst (λ (ms : List Mark). MapSoFar s begun sure next.map ms)
          (sym (marks_all progress size count given reading sectors before taken)) lines;
      whole = omega arith;
      left = omega arith;
    }

-- a write of its bytes failed
pub bytes_broke : {K M : Type 0} {k : Meaning K} {s : Meaning M} {first old new : K} {begun sure : M} (both : TakesBoth k)
    (progress : Progress) (size count : ℕ) (given : List Given) (reading : SegmentReading) (sectors : List (List ℕ)) →
    PutSoFar k s first old begun sure progress size given → IsTaken progress sectors count →
    BrokeOff k old new (take count (flat_map (λ bytes. bytes) sectors)) →
    (more : List Given) → SinkCut k s first new begun sure (output_of size ((given ++ given_as reading 0 sectors) ++ more))
bytes_broke {k = k} {s = s} {first = first} {new = new} {begun = begun} {sure = sure} both progress size count given reading sectors before
    taken broke more =
    let here : List Given = given_as reading 0 sectors in
    let rest : List ℕ = take (size - length (bytes_of (given ++ here))) (bytes_of more) in
    let text : ((output_of size given).bytes ++ take count (flat_map (λ bytes. bytes) sectors)) ++ rest
    ≡ (output_of size ((given ++ here) ++ more)).bytes =
    ap (λ (xs : List ℕ). xs ++ rest) (sym (bytes_all progress size count given reading sectors before taken))
    ∙ sym (bytes_begin size (given ++ here) more) in
    inl (
      BrokeOff-longer rest (output_of size ((given ++ here) ++ more)).bytes text (Wrote-BrokeOff both before.bytes broke),
      subst (λ (gs : List Given). WroteFront s begun sure (sure_text (output_of size gs).marks)) (sym (append_assoc given here more))
          (wrote_map_front progress.map size given (here ++ more) before.map),
    )

-- a write of their map did
pub map_broke : {K M : Type 0} {k : Meaning K} {s : Meaning M} {first old new : K} {begun before_sure sure : M} (both : TakesBoth k)
    (progress : Progress) (size count : ℕ) (given : List Given) (reading : SegmentReading) (sectors : List (List ℕ)) →
    PutSoFar k s first old begun before_sure progress size given → IsTaken progress sectors count →
    Wrote k old new (take count (flat_map (λ bytes. bytes) sectors)) →
    ((marks : List Mark) → BrokeOff s begun sure
    (sure_text (((output_of size given).marks ++ take count (marks_in reading (length sectors))) ++ marks))) →
    (more : List Given) → SinkCut k s first new begun sure (output_of size ((given ++ given_as reading 0 sectors) ++ more))
map_broke {k = k} {s = s} {first = first} {new = new} {begun = begun} {sure = sure} both progress size count given reading sectors before
    taken wrote broke more =
    let here : List Given = given_as reading 0 sectors in
    let rest : List Mark = take (size - length (marks_of (given ++ here))) (marks_of more) in
    let marks : ((output_of size given).marks ++ take count (marks_in reading (length sectors))) ++ rest
    ≡ (output_of size ((given ++ here) ++ more)).marks =
    ap (λ (ms : List Mark). ms ++ rest) (sym (marks_all progress size count given reading sectors before taken))
    ∙ sym (marks_begin size (given ++ here) more) in
    inr (
      wrote_bytes_front size (given ++ here) more
          (subst (λ (t : List ℕ). Wrote k first new t) (sym (bytes_all progress size count given reading sectors before taken))
          (Wrote-Wrote both before.bytes wrote)),
      subst (λ (ms : List Mark). BrokeOff s begun sure (sure_text ms)) marks (broke rest),
    )
