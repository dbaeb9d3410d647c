-- Whether all data sectors are sure, one by one.
use Rattle.std.proofs.Common.{◌≡◌, ℕ, ◌+◌, ◌<◌, ◌≤◌, ◌&&◌, Bool, true, List, [], length, drop, sym, ap, ◌∙◌, add-one}
use Rattle.std.proofs.lemmas.List.{drop_more, drop_all}
use Rattle.dump_spec.specs.Given.{all_sure, is_sure}
use Rattle.segment_salvage.specs.Reading.{given_as, mark_of}
use Rattle.segment_salvage.specs.declared.reading.SegmentReading.{SegmentReading}

-- those from a place on
abbrev pub sure_from : SegmentReading → (place : ℕ) → List (List ℕ) → Bool
sure_from reading place sectors = all_sure (given_as reading place (drop place sectors))

pub sure_more : (reading : SegmentReading) (place : ℕ) (sectors : List (List ℕ)) → place < length sectors →
    sure_from reading place sectors ≡ (is_sure (mark_of reading place) && sure_from reading (place + 1) sectors)
unfolding given_as
sure_more reading place sectors within =
    ap (λ (s : List (List ℕ)). all_sure (given_as reading place s)) (drop_more sectors place [] within)
    ∙ ap (λ (next : ℕ). is_sure (mark_of reading place) && all_sure (given_as reading next (drop (place + 1) sectors)))
    (sym (add-one place))

pub sure_end : (reading : SegmentReading) (place : ℕ) (sectors : List (List ℕ)) → length sectors ≤ place →
    sure_from reading place sectors ≡ true
unfolding given_as
sure_end reading place sectors end =
    ap (λ (s : List (List ℕ)). all_sure (given_as reading place s)) (drop_all place sectors end)
