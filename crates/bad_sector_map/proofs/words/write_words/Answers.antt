use Rattle.std.proofs.Common.{◌≡◌, ℕ, get_or, sym, ◌∙◌, arith, refl, below_more}
use Rattle.std.proofs.lemmas.List.FromFn.{fill_by_all}
use Rattle.cartridge_spec.specs.Header.{word_in}
use Rattle.cartridge_laws.proofs.MapAreaLaws.{word_in-others, IsInMap-more}
use Rattle.bad_sector_map.proofs.words.write_words.Goals as goal

pub loop-segment-preserved : goal.loop-segment-preserved
loop-segment-preserved c = record {
  words = below_more
      (λ (s : ℕ). word_in c.set_word.new.area s ≡ get_or c.args.words.now s 0) c.loop-segment.segment
      (λ s below.
      word_in-others c.loop-segment.area c.set_word.new.area c.loop-segment.segment s c.set_word.ensures.others below
      ∙ c.loop-segment.invariant.words s below)
      c.set_word.ensures.word;
  others = λ k outside.
      c.set_word.ensures.others k (λ within. absurd (outside within))
      ∙ c.loop-segment.invariant.others k (λ within. outside (IsInMap-more c.loop-segment.segment k within));
}

pub returns-clause-words : goal.returns-clause-words
returns-clause-words c =
    sym (fill_by_all (word_in c.loop-segment.area) c.args.words.now _ 0 refl
    (λ k below. sym (c.loop-segment.invariant.words k (omega arith))))
