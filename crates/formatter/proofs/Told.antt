-- What a cleared tape tells of the cartridge that was cleared.
use Rattle.std.proofs.Common.{◌≡◌, ◌↔◌, ℕ, ◌*◌, ◌<◌, ◌≤◌, List, length, get_or, refl, sym, ◌∙◌, ap, subst, arith, Option, Some, None}
use Rattle.std.proofs.Common.{IfSome, append_assoc}
use Rattle.std.specs.Option.{option_map}
use Rattle.qic_base.specs.Cartridge.{Cartridge, view_at}
use Rattle.qic_base.specs.CartridgeTerms.{IsCartridge}
use Rattle.qic_base.specs.Step.{Step, effects}
use Rattle.qic_base.specs.Tape.{Meaning, Done, Broke}
use Rattle.qic_base.specs.TapeCalls.{Tells, IsToldRight}
use Rattle.qic_base.proofs.Steps.{Done-Done, Done-Broke}
use Rattle.cartridge_laws.specs.Segment.{IsUnreadable}
use Rattle.cartridge_spec.specs.Formatting.{IsDefect, MarksDefects, clearing_steps, copy_writes, format_steps, HasNoDefectInFront}
use Rattle.cartridge_spec.specs.Formatting.{IsFirstDefectInFront}
use Rattle.cartridge_spec.specs.Settling.{changed_by}
use Rattle.cartridge_spec.specs.Says.{with_parity}
use Rattle.cartridge_laws.proofs.FormatWriting.{effects-some}
use Rattle.cartridge_laws.proofs.FormatClearing.{clearing_clears, cleared_shows_defects}
use Rattle.formatter.specs.Formats.{MarksFormattable, header_writes}
use Rattle.formatter.specs.Marking.{MarksUnreadable, IsFirstMarked, HasNoMarkInFront}
use Rattle.formatter.proofs.Marks.{HasMark, some_mark, no_mark}

-- what is true of the cartridge that was there, where the tape tells it, by what is true of the cleared one
cleared_tells : {S : Type 0} (m : Meaning S) (a b : S) (n : ℕ) (P Q : Cartridge → Type 0) → IsToldRight (m.told a) (m.size a) →
    m.size a ≡ Some n → Done m a b (clearing_steps n) → Tells m b P →
    ((c : Cartridge) → IsCartridge c → c.info.segments_per_track ≡ n → P (changed_by (clearing_steps n) c) → Q c) → Tells m a Q
cleared_tells m a b n P Q right size done told follows = by_told (m.told a) refl right
  where
    by_told : (held : Option (Option Cartridge)) → m.told a ≡ held → IsToldRight held (m.size a) → IfSome held (λ h. IfSome h Q)
    by_told None is r = tt
    by_told (Some None) is r = tt
    by_told (Some (Some c)) is r =
        let after : m.told b ≡ Some (Some (changed_by (clearing_steps n) c)) =
        done.told ∙ ap (option_map (effects (clearing_steps n))) is ∙ ap Some (effects-some (clearing_steps n) c) in
        let length_is : IfSome (Some n) (λ k. c.info.segments_per_track ≡ k) =
        subst (λ (o : Option ℕ). IfSome o (λ k. c.info.segments_per_track ≡ k)) size r.1 in
        follows c r.0 length_is (subst (λ (held : Option (Option Cartridge)). IfSome held (λ h. IfSome h P)) after told)

-- the sectors of the cleared cartridge are unreadable just where there were defects
shows : (c : Cartridge) (n segment sector : ℕ) → IsCartridge c → c.info.segments_per_track ≡ n → segment < 28 * n → sector < 32 →
    IsUnreadable (view_at (changed_by (clearing_steps n) c) segment sector) ↔ IsDefect (view_at c segment sector)
shows c n segment sector whole length there within =
    subst (λ (k : ℕ). IsUnreadable (view_at (changed_by (clearing_steps k) c) segment sector) ↔ IsDefect (view_at c segment sector)) length
    (cleared_shows_defects c (changed_by (clearing_steps c.info.segments_per_track) c) segment sector (clearing_clears c whole)
    (omega arith) within)

marks_defects : (c : Cartridge) (n : ℕ) (words : List ℕ) → IsCartridge c → c.info.segments_per_track ≡ n → length words ≡ 28 * n →
    MarksUnreadable (changed_by (clearing_steps n) c) words → MarksDefects c words
marks_defects c n words whole is size marks = record {
  size = omega arith;
  each = λ segment sector there within.
      let on : segment < length words = omega arith in
      let marked = marks.each segment sector on within in
      let defect = shows c n segment sector whole is (omega arith) within in
      (λ mark. defect.0 (marked.0 mark), λ d. marked.1 (defect.1 d));
}

-- no word in front has a mark
no_defect : (c : Cartridge) (words : List ℕ) (segment : ℕ) → IsCartridge c → MarksDefects c words → segment < 3 →
    get_or words segment 0 ≡ 0 →
    (index : ℕ) → index < 32 → ¬ (IsDefect (view_at c segment index))
no_defect c words segment whole marks front none index within =
    let long : 3 ≤ c.info.segments_per_track = whole.long.shortest in
    λ defect. no_mark words segment index none ((marks.each segment index (omega arith) within).1 defect)

-- ---- where the verify pass found no mark in front

pub marks_formattable : {S : Type 0} (m : Meaning S) (a b : S) (n : ℕ) (words : List ℕ) → IsToldRight (m.told a) (m.size a) →
    m.size a ≡ Some n → length words ≡ 28 * n → Done m a b (clearing_steps n) → Tells m b (λ c. MarksUnreadable c words) →
    HasNoMarkInFront words → MarksFormattable m a words
marks_formattable m a b n words right size long done told front =
    cleared_tells m a b n (λ c. MarksUnreadable c words) (λ c. MarksDefects c words × HasNoDefectInFront c) right size done told
    (λ c whole is marks.
    let defects = marks_defects c n words whole is long marks in
    (defects, λ segment low. no_defect c words segment whole defects low (front segment low)))

-- ---- where it found one

pub first_defect : {S : Type 0} (m : Meaning S) (a b : S) (n : ℕ) (words : List ℕ) (segment : ℕ) → IsToldRight (m.told a) (m.size a) →
    m.size a ≡ Some n → length words ≡ 28 * n → Done m a b (clearing_steps n) → Tells m b (λ c. MarksUnreadable c words) →
    IsFirstMarked words segment → Tells m a (λ c. IsFirstDefectInFront c segment)
first_defect m a b n words segment right size long done told first =
    cleared_tells m a b n (λ c. MarksUnreadable c words) (λ c. IsFirstDefectInFront c segment) right size done told
    (λ c whole is marks.
    let defects = marks_defects c n words whole is long marks in
    let some : HasMark words segment = some_mark words segment (marks.fits segment) first.here in
    let least : 3 ≤ c.info.segments_per_track = whole.long.shortest in
    let low : segment < 3 = first.in_front in
    record {
      in_front = first.in_front;
      index = some.sector;
      within = some.within;
      is_defect = (defects.each segment some.sector (omega arith) some.within).0 some.is_marked;
      before = λ t below. no_defect c words t whole defects (omega arith) (first.before t below);
    })

-- ---- all steps

pub all_done : {S : Type 0} (m : Meaning S) (a b c : S) (n : ℕ) (area : List (List ℕ)) → Done m a b (clearing_steps n) →
    Done m b c (header_writes area) → Done m a c (format_steps n area)
all_done m a b c n area first next =
    subst (λ (steps : List Step). Done m a c steps)
    (sym (append_assoc (clearing_steps n) (copy_writes 0 (with_parity area)) (copy_writes 1 (with_parity area))))
    (Done-Done {xs = clearing_steps n} {ys = header_writes area} first next)

pub all_broken : {S : Type 0} (m : Meaning S) (a b c : S) (n : ℕ) (area : List (List ℕ)) → Done m a b (clearing_steps n) →
    Broke m b c (header_writes area) → Broke m a c (format_steps n area)
all_broken m a b c n area first next =
    subst (λ (steps : List Step). Broke m a c steps)
    (sym (append_assoc (clearing_steps n) (copy_writes 0 (with_parity area)) (copy_writes 1 (with_parity area))))
    (Done-Broke {xs = clearing_steps n} {ys = header_writes area} first next)
