-- A set of one sector: what it names, and what a read and a write of it are.
use Rattle.std.proofs.Common.{◌≡◌, ◌≢◌, ℕ, ◌+◌, ◌-◌, ◌^◌, ◌<◌, ◌≤◌, refl, sym, ◌∙◌, ap, arith, inl, inr, true, false, List, [], ◌∷◌, ◌++◌}
use Rattle.std.proofs.Common.{zero, suc}
use Rattle.std.proofs.Common.{subst, Bool, true≢false, Option, Some, None, IsSomeAnd}
use Rattle.std.proofs.lemmas.Bool.{cases_eq, ne_eqb, eq-eqb}
use Rattle.std.proofs.lemmas.Nat.Bits.{bit_at-pow_same, bit_at-pow_other}
use Rattle.std.specs.Prelude.{slice_index_or, map, ◌&&◌, ◌/◌, ◌%◌}
use Rattle.qic_base.proofs.LostSetLaws.{lost_places-lost, lost_places-kept, lost_places-above}
use Rattle.qic_base.proofs.Steps.{Tells-map}
use Rattle.qic_base.specs.Cartridge.{lost_places, IsPlace, view_at}
use Rattle.qic_base.specs.CartridgeTerms.{IsLost, is_lost}
use Rattle.qic_base.specs.Tape.{Meaning}
use Rattle.qic_base.specs.TapeCalls.{IsPlaceOf, Tells, chosen, AreBlank, Reads, ReadsSectors, bytes_read, is_blank, is_readable}
use Rattle.qic_base.specs.TapeCalls.{write_answer}
use Rattle.qic_base.specs.declared.tape.SectorRead.TheVariants as read
use Rattle.qic_base.specs.declared.tape.SectorView.{SectorView}
use Rattle.qic_base.specs.declared.tape.SectorView.TheVariants.{Blank, Defect, Lost, Holds}
use Rattle.qic_base.specs.declared.tape.SectorWrite.TheVariants as write

-- the set of one place has it, ..
pub one_has : (place : ℕ) → is_lost (2 ^ place) place ≡ true
one_has place = eq-eqb (2 ^ place / 2 ^ place % 2) 1 (bit_at-pow_same place)

-- .. and no other
pub one_lacks : (place other : ℕ) → other ≢ place → ¬ (IsLost (2 ^ place) other)
one_lacks place other apart is = let none : 2 ^ place / 2 ^ other % 2 ≡ 0 = bit_at-pow_other place other apart in absurd (omega arith)

none_below : (place n : ℕ) → n ≤ place → lost_places (2 ^ place) n ≡ []
unfolding lost_places
none_below place zero below = refl
none_below place (suc n) below =
    let next : suc n ≡ n + 1 = omega arith in
    ap (lost_places (2 ^ place)) next
    ∙ lost_places-kept (2 ^ place) n (one_lacks place n (λ same. absurd (omega arith))) ∙ none_below place n (omega arith)

pub one_place : (place : ℕ) → place < 32 → lost_places (2 ^ place) 32 ≡ place ∷ []
one_place place within =
    ap (lost_places (2 ^ place)) sum
    ∙ lost_places-above (2 ^ place) (place + 1) (31 - place) all
    ∙ lost_places-lost (2 ^ place) place (bit_at-pow_same place)
    ∙ ap (λ (places : List ℕ). places ++ place ∷ []) (none_below place place (omega arith))
  where
    sum : 32 ≡ place + 1 + (31 - place)
    sum = omega arith

    all : (other : ℕ) → IsLost (2 ^ place) other → other < place + 1
    all other is = elim (cases_eq other place) [
      | inl same ↦ omega arith
      | inr apart ↦ absurd (one_lacks place other apart is)
    ]

-- the sectors that are written are the one
pub chosen_one : (place : ℕ) (sectors : List (List ℕ)) (bytes : List ℕ) → place < 32 → slice_index_or sectors place [] ≡ bytes →
    chosen (2 ^ place) sectors ≡ record { sector = place; bytes = bytes } ∷ []
chosen_one place sectors bytes within here =
    ap (map (λ (i : ℕ). record { sector = i; bytes = slice_index_or sectors i [] })) (one_place place within)
    ∙ ap (λ (b : List ℕ). record { sector = place; bytes = b } ∷ []) here

-- ---- what is found of it

unread : (view : SectorView) (bytes : List ℕ) → is_readable view ≡ false → is_blank view ≡ false → Reads view bytes bytes read.Lost
unread Blank bytes hidden formatted = absurd (true≢false formatted)
unread Defect bytes hidden formatted = (refl, refl)
unread Lost bytes hidden formatted = (refl, refl)
unread (Holds held) bytes hidden formatted = absurd (true≢false hidden)

-- one that is neither good nor blank is lost, or a defect
found_lost : (place good blank : ℕ) (view : ℕ → SectorView) (old new : List (List ℕ)) (bytes : List ℕ) → place < 32 →
    ReadsSectors (2 ^ place) good blank view old new → ¬ (IsLost good place) → ¬ (IsLost blank place) →
    Reads (view place) bytes bytes read.Lost
found_lost place good blank view old new bytes within reads bad formed =
    let wanted : (b : Bool) → (is_lost (2 ^ place) place && b) ≡ b = λ b. ap (λ (w : Bool). w && b) (one_has place) in
    unread (view place) bytes
    (sym (wanted (is_readable (view place))) ∙ sym (reads.good_are place within) ∙ ne_eqb (good / 2 ^ place % 2) 1 bad)
    (sym (wanted (is_blank (view place))) ∙ sym (reads.blank_are place within) ∙ ne_eqb (blank / 2 ^ place % 2) 1 formed)

held : (view : SectorView) (old bytes found : List ℕ) → is_readable view ≡ true → found ≡ bytes_read true view old →
    Reads view bytes found read.Good
held Blank old bytes found readable is = absurd (true≢false (sym readable))
held Defect old bytes found readable is = absurd (true≢false (sym readable))
held Lost old bytes found readable is = absurd (true≢false (sym readable))
held (Holds own) old bytes found readable is = (refl, is)

-- one that is good holds what its entry got
found_good : (place good blank : ℕ) (view : ℕ → SectorView) (old new : List (List ℕ)) (bytes : List ℕ) → place < 32 →
    ReadsSectors (2 ^ place) good blank view old new → IsLost good place →
    Reads (view place) bytes (slice_index_or new place []) read.Good
found_good place good blank view old new bytes within reads is =
    let wanted : (b : Bool) → (is_lost (2 ^ place) place && b) ≡ b = λ b. ap (λ (w : Bool). w && b) (one_has place) in
    held (view place) (slice_index_or old place []) bytes (slice_index_or new place [])
    (sym (wanted (is_readable (view place))) ∙ sym (reads.good_are place within) ∙ eq-eqb (good / 2 ^ place % 2) 1 is)
    (reads.bytes place within
    ∙ ap (λ (w : Bool). bytes_read w (view place) (slice_index_or old place [])) (one_has place))

bare : (view : SectorView) (bytes : List ℕ) → is_blank view ≡ true → Reads view bytes bytes read.Blank
bare Blank bytes blank = (refl, refl)
bare Defect bytes blank = absurd (true≢false (sym blank))
bare Lost bytes blank = absurd (true≢false (sym blank))
bare (Holds own) bytes blank = absurd (true≢false (sym blank))

-- one that is blank was never formatted
found_blank : (place good blank : ℕ) (view : ℕ → SectorView) (old new : List (List ℕ)) (bytes : List ℕ) → place < 32 →
    ReadsSectors (2 ^ place) good blank view old new → IsLost blank place → Reads (view place) bytes bytes read.Blank
found_blank place good blank view old new bytes within reads is =
    bare (view place) bytes
    (sym (ap (λ (w : Bool). w && is_blank (view place)) (one_has place)) ∙ sym (reads.blank_are place within)
    ∙ eq-eqb (blank / 2 ^ place % 2) 1 is)

taken : (view : SectorView) → is_blank view ≡ false → write.Taken ≡ write_answer view
taken Blank formatted = absurd (true≢false formatted)
taken Defect formatted = refl
taken Lost formatted = refl
taken (Holds held) formatted = refl

-- a write that is not refused was taken
found_taken : (place blank : ℕ) (view : ℕ → SectorView) → place < 32 → AreBlank (2 ^ place) blank view → ¬ (IsLost blank place) →
    write.Taken ≡ write_answer (view place)
found_taken place blank view within are formed =
    taken (view place) (sym (ap (λ (w : Bool). w && is_blank (view place)) (one_has place)) ∙ sym (are place within)
    ∙ ne_eqb (blank / 2 ^ place % 2) 1 formed)

-- a place on a cartridge is one of a segment
pub place_within : {S : Type 0} (m : Meaning S) (s : S) (segment sector : ℕ) → IsPlaceOf m s segment sector → sector < 32
place_within m s segment sector at = by_size (m.size s) at
  where
    by_size : (size : Option ℕ) → IsSomeAnd size (λ n. IsPlace n segment sector) → sector < 32
    by_size None at = absurd at
    by_size (Some n) at = at.in_segment

-- ---- of what a tape tells

pub tells_lost : {S : Type 0} (m : Meaning S) (s : S) (segment place set good blank : ℕ) (old new : List (List ℕ)) (bytes : List ℕ) →
    place < 32 → set ≡ 2 ^ place →
    Tells m s (λ c. ReadsSectors set good blank (view_at c segment) old new) → ¬ (IsLost good place) → ¬ (IsLost blank place) →
    Tells m s (λ c. Reads (view_at c segment place) bytes bytes read.Lost)
tells_lost m s segment place set good blank old new bytes within one told bad formed =
    Tells-map m s (λ c. ReadsSectors set good blank (view_at c segment) old new)
    (λ c. Reads (view_at c segment place) bytes bytes read.Lost)
    (λ c reads. found_lost place good blank (view_at c segment) old new bytes within
    (subst (λ (w : ℕ). ReadsSectors w good blank (view_at c segment) old new) one reads) bad formed) told

pub tells_good : {S : Type 0} (m : Meaning S) (s : S) (segment place index set good blank : ℕ) (old new : List (List ℕ))
    (bytes : List ℕ) → place < 32 → set ≡ 2 ^ place → index ≡ place →
    Tells m s (λ c. ReadsSectors set good blank (view_at c segment) old new) → IsLost good place →
    Tells m s (λ c. Reads (view_at c segment place) bytes (slice_index_or new index []) read.Good)
tells_good m s segment place index set good blank old new bytes within one same told is =
    Tells-map m s (λ c. ReadsSectors set good blank (view_at c segment) old new)
    (λ c. Reads (view_at c segment place) bytes (slice_index_or new index []) read.Good)
    (λ c reads. subst (λ (i : ℕ). Reads (view_at c segment place) bytes (slice_index_or new i []) read.Good) (sym same)
    (found_good place good blank (view_at c segment) old new bytes within
    (subst (λ (w : ℕ). ReadsSectors w good blank (view_at c segment) old new) one reads) is)) told

pub tells_blank : {S : Type 0} (m : Meaning S) (s : S) (segment place set good blank : ℕ) (old new : List (List ℕ)) (bytes : List ℕ) →
    place < 32 → set ≡ 2 ^ place →
    Tells m s (λ c. ReadsSectors set good blank (view_at c segment) old new) → IsLost blank place →
    Tells m s (λ c. Reads (view_at c segment place) bytes bytes read.Blank)
tells_blank m s segment place set good blank old new bytes within one told is =
    Tells-map m s (λ c. ReadsSectors set good blank (view_at c segment) old new)
    (λ c. Reads (view_at c segment place) bytes bytes read.Blank)
    (λ c reads. found_blank place good blank (view_at c segment) old new bytes within
    (subst (λ (w : ℕ). ReadsSectors w good blank (view_at c segment) old new) one reads) is) told

pub tells_taken : {S : Type 0} (m : Meaning S) (s : S) (segment place set blank : ℕ) → place < 32 → set ≡ 2 ^ place →
    Tells m s (λ c. AreBlank set blank (view_at c segment)) → ¬ (IsLost blank place) →
    Tells m s (λ c. write.Taken ≡ write_answer (view_at c segment place))
tells_taken m s segment place set blank within one told formed =
    Tells-map m s (λ c. AreBlank set blank (view_at c segment)) (λ c. write.Taken ≡ write_answer (view_at c segment place))
    (λ c are. found_taken place blank (view_at c segment) within
    (subst (λ (w : ℕ). AreBlank w blank (view_at c segment)) one are) formed) told
