-- The segments that scrubbing looks at are apart.
use Rattle.std.proofs.Common.{◌≡◌, ◌⊎◌, zero, suc, inl, inr, List, ◌∷◌, Contains, arith, refl, ℕ, ◌+◌, ◌-◌, ◌<◌, ◌≤◌, [], ◌++◌, All, nat_le}
use Rattle.std.proofs.Common.{sym, ap, ◌∙◌}
use Rattle.std.proofs.lemmas.List.Elements.{All-head, All-tail, All-append, All-weaker, All-nil, All-cons, All-filter, All-contains}
use Rattle.std.specs.List.{range_with_len}
use Rattle.cartridge_laws.proofs.AppendSegments.{IsRising, carrying_from, carrying_rise, carrying_carry}
use Rattle.cartridge_laws.proofs.Segments.{count_of_whole}
use Rattle.cartridge_laws.specs.Shape.{Carries}
use Rattle.cartridge_laws.specs.Table.{LieBehind, IsSoundList}
use Rattle.cartridge_spec.specs.Says.{whole_mask}
use Rattle.cartridge_spec.specs.Shape.{mask_at, usable_count}
use Rattle.cartridge_spec.specs.Table.{Entry}
use Rattle.cartridge_spec.specs.Volumes.{carrying, carrying_segments}
use Rattle.command_laws.specs.ScrubLaws.{LookedCarry}
use Rattle.command_laws.specs.ScrubSayings.{Rise}
use Rattle.command_spec.specs.Scrub.{Looked, looked_volumes, whole_segment, looked_at}
use Rattle.command_laws.specs.ScrubTerms.{looked_segments}
use Rattle.cartridge_laws.proofs.AppendStanding.{range_within}

-- ---- lists

pub contains_cases : {A : Type 0} (y x : A) (ys : List A) → Contains (y ∷ ys) x → (y ≡ x) ⊎ Contains ys x
contains_cases y x ys (zero, h, is) = inl is
contains_cases y x ys (suc k, h, is) = inr (k, omega arith, is)

pub contains_first : {A : Type 0} (x : A) (xs : List A) → Contains (x ∷ xs) x
contains_first x xs = (0, omega arith, refl)

pub contains_more : {A : Type 0} (y x : A) (ys : List A) → Contains ys x → Contains (y ∷ ys) x
contains_more y x ys at = let h = at.1 in (suc at.0, omega arith, at.2)

-- ---- segments that rise

-- a segment, by the words of the map
abbrev pub by_map : (words : List ℕ) → (segment : ℕ) → Looked
by_map words segment = record { segment = segment; mask = mask_at words segment }

rise_append : (mid : ℕ) (xs ys : List Looked) → Rise xs → Rise ys → All (λ l. l.segment ≤ mid) xs → All (λ m. mid < m.segment) ys →
    Rise (xs ++ ys)
rise_append mid [] ys front rear below above = rear
rise_append mid (x ∷ xs) ys front rear below above =
    let first : x.segment ≤ mid = All-head (λ (l : Looked). l.segment ≤ mid) x xs below in (
      All-append (λ (m : Looked). x.segment < m.segment) xs ys front.0
          (All-weaker (λ (m : Looked). mid < m.segment) (λ (m : Looked). x.segment < m.segment)
          (λ m (h : mid < m.segment). omega arith) ys above),
      rise_append mid xs ys front.1 rear (All-tail (λ (l : Looked). l.segment ≤ mid) x xs below) above,
    )

looked_all : (P : ℕ → Type 0) (words ss : List ℕ) → All P ss → All (λ l. P l.segment) (looked_segments words ss)
looked_all P words [] are = All-nil (λ (l : Looked). P l.segment)
looked_all P words (s ∷ ss) are =
    All-cons (λ (l : Looked). P l.segment) (by_map words s) (looked_segments words ss)
    (All-head P s ss are) (looked_all P words ss (All-tail P s ss are))

segments_rise : (words ss : List ℕ) → IsRising ss → Rise (looked_segments words ss)
segments_rise words [] rise = tt
segments_rise words (s ∷ ss) rise = (looked_all (λ t. s < t) words ss rise.0, segments_rise words ss rise.1)

pub carrying_to : (words : List ℕ) (start end : ℕ) → All (λ s. s ≤ end) (carrying words start end)
carrying_to words start end =
    All-filter (λ s. nat_le 4 (usable_count (mask_at words s))) (λ (s : ℕ). s ≤ end) (range_with_len start (end + 1 - start))
    (range_within (end + 1 - start) start end (λ some. omega arith))

record RiseBehind (before : ℕ) (ls : List Looked) : Type 0 where
  rise : Rise ls
  behind : All (λ m. before < m.segment) ls

volumes_rise : (words : List ℕ) (before last : ℕ) (entries : List Entry) → LieBehind before last entries →
    RiseBehind before (looked_volumes words entries)
volumes_rise words before last [] order = record { rise = tt; behind = All-nil (λ (m : Looked). before < m.segment) }
volumes_rise words before last (e ∷ es) order =
    let segments : List ℕ = carrying_segments words e in
    let front : List Looked = looked_segments words segments in
    let rear : List Looked = looked_volumes words es in
    let rest = volumes_rise words e.end last es order.3 in
    let starts : before < e.start = order.0 in
    let forwards : e.start ≤ e.end = order.1 in
    record {
      rise = rise_append e.end front rear (segments_rise words segments (carrying_rise words e.start e.end)) rest.rise
          (looked_all (λ s. s ≤ e.end) words segments (carrying_to words e.start e.end)) rest.behind;
      behind = All-append (λ (m : Looked). before < m.segment) front rear
          (All-weaker (λ (m : Looked). e.start ≤ m.segment) (λ (m : Looked). before < m.segment)
          (λ m (h : e.start ≤ m.segment). omega arith) front
          (looked_all (λ s. e.start ≤ s) words segments (carrying_from words e.start e.end)))
          (All-weaker (λ (m : Looked). e.end < m.segment) (λ (m : Looked). before < m.segment)
          (λ m (h : e.end < m.segment). omega arith) rear rest.behind);
    }

pub looked_rise : (words : List ℕ) (last : ℕ) (entries : List Entry) → IsSoundList last entries → Rise (looked_at words entries)
looked_rise words last entries order =
    let rest = volumes_rise words 2 last entries order in
    let behind = rest.behind in
    let past : (k : ℕ) → k ≤ 2 → All (λ m. k < m.segment) (looked_volumes words entries) =
    λ k small. All-weaker (λ (m : Looked). 2 < m.segment) (λ (m : Looked). k < m.segment) (λ m (h : 2 < m.segment). omega arith)
    (looked_volumes words entries) behind in (
      All-cons (λ (m : Looked). 0 < m.segment) (whole_segment 1) (whole_segment 2 ∷ looked_volumes words entries) (omega arith)
          (All-cons (λ (m : Looked). 0 < m.segment) (whole_segment 2) (looked_volumes words entries) (omega arith) (past 0 (omega arith))),
      (
        All-cons (λ (m : Looked). 1 < m.segment) (whole_segment 2) (looked_volumes words entries) (omega arith) (past 1 (omega arith)),
        (past 2 (omega arith), rest.rise),
      ),
    )

-- two of them with the same segment are one
pub one_looked : (ls : List Looked) (a b : Looked) → Rise ls → Contains ls a → Contains ls b → a.segment ≡ b.segment → a ≡ b
one_looked [] a b rise first other same = let h = first.1 in absurd (omega arith)
one_looked (l ∷ ls) a b rise first other same =
    elim (contains_cases l a ls first) [
      | inl a_is ↦ elim (contains_cases l b ls other) [
        | inl b_is ↦ sym a_is ∙ b_is
        | inr b_in ↦
            let past : l.segment < b.segment = All-contains (λ (m : Looked). l.segment < m.segment) ls b rise.0 b_in in
            let here : l.segment ≡ a.segment = ap (λ (m : Looked). m.segment) a_is in
            absurd (omega arith)
      ]
      | inr a_in ↦ elim (contains_cases l b ls other) [
        | inl b_is ↦
            let past : l.segment < a.segment = All-contains (λ (m : Looked). l.segment < m.segment) ls a rise.0 a_in in
            let here : l.segment ≡ b.segment = ap (λ (m : Looked). m.segment) b_is in
            absurd (omega arith)
        | inr b_in ↦ one_looked ls a b rise.1 a_in b_in same
      ]
    ]

-- ---- they carry data, and lie on the cartridge

abbrev CarriesTo : (last : ℕ) → Looked → Type 0
CarriesTo last l = Carries l.mask × (l.segment ≤ last)

segments_carry : (last : ℕ) (words ss : List ℕ) → All (λ s. Carries (mask_at words s)) ss → All (λ s. s ≤ last) ss →
    All (CarriesTo last) (looked_segments words ss)
segments_carry last words [] carry within = All-nil (CarriesTo last)
segments_carry last words (s ∷ ss) carry within =
    All-cons (CarriesTo last) (by_map words s) (looked_segments words ss)
    (All-head (λ (t : ℕ). Carries (mask_at words t)) s ss carry, All-head (λ (t : ℕ). t ≤ last) s ss within)
    (segments_carry last words ss (All-tail (λ (t : ℕ). Carries (mask_at words t)) s ss carry) (All-tail (λ (t : ℕ). t ≤ last) s ss within))

volumes_carry : (words : List ℕ) (before last : ℕ) (entries : List Entry) → LieBehind before last entries →
    All (CarriesTo last) (looked_volumes words entries)
volumes_carry words before last [] order = All-nil (CarriesTo last)
volumes_carry words before last (e ∷ es) order =
    let segments : List ℕ = carrying_segments words e in
    let ends : e.end ≤ last = order.2 in
    All-append (CarriesTo last) (looked_segments words segments) (looked_volumes words es)
    (segments_carry last words segments (carrying_carry words e.start e.end)
    (All-weaker (λ (s : ℕ). s ≤ e.end) (λ (s : ℕ). s ≤ last) (λ s (h : s ≤ e.end). omega arith) segments (carrying_to words e.start e.end)))
    (volumes_carry words e.end last es order.3)

whole_carries : (last segment : ℕ) → segment ≤ last → CarriesTo last (whole_segment segment)
whole_carries last segment within = let count : usable_count whole_mask ≡ 32 = count_of_whole in (omega arith, within)

pub looked_carry : LookedCarry
looked_carry words entries last order long =
    All-cons (CarriesTo last) (whole_segment 0) (whole_segment 1 ∷ whole_segment 2 ∷ looked_volumes words entries)
    (whole_carries last 0 (omega arith))
    (All-cons (CarriesTo last) (whole_segment 1) (whole_segment 2 ∷ looked_volumes words entries) (whole_carries last 1 (omega arith))
    (All-cons (CarriesTo last) (whole_segment 2) (looked_volumes words entries) (whole_carries last 2 (omega arith))
    (volumes_carry words 2 last entries order)))
