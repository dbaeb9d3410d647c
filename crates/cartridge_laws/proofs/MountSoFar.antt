-- The settling of a table that was read with a sector of data lost: each write, done or stopped, leaves the same reading.
use Rattle.std.proofs.Common.{◌≡◌, ℕ, refl, List, ◌≢◌, ◌<◌, sym, ◌⊎◌, inl, inr, ◌≤◌, Bool, true, false, arith, ◌∙◌, ap, subst, ◌+◌, zero}
use Rattle.std.proofs.Common.{suc, ◌∷◌, Option, Some, IsSomeAnd}
use Rattle.std.proofs.lemmas.Bool.{cases_lt, cases_eq, cases_Bool}
use Rattle.cartridge_laws.proofs.FormatViews.{view_of_sector}
use Rattle.cartridge_laws.proofs.FormatWriting.{some_and}
use Rattle.cartridge_laws.proofs.MountNear.{IsRead, AllBut, gone_not_read, PartOrGone, same_reads, data_reads, first_gone, third_any}
use Rattle.cartridge_laws.proofs.MountNear.{gone_or_read}
use Rattle.cartridge_laws.proofs.MountWriting.{steps_that, steps_none, steps_passes, steps_fails}
use Rattle.cartridge_laws.specs.MountBlocks.{HoldsPart}
use Rattle.cartridge_laws.specs.Segment.{IsUnreadable}
use Rattle.cartridge_spec.specs.Shape.{IsArea, sector_at, is_unreadable}
use Rattle.cartridge_spec.specs.TableSegment.{TableIs}
use Rattle.cartridge_spec.specs.Says.{with_parity}
use Rattle.qic_base.proofs.SectorsWritten.{torn_write}
use Rattle.qic_base.specs.Cartridge.{Cartridge, view_at}
use Rattle.qic_base.specs.Step.{write_sector, changed, written_view, Wear, worn_view, Step, Torn}
use Rattle.qic_base.specs.declared.tape.SectorView.{SectorView}
use Rattle.qic_base.specs.declared.tape.SectorView.TheVariants.{Blank, Defect, Lost, Holds}
use Rattle.cartridge_laws.proofs.AppendTableWrites.{written_other, worn_other}

-- ---- one sector changed

pub written_here : (d : Cartridge) (i : ℕ) (bytes : List ℕ) → view_at (changed (write_sector 2 i bytes) d) 2 i ≡ written_view bytes
    (view_at d 2 i)
written_here d i bytes = view_of_sector d 2 i (written_view bytes) refl

pub worn_here : (d : Cartridge) (i : ℕ) → view_at (changed (Wear 2 i) d) 2 i ≡ worn_view (view_at d 2 i)
worn_here d i = view_of_sector d 2 i worn_view refl

-- what is written is taken, or the view stays unreadable
taken_or_not : (bytes : List ℕ) (view : SectorView) →
    (written_view bytes view ≡ Holds bytes) ⊎ ((written_view bytes view ≡ view) × IsUnreadable view)
taken_or_not bytes Blank = inr (refl, refl)
taken_or_not bytes Defect = inr (refl, refl)
taken_or_not bytes Lost = inl refl
taken_or_not bytes (Holds old) = inl refl

pub worn_gone : (view : SectorView) → IsUnreadable (worn_view view)
worn_gone Blank = refl
worn_gone Defect = refl
worn_gone Lost = refl
worn_gone (Holds old) = refl

-- an unreadable sector stays as it is
pub worn_same : (view : SectorView) → IsUnreadable view → worn_view view ≡ view
worn_same Blank gone = refl
worn_same Defect gone = refl
worn_same Lost gone = refl
worn_same (Holds old) gone = absurd (cc)

-- ---- before the writes

-- The segment says these data; each of its sectors of data but an unreadable one holds its part of them, and so do the second
-- and third sector of parity, or the first one and the third one can be read.
pub record IsBase (c : Cartridge) (area : List (List ℕ)) (m : ℕ) : Type 0 where
  pub is_area : IsArea area
  pub small : m < 29
  pub gone : IsUnreadable (view_at c 2 m)
  pub data_sectors : AllBut c area m
  pub reads : TableIs c area
  pub parity : (HoldsPart c area 30 × HoldsPart c area 31) ⊎ (HoldsPart c area 29 × IsRead (view_at c 2 31))

-- a test that is true of no sector that holds its part, and of each other sector of parity
pub record IsTest (c : Cartridge) (area : List (List ℕ)) (test : ℕ → Bool) : Type 0 where
  pub passes : (i : ℕ) → i < 32 → test i ≡ true → HoldsPart c area i → ⊥
  pub fails : (i : ℕ) → 29 ≤ i → i < 32 → test i ≡ false → HoldsPart c area i

-- ---- after the writes of the first places

-- the sectors from one on are as they were; each before it holds its part, or took no write
pub record IsSoFar (c d : Cartridge) (area : List (List ℕ)) (n : ℕ) : Type 0 where
  pub ahead : (i : ℕ) → n ≤ i → i < 32 → view_at d 2 i ≡ view_at c 2 i
  pub behind : (i : ℕ) → i < n → i < 32 → HoldsPart d area i ⊎ ((view_at d 2 i ≡ view_at c 2 i) × IsUnreadable (view_at c 2 i))

pub nothing_yet : (c : Cartridge) (area : List (List ℕ)) → IsSoFar c c area 0
nothing_yet c area = record { ahead = λ i from h. refl; behind = λ i past h. absurd (omega arith) }

-- a sector that could be read and was passed holds its part
part_behind : (c d : Cartridge) (area : List (List ℕ)) (n i : ℕ) → IsSoFar c d area n → i < n → i < 32 → IsRead (view_at c 2 i) →
    HoldsPart d area i
part_behind c d area n i far past h read =
    elim (far.behind i past h) [
      | inl part ↦ part
      | inr same ↦ gone_not_read (view_at c 2 i) read.0 same.1 read.1
    ]

-- one that held its part does so still
part_stays : (c d : Cartridge) (area : List (List ℕ)) (n i : ℕ) → IsSoFar c d area n → i < 32 → HoldsPart c area i → HoldsPart d area i
part_stays c d area n i far h part =
    elim (cases_lt i n) [
      | inl past ↦ part_behind c d area n i far past h (sector_at (with_parity area) i, part)
      | inr from ↦ far.ahead i from h ∙ part
    ]

-- one that was passed holds its part or is unreadable
gone_behind : (c d : Cartridge) (area : List (List ℕ)) (n i : ℕ) → IsSoFar c d area n → i < n → i < 32 → PartOrGone d area i
gone_behind c d area n i far past h =
    elim (far.behind i past h) [
      | inl part ↦ inl part
      | inr same ↦ inr (ap is_unreadable same.0 ∙ same.1)
    ]

-- the unreadable one holds its part, or is as it was
lost_one : (c d : Cartridge) (area : List (List ℕ)) (n m : ℕ) → IsSoFar c d area n → m < 32 →
    HoldsPart d area m ⊎ (view_at d 2 m ≡ view_at c 2 m)
lost_one c d area n m far h =
    elim (cases_lt m n) [
      | inl past ↦ elim (far.behind m past h) [ inl part ↦ inl part | inr same ↦ inr same.0 ]
      | inr from ↦ inr (far.ahead m from h)
    ]

lost_part : (c d : Cartridge) (area : List (List ℕ)) (n m : ℕ) → IsSoFar c d area n → m < 32 → IsUnreadable (view_at c 2 m) →
    PartOrGone d area m
lost_part c d area n m far h gone =
    elim (lost_one c d area n m far h) [ inl part ↦ inl part | inr same ↦ inr (ap is_unreadable same ∙ gone) ]

all_stay : (c d : Cartridge) (area : List (List ℕ)) (n m : ℕ) → IsBase c area m → IsSoFar c d area n → AllBut d area m
all_stay c d area n m base far i h apart = part_stays c d area n i far (omega arith) (base.data_sectors i h apart)

-- the same sectors, where none of parity changed
all_same : (c d : Cartridge) (area : List (List ℕ)) (n m : ℕ) → IsBase c area m → IsSoFar c d area n → view_at d 2 m ≡ view_at c 2 m →
    ((i : ℕ) → 29 ≤ i → i < 32 → view_at d 2 i ≡ view_at c 2 i) → TableIs d area
all_same c d area n m base far here parity =
    same_reads c d area (λ i h.
    elim (cases_lt i 29) [
      | inl front ↦ elim (cases_eq i m) [
        | inl same ↦ subst (λ (j : ℕ). view_at d 2 j ≡ view_at c 2 j) (sym same) here
        | inr apart ↦ all_stay c d area n m base far i front apart ∙ sym (base.data_sectors i front apart)
      ]
      | inr behind ↦ parity i behind h
    ]) base.reads

-- so the reading is the same
so_far_reads : (c d : Cartridge) (area : List (List ℕ)) (n m : ℕ) → IsBase c area m → IsSoFar c d area n → TableIs d area
so_far_reads c d area n m base far =
    let small : m < 29 = base.small in
    let all : AllBut d area m = all_stay c d area n m base far in
    elim (lost_one c d area n m far (omega arith)) [
      | inl part ↦ data_reads d area m base.is_area all part
      | inr same ↦ by_parity same base.parity
    ]
  where
    small_m : m < 32
    small_m = let small : m < 29 = base.small in omega arith

    by_parity : view_at d 2 m ≡ view_at c 2 m → (HoldsPart c area 30 × HoldsPart c area 31)
        ⊎ (HoldsPart c area 29 × IsRead (view_at c 2 31)) →
        TableIs d area
    by_parity same (inl both) =
        elim (cases_lt 29 n) [
          | inl past ↦
              first_gone d area m base.is_area (all_stay c d area n m base far) (lost_part c d area n m far small_m base.gone)
              (gone_behind c d area n 29 far past (omega arith))
              (part_stays c d area n 30 far (omega arith) both.0) (part_stays c d area n 31 far (omega arith) both.1)
          | inr from ↦ all_same c d area n m base far same (λ i behind h. far.ahead i (omega arith) h)
        ]
    by_parity same (inr first) =
        elim (cases_lt 30 n) [
          | inl past ↦
              third_any d area m base.is_area base.small (all_stay c d area n m base far) (lost_part c d area n m far small_m base.gone)
              (part_stays c d area n 29 far (omega arith) first.0) (gone_behind c d area n 30 far past (omega arith))
          | inr from ↦ all_same c d area n m base far same (λ i behind h.
              elim (cases_eq i 29) [
                | inl p29 ↦ subst (λ (j : ℕ). view_at d 2 j ≡ view_at c 2 j) (sym p29)
                    (part_stays c d area n 29 far (omega arith) first.0 ∙ sym first.0)
                | inr apart ↦ far.ahead i (omega arith) h
              ])
        ]

-- ---- one place more

far_written : (c d : Cartridge) (area : List (List ℕ)) (n : ℕ) → n < 32 → IsSoFar c d area n →
    IsSoFar c (changed (write_sector 2 n (sector_at (with_parity area) n)) d) area (n + 1)
far_written c d area n small far =
    let bytes : List ℕ = sector_at (with_parity area) n in
    let e : Cartridge = changed (write_sector 2 n bytes) d in
    let here : view_at d 2 n ≡ view_at c 2 n = far.ahead n (omega arith) small in
    record {
      ahead = λ i from h. written_other d n i bytes small h (λ e. omega arith) ∙ far.ahead i (omega arith) h;
      behind = λ i past h.
          elim (cases_eq i n) [
            | inl same ↦ subst (λ (j : ℕ). HoldsPart e area j ⊎ ((view_at e 2 j ≡ view_at c 2 j) × IsUnreadable (view_at c 2 j))) (sym same)
                (elim (taken_or_not bytes (view_at d 2 n)) [
                  | inl taken ↦ inl (written_here d n bytes ∙ taken)
                  | inr not_taken ↦ inr (written_here d n bytes ∙ not_taken.0 ∙ here, ap is_unreadable (sym here) ∙ not_taken.1)
                ])
            | inr apart ↦
                let other : view_at e 2 i ≡ view_at d 2 i = written_other d n i bytes small h apart in
                elim (far.behind i (omega arith) h) [
                  | inl part ↦ inl (other ∙ part)
                  | inr same ↦ inr (other ∙ same.0, same.1)
                ]
          ];
    }

far_passed : (c d : Cartridge) (area : List (List ℕ)) (test : ℕ → Bool) (n m : ℕ) → IsBase c area m → IsTest c area test → n < 32 →
    test n ≡ false →
    IsSoFar c d area n → IsSoFar c d area (n + 1)
far_passed c d area test n m base tests small fails far =
    let here : view_at d 2 n ≡ view_at c 2 n = far.ahead n (omega arith) small in
    record {
      ahead = λ i from h. far.ahead i (omega arith) h;
      behind = λ i past h.
          elim (cases_eq i n) [
            | inl same ↦ subst (λ (j : ℕ). HoldsPart d area j ⊎ ((view_at d 2 j ≡ view_at c 2 j) × IsUnreadable (view_at c 2 j))) (sym same)
                (elim (cases_eq n m) [
                  | inl lost ↦ inr (here, ap (λ (j : ℕ). is_unreadable (view_at c 2 j)) lost ∙ base.gone)
                  | inr apart ↦ elim (cases_lt n 29) [
                    | inl front ↦ inl (here ∙ base.data_sectors n front apart)
                    | inr back ↦ inl (here ∙ tests.fails n back small fails)
                  ]
                ])
            | inr apart ↦ far.behind i (omega arith) h
          ];
    }

-- a write that was stopped
far_worn : (c d : Cartridge) (area : List (List ℕ)) (test : ℕ → Bool) (n m : ℕ) → IsBase c area m → IsTest c area test → n < 32 →
    test n ≡ true → IsSoFar c d area n → TableIs (changed (Wear 2 n) d) area
far_worn c d area test n m base tests small passes far =
    elim (gone_or_read (view_at c 2 n)) [
      | inl gone ↦ so_far_reads c e area n m base (unchanged gone)
      | inr read ↦ elim (cases_lt n 29) [
        | inl front ↦ elim (cases_eq n m) [
          | inl lost ↦ gone_not_read (view_at c 2 m) read.0 base.gone (ap (view_at c 2) (sym lost) ∙ read.1)
          | inr apart ↦ absurd (tests.passes n small passes (base.data_sectors n front apart))
        ]
        | inr back ↦ by_parity back base.parity
      ]
    ]
  where
    e : Cartridge
    e = changed (Wear 2 n) d

    here : view_at d 2 n ≡ view_at c 2 n
    here = far.ahead n (omega arith) small

    unchanged : IsUnreadable (view_at c 2 n) → IsSoFar c e area n
    unchanged gone = record {
      ahead = λ i from h.
          elim (cases_eq i n) [
            | inl same ↦ subst (λ (j : ℕ). view_at e 2 j ≡ view_at c 2 j) (sym same)
                (worn_here d n ∙ worn_same (view_at d 2 n) (ap is_unreadable here ∙ gone) ∙ here)
            | inr apart ↦ worn_other d n i small h apart ∙ far.ahead i from h
          ];
      behind = λ i past h.
          let other : view_at e 2 i ≡ view_at d 2 i = worn_other d n i small h (λ e. omega arith) in
          elim (far.behind i past h) [
            | inl part ↦ inl (other ∙ part)
            | inr same ↦ inr (other ∙ same.0, same.1)
          ];
    }

    small_m : m < 32
    small_m = let little : m < 29 = base.small in omega arith

    all : 29 ≤ n → AllBut e area m
    all back i h apart = worn_other d n i small (omega arith) (λ e. omega arith) ∙ all_stay c d area n m base far i h apart

    lost : 29 ≤ n → PartOrGone e area m
    lost back =
        let little : m < 29 = base.small in
        let other : view_at e 2 m ≡ view_at d 2 m = worn_other d n m small small_m (λ e. omega arith) in
        elim (lost_part c d area n m far small_m base.gone) [
          | inl part ↦ inl (other ∙ part)
          | inr gone ↦ inr (ap is_unreadable other ∙ gone)
        ]

    worn : IsUnreadable (view_at e 2 n)
    worn = ap is_unreadable (worn_here d n) ∙ worn_gone (view_at d 2 n)

    -- a sector that held its part is not the one that was written
    not_this : (i : ℕ) → HoldsPart c area i → n ≢ i
    not_this i part same = tests.passes n small passes (subst (HoldsPart c area) (sym same) part)

    stays : (i : ℕ) → i < 32 → HoldsPart c area i → HoldsPart e area i
    stays i h part = worn_other d n i small h (λ same. not_this i part (sym same)) ∙ part_stays c d area n i far h part

    by_parity : 29 ≤ n → (HoldsPart c area 30 × HoldsPart c area 31) ⊎ (HoldsPart c area 29 × IsRead (view_at c 2 31)) → TableIs e area
    by_parity back (inl both) =
        let not_second : n ≢ 30 = not_this 30 both.0 in
        let not_third : n ≢ 31 = not_this 31 both.1 in
        let first : n ≡ 29 = omega arith in
        first_gone e area m base.is_area (all back) (lost back) (inr (subst (λ (i : ℕ). IsUnreadable (view_at e 2 i)) first worn))
        (stays 30 (omega arith) both.0) (stays 31 (omega arith) both.1)
    by_parity back (inr first) =
        let not_first : n ≢ 29 = not_this 29 first.0 in
        third_any e area m base.is_area base.small (all back) (lost back) (stays 29 (omega arith) first.0)
        (elim (cases_eq n 30) [
          | inl second ↦ inr (subst (λ (i : ℕ). IsUnreadable (view_at e 2 i)) second worn)
          | inr not_second ↦
              let other : view_at e 2 30 ≡ view_at d 2 30 = worn_other d n 30 small (omega arith) (λ same. not_second (sym same)) in
              elim (gone_behind c d area n 30 far (omega arith) (omega arith)) [
                | inl part ↦ inl (other ∙ part)
                | inr gone ↦ inr (ap is_unreadable other ∙ gone)
              ]
        ])

-- ---- a stop

pub stopped_from : (c : Cartridge) (area : List (List ℕ)) (test : ℕ → Bool) (m count n : ℕ) (d : Cartridge) (left : Option Cartridge) →
    IsBase c area m →
    IsTest c area test → n + count ≤ 32 → IsSoFar c d area n → Torn (steps_that test (with_parity area) n count) (Some d) left →
    IsSomeAnd left (λ e. TableIs e area)
stopped_from c area test m zero n d left base tests room far torn =
    some_and (λ e. TableIs e area) d left (so_far_reads c d area n m base far)
    (subst (λ (ss : List Step). Torn ss (Some d) left) (steps_none test (with_parity area) n) torn)
stopped_from c area test m (suc count) n d left base tests room far torn =
    elim (cases_Bool (test n)) [
      | inl passes ↦
          step passes (λ behind.
          stopped_from c area test m count (n + 1) (changed (write_sector 2 n (sector_at (with_parity area) n)) d) left base tests
          (omega arith)
          (far_written c d area n (omega arith) far) behind)
          (subst (λ (ss : List Step). Torn ss (Some d) left) (steps_passes test (with_parity area) n count passes) torn)
      | inr fails ↦
          stopped_from c area test m count (n + 1) d left base tests (omega arith)
          (far_passed c d area test n m base tests (omega arith) fails far)
          (subst (λ (ss : List Step). Torn ss (Some d) left) (steps_fails test (with_parity area) n count fails) torn)
    ]
  where
    step : test n ≡ true →
        (Torn (steps_that test (with_parity area) (n + 1) count) (Some (changed (write_sector 2 n (sector_at (with_parity area) n)) d))
        left →
        IsSomeAnd left (λ e. TableIs e area)) →
        Torn (write_sector 2 n (sector_at (with_parity area) n) ∷ steps_that test (with_parity area) (n + 1) count) (Some d) left →
        IsSomeAnd left (λ e. TableIs e area)
    step passes then torn =
        let bytes : List ℕ = sector_at (with_parity area) n in
        elim (torn_write 2 n bytes (steps_that test (with_parity area) (n + 1) count) (Some d) left torn) [
          | inl before ↦ some_and (λ e. TableIs e area) d left (so_far_reads c d area n m base far) before
          | inr (inl worn) ↦
              some_and (λ e. TableIs e area) (changed (Wear 2 n) d) left
              (far_worn c d area test n m base tests (omega arith) passes far) worn
          | inr (inr behind) ↦ then behind
        ]
