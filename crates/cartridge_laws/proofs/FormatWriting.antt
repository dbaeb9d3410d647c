-- What the writes of a header copy leave, done or stopped.
use Rattle.std.proofs.Common.{◌≡◌, ◌+◌, List, [], ◌∷◌, ◌++◌, refl, Some, sym, subst, Option, IsSomeAnd, None, ℕ, ◌<◌, ◌∙◌, arith, zero, suc}
use Rattle.std.proofs.Common.{◌≤◌, inl, inr, length, get_or, ap, ◌⊎◌}
use Rattle.std.specs.List.{range_with_len}
use Rattle.std.proofs.lemmas.Option.{unwrap_or-slice_get}
use Rattle.cartridge_laws.proofs.FormatViews.{view_of_other_sector, view_of_sector}
use Rattle.cartridge_spec.specs.Formatting.{copy_writes}
use Rattle.cartridge_spec.specs.Settling.{changed_by, writes_of}
use Rattle.cartridge_spec.specs.Shape.{sector_at}
use Rattle.qic_base.proofs.Steps.{Torn-append}
use Rattle.qic_base.proofs.SectorsWritten.{torn_write}
use Rattle.qic_base.specs.Cartridge.{Cartridge, view_at}
use Rattle.qic_base.specs.Step.{Step, changed, effects, write_sector, written_view, Wear, worn_view, Torn}
use Rattle.qic_base.specs.declared.tape.SectorView.{SectorView}
use Rattle.qic_base.specs.declared.tape.SectorView.TheVariants.{Holds, Blank, Defect, Lost}

-- ---- steps in general

pub changed_by-append : (xs ys : List Step) (c : Cartridge) → changed_by (xs ++ ys) c ≡ changed_by ys (changed_by xs c)
changed_by-append [] ys c = refl
changed_by-append (x ∷ xs) ys c = changed_by-append xs ys (changed x c)

pub effects-some : (xs : List Step) (c : Cartridge) → effects xs (Some c) ≡ Some (changed_by xs c)
effects-some [] c = refl
effects-some (x ∷ xs) c = effects-some xs (changed x c)

pub some_and : (P : Cartridge → Type 0) (c : Cartridge) (left : Option Cartridge) → P c → left ≡ Some c → IsSomeAnd left P
some_and P c left holds is = subst (λ (o : Option Cartridge). IsSomeAnd o P) (sym is) holds

pub some_weaker : {P Q : Cartridge → Type 0} (left : Option Cartridge) → ((d : Cartridge) → P d → Q d) → IsSomeAnd left P → IsSomeAnd left Q
some_weaker None follows holds = absurd holds
some_weaker (Some d) follows holds = follows d holds

-- ---- writes to the sectors of a segment from one on

-- nothing changed but sectors of the segment from this one on
pub record IsUntouched (segment from : ℕ) (c d : Cartridge) : Type 0 where
  pub info : d.info ≡ c.info
  pub version : d.version ≡ c.version
  pub others : (s i : ℕ) → i < 32 → (s ≡ segment → i < from) → view_at d s i ≡ view_at c s i

untouched : (segment from : ℕ) (c : Cartridge) → IsUntouched segment from c c
untouched segment from c = record { info = refl; version = refl; others = λ s i h other. refl }

untouched_then : {segment from : ℕ} {c d e : Cartridge} → IsUntouched segment from c d → IsUntouched segment (from + 1) d e →
    IsUntouched segment from c e
untouched_then first next = record {
  info = next.info ∙ first.info;
  version = next.version ∙ first.version;
  others = λ s i h other.
      next.others s i h (λ same. let below = other same in omega arith) ∙ first.others s i h other;
}

write_untouched : (segment from : ℕ) (bytes : List ℕ) (c : Cartridge) → from < 32 →
    IsUntouched segment from c (changed (write_sector segment from bytes) c)
write_untouched segment from bytes c small = record {
  info = refl;
  version = refl;
  others = λ s i h other.
      view_of_other_sector c segment from s i (written_view bytes (view_at c segment from)) small h
      (λ same e. let below = other same in omega arith);
}

wear_untouched : (segment from : ℕ) (c : Cartridge) → from < 32 → IsUntouched segment from c (changed (Wear segment from) c)
wear_untouched segment from c small = record {
  info = refl;
  version = refl;
  others = λ s i h other.
      view_of_other_sector c segment from s i (worn_view (view_at c segment from)) small h
      (λ same e. let below = other same in omega arith);
}

pub writes_untouched : (m from : ℕ) (sectors : List (List ℕ)) (segment : ℕ) (c : Cartridge) → from + m ≤ 32 →
    IsUntouched segment from c (changed_by (writes_of segment (range_with_len from m) sectors) c)
writes_untouched zero from sectors segment c room = untouched segment from c
writes_untouched (suc m) from [] segment c room = untouched segment from c
writes_untouched (suc m) from (bytes ∷ sectors) segment c room =
    untouched_then (write_untouched segment from bytes c (omega arith))
    (writes_untouched m (from + 1) sectors segment (changed (write_sector segment from bytes) c) (omega arith))

-- a stop among them changes nothing else either
writes_stopped : (m from : ℕ) (sectors : List (List ℕ)) (segment : ℕ) (c : Cartridge) (left : Option Cartridge) → from + m ≤ 32 →
    Torn (writes_of segment (range_with_len from m) sectors) (Some c) left → IsSomeAnd left (IsUntouched segment from c)
writes_stopped zero from sectors segment c left room is = some_and (IsUntouched segment from c) c left (untouched segment from c) is
writes_stopped (suc m) from [] segment c left room is = some_and (IsUntouched segment from c) c left (untouched segment from c) is
writes_stopped (suc m) from (bytes ∷ sectors) segment c left room torn =
    elim (torn_write segment from bytes (writes_of segment (range_with_len (from + 1) m) sectors) (Some c) left torn) [
      | inl before ↦ some_and (IsUntouched segment from c) c left (untouched segment from c) before
      | inr (inl worn) ↦
          some_and (IsUntouched segment from c) (changed (Wear segment from) c) left (wear_untouched segment from c (omega arith)) worn
      | inr (inr behind) ↦
          some_weaker left (λ d. untouched_then (write_untouched segment from bytes c (omega arith)))
          (writes_stopped m (from + 1) sectors segment (changed (write_sector segment from bytes) c) left (omega arith) behind)
    ]

-- what is written stands at its place
pub view_written : (m from j : ℕ) (sectors : List (List ℕ)) (segment : ℕ) (c : Cartridge) → from + m ≤ 32 → length sectors ≡ m → j < m →
    view_at (changed_by (writes_of segment (range_with_len from m) sectors) c) segment (from + j)
    ≡ written_view (get_or sectors j []) (view_at c segment (from + j))
view_written zero from j sectors segment c room long h = absurd (omega arith)
view_written (suc m) from j [] segment c room long h = absurd (omega arith)
view_written (suc m) from zero (bytes ∷ sectors) segment c room long h =
    let place : from + 0 ≡ from = omega arith in
    subst (λ (i : ℕ). view_at (changed_by (writes_of segment (range_with_len (from + 1) m) sectors)
    (changed (write_sector segment from bytes) c)) segment i
    ≡ written_view bytes (view_at c segment i)) (sym place)
    ((writes_untouched m (from + 1) sectors segment (changed (write_sector segment from bytes) c) (omega arith)).others
    segment from (omega arith) (λ same. omega arith)
    ∙ view_of_sector c segment from (written_view bytes) refl)
view_written (suc m) from (suc j) (bytes ∷ sectors) segment c room long h =
    let place : (from + 1) + j ≡ from + suc j = omega arith in
    subst (λ (i : ℕ). view_at (changed_by (writes_of segment (range_with_len (from + 1) m) sectors)
    (changed (write_sector segment from bytes) c)) segment i
    ≡ written_view (get_or sectors j []) (view_at c segment i)) place
    (view_written m (from + 1) j sectors segment (changed (write_sector segment from bytes) c) (omega arith) (omega arith) (omega arith)
    ∙ ap (written_view (get_or sectors j []))
    (view_of_other_sector c segment from segment ((from + 1) + j) (written_view bytes (view_at c segment from)) (omega arith) (omega arith)
    (λ same e. absurd (omega arith))))

-- ---- a header copy

-- each sector of the segment takes what is written to it
pub record IsWritable (c : Cartridge) (segment : ℕ) : Type 0 where
  pub each : (i : ℕ) (bytes : List ℕ) → i < 32 → written_view bytes (view_at c segment i) ≡ Holds bytes

-- the segment's sectors hold those of the block, but that the first may be unreadable; nothing else changed
pub record IsAlmostWritten (segment : ℕ) (block : List (List ℕ)) (c d : Cartridge) : Type 0 where
  pub info : d.info ≡ c.info
  pub first : (bytes : List ℕ) → view_at d segment 0 ≡ Holds bytes → bytes ≡ sector_at block 0
  pub here : (i : ℕ) → 1 ≤ i → i < 32 → view_at d segment i ≡ Holds (sector_at block i)
  pub others : (s i : ℕ) → i < 32 → (s ≡ segment → ⊥) → view_at d s i ≡ view_at c s i

-- the first of them too
pub record IsWritten (segment : ℕ) (block : List (List ℕ)) (c d : Cartridge) : Type 0 where
  pub almost : IsAlmostWritten segment block c d
  pub first : view_at d segment 0 ≡ Holds (sector_at block 0)

pub view_of_written : {segment : ℕ} {block : List (List ℕ)} {c d : Cartridge} (i : ℕ) → IsWritten segment block c d → i < 32 →
    view_at d segment i ≡ Holds (sector_at block i)
view_of_written zero written h = written.first
view_of_written (suc i) written h = written.almost.here (suc i) (omega arith) h

-- all sectors but the first
abbrev rear_writes : (copy : ℕ) → (rear : List (List ℕ)) → List Step
rear_writes copy rear = writes_of copy (range_with_len 1 31) rear

rear_written : (copy i : ℕ) (bytes : List ℕ) (rear : List (List ℕ)) (c : Cartridge) → length rear ≡ 31 → IsWritable c copy → 1 ≤ i →
    i < 32 →
    view_at (changed_by (rear_writes copy rear) c) copy i ≡ Holds (sector_at (bytes ∷ rear) i)
rear_written copy zero bytes rear c long writable from h = absurd (omega arith)
rear_written copy (suc j) bytes rear c long writable from h =
    let place : 1 + j ≡ suc j = omega arith in
    subst (λ (i : ℕ). view_at (changed_by (rear_writes copy rear) c) copy i ≡ written_view (get_or rear j []) (view_at c copy i)) place
    (view_written 31 1 j rear copy c (omega arith) long (omega arith))
    ∙ writable.each (suc j) (get_or rear j []) h
    ∙ ap (λ (held : List ℕ). Holds held) (sym (unwrap_or-slice_get rear j []))

pub worn_holds : (view : SectorView) (bytes : List ℕ) → worn_view view ≡ Holds bytes → ⊥
worn_holds Blank bytes same = cc
worn_holds Defect bytes same = cc
worn_holds Lost bytes same = cc
worn_holds (Holds old) bytes same = cc

-- a stop inside the last write
worn_written : (copy : ℕ) (bytes : List ℕ) (rear : List (List ℕ)) (c : Cartridge) → length rear ≡ 31 → IsWritable c copy →
    IsAlmostWritten copy (bytes ∷ rear) c (changed (Wear copy 0) (changed_by (rear_writes copy rear) c))
worn_written copy bytes rear c long writable =
    let d : Cartridge = changed_by (rear_writes copy rear) c in
    let rest = writes_untouched 31 1 rear copy c (omega arith) in
    let wear = wear_untouched copy 0 d (omega arith) in
    let worn = view_of_sector d copy 0 worn_view refl in
    record {
      info = rest.info;
      first = λ held view. absurd (worn_holds (view_at d copy 0) held (sym worn ∙ view));
      here = λ i from h.
          view_of_other_sector d copy 0 copy i (worn_view (view_at d copy 0)) (omega arith) h (λ same e. absurd (omega arith))
          ∙ rear_written copy i bytes rear c long writable from h;
      others = λ s i h apart.
          wear.others s i h (λ same. absurd (apart same)) ∙ rest.others s i h (λ same. absurd (apart same));
    }

-- and the end of it
all_written : (copy : ℕ) (bytes : List ℕ) (rear : List (List ℕ)) (c : Cartridge) → length rear ≡ 31 → IsWritable c copy →
    IsWritten copy (bytes ∷ rear) c (changed (write_sector copy 0 bytes) (changed_by (rear_writes copy rear) c))
all_written copy bytes rear c long writable =
    let d : Cartridge = changed_by (rear_writes copy rear) c in
    let rest = writes_untouched 31 1 rear copy c (omega arith) in
    let write = write_untouched copy 0 bytes d (omega arith) in
    let first : view_at (changed (write_sector copy 0 bytes) d) copy 0 ≡ Holds bytes =
    view_of_sector d copy 0 (written_view bytes) refl
    ∙ ap (written_view bytes) (rest.others copy 0 (omega arith) (λ same. omega arith))
    ∙ writable.each 0 bytes (omega arith) in
    record {
      first = first;
      almost = record {
        info = rest.info;
        first = λ held view.
            let same : Holds held ≡ Holds bytes = sym view ∙ first in
            cc;
        here = λ i from h.
            view_of_other_sector d copy 0 copy i (written_view bytes (view_at d copy 0)) (omega arith) h (λ same e. absurd (omega arith))
            ∙ rear_written copy i bytes rear c long writable from h;
        others = λ s i h apart.
            write.others s i h (λ same. absurd (apart same)) ∙ rest.others s i h (λ same. absurd (apart same));
      };
    }

-- a copy that was written
pub copy_written : (copy : ℕ) (block : List (List ℕ)) (c : Cartridge) → length block ≡ 32 → IsWritable c copy →
    IsWritten copy block c (changed_by (copy_writes copy block) c)
copy_written copy [] c long writable = absurd (omega arith)
copy_written copy (bytes ∷ rear) c long writable =
    subst (IsWritten copy (bytes ∷ rear) c) (sym (changed_by-append (rear_writes copy rear) (write_sector copy 0 bytes ∷ []) c))
    (all_written copy bytes rear c (omega arith) writable)

-- one that was not written to the end: sector 0 and all other segments are as they were, or all is written but that
-- sector 0 may be unreadable
abbrev pub IsPartlyWritten : (copy : ℕ) (block : List (List ℕ)) (c d : Cartridge) → Type 0
IsPartlyWritten copy block c d = IsUntouched copy 1 c d ⊎ IsAlmostWritten copy block c d

last_stopped : (copy : ℕ) (bytes : List ℕ) (rear : List (List ℕ)) (c : Cartridge) (left : Option Cartridge) → length rear ≡ 31 →
    IsWritable c copy →
    Torn (write_sector copy 0 bytes ∷ []) (Some (changed_by (rear_writes copy rear) c)) left →
    IsSomeAnd left (IsPartlyWritten copy (bytes ∷ rear) c)
last_stopped copy bytes rear c left long writable torn =
    elim (torn_write copy 0 bytes [] (Some (changed_by (rear_writes copy rear) c)) left torn) [
      | inl before ↦
          some_and (IsPartlyWritten copy (bytes ∷ rear) c) (changed_by (rear_writes copy rear) c) left
          (inl (writes_untouched 31 1 rear copy c (omega arith))) before
      | inr (inl worn) ↦
          some_and (IsPartlyWritten copy (bytes ∷ rear) c) (changed (Wear copy 0) (changed_by (rear_writes copy rear) c)) left
          (inr (worn_written copy bytes rear c long writable)) worn
      | inr (inr behind) ↦
          some_and (IsPartlyWritten copy (bytes ∷ rear) c) (changed (write_sector copy 0 bytes) (changed_by (rear_writes copy rear) c)) left
          (inr (all_written copy bytes rear c long writable).almost) behind
    ]

pub copy_stopped : (copy : ℕ) (block : List (List ℕ)) (c : Cartridge) (left : Option Cartridge) → length block ≡ 32 → IsWritable c copy →
    Torn (copy_writes copy block) (Some c) left → IsSomeAnd left (IsPartlyWritten copy block c)
copy_stopped copy [] c left long writable torn = absurd (omega arith)
copy_stopped copy (bytes ∷ rear) c left long writable torn =
    let rest : List Step = write_sector copy 0 bytes ∷ [] in
    elim (Torn-append (rear_writes copy rear) rest (Some c) left torn) [
      | inl front ↦ some_weaker left (λ d kept. inl kept) (writes_stopped 31 1 rear copy c left (omega arith) front)
      | inr behind ↦
          last_stopped copy bytes rear c left (omega arith) writable
          (subst (λ (held : Option Cartridge). Torn rest held left) (effects-some (rear_writes copy rear) c) behind)
    ]
