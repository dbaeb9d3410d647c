-- A segment of which a check tells that it is sound, weak or wrong is made whole by a deep scrub.
use Rattle.std.proofs.Common.{◌≡◌, ◌≢◌, ◌⊎◌, ◌+◌, ◌<◌, ◌≤◌, inl, inr, ℕ, List, refl, sym, ◌∙◌, ap, Option, Some, None, Bool}
use Rattle.std.proofs.Common.{arith, false, get_or, length, true}
use Rattle.std.proofs.lemmas.Bool.{cases_Bool, false≢true}
use Rattle.std.proofs.lemmas.List.{take_all}
use Rattle.std.specs.Prelude.{◌==◌, ◌&&◌, if◌then◌else◌}
use Rattle.cartridge_laws.proofs.Cells.{count_of_readable}
use Rattle.cartridge_laws.proofs.Sayings.{said_are_sectors, said_is_written, says_is_function}
use Rattle.cartridge_laws.proofs.Segments.{count_of_cells}
use Rattle.cartridge_spec.specs.HeaderCopies.{CopyReads, HasHeader}
use Rattle.cartridge_spec.specs.Says.{Data, LostSectors, Mismatch, Saying, Says, unreadable_count, with_parity}
use Rattle.cartridge_spec.specs.Shape.{IsLive, sector_at, usable_count, usable_places}
use Rattle.cartridge_spec.specs.Volumes.{worn}
use Rattle.command_laws.proofs.ScrubOneWrong.{cell_unworn, wrong_place}
use Rattle.command_laws.proofs.SilentFound.{said_of, view_cell}
use Rattle.command_laws.specs.CheckLaws.{HasOneHeader, IsReadWhole, IsToldMended}
use Rattle.command_laws.specs.CheckLaws.{ToldIsMendable}
use Rattle.command_laws.specs.SilentSegments.{AreDataOf, IsMadeWhole, IsMendable}
use Rattle.command_spec.specs.Check.{IsTold, read_but, verdict_by}
use Rattle.command_spec.specs.Scrub.{HasFoundBy, IsWrong, Looked, cells_at, reads, whole_segment}
use Rattle.command_spec.specs.declared.verdict.Verdict.{Verdict}
use Rattle.command_spec.specs.declared.verdict.Verdict.TheVariants.{Contradicts, Sound, Unsettled, Weak, Wrong}
use Rattle.gf256_qic.proofs.Parities.{block_count}
use Rattle.qic_base.specs.Cartridge.{Cartridge, view_at}
use Rattle.qic_base.specs.declared.tape.SectorView.{SectorView}

-- ---- what a segment holds by what is told of it

-- it says these data, or it does with a wrong sector lost
abbrev pub HoldsBy : Cartridge → Looked → (sectors : List (List ℕ)) → Type 0
HoldsBy c l xs = (Says (cells_at c l) (Data xs) × (reads l (Data xs) ≡ true)) ⊎ ((sector : ℕ) × IsWrong c l sector xs)

pub record Holding (c : Cartridge) (l : Looked) : Type 0 where
  pub sectors : List (List ℕ)
  pub by : HoldsBy c l sectors

abbrev is_mended : Verdict → Bool
is_mended Sound = true
is_mended (Weak lost) = true
is_mended (Wrong sector) = true
is_mended other = false

undecided_not : (b : Bool) → is_mended (if b then Unsettled else Contradicts) ≡ true → ⊥
undecided_not true is = absurd (false≢true is)
undecided_not false is = absurd (false≢true is)

holding_by : (c : Cartridge) (l : Looked) (opens : Bool) (s : Saying) (w : Option ℕ) → HasFoundBy (Unit {0}) c l s w →
    is_mended (verdict_by c l opens s w) ≡ true → Holding c l
holding_by c l opens s (Some sector) found is = record { sectors = found.1; by = inr (sector, found.3) }
holding_by c l opens (LostSectors n) None found is = absurd (false≢true is)
holding_by c l opens Mismatch None found is = absurd (undecided_not (l.segment == 2 && opens) is)
holding_by c l opens (Data xs) None found is =
    let by : Bool → Verdict = λ b. if b then read_but (unreadable_count (cells_at c l)) else Contradicts in
    elim (cases_Bool (reads l (Data xs))) [
      | inl can ↦ record { sectors = xs; by = inl (found.0, can) }
      | inr fails ↦ absurd (false≢true (sym (ap (λ (b : Bool). is_mended (by b)) fails) ∙ is))
    ]

holding_of : (c : Cartridge) (l : Looked) (v : Verdict) → is_mended v ≡ true → IsTold c l v → Holding c l
holding_of c l v is told =
    holding_by c l told.opens told.finding.saying told.finding.wrong told.found (ap (λ (x : Verdict). is_mended x) (sym told.is) ∙ is)

pub held_of : (c : Cartridge) (l : Looked) → IsToldMended c l → Holding c l
held_of c l (inl sound) = holding_of c l Sound refl sound
held_of c l (inr (n, inl weak)) = holding_of c l (Weak n) refl weak
held_of c l (inr (n, inr wrong)) = holding_of c l (Wrong n) refl wrong

-- ---- it holds enough

data_sectors : (d : Cartridge) (l : Looked) (xs : List (List ℕ)) → Says (cells_at d l) (Data xs) → reads l (Data xs) ≡ true → AreDataOf l xs
data_sectors d l xs says can =
    let are = said_are_sectors (cells_at d l) xs says in
    let size : length xs + 3 ≡ length (cells_at d l) = are.size in
    let cells : length (cells_at d l) ≡ usable_count l.mask = count_of_cells d l.segment l.mask in
    let block : length says.1.block ≡ length (cells_at d l) = says.1.agrees.size in
    let least : 4 ≤ length says.1.block = (block_count says.1.block says.1.code).0 in
    record { are = are.each; some = omega arith; size = omega arith; can_be_read = can }

pub said_mendable : (c : Cartridge) (l : Looked) (xs : List (List ℕ)) → Says (cells_at c l) (Data xs) → reads l (Data xs) ≡ true →
    IsMendable c l xs
said_mendable c l xs says can = record {
  data_of = data_sectors c l xs says can;
  holds = inl (said_is_written (cells_at c l) xs says, says.0);
}

wrong_mendable : (c : Cartridge) (l : Looked) (sector : ℕ) (xs : List (List ℕ)) → l.segment ≢ 2 → IsWrong c l sector xs → IsMendable c l xs
wrong_mendable c l sector xs other wrong = record {
  data_of = data_sectors (worn l.segment sector c) l xs wrong.says wrong.can_be_read;
  holds = inr (
    other,
    record {
      place = wrong.place;
      within = wrong.within;
      others = λ i bytes apart at.
          (said_is_written (cells_at (worn l.segment sector c) l) xs wrong.says).each i bytes
          (cell_unworn c l wrong.place sector i bytes (wrong_place wrong) apart at);
      few = wrong.few;
    },
  );
}

pub mendable_by : (c : Cartridge) (l : Looked) (xs : List (List ℕ)) → l.segment ≢ 2 → HoldsBy c l xs → IsMendable c l xs
mendable_by c l xs other (inl said) = said_mendable c l xs said.0 said.1
mendable_by c l xs other (inr (sector, wrong)) = wrong_mendable c l sector xs other wrong

pub told_is_mendable : ToldIsMendable
told_is_mendable c l other told = let held = held_of c l told in (held.sectors, mendable_by c l held.sectors other held.by)

-- ---- behind the scrub

-- all its sectors can be read, and it says these data
pub record IsReadAs (d : Cartridge) (l : Looked) (xs : List (List ℕ)) : Type 0 where
  pub says : Says (cells_at d l) (Data xs)
  pub can_be_read : reads l (Data xs) ≡ true
  pub each : unreadable_count (cells_at d l) ≡ 0

pub read_as_whole : (d : Cartridge) (l : Looked) (xs : List (List ℕ)) → IsReadAs d l xs → IsReadWhole d l
read_as_whole d l xs is = record { sectors = xs; says = is.says; can_be_read = is.can_be_read; each = is.each }

-- each usable sector takes what is written to it
abbrev pub IsAllLive : Cartridge → Looked → Type 0
IsAllLive c l = (k : ℕ) → k < usable_count l.mask → IsLive (view_at c l.segment (get_or (usable_places l.mask) k 0))

pub made_read : (c d : Cartridge) (l : Looked) (xs : List (List ℕ)) → IsAllLive c l → IsMendable c l xs → IsMadeWhole c d l xs →
    IsReadAs d l xs
made_read c d l xs live mendable made =
    let cells : List SectorView = cells_at d l in
    let n : ℕ = length cells in
    let long : length cells ≡ usable_count l.mask = count_of_cells d l.segment l.mask in
    let none : unreadable_count cells ≡ 0 =
    ap (λ (vs : List SectorView). unreadable_count vs) (sym (take_all n cells (omega arith)))
    ∙ count_of_readable n cells (λ i h. (
      sector_at (with_parity xs) i,
      view_cell d l i (sector_at (with_parity xs) i) (omega arith)
          (made.live i (omega arith) (live i (omega arith))),
    )) in
    record {
      says = said_of d l xs mendable.data_of made.written (omega arith);
      can_be_read = mendable.data_of.can_be_read;
      each = none;
    }

-- ---- the header in force

pub same_header : (c : Cartridge) (area xs : List (List ℕ)) → HasHeader c area → HasOneHeader c → HoldsBy c (whole_segment 0) xs → xs ≡ area
same_header c area xs header one (inl said) =
    elim header.in_force [
      | inl first ↦ let both = says_is_function (cells_at c (whole_segment 0)) (Data xs) (Data area) said.0 first.says in cc
      | inr second ↦ absurd (second.0 xs (record { says = said.0; signature = said.1 }))
    ]
same_header c area xs header one (inr (sector, wrong)) =
    elim header.in_force [
      | inl first ↦
          let both = says_is_function (cells_at c (whole_segment 0)) (Data area) Mismatch first.says wrong.mismatch in absurd (cc)
      | inr second ↦
          let copy : CopyReads c 1 xs = one sector xs wrong in
          let both = says_is_function (cells_at c (whole_segment 1)) (Data xs) (Data area) copy.says second.1.says in cc
    ]
