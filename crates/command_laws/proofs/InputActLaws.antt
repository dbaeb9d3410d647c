-- The laws of the acts of a volume.
use Rattle.std.proofs.Common.{◌≡◌, Bool, true, false, cond, List, [], refl, ℕ, ◌∷◌, ◌++◌, length, drop, sym, ap, ◌∙◌, nat_le, ◌&&◌, take}
use Rattle.std.proofs.Common.{nat_lt, All, ◌<◌, subst, arith, append-nil}
use Rattle.std.proofs.lemmas.List.Elements.{All-head, All-tail, All-nil, All-cons, All-append, All-drop, All-take}
use Rattle.std.proofs.lemmas.List.{take_all}
use Rattle.cartridge_laws.proofs.AppendBySegments.{writes_by_segment}
use Rattle.cartridge_laws.proofs.AppendKeeping.{parts_of_segments}
use Rattle.cartridge_laws.proofs.AppendParts.{length-in_sectors, are_sectors}
use Rattle.cartridge_laws.specs.AppendWrites.{AreWrites, IsFree, IsOfSector}
use Rattle.cartridge_laws.specs.Shape.{Carries}
use Rattle.cartridge_spec.specs.Appending.{part_writes, in_sectors}
use Rattle.cartridge_spec.specs.Code.{parity_sectors}
use Rattle.cartridge_spec.specs.Says.{with_parity}
use Rattle.cartridge_spec.specs.Shape.{mask_at, capacity, data_count, usable_places}
use Rattle.command_laws.specs.InputLaws.{VolumeIsWrites, VolumePrintsNothing, FilledPrintsNothing, InputPrintsNothing, VolumeIsFree}
use Rattle.command_laws.specs.InputLaws.{FilledIsFree, InputIsFree, VolumeIsOfSectors, FilledIsOfSectors, InputIsOfSectors}
use Rattle.command_spec.specs.Append.{segment_act, volume_acts, filled_acts, input_acts}
use Rattle.gf256_qic.proofs.Parities.{parity_sectors-are_sectors}
use Rattle.qic_base.specs.Acts.{Act, steps_of, text_of}
use Rattle.qic_base.specs.Cartridge.{IsSector}
use Rattle.qic_base.specs.Step.{Step}
use Rattle.cartridge_laws.proofs.AppendWhole.{sectors_whole}
use Rattle.qic_base.specs.Disk.{AreBytes}

-- ---- a whole volume

steps_by : (b : Bool) (acts : List Act) → steps_of (cond b [] acts) ≡ cond b [] (steps_of acts)
steps_by true acts = refl
steps_by false acts = refl

pub volume_is_writes : VolumeIsWrites
volume_is_writes words [] bytes carry = refl
volume_is_writes words (s ∷ ss) bytes carry =
    let cap : ℕ = capacity (mask_at words s) in
    let first : List Step = (segment_act words s bytes).steps in
    let ends : Bool = nat_le (length bytes) cap in
    ap (λ (steps : List Step). first ++ steps) (
    steps_by ends (volume_acts words ss (drop cap bytes))
    ∙ ap (λ (steps : List Step). cond ends [] steps)
    (volume_is_writes words ss (drop cap bytes) (All-tail (λ (t : ℕ). Carries (mask_at words t)) s ss carry))
    )
    ∙ sym (writes_by_segment words s ss bytes (All-head (λ (t : ℕ). Carries (mask_at words t)) s ss carry))

-- ---- what is printed

text_by : (b : Bool) (xs ys : List Act) → text_of xs ≡ [] → text_of ys ≡ [] → text_of (cond b xs ys) ≡ []
text_by true xs ys first other = first
text_by false xs ys first other = other

pub volume_prints_nothing : VolumePrintsNothing
volume_prints_nothing words [] bytes = refl
volume_prints_nothing words (s ∷ ss) bytes =
    text_by (nat_le (length bytes) (capacity (mask_at words s))) [] (volume_acts words ss (drop (capacity (mask_at words s)) bytes)) refl
    (volume_prints_nothing words ss (drop (capacity (mask_at words s)) bytes))

pub filled_prints_nothing : FilledPrintsNothing
filled_prints_nothing words [] bytes = refl
filled_prints_nothing words (s ∷ ss) bytes =
    let cap : ℕ = capacity (mask_at words s) in
    text_by (nat_le cap (length bytes)) (segment_act words s bytes ∷ filled_acts words ss (drop cap bytes)) []
    (filled_prints_nothing words ss (drop cap bytes)) refl

pub input_prints_nothing : InputPrintsNothing
input_prints_nothing words segments most exact input =
    text_by (exact && nat_lt (length input) most) (filled_acts words segments input) (volume_acts words segments (take most input))
    (filled_prints_nothing words segments input) (volume_prints_nothing words segments (take most input))

-- ---- what is written

module _ (of : ℕ → ℕ → List ℕ → Type 0) where
  writes_both : (xs ys : List Step) → AreWrites of xs → AreWrites of ys → AreWrites of (xs ++ ys)
  writes_both [] ys first next = next
  writes_both (x ∷ xs) ys first next = (first.0, writes_both xs ys first.1 next)

  writes_by : (b : Bool) (xs ys : List Act) → AreWrites of (steps_of xs) → AreWrites of (steps_of ys) →
      AreWrites of (steps_of (cond b xs ys))
  writes_by true xs ys first other = first
  writes_by false xs ys first other = other

  -- the acts of a volume and those of segments that are filled, where each segment's are such
  module _ (At : ℕ → Type 0) (Of : List ℕ → Type 0)
      (each : (words : List ℕ) (s : ℕ) (bytes : List ℕ) → At s → Of bytes → AreWrites of (segment_act words s bytes).steps)
      (behind : (n : ℕ) (bytes : List ℕ) → Of bytes → Of (drop n bytes)) where
    volume_writes : (words segments bytes : List ℕ) → All At segments → Of bytes →
        AreWrites of (steps_of (volume_acts words segments bytes))
    volume_writes words [] bytes are is = tt
    volume_writes words (s ∷ ss) bytes are is =
        let cap : ℕ = capacity (mask_at words s) in
        let rest : List Act = cond (nat_le (length bytes) cap) [] (volume_acts words ss (drop cap bytes)) in
        writes_both (segment_act words s bytes).steps (steps_of rest) (each words s bytes (All-head At s ss are) is)
        (writes_by (nat_le (length bytes) cap) [] (volume_acts words ss (drop cap bytes)) tt
        (volume_writes words ss (drop cap bytes) (All-tail At s ss are) (behind cap bytes is)))

    filled_writes : (words segments bytes : List ℕ) → All At segments → Of bytes →
        AreWrites of (steps_of (filled_acts words segments bytes))
    filled_writes words [] bytes are is = tt
    filled_writes words (s ∷ ss) bytes are is =
        let cap : ℕ = capacity (mask_at words s) in
        writes_by (nat_le cap (length bytes)) (segment_act words s bytes ∷ filled_acts words ss (drop cap bytes)) []
        (writes_both (segment_act words s bytes).steps (steps_of (filled_acts words ss (drop cap bytes)))
        (each words s bytes (All-head At s ss are) is)
        (filled_writes words ss (drop cap bytes) (All-tail At s ss are) (behind cap bytes is))) tt

    input_writes : (words segments : List ℕ) (most : ℕ) (exact : Bool) (input : List ℕ) → All At segments → Of input →
        Of (take most input) →
        AreWrites of (steps_of (input_acts words segments most exact input))
    input_writes words segments most exact input are is front =
        writes_by (exact && nat_lt (length input) most) (filled_acts words segments input) (volume_acts words segments (take most input))
        (filled_writes words segments input are is) (volume_writes words segments (take most input) are front)

-- ---- behind a segment

-- nothing is asked of the bytes
abbrev Any : List ℕ → Type 0
Any bytes = Unit {0}

act_free : (before : ℕ) (words : List ℕ) (s : ℕ) (bytes : List ℕ) → before < s → Any bytes →
    AreWrites (IsFree before) (segment_act words s bytes).steps
act_free before words s bytes past any =
    let n : ℕ = data_count (mask_at words s) in
    let area : List (List ℕ) = in_sectors n bytes in
    let steps : List (List ℕ) → List Step = λ sectors. part_writes words (record { segment = s; sectors = sectors }) in
    let of_area : AreWrites (IsFree before) (steps (take n area) ++ []) =
    parts_of_segments (λ t. before < t) words (s ∷ []) area (All-cons (λ (t : ℕ). before < t) s [] past (All-nil (λ (t : ℕ). before < t)))
    in
    let whole : take n area ≡ area = take_all n area (let size = length-in_sectors n bytes in omega arith) in
    subst (AreWrites (IsFree before)) (append-nil (steps (take n area)) ∙ ap steps whole) of_area

pub volume_is_free : VolumeIsFree
volume_is_free before words segments bytes past =
    volume_writes (IsFree before) (λ s. before < s) Any (act_free before) (λ n xs any. tt) words segments bytes past tt

pub filled_is_free : FilledIsFree
filled_is_free before words segments bytes past =
    filled_writes (IsFree before) (λ s. before < s) Any (act_free before) (λ n xs any. tt) words segments bytes past tt

pub input_is_free : InputIsFree
input_is_free before words segments most exact input past =
    input_writes (IsFree before) (λ s. before < s) Any (act_free before) (λ n xs any. tt) words segments most exact input past tt tt

-- ---- whole sectors

-- any segment will do
abbrev Anywhere : ℕ → Type 0
Anywhere s = Unit {0}

anywhere : (segments : List ℕ) → All Anywhere segments
anywhere [] = All-nil Anywhere
anywhere (s ∷ ss) = All-cons Anywhere s ss tt (anywhere ss)

act_whole : (words : List ℕ) (s : ℕ) (bytes : List ℕ) → Anywhere s → AreBytes bytes → AreWrites IsOfSector (segment_act words s bytes).steps
act_whole words s bytes any are =
    let sectors : List (List ℕ) = in_sectors (data_count (mask_at words s)) bytes in
    let data_part : All IsSector sectors = are_sectors (data_count (mask_at words s)) bytes are in (
      sectors_whole s (usable_places (mask_at words s)) (with_parity sectors)
          (All-append IsSector sectors (parity_sectors sectors) data_part
          (parity_sectors-are_sectors sectors data_part)),
      tt,
    )

bytes_behind : (n : ℕ) (bytes : List ℕ) → AreBytes bytes → AreBytes (drop n bytes)
bytes_behind n bytes are = All-drop (λ (b : ℕ). b < 256) n bytes are

pub volume_is_of_sectors : VolumeIsOfSectors
volume_is_of_sectors words segments bytes are =
    volume_writes IsOfSector Anywhere AreBytes act_whole bytes_behind words segments bytes (anywhere segments) are

pub filled_is_of_sectors : FilledIsOfSectors
filled_is_of_sectors words segments bytes are =
    filled_writes IsOfSector Anywhere AreBytes act_whole bytes_behind words segments bytes (anywhere segments) are

pub input_is_of_sectors : InputIsOfSectors
input_is_of_sectors words segments most exact input are =
    input_writes IsOfSector Anywhere AreBytes act_whole bytes_behind words segments most exact input (anywhere segments) are
    (All-take (λ (b : ℕ). b < 256) most input are)
