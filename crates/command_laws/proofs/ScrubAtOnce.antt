-- Writes to a segment that is looked at don't touch those that are looked at later.
use Rattle.std.proofs.Common.{◌≡◌, ℕ, Bool, true, false, cond, List, ◌∷◌, refl, suc, ◌<◌, [], length, get_or, arith, All, ap, ◌∙◌, subst}
use Rattle.std.proofs.lemmas.List.Elements.{All-nil, All-cons, All-head, All-tail}
use Rattle.std.proofs.lemmas.List.{append-nil}
use Rattle.cartridge_laws.proofs.AppendKeeping.{AreIn, IsKeptBut, steps_kept, in_append}
use Rattle.cartridge_laws.proofs.FormatStanding.{same_cells}
use Rattle.cartridge_laws.proofs.Places.{usable_small, AreSmall}
use Rattle.cartridge_laws.specs.AppendWrites.{AreWrites}
use Rattle.cartridge_spec.specs.Says.{Saying, Data, LostSectors, Mismatch, with_parity, Says}
use Rattle.cartridge_spec.specs.Settling.{changed_by}
use Rattle.cartridge_spec.specs.Shape.{is_unreadable, usable_places}
use Rattle.command_laws.proofs.ScrubApart.{looked_rise}
use Rattle.command_laws.specs.ScrubLaws.{ScrubsAtOnce}
use Rattle.command_laws.specs.ScrubPlain.{looking_acts, SayInTurn}
use Rattle.command_laws.specs.ScrubSayings.{SayAtOnce, acts_at_once, Rise}
use Rattle.command_laws.specs.SilentSectors.{IsSameIn}
use Rattle.command_spec.specs.Scrub.{mending_writes, Looked, reads, steps_in, line_in, looked_at}
use Rattle.command_laws.specs.ScrubTerms.{last_act, counts_of, look_act, scrub_acts}
use Rattle.qic_base.proofs.Joins.{steps_of-append}
use Rattle.qic_base.specs.Acts.{Act, steps_of}
use Rattle.qic_base.specs.Cartridge.{Cartridge, view_at}
use Rattle.qic_base.specs.Step.{Step, write_sector}
use Rattle.qic_base.specs.declared.tape.SectorView.{SectorView}

-- ---- the writes of a segment

first_or : (of : ℕ → ℕ → List ℕ → Type 0) (b : Bool) (segment place : ℕ) (bytes : List ℕ) (rest : List Step) →
    (b ≡ true → of segment place bytes) →
    AreWrites of rest → AreWrites of (cond b (write_sector segment place bytes ∷ rest) rest)
first_or of true segment place bytes rest first are = ((first refl, tt), are)
first_or of false segment place bytes rest first are = are

-- each is one of which this is true, where it is true of the unreadable places
pub mending_are : (of : ℕ → ℕ → List ℕ → Type 0) (c : Cartridge) (segment : ℕ) (places : List ℕ) (sectors : List (List ℕ)) →
    ((k : ℕ) → k < length places → is_unreadable (view_at c segment (get_or places k 0)) ≡ true →
    of segment (get_or places k 0) (get_or sectors k [])) →
    AreWrites of (mending_writes c segment places sectors)
mending_are of c segment [] sectors each = tt
mending_are of c segment (place ∷ places) [] each = tt
mending_are of c segment (place ∷ places) (bytes ∷ sectors) each =
    first_or of (is_unreadable (view_at c segment place)) segment place bytes (mending_writes c segment places sectors)
    (λ is. each 0 (omega arith) is)
    (mending_are of c segment places sectors (λ k h is. each (suc k) (omega arith) is))

either_are : (of : ℕ → ℕ → List ℕ → Type 0) (b : Bool) (steps : List Step) → (b ≡ true → AreWrites of steps) →
    AreWrites of (cond b steps [])
either_are of true steps are = are refl
either_are of false steps are = tt

pub steps_are : (of : ℕ → ℕ → List ℕ → Type 0) (c : Cartridge) (l : Looked) (s : Saying) →
    ((sectors : List (List ℕ)) → s ≡ Data sectors → reads l (Data sectors) ≡ true →
    AreWrites of (mending_writes c l.segment (usable_places l.mask) (with_parity sectors))) → AreWrites of (steps_in c l s)
steps_are of c l (Data sectors) each =
    either_are of (reads l (Data sectors)) (mending_writes c l.segment (usable_places l.mask) (with_parity sectors))
    (λ is. each sectors refl is)
steps_are of c l (LostSectors n) each = tt
steps_are of c l Mismatch each = tt

-- they are in the segment
pub steps_stay : (P : ℕ → Type 0) (c : Cartridge) (l : Looked) (s : Saying) → P l.segment → AreIn (λ t i. P t) (steps_in c l s)
steps_stay P c l s is =
    steps_are (λ t i bytes. P t × (i < 32)) c l s (λ sectors same can.
    mending_are (λ t i bytes. P t × (i < 32)) c l.segment (usable_places l.mask) (with_parity sectors)
    (λ k h unread. (is, usable_small l.mask k h)))

-- ---- a cartridge with the same views in these segments

abbrev pub AreAlike : (c d : Cartridge) → List Looked → Type 0
AreAlike c d ls = All (λ l. IsSameIn c d l.segment) ls

mending_alike : (c d : Cartridge) (segment : ℕ) (places : List ℕ) (sectors : List (List ℕ)) → AreSmall places →
    ((i : ℕ) → i < 32 → view_at d segment i ≡ view_at c segment i) →
    mending_writes d segment places sectors ≡ mending_writes c segment places sectors
mending_alike c d segment [] sectors small same = refl
mending_alike c d segment (place ∷ places) [] small same = refl
mending_alike c d segment (place ∷ places) (bytes ∷ sectors) small same =
    let rest = mending_alike c d segment places sectors (λ k h. small (suc k) (omega arith)) same in
    ap (λ (v : SectorView). cond (is_unreadable v) (write_sector segment place bytes ∷ mending_writes d segment places sectors)
    (mending_writes d segment places sectors))
    (same place (small 0 (omega arith)))
    ∙ ap (λ (ss : List Step). cond (is_unreadable (view_at c segment place)) (write_sector segment place bytes ∷ ss) ss) rest

pub steps_alike : (c d : Cartridge) (l : Looked) (s : Saying) → ((i : ℕ) → i < 32 → view_at d l.segment i ≡ view_at c l.segment i) →
    steps_in d l s ≡ steps_in c l s
steps_alike c d l (Data sectors) same =
    ap (λ (ss : List Step). cond (reads l (Data sectors)) ss [])
    (mending_alike c d l.segment (usable_places l.mask) (with_parity sectors) (usable_small l.mask) same)
steps_alike c d l (LostSectors n) same = refl
steps_alike c d l Mismatch same = refl

-- ---- all of them

-- what is written to a segment leaves those as they are that are looked at later
pub later_alike : (c d e : Cartridge) (segment : ℕ) (ls : List Looked) → IsKeptBut (λ s i. s ≡ segment) d e →
    All (λ m. segment < m.segment) ls → AreAlike c d ls → AreAlike c e ls
later_alike c d e segment [] kept past alike = All-nil (λ (m : Looked). IsSameIn c e m.segment)
later_alike c d e segment (m ∷ ms) kept past alike =
    let behind : segment < m.segment = All-head (λ (n : Looked). segment < n.segment) m ms past in
    All-cons (λ (n : Looked). IsSameIn c e n.segment) m ms
    (λ i h. kept.others m.segment i h (λ (same : m.segment ≡ segment). omega arith)
    ∙ All-head (λ (n : Looked). IsSameIn c d n.segment) m ms alike i h)
    (later_alike c d e segment ms kept (All-tail (λ (n : Looked). segment < n.segment) m ms past)
    (All-tail (λ (n : Looked). IsSameIn c d n.segment) m ms alike))

pub record AtOnce (c d : Cartridge) (ls : List Looked) (ss : List Saying) : Type 0 where
  pub say : SayAtOnce c ls ss
  pub acts : looking_acts d ls ss ≡ acts_at_once c ls ss

turn_at_once : (ls : List Looked) (ss : List Saying) (c d : Cartridge) → Rise ls → AreAlike c d ls → SayInTurn d ls ss → AtOnce c d ls ss
turn_at_once [] [] c d rise alike say = record { say = tt; acts = refl }
turn_at_once [] (s ∷ ss) c d rise alike say = absurd say
turn_at_once (l ∷ ls) [] c d rise alike say = absurd say
turn_at_once (l ∷ ls) (s ∷ ss) c d rise alike say =
    let here : IsSameIn c d l.segment = All-head (λ (n : Looked). IsSameIn c d n.segment) l ls alike in
    let rest : AtOnce c (changed_by (steps_in d l s) d) ls ss =
    turn_at_once ls ss c (changed_by (steps_in d l s) d) rise.1
    (later_alike c d (changed_by (steps_in d l s) d) l.segment ls
    (steps_kept (λ t i. t ≡ l.segment) (steps_in d l s) d (steps_stay (λ t. t ≡ l.segment) d l s refl)) rise.0
    (All-tail (λ (n : Looked). IsSameIn c d n.segment) l ls alike))
    say.1 in
    record {
      say = (subst (λ (cells : List SectorView). Says cells s) (same_cells c d l.segment l.mask here) say.0, rest.say);
      acts = ap (λ (acts : List Act). look_act d l s ∷ acts) rest.acts
          ∙ ap (λ (steps : List Step). record { steps = steps; text = line_in l s } ∷ acts_at_once c ls ss) (steps_alike c d l s here);
    }

pub alike : (c : Cartridge) (ls : List Looked) → AreAlike c c ls
alike c [] = All-nil (λ (l : Looked). (i : ℕ) → i < 32 → view_at c l.segment i ≡ view_at c l.segment i)
alike c (l ∷ ls) = All-cons (λ (m : Looked). (i : ℕ) → i < 32 → view_at c m.segment i ≡ view_at c m.segment i) l ls (λ i h. refl)
    (alike c ls)

pub scrubs_at_once : ScrubsAtOnce
scrubs_at_once c words entries last acts order scrubs =
    let all = turn_at_once (looked_at words entries) scrubs.sayings c c (looked_rise words last entries order)
    (alike c (looked_at words entries)) scrubs.said in
    (all.say, all.acts)

-- the steps of a scrub
pub scrub_steps : (c : Cartridge) (looked : List Looked) (sayings : List Saying) →
    steps_of (scrub_acts c looked sayings) ≡ steps_of (looking_acts c looked sayings)
scrub_steps c looked sayings =
    steps_of-append (looking_acts c looked sayings) (last_act (counts_of c looked sayings) ∷ [])
    ∙ append-nil (steps_of (looking_acts c looked sayings))

-- they stay in the segments that are looked at
pub at_once_stay : (P : ℕ → Type 0) (c : Cartridge) (ls : List Looked) (ss : List Saying) → All (λ l. P l.segment) ls →
    AreIn (λ t i. P t) (steps_of (acts_at_once c ls ss))
at_once_stay P c [] ss are = tt
at_once_stay P c (l ∷ ls) [] are = tt
at_once_stay P c (l ∷ ls) (s ∷ ss) are =
    in_append (λ t i. P t) (steps_in c l s) (steps_of (acts_at_once c ls ss))
    (steps_stay P c l s (All-head (λ (m : Looked). P m.segment) l ls are))
    (at_once_stay P c ls ss (All-tail (λ (m : Looked). P m.segment) l ls are))

-- they are writes of sectors of segments
abbrev pub IsPlaced : ℕ → ℕ → Type 0
IsPlaced segment sector = Unit {0}

pub at_once_placed : (c : Cartridge) (ls : List Looked) (ss : List Saying) → AreIn IsPlaced (steps_of (acts_at_once c ls ss))
at_once_placed c ls ss = at_once_stay (λ t. Unit {0}) c ls ss (λ k d h. tt)
