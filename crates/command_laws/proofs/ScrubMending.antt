-- What a stop among the writes of a scrub leaves: each sector to be mended is as it was, lost, or holds its sector of the
-- block, and no other sector changes.
use Rattle.std.proofs.Common.{◌≡◌, ◌⊎◌, ℕ, inl, inr, List, refl, ◌<◌, sym, ◌∙◌, subst, ap, Option, Some, IsSomeAnd, [], ◌∷◌, Contains, ◌++◌}
use Rattle.std.proofs.lemmas.Bool.{cases_eq}
use Rattle.std.proofs.lemmas.Option.{unwrap_or-slice_get}
use Rattle.cartridge_laws.proofs.AppendWhole.{sector_writes_are_cartridge}
use Rattle.cartridge_laws.proofs.FormatViews.{view_of_sector, view_of_other_sector}
use Rattle.cartridge_laws.proofs.FormatWriting.{some_and, effects-some}
use Rattle.cartridge_laws.proofs.Places.{usable_small}
use Rattle.cartridge_laws.specs.AppendWrites.{IsWrite, AreWrites, EachIs, IsOfSector}
use Rattle.cartridge_laws.specs.Segment.{IsUnreadable}
use Rattle.cartridge_spec.specs.Says.{Saying, Says, with_parity}
use Rattle.cartridge_spec.specs.Settling.{changed_by}
use Rattle.cartridge_spec.specs.Shape.{usable_places}
use Rattle.cartridge_spec.specs.Table.{Entry}
use Rattle.command_laws.proofs.ScrubApart.{contains_first, contains_more}
use Rattle.command_laws.proofs.ScrubAtOnce.{mending_are, steps_are, scrub_steps, scrubs_at_once}
use Rattle.command_laws.proofs.ScrubTurns.{steps_whole}
use Rattle.command_laws.specs.ScrubLaws.{StoppedScrub, StoppedScrubIsCartridge, DoneScrubIsCartridge, ReadableStays}
use Rattle.command_laws.specs.ScrubMended.{IsMended, HasBeenMended, IsBeingMended}
use Rattle.command_laws.specs.ScrubPlain.{looking_acts, Scrubs, SayInTurn}
use Rattle.command_laws.specs.ScrubSayings.{SayAtOnce, acts_at_once}
use Rattle.command_spec.specs.Scrub.{Looked, cells_at, steps_in, looked_at}
use Rattle.qic_base.proofs.SectorsWritten.{StayWritten, sectors_keep, half_keeps}
use Rattle.qic_base.proofs.Steps.{Torn-all}
use Rattle.qic_base.specs.Acts.{steps_of, Act}
use Rattle.qic_base.specs.Cartridge.{Cartridge, view_at, with_view}
use Rattle.qic_base.specs.CartridgeTerms.{IsCartridge}
use Rattle.qic_base.specs.Step.{written_view, worn_view, write_sector, NewSector, WriteSectors}
use Rattle.qic_base.specs.Step.{changed, Wear, Step, FormatSegment, SetReferenced, SetProtected}
use Rattle.qic_base.specs.Step.{Renew, Spoil, Upgrade, effects, Halfway, Torn}
use Rattle.qic_base.specs.declared.tape.SectorView.{SectorView}
use Rattle.qic_base.specs.declared.tape.SectorView.TheVariants.{Blank, Defect, Lost, Holds}
use Rattle.cartridge_laws.proofs.MountSoFar.{worn_same}

-- ---- one view

written_once : (old : SectorView) (bytes : List ℕ) → IsUnreadable old →
    (written_view bytes old ≡ old) ⊎ ((old ≡ Lost) × (written_view bytes old ≡ Holds bytes))
written_once Blank bytes unread = inl refl
written_once Defect bytes unread = inl refl
written_once Lost bytes unread = inr (refl, refl)
written_once (Holds held) bytes unread = absurd (cc)

-- ---- on the way

-- one of them with another view
mended_more : (looked : List Looked) (c d : Cartridge) (s i : ℕ) (bytes : List ℕ) (f : SectorView → SectorView) → i < 32 → f Blank ≡ Blank →
    IsMended c looked s i bytes →
    (f (view_at d s i) ≡ view_at c s i) ⊎ ((view_at c s i ≡ Lost) × (f (view_at d s i) ≡ Holds bytes)) →
    IsBeingMended looked c d → IsBeingMended looked c (with_view d s i (f (view_at d s i)))
mended_more looked c d s i bytes f small blank mended became way =
    let view : SectorView = f (view_at d s i) in
    let e : Cartridge = with_view d s i view in
    let at : view_at e s i ≡ view = view_of_sector d s i f blank in
    record {
      info = way.info;
      each = λ t j h. elim (cases_eq t s) [
        | inl segment ↦ elim (cases_eq j i) [
          | inl sector ↦
              subst (λ (u : ℕ). (view_at e u j ≡ view_at c u j) ⊎ HasBeenMended c looked e u j) (sym segment)
              (subst (λ (k : ℕ). (view_at e s k ≡ view_at c s k) ⊎ HasBeenMended c looked e s k) (sym sector)
              (elim became [
                | inl same ↦ inl (at ∙ same)
                | inr both ↦ inr (bytes, mended, both.0, at ∙ both.1)
              ]))
          | inr apart ↦ other t j h (λ same e. apart (sym e))
        ]
        | inr apart ↦ other t j h (λ same e. apart same)
      ];
    }
  where
    other : (t j : ℕ) → j < 32 → (t ≡ s → i ≡ j → ⊥) →
        (view_at (with_view d s i (f (view_at d s i))) t j ≡ view_at c t j)
        ⊎ HasBeenMended c looked (with_view d s i (f (view_at d s i))) t j
    other t j h apart =
        let same = view_of_other_sector d s i t j (f (view_at d s i)) small h apart in
        elim (way.each t j h) [
          | inl is ↦ inl (same ∙ is)
          | inr has ↦ inr (has.0, has.1, has.2, same ∙ has.3)
        ]

-- a write of a sector that is to be mended
abbrev pub IsNamed : Cartridge → List Looked → ℕ → ℕ → List ℕ → Type 0
IsNamed c looked segment sector bytes = IsMended c looked segment sector bytes × (sector < 32)

written_more : (looked : List Looked) (c d : Cartridge) (s i : ℕ) (bytes : List ℕ) → IsNamed c looked s i bytes → IsBeingMended looked c d →
    IsBeingMended looked c (changed (write_sector s i bytes) d)
written_more looked c d s i bytes named way =
    mended_more looked c d s i bytes (written_view bytes) named.1 refl named.0 (elim (way.each s i named.1) [
      | inl same ↦ elim (written_once (view_at c s i) bytes named.0.unreadable) [
        | inl is ↦ inl (ap (written_view bytes) same ∙ is)
        | inr both ↦ inr (both.0, ap (written_view bytes) same ∙ both.1)
      ]
      | inr has ↦ inr (has.2, ap (written_view bytes) has.3)
    ]) way

worn_more : (looked : List Looked) (c d : Cartridge) (s i : ℕ) (bytes : List ℕ) → IsNamed c looked s i bytes → IsBeingMended looked c d →
    IsBeingMended looked c (changed (Wear s i) d)
worn_more looked c d s i bytes named way =
    mended_more looked c d s i bytes worn_view named.1 refl named.0 (elim (way.each s i named.1) [
      | inl same ↦ inl (ap worn_view same ∙ worn_same (view_at c s i) named.0.unreadable)
      | inr has ↦ inl (ap worn_view has.3 ∙ sym has.2)
    ]) way

-- ---- steps

named_stay : (looked : List Looked) (c : Cartridge) (segment : ℕ) (new : List NewSector) → EachIs (IsNamed c looked) segment new →
    StayWritten (IsBeingMended looked c) segment new
named_stay looked c segment [] are = tt
named_stay looked c segment (first ∷ more) are = (
  record {
    worn = λ d way. worn_more looked c d segment first.sector first.bytes are.0 way;
    written = λ d way. written_more looked c d segment first.sector first.bytes are.0 way;
  },
  named_stay looked c segment more are.1,
)

step_more : (looked : List Looked) (c d : Cartridge) (s : Step) → IsWrite (IsNamed c looked) s → IsBeingMended looked c d →
    IsBeingMended looked c (changed s d)
step_more looked c d (WriteSectors segment new) is way =
    sectors_keep (IsBeingMended looked c) segment new d (named_stay looked c segment new is) way
step_more looked c d (FormatSegment segment) is way = absurd is
step_more looked c d SetReferenced is way = absurd is
step_more looked c d (SetProtected on) is way = absurd is
step_more looked c d (Renew n) is way = absurd is
step_more looked c d (Wear segment sector) is way = absurd is
step_more looked c d (Spoil segment sector) is way = absurd is
step_more looked c d Upgrade is way = absurd is

step_stopped : (looked : List Looked) (c d : Cartridge) (s : Step) (left : Option Cartridge) → IsWrite (IsNamed c looked) s →
    IsBeingMended looked c d →
    Halfway s (Some d) left → IsSomeAnd left (IsBeingMended looked c)
step_stopped looked c d (WriteSectors segment new) left is way half =
    half_keeps (IsBeingMended looked c) segment new d left (named_stay looked c segment new is) way half
step_stopped looked c d (FormatSegment segment) left is way half = absurd is
step_stopped looked c d SetReferenced left is way half = absurd is
step_stopped looked c d (SetProtected on) left is way half = absurd is
step_stopped looked c d (Renew n) left is way half = absurd is
step_stopped looked c d (Wear segment sector) left is way half = absurd is
step_stopped looked c d (Spoil segment sector) left is way half = absurd is
step_stopped looked c d Upgrade left is way half = absurd is

steps_stopped : (looked : List Looked) (c d : Cartridge) (ss : List Step) (left : Option Cartridge) → AreWrites (IsNamed c looked) ss →
    IsBeingMended looked c d →
    Torn ss (Some d) left → IsSomeAnd left (IsBeingMended looked c)
steps_stopped looked c d [] left are way is = some_and (IsBeingMended looked c) d left way is
steps_stopped looked c d (s ∷ ss) left are way (inl is) = some_and (IsBeingMended looked c) d left way is
steps_stopped looked c d (s ∷ ss) left are way (inr (inl half)) = step_stopped looked c d s left are.0 way half
steps_stopped looked c d (s ∷ ss) left are way (inr (inr torn)) = steps_stopped looked c (changed s d) ss left are.1
    (step_more looked c d s are.0 way) torn

-- ---- those of a scrub

writes_named : (looked : List Looked) (c : Cartridge) (l : Looked) (s : Saying) → Contains looked l → Says (cells_at c l) s →
    AreWrites (IsNamed c looked) (steps_in c l s)
writes_named looked c l s among says =
    steps_are (IsNamed c looked) c l s (λ sectors same can.
    mending_are (IsNamed c looked) c l.segment (usable_places l.mask) (with_parity sectors) (λ k h unread. (
      record {
        at = l;
        among = among;
        here = refl;
        sectors = sectors;
        says = subst (λ (x : Saying). Says (cells_at c l) x) same says;
        can_be_read = can;
        place = k;
        within = h;
        index = refl;
        unreadable = unread;
        block = unwrap_or-slice_get (with_parity sectors) k [];
      },
      usable_small l.mask k h,
    )))

pub writes_more : (of : ℕ → ℕ → List ℕ → Type 0) (xs ys : List Step) → AreWrites of xs → AreWrites of ys → AreWrites of (xs ++ ys)
writes_more of [] ys front rear = rear
writes_more of (x ∷ xs) ys front rear = (front.0, writes_more of xs ys front.1 rear)

all_named : (looked : List Looked) (c : Cartridge) (ls : List Looked) (ss : List Saying) →
    ((l : Looked) → Contains ls l → Contains looked l) → SayAtOnce c ls ss →
    AreWrites (IsNamed c looked) (steps_of (acts_at_once c ls ss))
all_named looked c [] ss within say = tt
all_named looked c (l ∷ ls) [] within say = tt
all_named looked c (l ∷ ls) (s ∷ ss) within say =
    writes_more (IsNamed c looked) (steps_in c l s) (steps_of (acts_at_once c ls ss))
    (writes_named looked c l s (within l (contains_first l ls)) say.0)
    (all_named looked c ls ss (λ m among. within m (contains_more l m ls among)) say.1)

-- the steps of a scrub are those that follow from the cartridge before them
pub scrub_is_at_once : (c : Cartridge) (words : List ℕ) (entries : List Entry) (acts : List Act) (scrubs : Scrubs c words entries acts) →
    looking_acts c (looked_at words entries) scrubs.sayings ≡ acts_at_once c (looked_at words entries) scrubs.sayings →
    steps_of acts ≡ steps_of (acts_at_once c (looked_at words entries) scrubs.sayings)
scrub_is_at_once c words entries acts scrubs once =
    ap (λ (all : List Act). steps_of all) scrubs.are
    ∙ scrub_steps c (looked_at words entries) scrubs.sayings
    ∙ ap (λ (all : List Act). steps_of all) once

not_begun : (looked : List Looked) (c : Cartridge) → IsBeingMended looked c c
not_begun looked c = record { info = refl; each = λ s i h. inl refl }

pub stopped_at_once : (looked : List Looked) (c : Cartridge) (ss : List Saying) (left : Option Cartridge) → SayAtOnce c looked ss →
    Torn (steps_of (acts_at_once c looked ss)) (Some c) left → IsSomeAnd left (IsBeingMended looked c)
stopped_at_once looked c ss left say torn =
    steps_stopped looked c c (steps_of (acts_at_once c looked ss)) left (all_named looked c looked ss (λ l among. among) say)
    (not_begun looked c) torn

pub stopped_scrub : StoppedScrub
stopped_scrub c words entries last acts left order scrubs torn =
    let once = scrubs_at_once c words entries last acts order scrubs in
    stopped_at_once (looked_at words entries) c scrubs.sayings left once.0
    (subst (λ (ss : List Step). Torn ss (Some c) left) (scrub_is_at_once c words entries acts scrubs once.1) torn)

-- ---- what is left is a cartridge

looking_whole : (ls : List Looked) (ss : List Saying) (c : Cartridge) → SayInTurn c ls ss →
    AreWrites IsOfSector (steps_of (looking_acts c ls ss))
looking_whole [] ss c say = tt
looking_whole (l ∷ ls) [] c say = tt
looking_whole (l ∷ ls) (s ∷ ss) c say =
    writes_more IsOfSector (steps_in c l s) (steps_of (looking_acts (changed_by (steps_in c l s) c) ls ss)) (steps_whole c l s say.0)
    (looking_whole ls ss (changed_by (steps_in c l s) c) say.1)

pub stopped_scrub_is_cartridge : StoppedScrubIsCartridge
stopped_scrub_is_cartridge c words entries acts left whole scrubs torn =
    let looked : List Looked = looked_at words entries in
    sector_writes_are_cartridge c (steps_of (looking_acts c looked scrubs.sayings)) left whole
    (looking_whole looked scrubs.sayings c scrubs.said)
    (subst (λ (ss : List Step). Torn ss (Some c) left)
    (ap (λ (all : List Act). steps_of all) scrubs.are ∙ scrub_steps c looked scrubs.sayings) torn)

pub done_scrub_is_cartridge : DoneScrubIsCartridge
done_scrub_is_cartridge c words entries acts whole scrubs =
    subst (λ (o : Option Cartridge). IsSomeAnd o IsCartridge) (effects-some (steps_of acts) c)
    (stopped_scrub_is_cartridge c words entries acts (effects (steps_of acts) (Some c)) whole scrubs (Torn-all (steps_of acts) (Some c)))

-- ---- readable sectors

pub readable_stays : ReadableStays
readable_stays looked c d segment sector bytes h way holds =
    elim (way.each segment sector h) [
      | inl same ↦ same ∙ holds
      | inr has ↦ let both : Lost ≡ Holds bytes = sym has.2 ∙ holds in absurd (cc)
    ]
