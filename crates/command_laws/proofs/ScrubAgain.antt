-- A second scrub writes nothing.
use Rattle.std.proofs.Common.{inl, inr, List, [], ◌∷◌, Contains, subst, arith, ◌≡◌, ℕ, false, refl, Bool, true, cond, suc, ◌<◌, length}
use Rattle.std.proofs.Common.{get_or, All, ap, ◌∙◌, sym, ◌++◌}
use Rattle.std.proofs.lemmas.List.Elements.{All-get_or, All-contains}
use Rattle.std.proofs.lemmas.Option.{get_or_from_slice_get}
use Rattle.std.proofs.lemmas.Bool.{cases_Bool, false≢true}
use Rattle.cartridge_laws.proofs.FormatStanding.{same_cells}
use Rattle.cartridge_laws.proofs.Places.{usable_small}
use Rattle.cartridge_laws.proofs.Sayings.{says_is_function}
use Rattle.cartridge_laws.proofs.Segments.{count_of_cells}
use Rattle.cartridge_spec.specs.Says.{Saying, Says, Data, with_parity, LostSectors, Mismatch}
use Rattle.cartridge_spec.specs.Settling.{changed_by}
use Rattle.cartridge_spec.specs.Shape.{is_unreadable, IsLive, usable_places, usable_count, sector_at}
use Rattle.command_laws.proofs.ScrubApart.{contains_cases, contains_first, contains_more, looked_rise}
use Rattle.command_laws.proofs.ScrubAtOnce.{scrubs_at_once}
use Rattle.command_laws.proofs.ScrubDone.{done_scrub, done_being_mended}
use Rattle.command_laws.proofs.ScrubMending.{scrub_is_at_once}
use Rattle.command_laws.proofs.ScrubStanding.{unread_kept}
use Rattle.cartridge_laws.proofs.Writing.{cell_at}
use Rattle.command_laws.specs.ScrubLaws.{AreAllLive, SecondScrubWritesNothing}
use Rattle.command_laws.specs.ScrubMended.{IsBeingMended, IsScrubbed}
use Rattle.command_laws.specs.ScrubSayings.{SayAtOnce, Rise, acts_at_once}
use Rattle.command_spec.specs.Scrub.{Looked, cells_at, mending_writes, reads, steps_in, looked_at}
use Rattle.qic_base.specs.Acts.{steps_of}
use Rattle.qic_base.specs.Cartridge.{Cartridge, view_at}
use Rattle.qic_base.specs.Step.{written_view, Step, write_sector}
use Rattle.qic_base.specs.declared.tape.SectorView.{SectorView}
use Rattle.qic_base.specs.declared.tape.SectorView.TheVariants.{Blank, Defect, Lost, Holds}

-- ---- what each segment said

pub record IsSaid (c : Cartridge) (l : Looked) : Type 0 where
  pub saying : Saying
  pub says : Says (cells_at c l) saying

said_of : (c : Cartridge) (ls : List Looked) (ss : List Saying) (l : Looked) → SayAtOnce c ls ss → Contains ls l → IsSaid c l
said_of c [] ss l say among = let h = among.1 in absurd (omega arith)
said_of c (m ∷ ms) [] l say among = absurd say
said_of c (m ∷ ms) (s ∷ ss) l say among =
    elim (contains_cases m l ms among) [
      | inl is ↦ subst (IsSaid c) is (record { saying = s; says = say.0 })
      | inr later ↦ said_of c ms ss l say.1 later
    ]

-- ---- no place is unreadable

live_readable : (view : SectorView) (bytes : List ℕ) → IsLive view → is_unreadable (written_view bytes view) ≡ false
live_readable Blank bytes live = absurd live
live_readable Defect bytes live = absurd live
live_readable Lost bytes live = refl
live_readable (Holds old) bytes live = refl

no_write : (b : Bool) (segment place : ℕ) (bytes : List ℕ) (rest : List Step) → b ≡ false → rest ≡ [] →
    cond b (write_sector segment place bytes ∷ rest) rest ≡ []
no_write true segment place bytes rest readable none = absurd (cc)
no_write false segment place bytes rest readable none = none

pub mending_none : (d : Cartridge) (segment : ℕ) (places : List ℕ) (sectors : List (List ℕ)) →
    ((k : ℕ) → k < length places → is_unreadable (view_at d segment (get_or places k 0)) ≡ false) →
    mending_writes d segment places sectors ≡ []
mending_none d segment [] sectors readable = refl
mending_none d segment (place ∷ places) [] readable = refl
mending_none d segment (place ∷ places) (bytes ∷ sectors) readable =
    no_write (is_unreadable (view_at d segment place)) segment place bytes (mending_writes d segment places sectors)
    (readable 0 (omega arith))
    (mending_none d segment places sectors (λ k h. readable (suc k) (omega arith)))

pub record AfterFirst (looked : List Looked) (c d : Cartridge) : Type 0 where
  pub rise : Rise looked
  pub way : IsBeingMended looked c d
  pub scrubbed : IsScrubbed looked c d
  pub live : (l : Looked) (k : ℕ) → Contains looked l → k < usable_count l.mask →
      IsLive (view_at c l.segment (get_or (usable_places l.mask) k 0))

pub live_at : (c : Cartridge) (looked : List Looked) (l : Looked) (k : ℕ) → AreAllLive c looked → Contains looked l →
    k < usable_count l.mask →
    IsLive (view_at c l.segment (get_or (usable_places l.mask) k 0))
live_at c looked l k live among h =
    let cells = cells_at c l in
    let lives : All IsLive cells = All-contains (λ (m : Looked). All IsLive (cells_at c m)) looked l live among in
    subst IsLive (get_or_from_slice_get cells k (view_at c l.segment (get_or (usable_places l.mask) k 0)) Blank
    (cell_at c l.segment l.mask k h))
    (All-get_or IsLive cells k Blank (omega (arith, count_of_cells c l.segment l.mask)) lives)

readable_after : (looked : List Looked) (c d : Cartridge) (l : Looked) (ds : List (List ℕ)) (k : ℕ) → AfterFirst looked c d →
    Contains looked l →
    Says (cells_at c l) (Data ds) → reads l (Data ds) ≡ true → k < usable_count l.mask →
    is_unreadable (view_at d l.segment (get_or (usable_places l.mask) k 0)) ≡ false
readable_after looked c d l ds k after among says can h =
    let place : ℕ = get_or (usable_places l.mask) k 0 in
    let small : place < 32 = usable_small l.mask k h in
    let bytes : List ℕ = sector_at (with_parity ds) k in
    elim (cases_Bool (is_unreadable (view_at c l.segment place))) [
      | inl unread ↦
          ap (λ (v : SectorView). is_unreadable v) (after.scrubbed.mended l.segment place bytes small (record {
            at = l;
            among = among;
            here = refl;
            sectors = ds;
            says = says;
            can_be_read = can;
            place = k;
            within = h;
            index = refl;
            unreadable = unread;
            block = refl;
          }))
          ∙ live_readable (view_at c l.segment place) bytes (after.live l k among h)
      | inr readable ↦ elim (after.way.each l.segment place small) [
        | inl same ↦ ap (λ (v : SectorView). is_unreadable v) same ∙ readable
        | inr has ↦ ap (λ (v : SectorView). is_unreadable v) has.3
      ]
    ]

-- ---- the second scrub of a segment

by_reading : (b : Bool) (steps : List Step) → (b ≡ true → steps ≡ []) → cond b steps [] ≡ []
by_reading true steps none = none refl
by_reading false steps none = refl

read_before : (looked : List Looked) (c d : Cartridge) (l : Looked) (before : Saying) (now : List (List ℕ)) → AfterFirst looked c d →
    Contains looked l →
    Says (cells_at c l) before → Says (cells_at d l) (Data now) → reads l (Data now) ≡ true → reads l before ≡ true
read_before looked c d l before now after among said says can =
    elim (cases_Bool (reads l before)) [
      | inl is ↦ is
      | inr fails ↦
          let none : (ds : List (List ℕ)) → Says (cells_at c l) (Data ds) → reads l (Data ds) ≡ true → ⊥ =
          λ ds is can_be. false≢true (sym fails ∙ ap (reads l) (says_is_function (cells_at c l) before (Data ds) said is) ∙ can_be) in
          let same = same_cells c d l.segment l.mask (unread_kept looked c d l after.rise among after.way none) in
          absurd (none now (subst (λ (cells : List SectorView). Says cells (Data now)) same says) can)
    ]

readable_now : (looked : List Looked) (c d : Cartridge) (l : Looked) (before : Saying) (k : ℕ) → AfterFirst looked c d → Contains looked l →
    Says (cells_at c l) before → reads l before ≡ true → k < usable_count l.mask →
    is_unreadable (view_at d l.segment (get_or (usable_places l.mask) k 0)) ≡ false
readable_now looked c d l (Data ds) k after among says can h = readable_after looked c d l ds k after among says can h
readable_now looked c d l (LostSectors n) k after among says can h = absurd (false≢true can)
readable_now looked c d l Mismatch k after among says can h = absurd (false≢true can)

pub segment_again : (looked : List Looked) (c d : Cartridge) (l : Looked) (s : Saying) → AfterFirst looked c d → Contains looked l →
    IsSaid c l → Says (cells_at d l) s →
    steps_in d l s ≡ []
segment_again looked c d l (Data now) after among before says =
    by_reading (reads l (Data now)) (mending_writes d l.segment (usable_places l.mask) (with_parity now)) (λ can.
    mending_none d l.segment (usable_places l.mask) (with_parity now) (λ k h.
    readable_now looked c d l before.saying k after among before.says
    (read_before looked c d l before.saying now after among before.says says can) h))
segment_again looked c d l (LostSectors n) after among before says = refl
segment_again looked c d l Mismatch after among before says = refl

all_again : (looked : List Looked) (c d : Cartridge) (ls : List Looked) (ss : List Saying) → AfterFirst looked c d →
    ((l : Looked) → Contains looked l → IsSaid c l) →
    ((l : Looked) → Contains ls l → Contains looked l) → SayAtOnce d ls ss → steps_of (acts_at_once d ls ss) ≡ []
all_again looked c d [] ss after before among say = refl
all_again looked c d (l ∷ ls) [] after before among say = refl
all_again looked c d (l ∷ ls) (s ∷ ss) after before among say =
    let here : Contains looked l = among l (contains_first l ls) in
    ap (λ (steps : List Step). steps ++ steps_of (acts_at_once d ls ss)) (segment_again looked c d l s after here (before l here) say.0)
    ∙ all_again looked c d ls ss after before (λ m later. among m (contains_more l m ls later)) say.1

pub second_scrub_writes_nothing : SecondScrubWritesNothing
second_scrub_writes_nothing c words entries last acts again order live first second =
    let looked : List Looked = looked_at words entries in
    let d : Cartridge = changed_by (steps_of acts) c in
    let once = scrubs_at_once c words entries last acts order first in
    let twice = scrubs_at_once d words entries last again order second in
    scrub_is_at_once d words entries again second twice.1
    ∙ all_again looked c d looked second.sayings (record {
      rise = looked_rise words last entries order;
      way = done_being_mended c words entries last acts order first;
      scrubbed = done_scrub c words entries last acts order first;
      live = λ l k among h. live_at c looked l k live among h;
    }) (λ l among. said_of c looked first.sayings l once.0 among) (λ l among. among) twice.0
