-- What is found of a cartridge, by what it says with the wrong sectors lost.
use Rattle.std.proofs.Common.{◌≡◌, ◌⊎◌, ℕ, inl, inr, List, [], ◌∷◌, refl, ◌<◌, ◌≤◌, arith, sym, ◌∙◌, subst, ap, All, Contains, Option, Some}
use Rattle.std.proofs.Common.{None, ◌++◌}
use Rattle.std.proofs.lemmas.Bool.{cases_eq}
use Rattle.std.proofs.lemmas.List.Elements.{All-head, All-tail, All-nil, All-cons, All-weaker}
use Rattle.cartridge_laws.proofs.FormatStanding.{same_cells}
use Rattle.cartridge_laws.proofs.FormatViews.{view_of_sector, view_of_other_sector}
use Rattle.cartridge_laws.proofs.Places.{usable_small}
use Rattle.cartridge_spec.specs.Says.{Saying, Says, Data, Mismatch, unreadable_count}
use Rattle.cartridge_spec.specs.Settling.{changed_by}
use Rattle.cartridge_spec.specs.Volumes.{worn}
use Rattle.command_laws.proofs.ScrubApart.{contains_cases, contains_first, contains_more}
use Rattle.command_laws.proofs.ScrubAtOnce.{AreAlike, steps_alike, steps_stay, alike, later_alike}
use Rattle.cartridge_laws.proofs.AppendKeeping.{steps_kept}
use Rattle.command_laws.specs.ScrubFound.{FindAtOnce, finds_at_once, without_all}
use Rattle.command_laws.specs.ScrubSayings.{Rise, SayAtOnce, acts_at_once}
use Rattle.command_spec.specs.Scrub.{Looked, cells_at, Finding, IsSearched, IsWrong, HasFound, FindInTurn, finding_acts, steps_for}
use Rattle.command_spec.specs.Scrub.{line_for, sayings_of, without}
use Rattle.command_laws.specs.ScrubTerms.{Finds, find_act}
use Rattle.command_spec.specs.declared.depth.Depth.{Depth}
use Rattle.qic_base.specs.Acts.{Act, steps_of}
use Rattle.qic_base.specs.Cartridge.{Cartridge, view_at}
use Rattle.qic_base.specs.Step.{Step, worn_view}
use Rattle.qic_base.specs.declared.tape.SectorView.{SectorView}
use Rattle.qic_base.specs.declared.tape.SectorView.TheVariants.{Blank, Defect, Lost, Holds}
use Rattle.command_laws.specs.SilentSectors.{IsSameIn}

-- ---- a sector worn

pub worn_here : (c : Cartridge) (segment sector : ℕ) → view_at (worn segment sector c) segment sector ≡ worn_view (view_at c segment sector)
worn_here c segment sector = view_of_sector c segment sector worn_view refl

pub worn_elsewhere : (c : Cartridge) (segment sector s i : ℕ) → sector < 32 → i < 32 → (s ≡ segment → sector ≡ i → ⊥) →
    view_at (worn segment sector c) s i ≡ view_at c s i
worn_elsewhere c segment sector s i small h apart =
    view_of_other_sector c segment sector s i (worn_view (view_at c segment sector)) small h apart

pub same_back : (c d : Cartridge) (segment : ℕ) → IsSameIn c d segment → IsSameIn d c segment
same_back c d segment same i h = sym (same i h)

worn_same : (c d : Cartridge) (segment sector : ℕ) → sector < 32 → IsSameIn c d segment →
    IsSameIn (worn segment sector c) (worn segment sector d) segment
worn_same c d segment sector small same i h =
    elim (cases_eq i sector) [
      | inl is ↦
          subst (λ (j : ℕ). view_at (worn segment sector d) segment j ≡ view_at (worn segment sector c) segment j) (sym is)
          (worn_here d segment sector ∙ ap worn_view (same sector small) ∙ sym (worn_here c segment sector))
      | inr apart ↦
          worn_elsewhere d segment sector segment i small h (λ here e. apart (sym e)) ∙ same i h
          ∙ sym (worn_elsewhere c segment sector segment i small h (λ here e. apart (sym e)))
    ]

-- ---- one segment

pub wrong_small : {c : Cartridge} {l : Looked} {sector : ℕ} {ds : List (List ℕ)} → IsWrong c l sector ds → sector < 32
wrong_small {l = l} wrong = subst (λ (i : ℕ). i < 32) wrong.index (usable_small l.mask wrong.place wrong.within)

pub wrong_same : (c d : Cartridge) (l : Looked) (sector : ℕ) (ds : List (List ℕ)) → IsSameIn c d l.segment → IsWrong c l sector ds →
    IsWrong d l sector ds
wrong_same c d l sector ds same wrong =
    let cells : cells_at c l ≡ cells_at d l = sym (same_cells c d l.segment l.mask same) in
    let small : sector < 32 = wrong_small wrong in
    record {
      place = wrong.place;
      within = wrong.within;
      index = wrong.index;
      mismatch = subst (λ (xs : List SectorView). Says xs Mismatch) cells wrong.mismatch;
      few = subst (λ (xs : List SectorView). unreadable_count xs ≤ 1) cells wrong.few;
      says = subst (λ (xs : List SectorView). Says xs (Data ds))
          (sym (same_cells (worn l.segment sector c) (worn l.segment sector d) l.segment l.mask
          (worn_same c d l.segment sector small same))) wrong.says;
      can_be_read = wrong.can_be_read;
    }

found_same : (depth : Depth) (c d : Cartridge) (l : Looked) (s : Saying) (w : Option ℕ) → IsSameIn c d l.segment → HasFound depth c l s w →
    HasFound depth d l s w
found_same depth c d l s None same found = (
  subst (λ (xs : List SectorView). Says xs s) (sym (same_cells c d l.segment l.mask same)) found.0,
  λ searched sector ds wrong. found.1 searched sector ds (wrong_same d c l sector ds (same_back c d l.segment same) wrong),
)
found_same depth c d l s (Some sector) same found = (found.0, found.1, found.2, wrong_same c d l sector found.1 same found.3)

finds_same : (depth : Depth) (c d : Cartridge) (l : Looked) (f : Finding) → IsSameIn c d l.segment → Finds depth c l f → Finds depth d l f
finds_same depth c d l f same found = found_same depth c d l f.saying f.wrong same found

-- the wrong sector, if one was found, is one of the segment
abbrev pub IsSmall : Option ℕ → Type 0
IsSmall None = Unit {0}
IsSmall (Some sector) = sector < 32

found_small : (depth : Depth) (c : Cartridge) (l : Looked) (s : Saying) (w : Option ℕ) → HasFound depth c l s w → IsSmall w
found_small depth c l s None found = tt
found_small depth c l s (Some sector) found = wrong_small found.3

without_same : (c d : Cartridge) (l : Looked) (w : Option ℕ) → IsSmall w → IsSameIn c d l.segment →
    IsSameIn (without w l c) (without w l d) l.segment
without_same c d l None small same = same
without_same c d l (Some sector) small same = worn_same c d l.segment sector small same

-- the other segments are as they were
without_elsewhere : (c : Cartridge) (l : Looked) (w : Option ℕ) (s i : ℕ) → IsSmall w → i < 32 → (s ≡ l.segment → ⊥) →
    view_at (without w l c) s i ≡ view_at c s i
without_elsewhere c l None s i small h apart = refl
without_elsewhere c l (Some sector) s i small h apart = worn_elsewhere c l.segment sector s i small h (λ here e. apart here)

-- what the segment says with that sector lost
found_says : (depth : Depth) (c : Cartridge) (l : Looked) (s : Saying) (w : Option ℕ) → HasFound depth c l s w →
    Says (cells_at (without w l c) l) s
found_says depth c l s None found = found.0
found_says depth c l s (Some sector) found = subst (λ (x : Saying). Says (cells_at (worn l.segment sector c) l) x)
    (sym found.2) found.3.says

pub finds_says : (depth : Depth) (c : Cartridge) (l : Looked) (f : Finding) → Finds depth c l f →
    Says (cells_at (without f.wrong l c) l) f.saying
finds_says depth c l f found = found_says depth c l f.saying f.wrong found

finds_small : (depth : Depth) (c : Cartridge) (l : Looked) (f : Finding) → Finds depth c l f → IsSmall f.wrong
finds_small depth c l f found = found_small depth c l f.saying f.wrong found

-- ---- in turn and at once

pub record FoundAtOnce (depth : Depth) (c d : Cartridge) (ls : List Looked) (fs : List Finding) : Type 0 where
  pub found : FindAtOnce depth c ls fs
  pub acts : finding_acts d ls fs ≡ finds_at_once c ls fs

turn_at_once : (depth : Depth) (ls : List Looked) (fs : List Finding) (c d : Cartridge) → Rise ls → AreAlike c d ls →
    FindInTurn depth d ls fs →
    FoundAtOnce depth c d ls fs
turn_at_once depth [] [] c d rise same found = record { found = tt; acts = refl }
turn_at_once depth [] (f ∷ fs) c d rise same found = absurd found
turn_at_once depth (l ∷ ls) [] c d rise same found = absurd found
turn_at_once depth (l ∷ ls) (f ∷ fs) c d rise same found =
    let here : IsSameIn c d l.segment = All-head (λ (n : Looked). IsSameIn c d n.segment) l ls same in
    let now : Finds depth c l f = finds_same depth d c l f (same_back c d l.segment here) found.0 in
    let rest : FoundAtOnce depth c (changed_by (steps_for d l f) d) ls fs =
    turn_at_once depth ls fs c (changed_by (steps_for d l f) d) rise.1
    (later_alike c d (changed_by (steps_for d l f) d) l.segment ls (steps_kept (λ t i. t ≡ l.segment) (steps_for d l f) d
    (steps_stay (λ t. t ≡ l.segment) (without f.wrong l d) l f.saying refl)) rise.0
    (All-tail (λ (n : Looked). IsSameIn c d n.segment) l ls same)) found.1 in
    let steps : steps_for d l f ≡ steps_for c l f =
    steps_alike (without f.wrong l c) (without f.wrong l d) l f.saying (without_same c d l f.wrong (finds_small depth c l f now) here) in
    record {
      found = (now, rest.found);
      acts = ap (λ (acts : List Act). find_act d l f ∷ acts) rest.acts
          ∙ ap (λ (steps : List Step). record { steps = steps; text = line_for l f } ∷ finds_at_once c ls fs) steps;
    }

pub found_at_once : (depth : Depth) (ls : List Looked) (fs : List Finding) (c : Cartridge) → Rise ls → FindInTurn depth c ls fs →
    FoundAtOnce depth c c ls fs
found_at_once depth ls fs c rise found = turn_at_once depth ls fs c c rise (alike c ls) found

-- ---- with all wrong sectors lost

abbrev pub AreOther : (s : ℕ) → List Looked → Type 0
AreOther s ls = All (λ m. s ≡ m.segment → ⊥) ls

-- segments that are not looked at are as they were
without_all_elsewhere : (depth : Depth) (c b : Cartridge) (ls : List Looked) (fs : List Finding) (s i : ℕ) → FindAtOnce depth b ls fs →
    i < 32 →
    AreOther s ls → view_at (without_all c ls fs) s i ≡ view_at c s i
without_all_elsewhere depth c b [] fs s i found h other = refl
without_all_elsewhere depth c b (l ∷ ls) [] s i found h other = refl
without_all_elsewhere depth c b (l ∷ ls) (f ∷ fs) s i found h other =
    without_all_elsewhere depth (without f.wrong l c) b ls fs s i found.1 h (All-tail (λ (m : Looked). s ≡ m.segment → ⊥) l ls other)
    ∙ without_elsewhere c l f.wrong s i (finds_small depth b l f found.0) h (All-head (λ (m : Looked). s ≡ m.segment → ⊥) l ls other)

-- each segment that is looked at is as it is with its wrong sector lost
abbrev pub AreSeen : (e c : Cartridge) → List Looked → List Finding → Type 0
AreSeen e c [] fs = Unit {0}
AreSeen e c (l ∷ ls) [] = Unit {0}
AreSeen e c (l ∷ ls) (f ∷ fs) = IsSameIn (without f.wrong l c) e l.segment × AreSeen e c ls fs

-- one whose views are the same in these segments
seen_same : (depth : Depth) (e b c d : Cartridge) (ls : List Looked) (fs : List Finding) → FindAtOnce depth b ls fs → AreAlike c d ls →
    AreSeen e d ls fs →
    AreSeen e c ls fs
seen_same depth e b c d [] fs found same seen = tt
seen_same depth e b c d (l ∷ ls) [] found same seen = tt
seen_same depth e b c d (l ∷ ls) (f ∷ fs) found same seen = (
  λ i h. seen.0 i h ∙ without_same c d l f.wrong (finds_small depth b l f found.0)
      (All-head (λ (n : Looked). IsSameIn c d n.segment) l ls same) i h,
  seen_same depth e b c d ls fs found.1 (All-tail (λ (n : Looked). IsSameIn c d n.segment) l ls same) seen.1,
)

without_behind : (c : Cartridge) (l : Looked) (w : Option ℕ) (ls : List Looked) → IsSmall w → All (λ m. l.segment < m.segment) ls →
    AreAlike c (without w l c) ls
without_behind c l w [] small past = All-nil (λ (m : Looked). IsSameIn c (without w l c) m.segment)
without_behind c l w (m ∷ ms) small past =
    let behind : l.segment < m.segment = All-head (λ (n : Looked). l.segment < n.segment) m ms past in
    All-cons (λ (n : Looked). IsSameIn c (without w l c) n.segment) m ms
    (λ i h. without_elsewhere c l w m.segment i small h (λ (is : m.segment ≡ l.segment). omega arith))
    (without_behind c l w ms small (All-tail (λ (n : Looked). l.segment < n.segment) m ms past))

seen_all : (depth : Depth) (c b : Cartridge) (ls : List Looked) (fs : List Finding) → Rise ls → FindAtOnce depth b ls fs →
    AreSeen (without_all c ls fs) c ls fs
seen_all depth c b [] fs rise found = tt
seen_all depth c b (l ∷ ls) [] rise found = tt
seen_all depth c b (l ∷ ls) (f ∷ fs) rise found =
    let small : IsSmall f.wrong = finds_small depth b l f found.0 in (
      λ i h. without_all_elsewhere depth (without f.wrong l c) b ls fs l.segment i found.1 h
          (All-weaker (λ (m : Looked). l.segment < m.segment)
          (λ (m : Looked). l.segment ≡ m.segment → ⊥) (λ m (past : l.segment < m.segment) (same : l.segment ≡ m.segment). omega arith) ls
          rise.0),
      seen_same depth (without_all c (l ∷ ls) (f ∷ fs)) b c (without f.wrong l c) ls fs found.1 (without_behind c l f.wrong ls small rise.0)
          (seen_all depth (without f.wrong l c) b ls fs rise.1 found.1),
    )

are_seen : (depth : Depth) (c : Cartridge) (ls : List Looked) (fs : List Finding) → Rise ls → FindAtOnce depth c ls fs →
    AreSeen (without_all c ls fs) c ls fs
are_seen depth c ls fs rise found = seen_all depth c c ls fs rise found

-- what is found of one of them
pub record FoundOf (depth : Depth) (c e : Cartridge) (l : Looked) : Type 0 where
  pub finding : Finding
  pub finds : Finds depth c l finding
  pub seen : IsSameIn (without finding.wrong l c) e l.segment
  pub says : Says (cells_at e l) finding.saying

pub found_of : (depth : Depth) (c e : Cartridge) (ls : List Looked) (fs : List Finding) (l : Looked) → FindAtOnce depth c ls fs →
    AreSeen e c ls fs →
    Contains ls l → FoundOf depth c e l
found_of depth c e [] fs l found seen among = let h = among.1 in absurd (omega arith)
found_of depth c e (m ∷ ms) [] l found seen among = absurd found
found_of depth c e (m ∷ ms) (f ∷ fs) l found seen among =
    elim (contains_cases m l ms among) [
      | inl is ↦ subst (FoundOf depth c e) is (record {
        finding = f;
        finds = found.0;
        seen = seen.0;
        says = subst (λ (xs : List SectorView). Says xs f.saying) (sym (same_cells (without f.wrong m c) e m.segment m.mask seen.0))
            (finds_says depth c m f found.0);
      })
      | inr later ↦ found_of depth c e ms fs l found.1 seen.1 later
    ]

-- what a scrub finds of it says each segment, and the writes are the same
pub record SaidAtOnce (e c : Cartridge) (ls : List Looked) (fs : List Finding) : Type 0 where
  pub say : SayAtOnce e ls (sayings_of fs)
  pub steps : steps_of (acts_at_once e ls (sayings_of fs)) ≡ steps_of (finds_at_once c ls fs)

pub said_at_once : (depth : Depth) (e c : Cartridge) (ls : List Looked) (fs : List Finding) → FindAtOnce depth c ls fs → AreSeen e c ls fs →
    SaidAtOnce e c ls fs
said_at_once depth e c [] [] found seen = record { say = tt; steps = refl }
said_at_once depth e c [] (f ∷ fs) found seen = absurd found
said_at_once depth e c (l ∷ ls) [] found seen = absurd found
said_at_once depth e c (l ∷ ls) (f ∷ fs) found seen =
    let rest : SaidAtOnce e c ls fs = said_at_once depth e c ls fs found.1 seen.1 in
    record {
      say = (
        subst (λ (xs : List SectorView). Says xs f.saying) (sym (same_cells (without f.wrong l c) e l.segment l.mask seen.0))
            (finds_says depth c l f found.0),
        rest.say,
      );
      steps = ap (λ (steps : List Step). steps ++ steps_of (acts_at_once e ls (sayings_of fs)))
          (steps_alike (without f.wrong l c) e l f.saying seen.0)
          ∙ ap (λ (steps : List Step). steps_for c l f ++ steps) rest.steps;
    }

-- ---- each sector of it

-- a sector that was found to be wrong
pub record IsFoundWrong (depth : Depth) (c : Cartridge) (ls : List Looked) (s i : ℕ) : Type 0 where
  pub at : Looked
  pub among : Contains ls at
  pub here : at.segment ≡ s
  pub searched : IsSearched depth at
  pub sectors : List (List ℕ)
  pub wrong : IsWrong c at i sectors

-- it held bytes, and is lost
pub record IsLostNow (depth : Depth) (c e : Cartridge) (ls : List Looked) (s i : ℕ) : Type 0 where
  pub found : IsFoundWrong depth c ls s i
  pub seen : IsSameIn (worn found.at.segment i c) e found.at.segment
  pub old : List ℕ
  pub held : view_at c s i ≡ Holds old
  pub lost : view_at e s i ≡ Lost

worn_once : (view : SectorView) → (worn_view view ≡ view) ⊎ ((old : List ℕ) × (view ≡ Holds old) × (worn_view view ≡ Lost))
worn_once Blank = inl refl
worn_once Defect = inl refl
worn_once Lost = inl refl
worn_once (Holds old) = inr (old, refl, refl)

here_seen : (depth : Depth) (c e : Cartridge) (l : Looked) (ls : List Looked) (s : Saying) (w : Option ℕ) (i : ℕ) → HasFound depth c l s w →
    i < 32 →
    IsSameIn (without w l c) e l.segment →
    (view_at e l.segment i ≡ view_at c l.segment i) ⊎ IsLostNow depth c e (l ∷ ls) l.segment i
here_seen depth c e l ls s None i found h same = inl (same i h)
here_seen depth c e l ls s (Some sector) i found h same =
    elim (cases_eq i sector) [
      | inl here ↦
          subst (λ (j : ℕ). (view_at e l.segment j ≡ view_at c l.segment j) ⊎ IsLostNow depth c e (l ∷ ls) l.segment j) (sym here)
          (elim (worn_once (view_at c l.segment sector)) [
            | inl stays ↦ inl (same sector (wrong_small found.3) ∙ worn_here c l.segment sector ∙ stays)
            | inr wears ↦ inr (record {
              found = record {
                at = l;
                among = contains_first l ls;
                here = refl;
                searched = found.0;
                sectors = found.1;
                wrong = found.3;
              };
              seen = same;
              old = wears.0;
              held = wears.1;
              lost = same sector (wrong_small found.3) ∙ worn_here c l.segment sector ∙ wears.2;
            })
          ])
      | inr apart ↦ inl (same i h ∙ worn_elsewhere c l.segment sector l.segment i (wrong_small found.3) h (λ here e. apart (sym e)))
    ]

lost_more : (depth : Depth) (c e : Cartridge) (l : Looked) (ls : List Looked) (s i : ℕ) → IsLostNow depth c e ls s i →
    IsLostNow depth c e (l ∷ ls) s i
lost_more depth c e l ls s i lost = record {
  found = record {
    at = lost.found.at;
    among = contains_more l lost.found.at ls lost.found.among;
    here = lost.found.here;
    searched = lost.found.searched;
    sectors = lost.found.sectors;
    wrong = lost.found.wrong;
  };
  seen = lost.seen;
  old = lost.old;
  held = lost.held;
  lost = lost.lost;
}

-- each sector is as it was, or is a wrong one
each_seen : (depth : Depth) (c e : Cartridge) (ls : List Looked) (fs : List Finding) (s i : ℕ) → FindAtOnce depth c ls fs →
    AreSeen e c ls fs → i < 32 →
    (AreOther s ls → view_at e s i ≡ view_at c s i) → (view_at e s i ≡ view_at c s i) ⊎ IsLostNow depth c e ls s i
each_seen depth c e [] fs s i found seen h none = inl (none (All-nil (λ (m : Looked). s ≡ m.segment → ⊥)))
each_seen depth c e (l ∷ ls) [] s i found seen h none = absurd found
each_seen depth c e (l ∷ ls) (f ∷ fs) s i found seen h none =
    elim (cases_eq s l.segment) [
      | inl same ↦
          subst (λ (t : ℕ). (view_at e t i ≡ view_at c t i) ⊎ IsLostNow depth c e (l ∷ ls) t i) (sym same)
          (here_seen depth c e l ls f.saying f.wrong i found.0 h seen.0)
      | inr apart ↦ elim (each_seen depth c e ls fs s i found.1 seen.1 h
          (λ others. none (All-cons (λ (m : Looked). s ≡ m.segment → ⊥) l ls apart others))) [
            | inl is ↦ inl is
            | inr lost ↦ inr (lost_more depth c e l ls s i lost)
          ]
    ]

-- ---- all of it, where the segments rise

-- the cartridge with all wrong sectors lost, sector by sector
pub record IsSeen (depth : Depth) (c e : Cartridge) (ls : List Looked) (fs : List Finding) : Type 0 where
  pub info : e.info ≡ c.info
  pub seen : AreSeen e c ls fs
  pub each : (s i : ℕ) → i < 32 → (view_at e s i ≡ view_at c s i) ⊎ IsLostNow depth c e ls s i

without_info : (c : Cartridge) (l : Looked) (w : Option ℕ) → (without w l c).info ≡ c.info
without_info c l None = refl
without_info c l (Some sector) = refl

without_all_info : (c : Cartridge) (ls : List Looked) (fs : List Finding) → (without_all c ls fs).info ≡ c.info
without_all_info c [] fs = refl
without_all_info c (l ∷ ls) [] = refl
without_all_info c (l ∷ ls) (f ∷ fs) = without_all_info (without f.wrong l c) ls fs ∙ without_info c l f.wrong

pub is_seen : (depth : Depth) (c : Cartridge) (ls : List Looked) (fs : List Finding) → Rise ls → FindAtOnce depth c ls fs →
    IsSeen depth c (without_all c ls fs) ls fs
is_seen depth c ls fs rise found =
    let seen = are_seen depth c ls fs rise found in
    record {
      info = without_all_info c ls fs;
      seen = seen;
      each = λ s i h. each_seen depth c (without_all c ls fs) ls fs s i found seen h
          (λ other. without_all_elsewhere depth c c ls fs s i found h other);
    }
