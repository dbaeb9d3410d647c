-- What all steps of a scrub leave.
use Rattle.std.proofs.Common.{◌≡◌, ℕ, Bool, true, false, cond, List, ◌∷◌, refl, ◌∙◌, ◌<◌, ap, length, get_or, zero, suc, ◌≤◌, [], arith}
use Rattle.std.proofs.Common.{◌+◌, inl, inr, ◌++◌, Contains, subst, sym, Option, Some, IsSomeAnd}
use Rattle.std.proofs.lemmas.List.{length-append}
use Rattle.std.proofs.lemmas.List.Elements.{All-contains}
use Rattle.std.proofs.lemmas.Option.{unwrap_or-slice_get}
use Rattle.cartridge_laws.proofs.AppendKeeping.{steps_kept}
use Rattle.cartridge_laws.proofs.FormatViews.{view_of_sector, view_of_other_sector}
use Rattle.cartridge_laws.proofs.FormatWriting.{changed_by-append, effects-some}
use Rattle.cartridge_laws.proofs.Places.{AreSmall, AreApart, usable_small, usable_apart}
use Rattle.cartridge_laws.proofs.Sayings.{said_are_sectors, says_is_function}
use Rattle.cartridge_laws.proofs.Segments.{count_of_cells}
use Rattle.cartridge_laws.specs.Table.{IsSoundList}
use Rattle.cartridge_spec.specs.Code.{parity_sectors}
use Rattle.cartridge_spec.specs.Says.{Data, Says, with_parity, Saying}
use Rattle.cartridge_spec.specs.Settling.{changed_by}
use Rattle.cartridge_spec.specs.Shape.{is_unreadable, usable_count, usable_places}
use Rattle.cartridge_spec.specs.Table.{Entry}
use Rattle.command_laws.proofs.ScrubApart.{contains_cases, looked_rise}
use Rattle.command_laws.proofs.ScrubAtOnce.{mending_are, steps_stay, at_once_stay, scrubs_at_once}
use Rattle.command_laws.proofs.ScrubMending.{stopped_scrub, stopped_at_once, scrub_is_at_once}
use Rattle.command_laws.specs.ScrubLaws.{DoneScrub}
use Rattle.command_laws.specs.ScrubMended.{IsMended, IsBeingMended, IsScrubbed}
use Rattle.command_laws.specs.ScrubPlain.{Scrubs}
use Rattle.command_laws.specs.ScrubSayings.{Rise, SayAtOnce, acts_at_once}
use Rattle.command_spec.specs.Scrub.{mending_writes, Looked, cells_at, reads, steps_in, looked_at}
use Rattle.gf256_qic.proofs.Parities.{length-parity_sectors}
use Rattle.qic_base.proofs.Steps.{Torn-all}
use Rattle.qic_base.specs.Acts.{steps_of, Act}
use Rattle.qic_base.specs.Cartridge.{Cartridge, view_at}
use Rattle.qic_base.specs.Step.{Step, write_sector, changed, written_view, effects}

-- ---- one segment

first_written : (b : Bool) (segment p : ℕ) (bytes : List ℕ) (rest : List Step) (d : Cartridge) → b ≡ true →
    ((e : Cartridge) → view_at (changed_by rest e) segment p ≡ view_at e segment p) →
    view_at (changed_by (cond b (write_sector segment p bytes ∷ rest) rest) d) segment p ≡ written_view bytes (view_at d segment p)
first_written true segment p bytes rest d is kept =
    kept (changed (write_sector segment p bytes) d) ∙ view_of_sector d segment p (written_view bytes) refl
first_written false segment p bytes rest d is kept = absurd (cc)

later_written : (b : Bool) (segment p q : ℕ) (bytes held : List ℕ) (rest : List Step) (d : Cartridge) → p < 32 → q < 32 → (p ≡ q → ⊥) →
    ((e : Cartridge) → view_at (changed_by rest e) segment q ≡ written_view held (view_at e segment q)) →
    view_at (changed_by (cond b (write_sector segment p bytes ∷ rest) rest) d) segment q ≡ written_view held (view_at d segment q)
later_written true segment p q bytes held rest d small h apart then =
    then (changed (write_sector segment p bytes) d)
    ∙ ap (written_view held) (view_of_other_sector d segment p segment q (written_view bytes (view_at d segment p)) small h
    (λ same e. apart e))
later_written false segment p q bytes held rest d small h apart then = then d

-- writes to places apart from one leave that
rest_kept : (c : Cartridge) (segment p : ℕ) (places : List ℕ) (sectors : List (List ℕ)) (e : Cartridge) → AreSmall places → p < 32 →
    ((k : ℕ) → k < length places → p ≡ get_or places k 0 → ⊥) →
    view_at (changed_by (mending_writes c segment places sectors) e) segment p ≡ view_at e segment p
rest_kept c segment p places sectors e small h apart =
    (steps_kept (λ t i. p ≡ i → ⊥) (mending_writes c segment places sectors) e
    (mending_are (λ t i bytes. (p ≡ i → ⊥) × (i < 32)) c segment places sectors (λ k l unread. (apart k l, small k l)))).others segment p h
    (λ other. other refl)

mending_done : (c d : Cartridge) (segment : ℕ) (places : List ℕ) (sectors : List (List ℕ)) (k : ℕ) → AreSmall places → AreApart places →
    k < length places → length places ≤ length sectors → is_unreadable (view_at c segment (get_or places k 0)) ≡ true →
    view_at (changed_by (mending_writes c segment places sectors) d) segment (get_or places k 0)
    ≡ written_view (get_or sectors k []) (view_at d segment (get_or places k 0))
mending_done c d segment [] sectors k small apart h room unread = absurd (omega arith)
mending_done c d segment (p ∷ places) [] k small apart h room unread = absurd (omega arith)
mending_done c d segment (p ∷ places) (bytes ∷ sectors) zero small apart h room unread =
    first_written (is_unreadable (view_at c segment p)) segment p bytes (mending_writes c segment places sectors) d unread
    (λ e. rest_kept c segment p places sectors e (λ j l. small (suc j) (omega arith)) (small 0 (omega arith))
    (λ j l same. apart 0 (suc j) (omega arith) (omega arith) same))
mending_done c d segment (p ∷ places) (bytes ∷ sectors) (suc k) small apart h room unread =
    later_written (is_unreadable (view_at c segment p)) segment p (get_or places k 0) bytes (get_or sectors k [])
    (mending_writes c segment places sectors) d
    (small 0 (omega arith)) (small (suc k) (omega arith)) (λ same. apart 0 (suc k) (omega arith) (omega arith) same)
    (λ e. mending_done c e segment places sectors k (λ j l. small (suc j) (omega arith))
    (λ i j l m same. apart (suc i) (suc j) (omega arith) (omega arith) same) (omega arith) (omega arith) unread)

length-said_block : (c : Cartridge) (l : Looked) (sectors : List (List ℕ)) → Says (cells_at c l) (Data sectors) →
    length (with_parity sectors) ≡ usable_count l.mask
length-said_block c l sectors says =
    let size : length sectors + 3 ≡ length (cells_at c l) = (said_are_sectors (cells_at c l) sectors says).size in
    let count : length (cells_at c l) ≡ usable_count l.mask = count_of_cells c l.segment l.mask in
    omega (arith, length-append sectors (parity_sectors sectors), length-parity_sectors sectors)

segment_done : (c d : Cartridge) (l : Looked) (sectors : List (List ℕ)) (k : ℕ) → Says (cells_at c l) (Data sectors) →
    reads l (Data sectors) ≡ true →
    k < usable_count l.mask → is_unreadable (view_at c l.segment (get_or (usable_places l.mask) k 0)) ≡ true →
    view_at (changed_by (steps_in c l (Data sectors)) d) l.segment (get_or (usable_places l.mask) k 0)
    ≡ written_view (get_or (with_parity sectors) k []) (view_at d l.segment (get_or (usable_places l.mask) k 0))
segment_done c d l sectors k says can h unread =
    let writes : List Step = mending_writes c l.segment (usable_places l.mask) (with_parity sectors) in
    ap (λ (b : Bool). view_at (changed_by (cond b writes []) d) l.segment (get_or (usable_places l.mask) k 0)) can
    ∙ mending_done c d l.segment (usable_places l.mask) (with_parity sectors) k (usable_small l.mask) (usable_apart l.mask) h
    (omega (arith, length-said_block c l sectors says)) unread

-- ---- all of them

all_done : (ls : List Looked) (ss : List Saying) (c d : Cartridge) (l : Looked) (sectors : List (List ℕ)) (k : ℕ) → Rise ls →
    SayAtOnce c ls ss → Contains ls l →
    Says (cells_at c l) (Data sectors) → reads l (Data sectors) ≡ true → k < usable_count l.mask →
    is_unreadable (view_at c l.segment (get_or (usable_places l.mask) k 0)) ≡ true →
    view_at (changed_by (steps_of (acts_at_once c ls ss)) d) l.segment (get_or (usable_places l.mask) k 0)
    ≡ written_view (get_or (with_parity sectors) k []) (view_at d l.segment (get_or (usable_places l.mask) k 0))
all_done [] ss c d l sectors k rise say among says can h unread = let none = among.1 in absurd (omega arith)
all_done (m ∷ ms) [] c d l sectors k rise say among says can h unread = absurd say
all_done (m ∷ ms) (s ∷ ss) c d l sectors k rise say among says can h unread =
    let place : ℕ = get_or (usable_places l.mask) k 0 in
    let bytes : List ℕ = get_or (with_parity sectors) k [] in
    let small : place < 32 = usable_small l.mask k h in
    let front : List Step = steps_in c m s in
    let rear : List Step = steps_of (acts_at_once c ms ss) in
    let e : Cartridge = changed_by front d in
    let parts : changed_by (front ++ rear) d ≡ changed_by rear e = changed_by-append front rear d in
    ap (λ (x : Cartridge). view_at x l.segment place) parts
    ∙ elim (contains_cases m l ms among) [
      | inl is ↦
          let same : s ≡ Data sectors =
          says_is_function (cells_at c l) s (Data sectors) (subst (λ (n : Looked). Says (cells_at c n) s) is say.0) says in
          let here : front ≡ steps_in c l (Data sectors) = ap (λ (n : Looked). steps_in c n s) is ∙ ap (steps_in c l) same in
          (steps_kept (λ t i. m.segment < t) rear e (at_once_stay (λ t. m.segment < t) c ms ss rise.0)).others l.segment place small
          (λ (past : m.segment < l.segment). let also : m.segment ≡ l.segment = ap (λ (n : Looked). n.segment) is in omega arith)
          ∙ ap (λ (xs : List Step). view_at (changed_by xs d) l.segment place) here
          ∙ segment_done c d l sectors k says can h unread
      | inr later ↦
          let past : m.segment < l.segment = All-contains (λ (n : Looked). m.segment < n.segment) ms l rise.0 later in
          all_done ms ss c e l sectors k rise.1 say.1 later says can h unread
          ∙ ap (written_view bytes) ((steps_kept (λ t i. t ≡ m.segment) front d (steps_stay (λ t. t ≡ m.segment) c m s refl)).others
          l.segment place small
          (λ (same : l.segment ≡ m.segment). omega arith))
    ]

mended_written : (c d : Cartridge) (looked : List Looked) (ss : List Saying) (segment sector : ℕ) (bytes : List ℕ) → Rise looked →
    SayAtOnce c looked ss →
    d ≡ changed_by (steps_of (acts_at_once c looked ss)) c → IsMended c looked segment sector bytes →
    view_at d segment sector ≡ written_view bytes (view_at c segment sector)
mended_written c d looked ss segment sector bytes rise say is mended =
    let l : Looked = mended.at in
    let k : ℕ = mended.place in
    let place : ℕ = get_or (usable_places l.mask) k 0 in
    let index : place ≡ sector = mended.index in
    let unread : is_unreadable (view_at c l.segment place) ≡ true =
    ap (λ (i : ℕ). is_unreadable (view_at c l.segment i)) index ∙ ap (λ (t : ℕ). is_unreadable (view_at c t sector)) mended.here
    ∙ mended.unreadable in
    let done = all_done looked ss c c l mended.sectors k rise say mended.among mended.says mended.can_be_read mended.within unread in
    let block : get_or (with_parity mended.sectors) k [] ≡ bytes = sym (unwrap_or-slice_get (with_parity mended.sectors) k [])
    ∙ mended.block in
    ap (λ (x : Cartridge). view_at x segment sector) is
    ∙ subst (λ (held : List ℕ). view_at (changed_by (steps_of (acts_at_once c looked ss)) c) segment sector ≡ written_view held
    (view_at c segment sector)) block
    (subst (λ (t : ℕ). view_at (changed_by (steps_of (acts_at_once c looked ss)) c) t sector ≡ written_view
    (get_or (with_parity mended.sectors) k []) (view_at c t sector))
    mended.here
    (subst (λ (i : ℕ). view_at (changed_by (steps_of (acts_at_once c looked ss)) c) l.segment i ≡ written_view
    (get_or (with_parity mended.sectors) k []) (view_at c l.segment i))
    index done))

pub done_being_mended : (c : Cartridge) (words : List ℕ) (entries : List Entry) (last : ℕ) (acts : List Act) → IsSoundList last entries →
    Scrubs c words entries acts →
    IsBeingMended (looked_at words entries) c (changed_by (steps_of acts) c)
done_being_mended c words entries last acts order scrubs =
    subst (λ (o : Option Cartridge). IsSomeAnd o (IsBeingMended (looked_at words entries) c)) (effects-some (steps_of acts) c)
    (stopped_scrub c words entries last acts (effects (steps_of acts) (Some c)) order scrubs (Torn-all (steps_of acts) (Some c)))

pub scrubbed_at_once : (looked : List Looked) (c : Cartridge) (ss : List Saying) → Rise looked → SayAtOnce c looked ss →
    IsScrubbed looked c (changed_by (steps_of (acts_at_once c looked ss)) c)
scrubbed_at_once looked c ss rise say =
    let steps : List Step = steps_of (acts_at_once c looked ss) in
    let d : Cartridge = changed_by steps c in
    let way : IsBeingMended looked c d =
    subst (λ (o : Option Cartridge). IsSomeAnd o (IsBeingMended looked c)) (effects-some steps c)
    (stopped_at_once looked c ss (effects steps (Some c)) say (Torn-all steps (Some c))) in
    record {
      info = way.info;
      mended = λ segment sector bytes h mended. mended_written c d looked ss segment sector bytes rise say refl mended;
      others = λ segment sector h none.
          elim (way.each segment sector h) [
            | inl same ↦ same
            | inr begun ↦ absurd (none begun.0 begun.1)
          ];
    }

pub done_scrub : DoneScrub
done_scrub c words entries last acts order scrubs =
    let once = scrubs_at_once c words entries last acts order scrubs in
    subst (λ (steps : List Step). IsScrubbed (looked_at words entries) c (changed_by steps c))
    (sym (scrub_is_at_once c words entries acts scrubs once.1))
    (scrubbed_at_once (looked_at words entries) c scrubs.sayings (looked_rise words last entries order) once.0)
