-- A second scrub in a form writes nothing.
use Rattle.std.proofs.Common.{◌≡◌, ℕ, inl, inr, List, [], ◌∷◌, ◌++◌, refl, ◌+◌, ◌<◌, ◌≤◌, arith, sym, ◌∙◌, subst, ap, length, get_or}
use Rattle.std.proofs.Common.{Contains, Option, Some, None, true, false}
use Rattle.std.proofs.lemmas.Bool.{cases_Bool, false≢true}
use Rattle.cartridge_laws.proofs.Places.{usable_small}
use Rattle.cartridge_laws.proofs.Sayings.{says_is_function, written_is_said, said_are_sectors}
use Rattle.cartridge_spec.specs.Says.{Saying, Says, Data, LostSectors, Mismatch, unreadable_count}
use Rattle.cartridge_spec.specs.Settling.{changed_by}
use Rattle.cartridge_spec.specs.Shape.{IsLive, usable_places, usable_count}
use Rattle.command_laws.proofs.ScrubAgain.{AfterFirst, segment_again, live_at}
use Rattle.command_laws.proofs.ScrubApart.{contains_first, contains_more}
use Rattle.command_laws.proofs.ScrubForms.{as_seen, finds_at_once_is, form_steps, mended_as_seen, scrubbed_as_seen}
use Rattle.command_laws.proofs.ScrubSeen.{IsSeen, FoundOf, found_of, wrong_same}
use Rattle.command_laws.proofs.ScrubStanding.{unread_kept, fewer_unreadable, said_kept}
use Rattle.command_laws.specs.DeepScrubLaws.{SecondFormWritesNothing}
use Rattle.command_laws.specs.ScrubFound.{FindAtOnce, finds_at_once, without_all}
use Rattle.command_laws.specs.ScrubLaws.{AreAllLive}
use Rattle.command_laws.specs.ScrubMended.{IsBeingMended}
use Rattle.command_laws.specs.ScrubSayings.{Rise}
use Rattle.command_spec.specs.Scrub.{Looked, cells_at, reads, steps_in, looked_at, Finding, IsSearched, IsWrong, HasFound, without}
use Rattle.command_laws.specs.ScrubTerms.{Finds}
use Rattle.command_spec.specs.declared.depth.Depth.{Depth}
use Rattle.gf256_qic.proofs.Parities.{block_count}
use Rattle.qic_base.specs.Acts.{Act, steps_of}
use Rattle.qic_base.specs.Cartridge.{Cartridge, view_at}
use Rattle.qic_base.specs.Step.{Step}
use Rattle.command_laws.specs.SilentSectors.{IsSameIn}

-- ---- no sector is wrong behind the first

-- what a segment that reads says is said still
said_still : (looked : List Looked) (e d : Cartridge) (l : Looked) (ds : List (List ℕ)) → Rise looked → Contains looked l →
    IsBeingMended looked e d →
    Says (cells_at e l) (Data ds) → Says (cells_at d l) (Data ds)
said_still looked e d l ds rise among way says =
    let has = says.1 in
    let counts = block_count has.block has.code in
    let least : 4 ≤ length has.block = counts.0 in
    let most : length has.block ≤ 32 = counts.1 in
    let size : length has.block ≡ length (cells_at e l) = has.agrees.size in
    let are = said_are_sectors (cells_at e l) ds says in
    let three : length ds + 3 ≡ length (cells_at e l) = are.size in
    let fewer : unreadable_count (cells_at d l) ≤ unreadable_count (cells_at e l) = fewer_unreadable looked e d l way in
    let few : unreadable_count (cells_at e l) ≤ 3 = says.0 in
    written_is_said (cells_at d l) ds (omega arith) (omega arith) are.each (said_kept looked e d l ds rise among way says) (omega arith)

reads_not_wrong : (looked : List Looked) (e d : Cartridge) (l : Looked) (s : Saying) (sector : ℕ) (es : List (List ℕ)) → Rise looked →
    Contains looked l →
    IsBeingMended looked e d → Says (cells_at e l) s → reads l s ≡ true → IsWrong d l sector es → ⊥
reads_not_wrong looked e d l (Data ds) sector es rise among way says can wrong =
    let said = said_still looked e d l ds rise among way says in
    let both : Data ds ≡ Mismatch = says_is_function (cells_at d l) (Data ds) Mismatch said wrong.mismatch in
    absurd (cc)
reads_not_wrong looked e d l (LostSectors n) sector es rise among way says can wrong = absurd (false≢true can)
reads_not_wrong looked e d l Mismatch sector es rise among way says can wrong = absurd (false≢true can)

-- one that does not read is as it was
unread_not_wrong : (depth : Depth) (looked : List Looked) (c e d : Cartridge) (l : Looked) (s : Saying) (w : Option ℕ) (sector : ℕ)
    (es : List (List ℕ)) →
    Rise looked → Contains looked l → IsBeingMended looked e d → HasFound depth c l s w → IsSameIn (without w l c) e l.segment →
    Says (cells_at e l) s →
    reads l s ≡ false → IsSearched depth l → IsWrong d l sector es → ⊥
unread_not_wrong depth looked c e d l s None sector es rise among way found seen says fails searched wrong =
    let kept : IsSameIn e d l.segment =
    unread_kept looked e d l rise among way (λ ds said can.
    false≢true (sym fails ∙ ap (reads l) (says_is_function (cells_at e l) s (Data ds) says said) ∙ can)) in
    found.1 searched sector es (wrong_same d c l sector es (λ i h. sym (kept i h ∙ seen i h)) wrong)
unread_not_wrong depth looked c e d l s (Some found_sector) sector es rise among way found seen says fails searched wrong =
    false≢true (sym fails ∙ ap (reads l) found.2 ∙ found.3.can_be_read)

not_wrong : (depth : Depth) (looked : List Looked) (c e d : Cartridge) (l : Looked) (f : Finding) (sector : ℕ) (es : List (List ℕ)) →
    Rise looked →
    Contains looked l → IsBeingMended looked e d → Finds depth c l f → IsSameIn (without f.wrong l c) e l.segment →
    Says (cells_at e l) f.saying →
    IsSearched depth l → IsWrong d l sector es → ⊥
not_wrong depth looked c e d l f sector es rise among way found seen says searched wrong =
    elim (cases_Bool (reads l f.saying)) [
      | inl can ↦ reads_not_wrong looked e d l f.saying sector es rise among way says can wrong
      | inr fails ↦ unread_not_wrong depth looked c e d l f.saying f.wrong sector es rise among way found seen says fails searched wrong
    ]

-- ---- the second scrub

record BehindFirst (depth : Depth) (looked : List Looked) (c e d : Cartridge) : Type 0 where
  after : AfterFirst looked e d
  each : (l : Looked) → Contains looked l → FoundOf depth c e l

again_in : (depth : Depth) (looked : List Looked) (c e d : Cartridge) (l : Looked) (s : Saying) (w : Option ℕ) →
    BehindFirst depth looked c e d →
    Contains looked l → HasFound depth d l s w → steps_in (without w l d) l s ≡ []
again_in depth looked c e d l s None behind among found =
    let first = behind.each l among in
    segment_again looked e d l s behind.after among (record { saying = first.finding.saying; says = first.says }) found.0
again_in depth looked c e d l s (Some sector) behind among found =
    let first = behind.each l among in
    absurd (not_wrong depth looked c e d l first.finding sector found.1 behind.after.rise among behind.after.way first.finds first.seen
    first.says found.0 found.3)

all_again : (depth : Depth) (looked : List Looked) (c e d : Cartridge) (ls : List Looked) (gs : List Finding) →
    BehindFirst depth looked c e d →
    ((l : Looked) → Contains ls l → Contains looked l) → FindAtOnce depth d ls gs → steps_of (finds_at_once d ls gs) ≡ []
all_again depth looked c e d [] gs behind among found = refl
all_again depth looked c e d (l ∷ ls) [] behind among found = refl
all_again depth looked c e d (l ∷ ls) (g ∷ gs) behind among found =
    ap (λ (steps : List Step). steps ++ steps_of (finds_at_once d ls gs))
    (again_in depth looked c e d l g.saying g.wrong behind (among l (contains_first l ls)) found.0)
    ∙ all_again depth looked c e d ls gs behind (λ m later. among m (contains_more l m ls later)) found.1

-- sectors that took what was written to them take it where wrong ones are lost
live_seen : (depth : Depth) (c e : Cartridge) (looked : List Looked) (fs : List Finding) (l : Looked) (k : ℕ) → AreAllLive c looked →
    IsSeen depth c e looked fs →
    Contains looked l → k < usable_count l.mask → IsLive (view_at e l.segment (get_or (usable_places l.mask) k 0))
live_seen depth c e looked fs l k live seen among h =
    elim (seen.each l.segment (get_or (usable_places l.mask) k 0) (usable_small l.mask k h)) [
      | inl same ↦ subst IsLive (sym same) (live_at c looked l k live among h)
      | inr lost ↦ subst IsLive (sym lost.lost) tt
    ]

pub second_form_writes_nothing : SecondFormWritesNothing
second_form_writes_nothing depth c words entries last acts again order live first second =
    let looked : List Looked = looked_at words entries in
    let fs : List Finding = first.findings in
    let e : Cartridge = without_all c looked fs in
    let d : Cartridge = changed_by (steps_of acts) c in
    let run = as_seen depth c words entries last acts order first in
    let once = finds_at_once_is depth d words entries last again order second in
    form_steps depth d words entries again second
    ∙ ap (λ (all : List Act). steps_of all) once.1
    ∙ all_again depth looked c e d looked second.findings (record {
      after = record {
        rise = run.rise;
        way = mended_as_seen depth c words entries acts fs run;
        scrubbed = scrubbed_as_seen depth c words entries acts fs run;
        live = λ l k among h. live_seen depth c e looked fs l k live run.seen among h;
      };
      each = λ l among. found_of depth c e looked fs l run.found run.seen.seen among;
    }) (λ l among. among) once.0
