-- What `scrub deep` leaves, done or stopped, and a run of it.
use Rattle.std.proofs.Common.{◌≡◌, ◌⊎◌, ◌∙◌, ℕ, List, Option, Some, IfSome, IsSomeAnd, ap, false, inl, inr, refl, subst, sym}
use Rattle.std.proofs.lemmas.Bool.{cases_Bool}
use Rattle.cartridge_laws.proofs.FormatWriting.{effects-some, some_weaker}
use Rattle.cartridge_laws.proofs.MountOnce.{mounts_is_function}
use Rattle.cartridge_laws.proofs.MountSettled.{settled_mounts}
use Rattle.cartridge_laws.proofs.MountWhole.{settling_effects}
use Rattle.cartridge_laws.specs.AppendSettled.{IsSettledFor}
use Rattle.cartridge_spec.specs.Header.{Header}
use Rattle.cartridge_spec.specs.HeaderCopies.{last_segment}
use Rattle.cartridge_spec.specs.Mounting.{Mounting, Mounts, mounted_as, settled}
use Rattle.cartridge_spec.specs.Settling.{changed_by, settling_steps}
use Rattle.cartridge_spec.specs.Table.{Entry}
use Rattle.cartridge_spec.specs.Volumes.{Plain, Stands, entries_of}
use Rattle.command_laws.proofs.CommandPlainLaws.{behind_leaves, stays, writable_locked}
use Rattle.command_laws.proofs.CommandTable.{guess_is}
use Rattle.command_laws.proofs.ScrubBeside.{first_not_wrong}
use Rattle.command_laws.proofs.ScrubForms.{finds_at_once_is, stopped_in_form}
use Rattle.command_laws.proofs.ScrubMounted.{mounted_order}
use Rattle.command_laws.proofs.SilentMended.{silent_sectors_are_mounted}
use Rattle.command_laws.proofs.SilentSettled.{silent_sectors_end}
use Rattle.command_laws.specs.DeepScrubLaws.{DeepScrubMends, DeepScrubStopped, FirstCopyIsRight, IsBeingScrubbedDeep}
use Rattle.command_laws.specs.PromiseLaws.{DeepScrubRunMends}
use Rattle.command_laws.specs.SilentSectors.{DiffersSilently}
use Rattle.command_spec.specs.Headline.{Stepped, ToldNow}
use Rattle.command_spec.specs.Machine.{Spells, is_fault}
use Rattle.command_laws.specs.CommandFields.{Yields}
use Rattle.command_spec.specs.Outcome.{CommandOutcome, Opened}
use Rattle.command_laws.specs.Outcomes.{MendsDeep}
use Rattle.command_spec.specs.Scrub.{ScrubsAs, ScrubsBy}
use Rattle.command_spec.specs.declared.depth.Depth.TheVariants.{Deep}
use Rattle.command_spec.specs.declared.status.Status.{Status}
use Rattle.command_spec.specs.declared.words.Words.{Words}
use Rattle.qic_base.specs.Acts.{Act, Outside, steps_of}
use Rattle.qic_base.specs.Cartridge.{Cartridge}
use Rattle.qic_base.specs.Step.{Torn}
use Rattle.qic_base.specs.Source.{IsInput}
use Rattle.cartridge_spec.specs.Mounting as mounting
use Rattle.command_spec.specs.declared.status.Status.TheVariants as status
use Rattle.command_spec.specs.declared.words.Words.TheVariants as words
use Rattle.qic_base.specs.Sink as sinks
use Rattle.qic_base.specs.Source as sources
use Rattle.qic_base.specs.Tape as tapes

-- ---- a cartridge that stands

pub first_copy_is_right : FirstCopyIsRight
first_copy_is_right c plain stood sector sectors wrong = first_not_wrong c plain sector sectors stood.whole.header_area stood.copies wrong

-- ---- done

stood_mounts : (k : Cartridge) (plain : Plain) → Stands k plain → IsSettledFor k plain.table_area → Mounts k (mounted_as plain)
stood_mounts k plain stood known = record {
  area = plain.header_area;
  formatted = record { has_header = stood.header; sound = stood.sound_header; shown = stood.whole.shown };
  reads = known.table;
  sound = stood.sound_table;
  shown = stood.shown;
}

pub deep_scrub_mends : DeepScrubMends
deep_scrub_mends k c plain input outcome stood known silent free (inl is) = let locked = is.0 in absurd (cc)
deep_scrub_mends k c plain input outcome stood known silent free (inr (unlocked, (m, mounts, opened))) =
    let as_plain : Mounts c (mounted_as plain) = silent_sectors_are_mounted k c plain stood (stood_mounts k plain stood known) silent in
    let same : m ≡ mounted_as plain = mounts_is_function c m (mounted_as plain) mounts as_plain in
    let on : ScrubsBy Deep c plain.header plain.words plain.table_area (entries_of plain) outcome =
    subst (λ (a : Mounting). Opened MendsDeep c a outcome) same opened in
    (ap (λ (o : CommandOutcome). o.status) on.is, silent_sectors_end k c plain outcome stood known free silent on)

-- ---- stopped

still_scrubbed : (c : Cartridge) (header : Header) (ws : List ℕ) (table : List (List ℕ)) (entries : List Entry) (acts : List Act)
    (left : Option Cartridge) →
    Mounts c (mounting.Mounted header ws table entries) → ScrubsAs Deep (settled table c) ws entries acts →
    Torn (steps_of acts) (Some (settled table c)) left →
    IsSomeAnd left (IsBeingScrubbedDeep (settled table c) ws entries)
still_scrubbed c header ws table entries acts left mounts scrubs torn =
    let e : Cartridge = settled table c in
    let order = mounted_order e header ws table entries (settled_mounts c header ws table entries mounts) in
    some_weaker left
    (λ d is. record {
      findings = scrubs.findings;
      found = (finds_at_once_is Deep e ws entries (last_segment e) acts order scrubs).0;
      scrubbed = is;
    })
    (stopped_in_form Deep e ws entries (last_segment e) acts left order scrubs torn)

pub deep_scrub_stopped : DeepScrubStopped
deep_scrub_stopped c input outcome left (inl is) torn = inl (stays (Some c) left outcome _ is.1 refl torn)
deep_scrub_stopped c input outcome left (inr (free, (mounting.NotFormatted, mounts, is))) torn =
    inl (stays (Some c) left outcome _ is refl torn)
deep_scrub_stopped c input outcome left (inr (free, (mounting.Foreign fault, mounts, is))) torn =
    inl (stays (Some c) left outcome _ is refl torn)
deep_scrub_stopped c input outcome left (inr (free, (mounting.TableLost lost, mounts, is))) torn =
    inl (stays (Some c) left outcome _ is refl torn)
deep_scrub_stopped c input outcome left (inr (free, (mounting.TableMismatch, mounts, is))) torn =
    inl (stays (Some c) left outcome _ is refl torn)
deep_scrub_stopped c input outcome left (inr (free, (mounting.Mounted header ws table entries, mounts, on))) torn =
    inr (record {
      header = header;
      words = ws;
      table = table;
      entries = entries;
      mounts = mounts;
      stopped = elim (behind_leaves (settling_steps table c) on.acts (Some c) left outcome _ on.is refl torn) [
        | inl first ↦ inl first
        | inr next ↦ inr (still_scrubbed c header ws table entries on.acts left mounts on.scrubs
            (subst (λ (held : Option Cartridge). Torn (steps_of on.acts) held left) (settling_effects c table mounts.reads) next))
      ];
    })

-- ---- a run

module _ {T S K : Type 0} (t : tapes.Meaning T) (s : sources.Meaning S) (k : sinks.Meaning K) where
  -- one that was carried out was not over a protected cartridge
  was_free : (c : Cartridge) (input : List ℕ) (outcome : CommandOutcome) → outcome.status ≡ status.Done →
      Yields words.ScrubDeep (Some c) input outcome →
      c.info.protected ≡ false
  was_free c input outcome done does =
      elim (cases_Bool c.info.protected) [
        | inr free ↦ free
        | inl locked ↦
            let refused = ap (λ (o : CommandOutcome). o.status) (writable_locked MendsDeep c outcome locked does) in
            absurd (cc)
      ]

  by_step : (ws : List (List ℕ)) (input : List ℕ) (old new : Outside T S K) (answer : Status) (whole c : Cartridge) (plain : Plain) →
      Spells ws words.ScrubDeep →
      answer ≡ status.Done → Stands whole plain → IsSettledFor whole plain.table_area → DiffersSilently whole c plain →
      (answer ≡ status.NoMemory) ⊎ Stepped t s k ws (Some c) input old new answer →
      ToldNow t new.tape (λ left. IsSomeAnd left (λ d. Stands d plain))
  by_step ws input old new answer whole c plain spelled done stood known silent (inl none) = absurd (cc)
  by_step ws input old new answer whole c plain spelled done stood known silent (inr stepped) =
      elim stepped.step [
        | inl none ↦ absurd (none.0 words.ScrubDeep spelled)
        | inr some ↦
            let same : some.0 ≡ words.ScrubDeep = sym (guess_is ws some.0 some.1) ∙ guess_is ws words.ScrubDeep spelled in
            let outcome : CommandOutcome = some.2.0 in
            let does : Yields words.ScrubDeep (Some c) input outcome =
            subst (λ (w : Words). Yields w (Some c) input outcome) same some.2.1 in
            let finished : outcome.status ≡ status.Done = sym some.2.5 ∙ done in
            let stands = (deep_scrub_mends whole c plain input outcome stood known silent (was_free c input outcome finished does) does).1
            in
            let told : t.told new.tape ≡ Some (Some (changed_by (steps_of outcome.acts) c)) =
            stepped.tape ∙ ap (λ (h : Option Cartridge). Some h) (some.2.2 ∙ effects-some (steps_of outcome.acts) c) in
            subst (λ (o : Option (Option Cartridge)). IsSomeAnd o (λ left. IsSomeAnd left (λ d. Stands d plain))) (sym told) stands
      ]

  pub deep_scrub_run_mends : DeepScrubRunMends t s k
  deep_scrub_run_mends ws old new answer whole c plain promises spelled done told stood known silent =
      let answers = promises.carried (ap is_fault done) in
      let over = subst (λ (o : Option (Option Cartridge)). IfSome o (λ held. (input : List ℕ) × IsInput (s.left old.source) input
      × ((answer ≡ status.NoMemory) ⊎ Stepped t s k ws held input old new answer))) told answers in
      by_step ws over.0 old new answer whole c plain spelled done stood known silent over.2
