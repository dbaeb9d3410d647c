-- A life in which a loss of one sector more of the table's segment may be open, turn by turn.
use Rattle.std.proofs.Common.{◌≡◌, ◌≤◌, ℕ, Bool, true, false, List, [], ◌∷◌, Option, Some, None, IsSomeAnd, inl, inr}
use Rattle.std.proofs.Common.{length, refl, subst, sym}
use Rattle.cartridge_laws.proofs.ChangeLive.{steps_keep_live}
use Rattle.cartridge_laws.proofs.FormatWriting.{some_and}
use Rattle.cartridge_laws.proofs.MountSettled.{settled_twice}
use Rattle.cartridge_spec.specs.Formatting.{HasCleanCopies}
use Rattle.cartridge_spec.specs.Mounting.{ComesBackAs, NotFormatted, mounted_as, settled}
use Rattle.cartridge_spec.specs.Settling.{settling_steps}
use Rattle.cartridge_laws.proofs.MountOnce.{mounts_is_function}
use Rattle.cartridge_spec.specs.TableSegment.{IsTableLive}
use Rattle.cartridge_spec.specs.Volumes.{Plain, entries_of, worn}
use Rattle.command_laws.proofs.BetweenCarrying.{loses_one}
use Rattle.command_laws.proofs.CommandLeft.{leaves_whole}
use Rattle.command_laws.proofs.CommandTable.{copies_stay_clean, only_new_renews}
use Rattle.command_laws.proofs.LifeBack.{IsSettledSound, back_mounts, back_settles, less_clean, settling_back, sound_is_back, steps_back}
use Rattle.command_laws.proofs.LifeBack.{unmarked, worn_back}
use Rattle.command_laws.proofs.LifeFormats.{torn_by}
use Rattle.command_laws.proofs.LifeLaws.{event_makes}
use Rattle.command_laws.proofs.LifeLosing.{LossMakes, loss_makes}
use Rattle.command_laws.proofs.LifeReopened.{event_reopens, reopens_of}
use Rattle.command_laws.proofs.WholeSteps.{worn_whole}
use Rattle.cartridge_laws.proofs.ChangeViews.{worn_reads_no_more}
use Rattle.command_laws.specs.CommandFields.{KeepsCopies, KeepsLive}
use Rattle.command_laws.specs.Life.{Adds, Answered, AnsweredAmong, Becomes, Ended, Event, IsSound, Loses, Run, Runs}
use Rattle.command_laws.specs.Life.{SomeLines, Stopped, begun_by}
use Rattle.command_laws.specs.LifeOneLoss.{ALifeWithOneLoss, AddsVolumes, IsBackWith, IsNow, LosesBehind, LosesOneBehind, Opens, OpensFirst}
use Rattle.command_laws.specs.LifeOneLoss.{FitsIn, Passes, PassesBy, RunsOver, StopsSettling, StopsWhileSettling, Turn, TurnBecomes}
use Rattle.command_laws.specs.LifeOneLoss.{TurnHappens, Usual, begun_after, is_open_behind}
use Rattle.command_laws.specs.LifeReopens.{CanReopen, Reopens}
use Rattle.command_laws.specs.SettledRuns.{SettlesFirst, StopsInSettling}
use Rattle.command_spec.specs.Script.{ScriptDoes}
use Rattle.command_spec.specs.ScriptLists.{with_items}
use Rattle.command_spec.specs.declared.words.Words.{Words}
use Rattle.qic_base.specs.Acts.{steps_of}
use Rattle.qic_base.specs.Cartridge.{Cartridge}
use Rattle.qic_base.specs.CartridgeTerms.{IsCartridge}
use Rattle.qic_base.specs.Step.{Torn, Wear}
use Rattle.command_spec.specs.declared.words.Words.TheVariants as words

-- ---- what a run makes of the volumes, over a cartridge and over the settled one

module _ (c s : Cartridge) (plain : Plain) (same : settled plain.table_area s ≡ settled plain.table_area c) where
  lines_on : (input : List ℕ) (ended : Ended) (after : Option Plain) → SomeLines s input plain ended after →
      SomeLines c input plain ended after
  lines_on input ended after lines =
      let some : (does : ScriptDoes (settled plain.table_area c) plain.words (entries_of plain) input lines.run)
      × (lines.count ≤ length does.items) × AnsweredAmong ended does.items does.dids lines.count
      × (after ≡ Some (with_items plain does.items does.dids lines.count)) =
      subst (λ (d : Cartridge). (does : ScriptDoes d plain.words (entries_of plain) input lines.run)
      × (lines.count ≤ length does.items) × AnsweredAmong ended does.items does.dids lines.count
      × (after ≡ Some (with_items plain does.items does.dids lines.count))) same
      (lines.does, lines.within, lines.answered, lines.is) in
      record { run = lines.run; does = some.0; count = lines.count; within = some.1; answered = some.2; is = some.3 }

  adds_on : (command : Words) (input : List ℕ) (ended : Ended) (after : Option Plain) → SettlesFirst command →
      Adds command s input plain ended after → Becomes command (Some c) input ended (Some plain) after
  adds_on words.Info input ended after settles adds = adds
  adds_on words.List input ended after settles adds = adds
  adds_on (words.Append name date) input ended after settles adds = adds
  adds_on (words.Restore number) input ended after settles adds = adds
  adds_on words.Scrub input ended after settles adds = adds
  adds_on words.ScrubDeep input ended after settles adds = adds
  adds_on words.Script input ended after settles (inl lines) = inl (lines_on input ended after lines)
  adds_on words.Script input ended after settles (inr refused) = inr refused
  adds_on (words.Make seed count) input ended after settles adds = adds
  adds_on command input ended after settles adds = absurd settles

-- of a command that settles first
adds_of : (command : Words) (s : Cartridge) (input : List ℕ) (ended : Ended) (plain : Plain) (after : Option Plain) → SettlesFirst command →
    Becomes command (Some s) input ended (Some plain) after → Adds command s input plain ended after
adds_of words.Info s input ended plain after settles becomes = becomes
adds_of words.List s input ended plain after settles becomes = becomes
adds_of (words.Append name date) s input ended plain after settles becomes = becomes
adds_of (words.Restore number) s input ended plain after settles becomes = becomes
adds_of words.Scrub s input ended plain after settles becomes = becomes
adds_of words.ScrubDeep s input ended plain after settles becomes = becomes
adds_of words.Script s input ended plain after settles becomes = becomes
adds_of (words.Make seed count) s input ended plain after settles becomes = becomes
adds_of command s input ended plain after settles becomes = absurd settles

begun_still : (command : Words) (ended : Ended) (begun : Bool) → SettlesFirst command → begun_by command ended begun ≡ begun
begun_still words.Info ended begun settles = refl
begun_still words.List ended begun settles = refl
begun_still (words.Append name date) ended begun settles = refl
begun_still (words.Restore number) ended begun settles = refl
begun_still words.Scrub ended begun settles = refl
begun_still words.ScrubDeep ended begun settles = refl
begun_still words.Script ended begun settles = refl
begun_still (words.Make seed count) ended begun settles = refl
begun_still command ended begun settles = absurd settles

-- a command that adds volumes settles first, keeps the header copies, and that the table's segment takes writes
adding_settles : (command : Words) → AddsVolumes command → SettlesFirst command
adding_settles (words.Append name date) adds = tt
adding_settles (words.Make seed count) adds = tt
adding_settles words.Script adds = tt
adding_settles command adds = absurd adds

adding_keeps : (command : Words) (s : Cartridge) → AddsVolumes command → KeepsCopies command s × KeepsLive command
adding_keeps (words.Append name date) s adds = (tt, tt)
adding_keeps (words.Make seed count) s adds = (tt, tt)
adding_keeps words.Script s adds = (tt, tt)
adding_keeps command s adds = absurd adds

-- ---- one turn

-- what comes back mounts
now_back : (is_open begun : Bool) (c : Cartridge) (plain : Plain) → IsNow is_open begun (Some c) (Some plain) → IsBackWith begun c plain
now_back true begun c plain now = now
now_back false begun c plain (sound, reads) = sound_is_back begun c plain sound reads

-- what is left comes back
open_now : (begun : Bool) (left : Option Cartridge) (plain : Plain) → IsSomeAnd left (λ d. IsBackWith begun d plain) →
    IsNow true begun left (Some plain)
open_now begun None plain back = absurd back
open_now begun (Some d) plain back = back

now_reopens : (is_open begun : Bool) (held : Option Cartridge) (plain : Option Plain) → IsNow is_open begun held plain → Reopens held plain
now_reopens false begun held plain (sound, reads) = reopens_of begun held plain sound reads
now_reopens true begun None plain now = absurd now
now_reopens true begun (Some c) None now = absurd now
now_reopens true begun (Some c) (Some plain) now = back_mounts begun c plain now

-- what a turn makes of the volumes, and what the next one may rely on
abbrev pub TurnMakes : Turn → (begun : Bool) (held left : Option Cartridge) (before : Option Plain) → Type 0
TurnMakes turn begun held left before =
    (after : Option Plain) × TurnBecomes turn held before after × IsNow (is_open_behind turn) (begun_after turn begun) left after

module _ (begun : Bool) (c : Cartridge) (plain : Plain) (left : Option Cartridge) (back : IsBackWith begun c plain) where
  abbrev s : Cartridge
  s = settled plain.table_area c

  twice : settled plain.table_area s ≡ s
  twice = settled_twice c plain.table_area (back_mounts begun c plain back).reads

  -- the first run that goes by what was settled
  opens_makes : (run : Run) → OpensFirst run begun left c → TurnMakes (Opens run) begun (Some c) left (Some plain)
  opens_makes run opens =
      let over : RunsOver run begun s left = opens.behind plain (back_mounts begun c plain back) in
      let known : IsSettledSound begun s plain = back_settles begun c plain back opens.free in
      let now = event_makes (Runs run) begun (Some s) left (Some plain) known.sound (over.ran, over.within) in
      let reads : CanReopen left now.0 =
      event_reopens (Runs run) begun (Some s) left (Some plain) now.0 known.sound known.reads (over.ran, over.within) over.table now.2 in (
        now.0,
        adds_on c s plain twice run.command run.input run.ended now.0 opens.settles
            (adds_of run.command s run.input run.ended plain now.0 opens.settles now.1),
        (subst (λ (b : Bool). IsSound b left now.0) (begun_still run.command run.ended begun opens.settles) now.2, reads),
      )

  -- one that is stopped while it settles
  settling_of : (ended : Ended) → StopsInSettling ended c plain.table_area left → Torn (settling_steps plain.table_area c) (Some c) left
  settling_of (Answered answer printed) stops = absurd stops
  settling_of (Stopped (Some printed)) stops = stops.1
  settling_of (Stopped None) stops = stops

  stops_makes : (run : Run) → StopsWhileSettling run left c → TurnMakes (StopsSettling run) begun (Some c) left (Some plain)
  stops_makes run stops = (
    Some plain,
    refl,
    open_now begun left plain (settling_back begun c plain left back stops.free
        (settling_of run.ended (stops.stops plain (back_mounts begun c plain back)))),
  )

  -- what comes between
  passes_makes : (event : Event) → PassesBy event left c → TurnMakes (Passes event) begun (Some c) left (Some plain)
  passes_makes (Runs run) (ran, between) = (
    Some plain,
    refl,
    open_now begun left plain (steps_back (steps_of ran.outcome.acts) begun c plain left between back
        (torn_by run.ended ran.outcome (Some c) left ran.leaves)),
  )
  passes_makes (Loses segment sector) (behind, small, is) = (
    Some plain,
    refl,
    open_now begun left plain (some_and (λ d. IsBackWith begun d plain) (worn segment sector c) left
        (worn_back begun c plain segment sector behind small back) is),
  )

  -- a run behind whose settling a sector is lost
  loses_makes : (run : Run) (sector : ℕ) → LosesOneBehind run sector begun left c →
      TurnMakes (LosesBehind run sector) begun (Some c) left (Some plain)
  loses_makes run sector loses =
      let over : RunsOver run begun s (Some loses.next) = loses.behind plain (back_mounts begun c plain back) in
      let known : IsSettledSound begun s plain = back_settles begun c plain back loses.free in
      let torn : Torn (steps_of over.ran.outcome.acts) (Some s) (Some loses.next) =
      torn_by run.ended over.ran.outcome (Some s) (Some loses.next) over.ran.leaves in
      let keeps = adding_keeps run.command s loses.adds in
      let whole : IsCartridge loses.next =
      leaves_whole run.command (Some s) (Some loses.next) run.input over.ran.outcome over.ran.values over.within.bytes known.sound.whole
      over.ran.plain torn in
      let live : IsTableLive loses.next =
      steps_keep_live (steps_of over.ran.outcome.acts) s (Some loses.next)
      (only_new_renews run.command (Some s) run.input over.ran.outcome keeps.1 over.ran.plain) known.sound.live torn in
      let clean : begun ≡ false → HasCleanCopies loses.next plain.header_area =
      λ is. copies_stay_clean run.command s run.input over.ran.outcome plain.header_area (Some loses.next) keeps.0 over.ran.plain
      known.sound.stands.whole.header_area (known.sound.clean is) torn in
      let f : Cartridge = worn 2 sector loses.next in
      let makes : LossMakes run.command s run.input plain run.ended f =
      loss_makes run.command begun s plain known twice run.input loses.next f sector (loses_one loses.next sector live loses.small)
      loses.adds over.ran.values over.within.bytes over.ran.outcome over.ran.plain whole run.ended over.within.spares over.table
      over.ran.leaves in (
        Some makes.0,
        adds_on c s plain twice run.command run.input run.ended (Some makes.0) (adding_settles run.command loses.adds) makes.1,
        open_now begun left makes.0 (some_and (λ d. IsBackWith begun d makes.0) f left (record {
          whole = worn_whole loses.next 2 sector whole;
          comes = subst (λ (d : Cartridge). ComesBackAs d makes.0) (sym (unmarked f loses.still_free)) makes.3;
          live = steps_keep_live (Wear 2 sector ∷ []) loses.next (Some f) (tt, tt) live (inr (inr refl));
          clean = λ is. subst (λ (area : List (List ℕ)). HasCleanCopies f area) (sym makes.2)
              (less_clean loses.next f plain.header_area (worn_reads_no_more loses.next 2 sector) (clean is));
        }) loses.lost),
      )

pub turn_makes : (turn : Turn) (is_open begun : Bool) (held left : Option Cartridge) (before : Option Plain) →
    IsNow is_open begun held before → FitsIn is_open turn → TurnHappens turn begun held left → TurnMakes turn begun held left before
turn_makes (Usual event) true begun held left before now fits happens = absurd (cc)
turn_makes (Usual event) false begun held left before (sound, reads) fits (happens, table) =
    let made = event_makes event begun held left before sound happens in
    (made.0, made.1, (made.2, event_reopens event begun held left before made.0 sound reads happens table made.2))
turn_makes (LosesBehind run sector) is_open begun None left before now fits happens = absurd happens
turn_makes (Passes event) is_open begun None left before now fits happens = absurd happens
turn_makes (StopsSettling run) is_open begun None left before now fits happens = absurd happens
turn_makes (Opens run) is_open begun None left before now fits happens = absurd happens
turn_makes (LosesBehind run sector) true begun (Some c) left None now fits happens = absurd now
turn_makes (LosesBehind run sector) false begun (Some c) left None (sound, reads) fits happens =
    let plain : Plain = happens.mounts.0 in
    let same : NotFormatted ≡ mounted_as plain =
    mounts_is_function c NotFormatted (mounted_as plain) (inr (sound.first, sound.second)) happens.mounts.1 in
    absurd (cc)
turn_makes (Passes event) true begun (Some c) left None now fits happens = absurd now
turn_makes (Passes event) false begun (Some c) left before now fits happens = absurd (cc)
turn_makes (StopsSettling run) true begun (Some c) left None now fits happens = absurd now
turn_makes (StopsSettling run) false begun (Some c) left before now fits happens = absurd (cc)
turn_makes (Opens run) true begun (Some c) left None now fits happens = absurd now
turn_makes (Opens run) false begun (Some c) left before now fits happens = absurd (cc)
turn_makes (LosesBehind run sector) is_open begun (Some c) left (Some plain) now fits happens =
    loses_makes begun c plain left (now_back is_open begun c plain now) run sector happens
turn_makes (Passes event) true begun (Some c) left (Some plain) now fits happens =
    passes_makes begun c plain left now event happens
turn_makes (StopsSettling run) true begun (Some c) left (Some plain) now fits happens =
    stops_makes begun c plain left now run happens
turn_makes (Opens run) true begun (Some c) left (Some plain) now fits happens = opens_makes begun c plain left now run happens

-- ---- a life

pub a_life_with_one_loss : ALifeWithOneLoss
a_life_with_one_loss [] is_open begun held left before now life =
    (before, refl, subst (λ (o : Option Cartridge). IsNow is_open begun o before) (sym life) now)
a_life_with_one_loss (turn ∷ turns) is_open begun held left before now life =
    let made = turn_makes turn is_open begun held life.0 before now life.1 life.2 in
    let rest = a_life_with_one_loss turns (is_open_behind turn) (begun_after turn begun) life.0 left made.0 made.2 life.3 in (
      rest.0,
      (made.0, made.1, made.2, now_reopens (is_open_behind turn) (begun_after turn begun) life.0 made.0 made.2, rest.1),
      rest.2,
    )
