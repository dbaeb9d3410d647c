-- Behind each event of a life in which no sector of the table's segment is lost beside what a stop takes, the cartridge mounts.
use Rattle.std.proofs.Common.{◌≡◌, ◌≢◌, ◌<◌, ℕ, All, inr, List, [], ◌∷◌, sym, subst, refl, Bool, Option, Some, None, IfSome}
use Rattle.cartridge_laws.proofs.FormatWriting.{some_and}
use Rattle.cartridge_laws.proofs.MountStanding.{standing_mounts}
use Rattle.cartridge_spec.specs.TableSegment.{CanBeRead}
use Rattle.cartridge_spec.specs.Volumes.{Plain, worn}
use Rattle.command_laws.proofs.LifeLaws.{event_makes, lost_sound, sound_whole}
use Rattle.command_laws.proofs.LifeFormats.{torn_by}
use Rattle.command_laws.proofs.LifeReopening.{format_reopens, new_reopens, reopen, reopen_without, with_list}
use Rattle.command_laws.proofs.LifeRuns.{none_of_none, others_keep_live, without_stays}
use Rattle.command_laws.proofs.CommandLeft.{leaves_whole}
use Rattle.command_laws.proofs.CommandTable.{only_new_renews}
use Rattle.command_laws.proofs.ReadableProtected.{worn_reads}
use Rattle.command_laws.specs.CommandFields.{Yields}
use Rattle.command_laws.specs.Life.{CommandSpares, Ended, Event, Happens, IsSound, Leaves, Loses, MayEnd, Runs, begun_behind, begun_by}
use Rattle.command_laws.specs.LifeReopens.{AReopeningLife, CanReopen, EventSparesTable, Reopens, SparesTable}
use Rattle.command_spec.specs.Machine.{HasValues}
use Rattle.command_spec.specs.Outcome.{CommandOutcome}
use Rattle.command_spec.specs.declared.words.Words.{Words}
use Rattle.qic_base.specs.Acts.{steps_of}
use Rattle.qic_base.specs.Cartridge.{Cartridge}
use Rattle.qic_base.specs.CartridgeTerms.{IsCartridge}
use Rattle.qic_base.specs.Step.{Torn, Wear, effect}
use Rattle.command_spec.specs.declared.words.Words.TheVariants as words

-- ---- a run

run_reopens : (command : Words) (input : List ℕ) (ended : Ended) (begun other : Bool) (held left : Option Cartridge)
    (before after : Option Plain) (outcome : CommandOutcome) →
    IsSound begun held before → CanReopen held before → HasValues command → All (λ b. b < 256) input → Yields command held input outcome →
    Leaves ended outcome held left →
    IfSome left IsCartridge → IfSome held (CommandSpares command ended input left) → IfSome held (SparesTable command ended input left) →
    MayEnd command ended begun →
    IsSound other left after → CanReopen left after
run_reopens (words.New segments) input ended begun other held left before after outcome sound reads values bytes yields leaves whole spares
    table may now =
    new_reopens segments begun other held left before after sound reads now
    (subst (λ (o : CommandOutcome). Torn (steps_of o.acts) held left) yields (torn_by ended outcome held left leaves))
run_reopens (words.Format label date) input ended begun other (Some c) left before after outcome sound reads values bytes yields leaves
    whole spares table may now =
    format_reopens label date ended c begun other before after left outcome sound reads now may yields leaves
run_reopens command input ended begun other None left (Some plain) after outcome sound reads values bytes yields leaves whole spares table
    may now = absurd sound
run_reopens command input ended begun other None left None after outcome sound reads values bytes yields leaves whole spares table may now =
    let none : left ≡ None =
    none_of_none (steps_of outcome.acts) left
    (only_new_renews command None input outcome (others_keep_live command (λ segments is. cc)) yields)
    (torn_by ended outcome None left leaves) in
    subst (λ (o : Option Cartridge). CanReopen o after) (sym none) tt
run_reopens command input ended begun other (Some c) left None after outcome sound reads values bytes yields leaves whole spares table may
    now =
    reopen_without (begun_by command ended begun) other left after
    (without_stays command ended c input begun left outcome tt spares sound yields (torn_by ended outcome (Some c) left leaves) whole) now
run_reopens command input ended begun other (Some c) left (Some plain) after outcome sound reads values bytes yields leaves whole spares
    table may now =
    reopen left after
    (with_list command input ended begun c left plain outcome (λ segments is. cc)
    (λ label date is. cc) values bytes sound reads yields leaves spares table)

-- ---- a sector that is lost between runs

lost_reopens : (segment sector : ℕ) (begun : Bool) (held left : Option Cartridge) (before after : Option Plain) →
    IsSound begun held before → CanReopen held before →
    sector < 32 → left ≡ effect (Wear segment sector) held → segment ≢ 2 → IsSound begun left before → IsSound begun left after →
    CanReopen left after
lost_reopens segment sector begun None left before after sound reads small is other still now =
    subst (λ (o : Option Cartridge). CanReopen o after) (sym is) tt
lost_reopens segment sector begun (Some c) left None after sound reads small is other still now =
    reopen_without begun begun left after still now
lost_reopens segment sector begun (Some c) left (Some plain) after sound reads small is other still now =
    reopen left after (some_and CanBeRead (worn segment sector c) left (worn_reads c segment sector other small reads) is)

-- ---- a life

pub event_reopens : (event : Event) (begun : Bool) (held left : Option Cartridge) (before after : Option Plain) →
    IsSound begun held before →
    CanReopen held before →
    Happens event begun held left → EventSparesTable event held left → IsSound (begun_behind event begun) left after → CanReopen left after
event_reopens (Runs run) begun held left before after sound reads ran table now =
    let did = ran.0 in
    let within = ran.1 in
    run_reopens run.command run.input run.ended begun (begun_behind (Runs run) begun) held left before after did.outcome sound reads
    did.values within.bytes did.plain did.leaves
    (leaves_whole run.command held left run.input did.outcome did.values within.bytes (sound_whole begun held before sound) did.plain
    (torn_by run.ended did.outcome held left did.leaves))
    within.spares table within.may_end now
event_reopens (Loses segment sector) begun held left before after sound reads lost table now =
    lost_reopens segment sector begun held left before after sound reads lost.0 lost.1 table
    (lost_sound segment sector begun held left before lost.0 lost.1 lost.2 sound) now

pub reopens_of : (begun : Bool) (held : Option Cartridge) (plain : Option Plain) → IsSound begun held plain → CanReopen held plain →
    Reopens held plain
reopens_of begun None plain sound reads = tt
reopens_of begun (Some c) None sound reads = inr (sound.first, sound.second)
reopens_of begun (Some c) (Some plain) sound reads = standing_mounts c plain sound.stands reads

pub a_reopening_life : AReopeningLife
a_reopening_life [] begun held left before sound reads life spares = (
  before,
  refl,
  subst (λ (o : Option Cartridge). IsSound begun o before) (sym life) sound,
  subst (λ (o : Option Cartridge). CanReopen o before) (sym life) reads,
)
a_reopening_life (event ∷ events) begun held left before sound reads life spares =
    let now = event_makes event begun held life.0 before sound life.1 in
    let still : CanReopen life.0 now.0 = event_reopens event begun held life.0 before now.0 sound reads life.1 spares.0 now.2 in
    let rest = a_reopening_life events (begun_behind event begun) life.0 left now.0 now.2 still life.2 spares.1 in (
      rest.0,
      (now.0, now.1, now.2, reopens_of (begun_behind event begun) life.0 now.0 now.2 still, rest.1),
      rest.2,
      rest.3,
    )
