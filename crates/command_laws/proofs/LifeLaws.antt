-- What a life makes of the volumes: what each run makes of them, one after the other.
use Rattle.std.proofs.Common.{◌≡◌, ◌<◌, ℕ, All, inr, List, [], ◌∷◌, sym, subst, refl, Bool, Option, Some, None, IfSome}
use Rattle.cartridge_laws.proofs.ChangeClean.{clean_less, worn_is_bare}
use Rattle.cartridge_laws.proofs.ChangeLive.{steps_keep_live}
use Rattle.cartridge_laws.proofs.ChangeStanding.{worn_stands}
use Rattle.cartridge_laws.proofs.ChangeViews.{worn_reads_no_more}
use Rattle.cartridge_spec.specs.Volumes.{Plain, worn}
use Rattle.command_laws.proofs.CommandAppends.{can_append}
use Rattle.command_laws.proofs.CommandLeft.{leaves_whole}
use Rattle.command_laws.proofs.CommandTable.{only_new_renews}
use Rattle.command_laws.proofs.LifeFormats.{Makes, format_makes, new_makes, torn_by}
use Rattle.command_laws.proofs.LifeRuns.{append_makes, keeping, make_makes, none_of_none, script_makes, without_stays, others_keep_live}
use Rattle.command_laws.proofs.CommandUnread.{worn_neither}
use Rattle.command_laws.proofs.WholeSteps.{worn_whole}
use Rattle.command_laws.specs.AppendTerms.{content_with}
use Rattle.command_laws.specs.Life.{ALife, CommandSpares, Ended, Event, EventBecomes, Happens, IsSound, Leaves, LossSpares, Loses, MayEnd}
use Rattle.command_laws.specs.Life.{Runs, begun_behind, begun_by}
use Rattle.command_spec.specs.Machine.{HasValues}
use Rattle.command_laws.specs.CommandFields.{Yields}
use Rattle.command_spec.specs.Outcome.{CommandOutcome}
use Rattle.command_spec.specs.declared.words.Words.{Words}
use Rattle.qic_base.specs.Acts.{steps_of}
use Rattle.qic_base.specs.Cartridge.{Cartridge}
use Rattle.qic_base.specs.CartridgeTerms.{IsCartridge}
use Rattle.qic_base.specs.Step.{Wear, effect}
use Rattle.cartridge_laws.specs.HeaderTerms.{NeitherReads}
use Rattle.command_spec.specs.declared.words.Words.TheVariants as words

-- ---- a run

command_makes : (command : Words) (input : List ℕ) (ended : Ended) (begun : Bool) (held left : Option Cartridge) (before : Option Plain)
    (outcome : CommandOutcome) →
    IsSound begun held before → HasValues command → All (λ b. b < 256) input → Yields command held input outcome →
    Leaves ended outcome held left → IfSome left IsCartridge →
    IfSome held (CommandSpares command ended input left) → MayEnd command ended begun → Makes command input ended begun held left before
command_makes (words.New segments) input ended begun held left before outcome sound values bytes yields leaves whole spares may =
    new_makes segments input ended begun held left before outcome sound yields leaves whole
command_makes (words.Format label date) input ended begun (Some c) left before outcome sound values bytes yields leaves whole spares may =
    format_makes label date input ended begun c left before outcome sound may yields leaves whole
command_makes command input ended begun None left (Some plain) outcome sound values bytes yields leaves whole spares may = absurd sound
command_makes command input ended begun None left None outcome sound values bytes yields leaves whole spares may =
    let none : left ≡ None =
    none_of_none (steps_of outcome.acts) left
    (only_new_renews command None input outcome (others_keep_live command (λ segments is. cc)) yields)
    (torn_by ended outcome None left leaves) in
    (None, refl, subst (λ (o : Option Cartridge). IsSound (begun_by command ended begun) o None) (sym none) tt)
command_makes command input ended begun (Some c) left None outcome sound values bytes yields leaves whole spares may = (
  None,
  refl,
  without_stays command ended c input begun left outcome tt spares sound yields (torn_by ended outcome (Some c) left leaves) whole,
)
command_makes (words.Append name date) input ended begun (Some c) left (Some plain) outcome sound values bytes yields leaves whole spares
    may =
    append_makes (content_with name date input) c begun plain left outcome (can_append values bytes) sound yields whole ended leaves
command_makes (words.Make seed count) input ended begun (Some c) left (Some plain) outcome sound values bytes yields leaves whole spares
    may =
    make_makes seed count c input begun plain left outcome values sound yields whole ended leaves
command_makes words.Script input ended begun (Some c) left (Some plain) outcome sound values bytes yields leaves whole spares may =
    script_makes c input begun plain left outcome bytes sound yields whole ended spares leaves
command_makes (words.Lose segment sector) input ended begun (Some c) left (Some plain) outcome sound values bytes yields leaves whole spares
    may = (
      Some plain,
      refl,
      keeping (words.Lose segment sector) c input begun plain left outcome (λ segments is. cc)
          (λ place. (spares place).volumes plain sound.stands) tt sound yields
          (torn_by ended outcome (Some c) left leaves) whole,
    )
command_makes command input ended begun (Some c) left (Some plain) outcome sound values bytes yields leaves whole spares may = (
  Some plain,
  refl,
  keeping command c input begun plain left outcome (λ segments is. cc) tt tt sound yields
      (torn_by ended outcome (Some c) left leaves) whole,
)

-- ---- a sector that is lost between runs

worn_sound : (segment sector : ℕ) (begun : Bool) (c : Cartridge) (before : Option Plain) → sector < 32 →
    IsCartridge (worn segment sector c) → LossSpares c segment sector →
    IsSound begun (Some c) before → IsSound begun (Some (worn segment sector c)) before
worn_sound segment sector begun c None small whole spares sound =
    let none : NeitherReads (worn segment sector c) = worn_neither c segment sector small (spares.copies sound.first sound.second)
    (sound.first, sound.second) in
    record { whole = whole; first = none.0; second = none.1; bare = λ is. worn_is_bare c segment sector (sound.bare is) }
worn_sound segment sector begun c (Some plain) small whole spares sound = record {
  whole = whole;
  stands = worn_stands c plain segment sector small sound.stands (spares.volumes plain sound.stands);
  live = steps_keep_live (Wear segment sector ∷ []) c (Some (worn segment sector c)) (tt, tt) sound.live (inr (inr refl));
  clean = λ is. record {
    first = clean_less c (worn segment sector c) 0 plain.header_area (worn_reads_no_more c segment sector) (sound.clean is).first;
    second = clean_less c (worn segment sector c) 1 plain.header_area (worn_reads_no_more c segment sector) (sound.clean is).second;
  };
}

-- what is sound is whole
pub sound_whole : (begun : Bool) (held : Option Cartridge) (before : Option Plain) → IsSound begun held before → IfSome held IsCartridge
sound_whole begun None before sound = tt
sound_whole begun (Some c) None sound = sound.whole
sound_whole begun (Some c) (Some plain) sound = sound.whole

pub lost_sound : (segment sector : ℕ) (begun : Bool) (held left : Option Cartridge) (before : Option Plain) → sector < 32 →
    left ≡ effect (Wear segment sector) held →
    IfSome held (λ c. LossSpares c segment sector) → IsSound begun held before → IsSound begun left before
lost_sound segment sector begun None left before small is spares sound = subst (λ (o : Option Cartridge). IsSound begun o before)
    (sym is) sound
lost_sound segment sector begun (Some c) left before small is spares sound =
    subst (λ (o : Option Cartridge). IsSound begun o before) (sym is)
    (worn_sound segment sector begun c before small (worn_whole c segment sector (sound_whole begun (Some c) before sound)) spares sound)

-- ---- a life

pub event_makes : (event : Event) (begun : Bool) (held left : Option Cartridge) (before : Option Plain) → IsSound begun held before →
    Happens event begun held left →
    (after : Option Plain) × EventBecomes event held before after × IsSound (begun_behind event begun) left after
event_makes (Runs run) begun held left before sound ran =
    let did = ran.0 in
    let within = ran.1 in
    command_makes run.command run.input run.ended begun held left before did.outcome sound did.values within.bytes did.plain did.leaves
    (leaves_whole run.command held left run.input did.outcome did.values within.bytes (sound_whole begun held before sound) did.plain
    (torn_by run.ended did.outcome held left did.leaves))
    within.spares within.may_end
event_makes (Loses segment sector) begun held left before sound lost =
    (before, refl, lost_sound segment sector begun held left before lost.0 lost.1 lost.2 sound)

pub a_life : ALife
a_life [] begun held left before sound life = (before, refl, subst (λ (o : Option Cartridge). IsSound begun o before) (sym life) sound)
a_life (event ∷ events) begun held left before sound life =
    let now = event_makes event begun held life.0 before sound life.1 in
    let rest = a_life events (begun_behind event begun) life.0 left now.0 now.2 life.2 in
    (rest.0, (now.0, now.1, now.2, rest.1), rest.2)
