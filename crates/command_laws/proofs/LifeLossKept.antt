-- Volumes in a life in which a loss may be open: they are kept, and given back.
use Rattle.std.proofs.Common.{◌≡◌, ◌∙◌, ◌⊎◌, ℕ, suc, Bool, true, false, List, [], ◌∷◌, Option, Some, None, inl, inr, ap, slice_get}
use Rattle.std.proofs.Common.{subst, sym}
use Rattle.cartridge_laws.proofs.MountSettled.{settled_keeps_table}
use Rattle.cartridge_spec.specs.Mounting.{settled}
use Rattle.cartridge_spec.specs.Volumes.{Plain, Volume, entries_of, volume_bytes}
use Rattle.command_laws.proofs.LifeBack.{IsSettledSound, back_mounts, back_settles}
use Rattle.command_laws.proofs.LifeGrowing.{GrownTo, command_grows, front_get, gives_bytes, grown_both, grown_none, same_list}
use Rattle.command_laws.proofs.LifeOneLoss.{turn_makes}
use Rattle.command_laws.proofs.RestoreGivenBack.{few_alike, given, given_whole, pieces_elsewhere}
use Rattle.command_laws.proofs.SettledRuns.{outcomes_over_settled}
use Rattle.command_laws.specs.Life.{Loses, Runs}
use Rattle.command_laws.specs.LifeLaws.{HasGrown, IsKeeping}
use Rattle.command_laws.specs.LifeOneLoss.{AddsVolumes}
use Rattle.command_laws.specs.SettledRuns.{SettlesFirst}
use Rattle.command_laws.specs.LifeOneLoss.{FitsIn, GivesAtOnce, IsBackWith, IsNow, KeepsVolumesSo, LosesBehind, Opens, Passes}
use Rattle.command_laws.specs.LifeOneLoss.{StopsSettling, Turn, TurnBecomes, TurnHappens, Usual, VolumesAreGivenBackSo}
use Rattle.command_laws.specs.LifeOneLoss.{VolumesAreKeptSo, begun_after, begun_after_all, is_open_behind, is_open_behind_all}
use Rattle.command_spec.specs.Restore.{HasNumber, pieces_in}
use Rattle.command_spec.specs.declared.words.Words.{Words}
use Rattle.qic_base.specs.Cartridge.{Cartridge}
use Rattle.command_spec.specs.declared.words.Words.TheVariants as words

-- ---- what a turn keeps

adding_keeps_on : (command : Words) → AddsVolumes command → IsKeeping command
adding_keeps_on (words.Append name date) adds = tt
adding_keeps_on (words.Make seed count) adds = tt
adding_keeps_on words.Script adds = tt
adding_keeps_on command adds = absurd adds

settling_keeps_on : (command : Words) → SettlesFirst command → IsKeeping command
settling_keeps_on words.Info settles = tt
settling_keeps_on words.List settles = tt
settling_keeps_on (words.Append name date) settles = tt
settling_keeps_on (words.Restore number) settles = tt
settling_keeps_on words.Scrub settles = tt
settling_keeps_on words.ScrubDeep settles = tt
settling_keeps_on words.Script settles = tt
settling_keeps_on (words.Make seed count) settles = tt
settling_keeps_on command settles = absurd settles

turn_grows : (turn : Turn) (begun : Bool) (c : Cartridge) (left : Option Cartridge) (plain : Plain) (after : Option Plain) →
    KeepsVolumesSo turn → TurnHappens turn begun (Some c) left → TurnBecomes turn (Some c) (Some plain) after → GrownTo plain after
turn_grows (Usual (Runs run)) begun c left plain after keeping happens becomes =
    command_grows run.command c run.input run.ended plain after keeping becomes
turn_grows (Usual (Loses segment sector)) begun c left plain after keeping happens becomes = same_list plain after becomes
turn_grows (LosesBehind run sector) begun c left plain after keeping happens becomes =
    command_grows run.command c run.input run.ended plain after (adding_keeps_on run.command happens.adds) becomes
turn_grows (Passes event) begun c left plain after keeping happens becomes = same_list plain after becomes
turn_grows (StopsSettling run) begun c left plain after keeping happens becomes = same_list plain after becomes
turn_grows (Opens run) begun c left plain after keeping happens becomes =
    command_grows run.command c run.input run.ended plain after (settling_keeps_on run.command happens.settles) becomes

-- what stands behind it
record NextNow (turn : Turn) (begun : Bool) (plain : Plain) (left : Option Cartridge) : Type 0 where
  later : Plain
  grown : HasGrown plain later
  now : IsNow (is_open_behind turn) (begun_after turn begun) left (Some later)

next_now : (turn : Turn) (is_open begun : Bool) (held left : Option Cartridge) (plain : Plain) → KeepsVolumesSo turn →
    IsNow is_open begun held (Some plain) → FitsIn is_open turn → TurnHappens turn begun held left → NextNow turn begun plain left
next_now turn true begun None left plain keeping now fits happens = absurd now
next_now turn false begun None left plain keeping now fits happens = absurd now.0
next_now turn is_open begun (Some c) left plain keeping now fits happens =
    let made = turn_makes turn is_open begun (Some c) left (Some plain) now fits happens in
    let to : GrownTo plain made.0 = turn_grows turn begun c left plain made.0 keeping happens made.1 in
    record {
      later = to.later;
      grown = to.grown;
      now = subst (λ (o : Option Plain). IsNow (is_open_behind turn) (begun_after turn begun) left o) to.is made.2;
    }

pub volumes_are_kept_so : VolumesAreKeptSo
volumes_are_kept_so [] is_open begun held left plain keeping now life =
    (plain, grown_none plain, subst (λ (o : Option Cartridge). IsNow is_open begun o (Some plain)) (sym life) now)
volumes_are_kept_so (turn ∷ turns) is_open begun held left plain keeping now life =
    let next = next_now turn is_open begun held life.0 plain keeping.0 now life.1 life.2 in
    let rest = volumes_are_kept_so turns (is_open_behind turn) (begun_after turn begun) life.0 left next.later keeping.1 next.now life.3 in
    (rest.0, grown_both plain next.later rest.0 next.grown rest.1, rest.2)

-- ---- what is given back

-- over what comes back
open_gives : (begun : Bool) (c : Cartridge) (plain later : Plain) (place : ℕ) (volume : Volume) → IsBackWith begun c later →
    c.info.protected ≡ false → HasGrown plain later → slice_get plain.volumes place ≡ Some volume →
    GivesAtOnce c later (suc place) volume (volume_bytes plain.words volume)
open_gives begun c plain later place volume back free grown at input outcome few yields =
    let mounts = back_mounts begun c later back in
    let s : Cartridge = settled later.table_area c in
    let known : IsSettledSound begun s later = back_settles begun c later back free in
    let over = outcomes_over_settled (words.Restore (suc place)) c later.header later.words later.table_area
    (entries_of later) input outcome
    tt back.live mounts yields in
    let there : slice_get later.volumes place ≡ Some volume =
    ap (λ (vs : List Volume). slice_get vs place) grown.volumes ∙ front_get plain.volumes grown.more place volume at in
    let has : HasNumber s later (suc place) volume = record { stands = known.sound.stands; reads = known.reads; is = there } in
    let fewer = few_alike c s later.words (pieces_in later volume)
    (pieces_elsewhere (suc place) s later volume has c s (settled_keeps_table c later.table_area mounts.reads).others) few in
    let whole = given_whole (suc place) s later volume over.over has (given (suc place) s later volume over.over has over.plain) fewer in
    (sym over.status ∙ whole.0, sym over.output ∙ whole.1 ∙ ap (λ (ws : List ℕ). volume_bytes ws volume) grown.words)

now_gives : (is_open begun : Bool) (c : Cartridge) (plain later : Plain) (place : ℕ) (volume : Volume) →
    IsNow is_open begun (Some c) (Some later) → (is_open ≡ false) ⊎ (c.info.protected ≡ false) → HasGrown plain later →
    slice_get plain.volumes place ≡ Some volume → GivesAtOnce c later (suc place) volume (volume_bytes plain.words volume)
now_gives false begun c plain later place volume (sound, reads) either grown at input outcome few yields =
    gives_bytes c plain later place volume sound.stands grown at input outcome reads few yields
now_gives true begun c plain later place volume back (inl is) grown at input outcome few yields = absurd (cc)
now_gives true begun c plain later place volume back (inr free) grown at input outcome few yields =
    open_gives begun c plain later place volume back free grown at input outcome few yields

pub volumes_are_given_back_so : VolumesAreGivenBackSo
volumes_are_given_back_so turns is_open begun held c plain place volume keeping now at life either =
    let kept = volumes_are_kept_so turns is_open begun held (Some c) plain keeping now life in (
      kept.0,
      kept.1,
      kept.2,
      now_gives (is_open_behind_all turns is_open) (begun_after_all turns begun) c plain kept.0 place volume kept.2 either kept.1 at,
    )
