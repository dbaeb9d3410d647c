-- What scripts leave of the plain cartridge that a cartridge stands for.
use Rattle.std.proofs.Common.{◌≡◌, inl, inr, ℕ, ◌⊎◌, Some, subst, ◌+◌, List, [], ◌∷◌, ◌++◌, Option, IsSomeAnd, refl, ap, ◌∙◌}
use Rattle.std.proofs.Common.{sym, length, arith, ◌≤◌, take, IfSome}
use Rattle.std.proofs.lemmas.List.{length-append}
use Rattle.cartridge_laws.proofs.FormatWriting.{effects-some, some_and}
use Rattle.cartridge_laws.proofs.MountKeeping.{stopped_stands}
use Rattle.cartridge_spec.specs.Mounting.{Mounts, mounted_as, settled}
use Rattle.cartridge_spec.specs.TableSegment.{IsTableLive}
use Rattle.cartridge_spec.specs.Settling.{changed_by, settling_steps}
use Rattle.cartridge_spec.specs.Volumes.{Plain, entries_of, Stands}
use Rattle.command_laws.proofs.CommandEnds.{Laws, told_whole}
use Rattle.command_laws.proofs.CommandOpened.{quiet}
use Rattle.command_laws.proofs.CommandSeveral.{WasTurned, behind_front, ends_ran, left_then, mounted_or_turned, stopped_first}
use Rattle.command_laws.proofs.CommandSeveral.{turned_left, untouched_now}
use Rattle.command_laws.proofs.CommandVolumes.{now_weaker, whole_of, done_now, each_weaker}
use Rattle.command_laws.proofs.MountedHeld.{settled_live, mounted_held}
use Rattle.command_laws.proofs.ScriptAnswered.{answered_behind, answered_between, done_script_stands, none_answered, stopped_script_stands}
use Rattle.command_laws.proofs.ScriptMachineLaws.{one_outcome as one_script}
use Rattle.command_laws.proofs.TextWords.{one_command}
use Rattle.command_laws.specs.ActStops.{IsLeftBy}
use Rattle.command_laws.specs.MountedHeld.{IsHeld}
use Rattle.command_laws.specs.ScriptStanding.{WentNoFurther}
use Rattle.command_spec.specs.Headline.{StopLeaves, WordsLeave, EachLeft}
use Rattle.command_spec.specs.Input.{Item}
use Rattle.command_spec.specs.Several.{IsHeard, FirstLinesSpare, Scripted, AllAnswered, LinesLeave, OverInput}
use Rattle.command_laws.specs.ScriptTerms.{SomeScripted}
use Rattle.command_laws.specs.Outcomes.{ScriptOutcome}
use Rattle.command_spec.specs.Machine.{Spells, CommandEnds}
use Rattle.command_spec.specs.Outcome.{CommandOutcome}
use Rattle.command_spec.specs.Script.{Scripting}
use Rattle.command_spec.specs.ScriptLists.{CameFurther, ItemsSpare, StandsAnswered, plain_behind}
use Rattle.command_spec.specs.declared.status.Status.{Status}
use Rattle.command_spec.specs.declared.words.Words.{Words}
use Rattle.qic_base.specs.Acts.{Act, steps_of, text_of, next_steps, Outside}
use Rattle.qic_base.specs.Cartridge.{Cartridge}
use Rattle.qic_base.specs.CartridgeTerms.{IsCartridge}
use Rattle.qic_base.specs.Step.{effects, Torn}
use Rattle.command_laws.proofs.CommandTold.{input_told, input_bytes}
use Rattle.qic_base.specs.SourceCalls.{input_of}
use Rattle.qic_base.specs.Tape as tapes
use Rattle.qic_base.specs.TapeCalls as tape_calls
use Rattle.qic_base.specs.Sink as sinks
use Rattle.qic_base.specs.Source as sources
use Rattle.command_spec.specs.Script as scripts
use Rattle.command_spec.specs.declared.words.Words.TheVariants as commands

-- what a stop in a script leaves is asked for its input; of other words nothing is
pub over_stop : (told : Option (List ℕ)) (words : List (List ℕ)) (command : Words) (held left : Option Cartridge) (P : List ℕ → Type 0) →
    Spells words command → StopLeaves told command held left →
    ((l : StopLeaves told commands.Script held left) → P l.input) → ((Spells words commands.Script → ⊥) → P (input_of told)) →
    OverInput told P
over_stop told words commands.Script held left P spelled l asked other = (l.input, l.is_told, l.bytes refl, asked l)
over_stop told words command held left P spelled l asked other = (
  input_of told,
  input_told told,
  input_bytes told,
  other (λ script. let same : command ≡ commands.Script = one_command words command commands.Script spelled script in cc),
)

-- any input, where nothing of a script was done
pub over_any : (told : Option (List ℕ)) (P : List ℕ → Type 0) → P (input_of told) → OverInput told P
over_any told P holds = (input_of told, input_told told, input_bytes told, holds)

module _ (input : List ℕ) (words : List (List ℕ)) (c : Cartridge) (plain : Plain) (whole : IsCartridge c)
    (script : Scripted input words c plain) where
  abbrev items : List Item
  items = script.does.items

  abbrev dids : List scripts.Did
  dids = script.does.dids

  -- its lines were carried out on the settled cartridge
  pub record ScriptRan (outcome : CommandOutcome) : Type 0 where
    pub mounts : Mounts c (mounted_as plain)
    pub held : IsHeld (settled plain.table_area c) plain
    pub acts : outcome.acts ≡ quiet (settling_steps plain.table_area c) ∷ script.outcome.acts

  pub script_course : (outcome : CommandOutcome) → ScriptOutcome (Some c) input outcome → WasTurned outcome ⊎ ScriptRan outcome
  script_course outcome opened =
      elim (mounted_or_turned (Scripting input) c plain outcome script.stands opened) [
        | inl turned ↦ inl turned
        | inr was ↦
            let did = was.did in
            let one : did.came ≡ script.outcome =
            one_script (settled plain.table_area c) plain.words (entries_of plain) input did.came script.outcome did.does script.does in
            inr (record {
              mounts = was.mounts;
              held = mounted_held c plain whole script.stands was.mounts;
              acts = ap (λ (o : CommandOutcome). o.acts) did.is
                  ∙ ap (λ (o : CommandOutcome). quiet (settling_steps plain.table_area c) ∷ o.acts) one;
            })
      ]

  abbrev StopsFurther : ℕ → Option Cartridge → Type 0
  StopsFurther count left = CameFurther (settled plain.table_area c) items dids script.does.last count left

  abbrev BehindSome : ℕ → Option Cartridge → Type 0
  BehindSome count left = (n : ℕ) × (n ≤ count) × IsSomeAnd left (λ d. Stands d (plain_behind plain (take n items) (take n dids)))

  -- a stop leaves the plain cartridge behind some of the lines, if it didn't come behind the first ones, which spare header and table
  pub script_stopped : (outcome : CommandOutcome) (left : Option Cartridge) → IsTableLive c → ScriptOutcome (Some c) input outcome →
      (count : ℕ) → FirstLinesSpare script count → Torn (steps_of outcome.acts) (Some c) left → StopsFurther count left
      ⊎ BehindSome count left
  script_stopped outcome left live does count spares torn =
      elim (script_course outcome does) [
        | inl turned ↦
            inr (
              0,
              omega arith,
              some_and (λ d. Stands d plain) c left script.stands
                  (subst (λ (o : CommandOutcome). Torn (steps_of o.acts) (Some c) left) turned.is torn),
            )
        | inr run ↦
            elim (stopped_first c plain whole script.stands run.mounts script.outcome.acts left
            (subst (λ (acts : List Act). Torn (steps_of acts) (Some c) left) run.acts torn)) [
              | inl stands ↦ inr (0, omega arith, stands)
              | inr behind ↦ stopped_script_stands (settled plain.table_area c) plain input script.outcome left run.held
                  (settled_live c plain.table_area run.mounts.reads live)
                  script.does script.bytes count spares.0 spares.1 behind
            ]
      ]

  -- once its input was carried out the plain cartridge behind all of the lines stands, also where sectors of the table's segment take
  -- no write
  script_heard : (outcome : CommandOutcome) → ScriptOutcome (Some c) input outcome → IsHeard outcome.status →
      ItemsSpare (settled plain.table_area c) plain items dids → IsSomeAnd (effects (steps_of outcome.acts) (Some c))
      (λ d. Stands d (plain_behind plain items dids))
  script_heard outcome does heard spares =
      elim (script_course outcome does) [
        | inl turned ↦ absurd (turned.unheard (subst (λ (o : CommandOutcome). IsHeard o.status) turned.is heard))
        | inr run ↦
            some_and (λ d. Stands d (plain_behind plain items dids))
            (changed_by (steps_of script.outcome.acts) (settled plain.table_area c)) (effects (steps_of outcome.acts) (Some c))
            (done_script_stands (settled plain.table_area c) plain input script.outcome run.held script.does script.bytes spares)
            (ap (λ (acts : List Act). effects (steps_of acts) (Some c)) run.acts
            ∙ behind_front c plain whole script.stands run.mounts script.outcome.acts)
      ]

  abbrev Answered : (text : List ℕ) → Option Cartridge → Type 0
  Answered text left = StandsAnswered plain items dids (length text) left

  -- the lines that it went no further than, where this was printed, spare header and table
  abbrev NoFurther : (text : List ℕ) → Type 0
  NoFurther text = WentNoFurther (settled plain.table_area c) plain items dids (length text)

  -- nothing was printed yet
  nothing_answered : (text : List ℕ) (left : Option Cartridge) → text ≡ [] → IsSomeAnd left (λ d. Stands d plain) → Answered text left
  nothing_answered text left none stands =
      subst (λ (xs : List ℕ). Answered xs left) (sym none)
      (none_answered (settled plain.table_area c) plain input script.outcome left script.does script.bytes stands)

  pub script_answered : (outcome : CommandOutcome) (text : List ℕ) (left : Option Cartridge) → IsTableLive c →
      ScriptOutcome (Some c) input outcome → NoFurther text → IsLeftBy c outcome.acts text left → Answered text left
  script_answered outcome text left live does spares so =
      elim (script_course outcome does) [
        | inl turned ↦
            let was = turned_left c outcome text left turned so in
            nothing_answered text left was.0 (some_and (λ d. Stands d plain) c left script.stands was.1)
        | inr run ↦
            elim (left_then c plain whole script.stands run.mounts script.outcome.acts text left
            (subst (λ (acts : List Act). IsLeftBy c acts text left) run.acts so)) [
              | inl (none, torn) ↦ nothing_answered text left none
                  (stopped_stands c plain plain.table_area left script.stands run.mounts.reads torn)
              | inr at ↦ ran run at
            ]
      ]
    where
      ran : ScriptRan outcome → IsLeftBy (settled plain.table_area c) script.outcome.acts text left → Answered text left
      ran run (inl at) =
          subst (λ (xs : List ℕ). Answered xs left) (sym at.is_text)
          (answered_between (settled plain.table_area c) plain input script.outcome at.front at.rest left run.held
          (settled_live c plain.table_area run.mounts.reads live) script.does script.bytes
          (subst (λ (xs : List ℕ). NoFurther xs) at.is_text spares) at.parts
          (subst (λ (held : Option Cartridge). Torn (next_steps at.rest) held left)
          (effects-some (steps_of at.front) (settled plain.table_area c)) at.torn))
      ran run (inr at) =
          let texts : length text ≡ length (text_of at.front) + length at.some = ap length at.is_text
          ∙ length-append (text_of at.front) at.some in
          let act_text : length at.act.text ≡ length at.some + length at.more = ap length (sym at.written)
          ∙ length-append at.some at.more in
          answered_behind (settled plain.table_area c) plain input script.outcome at.front at.act at.rest left (length text) run.held
          (settled_live c plain.table_area run.mounts.reads live) script.does script.bytes spares at.parts
          (at.is ∙ effects-some (steps_of at.front ++ at.act.steps) (settled plain.table_area c)) (omega arith) (omega arith)

-- what is left by words of a script, over this input
lines_leave : (told : Option (List ℕ)) (words : List (List ℕ)) (held left : Option Cartridge) → IfSome held IsCartridge →
    Spells words commands.Script →
    (l : StopLeaves told commands.Script held left) → LinesLeave l.input words held left
lines_leave told words held left whole spelled l c plain is script live count spares =
    let yields : ScriptOutcome (Some c) l.input l.outcome =
    subst (λ (h : Option Cartridge). ScriptOutcome h l.input l.outcome) is l.plain in
    let torn : Torn (steps_of l.outcome.acts) (Some c) left =
    subst (λ (h : Option Cartridge). Torn (steps_of l.outcome.acts) h left) is l.torn in
    script_stopped l.input words c plain (whole_of held c whole is) script l.outcome left live yields count spares torn

pub some_scripted : (told : Option (List ℕ)) (words : List (List ℕ)) (held left : Option Cartridge) → IfSome held IsCartridge →
    WordsLeave told words held left → SomeScripted told words held left
some_scripted told words held left whole (inl same) =
    over_any told (λ input. LinesLeave input words held left)
    (λ c plain is script live count spares. inr (0, omega arith, some_and (λ d. Stands d plain) c left script.stands (same ∙ is)))
some_scripted told words held left whole (inr (command, spelled, leaves)) =
    over_stop told words command held left (λ input. LinesLeave input words held left) spelled leaves
    (λ l c plain is script live count spares. lines_leave told words held left whole script.spelled l c plain is script live count spares)
    (λ other c plain is script. absurd (other script.spelled))

pub scripts_stop : {T : Type 0} (t : tapes.Meaning T) (told : Option (List ℕ)) (words : List (List ℕ)) (a b : T) →
    tape_calls.IsToldRight (t.told a) (t.size a) →
    EachLeft t a b (WordsLeave told words) → EachLeft t a b (SomeScripted told words)
scripts_stop t told words a b right leaves = each_weaker t a b right (λ held left whole is. some_scripted told words held left whole is)
    leaves

pub carries_out_lines : {T S K : Type 0} (t : tapes.Meaning T) (s : sources.Meaning S) (k : sinks.Meaning K) (words : List (List ℕ))
    (command : Words) (old new : Outside T S K) (answer : Status) →
    Laws t s k old new → Spells words command → CommandEnds t s k command old new answer →
    (c : Cartridge) (plain : Plain) → t.told old.tape ≡ Some (Some c) →
    OverInput (s.left old.source) (λ input. (script : Scripted input words c plain) →
    AllAnswered t k new.tape old.sink new.sink answer script)
carries_out_lines t s k words commands.Script old new answer laws spelled ends c plain told =
    let whole : IsCartridge c = told_whole (Some c) (t.told old.tape) (t.size old.tape) laws.right told in
    let ran = ends_ran t s k commands.Script old new answer laws tt ends c told in
    let was = ran.was in (
      ran.input,
      ran.is_told,
      ran.bytes refl,
      λ script. record {
        text = was.text;
        took = was.took;
        answered = λ live count further spares. now_weaker t old.tape new.tape
            (λ left is. script_answered ran.input words c plain whole script ran.outcome was.text left live ran.plain
            (count, spares.0, further, spares.1) is) was.each;
        all = λ heard spares.
            let all = ran.heard heard in
            now_weaker t old.tape new.tape
            (λ left is. subst (λ (o : Option Cartridge). IsSomeAnd o
            (λ d. Stands d (plain_behind plain script.does.items script.does.dids))) (sym is)
            (script_heard ran.input words c plain whole script ran.outcome ran.plain (subst IsHeard (sym all.0) heard) spares))
            (done_now t old.tape new.tape (steps_of ran.outcome.acts) (Some c) all.1 told);
      },
    )
carries_out_lines t s k words command old new answer laws spelled ends c plain told =
    over_any (s.left old.source) (λ input. (script : Scripted input words c plain) →
    AllAnswered t k new.tape old.sink new.sink answer script)
    (λ script. absurd (let same : command ≡ commands.Script = one_command words command commands.Script spelled script.spelled in cc))

-- ---- a run that touched nothing

pub none_scripted : {T K : Type 0} (t : tapes.Meaning T) (k : sinks.Meaning K) (told : Option (List ℕ)) (words : List (List ℕ)) (a : T)
    (x : K) (answer : Status) →
    k.took x [] x → (IsHeard answer → ⊥) → (c : Cartridge) (plain : Plain) → t.told a ≡ Some (Some c) →
    OverInput told (λ input. (script : Scripted input words c plain) → AllAnswered t k a x x answer script)
none_scripted t k told words a x answer nothing unheard c plain is =
    over_any told (λ input. (script : Scripted input words c plain) → AllAnswered t k a x x answer script)
    (λ script. record {
      text = [];
      took = nothing;
      answered = λ live count further spares. untouched_now t a c (StandsAnswered plain script.does.items script.does.dids 0) is
          (none_answered (settled plain.table_area c) plain (input_of told) script.outcome (Some c) script.does script.bytes script.stands);
      all = λ heard spares. absurd (unheard heard);
    })
