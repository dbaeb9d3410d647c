-- The headline: what a run promises (this project's own).
use Rattle.std.specs.Prelude.{◌≡◌, ◌≢◌, ◌⊎◌, ◌↔◌, ℕ, true, false, List, Some, IfSome}
use Rattle.cartridge_spec.specs.Formatting.{HasNoHeader, HasCleanCopies}
use Rattle.cartridge_spec.specs.Header.{Header}
use Rattle.cartridge_spec.specs.Shape.{IsArea}
use Rattle.cartridge_spec.specs.Mounting.{Mounted, Mounts}
use Rattle.cartridge_spec.specs.TableSegment.{IsTableLive}
use Rattle.cartridge_spec.specs.Table.{Entry}
use Rattle.cartridge_spec.specs.Volumes.{Plain, Stands, Volume}
use Rattle.command_spec.specs.Commands.{command_of, traits_of}
use Rattle.command_spec.specs.Restore.{HasNumber}
use Rattle.command_spec.specs.Headline.{Stepped, NoneRose, IsCut, EachLeft, WordsLeave, Joins}
use Rattle.command_spec.specs.Several.{ListsAppends, Generated, SomeMade, AllMade, OverInput, Scripted, LinesLeave, AllAnswered}
use Rattle.command_spec.specs.Machine.{Spells, SpellsNone, OverTold, is_fault, fault_of, is_outcome, may_come_from}
use Rattle.command_spec.specs.OneLoss.{SurvivesOneLoss}
use Rattle.command_spec.specs.Volumes.{StillHolds, FormatsOrNot, AppendedOrNot, IsChanged, GivesBack}
use Rattle.command_spec.specs.declared.status.Status.{Status}
use Rattle.command_spec.specs.declared.words.Words.{Words}
use Rattle.qic_base.specs.Acts.{Outside, Failing, FailingRose, OthersStood, NoneFailed}
use Rattle.qic_base.specs.Cartridge.{Cartridge}
use Rattle.qic_base.specs.Sink as sinks
use Rattle.qic_base.specs.Source as sources
use Rattle.qic_base.specs.Tape as tapes
use Rattle.command_spec.specs.declared.status.Status.TheVariants as status
use Rattle.command_spec.specs.declared.words.Words.TheVariants as commands

-- What is printed over a tape and a source that tell nothing, where no clause says what the plain machine prints: at Done the
-- command's text, at another answer but a fault what the command prints with that, and a front of the command's text whatever is
-- answered.
pub record PrintsItsText {K : Type 0} (k : sinks.Meaning K) (words : List (List ℕ)) (old new : K) (answer : Status) : Type 0 where
  pub done : answer ≡ status.Done →
      (command : Words) × Spells words command × ((text : List ℕ) × (command_of command).prints text × k.took old text new)
  pub refused : (command : Words) → Spells words command → is_fault answer ≡ false → answer ≢ status.Done →
      (text : List ℕ) × (command_of command).refused answer text × k.took old text new
  pub begun : (command : Words) → Spells words command → (text : List ℕ) × (command_of command).fronts text × k.took old text new

-- What a run of words promises, by the objects of the outside before it and after it, and by its answer.
pub record Promises {T S K : Type 0} (t : tapes.Meaning T) (s : sources.Meaning S) (k : sinks.Meaning K) (words : List (List ℕ))
    (old new : Outside T S K) (answer : Status) : Type 0 where
  -- Where no fault of the outside ended it, over what is told the plain machine's step was made, or there was no memory.
  pub carried : is_fault answer ≡ false →
      OverTold t s old (λ held input. (answer ≡ status.NoMemory) ⊎ Stepped t s k words held input old new answer)
  -- Where no count rose, and the command has all that it needs, it is Done, or there was no memory.
  pub complete : NoneRose t s k old new → (command : Words) → Spells words command →
      OverTold t s old (λ held input. (command_of command).needs held input → (answer ≡ status.NoMemory) ⊎ (answer ≡ status.Done))
  -- A fault of the outside cut off the acts of the plain machine's outcome over what is told, ..
  pub cut : (failing : Failing) → answer ≡ fault_of failing → IsCut t s k words old new failing
  -- .. and is answered just where a call failed: then the count of its object rose by one, those of the others are as they were,
  -- and all are where no fault is answered. One of the source comes only to a command that reads it.
  pub cause : (failing : Failing) → answer ≡ fault_of failing → FailingRose t s k old new failing
  pub others : (failing : Failing) → answer ≡ fault_of failing → OthersStood t s k old new failing
  pub stood : is_fault answer ≡ false → NoneFailed t s k old new
  pub asked : answer ≡ status.SourceFault → (command : Words) × Spells words command × ((traits_of command).reads ≡ true)
  -- Where the tape tells, the run, a stop at any moment since it began, and one now leave what the command may leave.
  pub stops : EachLeft t old.tape new.tape (WordsLeave (s.left old.source) words)
  -- The volumes: each cartridge so left stands for what the old one stood for, but for `new` and `script`, for `format`, `append`
  -- and `make` of a cartridge that is not protected, and a `lose` that doesn't spare header and table; and likewise it has the old
  -- one's list, but for any `lose` in front of segment 3, too, and a `scrub deep` where a sector of the first header copy is wrong.
  pub volumes : (plain : Plain) →
      EachLeft t old.tape new.tape (StillHolds words (λ command c. command.keeps_volumes c plain) (λ c. Stands c plain))
  pub lists : (header : Header) (map_words : List ℕ) (table : List (List ℕ)) (entries : List Entry) →
      EachLeft t old.tape new.tape (StillHolds words (λ command c. command.keeps_list c)
      (λ c. Mounts c (Mounted header map_words table entries)))
  -- Where each sector of the table's segment takes a write, each does so in each cartridge so left, but for `new`: what the clauses
  -- on `append`, `make` and `script` ask for goes on from run to run.
  pub live : EachLeft t old.tape new.tape (StillHolds words (λ command c. command.keeps_live) IsTableLive)
  -- Where the header copies were clean, or both bare, so they are in each cartridge so left, with the same data, but for `new`, and
  -- for `format` of one that is not protected: what the clause on `format` asks for goes on, too.
  pub clean : (area : List (List ℕ)) → IsArea area →
      EachLeft t old.tape new.tape (StillHolds words (λ command c. command.keeps_copies c) (λ c. HasCleanCopies c area))
  pub bare : EachLeft t old.tape new.tape (StillHolds words (λ command c. command.keeps_copies c) HasNoHeader)
  -- Formatting a cartridge with clean header copies leaves that so, or an unformatted one, or the empty one; appending leaves what
  -- stood, or that with the volume of the input; a generated run what stood with the first ones of its volumes; and a script what
  -- stood with the appends of its first lines, as long as no line that it came to wears out header or table. All but formatting
  -- where each sector of the table's segment takes a write.
  pub formats : EachLeft t old.tape new.tape (FormatsOrNot words)
  pub appends : EachLeft t old.tape new.tape (AppendedOrNot (s.left old.source) words)
  pub makes : EachLeft t old.tape new.tape (SomeMade words)
  pub scripts : EachLeft t old.tape new.tape (λ held left. OverInput (s.left old.source) (λ input. LinesLeave input words held left))
  -- Where then one sector more of the table's segment is lost, what appending left comes back as what stood, or as that with the
  -- volume; and once it was carried out, as that. So does what a generated run and a script left, with the first ones of their volumes.
  pub survives : SurvivesOneLoss t k (s.left old.source) words old.tape new.tape old.sink new.sink answer
  -- After Done or a fault of the sink the cartridge of `new`, the empty one of `format`, whose table's segment takes writes, or
  -- the one with the volume of `append` stands; after a defect in front a bare one; after a refused append, or a fault of its input,
  -- what stood.
  pub changed : IsChanged t (s.left old.source) words old.tape new.tape answer
  -- Behind a generated run all of its volumes are there once it has printed anything, or where the sink failed; behind a script the
  -- appends of all lines whose reply was written whole, and of at most one line more; where each sector of the table's segment takes
  -- a write. Where no fault ended the run the volumes are there that were appended by its answer, and once the script's input was
  -- carried out, the appends of all lines, also where some of these sectors take none.
  pub made : (seed count : ℕ) (c : Cartridge) (plain : Plain) → t.told old.tape ≡ Some (Some c) → Generated words seed count c plain →
      AllMade t k new.tape old.sink new.sink answer seed count c plain
  pub scripted : (c : Cartridge) (plain : Plain) → t.told old.tape ≡ Some (Some c) →
      OverInput (s.left old.source) (λ input. (script : Scripted input words c plain) →
      AllAnswered t k new.tape old.sink new.sink answer script)
  -- Whether it stands for a plain one or not, a cartridge that was mounted is mounted behind `append`, `make` and `script` with the
  -- old list and the appends that were carried out, but after a fault of the tape.
  pub listed : (c : Cartridge) (header : Header) (map_words : List ℕ) (table : List (List ℕ)) (entries : List Entry) →
      t.told old.tape ≡ Some (Some c) → Mounts c (Mounted header map_words table entries) → answer ≢ status.TapeFault →
      ListsAppends t k (s.left old.source) words new.tape old.sink new.sink answer c header map_words table entries
  -- Of a cartridge that stands for a plain one a volume is given back byte for byte.
  pub restores : (number : ℕ) (c : Cartridge) (plain : Plain) (volume : Volume) → Spells words (commands.Restore number) →
      t.told old.tape ≡ Some (Some c) → HasNumber c plain number volume → GivesBack k c plain volume old.sink new.sink answer
  -- Two runs can be joined.
  pub joins : Joins t s k old new
  -- The other answers come only from a command that may give them, over any tape and source.
  pub usage : (answer ≡ status.Usage) ↔ SpellsNone words
  pub memory : answer ≡ status.NoMemory → (command : Words) × Spells words command × ((traits_of command).memory ≡ true)
  pub named : is_outcome answer ≡ true → (command : Words) × Spells words command × (may_come_from answer command ≡ true)
  -- A fault of the input comes from a command that reads lines of it, and is where it is named; at Done there is none.
  pub fault : (line place : ℕ) → answer ≡ status.ScriptFault line place → (command : Words) × Spells words command
      × ((traits_of command).lines ≡ true) × IfSome (s.left old.source) (λ input. (command_of command).fault input line place)
  pub no_fault : answer ≡ status.Done → (command : Words) → Spells words command →
      IfSome (s.left old.source) (λ input. (line place : ℕ) → ¬ ((command_of command).fault input line place))
  -- But for commands that print as they go, an answer other than Done and a fault of the sink leaves the sink alone.
  pub silent : ((command : Words) → Spells words command → (traits_of command).goes ≡ false) →
      answer ≢ status.Done → answer ≢ status.SinkFault → new.sink ≡ old.sink
  -- A command that doesn't read the input leaves the source as it was; the others keep what each call of it keeps.
  pub source : ((command : Words) → Spells words command → (traits_of command).reads ≡ false) → new.source ≡ old.source
  pub kept : s.keeps old.source new.source
  -- Whatever the tape and the source tell, what is printed is a text of the command.
  pub text : PrintsItsText k words old.sink new.sink answer
