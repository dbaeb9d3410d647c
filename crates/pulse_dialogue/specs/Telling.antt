-- What a teller tells of a line at once, and what it keeps of the lines (this project's own).
use Rattle.std.specs.Prelude.{ℕ, ◌+◌, ◌<◌, ◌^◌, Bool, false, List, [], ◌++◌, Option, Some, None, IfSome, if◌then◌else◌, nat_le}
use Rattle.pulse_dialogue.specs.declared.context.Context.{Context}
use Rattle.pulse_dialogue.specs.declared.line.Line.{Line}
use Rattle.pulse_dialogue.specs.declared.line.Line.TheVariants.{Pulse, Sample}
use Rattle.pulse_dialogue.specs.declared.teller.OpenTrain.{OpenTrain}
use Rattle.pulse_dialogue.specs.declared.teller.Teller.{Teller}
use Rattle.pulse_dialogue.specs.Dialogue.{counted, train_line, sample_line, said_by_train, heard_level}

-- a pulse at this time belongs to the train that is open
abbrev pub continues : (gap : ℕ) → Option OpenTrain → (time : ℕ) → Bool
continues gap None time = false
continues gap (Some open_train) time = nat_le time (open_train.last + gap)

-- what the end of an open train says, and the context behind it
abbrev pub ended_text : Context → Option OpenTrain → List ℕ
ended_text context None = []
ended_text context (Some open_train) =
    train_line open_train.first (counted open_train.count)
    (said_by_train context (counted open_train.count)).text

abbrev pub ended_context : Context → Option OpenTrain → Context
ended_context context None = context
ended_context context (Some open_train) = (said_by_train context (counted open_train.count)).context

abbrev pub begun : (time : ℕ) → OpenTrain
begun time = record { first = time; last = time; count = 1 }

abbrev pub continued : Option OpenTrain → (time : ℕ) → Option OpenTrain
continued None time = None
continued (Some open_train) time =
    Some (record { first = open_train.first; last = time; count = open_train.count + 1 })

-- what a line tells at once
abbrev pub told_at : Teller → Line → List ℕ
told_at teller (Pulse time) =
    if continues teller.gap teller.open_train time then []
    else ended_text teller.context teller.open_train
told_at teller (Sample time level) =
    ended_text teller.context teller.open_train
    ++ sample_line time (heard_level (ended_context teller.context teller.open_train) level).text

-- what is kept behind it
abbrev pub after_line : Teller → Line → Teller
after_line teller (Pulse time) =
    if continues teller.gap teller.open_train time
    then record teller { time = time; open_train = continued teller.open_train time }
    else record teller {
      time = time;
      open_train = Some (begun time);
      context = ended_context teller.context teller.open_train;
    }
after_line teller (Sample time level) = record teller {
  time = time;
  open_train = None;
  context = (heard_level (ended_context teller.context teller.open_train) level).context;
}

-- a further pulse of the open train can be counted
abbrev pub HasRoom : Option OpenTrain → Type 0
HasRoom open_train = IfSome open_train (λ o. o.count + 1 < 2 ^ 32)
