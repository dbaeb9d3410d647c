-- All that is said of a command, in one record: how its words are spelled, what kind of a command it is, what it needs,
-- does, prints and keeps (this project's own).
use Rattle.std.specs.Prelude.{◌≡◌, ℕ, ◌≤◌, List, decimal, [], ◌∷◌, ◌⊎◌, ◌==◌, ◌++◌, if◌then◌else◌, Bool, false, true, Option}
use Rattle.std.specs.List.{AllZip}
use Rattle.command_spec.specs.Lines.{date_form}
use Rattle.qic_base.specs.Field.{IsDate, date_word, IsNameText, filled}
use Rattle.cartridge_spec.specs.TableSegment.{CanBeRead}
use Rattle.cartridge_spec.specs.Volumes.{Plain, Stands}
use Rattle.command_spec.specs.Outcome.{CommandOutcome}
use Rattle.command_spec.specs.declared.status.Status.{Status}
use Rattle.qic_base.specs.Acts.{Act}
use Rattle.qic_base.specs.Cartridge.{Cartridge}

-- ---- a word

-- a number in decimal digits, as it is printed: without a leading zero, and at most nine of them
pub record IsNumber (word : List ℕ) (n : ℕ) : Type 0 where
  pub digits : word ≡ decimal n
  pub nine : n ≤ 999999999

-- a date, all of its digits written, and its date word
pub record IsDateWord (word : List ℕ) (date : ℕ) : Type 0 where
  pub year : ℕ
  pub month : ℕ
  pub day : ℕ
  pub hour : ℕ
  pub minute : ℕ
  pub second : ℕ
  pub a_date : IsDate year month day hour minute second
  pub written : word ≡ date_form year month day hour minute second
  pub stamped : date ≡ date_word year month day hour minute second

-- what stands at one place of a form, with the value that it stands for there: this word itself; a number from the first to the
-- second, and its value; the text of a name, and the 44 bytes of the name; a date, and its date word
pub data Part : Type 0 where
  Word : List ℕ → Part
  Number : ℕ → ℕ → ℕ → Part
  Name : List ℕ → Part
  Date : ℕ → Part

-- the word stands for the part
abbrev pub SpellsPart : List ℕ → Part → Type 0
SpellsPart word (Word text) = word ≡ text
SpellsPart word (Number least greatest n) = IsNumber word n × (least ≤ n) × (n ≤ greatest)
SpellsPart word (Name name) = IsNameText word × (name ≡ filled word)
SpellsPart word (Date date) = IsDateWord word date

-- ---- words

-- the words have one of the forms: they stand for its parts, each for its own
abbrev pub HasForm : List (List ℕ) → List (List Part) → Type 0
HasForm words [] = ⊥
HasForm words (form ∷ forms) = AllZip SpellsPart words form ⊎ HasForm words forms

-- a form with a date at its end; the date may be left out where its word is 0
abbrev pub dated : List Part → ℕ → List (List Part)
dated form date = (form ++ Date date ∷ []) ∷ (if date == 0 then form ∷ [] else [])

-- any number that a word can be
abbrev pub AnyNumber : ℕ → Part
AnyNumber n = Number 0 999999999 n

-- ---- its traits

pub record Traits : Type 0 where
  -- it reads the input; which is of lines, one of which may be at fault; prints as it goes, not once all else is done; takes memory
  pub reads : Bool
  pub lines : Bool
  pub goes : Bool
  pub memory : Bool
  -- a missing cartridge stops it; a protected one does; it names a sector that not each one has; one that was never formatted
  pub cartridge : Bool
  pub writable : Bool
  pub sector : Bool
  pub blank : Bool
  -- it formats; mounts the cartridge; appends volumes, of bytes of its input; is refused by a volume's segment that doesn't read;
  -- tells what is unsound
  pub formats : Bool
  pub mounts : Bool
  pub appends : Bool
  pub restores : Bool
  pub checks : Bool

-- one with none of them
abbrev pub none_of_them : Traits
none_of_them = record {
  reads = false;
  lines = false;
  goes = false;
  memory = false;
  cartridge = false;
  writable = false;
  sector = false;
  blank = false;
  formats = false;
  mounts = false;
  appends = false;
  restores = false;
  checks = false;
}

-- ---- what it may need of a cartridge

-- the cartridge takes writes
abbrev pub IsUnprotected : Cartridge → Type 0
IsUnprotected c = c.info.protected ≡ false

-- it stands for this plain one, and its volume table can be read
pub record ReadsAs (c : Cartridge) (plain : Plain) : Type 0 where
  pub stands : Stands c plain
  pub reads : CanBeRead c

-- it stands for some plain one, and its volume table can be read
abbrev pub CanBeMounted : Cartridge → Type 0
CanBeMounted c = (plain : Plain) × ReadsAs c plain

-- ---- the record

-- A command with its values. Where it is refused most print nothing. Some have printed the levels of the trains, or the replies to
-- the lines, before a fault of the input, or before a volume table that doesn't show the list; the bytes of a volume before a segment
-- that doesn't read; or the lines of a generated run before the step that was refused. A new cartridge and trains need none that is
-- held; a line of a script that is refused is answered by its reply, so the lines need nothing more.
pub record Command : Type 1 where
  -- the forms of its words, and the bounds of its values
  pub forms : List (List Part)
  pub values : Type 0
  pub traits : Traits
  -- the plain machine: its outcome over what the drive holds and an input
  pub yields : (held : Option Cartridge) (input : List ℕ) → CommandOutcome → Type 0
  -- what it prints that was carried out, whatever it is that the drive holds; what it may have printed wherever a fault cuts it off
  pub prints : List ℕ → Type 0
  pub fronts : List ℕ → Type 0
  -- what it has printed that was refused with an answer: most of them nothing
  pub refused : Status → List ℕ → Type 0
  -- How far its input was taken where a fault of the outside came, by the acts that were done and written before: most take no more
  -- than their outcome does. Of lines no more than what was carried out and answered, and into the item behind it.
  pub reaches : (held : Option Cartridge) (input : List ℕ) (outcome : CommandOutcome) (done : List Act) (taken : ℕ) → Type 0
  -- the fault of its input: the number of the line, counted from 1, and how many bytes stand before it
  pub fault : (input : List ℕ) → (line place : ℕ) → Type 0
  -- all is there that it needs
  pub needs : (held : Option Cartridge) (input : List ℕ) → Type 0
  -- it keeps what a cartridge stands for; what it is mounted as, whether it stands for a plain one or not; its header copies; where
  -- it keeps these, that none of them can be read; and that each sector of the table's segment takes a write
  pub keeps_volumes : Cartridge → Plain → Type 0
  pub keeps_list : Cartridge → Type 0
  pub keeps_copies : Cartridge → Type 0
  pub keeps_unread : Cartridge → Type 0
  pub keeps_live : Type 0
  -- what it names there can be; there is no room for so many bytes, with so much room; and of so many volumes none has this number
  pub can_be : Bool
  pub is_full : (need have : ℕ) → Bool
  pub is_no_volume : (number count : ℕ) → Bool

-- A command of these forms that has this outcome, and prints such a text once all is done. Any values are its own. It has none of
-- the traits, prints nothing where it is refused, finds no fault in its input, needs nothing, and keeps all that stands.
abbrev pub plain_command : (forms : List (List Part)) → (yields : Option Cartridge → List ℕ → CommandOutcome → Type 0) →
    (prints : List ℕ → Type 0) → Command
plain_command forms yields prints = record {
  forms = forms;
  values = Unit {0};
  traits = none_of_them;
  yields = yields;
  prints = prints;
  fronts = λ text. (rest : List ℕ) × prints (text ++ rest);
  refused = λ answer text. text ≡ [];
  reaches = λ held input outcome done taken. taken ≤ outcome.taken;
  fault = λ input line place. ⊥;
  needs = λ held input. Unit {0};
  keeps_volumes = λ c plain. Unit {0};
  keeps_list = λ c. Unit {0};
  keeps_copies = λ c. Unit {0};
  keeps_unread = λ c. Unit {0};
  keeps_live = Unit {0};
  can_be = true;
  is_full = λ need have. false;
  is_no_volume = λ number count. false;
}
