-- The ways in which a command ends that reads no input: refused, cut off, or with one text printed once all is done.
use Rattle.std.proofs.Common.{[], ℕ, List, ◌≡◌, ◌≢◌, ◌++◌, Option, false, arith, inl, refl}
use Rattle.std.proofs.lemmas.List.Elements.{All-nil}
use Rattle.command_laws.proofs.CommandTable.{laws_of}
use Rattle.command_spec.specs.Commands.{command_of, traits_of}
use Rattle.command_laws.specs.CommandRecord.{is_unsound}
use Rattle.command_laws.specs.CommandFields.{FrontPrints, CommandPrints, RefusedPrints, Yields}
use Rattle.command_spec.specs.Outcome.{CommandOutcome}
use Rattle.command_spec.specs.Machine.{IsOfBytes}
use Rattle.command_spec.specs.declared.status.Status.{Status}
use Rattle.command_spec.specs.declared.words.Words.{Words}
use Rattle.qic_base.specs.Acts.{Act}
use Rattle.qic_base.specs.Cartridge.{Cartridge}
use Rattle.command_spec.specs.declared.words.Words.TheVariants as words

-- what such a command does over what the drive holds, whatever the input
abbrev pub Rules : Words → Option Cartridge → CommandOutcome → Type 0
Rules command held outcome = (input : List ℕ) → Yields command held input outcome

-- it does over one input what it does over any
pub any_input : (command : Words) (held : Option Cartridge) (input : List ℕ) (outcome : CommandOutcome) →
    (traits_of command).reads ≡ false →
    Yields command held input outcome → Rules command held outcome
any_input command held input outcome blind plain other = ((laws_of command).blind blind).any held input other outcome plain

-- nothing is a front of what each command prints, ..
pub nothing_front : (command : Words) → FrontPrints command []
nothing_front command = (laws_of command).texts.nothing_front

-- .. so is all of it, ..
pub text_front : (command : Words) (text : List ℕ) → CommandPrints command text → FrontPrints command text
text_front command text prints = (laws_of command).texts.text_front text prints

-- .. and a front of a front
pub shorter_front : (command : Words) (front rest text : List ℕ) → front ++ rest ≡ text → FrontPrints command text →
    FrontPrints command front
shorter_front command front rest text parts prints = (laws_of command).texts.shorter_front front rest text parts prints

-- one that was refused may have printed nothing, ..
pub none_printed : (command : Words) (answer : Status) → is_unsound answer ≡ false → RefusedPrints command answer []
none_printed command answer other = (laws_of command).texts.none_printed answer other

-- .. and what it printed is a front of a text
pub refused_front : (command : Words) (answer : Status) (text : List ℕ) → RefusedPrints command answer text → FrontPrints command text
refused_front command answer text prints = (laws_of command).texts.refused_front answer text prints

-- a command that reads no input appends none
pub appends_none : (command : Words) (told : Option (List ℕ)) (input : List ℕ) → (traits_of command).reads ≡ false →
    IsOfBytes command told input
appends_none command told input blind = λ is. let no = ((laws_of command).blind blind).no_append in absurd (cc)

-- Whatever was done, a command may have taken nothing of its input.
pub none_reached : (command : Words) (held : Option Cartridge) (input : List ℕ) (outcome : CommandOutcome) (done : List Act) →
    (command_of command).reaches held input outcome done 0
none_reached words.Pulses held input outcome done = record {
  front = [];
  back = input;
  parts = refl;
  items = [];
  read = refl;
  did = (done, refl);
  more = 0;
  count = refl;
  into = (omega arith, All-nil (λ (b : ℕ). b ≢ 0x0A));
}
none_reached words.Script held input outcome done = record {
  front = [];
  back = input;
  parts = refl;
  items = [];
  read = refl;
  did = tt;
  more = 0;
  count = refl;
  into = inl (omega arith, All-nil (λ (b : ℕ). b ≢ 0x0A));
}
none_reached (words.New segments) held input outcome done = omega arith
none_reached (words.Defect segment sector) held input outcome done = omega arith
none_reached (words.Lose segment sector) held input outcome done = omega arith
none_reached (words.Protect on) held input outcome done = omega arith
none_reached (words.Format label date) held input outcome done = omega arith
none_reached words.Info held input outcome done = omega arith
none_reached words.Room held input outcome done = omega arith
none_reached words.Check held input outcome done = omega arith
none_reached (words.Append name date) held input outcome done = omega arith
none_reached words.List held input outcome done = omega arith
none_reached (words.Restore number) held input outcome done = omega arith
none_reached words.Scrub held input outcome done = omega arith
none_reached words.ScrubDeep held input outcome done = omega arith
none_reached (words.Make seed count) held input outcome done = omega arith
none_reached words.Upgrade held input outcome done = omega arith
