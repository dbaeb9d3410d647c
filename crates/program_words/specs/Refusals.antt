-- What is printed about words that are refused (this project's own).
use Rattle.std.specs.Prelude.{◌≡◌, ◌⊎◌, Bool, ℕ, List, ◌++◌, codes, Result}
use Rattle.message_text.specs.Printable.{printed_in}
use Rattle.qic_base.specs.Sink.{Meaning}
use Rattle.qic_base.specs.SinkCalls.{Writes}
use Rattle.program_words.specs.declared.refusal.Told.{Told}
use Rattle.program_words.specs.declared.refusal.Told.TheVariants.{Page, Unwritten}

-- a page was printed, or could not be
abbrev pub IsPage : Told → Type 0
IsPage told = (told ≡ Page) ⊎ (told ≡ Unwritten)

-- a text is written, printable, its lines as they are or escaped too
pub record WritesShown {K T E : Type 0} (m : Meaning K) (old new : K) (result : Result T E) : Type 0 where
  pub lines : Bool
  pub text : List ℕ
  pub written : Writes m old new (printed_in lines 480 text ++ codes "\n") result
