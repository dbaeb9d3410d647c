-- The segments that a scrub looks at, and its acts and counts, by what these say or what is found of them (this project's own).
use Rattle.std.specs.Prelude.{ℕ, List, [], ◌∷◌, ◌++◌, map}
use Rattle.cartridge_spec.specs.Says.{Saying}
use Rattle.command_laws.specs.ScrubPlain.{looking_acts}
use Rattle.command_spec.specs.Scrub.{Counts, Looked, counted, counts_line, line_in, steps_in, Finding, HasFound, finding_acts, line_for}
use Rattle.command_spec.specs.Scrub.{sayings_of, steps_for}
use Rattle.command_spec.specs.declared.depth.Depth.{Depth}
use Rattle.qic_base.specs.Acts.{Act}
use Rattle.qic_base.specs.Cartridge.{Cartridge}
use Rattle.cartridge_spec.specs.Shape.{mask_at}

-- the act in a segment that says this, or of which this is found
abbrev pub look_act : Cartridge → Looked → Saying → Act
look_act c looked saying = record { steps = steps_in c looked saying; text = line_in looked saying }

abbrev pub find_act : Cartridge → Looked → Finding → Act
find_act c looked finding = record { steps = steps_for c looked finding; text = line_for looked finding }

-- this is found of a segment
abbrev pub Finds : Depth → Cartridge → Looked → Finding → Type 0
Finds depth c looked finding = HasFound depth c looked finding.saying finding.wrong

-- what is counted of segments that say this, or of which this is found
abbrev pub counts_of : Cartridge → List Looked → List Saying → Counts
counts_of c looked sayings = counted looked (looking_acts c looked sayings) sayings

abbrev pub counts_for : Cartridge → List Looked → List Finding → Counts
counts_for c looked findings = counted looked (finding_acts c looked findings) (sayings_of findings)

-- the last act: no step, and the line of the counts
abbrev pub last_act : Counts → Act
last_act counts = record { steps = []; text = counts_line counts }

-- all acts, and the line of the counts
abbrev pub scrub_acts : Cartridge → List Looked → List Saying → List Act
scrub_acts c looked sayings = looking_acts c looked sayings ++ last_act (counts_of c looked sayings) ∷ []

abbrev pub acts_for : Cartridge → List Looked → List Finding → List Act
acts_for c looked findings = finding_acts c looked findings ++ last_act (counts_for c looked findings) ∷ []

-- segments by the words of the map
abbrev pub looked_segments : (words segments : List ℕ) → List Looked
looked_segments words segments = map (λ s. record { segment = s; mask = mask_at words s }) segments
