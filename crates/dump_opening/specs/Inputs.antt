-- What the files of a run tell (this project's own).
use Rattle.std.specs.Prelude.{ℕ, ◌≡◌, List, [], ◌∷◌, Option, Some, None}
use Rattle.qic_base.specs.Disk as disks
use Rattle.qic_base.specs.Source as sources
use Rattle.dump_spec.specs.Answers.{Inputs}
use Rattle.dump_opening.specs.Counts.{faults_in}
use Rattle.dump_opening.specs.declared.files.DumpFiles.{DumpFiles}

-- a source tells that it has this text left, if there is one
abbrev pub TellsText : {S : Type 0} → sources.Meaning S → Option S → Option (List ℕ) → Type 0
TellsText m None None = Unit {0}
TellsText m (Some source) (Some text) = m.left source ≡ Some text
TellsText m source text = ⊥

-- a file tells these bytes, if there is one
abbrev pub TellsFile : {D : Type 0} → disks.Meaning D → Option D → Option (List ℕ) → Type 0
TellsFile m None None = Unit {0}
TellsFile m (Some disk) (Some bytes) = m.told disk ≡ Some bytes
TellsFile m disk bytes = ⊥

-- the files tell what these inputs hold
pub record TellInputs {D S : Type 0} (d : disks.Meaning D) (s : sources.Meaning S) (files : DumpFiles D S) (inputs : Inputs) : Type 0 where
  pub dump : d.told files.dump ≡ Some inputs.dump
  pub map : TellsText s files.map inputs.map
  pub header : TellsFile d files.header inputs.header
  pub missing : TellsText s files.missing inputs.missing
  pub bad : TellsText s files.bad inputs.bad

-- the faults of the sources
abbrev pub text_counts : {D S : Type 0} → sources.Meaning S → DumpFiles D S → List ℕ
text_counts s files = faults_in s.faults files.map ∷ faults_in s.faults files.missing ∷ faults_in s.faults files.bad ∷ []

-- and of all files
abbrev pub fault_counts : {D S : Type 0} → disks.Meaning D → sources.Meaning S → DumpFiles D S → List ℕ
fault_counts d s files = d.faults files.dump ∷ faults_in d.faults files.header ∷ text_counts s files
