-- Parts of the steps of formatting (this project's profile).
use Rattle.std.specs.Prelude.{ℕ, ◌*◌, List}
use Rattle.qic_base.specs.Step.{Step}
use Rattle.cartridge_laws.specs.FormatMarks.{formats_from}

-- the segments of a track, where each track has n
abbrev pub track_formats : (n track : ℕ) → List Step
track_formats n track = formats_from (track * n) n
