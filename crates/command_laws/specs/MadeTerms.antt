-- Parts of a generated run: its volumes, its steps, and how far it came (this project's own).
use Rattle.std.specs.Prelude.{ℕ, ◌+◌, ◌*◌, ◌%◌, List, [], ◌∷◌, ◌++◌, length, take, drop, Some, ◌≡◌, ◌≢◌, ◌<◌, fold, map}
use Rattle.cartridge_spec.specs.Volumes.{Plain, entries_of, volume_length}
use Rattle.cartridge_spec.specs.Appending.{entry_behind}
use Rattle.cartridge_spec.specs.Shape.{mask_at, usable_places}
use Rattle.cartridge_spec.specs.Table.{Entry}
use Rattle.command_spec.specs.Append.{append_acts, kept_over}
use Rattle.command_spec.specs.Make.{made_bytes, made_length, MakeStep, WearSector, Runs, ScrubAll, appending, made_answer, made_list}
use Rattle.command_spec.specs.Make.{made_name, making, sum_acts, wearing_volumes, after_item}
use Rattle.command_spec.specs.Numbers.{AreTooMany}
use Rattle.command_spec.specs.Restore.{RestoresVolume, ending_status}
use Rattle.command_spec.specs.declared.status.Status.{Status}
use Rattle.qic_base.specs.Acts.{Act, text_of}
use Rattle.qic_base.specs.Cartridge.{Cartridge}
use Rattle.command_laws.specs.AppendTerms.{silently}
use Rattle.command_spec.specs.declared.status.Status.TheVariants as status

-- a made volume's byte at a place
abbrev pub made_byte : (seed volume place : ℕ) → ℕ
made_byte seed volume place = (place + 31 * volume + seed) % 251

-- a made volume's entry behind these volumes, with the date word 0
abbrev pub made_entry : (seed : ℕ) → (words : List ℕ) → List Entry → (volume : ℕ) → Entry
made_entry seed words entries volume = entry_behind words entries (made_name volume) 0 (made_bytes seed volume)

-- the first two usable sectors of a segment
abbrev pub first_two : (words : List ℕ) → (segment : ℕ) → List ℕ
first_two words segment = take 2 (usable_places (mask_at words segment))

-- these sectors of a segment are worn
abbrev pub wearing : (segment : ℕ) → (sectors : List ℕ) → List MakeStep
wearing segment sectors = map (WearSector segment) sectors

-- each of the made volumes has room when its turn comes
abbrev pub HaveRoom : (seed count : ℕ) → Plain → Type 0
HaveRoom seed count plain =
    (n : ℕ) → n < count → made_answer seed plain.words (made_list seed n plain.words (entries_of plain)) (1 + n) ≡ status.Done

-- the volumes behind several steps of a run, one after the other
abbrev pub after_items : (seed : ℕ) → (words : List ℕ) → List Entry → List MakeStep → List Entry
after_items seed words entries items = fold (after_item seed words) entries items

-- the acts of a made volume's append
abbrev pub made_acts : (seed : ℕ) → Cartridge → (words : List ℕ) → List Entry → (table : List (List ℕ)) → (volume : ℕ) → List Act
made_acts seed c words entries table volume =
    append_acts (kept_over c words entries table) (made_name volume) 0 (Some (made_length seed volume)) silently (made_bytes seed volume)

-- the steps of a run over a mounted cartridge with this map and these volumes
abbrev pub Makes : (seed count : ℕ) → Cartridge → (words : List ℕ) → List Entry → List Act → Status → Type 0
Makes seed count c words entries acts answer = Runs seed c words entries (making seed count words entries) acts answer

-- the steps in front of the sums: the appends, the worn sectors and the scrub
abbrev pub before_sums : (seed count : ℕ) → Plain → List MakeStep
before_sums seed count plain =
    appending 1 count
    ++ (wearing_volumes plain.words (drop (length (entries_of plain)) (made_list seed count plain.words (entries_of plain))) ++ ScrubAll ∷
    [])

-- so many of the volumes from this one on were appended by a run that is answered so
abbrev pub AppendedFrom : (seed volume count : ℕ) → (words : List ℕ) → List Entry → Status → (n : ℕ) → Type 0
AppendedFrom seed volume count words entries status.Done n = n ≡ count
AppendedFrom seed volume count words entries (status.Full need have) n =
    (n < count) × (made_answer seed words (after_items seed words entries (appending volume n)) (volume + n) ≡ status.Full need have)
AppendedFrom seed volume count words entries (status.Lost segment lost) n = segment ≢ 2 → n ≡ count
AppendedFrom seed volume count words entries (status.Mismatch segment) n = n ≡ count
AppendedFrom seed volume count words entries other n = Unit {0}

-- an append is carried out, or full, by the map and the volumes; else its table was refused, or the cartridge is protected
abbrev pub IsAppendAnswer : (seed : ℕ) → (words : List ℕ) → List Entry → (volume : ℕ) → Status → Type 0
IsAppendAnswer seed words entries volume status.Protected = Unit {0}
IsAppendAnswer seed words entries volume status.TableMismatch = Unit {0}
IsAppendAnswer seed words entries volume (status.Lost segment lost) = (segment ≡ 2) × AreTooMany lost
IsAppendAnswer seed words entries volume answer = made_answer seed words entries volume ≡ answer

-- the sum of the volume with this number, as a step of a run
abbrev pub IsSummed : Cartridge → (words : List ℕ) → List Entry → (number : ℕ) → List Act → Status → Type 0
IsSummed c words entries number acts answer =
    RestoresVolume c words entries number
    (λ entry given ending. (acts ≡ sum_acts number (volume_length words entry) (text_of given) ending) × (answer ≡ ending_status ending))
