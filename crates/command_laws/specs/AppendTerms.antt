-- Parts of an append: the bytes that it takes, its entry, and its answer (this project's own).
use Rattle.std.specs.Prelude.{ℕ, ◌+◌, List, [], length, min, Option, None, Some, unwrap_or, nat_le, ◌&&◌, if◌then◌else◌}
use Rattle.cartridge_spec.specs.Appending.{Content, free_segments, entry_behind}
use Rattle.cartridge_spec.specs.Table.{Entry}
use Rattle.command_spec.specs.Append.{Kept, Taking, Fits, TooLong, TooShort}
use Rattle.command_spec.specs.declared.status.Status.{Status}
use Rattle.command_spec.specs.declared.status.Status.TheVariants as status

-- at most so many bytes are written
abbrev pub most_written : (have : ℕ) → (promised : Option ℕ) → ℕ
most_written have promised = unwrap_or promised have

-- how many bytes are taken
abbrev pub bytes_taken : (promised : Option ℕ) → Taking → ℕ
bytes_taken promised (Fits bytes) = length bytes
bytes_taken None (TooLong need have) = need
bytes_taken (Some n) (TooLong need have) = 0
bytes_taken promised (TooShort n read) = read

-- the free segments of what an append goes by
abbrev pub free_in : Kept → List ℕ
free_in kept = free_segments kept.words kept.entries

-- the entry of a volume of these bytes
abbrev pub entry_for : Kept → (name : List ℕ) → (date : ℕ) → (bytes : List ℕ) → Entry
entry_for kept name date bytes = entry_behind kept.words kept.entries name date bytes

-- what is appended, by its parts
abbrev pub content_with : (name : List ℕ) → (date : ℕ) → (bytes : List ℕ) → Content
content_with name date bytes = record { name = name; date = date; bytes = bytes }

-- no reply
abbrev pub silently : Entry → List ℕ
silently entry = []

-- the answer, with room for so many bytes
abbrev pub status_by_room : (have : ℕ) → (input : List ℕ) → Status
status_by_room have input =
    if nat_le 1 have && nat_le (length input) have then status.Done else status.Full (min (length input) (have + 1)) have
