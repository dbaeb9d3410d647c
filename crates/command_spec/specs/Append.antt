-- The plain machine of `append`: what is taken of the input, and the acts that write the volume and its entry (this project's own).
use Rattle.std.specs.Prelude.{ℕ, List, [], ◌∷◌, length, drop, nat_le, if◌then◌else◌, ◌&&◌, ◌||◌, ◌==◌, Bool, take, nat_lt, Option, Some}
use Rattle.std.specs.Prelude.{None, ◌+◌, min, is_some, ◌++◌, ◌≡◌, ◌/◌, unwrap_or, true, ◌<◌, ◌^◌, codes, IsSomeAnd}
use Rattle.cartridge_spec.specs.Appending.{part_writes, in_sectors, room, free_segments, entry_behind, table_writes, has_room}
use Rattle.cartridge_spec.specs.Mounting.{settled}
use Rattle.cartridge_spec.specs.Settling.{settling_steps}
use Rattle.cartridge_spec.specs.Shape.{mask_at, data_count, capacity}
use Rattle.cartridge_spec.specs.Table.{Entry, table_with}
use Rattle.command_spec.specs.Lines.{reply_behind, appended_line}
use Rattle.command_spec.specs.Outcome.{settling_act, CommandOutcome, WritableOutcome}
use Rattle.qic_base.specs.Acts.{Act}
use Rattle.qic_base.specs.Cartridge.{Cartridge}
use Rattle.qic_base.specs.Step.{Step}
use Rattle.cartridge_spec.specs.Formatting.{IsLabel}
use Rattle.cartridge_spec.specs.Volumes.{Plain}
use Rattle.command_spec.specs.Command.{Command, plain_command, IsUnprotected, ReadsAs, none_of_them, Word, Name, dated}
use Rattle.command_spec.specs.declared.status.Status.TheVariants as status

-- ---- the acts

-- a segment is written with the first of some bytes, as many as it carries
abbrev pub segment_act : (words : List ℕ) → (segment : ℕ) → (bytes : List ℕ) → Act
segment_act words segment bytes =
    let sectors : List (List ℕ) = in_sectors (data_count (mask_at words segment)) bytes in
    record { steps = part_writes words (record { segment = segment; sectors = sectors }); text = [] }

-- all of these bytes, in as many of some carrying segments as they take: one act for each, and one for no byte
abbrev pub volume_acts : (words segments : List ℕ) → (bytes : List ℕ) → List Act
volume_acts words [] bytes = []
volume_acts words (s ∷ ss) bytes =
    segment_act words s bytes
    ∷ (if nat_le (length bytes) (capacity (mask_at words s)) then [] else volume_acts words ss (drop (capacity (mask_at words s)) bytes))

-- those of the segments that these bytes fill
abbrev pub filled_acts : (words segments : List ℕ) → (bytes : List ℕ) → List Act
filled_acts words [] bytes = []
filled_acts words (s ∷ ss) bytes =
    if nat_le (capacity (mask_at words s)) (length bytes)
    then segment_act words s bytes ∷ filled_acts words ss (drop (capacity (mask_at words s)) bytes) else []

-- Of an input at most so many bytes are wanted. Where just as many are and it has fewer, only segments that it fills are
-- written.
abbrev pub input_acts : (words segments : List ℕ) → (most : ℕ) → (exact : Bool) → (input : List ℕ) → List Act
input_acts words segments most exact input =
    if exact && nat_lt (length input) most then filled_acts words segments input else volume_acts words segments (take most input)

-- ---- the input

-- What becomes of an input: these bytes are the volume's; or there is no room for so many; or it ends before so many as were
-- promised.
pub data Taking : Type 0 where
  Fits : (bytes : List ℕ) → Taking
  TooLong : (need have : ℕ) → Taking
  TooShort : (promised read : ℕ) → Taking

-- There is room for a byte at least, and for as many as are promised.
abbrev pub has_promised_room : (have : ℕ) → (promised : Option ℕ) → Bool
has_promised_room have None = nat_le 1 have
has_promised_room have (Some n) = nat_le 1 have && nat_le n have

-- With nothing promised all of the input is taken, and of one that is too long a byte more than there is room for; with a
-- promise just as many bytes, and none where there is no room for them.
abbrev pub taking : (have : ℕ) → (promised : Option ℕ) → (input : List ℕ) → Taking
taking have None input =
    if nat_le 1 have && nat_le (length input) have then Fits input else TooLong (min (length input) (have + 1)) have
taking have (Some n) input =
    if has_promised_room have (Some n) then (if nat_lt (length input) n then TooShort n (length input) else Fits (take n input))
    else TooLong n have

-- ---- all acts

-- what an append goes by: the words of the map, the list, the table's data, and the steps that settle it
pub record Kept : Type 0 where
  pub words : List ℕ
  pub entries : List Entry
  pub table : List (List ℕ)
  pub settling : List Step

-- what it goes by over a cartridge whose table has these data
abbrev pub kept_over : Cartridge → (words : List ℕ) → (entries : List Entry) → (table : List (List ℕ)) → Kept
kept_over c words entries table = record { words = words; entries = entries; table = table; settling = settling_steps table c }

abbrev pub room_in : Kept → ℕ
room_in kept = room kept.words kept.entries

-- the segments that the bytes of the input take, where there is room: one act for each
abbrev pub input_writes : (words : List ℕ) → List Entry → (promised : Option ℕ) → (input : List ℕ) → List Act
input_writes words entries promised input =
    let have : ℕ = room words entries in
    if has_promised_room have promised
    then input_acts words (free_segments words entries) (unwrap_or promised have) (is_some promised) input else []

-- last, where all bytes are there, the writes of the table, and the reply
abbrev pub entry_acts : Kept → (name : List ℕ) → (date : ℕ) → (reply : Entry → List ℕ) → Taking → List Act
entry_acts kept name date reply (Fits bytes) =
    let entry : Entry = entry_behind kept.words kept.entries name date bytes in
    let new : List (List ℕ) = table_with kept.table (length kept.entries) entry in
    record { steps = table_writes (length kept.entries / 8) new; text = reply entry } ∷ []
entry_acts kept name date reply other = []

-- the settling of the table, the volume's segments, and the table
abbrev pub append_acts : Kept → (name : List ℕ) → (date : ℕ) → (promised : Option ℕ) → (reply : Entry → List ℕ) → (input : List ℕ) →
    List Act
append_acts kept name date promised reply input =
    record { steps = kept.settling; text = [] }
    ∷ (input_writes kept.words kept.entries promised input ++ entry_acts kept name date reply (taking (room_in kept) promised input))

-- ---- the outcome

-- The table is settled, and the whole input appended: a sector of the table that takes no write is written again. The
-- cartridge is full where there is no room for all of the input, or none for a byte.
abbrev pub appended : (name : List ℕ) → (date : ℕ) → (input : List ℕ) → Cartridge → (words : List ℕ) → (table : List (List ℕ)) →
    List Entry → CommandOutcome
appended name date input c words table entries =
    let have : ℕ = room words entries in
    let taken : ℕ = min (length input) (have + 1) in record {
      acts = settling_act table c
          ∷ append_acts (kept_over (settled table c) words entries table) name date None (reply_behind (length entries)) input;
      taken = taken;
      status = if nat_le 1 have && nat_le (length input) have then status.Done else status.Full taken have;
    }

abbrev pub AppendOutcome : (name : List ℕ) → (date : ℕ) → Option Cartridge → (input : List ℕ) → CommandOutcome → Type 0
AppendOutcome name date held input =
    WritableOutcome (λ c header words table entries outcome. outcome ≡ appended name date input c words table entries) held

-- ---- the command

-- It needs room for one byte at least, and for all of the input. It asks for at most one byte beyond the room that there is, and adds
-- a volume, but to a protected cartridge.
abbrev pub append_command : (name : List ℕ) → (date : ℕ) → Command
append_command name date =
    record (plain_command (dated (Word (codes "append") ∷ Name name ∷ []) date) (AppendOutcome name date)
    (λ text. (number : ℕ) × ((bytes : ℕ) × ((start : ℕ) × ((end : ℕ) × (text ≡ appended_line number bytes start end)))))) {
      values = IsLabel name × (date < 2 ^ 32);
      traits = record none_of_them { reads = true; memory = true; cartridge = true; writable = true; mounts = true; appends = true };
      needs = λ held input. IsSomeAnd held (λ c. IsUnprotected c
          × ((plain : Plain) × ReadsAs c plain × (has_room plain (length input) ≡ true)));
      keeps_volumes = λ c plain. c.info.protected ≡ true;
      keeps_list = λ c. c.info.protected ≡ true;
      is_full = λ need have. (need == have + 1) || ((need == 0) && (have == 0));
    }
