-- The commands that take no stream and give none: the plain machine of each, and its record (this project's own).
use Rattle.std.specs.Prelude.{◌≡◌, ℕ, [], ◌∷◌, codes, ◌⊎◌, true, false, Option, IsSomeAnd, ◌≤◌, Bool, if◌then◌else◌, ◌*◌, List, ◌<◌, ◌^◌}
use Rattle.std.specs.Prelude.{length, not}
use Rattle.cartridge_spec.specs.Formatting.{HasNoHeader, clearing_steps, format_steps, IsFirstDefectInFront, HasNoDefectInFront}
use Rattle.cartridge_spec.specs.Formatting.{IsFreshWith, IsLabel}
use Rattle.cartridge_spec.specs.Header.{Header}
use Rattle.cartridge_spec.specs.Shape.{marked_sectors}
use Rattle.cartridge_spec.specs.Table.{Entry}
use Rattle.cartridge_spec.specs.Volumes.{WearSpares}
use Rattle.command_spec.specs.Command.{Command, plain_command, IsUnprotected, CanBeMounted, none_of_them, Word, Number, AnyNumber, Name}
use Rattle.command_spec.specs.Command.{dated}
use Rattle.command_spec.specs.Lines.{blank_line, defect_line, lost_line, protected_line, upgraded_line, formatted_line, info_text}
use Rattle.command_spec.specs.Lines.{list_text}
use Rattle.command_spec.specs.Numbers.{is_sector, is_on_each}
use Rattle.command_spec.specs.Outcome.{carried_out, CommandOutcome, HeldOutcome, refused, refused_behind, HasPlace, StepOutcome, acted}
use Rattle.command_spec.specs.Outcome.{Shows, OpenOutcome}
use Rattle.qic_base.specs.Cartridge.{IsLength, Cartridge, view_at}
use Rattle.qic_base.specs.Step.{Renew, Spoil, Wear, SetProtected, Upgrade}
use Rattle.qic_base.specs.Tape.{spoil_answer}
use Rattle.qic_base.specs.declared.TheConstants.{LONGEST}
use Rattle.command_spec.specs.declared.status.Status.TheVariants as status

-- a new cartridge needs none before it, and keeps nothing of that which it takes the place of
abbrev pub new_command : (segments : ℕ) → Command
new_command segments =
    record (plain_command ((Word (codes "new") ∷ Number 3 LONGEST segments ∷ []) ∷ [])
    (λ held input outcome. outcome ≡ carried_out (Renew segments) (blank_line segments)) (λ text. text ≡ blank_line segments)) {
      values = IsLength segments;
      keeps_volumes = λ c plain. ⊥;
      keeps_list = λ c. ⊥;
      keeps_copies = λ c. ⊥;
      keeps_live = ⊥;
    }

-- a formatted sector stays as it is
abbrev pub DefectOutcome : (segment sector : ℕ) → Option Cartridge → CommandOutcome → Type 0
DefectOutcome segment sector = HeldOutcome (λ c outcome. (¬ (HasPlace c segment sector) × (outcome ≡ refused status.BadPlace))
    ⊎ (HasPlace c segment sector × (spoil_answer (view_at c segment sector) ≡ false)
    × (outcome ≡ refused_behind (Spoil segment sector ∷ []) status.NotBlank))
    ⊎ (HasPlace c segment sector × (spoil_answer (view_at c segment sector) ≡ true)
    × (outcome ≡ carried_out (Spoil segment sector) (defect_line segment sector))))

abbrev pub defect_command : (segment sector : ℕ) → Command
defect_command segment sector =
    record (plain_command ((Word (codes "defect") ∷ AnyNumber segment ∷ AnyNumber sector ∷ []) ∷ [])
    (λ held input outcome. DefectOutcome segment sector held outcome) (λ text. text ≡ defect_line segment sector)) {
      traits = record none_of_them { cartridge = true; sector = not (is_on_each segment sector); blank = is_sector segment sector };
      needs = λ held input. IsSomeAnd held (λ c. HasPlace c segment sector × (spoil_answer (view_at c segment sector) ≡ true));
      can_be = is_sector segment sector;
    }

abbrev pub LoseOutcome : (segment sector : ℕ) → Option Cartridge → CommandOutcome → Type 0
LoseOutcome segment sector = HeldOutcome (λ c outcome. (¬ (HasPlace c segment sector) × (outcome ≡ refused status.BadPlace))
    ⊎ (HasPlace c segment sector × (outcome ≡ carried_out (Wear segment sector) (lost_line segment sector))))

-- A sector that is worn has to spare the header and the table, and header copies that can't be read, unless both are bare; and for the
-- list it has to lie behind segment 2.
abbrev pub lose_command : (segment sector : ℕ) → Command
lose_command segment sector =
    record (plain_command ((Word (codes "lose") ∷ AnyNumber segment ∷ AnyNumber sector ∷ []) ∷ [])
    (λ held input outcome. LoseOutcome segment sector held outcome) (λ text. text ≡ lost_line segment sector)) {
      traits = record none_of_them { cartridge = true; sector = not (is_on_each segment sector) };
      needs = λ held input. IsSomeAnd held (λ c. HasPlace c segment sector);
      keeps_volumes = λ c plain. HasPlace c segment sector → WearSpares c plain segment sector;
      keeps_list = λ c. HasPlace c segment sector → 3 ≤ segment;
      keeps_unread = λ c. HasPlace c segment sector → (2 ≤ segment) ⊎ HasNoHeader c;
      can_be = is_sector segment sector;
    }

abbrev pub protect_command : Bool → Command
protect_command on =
    record (plain_command ((Word (codes "protect") ∷ Word (if on then codes "on" else codes "off") ∷ []) ∷ [])
    (λ held input. StepOutcome (SetProtected on) (λ c. protected_line on) held) (λ text. text ≡ protected_line on)) {
      traits = record none_of_them { cartridge = true };
      needs = λ held input. IsSomeAnd held (λ c. Unit {0});
    }

-- a cartridge is kept in the newest layout from now on, a protected one too, and the version before is told
abbrev pub upgrade_command : Command
upgrade_command =
    record (plain_command ((Word (codes "upgrade") ∷ []) ∷ [])
    (λ held input outcome. StepOutcome Upgrade (λ c. upgraded_line c.version) held outcome)
    (λ text. (version : ℕ) × (1 ≤ version) × (version ≤ 2) × (text ≡ upgraded_line version))) {
      traits = record none_of_them { cartridge = true };
      needs = λ held input. IsSomeAnd held (λ c. Unit {0});
    }

-- Formatting with this label and this date word: the map marks just the cartridge's defects, of which none may lie in the segments
-- 0 to 2; where one does, the segments were formatted and no header was written.
abbrev pub FormatOutcome : (label : List ℕ) → (date : ℕ) → Option Cartridge → CommandOutcome → Type 0
FormatOutcome label date = HeldOutcome (λ c outcome. ((c.info.protected ≡ true) × (outcome ≡ refused status.Protected))
    ⊎ ((c.info.protected ≡ false) × ((segment : ℕ) × IsFirstDefectInFront c segment
    × (outcome ≡ refused_behind (clearing_steps c.info.segments_per_track) (status.DefectInFront segment))))
    ⊎ ((c.info.protected ≡ false) × HasNoDefectInFront c
    × ((words : List ℕ) × ((area : List (List ℕ)) × IsFreshWith c label date words area
    × (outcome ≡ acted (format_steps c.info.segments_per_track area)
    (formatted_line (28 * c.info.segments_per_track) (marked_sectors words)))))))

-- formatting empties a cartridge, and writes its header, but for a protected one
abbrev pub format_command : (label : List ℕ) → (date : ℕ) → Command
format_command label date =
    record (plain_command (dated (Word (codes "format") ∷ Name label ∷ []) date)
    (λ held input outcome. FormatOutcome label date held outcome)
    (λ text. (segments : ℕ) × ((bad : ℕ) × (text ≡ formatted_line segments bad)))) {
      values = IsLabel label × (date < 2 ^ 32);
      traits = record none_of_them { memory = true; cartridge = true; writable = true; formats = true };
      needs = λ held input. IsSomeAnd held (λ c. IsUnprotected c × HasNoDefectInFront c);
      keeps_volumes = λ c plain. c.info.protected ≡ true;
      keeps_list = λ c. c.info.protected ≡ true;
      keeps_copies = λ c. c.info.protected ≡ true;
    }

-- a command that prints this of the header, the words of its map and the volumes
abbrev pub showing_command : (word : List ℕ) → (prints : Header → (words : List ℕ) → List Entry → List ℕ) → Command
showing_command word prints =
    record (plain_command ((Word word ∷ []) ∷ []) (λ held input. OpenOutcome (Shows prints) held)
    (λ text. (header : Header) × ((words : List ℕ) × ((entries : List Entry) × (text ≡ prints header words entries))))) {
      traits = record none_of_them { memory = true; cartridge = true; mounts = true };
      needs = λ held input. IsSomeAnd held CanBeMounted;
    }

abbrev pub info_command : Command
info_command = showing_command (codes "info") (λ header words entries. info_text header words (length entries))

abbrev pub list_command : Command
list_command = showing_command (codes "list") (λ header words entries. list_text words entries)
