-- The plain machine of `script`: its lines, one after the other, over a mounted cartridge, and their replies (this project's own).
use Rattle.std.specs.Prelude.{flat_map, fold, ℕ, List, codes, ◌++◌, decimal, [], ◌+◌, ◌∷◌, ◌≡◌, true, false, length, Some, ◌⊎◌, None}
use Rattle.std.specs.Prelude.{◌≤◌, drop, IsSomeAnd, Option}
use Rattle.cartridge_spec.specs.Appending.{room, entry_behind}
use Rattle.cartridge_spec.specs.Header.{Header}
use Rattle.cartridge_spec.specs.TableSegment.{table_cells, TableIs}
use Rattle.cartridge_spec.specs.Mounting.{settled, Mounted, Mounts}
use Rattle.cartridge_spec.specs.Says.{ByCode, LostSectors, TableSays}
use Rattle.cartridge_spec.specs.Settling.{changed_by}
use Rattle.cartridge_spec.specs.Table.{Entry}
use Rattle.cartridge_spec.specs.Volumes.{volume_length}
use Rattle.command_spec.specs.Append.{Kept, append_acts, Taking, Fits, TooLong, TooShort, taking, kept_over}
use Rattle.command_spec.specs.Input.{Item, most_items, Ending, AtEnd, AtStop, AtFault, IsItem, HasItems, IsScript, input_status, EndsEarly}
use Rattle.command_spec.specs.Input.{Reaches, ReachesLine}
use Rattle.command_spec.specs.Lines.{place_line, number_line, reply_behind, lost_line, list_text}
use Rattle.command_spec.specs.Outcome.{settling_act, CommandOutcome, OpenOutcome}
use Rattle.command_spec.specs.Restore.{GivingEnd, Restored, LostIn, MismatchIn, RestoresVolume, framed, pieces, volume_at}
use Rattle.command_spec.specs.Scrub.{ScrubsAs}
use Rattle.command_spec.specs.declared.line.Line.{Line}
use Rattle.command_spec.specs.declared.refusal.Refusal.{Refusal}
use Rattle.qic_base.specs.Acts.{Act, steps_of}
use Rattle.qic_base.specs.Cartridge.{Cartridge, IsPlace}
use Rattle.qic_base.specs.Step.{Wear}
use Rattle.command_spec.specs.Command.{Command, plain_command, CanBeMounted, none_of_them, Word}
use Rattle.command_spec.specs.declared.status.Status.{Status}
use Rattle.command_spec.specs.declared.depth.Depth.TheVariants.{Shallow}
use Rattle.command_spec.specs.declared.refusal.Refusal.TheVariants as why
use Rattle.command_spec.specs.declared.line.Line.TheVariants as line
use Rattle.command_spec.specs.declared.status.Status.TheVariants as status

-- the reply that no volume has this number, of so many
unfoldable pub no_volume_line : (number count : ℕ) → List ℕ
no_volume_line number count = codes "refused no volume " ++ decimal number ++ codes " of " ++ decimal count ++ codes "\n"

-- the reply to a line that is refused
abbrev pub refusal_line : Refusal → List ℕ
refusal_line why.Protected = codes "refused protected\n"
refusal_line (why.Full need have) = place_line (codes "refused full") need have
refusal_line (why.NoVolume number count) = no_volume_line number count
refusal_line (why.Lost segment lost) = place_line (codes "refused lost") segment lost
refusal_line (why.Mismatch segment) = number_line (codes "refused mismatch") segment
refusal_line (why.Place segment sector) = place_line (codes "refused place") segment sector

-- the last reply of a script that came to its end
abbrev pub end_line : List ℕ
end_line = codes "end\n"

-- ---- what an item has done

-- its acts, and the volumes behind it
pub record Did : Type 0 where
  pub acts : List Act
  pub entries : List Entry

-- a reply alone
abbrev pub reply : List ℕ → Act
reply text = record { steps = []; text = text }

-- it was refused behind some acts, and the volumes are as before
abbrev pub line_refused : List Act → List Entry → Refusal → Did
line_refused acts entries why = record { acts = acts ++ reply (refusal_line why) ∷ []; entries = entries }

-- ---- append

-- what an append meets before it takes a byte: a refusal, or the data of the table, which are settled
pub data Meeting : Type 0 where
  Refuses : Refusal → Meeting
  Finds : (table : List (List ℕ)) → Meeting

-- The protect mark comes first. The table's segment is read as it is then, also where a sector of it was lost since the
-- cartridge was mounted.
abbrev pub Meets : Cartridge → Meeting → Type 0
Meets c (Refuses why.Protected) = c.info.protected ≡ true
Meets c (Refuses (why.Lost segment lost)) =
    (c.info.protected ≡ false) × (segment ≡ 2) × TableSays (table_cells c) (ByCode (LostSectors lost))
Meets c (Refuses other) = ⊥
Meets c (Finds table) = (c.info.protected ≡ false) × TableIs c table

-- its acts over bytes that are as many as were promised, or fewer at the end of the input
abbrev pub acts_on : Cartridge → (words : List ℕ) → List Entry → (name : List ℕ) → (promised date : ℕ) → (bytes : List ℕ) → Meeting →
    List Act
acts_on c words entries name promised date bytes (Refuses why) = []
acts_on c words entries name promised date bytes (Finds table) =
    append_acts (kept_over c words entries table) name date (Some promised) (reply_behind (length entries)) bytes

-- what it has done then, by what became of the bytes
abbrev pub taken_as : Kept → (name : List ℕ) → (date : ℕ) → List Act → Taking → Did
taken_as kept name date acts (Fits bytes) =
    record { acts = acts; entries = kept.entries ++ entry_behind kept.words kept.entries name date bytes ∷ [] }
taken_as kept name date acts (TooLong need have) = line_refused acts kept.entries (why.Full need have)
taken_as kept name date acts (TooShort promised read) = record { acts = acts; entries = kept.entries }

-- all of the promised bytes are there
abbrev pub append_did : Cartridge → (words : List ℕ) → List Entry → (name : List ℕ) → (promised date : ℕ) → (bytes : List ℕ) → Meeting → Did
append_did c words entries name promised date bytes (Refuses why) = line_refused [] entries why
append_did c words entries name promised date bytes (Finds table) =
    let kept : Kept = kept_over c words entries table in
    taken_as kept name date (acts_on c words entries name promised date bytes (Finds table))
    (taking (room words entries) (Some promised) bytes)

-- ---- restore

-- what a restore has done that printed these parts: behind all of them come the volume's number and its length in bytes
abbrev pub given_as : (words : List ℕ) → List Entry → (number : ℕ) → Entry → List Act → GivingEnd → Did
given_as words entries number e parts Restored =
    record { acts = parts ++ reply (place_line (codes "restored") number (volume_length words e)) ∷ []; entries = entries }
given_as words entries number e parts (LostIn segment lost) = line_refused parts entries (why.Lost segment lost)
given_as words entries number e parts (MismatchIn segment) = line_refused parts entries (why.Mismatch segment)

-- ---- an item

-- what a line does on a cartridge with this map and these volumes, with the bytes that follow it
abbrev pub LineDoes : Cartridge → (words : List ℕ) → List Entry → Line → (bytes : List ℕ) → Did → Type 0
LineDoes c words entries (line.Append name promised date) bytes did =
    (meeting : Meeting) × Meets c meeting × (did ≡ append_did c words entries name promised date bytes meeting)
LineDoes c words entries line.List bytes did = did ≡ record { acts = reply (list_text words entries) ∷ []; entries = entries }
LineDoes c words entries (line.Restore number) bytes did =
    ((volume_at entries number ≡ None) × (did ≡ line_refused [] entries (why.NoVolume number (length entries))))
    ⊎ RestoresVolume c words entries number
    (λ entry acts ending. did ≡ given_as words entries number entry (framed (pieces words entry) acts) ending)
LineDoes c words entries line.Scrub bytes did =
    ((c.info.protected ≡ true) × (did ≡ line_refused [] entries why.Protected))
    ⊎ ((c.info.protected ≡ false) × ((acts : List Act) × ScrubsAs Shallow c words entries acts
    × (did ≡ record { acts = acts; entries = entries })))
LineDoes c words entries (line.Lose segment sector) bytes did =
    (¬ (IsPlace c.info.segments_per_track segment sector) × (did ≡ line_refused [] entries (why.Place segment sector)))
    ⊎ (IsPlace c.info.segments_per_track segment sector
    × (did ≡ record { acts = record { steps = Wear segment sector ∷ []; text = lost_line segment sector } ∷ []; entries = entries }))
LineDoes c words entries line.End bytes did = ⊥

-- ---- items one after the other

-- the acts of all
abbrev pub acts_of : List Did → List Act
acts_of dids = flat_map (λ did. did.acts) dids

-- the volumes behind the last
abbrev pub entries_behind : List Entry → List Did → List Entry
entries_behind entries dids = fold (λ before did. did.entries) entries dids

-- the cartridge behind the last
abbrev pub cartridge_behind : Cartridge → List Did → Cartridge
cartridge_behind c dids = fold (λ before did. changed_by (steps_of did.acts) before) c dids

-- each item did this, on the cartridge and with the volumes as those before it left them
abbrev pub ItemsDo : Cartridge → (words : List ℕ) → List Entry → List Item → List Did → Type 0
ItemsDo c words entries [] [] = Unit {0}
ItemsDo c words entries (item ∷ items) (did ∷ dids) =
    LineDoes c words entries item.line item.bytes did × ItemsDo (changed_by (steps_of did.acts) c) words did.entries items dids
ItemsDo c words entries items dids = ⊥

-- ---- the end

-- The last acts, behind which these bytes are left: the reply `end`; or in front of a fault in the line with this number,
-- which begins these bytes, those of an append whose bytes end early, and none where no line is read.
abbrev pub EndDoes : Cartridge → (words : List ℕ) → List Entry → (rest : List ℕ) → Ending → List Act → Type 0
EndDoes c words entries rest (AtFault number place) acts =
    ((number ≤ most_items) × ((early : EndsEarly rest) × ((meeting : Meeting) × Meets c meeting
    × (acts ≡ acts_on c words entries early.name early.promised early.date early.bytes meeting))))
    ⊎ (((number ≤ most_items) → ¬ (EndsEarly rest)) × (acts ≡ []))
EndDoes c words entries rest other acts = acts ≡ reply end_line ∷ []

-- ---- the outcome

-- how many bytes of the input stand before what ends the items
abbrev pub place_behind : (number place : ℕ) (input : List ℕ) (items : List Item) (ending : Ending) →
    HasItems IsItem number place input items ending → ℕ
place_behind number place input [] ending read = place
place_behind number place input (item ∷ items) ending read =
    place_behind (number + 1) (place + length read.1.0) read.1.1.0 items ending read.1.1.1.2

-- how many bytes are taken: all of them; or those up to and with the line `end`; or at least those before the fault
abbrev pub items_taken : (input : List ℕ) (items : List Item) (ending : Ending) → IsScript input items ending → ℕ
items_taken input items AtEnd read = length input
items_taken input items AtStop read = place_behind 1 0 input items AtStop read + length (codes "end\n")
items_taken input items (AtFault number place) read = place

-- The plain machine: an input over a mounted cartridge with this map and these volumes.
pub record ScriptDoes (c : Cartridge) (words : List ℕ) (entries : List Entry) (input : List ℕ) (outcome : CommandOutcome) : Type 0 where
  pub items : List Item
  pub ending : Ending
  pub read : IsScript input items ending
  pub dids : List Did
  pub did : ItemsDo c words entries items dids
  pub last : List Act
  pub ends : EndDoes (cartridge_behind c dids) words (entries_behind entries dids)
      (drop (place_behind 1 0 input items ending read) input) ending last
  pub is : outcome ≡ record { acts = acts_of dids ++ last; taken = items_taken input items ending read; status = input_status ending }

-- the table is settled, and the lines of an input are carried out on the settled cartridge
pub record Scripting (input : List ℕ) (c : Cartridge) (header : Header) (words : List ℕ) (table : List (List ℕ)) (entries : List Entry)
    (outcome : CommandOutcome) : Type 0 where
  pub came : CommandOutcome
  pub does : ScriptDoes (settled table c) words entries input came
  pub is : outcome ≡ record came { acts = settling_act table c ∷ came.acts }

-- ---- a fault of the outside

-- Into the bytes behind some items so many were taken: of one line; of one item; or of an append whose bytes end early.
abbrev pub ReachesItem : (back : List ℕ) → (more : ℕ) → Type 0
ReachesItem back more =
    ReachesLine back more
    ⊎ (((item : Item) × ((text : List ℕ) × ((rest : List ℕ) × ((back ≡ text ++ rest) × IsItem text item × (more ≤ length text)))))
    ⊎ EndsEarly back)

-- the table was settled and these items were carried out and answered, all among these acts
abbrev pub AreDone : (held : Option Cartridge) → (done : List Act) → List Item → Type 0
AreDone held done [] = Unit {0}
AreDone held done items =
    IsSomeAnd held (λ c. (header : Header) × ((words : List ℕ) × ((table : List (List ℕ)) × ((entries : List Entry)
    × ((dids : List Did) × ((rest : List Act) × (Mounts c (Mounted header words table entries)
    × ItemsDo (settled table c) words entries items dids × (done ≡ (settling_act table c ∷ acts_of dids) ++ rest))))))))

-- ---- the command

-- the replies to the lines before a fault of the input, or before a volume table that doesn't show the list
abbrev pub script_refused : Status → List ℕ → Type 0
script_refused (status.ScriptFault line place) text = Unit {0}
script_refused status.TableMismatch text = Unit {0}
script_refused answer text = text ≡ []

-- The lines of a script, each append's with its bytes, go up to the end of the input or to the line `end`. The replies to them may be
-- any. A line that is refused is answered by its reply, so they need nothing but a cartridge that can be mounted; and they may add
-- volumes.
abbrev pub script_command : Command
script_command =
    record (plain_command ((Word (codes "script") ∷ []) ∷ []) (λ held input outcome. OpenOutcome (Scripting input) held outcome)
    (λ text. (replies : List ℕ) × (text ≡ replies ++ end_line))) {
      traits = record none_of_them {
        reads = true;
        lines = true;
        goes = true;
        memory = true;
        cartridge = true;
        mounts = true;
        appends = true;
      };
      refused = script_refused;
      reaches = λ held input outcome done taken. Reaches IsItem (AreDone held done) ReachesItem input taken;
      fault = λ input line place. (items : List Item) × IsScript input items (AtFault line place);
      needs = λ held input. IsSomeAnd held CanBeMounted
          × ((items : List Item) × (IsScript input items AtEnd ⊎ IsScript input items AtStop));
      keeps_volumes = λ c plain. ⊥;
      keeps_list = λ c. ⊥;
    }
