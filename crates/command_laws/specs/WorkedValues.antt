-- Worked values: what definitions give at small values, as facts. Each value stands in the tables and worked examples of
-- the formats and commands that the definitions are of; none comes of evaluating a definition.
use Rattle.qic_base.specs.Cartridge.{Cartridge}
use Rattle.std.specs.Prelude.{ℕ, ◌≡◌, List, [], ◌∷◌, ◌++◌, replicate, length, Some, None, codes, true, false, map, Bool}
use Rattle.std.specs.List.{range_with_len}
use Rattle.cartridge_spec.specs.Appending.{room, taken_by, new_entry, entry_behind}
use Rattle.cartridge_spec.specs.Formatting.{fresh_header}
use Rattle.cartridge_spec.specs.Says.{LostSectors, Mismatch}
use Rattle.cartridge_spec.specs.Table.{Entry}
use Rattle.cartridge_spec.specs.Volumes.{carrying}
use Rattle.command_spec.specs.Append.{append_acts, taking, TooLong, TooShort, kept_over}
use Rattle.command_laws.specs.MadeTerms.{made_byte}
use Rattle.command_laws.specs.AppendTerms.{bytes_taken, status_by_room}
use Rattle.command_laws.specs.Inputs.{words_of}
use Rattle.command_spec.specs.Command.{IsNumber}
use Rattle.command_spec.specs.Make.{made_length, sum_line, made_name, wearing_in, WearSector}
use Rattle.command_spec.specs.Input.{IsScript, AtStop}
use Rattle.command_spec.specs.Lines.{blank_line, defect_line, lost_line, protected_line, room_line, upgraded_line, formatted_line}
use Rattle.command_spec.specs.Lines.{list_text, info_text, reply_behind, date_text, name_text}
use Rattle.command_laws.specs.PulseRuns.{after_trains}
use Rattle.command_spec.specs.Pulses.{train_acts}
use Rattle.command_spec.specs.Restore.{pieces, framed, Restored}
use Rattle.command_spec.specs.Script.{refusal_line, given_as}
use Rattle.command_spec.specs.Scrub.{counts_line, fault_line, looked_at, wrong_line, line_in, whole_segment}
use Rattle.drive_spec.specs.Terms.{status_word, power_on_deck}
use Rattle.drive_spec.specs.Record.{Record, power_on}
use Rattle.qic_base.specs.Acts.{text_of}
use Rattle.qic_base.specs.Field.{filled}
use Rattle.qic_base.specs.declared.tape.TapeInfo.{TapeInfo}
use Rattle.command_spec.specs.Machine.{Spells}
use Rattle.command_laws.specs.WorkedCopies.{whole_map}
use Rattle.command_spec.specs.declared.line.Line.TheVariants as line
use Rattle.command_spec.specs.declared.refusal.Refusal.TheVariants as why
use Rattle.command_spec.specs.declared.status.Status.TheVariants as status
use Rattle.command_spec.specs.declared.words.Words.TheVariants as words
use Rattle.drive_spec.specs.declared.deck.Motion.TheVariants as motion

-- ---- lines that commands print

-- the entry of a volume `a` of 10 bytes with the date 0x305265C0 in segment 3
abbrev pub first_entry : Entry
first_entry = new_entry (3 ∷ []) (filled (codes "a")) 0x305265C0 10

-- a new cartridge of 3 segments per track
abbrev pub BlankLine : Type 0
BlankLine = blank_line 3 ≡ codes "blank 3\n"

-- the room of a cartridge of 3 segments per track without a bad sector, with one volume in segment 3: that of 80 segments
abbrev pub RoomTold : Type 0
RoomTold = room_line (room (replicate 84 0) (first_entry ∷ [])) ≡ codes "room 2375680\n"

-- a defect
abbrev pub DefectLine : Type 0
DefectLine = defect_line 4 0 ≡ codes "defect 4 0\n"

-- a lost sector
abbrev pub LostLine : Type 0
LostLine = lost_line 4 31 ≡ codes "lost 4 31\n"

-- the protect mark
abbrev pub ProtectedLine : Type 0
ProtectedLine = protected_line true ≡ codes "protected on\n"

-- an upgrade from version 1
abbrev pub UpgradedLine : Type 0
UpgradedLine = upgraded_line 1 ≡ codes "upgraded from 1\n"

-- 84 segments formatted, with 28 bad sectors
abbrev pub FormattedLine : Type 0
FormattedLine = formatted_line 84 28 ≡ codes "formatted 84 28\n"

-- a cartridge of 3 segments per track with the label L and the date 0
abbrev pub InfoText : Type 0
InfoText = info_text (fresh_header 3 (filled (codes "L")) 0) (replicate 84 0) 0
    ≡ codes "label L\nformatted 1970-01-01T00:00:00\nsegments 84\nbad sectors 0\nvolumes 0\n"

-- a list without volumes
abbrev pub EmptyList : Type 0
EmptyList = list_text (replicate 84 0) [] ≡ codes "volumes 0\n"

-- a list with one
abbrev pub OneVolumeListed : Type 0
OneVolumeListed = list_text (replicate 84 0) (first_entry ∷ [])
    ≡ codes "1 3 3 10 1994-03-01T12:00:00 a\nvolumes 1\n"

-- a first volume of 29,697 bytes in the segments 3 and 4
abbrev pub AppendedLine : Type 0
AppendedLine = reply_behind 0 (new_entry (3 ∷ 4 ∷ []) (filled (codes "a")) 0 29697) ≡ codes "appended 1 29697 3 4\n"

-- a scrub of 586 segments that sent 10 writes
abbrev pub ScrubLine : Type 0
ScrubLine = counts_line (record { segments = 586; mended = 10; unreadable = 0 }) ≡ codes "scrub 586 10 0\n"

-- a header copy that does not read
abbrev pub HeaderLine : Type 0
HeaderLine = line_in (whole_segment 1) Mismatch ≡ codes "header 1 unreadable\n"

-- a segment that lost four sectors
abbrev pub LostSegmentLine : Type 0
LostSegmentLine = fault_line 4 (LostSectors 4) ≡ codes "lost 4 4\n"

-- a segment whose sectors do not agree
abbrev pub MismatchLine : Type 0
MismatchLine = fault_line 4 Mismatch ≡ codes "mismatch 4\n"

-- the wrong sector 0 of segment 3
abbrev pub WrongLine : Type 0
WrongLine = wrong_line 3 (Some 0) ≡ codes "wrong 3 0\n"

-- the last date
abbrev pub LastDateText : Type 0
LastDateText = date_text 0xFFEA6DFF ≡ codes "2097-12-31T23:59:59"

-- a word one above the greatest low part is no date
abbrev pub NoDateText : Type 0
NoDateText = date_text 0x01EA6E00 ≡ codes "?"

-- filling is cut at the end of a name, and a byte outside 0x20 to 0x7E is a question mark
abbrev pub NameText : Type 0
NameText = name_text (codes "a" ++ 0x80 ∷ 0x20 ∷ codes "b" ++ 0x00 ∷ 0x20 ∷ []) ≡ codes "a? b"

-- ---- words of commands

-- `list`
abbrev pub ListWord : Type 0
ListWord = Spells (codes "list" ∷ []) words.List

-- `scrub deep`
abbrev pub DeepWords : Type 0
DeepWords = Spells (codes "scrub" ∷ codes "deep" ∷ []) words.ScrubDeep

-- `scrub deep` is not `scrub`, ..
abbrev pub DeepIsNotScrub : Type 0
DeepIsNotScrub = ¬ (Spells (codes "scrub" ∷ codes "deep" ∷ []) words.Scrub)

-- .. nor `scrub` it
abbrev pub ScrubIsNotDeep : Type 0
ScrubIsNotDeep = ¬ (Spells (codes "scrub" ∷ []) words.ScrubDeep)

-- `new 151`
abbrev pub NewWords : Type 0
NewWords = Spells (codes "new" ∷ codes "151" ∷ []) (words.New 151)

-- `append a` with a date
abbrev pub AppendWords : Type 0
AppendWords = Spells (codes "append" ∷ codes "a" ∷ codes "1994-03-01T12:00:00" ∷ [])
    (words.Append (filled (codes "a")) 0x305265C0)

-- `append a` alone has the date word 0
abbrev pub AppendWithoutDate : Type 0
AppendWithoutDate = Spells (codes "append" ∷ codes "a" ∷ []) (words.Append (filled (codes "a")) 0)

-- `list now` is not `list`
abbrev pub ListNow : Type 0
ListNow = ¬ (Spells (codes "list" ∷ codes "now" ∷ []) words.List)

-- `new 247` is not `new`
abbrev pub New247 : Type 0
New247 = ¬ (Spells (codes "new" ∷ codes "247" ∷ []) (words.New 247))

-- `01` is not the number 1
abbrev pub LeadingZero : Type 0
LeadingZero = ¬ (IsNumber (codes "01") 1)

-- a number has at most nine digits
abbrev pub TenDigits : Type 0
TenDigits = ¬ (IsNumber (codes "1000000000") 1000000000)

-- the words of a line are parted by one space each
abbrev pub ThreeWords : Type 0
ThreeWords = words_of (codes "append a 3") ≡ codes "append" ∷ codes "a" ∷ codes "3" ∷ []

-- ---- what an append takes and a restore reads, on a cartridge of 3 segments per track without a bad sector

-- 59,393 bytes in the segments 3 to 5: two segments of 29,696, and one byte
abbrev pub ThreePieces : Type 0
ThreePieces = pieces (replicate 84 0) (new_entry (3 ∷ 4 ∷ 5 ∷ []) (filled (codes "a")) 0 59393)
    ≡ record { segment = 3; count = 29696 } ∷ record { segment = 4; count = 29696 }
    ∷ record { segment = 5; count = 1 } ∷ []

-- a promise of a byte beyond the room is full
abbrev pub PromisedTooMuch : Type 0
PromisedTooMuch = taking 2405376 (Some 2405377) [] ≡ TooLong 2405377 2405376

-- .. and no byte is taken
abbrev pub PromisedTakesNone : Type 0
PromisedTakesNone = bytes_taken (Some 2405377) (TooLong 2405377 2405376) ≡ 0

-- four bytes for a room of three are full, of which a byte more than the room is asked for
abbrev pub FourForThree : Type 0
FourForThree = status_by_room 3 (codes "abcd") ≡ status.Full 4 3

-- nine bytes where ten are promised end early
abbrev pub FewerThanPromised : Type 0
FewerThanPromised = taking 2405376 (Some 10) (codes "123456789") ≡ TooShort 10 9

-- ---- a script: an append of 3 bytes, a list, a restore and `end`, on an empty cartridge of 3 segments per track

-- the entry of the appended volume
abbrev pub script_entry : Entry
script_entry = entry_behind whole_map [] (filled (codes "a")) 0 (codes "abc")

-- its lines
abbrev pub ScriptIsRead : Type 0
ScriptIsRead = IsScript (codes "append a 3\nabclist\nrestore 1\nend\n")
    (record { line = line.Append (filled (codes "a")) 3 0; bytes = codes "abc" }
    ∷ record { line = line.List; bytes = [] } ∷ record { line = line.Restore 1; bytes = [] } ∷ []) AtStop

-- the reply to the append
abbrev pub AppendReplies : Type 0
AppendReplies = (c : Cartridge) (table : List (List ℕ)) →
    text_of (append_acts (kept_over c whole_map [] table) (filled (codes "a")) 0 (Some 3) (reply_behind 0) (codes "abc"))
    ≡ codes "appended 1 3 3 3\n"

-- the reply to the list
abbrev pub ListReplies : Type 0
ListReplies = list_text whole_map (script_entry ∷ []) ≡ codes "1 3 3 3 1970-01-01T00:00:00 a\nvolumes 1\n"

-- the reply to the restore, with the bytes in front of it
abbrev pub RestoreReplies : Type 0
RestoreReplies = text_of (given_as whole_map (script_entry ∷ []) 1 script_entry
    (framed (pieces whole_map script_entry) (record { steps = []; text = codes "abc" } ∷ [])) Restored).acts
    ≡ codes "part 3\nabcrestored 1 3\n"

-- a refusal for want of room
abbrev pub FullRefused : Type 0
FullRefused = refusal_line (why.Full 29697 29696) ≡ codes "refused full 29697 29696\n"

-- .. of a volume that is not there
abbrev pub NoVolumeRefused : Type 0
NoVolumeRefused = refusal_line (why.NoVolume 2 1) ≡ codes "refused no volume 2 of 1\n"

-- .. of a segment that lost four sectors
abbrev pub LostRefused : Type 0
LostRefused = refusal_line (why.Lost 4 4) ≡ codes "refused lost 4 4\n"

-- .. of one whose sectors do not agree
abbrev pub MismatchRefused : Type 0
MismatchRefused = refusal_line (why.Mismatch 3) ≡ codes "refused mismatch 3\n"

-- .. of a protected cartridge
abbrev pub ProtectedRefused : Type 0
ProtectedRefused = refusal_line why.Protected ≡ codes "refused protected\n"

-- .. of a sector that is not there
abbrev pub PlaceRefused : Type 0
PlaceRefused = refusal_line (why.Place 84 0) ≡ codes "refused place 84 0\n"

-- ---- a generated run of three volumes with the seed 150, on a long cartridge with 5 bad sectors in segment 10

-- the map of its first 600 segments
abbrev pub evening_words : List ℕ
evening_words = replicate 10 0 ++ 0xF8 ∷ replicate 589 0

-- the first volume has 5,652,000 bytes
abbrev pub FirstMade : Type 0
FirstMade = made_length 150 1 ≡ 5652000

-- the third has 5,854,000
abbrev pub ThirdMade : Type 0
ThirdMade = made_length 150 3 ≡ 5854000

-- the byte 0 of the first is 181, and byte 70 is 0
abbrev pub FirstByte : Type 0
FirstByte = map (made_byte 150 1) (0 ∷ 70 ∷ []) ≡ 181 ∷ 0 ∷ []

-- its name
abbrev pub MadeName : Type 0
MadeName = name_text (made_name 1) ≡ codes "made-1"

-- it takes the segments 3 to 193
abbrev pub FirstMadeSegments : Type 0
FirstMadeSegments = taken_by evening_words 5652000 (carrying evening_words 3 599) ≡ range_with_len 3 191

-- the second takes 194 to 387
abbrev pub SecondMadeSegments : Type 0
SecondMadeSegments = taken_by evening_words 5753000 (carrying evening_words 194 599) ≡ range_with_len 194 194

-- the third takes 388 to 585
abbrev pub ThirdMadeSegments : Type 0
ThirdMadeSegments = taken_by evening_words 5854000 (carrying evening_words 388 599) ≡ range_with_len 388 198

-- the first two sectors of the segments 100, 200, 300, 400 and 500 are worn
abbrev pub Worn : Type 0
Worn = wearing_in evening_words (carrying evening_words 3 585)
    ≡ WearSector 100 0 ∷ WearSector 100 1 ∷ WearSector 200 0 ∷ WearSector 200 1 ∷ WearSector 300 0
    ∷ WearSector 300 1 ∷ WearSector 400 0 ∷ WearSector 400 1 ∷ WearSector 500 0 ∷ WearSector 500 1 ∷ []

-- a scrub then looks at 586 segments
abbrev pub Looked : Type 0
Looked = length (looked_at evening_words (new_entry (3 ∷ 585 ∷ []) [] 0 0 ∷ [])) ≡ 586

-- the line of the first volume's sum
abbrev pub SumLine : Type 0
SumLine = sum_line 1 5652000 706499163 ≡ codes "volume 1 5652000 706499163\n"

-- ---- trains, on a newly inserted cartridge of 3 segments per track that is formatted

-- what the drive can tell of it, protected or not
abbrev pub inserted : (protected : Bool) → TapeInfo
inserted protected = record { segments_per_track = 3; protected = protected; referenced = true }

-- the drive
abbrev pub inserted_drive : Record
inserted_drive = power_on (Some (inserted false))

-- the trains that read the error word
abbrev pub error_read : List ℕ
error_read = 7 ∷ replicate 17 2

-- the train 6 and nine trains of 2: the status report
abbrev pub StatusLevels : Type 0
StatusLevels = text_of (train_acts inserted_drive (6 ∷ replicate 9 2)) ≡ codes "1\n1\n0\n1\n0\n1\n1\n1\n0\n1\n"

-- .. which is 0x75
abbrev pub StatusIs : Type 0
StatusIs = status_word (power_on_deck (Some (inserted false))) ≡ 0x75

-- the error word read, 13, 30, and read again: 0x0D07, for track 28 is illegal
abbrev pub IllegalTrackLevels : Type 0
IllegalTrackLevels = text_of (train_acts inserted_drive (error_read ++ 13 ∷ 30 ∷ error_read))
    ≡ codes "1\n0\n0\n0\n0\n0\n0\n0\n0\n0\n0\n0\n0\n0\n0\n0\n0\n1\n0\n0\n1\n1\n1\n1\n0\n0\n0\n0\n0\n1\n0\n1\n1\n0\n0\n0\n0\n1\n"

-- 6, 10, and the error word: 0x0A08, for the report was over at 10
abbrev pub ReportBrokenOff : Type 0
ReportBrokenOff = text_of (train_acts inserted_drive (6 ∷ 10 ∷ error_read))
    ≡ codes "1\n0\n1\n0\n0\n0\n1\n0\n0\n0\n0\n0\n1\n0\n1\n0\n0\n0\n0\n1\n"

-- the error word read, 14, 10, the error word and the status: 0x0A01, and 0x24, for the seek goes on
abbrev pub SeekGoesOn : Type 0
SeekGoesOn = text_of (train_acts inserted_drive (error_read ++ 14 ∷ 10 ∷ error_read ++ 6 ∷ replicate 9 2))
    ≡ codes
    "1\n0\n0\n0\n0\n0\n0\n0\n0\n0\n0\n0\n0\n0\n0\n0\n0\n1\n0\n0\n1\n1\n0\n0\n0\n0\n0\n0\n0\n0\n1\n0\n1\n0\n0\n0\n0\n1\n1\n0\n0\n1\n0\n0\n1\n0\n0\n1\n"

-- the error words after one train: 15, 16, 48, 28, 10 and 1
abbrev pub ErrorWords : Type 0
ErrorWords = map (λ train. (after_trains inserted_drive (train ∷ [])).deck.error) (15 ∷ 16 ∷ 48 ∷ 28 ∷ 10 ∷ 1 ∷ [])
    ≡ 0x0F0D ∷ 0x100E ∷ 0x3006 ∷ 0x1C09 ∷ 0x0A0D ∷ 0x011B ∷ []

-- 15 on a protected one
abbrev pub ProtectedError : Type 0
ProtectedError = (after_trains (power_on (Some (inserted true))) (15 ∷ [])).deck.error ≡ 0x0F05

-- 10 without a cartridge
abbrev pub NoCartridgeError : Type 0
NoCartridgeError = (after_trains (power_on None) (10 ∷ [])).deck.error ≡ 0x0A02

-- the error word read, 13 and 3: the head is on track 1, before the end of it, and seeks for 10 gaps
abbrev pub SoughtTrack : Type 0
SoughtTrack = let d = (after_trains inserted_drive (error_read ++ 13 ∷ 3 ∷ [])).deck in
    (d.track ≡ 1) × (d.offset ≡ 3) × (d.motion ≡ motion.Seeking 10)

-- .. and after ten gaps 25, 4, 2 and eighty gaps: the tape stands behind the first segment of the track
abbrev pub SkippedBack : Type 0
SkippedBack = let d = (after_trains inserted_drive (error_read ++ 13 ∷ 3 ∷ replicate 10 0
    ++ 25 ∷ 4 ∷ 2 ∷ replicate 80 0)).deck in
    (d.track ≡ 1) × (d.offset ≡ 1) × (d.motion ≡ motion.Stopped)
