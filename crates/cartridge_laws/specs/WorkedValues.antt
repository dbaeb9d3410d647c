-- Worked values: what definitions give at small values, as facts. Each value stands in the tables and worked examples of the
-- formats that the definitions are of; none comes of evaluating a definition.
use Rattle.std.specs.Prelude.{ℕ, ◌≡◌, List, [], ◌∷◌, ◌++◌, replicate, length, Some, None, codes, take, slice_range, slice_get, All, map}
use Rattle.std.specs.List.{range_with_len}
use Rattle.cartridge_spec.specs.Appending.{free_segments, room, taken_by, new_entry}
use Rattle.cartridge_laws.specs.TableCells.{table_places, table_sets}
use Rattle.cartridge_laws.specs.Slots.{slot_sector, BadRange, ForeignSlot}
use Rattle.cartridge_laws.specs.HeaderTerms.{fault_as}
use Rattle.cartridge_spec.specs.Code.{parity, value_at, product, power}
use Rattle.gf256_qic.specs.Code.{inverse}
use Rattle.cartridge_spec.specs.Header.{Holds, profile_fields, header_fields, header_fault, number}
use Rattle.cartridge_spec.specs.Formatting.{fresh_header, copy_writes, clearing_steps}
use Rattle.cartridge_spec.specs.Says.{whole_mask}
use Rattle.cartridge_spec.specs.Shape.{capacity, usable_places, marked_sectors, mask_of}
use Rattle.cartridge_spec.specs.Table.{slot_bytes, entry_in, slot_fault, Entry}
use Rattle.cartridge_spec.specs.Volumes.{volume_length}
use Rattle.qic_base.specs.Cartridge.{new_cartridge, IsPlace, IsLength}
use Rattle.qic_base.specs.Field.{date_word, IsDate, filled, IsNameText}
use Rattle.qic_base.specs.DateTerms.{ShowsDate}
use Rattle.qic_base.specs.Step.{write_sector, FormatSegment, SetReferenced}
use Rattle.qic_base.specs.declared.foreign.ForeignField.TheVariants.{FormatCode}
use Rattle.qic_base.specs.declared.tape.SectorView.{SectorView}
use Rattle.qic_base.specs.declared.tape.SectorView.TheVariants as view

-- ---- the field and the code

-- 0xC0 times 0xC0 is 0xA7
abbrev pub SquareOfC0 : Type 0
SquareOfC0 = product 0xC0 0xC0 ≡ 0xA7

-- 0x02 to the power 8 is 0x87
abbrev pub EighthPower : Type 0
EighthPower = power 0x02 8 ≡ 0x87

-- the inverse of 0x02 is 0xC3
abbrev pub InverseOfTwo : Type 0
InverseOfTwo = inverse 0x02 ≡ 0xC3

-- a column of the data byte 01 has the parity C0 C0 01
abbrev pub ParityOfOneByte : Type 0
ParityOfOneByte = parity (0x01 ∷ []) ≡ 0xC0 ∷ 0xC0 ∷ 0x01 ∷ []

-- a column of the data bytes 01 00 has the parity 67 A6 C0
abbrev pub ParityOfTwoBytes : Type 0
ParityOfTwoBytes = parity (0x01 ∷ 0x00 ∷ []) ≡ 0x67 ∷ 0xA6 ∷ 0xC0 ∷ []

-- the column 01 C0 C0 01, the generator, is 0 at its three roots
abbrev pub GeneratorAtItsRoots : Type 0
GeneratorAtItsRoots = map (λ p. value_at p (0x01 ∷ 0xC0 ∷ 0xC0 ∷ 0x01 ∷ [])) (0xC3 ∷ 0x01 ∷ 0x02 ∷ [])
    ≡ 0 ∷ 0 ∷ 0 ∷ []

-- with a last byte 00 it is not, at 1
abbrev pub WrongByteShows : Type 0
WrongByteShows = value_at 0x01 (0x01 ∷ 0xC0 ∷ 0xC0 ∷ 0x00 ∷ []) ≡ 1

-- ---- dates

-- 12:00:00 on 1 March 1994 is the word 0x305265C0
abbrev pub NoonInMarch : Type 0
NoonInMarch = date_word 1994 3 1 12 0 0 ≡ 0x305265C0

-- .. and the word shows that date
abbrev pub NoonInMarchIsRead : Type 0
NoonInMarchIsRead = ShowsDate 0x305265C0 1994 3 1 12 0 0

-- the last second of 31 December 2097, the last date, is the word 0xFFEA6DFF
abbrev pub LastSecond : Type 0
LastSecond = date_word 2097 12 31 23 59 59 ≡ 0xFFEA6DFF

-- no month has a day 32
abbrev pub NoDay32 : Type 0
NoDay32 = ¬ (IsDate 1994 3 32 0 0 0)

-- ---- segments

-- a segment without a bad sector carries 29,696 bytes
abbrev pub WholeCapacity : Type 0
WholeCapacity = capacity whole_mask ≡ 29696

-- with 28 bad sectors it carries 1,024
abbrev pub FourUsable : Type 0
FourUsable = capacity (mask_of 0x0FFF_FFFF) ≡ 1024

-- with 29 it carries nothing
abbrev pub ThreeUsable : Type 0
ThreeUsable = capacity (mask_of 0x1FFF_FFFF) ≡ 0

-- where the sectors 0 to 27 are bad, 28 to 31 are usable
abbrev pub LastFour : Type 0
LastFour = usable_places (mask_of 0x0FFF_FFFF) ≡ 28 ∷ 29 ∷ 30 ∷ 31 ∷ []

-- a map that marks the sectors 3 to 7 of segment 10 alone has five bad sectors
abbrev pub FiveMarks : Type 0
FiveMarks = marked_sectors (replicate 10 0 ++ 0xF8 ∷ replicate 20 0) ≡ 5

-- a new cartridge of 3 segments per track has 2,688 sectors
abbrev pub NewSectors : Type 0
NewSectors = length (new_cartridge 3).views ≡ 2688

-- ---- the header of a cartridge of 3 segments per track, with the label L and the date 0x305265C0

-- its first 78 bytes, with this format code
abbrev pub header_bytes : (format_code : ℕ) → List (List ℕ)
header_bytes format_code =
    ((0x55 ∷ 0xAA ∷ 0x55 ∷ 0xAA ∷ format_code ∷ 0x00 ∷ 0x00 ∷ 0x00 ∷ 0x01 ∷ 0x00 ∷ 0x02 ∷ 0x00 ∷ 0x53 ∷ 0x00 ∷ 0xC0 ∷ 0x65 ∷ 0x52 ∷ 0x30
    ∷ 0xC0 ∷ 0x65 ∷ 0x52 ∷ 0x30 ∷ 0x00 ∷ 0x00 ∷ 0x03 ∷ 0x00 ∷ 0x1C ∷ 0x00 ∷ 0x95 ∷ 0x80 ∷ [])
    ++ filled (codes "L") ++ (0xC0 ∷ 0x65 ∷ 0x52 ∷ 0x30 ∷ [])) ∷ []

-- the fields that follow from the length
abbrev pub HeaderHolds : Type 0
HeaderHolds = All (Holds (header_bytes 2)) (profile_fields 3)

-- the fields that it tells
abbrev pub HeaderTells : Type 0
HeaderTells = All (Holds (header_bytes 2)) (header_fields (fresh_header 3 (filled (codes "L")) 0x305265C0))

-- it is refused by no test
abbrev pub HeaderIsSound : Type 0
HeaderIsSound = header_fault (header_bytes 2) 3 ≡ None

-- the format code 4 is refused as foreign, with that value
abbrev pub FormatCode4 : Type 0
FormatCode4 = header_fault (header_bytes 4) 3 ≡ Some (fault_as FormatCode 4)

-- the last head of a cartridge of 246 segments per track is 11
abbrev pub HeadOfTheLongest : Type 0
HeadOfTheLongest = slice_get (profile_fields 246) 9 ≡ Some (number 27 1 11)

-- ---- lengths, places and names

-- 2 segments per track are too few
abbrev pub ShortestLength : Type 0
ShortestLength = ¬ (IsLength 2)

-- 151 are a length
abbrev pub Length151 : Type 0
Length151 = IsLength 151

-- 247 are too many
abbrev pub LongestLength : Type 0
LongestLength = ¬ (IsLength 247)

-- at 3 segments per track there is no segment 84
abbrev pub NoSegment84 : Type 0
NoSegment84 = ¬ (IsPlace 3 84 0)

-- and no sector 32
abbrev pub NoSector32 : Type 0
NoSector32 = ¬ (IsPlace 3 0 32)

-- no name ends with a space
abbrev pub NoSpaceAtTheEnd : Type 0
NoSpaceAtTheEnd = ¬ (IsNameText (codes "a "))

-- a name fills 44 bytes
abbrev pub NameWidth : Type 0
NameWidth = length (filled (codes "made-1")) ≡ 44

-- ---- formatting

-- a header copy: sectors 1 to 31, ascending, then sector 0
abbrev pub CopyOrder : Type 0
CopyOrder = copy_writes 1 (replicate 32 [])
    ≡ map (λ i. write_sector 1 i []) (range_with_len 1 31) ++ write_sector 1 0 [] ∷ []

-- with 3 segments per track: the reference bursts, and then 84 segments
abbrev pub Clearing : Type 0
Clearing = clearing_steps 3 ≡ SetReferenced ∷ map (λ s. FormatSegment s) (range_with_len 0 84)

-- ---- room, on a cartridge of 3 segments per track without a bad sector

-- an empty cartridge has room for 2,405,376 bytes
abbrev pub EmptyRoom : Type 0
EmptyRoom = room (replicate 84 0) [] ≡ 2405376

-- .. in the segments 3 to 83
abbrev pub EmptyFree : Type 0
EmptyFree = free_segments (replicate 84 0) [] ≡ range_with_len 3 81

-- a volume of 29,696 bytes takes segment 3
abbrev pub OneSegment : Type 0
OneSegment = taken_by (replicate 84 0) 29696 (free_segments (replicate 84 0) []) ≡ 3 ∷ []

-- one of 29,697 takes the segments 3 and 4
abbrev pub TwoSegments : Type 0
TwoSegments = taken_by (replicate 84 0) 29697 (free_segments (replicate 84 0) []) ≡ 3 ∷ 4 ∷ []

-- one of no byte takes segment 3
abbrev pub NoByte : Type 0
NoByte = taken_by (replicate 84 0) 0 (free_segments (replicate 84 0) []) ≡ 3 ∷ []

-- one of 2,405,376 takes all of them
abbrev pub AllSegments : Type 0
AllSegments = taken_by (replicate 84 0) 2405376 (free_segments (replicate 84 0) []) ≡ range_with_len 3 81

-- with 28 bad sectors in segment 4 one of 30,720 bytes takes the segments 3 and 4
abbrev pub FewUsable : Type 0
FewUsable = let words : List ℕ = replicate 4 0 ++ 0x0FFF_FFFF ∷ replicate 79 0 in taken_by words 30720 (free_segments words [])
    ≡ 3 ∷ 4 ∷ []

-- with 29 it takes 3 and 5
abbrev pub TooFewUsable : Type 0
TooFewUsable = let words : List ℕ = replicate 4 0 ++ 0x1FFF_FFFF ∷ replicate 79 0 in taken_by words 30720 (free_segments words [])
    ≡ 3 ∷ 5 ∷ []

-- ---- the volume table, with a volume `a` of 10 bytes and the date 0x305265C0 in segment 3

-- its entry, with this segment and these bytes
abbrev pub entry_of : (segment bytes : ℕ) → Entry
entry_of segment bytes = new_entry (segment ∷ []) (filled (codes "a")) 0x305265C0 bytes

-- its slot begins with 56 54 42 4C 03 00 03 00 61
abbrev pub SlotBegins : Type 0
SlotBegins = take 9 (slot_bytes (entry_of 3 10)) ≡ 0x56 ∷ 0x54 ∷ 0x42 ∷ 0x4C ∷ 0x03 ∷ 0x00 ∷ 0x03 ∷ 0x00 ∷ 0x61 ∷ []

-- its bytes 52 to 57 are C0 65 52 30 01 01
abbrev pub SlotDate : Type 0
SlotDate = slice_range (slot_bytes (entry_of 3 10)) 52 58 ≡ 0xC0 ∷ 0x65 ∷ 0x52 ∷ 0x30 ∷ 0x01 ∷ 0x01 ∷ []

-- its bytes 96 to 103 are 0A 00 00 00 00 00 00 00
abbrev pub SlotSize : Type 0
SlotSize = slice_range (slot_bytes (entry_of 3 10)) 96 104
    ≡ 0x0A ∷ 0x00 ∷ 0x00 ∷ 0x00 ∷ 0x00 ∷ 0x00 ∷ 0x00 ∷ 0x00 ∷ []

-- it has 128 bytes
abbrev pub SlotWidth : Type 0
SlotWidth = length (slot_bytes (entry_of 3 10)) ≡ 128

-- the slot is read as the entry
abbrev pub SlotReadAgain : Type 0
SlotReadAgain = entry_in (slot_bytes (entry_of 3 10)) ≡ entry_of 3 10

-- the ninth slot is in sector 1, so its append writes the sectors 1, 29, 30 and 31, in this order
abbrev pub NinthWrites : Type 0
NinthWrites = table_places (slot_sector 8) ≡ 1 ∷ 29 ∷ 30 ∷ 31 ∷ []

-- a volume that starts in segment 2 is refused by the first slot's range
abbrev pub StartInFront : Type 0
StartInFront = slot_fault (slot_bytes (entry_of 2 10) ∷ []) 83 0 ≡ Some (BadRange 0)

-- the signature XTBL is refused as foreign
abbrev pub OtherSignature : Type 0
OtherSignature = slot_fault (codes "XTBL" ∷ []) 83 0 ≡ Some (ForeignSlot 0)

-- so is a used slot behind a free one
abbrev pub UsedBehindFree : Type 0
UsedBehindFree = slot_fault ((replicate 128 0 ++ codes "VTBL") ∷ []) 83 1 ≡ Some (ForeignSlot 1)

-- the length is the data size, 10 bytes
abbrev pub SizeFits : Type 0
SizeFits = volume_length (replicate 84 0) (entry_of 3 10) ≡ 10

-- a data size of 29,697 bytes is more than one segment carries: the length is then 29,696
abbrev pub SizeTooLarge : Type 0
SizeTooLarge = volume_length (replicate 84 0) (entry_of 3 29697) ≡ 29696

-- ---- the sets that the reading of a table tries: none first, and then by the unreadable sectors

-- a sector whose first slot is used
abbrev pub used : SectorView
used = view.Holds (codes "VTBL")

-- a sector without a used slot
abbrev pub free : SectorView
free = view.Holds []

-- sector 5 alone, and sector 0 the last with a used slot: 5 and 31; 5 and 29; 5 and 0; 5, 30 and 31
abbrev pub DataAlone : Type 0
DataAlone = table_sets (used ∷ replicate 4 free ++ view.Lost ∷ replicate 26 free)
    ≡ 0 ∷ 0x80000020 ∷ 0x20000020 ∷ 0x21 ∷ 0xC0000020 ∷ []

-- without a used slot the set with such a sector is passed over
abbrev pub NoUsedSlot : Type 0
NoUsedSlot = table_sets (replicate 5 free ++ view.Lost ∷ replicate 26 free)
    ≡ 0 ∷ 0x80000020 ∷ 0x20000020 ∷ 0xC0000020 ∷ []

-- sectors 5 and 29: 5, 29 and 0
abbrev pub DataAndFirstParity : Type 0
DataAndFirstParity = table_sets (used ∷ replicate 4 free ++ view.Lost ∷ replicate 23 free ++ view.Lost ∷ replicate 2 free)
    ≡ 0 ∷ 0x20000021 ∷ []

-- sectors 1 and 30: 1, 30 and 31
abbrev pub DataAndSecondParity : Type 0
DataAndSecondParity = table_sets (used ∷ view.Lost ∷ replicate 28 free ++ view.Lost ∷ free ∷ [])
    ≡ 0 ∷ 0xC0000002 ∷ []

-- sectors 5 and 31: no other
abbrev pub DataAndLastParity : Type 0
DataAndLastParity = table_sets (used ∷ replicate 4 free ++ view.Lost ∷ replicate 25 free ++ view.Lost ∷ []) ≡ 0 ∷ []

-- two sectors of data: no other
abbrev pub TwoData : Type 0
TwoData = table_sets (used ∷ replicate 4 free ++ replicate 2 view.Lost ++ replicate 25 free) ≡ 0 ∷ []
