-- Worked values of the lists of segments and of bad sectors, as facts. None comes of evaluating a definition.
use Rattle.std.specs.Prelude.{◌≡◌, [], ◌∷◌, ◌++◌, codes, replicate, Some, None, true, false, map}
use Rattle.dump_spec.specs.Lists.{line_numbers, missing_reading, bad_reading, Listed, Fault, span, bad_sectors, is_missing}

-- ---- lines

abbrev pub OneNumber : Type 0
OneNumber = line_numbers (codes "17") ≡ Some (17 ∷ [])

-- spaces and tabs part words
abbrev pub TwoNumbers : Type 0
TwoNumbers = line_numbers (codes " 8\t 1 ") ≡ Some (8 ∷ 1 ∷ [])

abbrev pub LeadingZeros : Type 0
LeadingZeros = line_numbers (codes "000000012") ≡ Some (12 ∷ [])

-- a number has at most nine digits
abbrev pub TenDigits : Type 0
TenDigits = line_numbers (codes "0000000012") ≡ None

-- no line has three numbers
abbrev pub ThreeWords : Type 0
ThreeWords = missing_reading (codes "1 2 3") ≡ Fault 1

abbrev pub Remark : Type 0
Remark = line_numbers (codes "# from a tape") ≡ Some []

-- behind a number no remark can stand
abbrev pub LateRemark : Type 0
LateRemark = line_numbers (codes "8 # bad") ≡ None

-- 31 bytes are a line, a remark too, and 32 are none
abbrev pub LongRemark : Type 0
LongRemark = map line_numbers (replicate 31 35 ∷ replicate 32 35 ∷ []) ≡ Some [] ∷ None ∷ []

-- the carriage return is not among the 31
abbrev pub LongLine : Type 0
LongLine = missing_reading (replicate 30 32 ++ codes "5\r\n") ≡ Listed (span 5 5 ∷ [])

-- ---- lists

abbrev pub MissingLines : Type 0
MissingLines = missing_reading (codes "# lost\n\n7\n9 10\r\n12") ≡ Listed (span 7 7 ∷ span 9 10 ∷ span 12 12 ∷ [])

abbrev pub BackwardsSpan : Type 0
BackwardsSpan = missing_reading (codes "7\n5 4\n") ≡ Fault 2

-- segments are below 65,536
abbrev pub HighSegment : Type 0
HighSegment = map missing_reading (codes "65535" ∷ codes "65536" ∷ []) ≡ Listed (span 65535 65535 ∷ []) ∷ Fault 1 ∷ []

-- one sector, and all of a segment
abbrev pub BadLines : Type 0
BadLines = bad_reading (codes "8 1\n9\n") ≡ Listed (bad_sectors 8 1 1 ∷ bad_sectors 9 0 31 ∷ [])

abbrev pub Sector32 : Type 0
Sector32 = bad_reading (codes "8 32\n") ≡ Fault 1

-- the first line at fault is told
abbrev pub FaultBehindFaultless : Type 0
FaultBehindFaultless = bad_reading (codes "8\nx\ny\n") ≡ Fault 2

-- a carriage return that no newline follows is no blank
abbrev pub LoneReturn : Type 0
LoneReturn = missing_reading (codes "8\r") ≡ Fault 1

abbrev pub MissingInside : Type 0
MissingInside = map (is_missing (span 9 10 ∷ span 4 4 ∷ [])) (3 ∷ 4 ∷ 8 ∷ 9 ∷ 10 ∷ 11 ∷ [])
    ≡ false ∷ true ∷ false ∷ true ∷ true ∷ false ∷ []
