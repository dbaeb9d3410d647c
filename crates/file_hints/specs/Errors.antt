-- What glibc calls the errors of Linux that a call of a file may give.
use Rattle.std.specs.Prelude.{ℕ, List, [], ◌∷◌, codes, ◌==◌, if◌then◌else◌}

abbrev pub error_names : List (ℕ × List ℕ)
error_names =
    (1, codes "Operation not permitted") ∷
    (2, codes "No such file or directory") ∷
    (4, codes "Interrupted system call") ∷
    (5, codes "Input/output error") ∷
    (6, codes "No such device or address") ∷
    (9, codes "Bad file descriptor") ∷
    (11, codes "Resource temporarily unavailable") ∷
    (12, codes "Cannot allocate memory") ∷
    (13, codes "Permission denied") ∷
    (16, codes "Device or resource busy") ∷
    (17, codes "File exists") ∷
    (19, codes "No such device") ∷
    (20, codes "Not a directory") ∷
    (21, codes "Is a directory") ∷
    (22, codes "Invalid argument") ∷
    (23, codes "Too many open files in system") ∷
    (24, codes "Too many open files") ∷
    (26, codes "Text file busy") ∷
    (27, codes "File too large") ∷
    (28, codes "No space left on device") ∷
    (30, codes "Read-only file system") ∷
    (36, codes "File name too long") ∷
    (37, codes "No locks available") ∷
    (38, codes "Function not implemented") ∷
    (40, codes "Too many levels of symbolic links") ∷
    (75, codes "Value too large for defined data type") ∷
    (95, codes "Operation not supported") ∷
    (107, codes "Transport endpoint is not connected") ∷
    (110, codes "Connection timed out") ∷
    (112, codes "Host is down") ∷
    (116, codes "Stale file handle") ∷
    (117, codes "Structure needs cleaning") ∷
    (121, codes "Remote I/O error") ∷
    (122, codes "Disk quota exceeded") ∷
    (123, codes "No medium found") ∷
    []

abbrev pub name_in : List (ℕ × List ℕ) → ℕ → List ℕ
name_in [] number = []
name_in (row ∷ rows) number = if number == row.0 then row.1 else name_in rows number

-- nothing for another number
abbrev pub error_name : (number : ℕ) → List ℕ
error_name number = name_in error_names number
