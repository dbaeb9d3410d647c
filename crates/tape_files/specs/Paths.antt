-- The folder of a file by its path, and what a symbolic link names (POSIX, pathname resolution).
use Rattle.std.specs.Prelude.{ℕ, List, [], ◌∷◌, Option, Some, None}
use Rattle.std.specs.Option.{unwrap_or}
use Rattle.std.specs.Path.{path_join, path_parent}

-- the folder in which a path names a file, by its text alone
abbrev pub named_folder : Option (List ℕ) → List ℕ
named_folder None = 46 ∷ []
named_folder (Some []) = 46 ∷ []
named_folder (Some (byte ∷ bytes)) = byte ∷ bytes

-- it is `.` where the path is a name alone
abbrev pub folder_name : (path : List ℕ) → List ℕ
folder_name path = named_folder (path_parent path)

-- what a link names, by its own path: from its folder on, or from the root where it begins there
abbrev pub behind_link : (path link : List ℕ) → List ℕ
behind_link path link = path_join (unwrap_or (path_parent path) path) link
