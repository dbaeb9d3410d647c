-- The laws of tables that have no compressed volume, as facts (this project's own).
use Rattle.std.specs.Prelude.{◌≡◌, ◌<◌, [], length}
use Rattle.cartridge_spec.specs.Appending.{Content}
use Rattle.cartridge_spec.specs.Volumes.{IsPlain, Plain, entries_of}
use Rattle.salvage_laws.specs.Exported.{IsUncompressed}
use Rattle.cartridge_laws.specs.AppendLaws.{with_content}

-- a plain cartridge has none
abbrev pub HasNoneCompressed : Plain → Type 0
HasNoneCompressed plain = IsUncompressed plain.table_area (entries_of plain)

-- without a volume
abbrev pub EmptyHasNone : Type 0
EmptyHasNone = (plain : Plain) → plain.volumes ≡ [] → HasNoneCompressed plain

-- An append adds none: so a cartridge on which `tape` alone appended has none.
abbrev pub AppendAddsNone : Type 0
AppendAddsNone =
    (plain : Plain) (content : Content) → IsPlain plain → length plain.volumes < 232 → length content.name ≡ 44 →
    HasNoneCompressed plain → HasNoneCompressed (with_content plain content)
