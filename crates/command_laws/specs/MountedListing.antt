-- What a mounted cartridge is mounted as behind appends, worn sectors and scrubs, whatever the sectors of its volumes hold, as
-- facts (this project's own).
use Rattle.std.specs.Prelude.{ℕ, List, ◌≡◌, ◌^◌, ◌<◌, false, Option, ◌≢◌, ◌⊎◌, [], ◌++◌, ◌≤◌}
use Rattle.cartridge_spec.specs.Formatting.{IsLabel}
use Rattle.cartridge_spec.specs.Header.{Header}
use Rattle.cartridge_spec.specs.TableSegment.{TableIs}
use Rattle.cartridge_spec.specs.Mounting.{Mounted, Mounts, settled, Lists}
use Rattle.cartridge_spec.specs.Settling.{changed_by}
use Rattle.cartridge_spec.specs.Table.{Entry}
use Rattle.cartridge_spec.specs.Volumes.{worn}
use Rattle.command_laws.specs.MountedListed.{IsListed, listed_behind}
use Rattle.command_spec.specs.Append.{append_acts, room_in, taking, Taking, Fits, kept_over}
use Rattle.command_spec.specs.Scrub.{ScrubsAs}
use Rattle.command_spec.specs.declared.depth.Depth.TheVariants.{Shallow}
use Rattle.qic_base.specs.Acts.{steps_of, Act}
use Rattle.qic_base.specs.Cartridge.{Cartridge}

-- settling leaves it so
abbrev pub SettledLists : Type 0
SettledLists =
    (c : Cartridge) (header : Header) (words : List ℕ) (table : List (List ℕ)) (entries : List Entry) →
    Mounts c (Mounted header words table entries) → Lists (settled table c) header words entries

-- ---- an append

-- all of it leaves the list behind it, ..
abbrev pub AppendLists : Type 0
AppendLists =
    (c : Cartridge) (header : Header) (words : List ℕ) (entries : List Entry) (table : List (List ℕ)) (name : List ℕ) (date : ℕ)
    (promised : Option ℕ) (reply : Entry → List ℕ) (input : List ℕ) → Lists c header words entries → IsListed c words entries →
    c.info.protected ≡ false → TableIs c table → IsLabel name → date < 2 ^ 32 →
    Lists (changed_by (steps_of (append_acts (kept_over c words entries table) name date promised reply input)) c) header words
    (listed_behind (kept_over c words entries table) name date (taking (room_in (kept_over c words entries table)) promised input))

-- .. and a front of its acts the list before it, but for all acts where an entry is written
abbrev pub AddsNone : (rest : List Act) → Taking → Type 0
AddsNone rest became = (rest ≢ []) ⊎ ((bytes : List ℕ) → became ≢ Fits bytes)

abbrev pub AppendFrontLists : Type 0
AppendFrontLists =
    (c : Cartridge) (header : Header) (words : List ℕ) (entries : List Entry) (table : List (List ℕ)) (name : List ℕ) (date : ℕ)
    (promised : Option ℕ) (reply : Entry → List ℕ) (input : List ℕ) (front rest : List Act) → Lists c header words entries →
    IsListed c words entries → c.info.protected ≡ false → TableIs c table →
    front ++ rest ≡ append_acts (kept_over c words entries table) name date promised reply input →
    AddsNone rest (taking (room_in (kept_over c words entries table)) promised input) →
    Lists (changed_by (steps_of front) c) header words entries

-- ---- a worn sector, and a scrub

-- one behind the table's segment
abbrev pub WearLists : Type 0
WearLists =
    (c : Cartridge) (header : Header) (words : List ℕ) (entries : List Entry) (segment sector : ℕ) →
    Lists c header words entries → 3 ≤ segment → sector < 32 → Lists (worn segment sector c) header words entries

-- all of its acts, or a front of them
abbrev pub ScrubLists : Type 0
ScrubLists =
    (c : Cartridge) (header : Header) (words : List ℕ) (entries : List Entry) (acts front rest : List Act) →
    Lists c header words entries → ScrubsAs Shallow c words entries acts → front ++ rest ≡ acts →
    Lists (changed_by (steps_of front) c) header words entries
