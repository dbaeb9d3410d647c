-- A mounted cartridge, behind an append or a front of its acts, a worn sector or a scrub.
use Rattle.std.proofs.Common.{◌≡◌, ℕ, ◌-◌, ◌*◌, List, length, sym, ap, ◌∙◌, subst, arith, ◌≤◌, ◌≢◌, [], refl, false, ◌∷◌, inl, inr, ◌++◌}
use Rattle.std.proofs.Common.{Option, Some}
use Rattle.cartridge_laws.proofs.ChangeMounted.{worn_mounts}
use Rattle.cartridge_laws.proofs.FormatStanding.{same_cells}
use Rattle.cartridge_laws.proofs.FormatWriting.{changed_by-append, effects-some}
use Rattle.cartridge_laws.proofs.MountKeeping.{in_force}
use Rattle.cartridge_laws.proofs.MountSettled.{settled_mounts}
use Rattle.cartridge_laws.proofs.TableOrders.{sound_is_faultless}
use Rattle.cartridge_laws.specs.Table.{IsSoundList}
use Rattle.cartridge_spec.specs.Header.{Header, header_fault}
use Rattle.cartridge_spec.specs.HeaderCopies.{last_segment}
use Rattle.cartridge_spec.specs.TableSegment.{TableIs}
use Rattle.cartridge_spec.specs.Mounting.{IsMounted, Lists}
use Rattle.cartridge_spec.specs.Says.{whole_mask}
use Rattle.cartridge_spec.specs.Settling.{changed_by, settling_steps}
use Rattle.cartridge_spec.specs.Table.{Entry}
use Rattle.command_laws.proofs.MountedFronts.{front_within}
use Rattle.command_laws.proofs.MountedListed.{LeavesTable, append_leaves, behind_leaves, ins_behind}
use Rattle.command_laws.proofs.ScrubMounted.{stopped_scrub_mounts}
use Rattle.command_laws.proofs.ScrubPlain.{as_plain}
use Rattle.command_laws.proofs.StoreBehind.{AreBehind, front_behind}
use Rattle.command_laws.specs.MountedListed.{listed_behind, IsListed}
use Rattle.command_laws.specs.MountedListing.{SettledLists, AppendLists, AppendFrontLists, WearLists, ScrubLists}
use Rattle.command_spec.specs.Append.{Kept, append_acts, room_in, taking, Taking, Fits, TooLong, TooShort, entry_acts, input_writes}
use Rattle.command_spec.specs.Append.{kept_over}
use Rattle.qic_base.proofs.Joins.{steps_of-append}
use Rattle.qic_base.proofs.Steps.{Torn-all, Torn-front}
use Rattle.qic_base.specs.Acts.{steps_of, Act}
use Rattle.qic_base.specs.Cartridge.{Cartridge}
use Rattle.qic_base.specs.Step.{Step, Torn}
use Rattle.qic_base.specs.declared.tape.TapeInfo.{TapeInfo}

pub settled_lists : SettledLists
settled_lists c header words table entries mounts = (table, settled_mounts c header words table entries mounts)

-- ---- an append

-- a settled table with header and marks as they were is mounted as what it shows
left_lists : (c d : Cartridge) (header : Header) (words : List ℕ) (entries es : List Entry) → Lists c header words entries →
    length words - 1 ≡ last_segment c →
    LeavesTable c d (length words - 1) es → Lists d header words es
left_lists c d header words entries es (table, mounted) last leaves =
    let same : length words - 1 ≡ last_segment d = last ∙ sym (ap (λ (i : TapeInfo). 28 * i.segments_per_track - 1) leaves.info) in
    let order : IsSoundList (last_segment d) es = subst (λ (n : ℕ). IsSoundList n es) same leaves.order in
    let was : IsMounted c header words table entries = mounted in
    let now : IsMounted d header words leaves.data_left es = record {
      area = was.area;
      formatted = record {
        has_header = record {
          referenced = ap (λ (i : TapeInfo). i.referenced) leaves.info ∙ was.formatted.has_header.referenced;
          in_force = in_force c d was.area (same_cells c d 0 whole_mask (λ i h. leaves.front 0 i (omega arith) h))
              (same_cells c d 1 whole_mask (λ i h. leaves.front 1 i (omega arith) h)) was.formatted.has_header.in_force;
        };
        sound = ap (λ (i : TapeInfo). header_fault was.area i.segments_per_track) leaves.info ∙ was.formatted.sound;
        shown = was.formatted.shown;
      };
      reads = leaves.settles.table;
      sound = sound_is_faultless leaves.data_left (last_segment d) es order leaves.shown;
      shown = leaves.shown;
    } in
    (leaves.data_left, now)

pub append_lists : AppendLists
append_lists c header words entries table name date promised reply input lists listed mark reads label word =
    let kept : Kept = kept_over c words entries table in
    left_lists c (changed_by (steps_of (append_acts kept name date promised reply input)) c) header words entries
    (listed_behind kept name date (taking (room_in kept) promised input)) lists listed.last
    (append_leaves c words entries table listed mark reads name date promised reply input label word)

-- ---- a front of its acts

-- an entry is one act, or none
entry_short : (kept : Kept) (name : List ℕ) (date : ℕ) (reply : Entry → List ℕ) (became : Taking) →
    length (entry_acts kept name date reply became) ≤ 1
entry_short kept name date reply (Fits bytes) = omega arith
entry_short kept name date reply (TooLong need have) = omega arith
entry_short kept name date reply (TooShort asked read) = omega arith

no_entry : (kept : Kept) (name : List ℕ) (date : ℕ) (reply : Entry → List ℕ) (became : Taking) → ((bytes : List ℕ) → became ≢ Fits bytes) →
    entry_acts kept name date reply became ≡ []
no_entry kept name date reply (Fits bytes) none = absurd (none bytes refl)
no_entry kept name date reply (TooLong need have) none = refl
no_entry kept name date reply (TooShort asked read) none = refl

-- the settling, and then steps behind the table's segment
front_lists : (c : Cartridge) (header : Header) (words : List ℕ) (entries : List Entry) (table : List (List ℕ)) (first : Act)
    (front : List Act) → Lists c header words entries →
    IsListed c words entries → c.info.protected ≡ false → TableIs c table → first.steps ≡ settling_steps table c → AreBehind front →
    Lists (changed_by (steps_of (first ∷ front)) c) header words entries
front_lists c header words entries table first front lists listed mark reads is behind =
    let d : Cartridge = changed_by (settling_steps table c) c in
    let same : changed_by (steps_of (first ∷ front)) c ≡ changed_by (steps_of front) d =
    changed_by-append first.steps (steps_of front) c ∙ ap (λ (ss : List Step). changed_by (steps_of front) (changed_by ss c)) is in
    subst (λ (e : Cartridge). Lists e header words entries) (sym same)
    (left_lists c (changed_by (steps_of front) d) header words entries entries lists listed.last
    (behind_leaves c words entries table listed mark reads (steps_of front) behind))

pub append_front_lists : AppendFrontLists
append_front_lists c header words entries table name date promised reply input [] rest lists listed mark reads parts none = lists
append_front_lists c header words entries table name date promised reply input (x ∷ front) rest lists listed mark reads parts none =
    let kept : Kept = kept_over c words entries table in
    let became : Taking = taking (room_in kept) promised input in
    let ins : List Act = input_writes kept.words kept.entries promised input in
    let entry : List Act = entry_acts kept name date reply became in
    let first : Act = record { steps = settling_steps table c; text = [] } in
    let all : x ∷ (front ++ rest) ≡ first ∷ (ins ++ entry) = parts in
    let head : x ≡ first = cc in
    let tail : front ++ rest ≡ ins ++ entry = cc in
    let within = front_within front rest ins entry tail (entry_short kept name date reply became) (elim none [
      | inl some ↦ inl some
      | inr other ↦ inr (no_entry kept name date reply became other)
    ]) in
    front_lists c header words entries table x front lists listed mark reads (ap (λ (a : Act). a.steps) head)
    (front_behind front within.0 ins within.1 (ins_behind c words entries table listed mark reads promised input))

-- ---- a worn sector, and a scrub

pub wear_lists : WearLists
wear_lists c header words entries segment sector (table, mounted) behind small =
    (table, worn_mounts c segment sector header words table entries small behind mounted)

-- a front of acts is a stop among their steps
front_torn : (c : Cartridge) (front rest acts : List Act) → front ++ rest ≡ acts →
    Torn (steps_of acts) (Some c) (Some (changed_by (steps_of front) c))
front_torn c front rest acts parts =
    subst (λ (ss : List Step). Torn ss (Some c) (Some (changed_by (steps_of front) c)))
    (sym (steps_of-append front rest) ∙ ap steps_of parts)
    (Torn-front (steps_of front) (steps_of rest) (Some c) (Some (changed_by (steps_of front) c))
    (subst (λ (o : Option Cartridge). Torn (steps_of front) (Some c) o) (effects-some (steps_of front) c)
    (Torn-all (steps_of front) (Some c))))

pub scrub_lists : ScrubLists
scrub_lists c header words entries acts front rest (table, mounted) scrubs parts = (
  table,
  stopped_scrub_mounts c header words table entries acts (Some (changed_by (steps_of front) c)) mounted
      (as_plain c words entries acts scrubs) (front_torn c front rest acts parts),
)
