-- A scrub of a cartridge that a check finds sound prints its counts alone.
use Rattle.std.proofs.Common.{◌≡◌, ◌+◌, ◌++◌, inl, inr, ℕ, List, [], ◌∷◌, refl, sym, ◌∙◌, ap, subst, Option, Some, Bool, All, length}
use Rattle.std.proofs.Common.{append-nil, codes, false, true}
use Rattle.std.proofs.lemmas.Bool.{false≢true}
use Rattle.std.proofs.lemmas.List.Elements.{All-head, All-tail}
use Rattle.std.specs.Prelude.{decimal, if◌then◌else◌, nat_lt}
use Rattle.cartridge_laws.proofs.MountOnce.{mounts_is_function}
use Rattle.cartridge_spec.specs.Header.{Header}
use Rattle.cartridge_spec.specs.Mounting.{Mounted, Mounting, Mounts}
use Rattle.cartridge_spec.specs.Says.{Data, Saying}
use Rattle.cartridge_spec.specs.Settling.{changed_by}
use Rattle.cartridge_spec.specs.Table.{Entry}
use Rattle.command_laws.proofs.CheckLeft.{found_same, found_steps, none_in_turn, settled_is_same, table_of}
use Rattle.command_laws.proofs.CheckSound.{sound_is_read_throughout}
use Rattle.command_laws.specs.CheckLaws.{IsReadThroughout, IsReadWhole, SoundScrubPrints}
use Rattle.command_laws.specs.ScrubTerms.{Finds}
use Rattle.command_spec.specs.Check.{IsSound}
use Rattle.command_spec.specs.Outcome.{CommandOutcome, Opened, WritableOutcome, output_of}
use Rattle.command_spec.specs.Scrub.{Counts, FindInTurn, Finding, Looked, ScrubsAs, ScrubsBy, counts_line, fault_line, finding_acts}
use Rattle.command_spec.specs.Scrub.{line_for, line_in, looked_at, reads, sayings_of, steps_for, unread_count, wrong_line}
use Rattle.command_spec.specs.declared.depth.Depth.{Depth}
use Rattle.command_spec.specs.declared.depth.Depth.TheVariants.{Deep, Shallow}
use Rattle.qic_base.proofs.Joins.{text_of-append}
use Rattle.qic_base.specs.Acts.{Act, steps_of, text_of}
use Rattle.qic_base.specs.Cartridge.{Cartridge}
use Rattle.qic_base.specs.Step.{Step}
use Rattle.command_spec.specs.declared.status.Status.TheVariants as status

-- ---- no line of a segment

no_line : (depth : Depth) (c : Cartridge) (l : Looked) (f : Finding) → IsReadWhole c l → Finds depth c l f → line_for l f ≡ []
no_line depth c l f read found =
    let same = found_same depth c l f read found in
    let rest : List ℕ =
    if nat_lt l.segment 2 then codes "header " ++ decimal l.segment ++ codes " unreadable\n"
    else fault_line l.segment (Data read.sectors) in
    ap (λ (w : Option ℕ). wrong_line l.segment w ++ line_in l f.saying) same.1 ∙ ap (λ (s : Saying). line_in l s) same.0
    ∙ ap (λ (b : Bool). if b then [] else rest) read.can_be_read

it_reads : (depth : Depth) (c : Cartridge) (l : Looked) (f : Finding) → IsReadWhole c l → Finds depth c l f → reads l f.saying ≡ true
it_reads depth c l f read found = ap (λ (s : Saying). reads l s) (found_same depth c l f read found).0 ∙ read.can_be_read

record IsQuiet (c : Cartridge) (ls : List Looked) (fs : List Finding) : Type 0 where
  text : text_of (finding_acts c ls fs) ≡ []
  unread : unread_count ls (sayings_of fs) ≡ 0

quiet_in_turn : (depth : Depth) (c : Cartridge) (ls : List Looked) (fs : List Finding) → All (IsReadWhole c) ls → FindInTurn depth c ls fs →
    IsQuiet c ls fs
quiet_in_turn depth c [] fs read found = record { text = refl; unread = refl }
quiet_in_turn depth c (l ∷ ls) [] read found = record { text = refl; unread = refl }
quiet_in_turn depth c (l ∷ ls) (f ∷ fs) read found =
    let here : IsReadWhole c l = All-head (IsReadWhole c) l ls read in
    let none : steps_for c l f ≡ [] = found_steps depth c l f here found.0 in
    let rest : FindInTurn depth c ls fs = subst (λ (steps : List Step). FindInTurn depth (changed_by steps c) ls fs) none found.1 in
    let quiet : IsQuiet c ls fs = quiet_in_turn depth c ls fs (All-tail (IsReadWhole c) l ls read) rest in
    record {
      text = ap (λ (line : List ℕ). line ++ text_of (finding_acts (changed_by (steps_for c l f) c) ls fs))
          (no_line depth c l f here found.0)
          ∙ ap (λ (steps : List Step). text_of (finding_acts (changed_by steps c) ls fs)) none ∙ quiet.text;
      unread = ap (λ (b : Bool). (if b then 0 else 1) + unread_count ls (sayings_of fs)) (it_reads depth c l f here found.0)
          ∙ ap (λ (n : ℕ). 0 + n) quiet.unread;
    }

-- ---- the counts

abbrev none_mended : List Looked → Counts
none_mended looked = record { segments = length looked; mended = 0; unreadable = 0 }

counts_alone : (depth : Depth) (c : Cartridge) (words : List ℕ) (entries : List Entry) (acts : List Act) →
    All (IsReadWhole c) (looked_at words entries) → ScrubsAs depth c words entries acts →
    text_of acts ≡ counts_line (none_mended (looked_at words entries))
counts_alone depth c words entries acts read scrubs =
    let looked : List Looked = looked_at words entries in
    let fs : List Finding = scrubs.findings in
    let found : List Act = finding_acts c looked fs in
    let unread : ℕ = unread_count looked (sayings_of fs) in
    let quiet : IsQuiet c looked fs = quiet_in_turn depth c looked fs read scrubs.found in
    let counts : Counts = record { segments = length looked; mended = length (steps_of found); unreadable = unread } in
    ap (λ (all : List Act). text_of all) scrubs.are
    ∙ text_of-append found (record { steps = []; text = counts_line counts } ∷ [])
    ∙ ap (λ (front : List ℕ). front ++ (counts_line counts ++ [])) quiet.text
    ∙ append-nil (counts_line counts)
    ∙ ap (λ (steps : List Step). counts_line (record { segments = length looked; mended = length steps; unreadable = unread }))
    (none_in_turn depth c looked fs read scrubs.found)
    ∙ ap (λ (n : ℕ). counts_line (record { segments = length looked; mended = 0; unreadable = n })) quiet.unread

-- ---- the commands

prints_by : (depth : Depth) (c : Cartridge) (header : Header) (words : List ℕ) (table : List (List ℕ)) (entries : List Entry)
    (outcome : CommandOutcome) → IsSound c → Mounts c (Mounted header words table entries) → c.info.protected ≡ false →
    WritableOutcome (ScrubsBy depth) (Some c) outcome →
    (outcome.status ≡ status.Done) × (output_of outcome ≡ counts_line (none_mended (looked_at words entries)))
prints_by depth c header words table entries outcome sound mounts free (inl locked) = absurd (false≢true (sym free ∙ locked.0))
prints_by depth c header words table entries outcome sound mounts free (inr (unlocked, (m, mounted, opened))) =
    let read : IsReadThroughout c = sound_is_read_throughout c sound in
    let own : Mounting = Mounted read.header read.words read.table read.entries in
    let on : ScrubsBy depth c read.header read.words read.table read.entries outcome =
    subst (λ (k : Mounting). Opened (ScrubsBy depth) c k outcome) (mounts_is_function c m own mounted read.mounts) opened in
    let scrubs : ScrubsAs depth c read.words read.entries on.acts =
    subst (λ (d : Cartridge). ScrubsAs depth d read.words read.entries on.acts) (settled_is_same c read.table
    (table_of (IsReadWhole c) read.words read.entries read.each) read.mounts.reads) on.scrubs in
    let same : own ≡ Mounted header words table entries =
    mounts_is_function c own (Mounted header words table entries) read.mounts mounts in
    let first : read.words ≡ words = cc in
    let second : read.entries ≡ entries = cc in (
      ap (λ (o : CommandOutcome). o.status) on.is,
      ap (λ (o : CommandOutcome). text_of o.acts) on.is
          ∙ counts_alone depth c read.words read.entries on.acts read.each scrubs
          ∙ ap (λ (ws : List ℕ). counts_line (none_mended (looked_at ws read.entries))) first
          ∙ ap (λ (es : List Entry). counts_line (none_mended (looked_at words es))) second,
    )

pub sound_scrub_prints : SoundScrubPrints
sound_scrub_prints c header words table entries input outcome sound mounts free (inl does) =
    prints_by Shallow c header words table entries outcome sound mounts free does
sound_scrub_prints c header words table entries input outcome sound mounts free (inr does) =
    prints_by Deep c header words table entries outcome sound mounts free does
