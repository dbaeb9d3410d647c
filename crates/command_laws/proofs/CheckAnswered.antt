-- Where a check answers that some segments can be mended and none is bad, the check behind a deep scrub is done.
use Rattle.std.proofs.Common.{◌≡◌, ◌≢◌, inl, inr, ℕ, List, [], ◌∷◌, refl, sym, ◌∙◌, ap, subst, Option, Some, None, Bool}
use Rattle.std.proofs.Common.{false, true}
use Rattle.std.proofs.lemmas.Bool.{false≢true, ne_eqb}
use Rattle.std.proofs.lemmas.List.Elements.{All-cons, All-nil}
use Rattle.std.specs.List.{AllZip}
use Rattle.std.specs.Prelude.{◌==◌, ◌&&◌, count_by, if◌then◌else◌}
use Rattle.cartridge_laws.proofs.MountOnce.{mounts_is_function}
use Rattle.cartridge_spec.specs.Header.{Header}
use Rattle.cartridge_spec.specs.Mounting.{Mounted, Mounting, Mounts}
use Rattle.cartridge_spec.specs.Says.{Data, LostSectors, Mismatch, Saying, unreadable_count}
use Rattle.cartridge_spec.specs.Settling.{changed_by}
use Rattle.cartridge_spec.specs.Table.{Entry}
use Rattle.command_laws.proofs.CheckScrubbed.{deep_scrub_makes_sound}
use Rattle.command_laws.proofs.CheckSound.{done_where_sound, none_first}
use Rattle.command_laws.proofs.DeepScrubEnds.{first_copy_is_right}
use Rattle.command_laws.specs.CheckLaws.{IsToldMended, MendedCheckIsDone}
use Rattle.command_laws.specs.CheckLaws.{AreToldMended, StandingHasOneHeader}
use Rattle.command_spec.specs.Check.{Checks, ChecksAs, IsTold, check_status, is_bad, is_mendable, is_named, read_but, verdict_by}
use Rattle.command_spec.specs.Outcome.{CommandOutcome}
use Rattle.command_spec.specs.Scrub.{Looked, cells_at, looked_at, reads}
use Rattle.command_spec.specs.declared.verdict.Verdict.{Verdict}
use Rattle.command_spec.specs.declared.verdict.Verdict.TheVariants.{Contradicts, Gone, Sound, Unsettled, Weak, Wrong}
use Rattle.qic_base.specs.Acts.{steps_of}
use Rattle.qic_base.specs.Cartridge.{Cartridge}
use Rattle.command_spec.specs.declared.status.Status.TheVariants as status

-- ---- by the answer of a check

if_bad : (b : Bool) (x bad mendable : ℕ) → (if b then status.Done else status.Unsound x bad) ≡ status.Unsound mendable 0 → bad ≡ 0
if_bad true x bad mendable is = absurd (cc)
if_bad false x bad mendable is = cc

abbrev is_unsettled : Verdict → Bool
is_unsettled Unsettled = true
is_unsettled other = false

by_count : (lost : ℕ) (b : Bool) → is_unsettled (if b then Sound else Weak lost) ≡ false
by_count lost true = refl
by_count lost false = refl

by_reading : (b : Bool) (lost : ℕ) → is_unsettled (if b then read_but lost else Contradicts) ≡ false
by_reading true lost = by_count lost (lost == 0)
by_reading false lost = refl

by_name : (b : Bool) (sector : ℕ) → is_unsettled (if b then Wrong sector else Contradicts) ≡ false
by_name true sector = refl
by_name false sector = refl

not_unsettled : (c : Cartridge) (l : Looked) (opens : Bool) (s : Saying) (w : Option ℕ) → (l.segment == 2) ≡ false →
    is_unsettled (verdict_by c l opens s w) ≡ false
not_unsettled c l opens (Data xs) None other = by_reading (reads l (Data xs)) (unreadable_count (cells_at c l))
not_unsettled c l opens (LostSectors n) None other = refl
not_unsettled c l opens Mismatch None other =
    ap (λ (b : Bool). is_unsettled (if b && opens then Unsettled else Contradicts)) other
not_unsettled c l opens s (Some sector) other =
    ap (λ (b : Bool). is_unsettled (if is_named c l sector then Wrong sector else if b && opens then Unsettled else Contradicts)) other
    ∙ by_name (is_named c l sector) sector

mended_by : (c : Cartridge) (l : Looked) (v : Verdict) → l.segment ≢ 2 → is_bad v ≡ false → IsTold c l v → IsToldMended c l
mended_by c l Sound other good told = inl told
mended_by c l (Weak lost) other good told = inr (lost, inl told)
mended_by c l (Wrong sector) other good told = inr (sector, inr told)
mended_by c l Unsettled other good told =
    absurd (false≢true (sym (not_unsettled c l told.opens told.finding.saying told.finding.wrong (ne_eqb l.segment 2 other))
    ∙ ap (λ (v : Verdict). is_unsettled v) (sym told.is)))
mended_by c l Contradicts other good told = absurd (cc)
mended_by c l (Gone lost) other good told = absurd (cc)

all_mended : (c : Cartridge) (ls : List Looked) (vs : List Verdict) → AllZip (IsTold c) ls vs → count_by is_bad vs ≡ 0 →
    AreToldMended c ls
all_mended c [] [] told good = All-nil (λ (l : Looked). l.segment ≢ 2 → IsToldMended c l)
all_mended c [] (v ∷ vs) told good = absurd told
all_mended c (l ∷ ls) [] told good = absurd told
all_mended c (l ∷ ls) (v ∷ vs) told good =
    let here = none_first is_bad v vs good in
    All-cons (λ (m : Looked). m.segment ≢ 2 → IsToldMended c m) l ls (λ other. mended_by c l v other here.first told.0)
    (all_mended c ls vs told.1 here.rest)

told_by_check : (c : Cartridge) (header : Header) (words : List ℕ) (table : List (List ℕ)) (entries : List Entry) (mendable : ℕ)
    (first : CommandOutcome) → Mounts c (Mounted header words table entries) → Checks c first → first.status ≡ status.Unsound mendable 0 →
    AreToldMended c (looked_at words entries)
told_by_check c header words table entries mendable first mounts (inl none) answer =
    let is = sym (ap (λ (o : CommandOutcome). o.status) none.1) ∙ answer in absurd (cc)
told_by_check c header words table entries mendable first mounts (inr (bursts, (m, mounted, checks))) answer =
    let all = subst (λ (k : Mounting). ChecksAs c k first)
    (mounts_is_function c m (Mounted header words table entries) mounted mounts) checks in
    let vs : List Verdict = all.verdicts in
    let both : check_status vs ≡ status.Unsound mendable 0 = sym (ap (λ (o : CommandOutcome). o.status) all.is) ∙ answer in
    all_mended c (looked_at words entries) vs all.told
    (if_bad (count_by is_mendable vs == 0 && count_by is_bad vs == 0) (count_by is_mendable vs) (count_by is_bad vs) mendable both)

pub mended_check_is_done : MendedCheckIsDone
mended_check_is_done c header words table entries mendable input more last first outcome again is check answer scrub checks =
    let d : Cartridge = changed_by (steps_of outcome.acts) c in
    let sound = deep_scrub_makes_sound c header words table entries more outcome is
    (told_by_check c header words table entries mendable first is.mounts check answer) scrub in
    (done_where_sound d last again checks).1 (record {
      header = header;
      words = words;
      table = table;
      entries = entries;
      mounts = sound.1;
      each = sound.2;
    })

-- ---- one that stands

pub standing_has_one_header : StandingHasOneHeader
standing_has_one_header c plain stood sector xs wrong = absurd (first_copy_is_right c plain stood sector xs wrong)
