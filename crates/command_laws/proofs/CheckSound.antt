-- A segment is told to be sound exactly where it is read as a whole, and a check is done exactly where each one is.
use Rattle.std.proofs.Common.{◌≡◌, inl, inr, ℕ, ◌+◌, List, [], ◌∷◌, refl, sym, ◌∙◌, ap, subst, Option, Some}
use Rattle.std.proofs.Common.{None, Bool, true, false, arith, All}
use Rattle.std.proofs.lemmas.Bool.{and_parts, cases_Bool, eqb-true}
use Rattle.std.proofs.lemmas.List.Sums.{sum_by-cons}
use Rattle.std.proofs.lemmas.List.Elements.{All-cons, All-nil, All-weaker}
use Rattle.std.specs.List.{AllZip}
use Rattle.std.specs.Prelude.{◌==◌, ◌&&◌, count_by, if◌then◌else◌}
use Rattle.cartridge_laws.proofs.Sayings.{says_is_function}
use Rattle.cartridge_spec.specs.Mounting.{Mounting, Mounted, Mounts}
use Rattle.cartridge_spec.specs.Says.{Saying, Data, LostSectors, Mismatch, unreadable_count}
use Rattle.command_laws.proofs.Checked.{opens_always, sound_checks}
use Rattle.command_laws.specs.CheckLaws.{IsReadWhole, IsReadThroughout, SoundIsReadWhole, ReadWholeIsSound, DoneWhereSound}
use Rattle.command_laws.specs.CheckLaws.{DoneWhereReadThroughout}
use Rattle.command_spec.specs.Check.{IsTold, undecided, verdict_by, Tells, ChecksAs, Checks, check_status, is_mendable, is_named}
use Rattle.command_spec.specs.Check.{is_bad, IsSound, read_but}
use Rattle.command_spec.specs.Outcome.{CommandOutcome}
use Rattle.command_spec.specs.Scrub.{Looked, HasFoundBy, cells_at, looked_at, reads}
use Rattle.command_spec.specs.declared.status.Status.{Status}
use Rattle.command_spec.specs.declared.verdict.Verdict.{Verdict}
use Rattle.command_spec.specs.declared.verdict.Verdict.TheVariants.{Sound, Weak, Wrong, Unsettled, Contradicts, Gone}
use Rattle.qic_base.specs.Acts.{Act}
use Rattle.qic_base.specs.Cartridge.{Cartridge}
use Rattle.qic_base.specs.CartridgeTerms.{IsCartridge}
use Rattle.cartridge_spec.specs.Mounting as mounting
use Rattle.command_spec.specs.declared.status.Status.TheVariants as status

-- ---- a segment

undecided_not_sound : (b : Bool) → (if b then Unsettled else Contradicts) ≡ Sound → ⊥
undecided_not_sound true is = absurd (cc)
undecided_not_sound false is = absurd (cc)

named_not_sound : (b : Bool) (sector : ℕ) (v : Verdict) → (v ≡ Sound → ⊥) → (if b then Wrong sector else v) ≡ Sound → ⊥
named_not_sound true sector v other is = absurd (cc)
named_not_sound false sector v other is = other is

if_sound : (b : Bool) (lost : ℕ) → (if b then Sound else Weak lost) ≡ Sound → b ≡ true
if_sound true lost is = refl
if_sound false lost is = absurd (cc)

none_lost : (lost : ℕ) → read_but lost ≡ Sound → lost ≡ 0
none_lost lost is = eqb-true lost 0 (if_sound (lost == 0) lost is)

sound_by : (c : Cartridge) (l : Looked) (opens : Bool) (s : Saying) (w : Option ℕ) → HasFoundBy (Unit {0}) c l s w →
    verdict_by c l opens s w ≡ Sound → IsReadWhole c l
sound_by c l opens s (Some sector) found is =
    absurd (named_not_sound (is_named c l sector) sector (undecided l.segment opens) (undecided_not_sound (l.segment == 2 && opens)) is)
sound_by c l opens (LostSectors n) None found is = absurd (cc)
sound_by c l opens Mismatch None found is = absurd (undecided_not_sound (l.segment == 2 && opens) is)
sound_by c l opens (Data sectors) None found is =
    elim (cases_Bool (reads l (Data sectors))) [
      | inl can ↦ record {
        sectors = sectors;
        says = found.0;
        can_be_read = can;
        each = none_lost (unreadable_count (cells_at c l))
            (sym (ap (λ (b : Bool). if b then read_but (unreadable_count (cells_at c l)) else Contradicts) can) ∙ is);
      }
      | inr fails ↦ let other = sym (ap (λ (b : Bool). if b then read_but (unreadable_count (cells_at c l)) else Contradicts) fails) ∙ is in
          absurd (cc)
    ]

pub sound_is_read_whole : SoundIsReadWhole
sound_is_read_whole c l told = sound_by c l told.opens told.finding.saying told.finding.wrong told.found (sym told.is)

pub read_whole_is_sound : ReadWholeIsSound
read_whole_is_sound c l whole read =
    let opens = opens_always c whole in
    record {
      finding = record { saying = Data read.sectors; wrong = None };
      found = (
        read.says,
        λ searched sector es wrong.
            let both = says_is_function (cells_at c l) (Data read.sectors) Mismatch read.says wrong.mismatch in cc,
      );
      opens = opens.0;
      table = λ is. opens.1;
      is = sym (ap (λ (b : Bool). if b then read_but (unreadable_count (cells_at c l)) else Contradicts) read.can_be_read
          ∙ ap (λ (n : ℕ). read_but n) read.each);
    }

-- ---- the counts

-- a verdict that is neither to be mended nor bad is that it is sound
neither : (v : Verdict) → is_mendable v ≡ false → is_bad v ≡ false → v ≡ Sound
neither Sound mendable bad = refl
neither (Weak lost) mendable bad = absurd (cc)
neither (Wrong sector) mendable bad = absurd (cc)
neither Unsettled mendable bad = absurd (cc)
neither Contradicts mendable bad = absurd (cc)
neither (Gone lost) mendable bad = absurd (cc)

pub record NoneFirst (test : Verdict → Bool) (v : Verdict) (vs : List Verdict) : Type 0 where
  pub first : test v ≡ false
  pub rest : count_by test vs ≡ 0

none_by : (b : Bool) (n : ℕ) → (if b then 1 else 0) + n ≡ 0 → (b ≡ false) × (n ≡ 0)
none_by true n none = absurd (omega arith)
none_by false n none = (refl, omega arith)

pub none_first : (test : Verdict → Bool) (v : Verdict) (vs : List Verdict) → count_by test (v ∷ vs) ≡ 0 → NoneFirst test v vs
none_first test v vs none =
    let both = none_by (test v) (count_by test vs) (sym (sum_by-cons (λ (w : Verdict). if test w then 1 else 0) v vs) ∙ none) in
    record { first = both.0; rest = both.1 }

all_sound : (c : Cartridge) (ls : List Looked) (vs : List Verdict) → AllZip (IsTold c) ls vs → count_by is_mendable vs ≡ 0 →
    count_by is_bad vs ≡ 0 → All (λ l. IsTold c l Sound) ls
all_sound c [] [] told mendable bad = All-nil (λ (l : Looked). IsTold c l Sound)
all_sound c [] (v ∷ vs) told mendable bad = absurd told
all_sound c (l ∷ ls) [] told mendable bad = absurd told
all_sound c (l ∷ ls) (v ∷ vs) told mendable bad =
    let first = none_first is_mendable v vs mendable in
    let second = none_first is_bad v vs bad in
    All-cons (λ (m : Looked). IsTold c m Sound) l ls (subst (IsTold c l) (neither v first.first second.first) told.0)
    (all_sound c ls vs told.1 first.rest second.rest)

-- ---- the answer

if_done : (b : Bool) (mendable bad : ℕ) → (if b then status.Done else status.Unsound mendable bad) ≡ status.Done → b ≡ true
if_done true mendable bad is = refl
if_done false mendable bad is = absurd (cc)

record NoneCounted (vs : List Verdict) : Type 0 where
  mendable : count_by is_mendable vs ≡ 0
  bad : count_by is_bad vs ≡ 0

done_counts : (vs : List Verdict) → check_status vs ≡ status.Done → NoneCounted vs
done_counts vs is =
    let both = and_parts (count_by is_mendable vs == 0) (count_by is_bad vs == 0)
    (if_done (count_by is_mendable vs == 0 && count_by is_bad vs == 0) (count_by is_mendable vs) (count_by is_bad vs) is) in
    record { mendable = eqb-true (count_by is_mendable vs) 0 both.0; bad = eqb-true (count_by is_bad vs) 0 both.1 }

status_told : {c : Cartridge} {ls : List Looked} {last : List Verdict → List Act} {why : List Verdict → Status} {outcome : CommandOutcome} →
    (told : Tells c ls last why outcome) → outcome.status ≡ status.Done → why told.verdicts ≡ status.Done
status_told told done = sym (ap (λ (o : CommandOutcome). o.status) told.is) ∙ done

done_as : (c : Cartridge) (m : Mounting) (outcome : CommandOutcome) → Mounts c m → ChecksAs c m outcome →
    outcome.status ≡ status.Done → IsSound c
done_as c mounting.NotFormatted outcome mounts told done = let is = status_told told done in absurd (cc)
done_as c (mounting.Foreign fault) outcome mounts (inl told) done = let is = status_told told.1 done in absurd (cc)
done_as c (mounting.Foreign fault) outcome mounts (inr told) done = let is = status_told told.1 done in absurd (cc)
done_as c (mounting.TableLost lost) outcome mounts told done = let is = status_told told done in absurd (cc)
done_as c mounting.TableMismatch outcome mounts told done = let is = status_told told done in absurd (cc)
done_as c (Mounted header words table entries) outcome mounts told done =
    let none = done_counts told.verdicts (status_told told done) in
    record {
      header = header;
      words = words;
      table = table;
      entries = entries;
      mounts = mounts;
      each = all_sound c (looked_at words entries) told.verdicts told.told none.mendable none.bad;
    }

done_is_sound : (c : Cartridge) (outcome : CommandOutcome) → Checks c outcome → outcome.status ≡ status.Done → IsSound c
done_is_sound c outcome (inl none) done = let is = sym (ap (λ (o : CommandOutcome). o.status) none.1) ∙ done in absurd (cc)
done_is_sound c outcome (inr (is, (m, mounts, does))) done = done_as c m outcome mounts does done

pub done_where_sound : DoneWhereSound
done_where_sound c input outcome does = (done_is_sound c outcome does, λ sound. sound_checks c outcome sound does)

-- ---- a sound cartridge

pub sound_is_read_throughout : (c : Cartridge) → IsSound c → IsReadThroughout c
sound_is_read_throughout c sound = record {
  header = sound.header;
  words = sound.words;
  table = sound.table;
  entries = sound.entries;
  mounts = sound.mounts;
  each = All-weaker (λ (l : Looked). IsTold c l Sound) (IsReadWhole c) (sound_is_read_whole c)
      (looked_at sound.words sound.entries) sound.each;
}

read_throughout_is_sound : (c : Cartridge) → IsCartridge c → IsReadThroughout c → IsSound c
read_throughout_is_sound c whole read = record {
  header = read.header;
  words = read.words;
  table = read.table;
  entries = read.entries;
  mounts = read.mounts;
  each = All-weaker (IsReadWhole c) (λ (l : Looked). IsTold c l Sound) (λ l is. read_whole_is_sound c l whole is)
      (looked_at read.words read.entries) read.each;
}

pub done_where_read_throughout : DoneWhereReadThroughout
done_where_read_throughout c input outcome whole does =
    let done = done_where_sound c input outcome does in
    (λ is. sound_is_read_throughout c (done.0 is), λ read. done.1 (read_throughout_is_sound c whole read))
