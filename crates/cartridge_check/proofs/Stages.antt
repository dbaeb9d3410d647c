-- What a check tells of a cartridge, by what is known of its mounting.
use Rattle.std.proofs.Common.{◌≡◌, ℕ, ◌-◌, ◌*◌, true, List, [], ◌∷◌, ◌++◌, length, Err, refl, sym, ap, ◌∙◌, subst, inl, inr}
use Rattle.std.proofs.Common.{append_assoc, Some}
use Rattle.std.specs.List.{AllZip}
use Rattle.cartridge_front.proofs.Mounts.{sound_format, last_learnt}
use Rattle.cartridge_front.proofs.Copies.{IsLearnt}
use Rattle.cartridge_front.specs.Finding.{HasFormat, FindsHeader, FindsVolumes, ShowsVolumes}
use Rattle.qic_base.specs.declared.store_fault.StoreFault.{StoreFault}
use Rattle.cartridge_laws.proofs.MountOnce.{mounts_is_function, not_unformatted}
use Rattle.cartridge_laws.proofs.Sayings.{says_is_function}
use Rattle.cartridge_laws.specs.HeaderTerms.{fault_as}
use Rattle.command_laws.proofs.Checked.{checks_once}
use Rattle.cartridge_spec.specs.Header.{header_fault, HeaderFault}
use Rattle.cartridge_spec.specs.HeaderCopies.{copy_cells, HasHeader}
use Rattle.cartridge_spec.specs.Mounting.{Mounting, Mounted, Mounts, IsSoundlyFormatted, RefusesHeader, RefusesTable}
use Rattle.cartridge_spec.specs.Says.{Data}
use Rattle.cartridge_spec.specs.Table.{Entry, IsFirstFault, HasNoFault}
use Rattle.cartridge_spec.specs.TableSegment.{TableIs}
use Rattle.command_spec.specs.Check.{IsTold, Tells, ChecksAs, Checks, check_line, check_status, header_copies, in_front, verdict_acts}
use Rattle.command_spec.specs.Outcome.{CommandOutcome}
use Rattle.command_spec.specs.Scrub.{Looked, looked_at, looked_volumes, whole_segment}
use Rattle.command_spec.specs.declared.status.Status.{Status}
use Rattle.command_spec.specs.declared.verdict.Verdict.{Verdict}
use Rattle.header_segments.specs.Header.{header_of}
use Rattle.header_segments.specs.declared.header.Header.{Header}
use Rattle.host_driver.specs.Fits.{segments_of}
use Rattle.host_driver.specs.declared.host.Host.{Host}
use Rattle.qic_base.specs.Acts.{Act}
use Rattle.qic_base.specs.Cartridge.{Cartridge}
use Rattle.cartridge_check.specs.Checking.{ended, as_check, fault_status}
use Rattle.cartridge_check.proofs.Parts.{PartsOf, zip_part, zip_length, acts_join}
use Rattle.qic_base.specs.declared.store_fault.StoreFault.TheVariants as store
use Rattle.cartridge_spec.specs.Mounting as mounting

-- ---- how its outcome begins

-- the acts begin with the lines of these segments
pub record Begins (c : Cartridge) (looked : List Looked) (outcome : CommandOutcome) : Type 0 where
  pub verdicts : List Verdict
  pub told : AllZip (IsTold c) looked verdicts
  pub rest : List Act
  pub parts : verdict_acts looked verdicts ++ rest ≡ outcome.acts

begins_all : (c : Cartridge) (xs : List Looked) (last : List Verdict → List Act) (why : List Verdict → Status) (o : CommandOutcome) →
    Tells c xs last why o → Begins c xs o
begins_all c xs last why o tells = record {
  verdicts = tells.verdicts;
  told = tells.told;
  rest = last tells.verdicts;
  parts = sym (ap (λ (outcome : CommandOutcome). outcome.acts) tells.is);
}

begins_part : (c : Cartridge) (xs ys : List Looked) (last : List Verdict → List Act) (why : List Verdict → Status) (o : CommandOutcome) →
    Tells c (xs ++ ys) last why o → Begins c xs o
begins_part c xs ys last why o tells =
    let all : Begins c (xs ++ ys) o = begins_all c (xs ++ ys) last why o tells in
    let parts : PartsOf (IsTold c) xs ys all.verdicts = zip_part (IsTold c) xs ys all.verdicts all.told in
    let joined : verdict_acts (xs ++ ys) all.verdicts ≡ verdict_acts xs parts.front ++ verdict_acts ys parts.rest =
    ap (verdict_acts (xs ++ ys)) parts.parts
    ∙ acts_join xs ys parts.front parts.rest (zip_length (IsTold c) xs parts.front parts.first) in
    record {
      verdicts = parts.front;
      told = parts.first;
      rest = verdict_acts ys parts.rest ++ all.rest;
      parts = sym (append_assoc (verdict_acts xs parts.front) (verdict_acts ys parts.rest) all.rest)
          ∙ ap (λ (acts : List Act). acts ++ all.rest) (sym joined) ∙ all.parts;
    }

-- ---- the header copies

copies_as : (c : Cartridge) (m : Mounting) (o : CommandOutcome) → ChecksAs c m o → Begins c header_copies o
copies_as c mounting.NotFormatted o does = begins_all c header_copies _ _ o does
copies_as c (mounting.Foreign fault) o (inl does) = begins_all c header_copies _ _ o does.1
copies_as c (mounting.Foreign fault) o (inr does) = begins_part c header_copies (whole_segment 2 ∷ []) _ _ o does.1
copies_as c (mounting.TableLost lost) o does = begins_part c header_copies (whole_segment 2 ∷ []) _ _ o does
copies_as c mounting.TableMismatch o does = begins_part c header_copies (whole_segment 2 ∷ []) _ _ o does
copies_as c (Mounted header words table entries) o does =
    begins_part c header_copies (whole_segment 2 ∷ looked_volumes words entries) _ _ o does

-- the first lines are theirs where there are reference bursts
pub begins_with_copies : (c : Cartridge) (o : CommandOutcome) → c.info.referenced ≡ true → Checks c o → Begins c header_copies o
begins_with_copies c o bursts (inl none) = let no = none.0 in absurd (cc)
begins_with_copies c o bursts (inr (is, (m, mounts, does))) = copies_as c m o does

-- a refusal of the header
pub refused_header : (c : Cartridge) (words : List ℕ) (f : StoreFault) (vs : List Verdict) → c.info.referenced ≡ true →
    FindsHeader c words (Err f) → AllZip (IsTold c) header_copies vs →
    Checks c (ended (verdict_acts header_copies vs ++ []) (fault_status (as_check f)))
refused_header c words store.NotFormatted vs bursts found told =
    inr (bursts, (mounting.NotFormatted, found, record { verdicts = vs; told = told; is = refl }))
refused_header c words (store.Foreign field value) vs bursts found told =
    inr (
      bursts,
      (
        mounting.Foreign (fault_as field value),
        inl found,
        inl (found, record { verdicts = vs; told = told; is = refl }),
      ),
    )
refused_header c words f vs bursts found told = absurd found

-- ---- the table's segment behind a header that passes its tests

-- a header that passes its tests is not refused
not_refused : (c : Cartridge) (fault : HeaderFault) → IsSoundlyFormatted c → RefusesHeader c fault → ⊥
not_refused c fault sound refuses =
    let none = ap (λ (area : List (List ℕ)). header_fault area c.info.segments_per_track)
    (same_header refuses.area sound.area refuses.has_header sound.formatted.has_header) ∙ sound.formatted.sound in
    let some = refuses.first in
    cc
  where
    same_header : (xs ys : List (List ℕ)) → HasHeader c xs → HasHeader c ys → xs ≡ ys
    same_header xs ys one other = elim one.in_force [
      | inl first ↦ elim other.in_force [
        | inl again ↦ let both = says_is_function (copy_cells c 0) (Data xs) (Data ys) first.says again.says in cc
        | inr second ↦ absurd (second.0 xs first)
      ]
      | inr second ↦ elim other.in_force [
        | inl first ↦ absurd (second.0 ys first)
        | inr again ↦ let both = says_is_function (copy_cells c 1) (Data xs) (Data ys) second.1.says again.1.says in cc
      ]
    ]

front_as : (c : Cartridge) (m : Mounting) (o : CommandOutcome) → IsSoundlyFormatted c → Mounts c m → ChecksAs c m o → Begins c in_front o
front_as c mounting.NotFormatted o sound mounts does = absurd (not_unformatted c sound.area mounts sound.formatted.has_header)
front_as c (mounting.Foreign fault) o sound mounts (inl does) = absurd (not_refused c fault sound does.0)
front_as c (mounting.Foreign fault) o sound mounts (inr does) = begins_all c in_front _ _ o does.1
front_as c (mounting.TableLost lost) o sound mounts does = begins_all c in_front _ _ o does
front_as c mounting.TableMismatch o sound mounts does = begins_all c in_front _ _ o does
front_as c (Mounted header words table entries) o sound mounts does = begins_part c in_front (looked_volumes words entries) _ _ o does

pub begins_with_front : (c : Cartridge) (words : List ℕ) (header : Header) (o : CommandOutcome) → HasFormat c words header → Checks c o →
    Begins c in_front o
begins_with_front c words header o has (inl none) = let no = none.0 in let yes = has.formatted.has_header.referenced in absurd (cc)
begins_with_front c words header o has (inr (is, (m, mounts, does))) = front_as c m o (sound_format c words header has) mounts does

-- a refusal of the table
pub refused_table : (host : Host) (c : Cartridge) (words : List ℕ) (header : Header) (sectors : List (List ℕ)) (entries : List Entry)
    (f : StoreFault) (vs : List Verdict) → IsLearnt host c → HasFormat c words header →
    FindsVolumes c (28 * segments_of host - 1) sectors entries (Err f) → AllZip (IsTold c) in_front vs →
    Checks c (ended (verdict_acts in_front vs ++ []) (fault_status (as_check f)))
refused_table host c words header sectors entries (store.Foreign field value) vs learnt has found told =
    let refuses : RefusesTable c (fault_as field value) = record {
      formatted = sound_format c words header has;
      area = found.area;
      table = found.table;
      first = subst (λ (last : ℕ). IsFirstFault found.area last (fault_as field value)) (last_learnt host c learnt) found.bad.first;
    } in
    inr (
      has.formatted.has_header.referenced,
      (
        mounting.Foreign (fault_as field value),
        inr refuses,
        inr (refuses, record { verdicts = vs; told = told; is = refl }),
      ),
    )
refused_table host c words header sectors entries (store.Lost segment lost) vs learnt has found told =
    inr (
      has.formatted.has_header.referenced,
      (
        mounting.TableLost lost,
        (sound_format c words header has, found.1),
        record { verdicts = vs; told = told; is = refl },
      ),
    )
refused_table host c words header sectors entries store.TableMismatch vs learnt has found told =
    inr (
      has.formatted.has_header.referenced,
      (
        mounting.TableMismatch,
        (sound_format c words header has, found),
        record { verdicts = vs; told = told; is = refl },
      ),
    )
refused_table host c words header sectors entries f vs learnt has found told = absurd found

-- ---- all segments of a cartridge that mounts

pub mounts_so : (host : Host) (c : Cartridge) (words : List ℕ) (header : Header) (table : List (List ℕ)) (entries : List Entry) →
    IsLearnt host c → HasFormat c words header → TableIs c table → ShowsVolumes table (28 * segments_of host - 1) entries →
    Mounts c (Mounted (header_of header) words table entries)
mounts_so host c words header table entries learnt has reads shows = record {
  area = has.area;
  formatted = has.formatted;
  reads = reads;
  sound = subst (HasNoFault table) (last_learnt host c learnt) shows.sound;
  shown = shows.shown;
}

module _ (c : Cartridge) (words : List ℕ) (header : Header) (table : List (List ℕ)) (entries : List Entry)
    (mounts : Mounts c (Mounted (header_of header) words table entries)) where
  pub begins_with_all : (o : CommandOutcome) → Checks c o → Begins c (looked_at words entries) o
  begins_with_all o (inl none) = let no = none.0 in let yes = mounts.formatted.has_header.referenced in absurd (cc)
  begins_with_all o (inr (is, (m, other, does))) =
      let same : m ≡ Mounted (header_of header) words table entries = mounts_is_function c m _ other mounts in
      begins_all c (looked_at words entries) _ _ o (subst (λ (n : Mounting). ChecksAs c n o) same does)

  pub checks_all : (vs : List Verdict) → AllZip (IsTold c) (looked_at words entries) vs →
      Checks c (ended (verdict_acts (looked_at words entries) vs
      ++ record { steps = []; text = check_line (length (looked_at words entries)) vs } ∷ []) (check_status vs))
  checks_all vs told = inr (
    mounts.formatted.has_header.referenced,
    (
      Mounted (header_of header) words table entries,
      mounts,
      record { verdicts = vs; told = told; is = refl },
    ),
  )

  -- .. and behind its lines the counts
  pub checks_so : (vs : List Verdict) (o : CommandOutcome) → AllZip (IsTold c) (looked_at words entries) vs → Checks c o →
      o ≡ ended (verdict_acts (looked_at words entries) vs
      ++ record { steps = []; text = check_line (length (looked_at words entries)) vs } ∷ []) (check_status vs)
  checks_so vs o told does = checks_once (Some c) o _ does (checks_all vs told)
