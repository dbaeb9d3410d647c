-- What a stop in `scrub deep` leaves: what a cartridge stood for, what it was mounted as, and clean header copies.
use Rattle.std.proofs.Common.{◌≡◌, ◌⊎◌, ◌∙◌, ◌++◌, ◌<◌, ◌-◌, ◌*◌, ℕ, List, Some, Contains, arith, ap, inl, inr, refl, sym, subst, true}
use Rattle.cartridge_laws.proofs.FormatStanding.{same_cells}
use Rattle.cartridge_laws.proofs.FormatWriting.{some_weaker}
use Rattle.cartridge_laws.proofs.MountKeeping.{stopped_stands, stopped_mounts}
use Rattle.cartridge_laws.proofs.MountOnce.{mounts_is_function}
use Rattle.cartridge_laws.proofs.MountSettled.{settled_keeps_table, settled_mounts, settled_stands}
use Rattle.cartridge_laws.proofs.MountSettles.{settling_settles}
use Rattle.cartridge_laws.proofs.MountStanding.{standing_mounts_only_so}
use Rattle.cartridge_laws.proofs.Sayings.{says_is_function}
use Rattle.cartridge_laws.specs.Table.{IsSoundList}
use Rattle.cartridge_spec.specs.Formatting.{HasCleanCopies}
use Rattle.cartridge_spec.specs.Header.{Header, header_fault}
use Rattle.cartridge_spec.specs.HeaderCopies.{CopyDoesNotRead, CopyReads, copy_cells, last_segment}
use Rattle.cartridge_spec.specs.Shape.{IsArea}
use Rattle.cartridge_spec.specs.TableSegment.{TableIs}
use Rattle.cartridge_laws.specs.HeaderTerms.{IsInForce, IsCleanCopy}
use Rattle.cartridge_spec.specs.Mounting.{IsMounted, Mounted, Mounting, Mounts, TableLost, mounted_as, settled}
use Rattle.cartridge_spec.specs.Says.{Data, Mismatch, Says, Written, Zero, whole_mask}
use Rattle.cartridge_spec.specs.Settling.{settling_steps}
use Rattle.cartridge_spec.specs.Table.{Entry, slot_fault}
use Rattle.cartridge_spec.specs.Volumes.{Plain, Stands, entries_of}
use Rattle.command_laws.proofs.CommandClean.{GoesLeaving, Leaves, both_leave, leaves_by, leaves_done, refused_leaves, settling_leaves}
use Rattle.command_laws.proofs.ScrubApart.{one_looked}
use Rattle.command_laws.proofs.ScrubBeside.{written_not_wrong, zero_not_wrong}
use Rattle.command_laws.proofs.ScrubForms.{IsLeft, as_seen, stopped_left}
use Rattle.command_laws.proofs.ScrubFormsStanding.{stopped_form_stands}
use Rattle.command_laws.proofs.ScrubFormsTable.{left_table, seen_table, table_same}
use Rattle.command_laws.proofs.ScrubMounted.{clean_copy, mounted_order}
use Rattle.command_laws.proofs.ScrubSeen.{IsSeen, same_back, wrong_same}
use Rattle.command_laws.proofs.ScrubStanding.{copy_reads, in_force, looks_in_front, table_kept}
use Rattle.command_laws.specs.ScrubFound.{without_all}
use Rattle.command_laws.specs.ScrubSayings.{Rise}
use Rattle.command_laws.specs.Outcomes.{DeepScrubOutcome, MendsDeep}
use Rattle.command_spec.specs.Outcome.{CommandOutcome, Opened}
use Rattle.command_spec.specs.Scrub.{Looked, looked_at, whole_segment, Finding, IsWrong, ScrubsAs, ScrubsBy}
use Rattle.command_spec.specs.declared.depth.Depth.{Depth}
use Rattle.command_spec.specs.declared.depth.Depth.TheVariants.{Deep}
use Rattle.qic_base.specs.Acts.{Act, steps_of}
use Rattle.qic_base.specs.Cartridge.{Cartridge}
use Rattle.qic_base.specs.declared.tape.SectorView.{SectorView}
use Rattle.qic_base.specs.declared.tape.TapeInfo.{TapeInfo}
use Rattle.command_laws.specs.SilentSectors.{IsSameIn}
use Rattle.command_laws.specs.DeepScrubLaws.{IsFirstCopyRight}

-- ---- a header copy in which no sector is wrong

abbrev NoneWrongIn : Cartridge → ℕ → Type 0
NoneWrongIn c copy = (sector : ℕ) (sectors : List (List ℕ)) → IsWrong c (whole_segment copy) sector sectors → ⊥

-- is as it was before the first write, and what is mended of it is mended as by a scrub
seen_copy : (depth : Depth) (c e : Cartridge) (looked : List Looked) (fs : List Finding) (copy : ℕ) → Rise looked →
    Contains looked (whole_segment copy) →
    IsSeen depth c e looked fs → NoneWrongIn c copy → IsSameIn c e copy
seen_copy depth c e looked fs copy rise among seen none i h =
    elim (seen.each copy i h) [
      | inl same ↦ same
      | inr lost ↦
          let found = lost.found in
          let at : found.at ≡ whole_segment copy = one_looked looked found.at (whole_segment copy) rise found.among among found.here in
          absurd (none i found.sectors (subst (λ (l : Looked). IsWrong c l i found.sectors) at found.wrong))
    ]

left_copy : (looked : List Looked) (c e d : Cartridge) (copy : ℕ) → IsSameIn c e copy → (left : IsLeft looked c e d) →
    IsSameIn left.other d copy
left_copy looked c e d copy same left i h =
    elim (left.behind.each copy i h) [
      | inl is ↦ is
      | inr kept ↦ kept.0 ∙ sym (same i h) ∙ sym kept.1
    ]

clean_same : (c d : Cartridge) (copy : ℕ) (area : List (List ℕ)) → IsSameIn c d copy → IsCleanCopy c copy area → IsCleanCopy d copy area
clean_same c d copy area same clean =
    subst (λ (cells : List SectorView). Written cells area ⊎ Zero cells) (sym (same_cells c d copy whole_mask same)) clean

reads_same : (c d : Cartridge) (copy : ℕ) (area : List (List ℕ)) → IsSameIn c d copy → CopyReads c copy area → CopyReads d copy area
reads_same c d copy area same reads = record {
  says = subst (λ (cells : List SectorView). Says cells (Data area)) (sym (same_cells c d copy whole_mask same)) reads.says;
  signature = reads.signature;
}

none_same : (c d : Cartridge) (copy : ℕ) → IsSameIn c d copy → CopyDoesNotRead c copy → CopyDoesNotRead d copy
none_same c d copy same none area reads = none area (reads_same d c copy area (same_back c d copy same) reads)

clean_not_wrong : (c : Cartridge) (copy : ℕ) (area : List (List ℕ)) → IsArea area → IsCleanCopy c copy area → NoneWrongIn c copy
clean_not_wrong c copy area is_area (inl written) sector ds wrong =
    written_not_wrong c (whole_segment copy) area sector ds is_area.sectors written wrong
clean_not_wrong c copy area is_area (inr zeros) sector ds wrong = zero_not_wrong c copy sector ds zeros wrong

read_not_wrong : (c : Cartridge) (copy : ℕ) (area : List (List ℕ)) → CopyReads c copy area → NoneWrongIn c copy
read_not_wrong c copy area reads sector ds wrong =
    let both : Data area ≡ Mismatch = says_is_function (copy_cells c copy) (Data area) Mismatch reads.says wrong.mismatch in
    absurd (cc)

-- ---- header copies

copy_left : (depth : Depth) (c e d : Cartridge) (looked : List Looked) (fs : List Finding) (copy : ℕ) (area : List (List ℕ)) → copy < 2 →
    IsArea area → Rise looked →
    Contains looked (whole_segment copy) → IsSeen depth c e looked fs → IsCleanCopy c copy area → IsLeft looked c e d →
    IsCleanCopy d copy area
copy_left depth c e d looked fs copy area small is_area rise among seen clean left =
    let same : IsSameIn c e copy = seen_copy depth c e looked fs copy rise among seen (clean_not_wrong c copy area is_area clean) in
    clean_same left.other d copy area (left_copy looked c e d copy same left)
    (clean_copy looked e left.other copy area small rise among left.way is_area (clean_same c e copy area same clean))

form_clean : (depth : Depth) (c : Cartridge) (ws : List ℕ) (entries : List Entry) (last : ℕ) (acts : List Act) (area : List (List ℕ)) →
    IsArea area →
    IsSoundList last entries → ScrubsAs depth c ws entries acts → HasCleanCopies c area → Leaves (λ d. HasCleanCopies d area) c
    (steps_of acts)
form_clean depth c ws entries last acts area is_area order scrubs clean left torn =
    let looked : List Looked = looked_at ws entries in
    let fs : List Finding = scrubs.findings in
    let e : Cartridge = without_all c looked fs in
    let run = as_seen depth c ws entries last acts order scrubs in
    let front = looks_in_front ws entries run.rise in
    some_weaker left (λ d is. record {
      first = copy_left depth c e d looked fs 0 area (omega arith) is_area run.rise front.first run.seen clean.first is;
      second = copy_left depth c e d looked fs 1 area (omega arith) is_area run.rise front.second run.seen clean.second is;
    })
    (stopped_left depth c ws entries acts fs left run torn)

-- ---- what it is mounted as

force_same : (c d : Cartridge) (area : List (List ℕ)) → IsSameIn c d 0 → IsSameIn c d 1 → IsInForce c area → IsInForce d area
force_same c d area first second (inl reads) = inl (reads_same c d 0 area first reads)
force_same c d area first second (inr other) = inr (none_same c d 0 first other.0, reads_same c d 1 area second other.1)

-- the header in force is so still: where it is that of the second copy, no sector of that one is wrong
force_left : (depth : Depth) (c e d : Cartridge) (ws : List ℕ) (entries : List Entry) (fs : List Finding) (area : List (List ℕ)) →
    Rise (looked_at ws entries) →
    IsSeen depth c e (looked_at ws entries) fs → NoneWrongIn c 0 → IsLeft (looked_at ws entries) c e d → IsInForce c area → IsInForce d area
force_left depth c e d ws entries fs area rise seen none left (inl reads) =
    let looked : List Looked = looked_at ws entries in
    let front = looks_in_front ws entries rise in
    let same : IsSameIn c e 0 = seen_copy depth c e looked fs 0 rise front.first seen none in
    inl (reads_same left.other d 0 area (left_copy looked c e d 0 same left)
    (copy_reads looked e left.other 0 area rise front.first left.way (reads_same c e 0 area same reads)))
force_left depth c e d ws entries fs area rise seen none left (inr other) =
    let looked : List Looked = looked_at ws entries in
    let front = looks_in_front ws entries rise in
    let first : IsSameIn c e 0 = seen_copy depth c e looked fs 0 rise front.first seen none in
    let second : IsSameIn c e 1 = seen_copy depth c e looked fs 1 rise front.second seen (read_not_wrong c 1 area other.1) in
    force_same left.other d area (left_copy looked c e d 0 first left) (left_copy looked c e d 1 second left)
    (in_force looked e left.other area front left.way (force_same c e area first second (inr other)))

table_left : (depth : Depth) (c e d : Cartridge) (ws : List ℕ) (entries : List Entry) (fs : List Finding) (area : List (List ℕ)) →
    Rise (looked_at ws entries) →
    IsSeen depth c e (looked_at ws entries) fs → IsLeft (looked_at ws entries) c e d → TableIs c area → TableIs d area
table_left depth c e d ws entries fs area rise seen left reads =
    let looked : List Looked = looked_at ws entries in
    let same : IsSameIn c e 2 = seen_table depth c e looked fs seen in
    table_same left.other d area (left_table looked c e d same left)
    (table_kept looked e left.other area (looks_in_front ws entries rise) left.way (table_same c e area same reads))

form_mounts : (depth : Depth) (c : Cartridge) (header : Header) (ws : List ℕ) (table : List (List ℕ)) (entries : List Entry)
    (acts : List Act) → NoneWrongIn c 0 →
    IsMounted c header ws table entries → ScrubsAs depth c ws entries acts → Leaves (λ d. IsMounted d header ws table entries) c
    (steps_of acts)
form_mounts depth c header ws table entries acts none mounted scrubs left torn =
    let looked : List Looked = looked_at ws entries in
    let fs : List Finding = scrubs.findings in
    let e : Cartridge = without_all c looked fs in
    let run = as_seen depth c ws entries (last_segment c) acts (mounted_order c header ws table entries mounted) scrubs in
    some_weaker left
    (λ d is.
    let info : d.info ≡ c.info = is.behind.info.0 in
    record {
      area = mounted.area;
      formatted = record {
        has_header = record {
          referenced = ap (λ (i : TapeInfo). i.referenced) info ∙ mounted.formatted.has_header.referenced;
          in_force = force_left depth c e d ws entries fs mounted.area run.rise run.seen none is mounted.formatted.has_header.in_force;
        };
        sound = ap (λ (i : TapeInfo). header_fault mounted.area i.segments_per_track) info ∙ mounted.formatted.sound;
        shown = mounted.formatted.shown;
      };
      reads = table_left depth c e d ws entries fs table run.rise run.seen is mounted.reads;
      sound = λ i h. ap (λ (t : TapeInfo). slot_fault table (28 * t.segments_per_track - 1) i) info ∙ mounted.sound i h;
      shown = mounted.shown;
    })
    (stopped_left depth c ws entries acts fs left run torn)

-- ---- the command

-- the settling, and the scrubbing behind it
module _ (P : Cartridge → Type 0) (c : Cartridge) (header : Header) (ws : List ℕ) (table : List (List ℕ)) (entries : List Entry)
    (outcome : CommandOutcome) where
  both_parts : Mounts c (Mounted header ws table entries) → (on : ScrubsBy Deep c header ws table entries outcome) →
      Leaves P c (settling_steps table c) →
      Leaves P (settled table c) (steps_of on.acts) → Leaves P c (steps_of outcome.acts)
  both_parts mounts on first next =
      leaves_by P c (steps_of outcome.acts) (settling_steps table c ++ steps_of on.acts)
      (ap (λ (o : CommandOutcome). steps_of o.acts) on.is)
      (both_leave P c (settling_steps table c) (steps_of on.acts) first
      (subst (λ (d : Cartridge). Leaves P d (steps_of on.acts)) (sym (settling_settles c table mounts.reads)) next))

pub deep_stands : (plain : Plain) → GoesLeaving (λ d. Stands d plain) MendsDeep
deep_stands plain c header ws table entries outcome mounts on stood =
    let m : Mounting = Mounted header ws table entries in
    let same : m ≡ mounted_as plain = elim (standing_mounts_only_so c plain m stood mounts)
    [ inl is ↦ is | inr lost ↦ let no : m ≡ TableLost lost.0 = lost.1 in absurd (cc) ] in
    let map : ws ≡ plain.words = cc in
    let list : entries ≡ entries_of plain = cc in
    let e : Cartridge = settled table c in
    both_parts (λ d. Stands d plain) c header ws table entries outcome mounts on
    (λ left torn. stopped_stands c plain table left stood mounts.reads torn)
    (λ left torn. stopped_form_stands Deep e plain on.acts left (settled_stands c plain table stood mounts.reads)
    (subst (λ (es : List Entry). ScrubsAs Deep e plain.words es on.acts) list
    (subst (λ (w : List ℕ). ScrubsAs Deep e w entries on.acts) map on.scrubs)) torn)

pub deep_clean : (area : List (List ℕ)) → IsArea area → GoesLeaving (λ d. HasCleanCopies d area) MendsDeep
deep_clean area is_area c header ws table entries outcome mounts on clean =
    let P : Cartridge → Type 0 = λ d. HasCleanCopies d area in
    let first = settling_leaves area is_area table c clean in
    both_parts P c header ws table entries outcome mounts on first
    (form_clean Deep (settled table c) ws entries (last_segment c) on.acts area is_area
    (mounted_order c header ws table entries mounts) on.scrubs
    (subst P (settling_settles c table mounts.reads) (leaves_done P c (settling_steps table c) first)))

-- the settling leaves the header copies
settled_right : (c : Cartridge) (table : List (List ℕ)) → TableIs c table → NoneWrongIn c 0 → NoneWrongIn (settled table c) 0
settled_right c table reads none sector ds wrong =
    let e : Cartridge = settled table c in
    let same : IsSameIn c e 0 = λ i h. (settled_keeps_table c table reads).others 0 i h (λ is. omega arith) in
    none sector ds (wrong_same e c (whole_segment 0) sector ds (same_back c e 0 same) wrong)

deep_goes_mounted : (c : Cartridge) (header : Header) (ws : List ℕ) (table : List (List ℕ)) (entries : List Entry)
    (outcome : CommandOutcome) → NoneWrongIn c 0 →
    Mounts c (Mounted header ws table entries) → MendsDeep c header ws table entries outcome →
    Leaves (λ d. Mounts d (Mounted header ws table entries)) c (steps_of outcome.acts)
deep_goes_mounted c header ws table entries outcome none mounts on =
    both_parts (λ d. Mounts d (Mounted header ws table entries)) c header ws table entries outcome mounts on
    (λ left torn. stopped_mounts c header ws table entries left mounts torn)
    (form_mounts Deep (settled table c) header ws table entries on.acts (settled_right c table mounts.reads none)
    (settled_mounts c header ws table entries mounts) on.scrubs)

pub deep_mounts : (c : Cartridge) (header : Header) (ws : List ℕ) (table : List (List ℕ)) (entries : List Entry)
    (outcome : CommandOutcome) →
    (c.info.protected ≡ true) ⊎ IsFirstCopyRight c → Mounts c (Mounted header ws table entries) → DeepScrubOutcome (Some c) outcome →
    Leaves (λ d. Mounts d (Mounted header ws table entries)) c (steps_of outcome.acts)
deep_mounts c header ws table entries outcome keeps mounts (inl is) =
    refused_leaves (λ d. Mounts d (Mounted header ws table entries)) c outcome _ is.1 refl mounts
deep_mounts c header ws table entries outcome (inl locked) mounts (inr is) = let free = is.0 in absurd (cc)
deep_mounts c header ws table entries outcome (inr right) mounts (inr (free, (m, again, opened))) =
    let same : m ≡ Mounted header ws table entries = mounts_is_function c m (Mounted header ws table entries) again mounts in
    deep_goes_mounted c header ws table entries outcome right mounts (subst (λ (a : Mounting). Opened MendsDeep c a outcome) same opened)
