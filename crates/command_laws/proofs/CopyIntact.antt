-- The target of a copy, done or stopped, comes back where then one sector more of its table's segment is lost.
use Rattle.std.proofs.Common.{◌⊎◌, ◌≡◌, ℕ, zero, suc, ◌+◌, ◌<◌, ◌≤◌, arith, true, List, [], ◌∷◌, ◌++◌, length, take, All}
use Rattle.std.proofs.Common.{Option, Some, None, IsSomeAnd, inl, inr, refl, sym, ap, ◌∙◌, subst, append-nil, length-append}
use Rattle.std.proofs.lemmas.List.Elements.{All-head, All-tail}
use Rattle.cartridge_laws.proofs.AppendVolume.{free_writes_stand, last_end_least}
use Rattle.cartridge_laws.proofs.FormatWriting.{some_weaker}
use Rattle.cartridge_laws.proofs.MountStanding.{standing_data}
use Rattle.cartridge_laws.proofs.OneLossComesBack.{whole_comes_back}
use Rattle.cartridge_laws.specs.Table.{last_end}
use Rattle.cartridge_laws.proofs.MountOnce.{not_lost}
use Rattle.cartridge_spec.specs.Appending.{Content, has_room, with_all}
use Rattle.cartridge_spec.specs.Mounting.{settled}
use Rattle.cartridge_spec.specs.Settling.{changed_by, settling_steps}
use Rattle.cartridge_spec.specs.Table.{Entry}
use Rattle.cartridge_spec.specs.TableSegment.{IsTableLive}
use Rattle.cartridge_spec.specs.Volumes.{Plain, Stands, entries_of}
use Rattle.command_laws.proofs.CommandOneLoss.{kept_whole}
use Rattle.command_laws.proofs.CopyGiven.{GivesAll, content_of, given_back, given_may, given_of, given_only, with_entry}
use Rattle.command_laws.proofs.CopyLeaving.{CopiesTo, DoesNothing, all_acts, given_map, held_values, missing_values, to_does}
use Rattle.command_laws.proofs.CopyPrinted.{CutIn, Early, Late, cut_in, early_text, left_text, left_torn, line_long, lines_more, lines_of}
use Rattle.command_laws.proofs.CopyPrinted.{no_text, refused_text, settles, settles_quiet, still_is}
use Rattle.command_laws.proofs.CopyStanding.{behind_last, done_given, done_reads, done_text, done_volume, side_behind, side_for, steps_are}
use Rattle.command_laws.proofs.CopyValues.{HasValues}
use Rattle.command_laws.proofs.IntactKeeping.{appends_leave_intact, intact_is_one, settled_is_intact, whole_needs_no_steps}
use Rattle.command_laws.proofs.MountedKeeping.{changed_by_acts, kept_open}
use Rattle.command_laws.proofs.ScriptActs.{full_acts}
use Rattle.command_laws.specs.ActStops.{IsLeftBy}
use Rattle.command_laws.specs.CopyIntact.{DoneCopyComesBack, PrintedCopyComesBack, StoppedCopyComesBack}
use Rattle.command_laws.specs.Intact.{AppendLeavesIntact, IsIntact}
use Rattle.command_laws.specs.MountedKept.{IsKept, IsOpen}
use Rattle.command_spec.specs.Append.{input_writes, kept_over}
use Rattle.command_spec.specs.CopyGiven.{AreGivenBack, GivenBy, ListsLike, missing_on}
use Rattle.command_spec.specs.CopyOneLoss.{ComesBackWithAll, ComesBackWithGiven, SettlesOrComesBack}
use Rattle.command_spec.specs.Copying.{Copies, CopiesVolume, CopyOutcome, DoneOf, IsBegun, IsFull, Side}
use Rattle.command_spec.specs.Copying.{copied_behind, copied_line, copy_acts, has_room_for, length_on}
use Rattle.command_spec.specs.OneLoss.{ComesBackAsOneOf, SomeComeBack}
use Rattle.command_spec.specs.Outcome.{settling_act}
use Rattle.command_spec.specs.Restore.{GivingEnd, LostIn, MismatchIn, Restored, Restores, pieces}
use Rattle.command_spec.specs.declared.copy_status.CopyStatus.{CopyStatus}
use Rattle.qic_base.proofs.Joins.{steps_of-append}
use Rattle.qic_base.proofs.Steps.{effects-append, Torn-append, Torn-front, Torn-nothing}
use Rattle.qic_base.specs.Acts.{Act, next_steps, steps_of, text_of}
use Rattle.qic_base.specs.Cartridge.{Cartridge}
use Rattle.qic_base.specs.CartridgeTerms.{IsCartridge}
use Rattle.qic_base.specs.Step.{Step, effects, Torn}
use Rattle.command_spec.specs.declared.copy_status.CopyStatus.TheVariants as status

-- ---- one volume

-- where it is stopped the target comes back as it was; or the source gave all of it, and it comes back so or with the volume
data ComesIn (from : Side) (e : Entry) (p : Plain) (left : Option Cartridge) : Type 0 where
  Same : IsSomeAnd left (ComesBackAsOneOf p p) → ComesIn from e p left
  Next : GivesAll from e → IsSomeAnd left (ComesBackAsOneOf p (with_entry from p e)) → ComesIn from e p left

module _ (from : Side) (e : Entry) (values : HasValues e) (d : Cartridge) (p : Plain) (intact : IsIntact d p) where
  opened : IsOpen d p
  opened = kept_open d p intact.kept

  no_steps : settling_steps p.table_area d ≡ []
  no_steps = whole_needs_no_steps d p.table_area intact.table intact.kept.unprotected

  leaves : has_room p (length (given_of from e)) ≡ true → AppendLeavesIntact d p (content_of from e)
  leaves enough = appends_leave_intact d p (content_of from e) intact (given_may from e values) enough

  intact_behind : (acts : List Act) → CopiesVolume from e (side_for d p) acts status.Done →
      IsIntact (changed_by (steps_of acts) d) (with_entry from p e)
  intact_behind acts does =
      let did = done_volume from e values d p opened acts does in
      let now = leaves did.0 in
      subst (λ (steps : List Step). IsIntact (changed_by steps d) (with_entry from p e)) (sym did.1) now.done

  begun_comes : (table : List (List ℕ)) (given : List ℕ) (acts : List Act) (left : Option Cartridge) → table ≡ p.table_area →
      IsBegun from e (side_for d p) table given acts → Torn (steps_of acts) (Some d) left → IsSomeAnd left (ComesBackAsOneOf p p)
  begun_comes table given acts left area begun torn =
      let writes : List Act = input_writes p.words (entries_of p) (Some (length_on from e)) given in
      let all : Torn (settling_steps table d ++ steps_of writes) (Some d) left =
      subst (λ (steps : List Step). Torn steps (Some d) left) (sym (steps_of-append acts begun.rest) ∙ ap steps_of begun.parts)
      (Torn-front (steps_of acts) (steps_of begun.rest) (Some d) left torn) in
      let now : Torn (steps_of writes) (Some d) left =
      subst (λ (ss : List Step). Torn (ss ++ steps_of writes) (Some d) left)
      (ap (λ (t : List (List ℕ)). settling_steps t d) area ∙ no_steps) all in
      some_weaker left
      (λ g known f lost loses. inl (whole_comes_back g p known.0
      (kept_whole d g p.table_area (last_end (entries_of p)) (last_end_least d p intact.kept.stands) known.1 intact.table)
      intact.kept.stands.whole.table_area f lost loses))
      (free_writes_stand d p (steps_of writes) left intact.kept.stands
      (behind_last (kept_over d p.words (entries_of p) table) (length_on from e) given) now)

  full_comes : (table : List (List ℕ)) (acts : List Act) (answer : CopyStatus) (left : Option Cartridge) → table ≡ p.table_area →
      IsFull from e (side_for d p) table acts answer → Torn (steps_of acts) (Some d) left → IsSomeAnd left (ComesBackAsOneOf p p)
  full_comes table acts answer left area full torn =
      let alone : copy_acts from e (side_for d p) table [] ≡ record { steps = settling_steps table d; text = [] } ∷ [] =
      full_acts (kept_over d p.words (entries_of p) table) e.name e.date (length_on from e) full.none
      (copied_behind (length (entries_of p))) [] in
      let steps : steps_of acts ≡ [] =
      ap steps_of (full.does ∙ alone) ∙ append-nil (settling_steps table d) ∙ ap (λ (t : List (List ℕ)). settling_steps t d) area
      ∙ no_steps in
      intact_is_one d p p left intact (subst (λ (ss : List Step). Torn ss (Some d) left) steps torn)

  given_comes : (table : List (List ℕ)) (acts : List Act) (given : List ℕ) (read : List Act) (ending : GivingEnd)
      (left : Option Cartridge) → table ≡ p.table_area → has_room_for from e (side_for d p) ≡ true → given ≡ given_of from e →
      Restores from.cartridge from.words (pieces from.words e) read ending → DoneOf from e (side_for d p) table given ending acts →
      Torn (steps_of acts) (Some d) left → ComesIn from e p left
  given_comes table acts given read Restored left area room same restores does torn =
      let did = done_given from e values d p opened table acts Restored given area room refl same does in
      let now = leaves did.0 in
      Next (read, restores) (now.stopped left
      (subst (λ (steps : List Step). Torn steps (Some d) left) (ap steps_of did.1 ∙ steps_are from e values d p opened did.0) torn))
  given_comes table acts given read (LostIn segment lost) left area room same restores does torn =
      Same (begun_comes table given acts left area does torn)
  given_comes table acts given read (MismatchIn segment) left area room same restores does torn =
      Same (begun_comes table given acts left area does torn)

  volume_comes : (acts : List Act) (answer : CopyStatus) (left : Option Cartridge) → CopiesVolume from e (side_for d p) acts answer →
      Torn (steps_of acts) (Some d) left → ComesIn from e p left
  volume_comes acts answer left (inl lost) torn = absurd (not_lost d p.table_area lost.lost intact.kept.table lost.says)
  volume_comes acts answer left (inr (table, reads, inl full)) torn =
      Same (full_comes table acts answer left (standing_data d p table intact.kept.stands reads) full torn)
  volume_comes acts answer left (inr (table, reads, inr is)) torn =
      given_comes table acts is.bytes is.read is.ending left (standing_data d p table intact.kept.stands reads) is.room
      (given_only from e is.bytes is.given) is.restores is.does torn

-- ---- volumes one after the other

-- it comes back with the first ones of some volumes, among them those whose lines were printed
record ComesWith (from : Side) (es : List Entry) (p : Plain) (printed : ℕ) (left : Option Cartridge) : Type 0 where
  contents : List Content
  given : AreGivenBack from es contents
  back : SomeComeBack (λ n. with_all p (take n contents)) 0 (length contents) left
  whole : (n : ℕ) → n ≤ length es → lines_of from (length p.volumes + 1) es n ≤ printed → n ≤ back.one

-- before the first line was written whole
early_comes : (from : Side) (e : Entry) (es : List Entry) (p : Plain) (printed : ℕ) (left : Option Cartridge) → ComesIn from e p left →
    printed < length (copied_line (length p.volumes + 1) (length_on from e)) → ComesWith from (e ∷ es) p printed left
early_comes from e es p printed left comes short = by_comes comes
  where
    by_number : (n : ℕ) → n ≤ length (e ∷ es) → lines_of from (length p.volumes + 1) (e ∷ es) n ≤ printed → n ≤ 0
    by_number zero within lines = omega arith
    by_number (suc n) within lines =
        let more : lines_of from (length p.volumes + 1) (e ∷ es) (suc n)
        ≡ length (copied_line (length p.volumes + 1) (length_on from e)) + lines_of from (length p.volumes + 1 + 1) es n =
        lines_more from (length p.volumes + 1) e es n in
        absurd (omega arith)

    by_comes : ComesIn from e p left → ComesWith from (e ∷ es) p printed left
    by_comes (Same same) = record {
      contents = [];
      given = tt;
      back = record { one = 0; other = 0; from = omega arith; next = (omega arith, omega arith); within = omega arith; comes = same };
      whole = by_number;
    }
    by_comes (Next read either) = record {
      contents = content_of from e ∷ [];
      given = (given_back from e read, tt);
      back = record { one = 0; other = 1; from = omega arith; next = (omega arith, omega arith); within = omega arith; comes = either };
      whole = by_number;
    }

-- behind it
late_comes : (from : Side) (e : Entry) (es : List Entry) (p : Plain) (printed more : ℕ) (left : Option Cartridge) → GivesAll from e →
    printed ≡ length (copied_line (length p.volumes + 1) (length_on from e)) + more →
    ComesWith from es (with_entry from p e) more left → ComesWith from (e ∷ es) p printed left
late_comes from e es p printed more left read is later = record {
  contents = content_of from e ∷ later.contents;
  given = (given_back from e read, later.given);
  back = record {
    one = suc later.back.one;
    other = suc later.back.other;
    from = omega arith;
    next = (let next = later.back.next in (omega (arith, next.0), omega (arith, next.1)));
    within = (let few = later.back.within in omega arith);
    comes = later.back.comes;
  };
  whole = by_number;
}
  where
    count : length (with_entry from p e).volumes ≡ length p.volumes + 1
    count = length-append p.volumes _

    by_number : (n : ℕ) → n ≤ length (e ∷ es) → lines_of from (length p.volumes + 1) (e ∷ es) n ≤ printed → n ≤ suc later.back.one
    by_number zero within lines = omega arith
    by_number (suc n) within lines =
        let all : lines_of from (length p.volumes + 1) (e ∷ es) (suc n)
        ≡ length (copied_line (length p.volumes + 1) (length_on from e)) + lines_of from (length p.volumes + 1 + 1) es n =
        lines_more from (length p.volumes + 1) e es n in
        let same : lines_of from (length (with_entry from p e).volumes + 1) es n ≡ lines_of from (length p.volumes + 1 + 1) es n =
        ap (λ (number : ℕ). lines_of from (number + 1) es n) count in
        let few : n ≤ later.back.one = later.whole n (omega arith) (omega arith) in
        omega arith

-- all of some volumes, with a whole table
record IntactWith (from : Side) (es : List Entry) (p : Plain) (d : Cartridge) : Type 0 where
  contents : List Content
  given : AreGivenBack from es contents
  all : length contents ≡ length es
  intact : IsIntact d (with_all p contents)

module _ (from : Side) where
  copies_come : (es : List Entry) → All HasValues es → (d : Cartridge) (p : Plain) → IsIntact d p → (acts : List Act)
      (answer : CopyStatus) (text : List ℕ) (left : Option Cartridge) → Copies from es (side_for d p) acts answer →
      IsLeftBy d acts text left → ComesWith from es p (length text) left
  copies_come [] values d p intact acts answer text left (does, done) at = record {
    contents = [];
    given = tt;
    back = record {
      one = 0;
      other = 0;
      from = omega arith;
      next = (omega arith, omega arith);
      within = omega arith;
      comes = intact_is_one d p p left intact
          (subst (λ (zs : List Act). Torn (steps_of zs) (Some d) left) does (left_torn d acts text left at));
    };
    whole = λ n within lines. omega arith;
  }
  copies_come (e ∷ es) values d p intact acts answer text left (inl (other, does)) at =
      let quiet : text_of acts ≡ [] = refused_text from e (side_for d p) acts answer other does in
      let few : length text ≤ length (text_of acts) = left_text d acts text left at in
      let none : length (text_of acts) ≡ 0 = ap (λ (xs : List ℕ). length xs) quiet in
      let long : 0 < length (copied_line (length p.volumes + 1) (length_on from e)) = line_long (length p.volumes + 1) (length_on from e) in
      early_comes from e es p (length text) left
      (volume_comes from e (All-head HasValues e es values) d p intact acts answer left does (left_torn d acts text left at))
      (omega arith)
  copies_come (e ∷ es) values d p intact acts answer text left (inr (first, rest, parts, does, later)) at =
      by_cut (cut_in d first rest acts text left parts at)
      (λ more left_at. copies_come es (All-tail HasValues e es values) (changed_by (steps_of first) d) (with_entry from p e)
      (intact_behind from e has d p intact first does) rest answer more left
      (subst (λ (side : Side). Copies from es side rest answer) (side_behind from e has d p open_now first) later) left_at)
    where
      has : HasValues e
      has = All-head HasValues e es values

      open_now : IsOpen d p
      open_now = kept_open d p intact.kept

      line : length (text_of first) ≡ length (copied_line (length p.volumes + 1) (length_on from e))
      line = ap (λ (xs : List ℕ). length xs) (done_text from e has d p open_now first does)

      by_cut : CutIn d first rest text left →
          ((more : List ℕ) → IsLeftBy (changed_by (steps_of first) d) rest more left → ComesWith from es (with_entry from p e)
          (length more) left) → ComesWith from (e ∷ es) p (length text) left
      by_cut (Early torn front next parts_of_first some short) go =
          let is_line : length (text_of first) ≡ length (copied_line (length p.volumes + 1) (length_on from e)) = line in
          let long : 0 < length (copied_line (length p.volumes + 1) (length_on from e)) = line_long (length p.volumes + 1)
          (length_on from e) in
          let quiet : length (text_of front) ≡ 0 = ap (λ (xs : List ℕ). length xs)
          (early_text from e has d p open_now first does front next parts_of_first some) in
          early_comes from e es p (length text) left (volume_comes from e has d p intact first status.Done left does torn)
          (elim short [
            | inl few ↦ omega arith
            | inr less ↦ omega arith
          ])
      by_cut (Late more is_text left_at) go =
          let is_line : length (text_of first) ≡ length (copied_line (length p.volumes + 1) (length_on from e)) = line in
          let all : length text ≡ length (text_of first) + length more = ap (λ (xs : List ℕ). length xs) is_text
          ∙ length-append (text_of first) more in
          late_comes from e es p (length text) (length more) left (done_reads from e has d p open_now first does) (omega arith)
          (go more left_at)

  copies_intact : (es : List Entry) → All HasValues es → (d : Cartridge) (p : Plain) → IsIntact d p → (acts : List Act) →
      Copies from es (side_for d p) acts status.Done → IntactWith from es p (changed_by (steps_of acts) d)
  copies_intact [] values d p intact acts (does, done) = record {
    contents = [];
    given = tt;
    all = refl;
    intact = subst (λ (zs : List Act). IsIntact (changed_by (steps_of zs) d) p) (sym does) intact;
  }
  copies_intact (e ∷ es) values d p intact acts (inl (other, does)) = absurd (other refl)
  copies_intact (e ∷ es) values d p intact acts (inr (first, rest, parts, does, later)) =
      let has : HasValues e = All-head HasValues e es values in
      let open_now : IsOpen d p = kept_open d p intact.kept in
      let next : Plain = with_entry from p e in
      let f : Cartridge = changed_by (steps_of first) d in
      let now : IntactWith from es next (changed_by (steps_of rest) f) =
      copies_intact es (All-tail HasValues e es values) f next (intact_behind from e has d p intact first does) rest
      (subst (λ (side : Side). Copies from es side rest status.Done) (side_behind from e has d p open_now first) later) in
      let count : length now.contents ≡ length es = now.all in record {
        contents = content_of from e ∷ now.contents;
        given = (given_back from e (done_reads from e has d p open_now first does), now.given);
        all = omega arith;
        intact = subst (λ (g : Cartridge). IsIntact g (with_all next now.contents))
            (sym (ap (λ (zs : List Act). changed_by (steps_of zs) d) (sym parts) ∙ changed_by_acts first rest d)) now.intact;
      }

-- ---- the outcome

module _ (d : Cartridge) (other : Plain) (outcome : CopyOutcome) (whole : IsCartridge d) (standing : Stands d other)
    (live : IsTableLive d) where
  module _ (from : Side) (like : ListsLike from other) (to : CopiesTo d other outcome from) where
    kept_now : IsKept d other
    kept_now = record {
      cartridge = whole;
      stands = standing;
      table = to.reads.reads;
      live = live;
      unprotected = to.unprotected;
    }

    intact_now : IsIntact (settled other.table_area d) other
    intact_now = settled_is_intact d other kept_now

    comes_cut : (text : List ℕ) (left : Option Cartridge) →
        CutIn d (settles d other outcome whole standing live text left) to.rest text left →
        ((text ≡ []) × Torn (settling_steps other.table_area d) (Some d) left) ⊎ ComesBackWithGiven from other (length text) left
    comes_cut text left (Early torn front next parts some short) =
        let quiet : length (text_of front) ≡ 0 = settles_quiet d other outcome whole standing live text left front next parts in
        let none : length text ≤ 0 = elim short [
          | inl few ↦ omega arith
          | inr less ↦ absurd (omega arith)
        ] in
        inl (empty text none, subst (λ (ss : List Step). Torn ss (Some d) left) (append-nil (settling_steps other.table_area d)) torn)
      where
        empty : (xs : List ℕ) → length xs ≤ 0 → xs ≡ []
        empty [] none = refl
        empty (x ∷ xs) none = absurd (omega arith)
    comes_cut text left (Late more is_text at) =
        let with : ComesWith from (missing_on from other) other (length more) left =
        copies_come from (missing_on from other) (missing_values d other outcome whole standing from like to)
        (settled other.table_area d) other intact_now to.rest outcome.status more left to.copies
        (subst (λ (f : Cartridge). IsLeftBy f to.rest more left)
        (still_is d other outcome whole standing live text left from like to) at) in
        inr (subst (λ (xs : List ℕ). ComesBackWithGiven from other (length xs) left) (sym is_text)
        (record { contents = with.contents; given = with.given; back = with.back; whole = with.whole }))

    comes_all : outcome.status ≡ status.Done → IntactWith from (missing_on from other) other (changed_by (steps_of to.rest)
        (settled other.table_area d))
    comes_all is =
        copies_intact from (missing_on from other) (missing_values d other outcome whole standing from like to)
        (settled other.table_area d) other intact_now to.rest
        (subst (λ (answer : CopyStatus). Copies from (missing_on from other) (side_for (settled other.table_area d) other) to.rest answer)
        is to.copies)

  alone_settles : DoesNothing d other outcome → (text : List ℕ) (left : Option Cartridge) → IsLeftBy d outcome.acts text left →
      (text ≡ []) × Torn (settling_steps other.table_area d) (Some d) left
  alone_settles none text left at = (
    no_text d other outcome whole standing live text left none at,
    elim none.acts [
      | inl is ↦
          let same : left ≡ Some d = subst (λ (zs : List Act). Torn (steps_of zs) (Some d) left) is
          (left_torn d outcome.acts text left at) in
          subst (λ (l : Option Cartridge). Torn (settling_steps other.table_area d) (Some d) l) (sym same)
          (Torn-nothing (settling_steps other.table_area d) (Some d))
      | inr (reads, is) ↦
          subst (λ (steps : List Step). Torn steps (Some d) left) (ap steps_of is ∙ append-nil (settling_steps other.table_area d))
          (left_torn d outcome.acts text left at)
    ],
  )

-- the settling of both cases is one
comes_either : (held : Option Cartridge) (d : Cartridge) (other : Plain) (text : List ℕ) (left : Option Cartridge) →
    GivenBy held other (λ side. ((text ≡ []) × Torn (settling_steps other.table_area d) (Some d) left)
    ⊎ ComesBackWithGiven side other (length text) left) → SettlesOrComesBack held d other text left
comes_either None d other text left given = absurd given
comes_either (Some c) d other text left (from, mounts, like, inl settling) = inl settling
comes_either (Some c) d other text left (from, mounts, like, inr comes) = inr (from, mounts, like, comes)

pub printed_copy_comes_back : PrintedCopyComesBack
printed_copy_comes_back held d other outcome text left from_whole whole standing live yields at =
    elim (to_does d other standing outcome held (held_values held from_whole) yields) [
      | inl copies ↦
          comes_either held d other text left
          (given_map held other (λ side. CopiesTo d other outcome side)
          (λ side. ((text ≡ []) × Torn (settling_steps other.table_area d) (Some d) left)
          ⊎ ComesBackWithGiven side other (length text) left)
          (λ from like to. comes_cut d other outcome whole standing live from like to text left
          (cut_in d (settling_act other.table_area d ∷ []) to.rest outcome.acts text left (sym to.acts) at)) copies)
      | inr none ↦ inl (alone_settles d other outcome whole standing live none text left at)
    ]

-- a stop among the steps of acts comes among those of one of them, or behind all
torn_at : (acts : List Act) (held left : Option Cartridge) → Torn (steps_of acts) held left → (front : List Act) × (rest : List Act)
    × (front ++ rest ≡ acts) × Torn (next_steps rest) (effects (steps_of front) held) left
torn_at [] held left torn = ([], [], refl, torn)
torn_at (act ∷ acts) held left torn = elim (Torn-append act.steps (steps_of acts) held left torn) [
  | inl here ↦ ([], act ∷ acts, refl, here)
  | inr later ↦
      let at = torn_at acts (effects act.steps held) left later in (
        act ∷ at.0,
        at.1,
        ap (λ (zs : List Act). act ∷ zs) at.2,
        subst (λ (o : Option Cartridge). Torn (next_steps at.1) o left) (sym (effects-append act.steps (steps_of at.0) held)) at.3,
      )
]

pub stopped_copy_comes_back : StoppedCopyComesBack
stopped_copy_comes_back held d other outcome left from_whole whole standing live yields torn =
    let at = torn_at outcome.acts (Some d) left torn in
    by_given (printed_copy_comes_back held d other outcome (text_of at.0) left from_whole whole standing live yields
    (inl (record { front = at.0; rest = at.1; parts = at.2; torn = at.3; is_text = refl })))
  where
    fewer : (text : List ℕ) (from : Side) → ComesBackWithGiven from other (length text) left → ComesBackWithGiven from other 0 left
    fewer text from back = record {
      contents = back.contents;
      given = back.given;
      back = back.back;
      whole = λ n within lines. back.whole n within (omega arith);
    }

    by_given : {text : List ℕ} → SettlesOrComesBack held d other text left → SettlesOrComesBack held d other [] left
    by_given {text} (inl (quiet, settling)) = inl (refl, settling)
    by_given {text} (inr given) =
        inr (given_map held other (λ side. ComesBackWithGiven side other (length text) left)
        (λ side. ComesBackWithGiven side other 0 left) (λ from like back. fewer text from back) given)

pub done_copy_comes_back : DoneCopyComesBack
done_copy_comes_back held d other outcome from_whole whole standing live yields is =
    elim (to_does d other standing outcome held (held_values held from_whole) yields) [
      | inl copies ↦
          given_map held other (λ side. CopiesTo d other outcome side)
          (λ side. ComesBackWithAll side other (Some (changed_by (steps_of outcome.acts) d)))
          (λ from like to. all_back from like to (comes_all d other outcome whole standing live from like to is)) copies
      | inr none ↦ absurd (none.unlike is)
    ]
  where
    all_back : (from : Side) (like : ListsLike from other) (to : CopiesTo d other outcome from) →
        IntactWith from (missing_on from other) other (changed_by (steps_of to.rest) (settled other.table_area d)) →
        ComesBackWithAll from other (Some (changed_by (steps_of outcome.acts) d))
    all_back from like to with =
        let now : IsIntact (changed_by (steps_of outcome.acts) d) (with_all other with.contents) =
        subst (λ (f : Cartridge). IsIntact f (with_all other with.contents))
        (sym (all_acts d other outcome whole standing from like to)) with.intact in record {
          contents = with.contents;
          given = with.given;
          all = with.all;
          comes = intact_is_one (changed_by (steps_of outcome.acts) d) (with_all other with.contents) (with_all other with.contents)
              (Some (changed_by (steps_of outcome.acts) d)) now refl;
        }
