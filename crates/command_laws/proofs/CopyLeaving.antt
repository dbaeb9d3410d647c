-- What a copy leaves of both cartridges, done or stopped, where the target stands for a plain one.
use Rattle.std.proofs.Common.{◌⊎◌, ◌≡◌, ℕ, false, List, [], ◌∷◌, ◌++◌, length, drop, All, Option, Some, None}
use Rattle.std.proofs.Common.{IfSome, IsSomeAnd, inl, inr, refl, sym, ap, ◌∙◌, subst, append-nil}
use Rattle.std.proofs.lemmas.List.{length-map}
use Rattle.std.proofs.lemmas.List.Elements.{All-drop}
use Rattle.cartridge_laws.proofs.FormatWriting.{changed_by-append, some_and}
use Rattle.cartridge_laws.proofs.MountKeeping.{stopped_stands}
use Rattle.cartridge_laws.proofs.MountSettles.{settling_settles}
use Rattle.cartridge_laws.proofs.MountStanding.{standing_mounts_only_so}
use Rattle.cartridge_laws.proofs.MountWhole.{settling_effects, table_is_area}
use Rattle.cartridge_spec.specs.Header.{Header}
use Rattle.cartridge_spec.specs.Mounting.{Mounting, Mounts, TableLost, mounted_as, settled}
use Rattle.cartridge_spec.specs.Settling.{changed_by, settling_steps}
use Rattle.cartridge_spec.specs.Table.{Entry}
use Rattle.cartridge_spec.specs.TableSegment.{IsTableLive, TableIs}
use Rattle.cartridge_spec.specs.Volumes.{Plain, Stands, Volume, entries_of}
use Rattle.command_laws.proofs.CopyStanding.{CopiedWith, StandsWith, copies_done, copies_stopped, side_for, stands_none}
use Rattle.command_laws.proofs.CopyValues.{HasValues, shown_values}
use Rattle.command_laws.proofs.MountedHeld.{mounted_open, settled_live}
use Rattle.command_laws.proofs.MountedKeeping.{live_kept}
use Rattle.command_laws.specs.CopyLaws.{DoneCopyGives, StoppedCopyGives, StoppedSourceStands}
use Rattle.command_laws.specs.MountedKept.{IsKept, IsOpen}
use Rattle.command_spec.specs.CopyGiven.{GivenBy, KeepsOrGains, ListsLike, MountsSide, StandsWithAll, StandsWithGiven, missing_on}
use Rattle.command_spec.specs.Copying.{Compares, Copies, CopyOutcome, CopyYields, FromMounted, Side, ToMounted, difference}
use Rattle.command_spec.specs.Copying.{first_difference, foreign_fault, side_of}
use Rattle.command_spec.specs.Outcome.{settling_act}
use Rattle.command_spec.specs.declared.copy_status.CopyStatus.{CopyStatus}
use Rattle.qic_base.proofs.Steps.{Torn-append}
use Rattle.qic_base.specs.Acts.{Act, steps_of}
use Rattle.qic_base.specs.Cartridge.{Cartridge}
use Rattle.qic_base.specs.CartridgeTerms.{IsCartridge}
use Rattle.qic_base.specs.Step.{Step, Torn}
use Rattle.cartridge_spec.specs.Mounting as mounting
use Rattle.qic_base.specs.declared.store_fault.StoreFault.TheVariants as fault
use Rattle.command_spec.specs.declared.copy_status.CopyStatus.TheVariants as status

-- ---- the source

pub stopped_source_stands : StoppedSourceStands
stopped_source_stands c one to outcome left stood (m, mounts, does) torn =
    elim (standing_mounts_only_so c one m stood mounts) [
      | inl is ↦
          let reads : Mounts c (mounted_as one) = subst (Mounts c) is mounts in
          let did : FromMounted c (mounted_as one) to outcome = subst (λ (k : Mounting). FromMounted c k to outcome) is does in
          stopped_stands c one one.table_area left stood reads.reads (subst (λ (steps : List Step). Torn steps (Some c) left) did.0 torn)
      | inr (n, is) ↦
          let did : FromMounted c (TableLost n) to outcome = subst (λ (k : Mounting). FromMounted c k to outcome) is does in
          some_and (λ d. Stands d one) c left stood (subst (λ (o : CopyOutcome). Torn o.settling (Some c) left) did torn)
    ]

-- each volume that a mounting of it lists has a name of 44 bytes and a date word
abbrev pub ListsValues : Cartridge → Type 0
ListsValues c =
    (header : Header) (words : List ℕ) (table : List (List ℕ)) (entries : List Entry) →
    Mounts c (mounting.Mounted header words table entries) → All HasValues entries

pub whole_values : (c : Cartridge) → IsCartridge c → ListsValues c
whole_values c whole header words table entries mounts =
    shown_values table entries (table_is_area c table whole mounts.reads) mounts.shown

pub held_values : (held : Option Cartridge) → IfSome held IsCartridge → IfSome held ListsValues
held_values None whole = tt
held_values (Some c) whole = whole_values c whole

-- ---- the target

-- what is copied to it: it was mounted, and is settled first
pub record CopiesTo (d : Cartridge) (other : Plain) (outcome : CopyOutcome) (from : Side) : Type 0 where
  pub values : All HasValues from.entries
  pub reads : Mounts d (mounted_as other)
  pub unprotected : d.info.protected ≡ false
  pub rest : List Act
  pub acts : outcome.acts ≡ settling_act other.table_area d ∷ rest
  pub copies : Copies from (missing_on from other) (side_for (settled other.table_area d) other) rest outcome.status

-- nothing was done to it but the settling of its table, and the answer is not that all was
pub record DoesNothing (d : Cartridge) (other : Plain) (outcome : CopyOutcome) : Type 0 where
  pub acts : (outcome.acts ≡ []) ⊎ (TableIs d other.table_area × (outcome.acts ≡ settling_act other.table_area d ∷ []))
  pub unlike : outcome.status ≡ status.Done → ⊥

module _ (d : Cartridge) (other : Plain) (standing : Stands d other) (outcome : CopyOutcome) where
  nothing : (why : CopyStatus) → outcome.acts ≡ [] → outcome.status ≡ why → (why ≡ status.Done → ⊥) → DoesNothing d other outcome
  nothing why acts is unlike = record { acts = inl acts; unlike = λ done. unlike (sym is ∙ done) }

  refused : (why : CopyStatus) → outcome ≡ record { settling = []; acts = []; status = why } → (why ≡ status.Done → ⊥) →
      DoesNothing d other outcome
  refused why is unlike = nothing why (ap (λ (o : CopyOutcome). o.acts) is) (ap (λ (o : CopyOutcome). o.status) is) unlike

  abbrev target : Side
  target = side_for (settled other.table_area d) other

  module _ (c : Cartridge) (from : Side) (mounted : MountsSide c from) (values : All HasValues from.entries) where
    abbrev Copied : Type 0
    Copied = GivenBy (Some c) other (λ side. CopiesTo d other outcome side)

    by_difference : Mounts d (mounted_as other) → d.info.protected ≡ false → (rest : List Act) →
        outcome.acts ≡ settling_act other.table_area d ∷ rest → (found : Option ℕ) →
        difference from.words from.entries other.words (entries_of other) 1 ≡ found →
        Compares from target found rest outcome.status → Copied ⊎ DoesNothing d other outcome
    by_difference reads free rest acts None like copies = inl (
      from,
      mounted,
      like,
      record {
        values = values;
        reads = reads;
        unprotected = free;
        rest = rest;
        acts = acts;
        copies = subst (λ (n : ℕ). Copies from (drop n from.entries) target rest outcome.status)
            (length-map other.volumes (λ (v : Volume). v.entry)) copies;
      },
    )
    by_difference reads free rest acts (Some number) differs (none, is) =
        inr (record {
          acts = inr (reads.reads, acts ∙ ap (λ (zs : List Act). settling_act other.table_area d ∷ zs) none);
          unlike = λ done. let no : status.Differs number ≡ status.Done = sym is ∙ done in cc;
        })

    by_mark : Mounts d (mounted_as other) → ToMounted from d (mounted_as other) outcome.acts outcome.status →
        Copied ⊎ DoesNothing d other outcome
    by_mark reads (inl locked) = inr (nothing (status.To fault.Protected) locked.1 locked.2 (λ is. cc))
    by_mark reads (inr (free, (rest, acts, compares))) =
        by_difference reads free rest acts (first_difference from target) refl compares

    to_mounted : (m : Mounting) → Mounts d m → ToMounted from d m outcome.acts outcome.status → Copied ⊎ DoesNothing d other outcome
    to_mounted m mounts does = elim (standing_mounts_only_so d other m standing mounts) [
      | inl is ↦
          by_mark (subst (λ (k : Mounting). Mounts d k) is mounts)
          (subst (λ (k : Mounting). ToMounted from d k outcome.acts outcome.status) is does)
      | inr (n, is) ↦
          let did : ToMounted from d (TableLost n) outcome.acts outcome.status =
          subst (λ (k : Mounting). ToMounted from d k outcome.acts outcome.status) is does in
          inr (nothing (status.To (fault.Lost 2 n)) did.0 did.1 (λ is. cc))
    ]

  from_mounted : (c : Cartridge) → ListsValues c → (m : Mounting) → Mounts c m → FromMounted c m (Some d) outcome →
      GivenBy (Some c) other (λ side. CopiesTo d other outcome side) ⊎ DoesNothing d other outcome
  from_mounted c values mounting.NotFormatted mounts is = inr (refused (status.From fault.NotFormatted) is (λ is. cc))
  from_mounted c values (mounting.Foreign found) mounts is = inr (refused (status.From (foreign_fault found)) is (λ is. cc))
  from_mounted c values (mounting.TableLost lost) mounts is = inr (refused (status.From (fault.Lost 2 lost)) is (λ is. cc))
  from_mounted c values mounting.TableMismatch mounts is = inr (refused (status.From fault.TableMismatch) is (λ is. cc))
  from_mounted c values (mounting.Mounted header words table entries) mounts (settles, (m, mounts_to, does)) =
      to_mounted c (side_of c words table entries) (header, (table, mounts, refl)) (values header words table entries mounts) m mounts_to
      does

  pub to_does : (held : Option Cartridge) → IfSome held ListsValues → CopyYields held (Some d) outcome →
      GivenBy held other (λ side. CopiesTo d other outcome side) ⊎ DoesNothing d other outcome
  to_does None values is = inr (refused status.FromAbsent is (λ is. cc))
  to_does (Some c) values (m, mounts, does) = from_mounted c values m mounts does

-- what follows of it, whatever the source is
pub given_map : (held : Option Cartridge) (other : Plain) (P Q : Side → Type 0) → ((from : Side) → ListsLike from other → P from → Q from) →
    GivenBy held other P → GivenBy held other Q
given_map None other P Q follows given = absurd given
given_map (Some c) other P Q follows (from, mounts, like, given) = (from, mounts, like, follows from like given)

-- ---- done, or stopped

module _ (d : Cartridge) (other : Plain) (outcome : CopyOutcome) (whole : IsCartridge d) (standing : Stands d other) where
  module _ (from : Side) (like : ListsLike from other) (to : CopiesTo d other outcome from) where
    abbrev still : Cartridge
    still = settled other.table_area d

    pub opened : IsOpen still other
    opened = mounted_open d other whole standing to.reads to.unprotected

    pub kept : IsTableLive d → IsKept still other
    kept live = live_kept still other opened (settled_live d other.table_area to.reads.reads live)

    pub missing_values : All HasValues (missing_on from other)
    missing_values = All-drop HasValues (length other.volumes) from.entries to.values

    -- the cartridge behind all acts
    pub all_acts : changed_by (steps_of outcome.acts) d ≡ changed_by (steps_of to.rest) still
    all_acts =
        ap (λ (zs : List Act). changed_by (steps_of zs) d) to.acts
        ∙ changed_by-append (settling_steps other.table_area d) (steps_of to.rest) d
        ∙ ap (changed_by (steps_of to.rest)) (settling_settles d other.table_area to.reads.reads)

    pub stopped : IsTableLive d → (left : Option Cartridge) → Torn (steps_of outcome.acts) (Some d) left →
        StandsWith from (missing_on from other) other left
    stopped live left torn =
        let now : Torn (settling_steps other.table_area d ++ steps_of to.rest) (Some d) left =
        subst (λ (zs : List Act). Torn (steps_of zs) (Some d) left) to.acts torn in
        elim (Torn-append (settling_steps other.table_area d) (steps_of to.rest) (Some d) left now) [
          | inl front ↦
              stands_none from (missing_on from other) other left like
              (stopped_stands d other other.table_area left standing to.reads.reads front)
          | inr later ↦
              copies_stopped from (missing_on from other) missing_values still other (kept live) like refl to.rest outcome.status left
              to.copies
              (subst (λ (o : Option Cartridge). Torn (steps_of to.rest) o left) (settling_effects d other.table_area to.reads.reads) later)
        ]

    pub done : outcome.status ≡ status.Done → CopiedWith from (missing_on from other) other (changed_by (steps_of outcome.acts) d)
    done is =
        subst (λ (f : Cartridge). CopiedWith from (missing_on from other) other f) (sym all_acts)
        (copies_done from (missing_on from other) missing_values still other opened like refl to.rest
        (subst (λ (answer : CopyStatus). Copies from (missing_on from other) (side_for still other) to.rest answer) is to.copies))

  -- where nothing was done but the settling
  pub stays : DoesNothing d other outcome → (left : Option Cartridge) → Torn (steps_of outcome.acts) (Some d) left →
      IsSomeAnd left (λ f. Stands f other)
  stays none left torn = elim none.acts [
    | inl is ↦ some_and (λ f. Stands f other) d left standing (subst (λ (zs : List Act). Torn (steps_of zs) (Some d) left) is torn)
    | inr (reads, is) ↦
        stopped_stands d other other.table_area left standing reads
        (subst (λ (steps : List Step). Torn steps (Some d) left) (ap steps_of is ∙ append-nil (settling_steps other.table_area d)) torn)
  ]

abbrev pub given_up : (from : Side) (other : Plain) (left : Option Cartridge) → StandsWith from (missing_on from other) other left →
    StandsWithGiven from other left
given_up from other left with = record { contents = with.contents; given = with.given; stands = with.stands; like = with.like }

pub stopped_gives : (held : Option Cartridge) (d : Cartridge) (other : Plain) (outcome : CopyOutcome) (left : Option Cartridge) →
    IfSome held ListsValues → IsCartridge d → Stands d other → IsTableLive d → CopyYields held (Some d) outcome →
    Torn (steps_of outcome.acts) (Some d) left → KeepsOrGains held other left
stopped_gives held d other outcome left values whole standing live yields torn =
    elim (to_does d other standing outcome held values yields) [
      | inl copies ↦
          inr (given_map held other (λ side. CopiesTo d other outcome side) (λ side. StandsWithGiven side other left)
          (λ from like to. given_up from other left (stopped d other outcome whole standing from like to live left torn)) copies)
      | inr none ↦ inl (stays d other outcome whole standing none left torn)
    ]

pub stopped_copy_gives : StoppedCopyGives
stopped_copy_gives held d other outcome left from_whole whole standing live yields torn =
    stopped_gives held d other outcome left (held_values held from_whole) whole standing live yields torn

pub done_copy_gives : DoneCopyGives
done_copy_gives held d other outcome from_whole whole standing yields is =
    elim (to_does d other standing outcome held (held_values held from_whole) yields) [
      | inl copies ↦
          given_map held other (λ side. CopiesTo d other outcome side)
          (λ side. StandsWithAll side other (Some (changed_by (steps_of outcome.acts) d)))
          (λ from like to. all_given from (done d other outcome whole standing from like to is)) copies
      | inr none ↦ absurd (none.unlike is)
    ]
  where
    all_given : (from : Side) → CopiedWith from (missing_on from other) other (changed_by (steps_of outcome.acts) d) →
        StandsWithAll from other (Some (changed_by (steps_of outcome.acts) d))
    all_given from with = record {
      some = record { contents = with.contents; given = with.given; stands = with.held.stands; like = with.like };
      all = with.all;
    }
