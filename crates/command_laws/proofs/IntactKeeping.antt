-- What leaves a whole table whole: appends, sectors that are worn behind it, and scrubs.
use Rattle.std.proofs.Common.{if◌then◌else◌, ◌≡◌, ◌∙◌, ◌++◌, ◌≤◌, ℕ, List, [], Bool, false, Option, Some, IsSomeAnd, inl, inr, ap, sym}
use Rattle.std.proofs.Common.{subst, arith, suc}
use Rattle.std.proofs.lemmas.Bool.{cases_Bool, cases_lt}
use Rattle.cartridge_laws.proofs.AppendVolume.{old_order}
use Rattle.cartridge_laws.proofs.ChangeViews.{view_of_other}
use Rattle.cartridge_laws.proofs.FormatWriting.{some_and, some_weaker}
use Rattle.cartridge_laws.proofs.MountLeftOut.{left_out_parity, not_left_out, unsettled_holds_not}
use Rattle.cartridge_laws.proofs.MountPlaces.{no_place}
use Rattle.cartridge_laws.proofs.MountSettled.{settled_is_whole, settled_keeps_table, settled_stands}
use Rattle.cartridge_laws.proofs.MountWhole.{settled_is_cartridge}
use Rattle.cartridge_laws.proofs.OneLossComesBack.{whole_comes_back}
use Rattle.cartridge_laws.specs.AppendBetween.{IsWhole}
use Rattle.cartridge_spec.specs.HeaderCopies.{last_segment}
use Rattle.cartridge_spec.specs.Says.{with_parity}
use Rattle.cartridge_spec.specs.Settling.{block_writes, changed_by, settling_places, settling_steps}
use Rattle.cartridge_laws.specs.AppendLaws.{with_content}
use Rattle.cartridge_laws.specs.TableCells.{is_left_out, is_unsettled}
use Rattle.cartridge_laws.specs.Segment.{places_where}
use Rattle.cartridge_spec.specs.Shape.{sector_at}
use Rattle.cartridge_spec.specs.Volumes.{Plain, entries_of}
use Rattle.command_laws.proofs.MountedHeld.{settled_live}
use Rattle.command_laws.proofs.MountedKeeping.{scrubbed_kept, spared_kept}
use Rattle.command_laws.proofs.MountedStanding.{kept_appended, whole_appended}
use Rattle.command_laws.proofs.MountedSurviving.{appends_survive}
use Rattle.command_laws.proofs.ScrubApart.{looked_rise}
use Rattle.command_laws.proofs.ScrubDone.{done_being_mended}
use Rattle.command_laws.proofs.ScrubMending.{readable_stays, stopped_scrub}
use Rattle.command_laws.proofs.ScrubPlain.{as_plain}
use Rattle.command_laws.proofs.ScrubStanding.{mending_stands}
use Rattle.command_laws.specs.Intact.{AppendsLeaveIntact, IntactComesBack, IsIntact, ScrubsLeaveIntact, SettledIsIntact, WearsLeaveIntact}
use Rattle.command_laws.specs.ScrubMended.{IsBeingMended}
use Rattle.command_spec.specs.OneLoss.{ComesBackAsOneOf, SomeComeBack}
use Rattle.command_spec.specs.Scrub.{looked_at}
use Rattle.qic_base.specs.Acts.{steps_of}
use Rattle.qic_base.specs.Cartridge.{Cartridge, view_at}
use Rattle.qic_base.specs.Step.{Step, worn_view, Torn}
use Rattle.qic_base.specs.declared.tape.TapeInfo.{TapeInfo}

-- ---- a whole table

-- its settling takes no step
no_place_by : (c : Cartridge) (area : List (List ℕ)) → IsWhole c area → block_writes (with_parity area) (settling_places c area) ≡ []
no_place_by c area whole =
    ap (λ (places : List ℕ). block_writes (with_parity area) (places ++ places_where (is_unsettled c (with_parity area))))
    (no_place (is_left_out c (with_parity area)) (λ i h. elim (cases_lt i 29) [
      | inl data_sector ↦ not_left_out c area i data_sector (inl (whole i h))
      | inr parity ↦ left_out_parity c (with_parity area) i parity
    ]))
    ∙ ap (λ (places : List ℕ). block_writes (with_parity area) places)
    (no_place (is_unsettled c (with_parity area)) (λ i h. elim (cases_Bool (is_unsettled c (with_parity area) i)) [
      | inl unsettled ↦ absurd (unsettled_holds_not c area i unsettled (whole i h))
      | inr is_settled ↦ is_settled
    ]))

pub whole_needs_no_steps : (c : Cartridge) (area : List (List ℕ)) → IsWhole c area → c.info.protected ≡ false → settling_steps area c ≡ []
whole_needs_no_steps c area whole free =
    ap (λ (b : Bool). if b then [] else block_writes (with_parity area) (settling_places c area)) free ∙ no_place_by c area whole

pub intact_comes_back : IntactComesBack
intact_comes_back c plain f lost intact loses = whole_comes_back c plain intact.kept.stands intact.table intact.kept.stands.whole.table_area
    f lost loses

-- .. as one of two, the first of which it is
pub intact_is_one : (c : Cartridge) (plain other : Plain) (left : Option Cartridge) → IsIntact c plain → left ≡ Some c →
    IsSomeAnd left (ComesBackAsOneOf plain other)
intact_is_one c plain other left intact is =
    some_and (ComesBackAsOneOf plain other) c left (λ f lost loses. inl (intact_comes_back c plain f lost intact loses)) is

-- ---- of several plain cartridges

-- as the first, or as the next one
pub one_comes : (standing : ℕ → Plain) (n : ℕ) (left : Option Cartridge) → IsSomeAnd left (ComesBackAsOneOf (standing n) (standing n)) →
    SomeComeBack standing n n left
one_comes standing n left comes = record {
  one = n;
  other = n;
  from = omega arith;
  next = (omega arith, omega arith);
  within = omega arith;
  comes = comes;
}

-- from fewer volumes on
pub less_comes : (standing : ℕ → Plain) (fewer least most : ℕ) (left : Option Cartridge) → fewer ≤ least →
    SomeComeBack standing least most left → SomeComeBack standing fewer most left
less_comes standing fewer least most left less back = record {
  one = back.one;
  other = back.other;
  from = (let least = back.from in omega arith);
  next = back.next;
  within = back.within;
  comes = back.comes;
}

-- behind one volume more
pub next_comes : (standing : ℕ → Plain) (least most : ℕ) (left : Option Cartridge) → SomeComeBack (λ n. standing (suc n)) least most left →
    SomeComeBack standing (suc least) (suc most) left
next_comes standing least most left back = record {
  one = suc back.one;
  other = suc back.other;
  from = (let least = back.from in omega arith);
  next = (let next = back.next in (omega (arith, next.0), omega (arith, next.1)));
  within = (let few = back.within in omega arith);
  comes = back.comes;
}

-- ---- what makes it whole

pub settled_is_intact : SettledIsIntact
settled_is_intact c plain kept =
    let keeps = settled_keeps_table c plain.table_area kept.table in
    record {
      kept = record {
        cartridge = settled_is_cartridge c plain.table_area kept.cartridge kept.table;
        stands = settled_stands c plain plain.table_area kept.stands kept.table;
        table = keeps.table;
        live = settled_live c plain.table_area kept.table kept.live;
        unprotected = ap (λ (i : TapeInfo). i.protected) keeps.info ∙ kept.unprotected;
      };
      table = λ i h. settled_is_whole c plain.table_area i kept.table kept.unprotected kept.live h;
    }

-- ---- what keeps it

pub appends_leave_intact : AppendsLeaveIntact
appends_leave_intact c plain content intact may enough = record {
  done = record {
    kept = kept_appended content may c plain intact.kept enough;
    table = whole_appended content may c plain intact.kept enough;
  };
  stopped = λ left torn. elim (appends_survive c plain content left intact.kept may enough torn) [
    | inl settling ↦
        intact_is_one c plain (with_content plain content) left intact
        (subst (λ (ss : List Step). Torn ss (Some c) left) (whole_needs_no_steps c plain.table_area intact.table intact.kept.unprotected)
        settling)
    | inr comes ↦ comes
  ];
}

pub wears_leave_intact : WearsLeaveIntact
wears_leave_intact c plain segment sector intact spares other small = record {
  kept = spared_kept c plain segment sector intact.kept spares other small;
  table = λ i h.
      view_of_other c segment sector 2 i (worn_view (view_at c segment sector)) small h (λ is. other (sym is))
      ∙ intact.table i h;
}

pub scrubs_leave_intact : ScrubsLeaveIntact
scrubs_leave_intact c plain acts intact scrubs =
    let plainly = as_plain c plain.words (entries_of plain) acts scrubs in
    let order = old_order c plain intact.kept.stands in
    let looked = looked_at plain.words (entries_of plain) in
    let whole : (d : Cartridge) → IsBeingMended looked c d → IsWhole d plain.table_area =
    λ d way i h. readable_stays looked c d 2 i (sector_at (with_parity plain.table_area) i) h way (intact.table i h) in
    record {
      done = record {
        kept = scrubbed_kept c plain acts intact.kept scrubs;
        table = whole (changed_by (steps_of acts) c)
            (done_being_mended c plain.words (entries_of plain) (last_segment c) acts order plainly);
      };
      stopped = λ left torn.
          some_weaker left
          (λ d way f lost loses. inl (whole_comes_back d plain
          (mending_stands c d plain (looked_rise plain.words (last_segment c) (entries_of plain) order) intact.kept.stands way)
          (whole d way) intact.kept.stands.whole.table_area f lost loses))
          (stopped_scrub c plain.words (entries_of plain) (last_segment c) acts left order plainly torn);
    }
