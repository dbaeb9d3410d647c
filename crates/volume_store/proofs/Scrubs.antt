-- What scrubbing in either form leaves of the volume table's list, done or cut off by the sink.
use Rattle.std.proofs.Common.{◌≡◌, ℕ, ◌-◌, ◌++◌, List, length, Contains, Option, Some, None, IfSome, IsSomeAnd, Result, Ok, Err, refl, sym}
use Rattle.std.proofs.Common.{ap, ◌∙◌, subst}
use Rattle.std.specs.Option.{option_map}
use Rattle.std.proofs.lemmas.List.Elements.{All-take}
use Rattle.cartridge_laws.specs.TableCells.{HasList}
use Rattle.cartridge_laws.specs.Segment.{data_of}
use Rattle.qic_base.specs.Cartridge.{Cartridge, IsSector}
use Rattle.qic_base.specs.Step.{effects, Torn}
use Rattle.qic_base.specs.Tape.{Meaning}
use Rattle.qic_base.specs.TapeCalls.{Tells, IsToldRight}
use Rattle.qic_base.specs.declared.tape.SectorView.{SectorView}
use Rattle.qic_base.specs.declared.tape.TapeInfo.{TapeInfo}
use Rattle.qic_base.proofs.Steps.{Torn-all}
use Rattle.qic_base.specs.Acts.{Act, Outside, SinkFails, Cut, steps_of}
use Rattle.qic_base.specs.Alone.{no_source}
use Rattle.qic_base.proofs.Outcomes.{cut_is_torn}
use Rattle.cartridge_spec.specs.TableSegment.{table_cells}
use Rattle.cartridge_spec.specs.Says.{Agrees, whole_mask}
use Rattle.cartridge_spec.specs.Table.{Entry}
use Rattle.cartridge_laws.specs.Table.{IsSoundList}
use Rattle.cartridge_laws.proofs.FormatStanding.{same_cells}
use Rattle.cartridge_laws.proofs.Sayings.{block_from_data}
use Rattle.drive_states.specs.Unit.{UnitView}
use Rattle.host_driver.specs.declared.host.Host.{Host}
use Rattle.host_driver.specs.Fits.{Fits, AgreesWithTape, segments_of}
use Rattle.command_laws.specs.ScrubFound.{without_all}
use Rattle.command_laws.specs.ScrubMended.{IsBeingMended}
use Rattle.command_laws.specs.ScrubSayings.{Rise}
use Rattle.command_spec.specs.Scrub.{Looked, whole_segment, looked_at, Finding, ScrubsAs}
use Rattle.command_laws.specs.ScrubTerms.{counts_for}
use Rattle.command_spec.specs.declared.depth.Depth.{Depth}
use Rattle.command_laws.proofs.ScrubForms.{AsSeen, as_seen, IsLeft, stopped_left}
use Rattle.command_laws.proofs.ScrubOneWrong.{form_always}
use Rattle.command_laws.proofs.ScrubStanding.{written_kept, looks_in_front}
use Rattle.qic_base.specs.declared.store_fault.StoreFault.{StoreFault}
use Rattle.segment_mending.specs.declared.report.ScrubReport.{ScrubReport}
use Rattle.segment_mending.specs.Mending.{HasScrubbed, ScrubCut, ScrubEnds, reported}
use Rattle.command_laws.proofs.ScrubFormsTable.{seen_table, left_table}
use Rattle.command_laws.specs.SilentSectors.{IsSameIn}
use Rattle.volume_store.proofs.Fitting.{Listed}
use Rattle.volume_store.specs.Mounting.{StoreView}
use Rattle.volume_store.specs.Scrubbing.{MendEnds}
use Rattle.qic_base.specs.Sink as sinks
use Rattle.qic_base.specs.declared.store_fault.StoreFault.TheVariants as fault

-- ---- a cartridge that is being mended

mended_list : (looked : List Looked) (c d : Cartridge) (entries : List Entry) → Rise looked → Contains looked (whole_segment 2) →
    IsBeingMended looked c d →
    HasList c entries → HasList d entries
mended_list looked c d entries rise among way has =
    let data_sectors : List (List ℕ) = data_of has.block in
    let whole = block_from_data has.block has.code in
    record {
      block = has.block;
      code = has.code;
      agrees = subst (Agrees (table_cells d)) whole
          (written_kept looked c d (whole_segment 2) data_sectors rise among
          (All-take IsSector (length has.block - 3) has.block has.code.sectors) way
          (subst (Agrees (table_cells c)) (sym whole) has.agrees));
      shown = has.shown;
    }

-- the same views of the table's segment have the same list
list_same : (c d : Cartridge) (entries : List Entry) → IsSameIn c d 2 → HasList c entries → HasList d entries
list_same c d entries same has = record {
  block = has.block;
  code = has.code;
  agrees = subst (λ (cells : List SectorView). Agrees cells has.block) (sym (same_cells c d 2 whole_mask same)) has.agrees;
  shown = has.shown;
}

-- ---- a stop among the acts

module _ (depth : Depth) (words : List ℕ) (entries : List Entry) (last : ℕ) (order : IsSoundList last entries) where
  one_left : (c d : Cartridge) (acts : List Act) (fs : List Finding) → AsSeen depth c words entries acts fs →
      IsLeft (looked_at words entries) c (without_all c (looked_at words entries) fs) d → Listed entries c → Listed entries d
  one_left c d acts fs run left lists = λ mark.
      let looked : List Looked = looked_at words entries in
      let e : Cartridge = without_all c looked fs in
      let same : IsSameIn c e 2 = seen_table depth c e looked fs run.seen in
      let known : HasList c entries = lists (ap (λ (info : TapeInfo). info.protected) (sym left.behind.info.0) ∙ mark) in
      list_same left.other d entries (left_table looked c e d same left)
      (mended_list looked e left.other entries run.rise (looks_in_front words entries run.rise).table left.way
      (list_same c e entries same known))

  left_lists : (c : Cartridge) (acts : List Act) (fs : List Finding) (left : Option Cartridge) → AsSeen depth c words entries acts fs →
      IsSomeAnd left (IsLeft (looked_at words entries) c (without_all c (looked_at words entries) fs)) → Listed entries c →
      IfSome left (Listed entries)
  left_lists c acts fs None run way lists = tt
  left_lists c acts fs (Some d) run way lists = one_left c d acts fs run way lists

  torn_lists : (c : Cartridge) (acts : List Act) (left : Option Cartridge) → ScrubsAs depth c words entries acts →
      Torn (steps_of acts) (Some c) left →
      Listed entries c → IfSome left (Listed entries)
  torn_lists c acts left scrubs torn lists =
      let run : AsSeen depth c words entries acts scrubs.findings = as_seen depth c words entries last acts order scrubs in
      left_lists c acts scrubs.findings left run (stopped_left depth c words entries acts scrubs.findings left run torn) lists

-- a host that fits has learnt a cartridge that is there
pub told_there : {T : Type 0} (m : Meaning T) (host : Host) (u : UnitView T) → Fits m host u → AgreesWithTape m u →
    m.told u.tape ≡ Some None → ⊥
told_there m host u fits agrees = by_cases u.drive.deck.cartridge (m.told u.tape) fits.cartridge agrees
  where
    by_cases : (cartridge : Option TapeInfo) (held : Option (Option Cartridge)) →
        IsSomeAnd cartridge (λ info. info.segments_per_track ≡ segments_of host) →
        IfSome cartridge (λ info. IfSome held (λ there. IsSomeAnd there (λ c. c.info ≡ info))) → held ≡ Some None → ⊥
    by_cases None held long known is = absurd long
    by_cases (Some info) None long known is = cc
    by_cases (Some info) (Some None) long known is = absurd known
    by_cases (Some info) (Some (Some c)) long known is = cc

module _ {T K : Type 0} (t : Meaning T) (k : sinks.Meaning K) (depth : Depth) (words : List ℕ) (entries : List Entry) (last : ℕ)
    (order : IsSoundList last entries) (old new : Outside T (Unit {0}) K) where
  went_held : (acts : List Act) (report : ScrubReport) (held : Option (Option Cartridge)) → (held ≡ Some None → ⊥) →
      IfSome held (λ h. IfSome h (λ c. (scrubs : ScrubsAs depth c words entries acts)
      × (reported report ≡ counts_for c (looked_at words entries) scrubs.findings))) →
      IfSome held (λ h. IfSome h (Listed entries)) → IfSome (option_map (effects (steps_of acts)) held) (λ h. IfSome h (Listed entries))
  went_held acts report None there told lists = tt
  went_held acts report (Some None) there told lists = absurd (there refl)
  went_held acts report (Some (Some c)) there told lists =
      torn_lists depth words entries last order c acts (effects (steps_of acts) (Some c)) told.0 (Torn-all (steps_of acts) (Some c)) lists

  went_lists : (report : ScrubReport) → HasScrubbed t k depth words entries old new report → (t.told old.tape ≡ Some None → ⊥) →
      Tells t old.tape (Listed entries) → Tells t new.tape (Listed entries)
  went_lists report has there lists =
      subst (λ (held : Option (Option Cartridge)). IfSome held (λ h. IfSome h (Listed entries))) (sym has.went.did.told)
      (went_held has.acts report (t.told old.tape) there has.told lists)

  torn_held : (c : Cartridge) (acts : List Act) (held : Option (Option Cartridge)) → ScrubsAs depth c words entries acts →
      IsSomeAnd held (λ left. Torn (steps_of acts) (Some c) left) → Listed entries c → IfSome held (λ h. IfSome h (Listed entries))
  torn_held c acts None scrubs torn lists = absurd torn
  torn_held c acts (Some left) scrubs torn lists = torn_lists depth words entries last order c acts left scrubs torn lists

  cut_held : (held : Option (Option Cartridge)) (size : Option ℕ) → t.told old.tape ≡ held → IsToldRight held size →
      ScrubCut t k depth words entries old new SinkFails →
      (held ≡ Some None → ⊥) →
      IfSome held (λ h. IfSome h (λ c. (acts : List Act) → ScrubsAs depth c words entries acts → Cut t no_source k old new acts SinkFails))
      →
      IfSome held (λ h. IfSome h (Listed entries)) → Tells t new.tape (Listed entries)
  cut_held None size is right cut there told lists =
      subst (λ (held : Option (Option Cartridge)). IfSome held (λ h. IfSome h (Listed entries)))
      (sym (cut.cut.did.told ∙ ap (option_map (effects (steps_of cut.cut.at.front ++ cut.cut.at.act.steps))) is)) tt
  cut_held (Some None) size is right cut there told lists = absurd (there refl)
  cut_held (Some (Some c)) size is right cut there told lists =
      let scrub = form_always depth c words entries right.0 in
      torn_held c scrub.0 (t.told new.tape) scrub.1 (cut_is_torn t no_source k old new scrub.0 SinkFails (Some c) (told scrub.0 scrub.1) is)
      lists

  -- the list stands where it stood
  pub scrub_lists : (answer : Result ScrubReport StoreFault) → ScrubEnds t k depth words entries old new answer →
      (answer ≡ Err fault.Tape → ⊥) →
      IsToldRight (t.told old.tape) (t.size old.tape) → (t.told old.tape ≡ Some None → ⊥) →
      Tells t old.tape (Listed entries) → Tells t new.tape (Listed entries)
  scrub_lists (Ok report) ends other right there lists = went_lists report ends there lists
  scrub_lists (Err fault.Sink) ends other right there lists = cut_held (t.told old.tape)
      (t.size old.tape) refl right ends there ends.told lists
  scrub_lists (Err fault.Tape) ends other right there lists = absurd (other refl)
  scrub_lists (Err f) ends other right there lists = absurd ends

-- the answer of the scrubbing is that of the store's call
pub scrub_ends : {T K : Type 0} (t : Meaning T) (k : sinks.Meaning K) (depth : Depth) (store : StoreView)
    (old new : Outside T (Unit {0}) K) (answer : Result ScrubReport StoreFault) →
    ScrubEnds t k depth store.words store.entries old new answer → MendEnds t k depth store old new answer
scrub_ends t k depth store old new (Ok report) ends = ends
scrub_ends t k depth store old new (Err fault.Sink) ends = ends
scrub_ends t k depth store old new (Err fault.Tape) ends = ends
scrub_ends t k depth store old new (Err f) ends = absurd ends

-- .. and it is not Protected
pub unprotected : {T K : Type 0} (t : Meaning T) (k : sinks.Meaning K) (depth : Depth) (words : List ℕ) (entries : List Entry)
    (old new : Outside T (Unit {0}) K) (answer : Result ScrubReport StoreFault) → ScrubEnds t k depth words entries old new answer →
    answer ≡ Err fault.Protected → ⊥
unprotected t k depth words entries old new (Ok report) ends is = cc
unprotected t k depth words entries old new (Err fault.Protected) ends is = ends
unprotected t k depth words entries old new (Err f) ends is = cc
