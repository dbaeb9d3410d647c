-- With which list a cartridge is mounted behind a front of the acts of a run.
use Rattle.std.proofs.Common.{◌≡◌, ◌≢◌, ◌⊎◌, inl, inr, ℕ, suc, ◌+◌, ◌≤◌, Bool, true, false, cond, List, [], ◌∷◌, ◌++◌, length, take, nat_lt}
use Rattle.std.proofs.Common.{Some, refl, sym, ap, ◌∙◌, subst, arith, append-nil, zero, drop, Option, IsSomeAnd}
use Rattle.cartridge_spec.specs.Header.{Header}
use Rattle.cartridge_spec.specs.HeaderCopies.{last_segment}
use Rattle.cartridge_spec.specs.Mounting.{Lists}
use Rattle.cartridge_spec.specs.Settling.{changed_by}
use Rattle.cartridge_spec.specs.Table.{Entry}
use Rattle.cartridge_spec.specs.Volumes.{volume_length}
use Rattle.command_laws.proofs.MadeAnswered.{append_prints_nothing, quiet_front}
use Rattle.command_laws.proofs.MadeCounting.{counts_behind, counts_more, counts_refused}
use Rattle.command_laws.proofs.MadeOutcomes.{made_behind}
use Rattle.command_laws.proofs.MadeStops.{IsStill, made_label, sum_in_no_step, AreStill, still_after, still_summing, still_wearing_behind}
use Rattle.command_laws.proofs.MadeStops.{stills_append}
use Rattle.command_laws.proofs.MountedFronts.{front_still, ends_in, no_nil}
use Rattle.command_laws.proofs.MountedKeeping.{changed_by_acts}
use Rattle.command_laws.proofs.MountedListed.{append_listed, scrub_listed, wear_listed}
use Rattle.command_laws.proofs.MountedListing.{append_front_lists, append_lists, scrub_lists, wear_lists}
use Rattle.command_laws.specs.MadeLaws.{MakeLists, MadeAreListed}
use Rattle.command_laws.specs.MountedListed.{IsListed, listed_behind}
use Rattle.command_spec.specs.Append.{Kept, Taking, Fits, TooLong, TooShort, has_promised_room, room_in, taking, kept_over}
use Rattle.command_laws.specs.MadeTerms.{made_entry, made_acts, Makes, AppendedFrom, after_items}
use Rattle.command_laws.specs.AppendTerms.{silently}
use Rattle.command_spec.specs.Make.{made_length, made_bytes, MakeStep, AppendMade, WearSector, ScrubAll, SumVolume, made_name, StepDoes}
use Rattle.command_spec.specs.Make.{IsAppended, made_answer, Runs, appending, wearing_volumes, summing, made_list}
use Rattle.qic_base.proofs.Joins.{text_of-append}
use Rattle.qic_base.specs.Acts.{Act, steps_of, text_of}
use Rattle.qic_base.specs.Cartridge.{Cartridge}
use Rattle.qic_base.specs.Step.{Step, Wear}
use Rattle.command_spec.specs.declared.status.Status.{Status}
use Rattle.command_spec.specs.declared.status.Status.TheVariants as status

-- ---- one step

module _ (seed : ℕ) (c : Cartridge) (header : Header) (words : List ℕ) (entries : List Entry) (lists : Lists c header words entries)
    (listed : IsListed c words entries) where
  lists_by : (steps : List Step) → steps ≡ [] → Lists (changed_by steps c) header words entries
  lists_by steps none = subst (λ (ss : List Step). Lists (changed_by ss c) header words entries) (sym none) lists

  -- ---- an append

  module _ (volume : ℕ) (table : List (List ℕ)) where
    abbrev kept : Kept
    kept = kept_over c words entries table

    abbrev n : ℕ
    n = made_length seed volume

    abbrev became : Taking
    became = taking (room_in kept) (Some n) (made_bytes seed volume)

    -- one that is not answered so fits not
    not_fits : made_answer seed words entries volume ≢ status.Done → (bytes : List ℕ) → became ≢ Fits bytes
    not_fits other bytes = by_room (has_promised_room (room_in kept) (Some n)) refl
      where
        by_room : (b : Bool) → has_promised_room (room_in kept) (Some n) ≡ b → became ≢ Fits bytes
        by_room true enough fits = absurd (other (ap (λ (b : Bool). cond b status.Done (status.Full n (room_in kept))) enough))
        by_room false short fits =
            let full : became ≡ TooLong n (room_in kept) =
            ap (λ (b : Bool). cond b (cond (nat_lt (length (made_bytes seed volume)) n) (TooShort n (length (made_bytes seed volume)))
            (Fits (take n (made_bytes seed volume)))) (TooLong n (room_in kept))) short in
            absurd (let same : TooLong n (room_in kept) ≡ Fits bytes = sym full ∙ fits in cc)

  -- a front of its acts leaves the list, but for all acts of one that was carried out
  append_front : (volume : ℕ) (acts front rest : List Act) (answer : Status) →
      StepDoes seed c words entries (AppendMade volume) acts answer → front ++ rest ≡ acts →
      (rest ≢ []) ⊎ (answer ≢ status.Done) → Lists (changed_by (steps_of front) c) header words entries
  append_front volume acts front rest answer (inl refused) parts none = lists_by (steps_of front)
      (front_still front rest acts parts (ap steps_of refused.1))
  append_front volume acts front rest answer (inr (free, inr lost)) parts none = lists_by (steps_of front)
      (front_still front rest acts parts (ap steps_of lost.2))
  append_front volume acts front rest answer (inr (free, inl appended)) parts none =
      append_front_lists c header words entries appended.table (made_name volume) 0 (Some (made_length seed volume)) silently
      (made_bytes seed volume) front rest lists listed free appended.reads
      (parts ∙ appended.does) (elim none [
        | inl some ↦ inl some
        | inr other ↦ inr (not_fits volume appended.table (λ done. other (appended.answered ∙ done)))
      ])

  -- one that was carried out
  done_append : (volume : ℕ) (acts : List Act) → StepDoes seed c words entries (AppendMade volume) acts status.Done →
      (c.info.protected ≡ false) × IsAppended seed c words entries volume acts status.Done
  done_append volume acts (inl refused) = absurd (let same = refused.2 in cc)
  done_append volume acts (inr (free, inl appended)) = (free, appended)
  done_append volume acts (inr (free, inr lost)) = absurd (let same = lost.3 in cc)

  append_all : (volume : ℕ) (acts : List Act) → volume ≤ 200 → StepDoes seed c words entries (AppendMade volume) acts status.Done →
      Lists (changed_by (steps_of acts) c) header words (entries ++ made_entry seed words entries volume ∷ [])
      × IsListed (changed_by (steps_of acts) c) words (entries ++ made_entry seed words entries volume ∷ [])
  append_all volume acts few does =
      let is = done_append volume acts does in
      let table : List (List ℕ) = is.1.table in
      let whole : List Act = made_acts seed c words entries table volume in
      let list = made_behind seed c words entries listed table volume (sym is.1.answered) in (
        subst (λ (es : List Entry). Lists (changed_by (steps_of acts) c) header words es) list
            (subst (λ (xs : List Act). Lists (changed_by (steps_of xs) c) header words
            (listed_behind (kept_over c words entries table) (made_name volume) 0
            (taking (room_in (kept_over c words entries table)) (Some (made_length seed volume)) (made_bytes seed volume))))
            (sym is.1.does)
            (append_lists c header words entries table (made_name volume) 0 (Some (made_length seed volume)) silently
            (made_bytes seed volume) lists listed is.0 is.1.reads
            (made_label volume few) (omega arith))),
        subst (λ (es : List Entry). IsListed (changed_by (steps_of acts) c) words es) list
            (subst (λ (xs : List Act). IsListed (changed_by (steps_of xs) c) words
            (listed_behind (kept_over c words entries table) (made_name volume) 0
            (taking (room_in (kept_over c words entries table)) (Some (made_length seed volume)) (made_bytes seed volume))))
            (sym is.1.does)
            (append_listed c words entries table (made_name volume) 0 (Some (made_length seed volume)) silently
            (made_bytes seed volume) listed is.0 is.1.reads
            (made_label volume few) (omega arith))),
      )

  -- ---- the other steps

  wear_front : (segment sector : ℕ) (front rest : List Act) → 3 ≤ segment → suc sector ≤ 32 →
      front ++ rest ≡ record { steps = Wear segment sector ∷ []; text = [] } ∷ [] →
      Lists (changed_by (steps_of front) c) header words entries
  wear_front segment sector [] rest behind small parts = lists
  wear_front segment sector (x ∷ []) rest behind small parts =
      let first : x ≡ record { steps = Wear segment sector ∷ []; text = [] } = cc in
      subst (λ (a : Act). Lists (changed_by (steps_of (a ∷ [])) c) header words entries) (sym first)
      (wear_lists c header words entries segment sector lists behind small)
  wear_front segment sector (x ∷ y ∷ front) rest behind small parts = let none : y ∷ (front ++ rest) ≡ [] = cc in absurd (cc)

  still_front : (item : MakeStep) (acts front rest : List Act) (answer : Status) → IsStill item →
      StepDoes seed c words entries item acts answer → front ++ rest ≡ acts →
      Lists (changed_by (steps_of front) c) header words entries
  still_front (AppendMade volume) acts front rest answer still does parts = absurd still
  still_front (WearSector segment sector) acts front rest answer still does parts = wear_front segment sector front rest still.0 still.1
      (parts ∙ does.0)
  still_front ScrubAll acts front rest answer still (inl refused) parts = lists_by (steps_of front)
      (front_still front rest acts parts (ap steps_of refused.1))
  still_front ScrubAll acts front rest answer still (inr (free, done)) parts =
      scrub_lists c header words entries acts front rest lists done.0 parts
  still_front (SumVolume number) acts front rest answer still does parts =
      lists_by (steps_of front) (front_still front rest acts parts
      (ap steps_of does.is.0 ∙ sum_in_no_step number (volume_length words does.entry) (text_of does.acts) does.ending))

  still_listed : (item : MakeStep) (acts : List Act) → IsStill item → StepDoes seed c words entries item acts status.Done →
      IsListed (changed_by (steps_of acts) c) words entries
  still_listed (AppendMade volume) acts still does = absurd still
  still_listed (WearSector segment sector) acts still does =
      subst (λ (xs : List Act). IsListed (changed_by (steps_of xs) c) words entries) (sym does.0)
      (wear_listed c words entries segment sector listed)
  still_listed ScrubAll acts still (inl refused) = absurd (let same = refused.2 in cc)
  still_listed ScrubAll acts still (inr (free, done)) = scrub_listed c words entries acts listed free done.0
  still_listed (SumVolume number) acts still does =
      subst (λ (steps : List Step). IsListed (changed_by steps c) words entries)
      (sym (ap steps_of does.is.0 ∙ sum_in_no_step number (volume_length words does.entry) (text_of does.acts) does.ending)) listed

-- ---- several steps

-- the cartridge behind a front that has all of some acts
past_there : (front acts next : List Act) (c : Cartridge) → front ≡ acts ++ next →
    changed_by (steps_of next) (changed_by (steps_of acts) c) ≡ changed_by (steps_of front) c
past_there front acts next c is = sym (ap (λ (xs : List Act). changed_by (steps_of xs) c) is ∙ changed_by_acts acts next c)

stills_list : (seed : ℕ) (items : List MakeStep) (c : Cartridge) (header : Header) (words : List ℕ) (entries : List Entry)
    (acts front rest : List Act) (answer : Status) → AreStill items →
    Lists c header words entries → IsListed c words entries → Runs seed c words entries items acts answer → front ++ rest ≡ acts →
    Lists (changed_by (steps_of front) c) header words entries
stills_list seed [] c header words entries acts front rest answer still lists listed (none, done) parts =
    lists_by seed c header words entries lists listed (steps_of front) (front_still front rest acts parts (ap steps_of none))
stills_list seed (item ∷ items) c header words entries acts front rest answer still lists listed (inl (other, does)) parts =
    still_front seed c header words entries lists listed item acts front rest answer still.0 does parts
stills_list seed (item ∷ items) c header words entries acts front rest answer still lists listed
    (inr (first, behind, joined, does, more)) parts =
    let d : Cartridge = changed_by (steps_of first) c in
    elim (ends_in front rest first behind (parts ∙ sym joined)) [
      | inl w ↦ still_front seed c header words entries lists listed item first front (w.act ∷ w.behind) status.Done still.0 does w.whole
      | inr p ↦ subst (λ (e : Cartridge). Lists e header words entries) (past_there front first p.next c p.front_is)
          (stills_list seed items d header words entries behind p.next rest answer still.1
          (still_front seed c header words entries lists listed item first first [] status.Done still.0 does (append-nil first))
          (still_listed seed c header words entries lists listed item first still.0 does)
          (subst (λ (es : List Entry). Runs seed d words es items behind answer) (still_after seed words entries item still.0) more)
          p.parts)
    ]

-- ---- the appends, and what comes behind them

-- which list it is, behind so many; with all of them where all was carried out, or something was printed
record ListsFrom (seed : ℕ) (header : Header) (words : List ℕ) (entries : List Entry) (volume n : ℕ) (front rest : List Act)
    (answer : Status) (d : Cartridge) : Type 0 where
  appended : ℕ
  within : appended ≤ n
  lists : Lists d header words (after_items seed words entries (appending volume appended))
  all : ((rest ≡ []) × (answer ≡ status.Done)) ⊎ (text_of front ≢ []) → appended ≡ n
  answered : rest ≡ [] → AppendedFrom seed volume n words entries answer appended

-- what comes behind the appends is still where all of them are listed
abbrev StillListed : (seed : ℕ) (words : List ℕ) (es : List Entry) (volume n : ℕ) (behind : List MakeStep) → Type 0
StillListed seed words es volume n behind = (d : Cartridge) → IsListed d words (after_items seed words es (appending volume n)) →
    AreStill behind

module _ (seed : ℕ) (header : Header) (words : List ℕ) (behind : List MakeStep) where
  appends_list : (n : ℕ) (c : Cartridge) (entries : List Entry) (volume : ℕ) (acts front rest : List Act) (answer : Status) →
      volume + n ≤ 201 → Lists c header words entries →
      IsListed c words entries → StillListed seed words entries volume n behind →
      Runs seed c words entries (appending volume n ++ behind) acts answer → front ++ rest ≡ acts →
      ListsFrom seed header words entries volume n front rest answer (changed_by (steps_of front) c)
  appends_list zero c entries volume acts front rest answer few lists listed still runs parts = record {
    appended = 0;
    within = omega arith;
    lists = stills_list seed behind c header words entries acts front rest answer (still c listed) lists listed runs parts;
    all = λ some. refl;
    answered = λ none. counts_behind seed volume behind c words entries acts answer (still c listed) runs;
  }
  appends_list (suc n) c entries volume acts front rest answer few lists listed still (inl (other, does)) parts = record {
    appended = 0;
    within = omega arith;
    lists = append_front seed c header words entries lists listed volume acts front rest answer does parts (inr other);
    all = λ some. absurd (elim some [
      | inl done ↦ other done.1
      | inr printed ↦ printed (quiet_front front rest acts parts (append_prints_nothing seed c words entries volume acts answer does))
    ]);
    answered = λ none. counts_refused seed volume n c words entries acts answer other does;
  }
  appends_list (suc n) c entries volume acts front rest answer few lists listed still (inr (first, later, joined, does, more)) parts =
      let d : Cartridge = changed_by (steps_of first) c in
      let quiet : text_of first ≡ [] = append_prints_nothing seed c words entries volume first status.Done does in
      let next : List Entry = entries ++ made_entry seed words entries volume ∷ [] in
      let now = append_all seed c header words entries lists listed volume first (omega arith) does in
      elim (ends_in front rest first later (parts ∙ sym joined)) [
        | inl w ↦ record {
          appended = 0;
          within = omega arith;
          lists = append_front seed c header words entries lists listed volume first front (w.act ∷ w.behind) status.Done does w.whole
              (inl (no_nil w.act w.behind));
          all = λ some. absurd (elim some [
            | inl done ↦ no_nil w.act (w.behind ++ later) (sym w.rest_is ∙ done.0)
            | inr printed ↦ printed (quiet_front front (w.act ∷ w.behind) first w.whole quiet)
          ]);
          answered = λ none. absurd (no_nil w.act (w.behind ++ later) (sym w.rest_is ∙ none));
        }
        | inr p ↦
            let r : ListsFrom seed header words next (volume + 1) n p.next rest answer (changed_by (steps_of p.next) d) =
            appends_list n d next (volume + 1) later p.next rest answer (omega arith) now.0 now.1 still more p.parts in
            record {
              appended = suc r.appended;
              within = (let most = r.within in omega arith);
              lists = subst (λ (e : Cartridge). Lists e header words (after_items seed words next (appending (volume + 1) r.appended)))
                  (past_there front first p.next c p.front_is) r.lists;
              all = λ some. ap (λ (m : ℕ). suc m) (r.all (elim some [
                | inl done ↦ inl done
                | inr printed ↦ inr (λ none. printed
                    (ap text_of p.front_is ∙ text_of-append first p.next ∙ ap (λ (text : List ℕ). text ++ text_of p.next) quiet ∙ none))
              ]));
              answered = λ none. counts_more seed volume n r.appended words entries answer (r.answered none);
            }
      ]

-- ---- a run

run_lists : (seed count : ℕ) (c : Cartridge) (header : Header) (words : List ℕ) (entries : List Entry) (acts front rest : List Act)
    (answer : Status) → count ≤ 200 →
    Lists c header words entries → IsListed c words entries → Makes seed count c words entries acts answer → front ++ rest ≡ acts →
    ListsFrom seed header words entries 1 count front rest answer (changed_by (steps_of front) c)
run_lists seed count c header words entries acts front rest answer few lists listed makes parts =
    let made : List Entry = made_list seed count words entries in
    let wears : List MakeStep = wearing_volumes words (drop (length entries) made) in
    let sums : List MakeStep = summing (length entries + 1) count in
    appends_list seed header words (wears ++ ScrubAll ∷ sums) count c entries 1 acts front rest answer (omega arith) lists listed
    (λ d now. stills_append wears (ScrubAll ∷ sums)
    (still_wearing_behind words (length entries) 2 (last_segment d) made (omega arith) now.order)
    (tt, still_summing (length entries + 1) count))
    makes parts

pub make_lists : MakeLists
make_lists seed count c header words entries acts front rest answer left few lists listed makes parts is =
    let r = run_lists seed count c header words entries acts front rest answer few lists listed makes parts in
    record {
      appended = r.appended;
      within = r.within;
      answered = r.answered;
      lists = subst (λ (o : Option Cartridge). IsSomeAnd o (λ d. Lists d header words (made_list seed r.appended words entries)))
          (sym is) r.lists;
    }

pub made_are_listed : MadeAreListed
made_are_listed seed count c header words entries acts front rest answer left few lists listed makes parts is some =
    let r = run_lists seed count c header words entries acts front rest answer few lists listed makes parts in
    subst (λ (o : Option Cartridge). IsSomeAnd o (λ d. Lists d header words (made_list seed count words entries))) (sym is)
    (subst (λ (n : ℕ). Lists (changed_by (steps_of front) c) header words (made_list seed n words entries)) (r.all some) r.lists)
