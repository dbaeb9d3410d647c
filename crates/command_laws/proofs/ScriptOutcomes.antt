-- Each input has an outcome over a cartridge whose volume table is known.
use Rattle.std.proofs.Common.{◌≡◌, ℕ, ◌+◌, List, [], ◌∷◌, ◌++◌, ◌∙◌, append-nil, sym, subst, Bool, true, false, refl, inl, inr, ◌<◌, ◌^◌}
use Rattle.std.proofs.Common.{length, Some, Option, None, ◌≢◌, ◌≤◌, drop}
use Rattle.cartridge_spec.specs.Formatting.{IsLabel}
use Rattle.cartridge_spec.specs.Settling.{changed_by}
use Rattle.cartridge_spec.specs.Table.{Entry}
use Rattle.command_laws.proofs.MountedListed.{listed_reads, append_listed, scrub_listed, wear_listed}
use Rattle.command_laws.proofs.MountedSaying.{restores_anyway, scrubs_anyway}
use Rattle.command_laws.proofs.RestoreCounts.{framed_in_no_step}
use Rattle.command_laws.proofs.ScriptEarly.{early_or_not}
use Rattle.command_laws.proofs.ScriptPlaces.{place_or_not}
use Rattle.command_laws.proofs.ScriptValues.{append_values}
use Rattle.command_laws.proofs.TextDeciding.{at_most}
use Rattle.cartridge_laws.proofs.Search.{Decided}
use Rattle.command_laws.proofs.TextReadings.{each_script}
use Rattle.command_laws.specs.MountedListed.{IsListed, listed_behind}
use Rattle.command_laws.specs.ScriptLaws.{ScriptHasAnOutcome}
use Rattle.command_spec.specs.Append.{Kept, Taking, Fits, TooLong, TooShort, room_in, taking, kept_over}
use Rattle.command_spec.specs.Input.{Item, input_status, IsLineText, IsItem, Ending, HasItems, most_items, AtEnd, AtStop, AtFault}
use Rattle.command_spec.specs.Input.{EndsEarly}
use Rattle.command_spec.specs.Lines.{reply_behind, lost_line, list_text}
use Rattle.command_spec.specs.Restore.{framed, pieces, volume_at}
use Rattle.command_spec.specs.Script.{reply, Did, LineDoes, line_refused, taken_as, given_as, ItemsDo, cartridge_behind, entries_behind}
use Rattle.command_spec.specs.Script.{Finds, Meeting, Meets, Refuses, acts_on, append_did, end_line, EndDoes, acts_of}
use Rattle.command_spec.specs.Script.{place_behind, items_taken}
use Rattle.command_laws.specs.ScriptTerms.{FaultDoes}
use Rattle.command_spec.specs.declared.line.Line.{Line}
use Rattle.qic_base.proofs.Joins.{steps_of-append}
use Rattle.qic_base.specs.Acts.{Act, steps_of}
use Rattle.qic_base.specs.Cartridge.{Cartridge}
use Rattle.qic_base.specs.Step.{Step, Wear}
use Rattle.command_spec.specs.declared.refusal.Refusal.TheVariants as why
use Rattle.command_spec.specs.Restore as restoring
use Rattle.command_spec.specs.declared.line.Line.TheVariants as line

-- ---- what is known behind some acts

-- a reply takes no step
pub replied : (acts : List Act) (text : List ℕ) → steps_of (acts ++ reply text ∷ []) ≡ steps_of acts
replied acts text = steps_of-append acts (reply text ∷ []) ∙ append-nil (steps_of acts)

pub listed_by : (c : Cartridge) (words : List ℕ) (entries : List Entry) (x y : List Step) → x ≡ y →
    IsListed (changed_by y c) words entries → IsListed (changed_by x c) words entries
listed_by c words entries x y same listed = subst (λ (steps : List Step). IsListed (changed_by steps c) words entries) (sym same) listed

-- a line was carried out, and what is known behind it
record Doing (c : Cartridge) (words : List ℕ) (entries : List Entry) (asked : Line) (bytes : List ℕ) : Type 0 where
  did : Did
  does : LineDoes c words entries asked bytes did
  listed : IsListed (changed_by (steps_of did.acts) c) words did.entries

-- .. an append, by what became of its bytes
pub taken_listed : (c : Cartridge) (words : List ℕ) (kept : Kept) (name : List ℕ) (date : ℕ) (acts : List Act) (taken : Taking) →
    IsListed (changed_by (steps_of acts) c) words (listed_behind kept name date taken) →
    IsListed (changed_by (steps_of (taken_as kept name date acts taken).acts) c) words (taken_as kept name date acts taken).entries
taken_listed c words kept name date acts (Fits bytes) listed = listed
taken_listed c words kept name date acts (TooLong need have) listed =
    listed_by c words kept.entries (steps_of (line_refused acts kept.entries (why.Full need have)).acts) (steps_of acts)
    (replied acts _) listed
taken_listed c words kept name date acts (TooShort promised read) listed = listed

-- .. a restore, which takes no step
pub given_listed : (c : Cartridge) (words : List ℕ) (entries : List Entry) (number : ℕ) (e : Entry) (parts : List Act)
    (ending : restoring.GivingEnd) → steps_of parts ≡ [] →
    IsListed c words entries →
    IsListed (changed_by (steps_of (given_as words entries number e parts ending).acts) c) words
    (given_as words entries number e parts ending).entries
given_listed c words entries number e parts restoring.Restored none listed =
    listed_by c words entries (steps_of (given_as words entries number e parts restoring.Restored).acts) [] (replied parts _ ∙ none) listed
given_listed c words entries number e parts (restoring.LostIn segment lost) none listed =
    listed_by c words entries (steps_of (line_refused parts entries (why.Lost segment lost)).acts) [] (replied parts _ ∙ none) listed
given_listed c words entries number e parts (restoring.MismatchIn segment) none listed =
    listed_by c words entries (steps_of (line_refused parts entries (why.Mismatch segment)).acts) [] (replied parts _ ∙ none) listed

-- ---- a place

-- items were carried out, and what is known behind them
record DoneAll (c : Cartridge) (words : List ℕ) (entries : List Entry) (items : List Item) : Type 0 where
  dids : List Did
  did : ItemsDo c words entries items dids
  listed : IsListed (cartridge_behind c dids) words (entries_behind entries dids)

-- ---- one line

-- what an append meets
meets_some : (c : Cartridge) (words : List ℕ) (entries : List Entry) → IsListed c words entries → (meeting : Meeting) × Meets c meeting
meets_some c words entries listed = by_mark c.info.protected refl
  where
    by_mark : (mark : Bool) → c.info.protected ≡ mark → (meeting : Meeting) × Meets c meeting
    by_mark true is = (Refuses why.Protected, is)
    by_mark false is = elim (listed_reads c words entries listed is) [
      | inl found ↦ (Finds found.0, (is, found.1))
      | inr lost ↦ (Refuses (why.Lost 2 lost.0), (is, refl, lost.1))
    ]

-- all that it does there
append_done : (c : Cartridge) (words : List ℕ) (entries : List Entry) (name : List ℕ) (count date : ℕ) (bytes : List ℕ) → IsLabel name →
    date < 2 ^ 32 → IsListed c words entries →
    (meeting : Meeting) → Meets c meeting → Doing c words entries (line.Append name count date) bytes
append_done c words entries name count date bytes label word listed (Refuses why.Protected) meets =
    record { did = line_refused [] entries why.Protected; does = (Refuses why.Protected, meets, refl); listed = listed }
append_done c words entries name count date bytes label word listed (Refuses (why.Lost segment lost)) meets =
    record { did = line_refused [] entries (why.Lost segment lost); does = (Refuses (why.Lost segment lost), meets, refl); listed = listed }
append_done c words entries name count date bytes label word listed (Refuses (why.Full need have)) meets = absurd meets
append_done c words entries name count date bytes label word listed (Refuses (why.NoVolume number have)) meets = absurd meets
append_done c words entries name count date bytes label word listed (Refuses (why.Mismatch segment)) meets = absurd meets
append_done c words entries name count date bytes label word listed (Refuses (why.Place segment sector)) meets = absurd meets
append_done c words entries name count date bytes label word listed (Finds table) meets = record {
  did = append_did c words entries name count date bytes (Finds table);
  does = (Finds table, meets, refl);
  listed = taken_listed c words (kept_over c words entries table) name date (acts_on c words entries name count date bytes (Finds table))
      (taking (room_in (kept_over c words entries table)) (Some count) bytes)
      (append_listed c words entries table name date (Some count) (reply_behind (length entries)) bytes listed meets.0 meets.1 label word);
}

restore_done : (c : Cartridge) (words : List ℕ) (entries : List Entry) (number : ℕ) (bytes : List ℕ) → IsListed c words entries →
    Doing c words entries (line.Restore number) bytes
restore_done c words entries number bytes listed = by_volume (volume_at entries number) refl
  where
    by_volume : (found : Option Entry) → volume_at entries number ≡ found → Doing c words entries (line.Restore number) bytes
    by_volume None is = record {
      did = line_refused [] entries (why.NoVolume number (length entries));
      does = inl (is, refl);
      listed = listed;
    }
    by_volume (Some e) is =
        let some = restores_anyway c words (pieces words e) in
        let still = framed_in_no_step c words (pieces words e) some.0 some.1 some.2 in
        record {
          did = given_as words entries number e (framed (pieces words e) some.0) some.1;
          does = inr (record { entry = e; numbered = is; acts = some.0; ending = some.1; restores = some.2; is = refl });
          listed = given_listed c words entries number e (framed (pieces words e) some.0) some.1 still.0 listed;
        }

scrub_done : (c : Cartridge) (words : List ℕ) (entries : List Entry) (bytes : List ℕ) → IsListed c words entries →
    Doing c words entries line.Scrub bytes
scrub_done c words entries bytes listed = by_mark c.info.protected refl
  where
    by_mark : (mark : Bool) → c.info.protected ≡ mark → Doing c words entries line.Scrub bytes
    by_mark true is = record { did = line_refused [] entries why.Protected; does = inl (is, refl); listed = listed }
    by_mark false is =
        let some = scrubs_anyway c words entries in
        record {
          did = record { acts = some.0; entries = entries };
          does = inr (is, (some.0, some.1, refl));
          listed = scrub_listed c words entries some.0 listed is some.1;
        }

lose_done : (c : Cartridge) (words : List ℕ) (entries : List Entry) (segment sector : ℕ) (bytes : List ℕ) → IsListed c words entries →
    Doing c words entries (line.Lose segment sector) bytes
lose_done c words entries segment sector bytes listed = elim (place_or_not c.info.segments_per_track segment sector) [
  | inl place ↦ record {
    did = record { acts = record { steps = Wear segment sector ∷ []; text = lost_line segment sector } ∷ []; entries = entries };
    does = inr (place, refl);
    listed = wear_listed c words entries segment sector listed;
  }
  | inr none ↦ record { did = line_refused [] entries (why.Place segment sector); does = inl (none, refl); listed = listed }
]

-- each line but `end` is carried out
line_done : (c : Cartridge) (words : List ℕ) (entries : List Entry) (asked : Line) (bytes text : List ℕ) → IsLineText text asked →
    asked ≢ line.End → IsListed c words entries →
    Doing c words entries asked bytes
line_done c words entries (line.Append name count date) bytes text lined other listed =
    let values = append_values text name count date lined in
    let met = meets_some c words entries listed in
    append_done c words entries name count date bytes values.0 values.1 listed met.0 met.1
line_done c words entries line.List bytes text lined other listed =
    record { did = record { acts = reply (list_text words entries) ∷ []; entries = entries }; does = refl; listed = listed }
line_done c words entries (line.Restore number) bytes text lined other listed = restore_done c words entries number bytes listed
line_done c words entries line.Scrub bytes text lined other listed = scrub_done c words entries bytes listed
line_done c words entries (line.Lose segment sector) bytes text lined other listed = lose_done c words entries segment sector bytes listed
line_done c words entries line.End bytes text lined other listed = absurd (other refl)

-- ---- all items

items_done : (number place : ℕ) (c : Cartridge) (words : List ℕ) (entries : List Entry) (input : List ℕ) (items : List Item)
    (ending : Ending) →
    HasItems IsItem number place input items ending → IsListed c words entries → DoneAll c words entries items
items_done number place c words entries input [] ending read listed = record { dids = []; did = tt; listed = listed }
items_done number place c words entries input (item ∷ items) ending (within, (text, (behind, (parts, is, read)))) listed =
    let first = line_done c words entries item.line item.bytes is.front is.lined is.not_end listed in
    let next = items_done (number + 1) (place + length text) (changed_by (steps_of first.did.acts) c) words first.did.entries behind items
    ending read first.listed in
    record { dids = first.did ∷ next.dids; did = (first.does, next.did); listed = next.listed }

-- ---- the end

fault_does : (c : Cartridge) (words : List ℕ) (entries : List Entry) (number : ℕ) (rest : List ℕ) → IsListed c words entries →
    (acts : List Act) × FaultDoes c words entries number rest acts
fault_does c words entries number rest listed = by_number (at_most number most_items) (early_or_not rest)
  where
    by_number : Decided (number ≤ most_items) → Decided (EndsEarly rest) → (acts : List Act) × FaultDoes c words entries number rest acts
    by_number (inl within) (inl early) =
        let met = meets_some c words entries listed in
        (acts_on c words entries early.name early.promised early.date early.bytes met.0, inl (within, (early, (met.0, met.1, refl))))
    by_number (inl within) (inr never) = ([], inr ((λ below. never), refl))
    by_number (inr beyond) early = ([], inr ((λ below. absurd (beyond below)), refl))

end_does : (c : Cartridge) (words : List ℕ) (entries : List Entry) (rest : List ℕ) (ending : Ending) → IsListed c words entries →
    (acts : List Act) × EndDoes c words entries rest ending acts
end_does c words entries rest AtEnd listed = (reply end_line ∷ [], refl)
end_does c words entries rest AtStop listed = (reply end_line ∷ [], refl)
end_does c words entries rest (AtFault number place) listed = fault_does c words entries number rest listed

-- ---- the outcome

pub each_outcome : ScriptHasAnOutcome
each_outcome c words entries input listed =
    let reading = each_script input in
    let all = items_done 1 0 c words entries input reading.0 reading.1.0 reading.1.1 listed in
    let last = end_does (cartridge_behind c all.dids) words (entries_behind entries all.dids)
    (drop (place_behind 1 0 input reading.0 reading.1.0 reading.1.1) input) reading.1.0 all.listed in (
      record {
        acts = acts_of all.dids ++ last.0;
        taken = items_taken input reading.0 reading.1.0 reading.1.1;
        status = input_status reading.1.0;
      },
      record {
        items = reading.0;
        ending = reading.1.0;
        read = reading.1.1;
        dids = all.dids;
        did = all.did;
        last = last.0;
        ends = last.1;
        is = refl;
      },
    )
