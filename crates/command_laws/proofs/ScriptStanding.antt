-- What the items of a script leave of a cartridge that stands for a plain one, done or stopped.
use Rattle.std.proofs.Common.{◌≡◌, ℕ, ◌<◌, List, length, All, ◌+◌, [], ◌∷◌, ◌++◌, subst, ◌⊎◌, Option, Some, IsSomeAnd, Bool, cond, ap, inl}
use Rattle.std.proofs.Common.{sym, ◌∙◌, false, nat_lt, arith, inr, ◌==◌, true, take, append-nil, refl, ◌≢◌}
use Rattle.std.proofs.lemmas.Bool.{eq-eqb, cases_Bool, eqb-true, lt-ltb}
use Rattle.std.proofs.lemmas.List.{length-append, map-append, take_all}
use Rattle.cartridge_laws.proofs.AppendVolume.{free_writes_stand}
use Rattle.cartridge_laws.proofs.FormatWriting.{some_weaker, some_and}
use Rattle.cartridge_laws.proofs.MountKeeping.{stopped_stands}
use Rattle.cartridge_laws.proofs.MountSettled.{settled_stands}
use Rattle.cartridge_laws.proofs.MountSettles.{settling_settles}
use Rattle.cartridge_laws.proofs.MountStanding.{standing_data}
use Rattle.cartridge_laws.proofs.MountWhole.{settling_effects}
use Rattle.cartridge_spec.specs.Appending.{has_room, with_all, Content}
use Rattle.cartridge_spec.specs.TableSegment.{IsTableLive}
use Rattle.cartridge_spec.specs.Mounting.{settled}
use Rattle.cartridge_spec.specs.Settling.{changed_by, settling_steps}
use Rattle.cartridge_spec.specs.Table.{Entry}
use Rattle.cartridge_spec.specs.Volumes.{Plain, Stands, entries_of, Volume, worn, WearSpares}
use Rattle.command_laws.proofs.IntactKeeping.{appends_leave_intact, intact_is_one, scrubs_leave_intact, wears_leave_intact}
use Rattle.command_laws.proofs.IntactKeeping.{settled_is_intact, whole_needs_no_steps}
use Rattle.command_laws.proofs.MountedHeld.{held_open, open_held, settled_held, settling_live, scrubbed_held, scrubbed_live, worn_held}
use Rattle.command_laws.proofs.MountedHeld.{worn_is_live}
use Rattle.command_laws.proofs.MountedKeeping.{live_kept}
use Rattle.command_laws.proofs.MountedStanding.{all_writes, kept_appended, open_appended, stopped_appended, same_less, whole_appended}
use Rattle.command_laws.proofs.MountedSurviving.{appends_survive}
use Rattle.command_laws.proofs.RestoreCounts.{framed_in_no_step}
use Rattle.command_laws.proofs.ScriptActs.{full_acts, full_taking, replied_steps, line_spares}
use Rattle.command_laws.proofs.ScriptValues.{append_values}
use Rattle.command_laws.proofs.ScrubMounted.{stopped_scrub_stands}
use Rattle.command_laws.proofs.ScrubPlain.{as_plain}
use Rattle.command_laws.specs.Intact.{IsIntact}
use Rattle.command_laws.specs.MountedHeld.{IsHeld}
use Rattle.command_laws.specs.MountedKept.{IsKept, IsOpen, settle_and_append}
use Rattle.command_laws.specs.ScriptStanding.{LineHasBytes, HaveBytes, ItemsHaveBytes, HasBytes, StoppedItemStands, ItemsStand, FaultStands}
use Rattle.command_laws.specs.ScriptStanding.{plain_after}
use Rattle.command_spec.specs.Append.{Kept, Taking, Fits, TooLong, TooShort, append_acts, room_in, taking, entry_acts, has_promised_room}
use Rattle.command_spec.specs.Append.{input_writes, kept_over}
use Rattle.command_laws.specs.ScriptTerms.{ItemDoes, LineSpares, LineSparesTable}
use Rattle.command_laws.specs.RestoreTerms.{RestoreDoes}
use Rattle.command_laws.specs.AppendTerms.{entry_for, content_with}
use Rattle.command_laws.specs.Inputs.{IsLine}
use Rattle.command_spec.specs.Input.{IsLined, promised, Item, IsItem, Ending, HasItems}
use Rattle.command_spec.specs.Lines.{reply_behind, lost_line}
use Rattle.command_spec.specs.Restore.{Restored, LostIn, MismatchIn, framed, pieces}
use Rattle.command_spec.specs.Script.{Did, Meeting, Finds, Meets, Refuses, append_did, line_refused, taken_as, given_as, LineDoes, ItemsDo}
use Rattle.command_spec.specs.Script.{entries_behind, acts_on, cartridge_behind}
use Rattle.command_spec.specs.ScriptLists.{item_added, all_added, line_contents, plain_behind}
use Rattle.command_spec.specs.OneLoss.{ComesBackAsOneOf}
use Rattle.command_spec.specs.Scrub.{ScrubsAs}
use Rattle.command_spec.specs.declared.depth.Depth.TheVariants.{Shallow}
use Rattle.command_spec.specs.declared.line.Line.{Line}
use Rattle.gf256_qic.proofs.Parities.{all_left, all_right}
use Rattle.qic_base.proofs.Joins.{steps_of-append}
use Rattle.qic_base.proofs.Steps.{Torn-append}
use Rattle.qic_base.specs.Acts.{steps_of, Act}
use Rattle.qic_base.specs.Cartridge.{Cartridge}
use Rattle.qic_base.specs.Step.{Step, Wear, Torn}
use Rattle.command_laws.proofs.CopyGoing.{with_all-append}
use Rattle.command_laws.proofs.CopyStanding.{behind_last}
use Rattle.command_spec.specs.declared.line.Line.TheVariants as line
use Rattle.cartridge_laws.specs.AppendLaws.{new_volume, with_content, IsAppendable}
use Rattle.command_spec.specs.declared.refusal.Refusal.TheVariants as why
use Rattle.command_spec.specs.Restore as restoring

-- ---- the items of an input of bytes

line_has : (l : Line) (front bytes : List ℕ) → IsLined (λ before. IsLine before l) front → length bytes ≡ promised l →
    All (λ b. b < 256) bytes → LineHasBytes l bytes
line_has (line.Append name count date) front bytes lined long content =
    let values = append_values front name count date lined in
    (record { label = values.0; word = values.1; bytes = content }, long)
line_has line.List front bytes lined long content = tt
line_has (line.Restore number) front bytes lined long content = tt
line_has line.Scrub front bytes lined long content = tt
line_has (line.Lose segment sector) front bytes lined long content = tt
line_has line.End front bytes lined long content = tt

have_bytes : (number place : ℕ) (input : List ℕ) (items : List Item) (ending : Ending) → HasItems IsItem number place input items ending →
    All (λ b. b < 256) input → HaveBytes items
have_bytes number place input [] ending read content = tt
have_bytes number place input (item ∷ items) ending (within, (text, (behind, (parts, is, read)))) content =
    let all : All (λ b. b < 256) (text ++ behind) = subst (λ (bs : List ℕ). All (λ b. b < 256) bs) parts content in
    let one : All (λ b. b < 256) (is.front ++ item.bytes) = subst (λ (bs : List ℕ). All (λ b. b < 256) bs) is.whole
    (all_left (λ b. b < 256) text behind all) in (
      line_has item.line is.front item.bytes is.lined is.kept (all_right (λ b. b < 256) is.front item.bytes one),
      have_bytes (number + 1) (place + length text) behind items ending read (all_right (λ b. b < 256) text behind all),
    )

pub items_have_bytes : ItemsHaveBytes
items_have_bytes input items ending read content = have_bytes 1 0 input items ending read content

-- ---- one item

-- what was whole is so still, and comes back where it was stopped
pub record LeavesIntact (c : Cartridge) (plain other : Plain) (did : Did) : Type 0 where
  pub done : IsIntact (changed_by (steps_of did.acts) c) other
  pub stopped : (left : Option Cartridge) → Torn (steps_of did.acts) (Some c) left → IsSomeAnd left (ComesBackAsOneOf plain other)

-- .. once its table was settled, whose data are these
pub record SettlesLeaves (c : Cartridge) (plain other : Plain) (table : List (List ℕ)) (did : Did) : Type 0 where
  pub done : IsIntact (changed_by (steps_of did.acts) c) other
  pub stopped : (left : Option Cartridge) → Torn (steps_of did.acts) (Some c) left →
      Torn (settling_steps table c) (Some c) left ⊎ IsSomeAnd left (ComesBackAsOneOf plain other)

-- what an item leaves, done or stopped; stopped where each sector of the table's segment takes what is written to it
pub record ItemLeaves (c : Cartridge) (plain : Plain) (item : Item) (did : Did) : Type 0 where
  pub done : IsHeld (changed_by (steps_of did.acts) c) (plain_after plain item did)
  pub live : IsTableLive c → IsTableLive (changed_by (steps_of did.acts) c)
  pub entries : entries_of (plain_after plain item did) ≡ did.entries
  pub words : (plain_after plain item did).words ≡ plain.words
  pub stopped : IsTableLive c → (left : Option Cartridge) → Torn (steps_of did.acts) (Some c) left →
      IsSomeAnd left (λ d. Stands d plain ⊎ Stands d (plain_after plain item did))
  pub intact : LineSparesTable item.line → IsIntact c plain → LeavesIntact c plain (plain_after plain item did) did

-- one that adds no volume, and wears no sector of the table's segment
record Stills (behind : Type 0) (c : Cartridge) (plain : Plain) (did : Did) : Type 0 where
  done : IsHeld (changed_by (steps_of did.acts) c) plain
  live : IsTableLive c → IsTableLive (changed_by (steps_of did.acts) c)
  entries : did.entries ≡ entries_of plain
  stopped : (left : Option Cartridge) → Torn (steps_of did.acts) (Some c) left → IsSomeAnd left (λ d. Stands d plain)
  intact : behind → IsIntact c plain → LeavesIntact c plain plain did

same_after : (plain : Plain) (item : Item) (did : Did) → did.entries ≡ entries_of plain → plain_after plain item did ≡ plain
same_after plain item did same =
    ap (λ (b : Bool). with_all plain (cond b [] (line_contents item.line item.bytes)))
    (eq-eqb (length did.entries) (length (entries_of plain)) (ap (λ (es : List Entry). length es) same))

leaves_still : (c : Cartridge) (plain : Plain) (item : Item) (did : Did) → Stills (LineSparesTable item.line) c plain did →
    ItemLeaves c plain item did
leaves_still c plain item did still =
    let same : plain_after plain item did ≡ plain = same_after plain item did still.entries in
    record {
      done = subst (λ (p : Plain). IsHeld (changed_by (steps_of did.acts) c) p) (sym same) still.done;
      live = still.live;
      entries = ap (λ (p : Plain). entries_of p) same ∙ sym still.entries;
      words = ap (λ (p : Plain). p.words) same;
      stopped = λ live left torn. some_weaker left (λ d stands. inl stands) (still.stopped left torn);
      intact = λ behind intact. subst (λ (p : Plain). LeavesIntact c plain p did) (sym same) (still.intact behind intact);
    }

-- .. and takes no step
no_steps : {behind : Type 0} (c : Cartridge) (plain : Plain) (did : Did) → IsHeld c plain → steps_of did.acts ≡ [] →
    did.entries ≡ entries_of plain → Stills behind c plain did
no_steps c plain did held none same = record {
  done = subst (λ (ss : List Step). IsHeld (changed_by ss c) plain) (sym none) held;
  live = λ live. subst (λ (ss : List Step). IsTableLive (changed_by ss c)) (sym none) live;
  entries = same;
  stopped = λ left torn. some_and (λ d. Stands d plain) c left held.stands (subst (λ (ss : List Step). Torn ss (Some c) left) none torn);
  intact = λ is_behind intact. record {
    done = subst (λ (ss : List Step). IsIntact (changed_by ss c) plain) (sym none) intact;
    stopped = λ left torn. intact_is_one c plain plain left intact (subst (λ (ss : List Step). Torn ss (Some c) left) none torn);
  };
}

-- ---- an append

differ : (m n : ℕ) → m ≡ n + 1 → m == n ≡ false
differ m n more = elim (cases_Bool (m == n)) [
  | inl is ↦ absurd (let same : m ≡ n = eqb-true m n is in omega arith)
  | inr is ↦ is
]

-- a list with one volume more
more_after : (plain : Plain) (item : Item) (did : Did) (e : Entry) → did.entries ≡ entries_of plain ++ e ∷ [] →
    plain_after plain item did ≡ with_all plain (line_contents item.line item.bytes)
more_after plain item did e more =
    ap (λ (b : Bool). with_all plain (cond b [] (line_contents item.line item.bytes)))
    (differ (length did.entries) (length (entries_of plain))
    (ap (λ (es : List Entry). length es) more ∙ length-append (entries_of plain) (e ∷ [])))

-- of just as many bytes as are promised
module _ (c : Cartridge) (plain : Plain) (content : Content) (held : IsHeld c plain) where
  abbrev size : ℕ
  size = length content.bytes

  -- what it goes by, with these data of the table
  abbrev kept_at : (table : List (List ℕ)) → Kept
  kept_at table = kept_over c plain.words (entries_of plain) table

  abbrev kept_now : Kept
  kept_now = kept_at plain.table_area

  abbrev replies : Entry → List ℕ
  replies = reply_behind (length (entries_of plain))

  -- its entry, and its line where so many bytes are promised
  abbrev its_entry : Entry
  its_entry = entry_for kept_now content.name content.date content.bytes

  abbrev its_item : (n : ℕ) → Item
  its_item n = record { line = line.Append content.name n content.date; bytes = content.bytes }

  abbrev acts_by : (table : List (List ℕ)) (n : ℕ) → List Act
  acts_by table n = append_acts (kept_at table) content.name content.date (Some n) replies content.bytes

  abbrev its_acts : List Act
  its_acts = acts_by plain.table_area size

  -- what it does, where so many bytes are promised
  abbrev does_by : (table : List (List ℕ)) (n : ℕ) → Did
  does_by table n =
      taken_as (kept_at table) content.name content.date (acts_by table n) (taking (room_in (kept_at table)) (Some n) content.bytes)

  -- with room for them, and without
  abbrev with_room : Did
  with_room = record { acts = its_acts; entries = entries_of plain ++ its_entry ∷ [] }

  abbrev with_none : Did
  with_none = line_refused its_acts (entries_of plain) (why.Full size (room_in kept_now))

  same_doing : (table : List (List ℕ)) (n : ℕ) → table ≡ plain.table_area → size ≡ n →
      append_did c plain.words (entries_of plain) content.name n content.date content.bytes (Finds table) ≡ does_by plain.table_area size
  same_doing table n area long = ap (λ (t : List (List ℕ)). does_by t n) area ∙ ap (does_by plain.table_area) (sym long)

  -- where there is room for them
  module _ (enough : has_room plain size ≡ true) where
    fits_taking : taking (room_in kept_now) (Some size) content.bytes ≡ Fits content.bytes
    fits_taking =
        ap (λ (b : Bool). cond b (cond (nat_lt size size) (TooShort size size) (Fits (take size content.bytes)))
        (TooLong size (room_in kept_now))) enough
        ∙ ap (λ (b : Bool). cond b (TooShort size size) (Fits (take size content.bytes))) (same_less size)
        ∙ ap (λ (xs : List ℕ). Fits xs) (take_all size content.bytes (omega arith))

    fits_doing : does_by plain.table_area size ≡ with_room
    fits_doing = ap (λ (became : Taking). taken_as kept_now content.name content.date its_acts became) fits_taking

    fits_steps : steps_of its_acts ≡ settle_and_append c plain content
    fits_steps =
        sym (replied_steps kept_now content.name content.date size content.bytes content.bytes fits_taking replies)
        ∙ ap (λ (rest : List Step). settling_steps plain.table_area c ++ rest)
        (all_writes plain content (settling_steps plain.table_area c) enough)

    entries_more : entries_of (with_content plain content) ≡ entries_of plain ++ its_entry ∷ []
    entries_more = map-append (λ (v : Volume). v.entry) plain.volumes (new_volume plain content ∷ [])

    fits_leaves : (n : ℕ) (did : Did) → IsOpen c plain → IsAppendable content → did ≡ with_room → ItemLeaves c plain (its_item n) did
    fits_leaves n did ready may is =
        let item : Item = its_item n in
        let list : did.entries ≡ entries_of plain ++ its_entry ∷ [] = ap (λ (d : Did). d.entries) is in
        let more : plain_after plain item did ≡ with_content plain content = more_after plain item did its_entry list in
        let steps : steps_of did.acts ≡ settle_and_append c plain content = ap (λ (d : Did). steps_of d.acts) is ∙ fits_steps in
        let kept : IsTableLive c → IsKept c plain = live_kept c plain ready in
        record {
          done = subst (λ (p : Plain). IsHeld (changed_by (steps_of did.acts) c) p) (sym more)
              (subst (λ (ss : List Step). IsHeld (changed_by ss c) (with_content plain content)) (sym steps)
              (open_held _ (with_content plain content) (open_appended c plain content ready may enough)));
          live = λ live. subst (λ (ss : List Step). IsTableLive (changed_by ss c)) (sym steps)
              (kept_appended content may c plain (kept live) enough).live;
          entries = ap (λ (p : Plain). entries_of p) more ∙ entries_more ∙ sym list;
          words = ap (λ (p : Plain). p.words) more;
          stopped = λ live left torn. subst (λ (p : Plain). IsSomeAnd left (λ d. Stands d plain ⊎ Stands d p)) (sym more)
              (stopped_appended content may c plain (kept live) left enough
              (subst (λ (ss : List Step). Torn ss (Some c) left) steps torn));
          intact = λ behind intact.
              let now = appends_leave_intact c plain content intact may enough in
              subst (λ (p : Plain). LeavesIntact c plain p did) (sym more) (record {
                done = subst (λ (ss : List Step). IsIntact (changed_by ss c) (with_content plain content)) (sym steps) now.done;
                stopped = λ left torn. now.stopped left (subst (λ (ss : List Step). Torn ss (Some c) left) steps torn);
              });
        }

  -- where there is none, the table is settled alone
  module _ (small : has_room plain size ≡ false) where
    full_doing : does_by plain.table_area size ≡ with_none
    full_doing =
        ap (λ (became : Taking). taken_as kept_now content.name content.date its_acts became)
        (full_taking kept_now content.name content.date size small content.bytes)

    full_steps : (did : Did) → did ≡ with_none → steps_of did.acts ≡ settling_steps plain.table_area c
    full_steps did is =
        ap (λ (d : Did). steps_of d.acts) is
        ∙ ap (λ (xs : List Act). steps_of (line_refused xs (entries_of plain) (why.Full size (room_in kept_now))).acts)
        (full_acts kept_now content.name content.date size small replies content.bytes)
        ∙ append-nil (settling_steps plain.table_area c)

    full_stills : (did : Did) → IsOpen c plain → did ≡ with_none → Stills (Unit {0}) c plain did
    full_stills did ready is =
        let steps : steps_of did.acts ≡ settling_steps plain.table_area c = full_steps did is in
        record {
          done = subst (λ (ss : List Step). IsHeld (changed_by ss c) plain) (sym steps) (settled_held c plain ready);
          live = λ live. subst (λ (ss : List Step). IsTableLive (changed_by ss c)) (sym steps) (settling_live c plain ready live);
          entries = ap (λ (d : Did). d.entries) is;
          stopped = λ left torn. stopped_stands c plain plain.table_area left ready.stands ready.table
              (subst (λ (ss : List Step). Torn ss (Some c) left) steps torn);
          intact = λ behind intact.
              let none : steps_of did.acts ≡ [] = steps ∙ whole_needs_no_steps c plain.table_area intact.table intact.kept.unprotected in
              record {
                done = subst (λ (ss : List Step). IsIntact (changed_by ss c) plain) (sym none) intact;
                stopped = λ left torn. intact_is_one c plain plain left intact
                    (subst (λ (ss : List Step). Torn ss (Some c) left) none torn);
              };
        }

  pub append_leaves : (n : ℕ) (did : Did) → IsAppendable content → size ≡ n → (m : Meeting) → Meets c m →
      did ≡ append_did c plain.words (entries_of plain) content.name n content.date content.bytes m →
      ItemLeaves c plain (its_item n) did
  append_leaves n did may long (Refuses w) meets is =
      leaves_still c plain (its_item n) did
      (no_steps c plain did held (ap (λ (d : Did). steps_of d.acts) is) (ap (λ (d : Did). d.entries) is))
  append_leaves n did may long (Finds table) meets is =
      let ready : IsOpen c plain = held_open c plain table held meets.1 meets.0 in
      let does : did ≡ does_by plain.table_area size = is ∙ same_doing table n (standing_data c plain table held.stands meets.1) long in
      elim (cases_Bool (has_room plain size)) [
        | inl enough ↦ fits_leaves enough n did ready may (does ∙ fits_doing enough)
        | inr small ↦ leaves_still c plain (its_item n) did (full_stills small did ready (does ∙ full_doing small))
      ]

  -- one that finds its table: done it leaves that whole, and stopped, while it isn't settled yet, or what comes back
  pub append_settles : (n : ℕ) (did : Did) (table : List (List ℕ)) → IsAppendable content → size ≡ n → IsTableLive c →
      Meets c (Finds table) → did ≡ append_did c plain.words (entries_of plain) content.name n content.date content.bytes (Finds table) →
      SettlesLeaves c plain (plain_after plain (its_item n) did) table did
  append_settles n did table may long live meets is =
      let item : Item = its_item n in
      let ready : IsOpen c plain = held_open c plain table held meets.1 meets.0 in
      let kept : IsKept c plain = live_kept c plain ready live in
      let area : table ≡ plain.table_area = standing_data c plain table held.stands meets.1 in
      let does : did ≡ does_by plain.table_area size = is ∙ same_doing table n area long in
      subst (λ (t : List (List ℕ)). SettlesLeaves c plain (plain_after plain item did) t did) (sym area)
      (elim (cases_Bool (has_room plain size)) [
        | inl enough ↦
            let all : did ≡ with_room = does ∙ fits_doing enough in
            let list : did.entries ≡ entries_of plain ++ its_entry ∷ [] = ap (λ (d : Did). d.entries) all in
            let more : plain_after plain item did ≡ with_content plain content = more_after plain item did its_entry list in
            let steps : steps_of did.acts ≡ settle_and_append c plain content =
            ap (λ (d : Did). steps_of d.acts) all ∙ fits_steps enough in
            subst (λ (p : Plain). SettlesLeaves c plain p plain.table_area did) (sym more) (record {
              done = subst (λ (ss : List Step). IsIntact (changed_by ss c) (with_content plain content)) (sym steps) (record {
                kept = kept_appended content may c plain kept enough;
                table = whole_appended content may c plain kept enough;
              });
              stopped = λ left torn. appends_survive c plain content left kept may enough
                  (subst (λ (ss : List Step). Torn ss (Some c) left) steps torn);
            })
        | inr small ↦
            let full : did ≡ with_none = does ∙ full_doing small in
            let same : plain_after plain item did ≡ plain = same_after plain item did (ap (λ (d : Did). d.entries) full) in
            let steps : steps_of did.acts ≡ settling_steps plain.table_area c = full_steps small did full in
            subst (λ (p : Plain). SettlesLeaves c plain p plain.table_area did) (sym same) (record {
              done = subst (λ (d : Cartridge). IsIntact d plain)
                  (sym (ap (λ (ss : List Step). changed_by ss c) steps ∙ settling_settles c plain.table_area ready.table))
                  (settled_is_intact c plain kept);
              stopped = λ left torn. inl (subst (λ (ss : List Step). Torn ss (Some c) left) steps torn);
            })
      ])

-- ---- the other lines

pub given_entries : (words : List ℕ) (entries : List Entry) (number : ℕ) (e : Entry) (parts : List Act) (ending : restoring.GivingEnd) →
    (given_as words entries number e parts ending).entries ≡ entries
given_entries words entries number e parts Restored = refl
given_entries words entries number e parts (LostIn segment lost) = refl
given_entries words entries number e parts (MismatchIn segment) = refl

-- a reply takes no step
pub given_steps : (words : List ℕ) (entries : List Entry) (number : ℕ) (e : Entry) (parts : List Act) (ending : restoring.GivingEnd) →
    steps_of parts ≡ [] → steps_of (given_as words entries number e parts ending).acts ≡ []
given_steps words entries number e parts Restored none = steps_of-append parts _ ∙ append-nil (steps_of parts) ∙ none
given_steps words entries number e parts (LostIn segment lost) none = steps_of-append parts _ ∙ append-nil (steps_of parts) ∙ none
given_steps words entries number e parts (MismatchIn segment) none = steps_of-append parts _ ∙ append-nil (steps_of parts) ∙ none

gives_stills : (c : Cartridge) (plain : Plain) (number : ℕ) (did : Did) → IsHeld c plain →
    RestoreDoes c plain.words (entries_of plain) number did → Stills (Unit {0}) c plain did
gives_stills c plain number did held gives =
    let parts : List Act = framed (pieces plain.words gives.entry) gives.acts in
    no_steps c plain did held
    (ap (λ (d : Did). steps_of d.acts) gives.is
    ∙ given_steps plain.words (entries_of plain) number gives.entry parts gives.ending
    (framed_in_no_step c plain.words (pieces plain.words gives.entry) gives.acts gives.ending gives.restores).0)
    (ap (λ (d : Did). d.entries) gives.is ∙ given_entries plain.words (entries_of plain) number gives.entry parts gives.ending)

scrub_stills : (c : Cartridge) (plain : Plain) (acts : List Act) (did : Did) → IsHeld c plain →
    ScrubsAs Shallow c plain.words (entries_of plain) acts →
    did ≡ record { acts = acts; entries = entries_of plain } → Stills (Unit {0}) c plain did
scrub_stills c plain acts did held scrubs is =
    let steps : steps_of did.acts ≡ steps_of acts = ap (λ (d : Did). steps_of d.acts) is in
    record {
      done = subst (λ (ss : List Step). IsHeld (changed_by ss c) plain) (sym steps) (scrubbed_held c plain acts held scrubs);
      live = λ live. subst (λ (ss : List Step). IsTableLive (changed_by ss c)) (sym steps) (scrubbed_live c plain acts held scrubs live);
      entries = ap (λ (d : Did). d.entries) is;
      stopped = λ left torn. stopped_scrub_stands c plain acts left held.stands (as_plain c plain.words (entries_of plain) acts scrubs)
          (subst (λ (ss : List Step). Torn ss (Some c) left) steps torn);
      intact = λ behind intact.
          let now = scrubs_leave_intact c plain acts intact scrubs in
          record {
            done = subst (λ (ss : List Step). IsIntact (changed_by ss c) plain) (sym steps) now.done;
            stopped = λ left torn. now.stopped left (subst (λ (ss : List Step). Torn ss (Some c) left) steps torn);
          };
    }

lose_stills : (c : Cartridge) (plain : Plain) (segment sector : ℕ) (did : Did) → IsHeld c plain → sector < 32 →
    WearSpares c plain segment sector →
    did ≡ record { acts = record { steps = Wear segment sector ∷ []; text = lost_line segment sector } ∷ []; entries = entries_of plain } →
    Stills (sector < 32 → segment ≢ 2) c plain did
lose_stills c plain segment sector did held small spares is =
    let steps : steps_of did.acts ≡ Wear segment sector ∷ [] = ap (λ (d : Did). steps_of d.acts) is in
    let worn_is : IsHeld (worn segment sector c) plain = worn_held c plain segment sector held small spares in
    record {
      done = subst (λ (ss : List Step). IsHeld (changed_by ss c) plain) (sym steps) worn_is;
      live = λ live. subst (λ (ss : List Step). IsTableLive (changed_by ss c)) (sym steps) (worn_is_live c segment sector live);
      entries = ap (λ (d : Did). d.entries) is;
      stopped = λ left torn. by_torn left worn_is (subst (λ (ss : List Step). Torn ss (Some c) left) steps torn);
      intact = λ behind intact.
          let worn_so : IsIntact (worn segment sector c) plain = wears_leave_intact c plain segment sector intact spares
          (behind small) small in
          record {
            done = subst (λ (ss : List Step). IsIntact (changed_by ss c) plain) (sym steps) worn_so;
            stopped = λ left torn. comes_by left intact worn_so (subst (λ (ss : List Step). Torn ss (Some c) left) steps torn);
          };
    }
  where
    by_torn : (left : Option Cartridge) → IsHeld (worn segment sector c) plain → Torn (Wear segment sector ∷ []) (Some c) left →
        IsSomeAnd left (λ d. Stands d plain)
    by_torn left after (inl is) = some_and (λ d. Stands d plain) c left held.stands is
    by_torn left after (inr (inl half)) = absurd half
    by_torn left after (inr (inr is)) = some_and (λ d. Stands d plain) (worn segment sector c) left after.stands is

    comes_by : (left : Option Cartridge) → IsIntact c plain → IsIntact (worn segment sector c) plain →
        Torn (Wear segment sector ∷ []) (Some c) left → IsSomeAnd left (ComesBackAsOneOf plain plain)
    comes_by left before after (inl is) = intact_is_one c plain plain left before is
    comes_by left before after (inr (inl half)) = absurd half
    comes_by left before after (inr (inr is)) = intact_is_one (worn segment sector c) plain plain left after is

line_leaves : (c : Cartridge) (plain : Plain) (asked : Line) (bytes : List ℕ) (did : Did) → IsHeld c plain → LineHasBytes asked bytes →
    LineSpares c plain asked →
    LineDoes c plain.words (entries_of plain) asked bytes did → ItemLeaves c plain (record { line = asked; bytes = bytes }) did
line_leaves c plain (line.Append name n date) bytes did held has spares (m, meets, is) =
    append_leaves c plain (content_with name date bytes) held n did has.0 has.1 m meets is
line_leaves c plain line.List bytes did held has spares is =
    leaves_still c plain (record { line = line.List; bytes = bytes }) did
    (no_steps c plain did held (ap (λ (d : Did). steps_of d.acts) is) (ap (λ (d : Did). d.entries) is))
line_leaves c plain (line.Restore number) bytes did held has spares (inl (none, is)) =
    leaves_still c plain (record { line = line.Restore number; bytes = bytes }) did
    (no_steps c plain did held (ap (λ (d : Did). steps_of d.acts) is) (ap (λ (d : Did). d.entries) is))
line_leaves c plain (line.Restore number) bytes did held has spares (inr gives) =
    leaves_still c plain (record { line = line.Restore number; bytes = bytes }) did (gives_stills c plain number did held gives)
line_leaves c plain line.Scrub bytes did held has spares (inl (mark, is)) =
    leaves_still c plain (record { line = line.Scrub; bytes = bytes }) did
    (no_steps c plain did held (ap (λ (d : Did). steps_of d.acts) is) (ap (λ (d : Did). d.entries) is))
line_leaves c plain line.Scrub bytes did held has spares (inr (free, (acts, scrubs, is))) =
    leaves_still c plain (record { line = line.Scrub; bytes = bytes }) did (scrub_stills c plain acts did held scrubs is)
line_leaves c plain (line.Lose segment sector) bytes did held has spares (inl (none, is)) =
    leaves_still c plain (record { line = line.Lose segment sector; bytes = bytes }) did
    (no_steps c plain did held (ap (λ (d : Did). steps_of d.acts) is) (ap (λ (d : Did). d.entries) is))
line_leaves c plain (line.Lose segment sector) bytes did held has spares (inr (place, is)) =
    leaves_still c plain (record { line = line.Lose segment sector; bytes = bytes }) did
    (lose_stills c plain segment sector did held place.in_segment (spares place) is)
line_leaves c plain line.End bytes did held has spares never = absurd never

pub item_leaves : (c : Cartridge) (plain : Plain) (item : Item) (did : Did) → IsHeld c plain → HasBytes item →
    LineSpares c plain item.line →
    ItemDoes c plain.words (entries_of plain) item did → ItemLeaves c plain item did
item_leaves c plain item did held has spares does = line_leaves c plain item.line item.bytes did held has spares does

pub stopped_item_stands : StoppedItemStands
stopped_item_stands c plain item did left held live has does spares torn =
    (item_leaves c plain item did held has spares does).stopped live left torn

-- ---- items one after the other

-- what the next items add behind the first is added behind all
pub next_is : (plain : Plain) (item : Item) (did : Did) (items : List Item) (dids : List Did) →
    entries_of (plain_after plain item did) ≡ did.entries →
    plain_behind (plain_after plain item did) items dids ≡ plain_behind plain (item ∷ items) (did ∷ dids)
next_is plain item did items dids list =
    ap (λ (es : List Entry). with_all (plain_after plain item did) (all_added es items dids)) list
    ∙ sym (with_all-append plain (item_added (entries_of plain) item did) (all_added did.entries items dids))

-- what the next items do, on the plain cartridge behind the first
pub next_do : (c : Cartridge) (plain next : Plain) (items : List Item) (entries : List Entry) (dids : List Did) →
    entries_of next ≡ entries → next.words ≡ plain.words →
    ItemsDo c plain.words entries items dids → ItemsDo c next.words (entries_of next) items dids
next_do c plain next items entries dids list map ran =
    subst (λ (es : List Entry). ItemsDo c next.words es items dids) (sym list)
    (subst (λ (ws : List ℕ). ItemsDo c ws entries items dids) (sym map) ran)

pub items_stand : ItemsStand
items_stand c plain [] [] held has ran spares = (held, refl, refl, λ live. live)
items_stand c plain [] (did ∷ dids) held has ran spares = absurd ran
items_stand c plain (item ∷ items) [] held has ran spares = absurd ran
items_stand c plain (item ∷ items) (did ∷ dids) held has ran spares =
    let leaves : ItemLeaves c plain item did = item_leaves c plain item did held has.0 (line_spares c plain item.line spares.0) ran.0 in
    let d : Cartridge = changed_by (steps_of did.acts) c in
    let next : Plain = plain_after plain item did in
    let rest = items_stand d next items dids leaves.done has.1
    (next_do d plain next items did.entries dids leaves.entries leaves.words ran.1) spares.1 in
    let same = next_is plain item did items dids leaves.entries in (
      subst (λ (p : Plain). IsHeld (cartridge_behind d dids) p) same rest.0,
      ap (λ (p : Plain). entries_of p) (sym same) ∙ rest.1 ∙ ap (λ (es : List Entry). entries_behind es dids) leaves.entries,
      ap (λ (p : Plain). p.words) (sym same) ∙ rest.2 ∙ leaves.words,
      λ live. rest.3 (leaves.live live),
    )

-- ---- an append whose bytes end early

-- no entry is written
no_entry : (kept : Kept) (name : List ℕ) (date n : ℕ) (reply : Entry → List ℕ) (bytes : List ℕ) (room : Bool) →
    steps_of (entry_acts kept name date reply (cond room (TooShort n (length bytes)) (TooLong n (room_in kept)))) ≡ []
no_entry kept name date n reply bytes true = refl
no_entry kept name date n reply bytes false = refl

pub early_entry : (kept : Kept) (name : List ℕ) (date n : ℕ) (reply : Entry → List ℕ) (bytes : List ℕ) → length bytes < n →
    steps_of (entry_acts kept name date reply (taking (room_in kept) (Some n) bytes)) ≡ []
early_entry kept name date n reply bytes short =
    ap (λ (b : Bool). steps_of (entry_acts kept name date reply
    (cond (has_promised_room (room_in kept) (Some n)) (cond b (TooShort n (length bytes)) (Fits (take n bytes)))
    (TooLong n (room_in kept))))) (lt-ltb (length bytes) n short)
    ∙ no_entry kept name date n reply bytes (has_promised_room (room_in kept) (Some n))

early_stands : (c : Cartridge) (plain : Plain) (name : List ℕ) (n date : ℕ) (bytes : List ℕ) (m : Meeting) (left : Option Cartridge) →
    Stands c plain → Meets c m → length bytes < n →
    Torn (steps_of (acts_on c plain.words (entries_of plain) name n date bytes m)) (Some c) left → IsSomeAnd left (λ d. Stands d plain)
early_stands c plain name n date bytes (Refuses w) left stood meets short torn = some_and (λ d. Stands d plain) c left stood torn
early_stands c plain name n date bytes (Finds table) left stood meets short torn =
    let area : table ≡ plain.table_area = standing_data c plain table stood meets.1 in
    let kept : Kept = kept_over c plain.words (entries_of plain) table in
    let replies : Entry → List ℕ = reply_behind (length (entries_of plain)) in
    let writes : List Act = input_writes kept.words kept.entries (Some n) bytes in
    let entry : List Act = entry_acts kept name date replies (taking (room_in kept) (Some n) bytes) in
    let rear : steps_of (writes ++ entry) ≡ steps_of writes =
    steps_of-append writes entry ∙ ap (λ (ss : List Step). steps_of writes ++ ss) (early_entry kept name date n replies bytes short)
    ∙ append-nil (steps_of writes) in
    let now : Torn (settling_steps table c ++ steps_of writes) (Some c) left =
    subst (λ (ss : List Step). Torn (settling_steps table c ++ ss) (Some c) left) rear torn in
    elim (Torn-append (settling_steps table c) (steps_of writes) (Some c) left now) [
      | inl front ↦ stopped_stands c plain table left stood meets.1 front
      | inr behind ↦ some_weaker left (λ d known. known.0)
          (free_writes_stand (settled table c) plain (steps_of writes) left (settled_stands c plain table stood meets.1)
          (behind_last kept n bytes)
          (subst (λ (o : Option Cartridge). Torn (steps_of writes) o left) (settling_effects c table meets.1) behind))
    ]

pub fault_stands : FaultStands
fault_stands c plain number rest acts left held (inl (below, (early, (m, meets, is)))) torn =
    early_stands c plain early.name early.promised early.date early.bytes m left held.stands meets early.short
    (subst (λ (xs : List Act). Torn (steps_of xs) (Some c) left) is torn)
fault_stands c plain number rest acts left held (inr (none, is)) torn =
    some_and (λ d. Stands d plain) c left held.stands (subst (λ (xs : List Act). Torn (steps_of xs) (Some c) left) is torn)
