-- A run over a cartridge that mounts, and the same over the settled one.
use Rattle.std.proofs.Common.{◌≡◌, ◌∙◌, ◌⊎◌, ◌++◌, ℕ, List, [], ◌∷◌, Bool, true, false, Option, Some, None, inl, inr, ap, sym, subst, refl}
use Rattle.std.proofs.Common.{if◌then◌else◌, drop, length, ◌≢◌}
use Rattle.cartridge_laws.proofs.MountOnce.{mounts_is_function}
use Rattle.cartridge_laws.proofs.MountSettled.{settled_keeps_table, settled_mounts, settled_needs_no_steps, settled_twice}
use Rattle.cartridge_laws.proofs.MountWhole.{settling_effects}
use Rattle.cartridge_spec.specs.Header.{Header}
use Rattle.cartridge_spec.specs.Mounting.{Mounted, Mounting, Mounts, settled}
use Rattle.cartridge_spec.specs.Says.{whole_mask, with_parity}
use Rattle.cartridge_spec.specs.Settling.{changed_by, settling_steps, writes_of}
use Rattle.cartridge_spec.specs.Shape.{usable_places}
use Rattle.cartridge_spec.specs.Table.{Entry}
use Rattle.cartridge_spec.specs.TableSegment.{IsTableLive, TableIs}
use Rattle.command_laws.specs.ActStops.{Behind, IsLeftBy}
use Rattle.command_laws.specs.CommandFields.{Yields}
use Rattle.command_laws.specs.Life.{Answered, Ended, Leaves, Stopped}
use Rattle.command_laws.specs.Outcomes.{Appends, Printing}
use Rattle.command_laws.specs.SettledRuns.{IsOverSettled, OutcomesOverSettled, RunsOverSettled, StopsInSettling}
use Rattle.command_spec.specs.Append.{append_acts, appended, kept_over}
use Rattle.command_spec.specs.Lines.{info_text, list_text, reply_behind}
use Rattle.command_spec.specs.Make.{Making, Runs, making}
use Rattle.command_spec.specs.Outcome.{CommandOutcome, Going, OpenOutcome, Opened, Shows, WritableOutcome, acted}
use Rattle.command_spec.specs.Outcome.{refused_behind, settling_act}
use Rattle.command_spec.specs.Restore.{Gives, Restores, ending_status, pieces}
use Rattle.command_spec.specs.Script.{ScriptDoes, Scripting}
use Rattle.command_spec.specs.Scrub.{ScrubsAs, ScrubsBy}
use Rattle.command_spec.specs.declared.depth.Depth.{Depth}
use Rattle.command_spec.specs.declared.status.Status.{Status}
use Rattle.command_spec.specs.declared.words.Words.{Words}
use Rattle.qic_base.proofs.Steps.{Torn-append, effects-append}
use Rattle.qic_base.specs.Acts.{Act, next_steps, steps_of, text_of}
use Rattle.qic_base.specs.Cartridge.{Cartridge}
use Rattle.qic_base.specs.Step.{Step, Torn, effects}
use Rattle.qic_base.specs.declared.tape.TapeInfo.{TapeInfo}
use Rattle.command_spec.specs.declared.depth.Depth.TheVariants as depth
use Rattle.command_spec.specs.declared.status.Status.TheVariants as status
use Rattle.command_spec.specs.declared.words.Words.TheVariants as commands

-- ---- two outcomes

-- one begins with the settling, and the other is the same without it
record Begins (c : Cartridge) (table : List (List ℕ)) (outcome over : CommandOutcome) : Type 0 where
  text : List ℕ
  rest : List Act
  is : outcome.acts ≡ record { steps = settling_steps table c; text = text } ∷ rest
  over_is : over.acts ≡ record { steps = []; text = text } ∷ rest
  status : over.status ≡ outcome.status
  taken : over.taken ≡ outcome.taken

-- what goes on so over the settled cartridge, as often as it is settled
record GoesOver (goes : Going) (c : Cartridge) (header : Header) (words : List ℕ) (table : List (List ℕ)) (entries : List Entry)
    (outcome : CommandOutcome) : Type 0 where
  over : CommandOutcome
  goes_on : goes (settled table c) header words table entries over
  begins : Begins c table outcome over

abbrev GoesAlike : Going → Type 0
GoesAlike goes =
    (c : Cartridge) (header : Header) (words : List ℕ) (table : List (List ℕ)) (entries : List Entry) (outcome : CommandOutcome) →
    settled table (settled table c) ≡ settled table c → settling_steps table (settled table c) ≡ [] →
    goes c header words table entries outcome → GoesOver goes c header words table entries outcome

-- ---- what is done once the cartridge is open

shows_alike : (prints : Printing) → GoesAlike (Shows prints)
shows_alike prints c header words table entries outcome twice none is = record {
  over = acted (settling_steps table (settled table c)) (prints header words entries);
  goes_on = refl;
  begins = record {
    text = prints header words entries;
    rest = [];
    is = ap (λ (o : CommandOutcome). o.acts) is;
    over_is = ap (λ (ss : List Step). record { steps = ss; text = prints header words entries } ∷ []) none;
    status = ap (λ (o : CommandOutcome). o.status) (sym is);
    taken = ap (λ (o : CommandOutcome). o.taken) (sym is);
  };
}

-- the settling, and then these acts
settled_then : (c : Cartridge) (table : List (List ℕ)) (acts : List Act) (taken : ℕ) (answer : Status) (outcome : CommandOutcome) →
    settling_steps table (settled table c) ≡ [] →
    outcome ≡ record { acts = settling_act table c ∷ acts; taken = taken; status = answer } →
    Begins c table outcome (record { acts = settling_act table (settled table c) ∷ acts; taken = taken; status = answer })
settled_then c table acts taken answer outcome none is = record {
  text = [];
  rest = acts;
  is = ap (λ (o : CommandOutcome). o.acts) is;
  over_is = ap (λ (ss : List Step). record { steps = ss; text = [] } ∷ acts) none;
  status = ap (λ (o : CommandOutcome). o.status) (sym is);
  taken = ap (λ (o : CommandOutcome). o.taken) (sym is);
}

appends_alike : (name : List ℕ) (date : ℕ) (input : List ℕ) → GoesAlike (Appends name date input)
appends_alike name date input c header words table entries outcome twice none is =
    let once : CommandOutcome = appended name date input c words table entries in record {
      over = appended name date input (settled table c) words table entries;
      goes_on = refl;
      begins = subst
          (λ (d : Cartridge). Begins c table outcome (record {
            acts = settling_act table (settled table c) ∷ append_acts (kept_over d words entries table) name date None
                (reply_behind (length entries)) input;
            taken = once.taken;
            status = once.status;
          }))
          (sym twice) (settled_then c table (drop 1 once.acts) once.taken once.status outcome none is);
    }

gives_alike : (number : ℕ) → GoesAlike (Gives number)
gives_alike number c header words table entries outcome twice none (inl (missing, is)) = record {
  over = refused_behind (settling_steps table (settled table c)) (status.NoVolume number (length entries));
  goes_on = inl (missing, refl);
  begins = record {
    text = [];
    rest = [];
    is = ap (λ (o : CommandOutcome). o.acts) is;
    over_is = ap (λ (ss : List Step). record { steps = ss; text = [] } ∷ []) none;
    status = ap (λ (o : CommandOutcome). o.status) (sym is);
    taken = ap (λ (o : CommandOutcome). o.taken) (sym is);
  };
}
gives_alike number c header words table entries outcome twice none (inr gives) = record {
  over = record {
    acts = settling_act table (settled table c) ∷ gives.acts;
    taken = 0;
    status = ending_status gives.ending;
  };
  goes_on = inr (record {
    entry = gives.entry;
    numbered = gives.numbered;
    acts = gives.acts;
    ending = gives.ending;
    restores = subst (λ (d : Cartridge). Restores d words (pieces words gives.entry) gives.acts gives.ending) (sym twice) gives.restores;
    is = refl;
  });
  begins = settled_then c table gives.acts 0 (ending_status gives.ending) outcome none gives.is;
}

scrubs_alike : (form : Depth) → GoesAlike (ScrubsBy form)
scrubs_alike form c header words table entries outcome twice none scrubs = record {
  over = record { acts = settling_act table (settled table c) ∷ scrubs.acts; taken = 0; status = status.Done };
  goes_on = record {
    acts = scrubs.acts;
    scrubs = subst (λ (d : Cartridge). ScrubsAs form d words entries scrubs.acts) (sym twice) scrubs.scrubs;
    is = refl;
  };
  begins = settled_then c table scrubs.acts 0 status.Done outcome none scrubs.is;
}

makes_alike : (seed count : ℕ) → GoesAlike (Making seed count)
makes_alike seed count c header words table entries outcome twice none makes = record {
  over = record { acts = settling_act table (settled table c) ∷ makes.acts; taken = 0; status = makes.answer };
  goes_on = record {
    acts = makes.acts;
    answer = makes.answer;
    makes = subst (λ (d : Cartridge). Runs seed d words entries (making seed count words entries) makes.acts makes.answer) (sym twice)
        makes.makes;
    is = refl;
  };
  begins = settled_then c table makes.acts 0 makes.answer outcome none makes.is;
}

scripts_alike : (input : List ℕ) → GoesAlike (Scripting input)
scripts_alike input c header words table entries outcome twice none script = record {
  over = record script.came { acts = settling_act table (settled table c) ∷ script.came.acts };
  goes_on = record {
    came = script.came;
    does = subst (λ (d : Cartridge). ScriptDoes d words entries input script.came) (sym twice) script.does;
    is = refl;
  };
  begins = settled_then c table script.came.acts script.came.taken script.came.status outcome none script.is;
}

-- ---- what holds of two such outcomes

module _ (command : Words) (c : Cartridge) (table : List (List ℕ)) (input : List ℕ) (outcome : CommandOutcome) where
  abbrev s : Cartridge
  s = settled table c

  abbrev Settling : Option Cartridge → Type 0
  Settling left = Torn (settling_steps table c) (Some c) left

  -- the settled one is the same
  same_over : s ≡ c → Yields command (Some c) input outcome → IsOverSettled command c table input outcome
  same_over same yields = record {
    over = outcome;
    plain = subst (λ (d : Cartridge). Yields command (Some d) input outcome) (sym same) yields;
    status = refl;
    taken = refl;
    output = refl;
    all = ap (λ (d : Cartridge). effects (steps_of outcome.acts) (Some d)) same;
    stopped = λ left torn. inr (subst (λ (d : Cartridge). Torn (steps_of outcome.acts) (Some d) left) (sym same) torn);
    cut = λ printed left at. inr (subst (λ (d : Cartridge). IsLeftBy d outcome.acts printed left) (sym same) at);
  }

  module _ (over : CommandOutcome) (reads : TableIs c table) (begins : Begins c table outcome over) where
    abbrev first : Act
    first = record { steps = settling_steps table c; text = begins.text }

    abbrev first_over : Act
    first_over = record { steps = []; text = begins.text }

    -- behind the settling
    behind : (rest : List Act) → effects (steps_of (first ∷ rest)) (Some c) ≡ effects (steps_of rest) (Some s)
    behind rest =
        effects-append (settling_steps table c) (steps_of rest) (Some c)
        ∙ ap (λ (o : Option Cartridge). effects (steps_of rest) o) (settling_effects c table reads)

    stop_over : (left : Option Cartridge) → Torn (steps_of outcome.acts) (Some c) left →
        Settling left ⊎ Torn (steps_of over.acts) (Some s) left
    stop_over left torn =
        elim (Torn-append (settling_steps table c) (steps_of begins.rest) (Some c) left
        (subst (λ (acts : List Act). Torn (steps_of acts) (Some c) left) begins.is torn)) [
          | inl front ↦ inl front
          | inr later ↦
              inr (subst (λ (acts : List Act). Torn (steps_of acts) (Some s) left) (sym begins.over_is)
              (subst (λ (o : Option Cartridge). Torn (steps_of begins.rest) o left) (settling_effects c table reads) later))
        ]

    between_over : (printed : List ℕ) (left : Option Cartridge) (front rest : List Act) → front ++ rest ≡ first ∷ begins.rest →
        Torn (next_steps rest) (effects (steps_of front) (Some c)) left → printed ≡ text_of front →
        ((printed ≡ []) × Settling left) ⊎ IsLeftBy s over.acts printed left
    between_over printed left [] rest parts torn is =
        inl (is, subst (λ (acts : List Act). Torn (next_steps acts) (Some c) left) parts torn)
    between_over printed left (act ∷ front) rest parts torn is =
        let same : act ≡ first = cc in
        let parts_behind : front ++ rest ≡ begins.rest = cc in
        inr (inl (record {
          front = first_over ∷ front;
          rest = rest;
          parts = ap (λ (acts : List Act). first_over ∷ acts) parts_behind ∙ sym begins.over_is;
          torn = subst (λ (o : Option Cartridge). Torn (next_steps rest) o left)
              (ap (λ (a : Act). effects (steps_of (a ∷ front)) (Some c)) same ∙ behind front) torn;
          is_text = is ∙ ap (λ (a : Act). text_of (a ∷ front)) same;
        }))

    behind_over : (printed : List ℕ) (left : Option Cartridge) (front : List Act) (act : Act) (rest : List Act) (some more : List ℕ) →
        front ++ act ∷ rest ≡ first ∷ begins.rest → left ≡ effects (steps_of front ++ act.steps) (Some c) → some ++ more ≡ act.text →
        more ≢ [] → printed ≡ text_of front ++ some → Behind s over.acts printed left
    behind_over printed left [] act rest some more parts is written lacks text =
        let same : act ≡ first = cc in
        let parts_behind : rest ≡ begins.rest = cc in record {
          front = [];
          act = first_over;
          rest = begins.rest;
          parts = sym begins.over_is;
          is = is ∙ ap (λ (a : Act). effects a.steps (Some c)) same ∙ settling_effects c table reads;
          some = some;
          more = more;
          written = written ∙ ap (λ (a : Act). a.text) same;
          lacks = lacks;
          is_text = text;
        }
    behind_over printed left (one ∷ front) act rest some more parts is written lacks text =
        let same : one ≡ first = cc in
        let parts_behind : front ++ act ∷ rest ≡ begins.rest = cc in record {
          front = first_over ∷ front;
          act = act;
          rest = rest;
          parts = ap (λ (acts : List Act). first_over ∷ acts) parts_behind ∙ sym begins.over_is;
          is = is ∙ ap (λ (a : Act). effects (steps_of (a ∷ front) ++ act.steps) (Some c)) same
              ∙ effects-append (steps_of (first ∷ front)) act.steps (Some c)
              ∙ ap (λ (o : Option Cartridge). effects act.steps o) (behind front)
              ∙ sym (effects-append (steps_of front) act.steps (Some s));
          some = some;
          more = more;
          written = written;
          lacks = lacks;
          is_text = text ∙ ap (λ (a : Act). text_of (a ∷ front) ++ some) same;
        }

    cut_over : (printed : List ℕ) (left : Option Cartridge) → IsLeftBy c outcome.acts printed left →
        ((printed ≡ []) × Settling left) ⊎ IsLeftBy s over.acts printed left
    cut_over printed left (inl at) = between_over printed left at.front at.rest (at.parts ∙ begins.is) at.torn at.is_text
    cut_over printed left (inr at) =
        inr (inr (behind_over printed left at.front at.act at.rest at.some at.more
        (at.parts ∙ begins.is) at.is at.written at.lacks at.is_text))

    begins_over : Yields command (Some s) input over → IsOverSettled command c table input outcome
    begins_over yields = record {
      over = over;
      plain = yields;
      status = begins.status;
      taken = begins.taken;
      output = ap text_of begins.over_is ∙ sym (ap text_of begins.is);
      all = ap (λ (acts : List Act). effects (steps_of acts) (Some s)) begins.over_is
          ∙ sym (behind begins.rest) ∙ sym (ap (λ (acts : List Act). effects (steps_of acts) (Some c)) begins.is);
      stopped = stop_over;
      cut = cut_over;
    }

-- ---- a command

-- the outcome of what goes on so, over the settled cartridge
record OpensOver (goes : Going) (c : Cartridge) (table : List (List ℕ)) (outcome : CommandOutcome) : Type 0 where
  over : CommandOutcome
  opened : OpenOutcome goes (Some (settled table c)) over
  begins : Begins c table outcome over

module _ (c : Cartridge) (header : Header) (words : List ℕ) (table : List (List ℕ)) (entries : List Entry) (live : IsTableLive c)
    (mounted : Mounts c (Mounted header words table entries)) where
  opens_over : (goes : Going) → GoesAlike goes → (outcome : CommandOutcome) → OpenOutcome goes (Some c) outcome →
      OpensOver goes c table outcome
  opens_over goes alike outcome (m, mounts, opened) =
      let on = alike c header words table entries outcome (settled_twice c table mounted.reads)
      (settled_needs_no_steps c table mounted.reads live)
      (subst (λ (k : Mounting). Opened goes c k outcome) (mounts_is_function c m
      (Mounted header words table entries) mounts mounted) opened)
      in record {
        over = on.over;
        opened = (Mounted header words table entries, settled_mounts c header words table entries mounted, on.goes_on);
        begins = on.begins;
      }

  -- a protected one is as it is settled
  locked_same : c.info.protected ≡ true → settled table c ≡ c
  locked_same locked =
      ap (λ (b : Bool). if b then c else changed_by (writes_of 2 (usable_places whole_mask) (with_parity table)) c) locked

  module _ (command : Words) (input : List ℕ) (outcome : CommandOutcome) (yields : Yields command (Some c) input outcome) where
    open_over : (goes : Going) → GoesAlike goes → ((d : Cartridge) (o : CommandOutcome) → OpenOutcome goes (Some d) o →
        Yields command (Some d) input o) → OpenOutcome goes (Some c) outcome → IsOverSettled command c table input outcome
    open_over goes alike back is =
        let on = opens_over goes alike outcome is in
        begins_over command c table input outcome on.over mounted.reads on.begins (back (settled table c) on.over on.opened)

    writable_over : (goes : Going) → GoesAlike goes → ((d : Cartridge) (o : CommandOutcome) → WritableOutcome goes (Some d) o →
        Yields command (Some d) input o) → WritableOutcome goes (Some c) outcome → IsOverSettled command c table input outcome
    writable_over goes alike back (inl (locked, is)) = same_over command c table input outcome (locked_same locked) yields
    writable_over goes alike back (inr (free, is)) =
        let on = opens_over goes alike outcome is in
        let still : (settled table c).info.protected ≡ false =
        ap (λ (i : TapeInfo). i.protected) (settled_keeps_table c table mounted.reads).info ∙ free in
        begins_over command c table input outcome on.over mounted.reads on.begins
        (back (settled table c) on.over (inr (still, on.opened)))

pub outcomes_over_settled : OutcomesOverSettled
outcomes_over_settled commands.Info c header words table entries input outcome settles live mounted yields =
    open_over c header words table entries live mounted commands.Info input outcome yields
    (Shows (λ header words entries. info_text header words (length entries)))
    (shows_alike (λ header words entries. info_text header words (length entries))) (λ d o is. is) yields
outcomes_over_settled commands.List c header words table entries input outcome settles live mounted yields =
    open_over c header words table entries live mounted commands.List input outcome yields
    (Shows (λ header words entries. list_text words entries)) (shows_alike (λ header words entries. list_text words entries))
    (λ d o is. is) yields
outcomes_over_settled (commands.Append name date) c header words table entries input outcome settles live mounted yields =
    writable_over c header words table entries live mounted (commands.Append name date) input outcome yields (Appends name date input)
    (appends_alike name date input) (λ d o is. is) yields
outcomes_over_settled (commands.Restore number) c header words table entries input outcome settles live mounted yields =
    open_over c header words table entries live mounted (commands.Restore number) input outcome yields (Gives number) (gives_alike number)
    (λ d o is. is) yields
outcomes_over_settled commands.Scrub c header words table entries input outcome settles live mounted yields =
    writable_over c header words table entries live mounted commands.Scrub input outcome yields (ScrubsBy depth.Shallow)
    (scrubs_alike depth.Shallow) (λ d o is. is) yields
outcomes_over_settled commands.ScrubDeep c header words table entries input outcome settles live mounted yields =
    writable_over c header words table entries live mounted commands.ScrubDeep input outcome yields (ScrubsBy depth.Deep)
    (scrubs_alike depth.Deep) (λ d o is. is) yields
outcomes_over_settled commands.Script c header words table entries input outcome settles live mounted yields =
    open_over c header words table entries live mounted commands.Script input outcome yields (Scripting input) (scripts_alike input)
    (λ d o is. is) yields
outcomes_over_settled (commands.Make seed count) c header words table entries input outcome settles live mounted yields =
    writable_over c header words table entries live mounted (commands.Make seed count) input outcome yields (Making seed count)
    (makes_alike seed count) (λ d o is. is) yields
outcomes_over_settled (commands.New segments) c header words table entries input outcome settles live mounted yields = absurd settles
outcomes_over_settled (commands.Defect segment sector) c header words table entries input outcome settles live mounted yields =
    absurd settles
outcomes_over_settled (commands.Lose segment sector) c header words table entries input outcome settles live mounted yields =
    absurd settles
outcomes_over_settled (commands.Protect on) c header words table entries input outcome settles live mounted yields = absurd settles
outcomes_over_settled (commands.Format label date) c header words table entries input outcome settles live mounted yields = absurd settles
outcomes_over_settled commands.Room c header words table entries input outcome settles live mounted yields = absurd settles
outcomes_over_settled commands.Check c header words table entries input outcome settles live mounted yields = absurd settles
outcomes_over_settled commands.Pulses c header words table entries input outcome settles live mounted yields = absurd settles
outcomes_over_settled commands.Upgrade c header words table entries input outcome settles live mounted yields = absurd settles

-- ---- a run

leaves_over : (ended : Ended) (command : Words) (c : Cartridge) (table : List (List ℕ)) (input : List ℕ) (outcome : CommandOutcome)
    (left : Option Cartridge) (over : IsOverSettled command c table input outcome) → Leaves ended outcome (Some c) left →
    StopsInSettling ended c table left ⊎ Leaves ended over.over (Some (settled table c)) left
leaves_over (Answered answer printed) command c table input outcome left over (answered, output, is) =
    inr (over.status ∙ answered, over.output ∙ output, is ∙ sym over.all)
leaves_over (Stopped (Some printed)) command c table input outcome left over at = over.cut printed left at
leaves_over (Stopped None) command c table input outcome left over torn = over.stopped left torn

pub runs_over_settled : RunsOverSettled
runs_over_settled run c header words table entries left settles live mounted ran =
    let over = outcomes_over_settled run.command c header words table entries run.input ran.outcome settles live mounted ran.plain in
    elim (leaves_over run.ended run.command c table run.input ran.outcome left over ran.leaves) [
      | inl settling ↦ inl settling
      | inr leaves ↦ inr (record { values = ran.values; outcome = over.over; plain = over.plain; leaves = leaves })
    ]
