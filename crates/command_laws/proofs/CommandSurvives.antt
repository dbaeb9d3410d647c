-- What words that append leave comes back where one sector more of the table's segment is lost.
use Rattle.std.proofs.Common.{◌≤◌, ◌≡◌, ℕ, List, Option, Some, IfSome, refl, ◌∙◌, subst, inl, inr, IsSomeAnd, sym, ap, [], arith, length}
use Rattle.std.proofs.Common.{◌⊎◌, take, drop, false}
use Rattle.cartridge_laws.proofs.FormatWriting.{some_weaker}
use Rattle.cartridge_spec.specs.Appending.{with_bytes}
use Rattle.cartridge_spec.specs.TableSegment.{IsTableLive, LosesOneAlone}
use Rattle.cartridge_spec.specs.Mounting.{settled, ComesBackAs}
use Rattle.cartridge_spec.specs.Settling.{settling_steps}
use Rattle.cartridge_spec.specs.Volumes.{Plain, Stands}
use Rattle.command_laws.proofs.CommandAppends.{can_append}
use Rattle.command_laws.proofs.CommandComesBack.{lines_come_answered, lines_come_back, lines_come_heard, make_comes_back, make_comes_done}
use Rattle.command_laws.proofs.CommandComesBack.{make_comes_printed, none_answered}
use Rattle.command_laws.proofs.CommandEnds.{Laws, told_whole}
use Rattle.command_laws.proofs.CommandOneLoss.{append_comes_back, nothing_torn, done_comes_back}
use Rattle.command_laws.proofs.CommandScripted.{over_any, over_stop}
use Rattle.command_laws.proofs.CommandSeveral.{ends_ran, untouched_now}
use Rattle.command_laws.proofs.CommandTold.{input_told}
use Rattle.command_laws.proofs.CommandVolumes.{whole_of, of_bytes, each_weaker, done_now, now_weaker, Did, carried_out_did}
use Rattle.command_laws.proofs.IntactKeeping.{one_comes}
use Rattle.command_laws.proofs.TextWords.{one_command}
use Rattle.command_spec.specs.Headline.{StopLeaves, WordsLeave, EachLeft, ToldNow}
use Rattle.command_spec.specs.Several.{IsHeard, FirstLinesSpare, OverInput, Scripted}
use Rattle.command_laws.specs.AppendTerms.{content_with}
use Rattle.command_laws.specs.CommandFields.{Yields}
use Rattle.command_spec.specs.Machine.{HasValues, Spells, CommandEnds, is_fault, IsOfBytes}
use Rattle.command_spec.specs.OneLoss.{SurvivesOneLoss, AppendingLeaves, AppendingLeft, SomeComeBack, with_one}
use Rattle.command_spec.specs.OneLoss.{LinesComeBack, ScriptSettling, StoppedComesBack, lines_before, steps_until}
use Rattle.command_spec.specs.Volumes.{IsCarriedOut}
use Rattle.command_spec.specs.declared.status.Status.{Status}
use Rattle.command_spec.specs.declared.words.Words.{Words}
use Rattle.qic_base.specs.Acts.{steps_of, Outside}
use Rattle.qic_base.specs.Cartridge.{Cartridge}
use Rattle.qic_base.specs.CartridgeTerms.{IsCartridge}
use Rattle.qic_base.specs.Step.{effects, Torn}
use Rattle.command_spec.specs.ScriptLists.{CameFurther, GoesNoFurther, ItemsSpare, ItemsSpareTable, printed_by, with_items}
use Rattle.qic_base.specs.Source.{IsInput}
use Rattle.command_spec.specs.Make.{with_made}
use Rattle.qic_base.specs.SourceCalls.{input_of}
use Rattle.command_spec.specs.declared.words.Words.TheVariants as commands
use Rattle.qic_base.specs.Tape as tapes
use Rattle.qic_base.specs.TapeCalls as tape_calls
use Rattle.qic_base.specs.Sink as sinks
use Rattle.qic_base.specs.Source as sources
use Rattle.command_spec.specs.declared.status.Status.TheVariants as status

-- ---- what is left

-- by words of a script over an input
abbrev ScriptComes : List ℕ → List (List ℕ) → Cartridge → Plain → Option Cartridge → Type 0
ScriptComes input words c plain left =
    (script : Scripted input words c plain) → c.info.protected ≡ false → (count : ℕ) → FirstLinesSpare script count →
    (settling : ScriptSettling script count) → ItemsSpareTable (drop (lines_before settling) (take count script.does.items)) →
    CameFurther (settled plain.table_area c) script.does.items script.does.dids script.does.last count left
    ⊎ LinesComeBack script (lines_before settling) count settling left

-- what stood
untouched : (told : Option (List ℕ)) (words : List (List ℕ)) (c : Cartridge) (plain : Plain) (left : Option Cartridge) → left ≡ Some c →
    AppendingLeaves told words c plain left
untouched told words c plain left is =
    let here : Torn (settling_steps plain.table_area c) (Some c) left = nothing_torn c (settling_steps plain.table_area c) left is in
    record {
      append = λ name date spells bytes. (input_of told, input_told told, inl (refl, here));
      make = λ seed count spells. inl (refl, here);
      script = over_any told (λ input. ScriptComes input words c plain left) (λ script free count spares settling table.
          inr (inl (refl, nothing_torn c (steps_until (settling_steps plain.table_area c) settling) left is)));
    }

-- what a stop in a command leaves
left_by : (told : Option (List ℕ)) (words : List (List ℕ)) (command : Words) (c : Cartridge) (plain : Plain) (left : Option Cartridge) →
    ((other : Words) → Spells words other → HasValues other) →
    IsCartridge c → Spells words command → StopLeaves told command (Some c) left → Stands c plain → IsTableLive c →
    AppendingLeaves told words c plain left
left_by told words command c plain left values whole spelled leaves stood live = record {
  append = λ name date spells bytes.
      let other : Words = commands.Append name date in
      let known : HasValues other = values other spells in
      let l : StopLeaves told other (Some c) left = as_other other spells in (
        l.input,
        l.is_told,
        elim (append_comes_back (content_with name date l.input) c plain l.outcome left
            (can_append known (of_bytes told l.input bytes l.is_told (l.bytes refl))) whole stood live l.plain l.torn) [
              | inl settling ↦ inl (refl, settling)
              | inr back ↦ inr (record {
                one = 0;
                other = 1;
                from = omega arith;
                next = (omega arith, omega arith);
                within = omega arith;
                comes = back;
              })
            ],
      );
  make = λ seed count spells.
      let other : Words = commands.Make seed count in
      let l : StopLeaves told other (Some c) left = as_other other spells in
      make_comes_back seed count (values other spells) c plain whole stood live l.outcome left l.plain l.torn;
  script = over_stop told words command (Some c) left (λ input. ScriptComes input words c plain left) spelled leaves
      (λ l script free count spares settling table. lines_come_back l.input words c plain whole script live free l.outcome l.plain left
      count spares settling table l.torn)
      (λ other script. absurd (other script.spelled));
} where
  as_other : (other : Words) → Spells words other → StopLeaves told other (Some c) left
  as_other other spells = subst (λ (w : Words). StopLeaves told w (Some c) left) (one_command words command other spelled spells) leaves

pub stopped_comes_back : (told : Option (List ℕ)) (words : List (List ℕ)) (held left : Option Cartridge) →
    ((command : Words) → Spells words command → HasValues command) →
    IfSome held IsCartridge → WordsLeave told words held left → StoppedComesBack told words held left
stopped_comes_back told words held left values whole (inl same) c plain is stood live = untouched told words c plain left (same ∙ is)
stopped_comes_back told words held left values whole (inr (command, spelled, leaves)) c plain is stood live =
    left_by told words command c plain left values (whole_of held c whole is) spelled
    (subst (λ (h : Option Cartridge). StopLeaves told command h left) is leaves) stood live

all_come_back : {T : Type 0} (t : tapes.Meaning T) (told : Option (List ℕ)) (words : List (List ℕ)) (a b : T) →
    tape_calls.IsToldRight (t.told a) (t.size a) →
    ((command : Words) → Spells words command → HasValues command) → EachLeft t a b (WordsLeave told words) →
    EachLeft t a b (StoppedComesBack told words)
all_come_back t told words a b right values leaves = each_weaker t a b right
    (λ held left whole is. stopped_comes_back told words held left values whole is) leaves

-- ---- when a run is over

-- by words of a script over an input, and what was printed; and once it was carried out
abbrev AnswersScript : {T K : Type 0} (t : tapes.Meaning T) (k : sinks.Meaning K) (words : List (List ℕ)) (new : T) (text : List ℕ) →
    Cartridge → Plain → List ℕ → Type 0
AnswersScript t k words new text c plain input =
    (script : Scripted input words c plain) → c.info.protected ≡ false → (answered count : ℕ) → answered ≤ length script.does.items →
    printed_by script.does.dids answered ≤ length text → GoesNoFurther script.does.items script.does.dids count (length text) →
    FirstLinesSpare script count → (settling : ScriptSettling script count) → lines_before settling ≤ answered →
    ItemsSpareTable (drop (lines_before settling) (take count script.does.items)) →
    ToldNow t new (LinesComeBack script answered count settling)

abbrev HeardScript : {T : Type 0} (t : tapes.Meaning T) (words : List (List ℕ)) (new : T) → Status → Cartridge → Plain → List ℕ → Type 0
HeardScript t words new answer c plain input =
    (script : Scripted input words c plain) → c.info.protected ≡ false → IsHeard answer →
    ItemsSpare (settled plain.table_area c) plain script.does.items script.does.dids →
    (settling : ScriptSettling script (length script.does.items)) → ItemsSpareTable (drop (lines_before settling) script.does.items) →
    ToldNow t new (SomeComeBack (with_items plain script.does.items script.does.dids) (length script.does.items) (length script.does.items))

-- the input of a script; of other words nothing is asked
over_command : (told : Option (List ℕ)) (words : List (List ℕ)) (command : Words) (input : List ℕ) (P : List ℕ → Type 0) →
    Spells words command → IsInput told input →
    IsOfBytes command told input → P input → ((Spells words commands.Script → ⊥) → P (input_of told)) → OverInput told P
over_command told words commands.Script input P spelled is_told bytes asked other = (input, is_told, bytes refl, asked)
over_command told words command input P spelled is_told bytes asked other =
    over_any told P (other (λ script. let same : command ≡ commands.Script = one_command words command commands.Script spelled script in
    cc))

module _ {T S K : Type 0} (t : tapes.Meaning T) (s : sources.Meaning S) (k : sinks.Meaning K) (words : List (List ℕ)) (command : Words)
    (old new : Outside T S K) (answer : Status)
    (laws : Laws t s k old new) (spelled : Spells words command) (values : HasValues command)
    (all : (other : Words) → Spells words other → HasValues other)
    (ends : CommandEnds t s k command old new answer) where
  abbrev ScriptAnswers : (text : List ℕ) → Cartridge → Plain → List ℕ → Type 0
  ScriptAnswers text c plain input = AnswersScript t k words new.tape text c plain input

  abbrev ScriptHeard : Cartridge → Plain → List ℕ → Type 0
  ScriptHeard c plain input = HeardScript t words new.tape answer c plain input

  appending_left : (c : Cartridge) (plain : Plain) → t.told old.tape ≡ Some (Some c) → Stands c plain → IsTableLive c →
      AppendingLeft t k (s.left old.source) words c plain new.tape old.sink new.sink answer
  appending_left c plain told stood live =
      let whole : IsCartridge c = told_whole (Some c) (t.told old.tape) (t.size old.tape) laws.right told in
      let ran = ends_ran t s k command old new answer laws values ends c told in
      let as_other : (other : Words) → Spells words other → Yields other (Some c) ran.input ran.outcome =
      λ other spells. subst (λ (w : Words). Yields w (Some c) ran.input ran.outcome)
      (one_command words command other spelled spells) ran.plain in
      record {
        text = ran.was.text;
        took = ran.was.took;
        append = λ name date spells bytes which.
            let other : Words = commands.Append name date in
            let known : HasValues other = all other spells in
            let d : Did t (s.left old.source) other old.tape new.tape (Some c) status.Done =
            carried_out_did t s k other old new answer (Some c) whole known refl told which
            (subst (λ (w : Words). CommandEnds t s k w old new answer) (one_command words command other spelled spells) ends) in
            let back : IsSomeAnd (effects (steps_of d.outcome.acts) (Some c))
            (λ e. (f : Cartridge) (lost : ℕ) → LosesOneAlone e f lost → ComesBackAs f (with_bytes plain name date d.input)) =
            done_comes_back (content_with name date d.input) c plain d.outcome
            (can_append known (of_bytes (s.left old.source) d.input bytes d.is_told (d.bytes refl))) whole stood live d.plain d.sound in (
              d.input,
              d.is_told,
              now_weaker t old.tape new.tape
                  (λ left is. subst (SomeComeBack (with_one plain name date d.input) 1 1) (sym is)
                  (one_comes (with_one plain name date d.input) 1 (effects (steps_of d.outcome.acts) (Some c))
                  (some_weaker (effects (steps_of d.outcome.acts) (Some c)) (λ e comes f lost loses. inl (comes f lost loses)) back)))
                  (done_now t old.tape new.tape (steps_of d.outcome.acts) (Some c) d.did told),
            );
        make = λ seed count spells which.
            let few : count ≤ 200 = all (commands.Make seed count) spells in
            let does = as_other (commands.Make seed count) spells in
            elim which [
              | inl some ↦ now_weaker t old.tape new.tape
                  (λ left is. make_comes_printed seed count few c plain whole stood live ran.outcome ran.was.text left does
                  (inl (some, is))) ran.was.each
              | inr (inl is_done) ↦
                  let went = ran.sound (ap is_fault is_done) in
                  now_weaker t old.tape new.tape
                  (λ left is. subst (SomeComeBack (with_made plain seed) count count) (sym is)
                  (make_comes_done seed count few c plain whole stood live ran.outcome does (went.0 ∙ is_done)))
                  (done_now t old.tape new.tape (steps_of ran.outcome.acts) (Some c) went.1 told)
              | inr (inr sink) ↦
                  let broken = ran.broke sink in
                  now_weaker t old.tape new.tape
                  (λ left is. make_comes_printed seed count few c plain whole stood live ran.outcome broken.text left does (inr is))
                  broken.each
            ];
        script = over_command (s.left old.source) words command ran.input (ScriptAnswers ran.was.text c plain) spelled ran.is_told ran.bytes
            (λ script free answered count known written further spares settling behind table.
            now_weaker t old.tape new.tape
            (λ left is. lines_come_answered ran.input words c plain whole script live free ran.outcome
            (as_other commands.Script script.spelled) ran.was.text left
            answered count known written further spares settling behind table is) ran.was.each)
            (λ other script. absurd (other script.spelled));
        heard = over_command (s.left old.source) words command ran.input (ScriptHeard c plain) spelled ran.is_told ran.bytes
            (λ script free which spares settling table.
            let went = ran.heard which in
            now_weaker t old.tape new.tape
            (λ left is. subst (SomeComeBack (with_items plain script.does.items script.does.dids) (length script.does.items)
            (length script.does.items)) (sym is)
            (lines_come_heard ran.input words c plain whole script live free ran.outcome (as_other commands.Script script.spelled)
            (subst IsHeard (sym went.0) which) spares settling table))
            (done_now t old.tape new.tape (steps_of ran.outcome.acts) (Some c) went.1 told))
            (λ other script. absurd (other script.spelled));
      }

  pub survives_one_loss : EachLeft t old.tape new.tape (WordsLeave (s.left old.source) words) →
      SurvivesOneLoss t k (s.left old.source) words old.tape new.tape old.sink new.sink answer
  survives_one_loss leaves = record {
    stopped = all_come_back t (s.left old.source) words old.tape new.tape laws.right all leaves;
    over = appending_left;
  }

-- words of no command leave all as it was, and want of memory
pub none_survives : {T K : Type 0} (t : tapes.Meaning T) (k : sinks.Meaning K) (told : Option (List ℕ)) (words : List (List ℕ)) (a : T)
    (x : K) (answer : Status) →
    tape_calls.IsToldRight (t.told a) (t.size a) → k.took x [] x → (IsCarriedOut answer → ⊥) → (IsHeard answer → ⊥) →
    ((command : Words) → Spells words command → HasValues command) → EachLeft t a a (WordsLeave told words) →
    SurvivesOneLoss t k told words a a x x answer
none_survives t k told words a x answer right nothing never unheard values leaves = record {
  stopped = all_come_back t told words a a right values leaves;
  over = λ c plain is stood live. record {
    text = [];
    took = nothing;
    append = λ name date spells bytes which. absurd (never which);
    make = λ seed count spells which. elim which [ inl some ↦ absurd (some refl) | inr carried ↦ absurd (never carried) ];
    script = over_any told (AnswersScript t k words a [] c plain)
        (λ script free answered count known written further spares settling behind table.
        untouched_now t a c (LinesComeBack script answered count settling) is
        (inl (
          (let none : answered ≡ 0 =
              none_answered (settled plain.table_area c) plain (input_of told) script.outcome script.does answered [] known written refl in
              omega arith),
          nothing_torn c (steps_until (settling_steps plain.table_area c) settling) (Some c) refl,
        )));
    heard = over_any told (HeardScript t words a answer c plain) (λ script free which spares settling table. absurd (unheard which));
  };
}
