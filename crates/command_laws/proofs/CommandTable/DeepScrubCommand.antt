-- The laws of the command `scrub deep`.
use Rattle.std.proofs.Common.{[], ◌≡◌, ◌∷◌, ◌∙◌, Some, ap, refl, ℕ, List, arith, subst, sym}
use Rattle.cartridge_laws.specs.ChangeSteps.{HasNoRenew}
use Rattle.cartridge_laws.proofs.MountWhole.{settled_is_cartridge}
use Rattle.cartridge_spec.specs.Formatting.{HasCleanCopies}
use Rattle.cartridge_spec.specs.Mounting.{settled}
use Rattle.cartridge_spec.specs.Settling.{changed_by}
use Rattle.cartridge_spec.specs.Volumes.{Plain, Stands}
use Rattle.command_laws.proofs.CommandClean.{GoesLeaving, bare_writable, leaves_by, writable_leaves}
use Rattle.command_laws.proofs.CommandComplete.{goes_on, is_opened, status_of, where_some}
use Rattle.command_laws.proofs.CommandPlainLaws.{IsOne, writable_is_function, writable_locked}
use Rattle.command_laws.proofs.CommandSteps.{AreNoRenew, GoesWithNone, by_outcome, none_both, none_in_look, settled_none, writable_none}
use Rattle.command_laws.proofs.CommandTexts.{plain_texts}
use Rattle.command_laws.proofs.CommandTotals.{Answers, writable_answers}
use Rattle.command_laws.proofs.CommandWhole.{some_whole}
use Rattle.command_laws.proofs.DeepScrubKept.{deep_clean, deep_mounts, deep_stands}
use Rattle.command_laws.proofs.ScrubForms.{form_steps, stopped_form_is_cartridge}
use Rattle.command_laws.proofs.ScrubOneWrong.{form_always, form_is_function}
use Rattle.command_laws.proofs.CommandTable.ScrubCommand.{scrub_reading, text_of_none}
use Rattle.command_laws.proofs.CommandUnread.{writable_unread}
use Rattle.command_laws.proofs.TextCommands.{IsRead, named, only, spelled_length, two_words}
use Rattle.command_laws.proofs.WholeSteps.{behind_leave}
use Rattle.command_laws.specs.CommandRecord.{CommandLaws}
use Rattle.command_spec.specs.Command.{HasForm, CanBeMounted, IsUnprotected, ReadsAs}
use Rattle.command_spec.specs.Scrub.{deep_scrub_command, Looked, looked_at, Finding, finding_acts, steps_for, without}
use Rattle.command_spec.specs.Outcome.{CommandOutcome, settling_act}
use Rattle.command_laws.specs.Outcomes.{DeepScrubOutcome, MendsDeep}
use Rattle.command_spec.specs.declared.depth.Depth.TheVariants.{Deep}
use Rattle.qic_base.specs.Acts.{Act, steps_of}
use Rattle.qic_base.specs.Cartridge.{Cartridge}
use Rattle.qic_base.specs.CartridgeTerms.{IsCartridge}
use Rattle.command_spec.specs.declared.status.Status.TheVariants as status
use Rattle.command_spec.specs.declared.words.Words.TheVariants as words

-- its words are read as it
pub deep_scrub_read : (ws : List (List ℕ)) → HasForm ws deep_scrub_command.forms → IsRead scrub_reading ws words.ScrubDeep
deep_scrub_read ws h = let s = two_words ws _ _ (only ws _ h) in record { behind = s.second ∷ []; are = named s.are s.one; is = refl }

-- ---- what it does on a mounted cartridge

deep_answers : Answers MendsDeep
deep_answers c header ws table entries whole mounts =
    let some = form_always Deep (settled table c) ws entries (settled_is_cartridge c table whole mounts.reads) in
    (_, record { acts = some.0; scrubs = some.1; is = refl })

abbrev scrubbed : List (List ℕ) → Cartridge → List Act → CommandOutcome
scrubbed table c acts = record { acts = settling_act table c ∷ acts; taken = 0; status = status.Done }

deep_is_one : IsOne MendsDeep
deep_is_one c header ws table entries a b is was =
    is.is ∙ ap (scrubbed table c) (form_is_function Deep (settled table c) ws entries is.acts was.acts is.scrubs was.scrubs) ∙ sym was.is

deep_whole : GoesLeaving IsCartridge MendsDeep
deep_whole c header ws table entries outcome mounts on whole =
    leaves_by IsCartridge c (steps_of outcome.acts) _ (ap (λ (o : CommandOutcome). steps_of o.acts) on.is)
    (behind_leave c table (steps_of on.acts) whole mounts.reads (λ still left torn.
    stopped_form_is_cartridge Deep (settled table c) ws entries on.acts left still on.scrubs torn))

finds_none : (c : Cartridge) (ls : List Looked) (fs : List Finding) → AreNoRenew (finding_acts c ls fs)
finds_none c [] fs = tt
finds_none c (l ∷ ls) [] = tt
finds_none c (l ∷ ls) (f ∷ fs) =
    let d : Cartridge = changed_by (steps_for c l f) c in
    none_both (steps_for c l f) (steps_of (finding_acts d ls fs)) (none_in_look (without f.wrong l c) l f.saying) (finds_none d ls fs)

deep_none : GoesWithNone MendsDeep
deep_none c header ws table entries outcome on =
    let e : Cartridge = settled table c in
    let looked : List Looked = looked_at ws entries in
    by_outcome outcome _ on.is (settled_none table c on.acts
    (subst HasNoRenew (sym (form_steps Deep e ws entries on.acts on.scrubs)) (finds_none e looked on.scrubs.findings)))

deep_goes : (c : Cartridge) (plain : Plain) (outcome : CommandOutcome) → IsUnprotected c → ReadsAs c plain →
    DeepScrubOutcome (Some c) outcome → outcome.status ≡ status.Done
deep_goes c plain outcome free there does =
    let on = goes_on MendsDeep c plain outcome there (is_opened MendsDeep c outcome free does) in
    let did = on.did in ap status_of did.is

-- ---- the command

pub deep_scrub_laws : CommandLaws deep_scrub_command
deep_scrub_laws = record {
  values = λ words spelled. tt;
  few_words = λ ws h. let l = spelled_length ws _ (only ws _ h) in (omega arith, omega arith);
  answers = λ held input values whole. writable_answers MendsDeep deep_answers held whole;
  one = λ held input a b one other. writable_is_function MendsDeep deep_is_one held a b one other;
  none_held = λ is input outcome plain. plain;
  locked = λ is c input outcome locked plain. writable_locked MendsDeep c outcome locked plain;
  in_front = λ is c segment input outcome free first plain. absurd (cc);
  done = λ held input outcome whole values. where_some (λ c. IsUnprotected c × CanBeMounted c) held
      (λ h. DeepScrubOutcome h outcome → outcome.status ≡ status.Done) (λ c can does. deep_goes c can.1.0 outcome can.0 can.1.1 does);
  texts = plain_texts _ _ (text_of_none Deep);
  blind = λ is. record {
    any = λ held input other outcome plain. plain;
    no_append = refl;
    no_lines = refl;
    no_fault = λ input line place fault. fault;
  };
  stands = λ c plain keeps stood input outcome left does torn.
      writable_leaves (λ d. Stands d plain) MendsDeep (deep_stands plain) c outcome does stood left torn;
  mounts = λ c header ws table entries keeps mounts input outcome left does torn. deep_mounts c header ws table entries outcome keeps mounts
      does left torn;
  clean = λ c area keeps is_area clean input outcome left does torn.
      writable_leaves (λ d. HasCleanCopies d area) MendsDeep (deep_clean area is_area) c outcome does clean left torn;
  bare = λ c keeps bare input outcome left does torn. bare_writable MendsDeep c outcome does bare left torn;
  unread = λ c copies keeps none input outcome left does torn. writable_unread MendsDeep c outcome left none does torn;
  whole = λ c input outcome left values content whole does torn.
      some_whole left (writable_leaves IsCartridge MendsDeep deep_whole c outcome does whole left torn);
  live = λ held input outcome keeps does. writable_none MendsDeep deep_none held outcome does;
}
