-- Scrubbing without a search for wrong sectors is that of what each segment says.
use Rattle.std.proofs.Common.{◌≡◌, ℕ, List, [], ◌∷◌, ◌++◌, refl, length, sym, ◌∙◌, ap, map, Option, Some, None}
use Rattle.cartridge_spec.specs.Says.{Saying}
use Rattle.cartridge_spec.specs.Settling.{changed_by}
use Rattle.cartridge_spec.specs.Table.{Entry}
use Rattle.command_laws.specs.DeepScrubLaws.{ShallowIsScrub}
use Rattle.command_laws.specs.ScrubPlain.{SayInTurn, Scrubs, looking_acts}
use Rattle.command_laws.specs.ScrubTerms.{acts_for, counts_for, last_act, look_act, scrub_acts}
use Rattle.command_spec.specs.Scrub.{Finding, FindInTurn, HasFound, Looked, ScrubsAs, finding_acts, looked_at, sayings_of, steps_for}
use Rattle.command_spec.specs.Scrub.{steps_in, unread_count}
use Rattle.command_spec.specs.declared.depth.Depth.TheVariants.{Shallow}
use Rattle.qic_base.specs.Acts.{Act, steps_of}
use Rattle.qic_base.specs.Cartridge.{Cartridge}

-- what is found is what is said
record SaidSo (c : Cartridge) (ls : List Looked) (fs : List Finding) : Type 0 where
  said : SayInTurn c ls (sayings_of fs)
  acts : finding_acts c ls fs ≡ looking_acts c ls (sayings_of fs)

said_so : (c : Cartridge) (ls : List Looked) (fs : List Finding) → FindInTurn Shallow c ls fs → SaidSo c ls fs
said_so c [] [] found = record { said = tt; acts = refl }
said_so c [] (f ∷ fs) found = absurd found
said_so c (l ∷ ls) [] found = absurd found
said_so c (l ∷ ls) (f ∷ fs) found =
    first f.saying f.wrong found.0 (λ s. said_so (changed_by (steps_in c l s) c) ls fs) found.1
  where
    first : (s : Saying) (w : Option ℕ) → HasFound Shallow c l s w →
        ((t : Saying) → FindInTurn Shallow (changed_by (steps_in c l t) c) ls fs → SaidSo (changed_by (steps_in c l t) c) ls fs) →
        FindInTurn Shallow (changed_by (steps_for c l (record { saying = s; wrong = w })) c) ls fs →
        SaidSo c (l ∷ ls) (record { saying = s; wrong = w } ∷ fs)
    first s None here then rest =
        let so = then s rest in
        record { said = (here.0, so.said); acts = ap (λ (acts : List Act). look_act c l s ∷ acts) so.acts }
    first s (Some sector) here then rest = absurd here.0

plainly : List Saying → List Finding
plainly sayings = map (λ s. record { saying = s; wrong = None }) sayings

sayings_plainly : (ss : List Saying) → sayings_of (plainly ss) ≡ ss
unfolding plainly
sayings_plainly [] = refl
sayings_plainly (s ∷ ss) = ap (λ (xs : List Saying). s ∷ xs) (sayings_plainly ss)

found_plainly : (c : Cartridge) (ls : List Looked) (ss : List Saying) → SayInTurn c ls ss → FindInTurn Shallow c ls (plainly ss)
unfolding plainly
found_plainly c [] [] said = tt
found_plainly c [] (s ∷ ss) said = absurd said
found_plainly c (l ∷ ls) [] said = absurd said
found_plainly c (l ∷ ls) (s ∷ ss) said = ((said.0, λ searched. absurd searched), found_plainly (changed_by (steps_in c l s) c) ls ss said.1)

acts_so : (c : Cartridge) (ls : List Looked) (fs : List Finding) → FindInTurn Shallow c ls fs →
    acts_for c ls fs ≡ scrub_acts c ls (sayings_of fs)
acts_so c ls fs found =
    let so = said_so c ls fs found in
    ap (λ (acts : List Act). acts ++ last_act (counts_for c ls fs) ∷ []) so.acts
    ∙ ap (λ (acts : List Act). looking_acts c ls (sayings_of fs) ++ last_act
    (record { segments = length ls; mended = length (steps_of acts); unreadable = unread_count ls (sayings_of fs) }) ∷ []) so.acts

pub shallow_is_scrub : ShallowIsScrub
shallow_is_scrub c words entries acts = (
  λ scrubs.
      let so = said_so c (looked_at words entries) scrubs.findings scrubs.found in
      record {
        sayings = sayings_of scrubs.findings;
        said = so.said;
        are = scrubs.are ∙ acts_so c (looked_at words entries) scrubs.findings scrubs.found;
      },
  λ scrubs.
      let found = found_plainly c (looked_at words entries) scrubs.sayings scrubs.said in
      record {
        findings = plainly scrubs.sayings;
        found = found;
        are = scrubs.are ∙ ap (scrub_acts c (looked_at words entries)) (sym (sayings_plainly scrubs.sayings))
            ∙ sym (acts_so c (looked_at words entries) (plainly scrubs.sayings) found);
      },
)

pub as_plain : (c : Cartridge) (words : List ℕ) (entries : List Entry) (acts : List Act) → ScrubsAs Shallow c words entries acts →
    Scrubs c words entries acts
as_plain c words entries acts scrubs = (shallow_is_scrub c words entries acts).0 scrubs
