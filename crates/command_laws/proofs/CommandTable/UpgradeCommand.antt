-- The laws of the command `upgrade`: it changes the version that the cartridge is kept in, and nothing else of it.
use Rattle.std.proofs.Common.{◌≡◌, List, ℕ, ap, arith, refl, codes, []}
use Rattle.std.proofs.lemmas.List.Elements.{All-weaker}
use Rattle.cartridge_laws.proofs.ChangeStanding.{marks_read_no_more, same_views}
use Rattle.cartridge_spec.specs.Header.{Header}
use Rattle.cartridge_spec.specs.Mounting.{Mounted, Mounts}
use Rattle.cartridge_spec.specs.Table.{Entry}
use Rattle.cartridge_spec.specs.Volumes.{Plain, Stands, VolumeStands}
use Rattle.command_laws.proofs.CommandComplete.{status_of, where_some}
use Rattle.command_laws.proofs.CommandStep.{KeepsAll, step_leaves, step_answers, step_is_one, step_no_renew, step_stands, step_mounts}
use Rattle.command_laws.proofs.CommandStep.{step_clean, step_bare}
use Rattle.command_laws.proofs.CommandTexts.{plain_texts}
use Rattle.command_laws.proofs.CommandUnread.{marked_neither}
use Rattle.command_laws.proofs.CommandWhole.{some_whole, step_whole}
use Rattle.command_laws.proofs.WholeSteps.{upgraded_whole}
use Rattle.command_laws.proofs.TextCommands.{one_word, only, spelled_length, IsRead, Reading, named}
use Rattle.command_laws.specs.CommandRecord.{CommandLaws}
use Rattle.command_spec.specs.Command.{HasForm}
use Rattle.command_spec.specs.Lines.{upgraded_line}
use Rattle.command_laws.specs.Outcomes.{UpgradeOutcome}
use Rattle.command_spec.specs.Single.{upgrade_command}
use Rattle.qic_base.specs.Cartridge.{Cartridge}
use Rattle.qic_base.specs.Step.{Upgrade, changed}
use Rattle.cartridge_laws.specs.HeaderTerms.{NeitherReads}
use Rattle.command_spec.specs.declared.status.Status.TheVariants as status
use Rattle.command_spec.specs.declared.words.Words.TheVariants as words

-- ---- the cartridge in the newest version

abbrev pub upgraded : Cartridge → Cartridge
upgraded c = changed Upgrade c

upgraded_stands : (c : Cartridge) (plain : Plain) → Stands c plain → Stands (upgraded c) plain
upgraded_stands c plain stood = record {
  whole = stood.whole;
  header = record {
    referenced = stood.header.referenced;
    in_force = same_views c (upgraded c) plain.header_area refl stood.header.in_force;
  };
  sound_header = stood.sound_header;
  copies = stood.copies;
  sound_table = stood.sound_table;
  shown = stood.shown;
  volumes = All-weaker (VolumeStands c plain.words) (VolumeStands (upgraded c) plain.words)
      (λ volume stands. record { parts = stands.parts; size = stands.size }) plain.volumes stood.volumes;
  table = stood.table;
}

upgraded_mounts : (c : Cartridge) (header : Header) (map_words : List ℕ) (table : List (List ℕ)) (entries : List Entry) →
    Mounts c (Mounted header map_words table entries) → Mounts (upgraded c) (Mounted header map_words table entries)
upgraded_mounts c header map_words table entries mounted = record {
  area = mounted.area;
  formatted = record {
    has_header = record {
      referenced = mounted.formatted.has_header.referenced;
      in_force = same_views c (upgraded c) mounted.area refl mounted.formatted.has_header.in_force;
    };
    sound = mounted.formatted.sound;
    shown = mounted.formatted.shown;
  };
  reads = mounted.reads;
  sound = mounted.sound;
  shown = mounted.shown;
}

-- ---- the command

-- its words are read as it
abbrev pub upgrade_reading : Reading
upgrade_reading = record { name = codes "upgrade"; reads = λ behind. words.Upgrade }

pub upgrade_read : (ws : List (List ℕ)) → HasForm ws upgrade_command.forms → IsRead upgrade_reading ws words.Upgrade
upgrade_read ws h = let s = one_word ws _ (only ws _ h) in record { behind = []; are = named s.are s.one; is = refl }

version_keeps : KeepsAll Upgrade
version_keeps = record {
  whole = λ held left inside. inside;
  stands = λ c plain stood. upgraded_stands c plain stood;
  mounts = λ c header map_words table entries mounts. upgraded_mounts c header map_words table entries mounts;
  reads = λ c. marks_read_no_more c (upgraded c) refl;
  no_renew = (tt, tt);
}

-- what is printed of a cartridge
abbrev pub line : Cartridge → List ℕ
line c = upgraded_line c.version

pub upgrade_laws : CommandLaws upgrade_command
upgrade_laws = record {
  values = λ words spelled. tt;
  few_words = λ ws h. let l = spelled_length ws _ (only ws _ h) in (omega arith, omega arith);
  answers = λ held input values whole. step_answers Upgrade line held;
  one = λ held input a b is was. step_is_one Upgrade line held a b is was;
  none_held = λ is input outcome plain. plain;
  locked = λ is c input outcome locked plain. absurd (cc);
  in_front = λ is c segment input outcome free first plain. absurd (cc);
  done = λ held input outcome whole values. where_some (λ c. Unit {0}) held (λ h. UpgradeOutcome h outcome → outcome.status ≡ status.Done)
      (λ c can does. ap status_of does);
  texts = plain_texts _ (upgraded_line 2) (2, omega arith, omega arith, refl);
  blind = λ is. record {
    any = λ held input other outcome plain. plain;
    no_append = refl;
    no_lines = refl;
    no_fault = λ input line place fault. fault;
  };
  stands = λ c plain keeps stood input outcome left does torn. step_stands Upgrade line version_keeps c plain stood outcome left does torn;
  mounts = λ c header words table entries keeps mounts input outcome left does torn.
      step_mounts Upgrade line version_keeps c header words table entries mounts outcome left does torn;
  clean = λ c area keeps is_area clean input outcome left does torn.
      step_clean Upgrade line version_keeps c area is_area clean outcome left does torn;
  bare = λ c keeps bare input outcome left does torn. step_bare Upgrade line version_keeps c bare outcome left does torn;
  unread = λ c copies keeps none input outcome left does torn.
      step_leaves Upgrade line NeitherReads version_keeps c outcome left none (marked_neither c (upgraded c) refl none) does torn;
  whole = λ c input outcome left values content whole does torn.
      some_whole left (step_whole Upgrade line c outcome does whole (upgraded_whole c whole) (λ left half. half) left torn);
  live = λ held input outcome keeps does. step_no_renew Upgrade line version_keeps held outcome does;
}
