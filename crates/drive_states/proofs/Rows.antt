-- What a gap keeps true of the record.
use Rattle.std.proofs.Common.{◌≡◌, ℕ, zero, suc, ◌+◌, ◌*◌, ◌-◌, ◌^◌, ◌<◌, ◌≤◌, ◌==◌, Bool, true, false, List, [], ◌∷◌, ◌++◌, Option, Some}
use Rattle.std.proofs.Common.{None, if◌then◌else◌, nat_lt, refl, ap, arith}
use Rattle.std.proofs.lemmas.Bool.Decides.{nat_tests}
use Rattle.qic117_commands.specs.Commands.{number_of, command_at}
use Rattle.qic117_commands.specs.declared.command.Command.{Command}
use Rattle.qic117_commands.specs.declared.command.Command.TheVariants.{Reset, ReportNextBit, SeekTrack, SkipReverse, SkipForward}
use Rattle.qic117_commands.specs.declared.command.Command.TheVariants.{SetFormatSegments}
use Rattle.qic117_commands.specs.declared.error_code.ErrorCode.{ErrorCode}
use Rattle.qic117_commands.specs.declared.error_code.ErrorCode.TheVariants.{UndefinedCommand, IllegalInReport}
use Rattle.qic117_commands.specs.Digits.{digits}
use Rattle.qic117_commands.specs.Report.{levels_of}
use Rattle.drive_spec.specs.declared.deck.Deck.{Deck}
use Rattle.drive_spec.specs.declared.deck.Motion.{Motion}
use Rattle.drive_spec.specs.declared.deck.Motion.TheVariants.{Stopped}
use Rattle.drive_spec.specs.declared.under_way.Parameter.{Parameter}
use Rattle.drive_spec.specs.declared.under_way.UnderWay.{UnderWay}
use Rattle.drive_spec.specs.declared.under_way.UnderWay.TheVariants.{Nothing, Report, Awaited}
use Rattle.drive_spec.specs.Deck.{is_streaming}
use Rattle.drive_spec.specs.Terms.{refusal_of, is_report, obeyed, idled, row, longer, run_on, begun}
use Rattle.drive_spec.specs.Effects.{error_word, accepted, given, reset, ticked, ticked_motion, ends_early}
use Rattle.drive_spec.specs.Record.{Record}
use Rattle.drive_spec.specs.Reports.{report_width, report_word}
use Rattle.drive_spec.specs.Parameters.{parameter_trains, parameter_values, parameter_code}
use Rattle.drive_spec.specs.Row.{latched, given_more, taking, showing, by_refusal, by_command, heard, moved_on}
use Rattle.drive_states.specs.Sound.{IsParameter, IsUnderWay, IsSoundRecord}
use Rattle.drive_states.proofs.Bounds.{IsSound-accepted, IsSound-given, IsSound-ticked, IsSound-reset, IsSound-run_on, IsSound-error}
use Rattle.drive_states.proofs.Obeying.{parameter_stopped}

-- what is under way stays so, where a tape that stands is left as it is
pub IsUnderWay-moved : (old new : Deck) (u : UnderWay) → (old.motion ≡ Stopped → new ≡ old) → IsUnderWay old u → IsUnderWay new u
IsUnderWay-moved old new Nothing same h = tt
IsUnderWay-moved old new (Report []) same h = h
IsUnderWay-moved old new (Report (level ∷ rest)) same h = tt
IsUnderWay-moved old new (Awaited a) same h =
    let trains : 0 < parameter_trains a.command = let t = h.1 in omega arith in
    let is : new ≡ old = same (parameter_stopped a.command old trains h.0) in
    (rw is h.0, h.1, h.2)

ticked_still : (d : Deck) → d.motion ≡ Stopped → ticked d ≡ d
ticked_still d stopped =
    let still : ticked_motion d.motion ≡ d.motion = rw stopped refl in
    ap (λ (m : Motion). record d { motion = m }) still

pub IsSoundRecord-ticked : (r : Record) (train : ℕ) (line : Bool) → train ≤ 255 → IsSoundRecord r →
    IsSoundRecord (record r { deck = ticked r.deck; train = train; line = line })
IsSoundRecord-ticked r train line small s = record {
  deck = IsSound-ticked r.deck s.deck;
  train = small;
  under_way = IsUnderWay-moved r.deck (ticked r.deck) r.under_way (ticked_still r.deck) s.under_way;
}

not_streaming : (d : Deck) → d.motion ≡ Stopped → is_streaming d.motion ≡ true → ⊥
not_streaming d stopped streams = let no : false ≡ true = rw stopped at streams in cc

pub IsSoundRecord-moved_on : (r : Record) → IsSoundRecord r → is_streaming r.deck.motion ≡ true → IsSoundRecord (moved_on r)
IsSoundRecord-moved_on r s streams = record {
  deck = IsSound-run_on r.deck s.deck streams;
  train = s.train;
  under_way = ended (ends_early r.deck) (IsUnderWay-moved r.deck (run_on r.deck) r.under_way
      (λ stopped. absurd (not_streaming r.deck stopped streams)) s.under_way);
}
  where
    ended : (b : Bool) → IsUnderWay (run_on r.deck) r.under_way → IsUnderWay (run_on r.deck) (if b then Nothing else r.under_way)
    ended true h = tt
    ended false h = h

IsSoundRecord-idled : (r : Record) (b : Bool) → is_streaming r.deck.motion ≡ b → IsSoundRecord r →
    IsSoundRecord (if b then moved_on r else r)
IsSoundRecord-idled r true streams s = IsSoundRecord-moved_on r s streams
IsSoundRecord-idled r false streams s = s

IsSoundRecord-latched : (r : Record) (code : ErrorCode) (command : ℕ) → IsSoundRecord r → IsSoundRecord (latched r code command)
IsSoundRecord-latched r code command s = record {
  deck = IsSound-error r.deck (error_word code command) r.deck.fresh s.deck;
  train = s.train;
  under_way = tt;
}

-- a nibble more
nibble_more : (taken value nibble : ℕ) → taken < 3 → value < 16 ^ taken → nibble < 16 → value + nibble * 16 ^ taken < 16 ^ (taken + 1)
nibble_more zero value nibble few fits small = omega arith
nibble_more (suc zero) value nibble few fits small = omega arith
nibble_more (suc (suc zero)) value nibble few fits small = omega arith
nibble_more (suc (suc (suc n))) value nibble few fits small = absurd (omega arith)

-- one value more of a parameter: it is whole, or goes on
record Grows (c : Command) (taken value more : ℕ) : Type 0 where
  whole : taken + 1 ≡ parameter_trains c → IsParameter c (value + more * 16 ^ taken)
  on : taken + 1 < parameter_trains c → value + more * 16 ^ taken < 16 ^ (taken + 1)

grows : (c : Command) (taken value more : ℕ) → taken < parameter_trains c → value < 16 ^ taken → more < parameter_values c →
    Grows c taken value more
grows SeekTrack zero value more few fits small = record { whole = λ e. omega arith; on = λ l. absurd (omega arith) }
grows SeekTrack (suc n) value more few fits small = absurd (omega arith)
grows SkipReverse taken value more few fits small =
    let next = nibble_more taken value more (omega arith) fits small in
    record { whole = λ e. rw e at next; on = λ l. next }
grows SkipForward taken value more few fits small =
    let next = nibble_more taken value more (omega arith) fits small in
    record { whole = λ e. rw e at next; on = λ l. next }
grows SetFormatSegments taken value more few fits small =
    let next = nibble_more taken value more (omega arith) fits small in
    record { whole = λ e. rw e at next; on = λ l. next }
grows c taken value more few fits small = absurd (omega arith)

IsSoundRecord-taking : (r : Record) (a : Parameter) (value : ℕ) → IsSoundRecord r → IsUnderWay r.deck (Awaited a) →
    IsSoundRecord (taking r a value)
IsSoundRecord-taking r a value s h = by_value (nat_lt value (parameter_values a.command)) refl
  where
    by_end : (b : Bool) → (a.taken + 1 == parameter_trains a.command) ≡ b → Grows a.command a.taken a.value value →
        IsSoundRecord (if b then record r { deck = given a.command (longer a value).value r.deck; under_way = Nothing } else record r
        { under_way = Awaited (longer a value) })
    by_end true e more =
        let all : a.taken + 1 ≡ parameter_trains a.command = grind (arith, nat_tests) in
        record { deck = IsSound-given a.command (longer a value).value r.deck s.deck h.0 (more.whole all); train = s.train; under_way = tt }
    by_end false e more =
        let rest : ¬ (a.taken + 1 ≡ parameter_trains a.command) = λ all. let yes : (a.taken + 1 == parameter_trains a.command) ≡ true =
        grind (arith, nat_tests) in cc in
        let t = h.1 in
        let on : a.taken + 1 < parameter_trains a.command = omega (arith, rest) in
        record { deck = s.deck; train = s.train; under_way = (h.0, on, more.on on) }

    by_value : (b : Bool) → nat_lt value (parameter_values a.command) ≡ b →
        IsSoundRecord (if b then given_more r (longer a value) else latched r (parameter_code a.command) (number_of a.command))
    by_value true e =
        let small : value < parameter_values a.command = grind (arith, nat_tests) in
        by_end (a.taken + 1 == parameter_trains a.command) refl (grows a.command a.taken a.value value h.1 h.2 small)
    by_value false e = IsSoundRecord-latched r (parameter_code a.command) (number_of a.command) s

IsSoundRecord-showing : (r : Record) (levels : List Bool) → IsSoundRecord r → IsSoundRecord (showing r levels)
IsSoundRecord-showing r [] s = record { deck = s.deck; train = s.train; under_way = tt }
IsSoundRecord-showing r (level ∷ []) s = record { deck = s.deck; train = s.train; under_way = tt }
IsSoundRecord-showing r (level ∷ next ∷ rest) s = record { deck = s.deck; train = s.train; under_way = tt }

-- a report has levels to show
levels_left : (d : Deck) (front : List Bool) → IsUnderWay d (Report (front ++ true ∷ []))
levels_left d [] = tt
levels_left d (level ∷ front) = tt

-- a command that awaits its parameter leaves the deck as it is
awaits : (c : Command) (d : Deck) → 0 < parameter_trains c → accepted c d ≡ d
awaits SeekTrack d trains = refl
awaits SkipReverse d trains = refl
awaits SkipForward d trains = refl
awaits SetFormatSegments d trains = refl
awaits c d trains = absurd (omega arith)

begun_fits : (c : Command) (d : Deck) → refusal_of d c ≡ None → IsUnderWay (accepted c d) (begun c d)
begun_fits c d taken = by_report (is_report c)
  where
    by_parameter : (b : Bool) → nat_lt 0 (parameter_trains c) ≡ b →
        IsUnderWay (accepted c d) (if b then Awaited record { command = c; taken = 0; value = 0 } else Nothing)
    by_parameter true e =
        let trains : 0 < parameter_trains c = grind (arith, nat_tests) in
        (rw (awaits c d trains) taken, trains, omega arith)
    by_parameter false e = tt

    by_report : (b : Bool) → IsUnderWay (accepted c d)
        (if b then Report (levels_of (report_width c) (report_word c d)) else
        (if nat_lt 0 (parameter_trains c) then Awaited record { command = c; taken = 0; value = 0 } else Nothing))
    by_report true = levels_left (accepted c d) (digits (report_width c) (report_word c d))
    by_report false = by_parameter (nat_lt 0 (parameter_trains c)) refl

IsSoundRecord-command : (r : Record) (train : ℕ) (command : Option Command) → IsSoundRecord r → IsSoundRecord (by_command r train command)
IsSoundRecord-command r train None s = IsSoundRecord-latched r UndefinedCommand train s
IsSoundRecord-command r train (Some c) s = by_row (refusal_of r.deck c) refl
  where
    by_row : (refused : Option ErrorCode) → refusal_of r.deck c ≡ refused → IsSoundRecord (by_refusal r c refused)
    by_row None e = record { deck = IsSound-accepted c r.deck s.deck e; train = s.train; under_way = begun_fits c r.deck e }
    by_row (Some code) e = IsSoundRecord-latched r code (number_of c) s

IsSoundRecord-heard : (r : Record) (train : ℕ) (u : UnderWay) → IsSoundRecord r → IsUnderWay r.deck u → IsSoundRecord (heard r train u)
IsSoundRecord-heard r train Nothing s h = IsSoundRecord-command r train (command_at train) s
IsSoundRecord-heard r train (Awaited a) s h = IsSoundRecord-taking r a (train - 2) s h
IsSoundRecord-heard r train (Report levels) s h = by_train (train == number_of ReportNextBit)
  where
    by_train : (b : Bool) → IsSoundRecord (if b then showing r levels else latched r IllegalInReport train)
    by_train true = IsSoundRecord-showing r levels s
    by_train false = IsSoundRecord-latched r IllegalInReport train s

IsSoundRecord-obeyed : (r : Record) (train : ℕ) → IsSoundRecord r → IsSoundRecord (obeyed r train)
IsSoundRecord-obeyed r train s = by_train (train == number_of Reset)
  where
    by_train : (b : Bool) → IsSoundRecord (if b then record r { deck = reset r.deck; under_way = Nothing } else heard r train r.under_way)
    by_train true = record { deck = IsSound-reset r.deck s.deck; train = s.train; under_way = tt }
    by_train false = IsSoundRecord-heard r train r.under_way s s.under_way

-- a gap after any train keeps the bounds of the record
pub IsSoundRecord-row : (r : Record) (train : ℕ) → IsSoundRecord r → IsSoundRecord (row r train)
IsSoundRecord-row r train s = by_train (train == 0)
  where
    by_train : (b : Bool) → IsSoundRecord
        (if b then idled (record r { deck = ticked r.deck }) else obeyed (record r { deck = ticked r.deck; line = false; train = 0 }) train)
    by_train true =
        IsSoundRecord-idled (record r { deck = ticked r.deck }) (is_streaming (ticked r.deck).motion) refl
        (IsSoundRecord-ticked r r.train r.line s.train s)
    by_train false = IsSoundRecord-obeyed (record r { deck = ticked r.deck; line = false; train = 0 }) train
        (IsSoundRecord-ticked r 0 false (omega arith) s)
