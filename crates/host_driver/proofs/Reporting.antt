-- A report of the drive, level by level.
use Rattle.std.proofs.Common.{◌≡◌, ◌≢◌, ℕ, ◌+◌, ◌<◌, ◌≤◌, ◌^◌, Bool, true, false, List, [], ◌∷◌, ◌++◌, length, take, drop, get_or}
use Rattle.std.proofs.Common.{if◌then◌else◌, ◌==◌, refl, sym, ap, ◌∙◌, arith, subst, Some, None, Option, add-one, length-append}
use Rattle.std.proofs.Math.Seq.{drop-cons, drop-length}
use Rattle.std.proofs.lemmas.List.{take_more, take_all, length-take}
use Rattle.std.specs.Option.{option_map_or}
use Rattle.qic_base.specs.declared.tape.TapeInfo.{TapeInfo}
use Rattle.qic117_commands.specs.Digits.{digits}
use Rattle.qic117_commands.specs.Report.{Collected, levels_of, report_of, word_of}
use Rattle.qic117_commands.proofs.DigitFacts.{length-digits}
use Rattle.qic117_commands.proofs.ReportFacts.{word_of-levels_of}
use Rattle.qic117_commands.specs.Commands.{number_of, command_at, commands}
use Rattle.qic117_commands.specs.StatusWord.{status_of}
use Rattle.qic117_commands.proofs.Statuses.{bit_where}
use Rattle.qic117_commands.specs.Views.{is_format}
use Rattle.qic117_commands.specs.declared.command.Command.TheVariants.{ReportNextBit}
use Rattle.drive_spec.specs.declared.deck.Deck.{Deck}
use Rattle.drive_spec.specs.declared.under_way.UnderWay.{UnderWay}
use Rattle.drive_spec.specs.declared.under_way.UnderWay.TheVariants.{Nothing, Report}
use Rattle.drive_spec.specs.Terms.{refusal_of, status_word, told_segments, tape_status}
use Rattle.drive_spec.specs.Deck.{segments_per_track}
use Rattle.drive_spec.specs.Effects.{accepted, ticked}
use Rattle.drive_spec.specs.Record.{Record}
use Rattle.drive_spec.specs.Reports.{report_word}
use Rattle.drive_states.specs.Typed.{is_seeking}
use Rattle.drive_states.specs.Sound.{IsSound, HasLength}
use Rattle.drive_states.proofs.Marks.{gap_steps-none}
use Rattle.host_driver.specs.declared.report.Report.{Report as Kind}
use Rattle.host_driver.specs.declared.report.Report.TheVariants.{Status, Error, Configuration, Rom, Vendor, TapeStatus, FormatSegments}
use Rattle.host_driver.specs.Commands.{is_plain}
use Rattle.host_driver.specs.Fits.{GeneratesAll}
use Rattle.host_driver.specs.Reports.{command_of, width_of, reported_word, after_report}
use Rattle.host_driver.specs.Train.{TakesTrain, waited}
use Rattle.host_driver.proofs.Sending.{steps-plain}
use Rattle.host_driver.proofs.Motions.{waited-one, ticked-waited, waited-still, ticked-still}
use Rattle.drive_spec.specs.Row.{pulsed_row}
use Rattle.drive_spec.specs.Steps.{train_changes}

-- levels left to show are under way
abbrev pub left : List Bool → UnderWay
left [] = Nothing
left (level ∷ rest) = Report (level ∷ rest)

-- so many levels behind the acknowledgement were shown
abbrev pub reporting : Kind → Record → (shown : ℕ) → Record
reporting kind r shown = record r {
  deck = accepted (command_of kind) (waited (shown + 1) r.deck);
  line = get_or (report_of (width_of kind) (reported_word kind r)) shown false;
  under_way = left (drop shown (levels_of (width_of kind) (reported_word kind r)));
}

-- levels_of is not empty
begun_levels : (width word : ℕ) → Report (levels_of width word) ≡ left (levels_of width word)
begun_levels width word = by_digits (digits width word)
  where
    by_digits : (ds : List Bool) → Report (ds ++ true ∷ []) ≡ left (ds ++ true ∷ [])
    by_digits [] = refl
    by_digits (d ∷ ds) = refl

acknowledged : (kind : Kind) (r : Record) → r.under_way ≡ Nothing → refusal_of (ticked r.deck) (command_of kind) ≡ None →
    pulsed_row r (number_of (command_of kind))
    ≡ record r {
      deck = accepted (command_of kind) (ticked r.deck);
      train = 0;
      line = true;
      under_way =
          Report (levels_of (width_of kind) (reported_word kind r));
    }
unfolding pulsed_row command_at commands
acknowledged Status r idle taken = rw (idle, taken) refl
acknowledged Error r idle taken = rw (idle, taken) refl
acknowledged Configuration r idle taken = rw (idle, taken) refl
acknowledged Rom r idle taken = rw (idle, taken) refl
acknowledged Vendor r idle taken = rw (idle, taken) refl
acknowledged TapeStatus r idle taken = rw (idle, taken) refl
acknowledged FormatSegments r idle taken = rw (idle, taken) refl

-- a report that no row refuses is under way, and acknowledged
pub reporting-none : (kind : Kind) (r : Record) → r.train ≡ 0 → r.under_way ≡ Nothing →
    refusal_of (ticked r.deck) (command_of kind) ≡ None →
    pulsed_row r (number_of (command_of kind)) ≡ reporting kind r 0
reporting-none kind r no_pulse idle taken =
    acknowledged kind r idle taken
    ∙ ap (λ (d : Deck). record r {
      deck = accepted (command_of kind) d;
      train = 0;
      line = true;
      under_way =
          Report (levels_of (width_of kind) (reported_word kind r));
    }) (waited-one r.deck)
    ∙ ap (λ (u : UnderWay). record r { deck = accepted (command_of kind) (waited 1 r.deck); train = 0; line = true; under_way = u })
    (begun_levels (width_of kind) (reported_word kind r))
    ∙ ap (λ (n : ℕ). record r {
      deck = accepted (command_of kind) (waited 1 r.deck);
      train = n;
      line = true;
      under_way =
          left (levels_of (width_of kind) (reported_word kind r));
    }) (sym no_pulse)

-- a report under way shows its next level
pulsed_row-next : (r : Record) (level : Bool) (more : List Bool) → r.under_way ≡ left (level ∷ more) →
    pulsed_row r (number_of ReportNextBit) ≡ record r { deck = ticked r.deck; train = 0; line = level; under_way = left more }
unfolding pulsed_row
pulsed_row-next r level [] under_way = rw under_way refl
pulsed_row-next r level (next ∷ rest) under_way = rw under_way refl

-- the wait goes on behind the command
ticked-accepted : (kind : Kind) (gaps : ℕ) (d : Deck) → ticked (accepted (command_of kind) (waited gaps d)) ≡ accepted (command_of kind)
    (waited (gaps + 1) d)
ticked-accepted Status gaps d = ticked-waited gaps d
ticked-accepted Error gaps d = ap (accepted (command_of Error)) (ticked-waited gaps d)
ticked-accepted Configuration gaps d = ticked-waited gaps d
ticked-accepted Rom gaps d = ticked-waited gaps d
ticked-accepted Vendor gaps d = ticked-waited gaps d
ticked-accepted TapeStatus gaps d = ticked-waited gaps d
ticked-accepted FormatSegments gaps d = ticked-waited gaps d

next_shown : (levels : List Bool) (shown : ℕ) → shown < length levels → drop shown levels ≡ get_or levels shown false ∷ drop
    (shown + 1) levels
next_shown levels shown more = rw add-one (drop-cons levels shown false more)

-- a report of so many digits has one level more
pub length-levels_of : (width word : ℕ) → length (levels_of width word) ≡ width + 1
length-levels_of width word = length-append (digits width word) (true ∷ []) ∙ ap (λ n. n + 1) (length-digits width word)

-- behind the acknowledgement come the levels
pub next-level : (width word k : ℕ) → get_or (report_of width word) (k + 1) false ≡ get_or (levels_of width word) k false
next-level width word k = rw add-one refl

pub reporting-next : (kind : Kind) (r : Record) (shown : ℕ) → r.train ≡ 0 → shown < width_of kind + 1 →
    pulsed_row (reporting kind r shown) (number_of ReportNextBit) ≡ reporting kind r (shown + 1)
reporting-next kind r shown no_pulse more =
    let levels : List Bool = levels_of (width_of kind) (reported_word kind r) in
    let some : shown < length levels = omega (arith, length-levels_of (width_of kind) (reported_word kind r)) in
    pulsed_row-next (reporting kind r shown) (get_or levels shown false) (drop (shown + 1) levels) (ap left (next_shown levels shown some))
    ∙ ap (λ (d : Deck). record r { deck = d; train = 0; line = get_or levels shown false; under_way = left (drop (shown + 1) levels) })
    (ticked-accepted kind (shown + 1) r.deck)
    ∙ ap (λ (level : Bool). record r {
      deck = accepted (command_of kind) (waited (shown + 1 + 1) r.deck);
      train = 0;
      line = level;
      under_way = left (drop (shown + 1) levels);
    }) (sym (next-level (width_of kind) (reported_word kind r) shown))
    ∙ ap (λ (n : ℕ). record (reporting kind r (shown + 1)) { train = n }) (sym no_pulse)

get_or-last : (xs : List Bool) → get_or (xs ++ true ∷ []) (length xs) false ≡ true
get_or-last [] = refl
get_or-last (x ∷ xs) = get_or-last xs

last-levels_of : (width word : ℕ) → get_or (levels_of width word) width false ≡ true
last-levels_of width word =
    let at_place : ℕ → Type 0 = λ n. get_or (levels_of width word) n false ≡ true in
    subst at_place (length-digits width word) (get_or-last (digits width word))

last-report_of : (width word k : ℕ) → k ≡ width + 1 → get_or (report_of width word) k false ≡ true
last-report_of width word k here = rw here (next-level width word width ∙ last-levels_of width word)

drop-levels_of : (width word k : ℕ) → k ≡ width + 1 → drop k (levels_of width word) ≡ []
drop-levels_of width word k here = rw (here, ← length-levels_of width word) (drop-length (levels_of width word))

-- behind its last level, 1, a report is over
pub reporting-all : (kind : Kind) (r : Record) (shown : ℕ) → r.under_way ≡ Nothing → shown ≡ width_of kind + 1 →
    reporting kind r shown ≡ after_report kind r
reporting-all kind r shown idle all =
    ap (λ (n : ℕ). record (reporting kind r shown) { deck = accepted (command_of kind) (waited n r.deck) }) (gaps (width_of kind) all)
    ∙ ap (λ (level : Bool). record (reporting kind r shown) {
      deck = accepted (command_of kind) (waited (width_of kind + 2) r.deck);
      line = level;
    })
    (last-report_of (width_of kind) (reported_word kind r) shown all)
    ∙ ap (λ (u : UnderWay). record (after_report kind r) { under_way = u })
    (ap left (drop-levels_of (width_of kind) (reported_word kind r) shown all) ∙ sym idle)
  where
    gaps : (width : ℕ) → shown ≡ width + 1 → shown + 1 ≡ width + 2
    gaps width e = omega arith

-- the drive takes the command and each train of the report
error-accepted : (kind : Kind) (d : Deck) → d.error ≡ 0 → (accepted (command_of kind) d).error ≡ 0
error-accepted Status d e = e
error-accepted Error d e = refl
error-accepted Configuration d e = e
error-accepted Rom d e = e
error-accepted Vendor d e = e
error-accepted TapeStatus d e = e
error-accepted FormatSegments d e = e

generates-accepted : (kind : Kind) (gaps : ℕ) (d : Deck) → GeneratesAll d → GeneratesAll (accepted (command_of kind) (waited gaps d))
generates-accepted Status gaps d g = record { segments = g.segments; writable = g.writable }
generates-accepted Error gaps d g = record { segments = g.segments; writable = g.writable }
generates-accepted Configuration gaps d g = record { segments = g.segments; writable = g.writable }
generates-accepted Rom gaps d g = record { segments = g.segments; writable = g.writable }
generates-accepted Vendor gaps d g = record { segments = g.segments; writable = g.writable }
generates-accepted TapeStatus gaps d g = record { segments = g.segments; writable = g.writable }
generates-accepted FormatSegments gaps d g = record { segments = g.segments; writable = g.writable }

not_reset : (kind : Kind) → number_of (command_of kind) ≢ 1
not_reset Status e = cc
not_reset Error e = cc
not_reset Configuration e = cc
not_reset Rom e = cc
not_reset Vendor e = cc
not_reset TapeStatus e = cc
not_reset FormatSegments e = cc

takes : (before after : Record) (pulses : ℕ) → pulses ≢ 1 → pulsed_row before pulses ≡ after → after.deck.error ≡ 0 →
    GeneratesAll after.deck → TakesTrain before pulses
takes before after pulses other is no_error g = record {
  no_reset = other;
  no_error = ap (λ (r : Record). r.deck.error) is ∙ no_error;
  generates = subst (λ (r : Record). is_format r.deck.mode ≡ true → r.deck.format_segments ≡ segments_per_track r.deck) (sym is) g.segments;
}

pub takes-command : (kind : Kind) (r : Record) → r.train ≡ 0 → r.under_way ≡ Nothing → refusal_of (ticked r.deck) (command_of kind) ≡ None →
    r.deck.error ≡ 0 → GeneratesAll r.deck →
    TakesTrain r (number_of (command_of kind))
takes-command kind r no_pulse idle taken no_error g =
    takes r (reporting kind r 0) (number_of (command_of kind)) (not_reset kind) (reporting-none kind r no_pulse idle taken)
    (error-accepted kind (waited 1 r.deck) no_error) (generates-accepted kind 1 r.deck g)

pub takes-next : (kind : Kind) (r : Record) (shown : ℕ) → r.train ≡ 0 → shown < width_of kind + 1 → r.deck.error ≡ 0 → GeneratesAll r.deck →
    TakesTrain (reporting kind r shown) (number_of ReportNextBit)
takes-next kind r shown no_pulse more no_error g =
    takes (reporting kind r shown) (reporting kind r (shown + 1)) (number_of ReportNextBit) (λ e. cc)
    (reporting-next kind r shown no_pulse more)
    (error-accepted kind (waited (shown + 1 + 1) r.deck) no_error) (generates-accepted kind (shown + 1 + 1) r.deck g)

plain : (kind : Kind) → is_plain (command_of kind) ≡ true
plain Status = refl
plain Error = refl
plain Configuration = refl
plain Rom = refl
plain Vendor = refl
plain TapeStatus = refl
plain FormatSegments = refl

pub reads-command : (kind : Kind) (r : Record) → train_changes r (number_of (command_of kind)) ≡ []
reads-command kind r = steps-plain (command_of kind) r (plain kind)

pub reads-next : (r : Record) → train_changes r (number_of ReportNextBit) ≡ []
unfolding train_changes
reads-next r = gap_steps-none (record r { train = number_of ReportNextBit }) (λ e. cc)

bit_where-le : (bit : ℕ) (b : Bool) → bit_where bit b ≤ bit
bit_where-le bit true = omega arith
bit_where-le bit false = omega arith

pub status-small : (d : Deck) → status_word d < 256
unfolding status_of
status-small d = omega (arith, bit_where-le)

tape_status-small : (n : ℕ) → tape_status n < 256
tape_status-small n = by_test (n == 100) (n == 150)
  where
    by_test : (a b : Bool) → 0x02 + (if a then 0x10 else if b then 0x20 else 0x30) < 256
    by_test true b = omega arith
    by_test false true = omega arith
    by_test false false = omega arith

told-small : (d : Deck) → IsSound d → told_segments d < 65536
told-small d s = by_test (is_format d.mode) (length-small d.cartridge s.long) s.format_segments
  where
    length-small : (c : Option TapeInfo) → HasLength c → option_map_or (λ i. i.segments_per_track) c 0 < 4096
    length-small None long = omega arith
    length-small (Some info) long = let l = long.longest in omega arith

    by_test : (b : Bool) → segments_per_track d < 4096 → d.format_segments < 4096 →
        (if b then d.format_segments else segments_per_track d) < 65536
    by_test true n g = omega arith
    by_test false n g = omega arith

-- a word fits its report
pub reported-small : (kind : Kind) (r : Record) → IsSound r.deck → r.deck.error ≡ 0 → reported_word kind r < 2 ^ width_of kind
reported-small Status r s e = status-small (ticked r.deck)
reported-small Error r s e = rw e (omega arith)
reported-small Configuration r s e = omega arith
reported-small Rom r s e = omega arith
reported-small Vendor r s e = omega arith
reported-small TapeStatus r s e = tape_status-small (segments_per_track r.deck)
reported-small FormatSegments r s e = by_sound (told-small r.deck s)
  where
    by_sound : told_segments r.deck < 65536 → told_segments (ticked r.deck) < 65536
    by_sound h = h

-- a collector takes the level that was sampled
pub collected : (before after : List Bool) (level : Bool) (levels : List Bool) (k : ℕ) →
    k < length levels → before ≡ take k levels → level ≡ get_or levels k false → after ≡ before ++ level ∷ [] →
    after ≡ take (k + 1) levels
collected before after level levels k more so_far is pushed =
    pushed ∙ rw (so_far, is) (sym (take_more levels k false more))

-- while levels are left the collector has room
pub taken-room : (c : Collected) (levels : List Bool) (k width : ℕ) → length levels ≡ width + 1 → k < length levels →
    c.width ≡ width → c.levels ≡ take k levels → length c.levels ≤ c.width
taken-room c levels k width long more wide so_far =
    rw (so_far, wide) (omega (arith, length-take k levels))

-- a collector that took all levels of a report has its word
pub collected-all : (c : Collected) (width word k : ℕ) → word < 2 ^ width → c.width ≡ width →
    k ≡ width + 1 → c.levels ≡ take k (levels_of width word) → word_of c.width c.levels ≡ Some word
collected-all c width word k fits wide here all =
    rw (wide, all, take_all k (levels_of width word) (omega (arith, length-levels_of width word)))
    (word_of-levels_of width word fits)

accepted-known : (kind : Kind) (d : Deck) → d.error ≡ 0 → d.fresh ≡ false → accepted (command_of kind) d ≡ d
accepted-known Status d e f = refl
accepted-known Error d e f =
    ap (λ (n : ℕ). record d { error = n; fresh = false }) (sym e) ∙ ap (λ (b : Bool). record d { fresh = b }) (sym f)
accepted-known Configuration d e f = refl
accepted-known Rom d e f = refl
accepted-known Vendor d e f = refl
accepted-known TapeStatus d e f = refl
accepted-known FormatSegments d e f = refl

-- a report leaves a drive at rest as it is
pub after_report-still : (kind : Kind) (r : Record) → is_seeking r.deck.motion ≡ false → r.deck.error ≡ 0 → r.deck.fresh ≡ false →
    after_report kind r ≡ record r { line = true }
after_report-still kind r still e f =
    ap (λ (d : Deck). record r { deck = accepted (command_of kind) d; line = true }) (waited-still (width_of kind + 2) r.deck still)
    ∙ ap (λ (d : Deck). record r { deck = d; line = true }) (accepted-known kind r.deck e f)

pub reported_word-still : (kind : Kind) (r : Record) → is_seeking r.deck.motion ≡ false →
    reported_word kind r ≡ report_word (command_of kind) r.deck
reported_word-still kind r still = ap (report_word (command_of kind)) (ticked-still r.deck still)

pub refusal_of-still : (kind : Kind) (d : Deck) → is_seeking d.motion ≡ false → refusal_of d (command_of kind) ≡ None →
    refusal_of (ticked d) (command_of kind) ≡ None
refusal_of-still kind d still taken = ap (λ (e : Deck). refusal_of e (command_of kind)) (ticked-still d still) ∙ taken

pub ruleset resting = (after_report-still, reported_word-still, refusal_of-still)
