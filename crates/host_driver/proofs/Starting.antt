-- A host learns what the cartridge is that was put in.
use Rattle.std.proofs.Common.{◌≡◌, ℕ, ◌&&◌, ◌==◌, Bool, true, false, refl, sym, ap, ◌∙◌, subst, Some, None, Option, is_some, bit_and}
use Rattle.std.specs.Option.{option_map_or}
use Rattle.qic_base.specs.Tape.{Meaning}
use Rattle.qic_base.specs.declared.tape.TapeInfo.{TapeInfo}
use Rattle.drive_spec.specs.Terms.{power_on_deck, is_protected, is_referenced, status_word}
use Rattle.drive_spec.specs.Deck.{segments_per_track}
use Rattle.drive_spec.specs.Record.{Record, power_on}
use Rattle.drive_states.specs.Unit.{UnitView, IsSoundUnit}
use Rattle.drive_states.specs.Sound.{HasLength}
use Rattle.qic_base.specs.Cartridge.{IsLength}
use Rattle.host_driver.specs.declared.host.Host.{Host}
use Rattle.host_driver.specs.declared.report.Report.TheVariants.{Status, Error, FormatSegments}
use Rattle.host_driver.specs.Fits.{Fits}
use Rattle.host_driver.specs.Reports.{after_report, reported_word}
use Rattle.host_driver.specs.Starts.{started_drive, started_host}
use Rattle.host_driver.proofs.Status.{status_word-present, status_word-protected, status_word-referenced}

-- the drive after each of the three reports
acknowledged_status : (r : Record) (c : Option TapeInfo) → r ≡ power_on c → after_report Status r ≡ record (power_on c) { line = true }
acknowledged_status r c is = ap (after_report Status) is

read_error : (r : Record) (c : Option TapeInfo) → r ≡ record (power_on c) { line = true } → after_report Error r ≡ started_drive c
read_error r c is = ap (after_report Error) is

pub read_segments : (r : Record) (c : Option TapeInfo) → r ≡ started_drive c → after_report FormatSegments r ≡ started_drive c
read_segments r c is = ap (after_report FormatSegments) is

-- what a start knows when it has read the status of the drive that the cartridge was put into: the drive's row, and
-- what the bits tell
pub record StatusRead (cartridge : Option TapeInfo) (drive : Record) (bits : ℕ) (present : Bool) : Type 0 where
  pub row : drive ≡ record (power_on cartridge) { line = true }
  pub word : bits ≡ status_word (power_on_deck cartridge)
  pub there : is_some cartridge ≡ present

pub status_read : {T : Type 0} (inserted read : UnitView T) (word bits : ℕ) (present : Bool) →
    inserted.drive ≡ power_on inserted.drive.deck.cartridge → read ≡ record inserted { drive = after_report Status inserted.drive } →
    word ≡ reported_word Status inserted.drive → bits ≡ word → present ≡ (bit_and bits 0x04 == 0x04) →
    StatusRead inserted.drive.deck.cartridge read.drive bits present
status_read inserted read word bits present put reads loaded kept contains =
    let deck = power_on_deck inserted.drive.deck.cartridge in
    let told : bits ≡ status_word deck = kept ∙ loaded ∙ ap (reported_word Status) put in
    record {
      row = ap (λ (u : UnitView _). u.drive) reads ∙ acknowledged_status inserted.drive inserted.drive.deck.cartridge put;
      word = told;
      there = sym (status_word-present deck) ∙ sym (ap (λ (n : ℕ). bit_and n 0x04 == 0x04) told) ∙ sym contains;
    }

-- what the bits tell of the marks
pub protected_told : (c : Option TapeInfo) (bits : ℕ) (protected : Bool) → bits ≡ status_word (power_on_deck c) →
    protected ≡ (bit_and bits 0x08 == 0x08) → protected ≡ (is_some c && is_protected (power_on_deck c))
protected_told c bits protected told contains =
    contains ∙ ap (λ (n : ℕ). bit_and n 0x08 == 0x08) told ∙ status_word-protected (power_on_deck c)

pub referenced_told : (c : Option TapeInfo) (bits : ℕ) (referenced : Bool) → bits ≡ status_word (power_on_deck c) →
    referenced ≡ (bit_and bits 0x20 == 0x20) → referenced ≡ (is_some c && is_referenced (power_on_deck c))
referenced_told c bits referenced told contains =
    contains ∙ ap (λ (n : ℕ). bit_and n 0x20 == 0x20) told ∙ status_word-referenced (power_on_deck c)

-- the drive when the error word was read too, and the length that it then reports
pub error_read : {T : Type 0} (before read : UnitView T) (c : Option TapeInfo) → before.drive ≡ record (power_on c) { line = true } →
    read ≡ record before { drive = after_report Error before.drive } → read.drive ≡ started_drive c
error_read before read c row reads = ap (λ (u : UnitView _). u.drive) reads ∙ read_error before.drive c row

pub length_read : (r : Record) (c : Option TapeInfo) (count : ℕ) → r ≡ started_drive c → count ≡ reported_word FormatSegments r →
    count ≡ segments_per_track (power_on_deck c)
length_read r c count row reported = reported ∙ ap (reported_word FormatSegments) row

pub no_cartridge : (c : Option TapeInfo) → is_some c ≡ false → c ≡ None
no_cartridge None e = refl
no_cartridge (Some info) e = cc

fits_info : {T : Type 0} {m : Meaning T} {u : UnitView T} (info : TapeInfo) → u.drive ≡ started_drive (Some info) → IsSoundUnit m u →
    Fits m (started_host info.segments_per_track info.protected info.referenced) u
fits_info {m = m} {u = u} info is sound =
    subst (λ (r : Record). IsSoundUnit m (record u { drive = r }) →
    Fits m (started_host info.segments_per_track info.protected info.referenced) (record u { drive = r })) (sym is)
    (λ s. record {
      cartridge = refl;
      known = refl;
      no_error = refl;
      no_pulse = refl;
      generates = record { segments = λ e. cc; writable = λ e. cc };
      deck = refl;
      awaited = refl;
      sound = s;
    }) sound

pub fits_started : {T : Type 0} {m : Meaning T} {u : UnitView T} (c : Option TapeInfo) (segments : ℕ) (protected referenced : Bool) →
    u.drive ≡ started_drive c → is_some c ≡ true → segments ≡ option_map_or (λ (i : TapeInfo). i.segments_per_track) c 0 →
    protected ≡ (is_some c && is_protected (power_on_deck c)) → referenced ≡ (is_some c && is_referenced (power_on_deck c)) →
    IsSoundUnit m u →
    Fits m (started_host segments protected referenced) u
fits_started None segments protected referenced is there s p r sound = cc
fits_started {m = m} {u = u} (Some info) segments protected referenced is there s p r sound =
    subst (λ (h : Host). Fits m h u)
    (ap (λ (n : ℕ). started_host n info.protected info.referenced) (sym s)
    ∙ ap (λ (b : Bool). started_host segments b info.referenced) (sym p)
    ∙ ap (λ (b : Bool). started_host segments protected b) (sym r))
    (fits_info {m = m} {u = u} info is sound)

pub length_of_there : (c : Option TapeInfo) → HasLength c → is_some c ≡ true →
    IsLength (option_map_or (λ (i : TapeInfo). i.segments_per_track) c 0)
length_of_there None long e = cc
length_of_there (Some info) long e = long
