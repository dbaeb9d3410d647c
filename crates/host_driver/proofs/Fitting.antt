-- A host that follows a train fits the unit again.
use Rattle.std.proofs.Common.{◌≡◌, ◌≢◌, ℕ, ◌-◌, ◌<◌, ◌≤◌, inl, inr, Bool, true, false, refl, sym, ap, ◌∙◌, subst, Some, None, Option}
use Rattle.std.proofs.Common.{Result, Ok, Err, is_err, OnErr, OnOk, IfSome, IsSomeAnd, if◌then◌else◌, nat_lt, arith}
use Rattle.std.proofs.lemmas.Bool.Decides.{nat_tests}
use Rattle.std.specs.Option.{option_map}
use Rattle.qic_base.specs.Tape.{Meaning}
use Rattle.qic_base.specs.declared.tape.TapeInfo.{TapeInfo}
use Rattle.qic117_commands.specs.Commands.{number_of}
use Rattle.qic117_commands.specs.Views.{is_format}
use Rattle.drive_spec.specs.declared.deck.Deck.{Deck}
use Rattle.drive_spec.specs.declared.under_way.Parameter.{Parameter}
use Rattle.drive_spec.specs.declared.under_way.UnderWay.{UnderWay}
use Rattle.drive_spec.specs.declared.under_way.UnderWay.TheVariants.{Nothing, Report, Awaited}
use Rattle.drive_spec.specs.Deck.{segments_per_track}
use Rattle.drive_spec.specs.Record.{Record}
use Rattle.drive_spec.specs.Terms.{longer}
use Rattle.drive_spec.specs.Parameters.{parameter_code, parameter_values}
use Rattle.drive_spec.specs.Row.{given_more, heard, latched, pulsed_row}
use Rattle.drive_states.specs.Unreferenced.{unreferenced, without_reference}
use Rattle.drive_states.specs.Unit.{UnitView, IsSoundUnit}
use Rattle.host_driver.specs.declared.host.Host.{Host}
use Rattle.host_driver.specs.Fits.{Fits, parameter_of}
use Rattle.host_driver.specs.Followed.{followed}
use Rattle.host_driver.specs.Train.{TakesTrain}
use Rattle.host_driver.proofs.Follows.{remembered, followed-remembered, pulsed_row-heard, counted, latches, some_number}
use Rattle.host_driver.proofs.Kept.{KeepsCartridge, KeepsCartridge-unreferenced, pulsed_row-kept}

-- the host is what it remembers of the unit that it fits
is_remembered : {T : Type 0} {m : Meaning T} {h : Host} {u : UnitView T} → Fits m h u → h ≡ remembered h.geometry u.drive
is_remembered {h = h} {u = u} f =
    ap (λ (d : Deck). record h { deck = d }) (sym f.deck)
    ∙ ap (λ (a : Option Parameter). record { geometry = h.geometry; deck = u.drive.deck; awaited = a }) (sym f.awaited)

has_length : (n : ℕ) (c : Option TapeInfo) → IsSomeAnd c (λ info. info.segments_per_track ≡ n) →
    option_map (λ (i : TapeInfo). i.segments_per_track) c ≡ Some n
has_length n None h = absurd h
has_length n (Some info) h = ap Some h

is_there : (n : ℕ) (c : Option TapeInfo) → option_map (λ (i : TapeInfo). i.segments_per_track) c ≡ Some n →
    IsSomeAnd c (λ info. info.segments_per_track ≡ n)
is_there n None e = cc
is_there n (Some info) e = cc

-- a kept deck, without error and pulse, fits again
fits_kept : {T : Type 0} {m : Meaning T} {h : Host} {u v : UnitView T} (next : Host) → Fits m h u →
    KeepsCartridge u.drive.deck v.drive.deck →
    v.drive.deck.error ≡ 0 → v.drive.train ≡ 0 →
    (is_format v.drive.deck.mode ≡ true → v.drive.deck.format_segments ≡ segments_per_track v.drive.deck) →
    next ≡ remembered h.geometry v.drive → IsSoundUnit m v → Fits m next v
fits_kept {h = h} {u = u} {v = v} next f k no_error no_pulse segments is sound = record {
  cartridge = subst (λ (n : ℕ). IsSomeAnd v.drive.deck.cartridge (λ info. info.segments_per_track ≡ n))
      (sym (ap (λ (x : Host). x.geometry) is))
      (is_there h.geometry v.drive.deck.cartridge (k.length ∙ has_length h.geometry u.drive.deck.cartridge f.cartridge));
  known = k.known f.known;
  no_error = no_error;
  no_pulse = no_pulse;
  generates = record {
    segments = segments;
    writable = λ formats. k.protected ∙ elim (k.formats formats) [ inl was ↦ f.generates.writable was | inr may ↦ may ];
  };
  deck = sym (ap (λ (x : Host). x.deck) is);
  awaited = sym (ap (λ (x : Host). x.awaited) is);
  sound = sound;
}

pub fits_after : {T : Type 0} {m : Meaning T} {h : Host} {u v : UnitView T} (pulses : ℕ) → Fits m h u → TakesTrain u.drive pulses →
    v.drive ≡ pulsed_row u.drive pulses → IsSoundUnit m v → Fits m (followed h pulses) v
fits_after {m = m} {h = h} {u = u} {v = v} pulses f taken is sound =
    let k = pulsed_row-kept u.drive pulses taken.no_reset in
    let same : followed h pulses ≡ remembered h.geometry v.drive =
    ap (λ (x : Host). followed x pulses) (is_remembered f) ∙ followed-remembered h.geometry u.drive pulses taken.no_reset taken.no_error
    ∙ ap (remembered h.geometry) (sym is) in
    fits_kept {m = m} {h = h} {u = u} {v = v} (followed h pulses) f
    (subst (λ (r : Record). KeepsCartridge u.drive.deck r.deck)
    (sym is) record { length = k.deck.length; protected = k.deck.protected; known = k.deck.known; formats = k.deck.formats })
    (ap (λ (r : Record). r.deck.error) is ∙ taken.no_error)
    (ap (λ (r : Record). r.train) is ∙ k.train)
    (subst (λ (r : Record). is_format r.deck.mode ≡ true → r.deck.format_segments ≡ segments_per_track r.deck) (sym is) taken.generates)
    same sound

segments-unreferenced : (d : Deck) → segments_per_track (unreferenced d) ≡ segments_per_track d
segments-unreferenced d = by_cartridge d.cartridge refl
  where
    by_cartridge : (c : Option TapeInfo) → d.cartridge ≡ c → segments_per_track (unreferenced d) ≡ segments_per_track d
    by_cartridge None e = rw e refl
    by_cartridge (Some info) e = rw e refl

-- where the reference bursts failed, the host forgets the mark as the drive does
pub fits_without : {T : Type 0} {m : Meaning T} {h : Host} {u v : UnitView T} (pulses : ℕ) → Fits m h u → TakesTrain u.drive pulses →
    v.drive ≡ without_reference (pulsed_row u.drive pulses) → IsSoundUnit m v →
    Fits m (record (followed h pulses) { deck = unreferenced (followed h pulses).deck }) v
fits_without {m = m} {h = h} {u = u} {v = v} pulses f taken is sound =
    let k = pulsed_row-kept u.drive pulses taken.no_reset in
    let same : followed h pulses ≡ remembered h.geometry (pulsed_row u.drive pulses) =
    ap (λ (x : Host). followed x pulses) (is_remembered f) ∙ followed-remembered h.geometry u.drive pulses taken.no_reset taken.no_error in
    let kept : KeepsCartridge u.drive.deck (pulsed_row u.drive pulses).deck =
    record { length = k.deck.length; protected = k.deck.protected; known = k.deck.known; formats = k.deck.formats } in
    fits_kept {m = m} {h = h} {u = u} {v = v} (record (followed h pulses) { deck = unreferenced (followed h pulses).deck }) f
    (subst (λ (r : Record). KeepsCartridge u.drive.deck r.deck) (sym is)
    (KeepsCartridge-unreferenced u.drive.deck (pulsed_row u.drive pulses).deck kept))
    (ap (λ (r : Record). r.deck.error) is ∙ taken.no_error)
    (ap (λ (r : Record). r.train) is ∙ k.train)
    (subst (λ (r : Record). is_format r.deck.mode ≡ true → r.deck.format_segments ≡ segments_per_track r.deck) (sym is)
    (λ formats. taken.generates formats ∙ sym (segments-unreferenced (pulsed_row u.drive pulses).deck)))
    (ap (λ (x : Host). record x { deck = unreferenced x.deck }) same ∙ ap (remembered h.geometry) (sym is))
    sound

pub by_err : {T E : Type 0} (r : Result T E) (P : Type 0) → is_err r ≡ true → OnErr r P → P
by_err (Ok x) P e h = cc
by_err (Err x) P e h = h

pub by_ok : {T E : Type 0} (r : Result T E) (P : Type 0) → is_err r ≡ false → OnOk r P → P
by_ok (Ok x) P e h = h
by_ok (Err x) P e h = cc

-- the value of a parameter that the drive takes
taken_value : (r : Record) (a : Parameter) (pulses : ℕ) → r.under_way ≡ Awaited a → pulses ≢ 1 → (pulsed_row r pulses).deck.error ≡ 0 →
    1 ≤ pulses →
    (2 ≤ pulses) × (pulses - 2 < parameter_values a.command)
taken_value r a pulses awaits other none some =
    let more : 1 < pulses = omega arith in
    let heard_as = pulsed_row-heard r pulses more in
    let error : (heard (counted r) pulses r.under_way).deck.error ≡ 0 = ap (λ (x : Record). x.deck.error) (sym heard_as) ∙ none in
    let error_of : (heard (counted r) pulses (Awaited a)).deck.error ≡ 0 =
    subst (λ (w : UnderWay). (heard (counted r) pulses w).deck.error ≡ 0) awaits error in
    (omega arith, by_value (nat_lt (pulses - 2) (parameter_values a.command)) refl error_of)
  where
    by_value : (t : Bool) → nat_lt (pulses - 2) (parameter_values a.command) ≡ t →
        (if t then given_more (counted r) (longer a (pulses - 2)) else latched (counted r) (parameter_code a.command)
        (number_of a.command)).deck.error ≡ 0 →
        pulses - 2 < parameter_values a.command
    by_value true e none = grind (arith, nat_tests)
    by_value false e none = absurd (latches (counted r) (parameter_code a.command) (number_of a.command) (some_number a.command) none)

pub takes_value : (r : Record) (awaited : Option Parameter) (pulses : ℕ) → parameter_of r.under_way ≡ awaited → TakesTrain r pulses →
    IfSome awaited (λ a. 1 ≤ pulses → (2 ≤ pulses) × (pulses - 2 < parameter_values a.command))
takes_value r awaited pulses is taken = by_under_way r.under_way refl awaited is
  where
    by_under_way : (u : UnderWay) → r.under_way ≡ u → (o : Option Parameter) → parameter_of u ≡ o →
        IfSome o (λ a. 1 ≤ pulses → (2 ≤ pulses) × (pulses - 2 < parameter_values a.command))
    by_under_way u e None p = tt
    by_under_way Nothing e (Some a) p = cc
    by_under_way (Report levels) e (Some a) p = cc
    by_under_way (Awaited b) e (Some a) p =
        let same : b ≡ a = cc in
        λ some. taken_value r a pulses (e ∙ ap Awaited same) taken.no_reset taken.no_error some
