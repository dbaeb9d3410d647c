use Rattle.std.proofs.Common.{◌≡◌, ◌+◌, ◌*◌, ◌/◌, ◌%◌, refl, arith}
use Rattle.qic_base.specs.Field.{IsDate}
use Rattle.command_laws.proofs.TextDates.{HasFields, fields_of}
use Rattle.tape_script.proofs.Dates.{one_pair, form_from_fields}
use Rattle.tape_script.proofs.date.read_date.Goals as goal

pub returns-then-word-ne-LENGTH : goal.returns-then-word-ne-LENGTH
returns-then-word-ne-LENGTH c n d = c.if-word-ne-LENGTH.true (fields_of c.args.word.now n d).long

pub returns-then-not-is_parted : goal.returns-then-not-is_parted
returns-then-not-is_parted c n d = let no = c.if-not-is_parted.ensures.1 (fields_of c.args.word.now n d).parted in cc

pub returns-in_err-century : goal.returns-in_err-century
returns-in_err-century c =
    rw c.from_residual.ensures (λ n d. let pair = (fields_of c.args.word.now n d).hundreds_at in
    c.in_err-century.ensures (d.year / 100) pair.0 pair.1 pair.2)

pub returns-in_err-year : goal.returns-in_err-year
returns-in_err-year c =
    rw c.from_residual-in_err-year.ensures (λ n d. let pair = (fields_of c.args.word.now n d).years_at in
    c.in_err-year.ensures (d.year % 100) pair.0 pair.1 pair.2)

pub returns-in_err-month : goal.returns-in_err-month
returns-in_err-month c =
    rw c.from_residual-in_err-month.ensures (λ n d. let pair = (fields_of c.args.word.now n d).month_at in
    c.in_err-month.ensures (d.month) pair.0 pair.1 pair.2)

pub returns-in_err-day : goal.returns-in_err-day
returns-in_err-day c =
    rw c.from_residual-in_err-day.ensures (λ n d. let pair = (fields_of c.args.word.now n d).day_at in
    c.in_err-day.ensures (d.day) pair.0 pair.1 pair.2)

pub returns-in_err-hour : goal.returns-in_err-hour
returns-in_err-hour c =
    rw c.from_residual-in_err-hour.ensures (λ n d. let pair = (fields_of c.args.word.now n d).hour_at in
    c.in_err-hour.ensures (d.hour) pair.0 pair.1 pair.2)

pub returns-in_err-minute : goal.returns-in_err-minute
returns-in_err-minute c =
    rw c.from_residual-in_err-minute.ensures (λ n d. let pair = (fields_of c.args.word.now n d).minute_at in
    c.in_err-minute.ensures (d.minute) pair.0 pair.1 pair.2)

pub returns-in_err-second : goal.returns-in_err-second
returns-in_err-second c =
    rw c.from_residual-in_err-second.ensures (λ n d. let pair = (fields_of c.args.word.now n d).second_at in
    c.in_err-second.ensures (d.second) pair.0 pair.1 pair.2)

pub returns-in-Ok : goal.returns-in-Ok
returns-in-Ok c =
    let fields : HasFields c.args.word.now c.in_ok-century.century c.in_ok-year.year c.in_ok-month.month c.in_ok-day.day c.in_ok-hour.hour
    c.in_ok-minute.minute c.in_ok-second.second = record {
      long = c.if-word-ne-LENGTH.false;
      parted = c.if-not-is_parted.ensures.0 refl;
      hundreds_at = c.in_ok-century.ensures;
      years_at = c.in_ok-year.ensures;
      month_at = c.in_ok-month.ensures;
      day_at = c.in_ok-day.ensures;
      hour_at = c.in_ok-hour.ensures;
      minute_at = c.in_ok-minute.ensures;
      second_at = c.in_ok-second.ensures;
    } in
    record {
      year = 100 * c.from.result + c.from-2.result;
      month = c.in_ok-month.month;
      day = c.in_ok-day.day;
      hour = c.in_ok-hour.hour;
      minute = c.in_ok-minute.minute;
      second = c.in_ok-second.second;
      a_date = c.in-Ok.ensures.dated.0 refl;
      written = form_from_fields c.args.word.now c.in_ok-century.century c.in_ok-year.year c.in_ok-month.month c.in_ok-day.day
          c.in_ok-hour.hour
          c.in_ok-minute.minute c.in_ok-second.second (100 * c.from.result + c.from-2.result) fields
          (rw (c.from.ensures, c.from-2.ensures) refl);
      stamped = c.in-Ok.ensures.word;
    }

pub returns-in-Err : goal.returns-in-Err
returns-in-Err c n d =
    let f = fields_of c.args.word.now n d in
    let hundreds : c.in_ok-century.century ≡ d.year / 100 = one_pair c.args.word.now 0 c.in_ok-century.century
    (d.year / 100) c.in_ok-century.ensures f.hundreds_at in
    let years : c.in_ok-year.year ≡ d.year % 100 = one_pair c.args.word.now 2 c.in_ok-year.year
    (d.year % 100) c.in_ok-year.ensures f.years_at in
    let month : c.in_ok-month.month ≡ d.month = one_pair c.args.word.now 5 c.in_ok-month.month d.month c.in_ok-month.ensures f.month_at in
    let day : c.in_ok-day.day ≡ d.day = one_pair c.args.word.now 8 c.in_ok-day.day d.day c.in_ok-day.ensures f.day_at in
    let hour : c.in_ok-hour.hour ≡ d.hour = one_pair c.args.word.now 11 c.in_ok-hour.hour d.hour c.in_ok-hour.ensures f.hour_at in
    let minute : c.in_ok-minute.minute ≡ d.minute = one_pair c.args.word.now 14 c.in_ok-minute.minute d.minute c.in_ok-minute.ensures
    f.minute_at in
    let second : c.in_ok-second.second ≡ d.second = one_pair c.args.word.now 17 c.in_ok-second.second d.second c.in_ok-second.ensures
    f.second_at in
    let year : 100 * c.from.result + c.from-2.result ≡ d.year = rw (c.from.ensures, c.from-2.ensures) (omega arith) in
    let a_date : IsDate (100 * c.from.result + c.from-2.result) c.in_ok-month.month c.in_ok-day.day c.in_ok-hour.hour c.in_ok-minute.minute
    c.in_ok-second.second =
    rw (year, month, day, hour, minute, second) d.a_date in
    let no = c.in-Err.ensures.dated.1 a_date in cc
