use Rattle.std.proofs.Common.{arith, refl}
use Rattle.cartridge_laws.proofs.worked_values.dates.Goals as goal

pub returns-clause-noon : goal.returns-clause-noon
returns-clause-noon c = refl

pub returns-clause-read : goal.returns-clause-read
returns-clause-read c = record {
  a_date = omega arith;
  same_year = refl;
  same_month = refl;
  same_day = refl;
  same_hour = refl;
  same_minute =
      refl;
  same_second = refl;
}

pub returns-clause-last : goal.returns-clause-last
returns-clause-last c = refl

pub returns-clause-no_day_32 : goal.returns-clause-no_day_32
returns-clause-no_day_32 c = λ d. let last = d.last_day in omega arith
