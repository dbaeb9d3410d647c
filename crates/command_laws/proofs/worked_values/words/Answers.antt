use Rattle.std.proofs.Common.{ap, arith, codes, inl, inr, length, refl, ◌≡◌}
use Rattle.cartridge_laws.proofs.EachElement.{each}
use Rattle.command_spec.specs.Lines.{date_form}
use Rattle.qic_base.specs.LineBytes.{IsPrintable}
use Rattle.qic_base.specs.Field.{filled}
use Rattle.std.specs.Fmt.{digits}
use Rattle.command_laws.proofs.worked_values.words.Goals as goal

pub returns-clause-list : goal.returns-clause-list
returns-clause-list c = inl (refl, tt)

pub returns-clause-deep : goal.returns-clause-deep
returns-clause-deep c = inl (refl, (refl, tt))

pub returns-clause-deep_only : goal.returns-clause-deep_only
returns-clause-deep_only c = λ h. elim h [ inl form ↦ absurd form.1 | inr none ↦ absurd none ]

pub returns-clause-scrub_only : goal.returns-clause-scrub_only
returns-clause-scrub_only c = λ h. elim h [ inl form ↦ absurd form.1 | inr none ↦ absurd none ]

pub returns-clause-new : goal.returns-clause-new
unfolding digits
returns-clause-new c = inl (refl, ((record { digits = refl; nine = omega arith }, omega arith, omega arith), tt))

pub returns-clause-append : goal.returns-clause-append
unfolding filled date_form
returns-clause-append c = inl (
  refl,
  (
    (
      record {
        some = omega arith;
        fits = omega arith;
        printable = each IsPrintable (codes "a")
            ((omega arith, omega arith), tt);
        begins = λ e. cc;
        ends = λ e. cc;
      },
      refl,
    ),
    (
      record {
        year = 1994;
        month = 3;
        day = 1;
        hour = 12;
        minute = 0;
        second = 0;
        a_date = record {
          first_year = omega arith;
          last_year = omega arith;
          first_month = omega arith;
          last_month = omega arith;
          first_day =
              omega arith;
          last_day = omega arith;
          last_hour = omega arith;
          last_minute = omega arith;
          last_second = omega arith;
        };
        written = refl;
        stamped = refl;
      },
      tt,
    ),
  ),
)

pub returns-clause-without_date : goal.returns-clause-without_date
unfolding filled
returns-clause-without_date c = inr (inl (
  refl,
  (
    (
      record {
        some = omega arith;
        fits = omega arith;
        printable = each IsPrintable (codes "a") ((omega arith, omega arith), tt);
        begins = λ e. cc;
        ends = λ e. cc;
      },
      refl,
    ),
    tt,
  ),
))

pub returns-clause-list_now : goal.returns-clause-list_now
returns-clause-list_now c = λ h. elim h [ inl form ↦ absurd form.1 | inr none ↦ absurd none ]

pub returns-clause-too_long : goal.returns-clause-too_long
returns-clause-too_long c = λ h. elim h [ inl form ↦ (let most = form.1.0.2 in omega arith) | inr none ↦ absurd none ]

pub returns-clause-leading_zero : goal.returns-clause-leading_zero
unfolding digits
returns-clause-leading_zero c = λ h. let long : length (codes "01") ≡ length (codes "1") = ap length h.digits in omega arith

pub returns-clause-ten_digits : goal.returns-clause-ten_digits
returns-clause-ten_digits c = λ h. let nine = h.nine in omega arith

pub returns-clause-three : goal.returns-clause-three
returns-clause-three c = refl
