-- The texts of dates.
use Rattle.std.proofs.Common.{◌≡◌, ℕ, ◌/◌, List, sym, ◌∙◌, arith, ◌+◌, ◌*◌, ap}
use Rattle.std.proofs.lemmas.Slice.Eq.{text_from_reads}
use Rattle.command_laws.proofs.TextDates.{HasPair, HasFields}
use Rattle.command_laws.specs.TextTerms.{digit}
use Rattle.command_spec.specs.Lines.{date_form}

-- the digits at a place are those of one number
pub one_pair : (word : List ℕ) (at m n : ℕ) → HasPair word at m → HasPair word at n → m ≡ n
one_pair word at m n a b =
    let tens : digit (m / 10) ≡ digit (n / 10) = sym a.1 ∙ b.1 in
    let ones : digit m ≡ digit n = sym a.2 ∙ b.2 in
    let few = a.0 in let less = b.0 in omega arith

-- the fields make the whole text
pub form_from_fields : (word : List ℕ) (hundreds years month day hour minute second year : ℕ) →
    HasFields word hundreds years month day hour minute second →
    year ≡ 100 * hundreds + years → word ≡ date_form year month day hour minute second
unfolding date_form
form_from_fields word hundreds years month day hour minute second year f e =
    let few = f.years_at.0 in
    let century : hundreds ≡ year / 100 = omega arith in
    let tens : digit (years / 10) ≡ digit (year / 10) = omega arith in
    let ones : digit years ≡ digit year = omega arith in
    text_from_reads word (date_form year month day hour minute second) f.long (
      f.hundreds_at.1 ∙ ap (λ (n : ℕ). digit (n / 10)) century,
      (
        f.hundreds_at.2 ∙ ap digit century,
        (
          f.years_at.1 ∙ tens,
          (
            f.years_at.2 ∙ ones,
            (
              f.parted.0,
              (
                f.month_at.1,
                (
                  f.month_at.2,
                  (
                    f.parted.1,
                    (
                      f.day_at.1,
                      (
                        f.day_at.2,
                        (
                          f.parted.2,
                          (
                            f.hour_at.1,
                            (
                              f.hour_at.2,
                              (f.parted.3, (f.minute_at.1, (f.minute_at.2, (f.parted.4, (f.second_at.1, (f.second_at.2, tt)))))),
                            ),
                          ),
                        ),
                      ),
                    ),
                  ),
                ),
              ),
            ),
          ),
        ),
      ),
    )
