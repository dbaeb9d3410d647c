use Rattle.std.proofs.Common.{[], arith, codes, inl, inr, refl, ◌≢◌}
use Rattle.cartridge_laws.proofs.EachElement.{each}
use Rattle.command_spec.specs.Lines.{appended_line, count_lines, date_form, date_text, label_lines, list_text, name_text, number_line}
use Rattle.command_spec.specs.Lines.{place_line, trimmed, volume_line, volume_lines}
use Rattle.command_spec.specs.Script.{no_volume_line}
use Rattle.qic_base.specs.Cartridge.{lost_places}
use Rattle.qic_base.specs.LineBytes.{IsPrintable}
use Rattle.qic_base.specs.Field.{filled}
use Rattle.std.specs.Fmt.{digits}
use Rattle.command_laws.proofs.worked_values.script.Goals as goal

pub returns-clause-read : goal.returns-clause-read
unfolding filled digits
returns-clause-read c = (
  omega arith,
  (
    codes "append a 3\nabc",
    (
      codes "list\nrestore 1\nend\n",
      (
        refl,
        record {
          front = codes "append a 3\n";
          lined = record {
            before = codes "append a 3";
            short = omega arith;
            one_line = each (λ b. b ≢ 0x0A) (codes "append a 3")
                (λ e. cc, (λ e. cc, (λ e. cc, (λ e. cc, (λ e. cc, (λ e. cc, (λ e. cc, (λ e. cc, (λ e. cc, (λ e. cc, tt))))))))));
            whole = refl;
            has = inr (inl (
              refl,
              (
                (
                  record {
                    some = omega arith;
                    fits = omega arith;
                    printable = each IsPrintable (codes "a")
                        ((omega arith, omega arith), tt);
                    begins = λ e. cc;
                    ends = λ e. cc;
                  },
                  refl,
                ),
                ((record { digits = refl; nine = omega arith }, omega arith, omega arith), tt),
              ),
            ));
          };
          not_end = λ e. cc;
          whole = refl;
          kept = refl;
        },
        (
          omega arith,
          (
            codes "list\n",
            (
              codes "restore 1\nend\n",
              (
                refl,
                record {
                  front = codes "list\n";
                  lined = record {
                    before = codes "list";
                    short = omega arith;
                    one_line = each (λ b. b ≢ 0x0A) (codes "list")
                        (λ e. cc, (λ e. cc, (λ e. cc, (λ e. cc, tt))));
                    whole = refl;
                    has = inl (refl, tt);
                  };
                  not_end = λ e. cc;
                  whole = refl;
                  kept = refl;
                },
                (
                  omega arith,
                  (
                    codes "restore 1\n",
                    (
                      codes "end\n",
                      (
                        refl,
                        record {
                          front = codes "restore 1\n";
                          lined = record {
                            before = codes "restore 1";
                            short = omega arith;
                            one_line = each (λ b. b ≢ 0x0A) (codes "restore 1")
                                (λ e. cc, (λ e. cc, (λ e. cc, (λ e. cc, (λ e. cc, (λ e. cc, (λ e. cc, (λ e. cc, (λ e. cc, tt)))))))));
                            whole = refl;
                            has = inl (refl, ((record { digits = refl; nine = omega arith }, omega arith, omega arith), tt));
                          };
                          not_end = λ e. cc;
                          whole = refl;
                          kept = refl;
                        },
                        ([], refl),
                      ),
                    ),
                  ),
                ),
              ),
            ),
          ),
        ),
      ),
    ),
  ),
)

pub returns-clause-append : goal.returns-clause-append
unfolding digits number_line place_line date_form date_text trimmed name_text appended_line volume_line volume_lines list_text label_lines
    count_lines filled lost_places
returns-clause-append c = λ d table. refl

pub returns-clause-list : goal.returns-clause-list
unfolding digits number_line place_line date_form date_text trimmed name_text appended_line volume_line volume_lines list_text label_lines
    count_lines filled lost_places
returns-clause-list c = refl

pub returns-clause-restore : goal.returns-clause-restore
unfolding digits number_line place_line date_form date_text trimmed name_text appended_line volume_line volume_lines list_text label_lines
    count_lines filled lost_places
returns-clause-restore c = refl

pub returns-clause-refused_full : goal.returns-clause-refused_full
unfolding digits number_line place_line date_form date_text trimmed name_text appended_line volume_line volume_lines list_text label_lines
    count_lines filled lost_places
returns-clause-refused_full c = refl

pub returns-clause-refused_no_volume : goal.returns-clause-refused_no_volume
unfolding digits number_line place_line date_form date_text trimmed name_text appended_line volume_line volume_lines list_text label_lines
    count_lines filled lost_places no_volume_line
returns-clause-refused_no_volume c = refl

pub returns-clause-refused_lost : goal.returns-clause-refused_lost
unfolding digits number_line place_line date_form date_text trimmed name_text appended_line volume_line volume_lines list_text label_lines
    count_lines filled lost_places
returns-clause-refused_lost c = refl

pub returns-clause-refused_mismatch : goal.returns-clause-refused_mismatch
unfolding digits number_line place_line date_form date_text trimmed name_text appended_line volume_line volume_lines list_text label_lines
    count_lines filled lost_places
returns-clause-refused_mismatch c = refl

pub returns-clause-refused_protected : goal.returns-clause-refused_protected
unfolding digits number_line place_line date_form date_text trimmed name_text appended_line volume_line volume_lines list_text label_lines
    count_lines filled lost_places
returns-clause-refused_protected c = refl

pub returns-clause-refused_place : goal.returns-clause-refused_place
unfolding digits number_line place_line date_form date_text trimmed name_text appended_line volume_line volume_lines list_text label_lines
    count_lines filled lost_places
returns-clause-refused_place c = refl
