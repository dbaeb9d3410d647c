use Rattle.cartridge_laws.proofs.FreshMarks.{shown_are_words, marks_are_one, fresh_area_is_one}
use Rattle.cartridge_laws.proofs.fresh_headers.marks_are_one.Goals as goal

pub returns-clause-shown : goal.returns-clause-shown
returns-clause-shown c = shown_are_words

pub returns-clause-marks : goal.returns-clause-marks
returns-clause-marks c = marks_are_one

pub returns-clause-fresh : goal.returns-clause-fresh
returns-clause-fresh c = fresh_area_is_one
