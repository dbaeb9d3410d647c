use Rattle.std.proofs.Common.{◌≡◌, ◌∙◌, ap, ℕ, List, subst, sym}
use Rattle.command_spec.specs.Check.{IsTold}
use Rattle.command_spec.specs.Scrub.{Looked}
use Rattle.segment_mending.specs.Searching.{SearchFinds, SearchMayFind}
use Rattle.segment_mending.specs.declared.locating.Unread.{Unread}
use Rattle.segment_mending.specs.declared.locating.Unread.TheVariants.{NoHeader, Lost, Mismatch}
use Rattle.segment_mending.specs.declared.searching.Searched.{Searched}
use Rattle.segment_mending.specs.declared.searching.Searched.TheVariants.{Reads, Wrong, Fails}
use Rattle.cartridge_check.proofs.Telling.{lost_elsewhere, mismatch_elsewhere, no_header_elsewhere, read_elsewhere, wrong_elsewhere}
use Rattle.cartridge_check.proofs.verdicts.verdict_of.Goals as goal

pub returns-in-Reads-clause-told : goal.returns-in-Reads-clause-told
returns-in-Reads-clause-told c = λ c' is.
    let l : Looked = record { segment = c.args.segment; mask = c.args.usable } in
    let work : List (List ℕ) = c.args.work.now in
    let same : c.args.found ≡ Reads c.in-Reads.lost = c.in-Reads.is in
    subst (IsTold c' l) (sym c.read_but.ensures)
    (read_elsewhere c' l work c.requires.other c.in-Reads.lost (subst (λ (s : Searched). SearchMayFind l s work) same c.requires.may)
    (subst (λ (s : Searched). SearchFinds c' l s work) same is))

pub returns-in-Wrong-clause-told : goal.returns-in-Wrong-clause-told
returns-in-Wrong-clause-told c = λ c' is.
    let l : Looked = record { segment = c.args.segment; mask = c.args.usable } in
    let work : List (List ℕ) = c.args.work.now in
    let same : c.args.found ≡ Wrong c.in-Wrong.sector = c.in-Wrong.is in
    wrong_elsewhere c' l work c.requires.other c.in-Wrong.sector (subst (λ (s : Searched). SearchFinds c' l s work) same is)

pub returns-in-Fails-Lost-clause-told : goal.returns-in-Fails-Lost-clause-told
returns-in-Fails-Lost-clause-told c = λ c' is.
    let l : Looked = record { segment = c.args.segment; mask = c.args.usable } in
    let work : List (List ℕ) = c.args.work.now in
    let unread : c.in-Fails-Lost.field-0 ≡ Lost c.in-Fails-Lost.lost = rw c.in-Fails-Lost.is at c.in-Fails-Lost.field-0-is in
    let same : c.args.found ≡ Fails (Lost c.in-Fails-Lost.lost) = c.in-Fails-Lost.is ∙ ap (λ (why : Unread). Fails why) unread in
    lost_elsewhere c' l work c.requires.other c.in-Fails-Lost.lost (subst (λ (s : Searched). SearchFinds c' l s work) same is)

pub returns-in-Fails-NoHeader-clause-told : goal.returns-in-Fails-NoHeader-clause-told
returns-in-Fails-NoHeader-clause-told c = λ c' is.
    let l : Looked = record { segment = c.args.segment; mask = c.args.usable } in
    let work : List (List ℕ) = c.args.work.now in
    let unread : c.in-Fails-NoHeader.field-0 ≡ NoHeader = rw c.in-Fails-NoHeader.is at c.in-Fails-NoHeader.field-0-is in
    let same : c.args.found ≡ Fails NoHeader = c.in-Fails-NoHeader.is ∙ ap (λ (why : Unread). Fails why) unread in
    no_header_elsewhere c' l work c.requires.other (subst (λ (s : Searched). SearchMayFind l s work) same c.requires.may)
    (subst (λ (s : Searched). SearchFinds c' l s work) same is)

pub returns-in-Fails-Mismatch-clause-told : goal.returns-in-Fails-Mismatch-clause-told
returns-in-Fails-Mismatch-clause-told c = λ c' is.
    let l : Looked = record { segment = c.args.segment; mask = c.args.usable } in
    let work : List (List ℕ) = c.args.work.now in
    let unread : c.in-Fails-Mismatch.field-0 ≡ Mismatch = rw c.in-Fails-Mismatch.is at c.in-Fails-Mismatch.field-0-is in
    let same : c.args.found ≡ Fails Mismatch = c.in-Fails-Mismatch.is ∙ ap (λ (why : Unread). Fails why) unread in
    mismatch_elsewhere c' l work c.requires.other (subst (λ (s : Searched). SearchFinds c' l s work) same is)
