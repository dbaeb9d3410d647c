use Rattle.std.proofs.Common.{◌≡◌, ◌≤◌, ◌*◌, Result, Some, length, refl, sym, ap, subst, ◌∙◌, arith}
use Rattle.qic_base.proofs.Disks.{told-look}
use Rattle.dump_spec.specs.Answers.{missing_spans, listed_bad}
use Rattle.dump_opening.specs.Inputs.{TellsFile}
use Rattle.dump_opening.specs.Opened.{Opens}
use Rattle.dump_opening.specs.declared.opened.OpenError.{OpenError}
use Rattle.dump_opening.specs.declared.opened.Opened.{Opened}
use Rattle.dump_opening.proofs.Knowing.{few_bytes, header_refused, opened_is, size_refused, texts_refused}
use Rattle.command_laws.proofs.Passing.{passed}
use Rattle.dump_opening.proofs.opening.open_dump.Goals as goal

pub returns-in_err-read_texts-clause-opens : goal.returns-in_err-read_texts-clause-opens
returns-in_err-read_texts-clause-opens g c = λ inputs tells sure.
    let e : OpenError = c.in_err-read_texts.field-0.0 in
    let reads = c.in_err-read_texts.ensures.reads inputs.map inputs.missing inputs.bad tells.map tells.missing tells.bad in
    subst (λ (r : Result Opened OpenError).
    Opens inputs c.args.asked.now (g.D.Disk.means.told c.read_texts.new.files.dump) c.read_texts.new.rescued c.read_texts.new.missing
    c.read_texts.new.words r) (sym (passed c.from_residual.result e c.from_residual.ensures.1))
    (texts_refused inputs c.args.asked.now c.read_texts.new.rescued c.read_texts.new.missing c.read_texts.new.words
    c.read_texts.new.rescued c.read_texts.new.missing c.read_texts.new.words
    (g.D.Disk.means.told c.read_texts.new.files.dump) e sure reads)

pub returns-in_err-size-clause-opens : goal.returns-in_err-size-clause-opens
returns-in_err-size-clause-opens g c = λ inputs tells sure.
    let e : OpenError = c.in_err-size.field-0.0 in
    let texts = c.in_ok-read_texts.ensures.reads inputs.map inputs.missing inputs.bad tells.map tells.missing tells.bad in
    let first_told : g.D.Disk.means.told c.read_texts.new.files.dump ≡ Some inputs.dump =
    ap g.D.Disk.means.told c.in_ok-read_texts.ensures.dump ∙ tells.dump in
    let long = c.in_err-size.ensures.measures inputs.dump (missing_spans inputs.missing) first_told texts.missing_set in
    subst (λ (r : Result Opened OpenError).
    Opens inputs c.args.asked.now (g.D.Disk.means.told c.measure_dump.new.disk) c.read_texts.new.rescued c.read_texts.new.missing
    c.read_texts.new.words r) (sym (passed c.from_residual-in_err-size.result e c.from_residual-in_err-size.ensures.1))
    (size_refused inputs c.args.asked.now c.read_texts.new.rescued c.read_texts.new.missing c.read_texts.new.words
    c.read_texts.new.rescued c.read_texts.new.missing c.read_texts.new.words
    (g.D.Disk.means.told c.measure_dump.new.disk) e sure texts long)

pub returns-in_err-header-clause-opens : goal.returns-in_err-header-clause-opens
returns-in_err-header-clause-opens g c = λ inputs tells sure.
    let e : OpenError = c.in_err-header.field-0.0 in
    let texts = c.in_ok-read_texts.ensures.reads inputs.map inputs.missing inputs.bad tells.map tells.missing tells.bad in
    let first_told : g.D.Disk.means.told c.read_texts.new.files.dump ≡ Some inputs.dump =
    ap g.D.Disk.means.told c.in_ok-read_texts.ensures.dump ∙ tells.dump in
    let sized = c.in_ok-size.ensures.measures inputs.dump (missing_spans inputs.missing) first_told texts.missing_set in
    let then_told : g.D.Disk.means.told c.measure_dump.new.disk ≡ Some inputs.dump =
    told-look c.in_ok-size.ensures.looked ∙ first_told in
    let header_tells : TellsFile g.D.Disk.means c.read_texts.new.files.header inputs.header =
    subst (λ file. TellsFile g.D.Disk.means file inputs.header) (sym c.in_ok-read_texts.ensures.header) tells.header in
    let most : length inputs.dump ≤ 32768 * 65536 =
    omega (arith, sized.few, few_bytes c.args.asked.now inputs.dump (missing_spans inputs.missing)) in
    let long : length c.read_texts.new.rescued ≡ 65536 = c.read_texts.auto.rescued ∙ c.requires.rescued in
    subst (λ (r : Result Opened OpenError).
    Opens inputs c.args.asked.now (g.D.Disk.means.told c.open_header.new.dump) c.read_texts.new.rescued c.read_texts.new.missing
    c.open_header.new.words r) (sym (passed c.from_residual-in_err-header.result e c.from_residual-in_err-header.ensures.1))
    (header_refused inputs c.args.asked.now _ c.in_ok-size.size c.read_texts.new.words c.open_header.new.words c.read_texts.new.rescued
    c.read_texts.new.missing
    (g.D.Disk.means.told c.open_header.new.dump) (g.D.Disk.means.told c.measure_dump.new.disk) e sure then_told texts sized
    (record {
      form = refl;
      bytes = sym sized.bytes_are;
      rescued = texts.map_set;
      covers = omega (arith, most, long);
      first = sized.first;
      missing = texts.missing_set;
      masks = refl;
    })
    (c.in_err-header.ensures.header inputs.header (listed_bad inputs.bad) header_tells texts.bad_set))

pub returns-clause-opens : goal.returns-clause-opens
returns-clause-opens g c = λ inputs tells sure.
    let texts = c.in_ok-read_texts.ensures.reads inputs.map inputs.missing inputs.bad tells.map tells.missing tells.bad in
    let first_told : g.D.Disk.means.told c.read_texts.new.files.dump ≡ Some inputs.dump =
    ap g.D.Disk.means.told c.in_ok-read_texts.ensures.dump ∙ tells.dump in
    let sized = c.in_ok-size.ensures.measures inputs.dump (missing_spans inputs.missing) first_told texts.missing_set in
    let then_told : g.D.Disk.means.told c.measure_dump.new.disk ≡ Some inputs.dump =
    told-look c.in_ok-size.ensures.looked ∙ first_told in
    let header_tells : TellsFile g.D.Disk.means c.read_texts.new.files.header inputs.header =
    subst (λ file. TellsFile g.D.Disk.means file inputs.header) (sym c.in_ok-read_texts.ensures.header) tells.header in
    let most : length inputs.dump ≤ 32768 * 65536 =
    omega (arith, sized.few, few_bytes c.args.asked.now inputs.dump (missing_spans inputs.missing)) in
    let long : length c.read_texts.new.rescued ≡ 65536 = c.read_texts.auto.rescued ∙ c.requires.rescued in
    opened_is inputs c.args.asked.now _ c.in_ok-size.size c.read_texts.new.words c.open_header.new.words
    (g.D.Disk.means.told c.open_header.new.dump) (g.D.Disk.means.told c.measure_dump.new.disk) c.in_ok-header.header sure then_told
    (c.in_ok-header.ensures.same ∙ then_told) texts sized
    (record {
      form = refl;
      bytes = sym sized.bytes_are;
      rescued = texts.map_set;
      covers = omega (arith, most, long);
      first = sized.first;
      missing = texts.missing_set;
      masks = refl;
    })
    (c.in_ok-header.ensures.header inputs.header (listed_bad inputs.bad) header_tells texts.bad_set)
