-- What is known of a dump that was opened.
use Rattle.std.proofs.Common.{◌≡◌, ◌≤◌, ◌-◌, ◌*◌, ℕ, Bool, not, List, [], length, count_by, Option, Some, None, refl, sym, ap, subst, ◌∙◌}
use Rattle.std.proofs.Common.{arith}
use Rattle.std.specs.Prelude.{Ok, Err}
use Rattle.std.specs.List.{range_with_len}
use Rattle.std.proofs.lemmas.List.Sums.{count_by-le-length}
use Rattle.std.proofs.lemmas.List.FromFn.{length-range_with_len}
use Rattle.dump_lists.specs.Masks.{IsMissingSet}
use Rattle.dump_reader.specs.Laid.{Describes}
use Rattle.dump_reader.specs.Piece.{IsDumpIn}
use Rattle.dump_reader.specs.declared.known.KnownDump.{KnownDump}
use Rattle.dump_spec.specs.Answers.{Inputs, Known, IsKnown, sure_refusal, first_of, map_blocks, missing_spans, listed_bad}
use Rattle.dump_spec.specs.Dump.{Dump}
use Rattle.dump_spec.specs.Dump as dumps
use Rattle.dump_spec.specs.HeaderPlace.{FoundHeader, IsHeader}
use Rattle.dump_spec.specs.Lists.{Span, is_missing}
use Rattle.dump_spec.specs.Masks.{dump_mask}
use Rattle.dump_spec.specs.Pieces.{Layout, first_segment, longest_piece}
use Rattle.dump_spec.specs.declared.asked.Asked.{Asked}
use Rattle.dump_spec.specs.declared.form.Form.{Form}
use Rattle.dump_spec.specs.declared.form.Form.TheVariants as forms
use Rattle.dump_volumes.specs.declared.info.ToldHeader.{ToldHeader}
use Rattle.dump_volumes.specs.Told.{IsTold}
use Rattle.dump_opening.specs.Headers.{area_of, foreign_of, HasHeader, IsHeaderOf, OpensHeader}
use Rattle.dump_opening.specs.Opened.{IsOpened, Opens}
use Rattle.dump_opening.specs.Sizes.{IsSize, Measures, most_of}
use Rattle.dump_opening.specs.Texts.{HaveTexts, IsRescuedBy, ReadsTexts}
use Rattle.dump_opening.specs.declared.opened.OpenError.{OpenError}
use Rattle.dump_opening.specs.declared.opened.OpenError.TheVariants as error
use Rattle.dump_opening.specs.declared.size.DumpSize.{DumpSize}
use Rattle.dump_opening.proofs.Heading.{one_header}
use Rattle.dump_opening.proofs.Refusing.{early_answer, foreign_answer, length_alone, length_refused, length_taken, text_refused}
use Rattle.dump_opening.proofs.Rescuing.{dump_by, dump_is, set_is}

-- ---- no dump that is taken is longer than the words of its sectors

of_pieces : (form : Form) (count : ℕ) → count ≤ 65536 → longest_piece form * count ≤ 32768 * 65536
of_pieces forms.Sectors count few = omega arith
of_pieces forms.Data count few = omega arith

few_pieces : (first : ℕ) (spans : List Span) → count_by (λ segment. not (is_missing spans segment)) (range_with_len first (65536 - first))
    ≤ 65536
few_pieces first spans =
    omega (
      arith,
      count_by-le-length (λ segment. not (is_missing spans segment)) (range_with_len first (65536 - first)),
      length-range_with_len first (65536 - first),
    )

pub few_bytes : (asked : Asked) (bytes : List ℕ) (spans : List Span) → most_of asked bytes spans ≤ 32768 * 65536
few_bytes asked bytes spans =
    of_pieces asked.form _ (few_pieces (first_segment asked.form asked.first bytes) spans)

-- ---- the dump and its layout, by the inputs

pub record IsLaid (inputs : Inputs) (asked : Asked) (dump : Dump) (layout : Layout) : Type 0 where
  pub bytes : dump.bytes ≡ inputs.dump
  pub rescued : dumps.IsRescuedBy (map_blocks inputs.map) dump
  pub form : layout.form ≡ asked.form
  pub first : layout.first ≡ first_of inputs asked
  pub missing : layout.missing ≡ missing_spans inputs.missing

laid_known : (inputs : Inputs) (asked : Asked) (known : Known) → IsKnown inputs asked known → IsLaid inputs asked known.dump known.layout
laid_known inputs asked known is = record {
  bytes = is.bytes;
  rescued = is.rescued;
  form = is.form;
  first = is.first;
  missing = is.missing;
}

-- what is known before the header is
pub record IsSoFar (inputs : Inputs) (asked : Asked) (known : KnownDump) : Type 0 where
  pub form : known.form ≡ asked.form
  pub bytes : length inputs.dump ≡ known.bytes
  pub rescued : IsRescuedBy (map_blocks inputs.map) known.rescued.now
  pub covers : length inputs.dump ≤ 32768 * length known.rescued.now
  pub first : known.first ≡ first_of inputs asked
  pub missing : IsMissingSet (missing_spans inputs.missing) known.missing.now
  pub masks : known.masks.now ≡ []

dump_in : (inputs : Inputs) (asked : Asked) (known : KnownDump) (told : Option (List ℕ)) (dump : Dump) (layout : Layout) →
    told ≡ Some inputs.dump → IsSoFar inputs asked known → IsLaid inputs asked dump layout → IsDumpIn told known.rescued.now dump
dump_in inputs asked known told dump layout tells so laid = record {
  bytes = tells ∙ ap Some (sym laid.bytes);
  covers = subst (λ (bytes : List ℕ). length bytes ≤ 32768 * length known.rescued.now) (sym laid.bytes) so.covers;
  set = set_is (map_blocks inputs.map) known.rescued.now dump so.rescued laid.rescued;
}

missing_in : (inputs : Inputs) (asked : Asked) (known : KnownDump) (dump : Dump) (layout : Layout) → IsSoFar inputs asked known →
    IsLaid inputs asked dump layout → IsMissingSet layout.missing known.missing.now
missing_in inputs asked known dump layout so laid =
    subst (λ (spans : List Span). IsMissingSet spans known.missing.now) (sym laid.missing) so.missing

pub describes : (inputs : Inputs) (asked : Asked) (known : KnownDump) (told : Option (List ℕ)) (dump : Dump) (layout : Layout) →
    told ≡ Some inputs.dump → IsSoFar inputs asked known → IsLaid inputs asked dump layout → Describes known told dump layout
describes inputs asked known told dump layout tells so laid = record {
  is = dump_in inputs asked known told dump layout tells so laid;
  long = ap length laid.bytes ∙ so.bytes;
  laid = record {
    form = laid.form ∙ sym so.form;
    first = laid.first ∙ sym so.first;
    missing = missing_in inputs asked known dump layout so laid;
    masks = λ segment within. absurd (omega (arith, ap length so.masks, within));
  };
}

-- ---- something is known

abbrev pub layout_of : Inputs → Asked → Option FoundHeader → Layout
layout_of inputs asked found = record {
  form = asked.form;
  first = first_of inputs asked;
  missing = missing_spans inputs.missing;
  masks = dump_mask (area_of found) (listed_bad inputs.bad);
}

abbrev pub known_of : Inputs → Asked → Option FoundHeader → Known
known_of inputs asked found = record {
  dump = dump_by inputs.dump (map_blocks inputs.map);
  layout = layout_of inputs asked found;
  zero_lost = asked.zero_lost;
  header = found;
}

laid_of : (inputs : Inputs) (asked : Asked) (found : Option FoundHeader) →
    IsLaid inputs asked (known_of inputs asked found).dump (known_of inputs asked found).layout
laid_of inputs asked found = record {
  bytes = refl;
  rescued = dump_is inputs.dump (map_blocks inputs.map);
  form = refl;
  first = refl;
  missing = refl;
}

pub is_known : (inputs : Inputs) (asked : Asked) (known : KnownDump) (told : Option (List ℕ)) (found : Option FoundHeader) →
    told ≡ Some inputs.dump → IsSoFar inputs asked known → IsHeaderOf inputs.header known told asked.zero_lost found →
    IsKnown inputs asked (known_of inputs asked found)
is_known inputs asked known told found tells so is =
    let laid = laid_of inputs asked found in
    record {
      bytes = laid.bytes;
      rescued = laid.rescued;
      form = refl;
      first = refl;
      missing = refl;
      masks = λ segment. refl;
      zero_lost = refl;
      header = is (known_of inputs asked found).dump (known_of inputs asked found).layout
          (describes inputs asked known told (known_of inputs asked found).dump (known_of inputs asked found).layout tells so laid);
    }

-- ---- the header of all that is known is the one that was found

pub header_is : (inputs : Inputs) (asked : Asked) (sofar : KnownDump) (told : Option (List ℕ)) (found : Option FoundHeader)
    (known : Known) →
    told ≡ Some inputs.dump → IsSoFar inputs asked sofar → IsHeaderOf inputs.header sofar told asked.zero_lost found →
    IsKnown inputs asked known → found ≡ known.header
header_is inputs asked sofar told found known tells so is known_is =
    one_header inputs.header known.dump known.layout asked.zero_lost found known.header
    (is known.dump known.layout (describes inputs asked sofar told known.dump known.layout tells so
    (laid_known inputs asked known known_is)))
    (subst (λ (z : Bool). IsHeader inputs.header known.dump known.layout z known.header) known_is.zero_lost known_is.header)

-- ---- the dump is open

pub opened_is : (inputs : Inputs) (asked : Asked) (sofar : KnownDump) (size : DumpSize) (words masks : List ℕ)
    (told before : Option (List ℕ)) (header : Option ToldHeader) → sure_refusal inputs.sure ≡ None → before ≡ Some inputs.dump →
    told ≡ Some inputs.dump →
    HaveTexts inputs.map inputs.missing inputs.bad sofar.rescued.now sofar.missing.now words →
    IsSize asked inputs.dump (missing_spans inputs.missing) size → IsSoFar inputs asked sofar →
    HasHeader (IsHeaderOf inputs.header sofar before asked.zero_lost) (listed_bad inputs.bad) masks (Ok header) →
    IsOpened inputs asked told sofar.rescued.now sofar.missing.now masks (record {
      form = asked.form;
      bytes = size.bytes;
      first = size.first;
      zero_lost = asked.zero_lost;
      header = header;
    })
opened_is inputs asked sofar size words masks told before header sure told_is tells texts sized so has =
    let same : (known : Known) → IsKnown inputs asked known → has.found ≡ known.header = λ known is.
    header_is inputs asked sofar before has.found known told_is so has.is is in
    record {
      passed = length_alone inputs asked sure texts.map_taken texts.missing_taken texts.bad_taken ∙ length_taken inputs asked sized.few;
      some = (known_of inputs asked has.found, is_known inputs asked sofar before has.found told_is so has.is);
      taken = λ known is. subst (λ (found : Option FoundHeader). foreign_of found ≡ None) (same known is) has.taken.0;
      holds = λ known is. record {
        is = dump_in inputs asked sofar told known.dump known.layout tells so (laid_known inputs asked known is);
        bytes = ap length is.bytes ∙ sym sized.bytes_are;
        form = is.form;
        first = is.first ∙ sym sized.first;
        missing_set = missing_in inputs asked sofar known.dump known.layout so (laid_known inputs asked known is);
        masks_are = λ segment within.
            has.masked segment within
            ∙ ap (λ (found : Option FoundHeader). dump_mask (area_of found) (listed_bad inputs.bad) segment) (same known is)
            ∙ sym (is.masks segment);
        zero_lost = is.zero_lost;
        header = subst (λ (found : Option FoundHeader). IsTold found header) (same known is) has.taken.1;
      };
    }

-- ---- the header is refused

pub header_refused : (inputs : Inputs) (asked : Asked) (sofar : KnownDump) (size : DumpSize) (words masks rescued missing : List ℕ)
    (told before : Option (List ℕ)) (e : OpenError) → sure_refusal inputs.sure ≡ None → before ≡ Some inputs.dump →
    HaveTexts inputs.map inputs.missing inputs.bad sofar.rescued.now sofar.missing.now words →
    IsSize asked inputs.dump (missing_spans inputs.missing) size → IsSoFar inputs asked sofar →
    OpensHeader (IsHeaderOf inputs.header sofar before asked.zero_lost) (listed_bad inputs.bad) masks (Err e) →
    Opens inputs asked told rescued missing masks (Err e)
header_refused inputs asked sofar size words masks rescued missing told before (error.Refused status) sure told_is texts sized so has =
    foreign_answer inputs asked (known_of inputs asked has.found) status
    (length_alone inputs asked sure texts.map_taken texts.missing_taken texts.bad_taken ∙ length_taken inputs asked sized.few)
    (is_known inputs asked sofar before has.found told_is so has.is)
    has.taken
header_refused inputs asked sofar size words masks rescued missing told before error.Input sure told_is texts sized so has = tt

-- ---- or what stands in front of it

pub texts_refused : (inputs : Inputs) (asked : Asked) (rescued lacking words kept missing masks : List ℕ) (told : Option (List ℕ))
    (e : OpenError) → sure_refusal inputs.sure ≡ None →
    ReadsTexts inputs.map inputs.missing inputs.bad rescued lacking words (Err e) → Opens inputs asked told kept missing masks (Err e)
texts_refused inputs asked rescued lacking words kept missing masks told (error.Refused status) sure reads =
    early_answer inputs asked status (text_refused inputs asked status sure reads)
texts_refused inputs asked rescued lacking words kept missing masks told error.Input sure reads = tt

pub size_refused : (inputs : Inputs) (asked : Asked) (rescued lacking words kept missing masks : List ℕ) (told : Option (List ℕ))
    (e : OpenError) → sure_refusal inputs.sure ≡ None → HaveTexts inputs.map inputs.missing inputs.bad rescued lacking words →
    Measures asked inputs.dump (missing_spans inputs.missing) (Err e) → Opens inputs asked told kept missing masks (Err e)
size_refused inputs asked rescued lacking words kept missing masks told (error.Refused status) sure texts long =
    early_answer inputs asked status
    (length_alone inputs asked sure texts.map_taken texts.missing_taken texts.bad_taken ∙ length_refused inputs asked long.0.many
    ∙ ap Some (sym long.1))
size_refused inputs asked rescued lacking words kept missing masks told error.Input sure texts long = tt
