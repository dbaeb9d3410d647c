-- How an append ended, by what its stages did.
use Rattle.std.proofs.Common.{ℕ, List, ◌++◌, ap, ◌∙◌, ◌≡◌, ◌-◌, Option, Some, None, IfSome, subst, length, sym, arith, drop, refl, Result}
use Rattle.std.proofs.Common.{◌<◌, false, [], ◌∷◌, Err, append-nil, ◌≤◌, ◌+◌, ◌&&◌, Bool, true, cond, min, take, nat_le, nat_lt}
use Rattle.std.specs.Option.{option_map}
use Rattle.std.specs.Prelude.{slice_index}
use Rattle.std.proofs.lemmas.List.{length-append, length-take}
use Rattle.std.proofs.lemmas.List.Elements.{All-nil}
use Rattle.cartridge_laws.proofs.AppendDead.{live_written, settled_is_settled_for}
use Rattle.cartridge_laws.proofs.AppendOrders.{end_least}
use Rattle.cartridge_laws.proofs.FormatWriting.{effects-some}
use Rattle.cartridge_laws.proofs.MountSettles.{settling_settles}
use Rattle.cartridge_laws.proofs.MountWhole.{table_is_area}
use Rattle.cartridge_laws.proofs.Sayings.{data_of-parity}
use Rattle.cartridge_laws.specs.AppendSettled.{IsSettledFor}
use Rattle.cartridge_laws.specs.Table.{IsSoundList}
use Rattle.cartridge_spec.specs.Appending.{room, taken_by}
use Rattle.cartridge_spec.specs.TableSegment.{TableIs, table_cells}
use Rattle.cartridge_laws.specs.TableCells.{HasList}
use Rattle.cartridge_spec.specs.Says.{TableSays, ByCode, LostSectors, with_parity}
use Rattle.cartridge_spec.specs.Settling.{changed_by, settling_steps}
use Rattle.cartridge_spec.specs.Table.{Entry, Shows}
use Rattle.command_laws.proofs.StoreBehind.{input_behind, settled_behind}
use Rattle.command_laws.proofs.StoreEnding.{took_fits, list_more}
use Rattle.command_laws.proofs.StoreSettled.{table_sectors, table_size}
use Rattle.command_spec.specs.Append.{Taking, Fits, TooLong, TooShort, taking, Kept, room_in, input_writes, entry_acts, append_acts}
use Rattle.command_spec.specs.Append.{has_promised_room}
use Rattle.command_laws.specs.AppendTerms.{entry_for, free_in, bytes_taken, silently}
use Rattle.gf256_qic.proofs.Parities.{parity_block}
use Rattle.qic_base.proofs.Giving.{Gave-nothing}
use Rattle.qic_base.proofs.Joins.{went_both, went_then_cut, cut_is_longer}
use Rattle.qic_base.proofs.Steps.{Tells-map, Broke-front, Done-before_reads, tells_two}
use Rattle.qic_base.specs.Alone.{no_sink, reading}
use Rattle.qic_base.specs.CartridgeTerms.{IsCartridge}
use Rattle.qic_base.specs.Acts.{Outside, Act, Failing, TapeFails, SourceFails, Went, Cut, steps_of}
use Rattle.qic_base.specs.Cartridge.{Cartridge}
use Rattle.qic_base.specs.Step.{Step, effects}
use Rattle.qic_base.specs.TapeCalls.{Tells, IsToldRight}
use Rattle.qic_base.specs.Tape.{Done, Broke}
use Rattle.volume_input.proofs.Inputs.{whole_told, untold_content}
use Rattle.volume_input.specs.declared.written.Written.{Written}
use Rattle.volume_store.proofs.Taking.{given_content}
use Rattle.cartridge_front.specs.Again.{IsSettledAgain, IsRefused, IsBrokenOff, IsAdded, IsOfReading, SettlesAgain, AddsEntry, entry_writes}
use Rattle.volume_store.specs.Appending.{AppendEnds, kept_by, InputWent, InputWritten, InputBroke, InputIs, AppendRan, HasAppended}
use Rattle.volume_store.specs.Appending.{AppendCut, TableRefused, most_asked}
use Rattle.volume_store.specs.Mounting.{StoreView}
use Rattle.volume_store.specs.declared.appended.Appended.{Appended}
use Rattle.qic_base.specs.declared.store_fault.StoreFault.{StoreFault}
use Rattle.volume_input.proofs.Running.{no_text}
use Rattle.cartridge_laws.proofs.MountOnce.{one_table, not_lost}
use Rattle.qic_base.specs.SourceCalls.{input_of}
use Rattle.qic_base.specs.Tape as tapes
use Rattle.qic_base.specs.Source as sources
use Rattle.qic_base.specs.declared.store_fault.StoreFault.TheVariants as fault

-- ---- a told cartridge

-- what is told later was so of what the steps made
pub back : {T : Type 0} (m : tapes.Meaning T) (old new : T) (steps : List Step) (P : Cartridge → Type 0) →
    m.told new ≡ option_map (effects steps) (m.told old) → Tells m new P →
    Tells m old (λ c. P (changed_by steps c))
back m old new steps P done told = by_told (m.told old) (subst (λ (o : Option (Option Cartridge)). IfSome o (λ h. IfSome h P)) done told)
  where
    by_told : (o : Option (Option Cartridge)) → IfSome (option_map (effects steps) o) (λ h. IfSome h P) →
        IfSome o (λ h. IfSome h (λ c. P (changed_by steps c)))
    by_told None fact = tt
    by_told (Some None) fact = tt
    by_told (Some (Some c)) fact = subst (λ (h : Option Cartridge). IfSome h P) (effects-some steps c) fact

pub right_tells : {T : Type 0} (m : tapes.Meaning T) (x : T) → IsToldRight (m.told x) (m.size x) → Tells m x IsCartridge
right_tells m x right = by_told (m.told x) (m.size x) right
  where
    by_told : (o : Option (Option Cartridge)) (n : Option ℕ) → IsToldRight o n → IfSome o (λ h. IfSome h IsCartridge)
    by_told None n is = tt
    by_told (Some None) n is = tt
    by_told (Some (Some c)) n is = is.0

pub has_list : (c : Cartridge) (area : List (List ℕ)) (entries : List Entry) → IsCartridge c → IsSettledFor c area → Shows area entries →
    HasList c entries
has_list c area entries whole known shown =
    let size : length area ≡ 29 = table_size c area known.table in
    record {
      block = with_parity area;
      code = parity_block area (omega arith) (omega arith) (table_sectors c area whole known.table);
      agrees = live_written c area (table_is_area c area whole known.table) known.live;
      shown = subst (λ (d : List (List ℕ)). Shows d entries) (sym (data_of-parity area)) shown;
    }

-- where nothing is taken all is left
pub none_left : (left : Option (List ℕ)) → left ≡ option_map (drop 0) left
none_left None = refl
none_left (Some bytes) = refl

fits_kept : (b : Bool) (kept bytes : List ℕ) (need have : ℕ) → cond b (Fits kept) (TooLong need have) ≡ Fits bytes → kept ≡ bytes
fits_kept true kept bytes need have is = (cc)
fits_kept false kept bytes need have is = absurd (cc)

promised_kept : (b d : Bool) (kept bytes : List ℕ) (asked read need have : ℕ) →
    cond b (cond d (TooShort asked read) (Fits kept)) (TooLong need have) ≡ Fits bytes → kept ≡ bytes
promised_kept true true kept bytes asked read need have is = absurd (cc)
promised_kept true false kept bytes asked read need have is = (cc)
promised_kept false d kept bytes asked read need have is = absurd (cc)

pub fits_taken : (promised : Option ℕ) (bytes : List ℕ) → bytes_taken promised (Fits bytes) ≡ length bytes
fits_taken None bytes = refl
fits_taken (Some n) bytes = refl

-- the bytes of a volume are no more than there are, and no more than are asked for
fits_few : (have : ℕ) (promised : Option ℕ) (input bytes : List ℕ) → taking have promised input ≡ Fits bytes →
    (length bytes ≤ length input) × (length bytes ≤ most_asked have promised)
fits_few have None input bytes is =
    let all : length input ≡ length bytes = ap (λ (xs : List ℕ). length xs)
    (fits_kept (nat_le 1 have && nat_le (length input) have) input bytes (min (length input) (have + 1)) have is) in
    let within : length bytes ≤ have = (took_fits have None input bytes is).1 in
    (omega arith, omega arith)
fits_few have (Some n) input bytes is =
    let all : length (take n input) ≡ length bytes = ap (λ (xs : List ℕ). length xs)
    (promised_kept (has_promised_room have (Some n)) (nat_lt (length input) n) (take n input) bytes n (length input) n have is) in
    (omega (arith, length-take n input), omega (arith, length-take n input))

abbrev pub made : (name : List ℕ) (date start end size : ℕ) → Entry
made name date start end size = record {
  start = start;
  end = end;
  name = name;
  date = date;
  flags = 1;
  sequence = 1;
  directory = 0;
  size = size;
}

-- what is told of an end, by the store's view, is told of the answer that is that end
pub answered : (T S : Type 0) (t : tapes.Meaning T) (s : sources.Meaning S) (old new : Outside T S (Unit {0}))
    (view store after : StoreView) (name : List ℕ) (date : ℕ) (promised : Option ℕ) (end r : Result Appended StoreFault) →
    view ≡ store → r ≡ end → AppendEnds t s old new view after name date promised end →
    AppendEnds t s old new store after name date promised r
answered T S t s old new view store after name date promised end r same is ends =
    subst (λ (v : StoreView). AppendEnds t s old new v after name date promised r) same
    (subst (λ (answer : Result Appended StoreFault). AppendEnds t s old new view after name date promised answer) (sym is) ends)

-- one act of these steps that went, and one that a fault of the tape broke off
module _ {T S : Type 0} (t : tapes.Meaning T) (s : sources.Meaning S) where
  pub act_went : (x y : T) (a : S) (steps : List Step) → Done t x y steps → Went t s no_sink (reading x a) (reading y a)
      (record { steps = steps; text = [] } ∷ [])
  act_went x y a steps done = record {
    did = subst (Done t x y) (sym (append-nil steps)) done;
    wrote = record { took = refl; later = omega arith };
    source_later = omega arith;
  }

  pub broke_cut : (x y : T) (a : S) (act : Act) (rest : List Act) → Broke t x y act.steps → Cut t s no_sink (reading x a) (reading y a)
      (act ∷ rest) TapeFails
  broke_cut x y a act rest broke = record {
    front = [];
    rest = act ∷ rest;
    parts = refl;
    broke = broke;
    here = broke.torn;
    wrote = record { took = refl; later = omega arith };
    source_later = omega arith;
  }

module _ {T S : Type 0} (t : tapes.Meaning T) (s : sources.Meaning S) (store after : StoreView) (name : List ℕ) (date : ℕ)
    (promised : Option ℕ) where
  -- ---- the settling was refused, or broke off
  pub first_refused : (x0 x1 : T) (a : S) (sectors : List (List ℕ)) (why : StoreFault) →
      SettlesAgain {A = Unit {0}} t x0 x1 store.entries sectors (Err why) → IsOfReading {A = Unit {0}} (Err why) →
      Tells t x0 (λ c. HasList c store.entries) → AppendEnds t s (reading x0 a) (reading x1 a) store after name date promised (Err why)
  first_refused x0 x1 a sectors (fault.Lost segment lost) did kind lists = (
    kind.0,
    kind.1,
    record {
      acts = [];
      went = record { did = did.done; wrote = record { took = refl; later = omega arith }; source_later = omega arith };
      told = Tells-map t x0 (λ c. TableSays (table_cells c) (ByCode (LostSectors lost)))
          (λ c. ([] ≡ []) × (a ≡ a) × TableSays (table_cells c) (ByCode (LostSectors lost)))
          (λ c says. (refl, refl, says)) did.told;
      taken = 0;
      left = none_left (s.left a);
    },
  )
  first_refused x0 x1 a sectors fault.TableMismatch did kind lists = record {
    acts = [];
    went = record { did = did.done; wrote = record { took = refl; later = omega arith }; source_later = omega arith };
    told = tells_two t x0 (λ c. HasList c store.entries → ⊥) (λ c. HasList c store.entries) (λ c. ([] ≡ []) × (a ≡ a) × ⊥)
        (λ c none has. (refl, refl, none has)) did.told lists;
    taken = 0;
    left = none_left (s.left a);
  }
  first_refused x0 x1 a sectors fault.Tape did kind lists = record {
    input = input_of (s.left a);
    is_told = whole_told (s.left a) (s.left a) [] (Gave-nothing s a a refl);
    content = given_content (s.left a) (s.left a) [] (Gave-nothing s a a refl)
        (untold_content (s.left a) [] (All-nil (λ (b : ℕ). b < 256)));
    told = Tells-map t x0 (λ c. (area : List (List ℕ)) → TableIs c area → (rest : List Step) × (did.steps ++ rest ≡ settling_steps area c))
        (λ c. (table : List (List ℕ)) → TableIs c table → (reply : Entry → List ℕ) →
        Cut t s no_sink (reading x0 a) (reading x1 a)
        (append_acts (kept_by store table (settling_steps table c)) name date promised reply (input_of (s.left a))) TapeFails)
        (λ c known table is reply.
        let got = known table is in
        let kept : Kept = kept_by store table (settling_steps table c) in
        broke_cut t s x0 x1 a (record { steps = settling_steps table c; text = [] })
        (input_writes kept.words kept.entries promised (input_of (s.left a)) ++ entry_acts kept name date reply
        (taking (room_in kept) promised (input_of (s.left a))))
        (subst (Broke t x0 x1) got.1 (Broke-front got.0 did.broke))) did.told;
    acts = record { steps = did.steps; text = [] } ∷ [];
    cut = broke_cut t s x0 x1 a (record { steps = did.steps; text = [] }) [] did.broke;
    taken = 0;
    left = none_left (s.left a);
    there = omega arith;
    few = omega arith;
  }
  first_refused x0 x1 a sectors fault.NotFormatted did kind lists = absurd did
  first_refused x0 x1 a sectors (fault.Foreign field value) did kind lists = absurd did
  first_refused x0 x1 a sectors (fault.Full need room_left) did kind lists = absurd did
  first_refused x0 x1 a sectors (fault.NoVolume number count) did kind lists = absurd did
  first_refused x0 x1 a sectors (fault.Mismatch segment) did kind lists = absurd did
  first_refused x0 x1 a sectors fault.Protected did kind lists = absurd did
  first_refused x0 x1 a sectors (fault.Short asked read) did kind lists = absurd did
  first_refused x0 x1 a sectors fault.Source did kind lists = absurd did
  first_refused x0 x1 a sectors fault.Sink did kind lists = absurd did

  -- ---- the table is settled
  module _ (x0 x1 x2 : T) (a b : S) (area : List (List ℕ)) (again : IsSettledAgain t x0 x1 store.entries area) where
    abbrev first_act : Act
    first_act = record { steps = again.steps; text = [] }

    abbrev kept : Kept
    kept = kept_by store area again.steps

    first_went : Went t s no_sink (reading x0 a) (reading x1 a) (first_act ∷ [])
    first_went = act_went t s x0 x1 a again.steps again.done

    both_went : (acts : List Act) → Went t s no_sink (reading x1 a) (reading x2 b) acts → Went t s no_sink (reading x0 a) (reading x2 b)
        (first_act ∷ acts)
    both_went acts went = went_both t s no_sink no_text (reading x0 a) (reading x1 a) (reading x2 b) (first_act ∷ []) acts first_went went

    -- the input came to nothing
    pub ran_out : (became : Taking) → ((k : Kept) → entry_acts k name date silently became ≡ []) →
        InputWent t s store.words store.entries promised (reading x1 a) (reading x2 b) became →
        AppendRan t s (reading x0 a) (reading x2 b) store name date promised became
    ran_out became none went = record {
      table = area;
      settling = again.steps;
      shown = again.shown;
      known = again.told;
      input = went.input;
      is_told = went.is_told;
      content = went.content;
      took = went.took;
      went = subst (λ (last : List Act). Went t s no_sink (reading x0 a) (reading x2 b)
          (first_act ∷ (input_writes kept.words kept.entries promised went.input ++ last)))
          (sym (ap (λ (k : Taking). entry_acts kept name date silently k) went.took ∙ none kept))
          (subst (λ (acts : List Act). Went t s no_sink (reading x0 a) (reading x2 b) (first_act ∷ acts))
          (sym (append-nil (input_writes kept.words kept.entries promised went.input)))
          (both_went (input_writes kept.words kept.entries promised went.input) went.went));
      left = went.left;
    }

    -- a fault cut it off
    pub ran_into : (failing : Failing) → InputBroke t s store.words store.entries promised (reading x1 a) (reading x2 b) failing →
        AppendCut t s (reading x0 a) (reading x2 b) store name date promised failing
    ran_into failing broke = record {
      input = broke.input;
      is_told = broke.is_told;
      content = broke.content;
      told = Tells-map t x0 (λ c. TableIs c area × (again.steps ≡ settling_steps area c))
          (λ c. (table : List (List ℕ)) → TableIs c table → (reply : Entry → List ℕ) →
          Cut t s no_sink (reading x0 a) (reading x2 b)
          (append_acts (kept_by store table (settling_steps table c)) name date promised reply broke.input) failing)
          (λ c known table is reply.
          let same : again.steps ≡ settling_steps table c = known.1 ∙ ap (λ (d : List (List ℕ)). settling_steps d c)
          (one_table c area table known.0 is) in
          subst (λ (ss : List Step). Cut t s no_sink (reading x0 a) (reading x2 b)
          (append_acts (kept_by store table ss) name date promised reply broke.input) failing) same
          (cut_before (entry_acts (kept_by store table again.steps) name date reply
          (taking (room_in (kept_by store table again.steps)) promised broke.input)))) again.told;
      acts = first_act ∷ input_writes kept.words kept.entries promised broke.input;
      cut = went_then_cut t s no_sink no_text (reading x0 a) (reading x1 a) (reading x2 b) (first_act ∷ [])
          (input_writes kept.words kept.entries promised broke.input) failing first_went broke.cut;
      taken = broke.taken;
      left = broke.left;
      there = broke.there;
      few = broke.few;
    }
      where
        cut_before : (last : List Act) → Cut t s no_sink (reading x0 a) (reading x2 b)
            (first_act ∷ (input_writes kept.words kept.entries promised broke.input ++ last)) failing
        cut_before last =
            went_then_cut t s no_sink no_text (reading x0 a) (reading x1 a) (reading x2 b) (first_act ∷ [])
            (input_writes kept.words kept.entries promised broke.input ++ last) failing first_went
            (cut_is_longer t s no_sink (reading x1 a) (reading x2 b) (input_writes kept.words kept.entries promised broke.input) last
            failing broke.cut)

    pub input_refused : (why : StoreFault) → InputIs t s store.words store.entries promised (reading x1 a) (reading x2 b) (Err why) →
        AppendEnds t s (reading x0 a) (reading x2 b) store after name date promised (Err why)
    input_refused (fault.Full need room_left) is = ran_out (TooLong need room_left) (λ k. refl) is
    input_refused (fault.Short asked read) is = ran_out (TooShort asked read) (λ k. refl) is
    input_refused fault.Source is = ran_into SourceFails is
    input_refused fault.Tape is = ran_into TapeFails is
    input_refused fault.NotFormatted is = absurd is
    input_refused (fault.Foreign field value) is = absurd is
    input_refused fault.TableMismatch is = absurd is
    input_refused (fault.NoVolume number count) is = absurd is
    input_refused (fault.Lost segment lost) is = absurd is
    input_refused (fault.Mismatch segment) is = absurd is
    input_refused fault.Protected is = absurd is
    input_refused fault.Sink is = absurd is

    -- ---- and the input was written
    module _ (x3 : T) (written : Written) (size : ℕ) (sized : size ≡ written.bytes)
        (order : IsSoundList (length store.words - 1) store.entries) (unprotected : Tells t x0 (λ c. c.info.protected ≡ false))
        (whole : Tells t x2 IsCartridge)
        (wrote : InputWritten t s store.words store.entries promised (reading x1 a) (reading x2 b) written) where
      abbrev new : Entry
      new = made name date written.start written.end size

      abbrev input : List ℕ
      input = wrote.went.input

      abbrev ins : List Act
      ins = input_writes kept.words kept.entries promised input

      pub entry_is : new ≡ entry_for kept name date wrote.bytes
      entry_is =
          let segments : List ℕ = taken_by store.words (length wrote.bytes) (free_in kept) in
          ap (λ (n : ℕ). made name date n written.end size) wrote.start
          ∙ ap (λ (n : ℕ). made name date (slice_index segments 0) n size) wrote.end
          ∙ ap (made name date (slice_index segments 0) (slice_index segments (length segments - 1))) (sized ∙ wrote.count)

      pub new_order : IsSoundList (length store.words - 1) (store.entries ++ new ∷ [])
      new_order =
          let fit = took_fits (room_in kept) promised input wrote.bytes wrote.went.took in
          subst (λ (e : Entry). IsSoundList (length store.words - 1) (store.entries ++ e ∷ [])) (sym entry_is)
          (list_more store.words store.entries name date (length wrote.bytes) order fit.0 fit.1)

      -- what is known of the told cartridge, whose list is to be written
      abbrev Now : (Cartridge → Type 0) → Cartridge → Type 0
      Now P c = P (changed_by (steps_of ins) (changed_by again.steps c))

      backed : (P : Cartridge → Type 0) → Tells t x2 P → Tells t x0 (Now P)
      backed P fact = back t x0 x1 again.steps (λ d. P (changed_by (steps_of ins) d)) again.done.told
          (back t x1 x2 (steps_of ins) P wrote.went.went.did.told fact)

      at_settled : Tells t x0 (Now (λ d. IsSettledFor d area))
      at_settled =
          tells_two t x0 (λ c. TableIs c area × (again.steps ≡ settling_steps area c)) (λ c. c.info.protected ≡ false)
          (Now (λ d. IsSettledFor d area))
          (λ c known mark. settled_behind (changed_by again.steps c) area (steps_of ins)
          (input_behind kept.words kept.entries promised input (end_least 2 (length store.words - 1) store.entries order))
          (subst (λ (d : Cartridge). IsSettledFor d area)
          (sym (ap (λ (ss : List Step). changed_by ss c) known.1 ∙ settling_settles c area known.0))
          (settled_is_settled_for c area known.0 mark)))
          again.told unprotected

      all_went : Went t s no_sink (reading x0 a) (reading x2 b) (first_act ∷ ins)
      all_went = both_went ins wrote.went.went

      refused : (Says Q : Cartridge → Type 0) → ((c : Cartridge) → IsCartridge c → IsSettledFor c area → Q c → ⊥) → IsRefused t x2 x3 Q →
          TableRefused t s (reading x0 a) (reading x3 b) Says
      refused Says Q never did = record {
        acts = first_act ∷ ins;
        went = record { did = Done-before_reads all_went.did did.done; wrote = all_went.wrote; source_later = all_went.source_later };
        told = tells_two t x0 (Now (λ d. IsCartridge d × Q d)) (Now (λ d. IsSettledFor d area))
            (λ c. ((first_act ∷ ins) ≡ []) × (b ≡ a) × Says c)
            (λ c both known. absurd (never (changed_by (steps_of ins) (changed_by again.steps c)) both.0 known both.1))
            (backed (λ d. IsCartridge d × Q d)
            (tells_two t x2 IsCartridge Q (λ d. IsCartridge d × Q d) (λ d one other. (one, other)) whole did.told)) at_settled;
        taken = bytes_taken promised (Fits wrote.bytes);
        left = wrote.went.left;
      }

      few_taken : (bytes_taken promised (Fits wrote.bytes) ≤ length input)
          × (bytes_taken promised (Fits wrote.bytes) ≤ most_asked (room store.words store.entries) promised)
      few_taken =
          subst (λ (n : ℕ). (n ≤ length input) × (n ≤ most_asked (room store.words store.entries) promised))
          (sym (fits_taken promised wrote.bytes))
          (fits_few (room store.words store.entries) promised input wrote.bytes wrote.went.took)

      cut_last : (act : Act) → Broke t x2 x3 act.steps → Cut t s no_sink (reading x0 a) (reading x3 b)
          (first_act ∷ (ins ++ act ∷ [])) TapeFails
      cut_last act broke =
          went_then_cut t s no_sink no_text (reading x0 a) (reading x2 b) (reading x3 b) (first_act ∷ ins) (act ∷ []) TapeFails all_went
          (broke_cut t s x2 x3 b act [] broke)

      broken : IsBrokenOff t x2 x3 (λ d c. entry_writes store.entries new d) →
          AppendCut t s (reading x0 a) (reading x3 b) store name date promised TapeFails
      broken did = record {
        input = input;
        is_told = wrote.went.is_told;
        content = wrote.went.content;
        told = tells_two t x0 (λ c. (TableIs c area × (again.steps ≡ settling_steps area c)) × Now (λ d. IsSettledFor d area) c)
            (Now (λ d. (data_of : List (List ℕ)) → TableIs d data_of → (rest : List Step)
            × (did.steps ++ rest ≡ entry_writes store.entries new data_of)))
            (λ c. (table : List (List ℕ)) → TableIs c table → (reply : Entry → List ℕ) →
            Cut t s no_sink (reading x0 a) (reading x3 b)
            (append_acts (kept_by store table (settling_steps table c)) name date promised reply input) TapeFails)
            (λ c known more table is reply.
            let got = more area known.1.table in
            let one : area ≡ table = one_table c area table known.0.0 is in
            let same : again.steps ≡ settling_steps table c = known.0.1 ∙ ap (λ (d : List (List ℕ)). settling_steps d c) one in
            let writes : did.steps ++ got.0 ≡ entry_writes store.entries (entry_for kept name date wrote.bytes) table =
            got.1 ∙ ap (λ (e : Entry). entry_writes store.entries e area) entry_is
            ∙ ap (λ (d : List (List ℕ)). entry_writes store.entries (entry_for kept name date wrote.bytes) d) one in
            let act : Act = record {
              steps = entry_writes store.entries (entry_for kept name date wrote.bytes) table;
              text = reply (entry_for kept name date wrote.bytes);
            } in
            subst (λ (ss : List Step). Cut t s no_sink (reading x0 a) (reading x3 b)
            (append_acts (kept_by store table ss) name date promised reply input) TapeFails) same
            (subst (λ (k : Taking). Cut t s no_sink (reading x0 a) (reading x3 b)
            (first_act ∷ (ins ++ entry_acts (kept_by store table again.steps) name date reply k)) TapeFails) (sym wrote.went.took)
            (cut_last act (subst (Broke t x2 x3) writes (Broke-front got.0 did.broke)))))
            (tells_two t x0 (λ c. TableIs c area × (again.steps ≡ settling_steps area c)) (Now (λ d. IsSettledFor d area))
            (λ c. (TableIs c area × (again.steps ≡ settling_steps area c)) × Now (λ d. IsSettledFor d area) c)
            (λ c known settled_now. (known, settled_now)) again.told at_settled)
            (backed (λ d. (data_of : List (List ℕ)) → TableIs d data_of → (rest : List Step)
            × (did.steps ++ rest ≡ entry_writes store.entries new data_of)) did.told);
        acts = first_act ∷ (ins ++ record { steps = did.steps; text = [] } ∷ []);
        cut = cut_last (record { steps = did.steps; text = [] }) did.broke;
        taken = bytes_taken promised (Fits wrote.bytes);
        left = wrote.went.left;
        there = few_taken.0;
        few = few_taken.1;
      }

      pub entry_refused : (why : StoreFault) → AddsEntry {A = Unit {0}} t x2 x3 store.entries new (Err why) →
          IsOfReading {A = Unit {0}} (Err why) →
          AppendEnds t s (reading x0 a) (reading x3 b) store after name date promised (Err why)
      entry_refused (fault.Lost segment lost) did kind = (
        kind.0,
        kind.1,
        refused (λ c. TableSays (table_cells c) (ByCode (LostSectors lost))) (λ c. TableSays (table_cells c) (ByCode (LostSectors lost)))
            (λ c is known says. not_lost c area lost known.table says) did,
      )
      entry_refused fault.TableMismatch did kind =
          refused (λ c. ⊥) (λ c. HasList c store.entries → ⊥) (λ c is known none. none (has_list c area store.entries is known again.shown))
          did
      entry_refused fault.Tape did kind = broken did
      entry_refused fault.NotFormatted did kind = absurd did
      entry_refused (fault.Foreign field value) did kind = absurd did
      entry_refused (fault.Full need room_left) did kind = absurd did
      entry_refused (fault.NoVolume number count) did kind = absurd did
      entry_refused (fault.Mismatch segment) did kind = absurd did
      entry_refused fault.Protected did kind = absurd did
      entry_refused (fault.Short asked read) did kind = absurd did
      entry_refused fault.Source did kind = absurd did
      entry_refused fault.Sink did kind = absurd did

      pub added : (appended : Appended) → IsAdded t x2 x3 store.entries new → after.entries ≡ store.entries ++ new ∷ [] →
          appended.number ≡ length after.entries →
          appended.bytes ≡ size → appended.start ≡ written.start → appended.end ≡ written.end →
          HasAppended t s (reading x0 a) (reading x3 b) store after name date promised appended
      added appended did list number count start end =
          let act : Act = record { steps = entry_writes store.entries new did.area; text = [] } in
          let last_went : Went t s no_sink (reading x2 b) (reading x3 b) (act ∷ []) = act_went t s x2 x3 b act.steps did.done in
          let whole_went : Went t s no_sink (reading x0 a) (reading x3 b) (first_act ∷ (ins ++ act ∷ [])) =
          went_both t s no_sink no_text (reading x0 a) (reading x2 b) (reading x3 b) (first_act ∷ ins) (act ∷ []) all_went last_went in
          let is : act ≡ record { steps = entry_writes store.entries (entry_for kept name date wrote.bytes) did.area; text = [] } =
          ap (λ (e : Entry). record { steps = entry_writes store.entries e did.area; text = [] }) entry_is in
          let ran : AppendRan t s (reading x0 a) (reading x3 b) store name date promised (Fits wrote.bytes) = record {
            table = did.area;
            settling = again.steps;
            shown = did.shown;
            known = tells_two t x0 (λ c. (TableIs c area × (again.steps ≡ settling_steps area c)) × Now (λ d. IsSettledFor d area) c)
                (Now (λ d. TableIs d did.area))
                (λ c. TableIs c did.area × (again.steps ≡ settling_steps did.area c))
                (λ c known there.
                let one : area ≡ did.area = one_table (changed_by (steps_of ins) (changed_by again.steps c)) area did.area known.1.table
                there in
                subst (λ (d : List (List ℕ)). TableIs c d × (again.steps ≡ settling_steps d c)) one known.0)
                (tells_two t x0 (λ c. TableIs c area × (again.steps ≡ settling_steps area c)) (Now (λ d. IsSettledFor d area))
                (λ c. (TableIs c area × (again.steps ≡ settling_steps area c)) × Now (λ d. IsSettledFor d area) c)
                (λ c known settled_now. (known, settled_now)) again.told at_settled)
                (backed (λ d. TableIs d did.area) did.told);
            input = input;
            is_told = wrote.went.is_told;
            content = wrote.went.content;
            took = wrote.went.took;
            went = subst (λ (k : Taking). Went t s no_sink (reading x0 a) (reading x3 b)
                (first_act ∷ (ins ++ entry_acts (kept_by store did.area again.steps) name date silently k))) (sym wrote.went.took)
                (subst (λ (e : Act). Went t s no_sink (reading x0 a) (reading x3 b) (first_act ∷ (ins ++ e ∷ []))) is whole_went);
            left = wrote.went.left;
          } in
          record {
            bytes = wrote.bytes;
            ran = ran;
            entry = new;
            is_entry = entry_is;
            added = list;
            number = number ∙ ap (λ (es : List Entry). length es) list ∙ length-append store.entries (new ∷ []);
            count = count ∙ sized ∙ wrote.count;
            start = start;
            end = end;
          }
