-- How an export ends, by how the writing of its segments did.
use Rattle.std.proofs.Common.{◌≡◌, ℕ, ◌*◌, ◌<◌, List, [], get_or, Option, Some, None, IfSome, Result, Ok, Err, refl, sym, ◌∙◌, ap, subst}
use Rattle.std.proofs.Common.{arith}
use Rattle.std.proofs.lemmas.List.{same_lists, get_or_default}
use Rattle.std.proofs.lemmas.Option.{same_Some}
use Rattle.qic_base.proofs.Steps.{Broke-after_reads, Done-after_reads, Done-told}
use Rattle.qic_base.specs.Cartridge.{Cartridge, IsLength, info_of}
use Rattle.qic_base.specs.Sink as sinks
use Rattle.qic_base.specs.Tape as tapes
use Rattle.qic_base.specs.TapeCalls as tape_calls
use Rattle.qic_base.specs.declared.tape.SectorView.{SectorView}
use Rattle.qic_base.specs.declared.tape.SectorView.TheVariants.{Blank}
use Rattle.qic_base.specs.declared.tape.TapeInfo.{TapeInfo}
use Rattle.flat_dump.specs.Dump.{views_bytes}
use Rattle.flat_dump.specs.Export.{IsOn, IsFrontOf, AreFirst, Exports}
use Rattle.flat_dump.specs.Held.{held_words}
use Rattle.flat_dump.specs.Seen.{SegmentsSeen, Dumps}
use Rattle.flat_dump.specs.declared.exporting.ExportError.{ExportError}
use Rattle.flat_dump.specs.declared.exporting.ExportError.TheVariants as error

-- the cartridge whose sectors were read
record Read {T : Type 0} (t : tapes.Meaning T) (tape : T) (n : ℕ) (views : List SectorView) : Type 0 where
  cartridge : Cartridge
  is_on : IsOn t tape cartridge
  same : cartridge.views ≡ views
  long : cartridge.info.segments_per_track ≡ n

-- what `info` told of it
abbrev pub IsInfo : Option (Option Cartridge) → TapeInfo → Type 0
IsInfo told info = IfSome told (λ held. Some info ≡ info_of held)

is_read : {T : Type 0} (t : tapes.Meaning T) (tape : T) (n : ℕ) (size : Option ℕ) (info : TapeInfo) (text mask : List ℕ) → IsLength n →
    info.segments_per_track ≡ n → tape_calls.IsToldRight (t.told tape) size →
    IsInfo (t.told tape) info → (seen : SegmentsSeen t tape (28 * n) text mask) → Read t tape n seen.views
is_read {T} t tape n size info text mask length_of is right told seen = by_told (t.told tape) refl right told seen.told where
  at : (held : Option (Option Cartridge)) → t.told tape ≡ held → (c : Cartridge) → IfSome held (λ h. h ≡ Some c) →
      IfSome (t.told tape) (λ h. h ≡ Some c)
  at held e c fact = subst (λ (o : Option (Option Cartridge)). IfSome o (λ h. h ≡ Some c)) (sym e) fact

  by_told : (held : Option (Option Cartridge)) → t.told tape ≡ held → tape_calls.IsToldRight held size → IsInfo held info →
      IfSome held (λ h. IfSome h (λ c. (q : ℕ) → q < 32 * (28 * n) → get_or seen.views q Blank ≡ get_or c.views q Blank)) →
      Read t tape n seen.views
  by_told None e right i each = record {
    cartridge = record { info = info; version = 2; views = seen.views };
    is_on = record {
      told = at None e (record { info = info; version = 2; views = seen.views }) tt;
      whole = record {
        long = subst IsLength (sym is) length_of;
        version = record { oldest = omega arith; newest = omega arith };
        sectors = seen.size ∙ (omega arith) ∙ ap (λ (m : ℕ). 896 * m) (sym is);
        views = seen.each;
      };
    };
    same = refl;
    long = is;
  }
  by_told (Some None) e right i each = absurd (cc)
  by_told (Some (Some c)) e right i each =
      let one : info ≡ c.info = same_Some info c.info i in
      let long : c.info.segments_per_track ≡ n = sym (ap (λ (x : TapeInfo). x.segments_per_track) one) ∙ is in
      let whole = right.0.sectors in
      let size = seen.size in
      record {
        cartridge = c;
        is_on = record { told = at (Some (Some c)) e c refl; whole = right.0 };
        same = same_lists c.views seen.views (omega arith)
            (λ k d within.
            get_or_default c.views k d Blank within
            ∙ sym (each k (omega arith))
            ∙ get_or_default seen.views k Blank d (omega arith));
        long = long;
      }

first_of : {T : Type 0} (t : tapes.Meaning T) (old mid : T) (views : List SectorView) → tapes.Done t old mid [] → AreFirst t mid views →
    AreFirst t old views
first_of t old mid views did first = record {
  told = subst (λ (o : Option (Option Cartridge)). IfSome o (IsFrontOf views)) (Done-told did) first.told;
  each = first.each;
}

pub exports : {T K : Type 0} (t : tapes.Meaning T) (k : sinks.Meaning K) (old mid new : T) (from to : K) (n : ℕ) (size : Option ℕ)
    (info : TapeInfo) (mask : List ℕ) (result : Result (Unit {0}) ExportError) →
    IsLength n → info.segments_per_track ≡ n → tape_calls.IsToldRight (t.told old) size → IsInfo (t.told old) info →
    tapes.Done t old mid [] → Dumps t k mid new from to n mask result →
    Exports t k old new from to mask result
exports t k old mid new from to n size info mask (Ok done) length_of is right told did dumped =
    let seen : SegmentsSeen t old (28 * n) dumped.text mask = record {
      views = dumped.seen.views;
      each = dumped.seen.each;
      size = dumped.seen.size;
      told = subst (λ (o : Option (Option Cartridge)). IfSome o
          (λ h. IfSome h (λ c. (q : ℕ) → q < 32 * (28 * n) → get_or dumped.seen.views q Blank ≡ get_or c.views q Blank)))
          (Done-told did) dumped.seen.told;
      shown = dumped.seen.shown;
      masked = dumped.seen.masked;
    } in
    let read = is_read t old n size info dumped.text mask length_of is right told seen in
    record {
      did = Done-after_reads did dumped.did;
      cartridge = read.cartridge;
      is_on = read.is_on;
      wrote = subst (sinks.Wrote k from to) (dumped.seen.shown ∙ ap views_bytes (sym read.same)) dumped.wrote;
      masked = dumped.seen.masked ∙ ap (held_words (28 * n)) (sym read.same) ∙ ap (λ (m : ℕ). held_words (28 * m) read.cartridge.views)
          (sym read.long);
    }
exports t k old mid new from to n size info mask (Err error.NoCartridge) length_of is right told did dumped = absurd dumped
exports t k old mid new from to n size info mask (Err error.Tape) length_of is right told did dumped = record {
  broke = Broke-after_reads did dumped.broke;
  views = dumped.views;
  first = first_of t old mid dumped.views did dumped.first;
  wrote = dumped.wrote;
}
exports t k old mid new from to n size info mask (Err error.Sink) length_of is right told did dumped = record {
  did = Done-after_reads did dumped.did;
  views = dumped.views;
  first = first_of t old mid dumped.views did dumped.first;
  broke = dumped.broke;
}
