-- Segments that are put out, one behind the other.
use Rattle.std.proofs.Common.{◌≡◌, ℕ, ◌+◌, ◌-◌, ◌≤◌, inl, inr, Bool, List, [], ◌++◌, Ok, Err}
use Rattle.std.proofs.Common.{refl, sym, ap, subst, ◌∙◌, arith, append-nil}
use Rattle.std.proofs.Math.Seq.{take-nil}
use Rattle.std.specs.List.{range_with_len}
use Rattle.std.specs.Prelude.{Option}
use Rattle.dump_reader.specs.Laid.{Describes}
use Rattle.dump_reader.specs.declared.known.KnownDump.{KnownDump}
use Rattle.dump_reader.proofs.Looking.{looked_none, looked_both, failed_behind}
use Rattle.dump_spec.specs.Cells.{cells_in}
use Rattle.dump_spec.specs.Dump.{Dump}
use Rattle.dump_spec.specs.Given.{Given, Gives}
use Rattle.dump_spec.specs.Output.{GiveInTurn, output_of}
use Rattle.dump_spec.specs.Pieces.{Layout}
use Rattle.dump_spec.specs.declared.mark.Mark.{Mark}
use Rattle.dump_output.specs.Put.{Outside, Cut}
use Rattle.dump_output.specs.Sinks.{PutSoFar, SinkCut, PutSegments}
use Rattle.dump_output.specs.SoFar.{MapSoFar}
use Rattle.dump_output.specs.declared.fault.PutFault.{PutFault}
use Rattle.dump_output.specs.declared.fault.PutFault.TheVariants as faults
use Rattle.dump_output.specs.declared.progress.Progress.{Progress}
use Rattle.dump_output.proofs.Stepping.{wrote_bytes_front, wrote_map_front}
use Rattle.dump_output.proofs.Turns.{range_turn, range_parts}
use Rattle.qic_base.specs.Disk.{Look, Stored, Failed}
use Rattle.qic_base.specs.Disk as disks
use Rattle.qic_base.specs.Sink.{Meaning, Wrote}
use Rattle.qic_base.proofs.Disks.{told-look}

-- the segments below one were put out
pub record InLoop {D K M : Type 0} (d : disks.Meaning D) (k : Meaning K) (s : Meaning M) (known : KnownDump) (zero_lost : Bool)
    (first segment : ℕ) (old new : Outside D K M) (start now : Progress) : Type 0 where
  pub given : List Given
  pub looked : Stored d old.disk new.disk Look
  pub gives : (dump : Dump) (layout : Layout) → Describes known (d.told old.disk) dump layout →
      GiveInTurn dump layout zero_lost (range_with_len first (segment - first)) given
  pub put : (begun : M) → MapSoFar s begun old.sure start.map [] →
      PutSoFar k s old.output new.output begun new.sure now start.left given

-- what is given of a segment that was read from a disk that was only looked at
pub gives_still : {D : Type 0} {d : disks.Meaning D} {old new : D} (known : KnownDump) (zero_lost : Bool) (segment : ℕ)
    (here : List Given) → Stored d old new Look →
    ((dump : Dump) (layout : Layout) → Describes known (d.told new) dump layout →
    Gives layout.form zero_lost (cells_in dump layout segment) here) →
    (dump : Dump) (layout : Layout) → Describes known (d.told old) dump layout →
    Gives layout.form zero_lost (cells_in dump layout segment) here
gives_still known zero_lost segment here looked gives dump layout by =
    gives dump layout (subst (λ (t : Option (List ℕ)). Describes known t dump layout) (sym (told-look looked)) by)

pub none_put : {D K M : Type 0} (d : disks.Meaning D) (k : Meaning K) (s : Meaning M) (known : KnownDump) (zero_lost : Bool)
    (first : ℕ) (old : Outside D K M) (start : Progress) → k.took old.output [] old.output →
    InLoop d k s known zero_lost first first old old start start
none_put d k s known zero_lost first old start took =
    let none : first - first ≡ 0 = omega arith in
    record {
      given = [];
      looked = looked_none d old.disk;
      gives = λ dump layout by.
          subst (λ (n : ℕ). GiveInTurn dump layout zero_lost (range_with_len first n) []) (sym none) refl;
      put = λ begun is. record {
        bytes = subst (λ (t : List ℕ). Wrote k old.output old.output t) (sym (take-nil start.left)) (record { took = took; later = refl });
        map = subst (λ (ms : List Mark). MapSoFar s begun old.sure start.map ms) (sym (take-nil start.left)) is;
        whole = refl;
        left = omega arith;
      };
    }

-- the sinks took one segment more
pub next_put : {D K M : Type 0} {d : disks.Meaning D} {k : Meaning K} {s : Meaning M} {known : KnownDump} {zero_lost : Bool}
    {first segment : ℕ} {old mid new : Outside D K M} {start now next : Progress} (here : List Given) → first ≤ segment →
    InLoop d k s known zero_lost first segment old mid start now → Stored d mid.disk new.disk Look →
    ((dump : Dump) (layout : Layout) → Describes known (d.told mid.disk) dump layout →
    Gives layout.form zero_lost (cells_in dump layout segment) here) →
    ((size : ℕ) (from : K) (begun : M) (given : List Given) → PutSoFar k s from mid.output begun mid.sure now size given →
    PutSoFar k s from new.output begun new.sure next size (given ++ here)) →
    InLoop d k s known zero_lost first (segment + 1) old new start next
next_put {known = known} {zero_lost = zero_lost} {first = first} {segment = segment} {old = old} {start = start} here low before looked
    gives goes = record {
      given = before.given ++ here;
      looked = looked_both before.looked looked;
      gives = λ dump layout by.
          range_turn dump layout zero_lost first segment before.given here low (before.gives dump layout by)
          (gives_still known zero_lost segment here before.looked gives dump layout by);
      put = λ begun is. goes start.left old.output begun before.given (before.put begun is);
    }

-- ---- how it ends

pub read_failed : {D K M T : Type 0} {d : disks.Meaning D} {k : Meaning K} {s : Meaning M} {known : KnownDump} {zero_lost : Bool}
    {first segment last : ℕ} {old new : Outside D K M} {start now : Progress} (disk : D) (begun : M) → first ≤ segment →
    segment ≤ last + 1 →
    InLoop d k s known zero_lost first segment old new start now → Failed d new.disk disk Look →
    MapSoFar s begun old.sure start.map [] →
    (fault : PutFault) → fault ≡ faults.Input →
    PutSegments {T = T} d k s known zero_lost first last start.left
    (record { disk = old.disk; output = old.output; sure = begun })
    (record { disk = disk; output = new.output; sure = new.sure }) now (Err fault)
read_failed {d = d} {k = k} {s = s} {first = first} {segment = segment} {last = last} {old = old} {new = new} {start = start} {now = now}
    disk begun low high before failed is fault input =
    let so_far = before.put begun is in
    record {
      front = range_with_len first (segment - first);
      rest = range_with_len segment (last + 1 - segment);
      parts = range_parts first segment last low high;
      given = before.given;
      gives = before.gives;
      puts = λ more. subst (λ (f : PutFault). Cut d k s (record { disk = old.disk; output = old.output; sure = begun })
          (record { disk = disk; output = new.output; sure = new.sure }) (output_of start.left (before.given ++ more)) f) (sym input)
          (record {
            failed = failed_behind before.looked failed;
            bytes = wrote_bytes_front start.left before.given more so_far.bytes;
            map = wrote_map_front now.map start.left before.given more so_far.map;
          });
    }

pub sink_failed : {D K M T : Type 0} {d : disks.Meaning D} {k : Meaning K} {s : Meaning M} {known : KnownDump} {zero_lost : Bool}
    {first segment last : ℕ} {old mid new : Outside D K M} {start now next : Progress} (here : List Given) (begun : M) →
    first ≤ segment → segment ≤ last →
    InLoop d k s known zero_lost first segment old mid start now → Stored d mid.disk new.disk Look →
    ((dump : Dump) (layout : Layout) → Describes known (d.told mid.disk) dump layout →
    Gives layout.form zero_lost (cells_in dump layout segment) here) →
    ((size : ℕ) (from : K) (begun : M) (given : List Given) → PutSoFar k s from mid.output begun mid.sure now size given →
    (more : List Given) → SinkCut k s from new.output begun new.sure (output_of size ((given ++ here) ++ more))) →
    MapSoFar s begun old.sure start.map [] →
    (fault : PutFault) → fault ≡ faults.Output →
    PutSegments {T = T} d k s known zero_lost first last start.left
    (record { disk = old.disk; output = old.output; sure = begun }) new next (Err fault)
sink_failed {d = d} {k = k} {s = s} {known = known} {zero_lost = zero_lost} {first = first} {segment = segment} {last = last} {old = old}
    {new = new} {start = start} here begun low high before looked gives goes is fault output =
    let behind : segment + 1 ≤ last + 1 = omega arith in
    let over : first ≤ segment + 1 = omega arith in
    record {
      front = range_with_len first (segment + 1 - first);
      rest = range_with_len (segment + 1) (last + 1 - (segment + 1));
      parts = range_parts first (segment + 1) last over behind;
      given = before.given ++ here;
      gives = λ dump layout by.
          range_turn dump layout zero_lost first segment before.given here low (before.gives dump layout by)
          (gives_still known zero_lost segment here before.looked gives dump layout by);
      puts = λ more. subst (λ (f : PutFault). Cut d k s (record { disk = old.disk; output = old.output; sure = begun }) new
          (output_of start.left ((before.given ++ here) ++ more)) f) (sym output)
          (elim (goes start.left old.output begun before.given (before.put begun is) more) [
            | inl broke ↦ inl (record { looked = looked_both before.looked looked; bytes = broke.0; map = broke.1 })
            | inr broke ↦ inr (record { looked = looked_both before.looked looked; bytes = broke.0; map = broke.1 })
          ]);
    }

pub all_put : {D K M T : Type 0} {d : disks.Meaning D} {k : Meaning K} {s : Meaning M} {known : KnownDump} {zero_lost : Bool}
    {first segment last : ℕ} {old new : Outside D K M} {start now : Progress} (begun : M) → segment - first ≡ last + 1 - first →
    InLoop d k s known zero_lost first segment old new start now → MapSoFar s begun old.sure start.map [] → (x : T) →
    PutSegments d k s known zero_lost first last start.left
    (record { disk = old.disk; output = old.output; sure = begun }) new now (Ok x)
all_put {first = first} {segment = segment} begun all before is x = record {
  front = range_with_len first (segment - first);
  rest = [];
  parts = append-nil (range_with_len first (segment - first)) ∙ ap (range_with_len first) all;
  given = before.given;
  gives = before.gives;
  puts = (refl, record { looked = before.looked; put = before.put begun is });
}
