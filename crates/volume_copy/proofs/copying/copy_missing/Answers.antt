use Rattle.std.proofs.Common.{◌≡◌, ◌+◌, ℕ, ap, arith, inl, inr, refl, length}
use Rattle.volume_copy.proofs.Copied.{copied_more, one_as, one_more}
use Rattle.volume_copy.proofs.copying.copy_missing.Goals as goal

pub returns-in-Err : goal.returns-in-Err
returns-in-Err g c =
    let number : c.count-number.result + 1 ≡ length c.loop-store.store.entries + 1 = ap (λ (n : ℕ). n + 1) c.count-number.ensures.count in
    record {
      count = c.loop-store.invariant.count;
      mid = record {
        from = record { store = c.loop-store.from.store; unit = c.loop-store.from.unit };
        to = record { store = c.loop-store.store; unit = c.loop-store.unit };
        sink = c.loop-store.sink;
      };
      copied = c.loop-store.invariant.copied;
      ends = inl (record {
        missing = λ same. omega (arith, c.count.ensures.count, c.count-in-loop-store.ensures.count, c.loop-store-test.true);
        one = one_as g.A.Tape.means g.B.Tape.means _ _ _ _ _ _ _ _ number c.in-Err.is c.copy_volume-copied.ensures;
        sink = refl;
      });
    }

pub returns : goal.returns
returns g c = record {
  count = c.loop-store.invariant.count;
  mid = record {
    from = record { store = c.loop-store.from.store; unit = c.loop-store.from.unit };
    to = record { store = c.loop-store.store; unit = c.loop-store.unit };
    sink = c.loop-store.sink;
  };
  copied = c.loop-store.invariant.copied;
  ends = inr (inr (record {
    from = refl;
    to = refl;
    all = omega (arith, c.loop-store.invariant.few, c.count.ensures.count, c.count-in-loop-store.ensures.count, c.loop-store-test.false);
    count = rw (c.count-2.ensures.count) at c.print_count.ensures;
  }));
}

pub returns-in-Err-write_text : goal.returns-in-Err-write_text
returns-in-Err-write_text g c =
    let number : c.count-number.result + 1 ≡ length c.loop-store.store.entries + 1 = ap (λ (n : ℕ). n + 1) c.count-number.ensures.count in
    let one = one_as g.A.Tape.means g.B.Tape.means _ _ _ _ _ _ _ _ number c.in-Ok.is c.copy_volume-copied.ensures in
    record {
      count = c.loop-store.invariant.count;
      mid = record {
        from = record { store = c.loop-store.from.store; unit = c.loop-store.from.unit };
        to = record { store = c.loop-store.store; unit = c.loop-store.unit };
        sink = c.loop-store.sink;
      };
      copied = c.loop-store.invariant.copied;
      ends = inr (inl (record {
        bytes = c.in-Ok.bytes;
        one = one;
        line = rw (c.bytes.ensures, c.place_text-line.ensures, c.from.ensures, c.count-number.ensures.count) at c.in-Err-write_text.ensures;
        answered = refl;
      }));
    }

pub loop-store-smaller : goal.loop-store-smaller
loop-store-smaller g c =
    let number : c.count-number.result + 1 ≡ length c.loop-store.store.entries + 1 = ap (λ (n : ℕ). n + 1) c.count-number.ensures.count in
    let one = one_as g.A.Tape.means g.B.Tape.means _ _ _ _ _ _ _ _ number c.in-Ok.is c.copy_volume-copied.ensures in
    let more = one_more g.A.Tape.means g.B.Tape.means _ _ _ _ _ c.in-Ok.bytes one in
    omega (arith, more.more, ap length more.entries, c.count.ensures.count, c.count-in-loop-store.ensures.count, c.loop-store-test.true)

pub loop-store-preserved : goal.loop-store-preserved
loop-store-preserved g c =
    let number : c.count-number.result + 1 ≡ length c.loop-store.store.entries + 1 = ap (λ (n : ℕ). n + 1) c.count-number.ensures.count in
    let one = one_as g.A.Tape.means g.B.Tape.means _ _ _ _ _ _ _ _ number c.in-Ok.is c.copy_volume-copied.ensures in
    let more = one_more g.A.Tape.means g.B.Tape.means _ _ _ _ _ c.in-Ok.bytes one in
    record {
      source = more.source;
      target = more.target;
      few = omega (
        arith,
        more.more,
        ap length more.entries,
        c.count.ensures.count,
        c.count-in-loop-store.ensures.count,
        c.loop-store-test.true,
      );
      count = c.loop-store.invariant.count + 1;
      copied = copied_more g.A.Tape.means g.B.Tape.means g.K.Sink.means c.loop-store.invariant.count
          (record {
            from = record { store = c.args.from.store; unit = c.args.from.unit };
            to = record { store = c.args.store.now; unit = c.args.unit.now };
            sink = c.args.sink.now;
          })
          (record {
            from = record { store = c.loop-store.from.store; unit = c.loop-store.from.unit };
            to = record { store = c.loop-store.store; unit = c.loop-store.unit };
            sink = c.loop-store.sink;
          })
          _ c.loop-store.invariant.copied
          (record {
            bytes = c.in-Ok.bytes;
            one = one;
            line = rw (c.bytes.ensures, c.place_text-line.ensures, c.from.ensures, c.count-number.ensures.count) at c.in_default.ensures;
          });
    }
