use Rattle.std.proofs.Common.{◌≡◌, ◌-◌, ◌<◌, ◌^◌, ℕ, Err, arith, sym, subst, ap, ◌∙◌}
use Rattle.cartridge_spec.specs.Table.{Entry}
use Rattle.cartridge_spec.specs.Volumes.{volume_length}
use Rattle.volume_copy.proofs.Copied.{ends_as, order_as, same_sides, unread_as}
use Rattle.volume_copy.proofs.Lengths.{length_of_fits}
use Rattle.volume_copy.proofs.copying.copy_volume.Goals as goal
use Rattle.volume_copy.proofs.copying.copy_volume.Goals.{in-Ok, in-Err}
use Rattle.volume_copy.specs.Runs.{append_answer, append_status}
use Rattle.volume_copy.specs.Source.{KeepsVolume, new_source}
use Rattle.volume_store.proofs.Restored.{length_there, volume_there}
use Rattle.volume_table.specs.Entry.{entry_of}

pub overflow_cast-length : goal.overflow_cast-length
overflow_cast-length g c =
    let store = c.args.from.store in
    let e : Entry = entry_of c.entry-entry.result.now in
    let long : c.length-length.result ≡ volume_length store.words e = length_there store (c.args.number - 1) e c.length-length.result
    c.entry-entry.ensures c.length-length.ensures in
    let short : volume_length store.words e < 2 ^ 32 = length_of_fits g.A.Tape.means store c.args.from.unit (c.args.number - 1) e
    c.requires.source c.entry-entry.ensures in
    let fits : c.length-length.result < 2 ^ 32 = subst (λ (n : ℕ). n < 2 ^ 32) (sym long) short in
    omega (arith, fits)

pub returns : goal.returns
returns g c =
    let a = g.A.Tape.means in
    let b = g.B.Tape.means in
    let store = c.args.from.store in
    let e : Entry = entry_of c.entry-entry.result.now in
    let long : c.length-length.result ≡ volume_length store.words e = length_there store (c.args.number - 1) e c.length-length.result
    c.entry-entry.ensures c.length-length.ensures in
    let made : c.new-bytes.result ≡ new_source store c.args.from.unit c.args.number = c.new-bytes.ensures.is in
    record {
      entry = e;
      numbered = volume_there store.entries c.args.number e c.requires.numbered c.entry-entry.ensures;
      label = c.is_label.ensures;
      word = omega arith;
      source = c.append.new.source;
      appended = c.append.result;
      ends = ends_as a b c.args.unit.now.tape c.append.new.unit.tape c.new-bytes.result (new_source store c.args.from.unit c.args.number)
          c.append.new.source
          c.args.store.now c.append.new.self e.name e.date c.length-length.result (volume_length store.words e) c.append.result made long
          c.append.ensures.ends;
      unread = unread_as a b c.args.unit.now.tape c.append.new.unit.tape c.new-bytes.result (new_source store c.args.from.unit
          c.args.number) c.append.new.source
          c.append.result made c.append.ensures.unread;
      order = order_as a b c.args.unit.now.tape c.append.new.unit.tape c.new-bytes.result (new_source store c.args.from.unit c.args.number)
          c.append.new.source
          c.args.store.now c.length-length.result (volume_length store.words e) c.append.result made long c.append.ensures.order;
      free = c.append.ensures.protected;
      kept = subst (λ s. KeepsVolume a s c.append.new.source) made c.append.ensures.kept;
      sound = c.into_parts-store.ensures.sound;
      back = same_sides _ _ c.into_parts-store.ensures.store c.into_parts-store.ensures.unit;
      list = c.append.ensures.list;
      format = c.append.ensures.format;
      fits = c.append.ensures.fits;
      size = c.append.ensures.size;
      is = elim c.match-append.branch [
        | in-Ok w ↦ w.copied-is ∙ sym (ap (λ r. append_answer r c.append.new.source.fault) w.in-Ok.is)
        | in-Err w ↦
            w.copied-is ∙ ap Err (w.append_status.ensures ∙ ap (append_status w.in-Err.fault) w.fault.ensures.is)
            ∙ sym (ap (λ r. append_answer r c.append.new.source.fault) w.in-Err.is)
      ];
    }
