use Rattle.std.proofs.Common.{◌≡◌, ◌+◌, ◌++◌, List, ℕ, take, drop, length, ap, ◌∙◌, arith, subst}
use Rattle.std.proofs.lemmas.List.{take_all}
use Rattle.qic_base.specs.Sink.{Wrote}
use Rattle.qic_base.specs.SinkCalls.{Writes}
use Rattle.qic_base.proofs.Writing.{Wrote-Wrote, Wrote-BrokeOff, BrokeOff-longer}
use Rattle.cartridge_spec.specs.Volumes.{volume_length}
use Rattle.volume_table.specs.Entry.{entry_of}
use Rattle.command_spec.specs.Lines.{volume_lines, count_line, list_text}
use Rattle.command_laws.proofs.LineListings.{Writes-after, volume_lines-none, volume_lines-take, length_at, list_text-front, list_text-all}
use Rattle.volume_store.proofs.listing.write_list.Goals as goal

pub loop-index-init : goal.loop-index-init
loop-index-init g c = rw (volume_lines-none c.args.store.now.words 1) record {
  took = g.met.K.Sink.took_nothing c.args.sink.now;
  later = omega arith;
}

pub loop-index-preserved : goal.loop-index-preserved
loop-index-preserved g c =
    let bytes : c.length.result ≡ volume_length c.args.store.now.words (entry_of c.entry.result.now) =
    length_at c.args.store.now.words c.args.store.now.entries c.loop-index.index
    (entry_of c.entry.result.now) c.length.result c.entry.ensures c.length.ensures in
    rw (← volume_lines-take c.args.store.now.words c.args.store.now.entries c.loop-index.index
    (entry_of c.entry.result.now) c.length.result c.entry.ensures bytes)
    (Wrote-Wrote g.met.K.Sink.took_both c.loop-index.invariant c.in_default.ensures)

pub returns-in-Err : goal.returns-in-Err
returns-in-Err g c =
    let words : List ℕ = c.args.store.now.words in
    let bytes : c.length.result ≡ volume_length words (entry_of c.entry.result.now) =
    length_at words c.args.store.now.entries c.loop-index.index (entry_of c.entry.result.now) c.length.result c.entry.ensures
    c.length.ensures in
    let broke = rw (volume_lines-take words c.args.store.now.entries c.loop-index.index
    (entry_of c.entry.result.now) c.length.result c.entry.ensures bytes)
    at (Wrote-BrokeOff g.met.K.Sink.took_both c.loop-index.invariant c.in-Err.ensures) in
    BrokeOff-longer (volume_lines words (1 + length (take (c.loop-index.index + 1) c.args.store.now.entries))
    (drop (c.loop-index.index + 1) c.args.store.now.entries) ++ count_line (length c.args.store.now.entries))
    (list_text words c.args.store.now.entries) (list_text-front words c.args.store.now.entries (c.loop-index.index + 1)) broke

pub returns : goal.returns
returns g c =
    let words : List ℕ = c.args.store.now.words in
    let end = c.count-index-end.ensures.count in
    let all : take c.loop-index.index c.args.store.now.entries ≡ c.args.store.now.entries =
    take_all c.loop-index.index c.args.store.now.entries (omega arith) in
    let wrote : Wrote g.K.Sink.means c.args.sink.now c.loop-index.sink (volume_lines words 1 c.args.store.now.entries) =
    rw all at c.loop-index.invariant in
    let both = Writes-after c.write_count.new.sink (count_line c.count.result) c.write_count.result g.met.K.Sink.took_both wrote
    c.write_count.ensures in
    let text : volume_lines words 1 c.args.store.now.entries ++ count_line c.count.result ≡ list_text words c.args.store.now.entries =
    ap (λ n. volume_lines words 1 c.args.store.now.entries ++ count_line n) c.count.ensures.count
    ∙ list_text-all words c.args.store.now.entries in
    let written : List ℕ → Type 0 = λ t. Writes g.K.Sink.means c.args.sink.now c.write_count.new.sink t c.write_count.result in
    subst written text both
