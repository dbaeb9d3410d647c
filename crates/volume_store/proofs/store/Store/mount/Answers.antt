use Rattle.std.proofs.Common.{◌≡◌, ◌⊎◌, ℕ, ◌-◌, ◌*◌, List, [], length, take, Result, Err, sym, ap, ◌∙◌, subst, inr, IsSomeAnd}
use Rattle.qic_base.specs.Step.{Step}
use Rattle.qic_base.proofs.Steps.{Done-after_reads, Broke-after_reads}
use Rattle.cartridge_laws.specs.Table.{IsSoundList}
use Rattle.drive_spec.specs.Terms.{is_protected}
use Rattle.header_segments.specs.Header.{header_of}
use Rattle.host_driver.specs.declared.host.Host.{Host}
use Rattle.host_driver.specs.Fits.{segments_of}
use Rattle.qic_base.specs.declared.store_fault.StoreFault.{StoreFault}
use Rattle.qic_base.specs.declared.store_fault.StoreFault.TheVariants.{Tape}
use Rattle.volume_store.specs.Mounting.{StoreView, Settles, IsSettling, SettlingBreaks, MountDoes}
use Rattle.cartridge_front.specs.Settling.{mending_steps}
use Rattle.command_laws.proofs.Passing.{passed}
use Rattle.volume_store.proofs.Storing.{sound_volumes, told_settles, told_lists, told_there, none_mended, one_length, still_primary}
use Rattle.volume_store.proofs.Storing.{still_referenced}
use Rattle.volume_store.proofs.store.Store.mount.Goals as goal

pub invariant_of-result : goal.invariant_of-result
invariant_of-result g c =
    let host : Host = c.learn.new.host in
    let words = c.in_ok-learnt.ensures.words in
    let size : length c.learn.new.map ≡ 28 * segments_of host = words.size in (
      size ∙ ap (λ (n : ℕ). 28 * n) (sym words.length_told),
      subst (λ (n : ℕ). IsSoundList (n - 1) c.learn.new.table) (sym size)
          (sound_volumes (take 29 c.learn.new.work) (28 * segments_of host - 1) c.learn.new.table c.in_ok-learnt.ensures.volumes),
    )

pub returns-clause-did : goal.returns-clause-did
returns-clause-did g c = record {
  steps = mending_steps (is_protected c.learn.new.unit.drive.deck) c.in_ok-learnt.learnt.unread c.learn.new.work;
  done = Done-after_reads c.in_ok-learnt.ensures.did c.in_ok-settle.ensures.did;
  told = told_settles g.T.Tape.means c.learn.new.host c.args.unit.now.tape c.learn.new.unit c.learn.new.map c.learn.new.work
      c.learn.new.table c.in_ok-learnt.learnt
      c.in_ok-learnt.ensures.ready.fits c.in_ok-learnt.ensures.agrees c.in_ok-learnt.ensures.did c.in_ok-learnt.ensures.room
      (c.in_ok-learnt.ensures.found (λ same. cc));
}

pub returns-clause-fits : goal.returns-clause-fits
returns-clause-fits g c =
    let m = g.T.Tape.means in
    let words = c.in_ok-learnt.ensures.words in
    let one : segments_of c.learn.new.host ≡ segments_of c.settle.new.host =
    one_length m c.learn.new.host c.settle.new.host c.learn.new.unit c.settle.new.unit c.in_ok-learnt.ensures.ready.fits
    c.in_ok-settle.ensures.keeps.ready.fits c.in_ok-settle.ensures.keeps.same.cartridge in
    let steps : List Step = mending_steps (is_protected c.learn.new.unit.drive.deck) c.in_ok-learnt.learnt.unread c.learn.new.work in
    record {
      host = c.in_ok-settle.ensures.keeps.ready.fits;
      rest = c.in_ok-settle.ensures.keeps.ready.rest;
      mode = still_primary c.learn.new.unit.drive.deck c.settle.new.unit.drive.deck c.in_ok-settle.ensures.keeps.same
          c.in_ok-learnt.ensures.mode;
      referenced = still_referenced c.learn.new.unit.drive.deck c.settle.new.unit.drive.deck c.in_ok-settle.ensures.keeps.same
          c.in_ok-learnt.ensures.referenced;
      agrees = c.in_ok-settle.ensures.keeps.agrees c.in_ok-learnt.ensures.agrees;
      header = words.length_told ∙ one;
      words = words.size ∙ ap (λ (n : ℕ). 28 * n) one;
      list = subst (λ (n : ℕ). IsSoundList (28 * n - 1) c.learn.new.table) one
          (sound_volumes (take 29 c.learn.new.work)
          (28 * segments_of c.learn.new.host - 1) c.learn.new.table c.in_ok-learnt.ensures.volumes);
      volumes = told_lists m c.args.unit.now.tape c.settle.new.unit.tape
          (header_of c.in_ok-learnt.learnt.header) c.learn.new.map c.learn.new.table steps
          (g.met.T.Tape.told_right c.args.unit.now.tape)
          (none_mended (is_protected c.learn.new.unit.drive.deck) c.in_ok-learnt.learnt.unread c.learn.new.work)
          (Done-after_reads c.in_ok-learnt.ensures.did c.in_ok-settle.ensures.did)
          (told_settles m c.learn.new.host c.args.unit.now.tape c.learn.new.unit c.learn.new.map c.learn.new.work c.learn.new.table
          c.in_ok-learnt.learnt
          c.in_ok-learnt.ensures.ready.fits c.in_ok-learnt.ensures.agrees c.in_ok-learnt.ensures.did c.in_ok-learnt.ensures.room
          (c.in_ok-learnt.ensures.found (λ same. cc)));
    }

pub returns-in_err-settle-clause-did : goal.returns-in_err-settle-clause-did
returns-in_err-settle-clause-did g c =
    let m = g.T.Tape.means in
    let is : c.from_residual-in_err-settle.result ≡ Err Tape =
    passed c.from_residual-in_err-settle.result Tape c.from_residual-in_err-settle.ensures.1 in
    let steps : List Step = mending_steps (is_protected c.learn.new.unit.drive.deck) c.in_ok-learnt.learnt.unread c.learn.new.work in
    let broken : SettlingBreaks m c.args.unit.now.tape c.settle.new.unit.tape = record {
      steps = steps;
      broke = Broke-after_reads c.in_ok-learnt.ensures.did c.in_err-settle.ensures.did;
      front = told_there c.args.unit.now.drive.deck.cartridge (m.told c.args.unit.now.tape) _
          (λ c'. Settles c' (header_of c.in_ok-learnt.learnt.header) c.learn.new.map c.learn.new.table steps)
          (λ held. (steps ≡ []) ⊎ IsSomeAnd held (λ c'. IsSettling c' steps)) c.requires.ready.fits.cartridge c.requires.agrees
          (λ c' settles. inr (record {
            header = header_of c.in_ok-learnt.learnt.header;
            words = c.learn.new.map;
            entries = c.learn.new.table;
            settles = settles;
          }))
          (told_settles m c.learn.new.host c.args.unit.now.tape c.learn.new.unit c.learn.new.map c.learn.new.work c.learn.new.table
          c.in_ok-learnt.learnt
          c.in_ok-learnt.ensures.ready.fits c.in_ok-learnt.ensures.agrees c.in_ok-learnt.ensures.did c.in_ok-learnt.ensures.room
          (c.in_ok-learnt.ensures.found (λ same. cc)));
    } in
    subst (λ (answer : Result StoreView StoreFault). MountDoes m c.args.unit.now.tape c.settle.new.unit.tape answer)
    (sym is) broken
