use Rattle.std.proofs.Common.{◌<◌, ℕ, subst, sym, arith}
use Rattle.std.proofs.lemmas.List.Elements.{All-from_get_or}
use Rattle.qic_base.specs.Disk.{AreBytes}
use Rattle.qic_mem.proofs.Tearing.{written-bytes, replaced-bytes, replaced-length}
use Rattle.qic_mem.proofs.disk.disk_bytes.DiskBytes.write_at.Goals as goal

pub invariant_of-self-clause-are_bytes : goal.invariant_of-self-clause-are_bytes
invariant_of-self-clause-are_bytes c =
    let IsByte : ℕ → Type 0 = λ b. b < 256 in
    let old : AreBytes c.deref_mut.result.now = subst AreBytes (sym c.deref_mut.ensures.value) c.args.self.now.are_bytes in
    let part : AreBytes c.args.from.now = All-from_get_or IsByte c.args.from.now 0 (λ i within. omega (arith, c.type_inv.from i)) in
    replaced-bytes _ _ _ _ c.args.self.now.are_bytes
    (subst AreBytes (sym c.overwrite.ensures) (written-bytes c.deref_mut.result.now c.args.from.now c.args.place old part))

pub invariant_of-self-clause-seen_within : goal.invariant_of-self-clause-seen_within
invariant_of-self-clause-seen_within c =
    omega (
      arith,
      c.args.self.now.seen_within,
      replaced-length c.args.self.now.bytes.items c.overwrite.new.bytes c.args.self.now.bytes.len
          (omega arith) (omega arith),
    )
