use Rattle.std.proofs.Common.{◌≡◌, length, vec_len, subst, sym, ap, ◌∙◌, arith}
use Rattle.std.specs.Prelude.{Err, IfSome, IfErr, OnOk, slice_get}
use Rattle.foyer_device_page.specs.declared.error.Error.TheVariants as error
use Rattle.foyer_io_engine.specs.Disk.{CanAccess, DidRead, IsAccessFault}
use Rattle.foyer_io_disk.specs.Disk.{IsRead}
use Rattle.foyer_io_blocks.specs.Partitions.{byte_in, is_reached, may_fail}
use Rattle.foyer_io_blocks.proofs.PartitionLemmas.{on_ok, reached_lies, reached_still, stands_in_block, why_failed, why_faulted}
use Rattle.foyer_io_blocks.proofs.partitions.PartitionedDiskDisk.read.Goals as goal

pub returns-clause-read : goal.returns-clause-read
returns-clause-read g c = λ known.
    let d = (known.0).0 in
    let p = c.in-Some.partition in
    let bytes = g.P.Partition.bytes in
    let extent = g.P.Partition.extent in
    let blocks = c.args.self.now.blocks.items in
    let shown = g.E.IoEngine.disk c.args.self.now.engine in
    let outcome = c.into_inner-buffer.result.1 in
    let given = c.into_inner-buffer.result.0 in
    subst (λ xs. OnOk outcome (IsRead (λ b o. byte_in bytes extent shown (slice_get blocks b) o) c.args.block c.args.offset xs)) (sym c.into_vec.ensures)
    (on_ok outcome
    (λ (did : DidRead d (extent p) (bytes p) c.args.offset given).
    stands_in_block bytes extent blocks shown d c.args.block c.args.offset p given (known.0).1 c.in-Some.ensures.found.0 known.1 (did.0).0 did.1)
    (subst (λ h. IfSome h (λ r. OnOk r.1 (DidRead d (extent p) (bytes p) c.args.offset r.0))) c.into_inner-buffer.ensures (c.read-handle.ensures.read d (known.0).1)))

pub returns-clause-fault : goal.returns-clause-fault
returns-clause-fault g c =
    let p = c.in-Some.partition in
    let bytes = g.P.Partition.bytes in
    let extent = g.P.Partition.extent in
    let at = slice_get c.args.self.now.blocks.items c.args.block in
    let shown = g.E.IoEngine.disk c.args.self.now.engine in
    let before = g.E.IoEngine.faults c.args.self.now.engine in
    let after = g.E.IoEngine.faults c.read-handle.new.self in
    let outcome = c.into_inner-buffer.result.1 in
    let found = c.in-Some.ensures.found in
    let n = length c.new.result in
    let len : n ≡ vec_len c.args.buffer = ap length c.new.ensures ∙ sym c.args.buffer.ok.0 in
    subst (λ k. IfErr outcome (may_fail bytes extent shown at c.args.offset k)) len
    (why_failed bytes extent shown at p c.args.offset n before after outcome found.0 (omega (arith, found.1, len, c.len.ensures))
    (subst (λ h. IfSome h (λ r. IfErr r.1 (IsAccessFault before after))) c.into_inner-buffer.ensures c.read-handle.ensures.refused)
    (λ d is. subst (λ h. IfSome h (λ r. r.1 ≡ Err error.OutOfRange → ¬ CanAccess d (extent p) (bytes p) c.args.offset n))
    c.into_inner-buffer.ensures (c.read-handle.ensures.outside d is)))

pub returns-clause-faulted : goal.returns-clause-faulted
returns-clause-faulted g c = λ sure.
    let p = c.in-Some.partition in
    let bytes = g.P.Partition.bytes in
    let extent = g.P.Partition.extent in
    let reaches = g.E.IoEngine.reaches c.args.self.now.engine in
    let at = slice_get c.args.self.now.blocks.items c.args.block in
    let before = g.E.IoEngine.faults c.args.self.now.engine in
    let after = g.E.IoEngine.faults c.read-handle.new.self in
    let n = length c.new.result in
    let len : n ≡ vec_len c.args.buffer = ap length c.new.ensures ∙ sym c.args.buffer.ok.0 in
    why_faulted bytes extent reaches at p c.args.offset n before after c.into_inner-buffer.result.1 c.in-Some.ensures.found.0
    (subst (λ h. IfSome h (λ r. IfErr r.1 (IsAccessFault before after))) c.into_inner-buffer.ensures c.read-handle.ensures.refused)
    (subst (λ h. IfSome h (λ r. r.1 ≡ Err error.OutOfRange → ¬ reaches (extent p) (bytes p) c.args.offset n)) c.into_inner-buffer.ensures c.read-handle.ensures.missing)
    (subst (λ k. is_reached bytes extent reaches at c.args.offset k) (sym len) sure)

pub returns-clause-lies : goal.returns-clause-lies
returns-clause-lies g c = λ b o n.
    reached_still g.P.Partition.bytes g.P.Partition.extent (g.E.IoEngine.reaches c.args.self.now.engine) (g.E.IoEngine.reaches c.read-handle.new.self)
    c.read-handle.ensures.reached (slice_get c.args.self.now.blocks.items b) o n

pub returns-in_default-clause-faulted : goal.returns-in_default-clause-faulted
returns-in_default-clause-faulted g c = λ sure.
    absurd (c.in_default.ensures.none (reached_lies g.P.Partition.bytes g.P.Partition.extent (g.E.IoEngine.reaches c.args.self.now.engine)
    (slice_get c.args.self.now.blocks.items c.args.block) c.args.offset c.len.result
    (subst (λ k. is_reached g.P.Partition.bytes g.P.Partition.extent (g.E.IoEngine.reaches c.args.self.now.engine) (slice_get c.args.self.now.blocks.items c.args.block) c.args.offset k) (sym c.len.ensures) sure)))
