use Rattle.std.proofs.Common.{◌≡◌, length, slice_get, subst}
use Rattle.std.specs.Prelude.{Err, IfSome, IfErr, MatchResult}
use Rattle.foyer_device_page.specs.declared.error.Error.TheVariants as error
use Rattle.foyer_io_engine.specs.Disk.{CanAccess, DidWrite, IsAccessFault, MayTear}
use Rattle.foyer_io_blocks.proofs.PartitionLemmas.{others_stay, reached_lies, reached_still, stands_in_block, went_ok, went_wrong, why_failed, why_faulted}
use Rattle.foyer_io_blocks.proofs.partitions.PartitionedDiskDisk.write.Goals as goal

pub returns-clause-wrote : goal.returns-clause-wrote
returns-clause-wrote g c = λ known.
    let d = (known.0).0 in
    let p = c.in-Some.partition in
    let given = c.args.bytes.now in
    let bytes = g.P.Partition.bytes in
    let extent = g.P.Partition.extent in
    let blocks = c.args.self.now.blocks.items in
    let before = g.E.IoEngine.disk c.args.self.now.engine in
    let after = g.E.IoEngine.disk c.write-handle.new.self in
    let b = c.args.block in
    let offset = c.args.offset in
    let at = c.in-Some.ensures.found.0 in
    let wrote = c.write-handle.ensures.written d (known.0).1 in
    let e = wrote.0 in
    went_ok (MayTear d (extent p) offset (length given) e) c.into_inner-outcome.result.1
    (λ (did : DidWrite d (extent p) (bytes p) offset given e). (
      stands_in_block bytes extent blocks after e b offset p given wrote.1 at known.1 (did.0).0 (did.1).0,
      others_stay bytes extent blocks before after d e b offset (length given) p (known.0).1 wrote.1 at known.1 known.2 (did.0).0 (did.1).1,
    ))
    (subst (λ h. IfSome h (λ r. MatchResult r.1 (λ _. DidWrite d (extent p) (bytes p) offset given e) (λ _. MayTear d (extent p) offset (length given) e)))
    c.into_inner-outcome.ensures wrote.2)

pub returns-clause-torn : goal.returns-clause-torn
returns-clause-torn g c = λ known.
    let d = (known.0).0 in
    let p = c.in-Some.partition in
    let given = c.args.bytes.now in
    let bytes = g.P.Partition.bytes in
    let extent = g.P.Partition.extent in
    let blocks = c.args.self.now.blocks.items in
    let before = g.E.IoEngine.disk c.args.self.now.engine in
    let after = g.E.IoEngine.disk c.write-handle.new.self in
    let found = c.in-Some.ensures.found in
    let wrote = c.write-handle.ensures.written d (known.0).1 in
    let e = wrote.0 in
    went_wrong (DidWrite d (extent p) (bytes p) c.args.offset given e) c.into_inner-outcome.result.1
    (λ (torn : MayTear d (extent p) c.args.offset (length given) e).
    others_stay bytes extent blocks before after d e c.args.block c.args.offset (length given) p (known.0).1 wrote.1 found.0 known.1 known.2 found.1 torn)
    (subst (λ h. IfSome h (λ r. MatchResult r.1 (λ _. DidWrite d (extent p) (bytes p) c.args.offset given e) (λ _. MayTear d (extent p) c.args.offset (length given) e)))
    c.into_inner-outcome.ensures wrote.2)

pub returns-clause-fault : goal.returns-clause-fault
returns-clause-fault g c =
    let p = c.in-Some.partition in
    let bytes = g.P.Partition.bytes in
    let extent = g.P.Partition.extent in
    let at = slice_get c.args.self.now.blocks.items c.args.block in
    let shown = g.E.IoEngine.disk c.args.self.now.engine in
    let before = g.E.IoEngine.faults c.args.self.now.engine in
    let after = g.E.IoEngine.faults c.write-handle.new.self in
    let n = length c.args.bytes.now in
    let found = c.in-Some.ensures.found in
    why_failed bytes extent shown at p c.args.offset n before after c.into_inner-outcome.result.1 found.0 found.1
    (subst (λ h. IfSome h (λ r. IfErr r.1 (IsAccessFault before after))) c.into_inner-outcome.ensures c.write-handle.ensures.refused)
    (λ d is. subst (λ h. IfSome h (λ r. r.1 ≡ Err error.OutOfRange → ¬ CanAccess d (extent p) (bytes p) c.args.offset n))
    c.into_inner-outcome.ensures (c.write-handle.ensures.outside d is))

pub returns-clause-faulted : goal.returns-clause-faulted
returns-clause-faulted g c =
    let p = c.in-Some.partition in
    let bytes = g.P.Partition.bytes in
    let extent = g.P.Partition.extent in
    let reaches = g.E.IoEngine.reaches c.args.self.now.engine in
    let at = slice_get c.args.self.now.blocks.items c.args.block in
    let before = g.E.IoEngine.faults c.args.self.now.engine in
    let after = g.E.IoEngine.faults c.write-handle.new.self in
    let n = length c.args.bytes.now in
    why_faulted bytes extent reaches at p c.args.offset n before after c.into_inner-outcome.result.1 c.in-Some.ensures.found.0
    (subst (λ h. IfSome h (λ r. IfErr r.1 (IsAccessFault before after))) c.into_inner-outcome.ensures c.write-handle.ensures.refused)
    (subst (λ h. IfSome h (λ r. r.1 ≡ Err error.OutOfRange → ¬ reaches (extent p) (bytes p) c.args.offset n)) c.into_inner-outcome.ensures c.write-handle.ensures.missing)

pub returns-clause-lies : goal.returns-clause-lies
returns-clause-lies g c = λ b o n.
    reached_still g.P.Partition.bytes g.P.Partition.extent (g.E.IoEngine.reaches c.args.self.now.engine) (g.E.IoEngine.reaches c.write-handle.new.self)
    c.write-handle.ensures.reached (slice_get c.args.self.now.blocks.items b) o n

pub returns-in_default-clause-faulted : goal.returns-in_default-clause-faulted
returns-in_default-clause-faulted g c = λ sure.
    absurd (c.in_default.ensures.none (reached_lies g.P.Partition.bytes g.P.Partition.extent (g.E.IoEngine.reaches c.args.self.now.engine)
    (slice_get c.args.self.now.blocks.items c.args.block) c.args.offset (length c.args.bytes.now) sure))
