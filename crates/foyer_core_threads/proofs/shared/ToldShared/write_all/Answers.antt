use Rattle.std.proofs.Common.{◌<◌, None, Some, refl, sym, subst, ◌∙◌}
use Rattle.std.proofs.lemmas.List.{drop_all}
use Rattle.foyer_block_index.proofs.Found.{slice_get_at}
use Rattle.foyer_core_flusher.specs.Issuing.{write_of}
use Rattle.foyer_core_threads.specs.Done.{HasWrote}
use Rattle.foyer_core_laws.specs.Content.{meaning}
use Rattle.foyer_core_threads.proofs.GoingLemmas.{on_on, same_on}
use Rattle.foyer_core_threads.proofs.WriteLemmas.{any_to_write, next_of, wrote_next, wrote_last, wrote_none}
use Rattle.foyer_core_threads.proofs.shared.ToldShared.write_all.Goals as goal

pub write-requires-clause-mine : goal.write-requires-clause-mine
write-requires-clause-mine g c = (c.writes.invariant.0, c.writes.invariant.1)

pub write-requires-clause-part : goal.write-requires-clause-part
write-requires-clause-part g c = subst (λ n. 0 < n) (sym c.writes.invariant.2) c.requires.part

pub write-requires-clause-right : goal.write-requires-clause-right
write-requires-clause-right g c = c.writes.invariant.3

pub write-requires-clause-write : goal.write-requires-clause-write
write-requires-clause-write g c =
    (_, next_of (meaning g.K.Code.encoding g.V.Code.encoding g.K.Code.is_encodable g.V.Code.is_encodable g.K.Code.is_decodable g.V.Code.is_decodable g.P.Properties.age) g.D.Disk.byte_at c.writes.session.witness.me.0.seen c.args.flusher c.args.block _ c.writes.write-index c.write-item.result (slice_get_at _ c.writes.write-index c.write-item.result c.writes-test.true c.write-item.is) c.writes.invariant.4)

pub writes-preserved : goal.writes-preserved
writes-preserved g c = (
  c.write.ensures.mine.0,
  c.write.ensures.mine.1,
  c.write.ensures.parts ∙ c.writes.invariant.2,
  c.write.ensures.right,
  any_to_write (meaning g.K.Code.encoding g.V.Code.encoding g.K.Code.is_encodable g.V.Code.is_encodable g.K.Code.is_decodable g.V.Code.is_decodable g.P.Properties.age) g.D.Disk.byte_at c.write.new.session.witness.me.0.seen c.args.flusher c.args.block _
      (c.write.ensures.next _ (next_of (meaning g.K.Code.encoding g.V.Code.encoding g.K.Code.is_encodable g.V.Code.is_encodable g.K.Code.is_decodable g.V.Code.is_decodable g.P.Properties.age) g.D.Disk.byte_at c.writes.session.witness.me.0.seen c.args.flusher c.args.block _ c.writes.write-index c.write-item.result (slice_get_at _ c.writes.write-index c.write-item.result c.writes-test.true c.write-item.is) c.writes.invariant.4) c.in-Next.is),
  on_on (meaning g.K.Code.encoding g.V.Code.encoding g.K.Code.is_encodable g.V.Code.is_encodable g.K.Code.is_decodable g.V.Code.is_decodable g.P.Properties.age) g.D.Disk.byte_at _ c.writes.session.witness.me.0 c.write.new.session.witness.me.0 c.writes.invariant.5 c.write.ensures.on,
  λ after last rest.
      c.writes.invariant.6 after last
      (wrote_next (meaning g.K.Code.encoding g.V.Code.encoding g.K.Code.is_encodable g.V.Code.is_encodable g.K.Code.is_decodable g.V.Code.is_decodable g.P.Properties.age) g.D.Disk.byte_at g.N.Noting.keeps c.writes.session.witness.me.0 c.write.new.session.witness.me.0 after c.args.flusher c.args.block _ c.writes.write-index c.write-item.result last (slice_get_at _ c.writes.write-index c.write-item.result c.writes-test.true c.write-item.is)
      (subst (λ r. HasWrote (meaning g.K.Code.encoding g.V.Code.encoding g.K.Code.is_encodable g.V.Code.is_encodable g.K.Code.is_decodable g.V.Code.is_decodable g.P.Properties.age) g.D.Disk.byte_at g.N.Noting.keeps c.writes.session.witness.me.0 c.write.new.session.witness.me.0 c.args.flusher c.args.block (write_of c.write-item.result) r) c.in-Next.is c.write.ensures.told) rest),
)

pub returns-clause-told : goal.returns-clause-told
returns-clause-told g c =
    c.writes.invariant.6 c.writes.session.witness.me.0 None
    (wrote_none (meaning g.K.Code.encoding g.V.Code.encoding g.K.Code.is_encodable g.V.Code.is_encodable g.K.Code.is_decodable g.V.Code.is_decodable g.P.Properties.age) g.D.Disk.byte_at g.N.Noting.keeps c.writes.session.witness.me.0 c.args.flusher c.args.block c.args.writes.now c.writes.write-index (drop_all c.writes.write-index c.args.writes.now c.writes-test.false))

pub writes-init : goal.writes-init
writes-init g c = (c.requires.mine.0, c.requires.mine.1, refl, c.requires.right, c.requires.writes, same_on (meaning g.K.Code.encoding g.V.Code.encoding g.K.Code.is_encodable g.V.Code.is_encodable g.K.Code.is_decodable g.V.Code.is_decodable g.P.Properties.age) g.D.Disk.byte_at _ _ refl, λ after last has. has)

pub returns-in_default-clause-told : goal.returns-in_default-clause-told
returns-in_default-clause-told g c =
    c.writes.invariant.6 c.write.new.session.witness.me.0 (Some c.write.result)
    (wrote_last (meaning g.K.Code.encoding g.V.Code.encoding g.K.Code.is_encodable g.V.Code.is_encodable g.K.Code.is_decodable g.V.Code.is_decodable g.P.Properties.age) g.D.Disk.byte_at g.N.Noting.keeps c.writes.session.witness.me.0 c.write.new.session.witness.me.0 c.args.flusher c.args.block _ c.writes.write-index c.write-item.result c.write.result
    (slice_get_at _ c.writes.write-index c.write-item.result c.writes-test.true c.write-item.is) c.write.ensures.told c.in_default.not-Next)

pub returns-clause-on : goal.returns-clause-on
returns-clause-on g c = c.writes.invariant.5

pub returns-in_default-clause-on : goal.returns-in_default-clause-on
returns-in_default-clause-on g c = on_on (meaning g.K.Code.encoding g.V.Code.encoding g.K.Code.is_encodable g.V.Code.is_encodable g.K.Code.is_decodable g.V.Code.is_decodable g.P.Properties.age) g.D.Disk.byte_at _ c.writes.session.witness.me.0 c.write.new.session.witness.me.0 c.writes.invariant.5 c.write.ensures.on
