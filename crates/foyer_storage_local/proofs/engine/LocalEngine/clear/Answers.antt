use Rattle.std.proofs.Common.{◌≡◌, true, Ok, Err, inl, refl, ◌∙◌}
use Rattle.foyer_device_page.specs.declared.error.Error.TheVariants as error
use Rattle.foyer_core_run.proofs.OpenedRuns.{err_weakens}
use Rattle.foyer_core_laws.specs.Content.{meaning}
use Rattle.foyer_storage_local.specs.EntryCalls.{IsCleanFault}
use Rattle.foyer_storage_local.specs.StepAnswers.{is_wait_error}
use Rattle.foyer_storage_local.proofs.LocalAnswers.{destroyed_ok, fault_answered, refused_not_ok, some_weakens}
use Rattle.foyer_storage_local.proofs.LocalRuns.{destroy_cleared, destroy_kept, destroyed_if, destroys_here, fault_since, known_destroys, lies_more, lies_none}
use Rattle.foyer_storage_local.proofs.engine.LocalEngine.clear.Goals as goal

pub loop-init : goal.loop-init
loop-init g c =
    let m = meaning g.K.Code.encoding g.V.Code.encoding g.K.Code.is_encodable g.V.Code.is_encodable g.K.Code.is_decodable g.V.Code.is_decodable g.P.Properties.age in
    (destroys_here m g.D.Disk.is_known g.D.Disk.byte_at g.D.Disk.surely_lies g.D.Disk.faults c.args.self.now.core c.args.self.now.disk, refl, refl, refl, lies_none g.D.Disk.surely_lies g.D.Disk.faults c.args.self.now.disk)

pub returns-in-Err-clause-destroyed : goal.returns-in-Err-clause-destroyed
returns-in-Err-clause-destroyed g c =
    let m = meaning g.K.Code.encoding g.V.Code.encoding g.K.Code.is_encodable g.V.Code.is_encodable g.K.Code.is_decodable g.V.Code.is_decodable g.P.Properties.age in
    known_destroys m g.D.Disk.is_known g.D.Disk.byte_at g.D.Disk.surely_lies g.D.Disk.faults ⊥ (c.answer_kept.result ≡ Ok tt) c.args.self.now.core c.loop.self.core c.clear_blocks.new.self.core c.args.self.now.disk c.loop.self.disk c.clear_blocks.new.self.disk c.loop.invariant.0
    (destroyed_if m g.D.Disk.is_known g.D.Disk.byte_at g.D.Disk.surely_lies g.D.Disk.faults ⊥ (c.answer_kept.result ≡ Ok tt) c.loop.self.core c.clear_blocks.new.self.core c.loop.self.disk c.clear_blocks.new.self.disk (refused_not_ok c.answer_kept.result tt c.answer_kept.ensures.fails)
    (destroy_kept m g.D.Disk.is_known g.D.Disk.byte_at g.D.Disk.surely_lies g.D.Disk.faults c.in-Err.back c.loop.self.core c.clear_blocks.new.self.core c.loop.self.disk c.clear_blocks.new.self.disk c.clear_blocks.ensures.counts c.clear_blocks.ensures.known c.in-Err.ensures.kept))

pub returns-in-Ok-clause-destroyed : goal.returns-in-Ok-clause-destroyed
returns-in-Ok-clause-destroyed g c =
    let m = meaning g.K.Code.encoding g.V.Code.encoding g.K.Code.is_encodable g.V.Code.is_encodable g.K.Code.is_decodable g.V.Code.is_decodable g.P.Properties.age in
    known_destroys m g.D.Disk.is_known g.D.Disk.byte_at g.D.Disk.surely_lies g.D.Disk.faults ⊥ (c.answer_cleaned.result ≡ Ok tt) c.args.self.now.core c.loop.self.core c.clear_blocks.new.self.core c.args.self.now.disk c.loop.self.disk c.clear_blocks.new.self.disk c.loop.invariant.0
    (destroy_cleared m g.D.Disk.is_known g.D.Disk.byte_at g.D.Disk.surely_lies g.D.Disk.faults (c.answer_cleaned.result ≡ Ok tt) c.loop.self.core.settings.blocks c.in-Ok.last c.loop.self.core c.clear_blocks.new.self.core c.loop.self.disk c.clear_blocks.new.self.disk
    c.clear_blocks.ensures.counts c.clear_blocks.ensures.known (destroyed_ok c.in-Ok.last c.in-Ok.first c.answer_cleaned.result c.answer_cleaned.ensures.says) c.in-Ok.ensures.clears)

pub loop-preserved : goal.loop-preserved
loop-preserved g c =
    let m = meaning g.K.Code.encoding g.V.Code.encoding g.K.Code.is_encodable g.V.Code.is_encodable g.K.Code.is_decodable g.V.Code.is_decodable g.P.Properties.age in (
      known_destroys m g.D.Disk.is_known g.D.Disk.byte_at g.D.Disk.surely_lies g.D.Disk.faults ⊥ ⊥ c.args.self.now.core c.loop.self.core c.clear_blocks.new.self.core c.args.self.now.disk c.loop.self.disk c.clear_blocks.new.self.disk c.loop.invariant.0
          (destroy_kept m g.D.Disk.is_known g.D.Disk.byte_at g.D.Disk.surely_lies g.D.Disk.faults _ c.loop.self.core c.clear_blocks.new.self.core c.loop.self.disk c.clear_blocks.new.self.disk c.clear_blocks.ensures.counts c.clear_blocks.ensures.known c.in-Err-Refused-Memory-default.ensures.kept),
      c.clear_blocks.ensures.lent.0 ∙ c.loop.invariant.1,
      c.clear_blocks.ensures.lent.1 ∙ c.loop.invariant.2,
      c.clear_blocks.ensures.hasher ∙ c.loop.invariant.3,
      lies_more g.D.Disk.surely_lies g.D.Disk.faults c.args.self.now.disk c.loop.self.disk c.clear_blocks.new.self.disk c.loop.invariant.4 c.clear_blocks.ensures.counts,
    )

pub returns-clause-destroyed : goal.returns-clause-destroyed
returns-clause-destroyed g c =
    let m = meaning g.K.Code.encoding g.V.Code.encoding g.K.Code.is_encodable g.V.Code.is_encodable g.K.Code.is_decodable g.V.Code.is_decodable g.P.Properties.age in
    destroyed_if m g.D.Disk.is_known g.D.Disk.byte_at g.D.Disk.surely_lies g.D.Disk.faults ⊥ (Err error.Memory ≡ Ok tt) c.args.self.now.core c.loop.self.core c.args.self.now.disk c.loop.self.disk (refused_not_ok (Err error.Memory) tt refl) c.loop.invariant.0

pub returns-in-Err-clause-lent : goal.returns-in-Err-clause-lent
returns-in-Err-clause-lent g c = (c.clear_blocks.ensures.lent.0 ∙ c.loop.invariant.1, c.clear_blocks.ensures.lent.1 ∙ c.loop.invariant.2)

pub returns-in-Ok-clause-lent : goal.returns-in-Ok-clause-lent
returns-in-Ok-clause-lent g c = (c.clear_blocks.ensures.lent.0 ∙ c.loop.invariant.1, c.clear_blocks.ensures.lent.1 ∙ c.loop.invariant.2)

pub returns-clause-lent : goal.returns-clause-lent
returns-clause-lent g c = (c.loop.invariant.1, c.loop.invariant.2)

pub returns-clause-hasher : goal.returns-clause-hasher
returns-clause-hasher g c = c.loop.invariant.3

pub returns-in-Err-clause-counts : goal.returns-in-Err-clause-counts
returns-in-Err-clause-counts g c = lies_more g.D.Disk.surely_lies g.D.Disk.faults c.args.self.now.disk c.loop.self.disk c.clear_blocks.new.self.disk c.loop.invariant.4 c.clear_blocks.ensures.counts

pub returns-in-Ok-clause-counts : goal.returns-in-Ok-clause-counts
returns-in-Ok-clause-counts g c = lies_more g.D.Disk.surely_lies g.D.Disk.faults c.args.self.now.disk c.loop.self.disk c.clear_blocks.new.self.disk c.loop.invariant.4 c.clear_blocks.ensures.counts

pub returns-clause-counts : goal.returns-clause-counts
returns-clause-counts g c = c.loop.invariant.4

pub returns-in-Err-clause-hasher : goal.returns-in-Err-clause-hasher
returns-in-Err-clause-hasher g c = c.clear_blocks.ensures.hasher ∙ c.loop.invariant.3

pub returns-in-Ok-clause-hasher : goal.returns-in-Ok-clause-hasher
returns-in-Ok-clause-hasher g c = c.clear_blocks.ensures.hasher ∙ c.loop.invariant.3

pub returns-in-Err-clause-refused : goal.returns-in-Err-clause-refused
returns-in-Err-clause-refused g c = err_weakens c.answer_kept.result _ _ (λ e is. inl is) c.answer_kept.ensures.refused

pub returns-in-Ok-clause-refused : goal.returns-in-Ok-clause-refused
returns-in-Ok-clause-refused g c =
    let lies = g.D.Disk.surely_lies in
    let faults = g.D.Disk.faults in
    let may = g.D.Disk.may_answer in
    let old = c.args.self.now.disk in
    fault_answered c.answer_cleaned.result c.in-Ok.first (λ e. is_wait_error e ≡ true) (IsCleanFault lies faults may old)
    (some_weakens c.in-Ok.first (IsCleanFault lies faults may c.loop.self.disk) (IsCleanFault lies faults may old)
    (λ e is. fault_since lies faults may old c.loop.self.disk e c.loop.invariant.4 is) c.in-Ok.ensures.fault)
    c.answer_cleaned.ensures.refused
