use Rattle.std.proofs.Common.{refl, sym, subst}
use Rattle.foyer_core_laws.specs.Content.{meaning}
use Rattle.foyer_core_run.specs.declared.moves.Move.TheVariants as move
use Rattle.foyer_storage_local.specs.EntryCalls.{IsHashAsked, IsRefusedOnlyAs}
use Rattle.foyer_storage_local.specs.StepAnswers.{is_question_error}
use Rattle.foyer_storage_local.proofs.RefusedSteps.{question_refused_as}
use Rattle.foyer_storage_local.proofs.engine.LocalEngine.may_contains.Goals as goal

pub returns-clause-says : goal.returns-clause-says
returns-clause-says g c =
    let m = meaning g.K.Code.encoding g.V.Code.encoding g.K.Code.is_encodable g.V.Code.is_encodable g.K.Code.is_decodable g.V.Code.is_decodable g.P.Properties.age in
    let bytes = g.D.Disk.byte_at c.args.self.now.disk in
    subst (λ h. IsHashAsked m h c.args.self.now.core c.step.new.core bytes bytes c.answer_contains.result) c.hash_one-hash.ensures
    (record { last = c.step.result; is = c.answer_contains.ensures; says = c.step.ensures.runs (move.MayContains c.hash_one-hash.result) refl bytes })

pub returns-clause-driven : goal.returns-clause-driven
returns-clause-driven g c = c.step.ensures.drives _

pub returns-clause-refused : goal.returns-clause-refused
returns-clause-refused g c =
    let m = meaning g.K.Code.encoding g.V.Code.encoding g.K.Code.is_encodable g.V.Code.is_encodable g.K.Code.is_decodable g.V.Code.is_decodable g.P.Properties.age in
    subst (λ r. IsRefusedOnlyAs m is_question_error c.args.self.now.core r) (sym c.answer_contains.ensures)
    (question_refused_as m c.hash_one-hash.result c.step.result c.args.self.now.core c.step.new.core c.step.ensures.meets)
