use Rattle.std.proofs.Common.{refl, sym, subst}
use Rattle.foyer_core_laws.specs.Content.{meaning}
use Rattle.foyer_core_run.specs.declared.moves.Move.TheVariants as move
use Rattle.foyer_storage_local.specs.EntryCalls.{IsRefusedOnlyAs}
use Rattle.foyer_storage_local.specs.StepAnswers.{is_draw_error}
use Rattle.foyer_storage_local.proofs.LocalAnswers.{size_of}
use Rattle.foyer_storage_local.proofs.RefusedSteps.{enqueue_refused_as}
use Rattle.foyer_storage_local.proofs.engine.LocalEngine.enqueue.Goals as goal

pub returns-clause-says : goal.returns-clause-says
returns-clause-says g c = record {
  reference = c.from-piece.result;
  size = c.estimated_size-size.result;
  last = c.step.result;
  piece_is = c.from-piece.ensures.0;
  size_is = size_of g.K.Code.encoding g.V.Code.encoding g.K.Code.is_encodable g.V.Code.is_encodable _ _ _ _ _ c.key.ensures c.value.ensures c.estimated_size-size.ensures;
  is = c.answer_enqueue.ensures;
  says = c.step.ensures.runs (move.Enqueue c.from-piece.result c.estimated_size-size.result) refl _;
}

pub returns-clause-driven : goal.returns-clause-driven
returns-clause-driven g c = c.step.ensures.drives _

pub returns-clause-refused : goal.returns-clause-refused
returns-clause-refused g c =
    let m = meaning g.K.Code.encoding g.V.Code.encoding g.K.Code.is_encodable g.V.Code.is_encodable g.K.Code.is_decodable g.V.Code.is_decodable g.P.Properties.age in
    subst (λ r. IsRefusedOnlyAs m is_draw_error c.args.self.now.core r) (sym c.answer_enqueue.ensures)
    (enqueue_refused_as m c.from-piece.result c.estimated_size-size.result c.step.result c.args.self.now.core c.step.new.core c.step.ensures.meets)
