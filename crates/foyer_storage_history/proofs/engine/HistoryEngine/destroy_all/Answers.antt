use Rattle.std.proofs.Common.{inl, inr, sym, subst}
use Rattle.foyer_core_laws.specs.Content.{meaning}
use Rattle.foyer_core_shared.specs.Sessions.{SessionState}
use Rattle.foyer_storage_engine.specs.Ending.{HoldsButDestroys}
use Rattle.foyer_storage_history.proofs.HistoryLemmas.{all_destroyed_after, err_map, ok_map}
use Rattle.foyer_storage_history.proofs.engine.HistoryEngine.destroy_all.Goals as goal

pub returns-clause-destroyed : goal.returns-clause-destroyed
returns-clause-destroyed g c =
    ok_map c.destroy.result (λ all. all_destroyed_after (meaning g.K.Code.encoding g.V.Code.encoding g.K.Code.is_encodable g.V.Code.is_encodable g.K.Code.is_decodable g.V.Code.is_decodable g.P.Properties.age) g.D.Disk.byte_at c.args.session.now.told.witness.me.0 c.begin_destroy.new.session.told.witness.me.0 c.destroy.new.caller.witness.me.0 c.destroy.result c.begin_destroy.ensures.on all) c.destroy.ensures.destroyed

pub returns-clause-named : goal.returns-clause-named
returns-clause-named g c = subst (λ (s : SessionState). HoldsButDestroys c.args.session.now.told.session s) (sym c.destroy.ensures.mine.2) c.begin_destroy.ensures.named

pub returns-clause-refused : goal.returns-clause-refused
returns-clause-refused g c =
    err_map c.destroy.result (λ e is. elim is [
      | inl draw ↦ inl draw
      | inr other ↦ inr (elim other [
        | inl none ↦ inl none
        | inr all ↦ inr (all_destroyed_after (meaning g.K.Code.encoding g.V.Code.encoding g.K.Code.is_encodable g.V.Code.is_encodable g.K.Code.is_decodable g.V.Code.is_decodable g.P.Properties.age) g.D.Disk.byte_at c.args.session.now.told.witness.me.0 c.begin_destroy.new.session.told.witness.me.0 c.destroy.new.caller.witness.me.0 c.destroy.result c.begin_destroy.ensures.on all)
      ])
    ]) c.destroy.ensures.refused
