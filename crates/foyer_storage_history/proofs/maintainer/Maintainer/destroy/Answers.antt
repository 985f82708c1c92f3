use Rattle.std.proofs.Common.{◌≡◌, inl, inr, ◌-◌, ◌<◌, subst, ◌∙◌}
use Rattle.foyer_core_laws.specs.Content.{meaning}
use Rattle.foyer_core_laws.specs.Settings.{Settings}
use Rattle.foyer_core_threads.specs.Asking.{HasSizes}
use Rattle.foyer_storage_history.specs.HistoryCalls.{AreCleaned, IsCleared}
use Rattle.foyer_storage_history.proofs.HistoryLemmas.{destroyed, err_map, goes_self, ok_map, ok_map2, sizes_shown}
use Rattle.foyer_storage_history.proofs.maintainer.Maintainer.destroy.Goals as goal

pub clean_all-ended-requires-clause-issued : goal.clean_all-ended-requires-clause-issued
clean_all-ended-requires-clause-issued g c = λ block below. c.in_default.ensures.cleared.issued block (subst (λ (t : Settings). block < t.blocks) c.clear.ensures.settings below)

pub returns-clause-blocks : goal.returns-clause-blocks
returns-clause-blocks g c =
    ok_map c.clean_all-ended.result (λ some. destroyed (meaning g.K.Code.encoding g.V.Code.encoding g.K.Code.is_encodable g.V.Code.is_encodable g.K.Code.is_decodable g.V.Code.is_decodable g.P.Properties.age) g.D.Disk.byte_at c.args.caller.now.witness.me.0 c.see.new.self.told.witness.me.0 c.see.new.self.told.witness.me.0 c.clear.new.self.told.witness.me.0 c.clean_all-ended.new.self.told.witness.me.0 c.show.new.caller.witness.me.0 c.args.self.now.settings.blocks c.clean_all-ended.result
    c.see.ensures.sees (goes_self (meaning g.K.Code.encoding g.V.Code.encoding g.K.Code.is_encodable g.V.Code.is_encodable g.K.Code.is_decodable g.V.Code.is_decodable g.P.Properties.age) g.D.Disk.byte_at c.see.new.self.told.witness.me.0)
    (subst (λ (t : Settings). IsCleared (meaning g.K.Code.encoding g.V.Code.encoding g.K.Code.is_encodable g.V.Code.is_encodable g.K.Code.is_decodable g.V.Code.is_decodable g.P.Properties.age) g.D.Disk.byte_at c.see.new.self.told.witness.me.0 c.clear.new.self.told.witness.me.0 t.blocks) c.see.ensures.settings c.in_default.ensures.cleared)
    (subst (λ (t : Settings). AreCleaned (meaning g.K.Code.encoding g.V.Code.encoding g.K.Code.is_encodable g.V.Code.is_encodable g.K.Code.is_decodable g.V.Code.is_decodable g.P.Properties.age) g.D.Disk.byte_at c.clear.new.self.told.witness.me.0 c.clean_all-ended.new.self.told.witness.me.0 (t.blocks - 1) c.clean_all-ended.result) (c.clear.ensures.settings ∙ c.see.ensures.settings) (c.clean_all-ended.ensures.cleaned some))
    c.show.ensures.shown) c.clean_all-ended.ensures.some

pub returns-clause-destroyed : goal.returns-clause-destroyed
returns-clause-destroyed g c =
    let kept : c.clean_all-ended.new.self.settings ≡ c.args.self.now.settings = c.clean_all-ended.ensures.settings ∙ c.clear.ensures.settings ∙ c.see.ensures.settings in
    ok_map2 c.clean_all-ended.result (λ some all. record {
      sizes = c.args.self.now.settings;
      known = subst (λ (t : Settings). HasSizes (meaning g.K.Code.encoding g.V.Code.encoding g.K.Code.is_encodable g.V.Code.is_encodable g.K.Code.is_decodable g.V.Code.is_decodable g.P.Properties.age) g.D.Disk.byte_at c.show.new.caller.witness.me.0.seen t) kept (sizes_shown (meaning g.K.Code.encoding g.V.Code.encoding g.K.Code.is_encodable g.V.Code.is_encodable g.K.Code.is_decodable g.V.Code.is_decodable g.P.Properties.age) g.D.Disk.byte_at c.clean_all-ended.new.self.told.witness.me.0 c.show.new.caller.witness.me.0 c.clean_all-ended.new.self.settings c.clean_all-ended.new.self.sizes c.show.ensures.shown);
      some = subst (λ (t : Settings). 0 < t.blocks) (c.clear.ensures.settings ∙ c.see.ensures.settings) some;
      destroyed = all;
    }) c.clean_all-ended.ensures.some (returns-clause-blocks g c)

pub returns-clause-refused : goal.returns-clause-refused
returns-clause-refused g c =
    let kept : c.clean_all-ended.new.self.settings ≡ c.args.self.now.settings = c.clean_all-ended.ensures.settings ∙ c.clear.ensures.settings ∙ c.see.ensures.settings in
    err_map c.clean_all-ended.result (λ e is. elim is [
      | inl none ↦ inr (inl none)
      | inr some ↦ inr (inr (record {
        sizes = c.args.self.now.settings;
        known = subst (λ (t : Settings). HasSizes (meaning g.K.Code.encoding g.V.Code.encoding g.K.Code.is_encodable g.V.Code.is_encodable g.K.Code.is_decodable g.V.Code.is_decodable g.P.Properties.age) g.D.Disk.byte_at c.show.new.caller.witness.me.0.seen t) kept (sizes_shown (meaning g.K.Code.encoding g.V.Code.encoding g.K.Code.is_encodable g.V.Code.is_encodable g.K.Code.is_decodable g.V.Code.is_decodable g.P.Properties.age) g.D.Disk.byte_at c.clean_all-ended.new.self.told.witness.me.0 c.show.new.caller.witness.me.0 c.clean_all-ended.new.self.settings c.clean_all-ended.new.self.sizes c.show.ensures.shown);
        some = subst (λ (t : Settings). 0 < t.blocks) (c.clear.ensures.settings ∙ c.see.ensures.settings) some;
        destroyed = destroyed (meaning g.K.Code.encoding g.V.Code.encoding g.K.Code.is_encodable g.V.Code.is_encodable g.K.Code.is_decodable g.V.Code.is_decodable g.P.Properties.age) g.D.Disk.byte_at c.args.caller.now.witness.me.0 c.see.new.self.told.witness.me.0 c.see.new.self.told.witness.me.0 c.clear.new.self.told.witness.me.0 c.clean_all-ended.new.self.told.witness.me.0 c.show.new.caller.witness.me.0 c.args.self.now.settings.blocks c.clean_all-ended.result
            c.see.ensures.sees (goes_self (meaning g.K.Code.encoding g.V.Code.encoding g.K.Code.is_encodable g.V.Code.is_encodable g.K.Code.is_decodable g.V.Code.is_decodable g.P.Properties.age) g.D.Disk.byte_at c.see.new.self.told.witness.me.0)
            (subst (λ (t : Settings). IsCleared (meaning g.K.Code.encoding g.V.Code.encoding g.K.Code.is_encodable g.V.Code.is_encodable g.K.Code.is_decodable g.V.Code.is_decodable g.P.Properties.age) g.D.Disk.byte_at c.see.new.self.told.witness.me.0 c.clear.new.self.told.witness.me.0 t.blocks) c.see.ensures.settings c.in_default.ensures.cleared)
            (subst (λ (t : Settings). AreCleaned (meaning g.K.Code.encoding g.V.Code.encoding g.K.Code.is_encodable g.V.Code.is_encodable g.K.Code.is_decodable g.V.Code.is_decodable g.P.Properties.age) g.D.Disk.byte_at c.clear.new.self.told.witness.me.0 c.clean_all-ended.new.self.told.witness.me.0 (t.blocks - 1) c.clean_all-ended.result) (c.clear.ensures.settings ∙ c.see.ensures.settings) (c.clean_all-ended.ensures.cleaned some))
            c.show.ensures.shown;
      }))
    ]) c.clean_all-ended.ensures.refused
