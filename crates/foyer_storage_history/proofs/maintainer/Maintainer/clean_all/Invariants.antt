use Rattle.std.specs.Prelude.{◌≡◌, ◌⊎◌, ℕ, ◌-◌, ◌<◌, ◌≤◌, IfErr, OnOk}
use Rattle.foyer_core_laws.specs.Content.{meaning}
use Rattle.foyer_core_model.specs.Access.{CleanIssued}
use Rattle.foyer_core_threads.specs.Going.{GoesOn}
use Rattle.foyer_device_page.specs.declared.error.Error.TheVariants as error
use Rattle.foyer_io_told.specs.ToldAccess.{HasClean}
use Rattle.foyer_storage_history.specs.HistoryCalls.{AreCleaned}
use Rattle.foyer_storage_history.proofs.maintainer.Maintainer.clean_all.Given as goal

abbrev pub invariant-loop-block : goal.invariant-loop-block
invariant-loop-block g l =
    GoesOn (meaning g.K.Code.encoding g.V.Code.encoding g.K.Code.is_encodable g.V.Code.is_encodable g.K.Code.is_decodable g.V.Code.is_decodable g.P.Properties.age) g.D.Disk.byte_at l.fn.self.told.witness.me.0 l.self.told.witness.me.0 × (l.self.settings ≡ l.fn.self.settings)
    × ((other : ℕ) → l.block ≤ other → other < l.fn.self.settings.blocks → HasClean (meaning g.K.Code.encoding g.V.Code.encoding g.K.Code.is_encodable g.V.Code.is_encodable g.K.Code.is_decodable g.V.Code.is_decodable g.P.Properties.age) g.D.Disk.byte_at l.self.told.witness.me.0.seen other CleanIssued)
    × (0 < l.block → AreCleaned (meaning g.K.Code.encoding g.V.Code.encoding g.K.Code.is_encodable g.V.Code.is_encodable g.K.Code.is_decodable g.V.Code.is_decodable g.P.Properties.age) g.D.Disk.byte_at l.fn.self.told.witness.me.0 l.self.told.witness.me.0 (l.block - 1) l.ended)
    × OnOk l.ended (0 < l.block)
    × IfErr l.ended (λ e. (e ≡ error.Unsupported) ⊎ (0 < l.block))
