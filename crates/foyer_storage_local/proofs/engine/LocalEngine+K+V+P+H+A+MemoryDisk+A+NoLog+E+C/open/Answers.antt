use Rattle.std.proofs.Common.{◌+◌, ◌*◌, inl, inr, refl}
use Rattle.std.specs.Prelude.{if◌then◌else◌, nat_lt, slice_index}
use Rattle.foyer_core_laws.specs.Content.{meaning}
use Rattle.foyer_core_laws.specs.Sizes.{AreValid}
use Rattle.foyer_core_run.proofs.OpenedRuns.{err_weakens, none_refuses}
use Rattle.foyer_storage_local.proofs.LocalRuns.{zeroed}
use Rattle.foyer_storage_local.proofs.engine.LocalEngine+K+V+P+H+A+MemoryDisk+A+NoLog+E+C.open.Goals as goal

pub returns-clause-begins : goal.returns-clause-begins
returns-clause-begins g c =
    zeroed (meaning g.K.Code.encoding g.V.Code.encoding g.K.Code.is_encodable g.V.Code.is_encodable g.K.Code.is_decodable g.V.Code.is_decodable g.P.Properties.age) (λ e. e.core) (λ e. e.disk) c.args.settings (λ d b o. if nat_lt o d.block_size then slice_index d.file.bytes (b * d.block_size + o) else 0) _ _ (inl refl) c.in_ok-disk.disk
    c.in_ok-disk.ensures.zeros c.with_disk.result c.with_disk.ensures.begins

pub returns-clause-refused : goal.returns-clause-refused
returns-clause-refused g c = err_weakens c.with_disk.result _ _ (λ e is. elim (none_refuses {Bad = AreValid c.args.settings → ⊥} (λ read. read refl) e is) [ inl memory ↦ inl memory | inr config ↦ inr (inl config) ]) c.with_disk.ensures.refused
