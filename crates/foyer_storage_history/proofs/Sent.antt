-- A session may go to another thread, and threads may share an engine, if what these are made of may.
use denote.RattleType.{RattleType}
use denote.Param.Send.{IsSend, IsSync, sendable}
use denote.Param.SendFields.{declared_send, declared_sync}
use Rattle.std.proofs.sync.Mutex.TheSendSync.{the_send as mutex_send, the_sync as mutex_sync}
use Rattle.std.specs.contracts.alloc.Global.{the_row as global_row}
use Rattle.std.specs.contracts.impls.GlobalAllocator.TheImpl.{ghosts as global_ghosts}
use Rattle.std.proofs.alloc.Global.TheSendSync as global
use Rattle.std.proofs.Crossing.{frees}
use Rattle.foyer_format_record.specs.declared.serde.Code.{Ghosts as Codes}
use Rattle.foyer_format_record.specs.declared.serde.ages.Properties.{Ghosts as PropertiesOf}
use Rattle.foyer_io_disk.specs.declared.disk.Disk.{Ghosts as Disks}
use Rattle.foyer_core_tally.specs.declared.book.Kinds.{Ghosts as KindsOf}
use Rattle.foyer_block_manager.specs.declared.block.eviction.EvictionPicker.{Ghosts as Pickers}
use Rattle.foyer_policy_filter.specs.declared.filter.StorageFilterCondition.{Ghosts as Conditions}
use Rattle.foyer_core_settings.proofs.settings.Settings.TheSendSync.{the_send as settings_send, the_sync as settings_sync}
use Rattle.foyer_storage_engine.proofs.engine.counts.WorkCounters.TheSendSync.{the_send as work_send, the_sync as work_sync}
use Rattle.foyer_policy_keeper.proofs.keeper.Keeper.TheSendSync as keeper
use Rattle.std.proofs.sync.Arc.TheSendSync as arc
use Rattle.foyer_core_threads.proofs.Sent.{session_send, shared_send, shared_sync}
use Rattle.foyer_storage_history.specs.contracts.engine.HistoryEngine.{the_row as engine_row, the_type as engine_type}
use Rattle.foyer_io_told.specs.declared.disk.HistoryName.{Ghosts as HistoryNames}
use Rattle.foyer_storage_history.specs.contracts.session.HistorySession.{the_row as own_row, the_type as own_type}
use Rattle.foyer_storage_history.specs.contracts.maintainer.Maintainer.{the_row as maintainer_row, the_type as maintainer_type}

pub own_send : (H L K V P D : RattleType) (j : HistoryNames H.Denot) (l : KindsOf L.Denot) (k : Codes K.Denot global_row.Denot) (v : Codes V.Denot global_row.Denot) (p : PropertiesOf P.Denot) (d : Disks D.Denot)
    → IsSend H → IsSend (own_row H L K V P D j k v p d l)
own_send H L K V P D j l k v p d sent = declared_send (own_type H L K V P D j k v p d l) (session_send L K V P global_row D l global_ghosts, (search sendable, tt))

maintainer_send : (H L K V P D : RattleType) (j : HistoryNames H.Denot) (l : KindsOf L.Denot) (k : Codes K.Denot global_row.Denot) (v : Codes V.Denot global_row.Denot) (p : PropertiesOf P.Denot) (d : Disks D.Denot)
    → IsSend H → IsSend (maintainer_row H L K V P D j k v p d l)
maintainer_send H L K V P D j l k v p d sent = declared_send (maintainer_type H L K V P D j k v p d l) (session_send L K V P global_row D l global_ghosts, (settings_send, (search sendable, tt)))

pub engine_sync : (H L K V P E C D : RattleType) (j : HistoryNames H.Denot) (l : KindsOf L.Denot) (k : Codes K.Denot global_row.Denot) (v : Codes V.Denot global_row.Denot) (p : PropertiesOf P.Denot) (e : Pickers E.Denot) (c : Conditions C.Denot) (d : Disks D.Denot) (eq : _)
    → IsSend H → IsSend K → IsSend V → IsSend P → IsSend E → IsSend C → IsSend D → IsSync K → IsSync V → IsSync P
    → IsSync (engine_row H L K V P E C D j k v p e c d l eq)
engine_sync H L K V P E C D j l k v p e c d eq j_sent k_sent v_sent p_sent e_sent c_sent d_sent k_used v_used p_used =
    declared_sync (engine_type H L K V P E C D j k v p e c d l eq) (
      shared_sync H L K V P global_row E C _ D j e c _ l k v p global_ghosts d j_sent k_sent v_sent p_sent global.the_send e_sent c_sent d_sent k_used v_used p_used global.the_sync frees,
      (
        mutex_sync _ (maintainer_send H L K V P D j l k v p d j_sent),
        (arc.the_sync _ _ _ (keeper.the_send K V P global_row eq global_ghosts k_sent v_sent p_sent global.the_send k_used v_used p_used global.the_sync frees) global.the_send (keeper.the_sync K V P global_row eq global_ghosts k_sent v_sent p_sent global.the_send k_used v_used p_used global.the_sync frees) global.the_sync frees, (settings_sync, (work_sync, (global.the_sync, tt)))),
      ),
    )

pub engine_send : (H L K V P E C D : RattleType) (j : HistoryNames H.Denot) (l : KindsOf L.Denot) (k : Codes K.Denot global_row.Denot) (v : Codes V.Denot global_row.Denot) (p : PropertiesOf P.Denot) (e : Pickers E.Denot) (c : Conditions C.Denot) (d : Disks D.Denot) (eq : _)
    → IsSend H → IsSend K → IsSend V → IsSend P → IsSend E → IsSend C → IsSend D → IsSync K → IsSync V → IsSync P
    → IsSend (engine_row H L K V P E C D j k v p e c d l eq)
engine_send H L K V P E C D j l k v p e c d eq j_sent k_sent v_sent p_sent e_sent c_sent d_sent k_used v_used p_used =
    declared_send (engine_type H L K V P E C D j k v p e c d l eq) (
      shared_send H L K V P global_row E C _ D j e c _ l k v p global_ghosts d j_sent k_sent v_sent p_sent global.the_send e_sent c_sent d_sent k_used v_used p_used global.the_sync frees,
      (
        mutex_send _ (maintainer_send H L K V P D j l k v p d j_sent),
        (arc.the_send _ _ _ (keeper.the_send K V P global_row eq global_ghosts k_sent v_sent p_sent global.the_send k_used v_used p_used global.the_sync frees) global.the_send (keeper.the_sync K V P global_row eq global_ghosts k_sent v_sent p_sent global.the_send k_used v_used p_used global.the_sync frees) global.the_sync frees, (settings_send, (work_send, (global.the_send, tt)))),
      ),
    )
