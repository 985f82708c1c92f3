-- A session may go to another thread, and threads may share a core and its disk, if what these are made of may.
use denote.RattleType.{RattleType}
use denote.Param.Send.{IsSend, IsSync, Frees, sendable, recorded_send, recorded_sync, struct_send, struct_sync, view_send}
use denote.Struct.Declared.{shape}
use denote.Builtin.{u64, u8}
use Rattle.std.proofs.vec.Vec.TheSendSync.{the_send as vec_send}
use Rattle.std.proofs.sync.Mutex.TheSendSync.{the_send as mutex_send, the_sync as mutex_sync}
use Rattle.atomic_table.proofs.shared.Seat.TheSendSync.{the_send as seat_send}
use Rattle.std.specs.declared.alloc.Allocator.{Ghosts as Allocators}
use Rattle.foyer_format_record.specs.declared.serde.Code.{Ghosts as Codes}
use Rattle.foyer_format_record.specs.declared.serde.ages.Properties.{Ghosts as PropertiesOf}
use Rattle.foyer_io_disk.specs.declared.disk.Disk.{Ghosts as Disks}
use Rattle.foyer_block_manager.specs.declared.block.eviction.EvictionPicker.{Ghosts as Pickers}
use Rattle.foyer_policy_filter.specs.declared.filter.StorageFilterCondition.{Ghosts as Conditions}
use Rattle.foyer_core_chronicle.specs.contracts.View.{the_row as view_row}
use Rattle.foyer_core_chronicle.proofs.Chronicle.TheSendSync.{the_field_send as chronicle_send, the_field_sync as chronicle_sync}
use Rattle.foyer_core_shared.proofs.locked.Locked.TheSendSync.{the_field_send as locked_send}
use Rattle.foyer_core_shared.proofs.locked.Session.TheSendSync.{the_send as session_part_send}
use Rattle.foyer_core_shared.specs.declared.notes.Noting.{Ghosts as Notings}
use Rattle.foyer_core_tally.specs.declared.book.Kinds.{Ghosts as KindsOf}
use Rattle.foyer_core_told.specs.contracts.event.Told.{the_row as told_row}
use Rattle.foyer_core_told.specs.contracts.history.ToldRule.{the_row as rule_row}
use Rattle.foyer_core_told.specs.contracts.history.ToldRuleHistoryRuleTold.TheImpl.{ghosts, no_dict}
use Rattle.foyer_core_told.proofs.Sent.{told_send}
use Rattle.foyer_io_told.specs.declared.disk.HistoryName.{Ghosts as HistoryNames}
use Rattle.foyer_io_told.specs.contracts.disk.ToldDisk.{the_row as disk_row}
use Rattle.foyer_io_told.specs.contracts.disk.ToldDisk.TheInside.{the_type as disk_type}
use Rattle.foyer_core_threads.specs.contracts.locked.ToldCore.{the_row as core_row}
use Rattle.foyer_core_threads.specs.contracts.locked.ToldCore.TheInside.{the_type as core_type}
use Rattle.foyer_core_threads.specs.contracts.queued.QueuedPlaces.{the_row as places_row}
use Rattle.foyer_core_threads.specs.contracts.queued.QueuedPlaces.TheInside.{the_type as places_type}
use Rattle.foyer_core_threads.specs.contracts.session.ToldSession.{the_row as session_row, the_type as session_type}
use Rattle.foyer_core_threads.specs.contracts.shared.ToldShared.{the_row as shared_row, the_type as shared_type}

pub session_send : (L K V P A D : RattleType) (l : KindsOf L.Denot) (a : Allocators A.Denot) → IsSend (session_row L K V P A D l a)
session_send L K V P A D l a =
    recorded_send _ _ _ (session_type L K V P A D l a).to_one (struct_send (shape (session_type L K V P A D l a)) (
      session_part_send L l,
      (seat_send (told_row K V P A D a) (view_row (told_row K V P A D a)) (told_send K V P A D a), tt),
    ))

places_send : (A : RattleType) (a : Allocators A.Denot) → IsSend A → Frees {D = A.Denot} {G = Allocators A.Denot} a a.dealloc_token → IsSend (places_row A a)
places_send A a a_sent free =
    let numbers = vec_send u64 A a (search sendable) a_sent free in
    view_send _ _ _ _ _ (recorded_send _ _ _ (places_type A a).to_one (struct_send (shape (places_type A a)) (numbers, (numbers, (numbers, (numbers, (numbers, (search sendable, tt))))))))

core_send : (H L K V P A E C N D : RattleType) (j : HistoryNames H.Denot) (l : KindsOf L.Denot) (k : Codes K.Denot A.Denot) (v : Codes V.Denot A.Denot) (p : PropertiesOf P.Denot) (a : Allocators A.Denot)
    (e : Pickers E.Denot) (c : Conditions C.Denot) (n : Notings N.Denot) (d : Disks D.Denot)
    → IsSend H → IsSend K → IsSend V → IsSend P → IsSend A → IsSend E → IsSend C → IsSync K → IsSync V → IsSync P → IsSync A → Frees {D = A.Denot} {G = Allocators A.Denot} a a.dealloc_token
    → IsSend (core_row H L K V P A E C N D j l k v p a e c n d)
core_send H L K V P A E C N D j l k v p a e c n d j_sent k_sent v_sent p_sent a_sent e_sent c_sent k_used v_used p_used a_used free =
    view_send _ _ _ _ _ (recorded_send _ _ _ (core_type H L K V P A E C N D j l k v p a e c n d).to_one (struct_send (shape (core_type H L K V P A E C N D j l k v p a e c n d)) (
      locked_send L K V P A E C N l k v p a n k_sent v_sent p_sent a_sent e_sent c_sent k_used v_used p_used a_used free,
      (
        seat_send (told_row K V P A D a) (view_row (told_row K V P A D a)) (told_send K V P A D a),
        (search sendable, (places_send A a a_sent free, (search sendable, tt))),
      ),
    )))

disk_send : (H K V P A D : RattleType) (j : HistoryNames H.Denot) (k : Codes K.Denot A.Denot) (v : Codes V.Denot A.Denot) (p : PropertiesOf P.Denot) (a : Allocators A.Denot) (d : Disks D.Denot)
    → IsSend H → IsSend A → IsSend D → Frees {D = A.Denot} {G = Allocators A.Denot} a a.dealloc_token → IsSend (disk_row H K V P A D j k v p a d)
disk_send H K V P A D j k v p a d j_sent a_sent d_sent free =
    view_send _ _ _ _ _ (recorded_send _ _ _ (disk_type H K V P A D j k v p a d).to_one (struct_send (shape (disk_type H K V P A D j k v p a d)) (
      search sendable,
      (vec_send u8 A a (search sendable) a_sent free, (seat_send (told_row K V P A D a) (view_row (told_row K V P A D a)) (told_send K V P A D a), (search sendable, tt))),
    )))

pub shared_sync : (H L K V P A E C N D : RattleType) (j : HistoryNames H.Denot) (e : Pickers E.Denot) (c : Conditions C.Denot) (n : Notings N.Denot) (l : KindsOf L.Denot) (k : Codes K.Denot A.Denot)
    (v : Codes V.Denot A.Denot) (p : PropertiesOf P.Denot) (a : Allocators A.Denot) (d : Disks D.Denot)
    → IsSend H → IsSend K → IsSend V → IsSend P → IsSend A → IsSend E → IsSend C → IsSend D → IsSync K → IsSync V → IsSync P → IsSync A → Frees {D = A.Denot} {G = Allocators A.Denot} a a.dealloc_token
    → IsSync (shared_row H L K V P A E C N D j e c n l k v p a d)
shared_sync H L K V P A E C N D j e c n l k v p a d j_sent k_sent v_sent p_sent a_sent e_sent c_sent d_sent k_used v_used p_used a_used free =
    recorded_sync _ _ _ (shared_type H L K V P A E C N D j e c n l k v p a d).to_one (struct_sync (shape (shared_type H L K V P A E C N D j e c n l k v p a d)) (
      chronicle_sync (told_row K V P A D a) (rule_row K V P A D) (ghosts K V P A D k no_dict v no_dict p no_dict a no_dict d no_dict no_dict) (told_send K V P A D a),
      (
        mutex_sync _ (core_send H L K V P A E C N D j l k v p a e c n d j_sent k_sent v_sent p_sent a_sent e_sent c_sent k_used v_used p_used a_used free),
        (mutex_sync _ (disk_send H K V P A D j k v p a d j_sent a_sent d_sent free), tt),
      ),
    ))

pub shared_send : (H L K V P A E C N D : RattleType) (j : HistoryNames H.Denot) (e : Pickers E.Denot) (c : Conditions C.Denot) (n : Notings N.Denot) (l : KindsOf L.Denot) (k : Codes K.Denot A.Denot)
    (v : Codes V.Denot A.Denot) (p : PropertiesOf P.Denot) (a : Allocators A.Denot) (d : Disks D.Denot)
    → IsSend H → IsSend K → IsSend V → IsSend P → IsSend A → IsSend E → IsSend C → IsSend D → IsSync K → IsSync V → IsSync P → IsSync A → Frees {D = A.Denot} {G = Allocators A.Denot} a a.dealloc_token
    → IsSend (shared_row H L K V P A E C N D j e c n l k v p a d)
shared_send H L K V P A E C N D j e c n l k v p a d j_sent k_sent v_sent p_sent a_sent e_sent c_sent d_sent k_used v_used p_used a_used free =
    recorded_send _ _ _ (shared_type H L K V P A E C N D j e c n l k v p a d).to_one (struct_send (shape (shared_type H L K V P A E C N D j e c n l k v p a d)) (
      chronicle_send (told_row K V P A D a) (rule_row K V P A D) (ghosts K V P A D k no_dict v no_dict p no_dict a no_dict d no_dict no_dict) (told_send K V P A D a),
      (
        mutex_send _ (core_send H L K V P A E C N D j l k v p a e c n d j_sent k_sent v_sent p_sent a_sent e_sent c_sent k_used v_used p_used a_used free),
        (mutex_send _ (disk_send H K V P A D j k v p a d j_sent a_sent d_sent free), tt),
      ),
    ))
