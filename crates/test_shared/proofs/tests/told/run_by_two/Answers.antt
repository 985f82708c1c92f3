use mathlib.Core.List.{List, [], ◌∷◌}
use Prim.Native.Nat.{ℕ}
use denote.RattleType.{RattleType}
use denote.Exit.{yes}
use denote.Param.{param}
use denote.Param.Send.{IsSend, IsSync, sendable, param_send, arg_send, shr_send, recorded_send, struct_send}
use denote.Struct.Declared.{shape}
use denote.Struct.Tuple.{TupleAt, type_at}
use denote.Struct.Field.{u64-field, shr_ref_field}
use mir.Syntax.{named}
use Rattle.std.specs.contracts.alloc.Global.{the_row as global_row}
use Rattle.std.specs.contracts.impls.GlobalAllocator.TheImpl.{ghosts as global_ghosts}
use Rattle.std.proofs.alloc.Global.TheSendSync as global
use Rattle.std.proofs.Crossing.{frees}
use Rattle.std.specs.contracts.result.Result.{the_row as result_row}
use Rattle.std.proofs.result.Result.TheSendSync.{the_send as result_send}
use Rattle.foyer_device_page.proofs.error.Error.TheSendSync.{the_send as error_send}
use Rattle.foyer_device_page.specs.contracts.error.Error.{the_row as error_row}
use Rattle.foyer_format_code.specs.contracts.codes.unsigned.U64Code.TheImpl as code
use Rattle.foyer_format_record.specs.contracts.serde.ages.NoProperties.{the_row as properties_row}
use Rattle.foyer_format_record.proofs.serde.ages.NoProperties.TheSendSync as properties
use Rattle.foyer_block_manager.proofs.block.picker.BuiltInPicker.TheSendSync.{the_send as picker_send}
use Rattle.foyer_policy_filter.proofs.any.BuiltInCondition.TheSendSync.{the_send as condition_send}
use Rattle.foyer_io_blocks.specs.contracts.memory.MemoryDisk.{the_row as disk_row}
use Rattle.foyer_io_blocks.proofs.memory.MemoryDisk.TheSendSync.{the_send as disk_send}
use Rattle.foyer_core_threads.specs.contracts.session.ToldSession.{the_row as session_row}
use Rattle.foyer_block_manager.specs.contracts.block.picker.BuiltInPicker.{the_row as picker_row}
use Rattle.foyer_block_manager.specs.contracts.block.picker.BuiltInPickerEvictionPicker.TheImpl.{ghosts as picker_ghosts}
use Rattle.foyer_policy_filter.specs.contracts.any.BuiltInCondition.{the_row as condition_row}
use Rattle.foyer_policy_filter.specs.contracts.any.BuiltInConditionStorageFilterCondition.TheImpl.{ghosts as condition_ghosts}
use Rattle.foyer_storage_engine.specs.contracts.core_shared.notes.NoNotes.{the_row as notes_row}
use Rattle.foyer_format_record.specs.contracts.serde.ages.NoPropertiesProperties.TheImpl.{ghosts as properties_ghosts}
use Rattle.foyer_io_blocks.specs.contracts.memory.MemoryDiskDisk.TheImpl as memory
use Rattle.foyer_core_threads.specs.contracts.shared.ToldShared.{the_row as shared_row}
use Rattle.foyer_core_threads.proofs.Sent.{session_send, shared_sync}
use Rattle.test_shared.proofs.tests.told.run_by_two.Goals as goal

-- the name of the closure that goes to another thread
abbrev closure_name : List ℕ
closure_name = 116 ∷ 101 ∷ 115 ∷ 116 ∷ 95 ∷ 115 ∷ 104 ∷ 97 ∷ 114 ∷ 101 ∷ 100 ∷ 58 ∷ 58 ∷ 116 ∷ 101 ∷ 115 ∷ 116 ∷ 115 ∷ 58 ∷ 58 ∷ 116 ∷ 111 ∷ 108 ∷ 100 ∷ 58 ∷ 58 ∷ 102 ∷ 110 ∷ 58 ∷ 58 ∷ 114 ∷ 117 ∷ 110 ∷ 95 ∷ 98 ∷ 121 ∷ 95 ∷ 116 ∷ 119 ∷ 111 ∷ 58 ∷ 58 ∷ 106 ∷ 111 ∷ 105 ∷ 110 ∷ 43 ∷ 97 ∷ 114 ∷ 103 ∷ 50 ∷ 43 ∷ 83 ∷ 101 ∷ 108 ∷ 102 ∷ []

closure_send : (name : List ℕ) (R S T U : RattleType) → IsSend R → IsSend S → IsSend T → IsSend U → IsSend (TupleAt name (R ∷ S ∷ T ∷ U ∷ []))
closure_send name R S T U r s t u = recorded_send _ _ _ (type_at name (R ∷ S ∷ T ∷ U ∷ [])).to_one (struct_send (shape (type_at name (R ∷ S ∷ T ∷ U ∷ []))) (r, (s, (t, (u, tt)))))

pub join-one-requires-send-F : goal.join-one-requires-send-F
join-one-requires-send-F g c κs within =
    let sent : IsSend u64-field.row = search sendable in
    let used : IsSync u64-field.row = search sendable in
    let disk = disk_row global_row global_ghosts in
    let codes = code.ghosts global_row global_ghosts code.no_dict code.no_dict in
    let disks = memory.ghosts global_row global_ghosts memory.no_dict memory.no_dict in
    let session = session_row (param 1 g.row.L) u64-field.row u64-field.row properties_row global_row disk g.L.Kinds global_ghosts in
    param_send 1 _ (arg_send _ yes _ (closure_send closure_name
    (shr_ref_field (record { mir = named 6; lft = κs.1.1.1.1.1.1.0 }) (param 2 g.row.R) tt).row
    global_row
    (shr_ref_field (record { mir = named 7; lft = κs.1.1.1.1.1.1.1.0 }) (shared_row (param 0 g.row.J) (param 1 g.row.L) u64-field.row u64-field.row properties_row global_row picker_row condition_row notes_row disk g.J.HistoryName picker_ghosts condition_ghosts _ g.L.Kinds codes codes properties_ghosts global_ghosts disks) tt).row
    session
    (shr_send (named 6) κs.1.1.1.1.1.1.0 (param 2 g.row.R) c.type_bounds.sync-R)
    global.the_send
    (shr_send (named 7) κs.1.1.1.1.1.1.1.0 _ (shared_sync (param 0 g.row.J) (param 1 g.row.L) u64-field.row u64-field.row properties_row global_row picker_row condition_row notes_row disk g.J.HistoryName picker_ghosts condition_ghosts _ g.L.Kinds codes codes properties_ghosts global_ghosts disks
    c.type_bounds.send-J sent sent properties.the_send global.the_send picker_send condition_send (disk_send _ _ global.the_send frees) used used properties.the_sync global.the_sync frees))
    (session_send (param 1 g.row.L) u64-field.row u64-field.row properties_row global_row disk g.L.Kinds global_ghosts)))

pub join-one-requires-send-A : goal.join-one-requires-send-A
join-one-requires-send-A g c κs within =
    param_send 3 _ (arg_send _ yes (result_row (session_row (param 1 g.row.L) u64-field.row u64-field.row properties_row global_row (disk_row global_row global_ghosts) g.L.Kinds global_ghosts) error_row)
    (result_send _ _ (session_send (param 1 g.row.L) u64-field.row u64-field.row properties_row global_row (disk_row global_row global_ghosts) g.L.Kinds global_ghosts) error_send))
