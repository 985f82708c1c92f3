use denote.RattleType.{RattleType}
use denote.Exit.{yes}
use denote.Param.{param}
use denote.Param.Send.{IsSend, IsSync, sendable, param_send, param_sync, arg_send, arg_sync}
use denote.Struct.Field.{u64-field}
use Rattle.std.specs.contracts.alloc.Global.{the_row as global_row}
use Rattle.std.specs.contracts.impls.GlobalAllocator.TheImpl.{ghosts as global_ghosts}
use Rattle.std.proofs.alloc.Global.TheSendSync as global
use Rattle.std.proofs.Crossing.{frees}
use Rattle.foyer_format_code.specs.contracts.codes.unsigned.U64Code.TheImpl as code
use Rattle.foyer_format_record.specs.contracts.serde.ages.NoProperties.{the_row as properties_row}
use Rattle.foyer_format_record.specs.contracts.serde.ages.NoPropertiesProperties.TheImpl.{ghosts as properties_ghosts}
use Rattle.foyer_format_record.proofs.serde.ages.NoProperties.TheSendSync as properties
use Rattle.foyer_block_manager.proofs.block.picker.BuiltInPicker.TheSendSync.{the_send as picker_send}
use Rattle.foyer_block_manager.specs.contracts.block.picker.BuiltInPicker.{the_row as picker_row}
use Rattle.foyer_block_manager.specs.contracts.block.picker.BuiltInPickerEvictionPicker.TheImpl.{ghosts as picker_ghosts}
use Rattle.foyer_policy_filter.proofs.any.BuiltInCondition.TheSendSync.{the_send as condition_send}
use Rattle.foyer_policy_filter.specs.contracts.any.BuiltInCondition.{the_row as condition_row}
use Rattle.foyer_policy_filter.specs.contracts.any.BuiltInConditionStorageFilterCondition.TheImpl.{ghosts as condition_ghosts}
use Rattle.foyer_io_blocks.specs.contracts.memory.MemoryDisk.{the_row as disk_row}
use Rattle.foyer_io_blocks.proofs.memory.MemoryDisk.TheSendSync.{the_send as disk_send}
use Rattle.foyer_io_blocks.specs.contracts.memory.MemoryDiskDisk.TheImpl as memory
use Rattle.foyer_storage_history.proofs.Sent.{own_send, engine_send, engine_sync}
use Rattle.test_history.proofs.tests.stores.run_threads.Goals as goal

pub run_by_three-requires-send-S : goal.run_by_three-requires-send-S
run_by_three-requires-send-S g c κs within =
    let disk = disk_row global_row global_ghosts in
    let codes = code.ghosts global_row global_ghosts code.no_dict code.no_dict in
    let disks = memory.ghosts global_row global_ghosts memory.no_dict memory.no_dict in
    param_send 0 _ (arg_send _ yes _ (own_send (param 0 g.row.J) (param 1 g.row.L) u64-field.row u64-field.row properties_row disk g.J.HistoryName g.L.Kinds codes codes properties_ghosts disks c.type_bounds.send-J))

pub run_by_three-requires-send-N : goal.run_by_three-requires-send-N
run_by_three-requires-send-N g c κs within =
    let disk = disk_row global_row global_ghosts in
    let codes = code.ghosts global_row global_ghosts code.no_dict code.no_dict in
    let disks = memory.ghosts global_row global_ghosts memory.no_dict memory.no_dict in
    let sent : IsSend u64-field.row = search sendable in
    let used : IsSync u64-field.row = search sendable in
    param_send 1 _ (arg_send _ yes _ (engine_send (param 0 g.row.J) (param 1 g.row.L) u64-field.row u64-field.row properties_row picker_row condition_row disk g.J.HistoryName g.L.Kinds codes codes properties_ghosts picker_ghosts condition_ghosts disks _
    c.type_bounds.send-J sent sent properties.the_send picker_send condition_send (disk_send _ _ global.the_send frees) used used properties.the_sync))

pub run_by_three-requires-sync-N : goal.run_by_three-requires-sync-N
run_by_three-requires-sync-N g c κs within =
    let disk = disk_row global_row global_ghosts in
    let codes = code.ghosts global_row global_ghosts code.no_dict code.no_dict in
    let disks = memory.ghosts global_row global_ghosts memory.no_dict memory.no_dict in
    let sent : IsSend u64-field.row = search sendable in
    let used : IsSync u64-field.row = search sendable in
    param_sync 1 _ (arg_sync _ yes _ (engine_sync (param 0 g.row.J) (param 1 g.row.L) u64-field.row u64-field.row properties_row picker_row condition_row disk g.J.HistoryName g.L.Kinds codes codes properties_ghosts picker_ghosts condition_ghosts disks _
    c.type_bounds.send-J sent sent properties.the_send picker_send condition_send (disk_send _ _ global.the_send frees) used used properties.the_sync))
