-- An event may go to another thread: it owns nothing.
use denote.RattleType.{RattleType}
use denote.Enum.Declared.{shape}
use denote.Param.Send.{IsSend, sendable, recorded_send, enum_send}
use denote.Builtin.{u8}
use Rattle.std.specs.declared.alloc.Allocator.{Ghosts}
use Rattle.std.specs.contracts.result.Result.{the_row as result_row}
use Rattle.std.specs.contracts.snapshot.Snapshot.{the_row as snapshot_row}
use Rattle.std.specs.contracts.vec.Vec.{the_row as vec_row}
use Rattle.foyer_device_page.specs.contracts.error.Error.{the_row as error_row}
use Rattle.foyer_core_steps.specs.contracts.reply.Reply.{the_row as reply_row}
use Rattle.foyer_core_steps.specs.contracts.state.Core.{the_row as core_row}
use Rattle.foyer_core_steps.specs.contracts.step.Step.{the_row as step_row}
use Rattle.foyer_core_told.specs.contracts.event.Told.{the_row, the_type}

snapshot_sent : (Y : RattleType) → IsSend (snapshot_row Y)
snapshot_sent Y = record { owned = λ d vs. ((λ vss. (tt, ((λ uss. (tt, tt)), tt))), tt); leaving = λ k f vs. tt }

pub told_send : (K V P A D : RattleType) (g : Ghosts A.Denot) → IsSend (the_row K V P A D g)
told_send K V P A D g =
    let core : IsSend (snapshot_row (core_row K V P A g)) = snapshot_sent (core_row K V P A g) in
    let disk : IsSend (snapshot_row D) = snapshot_sent D in
    let outcome : IsSend (snapshot_row (result_row (vec_row u8 A g) error_row)) = snapshot_sent (result_row (vec_row u8 A g) error_row) in
    recorded_send _ _ _ (the_type K V P A D g).to_one (enum_send (shape (the_type K V P A D g)) (
      (core, (disk, tt)),
      (
        (snapshot_sent (step_row K V P A g), (snapshot_sent (reply_row K V P A g), (core, tt))),
        (
          (search sendable, (outcome, tt)),
          (
            (search sendable, (outcome, tt)),
            ((search sendable, (search sendable, (disk, tt))), ((search sendable, (search sendable, (disk, tt))), tt)),
          ),
        ),
      ),
    ))
