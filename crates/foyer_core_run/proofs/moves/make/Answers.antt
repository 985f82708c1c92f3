use Rattle.std.proofs.Common.{◌≡◌, rules}
use Rattle.foyer_core_laws.specs.Content.{meaning}
use Rattle.foyer_core_run.specs.Causes.{HasCome}
use Rattle.foyer_core_run.specs.Moves.{asked}
use Rattle.foyer_core_run.specs.declared.moves.Asked.TheVariants as asks
use Rattle.foyer_core_run.proofs.MakeLemmas.{moves_alone, moves_from, on_ok}
use Rattle.foyer_core_run.proofs.moves.make.Goals as goal

pub returns-in-Step-clause-moved : goal.returns-in-Step-clause-moved
returns-in-Step-clause-moved g c = λ known.
    let m = meaning g.K.Code.encoding g.V.Code.encoding g.K.Code.is_encodable g.V.Code.is_encodable g.K.Code.is_decodable g.V.Code.is_decodable g.P.Properties.age in
    let bytes = g.D.Disk.byte_at c.args.disk.now in
    let is : asks.Step c.in-Step.step ≡ asked c.args.x = search rules in
    let ts : c.reserve.new.self.items ≡ c.args.kept.now.tickets.items = search rules in
    let rs : c.reserve-2.new.self.items ≡ c.args.kept.now.replies.items = search rules in
    moves_alone m (HasCome g.D.Disk.surely_lies g.D.Disk.faults c.args.disk.now c.args.disk.now) (asks.Step c.in-Step.step) (asked c.args.x) c.args.kept.now c.apply_step.new.kept c.reserve.new.self c.reserve-2.new.self c.args.core.now c.apply_step.new.core
    bytes (g.D.Disk.byte_at c.args.disk.now) is ts rs (c.apply_step.ensures.moved bytes)

pub returns-in-FlushBlock-clause-moved : goal.returns-in-FlushBlock-clause-moved
returns-in-FlushBlock-clause-moved g c = λ known.
    let m = meaning g.K.Code.encoding g.V.Code.encoding g.K.Code.is_encodable g.V.Code.is_encodable g.K.Code.is_decodable g.V.Code.is_decodable g.P.Properties.age in
    let bytes = g.D.Disk.byte_at c.args.disk.now in
    let is : asks.FlushBlock c.in-FlushBlock.flusher ≡ asked c.args.x = search rules in
    let ts : c.reserve.new.self.items ≡ c.args.kept.now.tickets.items = search rules in
    let rs : c.reserve-2.new.self.items ≡ c.args.kept.now.replies.items = search rules in
    moves_alone m (HasCome g.D.Disk.surely_lies g.D.Disk.faults c.args.disk.now c.args.disk.now) (asks.FlushBlock c.in-FlushBlock.flusher) (asked c.args.x) c.args.kept.now c.flush_block.new.kept c.reserve.new.self c.reserve-2.new.self c.args.core.now c.flush_block.new.core
    bytes (g.D.Disk.byte_at c.args.disk.now) is ts rs (c.flush_block.ensures.moved bytes)

pub returns-in-FlushWrote-clause-moved : goal.returns-in-FlushWrote-clause-moved
returns-in-FlushWrote-clause-moved g c = λ known.
    let m = meaning g.K.Code.encoding g.V.Code.encoding g.K.Code.is_encodable g.V.Code.is_encodable g.K.Code.is_decodable g.V.Code.is_decodable g.P.Properties.age in
    let bytes = g.D.Disk.byte_at c.args.disk.now in
    let is : asks.FlushWrote c.in-FlushWrote.flusher ≡ asked c.args.x = search rules in
    let ts : c.reserve.new.self.items ≡ c.args.kept.now.tickets.items = search rules in
    let rs : c.reserve-2.new.self.items ≡ c.args.kept.now.replies.items = search rules in
    moves_from m (HasCome g.D.Disk.surely_lies g.D.Disk.faults c.args.disk.now c.flush_wrote.new.disk) (asks.FlushWrote c.in-FlushWrote.flusher) (asked c.args.x) c.args.kept.now c.flush_wrote.new.kept c.reserve.new.self c.reserve-2.new.self c.args.core.now c.flush_wrote.new.core
    bytes (g.D.Disk.byte_at c.flush_wrote.new.disk) is ts rs (c.flush_wrote.ensures.moved known)

pub returns-in-ReclaimRead-clause-moved : goal.returns-in-ReclaimRead-clause-moved
returns-in-ReclaimRead-clause-moved g c = λ known.
    let m = meaning g.K.Code.encoding g.V.Code.encoding g.K.Code.is_encodable g.V.Code.is_encodable g.K.Code.is_decodable g.V.Code.is_decodable g.P.Properties.age in
    let bytes = g.D.Disk.byte_at c.args.disk.now in
    let is : asks.ReclaimRead c.in-ReclaimRead.block ≡ asked c.args.x = search rules in
    let ts : c.reserve.new.self.items ≡ c.args.kept.now.tickets.items = search rules in
    let rs : c.reserve-2.new.self.items ≡ c.args.kept.now.replies.items = search rules in
    moves_from m (HasCome g.D.Disk.surely_lies g.D.Disk.faults c.args.disk.now c.reclaim_read.new.disk) (asks.ReclaimRead c.in-ReclaimRead.block) (asked c.args.x) c.args.kept.now c.reclaim_read.new.kept c.reserve.new.self c.reserve-2.new.self c.args.core.now c.reclaim_read.new.core
    bytes (g.D.Disk.byte_at c.reclaim_read.new.disk) is ts rs (c.reclaim_read.ensures.moved known)

pub returns-in-ReclaimCleaned-clause-moved : goal.returns-in-ReclaimCleaned-clause-moved
returns-in-ReclaimCleaned-clause-moved g c = λ known.
    let m = meaning g.K.Code.encoding g.V.Code.encoding g.K.Code.is_encodable g.V.Code.is_encodable g.K.Code.is_decodable g.V.Code.is_decodable g.P.Properties.age in
    let bytes = g.D.Disk.byte_at c.args.disk.now in
    let is : asks.ReclaimCleaned c.in-ReclaimCleaned.block ≡ asked c.args.x = search rules in
    let ts : c.reserve.new.self.items ≡ c.args.kept.now.tickets.items = search rules in
    let rs : c.reserve-2.new.self.items ≡ c.args.kept.now.replies.items = search rules in
    moves_from m (HasCome g.D.Disk.surely_lies g.D.Disk.faults c.args.disk.now c.reclaim_cleaned.new.disk) (asks.ReclaimCleaned c.in-ReclaimCleaned.block) (asked c.args.x) c.args.kept.now c.reclaim_cleaned.new.kept c.reserve.new.self c.reserve-2.new.self c.args.core.now c.reclaim_cleaned.new.core
    bytes (g.D.Disk.byte_at c.reclaim_cleaned.new.disk) is ts rs (c.reclaim_cleaned.ensures.moved known)

pub returns-in-DestroyCleaned-clause-moved : goal.returns-in-DestroyCleaned-clause-moved
returns-in-DestroyCleaned-clause-moved g c = λ known.
    let m = meaning g.K.Code.encoding g.V.Code.encoding g.K.Code.is_encodable g.V.Code.is_encodable g.K.Code.is_decodable g.V.Code.is_decodable g.P.Properties.age in
    let bytes = g.D.Disk.byte_at c.args.disk.now in
    let is : asks.DestroyCleaned c.in-DestroyCleaned.block ≡ asked c.args.x = search rules in
    let ts : c.reserve.new.self.items ≡ c.args.kept.now.tickets.items = search rules in
    let rs : c.reserve-2.new.self.items ≡ c.args.kept.now.replies.items = search rules in
    moves_from m (HasCome g.D.Disk.surely_lies g.D.Disk.faults c.args.disk.now c.destroy_cleaned.new.disk) (asks.DestroyCleaned c.in-DestroyCleaned.block) (asked c.args.x) c.args.kept.now c.destroy_cleaned.new.kept c.reserve.new.self c.reserve-2.new.self c.args.core.now c.destroy_cleaned.new.core
    bytes (g.D.Disk.byte_at c.destroy_cleaned.new.disk) is ts rs (c.destroy_cleaned.ensures.moved known)

pub returns-in-LoadEnd-clause-moved : goal.returns-in-LoadEnd-clause-moved
returns-in-LoadEnd-clause-moved g c = λ known.
    let m = meaning g.K.Code.encoding g.V.Code.encoding g.K.Code.is_encodable g.V.Code.is_encodable g.K.Code.is_decodable g.V.Code.is_decodable g.P.Properties.age in
    let bytes = g.D.Disk.byte_at c.args.disk.now in
    let is : asks.LoadEnd c.in-LoadEnd.n ≡ asked c.args.x = search rules in
    let ts : c.reserve.new.self.items ≡ c.args.kept.now.tickets.items = search rules in
    let rs : c.reserve-2.new.self.items ≡ c.args.kept.now.replies.items = search rules in
    on_ok c.load_end.result (λ moves. moves_from m (HasCome g.D.Disk.surely_lies g.D.Disk.faults c.args.disk.now c.load_end.new.disk) (asks.LoadEnd c.in-LoadEnd.n) (asked c.args.x) c.args.kept.now c.load_end.new.kept c.reserve.new.self c.reserve-2.new.self c.args.core.now c.load_end.new.core
    bytes (g.D.Disk.byte_at c.load_end.new.disk) is ts rs moves) (c.load_end.ensures.moved known)
