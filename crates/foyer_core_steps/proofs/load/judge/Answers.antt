use Rattle.std.proofs.Common.{ℕ, List, ◌⊎◌, take, drop, sym, subst}
use Rattle.foyer_core_steps.specs.Answered.{MayWantMemory}
use Rattle.foyer_core_steps.proofs.load.judge.Goals as goal

pub returns-in-Ok-clause-memory : goal.returns-in-Ok-clause-memory
returns-in-Ok-clause-memory g c = λ is.
    let taking : List ℕ → Type 0 = λ bytes. (value_len key_len : ℕ)
    × (g.V.Code.takes_memory (take value_len (drop 36 (take c.args.ticket.now.address.len bytes)))
    ⊎ g.K.Code.takes_memory (take key_len (drop value_len (drop 36 (take c.args.ticket.now.address.len bytes))))
    ⊎ (g.A.Clone.is_infallible c.args.alloc.now → ⊥)) in
    subst (λ o. MayWantMemory g.K.Code.takes_memory g.V.Code.takes_memory (g.A.Clone.is_infallible c.args.alloc.now) c.args.ticket.now o) (sym c.in-Ok.is)
    (subst taking c.as_slice.ensures.value (c.judge_bytes.ensures.memory is))
