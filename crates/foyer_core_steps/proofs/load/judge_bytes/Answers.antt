use Rattle.std.proofs.Common.{◌≡◌, ◌⊎◌, ℕ, List, length, take, drop, refl, sym, subst, arith}
use Rattle.std.specs.Prelude.{IfErr}
use Rattle.foyer_device_page.specs.declared.error.Error.TheVariants as error
use Rattle.foyer_core_steps.proofs.LoadLemmas.{all_bytes}
use Rattle.foyer_core_steps.proofs.load.judge_bytes.Goals as goal

pub returns-clause-memory : goal.returns-clause-memory
returns-clause-memory g c = λ is.
    let bytes = c.args.bytes.now in
    let len = c.args.ticket.now.address.len in
    let taking : List ℕ → Type 0 = λ bs. (value_len key_len : ℕ)
    × (g.V.Code.takes_memory (take value_len (drop 36 bs))
    ⊎ g.K.Code.takes_memory (take key_len (drop value_len (drop 36 bs)))
    ⊎ (g.A.Clone.is_infallible c.args.alloc.now → ⊥)) in
    let many : length bytes ≡ len = omega (arith, c.if-bytes-read_len.false, c.read_len.ensures) in
    subst taking (sym (all_bytes len bytes many))
    (subst (λ found. IfErr found (λ e. e ≡ error.Memory → taking bytes)) is c.read_record.ensures.memory refl)
