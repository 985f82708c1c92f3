use Rattle.std.proofs.Common.{ℕ, rules}
use Rattle.foyer_cli.specs.Lines.{IsNumber}
use Rattle.foyer_pipe.proofs.WordLemmas.{no_setting}
use Rattle.foyer_pipe.proofs.options.PipeOptions.with.Goals as goal

pub returns-in_err-number : goal.returns-in_err-number
returns-in_err-number c =
    let none : (n : ℕ) → IsNumber c.as_bytes.result.now n → ⊥ = c.in_err-number.ensures in
    rw c.from_residual-in_err-number.ensures (no_setting c.args.name.now c.args.text.now c.args.self (search rules) (λ n is. none n (rw c.as_bytes.ensures.value is)))
