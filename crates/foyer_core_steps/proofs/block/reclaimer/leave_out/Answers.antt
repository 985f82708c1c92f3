use Rattle.std.proofs.Common.{◌≡◌, ◌==◌, length, not, true, sym, ◌∙◌, rules, refl, arith}
use Rattle.std.proofs.lemmas.Bool.Decides.{nat_tests}
use Rattle.foyer_block_manager.proofs.WaitingLemmas.{filtered_is}
use Rattle.foyer_core_steps.specs.Reclaiming.{is_entry_among}
use Rattle.foyer_core_steps.proofs.AdmitLemmas.{nothing_out}
use Rattle.foyer_core_steps.proofs.block.reclaimer.leave_out.Goals as goal

pub returns-then-is_empty : goal.returns-then-is_empty
returns-then-is_empty g c =
    let none : (length c.args.requeued.now == 0) ≡ true = sym c.is_empty.ensures ∙ c.if-is_empty.true in
    nothing_out c.args.requeued.now c.args.listed.now.items (grind (arith, nat_tests))

pub returns : goal.returns
returns g c =
    filtered_is _ (λ e. not (is_entry_among c.args.requeued.now e)) (λ p. (p.0).now ≡ c.args.requeued.now)
    (λ p x b q i r. (search rules, search rules)) _ c.args.listed.now.items c.retain.new.self.items refl c.retain.ensures.filtered
