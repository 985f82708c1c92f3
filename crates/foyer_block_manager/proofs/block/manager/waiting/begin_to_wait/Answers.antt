use Rattle.std.proofs.Common.{◌≡◌, true, false, if◌then◌else◌, ◌++◌, ◌∷◌, [], List, ℕ, sym, ap, ◌∙◌, ◌==◌}
use Rattle.std.specs.List.{list_any}
use Rattle.foyer_core_model.specs.Ids.{is_id_in}
use Rattle.foyer_block_manager.proofs.WaitingLemmas.{is_id_in_any}
use Rattle.foyer_block_manager.proofs.block.manager.waiting.begin_to_wait.Goals as goal

pub returns-then-not-contains-clause-waits : goal.returns-then-not-contains-clause-waits
returns-then-not-contains-clause-waits g c =
    let xs : List ℕ = c.args.waiting.now.items in
    let at : is_id_in c.args.flusher xs ≡ false =
    is_id_in_any c.args.flusher xs ∙ ap (list_any (λ y. y == c.args.flusher)) (sym c.deref.ensures.value) ∙ sym c.contains.ensures.value ∙ c.if-not-contains.true in
    c.push_reserved.ensures.items ∙ ap (λ t. if t then xs else xs ++ c.args.flusher ∷ []) (sym at)

pub returns-else-not-contains-clause-waits : goal.returns-else-not-contains-clause-waits
returns-else-not-contains-clause-waits g c =
    let xs : List ℕ = c.args.waiting.now.items in
    let at : is_id_in c.args.flusher xs ≡ true =
    is_id_in_any c.args.flusher xs ∙ ap (list_any (λ y. y == c.args.flusher)) (sym c.deref.ensures.value) ∙ sym c.contains.ensures.value ∙ c.if-not-contains.false in
    ap (λ t. if t then xs else xs ++ c.args.flusher ∷ []) (sym at)

pub push_reserved-requires : goal.push_reserved-requires
push_reserved-requires g c =
    let xs : List ℕ = c.args.waiting.now.items in
    let at : is_id_in c.args.flusher xs ≡ false =
    is_id_in_any c.args.flusher xs ∙ ap (list_any (λ y. y == c.args.flusher)) (sym c.deref.ensures.value) ∙ sym c.contains.ensures.value ∙ c.if-not-contains.true in
    c.requires at
