use Rattle.std.proofs.Common.{◌≡◌, ◌≤◌, ◌-◌, Bool, true, false, Some, map, sym, ap, subst, ◌∙◌, refl}
use Rattle.foyer_core_model.specs.Reply as model_reply
use Rattle.foyer_core_model.specs.Step as model_step
use Rattle.foyer_block_index.specs.Committing.{committed_all, put_count}
use Rattle.foyer_core_flusher.specs.FlusherSteps.{FlusherStep, settled}
use Rattle.foyer_core_blocks.specs.Standing.{sets_of}
use Rattle.foyer_core_flusher.specs.Seen.{seen}
use Rattle.foyer_core_flusher.specs.declared.batch.Batch.{Batch}
use Rattle.foyer_core_flusher.specs.declared.batch.Writing.{Writing}
use Rattle.foyer_core_flusher.proofs.WroteLemmas.{wrote_next, wrote_last, wrote_fails}
use Rattle.foyer_core_flusher.proofs.flusher.Flusher.wrote.Goals as goal

pub returns-then-not-is_done-clause-done : goal.returns-then-not-is_done-clause-done
returns-then-not-is_done-clause-done g c = λ m s sound f it stands.
    let self = c.args.self.now in
    let w = c.in-Some-take_writing.writing in
    let writes : (c.in-Some.batch).writing ≡ Some w = sym c.take_writing.ensures.taken ∙ c.in-Some-take_writing.is in
    let few : c.args.is_done ≡ true → w.left ≤ 1 = (λ yes. let clash : true ≡ false = sym yes ∙ c.if-not-is_done.true in absurd cc) in
    wrote_fails m s sound f it (seen self) c.args.index.now.slots c.args.manager.now stands c.in-Some.batch c.in-Some.is w writes
    c.args.is_done (seen c.fail.new.self) c.fail.new.manager c.take_writing.new.self c.fail.result c.args.index.now.slots
    c.take_writing.ensures.rest few (c.fail.ensures.left m s sound)
    c.fail.ensures.same
    (c.fail.ensures.released (sets_of it) f (stands.manager).sets (λ b own. (stands.has).own b ((stands.flusher).own ∙ own))) c.fail.ensures.failed refl

pub returns-then-left-gt1-clause-done : goal.returns-then-left-gt1-clause-done
returns-then-left-gt1-clause-done g c = λ m s sound f it stands.
    let self = c.args.self.now in
    let w = c.in-Some-take_writing.writing in
    let writes : (c.in-Some.batch).writing ≡ Some w = sym c.take_writing.ensures.taken ∙ c.in-Some-take_writing.is in
    let u : Writing g.row.A.Denot = record w { left = w.left - 1; paired = c.put_writing-arg-1.given.0 } in
    let left : c.put_writing.new.self ≡ record c.in-Some.batch { writing = Some u } =
    c.put_writing.ensures.rest ∙ ap (λ (b : Batch g.row.K.Denot g.row.V.Denot g.row.P.Denot g.row.A.Denot). record b { writing = Some u }) c.take_writing.ensures.rest in
    subst (λ (ok : Bool). FlusherStep m s sound (model_step.FlushWrote f ok) f it model_reply.Next (record (seen self) { batch = Some c.put_writing.new.self })
    c.args.index.now.slots c.args.manager.now) (sym c.if-not-is_done.false)
    (subst (λ b. FlusherStep m s sound (model_step.FlushWrote f true) f it model_reply.Next (record (seen self) { batch = Some b })
    c.args.index.now.slots c.args.manager.now) (sym left)
    (wrote_next m s sound f it (seen self) c.args.index.now.slots c.args.manager.now stands c.in-Some.batch c.in-Some.is w writes
    u c.if-left-gt1.true refl refl refl refl))

pub returns-in-Some-commit-clause-done : goal.returns-in-Some-commit-clause-done
returns-in-Some-commit-clause-done g c = λ m s sound f it stands.
    let self = c.args.self.now in
    let w = c.in-Some-take_writing.writing in
    let writes : (c.in-Some.batch).writing ≡ Some w = sym c.take_writing.ensures.taken ∙ c.in-Some-take_writing.is in
    let sources : c.deref.result.now ≡ w.sources.items = c.deref.ensures.value in
    let count = subst (λ os. c.in-Some-commit.count ≡ put_count c.args.index.now.slots (map (settled w.block c.filling_of.result) w.records.items) os) sources c.in-Some-commit.ensures.committed.0 in
    let index = subst (λ os. c.commit.new.index.slots ≡ committed_all c.args.index.now.slots (map (settled w.block c.filling_of.result) w.records.items) os) sources c.in-Some-commit.ensures.committed.1 in
    subst (λ (ok : Bool). FlusherStep m s sound (model_step.FlushWrote f ok) f it (model_reply.Committed c.in-Some-commit.count) (record (seen self) { batch = Some c.take_writing.new.self })
    c.commit.new.index.slots c.args.manager.now) (sym c.if-not-is_done.false)
    (subst (λ b. FlusherStep m s sound (model_step.FlushWrote f true) f it (model_reply.Committed c.in-Some-commit.count) (record (seen self) { batch = Some b })
    c.commit.new.index.slots c.args.manager.now) (sym c.take_writing.ensures.rest)
    (wrote_last m s sound f it (seen self) c.args.index.now.slots c.args.manager.now stands c.in-Some.batch c.in-Some.is w writes
    c.in-Some-commit.count c.filling_of.result c.commit.new.index.slots c.if-left-gt1.false c.filling_of.ensures count index))

pub returns-clause-done : goal.returns-clause-done
returns-clause-done g c = λ m s sound f it stands.
    let self = c.args.self.now in
    let w = c.in-Some-take_writing.writing in
    let writes : (c.in-Some.batch).writing ≡ Some w = sym c.take_writing.ensures.taken ∙ c.in-Some-take_writing.is in
    let few : c.args.is_done ≡ true → w.left ≤ 1 = (λ yes. c.if-left-gt1.false) in
    wrote_fails m s sound f it (seen self) c.args.index.now.slots c.args.manager.now stands c.in-Some.batch c.in-Some.is w writes
    c.args.is_done (seen c.fail-in-None.new.self) c.fail-in-None.new.manager c.take_writing.new.self c.fail-in-None.result c.commit.new.index.slots
    c.take_writing.ensures.rest few (c.fail-in-None.ensures.left m s sound)
    c.fail-in-None.ensures.same
    (c.fail-in-None.ensures.released (sets_of it) f (stands.manager).sets (λ b own. (stands.has).own b ((stands.flusher).own ∙ own))) c.fail-in-None.ensures.failed c.in-None.ensures.committed
