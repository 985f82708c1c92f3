use Rattle.std.proofs.Common.{◌≡◌, ◌≢◌, ◌∙◌, length, refl, ap, arith}
use Rattle.foyer_block_index.specs.Insertion.{inserted_all}
use Rattle.foyer_block_recover.specs.Chained.{hashed_entries}
use Rattle.foyer_block_recover.specs.Kept.{greatest_in}
use Rattle.foyer_block_recover.proofs.BlocksLemmas.{none_kept, some_kept, not_grown, grown_by_some, gathered_none, gathered_some}
use Rattle.foyer_block_recover.proofs.block.blocks.BlocksRead.take_block.Goals as goal

pub returns-then-len-before-clause-taken : goal.returns-then-len-before-clause-taken
returns-then-len-before-clause-taken g c = λ old keeps len is holds.
    let batch = c.args.batch in
    let b = c.args.block in
    let even : c.len.result ≡ c.args.before = c.if-len-before.true in
    let same : length batch.items ≡ length old = omega (arith, batch.ok.0, even, len, c.len.ensures) in
    gathered_none c.args.self.now _ b keeps old batch.items (none_kept b (keeps b) (not_grown old (hashed_entries b (keeps b)) batch.items is same)) is refl refl c.in_ok-push.ensures.items holds

pub returns-then-len-max-clause-taken : goal.returns-then-len-max-clause-taken
returns-then-len-max-clause-taken g c = λ old keeps len is holds.
    let batch = c.args.batch in
    let b = c.args.block in
    let more : c.len.result ≢ c.args.before = c.if-len-before.false in
    gathered_some c.args.self.now c.args.self.now b keeps old batch.items batch.items
    (some_kept b (keeps b) (grown_by_some old (hashed_entries b (keeps b)) batch.items is (λ same. more (omega (arith, batch.ok.0, same, len, c.len.ensures))))) is refl refl refl holds

pub returns-clause-taken : goal.returns-clause-taken
returns-clause-taken g c = λ old keeps len is holds.
    let batch = c.args.batch in
    let b = c.args.block in
    let new = c.take_batch.new.self in
    let more : c.len.result ≢ c.args.before = c.if-len-before.false in
    gathered_some c.args.self.now new b keeps old batch.items c.in_ok-again.again.items
    (some_kept b (keeps b) (grown_by_some old (hashed_entries b (keeps b)) batch.items is (λ same. more (omega (arith, batch.ok.0, same, len, c.len.ensures))))) is
    (ap (inserted_all new.index.slots) c.in_ok-again.ensures.empty ∙ c.in_ok-again.ensures.index)
    (ap (greatest_in new.greatest) c.in_ok-again.ensures.empty ∙ c.in_ok-again.ensures.greatest)
    (ap (λ v. v.items) c.in_ok-again.ensures.clean) holds
