use Rattle.std.proofs.Common.{◌≡◌, ◌<◌, [], length, refl, ap, ◌∙◌, arith}
use Rattle.std.proofs.lemmas.Grind.{common_steps}
use Rattle.foyer_format_buffer.proofs.SplitLemmas.{closes_none, closes_part}
use Rattle.foyer_format_buffer.proofs.split_progress.SplitProgress.close.Goals as goal

pub returns-then-is_empty-clause-closed : goal.returns-then-is_empty-clause-closed
returns-then-is_empty-clause-closed g c = λ f all rest o.
    let empty : c.args.self.now.indices.items ≡ [] = grind (arith, common_steps) in
    closes_none c.args.bytes.now f all rest c.args.self.now empty o

pub returns-clause-closed : goal.returns-clause-closed
returns-clause-closed g c = λ f all rest o.
    let some : 0 < length c.args.self.now.indices.items = grind (arith, common_steps) in
    let indices = c.replace-indices.ensures.value in
    let emptied = ap (λ v. v.items) c.replace-indices.ensures.after ∙ c.new.ensures.items in
    closes_part c.args.bytes.now f all rest c.args.self.now _ _ some refl refl c.in_ok-part_data.ensures.part (ap (λ v. v.items) indices) c.in_ok-index.ensures.sealed
    (c.in_ok-index.ensures.size ∙ c.args.self.now.index_len) c.in_ok-push.ensures.items refl refl refl refl refl refl refl refl emptied o
