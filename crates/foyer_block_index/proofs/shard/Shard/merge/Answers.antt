use Rattle.std.specs.List.{Contains}
use Rattle.std.proofs.Common.{◌≡◌, ◌⊎◌, List, length, take, get_or, sym, ap, subst, ◌∙◌}
use Rattle.foyer_block_index.specs.declared.shard.Entry.{Entry}
use Rattle.foyer_block_index.specs.Entries.{ShardState, hashes}
use Rattle.foyer_block_index.specs.Probe.{HasPlace}
use Rattle.foyer_block_index.proofs.Rooms.{written_back}
use Rattle.foyer_block_index.proofs.shard.Shard.merge.Goals as goal

pub returns-clause-kept : goal.returns-clause-kept
returns-clause-kept g c = λ hash has.
    let len : length c.merge_places.new.entries ≡ c.lengthen.new.entries.len =
    c.merge_places.auto.entries ∙ ap (λ (l : List Entry). length l) c.deref_mut.ensures.value ∙ sym c.lengthen.new.entries.ok.0 in
    let new = written_back c.lengthen.new.entries.len c.merge_places.new.entries c.lengthen.new.entries.items len in
    let front : take c.len-len.result c.deref_mut.result.now ≡ c.self.inside.entries.items =
    (λ i. take (c.len-len.ensures i) (c.deref_mut.ensures.value i)) ∙ c.lengthen.ensures.front in
    let before : HasPlace (hashes c.self.inside.entries.items) hash = subst (λ (s : ShardState). HasPlace (hashes s.entries) hash) (sym c.self.view_is) has in
    subst (λ (l : List Entry). HasPlace (hashes l) hash) (sym new) (c.merge_places.ensures.kept hash (subst (λ (l : List Entry). HasPlace (hashes l) hash) (sym front) before))

pub returns-clause-made : goal.returns-clause-made
returns-clause-made g c = λ k d lt.
    let len : length c.merge_places.new.entries ≡ c.lengthen.new.entries.len =
    c.merge_places.auto.entries ∙ ap (λ (l : List Entry). length l) c.deref_mut.ensures.value ∙ sym c.lengthen.new.entries.ok.0 in
    let new = written_back c.lengthen.new.entries.len c.merge_places.new.entries c.lengthen.new.entries.items len in
    subst (λ (l : List Entry). HasPlace (hashes l) (get_or c.args.news.now k d)) (sym new) (c.merge_places.ensures.made k d lt)

pub returns-clause-only : goal.returns-clause-only
returns-clause-only g c = λ hash has.
    let len : length c.merge_places.new.entries ≡ c.lengthen.new.entries.len =
    c.merge_places.auto.entries ∙ ap (λ (l : List Entry). length l) c.deref_mut.ensures.value ∙ sym c.lengthen.new.entries.ok.0 in
    let new = written_back c.lengthen.new.entries.len c.merge_places.new.entries c.lengthen.new.entries.items len in
    let front : take c.len-len.result c.deref_mut.result.now ≡ c.self.inside.entries.items =
    (λ i. take (c.len-len.ensures i) (c.deref_mut.ensures.value i)) ∙ c.lengthen.ensures.front in
    let before : take c.len-len.result c.deref_mut.result.now ≡ c.self.inside.entries.items = front in
    let found : HasPlace (hashes (take c.len-len.result c.deref_mut.result.now)) hash ⊎ Contains c.args.news.now hash =
    c.merge_places.ensures.only hash (subst (λ (l : List Entry). HasPlace (hashes l) hash) new has) in
    subst (λ (s : ShardState). HasPlace (hashes s.entries) hash ⊎ Contains c.args.news.now hash) c.self.view_is
    (subst (λ (l : List Entry). HasPlace (hashes l) hash ⊎ Contains c.args.news.now hash) front found)
