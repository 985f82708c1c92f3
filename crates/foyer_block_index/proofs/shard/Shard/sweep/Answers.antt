use Rattle.std.proofs.Common.{◌≡◌, not, IsSome, List, filter, nat_eq, sym, ap, subst, ◌∙◌, rules}
use Rattle.std.specs.List.Sorted.{IsStrictlyIncreasing}
use Rattle.std.specs.Map.{lookup}
use Rattle.std.proofs.lemmas.List.Elements.{filter_from_retain}
use Rattle.foyer_block_index.specs.declared.shard.Entry.{Entry}
use Rattle.foyer_block_index.specs.Entries.{ShardState, is_vacant, hashes, pairs, held_in}
use Rattle.foyer_block_index.specs.Probe.{HasPlace}
use Rattle.foyer_block_index.specs.Shards.{held_at}
use Rattle.foyer_block_index.proofs.Entries.{ascends-from, ascends-to, ascends-filter, pairs-swept, place_swept, swept-filled}
use Rattle.foyer_block_index.proofs.shard.Shard.sweep.Goals as goal

pub invariant_of-self : goal.invariant_of-self
invariant_of-self g c =
    let es = c.self.inside.entries.items in
    let swept : c.retain.new.self.items ≡ filter (λ (e : Entry). not (is_vacant e.slot)) es = filter_from_retain _ (λ (e : Entry). not (is_vacant e.slot)) (λ p x b q k. search rules) _ es c.retain.new.self.items c.retain.ensures.filtered in
    subst (λ l. IsStrictlyIncreasing (hashes l)) (sym swept) (ascends-to _ (ascends-filter (λ (e : Entry). not (is_vacant e.slot)) es (ascends-from es c.self.invariant)))

pub returns-clause-same : goal.returns-clause-same
returns-clause-same g c = λ q.
    let es = c.self.inside.entries.items in
    let swept : c.retain.new.self.items ≡ filter (λ (e : Entry). not (is_vacant e.slot)) es = filter_from_retain _ (λ (e : Entry). not (is_vacant e.slot)) (λ p x b q k. search rules) _ es c.retain.new.self.items c.retain.ensures.filtered in
    ap (λ l. lookup (nat_eq q) l) (ap pairs swept ∙ pairs-swept es) ∙ ap (λ (s : ShardState). held_at s q) c.self.view_is

pub returns-clause-only : goal.returns-clause-only
returns-clause-only g c = λ q has.
    let es = c.self.inside.entries.items in
    let swept : c.retain.new.self.items ≡ filter (λ (e : Entry). not (is_vacant e.slot)) es = filter_from_retain _ (λ (e : Entry). not (is_vacant e.slot)) (λ p x b q k. search rules) _ es c.retain.new.self.items c.retain.ensures.filtered in
    subst (λ (s : ShardState). HasPlace (hashes s.entries) q) c.self.view_is (place_swept es q (subst (λ (l : List Entry). HasPlace (hashes l) q) swept has))

pub returns-clause-filled : goal.returns-clause-filled
returns-clause-filled g c = λ q has.
    let es = c.self.inside.entries.items in
    let swept : c.retain.new.self.items ≡ filter (λ (e : Entry). not (is_vacant e.slot)) es = filter_from_retain _ (λ (e : Entry). not (is_vacant e.slot)) (λ p x b q k. search rules) _ es c.retain.new.self.items c.retain.ensures.filtered in
    subst (λ (l : List Entry). IsSome (held_in l q)) (sym swept) (swept-filled es q (ascends-from es c.self.invariant) (subst (λ (l : List Entry). HasPlace (hashes l) q) swept has))
