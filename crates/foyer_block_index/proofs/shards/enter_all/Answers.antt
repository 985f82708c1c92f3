use Rattle.std.proofs.Common.{◌≡◌, ◌≢◌, ℕ, ◌<◌, ◌≤◌, OnOk, None, List, [], length, get_or, slice_set, refl, ap, subst, sym, ◌∙◌, arith}
use Rattle.std.proofs.lemmas.Grind.{common_steps}
use Rattle.std.proofs.lemmas.List.{get_or-set_other, get_or_default}
use Rattle.foyer_block_index.specs.declared.indexer.HashedEntryAddress.{HashedEntryAddress}
use Rattle.foyer_block_index.specs.declared.indexer.Index.TheVariants.{Address}
use Rattle.foyer_block_index.specs.Committing.{committed_one}
use Rattle.foyer_block_index.specs.Insertion.{inserted}
use Rattle.foyer_block_index.specs.Shards.{map_of, Seated}
use Rattle.foyer_block_index.proofs.Filling.{filled_committed, filled_end, adds_weaker}
use Rattle.foyer_block_index.proofs.shards.enter_all.Goals.{in-Some, in_default}
use Rattle.foyer_block_index.proofs.shards.enter_all.Goals as goal

abbrev no_entry : HashedEntryAddress
no_entry = record { hash = 0; address = record { block = 0; offset = 0; len = 0; sequence = 0; filling = 0 } }

-- what stands behind a write
read_on : (xs ys : List HashedEntryAddress) (p : ℕ) (x : HashedEntryAddress) (k : ℕ) (d : HashedEntryAddress) → ys ≡ slice_set xs p x → p < k → get_or ys k d ≡ get_or xs k d
read_on xs ys p x k d is lt =
    let ne : k ≢ p = omega arith in
    ap (λ l. get_or l k d) is ∙ get_or-set_other xs p k x d ne

pub loop-i-preserved : goal.loop-i-preserved
loop-i-preserved g c =
    let batch = c.args.batch.now in
    let i = c.loop-i.i in
    let old = c.loop-i.shards.items in
    let new = c.enter-entered.new.shards.items in
    let e : HashedEntryAddress = get_or c.loop-i.batch i no_entry in
    let within : i < length batch = c.loop-i-test.true in
    let here : e ≡ get_or batch i e = c.loop-i.invariant.rest i no_entry (omega arith) ∙ get_or_default batch i no_entry e within in
    let is : map_of new ≡ committed_one (map_of old) e None = subst (λ r. OnOk r (map_of new ≡ inserted (map_of old) e.hash (Address e.address))) c.unwrap.ensures c.enter-entered.ensures.inserted in
    record {
      len = omega (arith, c.enter-entered.ensures.len, c.loop-i.invariant.len);
      seated = λ k d more lt.
          let behind : c.loop-i.answers ≤ c.loop-i.i = c.loop-i.invariant.midway.behind in
          let within : k < length c.loop-i.batch = omega (arith, c.match-unwrap.auto.batch) in
          let still : Seated c.enter-entered.new.shards.items (get_or c.loop-i.batch k d).hash = c.enter-entered.ensures.kept _ (c.loop-i.invariant.seated k d (omega arith) within) in
          elim c.match-unwrap.branch [
            | in-Some w ↦ subst (λ e. Seated c.enter-entered.new.shards.items e.hash) (sym (read_on c.loop-i.batch c.match-unwrap.batch _ _ k d w.batch-is (omega arith))) still
            | in_default w ↦ subst (λ l. Seated c.enter-entered.new.shards.items (get_or l k d).hash) (sym w.batch-is) still
          ];
      rest = λ k d more.
          let behind : c.loop-i.answers ≤ c.loop-i.i = c.loop-i.invariant.midway.behind in
          elim c.match-unwrap.branch [
            | in-Some w ↦ read_on c.loop-i.batch c.match-unwrap.batch _ _ k d w.batch-is (omega arith) ∙ c.loop-i.invariant.rest k d (omega arith)
            | in_default w ↦ ap (λ l. get_or l k d) w.batch-is ∙ c.loop-i.invariant.rest k d (omega arith)
          ];
      filled = filled_committed old new batch [] i e None c.enter-entered.ensures.len is (adds_weaker old new e.hash _ _ (λ ok. refl) c.enter-entered.ensures.places) within here refl c.loop-i.invariant.filled;
      midway = grind (arith, common_steps);
    }

pub unwrap-requires : goal.unwrap-requires
unwrap-requires g c =
    let within : c.loop-i.i < length c.loop-i.batch = omega (arith, c.loop-i.auto.batch, c.loop-i-test.true) in
    c.enter-entered.ensures.seated (c.loop-i.invariant.seated c.loop-i.i no_entry (omega arith) within)

pub returns-clause-inserted : goal.returns-clause-inserted
returns-clause-inserted g c = grind (arith, common_steps)

pub returns-clause-answers : goal.returns-clause-answers
returns-clause-answers g c = grind (arith, common_steps)

pub returns-clause-filled : goal.returns-clause-filled
returns-clause-filled g c =
    let end : length c.args.batch.now ≤ c.loop-i.i = c.loop-i-test.false in
    filled_end c.loop-i.shards.items c.args.batch.now [] c.loop-i.i end c.loop-i.invariant.filled
