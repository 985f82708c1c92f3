use Rattle.std.proofs.Common.{◌≡◌, ◌+◌, ◌<◌, ◌≤◌, [], ◌∷◌, None, length, drop, get_or, refl, sym, ap, ◌∙◌}
use Rattle.std.proofs.lemmas.List.{get_or_default}
use Rattle.foyer_block_index.specs.declared.indexer.HashedEntryAddress.{HashedEntryAddress}
use Rattle.foyer_block_index.specs.Committing.{committed_one}
use Rattle.foyer_block_index.specs.Insertion.{inserted_all}
use Rattle.foyer_block_index.specs.Shards.{map_of}
use Rattle.foyer_block_index.proofs.Commits.{from_here, none_from}
use Rattle.foyer_block_index.proofs.Filling.{filled_committed, filled_end}
use Rattle.foyer_block_index.proofs.shards.insert_all.Goals as goal

abbrev no_entry : HashedEntryAddress
no_entry = record { hash = 0; address = record { block = 0; offset = 0; len = 0; sequence = 0; filling = 0 } }

pub commit_one-requires-clause-seated : goal.commit_one-requires-clause-seated
commit_one-requires-clause-seated g c = λ none. c.each_entry.invariant.seated c.each_entry.i no_entry c.each_entry-test.true refl

pub each_entry-preserved : goal.each_entry-preserved
each_entry-preserved g c =
    let old = c.each_entry.shards.items in
    let new = c.commit_one.new.shards.items in
    let i = c.each_entry.i in
    let batch = c.args.batch.now in
    let within : i < length batch = c.each_entry-test.true in
    let e = get_or batch i no_entry in
    let rest = drop (i + 1) batch in
    let from : drop i batch ≡ e ∷ rest = from_here batch i no_entry within in
    let is : map_of new ≡ committed_one (map_of old) e None = c.commit_one.ensures.committed in
    let here : e ≡ get_or batch i e = get_or_default batch i no_entry e within in
    record {
      len = c.commit_one.ensures.len ∙ c.each_entry.invariant.len;
      seated = λ k d lt none. c.commit_one.ensures.kept _ (c.each_entry.invariant.seated k d lt none);
      filled = filled_committed old new batch [] i e None c.commit_one.ensures.len is c.commit_one.ensures.places within here refl c.each_entry.invariant.filled;
      inserted = ap (λ m. inserted_all m rest) is ∙ sym (ap (inserted_all (map_of old)) from) ∙ c.each_entry.invariant.inserted;
    }

pub returns-clause-inserted : goal.returns-clause-inserted
returns-clause-inserted g c =
    let end : length c.args.batch.now ≤ c.each_entry.i = c.each_entry-test.false in
    sym (ap (inserted_all (map_of c.each_entry.shards.items)) (none_from c.args.batch.now c.each_entry.i end)) ∙ c.each_entry.invariant.inserted

pub returns-clause-filled : goal.returns-clause-filled
returns-clause-filled g c =
    let end : length c.args.batch.now ≤ c.each_entry.i = c.each_entry-test.false in
    filled_end c.each_entry.shards.items c.args.batch.now [] c.each_entry.i end c.each_entry.invariant.filled
