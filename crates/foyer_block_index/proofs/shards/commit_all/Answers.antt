use Rattle.std.proofs.Common.{◌≡◌, ◌+◌, ◌<◌, ◌≤◌, List, ◌∷◌, Option, None, length, drop, get_or, if◌then◌else◌, sym, ap, ◌∙◌, arith}
use Rattle.foyer_block_index.specs.declared.indexer.EntryAddress.{EntryAddress}
use Rattle.foyer_block_index.specs.declared.indexer.HashedEntryAddress.{HashedEntryAddress}
use Rattle.foyer_block_index.specs.Committing.{is_put, committed_one, committed_all, put_count}
use Rattle.foyer_block_index.specs.Shards.{map_of, PiecesSeated, AreFilledBut}
use Rattle.std.proofs.lemmas.List.{get_or_default}
use Rattle.foyer_block_index.proofs.Filling.{filled_committed, filled_end}
use Rattle.foyer_block_index.proofs.Commits.{from_here, source_is}
use Rattle.foyer_block_index.proofs.shards.commit_all.Goals.{then-commit_one, else-commit_one}
use Rattle.foyer_block_index.proofs.shards.commit_all.Goals as goal

abbrev no_entry : HashedEntryAddress
no_entry = record { hash = 0; address = record { block = 0; offset = 0; len = 0; sequence = 0; filling = 0 } }

pub commit_one-requires-clause-seated : goal.commit_one-requires-clause-seated
commit_one-requires-clause-seated g c = λ none.
    let i = c.each_record.i in
    let batch = c.args.batch.now in
    let sources : List (Option EntryAddress) = c.args.sources.now in
    let all : length sources ≡ length batch = c.each_record.invariant.all in
    let within : i < length batch = c.each_record-test.true in
    let within_sources : i < length sources = omega arith in
    c.each_record.invariant.seated i no_entry within (source_is sources i within_sources ∙ none)

pub each_record-preserved : goal.each_record-preserved
each_record-preserved g c =
    let old = c.each_record.shards.items in
    let new = c.commit_one.new.shards.items in
    let n = length c.args.shards.now.items in
    let i = c.each_record.i in
    let batch = c.args.batch.now in
    let sources : List (Option EntryAddress) = c.args.sources.now in
    let all : length sources ≡ length batch = c.each_record.invariant.all in
    let within : i < length batch = c.each_record-test.true in
    let within_sources : i < length sources = omega arith in
    let e = get_or batch i no_entry in
    let o : Option EntryAddress = get_or sources i None in
    let rest = drop (i + 1) batch in
    let others = drop (i + 1) sources in
    let eb : drop i batch ≡ e ∷ rest = from_here batch i no_entry within in
    let es : drop i sources ≡ o ∷ others = from_here sources i None within_sources in
    let is : map_of new ≡ committed_one (map_of old) e o = c.commit_one.ensures.committed in
    let seated : PiecesSeated new batch sources = λ k d lt none. c.commit_one.ensures.kept _ (c.each_record.invariant.seated k d lt none) in
    let here : e ≡ get_or batch i e = get_or_default batch i no_entry e within in
    let filled : AreFilledBut new batch sources (i + 1) = filled_committed old new batch sources i e o c.commit_one.ensures.len is c.commit_one.ensures.places within here (source_is sources i within_sources) c.each_record.invariant.filled in
    let committed : committed_all (map_of new) rest others ≡ committed_all (map_of c.args.shards.now.items) batch sources =
    ap (λ m. committed_all m rest others) is ∙ sym (λ j. committed_all (map_of old) (eb j) (es j)) ∙ c.each_record.invariant.committed in
    let len : length new ≡ n = c.commit_one.ensures.len ∙ c.each_record.invariant.len in
    let so_far : c.each_record.puts + put_count (map_of old) (drop i batch) (drop i sources) ≡ put_count (map_of c.args.shards.now.items) batch sources = c.each_record.invariant.puts in
    let few : c.each_record.puts ≤ i = c.each_record.invariant.few in
    let put : c.commit_one.result ≡ is_put _ o = c.commit_one.ensures.put in
    elim c.if-commit_one.branch [
      | then-commit_one w ↦
          let more : c.if-commit_one.puts ≡ c.each_record.puts + 1 = w.puts-is in
          let counted : put_count (map_of old) (drop i batch) (drop i sources) ≡ 1 + put_count (map_of new) rest others =
          (λ j. put_count (map_of old) (eb j) (es j))
          ∙ ap (λ t. (if t then 1 else 0) + put_count (committed_one (map_of old) e o) rest others) (sym put ∙ w.if-commit_one.true)
          ∙ ap (λ m. 1 + put_count m rest others) (sym is) in
          record { few = omega arith; len = len; all = all; seated = seated; filled = filled; committed = committed; puts = omega arith }
      | else-commit_one w ↦
          let same : c.if-commit_one.puts ≡ c.each_record.puts = w.puts-is in
          let counted : put_count (map_of old) (drop i batch) (drop i sources) ≡ 0 + put_count (map_of new) rest others =
          (λ j. put_count (map_of old) (eb j) (es j))
          ∙ ap (λ t. (if t then 1 else 0) + put_count (committed_one (map_of old) e o) rest others) (sym put ∙ w.if-commit_one.false)
          ∙ ap (λ m. 0 + put_count m rest others) (sym is) in
          record { few = omega arith; len = len; all = all; seated = seated; filled = filled; committed = committed; puts = omega arith }
    ]

pub returns-clause-filled : goal.returns-clause-filled
returns-clause-filled g c =
    let end : length c.args.batch.now ≤ c.each_record.i = c.each_record-test.false in
    filled_end c.each_record.shards.items c.args.batch.now c.args.sources.now c.each_record.i end c.each_record.invariant.filled
