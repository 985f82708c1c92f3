use Rattle.std.proofs.Common.{◌≡◌, ◌+◌, ◌<◌, true, false, List, ◌∷◌, Option, None, length, drop, get_or, sym, subst, arith}
use Rattle.foyer_block_index.specs.declared.indexer.EntryAddress.{EntryAddress}
use Rattle.foyer_block_index.specs.declared.indexer.HashedEntryAddress.{HashedEntryAddress}
use Rattle.foyer_block_index.specs.Committing.{PiecesHeld}
use Rattle.foyer_block_index.specs.Shards.{map_of}
use Rattle.foyer_block_index.proofs.Commits.{from_here, piece_goes_on, piece_stops}
use Rattle.foyer_block_index.proofs.shards.holds_pieces.Goals as goal

abbrev no_entry : HashedEntryAddress
no_entry = record { hash = 0; address = record { block = 0; offset = 0; len = 0; sequence = 0; filling = 0 } }

pub returns-then-not-holds_piece : goal.returns-then-not-holds_piece
returns-then-not-holds_piece g c =
    let m = map_of c.args.shards.now in
    let i = c.each_record.i in
    let batch = c.args.batch.now in
    let sources : List (Option EntryAddress) = c.args.sources.now in
    let all : length sources ≡ length batch = c.each_record.invariant.all in
    let within : i < length batch = c.each_record-test.true in
    let within_sources : i < length sources = omega arith in (
      (λ t. absurd (let clash : false ≡ true = t in cc)),
      λ held. absurd (piece_stops m (get_or batch i no_entry) (get_or sources i None) (drop (i + 1) batch) (drop (i + 1) sources) c.holds_piece.result c.holds_piece.ensures c.if-not-holds_piece.true
          (subst (λ l. PiecesHeld m (get_or batch i no_entry ∷ drop (i + 1) batch) l) (from_here sources i None within_sources)
          (subst (λ l. PiecesHeld m l (drop i sources)) (from_here batch i no_entry within) (c.each_record.invariant.back held)))),
    )

pub each_record-preserved : goal.each_record-preserved
each_record-preserved g c =
    let m = map_of c.args.shards.now in
    let i = c.each_record.i in
    let batch = c.args.batch.now in
    let sources : List (Option EntryAddress) = c.args.sources.now in
    let all : length sources ≡ length batch = c.each_record.invariant.all in
    let within : i < length batch = c.each_record-test.true in
    let within_sources : i < length sources = omega arith in
    let eb = from_here batch i no_entry within in
    let es = from_here sources i None within_sources in
    let goes = piece_goes_on m (get_or batch i no_entry) (get_or sources i None) (drop (i + 1) batch) (drop (i + 1) sources) c.holds_piece.result c.holds_piece.ensures c.if-not-holds_piece.false in
    record {
      all = all;
      so_far = λ rest. c.each_record.invariant.so_far
          (subst (λ l. PiecesHeld m l (drop i sources)) (sym eb) (subst (λ l. PiecesHeld m (get_or batch i no_entry ∷ drop (i + 1) batch) l) (sym es) (goes.0 rest)));
      back = λ held. goes.1
          (subst (λ l. PiecesHeld m (get_or batch i no_entry ∷ drop (i + 1) batch) l) es (subst (λ l. PiecesHeld m l (drop i sources)) eb (c.each_record.invariant.back held)));
    }
