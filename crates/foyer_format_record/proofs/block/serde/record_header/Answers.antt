use Rattle.std.proofs.Common.{arith, sym, rules}
use Rattle.foyer_format_record.proofs.RecordLemmas.{no_header_none, other_hash, other_sequence, other_length, outcomes}
use Rattle.foyer_format_record.proofs.block.serde.record_header.Goals.{else-header-hash-via-then-header-hash+then-header-sequence+else-bytes-body_len, else-header-hash-via-then-header-hash+else-header-sequence, else-header-hash-via-else-header-hash}
use Rattle.foyer_format_record.proofs.block.serde.record_header.Goals as goal

pub returns-in-Err-clause-none : goal.returns-in-Err-clause-none
returns-in-Err-clause-none c = λ is_key is_value.
    no_header_none is_key is_value c.args.bytes.now c.args.hash c.args.sequence _ (sym c.in-Err.ensures.exact)

pub returns-else-header-hash-clause-none : goal.returns-else-header-hash-clause-none
returns-else-header-hash-clause-none c = λ is_key is_value.
    let is = sym c.in-Ok.ensures.exact in
    elim c.else-header-hash.branch [
      | else-header-hash-via-then-header-hash+then-header-sequence+else-bytes-body_len w ↦
          other_length is_key is_value c.args.bytes.now c.args.hash c.args.sequence _ is (λ e. omega arith)
      | else-header-hash-via-then-header-hash+else-header-sequence w ↦
          other_sequence is_key is_value c.args.bytes.now c.args.hash c.args.sequence _ is (λ e. search rules)
      | else-header-hash-via-else-header-hash w ↦
          other_hash is_key is_value c.args.bytes.now c.args.hash c.args.sequence _ is (λ e. search rules)
    ]

pub slice_bounds-read-end : goal.slice_bounds-read-end
slice_bounds-read-end c = search (rules, outcomes) depth 1

pub read-requires : goal.read-requires
read-requires c = search (rules, outcomes) depth 1

pub returns-then-bytes-body_len-clause-hash : goal.returns-then-bytes-body_len-clause-hash
returns-then-bytes-body_len-clause-hash c = search (rules, outcomes) depth 1

pub returns-then-bytes-body_len-clause-len : goal.returns-then-bytes-body_len-clause-len
returns-then-bytes-body_len-clause-len c = search (rules, outcomes) depth 1

pub returns-then-bytes-body_len-clause-sequence : goal.returns-then-bytes-body_len-clause-sequence
returns-then-bytes-body_len-clause-sequence c = search (rules, outcomes) depth 1
