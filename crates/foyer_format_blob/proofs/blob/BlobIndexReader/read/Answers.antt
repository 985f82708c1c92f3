use Rattle.std.proofs.Common.{ℕ, List, refl, arith, rules}
use Rattle.foyer_format_blob.specs.Blob.{entries_in, IsSealed}
use Rattle.foyer_format_blob.proofs.BlobLemmas.{sealed_from, if_err, entry_lemmas}
use Rattle.foyer_format_blob.proofs.blob.BlobIndexReader.read.Goals as goal

pub returns-clause-sealed : goal.returns-clause-sealed
returns-clause-sealed g c = sealed_from c.args.bytes.now c.entries.entries.items c.entries.i (omega arith) (search rules) (omega (arith, c.u32_at-count.ensures)) (omega arith) c.entries.invariant

pub returns-then-count-bytes-clause-none : goal.returns-then-count-bytes-clause-none
returns-then-count-bytes-clause-none g c = search (rules, entry_lemmas) depth 1

pub entries-init : goal.entries-init
entries-init g c = grind (arith, entry_lemmas)

pub entries-preserved : goal.entries-preserved
entries-preserved g c = grind (arith, entry_lemmas)

pub returns-in_err-push-clause-due : goal.returns-in_err-push-clause-due
returns-in_err-push-clause-due g c =
    let b : List ℕ = c.args.bytes.now in
    let n : ℕ = c.u32_at-count.result in
    let due : IsSealed b (entries_in b n) =
    sealed_from b (entries_in b n) n (omega arith) (search rules) (omega (arith, c.u32_at-count.ensures)) (omega arith) refl in
    if_err c.from_residual.result (entries_in b n, due)
