use Rattle.std.proofs.Common.{◌≡◌, ℕ, List, ◌++◌, drop, take, length, arith, ap, ◌∙◌}
use Rattle.std.proofs.lemmas.List.{drop_at, drop-drop, length-take-le}
use Rattle.foyer_format_record.specs.Xxh64.{xxh64}
use borrow.Rule.Slice.PartMut.{put_mid}
use Rattle.foyer_format_blob.proofs.BlobLemmas.{sealed_by}
use Rattle.foyer_format_blob.proofs.blob.seal_bytes.Goals as goal

pub returns : goal.returns
returns c =
    let old = c.args.bytes.now in
    let word = c.copy_from_slice.new.self in
    let middle : List ℕ = put_mid 8 4 old word in
    let len : length (take 8 old) ≡ 8 = length-take-le 8 old (omega arith) in
    let rest : drop 4 (drop 8 old) ≡ drop 12 old = drop-drop 4 8 old in
    let behind : drop 8 middle ≡ word ++ drop 12 old = drop_at (take 8 old) (word ++ drop 4 (drop 8 old)) 8 len ∙ ap (λ (t : List ℕ). word ++ t) rest in
    let words = c.copy_from_slice.ensures.after ∙ c.to_be_bytes-word.ensures in
    let done = sealed_by old word c.copy_from_slice-2.new.self c.args.count c.body_sum-checksum.result c.requires.long (omega arith) c.requires.within words (c.body_sum-checksum.ensures ∙ ap xxh64 behind) (omega arith) (c.copy_from_slice-2.ensures.after ∙ c.to_be_bytes.ensures) in
    record { sealed = rw behind done.0; rest = rw behind done.1 }
