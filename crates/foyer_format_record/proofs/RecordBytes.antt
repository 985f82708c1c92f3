-- The bytes of a record: a header before a value and a key, and how long they are.
use Rattle.std.proofs.Common.{◌≡◌, ℕ, ◌+◌, List, ◌++◌, take, drop, length, refl, ◌∙◌, arith}
use Rattle.std.proofs.lemmas.List.{length-append, length-drop, length-take-le, take-append-drop}
use Rattle.foyer_format_checksum.specs.Xxh64.{xxh64}
use Rattle.foyer_format_record.specs.declared.compress.Compression.TheVariants as compression
use Rattle.foyer_format_record.specs.Header.{header_bytes}
use Rattle.foyer_format_record.specs.Record.{record_bytes}
use Rattle.foyer_format_record.proofs.HeaderLemmas.{length-header_bytes}

-- a body's header, with the value and the key
pub whole_record : (hash sequence vl kl : ℕ) (body : List ℕ) → length body ≡ vl + kl
    → header_bytes (record { key_len = kl; value_len = vl; hash = hash; sequence = sequence; checksum = xxh64 body; compression = compression.None }) ++ body
    ≡ record_bytes hash sequence (drop vl body) (take vl body)
unfolding record_bytes
whole_record hash sequence vl kl body len =
    let whole : take vl body ++ drop vl body ≡ body = take-append-drop vl body in
    let v : length (take vl body) ≡ vl = length-take-le vl body (omega arith) in
    let k : length (drop vl body) ≡ kl = omega (arith, length-drop vl body) in
    rw (whole, v, k) refl

pub length-record_bytes : (hash sequence : ℕ) (k v : List ℕ) → length (record_bytes hash sequence k v) ≡ 36 + (length v + length k)
unfolding record_bytes
length-record_bytes hash sequence k v =
    let head : List ℕ = header_bytes (record { key_len = length k; value_len = length v; hash = hash; sequence = sequence; checksum = xxh64 (v ++ k); compression = compression.None }) in
    length-append head (v ++ k) ∙ (omega (arith, length-header_bytes (record { key_len = length k; value_len = length v; hash = hash; sequence = sequence; checksum = xxh64 (v ++ k); compression = compression.None }), length-append v k))
