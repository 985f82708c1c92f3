-- A record is read as it was made.
use Rattle.std.proofs.Common.{◌≡◌, ℕ, ◌+◌, ◌<◌, ◌^◌, ◌*◌, ◌/◌, bit_xor, lit<, List, ◌++◌, Result, Ok, Err, Option, Some, None, take, drop, length, refl, ap, arith}
use Rattle.std.specs.Prelude.{◌==◌, ◌&&◌, nat_lt, not, Bool, true, false}
use Rattle.std.proofs.lemmas.List.{length-append, take_at, drop_at, take_all}
use Rattle.std.proofs.lemmas.Bool.{eq-eqb, ne_eqb}
use Rattle.std.proofs.lemmas.Bool.Decides.{nat_tests}
use Rattle.foyer_format_checksum.specs.Xxh64.{xxh64, avalanche, mul64, prime2, prime3}
use Rattle.std.proofs.lemmas.Nat.{xor_lt}
use Rattle.std.proofs.Math.Nat.{mod-lt}
use Rattle.foyer_format_code.specs.Error.{Error}
use Rattle.foyer_format_record.specs.declared.compress.Compression.TheVariants as compression
use Rattle.foyer_format_record.specs.declared.block.serde.EntryHeader.{EntryHeader}
use Rattle.foyer_format_record.specs.Header.{header_bytes, header_of, FitsFields}
use Rattle.foyer_format_record.specs.Record.{body_outcome, record_bytes, entry_fault, pair_of, outcome_with}
use Rattle.foyer_format_record.specs.Record.{Outcome as outcome}
use Rattle.foyer_format_code.specs.Error.TheVariants as error
use Rattle.foyer_format_record.specs.Refusals.{IsEntryFault, IsRecordFault}
use Rattle.foyer_format_record.proofs.RefusalLemmas.{record_fault}
use Rattle.foyer_format_record.proofs.HeaderLemmas.{header_again_of, length-header_bytes}

avalanche_fits : (h : ℕ) → avalanche h < 2 ^ 64
unfolding avalanche
avalanche_fits h =
    let once : ℕ = mul64 (bit_xor h (h / 2 ^ 33)) prime2 in
    let twice : ℕ = mul64 (bit_xor once (once / 2 ^ 29)) prime3 in
    let fits : twice < 2 ^ 64 = mod-lt (bit_xor once (once / 2 ^ 29) * prime3) (lit< tt) in
    xor_lt 64 twice (twice / 2 ^ 32) fits (omega arith)

-- a checksum is a word
xxh64_fits : (b : List ℕ) → xxh64 b < 2 ^ 64
unfolding xxh64
xxh64_fits b = avalanche_fits _

entry_good : (is_key is_value : List ℕ → Bool) (k v : List ℕ) → is_key k ≡ true → is_value v ≡ true
    → entry_fault is_key is_value (v ++ k) (length k) (length v) compression.None (Some (xxh64 (v ++ k))) ≡ None
unfolding entry_fault
entry_good is_key is_value k v key value =
    let len : length (v ++ k) ≡ length v + length k = length-append v k in
    let short : nat_lt (length (v ++ k)) (length v + length k) ≡ false = grind (arith, nat_tests, len) in
    let whole : take (length v + length k) (v ++ k) ≡ v ++ k = take_all (length v + length k) (v ++ k) (omega arith) in
    let same : not (xxh64 (v ++ k) == xxh64 (v ++ k)) ≡ false = ap not (eq-eqb _ _ refl) in
    let front : take (length v) (v ++ k) ≡ v = take_at v k (length v) refl in
    let rest : drop (length v) (v ++ k) ≡ k = drop_at v k (length v) refl in
    let back : take (length k) k ≡ k = take_all (length k) k (omega arith) in
    rw (short, whole, same, front, rest, back, value, key) refl

pub pair_again : (is_key is_value : List ℕ → Bool) (h s : ℕ) (k v : List ℕ) → h < 2 ^ 64 → s < 2 ^ 64
    → length k < 2 ^ 32 → length v < 2 ^ 32 → is_key k ≡ true → is_value v ≡ true
    → pair_of is_key is_value (record_bytes h s k v) h s ≡ outcome.Pair k v
unfolding pair_of record_bytes body_outcome
pair_again is_key is_value h s k v fh fs fk fv key value =
    let head : EntryHeader = record { key_len = length k; value_len = length v; hash = h; sequence = s; checksum = xxh64 (v ++ k); compression = compression.None } in
    let fits : FitsFields head = record { key_len = fk; value_len = fv; hash = fh; sequence = fs; checksum = xxh64_fits (v ++ k) } in
    let body : drop 36 (header_bytes head ++ (v ++ k)) ≡ v ++ k = drop_at (header_bytes head) (v ++ k) 36 (length-header_bytes head) in
    let len : length (header_bytes head ++ (v ++ k)) ≡ 36 + length k + length v = omega (arith, length-append (header_bytes head) (v ++ k), length-append v k, length-header_bytes head) in
    let same_len : (length (header_bytes head ++ (v ++ k)) == 36 + length k + length v) ≡ true = eq-eqb _ _ len in
    let same_h : (h == h) ≡ true = eq-eqb h h refl in
    let same_s : (s == s) ≡ true = eq-eqb s s refl in
    let front : take (length v) (v ++ k) ≡ v = take_at v k (length v) refl in
    let rest : drop (length v) (v ++ k) ≡ k = drop_at v k (length v) refl in
    let back : take (length k) k ≡ k = take_all (length k) k (omega arith) in
    let first : take 36 (header_bytes head ++ (v ++ k)) ≡ header_bytes head = take_at (header_bytes head) (v ++ k) 36 (length-header_bytes head) in
    rw (first, header_again_of (header_bytes head) head fits refl, same_len, same_h, same_s, body, entry_good is_key is_value k v key value, front, rest, back) refl

both_false : (a c : Bool) → (a && false && c) ≡ false
both_false true c = refl
both_false false c = refl

both_false_last : (a c : Bool) → (a && c && false) ≡ false
both_false_last true true = refl
both_false_last true false = refl
both_false_last false c = refl

module _ (is_key is_value : List ℕ → Bool) (b : List ℕ) (h s : ℕ) where
  no_header : (r : Result EntryHeader Error) → length b < 36 → outcome_with is_key is_value b h s r ≡ outcome.NoRecord
  no_header (Err e) short = refl
  no_header (Ok head) short =
      let other : (length b == 36 + head.key_len + head.value_len) ≡ false = grind (arith, nat_tests) in
      rw (other, both_false_last (head.hash == h) (head.sequence == s)) refl

  -- fewer bytes than a header's are no record
  pub short_none : length b < 36 → pair_of is_key is_value b h s ≡ outcome.NoRecord
  unfolding pair_of
  short_none short = no_header (header_of (take 36 b)) short

  pub no_header_none : (e : Error) → header_of (take 36 b) ≡ Err e → pair_of is_key is_value b h s ≡ outcome.NoRecord
  unfolding pair_of
  no_header_none e is = rw is refl

  -- a header of another hash, sequence or length
  other_none : (head : EntryHeader) → header_of (take 36 b) ≡ Ok head
      → ((head.hash == h) && (head.sequence == s) && (length b == 36 + head.key_len + head.value_len)) ≡ false
      → pair_of is_key is_value b h s ≡ outcome.NoRecord
  unfolding pair_of
  other_none head is other = rw (is, other) refl

  pub other_hash : (head : EntryHeader) → header_of (take 36 b) ≡ Ok head → (head.hash ≡ h → ⊥) → pair_of is_key is_value b h s ≡ outcome.NoRecord
  other_hash head is other = other_none head is (rw (ne_eqb head.hash h other) refl)

  pub other_sequence : (head : EntryHeader) → header_of (take 36 b) ≡ Ok head → (head.sequence ≡ s → ⊥) → pair_of is_key is_value b h s ≡ outcome.NoRecord
  other_sequence head is other = other_none head is (rw (ne_eqb head.sequence s other) (both_false (head.hash == h) (length b == 36 + head.key_len + head.value_len)))

  pub other_length : (head : EntryHeader) → header_of (take 36 b) ≡ Ok head → (length b ≡ 36 + head.key_len + head.value_len → ⊥)
      → pair_of is_key is_value b h s ≡ outcome.NoRecord
  other_length head is other = other_none head is (rw (ne_eqb (length b) (36 + head.key_len + head.value_len) other) (both_false_last (head.hash == h) (head.sequence == s)))

  pub judged : (head : EntryHeader) → header_of (take 36 b) ≡ Ok head → head.hash ≡ h → head.sequence ≡ s
      → length b ≡ 36 + head.key_len + head.value_len → pair_of is_key is_value b h s ≡ body_outcome is_key is_value head (drop 36 b)
  unfolding pair_of
  judged head is same_h same_s len =
      rw (is, eq-eqb _ _ same_h, eq-eqb _ _ same_s, eq-eqb _ _ len) refl

module _ (is_key is_value : List ℕ → Bool) (head : EntryHeader) (body : List ℕ) where
  abbrev fault_in : Option Error
  fault_in = entry_fault is_key is_value body head.key_len head.value_len head.compression (Some head.checksum)

  pub pair_in : (key value : List ℕ) → fault_in ≡ None → value ≡ take head.value_len body → key ≡ take head.key_len (drop head.value_len body)
      → body_outcome is_key is_value head body ≡ outcome.Pair key value
  unfolding body_outcome
  pair_in key value sound v k = rw (sound, v, k) refl

  pub short_in : fault_in ≡ Some error.OutOfRange → body_outcome is_key is_value head body ≡ outcome.NoRecord
  unfolding body_outcome
  short_in fault = rw fault refl

  pub damaged_in : fault_in ≡ Some error.ChecksumMismatch → body_outcome is_key is_value head body ≡ outcome.NoRecord
  unfolding body_outcome
  damaged_in fault = rw fault refl

  pub fault_of_body : (e : Error) → IsEntryFault fault_in e → (e ≡ error.OutOfRange → ⊥) → (e ≡ error.ChecksumMismatch → ⊥)
      → IsRecordFault (body_outcome is_key is_value head body) e
  unfolding body_outcome
  fault_of_body e fault a b = record_fault (body_outcome is_key is_value head body) _ _ fault_in e refl fault a b

pub ruleset bodies = (pair_in, short_in, damaged_in, fault_of_body)

pub ruleset outcomes = (short_none, no_header_none)
