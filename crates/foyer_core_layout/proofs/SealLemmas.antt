-- There is an index that lists any entries, if it has room for them.
use Rattle.std.proofs.Common.{◌≡◌, ℕ, zero, suc, ◌+◌, ◌*◌, ◌/◌, ◌<◌, ◌≤◌, ◌^◌, List, [], ◌∷◌, ◌++◌, map, length, take, drop, replicate, refl, sym, ap, subst, ◌∙◌, arith}
use Rattle.std.proofs.lemmas.List.{length-append, length-map, length-drop, length-take-le, length-replicate, append_assoc, append-nil}
use Rattle.std.proofs.lemmas.Nat.{xor_lt}
use Rattle.std.specs.Int.Bits.{bit_xor}
use Rattle.byteorder.specs.Endian.{big_bytes}
use Rattle.foyer_format_checksum.specs.Xxh64.{xxh64, avalanche, mul64, prime2, prime3}
use Rattle.foyer_format_buffer.proofs.BlobLemmas.{entry_put, sealed_by, entries_none}
use Rattle.foyer_format_buffer.specs.Blob.{entry_bytes, entries_in, IsSealed, FitsEntry, capacity_of}
use Rattle.foyer_format_buffer.specs.BlobEntryIndex.{BlobEntryIndex}
use Rattle.foyer_format_layout.specs.Each.{Each}
use Rattle.foyer_core_model.specs.Record.{IndexEntry}
use Rattle.foyer_core_layout.specs.Splits.{is_encoded, IsIndexOf}

avalanche_small : (h : ℕ) → avalanche h < 2 ^ 64
unfolding avalanche
avalanche_small h =
    let once : ℕ = mul64 (bit_xor h (h / 2 ^ 33)) prime2 in
    let twice : ℕ = mul64 (bit_xor once (once / 2 ^ 29)) prime3 in
    let one : twice < 2 ^ 64 = omega arith in
    let two : twice / 2 ^ 32 < 2 ^ 64 = omega arith in
    xor_lt 64 twice (twice / 2 ^ 32) one two

sum_small : (b : List ℕ) → xxh64 b < 2 ^ 64
unfolding xxh64
sum_small b = avalanche_small _

big_len : (k n : ℕ) → length (big_bytes k n) ≡ k
big_len zero n = refl
big_len (suc k) n = ap suc (big_len k n)

entry_len : (e : BlobEntryIndex) → length (entry_bytes e) ≡ 24
unfolding entry_bytes
entry_len e = omega (
  arith,
  length-append (big_bytes 8 e.hash) (big_bytes 8 e.sequence ++ (big_bytes 4 e.offset ++ big_bytes 4 e.len)),
  length-append (big_bytes 8 e.sequence) (big_bytes 4 e.offset ++ big_bytes 4 e.len),
  length-append (big_bytes 4 e.offset) (big_bytes 4 e.len),
  big_len 8 e.hash,
  big_len 8 e.sequence,
  big_len 4 e.offset,
  big_len 4 e.len,
)

-- bytes with these entries behind the first of an index's
record Listing (old : List ℕ) (some : List BlobEntryIndex) (todo : List BlobEntryIndex) : Type 0 where
  pub bytes : List ℕ
  pub size : length bytes ≡ length old
  pub are : Each FitsEntry todo → entries_in old (length some) ≡ some → entries_in bytes (length (some ++ todo)) ≡ some ++ todo

lists : (old : List ℕ) (some todo : List BlobEntryIndex) → 12 + 24 * (length some + length todo) ≤ length old → Listing old some todo
lists old some [] room = record {
  bytes = old;
  size = refl;
  are = λ fits are. ap (entries_in old) (ap length (append-nil some)) ∙ are ∙ sym (append-nil some);
}
lists old some (e ∷ es) room =
    let n : ℕ = length some in
    let rest : List ℕ = drop (12 + 24 * n + 24) old in
    let next : List ℕ = take (12 + 24 * n) old ++ (entry_bytes e ++ rest) in
    let more : List BlobEntryIndex = some ++ e ∷ [] in
    let size : length next ≡ length old = omega (
      arith,
      length-append (take (12 + 24 * n) old) (entry_bytes e ++ rest),
      length-append (entry_bytes e) rest,
      length-take-le (12 + 24 * n) old (omega arith),
      length-drop (12 + 24 * n + 24) old,
      entry_len e,
    ) in
    let count : length more ≡ n + 1 = length-append some (e ∷ []) in
    let l : Listing next more es = lists next more es (omega arith) in
    let all : more ++ es ≡ some ++ e ∷ es = append_assoc some (e ∷ []) es in
    record {
      bytes = l.bytes;
      size = l.size ∙ size;
      are = λ fits are. subst (λ xs. entries_in l.bytes (length xs) ≡ xs) all
          (l.are fits.1 (ap (entries_in next) count ∙ entry_put old rest n e (omega arith) fits.0 ∙ ap (λ xs. xs ++ e ∷ []) are));
    }

-- each number of these entries fits its field
abbrev pub AllFitEntry : List IndexEntry → Type 0
AllFitEntry listed = Each FitsEntry (map is_encoded listed)

-- the bytes of such an index
pub record IndexOf (size : ℕ) (listed : List IndexEntry) : Type 0 where
  pub bytes : List ℕ
  pub len : length bytes ≡ size
  pub is : IsIndexOf bytes listed

pub index_for : (size : ℕ) (listed : List IndexEntry) → 12 ≤ size → size ≤ 2 ^ 32 → length listed ≤ capacity_of size → AllFitEntry listed → IndexOf size listed
index_for size listed long small room fits =
    let es : List BlobEntryIndex = map is_encoded listed in
    let many : length es ≡ length listed = length-map listed is_encoded in
    let zeros : List ℕ = replicate size 0 in
    let width : length zeros ≡ size = length-replicate size 0 in
    let l : Listing zeros [] es = lists zeros [] es (omega arith) in
    let word : List ℕ = big_bytes 4 (length es) in
    let sum : ℕ = xxh64 (word ++ drop 12 l.bytes) in
    let b : List ℕ = big_bytes 8 sum ++ (word ++ drop 12 l.bytes) in
    record {
      bytes = b;
      len = omega (
        arith,
        length-append (big_bytes 8 sum) (word ++ drop 12 l.bytes),
        length-append word (drop 12 l.bytes),
        length-drop 12 l.bytes,
        l.size,
        big_len 8 sum,
        big_len 4 (length es),
      );
      is = subst (IsSealed b) (l.are fits (entries_none zeros))
          (sealed_by l.bytes word (big_bytes 8 sum) (length es) sum (omega (arith, l.size)) (omega arith) (omega (arith, ap capacity_of l.size)) refl refl (sum_small (word ++ drop 12 l.bytes)) refl).0;
    }
