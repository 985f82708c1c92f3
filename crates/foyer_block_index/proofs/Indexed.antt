-- What each hash has after a call, for the proofs above the index.
use Rattle.std.proofs.Common.{◌≡◌, ℕ, ◌==◌, ◌&&◌, Bool, true, false, not, cond, if◌then◌else◌, Option, Some, None, List, refl, sym, ap, ◌∙◌}
use Rattle.std.specs.Cmp.{nat_cmp_total, unsigned_tied}
use Rattle.std.specs.FinMap as map
use Rattle.std.specs.FinMap.{nat_cmp-IsAntisymmetric, get-insert, get-retain_keys}
use Rattle.std.proofs.lemmas.Bool.{eqb-true, eq-eqb}
use Rattle.foyer_block_index.specs.declared.indexer.EntryAddress.{EntryAddress}
use Rattle.foyer_block_index.specs.declared.indexer.HashedEntryAddress.{HashedEntryAddress}
use Rattle.foyer_block_index.specs.declared.indexer.Index.{Index}
use Rattle.foyer_block_index.specs.declared.indexer.Index.TheVariants.{Address, Tombstone}
use Rattle.foyer_block_index.specs.declared.tombstone.Tombstone.{Tombstone as Mark}
use Rattle.foyer_block_index.specs.Index.{IndexMap}
use Rattle.foyer_block_index.specs.Insertion.{entered, inserted}
use Rattle.foyer_block_index.specs.Removal.{same_address, has_address, has_mark, lists_address, lists_mark, without_addresses, without_marks}

both : (a b : Bool) → (a && b) ≡ true → (a ≡ true) × (b ≡ true)
both true b e = (refl, e)
both false b e = absurd (cc)

same_address-refl : (a : EntryAddress) → same_address a a ≡ true
same_address-refl a = rw (eq-eqb a.block a.block refl, eq-eqb a.offset a.offset refl, eq-eqb a.len a.len refl, eq-eqb a.sequence a.sequence refl, eq-eqb a.filling a.filling refl)

same_address-same : (a b : EntryAddress) → same_address a b ≡ true → a ≡ b
same_address-same a b e =
    let p = both _ _ e in
    let q = both _ _ p.0 in
    let r = both _ _ q.0 in
    let s = both _ _ r.0 in
    λ i. record {
      block = eqb-true a.block b.block s.0 i;
      offset = eqb-true a.offset b.offset s.1 i;
      len = eqb-true a.len b.len r.1 i;
      sequence = eqb-true a.sequence b.sequence q.1 i;
      filling = eqb-true a.filling b.filling p.1 i;
    }

-- the tests of a removal say what they are named for
pub has_address-is : (o : Option Index) (a : EntryAddress) → has_address o a ≡ true → o ≡ Some (Address a)
has_address-is None a is = absurd (cc)
has_address-is (Some (Address held)) a is = ap (λ a. Some (Address a)) (same_address-same held a is)
has_address-is (Some (Tombstone sequence)) a is = absurd (cc)

pub has_address-itself : (a : EntryAddress) → has_address (Some (Address a)) a ≡ true
has_address-itself a = same_address-refl a

pub has_mark-is : (o : Option Index) (s : ℕ) → has_mark o s ≡ true → o ≡ Some (Tombstone s)
has_mark-is None s is = absurd (cc)
has_mark-is (Some (Address held)) s is = absurd (cc)
has_mark-is (Some (Tombstone held)) s is = ap (λ s. Some (Tombstone s)) (eqb-true held s is)

pub has_mark-itself : (s : ℕ) → has_mark (Some (Tombstone s)) s ≡ true
has_mark-itself s = eq-eqb s s refl

pub get-inserted : (m : IndexMap) (hash : ℕ) (next : Index) (q : ℕ)
    → map.get (inserted m hash next) q ≡ (if q == hash then Some (entered (map.get m hash) next) else map.get m q)
get-inserted m hash next q = get-insert nat_cmp_total m hash (entered (map.get m hash) next) q
    ∙ ap (λ b. cond b (Some (entered (map.get m hash) next)) (map.get m q)) (unsigned_tied q hash)

turned : (b : Bool) (o : Option Index) → cond (not b) o None ≡ cond b None o
turned true o = refl
turned false o = refl

pub get-without_addresses : (m : IndexMap) (es : List HashedEntryAddress) (q : ℕ)
    → map.get (without_addresses m es) q ≡ (if lists_address es q (map.get m q) then None else map.get m q)
get-without_addresses m es q =
    get-retain_keys m (λ hash. not (lists_address es hash (map.get m hash))) q
    (λ x tie. ap (λ hash. not (lists_address es hash (map.get m hash))) (sym (nat_cmp-IsAntisymmetric q x tie)))
    ∙ turned (lists_address es q (map.get m q)) (map.get m q)

pub get-without_marks : (m : IndexMap) (marks : List Mark) (q : ℕ)
    → map.get (without_marks m marks) q ≡ (if lists_mark marks q (map.get m q) then None else map.get m q)
get-without_marks m marks q =
    get-retain_keys m (λ hash. not (lists_mark marks hash (map.get m hash))) q
    (λ x tie. ap (λ hash. not (lists_mark marks hash (map.get m hash))) (sym (nat_cmp-IsAntisymmetric q x tie)))
    ∙ turned (lists_mark marks q (map.get m q)) (map.get m q)
