-- A batch whose records enter in order, some of them over the address that they were read from.
use Rattle.std.proofs.Common.{◌≡◌, ℕ, zero, suc, ◌+◌, ◌<◌, ◌≤◌, Bool, true, false, IsSome, IsTrue, ◌↔◌, Option, Some, None, List, [], ◌∷◌, length, drop, get_or, if◌then◌else◌, refl, sym, ap, subst, ◌∙◌, arith}
use Rattle.std.specs.Bool.{OnTrue, OnFalse}
use Rattle.std.specs.Prelude.{is_some, MatchOption}
use Rattle.std.specs.FinMap as map
use Rattle.foyer_block_index.specs.declared.indexer.EntryAddress.{EntryAddress}
use Rattle.foyer_block_index.specs.declared.indexer.HashedEntryAddress.{HashedEntryAddress}
use Rattle.foyer_block_index.specs.declared.indexer.Index.TheVariants.{Address}
use Rattle.foyer_block_index.specs.Committing.{is_put, committed_one, PiecesHeld}
use Rattle.foyer_block_index.specs.Index.{IndexMap}
use Rattle.foyer_block_index.specs.Removal.{has_address}
use Rattle.foyer_block_index.specs.Shards.{source_at}
use Rattle.foyer_block_index.proofs.Indexed.{has_address-is, has_address-itself}

-- a replacement, by what it answers
pub replaces : (m new : IndexMap) (e : HashedEntryAddress) (over : EntryAddress) (done : Bool)
    → (IsTrue done ↔ (map.get m e.hash ≡ Some (Address over)))
    → OnTrue done (new ≡ map.insert m e.hash (Address e.address)) → OnFalse done (new ≡ m)
    → (new ≡ committed_one m e (Some over)) × (done ≡ is_put (map.get m e.hash) (Some over))
replaces m new e over done is does stays = go done refl (has_address (map.get m e.hash) over) refl
  where
    go : (t : Bool) → done ≡ t → (u : Bool) → has_address (map.get m e.hash) over ≡ u
        → (new ≡ (if has_address (map.get m e.hash) over then map.insert m e.hash (Address e.address) else m)) × (done ≡ has_address (map.get m e.hash) over)
    go true d true h = (subst (λ t. OnTrue t (new ≡ map.insert m e.hash (Address e.address))) d does ∙ ap (λ t. if t then map.insert m e.hash (Address e.address) else m) (sym h), d ∙ sym h)
    go true d false h =
        let held : map.get m e.hash ≡ Some (Address over) = is.0 (subst IsTrue (sym d) refl) in
        absurd (let clash : true ≡ false = sym (ap (λ o. has_address o over) held ∙ has_address-itself over) ∙ h in cc)
    go false d true h =
        let done_is : IsTrue done = is.1 (has_address-is (map.get m e.hash) over h) in
        absurd (let clash : false ≡ true = sym d ∙ done_is in cc)
    go false d false h = (subst (λ t. OnFalse t (new ≡ m)) d stays ∙ ap (λ t. if t then map.insert m e.hash (Address e.address) else m) (sym h), d ∙ sym h)

-- the source of a record at a place
pub source_is : (os : List (Option EntryAddress)) (k : ℕ) → k < length os → source_at os k ≡ get_or os k None
source_is [] k lt = absurd (omega arith)
source_is (o ∷ os) zero lt = refl
source_is (o ∷ os) (suc k) lt = source_is os k (omega arith)

-- a list from a place on
pub from_here : {X : Type 0} (xs : List X) (i : ℕ) (d : X) → i < length xs → drop i xs ≡ get_or xs i d ∷ drop (i + 1) xs
from_here {X} xs i d lt =
    let next : suc i ≡ i + 1 = omega arith in
    subst (λ k. drop i xs ≡ get_or xs i d ∷ drop k xs) next (go xs i lt)
  where
    go : (ys : List X) (k : ℕ) → k < length ys → drop k ys ≡ get_or ys k d ∷ drop (suc k) ys
    go [] k less = absurd (omega arith)
    go (y ∷ ys) zero less = refl
    go (y ∷ ys) (suc k) less = go ys k (omega arith)

pub none_from : {X : Type 0} (xs : List X) (i : ℕ) → length xs ≤ i → drop i xs ≡ []
none_from [] zero le = refl
none_from [] (suc i) le = refl
none_from (x ∷ xs) zero le = absurd (omega arith)
none_from (x ∷ xs) (suc i) le = none_from xs i (omega arith)

pub piece_held : (m : IndexMap) (e : HashedEntryAddress) (o : Option EntryAddress) (es : List HashedEntryAddress) (os : List (Option EntryAddress))
    → (o ≡ None → IsSome (map.get m e.hash)) → PiecesHeld m es os → PiecesHeld m (e ∷ es) (o ∷ os)
piece_held m e None es os some held = (some refl, held)
piece_held m e (Some over) es os some held = held

pub held_rest : (m : IndexMap) (e : HashedEntryAddress) (o : Option EntryAddress) (es : List HashedEntryAddress) (os : List (Option EntryAddress))
    → PiecesHeld m (e ∷ es) (o ∷ os) → (o ≡ None → IsSome (map.get m e.hash)) × PiecesHeld m es os
held_rest m e None es os held = ((λ _. held.0), held.1)
held_rest m e (Some over) es os held = ((λ none. absurd (cc)), held)

-- whether one is held decides what the batch's front needs
pub piece_goes_on : (m : IndexMap) (e : HashedEntryAddress) (o : Option EntryAddress) (es : List HashedEntryAddress) (os : List (Option EntryAddress)) (held : Bool)
    → MatchOption o (held ≡ is_some (map.get m e.hash)) (λ _. held ≡ true) → held ≡ true
    → (PiecesHeld m es os → PiecesHeld m (e ∷ es) (o ∷ os)) × (PiecesHeld m (e ∷ es) (o ∷ os) → PiecesHeld m es os)
piece_goes_on m e None es os held is holds = ((λ rest. (sym is ∙ holds, rest)), λ all. all.1)
piece_goes_on m e (Some over) es os held is holds = ((λ rest. rest), λ all. all)

pub piece_stops : (m : IndexMap) (e : HashedEntryAddress) (o : Option EntryAddress) (es : List HashedEntryAddress) (os : List (Option EntryAddress)) (held : Bool)
    → MatchOption o (held ≡ is_some (map.get m e.hash)) (λ _. held ≡ true) → held ≡ false → PiecesHeld m (e ∷ es) (o ∷ os) → ⊥
piece_stops m e None es os held is lacks all = absurd (let clash : true ≡ false = sym all.0 ∙ sym is ∙ lacks in cc)
piece_stops m e (Some over) es os held is lacks all = absurd (let clash : true ≡ false = sym is ∙ lacks in cc)
