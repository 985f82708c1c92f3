-- The reclaims of a core and the model's, and what the steps of one do to them.
use Rattle.std.proofs.Common.{◌≡◌, ℕ, zero, suc, ◌+◌, ◌==◌, nat_le, Bool, true, false, not, ◌&&◌, ◌||◌, if◌then◌else◌, List, [], ◌∷◌, ◌++◌, map, length, replicate, Option, Some, None, refl, sym, ap, subst, ◌∙◌}
use Rattle.std.proofs.lemmas.Bool.{eqb-true}
use Rattle.foyer_core_model.proofs.CommitSteps.{same_address}
use Rattle.foyer_core_flusher.specs.Sizes.{sizes_in}
use Rattle.foyer_format_blob.specs.declared.blob.BlobEntryIndex.{BlobEntryIndex}
use Rattle.foyer_block_index.specs.declared.indexer.HashedEntryAddress.{HashedEntryAddress}
use Rattle.foyer_format_buffer.specs.Listing.{behind, placed}
use Rattle.foyer_format_layout.specs.Position.{Sizes}
use Rattle.foyer_format_layout.specs.Page.{page_up}
use Rattle.foyer_core_model.specs.Flush.{is_some}
use Rattle.foyer_core_model.specs.Index.{is_same}
use Rattle.foyer_core_model.specs.Record as model_record
use Rattle.foyer_core_model.specs.Reclaim.{is_listed, not_among, addresses, admitted, place_behind, running}
use Rattle.foyer_core_model.specs.State as model_state
use Rattle.foyer_core_flusher.specs.Bridge.{entry_of}
use Rattle.foyer_core_flusher.specs.Settings.{Settings}
use Rattle.foyer_block_scan.specs.Scan.{next_blob, infos_of}
use Rattle.foyer_block_manager.specs.BlockSets.{is_reclaimed, reclaim_count}
use Rattle.foyer_block_manager.specs.Managed.{one_if}
use Rattle.foyer_core_flusher.specs.Addresses.{listed_of}
use Rattle.foyer_core_steps.specs.Reclaiming.{Reclaiming, IsReclaimAs, AreReclaimAs, IsAtRead, hashed_of, at_offset, chosen, is_entry, is_entry_among, left_in}

-- if a block's reclaim, its set and its filling are as they were, the reclaim stands for the same
pub reclaim_kept : (s : Settings) (b : ℕ) (place place' : model_state.BlockSet) (filling filling' : ℕ)
    → is_reclaimed place' ≡ is_reclaimed place → (is_reclaimed place ≡ true → filling' ≡ filling)
    → (o : Option Reclaiming) (its : Option model_state.Reclaim) → AreReclaimAs s b place filling o its → AreReclaimAs s b place' filling' o its
reclaim_kept s b place place' filling filling' sets fillings None None are = sets ∙ are
reclaim_kept s b place place' filling filling' sets fillings (Some r) (Some it) are =
    (sets ∙ are.0, subst (λ n. IsReclaimAs s b n r it) (sym (fillings are.0)) are.1)
reclaim_kept s b place place' filling filling' sets fillings None (Some it) are = absurd are
reclaim_kept s b place place' filling filling' sets fillings (Some r) None are = absurd are

-- a reclaim runs exactly if its block is reclaimed
pub runs_where : (s : Settings) (b : ℕ) (place : model_state.BlockSet) (filling : ℕ) (o : Option Reclaiming) (its : Option model_state.Reclaim)
    → AreReclaimAs s b place filling o its → is_some its ≡ is_reclaimed place
runs_where s b place filling None None are = sym are
runs_where s b place filling (Some r) (Some it) are = sym are.0
runs_where s b place filling None (Some it) are = absurd are
runs_where s b place filling (Some r) None are = absurd are

-- and so as many run
pub running_is : (n : ℕ) (place : ℕ → model_state.BlockSet) (reclaims : ℕ → Option model_state.Reclaim)
    → ((b : ℕ) → is_some (reclaims b) ≡ is_reclaimed (place b)) → running n reclaims ≡ reclaim_count n place
running_is zero place reclaims same = refl
running_is (suc n) place reclaims same =
    ap (λ t. (if t then 1 else 0) + running n reclaims) (same n)
    ∙ ap (λ k. (if is_reclaimed (place n) then 1 else 0) + k) (running_is n place reclaims same)
    ∙ ap (λ k. k + reclaim_count n place) (one (is_reclaimed (place n)))
  where
    one : (t : Bool) → (if t then 1 else 0) ≡ one_if t
    one true = refl
    one false = refl

-- one that runs is the model's
pub of_some : (s : Settings) (b : ℕ) (place : model_state.BlockSet) (filling : ℕ) (o : Option Reclaiming) (its : Option model_state.Reclaim) (r : Reclaiming)
    → AreReclaimAs s b place filling o its → o ≡ Some r
    → (it : model_state.Reclaim) × (its ≡ Some it) × (is_reclaimed place ≡ true) × IsReclaimAs s b filling r it
of_some s b place filling (Some q) (Some it) r are is =
    let same : q ≡ r = cc in (it, refl, are.0, subst (λ x. IsReclaimAs s b filling x it) same are.1)
of_some s b place filling None its r are is = absurd (cc)
of_some s b place filling (Some q) None r are is = absurd are

-- if no reclaim runs in the core, none does in the model
pub of_none : (s : Settings) (b : ℕ) (place : model_state.BlockSet) (filling : ℕ) (o : Option Reclaiming) (its : Option model_state.Reclaim)
    → AreReclaimAs s b place filling o its → o ≡ None → (its ≡ None) × (is_reclaimed place ≡ false)
of_none s b place filling None None are is = (refl, are)
of_none s b place filling None (Some it) are is = absurd are
of_none s b place filling (Some r) its are is = absurd (cc)

-- a reclaimed set is the one
pub reclaims_set : (p : model_state.BlockSet) → is_reclaimed p ≡ true → p ≡ model_state.Reclaims
reclaims_set model_state.Clean is = absurd (cc)
reclaims_set (model_state.Writes f) is = absurd (cc)
reclaims_set model_state.Evictable is = absurd (cc)
reclaims_set model_state.Reclaims is = refl

-- lists

-- what one of two lists has
joined : (p : ℕ × model_record.Address) (xs ys : List (ℕ × model_record.Address)) → is_listed p (xs ++ ys) ≡ (is_listed p xs || is_listed p ys)
joined p [] ys = refl
joined p (x ∷ xs) ys = go ((p.0 == x.0) && is_same p.1 x.1) (joined p xs ys)
  where
    go : (t : Bool) → is_listed p (xs ++ ys) ≡ (is_listed p xs || is_listed p ys) → (t || is_listed p (xs ++ ys)) ≡ ((t || is_listed p xs) || is_listed p ys)
    go true rest = refl
    go false rest = rest

either : (a b : Bool) → (a || b) ≡ (b || a)
either true true = refl
either true false = refl
either false true = refl
either false false = refl

mapped : {X Y : Type 0} (f : X → Y) (xs ys : List X) → map f (xs ++ ys) ≡ map f xs ++ map f ys
mapped f [] ys = refl
mapped f (x ∷ xs) ys = ap (λ zs. f x ∷ zs) (mapped f xs ys)

-- more is listed, in front of the one list and behind the other
pub listed_more : (p : ℕ × model_record.Address) (more its : List (ℕ × model_record.Address)) (ours new : List HashedEntryAddress)
    → ((q : ℕ × model_record.Address) → is_listed q its ≡ is_listed q (map listed_of ours)) → more ≡ map listed_of new
    → is_listed p (more ++ its) ≡ is_listed p (map listed_of (ours ++ new))
listed_more p more its ours new same news =
    joined p more its
    ∙ ap (λ l. is_listed p l || is_listed p its) news
    ∙ ap (λ t. is_listed p (map listed_of new) || t) (same p)
    ∙ either (is_listed p (map listed_of new)) (is_listed p (map listed_of ours))
    ∙ sym (joined p (map listed_of ours) (map listed_of new))
    ∙ ap (is_listed p) (sym (mapped listed_of ours new))

-- what an index lists is what the scan lists of it
pub addresses_are : (b n p : ℕ) (es : List BlobEntryIndex) → addresses b n p (map entry_of es) ≡ map listed_of (map hashed_of (infos_of b n (placed p es)))
addresses_are b n p [] = refl
addresses_are b n p (e ∷ es) =
    ap (λ l. (e.hash, record { block = b; offset = p + e.offset; len = e.len; sequence = e.sequence; filling = n }) ∷ l) (addresses_are b n p es)

-- what is admitted of it is what has such a verdict
pub admitted_is : (vs : List Bool) (es : List HashedEntryAddress) → admitted vs (map listed_of es) ≡ map listed_of (chosen vs es)
admitted_is [] [] = refl
admitted_is [] (e ∷ es) = refl
admitted_is (true ∷ vs) [] = refl
admitted_is (false ∷ vs) [] = refl
admitted_is (true ∷ vs) (e ∷ es) = ap (λ l. listed_of e ∷ l) (admitted_is vs es)
admitted_is (false ∷ vs) (e ∷ es) = admitted_is vs es

pub behind_is : (s : Sizes) (p : ℕ) (es : List BlobEntryIndex) → place_behind page_up s.block p (map entry_of es) ≡ behind s p es
behind_is s p [] = refl
behind_is s p (e ∷ []) = refl
behind_is s p (e ∷ f ∷ es) = behind_is s p (f ∷ es)

pub stage_behind_is : (s : Sizes) (q : ℕ) → at_offset (next_blob s q) ≡ (if nat_le (q + s.index) s.block then model_state.AtIndex q else model_state.AllListed)
stage_behind_is s q = go (nat_le (q + s.index) s.block)
  where
    go : (t : Bool) → at_offset (if t then Some q else None) ≡ (if t then model_state.AtIndex q else model_state.AllListed)
    go true = refl
    go false = refl

pub as_many : (b n p : ℕ) (es : List BlobEntryIndex) → length (infos_of b n (placed p es)) ≡ length (map entry_of es)
as_many b n p [] = refl
as_many b n p (e ∷ es) = ap suc (as_many b n p es)

pub copies : {X : Type 0} (n : ℕ) (x : X) → length (replicate n x) ≡ n
copies zero x = refl
copies (suc n) x = ap suc (copies n x)

-- the model's stage, by the records that are read and the place of the index behind them
abbrev pub stage_from : Settings → List (ℕ × model_record.Address) → ℕ → model_state.Stage
stage_from s [] q = if nat_le (q + s.blob_index_size) s.block_size then model_state.AtIndex q else model_state.AllListed
stage_from s (p ∷ ps) q = model_state.AtRecord p.0 p.1 ps q

-- where a reclaim reads these records, and then an index if one has room
pub stage_read : (s : Settings) (es : List HashedEntryAddress) (q : ℕ)
    → IsAtRead (sizes_in s) (next_blob (sizes_in s) q) es (stage_from s (map listed_of es) q)
stage_read s [] q = sym (stage_behind_is (sizes_in s) q)
stage_read s (e ∷ es) q = record { place = q; is = refl; at = refl }

-- lists without what was queued

same_pair : (p q : ℕ × model_record.Address) → ((p.0 == q.0) && is_same p.1 q.1) ≡ true → p ≡ q
same_pair p q is = go (p.0 == q.0) refl (is_same p.1 q.1) refl is
  where
    go : (t : Bool) → (p.0 == q.0) ≡ t → (u : Bool) → is_same p.1 q.1 ≡ u → (t && u) ≡ true → p ≡ q
    go true e true f g = ap (λ h. (h, p.1)) (eqb-true p.0 q.0 e) ∙ ap (λ a. (q.0, a)) (same_address p.1 q.1 f)
    go true e false f g = absurd (cc)
    go false e u f g = absurd (cc)

-- what a list without others has
pub kept_is : (p : ℕ × model_record.Address) (requeued listed : List (ℕ × model_record.Address))
    → is_listed p (not_among requeued listed) ≡ (is_listed p listed && not (is_listed p requeued))
kept_is p requeued [] = refl
kept_is p requeued (q ∷ qs) = go (is_listed q requeued) refl ((p.0 == q.0) && is_same p.1 q.1) refl (kept_is p requeued qs)
  where
    no_more : (t : Bool) → (t && not true) ≡ false
    no_more true = refl
    no_more false = refl

    go : (t : Bool) → is_listed q requeued ≡ t → (u : Bool) → ((p.0 == q.0) && is_same p.1 q.1) ≡ u
        → is_listed p (not_among requeued qs) ≡ (is_listed p qs && not (is_listed p requeued))
        → is_listed p (if t then not_among requeued qs else q ∷ not_among requeued qs) ≡ ((u || is_listed p qs) && not (is_listed p requeued))
    go true e true f rest =
        let gone : is_listed p requeued ≡ true = ap (λ x. is_listed x requeued) (same_pair p q f) ∙ e in
        rest ∙ ap (λ t. is_listed p qs && not t) gone ∙ no_more (is_listed p qs) ∙ sym (ap not gone)
    go true e false f rest = rest
    go false e true f rest =
        let stays : is_listed p requeued ≡ false = ap (λ x. is_listed x requeued) (same_pair p q f) ∙ e in
        ap (λ t. t || is_listed p (not_among requeued qs)) f ∙ sym (ap not stays)
    go false e false f rest = ap (λ t. t || is_listed p (not_among requeued qs)) f ∙ rest

-- an entry that was queued is one of the model's
among_is : (e : HashedEntryAddress) (requeued : List HashedEntryAddress) → is_entry_among requeued e ≡ is_listed (listed_of e) (map listed_of requeued)
among_is e [] = refl
among_is e (r ∷ rs) = go (is_entry e r) (among_is e rs)
  where
    go : (t : Bool) → is_entry_among rs e ≡ is_listed (listed_of e) (map listed_of rs) → (t || is_entry_among rs e) ≡ (t || is_listed (listed_of e) (map listed_of rs))
    go true is = refl
    go false is = is

pub left_is : (requeued listed : List HashedEntryAddress) → map listed_of (left_in requeued listed) ≡ not_among (map listed_of requeued) (map listed_of listed)
left_is requeued [] = refl
left_is requeued (e ∷ es) = go (is_entry_among requeued e) (among_is e requeued) (left_is requeued es)
  where
    go : (t : Bool) → t ≡ is_listed (listed_of e) (map listed_of requeued) → map listed_of (left_in requeued es) ≡ not_among (map listed_of requeued) (map listed_of es)
        → map listed_of (if not t then e ∷ left_in requeued es else left_in requeued es)
        ≡ (if is_listed (listed_of e) (map listed_of requeued) then not_among (map listed_of requeued) (map listed_of es) else listed_of e ∷ not_among (map listed_of requeued) (map listed_of es))
    go true is same = same ∙ ap (λ t. if t then not_among (map listed_of requeued) (map listed_of es) else listed_of e ∷ not_among (map listed_of requeued) (map listed_of es)) is
    go false is same = ap (λ l. listed_of e ∷ l) same ∙ ap (λ t. if t then not_among (map listed_of requeued) (map listed_of es) else listed_of e ∷ not_among (map listed_of requeued) (map listed_of es)) is

-- what leaves the index of a core leaves the model's
pub left_as : (its_requeued its : List (ℕ × model_record.Address)) (requeued listed : List HashedEntryAddress)
    → ((p : ℕ × model_record.Address) → is_listed p its ≡ is_listed p (map listed_of listed))
    → ((p : ℕ × model_record.Address) → is_listed p its_requeued ≡ is_listed p (map listed_of requeued))
    → (p : ℕ × model_record.Address) → is_listed p (not_among its_requeued its) ≡ is_listed p (map listed_of (left_in requeued listed))
left_as its_requeued its requeued listed same queued p =
    kept_is p its_requeued its
    ∙ ap (λ t. t && not (is_listed p its_requeued)) (same p) ∙ ap (λ t. is_listed p (map listed_of listed) && not t) (queued p)
    ∙ sym (kept_is p (map listed_of requeued) (map listed_of listed))
    ∙ ap (is_listed p) (sym (left_is requeued listed))

-- one more is queued, in front of the one list and behind the other
pub listed_one : (p : ℕ × model_record.Address) (e : HashedEntryAddress) (its : List (ℕ × model_record.Address)) (ours : List HashedEntryAddress)
    → ((q : ℕ × model_record.Address) → is_listed q its ≡ is_listed q (map listed_of ours))
    → is_listed p (listed_of e ∷ its) ≡ is_listed p (map listed_of (ours ++ e ∷ []))
listed_one p e its ours same = listed_more p (listed_of e ∷ []) its ours (e ∷ []) same refl

-- a list that has one more
pub one_more : {X : Type 0} (xs : List X) (x : X) → length (xs ++ x ∷ []) ≡ suc (length xs)
one_more [] x = refl
one_more (y ∷ ys) x = ap suc (one_more ys x)
