-- An index that came for a reclaim, as the model lists it.
use Rattle.std.proofs.Common.{◌≡◌, ℕ, suc, Bool, true, false, List, [], ◌∷◌, ◌++◌, map, length, replicate, Option, Some, None, option_map, refl, sym, ap, subst, ◌∙◌}
use Rattle.std.specs.List.{AllZip}
use Rattle.std.specs.declared.vec.Vec.{Vec}
use Rattle.foyer_format_blob.specs.declared.blob.BlobEntryIndex.{BlobEntryIndex}
use Rattle.foyer_block_index.specs.declared.indexer.HashedEntryAddress.{HashedEntryAddress}
use Rattle.foyer_format_buffer.specs.Listing.{behind, placed}
use Rattle.foyer_policy_filter.specs.declared.verdict.StorageFilterResult.{StorageFilterResult}
use Rattle.foyer_core_model.specs.Record.{Address}
use Rattle.foyer_core_model.specs.Reclaim.{addresses, admitted, stage_after, stage_behind, issued_at, reclaiming, Lists}
use Rattle.foyer_core_model.specs.State as model_state
use Rattle.foyer_core_flusher.specs.Bridge.{entry_of}
use Rattle.foyer_core_flusher.specs.Content.{Content, Meaning}
use Rattle.foyer_core_flusher.specs.CoreRules.{machine}
use Rattle.foyer_core_flusher.specs.Sizes.{AreValid, sizes_in}
use Rattle.foyer_core_flusher.specs.Settings.{Settings}
use Rattle.foyer_block_scan.specs.IndexBytes.{index_at}
use Rattle.foyer_block_scan.specs.Scan.{next_blob, infos_of, index_step, scan_step}
use Rattle.foyer_block_scan.specs.ScanRun.{infos_in}
use Rattle.foyer_block_scan.specs.ScanState.{Scan}
use Rattle.foyer_block_scan.specs.declared.block.scanner.EntryInfo.{EntryInfo}
use Rattle.foyer_core_flusher.specs.Addresses.{listed_of}
use Rattle.foyer_device_statistics.specs.declared.state.IoState.{IoState}
use Rattle.foyer_core_steps.specs.Reclaiming.{Reclaiming, IsReclaimAs, IsStageAs, IsAtRead, IsReread, after_index, index_infos, chosen, chosen_of, hashed_of, verdict_list, verdicts_of}
use Rattle.foyer_core_steps.proofs.ReclaimLemmas.{listed_more, addresses_are, admitted_is, behind_is, stage_from, stage_read, as_many, copies}

-- verdicts, none if there is no list
abbrev pub bools : Option (List Bool) → List Bool
bools None = []
bools (Some vs) = vs

pub bools_are : {A : Type 0} (v : Option (Vec Bool A)) → bools (verdict_list v) ≡ verdicts_of v
bools_are None = refl
bools_are (Some v) = refl

-- there are as many verdicts as listed entries, and a list of verdicts exactly if there is one of entries
abbrev pub FitsList : Option (List EntryInfo) → Option (List Bool) → Type 0
FitsList None None = Unit {0}
FitsList (Some infos) (Some vs) = length vs ≡ length infos
FitsList infos vs = ⊥

zip_count : {X Y : Type 0} (R : X → Y → Type 0) (xs : List X) (ys : List Y) → AllZip R xs ys → length ys ≡ length xs
zip_count R [] [] all = refl
zip_count R [] (y ∷ ys) all = absurd all
zip_count R (x ∷ xs) [] all = absurd all
zip_count R (x ∷ xs) (y ∷ ys) all = ap (λ n. suc n) (zip_count R xs ys all.1)

pub reread_fits : {Q : Type 0} (may : Q → IoState → ℕ → ℕ → StorageFilterResult → Type 0) (filter : Option (List Q)) (io : IoState) (infos : Option (List EntryInfo)) (vs : Option (List Bool)) → IsReread may filter io infos vs → FitsList infos vs
reread_fits may filter io None None are = tt
reread_fits may filter io None (Some vs) are = are
reread_fits may filter io (Some infos) None are = are
reread_fits may filter io (Some infos) (Some vs) are = zip_count _ infos vs are

nothing_chosen : (vs : Option (List Bool)) → chosen_of vs [] ≡ []
nothing_chosen None = refl
nothing_chosen (Some []) = refl
nothing_chosen (Some (true ∷ vs)) = refl
nothing_chosen (Some (false ∷ vs)) = refl

-- the stage is the model's
pub stages : {K V P : Type 0} (m : Meaning K V P) (s : Settings) (sound : AreValid s) (old : model_state.State Content) (l : List (ℕ × Address)) (q : ℕ)
    → stage_from s l q ≡ stage_after (machine m s sound) old l q
stages m s sound old [] q = refl
stages m s sound old (p ∷ ps) q = refl

module _ {K V P : Type 0} (m : Meaning K V P) (s : Settings) (sound : AreValid s) (old : model_state.State Content) (b place : ℕ) (r : Reclaiming) (it : model_state.Reclaim)
    (standing : IsReclaimAs s b (old.filling b) r it) (unforgotten : r.is_forgotten ≡ false) (none : r.admitted ≡ []) (offset : r.scan.blob_offset ≡ Some place) where
  -- the scan that it is
  scan_is : Scan
  scan_is = record { block = b; filling = old.filling b; sizes = sizes_in s; blob_offset = Some place }

  is_scan : r.scan ≡ scan_is
  unfolding scan_is
  is_scan = standing.scan ∙ ap (λ o. record { block = b; filling = old.filling b; sizes = sizes_in s; blob_offset = o }) offset

  -- what the model does, and what is left
  abbrev Listing : Option (List Bool) → Option (List BlobEntryIndex) → Type 0
  Listing vs found =
      (after : model_state.Reclaim)
      × Lists (machine m s sound) old b it place (option_map (map entry_of) found)
      (issued_at (machine m s sound) old b after.stage (bools vs)) (reclaiming (machine m s sound) old b after)
      × IsReclaimAs s b (old.filling b) (record {
        scan = (index_step scan_is place found).scan;
        listed = r.listed ++ map hashed_of (infos_in (index_step scan_is place found).listed);
        admitted = r.admitted ++ chosen_of vs (map hashed_of (infos_in (index_step scan_is place found).listed));
        requeued = r.requeued;
        is_forgotten = r.is_forgotten;
      }) after

  -- if the reclaim isn't forgotten
  unforgotten_stage : (o : Option ℕ) (es : List HashedEntryAddress) (stage : model_state.Stage) → IsAtRead (sizes_in s) o es stage
      → IsStageAs r.is_forgotten (sizes_in s) o (r.admitted ++ es) stage
  unforgotten_stage o es stage at =
      subst (λ t. IsStageAs t (sizes_in s) o (r.admitted ++ es) stage) (sym unforgotten)
      (subst (λ l. IsAtRead (sizes_in s) o (l ++ es) stage) (sym none) at)

  lists_none : Listing None None
  unfolding scan_is
  lists_none = (
    record it { stage = model_state.AllListed },
    (refl, refl),
    record {
      there = standing.there;
      scan = refl;
      stage = unforgotten_stage None [] model_state.AllListed refl;
      listed = λ un p. listed_more p [] it.listed r.listed [] (standing.listed unforgotten) refl;
      requeued = standing.requeued;
      count = standing.count;
    },
  )

  lists_some : (vs : List Bool) (es : List BlobEntryIndex) → length vs ≡ length (infos_of b (old.filling b) (placed place es)) → Listing (Some vs) (Some es)
  unfolding scan_is
  lists_some vs es all = (
    record it { stage = stage_behind (machine m s sound) old b place (map entry_of es) vs; listed = addresses b (old.filling b) place (map entry_of es) ++ it.listed },
    (vs, all ∙ as_many b (old.filling b) place es, refl, refl),
    record {
      there = standing.there;
      scan = refl;
      stage = unforgotten_stage (next_blob (sizes_in s) (behind (sizes_in s) place es)) (chosen vs (map hashed_of (infos_of b (old.filling b) (placed place es))))
          (stage_behind (machine m s sound) old b place (map entry_of es) vs) at_read;
      listed = λ un p. listed_more p (addresses b (old.filling b) place (map entry_of es)) it.listed r.listed (map hashed_of (infos_of b (old.filling b) (placed place es))) (standing.listed unforgotten)
          (addresses_are b (old.filling b) place es);
      requeued = standing.requeued;
      count = standing.count;
    },
  )
    where
      ours : List HashedEntryAddress
      ours = map hashed_of (infos_of b (old.filling b) (placed place es))

      at_read : IsAtRead (sizes_in s) (next_blob (sizes_in s) (behind (sizes_in s) place es)) (chosen vs (map hashed_of (infos_of b (old.filling b) (placed place es))))
          (stage_behind (machine m s sound) old b place (map entry_of es) vs)
      at_read =
          subst (λ k. IsAtRead (sizes_in s) (next_blob (sizes_in s) (behind (sizes_in s) place es)) (chosen vs (map hashed_of (infos_of b (old.filling b) (placed place es)))) k)
          (stages m s sound old (map listed_of (chosen vs (map hashed_of (infos_of b (old.filling b) (placed place es))))) (behind (sizes_in s) place es)
          ∙ ap (λ l. stage_after (machine m s sound) old l (behind (sizes_in s) place es))
          (sym (ap (λ l. admitted vs l) (addresses_are b (old.filling b) place es) ∙ admitted_is vs (map hashed_of (infos_of b (old.filling b) (placed place es)))))
          ∙ ap (λ q. stage_after (machine m s sound) old (admitted vs (addresses b (old.filling b) place (map entry_of es))) q) (sym (behind_is (sizes_in s) place es)))
          (stage_read s (chosen vs (map hashed_of (infos_of b (old.filling b) (placed place es)))) (behind (sizes_in s) place es))

  -- whatever the bytes are
  pub record IsListed (bytes : List ℕ) (vs : Option (List Bool)) : Type 0 where
    pub after : model_state.Reclaim
    pub does : Lists (machine m s sound) old b it place ((machine m s sound).entries_of place bytes)
        (issued_at (machine m s sound) old b after.stage (bools vs)) (reclaiming (machine m s sound) old b after)
    pub stands_as : IsReclaimAs s b (old.filling b) (after_index bytes vs r) after

  stepped : (bytes : List ℕ) → scan_step r.scan r.scan.blob_offset bytes ≡ index_step scan_is place (index_at (sizes_in s) place bytes)
  unfolding scan_is
  stepped bytes = ap (λ (x : Scan). scan_step x x.blob_offset bytes) is_scan

  is_listed : (bytes : List ℕ) (vs : Option (List Bool)) → Listing vs (index_at (sizes_in s) place bytes) → IsListed bytes vs
  unfolding scan_is
  is_listed bytes vs listing = record {
    after = listing.0;
    does = listing.1;
    stands_as = subst (λ x. IsReclaimAs s b (old.filling b) (record {
      scan = x.scan;
      listed = r.listed ++ map hashed_of (infos_in x.listed);
      admitted = r.admitted ++ chosen_of vs (map hashed_of (infos_in x.listed));
      requeued = r.requeued;
      is_forgotten = r.is_forgotten;
    }) listing.0) (sym (stepped bytes)) listing.2;
  }

  pub lists : (bytes : List ℕ) (vs : Option (List Bool)) → FitsList (index_infos bytes r) vs → IsListed bytes vs
  unfolding scan_is
  lists bytes vs fits =
      is_listed bytes vs (go (index_at (sizes_in s) place bytes) vs (subst (λ x. FitsList x.listed vs) (stepped bytes) fits))
    where
      go : (found : Option (List BlobEntryIndex)) (vs : Option (List Bool)) → FitsList (index_step scan_is place found).listed vs → Listing vs found
      go None None f = lists_none
      go None (Some vs) f = absurd f
      go (Some es) None f = absurd f
      go (Some es) (Some vs) f = lists_some vs es f

  -- and it has such verdicts
  pub would_list : (bytes : List ℕ) → (vs : Option (List Bool)) × IsListed bytes vs
  unfolding scan_is
  would_list bytes =
      let found : (vs : Option (List Bool)) × Listing vs (index_at (sizes_in s) place bytes) = go (index_at (sizes_in s) place bytes) in
      (found.0, is_listed bytes found.0 found.1)
    where
      go : (found : Option (List BlobEntryIndex)) → (vs : Option (List Bool)) × Listing vs found
      go None = (None, lists_none)
      go (Some es) = (
        Some (replicate (length (infos_of b (old.filling b) (placed place es))) false),
        lists_some (replicate (length (infos_of b (old.filling b) (placed place es))) false) es (copies (length (infos_of b (old.filling b) (placed place es))) false),
      )
