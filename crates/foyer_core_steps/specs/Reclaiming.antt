-- The reclaims that a core runs, and which of the model's they stand for.
use Rattle.std.specs.Prelude.{◌≡◌, ℕ, ◌<◌, ◌==◌, Bool, true, false, not, ◌&&◌, if◌then◌else◌, is_none, List, [], ◌∷◌, ◌++◌, map, length, Option, Some, None, nat_eq, IsTrue, ◌↔◌}
use Rattle.std.specs.List.{filter, list_any, AllZip}
use Rattle.std.specs.HashMap.{HashMap, get}
use Rattle.std.specs.Option.{option_map}
use Rattle.std.specs.declared.hash.BuildHasherDefault.{BuildHasherDefault}
use Rattle.std.specs.declared.hash.FoldHasher.{FoldHasher}
use Rattle.std.specs.declared.vec.Vec.{Vec}
use Rattle.foyer_block_index.specs.Removal.{same_address}
use Rattle.foyer_block_index.specs.declared.indexer.HashedEntryAddress.{HashedEntryAddress}
use Rattle.foyer_format_layout.specs.Position.{Sizes}
use Rattle.foyer_policy_filter.specs.Verdict.{IsAdmit, AreAnswers, IsVerdict}
use Rattle.foyer_policy_filter.specs.declared.verdict.StorageFilterResult.{StorageFilterResult}
use Rattle.foyer_core_model.specs.Record as model_record
use Rattle.foyer_core_model.specs.Reclaim.{is_listed}
use Rattle.foyer_core_model.specs.State as model_state
use Rattle.foyer_core_flusher.specs.Sizes.{sizes_in}
use Rattle.foyer_core_flusher.specs.Settings.{Settings}
use Rattle.foyer_block_scan.specs.Scan.{next_blob, scan_step, scan_end}
use Rattle.foyer_block_scan.specs.ScanRun.{infos_in}
use Rattle.foyer_block_scan.specs.ScanState.{Scan}
use Rattle.foyer_block_scan.specs.declared.block.scanner.EntryInfo.{EntryInfo}
use Rattle.foyer_block_manager.specs.BlockSets.{is_reclaimed}
use Rattle.foyer_core_flusher.specs.Addresses.{address_of, listed_of}
use Rattle.foyer_device_statistics.specs.declared.state.IoState.{IoState}
use Rattle.foyer_core_steps.specs.declared.block.reclaimer.Reclaimer.{Reclaimer}
use Rattle.foyer_core_steps.specs.declared.block.reclaimer.Wanted.{Wanted}
use Rattle.foyer_core_steps.specs.declared.block.reclaimer.Wanted.TheVariants as wanted

-- what a reclaim has, whatever room its lists have: its scan, what that listed, the admitted records that are yet to be read,
-- those that were queued for reinsertion, and whether the others left the index
pub record Reclaiming : Type 0 where
  pub scan : Scan
  pub listed : List HashedEntryAddress
  pub admitted : List HashedEntryAddress
  pub requeued : List HashedEntryAddress
  pub is_forgotten : Bool

abbrev pub reclaiming : {A : Type 0} → Reclaimer A → Reclaiming
reclaiming r = record {
  scan = r.scanner;
  listed = r.lists.listed.items;
  admitted = r.lists.admitted.items;
  requeued = r.lists.requeued.items;
  is_forgotten = r.is_forgotten;
}

-- the reclaims by their blocks
abbrev pub Reclaims : Type 0 → Type 0
Reclaims A = HashMap ℕ (Reclaimer A) (BuildHasherDefault FoldHasher)

-- that of a block, if one runs
abbrev pub reclaim_at : {A : Type 0} → Reclaims A → ℕ → Option Reclaiming
reclaim_at reclaims b = option_map reclaiming (get nat_eq reclaims b)

-- a block's reclaim is this from now on, and the others are as they were
abbrev pub ChangesReclaim : {A : Type 0} → Reclaims A → Reclaims A → ℕ → Option Reclaiming → Type 0
ChangesReclaim old new b r = (q : ℕ) → reclaim_at new q ≡ (if nat_eq q b then r else reclaim_at old q)

-- all are as they were
abbrev pub KeepsReclaim : {A : Type 0} → Reclaims A → Reclaims A → Type 0
KeepsReclaim old new = (q : ℕ) → reclaim_at new q ≡ reclaim_at old q

-- one that begins, in a filling of a block
abbrev pub first_reclaim : (block filling : ℕ) → Sizes → Reclaiming
first_reclaim b n sizes = record {
  scan = record { block = b; filling = n; sizes = sizes; blob_offset = next_blob sizes 0 };
  listed = [];
  admitted = [];
  requeued = [];
  is_forgotten = false;
}

-- the index at the place of a scan, which is read once no record is
abbrev pub index_wanted : Option ℕ → Option Wanted
index_wanted None = None
index_wanted (Some p) = Some (wanted.Index p)

-- the first of the admitted records is read, else an index
abbrev pub read_of : List HashedEntryAddress → Option ℕ → Option Wanted
read_of [] offset = index_wanted offset
read_of (e ∷ es) offset = Some (wanted.Record e)

-- what it reads next, until all is listed and read
abbrev pub wanted_of : Reclaiming → Option Wanted
wanted_of r = if r.is_forgotten then None else read_of r.admitted r.scan.blob_offset

-- all is listed and read, and nothing has left the index yet
abbrev pub is_all_listed : Reclaiming → Bool
is_all_listed r = not r.is_forgotten && (length r.admitted == 0) && is_none r.scan.blob_offset

-- of the reclaim of a block, if one runs
abbrev pub awaited : Option Reclaiming → Option Wanted
awaited None = None
awaited (Some r) = wanted_of r

abbrev pub may_forget : Option Reclaiming → Bool
may_forget None = false
may_forget (Some r) = is_all_listed r

abbrev pub may_clean : Option Reclaiming → Bool
may_clean None = false
may_clean (Some r) = r.is_forgotten

abbrev pub hashed_of : EntryInfo → HashedEntryAddress
hashed_of info = record { hash = info.hash; address = info.addr }

-- what the bytes of an index list
abbrev pub index_infos : List ℕ → Reclaiming → Option (List EntryInfo)
index_infos bytes r = (scan_step r.scan r.scan.blob_offset bytes).listed

-- those of a list that have a verdict which admits them
abbrev pub chosen : {X : Type 0} → List Bool → List X → List X
chosen (true ∷ vs) (x ∷ xs) = x ∷ chosen vs xs
chosen (false ∷ vs) (x ∷ xs) = chosen vs xs
chosen vs xs = []

-- the same for verdicts that may be missing: if there are none, nothing is chosen
abbrev pub chosen_of : Option (List Bool) → List HashedEntryAddress → List HashedEntryAddress
chosen_of None es = []
chosen_of (Some vs) es = chosen vs es

-- what came for an index: its entries are listed behind those before, and the admitted ones are to be read
abbrev pub after_index : List ℕ → Option (List Bool) → Reclaiming → Reclaiming
after_index bytes vs r = record {
  scan = (scan_step r.scan r.scan.blob_offset bytes).scan;
  listed = r.listed ++ map hashed_of (infos_in (index_infos bytes r));
  admitted = r.admitted ++ chosen_of vs (map hashed_of (infos_in (index_infos bytes r)));
  requeued = r.requeued;
  is_forgotten = r.is_forgotten;
}

-- a verdict on an entry: whether an answer that the filter may give of its hash and its length admits it; without a filter none is admitted
abbrev pub IsVerdictOn : {Q : Type 0} → (Q → IoState → ℕ → ℕ → StorageFilterResult → Type 0) → Option (List Q) → IoState → EntryInfo → Bool → Type 0
IsVerdictOn may None io info verdict = verdict ≡ false
IsVerdictOn may (Some filter) io info verdict =
    (answer : StorageFilterResult) × (IsTrue verdict ↔ IsAdmit answer)
    × ((answers : List StorageFilterResult)
    × AreAnswers (λ c a. may c io info.hash (info.addr).len a) filter answers
    × IsVerdict answers answer)

-- one on each of a list
abbrev pub HasVerdicts : {Q : Type 0} → (Q → IoState → ℕ → ℕ → StorageFilterResult → Type 0) → Option (List Q) → IoState → List EntryInfo → List Bool → Type 0
HasVerdicts may filter io infos vs = AllZip (IsVerdictOn may filter io) infos vs

-- an index has one verdict on each of its entries; if the bytes are no index, there are no verdicts
abbrev pub IsReread : {Q : Type 0} → (Q → IoState → ℕ → ℕ → StorageFilterResult → Type 0) → Option (List Q) → IoState → Option (List EntryInfo) → Option (List Bool) → Type 0
IsReread may filter io None None = Unit {0}
IsReread may filter io (Some infos) (Some vs) = HasVerdicts may filter io infos vs
IsReread may filter io infos vs = ⊥

-- the very entry
abbrev pub is_entry : HashedEntryAddress → HashedEntryAddress → Bool
is_entry e other = e.hash == other.hash && same_address e.address other.address

-- a list has it
abbrev pub is_entry_among : List HashedEntryAddress → HashedEntryAddress → Bool
is_entry_among entries e = list_any (is_entry e) entries

-- what is left of a list without those
abbrev pub left_in : List HashedEntryAddress → List HashedEntryAddress → List HashedEntryAddress
left_in requeued listed = filter (λ e. not (is_entry_among requeued e)) listed

-- a record was read, and is queued for reinsertion
abbrev pub requeue_first : List HashedEntryAddress → Reclaiming → Reclaiming
requeue_first [] r = r
requeue_first (e ∷ es) r = record r { admitted = es; requeued = r.requeued ++ e ∷ [] }

abbrev pub after_record : Reclaiming → Reclaiming
after_record r = requeue_first r.admitted r

abbrev pub requeue_count : Reclaiming → ℕ
requeue_count r = length r.requeued

-- its read failed: nothing more is listed or read
abbrev pub after_fault : Reclaiming → Reclaiming
after_fault r = record r { scan = (scan_end r.scan).scan; admitted = [] }

abbrev pub after_forget : Reclaiming → Reclaiming
after_forget r = record r { listed = left_in r.requeued r.listed; is_forgotten = true }

-- the lists of verdicts that replies carry
abbrev pub verdict_list : {A : Type 0} → Option (Vec Bool A) → Option (List Bool)
verdict_list verdicts = option_map (λ v. v.items) verdicts

abbrev pub verdicts_of : {A : Type 0} → Option (Vec Bool A) → List Bool
verdicts_of None = []
verdicts_of (Some v) = v.items

-- how far the model's reclaim is if it reads no record
abbrev pub at_offset : Option ℕ → model_state.Stage
at_offset None = model_state.AllListed
at_offset (Some p) = model_state.AtIndex p

-- The model's reclaim reads these records. Then it reads the index at a place, if an index has room there.
pub record ReadsRecords (sizes : Sizes) (offset : Option ℕ) (e : HashedEntryAddress) (es : List HashedEntryAddress) (stage : model_state.Stage) : Type 0 where
  pub place : ℕ
  pub is : stage ≡ model_state.AtRecord e.hash (address_of e.address) (map listed_of es) place
  pub at : offset ≡ next_blob sizes place

abbrev pub IsAtRead : Sizes → Option ℕ → List HashedEntryAddress → model_state.Stage → Type 0
IsAtRead sizes offset [] stage = stage ≡ at_offset offset
IsAtRead sizes offset (e ∷ es) stage = ReadsRecords sizes offset e es stage

-- and then it cleans
abbrev pub IsStageAs : (is_forgotten : Bool) → Sizes → Option ℕ → List HashedEntryAddress → model_state.Stage → Type 0
IsStageAs true sizes offset es stage = stage ≡ model_state.ToClean
IsStageAs false sizes offset es stage = IsAtRead sizes offset es stage

-- how far the model's is
abbrev pub IsStageOf : Sizes → Reclaiming → model_state.Stage → Type 0
IsStageOf sizes r stage = IsStageAs r.is_forgotten sizes r.scan.blob_offset r.admitted stage

-- A reclaim of a block is the model's: it scans the block in its filling, lists the same until that leaves the index, and has
-- queued the same for reinsertion, each in whatever order.
pub record IsReclaimAs (s : Settings) (block filling : ℕ) (r : Reclaiming) (it : model_state.Reclaim) : Type 0 where
  pub there : block < s.blocks
  pub scan : r.scan ≡ record { block = block; filling = filling; sizes = sizes_in s; blob_offset = r.scan.blob_offset }
  pub stage : IsStageOf (sizes_in s) r it.stage
  pub listed : r.is_forgotten ≡ false → (p : ℕ × model_record.Address) → is_listed p it.listed ≡ is_listed p (map listed_of r.listed)
  pub requeued : (p : ℕ × model_record.Address) → is_listed p it.requeued ≡ is_listed p (map listed_of r.requeued)
  pub count : length it.requeued ≡ length r.requeued

-- a reclaim runs exactly if the block is reclaimed
abbrev pub AreReclaimAs : Settings → (block : ℕ) → model_state.BlockSet → (filling : ℕ) → Option Reclaiming → Option model_state.Reclaim → Type 0
AreReclaimAs s b place filling None None = is_reclaimed place ≡ false
AreReclaimAs s b place filling (Some r) (Some it) = (is_reclaimed place ≡ true) × IsReclaimAs s b filling r it
AreReclaimAs s b place filling r it = ⊥
