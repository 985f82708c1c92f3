-- Reclaims.
use Rattle.std.specs.Prelude.{◌≡◌, ◌≢◌, ℕ, suc, zero, ◌+◌, ◌<◌, ◌≤◌, ◌==◌, nat_le, nat_lt, Bool, true, false, ◌&&◌, ◌||◌, if◌then◌else◌, List, [], ◌∷◌, ◌++◌, length, take, Option, Some, None, ◌⊎◌}
use Rattle.foyer_core_model.specs.Numbers.{put, last_number}
use Rattle.foyer_core_model.specs.Record.{Address, IndexEntry}
use Rattle.foyer_core_model.specs.Index.{is_same, forgotten}
use Rattle.foyer_core_model.specs.State.{Reinsert, BlockSet, Clean, Writes, Evictable, Reclaims, Stats, no_stats, Stage, AtIndex, AtRecord, AllListed, ToClean, Reclaim, State}
use Rattle.foyer_core_model.specs.Rules.{Rules, flusher_of}
use Rattle.foyer_core_model.specs.Step.{ReadResult, Bytes, Fault}
use Rattle.foyer_core_model.specs.Reply.{Reply, Picked, Scans, Listed, Cleans, Done, Answer}
use Rattle.foyer_core_model.specs.Queue.{queued}
use Rattle.foyer_core_model.specs.Flush.{is_some, is_cleaning, usable_count}

-- how many of the first n blocks are being reclaimed
abbrev pub running : ℕ → (ℕ → Option Reclaim) → ℕ
running zero reclaims = 0
running (suc n) reclaims = (if is_some (reclaims n) then 1 else 0) + running n reclaims

-- whether it is the evictable set
abbrev pub is_evictable : BlockSet → Bool
is_evictable Clean = false
is_evictable (Writes f) = false
is_evictable Evictable = true
is_evictable Reclaims = false

-- a picker's answer that is an evictable block; another is no pick
abbrev pub is_pick : ℕ → (ℕ → BlockSet) → Option ℕ → Bool
is_pick blocks place None = false
is_pick blocks place (Some b) = nat_lt b blocks && is_evictable (place b)

-- the first pick among the answers
abbrev pub first_pick : ℕ → (ℕ → BlockSet) → List (Option ℕ) → Option ℕ
first_pick blocks place [] = None
first_pick blocks place (answer ∷ answers) = if is_pick blocks place answer then answer else first_pick blocks place answers

-- So many pickers are asked in order, all of them or up to the first pick.
abbrev pub are_asked : (pickers blocks : ℕ) → (ℕ → BlockSet) → List (Option ℕ) → Bool
are_asked zero blocks place [] = true
are_asked (suc n) blocks place [] = false
are_asked zero blocks place (answer ∷ answers) = false
are_asked (suc n) blocks place (answer ∷ []) = is_pick blocks place answer || n == 0
are_asked (suc n) blocks place (answer ∷ next ∷ answers) = if is_pick blocks place answer then false else are_asked n blocks place (next ∷ answers)

-- pickers put evictable blocks on probation
abbrev pub marked : List ℕ → (ℕ → BlockSet) → (ℕ → Stats) → ℕ → Stats
marked [] place stats = stats
marked (b ∷ bs) place stats = marked bs place (if is_evictable (place b) then put stats b (record (stats b) { probation = true }) else stats)

-- the very address is listed under its hash
abbrev pub is_listed : ℕ × Address → List (ℕ × Address) → Bool
is_listed p [] = false
is_listed p (q ∷ qs) = (p.0 == q.0 && is_same p.1 q.1) || is_listed p qs

-- what was listed, less what was queued for reinsertion
abbrev pub not_among : List (ℕ × Address) → List (ℕ × Address) → List (ℕ × Address)
not_among requeued [] = []
not_among requeued (p ∷ ps) = if is_listed p requeued then not_among requeued ps else p ∷ not_among requeued ps

-- what an index at a place lists, as addresses of its block in a filling
abbrev pub addresses : (block filling place : ℕ) → List IndexEntry → List (ℕ × Address)
addresses block filling place [] = []
addresses block filling place (e ∷ es) =
    (e.hash, record { block = block; offset = place + e.offset; len = e.len; sequence = e.sequence; filling = filling }) ∷ addresses block filling place es

-- those that the filter admits
abbrev pub admitted : List Bool → List (ℕ × Address) → List (ℕ × Address)
admitted (true ∷ vs) (p ∷ ps) = p ∷ admitted vs ps
admitted (false ∷ vs) (p ∷ ps) = admitted vs ps
admitted vs ps = []

-- the place behind the last record of an index, at which the next index may stand
abbrev pub place_behind : (ℕ → ℕ) → (block_size place : ℕ) → List IndexEntry → ℕ
place_behind page_up block_size place [] = place + block_size
place_behind page_up block_size place (e ∷ []) = place + e.offset + page_up e.len
place_behind page_up block_size place (e ∷ f ∷ es) = place_behind page_up block_size place (f ∷ es)

module _ {C : Type 0} (rules : Rules C) (old : State C) where
  -- A reclaim may begin if blocks are wanted, a reclaimer is free, a block is evictable, and no destroy cleans.
  pub record MayReclaim : Type 0 where
    pub wanted : (usable_count old.filling old.clean < rules.clean_threshold) ⊎ (old.waiting ≢ [])
    pub free : running rules.blocks old.reclaims < rules.reclaimers
    pub some_block : (b : ℕ) × (b < rules.blocks) × (old.place b ≡ Evictable)
    pub quiet : is_cleaning old.destroy ≡ false

  -- The first pick, else any evictable block. No rule sets the number of pickers: each step borrows them anew, and
  -- as many are judged as have answered.
  abbrev pub Picks : Reply C → State C → Type 0
  Picks (Picked b answers probation) new =
      (b < rules.blocks) × (old.place b ≡ Evictable) × (are_asked (length answers) rules.blocks old.place answers ≡ true)
      × ((c : ℕ) → first_pick rules.blocks old.place answers ≡ Some c → b ≡ c)
      × (new ≡ record old {
        place = put old.place b Reclaims;
        reclaims = put old.reclaims b (Some (record { stage = AtIndex 0; listed = []; requeued = [] }));
        stats = marked probation old.place old.stats;
      })
  Picks reply new = ⊥

  -- how a reclaim goes on, with these records yet to be read and the next index at a place
  abbrev pub stage_after : List (ℕ × Address) → ℕ → Stage
  stage_after [] place = if nat_le (place + rules.index_size) rules.block_size then AtIndex place else AllListed
  stage_after (p ∷ ps) place = AtRecord p.0 p.1 ps place

  -- the read that it issues
  abbrev pub issued_at : ℕ → Stage → List Bool → Reply C
  issued_at b (AtIndex place) verdicts = Scans b place rules.index_size verdicts
  issued_at b (AtRecord h a rest place) verdicts = Scans b a.offset a.len verdicts
  issued_at b AllListed verdicts = Listed verdicts
  issued_at b ToClean verdicts = Listed verdicts

  -- the reclaim of a block goes on
  abbrev pub reclaiming : ℕ → Reclaim → State C
  reclaiming b r = record old { reclaims = put old.reclaims b (Some r) }

  -- the stage behind an index, if the filter gave these verdicts
  abbrev pub stage_behind : ℕ → ℕ → List IndexEntry → List Bool → Stage
  stage_behind b place es verdicts =
      stage_after (admitted verdicts (addresses b (old.filling b) place es)) (place_behind rules.page_up rules.block_size place es)

  -- an index is listed and the filter is asked for each entry; one that isn't sealed or doesn't fit ends the listing
  abbrev pub Lists : ℕ → Reclaim → ℕ → Option (List IndexEntry) → Reply C → State C → Type 0
  Lists b r place None reply new = (reply ≡ Listed []) × (new ≡ reclaiming b (record r { stage = AllListed }))
  Lists b r place (Some es) reply new =
      (verdicts : List Bool) × (length verdicts ≡ length es)
      × (reply ≡ issued_at b (stage_behind b place es verdicts) verdicts)
      × (new ≡ reclaiming b (record r { stage = stage_behind b place es verdicts; listed = addresses b (old.filling b) place es ++ r.listed }))

  -- a fault ends the listing; the n-th record that is read is queued for reinsertion at the n-th flusher, in turn
  abbrev pub Scanned : ℕ → Reclaim → Stage → ReadResult → Reply C → State C → Type 0
  Scanned b r (AtIndex place) Fault reply new = (reply ≡ Listed []) × (new ≡ reclaiming b (record r { stage = AllListed }))
  Scanned b r (AtRecord h a rest place) Fault reply new = (reply ≡ Listed []) × (new ≡ reclaiming b (record r { stage = AllListed }))
  Scanned b r (AtIndex place) (Bytes bs) reply new = Lists b r place (rules.entries_of place bs) reply new
  Scanned b r (AtRecord h a rest place) (Bytes bs) reply new =
      (reply ≡ issued_at b (stage_after rest place) [])
      × (new ≡ record (queued rules old (flusher_of rules (length r.requeued)) (Reinsert h (take a.len bs) a)) {
        reclaims = put old.reclaims b (Some (record r { stage = stage_after rest place; requeued = (h, a) ∷ r.requeued }));
      })
  Scanned b r stage came reply new = ⊥

  -- a read for the reclaim of a block
  abbrev pub Rereads : ℕ → Option Reclaim → ReadResult → Reply C → State C → Type 0
  Rereads b None came reply new = ⊥
  Rereads b (Some r) came reply new = Scanned b r r.stage came reply new

  -- what was listed and isn't queued for reinsertion leaves the index
  abbrev pub Forgets : ℕ → Option Reclaim → Reply C → State C → Type 0
  Forgets b (Some r) (Cleans d) new =
      (d ≡ b)
      × (new ≡ record old {
        index = forgotten (not_among r.requeued r.listed) old.index;
        reclaims = put old.reclaims b (Some (record r { stage = ToClean }));
      })
  Forgets b r reply new = ⊥

  -- the reclaim ends
  abbrev pub reclaimed : ℕ → State C
  reclaimed b = record old { reclaims = put old.reclaims b None; stats = put old.stats b no_stats }

  -- The block goes to the flusher that began to wait last, else it is clean. A failed clean counts too.
  abbrev pub Cleaned : ℕ → Reply C → State C → Type 0
  Cleaned b Done new =
      ((f : ℕ) × (others : List ℕ) × (old.waiting ≡ others ++ f ∷ []) × (old.filling b < last_number)
      × (new ≡ record (reclaimed b) {
        waiting = others;
        place = put old.place b (Writes f);
        filling = put old.filling b (old.filling b + 1);
        flushers = put old.flushers f (record (old.flushers f) { ready = Some b });
      }))
      ⊎ (((old.waiting ≡ []) ⊎ (last_number ≤ old.filling b))
      × (new ≡ record (reclaimed b) { place = put old.place b Clean; clean = old.clean ++ b ∷ [] }))
  Cleaned b reply new = ⊥

  -- whether no reclaim runs
  abbrev pub Idles : Reply C → State C → Type 0
  Idles reply new = (reply ≡ Answer (running rules.blocks old.reclaims == 0)) × (new ≡ old)
