-- Each right keeps its part.
use Rattle.std.proofs.Common.{◌≡◌, ℕ, ◌<◌, Bool, true, false, true≢false, if◌then◌else◌, List, Option, Some, None, refl, sym, ap, ◌∙◌, subst, arith}
use Rattle.foyer_core_model.proofs.Basics.{put_other, put_at}
use Rattle.foyer_core_model.specs.Ids.{is_id_in}
use Rattle.foyer_core_model.specs.Numbers.{put}
use Rattle.foyer_core_model.specs.Kept.{unless}
use Rattle.foyer_core_model.specs.State.{State}
use Rattle.foyer_core_model.specs.Event.{Event}
use Rattle.foyer_core_model.specs.Step.{Ticket, Step, FlushBlock, FlushWrote, ReclaimBegin, ReclaimRead, ReclaimForget, ReclaimCleaned, DestroyClear, DestroyCleaned}
use Rattle.foyer_core_model.specs.Reply.{Reply, Read, Written, Next, Committed, Failed, Picked, Scans, Listed, Cleans, Cleared, Done, Destroyed}
use Rattle.foyer_core_model.specs.Access.{BlockWrites, ReadState, ReadIssued, Reading, ReadDone, Load, Scan, load_unless, loads_after, issued_after, block_writes_after, begun, read_torn, came, at_load, at_scan, scans_after, will_cover, clean_will_cover, CleanState, CleanIssued, cleans_after}
use Rattle.foyer_core_model.specs.World.{World, covers}
use Rattle.foyer_core_rights.specs.Deeds.{Steps, ReadsAt, ScansAt, WritesAt, CleansAt, IsOfWrites, IsOfScan, IsOfClean, IssuesClean, PicksBlock, takes_block, after_deed}
use Rattle.foyer_core_rights.specs.Frames.{IsSettled, HasLoad, HasBlock, FramesHold}

-- a read that is not under way isn't torn
torn_settled : (f : ℕ → ℕ → Bool) (b : ℕ) (state : ReadState) → IsSettled state → read_torn f b state ≡ state
torn_settled f b ReadIssued calm = refl
torn_settled f b (Reading seen) calm = absurd calm
torn_settled f b (ReadDone result) calm = refl

-- a read for a reclaim that is not under way isn't torn
torn_scan : (f : ℕ → ℕ → Bool) (b : ℕ) (o : Option Scan) (s : Scan) → IsSettled s.read_state → o ≡ Some s → at_scan (read_torn f) b o ≡ Some s
torn_scan f b o s calm is = ap (at_scan (read_torn f) b) is ∙ ap (λ (state : ReadState). Some (record s { read_state = state })) (torn_settled f b s.read_state calm)

put_twice : {X : Type 0} (m : ℕ → X) (k : ℕ) (x y : X) (q : ℕ) → (q ≡ k → ⊥) → put (put m k x) k y q ≡ m q
put_twice m k x y q ne = put_other (put m k x) k y q ne ∙ put_other m k x q ne

if_same : {X : Type 0} (b : Bool) (x y : X) → y ≡ x → (if b then x else y) ≡ x
if_same true x y is = refl
if_same false x y is = is

if_not : {X : Type 0} (b : Bool) (x y : X) → (b ≡ true → ⊥) → (if b then x else y) ≡ y
if_not true x y is = absurd (is refl)
if_not false x y is = refl

module _ {C : Type 0} where
  torn_kept : (w u : World C) (f : ℕ → ℕ → Bool) (n : ℕ) (t : Ticket) (promise : Option (Event C)) (state : ReadState) → u.issued ≡ w.issued
      → u.loads n ≡ at_load (read_torn f) (w.loads n) → IsSettled state → HasLoad w n t promise state → HasLoad u n t promise state
  torn_kept w u f n t promise state same is calm h = record {
    load = record h.load { read_state = read_torn f h.load.ticket.address.block h.load.read_state };
    at = is ∙ ap (at_load (read_torn f)) h.at;
    below = subst (λ (k : ℕ). n < k) (sym same) h.below;
    ticket = h.ticket;
    promise = h.promise;
    read_state = ap (read_torn f h.load.ticket.address.block) h.read_state ∙ torn_settled f h.load.ticket.address.block state calm;
  }

  same_kept : (w u : World C) (n : ℕ) (t : Ticket) (promise : Option (Event C)) (state : ReadState) → u.issued ≡ w.issued → u.loads n ≡ w.loads n → HasLoad w n t promise state → HasLoad u n t promise state
  same_kept w u n t promise state same is h =
      record { load = h.load; at = is ∙ h.at; below = subst (λ (k : ℕ). n < k) (sym same) h.below; ticket = h.ticket; promise = h.promise; read_state = h.read_state }

  -- a step's reply keeps a load that was issued, except what is kept of its block
  pub step_kept : (reply : Reply C) (H : List (Event C)) (kept : ℕ → Option ℕ) (issued : ℕ) (loads : ℕ → Option (Load C)) (n : ℕ) (l : Load C) → n < issued → loads n ≡ Some l
      → (k : Load C) × (loads_after reply H kept issued loads n ≡ Some k) × (k.ticket ≡ l.ticket) × (k.promise ≡ l.promise) × (k.read_state ≡ l.read_state)
  step_kept (Read t) H kept issued loads n l below at = (l, put_other loads issued _ n (λ same. omega arith) ∙ at, refl, refl, refl)
  step_kept (Picked b answers probation) H kept issued loads n l below at = (_, ap (load_unless _) at, refl, refl, refl)
  step_kept (Cleared bs) H kept issued loads n l below at = (_, ap (load_unless _) at, refl, refl, refl)
  step_kept reply H kept issued loads n l below at = (l, at, refl, refl, refl)

  -- it has its block yet
  abbrev Kept : Option (Load C) → ℕ → Type 0
  Kept o b = (l : Load C) × (o ≡ Some l) × (l.kept ≡ Some b)

  block_kept : (reply : Reply C) (H : List (Event C)) (kept : ℕ → Option ℕ) (issued : ℕ) (loads : ℕ → Option (Load C)) (n b : ℕ) → n < issued → takes_block b reply ≡ false → Kept (loads n) b
      → Kept (loads_after reply H kept issued loads n) b
  block_kept (Read t) H kept issued loads n b below free (l, at, is) = (l, put_other loads issued _ n (λ same. omega arith) ∙ at, is)
  block_kept (Picked c answers probation) H kept issued loads n b below free (l, at, is) =
      (record l { kept = unless c l.kept }, ap (load_unless (unless c)) at, ap (unless c) is ∙ ap (λ (t : Bool). if t then None else Some b) free)
  block_kept (Cleared bs) H kept issued loads n b below free k = absurd (true≢false free)
  block_kept reply H kept issued loads n b below free k = k

  kept_at : (f : ℕ → ReadState → ReadState) (o : Option (Load C)) (b : ℕ) → Kept o b → Kept (at_load f o) b
  kept_at f o b (l, at, is) = (record l { read_state = f l.ticket.address.block l.read_state }, ap (at_load f) at, is)

  kept_one : (loads : ℕ → Option (Load C)) (k : ℕ) (f : ℕ → ReadState → ReadState) (n b : ℕ) → Kept (loads n) b → Kept (put loads k (at_load f (loads k)) n) b
  kept_one loads k f n b h =
      put_at (λ o. Kept o b) loads k (at_load f (loads k)) n (λ at. kept_at f (loads k) b (h.0, ap loads (sym at) ∙ h.1, h.2)) (λ _. h)

  has_kept : (u : World C) (n b : ℕ) → n < u.issued → Kept (u.loads n) b → HasBlock u n b
  has_kept u n b below k = record { load = k.0; at = k.1; below = below; kept = k.2 }

  of_writes : (reply : Reply C) (step : Step C) (f : ℕ) (block_writes : ℕ → BlockWrites) → (IsOfWrites step reply f → ⊥) → block_writes_after reply step block_writes f ≡ block_writes f
  of_writes (Written b ws) (FlushBlock g) f block_writes free = put_other block_writes g _ f (λ e. free (sym e))
  of_writes Next (FlushWrote g ok) f block_writes free = put_other block_writes g _ f (λ e. free (sym e))
  of_writes (Committed n) (FlushWrote g ok) f block_writes free = put_other block_writes g _ f (λ e. free (sym e))
  of_writes Failed (FlushWrote g ok) f block_writes free = put_other block_writes g _ f (λ e. free (sym e))
  of_writes reply step f block_writes free = refl

  issued_grows : (reply : Reply C) (issued n : ℕ) → n < issued → n < issued_after reply issued
  issued_grows (Read t) issued n below = omega arith
  issued_grows reply issued n below = below

  of_cleans : (reply : Reply C) (step : Step C) (b : ℕ) (states : ℕ → CleanState) → (IsOfClean step b → ⊥) → states b ≡ CleanIssued → cleans_after reply step states b ≡ CleanIssued
  of_cleans (Cleans d) (ReclaimForget c) b states free h = put_at (λ x. x ≡ CleanIssued) states c CleanIssued b (λ _. refl) (λ _. h)
  of_cleans Done (ReclaimCleaned c ok) b states free h = put_other states c _ b (λ e. free (sym e)) ∙ h
  of_cleans (Cleared bs) DestroyClear b states free h = if_same (is_id_in b bs) CleanIssued (states b) h
  of_cleans Done (DestroyCleaned c fault) b states free h = put_other states c _ b (λ e. free (sym e)) ∙ h
  of_cleans (Destroyed well) (DestroyCleaned c fault) b states free h = put_other states c _ b (λ e. free (sym e)) ∙ h
  of_cleans reply step b states free h = h

  of_done : (reply : Reply C) (step : Step C) (new : State C) (b : ℕ) (states : ℕ → CleanState) → (IsOfClean step b → ⊥) → (IssuesClean (Steps step reply new) b → ⊥) → cleans_after reply step states b ≡ states b
  of_done (Cleans d) (ReclaimForget c) new b states free again = put_other states c _ b (λ e. again (sym e))
  of_done Done (ReclaimCleaned c ok) new b states free again = put_other states c _ b (λ e. free (sym e))
  of_done (Cleared bs) DestroyClear new b states free again = if_not (is_id_in b bs) CleanIssued (states b) again
  of_done Done (DestroyCleaned c fault) new b states free again = put_other states c _ b (λ e. free (sym e))
  of_done (Destroyed well) (DestroyCleaned c fault) new b states free again = put_other states c _ b (λ e. free (sym e))
  of_done reply step new b states free again = refl

  of_scans : (index_size : ℕ) (reply : Reply C) (step : Step C) (b : ℕ) (scans : ℕ → Option Scan) → (IsOfScan step b → ⊥) → (PicksBlock reply b → ⊥) → scans_after index_size reply step scans b ≡ scans b
  of_scans index_size (Picked c answers probation) ReclaimBegin b scans free again = put_other scans c _ b (λ e. again (sym e))
  of_scans index_size (Scans d o n verdicts) (ReclaimRead c result) b scans free again = put_other scans c _ b (λ e. free (sym e))
  of_scans index_size (Listed verdicts) (ReclaimRead c result) b scans free again = put_other scans c _ b (λ e. free (sym e))
  of_scans index_size reply step b scans free again = refl

  pub frames : FramesHold C
  frames rules w (Steps step reply new) = record {
    core = λ free. absurd (free tt);
    history = λ free. absurd (free tt);
    disk = λ free. refl;
    writes = λ f free. of_writes reply step f w.block_writes free;
    scans = λ b s calm free again h. of_scans rules.index_size reply step b w.scans free again ∙ h;
    cleans = λ b free h. of_cleans reply step b w.clean_states free h;
    cleaned = λ b ok free again h. of_done reply step new b w.clean_states free again ∙ h;
    loads = λ n t promise state calm free h.
        let k = step_kept reply w.history w.kept w.issued w.loads n h.load h.below h.at in record {
          load = k.0;
          at = k.1;
          below = issued_grows reply w.issued n h.below;
          ticket = k.2 ∙ h.ticket;
          promise = k.3 ∙ h.promise;
          read_state = k.4 ∙ h.read_state;
        };
    blocks = λ n b free h.
        has_kept (after_deed rules w (Steps step reply new)) n b (issued_grows reply w.issued n h.below)
        (block_kept reply w.history w.kept w.issued w.loads n b h.below free (h.load, h.at, h.kept));
  }
  frames rules w (ReadsAt m result) = record {
    core = λ free. refl;
    history = λ free. refl;
    disk = λ free. absurd (free tt);
    writes = λ f free. refl;
    scans = λ b s calm free again h. h;
    cleans = λ b free h. h;
    cleaned = λ b ok free again h. h;
    loads = λ n t promise state calm free h. same_kept w (after_deed rules w (ReadsAt m result)) n t promise state refl (put_twice w.loads m _ _ n (λ e. free (sym e))) h;
    blocks = λ n b free h.
        has_kept (after_deed rules w (ReadsAt m result)) n b h.below
        (kept_one (put w.loads m (at_load (begun (covers rules w)) (w.loads m))) m (λ _. came result) n b
        (kept_one w.loads m (begun (covers rules w)) n b (h.load, h.at, h.kept)));
  }
  frames rules w (ScansAt d result) = record {
    core = λ free. refl;
    history = λ free. refl;
    disk = λ free. absurd (free tt);
    writes = λ f free. refl;
    scans = λ b s calm free again h. put_twice w.scans d _ _ b (λ e. free (sym e)) ∙ h;
    cleans = λ b free h. h;
    cleaned = λ b ok free again h. h;
    loads = λ n t promise state calm free h. same_kept w (after_deed rules w (ScansAt d result)) n t promise state refl refl h;
    blocks = λ n c free h. has_kept (after_deed rules w (ScansAt d result)) n c h.below (h.load, h.at, h.kept);
  }
  frames rules w (WritesAt g ok torn) = record {
    core = λ free. refl;
    history = λ free. refl;
    disk = λ free. absurd (free tt);
    writes = λ f free. put_twice w.block_writes g _ _ f (λ e. free (sym e));
    scans = λ b s calm free again h. torn_scan (will_cover (w.block_writes g)) b (w.scans b) s calm h;
    cleans = λ b free h. h;
    cleaned = λ b ok free again h. h;
    loads = λ n t promise state calm free h. torn_kept w (after_deed rules w (WritesAt g ok torn)) (will_cover (w.block_writes g)) n t promise state refl refl calm h;
    blocks = λ n b free h.
        has_kept (after_deed rules w (WritesAt g ok torn)) n b h.below (kept_at (read_torn (will_cover (w.block_writes g))) (w.loads n) b (h.load, h.at, h.kept));
  }
  frames rules w (CleansAt b ok torn) = record {
    core = λ free. refl;
    history = λ free. refl;
    disk = λ free. absurd (free tt);
    writes = λ f free. refl;
    scans = λ c s calm free again h. torn_scan (clean_will_cover b (w.clean_states b)) c (w.scans c) s calm h;
    cleans = λ c free h. put_twice w.clean_states b _ _ c (λ e. free (sym e)) ∙ h;
    cleaned = λ c is_ok free again h. put_twice w.clean_states b _ _ c (λ e. free (sym e)) ∙ h;
    loads = λ n t promise state calm free h. torn_kept w (after_deed rules w (CleansAt b ok torn)) (clean_will_cover b (w.clean_states b)) n t promise state refl refl calm h;
    blocks = λ n c free h.
        has_kept (after_deed rules w (CleansAt b ok torn)) n c h.below (kept_at (read_torn (clean_will_cover b (w.clean_states b))) (w.loads n) c (h.load, h.at, h.kept));
  }
