-- What is issued for a block, by the state of its reclaim and of a destroy, and how each step keeps that.
use Rattle.std.proofs.Common.{◌≡◌, inl, inr, ℕ, ◌==◌, Bool, true, false, true≢false, if◌then◌else◌, List, [], ◌∷◌, Option, Some, None, refl, sym, ap, ◌∙◌, subst}
use Rattle.std.proofs.lemmas.Bool.{eqb-true, eqb-false}
use Rattle.foyer_core_model.specs.Numbers.{put}
use Rattle.foyer_core_model.specs.Ids.{ids, is_id_in, without_id}
use Rattle.foyer_core_model.specs.Kind.{Kind}
use Rattle.foyer_core_model.specs.Record.{Slot, Mark, Indexed, Outcome, NoRecord, Holds, IndexEntry}
use Rattle.foyer_core_model.specs.Rules.{Rules, Splitting}
use Rattle.foyer_core_model.specs.State.{Submission, Piece, Remove, Await, Reinsert, Batch, Evictable, Reclaims, Stage, AtIndex, AtRecord, AllListed, ToClean, Reclaim, Destroy, NoDestroy, Begun, Cleaning, State}
use Rattle.foyer_core_model.specs.Step.{ReadResult, Bytes, Fault, Ticket, Step, Enqueue, Delete, Wait, MayContains, LoadBegin, LoadEnd, Receive, FlushBegin, FlushBlock, FlushWrote, LogWrote, FlushEnd, ReclaimBegin, ReclaimRead, ReclaimForget, ReclaimCleaned, ReclaimIdle, DestroyBegin, DestroyClear, DestroyCleaned, Close}
use Rattle.foyer_core_model.specs.Reply.{Reply, Ignored, Queued, Dropped, Deleted, Done, Miss, Throttled, Read, Entry, Empty, Received, Began, Written, NoBlock, Next, Committed, Failed, Ended, Picked, Scans, Listed, Cleans, Destroying, Cleared, Destroyed}
use Rattle.foyer_core_model.specs.Load.{Looks, judged, Judges}
use Rattle.foyer_core_model.specs.Receive.{TakesFront}
use Rattle.foyer_core_model.specs.Flush.{is_cleaning, Describes, Wrote, Logs, Finishes}
use Rattle.foyer_core_model.specs.Reclaim.{Picks, Forgets, Cleaned, issued_at, Lists, Rereads, Scanned}
use Rattle.foyer_core_model.specs.Destroy.{BeginsDestroy, Clears, first_fault, after_clean, issued_after_clean, CleansOne}
use Rattle.foyer_core_model.specs.InTurn.{IsAt, MayClear, InTurn}
use Rattle.foyer_core_model.specs.Changes.{Changes}
use Rattle.foyer_core_model.specs.Access.{CleanState, CleanIdle, CleanIssued, ReadIssued, Scan, scans_after, cleans_after, came}
use Rattle.foyer_core_model.proofs.Basics.{put_same, put_other}
use Rattle.foyer_core_model.proofs.Ids.{not_in_cases, not_in_both}

-- the block's clean was issued by the destroy and is yet to be reported
abbrev pub awaits : ℕ → Destroy → Bool
awaits b NoDestroy = false
awaits b Begun = false
awaits b (Cleaning left failed) = is_id_in b left

-- what a reclaim at a stage has issued
abbrev pub StageHas : Stage → Option Scan → CleanState → Type 0
StageHas (AtIndex place) scan state = state ≡ CleanIdle
StageHas (AtRecord h a rest place) scan state = state ≡ CleanIdle
StageHas AllListed scan state = (scan ≡ None) × (state ≡ CleanIdle)
StageHas ToClean scan state = scan ≡ None

-- what is issued for a block
abbrev pub BlockHas : Option Reclaim → Destroy → ℕ → Option Scan → CleanState → Type 0
BlockHas None destroy b scan state = (scan ≡ None) × (awaits b destroy ≡ false → state ≡ CleanIdle)
BlockHas (Some r) destroy b scan state = (is_cleaning destroy ≡ false) × StageHas r.stage scan state

abbrev pub AllHave : (ℕ → Option Reclaim) → Destroy → (ℕ → Option Scan) → (ℕ → CleanState) → Type 0
AllHave reclaims destroy scans states = (b : ℕ) → BlockHas (reclaims b) destroy b (scans b) (states b)

stage_less : (stage : Stage) (scan scan' : Option Scan) (state state' : CleanState) → (scan ≡ None → scan' ≡ None) → (state ≡ CleanIdle → state' ≡ CleanIdle) → StageHas stage scan state → StageHas stage scan' state'
stage_less (AtIndex place) scan scan' state state' none idle has = idle has
stage_less (AtRecord h a rest place) scan scan' state state' none idle has = idle has
stage_less AllListed scan scan' state state' none idle has = (none has.0, idle has.1)
stage_less ToClean scan scan' state state' none idle has = none has

pub block_less : (r : Option Reclaim) (how : Destroy) (b : ℕ) (scan scan' : Option Scan) (state state' : CleanState) → (scan ≡ None → scan' ≡ None) → (state ≡ CleanIdle → state' ≡ CleanIdle)
    → BlockHas r how b scan state → BlockHas r how b scan' state'
block_less None how b scan scan' state state' none idle has = (none has.0, λ free. idle (has.1 free))
block_less (Some r) how b scan scan' state state' none idle has = (has.0, stage_less r.stage scan scan' state state' none idle has.1)

-- a stage without a clean
stage_idle : (stage : Stage) (scan : Option Scan) (state : CleanState) → (stage ≡ ToClean → ⊥) → StageHas stage scan state → state ≡ CleanIdle
stage_idle (AtIndex place) scan state apart has = has
stage_idle (AtRecord h a rest place) scan state apart has = has
stage_idle AllListed scan state apart has = has.1
stage_idle ToClean scan state apart has = absurd (apart refl)

calm_awaits : (b : ℕ) (destroy : Destroy) → is_cleaning destroy ≡ false → awaits b destroy ≡ false
calm_awaits b NoDestroy calm = refl
calm_awaits b Begun calm = refl
calm_awaits b (Cleaning left failed) calm = absurd (true≢false calm)

module _ {C : Type 0} (rules : Rules C) where
  -- reclaims and destroys are as before
  abbrev Same : State C → State C → Type 0
  Same old new = (new.reclaims ≡ old.reclaims) × (new.destroy ≡ old.destroy)

  same_as : (old x new : State C) → Same old x → new ≡ x → Same old new
  same_as old x new same is = subst (Same old) (sym is) same

  -- the step neither reclaims nor destroys
  abbrev IsPlain : Step C → Type 0
  IsPlain ReclaimBegin = ⊥
  IsPlain (ReclaimRead b came) = ⊥
  IsPlain (ReclaimForget b) = ⊥
  IsPlain (ReclaimCleaned b ok) = ⊥
  IsPlain DestroyBegin = ⊥
  IsPlain DestroyClear = ⊥
  IsPlain (DestroyCleaned b ok) = ⊥
  IsPlain step = Unit {0}

  plain_scans : (n : ℕ) (reply : Reply C) (step : Step C) (scans : ℕ → Option Scan) → IsPlain step → scans_after n reply step scans ≡ scans
  plain_scans n (Picked b answers probation) ReclaimBegin scans plain = absurd plain
  plain_scans n (Scans d o k verdicts) (ReclaimRead b came) scans plain = absurd plain
  plain_scans n (Listed verdicts) (ReclaimRead b came) scans plain = absurd plain
  plain_scans n reply step scans plain = refl

  plain_cleans : (reply : Reply C) (step : Step C) (states : ℕ → CleanState) → IsPlain step → cleans_after reply step states ≡ states
  plain_cleans (Cleans d) (ReclaimForget b) states plain = absurd plain
  plain_cleans Done (ReclaimCleaned b ok) states plain = absurd plain
  plain_cleans (Cleared bs) DestroyClear states plain = absurd plain
  plain_cleans Done (DestroyCleaned b ok) states plain = absurd plain
  plain_cleans (Destroyed well) (DestroyCleaned b ok) states plain = absurd plain
  plain_cleans reply step states plain = refl

  looks_same : (old new : State C) (h : ℕ) (throttled : Bool) (slot : Option Slot) (reply : Reply C) → Looks rules old h throttled slot reply new → Same old new
  looks_same old new h throttled None Miss ok = same_as old _ new (refl, refl) ok
  looks_same old new h throttled (Some (Mark s)) Miss ok = same_as old _ new (refl, refl) ok
  looks_same old new h throttled (Some (Indexed a)) Throttled ok = same_as old _ new (refl, refl) ok.1
  looks_same old new h throttled (Some (Indexed a)) Miss ok = same_as old _ new (refl, refl) ok.2
  looks_same old new h throttled (Some (Indexed a)) (Read t) ok = same_as old _ new (refl, refl) ok.3
  looks_same old new h throttled slot reply ok = absurd ok

  judges_same : (old new : State C) (t : Ticket) (outcome : Outcome C) (reply : Reply C) → Judges rules old t outcome reply new → Same old new
  judges_same old new t NoRecord Miss ok = same_as old _ new (refl, refl) ok
  judges_same old new t (Holds c) (Entry d age) ok = same_as old _ new (refl, refl) ok.2
  judges_same old new t outcome reply ok = absurd ok

  front_same : (old new : State C) (f : ℕ) (queue : List (Submission C)) (reply : Reply C) → TakesFront rules old f queue reply new → Same old new
  front_same old new f [] Empty ok = same_as old _ new (refl, refl) ok
  front_same old new f (Piece h s n c ∷ rest) (Received None) ok = same_as old _ new (refl, refl) ok.3
  front_same old new f (Piece h s n c ∷ rest) (Received (Some d)) ok = same_as old _ new (refl, refl) ok.2
  front_same old new f (Remove h s invalidated ∷ rest) (Received None) ok = same_as old _ new (refl, refl) ok
  front_same old new f (Await i ∷ rest) (Received None) ok = same_as old _ new (refl, refl) ok
  front_same old new f (Reinsert h bytes a ∷ rest) (Received None) ok =
      elim ok [ inl pushed ↦ same_as old _ new (refl, refl) pushed.2 | inr dropped ↦ same_as old _ new (refl, refl) dropped.1 ]
  front_same old new f queue reply ok = absurd ok

  describes_same : (old new : State C) (f : ℕ) (batch : Option (Batch C)) (reply : Reply C) → Describes rules old f batch reply new → Same old new
  describes_same old new f (Some batch) NoBlock ok = same_as old _ new (refl, refl) ok.3
  describes_same old new f (Some batch) (Written b writes) (s, rest, _, _, ok) =
      elim ok [
        | inl own ↦ same_as old _ new (refl, refl) own.2
        | inr other ↦ elim other [ inl ready ↦ same_as old _ new (refl, refl) ready.2 | inr clean ↦ same_as old _ new (refl, refl) clean.3 ]
      ]
  describes_same old new f batch reply ok = absurd ok

  wrote_same : (old new : State C) (f : ℕ) (ok : Bool) (batch : Option (Batch C)) (reply : Reply C) → Wrote rules old f ok batch reply new → Same old new
  wrote_same old new f true (Some batch) Next does = same_as old _ new (refl, refl) does.6
  wrote_same old new f true (Some batch) (Committed n) does = same_as old _ new (refl, refl) does.5
  wrote_same old new f true (Some batch) Failed does = same_as old _ new (refl, refl) does.6
  wrote_same old new f false (Some batch) Failed does = same_as old _ new (refl, refl) does.6
  wrote_same old new f ok batch reply does = absurd does

  logs_same : (old new : State C) (f : ℕ) (ok : Bool) (batch : Option (Batch C)) (reply : Reply C) → Logs rules old f ok batch reply new → Same old new
  logs_same old new f ok (Some batch) Done does = same_as old _ new (refl, refl) does
  logs_same old new f ok batch reply does = absurd does

  finishes_same : (old new : State C) (f : ℕ) (batch : Option (Batch C)) (reply : Reply C) → Finishes rules old f batch reply new → Same old new
  finishes_same old new f (Some batch) (Ended pieces waits) does = same_as old _ new (refl, refl) does.2
  finishes_same old new f batch reply does = absurd does

  plain_same : (Splits : Splitting C) (old new : State C) (step : Step C) (reply : Reply C) → IsPlain step → Changes rules Splits old step reply new → Same old new
  plain_same Splits old new (Enqueue h n age c) (Ignored d) plain ok = same_as old _ new (refl, refl) ok.3
  plain_same Splits old new (Enqueue h n age c) (Dropped d s) plain ok = same_as old _ new (refl, refl) (ok.3).3
  plain_same Splits old new (Enqueue h n age c) (Queued s) plain ok = same_as old _ new (refl, refl) ok.4
  plain_same Splits old new (Enqueue h n age c) reply plain ok = absurd ok
  plain_same Splits old new (Delete h) (Deleted s) plain ok = same_as old _ new (refl, refl) ok.3
  plain_same Splits old new (Delete h) reply plain ok = absurd ok
  plain_same Splits old new (Wait f i) Done plain ok = same_as old _ new (refl, refl) ok
  plain_same Splits old new (Wait f i) reply plain ok = absurd ok
  plain_same Splits old new (MayContains h) reply plain ok = same_as old _ new (refl, refl) ok.1
  plain_same Splits old new (LoadBegin h throttled) reply plain ok = looks_same old new h throttled (old.index h) reply ok
  plain_same Splits old new (LoadEnd t Fault) reply plain ok = absurd ok
  plain_same Splits old new (LoadEnd t (Bytes bs)) reply plain ok = judges_same old new t (judged rules old t bs) reply ok
  plain_same Splits old new (Receive f) reply plain ok = front_same old new f (old.flushers f).queue reply ok
  plain_same Splits old new (FlushBegin f) (Began blocks marks) plain ok = same_as old _ new (refl, refl) ok.2
  plain_same Splits old new (FlushBegin f) reply plain ok = absurd ok
  plain_same Splits old new (FlushBlock f) reply plain ok = describes_same old new f (old.flushers f).batch reply ok
  plain_same Splits old new (FlushWrote f went) reply plain ok = wrote_same old new f went (old.flushers f).batch reply ok
  plain_same Splits old new (LogWrote f went) reply plain ok = logs_same old new f went (old.flushers f).batch reply ok
  plain_same Splits old new (FlushEnd f) reply plain ok = finishes_same old new f (old.flushers f).batch reply ok
  plain_same Splits old new ReclaimIdle reply plain ok = same_as old _ new (refl, refl) ok.1
  plain_same Splits old new Close reply plain ok = same_as old _ new (refl, refl) ok.1
  plain_same Splits old new step reply plain ok = absurd plain

  plain_has : (Splits : Splitting C) (old new : State C) (step : Step C) (reply : Reply C) (scans : ℕ → Option Scan) (states : ℕ → CleanState) → IsPlain step → Changes rules Splits old step reply new
      → AllHave old.reclaims old.destroy scans states → AllHave new.reclaims new.destroy (scans_after rules.index_size reply step scans) (cleans_after reply step states)
  plain_has Splits old new step reply scans states plain ok has b =
      let same = plain_same Splits old new step reply plain ok in
      subst (λ (x : Option Scan × CleanState). BlockHas (new.reclaims b) new.destroy b x.0 x.1)
      (λ i. (sym (plain_scans rules.index_size reply step scans plain) i b, sym (plain_cleans reply step states plain) i b))
      (subst (λ (x : Option Reclaim × Destroy). BlockHas x.0 x.1 b (scans b) (states b)) (λ i. (sym same.0 i b, sym same.1 i)) (has b))

  -- a reclaim begins of a block that none has
  picked_has : (old new : State C) (reply : Reply C) (scans : ℕ → Option Scan) (states : ℕ → CleanState) → is_cleaning old.destroy ≡ false → ((b : ℕ) (r : Reclaim) → old.reclaims b ≡ Some r → old.place b ≡ Reclaims)
      → Picks rules old reply new → AllHave old.reclaims old.destroy scans states → AllHave new.reclaims new.destroy (scans_after rules.index_size reply ReclaimBegin scans) (cleans_after reply ReclaimBegin states)
  picked_has old new (Picked p answers probation) scans states calm held ok has b =
      subst (λ (x : State C). BlockHas (x.reclaims b) x.destroy b (put scans p (Some (record { offset = 0; len = rules.index_size; read_state = ReadIssued })) b) (states b)) (sym ok.4)
      (both (picks_idle (old.reclaims p) refl (has p)) (b == p) refl)
    where
      picks_idle : (o : Option Reclaim) → old.reclaims p ≡ o → BlockHas o old.destroy p (scans p) (states p) → states p ≡ CleanIdle
      picks_idle None is here = here.1 (calm_awaits p old.destroy calm)
      picks_idle (Some r) is here = absurd (let e : Evictable ≡ Reclaims = sym ok.1 ∙ held p r is in cc)

      both : states p ≡ CleanIdle → (t : Bool) → (b == p) ≡ t
          → BlockHas (put old.reclaims p (Some (record { stage = AtIndex 0; listed = []; requeued = [] })) b) old.destroy b
          (put scans p (Some (record { offset = 0; len = rules.index_size; read_state = ReadIssued })) b) (states b)
      both idle true e =
          let same : b ≡ p = eqb-true b p e in
          subst (λ (x : Option Reclaim). BlockHas x old.destroy b (put scans p (Some (record { offset = 0; len = rules.index_size; read_state = ReadIssued })) b) (states b))
          (sym (ap (put old.reclaims p (Some (record { stage = AtIndex 0; listed = []; requeued = [] }))) same ∙ put_same old.reclaims p _)) (calm, ap states same ∙ idle)
      both idle false e =
          let apart : b ≡ p → ⊥ = eqb-false b p e in
          subst (λ (x : Option Reclaim × Option Scan). BlockHas x.0 old.destroy b x.1 (states b))
          (λ i. (
            sym (put_other old.reclaims p (Some (record { stage = AtIndex 0; listed = []; requeued = [] })) b apart) i,
            sym (put_other scans p (Some (record { offset = 0; len = rules.index_size; read_state = ReadIssued })) b apart) i,
          )) (has b)
  picked_has old new reply scans states calm held ok has b = absurd ok

  -- one block changes
  one_has : (b : ℕ) (how : Destroy) (reclaims reclaims' : ℕ → Option Reclaim) (scans scans' : ℕ → Option Scan) (states states' : ℕ → CleanState)
      → ((c : ℕ) → (c ≡ b → ⊥) → (reclaims' c ≡ reclaims c) × (scans' c ≡ scans c) × (states' c ≡ states c))
      → BlockHas (reclaims' b) how b (scans' b) (states' b) → AllHave reclaims how scans states → AllHave reclaims' how scans' states'
  one_has b how reclaims reclaims' scans scans' states states' others here has c = go (c == b) refl
    where
      go : (t : Bool) → (c == b) ≡ t → BlockHas (reclaims' c) how c (scans' c) (states' c)
      go true e = subst (λ k. BlockHas (reclaims' k) how k (scans' k) (states' k)) (sym (eqb-true c b e)) here
      go false e =
          let same = others c (eqb-false c b e) in
          subst (λ (x : Option Reclaim × Option Scan × CleanState). BlockHas x.0 how c x.1 x.2) (λ i. (sym same.0 i, sym same.1 i, sym same.2 i)) (has c)

  -- the step that goes on with a reclaim
  read_others : (old : State C) (b c : ℕ) (came : ReadResult) (stage : Stage) (verdicts : List Bool) (scans : ℕ → Option Scan) (states : ℕ → CleanState) → (c ≡ b → ⊥)
      → (scans_after rules.index_size (issued_at rules old b stage verdicts) (ReclaimRead b came) scans c ≡ scans c) × (cleans_after (issued_at rules old b stage verdicts) (ReclaimRead b came) states c ≡ states c)
  read_others old b c came (AtIndex place) verdicts scans states apart = (put_other scans b _ c apart, refl)
  read_others old b c came (AtRecord h a rest place) verdicts scans states apart = (put_other scans b _ c apart, refl)
  read_others old b c came AllListed verdicts scans states apart = (put_other scans b _ c apart, refl)
  read_others old b c came ToClean verdicts scans states apart = (put_other scans b _ c apart, refl)

  read_here : (old : State C) (b : ℕ) (came : ReadResult) (stage : Stage) (verdicts : List Bool) (scans : ℕ → Option Scan) (states : ℕ → CleanState) → states b ≡ CleanIdle
      → StageHas stage (scans_after rules.index_size (issued_at rules old b stage verdicts) (ReclaimRead b came) scans b) (cleans_after (issued_at rules old b stage verdicts) (ReclaimRead b came) states b)
  read_here old b came (AtIndex place) verdicts scans states idle = idle
  read_here old b came (AtRecord h a rest place) verdicts scans states idle = idle
  read_here old b came AllListed verdicts scans states idle = (put_same scans b None, idle)
  read_here old b came ToClean verdicts scans states idle = put_same scans b None

  read_on : (old new : State C) (b : ℕ) (came : ReadResult) (r : Reclaim) (verdicts : List Bool) (reply : Reply C) (scans : ℕ → Option Scan) (states : ℕ → CleanState)
      → states b ≡ CleanIdle → is_cleaning old.destroy ≡ false → reply ≡ issued_at rules old b r.stage verdicts → new.reclaims ≡ put old.reclaims b (Some r) → new.destroy ≡ old.destroy
      → AllHave old.reclaims old.destroy scans states
      → AllHave new.reclaims new.destroy (scans_after rules.index_size reply (ReclaimRead b came) scans) (cleans_after reply (ReclaimRead b came) states)
  read_on old new b came r verdicts reply scans states idle calm replies reclaims destroys has =
      subst (λ (x : (ℕ → Option Reclaim) × Destroy × Reply C). AllHave x.0 x.1 (scans_after rules.index_size x.2 (ReclaimRead b came) scans) (cleans_after x.2 (ReclaimRead b came) states))
      (λ i. (sym reclaims i, sym destroys i, sym replies i))
      (one_has b old.destroy old.reclaims (put old.reclaims b (Some r)) scans (scans_after rules.index_size (issued_at rules old b r.stage verdicts) (ReclaimRead b came) scans)
      states (cleans_after (issued_at rules old b r.stage verdicts) (ReclaimRead b came) states)
      (λ c apart. let same = read_others old b c came r.stage verdicts scans states apart in (put_other old.reclaims b (Some r) c apart, same.0, same.1))
      (subst (λ (o : Option Reclaim). BlockHas o old.destroy b (scans_after rules.index_size (issued_at rules old b r.stage verdicts) (ReclaimRead b came) scans b) (cleans_after (issued_at rules old b r.stage verdicts) (ReclaimRead b came) states b))
      (sym (put_same old.reclaims b (Some r))) (calm, read_here old b came r.stage verdicts scans states idle))
      has)

  lists_read : (old new : State C) (b : ℕ) (came : ReadResult) (r : Reclaim) (place : ℕ) (es : Option (List IndexEntry)) (reply : Reply C) → Lists rules old b r place es reply new
      → (q : Reclaim) × (verdicts : List Bool) × (reply ≡ issued_at rules old b q.stage verdicts) × (new.reclaims ≡ put old.reclaims b (Some q)) × (new.destroy ≡ old.destroy)
  lists_read old new b came r place None reply ok =
      (record r { stage = AllListed }, [], ok.0, ap (λ (x : State C). x.reclaims) ok.1, ap (λ (x : State C). x.destroy) ok.1)
  lists_read old new b came r place (Some es) reply (verdicts, _, replies, is) =
      (_, verdicts, replies, ap (λ (x : State C). x.reclaims) is, ap (λ (x : State C). x.destroy) is)

  -- and had no clean to come
  scanned_read : (old new : State C) (b : ℕ) (came : ReadResult) (r : Reclaim) (stage : Stage) (reply : Reply C) → Scanned rules old b r stage came reply new
      → (q : Reclaim) × (verdicts : List Bool) × (reply ≡ issued_at rules old b q.stage verdicts) × (new.reclaims ≡ put old.reclaims b (Some q)) × (new.destroy ≡ old.destroy)
  scanned_read old new b Fault r (AtIndex place) reply ok = (record r { stage = AllListed }, [], ok.0, ap (λ (x : State C). x.reclaims) ok.1, ap (λ (x : State C). x.destroy) ok.1)
  scanned_read old new b Fault r (AtRecord h a rest place) reply ok = (record r { stage = AllListed }, [], ok.0, ap (λ (x : State C). x.reclaims) ok.1, ap (λ (x : State C). x.destroy) ok.1)
  scanned_read old new b (Bytes bs) r (AtIndex place) reply ok = lists_read old new b (Bytes bs) r place (rules.entries_of place bs) reply ok
  scanned_read old new b (Bytes bs) r (AtRecord h a rest place) reply ok = (_, [], ok.0, ap (λ (x : State C). x.reclaims) ok.1, ap (λ (x : State C). x.destroy) ok.1)
  scanned_read old new b came r stage reply ok = absurd ok

  scanned_apart : (old new : State C) (b : ℕ) (came : ReadResult) (r : Reclaim) (stage : Stage) (reply : Reply C) → Scanned rules old b r stage came reply new → stage ≡ ToClean → ⊥
  scanned_apart old new b came r ToClean reply ok is = ok
  scanned_apart old new b came r (AtIndex place) reply ok is = let e : AtIndex place ≡ ToClean = is in cc
  scanned_apart old new b came r (AtRecord h a rest place) reply ok is = let e : AtRecord h a rest place ≡ ToClean = is in cc
  scanned_apart old new b came r AllListed reply ok is = let e : AllListed ≡ ToClean = is in cc

  read_has : (old new : State C) (b : ℕ) (came : ReadResult) (reply : Reply C) (scans : ℕ → Option Scan) (states : ℕ → CleanState) (o : Option Reclaim) → old.reclaims b ≡ o → Rereads rules old b o came reply new
      → AllHave old.reclaims old.destroy scans states → AllHave new.reclaims new.destroy (scans_after rules.index_size reply (ReclaimRead b came) scans) (cleans_after reply (ReclaimRead b came) states)
  read_has old new b came reply scans states None is ok has = absurd ok
  read_has old new b came reply scans states (Some r) is ok has =
      let here : BlockHas (Some r) old.destroy b (scans b) (states b) = subst (λ (x : Option Reclaim). BlockHas x old.destroy b (scans b) (states b)) is (has b) in
      let next = scanned_read old new b came r r.stage reply ok in
      read_on old new b came next.0 next.1 reply scans states (stage_idle r.stage (scans b) (states b) (scanned_apart old new b came r r.stage reply ok) here.1) here.0 next.2 next.3 next.4 has

  -- its block is to be cleaned
  forgets_has : (old new : State C) (b : ℕ) (reply : Reply C) (scans : ℕ → Option Scan) (states : ℕ → CleanState) (o : Option Reclaim) → old.reclaims b ≡ o → IsAt AllListed o → Forgets rules old b o reply new
      → AllHave old.reclaims old.destroy scans states → AllHave new.reclaims new.destroy (scans_after rules.index_size reply (ReclaimForget b) scans) (cleans_after reply (ReclaimForget b) states)
  forgets_has old new b (Cleans d) scans states (Some r) is at ok has =
      let here : BlockHas (Some r) old.destroy b (scans b) (states b) = subst (λ (x : Option Reclaim). BlockHas x old.destroy b (scans b) (states b)) is (has b) in
      let listed : StageHas AllListed (scans b) (states b) = subst (λ (x : Stage). StageHas x (scans b) (states b)) at here.1 in
      let q : Reclaim = record r { stage = ToClean } in
      subst (λ (x : State C). AllHave x.reclaims x.destroy scans (put states b CleanIssued)) (sym ok.1)
      (one_has b old.destroy old.reclaims (put old.reclaims b (Some q)) scans scans states (put states b CleanIssued)
      (λ c apart. (put_other old.reclaims b (Some q) c apart, refl, put_other states b CleanIssued c apart))
      (subst (λ (x : Option Reclaim). BlockHas x old.destroy b (scans b) (put states b CleanIssued b)) (sym (put_same old.reclaims b (Some q))) (here.0, listed.0))
      has)
  forgets_has old new b reply scans states None is at ok has = absurd at
  forgets_has old new b reply scans states (Some r) is at ok has = absurd ok

  -- it was cleaned
  cleaned_on : (old new : State C) (b : ℕ) (scans : ℕ → Option Scan) (states : ℕ → CleanState) → scans b ≡ None → new.reclaims ≡ put old.reclaims b None → new.destroy ≡ old.destroy
      → AllHave old.reclaims old.destroy scans states → AllHave new.reclaims new.destroy scans (put states b CleanIdle)
  cleaned_on old new b scans states none reclaims destroys has =
      subst (λ (x : (ℕ → Option Reclaim) × Destroy). AllHave x.0 x.1 scans (put states b CleanIdle)) (λ i. (sym reclaims i, sym destroys i))
      (one_has b old.destroy old.reclaims (put old.reclaims b None) scans scans states (put states b CleanIdle)
      (λ c apart. (put_other old.reclaims b None c apart, refl, put_other states b CleanIdle c apart))
      (subst (λ (x : Option Reclaim). BlockHas x old.destroy b (scans b) (put states b CleanIdle b)) (sym (put_same old.reclaims b None)) (none, λ free. put_same states b CleanIdle))
      has)

  cleaned_has : (old new : State C) (b : ℕ) (went : Bool) (reply : Reply C) (scans : ℕ → Option Scan) (states : ℕ → CleanState) (o : Option Reclaim) → old.reclaims b ≡ o → IsAt ToClean o → Cleaned rules old b reply new
      → AllHave old.reclaims old.destroy scans states → AllHave new.reclaims new.destroy (scans_after rules.index_size reply (ReclaimCleaned b went) scans) (cleans_after reply (ReclaimCleaned b went) states)
  cleaned_has old new b went Done scans states None is at ok has = absurd at
  cleaned_has old new b went Done scans states (Some r) is at ok has =
      let here : BlockHas (Some r) old.destroy b (scans b) (states b) = subst (λ (x : Option Reclaim). BlockHas x old.destroy b (scans b) (states b)) is (has b) in
      let none : scans b ≡ None = subst (λ (x : Stage). StageHas x (scans b) (states b)) at here.1 in
      elim ok [
        | inl waited ↦ cleaned_on old new b scans states none (ap (λ (x : State C). x.reclaims) waited.4) (ap (λ (x : State C). x.destroy) waited.4) has
        | inr free ↦ cleaned_on old new b scans states none (ap (λ (x : State C). x.reclaims) free.1) (ap (λ (x : State C). x.destroy) free.1) has
      ]
  cleaned_has old new b went reply scans states o is at ok has = absurd ok

  -- a destroy begins
  begun_one : (o : Option Reclaim) (b : ℕ) (scan : Option Scan) (state : CleanState) → BlockHas o NoDestroy b scan state → BlockHas o Begun b scan state
  begun_one None b scan state has = has
  begun_one (Some r) b scan state has = has

  begins_has : (old new : State C) (reply : Reply C) (scans : ℕ → Option Scan) (states : ℕ → CleanState) → old.destroy ≡ NoDestroy → BeginsDestroy rules old reply new
      → AllHave old.reclaims old.destroy scans states → AllHave new.reclaims new.destroy (scans_after rules.index_size reply DestroyBegin scans) (cleans_after reply DestroyBegin states)
  begins_has old new (Destroying q) scans states none ok has =
      subst (λ (x : State C). AllHave x.reclaims x.destroy scans states) (sym ok.3)
      (λ b. begun_one (old.reclaims b) b (scans b) (states b) (subst (λ (d : Destroy). BlockHas (old.reclaims b) d b (scans b) (states b)) none (has b)))
  begins_has old new reply scans states none ok has = absurd ok

  -- it cleans all blocks
  clears_has : (old new : State C) (reply : Reply C) (scans : ℕ → Option Scan) (states : ℕ → CleanState) → MayClear old → Clears rules old reply new
      → AllHave old.reclaims old.destroy scans states → AllHave new.reclaims new.destroy (scans_after rules.index_size reply DestroyClear scans) (cleans_after reply DestroyClear states)
  clears_has old new (Cleared bs) scans states may ok has =
      subst (λ (x : State C). AllHave x.reclaims x.destroy scans (λ b. if is_id_in b bs then CleanIssued else states b)) (sym ok.1) (λ b.
      let none : old.reclaims b ≡ None = may.2 b in
      let here : BlockHas None Begun b (scans b) (states b) = subst (λ (x : Option Reclaim × Destroy). BlockHas x.0 x.1 b (scans b) (states b)) (λ i. (none i, may.0 i)) (has b) in
      subst (λ (x : Option Reclaim). BlockHas x (Cleaning (ids rules.blocks) None) b (scans b) (if is_id_in b bs then CleanIssued else states b)) (sym none)
      (here.0, λ free. ap (λ (t : Bool). if t then CleanIssued else states b) (ap (is_id_in b) ok.0 ∙ free) ∙ here.1 refl))
  clears_has old new reply scans states may ok has = absurd ok

  -- one clean of a destroy was reported
  still_awaits : (b c : ℕ) (left : List ℕ) (failed : Option Kind) → awaits c (after_clean left failed) ≡ is_id_in c left
  still_awaits b c [] failed = refl
  still_awaits b c (x ∷ xs) failed = refl

  awaited_else : (b c : ℕ) (left : List ℕ) → (c ≡ b → ⊥) → is_id_in c (without_id b left) ≡ false → is_id_in c left ≡ false
  awaited_else b c [] apart free = refl
  awaited_else b c (x ∷ xs) apart free = go (b == x) refl free (awaited_else b c xs apart)
    where
      go : (t : Bool) → (b == x) ≡ t → is_id_in c (if t then without_id b xs else x ∷ without_id b xs) ≡ false → (is_id_in c (without_id b xs) ≡ false → is_id_in c xs ≡ false) → is_id_in c (x ∷ xs) ≡ false
      go true e f rec = not_in_both c x xs (λ same. apart (same ∙ sym (eqb-true b x e))) (rec f)
      go false e f rec = let parts = not_in_cases c x (without_id b xs) f in not_in_both c x xs parts.0 (rec parts.1)

  clean_reported : (b : ℕ) (fault : Option Kind) (left : List ℕ) (failed : Option Kind) (states : ℕ → CleanState) → cleans_after {C = C} (issued_after_clean left failed) (DestroyCleaned b fault) states ≡ put states b CleanIdle
  clean_reported b fault [] failed states = refl
  clean_reported b fault (x ∷ xs) failed states = refl

  scan_reported : (b : ℕ) (fault : Option Kind) (left : List ℕ) (failed : Option Kind) (scans : ℕ → Option Scan) → scans_after {C = C} rules.index_size (issued_after_clean left failed) (DestroyCleaned b fault) scans ≡ scans
  scan_reported b fault [] failed scans = refl
  scan_reported b fault (x ∷ xs) failed scans = refl

  one_cleaned : (b : ℕ) (left : List ℕ) (failed first : Option Kind) (c : ℕ) (o : Option Reclaim) (scan : Option Scan) (states : ℕ → CleanState) → BlockHas o (Cleaning left failed) c scan (states c)
      → BlockHas o (after_clean (without_id b left) first) c scan (put states b CleanIdle c)
  one_cleaned b left failed first c (Some r) scan states has = absurd (true≢false has.0)
  one_cleaned b left failed first c None scan states has = (has.0, λ free. go (c == b) refl (sym (still_awaits b c (without_id b left) first) ∙ free))
    where
      go : (t : Bool) → (c == b) ≡ t → is_id_in c (without_id b left) ≡ false → put states b CleanIdle c ≡ CleanIdle
      go true e free = ap (put states b CleanIdle) (eqb-true c b e) ∙ put_same states b CleanIdle
      go false e free = put_other states b CleanIdle c (eqb-false c b e) ∙ has.1 (awaited_else b c left (eqb-false c b e) free)

  cleans_one_has : (old new : State C) (b : ℕ) (fault : Option Kind) (reply : Reply C) (scans : ℕ → Option Scan) (states : ℕ → CleanState) (d : Destroy) → old.destroy ≡ d → CleansOne rules old b fault d reply new
      → AllHave old.reclaims old.destroy scans states → AllHave new.reclaims new.destroy (scans_after rules.index_size reply (DestroyCleaned b fault) scans) (cleans_after reply (DestroyCleaned b fault) states)
  cleans_one_has old new b fault reply scans states (Cleaning left failed) is ok has =
      let first = first_fault failed fault in
      let rest = without_id b left in
      subst (λ (x : State C × Reply C). AllHave x.0.reclaims x.0.destroy (scans_after rules.index_size x.1 (DestroyCleaned b fault) scans) (cleans_after x.1 (DestroyCleaned b fault) states)) (λ i. (sym ok.1 i, sym ok.0 i))
      (subst (λ (x : (ℕ → Option Scan) × (ℕ → CleanState)). AllHave old.reclaims (after_clean rest first) x.0 x.1) (λ i. (sym (scan_reported b fault rest first scans) i, sym (clean_reported b fault rest first states) i))
      (λ c. one_cleaned b left failed first c (old.reclaims c) (scans c) states (subst (λ (q : Destroy). BlockHas (old.reclaims c) q c (scans c) (states c)) is (has c))))
  cleans_one_has old new b fault reply scans states NoDestroy is ok has = absurd ok
  cleans_one_has old new b fault reply scans states Begun is ok has = absurd ok

  pub steps_have : (Splits : Splitting C) (old new : State C) (step : Step C) (reply : Reply C) (scans : ℕ → Option Scan) (states : ℕ → CleanState) → ((b : ℕ) (r : Reclaim) → old.reclaims b ≡ Some r → old.place b ≡ Reclaims)
      → InTurn rules old step → Changes rules Splits old step reply new → AllHave old.reclaims old.destroy scans states
      → AllHave new.reclaims new.destroy (scans_after rules.index_size reply step scans) (cleans_after reply step states)
  steps_have Splits old new ReclaimBegin reply scans states held turn ok has = picked_has old new reply scans states turn.quiet held ok has
  steps_have Splits old new (ReclaimRead b came) reply scans states held turn ok has = read_has old new b came reply scans states (old.reclaims b) refl ok has
  steps_have Splits old new (ReclaimForget b) reply scans states held turn ok has = forgets_has old new b reply scans states (old.reclaims b) refl turn.1 ok has
  steps_have Splits old new (ReclaimCleaned b went) reply scans states held turn ok has = cleaned_has old new b went reply scans states (old.reclaims b) refl turn.1 ok has
  steps_have Splits old new DestroyBegin reply scans states held turn ok has = begins_has old new reply scans states turn ok has
  steps_have Splits old new DestroyClear reply scans states held turn ok has = clears_has old new reply scans states turn ok has
  steps_have Splits old new (DestroyCleaned b fault) reply scans states held turn ok has = cleans_one_has old new b fault reply scans states old.destroy refl ok has
  steps_have Splits old new step reply scans states held turn ok has = plain_has Splits old new step reply scans states tt ok has
