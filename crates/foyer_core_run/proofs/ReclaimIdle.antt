-- Without a filter a reclaim keeps flushers that are idle; and what its last step answers.
use Rattle.std.proofs.Common.{◌≡◌, ℕ, ◌+◌, Bool, true, false, if◌then◌else◌, List, [], ◌∷◌, ◌⊎◌, inl, inr, Option, Some, None, Ok, Err, refl, sym, ap, subst, ◌∙◌}
use Rattle.std.specs.Prelude.{Result, nat_le}
use Rattle.std.specs.List.{AllZip}
use Rattle.std.specs.declared.vec.Vec.{Vec}
use Rattle.foyer_device_page.specs.declared.error.Error.{Error}
use Rattle.foyer_policy_filter.specs.declared.verdict.StorageFilterResult.{StorageFilterResult}
use Rattle.foyer_block_scan.specs.declared.block.scanner.EntryInfo.{EntryInfo}
use Rattle.foyer_device_statistics.specs.declared.state.IoState.{IoState}
use Rattle.foyer_core_restart.specs.Restart.{AllRefused}
use Rattle.foyer_core_model.specs.Destroy.{IsIdle}
use Rattle.foyer_core_model.specs.Follows.{Follows}
use Rattle.foyer_core_model.specs.Numbers.{put}
use Rattle.foyer_core_model.specs.Reclaim.{Cleaned, Forgets, Lists, Picks, Rereads, Scanned, addresses, admitted, issued_at, place_behind, stage_after, stage_behind}
use Rattle.foyer_core_model.specs.Record.{Address, IndexEntry}
use Rattle.foyer_core_model.specs.Reply as model_reply
use Rattle.foyer_core_model.specs.Rules.{Rules, Splitting}
use Rattle.foyer_core_model.specs.State.{State, Stage, AtIndex, AtRecord, AllListed, ToClean, Reclaim}
use Rattle.foyer_core_model.specs.Step as model_step
use Rattle.foyer_core_model.proofs.Basics.{put_at, put_same}
use Rattle.foyer_core_laws.specs.Content.{Content, Meaning}
use Rattle.foyer_core_laws.specs.CoreRules.{layout, machine}
use Rattle.foyer_core_laws.specs.Sizes.{AreValid}
use Rattle.foyer_core_laws.specs.Settings.{Settings}
use Rattle.foyer_core_steps.specs.Asked.{came_of, step_of}
use Rattle.foyer_core_steps.specs.Reclaiming.{IsReread, IsVerdictOn, Reclaiming, index_infos, reclaim_at, verdict_list, verdicts_of, wanted_of}
use Rattle.foyer_core_steps.specs.Scanning.{AreOn, HasJudged, IsJudged}
use Rattle.foyer_core_steps.specs.declared.block.reclaimer.Wanted.{Wanted}
use Rattle.foyer_core_steps.specs.declared.block.reclaimer.Wanted.TheVariants as wanted
use Rattle.foyer_core_steps.specs.Refines.{IsHandedBack, Refines}
use Rattle.foyer_core_steps.specs.Replied.{IsReply}
use Rattle.foyer_core_steps.specs.StateOf.{IsStateOf}
use Rattle.foyer_core_steps.specs.declared.reply.Reply.{Reply}
use Rattle.foyer_core_steps.specs.declared.reply.Reply.TheVariants as reply
use Rattle.foyer_core_steps.specs.declared.state.Core.{Core}
use Rattle.foyer_core_steps.specs.declared.step.Step.{Step}
use Rattle.foyer_core_steps.specs.declared.step.Step.TheVariants as step
use Rattle.foyer_core_run.specs.AtRest.{KeepsIdle, Leads, Without}
use Rattle.foyer_core_run.specs.Reclaims.{IsOver, IsUnread, IsUnreadIn, KeepsUnread}
use Rattle.foyer_core_run.proofs.RestLemmas.{leads_more, leads_none}

-- a step of a reclaim, except a read
abbrev pub IsOfReclaim : {C : Type 0} → model_step.Step C → Type 0
IsOfReclaim model_step.ReclaimBegin = Unit {0}
IsOfReclaim (model_step.ReclaimForget b) = Unit {0}
IsOfReclaim (model_step.ReclaimCleaned b is_ok) = Unit {0}
IsOfReclaim given = ⊥

-- what a reply's verdicts are
abbrev given_verdicts : {C : Type 0} → model_reply.Reply C → List Bool
given_verdicts (model_reply.Scans b offset len vs) = vs
given_verdicts (model_reply.Listed vs) = vs
given_verdicts it = []

none_admitted : (vs : List Bool) (ps : List (ℕ × Address)) → AllRefused vs → admitted vs ps ≡ []
none_admitted [] ps none = refl
none_admitted (false ∷ vs) [] none = refl
none_admitted (false ∷ vs) (p ∷ ps) none = none_admitted vs ps none
none_admitted (true ∷ vs) ps none = absurd none

module _ {C : Type 0} (rules : Rules C) where
  same_idle : (old new : State C) → new.flushers ≡ old.flushers → KeepsIdle old new
  same_idle old new is f idle = subst (λ all. IsIdle (all f)) (sym is) idle

  picks_same : (old new : State C) (it : model_reply.Reply C) → Picks rules old it new → new.flushers ≡ old.flushers
  picks_same old new (model_reply.Picked b answers probation) ok = ap (λ c. c.flushers) ok.4
  picks_same old new it ok = absurd ok

  lists_same : (old new : State C) (b : ℕ) (r : Reclaim) (place : ℕ) (es : Option (List IndexEntry)) (it : model_reply.Reply C) → Lists rules old b r place es it new → new.flushers ≡ old.flushers
  lists_same old new b r place None it ok = ap (λ c. c.flushers) ok.1
  lists_same old new b r place (Some es) it (vs, count, issued, eq) = ap (λ c. c.flushers) eq

  scanned_same : (old new : State C) (b : ℕ) (r : Reclaim) (stage : Stage) (came : model_step.ReadResult) (it : model_reply.Reply C) → IsUnread stage → Scanned rules old b r stage came it new → new.flushers ≡ old.flushers
  scanned_same old new b r (AtIndex place) model_step.Fault it unread ok = ap (λ c. c.flushers) ok.1
  scanned_same old new b r (AtIndex place) (model_step.Bytes bs) it unread ok = lists_same old new b r place (rules.entries_of place bs) it ok
  scanned_same old new b r (AtRecord h a rest place) came it unread ok = absurd unread
  scanned_same old new b r stage came it unread ok = absurd ok

  forgets_same : (old new : State C) (b : ℕ) (r : Option Reclaim) (it : model_reply.Reply C) → Forgets rules old b r it new → new.flushers ≡ old.flushers
  forgets_same old new b (Some r) (model_reply.Cleans d) ok = ap (λ c. c.flushers) ok.1
  forgets_same old new b r it ok = absurd ok

  cleaned_idle : (old new : State C) (b : ℕ) (it : model_reply.Reply C) → Cleaned rules old b it new → KeepsIdle old new
  cleaned_idle old new b model_reply.Done (inl (f, others, waits, room, eq)) = λ g idle.
      subst (λ c. IsIdle (c.flushers g)) (sym eq)
      (put_at IsIdle old.flushers f (record (old.flushers f) { ready = Some b }) g (λ same. subst (λ k. IsIdle (record (old.flushers k) { ready = Some b })) same idle) (λ ne. idle))
  cleaned_idle old new b model_reply.Done (inr (nobody, eq)) = same_idle old new (ap (λ c. c.flushers) eq)
  cleaned_idle old new b it ok = absurd ok

  index_unread : (old : State C) (place : ℕ) → IsUnread (stage_after rules old [] place)
  index_unread old place = go (nat_le (place + rules.index_size) rules.block_size)
    where
      go : (t : Bool) → IsUnread (if t then AtIndex place else AllListed)
      go true = tt
      go false = tt

  verdicts_issued : (old : State C) (b : ℕ) (stage : Stage) (vs : List Bool) → given_verdicts (issued_at rules old b stage vs) ≡ vs
  verdicts_issued old b (AtIndex place) vs = refl
  verdicts_issued old b (AtRecord h a rest place) vs = refl
  verdicts_issued old b AllListed vs = refl
  verdicts_issued old b ToClean vs = refl

  goes_unread : (old new : State C) (b : ℕ) (r : Reclaim) → IsUnread r.stage → new ≡ record old { reclaims = put old.reclaims b (Some r) } → IsUnreadIn (new.reclaims b)
  goes_unread old new b r unread is = subst (λ c. IsUnreadIn (c.reclaims b)) (sym is) (subst IsUnreadIn (sym (put_same old.reclaims b (Some r))) unread)

  -- an index without an admitted entry leads to no record
  lists_unread : (old new : State C) (b : ℕ) (r : Reclaim) (place : ℕ) (es : Option (List IndexEntry)) (it : model_reply.Reply C) → AllRefused (given_verdicts it) → Lists rules old b r place es it new → IsUnreadIn (new.reclaims b)
  lists_unread old new b r place None it refused ok = goes_unread old new b (record r { stage = AllListed }) tt ok.1
  lists_unread old new b r place (Some es) it refused (vs, count, issued, eq) =
      goes_unread old new b (record r { stage = stage_behind rules old b place es vs; listed = _ })
      (subst (λ ps. IsUnread (stage_after rules old ps (place_behind rules.page_up rules.block_size place es))) (sym (none_admitted vs (addresses b (old.filling b) place es) none)) (index_unread old _)) eq
    where
      none : AllRefused vs
      none = subst AllRefused (ap given_verdicts issued ∙ verdicts_issued old b (stage_behind rules old b place es vs) vs) refused

  scanned_unread : (old new : State C) (b : ℕ) (r : Reclaim) (stage : Stage) (came : model_step.ReadResult) (it : model_reply.Reply C) → IsUnread stage → AllRefused (given_verdicts it)
      → Scanned rules old b r stage came it new → IsUnreadIn (new.reclaims b)
  scanned_unread old new b r (AtIndex place) model_step.Fault it unread refused ok = goes_unread old new b (record r { stage = AllListed }) tt ok.1
  scanned_unread old new b r (AtIndex place) (model_step.Bytes bs) it unread refused ok = lists_unread old new b r place (rules.entries_of place bs) it refused ok
  scanned_unread old new b r (AtRecord h a rest place) came it unread refused ok = absurd unread
  scanned_unread old new b r stage came it unread refused ok = absurd ok

  module _ (Splits : Splitting C) where
    -- a read whose verdicts admit nothing, if no record is read
    read_unread : (old new : State C) (b : ℕ) (came : model_step.ReadResult) (it : model_reply.Reply C) → AllRefused (given_verdicts it) → Follows rules Splits old (model_step.ReclaimRead b came) it new → KeepsUnread b old new
    read_unread old new b came (model_reply.NotNow back) refused ok = λ unread.
        (same_idle old new (ap (λ c. c.flushers) ok.2), subst (λ c. IsUnreadIn (c.reclaims b)) (sym ok.2) unread)
    read_unread old new b came (model_reply.Refused kind back) refused ok = λ unread.
        (same_idle old new (ap (λ c. c.flushers) ok.2), subst (λ c. IsUnreadIn (c.reclaims b)) (sym ok.2) unread)
    read_unread old new b came it refused (few, turn, (done, does, eq)) = λ unread.
        let goes = go (old.reclaims b) unread does in
        (λ f idle. subst (λ c. IsIdle (c.flushers f)) (sym eq) (goes.0 f idle), subst (λ c. IsUnreadIn (c.reclaims b)) (sym eq) goes.1)
      where
        go : (r : Option Reclaim) → IsUnreadIn r → Rereads rules old b r came it done → KeepsIdle old done × IsUnreadIn (done.reclaims b)
        go None unread ok = absurd ok
        go (Some r) unread ok = (same_idle old done (scanned_same old done b r r.stage came it unread ok), scanned_unread old done b r r.stage came it unread refused ok)

    -- a block is picked
    picked_unread : (old new : State C) (b : ℕ) (answers : List (Option ℕ)) (probation : List ℕ) → Follows rules Splits old model_step.ReclaimBegin (model_reply.Picked b answers probation) new → IsUnreadIn (new.reclaims b)
    picked_unread old new b answers probation (few, turn, (done, does, eq)) =
        subst (λ c. IsUnreadIn (c.reclaims b)) (sym eq)
        (subst (λ c. IsUnreadIn (c.reclaims b)) (sym does.4) (subst IsUnreadIn (sym (put_same old.reclaims b (Some (record { stage = AtIndex 0; listed = []; requeued = [] })))) tt))

    -- each other step of a reclaim keeps idle flushers
    pub follows_idle : (old new : State C) (given : model_step.Step C) (it : model_reply.Reply C) → IsOfReclaim given → Follows rules Splits old given it new → KeepsIdle old new
    follows_idle old new given (model_reply.NotNow back) is ok = same_idle old new (ap (λ c. c.flushers) ok.2)
    follows_idle old new given (model_reply.Refused kind back) is ok = same_idle old new (ap (λ c. c.flushers) ok.2)
    follows_idle old new given it is (few, turn, (done, does, eq)) =
        λ f idle. subst (λ c. IsIdle (c.flushers f)) (sym eq) (go given is does f idle)
      where
        go : (given : model_step.Step C) → IsOfReclaim given → Rattle.foyer_core_model.specs.Changes.Changes rules Splits old given it done → KeepsIdle old done
        go model_step.ReclaimBegin is ok = same_idle old done (picks_same old done it ok)
        go (model_step.ReclaimForget b) is ok = same_idle old done (forgets_same old done b (old.reclaims b) it ok)
        go (model_step.ReclaimCleaned b is_ok) is ok = cleaned_idle old done b it ok
        go given is ok = absurd is

-- what a reply's verdicts are
abbrev answered_verdicts : {K V P A : Type 0} → Reply K V P A → List Bool
answered_verdicts (reply.Scan b offset len vs) = verdicts_of vs
answered_verdicts (reply.Listed vs) = verdicts_of vs
answered_verdicts answer = []

-- verdicts without a filter
none_judged : {Q : Type 0} (may : Q → IoState → ℕ → ℕ → StorageFilterResult → Type 0) (io : IoState) (infos : List EntryInfo) (vs : List Bool) → AllZip (IsVerdictOn may None io) infos vs → AllRefused vs
none_judged may io [] [] all = tt
none_judged may io (i ∷ is) (true ∷ vs) all = absurd (let clash : true ≡ false = all.0 in cc)
none_judged may io (i ∷ is) (false ∷ vs) all = none_judged may io is vs all.1
none_judged may io [] (v ∷ vs) all = absurd all
none_judged may io (i ∷ is) [] all = absurd all

none_reread : {Q : Type 0} (may : Q → IoState → ℕ → ℕ → StorageFilterResult → Type 0) (io : IoState) (infos : Option (List EntryInfo)) (vs : List Bool) → IsReread may None io infos (Some vs) → AllRefused vs
none_reread may io None vs reread = absurd reread
none_reread may io (Some infos) vs reread = none_judged may io infos vs reread

none_on : {Q : Type 0} (may : Q → IoState → ℕ → ℕ → StorageFilterResult → Type 0) (io : IoState) (bytes : List ℕ) (r : Reclaiming) (w : Option Wanted) (vs : List Bool) → AreOn may None io bytes r w (Some vs) → AllRefused vs
none_on may io bytes r (Some (wanted.Index place)) vs on = none_reread may io (index_infos bytes r) vs on
none_on may io bytes r (Some (wanted.Record e)) vs on = absurd (let clash : Some vs ≡ None = on in cc)
none_on may io bytes r None vs on = absurd (let clash : Some vs ≡ None = on in cc)

none_given : {A Q : Type 0} (may : Q → IoState → ℕ → ℕ → StorageFilterResult → Type 0) (io : IoState) (came : Result (Vec ℕ A) Error) (o : Option Reclaiming) (vs : Option (Vec Bool A)) → HasJudged may None io came o (verdict_list vs) → AllRefused (verdicts_of vs)
none_given may io came o None has = tt
none_given may io (Ok bytes) (Some r) (Some v) has = none_on may io bytes.items r (wanted_of r) v.items has
none_given may io (Ok bytes) None (Some v) has = absurd (let clash : Some v.items ≡ None = has in cc)
none_given may io (Err e) o (Some v) has = absurd (let clash : Some v.items ≡ None = has in cc)

none_answered : {K V P A Q : Type 0} (may : Q → IoState → ℕ → ℕ → StorageFilterResult → Type 0) (io : IoState) (b : ℕ) (came : Result (Vec ℕ A) Error) (answer : Reply K V P A) (core : Core K V P A) → IsJudged may None io b came answer core → AllRefused (answered_verdicts answer)
none_answered may io b came (reply.Scan c offset len vs) core judged = none_given may io came (reclaim_at core.reclaims b) vs judged
none_answered may io b came (reply.Listed vs) core judged = none_given may io came (reclaim_at core.reclaims b) vs judged
none_answered may io b came answer core judged = tt

module _ {K V P A : Type 0} (m : Meaning K V P) where
  same_verdicts : (answer : Reply K V P A) (it : model_reply.Reply Content) → IsReply m answer it → given_verdicts it ≡ answered_verdicts answer
  same_verdicts (reply.NotNow back) it is = ap given_verdicts is
  same_verdicts (reply.Refused why back) it is = ap given_verdicts is.2
  same_verdicts (reply.Ignored piece) it is = ap given_verdicts is
  same_verdicts (reply.Queued q) it is = ap given_verdicts is
  same_verdicts (reply.Dropped piece q) it is = ap given_verdicts is
  same_verdicts (reply.Deleted q) it is = ap given_verdicts is
  same_verdicts reply.Done it is = ap given_verdicts is
  same_verdicts (reply.Answer b) it is = ap given_verdicts is
  same_verdicts reply.Miss it is = ap given_verdicts is
  same_verdicts reply.Throttled it is = ap given_verdicts is
  same_verdicts (reply.Read t) it is = ap given_verdicts is
  same_verdicts (reply.Entry key value age) it is = ap given_verdicts is
  same_verdicts reply.Empty it is = ap given_verdicts is
  same_verdicts (reply.Received back) it is = ap given_verdicts is
  same_verdicts (reply.Began blocks marks) it is = ap given_verdicts is.2
  same_verdicts (reply.Write block writes) it is = ap given_verdicts is
  same_verdicts reply.NoBlock it is = ap given_verdicts is
  same_verdicts reply.Next it is = ap given_verdicts is
  same_verdicts (reply.Committed n) it is = ap given_verdicts is
  same_verdicts reply.Failed it is = ap given_verdicts is
  same_verdicts (reply.Ended pieces waits) it is = ap given_verdicts is.2
  same_verdicts (reply.Picked b answers probation) it is = ap given_verdicts is
  same_verdicts (reply.Scan block offset len verdicts) it is = ap given_verdicts is
  same_verdicts (reply.Listed verdicts) it is = ap given_verdicts is
  same_verdicts (reply.Clean block) it is = ap given_verdicts is
  same_verdicts (reply.Destroying q) it is = ap given_verdicts is
  same_verdicts reply.Cleared it is = ap given_verdicts is.1
  same_verdicts (reply.Destroyed first) it is = ap given_verdicts is.2

  -- a read that is judged by no filter
  pub unread_kept : {Q : Type 0} (may : Q → IoState → ℕ → ℕ → StorageFilterResult → Type 0) (filter : Option (List Q)) (io : IoState) (b : ℕ) (outcome : Result (Vec ℕ A) Error) (answer : Reply K V P A) (old new : Core K V P A)
      → IsJudged may filter io b outcome answer old → Refines m (step.ReclaimRead b outcome) answer old new → Leads m (Without filter (KeepsUnread b)) old new
  unread_kept may filter io b outcome answer old new judged refines = λ s sound it at.
      let met = refines s sound it at in (
        met.after,
        met.stands,
        λ none.
            let refused : AllRefused (answered_verdicts answer) = none_answered may io b outcome answer old (subst (λ f. IsJudged may f io b outcome answer old) none judged) in
            read_unread (machine m s sound) (layout s) it met.after b (came_of outcome) met.it (subst AllRefused (sym (same_verdicts answer met.it met.reply)) refused) met.follows,
      )

  pub unread_none : {Q : Type 0} (filter : Option (List Q)) (b : ℕ) (core : Core K V P A) → Leads m (Without filter (KeepsUnread b)) core core
  unread_none filter b core = leads_none m (Without filter (KeepsUnread b)) core (λ it none unread. ((λ f idle. idle), unread))

  pub unread_more : {Q : Type 0} (filter other : Option (List Q)) (b : ℕ) (a c d : Core K V P A) → other ≡ filter
      → Leads m (Without filter (KeepsUnread b)) a c → Leads m (Without other (KeepsUnread b)) c d → Leads m (Without filter (KeepsUnread b)) a d
  unread_more filter other b a c d same one two =
      leads_more m (Without filter (KeepsUnread b)) (Without other (KeepsUnread b)) (Without filter (KeepsUnread b)) a c d
      (λ x y z first next none unread.
      let f = first none unread in
      let g = next (same ∙ none) f.1 in
      ((λ k idle. g.0 k (f.0 k idle)), g.1)) one two

  -- from the pick of a block on
  pub unread_picked : {Q : Type 0} (filter other : Option (List Q)) (b : ℕ) (answers : _) (probation : _) (old begun read : Core K V P A) → other ≡ filter
      → Refines m step.ReclaimBegin (reply.Picked b answers probation) old begun → Leads m (Without other (KeepsUnread b)) begun read → Leads m (Without filter KeepsIdle) old read
  unread_picked filter other b answers probation old begun read same begins led = λ s sound it at.
      let met = begins s sound it at in
      let next = led s sound met.after met.stands in (
        next.0,
        next.1,
        λ none f idle.
            let rules = machine m s sound in
            let picked = subst (λ i. Follows rules (layout s) it model_step.ReclaimBegin i met.after) met.reply met.follows in
            (next.2 (same ∙ none) (picked_unread rules (layout s) it met.after b answers.items probation.items picked)).0 f
            (follows_idle rules (layout s) it met.after model_step.ReclaimBegin met.it tt met.follows f idle),
      )

  pub idle_kept : {Q : Type 0} (filter : Option (List Q)) (given : Step K V P A) (answer : Reply K V P A) (old new : Core K V P A) → IsOfReclaim (step_of m given) → Refines m given answer old new → Leads m (Without filter KeepsIdle) old new
  idle_kept filter given answer old new is refines = λ s sound it at.
      let met = refines s sound it at in
      (met.after, met.stands, λ none. follows_idle (machine m s sound) (layout s) it met.after (step_of m given) met.it is met.follows)

  pub idle_more : {Q : Type 0} (filter : Option (List Q)) (a b c : Core K V P A) → Leads m (Without filter KeepsIdle) a b → Leads m (Without filter KeepsIdle) b c → Leads m (Without filter KeepsIdle) a c
  idle_more filter a b c one two =
      leads_more m (Without filter KeepsIdle) (Without filter KeepsIdle) (Without filter KeepsIdle) a b c (λ x y z first next none f idle. next none f (first none f idle)) one two

-- what a reply is of
data Sort : Type 0 where
  Picking : Sort
  Cleaning : Sort
  Finishing : Sort
  Back : Sort
  Other : Sort

abbrev sort : {C : Type 0} → model_reply.Reply C → Sort
sort (model_reply.Picked b answers probation) = Picking
sort (model_reply.Cleans b) = Cleaning
sort model_reply.Done = Finishing
sort (model_reply.NotNow back) = Back
sort (model_reply.Refused kind back) = Back
sort it = Other

abbrev sort_of : {K V P A : Type 0} → Reply K V P A → Sort
sort_of (reply.Picked b answers probation) = Picking
sort_of (reply.Clean b) = Cleaning
sort_of reply.Done = Finishing
sort_of (reply.NotNow back) = Back
sort_of (reply.Refused why back) = Back
sort_of answer = Other

module _ {K V P : Type 0} (m : Meaning K V P) where
  picks_or_back : (s : Settings) (sound : AreValid s) (it after : State Content) (r : model_reply.Reply Content) → Follows (machine m s sound) (layout s) it model_step.ReclaimBegin r after → (sort r ≡ Picking) ⊎ (sort r ≡ Back)
  picks_or_back s sound it after (model_reply.NotNow back) ok = inr refl
  picks_or_back s sound it after (model_reply.Refused kind back) ok = inr refl
  picks_or_back s sound it after (model_reply.Picked b answers probation) ok = inl refl
  picks_or_back s sound it after r (few, turn, (done, does, eq)) = absurd does

  cleans_or_back : (s : Settings) (sound : AreValid s) (it after : State Content) (b : ℕ) (r : model_reply.Reply Content) → Follows (machine m s sound) (layout s) it (model_step.ReclaimForget b) r after → (sort r ≡ Cleaning) ⊎ (sort r ≡ Back)
  cleans_or_back s sound it after b (model_reply.NotNow back) ok = inr refl
  cleans_or_back s sound it after b (model_reply.Refused kind back) ok = inr refl
  cleans_or_back s sound it after b r (few, turn, (done, does, eq)) = inl (go (it.reclaims b) r does)
    where
      go : (o : Option Reclaim) (q : model_reply.Reply Content) → Forgets (machine m s sound) it b o q done → sort q ≡ Cleaning
      go (Some k) (model_reply.Cleans d) ok = refl
      go o q ok = absurd ok

  ends_or_back : (s : Settings) (sound : AreValid s) (it after : State Content) (b : ℕ) (is_ok : Bool) (r : model_reply.Reply Content) → Follows (machine m s sound) (layout s) it (model_step.ReclaimCleaned b is_ok) r after → (sort r ≡ Finishing) ⊎ (sort r ≡ Back)
  ends_or_back s sound it after b is_ok (model_reply.NotNow back) ok = inr refl
  ends_or_back s sound it after b is_ok (model_reply.Refused kind back) ok = inr refl
  ends_or_back s sound it after b is_ok model_reply.Done ok = inl refl
  ends_or_back s sound it after b is_ok r (few, turn, (done, does, eq)) = absurd does

module _ {K V P A : Type 0} (m : Meaning K V P) where
  sorted : (answer : Reply K V P A) (it : model_reply.Reply Content) → IsReply m answer it → sort it ≡ sort_of answer
  sorted (reply.NotNow back) it is = ap sort is
  sorted (reply.Refused why back) it is = ap sort is.2
  sorted (reply.Ignored piece) it is = ap sort is
  sorted (reply.Queued q) it is = ap sort is
  sorted (reply.Dropped piece q) it is = ap sort is
  sorted (reply.Deleted q) it is = ap sort is
  sorted reply.Done it is = ap sort is
  sorted (reply.Answer b) it is = ap sort is
  sorted reply.Miss it is = ap sort is
  sorted reply.Throttled it is = ap sort is
  sorted (reply.Read t) it is = ap sort is
  sorted (reply.Entry key value age) it is = ap sort is
  sorted reply.Empty it is = ap sort is
  sorted (reply.Received back) it is = ap sort is
  sorted (reply.Began blocks marks) it is = ap sort is.2
  sorted (reply.Write block writes) it is = ap sort is
  sorted reply.NoBlock it is = ap sort is
  sorted reply.Next it is = ap sort is
  sorted (reply.Committed n) it is = ap sort is
  sorted reply.Failed it is = ap sort is
  sorted (reply.Ended pieces waits) it is = ap sort is.2
  sorted (reply.Picked b answers probation) it is = ap sort is
  sorted (reply.Scan block offset len verdicts) it is = ap sort is
  sorted (reply.Listed verdicts) it is = ap sort is
  sorted (reply.Clean block) it is = ap sort is
  sorted (reply.Destroying q) it is = ap sort is
  sorted reply.Cleared it is = ap sort is.1
  sorted (reply.Destroyed first) it is = ap sort is.2

  over_of : (answer : Reply K V P A) → (sort_of answer ≡ Finishing) ⊎ (sort_of answer ≡ Back) → (answer ≡ reply.Done) ⊎ IsHandedBack answer
  over_of reply.Done is = inl refl
  over_of (reply.NotNow back) is = inr tt
  over_of (reply.Refused why back) is = inr tt
  over_of (reply.Picked b answers probation) (inl e) = absurd (let f : Picking ≡ Finishing = e in cc)
  over_of (reply.Picked b answers probation) (inr e) = absurd (let f : Picking ≡ Back = e in cc)
  over_of (reply.Clean b) (inl e) = absurd (let f : Cleaning ≡ Finishing = e in cc)
  over_of (reply.Clean b) (inr e) = absurd (let f : Cleaning ≡ Back = e in cc)
  over_of answer (inl e) = absurd (let f : Other ≡ Finishing = e in cc)
  over_of answer (inr e) = absurd (let f : Other ≡ Back = e in cc)

  not_picking : (answer : Reply K V P A) → ((b : ℕ) (answers : _) (probation : _) → answer ≡ reply.Picked b answers probation → ⊥) → sort_of answer ≡ Picking → ⊥
  not_picking (reply.Picked b answers probation) not e = not b answers probation refl
  not_picking (reply.Clean b) not e = let f : Cleaning ≡ Picking = e in cc
  not_picking reply.Done not e = let f : Finishing ≡ Picking = e in cc
  not_picking (reply.NotNow back) not e = let f : Back ≡ Picking = e in cc
  not_picking (reply.Refused why back) not e = let f : Back ≡ Picking = e in cc
  not_picking answer not e = let f : Other ≡ Picking = e in cc

  not_cleaning : (answer : Reply K V P A) → ((b : ℕ) → answer ≡ reply.Clean b → ⊥) → sort_of answer ≡ Cleaning → ⊥
  not_cleaning (reply.Clean b) not e = not b refl
  not_cleaning (reply.Picked b answers probation) not e = let f : Picking ≡ Cleaning = e in cc
  not_cleaning reply.Done not e = let f : Finishing ≡ Cleaning = e in cc
  not_cleaning (reply.NotNow back) not e = let f : Back ≡ Cleaning = e in cc
  not_cleaning (reply.Refused why back) not e = let f : Back ≡ Cleaning = e in cc
  not_cleaning answer not e = let f : Other ≡ Cleaning = e in cc

  as_sort : (answer : Reply K V P A) (it : model_reply.Reply Content) (k : Sort) → IsReply m answer it → sort it ≡ k → sort_of answer ≡ k
  as_sort answer it k is e = sym (sorted answer it is) ∙ e

  -- if no block is picked, the step is returned
  pub begin_over : (answer : Reply K V P A) (old new : Core K V P A) → ((b : ℕ) (answers : _) (probation : _) → answer ≡ reply.Picked b answers probation → ⊥) → Refines m step.ReclaimBegin answer old new → IsOver m old answer
  begin_over answer old new not refines s sound it at =
      let met = refines s sound it at in
      elim (picks_or_back m s sound it met.after met.it met.follows) [
        | inl e ↦ absurd (not_picking answer not (as_sort answer met.it Picking met.reply e))
        | inr e ↦ over_of answer (inr (as_sort answer met.it Back met.reply e))
      ]

  -- what leads to a step may come before it
  pub over_behind : (R : State Content → State Content → Type 0) (a b : Core K V P A) (answer : Reply K V P A) → Leads m R a b → IsOver m b answer → IsOver m a answer
  over_behind R a b answer leads over s sound it at = let led = leads s sound it at in over s sound led.0 led.1

  pub forget_over : (block : ℕ) (answer : Reply K V P A) (old new : Core K V P A) → ((b : ℕ) → answer ≡ reply.Clean b → ⊥) → Refines m (step.ReclaimForget block) answer old new → IsOver m old answer
  forget_over block answer old new not refines s sound it at =
      let met = refines s sound it at in
      elim (cleans_or_back m s sound it met.after block met.it met.follows) [
        | inl e ↦ absurd (not_cleaning answer not (as_sort answer met.it Cleaning met.reply e))
        | inr e ↦ over_of answer (inr (as_sort answer met.it Back met.reply e))
      ]

  pub cleaned_over : (block : ℕ) (outcome : _) (answer : Reply K V P A) (old new : Core K V P A) → Refines m (step.ReclaimCleaned block outcome) answer old new → IsOver m old answer
  cleaned_over block outcome answer old new refines s sound it at =
      let met = refines s sound it at in
      elim (ends_or_back m s sound it met.after block (Rattle.foyer_core_steps.specs.Asked.went_well outcome) met.it met.follows) [
        | inl e ↦ over_of answer (inl (as_sort answer met.it Finishing met.reply e))
        | inr e ↦ over_of answer (inr (as_sort answer met.it Back met.reply e))
      ]
