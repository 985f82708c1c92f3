-- What the calls' proofs use.
use Rattle.std.specs.Prelude.{◌^◌}
use Rattle.std.proofs.lemmas.Bool.{eqb-true, eqb-false}
use Rattle.std.specs.declared.alloc.Global.{Global}
use Rattle.std.specs.declared.vec.Vec.{Vec}
use Rattle.foyer_device_page.specs.declared.error.Error.{Error}
use Rattle.foyer_policy_piece.specs.Referred.{Referred}
use Rattle.foyer_core_laws.specs.Content.{Meaning, content}
use Rattle.foyer_core_laws.specs.Settings.{Settings}
use Rattle.foyer_core_model.specs.Access.{CleanIssued}
use Rattle.foyer_core_steps.specs.declared.step.Step.{Step}
use Rattle.foyer_core_steps.specs.declared.step.Step.TheVariants as steps
use Rattle.foyer_core_told.specs.declared.event.Told.{Told}
use Rattle.foyer_core_told.specs.Telling.{HasStepped}
use Rattle.foyer_io_told.specs.ToldAccess.{HasClean}
use Rattle.foyer_io_told.proofs.ToldAccessLemmas.{known_on}
use Rattle.foyer_core_threads.specs.Asking.{HasSizes, IsLoadReply}
use Rattle.foyer_core_threads.specs.Going.{GoesOn, IsMadeAgain}
use Rattle.foyer_core_threads.specs.Newest.{WasMissedWritten, WasPutLast}
use Rattle.foyer_core_threads.proofs.AgainLemmas.{tried_on}
use Rattle.foyer_core_threads.proofs.GoingLemmas.{on_on, same_on}
use Rattle.foyer_storage_engine.specs.Answering.{IsLoadOf}
use Rattle.foyer_storage_engine.specs.declared.load.Load.{Load}
use Rattle.foyer_block_manager.proofs.BlockStateLemmas.{some_is}
use Rattle.foyer_core_access.specs.Reclaims.{part_in}
use Rattle.foyer_core_access.specs.declared.reclaims.Part.{Part}
use Rattle.foyer_core_steps.specs.declared.reply.Reply.{Reply}
use Rattle.foyer_core_steps.specs.declared.reply.Reply.TheVariants as replies
use Rattle.foyer_core_told.proofs.ToldRightLemmas.{rights_there}
use Rattle.foyer_core_told.specs.ToldRights.{clean_right, rights_count, scan_right, writes_right}
use Rattle.foyer_device_page.specs.declared.error.ErrorKind.TheVariants as kind
use Rattle.foyer_core_shared.specs.Briefed.{IsNotedIn}
use Rattle.foyer_core_shared.specs.Briefs.{brief_of, reply_brief, step_brief}
use Rattle.foyer_core_shared.specs.declared.brief.ReplyBrief.{ReplyBrief}
use Rattle.foyer_core_shared.specs.Kinds.{kind_of}
use Rattle.foyer_core_shared.specs.Sessions.{SessionState, is_close, is_destroy}
use Rattle.foyer_core_tally.specs.declared.kinds.Counts.{Counts}
use Rattle.foyer_core_tally.specs.declared.kinds.StepKind.TheVariants.{Other}
use Rattle.foyer_core_threads.specs.Done.{AreNoted, IsNotedAgain}
use Rattle.foyer_storage_engine.specs.Ending.{HoldsBut, HoldsButCloses, HoldsButDestroys, HoldsTally}
use Rattle.foyer_storage_engine.proofs.HoldingLemmas.{closed_by_made, destroyed_by_made, destroys_on, held_but_same, held_by_refusal}
use Rattle.std.proofs.Common.{◌≡◌, ◌⊎◌, inl, inr, ℕ, zero, suc, ◌+◌, ◌-◌, ◌<◌, ◌≤◌, ◌==◌, Bool, true, false, true≢false, Some, None, List, [], ◌∷◌, ◌++◌, refl, sym, ap, ◌∙◌, subst, append_assoc, append-nil, arith, Result, Ok, Err, IfErr, OnOk, slice_get}
use Rattle.foyer_core_chronicle.specs.declared.View.{View}
use Rattle.foyer_storage_history.specs.Releasing.{AnswersWait}
use Rattle.foyer_storage_history.specs.HistoryCalls.{AreCleaned, IsAllDestroyed, IsAnswerTo, IsCleared, IsDestroyed, IsEndAnswering, IsNewestAnswer, IsSeenBy, IsWaitedFor, cleared_as, is_nil}

pub nil_is : {X : Type 0} (xs : List X) → is_nil xs ≡ true → xs ≡ []
nil_is [] is = refl
nil_is (x ∷ xs) is = absurd (true≢false (sym is))

-- each has seen what it has seen
pub seen_self : {E : Type 0} (v : View E) → IsSeenBy v v
seen_self v = ([], sym (append-nil v.seen))

pub seen_on : {E : Type 0} (v w u : View E) → IsSeenBy v w → IsSeenBy w u → IsSeenBy v u
seen_on v w u first next = (first.0 ++ next.0, next.1 ∙ ap (λ l. l ++ next.0) first.1 ∙ append_assoc v.seen first.0 next.0)

pub writes_below : (f : ℕ) → f < 2 ^ 32 → writes_right f < rights_count
writes_below f below = rights_there.writes f below

pub cleans_below : (b : ℕ) → b < 2 ^ 32 → clean_right b < rights_count
cleans_below b below = rights_there.cleans b below

pub scans_below : (b : ℕ) → b < 2 ^ 32 → scan_right b < rights_count
scans_below b below = rights_there.scans b below

-- the reply that asks for a part
pub scan_of : {K V P A : Type 0} (answer : Reply K V P A) (more : Part) → part_in answer ≡ Some more → (b : ℕ) × (verdicts : _) × (answer ≡ replies.Scan b more.offset more.len verdicts)
scan_of (replies.Scan b offset len verdicts) more is = (b, verdicts, ap (λ (p : Part). replies.Scan b p.offset p.len verdicts) (some_is is))
scan_of answer more is = let no_part : None ≡ Some more = is in cc

pub ok_of : {X P : Type 0} (result : Result X Error) → P → OnOk result P
ok_of (Ok x) holds = holds
ok_of (Err e) holds = tt

pub ok_map : {X P Q : Type 0} (result : Result X Error) → (P → Q) → OnOk result P → OnOk result Q
ok_map (Ok x) so holds = so holds
ok_map (Err e) so holds = tt

pub ok_map2 : {X P Q R : Type 0} (result : Result X Error) → (P → Q → R) → OnOk result P → OnOk result Q → OnOk result R
ok_map2 (Ok x) so holds also = so holds also
ok_map2 (Err e) so holds also = tt

pub err_map : {X : Type 0} {P Q : Error → Type 0} (result : Result X Error) → ((e : Error) → P e → Q e) → IfErr result P → IfErr result Q
err_map (Ok x) so holds = tt
err_map (Err e) so holds = so e holds

pub err_of : {X : Type 0} {P : Error → Type 0} (result : Result X Error) → ((e : Error) → P e) → IfErr result P
err_of (Ok x) all = tt
err_of (Err e) all = all e

pub ok_cleared : {K V P So : Type 0} (reply : Reply K V P Global) (done : Result (Unit {0}) Error) → cleared_as reply ≡ Some done → (reply ≡ replies.Cleared → So) → OnOk done So
ok_cleared {So = So} replies.Cleared done is so = subst (λ r. OnOk r So) (some_is is) (so refl)
ok_cleared {So = So} (replies.Refused kind back) done is so = subst (λ r. OnOk r So) (some_is is) tt
ok_cleared reply done is so = let no_answer : None ≡ Some done = is in cc

below_or_at : (n f : ℕ) → f < n + 1 → (f < n) ⊎ (f ≡ n)
below_or_at n f below = go (f == n) refl
  where
    go : (t : Bool) → (f == n) ≡ t → (f < n) ⊎ (f ≡ n)
    go true is = inr (eqb-true f n is)
    go false is = let apart : f ≡ n → ⊥ = eqb-false f n is in inl (omega arith)

-- as many steps of each of the seven named kinds, over two calls
tally_then : (old between new : SessionState) → HoldsTally old between → HoldsTally between new → HoldsTally old new
tally_then old between new first next = next ∙ ap (λ (x : Counts). record x { other = new.shares.amounts.other }) first

-- what a session counts of the refusals of a step
refusals_but : {K V P : Type 0} (times : ℕ) (old new : SessionState) (step : Step K V P Global) → AreNoted false times old new step → HoldsBut (step_brief step) old new
refusals_but zero old new step same = subst (HoldsBut (step_brief step) old) (sym same) (held_but_same (step_brief step) old)
refusals_but (suc n) old new step (between, before, inl noted) = held_by_refusal old between new (step_brief step) kind.Memory (refusals_but n old between step before) noted.counted noted.ends
refusals_but (suc n) old new step (between, before, inr none) = absurd (true≢false (sym none.0))

-- A step that begins a destroy is counted as no other step but one of a destroy.
pub destroys_named : {K V P : Type 0} (old new : SessionState) (step : Step K V P Global) (answer : Reply K V P Global) → kind_of (brief_of step answer) ≡ Other → is_close (step_brief step) ≡ false
    → IsNotedAgain false old new step answer → HoldsButDestroys old new
destroys_named old new step answer other unclosed (before, refused, noted) =
    let held = refusals_but refused.0 old before step refused.1 in
    destroys_on old before new (held.0, held.1 unclosed) (destroyed_by_made false before new step answer other unclosed (inl noted))

-- A close is counted as no other step but a close.
pub closes_named : {K V P : Type 0} (old new : SessionState) (step : Step K V P Global) (answer : Reply K V P Global) → kind_of (brief_of step answer) ≡ Other → is_destroy (step_brief step) ≡ false
    → IsNotedAgain false old new step answer → HoldsButCloses old new
closes_named old new step answer other kept (before, refused, noted) =
    let held = refusals_but refused.0 old before step refused.1 in
    let last = closed_by_made false before new step answer other kept (inl noted) in
    (tally_then old before new held.0 last.0, last.1 ∙ held.2 kept)

-- the note of a step, if notes aren't kept
pub noted_one : {K V P X Y : Type 0} (old new : SessionState) (step : Step K V P Global) (answer : Reply K V P Global) → IsNotedIn old new step answer ⊎ ((false ≡ true) × X × Y) → IsNotedIn old new step answer
noted_one old new step answer (inl noted) = noted
noted_one old new step answer (inr none) = absurd (true≢false (sym none.0))

module _ {K V P D : Type 0} (m : Meaning K V P) (byte_at : D → ℕ → ℕ → ℕ) where
  pub goes_self : (v : View (Told K V P Global D)) → GoesOn m byte_at v v
  goes_self v = same_on m byte_at v v refl

  pub goes_on : (v w u : View (Told K V P Global D)) → GoesOn m byte_at v w → GoesOn m byte_at w u → GoesOn m byte_at v u
  goes_on v w u first next = on_on m byte_at v w u first next

  pub sees : (v w : View (Told K V P Global D)) → GoesOn m byte_at v w → IsSeenBy v w
  sees v w on = (on.more, on.seen)

  -- a step that core made, whose notes aren't kept
  pub made_one : {X Y : Type 0} (mine after : View (Told K V P Global D)) (step : Step K V P Global) (answer : Reply K V P Global) (n : ℕ)
      → HasStepped m byte_at mine after step answer n ⊎ ((false ≡ true) × X × Y) → HasStepped m byte_at mine after step answer n
  made_one mine after step answer n (inl stepped) = stepped
  made_one mine after step answer n (inr none) = absurd (true≢false (sym none.0))

  -- a call that made one step
  pub answer_to : {A X Y Z W : Type 0} (says : ReplyBrief → Result A Error) (mine after : View (Told K V P Global D)) (old new : SessionState) (step : Step K V P Global) (reply : Reply K V P Global) (n : ℕ) (answered : Result A Error)
      → HasStepped m byte_at mine after step reply n ⊎ ((false ≡ true) × X × Y) → IsNotedIn old new step reply ⊎ ((false ≡ true) × Z × W) → new.shares.parts ≡ old.shares.parts → answered ≡ says (reply_brief reply)
      → IsAnswerTo m byte_at says mine after old new step answered
  answer_to says mine after old new step reply n answered stepped noted parts said = record {
    reply = reply;
    number = n;
    stepped = made_one mine after step reply n stepped;
    left = record { noted = noted_one old new step reply noted; parts = parts };
    said = said;
  }

  pub tried_sees : (mine after : View (Told K V P Global D)) (step : Step K V P Global) (answer : Reply K V P Global) (made : IsMadeAgain m byte_at mine after step answer) → IsSeenBy mine made.tried
  tried_sees mine after step answer made = sees mine made.tried (tried_on m byte_at made.times step mine made.tried made.refused)

  -- a load's answer, by its reply
  pub newest_answer : (mine after : View (Told K V P Global D)) (hash : ℕ) (reply : Reply K V P Global) (answered : Result (Load K V P Global) Error) → IsLoadReply false false reply → IsLoadOf reply answered
      → ((key : K) (value : V) (age : _) → reply ≡ replies.Entry key value age → WasPutLast m byte_at mine.seen after.seen hash (content m key value))
      → (reply ≡ replies.Miss → WasMissedWritten m byte_at mine.seen after.seen hash) → IsNewestAnswer m byte_at mine after hash answered
  newest_answer mine after hash (replies.Entry key value age) answered may is newest missed = subst (IsNewestAnswer m byte_at mine after hash) (sym is) (newest key value age refl)
  newest_answer mine after hash replies.Miss answered may is newest missed = subst (IsNewestAnswer m byte_at mine after hash) (sym is) (missed refl)
  newest_answer mine after hash replies.Throttled answered (inl look) is newest missed = absurd (true≢false (sym look))
  newest_answer mine after hash replies.Throttled answered (inr (inl end)) is newest missed = absurd (true≢false (sym end.1))
  newest_answer mine after hash replies.Throttled answered (inr (inr none)) is newest missed = absurd (true≢false (sym none.0))
  newest_answer mine after hash (replies.Refused kind back) answered may is newest missed = subst (IsNewestAnswer m byte_at mine after hash) (sym is) tt
  newest_answer mine after hash reply answered may is newest missed = subst (IsNewestAnswer m byte_at mine after hash) (sym is) tt

  -- the end of a batch
  pub end_answers : (mine after : View (Told K V P Global D)) (flusher id : ℕ) (reply : Reply K V P Global) (pieces : Vec (Referred K V P) Global) (waits : Vec ℕ Global) (at : ℕ)
      → IsMadeAgain m byte_at mine after (steps.FlushEnd flusher) reply → reply ≡ replies.Ended pieces waits → slice_get waits.items at ≡ Some id → IsEndAnswering m byte_at mine after flusher id
  end_answers mine after flusher id reply pieces waits at made is own = record {
    ended = made.tried;
    answered = after;
    number = made.number;
    pieces = pieces;
    waits = waits;
    at = at;
    first = tried_sees mine after (steps.FlushEnd flusher) reply made;
    stepped = subst (λ r. HasStepped m byte_at made.tried after (steps.FlushEnd flusher) r made.number) is made.made;
    own = own;
    last = seen_self after;
  }

  pub end_answering : (mine after : View (Told K V P Global D)) (flusher id : ℕ) (reply : Reply K V P Global) → IsMadeAgain m byte_at mine after (steps.FlushEnd flusher) reply → AnswersWait id reply → IsEndAnswering m byte_at mine after flusher id
  end_answering mine after flusher id (replies.Ended pieces waits) made answers = end_answers mine after flusher id (replies.Ended pieces waits) pieces waits answers.0 made refl answers.1
  end_answering mine after flusher id reply made answers = absurd answers

  pub answers_after : (v w u : View (Told K V P Global D)) (flusher id : ℕ) → GoesOn m byte_at v w → IsEndAnswering m byte_at w u flusher id → IsEndAnswering m byte_at v u flusher id
  answers_after v w u flusher id on ends = record {
    ended = ends.ended;
    answered = ends.answered;
    number = ends.number;
    pieces = ends.pieces;
    waits = ends.waits;
    at = ends.at;
    first = seen_on v w ends.ended (sees v w on) ends.first;
    stepped = ends.stepped;
    own = ends.own;
    last = ends.last;
  }

  pub answers_before : (v w u : View (Told K V P Global D)) (flusher id : ℕ) → IsEndAnswering m byte_at v w flusher id → IsSeenBy w u → IsEndAnswering m byte_at v u flusher id
  answers_before v w u flusher id ends seen = record {
    ended = ends.ended;
    answered = ends.answered;
    number = ends.number;
    pieces = ends.pieces;
    waits = ends.waits;
    at = ends.at;
    first = ends.first;
    stepped = ends.stepped;
    own = ends.own;
    last = seen_on ends.answered w u ends.last seen;
  }

  -- A wait: who asks sees what the caller has seen, asks, writes until it is answered, and shows that.
  pub waited : (mine seer asked flushed after : View (Told K V P Global D)) (flusher id : ℕ) (reply : Reply K V P Global) → IsSeenBy mine seer → IsMadeAgain m byte_at seer asked (steps.Wait flusher id) reply → reply ≡ replies.Done
      → IsEndAnswering m byte_at asked flushed flusher id → IsSeenBy flushed after → IsWaitedFor m byte_at mine after flusher
  waited mine seer asked flushed after flusher id reply seen made is ends shown = record {
    begun = made.tried;
    queued = asked;
    id = id;
    number = made.number;
    first = seen_on mine seer made.tried seen (tried_sees seer asked (steps.Wait flusher id) reply made);
    stepped = subst (λ r. HasStepped m byte_at made.tried asked (steps.Wait flusher id) r made.number) is made.made;
    answered = answers_before asked flushed after flusher id ends shown;
  }

  waited_later : (v w u : View (Told K V P Global D)) (flusher : ℕ) → IsWaitedFor m byte_at v w flusher → IsSeenBy w u → IsWaitedFor m byte_at v u flusher
  waited_later v w u flusher is seen = record {
    begun = is.begun;
    queued = is.queued;
    id = is.id;
    number = is.number;
    first = is.first;
    stepped = is.stepped;
    answered = answers_before is.queued w u flusher is.id is.answered seen;
  }

  waited_earlier : (v w u : View (Told K V P Global D)) (flusher : ℕ) → IsSeenBy v w → IsWaitedFor m byte_at w u flusher → IsWaitedFor m byte_at v u flusher
  waited_earlier v w u flusher seen is = record {
    begun = is.begun;
    queued = is.queued;
    id = is.id;
    number = is.number;
    first = seen_on v w is.begun seen is.first;
    stepped = is.stepped;
    answered = is.answered;
  }

  -- one flusher more
  pub waited_more : (v w u : View (Told K V P Global D)) (n : ℕ) → GoesOn m byte_at v w → GoesOn m byte_at w u → ((f : ℕ) → f < n → IsWaitedFor m byte_at v w f) → IsWaitedFor m byte_at w u n
      → (f : ℕ) → f < n + 1 → IsWaitedFor m byte_at v u f
  waited_more v w u n first next before one f below =
      elim (below_or_at n f below) [
        | inl less ↦ waited_later v w u f (before f less) (sees w u next)
        | inr same ↦ subst (λ k. IsWaitedFor m byte_at v u k) (sym same) (waited_earlier v w u n (sees v w first) one)
      ]

  -- the clear of a destroy, after what was written before
  pub cleared_after : (v w u : View (Told K V P Global D)) (blocks : ℕ) (reply : Reply K V P Global) → GoesOn m byte_at v w → IsMadeAgain m byte_at w u steps.DestroyClear reply → reply ≡ replies.Cleared
      → ((block : ℕ) → block < blocks → reply ≡ replies.Cleared → HasClean m byte_at u.seen block CleanIssued) → IsCleared m byte_at v u blocks
  cleared_after v w u blocks reply on made is issued = record {
    begun = w;
    first = sees v w on;
    clear = subst (IsMadeAgain m byte_at w u steps.DestroyClear) is made;
    issued = λ block below. issued block below is;
  }

  pub cleaned_after : (v w u : View (Told K V P Global D)) (last : ℕ) (answered : Result (Unit {0}) Error) → GoesOn m byte_at v w → AreCleaned m byte_at w u last answered → AreCleaned m byte_at v u last answered
  cleaned_after v w u last answered on cleans = record {
    next = cleans.next;
    reply = cleans.reply;
    first = seen_on v w cleans.next (sees v w on) cleans.first;
    clean = cleans.clean;
    said = cleans.said;
  }

  pub destroyed : (mine seer asked cleared cleaned after : View (Told K V P Global D)) (blocks : ℕ) (answered : Result (Unit {0}) Error) → IsSeenBy mine seer → GoesOn m byte_at seer asked → IsCleared m byte_at asked cleared blocks
      → AreCleaned m byte_at cleared cleaned (blocks - 1) answered → IsSeenBy cleaned after → IsDestroyed m byte_at mine after (blocks - 1) answered
  destroyed mine seer asked cleared cleaned after blocks answered seen on clears cleans shown = record {
    begun = clears.begun;
    cleared = cleared;
    cleaned = cleaned;
    first = seen_on mine asked clears.begun (seen_on mine seer asked seen (sees seer asked on)) clears.first;
    clear = clears.clear;
    clean = cleans;
    ended = shown;
  }

  pub destroyed_after : (v w u : View (Told K V P Global D)) (last : ℕ) (answered : Result (Unit {0}) Error) → GoesOn m byte_at v w → IsDestroyed m byte_at w u last answered → IsDestroyed m byte_at v u last answered
  destroyed_after v w u last answered on is = record {
    begun = is.begun;
    cleared = is.cleared;
    cleaned = is.cleaned;
    first = seen_on v w is.begun (sees v w on) is.first;
    clear = is.clear;
    clean = is.clean;
    ended = is.ended;
  }

  -- what is known of the sizes is known to who sees more
  pub sizes_shown : (v w : View (Told K V P Global D)) (sizes : Settings) → HasSizes m byte_at v.seen sizes → IsSeenBy v w → HasSizes m byte_at w.seen sizes
  sizes_shown v w sizes knows shown = known_on m byte_at v.seen [] (λ s u. s ≡ sizes) w.seen knows (shown.0, shown.1, λ k some. absurd (let none : 0 < 0 = some in omega arith)) (λ s u x keeps h. h)

  pub all_destroyed_after : (v w u : View (Told K V P Global D)) (answered : Result (Unit {0}) Error) → GoesOn m byte_at v w → IsAllDestroyed m byte_at w u answered → IsAllDestroyed m byte_at v u answered
  all_destroyed_after v w u answered on is = record {
    sizes = is.sizes;
    known = is.known;
    some = is.some;
    destroyed = destroyed_after v w u (is.sizes.blocks - 1) answered on is.destroyed;
  }

  -- the cleans of the blocks behind one that was cleaned
  pub issued_more : (v w : View (Told K V P Global D)) (block blocks : ℕ) → blocks < 2 ^ 32 → ((other : ℕ) → (other ≡ block → ⊥) → other < 2 ^ 32 → HasClean m byte_at v.seen other CleanIssued → HasClean m byte_at w.seen other CleanIssued)
      → ((other : ℕ) → block ≤ other → other < blocks → HasClean m byte_at v.seen other CleanIssued) → (other : ℕ) → block + 1 ≤ other → other < blocks → HasClean m byte_at w.seen other CleanIssued
  issued_more v w block blocks bound stay issued other above below = stay other (λ same. omega arith) (omega arith) (issued other (omega arith) below)
