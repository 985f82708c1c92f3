-- No read for a reclaim and no clean is issued again before it is reported.
use Rattle.std.proofs.Common.{◌≡◌, ℕ, List, [], ◌∷◌, Option, Some, None, refl, sym, ap, ◌∙◌, subst}
use Rattle.foyer_core_model.specs.Numbers.{put}
use Rattle.foyer_core_model.specs.Rules.{Rules, Splitting}
use Rattle.foyer_core_model.specs.State.{Evictable, Reclaims, Stage, AllListed, Reclaim, Destroy, State}
use Rattle.foyer_core_model.specs.Step.{Step, ReclaimBegin, ReclaimRead, ReclaimForget, DestroyClear}
use Rattle.foyer_core_model.specs.Reply.{Reply, NotNow, Refused, Picked, Scans, Listed, Cleans, Cleared}
use Rattle.foyer_core_model.specs.InTurn.{IsAt}
use Rattle.foyer_core_model.specs.Follows.{Follows}
use Rattle.foyer_core_model.specs.Access.{CleanState, CleanIdle, CleanDone, ReadState, ReadIssued, Scan, scans_after, cleans_after, at_scan, begun, read_torn, came, will_cover, clean_will_cover, clean_begun, clean_ended}
use Rattle.foyer_core_model.specs.World.{World, WorldEvent, Applies, ReadBegins, ReadEnds, ScanBegins, ScanEnds, WriteBegins, WriteEnds, CleanBegins, CleanEnds, covers, after, after_all, MayHappen, MayAllHappen}
use Rattle.foyer_core_model.specs.Opened.{IsOpened}
use Rattle.foyer_core_model.specs.Laws.{Demands, IsReached}
use Rattle.foyer_core_model.proofs.Basics.{put_at, put_other}
use Rattle.foyer_core_model.proofs.Rereads.{ReclaimOk, still_of}
use Rattle.foyer_core_model.proofs.RereadsKept.{new_again}
use Rattle.foyer_core_model.proofs.OpenedSound.{new_sound, new_sets}
use Rattle.foyer_core_model.proofs.SoundKept.{IsKnown, known_keeps}
use Rattle.foyer_core_rights.specs.Deeds.{Deed, Steps, ReadsAt, ScansAt, WritesAt, CleansAt, OfScan, Takes, IsOfScan, IssuesClean, events_in, after_deed}
use Rattle.foyer_core_rights.specs.Frames.{IsSettled, IssuedStays}
use Rattle.foyer_core_rights.proofs.FrameLemmas.{frames}
use Rattle.foyer_core_rights.proofs.IssuedSteps.{StageHas, BlockHas, AllHave, block_less, steps_have}

module _ {C : Type 0} (rules : Rules C) where
  -- a step that isn't returned, and one that is
  follows_has : (Splits : Splitting C) (w : World C) (step : Step C) (reply : Reply C) (new : State C) → ((b : ℕ) (r : Reclaim) → w.core.reclaims b ≡ Some r → w.core.place b ≡ Reclaims)
      → Follows rules Splits w.core step reply new → AllHave w.core.reclaims w.core.destroy w.scans w.clean_states
      → AllHave new.reclaims new.destroy (scans_after rules.index_size reply step w.scans) (cleans_after reply step w.clean_states)
  follows_has Splits w step (NotNow back) new held ok has = subst (λ (x : State C). AllHave x.reclaims x.destroy w.scans w.clean_states) (sym ok.2) has
  follows_has Splits w step (Refused kind back) new held ok has = subst (λ (x : State C). AllHave x.reclaims x.destroy w.scans w.clean_states) (sym ok.2) has
  follows_has Splits w step reply new held (few, turn, (made, changes, is)) has =
      subst (λ (x : State C). AllHave x.reclaims x.destroy (scans_after rules.index_size reply step w.scans) (cleans_after reply step w.clean_states)) (sym is)
      (steps_have rules Splits w.core made step reply w.scans w.clean_states held turn changes has)

  none_at : (f : ℕ → ReadState → ReadState) (b : ℕ) (o : Option Scan) → o ≡ None → at_scan f b o ≡ None
  none_at f b o is = ap (at_scan f b) is

  none_put : (f : ℕ → ReadState → ReadState) (scans : ℕ → Option Scan) (b c : ℕ) → scans c ≡ None → put scans b (at_scan f b (scans b)) c ≡ None
  none_put f scans b c is = put_at (λ o. o ≡ None) scans b (at_scan f b (scans b)) c (λ same. none_at f b (scans b) (ap scans (sym same) ∙ is)) (λ _. is)

  idle_put : (f : CleanState → CleanState) (states : ℕ → CleanState) (b c : ℕ) → f CleanIdle ≡ CleanIdle → states c ≡ CleanIdle → put states b (f (states b)) c ≡ CleanIdle
  idle_put f states b c calm is = put_at (λ o. o ≡ CleanIdle) states b (f (states b)) c (λ same. ap f (ap states (sym same) ∙ is) ∙ calm) (λ _. is)

  event_has : (Splits : Splitting C) (is_value : C → Type 0) (w : World C) (e : WorldEvent C) → ((b : ℕ) (r : Reclaim) → w.core.reclaims b ≡ Some r → w.core.place b ≡ Reclaims)
      → MayHappen rules Splits is_value w e → AllHave w.core.reclaims w.core.destroy w.scans w.clean_states
      → AllHave (after rules w e).core.reclaims (after rules w e).core.destroy (after rules w e).scans (after rules w e).clean_states
  event_has Splits is_value w (Applies step reply new) held may has c = follows_has Splits w step reply new held may.1 has c
  event_has Splits is_value w (ReadBegins n) held may has c = has c
  event_has Splits is_value w (ReadEnds n result) held may has c = has c
  event_has Splits is_value w (ScanBegins b) held may has c =
      block_less (w.core.reclaims c) w.core.destroy c (w.scans c) _ (w.clean_states c) (w.clean_states c) (none_put (begun (covers rules w)) w.scans b c) (λ is. is) (has c)
  event_has Splits is_value w (ScanEnds b result) held may has c =
      block_less (w.core.reclaims c) w.core.destroy c (w.scans c) _ (w.clean_states c) (w.clean_states c) (none_put (λ _. came result) w.scans b c) (λ is. is) (has c)
  event_has Splits is_value w (WriteBegins f) held may has c =
      block_less (w.core.reclaims c) w.core.destroy c (w.scans c) _ (w.clean_states c) (w.clean_states c) (none_at (read_torn (will_cover (w.block_writes f))) c (w.scans c)) (λ is. is) (has c)
  event_has Splits is_value w (WriteEnds f ok g) held may has c = has c
  event_has Splits is_value w (CleanBegins b) held may has c =
      block_less (w.core.reclaims c) w.core.destroy c (w.scans c) _ (w.clean_states c) _ (none_at (read_torn (clean_will_cover b (w.clean_states b))) c (w.scans c)) (idle_put clean_begun w.clean_states b c refl) (has c)
  event_has Splits is_value w (CleanEnds b ok g) held may has c =
      block_less (w.core.reclaims c) w.core.destroy c (w.scans c) (w.scans c) (w.clean_states c) _ (λ is. is) (idle_put (clean_ended ok) w.clean_states b c refl) (has c)

  opened_has : (w : World C) → IsOpened rules w → AllHave w.core.reclaims w.core.destroy w.scans w.clean_states
  opened_has w opened b = subst (λ (x : Option Reclaim). BlockHas x w.core.destroy b (w.scans b) (w.clean_states b)) (sym (opened.reclaims b)) (opened.scans b, λ free. opened.clean_states b)

  module _ (Splits : Splitting C) (is_value : C → Type 0) (demands : Demands rules Splits is_value) where
    held_place : (w : World C) → IsKnown rules Splits is_value demands w → (b : ℕ) (r : Reclaim) → w.core.reclaims b ≡ Some r → w.core.place b ≡ Reclaims
    held_place w known b r is = (subst (λ o. ReclaimOk rules w.core.index (still_of rules w) w.core.place b o (w.scans b)) is (known.again.stages b)).0

    all_have : (w : World C) (events : List (WorldEvent C)) → MayAllHappen rules Splits is_value w events → IsKnown rules Splits is_value demands w → AllHave w.core.reclaims w.core.destroy w.scans w.clean_states
        → IsKnown rules Splits is_value demands (after_all rules w events)
        × AllHave (after_all rules w events).core.reclaims (after_all rules w events).core.destroy (after_all rules w events).scans (after_all rules w events).clean_states
    all_have w [] may known has = (known, has)
    all_have w (e ∷ es) may known has =
        all_have (after rules w e) es may.1 (known_keeps rules Splits is_value demands w e may.0 known) (event_has Splits is_value w e (held_place w known) may.0 has)

    reached_has : (w : World C) → IsReached rules Splits is_value w → IsKnown rules Splits is_value demands w × AllHave w.core.reclaims w.core.destroy w.scans w.clean_states
    reached_has w reached =
        subst (λ (x : World C). IsKnown rules Splits is_value demands x × AllHave x.core.reclaims x.core.destroy x.scans x.clean_states) reached.is
        (all_have reached.first reached.events reached.happened
        (record { sound = new_sound rules reached.first reached.opened; again = new_again rules reached.first reached.opened; sets = new_sets rules reached.first reached.opened })
        (opened_has reached.first reached.opened))

    scan_stays : (w : World C) (reply : Reply C) (step : Step C) (new : State C) (b : ℕ) (s : Scan) → ((c : ℕ) (r : Reclaim) → w.core.reclaims c ≡ Some r → w.core.place c ≡ Reclaims) → MayHappen rules Splits is_value w (Applies step reply new)
        → AllHave w.core.reclaims w.core.destroy w.scans w.clean_states → (IsOfScan step b → ⊥) → w.scans b ≡ Some s → scans_after rules.index_size reply step w.scans b ≡ Some s
    scan_stays w (Picked c answers probation) ReclaimBegin new b s held (_, (few, turn, (made, picks, is))) has free h = go (w.core.reclaims b) refl (has b)
      where
        apart : w.core.place b ≡ Reclaims → b ≡ c → ⊥
        apart place same = let e : Evictable ≡ Reclaims = sym picks.1 ∙ ap w.core.place (sym same) ∙ place in cc

        go : (o : Option Reclaim) → w.core.reclaims b ≡ o → BlockHas o w.core.destroy b (w.scans b) (w.clean_states b)
            → put w.scans c (Some (record { offset = 0; len = rules.index_size; read_state = ReadIssued })) b ≡ Some s
        go None at here = absurd (let e : None ≡ Some s = sym here.0 ∙ h in cc)
        go (Some r) at here = put_other w.scans c _ b (apart (held b r at)) ∙ h
    scan_stays w (Scans d o n verdicts) (ReclaimRead c came) new b s held may has free h = put_other w.scans c _ b (λ e. free (sym e)) ∙ h
    scan_stays w (Listed verdicts) (ReclaimRead c came) new b s held may has free h = put_other w.scans c _ b (λ e. free (sym e)) ∙ h
    scan_stays w reply step new b s held may has free h = h

    listed_idle : (w : World C) (b : ℕ) (o : Option Reclaim) → IsAt AllListed o → BlockHas o w.core.destroy b (w.scans b) (w.clean_states b) → w.clean_states b ≡ CleanIdle
    listed_idle w b (Some r) at has = (subst (λ (x : Stage). StageHas x (w.scans b) (w.clean_states b)) at has.1).1
    listed_idle w b None at has = absurd at

    -- if a clean of a block is issued, the block had none before
    issues_one : (w : World C) (d : Deed C) (b : ℕ) → AllHave w.core.reclaims w.core.destroy w.scans w.clean_states → MayAllHappen rules Splits is_value w (events_in d) → IssuesClean d b → w.clean_states b ≡ CleanIdle
    issues_one w (Steps (ReclaimForget c) (Cleans k) new) b has ((_, (few, turn, made)), _) same = ap w.clean_states (sym same) ∙ listed_idle w c (w.core.reclaims c) turn.1 (has c)
    issues_one w (Steps DestroyClear (Cleared bs) new) b has ((_, (few, turn, made)), _) same =
        (subst (λ (x : Option Reclaim × Destroy). BlockHas x.0 x.1 b (w.scans b) (w.clean_states b)) (λ i. (turn.2 b i, turn.0 i)) (has b)).1 refl
    issues_one w d b has may issues = absurd issues

    pub stays : (w : World C) (d : Deed C) → IsReached rules Splits is_value w → MayAllHappen rules Splits is_value w (events_in d) → IssuedStays rules w d
    stays w d reached may =
        let known = reached_has w reached in
        record { scans = λ b s calm free h. scan_on w d known.0 known.1 may b s calm free h; cleaned = λ b ok free h. (frames rules w d).cleaned b ok free (λ issues. let e : CleanDone ok ≡ CleanIdle = sym h ∙ issues_one w d b known.1 may issues in cc) h }
      where
        scan_on : (w : World C) (d : Deed C) → IsKnown rules Splits is_value demands w → AllHave w.core.reclaims w.core.destroy w.scans w.clean_states → MayAllHappen rules Splits is_value w (events_in d) → (b : ℕ) (s : Scan)
            → IsSettled s.read_state → (Takes d (OfScan b) → ⊥) → w.scans b ≡ Some s → (after_deed rules w d).scans b ≡ Some s
        scan_on w (Steps step reply new) known has may b s calm free h = scan_stays w reply step new b s (held_place w known) may.0 has free h
        scan_on w (ReadsAt n result) known has may b s calm free h = (frames rules w (ReadsAt n result)).scans b s calm free (λ none. none) h
        scan_on w (ScansAt c result) known has may b s calm free h = (frames rules w (ScansAt c result)).scans b s calm free (λ none. none) h
        scan_on w (WritesAt f ok torn) known has may b s calm free h = (frames rules w (WritesAt f ok torn)).scans b s calm free (λ none. none) h
        scan_on w (CleansAt c ok torn) known has may b s calm free h = (frames rules w (CleansAt c ok torn)).scans b s calm free (λ none. none) h
