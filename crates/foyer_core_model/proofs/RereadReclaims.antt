-- It stays through reclaims and destroys.
use Rattle.std.proofs.Common.{◌≡◌, ℕ, ◌+◌, ◌<◌, ◌≤◌, nat_le, nat_lt, Bool, true, false, if◌then◌else◌, List, [], ◌∷◌, ◌++◌, length, take, Option, Some, None, inl, inr, refl, sym, ap, subst, ◌∙◌, arith}
use Rattle.foyer_core_model.specs.Kind.{Kind}
use Rattle.foyer_core_model.specs.Numbers.{put, last_number, plus}
use Rattle.foyer_core_model.specs.Record.{Address, Slot, Indexed, Outcome, IndexEntry}
use Rattle.foyer_core_model.specs.State.{Remove, Reinsert, BlockSet, Clean, Writes, Evictable, Reclaims, Stage, AtIndex, AtRecord, AllListed, ToClean, Reclaim, Destroy, NoDestroy, Begun, Cleaning, State}
use Rattle.foyer_core_model.specs.Rules.{Rules, flusher_of, first_position}
use Rattle.foyer_core_model.specs.Step.{ReadResult, Bytes, Fault, ReclaimBegin, ReclaimRead, ReclaimForget, ReclaimCleaned, DestroyBegin, DestroyClear}
use Rattle.foyer_core_model.specs.Reply.{Reply, Done, Picked, Listed, Cleans, Destroying, Cleared}
use Rattle.foyer_core_model.specs.Index.{forgotten}
use Rattle.foyer_format_layout.specs.BlockBytes.{read}
use Rattle.foyer_core_model.specs.Reclaim.{not_among, addresses, admitted, place_behind, Picks, stage_after, issued_at, reclaiming, Lists, Rereads, Forgets, Cleaned}
use Rattle.foyer_core_model.specs.Destroy.{vacated, refilled, BeginsDestroy, Clears, CleansOne}
use Rattle.foyer_core_model.specs.InTurn.{MayClear}
use Rattle.foyer_core_model.specs.Event.{Event, Put, Destruction, newest}
use Rattle.foyer_core_model.specs.Access.{ReadIssued, Scan, scans_after, came}
use Rattle.foyer_core_model.specs.World.{World, Applies, IsBrought, after}
use Rattle.foyer_core_model.proofs.Basics.{put_at, put_same, put_other, put_both}
use Rattle.foyer_core_model.proofs.Invariant.{Ground, ground_of, IsSolid, ReadStateHolds, WorldInvariant, AllWait}
use Rattle.foyer_format_layout.proofs.EachLaws.{each_join}
use Rattle.foyer_core_model.proofs.FlushEnds.{failed}
use Rattle.foyer_core_model.proofs.FlushBlocks.{issued}
use Rattle.foyer_core_model.proofs.ReclaimSteps.{plus_one}
use Rattle.foyer_core_model.proofs.Rereads.{AllHere, ScanOk, StageOk, ReclaimOk, IsAgainIn, still_of, IsAgain, forgotten_stays, wait_drifts, barred_here, drifted, removed, one_waits, one_reclaim, solid_at}
use Rattle.foyer_core_model.proofs.RereadFlushes.{pushes, issued_state}

module _ {C : Type 0} (rules : Rules C) where
  pub pick_goes : (w : World C) (reply : Reply C) (new : State C) → Picks rules w.core reply new → IsAgain rules w → IsAgain rules (after rules w (Applies ReclaimBegin reply new))
  pick_goes w (Picked b answers probation) new ok again =
      subst (λ k. IsAgain rules (record w { core = k; scans = put w.scans b (Some (record { offset = 0; len = rules.index_size; read_state = ReadIssued })) })) (sym ok.4)
      (one_reclaim rules w.core.index w.history (still_of rules w) (put w.core.place b Reclaims) w.core.flushers w.core.reclaims w.scans _ b (Some (record { stage = AtIndex 0; listed = []; requeued = [] }))
      (λ c ne. put_other w.scans b _ c ne) (put_same w.core.place b Reclaims, tt, tt)
      (drifted rules w.core.index w.core.index w.history w.history (still_of rules w) (still_of rules w) w.core.place (put w.core.place b Reclaims) w.core.flushers w.core.reclaims w.scans
      (λ h a s x e barred faith. faith) (λ h a barred is. is)
      (λ a barred. (barred.0, λ e q. put_at (λ p. p ≡ Writes q → ⊥) w.core.place b Reclaims a.block (λ _ mine. let z : Reclaims ≡ Writes q = mine in cc) (λ _ mine. barred.1 e q mine)))
      (λ c r _ at. (put_at (λ p. p ≡ Reclaims) w.core.place b Reclaims c (λ _. refl) (λ _. at), refl)) (λ c. refl) again))
  pick_goes w reply new ok again = absurd ok

  pub forget_goes : (w : World C) (b : ℕ) (r : Option Reclaim) (reply : Reply C) (new : State C) → w.core.reclaims b ≡ r → Forgets rules w.core b r reply new → IsAgain rules w → IsAgain rules (after rules w (Applies (ReclaimForget b) reply new))
  forget_goes w b (Some r) (Cleans d) new is ok again =
      issued_state rules w new _ ok.1
      (removed rules w.core.index (forgotten (not_among r.requeued r.listed) w.core.index) w.history (still_of rules w) w.core.place w.core.flushers _ w.scans (λ h a. forgotten_stays (not_among r.requeued r.listed) w.core.index h a)
      (one_reclaim rules w.core.index w.history (still_of rules w) w.core.place w.core.flushers w.core.reclaims w.scans w.scans b (Some (record r { stage = ToClean })) (λ c _. refl)
      (let was : ReclaimOk rules w.core.index (still_of rules w) w.core.place b (Some r) (w.scans b) = subst (λ q. ReclaimOk rules w.core.index (still_of rules w) w.core.place b q (w.scans b)) is (again.stages b) in (was.0, was.1, tt)) again))
  forget_goes w b r reply new is ok again = absurd ok

  -- a block that was reclaimed: its reclaim is over before it moves
  pub reclaim_over : (w : World C) (b : ℕ) → IsAgain rules w → IsAgainIn rules w.core.index w.history (still_of rules w) w.core.place w.core.flushers (put w.core.reclaims b None) w.scans
  reclaim_over w b again = one_reclaim rules w.core.index w.history (still_of rules w) w.core.place w.core.flushers w.core.reclaims w.scans w.scans b None (λ c _. refl) tt again

  pub elsewhere : (w : World C) (b c : ℕ) (r : Reclaim) → put w.core.reclaims b None c ≡ Some r → c ≡ b → ⊥
  elsewhere w b c r is at = let e : None ≡ Some r = sym (ap (put w.core.reclaims b None) at ∙ put_same w.core.reclaims b None) ∙ is in cc

  pub clean_goes : (w : World C) (b : ℕ) (well : Bool) (reply : Reply C) (new : State C) → Cleaned rules w.core b reply new → IsAgain rules w → IsAgain rules (after rules w (Applies (ReclaimCleaned b well) reply new))
  clean_goes w b well Done new ok again =
      elim ok [
        | inl (f, others, waits, room, eq) ↦ issued_state rules w new _ eq
            (drifted rules w.core.index w.core.index w.history w.history (still_of rules w) (record { filled = λ b. first_position rules; filling = put w.core.filling b (w.core.filling b + 1); bytes = w.bytes })
            w.core.place (put w.core.place b (Writes f)) _ (put w.core.reclaims b None) w.scans
            (λ h a s x e barred faith. faith) (λ h a barred is. is)
            (λ a barred. (
              put_at (λ n. a.filling ≤ n) w.core.filling b (w.core.filling b + 1) a.block
                  (λ at. let le : a.filling ≤ w.core.filling b = subst (λ k. a.filling ≤ w.core.filling k) at barred.0 in omega arith) (λ _. barred.0),
              put_both (λ k n p. k ≡ a.block → a.filling ≡ n → (q : ℕ) → p ≡ Writes q → ⊥) w.core.filling w.core.place b (w.core.filling b + 1) (Writes f)
                  (λ at e q mine. let le : a.filling ≤ w.core.filling b = subst (λ k. a.filling ≤ w.core.filling k) (sym at) barred.0 in absurd (omega arith))
                  (λ k ne at e q mine. barred.1 (e ∙ ap w.core.filling at) q (ap w.core.place (sym at) ∙ mine)) a.block refl,
            ))
            (λ c r is at. (put_other w.core.place b (Writes f) c (elsewhere w b c r is) ∙ at, put_other w.core.filling b (w.core.filling b + 1) c (elsewhere w b c r is))) (λ c. refl)
            (one_waits rules w.core.index w.history (still_of rules w) w.core.place w.core.flushers (put w.core.reclaims b None) w.scans f (record (w.core.flushers f) { ready = Some b })
            (λ t. record { batch = t.batch; buffer = t.buffer; queue = t.queue }) (reclaim_over w b again)))
        | inr (nobody, eq) ↦ issued_state rules w new _ eq
            (drifted rules w.core.index w.core.index w.history w.history (still_of rules w) (still_of rules w) w.core.place (put w.core.place b Clean) w.core.flushers (put w.core.reclaims b None) w.scans
            (λ h a s x e barred faith. faith) (λ h a barred is. is)
            (λ a barred. (barred.0, λ e q. put_at (λ p. p ≡ Writes q → ⊥) w.core.place b Clean a.block (λ _ mine. let z : Clean ≡ Writes q = mine in cc) (λ _ mine. barred.1 e q mine)))
            (λ c r is at. (put_other w.core.place b Clean c (elsewhere w b c r is) ∙ at, refl)) (λ c. refl)
            (reclaim_over w b again))
      ]
  clean_goes w b well reply new ok again = absurd ok

  -- no flusher has a block after a destroy
  pub never_writes : (p : BlockSet) (q : ℕ) → vacated p ≡ Writes q → ⊥
  never_writes Clean q e = let z : Clean ≡ Writes q = e in cc
  never_writes (Writes f) q e = let z : Evictable ≡ Writes q = e in cc
  never_writes Evictable q e = let z : Evictable ≡ Writes q = e in cc
  never_writes Reclaims q e = let z : Reclaims ≡ Writes q = e in cc

  pub refilled_above : (blocks : ℕ) (filling : ℕ → ℕ) (b n : ℕ) → filling b < last_number → n ≤ filling b → n ≤ refilled blocks filling b
  refilled_above blocks filling b n few le = go (nat_lt b blocks)
    where
      go : (t : Bool) → n ≤ (if t then plus (filling b) 1 else filling b)
      go true = let p : plus (filling b) 1 ≡ filling b + 1 = plus_one (filling b) few in omega arith
      go false = le

  pub clear_goes : (w : World C) (reply : Reply C) (new : State C) → MayClear w.core → ((b : ℕ) → w.core.filling b < last_number) → Clears rules w.core reply new → IsAgain rules w → IsAgain rules (after rules w (Applies DestroyClear reply new))
  clear_goes w (Cleared bs) new may few ok again =
      subst (λ k. IsAgain rules (record w { core = k; history = Destruction ∷ w.history })) (sym ok.1)
      (record {
        waits = λ f. let t : AllWait rules (λ h. None) (Destruction ∷ w.history) (λ b. vacated (w.core.place b)) (refilled rules.blocks w.core.filling) (w.core.flushers f) =
            wait_drifts rules w.core.index (λ h. None) w.history (Destruction ∷ w.history) w.core.place (λ b. vacated (w.core.place b)) w.core.filling (refilled rules.blocks w.core.filling)
            (λ h a s x e barred faith is. absurd (let q : None ≡ Some (Indexed a) = is in cc))
            (λ a barred. (refilled_above rules.blocks w.core.filling a.block a.filling (few a.block) barred.0, λ e q mine. never_writes (w.core.place a.block) q mine))
            (w.core.flushers f) (again.waits f) in
            record { batch = t.batch; buffer = t.buffer; queue = t.queue };
        stages = λ b. subst (λ r. ReclaimOk rules (λ h. None) (record { filled = λ b. first_position rules; filling = refilled rules.blocks w.core.filling; bytes = w.bytes }) (λ b. vacated (w.core.place b)) b r (w.scans b)) (sym (may.2 b)) tt;
      })
  clear_goes w reply new may few ok again = absurd ok

  pub cleaned_goes : (w : World C) (b : ℕ) (well : Option Kind) (d : Destroy) (reply : Reply C) (new : State C) → CleansOne rules w.core b well d reply new → IsAgain rules w
      → IsAgain rules (record w { core = new })
  cleaned_goes w b well (Cleaning left failed) reply new ok again = issued_state rules w new _ ok.1 again
  cleaned_goes w b well NoDestroy reply new ok again = absurd ok
  cleaned_goes w b well Begun reply new ok again = absurd ok

  pub destroying_goes : (w : World C) (reply : Reply C) (new : State C) → BeginsDestroy rules w.core reply new → IsAgain rules w → IsAgain rules (after rules w (Applies DestroyBegin reply new))
  destroying_goes w (Destroying s) new ok again = issued_state rules w new _ ok.3 (pushes rules w (flusher_of rules 0) (Remove 0 s []) tt again)
  destroying_goes w reply new ok again = absurd ok

  -- a reclaim reads on

  pub addresses_here : (b n place : ℕ) (es : List IndexEntry) → AllHere b n (addresses b n place es)
  addresses_here b n place [] = tt
  addresses_here b n place (e ∷ es) = ((refl, refl), addresses_here b n place es)

  pub admitted_here : (b n : ℕ) (vs : List Bool) (ps : List (ℕ × Address)) → AllHere b n ps → AllHere b n (admitted vs ps)
  admitted_here b n (true ∷ vs) (p ∷ ps) ok = (ok.0, admitted_here b n vs ps ok.1)
  admitted_here b n (false ∷ vs) (p ∷ ps) ok = admitted_here b n vs ps ok.1
  admitted_here b n vs ps ok = tt

  pub no_record : (m : ℕ → Option Slot) (g : Ground) (b place : ℕ) (t : Bool) (scan : Option Scan) → StageOk rules m g b (if t then AtIndex place else AllListed) scan
  no_record m g b place true scan = tt
  no_record m g b place false scan = tt

  pub stage_issued : (w : World C) (b : ℕ) (came : ReadResult) (vs : List Bool) (ps : List (ℕ × Address)) (place : ℕ) → AllHere b (w.core.filling b) ps
      → StageOk rules w.core.index (still_of rules w) b (stage_after rules w.core ps place)
      (scans_after {C = C} rules.index_size (issued_at rules w.core b (stage_after rules w.core ps place) vs) (ReclaimRead b came) w.scans b)
  stage_issued w b came vs [] place ok = no_record w.core.index (still_of rules w) b place (nat_le (place + rules.index_size) rules.block_size) _
  stage_issued w b came vs (p ∷ ps) place ok =
      ((ok.0).0, (ok.0).1, ok.1, subst (ScanOk rules w.core.index (still_of rules w) p.0 p.1) (sym (put_same w.scans b (Some (record { offset = (p.1).offset; len = (p.1).len; read_state = ReadIssued })))) (refl, refl, λ _. tt))

  pub others_issued : (w : World C) (b : ℕ) (came : ReadResult) (vs : List Bool) (stage : Stage) (c : ℕ) → (c ≡ b → ⊥)
      → scans_after {C = C} rules.index_size (issued_at rules w.core b stage vs) (ReclaimRead b came) w.scans c ≡ w.scans c
  others_issued w b came vs (AtIndex place) c ne = put_other w.scans b _ c ne
  others_issued w b came vs (AtRecord h a rest place) c ne = put_other w.scans b _ c ne
  others_issued w b came vs AllListed c ne = put_other w.scans b _ c ne
  others_issued w b came vs ToClean c ne = put_other w.scans b _ c ne

  -- the listing ends
  pub ends_listing : (w : World C) (b : ℕ) (came : ReadResult) (r : Reclaim) (reply : Reply C) (new : State C) → w.core.reclaims b ≡ Some r → reply ≡ Listed [] → new ≡ reclaiming rules w.core b (record r { stage = AllListed }) → IsAgain rules w
      → IsAgain rules (after rules w (Applies (ReclaimRead b came) reply new))
  ends_listing w b came r reply new is issued eq again =
      subst (λ q. IsAgain rules (after rules w (Applies (ReclaimRead b came) q new))) (sym issued)
      (subst (λ k. IsAgain rules (record w { core = k; scans = put w.scans b None })) (sym eq)
      (one_reclaim rules w.core.index w.history (still_of rules w) w.core.place w.core.flushers w.core.reclaims w.scans (put w.scans b None) b (Some (record r { stage = AllListed }))
      (λ c ne. put_other w.scans b None c ne)
      (let was : ReclaimOk rules w.core.index (still_of rules w) w.core.place b (Some r) (w.scans b) = subst (λ q. ReclaimOk rules w.core.index (still_of rules w) w.core.place b q (w.scans b)) is (again.stages b) in (was.0, was.1, tt)) again))

  -- whatever is issued, the accesses of a reclaim's reads are all that changes
  pub after_issued : (P : List (Event C) → (ℕ → Option Scan) → Type 0) (w : World C) (b : ℕ) (came : ReadResult) (vs : List Bool) (stage : Stage) (new : State C)
      → P w.history (scans_after {C = C} rules.index_size (issued_at rules w.core b stage vs) (ReclaimRead b came) w.scans)
      → P (after rules w (Applies (ReclaimRead b came) (issued_at rules w.core b stage vs) new)).history (after rules w (Applies (ReclaimRead b came) (issued_at rules w.core b stage vs) new)).scans
  after_issued P w b came vs (AtIndex place) new ok = ok
  after_issued P w b came vs (AtRecord h a rest place) new ok = ok
  after_issued P w b came vs AllListed new ok = ok
  after_issued P w b came vs ToClean new ok = ok

  pub lists_goes : (w : World C) (b : ℕ) (came : ReadResult) (r : Reclaim) (place : ℕ) (es : Option (List IndexEntry)) (reply : Reply C) (new : State C) → w.core.reclaims b ≡ Some r
      → Lists rules w.core b r place es reply new → IsAgain rules w → IsAgain rules (after rules w (Applies (ReclaimRead b came) reply new))
  lists_goes w b came r place None reply new is ok again = ends_listing w b came r reply new is ok.0 ok.1 again
  lists_goes w b came r place (Some es) reply new is (vs, count, issued, eq) again =
      subst (λ q. IsAgain rules (after rules w (Applies (ReclaimRead b came) q new))) (sym issued)
      (after_issued (λ H scans. IsAgainIn rules new.index H (record { filled = λ b. first_position rules; filling = new.filling; bytes = w.bytes }) new.place new.flushers new.reclaims scans) w b came vs stage new
      (subst (λ k. IsAgainIn rules k.index w.history (record { filled = λ b. first_position rules; filling = k.filling; bytes = w.bytes }) k.place k.flushers k.reclaims
      (scans_after {C = C} rules.index_size (issued_at rules w.core b stage vs) (ReclaimRead b came) w.scans)) (sym eq)
      (one_reclaim rules w.core.index w.history (still_of rules w) w.core.place w.core.flushers w.core.reclaims w.scans _ b (Some (record r { stage = stage; listed = addresses b (w.core.filling b) place es ++ r.listed }))
      (others_issued w b came vs stage)
      (let was : ReclaimOk rules w.core.index (still_of rules w) w.core.place b (Some r) (w.scans b) = subst (λ q. ReclaimOk rules w.core.index (still_of rules w) w.core.place b q (w.scans b)) is (again.stages b) in (
        was.0,
        each_join (λ p. ((p.1).block ≡ b) × ((p.1).filling ≡ w.core.filling b)) (addresses b (w.core.filling b) place es) r.listed (addresses_here b (w.core.filling b) place es) was.1,
        stage_issued w b came vs (admitted vs (addresses b (w.core.filling b) place es)) (place_behind rules.page_up rules.block_size place es) (admitted_here b (w.core.filling b) vs (addresses b (w.core.filling b) place es) (addresses_here b (w.core.filling b) place es)),
      )) again)))
    where
      stage : Stage
      stage = stage_after rules w.core (admitted vs (addresses b (w.core.filling b) place es)) (place_behind rules.page_up rules.block_size place es)

  pub scan_goes : (w : World C) (b : ℕ) (r : Reclaim) (stage : Stage) (came : ReadResult) (reply : Reply C) (new : State C) → w.core.reclaims b ≡ Some r → r.stage ≡ stage
      → ((s : Scan) × (w.scans b ≡ Some s) × IsBrought s.read_state came) → Rattle.foyer_core_model.specs.Reclaim.Scanned rules w.core b r stage came reply new → WorldInvariant rules w → IsAgain rules w
      → IsAgain rules (after rules w (Applies (ReclaimRead b came) reply new))
  scan_goes w b r (AtIndex place) Fault reply new is at fed ok sound again = ends_listing w b Fault r reply new is ok.0 ok.1 again
  scan_goes w b r (AtRecord h a rest place) Fault reply new is at fed ok sound again = ends_listing w b Fault r reply new is ok.0 ok.1 again
  scan_goes w b r (AtIndex place) (Bytes bs) reply new is at fed ok sound again = lists_goes w b (Bytes bs) r place (rules.entries_of place bs) reply new is ok again
  scan_goes w b r (AtRecord h a rest place) (Bytes bs) reply new is at (s, scanned, read_state) ok sound again =
      subst (λ q. IsAgain rules (after rules w (Applies (ReclaimRead b (Bytes bs)) q new))) (sym ok.0)
      (after_issued (λ H scans. IsAgainIn rules new.index H (record { filled = λ b. first_position rules; filling = new.filling; bytes = w.bytes }) new.place new.flushers new.reclaims scans) w b (Bytes bs) [] stage new
      (subst (λ k. IsAgainIn rules k.index w.history (record { filled = λ b. first_position rules; filling = k.filling; bytes = w.bytes }) k.place k.flushers k.reclaims
      (scans_after {C = C} rules.index_size (issued_at rules w.core b stage []) (ReclaimRead b (Bytes bs)) w.scans)) (sym ok.1)
      (one_reclaim rules w.core.index w.history (still_of rules w) w.core.place _ w.core.reclaims w.scans _ b (Some (record r { stage = stage; requeued = (h, a) ∷ r.requeued }))
      (others_issued w b (Bytes bs) [] stage)
      (was.0, was.1, stage_issued w b (Bytes bs) [] rest place (was.2).2)
      (pushes rules w (flusher_of rules (length r.requeued)) (Reinsert h (take a.len bs) a) (
        barred_here rules w.core.place w.core.filling b a was.0 (was.2).0 (was.2).1,
        λ held. let solid : (x : Outcome C) × (newest h w.history ≡ Some (Put h a.sequence x)) × IsSolid rules (ground_of w) w.block_writes h a x =
            solid_at rules w h a sound held ((was.2).1 ∙ ap w.core.filling (sym (was.2).0)) in
            let bytes : take a.len bs ≡ read (w.bytes a.block) a.offset a.len = subst (λ p. ReadStateHolds rules (still_of rules w) a p) read_state ((scan_is (was.2).3).2 held) in
            solid.1 ∙ ap (λ x. Some (Put h a.sequence x)) (sym (ap (λ k. rules.pair_of k h a.sequence) bytes ∙ (solid.2).outcome)),
      ) again))))
    where
      stage : Stage
      stage = stage_after rules w.core rest place

      was : (w.core.place b ≡ Reclaims) × AllHere b (w.core.filling b) r.listed × StageOk rules w.core.index (still_of rules w) b (AtRecord h a rest place) (w.scans b)
      was = subst (λ k. (w.core.place b ≡ Reclaims) × AllHere b (w.core.filling b) r.listed × StageOk rules w.core.index (still_of rules w) b k (w.scans b)) at
          (subst (λ q. ReclaimOk rules w.core.index (still_of rules w) w.core.place b q (w.scans b)) is (again.stages b))

      scan_is : ScanOk rules w.core.index (still_of rules w) h a (w.scans b) → ScanOk rules w.core.index (still_of rules w) h a (Some s)
      scan_is fits = subst (ScanOk rules w.core.index (still_of rules w) h a) scanned fits
  scan_goes w b r stage came reply new is at fed ok sound again = absurd ok

  pub reread_goes : (w : World C) (b : ℕ) (r : Option Reclaim) (came : ReadResult) (reply : Reply C) (new : State C) → w.core.reclaims b ≡ r
      → ((s : Scan) × (w.scans b ≡ Some s) × IsBrought s.read_state came) → Rereads rules w.core b r came reply new → WorldInvariant rules w → IsAgain rules w
      → IsAgain rules (after rules w (Applies (ReclaimRead b came) reply new))
  reread_goes w b None came reply new is fed ok sound again = absurd ok
  reread_goes w b (Some r) came reply new is fed ok sound again = scan_goes w b r r.stage came reply new is refl fed ok sound again
