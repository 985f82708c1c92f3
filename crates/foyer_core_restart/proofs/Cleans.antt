-- A destroy, the cleans of blocks, and the reads of reclaims.
use Rattle.std.proofs.lemmas.Bool.Decides.{nat_tests}
use Rattle.std.proofs.Common.{◌≡◌, ◌≢◌, ℕ, suc, ◌+◌, ◌<◌, ◌≤◌, ◌==◌, nat_lt, Bool, true, false, ◌&&◌, if◌then◌else◌, Option, Some, None, List, [], ◌∷◌, ◌++◌, map, length, slice_index, ◌⊎◌, inl, inr, refl, sym, ap, subst, ◌∙◌, arith}
use Rattle.std.proofs.lemmas.Bool.{eqb-true}
use Rattle.foyer_format_layout.specs.Position.{Sizes, fresh}
use Rattle.foyer_format_layout.specs.BlockBytes.{all_laid, read}
use Rattle.foyer_format_buffer.specs.Position as laid
use Rattle.foyer_format_buffer.specs.Fills.{AreSizes}
use Rattle.foyer_format_buffer.specs.Holding.{Holds}
use Rattle.foyer_format_buffer.proofs.HoldsLemmas.{holds_fresh}
use Rattle.foyer_core_model.specs.Kind.{Kind}
use Rattle.foyer_core_model.specs.Numbers.{put, last_number, plus, page}
use Rattle.foyer_core_model.specs.Ids.{ids, is_id_in, without_id}
use Rattle.foyer_core_model.specs.Record.{Indexed}
use Rattle.foyer_core_model.specs.State.{Stage, AtIndex, AtRecord, AllListed, ToClean, Reclaim, Begun, Cleaning}
use Rattle.foyer_core_model.specs.Rules.{Rules, first_position, sizes_of}
use Rattle.foyer_core_model.specs.Flush.{is_cleaning}
use Rattle.foyer_core_model.specs.Destroy.{vacated, after_clean, refilled}
use Rattle.foyer_core_model.specs.InTurn.{IsAt, AwaitsClean}
use Rattle.foyer_core_model.specs.Step.{Bytes}
use Rattle.foyer_core_model.specs.Access.{BlockWrites, Idle, Issued, InFlight, CleanState, CleanIdle, CleanIssued, CleanInFlight, CleanDone, ReadState, ReadIssued, Reading, ReadDone, Scan, begun, read_torn, came, at_scan, clean_begun, clean_will_cover, clean_ended, bytes_cleaned, writes_covers, some_writes_covers, clean_covers, is_in, IsRead}
use Rattle.foyer_core_model.specs.World.{IsScanned}
use Rattle.foyer_core_model.proofs.Basics.{put_one, put_other, Ascends}
use Rattle.foyer_core_model.proofs.Invariant.{blocks_in, goes_on_in, start_of, writing_in}
use Rattle.foyer_core_model.proofs.Ids.{in_without, in_cases, same_in, later_in}
use Rattle.foyer_core_model.proofs.FlushEnds.{put_self}
use Rattle.foyer_core_model.proofs.ReclaimSteps.{plus_one}
use Rattle.foyer_core_restart.specs.Entries.{filled_to, entry_of, puts_at}
use Rattle.foyer_core_restart.proofs.Tasks.{role_more, TasksOk, IsWrittenIn}
use Rattle.foyer_core_restart.proofs.Safe.{Sight, Job, job_of, job_in, left_in, IsBelow, IsDead, RestOk, sequences_of, puts_in, PhaseReads, ScanReads, StageReads, ReadsOk, IsSafe}
use Rattle.foyer_core_restart.proofs.Puts.{puts_none}
use Rattle.foyer_core_restart.proofs.Owned.{IsOwned, alive}
use Rattle.foyer_core_restart.proofs.Issued.{same_or, awaits_cleaning}
use Rattle.foyer_core_restart.proofs.Writings.{reads_torn, scanned}

-- bytes that are those of a block
bytes_read : (bs : List ℕ) (g : ℕ → ℕ) (o : ℕ) → ((i : ℕ) → i < length bs → slice_index bs i ≡ g (o + i)) → bs ≡ read g o (length bs)
bytes_read [] g o h = refl
bytes_read (b ∷ bs) g o h =
    let zero_there : o + 0 ≡ o = omega arith in
    let first : b ≡ g o = h 0 (omega arith) ∙ ap g zero_there in
    let there : bs ≡ read g (o + 1) (length bs) = bytes_read bs g (o + 1) (λ i l. let e : o + suc i ≡ o + 1 + i = omega arith in h (suc i) (omega arith) ∙ ap g e) in
    cc

still_in : (d x : ℕ) (ys : List ℕ) → (d ≡ x → ⊥) → is_id_in d ys ≡ true → is_id_in d (without_id x ys) ≡ true
still_in d x [] ne is = is
still_in d x (y ∷ ys) ne is = go (x == y) refl (still_in d x ys ne)
  where
    go : (t : Bool) → (x == y) ≡ t → (is_id_in d ys ≡ true → is_id_in d (without_id x ys) ≡ true) → is_id_in d (if t then without_id x ys else y ∷ without_id x ys) ≡ true
    go true e rec = elim (in_cases d y ys is) [ inl at ↦ absurd (ne (at ∙ sym (eqb-true x y e))) | inr there ↦ rec there ]
    go false e rec = elim (in_cases d y ys is) [
      | inl at ↦ subst (λ k. is_id_in d (k ∷ without_id x ys) ≡ true) at (same_in d (without_id x ys))
      | inr there ↦ later_in d y (without_id x ys) (rec there)
    ]

awaits_after : (c : ℕ) (left : List ℕ) (failed : Option Kind) → AwaitsClean c (after_clean left failed) → is_id_in c left ≡ true
awaits_after c [] failed a = absurd a
awaits_after c (b ∷ bs) failed a = a

after_awaits : (c : ℕ) (left : List ℕ) (failed : Option Kind) → is_id_in c left ≡ true → AwaitsClean c (after_clean left failed)
after_awaits c [] failed a = absurd (let e : false ≡ true = a in cc)
after_awaits c (b ∷ bs) failed a = a

module _ (A : Type 0) {C : Type 0} (rules : Rules C) (sizes : AreSizes (sizes_of rules)) where
  -- the index is cleared, and each block begins a new filling
  pub cleared : (v : Sight C) → v.destroy ≡ Begun → ((f : ℕ) → (v.flushers f).batch ≡ None) → ((b : ℕ) → v.reclaims b ≡ None) → ((b : ℕ) → v.filling b < last_number)
      → IsSafe A rules v
      → IsSafe A rules (record v {
        index = λ h. None;
        filling = refilled rules.blocks v.filling;
        place = λ b. vacated (v.place b);
        flushers = λ f. record (v.flushers f) { own = None; ready = None; context = first_position rules };
        destroy = Cleaning (ids rules.blocks) None;
        clean_states = λ b. if is_id_in b (ids rules.blocks) then CleanIssued else v.clean_states b;
        filled = λ b. if nat_lt b rules.blocks then first_position rules else v.filled b;
      })
  cleared v begun idle unread few s = record {
    low = s.low;
    lines = record { lows = s.lines.lows; waits = λ f. record { batch = (s.lines.waits f).batch; buffer = (s.lines.waits f).buffer; queue = (s.lines.waits f).queue } };
    done = record {
      below = λ x i. let k : IsBelow rules s.low v.filling x = s.done.below x i in
          record { sequence = k.sequence; block = k.block; count = let l : x.filling ≤ v.filling x.block = k.count in let m : v.filling x.block ≤ refilled rules.blocks v.filling x.block = more x.block in omega arith };
      unique = s.done.unique;
    };
    slots = λ h a e. absurd (let x : None ≡ Some (Indexed a) = e in cc);
    ups = record { ascends = λ c. (0, subst (λ l. Ascends 0 (sequences_of l) 0) (sym (none c)) (omega arith)); owned = λ f b e. absurd (let x : None ≡ Some b = e in cc) };
    still = λ c living no_job. (fresh sz, subst (Holds sz (v.bytes c) (fresh sz)) (sym (none c)) (holds_fresh sz (v.bytes c) sizes));
    held = λ f. record {
      mine = λ b e. absurd (let x : None ≡ Some b = e in cc);
      writing = λ b ps e. let j : Job C = (b, ps) in absurd (let x : None ≡ Some j = sym (no_job f) ∙ e in cc);
    };
    rests = λ f. subst (λ k. RestOk A sz (filled_to (start_of rules (λ b. if nat_lt b rules.blocks then first_position rules else v.filled b) None (goes_on_in k))) (blocks_in k)) (sym (idle f)) tt;
    well = s.well;
    log = λ c x i. role_more x.role _ _ x (λ e k. elim k [ inl done ↦ inl done | inr (f, ps, is_job, there) ↦ absurd (let j : Job C = (c, ps) in let x : None ≡ Some j = sym (no_job f) ∙ is_job in cc) ]) (s.log c x i);
    apart = record {
      dirty = λ b. dirt b (is_id_in b (ids rules.blocks)) refl;
      idle = λ _ f. (refl, refl);
      none = λ _. unread;
      cleaned = λ b _. none b;
      handed = λ f b e. absurd (let x : None ≡ Some b = e in cc);
    };
    reads = λ b. subst (λ r. ReadsOk sz (v.bytes b) b (refilled rules.blocks v.filling b) r (v.scans b)) (sym (unread b)) tt;
  }
    where
      sz : Sizes
      sz = sizes_of rules

      no_job : (f : ℕ) → job_in (v.flushers f) ≡ None
      no_job f = ap (λ k. job_of (writing_in k)) (idle f)

      more : (b : ℕ) → v.filling b ≤ refilled rules.blocks v.filling b
      more b = go (nat_lt b rules.blocks)
        where
          go : (t : Bool) → v.filling b ≤ (if t then plus (v.filling b) 1 else v.filling b)
          go true = let e : plus (v.filling b) 1 ≡ v.filling b + 1 = plus_one (v.filling b) (few b) in omega arith
          go false = omega arith

      grows : (b : ℕ) → b < rules.blocks → v.filling b < refilled rules.blocks v.filling b
      grows b lt = go (nat_lt b rules.blocks) refl
        where
          go : (t : Bool) → nat_lt b rules.blocks ≡ t → v.filling b < (if t then plus (v.filling b) 1 else v.filling b)
          go true e = let p : plus (v.filling b) 1 ≡ v.filling b + 1 = plus_one (v.filling b) (few b) in omega arith
          go false e = absurd (grind (arith, nat_tests, e, lt))

      none : (b : ℕ) → puts_at b (refilled rules.blocks v.filling b) v.committed ≡ []
      none b = puts_none b (refilled rules.blocks v.filling b) v.committed (λ x i at of.
          let k : IsBelow rules s.low v.filling x = s.done.below x i in
          let l : x.filling ≤ v.filling x.block = k.count in
          let g : v.filling x.block < refilled rules.blocks v.filling x.block = grows x.block k.block in
          let e : refilled rules.blocks v.filling x.block ≡ refilled rules.blocks v.filling b = ap (refilled rules.blocks v.filling) at in
          absurd (omega arith))

      dirt : (b : ℕ) (t : Bool) → is_id_in b (ids rules.blocks) ≡ t → (if t then CleanIssued else v.clean_states b) ≢ CleanIdle → IsAt ToClean (v.reclaims b) ⊎ (is_id_in b (ids rules.blocks) ≡ true)
      dirt b true is e = inr is
      dirt b false is e = absurd (elim (s.apart.dirty b e) [ inl soon ↦ subst (IsAt ToClean) (unread b) soon | inr awaits ↦ subst (AwaitsClean b) begun awaits ])

  -- a destroy has cleaned a block
  pub destroyed : (v : Sight C) (b : ℕ) (left : List ℕ) (failed now_failed : Option Kind) → v.destroy ≡ Cleaning left failed → IsSafe A rules v
      → IsSafe A rules (record v { destroy = after_clean (without_id b left) now_failed; clean_states = put v.clean_states b CleanIdle })
  destroyed v b left failed now_failed is s = record {
    low = s.low;
    lines = s.lines;
    done = s.done;
    slots = s.slots;
    ups = s.ups;
    still = s.still;
    held = s.held;
    rests = s.rests;
    well = s.well;
    log = s.log;
    reads = s.reads;
    apart = record {
      dirty = put_one (λ c k. (k ≡ CleanIdle → ⊥) → IsAt ToClean (v.reclaims c) ⊎ AwaitsClean c (after_clean (without_id b left) now_failed)) v.clean_states b CleanIdle (λ e. absurd (e refl))
          (λ c ne e. elim (s.apart.dirty c e) [ inl soon ↦ inl soon | inr awaits ↦ inr (after_awaits c (without_id b left) now_failed (still_in c b left ne (subst (AwaitsClean c) is awaits))) ]);
      idle = λ _. s.apart.idle cleaning;
      none = λ _. s.apart.none cleaning;
      cleaned = λ c a. s.apart.cleaned c (subst (AwaitsClean c) (sym is) (in_without c b left (awaits_after c (without_id b left) now_failed a)).0);
      handed = s.apart.handed;
    };
  }
    where
      cleaning : is_cleaning v.destroy ≡ true
      cleaning = ap is_cleaning is

  -- a block that is to be cleaned isn't read by a reclaim
  pub unread_dirty : (v : Sight C) (b : ℕ) → IsSafe A rules v → v.clean_states b ≢ CleanIdle → (p : ℕ) → IsAt (AtIndex p) (v.reclaims b) → ⊥
  unread_dirty v b s dirty p = go (v.reclaims b) refl
    where
      go : (r : Option Reclaim) → v.reclaims b ≡ r → IsAt (AtIndex p) r → ⊥
      go None is at = absurd at
      go (Some r) is at = elim (s.apart.dirty b dirty) [
        | inl soon ↦ (let x : r.stage ≡ ToClean = subst (IsAt ToClean) is soon in let y : AtIndex p ≡ ToClean = sym at ∙ x in cc)
        | inr awaits ↦ (let x : None ≡ Some r = sym (s.apart.none (awaits_cleaning b v.destroy awaits) b) ∙ is in cc)
      ]

  -- a clean begins
  pub clean_begins : (v : Sight C) (b : ℕ) (k : CleanState) → v.clean_states b ≡ k → IsSafe A rules v
      → IsSafe A rules (record v { clean_states = put v.clean_states b (clean_begun k); scans = λ c. at_scan (read_torn (clean_will_cover b k)) c (v.scans c) })
  clean_begins v b k is s = scanned A rules (record v { clean_states = put v.clean_states b (clean_begun k) }) (λ c. at_scan (read_torn (clean_will_cover b k)) c (v.scans c))
      (record {
        low = s.low;
        lines = s.lines;
        done = s.done;
        slots = s.slots;
        ups = s.ups;
        still = s.still;
        held = s.held;
        rests = s.rests;
        well = s.well;
        log = s.log;
        reads = s.reads;
        apart = record {
          dirty = put_one (λ c x. (x ≡ CleanIdle → ⊥) → IsAt ToClean (v.reclaims c) ⊎ AwaitsClean c v.destroy) v.clean_states b (clean_begun k) (λ e. s.apart.dirty b (λ at. e (was k (sym is ∙ at)))) (λ c _ e. s.apart.dirty c e);
          idle = s.apart.idle;
          none = s.apart.none;
          cleaned = s.apart.cleaned;
          handed = s.apart.handed;
        };
      })
      (λ c. reads_torn (sizes_of rules) (v.bytes c) c (v.filling c) (clean_will_cover b k) (v.reclaims c) (v.scans c) (λ p at o. far k is c p at o) (s.reads c))
    where
      was : (k : CleanState) → k ≡ CleanIdle → clean_begun k ≡ CleanIdle
      was k e = ap clean_begun e

      far : (k : CleanState) → v.clean_states b ≡ k → (c p : ℕ) → IsAt (AtIndex p) (v.reclaims c) → (o : ℕ) → clean_will_cover b k c o ≡ false
      far CleanIdle is c p at o = refl
      far CleanInFlight is c p at o = refl
      far (CleanDone ok) is c p at o = refl
      far CleanIssued is c p at o = go (c == b) refl
        where
          go : (t : Bool) → (c == b) ≡ t → (t && nat_lt o page) ≡ false
          go true e = absurd (unread_dirty v c s (λ at. let x : CleanIssued ≡ CleanIdle = sym is ∙ ap v.clean_states (sym (eqb-true c b e)) ∙ at in cc) p at)
          go false e = refl

  -- a clean ends, well or not
  cleaned_once : (v : Sight C) (b : ℕ) (ok : Bool) (k : ℕ → ℕ) → v.clean_states b ≡ CleanInFlight → IsOwned rules v → IsSafe A rules v
      → IsSafe A rules (record v { clean_states = put v.clean_states b (CleanDone ok); bytes = put v.bytes b k })
  cleaned_once v b ok k is o s = record {
    low = s.low;
    lines = s.lines;
    done = s.done;
    slots = s.slots;
    ups = s.ups;
    rests = s.rests;
    well = s.well;
    still = λ c living no_job. elim (same_or c b) [
      | inl at ↦ (
        fresh sz,
        subst (λ l. Holds sz (put v.bytes b k c) (fresh sz) l) (sym (ap (puts_in v.filling v.committed) at ∙ elim which [ inl soon ↦ absurd (living (subst (IsDead v.place v.reclaims) (sym at) (inr soon))) | inr awaits ↦ s.apart.cleaned b awaits ]))
            (holds_fresh sz (put v.bytes b k c) sizes),
      )
      | inr other ↦ subst (λ B. (g : laid.Position) × Holds sz B g (puts_in v.filling v.committed c)) (sym (put_other v.bytes b k c other)) (s.still c living no_job)
    ];
    held = λ q. record {
      mine = λ c owns idle. subst (λ B. Holds sz B (filled_to (v.filled c)) (puts_in v.filling v.committed c)) (sym (put_other v.bytes b k c (unowned q c owns))) ((s.held q).mine c owns idle);
      writing = λ c ps is_job. subst (λ B. Holds sz (all_laid (left_in (v.block_writes q)) B) (filled_to (v.filled c)) (puts_in v.filling v.committed c ++ map entry_of ps) × TasksOk (puts_in v.filling v.committed c) ps B (left_in (v.block_writes q)))
          (sym (put_other v.bytes b k c (unowned q c (o.job q c ps is_job)))) ((s.held q).writing c ps is_job);
    };
    log = λ c x i. role_more x.role _ _ x (λ e k'. elim k' [ inl done ↦ inl done | inr (q, ps, is_job, there) ↦ inr (q, ps, is_job, subst (λ B. IsWrittenIn ps B (left_in (v.block_writes q)) e) (sym (put_other v.bytes b k c (unowned q c (o.job q c ps is_job)))) there) ]) (s.log c x i);
    apart = record {
      dirty = put_one (λ c x. (x ≡ CleanIdle → ⊥) → IsAt ToClean (v.reclaims c) ⊎ AwaitsClean c v.destroy) v.clean_states b (CleanDone ok) (λ _. which) (λ c _ e. s.apart.dirty c e);
      idle = s.apart.idle;
      none = s.apart.none;
      cleaned = s.apart.cleaned;
      handed = s.apart.handed;
    };
    reads = put_one (λ c B. ReadsOk sz B c (v.filling c) (v.reclaims c) (v.scans c)) v.bytes b k (again (v.reclaims b) refl (s.reads b)) (λ c _. s.reads c);
  }
    where
      sz : Sizes
      sz = sizes_of rules

      which : IsAt ToClean (v.reclaims b) ⊎ AwaitsClean b v.destroy
      which = s.apart.dirty b (λ e. let x : CleanInFlight ≡ CleanIdle = sym is ∙ e in cc)

      unowned : (q c : ℕ) → (v.flushers q).own ≡ Some c → c ≡ b → ⊥
      unowned q c owns at = elim which [
        | inl soon ↦ alive rules v o q c (o.place q c owns) (subst (IsDead v.place v.reclaims) (sym at) (inr soon))
        | inr awaits ↦ (let x : None ≡ Some c = sym (s.apart.idle (awaits_cleaning b v.destroy awaits) q).0 ∙ owns in cc)
      ]

      again : (r : Option Reclaim) → v.reclaims b ≡ r → ReadsOk sz (v.bytes b) b (v.filling b) r (v.scans b) → ReadsOk sz k b (v.filling b) r (v.scans b)
      again None e ok = tt
      again (Some r) e ok = (ok.0, stage r.stage refl)
        where
          ends : r.stage ≡ ToClean
          ends = elim which [
            | inl soon ↦ subst (IsAt ToClean) e soon
            | inr awaits ↦ absurd (let x : None ≡ Some r = sym (s.apart.none (awaits_cleaning b v.destroy awaits) b) ∙ e in cc)
          ]

          stage : (st : Stage) → r.stage ≡ st → StageReads sz k b (v.filling b) r.listed st (v.scans b)
          stage (AtIndex p) f = absurd (let x : AtIndex p ≡ ToClean = sym f ∙ ends in cc)
          stage (AtRecord h a rest p) f = absurd (let x : AtRecord h a rest p ≡ ToClean = sym f ∙ ends in cc)
          stage AllListed f = absurd (let x : AllListed ≡ ToClean = sym f ∙ ends in cc)
          stage ToClean f = tt

  pub clean_ends : (v : Sight C) (b : ℕ) (ok : Bool) (g : ℕ → ℕ) (k : CleanState) → v.clean_states b ≡ k → IsOwned rules v → IsSafe A rules v
      → IsSafe A rules (record v { clean_states = put v.clean_states b (clean_ended ok k); bytes = bytes_cleaned ok g b k v.bytes })
  clean_ends v b ok g CleanIdle is o s = subst (λ x. IsSafe A rules (record v { clean_states = x })) (sym (ap (put v.clean_states b) (sym is) ∙ put_self v.clean_states b)) s
  clean_ends v b ok g CleanIssued is o s = subst (λ x. IsSafe A rules (record v { clean_states = x })) (sym (ap (put v.clean_states b) (sym is) ∙ put_self v.clean_states b)) s
  clean_ends v b ok g (CleanDone was) is o s = subst (λ x. IsSafe A rules (record v { clean_states = x })) (sym (ap (put v.clean_states b) (sym is) ∙ put_self v.clean_states b)) s
  clean_ends v b ok g CleanInFlight is o s = cleaned_once v b ok (if ok then Rattle.foyer_core_model.specs.Access.cleaned_page (v.bytes b) else g) is o s

  -- a read of a reclaim begins: nothing is under way in its block
  pub scan_begins : (v : Sight C) (b : ℕ) (over : ℕ → ℕ → Bool) → ((p : ℕ) → IsAt (AtIndex p) (v.reclaims b) → (o : ℕ) → over b o ≡ false) → IsSafe A rules v
      → IsSafe A rules (record v { scans = put v.scans b (at_scan (begun over) b (v.scans b)) })
  scan_begins v b over none s = scanned A rules v (put v.scans b (at_scan (begun over) b (v.scans b))) s
      (put_one (λ c sc. ReadsOk sz (v.bytes c) c (v.filling c) (v.reclaims c) sc) v.scans b (at_scan (begun over) b (v.scans b)) (again (v.reclaims b) none (s.reads b)) (λ c _. s.reads c))
    where
      sz : Sizes
      sz = sizes_of rules

      read_state : (p : ℕ) (k : ReadState) → ((o : ℕ) → over b o ≡ false) → PhaseReads sz (v.bytes b) p k → PhaseReads sz (v.bytes b) p (begun over b k)
      read_state p ReadIssued none ok = none
      read_state p (Reading seen) none ok = ok
      read_state p (ReadDone r) none ok = ok

      scan : (p : ℕ) (sc : Option Scan) → ((o : ℕ) → over b o ≡ false) → ScanReads sz (v.bytes b) p sc → ScanReads sz (v.bytes b) p (at_scan (begun over) b sc)
      scan p None none ok = ok
      scan p (Some sc) none ok = (ok.0, ok.1, read_state p sc.read_state none ok.2)

      again : (r : Option Reclaim) → ((p : ℕ) → IsAt (AtIndex p) r → (o : ℕ) → over b o ≡ false) → ReadsOk sz (v.bytes b) b (v.filling b) r (v.scans b) → ReadsOk sz (v.bytes b) b (v.filling b) r (at_scan (begun over) b (v.scans b))
      again None none ok = tt
      again (Some r) none ok = (ok.0, stage r.stage refl ok.1)
        where
          stage : (st : Stage) → r.stage ≡ st → StageReads sz (v.bytes b) b (v.filling b) r.listed st (v.scans b) → StageReads sz (v.bytes b) b (v.filling b) r.listed st (at_scan (begun over) b (v.scans b))
          stage (AtIndex p) is k = (k.0, k.1, k.2, scan p (v.scans b) (none p is) k.3, k.4)
          stage (AtRecord h a rest p) is k = k
          stage AllListed is k = k
          stage ToClean is k = tt

  -- a read of a reclaim ends well
  pub scan_ends : (v : Sight C) (b : ℕ) (bs : List ℕ) → IsScanned (v.bytes b) (v.scans b) (Bytes bs) → IsSafe A rules v
      → IsSafe A rules (record v { scans = put v.scans b (at_scan (λ _. came (Bytes bs)) b (v.scans b)) })
  scan_ends v b bs given s = scanned A rules v (put v.scans b (at_scan (λ _. came (Bytes bs)) b (v.scans b))) s
      (put_one (λ c sc. ReadsOk sz (v.bytes c) c (v.filling c) (v.reclaims c) sc) v.scans b (at_scan (λ _. came (Bytes bs)) b (v.scans b)) (again (v.reclaims b) (s.reads b)) (λ c _. s.reads c))
    where
      sz : Sizes
      sz = sizes_of rules

      read_state : (p o n : ℕ) (k : ReadState) → o ≡ p → n ≡ sz.index → IsRead (v.bytes b) o n k (Bytes bs) → PhaseReads sz (v.bytes b) p k → PhaseReads sz (v.bytes b) p (came (Bytes bs) k)
      read_state p o n ReadIssued at len got ok = ok
      read_state p o n (ReadDone r) at len got ok = ok
      read_state p o n (Reading seen) at len got ok =
          bytes_read bs (v.bytes b) o (λ i l. got.1 i l (ok (o + i))) ∙ (λ j. read (v.bytes b) (at j) ((got.0 ∙ len) j))

      scan : (p : ℕ) (sc : Option Scan) → IsScanned (v.bytes b) sc (Bytes bs) → ScanReads sz (v.bytes b) p sc → ScanReads sz (v.bytes b) p (at_scan (λ _. came (Bytes bs)) b sc)
      scan p None got ok = ok
      scan p (Some sc) got ok = (ok.0, ok.1, read_state p sc.offset sc.len sc.read_state ok.0 ok.1 got ok.2)

      again : (r : Option Reclaim) → ReadsOk sz (v.bytes b) b (v.filling b) r (v.scans b) → ReadsOk sz (v.bytes b) b (v.filling b) r (at_scan (λ _. came (Bytes bs)) b (v.scans b))
      again None ok = tt
      again (Some r) ok = (ok.0, stage r.stage ok.1)
        where
          stage : (st : Stage) → StageReads sz (v.bytes b) b (v.filling b) r.listed st (v.scans b) → StageReads sz (v.bytes b) b (v.filling b) r.listed st (at_scan (λ _. came (Bytes bs)) b (v.scans b))
          stage (AtIndex p) k = (k.0, k.1, k.2, scan p (v.scans b) given k.3, k.4)
          stage (AtRecord h a rest p) k = k
          stage AllListed k = k
          stage ToClean k = tt
