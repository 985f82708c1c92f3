-- A write begins, or ends, or is reported.
use Rattle.std.proofs.Common.{◌≡◌, ℕ, ◌==◌, Bool, true, false, ◌&&◌, ◌||◌, Option, Some, None, List, [], ◌∷◌, ◌++◌, map, ◌⊎◌, inl, inr, refl, sym, ap, subst, ◌∙◌, arith}
use Rattle.std.proofs.lemmas.Bool.{eqb-true}
use Rattle.foyer_format_layout.specs.Position.{Sizes}
use Rattle.foyer_format_layout.specs.BlockBytes.{all_laid, laid, Write}
use Rattle.foyer_format_buffer.specs.Position as laid
use Rattle.foyer_format_buffer.specs.Holding.{Holds}
use Rattle.foyer_core_model.specs.Numbers.{put}
use Rattle.foyer_core_model.specs.Record.{Record}
use Rattle.foyer_core_model.specs.State.{Writes, Reclaims, Stage, AtIndex, AtRecord, AllListed, ToClean, Reclaim}
use Rattle.foyer_core_model.specs.Rules.{Rules, sizes_of}
use Rattle.foyer_core_model.specs.InTurn.{IsAt}
use Rattle.foyer_core_model.specs.Access.{BlockWrites, Idle, Issued, InFlight, ReadState, ReadIssued, Reading, ReadDone, Scan, read_torn, at_scan, writes_begun, will_cover, writes_ended, bytes_ended, writes_reported, is_in}
use Rattle.foyer_core_model.specs.World.{noted_write}
use Rattle.foyer_core_model.proofs.Basics.{put_at, put_one, put_same, put_other}
use Rattle.foyer_core_model.proofs.Invariant.{AllWell}
use Rattle.foyer_core_model.proofs.FlushEnds.{put_self}
use Rattle.foyer_core_restart.specs.Entries.{In, filled_to, entry_of}
use Rattle.foyer_core_restart.proofs.Tasks.{Entry, IsWrittenIn, RoleOk, role_more, TasksOk, written_tail}
use Rattle.foyer_core_restart.proofs.Safe.{Sight, Job, job_in, left_in, results_in, puts_in, WasDone, IsInJob, IsHeld, AreLogged, PhaseReads, ScanReads, StageReads, ReadsOk, IsSafe}
use Rattle.foyer_core_restart.proofs.Puts.{puts_out}
use Rattle.foyer_core_restart.proofs.Stop.{job_same}
use Rattle.foyer_core_restart.proofs.Mild.{hand_of, mild}
use Rattle.foyer_core_restart.proofs.Owned.{IsOwned, no_reclaim}

left_begun : (pending : BlockWrites) → left_in (writes_begun pending) ≡ left_in pending
left_begun Idle = refl
left_begun (Issued b rs []) = refl
left_begun (Issued b rs (w ∷ ws)) = refl
left_begun (InFlight b rs w ws) = refl

results_begun : (pending : BlockWrites) → AllWell (results_in pending) → AllWell (results_in (writes_begun pending))
results_begun Idle ok = ok
results_begun (Issued b rs []) ok = ok
results_begun (Issued b rs (w ∷ ws)) ok = ok
results_begun (InFlight b rs w ws) ok = ok

pub left_reported : (pending : BlockWrites) → left_in (writes_reported pending) ≡ left_in pending
left_reported Idle = refl
left_reported (Issued b [] ws) = refl
left_reported (Issued b (r ∷ rs) ws) = refl
left_reported (InFlight b [] w ws) = refl
left_reported (InFlight b (r ∷ rs) w ws) = refl

well_tail : (r : Bool) (rs : List Bool) → AllWell (r ∷ rs) → AllWell rs
well_tail true rs ok = ok
well_tail false rs ok = absurd ok

pub results_reported : (pending : BlockWrites) → AllWell (results_in pending) → AllWell (results_in (writes_reported pending))
results_reported Idle ok = ok
results_reported (Issued b [] ws) ok = ok
results_reported (Issued b (r ∷ rs) ws) ok = well_tail r rs ok
results_reported (InFlight b [] w ws) ok = ok
results_reported (InFlight b (r ∷ rs) w ws) ok = well_tail r rs ok

well_more : (rs : List Bool) → AllWell rs → AllWell (rs ++ true ∷ [])
well_more [] ok = tt
well_more (true ∷ rs) ok = well_more rs ok
well_more (false ∷ rs) ok = absurd ok

-- a read continues if what begins doesn't fall into its block
read_state_torn : (s : Sizes) (B : ℕ → ℕ) (p b : ℕ) (over : ℕ → ℕ → Bool) (read_state : ReadState) → ((o : ℕ) → over b o ≡ false) → PhaseReads s B p read_state → PhaseReads s B p (read_torn over b read_state)
read_state_torn s B p b over ReadIssued none ok = ok
read_state_torn s B p b over (Reading seen) none ok = λ o. go (seen o) (over b o) (ok o) (none o)
  where
    go : (x y : Bool) → x ≡ false → y ≡ false → (x || y) ≡ false
    go true y e f = e
    go false y e f = f
read_state_torn s B p b over (ReadDone r) none ok = ok

scan_torn : (s : Sizes) (B : ℕ → ℕ) (p b : ℕ) (over : ℕ → ℕ → Bool) (scan : Option Scan) → ((o : ℕ) → over b o ≡ false) → ScanReads s B p scan → ScanReads s B p (at_scan (read_torn over) b scan)
scan_torn s B p b over None none ok = ok
scan_torn s B p b over (Some sc) none ok = (ok.0, ok.1, read_state_torn s B p b over sc.read_state none ok.2)

pub reads_torn : (s : Sizes) (B : ℕ → ℕ) (b n : ℕ) (over : ℕ → ℕ → Bool) (reclaim : Option Reclaim) (scan : Option Scan) → ((p : ℕ) → IsAt (AtIndex p) reclaim → (o : ℕ) → over b o ≡ false)
    → ReadsOk s B b n reclaim scan → ReadsOk s B b n reclaim (at_scan (read_torn over) b scan)
reads_torn s B b n over None scan none ok = tt
reads_torn s B b n over (Some r) scan none ok = (ok.0, go r.stage refl ok.1)
  where
    go : (stage : Stage) → r.stage ≡ stage → StageReads s B b n r.listed stage scan → StageReads s B b n r.listed stage (at_scan (read_torn over) b scan)
    go (AtIndex p) is k = (k.0, k.1, k.2, scan_torn s B p b over scan (none p is) k.3, k.4)
    go (AtRecord h a rest p) is k = k
    go AllListed is k = k
    go ToClean is k = tt

module _ (A : Type 0) {C : Type 0} (rules : Rules C) where
  -- the log alone
  pub logged : (v : Sight C) (begun : List (ℕ × Write)) → IsSafe A rules v
      → AreLogged begun v.committed (λ f. job_in (v.flushers f)) v.bytes (λ f. left_in (v.block_writes f)) → IsSafe A rules (record v { begun = begun })
  logged v begun s log = record {
    low = s.low;
    lines = s.lines;
    done = s.done;
    slots = s.slots;
    ups = s.ups;
    still = s.still;
    held = s.held;
    rests = s.rests;
    well = s.well;
    log = log;
    apart = s.apart;
    reads = s.reads;
  }

  -- the reads alone
  pub scanned : (v : Sight C) (scans : ℕ → Option Scan) → IsSafe A rules v
      → ((b : ℕ) → ReadsOk (sizes_of rules) (v.bytes b) b (v.filling b) (v.reclaims b) (scans b)) → IsSafe A rules (record v { scans = scans })
  scanned v scans s reads = record {
    low = s.low;
    lines = s.lines;
    done = s.done;
    slots = s.slots;
    ups = s.ups;
    still = s.still;
    held = s.held;
    rests = s.rests;
    well = s.well;
    log = s.log;
    apart = s.apart;
    reads = reads;
  }

  -- a write that will begin falls into its flusher's block
  far : (v : Sight C) (f : ℕ) (pending : BlockWrites) → IsOwned rules v → v.block_writes f ≡ pending → (b : ℕ) → ((r : Reclaim) → v.reclaims b ≡ Some r → (o : ℕ) → will_cover pending b o ≡ false)
  far v f Idle o is b r at i = refl
  far v f (InFlight c rs w ws) o is b r at i = refl
  far v f (Issued c rs []) o is b r at i = refl
  far v f (Issued c rs (w ∷ ws)) o is b r at i = go (b == c) refl
    where
      go : (t : Bool) → (b == c) ≡ t → (t && is_in w i) ≡ false
      go true e =
          let j : (ps : List (ℕ × Record C)) × (job_in (v.flushers f) ≡ Some (c, ps)) = o.issued f c rs (w ∷ ws) is in
          let at_c : v.place c ≡ Writes f = o.place f c (o.job f c j.0 j.1) in
          let at_b : v.place b ≡ Reclaims = o.reclaims b r at in
          let x : Reclaims ≡ Writes f = sym at_b ∙ ap v.place (eqb-true b c e) ∙ at_c in absurd (cc)
      go false e = refl

  -- what is noted of the write that begins lists what was put or is being written
  noted : (v : Sight C) (f : ℕ) (pending : BlockWrites) (s : IsSafe A rules v) → IsOwned rules v → v.block_writes f ≡ pending
      → AreLogged (noted_write pending v.begun) v.committed (λ f. job_in (v.flushers f)) v.bytes (λ f. left_in (v.block_writes f))
  noted v f Idle s o is b x i = s.log b x i
  noted v f (InFlight c rs w ws) s o is b x i = s.log b x i
  noted v f (Issued c rs []) s o is b x i = s.log b x i
  noted v f (Issued c rs (w ∷ ws)) s o is b x (inr i) = s.log b x i
  noted v f (Issued c rs (w ∷ ws)) s o is b x (inl same) =
      let j : (ps : List (ℕ × Record C)) × (job_in (v.flushers f) ≡ Some (c, ps)) = o.issued f c rs (w ∷ ws) is in
      let left : left_in (v.block_writes f) ≡ w ∷ ws = ap left_in is in
      let tasks : TasksOk (puts c) j.0 (v.bytes c) (w ∷ ws) = subst (TasksOk (puts c) j.0 (v.bytes c)) left ((s.held f).writing c j.0 j.1).1 in
      let at : b ≡ c = ap (λ k. k.0) same in
      let is_w : x ≡ w = ap (λ k. k.1) same in
      subst (λ y. RoleOk y.role (λ e. WasDone v.committed b e ⊎ IsInJob (λ f. job_in (v.flushers f)) v.bytes (λ f. left_in (v.block_writes f)) b e) y) (sym is_w)
      (subst (λ d. RoleOk w.role (λ e. WasDone v.committed d e ⊎ IsInJob (λ f. job_in (v.flushers f)) v.bytes (λ f. left_in (v.block_writes f)) d e) w) (sym at)
      (role_more w.role (λ e. In e (puts c) ⊎ IsWrittenIn j.0 (v.bytes c) (w ∷ ws) e) (λ e. WasDone v.committed c e ⊎ IsInJob (λ f. job_in (v.flushers f)) v.bytes (λ f. left_in (v.block_writes f)) c e) w
      (λ e (k : In e (puts c) ⊎ IsWrittenIn j.0 (v.bytes c) (w ∷ ws) e). elim k [
        | inl there ↦ (let r : (y : _) × In y v.committed × (y.block ≡ c) × (y.filling ≡ v.filling c) × (_ ≡ e) = puts_out c (v.filling c) e v.committed there in inl (r.0, r.1, r.2, r.4))
        | inr now ↦ inr (f, j.0, j.1, subst (λ l. IsWrittenIn j.0 (v.bytes c) l e) (sym left) now)
      ]) tasks.0))
    where
      puts : ℕ → List Entry
      puts = puts_in v.filling v.committed

  pub write_begins : (v : Sight C) (f : ℕ) → IsOwned rules v → IsSafe A rules v
      → IsSafe A rules (record v { block_writes = put v.block_writes f (writes_begun (v.block_writes f)); begun = noted_write (v.block_writes f) v.begun; scans = λ b. at_scan (read_torn (will_cover (v.block_writes f))) b (v.scans b) })
  write_begins v f o s =
      mild A rules v' v.index v.next v.flushers (put v.block_writes f (writes_begun (v.block_writes f))) s' (omega arith) (λ h a is. is)
      (put_one (λ q p. hand_of (v.flushers q) p ≡ hand_of (v.flushers q) (v.block_writes q)) v.block_writes f (writes_begun (v.block_writes f)) (λ i. record { own = (v.flushers f).own; ready = (v.flushers f).ready; job = job_in (v.flushers f); left = left_begun (v.block_writes f) i }) (λ q _. refl))
      (put_one (λ q p. AllWell (results_in p)) v.block_writes f (writes_begun (v.block_writes f)) (results_begun (v.block_writes f) (s.well f)) (λ q _. s.well q))
      s'.lines.waits s'.rests
    where
      v' : Sight C
      v' = record v { begun = noted_write (v.block_writes f) v.begun; scans = λ b. at_scan (read_torn (will_cover (v.block_writes f))) b (v.scans b) }

      s' : IsSafe A rules v'
      s' = scanned (record v { begun = noted_write (v.block_writes f) v.begun }) (λ b. at_scan (read_torn (will_cover (v.block_writes f))) b (v.scans b))
          (logged v (noted_write (v.block_writes f) v.begun) s (noted v f (v.block_writes f) s o refl))
          (λ b. reads_torn (sizes_of rules) (v.bytes b) b (v.filling b) (will_cover (v.block_writes f)) (v.reclaims b) (v.scans b) (λ p at i. covered b p (v.reclaims b) refl at i) (s.reads b))
        where
          covered : (b p : ℕ) (r : Option Reclaim) → v.reclaims b ≡ r → IsAt (AtIndex p) r → (i : ℕ) → will_cover (v.block_writes f) b i ≡ false
          covered b p None is at i = absurd at
          covered b p (Some r) is at i = far v f (v.block_writes f) o refl b r is i

  -- A write ends well.
  pub write_ended : (v : Sight C) (f b : ℕ) (rs : List Bool) (w : Write) (ws : List Write) → v.block_writes f ≡ InFlight b rs w ws → IsOwned rules v → IsSafe A rules v
      → IsSafe A rules (record v { block_writes = put v.block_writes f (Issued b (rs ++ true ∷ []) ws); bytes = put v.bytes b (laid w (v.bytes b)) })
  write_ended v f b rs w ws is o s = record {
    low = s.low;
    lines = s.lines;
    done = s.done;
    slots = s.slots;
    ups = s.ups;
    still = λ c living no_job.
        let other : c ≡ b → ⊥ = λ at. no_job (f, ps, subst (λ d. job f ≡ Some (d, ps)) (sym at) is_job) in
        subst (λ B. (g : laid.Position) × Holds sz B g (puts c)) (sym (put_other v.bytes b bytes' c other)) (s.still c living no_job);
    held = put_one (λ q p. IsHeld sz v.filled (put v.bytes b bytes') puts (v.flushers q).own (job q) (left_in p)) v.block_writes f pending'
        (record {
          mine = λ c owns none. absurd (let j : Job C = (b, ps) in let x : Some j ≡ None = sym is_job ∙ none in cc);
          writing = λ c qs given.
              let same : (b ≡ c) × (ps ≡ qs) = job_same (b, ps) (c, qs) (sym is_job ∙ given) in
              subst (λ d. Holds sz (all_laid (ws) (put v.bytes b bytes' d)) (filled_to (v.filled d)) (puts d ++ map entry_of qs) × TasksOk (puts d) qs (put v.bytes b bytes' d) ws) same.0
              (subst (λ l. Holds sz (all_laid (ws) (put v.bytes b bytes' b)) (filled_to (v.filled b)) (puts b ++ map entry_of l) × TasksOk (puts b) l (put v.bytes b bytes' b) ws) same.1
              (subst (λ B. Holds sz (all_laid (ws) B) (filled_to (v.filled b)) (puts b ++ map entry_of ps) × TasksOk (puts b) ps B ws) (sym (put_same v.bytes b bytes'))
              (was.0, (was.1).1)));
        })
        (λ q ne. record {
          mine = λ c owns none. subst (λ B. Holds sz B (filled_to (v.filled c)) (puts c)) (sym (put_other v.bytes b bytes' c (apart q ne c owns))) ((s.held q).mine c owns none);
          writing = λ c qs given. subst (λ B. Holds sz (all_laid (left_in (v.block_writes q)) B) (filled_to (v.filled c)) (puts c ++ map entry_of qs) × TasksOk (puts c) qs B (left_in (v.block_writes q)))
              (sym (put_other v.bytes b bytes' c (apart q ne c (o.job q c qs given)))) ((s.held q).writing c qs given);
        });
    rests = s.rests;
    well = put_one (λ q p. AllWell (results_in p)) v.block_writes f pending' (well_more rs (subst (λ p. AllWell (results_in p)) is (s.well f))) (λ q _. s.well q);
    log = λ c x i. role_more x.role _ _ x (λ e k. elim k [ inl done ↦ inl done | inr (q, qs, at_job, there) ↦ inr (q, qs, at_job, still_there q qs c e at_job there) ]) (s.log c x i);
    apart = s.apart;
    reads = λ c. put_at (λ B. ReadsOk sz B c (v.filling c) (v.reclaims c) (v.scans c)) v.bytes b bytes' c
        (λ at. subst (λ r. ReadsOk sz bytes' c (v.filling c) r (v.scans c)) (sym (ap v.reclaims at ∙ no_reclaim rules v o f b at_b)) tt) (λ _. s.reads c);
  }
    where
      sz : Sizes
      sz = sizes_of rules

      job : ℕ → Option (Job C)
      job q = job_in (v.flushers q)

      puts : ℕ → List Entry
      puts = puts_in v.filling v.committed

      bytes' : ℕ → ℕ
      bytes' = laid w (v.bytes b)

      pending' : BlockWrites
      pending' = Issued b (rs ++ true ∷ []) ws

      ps : List (ℕ × Record C)
      ps = (o.under f b rs w ws is).0

      is_job : job f ≡ Some (b, ps)
      is_job = (o.under f b rs w ws is).1

      own : (v.flushers f).own ≡ Some b
      own = o.job f b ps is_job

      at_b : v.place b ≡ Writes f
      at_b = o.place f b own

      was : Holds sz (all_laid (w ∷ ws) (v.bytes b)) (filled_to (v.filled b)) (puts b ++ map entry_of ps) × TasksOk (puts b) ps (v.bytes b) (w ∷ ws)
      was = subst (λ l. Holds sz (all_laid (l) (v.bytes b)) (filled_to (v.filled b)) (puts b ++ map entry_of ps) × TasksOk (puts b) ps (v.bytes b) l) (ap left_in is) ((s.held f).writing b ps is_job)

      apart : (q : ℕ) → (q ≡ f → ⊥) → (c : ℕ) → (v.flushers q).own ≡ Some c → c ≡ b → ⊥
      apart q ne c owns at = ne (o.one q f b (owns ∙ ap Some at) own)

      still_there : (q : ℕ) (qs : List (ℕ × Record C)) (c : ℕ) (e : Entry) → job q ≡ Some (c, qs) → IsWrittenIn qs (v.bytes c) (left_in (v.block_writes q)) e
          → IsWrittenIn qs (put v.bytes b bytes' c) (left_in (put v.block_writes f pending' q)) e
      still_there q qs c e at_job there =
          put_one (λ k p. k ≡ q → IsWrittenIn qs (put v.bytes b bytes' c) (left_in p) e) v.block_writes f pending'
          (λ at.
          let same : (b ≡ c) × (ps ≡ qs) = job_same (b, ps) (c, qs) (sym is_job ∙ ap job at ∙ at_job) in
          subst (λ d. IsWrittenIn qs (put v.bytes b bytes' d) ws e) same.0
          (subst (λ B. IsWrittenIn qs B ws e) (sym (put_same v.bytes b bytes'))
          (written_tail qs (v.bytes b) w ws e
          (subst (λ l. IsWrittenIn qs (v.bytes b) l e) (ap (λ k. left_in (v.block_writes k)) (sym at) ∙ ap left_in is)
          (subst (λ d. IsWrittenIn qs (v.bytes d) (left_in (v.block_writes q)) e) (sym same.0) there)))))
          (λ k ne at. subst (λ B. IsWrittenIn qs B (left_in (v.block_writes k)) e) (sym (put_other v.bytes b bytes' c (apart q (λ is_f. ne (at ∙ is_f)) c (o.job q c qs at_job))))
          (subst (λ z. IsWrittenIn qs (v.bytes c) (left_in (v.block_writes z)) e) (sym at) there))
          q refl

  pub write_ends : (v : Sight C) (f : ℕ) (g : ℕ → ℕ) (pending : BlockWrites) → v.block_writes f ≡ pending → IsOwned rules v → IsSafe A rules v
      → IsSafe A rules (record v { block_writes = put v.block_writes f (writes_ended true pending); bytes = bytes_ended true g pending v.bytes })
  write_ends v f g Idle is o s = subst (λ p. IsSafe A rules (record v { block_writes = p })) (sym (ap (put v.block_writes f) (sym is) ∙ put_self v.block_writes f)) s
  write_ends v f g (Issued b rs ws) is o s = subst (λ p. IsSafe A rules (record v { block_writes = p })) (sym (ap (put v.block_writes f) (sym is) ∙ put_self v.block_writes f)) s
  write_ends v f g (InFlight b rs w ws) is o s = write_ended v f b rs w ws is o s
