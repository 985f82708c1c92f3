-- What an opening finds after a stop, if the world is safe.
use Rattle.std.proofs.Common.{◌≡◌, ◌≢◌, ℕ, zero, suc, ◌+◌, ◌<◌, ◌≤◌, ◌==◌, Bool, true, false, ◌&&◌, ◌||◌, Option, Some, None, List, [], ◌∷◌, ◌++◌, length, map, ◌⊎◌, inl, inr, refl, sym, ap, subst, ◌∙◌, arith}
use Rattle.std.proofs.lemmas.Bool.{eqb-true}
use Rattle.std.proofs.lemmas.List.{append-nil}
use Rattle.foyer_format_layout.specs.Position.{Sizes}
use Rattle.foyer_format_blob.specs.Blob.{IsSealed}
use Rattle.foyer_format_layout.specs.BlockBytes.{read, IsBeside, Index, Write}
use Rattle.foyer_format_buffer.specs.Position as laid
use Rattle.foyer_format_buffer.specs.Holding.{all_read, Holds}
use Rattle.foyer_format_buffer.specs.Listing.{IsIndex, placed, Lists, kept}
use Rattle.foyer_format_layout.proofs.BlockBytesLaws.{read_same}
use Rattle.foyer_format_buffer.proofs.HoldsLemmas.{holds_lists}
use Rattle.foyer_format_buffer.proofs.ListingLemmas.{sealed_one}
use Rattle.foyer_core_model.specs.Record.{Address, Indexed, Source, Given, Reread, Record}
use Rattle.foyer_core_model.specs.State.{Writing, Batch, ToClean, Reclaim}
use Rattle.foyer_core_model.specs.Rules.{Rules, flusher_of, sizes_of}
use Rattle.foyer_core_model.specs.InTurn.{IsAt, AwaitsClean}
use Rattle.foyer_core_model.specs.Access.{BlockWrites, Idle, Issued, InFlight, CleanState, CleanIdle, CleanIssued, CleanInFlight, CleanDone, is_in, writes_covers, some_writes_covers, clean_covers}
use Rattle.foyer_core_model.specs.World.{World, covers}
use Rattle.foyer_format_layout.specs.Each.{Each}
use Rattle.foyer_core_model.proofs.Invariant.{WorldInvariant, writing_in, placed_in, ground_of, WritingOk, WritesFit, one_owner}
use Rattle.foyer_core_model.proofs.AccessEvents.{beside_not_in}
use Rattle.foyer_format_layout.proofs.EachLaws.{each_front}
use Rattle.foyer_core_restart.specs.Entries.{In, entry_at, entry_done}
use Rattle.foyer_block_recover.specs.Opening.{Found, Stands, hash_of, sequence_of, winner, opened_at, slot_of, all_stand, Keeps, Opened, Opens}
use Rattle.foyer_block_recover.specs.declared.block.recover.RecoverMode.{RecoverMode}
use Rattle.foyer_block_recover.specs.declared.block.recover.RecoverMode.TheVariants as recover_mode
use Rattle.foyer_core_restart.specs.Restart.{IsStopped, HasNoStrays, IsScanned, IsBeingWritten, IsFoundAgain, IsFoundNewer, no_fault}
use Rattle.foyer_core_restart.proofs.Members.{in_left, rising_in, rising_front, chain_scans, all_stand_in, all_stand_out, winner_is, winner_found}
use Rattle.foyer_core_restart.proofs.Tasks.{Entry, IsSparedBy, IsWrittenIn, RoleOk, ListsOnly}
use Rattle.foyer_core_restart.proofs.Safe.{sight_of, Job, job_of, job_in, left_in, SourceIs, IsOf, RecordIs, IsSlot, IsDead, IsJob, WasDone, IsInJob, puts_in, IsSafe}
use Rattle.foyer_core_restart.proofs.Puts.{in_puts}

keeps_listed : (s : Sizes) (mode : RecoverMode) (B : ℕ → ℕ) (failed : ℕ → Bool) (es : List Entry) → mode ≢ recover_mode.None → Keeps s mode B failed es → (ls : List Entry) × Lists s B failed ls × (es ≡ kept ls)
keeps_listed s recover_mode.None B failed es some keeps = absurd (some refl)
keeps_listed s recover_mode.Quiet B failed es some keeps = keeps
keeps_listed s recover_mode.Strict B failed es some keeps = keeps

or_false : (p q : Bool) → p ≡ false → q ≡ false → (p || q) ≡ false
or_false false q e f = f
or_false true q e f = e

no_writes : (n : ℕ) (block_writes : ℕ → BlockWrites) (b o : ℕ) → ((f : ℕ) → writes_covers b (block_writes f) o ≡ false) → some_writes_covers n block_writes b o ≡ false
no_writes zero block_writes b o none = refl
no_writes (suc n) block_writes b o none = or_false (writes_covers b (block_writes n) o) (some_writes_covers n block_writes b o) (none n) (no_writes n block_writes b o none)

pub some_same : {X : Type 0} (x y : X) → Some x ≡ Some y → x ≡ y
some_same x y e = cc

pub job_same : {C : Type 0} (x y : Job C) → Some x ≡ Some y → (x.0 ≡ y.0) × (x.1 ≡ y.1)
job_same x y e = (ap (λ l. l.0) (some_same x y e), ap (λ l. l.1) (some_same x y e))

-- the job of a flusher is what its batch writes
pub job_writes : {C : Type 0} (batch : Option (Batch C)) (b : ℕ) (ps : List (ℕ × Record C)) → job_of (writing_in batch) ≡ Some (b, ps)
    → (q : Batch C) × (r : Writing C) × (batch ≡ Some q) × (q.writing ≡ Some r) × (r.block ≡ b) × (r.records ≡ ps)
job_writes None b ps e = absurd (let f : None ≡ Some (b, ps) = e in cc)
job_writes {C} (Some q) b ps e = go q.writing refl e
  where
    go : (o : Option (Writing C)) → q.writing ≡ o → job_of o ≡ Some (b, ps) → (k : Batch C) × (r : Writing C) × (Some q ≡ Some k) × (k.writing ≡ Some r) × (r.block ≡ b) × (r.records ≡ ps)
    go None is f = absurd (let g : None ≡ Some (b, ps) = f in cc)
    go (Some r) is f = let k : (r.block ≡ b) × (r.records ≡ ps) = job_same (r.block, r.records) (b, ps) f in (q, r, refl, is, k.0, k.1)

-- of each member
pub each_in : {X : Type 0} (P : X → Type 0) (x : X) (xs : List X) → Each P xs → In x xs → P x
each_in P x [] all i = absurd i
each_in P x (y ∷ xs) all (inl e) = subst P (sym e) all.0
each_in P x (y ∷ xs) all (inr i) = each_in P x xs all.1 i

records_among : {C : Type 0} (p : ℕ × Record C) (ps : List (ℕ × Record C)) → In p ps → In p.1 (map (λ q. q.1) ps)
records_among p [] i = absurd i
records_among p (q ∷ ps) (inl e) = inl (ap (λ k. k.1) e)
records_among p (q ∷ ps) (inr i) = inr (records_among p ps i)

source_of : {C : Type 0} (P : ℕ → ℕ → Type 0) (r : Record C) (src : Source C) → SourceIs P r src → P r.hash r.sequence
source_of P r (Given c) ok = ok
source_of P r (Reread a) ok = absurd ok

module _ (A : Type 0) {C : Type 0} (rules : Rules C) (w : World C) (sound : WorldInvariant rules w) (safe : IsSafe A rules (sight_of w)) where
  abbrev job : ℕ → Option (Job C)
  job f = job_in (w.core.flushers f)

  abbrev puts : ℕ → List Entry
  puts = puts_in w.core.filling w.committed

  abbrev s : Sizes
  s = sizes_of rules

  -- a pending under way writes its flusher's job
  pub under_job : (f b : ℕ) (rs : List Bool) (v : Write) (vs : List Write) → w.block_writes f ≡ InFlight b rs v vs → (ps : List (ℕ × Record C)) × (job f ≡ Some (b, ps))
  under_job f b rs v vs is = go (writing_in (w.core.flushers f).batch) refl (sound.flushers f).writing
    where
      go : (o : Option (Writing C)) → writing_in (w.core.flushers f).batch ≡ o → WritingOk rules (ground_of w) (w.core.flushers f).own o (w.block_writes f) → (ps : List (ℕ × Record C)) × (job f ≡ Some (b, ps))
      go None e ok = absurd (let k : Idle ≡ InFlight b rs v vs = sym ok ∙ is in cc)
      go (Some r) e ok =
          let fits : WritesFit w.bytes r (InFlight b rs v vs) = subst (λ p. WritesFit w.bytes r p) is ok.1 in
          (r.records, ap job_of e ∙ (λ i. Some (sym fits.0 i, r.records)))

  -- nothing but a write to the block is under way at an offset if the block isn't being cleaned there
  pub uncovered : (b o : ℕ) → ((f : ℕ) (rs : List Bool) (v : Write) (vs : List Write) → w.block_writes f ≡ InFlight b rs v vs → IsBeside v o) → clean_covers (w.clean_states b) o ≡ false → covers rules w b o ≡ false
  uncovered b o beside dry = or_false (some_writes_covers rules.flushers w.block_writes b o) (clean_covers (w.clean_states b) o) (no_writes rules.flushers w.block_writes b o (λ f. one f (w.block_writes f) refl)) dry
    where
      one : (f : ℕ) (pending : BlockWrites) → w.block_writes f ≡ pending → writes_covers b pending o ≡ false
      one f Idle is = refl
      one f (Issued c rs vs) is = refl
      one f (InFlight c rs v vs) is = go (b == c) refl
        where
          go : (t : Bool) → (b == c) ≡ t → (t && is_in v o) ≡ false
          go true e = beside_not_in v o (beside f rs v vs (is ∙ ap (λ k. InFlight k rs v vs) (sym (eqb-true b c e))))
          go false e = refl

  -- a block with something in its filling isn't cleaned, unless it is dead
  pub dry : (b o : ℕ) → (IsDead w.core.place w.core.reclaims b → ⊥) → (puts b ≡ [] → ⊥) → clean_covers (w.clean_states b) o ≡ false
  dry b o alive some = go (w.clean_states b) refl
    where
      go : (k : CleanState) → w.clean_states b ≡ k → clean_covers k o ≡ false
      go CleanIdle is = refl
      go CleanIssued is = refl
      go (CleanDone ok) is = refl
      go CleanInFlight is = absurd (elim (safe.apart.dirty b (λ e. let x : CleanInFlight ≡ CleanIdle = sym is ∙ e in cc)) [
        | inl at ↦ alive (inr at)
        | inr awaits ↦ some (safe.apart.cleaned b awaits)
      ])

  -- what an opening keeps of a block with an indexed address that isn't being written
  keeps_put : (bytes : ℕ → ℕ → ℕ) (mode : RecoverMode) (b : ℕ) (es : List Entry) (e : Entry) → IsStopped rules w bytes → mode ≢ recover_mode.None
      → (IsDead w.core.place w.core.reclaims b → ⊥) → (IsJob job b → ⊥) → In e (puts b) → Keeps s mode (bytes b) (no_fault b) es → In e es
  keeps_put bytes mode b es e stopped some alive no_job i keeps =
      let k : (ls : List Entry) × Lists s (bytes b) (no_fault b) ls × (es ≡ kept ls) = keeps_listed s mode (bytes b) (no_fault b) es some keeps in
      let still : (g : laid.Position) × Holds s (w.bytes b) g (puts b) = safe.still b alive no_job in
      let same : bytes b ≡ w.bytes b = λ j o. there o j in
      let front : (rest : List Entry) × (k.0 ≡ puts b ++ rest) = holds_lists s (bytes b) still.0 (puts b) k.0 (subst (λ B. Holds s B still.0 (puts b)) (sym same) still.1) k.1 in
      subst (λ l. In e l) (sym (k.2 ∙ ap kept front.1))
      (rising_front 0 0 (safe.ups.ascends b).0 e (puts b) front.0 (omega arith) ((safe.ups.ascends b).1) i)
    where
      there : (o : ℕ) → bytes b o ≡ w.bytes b o
      there o = stopped b o (uncovered b o (λ f rs v vs is. absurd (let j : (ps : List (ℕ × Record C)) × (job f ≡ Some (b, ps)) = under_job f b rs v vs is in no_job (f, j.0, j.1)))
          (dry b o alive (λ none. subst (λ l. In e l) none i)))

  -- what an opening keeps was committed, or is being written
  kept_known : (bytes : ℕ → ℕ → ℕ) (mode : RecoverMode) (b : ℕ) (es : List Entry) (e : Entry) → b < rules.blocks → HasNoStrays rules w bytes → mode ≢ recover_mode.None → Keeps s mode (bytes b) (no_fault b) es → In e es
      → WasDone w.committed b e ⊎ IsInJob job w.bytes (λ f. left_in (w.block_writes f)) b e
  kept_known bytes mode b es e lt strays some keeps i =
      let k : (ls : List Entry) × Lists s (bytes b) all_read ls × (es ≡ kept ls) = keeps_listed s mode (bytes b) (no_fault b) es some keeps in
      let listed : In e k.0 = rising_in 0 e k.0 (subst (λ l. In e l) k.2 i) in
      let there : (r : ℕ) × (fs : List Entry) × IsScanned s (bytes b) 0 r × IsIndex s (bytes b) all_read r fs × In e (placed r fs) = chain_scans s (bytes b) 0 (k.1).end e k.0 (k.1).chain listed in
      let from : (v : Write) × In (b, v) w.begun_writes × (v.role ≡ Index) × (v.offset ≡ there.0) × (v.bytes ≡ read (bytes b) there.0 rules.index_size) = strays b there.0 there.1 lt there.2 there.3 in
      let only : ListsOnly (λ e. WasDone w.committed b e ⊎ IsInJob job w.bytes (λ f. left_in (w.block_writes f)) b e) from.0 =
      subst (λ r. RoleOk r (λ e. WasDone w.committed b e ⊎ IsInJob job w.bytes (λ f. left_in (w.block_writes f)) b e) from.0) from.2 (safe.log b from.0 from.1) in
      let same : there.1 ≡ only.0 = sealed_one (read (bytes b) there.0 rules.index_size) there.1 only.0 (there.3).sealed (subst (λ l. IsSealed l only.0) from.4 only.1) in
      only.2 e (subst (λ l. In e (placed (from.0).offset l)) same (subst (λ p. In e (placed p there.1)) (sym from.3) there.4))

  -- a job is of its flusher's own block
  pub job_own : (f b : ℕ) (ps : List (ℕ × Record C)) → job f ≡ Some (b, ps) → (w.core.flushers f).own ≡ Some b
  job_own f b ps is = go (writing_in (w.core.flushers f).batch) refl (sound.flushers f).writing
    where
      go : (o : Option (Writing C)) → writing_in (w.core.flushers f).batch ≡ o → WritingOk rules (ground_of w) (w.core.flushers f).own o (w.block_writes f) → (w.core.flushers f).own ≡ Some b
      go None e ok = absurd (let k : None ≡ Some (b, ps) = sym (ap job_of e) ∙ is in cc)
      go (Some r) e ok = let l : (r.block ≡ b) × (r.records ≡ ps) = job_same (r.block, r.records) (b, ps) (sym (ap job_of e) ∙ is) in ok.0 ∙ ap Some l.0

  -- what is written stands also at the stop
  stands_still : (bytes : ℕ → ℕ → ℕ) → IsStopped rules w bytes → (b : ℕ) (e : Entry) (f : ℕ) (ps : List (ℕ × Record C)) → job f ≡ Some (b, ps) → (IsDead w.core.place w.core.reclaims b → ⊥) → ((o : ℕ) → clean_covers (w.clean_states b) o ≡ false)
      → (r : IsWrittenIn ps (w.bytes b) (left_in (w.block_writes f)) e)
      → read (bytes b) (r.0).0 (length ((r.0).1).bytes) ≡ read (w.bytes b) (r.0).0 (length ((r.0).1).bytes)
  stands_still bytes stopped b e f ps is_job alive dry r =
      read_same (bytes b) (w.bytes b) (r.0).0 (length ((r.0).1).bytes) (λ i l m. stopped b i (uncovered b i (spared i l m) (dry i)))
    where
      spared : (i : ℕ) → (r.0).0 ≤ i → i < (r.0).0 + length ((r.0).1).bytes → (g : ℕ) (rs : List Bool) (v : Write) (vs : List Write) → w.block_writes g ≡ InFlight b rs v vs → IsBeside v i
      spared i l m g rs v vs under =
          let j : (qs : List (ℕ × Record C)) × (job g ≡ Some (b, qs)) = under_job g b rs v vs under in
          let same : g ≡ f = one_owner rules w sound g f b (job_own g b j.0 j.1) (job_own f b ps is_job) in
          let left : left_in (w.block_writes f) ≡ v ∷ vs = ap (λ q. left_in (w.block_writes q)) (sym same) ∙ ap left_in under in
          (subst (λ ws. Each (IsSparedBy r.0) ws) left r.4).0 i l m

  -- the job's block is owned, so neither dead nor cleaned
  job_place : (f b : ℕ) (ps : List (ℕ × Record C)) → job f ≡ Some (b, ps) → w.core.place b ≡ Rattle.foyer_core_model.specs.State.BlockSet.Writes f
  job_place f b ps is = (sound.flushers f).owned b (job_own f b ps is)

  pub found : (reclaimed : (b : ℕ) → IsAt ToClean (w.core.reclaims b) → w.core.place b ≡ Rattle.foyer_core_model.specs.State.BlockSet.Reclaims)
      → (bytes : ℕ → ℕ → ℕ) (mode : RecoverMode) (o : Opened) (h : ℕ) (a : Address) → IsStopped rules w bytes → HasNoStrays rules w bytes → mode ≢ recover_mode.None
      → Opens s rules.blocks bytes mode no_fault [] o → w.core.index h ≡ Some (Indexed a) → (IsBeingWritten w.core a.block → ⊥)
      → IsFoundAgain o h a ⊎ IsFoundNewer w bytes o h a
  found reclaimed bytes mode o h a stopped strays some opens indexed not_written =
      elim (kept_known bytes mode which.0 (opens.keeps which.0) e in_blocks strays some (opens.kept which.0 in_blocks) which.4) [
        | inl (x, among, at, entry) ↦
            let hash_x : x.content.hash ≡ h = ap (λ k. k.hash) entry ∙ at_hash in
            let sequence_x : x.content.sequence ≡ e.sequence = ap (λ k. k.sequence) entry in
            let sequence_s : slot.stored.content.sequence ≡ a.sequence = ap (λ k. k.sequence) slot.entry in
            let hash_s : slot.stored.content.hash ≡ h = ap (λ k. k.hash) slot.entry in
            let least : a.sequence ≤ e.sequence = at_least in
            let at_most : x.content.sequence ≤ a.sequence = slot.top x among hash_x in
            let same : (x.block ≡ slot.stored.block) × (entry_done x ≡ entry_done slot.stored) = safe.done.unique x slot.stored among slot.among (hash_x ∙ sym hash_s) (omega arith) in
            let block_is : which.0 ≡ a.block = sym at ∙ same.0 ∙ slot.block in
            let entry_is : e ≡ entry_at h a = sym entry ∙ same.1 ∙ slot.entry in
            inl (slot_is ∙ (λ i. Some (Indexed (record { block = block_is i; offset = (entry_is i).offset; len = (entry_is i).len; sequence = (entry_is i).sequence; filling = 0 }))))
        | inr (f, ps, is_job, r) ↦ inr (newer f ps is_job r)
      ]
    where
      slot : IsSlot w.core.filling w.committed w.core.place w.core.reclaims h a
      slot = safe.slots h a indexed

      block_below : a.block < rules.blocks
      block_below = subst (λ b. b < rules.blocks) slot.block (safe.done.below slot.stored slot.among).block

      no_job : IsJob job a.block → ⊥
      no_job (f, ps, given) =
          let k : (q : Batch C) × (r : Writing C) × ((w.core.flushers f).batch ≡ Some q) × (q.writing ≡ Some r) × (r.block ≡ a.block) × (r.records ≡ ps) = job_writes (w.core.flushers f).batch a.block ps given in
          not_written (f, k.1, (k.0, k.2, k.3), k.4)

      put_there : In (entry_at h a) (puts a.block)
      put_there = subst (λ l. In l (puts a.block)) slot.entry (in_puts a.block (w.core.filling a.block) slot.stored w.committed slot.among slot.block (slot.count ∙ slot.present))

      kept_there : In (entry_at h a) (opens.keeps a.block)
      kept_there = keeps_put bytes mode a.block (opens.keeps a.block) (entry_at h a) stopped some slot.alive no_job put_there (opens.kept a.block block_below)

      all : List Found
      all = all_stand 0 rules.blocks opens.keeps

      inside : In (Stands a.block (entry_at h a)) (all ++ [])
      inside = in_left (Stands a.block (entry_at h a)) all [] (all_stand_in 0 rules.blocks a.block (entry_at h a) opens.keeps (omega arith) (omega (arith, block_below)) kept_there)

      win : (y : Found) × (winner h (all ++ []) ≡ Some y) × (a.sequence ≤ sequence_of y)
      win = winner_found h (Stands a.block (entry_at h a)) (all ++ []) inside refl

      is : In win.0 (all ++ []) × (hash_of win.0 ≡ h)
      is = winner_is h win.0 (all ++ []) win.1

      which : (b : ℕ) × (e : Entry) × (win.0 ≡ Stands b e) × (b < 0 + rules.blocks) × In e (opens.keeps b)
      which = all_stand_out 0 rules.blocks win.0 opens.keeps (subst (λ l. In win.0 l) (append-nil all) is.0)

      e : Entry
      e = which.1

      in_blocks : which.0 < rules.blocks
      in_blocks = let l : which.0 < 0 + rules.blocks = which.3 in omega arith

      at_hash : e.hash ≡ h
      at_hash = ap hash_of (sym which.2) ∙ is.1

      at_least : a.sequence ≤ e.sequence
      at_least = let q : sequence_of win.0 ≡ e.sequence = ap sequence_of which.2 in let l : a.sequence ≤ sequence_of win.0 = win.2 in omega arith

      slot_is : o.index h ≡ Some (Indexed (opened_at which.0 e))
      slot_is = opens.index h ∙ ap slot_of (win.1 ∙ ap Some which.2)

      newer : (f : ℕ) (ps : List (ℕ × Record C)) → job f ≡ Some (which.0, ps) → IsWrittenIn ps (w.bytes which.0) (left_in (w.block_writes f)) e → IsFoundNewer w bytes o h a
      newer f ps is_job r =
          let k : (q : Batch C) × (v : Writing C) × ((w.core.flushers f).batch ≡ Some q) × (q.writing ≡ Some v) × (v.block ≡ which.0) × (v.records ≡ ps) = job_writes (w.core.flushers f).batch which.0 ps is_job in
          let writing : writing_in (w.core.flushers f).batch ≡ Some k.1 = ap writing_in k.2 ∙ k.3 in
          let records_are : placed_in (writing_in (w.core.flushers f).batch) ≡ ps = ap placed_in writing ∙ k.5 in
          let waiting : Each (RecordIs (IsOf rules safe.low f)) (map (λ p. p.1) ps) = subst (λ l. Each (RecordIs (IsOf rules safe.low f)) (map (λ p. p.1) l)) records_are
          (each_front (RecordIs (IsOf rules safe.low f)) (map (λ p. p.1) (placed_in (writing_in (w.core.flushers f).batch))) _ (safe.lines.waits f).batch) in
          let of_f : IsOf rules safe.low f ((r.0).1).hash ((r.0).1).sequence = source_of (IsOf rules safe.low f) (r.0).1 ((r.0).1).source
          (each_in (RecordIs (IsOf rules safe.low f)) (r.0).1 (map (λ p. p.1) ps) waiting (records_among r.0 ps r.1)) in
          let hash_is : ((r.0).1).hash ≡ h = ap (λ k. k.hash) (sym r.2) ∙ at_hash in
          let sequence_is : e.sequence ≡ ((r.0).1).sequence = ap (λ k. k.sequence) r.2 in
          let hash_s : slot.stored.content.hash ≡ h = ap (λ k. k.hash) slot.entry in
          let sequence_s : slot.stored.content.sequence ≡ a.sequence = ap (λ k. k.sequence) slot.entry in
          let below : slot.stored.content.sequence < safe.low (flusher_of rules slot.stored.content.hash) = (safe.done.below slot.stored slot.among).sequence in
          let flusher_is : flusher_of rules slot.stored.content.hash ≡ f = ap (flusher_of rules) (hash_s ∙ sym hash_is) ∙ of_f.1 in
          let low_is : safe.low (flusher_of rules slot.stored.content.hash) ≡ safe.low f = ap safe.low flusher_is in
          let over : safe.low f ≤ ((r.0).1).sequence = of_f.0 in
          let offset_is : (r.0).0 ≡ e.offset = ap (λ k. k.offset) (sym r.2) in (
            opened_at which.0 e,
            slot_is,
            omega arith,
            record {
              flusher = f;
              writing = k.1;
              content = (r.0).1;
              is_writing = (k.0, k.2, k.3);
              block = k.4;
              among = subst (λ l. In (e.offset, (r.0).1) l) (sym k.5) (subst (λ q. In (q, (r.0).1) ps) offset_is r.1);
              hash = hash_is;
              sequence = sym sequence_is;
              len = ap (λ k. k.len) (sym r.2);
              stands = ap (λ (k : Entry). read (bytes which.0) k.offset k.len) r.2 ∙ stands_still bytes stopped which.0 e f ps is_job alive undried r ∙ r.3;
            },
          )
        where
          at : w.core.place which.0 ≡ Rattle.foyer_core_model.specs.State.BlockSet.Writes f
          at = job_place f which.0 ps is_job

          alive : IsDead w.core.place w.core.reclaims which.0 → ⊥
          alive (inl clean) = let x : Rattle.foyer_core_model.specs.State.BlockSet.Clean ≡ Rattle.foyer_core_model.specs.State.BlockSet.Writes f = sym clean ∙ at in cc
          alive (inr soon) = let x : Rattle.foyer_core_model.specs.State.BlockSet.Reclaims ≡ Rattle.foyer_core_model.specs.State.BlockSet.Writes f = sym (reclaimed which.0 soon) ∙ at in cc

          undried : (o : ℕ) → clean_covers (w.clean_states which.0) o ≡ false
          undried o = go (w.clean_states which.0) refl
            where
              go : (k : CleanState) → w.clean_states which.0 ≡ k → clean_covers k o ≡ false
              go CleanIdle is = refl
              go CleanIssued is = refl
              go (CleanDone ok) is = refl
              go CleanInFlight is = absurd (elim (safe.apart.dirty which.0 (λ e. let x : CleanInFlight ≡ CleanIdle = sym is ∙ e in cc)) [
                | inl soon ↦ alive (inr soon)
                | inr awaits ↦ (let x : None ≡ Some which.0 = sym (safe.apart.idle (cleaning w.core.destroy awaits) f).0 ∙ job_own f which.0 ps is_job in cc)
              ])
                where
                  cleaning : (d : Rattle.foyer_core_model.specs.State.Destroy) → AwaitsClean which.0 d → Rattle.foyer_core_model.specs.Flush.is_cleaning d ≡ true
                  cleaning Rattle.foyer_core_model.specs.State.Destroy.NoDestroy a = absurd a
                  cleaning Rattle.foyer_core_model.specs.State.Destroy.Begun a = absurd a
                  cleaning (Rattle.foyer_core_model.specs.State.Destroy.Cleaning left failed) a = refl
