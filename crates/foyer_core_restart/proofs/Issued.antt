-- A block is issued to its flusher, with the writes of its parts.
use Rattle.std.proofs.Common.{◌≡◌, ℕ, ◌+◌, ◌<◌, ◌≤◌, ◌==◌, Bool, true, false, Option, Some, None, List, [], ◌∷◌, ◌++◌, map, length, ◌⊎◌, inl, inr, refl, sym, ap, subst, ◌∙◌, arith}
use Rattle.std.proofs.lemmas.Bool.{eqb-true, eqb-false}
use Rattle.std.proofs.lemmas.List.{append-nil}
use Rattle.foyer_format_layout.specs.Position.{Sizes, fresh}
use Rattle.foyer_device_page.specs.Section.{Section, bytes_of}
use Rattle.foyer_format_layout.specs.BlockBytes.{all_laid, Write}
use Rattle.foyer_format_buffer.specs.Position as laid
use Rattle.foyer_format_buffer.specs.Fills as fills
use Rattle.foyer_format_buffer.specs.Fills.{AreSizes, Fills}
use Rattle.foyer_format_buffer.specs.Holding.{Holds}
use Rattle.foyer_format_buffer.specs.Stored as stands
use Rattle.foyer_format_buffer.specs.declared.BufferEntryInfo.{BufferEntryInfo}
use Rattle.foyer_format_buffer.specs.declared.split.BlobPart.{BlobPart}
use Rattle.foyer_format_buffer.proofs.HoldsLemmas.{holds_fills, each_some}
use Rattle.foyer_format_buffer.proofs.SplitLemmas.{taken-append}
use Rattle.foyer_core_model.specs.Numbers.{put}
use Rattle.foyer_core_model.specs.Record.{Address, Indexed, Record}
use Rattle.foyer_core_model.specs.Position.{Position, Part, BlockLayout, records_in, records_of}
use Rattle.foyer_core_model.specs.State.{Batch, Flusher, BlockSet, Clean, Writes, Evictable, Destroy, NoDestroy, Begun, Cleaning}
use Rattle.foyer_core_model.specs.Rules.{Rules, sizes_of}
use Rattle.foyer_core_model.specs.Flush.{is_cleaning, released, writing_of}
use Rattle.foyer_core_model.specs.InTurn.{AwaitsClean}
use Rattle.foyer_core_model.specs.Access.{writes_of as issued_writes}
use Rattle.foyer_core_model.specs.World.{Stored}
use Rattle.foyer_core_model.proofs.Basics.{put_at, put_one, put_both, put_same, put_other, Ascends}
use Rattle.foyer_format_layout.specs.Each.{Each}
use Rattle.foyer_core_model.proofs.Invariant.{AllWell, writing_in, blocks_in, goes_on_in, batch_records, start_of}
use Rattle.foyer_format_layout.proofs.EachLaws.{each_back, each_front}
use Rattle.foyer_core_model.proofs.FlushBlocks.{records_issued, start_other}
use Rattle.foyer_core_restart.specs.Entries.{In, filled_to, entry_of, puts_at}
use Rattle.foyer_core_restart.specs.Real.{AreSameParts, AreSpread, IsSpread}
use Rattle.foyer_core_restart.proofs.Tasks.{Entry, IsWrittenIn, role_more, TasksOk, writes_of, same_writes, same_records, entries_stored, fills_tasks}
use Rattle.foyer_core_restart.proofs.Safe.{Sight, Job, job_of, job_in, left_in, results_in, RecordIs, AllWait, IsOf, IsBelow, IsSlot, IsDead, IsJob, IsHeld, RestOk, sequences_of, puts_in, ReadsOk, IsSafe}
use Rattle.foyer_core_restart.proofs.Puts.{puts_none}
use Rattle.foyer_core_restart.proofs.Stop.{some_same, job_same}
use Rattle.foyer_core_restart.proofs.Owned.{IsOwned}

pub same_or : (c b : ℕ) → (c ≡ b) ⊎ (c ≡ b → ⊥)
same_or c b = go (c == b) refl
  where
    go : (t : Bool) → (c == b) ≡ t → (c ≡ b) ⊎ (c ≡ b → ⊥)
    go true e = inl (eqb-true c b e)
    go false e = inr (eqb-false c b e)

pub awaits_cleaning : (b : ℕ) (d : Destroy) → AwaitsClean b d → is_cleaning d ≡ true
awaits_cleaning b NoDestroy a = absurd a
awaits_cleaning b Begun a = absurd a
awaits_cleaning b (Cleaning left failed) a = refl

left_writes : (b : ℕ) (ws : List Write) → left_in (issued_writes b ws) ≡ ws
left_writes b [] = refl
left_writes b (w ∷ ws) = refl

well_writes : (b : ℕ) (ws : List Write) → AllWell (results_in (issued_writes b ws))
well_writes b [] = tt
well_writes b (w ∷ ws) = tt

-- what a block holds once it is issued
held_issued : {C : Type 0} (s : Sizes) (filled : ℕ → Position) (B : ℕ → ℕ → ℕ) (puts : ℕ → List Entry) (b : ℕ) (parts : List (Part C))
    → Holds s (all_laid (writes_of s.block parts) (B b)) (filled_to (filled b)) (puts b ++ map entry_of (records_in parts))
    → TasksOk (puts b) (records_in parts) (B b) (writes_of s.block parts)
    → IsHeld s filled B puts (Some b) (job_of (writing_of b (writes_of s.block parts) (records_in parts))) (left_in (issued_writes b (writes_of s.block parts)))
held_issued s filled B puts b [] holds tasks = record {
  mine = λ c owns none. subst (λ d. Holds s (B d) (filled_to (filled d)) (puts d)) (some_same b c owns) (subst (Holds s (B b) (filled_to (filled b))) (append-nil (puts b)) holds);
  writing = λ c ps is. let j : Job _ = (c, ps) in absurd (let x : None ≡ Some j = is in cc);
}
held_issued {C} s filled B puts b (p ∷ ps) holds tasks = record {
  mine = λ c owns none. let j : Job C = (b, records_in (p ∷ ps)) in absurd (let x : Some j ≡ None = none in cc);
  writing = λ c qs is.
      let same : (b ≡ c) × (records_in (p ∷ ps) ≡ qs) = job_same (b, records_in (p ∷ ps)) (c, qs) is in
      subst (λ d. Holds s (all_laid (writes_of s.block (p ∷ ps)) (B d)) (filled_to (filled d)) (puts d ++ map entry_of qs) × TasksOk (puts d) qs (B d) (writes_of s.block (p ∷ ps))) same.0
      (subst (λ l. Holds s (all_laid (writes_of s.block (p ∷ ps)) (B b)) (filled_to (filled b)) (puts b ++ map entry_of l) × TasksOk (puts b) l (B b) (writes_of s.block (p ∷ ps))) same.1
      (holds, tasks));
}

-- A flusher's block that isn't written any more, or not yet, has no job.
no_job_parts : {C : Type 0} (n b : ℕ) (parts : List (Part C)) → (job_of (writing_of b (writes_of n parts) (records_in parts)) ≡ None) ⊎ (job_of (writing_of b (writes_of n parts) (records_in parts)) ≡ Some (b, records_in parts))
no_job_parts n b [] = inl refl
no_job_parts n b (p ∷ ps) = inr refl

released_dead : (place : ℕ → BlockSet) (own : Option ℕ) (c : ℕ) → released own place c ≡ Clean → place c ≡ Clean
released_dead place None c is = is
released_dead place (Some b) c is = put_at (λ k. k ≡ Clean → place c ≡ Clean) place b Evictable c (λ _ e. absurd (let z : Evictable ≡ Clean = e in cc)) (λ _ e. e) is

-- and back, if the flusher's own block is in the flusher's set
released_back : (place : ℕ → BlockSet) (f : ℕ) (own : Option ℕ) (c : ℕ) → ((b : ℕ) → own ≡ Some b → place b ≡ Writes f) → place c ≡ Clean → released own place c ≡ Clean
released_back place f None c owned is = is
released_back place f (Some b) c owned is =
    put_at (λ k. k ≡ Clean) place b Evictable c (λ at. absurd (let x : Clean ≡ Writes f = sym is ∙ ap place at ∙ owned b refl in cc)) (λ _. is)

module _ (A : Type 0) {C : Type 0} (rules : Rules C) (sizes : AreSizes (sizes_of rules)) where
  -- what the parts of the first block of a spread make of it
  pub spread_holds : (B : ℕ → ℕ) (start : laid.Position) (puts : List Entry) (sp : BlockLayout C) (rest : List (BlockLayout C)) → IsSpread A (sizes_of rules) start (sp ∷ rest) → Holds (sizes_of rules) B start puts
      → Holds (sizes_of rules) (all_laid (writes_of rules.block_size sp.parts) B) (filled_to sp.end) (puts ++ map entry_of (records_in sp.parts))
      × TasksOk puts (records_in sp.parts) B (writes_of rules.block_size sp.parts) × RestOk A (sizes_of rules) (fresh (sizes_of rules)) rest
  spread_holds B start puts sp rest spread holds = (
    subst (λ ws. Holds s (all_laid ws B) (filled_to sp.end) (puts ++ map entry_of (records_in sp.parts))) (sym (same_writes rules.block_size sp.parts parts same))
        (subst (λ es. Holds s (all_laid (fills.writes_of rules.block_size parts) B) (filled_to sp.end) (puts ++ es)) (ap (map stands.entry_of) (sym (same_records sp.parts parts same)) ∙ entries_stored (records_in sp.parts))
        (holds_fills s w sizes B n start puts now parts (filled_to sp.end) near some.0 fill holds)),
    fills_tasks s w sizes B n start puts puts [] (records_in sp.parts) now parts sp.parts (filled_to sp.end) near some.0 fill same holds (sym (append-nil puts)) tt tt (λ p i. i),
    more rest (spread.spread).6,
  )
    where
      s : Sizes
      s = sizes_of rules

      w : Section
      w = spread.whole

      n : ℕ
      n = spread.start

      now : List BufferEntryInfo
      now = (spread.spread).0

      later : List BufferEntryInfo
      later = (spread.spread).1

      parts : List (BlobPart A)
      parts = (spread.spread).2

      all : spread.infos ≡ now ++ later
      all = (spread.spread).3

      fill : Fills s w n start now parts (filled_to sp.end)
      fill = (spread.spread).4

      same : AreSameParts sp.parts parts
      same = (spread.spread).5

      room : n + (laid.taken now + laid.taken later) ≤ length (bytes_of w)
      room = subst (λ k. n + k ≤ length (bytes_of w)) (ap laid.taken all ∙ taken-append now later) spread.room

      near : n + laid.taken now ≤ length (bytes_of w)
      near = let r : n + (laid.taken now + laid.taken later) ≤ length (bytes_of w) = room in omega arith

      each : Each (laid.FitsBlock s) now × Each (laid.FitsBlock s) later
      each =
          let whole : Each (laid.FitsBlock s) (now ++ later) = subst (Each (laid.FitsBlock s)) all spread.each in
          (each_front (laid.FitsBlock s) now later whole, each_back (laid.FitsBlock s) now later whole)

      some : Each (λ i. 0 < i.len) now × Each (λ i. 0 < i.len) later
      some = (each_some s now each.0, each_some s later each.1)

      more : (rest : List (BlockLayout C)) → AreSpread A s w (n + laid.taken now) (fresh s) later rest → RestOk A s (fresh s) rest
      more [] k = tt
      more (b ∷ bs) k = record {
        whole = w;
        start = n + laid.taken now;
        infos = later;
        room = let r : n + (laid.taken now + laid.taken later) ≤ length (bytes_of w) = room in omega arith;
        each = each.1;
        spread = k;
      }

  pub issued : (v : Sight C) (f b : ℕ) (batch : Batch C) (sp : BlockLayout C) (rest : List (BlockLayout C)) (fill : ℕ → ℕ) (place : ℕ → BlockSet) (start : laid.Position) (s : IsSafe A rules v) → IsOwned rules v
      → (v.flushers f).batch ≡ Some (record batch { blocks = sp ∷ rest; writing = None })
      → IsSpread A (sizes_of rules) start (sp ∷ rest)
      → Holds (sizes_of rules) (v.bytes b) start (puts_in fill v.committed b)
      → Ascends 0 (sequences_of (puts_in fill v.committed b)) (s.low f)
      → ((q : ℕ) → (q ≡ f → ⊥) → (v.flushers q).own ≡ Some b → ⊥) → ((q : ℕ) → (q ≡ f → ⊥) → (v.flushers q).ready ≡ Some b → ⊥)
      → ((c : ℕ) → (c ≡ b → ⊥) → fill c ≡ v.filling c) → ((c : ℕ) → v.filling c ≤ fill c)
      → ((h : ℕ) (a : Address) → v.index h ≡ Some (Indexed a) → a.block ≡ b → v.filling b ≡ fill b)
      → ((c : ℕ) → IsDead place v.reclaims c → IsDead v.place v.reclaims c)
      → ((c : ℕ) → (c ≡ b → ⊥) → IsDead v.place v.reclaims c → IsDead place v.reclaims c)
      → (is_cleaning v.destroy ≡ true → ⊥) → v.reclaims b ≡ None
      → IsSafe A rules (record v {
        filling = fill;
        place = place;
        flushers = put v.flushers f (record (v.flushers f) { own = Some b; ready = None; batch = Some (record batch { blocks = rest; continues_own_block = false; writing = writing_of b (writes_of rules.block_size sp.parts) (records_in sp.parts) }) });
        filled = put v.filled b sp.end;
        block_writes = put v.block_writes f (issued_writes b (writes_of rules.block_size sp.parts));
      })
  issued v f b batch sp rest fill place start s o is spread holds up alone vacant far more same_slot dead dead_back quiet unread = record {
    low = s.low;
    lines = record {
      lows = s.lines.lows;
      waits = put_one (λ q φ. AllWait (IsOf rules s.low q) φ) v.flushers f ψ
          (record {
            batch = records_issued rules (Each (RecordIs (IsOf rules s.low f))) b (writes_of rules.block_size sp.parts) (records_in sp.parts) (records_of rest) (each_back (RecordIs (IsOf rules s.low f)))
                (subst (λ k. Each (RecordIs (IsOf rules s.low f)) (batch_records k)) is (s.lines.waits f).batch);
            buffer = (s.lines.waits f).buffer;
            queue = (s.lines.waits f).queue;
          })
          (λ q _. s.lines.waits q);
    };
    done = record {
      below = λ x i. let k : IsBelow rules s.low v.filling x = s.done.below x i in
          record { sequence = k.sequence; block = k.block; count = let l : x.filling ≤ v.filling x.block = k.count in let m : v.filling x.block ≤ fill x.block = more x.block in omega arith };
      unique = s.done.unique;
    };
    slots = λ h a at. let k : IsSlot v.filling v.committed v.place v.reclaims h a = s.slots h a at in
        record {
          present = k.present ∙ elim (same_or a.block b) [ inl same ↦ ap v.filling same ∙ same_slot h a at same ∙ ap fill (sym same) | inr other ↦ sym (far a.block other) ];
          stored = k.stored;
          among = k.among;
          block = k.block;
          count = k.count;
          entry = k.entry;
          alive = λ d. k.alive (dead a.block d);
          top = k.top;
        };
    ups = record {
      ascends = λ c. elim (same_or c b) [
        | inl at ↦ (s.low f, subst (λ d. Ascends 0 (sequences_of (puts' d)) (s.low f)) (sym at) up)
        | inr other ↦ subst (λ l. (k : ℕ) × Ascends 0 (sequences_of l) k) (sym (puts_far c other)) (s.ups.ascends c)
      ];
      owned = λ q c. put_one (λ q φ. φ.own ≡ Some c → Ascends 0 (sequences_of (puts' c)) (s.low q)) v.flushers f ψ
          (λ e. subst (λ d. Ascends 0 (sequences_of (puts' d)) (s.low f)) (some_same b c e) up)
          (λ q ne e. subst (λ l. Ascends 0 (sequences_of l) (s.low q)) (sym (puts_far c (λ at. alone q ne (e ∙ ap Some at)))) (s.ups.owned q c e)) q;
    };
    still = λ c living no_job. elim (same_or c b) [
      | inl at ↦ (filled_to (put v.filled b sp.end b), subst (λ d. Holds sz (v.bytes d) (filled_to (put v.filled b sp.end b)) (puts' d)) (sym at) (mine.mine b refl (idle c at no_job)))
      | inr other ↦ subst (λ l. (g : laid.Position) × Holds sz (v.bytes c) g l) (sym (puts_far c other))
          (s.still c (λ d. living (dead_back c other d)) (λ (q, ps, is_job). no_job (q, ps, kept_job q c ps is_job)))
    ];
    held = put_both (λ q φ p. IsHeld sz (put v.filled b sp.end) v.bytes puts' φ.own (job_in φ) (left_in p)) v.flushers v.block_writes f ψ (issued_writes b (writes_of rules.block_size sp.parts)) mine
        (λ q ne. record {
          mine = λ c owns none. let other : c ≡ b → ⊥ = λ at. alone q ne (owns ∙ ap Some at) in
              subst (λ l. Holds sz (v.bytes c) (filled_to (put v.filled b sp.end c)) l) (sym (puts_far c other))
              (subst (λ g. Holds sz (v.bytes c) (filled_to g) (puts c)) (sym (put_other v.filled b sp.end c other)) ((s.held q).mine c owns none));
          writing = λ c ps is_job. let other : c ≡ b → ⊥ = λ at. alone q ne (o.job q c ps is_job ∙ ap Some at) in
              subst (λ l. Holds sz (all_laid (left_in (v.block_writes q)) (v.bytes c)) (filled_to (put v.filled b sp.end c)) (l ++ map entry_of ps) × TasksOk l ps (v.bytes c) (left_in (v.block_writes q))) (sym (puts_far c other))
              (subst (λ g. Holds sz (all_laid (left_in (v.block_writes q)) (v.bytes c)) (filled_to g) (puts c ++ map entry_of ps) × TasksOk (puts c) ps (v.bytes c) (left_in (v.block_writes q))) (sym (put_other v.filled b sp.end c other))
              ((s.held q).writing c ps is_job));
        });
    rests = put_one (λ q φ. RestOk A sz (filled_to (start_of rules (put v.filled b sp.end) φ.own (goes_on_in φ.batch))) (blocks_in φ.batch)) v.flushers f ψ holding.2
        (λ q ne. subst (λ g. RestOk A sz (filled_to g) (blocks_in (v.flushers q).batch)) (sym (start_other rules v.filled b sp.end (v.flushers q).own (goes_on_in (v.flushers q).batch) (alone q ne))) (s.rests q));
    well = put_one (λ q p. AllWell (results_in p)) v.block_writes f (issued_writes b (writes_of rules.block_size sp.parts)) (well_writes b (writes_of rules.block_size sp.parts)) (λ q _. s.well q);
    log = λ c x i. role_more x.role _ _ x (λ e k. elim k [ inl done ↦ inl done | inr (q, ps, is_job, there) ↦ inr (q, ps, kept_job q c ps is_job, subst (λ p. IsWrittenIn ps (v.bytes c) (left_in p) e) (sym (put_other v.block_writes f (issued_writes b (writes_of rules.block_size sp.parts)) q (not_f q c ps is_job))) there) ]) (s.log c x i);
    apart = record {
      dirty = s.apart.dirty;
      idle = λ e. absurd (quiet e);
      none = λ e. absurd (quiet e);
      cleaned = λ c a. absurd (quiet (awaits_cleaning c v.destroy a));
      handed = put_one (λ q φ. (c : ℕ) → φ.ready ≡ Some c → puts' c ≡ []) v.flushers f ψ (λ c e. absurd (let x : None ≡ Some c = e in cc))
          (λ q ne c e. puts_far c (λ at. vacant q ne (e ∙ ap Some at)) ∙ s.apart.handed q c e);
    };
    reads = λ c. elim (same_or c b) [
      | inl at ↦ subst (λ r. ReadsOk sz (v.bytes c) c (fill c) r (v.scans c)) (sym (ap v.reclaims at ∙ unread)) tt
      | inr other ↦ subst (λ n. ReadsOk sz (v.bytes c) c n (v.reclaims c) (v.scans c)) (sym (far c other)) (s.reads c)
    ];
  }
    where
      sz : Sizes
      sz = sizes_of rules

      ψ : Flusher C
      ψ = record (v.flushers f) { own = Some b; ready = None; batch = Some (record batch { blocks = rest; continues_own_block = false; writing = writing_of b (writes_of rules.block_size sp.parts) (records_in sp.parts) }) }

      job : ℕ → Option (Job C)
      job q = job_in (v.flushers q)

      puts : ℕ → List Entry
      puts = puts_in v.filling v.committed

      puts' : ℕ → List Entry
      puts' = puts_in fill v.committed

      puts_far : (c : ℕ) → (c ≡ b → ⊥) → puts' c ≡ puts c
      puts_far c other = ap (λ n. puts_at c n v.committed) (far c other)

      holding : Holds sz (all_laid (writes_of rules.block_size sp.parts) (v.bytes b)) (filled_to sp.end) (puts' b ++ map entry_of (records_in sp.parts))
          × TasksOk (puts' b) (records_in sp.parts) (v.bytes b) (writes_of rules.block_size sp.parts) × RestOk A sz (fresh sz) rest
      holding = spread_holds (v.bytes b) start (puts' b) sp rest spread holds

      mine : IsHeld sz (put v.filled b sp.end) v.bytes puts' (Some b) (job_of (writing_of b (writes_of rules.block_size sp.parts) (records_in sp.parts))) (left_in (issued_writes b (writes_of rules.block_size sp.parts)))
      mine = held_issued sz (put v.filled b sp.end) v.bytes puts' b sp.parts
          (subst (λ g. Holds sz (all_laid (writes_of rules.block_size sp.parts) (v.bytes b)) (filled_to g) (puts' b ++ map entry_of (records_in sp.parts))) (sym (put_same v.filled b sp.end)) holding.0)
          holding.1

      idle_f : job f ≡ None
      idle_f = ap (λ k. job_of (writing_in k)) is

      not_f : (q c : ℕ) (ps : List (ℕ × Record C)) → job q ≡ Some (c, ps) → q ≡ f → ⊥
      not_f q c ps is_job at = let j : Job C = (c, ps) in let x : None ≡ Some j = sym idle_f ∙ ap job (sym at) ∙ is_job in cc

      kept_job : (q c : ℕ) (ps : List (ℕ × Record C)) → job q ≡ Some (c, ps) → job_in (put v.flushers f ψ q) ≡ Some (c, ps)
      kept_job q c ps is_job = ap job_in (put_other v.flushers f ψ q (not_f q c ps is_job)) ∙ is_job

      idle : (c : ℕ) → c ≡ b → (IsJob (λ q. job_in (put v.flushers f ψ q)) c → ⊥) → job_of (writing_of b (writes_of rules.block_size sp.parts) (records_in sp.parts)) ≡ None
      idle c at no_job = elim (no_job_parts rules.block_size b sp.parts) [
        | inl none ↦ none
        | inr some ↦ absurd (no_job (f, records_in sp.parts, subst (λ d. job_in (put v.flushers f ψ f) ≡ Some (d, records_in sp.parts)) (sym at) (ap job_in (put_same v.flushers f ψ) ∙ some)))
      ]

  -- a block without a fresh put
  pub no_puts : (v : Sight C) (low : ℕ → ℕ) (b n : ℕ) → ((x : Stored C) → In x v.committed → IsBelow rules low v.filling x) → v.filling b < n → puts_at b n v.committed ≡ []
  no_puts v low b n below lt = puts_none b n v.committed (λ x i at of.
      let k : x.filling ≤ v.filling x.block = (below x i).count in
      let e : v.filling x.block ≡ v.filling b = ap v.filling at in absurd (omega arith))

  -- no clean block: the flusher leaves its own
  pub leaves : (v : Sight C) (f : ℕ) (batch : Batch C) (s : IsSafe A rules v) → IsOwned rules v → (v.flushers f).batch ≡ Some batch → batch.continues_own_block ≡ false → job_in (v.flushers f) ≡ None
      → IsSafe A rules (record v { place = released (v.flushers f).own v.place; flushers = put v.flushers f (record (v.flushers f) { own = None }) })
  leaves v f batch s o is fresh none = record {
    low = s.low;
    lines = record { lows = s.lines.lows; waits = put_one (λ q φ. AllWait (IsOf rules s.low q) φ) v.flushers f ψ (record { batch = (s.lines.waits f).batch; buffer = (s.lines.waits f).buffer; queue = (s.lines.waits f).queue }) (λ q _. s.lines.waits q) };
    done = s.done;
    slots = λ h a at. let k : IsSlot v.filling v.committed v.place v.reclaims h a = s.slots h a at in
        record { present = k.present; stored = k.stored; among = k.among; block = k.block; count = k.count; entry = k.entry; alive = λ d. k.alive (dead a.block d); top = k.top };
    ups = record { ascends = s.ups.ascends; owned = put_one (λ q φ. (b : ℕ) → φ.own ≡ Some b → Ascends 0 (sequences_of (puts b)) (s.low q)) v.flushers f ψ (λ b e. absurd (let x : None ≡ Some b = e in cc)) (λ q _. s.ups.owned q) };
    still = λ c living no_job. s.still c (λ d. living (dead_back c d)) (λ (q, ps, is_job). no_job (q, ps, kept_job q c ps is_job));
    held = put_one (λ q φ. IsHeld sz v.filled v.bytes puts φ.own (job_in φ) (left_in (v.block_writes q))) v.flushers f ψ
        (record { mine = λ b e. absurd (let x : None ≡ Some b = e in cc); writing = λ b ps e. (s.held f).writing b ps e }) (λ q _. s.held q);
    rests = put_one (λ q φ. RestOk A sz (filled_to (start_of rules v.filled φ.own (goes_on_in φ.batch))) (blocks_in φ.batch)) v.flushers f ψ
        (subst (λ g. RestOk A sz (filled_to g) (blocks_in (v.flushers f).batch)) (empty_start (v.flushers f).own (goes_on_in (v.flushers f).batch) (ap goes_on_in is ∙ fresh)) (s.rests f)) (λ q _. s.rests q);
    well = s.well;
    log = λ c x i. role_more x.role _ _ x (λ e k. elim k [ inl done ↦ inl done | inr (q, ps, is_job, there) ↦ inr (q, ps, kept_job q c ps is_job, there) ]) (s.log c x i);
    apart = record {
      dirty = s.apart.dirty;
      idle = λ e. put_one (λ q φ. (φ.own ≡ None) × (φ.ready ≡ None)) v.flushers f ψ (refl, (s.apart.idle e f).1) (λ q _. s.apart.idle e q);
      none = s.apart.none;
      cleaned = s.apart.cleaned;
      handed = put_one (λ q φ. (b : ℕ) → φ.ready ≡ Some b → puts b ≡ []) v.flushers f ψ (s.apart.handed f) (λ q _. s.apart.handed q);
    };
    reads = s.reads;
  }
    where
      sz : Sizes
      sz = sizes_of rules

      puts : ℕ → List Entry
      puts = puts_in v.filling v.committed

      ψ : Flusher C
      ψ = record (v.flushers f) { own = None }

      dead : (c : ℕ) → IsDead (released (v.flushers f).own v.place) v.reclaims c → IsDead v.place v.reclaims c
      dead c (inl clean) = inl (released_dead v.place (v.flushers f).own c clean)
      dead c (inr soon) = inr soon

      dead_back : (c : ℕ) → IsDead v.place v.reclaims c → IsDead (released (v.flushers f).own v.place) v.reclaims c
      dead_back c (inl clean) = inl (released_back v.place f (v.flushers f).own c (o.place f) clean)
      dead_back c (inr soon) = inr soon

      kept_job : (q c : ℕ) (ps : List (ℕ × Record C)) → job_in (v.flushers q) ≡ Some (c, ps) → job_in (put v.flushers f ψ q) ≡ Some (c, ps)
      kept_job q c ps = put_one (λ q φ. job_in (v.flushers q) ≡ Some (c, ps) → job_in φ ≡ Some (c, ps)) v.flushers f ψ (λ e. e) (λ q _ e. e) q

      empty_start : (own : Option ℕ) (goes : Bool) → goes ≡ false → start_of rules v.filled own goes ≡ start_of rules v.filled None goes
      empty_start None goes e = refl
      empty_start (Some b) true e = absurd (let x : true ≡ false = e in cc)
      empty_start (Some b) false e = refl
