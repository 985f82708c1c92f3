-- Events that neither hand out a block nor write one keep a world safe.
use Rattle.std.proofs.Common.{◌≡◌, ◌≢◌, ℕ, ◌+◌, ◌<◌, ◌≤◌, nat_le, Bool, true, false, if◌then◌else◌, Option, Some, None, List, [], ◌∷◌, ◌++◌, map, length, ◌⊎◌, inl, inr, refl, sym, ap, subst, ◌∙◌, arith}
use Rattle.foyer_core_model.specs.Numbers.{put}
use Rattle.foyer_core_model.specs.Record.{Address, Slot, Indexed, Mark}
use Rattle.foyer_format_layout.specs.BlockBytes.{Write}
use Rattle.foyer_core_model.specs.Position.{Position}
use Rattle.foyer_core_model.specs.State.{Submission, Flusher, NoDestroy, Begun}
use Rattle.foyer_core_model.specs.Rules.{Rules, sizes_of}
use Rattle.foyer_core_model.specs.Index.{is_same, inserted, without, without_mark, unmarked, sequence_at}
use Rattle.foyer_core_model.specs.InTurn.{AwaitsClean}
use Rattle.foyer_core_model.specs.Access.{BlockWrites}
use Rattle.foyer_core_model.proofs.Basics.{put_at, put_one}
use Rattle.foyer_core_model.proofs.Invariant.{AllWell, blocks_in, goes_on_in, start_of}
use Rattle.foyer_format_layout.proofs.EachLaws.{each_join}
use Rattle.foyer_core_restart.specs.Entries.{filled_to}
use Rattle.foyer_core_restart.proofs.Tasks.{Entry}
use Rattle.foyer_core_restart.proofs.Safe.{Sight, Job, job_in, left_in, results_in, SubmissionIs, AllWait, IsOf, RestOk, AreUp, AreStill, IsHeld, AreLogged, AreApart, puts_in, IsSafe}

-- what the invariant sees of a flusher, beside its lines
pub record Hand (C : Type 0) : Type 0 where
  pub own : Option ℕ
  pub ready : Option ℕ
  pub job : Option (Job C)
  pub left : List Write

abbrev pub hand_of : {C : Type 0} → Flusher C → BlockWrites → Hand C
hand_of φ pending = record { own = φ.own; ready = φ.ready; job = job_in φ; left = left_in pending }

abbrev pub RestAt : Type 0 → {C : Type 0} → Rules C → (ℕ → Position) → Flusher C → Type 0
RestAt A rules filled φ = RestOk A (sizes_of rules) (filled_to (start_of rules filled φ.own (goes_on_in φ.batch))) (blocks_in φ.batch)

-- the index has no more addresses than before
abbrev pub IsFewer : (ℕ → Option Slot) → (ℕ → Option Slot) → Type 0
IsFewer m n = (h : ℕ) (a : Address) → n h ≡ Some (Indexed a) → m h ≡ Some (Indexed a)

pub fewer_same : (m : ℕ → Option Slot) → IsFewer m m
fewer_same m h a is = is

pub fewer_put : (m : ℕ → Option Slot) (k : ℕ) (slot : Option Slot) → ((a : Address) → slot ≡ Some (Indexed a) → m k ≡ Some (Indexed a)) → IsFewer m (put m k slot)
fewer_put m k slot back h a =
    put_at (λ x. x ≡ Some (Indexed a) → m h ≡ Some (Indexed a)) m k slot h (λ at is. ap m at ∙ back a is) (λ _ is. is)

pub fewer_mark : (slot : Option Slot) (s : ℕ) (a : Address) → inserted slot (Mark s) ≡ Some (Indexed a) → slot ≡ Some (Indexed a)
fewer_mark None s a is = absurd (let e : Some (Mark s) ≡ Some (Indexed a) = is in cc)
fewer_mark (Some old) s a is = go (nat_le (sequence_at old) s) is
  where
    go : (t : Bool) → (if t then Some (Mark s) else Some old) ≡ Some (Indexed a) → Some old ≡ Some (Indexed a)
    go true e = absurd (let f : Some (Mark s) ≡ Some (Indexed a) = e in cc)
    go false e = e

pub fewer_without : (b : Address) (slot : Option Slot) (a : Address) → without b slot ≡ Some (Indexed a) → slot ≡ Some (Indexed a)
fewer_without b None a is = is
fewer_without b (Some (Mark s)) a is = is
fewer_without b (Some (Indexed c)) a is = go (is_same b c) is
  where
    go : (t : Bool) → (if t then None else Some (Indexed c)) ≡ Some (Indexed a) → Some (Indexed c) ≡ Some (Indexed a)
    go true e = absurd (let f : None ≡ Some (Indexed a) = e in cc)
    go false e = e

fewer_unmarked_one : (s : ℕ) (slot : Option Slot) (a : Address) → without_mark s slot ≡ Some (Indexed a) → slot ≡ Some (Indexed a)
fewer_unmarked_one s None a is = is
fewer_unmarked_one s (Some (Indexed c)) a is = is
fewer_unmarked_one s (Some (Mark t)) a is = go (Rattle.std.proofs.Common.nat_eq t s) is
  where
    go : (k : Bool) → (if k then None else Some (Mark t)) ≡ Some (Indexed a) → Some (Mark t) ≡ Some (Indexed a)
    go true e = absurd (let f : None ≡ Some (Indexed a) = e in cc)
    go false e = e

pub fewer_unmarked : (marks : List (ℕ × ℕ)) (m : ℕ → Option Slot) → IsFewer m (unmarked marks m)
fewer_unmarked [] m h a is = is
fewer_unmarked (p ∷ ps) m h a is =
    fewer_put m p.0 (without_mark p.1 (m p.0)) (fewer_unmarked_one p.1 (m p.0)) h a (fewer_unmarked ps (put m p.0 (without_mark p.1 (m p.0))) h a is)

module _ (A : Type 0) {C : Type 0} (rules : Rules C) where
  pub mild : (v : Sight C) (m : ℕ → Option Slot) (next : ℕ) (flushers : ℕ → Flusher C) (block_writes : ℕ → BlockWrites) (s : IsSafe A rules v) → v.next ≤ next → IsFewer v.index m
      → ((f : ℕ) → hand_of (flushers f) (block_writes f) ≡ hand_of (v.flushers f) (v.block_writes f)) → ((f : ℕ) → AllWell (results_in (block_writes f)))
      → ((f : ℕ) → AllWait (IsOf rules s.low f) (flushers f)) → ((f : ℕ) → RestAt A rules v.filled (flushers f))
      → IsSafe A rules (record v { index = m; next = next; flushers = flushers; block_writes = block_writes })
  mild v m next flushers block_writes s le fewer hands well waits rests = record {
    low = s.low;
    lines = record { lows = λ f. let l : s.low f ≤ v.next = s.lines.lows f in omega arith; waits = waits };
    done = s.done;
    slots = λ h a is. s.slots h a (fewer h a is);
    ups = subst (λ (k : ℕ → Hand C). AreUp s.low (λ f. (k f).own) puts) (sym same) s.ups;
    still = subst (λ (k : ℕ → Hand C). AreStill (sizes_of rules) v.place v.reclaims (λ f. (k f).job) v.bytes puts) (sym same) s.still;
    held = λ f. subst (λ (k : Hand C). IsHeld (sizes_of rules) v.filled v.bytes puts k.own k.job k.left) (sym (hands f)) (s.held f);
    rests = rests;
    well = well;
    log = subst (λ (k : ℕ → Hand C). AreLogged v.begun v.committed (λ f. (k f).job) v.bytes (λ f. (k f).left)) (sym same) s.log;
    apart = subst (λ (k : ℕ → Hand C). AreApart rules.blocks v.clean_states v.destroy (λ f. (k f).own) (λ f. (k f).ready) v.reclaims puts) (sym same) s.apart;
    reads = s.reads;
  }
    where
      puts : ℕ → List Entry
      puts = puts_in v.filling v.committed

      after : ℕ → Hand C
      after f = hand_of (flushers f) (block_writes f)

      before : ℕ → Hand C
      before f = hand_of (v.flushers f) (v.block_writes f)

      same : after ≡ before
      same = λ i f. hands f i

  -- the index alone
  pub indexed : (v : Sight C) (m : ℕ → Option Slot) → IsFewer v.index m → IsSafe A rules v → IsSafe A rules (record v { index = m })
  indexed v m fewer s = mild v m v.next v.flushers v.block_writes s (omega arith) fewer (λ f. refl) s.well s.lines.waits s.rests

  -- one flusher and its pending
  pub turned_writes : (v : Sight C) (m : ℕ → Option Slot) (next f : ℕ) (ψ : Flusher C) (pending : BlockWrites) (s : IsSafe A rules v) → v.next ≤ next → IsFewer v.index m
      → hand_of ψ pending ≡ hand_of (v.flushers f) (v.block_writes f) → AllWell (results_in pending) → AllWait (IsOf rules s.low f) ψ → RestAt A rules v.filled ψ
      → IsSafe A rules (record v { index = m; next = next; flushers = put v.flushers f ψ; block_writes = put v.block_writes f pending })
  turned_writes v m next f ψ pending s le fewer hand well waits rest =
      mild v m next (put v.flushers f ψ) (put v.block_writes f pending) s le fewer
      (Rattle.foyer_core_model.proofs.Basics.put_both (λ q φ p. hand_of φ p ≡ hand_of (v.flushers q) (v.block_writes q)) v.flushers v.block_writes f ψ pending hand (λ q _. refl))
      (put_one (λ q p. AllWell (results_in p)) v.block_writes f pending well (λ q _. s.well q))
      (put_one (λ q φ. AllWait (IsOf rules s.low q) φ) v.flushers f ψ waits (λ q _. s.lines.waits q))
      (put_one (λ q φ. RestAt A rules v.filled φ) v.flushers f ψ rest (λ q _. s.rests q))

  -- one flusher
  pub turned : (v : Sight C) (m : ℕ → Option Slot) (next f : ℕ) (ψ : Flusher C) (s : IsSafe A rules v) → v.next ≤ next → IsFewer v.index m
      → hand_of ψ (v.block_writes f) ≡ hand_of (v.flushers f) (v.block_writes f) → AllWait (IsOf rules s.low f) ψ → RestAt A rules v.filled ψ
      → IsSafe A rules (record v { index = m; next = next; flushers = put v.flushers f ψ })
  turned v m next f ψ s le fewer hand waits rest =
      mild v m next (put v.flushers f ψ) v.block_writes s le fewer
      (put_one (λ q φ. hand_of φ (v.block_writes q) ≡ hand_of (v.flushers q) (v.block_writes q)) v.flushers f ψ hand (λ q _. refl))
      s.well
      (put_one (λ q φ. AllWait (IsOf rules s.low q) φ) v.flushers f ψ waits (λ q _. s.lines.waits q))
      (put_one (λ q φ. RestAt A rules v.filled φ) v.flushers f ψ rest (λ q _. s.rests q))

  -- a queue grows
  pub pushed : (v : Sight C) (m : ℕ → Option Slot) (next f : ℕ) (sub : Submission C) (s : IsSafe A rules v) → v.next ≤ next → IsFewer v.index m
      → SubmissionIs (IsOf rules s.low f) sub
      → IsSafe A rules (record v { index = m; next = next; flushers = put v.flushers f (record (v.flushers f) { queue = (v.flushers f).queue ++ sub ∷ [] }) })
  pushed v m next f sub s le fewer ok =
      turned v m next f (record (v.flushers f) { queue = (v.flushers f).queue ++ sub ∷ [] }) s le fewer refl
      (record {
        batch = (s.lines.waits f).batch;
        buffer = (s.lines.waits f).buffer;
        queue = each_join (SubmissionIs (IsOf rules s.low f)) (v.flushers f).queue (sub ∷ []) (s.lines.waits f).queue (ok, tt);
      })
      (s.rests f)

  -- a destroy begins
  pub destroying : (v : Sight C) → v.destroy ≡ NoDestroy → IsSafe A rules v → IsSafe A rules (record v { destroy = Begun })
  destroying v is s = record {
    low = s.low;
    lines = s.lines;
    done = s.done;
    slots = s.slots;
    ups = s.ups;
    still = s.still;
    held = s.held;
    rests = s.rests;
    well = s.well;
    log = s.log;
    reads = s.reads;
    apart = record {
      dirty = λ b e. elim (s.apart.dirty b e) [ inl at ↦ inl at | inr awaits ↦ absurd (subst (AwaitsClean b) is awaits) ];
      idle = λ e. absurd cc;
      none = λ e. absurd cc;
      cleaned = λ b a. absurd a;
      handed = s.apart.handed;
    };
  }
