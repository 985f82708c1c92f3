-- Reclaims and destroys.
use Rattle.std.proofs.Common.{◌≡◌, ℕ, ◌+◌, ◌<◌, ◌≤◌, nat_le, nat_lt, Bool, true, false, if◌then◌else◌, List, [], ◌∷◌, Some, None, refl, sym, ap, subst, ◌∙◌, arith}
use Rattle.std.proofs.lemmas.Bool.Decides.{nat_tests}
use Rattle.foyer_core_model.specs.Numbers.{put, last_number, plus}
use Rattle.foyer_core_model.specs.Record.{Address, Outcome}
use Rattle.foyer_core_model.specs.State.{Flusher, BlockSet, Writes, Reclaims}
use Rattle.foyer_core_model.specs.Rules.{Rules, flusher_of, first_position}
use Rattle.foyer_core_model.specs.Index.{without, forgotten}
use Rattle.foyer_format_layout.specs.Position.{MayWrite}
use Rattle.foyer_core_model.specs.Destroy.{vacated, refilled}
use Rattle.foyer_core_model.specs.Event.{Destruction, sequence_in, newest}
use Rattle.foyer_core_model.specs.World.{World}
use Rattle.foyer_core_model.specs.Opened.{idle}
use Rattle.foyer_core_model.proofs.Basics.{put_at, put_same, put_other, put_one}
use Rattle.foyer_core_model.proofs.Invariant.{Ground, ground_of, InPages, IsSolid, IsGood, writing_in, blocks_in, goes_on_in, line_of, AtLeast, SlotOk, FlusherInvariant, WorldInvariant, tended_place}
use Rattle.foyer_core_model.proofs.GoodAddresses.{slot_lift, load_lift}
use Rattle.foyer_core_model.proofs.LoadSteps.{slot_without, indexed}
use Rattle.foyer_core_model.proofs.FlushBlocks.{split_other, context_other, writing_other}

pub plus_one : (n : ℕ) → n < last_number → plus n 1 ≡ n + 1
plus_one n lt = go (nat_le (n + 1) last_number) refl
  where
    go : (t : Bool) → nat_le (n + 1) last_number ≡ t → (if t then n + 1 else last_number) ≡ n + 1
    go true e = refl
    go false e = absurd (grind (arith, nat_tests))

pub at_least_zero : (h : ℕ) (line : List (ℕ × ℕ)) → AtLeast h 0 line
at_least_zero h [] = tt
at_least_zero h (p ∷ ps) = (λ _. omega arith, at_least_zero h ps)

module _ {C : Type 0} (rules : Rules C) where
  pub moved : (w : World C) (place : ℕ → BlockSet) → WorldInvariant rules w → ((q c : ℕ) → w.core.place c ≡ Writes q → place c ≡ Writes q)
      → WorldInvariant rules (record w { core = record w.core { place = place } })
  moved w place sound keeps =
      record {
        slots = sound.slots;
        loads = sound.loads;
        next = sound.next;
        flushers = λ q. tended_place rules (ground_of w) w.core.place place w.core.next q (w.core.flushers q) (w.block_writes q) (λ b. keeps q b) (sound.flushers q);
      }

  pub one_moved : (w : World C) (b : ℕ) (was now : BlockSet) → WorldInvariant rules w → w.core.place b ≡ was → ((q : ℕ) → was ≡ Writes q → ⊥)
      → WorldInvariant rules (record w { core = record w.core { place = put w.core.place b now } })
  one_moved w b was now sound is other =
      moved w (put w.core.place b now) sound (λ q c mine. put_at (λ p. p ≡ Writes q) w.core.place b now c
      (λ at. absurd (other q (sym is ∙ ap w.core.place (sym at) ∙ mine))) (λ _. mine))

  pub forgot : (listed : List (ℕ × Address)) (w : World C) → WorldInvariant rules w
      → WorldInvariant rules (record w { core = record w.core { index = forgotten listed w.core.index } })
  forgot [] w sound = sound
  forgot (p ∷ ps) w sound =
      forgot ps (record w { core = record w.core { index = put w.core.index p.0 (without p.1 (w.core.index p.0)) } })
      (indexed rules w p.0 (without p.1 (w.core.index p.0)) sound
      (λ f routed. slot_without rules (ground_of w) w.block_writes w.history p.0 (line_of (w.core.flushers f)) p.1 (w.core.index p.0) (sound.slots p.0 f routed)))

  pub cleared : (w : World C) → WorldInvariant rules w → ((b : ℕ) → w.core.filling b < last_number) → ((f : ℕ) → (w.core.flushers f).batch ≡ None)
      → WorldInvariant rules (record w {
        core = record w.core {
          index = λ h. None;
          filling = refilled rules.blocks w.core.filling;
          place = λ b. vacated (w.core.place b);
          flushers = λ f. record (w.core.flushers f) { own = None; ready = None; context = first_position rules };
        };
        history = Destruction ∷ w.history;
        filled = λ b. if nat_lt b rules.blocks then first_position rules else w.filled b;
      })
  cleared w sound few idle =
      record {
        slots = λ h f routed. at_least_zero h (line_of (w.core.flushers f));
        loads = λ n. load_lift rules (ground_of w) g' w.block_writes w.block_writes (w.loads n) good
            (λ l ok e. ok.read_state (older l.ticket.address ok.good.older e))
            (sound.loads n);
        flushers = λ f. tended f;
        next = λ h. let below : sequence_in (newest h w.history) < w.core.next = sound.next h in omega arith;
      }
    where
      g' : Ground
      g' = record { filled = λ b. if nat_lt b rules.blocks then first_position rules else w.filled b; filling = refilled rules.blocks w.core.filling; bytes = w.bytes }

      older : (a : Address) → a.filling ≤ w.core.filling a.block → a.filling ≡ refilled rules.blocks w.core.filling a.block → a.filling ≡ w.core.filling a.block
      older a le given = go (nat_lt a.block rules.blocks) given
        where
          go : (t : Bool) → a.filling ≡ (if t then plus (w.core.filling a.block) 1 else w.core.filling a.block) → a.filling ≡ w.core.filling a.block
          go true e = absurd (let p : plus (w.core.filling a.block) 1 ≡ w.core.filling a.block + 1 = plus_one (w.core.filling a.block) (few a.block) in omega arith)
          go false e = e

      shut_by : (a : Address) → a.filling ≤ w.core.filling a.block → a.filling ≡ refilled rules.blocks w.core.filling a.block → ((o : ℕ) → InPages rules a o → MayWrite rules.index_size (w.filled a.block) o → ⊥)
          → (o : ℕ) → InPages rules a o → MayWrite rules.index_size (g'.filled a.block) o → ⊥
      shut_by a le given shut = go (nat_lt a.block rules.blocks) given
        where
          go : (t : Bool) → a.filling ≡ (if t then plus (w.core.filling a.block) 1 else w.core.filling a.block)
              → (o : ℕ) → InPages rules a o → MayWrite rules.index_size (if t then first_position rules else w.filled a.block) o → ⊥
          go true e = absurd (let p : plus (w.core.filling a.block) 1 ≡ w.core.filling a.block + 1 = plus_one (w.core.filling a.block) (few a.block) in omega arith)
          go false e = shut

      still_older : (a : Address) → a.filling ≤ w.core.filling a.block → a.filling ≤ refilled rules.blocks w.core.filling a.block
      still_older a le = go (nat_lt a.block rules.blocks)
        where
          go : (t : Bool) → a.filling ≤ (if t then plus (w.core.filling a.block) 1 else w.core.filling a.block)
          go true = let p : plus (w.core.filling a.block) 1 ≡ w.core.filling a.block + 1 = plus_one (w.core.filling a.block) (few a.block) in omega arith
          go false = le

      good : (h : ℕ) (a : Address) (x : Outcome C) → IsGood rules (ground_of w) w.block_writes h a x → IsGood rules g' w.block_writes h a x
      good h a x fine = record {
        older = still_older a fine.older;
        solid = λ e. let s : IsSolid rules (ground_of w) w.block_writes h a x = fine.solid (older a fine.older e) in
            record { outcome = s.outcome; shut = shut_by a fine.older e s.shut; spared = s.spared; past = s.past };
      }

      tended : (f : ℕ) → FlusherInvariant rules g' (λ b. vacated (w.core.place b)) w.core.next f (record (w.core.flushers f) { own = None; ready = None; context = first_position rules }) (w.block_writes f)
      tended f =
          let is : w.core.flushers f ≡ record (w.core.flushers f) { batch = None } = (λ i. record (w.core.flushers f) { batch = idle f i }) in
          let t : FlusherInvariant rules (ground_of w) w.core.place w.core.next f (record (w.core.flushers f) { batch = None }) (w.block_writes f) =
          subst (λ k. FlusherInvariant rules (ground_of w) w.core.place w.core.next f k (w.block_writes f)) is (sound.flushers f) in
          subst (λ k. FlusherInvariant rules g' (λ b. vacated (w.core.place b)) w.core.next f (record k { own = None; ready = None; context = first_position rules }) (w.block_writes f)) (sym is)
          (record {
            order = record { received = t.order.received; queued = t.order.queued; batch = t.order.batch; batch_marks = t.order.batch_marks; buffer = t.order.buffer; marks = t.order.marks; queue = t.order.queue };
            batch = t.batch;
            batch_marks = t.batch_marks;
            buffer = t.buffer;
            marks = t.marks;
            queue = t.queue;
            split = tt;
            context = refl;
            owned = λ b p. absurd (let e : None ≡ Some b = p in cc);
            spare = λ b p. absurd (let e : None ≡ Some b = p in cc);
            either = λ b c p q. absurd (let e : None ≡ Some b = p in cc);
            writing = t.writing;
          })

  -- a block that was reclaimed goes to a flusher that waits
  pub handed : (w : World C) (b f : ℕ) → WorldInvariant rules w → w.core.place b ≡ Reclaims → (w.core.flushers f).own ≡ None → (w.core.flushers f).ready ≡ None
      → WorldInvariant rules (record w {
        core = record w.core {
          place = put w.core.place b (Writes f);
          filling = put w.core.filling b (w.core.filling b + 1);
          flushers = put w.core.flushers f (record (w.core.flushers f) { ready = Some b });
        };
        filled = put w.filled b (first_position rules);
      })
  handed w b f sound at idle none =
      record {
        slots = λ h e routed. put_at (λ φ. SlotOk rules g' w.block_writes w.history h (line_of φ) (w.core.index h)) w.core.flushers f ψ e
            (λ is. subst (λ k. SlotOk rules g' w.block_writes w.history h (line_of k) (w.core.index h)) (ap w.core.flushers is) (lifted h e routed))
            (λ _. lifted h e routed);
        loads = λ n. load_lift rules (ground_of w) g' w.block_writes w.block_writes (w.loads n) (λ h a x. good h a x)
            (λ l ok e. ok.read_state (older l.ticket.address ok.good.older e)) (sound.loads n);
        flushers = put_one (λ q φ. FlusherInvariant rules g' place' w.core.next q φ (w.block_writes q)) w.core.flushers f ψ
            (let t : FlusherInvariant rules g' place' w.core.next f (w.core.flushers f) (w.block_writes f) = tended f in
            record {
              order = record { received = t.order.received; queued = t.order.queued; batch = t.order.batch; batch_marks = t.order.batch_marks; buffer = t.order.buffer; marks = t.order.marks; queue = t.order.queue };
              batch = t.batch;
              batch_marks = t.batch_marks;
              buffer = t.buffer;
              marks = t.marks;
              queue = t.queue;
              split = t.split;
              context = t.context;
              owned = t.owned;
              spare = λ c p. let same : b ≡ c = (let e : Some b ≡ Some c = p in cc) in
                  subst (λ k. (place' k ≡ Writes f) × (put w.filled b (first_position rules) k ≡ first_position rules)) same (put_same w.core.place b (Writes f), put_same w.filled b (first_position rules));
              either = λ c d p q. absurd (let e : None ≡ Some c = sym idle ∙ p in cc);
              writing = t.writing;
            })
            (λ q _. tended q);
        next = sound.next;
      }
    where
      ψ : Flusher C
      ψ = record (w.core.flushers f) { ready = Some b }

      place' : ℕ → BlockSet
      place' = put w.core.place b (Writes f)

      g' : Ground
      g' = record { filled = put w.filled b (first_position rules); filling = put w.core.filling b (w.core.filling b + 1); bytes = w.bytes }

      not_mine : (q c : ℕ) → w.core.place c ≡ Writes q → c ≡ b → ⊥
      not_mine q c mine is = let e : Reclaims ≡ Writes q = sym at ∙ ap w.core.place (sym is) ∙ mine in cc

      kept_place : (q c : ℕ) → w.core.place c ≡ Writes q → place' c ≡ Writes q
      kept_place q c mine = put_other w.core.place b (Writes f) c (not_mine q c mine) ∙ mine

      older : (a : Address) → a.filling ≤ w.core.filling a.block → a.filling ≡ put w.core.filling b (w.core.filling b + 1) a.block → a.filling ≡ w.core.filling a.block
      older a le = put_at (λ n. a.filling ≡ n → a.filling ≡ w.core.filling a.block) w.core.filling b (w.core.filling b + 1) a.block
          (λ is e. let le' : a.filling ≤ w.core.filling b = subst (λ k. a.filling ≤ w.core.filling k) is le in absurd (omega arith))
          (λ _ e. e)

      good : (h : ℕ) (a : Address) (x : Outcome C) → IsGood rules (ground_of w) w.block_writes h a x → IsGood rules g' w.block_writes h a x
      good h a x fine =
          record {
            older = put_at (λ n. a.filling ≤ n) w.core.filling b (w.core.filling b + 1) a.block
                (λ is. let before : a.filling ≤ w.core.filling b = subst (λ q. a.filling ≤ w.core.filling q) is fine.older in omega arith) (λ _. fine.older);
            solid = λ e. let s : IsSolid rules (ground_of w) w.block_writes h a x = fine.solid (older a fine.older e) in
                let far : a.block ≡ b → ⊥ = λ is. (let le : a.filling ≤ w.core.filling b = subst (λ q. a.filling ≤ w.core.filling q) is fine.older in
                let eq : a.filling ≡ w.core.filling b + 1 = e ∙ ap (put w.core.filling b (w.core.filling b + 1)) is ∙ put_same w.core.filling b (w.core.filling b + 1) in omega arith) in
                record {
                  outcome = s.outcome;
                  shut = λ o inside may. s.shut o inside (subst (λ fl. MayWrite rules.index_size fl o) (put_other w.filled b (first_position rules) a.block far) may);
                  spared = s.spared;
                  past = s.past;
                };
          }

      lifted : (h e : ℕ) → flusher_of rules h ≡ e → SlotOk rules g' w.block_writes w.history h (line_of (w.core.flushers e)) (w.core.index h)
      lifted h e routed = slot_lift rules (ground_of w) g' w.block_writes w.block_writes w.history h (line_of (w.core.flushers e)) (line_of (w.core.flushers e)) (w.core.index h)
          (λ a x. good h a x) (λ n _ line. line) (sound.slots h e routed)

      tended : (q : ℕ) → FlusherInvariant rules g' place' w.core.next q (w.core.flushers q) (w.block_writes q)
      tended q = let t : FlusherInvariant rules (ground_of w) w.core.place w.core.next q (w.core.flushers q) (w.block_writes q) = sound.flushers q in
          record {
            order = t.order;
            batch = t.batch;
            batch_marks = t.batch_marks;
            buffer = t.buffer;
            marks = t.marks;
            queue = t.queue;
            split = split_other rules w.filled b (first_position rules) (w.core.flushers q).own (goes_on_in (w.core.flushers q).batch) (blocks_in (w.core.flushers q).batch) (λ p. not_mine q b (t.owned b p) refl) t.split;
            context = context_other rules w.filled b (first_position rules) (w.core.flushers q).own (blocks_in (w.core.flushers q).batch) (w.core.flushers q).context (λ p. not_mine q b (t.owned b p) refl) t.context;
            owned = λ c p. kept_place q c (t.owned c p);
            spare = λ c p. (
              kept_place q c (t.spare c p).0,
              put_other w.filled b (first_position rules) c (not_mine q c (t.spare c p).0) ∙ (t.spare c p).1,
            );
            either = t.either;
            writing = writing_other rules (ground_of w) (put w.core.filling b (w.core.filling b + 1)) b (first_position rules) (w.core.flushers q).own (writing_in (w.core.flushers q).batch) (w.block_writes q) (λ p. not_mine q b (t.owned b p) refl) t.writing;
          }
