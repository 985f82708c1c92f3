-- FlushEnd and FlushWrote.
use Rattle.std.proofs.Common.{◌≡◌, ℕ, ◌<◌, ◌≤◌, Bool, true, false, List, [], ◌∷◌, ◌++◌, map, Option, Some, None, refl, sym, ap, subst, ◌∙◌, arith}
use mathlib.Core.Path.{fun_ext}
use Rattle.foyer_core_model.specs.Numbers.{put}
use Rattle.foyer_core_model.specs.Record.{Address, Slot, Outcome, Record}
use Rattle.foyer_format_layout.specs.BlockBytes.{Write, all_laid}
use Rattle.foyer_core_model.specs.Position.{Position, records_of}
use Rattle.foyer_core_model.specs.State.{Writing, Batch, Flusher, BlockSet, Writes, Evictable}
use Rattle.foyer_core_model.specs.Rules.{Rules, flusher_of, first_position}
use Rattle.foyer_core_model.specs.Index.{unmarked}
use Rattle.foyer_format_layout.specs.Position.{MayWrite}
use Rattle.foyer_core_model.specs.Layout.{AllStand, AllOutside, AllBehind}
use Rattle.foyer_core_model.specs.Commit.{address_of}
use Rattle.foyer_core_model.specs.Flush.{released}
use Rattle.foyer_core_model.specs.Event.{Event, sequence_in, newest}
use Rattle.foyer_core_model.specs.Access.{BlockWrites, Idle, Issued, InFlight, writes_reported, result_of}
use Rattle.foyer_core_model.specs.World.{World}
use Rattle.foyer_core_model.proofs.Basics.{put_at, Ascends, ascends_span, ascends_to, ascends_at_least, put_one, put_both}
use Rattle.foyer_format_layout.specs.Each.{Each}
use Rattle.foyer_core_model.proofs.Invariant.{Ground, ground_of, WritesSpare, IsGood, puts_onto, queue_puts, writing_in, line_of, SlotOk, sequences, queue_sequences, RecordOk, AreLeft, AllWell, WritesFit, WritingOk, FlusherInvariant, WorldInvariant, one_owner, tended_place}
use Rattle.foyer_core_model.proofs.GoodAddresses.{good_writes, slot_lift, load_lift}
use Rattle.foyer_format_layout.proofs.EachLaws.{each_back, each_front}
use Rattle.foyer_core_model.proofs.CommitSteps.{committed, noted, each_past, onto_append, ascends_skip, ascends_first, ascends_join, ascends_puts, line_ascends, Brings, commits, commits_other, noted_below, unmarks, unmarks_other}

pub put_self : {A : Type 0} (m : ℕ → A) (k : ℕ) → put m k (m k) ≡ m
put_self m k = fun_ext (λ q. put_at (λ x. x ≡ m q) m k (m k) q (λ e. ap m (sym e)) (λ _. refl))

module _ {C : Type 0} (rules : Rules C) where
  pub puts_skip : (P : ℕ × ℕ → Type 0) (a b : List (Record C)) (l : List (ℕ × ℕ)) → Each P (puts_onto (a ++ b) l) → Each P (puts_onto b l)
  puts_skip P a b l h = each_past P a (puts_onto b l) (subst (Each P) (onto_append a b l) h)

  -- a block that a flusher leaves is no other flusher's
  pub released_other : (place : ℕ → BlockSet) (f : ℕ) (own : Option ℕ) → ((b : ℕ) → own ≡ Some b → place b ≡ Writes f)
      → (q c : ℕ) → (q ≡ f → ⊥) → place c ≡ Writes q → released own place c ≡ Writes q
  released_other place f None owned q c ne mine = mine
  released_other place f (Some b) owned q c ne mine =
      put_at (λ p. p ≡ Writes q) place b Evictable c
      (λ at. absurd (ne (let here : place b ≡ Writes f = owned b refl in let there : place b ≡ Writes q = ap place (sym at) ∙ mine in cc)))
      (λ _. mine)

  -- one flusher changes with its writes, the index and the history
  pub flushed : (w : World C) (f : ℕ) (φ ψ : Flusher C) (pending : BlockWrites) (m : ℕ → Option Slot) (H : List (Event C)) (place : ℕ → BlockSet) → WorldInvariant rules w
      → w.core.flushers f ≡ φ
      → ((q b : ℕ) → (q ≡ f → ⊥) → w.core.place b ≡ Writes q → place b ≡ Writes q)
      → ((a : Address) → WritesSpare rules a (w.block_writes f) → WritesSpare rules a pending)
      → ((h : ℕ) → flusher_of rules h ≡ f → SlotOk rules (ground_of w) (put w.block_writes f pending) w.history h (line_of φ) (w.core.index h) → SlotOk rules (ground_of w) (put w.block_writes f pending) H h (line_of ψ) (m h))
      → ((h : ℕ) (line : List (ℕ × ℕ)) → (flusher_of rules h ≡ f → ⊥) → SlotOk rules (ground_of w) (put w.block_writes f pending) w.history h line (w.core.index h) → SlotOk rules (ground_of w) (put w.block_writes f pending) H h line (m h))
      → (FlusherInvariant rules (ground_of w) w.core.place w.core.next f φ (w.block_writes f) → FlusherInvariant rules (ground_of w) place w.core.next f ψ pending)
      → ((h : ℕ) → sequence_in (newest h H) < w.core.next)
      → WorldInvariant rules (record w { core = record w.core { flushers = put w.core.flushers f ψ; index = m; place = place }; history = H; block_writes = put w.block_writes f pending })
  flushed w f φ ψ pending m H place sound is owns spares mine others tended next =
      record {
        slots = λ h e routed. put_at (λ k. SlotOk rules (ground_of w) (put w.block_writes f pending) H h (line_of k) (m h)) w.core.flushers f ψ e
            (λ at. mine h (routed ∙ at)
            (subst (λ k. SlotOk rules (ground_of w) (put w.block_writes f pending) w.history h (line_of k) (w.core.index h)) is (lifted h f (routed ∙ at))))
            (λ ne. others h (line_of (w.core.flushers e)) (λ at. ne (sym routed ∙ at)) (lifted h e routed));
        loads = λ n. load_lift rules (ground_of w) (ground_of w) w.block_writes (put w.block_writes f pending) (w.loads n) good (λ l ok. ok.read_state) (sound.loads n);
        flushers = put_both (λ q k p. FlusherInvariant rules (ground_of w) place w.core.next q k p) w.core.flushers w.block_writes f ψ pending
            (tended (subst (λ k. FlusherInvariant rules (ground_of w) w.core.place w.core.next f k (w.block_writes f)) is (sound.flushers f)))
            (λ q ne. tended_place rules (ground_of w) w.core.place place w.core.next q (w.core.flushers q) (w.block_writes q) (λ b. owns q b ne) (sound.flushers q));
        next = next;
      }
    where
      good : (h : ℕ) (a : Address) (x : Outcome C) → IsGood rules (ground_of w) w.block_writes h a x → IsGood rules (ground_of w) (put w.block_writes f pending) h a x
      good h a x = good_writes rules (ground_of w) w.block_writes h a x f pending (spares a)

      lifted : (h e : ℕ) → flusher_of rules h ≡ e → SlotOk rules (ground_of w) (put w.block_writes f pending) w.history h (line_of (w.core.flushers e)) (w.core.index h)
      lifted h e routed = slot_lift rules (ground_of w) (ground_of w) w.block_writes (put w.block_writes f pending) w.history h (line_of (w.core.flushers e)) (line_of (w.core.flushers e)) (w.core.index h)
          (λ a x. good h a x) (λ n _ line. line) (sound.slots h e routed)

  -- a flusher leaves its block and keeps the one that is ready
  pub leaves : (place : ℕ → BlockSet) (filled : ℕ → Position) (f : ℕ) (own : Option ℕ) (ready : Option ℕ)
      → ((b c : ℕ) → own ≡ Some b → ready ≡ Some c → ⊥)
      → ((b : ℕ) → ready ≡ Some b → (place b ≡ Writes f) × (filled b ≡ first_position rules))
      → (b : ℕ) → ready ≡ Some b → (released own place b ≡ Writes f) × (filled b ≡ first_position rules)
  leaves place filled f None ready never spare b is = spare b is
  leaves place filled f (Some c) ready never spare b is = absurd (never c b refl is)

  -- FlushEnd
  pub ended : (w : World C) (f : ℕ) (batch : Batch C) → WorldInvariant rules w → (w.core.flushers f).batch ≡ Some batch → batch.blocks ≡ [] → batch.writing ≡ None
      → WorldInvariant rules (record w { core = record w.core { flushers = put w.core.flushers f (record (w.core.flushers f) { batch = None }); index = unmarked batch.marks w.core.index } })
  ended w f batch sound is blocks writing =
      subst (λ block_writes. WorldInvariant rules (record w { core = record w.core { flushers = put w.core.flushers f (record (w.core.flushers f) { batch = None }); index = unmarked batch.marks w.core.index }; block_writes = block_writes }))
      (put_self w.block_writes f)
      (flushed w f φ0 (record φ { batch = None }) (w.block_writes f) (unmarked batch.marks w.core.index) w.history w.core.place sound is0 (λ q b _ p. p) (λ a s. s)
      (λ h routed ok. unmarks rules (ground_of w) (put w.block_writes f (w.block_writes f)) batch.marks w.core.index w.history h t.order.received (line_of φ0) t.order.batch_marks
      (ascends_at_least t.order.received (sequences (line_of φ0)) w.core.next
      (ascends_join t.order.received t.order.queued w.core.next φ.buffer (queue_puts φ.queue) t.order.buffer (ascends_puts t.order.queued w.core.next φ.queue t.order.queue)))
      ok)
      (λ h line ne ok. subst (λ slot. SlotOk rules (ground_of w) (put w.block_writes f (w.block_writes f)) w.history h line slot)
      (sym (unmarks_other rules (ground_of w) w.block_writes f batch.marks w.core.index h t.batch_marks ne)) ok)
      (λ t. record {
        order = record { received = t.order.received; queued = t.order.queued; batch = omega arith; batch_marks = tt; buffer = t.order.buffer; marks = t.order.marks; queue = t.order.queue };
        batch = tt;
        batch_marks = tt;
        buffer = t.buffer;
        marks = t.marks;
        queue = t.queue;
        split = tt;
        context = t.context;
        owned = t.owned;
        spare = t.spare;
        either = t.either;
        writing = t.writing;
      })
      sound.next)
    where
      φ : Flusher C
      φ = w.core.flushers f

      φ0 : Flusher C
      φ0 = record φ { batch = Some (record batch { blocks = []; writing = None }) }

      is0 : w.core.flushers f ≡ record (w.core.flushers f) { batch = Some (record batch { blocks = []; writing = None }) }
      is0 = λ i. record (w.core.flushers f) { batch = (is ∙ (λ j. Some (record batch { blocks = blocks j; writing = writing j }))) i }

      t : FlusherInvariant rules (ground_of w) w.core.place w.core.next f (record (w.core.flushers f) { batch = Some (record batch { blocks = []; writing = None }) }) (w.block_writes f)
      t = subst (λ k. FlusherInvariant rules (ground_of w) w.core.place w.core.next f k (w.block_writes f)) is0 (sound.flushers f)

  -- a result is reported

  reported_spares : (a : Address) (pending : BlockWrites) → WritesSpare rules a pending → WritesSpare rules a (writes_reported pending)
  reported_spares a Idle spares = spares
  reported_spares a (Issued b [] ws) spares = spares
  reported_spares a (Issued b (r ∷ rs) ws) spares = spares
  reported_spares a (InFlight b [] v ws) spares = spares
  reported_spares a (InFlight b (r ∷ rs) v ws) spares = spares

  reported_fits : (bytes : ℕ → ℕ → ℕ) (r : Writing C) (first second : Write) (rest : List Write) (pending : BlockWrites) → result_of pending ≡ Some true → r.left ≡ first ∷ second ∷ rest
      → WritesFit bytes r pending → WritesFit bytes (record r { left = second ∷ rest }) (writes_reported pending)
  reported_fits bytes r first second rest Idle is left fits = absurd fits
  reported_fits bytes r first second rest (Issued b [] ws) is left fits = absurd (let e : None ≡ Some true = is in cc)
  reported_fits bytes r first second rest (Issued b (true ∷ rs) ws) is left fits = (fits.0, subst (λ l. AreLeft (true ∷ rs) ws l) left fits.1, fits.2)
  reported_fits bytes r first second rest (Issued b (false ∷ rs) ws) is left fits = absurd (let e : Some false ≡ Some true = is in cc)
  reported_fits bytes r first second rest (InFlight b [] v ws) is left fits = absurd (let e : None ≡ Some true = is in cc)
  reported_fits bytes r first second rest (InFlight b (true ∷ rs) v ws) is left fits = (fits.0, subst (λ l. AreLeft (true ∷ rs) (v ∷ ws) l) left fits.1, fits.2)
  reported_fits bytes r first second rest (InFlight b (false ∷ rs) v ws) is left fits = absurd (let e : Some false ≡ Some true = is in cc)

  -- after the last one all records stand
  none_left : (rs : List Bool) (ws : List Write) → AreLeft rs ws [] → (rs ≡ []) × (ws ≡ [])
  none_left [] ws ok = (refl, ok)
  none_left (true ∷ rs) ws ok = absurd ok
  none_left (false ∷ rs) ws ok = absurd (ok.2 refl)

  pub last_stands : (bytes : ℕ → ℕ → ℕ) (r : Writing C) (last : Write) (pending : BlockWrites) → result_of pending ≡ Some true → r.left ≡ last ∷ [] → WritesFit bytes r pending → AllStand (bytes r.block) r.records
  last_stands bytes r last Idle is left fits = absurd fits
  last_stands bytes r last (Issued b [] ws) is left fits = absurd (let e : None ≡ Some true = is in cc)
  last_stands bytes r last (Issued b (true ∷ rs) ws) is left fits =
      let none : (rs ≡ []) × (ws ≡ []) = none_left rs ws (subst (λ l. AreLeft (true ∷ rs) ws l) left fits.1) in
      subst (λ vs. AllStand (all_laid vs (bytes r.block)) r.records) none.1 (fits.2 (subst AllWell (sym none.0) tt))
  last_stands bytes r last (Issued b (false ∷ rs) ws) is left fits = absurd (let e : Some false ≡ Some true = is in cc)
  last_stands bytes r last (InFlight b [] v ws) is left fits = absurd (let e : None ≡ Some true = is in cc)
  last_stands bytes r last (InFlight b (true ∷ rs) v ws) is left fits =
      let none : (rs ≡ []) × (v ∷ ws ≡ []) = none_left rs (v ∷ ws) (subst (λ l. AreLeft (true ∷ rs) (v ∷ ws) l) left fits.1) in
      absurd (let e : v ∷ ws ≡ [] = none.1 in cc)
  last_stands bytes r last (InFlight b (false ∷ rs) v ws) is left fits = absurd (let e : Some false ≡ Some true = is in cc)

  -- FlushWrote, if more writes follow
  pub wrote_one : (w : World C) (f : ℕ) (batch : Batch C) (r : Writing C) (first second : Write) (rest : List Write)
      → WorldInvariant rules w → (w.core.flushers f).batch ≡ Some batch → batch.writing ≡ Some r → r.left ≡ first ∷ second ∷ rest → result_of (w.block_writes f) ≡ Some true
      → WorldInvariant rules (record w {
        core = record w.core { flushers = put w.core.flushers f (record (w.core.flushers f) { batch = Some (record batch { writing = Some (record r { left = second ∷ rest }) }) }) };
        block_writes = put w.block_writes f (writes_reported (w.block_writes f));
      })
  wrote_one w f batch r first second rest sound is writing left over =
      flushed w f φ0 ψ (writes_reported (w.block_writes f)) w.core.index w.history w.core.place sound is0 (λ q b _ p. p)
      (λ a s. reported_spares a (w.block_writes f) s)
      (λ h _ ok. ok) (λ h line _ ok. ok)
      (λ t. record {
        order = record { received = t.order.received; queued = t.order.queued; batch = t.order.batch; batch_marks = t.order.batch_marks; buffer = t.order.buffer; marks = t.order.marks; queue = t.order.queue };
        batch = t.batch;
        batch_marks = t.batch_marks;
        buffer = t.buffer;
        marks = t.marks;
        queue = t.queue;
        split = t.split;
        context = t.context;
        owned = t.owned;
        spare = t.spare;
        either = t.either;
        writing = (t.writing.0, reported_fits w.bytes r first second rest (w.block_writes f) over left t.writing.1, t.writing.2, t.writing.3);
      })
      sound.next
    where
      φ : Flusher C
      φ = w.core.flushers f

      φ0 : Flusher C
      φ0 = record φ { batch = Some (record batch { writing = Some r }) }

      ψ : Flusher C
      ψ = record φ { batch = Some (record batch { writing = Some (record r { left = second ∷ rest }) }) }

      is0 : w.core.flushers f ≡ record (w.core.flushers f) { batch = Some (record batch { writing = Some r }) }
      is0 = λ i. record (w.core.flushers f) { batch = (is ∙ (λ j. Some (record batch { writing = writing j }))) i }

  -- a failed flush
  pub failed : (w : World C) (f : ℕ) (batch : Batch C) (r : Writing C) → WorldInvariant rules w → (w.core.flushers f).batch ≡ Some batch → batch.writing ≡ Some r
      → WorldInvariant rules (record w {
        core = record w.core { flushers = put w.core.flushers f (record (w.core.flushers f) { own = None; context = first_position rules; batch = Some (record batch { blocks = []; continues_own_block = false; writing = None }) }); place = released (w.core.flushers f).own w.core.place };
        block_writes = put w.block_writes f Idle;
      })
  failed w f batch r sound is writing =
      flushed w f φ0 ψ Idle w.core.index w.history (released φ.own w.core.place) sound is0 (released_other w.core.place f φ.own (sound.flushers f).owned) (λ a s. tt)
      (λ h _ ok. slot_lift rules (ground_of w) (ground_of w) (put w.block_writes f Idle) (put w.block_writes f Idle) w.history h (line_of φ0) (line_of ψ) (w.core.index h) (λ a x good. good)
      (λ n _ line. each_past (λ p. p.0 ≡ h → n ≤ p.1) (map (λ p. p.1) r.records ++ records_of batch.blocks) (puts_onto φ.buffer (queue_puts φ.queue)) line) ok)
      (λ h line _ ok. ok)
      (λ t. record {
        order = record { received = t.order.received; queued = t.order.queued; batch = omega arith; batch_marks = t.order.batch_marks; buffer = t.order.buffer; marks = t.order.marks; queue = t.order.queue };
        batch = tt;
        batch_marks = t.batch_marks;
        buffer = t.buffer;
        marks = t.marks;
        queue = t.queue;
        split = tt;
        context = refl;
        owned = λ c p. absurd (let e : None ≡ Some c = p in cc);
        spare = leaves w.core.place w.filled f φ.own φ.ready t.either t.spare;
        either = λ c d p q. absurd (let e : None ≡ Some c = p in cc);
        writing = refl;
      })
      sound.next
    where
      φ : Flusher C
      φ = w.core.flushers f

      φ0 : Flusher C
      φ0 = record φ { batch = Some (record batch { writing = Some r }) }

      ψ : Flusher C
      ψ = record φ { own = None; context = first_position rules; batch = Some (record batch { blocks = []; continues_own_block = false; writing = None }) }

      is0 : w.core.flushers f ≡ record (w.core.flushers f) { batch = Some (record batch { writing = Some r }) }
      is0 = λ i. record (w.core.flushers f) { batch = (is ∙ (λ j. Some (record batch { writing = writing j }))) i }

  -- a flusher's writes spare what lies in another block than its flusher's
  pub writes_spares_far : (g : Ground) (own : Option ℕ) (r : Option (Writing C)) (pending : BlockWrites) (a : Address) → WritingOk rules g own r pending → (own ≡ Some a.block → ⊥) → WritesSpare rules a pending
  writes_spares_far g own None pending a ok far = subst (λ p. WritesSpare rules a p) (sym ok) tt
  writes_spares_far g own (Some r) Idle a ok far = tt
  writes_spares_far g own (Some r) (Issued b rs ws) a ok far = λ at. absurd (far (ok.0 ∙ ap (λ c. Some c) (sym ((ok.1).0) ∙ sym at)))
  writes_spares_far g own (Some r) (InFlight b rs v ws) a ok far = λ at. absurd (far (ok.0 ∙ ap (λ c. Some c) (sym ((ok.1).0) ∙ sym at)))

  -- the records of a block that is wholly written
  pub all_good : (w : World C) (f b : ℕ) (ps : List (ℕ × Record C)) → WorldInvariant rules w → (w.core.flushers f).own ≡ Some b
      → AllStand (w.bytes b) ps → AllOutside rules.page_up (MayWrite rules.index_size (w.filled b)) ps
      → AllBehind rules.index_size ps
      → Each (λ p. IsGood rules (ground_of w) (put w.block_writes f Idle) (p.1).hash (address_of b (w.core.filling b) p) (rules.pair_of (p.1).bytes (p.1).hash (p.1).sequence)) ps
  all_good w f b [] sound own stand outside behind = tt
  all_good w f b (p ∷ ps) sound own stand outside behind = (
    record {
      older = omega arith;
      solid = λ _. record {
        outcome = ap (λ bs. rules.pair_of bs (p.1).hash (p.1).sequence) stand.0;
        past = (let a : rules.index_size ≤ p.0 = behind.0 in let c : 4096 ≤ rules.index_size = rules.index_holds_page in omega arith);
        shut = λ o page. outside.0 o page.0 page.1;
        spared = put_one (λ q pending. WritesSpare rules (address_of b (w.core.filling b) p) pending) w.block_writes f Idle tt
            (λ q ne. writes_spares_far (ground_of w) (w.core.flushers q).own (writing_in (w.core.flushers q).batch) (w.block_writes q) (address_of b (w.core.filling b) p) (sound.flushers q).writing
            (λ e. ne (one_owner rules w sound q f b e own)));
      };
    },
    all_good w f b ps sound own stand.1 outside.1 behind.1,
  )

  -- FlushWrote after the last write of a block
  pub wrote_all : (w : World C) (f : ℕ) (batch : Batch C) (r : Writing C) (last : Write)
      → WorldInvariant rules w → (w.core.flushers f).batch ≡ Some batch → batch.writing ≡ Some r → r.left ≡ last ∷ [] → result_of (w.block_writes f) ≡ Some true
      → Each (Brings rules (ground_of w) (put w.block_writes f Idle) r.block (w.core.filling r.block) w.core.index w.history) (map (λ p. p.1) r.records)
      → WorldInvariant rules (record w {
        core = record w.core {
          flushers = put w.core.flushers f (record (w.core.flushers f) { batch = Some (record batch { writing = None }) });
          index = committed r.block (w.core.filling r.block) r.records w.core.index;
        };
        history = noted r.block (w.core.filling r.block) r.records w.core.index w.history;
        block_writes = put w.block_writes f Idle;
      })
  wrote_all w f batch r last sound is writing left over brings =
      flushed w f φ0 ψ Idle (committed r.block (w.core.filling r.block) r.records w.core.index) (noted r.block (w.core.filling r.block) r.records w.core.index w.history) w.core.place sound is0 (λ q b _ p. p) (λ a s. tt)
      (λ h _ ok. commits rules (ground_of w) (put w.block_writes f Idle) f r.block (w.core.filling r.block) r.records w.core.index w.history h 0 w.core.next (line_of ψ) routed brings good
      (subst (λ l. Ascends 0 (sequences l) w.core.next) line_is (line_ascends w.core.next φ0 t.order))
      (subst (λ l. SlotOk rules (ground_of w) (put w.block_writes f Idle) w.history h l (w.core.index h)) line_is ok))
      (λ h line ne ok. commits_other rules (ground_of w) (put w.block_writes f Idle) f r.block (w.core.filling r.block) r.records w.core.index w.history h line
      routed brings good ne ok)
      (λ t. record {
        order = record {
          received = t.order.received;
          queued = t.order.queued;
          batch = ascends_skip 0 t.order.received (map (λ p. p.1) r.records) (records_of batch.blocks) t.order.batch;
          batch_marks = t.order.batch_marks;
          buffer = t.order.buffer;
          marks = t.order.marks;
          queue = t.order.queue;
        };
        batch = each_back (RecordOk rules f) (map (λ p. p.1) r.records) (records_of batch.blocks) t.batch;
        batch_marks = t.batch_marks;
        buffer = t.buffer;
        marks = t.marks;
        queue = t.queue;
        split = t.split;
        context = t.context;
        owned = t.owned;
        spare = t.spare;
        either = t.either;
        writing = refl;
      })
      (let span : t.order.received ≤ t.order.queued = ascends_span t.order.received (sequences (puts_onto φ.buffer [])) t.order.queued t.order.buffer in
      let span2 : t.order.queued ≤ w.core.next = ascends_span t.order.queued (queue_sequences φ.queue) w.core.next t.order.queue in
      noted_below rules (ground_of w) (put w.block_writes f Idle) r.block (w.core.filling r.block) r.records w.core.index w.history 0 w.core.next brings
      (ascends_to 0 (sequences (puts_onto (map (λ p. p.1) r.records) [])) t.order.received w.core.next (omega arith) (ascends_first 0 t.order.received (map (λ p. p.1) r.records) (records_of batch.blocks) t.order.batch))
      sound.next)
    where
      φ : Flusher C
      φ = w.core.flushers f

      φ0 : Flusher C
      φ0 = record φ { batch = Some (record batch { writing = Some r }) }

      ψ : Flusher C
      ψ = record φ { batch = Some (record batch { writing = None }) }

      is0 : w.core.flushers f ≡ record (w.core.flushers f) { batch = Some (record batch { writing = Some r }) }
      is0 = λ i. record (w.core.flushers f) { batch = (is ∙ (λ j. Some (record batch { writing = writing j }))) i }

      t : FlusherInvariant rules (ground_of w) w.core.place w.core.next f (record (w.core.flushers f) { batch = Some (record batch { writing = Some r }) }) (w.block_writes f)
      t = subst (λ k. FlusherInvariant rules (ground_of w) w.core.place w.core.next f k (w.block_writes f)) is0 (sound.flushers f)

      line_is : line_of φ0 ≡ puts_onto (map (λ p. p.1) r.records) (line_of ψ)
      line_is = onto_append (map (λ p. p.1) r.records) (records_of batch.blocks) (puts_onto φ.buffer (queue_puts φ.queue))

      routed : Each (RecordOk rules f) (map (λ p. p.1) r.records)
      routed = each_front (RecordOk rules f) (map (λ p. p.1) r.records) (records_of batch.blocks) t.batch

      good : Each (λ p. IsGood rules (ground_of w) (put w.block_writes f Idle) (p.1).hash (address_of r.block (w.core.filling r.block) p) (rules.pair_of (p.1).bytes (p.1).hash (p.1).sequence)) r.records
      good = all_good w f r.block r.records sound (t.writing).0 (last_stands w.bytes r last (w.block_writes f) over left (t.writing).1) (t.writing).2 (t.writing).3
