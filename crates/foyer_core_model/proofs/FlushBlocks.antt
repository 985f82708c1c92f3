-- FlushBlock.
use Rattle.std.proofs.Common.{◌≡◌, ℕ, ◌≤◌, Bool, true, false, List, [], ◌∷◌, ◌++◌, map, Option, Some, None, refl, sym, ap, subst, ◌∙◌}
use Rattle.foyer_core_model.specs.Numbers.{put}
use Rattle.foyer_core_model.specs.Record.{Address, Outcome, Record}
use Rattle.foyer_format_layout.specs.BlockBytes.{Write, all_laid}
use Rattle.foyer_core_model.specs.Position.{Position, BlockLayout, records_in, records_of, last_end}
use Rattle.foyer_core_model.specs.State.{Writing, Batch, Flusher, BlockSet, Writes}
use Rattle.foyer_core_model.specs.Rules.{Rules, first_position}
use Rattle.foyer_format_layout.specs.Position.{MayWrite}
use Rattle.foyer_core_model.specs.Layout.{AllStand, AllOutside, AllBehind, writes_in, KeepsBlocks}
use Rattle.foyer_core_model.specs.Flush.{released, writing_of}
use Rattle.foyer_core_model.specs.Access.{BlockWrites, writes_of}
use Rattle.foyer_core_model.specs.World.{World}
use Rattle.foyer_core_model.proofs.Basics.{put_at, put_same, put_other, Ascends, put_one, put_both}
use Rattle.foyer_format_layout.specs.Each.{Each}
use Rattle.foyer_core_model.proofs.Invariant.{Ground, ground_of, IsGood, puts_onto, queue_puts, writing_in, placed_in, blocks_in, goes_on_in, line_of, SlotOk, sequences, RecordOk, WritingOk, start_of, FlusherInvariant, WorldInvariant}
use Rattle.foyer_core_model.proofs.GoodAddresses.{slot_lift, load_lift}
use Rattle.foyer_format_layout.proofs.EachLaws.{each_back}
use Rattle.foyer_core_model.proofs.CommitSteps.{ascends_skip}
use Rattle.foyer_core_model.proofs.FlushEnds.{put_self, puts_skip, released_other, flushed, leaves}

module _ {C : Type 0} (rules : Rules C) where
  -- FlushBlock

  pub start_other : (filled : ℕ → Position) (b : ℕ) (e : Position) (own : Option ℕ) (continues_own_block : Bool) → (own ≡ Some b → ⊥)
      → start_of rules (put filled b e) own continues_own_block ≡ start_of rules filled own continues_own_block
  start_other filled b e None continues_own_block far = refl
  start_other filled b e (Some c) false far = refl
  start_other filled b e (Some c) true far = put_other filled b e c (λ at. far (ap (λ k. Some k) at))

  pub split_other : (filled : ℕ → Position) (b : ℕ) (e : Position) (own : Option ℕ) (continues_own_block : Bool) (blocks : List (BlockLayout C)) → (own ≡ Some b → ⊥)
      → KeepsBlocks rules (start_of rules filled own continues_own_block) blocks → KeepsBlocks rules (start_of rules (put filled b e) own continues_own_block) blocks
  split_other filled b e own continues_own_block blocks far ok = subst (λ g. KeepsBlocks rules g blocks) (sym (start_other filled b e own continues_own_block far)) ok

  pub context_other : (filled : ℕ → Position) (b : ℕ) (e : Position) (own : Option ℕ) (blocks : List (BlockLayout C)) (context : Position) → (own ≡ Some b → ⊥)
      → context ≡ last_end (start_of rules filled own true) blocks → context ≡ last_end (start_of rules (put filled b e) own true) blocks
  context_other filled b e own blocks context far ok = ok ∙ ap (λ g. last_end g blocks) (sym (start_other filled b e own true far))

  pub writing_other : (g : Ground) (fill : ℕ → ℕ) (b : ℕ) (e : Position) (own : Option ℕ) (r : Option (Writing C)) (pending : BlockWrites) → (own ≡ Some b → ⊥)
      → WritingOk rules g own r pending
      → WritingOk rules (record { filled = put g.filled b e; filling = fill; bytes = g.bytes }) own r pending
  writing_other g fill b e own None pending far ok = ok
  writing_other g fill b e own (Some r) pending far ok = (
    ok.0,
    ok.1,
    put_one (λ q x. q ≡ r.block → AllOutside rules.page_up (MayWrite rules.index_size x) r.records) g.filled b e
        (λ at. absurd (far (ok.0 ∙ ap (λ k. Some k) (sym at))))
        (λ q _ at. subst (λ k. AllOutside rules.page_up (MayWrite rules.index_size (g.filled k)) r.records) (sym at) ok.2) r.block refl,
    ok.3,
  )

  writing_issued : (g : Ground) (fill : ℕ → ℕ) (b : ℕ) (e : Position) (ws : List Write) (ps : List (ℕ × Record C))
      → AllStand (all_laid ws (g.bytes b)) ps → AllOutside rules.page_up (MayWrite rules.index_size e) ps → AllBehind rules.index_size ps
      → WritingOk rules (record { filled = put g.filled b e; filling = fill; bytes = g.bytes }) (Some b) (writing_of b ws ps) (writes_of b ws)
  writing_issued g fill b e [] ps stand outside behind = refl
  writing_issued g fill b e (v ∷ vs) ps stand outside behind = (
    refl,
    (refl, refl, λ _. stand),
    put_one (λ q x. q ≡ b → AllOutside rules.page_up (MayWrite rules.index_size x) ps) g.filled b e (λ _. outside) (λ q ne at. absurd (ne at)) b refl,
    behind,
  )

  -- the records of a block that is issued, or of none if there is nothing to write
  pub records_issued : (P : List (Record C) → Type 0) (b : ℕ) (ws : List Write) (ps : List (ℕ × Record C)) (rest : List (Record C))
      → ((x y : List (Record C)) → P (x ++ y) → P y)
      → P (map (λ p. p.1) ps ++ rest) → P (map (λ p. p.1) (placed_in (writing_of b ws ps)) ++ rest)
  records_issued P b [] ps rest skip ok = skip (map (λ p. p.1) ps) rest ok
  records_issued P b (v ∷ vs) ps rest skip ok = ok

  -- A flusher is issued a block, its own or a clean one: what the two have in common.
  pub issued : (w : World C) (f b : ℕ) (batch : Batch C) (s : BlockLayout C) (rest : List (BlockLayout C)) (own : Option ℕ) (fill : ℕ → ℕ) (place : ℕ → BlockSet) → WorldInvariant rules w
      → w.core.flushers f ≡ record (w.core.flushers f) { own = own; batch = Some (record batch { blocks = s ∷ rest; writing = None }) }
      → AllStand (all_laid (writes_in rules s.parts) (w.bytes b)) (records_in s.parts)
      → AllOutside rules.page_up (MayWrite rules.index_size s.end) (records_in s.parts)
      → AllBehind rules.index_size (records_in s.parts)
      → KeepsBlocks rules (first_position rules) rest
      → ((q : ℕ) → (q ≡ f → ⊥) → (w.core.flushers q).own ≡ Some b → ⊥)
      → ((q : ℕ) → (q ≡ f → ⊥) → (c : ℕ) → (w.core.flushers q).ready ≡ Some c → c ≡ b → ⊥)
      → (place b ≡ Writes f) → ((q c : ℕ) → (q ≡ f → ⊥) → w.core.place c ≡ Writes q → place c ≡ Writes q)
      → ((h : ℕ) (a : Address) (x : Outcome C) → IsGood rules (ground_of w) w.block_writes h a x
      → IsGood rules (record { filled = put w.filled b s.end; filling = fill; bytes = w.bytes }) (put w.block_writes f (writes_of b (writes_in rules s.parts))) h a x)
      → ((a : Address) → a.filling ≤ w.core.filling a.block → a.filling ≡ fill a.block → a.filling ≡ w.core.filling a.block)
      → WorldInvariant rules (record w {
        core = record w.core {
          filling = fill;
          place = place;
          flushers = put w.core.flushers f (record (w.core.flushers f) { own = Some b; ready = None; batch = Some (record batch { blocks = rest; continues_own_block = false; writing = writing_of b (writes_in rules s.parts) (records_in s.parts) }) });
        };
        filled = put w.filled b s.end;
        block_writes = put w.block_writes f (writes_of b (writes_in rules s.parts));
      })
  issued w f b batch s rest own fill place sound is stand outside behind fresh alone vacant taken cleaner good older =
      record {
        slots = λ h e routed. put_at (λ k. SlotOk rules g' block_writes' w.history h (line_of k) (w.core.index h)) w.core.flushers f ψ e
            (λ at. slot_lift rules (ground_of w) g' w.block_writes block_writes' w.history h (line_of φ0) (line_of ψ) (w.core.index h) (λ a x. good h a x)
            (λ n _ line. let P : ℕ × ℕ → Type 0 = λ p. p.0 ≡ h → n ≤ p.1 in
            records_issued (λ rs. Each P (puts_onto rs rear)) b (writes_in rules s.parts) (records_in s.parts) (records_of rest) (λ x y. puts_skip rules P x y rear) line)
            (subst (λ k. SlotOk rules (ground_of w) w.block_writes w.history h (line_of k) (w.core.index h)) is (sound.slots h f (routed ∙ at))))
            (λ _. slot_lift rules (ground_of w) g' w.block_writes block_writes' w.history h (line_of (w.core.flushers e)) (line_of (w.core.flushers e)) (w.core.index h) (λ a x. good h a x) (λ n _ line. line) (sound.slots h e routed));
        loads = λ n. load_lift rules (ground_of w) g' w.block_writes block_writes' (w.loads n) good (λ l ok e. ok.read_state (older l.ticket.address ok.good.older e)) (sound.loads n);
        flushers = put_both (λ q k p. FlusherInvariant rules g' place w.core.next q k p) w.core.flushers w.block_writes f ψ (writes_of b (writes_in rules s.parts))
            (record {
              order = record {
                received = t.order.received;
                queued = t.order.queued;
                batch = records_issued (λ rs. Ascends 0 (sequences (puts_onto rs [])) t.order.received) b (writes_in rules s.parts) (records_in s.parts) (records_of rest) (ascends_skip 0 t.order.received) t.order.batch;
                batch_marks = t.order.batch_marks;
                buffer = t.order.buffer;
                marks = t.order.marks;
                queue = t.order.queue;
              };
              batch = records_issued (Each (RecordOk rules f)) b (writes_in rules s.parts) (records_in s.parts) (records_of rest) (each_back (RecordOk rules f)) t.batch;
              batch_marks = t.batch_marks;
              buffer = t.buffer;
              marks = t.marks;
              queue = t.queue;
              split = fresh;
              context = t.context ∙ ap (λ g. last_end g rest) (sym (put_same w.filled b s.end));
              owned = λ c p. subst (λ k. place k ≡ Writes f) (let e : Some b ≡ Some c = p in cc) taken;
              spare = λ c p. absurd (let e : None ≡ Some c = p in cc);
              either = λ c d p q. absurd (let e : None ≡ Some d = q in cc);
              writing = writing_issued (ground_of w) fill b s.end (writes_in rules s.parts) (records_in s.parts) stand outside behind;
            })
            (λ q ne. let u : FlusherInvariant rules (ground_of w) w.core.place w.core.next q (w.core.flushers q) (w.block_writes q) = sound.flushers q in
            record {
              order = u.order;
              batch = u.batch;
              batch_marks = u.batch_marks;
              buffer = u.buffer;
              marks = u.marks;
              queue = u.queue;
              split = split_other w.filled b s.end (w.core.flushers q).own (goes_on_in (w.core.flushers q).batch) (blocks_in (w.core.flushers q).batch) (alone q ne) u.split;
              context = context_other w.filled b s.end (w.core.flushers q).own (blocks_in (w.core.flushers q).batch) (w.core.flushers q).context (alone q ne) u.context;
              owned = λ c p. cleaner q c ne (u.owned c p);
              spare = λ c p. (cleaner q c ne (u.spare c p).0, put_other w.filled b s.end c (vacant q ne c p) ∙ (u.spare c p).1);
              either = u.either;
              writing = writing_other (ground_of w) fill b s.end (w.core.flushers q).own (writing_in (w.core.flushers q).batch) (w.block_writes q) (alone q ne) u.writing;
            });
        next = sound.next;
      }
    where
      φ0 : Flusher C
      φ0 = record (w.core.flushers f) { own = own; batch = Some (record batch { blocks = s ∷ rest; writing = None }) }

      ψ : Flusher C
      ψ = record (w.core.flushers f) { own = Some b; ready = None; batch = Some (record batch { blocks = rest; continues_own_block = false; writing = writing_of b (writes_in rules s.parts) (records_in s.parts) }) }

      g' : Ground
      g' = record { filled = put w.filled b s.end; filling = fill; bytes = w.bytes }

      block_writes' : ℕ → BlockWrites
      block_writes' = put w.block_writes f (writes_of b (writes_in rules s.parts))

      rear : List (ℕ × ℕ)
      rear = puts_onto (w.core.flushers f).buffer (queue_puts (w.core.flushers f).queue)

      t : FlusherInvariant rules (ground_of w) w.core.place w.core.next f (record (w.core.flushers f) { own = own; batch = Some (record batch { blocks = s ∷ rest; writing = None }) }) (w.block_writes f)
      t = subst (λ k. FlusherInvariant rules (ground_of w) w.core.place w.core.next f k (w.block_writes f)) is (sound.flushers f)

  -- FlushBlock without a block: the flusher leaves rules its own and waits
  pub waited : (w : World C) (f : ℕ) (batch : Batch C) (s : BlockLayout C) (rest : List (BlockLayout C)) → WorldInvariant rules w → (w.core.flushers f).batch ≡ Some batch
      → batch.writing ≡ None → batch.blocks ≡ s ∷ rest → batch.continues_own_block ≡ false
      → WorldInvariant rules (record w { core = record w.core { flushers = put w.core.flushers f (record (w.core.flushers f) { own = None }); place = released (w.core.flushers f).own w.core.place } })
  waited w f batch s rest sound is writing blocks fresh =
      subst (λ block_writes. WorldInvariant rules (record w { core = record w.core { flushers = put w.core.flushers f (record (w.core.flushers f) { own = None }); place = released (w.core.flushers f).own w.core.place }; block_writes = block_writes }))
      (put_self w.block_writes f)
      (flushed rules w f φ (record φ { own = None }) (w.block_writes f) w.core.index w.history (released φ.own w.core.place) sound refl (released_other rules w.core.place f φ.own (sound.flushers f).owned) (λ a p. p)
      (λ h _ ok. ok) (λ h line _ ok. ok)
      (λ t. record {
        order = record { received = t.order.received; queued = t.order.queued; batch = t.order.batch; batch_marks = t.order.batch_marks; buffer = t.order.buffer; marks = t.order.marks; queue = t.order.queue };
        batch = t.batch;
        batch_marks = t.batch_marks;
        buffer = t.buffer;
        marks = t.marks;
        queue = t.queue;
        split = begun φ.own (subst (λ g. KeepsBlocks rules (start_of rules w.filled φ.own g) (blocks_in φ.batch)) goes_on_is t.split);
        context = t.context ∙ ap (λ bs. last_end (start_of rules w.filled φ.own true) bs) blocks_are ∙ ap (λ bs. last_end (start_of rules w.filled None true) bs) (sym blocks_are);
        owned = λ c p. absurd (let e : None ≡ Some c = p in cc);
        spare = leaves rules w.core.place w.filled f φ.own φ.ready t.either t.spare;
        either = λ c d p q. absurd (let e : None ≡ Some c = p in cc);
        writing = subst (λ r. WritingOk rules (ground_of w) None r (w.block_writes f)) (sym writing_is) (subst (λ r. WritingOk rules (ground_of w) φ.own r (w.block_writes f)) writing_is t.writing);
      })
      sound.next)
    where
      φ : Flusher C
      φ = w.core.flushers f

      blocks_are : blocks_in (w.core.flushers f).batch ≡ s ∷ rest
      blocks_are = ap blocks_in is ∙ blocks

      writing_is : writing_in (w.core.flushers f).batch ≡ None
      writing_is = ap writing_in is ∙ writing

      goes_on_is : goes_on_in (w.core.flushers f).batch ≡ false
      goes_on_is = ap goes_on_in is ∙ fresh

      begun : (own : Option ℕ) → KeepsBlocks rules (start_of rules w.filled own false) (blocks_in φ.batch) → KeepsBlocks rules (first_position rules) (blocks_in φ.batch)
      begun None ok = ok
      begun (Some c) ok = ok
