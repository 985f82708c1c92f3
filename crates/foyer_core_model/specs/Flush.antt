-- Flushes.
use Rattle.std.specs.Prelude.{◌≡◌, ℕ, ◌+◌, ◌==◌, ◌&&◌, nat_lt, Bool, true, false, if◌then◌else◌, List, [], ◌∷◌, length, Option, Some, None, ◌⊎◌}
use Rattle.foyer_core_model.specs.Numbers.{put, last_number, plus}
use Rattle.foyer_core_model.specs.Ids.{without_id, with_id}
use Rattle.foyer_core_model.specs.Record.{Record}
use Rattle.foyer_format_layout.specs.BlockBytes.{Write}
use Rattle.foyer_core_model.specs.Position.{BlockLayout, records_in, last_end}
use Rattle.foyer_core_model.specs.Index.{unmarked}
use Rattle.foyer_core_model.specs.State.{Invalidated, Writing, Batch, BlockSet, Clean, Writes, Evictable, Reclaims, Stats, Destroy, NoDestroy, Begun, Cleaning, State}
use Rattle.foyer_core_model.specs.Rules.{Rules, first_position, Splitting}
use Rattle.foyer_core_model.specs.Layout.{writes_in}
use Rattle.foyer_core_model.specs.Commit.{Commit, commit_of}
use Rattle.foyer_core_model.specs.Reply.{Reply, Began, Written, NoBlock, Next, Committed, Failed, Ended, Done}
use Rattle.foyer_core_model.specs.Receive.{pieces_of, turned}

-- whether there is one
abbrev pub is_some : {A : Type 0} → Option A → Bool
is_some None = false
is_some (Some x) = true

-- whether a block of this set may hold records
abbrev pub may_hold : BlockSet → Bool
may_hold Clean = false
may_hold (Writes f) = true
may_hold Evictable = true
may_hold Reclaims = true

module _ (place : ℕ → BlockSet) (filling : ℕ → ℕ) where
  -- whether the block still has the filling of which these bytes are: one that was cleaned hasn't
  abbrev pub still_has : Invalidated → Bool
  still_has i = (filling i.block == i.filling) && may_hold (place i.block)

  -- the bytes become invalid, if the block still has their filling
  abbrev pub one_invalidated : Invalidated → (ℕ → Stats) → ℕ → Stats
  one_invalidated i stats =
      if still_has i then put stats i.block (record (stats i.block) { invalid = plus (stats i.block).invalid i.bytes }) else stats

  -- so do these
  abbrev pub all_invalidated : List Invalidated → (ℕ → Stats) → ℕ → Stats
  all_invalidated [] stats = stats
  all_invalidated (i ∷ is) stats = all_invalidated is (one_invalidated i stats)

  -- unless the log failed
  abbrev pub invalidated_unless : Option Bool → List Invalidated → (ℕ → Stats) → ℕ → Stats
  invalidated_unless None invalidated stats = all_invalidated invalidated stats
  invalidated_unless (Some true) invalidated stats = all_invalidated invalidated stats
  invalidated_unless (Some false) invalidated stats = stats

-- a block that its flusher leaves may be reclaimed
abbrev pub released : Option ℕ → (ℕ → BlockSet) → ℕ → BlockSet
released None places = places
released (Some b) places = put places b Evictable

-- of these clean blocks the first that may still be handed out
abbrev pub first_usable : (ℕ → ℕ) → List ℕ → Option ℕ
first_usable filling [] = None
first_usable filling (b ∷ bs) = if nat_lt (filling b) last_number then Some b else first_usable filling bs

-- and how many may
abbrev pub usable_count : (ℕ → ℕ) → List ℕ → ℕ
usable_count filling [] = 0
usable_count filling (b ∷ bs) = (if nat_lt (filling b) last_number then 1 else 0) + usable_count filling bs

-- whether a destroy cleans
abbrev pub is_cleaning : Destroy → Bool
is_cleaning NoDestroy = false
is_cleaning Begun = false
is_cleaning (Cleaning left failed) = true

-- a block without writes has nothing to wait for
abbrev pub writing_of : {C : Type 0} → ℕ → List Write → List (ℕ × Record C) → Option (Writing C)
writing_of b [] records = None
writing_of b (w ∷ ws) records = Some (record { block = b; left = w ∷ ws; records = records })

-- what is committed when the block that is written is done
abbrev pub commit_in : {C : Type 0} → State C → Writing C → Commit C
commit_in old w = commit_of w.block (old.filling w.block) w.records old.index

module _ {C : Type 0} (rules : Rules C) (Splits : Splitting C) (old : State C) where
  -- the buffer is placed from where the splitter continues; the first block is the flusher's own, if it has one
  abbrev pub Begins : ℕ → Reply C → State C → Type 0
  Begins f (Began blocks marks) new =
      (marks ≡ (old.flushers f).marks) × Splits (old.flushers f).context (old.flushers f).buffer blocks
      × (new ≡ turned rules old f (record (old.flushers f) {
        buffer = [];
        marks = [];
        invalidated = [];
        waits = [];
        context = last_end (old.flushers f).context blocks;
        batch = Some (record {
          blocks = blocks;
          continues_own_block = is_some (old.flushers f).own;
          writing = None;
          marks = (old.flushers f).marks;
          invalidated = (old.flushers f).invalidated;
          pieces = pieces_of (old.flushers f).buffer;
          waits = (old.flushers f).waits;
          logged = None;
        });
      }))
  Begins f reply new = ⊥

module _ {C : Type 0} (rules : Rules C) (old : State C) where
  -- a block and its writes are issued, and f waits no more
  abbrev pub block_issued : ℕ → ℕ → Batch C → BlockLayout C → List (BlockLayout C) → State C
  block_issued f b batch s rest =
      record old {
        waiting = without_id f old.waiting;
        flushers = put old.flushers f (record (old.flushers f) {
          own = Some b;
          ready = None;
          batch = Some (record batch { blocks = rest; continues_own_block = false; writing = writing_of b (writes_in rules s.parts) (records_in s.parts) });
        });
      }

  -- f leaves its block and waits for another
  abbrev pub waits_for_block : ℕ → State C
  waits_for_block f =
      record (turned rules old f (record (old.flushers f) { own = None })) { place = released (old.flushers f).own old.place; waiting = with_id f old.waiting }

  -- the block that may be handed out
  abbrev pub clean_block : Option ℕ
  clean_block = if is_cleaning old.destroy then None else first_usable old.filling old.clean

  -- the next block of a batch: the flusher's own, the one that it got while it waited, or the one that has been clean longest
  abbrev pub Describes : ℕ → Option (Batch C) → Reply C → State C → Type 0
  Describes f (Some batch) NoBlock new =
      (batch.continues_own_block ≡ false) × ((old.flushers f).ready ≡ None) × (clean_block ≡ None) × (new ≡ waits_for_block f)
  Describes f (Some batch) (Written b writes) new =
      (s : BlockLayout C) × (rest : List (BlockLayout C)) × (batch.blocks ≡ s ∷ rest) × (writes ≡ writes_in rules s.parts)
      × (((batch.continues_own_block ≡ true) × ((old.flushers f).own ≡ Some b) × (new ≡ block_issued f b batch s rest))
      ⊎ ((batch.continues_own_block ≡ false) × ((old.flushers f).ready ≡ Some b) × (new ≡ block_issued f b batch s rest))
      ⊎ ((batch.continues_own_block ≡ false) × ((old.flushers f).ready ≡ None) × (clean_block ≡ Some b)
      × (new ≡ record (block_issued f b batch s rest) {
        filling = put old.filling b (old.filling b + 1);
        clean = without_id b old.clean;
        place = put (released (old.flushers f).own old.place) b (Writes f);
      })))
  Describes f batch reply new = ⊥

  -- one more write is reported
  abbrev pub write_done : ℕ → Batch C → Writing C → List Write → State C
  write_done f batch w rest =
      turned rules old f (record (old.flushers f) { batch = Some (record batch { writing = Some (record w { left = rest }) }) })

  -- all records of a block are committed
  abbrev pub block_done : ℕ → Batch C → Writing C → State C
  block_done f batch w =
      record (turned rules old f (record (old.flushers f) { batch = Some (record batch { writing = None }) })) { index = (commit_in old w).index }

  -- the rest of the batch is dropped, the block isn't written again, and the splitter is fresh
  abbrev pub batch_failed : ℕ → Batch C → State C
  batch_failed f batch =
      record (turned rules old f (record (old.flushers f) { own = None; context = first_position rules; batch = Some (record batch { blocks = []; continues_own_block = false; writing = None }) })) {
        place = released (old.flushers f).own old.place;
      }

  -- A write that went well may still fail by a refused allocation of the index, at the end of its block.
  abbrev pub Wrote : ℕ → Bool → Option (Batch C) → Reply C → State C → Type 0
  Wrote f true (Some batch) Next new =
      (w : Writing C) × (first second : Write) × (rest : List Write) × (batch.writing ≡ Some w) × (w.left ≡ first ∷ second ∷ rest)
      × (new ≡ write_done f batch w (second ∷ rest))
  Wrote f true (Some batch) (Committed n) new =
      (w : Writing C) × (last : Write) × (batch.writing ≡ Some w) × (w.left ≡ last ∷ []) × (n ≡ length (commit_in old w).puts)
      × (new ≡ block_done f batch w)
  Wrote f ok (Some batch) Failed new =
      (w : Writing C) × (first : Write) × (rest : List Write) × (batch.writing ≡ Some w) × (w.left ≡ first ∷ rest)
      × ((ok ≡ true) → rest ≡ []) × (new ≡ batch_failed f batch)
  Wrote f ok batch reply new = ⊥

  -- the outcome of the log is noted
  abbrev pub Logs : ℕ → Bool → Option (Batch C) → Reply C → State C → Type 0
  Logs f ok (Some batch) Done new = new ≡ turned rules old f (record (old.flushers f) { batch = Some (record batch { logged = Some ok }) })
  Logs f ok batch reply new = ⊥

  -- the batch's marks leave the index, and its pieces and waits are given back
  abbrev pub Finishes : ℕ → Option (Batch C) → Reply C → State C → Type 0
  Finishes f (Some batch) (Ended pieces waits) new =
      (pieces ≡ batch.pieces) × (waits ≡ batch.waits)
      × (new ≡ record (turned rules old f (record (old.flushers f) { batch = None })) {
        index = unmarked batch.marks old.index;
        stats = invalidated_unless old.place old.filling batch.logged batch.invalidated old.stats;
      })
  Finishes f batch reply new = ⊥
