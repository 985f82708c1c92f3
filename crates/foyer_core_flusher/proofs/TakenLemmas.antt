-- What the front of a queue becomes.
use Rattle.std.proofs.Common.{◌≡◌, ℕ, ◌+◌, ◌-◌, ◌*◌, ◌/◌, ◌%◌, ◌^◌, ◌<◌, ◌≤◌, ◌==◌, inl, inr, option_and_then, Bool, true, false, ◌&&◌, nat_lt, if◌then◌else◌, List, [], ◌∷◌, ◌++◌, map, length, Option, Some, None, option_to_list, refl, sym, ap, subst, ◌∙◌, arith}
use Rattle.std.specs.Prelude.{◌↔◌}
use Rattle.std.proofs.lemmas.Bool.{lt-ltb}
use Rattle.std.specs.Cmp.Derive.{both_true}
use Rattle.foyer_format_buffer.specs.Entries.{Entries, FitsBuffer, left_of, size_of, with_entry}
use Rattle.foyer_format_layout.specs.Page.{page_up}
use Rattle.foyer_format_record.specs.Record.{record_bytes}
use Rattle.foyer_format_record.specs.declared.compress.Compression.TheVariants as compression
use Rattle.foyer_format_layout.proofs.PageLaws.{page_up-holds}
use Rattle.foyer_format_record.proofs.RecordBytes.{length-record_bytes}
use Rattle.foyer_policy_piece.specs.Referred.{Referred}
use Rattle.foyer_core_model.specs.Receive.{Fits, TakesFront as TakesOne, bytes_taken, turned}
use Rattle.foyer_core_model.specs.Numbers.{put}
use Rattle.foyer_core_model.specs.Queue.{invalidated_by}
use Rattle.foyer_core_model.specs.Record as model_record
use Rattle.foyer_core_model.specs.Refusal.{TakesMemory}
use Rattle.foyer_core_model.specs.Reply as model_reply
use Rattle.foyer_core_model.specs.State as model_state
use Rattle.foyer_core_layout.specs.Bridge.{kept_of}
use Rattle.foyer_core_layout.proofs.RoomLemmas.{fits_agree}
use Rattle.foyer_core_blocks.specs.Content.{Content, Meaning, content_of}
use Rattle.foyer_core_blocks.specs.CoreRules.{machine, encoded, has_record}
use Rattle.foyer_core_blocks.specs.Sizes.{AreValid, buffer_room}
use Rattle.foyer_core_blocks.specs.Settings.{Settings}
use Rattle.foyer_core_blocks.proofs.LawLemmas.{are_rules}
use Rattle.foyer_core_blocks.proofs.TripLemmas.{left, right, some_is}
use Rattle.foyer_core_blocks.specs.Addresses.{address_of, mark_of, invalid_of}
use Rattle.foyer_core_blocks.specs.declared.manager.Invalidated.{Invalidated}
use Rattle.foyer_core_flusher.specs.Filled.{HasRoomFor}
use Rattle.foyer_core_flusher.specs.Flushing.{AreReceived, IsFlusherAs, submission_of, invalid_of_all}
use Rattle.foyer_core_flusher.specs.Marking.{bytes_of}
use Rattle.foyer_core_flusher.specs.Seen.{Seen, seen}
use Rattle.foyer_core_flusher.specs.Taking.{size_in, IsPutAgain, PutsAgain, IsReceivedAs}
use Rattle.foyer_core_flusher.specs.declared.submission.Reinsertion.{Reinsertion}
use Rattle.foyer_block_index.specs.Index.{IndexMap, address_of as indexed_at}
use Rattle.foyer_block_index.specs.Insertion.{displaced, inserted}
use Rattle.foyer_block_index.specs.declared.tombstone.Tombstone.{Tombstone}
use Rattle.foyer_block_index.specs.declared.indexer.EntryAddress.{EntryAddress}
use Rattle.foyer_block_index.specs.declared.indexer.Index.{Index}
use Rattle.foyer_block_index.specs.declared.indexer.Index.TheVariants.{Address, Tombstone as Mark}
use Rattle.foyer_format_buffer.proofs.EntriesLemmas.{size_none, size_cons}
use Rattle.foyer_core_model.proofs.CommitSteps.{same_address}
use Rattle.foyer_core_model.specs.Index as model_index
use Rattle.foyer_core_blocks.proofs.SlotLemmas.{index_inserted, same_itself}
use Rattle.foyer_core_blocks.specs.Standing.{IsIndexedAs, slot_of}
use Rattle.std.specs.FinMap as finite
use Rattle.foyer_core_flusher.specs.declared.flusher.Flusher.{Flusher}
use Rattle.foyer_core_flusher.specs.declared.submission.Submission.{Submission}
use Rattle.foyer_core_flusher.specs.declared.submission.Submission.TheVariants as submission
use Rattle.foyer_core_flusher.specs.declared.submission.TombstoneInfo.{TombstoneInfo}
use Rattle.foyer_core_flusher.proofs.MarkLemmas.{pushed_out}

map_end : {X Y : Type 0} (f : X → Y) (xs : List X) (x : X) → map f (xs ++ x ∷ []) ≡ map f xs ++ f x ∷ []
map_end f [] x = refl
map_end f (y ∷ ys) x = ap (λ zs. f y ∷ zs) (map_end f ys x)

map_both : {X Y : Type 0} (f : X → Y) (xs ys : List X) → map f (xs ++ ys) ≡ map f xs ++ map f ys
map_both f [] ys = refl
map_both f (x ∷ xs) ys = ap (λ zs. f x ∷ zs) (map_both f xs ys)

-- what a mark made invalid, as a list
pub invalidated_listed : (stats : Option Invalidated) → map invalid_of (option_to_list stats) ≡ invalid_of_all stats
invalidated_listed None = refl
invalidated_listed (Some x) = refl

-- the room of a buffer is whole pages
pub whole_room : (s : Settings) → buffer_room s % 4096 ≡ 0
whole_room s = go (s.flushers == 0)
  where
    go : (t : Bool) → (if t then 0 else s.buffer_pool_size / s.flushers / 4096 * 4096) % 4096 ≡ 0
    go true = refl
    go false = omega arith

module _ {K V P : Type 0} (m : Meaning K V P) where
  given_end : (os : List (Option EntryAddress)) (rs : List (model_record.Record Content)) (ps : List (Referred K V P)) (p : Referred K V P) (r : model_record.Record Content)
      → AreReceived m os rs ps → r.source ≡ model_record.Given (content_of m p) → AreReceived m (os ++ None ∷ []) (rs ++ r ∷ []) (ps ++ p ∷ [])
  given_end [] [] ps p r are is = subst (λ qs. AreReceived m (None ∷ []) (r ∷ []) (qs ++ p ∷ [])) (sym are) (is, refl)
  given_end [] (t ∷ rs) ps p r are is = absurd are
  given_end (None ∷ os) [] ps p r are is = absurd are
  given_end (Some a ∷ os) [] ps p r are is = absurd are
  given_end (None ∷ os) (t ∷ rs) [] p r are is = absurd are
  given_end (None ∷ os) (t ∷ rs) (q ∷ ps) p r are is = (are.0, given_end os rs ps p r are.1 is)
  given_end (Some a ∷ os) (t ∷ rs) ps p r are is = (are.0, given_end os rs ps p r are.1 is)

  reread_end : (os : List (Option EntryAddress)) (rs : List (model_record.Record Content)) (ps : List (Referred K V P)) (a : EntryAddress) (r : model_record.Record Content)
      → AreReceived m os rs ps → r.source ≡ model_record.Reread (address_of a) → AreReceived m (os ++ Some a ∷ []) (rs ++ r ∷ []) ps
  reread_end [] [] ps a r are is = (is, are)
  reread_end [] (t ∷ rs) ps a r are is = absurd are
  reread_end (None ∷ os) [] ps a r are is = absurd are
  reread_end (Some b ∷ os) [] ps a r are is = absurd are
  reread_end (None ∷ os) (t ∷ rs) [] a r are is = absurd are
  reread_end (None ∷ os) (t ∷ rs) (q ∷ ps) a r are is = (are.0, reread_end os rs ps a r are.1 is)
  reread_end (Some b ∷ os) (t ∷ rs) ps a r are is = (are.0, reread_end os rs ps a r are.1 is)

-- the bytes that records take
size_of_records : (rs : List (model_record.Record Content)) → size_of (map kept_of rs) ≡ bytes_taken page_up rs
size_of_records [] = size_none
size_of_records (r ∷ rs) = omega (arith, size_cons (kept_of r) (map kept_of rs), size_of_records rs)

-- the index has this very address exactly if the model's index has it
very : (held : Option Index) (a : EntryAddress) → option_and_then indexed_at held ≡ Some a → model_index.holds (address_of a) (slot_of held) ≡ true
very None a is = absurd (cc)
very (Some (Address b)) a is = let same : b ≡ a = cc in ap (λ x. model_index.is_same (address_of a) (address_of x)) same ∙ same_itself (address_of a)
very (Some (Mark n)) a is = absurd (cc)

very_back : (held : Option Index) (a : EntryAddress) → model_index.holds (address_of a) (slot_of held) ≡ true → option_and_then indexed_at held ≡ Some a
very_back None a is = absurd (cc)
very_back (Some (Address b)) a is =
    let same : address_of a ≡ address_of b = same_address (address_of a) (address_of b) is in
    (λ i. Some (record { block = (sym same i).block; offset = (sym same i).offset; len = (sym same i).len; sequence = (sym same i).sequence; filling = (sym same i).filling }))
very_back (Some (Mark n)) a is = absurd (cc)

module _ {K V P A : Type 0} (m : Meaning K V P) (s : Settings) (sound : AreValid s) (st : model_state.State Content) (f : ℕ)
    (φ : Seen K V P A) (stands : IsFlusherAs m s φ (st.flushers f)) (index : IndexMap) (indexed : IsIndexedAs s index st.index) where
  at_queue : (reply : model_reply.Reply Content) (after : model_state.State Content) (q : List (model_state.Submission Content)) → (st.flushers f).queue ≡ q
      → TakesOne (machine m s sound) st f q reply after → TakesOne (machine m s sound) st f (st.flushers f).queue reply after
  at_queue reply after q is takes = subst (λ x. TakesOne (machine m s sound) st f x reply after) (sym is) takes

  size_front : (x : Submission K V P A) (rest : List (Submission K V P A)) → φ.queue ≡ x ∷ rest
      → size_in (st.flushers f).queue ≡ size_in (submission_of m x ∷ map (submission_of m) rest)
  size_front x rest is = ap size_in (stands.queue ∙ ap (map (submission_of m)) is)

  -- nothing is queued
  pub none_queued : φ.queue ≡ [] → (st.flushers f).queue ≡ []
  none_queued none = stands.queue ∙ ap (map (submission_of m)) none

  -- a wait is kept
  pub wait_kept : (id : ℕ) (rest : List (Submission K V P A)) (new : Flusher K V P A) → φ.queue ≡ submission.Wait id ∷ rest
      → seen new ≡ record φ { queue = rest; waits = φ.waits ++ id ∷ [] } → IsReceivedAs m s sound st f 0 None new index
  wait_kept id rest new is now = record {
    after = after;
    index = st.index;
    indexed = indexed;
    stands = subst (λ x. IsFlusherAs m s x after) (sym now) (record {
      queue = refl;
      buffer = stands.buffer;
      room = stands.room;
      greatest = stands.greatest;
      given = stands.given;
      marks = stands.marks;
      invalidated = stands.invalidated;
      waits = ap (λ xs. xs ++ id ∷ []) stands.waits;
      own = stands.own;
      there = stands.there;
      sizes = stands.sizes;
      context = stands.context;
      goes_on = stands.goes_on;
      batch = stands.batch;
    });
    receives = at_queue (model_reply.Received None) (turned (machine m s sound) st f after) (model_state.Await id ∷ map (submission_of m) rest)
        (stands.queue ∙ ap (map (submission_of m)) is) refl;
    keeps = record { own = refl; ready = refl };
    size_is = let e : size_in (st.flushers f).queue ≡ size_in (map (submission_of m) rest) = size_front (submission.Wait id) rest is in omega arith;
  }
    where
      after : model_state.Flusher Content
      after = record (st.flushers f) { queue = map (submission_of m) rest; waits = (st.flushers f).waits ++ id ∷ [] }

  -- a mark is kept, with what it made invalid
  pub mark_kept : (info : TombstoneInfo) (invalidated : List Invalidated) (rest : List (Submission K V P A)) (new : Flusher K V P A) → φ.queue ≡ submission.Tombstone info.tombstone info.stats ∷ rest
      → map invalid_of invalidated ≡ invalid_of_all info.stats
      → seen new ≡ record φ { queue = rest; marks = φ.marks ++ info.tombstone ∷ []; invalid = φ.invalid ++ invalidated } → IsReceivedAs m s sound st f 0 None new index
  mark_kept info invalidated rest new is issued now = record {
    after = after;
    index = st.index;
    indexed = indexed;
    stands = subst (λ x. IsFlusherAs m s x after) (sym now) (record {
      queue = refl;
      buffer = stands.buffer;
      room = stands.room;
      greatest = stands.greatest;
      given = stands.given;
      marks = ap (λ xs. xs ++ mark_of info.tombstone ∷ []) stands.marks ∙ sym (map_end mark_of φ.marks info.tombstone);
      invalidated = ap (λ xs. xs ++ invalid_of_all info.stats) stands.invalidated ∙ ap (λ xs. map invalid_of φ.invalid ++ xs) (sym issued) ∙ sym (map_both invalid_of φ.invalid invalidated);
      waits = stands.waits;
      own = stands.own;
      there = stands.there;
      sizes = stands.sizes;
      context = stands.context;
      goes_on = stands.goes_on;
      batch = stands.batch;
    });
    receives = at_queue (model_reply.Received None) (turned (machine m s sound) st f after) (model_state.Remove info.tombstone.hash info.tombstone.sequence (invalid_of_all info.stats) ∷ map (submission_of m) rest)
        (stands.queue ∙ ap (map (submission_of m)) is) refl;
    keeps = record { own = refl; ready = refl };
    size_is = let e : size_in (st.flushers f).queue ≡ size_in (map (submission_of m) rest) = size_front (submission.Tombstone info.tombstone info.stats) rest is in omega arith;
  }
    where
      after : model_state.Flusher Content
      after = record (st.flushers f) { queue = map (submission_of m) rest; marks = (st.flushers f).marks ++ (info.tombstone.hash, info.tombstone.sequence) ∷ []; invalidated = (st.flushers f).invalidated ++ invalid_of_all info.stats }

  -- a mark and a wait take memory
  pub mark_takes : (info : TombstoneInfo) (rest : List (Submission K V P A)) → φ.queue ≡ submission.Tombstone info.tombstone info.stats ∷ rest
      → TakesMemory (machine m s sound) st (st.flushers f) (st.flushers f).queue
  mark_takes info rest is = subst (TakesMemory (machine m s sound) st (st.flushers f)) (sym (stands.queue ∙ ap (map (submission_of m)) is)) tt

  pub wait_takes : (id : ℕ) (rest : List (Submission K V P A)) → φ.queue ≡ submission.Wait id ∷ rest
      → TakesMemory (machine m s sound) st (st.flushers f) (st.flushers f).queue
  wait_takes id rest is = subst (TakesMemory (machine m s sound) st (st.flushers f)) (sym (stands.queue ∙ ap (map (submission_of m)) is)) tt

  -- bytes have room exactly if the model says that they fit
  bytes_agree : (bytes : List ℕ) → HasRoomFor φ.filled (length bytes) ↔ Fits (machine m s sound) st (st.flushers f) bytes
  bytes_agree bytes =
      let room : φ.filled.room ≡ buffer_room s = stands.room in
      let greatest : s.blob_index_size + φ.filled.greatest ≡ s.block_size = stands.greatest in
      let size : size_of φ.filled.entries ≡ bytes_taken page_up (st.flushers f).buffer = ap size_of (sym stands.buffer) ∙ size_of_records (st.flushers f).buffer in
      let above : length bytes ≤ page_up (length bytes) = page_up-holds (length bytes) in (
        (λ has.
            let some : 0 < length bytes = has.some in
            let left : page_up (length bytes) ≤ φ.filled.room - size_of φ.filled.entries = has.room in
            let less : page_up (length bytes) ≤ φ.filled.greatest = has.greatest in
            (omega arith, (some, omega arith))),
        (λ fits.
            let some : 0 < length bytes = (fits.1).0 in
            let all : bytes_taken page_up (st.flushers f).buffer + page_up (length bytes) ≤ buffer_room s = fits.0 in
            let less : s.blob_index_size + page_up (length bytes) ≤ s.block_size = (fits.1).1 in
            record { some = some; room = omega arith; greatest = omega arith }),
      )

  module _ (r : Reinsertion A) (rest : List (Submission K V P A)) (is : φ.queue ≡ submission.Reinsertion r ∷ rest) where
    again_queue : (st.flushers f).queue ≡ model_state.Reinsert r.hash r.slice.items (address_of r.address) ∷ map (submission_of m) rest
    again_queue = stands.queue ∙ ap (map (submission_of m)) is

    held : IsPutAgain index r φ.filled → model_index.holds (address_of r.address) (st.index r.hash) ≡ true
    held put = ap (model_index.holds (address_of r.address)) (indexed.slot r.hash) ∙ very (finite.get index r.hash) r.address put.holds

    fits_again : IsPutAgain index r φ.filled → Fits (machine m s sound) st (st.flushers f) r.slice.items
    fits_again put = (bytes_agree r.slice.items).0 put.room

    put_again : model_index.holds (address_of r.address) (st.index r.hash) ≡ true → Fits (machine m s sound) st (st.flushers f) r.slice.items → IsPutAgain index r φ.filled
    put_again holds fits = record {
      holds = very_back (finite.get index r.hash) r.address (ap (model_index.holds (address_of r.address)) (sym (indexed.slot r.hash)) ∙ holds);
      room = (bytes_agree r.slice.items).1 fits;
    }

    -- it stays in front if memory was refused for it
    pub again_takes : IsPutAgain index r φ.filled → TakesMemory (machine m s sound) st (st.flushers f) (st.flushers f).queue
    again_takes put = subst (TakesMemory (machine m s sound) st (st.flushers f)) (sym again_queue) (held put, fits_again put)

    again_size : (after : model_state.Flusher Content) → after.queue ≡ map (submission_of m) rest → size_in (st.flushers f).queue ≡ 0 + size_in after.queue
    again_size after same =
        let e : size_in (st.flushers f).queue ≡ size_in (map (submission_of m) rest) = size_front (submission.Reinsertion r) rest is in
        let d : size_in after.queue ≡ size_in (map (submission_of m) rest) = ap size_in same in
        omega arith

    -- it is put into the buffer, or dropped
    pub again_kept : (new : Flusher K V P A) (b : Entries) (sources : List (Option EntryAddress)) → PutsAgain index r φ.filled φ.sources b sources
        → seen new ≡ record φ { queue = rest; filled = b; sources = sources } → IsReceivedAs m s sound st f 0 None new index
    again_kept new b sources (inl put) now = record {
      after = after;
      index = st.index;
      indexed = indexed;
      stands = subst (λ x. IsFlusherAs m s x after) (sym (now ∙ (λ i. record φ { queue = rest; filled = (put.1) i; sources = (put.2) i }))) (record {
        queue = refl;
        buffer = map_end kept_of (st.flushers f).buffer t ∙ ap (λ es. es ++ kept_of t ∷ []) stands.buffer;
        room = stands.room;
        greatest = stands.greatest;
        given = reread_end m φ.sources (st.flushers f).buffer φ.pieces r.address t stands.given refl;
        marks = stands.marks;
        invalidated = stands.invalidated;
        waits = stands.waits;
        own = stands.own;
        there = stands.there;
        sizes = stands.sizes;
        context = stands.context;
        goes_on = stands.goes_on;
        batch = stands.batch;
      });
      receives = at_queue (model_reply.Received None) (turned (machine m s sound) st f after) (model_state.Reinsert r.hash r.slice.items (address_of r.address) ∷ map (submission_of m) rest)
          again_queue (inl (held put.0, fits_again put.0, refl));
      keeps = record { own = refl; ready = refl };
      size_is = again_size after refl;
    }
      where
        t : model_record.Record Content
        t = record { hash = r.hash; sequence = (r.address).sequence; bytes = r.slice.items; source = model_record.Reread (address_of r.address) }

        after : model_state.Flusher Content
        after = record (st.flushers f) { queue = map (submission_of m) rest; buffer = (st.flushers f).buffer ++ t ∷ [] }
    again_kept new b sources (inr dropped) now = record {
      after = after;
      index = st.index;
      indexed = indexed;
      stands = subst (λ x. IsFlusherAs m s x after) (sym (now ∙ (λ i. record φ { queue = rest; filled = (dropped.1) i; sources = (dropped.2) i }))) (record {
        queue = refl;
        buffer = stands.buffer;
        room = stands.room;
        greatest = stands.greatest;
        given = stands.given;
        marks = stands.marks;
        invalidated = stands.invalidated;
        waits = stands.waits;
        own = stands.own;
        there = stands.there;
        sizes = stands.sizes;
        context = stands.context;
        goes_on = stands.goes_on;
        batch = stands.batch;
      });
      receives = at_queue (model_reply.Received None) (turned (machine m s sound) st f after) (model_state.Reinsert r.hash r.slice.items (address_of r.address) ∷ map (submission_of m) rest)
          again_queue (inr ((λ holds fits. dropped.0 (put_again holds fits)), refl));
      keeps = record { own = refl; ready = refl };
      size_is = again_size after refl;
    }
      where
        after : model_state.Flusher Content
        after = record (st.flushers f) { queue = map (submission_of m) rest }

  -- a record has room exactly if the model says that it fits
  agrees : (n : ℕ) (bytes : List ℕ) → length bytes ≡ 36 + n
      → ((36 + n ≤ left_of φ.filled) × (page_up (36 + n) ≤ φ.filled.greatest)) ↔ Fits (machine m s sound) st (st.flushers f) bytes
  agrees n bytes len = fits_agree (machine m s sound) st (st.flushers f) φ.filled n bytes (are_rules m.is_key m.is_value s sound) stands.room
      (ap (λ r. r % 4096) stands.room ∙ whole_room s) stands.greatest stands.buffer len

  module _ (p : Referred K V P) (size sequence : ℕ) (a b : Bool) (rest : List (Submission K V P A)) (is : φ.queue ≡ submission.CacheEntry p size sequence ∷ rest)
      (flag : m.is_encodable p.piece.key p.piece.value ≡ (a && b)) where
    abbrev pub whole : List ℕ
    whole = record_bytes p.piece.hash sequence (m.key_of p.piece.key) (m.value_of p.piece.value)

    abbrev pub n : ℕ
    n = length (m.value_of p.piece.value) + length (m.key_of p.piece.key)

    len : length whole ≡ 36 + n
    len = length-record_bytes p.piece.hash sequence (m.key_of p.piece.key) (m.value_of p.piece.value)

    queue : (st.flushers f).queue ≡ model_state.Piece p.piece.hash sequence size (content_of m p) ∷ map (submission_of m) rest
    queue = stands.queue ∙ ap (map (submission_of m)) is

    -- what is encoded is so by both codes, to these bytes
    codes : (bytes : List ℕ) → encoded p.piece.hash sequence (content_of m p) ≡ Some bytes → (a ≡ true) × (b ≡ true) × (whole ≡ bytes)
    codes bytes some = go (has_record (content_of m p)) refl some
      where
        go : (t : Bool) → has_record (content_of m p) ≡ t → (if t then Some whole else None) ≡ Some bytes → (a ≡ true) × (b ≡ true) × (whole ≡ bytes)
        go true has e =
            let both : (a && b) ≡ true = sym flag ∙ left (m.is_encodable p.piece.key p.piece.value) _ has in
            (left a b both, right a b both, some_is e)
        go false has e = absurd (cc)

    -- it stays in front if memory was refused for it
    pub piece_takes : TakesMemory (machine m s sound) st (st.flushers f) (st.flushers f).queue
    piece_takes = subst (TakesMemory (machine m s sound) st (st.flushers f)) (sym queue) tt

    -- it is put into the buffer
    pub piece_kept : (new : Flusher K V P A) → FitsBuffer φ.filled compression.None ((a ≡ true) × (b ≡ true)) n
        → seen new ≡ record φ { queue = rest; filled = with_entry φ.filled p.piece.hash sequence whole; sources = φ.sources ++ None ∷ []; pieces = φ.pieces ++ p ∷ [] }
        → IsReceivedAs m s sound st f size None new index
    piece_kept new fits now = record {
      after = after;
      index = st.index;
      indexed = indexed;
      stands = subst (λ x. IsFlusherAs m s x after) (sym now) (record {
        queue = refl;
        buffer = map_end kept_of (st.flushers f).buffer r ∙ ap (λ es. es ++ kept_of r ∷ []) stands.buffer;
        room = stands.room;
        greatest = stands.greatest;
        given = given_end m φ.sources (st.flushers f).buffer φ.pieces p r stands.given refl;
        marks = stands.marks;
        invalidated = stands.invalidated;
        waits = stands.waits;
        own = stands.own;
        there = stands.there;
        sizes = stands.sizes;
        context = stands.context;
        goes_on = stands.goes_on;
        batch = stands.batch;
      });
      receives = at_queue (model_reply.Received None) (turned (machine m s sound) st f after) (model_state.Piece p.piece.hash sequence size (content_of m p) ∷ map (submission_of m) rest)
          queue (whole, is_encoded, (agrees n whole len).0 (fits.room, fits.greatest), refl);
      keeps = record { own = refl; ready = refl };
      size_is = size_front (submission.CacheEntry p size sequence) rest is;
    }
      where
        r : model_record.Record Content
        r = record { hash = p.piece.hash; sequence = sequence; bytes = whole; source = model_record.Given (content_of m p) }

        after : model_state.Flusher Content
        after = record (st.flushers f) { queue = map (submission_of m) rest; buffer = (st.flushers f).buffer ++ r ∷ [] }

        is_encoded : encoded p.piece.hash sequence (content_of m p) ≡ Some whole
        is_encoded =
            let above : 36 + n ≤ page_up (36 + n) = page_up-holds (36 + n) in
            let greatest : page_up (36 + n) ≤ φ.filled.greatest = fits.greatest in
            let block : s.blob_index_size + φ.filled.greatest ≡ s.block_size = stands.greatest in
            let offsets : s.block_size ≤ 2 ^ 32 = sound.offsets_fit in
            let short_key : nat_lt (length (m.key_of p.piece.key)) (2 ^ 32) ≡ true = lt-ltb (length (m.key_of p.piece.key)) (2 ^ 32) (omega arith) in
            let short_value : nat_lt (length (m.value_of p.piece.value)) (2 ^ 32) ≡ true = lt-ltb (length (m.value_of p.piece.value)) (2 ^ 32) (omega arith) in
            let has : has_record (content_of m p) ≡ true = both_true (flag ∙ both_true fits.encoded.0 fits.encoded.1) (both_true short_key short_value) in
            ap (λ t. if t then Some whole else None) has

    -- or it doesn't fit, and is returned: its mark is kept
    pub piece_back : (new : Flusher K V P A) (marks : List Tombstone) (invalid : List Invalidated) (entered : IndexMap)
        → (FitsBuffer φ.filled compression.None ((a ≡ true) × (b ≡ true)) n → ⊥)
        → map mark_of marks ≡ map mark_of φ.marks ++ (p.piece.hash, sequence) ∷ []
        → map invalid_of invalid ≡ map invalid_of φ.invalid ++ bytes_of (displaced (finite.get index p.piece.hash) (Mark sequence))
        → entered ≡ inserted index p.piece.hash (Mark sequence)
        → seen new ≡ record φ { queue = rest; marks = marks; invalid = invalid } → IsReceivedAs m s sound st f size (Some (content_of m p)) new entered
    piece_back new marks invalid entered lacks marked issued is_entered now = record {
      after = after;
      index = slots;
      indexed = subst (λ k. IsIndexedAs s k slots) (sym is_entered) (index_inserted s index st.index p.piece.hash (Mark sequence) tt indexed);
      stands = subst (λ x. IsFlusherAs m s x after) (sym now) (record {
        queue = refl;
        buffer = stands.buffer;
        room = stands.room;
        greatest = stands.greatest;
        given = stands.given;
        marks = ap (λ xs. xs ++ (p.piece.hash, sequence) ∷ []) stands.marks ∙ sym marked;
        invalidated = ap (λ xs. xs ++ invalidated_by (machine m s sound) sequence (st.index p.piece.hash)) stands.invalidated
            ∙ ap (λ xs. map invalid_of φ.invalid ++ xs) (sym bytes) ∙ sym issued;
        waits = stands.waits;
        own = stands.own;
        there = stands.there;
        sizes = stands.sizes;
        context = stands.context;
        goes_on = stands.goes_on;
        batch = stands.batch;
      });
      receives = at_queue (model_reply.Received (Some (content_of m p))) (record (turned (machine m s sound) st f after) { index = slots }) (model_state.Piece p.piece.hash sequence size (content_of m p) ∷ map (submission_of m) rest)
          queue (refl, not_fitting, refl);
      keeps = record { own = refl; ready = refl };
      size_is = size_front (submission.CacheEntry p size sequence) rest is;
    }
      where
        after : model_state.Flusher Content
        after = record (st.flushers f) {
          queue = map (submission_of m) rest;
          marks = (st.flushers f).marks ++ (p.piece.hash, sequence) ∷ [];
          invalidated = (st.flushers f).invalidated ++ invalidated_by (machine m s sound) sequence (st.index p.piece.hash);
        }

        slots : ℕ → Option model_record.Slot
        slots = put st.index p.piece.hash (model_index.inserted (st.index p.piece.hash) (model_record.Mark sequence))

        bytes : bytes_of (displaced (finite.get index p.piece.hash) (Mark sequence)) ≡ invalidated_by (machine m s sound) sequence (st.index p.piece.hash)
        bytes = pushed_out m s sound (finite.get index p.piece.hash) sequence ∙ ap (invalidated_by (machine m s sound) sequence) (sym (indexed.slot p.piece.hash))

        not_fitting : (bytes : List ℕ) → encoded p.piece.hash sequence (content_of m p) ≡ Some bytes → Fits (machine m s sound) st (st.flushers f) bytes → ⊥
        not_fitting bytes some fits =
            let how = codes bytes some in
            let room = (agrees n whole len).1 (subst (Fits (machine m s sound) st (st.flushers f)) (sym how.2) fits) in
            lacks (record { plain = refl; encoded = (how.0, how.1); room = room.0; greatest = room.1 })
