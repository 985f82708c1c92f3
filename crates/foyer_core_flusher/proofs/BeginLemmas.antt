-- A batch that begins.
use Rattle.std.proofs.Common.{◌≡◌, ℕ, Bool, true, false, List, [], ◌∷◌, map, length, Option, Some, None, is_some, refl, sym, ap, subst, ◌∙◌, arith}
use Rattle.std.proofs.lemmas.List.{length-map}
use Rattle.foyer_block_index.specs.declared.indexer.EntryAddress.{EntryAddress}
use Rattle.foyer_block_index.specs.declared.tombstone.Tombstone.{Tombstone}
use Rattle.foyer_format_buffer.specs.Layout.{parts_of}
use Rattle.foyer_format_buffer.specs.declared.split.BlobPart.{BlobPart}
use Rattle.foyer_format_buffer.specs.declared.split.Block.{Block}
use Rattle.foyer_policy_piece.specs.Referred.{Referred}
use Rattle.foyer_core_model.specs.Position.{BlockLayout, records_of, last_end}
use Rattle.foyer_core_model.specs.Flush.{is_some as has}
use Rattle.foyer_core_model.specs.Receive.{pieces_of}
use Rattle.foyer_core_model.specs.Record as model_record
use Rattle.foyer_core_model.specs.Rules.{Rules, sizes_of}
use Rattle.foyer_core_model.specs.State as model_state
use Rattle.foyer_core_layout.proofs.BridgeLemmas.{batch_lays}
use Rattle.foyer_core_layout.proofs.KeepsLemmas.{keeps_records, goes_on}
use Rattle.foyer_core_layout.proofs.WithinLemmas.{all_within}
use Rattle.foyer_core_layout.specs.Bridge.{position_of, kept_of, AreBlocksAs}
use Rattle.foyer_core_layout.specs.Laws.{IsLaidAs}
use Rattle.foyer_core_layout.specs.Splits.{IsLaidOut, AreRules}
use Rattle.foyer_core_blocks.specs.Content.{Content, Meaning, content_of, contents_of}
use Rattle.foyer_core_blocks.specs.Settings.{Settings}
use Rattle.foyer_core_blocks.specs.Addresses.{mark_of, invalid_of}
use Rattle.foyer_core_flusher.specs.BatchBegun.{HasBegun}
use Rattle.foyer_core_flusher.specs.Begun.{IsBegun}
use Rattle.foyer_core_flusher.specs.Filled.{AreSome, WasSplit}
use Rattle.foyer_core_flusher.specs.Flushing.{AreFrom, AreReceived, AreWriting, HasOwn, IsFlusherAs}
use Rattle.foyer_core_blocks.specs.Sizes.{sizes_in}
use Rattle.foyer_core_flusher.specs.Seen.{seen}
use Rattle.foyer_core_flusher.specs.declared.flusher.Flusher.{Flusher}
use Rattle.foyer_core_flusher.specs.declared.batch.Writing.{Writing}

own_there : (own : Option ℕ) (b : Bool) → b ≡ is_some own → b ≡ true → HasOwn own
own_there None b is does = absurd (let e : false ≡ true = sym is ∙ does in cc)
own_there (Some o) b is does = tt

same_some : {X : Type 0} (o : Option X) → has o ≡ is_some o
same_some None = refl
same_some (Some x) = refl

module _ {K V P : Type 0} (m : Meaning K V P) where
  -- the contents of what was received
  pieces_are : (os : List (Option EntryAddress)) (rs : List (model_record.Record Content)) (ps : List (Referred K V P)) → AreReceived m os rs ps → contents_of (pieces_of rs) ≡ map (content_of m) ps
  pieces_are [] [] ps given = ap (map (content_of m)) (sym given)
  pieces_are [] (r ∷ rs) ps given = absurd given
  pieces_are (o ∷ os) [] ps given = absurd (go o given)
    where
      go : (x : Option EntryAddress) → AreReceived m (x ∷ os) [] ps → ⊥
      go None g = g
      go (Some a) g = g
  pieces_are (Some over ∷ os) (r ∷ rs) ps given =
      ap (λ x. with_source x rs) given.0 ∙ pieces_are os rs ps given.1
    where
      with_source : model_record.Source Content → List (model_record.Record Content) → List Content
      with_source x rest = contents_of (pieces_of (record { hash = r.hash; sequence = r.sequence; bytes = r.bytes; source = x } ∷ rest))
  pieces_are (None ∷ os) (r ∷ rs) [] given = absurd given
  pieces_are (None ∷ os) (r ∷ rs) (p ∷ ps) given =
      ap (λ x. with_source x rs) given.0 ∙ ap (λ cs. content_of m p ∷ cs) (pieces_are os rs ps given.1)
    where
      with_source : model_record.Source Content → List (model_record.Record Content) → List Content
      with_source x rest = contents_of (pieces_of (record { hash = r.hash; sequence = r.sequence; bytes = r.bytes; source = x } ∷ rest))

  all_from : (os : List (Option EntryAddress)) (rs : List (model_record.Record Content)) (ps : List (Referred K V P)) → AreReceived m os rs ps → AreSome (map kept_of rs) → AreFrom os rs
  all_from [] [] ps given some = tt
  all_from [] (r ∷ rs) ps given some = absurd given
  all_from (None ∷ os) [] ps given some = absurd given
  all_from (Some over ∷ os) [] ps given some = absurd given
  all_from (Some over ∷ os) (r ∷ rs) ps given some = ((given.0, some.0), all_from os rs ps given.1 some.1)
  all_from (None ∷ os) (r ∷ rs) [] given some = absurd given
  all_from (None ∷ os) (r ∷ rs) (p ∷ ps) given some = ((content_of m p, given.0, some.0), all_from os rs ps given.1 some.1)

module _ {A C : Type 0} where
  -- as many blocks
  same_count : (blocks : List (List (BlobPart A))) (layouts : List (BlockLayout C)) → AreBlocksAs blocks layouts → length layouts ≡ length blocks
  same_count [] [] are = refl
  same_count [] (x ∷ layouts) are = absurd are
  same_count (b ∷ blocks) [] are = absurd are
  same_count (b ∷ blocks) (x ∷ layouts) are = let rest : length layouts ≡ length blocks = same_count blocks layouts are.1 in omega arith

module _ {K V P A : Type 0} (m : Meaning K V P) (rules : Rules Content) (s : Settings) (st : model_state.State Content) (f : ℕ) (old new : Flusher K V P A)
    (issued : List Tombstone) (are : AreRules rules) (sizes : sizes_of rules ≡ sizes_in s) (stands : IsFlusherAs m s (seen old) (st.flushers f))
    (is : IsBegun old new issued) where
  abbrev it : model_state.Flusher Content
  it = st.flushers f

  -- the layout
  laid : IsLaidAs (sizes_in s) it.context (position_of new.context.filling) it.buffer is.split
  laid =
      let w : WasSplit old.filled old.context.sizes old.context.filling new.context.filling is.split = is.was_split in
      subst (λ c. IsLaidAs (sizes_in s) c (position_of new.context.filling) it.buffer is.split) (sym stands.context)
      (subst (λ z. IsLaidAs z (position_of old.context.filling) (position_of new.context.filling) it.buffer is.split) stands.sizes
      (batch_lays old.context.sizes (record old.filled { room = length w.bytes }) w.bytes w.infos w.whole old.context.filling new.context.filling is.split it.buffer
      w.finished w.same stands.buffer (omega (arith, stands.goes_on.past, ap (λ c. c.at) stands.context, ap (λ z. z.index) stands.sizes)) w.laid))

  abbrev begun : model_state.Flusher Content
  begun = record it {
    buffer = [];
    marks = [];
    invalidated = [];
    waits = [];
    context = last_end it.context laid.spreads;
    batch = Some (record {
      blocks = laid.spreads;
      continues_own_block = has it.own;
      writing = None;
      marks = it.marks;
      invalidated = it.invalidated;
      pieces = pieces_of it.buffer;
      waits = it.waits;
      logged = None;
    });
  }

  -- all of the buffer is laid out
  all_laid_out : records_of laid.spreads ≡ it.buffer
  all_laid_out =
      (keeps_records rules are it.context it.buffer laid.spreads (subst (λ z. IsLaidOut z it.context it.buffer laid.spreads) (sym sizes) laid.laid)).all

  blocks_are : AreBlocksAs (map parts_of (is.batch).blocks.items) laid.spreads
  blocks_are = subst (λ (bs : List (Block A)). AreBlocksAs (map parts_of bs) laid.spreads) (sym is.blocks) laid.are

  pub has_begun : HasBegun m rules s st f (seen new) (length (is.batch).blocks.items) issued
  has_begun = record {
    layouts = laid.spreads;
    count = same_count (map parts_of (is.batch).blocks.items) laid.spreads blocks_are ∙ length-map (is.batch).blocks.items parts_of;
    after = begun;
    begins = (ap (map mark_of) is.issued ∙ sym stands.marks, laid.laid, refl);
    stands = subst (λ x. IsFlusherAs m s x begun) (sym is.left) (record {
      queue = stands.queue;
      buffer = refl;
      room = stands.room;
      greatest = stands.greatest;
      given = refl;
      marks = refl;
      invalidated = refl;
      waits = refl;
      own = stands.own;
      there = stands.there;
      sizes = is.sizes ∙ stands.sizes;
      context = laid.last;
      goes_on = goes_on (sizes_in s) it.context it.buffer laid.spreads laid.laid;
      batch = record {
        blocks = blocks_are;
        within = all_within (sizes_in s) it.context it.buffer laid.spreads laid.laid;
        given = subst (λ os. AreFrom os (records_of laid.spreads)) (sym is.sources)
            (subst (AreFrom old.sources.items) (sym all_laid_out) (all_from m old.sources.items it.buffer old.pieces.items stands.given (subst AreSome (sym stands.buffer) (is.was_split).some)));
        continues_own_block = same_some it.own ∙ ap is_some stands.own ∙ sym is.continues_own_block;
        owned = own_there old.own (is.batch).continues_own_block is.continues_own_block;
        writing = subst (λ (w : Option (Writing A)). AreWriting s w None) (sym is.writing) tt;
        marks = stands.marks ∙ ap (map mark_of) (sym is.marks);
        invalidated = stands.invalidated ∙ ap (map invalid_of) (sym is.invalid);
        pieces = pieces_are m old.sources.items it.buffer old.pieces.items stands.given ∙ ap (map (content_of m)) (sym is.pieces);
        waits = stands.waits ∙ sym is.waits;
        logged = sym is.logged;
      };
    });
    queue = refl;
    keeps = record { own = refl; ready = refl };
  }
