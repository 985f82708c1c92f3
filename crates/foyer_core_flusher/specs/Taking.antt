-- What a flusher takes from its queue.
use Rattle.std.specs.Prelude.{◌≡◌, ℕ, ◌+◌, ◌⊎◌, List, [], ◌∷◌, ◌++◌, length, Option, Some, None, Result, Ok, Err}
use Rattle.foyer_block_index.specs.Index.{IndexMap, address_at}
use Rattle.foyer_block_index.specs.declared.indexer.EntryAddress.{EntryAddress}
use Rattle.foyer_format_buffer.specs.Entries.{Entries, with_entry}
use Rattle.foyer_device_page.specs.declared.error.Error.{Error}
use Rattle.foyer_core_model.specs.Receive.{Receives, turned}
use Rattle.foyer_core_model.specs.Record.{Slot}
use Rattle.foyer_core_model.specs.Refusal.{TakesMemory}
use Rattle.foyer_core_model.specs.Reply as model_reply
use Rattle.foyer_core_model.specs.State as model_state
use Rattle.foyer_core_blocks.specs.Content.{Content, Meaning, returned}
use Rattle.foyer_core_blocks.specs.CoreRules.{machine}
use Rattle.foyer_core_blocks.specs.Sizes.{AreValid}
use Rattle.foyer_core_blocks.specs.Settings.{Settings}
use Rattle.foyer_core_blocks.specs.Standing.{IsIndexedAs, KeepsItsBlocks}
use Rattle.foyer_core_flusher.specs.Filled.{HasRoomFor}
use Rattle.foyer_core_flusher.specs.Flushing.{IsFlusherAs}
use Rattle.foyer_core_flusher.specs.Seen.{seen}
use Rattle.foyer_core_flusher.specs.declared.flusher.Flusher.{Flusher}
use Rattle.foyer_policy_piece.specs.Referred.{Referred}
use Rattle.foyer_core_flusher.specs.declared.submission.Submission.{Submission}
use Rattle.foyer_core_flusher.specs.declared.submission.Submission.TheVariants as submission
use Rattle.foyer_core_flusher.specs.declared.submission.Reinsertion.{Reinsertion}
use Rattle.foyer_core_flusher.specs.declared.receive.Taken.{Taken}
use Rattle.foyer_core_flusher.specs.declared.receive.Taken.TheVariants as taken

-- the sizes of a queue's pieces
abbrev pub size_in : {C : Type 0} → List (model_state.Submission C) → ℕ
size_in [] = 0
size_in (model_state.Piece h q n c ∷ rest) = n + size_in rest
size_in (model_state.Remove h q invalidated ∷ rest) = size_in rest
size_in (model_state.Await i ∷ rest) = size_in rest
size_in (model_state.Reinsert h bytes a ∷ rest) = size_in rest

-- a record that was read back is put into the buffer: the index has it at the address that it was read from, and the buffer has room for it
pub record IsPutAgain {A : Type 0} (index : IndexMap) (r : Reinsertion A) (b : Entries) : Type 0 where
  pub holds : address_at index r.hash ≡ Some r.address
  pub room : HasRoomFor b (length r.slice.items)

-- and else it is dropped
abbrev pub PutsAgain : {A : Type 0} → IndexMap → Reinsertion A → Entries → List (Option EntryAddress) → Entries → List (Option EntryAddress) → Type 0
PutsAgain index r b sources new now =
    (IsPutAgain index r b × (new ≡ with_entry b r.hash (r.address).sequence r.slice.items) × (now ≡ sources ++ Some r.address ∷ []))
    ⊎ ((IsPutAgain index r b → ⊥) × (new ≡ b) × (now ≡ sources))

-- the front was taken, with a piece of this size
pub record IsReceivedAs {K V P A : Type 0} (m : Meaning K V P) (s : Settings) (sound : AreValid s) (st : model_state.State Content) (f : ℕ) (size : ℕ) (back : Option Content) (new : Flusher K V P A) (slots : IndexMap) : Type 0 where
  pub after : model_state.Flusher Content
  pub index : ℕ → Option Slot
  pub stands : IsFlusherAs m s (seen new) after
  pub indexed : IsIndexedAs s slots index
  pub receives : Receives (machine m s sound) st f (model_reply.Received back) (record (turned (machine m s sound) st f after) { index = index })
  pub keeps : KeepsItsBlocks (st.flushers f) after
  pub size_is : size_in (st.flushers f).queue ≡ size + size_in after.queue

-- What a receipt makes of a state of the model. The receipt is refused only if the front takes memory. A piece that has no room is handed
-- back.
abbrev pub TakesFront : {K V P A : Type 0} → Meaning K V P → (s : Settings) → AreValid s → model_state.State Content → ℕ → Result (Taken K V P A) Error → Flusher K V P A → IndexMap → Type 0
TakesFront m s sound st f (Ok taken.Nothing) new slots = ((st.flushers f).queue ≡ []) × IsFlusherAs m s (seen new) (st.flushers f) × IsIndexedAs s slots st.index
TakesFront m s sound st f (Ok taken.Other) new slots = IsReceivedAs m s sound st f 0 None new slots
TakesFront m s sound st f (Ok (taken.Piece size back)) new slots = IsReceivedAs m s sound st f size (returned m back) new slots
TakesFront m s sound st f (Err e) new slots = TakesMemory (machine m s sound) st (st.flushers f) (st.flushers f).queue

-- the piece in front of a queue, if one is
abbrev pub front_piece : {K V P A : Type 0} → List (Submission K V P A) → Option (Referred K V P)
front_piece (submission.CacheEntry piece size sequence ∷ rest) = Some piece
front_piece queue = None

abbrev pub and_piece : {K V P : Type 0} → Option (Referred K V P) → List (Referred K V P) → List (Referred K V P)
and_piece None pieces = pieces
and_piece (Some piece) pieces = pieces ++ piece ∷ []

-- The very piece in front of the queue is returned, or joins those that were received. Whatever else is taken leaves these as
-- they were.
abbrev pub MovesPiece : {K V P A : Type 0} → List (Submission K V P A) → (old new : List (Referred K V P)) → Result (Taken K V P A) Error → Type 0
MovesPiece queue old new (Ok (taken.Piece size (Some back))) = (front_piece queue ≡ Some back) × (new ≡ old)
MovesPiece queue old new (Ok (taken.Piece size None)) = new ≡ and_piece (front_piece queue) old
MovesPiece queue old new answer = new ≡ old
