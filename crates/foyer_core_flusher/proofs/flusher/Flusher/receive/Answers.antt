use Rattle.std.proofs.Common.{rules, option_to_list, None, ◌≡◌, ◌+◌, true, false, length, map, [], ◌∷◌, ◌++◌, ◌∙◌, refl, sym, ap}
use Rattle.std.specs.FinMap as finite
use Rattle.foyer_block_index.specs.Insertion.{displaced, inserted}
use Rattle.foyer_block_index.specs.declared.indexer.Index.TheVariants.{Tombstone as Mark}
use Rattle.foyer_format_buffer.specs.Entries.{FitsBuffer, with_entry}
use Rattle.foyer_format_record.specs.Record.{record_bytes}
use Rattle.foyer_format_record.specs.declared.compress.Compression.TheVariants as compression
use Rattle.foyer_core_blocks.specs.Content.{meaning}
use Rattle.foyer_core_flusher.specs.Marking.{bytes_of}
use Rattle.foyer_core_flusher.specs.Seen.{seen}
use Rattle.foyer_core_blocks.specs.Addresses.{mark_of, invalid_of}
use Rattle.foyer_core_flusher.specs.declared.submission.Submission.TheVariants.{CacheEntry, Tombstone, Reinsertion, Wait}
use Rattle.foyer_core_flusher.proofs.TakenLemmas.{wait_kept, mark_kept, again_kept, again_takes, invalidated_listed, piece_kept, piece_back, piece_takes}
use Rattle.foyer_core_flusher.proofs.flusher.Flusher.receive.Goals as goal

pub returns-in-Ok-true-clause-takes : goal.returns-in-Ok-true-clause-takes
returns-in-Ok-true-clause-takes g c = λ age_of s sound st f stands indexed.
    let m = meaning g.K.Code.encoding g.V.Code.encoding g.K.Code.is_encodable g.V.Code.is_encodable g.K.Code.is_decodable g.V.Code.is_decodable age_of in
    let φ = seen c.args.self.now in
    let p = c.in-Some-CacheEntry.piece in
    let sequence = c.in-Some-CacheEntry.sequence in
    let rest = c.pop_front.new.self.items in
    let is : φ.queue ≡ CacheEntry p c.in-Some-CacheEntry.estimated_size sequence ∷ rest = c.in-Some-CacheEntry.ensures.items ∙ ap (λ x. x ∷ rest) c.in-Some-CacheEntry.field-0-is in
    let fits : FitsBuffer φ.filled compression.None ((g.K.Code.is_encodable p.piece.key ≡ true) × (g.V.Code.is_encodable p.piece.value ≡ true)) (length (g.V.Code.encoding p.piece.value) + length (g.K.Code.encoding p.piece.key)) = search rules in
    let pushed : c.put_piece.new.filled ≡ with_entry φ.filled p.piece.hash sequence (record_bytes p.piece.hash sequence (g.K.Code.encoding p.piece.key) (g.V.Code.encoding p.piece.value)) = search rules in
    piece_kept m s sound st f φ stands c.args.index.now.slots indexed p c.in-Some-CacheEntry.estimated_size sequence (g.K.Code.is_encodable p.piece.key) (g.V.Code.is_encodable p.piece.value) rest is refl _ fits
    ((λ i. record φ { queue = rest; filled = pushed i; sources = c.push_back_reserved.new.self.items; pieces = c.push_reserved.new.self.items })
    ∙ ap (λ ps. record φ { queue = rest; filled = with_entry φ.filled p.piece.hash sequence (record_bytes p.piece.hash sequence (g.K.Code.encoding p.piece.key) (g.V.Code.encoding p.piece.value)); sources = c.push_back_reserved.new.self.items; pieces = ps })
    (c.push_reserved.ensures.items ∙ ap (λ ps. ps ++ p ∷ []) c.in-Ok-true.ensures.list)
    ∙ ap (λ os. record φ { queue = rest; filled = with_entry φ.filled p.piece.hash sequence (record_bytes p.piece.hash sequence (g.K.Code.encoding p.piece.key) (g.V.Code.encoding p.piece.value)); sources = os; pieces = φ.pieces ++ p ∷ [] })
    (c.push_back_reserved.ensures.items ∙ ap (λ os. os ++ None ∷ []) c.in-Ok-true.ensures.sources))

pub returns-in-Ok-clause-takes : goal.returns-in-Ok-clause-takes
returns-in-Ok-clause-takes g c = λ age_of s sound st f stands indexed.
    let m = meaning g.K.Code.encoding g.V.Code.encoding g.K.Code.is_encodable g.V.Code.is_encodable g.K.Code.is_decodable g.V.Code.is_decodable age_of in
    let φ = seen c.args.self.now in
    let slots = c.args.index.now.slots in
    let p = c.in-Some-CacheEntry.piece in
    let sequence = c.in-Some-CacheEntry.sequence in
    let rest = c.pop_front.new.self.items in
    let is : φ.queue ≡ CacheEntry p c.in-Some-CacheEntry.estimated_size sequence ∷ rest = c.in-Some-CacheEntry.ensures.items ∙ ap (λ x. x ∷ rest) c.in-Some-CacheEntry.field-0-is in
    let kept : c.put_piece.new.filled ≡ φ.filled = search rules in
    let lacks : FitsBuffer φ.filled compression.None ((g.K.Code.is_encodable p.piece.key ≡ true) × (g.V.Code.is_encodable p.piece.value ≡ true)) (length (g.V.Code.encoding p.piece.value) + length (g.K.Code.encoding p.piece.key)) → ⊥ =
    (λ fits. let clash : c.in-Ok-false.field-0 ≡ true = c.in-Ok-false.ensures.fits.1 fits in let e : false ≡ true = sym c.in-Ok-false.field-0-test ∙ clash in cc) in
    let hash : c.hash.result ≡ p.piece.hash = c.hash.ensures ∙ ap (λ r. r.hash) c.deref.ensures in
    piece_back m s sound st f φ stands slots indexed p c.in-Some-CacheEntry.estimated_size sequence (g.K.Code.is_encodable p.piece.key) (g.V.Code.is_encodable p.piece.value) rest is refl _
    c.put_returned.new.marks.items c.put_returned.new.invalid.items c.put_returned.new.index.slots lacks
    (c.in-Ok.ensures.marks ∙ ap (λ h. map mark_of φ.marks ++ (h, sequence) ∷ []) hash)
    (c.in-Ok.ensures.invalid ∙ ap (λ h. map invalid_of φ.invalid ++ bytes_of (displaced (finite.get slots h) (Mark sequence))) hash)
    (c.in-Ok.ensures.entered ∙ ap (λ h. inserted slots h (Mark sequence)) hash)
    (λ i. record φ { queue = rest; filled = kept i; sources = c.in-Ok-false.ensures.sources i; marks = c.put_returned.new.marks.items; invalid = c.put_returned.new.invalid.items; pieces = c.in-Ok-false.ensures.list i })

pub returns-in-Err-clause-takes : goal.returns-in-Err-clause-takes
returns-in-Err-clause-takes g c = λ age_of s sound st f stands indexed.
    let m = meaning g.K.Code.encoding g.V.Code.encoding g.K.Code.is_encodable g.V.Code.is_encodable g.K.Code.is_decodable g.V.Code.is_decodable age_of in
    let φ = seen c.args.self.now in
    let p = c.in-Some-CacheEntry.piece in
    let sequence = c.in-Some-CacheEntry.sequence in
    let rest = c.pop_front.new.self.items in
    let is : φ.queue ≡ CacheEntry p c.in-Some-CacheEntry.estimated_size sequence ∷ rest = c.in-Some-CacheEntry.ensures.items ∙ ap (λ x. x ∷ rest) c.in-Some-CacheEntry.field-0-is in
    piece_takes m s sound st f φ stands c.args.index.now.slots indexed p c.in-Some-CacheEntry.estimated_size sequence (g.K.Code.is_encodable p.piece.key) (g.V.Code.is_encodable p.piece.value) rest is refl

pub returns-in-Ok-put_mark-clause-takes : goal.returns-in-Ok-put_mark-clause-takes
returns-in-Ok-put_mark-clause-takes g c = λ age_of s sound st f stands indexed.
    let m = meaning g.K.Code.encoding g.V.Code.encoding g.K.Code.is_encodable g.V.Code.is_encodable g.K.Code.is_decodable g.V.Code.is_decodable age_of in
    let φ = seen c.args.self.now in
    let rest = c.pop_front.new.self.items in
    let tombstone = c.in-Some-Tombstone.tombstone in
    let stats = c.in-Some-Tombstone.stats in
    let is : φ.queue ≡ Tombstone tombstone stats ∷ rest = c.in-Some-Tombstone.ensures.items ∙ ap (λ x. x ∷ rest) c.in-Some-Tombstone.field-0-is in
    mark_kept m s sound st f φ stands c.args.index.now.slots indexed (record { tombstone = tombstone; stats = stats }) (option_to_list stats) rest _ is (invalidated_listed stats)
    (λ i. record φ { queue = rest; marks = c.in-Ok-put_mark.ensures.marks i; invalid = c.in-Ok-put_mark.ensures.invalid i })

pub returns-in-Ok-put_wait-clause-takes : goal.returns-in-Ok-put_wait-clause-takes
returns-in-Ok-put_wait-clause-takes g c = λ age_of s sound st f stands indexed.
    let m = meaning g.K.Code.encoding g.V.Code.encoding g.K.Code.is_encodable g.V.Code.is_encodable g.K.Code.is_decodable g.V.Code.is_decodable age_of in
    let φ = seen c.args.self.now in
    let rest = c.pop_front.new.self.items in
    let is : φ.queue ≡ Wait c.in-Some-Wait.id ∷ rest = c.in-Some-Wait.ensures.items ∙ ap (λ x. x ∷ rest) c.in-Some-Wait.field-0-is in
    wait_kept m s sound st f φ stands c.args.index.now.slots indexed c.in-Some-Wait.id rest _ is
    (ap (λ xs. record φ { queue = rest; waits = xs }) c.in-Ok-put_wait.ensures.put)

pub returns-in-Ok-put_reinsertion-clause-takes : goal.returns-in-Ok-put_reinsertion-clause-takes
returns-in-Ok-put_reinsertion-clause-takes g c = λ age_of s sound st f stands indexed.
    let m = meaning g.K.Code.encoding g.V.Code.encoding g.K.Code.is_encodable g.V.Code.is_encodable g.K.Code.is_decodable g.V.Code.is_decodable age_of in
    let φ = seen c.args.self.now in
    let rest = c.pop_front.new.self.items in
    let r = c.in-Some-Reinsertion.reinsertion in
    let is : φ.queue ≡ Reinsertion r ∷ rest = c.in-Some-Reinsertion.ensures.items ∙ ap (λ x. x ∷ rest) c.in-Some-Reinsertion.field-0-is in
    again_kept m s sound st f φ stands c.args.index.now.slots indexed r rest is _ c.put_reinsertion.new.filled c.put_reinsertion.new.sources.items c.in-Ok-put_reinsertion.ensures.put refl

pub returns-in-Err-put_reinsertion-clause-takes : goal.returns-in-Err-put_reinsertion-clause-takes
returns-in-Err-put_reinsertion-clause-takes g c = λ age_of s sound st f stands indexed.
    let m = meaning g.K.Code.encoding g.V.Code.encoding g.K.Code.is_encodable g.V.Code.is_encodable g.K.Code.is_decodable g.V.Code.is_decodable age_of in
    let φ = seen c.args.self.now in
    let rest = c.pop_front.new.self.items in
    let r = c.in-Some-Reinsertion.reinsertion in
    let is : φ.queue ≡ Reinsertion r ∷ rest = c.in-Some-Reinsertion.ensures.items ∙ ap (λ x. x ∷ rest) c.in-Some-Reinsertion.field-0-is in
    again_takes m s sound st f φ stands c.args.index.now.slots indexed r rest is c.in-Err-put_reinsertion.ensures.due
