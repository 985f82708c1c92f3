-- Reads and writes begin and end.
use Rattle.std.proofs.Common.{◌≡◌, ℕ, zero, suc, ◌+◌, ◌-◌, ◌<◌, ◌≤◌, ◌==◌, nat_le, nat_lt, Bool, true, false, ◌&&◌, ◌||◌, if◌then◌else◌, List, [], ◌∷◌, ◌++◌, length, take, slice_index, Option, Some, None, inl, inr, refl, sym, ap, subst, ◌∙◌, arith}
use Rattle.std.proofs.lemmas.Bool.{eqb-true}
use Rattle.std.proofs.lemmas.Bool.Decides.{nat_tests}
use Rattle.foyer_core_model.specs.Numbers.{put, page}
use Rattle.foyer_core_model.specs.Record.{Address, Outcome, Record}
use Rattle.foyer_format_layout.specs.BlockBytes.{Write, laid, all_laid, read, IsBeside}
use Rattle.foyer_core_model.specs.State.{Writing, Flusher, BlockSet}
use Rattle.foyer_core_model.specs.Rules.{Rules}
use Rattle.foyer_core_model.specs.Step.{ReadResult, Bytes, Fault}
use Rattle.foyer_core_model.specs.Layout.{AllStand, AllBehind}
use Rattle.foyer_core_model.specs.Access.{BlockWrites, Idle, Issued, InFlight, CleanState, CleanIdle, CleanIssued, CleanInFlight, CleanDone, ReadState, ReadIssued, Reading, ReadDone, Load, is_in, writes_covers, some_writes_covers, clean_covers, begun, read_torn, came, at_load, writes_begun, will_cover, writes_ended, bytes_ended, clean_will_cover, cleaned_page, bytes_cleaned, IsRead, IsTorn, IsTornClean}
use Rattle.foyer_core_model.specs.World.{World, covers, IsReadAt}
use Rattle.foyer_format_layout.proofs.BlockBytesLaws.{read_same, take_read}
use Rattle.foyer_core_model.proofs.Basics.{put_at, put_other, put_one}
use Rattle.foyer_core_model.proofs.Invariant.{Ground, ground_of, InPages, Spares, WritesSpare, IsSolid, IsGood, writing_in, line_of, ReadStateHolds, IsPromised, LoadOk, AreLeft, AllWell, WritesFit, WritingOk, FlusherInvariant, WorldInvariant, one_owner}
use Rattle.foyer_core_model.proofs.GoodAddresses.{good_writes, read_ended, good_ended, slot_lift, load_lift}

pub beside_not_in : (v : Write) (o : ℕ) → IsBeside v o → is_in v o ≡ false
beside_not_in v o beside = go (nat_le v.offset o) refl (nat_lt o (v.offset + length v.bytes)) refl
  where
    go : (p : Bool) → nat_le v.offset o ≡ p → (q : Bool) → nat_lt o (v.offset + length v.bytes) ≡ q → (p && q) ≡ false
    go true e true f = absurd (elim beside [ inl l ↦ grind (arith, nat_tests) | inr r ↦ grind (arith, nat_tests) ])
    go true e false f = refl
    go false e q f = refl

-- results and the writes that are left

pub all_well : (rs : List Bool) (v : Write) (ws left : List Write) → AreLeft rs (v ∷ ws) left → AllWell rs
all_well [] v ws left ok = tt
all_well (true ∷ rs) v ws [] ok = absurd ok
all_well (true ∷ rs) v ws (x ∷ left) ok = all_well rs v ws left ok
all_well (false ∷ rs) v ws left ok = absurd (let e : v ∷ ws ≡ [] = ok.1 in cc)

pub left_well : (rs : List Bool) (v : Write) (ws left : List Write) → AreLeft rs (v ∷ ws) left → AreLeft (rs ++ true ∷ []) ws left
left_well [] v ws left ok = subst (λ l. AreLeft (true ∷ []) ws l) ok refl
left_well (true ∷ rs) v ws [] ok = absurd ok
left_well (true ∷ rs) v ws (x ∷ left) ok = left_well rs v ws left ok
left_well (false ∷ rs) v ws left ok = absurd (let e : v ∷ ws ≡ [] = ok.1 in cc)

pub left_failed : (rs : List Bool) (v : Write) (ws left : List Write) → AreLeft rs (v ∷ ws) left → AreLeft (rs ++ false ∷ []) [] left
left_failed [] v ws left ok = (refl, refl, λ none. let e : v ∷ ws ≡ [] = ok ∙ none in cc)
left_failed (true ∷ rs) v ws [] ok = absurd ok
left_failed (true ∷ rs) v ws (x ∷ left) ok = left_failed rs v ws left ok
left_failed (false ∷ rs) v ws left ok = absurd (let e : v ∷ ws ≡ [] = ok.1 in cc)

pub not_well : (rs : List Bool) → AllWell (rs ++ false ∷ []) → ⊥
not_well [] well = well
not_well (true ∷ rs) well = not_well rs well
not_well (false ∷ rs) well = well

module _ {C : Type 0} (rules : Rules C) where
  spared_at : (a : Address) (b : ℕ) (v : Write) (o : ℕ) → (a.block ≡ b → Spares rules a v) → InPages rules a o → (a.block == b && is_in v o) ≡ false
  spared_at a b v o spares inside = go (a.block == b) refl
    where
      go : (t : Bool) → (a.block == b) ≡ t → (t && is_in v o) ≡ false
      go true e = beside_not_in v o (spares (eqb-true a.block b e) o inside)
      go false e = refl

  writes_spared : (a : Address) (pending : BlockWrites) (o : ℕ) → WritesSpare rules a pending → InPages rules a o → writes_covers a.block pending o ≡ false
  writes_spared a Idle o spares inside = refl
  writes_spared a (Issued b rs ws) o spares inside = refl
  writes_spared a (InFlight b rs v ws) o spares inside = spared_at a b v o (λ at. (spares at).0) inside

  or_false : (p q : Bool) → p ≡ false → q ≡ false → (p || q) ≡ false
  or_false false q e f = f
  or_false true q e f = e

  no_writes_covers : (n : ℕ) (a : Address) (block_writes : ℕ → BlockWrites) (o : ℕ) → ((f : ℕ) → WritesSpare rules a (block_writes f)) → InPages rules a o → some_writes_covers n block_writes a.block o ≡ false
  no_writes_covers zero a block_writes o spares inside = refl
  no_writes_covers (suc n) a block_writes o spares inside =
      or_false (writes_covers a.block (block_writes n) o) (some_writes_covers n block_writes a.block o) (writes_spared a (block_writes n) o (spares n) inside) (no_writes_covers n a block_writes o spares inside)

  -- of the loads, each keeps its fact
  load_read_state : (g : Ground) (block_writes : ℕ → BlockWrites) (l : Load C) (read_state : ReadState)
      → (l.ticket.address.filling ≡ g.filling l.ticket.address.block → ReadStateHolds rules g l.ticket.address read_state)
      → IsPromised rules g block_writes l → IsPromised rules g block_writes (record l { read_state = read_state })
  load_read_state g block_writes l read_state fits ok = record { outcome = ok.outcome; promise = ok.promise; good = ok.good; read_state = fits }

  -- a clean covers the first page alone
  pub clean_spares : (clean_state : CleanState) (a : Address) (o : ℕ) → page ≤ a.offset → InPages rules a o → clean_covers clean_state o ≡ false
  clean_spares CleanIdle a o past inside = refl
  clean_spares CleanIssued a o past inside = refl
  clean_spares (CleanDone ok) a o past inside = refl
  clean_spares CleanInFlight a o past inside = go (nat_lt o page) refl
    where
      go : (t : Bool) → nat_lt o page ≡ t → t ≡ false
      go true e = absurd (let low : a.offset ≤ o = inside.0 in grind (arith, nat_tests, past, low, e))
      go false e = refl

  -- nothing under way covers an address
  pub uncovered : (w : World C) (h : ℕ) (a : Address) (x : Outcome C) (o : ℕ) → IsSolid rules (ground_of w) w.block_writes h a x → InPages rules a o → covers rules w a.block o ≡ false
  uncovered w h a x o solid inside =
      or_false (some_writes_covers rules.flushers w.block_writes a.block o) (clean_covers (w.clean_states a.block) o)
      (no_writes_covers rules.flushers a w.block_writes o solid.spared inside) (clean_spares (w.clean_states a.block) a o solid.past inside)

  -- a read begins

  pub read_state_begun : (w : World C) (h : ℕ) (a : Address) (x : Outcome C) (read_state : ReadState) → IsSolid rules (ground_of w) w.block_writes h a x
      → ReadStateHolds rules (ground_of w) a read_state → ReadStateHolds rules (ground_of w) a (begun (covers rules w) a.block read_state)
  read_state_begun w h a x ReadIssued solid ok = λ o inside. uncovered w h a x o solid inside
  read_state_begun w h a x (Reading seen) solid ok = ok
  read_state_begun w h a x (ReadDone r) solid ok = ok

  at_begun : (w : World C) (o : Option (Load C)) → LoadOk rules (ground_of w) w.block_writes o → LoadOk rules (ground_of w) w.block_writes (at_load (begun (covers rules w)) o)
  at_begun w None ok = tt
  at_begun w (Some l) ok =
      load_read_state (ground_of w) w.block_writes l (begun (covers rules w) l.ticket.address.block l.read_state)
      (λ e. read_state_begun w l.ticket.hash l.ticket.address ok.outcome l.read_state (ok.good.solid e) (ok.read_state e)) ok

  pub read_begins : (w : World C) (n : ℕ) → WorldInvariant rules w
      → WorldInvariant rules (record w { loads = put w.loads n (at_load (begun (covers rules w)) (w.loads n)) })
  read_begins w n sound =
      record {
        slots = sound.slots;
        loads = put_one (λ q l. LoadOk rules (ground_of w) w.block_writes l) w.loads n _ (at_begun w (w.loads n) (sound.loads n)) (λ q _. sound.loads q);
        flushers = sound.flushers;
        next = sound.next;
      }

  -- a read ends

  judged_bytes : (g : Ground) (a : Address) (seen : ℕ → Bool) (bs : List ℕ) → length bs ≡ a.len
      → ((i : ℕ) → i < length bs → seen (a.offset + i) ≡ false → slice_index bs i ≡ g.bytes a.block (a.offset + i))
      → ((o : ℕ) → InPages rules a o → seen o ≡ false)
      → take a.len bs ≡ read (g.bytes a.block) a.offset a.len
  judged_bytes g a seen bs len given clear =
      let above : a.len ≤ rules.page_up a.len = rules.page_up_above a.len in
      take_read bs (g.bytes a.block) a.offset a.len (omega arith)
      (λ i lt. given i lt (clear (a.offset + i) (omega arith, omega arith)))

  pub read_state_came : (g : Ground) (a : Address) (read_state : ReadState) (result : ReadResult) → IsRead (g.bytes a.block) a.offset a.len read_state result
      → ReadStateHolds rules g a read_state → ReadStateHolds rules g a (came result read_state)
  read_state_came g a ReadIssued result read_is ok = ok
  read_state_came g a (ReadDone r) result read_is ok = ok
  read_state_came g a (Reading seen) Fault read_is ok = tt
  read_state_came g a (Reading seen) (Bytes bs) read_is ok = judged_bytes g a seen bs read_is.0 read_is.1 ok

  at_came : (g : Ground) (block_writes : ℕ → BlockWrites) (o : Option (Load C)) (result : ReadResult) → IsReadAt rules g.bytes o result → LoadOk rules g block_writes o → LoadOk rules g block_writes (at_load (λ _. came result) o)
  at_came g block_writes None result read_is ok = tt
  at_came g block_writes (Some l) result read_is ok =
      load_read_state g block_writes l (came result l.read_state) (λ e. read_state_came g l.ticket.address l.read_state result read_is (ok.read_state e)) ok

  pub read_ends : (w : World C) (n : ℕ) (result : ReadResult) → WorldInvariant rules w → IsReadAt rules w.bytes (w.loads n) result
      → WorldInvariant rules (record w { loads = put w.loads n (at_load (λ _. came result) (w.loads n)) })
  read_ends w n result sound read_is =
      record {
        slots = sound.slots;
        loads = put_one (λ q l. LoadOk rules (ground_of w) w.block_writes l) w.loads n _ (at_came (ground_of w) w.block_writes (w.loads n) result read_is (sound.loads n)) (λ q _. sound.loads q);
        flushers = sound.flushers;
        next = sound.next;
      }

  -- a write or a clean begins, and a read under way sees it

  pub read_state_torn : (g : Ground) (a : Address) (over : ℕ → ℕ → Bool) (read_state : ReadState) → ((o : ℕ) → InPages rules a o → over a.block o ≡ false)
      → ReadStateHolds rules g a read_state → ReadStateHolds rules g a (read_torn over a.block read_state)
  read_state_torn g a over ReadIssued clear ok = ok
  read_state_torn g a over (ReadDone r) clear ok = ok
  read_state_torn g a over (Reading seen) clear ok = λ o inside. or_false (seen o) (over a.block o) (ok o inside) (clear o inside)

  pub at_torn : (g : Ground) (block_writes : ℕ → BlockWrites) (over : ℕ → ℕ → Bool) (o : Option (Load C))
      → ((h : ℕ) (a : Address) (x : Outcome C) → IsSolid rules g block_writes h a x → (k : ℕ) → InPages rules a k → over a.block k ≡ false)
      → LoadOk rules g block_writes o → LoadOk rules g block_writes (at_load (read_torn over) o)
  at_torn g block_writes over None clear ok = tt
  at_torn g block_writes over (Some l) clear ok =
      load_read_state g block_writes l (read_torn over l.ticket.address.block l.read_state)
      (λ e. read_state_torn g l.ticket.address over l.read_state (clear l.ticket.hash l.ticket.address ok.outcome (ok.good.solid e)) (ok.read_state e)) ok

  pub writes_will_spare : (a : Address) (pending : BlockWrites) (o : ℕ) → WritesSpare rules a pending → InPages rules a o → will_cover pending a.block o ≡ false
  writes_will_spare a Idle o spares inside = refl
  writes_will_spare a (Issued b rs []) o spares inside = refl
  writes_will_spare a (Issued b rs (v ∷ ws)) o spares inside = spared_at a b v o (λ at. (spares at).0) inside
  writes_will_spare a (InFlight b rs v ws) o spares inside = refl

  pub clean_will_spare : (b : ℕ) (clean_state : CleanState) (a : Address) (o : ℕ) → page ≤ a.offset → InPages rules a o → clean_will_cover b clean_state a.block o ≡ false
  clean_will_spare b CleanIdle a o past inside = refl
  clean_will_spare b CleanInFlight a o past inside = refl
  clean_will_spare b (CleanDone ok) a o past inside = refl
  clean_will_spare b CleanIssued a o past inside = go (a.block == b) (nat_lt o page) refl
    where
      go : (s t : Bool) → nat_lt o page ≡ t → (s && t) ≡ false
      go true true e = absurd (let low : a.offset ≤ o = inside.0 in grind (arith, nat_tests, past, low, e))
      go true false e = refl
      go false t e = refl

  -- a write begins

  writes_begun_spares : (a : Address) (pending : BlockWrites) → WritesSpare rules a pending → WritesSpare rules a (writes_begun pending)
  writes_begun_spares a Idle spares = spares
  writes_begun_spares a (Issued b rs []) spares = spares
  writes_begun_spares a (Issued b rs (v ∷ ws)) spares = spares
  writes_begun_spares a (InFlight b rs v ws) spares = spares

  writes_begun_fits : (bytes : ℕ → ℕ → ℕ) (r : Writing C) (pending : BlockWrites) → WritesFit bytes r pending → WritesFit bytes r (writes_begun pending)
  writes_begun_fits bytes r Idle fits = fits
  writes_begun_fits bytes r (Issued b rs []) fits = fits
  writes_begun_fits bytes r (Issued b rs (v ∷ ws)) fits = (fits.0, fits.1, fits.2 (all_well rs v ws r.left fits.1))
  writes_begun_fits bytes r (InFlight b rs v ws) fits = fits

  writing_begun : (g : Ground) (own : Option ℕ) (r : Option (Writing C)) (pending : BlockWrites) → WritingOk rules g own r pending → WritingOk rules g own r (writes_begun pending)
  writing_begun g own None pending ok = ap writes_begun ok
  writing_begun g own (Some r) pending ok = (ok.0, writes_begun_fits g.bytes r pending ok.1, ok.2, ok.3)

  tended_writes : (g : Ground) (place : ℕ → BlockSet) (next f : ℕ) (φ : Flusher C) (pending pending' : BlockWrites)
      → (WritingOk rules g φ.own (writing_in φ.batch) pending → WritingOk rules g φ.own (writing_in φ.batch) pending')
      → FlusherInvariant rules g place next f φ pending → FlusherInvariant rules g place next f φ pending'
  tended_writes g place next f φ pending pending' fits t =
      record {
        order = t.order;
        batch = t.batch;
        batch_marks = t.batch_marks;
        buffer = t.buffer;
        marks = t.marks;
        queue = t.queue;
        split = t.split;
        context = t.context;
        owned = t.owned;
        spare = t.spare;
        either = t.either;
        writing = fits t.writing;
      }

  pub write_begins : (w : World C) (f : ℕ) → WorldInvariant rules w
      → WorldInvariant rules (record w { block_writes = put w.block_writes f (writes_begun (w.block_writes f)); loads = λ n. at_load (read_torn (will_cover (w.block_writes f))) (w.loads n) })
  write_begins w f sound =
      record {
        slots = λ h e routed. slot_lift rules (ground_of w) (ground_of w) w.block_writes _ w.history h (line_of (w.core.flushers e)) (line_of (w.core.flushers e)) (w.core.index h)
            (λ a x. good h a x) (λ n _ line. line) (sound.slots h e routed);
        loads = λ n. load_lift rules (ground_of w) (ground_of w) w.block_writes (put w.block_writes f (writes_begun (w.block_writes f))) (at_load (read_torn (will_cover (w.block_writes f))) (w.loads n)) good (λ l ok. ok.read_state)
            (at_torn (ground_of w) w.block_writes (will_cover (w.block_writes f)) (w.loads n) (λ h a x solid k inside. writes_will_spare a (w.block_writes f) k (solid.spared f) inside) (sound.loads n));
        flushers = put_one (λ q p. FlusherInvariant rules (ground_of w) w.core.place w.core.next q (w.core.flushers q) p) w.block_writes f (writes_begun (w.block_writes f))
            (tended_writes (ground_of w) w.core.place w.core.next f (w.core.flushers f) (w.block_writes f) (writes_begun (w.block_writes f))
            (writing_begun (ground_of w) (w.core.flushers f).own (writing_in (w.core.flushers f).batch) (w.block_writes f)) (sound.flushers f))
            (λ q _. sound.flushers q);
        next = sound.next;
      }
    where
      good : (h : ℕ) (a : Address) (x : Outcome C) → IsGood rules (ground_of w) w.block_writes h a x → IsGood rules (ground_of w) (put w.block_writes f (writes_begun (w.block_writes f))) h a x
      good h a x = good_writes rules (ground_of w) w.block_writes h a x f (writes_begun (w.block_writes f)) (writes_begun_spares a (w.block_writes f))

  -- a write ends

  fits_same : (bytes bytes' : ℕ → ℕ → ℕ) (r : Writing C) (pending : BlockWrites) → bytes' r.block ≡ bytes r.block → WritesFit bytes r pending → WritesFit bytes' r pending
  fits_same bytes bytes' r Idle same fits = fits
  fits_same bytes bytes' r (Issued b rs ws) same fits = (fits.0, fits.1, λ well. subst (λ k. AllStand (all_laid ws k) r.records) (sym same) (fits.2 well))
  fits_same bytes bytes' r (InFlight b rs v ws) same fits = (fits.0, fits.1, subst (λ k. AllStand (all_laid ws (laid v k)) r.records) (sym same) fits.2)

  fits_ended : (bytes : ℕ → ℕ → ℕ) (r : Writing C) (pending : BlockWrites) (ok : Bool) (k : ℕ → ℕ) → WritesFit bytes r pending → WritesFit (bytes_ended ok k pending bytes) r (writes_ended ok pending)
  fits_ended bytes r Idle ok k fits = fits
  fits_ended bytes r (Issued b rs ws) ok k fits = fits
  fits_ended bytes r (InFlight b rs v ws) true k fits = (
    fits.0,
    left_well rs v ws r.left fits.1,
    λ _. subst (λ g. AllStand (all_laid ws g) r.records)
        (sym (put_at (λ g. g ≡ laid v (bytes r.block)) bytes b (laid v (bytes b)) r.block (λ at. ap (λ q. laid v (bytes q)) (sym at)) (λ ne. absurd (ne (sym fits.0))))) fits.2,
  )
  fits_ended bytes r (InFlight b rs v ws) false k fits = (fits.0, left_failed rs v ws r.left fits.1, λ well. absurd (not_well rs well))

  -- a write that ends changes no block except the one that the flusher writes
  ended_elsewhere : (bytes : ℕ → ℕ → ℕ) (pending : BlockWrites) (ok : Bool) (k : ℕ → ℕ) (c : ℕ)
      → ((b : ℕ) (rs : List Bool) (v : Write) (ws : List Write) → pending ≡ InFlight b rs v ws → c ≡ b → ⊥) → bytes_ended ok k pending bytes c ≡ bytes c
  ended_elsewhere bytes Idle ok k c far = refl
  ended_elsewhere bytes (Issued b rs ws) ok k c far = refl
  ended_elsewhere bytes (InFlight b rs v ws) ok k c far = put_other bytes b (if ok then laid v (bytes b) else k) c (far b rs v ws refl)

  -- writes under way are in its flusher's own block
  pub under_own : (g : Ground) (own : Option ℕ) (r : Option (Writing C)) (pending : BlockWrites) (b : ℕ) (rs : List Bool) (v : Write) (ws : List Write)
      → WritingOk rules g own r pending → pending ≡ InFlight b rs v ws → own ≡ Some b
  under_own g own None pending b rs v ws ok is = absurd (let e : Idle ≡ InFlight b rs v ws = sym ok ∙ is in cc)
  under_own g own (Some r) pending b rs v ws ok is =
      let fits : WritesFit g.bytes r (InFlight b rs v ws) = subst (λ p. WritesFit g.bytes r p) is ok.1 in
      ok.0 ∙ ap (λ c. Some c) (sym fits.0)

  pub write_ends : (w : World C) (f : ℕ) (ok : Bool) (k : ℕ → ℕ) → WorldInvariant rules w → IsTorn w.bytes (w.block_writes f) k
      → WorldInvariant rules (record w { block_writes = put w.block_writes f (writes_ended ok (w.block_writes f)); bytes = bytes_ended ok k (w.block_writes f) w.bytes })
  write_ends w f ok k sound torn =
      record {
        slots = λ h e routed. slot_lift rules (ground_of w) g' w.block_writes block_writes' w.history h (line_of (w.core.flushers e)) (line_of (w.core.flushers e)) (w.core.index h)
            (λ a x. good h a x) (λ n _ line. line) (sound.slots h e routed);
        loads = λ n. load_lift rules (ground_of w) g' w.block_writes block_writes' (w.loads n) good (λ l promised e. read_state l.ticket.hash l.ticket.address promised.outcome l.read_state promised.good e (promised.read_state e)) (sound.loads n);
        flushers = put_one (λ q p. FlusherInvariant rules g' w.core.place w.core.next q (w.core.flushers q) p) w.block_writes f (writes_ended ok (w.block_writes f))
            (tended f (writes_ended ok (w.block_writes f)) (sound.flushers f) (λ r _. fits_ended w.bytes r (w.block_writes f) ok k) (λ rest. ap (writes_ended ok) rest))
            (λ q ne. tended q (w.block_writes q) (sound.flushers q)
            (λ r mine fits. fits_same w.bytes (bytes_ended ok k (w.block_writes f) w.bytes) r (w.block_writes q)
            (ended_elsewhere w.bytes (w.block_writes f) ok k r.block (λ b rs v ws is at.
            ne (one_owner rules w sound q f b (mine ∙ ap (λ c. Some c) at) (under_own (ground_of w) (w.core.flushers f).own (writing_in (w.core.flushers f).batch) (w.block_writes f) b rs v ws (sound.flushers f).writing is))))
            fits)
            (λ rest. rest));
        next = sound.next;
      }
    where
      g' : Ground
      g' = record { filled = w.filled; filling = w.core.filling; bytes = bytes_ended ok k (w.block_writes f) w.bytes }

      block_writes' : ℕ → BlockWrites
      block_writes' = put w.block_writes f (writes_ended ok (w.block_writes f))

      good : (h : ℕ) (a : Address) (x : Outcome C) → IsGood rules (ground_of w) w.block_writes h a x → IsGood rules g' block_writes' h a x
      good h a x = good_ended rules (ground_of w) w.block_writes h a x f ok k torn

      read_state : (h : ℕ) (a : Address) (x : Outcome C) (p : ReadState) → IsGood rules (ground_of w) w.block_writes h a x → a.filling ≡ w.core.filling a.block
          → ReadStateHolds rules (ground_of w) a p → ReadStateHolds rules g' a p
      read_state h a x ReadIssued g e was = was
      read_state h a x (Reading covers) g e was = was
      read_state h a x (ReadDone Fault) g e was = was
      read_state h a x (ReadDone (Bytes bs)) g e was = was ∙ sym (read_ended rules w.bytes (w.block_writes f) ok k a torn ((g.solid e).spared f))

      writing : (own : Option ℕ) (r : Option (Writing C)) (pending pending' : BlockWrites)
          → ((r : Writing C) → own ≡ Some r.block → WritesFit w.bytes r pending → WritesFit (bytes_ended ok k (w.block_writes f) w.bytes) r pending') → (pending ≡ Idle → pending' ≡ Idle)
          → WritingOk rules (ground_of w) own r pending → WritingOk rules g' own r pending'
      writing own None pending pending' fits rest was = rest was
      writing own (Some r) pending pending' fits rest was = (was.0, fits r was.0 was.1, was.2, was.3)

      tended : (q : ℕ) (pending' : BlockWrites) → FlusherInvariant rules (ground_of w) w.core.place w.core.next q (w.core.flushers q) (w.block_writes q)
          → ((r : Writing C) → (w.core.flushers q).own ≡ Some r.block → WritesFit w.bytes r (w.block_writes q) → WritesFit (bytes_ended ok k (w.block_writes f) w.bytes) r pending') → (w.block_writes q ≡ Idle → pending' ≡ Idle)
          → FlusherInvariant rules g' w.core.place w.core.next q (w.core.flushers q) pending'
      tended q pending' t fits rest =
          record {
            order = t.order;
            batch = t.batch;
            batch_marks = t.batch_marks;
            buffer = t.buffer;
            marks = t.marks;
            queue = t.queue;
            split = t.split;
            context = t.context;
            owned = t.owned;
            spare = t.spare;
            either = t.either;
            writing = writing (w.core.flushers q).own (writing_in (w.core.flushers q).batch) (w.block_writes q) pending' fits rest t.writing;
          }

  -- a clean begins

  pub clean_begins : (w : World C) (b : ℕ) → WorldInvariant rules w
      → WorldInvariant rules (record w { loads = λ n. at_load (read_torn (clean_will_cover b (w.clean_states b))) (w.loads n) })
  clean_begins w b sound =
      record {
        slots = sound.slots;
        loads = λ n. at_torn (ground_of w) w.block_writes (clean_will_cover b (w.clean_states b)) (w.loads n) (λ h a x solid k inside. clean_will_spare b (w.clean_states b) a k solid.past inside) (sound.loads n);
        flushers = sound.flushers;
        next = sound.next;
      }

  -- a clean ends, and behind the first page nothing has changed

  pub cleaned_behind : (bytes : ℕ → ℕ → ℕ) (b : ℕ) (clean_state : CleanState) (ok : Bool) (k : ℕ → ℕ) → IsTornClean bytes b clean_state k
      → (c o : ℕ) → page ≤ o → bytes_cleaned ok k b clean_state bytes c o ≡ bytes c o
  cleaned_behind bytes b CleanIdle ok k torn c o past = refl
  cleaned_behind bytes b CleanIssued ok k torn c o past = refl
  cleaned_behind bytes b (CleanDone j) ok k torn c o past = refl
  cleaned_behind bytes b CleanInFlight ok k torn c o past =
      put_at (λ g. g o ≡ bytes c o) bytes b (if ok then cleaned_page (bytes b) else k) c
      (λ at. subst (λ q. (if ok then cleaned_page (bytes b) else k) o ≡ bytes q o) (sym at) (go ok))
      (λ _. refl)
    where
      zeroed : (t : Bool) → nat_lt o page ≡ t → (if t then 0 else bytes b o) ≡ bytes b o
      zeroed true e = absurd (grind (arith, nat_tests, past, e))
      zeroed false e = refl

      go : (t : Bool) → (if t then cleaned_page (bytes b) else k) o ≡ bytes b o
      go true = zeroed (nat_lt o page) refl
      go false = torn o past

  one_laid_same : (v : Write) (g k : ℕ → ℕ) (o : ℕ) → g o ≡ k o → laid v g o ≡ laid v k o
  one_laid_same v g k o same = go (nat_le v.offset o && nat_lt o (v.offset + length v.bytes))
    where
      go : (t : Bool) → (if t then slice_index v.bytes (o - v.offset) else g o) ≡ (if t then slice_index v.bytes (o - v.offset) else k o)
      go true = refl
      go false = same

  laid_same : (ws : List Write) (g k : ℕ → ℕ) (o : ℕ) → g o ≡ k o → all_laid ws g o ≡ all_laid ws k o
  laid_same [] g k o same = same
  laid_same (v ∷ ws) g k o same = laid_same ws (laid v g) (laid v k) o (one_laid_same v g k o same)

  stand_same : (g k : ℕ → ℕ) (ps : List (ℕ × Record C)) → AllBehind rules.index_size ps → ((o : ℕ) → page ≤ o → g o ≡ k o) → AllStand g ps → AllStand k ps
  stand_same g k [] behind same ok = tt
  stand_same g k (p ∷ ps) behind same ok = (
    sym (read_same g k p.0 (length (p.1).bytes) (λ i low high. same i (let a : rules.index_size ≤ p.0 = behind.0 in let b : 4096 ≤ rules.index_size = rules.index_holds_page in omega arith))) ∙ ok.0,
    stand_same g k ps behind.1 same ok.1,
  )

  fits_behind : (bytes bytes' : ℕ → ℕ → ℕ) (r : Writing C) (pending : BlockWrites) → AllBehind rules.index_size r.records → ((o : ℕ) → page ≤ o → bytes r.block o ≡ bytes' r.block o)
      → WritesFit bytes r pending → WritesFit bytes' r pending
  fits_behind bytes bytes' r Idle behind same fits = fits
  fits_behind bytes bytes' r (Issued b rs ws) behind same fits =
      (fits.0, fits.1, λ well. stand_same (all_laid ws (bytes r.block)) (all_laid ws (bytes' r.block)) r.records behind (λ o past. laid_same ws (bytes r.block) (bytes' r.block) o (same o past)) (fits.2 well))
  fits_behind bytes bytes' r (InFlight b rs v ws) behind same fits = (
    fits.0,
    fits.1,
    stand_same (all_laid ws (laid v (bytes r.block))) (all_laid ws (laid v (bytes' r.block))) r.records behind
        (λ o past. laid_same ws (laid v (bytes r.block)) (laid v (bytes' r.block)) o (one_laid_same v (bytes r.block) (bytes' r.block) o (same o past))) fits.2,
  )

  pub clean_ends : (w : World C) (b : ℕ) (ok : Bool) (k : ℕ → ℕ) → WorldInvariant rules w → IsTornClean w.bytes b (w.clean_states b) k
      → WorldInvariant rules (record w { bytes = bytes_cleaned ok k b (w.clean_states b) w.bytes })
  clean_ends w b ok k sound torn =
      record {
        slots = λ h e routed. slot_lift rules (ground_of w) g' w.block_writes w.block_writes w.history h (line_of (w.core.flushers e)) (line_of (w.core.flushers e)) (w.core.index h)
            (λ a x. good h a x) (λ n _ line. line) (sound.slots h e routed);
        loads = λ n. load_lift rules (ground_of w) g' w.block_writes w.block_writes (w.loads n) good
            (λ l promised e. read_state l.ticket.hash l.ticket.address promised.outcome l.read_state promised.good e (promised.read_state e)) (sound.loads n);
        flushers = λ q. let t : FlusherInvariant rules (ground_of w) w.core.place w.core.next q (w.core.flushers q) (w.block_writes q) = sound.flushers q in
            record {
              order = t.order;
              batch = t.batch;
              batch_marks = t.batch_marks;
              buffer = t.buffer;
              marks = t.marks;
              queue = t.queue;
              split = t.split;
              context = t.context;
              owned = t.owned;
              spare = t.spare;
              either = t.either;
              writing = writing (w.core.flushers q).own (writing_in (w.core.flushers q).batch) (w.block_writes q) t.writing;
            };
        next = sound.next;
      }
    where
      g' : Ground
      g' = record { filled = w.filled; filling = w.core.filling; bytes = bytes_cleaned ok k b (w.clean_states b) w.bytes }

      same : (c o : ℕ) → page ≤ o → bytes_cleaned ok k b (w.clean_states b) w.bytes c o ≡ w.bytes c o
      same = cleaned_behind w.bytes b (w.clean_states b) ok k torn

      read_cleaned : (a : Address) → page ≤ a.offset → read (bytes_cleaned ok k b (w.clean_states b) w.bytes a.block) a.offset a.len ≡ read (w.bytes a.block) a.offset a.len
      read_cleaned a past = read_same _ _ a.offset a.len (λ i low high. same a.block i (omega arith))

      good : (h : ℕ) (a : Address) (x : Outcome C) → IsGood rules (ground_of w) w.block_writes h a x → IsGood rules g' w.block_writes h a x
      good h a x fine =
          record {
            older = fine.older;
            solid = λ e. let s : IsSolid rules (ground_of w) w.block_writes h a x = fine.solid e in
                record {
                  outcome = subst (λ bs. rules.pair_of bs h a.sequence ≡ x) (sym (read_cleaned a s.past)) s.outcome;
                  shut = s.shut;
                  spared = s.spared;
                  past = s.past;
                };
          }

      read_state : (h : ℕ) (a : Address) (x : Outcome C) (p : ReadState) → IsGood rules (ground_of w) w.block_writes h a x → a.filling ≡ w.core.filling a.block
          → ReadStateHolds rules (ground_of w) a p → ReadStateHolds rules g' a p
      read_state h a x ReadIssued g e was = was
      read_state h a x (Reading seen) g e was = was
      read_state h a x (ReadDone Fault) g e was = was
      read_state h a x (ReadDone (Bytes bs)) g e was = was ∙ sym (read_cleaned a (g.solid e).past)

      writing : (own : Option ℕ) (r : Option (Writing C)) (pending : BlockWrites) → WritingOk rules (ground_of w) own r pending → WritingOk rules g' own r pending
      writing own None pending was = was
      writing own (Some r) pending was =
          (was.0, fits_behind w.bytes (bytes_cleaned ok k b (w.clean_states b) w.bytes) r pending was.3 (λ o past. sym (same r.block o past)) was.1, was.2, was.3)
