-- What is true of the life of a block in every world that a run reaches.
use Rattle.std.proofs.Common.{◌≡◌, ◌≢◌, ℕ, ◌<◌, Bool, true, false, Option, Some, None, List, [], ◌∷◌, ◌⊎◌, inl, inr, refl, sym, ap, subst, ◌∙◌}
use Rattle.foyer_format_layout.specs.BlockBytes.{Write}
use Rattle.foyer_format_layout.specs.Position.{Sizes, fresh}
use Rattle.foyer_core_model.specs.Access.{BlockWrites, Idle, Issued, InFlight, CleanState, CleanIdle, CleanInFlight, CleanDone, is_in, writes_of as issued_writes}
use Rattle.foyer_core_model.specs.Flush.{is_cleaning, released, writing_of}
use Rattle.foyer_core_model.specs.InTurn.{IsAt, AwaitsClean}
use Rattle.foyer_core_model.specs.Numbers.{put}
use Rattle.foyer_core_model.specs.Position.{Position, BlockLayout, records_in}
use Rattle.foyer_core_model.specs.Record.{Record}
use Rattle.foyer_core_model.specs.Rules.{Rules, sizes_of}
use Rattle.foyer_core_model.specs.State.{Batch, Flusher, BlockSet, Clean, Writes, Evictable, ToClean, Reclaim, Destroy, NoDestroy, Begun, Cleaning}
use Rattle.foyer_core_model.specs.World.{World}
use Rattle.foyer_core_model.proofs.Basics.{put_at, put_one, put_same, put_other}
use Rattle.foyer_core_model.proofs.FlushBlocks.{start_other}
use Rattle.foyer_core_model.proofs.Invariant.{blocks_in, goes_on_in, start_of}
use Rattle.foyer_core_restart.specs.Entries.{In, filled_to}
use Rattle.foyer_core_restart.proofs.Issued.{same_or}
use Rattle.foyer_core_restart.proofs.Mild.{RestAt}
use Rattle.foyer_core_restart.proofs.Safe.{RestOk}
use Rattle.foyer_core_restart.proofs.Stop.{some_same}
use Rattle.foyer_core_restart.proofs.Tasks.{writes_of}
use Rattle.foyer_core_returns.specs.Lives.{Life, cleaned_life}
use Rattle.foyer_core_returns.proofs.LifeWrites.{IsOfRecord, WriteOk, LeftOk, write_up, left_up, IsFilledBy, filled_more}

-- what the invariant sees of a world
pub record Scene (C : Type 0) : Type 0 where
  pub flushers : ℕ → Flusher C
  pub place : ℕ → BlockSet
  pub reclaims : ℕ → Option Reclaim
  pub destroy : Destroy
  pub bytes : ℕ → ℕ → ℕ
  pub filled : ℕ → Position
  pub block_writes : ℕ → BlockWrites
  pub clean_states : ℕ → CleanState

abbrev pub scene_of : {C : Type 0} → World C → Scene C
scene_of w =
    record {
      flushers = w.core.flushers;
      place = w.core.place;
      reclaims = w.core.reclaims;
      destroy = w.core.destroy;
      bytes = w.bytes;
      filled = w.filled;
      block_writes = w.block_writes;
      clean_states = w.clean_states;
    }

-- a flusher that leaves its block puts no other into a set
pub released_was : (place : ℕ → BlockSet) (own : Option ℕ) (c : ℕ) (k : BlockSet) → (Evictable ≡ k → ⊥) → released own place c ≡ k → place c ≡ k
released_was place None c k far is = is
released_was place (Some b) c k far is = put_at (λ x. x ≡ k → place c ≡ k) place b Evictable c (λ _ e. absurd (far e)) (λ _ e. e) is

-- no write of these covers the byte
abbrev pub IsBare : List Write → ℕ → Type 0
IsBare writes o = (x : Write) → In x writes → is_in x o ≡ false

-- a clean that ended so leaves such a life
abbrev pub IsEndOf : {C : Type 0} → Bool → Life C → Type 0
IsEndOf true l = l ≡ cleaned_life
IsEndOf false l = l.has_failed ≡ true

-- a clean of a destroy has failed
abbrev pub IsFaulty : Destroy → Type 0
IsFaulty NoDestroy = ⊥
IsFaulty Begun = ⊥
IsFaulty (Cleaning left None) = ⊥
IsFaulty (Cleaning left (Some kind)) = Unit {0}

module _ (A : Type 0) {C : Type 0} (rules : Rules C) (b : ℕ) (B : ℕ → ℕ) (Empty : Type 0) where
  abbrev s : Sizes
  s = sizes_of rules

  -- whatever stood in the block before this life isn't listed, or a clean failed
  abbrev pub IsClear : Life C → Type 0
  IsClear l = (l.is_cleaned ≡ true) ⊎ Empty ⊎ (l.has_failed ≡ true)

  -- the writes into the block that a flusher has yet to begin, and the one that is under way
  abbrev pub AreLeft : Life C → BlockWrites → Type 0
  AreLeft l Idle = Unit {0}
  AreLeft l (Issued c results ws) = c ≡ b → LeftOk s (IsOfRecord l.records) l.writes ws
  AreLeft l (InFlight c results v ws) = c ≡ b → In v l.writes × LeftOk s (IsOfRecord l.records) l.writes ws

  pub record IsLived (v : Scene C) (l : Life C) : Type 0 where
    pub rests : (f : ℕ) → RestAt A rules v.filled (v.flushers f)
    pub dirty : v.clean_states b ≢ CleanIdle → IsAt ToClean (v.reclaims b) ⊎ AwaitsClean b v.destroy
    pub idle : is_cleaning v.destroy ≡ true → (f : ℕ) → ((v.flushers f).own ≡ None) × ((v.flushers f).ready ≡ None)
    pub none : is_cleaning v.destroy ≡ true → (c : ℕ) → v.reclaims c ≡ None
    pub done : (ok : Bool) → v.clean_states b ≡ CleanDone ok → IsEndOf ok l
    pub gone : b < rules.blocks → is_cleaning v.destroy ≡ true → AwaitsClean b v.destroy ⊎ (l ≡ cleaned_life) ⊎ IsFaulty v.destroy
    pub clean : v.place b ≡ Clean → IsClear l
    pub owned : (f : ℕ) → v.place b ≡ Writes f → IsClear l
    pub began : (x : Write) → In x l.writes → IsClear l
    pub stays : l.has_failed ≡ false → l.is_cleaned ≡ false → (o : ℕ) → IsBare l.writes o → v.bytes b o ≡ B o
    pub zeros : l.has_failed ≡ false → l.is_cleaned ≡ true → (o : ℕ) → o < 4096 → IsBare l.writes o → v.bytes b o ≡ 0
    pub log : (x : Write) → In x l.writes → WriteOk s (IsOfRecord l.records) l.writes x
    pub left : (f : ℕ) → AreLeft l (v.block_writes f)
    pub mine : (f : ℕ) → (v.flushers f).own ≡ Some b → IsFilledBy s l.records (filled_to (v.filled b))

  -- more records are issued
  pub left_more : (l : Life C) (records : List (ℕ × Record C)) (pending : BlockWrites) → ((p : ℕ × Record C) → In p l.records → In p records) → AreLeft l pending → AreLeft (record l { records = records }) pending
  left_more l records Idle up ok = tt
  left_more l records (Issued c results ws) up ok = λ at. left_up s (IsOfRecord l.records) (IsOfRecord records) l.writes l.writes ws (λ e k. (k.0, up k.0 k.1, k.2)) (λ x i. i) (ok at)
  left_more l records (InFlight c results v ws) up ok = λ at. ((ok at).0, left_up s (IsOfRecord l.records) (IsOfRecord records) l.writes l.writes ws (λ e k. (k.0, up k.0 k.1, k.2)) (λ x i. i) (ok at).1)

  -- flushers that keep their blocks
  pub turned : (v : Scene C) (l : Life C) (flushers : ℕ → Flusher C) (block_writes : ℕ → BlockWrites) → IsLived v l
      → ((f : ℕ) → ((flushers f).own ≡ (v.flushers f).own) × ((flushers f).ready ≡ (v.flushers f).ready))
      → ((f : ℕ) → RestAt A rules v.filled (flushers f)) → ((f : ℕ) → AreLeft l (block_writes f))
      → IsLived (record v { flushers = flushers; block_writes = block_writes }) l
  turned v l flushers block_writes k same rests left = record {
    rests = rests;
    dirty = k.dirty;
    idle = λ e f. ((same f).0 ∙ (k.idle e f).0, (same f).1 ∙ (k.idle e f).1);
    none = k.none;
    done = k.done;
    gone = k.gone;
    clean = k.clean;
    owned = k.owned;
    began = k.began;
    stays = k.stays;
    zeros = k.zeros;
    log = k.log;
    left = left;
    mine = λ f e. k.mine f (sym (same f).0 ∙ e);
  }

  -- one flusher
  pub turned_one : (v : Scene C) (l : Life C) (f : ℕ) (flusher : Flusher C) (block_writes : ℕ → BlockWrites) → IsLived v l → flusher.own ≡ (v.flushers f).own → flusher.ready ≡ (v.flushers f).ready
      → RestAt A rules v.filled flusher → ((q : ℕ) → AreLeft l (block_writes q)) → IsLived (record v { flushers = put v.flushers f flusher; block_writes = block_writes }) l
  turned_one v l f flusher block_writes k own ready rest left =
      turned v l (put v.flushers f flusher) block_writes k
      (put_one (λ q after. (after.own ≡ (v.flushers q).own) × (after.ready ≡ (v.flushers q).ready)) v.flushers f flusher (own, ready) (λ q _. (refl, refl)))
      (put_one (λ q after. RestAt A rules v.filled after) v.flushers f flusher rest (λ q _. k.rests q)) left

  -- its queue grows, or whatever else leaves its batch
  pub pushed : (v : Scene C) (l : Life C) (f : ℕ) (flusher : Flusher C) → IsLived v l → flusher.own ≡ (v.flushers f).own → flusher.ready ≡ (v.flushers f).ready → flusher.batch ≡ (v.flushers f).batch
      → IsLived (record v { flushers = put v.flushers f flusher }) l
  pushed v l f flusher k own ready batch =
      turned_one v l f flusher v.block_writes k own ready
      (subst (λ o. RestOk A s (filled_to (start_of rules v.filled o (goes_on_in flusher.batch))) (blocks_in flusher.batch)) (sym own)
      (subst (λ q. RestOk A s (filled_to (start_of rules v.filled (v.flushers f).own (goes_on_in q))) (blocks_in q)) (sym batch) (k.rests f))) k.left

  -- a flusher leaves its block
  pub leaves : (v : Scene C) (l : Life C) (f : ℕ) (flusher : Flusher C) (block_writes : ℕ → BlockWrites) → IsLived v l → flusher.own ≡ None → flusher.ready ≡ (v.flushers f).ready
      → RestAt A rules v.filled flusher → ((q : ℕ) → AreLeft l (block_writes q))
      → IsLived (record v { place = released (v.flushers f).own v.place; flushers = put v.flushers f flusher; block_writes = block_writes }) l
  leaves v l f flusher block_writes k own ready rest left = record {
    rests = put_one (λ q after. RestAt A rules v.filled after) v.flushers f flusher rest (λ q _. k.rests q);
    dirty = k.dirty;
    idle = λ e. put_one (λ q after. (after.own ≡ None) × (after.ready ≡ None)) v.flushers f flusher (own, ready ∙ (k.idle e f).1) (λ q _. k.idle e q);
    none = k.none;
    done = k.done;
    gone = k.gone;
    clean = λ e. k.clean (released_was v.place (v.flushers f).own b Clean (λ x. cc) e);
    owned = λ q e. k.owned q (released_was v.place (v.flushers f).own b (Writes q) (λ x. cc) e);
    began = k.began;
    stays = k.stays;
    zeros = k.zeros;
    log = k.log;
    left = left;
    mine = put_one (λ q after. after.own ≡ Some b → IsFilledBy s l.records (filled_to (v.filled b))) v.flushers f flusher (λ e. absurd (let x : None ≡ Some b = sym own ∙ e in cc)) (λ q _. k.mine q);
  }

  -- what is issued is left
  left_issued : (l : Life C) (c : ℕ) (ws : List Write) → (c ≡ b → LeftOk s (IsOfRecord l.records) l.writes ws) → AreLeft l (issued_writes c ws)
  left_issued l c [] ok = tt
  left_issued l c (w ∷ ws) ok = ok

  -- A flusher is issued a block.
  pub issued : (v : Scene C) (l : Life C) (f c : ℕ) (batch : Batch C) (sp : BlockLayout C) (rest : List (BlockLayout C)) (place : ℕ → BlockSet) (records : List (ℕ × Record C)) → IsLived v l
      → RestOk A s (fresh s) rest
      → ((p : ℕ × Record C) → In p l.records → In p records)
      → (c ≡ b → LeftOk s (IsOfRecord records) l.writes (writes_of rules.block_size sp.parts) × IsFilledBy s records (filled_to sp.end))
      → ((q : ℕ) → (q ≡ f → ⊥) → (v.flushers q).own ≡ Some c → ⊥)
      → (place b ≡ Clean → IsClear l) → ((q : ℕ) → place b ≡ Writes q → IsClear l)
      → (is_cleaning v.destroy ≡ true → ⊥)
      → (c ≡ b → (ok : Bool) → v.clean_states b ≡ CleanDone ok → ⊥) → ((c ≡ b → ⊥) → records ≡ l.records)
      → IsLived (record v {
        place = place;
        flushers = put v.flushers f (record (v.flushers f) { own = Some c; ready = None; batch = Some (record batch { blocks = rest; continues_own_block = false; writing = writing_of c (writes_of rules.block_size sp.parts) (records_in sp.parts) }) });
        filled = put v.filled c sp.end;
        block_writes = put v.block_writes f (issued_writes c (writes_of rules.block_size sp.parts));
      }) (record l { records = records })
  issued v l f c batch sp rest place records k later up own alone clean owned quiet calm same = record {
    rests = put_one (λ q after. RestAt A rules (put v.filled c sp.end) after) v.flushers f flusher later
        (λ q ne. subst (λ g. RestOk A s (filled_to g) (blocks_in (v.flushers q).batch)) (sym (start_other rules v.filled c sp.end (v.flushers q).own (goes_on_in (v.flushers q).batch) (alone q ne))) (k.rests q));
    dirty = k.dirty;
    idle = λ e. absurd (quiet e);
    none = k.none;
    done = λ ok e. elim (same_or c b) [ inl at ↦ absurd (calm at ok e) | inr other ↦ subst (λ r. IsEndOf ok (record l { records = r })) (sym (same other)) (k.done ok e) ];
    gone = λ lt e. absurd (quiet e);
    clean = clean;
    owned = owned;
    began = k.began;
    stays = k.stays;
    zeros = k.zeros;
    log = λ x i. write_up s (IsOfRecord l.records) (IsOfRecord records) l.writes l.writes x (λ e r. (r.0, up r.0 r.1, r.2)) (λ y j. j) (k.log x i);
    left = put_one (λ q p. AreLeft (record l { records = records }) p) v.block_writes f (issued_writes c (writes_of rules.block_size sp.parts))
        (left_issued (record l { records = records }) c (writes_of rules.block_size sp.parts) (λ at. (own at).0))
        (λ q _. left_more l records (v.block_writes q) up (k.left q));
    mine = put_one (λ q after. after.own ≡ Some b → IsFilledBy s records (filled_to (put v.filled c sp.end b))) v.flushers f flusher
        (λ e. let at : c ≡ b = some_same c b e in
        subst (λ d. IsFilledBy s records (filled_to (put v.filled c sp.end d))) at (subst (λ g. IsFilledBy s records (filled_to g)) (sym (put_same v.filled c sp.end)) (own at).1))
        (λ q ne e. subst (λ g. IsFilledBy s records (filled_to g)) (sym (put_other v.filled c sp.end b (λ at. alone q ne (e ∙ ap Some at)))) (filled_more s l.records records (filled_to (v.filled b)) up (k.mine q e)));
  }
    where
      flusher : Flusher C
      flusher = record (v.flushers f) { own = Some c; ready = None; batch = Some (record batch { blocks = rest; continues_own_block = false; writing = writing_of c (writes_of rules.block_size sp.parts) (records_in sp.parts) }) }

  -- A write begins.
  pub write_began : (v : Scene C) (l : Life C) (f c : ℕ) (results : List Bool) (w : Write) (ws : List Write) → v.block_writes f ≡ Issued c results (w ∷ ws) → c ≡ b → IsClear l
      → (is_cleaning v.destroy ≡ true → ⊥) → ((ok : Bool) → v.clean_states b ≡ CleanDone ok → ⊥) → IsLived v l
      → IsLived (record v { block_writes = put v.block_writes f (InFlight c results w ws) }) (record l { writes = w ∷ l.writes })
  write_began v l f c results w ws is at clear quiet calm k = record {
    rests = k.rests;
    dirty = k.dirty;
    idle = k.idle;
    none = k.none;
    done = λ ok e. absurd (calm ok e);
    gone = λ lt e. absurd (quiet e);
    clean = k.clean;
    owned = k.owned;
    began = λ x i. clear;
    stays = λ h e o bare. k.stays h e o (λ x i. bare x (inr i));
    zeros = λ h e o lt bare. k.zeros h e o lt (λ x i. bare x (inr i));
    log = λ x i. elim i [
      | inl same ↦ subst (λ y. WriteOk s (IsOfRecord l.records) (w ∷ l.writes) y) (sym same) (write_up s (IsOfRecord l.records) (IsOfRecord l.records) l.writes (w ∷ l.writes) w (λ e r. r) (λ y j. inr j) own.0)
      | inr old ↦ write_up s (IsOfRecord l.records) (IsOfRecord l.records) l.writes (w ∷ l.writes) x (λ e r. r) (λ y j. inr j) (k.log x old)
    ];
    left = put_one (λ q p. AreLeft (record l { writes = w ∷ l.writes }) p) v.block_writes f (InFlight c results w ws) (λ _. (inl refl, own.1)) (λ q _. more (v.block_writes q) (k.left q));
    mine = k.mine;
  }
    where
      own : LeftOk s (IsOfRecord l.records) l.writes (w ∷ ws)
      own = subst (AreLeft l) is (k.left f) at

      more : (p : BlockWrites) → AreLeft l p → AreLeft (record l { writes = w ∷ l.writes }) p
      more Idle ok = tt
      more (Issued d rs xs) ok = λ here. left_up s (IsOfRecord l.records) (IsOfRecord l.records) l.writes (w ∷ l.writes) xs (λ e r. r) (λ y j. inr j) (ok here)
      more (InFlight d rs x xs) ok = λ here. (inr (ok here).0, left_up s (IsOfRecord l.records) (IsOfRecord l.records) l.writes (w ∷ l.writes) xs (λ e r. r) (λ y j. inr j) (ok here).1)

  -- A write of another block begins, or one is reported.
  pub writes_else : (v : Scene C) (l : Life C) (f : ℕ) (pending : BlockWrites) → AreLeft l pending → IsLived v l → IsLived (record v { block_writes = put v.block_writes f pending }) l
  writes_else v l f pending ok k =
      turned v l v.flushers (put v.block_writes f pending) k (λ q. (refl, refl)) k.rests (put_one (λ q p. AreLeft l p) v.block_writes f pending ok (λ q _. k.left q))

  -- A write ends, well or not: outside of its range nothing changes.
  pub write_ended : (v : Scene C) (l : Life C) (f c : ℕ) (results more : List Bool) (w : Write) (ws rest : List Write) (g : ℕ → ℕ) → v.block_writes f ≡ InFlight c results w ws
      → (LeftOk s (IsOfRecord l.records) l.writes ws → LeftOk s (IsOfRecord l.records) l.writes rest) → ((o : ℕ) → is_in w o ≡ false → g o ≡ v.bytes c o)
      → IsLived v l → IsLived (record v { block_writes = put v.block_writes f (Issued c more rest); bytes = put v.bytes c g }) l
  write_ended v l f c results more w ws rest g is less same k = record {
    rests = k.rests;
    dirty = k.dirty;
    idle = k.idle;
    none = k.none;
    done = k.done;
    gone = k.gone;
    clean = k.clean;
    owned = k.owned;
    began = k.began;
    stays = λ h e o bare. still o bare (B o) (k.stays h e o bare);
    zeros = λ h e o lt bare. still o bare 0 (k.zeros h e o lt bare);
    log = k.log;
    left = put_one (λ q p. AreLeft l p) v.block_writes f (Issued c more rest) (λ at. less (own at).1) (λ q _. k.left q);
    mine = k.mine;
  }
    where
      own : c ≡ b → In w l.writes × LeftOk s (IsOfRecord l.records) l.writes ws
      own at = subst (AreLeft l) is (k.left f) at

      still : (o : ℕ) → IsBare l.writes o → (n : ℕ) → v.bytes b o ≡ n → put v.bytes c g b o ≡ n
      still o bare n was = put_at (λ (x : ℕ → ℕ). x o ≡ n) v.bytes c g b (λ at. same o (bare w (own (sym at)).0) ∙ ap (λ d. v.bytes d o) (sym at) ∙ was) (λ _. was)

  -- Nothing of a block that is being cleaned is written, and it isn't handed out.
  pub unowned : (v : Scene C) (l : Life C) → IsLived v l → v.clean_states b ≢ CleanIdle → (IsAt ToClean (v.reclaims b) → (f : ℕ) → (v.flushers f).own ≡ Some b → ⊥)
      → (f : ℕ) → (v.flushers f).own ≡ Some b → ⊥
  unowned v l k dirty apart f owns = elim (k.dirty dirty) [
    | inl soon ↦ apart soon f owns
    | inr awaits ↦ (let x : None ≡ Some b = sym (k.idle (Rattle.foyer_core_restart.proofs.Issued.awaits_cleaning b v.destroy awaits) f).0 ∙ owns in cc)
  ]

  -- A clean of the block ends well: a new life begins.
  pub clean_ended : (v : Scene C) (l : Life C) (g : ℕ → ℕ) → v.clean_states b ≡ CleanInFlight → ((o : ℕ) → o < 4096 → g o ≡ 0)
      → ((f : ℕ) → (v.flushers f).own ≡ Some b → ⊥)
      → ((f c : ℕ) (rs : List Bool) (ws : List Write) → v.block_writes f ≡ Issued c rs ws → (v.flushers f).own ≡ Some c)
      → ((f c : ℕ) (rs : List Bool) (w : Write) (ws : List Write) → v.block_writes f ≡ InFlight c rs w ws → (v.flushers f).own ≡ Some c)
      → IsLived v l → IsLived (record v { clean_states = put v.clean_states b (CleanDone true); bytes = put v.bytes b g }) cleaned_life
  clean_ended v l g is zero unowned issues flies k = record {
    rests = k.rests;
    dirty = λ _. k.dirty (λ e. let x : CleanInFlight ≡ CleanIdle = sym is ∙ e in cc);
    idle = k.idle;
    none = k.none;
    done = λ ok e. end_is ok (sym (put_same v.clean_states b (CleanDone true)) ∙ e);
    gone = λ lt e. inr (inl refl);
    clean = λ _. inl refl;
    owned = λ f _. inl refl;
    began = λ x i. absurd i;
    stays = λ h e. absurd (let x : true ≡ false = e in cc);
    zeros = λ _ _ o lt bare. ap (λ (x : ℕ → ℕ). x o) (put_same v.bytes b g) ∙ zero o lt;
    log = λ x i. absurd i;
    left = λ f. none (v.block_writes f) refl;
    mine = λ f e. absurd (unowned f e);
  }
    where
      end_is : (ok : Bool) → CleanDone true ≡ CleanDone ok → IsEndOf {C = C} ok cleaned_life
      end_is true e = refl
      end_is false e = absurd (let x : CleanDone true ≡ CleanDone false = e in cc)

      none : {f : ℕ} (p : BlockWrites) → v.block_writes f ≡ p → AreLeft cleaned_life p
      none Idle e = tt
      none {f} (Issued c rs ws) e = λ at. absurd (unowned f (issues f c rs ws e ∙ ap Some at))
      none {f} (InFlight c rs w ws) e = λ at. absurd (unowned f (flies f c rs w ws e ∙ ap Some at))

  -- A clean of the block fails: its first page may be anything.
  pub clean_failed : (v : Scene C) (l : Life C) (g : ℕ → ℕ) → v.clean_states b ≡ CleanInFlight → IsLived v l
      → IsLived (record v { clean_states = put v.clean_states b (CleanDone false); bytes = put v.bytes b g }) (record l { has_failed = true })
  clean_failed v l g is k = record {
    rests = k.rests;
    dirty = λ _. k.dirty dirt;
    idle = k.idle;
    none = k.none;
    done = λ ok e. end_is ok (sym (put_same v.clean_states b (CleanDone false)) ∙ e);
    gone = λ lt e. elim (k.dirty dirt) [ inl soon ↦ absurd (subst (IsAt ToClean) (k.none e b) soon) | inr awaits ↦ inl awaits ];
    clean = λ _. inr (inr refl);
    owned = λ f _. inr (inr refl);
    began = λ x i. inr (inr refl);
    stays = λ h. absurd (let x : true ≡ false = h in cc);
    zeros = λ h. absurd (let x : true ≡ false = h in cc);
    log = k.log;
    left = λ f. same (v.block_writes f) (k.left f);
    mine = k.mine;
  }
    where
      dirt : v.clean_states b ≢ CleanIdle
      dirt e = let x : CleanInFlight ≡ CleanIdle = sym is ∙ e in cc

      end_is : (ok : Bool) → CleanDone false ≡ CleanDone ok → IsEndOf ok (record l { has_failed = true })
      end_is true e = absurd (let x : CleanDone false ≡ CleanDone true = e in cc)
      end_is false e = refl

      same : (p : BlockWrites) → AreLeft l p → AreLeft (record l { has_failed = true }) p
      same Idle ok = tt
      same (Issued c rs ws) ok = ok
      same (InFlight c rs w ws) ok = ok

  -- A clean begins, or one of another block ends, or is issued.
  pub cleans_else : (v : Scene C) (l : Life C) (bytes : ℕ → ℕ → ℕ) (clean_states : ℕ → CleanState) → bytes b ≡ v.bytes b
      → (clean_states b ≢ CleanIdle → v.clean_states b ≢ CleanIdle) → ((ok : Bool) → clean_states b ≡ CleanDone ok → v.clean_states b ≡ CleanDone ok)
      → IsLived v l → IsLived (record v { bytes = bytes; clean_states = clean_states }) l
  cleans_else v l bytes clean_states same dirty done k = record {
    rests = k.rests;
    dirty = λ e. k.dirty (dirty e);
    idle = k.idle;
    none = k.none;
    done = λ ok e. k.done ok (done ok e);
    gone = k.gone;
    clean = k.clean;
    owned = k.owned;
    began = k.began;
    stays = λ h e o bare. ap (λ (x : ℕ → ℕ). x o) same ∙ k.stays h e o bare;
    zeros = λ h e o lt bare. ap (λ (x : ℕ → ℕ). x o) same ∙ k.zeros h e o lt bare;
    log = k.log;
    left = k.left;
    mine = k.mine;
  }
