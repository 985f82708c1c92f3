-- Reclaims and destroys keep what is true of the life of a block.
use Rattle.std.proofs.Common.{◌≡◌, ◌≢◌, ℕ, zero, suc, ◌==◌, nat_lt, Bool, true, false, if◌then◌else◌, Option, Some, None, List, [], ◌∷◌, ◌++◌, ◌⊎◌, inl, inr, refl, sym, ap, subst, ◌∙◌, ◌<◌, arith}
use Rattle.std.proofs.lemmas.Bool.{eqb-true}
use Rattle.foyer_format_layout.specs.Position.{Sizes}
use Rattle.foyer_core_model.specs.Access.{CleanIdle, CleanIssued, CleanDone}
use Rattle.foyer_core_model.specs.Destroy.{vacated, first_fault, after_clean}
use Rattle.foyer_core_model.specs.Flush.{is_cleaning}
use Rattle.foyer_core_model.specs.Ids.{ids, is_id_in, without_id}
use Rattle.foyer_core_model.specs.InTurn.{IsAt, AwaitsClean}
use Rattle.foyer_core_model.specs.Kind.{Kind}
use Rattle.foyer_core_model.specs.Numbers.{put}
use Rattle.foyer_core_model.specs.Position.{Position}
use Rattle.foyer_core_model.specs.Rules.{Rules, first_position, sizes_of}
use Rattle.foyer_core_model.specs.State.{BlockSet, Clean, Writes, Evictable, Reclaims, ToClean, Reclaim, Destroy, NoDestroy, Begun, Cleaning}
use Rattle.foyer_core_model.specs.World.{is_none}
use Rattle.foyer_core_model.proofs.Basics.{put_at, put_one, put_same, put_other}
use Rattle.foyer_core_model.proofs.Ids.{in_cases, same_in, later_in, in_front, in_last}
use Rattle.foyer_core_model.proofs.Invariant.{blocks_in, goes_on_in, start_of}
use Rattle.foyer_core_restart.specs.Entries.{filled_to}
use Rattle.foyer_core_restart.proofs.Issued.{same_or}
use Rattle.foyer_core_restart.proofs.Mild.{RestAt}
use Rattle.foyer_core_restart.proofs.Safe.{RestOk}
use Rattle.foyer_core_returns.specs.Lives.{Life, cleaned_life}
use Rattle.foyer_core_returns.proofs.LifeWrites.{IsFilledBy}
use Rattle.foyer_core_returns.proofs.Lived.{IsEndOf, IsFaulty, Scene, IsClear, IsLived}

pub still_in : (d x : ℕ) (ys : List ℕ) → (d ≡ x → ⊥) → is_id_in d ys ≡ true → is_id_in d (without_id x ys) ≡ true
still_in d x [] ne is = is
still_in d x (y ∷ ys) ne is = go (x == y) refl (still_in d x ys ne)
  where
    go : (t : Bool) → (x == y) ≡ t → (is_id_in d ys ≡ true → is_id_in d (without_id x ys) ≡ true) → is_id_in d (if t then without_id x ys else y ∷ without_id x ys) ≡ true
    go true e rec = elim (in_cases d y ys is) [ inl at ↦ absurd (ne (at ∙ sym (eqb-true x y e))) | inr there ↦ rec there ]
    go false e rec = elim (in_cases d y ys is) [
      | inl at ↦ subst (λ k. is_id_in d (k ∷ without_id x ys) ≡ true) at (same_in d (without_id x ys))
      | inr there ↦ later_in d y (without_id x ys) (rec there)
    ]

after_awaits : (c : ℕ) (left : List ℕ) (failed : Option Kind) → is_id_in c left ≡ true → AwaitsClean c (after_clean left failed)
after_awaits c [] failed a = absurd (let e : false ≡ true = a in cc)
after_awaits c (b ∷ bs) failed a = a

pub was_cleaning : (left : List ℕ) (failed : Option Kind) (d : Destroy) → d ≡ Cleaning left failed → is_cleaning d ≡ true
was_cleaning left failed d e = ap is_cleaning e

was_clean : (p : BlockSet) → vacated p ≡ Clean → p ≡ Clean
was_clean Clean e = refl
was_clean (Writes f) e = absurd (let z : Evictable ≡ Clean = e in cc)
was_clean Evictable e = absurd (let z : Evictable ≡ Clean = e in cc)
was_clean Reclaims e = e

none_writes : (p : BlockSet) (f : ℕ) → vacated p ≡ Writes f → ⊥
none_writes Clean f e = let z : Clean ≡ Writes f = e in cc
none_writes (Writes g) f e = let z : Evictable ≡ Writes f = e in cc
none_writes Evictable f e = let z : Evictable ≡ Writes f = e in cc
none_writes Reclaims f e = let z : Reclaims ≡ Writes f = e in cc

-- a fault stays

faulty_now : (m : List ℕ) (failed fault : Option Kind) → is_cleaning (after_clean m (first_fault failed fault)) ≡ true → is_none fault ≡ false → IsFaulty (after_clean m (first_fault failed fault))
faulty_now [] failed fault e f = absurd (let z : false ≡ true = e in cc)
faulty_now (y ∷ ys) (Some kind) fault e f = tt
faulty_now (y ∷ ys) None (Some kind) e f = tt
faulty_now (y ∷ ys) None None e f = absurd (let z : true ≡ false = f in cc)

faulty_still : (m left : List ℕ) (failed fault : Option Kind) → is_cleaning (after_clean m (first_fault failed fault)) ≡ true → IsFaulty (Cleaning left failed) → IsFaulty (after_clean m (first_fault failed fault))
faulty_still [] left failed fault e f = absurd (let z : false ≡ true = e in cc)
faulty_still (y ∷ ys) left (Some kind) fault e f = tt
faulty_still (y ∷ ys) left None fault e f = absurd f

-- each block has its id
id_below : (n b : ℕ) → b < n → is_id_in b (ids n) ≡ true
id_below zero b lt = absurd (omega arith)
id_below (suc n) b lt = elim (same_or b n) [
  | inl at ↦ subst (λ k. is_id_in k (ids n ++ n ∷ []) ≡ true) (sym at) (in_last n (ids n))
  | inr other ↦ in_front b (ids n) (n ∷ []) (id_below n b (omega (arith, lt, other)))
]

module _ (A : Type 0) {C : Type 0} (rules : Rules C) (b : ℕ) (B : ℕ → ℕ) (Empty : Type 0) where
  abbrev s : Sizes
  s = sizes_of rules

  abbrev Lived : Scene C → Life C → Type 0
  Lived = IsLived A rules b B Empty

  clear_of : (ok : Bool) (l : Life C) → IsEndOf ok l → IsClear A rules b B Empty l
  clear_of true l ended = inl (ap (λ (x : Life C). x.is_cleaned) ended)
  clear_of false l ended = inr (inr ended)

  start_far : (old new : ℕ → Position) (own : Option ℕ) (goes : Bool) → ((d : ℕ) → own ≡ Some d → new d ≡ old d) → start_of rules new own goes ≡ start_of rules old own goes
  start_far old new None goes far = refl
  start_far old new (Some d) false far = refl
  start_far old new (Some d) true far = far d refl

  -- a reclaim begins
  pub picked : (v : Scene C) (l : Life C) (c : ℕ) (r : Reclaim) → v.place c ≡ Evictable → is_cleaning v.destroy ≡ false → ((q : Reclaim) → v.reclaims b ≡ Some q → v.place b ≡ Reclaims) → Lived v l
      → Lived (record v { place = put v.place c Reclaims; reclaims = put v.reclaims c (Some r) }) l
  picked v l c r evictable quiet placed k = record {
    rests = k.rests;
    dirty = λ e. elim (k.dirty e) [
      | inl soon ↦ inl (put_at (λ x. IsAt ToClean x) v.reclaims c (Some r) b (λ at. absurd (alive at (v.reclaims b) refl soon)) (λ _. soon))
      | inr awaits ↦ inr awaits
    ];
    idle = k.idle;
    none = λ e. absurd (let x : false ≡ true = sym quiet ∙ e in cc);
    done = k.done;
    gone = λ lt e. absurd (let x : false ≡ true = sym quiet ∙ e in cc);
    clean = put_at (λ x. x ≡ Clean → IsClear A rules b B Empty l) v.place c Reclaims b (λ _ e. absurd (let z : Reclaims ≡ Clean = e in cc)) (λ _. k.clean);
    owned = λ f. put_at (λ x. x ≡ Writes f → IsClear A rules b B Empty l) v.place c Reclaims b (λ _ e. absurd (let z : Reclaims ≡ Writes f = e in cc)) (λ _. k.owned f);
    began = k.began;
    stays = k.stays;
    zeros = k.zeros;
    log = k.log;
    left = k.left;
    mine = k.mine;
  }
    where
      alive : b ≡ c → (q : Option Reclaim) → v.reclaims b ≡ q → IsAt ToClean q → ⊥
      alive at None is soon = absurd soon
      alive at (Some q) is soon = let x : Evictable ≡ Reclaims = sym evictable ∙ ap v.place (sym at) ∙ placed q is in cc

  -- it goes on
  pub reread : (v : Scene C) (l : Life C) (c : ℕ) (r next : Reclaim) → v.reclaims c ≡ Some r → (r.stage ≡ ToClean → ⊥) → Lived v l
      → Lived (record v { reclaims = put v.reclaims c (Some next) }) l
  reread v l c r next is not k = record {
    rests = k.rests;
    dirty = λ e. elim (k.dirty e) [
      | inl soon ↦ inl (put_at (λ x. IsAt ToClean x) v.reclaims c (Some next) b (λ at. absurd (not (subst (IsAt ToClean) (ap v.reclaims at ∙ is) soon))) (λ _. soon))
      | inr awaits ↦ inr awaits
    ];
    idle = k.idle;
    none = λ e. absurd (let x : None ≡ Some r = sym (k.none e c) ∙ is in cc);
    done = k.done;
    gone = k.gone;
    clean = k.clean;
    owned = k.owned;
    began = k.began;
    stays = k.stays;
    zeros = k.zeros;
    log = k.log;
    left = k.left;
    mine = k.mine;
  }

  -- it asks for the clean of its block
  pub forgot : (v : Scene C) (l : Life C) (c : ℕ) (r next : Reclaim) → v.reclaims c ≡ Some r → next.stage ≡ ToClean → Lived v l
      → Lived (record v { reclaims = put v.reclaims c (Some next); clean_states = put v.clean_states c CleanIssued }) l
  forgot v l c r next is soon k = record {
    rests = k.rests;
    dirty = λ e. elim (same_or b c) [
      | inl at ↦ inl (subst (λ x. IsAt ToClean x) (sym (ap (put v.reclaims c (Some next)) at ∙ put_same v.reclaims c (Some next))) soon)
      | inr other ↦ elim (k.dirty (λ x. e (put_other v.clean_states c CleanIssued b other ∙ x))) [
        | inl soon ↦ inl (subst (λ x. IsAt ToClean x) (sym (put_other v.reclaims c (Some next) b other)) soon)
        | inr awaits ↦ inr awaits
      ]
    ];
    idle = k.idle;
    none = λ e. absurd (let x : None ≡ Some r = sym (k.none e c) ∙ is in cc);
    done = λ ok. put_at (λ x. x ≡ CleanDone ok → IsEndOf ok l) v.clean_states c CleanIssued b (λ _ e. absurd (let z : CleanIssued ≡ CleanDone ok = e in cc)) (λ _. k.done ok);
    gone = k.gone;
    clean = k.clean;
    owned = k.owned;
    began = k.began;
    stays = k.stays;
    zeros = k.zeros;
    log = k.log;
    left = k.left;
    mine = k.mine;
  }

  -- what both ends of a reclaim have in common
  dirty_ended : (v : Scene C) (l : Life C) (c : ℕ) → Lived v l → put v.clean_states c CleanIdle b ≢ CleanIdle → IsAt ToClean (put v.reclaims c None b) ⊎ AwaitsClean b v.destroy
  dirty_ended v l c k e = elim (same_or b c) [
    | inl at ↦ absurd (e (ap (put v.clean_states c CleanIdle) at ∙ put_same v.clean_states c CleanIdle))
    | inr other ↦ elim (k.dirty (λ x. e (put_other v.clean_states c CleanIdle b other ∙ x))) [
      | inl soon ↦ inl (subst (λ x. IsAt ToClean x) (sym (put_other v.reclaims c None b other)) soon)
      | inr awaits ↦ inr awaits
    ]
  ]

  done_ended : (v : Scene C) (l : Life C) (c : ℕ) → Lived v l → (ok : Bool) → put v.clean_states c CleanIdle b ≡ CleanDone ok → IsEndOf ok l
  done_ended v l c k ok = put_at (λ x. x ≡ CleanDone ok → IsEndOf ok l) v.clean_states c CleanIdle b (λ _ e. absurd (let z : CleanIdle ≡ CleanDone ok = e in cc)) (λ _. k.done ok)

  -- a cleaned block is handed out
  pub handed : (v : Scene C) (l : Life C) (c f : ℕ) (r : Reclaim) (ok : Bool) (filled : ℕ → Position) → v.reclaims c ≡ Some r → v.place c ≡ Reclaims → v.clean_states c ≡ CleanDone ok
      → ((q d : ℕ) → (v.flushers q).own ≡ Some d → v.place d ≡ Writes q) → ((d : ℕ) → (d ≡ c → ⊥) → filled d ≡ v.filled d) → Lived v l
      → Lived (record v {
        place = put v.place c (Writes f);
        reclaims = put v.reclaims c None;
        flushers = put v.flushers f (record (v.flushers f) { ready = Some c });
        filled = filled;
        clean_states = put v.clean_states c CleanIdle;
      }) l
  handed v l c f r ok filled is at_c came owner far k = record {
    rests = put_one (λ q flusher. RestAt A rules filled flusher) v.flushers f (record (v.flushers f) { ready = Some c }) (rest f) (λ q _. rest q);
    dirty = dirty_ended v l c k;
    idle = λ e. absurd (quiet e);
    none = λ e. absurd (quiet e);
    done = done_ended v l c k;
    gone = λ lt e. absurd (quiet e);
    clean = put_at (λ x. x ≡ Clean → IsClear A rules b B Empty l) v.place c (Writes f) b (λ _ e. absurd (let z : Writes f ≡ Clean = e in cc)) (λ _. k.clean);
    owned = λ q. put_at (λ x. x ≡ Writes q → IsClear A rules b B Empty l) v.place c (Writes f) b (λ at e. clear_of ok l (k.done ok (ap v.clean_states at ∙ came))) (λ _. k.owned q);
    began = k.began;
    stays = k.stays;
    zeros = k.zeros;
    log = k.log;
    left = k.left;
    mine = put_one (λ q flusher. flusher.own ≡ Some b → IsFilledBy s l.records (filled_to (filled b))) v.flushers f (record (v.flushers f) { ready = Some c }) (mine f) (λ q _. mine q);
  }
    where
      quiet : is_cleaning v.destroy ≡ true → ⊥
      quiet e = let x : None ≡ Some r = sym (k.none e c) ∙ is in cc

      apart : (q d : ℕ) → (v.flushers q).own ≡ Some d → d ≡ c → ⊥
      apart q d owns at = let x : Reclaims ≡ Writes q = sym at_c ∙ ap v.place (sym at) ∙ owner q d owns in cc

      rest : (q : ℕ) → RestAt A rules filled (v.flushers q)
      rest q = subst (λ g. RestOk A s (filled_to g) (blocks_in (v.flushers q).batch))
          (sym (start_far v.filled filled (v.flushers q).own (goes_on_in (v.flushers q).batch) (λ d owns. far d (apart q d owns)))) (k.rests q)

      mine : (q : ℕ) → (v.flushers q).own ≡ Some b → IsFilledBy s l.records (filled_to (filled b))
      mine q owns = subst (λ g. IsFilledBy s l.records (filled_to g)) (sym (far b (apart q b owns))) (k.mine q owns)

  -- or it is clean
  pub cleaned : (v : Scene C) (l : Life C) (c : ℕ) (r : Reclaim) (ok : Bool) → v.reclaims c ≡ Some r → v.clean_states c ≡ CleanDone ok → Lived v l
      → Lived (record v { place = put v.place c Clean; reclaims = put v.reclaims c None; clean_states = put v.clean_states c CleanIdle }) l
  cleaned v l c r ok is came k = record {
    rests = k.rests;
    dirty = dirty_ended v l c k;
    idle = k.idle;
    none = λ e. absurd (let x : None ≡ Some r = sym (k.none e c) ∙ is in cc);
    done = done_ended v l c k;
    gone = λ lt e. absurd (let x : None ≡ Some r = sym (k.none e c) ∙ is in cc);
    clean = put_at (λ x. x ≡ Clean → IsClear A rules b B Empty l) v.place c Clean b (λ at e. clear_of ok l (k.done ok (ap v.clean_states at ∙ came))) (λ _. k.clean);
    owned = λ q. put_at (λ x. x ≡ Writes q → IsClear A rules b B Empty l) v.place c Clean b (λ _ e. absurd (let z : Clean ≡ Writes q = e in cc)) (λ _. k.owned q);
    began = k.began;
    stays = k.stays;
    zeros = k.zeros;
    log = k.log;
    left = k.left;
    mine = k.mine;
  }

  -- a destroy begins
  pub destroying : (v : Scene C) (l : Life C) → v.destroy ≡ NoDestroy → Lived v l → Lived (record v { destroy = Begun }) l
  destroying v l is k = record {
    rests = k.rests;
    dirty = λ e. elim (k.dirty e) [ inl at ↦ inl at | inr awaits ↦ absurd (subst (AwaitsClean b) is awaits) ];
    idle = λ e. absurd (let x : false ≡ true = e in cc);
    none = λ e. absurd (let x : false ≡ true = e in cc);
    done = k.done;
    gone = λ lt e. absurd (let x : false ≡ true = e in cc);
    clean = k.clean;
    owned = k.owned;
    began = k.began;
    stays = k.stays;
    zeros = k.zeros;
    log = k.log;
    left = k.left;
    mine = k.mine;
  }

  -- the blocks are taken from the flushers, and are to be cleaned
  pub cleared : (v : Scene C) (l : Life C) → v.destroy ≡ Begun → ((f : ℕ) → (v.flushers f).batch ≡ None) → ((c : ℕ) → v.reclaims c ≡ None) → Lived v l
      → Lived (record v {
        place = λ c. vacated (v.place c);
        flushers = λ f. record (v.flushers f) { own = None; ready = None; context = first_position rules };
        destroy = Cleaning (ids rules.blocks) None;
        clean_states = λ c. if is_id_in c (ids rules.blocks) then CleanIssued else v.clean_states c;
        filled = λ c. if nat_lt c rules.blocks then first_position rules else v.filled c;
      }) l
  cleared v l begun idle unread k = record {
    rests = λ f. subst (λ q. RestOk A s (filled_to (start_of rules (λ c. if nat_lt c rules.blocks then first_position rules else v.filled c) None (goes_on_in q))) (blocks_in q)) (sym (idle f)) tt;
    dirty = dirt (is_id_in b (ids rules.blocks)) refl;
    idle = λ _ f. (refl, refl);
    none = λ _. unread;
    done = λ ok. ends ok (is_id_in b (ids rules.blocks));
    gone = λ lt e. inl (id_below rules.blocks b lt);
    clean = λ e. k.clean (was_clean (v.place b) e);
    owned = λ f e. absurd (none_writes (v.place b) f e);
    began = k.began;
    stays = k.stays;
    zeros = k.zeros;
    log = k.log;
    left = k.left;
    mine = λ f e. absurd (let x : None ≡ Some b = e in cc);
  }
    where
      dirt : (t : Bool) → is_id_in b (ids rules.blocks) ≡ t → (if t then CleanIssued else v.clean_states b) ≢ CleanIdle → IsAt ToClean (v.reclaims b) ⊎ (is_id_in b (ids rules.blocks) ≡ true)
      dirt true is e = inr is
      dirt false is e = absurd (elim (k.dirty e) [ inl soon ↦ subst (IsAt ToClean) (unread b) soon | inr awaits ↦ subst (AwaitsClean b) begun awaits ])

      ends : (ok t : Bool) → (if t then CleanIssued else v.clean_states b) ≡ CleanDone ok → IsEndOf ok l
      ends ok true e = absurd (let z : CleanIssued ≡ CleanDone ok = e in cc)
      ends ok false e = k.done ok e

  -- a destroy has cleaned a block
  pub destroyed : (v : Scene C) (l : Life C) (c : ℕ) (left : List ℕ) (failed fault : Option Kind) → v.destroy ≡ Cleaning left failed → v.clean_states c ≡ CleanDone (is_none fault) → Lived v l
      → Lived (record v { destroy = after_clean (without_id c left) (first_fault failed fault); clean_states = put v.clean_states c CleanIdle }) l
  destroyed v l c left failed fault is came k = record {
    rests = k.rests;
    dirty = λ e. elim (same_or b c) [
      | inl at ↦ absurd (e (ap (put v.clean_states c CleanIdle) at ∙ put_same v.clean_states c CleanIdle))
      | inr other ↦ elim (k.dirty (λ x. e (put_other v.clean_states c CleanIdle b other ∙ x))) [
        | inl soon ↦ inl soon
        | inr awaits ↦ inr (after_awaits b (without_id c left) (first_fault failed fault) (still_in b c left other (subst (AwaitsClean b) is awaits)))
      ]
    ];
    idle = λ _. k.idle (was_cleaning left failed v.destroy is);
    none = λ _. k.none (was_cleaning left failed v.destroy is);
    done = done_ended v l c k;
    gone = λ lt e. elim (same_or b c) [
      | inl at ↦ inr (now (is_none fault) refl (k.done (is_none fault) (ap v.clean_states at ∙ came)) e)
      | inr other ↦ elim (k.gone lt (was_cleaning left failed v.destroy is)) [
        | inl awaits ↦ inl (after_awaits b (without_id c left) (first_fault failed fault) (still_in b c left other (subst (AwaitsClean b) is awaits)))
        | inr (inl cleaned) ↦ inr (inl cleaned)
        | inr (inr faulty) ↦ inr (inr (faulty_still (without_id c left) left failed fault e (subst IsFaulty is faulty)))
      ]
    ];
    clean = k.clean;
    owned = k.owned;
    began = k.began;
    stays = k.stays;
    zeros = k.zeros;
    log = k.log;
    left = k.left;
    mine = k.mine;
  }
    where
      now : (ok : Bool) → is_none fault ≡ ok → IsEndOf ok l → is_cleaning (after_clean (without_id c left) (first_fault failed fault)) ≡ true
          → (l ≡ cleaned_life) ⊎ IsFaulty (after_clean (without_id c left) (first_fault failed fault))
      now true is ended e = inl ended
      now false is ended e = inr (faulty_now (without_id c left) failed fault e is)
