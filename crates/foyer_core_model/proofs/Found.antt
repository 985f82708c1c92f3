-- What keeps the newest records findable.
use Rattle.std.proofs.Common.{◌≡◌, ℕ, ◌≤◌, ◌==◌, nat_le, Bool, true, false, ◌&&◌, if◌then◌else◌, List, [], ◌∷◌, map, Option, Some, None, refl, sym, ap, subst, ◌∙◌, arith}
use Rattle.std.proofs.lemmas.Bool.{eqb-true, eqb-false}
use Rattle.std.proofs.lemmas.Bool.Decides.{nat_tests}
use Rattle.foyer_core_model.specs.Numbers.{put}
use Rattle.foyer_core_model.specs.Record.{Address, Slot, Indexed, Mark, Outcome, NoRecord, Holds, Source, Given, Reread, Record}
use Rattle.foyer_core_model.specs.State.{BlockSet, Clean, Reclaims}
use Rattle.foyer_core_model.specs.Rules.{Rules, flusher_of}
use Rattle.foyer_core_model.specs.Index.{is_same, holds, inserted, without, forgotten, without_mark, unmarked}
use Rattle.foyer_core_model.specs.Commit.{address_of, taken_in, is_put, committed_one, commit_of}
use Rattle.foyer_core_model.specs.Event.{Event, Put, Deletion, sequence_in, newest, outcome_in}
use Rattle.foyer_core_model.specs.Kept.{with_kept, unless}
use Rattle.foyer_core_model.specs.Access.{BlockWrites}
use Rattle.foyer_core_model.proofs.Basics.{put_at, put_same, put_other, Ascends}
use Rattle.foyer_format_layout.specs.Each.{Each}
use Rattle.foyer_core_model.proofs.Invariant.{Ground, IsGood, put_in, puts_onto, SlotOk, sequences, SourceOk, RecordOk}
use Rattle.foyer_core_model.proofs.CommitSteps.{committed, noted_one, noted, newest_kept, newest_del, newest_del_other, Brings, other_newest, all_bring, put_next, commits}
use Rattle.foyer_core_model.proofs.LoadSteps.{MarkEnters}
use Rattle.foyer_core_model.proofs.Rereads.{AllHere}

-- record by record, as the index and the history

abbrev pub kept_one : {C : Type 0} → ℕ → Record C → Source C → Option Slot → (ℕ → Option ℕ) → ℕ → Option ℕ
kept_one b r (Given c) slot kept = put kept r.hash (Some b)
kept_one b r (Reread over) slot kept = if holds over slot then put kept r.hash (Some b) else kept

abbrev pub all_kept : {C : Type 0} → ℕ → ℕ → List (ℕ × Record C) → (ℕ → Option Slot) → (ℕ → Option ℕ) → ℕ → Option ℕ
all_kept b n [] m kept = kept
all_kept b n (p ∷ ps) m kept = all_kept b n ps (committed_one b n p m) (kept_one b p.1 (p.1).source (m (p.1).hash) kept)

pub kept_is : {C : Type 0} (b n : ℕ) (ps : List (ℕ × Record C)) (m : ℕ → Option Slot) (kept : ℕ → Option ℕ) → with_kept b (commit_of b n ps m).puts kept ≡ all_kept b n ps m kept
kept_is b n [] m kept = refl
kept_is {C} b n (p ∷ ps) m kept =
    one (p.1).source (m (p.1).hash) ∙ kept_is b n ps (committed_one b n p m) (kept_one b p.1 (p.1).source (m (p.1).hash) kept)
  where
    rest : List (Record C)
    rest = (commit_of b n ps (committed_one b n p m)).puts

    again : (t : Bool) → with_kept b (if t then p.1 ∷ rest else rest) kept ≡ with_kept b rest (if t then put kept (p.1).hash (Some b) else kept)
    again true = refl
    again false = refl

    one : (src : Source C) (slot : Option Slot) → with_kept b (if is_put src slot then p.1 ∷ rest else rest) kept ≡ with_kept b rest (kept_one b p.1 src slot kept)
    one (Given c) slot = refl
    one (Reread a) slot = again (holds a slot)

-- the newest record of a hash, if its block is kept, is indexed in that block and in the block's present filling
abbrev pub Found : {C : Type 0} → List (Event C) → (ℕ → ℕ) → ℕ → Option ℕ → Option Slot → Type 0
Found {C} H filling h kept slot =
    (b s : ℕ) (x : Outcome C) → kept ≡ Some b → newest h H ≡ Some (Put h s x) → (x ≡ NoRecord → ⊥)
    → (a : Address) × (slot ≡ Some (Indexed a)) × (a.block ≡ b) × (a.filling ≡ filling b)

pub record IsKept {C : Type 0} (index : ℕ → Option Slot) (H : List (Event C)) (kept : ℕ → Option ℕ) (filling : ℕ → ℕ) (place : ℕ → BlockSet) : Type 0 where
  pub found : (h : ℕ) → Found H filling h (kept h) (index h)
  pub safe : (h b : ℕ) → kept h ≡ Some b → (place b ≡ Clean → ⊥) × (place b ≡ Reclaims → ⊥)

module _ {C : Type 0} (rules : Rules C) where
  -- a delete
  pub kept_deleted : (index : ℕ → Option Slot) (H : List (Event C)) (kept : ℕ → Option ℕ) (filling : ℕ → ℕ) (place : ℕ → BlockSet) (h s : ℕ)
      → sequence_in (newest h H) ≤ s → IsKept index H kept filling place → IsKept (put index h (Some (Mark s))) (Deletion h s ∷ H) kept filling place
  kept_deleted index H kept filling place h s le ok =
      record {
        found = λ k. put_at (λ slot. Found (Deletion h s ∷ H) filling k (kept k) slot) index h (Some (Mark s)) k
            (λ at b t x is new. absurd (let e : newest k (Deletion h s ∷ H) ≡ Some (Deletion k s) = subst (λ q. newest q (Deletion h s ∷ H) ≡ Some (Deletion q s)) (sym at) (newest_del h s H le) in
            let f : Some (Deletion k s) ≡ Some (Put k t x) = sym e ∙ new in cc))
            (λ ne b t x is new. ok.found k b t x is (sym (newest_del_other h s H k (λ e. ne (sym e))) ∙ new));
        safe = ok.safe;
      }

  -- a mark enters
  pub kept_marked : (index index' : ℕ → Option Slot) (H H' : List (Event C)) (kept : ℕ → Option ℕ) (filling : ℕ → ℕ) (place : ℕ → BlockSet)
      → MarkEnters index index' H H' → IsKept index H kept filling place → IsKept index' H' kept filling place
  kept_marked index index' H H' kept filling place enters ok =
      record {
        found = λ h b s x is new some. let before : (newest h H ≡ Some (Put h s x)) × (index' h ≡ index h) = enters.puts h s x new in
            let f : (a : Address) × (index h ≡ Some (Indexed a)) × (a.block ≡ b) × (a.filling ≡ filling b) = ok.found h b s x is before.0 some in
            (f.0, before.1 ∙ f.1, f.2, f.3);
        safe = ok.safe;
      }

  -- the slot of a hash that isn't kept
  pub kept_put : (index : ℕ → Option Slot) (H : List (Event C)) (kept : ℕ → Option ℕ) (filling : ℕ → ℕ) (place : ℕ → BlockSet) (h : ℕ) (slot : Option Slot)
      → Found H filling h (kept h) slot → IsKept index H kept filling place → IsKept (put index h slot) H kept filling place
  kept_put index H kept filling place h slot here ok =
      record {
        found = λ k. put_at (λ v. Found H filling k (kept k) v) index h slot k (λ at. subst (λ q. Found H filling q (kept q) slot) (sym at) here) (λ _. ok.found k);
        safe = ok.safe;
      }

  -- marks leave
  pub unmarked_address : (marks : List (ℕ × ℕ)) (m : ℕ → Option Slot) (h : ℕ) (a : Address) → m h ≡ Some (Indexed a) → unmarked marks m h ≡ Some (Indexed a)
  unmarked_address [] m h a is = is
  unmarked_address (p ∷ ps) m h a is =
      unmarked_address ps (put m p.0 (without_mark p.1 (m p.0))) h a
      (put_at (λ v. v ≡ Some (Indexed a)) m p.0 (without_mark p.1 (m p.0)) h
      (λ at. ap (without_mark p.1) (ap m (sym at) ∙ is)) (λ _. is))

  pub kept_unmarked : (marks : List (ℕ × ℕ)) (index : ℕ → Option Slot) (H : List (Event C)) (kept : ℕ → Option ℕ) (filling : ℕ → ℕ) (place : ℕ → BlockSet)
      → IsKept index H kept filling place → IsKept (unmarked marks index) H kept filling place
  kept_unmarked marks index H kept filling place ok =
      record {
        found = λ h b s x is new some. let f : (a : Address) × (index h ≡ Some (Indexed a)) × (a.block ≡ b) × (a.filling ≡ filling b) = ok.found h b s x is new some in
            (f.0, unmarked_address marks index h f.0 f.1, f.2, f.3);
        safe = ok.safe;
      }

  -- addresses of another block leave
  other_block : (p a : Address) → (p.block ≡ a.block → ⊥) → is_same p a ≡ false
  other_block p a ne = go (p.block == a.block) refl
    where
      go : (t : Bool) → (p.block == a.block) ≡ t → (t && (p.offset == a.offset) && (p.len == a.len) && (p.sequence == a.sequence) && (p.filling == a.filling)) ≡ false
      go true e = absurd (ne (eqb-true p.block a.block e))
      go false e = refl

  pub forgotten_address : (b : ℕ) (listed : List (ℕ × Address)) (m : ℕ → Option Slot) (h n : ℕ) (a : Address) → AllHere b n listed → (a.block ≡ b → ⊥)
      → m h ≡ Some (Indexed a) → forgotten listed m h ≡ Some (Indexed a)
  forgotten_address b [] m h n a all far is = is
  forgotten_address b (p ∷ ps) m h n a all far is =
      forgotten_address b ps (put m p.0 (without p.1 (m p.0))) h n a all.1 far
      (put_at (λ v. v ≡ Some (Indexed a)) m p.0 (without p.1 (m p.0)) h
      (λ at. ap (without p.1) (ap m (sym at) ∙ is) ∙ ap (λ (t : Bool). if t then None else Some (Indexed a)) (other_block p.1 a (λ e. far (sym e ∙ (all.0).0)))) (λ _. is))

  pub kept_forgotten : (b : ℕ) (listed : List (ℕ × Address)) (index : ℕ → Option Slot) (H : List (Event C)) (kept : ℕ → Option ℕ) (filling : ℕ → ℕ) (place : ℕ → BlockSet)
      → (n : ℕ) → AllHere b n listed → place b ≡ Reclaims → IsKept index H kept filling place → IsKept (forgotten listed index) H kept filling place
  kept_forgotten b listed index H kept filling place n all at ok =
      record {
        found = λ h c s x is new some. let f : (a : Address) × (index h ≡ Some (Indexed a)) × (a.block ≡ c) × (a.filling ≡ filling c) = ok.found h c s x is new some in
            (f.0, forgotten_address b listed index h n f.0 all (λ e. (ok.safe h c is).1 (subst (λ q. place q ≡ Reclaims) (sym e ∙ f.2) at)) f.1, f.2, f.3);
        safe = ok.safe;
      }

  -- a reclaim begins
  unless_some : (b c : ℕ) (kept : Option ℕ) → unless b kept ≡ Some c → (kept ≡ Some c) × (c ≡ b → ⊥)
  unless_some b c None e = absurd (let f : None ≡ Some c = e in cc)
  unless_some b c (Some d) given = go (d == b) refl given
    where
      go : (t : Bool) → (d == b) ≡ t → (if t then None else Some d) ≡ Some c → (Some d ≡ Some c) × (c ≡ b → ⊥)
      go true e f = absurd cc
      go false e f = (f, λ at. eqb-false d b e (let g : d ≡ c = cc in g ∙ at))

  pub kept_reclaimed : (b : ℕ) (index : ℕ → Option Slot) (H : List (Event C)) (kept : ℕ → Option ℕ) (filling : ℕ → ℕ) (place : ℕ → BlockSet)
      → IsKept index H kept filling place → IsKept index H (λ h. unless b (kept h)) filling (put place b Reclaims)
  kept_reclaimed b index H kept filling place ok =
      record {
        found = λ h c s x is new some. ok.found h c s x (unless_some b c (kept h) is).0 new some;
        safe = λ h c is. let u : (kept h ≡ Some c) × (c ≡ b → ⊥) = unless_some b c (kept h) is in
            put_at (λ p. (p ≡ Clean → ⊥) × (p ≡ Reclaims → ⊥)) place b Reclaims c (λ at. absurd (u.1 at)) (λ _. ok.safe h c u.0);
      }

  -- a block changes its set
  pub kept_placed : (index : ℕ → Option Slot) (H : List (Event C)) (kept : ℕ → Option ℕ) (filling : ℕ → ℕ) (place place' : ℕ → BlockSet)
      → ((h b : ℕ) → kept h ≡ Some b → (place b ≡ Clean → ⊥) → (place b ≡ Reclaims → ⊥) → (place' b ≡ Clean → ⊥) × (place' b ≡ Reclaims → ⊥))
      → IsKept index H kept filling place → IsKept index H kept filling place'
  kept_placed index H kept filling place place' move ok =
      record { found = ok.found; safe = λ h b is. let s : (place b ≡ Clean → ⊥) × (place b ≡ Reclaims → ⊥) = ok.safe h b is in move h b is s.0 s.1 }

  -- commits

  module _ (g : Ground) (block_writes : ℕ → BlockWrites) where
    enters_found : (H : List (Event C)) (r : Record C) (k : C) (line : List (ℕ × ℕ)) (slot : Option Slot) (a : Address) (c : ℕ) → a.sequence ≡ r.sequence → a.block ≡ c → a.filling ≡ g.filling c
        → SlotOk rules g block_writes H r.hash ((r.hash, r.sequence) ∷ line) slot
        → Found (Put r.hash r.sequence (Holds k) ∷ H) g.filling r.hash (Some c) (inserted slot (Indexed a))
    enters_found H r k line None a c e at_c fill ok = λ b s x is new some. (a, refl, at_c ∙ (let f : Some c ≡ Some b = is in cc), fill ∙ ap g.filling (let f : Some c ≡ Some b = is in cc))
    enters_found H r k line (Some (Indexed d)) a c e at_c fill ok = go (nat_le d.sequence a.sequence) refl
      where
        before : d.sequence ≤ r.sequence
        before = (ok.3).0 refl

        go : (t : Bool) → nat_le d.sequence a.sequence ≡ t → Found (Put r.hash r.sequence (Holds k) ∷ H) g.filling r.hash (Some c) (if t then Some (Indexed a) else Some (Indexed d))
        go true f = λ b s x is new some. (a, refl, at_c ∙ (let k : Some c ≡ Some b = is in cc), fill ∙ ap g.filling (let k : Some c ≡ Some b = is in cc))
        go false f = absurd (grind (arith, nat_tests, e, before))
    enters_found H r k line (Some (Mark d)) a c e at_c fill ok = go (nat_le d a.sequence) refl
      where
        at_d : sequence_in (newest r.hash H) ≡ d
        at_d = ap sequence_in ok

        go : (t : Bool) → nat_le d a.sequence ≡ t → Found (Put r.hash r.sequence (Holds k) ∷ H) g.filling r.hash (Some c) (if t then Some (Indexed a) else Some (Mark d))
        go true f = λ b s x is new some. (a, refl, at_c ∙ (let k : Some c ≡ Some b = is in cc), fill ∙ ap g.filling (let k : Some c ≡ Some b = is in cc))
        go false f = λ b s x is new some. absurd (let q : newest r.hash (Put r.hash r.sequence (Holds k) ∷ H) ≡ Some (Deletion r.hash d) = newest_kept r.hash r.sequence (Holds k) H (grind (arith, nat_tests, at_d, e)) ∙ ok in
            let j : Some (Deletion r.hash d) ≡ Some (Put r.hash s x) = sym q ∙ new in cc)

    again_found : (H : List (Event C)) (r : Record C) (over : Address) (slot : Option Slot) (kept : ℕ → Option ℕ) (a : Address) (b : ℕ) → a.block ≡ b → a.filling ≡ g.filling b
        → Found H g.filling r.hash (kept r.hash) slot
        → Found (noted_one r (Reread over) slot H) g.filling r.hash (kept_one b r (Reread over) slot kept r.hash) (taken_in {C = C} (Reread over) slot a)
    again_found H r over slot kept a b at_b fill found = go (holds over slot)
      where
        go : (t : Bool) → Found (if t then Put r.hash r.sequence (outcome_in (newest r.hash H)) ∷ H else H) g.filling r.hash ((if t then put kept r.hash (Some b) else kept) r.hash) (if t then Some (Indexed a) else slot)
        go false = found
        go true = λ c s x is new some. let e : b ≡ c = (let q : Some b ≡ Some c = sym (put_same kept r.hash (Some b)) ∙ is in cc) in (a, refl, at_b ∙ e, fill ∙ ap g.filling e)

    one_found : (H : List (Event C)) (r : Record C) (src : Source C) (line : List (ℕ × ℕ)) (slot : Option Slot) (kept : ℕ → Option ℕ) (a : Address) (b : ℕ) → a.sequence ≡ r.sequence → a.block ≡ b → a.filling ≡ g.filling b
        → SlotOk rules g block_writes H r.hash (put_in r.hash r.sequence src line) slot
        → Found H g.filling r.hash (kept r.hash) slot
        → Found (noted_one r src slot H) g.filling r.hash (kept_one b r src slot kept r.hash) (taken_in src slot a)
    one_found H r (Given c) line slot kept a b e at_b fill ok found =
        subst (λ k. Found (Put r.hash r.sequence (Holds c) ∷ H) g.filling r.hash k (inserted slot (Indexed a))) (sym (put_same kept r.hash (Some b))) (enters_found H r c line slot a b e at_b fill ok)
    one_found H r (Reread over) line slot kept a b e at_b fill ok found = again_found H r over slot kept a b at_b fill found

    other_kept : (b : ℕ) (r : Record C) (src : Source C) (slot : Option Slot) (kept : ℕ → Option ℕ) (h : ℕ) → (h ≡ r.hash → ⊥) → kept_one b r src slot kept h ≡ kept h
    other_kept b r (Given c) slot kept h ne = put_other kept r.hash (Some b) h ne
    other_kept b r (Reread over) slot kept h ne = go (holds over slot)
      where
        go : (t : Bool) → (if t then put kept r.hash (Some b) else kept) h ≡ kept h
        go true = put_other kept r.hash (Some b) h ne
        go false = refl

    other_found : (b : ℕ) (p : ℕ × Record C) (m : ℕ → Option Slot) (H : List (Event C)) (kept : ℕ → Option ℕ) (h : ℕ) → (h ≡ (p.1).hash → ⊥) → Found H g.filling h (kept h) (m h)
        → Found (noted_one p.1 (p.1).source (m (p.1).hash) H) g.filling h (kept_one b p.1 (p.1).source (m (p.1).hash) kept h) (committed_one b (g.filling b) p m h)
    other_found b p m H kept h ne found c s x is new some =
        let r : (a : Address) × (m h ≡ Some (Indexed a)) × (a.block ≡ c) × (a.filling ≡ g.filling c) =
        found c s x (sym (other_kept b p.1 (p.1).source (m (p.1).hash) kept h ne) ∙ is) (sym (other_newest rules g block_writes H p.1 (p.1).source (m (p.1).hash) h (λ e. ne (sym e))) ∙ new) some in
        (r.0, put_other m (p.1).hash (taken_in (p.1).source (m (p.1).hash) (address_of b (g.filling b) p)) h ne ∙ r.1, r.2, r.3)

    step_found : (b : ℕ) (p : ℕ × Record C) (m : ℕ → Option Slot) (H : List (Event C)) (kept : ℕ → Option ℕ) (h : ℕ) (here : h ≡ (p.1).hash →
        Found (noted_one p.1 (p.1).source (m (p.1).hash) H) g.filling (p.1).hash (kept_one b p.1 (p.1).source (m (p.1).hash) kept (p.1).hash) (taken_in (p.1).source (m (p.1).hash) (address_of b (g.filling b) p)))
        → Found H g.filling h (kept h) (m h)
        → Found (noted_one p.1 (p.1).source (m (p.1).hash) H) g.filling h (kept_one b p.1 (p.1).source (m (p.1).hash) kept h) (committed_one b (g.filling b) p m h)
    step_found b p m H kept h here found = go (h == (p.1).hash) refl
      where
        go : (t : Bool) → (h == (p.1).hash) ≡ t → Found (noted_one p.1 (p.1).source (m (p.1).hash) H) g.filling h (kept_one b p.1 (p.1).source (m (p.1).hash) kept h) (committed_one b (g.filling b) p m h)
        go true e = let at : h ≡ (p.1).hash = eqb-true h (p.1).hash e in
            subst (λ k. Found (noted_one p.1 (p.1).source (m (p.1).hash) H) g.filling k (kept_one b p.1 (p.1).source (m (p.1).hash) kept k) (committed_one b (g.filling b) p m k)) (sym at)
            (subst (λ slot. Found (noted_one p.1 (p.1).source (m (p.1).hash) H) g.filling (p.1).hash (kept_one b p.1 (p.1).source (m (p.1).hash) kept (p.1).hash) slot)
            (sym (put_same m (p.1).hash (taken_in (p.1).source (m (p.1).hash) (address_of b (g.filling b) p)))) (here at))
        go false e = other_found b p m H kept h (eqb-false h (p.1).hash e) found

    pub commits_found : (f b : ℕ) (ps : List (ℕ × Record C)) (m : ℕ → Option Slot) (H : List (Event C)) (kept : ℕ → Option ℕ) (h low high : ℕ) (rest : List (ℕ × ℕ))
        → Each (RecordOk rules f) (map (λ p. p.1) ps) → Each (Brings rules g block_writes b (g.filling b) m H) (map (λ p. p.1) ps)
        → Each (λ p. IsGood rules g block_writes (p.1).hash (address_of b (g.filling b) p) (rules.pair_of (p.1).bytes (p.1).hash (p.1).sequence)) ps
        → Ascends low (sequences (puts_onto (map (λ p. p.1) ps) rest)) high
        → SlotOk rules g block_writes H h (puts_onto (map (λ p. p.1) ps) rest) (m h)
        → Found H g.filling h (kept h) (m h)
        → Found (noted b (g.filling b) ps m H) g.filling h (all_kept b (g.filling b) ps m kept h) (committed b (g.filling b) ps m h)
    commits_found f b [] m H kept h low high rest routed brings good up ok found = found
    commits_found f b (p ∷ ps) m H kept h low high rest routed brings good up ok found =
        let next : (k : ℕ) × Ascends k (sequences line) high = put_next rules g block_writes low high (p.1).hash (p.1).sequence (p.1).source line up in
        commits_found f b ps (committed_one b (g.filling b) p m) (noted_one p.1 (p.1).source (m (p.1).hash) H) (kept_one b p.1 (p.1).source (m (p.1).hash) kept) h next.0 high rest
        routed.1 (all_bring rules g block_writes b (g.filling b) p m H (map (λ q. q.1) ps) brings.1) good.1 next.1
        (commits rules g block_writes f b (g.filling b) (p ∷ []) m H h low high line (routed.0, tt) (brings.0, tt) (good.0, tt) up ok)
        (step_found b p m H kept h
        (λ at. one_found H p.1 (p.1).source line (m (p.1).hash) kept (address_of b (g.filling b) p) b refl refl refl
        (subst (λ k. SlotOk rules g block_writes H k (put_in (p.1).hash (p.1).sequence (p.1).source line) (m k)) at ok) (subst (λ k. Found H g.filling k (kept k) (m k)) at found))
        found)
      where
        line : List (ℕ × ℕ)
        line = puts_onto (map (λ q. q.1) ps) rest

    foreign_found : (f : ℕ) (H : List (Event C)) (r : Record C) (src : Source C) (slot : Option Slot) (kept : ℕ → Option ℕ) (a : Address) (b : ℕ) → a.block ≡ b → a.filling ≡ g.filling b
        → SourceOk rules f r src → (flusher_of rules r.hash ≡ f → ⊥)
        → Found H g.filling r.hash (kept r.hash) slot
        → Found (noted_one r src slot H) g.filling r.hash (kept_one b r src slot kept r.hash) (taken_in src slot a)
    foreign_found f H r (Given c) slot kept a b at_b fill ok ne found = absurd (ne ok.0)
    foreign_found f H r (Reread over) slot kept a b at_b fill ok ne found = again_found H r over slot kept a b at_b fill found

    pub commits_found_other : (f b : ℕ) (ps : List (ℕ × Record C)) (m : ℕ → Option Slot) (H : List (Event C)) (kept : ℕ → Option ℕ) (h : ℕ)
        → Each (RecordOk rules f) (map (λ p. p.1) ps) → (flusher_of rules h ≡ f → ⊥)
        → Found H g.filling h (kept h) (m h)
        → Found (noted b (g.filling b) ps m H) g.filling h (all_kept b (g.filling b) ps m kept h) (committed b (g.filling b) ps m h)
    commits_found_other f b [] m H kept h routed ne found = found
    commits_found_other f b (p ∷ ps) m H kept h routed ne found =
        commits_found_other f b ps (committed_one b (g.filling b) p m) (noted_one p.1 (p.1).source (m (p.1).hash) H) (kept_one b p.1 (p.1).source (m (p.1).hash) kept) h routed.1 ne
        (step_found b p m H kept h
        (λ at. foreign_found f H p.1 (p.1).source (m (p.1).hash) kept (address_of b (g.filling b) p) b refl refl routed.0 (λ e. ne (ap (flusher_of rules) at ∙ e)) (subst (λ k. Found H g.filling k (kept k) (m k)) at found))
        found)
