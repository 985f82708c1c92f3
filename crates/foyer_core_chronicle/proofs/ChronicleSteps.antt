-- Each call keeps the invariant of the one history.
use Rattle.std.proofs.Common.{◌≡◌, ◌≢◌, ℕ, zero, suc, ◌+◌, ◌<◌, ◌≤◌, List, [], ◌∷◌, ◌++◌, set, Bool, true, false, refl, sym, ap, ◌∙◌, subst, ⊎_elim, arith, append-nil, append_assoc}
use mathlib.Core.Option.{some, some-ne-none, some-injective}
use lib.ListN.{get_elem?}
use Rattle.atomic_table.specs.Table.{State, Allows, Splits, Joins, keeps}
use Rattle.atomic_table.proofs.Lists.{at_set, at_snoc, set_else}
use Rattle.foyer_core_chronicle.specs.declared.View.{View}
use Rattle.foyer_core_chronicle.specs.Rights.{one, times, only, without, first_of, others_of, fresh, AreRights}
use Rattle.foyer_core_chronicle.specs.SharedHistory.{made, IsUntouched, Continues, Fits, rights_of, held, ChronicleInvariant, viewer, newcomer, joined, having, without_first, with_first, without_rights, with_rights, with_only, with_others, GoesOnBy, GoesOnWith, SeesAll, MayCome, HasRights}
use Rattle.foyer_core_chronicle.proofs.RightLemmas.{times_append, cut, cut_out, cut_free, cut_whole, fresh_count, fresh_none, fresh_there}

module _ {E : Type 0} where
  held_set : (k : ℕ) (views : List (View E)) (by : ℕ) (v w : View E) → get_elem? views by ≡ some v → held k (set views by w) + times k (rights_of v) ≡ held k views + times k (rights_of w)
  held_set k [] by v w at = absurd (some-ne-none v (sym at))
  held_set k (x ∷ xs) zero v w at = let t : times k (rights_of x) ≡ times k (rights_of v) = ap (λ (u : View E). times k (rights_of u)) (some-injective x v at) in omega arith
  held_set k (x ∷ xs) (suc by) v w at = let h : held k (set xs by w) + times k (rights_of v) ≡ held k xs + times k (rights_of w) = held_set k xs by v w at in omega arith

  held_snoc : (k : ℕ) (views : List (View E)) (w : View E) → held k (views ++ w ∷ []) ≡ held k views + times k (rights_of w)
  held_snoc k [] w = omega arith
  held_snoc k (x ∷ xs) w = let h : held k (xs ++ w ∷ []) ≡ held k xs + times k (rights_of w) = held_snoc k xs w in omega arith

  held_at : (k : ℕ) (views : List (View E)) (by : ℕ) (v : View E) → get_elem? views by ≡ some v → times k (rights_of v) ≤ held k views
  held_at k [] by v at = absurd (some-ne-none v (sym at))
  held_at k (x ∷ xs) zero v at = let t : times k (rights_of x) ≡ times k (rights_of v) = ap (λ (u : View E). times k (rights_of u)) (some-injective x v at) in omega arith
  held_at k (x ∷ xs) (suc by) v at = let h : times k (rights_of v) ≤ held k xs = held_at k xs by v at in omega arith

  -- two views hold no more than all
  both_held : (k : ℕ) (views : List (View E)) (i j : ℕ) (v w : View E) → j ≢ i → get_elem? views i ≡ some v → get_elem? views j ≡ some w → times k (rights_of v) + times k (rights_of w) ≤ held k views
  both_held k views i j v w apart at_i at_j =
      let s : held k (set views i (newcomer [])) + times k (rights_of v) ≡ held k views + 0 = held_set k views i v (newcomer []) at_i in
      let h : times k (rights_of w) ≤ held k (set views i (newcomer [])) = held_at k (set views i (newcomer [])) j w (set_else views i j (newcomer []) apart ∙ at_j) in
      omega arith

  made_more : (makes : E → Bool) (xs : List E) (e : E) → made makes (xs ++ e ∷ []) ≡ made makes xs + one (makes e)
  made_more makes [] e = omega arith
  made_more makes (x ∷ xs) e = let h : made makes (xs ++ e ∷ []) ≡ made makes xs + one (makes e) = made_more makes xs e in omega arith

  module _ (takes : E → ℕ → Bool) where
    untouched_more : (k : ℕ) (xs ys : List E) → IsUntouched takes k xs → IsUntouched takes k ys → IsUntouched takes k (xs ++ ys)
    untouched_more k [] ys a b = b
    untouched_more k (x ∷ xs) ys a b = (a.0, untouched_more k xs ys a.1 b)

    keeps_more : (log seen : List E) (has : List ℕ) (e : E) → Continues takes log seen has → ((k : ℕ) → 0 < times k has → takes e k ≡ false) → Continues takes (log ++ e ∷ []) seen has
    keeps_more log seen has e h free =
        (h.0 ++ e ∷ [], ap (λ l. l ++ e ∷ []) h.1 ∙ append_assoc seen h.0 (e ∷ []), λ k enough. untouched_more k h.0 (e ∷ []) (h.2 k enough) (free k enough, tt))

    keeps_fewer : (log seen : List E) (has fewer : List ℕ) → Continues takes log seen has → ((k : ℕ) → times k fewer ≤ times k has) → Continues takes log seen fewer
    keeps_fewer log seen has fewer h le = (h.0, h.1, λ k enough. h.2 k (let l = le k in omega arith))

    keeps_none : (log : List E) → Continues takes log [] []
    keeps_none log = (log, refl, λ k enough. absurd (omega arith))

    keeps_all : (log : List E) (has : List ℕ) → Continues takes log log has
    keeps_all log has = ([], sym (append-nil log), λ k enough. tt)

    fits_more : (log : List E) (e : E) (u : View E) → Fits takes log u → ((k : ℕ) → 0 < times k (rights_of u) → takes e k ≡ false) → Fits takes (log ++ e ∷ []) u
    fits_more log e u h free = (
      keeps_more log u.seen u.has e h.0 (λ k enough. free k (let a = times_append k u.joined_has u.has in omega arith)),
      keeps_more log u.joined_seen u.joined_has e h.1 (λ k enough. free k (let a = times_append k u.joined_has u.has in omega arith)),
    )

    fits_set : (log : List E) (views : List (View E)) (by : ℕ) (w : View E) → ((j : ℕ) (u : View E) → j ≢ by → get_elem? views j ≡ some u → Fits takes log u) → Fits takes log w
        → (j : ℕ) (u : View E) → get_elem? (set views by w) j ≡ some u → Fits takes log u
    fits_set log views by w others mine j u at =
        ⊎_elim
        (λ (x : (j ≡ by) × (w ≡ u)). subst (λ (y : View E). Fits takes log y) x.1 mine)
        (λ (x : (j ≢ by) × (get_elem? views j ≡ some u)). others j u x.0 x.1)
        (at_set views by j w u at)

  module _ (holds : List E → Type 0) (takes : E → ℕ → Bool) (makes : E → Bool) (base : ℕ) where
    -- what another view holds, an event by this one doesn't take
    not_taken : (views : List (View E)) (id j : ℕ) (v u : View E) (e : E) (k : ℕ) → held k views ≤ 1 → j ≢ id → get_elem? views id ≡ some v → get_elem? views j ≡ some u
        → HasRights takes v e → 0 < times k (rights_of u) → (b : Bool) → takes e k ≡ b → takes e k ≡ false
    not_taken views id j v u e k le apart at_id at_j has enough true is =
        let two : times k (rights_of v) + times k (rights_of u) ≤ held k views = both_held k views id j v u apart at_id at_j in
        let mine : 0 < times k (rights_of v) = has k is in absurd (omega arith)
    not_taken views id j v u e k le apart at_id at_j has enough false is = is

    pub adds_kept : (views : List (View E)) (id : ℕ) (v : View E) (e : E) → HasRights takes v e → MayCome holds takes v e → ChronicleInvariant holds takes makes base views → get_elem? views id ≡ some v
        → (w : View E) × ChronicleInvariant holds takes makes base (set views id w) × GoesOnBy holds takes makes base v e w
    adds_kept views id v e has come h at =
        let log = h.0 in
        let fits : Fits takes log v = h.4 id v at in
        let m : holds (log ++ e ∷ []) = come log h.1 fits in
        let n = base + made makes log in
        let w : View E = viewer (log ++ e ∷ []) (fresh n (makes e) ++ rights_of v) in
        let count : (k : ℕ) → held k (set views id w) ≡ held k views + times k (fresh n (makes e)) = (λ k.
        let a : held k (set views id w) + times k (rights_of v) ≡ held k views + times k (fresh n (makes e) ++ rights_of v) = held_set k views id v w at in
        let b : times k (fresh n (makes e) ++ rights_of v) ≡ times k (fresh n (makes e)) + times k (rights_of v) = times_append k (fresh n (makes e)) (rights_of v) in
        omega arith) in (
          w,
          (
            log ++ e ∷ [],
            m,
            (λ k. let c = count k in let f : held k views + times k (fresh n (makes e)) ≤ 1 = fresh_count n k (held k views) (makes e) (h.2 k) (h.3 k) in omega arith),
            (λ k far.
                let c = count k in
                let d : made makes (log ++ e ∷ []) ≡ made makes log + one (makes e) = made_more makes log e in
                let f : times k (fresh n (makes e)) ≡ 0 = fresh_none n k (makes e) (omega arith) in
                let z : held k views ≡ 0 = h.3 k (omega arith) in
                omega arith),
            fits_set takes (log ++ e ∷ []) views id w
                (λ j u apart at_j. fits_more takes log e u (h.4 j u at_j) (λ k enough. not_taken views id j v u e k (h.2 k) apart at at_j has enough (takes e k) refl))
                (keeps_all takes (log ++ e ∷ []) w.has, keeps_none takes (log ++ e ∷ [])),
          ),
          record { log = log; legal = h.1; fits = fits; goes_on = m; is = refl },
        )

    pub adds : (slots id i : ℕ) (me : View E × List (ℕ × E)) (f : ℕ → ℕ) (e : E) → HasRights takes me.0 e → MayCome holds takes me.0 e
        → Allows (λ (s : State E (View E)). ChronicleInvariant holds takes makes base s.views) slots id me i f (λ n new. (new.1 ≡ me.1) × ((x : E) → some e ≡ some x → GoesOnBy holds takes makes base me.0 x new.0))
    adds slots id i me f e has come s h sized at wide =
        let a = adds_kept s.views id me.0 e has come h at in
        (a.0, keeps, tt, a.1, (refl, λ x is. subst (λ (y : E). GoesOnBy holds takes makes base me.0 y a.0) (some-injective e x is) a.2))

    pub looks : (slots id i : ℕ) (me : View E × List (ℕ × E)) (f : ℕ → ℕ)
        → Allows (λ (s : State E (View E)). ChronicleInvariant holds takes makes base s.views) slots id me i f (λ n new. (new.1 ≡ me.1) × SeesAll holds takes me.0 new.0)
    looks slots id i me f s h sized at wide =
        let views = s.views in
        let v = me.0 in
        let w : View E = viewer h.0 (rights_of v) in
        let count : (k : ℕ) → held k (set views id w) ≡ held k views = (λ k.
        let a : held k (set views id w) + times k (rights_of v) ≡ held k views + times k (rights_of v) = held_set k views id v w at in omega arith) in (
          w,
          keeps,
          tt,
          (
            h.0,
            h.1,
            (λ k. let c = count k in let le = h.2 k in omega arith),
            (λ k far. count k ∙ h.3 k far),
            fits_set takes h.0 views id w (λ j u _ at_j. h.4 j u at_j) (keeps_all takes h.0 w.has, keeps_none takes h.0),
          ),
          (refl, record { log = h.0; legal = h.1; fits = h.4 id v at; is = refl }),
        )

    -- rights that go over from a view to another one
    parts_given : (id : ℕ) (v : View E) (kept given : List ℕ) → ((k : ℕ) → times k given + times k kept ≡ times k v.has)
        → Splits (λ (s : State E (View E)). ChronicleInvariant holds takes makes base s.views) id v (having kept v) (viewer v.seen given)
    parts_given id v kept given parts s h at =
        let views = s.views in
        let fits : Fits takes h.0 v = h.4 id v at in
        let count : (k : ℕ) → held k (set views id (having kept v) ++ viewer v.seen given ∷ []) ≡ held k views = (λ k.
        let a : held k (set views id (having kept v)) + times k (rights_of v) ≡ held k views + times k (v.joined_has ++ kept) = held_set k views id v (having kept v) at in
        let b : held k (set views id (having kept v) ++ viewer v.seen given ∷ []) ≡ held k (set views id (having kept v)) + times k given = held_snoc k (set views id (having kept v)) (viewer v.seen given) in
        let c : times k (v.joined_has ++ kept) ≡ times k v.joined_has + times k kept = times_append k v.joined_has kept in
        let d : times k (v.joined_has ++ v.has) ≡ times k v.joined_has + times k v.has = times_append k v.joined_has v.has in
        let x : times k given + times k kept ≡ times k v.has = parts k in
        omega arith) in (
          h.0,
          h.1,
          (λ k. let c = count k in let le = h.2 k in omega arith),
          (λ k far. count k ∙ h.3 k far),
          (λ j u at_j. ⊎_elim
              (λ was. fits_set takes h.0 views id (having kept v) (λ i x _ at_i. h.4 i x at_i) (keeps_fewer takes h.0 v.seen v.has kept fits.0 (λ k. let x = parts k in omega arith), fits.1) j u was)
              (λ (same : viewer v.seen given ≡ u). subst (λ (y : View E). Fits takes h.0 y) same (keeps_fewer takes h.0 v.seen v.has given fits.0 (λ k. let x = parts k in omega arith), keeps_none takes h.0))
              (at_snoc (set views id (having kept v)) (viewer v.seen given) u j at_j)),
        )

    pub gives : (id : ℕ) (v : View E) → Splits (λ (s : State E (View E)). ChronicleInvariant holds takes makes base s.views) id v (without_first v) (with_first v)
    gives id v = parts_given id v (others_of v.has) (first_of v.has) (λ k. cut k v.has)

    pub gives_all : (id : ℕ) (v : View E) → Splits (λ (s : State E (View E)). ChronicleInvariant holds takes makes base s.views) id v (without_rights v) (with_rights v)
    gives_all id v = parts_given id v [] v.has (λ k. omega arith)

    pub gives_others : (n id : ℕ) (v : View E) → Splits (λ (s : State E (View E)). ChronicleInvariant holds takes makes base s.views) id v (with_only n v) (with_others n v)
    gives_others n id v = parts_given id v (only n v.has) (without n v.has) (λ k. let x = cut_out n k v.has in omega arith)

    -- an event of two views
    pub went_on : (n : ℕ) (own mine both w owns has : View E) (e : E) → both ≡ joined own (with_rights mine) → GoesOnBy holds takes makes base both e w → owns ≡ with_only n w → has ≡ with_others n w
        → GoesOnWith holds takes makes base n own mine e owns has
    went_on n own mine both w owns has e is added owns_is has_is =
        let fits : Fits takes added.log (joined own (with_rights mine)) = subst (Fits takes added.log) is added.fits in
        let fresh_rights = fresh (base + made makes added.log) (makes e) in
        let seen : w.seen ≡ added.log ++ e ∷ [] = ap (λ (v : View E). v.seen) added.is in
        let all : w.has ≡ fresh_rights ++ (mine.has ++ own.has) = ap (λ (v : View E). v.has) added.is ∙ ap (λ (v : View E). fresh_rights ++ rights_of v) is in
        let count : (k : ℕ) → times k w.has ≡ times k fresh_rights + (times k mine.has + times k own.has) =
        (λ k. ap (times k) all ∙ times_append k fresh_rights (mine.has ++ own.has) ∙ ap (λ t. times k fresh_rights + t) (times_append k mine.has own.has)) in
        let others : (k : ℕ) → (k ≡ n → ⊥) → times k has.has ≡ times k w.has =
        (λ k apart. let out : times k (only n w.has) + times k (without n w.has) ≡ times k w.has = cut_out n k w.has in let free : times k (only n w.has) ≡ 0 = cut_free n k w.has apart in
        ap (λ (v : View E). times k v.has) has_is ∙ omega arith) in
        record {
          log = added.log;
          legal = added.legal;
          fits = fits.0;
          kept = fits.1;
          goes_on = added.goes_on;
          own_seen = ap (λ (v : View E). v.seen) owns_is ∙ seen;
          seen = ap (λ (v : View E). v.seen) has_is ∙ seen;
          right = λ enough.
              let out : times n (only n w.has) + times n (without n w.has) ≡ times n w.has = cut_out n n w.has in
              let whole : times n (without n w.has) ≡ 0 = cut_whole n w.has in
              let c = count n in
              subst (λ (v : View E). 0 < times n v.has) (sym owns_is) (omega arith);
          rights = λ k apart enough. let o = others k apart in let c = count k in omega arith;
          fresh_right = λ makes_it apart.
              let k = base + made makes added.log in
              let o = others k apart in
              let c = count k in
              let new : 0 < times k (fresh k (makes e)) = subst (λ b. 0 < times k (fresh k b)) (sym makes_it) (fresh_there k) in
              omega arith;
        }

    pub shares : (id : ℕ) (v : View E) → Splits (λ (s : State E (View E)). ChronicleInvariant holds takes makes base s.views) id v v (viewer v.seen [])
    shares id v s h at =
        let views = s.views in
        let fits : Fits takes h.0 v = h.4 id v at in
        let count : (k : ℕ) → held k (set views id v ++ viewer v.seen [] ∷ []) ≡ held k views = (λ k.
        let a : held k (set views id v) + times k (rights_of v) ≡ held k views + times k (rights_of v) = held_set k views id v v at in
        let b : held k (set views id v ++ viewer v.seen [] ∷ []) ≡ held k (set views id v) + 0 = held_snoc k (set views id v) (viewer v.seen []) in
        omega arith) in (
          h.0,
          h.1,
          (λ k. let c = count k in let le = h.2 k in omega arith),
          (λ k far. count k ∙ h.3 k far),
          (λ j u at_j. ⊎_elim
              (λ was. fits_set takes h.0 views id v (λ i x _ at_i. h.4 i x at_i) fits j u was)
              (λ (same : viewer v.seen [] ≡ u). subst (λ (y : View E). Fits takes h.0 y) same (keeps_fewer takes h.0 v.seen v.has [] fits.0 (λ k. omega arith), keeps_none takes h.0))
              (at_snoc (set views id v) (viewer v.seen []) u j at_j)),
        )

    pub joins : (id other : ℕ) (v w : View E) → Joins (λ (s : State E (View E)). ChronicleInvariant holds takes makes base s.views) id v other w (joined v w) (newcomer [])
    joins id other v w s h at apart there =
        let views = s.views in
        let both = joined v w in
        let mine : Fits takes h.0 v = h.4 id v at in
        let theirs : Fits takes h.0 w = ⊎_elim
        (λ (t : (other ≡ id) × (both ≡ w)). absurd (apart t.0))
        (λ (t : (other ≢ id) × (get_elem? views other ≡ some w)). h.4 other w t.1)
        (at_set views id other both w there) in
        let count : (k : ℕ) → held k (set (set views id both) other (newcomer [])) ≤ held k views = (λ k.
        let a : held k (set views id both) + times k (rights_of v) ≡ held k views + times k (w.has ++ v.has) = held_set k views id v both at in
        let b : held k (set (set views id both) other (newcomer [])) + times k (rights_of w) ≡ held k (set views id both) + 0 = held_set k (set views id both) other w (newcomer []) there in
        let c : times k (w.has ++ v.has) ≡ times k w.has + times k v.has = times_append k w.has v.has in
        let d : times k (v.joined_has ++ v.has) ≡ times k v.joined_has + times k v.has = times_append k v.joined_has v.has in
        let x : times k (w.joined_has ++ w.has) ≡ times k w.joined_has + times k w.has = times_append k w.joined_has w.has in
        omega arith) in (
          h.0,
          h.1,
          (λ k. let c = count k in let le = h.2 k in omega arith),
          (λ k far. let c = count k in let z = h.3 k far in omega arith),
          fits_set takes h.0 (set views id both) other (newcomer [])
              (λ j u _ at_j. fits_set takes h.0 views id both (λ i x _ at_i. h.4 i x at_i) (mine.0, theirs.0) j u at_j)
              (keeps_none takes h.0, keeps_none takes h.0),
        )

    pub begins : (first : List ℕ) → holds [] → AreRights base first → ChronicleInvariant holds takes makes base (newcomer first ∷ [])
    begins first empty are = (
      [],
      empty,
      (λ k. let a = (are k).0 in omega arith),
      (λ k far. let a : times k first ≡ 0 = (are k).1 (omega arith) in omega arith),
      only,
    )
      where
        only : (by : ℕ) (v : View E) → get_elem? (newcomer first ∷ []) by ≡ some v → Fits takes [] v
        only zero v at = subst (λ (y : View E). Fits takes [] y) (some-injective _ _ at) (keeps_all takes [] first, keeps_none takes [])
        only (suc by) v at = absurd (some-ne-none v (sym at))
