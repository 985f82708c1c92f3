-- Each step keeps the rule.
use Rattle.std.proofs.Common.{◌≡◌, ℕ, zero, suc, ◌+◌, ◌-◌, ◌%◌, ◌^◌, ◌<◌, ◌≤◌, ◌≢◌, ⊎_elim, List, [], ◌∷◌, ◌++◌, length, set, refl, sym, ◌∙◌, ap, subst, arith}
use Rattle.std.proofs.Math.Nat.{mod-add-mod}
use mathlib.Core.Option.{none, some}
use lib.ListN.{get_elem?}
use mathlib.Core.Logic.{dite}
use native.Mathlib.Decide.{ℕ_discrete}
use Rattle.std.proofs.lemmas.List.{length-set, set-get_or, get_or-set_same, get_or-set_other}
use Rattle.atomic_table.specs.Table.{Me, step, Allows, keeps, Splits, Joins}
use Rattle.atomic_table.proofs.Lists.{at_set, at_snoc, set_else}
use Rattle.foyer_device_statistics.specs.declared.view.View.{View}
use Rattle.foyer_device_statistics.specs.Counted.{view, zeros, at, sum_of, Fits, Counted, Grows, Adds, Loads, both, spent, plus, higher, Records}
use Rattle.foyer_device_statistics.proofs.CounterSums.{total_set, total_snoc, total_member, total_only}

-- if no sum shrinks, the views of the others still fit
kept : (views : List View) (id : ℕ) (w : View) → ((j : ℕ) (u : View) → get_elem? views j ≡ some u → Fits views u)
    → ((i : ℕ) → sum_of i views ≤ sum_of i (set views id w)) → Fits (set views id w) w
    → (j : ℕ) (u : View) → get_elem? (set views id w) j ≡ some u → Fits (set views id w) u
kept views id w fits grows mine j u e =
    let P : View → Type 0 = λ x. Fits (set views id w) x in
    ⊎_elim (λ t. subst P t.1 mine)
    (λ t. let f = fits j u t.1 in (f.0, f.1, (λ i. let a = f.2 i in let b = grows i in omega arith), f.3))
    (at_set views id j w u e)

-- what holds at one place and at all others holds everywhere
by_place : (xs : List ℕ) (i j y n : ℕ) → i < length xs → (j ≡ i → y ≤ n) → at j xs ≤ n → at j (set xs i y) ≤ n
by_place xs i j y n low here else = dite (ℕ_discrete j i)
    (λ e. let P : ℕ → Type 0 = λ k. at k (set xs i y) ≤ n in subst P (sym e) (let s = get_or-set_same xs i y 0 low in let h = here e in omega arith))
    (λ ne. let s = get_or-set_other xs i j y 0 ne in omega arith)

-- a seat's view is replaced
sum_set : (i : ℕ) (views : List View) (id : ℕ) (v w : View) → get_elem? views id ≡ some v → sum_of i (set views id w) + at i v.recorded ≡ sum_of i views + at i w.recorded
sum_set i views id v w e = total_set (λ u. at i u.recorded) views id v w e

pub loads : (n id i : ℕ) (me : Me (Unit {0}) View) → i < 4
    → Allows Counted n id me i (λ n. n) (Loads (step n i 0 0 none) me)
loads n id i me low s held homes here fits =
    let v = me.0 in
    let top = sum_of i s.views in
    let w = view v.parts v.recorded (set v.saw i top) in
    let fit = held.3 id v here in
    let seen : at i w.saw ≡ top = get_or-set_same v.saw i top 0 (omega (arith, fit.1)) in
    let sums : (j : ℕ) → sum_of j (set s.views id w) ≡ sum_of j s.views = λ j. let t = sum_set j s.views id v w here in omega arith in
    let word = set-get_or s.words i 0 in
    let mine : Fits (set s.views id w) w = (fit.0, length-set v.saw i top ∙ fit.1, (λ j. let b = sums j in let c = fit.2 j in let d = sums i in by_place v.saw i j top (sum_of j (set s.views id w)) (omega (arith, fit.1)) (λ e. let f = ap (λ k. sum_of k (set s.views id w)) e in omega arith) (omega arith)), fit.3) in (
      w,
      keeps,
      tt,
      (
        length-set s.words i _ ∙ held.0,
        (let t = total_set (λ u. u.parts) s.views id v w here in let p = held.1 in omega arith),
        (λ j less. ap (at j) word ∙ held.2 j less ∙ ap (λ n. n % 2 ^ 64) (sym (sums j))),
        kept s.views id w held.3 (λ j. let b = sums j in omega arith) mine,
      ),
      (
        (
          ap (λ n. view v.parts v.recorded (set v.saw i n)) (sym seen),
          (
            held.2 i low ∙ ap (λ n. n % 2 ^ 64) (sym seen),
            (let m = total_member (λ u. at i u.recorded) s.views id v here in omega (arith, seen)),
            (let m = fit.2 i in omega (arith, seen)),
            (λ all. seen ∙ total_only (λ u. u.parts) (λ u. at i u.recorded) s.views id v here (λ j u h none. (held.3 j u h).3 none i) (held.1 ∙ sym all)),
          ),
        ),
        refl,
      ),
    )

pub adds : (n id i k : ℕ) (me : Me (Unit {0}) View) → i < 4 → 0 < me.0.parts
    → Allows Counted n id me i (λ n. (n + k) % 2 ^ 64) (Adds (step n i k 0 none) me)
adds n id i k me low some_part s held homes here fits =
    let v = me.0 in
    let more = at i v.recorded + k in
    let w = view v.parts (set v.recorded i more) v.saw in
    let fit = held.3 id v here in
    let here_more : at i w.recorded ≡ more = get_or-set_same v.recorded i more 0 (omega (arith, fit.0)) in
    let sum_here : sum_of i (set s.views id w) ≡ sum_of i s.views + k = let t = sum_set i s.views id v w here in omega (arith, here_more) in
    let sum_else : (j : ℕ) → j ≢ i → sum_of j (set s.views id w) ≡ sum_of j s.views = λ j n. let t = sum_set j s.views id v w here in let e = get_or-set_other v.recorded i j more 0 n in omega arith in
    let grows : (j : ℕ) → sum_of j s.views ≤ sum_of j (set s.views id w) = λ j. dite (ℕ_discrete j i) (λ e. let f = ap (λ n. sum_of n (set s.views id w)) e in let f' = ap (λ n. sum_of n s.views) e in omega (arith, sum_here)) (λ n. let e = sum_else j n in omega arith) in
    let mine : Fits (set s.views id w) w = (length-set v.recorded i more ∙ fit.0, fit.1, (λ j. let a = fit.2 j in let b = grows j in omega arith), (λ none. absurd (omega (arith, some_part)))) in (
      w,
      keeps,
      tt,
      (
        length-set s.words i _ ∙ held.0,
        (let t = total_set (λ u. u.parts) s.views id v w here in let p = held.1 in omega arith),
        (λ j less. dite (ℕ_discrete j i)
            (λ e. let P : ℕ → Type 0 = λ n. at n (set s.words i ((at i s.words + k) % 2 ^ 64)) ≡ sum_of n (set s.views id w) % 2 ^ 64 in
            subst P (sym e) (get_or-set_same s.words i _ 0 (omega (arith, held.0, low)) ∙ ap (λ n. (n + k) % 2 ^ 64) (held.2 i low) ∙ mod-add-mod (sum_of i s.views) (2 ^ 64) k ∙ ap (λ n. n % 2 ^ 64) (sym sum_here)))
            (λ n. get_or-set_other s.words i j _ 0 n ∙ held.2 j less ∙ ap (λ n. n % 2 ^ 64) (sym (sum_else j n)))),
        kept s.views id w held.3 grows mine,
      ),
      (refl, refl),
    )

at_zeros : (i : ℕ) → at i zeros ≡ 0
at_zeros zero = refl
at_zeros (suc zero) = refl
at_zeros (suc (suc zero)) = refl
at_zeros (suc (suc (suc zero))) = refl
at_zeros (suc (suc (suc (suc i)))) = refl

pub splits : (id k : ℕ) (v : View) → 0 < k → k < v.parts → Splits Counted id v (view (v.parts - k) v.recorded v.saw) (view k zeros zeros)
splits id k v some_part some_left s held here =
    let left = view (v.parts - k) v.recorded v.saw in
    let right = view k zeros zeros in
    let fit = held.3 id v here in
    let new = set s.views id left ++ right ∷ [] in
    let sums : (i : ℕ) → sum_of i new ≡ sum_of i s.views = λ i. let a = total_snoc (λ u. at i u.recorded) (set s.views id left) right in let b = total_set (λ u. at i u.recorded) s.views id v left here in let z = at_zeros i in omega arith in
    let P : View → Type 0 = λ u. Fits new u in (
      held.0,
      (let a = total_snoc (λ u. u.parts) (set s.views id left) right in let b = total_set (λ u. u.parts) s.views id v left here in let h = held.1 in omega (arith, some_left)),
      (λ i low. held.2 i low ∙ ap (λ n. n % 2 ^ 64) (sym (sums i))),
      (λ j u e. ⊎_elim
          (λ was. ⊎_elim
          (λ t. subst P t.1 (fit.0, fit.1, (λ i. let a = fit.2 i in let b = sums i in omega arith), (λ none. absurd (omega (arith, some_left)))))
          (λ t. let f = held.3 j u t.1 in (f.0, f.1, (λ i. let a = f.2 i in let b = sums i in omega arith), f.3))
          (at_set s.views id j left u was))
          (λ same. subst P same (refl, refl, (λ i. let z = at_zeros i in omega arith), (λ none. absurd (omega (arith, some_part)))))
          (at_snoc (set s.views id left) right u j e)),
    )

at_plus : (xs ys : List ℕ) (i : ℕ) → length xs ≡ length ys → at i (plus xs ys) ≡ at i xs + at i ys
at_plus [] [] i e = refl
at_plus [] (y ∷ ys) i e = absurd (omega arith)
at_plus (x ∷ xs) [] i e = absurd (omega arith)
at_plus (x ∷ xs) (y ∷ ys) zero e = refl
at_plus (x ∷ xs) (y ∷ ys) (suc i) e = at_plus xs ys i (omega arith)

pub length-plus : (xs ys : List ℕ) → length xs ≡ length ys → length (plus xs ys) ≡ length xs
length-plus [] ys e = refl
length-plus (x ∷ xs) [] e = refl
length-plus (x ∷ xs) (y ∷ ys) e = let t = length-plus xs ys (omega arith) in omega arith

at_higher : (xs ys : List ℕ) (i n : ℕ) → length xs ≡ length ys → at i xs ≤ n → at i ys ≤ n → at i (higher xs ys) ≤ n
at_higher [] ys i n e a b = a
at_higher (x ∷ xs) [] i n e a b = a
at_higher (x ∷ xs) (y ∷ ys) zero n e a b = omega arith
at_higher (x ∷ xs) (y ∷ ys) (suc i) n e a b = at_higher xs ys i n (omega arith) a b

pub length-higher : (xs ys : List ℕ) → length xs ≡ length ys → length (higher xs ys) ≡ length xs
length-higher [] ys e = refl
length-higher (x ∷ xs) [] e = refl
length-higher (x ∷ xs) (y ∷ ys) e = let t = length-higher xs ys (omega arith) in omega arith

pub joins : (id other : ℕ) (v w : View) → Joins Counted id v other w (both v w) spent
joins id other v w s held here apart there =
    let one = set s.views id (both v w) in
    let new = set one other spent in
    let fit = held.3 id v here in
    let was : get_elem? s.views other ≡ some w = sym (set_else s.views id other (both v w) apart) ∙ there in
    let beside = held.3 other w was in
    let same : length v.recorded ≡ length w.recorded = omega (arith, fit.0, beside.0) in
    let same' : length v.saw ≡ length w.saw = omega (arith, fit.1, beside.1) in
    let sums : (i : ℕ) → sum_of i new ≡ sum_of i s.views = λ i.
    let a = total_set (λ u. at i u.recorded) s.views id v (both v w) here in
    let b = total_set (λ u. at i u.recorded) one other w spent there in
    let p = at_plus v.recorded w.recorded i same in let z = at_zeros i in omega arith in
    let P : View → Type 0 = λ u. Fits new u in (
      held.0,
      (let a = total_set (λ u. u.parts) s.views id v (both v w) here in let b = total_set (λ u. u.parts) one other w spent there in let h = held.1 in omega arith),
      (λ i low. held.2 i low ∙ ap (λ n. n % 2 ^ 64) (sym (sums i))),
      (λ j u e. ⊎_elim
          (λ t. subst P t.1 (refl, refl, (λ i. let z = at_zeros i in omega arith), (λ none i. at_zeros i)))
          (λ t. ⊎_elim
          (λ r. subst P r.1 (
            length-plus _ _ same ∙ fit.0,
            length-higher _ _ same' ∙ fit.1,
            (λ i. let b = sums i in let a = fit.2 i in let c = beside.2 i in at_higher _ _ i _ same' (omega arith) (omega arith)),
            (λ none i. let p = at_plus v.recorded w.recorded i same in let a = fit.3 (omega arith) i in let c = beside.3 (omega arith) i in omega arith),
          ))
          (λ r. let f = held.3 j u r.1 in (f.0, f.1, (λ i. let a = f.2 i in let b = sums i in omega arith), f.3))
          (at_set s.views id j (both v w) u t.1))
          (at_set one other j spent u e)),
    )

-- two adds, of bytes and of calls, are one record
write_counters : (xs : List ℕ) (b c : ℕ) → length xs ≡ 4
    → set (set xs 0 (at 0 xs + b)) 2 (at 2 (set xs 0 (at 0 xs + b)) + c) ≡ plus xs (b ∷ 0 ∷ c ∷ 0 ∷ [])
write_counters [] b c e = absurd (omega arith)
write_counters (x ∷ []) b c e = absurd (omega arith)
write_counters (x ∷ y ∷ []) b c e = absurd (omega arith)
write_counters (x ∷ y ∷ z ∷ []) b c e = absurd (omega arith)
write_counters (x ∷ y ∷ z ∷ t ∷ []) b c e =
    let p : y ≡ y + 0 = omega arith in let q : t ≡ t + 0 = omega arith in λ k. (x + b) ∷ p k ∷ (z + c) ∷ q k ∷ []
write_counters (x ∷ y ∷ z ∷ t ∷ u ∷ xs) b c e = absurd (omega arith)

read_counters : (xs : List ℕ) (b c : ℕ) → length xs ≡ 4
    → set (set xs 1 (at 1 xs + b)) 3 (at 3 (set xs 1 (at 1 xs + b)) + c) ≡ plus xs (0 ∷ b ∷ 0 ∷ c ∷ [])
read_counters [] b c e = absurd (omega arith)
read_counters (x ∷ []) b c e = absurd (omega arith)
read_counters (x ∷ y ∷ []) b c e = absurd (omega arith)
read_counters (x ∷ y ∷ z ∷ []) b c e = absurd (omega arith)
read_counters (x ∷ y ∷ z ∷ t ∷ []) b c e =
    let p : x ≡ x + 0 = omega arith in let q : z ≡ z + 0 = omega arith in λ k. p k ∷ (y + b) ∷ q k ∷ (t + c) ∷ []
read_counters (x ∷ y ∷ z ∷ t ∷ u ∷ xs) b c e = absurd (omega arith)

-- one add behind another
two_grow : (i j b c : ℕ) (v u w : View) → Grows i b v u → Grows j c u w
    → w ≡ view v.parts (set (set v.recorded i (at i v.recorded + b)) j (at j (set v.recorded i (at i v.recorded + b)) + c)) v.saw
two_grow i j b c v u w one two =
    let P : View → Type 0 = λ x. view x.parts (set x.recorded j (at j x.recorded + c)) x.saw
    ≡ view v.parts (set (set v.recorded i (at i v.recorded + b)) j (at j (set v.recorded i (at i v.recorded + b)) + c)) v.saw in
    two ∙ subst P (sym one) refl

pub records_write : (v u w : View) (b c : ℕ) → length v.recorded ≡ 4 → Grows 0 b v u → Grows 2 c u w → Records v (b ∷ 0 ∷ c ∷ 0 ∷ []) w
records_write v u w b c len one two = two_grow 0 2 b c v u w one two ∙ ap (λ r. view v.parts r v.saw) (write_counters v.recorded b c len)

pub records_read : (v u w : View) (b c : ℕ) → length v.recorded ≡ 4 → Grows 1 b v u → Grows 3 c u w → Records v (0 ∷ b ∷ 0 ∷ c ∷ []) w
records_read v u w b c len one two = two_grow 1 3 b c v u w one two ∙ ap (λ r. view v.parts r v.saw) (read_counters v.recorded b c len)

-- what a seat keeps beside the rule
abbrev pub Whole : Me (Unit {0}) View → Type 0
Whole me = (me.1 ≡ []) × (0 < me.0.parts) × (length me.0.recorded ≡ 4) × (length me.0.saw ≡ 4)

pub joined : (me other new : Me (Unit {0}) View) → Whole me → Whole other → new ≡ (both me.0 other.0, me.1) → Whole new
joined me other new a b e =
    let P : Me (Unit {0}) View → Type 0 = λ m. Whole m in
    let p = length-plus me.0.recorded other.0.recorded (omega (arith, a.2, b.2)) in
    let q = length-higher me.0.saw other.0.saw (omega (arith, a.3, b.3)) in
    subst P (sym e) (a.0, omega (arith, a.1), p ∙ a.2, q ∙ a.3)
