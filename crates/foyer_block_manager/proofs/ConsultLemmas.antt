-- Pickers that are consulted one after the other.
use Rattle.std.proofs.Common.{◌≡◌, ℕ, ◌+◌, ◌<◌, ◌≤◌, Bool, true, false, if◌then◌else◌, List, [], ◌∷◌, ◌++◌, length, drop, Option, None, slice_index_or, refl, sym, ap, ◌∙◌}
use Rattle.std.proofs.lemmas.List.{at_drop_more, at_drop_all}
use Rattle.foyer_block_manager.specs.Pickers.{Info, Answer, answers_of, is_pick, answers_given, marks_given, pick_of}
use Rattle.foyer_block_manager.specs.declared.block.states.BlockState.{BlockState}

append_none : {X : Type 0} (xs : List X) → xs ++ [] ≡ xs
append_none [] = refl
append_none (x ∷ xs) = ap (λ l. x ∷ l) (append_none xs)

append_one : {X : Type 0} (xs : List X) (x : X) (ys : List X) → xs ++ x ∷ ys ≡ (xs ++ x ∷ []) ++ ys
append_one [] x ys = refl
append_one (z ∷ xs) x ys = ap (λ l. z ∷ l) (append_one xs x ys)

append_three : {X : Type 0} (xs ys zs : List X) → xs ++ (ys ++ zs) ≡ (xs ++ ys) ++ zs
append_three [] ys zs = refl
append_three (z ∷ xs) ys zs = ap (λ l. z ∷ l) (append_three xs ys zs)

module _ (B : List BlockState) (all rest : List Answer) (a : Answer) (answers : List (Option ℕ)) (probation : List ℕ)
    (asks : answers_given B all ≡ answers ++ answers_given B (a ∷ rest)) (puts : marks_given B all ≡ probation ++ marks_given B (a ∷ rest))
    (picks : pick_of B all ≡ pick_of B (a ∷ rest)) where
  -- no pick: the next one is consulted
  pub goes_on : is_pick B a.0 ≡ false
      → (answers_given B all ≡ (answers ++ a.0 ∷ []) ++ answers_given B rest) × (marks_given B all ≡ (probation ++ a.1) ++ marks_given B rest) × (pick_of B all ≡ pick_of B rest)
  goes_on not = (
    asks ∙ ap (λ (t : Bool). answers ++ a.0 ∷ (if t then [] else answers_given B rest)) not ∙ append_one answers a.0 (answers_given B rest),
    puts ∙ ap (λ (t : Bool). probation ++ (a.1 ++ (if t then [] else marks_given B rest))) not ∙ append_three probation a.1 (marks_given B rest),
    picks ∙ ap (λ (t : Bool). if t then a.0 else pick_of B rest) not,
  )

  -- a pick: no other is consulted
  pub ends : is_pick B a.0 ≡ true → (answers ++ a.0 ∷ [] ≡ answers_given B all) × (probation ++ a.1 ≡ marks_given B all) × (a.0 ≡ pick_of B all)
  ends is = (
    sym (asks ∙ ap (λ (t : Bool). answers ++ a.0 ∷ (if t then [] else answers_given B rest)) is),
    sym (puts ∙ ap (λ (t : Bool). probation ++ (a.1 ++ (if t then [] else marks_given B rest))) is ∙ ap (λ l. probation ++ l) (append_none a.1)),
    sym (picks ∙ ap (λ (t : Bool). if t then a.0 else pick_of B rest) is),
  )

-- nobody is left
pub nobody : (B : List BlockState) (all : List Answer) (answers : List (Option ℕ)) (probation : List ℕ)
    → answers_given B all ≡ answers ++ [] → marks_given B all ≡ probation ++ [] → pick_of B all ≡ None
    → (answers ≡ answers_given B all) × (probation ≡ marks_given B all) × (None ≡ pick_of B all)
nobody B all answers probation asks puts picks = (sym (asks ∙ append_none answers), sym (puts ∙ append_none probation), sym picks)

module _ {P : Type 0} (ans : P → Info → Option ℕ) (marks : P → Info → List ℕ) (info : Info) (B : List BlockState) (xs : List P) where
  -- what the pickers up to an index said, and then what the others would
  abbrev pub Said : ℕ → List (Option ℕ) → List ℕ → Type 0
  Said i answers probation =
      (answers_given B (answers_of ans marks xs info) ≡ answers ++ answers_given B (answers_of ans marks (drop i xs) info))
      × (marks_given B (answers_of ans marks xs info) ≡ probation ++ marks_given B (answers_of ans marks (drop i xs) info))
      × (pick_of B (answers_of ans marks xs info) ≡ pick_of B (answers_of ans marks (drop i xs) info))

  pub begins : (answers : List (Option ℕ)) (probation : List ℕ) → answers ≡ [] → probation ≡ [] → Said 0 answers probation
  begins answers probation a p = (
    ap (λ l. l ++ answers_given B (answers_of ans marks xs info)) (sym a),
    ap (λ l. l ++ marks_given B (answers_of ans marks xs info)) (sym p),
    refl,
  )

  module _ (i : ℕ) (p : P) (lt : i < length xs) (is : p ≡ slice_index_or xs i p) (answers : List (Option ℕ)) (probation : List ℕ) (said : Said i answers probation) where
    at_p : {Y : Type 0} (F : List P → Y) → F (drop i xs) ≡ F (p ∷ drop (i + 1) xs)
    at_p F = at_drop_more F xs i p lt ∙ ap (λ q. F (q ∷ drop (i + 1) xs)) (sym is)

    module _ (answers' : List (Option ℕ)) (probation' : List ℕ) (r : Option ℕ) (own : List ℕ) (more : answers' ≡ answers ++ r ∷ []) (put : probation' ≡ probation ++ own)
        (r_is : r ≡ ans p info) (own_is : own ≡ marks p info) where
      asks : answers_given B (answers_of ans marks xs info) ≡ answers ++ answers_given B ((ans p info, marks p info) ∷ answers_of ans marks (drop (i + 1) xs) info)
      asks = said.0 ∙ at_p (λ l. answers ++ answers_given B (answers_of ans marks l info))

      puts : marks_given B (answers_of ans marks xs info) ≡ probation ++ marks_given B ((ans p info, marks p info) ∷ answers_of ans marks (drop (i + 1) xs) info)
      puts = said.1 ∙ at_p (λ l. probation ++ marks_given B (answers_of ans marks l info))

      picks : pick_of B (answers_of ans marks xs info) ≡ pick_of B ((ans p info, marks p info) ∷ answers_of ans marks (drop (i + 1) xs) info)
      picks = said.2 ∙ at_p (λ l. pick_of B (answers_of ans marks l info))

      answers_are : answers' ≡ answers ++ ans p info ∷ []
      answers_are = more ∙ ap (λ x. answers ++ x ∷ []) r_is

      probation_is : probation' ≡ probation ++ marks p info
      probation_is = put ∙ ap (λ l. probation ++ l) own_is

      pub next : is_pick B r ≡ false → Said (i + 1) answers' probation'
      next not =
          let g = goes_on B (answers_of ans marks xs info) (answers_of ans marks (drop (i + 1) xs) info) (ans p info, marks p info) answers probation asks puts picks
          (sym (ap (is_pick B) r_is) ∙ not) in (
            g.0 ∙ ap (λ l. l ++ answers_given B (answers_of ans marks (drop (i + 1) xs) info)) (sym answers_are),
            g.1 ∙ ap (λ l. l ++ marks_given B (answers_of ans marks (drop (i + 1) xs) info)) (sym probation_is),
            g.2,
          )

      pub last : is_pick B r ≡ true
          → (answers' ≡ answers_given B (answers_of ans marks xs info)) × (probation' ≡ marks_given B (answers_of ans marks xs info)) × (r ≡ pick_of B (answers_of ans marks xs info))
      last fact =
          let e = ends B (answers_of ans marks xs info) (answers_of ans marks (drop (i + 1) xs) info) (ans p info, marks p info) answers probation asks puts picks
          (sym (ap (is_pick B) r_is) ∙ fact) in
          (answers_are ∙ e.0, probation_is ∙ e.1, r_is ∙ e.2)

  pub none_left : (i : ℕ) (answers : List (Option ℕ)) (probation : List ℕ) → length xs ≤ i → Said i answers probation
      → (answers ≡ answers_given B (answers_of ans marks xs info)) × (probation ≡ marks_given B (answers_of ans marks xs info)) × (None ≡ pick_of B (answers_of ans marks xs info))
  none_left i answers probation le said =
      nobody B (answers_of ans marks xs info) answers probation
      (said.0 ∙ at_drop_all (λ l. answers ++ answers_given B (answers_of ans marks l info)) xs i le)
      (said.1 ∙ at_drop_all (λ l. probation ++ marks_given B (answers_of ans marks l info)) xs i le)
      (said.2 ∙ at_drop_all (λ l. pick_of B (answers_of ans marks l info)) xs i le)
