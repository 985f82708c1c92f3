-- What was put into a filling of a block.
use Rattle.std.proofs.Common.{◌≡◌, ℕ, ◌==◌, Bool, true, false, ◌&&◌, if◌then◌else◌, List, [], ◌∷◌, ◌++◌, map, ◌⊎◌, inl, inr, refl, sym, ap, subst, ◌∙◌, append_assoc}
use Rattle.std.proofs.lemmas.Bool.{eqb-true, eqb-false}
use Rattle.std.proofs.lemmas.List.{append-nil}
use Rattle.foyer_core_model.specs.Record.{Record}
use Rattle.foyer_core_model.specs.World.{Stored, with_stored}
use Rattle.foyer_core_restart.specs.Entries.{In, entry_of, entry_done, puts_at}
use Rattle.foyer_core_restart.proofs.Tasks.{Entry}
use Rattle.foyer_core_restart.proofs.Members.{in_left, in_right, in_either}

eqb_same : (b : ℕ) → (b == b) ≡ true
eqb_same b = go (b == b) refl
  where
    go : (t : Bool) → (b == b) ≡ t → t ≡ true
    go true e = refl
    go false e = absurd (eqb-false b b e refl)

-- a record of the block and the filling
pub in_puts : {C : Type 0} (b n : ℕ) (x : Stored C) (xs : List (Stored C)) → In x xs → x.block ≡ b → x.filling ≡ n → In (entry_done x) (puts_at b n xs)
in_puts b n x [] i at of = absurd i
in_puts b n x (y ∷ ys) (inl same) at of =
    in_right (entry_done x) (puts_at b n ys) (if y.block == b && y.filling == n then entry_done y ∷ [] else [])
    (subst (λ t. In (entry_done x) (if t then entry_done y ∷ [] else [])) (sym both) (inl (ap entry_done same)))
  where
    both : (y.block == b && y.filling == n) ≡ true
    both = (λ i. ((sym (ap (λ k. k.block) same) ∙ at) i == b) && ((sym (ap (λ k. k.filling) same) ∙ of) i == n)) ∙ (λ i. eqb_same b i && eqb_same n i)
in_puts b n x (y ∷ ys) (inr i) at of =
    in_left (entry_done x) (puts_at b n ys) (if y.block == b && y.filling == n then entry_done y ∷ [] else []) (in_puts b n x ys i at of)

-- and back
pub puts_out : {C : Type 0} (b n : ℕ) (e : Entry) (xs : List (Stored C)) → In e (puts_at b n xs) → (x : Stored C) × In x xs × (x.block ≡ b) × (x.filling ≡ n) × (entry_done x ≡ e)
puts_out b n e [] i = absurd i
puts_out {C} b n e (y ∷ ys) i =
    elim (in_either e (puts_at b n ys) (if y.block == b && y.filling == n then entry_done y ∷ [] else []) i) [
      | inl before ↦ let r : (x : Stored C) × In x ys × (x.block ≡ b) × (x.filling ≡ n) × (entry_done x ≡ e) = puts_out b n e ys before in (r.0, inr r.1, r.2, r.3, r.4)
      | inr now ↦ go (y.block == b) refl (y.filling == n) refl now
    ]
  where
    go : (p : Bool) → (y.block == b) ≡ p → (q : Bool) → (y.filling == n) ≡ q → In e (if p && q then entry_done y ∷ [] else [])
        → (x : Stored C) × In x (y ∷ ys) × (x.block ≡ b) × (x.filling ≡ n) × (entry_done x ≡ e)
    go true d true f (inl is) = (y, inl refl, eqb-true y.block b d, eqb-true y.filling n f, sym is)
    go true d true f (inr none) = absurd none
    go true d false f none = absurd none
    go false d q f none = absurd none

-- nothing was put into it
pub puts_none : {C : Type 0} (b n : ℕ) (xs : List (Stored C)) → ((x : Stored C) → In x xs → x.block ≡ b → x.filling ≡ n → ⊥) → puts_at b n xs ≡ []
puts_none b n xs none = go (puts_at b n xs) refl
  where
    go : (l : List Entry) → puts_at b n xs ≡ l → l ≡ []
    go [] e = refl
    go (e ∷ es) is = let r : (x : _) × In x xs × (x.block ≡ b) × (x.filling ≡ n) × (entry_done x ≡ e) = puts_out b n e xs (subst (λ l. In e l) (sym is) (inl refl)) in
        absurd (none r.0 r.1 r.2 r.3)

-- the records of a block are committed
pub puts_more : {C : Type 0} (b n : ℕ) (ps : List (ℕ × Record C)) (xs : List (Stored C)) → puts_at b n (with_stored b n ps xs) ≡ puts_at b n xs ++ map entry_of ps
puts_more b n [] xs = sym (append-nil (puts_at b n xs))
puts_more b n (p ∷ ps) xs =
    puts_more b n ps (record { block = b; filling = n; offset = p.0; content = p.1 } ∷ xs)
    ∙ ap (λ t. (puts_at b n xs ++ (if t then entry_of p ∷ [] else [])) ++ map entry_of ps) (λ i. eqb_same b i && eqb_same n i)
    ∙ append_assoc (puts_at b n xs) (entry_of p ∷ []) (map entry_of ps)

pub puts_other : {C : Type 0} (b n c m : ℕ) (ps : List (ℕ × Record C)) (xs : List (Stored C)) → (c ≡ b → ⊥) → puts_at c m (with_stored b n ps xs) ≡ puts_at c m xs
puts_other b n c m [] xs ne = refl
puts_other b n c m (p ∷ ps) xs ne =
    puts_other b n c m ps (record { block = b; filling = n; offset = p.0; content = p.1 } ∷ xs) ne
    ∙ go (b == c) refl
  where
    go : (t : Bool) → (b == c) ≡ t → puts_at c m xs ++ (if t && n == m then entry_of p ∷ [] else []) ≡ puts_at c m xs
    go true e = absurd (ne (sym (eqb-true b c e)))
    go false e = append-nil (puts_at c m xs)

-- what is stored with these records
pub stored_out : {C : Type 0} (b n : ℕ) (x : Stored C) (ps : List (ℕ × Record C)) (xs : List (Stored C)) → In x (with_stored b n ps xs)
    → In x xs ⊎ ((x.block ≡ b) × (x.filling ≡ n) × In (x.offset, x.content) ps)
stored_out b n x [] xs i = inl i
stored_out b n x (p ∷ ps) xs i =
    elim (stored_out b n x ps (record { block = b; filling = n; offset = p.0; content = p.1 } ∷ xs) i) [
      | inl there ↦ first there
      | inr (at, of, among) ↦ inr (at, of, inr among)
    ]
  where
    first : In x (record { block = b; filling = n; offset = p.0; content = p.1 } ∷ xs) → In x xs ⊎ ((x.block ≡ b) × (x.filling ≡ n) × In (x.offset, x.content) (p ∷ ps))
    first (inl same) = inr (ap (λ k. k.block) same, ap (λ k. k.filling) same, inl (λ i. ((same i).offset, (same i).content)))
    first (inr before) = inl before

pub stored_before : {C : Type 0} (b n : ℕ) (x : Stored C) (ps : List (ℕ × Record C)) (xs : List (Stored C)) → In x xs → In x (with_stored b n ps xs)
stored_before b n x [] xs i = i
stored_before b n x (p ∷ ps) xs i = stored_before b n x ps (record { block = b; filling = n; offset = p.0; content = p.1 } ∷ xs) (inr i)

pub stored_in : {C : Type 0} (b n : ℕ) (p : ℕ × Record C) (ps : List (ℕ × Record C)) (xs : List (Stored C)) → In p ps
    → In (record { block = b; filling = n; offset = p.0; content = p.1 }) (with_stored b n ps xs)
stored_in b n p [] xs i = absurd i
stored_in b n p (q ∷ ps) xs (inl same) =
    stored_before b n (record { block = b; filling = n; offset = p.0; content = p.1 }) ps (record { block = b; filling = n; offset = q.0; content = q.1 } ∷ xs)
    (inl (λ i. record { block = b; filling = n; offset = (same i).0; content = (same i).1 }))
stored_in b n p (q ∷ ps) xs (inr i) = stored_in b n p ps (record { block = b; filling = n; offset = q.0; content = q.1 } ∷ xs) i
