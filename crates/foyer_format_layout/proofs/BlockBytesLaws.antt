-- Reads of a block's bytes after writes.
use Rattle.std.proofs.lemmas.Bool.Decides.{nat_tests}
use Rattle.std.proofs.Common.{◌≡◌, ℕ, zero, suc, ◌+◌, ◌-◌, ◌<◌, ◌≤◌, nat_le, nat_lt, Bool, true, false, ◌&&◌, if◌then◌else◌, List, [], ◌∷◌, ◌++◌, length, replicate, take, slice_index, ◌⊎◌, inl, inr, refl, sym, ap, ◌∙◌, arith}
use Rattle.std.proofs.lemmas.List.{length-append, length-replicate}
use Rattle.foyer_format_layout.specs.BlockBytes.{Role, Write, laid, all_laid, read, IsBeside, AllWithin, zeros_write, with_zeros, zeroed}

pub beside_or : (w : Write) (o : ℕ) → IsBeside w o ⊎ (IsBeside w o → ⊥)
beside_or w o = go (nat_lt o w.offset) refl (nat_le (w.offset + length w.bytes) o) refl
  where
    go : (a : Bool) → nat_lt o w.offset ≡ a → (b : Bool) → nat_le (w.offset + length w.bytes) o ≡ b → IsBeside w o ⊎ (IsBeside w o → ⊥)
    go true e b f = inl (inl (grind (arith, nat_tests)))
    go false e true f = inl (inr (grind (arith, nat_tests)))
    go false e false f =
        inr (λ h. elim h [ inl l ↦ grind (arith, nat_tests) | inr r ↦ grind (arith, nat_tests) ])

-- a read sees only its range
pub read_same : (g k : ℕ → ℕ) (o n : ℕ) → ((i : ℕ) → o ≤ i → i < o + n → g i ≡ k i) → read g o n ≡ read k o n
read_same g k o zero h = refl
read_same g k o (suc n) h =
    let here : g o ≡ k o = h o (omega arith) (omega arith) in
    let there : read g (o + 1) n ≡ read k (o + 1) n = read_same g k (o + 1) n (λ i l m. h i (omega arith) (omega arith)) in
    cc

pub laid_beside : (w : Write) (g : ℕ → ℕ) (o : ℕ) → IsBeside w o → laid w g o ≡ g o
laid_beside w g o beside = go (nat_le w.offset o) refl (nat_lt o (w.offset + length w.bytes)) refl
  where
    go : (p : Bool) → nat_le w.offset o ≡ p → (q : Bool) → nat_lt o (w.offset + length w.bytes) ≡ q
        → (if p && q then slice_index w.bytes (o - w.offset) else g o) ≡ g o
    go true e true f = absurd (elim beside [ inl l ↦ grind (arith, nat_tests) | inr r ↦ grind (arith, nat_tests) ])
    go true e false f = refl
    go false e q f = refl

laid_at : (w : Write) (g : ℕ → ℕ) (o i : ℕ) → o ≡ w.offset + i → i < length w.bytes → laid w g o ≡ slice_index w.bytes i
laid_at w g o i is l = go (nat_le w.offset o) refl (nat_lt o (w.offset + length w.bytes)) refl
  where
    same : o - w.offset ≡ i
    same = omega arith

    go : (p : Bool) → nat_le w.offset o ≡ p → (q : Bool) → nat_lt o (w.offset + length w.bytes) ≡ q
        → (if p && q then slice_index w.bytes (o - w.offset) else g o) ≡ slice_index w.bytes i
    go true e true f = ap (slice_index w.bytes) same
    go true e false f = absurd (grind (arith, nat_tests))
    go false e q f = absurd (grind (arith, nat_tests))

-- and is those bytes that stand there
pub read_is : (bs : List ℕ) (k : ℕ → ℕ) (o : ℕ) → ((i : ℕ) → i < length bs → k (o + i) ≡ slice_index bs i) → read k o (length bs) ≡ bs
read_is [] k o h = refl
read_is (b ∷ bs) k o h =
    let zero_there : o + 0 ≡ o = omega arith in
    let here : k o ≡ b = ap k (sym zero_there) ∙ h 0 (omega arith) in
    let there : read k (o + 1) (length bs) ≡ bs = read_is bs k (o + 1) (λ i l. let e : o + suc i ≡ o + 1 + i = omega arith in ap k (sym e) ∙ h (suc i) (omega arith)) in
    cc

pub take_read : (bs : List ℕ) (g : ℕ → ℕ) (o n : ℕ) → n ≤ length bs → ((i : ℕ) → i < length bs → slice_index bs i ≡ g (o + i)) → take n bs ≡ read g o n
take_read bs g o zero l h = refl
take_read [] g o (suc n) l h = absurd (omega arith)
take_read (b ∷ bs) g o (suc n) l h =
    let zero_there : o + 0 ≡ o = omega arith in
    let here : b ≡ g o = h 0 (omega arith) ∙ ap g zero_there in
    let there : take n bs ≡ read g (o + 1) n = take_read bs g (o + 1) n (omega arith) (λ i m. let e : o + suc i ≡ o + 1 + i = omega arith in h (suc i) (omega arith) ∙ ap g e) in
    cc

-- the bytes of a write, where it is laid
pub laid_there : (w : Write) (g : ℕ → ℕ) (i : ℕ) → i < length w.bytes → laid w g (w.offset + i) ≡ slice_index w.bytes i
laid_there w g i lt = laid_at w g (w.offset + i) i refl lt

index_in : (pre bs post : List ℕ) (i : ℕ) → i < length bs → slice_index (pre ++ (bs ++ post)) (length pre + i) ≡ slice_index bs i
index_in [] [] post i l = absurd (omega arith)
index_in [] (b ∷ bs) post zero l = refl
index_in [] (b ∷ bs) post (suc i) l =
    let e : 0 + i ≡ i = omega arith in
    let f : 0 + suc i ≡ suc i = omega arith in
    ap (slice_index (b ∷ (bs ++ post))) f ∙ ap (slice_index (bs ++ post)) (sym e) ∙ index_in [] bs post i (omega arith)
index_in (p ∷ pre) bs post i l =
    let e : length (p ∷ pre) + i ≡ suc (length pre + i) = omega arith in
    ap (slice_index (p ∷ (pre ++ (bs ++ post)))) e ∙ index_in pre bs post i l

-- a part of a write is read back
pub read_part : (role : Role) (at : ℕ) (pre bs post : List ℕ) (g : ℕ → ℕ) → read (laid (record { role = role; offset = at; bytes = pre ++ (bs ++ post) }) g) (at + length pre) (length bs) ≡ bs
read_part role at pre bs post g =
    read_is bs (laid (record { role = role; offset = at; bytes = pre ++ (bs ++ post) }) g) (at + length pre)
    (λ i l. laid_at (record { role = role; offset = at; bytes = pre ++ (bs ++ post) }) g (at + length pre + i) (length pre + i) (omega arith)
    (omega (arith, length-append pre (bs ++ post), length-append bs post))
    ∙ index_in pre bs post i l)

-- a whole write is read back
pub read_whole : (w : Write) (g : ℕ → ℕ) → read (laid w g) w.offset (length w.bytes) ≡ w.bytes
read_whole w g = read_is w.bytes (laid w g) w.offset (λ i l. laid_at w g (w.offset + i) i refl l)

-- writes within P leave what lies outside
pub laid_outside : (P : ℕ → Type 0) (ws : List Write) (g : ℕ → ℕ) (o : ℕ) → AllWithin P ws → (P o → ⊥) → all_laid ws g o ≡ g o
laid_outside P [] g o within out = refl
laid_outside P (w ∷ ws) g o within out =
    laid_outside P ws (laid w g) o within.1 out
    ∙ laid_beside w g o (elim (beside_or w o) [ inl outside ↦ outside | inr inside ↦ absurd (out (within.0 o inside)) ])

pub within_more : (P Q : ℕ → Type 0) (ws : List Write) → ((o : ℕ) → P o → Q o) → AllWithin P ws → AllWithin Q ws
within_more P Q [] more within = tt
within_more P Q (w ∷ ws) more within = (λ o beside. more o (within.0 o beside), within_more P Q ws more within.1)

-- a page of zeros in front of other writes

pub all_laid_zeros : (n o : ℕ) (ws : List Write) (g : ℕ → ℕ) → all_laid (with_zeros n o ws) g ≡ all_laid ws (zeroed n o g)
all_laid_zeros n o ws g = go (nat_le (o + 4096) n)
  where
    go : (b : Bool) → all_laid (if b then zeros_write o ∷ ws else ws) g ≡ all_laid ws (if b then laid (zeros_write o) g else g)
    go true = refl
    go false = refl

pub zeroed_before : (n o : ℕ) (g : ℕ → ℕ) (i : ℕ) → i < o → zeroed n o g i ≡ g i
zeroed_before n o g i l = go (nat_le (o + 4096) n)
  where
    go : (b : Bool) → (if b then laid (zeros_write o) g else g) i ≡ g i
    go true = laid_beside (zeros_write o) g i (inl l)
    go false = refl

zero_at : (n i : ℕ) → i < n → slice_index (replicate n 0) i ≡ 0
zero_at zero i l = absurd (omega arith)
zero_at (suc n) zero l = refl
zero_at (suc n) (suc i) l = zero_at n i (omega arith)

pub zeroed_there : (n o : ℕ) (g : ℕ → ℕ) (i : ℕ) → nat_le (o + 4096) n ≡ true → o ≤ i → i < o + 4096 → zeroed n o g i ≡ 0
zeroed_there n o g i fits l m =
    let k : ℕ = i - o in
    let at : i ≡ o + k = omega arith in
    let size : length {A = ℕ} (replicate 4096 0) ≡ 4096 = length-replicate {A = ℕ} 4096 0 in
    ap (λ (b : Bool). (if b then laid (zeros_write o) g else g) i) fits
    ∙ ap (laid (zeros_write o) g) at ∙ laid_there (zeros_write o) g k (omega arith) ∙ zero_at 4096 k (omega arith)

pub within_zeros : (P : ℕ → Type 0) (n o : ℕ) (ws : List Write) → ((i : ℕ) → o ≤ i → P i) → AllWithin P ws → AllWithin P (with_zeros n o ws)
within_zeros P n o ws above within = go (nat_le (o + 4096) n)
  where
    go : (b : Bool) → AllWithin P (if b then zeros_write o ∷ ws else ws)
    go true = (λ i inside. let low : i < o → ⊥ = λ l. inside (inl l) in above i (omega arith), within)
    go false = within

pub with_zeros-append : (n o : ℕ) (xs ys : List Write) → with_zeros n o xs ++ ys ≡ with_zeros n o (xs ++ ys)
with_zeros-append n o xs ys = go (nat_le (o + 4096) n)
  where
    go : (b : Bool) → (if b then zeros_write o ∷ xs else xs) ++ ys ≡ (if b then zeros_write o ∷ (xs ++ ys) else xs ++ ys)
    go true = refl
    go false = refl
