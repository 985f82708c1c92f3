-- The bytes that a write or a clean leaves.
use Rattle.std.proofs.Common.{◌≡◌, ◌⊎◌, inl, inr, ℕ, ◌+◌, ◌-◌, ◌<◌, ◌≤◌, nat_le, nat_lt, ◌&&◌, if◌then◌else◌, is_ok, Bool, true, false, length, slice_index, Result, Ok, Err, sym, ap, ◌∙◌, subst, refl, arith}
use Rattle.std.proofs.lemmas.Bool.Decides.{nat_tests}
use Rattle.std.specs.Prelude.{OnOk, OnErr}
use Rattle.foyer_device_page.specs.declared.error.Error.{Error}
use Rattle.foyer_format_layout.specs.BlockBytes.{Write, laid, IsBeside}
use Rattle.foyer_io_disk.specs.Disk as disk
use Rattle.foyer_core_access.specs.Reclaims.{IsCleaned}
use Rattle.foyer_core_model.proofs.Basics.{put_at}
use Rattle.foyer_core_model.specs.Numbers.{put, page}
use Rattle.foyer_core_model.specs.Access.{cleaned_page}

beside : (at offset n : ℕ) → (nat_le offset at && nat_lt at (offset + n)) ≡ false → (at < offset) ⊎ (offset + n ≤ at)
beside at offset n e = go (nat_le offset at) refl
  where
    go : (t : Bool) → nat_le offset at ≡ t → (at < offset) ⊎ (offset + n ≤ at)
    go true le = inr (go2 (nat_lt at (offset + n)) refl)
      where
        go2 : (u : Bool) → nat_lt at (offset + n) ≡ u → offset + n ≤ at
        go2 true lt = absurd (let f : true ≡ false = sym (ap (λ v. v && nat_lt at (offset + n)) le ∙ lt) ∙ e in cc)
        go2 false ge = grind (arith, nat_tests)
    go false gt = inl (grind (arith, nat_tests))

inside : (at offset n : ℕ) → (nat_le offset at && nat_lt at (offset + n)) ≡ true → (offset ≤ at) × (at < offset + n)
inside at offset n e = go (nat_le offset at) refl
  where
    go : (t : Bool) → nat_le offset at ≡ t → (offset ≤ at) × (at < offset + n)
    go true le =
        let lt : nat_lt at (offset + n) ≡ true = sym (ap (λ v. v && nat_lt at (offset + n)) le) ∙ e in
        (grind (arith, nat_tests), grind (arith, nat_tests))
    go false gt = absurd (let f : false ≡ true = sym (ap (λ v. v && nat_lt at (offset + n)) gt) ∙ e in cc)

-- what a write did
abbrev pub IsDone : (old new : ℕ → ℕ → ℕ) → ℕ → Write → Bool → Type 0
IsDone old new b w true = disk.IsWritten old b w.offset w.bytes new
IsDone old new b w false = disk.IsTorn old b w.offset (length w.bytes) new

pub done_is : {X : Type 0} (old new : ℕ → ℕ → ℕ) (b : ℕ) (w : Write) (outcome : Result X Error) (ok : Bool) → OnOk outcome (disk.IsWritten old b w.offset w.bytes new)
    → OnErr outcome (disk.IsTorn old b w.offset (length w.bytes) new) → ok ≡ is_ok outcome → IsDone old new b w ok
done_is old new b w (Ok x) ok wrote torn is = subst (IsDone old new b w) (sym is) wrote
done_is old new b w (Err e) ok wrote torn is = subst (IsDone old new b w) (sym is) torn

pub torn_is : (old new : ℕ → ℕ → ℕ) (b : ℕ) (w : Write) (ok : Bool) → IsDone old new b w ok → (o : ℕ) → IsBeside w o → new b o ≡ old b o
torn_is old new b w true is o out = is.1 b o (inr out)
torn_is old new b w false is o out = is b o (inr out)

laid_is : (old new : ℕ → ℕ → ℕ) (b : ℕ) (w : Write) (g : ℕ → ℕ) → ((o : ℕ) → g o ≡ old b o) → disk.IsWritten old b w.offset w.bytes new → (o : ℕ) → laid w g o ≡ new b o
laid_is old new b w g same is o = go (nat_le w.offset o && nat_lt o (w.offset + length w.bytes)) refl
  where
    go : (t : Bool) → (nat_le w.offset o && nat_lt o (w.offset + length w.bytes)) ≡ t → (if t then slice_index w.bytes (o - w.offset) else g o) ≡ new b o
    go true e =
        let within = inside o w.offset (length w.bytes) e in
        let back : w.offset + (o - w.offset) ≡ o = (let le : w.offset ≤ o = within.0 in omega arith) in
        is.0 (o - w.offset) (let le : w.offset ≤ o = within.0 in let lt : o < w.offset + length w.bytes = within.1 in omega arith) ∙ ap (new b) back
    go false e = same o ∙ sym (is.1 b o (inr (beside o w.offset (length w.bytes) e)))

pub left_at : (bytes old new : ℕ → ℕ → ℕ) (b : ℕ) (w : Write) (ok : Bool) → ((q o : ℕ) → bytes q o ≡ old q o) → IsDone old new b w ok → (q o : ℕ)
    → put bytes b (if ok then laid w (bytes b) else new b) q o ≡ new q o
left_at bytes old new b w true same is q o =
    put_at (λ h. h o ≡ new q o) bytes b (laid w (bytes b)) q
    (λ here. laid_is old new b w (bytes b) (same b) is o ∙ ap (λ c. new c o) (sym here))
    (λ ne. same q o ∙ sym (is.1 q o (inl ne)))
left_at bytes old new b w false same is q o =
    put_at (λ h. h o ≡ new q o) bytes b (new b) q
    (λ here. ap (λ c. new c o) (sym here))
    (λ ne. same q o ∙ sym (is q o (inl ne)))

-- what a clean did
abbrev pub IsCleanDone : (old new : ℕ → ℕ → ℕ) → ℕ → Bool → Type 0
IsCleanDone old new b true = IsCleaned old b new
IsCleanDone old new b false = disk.IsTorn old b 0 page new

pub clean_done_is : {X : Type 0} (old new : ℕ → ℕ → ℕ) (b : ℕ) (outcome : Result X Error) (ok : Bool) → OnOk outcome (IsCleaned old b new) → OnErr outcome (disk.IsTorn old b 0 page new)
    → ok ≡ is_ok outcome → IsCleanDone old new b ok
clean_done_is old new b (Ok x) ok cleaned torn is = subst (IsCleanDone old new b) (sym is) cleaned
clean_done_is old new b (Err e) ok cleaned torn is = subst (IsCleanDone old new b) (sym is) torn

pub clean_torn : (old new : ℕ → ℕ → ℕ) (b : ℕ) (ok : Bool) → IsCleanDone old new b ok → (o : ℕ) → page ≤ o → new b o ≡ old b o
clean_torn old new b true is o out = is.1 b o (inr (inr out))
clean_torn old new b false is o out = is b o (inr (inr out))

page_is : (old new : ℕ → ℕ → ℕ) (b : ℕ) (g : ℕ → ℕ) → ((o : ℕ) → g o ≡ old b o) → IsCleaned old b new → (o : ℕ) → cleaned_page g o ≡ new b o
page_is old new b g same is o = go (nat_lt o page) refl
  where
    go : (t : Bool) → nat_lt o page ≡ t → (if t then 0 else g o) ≡ new b o
    go true e = sym (is.0 o (grind (arith, nat_tests)))
    go false e = same o ∙ sym (is.1 b o (inr (inr (grind (arith, nat_tests)))))

pub clean_left_at : (bytes old new : ℕ → ℕ → ℕ) (b : ℕ) (ok : Bool) → ((q o : ℕ) → bytes q o ≡ old q o) → IsCleanDone old new b ok → (q o : ℕ)
    → put bytes b (if ok then cleaned_page (bytes b) else new b) q o ≡ new q o
clean_left_at bytes old new b true same is q o =
    put_at (λ h. h o ≡ new q o) bytes b (cleaned_page (bytes b)) q
    (λ here. page_is old new b (bytes b) (same b) is o ∙ ap (λ c. new c o) (sym here))
    (λ ne. same q o ∙ sym (is.1 q o (inl ne)))
clean_left_at bytes old new b false same is q o =
    put_at (λ h. h o ≡ new q o) bytes b (new b) q
    (λ here. ap (λ c. new c o) (sym here))
    (λ ne. same q o ∙ sym (is q o (inl ne)))
