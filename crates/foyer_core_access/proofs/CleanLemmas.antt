-- A page of zeros is a clean.
use Rattle.std.proofs.Common.{◌≡◌, ℕ, zero, suc, ◌+◌, ◌<◌, replicate, slice_index, Result, Ok, Err, refl, sym, ap, subst, ◌∙◌, arith}
use Rattle.std.proofs.lemmas.List.{length-replicate}
use Rattle.std.specs.Prelude.{OnOk}
use Rattle.foyer_device_page.specs.declared.error.Error.{Error}
use Rattle.foyer_io_disk.specs.Disk.{IsTorn, IsWritten}
use Rattle.foyer_core_model.specs.Numbers.{page}
use Rattle.foyer_core_access.specs.Reclaims.{IsCleaned}

abbrev no_byte : ℕ
no_byte = 0

zero_at : (n i : ℕ) → i < n → slice_index (replicate n no_byte) i ≡ no_byte
zero_at zero i lt = absurd (omega (arith, lt))
zero_at (suc n) zero lt = refl
zero_at (suc n) (suc i) lt = zero_at n i (omega (arith, lt))

-- a page of zeros is written
pub zeros_clean : (old new : ℕ → ℕ → ℕ) (b : ℕ) (outcome : Result Unit Error) → OnOk outcome (IsWritten old b 0 (replicate page no_byte) new) → OnOk outcome (IsCleaned old b new)
zeros_clean old new b (Ok x) is = (
  λ o lt.
      let at : 0 + o ≡ o = omega arith in
      sym (ap (new b) at) ∙ sym (is.0 o (omega (arith, lt, length-replicate page no_byte))) ∙ zero_at page o lt,
  subst (λ n. IsTorn old b 0 n new) (length-replicate page no_byte) is.1,
)
zeros_clean old new b (Err e) is = tt
