-- What fits into a buffer is what the plain machine says.
use Rattle.std.proofs.Common.{◌≡◌, ℕ, ◌+◌, ◌-◌, ◌%◌, ◌≤◌, List, [], ◌∷◌, map, length, refl, sym, ap, ◌∙◌, arith}
use Rattle.std.specs.Prelude.{◌↔◌}
use Rattle.foyer_format_buffer.proofs.EntriesLemmas.{size_none, size_cons}
use Rattle.foyer_format_buffer.specs.Entries.{Entries, left_of, size_of}
use Rattle.foyer_format_layout.proofs.PageLaws.{page_up-holds, even-page_up, page_up-least}
use Rattle.foyer_format_layout.specs.Page.{page_up}
use Rattle.foyer_core_model.specs.Receive.{bytes_taken, Fits}
use Rattle.foyer_core_model.specs.Record.{Record}
use Rattle.foyer_core_model.specs.Rules.{Rules}
use Rattle.foyer_core_model.specs.State.{State, Flusher}
use Rattle.foyer_core_layout.specs.Bridge.{kept_of}
use Rattle.foyer_core_layout.specs.Splits.{AreRules}

module _ {C : Type 0} where
  size_is : (rs : List (Record C)) → size_of (map kept_of rs) ≡ bytes_taken page_up rs
  size_is [] = size_none
  size_is (r ∷ rs) = omega (arith, size_cons (kept_of r) (map kept_of rs), size_is rs)

  even_taken : (rs : List (Record C)) → bytes_taken page_up rs % 4096 ≡ 0
  even_taken [] = refl
  even_taken (r ∷ rs) = omega (arith, even-page_up (length r.bytes), even_taken rs)

  same_taken : (pages : ℕ → ℕ) → ((n : ℕ) → pages n ≡ page_up n) → (rs : List (Record C)) → bytes_taken pages rs ≡ bytes_taken page_up rs
  same_taken pages same [] = refl
  same_taken pages same (r ∷ rs) = omega (arith, same (length r.bytes), same_taken pages same rs)

  pub fits_agree : (rules : Rules C) (old : State C) (φ : Flusher C) (b : Entries) (n : ℕ) (bytes : List ℕ)
      → AreRules rules → b.room ≡ rules.room φ.context → b.room % 4096 ≡ 0 → rules.index_size + b.greatest ≡ rules.block_size
      → map kept_of φ.buffer ≡ b.entries → length bytes ≡ 36 + n
      → ((36 + n ≤ left_of b) × (page_up (36 + n) ≤ b.greatest)) ↔ Fits rules old φ bytes
  fits_agree rules old φ b n bytes are room even sizes same len =
      let size : size_of b.entries ≡ bytes_taken page_up φ.buffer = ap size_of (sym same) ∙ size_is φ.buffer in
      let pages : ℕ = page_up (36 + n) in
      let its : rules.page_up (length bytes) ≡ pages = are.pages (length bytes) ∙ ap page_up len in
      let taken : bytes_taken rules.page_up φ.buffer ≡ bytes_taken page_up φ.buffer = same_taken rules.page_up are.pages φ.buffer in
      let whole : bytes_taken page_up φ.buffer % 4096 ≡ 0 = even_taken φ.buffer in
      let above : 36 + n ≤ pages = page_up-holds (36 + n) in (
        (λ fits.
            let left : 36 + n ≤ b.room - size_of b.entries = fits.0 in
            let rest : (b.room - size_of b.entries) % 4096 ≡ 0 = omega (arith, size, whole, even) in
            let least : pages ≤ b.room - size_of b.entries = page_up-least (36 + n) (b.room - size_of b.entries) left rest in
            (omega (arith, size, its, taken, room, least), omega (arith, its, sizes, fits.1))),
        (λ fits. (omega (arith, size, its, taken, room, fits.0), omega (arith, its, sizes, fits.1))),
      )
