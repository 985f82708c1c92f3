use Rattle.std.proofs.Common.{◌≡◌, ℕ, [], ◌∷◌, List, length, refl, ap, arith}
use Rattle.std.proofs.lemmas.Bool.Decides.{nat_tests}
use Rattle.std.specs.Prelude.{IsTrue, ◌==◌, ◌↔◌}
use Rattle.foyer_format_buffer.specs.Entries.{entries_at}
use Rattle.foyer_format_buffer.specs.declared.BufferEntryInfo.{BufferEntryInfo}
use Rattle.foyer_format_buffer.proofs.entries.Buffer.is_empty.Goals as goal

empty : (bytes : List ℕ) (infos : List BufferEntryInfo) → IsTrue (length infos == 0) ↔ (entries_at bytes infos ≡ [])
empty bytes [] = (λ _. refl, λ _. refl)
empty bytes (i ∷ is) = (λ e. absurd (grind (arith, nat_tests)), λ e. absurd (omega (arith, ap length e)))

pub returns : goal.returns
returns g c =
    let i = c.self.inside in
    rw (c.is_empty.ensures, i.entry_infos.ok.0, ← c.self.view_is) (empty i.pages.bytes i.entry_infos.items)
