use Rattle.std.proofs.Common.{◌≡◌, ℕ, [], ◌∷◌, List, length, refl, sym, ap, ◌∙◌, arith}
use Rattle.std.proofs.lemmas.Bool.Decides.{nat_tests}
use Rattle.std.specs.Prelude.{IsTrue, ◌==◌, ◌↔◌}
use Rattle.foyer_format_buffer.specs.Entries.{entries_at}
use Rattle.foyer_format_buffer.specs.declared.BufferEntryInfo.{BufferEntryInfo}
use Rattle.foyer_device_page.specs.Section.{bytes_of}
use Rattle.foyer_core_flusher.specs.Filled.{entries_in}
use Rattle.foyer_core_flusher.proofs.filled.Filled.is_empty.Goals as goal

empty : (bytes : List ℕ) (infos : List BufferEntryInfo) → IsTrue (length infos == 0) ↔ (entries_at bytes infos ≡ [])
empty bytes [] = (λ _. refl, λ _. refl)
empty bytes (i ∷ is) = (λ e. absurd (grind (arith, nat_tests)), λ e. absurd (omega (arith, ap length e)))

pub returns-in-Full : goal.returns-in-Full
returns-in-Full g c =
    let w = c.in-Full in
    let entries : c.args.self.now.entries ≡ entries_at (bytes_of w.bytes) w.infos.items = sym (ap (λ b. b.entries) c.self.view_is) ∙ ap entries_in w.is in
    rw (c.is_empty-in-Full.ensures, w.infos.ok.0, entries) (empty (bytes_of w.bytes) w.infos.items)
