use Rattle.std.proofs.Common.{◌≡◌, [], sym, ap, subst, ◌∙◌, arith}
use Rattle.foyer_format_buffer.proofs.EntriesLemmas.{size_none}
use Rattle.foyer_format_buffer.specs.Entries.{size_of, entries_at}
use Rattle.foyer_device_page.specs.Section.{bytes_of}
use Rattle.foyer_core_flusher.specs.Filled.{entries_in, IsFull, IsState}
use Rattle.foyer_core_flusher.proofs.FilledLemmas.{full_size}
use Rattle.foyer_core_flusher.proofs.filled.Filled.left.Goals as goal

pub returns-in-Empty : goal.returns-in-Empty
returns-in-Empty g c =
    let none : c.args.self.now.entries ≡ [] = sym (ap (λ b. b.entries) c.self.view_is) ∙ ap entries_in c.in-Empty.is in
    let size : size_of c.args.self.now.entries ≡ 0 = ap size_of none ∙ size_none in
    omega (arith, ap (λ b. b.room) c.self.view_is)

pub returns-in-Full : goal.returns-in-Full
returns-in-Full g c =
    let w = c.in-Full in
    let is : IsFull c.self.inside.room c.self.inside.greatest w.bytes w.infos.items w.written =
    subst (IsState {A = g.row.A.Denot} c.self.inside.room c.self.inside.greatest) w.is c.self.invariant.3 in
    let entries : c.args.self.now.entries ≡ entries_at (bytes_of w.bytes) w.infos.items = sym (ap (λ b. b.entries) c.self.view_is) ∙ ap entries_in w.is in
    let size : size_of c.args.self.now.entries ≡ w.written = ap size_of entries ∙ full_size c.self.inside.room c.self.inside.greatest w.bytes w.infos.items w.written is in
    omega (arith, ap (λ b. b.room) c.self.view_is, c.saturating_sub-in-Full.ensures)
