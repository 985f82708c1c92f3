use Rattle.std.proofs.Common.{◌≡◌, [], sym, ap, subst, ◌∙◌, IfOk}
use Rattle.foyer_format_buffer.specs.Entries.{entries_at}
use Rattle.foyer_device_page.specs.Section.{bytes_of}
use Rattle.foyer_core_flusher.specs.Filled.{AreSome, IsFull, IsShared, IsState, entries_in}
use Rattle.foyer_core_flusher.proofs.FilledLemmas.{full_shared, none_is_shared, ok_both, ok_more}
use Rattle.foyer_core_flusher.proofs.filled.Filled.shared.Goals as goal
use Rattle.foyer_core_flusher.proofs.filled.Filled.shared.Goals.{in-Full, in-Empty, in-Open}

pub returns-clause-shared : goal.returns-clause-shared
returns-clause-shared g c =
    let i = c.self.inside in
    let b = c.args.self.now in
    let entries : b.entries ≡ entries_in i.state = sym (ap (λ v. v.entries) (c.self.view_is ∙ c.seal.ensures)) in
    let greatest : b.greatest ≡ i.greatest = sym (ap (λ v. v.greatest) (c.self.view_is ∙ c.seal.ensures)) in
    elim c.match-self.branch [
      | in-Full w ↦
          let full : IsFull i.room i.greatest w.in-Full.bytes w.in-Full.infos.items w.in-Full.written =
          subst (IsState {A = g.row.A.Denot} i.room i.greatest) w.in-Full.is c.self.invariant.3 in
          let same : b.entries ≡ entries_at (bytes_of w.in-Full.bytes) w.in-Full.infos.items = entries ∙ ap entries_in w.in-Full.is in
          subst (λ r. IfOk r (λ p. IsShared b p.0 p.1.items)) (sym w.result-is)
          (ok_both w.share.result
          (λ p bytes infos. full_shared b i.room i.greatest w.in-Full.bytes p.0 w.in-Full.infos.items p.1.items w.in-Full.written full same greatest
          (subst AreSome (sym entries) c.self.invariant.2) bytes infos)
          w.share.ensures.bytes w.share.ensures.infos)
      | in-Empty w ↦
          let none : b.entries ≡ [] = entries ∙ ap entries_in w.in-Empty.is in
          subst (λ r. IfOk r (λ p. IsShared b p.0 p.1.items)) (sym w.result-is)
          (ok_more w.no_pages.result (λ p is. none_is_shared b p.0 p.1.items none is) w.no_pages.ensures.infos)
      | in-Open w ↦ subst (λ r. IfOk r (λ p. IsShared b p.0 p.1.items)) (sym w.result-is) tt
    ]
