use Rattle.std.proofs.Common.{◌≡◌, arith, sym, ap, subst, ◌∙◌}
use Rattle.std.specs.Prelude.{MatchOption, Some, None, length, slice_get}
use Rattle.foyer_core_run.specs.Running.{write_at}
use Rattle.foyer_core_run.proofs.ListLemmas.{found_at, has_room, looked}
use Rattle.foyer_core_run.proofs.WriteLemmas.{none_at_all}
use Rattle.foyer_core_run.proofs.moves.writes.next_write.Goals as goal

pub returns-in-Write-clause-write : goal.returns-in-Write-clause-write
returns-in-Write-clause-write g c =
    let n = c.args.issued.now.next in
    let found = found_at c.args.replies.now c.args.issued.now.reply c.in-Some.reply.now c.in-Some.ensures.lookup.0 c.in-Some.ensures.lookup.1 in
    subst (λ o. MatchOption c.get-in-Write.result (write_at o n ≡ None) (λ write. write_at o n ≡ Some write.now)) (sym (found ∙ ap Some c.in-Write.is))
    (subst (λ xs. MatchOption c.get-in-Write.result (slice_get xs n ≡ None) (λ write. slice_get xs n ≡ Some write.now)) c.deref.ensures.value
    (looked c.deref.result.now n c.get-in-Write.result c.get-in-Write.ensures.lookup.0 c.get-in-Write.ensures.lookup.1))

pub returns-in-Write-clause-room : goal.returns-in-Write-clause-room
returns-in-Write-clause-room g c =
    has_room (length c.deref.result.now) c.args.issued.now.next c.get-in-Write.result c.get-in-Write.ensures.lookup.0
    (omega (arith, c.deref.ensures.len, c.in-Write.writes.small, c.in-Write.writes.ok))

pub returns-in_default-reply : goal.returns-in_default-reply
returns-in_default-reply g c = record {
  write =
      ap (λ o. write_at o c.args.issued.now.next) (found_at c.args.replies.now c.args.issued.now.reply c.in-Some.reply.now c.in-Some.ensures.lookup.0 c.in-Some.ensures.lookup.1)
      ∙ none_at_all c.in-Some.reply.now c.args.issued.now.next c.in_default-reply.not-Write;
  room = tt;
}

pub returns-in_default-clause-write : goal.returns-in_default-clause-write
returns-in_default-clause-write g c =
    let i = c.args.issued.now.reply in
    let none : slice_get c.args.replies.now i ≡ None =
    subst (λ r. MatchOption r (slice_get c.args.replies.now i ≡ None) (λ x. slice_get c.args.replies.now i ≡ Some x.now)) c.in_default.is
    (looked c.args.replies.now i c.get.result c.get.ensures.lookup.0 c.get.ensures.lookup.1) in
    ap (λ o. write_at o c.args.issued.now.next) none
