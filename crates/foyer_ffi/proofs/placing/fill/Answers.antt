use Rattle.std.proofs.Common.{rules, ◌≡◌, ◌<◌, ◌^◌, true, false, true≢false, length, ◌≤◌, refl, ap, sym, subst, ◌∙◌, arith}
use Rattle.foyer_ffi.proofs.LayoutLemmas.{pushed, not_pushed}
use Rattle.foyer_format_code.specs.CodeLaws.{sized_number}
use Rattle.foyer_format_buffer.specs.Entries.{Entries, left_of}
use Rattle.foyer_format_layout.specs.Page.{page_up}
use Rattle.foyer_ffi.specs.LaidOut.{record_len}
use Rattle.foyer_ffi.proofs.placing.fill.Goals as goal

pub returns-in_err-push-clause-room : goal.returns-in_err-push-clause-room
returns-in_err-push-clause-room c = ap (λ (b : Entries). b.room) c.in_err-push.ensures.refused ∙ c.keys.invariant.room

pub returns-then-not-branch-clause-room : goal.returns-then-not-branch-clause-room
returns-then-not-branch-clause-room c =
    let done : c.in_ok-push.field-0 ≡ false = search rules in
    ap (λ (b : Entries). b.room) (rw done at c.in_ok-push.ensures.kept) ∙ c.keys.invariant.room

pub returns-then-not-branch-clause-full : goal.returns-then-not-branch-clause-full
returns-then-not-branch-clause-full c more room most =
    let push = c.in_ok-push.ensures in
    let word : c.keys.key-counter < 2 ^ 64 = omega (arith, c.keys-test.true, c.ranges.end.fits) in
    let value : length c.args.value.now.items < 2 ^ 64 = omega (arith, c.args.value.now.ok.0, c.args.value.now.ok.1, c.args.value.now.small) in
    let same = rw c.if-not-branch.true at push.kept in
    not_pushed c.keys.buffer c.keys.key-counter c.args.value.now.items _ _ word refl
    (sized_number c.keys.key-counter (2 ^ 64) word, sized_number (length c.args.value.now.items) (2 ^ 64) value)
    (λ fits. true≢false (sym (push.fits.1 fits) ∙ c.if-not-branch.true))
    (subst (λ (b : Entries). record_len (length c.args.value.now.items) ≤ left_of b) same room)
    (subst (λ (b : Entries). page_up (record_len (length c.args.value.now.items)) ≤ b.greatest) same most)

pub returns-clause-room : goal.returns-clause-room
returns-clause-room c = c.keys.invariant.room

pub keys-preserved : goal.keys-preserved
keys-preserved c =
    let done : c.in_ok-push.field-0 ≡ true = search rules in
    let word : c.keys.key-counter < 2 ^ 64 = omega (arith, c.keys-test.true, c.ranges.end.fits) in
    let push = c.in_ok-push.ensures in
    let is = pushed c.keys.buffer c.push.new.self c.keys.key-counter c.args.value.now.items _ _ word c.keys.invariant.each
    (rw done at push.pushed) (push.fits.0 done) in
    record {
      each = is.each;
      within = λ some. omega (arith, is.fits, is.greatest);
      greatest = is.greatest ∙ c.keys.invariant.greatest;
      room = is.room ∙ c.keys.invariant.room;
      count = omega (arith, is.count, c.keys.invariant.count);
    }
