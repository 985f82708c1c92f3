use Rattle.std.proofs.Common.{length, refl, arith}
use Rattle.std.proofs.lemmas.Result.{MatchResult-from_err}
use Rattle.foyer_format_layout.proofs.PageLaws.{page_up-holds, page_up-fewest}
use Rattle.foyer_format_buffer.proofs.EntriesLemmas.{shown, one_more, none_more, keeps, never, on_err}
use Rattle.foyer_format_buffer.proofs.entries.Buffer.push_slice.Goals as goal

pub returns-then-room-len-clause-fits : goal.returns-then-room-len-clause-fits
returns-then-room-len-clause-fits g c =
    let i = c.self.inside in
    let inv = c.self.invariant in
    let s = shown c.args.self.now i.pages.bytes i.entry_infos.items i.pages.written i.max_entry_size c.self.view_is inv.0 inv.1 i.pages.within inv.3 in
    (λ e. absurd (never e), λ fits. absurd (omega (arith, fits.0, fits.1, page_up-holds (length c.args.slice.now), s.greatest, s.left, c.left.ensures, c.min-room.ensures, c.if-room-len.true)))

pub whole_pages-aligned-requires : goal.whole_pages-aligned-requires
whole_pages-aligned-requires g c =
    omega (arith, page_up-fewest (length c.args.slice.now), c.if-room-len.false, c.min-room.ensures, c.self.invariant.4)

pub returns-then-room-aligned-clause-fits : goal.returns-then-room-aligned-clause-fits
returns-then-room-aligned-clause-fits g c =
    let i = c.self.inside in
    let inv = c.self.invariant in
    let s = shown c.args.self.now i.pages.bytes i.entry_infos.items i.pages.written i.max_entry_size c.self.view_is inv.0 inv.1 i.pages.within inv.3 in
    (λ e. absurd (never e), λ fits. absurd (omega (arith, fits.0, fits.1, s.greatest, s.left, c.left.ensures, c.min-room.ensures, c.whole_pages-aligned.ensures, c.if-room-aligned.true)))

pub put_slice-requires : goal.put_slice-requires
put_slice-requires g c =
    omega (arith, page_up-holds (length c.args.slice.now), c.left.ensures, c.min-room.ensures, c.whole_pages-aligned.ensures, c.if-room-aligned.false, c.self.inside.pages.within)

pub returns-in_err-push-clause-refused : goal.returns-in_err-push-clause-refused
returns-in_err-push-clause-refused g c =
    let i = c.self.inside in
    let inv = c.self.invariant in
    let put = c.put_slice.ensures in
    let same = none_more c.args.self.now i.pages.bytes c.put_slice.new.self.bytes i.entry_infos.items i.pages.written i.max_entry_size c.self.view_is inv.0 inv.1 put.size put.front in
    MatchResult-from_err c.from_residual.result _ _ c.from_residual.ensures.0 (λ y. rw c.in_err-push.ensures.items same)

pub invariant_of-self-2 : goal.invariant_of-self-2
invariant_of-self-2 g c =
    let i = c.self.inside in
    let inv = c.self.invariant in
    let put = c.put_slice.ensures in
    let kept = keeps i.entry_infos.items c.push.new.self.items _ i.pages.written c.whole_pages-aligned.result i.max_entry_size c.in_ok-push.ensures.items
    inv.0 inv.1 inv.2 put.written c.whole_pages-aligned.ensures (omega (arith, c.min-room.ensures, c.if-room-aligned.false)) in
    (kept.0, rw put.written kept.1, kept.2, rw put.size inv.3, inv.4)

pub returns-clause-pushed : goal.returns-clause-pushed
returns-clause-pushed g c =
    let i = c.self.inside in
    let inv = c.self.invariant in
    let put = c.put_slice.ensures in
    let more = one_more c.args.self.now i.pages.bytes c.put_slice.new.self.bytes c.args.slice.now i.entry_infos.items i.pages.written c.args.hash c.args.sequence
    (length c.args.slice.now) i.max_entry_size c.self.view_is inv.0 inv.1 put.size put.front put.put in
    rw (c.in_ok-push.ensures.items, put.written) more

pub returns-clause-fits : goal.returns-clause-fits
returns-clause-fits g c =
    let i = c.self.inside in
    let inv = c.self.invariant in
    let s = shown c.args.self.now i.pages.bytes i.entry_infos.items i.pages.written i.max_entry_size c.self.view_is inv.0 inv.1 i.pages.within inv.3 in
    let room = c.min-room.ensures in (
      λ _. (
        omega (arith, s.left, c.left.ensures, room, c.whole_pages-aligned.ensures, c.if-room-aligned.false),
        omega (arith, s.greatest, room, c.whole_pages-aligned.ensures, c.if-room-aligned.false),
      ),
      λ _. refl,
    )

pub returns-in_err-push-clause-due : goal.returns-in_err-push-clause-due
returns-in_err-push-clause-due g c =
    let i = c.self.inside in
    let inv = c.self.invariant in
    let s = shown c.args.self.now i.pages.bytes i.entry_infos.items i.pages.written i.max_entry_size c.self.view_is inv.0 inv.1 i.pages.within inv.3 in
    let room = c.min-room.ensures in
    on_err c.from_residual.result (
      omega (arith, s.left, c.left.ensures, room, c.whole_pages-aligned.ensures, c.if-room-aligned.false),
      omega (arith, s.greatest, room, c.whole_pages-aligned.ensures, c.if-room-aligned.false),
    )
