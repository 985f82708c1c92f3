use Rattle.std.proofs.Common.{◌≡◌, ◌+◌, ℕ, List, true, take, drop, length, refl, sym, ap, ◌∙◌, arith, rules}
use Rattle.std.proofs.lemmas.Result.{MatchResult-from_err}
use Rattle.std.proofs.lemmas.List.{drop-take}
use Rattle.foyer_format_layout.specs.Page.{page_up}
use Rattle.foyer_format_blob.specs.Record.{record_bytes}
use Rattle.foyer_format_layout.proofs.PageLaws.{page_up-holds, page_up-fewest, page_up-least}
use Rattle.foyer_format_buffer.proofs.EntriesLemmas.{shown, one_more, none_more, keeps, never, on_err}
use Rattle.foyer_format_buffer.proofs.entries.Buffer.push.Goals as goal

pub returns-then-room-estimated-clause-fits : goal.returns-then-room-estimated-clause-fits
returns-then-room-estimated-clause-fits g c =
    let i = c.self.inside in
    let inv = c.self.invariant in
    let s = shown c.args.self.now i.pages.bytes i.entry_infos.items i.pages.written i.max_entry_size c.self.view_is inv.0 inv.1 i.pages.within inv.3 in
    let v : List ℕ = g.V.Code.encoding c.args.value.now in
    let k : List ℕ = g.K.Code.encoding c.args.key.now in (
      λ e. absurd (never e),
      λ fits.
          let size = c.estimated_size-estimated.ensures fits.encoded.0 fits.encoded.1 in
          absurd (omega (arith, fits.room, fits.greatest, page_up-holds (36 + (length v + length k)), s.greatest, s.left, c.left.ensures, c.min-room.ensures, c.if-room-estimated.true, size)),
    )

pub whole_pages-padded-requires : goal.whole_pages-padded-requires
whole_pages-padded-requires g c =
    omega (arith, page_up-fewest (c.serialized_len.result + c.estimated_size-estimated.result), c.serialized_len.ensures, c.if-room-estimated.false, c.min-room.ensures, c.self.invariant.4)

pub returns-then-room-padded-clause-fits : goal.returns-then-room-padded-clause-fits
returns-then-room-padded-clause-fits g c =
    let i = c.self.inside in
    let inv = c.self.invariant in
    let s = shown c.args.self.now i.pages.bytes i.entry_infos.items i.pages.written i.max_entry_size c.self.view_is inv.0 inv.1 i.pages.within inv.3 in
    let v : List ℕ = g.V.Code.encoding c.args.value.now in
    let k : List ℕ = g.K.Code.encoding c.args.key.now in (
      λ e. absurd (never e),
      λ fits.
          let size = c.estimated_size-estimated.ensures fits.encoded.0 fits.encoded.1 in
          let least = page_up-least (36 + (length v + length k)) _ fits.room s.even in
          let same : c.serialized_len.result + c.estimated_size-estimated.result ≡ 36 + (length v + length k) =
          omega (arith, c.serialized_len.ensures, size, c.if-room-estimated.false, c.min-room.ensures, inv.4) in
          let padded = c.whole_pages-padded.ensures ∙ ap page_up same in
          absurd (omega (arith, fits.greatest, least, s.greatest, s.left, c.left.ensures, c.min-room.ensures, c.if-room-padded.true, padded)),
    )

pub put_record-requires : goal.put_record-requires
put_record-requires g c =
    let i = c.self.inside in
    let inv = c.self.invariant in
    let v : List ℕ = g.V.Code.encoding c.args.value.now in
    let k : List ℕ = g.K.Code.encoding c.args.key.now in
    let holds = page_up-holds (c.serialized_len.result + c.estimated_size-estimated.result) in
    record {
      header = omega (arith, holds, c.serialized_len.ensures, c.whole_pages-padded.ensures, c.if-room-padded.false, c.min-room.ensures, c.left.ensures, i.pages.within);
      room = λ has_key has_value.
          omega (arith, c.estimated_size-estimated.ensures has_key has_value, holds, c.serialized_len.ensures, c.whole_pages-padded.ensures, c.if-room-padded.false, c.if-room-estimated.false, c.min-room.ensures, c.left.ensures, i.pages.within, inv.4);
      lens = λ has_key has_value.
          omega (arith, c.estimated_size-estimated.ensures has_key has_value, c.if-room-estimated.false, c.min-room.ensures, inv.4);
    }

pub returns-then-not-put_record-clause-fits : goal.returns-then-not-put_record-clause-fits
returns-then-not-put_record-clause-fits g c =
    (λ e. absurd (never e), λ fits. absurd ((rw c.if-not-put_record.true at c.put_record.ensures.encoded) fits.encoded.0 fits.encoded.1))

pub returns-then-not-put_record-clause-kept : goal.returns-then-not-put_record-clause-kept
returns-then-not-put_record-clause-kept g c =
    let i = c.self.inside in
    let inv = c.self.invariant in
    let put = c.put_record.ensures in
    none_more c.args.self.now i.pages.bytes c.put_record.new.self.bytes i.entry_infos.items i.pages.written i.max_entry_size c.self.view_is inv.0 inv.1 put.size put.front

pub returns-in_err-push-clause-refused : goal.returns-in_err-push-clause-refused
returns-in_err-push-clause-refused g c =
    let i = c.self.inside in
    let inv = c.self.invariant in
    let put = c.put_record.ensures in
    let same = none_more c.args.self.now i.pages.bytes c.put_record.new.self.bytes i.entry_infos.items i.pages.written i.max_entry_size c.self.view_is inv.0 inv.1 put.size put.front in
    MatchResult-from_err c.from_residual.result _ _ c.from_residual.ensures.0 (λ y. rw c.in_err-push.ensures.items same)

pub invariant_of-self-2 : goal.invariant_of-self-2
invariant_of-self-2 g c =
    let i = c.self.inside in
    let inv = c.self.invariant in
    let put = c.put_record.ensures in
    let kept = keeps i.entry_infos.items c.push.new.self.items _ i.pages.written c.whole_pages-padded.result i.max_entry_size c.in_ok-push.ensures.items
    inv.0 inv.1 inv.2 put.written c.whole_pages-padded.ensures (omega (arith, c.min-room.ensures, c.if-room-padded.false)) in
    (kept.0, rw put.written kept.1, kept.2, rw put.size inv.3, inv.4)

pub returns-clause-pushed : goal.returns-clause-pushed
returns-clause-pushed g c =
    let i = c.self.inside in
    let inv = c.self.invariant in
    let v : List ℕ = g.V.Code.encoding c.args.value.now in
    let k : List ℕ = g.K.Code.encoding c.args.key.now in
    let put = c.put_record.ensures in
    let done : c.put_record.result ≡ true = search rules in
    let encoded : (g.K.Code.is_encodable c.args.key.now ≡ true) × (g.V.Code.is_encodable c.args.value.now ≡ true) = rw done at put.encoded in
    let size = c.estimated_size-estimated.ensures encoded.0 encoded.1 in
    let len : i.pages.written + 36 + length v + length k ≡ i.pages.written + (c.serialized_len.result + c.estimated_size-estimated.result) =
    omega (arith, c.serialized_len.ensures, size, c.if-room-estimated.false, c.min-room.ensures, inv.4) in
    let written : take (c.serialized_len.result + c.estimated_size-estimated.result) (drop i.pages.written c.put_record.new.self.bytes)
    ≡ record_bytes c.args.hash c.args.sequence k v =
    sym (drop-take i.pages.written (c.serialized_len.result + c.estimated_size-estimated.result) c.put_record.new.self.bytes)
    ∙ ap (λ n. drop i.pages.written (take n c.put_record.new.self.bytes)) (sym len) ∙ rw done at put.put in
    let more = one_more c.args.self.now i.pages.bytes c.put_record.new.self.bytes (record_bytes c.args.hash c.args.sequence k v) i.entry_infos.items i.pages.written c.args.hash c.args.sequence
    (c.serialized_len.result + c.estimated_size-estimated.result) i.max_entry_size c.self.view_is inv.0 inv.1 put.size put.front written in
    rw (c.in_ok-push.ensures.items, put.written) more

pub returns-clause-fits : goal.returns-clause-fits
returns-clause-fits g c =
    let i = c.self.inside in
    let inv = c.self.invariant in
    let s = shown c.args.self.now i.pages.bytes i.entry_infos.items i.pages.written i.max_entry_size c.self.view_is inv.0 inv.1 i.pages.within inv.3 in
    let v : List ℕ = g.V.Code.encoding c.args.value.now in
    let k : List ℕ = g.K.Code.encoding c.args.key.now in
    let done : c.put_record.result ≡ true = search rules in
    let encoded : (g.K.Code.is_encodable c.args.key.now ≡ true) × (g.V.Code.is_encodable c.args.value.now ≡ true) = rw done at c.put_record.ensures.encoded in
    let size = c.estimated_size-estimated.ensures encoded.0 encoded.1 in
    let room = c.min-room.ensures in
    let same : c.serialized_len.result + c.estimated_size-estimated.result ≡ 36 + (length v + length k) =
    omega (arith, c.serialized_len.ensures, size, c.if-room-estimated.false, room, inv.4) in
    let padded = c.whole_pages-padded.ensures ∙ ap page_up same in
    let holds = page_up-holds (36 + (length v + length k)) in (
      λ _. record {
        plain = search rules;
        encoded = encoded;
        room = omega (arith, s.left, c.left.ensures, room, padded, holds, c.if-room-padded.false);
        greatest = omega (arith, s.greatest, room, padded, c.if-room-padded.false);
      },
      λ _. refl,
    )

pub returns-in_err-push-clause-due : goal.returns-in_err-push-clause-due
returns-in_err-push-clause-due g c =
    let i = c.self.inside in
    let inv = c.self.invariant in
    let s = shown c.args.self.now i.pages.bytes i.entry_infos.items i.pages.written i.max_entry_size c.self.view_is inv.0 inv.1 i.pages.within inv.3 in
    let v : List ℕ = g.V.Code.encoding c.args.value.now in
    let k : List ℕ = g.K.Code.encoding c.args.key.now in
    let done : c.put_record.result ≡ true = search rules in
    let encoded : (g.K.Code.is_encodable c.args.key.now ≡ true) × (g.V.Code.is_encodable c.args.value.now ≡ true) = rw done at c.put_record.ensures.encoded in
    let size = c.estimated_size-estimated.ensures encoded.0 encoded.1 in
    let room = c.min-room.ensures in
    let same : c.serialized_len.result + c.estimated_size-estimated.result ≡ 36 + (length v + length k) =
    omega (arith, c.serialized_len.ensures, size, c.if-room-estimated.false, room, inv.4) in
    let padded = c.whole_pages-padded.ensures ∙ ap page_up same in
    let holds = page_up-holds (36 + (length v + length k)) in
    on_err c.from_residual.result (record {
      plain = search rules;
      encoded = encoded;
      room = omega (arith, s.left, c.left.ensures, room, padded, holds, c.if-room-padded.false);
      greatest = omega (arith, s.greatest, room, padded, c.if-room-padded.false);
    })
