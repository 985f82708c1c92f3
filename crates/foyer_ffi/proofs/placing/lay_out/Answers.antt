use Rattle.std.proofs.Common.{◌≡◌, ℕ, List, length, ◌≤◌, ◌*◌, ap, sym, subst, refl, inl, inr, ◌∙◌, arith, rules}
use Rattle.foyer_format_layout.specs.Position.{Sizes}
use Rattle.foyer_format_buffer.specs.Entries.{left_of}
use Rattle.foyer_format_layout.specs.Page.{page_up}
use Rattle.foyer_ffi.specs.LaidOut.{record_len, greatest}
use Rattle.foyer_ffi.proofs.LayoutLemmas.{AreLong, AreTaken, not_empty, size_long, taken_more, are_records, passes, too_long}
use Rattle.foyer_ffi.proofs.placing.lay_out.Goals as goal

pub returns-in_err-next-clause-some : goal.returns-in_err-next-clause-some
returns-in_err-next-clause-some c =
    are_records c.args.value.now c.args.records _ c.in-Some.sum
    (taken_more c.args.value.now c.in_ok-value.value.items c.fill-filled.new.buffer.entries c.args.records c.buffers.key c.buffers.taken c.in-Some.sum
    c.new-buffer.result.greatest c.buffers.invariant.value c.buffers.invariant.taken c.fill-filled.ensures.each c.fill-filled.ensures.within
    c.new-buffer.ensures.greatest c.fill-filled.ensures.few (omega (arith, c.in-Some.ensures, c.written.ensures)))

pub returns-then-next-key-clause-some : goal.returns-then-next-key-clause-some
returns-then-next-key-clause-some c =
    are_records c.args.value.now c.args.records _ c.in-Some.sum
    (taken_more c.args.value.now c.in_ok-value.value.items c.fill-filled.new.buffer.entries c.args.records c.buffers.key c.buffers.taken c.in-Some.sum
    c.new-buffer.result.greatest c.buffers.invariant.value c.buffers.invariant.taken c.fill-filled.ensures.each c.fill-filled.ensures.within
    c.new-buffer.ensures.greatest c.fill-filled.ensures.few (omega (arith, c.in-Some.ensures, c.written.ensures)))

pub returns-in_err-pages-clause-some : goal.returns-in_err-pages-clause-some
returns-in_err-pages-clause-some c =
    are_records c.args.value.now c.args.records _ c.in-Some.sum
    (taken_more c.args.value.now c.in_ok-value.value.items c.fill-filled.new.buffer.entries c.args.records c.buffers.key c.buffers.taken c.in-Some.sum
    c.new-buffer.result.greatest c.buffers.invariant.value c.buffers.invariant.taken c.fill-filled.ensures.each c.fill-filled.ensures.within
    c.new-buffer.ensures.greatest c.fill-filled.ensures.few (omega (arith, c.in-Some.ensures, c.written.ensures)))

pub returns-in_default-clause-stopped : goal.returns-in_default-clause-stopped
returns-in_default-clause-stopped c = inl refl

pub returns-in_default-checked_add-clause-stopped : goal.returns-in_default-checked_add-clause-stopped
returns-in_default-checked_add-clause-stopped c =
    let len = record_len (length c.args.value.now) in
    let es = c.fill-filled.new.buffer.entries in
    let each : AreLong len es =
    subst (λ (v : List ℕ). AreLong (record_len (length v)) es) c.buffers.invariant.value c.fill-filled.ensures.each in
    inr (inr (
      refl,
      passes _ (page_up len) c.buffers.key (length es) c.args.records c.fill-filled.ensures.few
          (omega (arith, c.written.ensures, c.buffers.invariant.taken.sum, size_long len es each)),
    ))

pub returns-then-next-key-clause-stopped : goal.returns-then-next-key-clause-stopped
returns-then-next-key-clause-stopped c =
    let len = record_len (length c.args.value.now) in
    let b = c.fill-filled.new.buffer in
    let none : length b.entries ≡ 0 = omega (arith, c.if-next-key.true, c.in_ok-next.ensures.next) in
    let same = c.buffers.invariant.value in
    let size : c.len.result ≡ length c.args.value.now = c.len.ensures ∙ c.in_ok-value.value.ok.0 ∙ ap (λ (v : List ℕ). length v) c.in_ok-value.ensures.items in
    let each : AreLong len b.entries =
    subst (λ (v : List ℕ). AreLong (record_len (length v)) b.entries) same c.fill-filled.ensures.each in
    let all : left_of b ≡ c.buffer_size-size.result =
    omega (
      arith,
      size_long len b.entries each,
      ap (λ n. n * page_up len) none,
      c.fill-filled.ensures.room,
      c.new-buffer.ensures.room,
      c.buffers.invariant.room,
      c.buffer_size-size.ensures.pages,
    ) in
    inr (inl (
      refl,
      too_long (page_up len) greatest (λ short.
          c.in_ok-next.ensures.full (omega (arith, c.buffers-test.true, c.if-next-key.true))
          (omega (
            arith,
            all,
            ap (λ (v : List ℕ). length v) same,
            size,
            c.buffer_size-size.ensures.room (subst (λ n. page_up (record_len n) ≤ greatest) (sym size) short),
          ))
          (subst (λ (v : List ℕ). page_up (record_len (length v)) ≤ b.greatest) (sym same)
          (omega (arith, short, c.fill-filled.ensures.greatest, c.new-buffer.ensures.greatest)))),
    ))

pub split-requires-clause-each : goal.split-requires-clause-each
split-requires-clause-each c =
    not_empty _ c.fill-filled.new.buffer.entries (omega arith) c.fill-filled.ensures.each

pub buffers-preserved : goal.buffers-preserved
buffers-preserved c =
    let taken = taken_more c.args.value.now c.in_ok-value.value.items c.fill-filled.new.buffer.entries c.args.records c.buffers.key c.buffers.taken c.in-Some.sum
    c.new-buffer.result.greatest c.buffers.invariant.value c.buffers.invariant.taken c.fill-filled.ensures.each c.fill-filled.ensures.within
    c.new-buffer.ensures.greatest c.fill-filled.ensures.few (omega (arith, c.in-Some.ensures, c.written.ensures)) in
    record {
      value = c.buffers.invariant.value;
      block = ap (λ (s : Sizes). s.block) c.split.ensures.sizes ∙ c.buffers.invariant.block;
      index = ap (λ (s : Sizes). s.index) c.split.ensures.sizes ∙ c.buffers.invariant.index;
      room = c.in_ok-pages.ensures.room;
      taken = subst (λ key. AreTaken c.args.value.now c.args.records key c.in-Some.sum) (sym c.in_ok-next.ensures.next) taken;
    }

pub returns-clause-all : goal.returns-clause-all
returns-clause-all c = search rules depth 1
