use Rattle.std.proofs.Common.{◌≡◌, ◌⊎◌, false, [], arith, None, Some, inl, inr, refl, sym, subst, ◌∙◌}
use Rattle.foyer_block_index.proofs.Found.{slice_get_at}
use Rattle.std.specs.Prelude.{drop, length, slice_get}
use Rattle.foyer_io_disk.specs.Disk.{SurelyCame}
use Rattle.foyer_io_disk.proofs.FaultLemmas.{came_behind}
use Rattle.foyer_core_steps.specs.Issuing.{written_bytes}
use Rattle.foyer_core_laws.specs.Content.{meaning}
use Rattle.foyer_core_steps.specs.Refines.{IsRefined, Refines}
use Rattle.foyer_core_steps.specs.Asked.{went_well}
use Rattle.foyer_core_steps.specs.declared.reply.Reply.TheVariants as reply
use Rattle.foyer_core_steps.specs.declared.step.Step.TheVariants as step
use Rattle.foyer_core_steps.proofs.FlushTurns.{went_is}
use Rattle.foyer_core_run.proofs.AccessLemmas.{no_block, writing_first, written_all, written_ends, written_none, written_on, written_so_far}
use Rattle.foyer_core_run.proofs.DriveLemmas.{writes_drive}
use Rattle.foyer_core_run.proofs.HonestLemmas.{block_fails, report_fails, unsure_behind}
use Rattle.foyer_core_run.proofs.RestLemmas.{block_asks, block_keeps, report_asks, report_more}
use Rattle.foyer_core_run.proofs.WriteLemmas.{done_is}
use Rattle.foyer_core_run.proofs.WriteRuns.{WritesSoFar, wrote_last, wrote_more, wrote_none, wrote_nothing, wrote_so_far}
use Rattle.foyer_core_run.proofs.accesses.write_block.Goals as goal

pub returns-in_default : goal.returns-in_default
returns-in_default g c =
    let m = meaning g.K.Code.encoding g.V.Code.encoding g.K.Code.is_encodable g.V.Code.is_encodable g.K.Code.is_decodable g.V.Code.is_decodable g.P.Properties.age in
    let bytes = g.D.Disk.byte_at c.args.disk.now in
    let writes =
    written_none m c.args.flusher c.apply.result c.args.core.now c.apply.new.self bytes
    (λ s sound v at. c.apply.ensures.meets s sound v.core at) (no_block c.apply.result c.in_default.not-Write) in
    record {
      writes = λ known. writes;
      drives = λ known. writes_drive m c.args.flusher (Some c.apply.result) c.args.core.now c.apply.new.self bytes bytes writes;
      caused = λ known. wrote_nothing m (SurelyCame (g.D.Disk.surely_has c.args.disk.now) (g.D.Disk.surely_lies c.args.disk.now) (g.D.Disk.faults c.args.disk.now) (g.D.Disk.faults c.args.disk.now)) c.args.flusher c.apply.result c.args.core.now c.apply.new.self bytes c.apply.ensures.meets;
      ends = block_asks m c.args.flusher c.apply.result c.args.core.now c.apply.new.self c.apply.ensures.meets;
      leads = block_keeps m c.args.flusher c.apply.result c.args.core.now c.apply.new.self c.apply.ensures.meets;
      lent = c.apply.ensures.lent;
      known = λ known. known;
      has = λ b o n h. h;
      lies = λ b o n h. h;
      counted = omega arith;
      honest = block_fails m c.args.flusher c.apply.result c.args.core.now c.apply.new.self (SurelyCame (g.D.Disk.surely_has c.args.disk.now) (g.D.Disk.surely_lies c.args.disk.now) (g.D.Disk.faults c.args.disk.now) (g.D.Disk.faults c.args.disk.now)) (g.D.Disk.is_known c.args.disk.now) bytes c.apply.ensures.meets;
    }

pub writes-init : goal.writes-init
writes-init g c =
    let m = meaning g.K.Code.encoding g.V.Code.encoding g.K.Code.is_encodable g.V.Code.is_encodable g.K.Code.is_decodable g.V.Code.is_decodable g.P.Properties.age in record {
      known = λ known. known;
      has = λ b o n h. h;
      lies = λ b o n h. h;
      counted = omega arith;
      still = c.apply.ensures.still c.args.flusher refl;
      written = λ known. record {
        ws = c.in-Write.writes;
        rest = [];
        rest_is = refl;
        within = omega arith;
        items_are = sym c.deref-write-items.ensures.value;
        writing = λ s sound w stands same.
            writing_first m s sound w c.args.flusher c.in-Write.block c.in-Write.writes c.args.core.now c.apply.new.self (g.D.Disk.byte_at c.args.disk.now) stands same
            (λ v at. subst (λ r. IsRefined m s sound (step.FlushBlock c.args.flusher) r c.apply.new.self v.core) c.in-Write.is (c.apply.ensures.meets s sound v.core at));
      };
      so_far = λ known.
          subst (λ xs. WritesSoFar m c.args.flusher c.in-Write.block xs c.args.core.now c.apply.new.self (g.D.Disk.byte_at c.args.disk.now) (g.D.Disk.byte_at c.args.disk.now)) (sym c.deref-write-items.ensures.value)
          (wrote_none m c.args.flusher c.in-Write.block c.in-Write.writes c.args.core.now c.apply.new.self (g.D.Disk.byte_at c.args.disk.now)
          (subst (λ r. Refines m (step.FlushBlock c.args.flusher) r c.args.core.now c.apply.new.self) c.in-Write.is c.apply.ensures.meets));
      leads = block_keeps m c.args.flusher c.apply.result c.args.core.now c.apply.new.self c.apply.ensures.meets;
      lent = c.apply.ensures.lent;
    }

pub returns-then-not-wants_next_write : goal.returns-then-not-wants_next_write
returns-then-not-wants_next_write g c =
    let m = meaning g.K.Code.encoding g.V.Code.encoding g.K.Code.is_encodable g.V.Code.is_encodable g.K.Code.is_decodable g.V.Code.is_decodable g.P.Properties.age in
    let b = c.in-Write.block in
    let before = g.D.Disk.byte_at c.writes.disk in
    let after = g.D.Disk.byte_at c.do_write-wrote.new.disk in
    let write = c.write-item.result in
    let outcome = c.do_write-wrote.result in
    let at = slice_get_at c.deref-write-items.result.now c.writes.write-index write c.writes-test.true c.write-item.is in
    let ok = c.is_ok-went_well.ensures.value ∙ went_is outcome in
    let why : (went_well outcome ≡ false) ⊎ (c.apply-reply.result ≡ reply.Next → ⊥) = elim c.if-not-wants_next_write.ensures [ inl failed ↦ inl (sym ok ∙ failed) | inr last ↦ inr last ] in
    let writes = λ (known : g.D.Disk.is_known c.args.disk.now).
    written_ends m c.args.flusher b c.writes.write-index c.deref-write-items.result.now write outcome c.apply-reply.result c.args.core.now c.writes.core c.apply-reply.new.self
    (g.D.Disk.byte_at c.args.disk.now) before after (c.writes.invariant.written known) at
    (done_is before after b write outcome (c.do_write-wrote.ensures.wrote (c.writes.invariant.known known)) (c.do_write-wrote.ensures.torn (c.writes.invariant.known known)))
    (λ s sound v at. c.apply-reply.ensures.meets s sound v.core at)
    why in
    let unsure = unsure_behind outcome (λ x y z sure. came_behind (g.D.Disk.surely_has c.args.disk.now) (g.D.Disk.surely_lies c.args.disk.now) (g.D.Disk.faults c.args.disk.now) (g.D.Disk.faults c.writes.disk) (g.D.Disk.faults c.do_write-wrote.new.disk)
    c.writes.invariant.counted c.do_write-wrote.ensures.counted (g.D.Disk.surely_has c.writes.disk) (g.D.Disk.surely_lies c.writes.disk) c.writes.invariant.has c.writes.invariant.lies x y z sure)
    b write.offset (length (written_bytes write.bytes)) c.do_write-wrote.ensures.fails in
    record {
      writes = writes;
      caused = λ known.
          wrote_last m c.args.flusher b c.writes.write-index c.deref-write-items.result.now write outcome c.apply-reply.result c.args.core.now c.writes.core c.apply-reply.new.self
          (g.D.Disk.byte_at c.args.disk.now) before after (c.writes.invariant.so_far known) at
          (done_is before after b write outcome (c.do_write-wrote.ensures.wrote (c.writes.invariant.known known)) (c.do_write-wrote.ensures.torn (c.writes.invariant.known known)))
          c.apply-reply.ensures.meets
          (SurelyCame (g.D.Disk.surely_has c.args.disk.now) (g.D.Disk.surely_lies c.args.disk.now) (g.D.Disk.faults c.args.disk.now) (g.D.Disk.faults c.do_write-wrote.new.disk))
          unsure;
      honest = λ failed s sound it stands. record {
        block = b;
        writes = c.in-Write.writes;
        issued = c.apply.new.self;
        issues = subst (λ r. Refines m (step.FlushBlock c.args.flusher) r c.args.core.now c.apply.new.self) c.in-Write.is c.apply.ensures.meets;
        count = c.writes.write-index;
        write = write;
        there = subst (λ l. slice_get l c.writes.write-index ≡ Some write) c.deref-write-items.ensures.value at;
        core = c.writes.core;
        still = c.writes.invariant.still;
        runs = λ known.
            let far = written_so_far m c.args.flusher b c.writes.write-index c.deref-write-items.result.now c.args.core.now c.writes.core (g.D.Disk.byte_at c.args.disk.now) before (c.writes.invariant.written known) in
            (far.0, far.1, far.2 ∙ c.deref-write-items.ensures.value, far.3);
        cause = report_fails c.args.flusher outcome c.writes.core unsure (c.apply-reply.ensures.failed failed);
      };
      has = λ x o n h. c.do_write-wrote.ensures.has x o n (c.writes.invariant.has x o n h);
      lies = λ x o n h. c.do_write-wrote.ensures.lies x o n (c.writes.invariant.lies x o n h);
      counted = omega (arith, c.writes.invariant.counted, c.do_write-wrote.ensures.counted);
      ends = report_asks m c.args.flusher outcome c.apply-reply.result c.args.core.now c.writes.core c.apply-reply.new.self c.writes.invariant.leads c.apply-reply.ensures.meets why;
      drives = λ known. writes_drive m c.args.flusher (Some c.apply-reply.result) c.args.core.now c.apply-reply.new.self (g.D.Disk.byte_at c.args.disk.now) after (writes known);
      leads = report_more m c.args.flusher outcome c.apply-reply.result c.args.core.now c.writes.core c.apply-reply.new.self c.writes.invariant.leads c.apply-reply.ensures.meets;
      lent = (c.apply-reply.ensures.lent.0 ∙ c.writes.invariant.lent.0, c.apply-reply.ensures.lent.1 ∙ c.writes.invariant.lent.1);
      known = λ known. c.do_write-wrote.ensures.known (c.writes.invariant.known known);
    }

pub writes-preserved : goal.writes-preserved
writes-preserved g c =
    let m = meaning g.K.Code.encoding g.V.Code.encoding g.K.Code.is_encodable g.V.Code.is_encodable g.K.Code.is_decodable g.V.Code.is_decodable g.P.Properties.age in
    let b = c.in-Write.block in
    let before = g.D.Disk.byte_at c.writes.disk in
    let after = g.D.Disk.byte_at c.do_write-wrote.new.disk in
    let write = c.write-item.result in
    let outcome = c.do_write-wrote.result in
    let at = slice_get_at c.deref-write-items.result.now c.writes.write-index write c.writes-test.true c.write-item.is in
    let ok = c.is_ok-went_well.ensures.value ∙ went_is outcome in
    record {
      known = λ known. c.do_write-wrote.ensures.known (c.writes.invariant.known known);
      has = λ x o n h. c.do_write-wrote.ensures.has x o n (c.writes.invariant.has x o n h);
      lies = λ x o n h. c.do_write-wrote.ensures.lies x o n (c.writes.invariant.lies x o n h);
      counted = omega (arith, c.writes.invariant.counted, c.do_write-wrote.ensures.counted);
      still = c.apply-reply.ensures.still_next c.args.flusher outcome refl c.if-not-wants_next_write.ensures.1 ∙ c.writes.invariant.still;
      leads = report_more m c.args.flusher outcome c.apply-reply.result c.args.core.now c.writes.core c.apply-reply.new.self c.writes.invariant.leads c.apply-reply.ensures.meets;
      lent = (c.apply-reply.ensures.lent.0 ∙ c.writes.invariant.lent.0, c.apply-reply.ensures.lent.1 ∙ c.writes.invariant.lent.1);
      written = λ known.
          written_on m c.args.flusher b c.writes.write-index c.deref-write-items.result.now write outcome c.apply-reply.result c.args.core.now c.writes.core c.apply-reply.new.self
          (g.D.Disk.byte_at c.args.disk.now) before after (c.writes.invariant.written known) c.writes-test.true at
          (done_is before after b write outcome (c.do_write-wrote.ensures.wrote (c.writes.invariant.known known)) (c.do_write-wrote.ensures.torn (c.writes.invariant.known known)))
          (λ s sound v at. c.apply-reply.ensures.meets s sound v.core at)
          (sym ok ∙ c.if-not-wants_next_write.ensures.0) c.if-not-wants_next_write.ensures.1;
      so_far = λ known.
          wrote_more m c.args.flusher b c.writes.write-index c.deref-write-items.result.now write outcome c.apply-reply.result c.args.core.now c.writes.core c.apply-reply.new.self
          (g.D.Disk.byte_at c.args.disk.now) before after (c.writes.invariant.so_far known) at
          (done_is before after b write outcome (c.do_write-wrote.ensures.wrote (c.writes.invariant.known known)) (c.do_write-wrote.ensures.torn (c.writes.invariant.known known)))
          c.apply-reply.ensures.meets (sym ok ∙ c.if-not-wants_next_write.ensures.0) c.if-not-wants_next_write.ensures.1;
    }

pub returns : goal.returns
returns g c =
    let m = meaning g.K.Code.encoding g.V.Code.encoding g.K.Code.is_encodable g.V.Code.is_encodable g.K.Code.is_decodable g.V.Code.is_decodable g.P.Properties.age in
    let bytes = g.D.Disk.byte_at c.args.disk.now in
    let after = g.D.Disk.byte_at c.writes.disk in
    let writes = λ (known : g.D.Disk.is_known c.args.disk.now). written_all m c.args.flusher c.in-Write.block c.writes.write-index c.deref-write-items.result.now c.args.core.now c.writes.core bytes after (c.writes.invariant.written known) c.writes-test.false in
    record {
      writes = writes;
      drives = λ known. writes_drive m c.args.flusher None c.args.core.now c.writes.core bytes after (writes known);
      caused = λ known.
          wrote_so_far m (SurelyCame (g.D.Disk.surely_has c.args.disk.now) (g.D.Disk.surely_lies c.args.disk.now) (g.D.Disk.faults c.args.disk.now) (g.D.Disk.faults c.writes.disk))
          c.args.flusher c.in-Write.block (drop c.writes.write-index c.deref-write-items.result.now) c.args.core.now c.writes.core bytes after (c.writes.invariant.so_far known);
      ends = tt;
      honest = tt;
      has = c.writes.invariant.has;
      lies = c.writes.invariant.lies;
      counted = c.writes.invariant.counted;
      leads = c.writes.invariant.leads;
      lent = c.writes.invariant.lent;
      known = c.writes.invariant.known;
    }
