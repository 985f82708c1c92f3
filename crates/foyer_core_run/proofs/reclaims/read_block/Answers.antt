use Rattle.std.proofs.Common.{Some, None, refl, subst, ◌∙◌, arith}
use Rattle.foyer_core_laws.specs.Content.{meaning}
use Rattle.foyer_core_run.specs.Reclaims.{Reads}
use Rattle.foyer_core_run.proofs.ReclaimIdle.{unread_more, unread_none}
use Rattle.foyer_core_run.proofs.ReclaimRuns.{reads_more, reads_none, reads_over}
use Rattle.foyer_core_run.proofs.reclaims.read_block.Goals as goal

pub parts-init : goal.parts-init
parts-init g c =
    let m = meaning g.K.Code.encoding g.V.Code.encoding g.K.Code.is_encodable g.V.Code.is_encodable g.K.Code.is_decodable g.V.Code.is_decodable g.P.Properties.age in record {
      known = λ known. known;
      lies = λ b o n h. h;
      counted = omega arith;
      same = refl;
      reads = λ known. reads_none m c.args.block (Some c.args.first) c.args.core.now (g.D.Disk.byte_at c.args.disk.now);
      leads = unread_none m c.args.env.now.reinsertion c.args.block c.args.core.now;
      lent = (refl, refl);
    }

pub returns-in-None-clause-reads : goal.returns-in-None-clause-reads
returns-in-None-clause-reads g c = λ known.
    let m = meaning g.K.Code.encoding g.V.Code.encoding g.K.Code.is_encodable g.V.Code.is_encodable g.K.Code.is_decodable g.V.Code.is_decodable g.P.Properties.age in
    let bytes = g.D.Disk.byte_at c.args.disk.now in
    reads_more m c.args.block (Some c.args.first) (Some c.parts.part) None c.args.core.now c.parts.core c.read_part.new.core bytes (c.parts.invariant.reads known)
    (subst (λ z. Reads m c.args.block (Some c.parts.part) None c.parts.core c.read_part.new.core z) c.parts.invariant.same
    (subst (λ next. Reads m c.args.block (Some c.parts.part) next c.parts.core c.read_part.new.core (g.D.Disk.byte_at c.parts.disk)) c.in-None.is (c.read_part.ensures.reads (c.parts.invariant.known known))))

pub returns-in-None-clause-leads : goal.returns-in-None-clause-leads
returns-in-None-clause-leads g c =
    let m = meaning g.K.Code.encoding g.V.Code.encoding g.K.Code.is_encodable g.V.Code.is_encodable g.K.Code.is_decodable g.V.Code.is_decodable g.P.Properties.age in
    unread_more m c.args.env.now.reinsertion c.parts.env.reinsertion c.args.block c.args.core.now c.parts.core c.read_part.new.core c.parts.invariant.lent.0 c.parts.invariant.leads c.read_part.ensures.leads

pub returns-in-None-clause-known : goal.returns-in-None-clause-known
returns-in-None-clause-known g c = λ known. c.read_part.ensures.known (c.parts.invariant.known known)

pub returns-in-None-clause-same : goal.returns-in-None-clause-same
returns-in-None-clause-same g c = c.read_part.ensures.same ∙ c.parts.invariant.same

pub parts-preserved : goal.parts-preserved
parts-preserved g c =
    let m = meaning g.K.Code.encoding g.V.Code.encoding g.K.Code.is_encodable g.V.Code.is_encodable g.K.Code.is_decodable g.V.Code.is_decodable g.P.Properties.age in
    let bytes = g.D.Disk.byte_at c.args.disk.now in record {
      known = λ known. c.read_part.ensures.known (c.parts.invariant.known known);
      lies = λ b o n h. c.read_part.ensures.lies b o n (c.parts.invariant.lies b o n h);
      counted = omega (arith, c.parts.invariant.counted, c.read_part.ensures.counted);
      same = c.read_part.ensures.same ∙ c.parts.invariant.same;
      reads = λ known.
          reads_more m c.args.block (Some c.args.first) (Some c.parts.part) (Some c.in-Some.next) c.args.core.now c.parts.core c.read_part.new.core bytes (c.parts.invariant.reads known)
          (subst (λ z. Reads m c.args.block (Some c.parts.part) (Some c.in-Some.next) c.parts.core c.read_part.new.core z) c.parts.invariant.same
          (subst (λ next. Reads m c.args.block (Some c.parts.part) next c.parts.core c.read_part.new.core (g.D.Disk.byte_at c.parts.disk)) c.in-Some.is (c.read_part.ensures.reads (c.parts.invariant.known known))));
      leads = unread_more m c.args.env.now.reinsertion c.parts.env.reinsertion c.args.block c.args.core.now c.parts.core c.read_part.new.core c.parts.invariant.lent.0 c.parts.invariant.leads c.read_part.ensures.leads;
      lent = (c.read_part.ensures.lent.0 ∙ c.parts.invariant.lent.0, c.read_part.ensures.lent.1 ∙ c.parts.invariant.lent.1);
    }

pub returns-clause-reads : goal.returns-clause-reads
returns-clause-reads g c = λ known.
    let m = meaning g.K.Code.encoding g.V.Code.encoding g.K.Code.is_encodable g.V.Code.is_encodable g.K.Code.is_decodable g.V.Code.is_decodable g.P.Properties.age in
    reads_over m c.args.block (Some c.args.first) (Some c.parts.part) c.args.core.now c.parts.core (g.D.Disk.byte_at c.args.disk.now) (c.parts.invariant.reads known)

pub returns-clause-leads : goal.returns-clause-leads
returns-clause-leads g c = c.parts.invariant.leads

pub returns-clause-known : goal.returns-clause-known
returns-clause-known g c = c.parts.invariant.known

pub returns-clause-same : goal.returns-clause-same
returns-clause-same g c = c.parts.invariant.same

pub returns-in-None-clause-lent : goal.returns-in-None-clause-lent
returns-in-None-clause-lent g c = (c.read_part.ensures.lent.0 ∙ c.parts.invariant.lent.0, c.read_part.ensures.lent.1 ∙ c.parts.invariant.lent.1)

pub returns-clause-lent : goal.returns-clause-lent
returns-clause-lent g c = c.parts.invariant.lent

pub returns-in-None-clause-lies : goal.returns-in-None-clause-lies
returns-in-None-clause-lies g c = λ b o n h. c.read_part.ensures.lies b o n (c.parts.invariant.lies b o n h)

pub returns-in-None-clause-counted : goal.returns-in-None-clause-counted
returns-in-None-clause-counted g c = omega (arith, c.parts.invariant.counted, c.read_part.ensures.counted)

pub returns-clause-lies : goal.returns-clause-lies
returns-clause-lies g c = c.parts.invariant.lies

pub returns-clause-counted : goal.returns-clause-counted
returns-clause-counted g c = c.parts.invariant.counted
