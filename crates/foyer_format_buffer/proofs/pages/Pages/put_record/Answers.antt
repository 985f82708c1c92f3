use Rattle.std.proofs.lemmas.Grind.{common_steps}
use Rattle.std.proofs.Common.{◌≡◌, ◌+◌, length, take, drop, ap, ◌∙◌, arith, rules}
use Rattle.std.proofs.lemmas.List.{length-append, take_at}
use Rattle.foyer_format_buffer.proofs.PagesLemmas.{appended_len, front_kept}
use Rattle.foyer_format_buffer.proofs.pages.Pages.put_record.Goals as goal

pub seal-requires : goal.seal-requires
seal-requires g c =
    let new = c.serialize.new.writer in
    let v = g.V.Code.encoding c.args.value.now in
    let k = g.K.Code.encoding c.args.key.now in
    let ends : new.written ≡ c.args.self.now.written + 36 + (length v + length k) =
    appended_len new.written (c.args.self.now.written + 36) new.bytes c.args.self.now.bytes _ new.within c.requires.header c.in-Ok.ensures.bytes
    ∙ ap (λ n. c.args.self.now.written + 36 + n) (length-append v k) in
    let lens = c.in-Ok.ensures.lens (omega (arith, ends, new.within, new.counted)) in
    let room = c.requires.lens c.in-Ok.ensures.encoded.1 c.in-Ok.ensures.encoded.0 in
    record {
      order = (omega (arith, ends), omega (arith, new.within, ap length c.as_mut_slice-bytes.ensures.value));
      ends = omega (arith, ends, lens.0, lens.1);
      lens = omega (arith, lens.0, lens.1, room);
    }

pub returns-in-Err-clause-front : goal.returns-in-Err-clause-front
returns-in-Err-clause-front g c =
    let new = c.serialize.new.writer in
    let kept = c.in-Err.ensures.kept in
    front_kept c.args.self.now.bytes new.bytes kept.0 c.args.self.now.written (c.args.self.now.written + 36) new.written kept.1
    (omega arith) c.requires.header new.within

pub returns-in-Ok-clause-front : goal.returns-in-Ok-clause-front
returns-in-Ok-clause-front g c =
    let new = c.serialize.new.writer in
    let w = c.args.self.now.written in
    let same = ap length c.as_mut_slice-bytes.ensures.value in
    let sealed = take_at c.seal.new.bytes (drop (length c.seal.new.bytes) new.bytes) (length new.bytes) (omega (arith, c.seal.auto.bytes, same)) in
    ap (take w) sealed ∙ c.seal.ensures.before ∙ ap (take w) c.as_mut_slice-bytes.ensures.value
    ∙ front_kept c.args.self.now.bytes new.bytes _ w (w + 36) new.written c.in-Ok.ensures.bytes (omega arith) c.requires.header new.within

pub returns-in-Err-clause-encoded : goal.returns-in-Err-clause-encoded
returns-in-Err-clause-encoded g c = search rules depth 1

pub invariant_of-self-in-Ok : goal.invariant_of-self-in-Ok
invariant_of-self-in-Ok g c = grind (arith, common_steps)

pub returns-in-Ok-clause-size : goal.returns-in-Ok-clause-size
returns-in-Ok-clause-size g c = grind (arith, common_steps)

pub returns-in-Ok-clause-put : goal.returns-in-Ok-clause-put
returns-in-Ok-clause-put g c = grind (arith, common_steps)
