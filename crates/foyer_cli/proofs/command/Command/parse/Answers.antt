use Rattle.std.proofs.Common.{arith}
use Rattle.foyer_cli.proofs.LineLemmas.{no_space, number_of, put_of, text_of_put, word_from}
use Rattle.foyer_cli.proofs.command.Command.parse.Goals as goal

pub returns-in_err-end : goal.returns-in_err-end
returns-in_err-end c =
    let prefix = c.in-Some-strip_prefix in
    rw c.from_residual-in_err-end.ensures
    (λ command is. no_space prefix.rest.now (put_of c.args.line.now prefix.rest.now prefix.ensures.cases.0 prefix.ensures.cases.1 command is) c.in_err-end.ensures)

pub returns-in_err-key-2 : goal.returns-in_err-key-2
returns-in_err-key-2 c =
    let prefix = c.in-Some-strip_prefix in
    rw c.from_residual-in_err-key-2.ensures
    (λ command is. c.in_err-key-2.ensures _ (number_of prefix.rest.now (put_of c.args.line.now prefix.rest.now prefix.ensures.cases.0 prefix.ensures.cases.1 command is) c.in_ok-end.end c.in_ok-end.ensures))

pub returns-in_default-from_utf8 : goal.returns-in_default-from_utf8
returns-in_default-from_utf8 c =
    let prefix = c.in-Some-strip_prefix in
    λ command is.
    c.in_default-from_utf8.ensures.cases.0 (text_of_put prefix.rest.now (put_of c.args.line.now prefix.rest.now prefix.ensures.cases.0 prefix.ensures.cases.1 command is) c.in_ok-end.end c.in_ok-end.ensures)

pub returns-in-close : goal.returns-in-close
returns-in-close c = word_from _ c.args.line.now 0 (omega arith) (omega arith, (omega arith, (omega arith, (omega arith, (omega arith, tt)))))

pub returns-in-destroy : goal.returns-in-destroy
returns-in-destroy c = word_from _ c.args.line.now 0 (omega arith) (omega arith, (omega arith, (omega arith, (omega arith, (omega arith, (omega arith, (omega arith, tt)))))))
