use Rattle.std.proofs.Common.{◌+◌, ◌*◌, ◌-◌, ◌∙◌, get_or, length, refl, sym, arith}
use Rattle.std.proofs.lemmas.Bool.{eqb-true, eqb-false}
use Rattle.foyer_memcached.proofs.Lines.{some_length}
use Rattle.foyer_memcached.proofs.Decimals.{one_more, no_digit, number_none, number_empty, too_large, number_is}
use Rattle.foyer_memcached.proofs.words.number.Goals as goal

pub returns-then-is_empty : goal.returns-then-is_empty
returns-then-is_empty c = sym (number_empty c.args.digits.now (eqb-true (length c.args.digits.now) 0 (sym c.is_empty.ensures ∙ c.if-is_empty.true)))

pub returns-then-not-is_ascii_digit : goal.returns-then-not-is_ascii_digit
returns-then-not-is_ascii_digit c =
    let l = c.loop-byte in
    sym (number_none c.args.digits.now (no_digit c.args.digits.now l.byte-index c.loop-byte-test.true l.value l.invariant.value (sym c.is_ascii_digit.ensures.value ∙ c.if-not-is_ascii_digit.true)))

pub returns-in_err-checked_mul : goal.returns-in_err-checked_mul
returns-in_err-checked_mul c =
    let l = c.loop-byte in
    let next = one_more c.args.digits.now l.byte-index c.loop-byte-test.true l.value l.invariant.value (l.value * 10 + (get_or c.args.digits.now l.byte-index 0 - 48)) (sym c.is_ascii_digit.ensures.value ∙ c.if-not-is_ascii_digit.false) refl in
    c.from_residual.ensures ∙ sym (too_large c.args.digits.now _ _ next (omega (arith, c.in_err-checked_mul.ensures)))

pub returns-in_err-value : goal.returns-in_err-value
returns-in_err-value c =
    let l = c.loop-byte in
    let next = one_more c.args.digits.now l.byte-index c.loop-byte-test.true l.value l.invariant.value (l.value * 10 + (get_or c.args.digits.now l.byte-index 0 - 48)) (sym c.is_ascii_digit.ensures.value ∙ c.if-not-is_ascii_digit.false) refl in
    c.from_residual-in_err-value.ensures ∙ sym (too_large c.args.digits.now _ _ next (omega (arith, c.in_ok-checked_mul.ensures, c.in_err-value.ensures, c.from.ensures)))

pub loop-byte-preserved : goal.loop-byte-preserved
loop-byte-preserved c =
    let l = c.loop-byte in
    record {
      value = one_more c.args.digits.now l.byte-index c.loop-byte-test.true l.value l.invariant.value c.in_ok-value.value (sym c.is_ascii_digit.ensures.value ∙ c.if-not-is_ascii_digit.false) (omega (arith, c.in_ok-checked_mul.ensures, c.in_ok-value.ensures, c.from.ensures));
      fits = omega (arith, c.in_ok-value.ensures);
    }

pub returns : goal.returns
returns c =
    let l = c.loop-byte in
    sym (number_is c.args.digits.now l.byte-index l.value (some_length c.args.digits.now (eqb-false (length c.args.digits.now) 0 (sym c.is_empty.ensures ∙ c.if-is_empty.false))) c.loop-byte-test.false l.invariant.value l.invariant.fits)
