use Rattle.std.proofs.Common.{◌+◌, ◌*◌, ◌/◌, length, arith}
use Rattle.foyer_cli.proofs.LineLemmas.{byte_of, no_digit, too_large, one_more, digits_one_more, no_four, four_more, digits_four_more, too_large_four}
use Rattle.foyer_cli.proofs.command.number.Goals as goal

pub returns-in_err-number : goal.returns-in_err-number
returns-in_err-number c =
    rw c.from_residual.ensures
    (no_four c.args.digits.now c.as_chunks.result.0.now c.loop-four.four-index c.as_chunks.ensures.front (omega (arith, c.as_chunks.ensures.front_len)) c.in_err-number.ensures)

pub returns-in_err-checked_mul : goal.returns-in_err-checked_mul
returns-in_err-checked_mul c =
    rw c.from_residual-in_err-checked_mul.ensures
    (too_large_four c.args.digits.now c.as_chunks.result.0.now c.loop-four.four-index c.as_chunks.ensures.front (omega (arith, c.as_chunks.ensures.front_len)) c.loop-four.value c.in_ok-number.number c.loop-four.invariant.value c.in_ok-number.ensures (omega (arith, c.in_err-checked_mul.ensures)))

pub returns-in_err-value : goal.returns-in_err-value
returns-in_err-value c =
    rw c.from_residual-in_err-value.ensures
    (too_large_four c.args.digits.now c.as_chunks.result.0.now c.loop-four.four-index c.as_chunks.ensures.front (omega (arith, c.as_chunks.ensures.front_len)) c.loop-four.value c.in_ok-number.number c.loop-four.invariant.value c.in_ok-number.ensures (omega (arith, c.in_ok-checked_mul.ensures, c.in_err-value.ensures)))

pub loop-four-preserved : goal.loop-four-preserved
loop-four-preserved c = record {
  digits = digits_four_more c.args.digits.now c.as_chunks.result.0.now c.loop-four.four-index c.as_chunks.ensures.front (omega (arith, c.as_chunks.ensures.front_len)) c.loop-four.value c.in_ok-number.number c.loop-four.invariant.value c.in_ok-number.ensures _ (omega arith) c.loop-four.invariant.digits;
  value = four_more c.args.digits.now c.as_chunks.result.0.now c.loop-four.four-index c.as_chunks.ensures.front (omega (arith, c.as_chunks.ensures.front_len)) c.loop-four.value c.in_ok-number.number c.loop-four.invariant.value c.in_ok-number.ensures _ _ (omega (arith, c.in_ok-checked_mul.ensures, c.in_ok-value.ensures)) (omega arith);
  fits = omega (arith, c.in_ok-value.ensures);
}

pub returns-in_err-digit : goal.returns-in_err-digit
returns-in_err-digit c =
    rw c.from_residual-in_err-digit.ensures
    (no_digit c.args.digits.now (length c.args.digits.now / 4 * 4 + c.loop-byte.byte-index) (omega (arith, c.as_chunks.ensures.back_len)) _ (byte_of c.args.digits.now c.as_chunks.result.1.now (length c.args.digits.now / 4 * 4) c.loop-byte.byte-index c.as_chunks.ensures.back) c.in_err-digit.ensures.value)

pub returns-in_err-checked_mul-2 : goal.returns-in_err-checked_mul-2
returns-in_err-checked_mul-2 c =
    rw c.from_residual-in_err-checked_mul-2.ensures
    (too_large c.args.digits.now (length c.args.digits.now / 4 * 4 + c.loop-byte.byte-index) (omega (arith, c.as_chunks.ensures.back_len)) _ (byte_of c.args.digits.now c.as_chunks.result.1.now (length c.args.digits.now / 4 * 4) c.loop-byte.byte-index c.as_chunks.ensures.back) c.loop-byte.value c.loop-byte.invariant.value c.in_ok-digit.ensures.value.0 (omega (arith, c.in_err-checked_mul-2.ensures)))

pub returns-in_err-value-2 : goal.returns-in_err-value-2
returns-in_err-value-2 c =
    rw c.from_residual-in_err-value-2.ensures
    (too_large c.args.digits.now (length c.args.digits.now / 4 * 4 + c.loop-byte.byte-index) (omega (arith, c.as_chunks.ensures.back_len)) _ (byte_of c.args.digits.now c.as_chunks.result.1.now (length c.args.digits.now / 4 * 4) c.loop-byte.byte-index c.as_chunks.ensures.back) c.loop-byte.value c.loop-byte.invariant.value c.in_ok-digit.ensures.value.0 (omega (arith, c.in_ok-checked_mul-2.ensures, c.in_err-value-2.ensures, c.in_ok-digit.ensures.value)))

pub loop-byte-preserved : goal.loop-byte-preserved
loop-byte-preserved c = record {
  digits = digits_one_more c.args.digits.now (length c.args.digits.now / 4 * 4 + c.loop-byte.byte-index) (omega (arith, c.as_chunks.ensures.back_len)) _ (byte_of c.args.digits.now c.as_chunks.result.1.now (length c.args.digits.now / 4 * 4) c.loop-byte.byte-index c.as_chunks.ensures.back) c.loop-byte.value c.loop-byte.invariant.value c.in_ok-digit.ensures.value.0 _ (omega arith) c.loop-byte.invariant.digits;
  value = one_more c.args.digits.now (length c.args.digits.now / 4 * 4 + c.loop-byte.byte-index) (omega (arith, c.as_chunks.ensures.back_len)) _ (byte_of c.args.digits.now c.as_chunks.result.1.now (length c.args.digits.now / 4 * 4) c.loop-byte.byte-index c.as_chunks.ensures.back) c.loop-byte.value c.loop-byte.invariant.value c.in_ok-digit.ensures.value.0 _ _ (omega (arith, c.in_ok-checked_mul-2.ensures, c.in_ok-value-2.ensures, c.in_ok-digit.ensures.value)) (omega arith);
  fits = omega (arith, c.in_ok-value-2.ensures);
}
