use Rattle.std.proofs.Common.{◌+◌, ◌^◌, ◌<◌, length, drop, map, string_bytes, arith}
use Rattle.std.proofs.lemmas.List.{length-drop, length-map}
use Rattle.std.proofs.lemmas.Result.{err_from_is_err_and}
use Rattle.foyer_bench_stats.specs.Settings.{IsSetting}
use Rattle.foyer_bench_stats.proofs.WordLemmas.{are_refused, bounds-set, has_no_number, later_word_is, no_settings, number_at, rest_is, settings-all, settings-more, word_is}
use Rattle.foyer_bench_stats.proofs.plan.Plan.parse.Goals as goal

pub returns-in_default-clause-read : goal.returns-in_default-clause-read
returns-in_default-clause-read g c = has_no_number (map string_bytes c.args.words.now) 0 1 1024 c.as_str.result.now (rw length-map c.if-words-lt3.false)
    (word_is string_bytes c.args.words.now c.index-words-0.result 0 c.as_str.result.now c.index-words-0.is (omega arith) c.as_str.ensures.value) c.in_default.ensures

pub returns-in_default-number-clause-read : goal.returns-in_default-number-clause-read
returns-in_default-number-clause-read g c = has_no_number (map string_bytes c.args.words.now) 1 0 (2 ^ 30) c.as_str-2.result.now (rw length-map c.if-words-lt3.false)
    (word_is string_bytes c.args.words.now c.index-words-1.result 1 c.as_str-2.result.now c.index-words-1.is (omega arith) c.as_str-2.ensures.value) c.in_default-number.ensures

pub returns-in_default-number-2-clause-read : goal.returns-in_default-number-2-clause-read
returns-in_default-number-2-clause-read g c = has_no_number (map string_bytes c.args.words.now) 2 1 (2 ^ 30) c.as_str-3.result.now (rw length-map c.if-words-lt3.false)
    (word_is string_bytes c.args.words.now c.index-words-2.result 2 c.as_str-3.result.now c.index-words-2.is (omega arith) c.as_str-3.ensures.value) c.in_default-number-2.ensures

pub loop-word-init : goal.loop-word-init
loop-word-init g c = record {
  settings = no_settings _;
  bounds = record {
    some_threads = c.in-Some.ensures.low;
    few_threads = c.in-Some.ensures.high;
    value_bytes = c.in-Some-number.ensures.high;
    some_keys = omega arith;
    few_keys = omega arith;
    skew = omega arith;
  };
}

pub returns-in_err-setting-clause-read : goal.returns-in_err-setting-clause-read
returns-in_err-setting-clause-read g c =
    let p = err_from_is_err_and c.from_residual.result c.from_residual.ensures.1 in
    let one : 3 + c.loop-word.word-index < length c.args.words.now = omega (arith, length-drop 3 c.args.words.now, rw (rest_is c.args.words.now) at c.loop-word-test.true) in
    rw (p.1, p.2)
    (are_refused (map string_bytes c.args.words.now) c.in_err-setting.field-0.0 (3 + c.loop-word.word-index) c.as_str-in-loop-word.result.now (omega arith) (rw length-map one)
    (later_word_is string_bytes c.args.words.now c.word-item.result c.loop-word.word-index c.as_str-in-loop-word.result.now (rw (rest_is c.args.words.now) at c.word-item.is) one c.as_str-in-loop-word.ensures.value) c.in_err-setting.ensures)

pub loop-word-preserved : goal.loop-word-preserved
loop-word-preserved g c =
    let setting : IsSetting c.as_str-in-loop-word.result.now c.in_ok-setting.setting c.in_ok-setting.number = c.in_ok-setting.ensures in
    record {
      settings = settings-more string_bytes (drop 3 c.args.words.now) c.word-item.result c.loop-word.word-index c.as_str-in-loop-word.result.now c.in_ok-setting.setting c.in_ok-setting.number _ c.loop-word.plan c.with-plan.result
          c.loop-word.invariant.settings (rw (rest_is c.args.words.now) at c.word-item.is) (rw (rest_is c.args.words.now) at c.loop-word-test.true) c.as_str-in-loop-word.ensures.value setting c.with-plan.ensures;
      bounds = bounds-set c.in_ok-setting.setting c.in_ok-setting.number c.loop-word.plan c.with-plan.result c.loop-word.invariant.bounds setting.is_number.low setting.is_number.high c.with-plan.ensures;
    }

pub returns-clause-read : goal.returns-clause-read
returns-clause-read g c = record {
  enough = rw length-map c.if-words-lt3.false;
  threads = c.in-Some.threads;
  is_threads = number_at (map string_bytes c.args.words.now) 0 1 1024 c.in-Some.threads c.as_str.result.now (word_is string_bytes c.args.words.now c.index-words-0.result 0 c.as_str.result.now c.index-words-0.is (omega arith) c.as_str.ensures.value) c.in-Some.ensures;
  value_bytes = c.in-Some-number.value_bytes;
  is_value_bytes = number_at (map string_bytes c.args.words.now) 1 0 (2 ^ 30) c.in-Some-number.value_bytes c.as_str-2.result.now (word_is string_bytes c.args.words.now c.index-words-1.result 1 c.as_str-2.result.now c.index-words-1.is (omega arith) c.as_str-2.ensures.value) c.in-Some-number.ensures;
  seconds = c.in-Some-number-2.seconds;
  is_seconds = number_at (map string_bytes c.args.words.now) 2 1 (2 ^ 30) c.in-Some-number-2.seconds c.as_str-3.result.now (word_is string_bytes c.args.words.now c.index-words-2.result 2 c.as_str-3.result.now c.index-words-2.is (omega arith) c.as_str-3.ensures.value) c.in-Some-number-2.ensures;
  settings = settings-all string_bytes c.args.words.now c.loop-word.word-index _ c.loop-word.plan c.loop-word.invariant.settings (rw (rest_is c.args.words.now) at c.loop-word-test.false);
}
