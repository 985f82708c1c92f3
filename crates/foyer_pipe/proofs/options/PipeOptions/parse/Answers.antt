use Rattle.std.proofs.Common.{map, string_bytes, refl, rules, ap, arith}
use Rattle.std.proofs.lemmas.List.{length-map}
use Rattle.foyer_pipe.specs.Settings.{default_options}
use Rattle.foyer_pipe.proofs.WordLemmas.{first_bad, no_settings, settings-all, settings-more, word_is}
use Rattle.foyer_pipe.proofs.options.PipeOptions.parse.Goals as goal

pub loop-word-init : goal.loop-word-init
loop-word-init g c = record {
  settings = rw c.new-options.ensures (no_settings default_options);
  place = refl;
}

pub returns-in-None : goal.returns-in-None
returns-in-None g c = first_bad (map string_bytes c.args.words.now) c.loop-word.word-index c.loop-word.place c.as_str.result.now c.loop-word.options (rw length-map c.loop-word-test.true) c.loop-word.invariant.settings
    (word_is string_bytes c.args.words.now c.word-item.result c.loop-word.word-index c.as_str.result.now c.word-item.is c.loop-word-test.true c.as_str.ensures.value) c.in-None.ensures c.loop-word.invariant.place

pub loop-word-preserved : goal.loop-word-preserved
loop-word-preserved g c = record {
  settings = settings-more string_bytes c.args.words.now c.word-item.result c.loop-word.word-index c.as_str.result.now default_options c.loop-word.options c.in-Some.changed
      c.loop-word.invariant.settings c.word-item.is c.loop-word-test.true c.as_str.ensures.value c.in-Some.ensures;
  place = omega (arith, c.loop-word.invariant.place);
}
