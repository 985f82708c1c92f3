use Rattle.std.proofs.Common.{◌≡◌, take, map, string_bytes}
use Rattle.foyer_pipe.specs.Settings.{AreSettings, default_options}
use Rattle.foyer_pipe.proofs.options.PipeOptions.parse.Given as goal

abbrev pub invariant-loop-word : goal.invariant-loop-word
invariant-loop-word g l = record {
  settings : AreSettings default_options (take l.word-index (map string_bytes l.words)) l.options;
  place : l.place ≡ l.word-index;
}
