use Rattle.std.proofs.Common.{◌≡◌, ◌++◌, length}
use Rattle.foyer_memcached.specs.MetaReply.{flags_text}
use Rattle.foyer_memcached.specs.Words.{words}
use Rattle.foyer_memcached.proofs.meta_reply.add_flags.Given as goal

abbrev pub invariant-loop-word : goal.invariant-loop-word
invariant-loop-word g l = l.out.items ++ flags_text l.now l.options l.key l.told (words l.rest) ≡ l.fn.out.items ++ flags_text l.now l.options l.key l.fn.facts (words l.fn.flags.rest.now)

abbrev pub decreases-loop-word : goal.decreases-loop-word
decreases-loop-word g l = length l.rest
