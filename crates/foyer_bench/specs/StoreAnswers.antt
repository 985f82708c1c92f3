-- What a store is asked, and how its answers are counted.
use Rattle.std.specs.Prelude.{◌≡◌, ◌⊎◌, ◌++◌, ℕ, List, Result, Ok, Err, drop, length, min}
use Rattle.std.specs.declared.alloc.Global.{Global}
use Rattle.std.specs.Global.{Vec}
use Rattle.foyer_bench_stats.specs.declared.answers.GetAnswer.{GetAnswer}
use Rattle.foyer_bench_stats.specs.declared.answers.GetAnswer.TheVariants as got
use Rattle.foyer_bench_stats.specs.declared.answers.PutAnswer.{PutAnswer}
use Rattle.foyer_bench_stats.specs.declared.answers.PutAnswer.TheVariants as put
use Rattle.foyer_bench_stats.specs.Values.{IsValueOf, start_of}
use Rattle.foyer_device_page.specs.declared.error.Error.{Error}
use Rattle.foyer_format_record.specs.declared.serde.NoProperties.{NoProperties}
use Rattle.foyer_policy_piece.specs.Record.{Record}
use Rattle.foyer_storage_engine.specs.declared.engine.Enqueued.{Enqueued}
use Rattle.foyer_storage_engine.specs.declared.engine.Enqueued.TheVariants as enqueued
use Rattle.foyer_storage_engine.specs.declared.load.Load.{Load}
use Rattle.foyer_storage_engine.specs.declared.load.Load.TheVariants as load

-- what a put is counted as
abbrev pub IsPutAnswer : Result Enqueued Error → PutAnswer → Type 0
IsPutAnswer (Ok enqueued.Queued) answer = answer ≡ put.Queued
IsPutAnswer (Ok enqueued.Ignored) answer = answer ≡ put.Dropped
IsPutAnswer (Ok enqueued.Deleted) answer = answer ≡ put.Dropped
IsPutAnswer (Err error) answer = answer ≡ put.Fault

-- a value is its key's, or another
abbrev pub IsHitOrWrong : ℕ → List ℕ → GetAnswer → Type 0
IsHitOrWrong key value answer = ((answer ≡ got.Hit) × IsValueOf key value) ⊎ ((answer ≡ got.Wrong) × ¬ IsValueOf key value)

-- what a get of a key is counted as
abbrev pub IsGetAnswer : ℕ → Result (Load ℕ (Vec ℕ) NoProperties Global) Error → GetAnswer → Type 0
IsGetAnswer key (Ok (load.Entry k value populated)) answer = IsHitOrWrong key value.items answer
IsGetAnswer key (Ok (load.Piece piece populated)) answer = IsHitOrWrong key piece.value.items answer
IsGetAnswer key (Ok load.Throttled) answer = answer ≡ got.Fault
IsGetAnswer key (Ok load.Miss) answer = answer ≡ got.Miss
IsGetAnswer key (Err error) answer = answer ≡ got.Fault

-- the piece of a key's value, under the key as its hash
pub record IsPieceOf (key : ℕ) (filler : List ℕ) (piece : Record ℕ (Vec ℕ) NoProperties) : Type 0 where
  pub key_is : piece.key ≡ key
  pub hash_is : piece.hash ≡ key
  pub value_is : piece.value.items ≡ start_of key filler ++ drop (min (length filler) 8) filler
