-- Sizes against the settings that are planned of them.
use Rattle.std.proofs.Common.{◌≡◌, ℕ, ◌+◌, ◌*◌, ◌/◌, ◌<◌, ◌≤◌, ◌==◌, ◌^◌, Option, None, Some, IfSome, MatchOption, if◌then◌else◌, sym, ap, subst, ◌∙◌, inl, inr, zero, suc, arith}
use Rattle.std.proofs.Math.Nat.{two-pow-succ}
use Rattle.std.proofs.Math.Pow.{pow_mono}
use Rattle.std.proofs.lemmas.Bool.{cases_lt}
use Rattle.std.proofs.lemmas.Bool.Decides.{nat_tests}
use Rattle.std.proofs.lemmas.Nat.{pow_pos}
use Rattle.std.specs.Int.{IsNextPowerOfTwo}
use Rattle.foyer_format_layout.specs.Page.{page_up}
use Rattle.foyer_core_settings.specs.Sizes.{AreValid, IsDefaultShardCount}
use Rattle.foyer_core_settings.specs.declared.settings.Settings.{Settings}
use Rattle.foyer_storage_plan.specs.Plans.{ArePlanned, AreSizes, settings_of}
use Rattle.foyer_storage_plan.specs.declared.sizes.EngineSizes.{EngineSizes}

-- there is some shard exactly if no number of shards is given, or one above 0
some_shard : (given : Option ℕ) (blocks size shards : ℕ)
    → MatchOption given (IsDefaultShardCount blocks size shards) (λ n. shards ≡ n)
    → IfSome given (λ n. 0 < n) → 0 < shards
some_shard None blocks size shards has some = omega (arith, has.1)
some_shard (Some n) blocks size shards has some = omega (arith, has, some)

given_shard : (given : Option ℕ) (blocks size shards : ℕ)
    → MatchOption given (IsDefaultShardCount blocks size shards) (λ n. shards ≡ n)
    → 0 < shards → IfSome given (λ n. 0 < n)
given_shard None blocks size shards has some = tt
given_shard (Some n) blocks size shards has some = omega (arith, has, some)

-- a share of whole pages is more than nothing exactly if a share is at least a page
some_buffer : (flushers pool : ℕ) → 0 < flushers → 4096 ≤ pool / flushers
    → 0 < (if flushers == 0 then 0 else pool / flushers / 4096 * 4096)
some_buffer flushers pool some share = grind (arith, nat_tests)

some_share : (flushers pool : ℕ) → 0 < (if flushers == 0 then 0 else pool / flushers / 4096 * 4096)
    → 4096 ≤ pool / flushers
some_share flushers pool room = grind (arith, nat_tests)

-- an index that is smaller than a block is no larger than the greatest block
pub small_index : (s : EngineSizes) → AreSizes s → s.blob_index_size ≤ 2 ^ 32
unfolding page_up
small_index s sizes = omega (arith, sizes.room, sizes.offsets_fit)

pub planned_valid : (s : EngineSizes) (blocks : ℕ) (planned : Settings) → s.flushers ≤ blocks → ArePlanned s blocks planned
    → AreSizes s → AreValid planned
unfolding page_up
planned_valid s blocks planned enough is sizes = subst AreValid (sym is.sizes) (record {
  some_flusher = sizes.some_flusher;
  some_shard = some_shard s.indexer_shards _ _ _ is.shards sizes.some_shard;
  enough_blocks = enough;
  whole_block = omega arith;
  offsets_fit = omega arith;
  whole_index = omega arith;
  some_index = omega arith;
  room = sizes.room;
  some_buffer = some_buffer s.flushers s.buffer_pool_size sizes.some_flusher sizes.some_buffer;
  some_reclaimer = sizes.some_reclaimer;
  few_workers = sizes.few_workers;
})

pub valid_sizes : (s : EngineSizes) (blocks : ℕ) (planned : Settings) → 0 < s.recover_concurrency → 0 < s.load_engines
    → ArePlanned s blocks planned → AreValid planned → AreSizes s
unfolding page_up
valid_sizes s blocks planned some load is valid =
    let v = subst AreValid is.sizes valid in
    record {
      some_block = omega (arith, v.room);
      offsets_fit = omega (arith, v.offsets_fit);
      some_index = omega (arith, v.some_index);
      room = v.room;
      some_flusher = v.some_flusher;
      some_buffer = some_share s.flushers s.buffer_pool_size v.some_buffer;
      some_reclaimer = v.some_reclaimer;
      few_workers = v.few_workers;
      some_shard = given_shard s.indexer_shards _ _ _ is.shards v.some_shard;
      some_recoverer = some;
      some_load_engine = load;
    }

-- a power of two below another is at most its half
below_half : (i j : ℕ) → i < j → 2 ^ i ≤ 2 ^ j / 2
below_half i zero below = absurd (omega arith)
below_half i (suc j) below =
    let twice : 2 ^ suc j ≡ 2 ^ j + 2 ^ j = two-pow-succ j in
    let most : 2 ^ i ≤ 2 ^ j = pow_mono (omega arith) in
    omega arith

-- of two powers of two that are the next of one number none is above the other
power_below : (n p q : ℕ) → IsNextPowerOfTwo n p → IsNextPowerOfTwo n q → p ≤ q
power_below n p q is other = elim (cases_lt other.0.0 is.0.0) [
  | inl above ↦
      let half : 2 ^ other.0.0 ≤ 2 ^ is.0.0 / 2 = below_half _ _ above in
      let some : 0 < 2 ^ other.0.0 = pow_pos other.0.0 in
      absurd (omega (arith, is.0.1, is.2, other.0.1, other.1))
  | inr below ↦
      let most : 2 ^ is.0.0 ≤ 2 ^ other.0.0 = pow_mono below in
      omega (arith, is.0.1, other.0.1)
]

power_is_one : (n p q : ℕ) → IsNextPowerOfTwo n p → IsNextPowerOfTwo n q → p ≡ q
power_is_one n p q is other = omega (arith, power_below n p q is other, power_below n q p other is)

shards_are_one : (given : Option ℕ) (blocks size one other : ℕ)
    → MatchOption given (IsDefaultShardCount blocks size one) (λ n. one ≡ n)
    → MatchOption given (IsDefaultShardCount blocks size other) (λ n. other ≡ n) → one ≡ other
shards_are_one None blocks size one other is is' = power_is_one _ one other is is'
shards_are_one (Some n) blocks size one other is is' = is ∙ sym is'

pub plan_one : (s : EngineSizes) (blocks : ℕ) (one other : Settings) → ArePlanned s blocks one → ArePlanned s blocks other
    → one ≡ other
plan_one s blocks one other is is' =
    is.sizes ∙ ap (settings_of s blocks) (shards_are_one s.indexer_shards _ _ _ _ is.shards is'.shards) ∙ sym is'.sizes
