-- Words of the program's arguments, and sizes that go together.
use Rattle.std.proofs.lemmas.Bool.Decides.{nat_tests}
use Rattle.std.specs.Prelude.{Result, IsOk, IsErr}
use Rattle.std.proofs.lemmas.Bool.{false≢true}
use Rattle.std.specs.Int.{div_ceil}
use Rattle.std.proofs.Common.{◌≡◌, ℕ, ◌*◌, ◌%◌, ◌^◌, ◌<◌, ◌≤◌, nat_lt, Bool, true, false, List, [], ◌∷◌, length, slice_index_or, take, Ok, Err, refl, arith}
use Rattle.std.specs.Prelude.{string_bytes}
use Rattle.std.specs.declared.string.String.{String}
use Rattle.foyer_format_layout.specs.Page.{page_up}
use Rattle.foyer_format_layout.proofs.PageLaws.{page_up-holds, even-page_up, page_up-least}
use Rattle.foyer_core_settings.specs.Sizes.{AreValid}
use Rattle.foyer_core_settings.specs.declared.settings.Settings.{Settings}
use Rattle.foyer_cli.specs.Arguments.{AreWords, AreAsked, GoTogether}
use Rattle.foyer_cli.specs.Lines.{IsNumber}
use Rattle.foyer_cli.specs.declared.options.Options.{Options}

module _ {A : Type 0} where
  pub first_number : (words : List (String A)) (o : Options) (d : String A) → AreWords words o → IsNumber (string_bytes (slice_index_or words 1 d)) o.capacity
  first_number [] o d are = absurd are
  first_number (a ∷ []) o d are = absurd are
  first_number (a ∷ (b ∷ [])) o d are = absurd are
  first_number (a ∷ (b ∷ (c ∷ []))) o d are = are.1
  first_number (a ∷ (b ∷ (c ∷ (e ∷ es)))) o d are = absurd are

  -- words that are fewer than three are none
  pub too_few : (words : List (String A)) (o : Options) → length words < 3 → AreWords (take 3 words) o → ⊥
  too_few [] o few are = are
  too_few (a ∷ []) o few are = are
  too_few (a ∷ (b ∷ [])) o few are = are
  too_few (a ∷ (b ∷ (c ∷ ws))) o few are = omega arith

  pub second_number : (words : List (String A)) (o : Options) (d : String A) → AreWords words o → IsNumber (string_bytes (slice_index_or words 2 d)) o.block_size
  second_number [] o d are = absurd are
  second_number (a ∷ []) o d are = absurd are
  second_number (a ∷ (b ∷ [])) o d are = absurd are
  second_number (a ∷ (b ∷ (c ∷ []))) o d are = are.2
  second_number (a ∷ (b ∷ (c ∷ (e ∷ es)))) o d are = absurd are

-- the settings that were asked for are valid if the options go together
pub together_valid : (o : Options) (s : Settings) → AreAsked o s → GoTogether o → AreValid s
together_valid o s asked go =
    let above : o.block_size ≤ page_up o.block_size = page_up-holds o.block_size in
    let below : page_up o.block_size ≤ 2 ^ 32 = page_up-least o.block_size (2 ^ 32) go.offsets refl in
    let even : page_up o.block_size % 4096 ≡ 0 = even-page_up o.block_size in
    let room : 4096 < o.block_size = go.room in
    record {
      some_flusher = omega (arith, asked.flushers);
      some_shard = omega (arith, asked.indexer_shards.1);
      enough_blocks = omega (arith, asked.flushers, asked.blocks, go.some);
      whole_block = rw asked.block_size even;
      offsets_fit = omega (arith, asked.block_size, below);
      whole_index = rw asked.blob_index_size refl;
      some_index = omega (arith, asked.blob_index_size);
      room = omega (arith, asked.blob_index_size, asked.block_size);
      some_buffer = rw (asked.flushers, asked.buffer_pool_size) (omega arith);
      some_reclaimer = omega (arith, asked.reclaimers);
      few_workers = omega (arith, asked.flushers, asked.reclaimers);
    }

-- and the options go together if the settings are valid and have fewer than 2^32 blocks
pub valid_together : (o : Options) (s : Settings) → AreAsked o s → s.blocks < 2 ^ 32 → AreValid s → GoTogether o
valid_together o s asked few valid =
    let above : o.block_size ≤ page_up o.block_size = page_up-holds o.block_size in
    let least : o.block_size ≤ 4096 → page_up o.block_size ≤ 4096 = λ small. page_up-least o.block_size 4096 small refl in
    let wide : s.block_size ≤ 2 ^ 32 = valid.offsets_fit in
    record {
      room = not_small o.block_size (λ small. let l : page_up o.block_size ≤ 4096 = least small in let r : s.blob_index_size < s.block_size = valid.room in omega (arith, asked.blob_index_size, asked.block_size));
      offsets = omega (arith, asked.block_size);
      some = let e : s.flushers ≤ s.blocks = valid.enough_blocks in omega (arith, asked.flushers, asked.blocks);
      few = omega (arith, asked.blocks);
    }
  where
    not_small : (b : ℕ) → (b ≤ 4096 → ⊥) → 4096 < b
    not_small b never = go (nat_lt 4096 b) refl
      where
        go : (t : Bool) → nat_lt 4096 b ≡ t → 4096 < b
        go true e = grind (arith, nat_tests)
        go false e = absurd (never (grind (arith, nat_tests)))

-- a size rounded up to whole pages, and at least one page if the size isn't 0
pub rounded : (b r : ℕ) → r ≡ div_ceil b 4096 → r * 4096 ≡ page_up b
unfolding page_up
rounded b r is = omega (arith, is)

pub some_page : (b : ℕ) → (b ≡ 0 → ⊥) → 4096 ≤ page_up b
unfolding page_up
some_page b some = omega (arith, some)

pub not_both : {T E : Type 0} (r : Result T E) → IsErr r → IsOk r → ⊥
not_both (Ok v) err ok = false≢true err
not_both (Err e) err ok = false≢true ok
