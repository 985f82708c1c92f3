use Rattle.std.proofs.Common.{◌≡◌, ◌*◌, ◌/◌, refl, ◌<◌, ◌≤◌, ◌^◌, sym, subst, ap, ◌∙◌, arith}
use Rattle.std.proofs.lemmas.Bool.{false≢true}
use Rattle.foyer_format_layout.specs.Page.{page_up}
use Rattle.foyer_cli.specs.Arguments.{AreAsked, blocks_held}
use Rattle.foyer_cli.proofs.ArgumentLemmas.{rounded, some_page, not_both, together_valid, valid_together}
use Rattle.foyer_cli.proofs.options.Options.settings.Goals as goal

pub returns-then-blocks-clause-together : goal.returns-then-blocks-clause-together
returns-then-blocks-clause-together c =
    let o = c.args.self.now in
    let size : c.div_ceil-block_size.result * 4096 ≡ page_up o.block_size = rounded o.block_size c.div_ceil-block_size.result c.div_ceil-block_size.ensures in
    let page : 4096 ≤ c.div_ceil-block_size.result * 4096 = subst (λ n. 4096 ≤ n) (sym size) (some_page o.block_size c.if-self-eq0.false) in
    let held : c.blocks_in-blocks.result ≡ o.capacity / 4096 / (page_up o.block_size / 4096) =
    c.blocks_in-blocks.ensures.bare refl page ∙ ap (λ n. o.capacity / 4096 / (n / 4096)) size in
    ((λ e. absurd (false≢true e)), λ go. absurd (let few : blocks_held o < 2 ^ 32 = go.few in let many : 4294967295 < c.blocks_in-blocks.result = c.if-blocks.true in omega arith))

pub returns-clause-sizes : goal.returns-clause-sizes
returns-clause-sizes c =
    let o = c.args.self.now in
    let size : c.div_ceil-block_size.result * 4096 ≡ page_up o.block_size = rounded o.block_size c.div_ceil-block_size.result c.div_ceil-block_size.ensures in
    let page : 4096 ≤ c.div_ceil-block_size.result * 4096 = subst (λ n. 4096 ≤ n) (sym size) (some_page o.block_size c.if-self-eq0.false) in
    let held : c.blocks_in-blocks.result ≡ o.capacity / 4096 / (page_up o.block_size / 4096) =
    c.blocks_in-blocks.ensures.bare refl page ∙ ap (λ n. o.capacity / 4096 / (n / 4096)) size in
    let new = c.new-settings.ensures in
    record {
      block_size = new.sizes.1 ∙ size;
      blocks = new.sizes.0 ∙ held;
      blob_index_size = new.defaults.0;
      flushers = new.defaults.1;
      indexer_shards = new.shards;
      submit_queue_size_threshold = new.defaults.2;
      buffer_pool_size = new.defaults.3;
      reclaimers = new.reclaims.0;
      clean_block_threshold = new.reclaims.1;
      tombstone_log = new.log;
    }

pub returns-clause-together : goal.returns-clause-together
returns-clause-together c =
    let new = c.new-settings.ensures in
    let few : c.new-settings.result.blocks < 2 ^ 32 = let cap : c.blocks_in-blocks.result ≤ 4294967295 = c.if-blocks.false in omega (arith, new.sizes.0) in
    ((λ e. valid_together c.args.self.now c.new-settings.result (returns-clause-sizes c) few (c.in_ok-check.ensures.sound.0 refl)), λ go. refl)

pub returns-in_err-check-clause-together : goal.returns-in_err-check-clause-together
returns-in_err-check-clause-together c =
    let o = c.args.self.now in
    let size : c.div_ceil-block_size.result * 4096 ≡ page_up o.block_size = rounded o.block_size c.div_ceil-block_size.result c.div_ceil-block_size.ensures in
    let page : 4096 ≤ c.div_ceil-block_size.result * 4096 = subst (λ n. 4096 ≤ n) (sym size) (some_page o.block_size c.if-self-eq0.false) in
    let held : c.blocks_in-blocks.result ≡ o.capacity / 4096 / (page_up o.block_size / 4096) =
    c.blocks_in-blocks.ensures.bare refl page ∙ ap (λ n. o.capacity / 4096 / (n / 4096)) size in
    let new = c.new-settings.ensures in
    let asked : AreAsked o c.new-settings.result = record {
      block_size = new.sizes.1 ∙ size;
      blocks = new.sizes.0 ∙ held;
      blob_index_size = new.defaults.0;
      flushers = new.defaults.1;
      indexer_shards = new.shards;
      submit_queue_size_threshold = new.defaults.2;
      buffer_pool_size = new.defaults.3;
      reclaimers = new.reclaims.0;
      clean_block_threshold = new.reclaims.1;
      tombstone_log = new.log;
    } in
    ((λ ok. absurd (not_both c.from_residual.result c.from_residual.ensures.0 ok)), λ go. absurd (false≢true (c.in_err-check.ensures.sound.1 (together_valid o c.new-settings.result asked go))))
