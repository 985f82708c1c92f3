use Rattle.std.proofs.Common.{◌≡◌, ◌<◌, ℕ, true, false, nat_lt, length, slice_index, sym, ap, ◌∙◌, arith}
use Rattle.std.proofs.lemmas.Bool.{ltb-true}
use Rattle.std.proofs.lemmas.List.{get_or_read}
use Rattle.foyer_core_model.specs.Numbers.{last_number}
use Rattle.foyer_block_manager.specs.Managed.{filling_in}
use Rattle.foyer_block_manager.proofs.WaitingLemmas.{usable_here, usable_further, none_usable}
use Rattle.foyer_block_manager.proofs.block.manager.first_usable.Goals as goal

pub returns-then-is_usable : goal.returns-then-is_usable
returns-then-is_usable g c =
    let clean = c.args.clean.now in
    let F : ℕ → ℕ = filling_in c.args.blocks.now.items in
    let lt : c.loop-index.index < length clean.items = omega (arith, clean.ok.0) in
    let at : c.index.result.now ≡ slice_index clean.items c.loop-index.index = get_or_read clean.items c.loop-index.index c.index.result.now lt c.index.ensures 0 in
    let test : nat_lt (F (slice_index clean.items c.loop-index.index)) last_number ≡ true =
    ap (λ b. nat_lt (F b) last_number) (sym at) ∙ sym c.is_usable.ensures ∙ c.if-is_usable.true in
    record {
      within = lt;
      first = usable_here F clean.items c.loop-index.index lt c.loop-index.invariant test;
      below = ltb-true (F (slice_index clean.items c.loop-index.index)) last_number test;
    }

pub loop-index-preserved : goal.loop-index-preserved
loop-index-preserved g c =
    let clean = c.args.clean.now in
    let F : ℕ → ℕ = filling_in c.args.blocks.now.items in
    let lt : c.loop-index.index < length clean.items = omega (arith, clean.ok.0) in
    let at : c.index.result.now ≡ slice_index clean.items c.loop-index.index = get_or_read clean.items c.loop-index.index c.index.result.now lt c.index.ensures 0 in
    let test : nat_lt (F (slice_index clean.items c.loop-index.index)) last_number ≡ false =
    ap (λ b. nat_lt (F b) last_number) (sym at) ∙ sym c.is_usable.ensures ∙ c.if-is_usable.false in
    usable_further F clean.items c.loop-index.index lt c.loop-index.invariant test

pub returns : goal.returns
returns g c = none_usable (filling_in c.args.blocks.now.items) c.args.clean.now.items c.loop-index.index (omega (arith, c.args.clean.now.ok.0)) c.loop-index.invariant
