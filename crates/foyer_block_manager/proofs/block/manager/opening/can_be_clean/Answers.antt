use Rattle.std.proofs.Common.{◌≡◌, ◌<◌, ◌∙◌, ℕ, Bool, List, IsTrue, true, false, length, length-set, slice_set, slice_index, replicate, refl, sym, arith, rules}
use Rattle.foyer_block_manager.specs.Initial.{CanBeClean}
use Rattle.foyer_block_manager.proofs.InitialLemmas.{noted_none, noted_more, noted_all, noted_there, not_evictable, noted_twice}
use Rattle.foyer_block_manager.proofs.block.manager.opening.can_be_clean.Goals as goal

refused : (P : Type 0) → (P → ⊥) → (IsTrue false → P) × (P → IsTrue false)
refused P not = (λ is. absurd (let clash : false ≡ true = is in cc), λ p. absurd (not p))

pub each_id-init : goal.each_id-init
each_id-init g c =
    let items : c.in_ok-is_listed.is_listed.items ≡ replicate (length c.args.blocks.now) false = c.in_ok-is_listed.ensures.items_if_clones_equal (λ y is. search rules) in
    noted_none c.args.blocks.now c.in_ok-is_listed.is_listed.items items (omega (arith, c.in_ok-is_listed.ensures.len, c.in_ok-is_listed.is_listed.ok.0))

pub returns-then-not-is_pick-clause-answer : goal.returns-then-not-is_pick-clause-answer
returns-then-not-is_pick-clause-answer g c =
    let clean : List ℕ = c.args.clean.now in
    let i : ℕ = c.each_id.id-index in
    refused (CanBeClean c.args.blocks.now clean)
    (not_evictable c.args.blocks.now clean i (slice_index clean i) c.each_id.is_listed.items c.each_id.invariant c.each_id-test.true refl (sym c.is_pick.ensures ∙ c.if-not-is_pick.true))

pub index-requires : goal.index-requires
index-requires g c =
    let clean : List ℕ = c.args.clean.now in
    let i : ℕ = c.each_id.id-index in
    let lt : slice_index clean i < length c.each_id.is_listed.items =
    noted_there c.args.blocks.now clean i (slice_index clean i) c.each_id.is_listed.items c.each_id.invariant c.each_id-test.true refl (sym c.is_pick.ensures ∙ c.if-not-is_pick.false) in
    omega (arith, c.each_id.is_listed.ok.0)

pub index_mut-requires : goal.index_mut-requires
index_mut-requires g c =
    let clean : List ℕ = c.args.clean.now in
    let i : ℕ = c.each_id.id-index in
    let lt : slice_index clean i < length c.each_id.is_listed.items =
    noted_there c.args.blocks.now clean i (slice_index clean i) c.each_id.is_listed.items c.each_id.invariant c.each_id-test.true refl (sym c.is_pick.ensures ∙ c.if-not-is_pick.false) in
    omega (arith, c.each_id.is_listed.ok.0)

pub returns-then-index-clause-answer : goal.returns-then-index-clause-answer
returns-then-index-clause-answer g c =
    let clean : List ℕ = c.args.clean.now in
    let i : ℕ = c.each_id.id-index in
    refused (CanBeClean c.args.blocks.now clean)
    (noted_twice c.args.blocks.now clean i (slice_index clean i) c.each_id.is_listed.items c.each_id.invariant c.each_id-test.true refl c.index.result.now
    (sym c.is_pick.ensures ∙ c.if-not-is_pick.false) c.index.ensures c.if-index.true)

pub each_id-preserved : goal.each_id-preserved
each_id-preserved g c =
    let clean : List ℕ = c.args.clean.now in
    let i : ℕ = c.each_id.id-index in
    let flags : List Bool = c.each_id.is_listed.items in
    noted_more c.args.blocks.now clean i (slice_index clean i) flags c.each_id.invariant c.each_id-test.true refl c.index.result.now (slice_set flags (slice_index clean i) true)
    (sym c.is_pick.ensures ∙ c.if-not-is_pick.false) c.index.ensures c.if-index.false refl (length-set flags (slice_index clean i) true)

pub returns-clause-answer : goal.returns-clause-answer
returns-clause-answer g c =
    (λ is. noted_all c.args.blocks.now c.args.clean.now c.each_id.id-index c.each_id.is_listed.items c.each_id.invariant c.each_id-test.false, λ can. search rules)
