use Rattle.std.proofs.Common.{◌≡◌, ◌<◌, ◌+◌, ◌-◌, true, List, ℕ, length, slice_index, slice_index_or, ap, sym, subst, ◌∙◌, arith}
use Rattle.std.proofs.lemmas.List.{get_or_read}
use Rattle.foyer_core_model.specs.Ids.{is_id_in}
use Rattle.foyer_block_manager.specs.IdList.{IdList, AreStored, IsWithout}
use Rattle.foyer_block_manager.proofs.IdLemmas.{stands, removed_ids}
use Rattle.foyer_block_manager.proofs.block.ids.IdSet.remove.Goals as goal

pub index-requires : goal.index-requires
index-requires g c =
    let s = c.self.inside in
    let w = stands c.args.self.now s.ids.items s.at.items c.args.id c.self.invariant.0 c.self.view_is c.requires in
    let lt : c.args.id < length s.at.items = w.3 in
    omega (arith, s.at.ok.0)

pub swap_remove-requires : goal.swap_remove-requires
swap_remove-requires g c =
    let s = c.self.inside in
    let w = stands c.args.self.now s.ids.items s.at.items c.args.id c.self.invariant.0 c.self.view_is c.requires in
    let lt : c.args.id < length s.at.items = w.3 in
    let is : c.index.result.now ≡ slice_index s.at.items c.args.id = get_or_read s.at.items c.args.id c.index.result.now lt c.index.ensures 0 in
    let there : w.0 < length s.ids.items = w.1 in
    let same : slice_index s.at.items c.args.id ≡ w.0 = w.4 in
    omega (arith, s.ids.ok.0)

-- what remains if the last id took the position
remaining : (v : IdList) (ids at ys : List ℕ) (id p n m : ℕ) → AreStored ids at → (λ (w : IdList). w) (record { ids = ids; bound = length at }) ≡ v
    → is_id_in id v.ids ≡ true → p ≡ slice_index_or at id p → n ≡ length ids → m ≡ length ys → m + 1 ≡ n
    → ((d : ℕ) → p + 1 < n → slice_index_or ys p d ≡ slice_index_or ids (n - 1) d)
    → ((k d : ℕ) → (k ≡ p → ⊥) → k + 1 < n → slice_index_or ys k d ≡ slice_index_or ids k d) → IsWithout id v.ids ys
remaining v ids at ys id p n m are view is reads len left_len less moved kept =
    let w = stands v ids at id are view is in
    let lt : id < length at = w.3 in
    let there : w.0 < length ids = w.1 in
    let at_p : p ≡ w.0 = get_or_read at id p lt reads 0 ∙ w.4 in
    subst (λ (x : IdList). IsWithout id x.ids ys) view
    (removed_ids ids ys at p m id are (omega arith) (ap (slice_index ids) at_p ∙ w.2) (omega arith) (sym left_len)
    (λ below. let last : n - 1 ≡ m = omega arith in moved 0 (omega arith) ∙ ap (slice_index ids) last)
    (λ k ne below. kept k 0 ne (omega arith)))

pub returns-then-position-len-clause-ids : goal.returns-then-position-len-clause-ids
returns-then-position-len-clause-ids g c =
    let s = c.self.inside in
    remaining c.args.self.now s.ids.items s.at.items c.swap_remove.new.self.items c.args.id c.index.result.now s.ids.len c.swap_remove.new.self.len
    c.self.invariant.0 c.self.view_is c.requires c.index.ensures (omega (arith, s.ids.ok.0)) (omega (arith, c.swap_remove.new.self.ok.0)) c.swap_remove.ensures.len
    c.swap_remove.ensures.by_index.0 c.swap_remove.ensures.by_index.1

pub returns-else-position-len-clause-ids : goal.returns-else-position-len-clause-ids
returns-else-position-len-clause-ids g c =
    let s = c.self.inside in
    remaining c.args.self.now s.ids.items s.at.items c.swap_remove.new.self.items c.args.id c.index.result.now s.ids.len c.swap_remove.new.self.len
    c.self.invariant.0 c.self.view_is c.requires c.index.ensures (omega (arith, s.ids.ok.0)) (omega (arith, c.swap_remove.new.self.ok.0)) c.swap_remove.ensures.len
    c.swap_remove.ensures.by_index.0 c.swap_remove.ensures.by_index.1
