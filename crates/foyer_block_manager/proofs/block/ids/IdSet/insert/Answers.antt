use Rattle.std.proofs.Common.{◌≡◌, ◌<◌, ◌≤◌, false, List, [], ◌∷◌, ◌++◌, ℕ, length, slice_set, length-set, sym, subst, arith}
use Rattle.foyer_core_model.specs.Ids.{is_id_in}
use Rattle.foyer_block_manager.specs.IdList.{IdList, AreStored}
use Rattle.foyer_block_manager.proofs.IdLemmas.{stored_once, below_from, room_for, stored_push}
use Rattle.foyer_block_manager.proofs.block.ids.IdSet.insert.Goals as goal

-- fewer ids than the bound are there
fewer : (v : IdList) (ids at : List ℕ) (id : ℕ) → AreStored ids at → (λ (w : IdList). w) (record { ids = ids; bound = length at }) ≡ v
    → id < v.bound → is_id_in id v.ids ≡ false → (id < length at) × (is_id_in id ids ≡ false) × (length ids < length at)
fewer v ids at id are view lt not =
    let below : id < length at = subst (λ (w : IdList). id < w.bound) (sym view) lt in
    let absent : is_id_in id ids ≡ false = subst (λ (w : IdList). is_id_in id w.ids ≡ false) (sym view) not in
    (below, absent, room_for (length at) id ids (stored_once ids at are) (below_from (length at) ids are.there) below absent)

pub push_reserved-requires : goal.push_reserved-requires
push_reserved-requires g c =
    let s = c.self.inside in
    let f = fewer c.args.self.now s.ids.items s.at.items c.args.id c.self.invariant.0 c.self.view_is c.requires.there c.requires.new in
    let less : length s.ids.items < length s.at.items = f.2 in
    let room : length s.at.items ≤ s.ids.cap = c.self.invariant.1 in
    omega (arith, s.ids.ok.0)

pub overflow_cast-position : goal.overflow_cast-position
overflow_cast-position g c =
    let s = c.self.inside in
    let f = fewer c.args.self.now s.ids.items s.at.items c.args.id c.self.invariant.0 c.self.view_is c.requires.there c.requires.new in
    let less : length s.ids.items < length s.at.items = f.2 in
    let small = (c.self.invariant.0).small in
    omega (arith, s.ids.ok.0, c.len-position.ensures)

pub invariant_of-self : goal.invariant_of-self
invariant_of-self g c =
    let s = c.self.inside in
    let f = fewer c.args.self.now s.ids.items s.at.items c.args.id c.self.invariant.0 c.self.view_is c.requires.there c.requires.new in
    let len : length s.ids.items ≡ c.len-position.result = omega (arith, s.ids.ok.0, c.len-position.ensures) in
    let stored : AreStored (s.ids.items ++ c.args.id ∷ []) (slice_set s.at.items c.args.id c.len-position.result) =
    subst (λ n. AreStored (s.ids.items ++ c.args.id ∷ []) (slice_set s.at.items c.args.id n)) len (stored_push s.ids.items s.at.items c.args.id c.self.invariant.0 f.0 f.1) in
    let sized : length (slice_set s.at.items c.args.id c.len-position.result) ≡ length s.at.items = length-set s.at.items c.args.id c.len-position.result in
    let room : length s.at.items ≤ s.ids.cap = c.self.invariant.1 in (
      subst (λ xs. AreStored xs (slice_set s.at.items c.args.id c.len-position.result)) (sym c.push_reserved.ensures.items) stored,
      omega (arith, c.push_reserved.ensures.capacity),
    )
