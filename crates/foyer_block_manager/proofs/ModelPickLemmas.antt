-- What pickers answer, as the model judges it.
use Rattle.std.proofs.Common.{◌≡◌, ℕ, suc, ◌<◌, ◌≤◌, ◌==◌, nat_lt, Bool, true, false, ◌&&◌, ◌||◌, if◌then◌else◌, List, [], ◌∷◌, length, Option, Some, None, slice_get, refl, sym, ap, ◌∙◌, arith}
use Rattle.std.proofs.lemmas.Bool.Decides.{nat_tests}
use Rattle.std.proofs.lemmas.Option.{slice_get_past}
use Rattle.foyer_core_model.specs.Reclaim as model_reclaim
use Rattle.foyer_block_manager.specs.Managed.{Managed, is_evictable}
use Rattle.foyer_block_manager.specs.Pickers.{Answer, is_pick, answers_given, pick_of}
use Rattle.foyer_block_manager.specs.ModelPicks.{MatchTheModel}
use Rattle.foyer_block_manager.specs.BlockSets.{BlockSets, Stands}
use Rattle.foyer_block_manager.proofs.BlockStateLemmas.{is_there}
use Rattle.foyer_block_manager.proofs.MarkLemmas.{set_flag}

module _ (m : Managed) (s : BlockSets) (st : Stands m s) where
  -- a pick, either way
  pick_as : (o : Option ℕ) → model_reclaim.is_pick (length m.blocks) s.block_set o ≡ is_pick m.blocks o
  pick_as None = refl
  pick_as (Some b) = go (nat_lt b (length m.blocks)) refl
    where
      go : (t : Bool) → nat_lt b (length m.blocks) ≡ t → t && model_reclaim.is_evictable (s.block_set b) ≡ is_evictable (slice_get m.blocks b)
      go true e =
          let lt : b < length m.blocks = grind (arith, nat_tests) in
          let it = is_there m.blocks b lt in
          ap model_reclaim.is_evictable (st.blocks b it.0 it.1).block_set ∙ set_flag (it.0).block_set ∙ sym (ap is_evictable it.1)
      go false e =
          let le : length m.blocks ≤ b = grind (arith, nat_tests) in
          sym (ap is_evictable (slice_get_past m.blocks b le))

  first_as : (says : List Answer) → model_reclaim.first_pick (length m.blocks) s.block_set (answers_given m.blocks says) ≡ pick_of m.blocks says
  first_as [] = refl
  first_as (a ∷ rest) =
      ap (λ (t : Bool). if t then a.0 else model_reclaim.first_pick (length m.blocks) s.block_set (if is_pick m.blocks a.0 then [] else answers_given m.blocks rest)) (pick_as a.0)
      ∙ go (is_pick m.blocks a.0) (first_as rest)
    where
      go : (t : Bool) → model_reclaim.first_pick (length m.blocks) s.block_set (answers_given m.blocks rest) ≡ pick_of m.blocks rest
          → (if t then a.0 else model_reclaim.first_pick (length m.blocks) s.block_set (if t then [] else answers_given m.blocks rest)) ≡ (if t then a.0 else pick_of m.blocks rest)
      go true later = refl
      go false later = later

  asked_as : (says : List Answer) → model_reclaim.are_asked (length says) (length m.blocks) s.block_set (answers_given m.blocks says) ≡ true
  asked_as [] = refl
  asked_as (a ∷ rest) = go (is_pick m.blocks a.0) (pick_as a.0) rest (asked_as rest)
    where
      go : (t : Bool) → model_reclaim.is_pick (length m.blocks) s.block_set a.0 ≡ t → (rest : List Answer)
          → model_reclaim.are_asked (length rest) (length m.blocks) s.block_set (answers_given m.blocks rest) ≡ true
          → model_reclaim.are_asked (suc (length rest)) (length m.blocks) s.block_set (a.0 ∷ (if t then [] else answers_given m.blocks rest)) ≡ true
      go true e rest later = ap (λ (u : Bool). u || length rest == 0) e
      go false e [] later = ap (λ (u : Bool). u || (0 == 0)) e
      go false e (c ∷ more) later = ap (λ (u : Bool). if u then false else model_reclaim.are_asked (length (c ∷ more)) (length m.blocks) s.block_set (answers_given m.blocks (c ∷ more))) e ∙ later

  pub picks_match : (says : List Answer) → MatchTheModel m s says
  picks_match says = record { answers_match = asked_as says; pick_matches = first_as says }
