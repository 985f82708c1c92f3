-- Events one after the other: their worlds, their counts, and what was lost.
use Rattle.std.proofs.Common.{◌≡◌, ℕ, ◌+◌, List, [], ◌∷◌, ◌++◌, refl, arith}
use Rattle.foyer_core_model.specs.Rules.{Rules, Splitting}
use Rattle.foyer_core_model.specs.Step.{FlushWrote, DestroyClear}
use Rattle.foyer_core_model.specs.Reply.{Failed, Cleared}
use Rattle.foyer_core_model.specs.World.{World, WorldEvent, Applies, after, after_all, MayAllHappen}
use Rattle.foyer_core_written.specs.Written.{passed_after, queued_at, passed_at, HasLost}

pub none_more : (n : ℕ) → n ≡ n + 0
none_more n = omega arith

module _ {C : Type 0} (rules : Rules C) where
  -- the world after two lists
  pub after_both : (w : World C) (xs ys : List (WorldEvent C)) → after_all rules w (xs ++ ys) ≡ after_all rules (after_all rules w xs) ys
  after_both w [] ys = refl
  after_both w (x ∷ xs) ys = after_both (after rules w x) xs ys

  -- what both queue
  pub queued_both : (f : ℕ) (xs ys : List (WorldEvent C)) → queued_at rules f (xs ++ ys) ≡ queued_at rules f xs + queued_at rules f ys
  queued_both f [] ys = omega arith
  queued_both f (x ∷ xs) ys = let rest : queued_at rules f (xs ++ ys) ≡ queued_at rules f xs + queued_at rules f ys = queued_both f xs ys in omega arith

-- what was passed after both
pub passed_both : {C : Type 0} (f n : ℕ) (xs ys : List (WorldEvent C)) → passed_at f (xs ++ ys) n ≡ passed_at f ys (passed_at f xs n)
passed_both f n [] ys = refl
passed_both f n (x ∷ xs) ys = passed_both f (passed_after f x n) xs ys

module _ {C : Type 0} (rules : Rules C) (Splits : Splitting C) (is_value : C → Type 0) where
  -- the first of two lists may happen
  pub may_first : (w : World C) (xs ys : List (WorldEvent C)) → MayAllHappen rules Splits is_value w (xs ++ ys) → MayAllHappen rules Splits is_value w xs
  may_first w [] ys ok = tt
  may_first w (x ∷ xs) ys ok = (ok.0, may_first (after rules w x) xs ys ok.1)

  -- and the second after it
  pub may_then : (w : World C) (xs ys : List (WorldEvent C)) → MayAllHappen rules Splits is_value w (xs ++ ys)
      → MayAllHappen rules Splits is_value (after_all rules w xs) ys
  may_then w [] ys ok = ok
  may_then w (x ∷ xs) ys ok = may_then (after rules w x) xs ys ok.1

module _ {C : Type 0} where
  -- an event that loses, in front of others
  pub lost_first : (e : WorldEvent C) (es : List (WorldEvent C)) → HasLost (e ∷ []) → HasLost (e ∷ es)
  lost_first (Applies (FlushWrote f ok) Failed new) es lost = tt
  lost_first (Applies DestroyClear (Cleared bs) new) es lost = tt
  lost_first e es lost = absurd lost

  -- events that lose, behind another
  pub lost_then : (e : WorldEvent C) (es : List (WorldEvent C)) → HasLost es → HasLost (e ∷ es)
  lost_then (Applies (FlushWrote f ok) Failed new) es lost = tt
  lost_then (Applies DestroyClear (Cleared bs) new) es lost = tt
  lost_then e es lost = lost
