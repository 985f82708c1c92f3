-- Replies to commands, in their order.
use Rattle.std.proofs.Common.{◌≡◌, ℕ, Bool, true, false, cond, List, [], ◌∷◌, ◌++◌, refl, sym, ap, ◌∙◌, append_assoc}
use Rattle.std.specs.Prelude.{◌||◌}
use Rattle.foyer_memcached.specs.Answers.{Step, answers, closes, is_last, reply_by}

pub in_order : (xs ys : List Step) → closes xs ≡ false → answers (xs ++ ys) ≡ answers xs ++ answers ys
unfolding answers closes
in_order [] ys open_ = refl
in_order (s ∷ ss) ys open_ = go (is_last s.command) (λ e. in_order ss ys e) open_
  where
    go : (t : Bool) → (closes ss ≡ false → answers (ss ++ ys) ≡ answers ss ++ answers ys) → (t || closes ss) ≡ false
        → reply_by s.command s ++ cond t [] (answers (ss ++ ys)) ≡ (reply_by s.command s ++ cond t [] (answers ss)) ++ answers ys
    go true rest e = absurd cc
    go false rest e = ap (λ (r : List ℕ). reply_by s.command s ++ r) (rest e) ∙ sym (append_assoc (reply_by s.command s) (answers ss) (answers ys))
