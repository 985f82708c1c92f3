-- Pickers that were borrowed as a slice, and are those of a list again.
use Rattle.std.proofs.Common.{◌≡◌, ℕ, ◌<◌, Some, Ok, Err, List, [], ◌∷◌, ◌++◌, length, take, drop, slice_get, slice_index_or, refl, sym, ap, subst, ◌∙◌, arith}
use Rattle.std.proofs.lemmas.List.{append-nil, at_drop_all, take_all}
use Rattle.std.proofs.lemmas.Option.{slice_get_read}
use Rattle.std.specs.Prelude.{option_and_then, OnOk, Result}
use Rattle.foyer_block_manager.specs.Pickers.{Info}
use Rattle.foyer_block_manager.specs.Shown.{AreChanged, AreShown, AreShownAll}
use Rattle.foyer_core_flusher.specs.Leaving.{left_by}
use Rattle.foyer_core_flusher.specs.declared.flusher.Flusher.{Flusher}
use Rattle.foyer_core_steps.specs.Showing.{left_at, own_at}
use Rattle.foyer_core_steps.specs.declared.state.Core.{Core}

back_same : {Q : Type 0} (n : ℕ) (ps qs : List Q) → length ps ≡ n → length qs ≡ length ps → take n (qs ++ drop (length qs) ps) ≡ qs
back_same n ps qs whole same =
    at_drop_all (λ l. take n (qs ++ l)) ps (length qs) (omega arith) ∙ ap (take n) (append-nil qs) ∙ take_all n qs (omega arith)

-- what a success has, had it more
pub on_success : {T E : Type 0} (r : Result T E) (X Y : Type 0) → (X → Y) → OnOk r X → OnOk r Y
on_success (Ok v) X Y more has = more has
on_success (Err e) X Y more has = has

module _ {Q : Type 0} (may_be : Q → Q → Type 0) where
  changed_count : (ps qs : List Q) → AreChanged may_be ps qs → length qs ≡ length ps
  changed_count [] [] changed = refl
  changed_count [] (q ∷ qs) changed = absurd changed
  changed_count (p ∷ ps) [] changed = absurd changed
  changed_count (p ∷ ps) (q ∷ qs) changed = let rest : length qs ≡ length ps = changed_count ps qs changed.1 in omega arith

  pub changed_back : (n : ℕ) (ps lent qs : List Q) → lent ≡ ps → length ps ≡ n → AreChanged may_be lent qs
      → AreChanged may_be ps (take n (qs ++ drop (length qs) ps))
  changed_back n ps lent qs is whole changed =
      let all : AreChanged may_be ps qs = subst (λ l. AreChanged may_be l qs) is changed in
      subst (AreChanged may_be ps) (sym (back_same n ps qs whole (changed_count ps qs all))) all

module _ {Q : Type 0} (may_be : Q → Info → ℕ → Q → Type 0) where
  shown_count : (info : Info) (b : ℕ) (ps qs : List Q) → AreShown may_be info b ps qs → length qs ≡ length ps
  shown_count info b [] [] shown = refl
  shown_count info b [] (q ∷ qs) shown = absurd shown
  shown_count info b (p ∷ ps) [] shown = absurd shown
  shown_count info b (p ∷ ps) (q ∷ qs) shown = let rest : length qs ≡ length ps = shown_count info b ps qs shown.1 in omega arith

  all_count : (bs : List ℕ) (ps qs : List Q) → AreShownAll may_be bs ps qs → length qs ≡ length ps
  all_count [] ps qs same = ap length same
  all_count (b ∷ bs) ps qs (info, between, shown, rest) = all_count bs between qs rest ∙ shown_count info b ps between shown

  pub one_back : (info : Info) (b n : ℕ) (ps lent qs : List Q) → lent ≡ ps → length ps ≡ n → AreShown may_be info b lent qs
      → AreShown may_be info b ps (take n (qs ++ drop (length qs) ps))
  one_back info b n ps lent qs is whole shown =
      let all : AreShown may_be info b ps qs = subst (λ l. AreShown may_be info b l qs) is shown in
      subst (AreShown may_be info b ps) (sym (back_same n ps qs whole (shown_count info b ps qs all))) all

  pub all_back : (bs : List ℕ) (n : ℕ) (ps lent qs : List Q) → lent ≡ ps → length ps ≡ n → AreShownAll may_be bs lent qs
      → AreShownAll may_be bs ps (take n (qs ++ drop (length qs) ps))
  all_back bs n ps lent qs is whole shown =
      let all : AreShownAll may_be bs ps qs = subst (λ l. AreShownAll may_be bs l qs) is shown in
      subst (AreShownAll may_be bs ps) (sym (back_same n ps qs whole (all_count bs ps qs all))) all

-- the flusher that was read, and the block that it leaves
module _ {K V P A : Type 0} (core : Core K V P A) (f : ℕ) (found : Flusher K V P A) (within : f < length core.flushers.items)
    (reads : found ≡ slice_index_or core.flushers.items f found) where
  pub flusher_read : slice_get core.flushers.items f ≡ Some found
  flusher_read = slice_get_read core.flushers.items (length core.flushers.items) f found refl within reads

  pub left_read : left_at core f ≡ left_by found.batch found.own
  left_read = ap (option_and_then (λ φ. left_by φ.batch φ.own)) flusher_read

  pub own_read : own_at core f ≡ found.own
  own_read = ap (option_and_then (λ φ. φ.own)) flusher_read
