use Rattle.std.proofs.Common.{◌≡◌, ◌⊎◌, inl, inr, true, false, sym, subst}
use Rattle.foyer_block_index.specs.Probe.{HasPlace}
use Rattle.foyer_block_index.proofs.shard.Shard.enter.Goals as goal

pub returns-in-Some-clause-kept : goal.returns-in-Some-clause-kept
returns-in-Some-clause-kept g c = λ other has. subst (λ l. HasPlace l other) (sym c.write.ensures.hashes) (c.seat.ensures.kept other has)

pub returns-clause-kept : goal.returns-clause-kept
returns-clause-kept g c = λ other has. subst (λ l. HasPlace l other) (sym c.write-2.ensures.hashes) (c.seat.ensures.kept other has)

pub returns-in-Some-clause-only : goal.returns-in-Some-clause-only
returns-in-Some-clause-only g c = λ other has. c.in_ok-place.ensures.only other (subst (λ l. HasPlace l other) c.write.ensures.hashes has)

pub returns-clause-only : goal.returns-clause-only
returns-clause-only g c = λ other has. c.in_ok-place.ensures.only other (subst (λ l. HasPlace l other) c.write-2.ensures.hashes has)

none_made : {A B : Type 0} → A ⊎ (B × (false ≡ true)) → {C : Type 0} → A ⊎ C
none_made (inl a) = inl a
none_made (inr b) = absurd (let bad = b.1 in cc)

pub returns-in_err-place-clause-only : goal.returns-in_err-place-clause-only
returns-in_err-place-clause-only g c = λ other has. none_made (c.in_err-place.ensures.only other has)
