-- A move that was made behind what made room for it.
use Rattle.std.proofs.Common.{◌≡◌, ℕ, Option, OnOk, Result, Ok, Err, sym, subst}
use Rattle.std.specs.declared.vec.Vec.{Vec}
use Rattle.foyer_core_laws.specs.Content.{Meaning}
use Rattle.foyer_core_steps.specs.declared.reply.Reply.{Reply}
use Rattle.foyer_core_steps.specs.declared.state.Core.{Core}
use Rattle.foyer_core_steps.specs.declared.step.Ticket.{Ticket}
use Rattle.foyer_core_run.specs.Causes.{HasComeAnywhere}
use Rattle.foyer_core_run.specs.Running.{IsMoved, IsRunning, Moves}
use Rattle.foyer_core_run.specs.declared.moves.Asked.{Asked}
use Rattle.foyer_core_run.specs.declared.moves.kept.Kept.{Kept}
use Rattle.foyer_core_run.proofs.RunLemmas.{moved_sure}

pub on_ok : {X E P Q : Type 0} (r : Result X E) → (P → Q) → OnOk r P → OnOk r Q
on_ok (Ok x) leads is = leads is
on_ok (Err e) leads is = tt

module _ {K V P A : Type 0} (m : Meaning K V P) (came : ℕ → ℕ → ℕ → Type 0) (x y : Asked K V P A) (old new : Kept K V P A) (tickets : Vec (Option Ticket) A) (replies : Vec (Reply K V P A) A) (core core' : Core K V P A) (bytes bytes' : ℕ → ℕ → ℕ)
    (is : x ≡ y) (ts : tickets.items ≡ old.tickets.items) (rs : replies.items ≡ old.replies.items) where
  -- the tickets and the replies are as they were
  pub moves_from : Moves came m x (record old { tickets = tickets; replies = replies }) new core core' bytes bytes' → Moves came m y old new core core' bytes bytes'
  moves_from moves s sound from w running =
      let moved = moves s sound from w
      (subst (λ us. IsRunning m s from us old.issued.items old.scans.items old.cleans.items replies.items core bytes w) (sym ts)
      (subst (λ us. IsRunning m s from old.tickets.items old.issued.items old.scans.items old.cleans.items us core bytes w) (sym rs) running)) in (
        moved.0,
        moved.1,
        subst (λ us. IsMoved m s sound came moved.0 from y us new.tickets.items new.issued.items new.scans.items new.cleans.items new.replies.items core' bytes' w) rs
            (subst (λ z. IsMoved m s sound came moved.0 from z replies.items new.tickets.items new.issued.items new.scans.items new.cleans.items new.replies.items core' bytes' w) is moved.2),
      )

  -- without an access it is sure of each
  pub moves_alone : Moves HasComeAnywhere m x (record old { tickets = tickets; replies = replies }) new core core' bytes bytes' → Moves came m y old new core core' bytes bytes'
  moves_alone moves =
      moves_from (λ s sound from w running. let moved = moves s sound from w running in (
        moved.0,
        moved.1,
        moved_sure m s sound came HasComeAnywhere (λ b o n come. tt) from moved.0 x replies.items new.tickets.items new.issued.items new.scans.items new.cleans.items new.replies.items core' bytes' w moved.2,
      ))
