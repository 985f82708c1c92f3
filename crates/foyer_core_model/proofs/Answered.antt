-- Loads answer only what they promise.
use Rattle.std.proofs.Common.{◌≡◌, ℕ, ◌==◌, Bool, true, false, if◌then◌else◌, List, take, Some, refl, sym, ap, subst, ◌∙◌}
use Rattle.std.proofs.lemmas.Bool.{eqb-true}
use Rattle.foyer_core_model.specs.Record.{Outcome, NoRecord, NotSupported, Undecodable, Holds}
use Rattle.foyer_core_model.specs.State.{State}
use Rattle.foyer_core_model.specs.Rules.{Rules, Splitting}
use Rattle.foyer_core_model.specs.Step.{ReadResult, Bytes, Fault, Age, Ticket}
use Rattle.foyer_core_model.specs.Reply.{Entry}
use Rattle.foyer_format_layout.specs.BlockBytes.{read}
use Rattle.foyer_core_model.specs.Load.{judged, Judges, Ends}
use Rattle.foyer_core_model.specs.Event.{Put}
use Rattle.foyer_core_model.specs.Access.{ReadDone, Load}
use Rattle.foyer_core_model.specs.World.{World}
use Rattle.foyer_core_model.specs.Laws.{Demands, IsReached, AnswersOnly}
use Rattle.foyer_core_model.proofs.Invariant.{ground_of, ReadStateHolds, IsPromised, LoadOk, WorldInvariant}
use Rattle.foyer_core_model.proofs.RereadsKept.{new_again}
use Rattle.foyer_core_model.proofs.SoundKept.{IsKnown, all_known}
use Rattle.foyer_core_model.proofs.OpenedSound.{new_sound, new_sets}

module _ {C : Type 0} (rules : Rules C) (Splits : Splitting C) (is_value : C → Type 0) (demands : Demands rules Splits is_value) where
  -- what is known of a world that was reached
  pub reached_known : (w : World C) → IsReached rules Splits is_value w → IsKnown rules Splits is_value demands w
  reached_known w reached =
      subst (IsKnown rules Splits is_value demands) reached.is
      (all_known rules Splits is_value demands reached.first reached.events reached.happened
      (record { sound = new_sound rules reached.first reached.opened; again = new_again rules reached.first reached.opened; sets = new_sets rules reached.first reached.opened }))

  entry_holds : (old : State C) (t : Ticket) (outcome : Outcome C) (c : C) (age : Age) (new : State C) → Judges rules old t outcome (Entry c age) new → outcome ≡ Holds c
  entry_holds old t NoRecord c age new ok = absurd ok
  entry_holds old t NotSupported c age new ok = absurd ok
  entry_holds old t Undecodable c age new ok = absurd ok
  entry_holds old t (Holds d) c age new ok = ap (λ k. Holds k) (sym ok.0)

  pub judged_holds : (old : State C) (t : Ticket) (bs : List ℕ) (c : C) → judged rules old t bs ≡ Holds c
      → (t.address.filling ≡ old.filling t.address.block) × (rules.pair_of (take t.address.len bs) t.hash t.address.sequence ≡ Holds c)
  judged_holds old t bs c = go (t.address.filling == old.filling t.address.block) refl
    where
      go : (p : Bool) → (t.address.filling == old.filling t.address.block) ≡ p
          → (if p then rules.pair_of (take t.address.len bs) t.hash t.address.sequence else NoRecord) ≡ Holds c
          → (t.address.filling ≡ old.filling t.address.block) × (rules.pair_of (take t.address.len bs) t.hash t.address.sequence ≡ Holds c)
      go true e h = (eqb-true t.address.filling (old.filling t.address.block) e, h)
      go false e h = absurd cc

  pub answered : (w : World C) (t : Ticket) (result : ReadResult) (c : C) (age : Age) (new : State C) (l : Load C) → WorldInvariant rules w → IsPromised rules (ground_of w) w.block_writes l
      → l.ticket ≡ t → l.read_state ≡ ReadDone result → Ends rules w.core t result (Entry c age) new
      → l.promise ≡ Some (Put t.hash t.address.sequence (Holds c))
  answered w t Fault c age new l sound ok ticket read_state ends = absurd ends
  answered w t (Bytes bs) c age new l sound ok ticket read_state ends =
      let holds : (t.address.filling ≡ w.core.filling t.address.block) × (rules.pair_of (take t.address.len bs) t.hash t.address.sequence ≡ Holds c) =
      judged_holds w.core t bs c (entry_holds w.core t (judged rules w.core t bs) c age new ends) in
      let fits : (l.ticket.address.filling ≡ w.core.filling l.ticket.address.block) × (rules.pair_of (take l.ticket.address.len bs) l.ticket.hash l.ticket.address.sequence ≡ Holds c) =
      subst (λ u. (u.address.filling ≡ w.core.filling u.address.block) × (rules.pair_of (take u.address.len bs) u.hash u.address.sequence ≡ Holds c)) (sym ticket) holds in
      let read_is : take l.ticket.address.len bs ≡ read (w.bytes l.ticket.address.block) l.ticket.address.offset l.ticket.address.len =
      subst (λ p. ReadStateHolds rules (ground_of w) l.ticket.address p) read_state (ok.read_state fits.0) in
      let same_outcome : ok.outcome ≡ Holds c =
      sym ((ok.good.solid fits.0).outcome) ∙ ap (λ b. rules.pair_of b l.ticket.hash l.ticket.address.sequence) (sym read_is) ∙ fits.1 in
      subst (λ u. l.promise ≡ Some (Put u.hash u.address.sequence (Holds c))) ticket
      (ok.promise ∙ ap (λ x. Some (Put l.ticket.hash l.ticket.address.sequence x)) same_outcome)

pub answers_only_lem : {C : Type 0} (rules : Rules C) (Splits : Splitting C) (is_value : C → Type 0) → AnswersOnly rules Splits is_value
answers_only_lem rules Splits is_value w t result c age new n l demands reached last at ticket read_state =
    let known : IsKnown rules Splits is_value demands w = reached_known rules Splits is_value demands w reached in
    answered rules Splits is_value demands w t result c age ((((last.1).2).0)) l known.sound
    (subst (λ o. LoadOk rules (ground_of w) w.block_writes o) at (known.sound.loads n)) ticket read_state ((last.1).2).1
