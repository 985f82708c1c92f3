-- A newest committed record is missed only for a named cause.
use Rattle.std.proofs.Common.{◌≡◌, ℕ, ◌<◌, ◌==◌, Bool, true, false, if◌then◌else◌, List, length, take, Some, ◌⊎◌, inl, inr, refl, sym, ap, subst, ◌∙◌, arith}
use Rattle.std.proofs.lemmas.Bool.{eqb-true, eqb-false}
use Rattle.foyer_core_model.specs.Numbers.{last_number}
use Rattle.foyer_core_model.specs.Record.{Outcome, NoRecord, NotSupported, Undecodable, Holds}
use Rattle.foyer_core_model.specs.State.{State}
use Rattle.foyer_core_model.specs.Rules.{Rules, Splitting}
use Rattle.foyer_core_model.specs.Step.{ReadResult, Bytes, Fault, Ticket, LoadBegin, LoadEnd}
use Rattle.foyer_core_model.specs.Reply.{Kind, Io, Memory, Parse, Closed, Unsupported, SequenceEnd, Reply, NotNow, Refused, Miss, Throttled, Read, Entry}
use Rattle.foyer_format_layout.specs.BlockBytes.{read}
use Rattle.foyer_core_model.specs.Load.{judged, Judges, IsDecoded}
use Rattle.foyer_core_model.specs.InTurn.{InTurn}
use Rattle.foyer_core_model.specs.Refusal.{MayRefuse}
use Rattle.foyer_core_model.specs.Follows.{Follows}
use Rattle.foyer_core_model.specs.Event.{Put}
use Rattle.foyer_core_model.specs.Access.{ReadDone, Load}
use Rattle.foyer_core_model.specs.World.{World}
use Rattle.foyer_core_model.specs.Laws.{Demands, LooksUpNewest, IsAnswer, LoadsNewest, MissedOnly}
use Rattle.foyer_core_model.proofs.Invariant.{ground_of, ReadStateHolds, IsPromised, LoadOk}
use Rattle.foyer_core_model.proofs.LoadSteps.{promised}
use Rattle.foyer_core_model.proofs.FoundKept.{looked}
use Rattle.foyer_core_model.proofs.LoadsHeld.{HasReadAll, IsHeld, HeldOk, IsHeldWorld, reached_held}

module _ {C : Type 0} (rules : Rules C) (Splits : Splitting C) (is_value : C → Type 0) (demands : Demands rules Splits is_value) where
  -- what was read is judged as what was promised
  judged_here : (w : World C) (l : Load C) (bs : List ℕ) (b s : ℕ) (x : Outcome C) → IsPromised rules (ground_of w) w.block_writes l → IsHeld rules w.core.filling w.core.place l
      → l.read_state ≡ ReadDone (Bytes bs) → l.kept ≡ Some b → l.promise ≡ Some (Put l.ticket.hash s x) → judged rules w.core l.ticket bs ≡ x
  judged_here w l bs b s x promised held read_state kept promise = go (l.ticket.address.filling == w.core.filling l.ticket.address.block) refl
    where
      same : promised.outcome ≡ x
      same = let e : Some (Put l.ticket.hash l.ticket.address.sequence promised.outcome) ≡ Some (Put l.ticket.hash s x) = sym promised.promise ∙ promise in cc

      other : (y : Outcome C) → x ≡ y → (l.ticket.address.filling ≡ w.core.filling l.ticket.address.block → ⊥) → NoRecord ≡ y
      other NoRecord is ne = refl
      other y is ne = absurd (let r : (l.ticket.address.block ≡ b) × (l.ticket.address.filling ≡ w.core.filling b) = held.stands b s x kept promise (λ none. let e : NoRecord ≡ y = sym none ∙ is in cc) in
          ne (r.1 ∙ ap w.core.filling (sym r.0)))

      go : (t : Bool) → (l.ticket.address.filling == w.core.filling l.ticket.address.block) ≡ t
          → (if t then rules.pair_of (take l.ticket.address.len bs) l.ticket.hash l.ticket.address.sequence else NoRecord) ≡ x
      go true e =
          let fill : l.ticket.address.filling ≡ w.core.filling l.ticket.address.block = eqb-true l.ticket.address.filling (w.core.filling l.ticket.address.block) e in
          let bytes : take l.ticket.address.len bs ≡ read (w.bytes l.ticket.address.block) l.ticket.address.offset l.ticket.address.len =
          subst (λ p. ReadStateHolds rules (ground_of w) l.ticket.address p) read_state (promised.read_state fill) in
          ap (λ k. rules.pair_of k l.ticket.hash l.ticket.address.sequence) bytes ∙ (promised.good.solid fill).outcome ∙ same
      go false e = other x refl (eqb-false l.ticket.address.filling (w.core.filling l.ticket.address.block) e)

  -- the replies to bytes that are judged so
  done_is : (old done : State C) (t : Ticket) (bs : List ℕ) (x : Outcome C) (reply : Reply C) → Judges rules old t x reply done → IsAnswer t (Bytes bs) x reply
  done_is old done t bs NoRecord Miss ok = refl
  done_is old done t bs (Holds c) (Entry d age) ok = inl (age, ap (λ k. Entry k age) ok.0)
  done_is old done t bs x reply ok = absurd ok

  refused_is : (old : State C) (t : Ticket) (bs : List ℕ) (x : Outcome C) (kind : Kind) → judged rules old t bs ≡ x → old.steps < last_number
      → MayRefuse rules Splits old kind (LoadEnd t (Bytes bs)) → IsAnswer t (Bytes bs) x (Refused kind (LoadEnd t (Bytes bs)))
  refused_is old t bs x SequenceEnd is few ok = elim ok [ inl over ↦ absurd (omega arith) | inr cause ↦ absurd ((cause.1).1) ]
  refused_is old t bs x Closed is few ok = absurd ((ok.1).0)
  refused_is old t bs x Io is few ok = absurd ok.1
  refused_is old t bs x Unsupported is few ok = subst (λ y. IsAnswer t (Bytes bs) y (Refused Unsupported (LoadEnd t (Bytes bs)))) (sym (ok.1).1 ∙ is) refl
  refused_is old t bs x Parse is few ok = subst (λ y. IsAnswer t (Bytes bs) y (Refused Parse (LoadEnd t (Bytes bs)))) (sym (ok.1).1 ∙ is) (inl refl)
  refused_is old t bs x Memory is few ok = go x (subst (IsDecoded rules old) is (ok.1).1)
    where
      go : (y : Outcome C) → IsDecoded rules old y → IsAnswer t (Bytes bs) y (Refused Memory (LoadEnd t (Bytes bs)))
      go NoRecord decoded = absurd decoded
      go NotSupported decoded = absurd decoded
      go Undecodable decoded = inr refl
      go (Holds c) decoded = inr refl

  bytes_answer : (old new : State C) (t : Ticket) (bs : List ℕ) (x : Outcome C) (reply : Reply C) → judged rules old t bs ≡ x → old.steps < last_number → InTurn rules old (LoadEnd t (Bytes bs))
      → Follows rules Splits old (LoadEnd t (Bytes bs)) reply new → IsAnswer t (Bytes bs) x reply
  bytes_answer old new t bs x (NotNow back) is few turn ok = absurd ((ok.1).2 turn)
  bytes_answer old new t bs x (Refused kind back) is few turn ok =
      subst (λ step. IsAnswer t (Bytes bs) x (Refused kind step)) (sym ok.0) (refused_is old t bs x kind is few ok.1)
  bytes_answer old new t bs x reply is few turn (_, _, (done, does, eq)) =
      done_is old done t bs x reply (subst (λ y. Judges rules old t y reply done) is does)

  fault_refused : (old : State C) (t : Ticket) (kind : Kind) → old.steps < last_number → MayRefuse rules Splits old kind (LoadEnd t Fault) → kind ≡ Io
  fault_refused old t Io few ok = refl
  fault_refused old t SequenceEnd few ok = elim ok [ inl over ↦ absurd (omega arith) | inr cause ↦ absurd ((cause.1).1) ]
  fault_refused old t Closed few ok = absurd ((ok.1).0)
  fault_refused old t Memory few ok = absurd ((((ok.1).1).2))
  fault_refused old t Unsupported few ok = absurd ok.1
  fault_refused old t Parse few ok = absurd ok.1

  fault_answer : (old new : State C) (t : Ticket) (x : Outcome C) (reply : Reply C) → old.steps < last_number → InTurn rules old (LoadEnd t Fault)
      → Follows rules Splits old (LoadEnd t Fault) reply new → IsAnswer t Fault x reply
  fault_answer old new t x (NotNow back) few turn ok = absurd ((ok.1).2 turn)
  fault_answer old new t x (Refused kind back) few turn ok = λ i. Refused (fault_refused old t kind few ok.1 i) (ok.0 i)
  fault_answer old new t x reply few turn (_, _, (done, does, eq)) = absurd does

  ended : (w : World C) (t : Ticket) (result : ReadResult) (reply : Reply C) (new : State C) (l : Load C) (b s : ℕ) (x : Outcome C) → IsPromised rules (ground_of w) w.block_writes l → IsHeld rules w.core.filling w.core.place l
      → Follows rules Splits w.core (LoadEnd t result) reply new → w.core.steps < last_number
      → l.ticket ≡ t → l.read_state ≡ ReadDone result → l.kept ≡ Some b → l.promise ≡ Some (Put t.hash s x) → IsAnswer t result x reply
  ended w t Fault reply new l b s x promised held ok few ticket read_state kept promise =
      fault_answer w.core new t x reply few (subst (λ u. u.address.block < rules.blocks) ticket held.below, tt) ok
  ended w t (Bytes bs) reply new l b s x promised held ok few ticket read_state kept promise =
      bytes_answer w.core new t bs x reply
      (subst (λ u. judged rules w.core u bs ≡ x) ticket (judged_here w l bs b s x promised held read_state kept (subst (λ u. l.promise ≡ Some (Put u.hash s x)) (sym ticket) promise))) few (
        subst (λ u. u.address.block < rules.blocks) ticket held.below,
        subst (λ u. length bs ≡ u.address.len) ticket (subst (λ p. HasReadAll rules l.ticket.address.len p) read_state held.all),
      ) ok

pub loads_newest_lem : {C : Type 0} (rules : Rules C) (Splits : Splitting C) (is_value : C → Type 0) → LoadsNewest rules Splits is_value
loads_newest_lem rules Splits is_value w t result reply new n l b s x demands reached last few at ticket read_state kept promise =
    let all : IsHeldWorld rules Splits is_value demands w = reached_held rules Splits is_value demands w reached in
    ended rules Splits is_value demands w t result reply new l b s x
    (subst (λ o. LoadOk rules (ground_of w) w.block_writes o) at (all.known.sound.loads n))
    (subst (λ o. HeldOk rules w.core.filling w.core.place o) at (all.held.loads n))
    last.1 few ticket read_state kept promise

pub looks_up_newest_lem : {C : Type 0} (rules : Rules C) (Splits : Splitting C) (is_value : C → Type 0) → LooksUpNewest rules Splits is_value
looks_up_newest_lem {C} rules Splits is_value w h throttled reply new b s x demands reached last few kept newer some = go reply last.1
  where
    all : IsHeldWorld rules Splits is_value demands w
    all = reached_held rules Splits is_value demands w reached

    refused : (kind : Kind) → MayRefuse rules Splits w.core kind (LoadBegin h throttled) → ⊥
    refused SequenceEnd ok = elim ok [ inl over ↦ omega arith | inr cause ↦ (cause.1).1 ]
    refused Closed ok = (ok.1).0
    refused Memory ok = ((ok.1).1).3
    refused Io ok = ok.1
    refused Unsupported ok = ok.1
    refused Parse ok = ok.1

    go : (reply : Reply C) → Follows rules Splits w.core (LoadBegin h throttled) reply new
        → ((throttled ≡ true) × (reply ≡ Throttled)) ⊎ ((throttled ≡ false) × ((t : Ticket) × (reply ≡ Read t) × (t.hash ≡ h) × (t.address.sequence ≡ s)))
    go (NotNow back) ok = absurd ((ok.1).2 tt)
    go (Refused kind back) ok = absurd (refused kind ok.1)
    go reply (_, _, (done, does, eq)) = looked rules Splits is_value demands w h throttled (w.core.index h) reply done b s x all.known.sound all.kept refl does kept newer some

pub missed_only_lem : {C : Type 0} (rules : Rules C) (Splits : Splitting C) (is_value : C → Type 0) → MissedOnly rules Splits is_value
missed_only_lem rules Splits is_value = record { looks_up = looks_up_newest_lem rules Splits is_value; loads = loads_newest_lem rules Splits is_value }
