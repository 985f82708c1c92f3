-- What the engine's calls are refused for.
use Rattle.std.proofs.Common.{◌≡◌, ◌⊎◌, Bool, true, Result, Ok, Err, inl, inr, refl, sym, ap, subst, ◌∙◌}
use Rattle.std.specs.Result.{IfErr}
use Rattle.foyer_core_shared.specs.Reply.{Reply}
use Rattle.foyer_core_shared.specs.Reply.TheVariants as reply
use Rattle.foyer_core_shared.specs.Step.{Step}
use Rattle.foyer_device_page.specs.declared.error.Error.{Error}
use Rattle.foyer_device_page.specs.declared.error.Error.TheVariants as error
use Rattle.foyer_device_page.specs.declared.error.ErrorKind.TheVariants as kind
use Rattle.foyer_core_shared.specs.Replies.{is_end_reply, is_look_up_reply}
use Rattle.foyer_storage_engine.specs.declared.load.Load.{Load}
use Rattle.foyer_storage_engine.specs.declared.load.Load.TheVariants as load
use Rattle.foyer_storage_engine.specs.Answering.{IsLoadOf, is_load_error}
use Rattle.foyer_storage_engine.proofs.AnsweringLemmas.{refused_load}

module _ {K V P A : Type 0} where
  -- a reply is one of its step's, or its note found no room
  abbrev IsNamed : (keeps : Bool) → (is_reply : Bool) → Step K V P A → Reply K V P A → Type 0
  IsNamed keeps is_reply given answer = (is_reply ≡ true) ⊎ ((keeps ≡ true) × (answer ≡ reply.Refused kind.Memory given))

  pub refused_as : {X : Type 0} (keeps : Bool) (is_error : Error → Bool) (says : Reply K V P A → Result X Error) (is_reply : Bool) (given : Step K V P A) (answer : Reply K V P A) (result : Result X Error)
      → IsNamed keeps is_reply given answer → (is_reply ≡ true → IfErr result (λ e. is_error e ≡ true)) → result ≡ says answer
      → says (reply.Refused kind.Memory given) ≡ Err error.Memory → (keeps ≡ true → is_error error.Memory ≡ true) → IfErr result (λ e. is_error e ≡ true)
  refused_as keeps is_error says is_reply given answer result (inl named) refused is memory ok = refused named
  refused_as keeps is_error says is_reply given answer result (inr none) refused is memory ok =
      subst (λ r. IfErr r (λ e. is_error e ≡ true)) (sym (is ∙ ap says none.1 ∙ memory)) (ok none.0)

  -- a load is answered as throttled by that reply alone
  by_throttled : (answer : Reply K V P A) (result : Result (Load K V P A) Error) → IsLoadOf answer result → result ≡ Ok load.Throttled → answer ≡ reply.Throttled
  by_throttled (reply.NotNow back) result is throttled = let clash = sym is ∙ throttled in absurd cc
  by_throttled (reply.Refused why back) result is throttled = let clash = sym is ∙ throttled in absurd cc
  by_throttled (reply.Ignored piece) result is throttled = let clash = sym is ∙ throttled in absurd cc
  by_throttled (reply.Queued sequence) result is throttled = let clash = sym is ∙ throttled in absurd cc
  by_throttled (reply.Dropped piece sequence) result is throttled = let clash = sym is ∙ throttled in absurd cc
  by_throttled (reply.Deleted sequence) result is throttled = let clash = sym is ∙ throttled in absurd cc
  by_throttled reply.Done result is throttled = let clash = sym is ∙ throttled in absurd cc
  by_throttled (reply.Answer answer) result is throttled = let clash = sym is ∙ throttled in absurd cc
  by_throttled reply.Miss result is throttled = let clash = sym is ∙ throttled in absurd cc
  by_throttled reply.Throttled result is throttled = refl
  by_throttled (reply.Read ticket) result is throttled = let clash = sym is ∙ throttled in absurd cc
  by_throttled (reply.Entry key value age) result is throttled = let clash = sym is ∙ throttled in absurd cc
  by_throttled reply.Empty result is throttled = let clash = sym is ∙ throttled in absurd cc
  by_throttled (reply.Received back) result is throttled = let clash = sym is ∙ throttled in absurd cc
  by_throttled (reply.Began blocks marks) result is throttled = let clash = sym is ∙ throttled in absurd cc
  by_throttled (reply.Write block writes) result is throttled = let clash = sym is ∙ throttled in absurd cc
  by_throttled reply.NoBlock result is throttled = let clash = sym is ∙ throttled in absurd cc
  by_throttled reply.Next result is throttled = let clash = sym is ∙ throttled in absurd cc
  by_throttled (reply.Committed puts) result is throttled = let clash = sym is ∙ throttled in absurd cc
  by_throttled reply.Failed result is throttled = let clash = sym is ∙ throttled in absurd cc
  by_throttled (reply.Ended pieces waits) result is throttled = let clash = sym is ∙ throttled in absurd cc
  by_throttled (reply.Picked block answers probation) result is throttled = let clash = sym is ∙ throttled in absurd cc
  by_throttled (reply.Scan block offset len verdicts) result is throttled = let clash = sym is ∙ throttled in absurd cc
  by_throttled (reply.Listed verdicts) result is throttled = let clash = sym is ∙ throttled in absurd cc
  by_throttled (reply.Clean block) result is throttled = let clash = sym is ∙ throttled in absurd cc
  by_throttled (reply.Destroying sequence) result is throttled = let clash = sym is ∙ throttled in absurd cc
  by_throttled reply.Cleared result is throttled = let clash = sym is ∙ throttled in absurd cc
  by_throttled (reply.Destroyed first) result is throttled = let clash = sym is ∙ throttled in absurd cc

  pub look_up_throttled : (keeps throttled : Bool) (given : Step K V P A) (answer : Reply K V P A) (result : Result (Load K V P A) Error) → IsNamed keeps (is_look_up_reply throttled answer) given answer
      → IsLoadOf answer result → result ≡ Ok load.Throttled → throttled ≡ true
  look_up_throttled keeps throttled given answer result (inl named) is said = subst (λ r. is_look_up_reply throttled r ≡ true) (by_throttled answer result is said) named
  look_up_throttled keeps throttled given answer result (inr none) is said = let clash : ◌≡◌ {A = Reply K V P A} reply.Throttled (reply.Refused kind.Memory given) = sym (by_throttled answer result is said) ∙ none.1 in absurd cc

  pub end_throttled : (keeps has_read : Bool) (given : Step K V P A) (answer : Reply K V P A) (result : Result (Load K V P A) Error) → IsNamed keeps (is_end_reply has_read answer) given answer
      → IsLoadOf answer result → result ≡ Ok load.Throttled → ⊥
  end_throttled keeps has_read given answer result (inl named) is said = let clash = subst (λ r. is_end_reply has_read r ≡ true) (by_throttled answer result is said) named in absurd cc
  end_throttled keeps has_read given answer result (inr none) is said = let clash : ◌≡◌ {A = Reply K V P A} reply.Throttled (reply.Refused kind.Memory given) = sym (by_throttled answer result is said) ∙ none.1 in absurd cc

  pub end_refused : (keeps has_read : Bool) (given : Step K V P A) (answer : Reply K V P A) (result : Result (Load K V P A) Error) → IsNamed keeps (is_end_reply has_read answer) given answer
      → (is_end_reply has_read answer ≡ true → IfErr result (λ e. is_load_error e ≡ true)) → IsLoadOf answer result → IfErr result (λ e. is_load_error e ≡ true)
  end_refused keeps has_read given answer result (inl named) refused is = refused named
  end_refused keeps has_read given answer result (inr none) refused is = subst (λ r. IfErr r (λ e. is_load_error e ≡ true)) (sym (refused_load answer given result none.1 is)) refl

  pub look_up_refused : (keeps throttled : Bool) (given : Step K V P A) (answer : Reply K V P A) (result : Result (Load K V P A) Error) → IsNamed keeps (is_look_up_reply throttled answer) given answer
      → (is_look_up_reply throttled answer ≡ true → IfErr result (λ e. is_load_error e ≡ true)) → IsLoadOf answer result → IfErr result (λ e. is_load_error e ≡ true)
  look_up_refused keeps throttled given answer result (inl named) refused is = refused named
  look_up_refused keeps throttled given answer result (inr none) refused is = subst (λ r. IfErr r (λ e. is_load_error e ≡ true)) (sym (refused_load answer given result none.1 is)) refl
