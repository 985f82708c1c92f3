-- A load's entry is the newest put of its hash, in every history that led to the core and bytes that it began with.
use Rattle.std.proofs.Common.{◌≡◌, ℕ, Bool, [], ◌∷◌, Option, Some, None, Result, refl, sym, subst}
use Rattle.std.specs.declared.vec.Vec.{Vec}
use Rattle.foyer_device_page.specs.declared.error.Error.{Error}
use Rattle.foyer_core_model.specs.Access.{ReadDone, ReadIssued}
use Rattle.foyer_core_model.specs.Event.{newest}
use Rattle.foyer_core_model.specs.Load.{Looks}
use Rattle.foyer_core_model.specs.Record.{Slot, Indexed, Mark}
use Rattle.foyer_core_model.specs.Reply as model_reply
use Rattle.foyer_core_model.specs.Rules.{Rules}
use Rattle.foyer_core_model.specs.State.{State}
use Rattle.foyer_core_model.specs.Step as model_step
use Rattle.foyer_core_model.specs.Follows.{Follows}
use Rattle.foyer_core_model.specs.World.{World, Applies, ReadBegins, ReadEnds, IsReadAt, after, after_all, covers}
use Rattle.foyer_core_model.proofs.Basics.{put_same}
use Rattle.foyer_core_model.proofs.Promises.{answers_newest_lem}
use Rattle.foyer_core_steps.specs.Asked.{age_of, ticket_of, came_of}
use Rattle.foyer_core_laws.specs.Content.{Content, Meaning, content}
use Rattle.foyer_core_laws.specs.CoreRules.{layout}
use Rattle.foyer_core_steps.specs.Refines.{IsRefined}
use Rattle.foyer_core_laws.specs.CoreRules.{machine}
use Rattle.foyer_core_laws.specs.CoreRules.{IsEncoded}
use Rattle.foyer_core_laws.specs.Sizes.{AreValid}
use Rattle.foyer_core_steps.specs.StateOf.{IsStateOf}
use Rattle.foyer_core_steps.specs.declared.reply.Reply.{Reply}
use Rattle.foyer_core_steps.specs.declared.reply.Reply.TheVariants as reply
use Rattle.foyer_core_laws.specs.Settings.{Settings}
use Rattle.foyer_core_steps.specs.declared.state.Core.{Core}
use Rattle.foyer_core_steps.specs.declared.step.Step.TheVariants as step
use Rattle.foyer_core_steps.specs.declared.step.Ticket.{Ticket}
use Rattle.foyer_core_laws.proofs.LawLemmas.{demands}
use Rattle.foyer_core_run.specs.Newest.{IsNewest}
use Rattle.foyer_core_run.proofs.LoadLemmas.{IsCome, began, ended, ends, gives, load_at}

-- a look-up answers no entry
no_entry : {C : Type 0} (rules : Rules C) (old new : State C) (h : ℕ) (throttled : Bool) (slot : Option Slot) (c : C) (age : model_step.Age) → Looks rules old h throttled slot (model_reply.Entry c age) new → ⊥
no_entry rules old new h throttled None c age looks = looks
no_entry rules old new h throttled (Some (Mark q)) c age looks = looks
no_entry rules old new h throttled (Some (Indexed a)) c age looks = looks

module _ {K V P A : Type 0} (m : Meaning K V P) where
  -- what a look-up answers by itself
  pub look_up_newest : (h : ℕ) (throttled : Bool) (answer : Reply K V P A) (old new : Core K V P A) (bytes : ℕ → ℕ → ℕ)
      → ((s : Settings) (sound : AreValid s) (v : World Content) → IsStateOf m s old v.core → IsRefined m s sound (step.LoadBegin h throttled) answer new v.core)
      → IsNewest m h old bytes answer
  look_up_newest h throttled (reply.Entry key value age) old new bytes meets = λ s sound first events history.
      let w = after_all (machine m s sound) first events in
      let met = meets s sound w history.stands in
      let follows = subst (λ r. Follows (machine m s sound) (layout s) w.core (model_step.LoadBegin h throttled) r met.after) met.reply met.follows in
      absurd (no_entry (machine m s sound) w.core (follows.2).0 h throttled (w.core.index h) (content m key value) (age_of age) (follows.2).1)
  look_up_newest h throttled answer old new bytes meets = tt

  -- what a load ends with, by the bytes of its own read
  pub load_newest : (h : ℕ) (throttled : Bool) (ticket : Ticket) (outcome : Result (Vec ℕ A) Error) (answer : Reply K V P A) (old mid new : Core K V P A) (bytes : ℕ → ℕ → ℕ)
      → ((s : Settings) (sound : AreValid s) (v : World Content) → IsStateOf m s old v.core → IsRefined m s sound (step.LoadBegin h throttled) (reply.Read ticket) mid v.core)
      → IsCome bytes ticket outcome
      → ((s : Settings) (sound : AreValid s) (v : World Content) → IsStateOf m s mid v.core → IsRefined m s sound (step.LoadEnd ticket outcome) answer new v.core)
      → IsNewest m h old bytes answer
  load_newest h throttled ticket outcome (reply.Entry key value age) old mid new bytes looks come loads = λ s sound first events history.
      let rules = machine m s sound in
      let Splits = layout s in
      let is_value = IsEncoded m.is_key m.is_value in
      let w = after_all rules first events in
      let t = ticket_of ticket in
      let result = came_of outcome in
      let looked = looks s sound w history.stands in
      let begin = Applies (model_step.LoadBegin h throttled) (model_reply.Read t) looked.after in
      let v = after rules w begin in
      let k = w.issued in
      let load = load_at m s sound t (newest t.hash w.history) (w.kept t.hash) ReadIssued in
      let issued : v.loads k ≡ Some load = put_same w.loads k (Some load) in
      let u = ends m s sound v k result in
      let read = ended m s sound v k result t (newest t.hash w.history) (w.kept t.hash) issued in
      let met = loads s sound u looked.stands in
      let issued_follows = subst (λ r. Follows rules Splits w.core (model_step.LoadBegin h throttled) r looked.after) looked.reply looked.follows in
      let end_follows = subst (λ r. Follows rules Splits u.core (model_step.LoadEnd t result) r met.after) met.reply met.follows in
      let has = load_at m s sound t (newest t.hash w.history) (w.kept t.hash) (ReadDone result) in
      let stands_read =
      subst (λ o. IsReadAt rules v.bytes o result) (sym (began m s sound v k t (newest t.hash w.history) (w.kept t.hash) issued))
      (gives m s sound v bytes ticket outcome (covers rules v t.address.block) history.same come) in (
        t.address.sequence,
        answers_newest_lem rules Splits is_value w h throttled t looked.after (ReadBegins k ∷ ReadEnds k result ∷ []) result (content m key value) (age_of age) met.after has
            (demands m.is_key m.is_value s sound)
            (record { first = first; events = events; opened = history.opened; happened = history.happened; is = refl })
            ((tt, issued_follows), (tt, (stands_read, tt)))
            ((k, has, read, refl, refl), end_follows) read refl,
      )
  load_newest h throttled ticket outcome answer old mid new bytes looks come loads = tt
