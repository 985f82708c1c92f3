-- The step of a load that was answered last.
use Rattle.std.proofs.Common.{◌≡◌, ◌⊎◌, ℕ, Bool, List, [], ◌∷◌, ◌++◌, inl, inr, None, refl, sym, ap, subst, ◌∙◌}
use Rattle.foyer_core_model.specs.Access.{CleanIdle, Idle}
use Rattle.foyer_core_model.specs.Follows.{Follows}
use Rattle.foyer_core_model.specs.Reply as model_reply
use Rattle.foyer_core_model.specs.Rules.{Rules, first_position}
use Rattle.foyer_core_model.specs.State.{State}
use Rattle.foyer_core_model.specs.Step as model_step
use Rattle.foyer_core_model.specs.World.{World, Applies, ReadBegins, ReadEnds, MayAllHappen, after}
use Rattle.foyer_core_laws.specs.Content.{Content, Meaning}
use Rattle.foyer_core_laws.specs.CoreRules.{IsEncoded, layout, machine}
use Rattle.foyer_core_laws.specs.Sizes.{AreValid}
use Rattle.foyer_core_laws.specs.Settings.{Settings}
use Rattle.foyer_core_steps.specs.Replied.{IsReply}
use Rattle.foyer_core_steps.specs.StateOf.{IsStateOf}
use Rattle.foyer_core_steps.specs.declared.reply.Reply.{Reply}
use Rattle.foyer_core_steps.specs.declared.state.Core.{Core}
use Rattle.foyer_core_run.specs.Accesses.{Says, load_of}

module _ {X : Type 0} where
  some_behind : (xs : List X) (x : X) → xs ++ x ∷ [] ≡ [] → ⊥
  some_behind [] x e = let f : x ∷ [] ≡ [] = e in cc
  some_behind (y ∷ xs) x e = let f : y ∷ (xs ++ x ∷ []) ≡ [] = e in cc

  rest_is : (x y : X) (xs ys : List X) → x ∷ xs ≡ y ∷ ys → xs ≡ ys
  rest_is x y xs ys e = let f : x ∷ xs ≡ y ∷ ys = e in cc

  first_is : (x y : X) (xs ys : List X) → x ∷ xs ≡ y ∷ ys → x ≡ y
  first_is x y xs ys e = let f : x ∷ xs ≡ y ∷ ys = e in cc

  last_of_one : (xs : List X) (x y : X) → xs ++ x ∷ [] ≡ y ∷ [] → x ≡ y
  last_of_one [] x y e = first_is x y [] [] e
  last_of_one (z ∷ xs) x y e = absurd (some_behind xs x (rest_is z y (xs ++ x ∷ []) [] e))

  last_of_two : (xs : List X) (x y z : X) → xs ++ x ∷ [] ≡ y ∷ z ∷ [] → x ≡ z
  last_of_two [] x y z e = absurd (some_behind [] z (sym (rest_is x y [] (z ∷ []) e)))
  last_of_two (w ∷ xs) x y z e = last_of_one xs x z (rest_is w y (xs ++ x ∷ []) (z ∷ []) e)

-- a world of this state over these bytes, in which nothing is under way
abbrev world_over : Rules Content → State Content → (ℕ → ℕ → ℕ) → World Content
world_over rules it bytes = record {
  core = it;
  bytes = bytes;
  history = [];
  kept = λ hash. None;
  filled = λ b. first_position rules;
  begun_writes = [];
  committed = [];
  loads = λ n. None;
  issued = 0;
  scans = λ b. None;
  block_writes = λ f. Idle;
  clean_states = λ b. CleanIdle;
}

module _ {K V P A : Type 0} (m : Meaning K V P) (s : Settings) (sound : AreValid s) where
  -- a step of the model was answered so
  pub record IsAnswered (given : model_step.Step Content) (last : Reply K V P A) : Type 0 where
    pub old : State Content
    pub it : model_reply.Reply Content
    pub after : State Content
    pub reply : IsReply m last it
    pub follows : Follows (machine m s sound) (layout s) old given it after

  -- a load's look-up was, or its end
  abbrev pub IsLoadAnswered : (hash : ℕ) (throttled : Bool) → Reply K V P A → Type 0
  IsLoadAnswered hash throttled last =
      IsAnswered (model_step.LoadBegin hash throttled) last
      ⊎ ((t : model_step.Ticket) × (came : model_step.ReadResult) × IsAnswered (model_step.LoadEnd t came) last)

  -- from one world on
  pub answered_in_world : (h : ℕ) (throttled : Bool) (last : Reply K V P A) (old new : Core K V P A) (bytes after_bytes : ℕ → ℕ → ℕ)
      → Says m (load_of h throttled) last old new bytes after_bytes
      → (w : World Content) → IsStateOf m s old w.core → ((b o : ℕ) → w.bytes b o ≡ bytes b o) → IsLoadAnswered h throttled last
  answered_in_world h throttled last old new bytes after_bytes says w stands same =
      let rules = machine m s sound in
      let run = says.runs s sound w stands same in
      let first = run.made in
      let begin = first.made in
      let second = first.more in
      let event = Applies (model_step.LoadBegin h throttled) begin.it begin.after in
      let happened = subst (λ es. MayAllHappen rules (layout s) (IsEncoded m.is_key m.is_value) w es)
      (first.is ∙ ap (λ es. es ++ first.later) begin.is) run.happened in
      let said = first.said_is ∙ ap (λ rs. rs ++ first.others) begin.said_is in
      elim second.made [
        | inl passed ↦
            let all = said ∙ ap (λ rs. begin.answer ∷ rs) (second.said_is ∙ ap (λ rs. rs ++ second.others) (passed.0).1 ∙ (second.more).1) in
            let one : last ≡ begin.answer = last_of_one says.before last begin.answer all in
            inl (record {
              old = w.core;
              it = begin.it;
              after = begin.after;
              reply = subst (λ r. IsReply m r begin.it) (sym one) begin.reply;
              follows = (happened.0).1;
            })
        | inr (t, came, due, applied) ↦
            let all = said ∙ ap (λ rs. begin.answer ∷ rs) (second.said_is ∙ ap (λ rs. rs ++ second.others) applied.said_is ∙ ap (λ rs. applied.answer ∷ rs) (second.more).1) in
            let two : last ≡ applied.answer = last_of_two says.before last begin.answer applied.answer all in
            let v = after rules w event in
            let later = subst (λ es. MayAllHappen rules (layout s) (IsEncoded m.is_key m.is_value) v es)
            (second.is ∙ ap (λ es. es ++ second.later) applied.is) happened.1 in
            let n = w.issued in
            let u = after rules (after rules v (ReadBegins n)) (ReadEnds n came) in
            inr (
              t,
              came,
              record {
                old = u.core;
                it = applied.it;
                after = applied.after;
                reply = subst (λ r. IsReply m r applied.it) (sym two) applied.reply;
                follows = (((later.1).1).0).1;
              },
            )
      ]

  -- and so from each state that the core stands for
  pub load_is_answered : (h : ℕ) (throttled : Bool) (last : Reply K V P A) (old new : Core K V P A) (bytes after_bytes : ℕ → ℕ → ℕ)
      → Says m (load_of h throttled) last old new bytes after_bytes → (it : State Content) → IsStateOf m s old it → IsLoadAnswered h throttled last
  load_is_answered h throttled last old new bytes after_bytes says it at =
      answered_in_world h throttled last old new bytes after_bytes says (world_over (machine m s sound) it bytes) at (λ b o. refl)
