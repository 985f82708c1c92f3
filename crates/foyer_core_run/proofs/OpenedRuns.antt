-- A core that was opened begins a history, and runs from it are lawful.
use Rattle.std.proofs.Common.{◌≡◌, ◌⊎◌, inl, inr, Result, Ok, Err, IfErr, ℕ, Bool, if◌then◌else◌, Some, None, List, [], ◌∷◌, refl, sym, ap, subst, ◌∙◌}
use Rattle.std.proofs.lemmas.Bool.{eq-eqb}
use Rattle.foyer_device_page.specs.declared.error.Error.{Error}
use Rattle.foyer_device_page.specs.declared.error.Error.TheVariants as error
use Rattle.foyer_core_model.specs.Opened.{IsOpened as IsOpenedWorld, slot_among, recovered}
use Rattle.foyer_core_model.specs.Record.{Address, Indexed}
use Rattle.foyer_core_model.specs.Rules.{Rules}
use Rattle.foyer_core_model.specs.World.{World}
use Rattle.foyer_block_recover.specs.Opening.{Opened}
use Rattle.foyer_block_recover.specs.declared.block.recover.RecoverMode.{RecoverMode}
use Rattle.foyer_block_recover.specs.declared.block.recover.RecoverMode.TheVariants as recover_mode
use Rattle.foyer_block_recover.proofs.EmptyLemmas.{none_indexed, none_drawn}
use Rattle.foyer_core_laws.specs.Begins.{opened_world}
use Rattle.foyer_core_laws.specs.Content.{Content, Meaning}
use Rattle.foyer_core_laws.specs.CoreRules.{machine}
use Rattle.foyer_core_laws.specs.Sizes.{AreValid, sizes_in}
use Rattle.foyer_core_laws.specs.Settings.{Settings}
use Rattle.foyer_core_laws.proofs.OpenedWorlds.{world_opened}
use Rattle.foyer_core_steps.specs.Opened.{IsOpenedFrom}
use Rattle.foyer_core_steps.specs.declared.reply.Reply.{Reply}
use Rattle.foyer_core_steps.specs.declared.state.Core.{Core}
use Rattle.foyer_core_steps.proofs.OpenedLemmas.{opened_stands}
use Rattle.foyer_core_run.specs.Begun.{IsBegun, IsBegunEmpty}
use Rattle.foyer_core_run.specs.Lawful.{IsLawful, IsLawfulEmpty, IsLawfulFrom}
use Rattle.foyer_core_run.specs.Newest.{IsHistory}
use Rattle.foyer_core_run.specs.Runs.{Runs}
use Rattle.foyer_core_run.specs.declared.moves.Move.{Move}
use Rattle.foyer_core_run.proofs.LawfulLemmas.{lawful}

pub err_weakens : {T E : Type 0} (r : Result T E) (P Q : E → Type 0) → ((e : E) → P e → Q e) → IfErr r P → IfErr r Q
err_weakens (Ok x) P Q f is = tt
err_weakens (Err e) P Q f is = f e is

-- an opening that reads nothing is refused for its sizes and for memory alone
pub none_refuses : {Bad Never : Type 0} → (Never → ⊥) → (e : Error)
    → ((e ≡ error.Memory) ⊎ ((e ≡ error.Config) × Bad) ⊎ ((e ≡ error.Recover) × (recover_mode.None ≡ recover_mode.Strict)) ⊎ ((e ≡ error.SequenceEnd) × Never))
    → (e ≡ error.Memory) ⊎ ((e ≡ error.Config) × Bad)
none_refuses not e (inl memory) = inl memory
none_refuses not e (inr (inl config)) = inr config
none_refuses not e (inr (inr (inl recover))) = absurd (let bad : recover_mode.None ≡ recover_mode.Strict = recover.1 in cc)
none_refuses not e (inr (inr (inr end))) = absurd (not end.1)

-- a map of no address has none
none_among : (found : List (ℕ × Address)) → ((h : ℕ) → slot_among h found ≡ None) → found ≡ []
none_among [] none = refl
none_among (p ∷ ps) none =
    let here : slot_among p.0 (p ∷ ps) ≡ Some (Indexed p.1) = ap (λ (t : Bool). if t then Some (Indexed p.1) else slot_among p.0 ps) (eq-eqb p.0 p.0 refl) in
    absurd (let clash : Some (Indexed p.1) ≡ None = sym here ∙ none p.0 in cc)

empty_recovered : {C : Type 0} (rules : Rules C) (bytes : ℕ → ℕ → ℕ) (found : List (ℕ × Address)) → recovered rules bytes found ≡ [] → found ≡ []
empty_recovered rules bytes [] is = refl
empty_recovered rules bytes (p ∷ ps) is = absurd (cc)

module _ {K V P : Type 0} (m : Meaning K V P) (s : Settings) (sound : AreValid s) where
  abbrev world_of : (ℕ → ℕ → ℕ) → Opened → List (ℕ × Address) → World Content
  world_of bytes o found = opened_world (machine m s sound) bytes o found

  -- if no hash has an address, no address was listed
  none_listed : (bytes : ℕ → ℕ → ℕ) (o : Opened) (found : List (ℕ × Address)) → IsOpenedWorld (machine m s sound) (world_of bytes o found) → ((h : ℕ) → o.index h ≡ None) → found ≡ []
  none_listed bytes o found opened none =
      let empty : opened.found ≡ [] = none_among opened.found (λ h. sym (opened.index h) ∙ none h) in
      empty_recovered (machine m s sound) bytes found (opened.history ∙ ap (recovered (machine m s sound) bytes) empty)

  pub begun : {A : Type 0} (core : Core K V P A) (bytes now : ℕ → ℕ → ℕ) (surely : ℕ → ℕ → ℕ → Type 0) (mode : RecoverMode) (marks : List (ℕ × ℕ)) (seen : Type 0)
      → IsOpenedFrom s bytes surely mode marks seen core → bytes ≡ now → IsBegun m s sound bytes surely mode marks seen core now
  begun core bytes now surely mode marks seen from same =
      let world = world_opened m.is_key m.is_value s sound marks from.found from.opening bytes in
      record {
        found = from.found;
        addresses = world.0;
        recovered = from.recovered;
        history = record {
          opened = world.1;
          happened = tt;
          stands = opened_stands m s sound marks from.found core from.opening from.opened;
          same = λ b o. ap (λ (g : ℕ → ℕ → ℕ). g b o) same;
        };
      }

  -- an opening that reads nothing begins an empty one
  pub begun_empty : {A : Type 0} (core : Core K V P A) (bytes bytes' now : ℕ → ℕ → ℕ) (surely : ℕ → ℕ → ℕ → Type 0) (seen : Type 0) → seen
      → IsBegun m s sound bytes surely recover_mode.None [] seen core now → ((b o : ℕ) → bytes b o ≡ bytes' b o) → IsBegunEmpty m s sound bytes' core now
  begun_empty core bytes bytes' now surely seen is_seen from same =
      let none : (h : ℕ) → (from.found).index h ≡ None = none_indexed (sizes_in s) s.blocks bytes surely from.found (from.recovered is_seen) in
      let listed : from.addresses ≡ [] = none_listed bytes from.found from.addresses (from.history).opened none in
      let equal : bytes ≡ bytes' = λ i. λ b. λ o. same b o i in
      record {
        found = from.found;
        next = none_drawn (sizes_in s) s.blocks bytes surely from.found (from.recovered is_seen);
        history = subst (λ g. IsHistory m s sound (world_of g from.found []) [] core now) equal
            (subst (λ l. IsHistory m s sound (world_of bytes from.found l) [] core now) listed from.history);
      }

  -- what a run from it gives
  pub lawful_from : {A : Type 0} (core : Core K V P A) (bytes shown : ℕ → ℕ → ℕ) (surely : ℕ → ℕ → ℕ → Type 0) (mode : RecoverMode) (marks : List (ℕ × ℕ)) (seen : Type 0) → seen
      → IsOpenedFrom s shown surely mode marks seen core → (moves : List (Move K V P A)) (said : List (Reply K V P A)) (new : Core K V P A) (now now' : ℕ → ℕ → ℕ)
      → ((b o : ℕ) → bytes b o ≡ now b o) → Runs m moves said core new now now' → IsLawfulFrom m s sound bytes shown surely mode marks moves said
  lawful_from core bytes shown surely mode marks seen is_seen from moves said new now now' same runs =
      let world = world_opened m.is_key m.is_value s sound marks from.found from.opening bytes in
      record {
        found = from.found;
        addresses = world.0;
        recovered = from.recovered is_seen;
        lawful =
            lawful m s sound (world_of bytes from.found world.0) world.1 moves said new now'
            (runs s sound (world_of bytes from.found world.0) (opened_stands m s sound marks from.found core from.opening from.opened) same);
      }

  -- of one that reads nothing
  pub lawful_empty : {A : Type 0} (bytes shown : ℕ → ℕ → ℕ) (surely : ℕ → ℕ → ℕ → Type 0) (moves : List (Move K V P A)) (said : List (Reply K V P A))
      → IsLawfulFrom m s sound bytes shown surely recover_mode.None [] moves said → IsLawfulEmpty m s sound bytes moves said
  lawful_empty bytes shown surely moves said from =
      let none = none_indexed (sizes_in s) s.blocks shown surely from.found from.recovered in
      let listed : from.addresses ≡ [] = none_listed bytes from.found from.addresses (from.lawful).opened none in
      record {
        found = from.found;
        next = none_drawn (sizes_in s) s.blocks shown surely from.found from.recovered;
        lawful = subst (λ l. IsLawful m s sound (world_of bytes from.found l) moves said) listed from.lawful;
      }

-- an opening of which it is sure of fewer places
pub opened_with_fewer : {K V P A : Type 0} (s : Settings) (bytes : ℕ → ℕ → ℕ) (more fewer : ℕ → ℕ → ℕ → Type 0) (mode : RecoverMode) (marks : List (ℕ × ℕ)) (seen : Type 0) (core : Core K V P A)
    → ((b o n : ℕ) → fewer b o n → more b o n) → IsOpenedFrom s bytes more mode marks seen core → IsOpenedFrom s bytes fewer mode marks seen core
opened_with_fewer s bytes more fewer mode marks seen core within from = record {
  found = from.found;
  opening = from.opening;
  recovered = λ is_seen. let all = from.recovered is_seen in (all.0, (λ b p lt bad sure. all.1 b p lt bad (within b p (sizes_in s).index sure)), all.2);
  opened = from.opened;
}
