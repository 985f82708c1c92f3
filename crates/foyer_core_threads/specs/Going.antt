-- How a session goes on in the one history.
use Rattle.std.specs.Prelude.{◌≡◌, ℕ, zero, suc, List, ◌++◌, Result, Ok, Err}
use Rattle.foyer_device_page.specs.declared.error.ErrorKind.TheVariants as kind
use Rattle.foyer_core_chronicle.specs.declared.View.{View}
use Rattle.foyer_core_laws.specs.Content.{Meaning}
use Rattle.foyer_core_laws.specs.Settings.{Settings}
use Rattle.foyer_core_steps.specs.declared.reply.Reply.{Reply}
use Rattle.foyer_core_steps.specs.declared.reply.Reply.TheVariants as replies
use Rattle.foyer_core_steps.specs.declared.step.Step.{Step}
use Rattle.foyer_core_steps.specs.declared.step.Step.TheVariants as steps
use Rattle.foyer_core_told.specs.declared.event.Told.{Told}
use Rattle.foyer_core_told.specs.Telling.{HasStepped, KeepsRights}
use Rattle.foyer_core_threads.specs.Asking.{HasSizes}

-- The step may be made again while memory is refused for it: it is no end of a load, whose bytes are gone then.
abbrev pub IsRepeatable : {K V P A : Type 0} → Step K V P A → Type 0
IsRepeatable (steps.LoadEnd ticket outcome) = ⊥
IsRepeatable step = Unit {0}

-- the step that was refused for want of memory, or the reply, which is another one
abbrev pub IsRefusedIn : {K V P A : Type 0} → Reply K V P A → Result (Step K V P A) (Reply K V P A) → Type 0
IsRefusedIn answer (Ok back) = answer ≡ replies.Refused kind.Memory back
IsRefusedIn {K} {V} {P} {A} answer (Err other) = (other ≡ answer) × ((back : Step K V P A) → answer ≡ replies.Refused kind.Memory back → ⊥)

module _ {K V P A D : Type 0} (m : Meaning K V P) (byte_at : D → ℕ → ℕ → ℕ) where
  -- A session has seen what it had seen, and may have seen more. It has the rights that it had, and knows sizes that it knew.
  pub record GoesOn (mine after : View (Told K V P A D)) : Type 0 where
    pub more : List (Told K V P A D)
    pub seen : after.seen ≡ mine.seen ++ more
    pub rights : KeepsRights mine.has after.has
    pub sizes : (sizes : Settings) → HasSizes m byte_at mine.seen sizes → HasSizes m byte_at after.seen sizes

  -- the step was refused for want of memory, so many times
  abbrev pub IsRefused : (times : ℕ) → Step K V P A → (mine after : View (Told K V P A D)) → Type 0
  IsRefused zero step mine after = after ≡ mine
  IsRefused (suc times) step mine after =
      (before : View (Told K V P A D)) × IsRefused times step mine before × ((n : ℕ) × HasStepped m byte_at before after step (replies.Refused kind.Memory step) n)

  -- The step was made in the end, and refused before for want of memory alone, as often as it was.
  pub record IsMadeAgain (mine after : View (Told K V P A D)) (step : Step K V P A) (answer : Reply K V P A) : Type 0 where
    pub times : ℕ
    pub tried : View (Told K V P A D)
    pub refused : IsRefused times step mine tried
    pub number : ℕ
    pub made : HasStepped m byte_at tried after step answer number
    pub ended : (back : Step K V P A) → answer ≡ replies.Refused kind.Memory back → ⊥
