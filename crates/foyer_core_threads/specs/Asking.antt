-- What a thread brings with a step, and what it knows by a reply.
use Rattle.std.specs.Prelude.{◌≡◌, ◌⊎◌, ℕ, ◌≤◌, Bool, true, false, List, [], ◌∷◌, Result, Ok, Err}
use Rattle.foyer_format_layout.specs.BlockBytes.{Write}
use Rattle.foyer_device_page.specs.declared.error.ErrorKind.TheVariants as kind
use Rattle.foyer_core_shared.specs.Replies.{is_end_reply, is_look_up_reply}
use Rattle.foyer_core_model.specs.Numbers.{last_number}
use Rattle.foyer_core_steps.specs.declared.step.Step.{Step}
use Rattle.foyer_core_steps.specs.declared.step.Step.TheVariants as steps
use Rattle.foyer_core_steps.specs.declared.step.Ticket.{Ticket}
use Rattle.foyer_core_steps.specs.declared.reply.Reply.{Reply}
use Rattle.foyer_core_steps.specs.declared.reply.Reply.TheVariants as replies
use Rattle.foyer_core_laws.specs.Content.{Meaning}
use Rattle.foyer_core_laws.specs.Settings.{Settings}
use Rattle.foyer_core_told.specs.declared.event.Told.{Told}
use Rattle.foyer_core_told.specs.ToldLoads.{is_read}
use Rattle.foyer_core_told.specs.ToldRuns.{Knows}
use Rattle.foyer_io_told.specs.ToldAccess.{HasWrites}

-- The step takes no right, and brings nothing that had to come: no outcome of an access. Its hash has 64 bits.
abbrev pub IsPlain : {K V P A : Type 0} → Step K V P A → Type 0
IsPlain (steps.Enqueue piece size) = piece.piece.hash ≤ last_number
IsPlain (steps.Delete hash) = hash ≤ last_number
IsPlain (steps.LoadEnd ticket outcome) = ⊥
IsPlain (steps.FlushBlock flusher) = ⊥
IsPlain (steps.FlushWrote flusher outcome) = ⊥
IsPlain (steps.ReclaimRead block outcome) = ⊥
IsPlain (steps.ReclaimCleaned block outcome) = ⊥
IsPlain (steps.DestroyCleaned block outcome) = ⊥
IsPlain step = Unit {0}

-- these writes of a flusher into a block are to be done, if there are any
abbrev pub AreToWrite : {K V P A D : Type 0} → Meaning K V P → (D → ℕ → ℕ → ℕ) → List (Told K V P A D) → (flusher block : ℕ) → List Write → Type 0
AreToWrite m byte_at log f b [] = Unit {0}
AreToWrite m byte_at log f b (w ∷ ws) = HasWrites m byte_at log f b [] (w ∷ ws)

-- whatever was seen is of a core of these sizes
abbrev pub HasSizes : {K V P A D : Type 0} → Meaning K V P → (D → ℕ → ℕ → ℕ) → List (Told K V P A D) → Settings → Type 0
HasSizes m byte_at log sizes = Knows m byte_at log (λ s u. s ≡ sizes)

-- the reply issues this ticket, or it is handed on
abbrev pub IsTicketIn : {K V P A : Type 0} → Reply K V P A → Result Ticket (Reply K V P A) → Type 0
IsTicketIn answer (Ok ticket) = answer ≡ replies.Read ticket
IsTicketIn answer (Err back) = (back ≡ answer) × (is_read answer ≡ false)

-- a reply to a look-up, or to the end of a load; or no memory was found for its note
abbrev pub IsLoadReply : {K V P A : Type 0} → (keeps throttled : Bool) → Reply K V P A → Type 0
IsLoadReply {K} {V} {P} {A} keeps throttled answer =
    (is_look_up_reply throttled answer ≡ true) ⊎ (((has_read : Bool) × (is_end_reply has_read answer ≡ true))
    ⊎ ((keeps ≡ true) × ((back : Step K V P A) × (answer ≡ replies.Refused kind.Memory back))))
