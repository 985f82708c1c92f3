-- How a load ends, by what its bytes are.
use Rattle.std.proofs.Common.{◌≡◌, ℕ, ◌<◌, ◌==◌, Bool, true, false, if◌then◌else◌, List, length, take, Ok, refl, sym, ap, subst, ◌∙◌, arith}
use Rattle.std.proofs.lemmas.Bool.{eqb-true, eq-eqb}
use Rattle.std.proofs.lemmas.List.{take_all}
use Rattle.std.specs.declared.vec.Vec.{Vec}
use Rattle.foyer_device_page.specs.Error.{kind_of}
use Rattle.foyer_device_page.specs.declared.error.Error.{Error}
use Rattle.foyer_device_page.specs.declared.error.Error.TheVariants as error
use Rattle.foyer_device_page.specs.declared.error.ErrorKind.{ErrorKind}
use Rattle.foyer_device_page.specs.declared.error.ErrorKind.TheVariants as kind
use Rattle.foyer_format_record.specs.Record as format
use Rattle.foyer_format_record.specs.Refusals.{IsRecordFault, ReachesPair}
use Rattle.foyer_format_record.specs.declared.serde.ages.Age.{Age}
use Rattle.foyer_core_model.specs.Load.{judged, Judges, IsDecoded, age_at}
use Rattle.foyer_core_model.specs.Numbers.{last_number}
use Rattle.foyer_core_model.specs.Record.{NoRecord, Holds}
use Rattle.foyer_core_model.specs.Reply as model_reply
use Rattle.foyer_core_model.specs.State.{State}
use Rattle.foyer_core_steps.specs.Asked.{ticket_of, age_of}
use Rattle.foyer_core_flusher.specs.Content.{Content, Meaning, content}
use Rattle.foyer_core_flusher.specs.CoreRules.{machine}
use Rattle.foyer_core_steps.specs.Refines.{IsRefinedUncounted, missed}
use Rattle.foyer_core_flusher.specs.CoreRules.{outcome_of}
use Rattle.foyer_core_flusher.specs.Sizes.{AreValid}
use Rattle.foyer_core_steps.specs.StateOf.{IsStateOf}
use Rattle.foyer_core_steps.specs.declared.reply.Reply.{Reply}
use Rattle.foyer_core_steps.specs.declared.reply.Reply.TheVariants as reply
use Rattle.foyer_core_flusher.specs.Settings.{Settings}
use Rattle.foyer_core_steps.specs.declared.state.Core.{Core}
use Rattle.foyer_core_steps.specs.declared.step.Step.{Step}
use Rattle.foyer_core_steps.specs.declared.step.Step.TheVariants as step
use Rattle.foyer_core_steps.specs.declared.step.Ticket.{Ticket}
use Rattle.foyer_core_steps.proofs.TurnLemmas.{same, refused}

-- as many of the bytes as there are, are all of them
pub all_bytes : (n : ℕ) (bytes : List ℕ) → length bytes ≡ n → take n bytes ≡ bytes
all_bytes n bytes many = take_all n bytes (omega (arith, many))

module _ {K V P : Type 0} (m : Meaning K V P) (s : Settings) (sound : AreValid s) (it : State Content) (t : Ticket) where
  -- another filling has begun
  pub judged_past : (bs : List ℕ) → (t.address.filling ≡ it.filling t.address.block → ⊥) → judged (machine m s sound) it (ticket_of t) bs ≡ NoRecord
  judged_past bs ne = go (t.address.filling == it.filling t.address.block) refl
    where
      go : (b : Bool) → (t.address.filling == it.filling t.address.block) ≡ b
          → (if b then outcome_of (format.pair_of m.is_key m.is_value (take t.address.len bs) t.hash t.address.sequence) else NoRecord) ≡ NoRecord
      go true e = absurd (ne (eqb-true t.address.filling (it.filling t.address.block) e))
      go false e = refl

  -- the filling is the same
  pub judged_now : (bs : List ℕ) (o : format.Outcome) → t.address.filling ≡ it.filling t.address.block
      → format.pair_of m.is_key m.is_value (take t.address.len bs) t.hash t.address.sequence ≡ o
      → judged (machine m s sound) it (ticket_of t) bs ≡ outcome_of o
  judged_now bs o filling is =
      ap (λ b. if b then outcome_of (format.pair_of m.is_key m.is_value (take t.address.len bs) t.hash t.address.sequence) else NoRecord)
      (eq-eqb t.address.filling (it.filling t.address.block) filling)
      ∙ ap outcome_of is

module _ {K V P A : Type 0} (m : Meaning K V P) (s : Settings) (sound : AreValid s) (it : State Content) (t : Ticket) (bytes : Vec ℕ A)
    (there : t.address.block < s.blocks) (as_issued : length bytes.items ≡ t.address.len) where
  pub misses : (new : Core K V P A) → IsStateOf m s new (missed it t) → judged (machine m s sound) it (ticket_of t) bytes.items ≡ NoRecord
      → IsRefinedUncounted m s sound (step.LoadEnd t (Ok bytes)) reply.Miss new it
  misses new stands is = record {
    after = missed it t;
    it = model_reply.Miss;
    stands = stands;
    reply = refl;
    turns = ((there, as_issued), subst (λ o. Judges (machine m s sound) it (ticket_of t) o model_reply.Miss (missed it t)) (sym is) refl);
  }

  pub answers : (core : Core K V P A) (key : K) (value : V) (age : Age) → IsStateOf m s core it
      → judged (machine m s sound) it (ticket_of t) bytes.items ≡ Holds (content m key value)
      → age_of age ≡ age_at (machine m s sound) it t.address.block
      → IsRefinedUncounted m s sound (step.LoadEnd t (Ok bytes)) (reply.Entry key value age) core it
  answers core key value age stands is aged = record {
    after = it;
    it = model_reply.Entry (content m key value) (age_of age);
    stands = stands;
    reply = refl;
    turns = ((there, as_issued), subst (λ o. Judges (machine m s sound) it (ticket_of t) o (model_reply.Entry (content m key value) (age_of age)) it) (sym is) (refl, aged, refl));
  }

  decoded : (o : format.Outcome) → ReachesPair o → judged (machine m s sound) it (ticket_of t) bytes.items ≡ outcome_of o
      → IsDecoded (machine m s sound) it (judged (machine m s sound) it (ticket_of t) bytes.items)
  decoded format.Outcome.NoRecord reaches is = absurd reaches
  decoded format.Outcome.Unsupported reaches is = absurd reaches
  decoded format.Outcome.Undecodable reaches is = subst (IsDecoded (machine m s sound) it) (sym is) tt
  decoded (format.Outcome.Pair key value) reaches is = subst (IsDecoded (machine m s sound) it) (sym is) tt

  -- a record of this outcome is refused by this error
  pub refuses : (core : Core K V P A) (o : format.Outcome) (e : Error) → IsStateOf m s core it → it.steps < last_number
      → judged (machine m s sound) it (ticket_of t) bytes.items ≡ outcome_of o → IsRecordFault o e
      → IsRefinedUncounted m s sound (step.LoadEnd t (Ok bytes)) (reply.Refused (kind_of e) (step.LoadEnd t (Ok bytes))) core it
  refuses core o error.Unsupported stands early is fault =
      refused m s sound (step.LoadEnd t (Ok bytes)) core core it kind.Unsupported model_reply.Unsupported refl (same core) stands
      (early, ((there, as_issued), is ∙ ap outcome_of fault))
  refuses core o error.Parse stands early is fault =
      refused m s sound (step.LoadEnd t (Ok bytes)) core core it kind.Parse model_reply.Parse refl (same core) stands
      (early, ((there, as_issued), is ∙ ap outcome_of fault))
  refuses core o error.Memory stands early is fault =
      refused m s sound (step.LoadEnd t (Ok bytes)) core core it kind.Memory model_reply.Memory refl (same core) stands
      (early, ((there, as_issued), decoded o fault is))
  refuses core o e stands early is fault = absurd fault

-- the kind of a refusal
abbrev kind_in : {K V P A : Type 0} → Reply K V P A → ErrorKind
kind_in (reply.Refused kind back) = kind
kind_in answer = kind.Io

is_memory : (e : Error) → kind_of e ≡ kind.Memory → e ≡ error.Memory
is_memory error.Memory is = refl
is_memory e is = absurd (cc)

-- a refusal for memory is of an error that is one
pub refused_memory : {K V P A : Type 0} (e : Error) (k : ErrorKind) (given back : Step K V P A) → k ≡ kind_of e
    → reply.Refused k given ≡ reply.Refused kind.Memory back → e ≡ error.Memory
refused_memory e k given back of is = is_memory e (sym of ∙ ap kind_in is)
