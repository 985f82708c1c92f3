-- What was read for a ticket, judged as a record before the core is asked.
use Rattle.std.specs.Prelude.{◌≡◌, ℕ, Bool, true, List, length, take, Option, Some, None, Result, Ok, Err}
use Rattle.std.specs.declared.vec.Vec.{Vec}
use Rattle.foyer_device_page.specs.declared.error.Error.{Error}
use Rattle.foyer_format_record.specs.Record.{pair_of}
use Rattle.foyer_format_record.specs.Record.Outcome.{NoRecord, Pair}
use Rattle.foyer_format_record.specs.Refusals.{IsRecordFault}
use Rattle.foyer_core_steps.specs.declared.step.Ticket.{Ticket}

module _ {K V : Type 0} (is_key is_value : List ℕ → Bool) (key_of : K → List ℕ) (value_of : V → List ℕ) (has_key_code : K → Bool) (has_value_code : V → Bool) where
  -- what bytes are read as: the pair of their record, no record of this hash and sequence, or why it isn't readable
  abbrev pub IsReadAs : (bytes : List ℕ) → (hash sequence : ℕ) → Result (Option (K × V)) Error → Type 0
  IsReadAs bytes hash sequence (Ok (Some pair)) =
      (pair_of is_key is_value bytes hash sequence ≡ Pair (key_of pair.0) (value_of pair.1)) × (has_key_code pair.0 ≡ true) × (has_value_code pair.1 ≡ true)
  IsReadAs bytes hash sequence (Ok None) = pair_of is_key is_value bytes hash sequence ≡ NoRecord
  IsReadAs bytes hash sequence (Err e) = IsRecordFault (pair_of is_key is_value bytes hash sequence) e

  -- of a read that has as many bytes as the ticket's address, what they are as a record
  abbrev pub IsJudged : {A : Type 0} → Ticket → Result (Vec ℕ A) Error → Result (Option (K × V)) Error → Type 0
  IsJudged ticket (Ok bytes) found =
      length bytes.items ≡ ticket.address.len → IsReadAs (take ticket.address.len bytes.items) ticket.hash ticket.address.sequence found
  IsJudged ticket (Err e) found = Unit {0}
