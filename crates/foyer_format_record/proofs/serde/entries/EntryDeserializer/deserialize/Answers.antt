use Rattle.foyer_format_record.proofs.OuterFault.{outer_faults}
use Rattle.foyer_format_record.proofs.RefusalLemmas.{decode_fault}
use Rattle.std.proofs.Common.{arith}
use Rattle.foyer_format_record.proofs.serde.entries.EntryDeserializer.deserialize.Goals as goal

pub returns-in_err-check_entry-clause-fault : goal.returns-in_err-check_entry-clause-fault
returns-in_err-check_entry-clause-fault g c = grind (arith, decode_fault, outer_faults)

pub returns-in_err-clone-clause-fault : goal.returns-in_err-clone-clause-fault
returns-in_err-clone-clause-fault g c = grind (arith, decode_fault, outer_faults)

pub returns-in_err-value-clause-fault : goal.returns-in_err-value-clause-fault
returns-in_err-value-clause-fault g c = grind (arith, decode_fault, outer_faults)

pub returns-in_err-clone-2-clause-fault : goal.returns-in_err-clone-2-clause-fault
returns-in_err-clone-2-clause-fault g c = grind (arith, decode_fault, outer_faults)

pub returns-in_err-key-clause-fault : goal.returns-in_err-key-clause-fault
returns-in_err-key-clause-fault g c = grind (arith, decode_fault, outer_faults)

pub returns-clause-sound : goal.returns-clause-sound
returns-clause-sound g c = grind (arith, decode_fault, outer_faults)
