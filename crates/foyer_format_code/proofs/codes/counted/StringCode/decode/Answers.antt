use Rattle.std.proofs.Common.{arith}
use Rattle.foyer_format_code.proofs.CodeLemmas.{text_lemmas}
use Rattle.foyer_format_code.proofs.codes.counted.StringCode.decode.Goals as goal

pub returns-in-Err-clause-found : goal.returns-in-Err-clause-found
returns-in-Err-clause-found g c = tt

pub returns-in-Err-clause-is_decodable : goal.returns-in-Err-clause-is_decodable
returns-in-Err-clause-is_decodable g c = tt

pub returns-in_err-from_str-in-Ok-clause-memory : goal.returns-in_err-from_str-in-Ok-clause-memory
returns-in_err-from_str-in-Ok-clause-memory g c = grind (arith, text_lemmas)

pub returns-in-Err-clause-refused : goal.returns-in-Err-clause-refused
returns-in-Err-clause-refused g c = grind (arith, text_lemmas)

pub returns-in_ok-from_str-in-Ok-clause-is_encodable : goal.returns-in_ok-from_str-in-Ok-clause-is_encodable
returns-in_ok-from_str-in-Ok-clause-is_encodable g c = grind (arith, text_lemmas)
