use Rattle.std.proofs.Common.{◌≡◌, ◌-◌, ℕ, List, length, take, drop, Result, Ok, Err, IfErr, arith}
use Rattle.std.proofs.lemmas.List.{length-drop, take_all}
use Rattle.foyer_format_record.proofs.RecordLemmas.{judged}
use Rattle.foyer_format_record.proofs.block.serde.find_record.Goals as goal

whole : (b : List ℕ) → take (length b - 36) (drop 36 b) ≡ drop 36 b
whole b = take_all (length b - 36) (drop 36 b) (omega (arith, length-drop 36 b))

pub returns-clause-pair : goal.returns-clause-pair
returns-clause-pair g c =
    let head = c.in-Some.ensures in
    let known = judged g.K.Code.is_decodable g.V.Code.is_decodable c.args.bytes.now c.args.hash c.args.sequence _ head.header head.hash head.sequence head.len in
    rw known (rw (whole c.args.bytes.now) at c.read_body.ensures.pair)

pub returns-clause-absent : goal.returns-clause-absent
returns-clause-absent g c =
    let head = c.in-Some.ensures in
    let known = judged g.K.Code.is_decodable g.V.Code.is_decodable c.args.bytes.now c.args.hash c.args.sequence _ head.header head.hash head.sequence head.len in
    rw known (rw (whole c.args.bytes.now) at c.read_body.ensures.absent)

pub returns-clause-fault : goal.returns-clause-fault
returns-clause-fault g c =
    let head = c.in-Some.ensures in
    let known = judged g.K.Code.is_decodable g.V.Code.is_decodable c.args.bytes.now c.args.hash c.args.sequence _ head.header head.hash head.sequence head.len in
    rw known (rw (whole c.args.bytes.now) at c.read_body.ensures.fault)

-- what follows from what holds of an error
more : {A E : Type 0} {P Q : E → Type 0} (r : Result A E) → ((e : E) → P e → Q e) → IfErr r P → IfErr r Q
more (Ok x) then is = tt
more (Err e) then is = then e is

pub returns-clause-memory : goal.returns-clause-memory
returns-clause-memory g c =
    more c.read_body.result (λ e of is. (c.in-Some.header.value_len, c.in-Some.header.key_len, of is)) (rw (whole c.args.bytes.now) at c.read_body.ensures.memory)
