use Rattle.foyer_core_laws.specs.Content.{meaning}
use Rattle.foyer_core_run.proofs.DriveLemmas.{step_drives, step_says}
use Rattle.foyer_core_run.proofs.StepLemmas.{encodings_of}
use Rattle.foyer_core_run.proofs.accesses.step.Goals as goal

pub returns-clause-runs : goal.returns-clause-runs
returns-clause-runs g c = λ x is bytes.
    let m = meaning g.K.Code.encoding g.V.Code.encoding g.K.Code.is_encodable g.V.Code.is_encodable g.K.Code.is_decodable g.V.Code.is_decodable g.P.Properties.age in
    let encodes = encodings_of g.K.Code.encoding g.V.Code.encoding g.K.Code.is_encodable g.V.Code.is_encodable g.K.Code.is_decodable g.V.Code.is_decodable g.P.Properties.age g.met.K.Code.is_encoded g.met.V.Code.is_encoded in
    step_says m encodes x c.args.given c.apply.result c.args.core.now c.apply.new.self bytes is c.requires.free c.apply.ensures.back
    (λ s sound v at. c.apply.ensures.meets s sound v.core at)

pub returns-clause-drives : goal.returns-clause-drives
returns-clause-drives g c = λ bytes.
    let m = meaning g.K.Code.encoding g.V.Code.encoding g.K.Code.is_encodable g.V.Code.is_encodable g.K.Code.is_decodable g.V.Code.is_decodable g.P.Properties.age in
    let encodes = encodings_of g.K.Code.encoding g.V.Code.encoding g.K.Code.is_encodable g.V.Code.is_encodable g.K.Code.is_decodable g.V.Code.is_decodable g.P.Properties.age g.met.K.Code.is_encoded g.met.V.Code.is_encoded in
    step_drives m encodes c.args.given c.apply.result c.args.core.now c.apply.new.self bytes c.requires.free c.apply.ensures.back
    (λ s sound v at. c.apply.ensures.meets s sound v.core at)
