use Rattle.std.proofs.Common.{Bool, true, ◌≡◌, ◌<◌, ◌&&◌, length, take, Some, Ok, Err, if◌then◌else◌, slice_get, refl, ap, sym, subst, ◌∙◌, arith}
use Rattle.std.proofs.lemmas.Option.{slice_get_within}
use Rattle.std.specs.Cmp.Derive.{both_true}
use Rattle.foyer_device_page.specs.declared.error.ErrorKind.TheVariants as kind
use Rattle.foyer_format_record.specs.Record.{pair_of}
use Rattle.foyer_format_record.specs.Record.Outcome.{NoRecord, Pair}
use Rattle.foyer_core_model.specs.Reply as model_reply
use Rattle.foyer_core_model.specs.Step as model_step
use Rattle.foyer_core_model.specs.Load.{judged, age_at}
use Rattle.foyer_core_model.specs.Record.{Outcome, Holds}
use Rattle.foyer_core_steps.specs.Asked.{ticket_of, age_of as asked_age}
use Rattle.foyer_core_flusher.specs.Content.{Content, content, meaning}
use Rattle.foyer_core_flusher.specs.CoreRules.{machine}
use Rattle.foyer_core_steps.specs.Judging.{IsJudged, IsReadAs}
use Rattle.foyer_core_steps.specs.Refines.{IsRefinedUncounted}
use Rattle.foyer_block_manager.specs.BlockSets.{IsBlockAs}
use Rattle.foyer_core_steps.specs.declared.reply.Reply.TheVariants as reply
use Rattle.foyer_core_steps.specs.declared.step.Step.TheVariants as step
use Rattle.foyer_core_steps.proofs.LoadLemmas.{judged_past, judged_now, misses, answers, refuses}
use Rattle.foyer_core_steps.proofs.TurnLemmas.{is_early, same, refused, comes_back}
use Rattle.foyer_core_steps.proofs.state.Core.end_judged.Goals as goal
use Rattle.foyer_core_steps.proofs.state.Core.end_judged.Goals.{then-state, else-state}

pub returns-in-Err-clause-meets : goal.returns-in-Err-clause-meets
returns-in-Err-clause-meets g c = λ age_of s sound it stands few.
    let m = meaning g.K.Code.encoding g.V.Code.encoding g.K.Code.is_encodable g.V.Code.is_encodable g.K.Code.is_decodable g.V.Code.is_decodable age_of in
    let old = c.args.self.now in
    let t = c.args.judged.ticket in
    let at : slice_get old.manager.blocks t.address.block ≡ Some c.in-Some.state = sym c.known.ensures ∙ c.in-Some.is in
    let there : t.address.block < s.blocks = subst (λ n. t.address.block < n) stands.manager.blocks (slice_get_within old.manager.blocks t.address.block c.in-Some.state at) in
    subst (λ o. IsRefinedUncounted m s sound (step.LoadEnd t o) (reply.Refused kind.Io c.load_end-in-Err.result) old it) (sym c.in-Err.is)
    (comes_back m s sound (step.LoadEnd t (Err c.in-Err.error)) c.load_end-in-Err.result kind.Io old it c.load_end-in-Err.ensures
    (refused m s sound (step.LoadEnd t (Err c.in-Err.error)) old old it kind.Io model_reply.Io refl (same old) stands (is_early m s old it stands few, (there, tt))))

pub returns-then-state-address-clause-meets : goal.returns-then-state-address-clause-meets
returns-then-state-address-clause-meets g c = λ age_of s sound it stands few.
    let m = meaning g.K.Code.encoding g.V.Code.encoding g.K.Code.is_encodable g.V.Code.is_encodable g.K.Code.is_decodable g.V.Code.is_decodable age_of in
    let old = c.args.self.now in
    let t = c.args.judged.ticket in
    let at : slice_get old.manager.blocks t.address.block ≡ Some c.in-Some.state = sym c.known.ensures ∙ c.in-Some.is in
    let there : t.address.block < s.blocks = subst (λ n. t.address.block < n) stands.manager.blocks (slice_get_within old.manager.blocks t.address.block c.in-Some.state at) in
    let known : IsBlockAs c.in-Some.state (it.place t.address.block) (it.filling t.address.block) (it.stats t.address.block) = stands.manager.sets.blocks t.address.block c.in-Some.state at in
    let as_issued : length c.in-Ok.bytes.items ≡ t.address.len = omega (arith, c.if-len-read_len.false, c.read_len.ensures, c.len.ensures) in
    subst (λ o. IsRefinedUncounted m s sound (step.LoadEnd t o) c.miss.result c.miss.new.self it) (sym c.in-Ok.is)
    (subst (λ r. IsRefinedUncounted m s sound (step.LoadEnd t (Ok c.in-Ok.bytes)) r c.miss.new.self it) (sym c.miss.ensures.reply)
    (misses m s sound it t c.in-Ok.bytes there as_issued c.miss.new.self (c.miss.ensures.meets m s it stands) (judged_past m s sound it t c.in-Ok.bytes.items (λ same. c.if-state-address.true (sym known.filling ∙ sym same)))))

pub returns-in-Ok-Some-clause-meets : goal.returns-in-Ok-Some-clause-meets
returns-in-Ok-Some-clause-meets g c = λ age_of s sound it stands few.
    let m = meaning g.K.Code.encoding g.V.Code.encoding g.K.Code.is_encodable g.V.Code.is_encodable g.K.Code.is_decodable g.V.Code.is_decodable age_of in
    let old = c.args.self.now in
    let t = c.args.judged.ticket in
    let at : slice_get old.manager.blocks t.address.block ≡ Some c.in-Some.state = sym c.known.ensures ∙ c.in-Some.is in
    let there : t.address.block < s.blocks = subst (λ n. t.address.block < n) stands.manager.blocks (slice_get_within old.manager.blocks t.address.block c.in-Some.state at) in
    let known : IsBlockAs c.in-Some.state (it.place t.address.block) (it.filling t.address.block) (it.stats t.address.block) = stands.manager.sets.blocks t.address.block c.in-Some.state at in
    let as_issued : length c.in-Ok.bytes.items ≡ t.address.len = omega (arith, c.if-len-read_len.false, c.read_len.ensures, c.len.ensures) in
    let whole : IsReadAs g.K.Code.is_decodable g.V.Code.is_decodable g.K.Code.encoding g.V.Code.encoding g.K.Code.is_encodable g.V.Code.is_encodable (take t.address.len c.in-Ok.bytes.items) t.hash t.address.sequence c.args.judged.found =
    subst (λ o. IsJudged g.K.Code.is_decodable g.V.Code.is_decodable g.K.Code.encoding g.V.Code.encoding g.K.Code.is_encodable g.V.Code.is_encodable t o c.args.judged.found) c.in-Ok.is c.requires as_issued in
    let filling : t.address.filling ≡ it.filling t.address.block = sym c.if-state-address.false ∙ sym known.filling in
    let key = c.in-Ok-Some.key in
    let value = c.in-Ok-Some.value in
    let read : IsReadAs g.K.Code.is_decodable g.V.Code.is_decodable g.K.Code.encoding g.V.Code.encoding g.K.Code.is_encodable g.V.Code.is_encodable (take t.address.len c.in-Ok.bytes.items) t.hash t.address.sequence (Ok (Some (key, value))) =
    subst (λ f. IsReadAs g.K.Code.is_decodable g.V.Code.is_decodable g.K.Code.encoding g.V.Code.encoding g.K.Code.is_encodable g.V.Code.is_encodable (take t.address.len c.in-Ok.bytes.items) t.hash t.address.sequence f) (c.in-Ok-Some.is ∙ ap (λ o. Ok o) c.in-Ok-Some.field-0-is) whole in
    let is_encodable : (g.K.Code.is_encodable key && g.V.Code.is_encodable value) ≡ true = both_true read.1 read.2 in
    let with_flag : Bool → Outcome Content = λ b. Holds (record { key = g.K.Code.encoding key; value = g.V.Code.encoding value; is_encodable = b }) in
    let is : judged (machine m s sound) it (ticket_of t) c.in-Ok.bytes.items ≡ Holds (content m key value) =
    judged_now m s sound it t c.in-Ok.bytes.items (Pair (g.K.Code.encoding key) (g.V.Code.encoding value)) filling read.0 ∙ ap with_flag (sym is_encodable) in
    let age_by : Bool → model_step.Age = λ b. if b then model_step.Old else model_step.Young in
    let aged : age_at (machine m s sound) it t.address.block ≡ age_by c.in-Some.state.statistics.probation = ap (λ x. age_by x.probation) known.stats in
    let age_is : asked_age c.if-state.age ≡ age_at (machine m s sound) it t.address.block = elim c.if-state.branch [
      | then-state w ↦ ap asked_age w.age-is ∙ sym (aged ∙ ap age_by w.if-state.true)
      | else-state w ↦ ap asked_age w.age-is ∙ sym (aged ∙ ap age_by w.if-state.false)
    ] in
    subst (λ o. IsRefinedUncounted m s sound (step.LoadEnd t o) (reply.Entry key value c.if-state.age) old it) (sym c.in-Ok.is)
    (answers m s sound it t c.in-Ok.bytes there as_issued old key value c.if-state.age stands is age_is)

pub returns-in-Ok-None-clause-meets : goal.returns-in-Ok-None-clause-meets
returns-in-Ok-None-clause-meets g c = λ age_of s sound it stands few.
    let m = meaning g.K.Code.encoding g.V.Code.encoding g.K.Code.is_encodable g.V.Code.is_encodable g.K.Code.is_decodable g.V.Code.is_decodable age_of in
    let old = c.args.self.now in
    let t = c.args.judged.ticket in
    let at : slice_get old.manager.blocks t.address.block ≡ Some c.in-Some.state = sym c.known.ensures ∙ c.in-Some.is in
    let there : t.address.block < s.blocks = subst (λ n. t.address.block < n) stands.manager.blocks (slice_get_within old.manager.blocks t.address.block c.in-Some.state at) in
    let known : IsBlockAs c.in-Some.state (it.place t.address.block) (it.filling t.address.block) (it.stats t.address.block) = stands.manager.sets.blocks t.address.block c.in-Some.state at in
    let as_issued : length c.in-Ok.bytes.items ≡ t.address.len = omega (arith, c.if-len-read_len.false, c.read_len.ensures, c.len.ensures) in
    let whole : IsReadAs g.K.Code.is_decodable g.V.Code.is_decodable g.K.Code.encoding g.V.Code.encoding g.K.Code.is_encodable g.V.Code.is_encodable (take t.address.len c.in-Ok.bytes.items) t.hash t.address.sequence c.args.judged.found =
    subst (λ o. IsJudged g.K.Code.is_decodable g.V.Code.is_decodable g.K.Code.encoding g.V.Code.encoding g.K.Code.is_encodable g.V.Code.is_encodable t o c.args.judged.found) c.in-Ok.is c.requires as_issued in
    let filling : t.address.filling ≡ it.filling t.address.block = sym c.if-state-address.false ∙ sym known.filling in
    let none : pair_of m.is_key m.is_value (take t.address.len c.in-Ok.bytes.items) t.hash t.address.sequence ≡ NoRecord =
    subst (λ f. IsReadAs g.K.Code.is_decodable g.V.Code.is_decodable g.K.Code.encoding g.V.Code.encoding g.K.Code.is_encodable g.V.Code.is_encodable (take t.address.len c.in-Ok.bytes.items) t.hash t.address.sequence f) (c.in-Ok-None.is ∙ ap (λ o. Ok o) c.in-Ok-None.field-0-is) whole in
    subst (λ o. IsRefinedUncounted m s sound (step.LoadEnd t o) c.miss-in-Ok-None.result c.miss-in-Ok-None.new.self it) (sym c.in-Ok.is)
    (subst (λ r. IsRefinedUncounted m s sound (step.LoadEnd t (Ok c.in-Ok.bytes)) r c.miss-in-Ok-None.new.self it) (sym c.miss-in-Ok-None.ensures.reply)
    (misses m s sound it t c.in-Ok.bytes there as_issued c.miss-in-Ok-None.new.self (c.miss-in-Ok-None.ensures.meets m s it stands)
    (judged_now m s sound it t c.in-Ok.bytes.items NoRecord filling none)))

pub returns-in-Err-found-clause-meets : goal.returns-in-Err-found-clause-meets
returns-in-Err-found-clause-meets g c = λ age_of s sound it stands few.
    let m = meaning g.K.Code.encoding g.V.Code.encoding g.K.Code.is_encodable g.V.Code.is_encodable g.K.Code.is_decodable g.V.Code.is_decodable age_of in
    let old = c.args.self.now in
    let t = c.args.judged.ticket in
    let at : slice_get old.manager.blocks t.address.block ≡ Some c.in-Some.state = sym c.known.ensures ∙ c.in-Some.is in
    let there : t.address.block < s.blocks = subst (λ n. t.address.block < n) stands.manager.blocks (slice_get_within old.manager.blocks t.address.block c.in-Some.state at) in
    let known : IsBlockAs c.in-Some.state (it.place t.address.block) (it.filling t.address.block) (it.stats t.address.block) = stands.manager.sets.blocks t.address.block c.in-Some.state at in
    let as_issued : length c.in-Ok.bytes.items ≡ t.address.len = omega (arith, c.if-len-read_len.false, c.read_len.ensures, c.len.ensures) in
    let whole : IsReadAs g.K.Code.is_decodable g.V.Code.is_decodable g.K.Code.encoding g.V.Code.encoding g.K.Code.is_encodable g.V.Code.is_encodable (take t.address.len c.in-Ok.bytes.items) t.hash t.address.sequence c.args.judged.found =
    subst (λ o. IsJudged g.K.Code.is_decodable g.V.Code.is_decodable g.K.Code.encoding g.V.Code.encoding g.K.Code.is_encodable g.V.Code.is_encodable t o c.args.judged.found) c.in-Ok.is c.requires as_issued in
    let filling : t.address.filling ≡ it.filling t.address.block = sym c.if-state-address.false ∙ sym known.filling in
    let e = c.in-Err-found.error in
    let fault : IsReadAs g.K.Code.is_decodable g.V.Code.is_decodable g.K.Code.encoding g.V.Code.encoding g.K.Code.is_encodable g.V.Code.is_encodable (take t.address.len c.in-Ok.bytes.items) t.hash t.address.sequence (Err e) =
    subst (λ f. IsReadAs g.K.Code.is_decodable g.V.Code.is_decodable g.K.Code.encoding g.V.Code.encoding g.K.Code.is_encodable g.V.Code.is_encodable (take t.address.len c.in-Ok.bytes.items) t.hash t.address.sequence f) c.in-Err-found.is whole in
    subst (λ o. IsRefinedUncounted m s sound (step.LoadEnd t o) (reply.Refused c.kind.result c.load_end-in-Err-found.result) old it) (sym c.in-Ok.is)
    (comes_back m s sound (step.LoadEnd t (Ok c.in-Ok.bytes)) c.load_end-in-Err-found.result c.kind.result old it c.load_end-in-Err-found.ensures
    (subst (λ k. IsRefinedUncounted m s sound (step.LoadEnd t (Ok c.in-Ok.bytes)) (reply.Refused k (step.LoadEnd t (Ok c.in-Ok.bytes))) old it) (sym c.kind.ensures)
    (refuses m s sound it t c.in-Ok.bytes there as_issued old (pair_of m.is_key m.is_value (take t.address.len c.in-Ok.bytes.items) t.hash t.address.sequence) e stands
    (is_early m s old it stands few) (judged_now m s sound it t c.in-Ok.bytes.items _ filling refl) fault)))
