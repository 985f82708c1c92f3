use Rattle.std.proofs.Common.{◌≡◌, ◌⊎◌, inl, inr, IfErr, OnOk, ◌+◌, ◌-◌, ◌^◌, ◌<◌, sym, subst, ◌∙◌, refl, arith}
use Rattle.foyer_core_laws.specs.Content.{meaning}
use Rattle.foyer_device_page.specs.declared.error.Error.TheVariants as error
use Rattle.foyer_storage_history.specs.HistoryCalls.{AreCleaned}
use Rattle.foyer_storage_history.proofs.HistoryLemmas.{cleaned_after, err_of, goes_on, goes_self, issued_more, ok_of}
use Rattle.foyer_storage_history.proofs.maintainer.Maintainer.clean_all.Goals as goal

pub clean_one-ended-requires : goal.clean_one-ended-requires
clean_one-ended-requires g c =
    let same : c.args.blocks ≡ c.args.self.now.settings.blocks = c.requires.same in
    let below : c.loop-block.block < c.args.blocks = c.loop-block-test.true in
    c.loop-block.invariant.2 c.loop-block.block (omega arith) (subst (λ n. c.loop-block.block < n) same below)

pub loop-block-init : goal.loop-block-init
loop-block-init g c = (goes_self (meaning g.K.Code.encoding g.V.Code.encoding g.K.Code.is_encodable g.V.Code.is_encodable g.K.Code.is_decodable g.V.Code.is_decodable g.P.Properties.age) g.D.Disk.byte_at c.args.self.now.told.witness.me.0, refl, λ other above below. c.requires.issued other below, λ some. absurd (omega arith), tt, inl refl)

pub loop-block-preserved : goal.loop-block-preserved
loop-block-preserved g c =
    let same : c.loop-block.block + 1 - 1 ≡ c.loop-block.block = omega arith in (
      goes_on (meaning g.K.Code.encoding g.V.Code.encoding g.K.Code.is_encodable g.V.Code.is_encodable g.K.Code.is_decodable g.V.Code.is_decodable g.P.Properties.age) g.D.Disk.byte_at c.args.self.now.told.witness.me.0 c.loop-block.self.told.witness.me.0 c.clean_one-ended.new.self.told.witness.me.0 c.loop-block.invariant.0 c.clean_one-ended.ensures.on,
      c.clean_one-ended.ensures.settings ∙ c.loop-block.invariant.1,
      issued_more (meaning g.K.Code.encoding g.V.Code.encoding g.K.Code.is_encodable g.V.Code.is_encodable g.K.Code.is_decodable g.V.Code.is_decodable g.P.Properties.age) g.D.Disk.byte_at c.loop-block.self.told.witness.me.0 c.clean_one-ended.new.self.told.witness.me.0 c.loop-block.block c.args.self.now.settings.blocks (subst (λ n. n < 2 ^ 32) c.requires.same (let fits = c.ranges.blocks.fits in omega arith)) c.clean_one-ended.ensures.others c.loop-block.invariant.2,
      λ some. subst (λ n. AreCleaned (meaning g.K.Code.encoding g.V.Code.encoding g.K.Code.is_encodable g.V.Code.is_encodable g.K.Code.is_decodable g.V.Code.is_decodable g.P.Properties.age) g.D.Disk.byte_at c.args.self.now.told.witness.me.0 c.clean_one-ended.new.self.told.witness.me.0 n c.clean_one-ended.result) (sym same) (cleaned_after (meaning g.K.Code.encoding g.V.Code.encoding g.K.Code.is_encodable g.V.Code.is_encodable g.K.Code.is_decodable g.V.Code.is_decodable g.P.Properties.age) g.D.Disk.byte_at c.args.self.now.told.witness.me.0 c.loop-block.self.told.witness.me.0 c.clean_one-ended.new.self.told.witness.me.0 c.loop-block.block c.clean_one-ended.result c.loop-block.invariant.0 c.clean_one-ended.ensures.cleaned),
      ok_of c.clean_one-ended.result (let some : 0 < c.loop-block.block + 1 = omega arith in some),
      err_of c.clean_one-ended.result (λ e. let some : 0 < c.loop-block.block + 1 = omega arith in inr some),
    )

pub returns-clause-cleaned : goal.returns-clause-cleaned
returns-clause-cleaned g c = λ some.
    let all : c.loop-block.block ≡ c.args.self.now.settings.blocks = (let same : c.args.blocks ≡ c.args.self.now.settings.blocks = c.requires.same in omega (arith, c.loop-block-test.false, c.loop-block.auto.block-end)) in
    subst (λ n. AreCleaned (meaning g.K.Code.encoding g.V.Code.encoding g.K.Code.is_encodable g.V.Code.is_encodable g.K.Code.is_decodable g.V.Code.is_decodable g.P.Properties.age) g.D.Disk.byte_at c.args.self.now.told.witness.me.0 c.loop-block.self.told.witness.me.0 (n - 1) c.loop-block.ended) all (c.loop-block.invariant.3 (subst (λ n. 0 < n) (sym all) some))

pub returns-clause-some : goal.returns-clause-some
returns-clause-some g c =
    let all : c.loop-block.block ≡ c.args.self.now.settings.blocks = (let same : c.args.blocks ≡ c.args.self.now.settings.blocks = c.requires.same in omega (arith, c.loop-block-test.false, c.loop-block.auto.block-end)) in
    subst (λ n. OnOk c.loop-block.ended (0 < n)) all c.loop-block.invariant.4

pub returns-clause-refused : goal.returns-clause-refused
returns-clause-refused g c =
    let all : c.loop-block.block ≡ c.args.self.now.settings.blocks = (let same : c.args.blocks ≡ c.args.self.now.settings.blocks = c.requires.same in omega (arith, c.loop-block-test.false, c.loop-block.auto.block-end)) in
    subst (λ n. IfErr c.loop-block.ended (λ e. (e ≡ error.Unsupported) ⊎ (0 < n))) all c.loop-block.invariant.5
