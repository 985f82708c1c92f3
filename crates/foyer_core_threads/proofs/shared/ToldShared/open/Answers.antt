use Rattle.std.proofs.Common.{◌≡◌, ◌⊎◌, false, subst}
use Rattle.foyer_block_recover.proofs.SourcesLemmas.{none_listed, sure_of_none}
use Rattle.foyer_block_recover.specs.Recovery.{marks_of}
use Rattle.foyer_block_recover.specs.declared.block.recover.RecoverMode.TheVariants as recover_mode
use Rattle.foyer_core_laws.specs.Content.{meaning}
use Rattle.foyer_core_laws.specs.Sizes.{sizes_in}
use Rattle.foyer_core_steps.specs.Opened.{IsOpenedFrom}
use Rattle.foyer_io_disk.specs.Disk.{SurelyCame}
use Rattle.foyer_core_threads.specs.Asking.{HasSizes}
use Rattle.foyer_core_threads.proofs.ToldOpenings.{was_opened}
use Rattle.foyer_core_threads.proofs.shared.ToldShared.open.Goals as goal

pub new-requires-2-clause-opened : goal.new-requires-2-clause-opened
new-requires-2-clause-opened g c =
    was_opened c.args.settings (g.D.Disk.byte_at c.args.disk) _ c.args.mode _ _ c.in-Ok.opened.0.noted.core c.in-Ok.ensures.sound
    (c.in-Ok.ensures.opened (g.D.Disk.byte_at c.args.disk) (λ b p. false) (none_listed (sizes_in c.args.settings) c.args.settings.blocks (g.D.Disk.byte_at c.args.disk) _ c.none-listings.ensures))

pub returns-clause-seen : goal.returns-clause-seen
returns-clause-seen g c =
    let slots = c.none-listings.result.slots.items in
    let from = c.in-Ok.ensures.opened (g.D.Disk.byte_at c.args.disk) (λ b p. false) (none_listed (sizes_in c.args.settings) c.args.settings.blocks (g.D.Disk.byte_at c.args.disk) slots c.none-listings.ensures) in
    let disk = c.open-opened.new.disk in
    let core = c.in-Ok.opened.0.noted.core in (
      core,
      disk,
      c.new-2.ensures.seen.0,
      c.new-2.ensures.seen.1,
      c.new-2.ensures.seen.2,
      c.in-Ok.ensures.same,
      sure_of_none (sizes_in c.args.settings) slots c.none-listings.ensures
          (SurelyCame (g.D.Disk.surely_has c.args.disk) (g.D.Disk.surely_lies c.args.disk) (g.D.Disk.faults c.args.disk) (g.D.Disk.faults disk))
          (λ sure. IsOpenedFrom c.args.settings (g.D.Disk.byte_at c.args.disk) sure c.args.mode (marks_of c.args.marks.now) ((c.args.mode ≡ recover_mode.None) ⊎ g.D.Disk.is_known c.args.disk) core)
          from,
    )

pub returns-clause-sizes : goal.returns-clause-sizes
returns-clause-sizes g c =
    let from = c.in-Ok.ensures.opened (g.D.Disk.byte_at c.args.disk) (λ b p. false) (none_listed (sizes_in c.args.settings) c.args.settings.blocks (g.D.Disk.byte_at c.args.disk) c.none-listings.result.slots.items c.none-listings.ensures) in
    subst (λ t. HasSizes (meaning g.K.Code.encoding g.V.Code.encoding g.K.Code.is_encodable g.V.Code.is_encodable g.K.Code.is_decodable g.V.Code.is_decodable g.P.Properties.age) g.D.Disk.byte_at c.new-2.result.1.witness.me.0.seen t) from.opened.sizes c.new-2.ensures.sizes

pub returns-in-Err-clause-refused : goal.returns-in-Err-clause-refused
returns-in-Err-clause-refused g c = c.in-Err.ensures.refused
