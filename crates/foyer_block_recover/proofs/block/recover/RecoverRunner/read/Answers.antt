use Rattle.std.proofs.Common.{◌≡◌, [], inl, inr, true, sym, subst, ◌∙◌, IfOk, IfErr}
use Rattle.foyer_io_disk.specs.Disk.{SurelyCame}
use Rattle.foyer_block_recover.specs.BlocksKept.{AreBlocksKept}
use Rattle.foyer_block_recover.specs.Placed.{AreSomeKept}
use Rattle.foyer_block_recover.specs.Sources.{AreSources, sure_of}
use Rattle.foyer_block_recover.specs.Recovery.{sizes_of, IsRefused}
use Rattle.foyer_block_recover.specs.declared.block.recover.RecoverMode.TheVariants as recover_mode
use Rattle.foyer_block_recover.proofs.BlocksLemmas.{none_kept_of}
use Rattle.foyer_block_recover.proofs.OpeningLemmas.{ok_weakens, err_both, none_by, quiet_by, strict_by, refused_so}
use Rattle.foyer_block_recover.proofs.block.recover.RecoverRunner.read.Goals as goal

pub returns-in-None-clause-kept : goal.returns-in-None-clause-kept
returns-in-None-clause-kept g c = λ bytes failed seen.
    let r = c.args.self.now in
    let S = sure_of (sizes_of r) c.args.listings.slots.items failed (SurelyCame (g.D.Disk.surely_has c.args.disk.now) (g.D.Disk.surely_lies c.args.disk.now) (g.D.Disk.faults c.args.disk.now) (g.D.Disk.faults c.args.disk.now)) in
    subst (λ m. IfOk c.read_none.result (AreBlocksKept (sizes_of r) r.blocks bytes S m)) (sym c.in-None.is)
    (ok_weakens c.read_none.result _ (AreBlocksKept (sizes_of r) r.blocks bytes S recover_mode.None) (none_by (sizes_of r) r.blocks bytes S) c.read_none.ensures.none)

pub returns-in-Quiet-clause-kept : goal.returns-in-Quiet-clause-kept
returns-in-Quiet-clause-kept g c = λ bytes failed seen.
    let r = c.args.self.now in
    let S = sure_of (sizes_of r) c.args.listings.slots.items failed (SurelyCame (g.D.Disk.surely_has c.args.disk.now) (g.D.Disk.surely_lies c.args.disk.now) (g.D.Disk.faults c.args.disk.now) (g.D.Disk.faults c.read_blocks.new.disk)) in
    let both : g.D.Disk.is_known c.args.disk.now × AreSources (sizes_of r) r.blocks c.args.listings.slots.items bytes (g.D.Disk.byte_at c.args.disk.now) failed =
    elim seen [ inl e ↦ absurd (let bad : recover_mode.None ≡ recover_mode.Quiet = sym e ∙ c.in-Quiet.is in cc) | inr k ↦ k ] in
    subst (λ m. IfOk c.read_blocks.result (AreBlocksKept (sizes_of r) r.blocks bytes S m)) (sym c.in-Quiet.is)
    (ok_weakens c.read_blocks.result _ (AreBlocksKept (sizes_of r) r.blocks bytes S recover_mode.Quiet) (quiet_by (sizes_of r) r.blocks bytes S) (c.read_blocks.ensures.kept bytes failed both.0 both.1))

pub returns-in-Strict-clause-kept : goal.returns-in-Strict-clause-kept
returns-in-Strict-clause-kept g c = λ bytes failed seen.
    let r = c.args.self.now in
    let S = sure_of (sizes_of r) c.args.listings.slots.items failed (SurelyCame (g.D.Disk.surely_has c.args.disk.now) (g.D.Disk.surely_lies c.args.disk.now) (g.D.Disk.faults c.args.disk.now) (g.D.Disk.faults c.read_blocks-in-Strict.new.disk)) in
    let both : g.D.Disk.is_known c.args.disk.now × AreSources (sizes_of r) r.blocks c.args.listings.slots.items bytes (g.D.Disk.byte_at c.args.disk.now) failed =
    elim seen [ inl e ↦ absurd (let bad : recover_mode.None ≡ recover_mode.Strict = sym e ∙ c.in-Strict.is in cc) | inr k ↦ k ] in
    subst (λ m. IfOk c.read_blocks-in-Strict.result (AreBlocksKept (sizes_of r) r.blocks bytes S m)) (sym c.in-Strict.is)
    (ok_weakens c.read_blocks-in-Strict.result _ (AreBlocksKept (sizes_of r) r.blocks bytes S recover_mode.Strict) (strict_by (sizes_of r) r.blocks bytes S) (c.read_blocks-in-Strict.ensures.kept bytes failed both.0 both.1))

pub returns-in-Strict-clause-refused : goal.returns-in-Strict-clause-refused
returns-in-Strict-clause-refused g c = λ bytes failed seen.
    let r = c.args.self.now in
    let S = sure_of (sizes_of r) c.args.listings.slots.items failed (SurelyCame (g.D.Disk.surely_has c.args.disk.now) (g.D.Disk.surely_lies c.args.disk.now) (g.D.Disk.faults c.args.disk.now) (g.D.Disk.faults c.read_blocks-in-Strict.new.disk)) in
    let both : g.D.Disk.is_known c.args.disk.now × AreSources (sizes_of r) r.blocks c.args.listings.slots.items bytes (g.D.Disk.byte_at c.args.disk.now) failed =
    elim seen [ inl e ↦ absurd (let bad : recover_mode.None ≡ recover_mode.Strict = sym e ∙ c.in-Strict.is in cc) | inr k ↦ k ] in
    subst (λ m. IfErr c.read_blocks-in-Strict.result (IsRefused (sizes_of r) r.blocks bytes S m [])) (sym c.in-Strict.is)
    (err_both c.read_blocks-in-Strict.result _ _ (IsRefused (sizes_of r) r.blocks bytes S recover_mode.Strict []) (refused_so (sizes_of r) r.blocks bytes S [] true)
    c.read_blocks-in-Strict.ensures.refused (c.read_blocks-in-Strict.ensures.cut bytes failed both.0 both.1))

pub returns-in-None-clause-some : goal.returns-in-None-clause-some
returns-in-None-clause-some g c =
    let r = c.args.self.now in
    ok_weakens c.read_none.result _ (AreSomeKept (sizes_of r) r.blocks) (λ read holds. none_kept_of (sizes_of r) read r.blocks holds) c.read_none.ensures.none
