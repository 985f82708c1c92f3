use Rattle.std.proofs.Common.{◌≡◌, List, Some, None, refl, sym, ap, ◌∙◌, arith}
use Rattle.foyer_block_scan.specs.ScanState.{Scan}
use Rattle.foyer_block_scan.specs.Scan.{ScanStep}
use Rattle.foyer_block_scan.proofs.ScanLemmas.{step_unsealed, step_unfit, step_index}
use Rattle.foyer_block_scan.proofs.block.scanner.BlockScanner.next.Goals as goal

pub returns-in_default-2-clause-listed : goal.returns-in_default-2-clause-listed
returns-in_default-2-clause-listed g c =
    let none = rw c.in_default-2.is at c.in_ok-entries.ensures.none in
    sym (ap (λ (r : ScanStep). r.listed) (step_unsealed c.args.self.now c.in-Some.blob_offset c.args.bytes.now
    (sym (ap (λ (v : Scan). v.blob_offset) c.self.view_is) ∙ c.in-Some.is) none))

pub returns-in_default-2-clause-scan : goal.returns-in_default-2-clause-scan
returns-in_default-2-clause-scan g c =
    let none = rw c.in_default-2.is at c.in_ok-entries.ensures.none in
    ap (λ (v : Scan). record v { blob_offset = None }) c.self.view_is
    ∙ sym (ap (λ (r : ScanStep). r.scan) (step_unsealed c.args.self.now c.in-Some.blob_offset c.args.bytes.now
    (sym (ap (λ (v : Scan). v.blob_offset) c.self.view_is) ∙ c.in-Some.is) none))
