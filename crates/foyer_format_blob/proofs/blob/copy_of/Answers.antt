use Rattle.foyer_format_layout.proofs.PageLaws.{pages, page_up-even}
use Rattle.std.proofs.Common.{arith, ap, sym, ◌∙◌, length}
use Rattle.std.proofs.lemmas.Grind.{common_steps}
use Rattle.std.proofs.lemmas.List.{length-replicate}
use Rattle.foyer_format_blob.proofs.blob.copy_of.Goals as goal

pub copy_from_slice-requires : goal.copy_from_slice-requires
copy_from_slice-requires g c =
    ap length (c.as_mut_slice.ensures.value ∙ c.in_ok-copy.ensures.zeros) ∙ length-replicate _ 0
    ∙ page_up-even c.len.result c.len.ensures.pages ∙ c.len.ensures.value ∙ ap length (sym c.as_slice.ensures.value)

pub returns-in_err-copy-clause-memory : goal.returns-in_err-copy-clause-memory
returns-in_err-copy-clause-memory g c = grind (arith, pages)

pub returns-clause-same : goal.returns-clause-same
returns-clause-same g c = grind (arith, common_steps)
