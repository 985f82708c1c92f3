use Rattle.foyer_format_layout.proofs.PageLaws.{page_laws, even-page_up}
use Rattle.std.proofs.Common.{◌+◌, ℕ, refl, ap, ◌∙◌, arith}
use Rattle.foyer_format_buffer.proofs.SplitLemmas.{appends}
use Rattle.foyer_format_buffer.proofs.split_progress.SplitProgress.append.Goals as goal

pub returns-clause-going : goal.returns-clause-going
returns-clause-going g c = λ s f all rest o.
    appends s f all rest c.args.info.now _ c.args.self.now _ c.requires.fits refl refl refl refl refl refl refl refl (ap (λ (n : ℕ). c.args.self.now.size + n) c.aligned.ensures) c.in_ok-push.ensures.items c.write.ensures.entries o

pub invariant_of-self-2 : goal.invariant_of-self-2
invariant_of-self-2 g c =
    let w = c.args.self.now in
    record {
      sizes = w.sizes;
      some_index = w.some_index;
      small = w.small;
      behind = w.behind;
      index_len = c.write.ensures.size ∙ w.index_len;
      within = omega (arith, c.requires.fits, c.aligned.ensures);
      collected = λ none. absurd (omega (arith, none, c.in_ok-push.ensures.len));
      used = λ _. omega (arith, c.requires.fits, c.aligned.ensures);
      pages = w.pages;
      part_pages = omega (arith, w.part_pages, c.aligned.ensures, even-page_up c.args.info.now.len);
      counted = omega (arith, c.requires.sum, c.aligned.ensures);
    }

pub overflow_cast-entry : goal.overflow_cast-entry
overflow_cast-entry g c = grind (arith, page_laws)

pub overflow_cast-entry-2 : goal.overflow_cast-entry-2
overflow_cast-entry-2 g c = grind (arith, page_laws)
