use Rattle.std.proofs.Common.{◌≡◌, ◌∙◌, ap, inl, inr, refl, sym, true, false, is_ok, is_err}
use Rattle.foyer_block_tombstone.specs.Pages.{pages_of}
use Rattle.foyer_block_tombstone.specs.Views.{LogView}
use Rattle.foyer_block_tombstone.proofs.OutcomeLemmas.{no_err, no_ok, no_ok_by_err, ok_is, on_err, on_ok}
use Rattle.foyer_block_tombstone.proofs.block.tombstone.log.TombstoneLog.put_before_newest.Goals as goal

pub returns-then-is_err : goal.returns-then-is_err
returns-then-is_err g c =
    let slot_is : c.self.inside.slot ≡ c.args.self.now.slot = ap (λ (v : LogView _). v.slot) c.self.view_is in
    let newest_is : c.self.inside.newest ≡ c.args.self.now.newest = ap (λ (v : LogView _). v.newest) c.self.view_is in
    let pages_is : c.self.inside.pages ≡ pages_of c.args.self.now.places = c.self.invariant.0 ∙ ap (λ (v : LogView _). pages_of v.places) c.self.view_is in
    record {
      between = c.put_at-moved.new.self;
      first = c.put_at-moved.result;
      moved = rw (slot_is, newest_is, pages_is) at c.put_at-moved.ensures;
      then = inl (refl, refl, no_ok_by_err _ c.put_at-moved.result (sym c.is_err.ensures.value ∙ c.if-is_err.true));
    }

pub returns-then-is_ok : goal.returns-then-is_ok
returns-then-is_ok g c =
    let slot_is : c.self.inside.slot ≡ c.args.self.now.slot = ap (λ (v : LogView _). v.slot) c.self.view_is in
    let newest_is : c.self.inside.newest ≡ c.args.self.now.newest = ap (λ (v : LogView _). v.newest) c.self.view_is in
    let pages_is : c.self.inside.pages ≡ pages_of c.args.self.now.places = c.self.invariant.0 ∙ ap (λ (v : LogView _). pages_of v.places) c.self.view_is in
    let kept : c.self-2.inside.slot ≡ c.args.self.now.slot =
    ap (λ (v : LogView _). v.slot) c.self-2.view_is ∙ ap (λ (v : LogView _). v.slot) c.put_at-outcome.ensures.same ∙ ap (λ (v : LogView _). v.slot) c.put_at-moved.ensures.same in
    record {
      between = c.put_at-moved.new.self;
      first = c.put_at-moved.result;
      moved = rw (slot_is, newest_is, pages_is) at c.put_at-moved.ensures;
      then = inr (
        ok_is c.put_at-moved.result (sym c.is_err.ensures.value ∙ c.if-is_err.false),
        (
          c.put_at-outcome.new.self,
          rw (slot_is, pages_is) at c.put_at-outcome.ensures,
          no_err _ c.put_at-outcome.result (sym c.is_ok.ensures.value ∙ c.if-is_ok.true),
          on_ok _ c.put_at-outcome.result (rw (← c.self-2.view_is) refl, rw (← kept) c.slot_behind-self-inside.ensures.far, rw (← kept, ← pages_is) c.slot_behind-self-inside.ensures.same),
        ),
      );
    }

pub returns-else-is_ok : goal.returns-else-is_ok
returns-else-is_ok g c =
    let slot_is : c.self.inside.slot ≡ c.args.self.now.slot = ap (λ (v : LogView _). v.slot) c.self.view_is in
    let newest_is : c.self.inside.newest ≡ c.args.self.now.newest = ap (λ (v : LogView _). v.newest) c.self.view_is in
    let pages_is : c.self.inside.pages ≡ pages_of c.args.self.now.places = c.self.invariant.0 ∙ ap (λ (v : LogView _). pages_of v.places) c.self.view_is in
    record {
      between = c.put_at-moved.new.self;
      first = c.put_at-moved.result;
      moved = rw (slot_is, newest_is, pages_is) at c.put_at-moved.ensures;
      then = inr (
        ok_is c.put_at-moved.result (sym c.is_err.ensures.value ∙ c.if-is_err.false),
        (
          c.put_at-outcome.new.self,
          rw (slot_is, pages_is) at c.put_at-outcome.ensures,
          on_err _ c.put_at-outcome.result refl,
          no_ok _ c.put_at-outcome.result (sym c.is_ok.ensures.value ∙ c.if-is_ok.false),
        ),
      );
    }
