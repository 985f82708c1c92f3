use Rattle.std.proofs.Common.{◌≡◌, ◌<◌, ◌==◌, ℕ, Bool, true, length, refl, sym, ap, subst, ◌∙◌, arith}
use Rattle.foyer_block_manager.specs.Managed.{Managed}
use Rattle.foyer_block_manager.specs.Picks.{allows}
use Rattle.foyer_block_manager.specs.BlockSets.{Stands, MayReclaim}
use Rattle.foyer_block_manager.proofs.MayLemmas.{allowed, allowing, some_allowed}
use Rattle.foyer_block_manager.proofs.block.manager.BlockManager.may_reclaim.Goals as goal

-- what was computed is what the sets allow
same : (a b c : Bool) (reclaiming reclaimers usable threshold : ℕ) (d e f : Bool) → a ≡ allows b reclaiming reclaimers c usable threshold d → c ≡ e → d ≡ f
    → a ≡ allows b reclaiming reclaimers e usable threshold f
same a b c reclaiming reclaimers usable threshold d e f is p q = is ∙ ap (λ x. allows b reclaiming reclaimers x usable threshold d) p ∙ ap (λ x. allows b reclaiming reclaimers e usable threshold x) q

pub returns-clause-may : goal.returns-clause-may
returns-clause-may g c = λ s st.
    let m = c.self.inside in
    let old : Managed = record { blocks = m.blocks.items; clean = m.clean.items; evictable = m.evictable.ids; waiting = m.waiting.items; ready = m.ready.items; reclaimers = m.reclaimers; clean_threshold = m.clean_threshold; block_size = m.block_size; is_cleaning = m.is_cleaning } in
    let stood : Stands old s = subst (λ (w : Managed). Stands w s) (sym c.self.view_is) st in
    let len : m.waiting.len ≡ length m.waiting.items = omega (arith, m.waiting.ok.0) in
    let test : c.allows.result ≡ allows m.is_cleaning m.reclaiming m.reclaimers (length m.evictable.ids == 0) m.usable m.clean_threshold (length m.waiting.items == 0) =
    same c.allows.result m.is_cleaning c.is_empty.result m.reclaiming m.reclaimers m.usable m.clean_threshold c.is_empty-2.result (length m.evictable.ids == 0) (length m.waiting.items == 0)
    c.allows.ensures (c.is_empty.ensures ∙ ap (λ l. length l == 0) c.as_slice.ensures) (c.is_empty-2.ensures ∙ ap (λ n. n == 0) len) in
    subst (λ (w : Managed). (c.allows.result ≡ true → MayReclaim (length w.blocks) w.reclaimers w.clean_threshold s) × (MayReclaim (length w.blocks) w.reclaimers w.clean_threshold s → c.allows.result ≡ true)) c.self.view_is
    (λ is. allowed old s stood {evictable = m.evictable} refl c.self.invariant (sym test ∙ is), λ may. test ∙ allowing old s stood {evictable = m.evictable} refl c.self.invariant may)

pub returns-clause-some : goal.returns-clause-some
returns-clause-some g c = λ is.
    let m = c.self.inside in
    let len : m.waiting.len ≡ length m.waiting.items = omega (arith, m.waiting.ok.0) in
    let test : c.allows.result ≡ allows m.is_cleaning m.reclaiming m.reclaimers (length m.evictable.ids == 0) m.usable m.clean_threshold (length m.waiting.items == 0) =
    same c.allows.result m.is_cleaning c.is_empty.result m.reclaiming m.reclaimers m.usable m.clean_threshold c.is_empty-2.result (length m.evictable.ids == 0) (length m.waiting.items == 0)
    c.allows.ensures (c.is_empty.ensures ∙ ap (λ l. length l == 0) c.as_slice.ensures) (c.is_empty-2.ensures ∙ ap (λ n. n == 0) len) in
    subst (λ (w : Managed). 0 < length w.evictable) c.self.view_is
    (some_allowed m.is_cleaning m.reclaiming m.reclaimers m.evictable.ids m.usable m.clean_threshold (length m.waiting.items == 0) (sym test ∙ is))
