-- What is found again is what it was.
use Rattle.std.proofs.Common.{◌≡◌, ℕ, ◌+◌, ◌<◌, ◌≤◌, Bool, List, [], Some, refl, sym, ap, subst, ◌∙◌, arith}
use Rattle.foyer_format_layout.specs.BlockBytes.{IsBeside, read, Write}
use Rattle.foyer_core_model.specs.Access.{InFlight}
use Rattle.foyer_core_model.specs.Event.{Put, newest}
use Rattle.foyer_core_model.specs.Laws.{Demands}
use Rattle.foyer_core_model.specs.Opened.{IsOpened}
use Rattle.foyer_core_model.specs.Record.{Address, Indexed}
use Rattle.foyer_core_model.specs.Rules.{Rules, Splitting, flusher_of, sizes_of}
use Rattle.foyer_core_model.specs.World.{World}
use Rattle.foyer_format_layout.proofs.BlockBytesLaws.{read_same}
use Rattle.foyer_core_model.proofs.Invariant.{WorldInvariant, ground_of, line_of, SlotOk, IsSolid, WritesSpare}
use Rattle.foyer_core_model.proofs.OpenedSound.{new_sound}
use Rattle.foyer_core_model.proofs.SoundKept.{IsKnown}
use Rattle.foyer_core_layout.specs.Splits.{IsLaidOut}
use Rattle.foyer_core_restart.specs.Entries.{In, entry_at}
use Rattle.foyer_core_restart.specs.Newest.{KeepsNewest, LaidNewestLaw}
use Rattle.foyer_core_restart.specs.Real.{IsReal}
use Rattle.foyer_core_restart.specs.Restart.{IsStopped}
use Rattle.foyer_core_restart.proofs.Safe.{sight_of, IsSlot, puts_in, IsSafe}
use Rattle.foyer_core_restart.proofs.Puts.{in_puts}
use Rattle.foyer_core_restart.proofs.Stop.{uncovered, dry}
use Rattle.foyer_core_restart.proofs.Law.{run_known, run_safe}
use Rattle.foyer_core_restart.proofs.Layouts.{laid_is_real, laid_demands}

module _ (A : Type 0) {C : Type 0} (rules : Rules C) (w : World C) (sound : WorldInvariant rules w) (safe : IsSafe A rules (sight_of w)) where
  -- at an address of the index the bytes are the record that was newest, at the stop too
  stands_there : (bytes : ℕ → ℕ → ℕ) (h : ℕ) (a : Address) → IsStopped rules w bytes → w.core.index h ≡ Some (Indexed a)
      → newest h w.history ≡ Some (Put h a.sequence (rules.pair_of (read (bytes a.block) a.offset a.len) h a.sequence))
  stands_there bytes h a stopped indexed = ok.1 ∙ ap (λ x. Some (Put h a.sequence x)) (sym solid.outcome ∙ ap (λ l. rules.pair_of l h a.sequence) (sym same))
    where
      ok : SlotOk rules (ground_of w) w.block_writes w.history h (line_of (w.core.flushers (flusher_of rules h))) (Some (Indexed a))
      ok = subst (λ o. SlotOk rules (ground_of w) w.block_writes w.history h (line_of (w.core.flushers (flusher_of rules h))) o) indexed (sound.slots h (flusher_of rules h) refl)

      slot : IsSlot w.core.filling w.committed w.core.place w.core.reclaims h a
      slot = safe.slots h a indexed

      solid : IsSolid rules (ground_of w) w.block_writes h a ok.0
      solid = (ok.2).solid slot.present

      some : puts_in w.core.filling w.committed a.block ≡ [] → ⊥
      some none = subst (λ l. In (entry_at h a) l) none
          (subst (λ l. In l (puts_in w.core.filling w.committed a.block)) slot.entry (in_puts a.block (w.core.filling a.block) slot.stored w.committed slot.among slot.block (slot.count ∙ slot.present)))

      within : a.len ≤ rules.page_up a.len
      within = rules.page_up_above a.len

      beside : (i : ℕ) → a.offset ≤ i → i < a.offset + a.len → (f : ℕ) (rs : List Bool) (v : Write) (vs : List Write) → w.block_writes f ≡ InFlight a.block rs v vs → IsBeside v i
      beside i low high f rs v vs is =
          (subst (WritesSpare rules a) is (solid.spared f) refl).0 i (low, (let l : a.len ≤ rules.page_up a.len = within in omega arith))

      same : read (bytes a.block) a.offset a.len ≡ read (w.bytes a.block) a.offset a.len
      same = read_same (bytes a.block) (w.bytes a.block) a.offset a.len
          (λ i low high. stopped a.block i (uncovered A rules w sound safe a.block i (λ f rs v vs is. beside i low high f rs v vs is) (dry A rules w sound safe a.block i slot.alive some)))

-- and so it is in an opened world
opened_there : {C : Type 0} (rules : Rules C) (v : World C) (h : ℕ) (a : Address) → IsOpened rules v → a.filling ≡ 0 → v.core.index h ≡ Some (Indexed a)
    → newest h v.history ≡ Some (Put h a.sequence (rules.pair_of (read (v.bytes a.block) a.offset a.len) h a.sequence))
opened_there rules v h a opened first indexed = ok.1 ∙ ap (λ x. Some (Put h a.sequence x)) (sym solid.outcome)
  where
    ok : SlotOk rules (ground_of v) v.block_writes v.history h (line_of (v.core.flushers (flusher_of rules h))) (Some (Indexed a))
    ok = subst (λ o. SlotOk rules (ground_of v) v.block_writes v.history h (line_of (v.core.flushers (flusher_of rules h))) o) indexed ((new_sound rules v opened).slots h (flusher_of rules h) refl)

    solid : IsSolid rules (ground_of v) v.block_writes h a ok.0
    solid = (ok.2).solid (first ∙ sym (opened.filling a.block))

pub newest_law_lem : (A : Type 0) {C : Type 0} (rules : Rules C) (Splits : Splitting C) (is_value : C → Type 0) → Demands rules Splits is_value → IsReal A rules Splits
    → KeepsNewest rules Splits is_value
newest_law_lem A rules Splits is_value demands real w v h a run stopped opened indexed again =
    let known : IsKnown rules Splits is_value demands w = run_known A rules Splits is_value demands real w run in
    opened_there rules v h (record a { filling = 0 }) opened refl again
    ∙ sym (stands_there A rules w known.sound (run_safe A rules Splits is_value demands real w run) v.bytes h a stopped indexed)

pub laid_newest_law_lem : {C : Type 0} (rules : Rules C) (is_value : C → Type 0) → LaidNewestLaw rules is_value
laid_newest_law_lem rules is_value format small trips =
    newest_law_lem (Unit {0}) rules (IsLaidOut (sizes_of rules)) is_value (laid_demands rules format small is_value trips) (laid_is_real rules format small)
