-- That there is what an opening gives.
use Rattle.std.proofs.lemmas.Bool.Decides.{nat_tests}
use Rattle.std.proofs.Common.{◌≡◌, ℕ, zero, suc, ◌+◌, ◌<◌, ◌≤◌, ◌^◌, nat_le, nat_lt, Bool, true, false, Option, Some, None, List, [], ◌∷◌, ◌++◌, map, ◌⊎◌, inl, inr, refl, sym, ◌∙◌, arith}
use Rattle.foyer_format_layout.specs.Position.{Sizes}
use Rattle.foyer_format_layout.specs.Each.{Each}
use Rattle.foyer_format_layout.specs.BlockBytes.{read}
use Rattle.foyer_format_buffer.specs.Listing.{Fits, IsIndex, behind, placed, Chain, Lists, kept}
use Rattle.foyer_format_buffer.specs.Listing.Chain.{ends, goes}
use Rattle.foyer_core_model.specs.Record.{IndexEntry}
use Rattle.foyer_core_model.specs.Rules.{Rules, sizes_of}
use Rattle.foyer_core_restart.specs.Entries.{entry_in}
use Rattle.foyer_core_restart.specs.Real.{IsFormat}
use Rattle.foyer_block_recover.specs.Opening.{Keeps, winner, slot_of, all_stand, greatest, clean_from, Opened, Opens}
use Rattle.foyer_block_recover.specs.declared.block.recover.RecoverMode.{RecoverMode}
use Rattle.foyer_block_recover.specs.declared.block.recover.RecoverMode.TheVariants as recover_mode
use Rattle.foyer_core_restart.specs.Restart.{no_fault}
use Rattle.foyer_core_restart.specs.Total.{ListsExist, OpensUnlessLast}
use Rattle.foyer_core_restart.proofs.Tasks.{Entry}

module _ {C : Type 0} (rules : Rules C) (format : IsFormat rules) where
  s : Sizes
  s = sizes_of rules

  -- whether an index stands at a place
  index_or : (B : ℕ → ℕ) (failed : ℕ → Bool) (p : ℕ) → ((es : List Entry) × IsIndex (sizes_of rules) B failed p es) ⊎ ((es : List Entry) → IsIndex (sizes_of rules) B failed p es → ⊥)
  index_or B failed p = room (nat_le (p + rules.index_size) rules.block_size) refl (failed p) refl (rules.entries_of p (read B p rules.index_size)) refl
    where
      room : (t : Bool) → nat_le (p + rules.index_size) rules.block_size ≡ t → (u : Bool) → failed p ≡ u → (o : Option (List IndexEntry)) → rules.entries_of p (read B p rules.index_size) ≡ o
          → ((es : List Entry) × IsIndex (sizes_of rules) B failed p es) ⊎ ((es : List Entry) → IsIndex (sizes_of rules) B failed p es → ⊥)
      room false e u f o g = inr (λ es is. let l : p + rules.index_size ≤ rules.block_size = is.room in grind (arith, nat_tests, e, l))
      room true e true f o g = inr (λ es is. let x : true ≡ false = sym f ∙ is.came in cc)
      room true e false f None g = inr (λ es is. format.ends p (read B p rules.index_size) es g is.sealed is.fits)
      room true e false f (Some es) g = inl (map entry_in es, record { room = grind (arith, nat_tests, e); came = f; sealed = (format.lists p (read B p rules.index_size) es g).0; fits = (format.lists p (read B p rules.index_size) es g).1 })

  behind_more : (p : ℕ) (es : List Entry) → Each (Fits (sizes_of rules) p) es → p < behind (sizes_of rules) p es
  behind_more p [] fits = let a : 0 < rules.index_size = format.sizes.some in let b : rules.index_size < rules.block_size = format.sizes.order in omega arith
  behind_more p (e ∷ []) fits = let a : 0 < rules.index_size = format.sizes.some in let b : rules.index_size ≤ e.offset = (fits.0).behind in omega arith
  behind_more p (e ∷ d ∷ es) fits = behind_more p (d ∷ es) fits.1

  -- the chain from a place, if at most so much of the block is left
  chain_from : (fuel : ℕ) (B : ℕ → ℕ) (failed : ℕ → Bool) (p : ℕ) → rules.block_size ≤ p + fuel → (es : List Entry) × (q : ℕ) × Chain (sizes_of rules) B failed p es q
  chain_from zero B failed p le = ([], p, ends (λ es is. let l : p + rules.index_size ≤ rules.block_size = is.room in let a : 0 < rules.index_size = format.sizes.some in omega arith))
  chain_from (suc fuel) B failed p le = go (index_or B failed p) (λ q l. chain_from fuel B failed q l)
    where
      go : ((es : List Entry) × IsIndex (sizes_of rules) B failed p es) ⊎ ((es : List Entry) → IsIndex (sizes_of rules) B failed p es → ⊥)
          → ((q : ℕ) → rules.block_size ≤ q + fuel → (es : List Entry) × (r : ℕ) × Chain (sizes_of rules) B failed q es r)
          → (es : List Entry) × (q : ℕ) × Chain (sizes_of rules) B failed p es q
      go (inr none) rec = ([], p, ends none)
      go (inl (es, is)) rec =
          let l : p < behind (sizes_of rules) p es = behind_more p es is.fits in
          let k : (fs : List Entry) × (r : ℕ) × Chain (sizes_of rules) B failed (behind (sizes_of rules) p es) fs r = rec (behind (sizes_of rules) p es) (omega arith) in
          (placed p es ++ k.0, k.1, goes is k.2)

  pub lists_exist_lem : ListsExist rules
  lists_exist_lem B failed = let k : (es : List Entry) × (q : ℕ) × Chain (sizes_of rules) B failed 0 es q = chain_from rules.block_size B failed 0 (omega arith) in (k.0, record { end = k.1; chain = k.2 })

  keeps_of : (bytes : ℕ → ℕ → ℕ) (mode : RecoverMode) (b : ℕ) → (es : List Entry) × Keeps (sizes_of rules) mode (bytes b) (no_fault b) es
  keeps_of bytes recover_mode.None b = ([], refl)
  keeps_of bytes recover_mode.Quiet b = let k : (es : List Entry) × Lists (sizes_of rules) (bytes b) (no_fault b) es = lists_exist_lem (bytes b) (no_fault b) in (kept k.0, (k.0, k.1, refl))
  keeps_of bytes recover_mode.Strict b = let k : (es : List Entry) × Lists (sizes_of rules) (bytes b) (no_fault b) es = lists_exist_lem (bytes b) (no_fault b) in (kept k.0, (k.0, k.1, refl))

  pub opens_unless_last_lem : OpensUnlessLast rules
  opens_unless_last_lem bytes mode = go (nat_lt (greatest (all_stand 0 rules.blocks keeps ++ []) + 1) (2 ^ 64)) refl
    where
      keeps : ℕ → List Entry
      keeps b = (keeps_of bytes mode b).0

      kept_there : (b : ℕ) → b < rules.blocks → Keeps (sizes_of rules) mode (bytes b) (no_fault b) (keeps b)
      kept_there b lt = (keeps_of bytes mode b).1

      go : (t : Bool) → nat_lt (greatest (all_stand 0 rules.blocks keeps ++ []) + 1) (2 ^ 64) ≡ t
          → ((keeps : ℕ → List Entry) × ((b : ℕ) → b < rules.blocks → Keeps (sizes_of rules) mode (bytes b) (no_fault b) (keeps b)) × (2 ^ 64 ≤ greatest (all_stand 0 rules.blocks keeps ++ []) + 1))
          ⊎ ((o : Opened) × Opens (sizes_of rules) rules.blocks bytes mode no_fault [] o)
      go false e = inl (keeps, kept_there, grind (arith, nat_tests, e))
      go true e = inr (
        record { index = λ h. slot_of (winner h (all_stand 0 rules.blocks keeps ++ [])); next = greatest (all_stand 0 rules.blocks keeps ++ []) + 1; clean = clean_from 0 rules.blocks keeps },
        record {
          keeps = keeps;
          kept = kept_there;
          index = λ h. refl;
          next = refl;
          clean = refl;
          below = grind (arith, nat_tests, e);
          read = λ m b lt cut. let x : false ≡ true = cut.4 in cc;
        },
      )
