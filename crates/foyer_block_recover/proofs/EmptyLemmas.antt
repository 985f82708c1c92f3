-- An opening that reads no block finds nothing.
use Rattle.std.proofs.Common.{◌≡◌, ℕ, zero, suc, ◌+◌, ◌<◌, ◌≤◌, ◌^◌, Bool, None, List, [], ◌++◌, refl, ap, ◌∙◌, arith}
use Rattle.foyer_block_scan.specs.BlobEntryIndex.{BlobEntryIndex}
use Rattle.foyer_format_layout.specs.Position.{Sizes}
use Rattle.foyer_block_recover.specs.Opening.{Opened, Found, winner, slot_of, stand_in, all_stand, greatest, IsAtEnd}
use Rattle.foyer_block_recover.specs.Recovery.{IsRecovered}
use Rattle.foyer_block_recover.specs.declared.block.recover.RecoverMode.TheVariants as recover_mode

nothing_stands : (from n : ℕ) (keeps : ℕ → List BlobEntryIndex) → ((b : ℕ) → b < from + n → keeps b ≡ []) → all_stand from n keeps ≡ []
nothing_stands from zero keeps none = refl
nothing_stands from (suc n) keeps none =
    ap (λ es. stand_in from es ++ all_stand (from + 1) n keeps) (none from (omega arith))
    ∙ nothing_stands (from + 1) n keeps (λ b lt. none b (omega (arith, lt)))

nothing_found : (n : ℕ) (keeps : ℕ → List BlobEntryIndex) → ((b : ℕ) → b < n → keeps b ≡ []) → all_stand 0 n keeps ++ [] ≡ []
nothing_found n keeps none = ap (λ (l : List Found). l ++ []) (nothing_stands 0 n keeps (λ b lt. none b (omega (arith, lt))))

module _ (s : Sizes) (n : ℕ) (bytes : ℕ → ℕ → ℕ) where
  pub none_indexed : (surely : ℕ → ℕ → ℕ → Type 0) (o : Opened) → IsRecovered s n bytes surely recover_mode.None [] o → (h : ℕ) → o.index h ≡ None
  none_indexed surely o is h =
      let opens = is.2 in
      opens.index h ∙ ap (λ l. slot_of (winner h l)) (nothing_found n opens.keeps opens.kept)

  pub none_drawn : (surely : ℕ → ℕ → ℕ → Type 0) (o : Opened) → IsRecovered s n bytes surely recover_mode.None [] o → o.next ≡ 1
  none_drawn surely o is =
      let opens = is.2 in
      opens.next ∙ ap (λ l. greatest l + 1) (nothing_found n opens.keeps opens.kept)

  pub none_at_end : (failed : ℕ → ℕ → Bool) → IsAtEnd s n bytes recover_mode.None failed [] → ⊥
  none_at_end failed is =
      let least : greatest (all_stand 0 n is.keeps ++ []) ≡ 0 = ap greatest (nothing_found n is.keeps is.kept) in
      let last : 2 ^ 64 ≤ greatest (all_stand 0 n is.keeps ++ []) + 1 = is.last in
      omega arith
