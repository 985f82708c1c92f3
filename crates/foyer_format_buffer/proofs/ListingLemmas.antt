-- The chain of a block.
use Rattle.std.proofs.Common.{◌≡◌, ℕ, Bool, List, [], ◌++◌, length, refl, sym, ap, subst, ◌∙◌}
use Rattle.foyer_format_blob.specs.Blob.{IsSealed, entries_in}
use Rattle.foyer_format_layout.specs.BlockBytes.{read}
use Rattle.foyer_format_layout.specs.Position.{Sizes}
use Rattle.foyer_format_buffer.specs.Listing.{IsIndex, behind, placed, Chain, Lists}
use Rattle.foyer_format_buffer.specs.Listing.Chain.{ends, goes}
use Rattle.foyer_format_blob.specs.declared.blob.BlobEntryIndex.{BlobEntryIndex}

-- bytes are a sealed index of one list at most
pub sealed_one : (b : List ℕ) (xs ys : List BlobEntryIndex) → IsSealed b xs → IsSealed b ys → xs ≡ ys
sealed_one b xs ys i j =
    let same : length xs ≡ length ys = sym i.count ∙ j.count in
    sym i.entries ∙ ap (entries_in b) same ∙ j.entries

pub index_one : (s : Sizes) (B : ℕ → ℕ) (failed : ℕ → Bool) (p : ℕ) (xs ys : List BlobEntryIndex) → IsIndex s B failed p xs
    → IsIndex s B failed p ys → xs ≡ ys
index_one s B failed p xs ys i j = sealed_one (read B p s.index) xs ys i.sealed j.sealed

-- two chains from a place list the same
pub chain_one : (s : Sizes) (B : ℕ → ℕ) (failed : ℕ → Bool) (p : ℕ) (xs ys : List BlobEntryIndex) (q r : ℕ)
    → Chain s B failed p xs q → Chain s B failed p ys r → (xs ≡ ys) × (q ≡ r)
chain_one s B failed p xs ys q r (ends none) c = ends_one s B failed p ys r none c
  where
    ends_one : (s : Sizes) (B : ℕ → ℕ) (failed : ℕ → Bool) (p : ℕ) (ys : List BlobEntryIndex) (r : ℕ)
        → ((es : List BlobEntryIndex) → IsIndex s B failed p es → ⊥) → Chain s B failed p ys r → ([] ≡ ys) × (p ≡ r)
    ends_one s B failed p ys r none (ends also) = (refl, refl)
    ends_one s B failed p ys r none (goes {es = es} i rest) = absurd (none es i)
chain_one s B failed p xs ys q r (goes {es = es} {rest = more} i rest) c =
    goes_one s B failed p es more ys q r i (λ zs t d. chain_one s B failed (behind s p es) more zs q t rest d) c
  where
    goes_one : (s : Sizes) (B : ℕ → ℕ) (failed : ℕ → Bool) (p : ℕ) (es more ys : List BlobEntryIndex) (q r : ℕ) → IsIndex s B failed p es
        → ((zs : List BlobEntryIndex) (t : ℕ) → Chain s B failed (behind s p es) zs t → (more ≡ zs) × (q ≡ t))
        → Chain s B failed p ys r → (placed p es ++ more ≡ ys) × (q ≡ r)
    goes_one s B failed p es more ys q r i later (ends none) = absurd (none es i)
    goes_one s B failed p es more ys q r i later (goes {es = fs} {rest = others} j rest) =
        let same : es ≡ fs = index_one s B failed p es fs i j in
        let there : (more ≡ others) × (q ≡ r) = later others r (subst (λ l. Chain s B failed (behind s p l) others r) (sym same) rest) in
        (ap (λ l. placed p l ++ more) same ∙ ap (λ l. placed p fs ++ l) there.0, there.1)

-- a block lists one list
pub lists_one : (s : Sizes) (B : ℕ → ℕ) (failed : ℕ → Bool) (xs ys : List BlobEntryIndex) → Lists s B failed xs → Lists s B failed ys → xs ≡ ys
lists_one s B failed xs ys l m = (chain_one s B failed 0 xs ys l.end m.end l.chain m.chain).0

-- if an index is read at a place, the chain continues after it
pub chain_step : (s : Sizes) (B : ℕ → ℕ) (failed : ℕ → Bool) (p r : ℕ) (fs all : List BlobEntryIndex) → IsIndex s B failed p fs → Chain s B failed p all r
    → (rest : List BlobEntryIndex) × Chain s B failed (behind s p fs) rest r × (all ≡ placed p fs ++ rest)
chain_step s B failed p r fs all is (ends none) = absurd (none fs is)
chain_step s B failed p r fs all is (goes {es = es} {rest = rest} j chain) =
    let same : es ≡ fs = index_one s B failed p es fs j is in
    (rest, subst (λ l. Chain s B failed (behind s p l) rest r) same chain, ap (λ l. placed p l ++ rest) same)
