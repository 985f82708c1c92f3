-- The line of a shape is that of no other shape.
use Rattle.std.proofs.Common.{◌≡◌, ℕ, ◌^◌, ◌<◌, Bool, true, false, List, [], ◌∷◌, ◌++◌, codes, decimal, drop, refl, sym, ap, subst, ◌∙◌, arith}
use Rattle.std.specs.Str.Parse.{AllDigits}
use Rattle.std.specs.Char.{digit_value}
use Rattle.std.proofs.lemmas.List.{append_assoc}
use Rattle.std.proofs.lemmas.Fmt.{decimal_injective, decimal_is_IsNumeral}
use Rattle.foyer_directory.specs.declared.shape.DirectoryShape.{DirectoryShape}
use Rattle.foyer_directory.specs.Shapes.{IsShape, log_digit, shape_line}

head : (x y : ℕ) (xs ys : List ℕ) → x ∷ xs ≡ y ∷ ys → x ≡ y
head x y xs ys e = cc

tail : (x y : ℕ) (xs ys : List ℕ) → x ∷ xs ≡ y ∷ ys → xs ≡ ys
tail x y xs ys e = cc

-- digits end where a blank stands
apart : (xs ys a b : List ℕ) → AllDigits 10 xs → AllDigits 10 ys → xs ++ 32 ∷ a ≡ ys ++ 32 ∷ b → (xs ≡ ys) × (a ≡ b)
apart [] [] a b h k e = (refl, tail 32 32 a b e)
apart [] (y ∷ ys) a b h k e = absurd (omega (arith, subst (λ (c : ℕ). digit_value c < 10) (sym (head 32 y a (ys ++ 32 ∷ b) e)) k.0))
apart (x ∷ xs) [] a b h k e = absurd (omega (arith, subst (λ (c : ℕ). digit_value c < 10) (head x 32 (xs ++ 32 ∷ a) b e) h.0))
apart (x ∷ xs) (y ∷ ys) a b h k e =
    let rest = apart xs ys a b h.1 k.1 (tail x y (xs ++ 32 ∷ a) (ys ++ 32 ∷ b) e) in
    let first = head x y (xs ++ 32 ∷ a) (ys ++ 32 ∷ b) e in
    (cc, rest.1)

-- numbers before a blank
numbers : (m n : ℕ) (a b : List ℕ) → m < 2 ^ 64 → n < 2 ^ 64 → decimal m ++ 32 ∷ a ≡ decimal n ++ 32 ∷ b → (m ≡ n) × (a ≡ b)
numbers m n a b h k e =
    let one = apart (decimal m) (decimal n) a b (decimal_is_IsNumeral m h).0.1 (decimal_is_IsNumeral n k).0.1 e in
    (decimal_injective m n h k one.0, one.1)

logs : (p q : Bool) (a b : List ℕ) → log_digit p ++ 10 ∷ a ≡ log_digit q ++ 10 ∷ b → (p ≡ q) × (a ≡ b)
logs true true a b e = (refl, cc)
logs false false a b e = (refl, cc)
logs true false a b e = absurd (omega (arith, head 49 48 (10 ∷ a) (10 ∷ b) e))
logs false true a b e = absurd (omega (arith, head 48 49 (10 ∷ a) (10 ∷ b) e))

abbrev shape : ℕ → ℕ → Bool → DirectoryShape
shape m c p = record { block_size = m; cores = c; has_log = p }

same : (m n c d : ℕ) (p q : Bool) → m ≡ n → c ≡ d → p ≡ q
    → shape m c p ≡ shape n d q
same m n c d p q h k l = cc

-- what follows the fields
rest : List ℕ → DirectoryShape → List ℕ
rest a s = decimal s.block_size ++ 32 ∷ (codes "cores=" ++ (decimal s.cores ++ 32 ∷ (codes "log=" ++ (log_digit s.has_log ++ 10 ∷ a))))

spelled : (s : DirectoryShape) (a : List ℕ) → shape_line s ++ a ≡ codes "block=" ++ rest a s
unfolding rest
spelled s a =
    let log = append_assoc (log_digit s.has_log) (codes "\n") a in
    let cores = append_assoc (decimal s.cores) (codes " log=" ++ (log_digit s.has_log ++ codes "\n")) a in
    let block = append_assoc (decimal s.block_size) (codes " cores=" ++ (decimal s.cores ++ (codes " log=" ++ (log_digit s.has_log ++ codes "\n")))) a in
    ap (λ (l : List ℕ). codes "block=" ++ l) (
    block
    ∙ ap (λ (l : List ℕ). decimal s.block_size ++ (codes " cores=" ++ l)) (cores ∙ ap (λ (l : List ℕ). decimal s.cores ++ (codes " log=" ++ l)) log)
    )

-- a line is the beginning of no other line
pub one_line : (s t : DirectoryShape) (a b : List ℕ) → IsShape s → IsShape t → shape_line s ++ a ≡ shape_line t ++ b → (s ≡ t) × (a ≡ b)
unfolding rest
one_line s t a b h k e =
    let texts = ap (drop 6) (sym (spelled s a) ∙ e ∙ spelled t b) in
    let blocks = numbers s.block_size t.block_size _ _ h.0 k.0 texts in
    let cores = numbers s.cores t.cores _ _ h.1 k.1 (ap (drop 6) blocks.1) in
    let log = logs s.has_log t.has_log a b (ap (drop 4) cores.1) in
    (same s.block_size t.block_size s.cores t.cores s.has_log t.has_log blocks.0 cores.0 log.0, log.1)
