-- Blocks' bytes after writes, and records among them.
use Rattle.std.proofs.Common.{◌≡◌, ℕ, zero, suc, ◌+◌, ◌-◌, ◌<◌, ◌≤◌, List, [], ◌∷◌, ◌++◌, map, length, drop, slice_index, inl, inr, refl, sym, ap, ◌∙◌, arith}
use Rattle.std.proofs.lemmas.List.{length-drop}
use Rattle.foyer_format_layout.proofs.PageLaws.{page_up-holds}
use Rattle.foyer_format_layout.specs.Page.{page_up}
use Rattle.foyer_format_layout.proofs.BlockBytesLaws.{read_same, take_read}
use Rattle.foyer_format_layout.specs.Position.{tail_of, MayWrite}
use Rattle.foyer_core_model.specs.Position.{Position}
use Rattle.foyer_core_model.specs.Layout.{AllStand, AllOutside, AllBehind}
use Rattle.foyer_core_model.specs.Receive.{bytes_taken}
use Rattle.foyer_core_model.specs.Record.{Record}
use Rattle.foyer_core_layout.specs.Splits.{laid_from, AreBytesOf}

index-drop : (n : ℕ) (xs : List ℕ) (i : ℕ) → slice_index (drop n xs) i ≡ slice_index xs (n + i)
index-drop zero xs i = let e : 0 + i ≡ i = omega arith in ap (slice_index xs) (sym e)
index-drop (suc n) [] i = refl
index-drop (suc n) (x ∷ xs) i =
    let e : suc n + i ≡ suc (n + i) = omega arith in
    index-drop n xs i ∙ ap (slice_index (x ∷ xs)) (sym e)

module _ {C : Type 0} where
  pub stand_same : (pages : ℕ → ℕ) (P : ℕ → Type 0) (g k : ℕ → ℕ) (rs : List (ℕ × Record C)) → ((n : ℕ) → n ≤ pages n)
      → AllOutside pages P rs → ((o : ℕ) → (P o → ⊥) → k o ≡ g o) → AllStand g rs → AllStand k rs
  stand_same pages P g k [] above out same stand = tt
  stand_same pages P g k (r ∷ rs) above out same stand = (
    read_same k g r.0 (length (r.1).bytes) (λ i l m. let a : length (r.1).bytes ≤ pages (length (r.1).bytes) = above (length (r.1).bytes) in same i (out.0 i l (omega arith))) ∙ stand.0,
    stand_same pages P g k rs above out.1 same stand.1,
  )

  pub outside_less : (pages : ℕ → ℕ) (P Q : ℕ → Type 0) (rs : List (ℕ × Record C)) → ((o : ℕ) → Q o → P o) → AllOutside pages P rs → AllOutside pages Q rs
  outside_less pages P Q [] less out = tt
  outside_less pages P Q (r ∷ rs) less out = (λ o l m q. out.0 o l m (less o q), outside_less pages P Q rs less out.1)

  pub outside_pages : (pages : ℕ → ℕ) (P : ℕ → Type 0) (rs : List (ℕ × Record C)) → ((n : ℕ) → pages n ≡ page_up n) → AllOutside page_up P rs → AllOutside pages P rs
  outside_pages pages P [] same out = tt
  outside_pages pages P (r ∷ rs) same out =
      (λ o l m. out.0 o l (let e : pages (length (r.1).bytes) ≡ page_up (length (r.1).bytes) = same (length (r.1).bytes) in omega arith), outside_pages pages P rs same out.1)

  pub stand_join : (g : ℕ → ℕ) (ps qs : List (ℕ × Record C)) → AllStand g ps → AllStand g qs → AllStand g (ps ++ qs)
  stand_join g [] qs a b = b
  stand_join g (p ∷ ps) qs a b = (a.0, stand_join g ps qs a.1 b)

  pub outside_join : (pages : ℕ → ℕ) (P : ℕ → Type 0) (ps qs : List (ℕ × Record C)) → AllOutside pages P ps → AllOutside pages P qs → AllOutside pages P (ps ++ qs)
  outside_join pages P [] qs a b = b
  outside_join pages P (p ∷ ps) qs a b = (a.0, outside_join pages P ps qs a.1 b)

  pub behind_join : (n : ℕ) (ps qs : List (ℕ × Record C)) → AllBehind n ps → AllBehind n qs → AllBehind n (ps ++ qs)
  behind_join n [] qs a b = b
  behind_join n (p ∷ ps) qs a b = (a.0, behind_join n ps qs a.1 b)

  -- records are stored if their bytes are
  pub bytes_stand : (g : ℕ → ℕ) (n : ℕ) (D : List ℕ) (rs : List (Record C)) → ((i : ℕ) → i < length D → g (n + i) ≡ slice_index D i)
      → AreBytesOf D rs → AllStand g (laid_from n rs)
  bytes_stand g n D [] there are = tt
  bytes_stand g n D (r ∷ rs) there are =
      let above : length r.bytes ≤ page_up (length r.bytes) = page_up-holds (length r.bytes) in
      let room : page_up (length r.bytes) ≤ length D = are.1 in (
        sym (take_read D g n (length r.bytes) (omega arith) (λ i lt. sym (there i lt))) ∙ are.0,
        bytes_stand g (n + page_up (length r.bytes)) (drop (page_up (length r.bytes)) D) rs
            (λ i lt. let e : n + page_up (length r.bytes) + i ≡ n + (page_up (length r.bytes) + i) = omega arith in
            let len : length (drop (page_up (length r.bytes)) D) ≡ length D - page_up (length r.bytes) = length-drop (page_up (length r.bytes)) D in
            ap g e ∙ there (page_up (length r.bytes) + i) (omega arith) ∙ sym (index-drop (page_up (length r.bytes)) D i))
            are.2,
      )

  -- and how many these are
  pub bytes_len : (D : List ℕ) (rs : List (Record C)) → AreBytesOf D rs → length D ≡ bytes_taken page_up rs
  bytes_len D [] are = ap length are
  bytes_len D (r ∷ rs) are =
      let len : length (drop (page_up (length r.bytes)) D) ≡ length D - page_up (length r.bytes) = length-drop (page_up (length r.bytes)) D in
      let rest : length (drop (page_up (length r.bytes)) D) ≡ bytes_taken page_up rs = bytes_len (drop (page_up (length r.bytes)) D) rs are.2 in
      let room : page_up (length r.bytes) ≤ length D = are.1 in
      omega arith

  -- between the present index and the tail no later write falls
  pub laid_outside_all : (index : ℕ) (e : Position) (n : ℕ) (rs : List (Record C)) → e.blob + index ≤ n → n + bytes_taken page_up rs ≤ tail_of e
      → AllOutside page_up (MayWrite index e) (laid_from n rs)
  laid_outside_all index e n [] behind within = tt
  laid_outside_all index e n (r ∷ rs) behind within = (
    (λ o from to may. elim may [ inl late ↦ omega arith | inr early ↦ let lt : o < e.blob + index = early.1 in omega arith ]),
    laid_outside_all index e (n + page_up (length r.bytes)) rs (omega arith) (omega arith),
  )

  pub laid_behind : (low n : ℕ) (rs : List (Record C)) → low ≤ n → AllBehind low (laid_from n rs)
  laid_behind low n [] le = tt
  laid_behind low n (r ∷ rs) le = (le, laid_behind low (n + page_up (length r.bytes)) rs (omega arith))

  pub laid_records : (n : ℕ) (rs : List (Record C)) → map (λ p. p.1) (laid_from n rs) ≡ rs
  laid_records n [] = refl
  laid_records n (r ∷ rs) = ap (λ xs. r ∷ xs) (laid_records (n + page_up (length r.bytes)) rs)
