-- A mark wins over what its hash had up to its sequence.
use Rattle.std.proofs.Common.{◌≡◌, ℕ, ◌<◌, ◌≤◌, ◌==◌, nat_lt, inl, inr, Bool, true, false, if◌then◌else◌, Option, Some, None, List, [], ◌∷◌, ◌++◌, refl, sym, ap, subst, ◌∙◌, arith}
use Rattle.std.specs.Prelude.{Contains}
use Rattle.std.proofs.lemmas.Bool.{eq-eqb}
use Rattle.std.proofs.lemmas.Bool.Decides.{nat_tests}
use Rattle.std.proofs.lemmas.List.Elements.{Contains-append_cases, Contains-push_cases}
use Rattle.foyer_block_index.specs.declared.tombstone.Tombstone.{Tombstone as Mark}
use Rattle.foyer_core_model.specs.Record.{Address, Slot, Indexed}
use Rattle.foyer_block_recover.specs.Forgotten.{MarksForget, MarksForgetUnseen}
use Rattle.foyer_block_recover.specs.Opening.{Found, Stands, Marked, hash_of, sequence_of, first_or, winner, all_stand, all_marked, slot_of}
use Rattle.foyer_block_recover.specs.Recovery.{marks_of}

-- what wins over a sequence: a mark of it or a greater one, or an entry of a greater one
abbrev IsOver : ℕ → Option Found → Type 0
IsOver s None = ⊥
IsOver s (Some (Marked h t)) = s ≤ t
IsOver s (Some (Stands b e)) = s < e.sequence

over_if : (s : ℕ) (x : Found) → s < sequence_of x → IsOver s (Some x)
over_if s (Marked h t) lt = omega arith
over_if s (Stands b e) lt = lt

over_least : (s : ℕ) (x : Found) → IsOver s (Some x) → s ≤ sequence_of x
over_least s (Marked h t) le = le
over_least s (Stands b e) lt = omega arith

-- one more ahead
over_first : (s : ℕ) (x : Found) (w : Option Found) → IsOver s w → IsOver s (first_or x w)
over_first s x None over = absurd over
over_first s x (Some y) over = go (nat_lt (sequence_of y) (sequence_of x)) refl
  where
    go : (t : Bool) → nat_lt (sequence_of y) (sequence_of x) ≡ t → IsOver s (if t then Some x else Some y)
    go true e =
        let lt : sequence_of y < sequence_of x = grind (arith, nat_tests) in
        let le : s ≤ sequence_of y = over_least s y over in
        over_if s x (omega arith)
    go false e = over

over_more : (s h : ℕ) (x : Found) (xs : List Found) → IsOver s (winner h xs) → IsOver s (winner h (x ∷ xs))
over_more s h x xs over = go (hash_of x == h)
  where
    go : (t : Bool) → IsOver s (if t then first_or x (winner h xs) else winner h xs)
    go true = over_first s x (winner h xs) over
    go false = over

over_all : (s h : ℕ) (xs ys : List Found) → IsOver s (winner h ys) → IsOver s (winner h (xs ++ ys))
over_all s h [] ys over = over
over_all s h (x ∷ xs) ys over = over_more s h x (xs ++ ys) (over_all s h xs ys over)

-- of marks alone a mark wins, or nothing
abbrev IsMark : Option Found → Type 0
IsMark None = Unit {0}
IsMark (Some (Marked h t)) = Unit {0}
IsMark (Some (Stands b e)) = ⊥

mark_first : (h t : ℕ) (w : Option Found) → IsMark w → IsMark (first_or (Marked h t) w)
mark_first h t None is = tt
mark_first h t (Some y) is = go (nat_lt (sequence_of y) t)
  where
    go : (u : Bool) → IsMark (if u then Some (Marked h t) else Some y)
    go true = tt
    go false = is

marks_only : (h : ℕ) (ms : List (ℕ × ℕ)) → IsMark (winner h (all_marked ms))
marks_only h [] = tt
marks_only h (m ∷ ms) = go (m.0 == h) (marks_only h ms)
  where
    go : (u : Bool) → IsMark (winner h (all_marked ms)) → IsMark (if u then first_or (Marked m.0 m.1) (winner h (all_marked ms)) else winner h (all_marked ms))
    go true are = mark_first m.0 m.1 (winner h (all_marked ms)) are
    go false are = are

-- the mark itself, ahead of other marks
over_marks : (s h : ℕ) (w : Option Found) → IsMark w → IsOver s (first_or (Marked h s) w)
over_marks s h None is = omega arith
over_marks s h (Some (Stands b e)) is = absurd is
over_marks s h (Some (Marked k t)) is = go (nat_lt t s) refl
  where
    go : (u : Bool) → nat_lt t s ≡ u → IsOver s (if u then Some (Marked h s) else Some (Marked k t))
    go true e = omega arith
    go false e = let le : s ≤ t = grind (arith, nat_tests) in le

over_itself : (x m : Mark) (ms : List Mark) → x ≡ m → IsOver m.sequence (winner m.hash (all_marked (marks_of (x ∷ ms))))
over_itself x m ms is =
    subst (λ (y : Mark). IsOver m.sequence (winner m.hash (all_marked (marks_of (y ∷ ms))))) (sym is)
    (rw (eq-eqb m.hash m.hash refl) (over_marks m.sequence m.hash (winner m.hash (all_marked (marks_of ms))) (marks_only m.hash (marks_of ms))))

mark_over : (m : Mark) (ms : List Mark) → Contains ms m → IsOver m.sequence (winner m.hash (all_marked (marks_of ms)))
mark_over m [] has = absurd (let lt : has.0 < 0 = has.1 in omega arith)
mark_over m (x ∷ ms) has =
    elim (Contains-append_cases (x ∷ []) ms m has) [
      | inl one ↦ elim (Contains-push_cases [] x m one) [
        | inl none ↦ absurd (let lt : none.0 < 0 = none.1 in omega arith)
        | inr is ↦ over_itself x m ms is
      ]
      | inr rest ↦ over_more m.sequence m.hash (Marked x.hash x.sequence) (all_marked (marks_of ms)) (mark_over m ms rest)
    ]

abbrev sequence_in : Option Slot → ℕ
sequence_in (Some (Indexed a)) = a.sequence
sequence_in w = 0

index_over : (s : ℕ) (w : Option Found) (a : Address) → IsOver s w → slot_of w ≡ Some (Indexed a) → s < a.sequence
index_over s None a over is = absurd over
index_over s (Some (Marked h t)) a over is = absurd (cc)
index_over s (Some (Stands b e)) a over is = subst (λ n. s < n) (ap sequence_in is) over

pub marks_forget : MarksForget
marks_forget s n bytes mode failed marks mark o has opens a is =
    index_over mark.sequence (winner mark.hash (all_stand 0 n opens.keeps ++ all_marked (marks_of marks))) a
    (over_all mark.sequence mark.hash (all_stand 0 n opens.keeps) (all_marked (marks_of marks)) (mark_over mark marks has))
    (sym (opens.index mark.hash) ∙ is)

pub marks_forget_unseen : MarksForgetUnseen
marks_forget_unseen s n marks mark o has opens a is =
    index_over mark.sequence (winner mark.hash (all_stand 0 n opens.keeps ++ all_marked (marks_of marks))) a
    (over_all mark.sequence mark.hash (all_stand 0 n opens.keeps) (all_marked (marks_of marks)) (mark_over mark marks has))
    (sym (opens.index mark.hash) ∙ is)
