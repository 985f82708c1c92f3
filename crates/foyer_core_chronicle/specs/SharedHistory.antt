-- One history of events, what each thread has seen of it, and the rights that each has.
use Rattle.std.specs.Prelude.{◌≡◌, ℕ, ◌+◌, ◌<◌, ◌≤◌, Bool, true, false, List, [], ◌∷◌, ◌++◌}
use mathlib.Core.Option.{some}
use lib.ListN.{get_elem?}
use Rattle.foyer_core_chronicle.specs.Rights.{one, times, only, without, first_of, others_of, fresh}
use Rattle.foyer_core_chronicle.specs.declared.View.{View}

module _ {E : Type 0} where
  -- how many of these events make a right
  abbrev pub made : (E → Bool) → List E → ℕ
  made makes [] = 0
  made makes (e ∷ es) = one (makes e) + made makes es

  -- none of these events takes the right
  abbrev pub IsUntouched : (E → ℕ → Bool) → ℕ → List E → Type 0
  IsUntouched takes k [] = Unit {0}
  IsUntouched takes k (e ∷ es) = (takes e k ≡ false) × IsUntouched takes k es

  -- the history begins with what was seen, and since then no event took one of these rights
  abbrev pub Continues : (E → ℕ → Bool) → List E → List E → List ℕ → Type 0
  Continues takes log seen has = (since : List E) × (log ≡ seen ++ since) × ((k : ℕ) → 0 < times k has → IsUntouched takes k since)

  -- so it does what a view has seen, and what a witness had that was taken in
  abbrev pub Fits : (E → ℕ → Bool) → List E → View E → Type 0
  Fits takes log v = Continues takes log v.seen v.has × Continues takes log v.joined_seen v.joined_has

  abbrev pub rights_of : View E → List ℕ
  rights_of v = v.joined_has ++ v.has

  -- how often these views have a right
  abbrev pub held : ℕ → List (View E) → ℕ
  held k [] = 0
  held k (v ∷ vs) = times k (rights_of v) + held k vs

  -- There is one history, which is legal. At most one view has a right, and only one that was there from the start or was made.
  abbrev pub ChronicleInvariant : (List E → Type 0) → (E → ℕ → Bool) → (E → Bool) → ℕ → List (View E) → Type 0
  ChronicleInvariant holds takes makes base views =
      (log : List E) × holds log × ((k : ℕ) → held k views ≤ 1) × ((k : ℕ) → base + made makes log ≤ k → held k views ≡ 0)
      × ((by : ℕ) (v : View E) → get_elem? views by ≡ some v → Fits takes log v)

  -- a view of what was seen, with these rights
  abbrev pub viewer : List E → List ℕ → View E
  viewer seen has = record { seen = seen; has = has; joined_seen = []; joined_has = [] }

  -- one that has seen nothing
  abbrev pub newcomer : List ℕ → View E
  newcomer has = viewer [] has

  -- one view, and the other that it took in
  abbrev pub joined : View E → View E → View E
  joined v w = record { seen = v.seen; has = v.has; joined_seen = w.seen; joined_has = w.has }

  -- the same view with other rights of its own
  abbrev pub having : List ℕ → View E → View E
  having has v = record { seen = v.seen; has = has; joined_seen = v.joined_seen; joined_has = v.joined_has }

  -- with none, and the one to which all went over
  abbrev pub without_rights : View E → View E
  without_rights v = having [] v

  abbrev pub with_rights : View E → View E
  with_rights v = viewer v.seen v.has

  -- with this right alone, and the one to which all others went over
  abbrev pub with_only : ℕ → View E → View E
  with_only k v = having (only k v.has) v

  abbrev pub with_others : ℕ → View E → View E
  with_others k v = viewer v.seen (without k v.has)

  abbrev pub without_first : View E → View E
  without_first v = having (others_of v.has) v

  abbrev pub with_first : View E → View E
  with_first v = viewer v.seen (first_of v.has)

  -- A history goes on by an event: it was legal before and is, what came since the view took none of its rights, and the view
  -- afterwards has seen all, with the right that the event made in front of those that it had.
  pub record GoesOnBy (holds : List E → Type 0) (takes : E → ℕ → Bool) (makes : E → Bool) (base : ℕ) (v : View E) (e : E) (w : View E) : Type 0 where
    pub log : List E
    pub legal : holds log
    pub fits : Fits takes log v
    pub goes_on : holds (log ++ e ∷ [])
    pub is : w ≡ viewer (log ++ e ∷ []) (fresh (base + made makes log) (makes e) ++ rights_of v)

  -- A history goes on by an event of two views. Both have seen it then. The first keeps one right, and the second all others of both,
  -- and the right that the event made.
  pub record GoesOnWith (holds : List E → Type 0) (takes : E → ℕ → Bool) (makes : E → Bool) (base n : ℕ) (own mine : View E) (e : E) (owns has : View E) : Type 0 where
    pub log : List E
    pub legal : holds log
    pub fits : Continues takes log own.seen own.has
    pub kept : Continues takes log mine.seen mine.has
    pub goes_on : holds (log ++ e ∷ [])
    pub own_seen : owns.seen ≡ log ++ e ∷ []
    pub seen : has.seen ≡ log ++ e ∷ []
    pub right : 0 < times n own.has → 0 < times n owns.has
    pub rights : (k : ℕ) → (k ≡ n → ⊥) → 0 < times k mine.has → 0 < times k has.has
    pub fresh_right : makes e ≡ true → (base + made makes log ≡ n → ⊥) → 0 < times (base + made makes log) has.has

  -- the same without an event
  pub record SeesAll (holds : List E → Type 0) (takes : E → ℕ → Bool) (v w : View E) : Type 0 where
    pub log : List E
    pub legal : holds log
    pub fits : Fits takes log v
    pub is : w ≡ viewer log (rights_of v)

  -- whatever came since, the event may come
  abbrev pub MayCome : (List E → Type 0) → (E → ℕ → Bool) → View E → E → Type 0
  MayCome holds takes v e = (log : List E) → holds log → Fits takes log v → holds (log ++ e ∷ [])

  -- the view has the rights that the event takes
  abbrev pub HasRights : (E → ℕ → Bool) → View E → E → Type 0
  HasRights takes v e = (k : ℕ) → takes e k ≡ true → 0 < times k (rights_of v)
