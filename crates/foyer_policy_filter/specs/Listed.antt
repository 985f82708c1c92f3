-- The conditions of a filter.
use Rattle.std.specs.Prelude.{List, [], Option, Some, None}
use Rattle.std.specs.declared.vec.Vec.{Vec}

-- the list's conditions, or none if there is no list
abbrev pub listed : {C A : Type 0} → Option (Vec C A) → List C
listed None = []
listed (Some conditions) = conditions.items
