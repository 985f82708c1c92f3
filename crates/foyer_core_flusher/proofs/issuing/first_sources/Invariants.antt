use Rattle.std.proofs.Common.{◌≡◌, ◌+◌, ◌-◌, ◌≤◌, ◌++◌, drop, vec_len, vec_capacity}
use Rattle.foyer_core_flusher.specs.Issued.{padded}
use Rattle.foyer_core_flusher.proofs.issuing.first_sources.Given as goal

-- what is left comes behind, and finds room
abbrev pub invariant-each_place : goal.invariant-each_place
invariant-each_place g l = record {
  room : vec_len l.first + (l.count - l.place) ≤ vec_capacity l.first;
  first : l.first.items ++ padded (l.count - l.place) (drop l.place l.sources.items) ≡ padded l.count l.sources.items;
}
