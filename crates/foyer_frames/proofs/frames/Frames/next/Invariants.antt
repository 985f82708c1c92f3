use Rattle.std.proofs.Common.{◌≡◌, ℕ, List, ◌++◌}
use Rattle.std.specs.Io.KnownBytes.{Keeps}
use Rattle.foyer_frames.specs.Stream.{buffered, limits_of, unread}
use Rattle.foyer_frames.proofs.frames.Frames.next.Given as goal

abbrev pub invariant-loop : goal.invariant-loop
invariant-loop g l = record {
  kept : Keeps (unread g.R.Read.remaining l.fn.self) (unread g.R.Read.remaining l.self);
  front : (more : List ℕ) × (buffered l.self ≡ buffered l.fn.self ++ more);
  limits : limits_of l.self ≡ limits_of l.fn.self;
}
