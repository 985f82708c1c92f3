use Rattle.std.proofs.Common.{ap, sym, subst, ◌∙◌}
use Rattle.std.specs.Io.KnownBytes.{Keeps, prepend_known}
use Rattle.foyer_frames.specs.Request.{request_at}
use Rattle.foyer_frames.specs.Stream.{buffered, last_key, last_value, limits_of, unread}
use Rattle.foyer_frames.proofs.Streams.{found_request, found_refused}
use Rattle.foyer_frames.proofs.frames.Frames.next.Goals as goal

pub returns-in-Request-clause-found : goal.returns-in-Request-clause-found
returns-in-Request-clause-found g c =
    let s = c.loop.self in
    let t = c.take.new.self in
    let kept = subst (λ i. Keeps (unread g.R.Read.remaining c.args.self.now) (prepend_known (buffered s) (g.R.Read.remaining i))) (sym (ap (λ f. f.input) c.take.ensures.kept)) c.loop.invariant.kept in
    found_request (limits_of c.args.self.now) (unread g.R.Read.remaining c.args.self.now) (g.R.Read.remaining t.input) (buffered s) (buffered t) c.in-Request.head (last_key t) (last_value t) kept
    (ap (λ l. request_at l (buffered s)) (sym c.loop.invariant.limits) ∙ c.in-Request.ensures.taken)

pub returns-in-Refused-clause-found : goal.returns-in-Refused-clause-found
returns-in-Refused-clause-found g c =
    let s = c.loop.self in
    let t = c.take.new.self in
    let e = c.in-Refused.ensures.taken in
    found_refused (limits_of c.args.self.now) (unread g.R.Read.remaining c.args.self.now) (g.R.Read.remaining s.input) (unread g.R.Read.remaining t) (buffered s) c.in-Refused.fault (last_key t) (last_value t) c.loop.invariant.kept
    (ap (λ l. request_at l (buffered s)) (sym c.loop.invariant.limits) ∙ e.0) e.1
