use Rattle.std.proofs.Common.{arith, ◌<◌, ◌≤◌}
use Rattle.onll_threads.specs.Acts.{seen_in}
use Rattle.onll_threads.proofs.Hearing.{heard_there, not_there}
use Rattle.onll_threads.proofs.seat.Seat.hear.Goals as goal

pub returns-then-place-clause-heard : goal.returns-then-place-clause-heard
returns-then-place-clause-heard g c =
    let there : c.args.place ≤ c.place.result = omega (arith, c.if-place.true) in
    record {
      reply = c.read-reply.result;
      read = c.read-reply.ensures.read;
      acts = c.read-reply.ensures.acts;
      heard_is = heard_there c.args.place c.place.result (seen_in c.read-reply.new.self.pass) c.read-reply.result c.place.ensures there;
    }

pub returns-else-place-clause-heard : goal.returns-else-place-clause-heard
returns-else-place-clause-heard g c =
    let above : c.place.result < c.args.place = omega (arith, c.if-place.false) in
    record {
      reply = c.read-reply.result;
      read = c.read-reply.ensures.read;
      acts = c.read-reply.ensures.acts;
      heard_is = not_there c.args.place c.place.result (seen_in c.read-reply.new.self.pass) c.read-reply.result c.place.ensures above;
    }
