use Rattle.tests_shared_calls.proofs.Made.{tied_last}
use Rattle.tests_shared_calls.proofs.Tied.{last_again}
use Rattle.tests_shared_calls.proofs.threads.read_last.Goals as goal

pub read-answer-requires-clause-tied : goal.read-answer-requires-clause-tied
read-answer-requires-clause-tied g c κs within =
    tied_last g.O.Object.means _ c.args.onll.now c.args.passes.now.items c.pop.new.self.items c.in-Some.pass c.requires.tied.tied c.in-Some.ensures.items

pub returns : goal.returns
returns g c = record {
  tied = last_again g.O.Object.means _ c.args.onll.now c.args.passes.now.items c.push_reserved.new.self.items c.pop.new.self.items c.in-Some.pass c.read-answer.new.pass
      c.requires.tied c.in-Some.ensures.items c.push_reserved.ensures.items c.read-answer.ensures.tied c.read-answer.ensures.read.same.thread;
}
