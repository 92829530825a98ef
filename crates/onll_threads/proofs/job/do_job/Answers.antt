use Rattle.std.proofs.Common.{rules, refl}
use Rattle.onll_threads.proofs.job.do_job.Goals as goal

pub returns : goal.returns
returns g c = record {
  before = c.in-Some.pass;
  before_is = search rules;
  after = c.do_work-pass.result.0;
  after_is = refl;
  answer = c.do_work-pass.result.1;
  answer_is = refl;
  done = c.do_work-pass.ensures;
}
