use Rattle.std.proofs.Common.{rules, map, ap, ◌∙◌}
use Rattle.std.proofs.lemmas.List.{map-append}
use Rattle.onll_run.specs.Crew.{script_done, ends_done, pass_done}
use Rattle.onll_run.specs.Ran.{script_in, ends_in}
use Rattle.onll_shared.proofs.Taken.{back_one, back_all}
use Rattle.onll_run.proofs.run.take_apart.Goals as goal

pub loop-worked-preserved : goal.loop-worked-preserved
loop-worked-preserved g c = record {
  scripts = back_one script_done _ _ _ _ _ _ c.loop-worked.invariant.scripts c.in-Some.ensures.items (ap (map script_in) c.in_ok-push.ensures.items ∙ map-append script_in c.loop-worked.threads.items _);
  ends = back_one ends_done _ _ _ _ _ _ c.loop-worked.invariant.ends c.in-Some.ensures.items (ap (map ends_in) c.in_ok-push.ensures.items ∙ map-append ends_in c.loop-worked.threads.items _);
  passes = back_one pass_done _ _ _ _ _ _ c.loop-worked.invariant.passes c.in-Some.ensures.items c.in_ok-push-2.ensures.items;
}

pub returns-clause-scripts : goal.returns-clause-scripts
returns-clause-scripts g c = back_all script_done script_in c.loop-worked.all.items c.loop-worked.threads.items c.reverse.new.self.items (map script_done c.args.all.items) c.loop-worked.invariant.scripts (search rules) c.reverse.ensures.items

pub returns-clause-ends : goal.returns-clause-ends
returns-clause-ends g c = back_all ends_done ends_in c.loop-worked.all.items c.loop-worked.threads.items c.reverse.new.self.items (map ends_done c.args.all.items) c.loop-worked.invariant.ends (search rules) c.reverse.ensures.items
