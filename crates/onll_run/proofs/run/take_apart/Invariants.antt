use Rattle.std.proofs.Common.{◌≡◌, ◌++◌, length, map}
use Rattle.std.specs.Prelude.{reverse}
use Rattle.onll_run.specs.Crew.{script_done, ends_done, pass_done}
use Rattle.onll_run.specs.Ran.{script_in, ends_in}
use Rattle.onll_run.proofs.run.take_apart.Given as goal

abbrev pub invariant-loop-worked : goal.invariant-loop-worked
invariant-loop-worked g l = record {
  scripts : map script_done l.all.items ++ reverse (map script_in l.threads.items) ≡ map script_done l.initial.all.items;
  ends : map ends_done l.all.items ++ reverse (map ends_in l.threads.items) ≡ map ends_done l.initial.all.items;
  passes : map pass_done l.all.items ++ reverse l.passes.items ≡ map pass_done l.initial.all.items;
}

abbrev pub decreases-loop-worked : goal.decreases-loop-worked
decreases-loop-worked g l = length l.all.items
