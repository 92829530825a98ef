use Rattle.std.proofs.Common.{◌≡◌, length, map, take, Some}
use Rattle.std.specs.List.{All, AllByRecursion}
use Rattle.onll_log.specs.Grammar.{content_of}
use Rattle.onll_log.specs.Log.{LogState}
use Rattle.onll_run.specs.Left.{content_in}
use Rattle.onll_run.specs.Ended.{log_left}
use Rattle.onll_outside.specs.LineFiles.{IsWholeLine}
use Rattle.onll_task.proofs.recovered.images_of.Given as goal

abbrev pub invariant-loop-log : goal.invariant-loop-log
invariant-loop-log g l = record {
  contents : map content_of l.images.items ≡ map (λ (log : LogState _). Some (content_in (log_left g.P.Pmem.means log))) (take l.log-index l.logs);
  count : length l.images.items ≡ l.log-index;
  whole : All (λ (log : LogState _). AllByRecursion IsWholeLine (g.P.Pmem.means log.device).read) (take l.log-index l.logs);
}
