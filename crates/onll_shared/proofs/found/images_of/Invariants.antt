use Rattle.std.proofs.Common.{◌≡◌, map, take, Some}
use Rattle.std.specs.List.{AllByRecursion}
use Rattle.onll_log.specs.Encoding.{FitEntries}
use Rattle.onll_log.specs.Grammar.{content_of}
use Rattle.onll_log.specs.Log.{LogState}
use Rattle.onll_shared.specs.Found.{content_held}
use Rattle.onll_shared.proofs.found.images_of.Given as goal

abbrev pub invariant-loop-log : goal.invariant-loop-log
invariant-loop-log g l = record {
  contents : map content_of l.images.items ≡ map Some (map content_held (take l.log-index l.logs));
  fit : AllByRecursion (λ (log : LogState _). FitEntries log.head.threads log.entries) (take l.log-index l.logs);
}
