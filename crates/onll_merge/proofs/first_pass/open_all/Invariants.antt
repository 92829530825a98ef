use Rattle.std.proofs.Common.{◌≡◌, drop, length, map}
use Rattle.std.specs.List.{AllByRecursion}
use Rattle.onll_merge.specs.Recovered.{contents_from}
use Rattle.onll_merge.specs.Standing.{contents_under}
use Rattle.onll_merge.proofs.Decoding.{onto}
use Rattle.onll_merge.proofs.first_pass.open_all.Given as goal

-- what the images so far hold and what those that are left hold is what all images hold
abbrev pub invariant-loop-log : goal.invariant-loop-log
invariant-loop-log g l = record {
  all : onto (contents_under l.cursors.items) (contents_from l.log (map g.I.LogImage.lines_of (drop l.log l.images)))
      ≡ contents_from 0 (map g.I.LogImage.lines_of l.images);
  first : AllByRecursion (λ c. c.passed ≡ 0) l.cursors.items;
  count : length l.cursors.items ≡ l.log;
}
