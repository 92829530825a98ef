use Rattle.std.proofs.Common.{◌≡◌, max, drop}
use Rattle.onll_merge.specs.Merge.{contents_in, top_of}
use Rattle.onll_merge.proofs.logs.top_of_logs.Given as goal

abbrev pub invariant-loop-decoded : goal.invariant-loop-decoded
invariant-loop-decoded l = max l.top (top_of (contents_in (drop l.decoded-index l.logs))) ≡ top_of (contents_in l.logs)
