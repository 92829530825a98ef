use Rattle.std.proofs.Common.{◌≡◌, drop}
use Rattle.onll_serve.specs.Serving.{any_spent}
use Rattle.onll_serve.proofs.service.any_spent.Given as goal

-- the passes that are left make what all make
abbrev pub invariant-loop-pass : goal.invariant-loop-pass
invariant-loop-pass g l = any_spent (drop l.pass-index l.passes) ≡ any_spent l.passes
