use Rattle.std.proofs.Common.{rules, suc, refl, arith}
use Rattle.onll_standby.proofs.holdings.Holdings.new.Goals as goal

pub returns-clause-keeps : goal.returns-clause-keeps
returns-clause-keeps g c threads room = record {
  logs = search rules;
  places = λ q. c.requires (suc q);
  room = omega arith;
  held = refl;
  applied = search rules;
  clean = search rules;
}
