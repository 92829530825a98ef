use Rattle.std.proofs.Common.{length}
use Rattle.onll_core.proofs.Ready.{entries_few}
use Rattle.onll_core.proofs.ReachedCores.{reached_consistent, reached_report, reached_order, reached_counts, reached_returns}
use Rattle.onll_core.proofs.Recovered.{reached_recovers}
use Rattle.onll_core.proofs.step_core.Core.lawful.Goals as goal

pub returns-clause-legal : goal.returns-clause-legal
returns-clause-legal g c = reached_report g.O.Object.means (length c.args.self.now.threads) c.args.self.now c.reached.ensures

pub returns-clause-in_time : goal.returns-clause-in_time
returns-clause-in_time g c = reached_order g.O.Object.means (length c.args.self.now.threads) c.args.self.now c.reached.ensures

pub returns-clause-fences : goal.returns-clause-fences
returns-clause-fences g c = reached_counts g.O.Object.means (length c.args.self.now.threads) c.args.self.now c.reached.ensures

pub returns-clause-entries : goal.returns-clause-entries
returns-clause-entries g c = entries_few (length c.args.self.now.threads) c.args.self.now (reached_consistent g.O.Object.means (length c.args.self.now.threads) c.args.self.now c.reached.ensures)

pub returns-clause-returns : goal.returns-clause-returns
returns-clause-returns g c = reached_returns g.O.Object.means (length c.args.self.now.threads) c.args.self.now c.reached.ensures

pub returns-clause-crash : goal.returns-clause-crash
returns-clause-crash g c = λ images left. reached_recovers g.O.Object.means (length c.args.self.now.threads) c.args.self.now images c.reached.ensures left
