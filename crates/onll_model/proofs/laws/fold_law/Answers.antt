use Rattle.onll_model.proofs.laws.fold_law.Goals as goal
use Rattle.onll_model.proofs.FoldLegal.{fold_legal, fold_answered, fold_reaches}

pub returns-clause-legal : goal.returns-clause-legal
returns-clause-legal g c = fold_legal g.O.Object.means

pub returns-clause-answered : goal.returns-clause-answered
returns-clause-answered g c = λ s script. fold_answered g.O.Object.means s 0 script

pub returns-clause-state : goal.returns-clause-state
returns-clause-state g c = λ s script. fold_reaches g.O.Object.means s 0 script
