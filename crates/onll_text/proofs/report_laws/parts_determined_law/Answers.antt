use Rattle.onll_words.proofs.Joined.{text_determined}
use Rattle.onll_text.proofs.Determined.{calls_determined, nodes_determined}
use Rattle.onll_text.proofs.report_laws.parts_determined_law.Goals as goal

pub returns-clause-texts : goal.returns-clause-texts
returns-clause-texts g c = text_determined

pub returns-clause-calls : goal.returns-clause-calls
returns-clause-calls g c = λ thread script ends others lines more e o. calls_determined g.O.Texted.wording thread 0 script ends others lines more e.few o.few e.reads o.reads

pub returns-clause-nodes : goal.returns-clause-nodes
returns-clause-nodes g c = nodes_determined g.O.Object.means g.O.Texted.wording 0
