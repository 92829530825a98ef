use Rattle.std.proofs.Common.{map}
use Rattle.onll_merge.specs.Recovered.{recovered_from, recovered_in}
use Rattle.onll_start.proofs.Answered.{answered, left_answered}
use Rattle.onll_start.proofs.found.find.Goals as goal

pub returns-clause-found : goal.returns-clause-found
returns-clause-found g c = answered g.O.Object.means c.args.heads.now recovered_in (map g.I.LogImage.lines_of c.args.images.now) c.first_old.result c.first_old.ensures c.recover_state-recovered.result c.recover_state-recovered.ensures.recovered c.answer_of.result c.answer_of.ensures

pub returns-clause-left : goal.returns-clause-left
returns-clause-left g c =
    let recovered = c.recover_state-recovered.ensures in
    left_answered g.O.Object.means (recovered_from c.args.heads.now (map g.I.LogImage.lines_of c.args.images.now)) c.args.object.now c.recover_state-recovered.new.object recovered_in c.first_old.result c.recover_state-recovered.result recovered.recovered recovered.rows recovered.state recovered.left c.answer_of.result c.answer_of.ensures
