use Rattle.onll_threads.proofs.Acting.{act_update, updated_seen}
use Rattle.onll_threads.proofs.acts.update_on.Goals as goal

pub returns-clause-updated : goal.returns-clause-updated
returns-clause-updated g c =
    updated_seen g.O.Object.means g.P.Pmem.means c.args.at.now.onll c.args.op c.args.pass.now c.update.new.pass c.update.result
    c.reply_of.result c.reply_of.ensures c.update.ensures.updated

pub returns-clause-acts : goal.returns-clause-acts
returns-clause-acts g c first before befores h =
    act_update g.O.Object.means g.P.Pmem.means c.args.at.now.onll before befores first c.args.pass.now c.update.new.pass h
    c.update.ensures.tied c.args.op c.reply_of.result (updated_seen g.O.Object.means g.P.Pmem.means c.args.at.now.onll c.args.op
    c.args.pass.now c.update.new.pass c.update.result c.reply_of.result c.reply_of.ensures c.update.ensures.updated)
