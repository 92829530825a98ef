use Rattle.onll_threads.proofs.Acting.{act_read, read_seen}
use Rattle.onll_threads.proofs.acts.read_on.Goals as goal

pub returns-clause-acts : goal.returns-clause-acts
returns-clause-acts g c first before befores h =
    act_read g.O.Object.means g.P.Pmem.means c.args.at.now.onll before befores first c.args.pass.now c.read.new.pass h
    c.read.ensures.tied c.args.query c.read.result.reply (read_seen g.O.Object.means g.P.Pmem.means c.args.at.now.onll
    c.args.query c.args.pass.now c.read.new.pass c.read.result.place c.read.result.front c.read.result.reply c.read.ensures.read)

pub returns-clause-read : goal.returns-clause-read
returns-clause-read g c = read_seen g.O.Object.means g.P.Pmem.means c.args.at.now.onll
    c.args.query c.args.pass.now c.read.new.pass c.read.result.place c.read.result.front c.read.result.reply c.read.ensures.read
