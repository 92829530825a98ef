use Rattle.onll_jobs.proofs.program.answer_to.Goals as goal

pub returns-in-OverInit : goal.returns-in-OverInit
returns-in-OverInit g c = rw (c.in-Some.ensures.form, c.in-OverInit.is) c.answer.ensures

pub returns-in-Show : goal.returns-in-Show
returns-in-Show g c = rw (c.in-Some.ensures.form, c.in-Show.is) c.answer-in-Show.ensures

pub returns-in-Make : goal.returns-in-Make
returns-in-Make g c = rw (c.in-Some.ensures.form, c.in-Make.is) (c.answer-in-Make.ensures (g.S.Store.seen c.args.store.now))

pub returns-in-Areas : goal.returns-in-Areas
returns-in-Areas g c = rw (c.in-Some.ensures.form, c.in-Areas.is) c.make_areas.ensures

pub returns-in-Restore : goal.returns-in-Restore
returns-in-Restore g c = rw (c.in-Some.ensures.form, c.in-Restore.is) c.restore.ensures

pub returns-in-Checkpoint : goal.returns-in-Checkpoint
returns-in-Checkpoint g c = rw (c.in-Some.ensures.form, c.in-Checkpoint.is) c.checkpoint.ensures

pub returns-in-Ship : goal.returns-in-Ship
returns-in-Ship g c = rw (c.in-Some.ensures.form, c.in-Ship.is) c.ship.ensures
