use Rattle.std.proofs.Common.{◌∙◌, sym, ap, refl, Some, arith}
use Rattle.onll_locked.proofs.Made.{reads_now}
use Rattle.onll_locked.proofs.Ready.{end_ready, end_others, said_others, refused}
use Rattle.onll_locked.proofs.locked.Locked.do_next.Goals as goal

pub returns-in-Some-Ask-clause-ready : goal.returns-in-Some-Ask-clause-ready
returns-in-Some-Ask-clause-ready g c = end_ready c.args.self.now c.args.thread c.index-progress.result.now (reads_now g.O.Object.means _ _ _ _ c.self.invariant c.args.self.now c.self.view_is c.args.thread c.index-progress.result.now (let f = c.device.ensures.holds.fits.thread in let a = c.requires.thread in let d = c.requires.threads in omega arith) c.index-progress.ensures) _ _ c.read.new.self (sym c.next_call.ensures ∙ (c.in-Some-Ask.is ∙ ap Some c.in-Some-Ask.field-0-is)) refl refl c.read.ensures c.args.log.now _ c.requires

pub returns-in-Some-Ask-clause-others : goal.returns-in-Some-Ask-clause-others
returns-in-Some-Ask-clause-others g c = end_others c.args.self.now c.args.thread c.index-progress.result.now (reads_now g.O.Object.means _ _ _ _ c.self.invariant c.args.self.now c.self.view_is c.args.thread c.index-progress.result.now (let f = c.device.ensures.holds.fits.thread in let a = c.requires.thread in let d = c.requires.threads in omega arith) c.index-progress.ensures) _ c.read.new.self c.read.ensures

pub returns-in-Some-clause-done : goal.returns-in-Some-clause-done
returns-in-Some-clause-done g c = refused c.args.self.now c.args.thread c.index-progress.result.now (reads_now g.O.Object.means _ _ _ _ c.self.invariant c.args.self.now c.self.view_is c.args.thread c.index-progress.result.now (let f = c.device.ensures.holds.fits.thread in let a = c.requires.thread in let d = c.requires.threads in omega arith) c.index-progress.ensures) g.O.Object.means c.refuse.new.self c.args.log.now c.args.log.now _ _ c.in-Some-Update.op c.in-Some.place (sym c.next_call.ensures ∙ (c.in-Some-Update.is ∙ ap Some c.in-Some-Update.field-0-is)) (sym c.failed-failed.ensures ∙ c.in-Some.is) refl c.refuse.ensures

pub returns-in-Some-clause-ready : goal.returns-in-Some-clause-ready
returns-in-Some-clause-ready g c = end_ready c.args.self.now c.args.thread c.index-progress.result.now (reads_now g.O.Object.means _ _ _ _ c.self.invariant c.args.self.now c.self.view_is c.args.thread c.index-progress.result.now (let f = c.device.ensures.holds.fits.thread in let a = c.requires.thread in let d = c.requires.threads in omega arith) c.index-progress.ensures) _ _ c.refuse.new.self (sym c.next_call.ensures ∙ (c.in-Some-Update.is ∙ ap Some c.in-Some-Update.field-0-is)) refl refl c.refuse.ensures c.args.log.now _ c.requires

pub returns-in-Some-clause-others : goal.returns-in-Some-clause-others
returns-in-Some-clause-others g c = end_others c.args.self.now c.args.thread c.index-progress.result.now (reads_now g.O.Object.means _ _ _ _ c.self.invariant c.args.self.now c.self.view_is c.args.thread c.index-progress.result.now (let f = c.device.ensures.holds.fits.thread in let a = c.requires.thread in let d = c.requires.threads in omega arith) c.index-progress.ensures) _ c.refuse.new.self c.refuse.ensures

pub returns-in-None-failed-clause-others : goal.returns-in-None-failed-clause-others
returns-in-None-failed-clause-others g c = said_others c.args.self.now c.args.thread c.index-progress.result.now (reads_now g.O.Object.means _ _ _ _ c.self.invariant c.args.self.now c.self.view_is c.args.thread c.index-progress.result.now (let f = c.device.ensures.holds.fits.thread in let a = c.requires.thread in let d = c.requires.threads in omega arith) c.index-progress.ensures) g.O.Object.means c.update.new.self _ _ _ _ _ c.update.ensures.done
