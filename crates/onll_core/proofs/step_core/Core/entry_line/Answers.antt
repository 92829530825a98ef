use Rattle.std.proofs.Common.{◌≡◌, ap, length, arith}
use Rattle.onll_core.proofs.Rows.{entry_format, entry_threads, entry_fits, entry_before, entry_number, entry_told}
use Rattle.onll_core.proofs.Closings.{line_fits_here}
use Rattle.onll_core.proofs.step_core.Core.entry_line.Goals as goal

pub window-nodes-requires-clause-upward : goal.window-nodes-requires-clause-upward
window-nodes-requires-clause-upward g c = let h = (line_fits_here g.O.Object.means _ _ c.self.inside.locals.items _ c.self.invariant c.args.self.now c.self.view_is c.args.thread c.index-worker.result.now c.requires.there c.index-worker.ensures c.args.place c.args.below c.args.line c.requires.next).lower in omega arith

pub window-nodes-requires-clause-within : goal.window-nodes-requires-clause-within
window-nodes-requires-clause-within g c = let h = (line_fits_here g.O.Object.means _ _ c.self.inside.locals.items _ c.self.invariant c.args.self.now c.self.view_is c.args.thread c.index-worker.result.now c.requires.there c.index-worker.ensures c.args.place c.args.below c.args.line c.requires.next).in_trace in let e : length c.deref.result.now ≡ length c.self.inside.trace.items = ap length c.deref.ensures.value in omega arith

pub line_of_entry-requires-clause-format : goal.line_of_entry-requires-clause-format
line_of_entry-requires-clause-format g c = entry_format g.O.Object.means _ _ c.self.inside.locals.items _ c.self.invariant c.args.self.now c.self.view_is c.args.thread c.index-worker.result.now c.requires.there c.index-worker.ensures c.args.place c.args.below c.args.line c.requires.next c.head.result c.head.ensures

pub line_of_entry-requires-clause-threads : goal.line_of_entry-requires-clause-threads
line_of_entry-requires-clause-threads g c = entry_threads g.O.Object.means _ _ c.self.inside.locals.items _ c.self.invariant c.args.self.now c.self.view_is c.args.thread c.index-worker.result.now c.requires.there c.index-worker.ensures c.args.place c.args.below c.args.line c.requires.next c.head.result c.head.ensures

pub line_of_entry-requires-clause-fits : goal.line_of_entry-requires-clause-fits
line_of_entry-requires-clause-fits g c = entry_fits g.O.Object.means _ _ c.self.inside.locals.items _ c.self.invariant c.args.self.now c.self.view_is c.args.thread c.index-worker.result.now c.requires.there c.index-worker.ensures c.args.place c.args.below c.args.line c.requires.next c.head.result c.head.ensures c.window-nodes.result.now (rw c.deref.ensures.value at c.window-nodes.ensures)

pub line_of_entry-requires-clause-before : goal.line_of_entry-requires-clause-before
line_of_entry-requires-clause-before g c = let h = entry_before g.O.Object.means _ _ c.self.inside.locals.items _ c.self.invariant c.args.self.now c.self.view_is c.args.thread c.index-worker.result.now c.requires.there c.index-worker.ensures c.args.place c.args.below c.args.line c.requires.next in let e = c.logged.ensures in omega arith

pub line_of_entry-requires-clause-line : goal.line_of_entry-requires-clause-line
line_of_entry-requires-clause-line g c = entry_number g.O.Object.means _ _ c.self.inside.locals.items _ c.self.invariant c.args.self.now c.self.view_is c.args.thread c.index-worker.result.now c.requires.there c.index-worker.ensures c.args.place c.args.below c.args.line c.requires.next c.window-nodes.result.now (rw c.deref.ensures.value at c.window-nodes.ensures)

pub returns : goal.returns
returns g c = entry_told g.O.Object.means _ _ c.self.inside.locals.items _ c.self.invariant c.args.self.now c.self.view_is c.args.thread c.index-worker.result.now c.requires.there c.index-worker.ensures c.args.place c.args.below c.args.line c.requires.next c.line_of_entry.result.w c.head.result c.head.ensures c.logged.result c.logged.ensures c.window-nodes.result.now (rw c.deref.ensures.value at c.window-nodes.ensures) c.line_of_entry.ensures
