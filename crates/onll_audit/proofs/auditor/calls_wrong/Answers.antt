use Rattle.std.proofs.Common.{rules, ◌≡◌, Some, slice_get, subst, ◌∙◌, ◌++◌, ◌≤◌, sym, ap, List, length, min, map}
use Rattle.std.proofs.lemmas.List.{append-nil}
use Rattle.std.specs.declared.vec.Vec.{Vec}
use Rattle.std.specs.declared.alloc.Global.{Global}
use Rattle.onll_words.specs.declared.line.OpRow.{OpRow}
use Rattle.onll_audit.specs.declared.groups.CallLine.{CallLine}
use Rattle.onll_audit.proofs.Calling.{calls_end}
use Rattle.onll_audit.proofs.Rows.{rows_end}
use Rattle.onll_audit.proofs.auditor.calls_wrong.Goals as goal

pub returns-clause-wrong : goal.returns-clause-wrong
returns-clause-wrong g c =
    let le : min (length c.args.scripts.now) (length c.args.form.now.calls.items) ≤ c.loop-i.i = search rules in
    sym (sym c.loop-i.invariant.rest
    ∙ calls_end g.O.Object.means g.O.Texted.wording c.args.first.now c.args.form.now.nodes.items _ _ c.loop-i.i c.loop-i.number
    c.args.scripts.now c.args.form.now.calls.items le)

pub returns-clause-rows : goal.returns-clause-rows
returns-clause-rows g c =
    let le : min (length c.args.scripts.now) (length c.args.form.now.calls.items) ≤ c.loop-i.i = search rules in
    let old = map (λ (own : Vec OpRow Global). own.items) c.loop-i.rows.items in
    sym (append-nil old)
    ∙ sym (ap (λ (rows : List (List OpRow)). old ++ rows)
    (rows_end g.O.Object.means g.O.Texted.wording _ _ c.loop-i.i c.args.scripts.now c.args.form.now.calls.items le))
    ∙ c.loop-i.invariant.rows

pub thread_wrong-requires-clause-read : goal.thread_wrong-requires-clause-read
thread_wrong-requires-clause-read g c κs within =
    let i = c.loop-i.i in
    let lines = c.group_at-lines.result.now in
    c.requires.read i c.script_at.result.now lines c.script_at.ensures.there
    (subst (λ (groups : List (Vec CallLine Global)). slice_get (map (λ (own : Vec CallLine Global). own.items) groups) i ≡ Some lines)
    c.deref.ensures.value c.group_at-lines.ensures.there)
