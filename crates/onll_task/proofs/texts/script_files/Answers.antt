use Rattle.std.proofs.Common.{◌≡◌, ◌≤◌, ◌+◌, ◌++◌, ◌∷◌, [], length, map, drop, string_bytes, sym, ap, ◌∙◌, subst, arith, rules, length-append}
use Rattle.std.proofs.lemmas.List.{map-append, drop_all}
use Rattle.std.proofs.lemmas.List.Elements.{All-push}
use Rattle.std.specs.List.{All}
use Rattle.onll_model.specs.Calls.{updates_in}
use Rattle.onll_model.specs.Limits.{most_updates}
use Rattle.onll_text.specs.Script.{script_of}
use Rattle.onll_task.specs.Doing.{text_stage}
use Rattle.onll_task.proofs.Stages.{name_next, none_read, value_next, value_stops, values_read, none_begins, none_then}
use Rattle.onll_task.proofs.texts.script_files.Goals as goal

pub loop-name-init : goal.loop-name-init
loop-name-init g c =
    let none : c.new-scripts.result.items ≡ [] = c.new-scripts.ensures.items in
    record {
      so = none_read (λ name. text_stage name (script_of g.O.Texted.wording)) (map string_bytes c.args.names.now) (g.S.Store.seen c.args.store.now) (map (λ script. script.items) c.new-scripts.result.items) (ap (map (λ script. script.items)) none);
      count = ap length none;
      updates = subst (All (λ script. updates_in script.items ≤ most_updates)) (sym none) (λ k d h. absurd (omega arith));
    }

pub loop-name-preserved : goal.loop-name-preserved
loop-name-preserved g c =
    let names = c.args.names.now in
    let i = c.loop-name.name-index in
    let scripts = c.loop-name.scripts.items in
    let pushed : c.push.new.self.items ≡ scripts ++ c.in-Ok.script ∷ [] = search rules in
    record {
      so = value_next c.loop-name.invariant.so (name_next string_bytes names i c.name-item.result (omega arith) c.name-item.is ∙ ap (λ name. name ∷ map string_bytes (drop (i + 1) names)) (sym c.deref.ensures)) c.in-Ok.ensures.begins
          (ap (map (λ script. script.items)) pushed ∙ map-append (λ script. script.items) scripts (c.in-Ok.script ∷ []));
      count = ap length pushed ∙ length-append scripts (c.in-Ok.script ∷ []) ∙ ap (λ n. n + 1) c.loop-name.invariant.count;
      updates = subst (All (λ script. updates_in script.items ≤ most_updates)) (sym pushed) (All-push (λ script. updates_in script.items ≤ most_updates) scripts c.in-Ok.script c.loop-name.invariant.updates c.in-Ok.ensures.updates);
    }

pub returns-in-Err-clause-begins : goal.returns-in-Err-clause-begins
returns-in-Err-clause-begins g c =
    let names = c.args.names.now in
    let i = c.loop-name.name-index in
    value_stops c.loop-name.invariant.so (name_next string_bytes names i c.name-item.result (omega arith) c.name-item.is ∙ ap (λ name. name ∷ map string_bytes (drop (i + 1) names)) (sym c.deref.ensures)) c.in-Err.ensures.begins

pub returns-in_err-push-in-Ok-clause-begins : goal.returns-in_err-push-in-Ok-clause-begins
returns-in_err-push-in-Ok-clause-begins g c = none_begins c.from_residual.ensures.1 (none_then c.loop-name.invariant.so.same c.in-Ok.ensures.begins.files)

pub returns-clause-begins : goal.returns-clause-begins
returns-clause-begins g c = values_read c.loop-name.scripts c.loop-name.invariant.so (ap (map string_bytes) (drop_all c.loop-name.name-index c.args.names.now c.loop-name-test.false))
