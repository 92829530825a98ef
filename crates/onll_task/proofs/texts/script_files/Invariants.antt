use Rattle.std.proofs.Common.{◌≡◌, ◌≤◌, drop, map, string_bytes, length}
use Rattle.std.specs.List.{All}
use Rattle.onll_model.specs.Calls.{updates_in}
use Rattle.onll_model.specs.Limits.{most_updates}
use Rattle.onll_text.specs.Script.{script_of}
use Rattle.onll_task.specs.Doing.{text_stage}
use Rattle.onll_task.proofs.Stages.{ReadSo}
use Rattle.onll_task.proofs.texts.script_files.Given as goal

-- the scripts of the names before were read
abbrev pub invariant-loop-name : goal.invariant-loop-name
invariant-loop-name g l =
    let w = g.O.Texted.wording in
    record {
      so : ReadSo (λ name. text_stage name (script_of w)) (map string_bytes l.names) (map string_bytes (drop l.name-index l.names)) (g.S.Store.seen l.fn.store) (g.S.Store.seen l.store) (map (λ script. script.items) l.scripts.items);
      count : length l.scripts.items ≡ l.name-index;
      updates : All (λ script. updates_in script.items ≤ most_updates) l.scripts.items;
    }
