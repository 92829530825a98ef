use Rattle.std.proofs.Common.{◌≡◌, ◌≤◌, ◌++◌, drop, length, map, vec_capacity}
use Rattle.onll_model.specs.Calls.{updates_in}
use Rattle.onll_run.proofs.run.rooms_for.Given as goal

-- the rooms so far and those of the scripts that are left are those of all
abbrev pub invariant-loop-script : goal.invariant-loop-script
invariant-loop-script g l = record {
  all : l.rooms.items ++ map updates_in (map (λ script. script.items) (drop l.script-index l.scripts)) ≡ map updates_in (map (λ script. script.items) l.scripts);
  count : length l.rooms.items ≡ l.script-index;
  room : length l.scripts ≤ vec_capacity l.rooms;
}
