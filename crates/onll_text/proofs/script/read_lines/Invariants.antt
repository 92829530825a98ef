use Rattle.std.proofs.Common.{◌≡◌, List, ◌++◌, length, Result, Ok, Err}
use Rattle.onll_text.specs.Refusal.{Refusal}
use Rattle.onll_text.specs.Script.{calls_in, no_calls}
use Rattle.onll_text.proofs.script.read_lines.Given as goal

-- calls before those that follow them
abbrev after_calls : {C : Type 0} → List C → Result (List C) Refusal → Result (List C) Refusal
after_calls front (Err refusal) = Err refusal
after_calls front (Ok calls) = Ok (front ++ calls)

-- the calls so far and those of the lines that are left are those of all
abbrev pub invariant-loop-number : goal.invariant-loop-number
invariant-loop-number g l =
    let w = g.O.Texted.wording in
    after_calls l.calls.items (calls_in w l.counts l.lines) ≡ calls_in w no_calls l.fn.lines

abbrev pub decreases-loop-number : goal.decreases-loop-number
decreases-loop-number g l = length l.lines
