-- What the calls of services in one era after the other took out of an object, and what they put in.
use Rattle.std.specs.Prelude.{ℕ, List, [], ◌∷◌, ◌+◌, ◌≤◌, map}
use Rattle.onll_model.specs.declared.call.Call.{Call}
use Rattle.onll_model.specs.declared.call.CallEnd.{CallEnd}
use Rattle.onll_model.specs.Object.{Behaviour}
use Rattle.onll_model.specs.Trace.{state_after}
use Rattle.onll_pmem.specs.Pmem.{DeviceView}
use Rattle.onll_run.specs.Ended.{ends_of, script_of}
use Rattle.onll_balance.specs.Floor.{Floor}
use Rattle.onll_balance.specs.Measure.{Measure, back_by, out_by, tally}
use Rattle.onll_live.specs.declared.era.Era.{Era}
use Rattle.onll_live.specs.Living.{EraService}
use Rattle.onll_live.specs.Lifetime.{AddsUp, WasServed}

module _ {State Op Query Reply Device Work Answer : Type 0} (b : Behaviour State Op Query Reply) (means : Device → DeviceView)
    (promise : Work → Work → List (Call State Op Query Reply) → List (CallEnd State Op Query Reply) → Answer → Type 0)
    (code : ℕ) (description : State → List ℕ) (name : List ℕ) where
  -- works were served in each of these eras
  abbrev pub WereAllServed : List (EraService State Device Work Answer Op Query Reply) → Type 0
  WereAllServed [] = Unit {0}
  WereAllServed (s ∷ services) = WasServed b means promise code description name s × WereAllServed services

  -- the sum over the calls that were made in them
  abbrev pub tally_over : (Call State Op Query Reply → CallEnd State Op Query Reply → ℕ)
      → (services : List (EraService State Device Work Answer Op Query Reply)) → WereAllServed services → ℕ
  tally_over count [] h = 0
  tally_over count (s ∷ services) h =
      tally count (map script_of h.0.worked.ended.runs) (map ends_of h.0.worked.ended.runs) + tally_over count services h.1

  -- the state from which the oldest service went on, in its era
  abbrev pub state_at_first : Era State → (services : List (EraService State Device Work Answer Op Query Reply)) → WereAllServed services
      → State
  state_at_first from [] h = from.state
  state_at_first from (s ∷ []) h = state_after b from.state h.0.found.nodes
  state_at_first from (t ∷ (s ∷ earlier)) h = state_at_first from (s ∷ earlier) h.1

  -- What services took out, and what is left where the newest era began, are no more than what there was at first and what they put in.
  abbrev pub ErasBalanceLaw : Measure b → Type 0
  ErasBalanceLaw m = (from : Era State) (last : EraService State Device Work Answer Op Query Reply)
      (earlier : List (EraService State Device Work Answer Op Query Reply)) (h : WereAllServed earlier)
      → AddsUp b means promise code description name from last earlier
      → tally_over (out_by m.out) earlier h + m.left last.era.state
      ≤ m.left (state_at_first from earlier h) + tally_over (back_by m.back m.most) earlier h

  -- Nothing is lost: what there was at first, and what answered calls put in, are no more than what is left where the newest era began and
  -- what they took out, or may have taken out.
  abbrev pub ErasFloorLaw : Floor b → Type 0
  ErasFloorLaw f = (from : Era State) (last : EraService State Device Work Answer Op Query Reply)
      (earlier : List (EraService State Device Work Answer Op Query Reply)) (h : WereAllServed earlier)
      → AddsUp b means promise code description name from last earlier
      → f.left (state_at_first from earlier h) + tally_over (out_by f.put) earlier h
      ≤ f.left last.era.state + tally_over (back_by f.out f.most) earlier h
