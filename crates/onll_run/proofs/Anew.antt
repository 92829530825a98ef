-- What scripts need that are run over logs which are begun anew, and how many of these are begun.
use Rattle.std.proofs.Common.{◌≡◌, ℕ, zero, suc, ◌+◌, ◌*◌, ◌≤◌, List, [], ◌∷◌, length, take, replicate, None, Ok, refl, sym, ap, ◌∙◌, subst, arith}
use Rattle.std.specs.Prelude.{max}
use Rattle.std.specs.List.{AllByRecursion}
use Rattle.std.proofs.lemmas.List.{length-replicate}
use Rattle.onll_model.specs.Limits.{most_updates}
use Rattle.onll_model.specs.declared.node.Node.{Node}
use Rattle.onll_model.specs.declared.call.Call.{Call}
use Rattle.onll_model.specs.Object.{Behaviour}
use Rattle.onll_model.specs.Segment.{Agrees}
use Rattle.onll_model.specs.Calls.{updates_in}
use Rattle.onll_pmem.specs.Device.{zero_line, zero_lines}
use Rattle.onll_pmem.specs.Pmem.{DeviceView}
use Rattle.onll_log.specs.declared.head.LogHead.{LogHead}
use Rattle.onll_log.specs.Grammar.{Content}
use Rattle.onll_merge.specs.Merge.{top_of, AllRise, merge}
use Rattle.onll_merge.specs.Laws.{EachSegment, HeadsFit}
use Rattle.onll_merge.proofs.Fronts.{merge-front}
use Rattle.onll_outside.specs.Views.{IsFresh}
use Rattle.onll_run.specs.Left.{AfterRun, HasRun, no_base}
use Rattle.onll_run.specs.Ran.{IsRoomyFor, HaveNumbers, HasBase, going_on, anew}

abbrev empty : Content
empty = record { head = None; entries = [] }

no_top : (n : ℕ) → top_of (replicate n empty) ≡ 0
no_top zero = refl
no_top (suc n) = ap (max 0) (no_top n)

fit_all : (n : ℕ) (heads : List LogHead) → HeadsFit (replicate n empty) heads
fit_all zero heads = tt
fit_all (suc n) [] = tt
fit_all (suc n) (h ∷ heads) = (tt, fit_all n heads)

agree_all : (n : ℕ) → EachSegment (Agrees []) (replicate n empty)
agree_all zero = tt
agree_all (suc n) = (tt, agree_all n)

rise_all : (n : ℕ) → AllRise (replicate n empty)
rise_all zero = tt
rise_all (suc n) = (tt, rise_all n)

-- logs without a head hold no node
pub new_merge : (heads : List LogHead) (n : ℕ) → merge heads (replicate n empty) ≡ Ok []
new_merge heads n = merge-front [] heads (replicate n empty) (record {
  heads_fit = fit_all n heads;
  agree = agree_all n;
  rise = rise_all n;
  cover = λ p low high. absurd (let top = no_top n in omega arith);
  numbered = tt;
}) ∙ ap (λ (k : ℕ). Ok (take {A = Node} k [])) (no_top n)

module _ {State Op Query Reply : Type 0} where
  new_numbers : (t : ℕ) (scripts : List (List (Call State Op Query Reply))) → AllByRecursion (λ (s : List (Call State Op Query Reply)). updates_in s ≤ most_updates) scripts → HaveNumbers [] t scripts
  new_numbers t [] u = tt
  new_numbers t (s ∷ scripts) u = (let k = u.0 in omega arith, new_numbers (t + 1) scripts u.1)

  -- logs that are begun anew are the base of scripts with few updates
  pub new_base : (heads : List LogHead) (n : ℕ) (scripts : List (List (Call State Op Query Reply))) → AllByRecursion (λ (s : List (Call State Op Query Reply)). updates_in s ≤ most_updates) scripts
      → HasBase heads (no_base n).logs scripts
  new_base heads n scripts u = record { nodes = []; merged = new_merge heads n; numbers = new_numbers 0 scripts u }

  -- a new device with lines enough has room for a script
  pub new_roomy : {Device : Type 0} (means : Device → DeviceView) (threads lines : ℕ) (script : List (Call State Op Query Reply)) (device : Device) → IsFresh (zero_lines lines) (means device)
      → 1 + (threads + 1) * updates_in script ≤ lines → IsRoomyFor means threads empty script device
  new_roomy means threads lines script device fresh room =
      let long : length (means device).read ≡ lines = ap length fresh.read ∙ length-replicate lines zero_line in
      record {
        fences = fresh.fences;
        faults = fresh.faults;
        settled = fresh.settled;
        stands = (refl, record { some_line = omega arith; zeros = fresh.read ∙ ap zero_lines (sym long) });
        lines = omega arith;
      }

-- a run that goes on from such logs is one anew
pub ran_anew : {State Op Query Reply : Type 0} (b : Behaviour State Op Query Reply) (state : State) (heads : List LogHead) (scripts : List (List (Call State Op Query Reply))) (left : AfterRun State Op Query Reply) (base : List Content)
    → base ≡ (no_base (length heads)).logs → HasRun b (going_on state heads [] base scripts) left → HasRun b (anew state heads scripts) left
ran_anew b state heads scripts left base is run = subst (λ (logs : List Content). HasRun b (going_on state heads [] logs scripts) left) is run
