-- The lines of a run's devices as read recover to its trace.

use Rattle.std.proofs.Common.{ℕ, suc, ◌≡◌, List, [], ◌∷◌, length, map, Some, IsSome, Ok, refl, sym, ap, ◌∙◌}
use Rattle.std.specs.List.{AllByRecursion}
use Rattle.std.proofs.lemmas.List.{length-map}
use Rattle.onll_model.specs.declared.node.Node.{Node}
use Rattle.onll_model.specs.declared.call.Call.{Call}
use Rattle.onll_model.specs.declared.call.CallEnd.{CallEnd}
use Rattle.onll_model.specs.Object.{Behaviour}
use Rattle.onll_model.proofs.LegalRows.{legal_operations}
use Rattle.onll_pmem.specs.Pmem.{DeviceView}
use Rattle.onll_log.specs.declared.head.LogHead.{LogHead}
use Rattle.onll_log.specs.Grammar.{Content, content_of}
use Rattle.onll_log.specs.Log.{LogState}
use Rattle.onll_merge.specs.Recovered.{recovered_with, state_recovered}
use Rattle.onll_merge.proofs.Images.{their_contents}
use Rattle.onll_run.specs.Left.{ScriptPlan, AfterRun, LogLeft, LogsTell, HasRun, content_in}
use Rattle.onll_run.specs.Ended.{log_left}
use Rattle.onll_task.proofs.OperationRows.{recovered_is}
use Rattle.onll_task.specs.RunLogs.{RanOver, LogsOfRun}

abbrev read_in : LogLeft → List (List ℕ)
read_in log = log.read

-- images that hold what the logs hold, one for each
held_in : {Device : Type 0} (means : Device → DeviceView) (images : List (List (List ℕ))) (logs : List (LogState Device))
    → map content_of images ≡ map (λ (log : LogState Device). Some (content_in (log_left means log))) logs
    → map content_of images ≡ map Some (map content_in (map (log_left means) logs))
held_in means images logs e = e ∙ logs_map logs
  where
    logs_map : (logs : List (LogState _)) → map (λ (log : LogState _). Some (content_in (log_left means log))) logs
        ≡ map Some (map content_in (map (log_left means) logs))
    logs_map [] = refl
    logs_map (log ∷ logs) = ap (λ cs. Some (content_in (log_left means log)) ∷ cs) (logs_map logs)

-- the logs hold what they are said to, one for each head
pub record AreTold (heads : List LogHead) (logs : List LogLeft) : Type 0 where
  pub contents : map content_of (map read_in logs) ≡ map Some (map content_in logs)
  pub many : length heads ≡ length logs

module _ {State Op Query Reply : Type 0} (b : Behaviour State Op Query Reply) where
  are_told : (heads : List LogHead) (base : List Content) (scripts : List (List (Call State Op Query Reply))) (ends : List (List (CallEnd State Op Query Reply))) (logs : List LogLeft) → LogsTell b heads base scripts ends logs → AreTold heads logs
  are_told [] [] [] [] [] h = record { contents = refl; many = refl }
  are_told [] [] [] [] (log ∷ logs) h = absurd h
  are_told [] [] [] (es ∷ ends) logs h = absurd h
  are_told [] [] (calls ∷ scripts) ends logs h = absurd h
  are_told [] (c ∷ base) scripts ends logs h = absurd h
  are_told (head ∷ heads) [] scripts ends logs h = absurd h
  are_told (head ∷ heads) (c ∷ base) [] ends logs h = absurd h
  are_told (head ∷ heads) (c ∷ base) (calls ∷ scripts) [] logs h = absurd h
  are_told (head ∷ heads) (c ∷ base) (calls ∷ scripts) (es ∷ ends) [] h = absurd h
  are_told (head ∷ heads) (c ∷ base) (calls ∷ scripts) (es ∷ ends) (log ∷ logs) h =
      let rest = are_told heads base scripts ends logs h.1 in
      record { contents = λ i. h.0.holds i ∷ rest.contents i; many = ap suc rest.many }

  module _ (plan : ScriptPlan State Op Query Reply) (left : AfterRun State Op Query Reply) (run : HasRun b plan left) where
    pub run_told : AreTold plan.heads left.logs
    run_told = are_told plan.heads plan.base.logs plan.scripts left.ends left.logs run.logs

    -- the rows of the trace are operations, where those of the base are
    pub run_operations : AllByRecursion (λ (n : Node). IsSome (b.op_at n.row)) plan.base.nodes → AllByRecursion (λ (n : Node). IsSome (b.op_at n.row)) left.nodes
    run_operations first = legal_operations b plan.state plan.base.nodes plan.scripts left.nodes left.ends first run.legal

  module _ (s : State) (heads : List LogHead) (scripts : List (List (Call State Op Query Reply))) (left : AfterRun State Op Query Reply) (over : RanOver b s heads scripts left) where
    abbrev plan_ran : ScriptPlan State Op Query Reply
    plan_ran = record { state = s; scripts = scripts; heads = heads; base = over.base }

    over_told : AreTold heads left.logs
    over_told = run_told plan_ran left over.run

    pub over_operations : AllByRecursion (λ (n : Node). IsSome (b.op_at n.row)) left.nodes
    over_operations = run_operations plan_ran left over.run over.operations

    run_recovers : (images : List (List (List ℕ))) → map content_of images ≡ map Some (map content_in left.logs)
        → state_recovered b heads images ≡ Ok (recovered_with (map content_in left.logs) left.nodes)
    run_recovers images held =
        recovered_is b images heads (map content_in left.logs) left.nodes (their_contents 0 images (map content_in left.logs) held) over.run.merged over_operations

-- ---- the same of a run of which these logs are known
module _ {State Op Query Reply Device : Type 0} (b : Behaviour State Op Query Reply) (means : Device → DeviceView) (s : State) (heads : List LogHead) (nodes : List Node) (logs : List (LogState Device))
    (h : LogsOfRun b means s heads nodes logs) where
  abbrev Held : List (List (List ℕ)) → Type 0
  Held images = map content_of images ≡ map (λ (log : LogState Device). Some (content_in (log_left means log))) logs

  held_by : (images : List (List (List ℕ))) → Held images → map content_of images ≡ map Some (map content_in h.left.logs)
  held_by images held = held_in means images logs held ∙ ap (λ (ls : List LogLeft). map Some (map content_in ls)) (sym h.logs_are)

  pub logs_many : length heads ≡ length logs
  logs_many = (over_told b s heads h.scripts h.left h.over).many ∙ ap length h.logs_are ∙ length-map logs (log_left means)

  pub logs_recover : (images : List (List (List ℕ))) → Held images → state_recovered b heads images ≡ Ok (recovered_with (map content_in (map (log_left means) logs)) nodes)
  logs_recover images held = run_recovers b s heads h.scripts h.left h.over images (held_by images held)
      ∙ (λ i. Ok (recovered_with (map content_in (h.logs_are i)) (h.nodes_are i)))

-- the logs of a run whose trace was listed
pub logs_of_run : {State Op Query Reply Device : Type 0} (b : Behaviour State Op Query Reply) (means : Device → DeviceView) (s : State) (heads : List LogHead) (scripts : List (List (Call State Op Query Reply)))
    (left : AfterRun State Op Query Reply) (logs : List (LogState Device)) → RanOver b s heads scripts left → left.logs ≡ map (log_left means) logs → LogsOfRun b means s heads left.nodes logs
logs_of_run b means s heads scripts left logs over are = record { scripts = scripts; left = left; over = over; nodes_are = refl; logs_are = are }
