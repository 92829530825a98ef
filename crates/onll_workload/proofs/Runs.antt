-- What a run of a workload made over devices whose fences never fail.

use Rattle.std.proofs.Common.{ℕ, ◌≡◌, ◌*◌, List, [], ◌∷◌, length, Option, Some, None, sum, sum_by, refl, sym, ◌∙◌, arith}
use Rattle.std.specs.List.{AllByRecursion}
use Rattle.std.proofs.lemmas.List.Sums.{sum_by-cons}
use Rattle.onll_model.specs.declared.node.Node.{Node}
use Rattle.onll_model.specs.declared.call.CallEnd.{CallEnd}
use Rattle.onll_model.specs.Trace.{state_after, after_row}
use Rattle.onll_pmem.specs.Device.{DeviceState}
use Rattle.onll_log.specs.declared.head.LogHead.{LogHead}
use Rattle.onll_log.specs.Grammar.{Content}
use Rattle.onll_log.specs.Log.{LogState}
use Rattle.onll_bank.specs.declared.operation.BankOp.{BankOp}
use Rattle.onll_bank.specs.declared.operation.BankQuery.{BankQuery}
use Rattle.onll_bank.specs.declared.operation.BankReply.{BankReply}
use Rattle.onll_bank.specs.Object.{bank}
use Rattle.onll_outside.specs.Views.{one_fault}
use Rattle.onll_run.specs.Outcomes.{failed_in, fault_in}
use Rattle.onll_run.specs.Left.{AfterRun, LogLeft, HasRun, no_base}
use Rattle.onll_run.specs.Making.{faults_of, HeaderFailed}
use Rattle.onll_run.specs.Ran.{AreKeptLogs, anew}
use Rattle.onll_workload.specs.declared.workload.Workload.{Workload}
use Rattle.onll_workload.specs.Faultless.{faultless_view}
use Rattle.onll_workload.specs.Workload.{scripts_of, first_bank, accounts, balance}
use Rattle.onll_workload.proofs.Placed.{NoneFailed, own_all_are, placed_all, fences_placed, nodes_placed}
use Rattle.onll_model.proofs.LegalRows.{legal_rows}
use Rattle.onll_workload.proofs.Scripts.{KeepsTotal, updates_of_scripts, rows_of_scripts}

-- ---- no fence failed
abbrev pub BankEnd : Type 0
BankEnd = CallEnd (List ℕ) BankOp BankQuery BankReply

no_failure : (failed : Option ℕ) → 0 ≡ fault_in failed → failed ≡ None
no_failure None e = refl
no_failure (Some place) e = absurd (omega (arith, e))

pub kept_whole : (befores : List Content) (ends : List (List BankEnd)) (devices : List DeviceState) (logs : List (LogState DeviceState)) → AreKeptLogs faultless_view befores ends devices logs → AllByRecursion (NoneFailed bank) ends
kept_whole befores [] devices logs h = tt
kept_whole [] (es ∷ ends) devices logs h = absurd h
kept_whole (before ∷ befores) (es ∷ ends) [] logs h = absurd h
kept_whole (before ∷ befores) (es ∷ ends) (device ∷ devices) [] h = absurd h
kept_whole (before ∷ befores) (es ∷ ends) (device ∷ devices) (log ∷ logs) h = (no_failure (failed_in es) h.0.faults, kept_whole befores ends devices logs h.1)

no_faults : (devices : List DeviceState) → faults_of faultless_view devices ≡ 0
no_faults [] = refl
no_faults (device ∷ devices) =
    let one = sum_by-cons (λ (d : DeviceState). one_fault (faultless_view d).faults) device devices in
    let rest = no_faults devices in
    omega (arith, one, rest)

-- so no header's fence did
pub header_made : (heads : List LogHead) (befores : List Content) (old new : List DeviceState) (thread : ℕ) → HeaderFailed faultless_view heads befores old thread new → ⊥
header_made heads befores old new thread h = omega (arith, h.faults, no_faults new)

-- ---- what it left
total_stays : (nodes : List Node) (s : List ℕ) → AllByRecursion (λ (n : Node). KeepsTotal n.row) nodes → sum (state_after bank s nodes) ≡ sum s
total_stays [] s h = refl
total_stays (n ∷ nodes) s h = total_stays nodes (after_row bank s (bank.op_at n.row)) h.1 ∙ h.0 s

-- each update has a fence and a node, and the total is that of the first bank
pub record HasMade (w : Workload) (left : AfterRun (List ℕ) BankOp BankQuery BankReply) : Type 0 where
  pub fences : sum_by (λ (log : LogLeft). log.fences) left.logs ≡ w.threads * w.updates
  pub nodes : length left.nodes ≡ w.threads * w.updates
  pub total : sum (state_after bank first_bank left.nodes) ≡ accounts * balance

pub has_made : (w : Workload) (heads : List LogHead) (left : AfterRun (List ℕ) BankOp BankQuery BankReply) → HasRun bank (anew first_bank heads (scripts_of w)) left → AllByRecursion (NoneFailed bank) left.ends → HasMade w left
has_made w heads left run whole =
    let placed = placed_all bank first_bank 0 left.nodes 0 (scripts_of w) left.ends run.legal.outcomes run.over whole in
    let updates = updates_of_scripts w w.threads 0 in
    let rows = legal_rows bank KeepsTotal first_bank [] (scripts_of w) left.nodes left.ends (rows_of_scripts w w.threads 0) tt run.legal in
    record {
      fences = fences_placed bank heads (no_base (length heads)).logs (scripts_of w) left.ends left.logs run.logs ∙ placed ∙ updates;
      nodes = sym (own_all_are (length (scripts_of w)) left.nodes run.legal.threads) ∙ sym (nodes_placed bank first_bank left.nodes 0 (scripts_of w) left.ends run.legal.outcomes) ∙ placed ∙ updates;
      total = total_stays left.nodes first_bank rows;
    }
