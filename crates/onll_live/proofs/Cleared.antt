-- Files of logs that are emptied, one thread's after the other's.
use Rattle.std.proofs.Common.{ℕ, List, ◌≡◌, ◌+◌, ◌<◌, ◌^◌, ◌⊎◌, false, sym, ap, ◌∙◌, subst, arith, inl, inr}
use Rattle.std.specs.Prelude.{Some, Err}
use Rattle.std.proofs.lemmas.Bool.{cases_lt}
use Rattle.onll_model.specs.Limits.{most_threads}
use Rattle.onll_outside.specs.declared.OutsideFault.{OutsideFault}
use Rattle.onll_outside.specs.declared.OutsideFault.TheVariants.{Failed, NoMemory}
use Rattle.onll_outside.specs.declared.store.FaultKind.TheVariants as kinds
use Rattle.onll_outside.specs.Views.{StoreView, Rose, SameFaults, SameOthers}
use Rattle.onll_open.specs.Files.{FileIsMade, is_made}
use Rattle.onll_open.specs.Names.{log_name}
use Rattle.onll_open.proofs.Handing.{faults_more, name_differs}
use Rattle.onll_live.specs.Beginning.{LogsAreEmpty, ClearFaults, ClearFileFaults, LogNotCleared}
use Rattle.onll_live.specs.Refusals.{of_clear}

-- one more
pub cleared_next : (mid new : StoreView) (logs : List ℕ) (t : ℕ) → t < 2 ^ 64 → LogsAreEmpty mid logs t → FileIsMade new (log_name logs t) false
    → SameOthers (log_name logs t) mid new → LogsAreEmpty new logs (t + 1)
cleared_next mid new logs t fits before made others i l tells = elim (cases_lt i t) [
  | inl less ↦ ap is_made (others.file (log_name logs i) (λ e. (let same = name_differs logs i t (omega arith) fits e in omega arith))) ∙ before i less (sym others.tells ∙ tells)
  | inr more ↦ (let e : t ≡ i = omega arith in subst (λ (n : ℕ). is_made (new.file (log_name logs n)) ≡ false) e (made tells))
]

-- it was the log of a thread
pub log_failed : (logs : List ℕ) (t : ℕ) (old mid new : StoreView) (fault : OutsideFault) → t < most_threads → SameFaults old mid
    → ClearFileFaults (log_name logs t) mid new (Err fault) → ClearFaults logs old new (Err (of_clear t fault))
log_failed logs t old mid new NoMemory low same h = faults_more old mid new same h
log_failed logs t old mid new Failed low same h = at h.1
  where
    at : (new.last ≡ Some (record { kind = kinds.Read; name = log_name logs t })) ⊎ (new.last ≡ Some (record { kind = kinds.Write; name = log_name logs t }))
        → LogNotCleared logs t old new
    at (inl last) = inl (record { within = low; rose = subst (λ (n : ℕ). Rose n new.faults) same.0 h.0; last = last })
    at (inr last) = inr (record { within = low; rose = subst (λ (n : ℕ). Rose n new.faults) same.0 h.0; last = last })
