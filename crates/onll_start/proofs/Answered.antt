use Rattle.std.proofs.Common.{ℕ, ◌≡◌, ◌+◌, ◌==◌, ◌⊎◌, inl, inr, ⊎_elim, Bool, true, false, List, [], ◌∷◌, length, map, Option, Some, None, Result, Ok, Err, MatchResult, IfOk, IfErr, sym, refl, ap, ◌∙◌, subst}
use Rattle.std.specs.Prelude.{if◌then◌else◌}
use Rattle.onll_model.specs.declared.node.Node.{Node}
use Rattle.onll_model.specs.Object.{Behaviour}
use Rattle.onll_model.specs.Recovered.{operations_front}
use Rattle.onll_model.specs.Trace.{state_after}
use Rattle.onll_log.specs.declared.head.LogHead.{LogHead}
use Rattle.onll_log.specs.Grammar.{Content, content_of}
use Rattle.onll_merge.specs.declared.fault.RecoverFault.{RecoverFault}
use Rattle.onll_merge.specs.declared.fault.RecoverFault.TheVariants as recovers
use Rattle.onll_merge.specs.declared.fault.ImagesFault.{ImagesFault}
use Rattle.onll_merge.specs.declared.fault.ImagesFault.TheVariants.{NotLog, Recover}
use Rattle.onll_merge.specs.declared.fault.StateFault.{StateFault}
use Rattle.onll_merge.specs.declared.fault.StateFault.TheVariants as states
use Rattle.onll_merge.specs.Faults.{state_fault}
use Rattle.onll_merge.specs.Merge.{merge}
use Rattle.onll_merge.specs.Recovered.{Recovered, recovered_with, with_logs, merged, contents_from, with_operations, state_recovered, applied_nodes, state_left}
use Rattle.onll_start.specs.declared.fault.ResumeFault.{ResumeFault}
use Rattle.onll_start.specs.declared.fault.ResumeFault.TheVariants.{Images, OldFormat, NotOp, NoMemory}
use Rattle.onll_start.specs.Start.{Found, is_old, old_format, found_merged, found_newer, found_logs, found_in}
use Rattle.onll_start.specs.Found.{is_old_log, first_old, answer_of, IsFound, object_left}
use Rattle.onll_start.proofs.Contents.{contents_are, contents_never}

-- What is answered to images, from what was recovered and the first log of an old format.

-- ---- refusals of a recovery
merged_fault : (f g : RecoverFault) → state_fault (Recover f) ≡ states.NotMerged g → f ≡ g
merged_fault (recovers.NotThisRun a) g e = (cc)
merged_fault (recovers.Disorder a b) g e = (cc)
merged_fault (recovers.Clash a b c) g e = (cc)
merged_fault (recovers.Gap a) g e = (cc)
merged_fault (recovers.Stray a b c d) g e = (cc)
merged_fault recovers.NoMemory g e = absurd (cc)

no_log_fault : (f : RecoverFault) (log : ℕ) → state_fault (Recover f) ≡ states.NotLog log → ⊥
no_log_fault (recovers.NotThisRun a) log e = absurd (cc)
no_log_fault (recovers.Disorder a b) log e = absurd (cc)
no_log_fault (recovers.Clash a b c) log e = absurd (cc)
no_log_fault (recovers.Gap a) log e = absurd (cc)
no_log_fault (recovers.Stray a b c d) log e = absurd (cc)
no_log_fault recovers.NoMemory log e = absurd (cc)

no_row_fault : (f : RecoverFault) (place : ℕ) → state_fault (Recover f) ≡ states.NotOperation place → ⊥
no_row_fault (recovers.NotThisRun a) log e = absurd (cc)
no_row_fault (recovers.Disorder a b) log e = absurd (cc)
no_row_fault (recovers.Clash a b c) log e = absurd (cc)
no_row_fault (recovers.Gap a) log e = absurd (cc)
no_row_fault (recovers.Stray a b c d) log e = absurd (cc)
no_row_fault recovers.NoMemory log e = absurd (cc)

-- ---- the first log of an old format
abbrev old_fault : Option ℕ → Option ResumeFault
old_fault None = None
old_fault (Some log) = Some (OldFormat log)

pub old_same : (i : ℕ) (images : List (List (List ℕ))) (logs : List Content) → map content_of images ≡ map Some logs → old_format i logs ≡ old_fault (first_old i images)
old_same i [] [] e = refl
old_same i [] (c ∷ cs) e = absurd (cc)
old_same i (image ∷ images) [] e = absurd (cc)
old_same i (image ∷ images) (c ∷ cs) e =
    let a : content_of image ≡ Some c = (cc) in
    let b : map content_of images ≡ map Some cs = (cc) in
    ap (λ (o : Option ResumeFault). if is_old c.head then Some (OldFormat i) else o) (old_same (i + 1) images cs b)
    ∙ (by_test (is_old c.head) ∙ ap (λ (o : Option Content). old_fault (if is_old_log o then Some i else first_old (i + 1) images)) (sym a))
  where
    by_test : (q : Bool) → (if q then Some (OldFormat i) else old_fault (first_old (i + 1) images)) ≡ old_fault (if q then Some i else first_old (i + 1) images)
    by_test true = refl
    by_test false = refl

module _ {State Op Query Reply : Type 0} (b : Behaviour State Op Query Reply) (heads : List LogHead) {V : Type 0} (view : V → Recovered) where
  abbrev Recovers : Result Recovered StateFault → Result V StateFault → Type 0
  Recovers st result = MatchResult result (λ v. st ≡ Ok (view v)) (λ e. (e ≡ states.NoMemory) ⊎ (st ≡ Err e))

  abbrev Answers : Result Found ResumeFault → Result V ResumeFault → Type 0
  Answers found result = MatchResult result (λ v. IsFound found (view v)) (λ e. (e ≡ NoMemory) ⊎ (found ≡ Err e))

  -- the rows are read, or one is none
  by_rows : (logs : List Content) (nodes : List Node) (n : ℕ) (q : Bool) (result : Result V StateFault) → Recovers (if q then Ok (recovered_with logs nodes) else Err (states.NotOperation n)) result
      → Answers (if q then Ok (record { logs = logs; nodes = nodes }) else Err (NotOp n)) (answer_of None result)
  by_rows logs nodes n true (Ok v) h = record { all = record { logs = logs; nodes = nodes }; is = refl; told = (cc) }
  by_rows logs nodes n false (Ok v) h = absurd (cc)
  by_rows logs nodes n q (Err states.NoMemory) h = inl refl
  by_rows logs nodes n true (Err (states.NotLog log)) h = absurd (⊎_elim (λ (x : states.NotLog log ≡ states.NoMemory). cc) (λ (x : Ok (recovered_with logs nodes) ≡ Err (states.NotLog log)). cc) h)
  by_rows logs nodes n false (Err (states.NotLog log)) h = absurd (⊎_elim (λ (x : states.NotLog log ≡ states.NoMemory). cc) (λ (x : Err (states.NotOperation n) ≡ Err (states.NotLog log)). cc) h)
  by_rows logs nodes n true (Err (states.NotMerged f)) h = absurd (⊎_elim (λ (x : states.NotMerged f ≡ states.NoMemory). cc) (λ (x : Ok (recovered_with logs nodes) ≡ Err (states.NotMerged f)). cc) h)
  by_rows logs nodes n false (Err (states.NotMerged f)) h = absurd (⊎_elim (λ (x : states.NotMerged f ≡ states.NoMemory). cc) (λ (x : Err (states.NotOperation n) ≡ Err (states.NotMerged f)). cc) h)
  by_rows logs nodes n true (Err (states.NotOperation p)) h = absurd (⊎_elim (λ (x : states.NotOperation p ≡ states.NoMemory). cc) (λ (x : Ok (recovered_with logs nodes) ≡ Err (states.NotOperation p)). cc) h)
  by_rows logs nodes n false (Err (states.NotOperation p)) h = inr (⊎_elim (λ (x : states.NotOperation p ≡ states.NoMemory). absurd (cc)) (λ (x : Err (states.NotOperation n) ≡ Err (states.NotOperation p)). let same : n ≡ p = (cc) in ap (λ (m : ℕ). Err (NotOp m)) same) h)

  -- the logs merge, or don't
  by_merge : (logs : List Content) (m : Result (List Node) RecoverFault) (result : Result V StateFault) → Recovers (with_operations b (with_logs logs m)) result → Answers (found_merged b heads logs m) (answer_of None result)
  by_merge logs (Ok nodes) result h = by_rows logs nodes (length (operations_front b nodes) + 1) (length (operations_front b nodes) == length nodes) result h
  by_merge logs (Err f) (Ok v) h = absurd (cc)
  by_merge logs (Err f) (Err states.NoMemory) h = inl refl
  by_merge logs (Err f) (Err (states.NotLog log)) h = absurd (⊎_elim (λ (x : states.NotLog log ≡ states.NoMemory). cc) (λ (x : Err (state_fault (Recover f)) ≡ Err (states.NotLog log)). no_log_fault f log (cc)) h)
  by_merge logs (Err f) (Err (states.NotOperation p)) h = absurd (⊎_elim (λ (x : states.NotOperation p ≡ states.NoMemory). cc) (λ (x : Err (state_fault (Recover f)) ≡ Err (states.NotOperation p)). no_row_fault f p (cc)) h)
  by_merge logs (Err f) (Err (states.NotMerged g)) h = inr (⊎_elim (λ (x : states.NotMerged g ≡ states.NoMemory). absurd (cc))
      (λ (x : Err (state_fault (Recover f)) ≡ Err (states.NotMerged g)). ap (λ (z : RecoverFault). Err (Images (Recover z))) (merged_fault f g (cc))) h)

  -- no image that is a log is answered to be none
  is_log : (logs : List Content) (m : Result (List Node) RecoverFault) (log : ℕ) → with_operations b (with_logs logs m) ≡ Err (states.NotLog log) → ⊥
  is_log logs (Err f) log e = no_log_fault f log (cc)
  is_log logs (Ok nodes) log e = by_test (length (operations_front b nodes) == length nodes) e
    where
      by_test : (q : Bool) → (if q then Ok (recovered_with logs nodes) else Err (states.NotOperation (length (operations_front b nodes) + 1))) ≡ Err (states.NotLog log) → ⊥
      by_test true x = absurd (cc)
      by_test false x = absurd (cc)

  -- a log is of an old format
  by_old : (logs : List Content) (m : Result (List Node) RecoverFault) (old : ℕ) (result : Result V StateFault) → Recovers (with_operations b (with_logs logs m)) result → Answers (Err (OldFormat old)) (answer_of (Some old) result)
  by_old logs m old (Ok v) h = inr refl
  by_old logs m old (Err states.NoMemory) h = inl refl
  by_old logs m old (Err (states.NotLog log)) h = absurd (⊎_elim (λ (x : states.NotLog log ≡ states.NoMemory). cc) (λ (x : with_operations b (with_logs logs m) ≡ Err (states.NotLog log)). is_log logs m log x) h)
  by_old logs m old (Err (states.NotMerged f)) h = inr refl
  by_old logs m old (Err (states.NotOperation p)) h = inr refl

  by_contents : (cs : Result (List Content) ImagesFault) → ((f : RecoverFault) → cs ≡ Err (Recover f) → ⊥) → (old : Option ℕ) → ((logs : List Content) → cs ≡ Ok logs → old_format 0 logs ≡ old_fault old)
      → (result : Result V StateFault) → Recovers (with_operations b (merged heads cs)) result → Answers (found_logs b heads cs) (answer_of old result)
  by_contents (Err (Recover f)) never old o result h = absurd (never f refl)
  by_contents (Err (NotLog i)) never old o result h = no_log old result h
    where
      no_log : (old : Option ℕ) (result : Result V StateFault) → Recovers (Err (states.NotLog i)) result → Answers (Err (Images (NotLog i))) (answer_of old result)
      no_log old (Ok v) h = absurd (cc)
      no_log None (Err states.NoMemory) h = inl refl
      no_log (Some x) (Err states.NoMemory) h = inl refl
      no_log None (Err (states.NotLog log)) h = inr (⊎_elim (λ (x : states.NotLog log ≡ states.NoMemory). absurd (cc)) (λ (x : Err (states.NotLog i) ≡ Err (states.NotLog log)). let same : i ≡ log = (cc) in ap (λ (m : ℕ). Err (Images (NotLog m))) same) h)
      no_log (Some y) (Err (states.NotLog log)) h = inr (⊎_elim (λ (x : states.NotLog log ≡ states.NoMemory). absurd (cc)) (λ (x : Err (states.NotLog i) ≡ Err (states.NotLog log)). let same : i ≡ log = (cc) in ap (λ (m : ℕ). Err (Images (NotLog m))) same) h)
      no_log old (Err (states.NotMerged f)) h = absurd (⊎_elim (λ (x : states.NotMerged f ≡ states.NoMemory). cc) (λ (x : Err (states.NotLog i) ≡ Err (states.NotMerged f)). cc) h)
      no_log old (Err (states.NotOperation p)) h = absurd (⊎_elim (λ (x : states.NotOperation p ≡ states.NoMemory). cc) (λ (x : Err (states.NotLog i) ≡ Err (states.NotOperation p)). cc) h)
  by_contents (Ok logs) never None o result h = subst (λ (f : Option ResumeFault). Answers (found_newer b heads logs f) (answer_of None result)) (sym (o logs refl)) (by_merge logs (merge heads logs) result h)
  by_contents (Ok logs) never (Some old) o result h = subst (λ (f : Option ResumeFault). Answers (found_newer b heads logs f) (answer_of (Some old) result)) (sym (o logs refl)) (by_old logs (merge heads logs) old result h)

  -- what is answered is what images give
  pub answered : (images : List (List (List ℕ))) (old : Option ℕ) → old ≡ first_old 0 images → (recovered : Result V StateFault) → Recovers (state_recovered b heads images) recovered
      → (result : Result V ResumeFault) → result ≡ answer_of old recovered → Answers (found_in b heads images) result
  answered images old is recovered h result e = subst (Answers (found_in b heads images)) (sym e)
      (by_contents (contents_from 0 images) (λ f x. contents_never 0 images f x) old (λ logs x. old_same 0 images logs (contents_are 0 images logs x) ∙ ap old_fault (sym is)) recovered h)

-- ---- the object
module _ {State Op Query Reply : Type 0} (b : Behaviour State Op Query Reply) (x : Result Recovered ImagesFault) (s s_new : State) where
  -- the operations that are applied are all nodes where a state was recovered
  applied_all : (y : Result Recovered ImagesFault) (r : Recovered) → with_operations b y ≡ Ok r → operations_front b r.nodes ≡ r.nodes → applied_nodes b y ≡ r.nodes
  applied_all (Ok y) r e rows = by_test (length (operations_front b y.nodes) == length y.nodes) e
    where
      by_test : (q : Bool) → (if q then Ok y else Err (states.NotOperation (length (operations_front b y.nodes) + 1))) ≡ Ok r → operations_front b y.nodes ≡ r.nodes
      by_test true e = let same : y ≡ r = (cc) in ap (λ (z : Recovered). operations_front b z.nodes) same ∙ rows
      by_test false e = absurd (cc)
  applied_all (Err f) r e rows = absurd (cc)

  module _ {V : Type 0} (view : V → Recovered) where
    -- recovery left the object so
    abbrev Leaves : Result V StateFault → Type 0
    Leaves recovered = MatchResult recovered (λ v. (applied_nodes b x ≡ (view v).nodes) × (s_new ≡ state_after b s (view v).nodes)) (λ e. s_new ≡ state_left b x s e)

    -- what is answered leaves it so
    abbrev Left : Result V ResumeFault → Type 0
    Left result = MatchResult result (λ v. applied_nodes b x ≡ (view v).nodes) (λ e. s_new ≡ object_left b x s e)

    of_answer : (old : Option ℕ) (recovered : Result V StateFault) → Leaves recovered → Left (answer_of old recovered)
    of_answer None (Ok v) h = h.0
    of_answer (Some log) (Ok v) h = h.1 ∙ ap (λ (ns : List Node). state_after b s ns) (sym h.0)
    of_answer None (Err states.NoMemory) h = h
    of_answer (Some log) (Err states.NoMemory) h = h
    of_answer None (Err (states.NotLog i)) h = h
    of_answer (Some log) (Err (states.NotLog i)) h = h
    of_answer None (Err (states.NotMerged f)) h = h
    of_answer (Some log) (Err (states.NotMerged f)) h = h
    of_answer None (Err (states.NotOperation p)) h = h
    of_answer (Some log) (Err (states.NotOperation p)) h = h

    leaves : (recovered : Result V StateFault) → MatchResult recovered (λ v. with_operations b x ≡ Ok (view v)) (λ e. (e ≡ states.NoMemory) ⊎ (with_operations b x ≡ Err e))
        → IfOk recovered (λ v. operations_front b (view v).nodes ≡ (view v).nodes) → IfOk recovered (λ v. s_new ≡ state_after b s (view v).nodes)
        → IfErr recovered (λ e. s_new ≡ state_left b x s e) → Leaves recovered
    leaves (Ok v) is rows state left = (applied_all x (view v) is rows, state)
    leaves (Err e) is rows state left = left

    -- a refusal leaves the object as its recovery left it
    pub left_answered : (old : Option ℕ) (recovered : Result V StateFault) → MatchResult recovered (λ v. with_operations b x ≡ Ok (view v)) (λ e. (e ≡ states.NoMemory) ⊎ (with_operations b x ≡ Err e))
        → IfOk recovered (λ v. operations_front b (view v).nodes ≡ (view v).nodes) → IfOk recovered (λ v. s_new ≡ state_after b s (view v).nodes)
        → IfErr recovered (λ e. s_new ≡ state_left b x s e) → (result : Result V ResumeFault) → result ≡ answer_of old recovered → Left result
    left_answered old recovered is rows state left result e = subst Left (sym e) (of_answer old recovered (leaves recovered is rows state left))
