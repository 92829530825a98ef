use Rattle.std.proofs.Common.{ℕ, ◌≡◌, ⊎_elim, List, [], ◌∷◌, length, map, take, sym, refl, ap, ◌∙◌, subst, arith}
use Rattle.std.proofs.lemmas.List.{take_at}
use Rattle.onll_model.specs.declared.call.Call.{Call}
use Rattle.onll_model.specs.declared.node.Node.{Node}
use Rattle.onll_model.specs.Object.{Behaviour}
use Rattle.onll_model.specs.Legal.{IsLegal}
use Rattle.onll_model.specs.Segment.{Segment}
use Rattle.onll_log.specs.declared.head.LogHead.{LogHead}
use Rattle.onll_merge.specs.Resumed.{entries_of}
use Rattle.onll_start.specs.Heads.{created_heads}
use Rattle.onll_start.proofs.Finding.{has_found}
use Rattle.onll_core.specs.Core.{CoreState}
use Rattle.onll_core.specs.Step.{steps_of}
use Rattle.onll_core.specs.First.{first_threads}
use Rattle.onll_core.specs.Resumed.{resumed_core_threads}
use Rattle.onll_core.specs.Created.{created_core, IsWithinLimits}
use Rattle.onll_core.specs.Outcomes.{ends_of, script_of}
use Rattle.onll_core.specs.Reached.{IsReached}
use Rattle.onll_core.specs.Crash.{heads_of}
use Rattle.onll_core.specs.Durable.{CoreGoesOn, CoreBegins, DurableLaw}
use Rattle.onll_core.proofs.Created.{are_first}
use Rattle.onll_core.proofs.Ready.{entries_few}
use Rattle.onll_core.proofs.ReachedCores.{created_reached, resumed_reached, steps_reached, reached_consistent, reached_report, reached_order, reached_counts, reached_returns}
use Rattle.onll_core.proofs.Stays.{steps_stay}
use Rattle.onll_core.proofs.Crashed.{steps_scripts}
use Rattle.onll_core.proofs.Recovered.{first_heads, resumed_heads, later}
use Rattle.onll_core.proofs.FoundCores.{goes_on_from, are_resumed}

-- Every core that is made of scripts, anew or from images, is durable, whatever steps its threads take.

first_scripts : {State Op Query Reply : Type 0} (heads : List LogHead) (scripts : List (List (Call State Op Query Reply))) → length heads ≡ length scripts → map script_of (first_threads heads scripts) ≡ scripts
first_scripts [] [] e = refl
first_scripts [] (script ∷ scripts) e = absurd (omega arith)
first_scripts (head ∷ heads) [] e = absurd (omega arith)
first_scripts (head ∷ heads) (script ∷ scripts) e = let rest = first_scripts heads scripts (omega arith) in λ i. script ∷ rest i

resumed_scripts : {State Op Query Reply : Type 0} (heads : List LogHead) (logs : List (List Segment)) (scripts : List (List (Call State Op Query Reply))) → length heads ≡ length logs → length heads ≡ length scripts
    → map script_of (resumed_core_threads heads logs scripts) ≡ scripts
resumed_scripts [] logs [] e f = refl
resumed_scripts [] logs (script ∷ scripts) e f = absurd (omega arith)
resumed_scripts (head ∷ heads) [] scripts e f = absurd (omega arith)
resumed_scripts (head ∷ heads) (log ∷ logs) [] e f = absurd (omega arith)
resumed_scripts (head ∷ heads) (log ∷ logs) (script ∷ scripts) e f = let rest = resumed_scripts heads logs scripts (omega arith) (omega arith) in λ i. script ∷ rest i

-- a core before any step, of these scripts and heads
pub record StartsSo {State Op Query Reply : Type 0} (b : Behaviour State Op Query Reply) (heads : List LogHead) (initial : State) (scripts : List (List (Call State Op Query Reply))) (c : CoreState State Op Query Reply) : Type 0 where
  pub reached : IsReached b (length scripts) c
  pub heads_are : heads_of c.threads ≡ heads
  pub scripts_are : map script_of c.threads ≡ scripts
  pub initial_is : c.initial ≡ initial
  pub base_is : c.base ≡ length c.trace

module _ {State Op Query Reply : Type 0} (b : Behaviour State Op Query Reply) (code : ℕ) (init : List ℕ) (initial : State) (scripts : List (List (Call State Op Query Reply))) (within : IsWithinLimits code scripts) where
  created_starts : StartsSo b (created_heads code init scripts) initial scripts (created_core initial code init scripts)
  created_starts =
      let first = are_first initial code init scripts within in
      record {
        reached = created_reached b initial code init scripts within;
        heads_are = first_heads (created_heads code init scripts) scripts first.all_heads;
        scripts_are = first_scripts (created_heads code init scripts) scripts first.all_heads;
        initial_is = refl;
        base_is = refl;
      }

  resumed_starts : (c : CoreState State Op Query Reply) → CoreGoesOn b code init initial scripts c → StartsSo b (created_heads code init scripts) initial scripts c
  resumed_starts c g =
      let heads = created_heads code init scripts in
      let from = goes_on_from b code init initial g.images scripts c g.resumed in
      let found = has_found b heads g.images from.found from.is in
      let a = are_resumed b code init initial scripts within g.images g.lines g.as_many from.found found from.room in
      let logs = entries_of from.found.logs in
      let many = a.all_heads ∙ sym a.resumable.threads in
      subst (StartsSo b heads initial scripts) from.core (record {
        reached = resumed_reached b (length scripts) initial from.found.nodes heads logs scripts a;
        heads_are = resumed_heads b heads logs scripts many a.all_heads;
        scripts_are = resumed_scripts heads logs scripts many a.all_heads;
        initial_is = refl;
        base_is = refl;
      })

  pub begun_starts : (c : CoreState State Op Query Reply) → CoreBegins b code init initial scripts c → StartsSo b (created_heads code init scripts) initial scripts c
  begun_starts c h = ⊎_elim (λ (e : created_core initial code init scripts ≡ c). subst (StartsSo b (created_heads code init scripts) initial scripts) e created_starts) (λ (g : CoreGoesOn b code init initial scripts c). resumed_starts c g) h

module _ {State Op Query Reply : Type 0} (b : Behaviour State Op Query Reply) where
  -- the report is one of the scripts, from the initial state and the base
  legal_report : (heads : List LogHead) (initial : State) (scripts : List (List (Call State Op Query Reply))) (first : CoreState State Op Query Reply) (ts : List ℕ) → StartsSo b heads initial scripts first
      → IsLegal b initial first.trace scripts (steps_of b first ts).trace (map ends_of (steps_of b first ts).threads)
  legal_report heads initial scripts first ts s =
      let c : CoreState State Op Query Reply = steps_of b first ts in
      let ends = map ends_of c.threads in
      let stays = steps_stay b first ts in
      let same : map script_of c.threads ≡ scripts = steps_scripts b first ts ∙ s.scripts_are in
      let long : c.base ≡ length first.trace = stays.base ∙ s.base_is in
      let base : take c.base c.trace ≡ first.trace = ap (λ (n : ℕ). take n c.trace) long ∙ (ap (take (length first.trace)) stays.trace.1 ∙ take_at first.trace stays.trace.0 (length first.trace) refl) in
      let report = reached_report b (length scripts) c (steps_reached b (length scripts) first ts s.reached) in
      subst (λ (z : State). IsLegal b z first.trace scripts c.trace ends) (stays.initial ∙ s.initial_is)
      (subst (λ (nodes : List Node). IsLegal b c.initial nodes scripts c.trace ends) base
      (subst (λ (calls : List (List (Call State Op Query Reply))). IsLegal b c.initial (take c.base c.trace) calls c.trace ends) same report))

  pub always_durable : DurableLaw b
  always_durable code init initial scripts first within begins ts =
      let count = length scripts in
      let heads = created_heads code init scripts in
      let s = begun_starts b code init initial scripts within first begins in
      let c = steps_of b first ts in
      let reached = steps_reached b count first ts s.reached in
      let consistent = reached_consistent b count c reached in
      record {
        sound = consistent.sound;
        legal = legal_report heads initial scripts first ts s;
        in_time = reached_order b count c reached;
        fences = reached_counts b count c reached;
        entries = entries_few count c consistent;
        returns = reached_returns b count c reached;
        based = (steps_stay b first ts).base ∙ s.base_is;
        crash = λ images left. later b count first ts heads images s.reached s.heads_are left;
      }
