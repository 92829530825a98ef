-- How a job goes on with what the logs of a run give.

use Rattle.std.proofs.Common.{ℕ, List, [], ◌≡◌, ◌⊎◌, inl, inr, Result, Ok, Err, refl, sym, subst, ◌∙◌}
use Rattle.onll_merge.specs.declared.fault.StateFault.{StateFault}
use Rattle.onll_merge.specs.Recovered.{Recovered}
use Rattle.onll_text.specs.Kinds.{ObjectKind}
use Rattle.onll_outside.specs.Views.{StoreView}
use Rattle.onll_task.specs.declared.answer.Stop.{Stop}
use Rattle.onll_task.specs.declared.ending.Ending.{Ending}
use Rattle.onll_task.specs.declared.ending.Ending.TheVariants.{Done, BadLog}
use Rattle.onll_task.specs.Doing.{Stage, DoesStage, onto_stage}
use Rattle.onll_task.specs.Faults.{fault_line}
use Rattle.onll_task.specs.Job.{Job, Say, JobEnds, Decides}
use Rattle.onll_task.specs.Recovering.{on_recovery, recovery_of, given_stage, recovery_stage}
use Rattle.onll_task.specs.Stop.{StopSays}
use Rattle.onll_task.proofs.ImageFiles.{reading_images_never}
use Rattle.onll_task.proofs.Jobs.{Never, IsRare}
use Rattle.onll_task.proofs.Onwards.{goes_same, goes_after, stay_more}
use Rattle.onll_task.proofs.Stages.{StopsSo-on, says_stops, none_changes, none_stays, none_then, stay_same}

-- ---- one stage onto another
pub onto_does : {X Y V W : Type 0} {store mid after : StoreView} {first : Stage X} {last : X → Stage Y} {x : V → X} {v : V} {y : W → Y} {r : Result W Stop}
    → DoesStage [] store mid first x (Ok v) → DoesStage [] mid after (last (x v)) y r → DoesStage [] store after (onto_stage first last) y r
onto_does {X} {Y} {store = store} {mid} {after} {first} {last} {x} {v} {y} {r = Ok w} a b = record {
  goes = λ next. goes_after store mid after ((onto_stage first last).job next) ((last (x v)).job next) (next (y w)) (a.goes (λ (value : X). (last value).job next)) (b.goes next);
  gives = λ before same. (x v, a.gives before same, b.gives before (stay_more before store mid same (none_stays a.files)));
  stops = tt;
  files = none_then a.files b.files;
}
onto_does {X} {Y} {store = store} {mid} {after} {first} {last} {x} {v} {y} {r = Err s} a b = record {
  goes = tt;
  gives = tt;
  stops = λ next. StopsSo-on store mid after ((onto_stage first last).job next) ((last (x v)).job next) s (a.goes (λ (value : X). (last value).job next)) (b.stops next);
  files = none_then a.files b.files;
}

pub onto_stops : {X Y V W : Type 0} {store after : StoreView} {first : Stage X} {last : X → Stage Y} {x : V → X} {y : W → Y} {s : Stop}
    → DoesStage [] store after first x (Err s) → DoesStage [] store after (onto_stage first last) y (Err s)
onto_stops {X} {last = last} a = record { goes = tt; gives = tt; stops = λ next. a.stops (λ (value : X). (last value).job next); files = a.files }

-- ---- what is given
pub given_does : {V : Type 0} (store : StoreView) (given : Result Recovered StateFault) (value : V → Recovered) (v : V) → given ≡ Ok (value v)
    → DoesStage [] store store (given_stage given) value (Ok v)
given_does store given value v e = subst (λ (x : Result Recovered StateFault). DoesStage [] store store (given_stage x) value (Ok v)) (sym e)
    (record { goes = λ next. goes_same store (next (value v)); gives = λ before same. refl; stops = tt; files = none_changes [] store })

-- logs that give nothing are said to
pub given_stops : {V : Type 0} (store : StoreView) (given : Result Recovered StateFault) (value : V → Recovered) (fault : StateFault) (s : Stop) → given ≡ Err fault
    → StopSays s (λ end said. (end ≡ BadLog) × (said ≡ fault_line fault)) → DoesStage [] store store (given_stage given) value (Err s)
given_stops {V} store given value fault s e says =
    let stops : (next : Recovered → Job) → _ = λ next. says_stops store store (Say BadLog (fault_line fault)) s (λ end said. (end ≡ BadLog) × (said ≡ fault_line fault)) (stay_same store)
    (λ end said k. ((λ d. let no : Done ≡ BadLog = sym d ∙ k.0 in cc), (k.0, k.1, stay_same store, ((refl, refl), (refl, refl))))) says in
    subst (λ (x : Result Recovered StateFault). DoesStage {V = V} [] store store (given_stage x) value (Err s)) (sym e)
    (record { goes = tt; gives = tt; stops = stops; files = none_changes [] store })

-- ---- endings
module _ (next : Recovered → Job) where
  -- what goes on with a recovery never ends so
  pub recovery_never : (ending : Ending) → IsRare ending → (k : ObjectKind) (init logs : List ℕ) (threads : ℕ) → ((r : Recovered) → Never ending (next r))
      → Never ending ((recovery_stage k init logs threads).job next)
  recovery_never ending rare k init logs threads never =
      reading_images_never ending logs threads 0 (λ images. on_recovery next (recovery_of k init images)) (λ images. by (recovery_of k init images))
    where
      by : (given : Result Recovered StateFault) → Never ending (on_recovery next given)
      by (Ok r) = never r
      by (Err fault) = λ e. subst IsRare (sym e) rare

  -- it is said that logs are bad, or what they give goes on
  pub recovery_ends : (store after : StoreView) (given : Result Recovered StateFault) (ending : Ending) (text : List ℕ)
      → JobEnds store after (on_recovery next given) ending text
      → (ending ≡ BadLog) ⊎ ((r : Recovered) × (given ≡ Ok r) × JobEnds store after (next r) ending text)
  recovery_ends store after (Ok r) ending text h = inr (r, refl, h)
  recovery_ends store after (Err fault) ending text h = inl h.0

  pub recovery_decides : (store : StoreView) (given : Result Recovered StateFault) (r : Recovered) (ending : Ending) (text : List ℕ) → given ≡ Ok r
      → Decides store (next r) ending text → Decides store (on_recovery next given) ending text
  recovery_decides store given r ending text e d = subst (λ (x : Result Recovered StateFault). Decides store (on_recovery next x) ending text) (sym e) d
