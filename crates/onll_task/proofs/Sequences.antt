-- How stages that give nothing are done, alone and one after the other.

use Rattle.std.proofs.Common.{ℕ, Bool, true, ◌≡◌, List, [], ◌∷◌, inr, sym, subst, Result, Ok, Err, Vec}
use Rattle.std.specs.Result.{IsErrAnd}
use Rattle.std.specs.List.{AllByRecursion}
use Rattle.std.proofs.lemmas.Result.{err_from_is_err_and}
use Rattle.onll_outside.specs.Views.{StoreView, SameOthers, SameFaults, SameDevices, FileHolds}
use Rattle.onll_task.specs.declared.answer.Stop.{Stop}
use Rattle.onll_task.specs.declared.answer.Stop.TheVariants.{NoMemory}
use Rattle.onll_open.specs.Files.{SameBut}
use Rattle.onll_task.specs.Job.{Job}
use Rattle.onll_task.specs.Doing.{Task, Stage, after_stage, write_stage, assured_stage, then_stage, StopsSo, Fulfils, DoesStage}
use Rattle.onll_task.proofs.Onwards.{goes_after, on_write, write_leaves, stay_cut}
use Rattle.onll_task.proofs.Stages.{StopsSo-on, stay_same, none_changed, none_changes, then_changes, read_does}

-- ---- the files that stages change
-- a name that is none of these is none of those
abbrev pub Named : (few names : List (List ℕ)) → Type 0
Named few names = (other : List ℕ) → AllByRecursion (λ name. other ≡ name → ⊥) names → AllByRecursion (λ name. other ≡ name → ⊥) few

pub but_wider : {few names : List (List ℕ)} {store after : StoreView} → Named few names → SameBut few store after → SameBut names store after
but_wider named same = record { tells = same.tells; file = λ other differs. same.file other (named other differs) }

pub one_changes : {name : List ℕ} {store after : StoreView} → SameOthers name store after → SameBut (name ∷ []) store after
one_changes others = record { tells = others.tells; file = λ other differs. others.file other differs.0 }

-- ---- what is assured
pub assured_begins : {V : Type 0} (store : StoreView) (b : Bool) (v : V) → b ≡ true → DoesStage {V = V} [] store store (assured_stage b) (λ _. tt) (Ok v)
assured_begins store b v e = record {
  goes = λ next. record { ends = λ after ending text h. (e, h); cut = λ after h. inr (e, h) };
  gives = λ before same. e;
  stops = tt;
  files = none_changed store;
}

-- what is assured, before a function that does the rest
pub assured_does : {A : Type 0} {names : List (List ℕ)} {store after : StoreView} {b : Bool} {r : Result (Vec ℕ A) Stop} (next : Unit {0} → Task)
    → b ≡ true → Fulfils names store after (next tt) r → Fulfils names store after (after_stage (assured_stage b) next) r
assured_does {store = store} {b = b} next e rest = read_does next (assured_begins {V = Unit {0}} store b tt e) rest

-- ---- bytes are written
pub bytes_wrote : {V : Type 0} (store after : StoreView) (name bytes : List ℕ) (v : V) → FileHolds after name bytes → SameOthers name store after → SameFaults store after → SameDevices store after
    → DoesStage {V = V} (name ∷ []) store after (write_stage name bytes) (λ _. tt) (Ok v)
bytes_wrote store after name bytes v held others faults devices = record {
  goes = λ next. on_write store after name bytes (next tt) (record { files = write_leaves store after name bytes held others; counts = (faults, devices) });
  gives = λ before same. tt;
  stops = tt;
  files = one_changes others;
}

-- ---- one after the other
module _ {names few : List (List ℕ)} (first last : Stage (Unit {0})) (named : Named few names) where
  -- a stage that was done, before one that is done or stops
  pub both_begin : {others : List (List ℕ)} {store mid after : StoreView} {r : Result (Unit {0}) Stop} → Named others names → DoesStage {V = Unit {0}} few store mid first (λ done. done) (Ok tt)
      → DoesStage others mid after last (λ done. done) r → DoesStage names store after (then_stage first last) (λ done. done) r
  both_begin {others} {store} {mid} {after} {r = Ok v} more a b = record {
    goes = λ next. goes_after store mid after (first.job (λ _. last.job next)) (last.job next) (next tt) (a.goes (λ _. last.job next)) (b.goes next);
    gives = λ before same. tt;
    stops = tt;
    files = then_changes names store mid after (but_wider named a.files) (but_wider more b.files);
  }
  both_begin {others} {store} {mid} {after} {r = Err s} more a b = record {
    goes = tt;
    gives = tt;
    stops = λ next. StopsSo-on store mid after (first.job (λ _. last.job next)) (last.job next) s (a.goes (λ _. last.job next)) (b.stops next);
    files = then_changes names store mid after (but_wider named a.files) (but_wider more b.files);
  }

  -- the first stage stopped
  pub first_stops : {store after : StoreView} {s : Stop} → DoesStage {V = Unit {0}} few store after first (λ done. done) (Err s) → DoesStage {V = Unit {0}} names store after (then_stage first last) (λ done. done) (Err s)
  first_stops a = record { goes = tt; gives = tt; stops = λ next. a.stops (λ _. last.job next); files = but_wider named a.files }

  -- memory could not be had after the first stage was done
  pub cut_between : {store mid : StoreView} {r : Result (Unit {0}) Stop} → DoesStage {V = Unit {0}} few store mid first (λ done. done) (Ok tt) → IsErrAnd r (λ stop. stop ≡ NoMemory)
      → DoesStage names store mid (then_stage first last) (λ done. done) r
  cut_between {store} {mid} {r} a h =
      let p = err_from_is_err_and r h in
      let stops : (next : Unit {0} → Job) → StopsSo store mid ((then_stage first last).job next) p.0 =
      λ next. subst (StopsSo store mid ((then_stage first last).job next)) (sym p.2) ((a.goes (λ _. last.job next)).cut mid (stay_cut mid mid (last.job next) (stay_same mid))) in
      subst (DoesStage names store mid (then_stage first last) (λ (done : Unit {0}). done)) (sym p.1) (record { goes = tt; gives = tt; stops = stops; files = but_wider named a.files })

-- memory could not be had before any call of the store
pub none_begun : {V X : Type 0} (names : List (List ℕ)) (store : StoreView) (stage : Stage X) {value : V → X} {r : Result V Stop} → IsErrAnd r (λ stop. stop ≡ NoMemory) → DoesStage names store store stage value r
none_begun names store stage {value} {r} h =
    let p = err_from_is_err_and r h in
    let stops : (next : _) → StopsSo store store (stage.job next) p.0 = λ next. subst (StopsSo store store (stage.job next)) (sym p.2) (stay_cut store store (stage.job next) (stay_same store)) in
    subst (DoesStage names store store stage value) (sym p.1) (record { goes = tt; gives = tt; stops = stops; files = none_changes names store })
