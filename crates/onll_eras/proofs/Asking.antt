-- What is asked of the newest era, stage by stage.

use Rattle.std.proofs.Common.{ℕ, List, [], ◌∷◌, ◌++◌, ◌≡◌, ◌⊎◌, inl, inr, Option, Some, None, Result, Ok, Err, Vec, length, refl, sym, subst, arith}
use Rattle.std.specs.Prelude.{◌%◌}
use Rattle.std.specs.List.{AllByRecursion}
use Rattle.onll_areas.specs.Newest.{area_lines, newest, newest_of}
use Rattle.onll_checkpoint.specs.Checkpoint.{CheckpointState}
use Rattle.onll_checkpoint.specs.Grammar.{checkpoint_in}
use Rattle.onll_merge.specs.Recovered.{Recovered}
use Rattle.onll_model.specs.Trace.{state_after}
use Rattle.onll_outside.specs.Views.{StoreView}
use Rattle.onll_text.specs.declared.any_object.AnyObject.{AnyObject}
use Rattle.onll_text.specs.Init.{kind_and_state, init_of}
use Rattle.onll_text.specs.Kinds.{ObjectKind, kind_at, on_object}
use Rattle.onll_text.proofs.EachKind.{by_kind}
use Rattle.onll_task.specs.declared.answer.Stop.{Stop}
use Rattle.onll_task.specs.Doing.{Task, Stage, after_stage, Fulfils, DoesStage, BeginsBy}
use Rattle.onll_task.specs.Recovering.{recovery_stage}
use Rattle.onll_task.specs.Job.{Read}
use Rattle.onll_task.proofs.Onwards.{goes_after, stay_more}
use Rattle.onll_task.proofs.Sequences.{Named, but_wider}
use Rattle.onll_task.proofs.Stages.{StopsSo-on, none_stays, none_then}
use Rattle.onll_eras.specs.declared.era.Asked.{Asked}
use Rattle.onll_eras.specs.declared.era.Asked.TheVariants as asks
use Rattle.onll_eras.specs.declared.era.NewestEra.{NewestEra}
use Rattle.onll_eras.specs.declared.era.EraCall.{EraCall}
use Rattle.onll_eras.specs.EraCall.{era_found, next_by, asked_work, with_recovered, call_work, found_task, DoesFound}
use Rattle.onll_eras.specs.EraJob.{AreaBytes, EraNext, area_stage, areas_stage, era_task, on_started, with_newest, restored_with, checkpoint_with}
use Rattle.onll_eras.specs.EraReports.{newest_in, number_in, place_in}
use Rattle.onll_eras.specs.Eras.{Era}
use Rattle.onll_eras.specs.Names.{EraNames, area_name, area_files}

-- ---- both areas
-- what an area's file holds
abbrev pub AreaOf : Option CheckpointState → List ℕ → Type 0
AreaOf found bytes = found ≡ checkpoint_in (area_lines bytes)

-- the newest of what both hold
abbrev pub NewestIn : Option CheckpointState → AreaBytes → Type 0
NewestIn found held = found ≡ newest held.even held.odd

module _ (ckpt : List ℕ) {store mid after : StoreView} where
  pub areas_begin : (even odd : Option CheckpointState) → BeginsBy [] store mid (area_stage (area_name ckpt 0)) AreaOf (Ok even)
      → BeginsBy [] mid after (area_stage (area_name ckpt 1)) AreaOf (Ok odd)
      → BeginsBy [] store after (areas_stage ckpt) NewestIn (Ok (newest_of even odd))
  areas_begin even odd first second = record {
    goes = record {
      value = record { even = first.goes.value; odd = second.goes.value };
      fits = subst (λ e. newest_of e odd ≡ newest first.goes.value second.goes.value) (sym first.goes.fits)
          (subst (λ o. newest_of (checkpoint_in (area_lines first.goes.value)) o ≡ newest first.goes.value second.goes.value) (sym second.goes.fits) refl);
      goes = λ next. goes_after store mid after ((areas_stage ckpt).job next)
          (Read (area_name ckpt 1) (λ odd. next (record { even = first.goes.value; odd = odd })))
          (next (record { even = first.goes.value; odd = second.goes.value }))
          (first.goes.goes (λ even. Read (area_name ckpt 1) (λ odd. next (record { even = even; odd = odd }))))
          (second.goes.goes (λ odd. next (record { even = first.goes.value; odd = odd })));
      gives = λ before same. (first.goes.gives before same, second.goes.gives before (stay_more before store mid same (none_stays first.files)));
    };
    stops = tt;
    files = none_then first.files second.files;
  }

  pub odd_stops : (even : Option CheckpointState) (s : Stop) → BeginsBy [] store mid (area_stage (area_name ckpt 0)) AreaOf (Ok even)
      → BeginsBy [] mid after (area_stage (area_name ckpt 1)) AreaOf (Err s) → BeginsBy [] store after (areas_stage ckpt) NewestIn (Err s)
  odd_stops even s first second = record {
    goes = tt;
    stops = λ next. StopsSo-on store mid after ((areas_stage ckpt).job next)
        (Read (area_name ckpt 1) (λ odd. next (record { even = first.goes.value; odd = odd }))) s
        (first.goes.goes (λ even. Read (area_name ckpt 1) (λ odd. next (record { even = even; odd = odd }))))
        (second.stops (λ odd. next (record { even = first.goes.value; odd = odd })));
    files = none_then first.files second.files;
  }

pub even_stops : (ckpt : List ℕ) {store after : StoreView} (s : Stop) → BeginsBy [] store after (area_stage (area_name ckpt 0)) AreaOf (Err s)
    → BeginsBy [] store after (areas_stage ckpt) NewestIn (Err s)
even_stops ckpt s first = record {
  goes = tt;
  stops = λ next. first.stops (λ even. Read (area_name ckpt 1) (λ odd. next (record { even = even; odd = odd })));
  files = first.files;
}

-- ---- what logs gave
module _ {A : Type 0} (names : List (List ℕ)) (store after : StoreView) (files : EraNames) (threads : ℕ) (era : NewestEra) (k : ObjectKind) (s state : k.State) (r : Recovered)
    (result : Result (Vec ℕ A) Stop) where
  pub gave_does : (asked : Asked) → state ≡ state_after k.means s r.nodes → Fulfils names store after (with_recovered asked files threads era k state r) result
      → Fulfils names store after (next_by asked files threads era.newest.now (era_found era) k s r) result
  gave_does asks.Restore is h = subst (λ (t : k.State). Fulfils names store after (restored_with era.newest.now (era_found era) k t r) result) is h
  gave_does asks.Checkpoint is h =
      subst (λ (t : k.State). Fulfils names store after (checkpoint_with files.ckpt threads (era_found era) k t (length r.nodes)) result) is h

-- ---- the files of both areas
left_of : (P : List ℕ → Type 0) (xs ys : List (List ℕ)) → AllByRecursion P (xs ++ ys) → AllByRecursion P xs
left_of P [] ys h = tt
left_of P (x ∷ xs) ys h = (h.0, left_of P xs ys h.1)

right_of : (P : List ℕ → Type 0) (xs ys : List (List ℕ)) → AllByRecursion P (xs ++ ys) → AllByRecursion P ys
right_of P [] ys h = h
right_of P (x ∷ xs) ys h = right_of P xs ys h.1

of_two : (n : ℕ) → (n % 2 ≡ 0) ⊎ (n % 2 ≡ 1)
of_two n = grind arith

-- those of either area are among them
pub area_named : (ckpt : List ℕ) (threads n : ℕ) → Named (area_files ckpt (n % 2) threads) (area_files ckpt 0 threads ++ area_files ckpt 1 threads)
area_named ckpt threads n = by (of_two n)
  where
    by : (n % 2 ≡ 0) ⊎ (n % 2 ≡ 1) → Named (area_files ckpt (n % 2) threads) (area_files ckpt 0 threads ++ area_files ckpt 1 threads)
    by (inl e) = λ other h. subst (λ a. AllByRecursion (λ name. other ≡ name → ⊥) (area_files ckpt a threads)) (sym e)
        (left_of (λ name. other ≡ name → ⊥) (area_files ckpt 0 threads) (area_files ckpt 1 threads) h)
    by (inr e) = λ other h. subst (λ a. AllByRecursion (λ name. other ≡ name → ⊥) (area_files ckpt a threads)) (sym e)
        (right_of (λ name. other ≡ name → ⊥) (area_files ckpt 0 threads) (area_files ckpt 1 threads) h)

pub begins_wider : {V X : Type 0} {few names : List (List ℕ)} {store after : StoreView} {stage : Stage X} {value : V → X} {r : Result V Stop} → Named few names
    → DoesStage few store after stage value r → DoesStage names store after stage value r
begins_wider named b = record { goes = b.goes; gives = b.gives; stops = b.stops; files = but_wider named b.files }

-- ---- the newest era
-- the logs of an era are recovered over this state
abbrev pub era_over : EraNext → Option CheckpointState → Era → ℕ → (k : ObjectKind) → k.State → Task
era_over next from era threads k s = after_stage (recovery_stage k era.text era.logs threads) (next from era k s)

-- the era of this checkpoint, with this text, this file and these logs
abbrev pub era_by : Option CheckpointState → (text source logs : List ℕ) → Era
era_by newest text source logs =
    record { number = number_in (newest_in newest); place = place_in (newest_in newest); text = text; source = source; logs = logs }

module _ {A : Type 0} (writes : List (List ℕ)) (store after : StoreView) (names : EraNames) (bytes : List ℕ) (threads : ℕ) (first : AnyObject) (next : EraNext)
    (newest : Option CheckpointState) (result : Result (Vec ℕ A) Stop) where
  -- that of a checkpoint, whose text says its object
  pub some_does : (c : CheckpointState) (text source logs : List ℕ) → newest ≡ Some c → text ≡ c.text → source ≡ area_name names.ckpt (c.number % 2) → logs ≡ area_name names.ckpt (c.number % 2)
      → Fulfils writes store after (on_started (era_by newest text source logs) (init_of text) (era_over next newest (era_by newest text source logs) threads)) result
      → Fulfils writes store after (era_task names bytes threads first newest next) result
  some_does c text source logs is e₁ e₂ e₃ h =
      let area = area_name names.ckpt (c.number % 2) in
      let known = subst (λ (n : Option CheckpointState). Fulfils writes store after (on_started (era_by n text source logs) (init_of text) (era_over next n (era_by n text source logs) threads)) result) is h in
      let said = subst (λ (t : List ℕ). Fulfils writes store after (on_started (era_by (Some c) t source logs) (init_of t) (era_over next (Some c) (era_by (Some c) t source logs) threads)) result) e₁ known in
      let named = subst (λ (n : List ℕ). Fulfils writes store after (on_started (era_by (Some c) c.text n logs) (init_of c.text) (era_over next (Some c) (era_by (Some c) c.text n logs) threads)) result) e₂ said in
      let all = subst (λ (n : List ℕ). Fulfils writes store after (on_started (era_by (Some c) c.text area n) (init_of c.text) (era_over next (Some c) (era_by (Some c) c.text area n) threads)) result) e₃ named in
      subst (λ (n : Option CheckpointState). Fulfils writes store after (era_task names bytes threads first n next) result) (sym is) all

  -- era 0, whose object the initial state is
  pub first_does : (text : List ℕ) → newest ≡ None → text ≡ bytes
      → Fulfils writes store after (on_object (era_over next newest (era_by newest text names.init names.logs) threads) first) result
      → Fulfils writes store after (era_task names bytes threads first newest next) result
  first_does text is e h =
      let known = subst (λ (n : Option CheckpointState). Fulfils writes store after (on_object (era_over next n (era_by n text names.init names.logs) threads) first) result) is h in
      let said = subst (λ (t : List ℕ). Fulfils writes store after (on_object (era_over next None (era_by None t names.init names.logs) threads) first) result) e known in
      subst (λ (n : Option CheckpointState). Fulfils writes store after (era_task names bytes threads first n next) result) (sym is) said

-- over an object of whatever kind
pub object_does : {A : Type 0} (call : EraCall) (era : NewestEra) (store after : StoreView) (result : Result (Vec ℕ A) Stop) (object : AnyObject)
    → on_object (λ k s. DoesFound call era k s store after result) object → Fulfils (call_work call).writes store after (on_object (found_task call era) object) result
object_does call era store after result object h =
    let held = kind_and_state object in
    let does = subst (λ (says : Type 0). says) (by_kind {A = Type 0} (λ kind s. DoesFound call era (kind_at kind) s store after result) object) h in
    subst (λ (task : Task). Fulfils (call_work call).writes store after task result) (sym (by_kind {A = Task} (λ kind s. found_task call era (kind_at kind) s) object)) does.does

-- what is asked is the work of its command
pub asked_does : {A : Type 0} (writes : List (List ℕ)) (store after : StoreView) (asked : Asked) (names : EraNames) (threads : ℕ) (result : Result (Vec ℕ A) Stop)
    → Fulfils writes store after (with_newest names threads (next_by asked names threads)) result → Fulfils writes store after (asked_work asked names threads).task result
asked_does writes store after asks.Restore names threads result h = h
asked_does writes store after asks.Checkpoint names threads result h = h
