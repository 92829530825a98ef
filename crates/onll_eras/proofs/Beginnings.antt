-- How an era begins, one stage after the other.

use Rattle.std.proofs.Common.{ℕ, suc, ◌≡◌, ◌+◌, ◌-◌, ◌<◌, ◌≤◌, List, [], ◌∷◌, ◌++◌, sym, subst, arith, Result, Ok, Err, length}
use Rattle.std.specs.Result.{IsErrAnd}
use Rattle.onll_log.specs.declared.head.LogHead.{LogHead}
use Rattle.onll_log.specs.Head.{head_for, head_line}
use Rattle.onll_outside.specs.Views.{StoreView}
use Rattle.onll_checkpoint.specs.Checkpoint.{CheckpointState}
use Rattle.onll_checkpoint.specs.Text.{lines_for}
use Rattle.onll_checkpoint.specs.Grammar.{checkpoint_image}
use Rattle.onll_task.specs.declared.answer.Stop.{Stop}
use Rattle.onll_task.specs.declared.answer.Stop.TheVariants.{NoMemory}
use Rattle.onll_open.specs.Names.{log_name, log_names}
use Rattle.onll_open.specs.Files.{SameBut}
use Rattle.onll_task.specs.Job.{Job, JobGoesOn}
use Rattle.onll_task.specs.Doing.{Stage, StopsSo, DoesStage, keep_stage, write_stage, then_stage}
use Rattle.onll_task.proofs.Onwards.{goes_same, goes_after, others_on}
use Rattle.onll_task.proofs.Sequences.{Named, both_begin, first_stops, cut_between}
use Rattle.onll_task.proofs.Stages.{StopsSo-on, none_changes}
use Rattle.onll_eras.specs.Names.{area_name, text_name, area_files}
use Rattle.onll_eras.specs.EraJob.{area_of, header_said, area_said, keeping_headers, headers_stage, begun_stage}

-- ---- the logs
module _ (logs : List ℕ) (code : ℕ) (text : List ℕ) (threads : ℕ) where
  -- what is left to do from thread t on
  abbrev left_from : ℕ → Job → Job
  left_from t next = keeping_headers logs code text threads t (threads - t) next

  -- the log of this thread, with this head
  abbrev log_stage : ℕ → LogHead → Stage (Unit {0})
  log_stage t head = keep_stage (log_name logs t) (head_line head ∷ []) 1 (header_said t)

  -- so many logs were begun
  pub record LogsBegun (store mid : StoreView) (t : ℕ) : Type 0 where
    pub on : (next : Job) → JobGoesOn store mid (keeping_headers logs code text threads 0 threads next) (keeping_headers logs code text threads t (threads - t) next)
    pub others : SameBut (log_names logs 0 threads) store mid

  pub no_logs : (store : StoreView) → LogsBegun store store 0
  no_logs store = record {
    on = λ next. let e : threads ≡ threads - 0 = omega arith in
        subst (λ (n : ℕ). JobGoesOn store store (keeping_headers logs code text threads 0 threads next) (keeping_headers logs code text threads 0 n next)) e (goes_same store (keeping_headers logs code text threads 0 threads next));
    others = none_changes (log_names logs 0 threads) store;
  }

  more_others : (store mid new : StoreView) (t : ℕ) → t < threads → SameBut (log_names logs 0 threads) store mid → SameBut (log_name logs t ∷ []) mid new → SameBut (log_names logs 0 threads) store new
  more_others store mid new t l a b = others_on store mid new logs threads t l a (record { tells = b.tells; file = λ other d. b.file other (d, tt) })

  pub more_logs : (store mid new : StoreView) (t : ℕ) (head : LogHead) → t < threads → head ≡ head_for 2 t threads code text → LogsBegun store mid t
      → DoesStage {V = Unit {0}} (log_name logs t ∷ []) mid new (log_stage t head) (λ done. done) (Ok tt) → LogsBegun store new (t + 1)
  more_logs store mid new t head l is so b =
      let here = subst (λ (h : LogHead). DoesStage {V = Unit {0}} (log_name logs t ∷ []) mid new (log_stage t h) (λ (done : Unit {0}). done) (Ok tt)) is b in
      record {
        on = λ next.
            let up : suc t ≡ t + 1 = omega arith in
            let less : threads - t ≡ suc (threads - (t + 1)) = omega arith in
            goes_after store mid new (keeping_headers logs code text threads 0 threads next) (left_from t next) (left_from (t + 1) next) (so.on next)
            (subst (λ (n : ℕ). JobGoesOn mid new (keeping_headers logs code text threads t n next) (left_from (t + 1) next)) (sym less)
            (subst (λ (u : ℕ). JobGoesOn mid new (keeping_headers logs code text threads t (suc (threads - (t + 1))) next) (keeping_headers logs code text threads u (threads - (t + 1)) next)) up
            (here.goes (λ _. keeping_headers logs code text threads (suc t) (threads - (t + 1)) next))));
        others = more_others store mid new t l so.others b.files;
      }

  pub all_logs : (store mid : StoreView) (t : ℕ) → threads ≤ t → LogsBegun store mid t
      → DoesStage {V = Unit {0}} (log_names logs 0 threads) store mid (headers_stage logs code text threads) (λ done. done) (Ok tt)
  all_logs store mid t l so = record {
    goes = λ next. let none : threads - t ≡ 0 = omega arith in
        subst (λ (n : ℕ). JobGoesOn store mid (keeping_headers logs code text threads 0 threads (next tt)) (keeping_headers logs code text threads t n (next tt))) none (so.on (next tt));
    gives = λ before same. tt;
    stops = tt;
    files = so.others;
  }

  pub log_stops : (store mid new : StoreView) (t : ℕ) (head : LogHead) (s : Stop) → t < threads → head ≡ head_for 2 t threads code text → LogsBegun store mid t
      → DoesStage {V = Unit {0}} (log_name logs t ∷ []) mid new (log_stage t head) (λ done. done) (Err s)
      → DoesStage {V = Unit {0}} (log_names logs 0 threads) store new (headers_stage logs code text threads) (λ done. done) (Err s)
  log_stops store mid new t head s l is so b =
      let here = subst (λ (h : LogHead). DoesStage {V = Unit {0}} (log_name logs t ∷ []) mid new (log_stage t h) (λ (done : Unit {0}). done) (Err s)) is b in
      record {
        goes = tt;
        gives = tt;
        stops = λ next.
            let less : threads - t ≡ suc (threads - (t + 1)) = omega arith in
            StopsSo-on store mid new (keeping_headers logs code text threads 0 threads (next tt)) (left_from t (next tt)) s (so.on (next tt))
            (subst (λ (n : ℕ). StopsSo mid new (keeping_headers logs code text threads t n (next tt)) s) (sym less) (here.stops (λ _. keeping_headers logs code text threads (suc t) (threads - (t + 1)) (next tt))));
        files = more_others store mid new t l so.others b.files;
      }

-- ---- the logs, the file of the text, and the area
front_named : (xs ys : List (List ℕ)) → Named xs (xs ++ ys)
front_named [] ys other d = tt
front_named (x ∷ xs) ys other d = (d.0, front_named xs ys other d.1)

back_named : (xs ys : List (List ℕ)) → Named ys (xs ++ ys)
back_named [] ys other d = d
back_named (x ∷ xs) ys other d = back_named xs ys other d.1

module _ (ckpt : List ℕ) (code threads : ℕ) (c : CheckpointState) where
  abbrev area : List ℕ
  area = area_name ckpt (area_of c)

  abbrev init : List ℕ
  init = text_name ckpt (area_of c)

  abbrev logs : List (List ℕ)
  logs = log_names area 0 threads

  abbrev rest : List (List ℕ)
  rest = init ∷ area ∷ []

  abbrev files : List (List ℕ)
  files = area_files ckpt (area_of c) threads

  logs_named : Named logs files
  logs_named other d = front_named logs (init ∷ []) other d.1

  rest_named : Named rest files
  rest_named other d = ((back_named logs (init ∷ []) other d.1).0, (d.0, tt))

  text_named : Named (init ∷ []) rest
  text_named other d = (d.0, tt)

  area_named : Named (area ∷ []) rest
  area_named other d = d.1

  abbrev headers : Stage (Unit {0})
  headers = headers_stage area code c.text threads

  abbrev text : Stage (Unit {0})
  text = write_stage init c.text

  abbrev kept : Stage (Unit {0})
  kept = keep_stage area (checkpoint_image c (lines_for (length c.text))) 2 (area_said (area_of c))

  abbrev begun : Stage (Unit {0})
  begun = begun_stage ckpt code threads c

  pub era_stops : (store after : StoreView) (s : Stop) → DoesStage {V = Unit {0}} logs store after headers (λ done. done) (Err s) → DoesStage {V = Unit {0}} files store after begun (λ done. done) (Err s)
  era_stops store after s a = first_stops headers (then_stage text kept) logs_named a

  pub era_cut : (store mid : StoreView) (r : Result (Unit {0}) Stop) → DoesStage {V = Unit {0}} logs store mid headers (λ done. done) (Ok tt) → IsErrAnd r (λ stop. stop ≡ NoMemory)
      → DoesStage {V = Unit {0}} files store mid begun (λ done. done) r
  era_cut store mid r a h = cut_between headers (then_stage text kept) logs_named a h

  pub text_stops : (store mid after : StoreView) (s : Stop) → DoesStage {V = Unit {0}} logs store mid headers (λ done. done) (Ok tt) → DoesStage {V = Unit {0}} (init ∷ []) mid after text (λ done. done) (Err s)
      → DoesStage {V = Unit {0}} files store after begun (λ done. done) (Err s)
  text_stops store mid after s a b = both_begin headers (then_stage text kept) logs_named {others = rest} rest_named a (first_stops text kept text_named b)

  pub era_begins : (store mid wrote after : StoreView) (r : Result (Unit {0}) Stop) → DoesStage {V = Unit {0}} logs store mid headers (λ done. done) (Ok tt) → DoesStage {V = Unit {0}} (init ∷ []) mid wrote text (λ done. done) (Ok tt)
      → DoesStage {V = Unit {0}} (area ∷ []) wrote after kept (λ done. done) r → DoesStage {V = Unit {0}} files store after begun (λ done. done) r
  era_begins store mid wrote after r a b d = both_begin headers (then_stage text kept) logs_named {others = rest} rest_named a (both_begin text kept text_named {others = area ∷ []} area_named b d)
