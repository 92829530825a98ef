-- What `ship` and `follow` promise is kept, by the exit of the call.

use Rattle.std.proofs.Common.{ℕ, List, ◌≡◌, ◌≤◌, inl, inr, length, take, cond, Bool, Option, Some, None, Result, Ok, Err, refl, sym, ap, ◌∙◌, subst, arith}
use Rattle.std.specs.List.{AllByRecursion, flat_map}
use Rattle.std.proofs.lemmas.List.{take_all}
use Rattle.std.proofs.lemmas.Slice.Eq.{bytes_eq-Decides}
use Rattle.onll_words.specs.Texts.{line_text}
use Rattle.onll_log.specs.Head.{heads_from}
use Rattle.onll_merge.specs.Recovered.{Recovered, expected_heads, state_recovered}
use Rattle.onll_outside.specs.Views.{StoreView, Puts}
use Rattle.onll_standby.specs.Stream.{Course, Shown, course}
use Rattle.onll_text.specs.Init.{init_of}
use Rattle.onll_text.specs.Kinds.{ObjectKind, kind_at}
use Rattle.onll_text.specs.Refusal.{Refusal}
use Rattle.onll_text.specs.declared.any_object.AnyObject.{AnyObject}
use Rattle.onll_text.proofs.EachKind.{kind_goes}
use Rattle.onll_task.specs.declared.ending.Ending.{Ending}
use Rattle.onll_task.specs.declared.ending.Ending.TheVariants.{Done, BadLog}
use Rattle.onll_task.specs.declared.ending.Exit.{Exit}
use Rattle.onll_task.specs.Doing.{Task}
use Rattle.onll_open.specs.Names.{log_names}
use Rattle.onll_task.specs.FileLines.{FitFile}
use Rattle.onll_task.specs.Images.{images_stage}
use Rattle.onll_task.specs.Job.{Job, JobEnds, Threads, Decides, on_value}
use Rattle.onll_task.specs.Printed.{exit_status}
use Rattle.onll_task.specs.Reading.{FileIsTold}
use Rattle.onll_task.specs.Writing.{written}
use Rattle.onll_shipping.specs.declared.ship_fault.ShipFault.{ShipFault}
use Rattle.onll_shipping.specs.FollowJob.{FollowData, longest_stream, course_task, follow_data, follow_data_lines, follow_task, followed_task}
use Rattle.onll_shipping.specs.Laws.{FollowsRecovered}
use Rattle.onll_shipping.proofs.Recovering.{follows_recovered}
use Rattle.onll_shipping.specs.ShipJob.{HeadedLog, ready, shipped_bytes, ship_logs_task}
use Rattle.onll_jobs.specs.Command.{Ship, Follow, form_of, FollowOver, over_task, object_task, over_work}
use Rattle.onll_jobs.specs.Says.{job_of, ExitSays, NoneRose, PutOverInit, PutWhole, SaysThis}
use Rattle.onll_jobs.specs.Seen.{Seen}
use Rattle.onll_jobs.specs.ShipPromises.{HasShipped, HasRefusedLogs, ShipPromises, FollowsStream, ShowsFaulty, FollowsShipped, FollowPromises, course_over, shipped_data}
use Rattle.onll_jobs.proofs.ExitCauses.{said_of, decided_exactly}
use Rattle.onll_jobs.proofs.Forms.{few-followed}
use Rattle.onll_jobs.proofs.SaidEnds.{IsSaid, ImagesEnd, can_write, images_read, said_read, whole_ends}

-- ---- ship
-- a file that was written holds what was written
written_here : (store : StoreView) (name bytes : List ℕ) → (written store name bytes).file name ≡ Some bytes
written_here store name bytes = ap (λ (b : Bool). cond {A = Option (List ℕ)} b (Some bytes) (store.file name)) ((bytes_eq-Decides name name).1 refl)

module _ (seen : Seen) (logs out : List ℕ) (threads : ℕ) (form : form_of seen.words ≡ Some (Ship logs threads out)) where
  images_end : (ending : Ending) → IsSaid ending → (h : PutWhole seen ending)
      → ImagesEnd seen.store seen.store_after (log_names logs 0 threads) (λ images. (ship_logs_task out (ready images)).job) ending h.text
  images_end ending said h = images_read seen.store_after ending h.text (said_read ending said).0 seen.store (log_names logs 0 threads)
      (λ images. (ship_logs_task out (ready images)).job)
      (subst (λ form. JobEnds seen.store seen.store_after (job_of form) ending h.text) form h.allowed)

  module _ (images : List (List (List ℕ))) (held : (images_stage logs threads).known seen.store images) where
    shipped_by : (h : PutWhole seen Done) (r : Result (List HeadedLog) ShipFault) → ready images ≡ r
        → JobEnds seen.store seen.store_after (ship_logs_task out r).job Done h.text → HasShipped seen logs threads out
    shipped_by h (Err fault) is ends = absurd (let e = ends.0 in cc)
    shipped_by h (Ok shipped) is (inl fails) = absurd (can_write seen.store seen.store_after out Done h.text tt fails)
    shipped_by h (Ok shipped) is (inr ends) = record {
      images = images;
      held = held;
      shipped = shipped;
      ready_to_ship = is;
      put = subst (Puts seen.sink seen.sink_after) ends.1 h.put;
      files = ends.2;
      stream = λ tells. ends.2.file (sym ends.2.tells ∙ tells) out ∙ written_here seen.store out (shipped_bytes shipped);
    }

    refused_by : (h : PutWhole seen BadLog) (r : Result (List HeadedLog) ShipFault) → ready images ≡ r
        → JobEnds seen.store seen.store_after (ship_logs_task out r).job BadLog h.text → HasRefusedLogs seen logs threads
    refused_by h (Err fault) is ends = record {
      images = images;
      held = held;
      fault = fault;
      refused = is;
      put = subst (Puts seen.sink seen.sink_after) ends.1 h.put;
      files = ends.2;
    }
    refused_by h (Ok shipped) is (inl fails) = absurd (can_write seen.store seen.store_after out BadLog h.text tt fails)
    refused_by h (Ok shipped) is (inr ends) = absurd (let e = ends.0 in cc)

  ship_put : PutWhole seen Done → HasShipped seen logs threads out
  ship_put h = let i = images_end Done tt h in shipped_by i.images i.known h (ready i.images) refl i.ends

  ship_refused : PutWhole seen BadLog → HasRefusedLogs seen logs threads
  ship_refused h = let i = images_end BadLog tt h in refused_by i.images i.known h (ready i.images) refl i.ends

pub ship_kept : (seen : Seen) (x : Exit) → ExitSays seen x → ShipPromises seen (exit_status x)
ship_kept seen x says = record {
  done = λ logs out threads form e. ship_put seen logs out threads form (said_of seen x Done (λ e. omega arith) e says);
  bad_log = λ logs out threads form e. ship_refused seen logs out threads form (said_of seen x BadLog (λ e. omega arith) e says);
}

-- ---- follow
module _ (store after : StoreView) (text : List ℕ) (k : ObjectKind) (init stream : List ℕ) (threads : ℕ) (s : k.State) where
  follows : JobEnds store after (follow_task k init stream threads s).job Done text → FollowsStream stream threads k init s store after text
  follows (inl fails) = absurd fails.0
  follows (inr h) = by ((course_over k init threads (take longest_stream h.0)).shown) refl h.1.1
    where
      by : (o : Option Shown) → (course_over k init threads (take longest_stream h.0)).shown ≡ o
          → JobEnds store after (course_task k.means k.wording s (length (take longest_stream h.0)) (course_over k init threads (take longest_stream h.0)) o).job Done text
          → FollowsStream stream threads k init s store after text
      by None is ends = record { bytes = take longest_stream h.0; read = record { bytes = h.0; held = h.1.0; accepted = refl }; no_fault = is; says = ends.1 }
      by (Some shown) is ends = absurd (let e = ends.0 in cc)

  shows : JobEnds store after (follow_task k init stream threads s).job BadLog text → ShowsFaulty stream threads k init s store after text
  shows (inl fails) = absurd fails.0
  shows (inr h) = by ((course_over k init threads (take longest_stream h.0)).shown) refl h.1.1
    where
      by : (o : Option Shown) → (course_over k init threads (take longest_stream h.0)).shown ≡ o
          → JobEnds store after (course_task k.means k.wording s (length (take longest_stream h.0)) (course_over k init threads (take longest_stream h.0)) o).job BadLog text
          → ShowsFaulty stream threads k init s store after text
      by None is ends = absurd (let e = ends.0 in cc)
      by (Some shown) is ends =
          record { bytes = take longest_stream h.0; read = record { bytes = h.0; held = h.1.0; accepted = refl }; shown = shown; fault = is; says = ends.1 }

module _ (seen : Seen) (init stream : List ℕ) (threads piece : ℕ) (form : form_of seen.words ≡ Some (Follow init threads stream piece)) where
  -- what is said over an object of each kind, where the call ends so, was put over the initial state of the file
  put_over : (Says : (k : ObjectKind) → List ℕ → k.State → StoreView → StoreView → List ℕ → Type 0) (ending : Ending) → IsSaid ending → (h : PutWhole seen ending)
      → ((k : ObjectKind) (bytes : List ℕ) (s : k.State) → JobEnds seen.store seen.store_after (follow_task k bytes stream threads s).job ending h.text → Says k bytes s seen.store seen.store_after h.text)
      → PutOverInit seen init Says
  put_over Says ending said h step =
      let read = whole_ends seen.store_after ending h.text (said_read ending said) seen.store init init_of (λ bytes object. (object_task (FollowOver threads stream piece) bytes object).job)
      (subst (λ form. JobEnds seen.store seen.store_after (job_of form) ending h.text) form h.allowed) in
      record {
        bytes = read.bytes;
        object = read.value;
        read = read.read;
        text = h.text;
        says = kind_goes {A = Task} (λ kind s. over_task (FollowOver threads stream piece) (kind_at kind) (Threads kind) read.bytes s)
            (λ task. JobEnds seen.store seen.store_after task.job ending h.text)
            (λ k s. Says k read.bytes s seen.store seen.store_after h.text) (λ says. says)
            (λ kind s known ends. step (kind_at kind) read.bytes s ends) read.value read.ends;
        put = h.put;
      }

  follow_put : PutWhole seen Done → PutOverInit seen init (FollowsStream stream threads)
  follow_put h = put_over (FollowsStream stream threads) Done tt h (λ k bytes s ends. follows seen.store seen.store_after h.text k bytes stream threads s ends)

  follow_refused : PutWhole seen BadLog → PutOverInit seen init (ShowsFaulty stream threads)
  follow_refused h = put_over (ShowsFaulty stream threads) BadLog tt h (λ k bytes s ends. shows seen.store seen.store_after h.text k bytes stream threads s ends)

-- ---- follow of what ship wrote
-- a stream that is told, is no longer than is read and shows no fault decides what is said
course_decides : (store : StoreView) (k : ObjectKind) (init stream stream_bytes : List ℕ) (threads : ℕ) (s : k.State) → FileIsTold store stream stream_bytes
    → length stream_bytes ≤ longest_stream → (course_over k init threads stream_bytes).shown ≡ None
    → Decides store (follow_task k init stream threads s).job Done
    (flat_map line_text (follow_data_lines k.wording (follow_data k.means s (length stream_bytes) (course_over k init threads stream_bytes))))
course_decides store k init stream stream_bytes threads s told within no_fault =
    let c : Course = course_over k init threads stream_bytes in
    let text : List ℕ = flat_map line_text (follow_data_lines k.wording (follow_data k.means s (length stream_bytes) c)) in
    let here : Decides store (followed_task k.means k.wording s (length stream_bytes) c).job Done text =
    subst (λ (o : Option Shown). Decides store (course_task k.means k.wording s (length stream_bytes) c o).job Done text) (sym no_fault) (refl, refl) in (
      stream_bytes,
      (
        told,
        subst (λ (front : List ℕ). Decides store (followed_task k.means k.wording s (length front) (course_over k init threads front)).job Done text)
            (sym (take_all longest_stream stream_bytes within)) here,
      ),
    )

-- the call says what the told files decide
module _ (seen : Seen) (x : Exit) (says : ExitSays seen x) (init stream bytes : List ℕ) (threads piece : ℕ) (object : AnyObject)
    (form : form_of seen.words ≡ Some (Follow init threads stream piece)) (told : FileIsTold seen.store init bytes) (accepted : init_of bytes ≡ Ok object) (none : NoneRose seen) where
  object_says : (text : List ℕ) → Decides seen.store (object_task (FollowOver threads stream piece) bytes object).job Done text
      → SaysThis seen (exit_status x) Done text
  object_says text d =
      let on : Result AnyObject Refusal → Job = λ r. on_value init (λ o. (object_task (FollowOver threads stream piece) bytes o).job) r in
      let job : Decides seen.store (over_work init (FollowOver threads stream piece)).task.job Done text =
      (bytes, (told, subst (λ (r : Result AnyObject Refusal). Decides seen.store (on r) Done text) (sym accepted) d)) in
      decided_exactly seen x Done text (subst (λ f. Decides seen.store (job_of f) Done text) (sym form) job) none says

  shipped_says : (k : ObjectKind) (s : k.State)
      → ((text : List ℕ) → Decides seen.store (follow_task k bytes stream threads s).job Done text → SaysThis seen (exit_status x) Done text)
      → (images : List (List (List ℕ))) (shipped : List HeadedLog) → length images ≡ threads → AllByRecursion FitFile images → ready images ≡ Ok shipped
      → FileIsTold seen.store stream (shipped_bytes shipped) → (r : Recovered) → state_recovered k.means (expected_heads k.code bytes images) images ≡ Ok r
      → SaysThis seen (exit_status x) Done (flat_map line_text (follow_data_lines k.wording (shipped_data k.means s shipped r)))
  shipped_says k s say images shipped many fit is_ready held r recovered =
      let few = few-followed seen.words init stream threads piece form in
      let stream_bytes : List ℕ = shipped_bytes shipped in
      let law = follows_recovered k.means k.code bytes images shipped r (subst (λ (n : ℕ). 1 ≤ n) (sym many) few.0)
      (subst (λ (n : ℕ). n ≤ 16) (sym many) few.1) fit is_ready recovered in
      let follows : FollowsRecovered k.means shipped (course_over k bytes threads stream_bytes) r =
      subst (λ (n : ℕ). FollowsRecovered k.means shipped (course k.means (heads_from n k.code bytes 0 n) stream_bytes) r) many law in
      let lines : FollowData k.State → List ℕ = λ said. flat_map line_text (follow_data_lines k.wording said) in
      subst (λ (said : FollowData k.State). SaysThis seen (exit_status x) Done (lines said)) (follows.said s (length stream_bytes))
      (say (lines (follow_data k.means s (length stream_bytes) (course_over k bytes threads stream_bytes)))
      (course_decides seen.store k bytes stream stream_bytes threads s held follows.within follows.no_fault))

follows_shipped : (seen : Seen) (x : Exit) → ExitSays seen x → FollowsShipped seen (exit_status x)
follows_shipped seen x says init stream bytes threads piece object images shipped form told accepted many fit is_ready held none =
    kind_goes {A = Task} (λ kind s. over_task (FollowOver threads stream piece) (kind_at kind) (Threads kind) bytes s)
    (λ task. (text : List ℕ) → Decides seen.store task.job Done text → SaysThis seen (exit_status x) Done text)
    (λ k s. (r : Recovered) → state_recovered k.means (expected_heads k.code bytes images) images ≡ Ok r
    → SaysThis seen (exit_status x) Done (flat_map line_text (follow_data_lines k.wording (shipped_data k.means s shipped r))))
    (λ says. says)
    (λ kind s known say r recovered. shipped_says seen x says init stream bytes threads piece object form told accepted none (kind_at kind) s say images shipped many fit is_ready held r recovered)
    object (object_says seen x says init stream bytes threads piece object form told accepted none)

pub follow_kept : (seen : Seen) (x : Exit) → ExitSays seen x → FollowPromises seen (exit_status x)
follow_kept seen x says = record {
  done = λ init stream threads piece form e. follow_put seen init stream threads piece form (said_of seen x Done (λ e. omega arith) e says);
  bad_log = λ init stream threads piece form e. follow_refused seen init stream threads piece form (said_of seen x BadLog (λ e. omega arith) e says);
  shipped = follows_shipped seen x says;
}
