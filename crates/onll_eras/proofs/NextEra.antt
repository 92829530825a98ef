-- Wherever `checkpoint` stops, the files give the same place and state as before; where it is done, the next era has begun with them.

use Rattle.std.proofs.Common.{ℕ, zero, suc, ◌≡◌, ◌+◌, ◌^◌, ◌<◌, ◌≤◌, Bool, true, false, List, [], ◌∷◌, length, refl, sym, ap, ◌∙◌, subst, arith, ◌⊎◌, inl, inr, ⊎_elim, Ok, Err, Result, Option}
use Rattle.std.specs.Prelude.{nat_lt, if◌then◌else◌}
use Rattle.std.specs.List.{flat_map}
use Rattle.std.proofs.lemmas.Bool.{ltb-true}
use Rattle.std.proofs.lemmas.Bool.Decides.{nat_tests}
use Rattle.onll_words.specs.Texts.{line_text}
use Rattle.onll_model.specs.Trace.{state_after}
use Rattle.onll_log.specs.Head.{head_for, head_line}
use Rattle.onll_merge.specs.declared.fault.StateFault.{StateFault}
use Rattle.onll_merge.specs.Recovered.{Recovered}
use Rattle.onll_text.specs.declared.any_object.AnyObject.{AnyObject}
use Rattle.onll_text.specs.declared.any_object.Kind.{Kind}
use Rattle.onll_text.specs.Init.{object_at}
use Rattle.onll_text.specs.CallKind.{calls_of}
use Rattle.onll_text.specs.Kinds.{ObjectKind, kind_at, on_object}
use Rattle.onll_text.specs.PrintsBack.{prints_back, state_text}
use Rattle.onll_text.specs.Reports.{SaysOnly}
use Rattle.onll_text.proofs.EachKind.{known}
use Rattle.onll_text.proofs.EraTexts.{era_text-reads, era_text-short, Bytes-era_text}
use Rattle.onll_text.proofs.PrintedStates.{PrintsState, prints_state}
use Rattle.onll_outside.specs.Views.{StoreView, Rose, counted, image_bytes}
use Rattle.onll_task.specs.declared.ending.Ending.{Ending}
use Rattle.onll_task.specs.declared.ending.Ending.TheVariants.{Done, BadLog}
use Rattle.onll_open.specs.Names.{log_name}
use Rattle.onll_task.specs.Writing.{FilesStay, AllButStay, written}
use Rattle.onll_task.specs.Recovering.{recovery_of}
use Rattle.onll_task.specs.Job.{Job, Say, Write, Keep, JobCut, JobEnds, DecidesWhere}
use Rattle.onll_task.specs.Doing.{Task, after_stage, assured_stage, report_task, say_task}
use Rattle.onll_task.proofs.Jobs.{decided_where}
use Rattle.onll_checkpoint.specs.Checkpoint.{CheckpointState, FitsCheckpoint}
use Rattle.onll_checkpoint.specs.Text.{lines_for}
use Rattle.onll_checkpoint.specs.Grammar.{checkpoint_image}
use Rattle.onll_areas.specs.Newest.{newest}
use Rattle.onll_eras.specs.Names.{EraNames, area_name, text_name, area_files}
use Rattle.onll_eras.specs.Eras.{Era, era_of, next_area}
use Rattle.onll_eras.specs.EraReports.{at_end_text, CheckpointData, CheckpointReads, checkpoint_lines, checkpoint_text}
use Rattle.onll_eras.specs.EraJob.{area_of, area_said, begun_stage, keeping_headers, checkpoint_after, checkpoint_task, either_task, has_next}
use Rattle.onll_eras.specs.Restored.{RestoredTo, Restores, era_in, newest_by}
use Rattle.onll_eras.specs.Begun.{AreNamesApart, IsPrinted, IsEraAfter, IsBegunEra, LeavesEra}
use Rattle.onll_eras.specs.Laws.{checkpoint_job, HasBegunNext}
use Rattle.onll_eras.proofs.EachObject.{at_object, to_object, each_object, both_objects}
use Rattle.onll_eras.proofs.EraReads.{Given, Onward, ends_read, restores_of, decides_read, cut_read}
use Rattle.onll_eras.proofs.BegunFiles.{begun_leaves, begun_ends}
use Rattle.onll_eras.proofs.StateKept.{keeps_era, next_era}

both_within : (a b : Bool) → (if a then b else false) ≡ true → (a ≡ true) × (b ≡ true)
both_within true b e = (refl, e)
both_within false b e = absurd (cc)

-- ---- the next checkpoint, of what was recovered
module _ (kind : Kind) (era : Era) (s : (kind_at kind).State) (r : Recovered) where
  abbrev k : ObjectKind
  k = kind_at kind

  abbrev state : (kind_at kind).State
  state = state_after (kind_at kind).means s r.nodes

  abbrev lines : List (List (List ℕ))
  lines = (kind_at kind).wording.state_lines state

  abbrev text : List ℕ
  text = flat_map line_text lines

  abbrev next : CheckpointState
  next = checkpoint_after era (length r.nodes) lines

  -- where a number and a place are left, and the state is printed as one that is read back
  module _ (left : has_next era (length r.nodes) ≡ true) (back : prints_back (kind_at kind).wording (flat_map line_text ((kind_at kind).wording.state_lines (state_after (kind_at kind).means s r.nodes))) ≡ true) where
    within : (next.number < 2 ^ 64) × (next.place < 2 ^ 64)
    within =
        let both = both_within (nat_lt (era.number + 1) (2 ^ 64)) (nat_lt (era.place + length r.nodes) (2 ^ 64)) left in
        (ltb-true (era.number + 1) (2 ^ 64) both.0, ltb-true (era.place + length r.nodes) (2 ^ 64) both.1)

    abbrev it : PrintsState (kind_at kind).wording text
    it = prints_state (kind_at kind).wording text back

    fits : FitsCheckpoint next
    fits = record {
      number = omega arith;
      number_fits = within.0;
      place_fits = within.1;
      text = era_text-short next.number next.place lines within.0 within.1 it.short;
      bytes = Bytes-era_text next.number next.place lines within.0 within.1 it.bytes;
    }

    next_is : (after : StoreView) (ckpt : List ℕ) (threads : ℕ) → IsBegunEra after ckpt threads (kind_at kind).code next → IsEraAfter after ckpt era threads (era.place + length r.nodes) text
    next_is after ckpt threads b = record {
      checkpoint = next;
      code = (kind_at kind).code;
      number_is = refl;
      place_is = refl;
      begun = b;
      object = object_at kind it.state;
      reads = era_text-reads next.number next.place lines (object_at kind it.state) within.0 within.1 it.short ((calls_of kind).says text it.state it.says);
      printed = to_object (λ k s. IsPrinted k (kind_at kind).code s text) kind it.state (record { code_is = refl; printed = it.printed });
    }

-- ---- the report
abbrev data_of : (k : ObjectKind) (era : Era) (s : k.State) → Recovered → CheckpointData k.State
data_of k era s r = record { number = era.number + 1; place = era.place + length r.nodes; state = state_after k.means s r.nodes }

abbrev report_of : (k : ObjectKind) (era : Era) (s : k.State) → Recovered → List ℕ
report_of k era s r = flat_map line_text (checkpoint_lines k.wording (data_of k era s r))

-- the task of what was recovered, where a number and a place are left, or not
abbrev next_task : (ckpt : List ℕ) (threads : ℕ) (era : Era) (k : ObjectKind) (s : k.State) → Recovered → Task
next_task ckpt threads era k s r =
    after_stage (assured_stage (prints_back k.wording (flat_map line_text (k.wording.state_lines (state_after k.means s r.nodes)))))
    (λ _. after_stage (begun_stage ckpt k.code threads (checkpoint_after era (length r.nodes) (k.wording.state_lines (state_after k.means s r.nodes))))
    (λ _. report_task (report_of k era s r) (λ text. SaysOnly (checkpoint_lines k.wording) (CheckpointReads k.wording) text (data_of k era s r))))

abbrev task_by : Bool → (ckpt : List ℕ) (threads : ℕ) (era : Era) (k : ObjectKind) (s : k.State) → Recovered → Task
task_by b ckpt threads era k s r = either_task b (next_task ckpt threads era k s r) (say_task BadLog at_end_text)

-- ---- where it stops
module _ (names : EraNames) (threads : ℕ) (few : threads ≤ 16) (from : Option CheckpointState) (era : Era) (images : List (List (List ℕ))) (store after : StoreView) (tells : store.tells ≡ true)
    (place : ℕ) (text : List ℕ) where
  abbrev Left : Type 0
  Left = FilesStay store after ⊎ LeavesEra store after names.ckpt era threads place text

  module _ (kind : Kind) (s : (kind_at kind).State) (h : RestoredTo (kind_at kind) era s images place text) where
    next_left : IsEraAfter after names.ckpt era threads (era.place + length h.recovered.nodes) (state_text (kind_at kind).wording (state_after (kind_at kind).means s h.recovered.nodes))
        → IsEraAfter after names.ckpt era threads place text
    next_left n = subst (λ (p : ℕ). IsEraAfter after names.ckpt era threads p text) (sym h.place_is)
        (subst (λ (t : List ℕ). IsEraAfter after names.ckpt era threads (era.place + length h.recovered.nodes) t) (sym h.state) n)

    task_cut : (b : Bool) → has_next era (length h.recovered.nodes) ≡ b → JobCut store after (task_by b names.ckpt threads era (kind_at kind) s h.recovered).job → Left
    task_cut false t cut = inl cut
    task_cut true t (inl stay) = inl stay
    task_cut true t (inr cut) =
        let left = begun_leaves names.ckpt (kind_at kind).code threads (next kind era s h.recovered) (fits kind era s h.recovered t cut.0) few (known kind).1 Done (report_of (kind_at kind) era s h.recovered) store after tells cut.1 in
        inr (record {
          others = left.0;
          area = ⊎_elim (λ same. inl same) (λ rest. ⊎_elim (λ none. inr (inl none)) (λ b. inr (inr (next_left (next_is kind era s h.recovered t cut.0 after names.ckpt threads b)))) rest) left.1;
        })

    kind_cut : JobCut store after (Onward (checkpoint_task names.ckpt threads) from era (kind_at kind) s images) → Left
    kind_cut cut = task_cut (has_next era (length h.recovered.nodes)) refl
        (subst (λ (v : Result Recovered StateFault). JobCut store after (Given (checkpoint_task names.ckpt threads) from era (kind_at kind) s v)) h.gives cut)

pub checkpoint_cut : (store after : StoreView) (names : EraNames) (threads place : ℕ) (text : List ℕ) → store.tells ≡ true → 1 ≤ threads → threads ≤ 16
    → (r : Restores store names threads place text) → AreNamesApart names (next_area (era_in r)) threads
    → JobCut store after (checkpoint_job names threads) → Restores after names threads place text
checkpoint_cut store after names threads place text tells some_threads few r apart cut =
    ⊎_elim (λ stay. stays stay) (λ here. ⊎_elim (λ stay. stays stay) (λ left. leaves left) (at here)) (cut_read store after (checkpoint_task names.ckpt threads) r cut)
  where
    leaves : LeavesEra store after names.ckpt (era_in r) threads place text → Restores after names threads place text
    leaves left = keeps_era store after names threads place text tells some_threads few r apart left

    stays : FilesStay store after → Restores after names threads place text
    stays f = leaves (record { others = record { tells = f.tells; file = λ on other differs. f.file on other }; area = inl (f.file tells (area_name names.ckpt (next_area (era_in r)))) })

    at : on_object (λ k s. JobCut store after (Onward (checkpoint_task names.ckpt threads) (newest_by r) (era_in r) k s r.images)) r.object → FilesStay store after ⊎ LeavesEra store after names.ckpt (era_in r) threads place text
    at here = at_object (λ k s. RestoredTo k (era_in r) s r.images place text × JobCut store after (Onward (checkpoint_task names.ckpt threads) (newest_by r) (era_in r) k s r.images)) (λ o. FilesStay store after ⊎ LeavesEra store after names.ckpt (era_in r) threads place text)
        (λ kind s both. kind_cut names threads few (newest_by r) (era_in r) r.images store after tells place text kind s both.0 both.1)
        r.object (both_objects (λ k s. RestoredTo k (era_in r) s r.images place text) (λ k s. JobCut store after (Onward (checkpoint_task names.ckpt threads) (newest_by r) (era_in r) k s r.images)) r.object r.restored here)

-- ---- where it is done
-- the next era was begun with this place and state, which the report says
record HasNext (store after : StoreView) (names : EraNames) (threads : ℕ) (era : Era) (images : List (List (List ℕ))) (said : List ℕ) (o : AnyObject) : Type 0 where
  place : ℕ
  text : List ℕ
  restored : on_object (λ k s. RestoredTo k era s images place text) o
  says : said ≡ checkpoint_text (era.number + 1) place text
  others : AllButStay (area_files names.ckpt (next_area era) threads) store after
  next : IsEraAfter after names.ckpt era threads place text

module _ (names : EraNames) (threads : ℕ) (few : threads ≤ 16) (from : Option CheckpointState) (era : Era) (images : List (List (List ℕ))) (store after : StoreView) (tells : store.tells ≡ true)
    (said : List ℕ) (kind : Kind) (s : (kind_at kind).State) where
  abbrev given : Result Recovered StateFault
  given = recovery_of (kind_at kind) era.text images

  abbrev Has : Type 0
  Has = HasNext store after names threads era images said (object_at kind s)

  task_done : (r : Recovered) (b : Bool) → given ≡ Ok r → has_next era (length r.nodes) ≡ b → JobEnds store after (task_by b names.ckpt threads era (kind_at kind) s r).job Done said → Has
  task_done r false gives t h = absurd (let no : Done ≡ BadLog = h.0 in (cc))
  task_done r true gives t h =
      let ends = begun_ends names.ckpt (kind_at kind).code threads (next kind era s r) (fits kind era s r t h.0) few (known kind).1 Done (report_of (kind_at kind) era s r) store after tells said h.1 in
      let place : ℕ = era.place + length r.nodes in
      let text : List ℕ = state_text (kind_at kind).wording (state_after (kind_at kind).means s r.nodes) in
      record {
        place = place;
        text = text;
        restored = to_object (λ k s. RestoredTo k era s images place text) kind s
            (record { recovered = r; gives = gives; place_is = refl; within = (within kind era s r t h.0).1; state = refl });
        says = ends.2;
        others = ends.0;
        next = next_is kind era s r t h.0 after names.ckpt threads ends.1;
      }

  by_result : (v : Result Recovered StateFault) → given ≡ v → JobEnds store after (Given (checkpoint_task names.ckpt threads) from era (kind_at kind) s v) Done said → Has
  by_result (Err fault) e h = absurd (let no : Done ≡ BadLog = h.0 in (cc))
  by_result (Ok r) e h = task_done r (has_next era (length r.nodes)) e refl h

  kind_done : JobEnds store after (Onward (checkpoint_task names.ckpt threads) from era (kind_at kind) s images) Done said → Has
  kind_done h = by_result given refl h

pub checkpoint_begins : (store after : StoreView) (names : EraNames) (threads : ℕ) (said : List ℕ) → store.tells ≡ true → 1 ≤ threads → threads ≤ 16
    → JobEnds store after (checkpoint_job names threads) Done said → HasBegunNext store after names threads said
checkpoint_begins store after names threads said tells some_threads few h =
    let e = ends_read store after tells said names threads (checkpoint_task names.ckpt threads) h in
    let from : Option CheckpointState = newest e.even e.odd in
    let era : Era = era_of names e.bytes from in
    let n = at_object (λ k s. JobEnds store after (Onward (checkpoint_task names.ckpt threads) from era k s e.images) Done said) (λ o. HasNext store after names threads era e.images said o)
    (λ kind s ends. kind_done names threads few from era e.images store after tells said kind s ends) e.object e.goes in
    record {
      place = n.place;
      text = n.text;
      was = restores_of e n.place n.text n.restored;
      says = n.says;
      begins = λ apart. next_era store after names threads n.place n.text tells few (restores_of e n.place n.text n.restored) apart n.others n.next;
    }

-- ---- that it is done
lt_test : (m n : ℕ) → m < n → nat_lt m n ≡ true
lt_test m n h = grind (arith, nat_tests)

headers_decide : (store : StoreView) (logs : List ℕ) (code : ℕ) (bytes : List ℕ) (threads t n : ℕ) (go : Job) (said : List ℕ) → ((mid : StoreView) → DecidesWhere true mid go Done said)
    → DecidesWhere true store (keeping_headers logs code bytes threads t n go) Done said
headers_decide store logs code bytes threads t zero go said d = d store
headers_decide store logs code bytes threads t (suc n) go said d = (refl, headers_decide (written store (log_name logs t) (image_bytes (head_line (head_for 2 t threads code bytes) ∷ []))) logs code bytes threads (suc t) n go said d)

kind_decides : (store : StoreView) (names : EraNames) (threads : ℕ) (from : Option CheckpointState) (era : Era) (images : List (List (List ℕ))) (place : ℕ) (text : List ℕ) → era.number + 1 < 2 ^ 64
    → (kind : Kind) (s : (kind_at kind).State) → RestoredTo (kind_at kind) era s images place text
    → DecidesWhere true store (Onward (checkpoint_task names.ckpt threads) from era (kind_at kind) s images) Done (checkpoint_text (era.number + 1) place text)
kind_decides store names threads from era images place text few kind s h =
    let r : Recovered = h.recovered in
    let said : List ℕ = checkpoint_text (era.number + 1) place text in
    let c : CheckpointState = next kind era s r in
    let fits_place : era.place + length r.nodes < 2 ^ 64 = (let is = h.place_is in let within = h.within in omega (arith, is, within)) in
    let left : has_next era (length r.nodes) ≡ true =
    ap (λ (b : Bool). if b then nat_lt (era.place + length r.nodes) (2 ^ 64) else false) (lt_test (era.number + 1) (2 ^ 64) few) ∙ lt_test (era.place + length r.nodes) (2 ^ 64) fits_place in
    let report : report_of (kind_at kind) era s r ≡ said =
    ap (λ (p : ℕ). checkpoint_text (era.number + 1) p (state_text (kind_at kind).wording (state_after (kind_at kind).means s r.nodes))) (sym h.place_is)
    ∙ ap (λ (t : List ℕ). checkpoint_text (era.number + 1) place t) (sym h.state) in
    let begins : DecidesWhere true store (task_by true names.ckpt threads era (kind_at kind) s r).job Done said =
    headers_decide store (area_name names.ckpt (area_of c)) (kind_at kind).code c.text threads 0 threads
    (Write (text_name names.ckpt (area_of c)) c.text (Keep (area_name names.ckpt (area_of c)) (checkpoint_image c (lines_for (length c.text))) 2 (area_said (area_of c)) (Say Done (report_of (kind_at kind) era s r)))) said
    (λ mid. (refl, (refl, report))) in
    subst (λ (v : Result Recovered StateFault). DecidesWhere true store (Given (checkpoint_task names.ckpt threads) from era (kind_at kind) s v) Done said) (sym h.gives)
    (subst (λ (b : Bool). DecidesWhere true store (task_by b names.ckpt threads era (kind_at kind) s r).job Done said) (sym left) begins)

pub checkpoint_is_done : (store after : StoreView) (names : EraNames) (threads place : ℕ) (text : List ℕ) (ending : Ending) (said : List ℕ)
    → (r : Restores store names threads place text) → (era_in r).number + 1 < 2 ^ 64
    → (Rose store.faults after.faults → ⊥) → (after.device_faults ≡ counted store.device_faults 1 → ⊥)
    → JobEnds store after (checkpoint_job names threads) ending said
    → (ending ≡ Done) × (said ≡ checkpoint_text ((era_in r).number + 1) place text)
checkpoint_is_done store after names threads place text ending said r few none fenced ends =
    let report : List ℕ = checkpoint_text ((era_in r).number + 1) place text in
    decided_where true store after (checkpoint_job names threads) Done ending report said none (λ on. fenced)
    (decides_read true store Done report (checkpoint_task names.ckpt threads) r
    (each_object (λ k s. RestoredTo k (era_in r) s r.images place text) (λ k s. DecidesWhere true store (Onward (checkpoint_task names.ckpt threads) (newest_by r) (era_in r) k s r.images) Done report)
    (λ kind s h. kind_decides store names threads (newest_by r) (era_in r) r.images place text few kind s h) r.object r.restored))
    ends
