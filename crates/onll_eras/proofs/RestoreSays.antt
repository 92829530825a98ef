-- What `restore` prints is what the files give, and they give one place and one state.

use Rattle.std.proofs.Common.{ℕ, suc, ◌≡◌, ◌+◌, ◌^◌, ◌<◌, Bool, true, false, List, [], ◌∷◌, length, refl, sym, ap, ◌∙◌, subst, arith, Ok, Err, Result, Some, None, Option}
use Rattle.std.specs.Prelude.{codes, nat_lt}
use Rattle.std.specs.List.{flat_map}
use Rattle.std.proofs.lemmas.Grind.{flat_map-append}
use Rattle.std.proofs.lemmas.Bool.{ltb-true}
use Rattle.std.proofs.lemmas.Bool.Decides.{nat_tests}
use Rattle.onll_words.specs.Texts.{line_text}
use Rattle.onll_model.specs.Trace.{state_after}
use Rattle.onll_log.specs.ImageFile.{image_lines}
use Rattle.onll_merge.specs.declared.fault.StateFault.{StateFault}
use Rattle.onll_merge.specs.Recovered.{Recovered}
use Rattle.onll_text.specs.declared.any_object.AnyObject.{AnyObject}
use Rattle.onll_text.specs.declared.any_object.Kind.{Kind}
use Rattle.onll_text.specs.Init.{object_at, init_of}
use Rattle.onll_text.specs.PrintsBack.{state_text}
use Rattle.onll_text.specs.Kinds.{ObjectKind, kind_at, on_object}
use Rattle.onll_text.specs.Reports.{SaysOnly}
use Rattle.onll_outside.specs.Views.{StoreView}
use Rattle.onll_task.specs.RecoverySaid.{data_with}
use Rattle.onll_task.specs.declared.ending.Ending.TheVariants.{Done, BadLog}
use Rattle.onll_open.specs.Names.{log_name}
use Rattle.onll_task.specs.Reading.{FileIsTold}
use Rattle.onll_task.specs.Job.{DecidesWhere, JobEnds}
use Rattle.onll_task.specs.Recovering.{recovery_of}
use Rattle.onll_task.specs.Doing.{Task, report_task, say_task}
use Rattle.onll_checkpoint.specs.Checkpoint.{CheckpointState}
use Rattle.onll_areas.specs.Newest.{newest}
use Rattle.onll_eras.specs.Names.{EraNames, area_name}
use Rattle.onll_eras.specs.Eras.{Era, era_of}
use Rattle.onll_eras.specs.EraReports.{at_end_text, RestoreData, RestoreReads, newest_in, place_in, place_line, found_lines, restore_lines, restored_text}
use Rattle.onll_eras.specs.EraJob.{started, either_task, restored_task}
use Rattle.onll_eras.specs.Restored.{TellLogs, RestoredTo, Restores, era_in, newest_by}
use Rattle.onll_eras.specs.Laws.{restore_job, SaysPlace, DecidesRestore, PrintsWhatIs}
use Rattle.onll_eras.proofs.EachObject.{at_object, to_object, both_objects}
use Rattle.onll_eras.proofs.EraReads.{Given, Onward, ends_read, restores_of, decides_read}

-- ---- the report
place_in_is : (names : EraNames) (bytes : List ℕ) (from : Option CheckpointState) → place_in (newest_in from) ≡ (era_of names bytes from).place
place_in_is names bytes None = refl
place_in_is names bytes (Some c) = refl

-- what is said of these logs over an era
abbrev said_with : (k : ObjectKind) → Option CheckpointState → k.State → Recovered → RestoreData k.State
said_with k from s r = record { from = newest_in from; logs = data_with r (state_after k.means s r.nodes) }

abbrev report_of : (k : ObjectKind) → Option CheckpointState → k.State → Recovered → List ℕ
report_of k from s r = flat_map line_text (restore_lines k.means k.wording (said_with k from s r))

-- that report, where a place is left
abbrev restored_by : Bool → Option CheckpointState → (k : ObjectKind) → k.State → Recovered → Task
restored_by b from k s r = either_task b
    (report_task (report_of k from s r) (λ text. SaysOnly (restore_lines k.means k.wording) (RestoreReads k.means k.wording) text (said_with k from s r)))
    (say_task BadLog at_end_text)

report_is : (k : ObjectKind) (names : EraNames) (bytes : List ℕ) (from : Option CheckpointState) (s : k.State) (r : Recovered)
    → report_of k from s r ≡ restored_text (found_lines k.means k.wording (said_with k from s r)) ((era_of names bytes from).place + length r.nodes) (state_text k.wording (state_after k.means s r.nodes))
report_is k names bytes from s r =
    let front : List (List (List ℕ)) = found_lines k.means k.wording (said_with k from s r) in
    let text : List ℕ = state_text k.wording (state_after k.means s r.nodes) in
    flat_map-append line_text front (place_line (place_in (newest_in from) + length r.nodes) ∷ (codes "state" ∷ []) ∷ k.wording.state_lines (state_after k.means s r.nodes))
    ∙ ap (λ (p : ℕ). restored_text front (p + length r.nodes) text) (place_in_is names bytes from)

-- ---- from what the files give to what is printed
lt_test : (m n : ℕ) → m < n → nat_lt m n ≡ true
lt_test m n h = grind (arith, nat_tests)

record SaysIt (store : StoreView) (from : Option CheckpointState) (era : Era) (images : List (List (List ℕ))) (place : ℕ) (text : List ℕ) (o : AnyObject) : Type 0 where
  said : List ℕ
  decides : on_object (λ k s. DecidesWhere false store (Onward restored_task from era k s images) Done said) o
  place_said : SaysPlace place text said

says_it : (store : StoreView) (names : EraNames) (bytes : List ℕ) (from : Option CheckpointState) (images : List (List (List ℕ))) (place : ℕ) (text : List ℕ)
    (kind : Kind) (s : (kind_at kind).State) → RestoredTo (kind_at kind) (era_of names bytes from) s images place text → SaysIt store from (era_of names bytes from) images place text (object_at kind s)
says_it store names bytes from images place text kind s h =
    let k : ObjectKind = kind_at kind in
    let era : Era = era_of names bytes from in
    let r : Recovered = h.recovered in
    let within : nat_lt (era.place + length r.nodes) (2 ^ 64) ≡ true = lt_test (era.place + length r.nodes) (2 ^ 64) (let is = h.place_is in let fits = h.within in omega (arith, is, fits)) in
    let said : List ℕ = report_of k from s r in
    let chosen : DecidesWhere false store (Given restored_task from era k s (Ok r)) Done said =
    subst (λ (b : Bool). DecidesWhere false store (restored_by b from k s r).job Done said) (sym within) (refl, refl) in
    record {
      said = said;
      decides = to_object (λ k s. DecidesWhere false store (Onward restored_task from era k s images) Done said) kind s
          (subst (λ (v : Result Recovered StateFault). DecidesWhere false store (Given restored_task from era (kind_at kind) s v) Done said) (sym h.gives) chosen);
      place_said = record {
        front = found_lines k.means k.wording (said_with k from s r);
        says = report_is k names bytes from s r
            ∙ (ap (λ (p : ℕ). restored_text (found_lines k.means k.wording (said_with k from s r)) p (state_text k.wording (state_after k.means s r.nodes))) (sym h.place_is)
            ∙ ap (λ (t : List ℕ). restored_text (found_lines k.means k.wording (said_with k from s r)) place t) (sym h.state));
      };
    }

pub restore_says : (store : StoreView) (names : EraNames) (threads place : ℕ) (text : List ℕ) → Restores store names threads place text → DecidesRestore store names threads place text
restore_says store names threads place text r =
    let it = at_object (λ k s. RestoredTo k (era_in r) s r.images place text) (λ o. SaysIt store (newest_by r) (era_in r) r.images place text o)
    (λ kind s h. says_it store names r.bytes (newest_by r) r.images place text kind s h) r.object r.restored in
    record { said = it.said; decides = decides_read false store Done it.said restored_task r it.decides; place_said = it.place_said }

-- ---- from what is printed to what the files give
record Printed (from : Option CheckpointState) (era : Era) (images : List (List (List ℕ))) (said : List ℕ) (o : AnyObject) : Type 0 where
  place : ℕ
  text : List ℕ
  restored : on_object (λ k s. RestoredTo k era s images place text) o
  place_said : SaysPlace place text said

module _ (store after : StoreView) (names : EraNames) (bytes said : List ℕ) (from : Option CheckpointState) (images : List (List (List ℕ))) (kind : Kind) (s : (kind_at kind).State) where
  abbrev era : Era
  era = era_of names bytes from

  abbrev given : Result Recovered StateFault
  given = recovery_of (kind_at kind) era.text images

  in_range : (r : Recovered) (b : Bool) → given ≡ Ok r → nat_lt (era.place + length r.nodes) (2 ^ 64) ≡ b
      → JobEnds store after (restored_by b from (kind_at kind) s r).job Done said
      → Printed from era images said (object_at kind s)
  in_range r false gives t h = absurd (let no : Done ≡ BadLog = h.0 in (cc))
  in_range r true gives t h =
      let place : ℕ = era.place + length r.nodes in
      let text : List ℕ = state_text (kind_at kind).wording (state_after (kind_at kind).means s r.nodes) in
      record {
        place = place;
        text = text;
        restored = to_object (λ k s. RestoredTo k era s images place text) kind s
            (record { recovered = r; gives = gives; place_is = refl; within = ltb-true (era.place + length r.nodes) (2 ^ 64) t; state = refl });
        place_said = record {
          front = found_lines (kind_at kind).means (kind_at kind).wording (said_with (kind_at kind) from s r);
          says = h.1 ∙ report_is (kind_at kind) names bytes from s r;
        };
      }

  by_result : (v : Result Recovered StateFault) → given ≡ v → JobEnds store after (Given restored_task from era (kind_at kind) s v) Done said → Printed from era images said (object_at kind s)
  by_result (Err fault) e h = absurd (let no : Done ≡ BadLog = h.0 in (cc))
  by_result (Ok r) e h = in_range r (nat_lt (era.place + length r.nodes) (2 ^ 64)) e refl h

  prints_it : JobEnds store after (Onward restored_task from era (kind_at kind) s images) Done said → Printed from era images said (object_at kind s)
  prints_it h = by_result given refl h

pub restore_prints : (store after : StoreView) (names : EraNames) (threads : ℕ) (said : List ℕ) → store.tells ≡ true
    → JobEnds store after (restore_job names threads) Done said → PrintsWhatIs store names threads said
restore_prints store after names threads said tells h =
    let e = ends_read store after tells said names threads restored_task h in
    let from : Option CheckpointState = newest e.even e.odd in
    let p = at_object (λ k s. JobEnds store after (Onward restored_task from (era_of names e.bytes from) k s e.images) Done said) (λ o. Printed from (era_of names e.bytes from) e.images said o)
    (λ kind s ends. prints_it store after names e.bytes said from e.images kind s ends) e.object e.goes in
    record { place = p.place; text = p.text; restores = restores_of e p.place p.text p.restored; place_said = p.place_said }

-- ---- one place and one state
told_once : (store : StoreView) (name bytes others : List ℕ) → FileIsTold store name bytes → FileIsTold store name others → bytes ≡ others
told_once store name bytes others a b = let same : Some bytes ≡ Some others = sym a.file ∙ b.file in (cc)

abbrev value_or : {A E : Type 0} → A → Result A E → A
value_or other (Ok x) = x
value_or other (Err e) = other

ok_once : {A E : Type 0} (x y : A) (v : Result A E) → v ≡ Ok x → v ≡ Ok y → x ≡ y
ok_once x y v a b = ap (value_or x) (sym a ∙ b)

logs_once : (store : StoreView) (logs : List ℕ) (t : ℕ) (images others : List (List (List ℕ))) → TellLogs store logs t images → TellLogs store logs t others
    → length images ≡ length others → images ≡ others
logs_once store logs t [] [] a b e = refl
logs_once store logs t [] (other ∷ others) a b e = absurd (omega arith)
logs_once store logs t (image ∷ images) [] a b e = absurd (omega arith)
logs_once store logs t (image ∷ images) (other ∷ others) a b e =
    let here : image ≡ other = a.0.image ∙ (ap image_lines (told_once store (log_name logs t) a.0.bytes b.0.bytes a.0.told b.0.told) ∙ sym b.0.image) in
    let rest = logs_once store logs (suc t) images others a.1 b.1 (omega arith) in
    λ i. here i ∷ rest i

restored_once : (era : Era) (images : List (List (List ℕ))) (place other : ℕ) (text more : List ℕ) (object : AnyObject) → on_object (λ k s. RestoredTo k era s images place text) object
    → on_object (λ k s. RestoredTo k era s images other more) object → (place ≡ other) × (text ≡ more)
restored_once era images place other text more object g h =
    at_object (λ k s. RestoredTo k era s images place text × RestoredTo k era s images other more) (λ o. (place ≡ other) × (text ≡ more)) each object
    (both_objects (λ k s. RestoredTo k era s images place text) (λ k s. RestoredTo k era s images other more) object g h)
  where
    each : (kind : Kind) (s : (kind_at kind).State) → RestoredTo (kind_at kind) era s images place text × RestoredTo (kind_at kind) era s images other more → (place ≡ other) × (text ≡ more)
    each kind s both =
        let same : both.0.recovered ≡ both.1.recovered =
        ok_once both.0.recovered both.1.recovered (recovery_of (kind_at kind) era.text images) both.0.gives both.1.gives in (
          both.0.place_is ∙ (ap (λ (r : Recovered). era.place + length r.nodes) same ∙ sym both.1.place_is),
          both.0.state ∙ (ap (λ (r : Recovered). state_text (kind_at kind).wording (state_after (kind_at kind).means s r.nodes)) same ∙ sym both.1.state),
        )

pub one_state : (store : StoreView) (names : EraNames) (threads place other : ℕ) (text more : List ℕ)
    → Restores store names threads place text → Restores store names threads other more → (place ≡ other) × (text ≡ more)
one_state store names threads place other text more r q =
    restored_once (era_of names r.bytes (newest r.even r.odd)) r.images place other text more r.object r.restored at_images
  where
    bytes : q.bytes ≡ r.bytes
    bytes = told_once store names.init q.bytes r.bytes q.init_told r.init_told

    even : q.even ≡ r.even
    even = told_once store (area_name names.ckpt 0) q.even r.even q.even_told r.even_told

    odd : q.odd ≡ r.odd
    odd = told_once store (area_name names.ckpt 1) q.odd r.odd q.odd_told r.odd_told

    era : era_of names q.bytes (newest q.even q.odd) ≡ era_of names r.bytes (newest r.even r.odd)
    era = λ i. era_of names (bytes i) (newest (even i) (odd i))

    first : q.first ≡ r.first
    first = ok_once q.first r.first (init_of r.bytes) (ap init_of (sym bytes) ∙ q.init_read) r.init_read

    object : q.object ≡ r.object
    object = ok_once q.object r.object (started r.first (newest r.even r.odd)) ((λ i. started (sym first i) (newest (sym even i) (sym odd i))) ∙ q.began) r.began

    images : q.images ≡ r.images
    images = logs_once store (era_of names r.bytes (newest r.even r.odd)).logs 0 q.images r.images (subst (λ (e : Era). TellLogs store e.logs 0 q.images) era q.logs_told) r.logs_told (q.many ∙ sym r.many)

    at_era : on_object (λ k s. RestoredTo k (era_of names r.bytes (newest r.even r.odd)) s q.images other more) q.object
    at_era = subst (λ (e : Era). on_object (λ k s. RestoredTo k e s q.images other more) q.object) era q.restored

    at_images : on_object (λ k s. RestoredTo k (era_of names r.bytes (newest r.even r.odd)) s r.images other more) r.object
    at_images =
        subst (λ (o : AnyObject). on_object (λ k s. RestoredTo k (era_of names r.bytes (newest r.even r.odd)) s r.images other more) o) object
        (subst (λ (is : List (List (List ℕ))). on_object (λ k s. RestoredTo k (era_of names r.bytes (newest r.even r.odd)) s is other more) q.object) images at_era)
