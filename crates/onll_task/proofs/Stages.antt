-- How the functions of a command do a task, one stage after the other.

use Rattle.std.proofs.Common.{Vec, ℕ, suc, ◌+◌, ◌<◌, ◌≤◌, List, [], ◌∷◌, ◌++◌, ◌≡◌, length, map, drop, get_or, Result, Ok, Err, inl, refl, sym, ap, ◌∙◌, subst, append_assoc, append-nil}
use Rattle.std.specs.Result.{IsErrAnd}
use Rattle.std.proofs.lemmas.List.{drop_more, drop_all}
use Rattle.std.proofs.lemmas.Result.{err_from_is_err_and}
use Rattle.onll_outside.specs.Views.{StoreView, SameFiles, SameOthers, image_bytes}
use Rattle.onll_text.specs.Refusal.{Refusal}
use Rattle.onll_task.specs.declared.ending.Ending.{Ending}
use Rattle.onll_task.specs.declared.ending.Ending.TheVariants.{Done, Usage, Refused, BadLog, ReadFault, WriteFault, Faulty, Judged}
use Rattle.onll_task.specs.declared.answer.Stop.{Stop}
use Rattle.onll_task.specs.declared.answer.Stop.TheVariants.{Says, NoMemory}
use Rattle.onll_task.specs.Doing.{Task, Stage, after_stage, report_task, say_task, text_stage, whole_stage, lines_stage, each_job, AreKnown, each_stage, StopsSo, Fulfils, DoesStage, GoesBy, BeginsBy}
use Rattle.onll_task.specs.Job.{Job, Say, Read, Write, JobEnds, JobGoesOn, reading, reading_whole}
use Rattle.onll_task.specs.Reading.{Reads, ReadsWhole, HoldsImage, CannotRead}
use Rattle.onll_open.specs.Names.{log_name, log_names}
use Rattle.onll_task.specs.Images.{writing_images, writing_stage}
use Rattle.onll_task.specs.Stop.{StopSays}
use Rattle.onll_task.specs.Writing.{FilesStay, CannotWrite, WriteStops}
use Rattle.onll_open.specs.Files.{SameBut, SameCounts}
use Rattle.onll_task.proofs.Onwards.{on_whole, on_text, on_image, stay_cut, stay_more, stopped_ends, goes_same, goes_after, WroteSo, others_on}
use Rattle.onll_task.proofs.Jobs.{Stops, files_stay}

-- ---- what changes no files, or few
pub same_none : {store after : StoreView} → SameFiles store after → SameBut [] store after
same_none same = record { tells = same.tells; file = λ other differs. same.file other }

pub none_stays : {store after : StoreView} → SameBut [] store after → FilesStay store after
none_stays same = record { tells = same.tells; file = λ tells name. same.file name tt }

pub none_changed : (store : StoreView) → SameBut [] store store
none_changed store = record { tells = refl; file = λ other differs. refl }

pub none_changes : (names : List (List ℕ)) (store : StoreView) → SameBut names store store
none_changes names store = record { tells = refl; file = λ other differs. refl }

pub then_changes : (names : List (List ℕ)) (store mid after : StoreView) → SameBut names store mid → SameBut names mid after → SameBut names store after
then_changes names store mid after first then_ =
    record { tells = then_.tells ∙ first.tells; file = λ other differs. then_.file other differs ∙ first.file other differs }

pub none_then : {store mid after : StoreView} → SameBut [] store mid → SameBut [] mid after → SameBut [] store after
none_then {store} {mid} {after} first then_ = then_changes [] store mid after first then_

pub wider : (names : List (List ℕ)) (store after : StoreView) → SameBut [] store after → SameBut names store after
wider names store after same = record { tells = same.tells; file = λ other differs. same.file other tt }

pub stay_same : (store : StoreView) → FilesStay store store
stay_same store = record { tells = refl; file = λ tells name. refl }

-- what was held after calls that changed no file was held before them
pub reads_before : {A : Type 0} {store mid : StoreView} {grammar : List ℕ → Result A Refusal} {name : List ℕ} {value : A}
    → FilesStay store mid → Reads mid grammar name value → Reads store grammar name value
reads_before same r =
    record { bytes = r.bytes; held = λ tells. sym (same.file tells _) ∙ r.held (same.tells ∙ tells); accepted = r.accepted }

pub whole_before : {A : Type 0} {store mid : StoreView} {grammar : List ℕ → Result A Refusal} {name bytes : List ℕ} {value : A}
    → FilesStay store mid → ReadsWhole mid grammar name bytes value → ReadsWhole store grammar name bytes value
whole_before same r = record { held = λ tells. sym (same.file tells _) ∙ r.held (same.tells ∙ tells); accepted = r.accepted }

pub image_before : {store mid : StoreView} {name : List ℕ} {lines : List (List ℕ)} → FilesStay store mid → HoldsImage mid name lines → HoldsImage store name lines
image_before same h = record { bytes = h.bytes; held = λ tells. sym (same.file tells _) ∙ h.held (same.tells ∙ tells); image = h.image }

-- ---- where a call stops
pub StopsSo-on : (store mid after : StoreView) (job next : Job) (s : Stop) → JobGoesOn store mid job next → StopsSo mid after next s → StopsSo store after job s
StopsSo-on store mid after job next (Says ending text) on h = (h.0, on.ends after ending text.items h.1)
StopsSo-on store mid after job next NoMemory on h = on.cut after h

-- no file changed, and this is said; or memory could not be had
pub says_stops : (store after : StoreView) (job : Job) (s : Stop) (P : Ending → List ℕ → Type 0) → FilesStay store after
    → ((ending : Ending) (text : List ℕ) → P ending text → (ending ≡ Done → ⊥) × JobEnds store after job ending text) → StopSays s P → StopsSo store after job s
says_stops store after job (Says ending text) P same f h = f ending text.items h
says_stops store after job NoMemory P same f h = stay_cut store after job same

refused_end : {A : Type 0} (store after : StoreView) (grammar : List ℕ → Result A Refusal) (name : List ℕ) (ending : Ending) (text : List ℕ) → Stops store after grammar name ending text → ending ≡ Done → ⊥
refused_end store after grammar name Done text h e = h
refused_end store after grammar name Usage text h e = h
refused_end store after grammar name Refused text h e = cc e
refused_end store after grammar name BadLog text h e = h
refused_end store after grammar name ReadFault text h e = cc e
refused_end store after grammar name WriteFault text h e = h
refused_end store after grammar name Faulty text h e = h
refused_end store after grammar name Judged text h e = h

cannot_end : (store after : StoreView) (name : List ℕ) (ending : Ending) (text : List ℕ) → CannotRead store after name ending text → ending ≡ Done → ⊥
cannot_end store after name Done text h e = h
cannot_end store after name Usage text h e = h
cannot_end store after name Refused text h e = h
cannot_end store after name BadLog text h e = h
cannot_end store after name ReadFault text h e = cc e
cannot_end store after name WriteFault text h e = h
cannot_end store after name Faulty text h e = h
cannot_end store after name Judged text h e = h

-- a file can't be read
pub unread_stops : (store after : StoreView) (name : List ℕ) (next : List ℕ → Job) (s : Stop) → StopSays s (CannotRead store after name) → SameFiles store after → StopsSo store after (Read name next) s
unread_stops store after name next s h same =
    says_stops store after (Read name next) s (CannotRead store after name) (files_stay store after same) (λ ending text k. (cannot_end store after name ending text k, inl (k, files_stay store after same))) h

-- ---- tasks
-- a stage that reads, before a function that does the rest
pub read_does : {X V A : Type 0} {names : List (List ℕ)} {store mid after : StoreView} {stage : Stage X} {value : V → X} {v : V} {r : Result (Vec ℕ A) Stop} (next : X → Task)
    → DoesStage [] store mid stage value (Ok v) → Fulfils names mid after (next (value v)) r → Fulfils names store after (after_stage stage next) r
read_does {X} {names = names} {store} {mid} {after} {value = value} {v} {r = Ok text} next first then_ = record {
  done = (first.goes (λ (x : X). (next x).job)).ends after Done text.items then_.done;
  reports = λ before same. record { value = value v; known = first.gives before same; reports = then_.reports before (stay_more before store mid same (none_stays first.files)) };
  stops = tt;
  files = then_changes names store mid after (wider names store mid first.files) then_.files;
}
read_does {X} {names = names} {store} {mid} {after} {stage} {value} {v} {r = Err s} next first then_ = record {
  done = tt;
  reports = tt;
  stops = StopsSo-on store mid after (stage.job (λ (x : X). (next x).job)) (next (value v)).job s (first.goes (λ (x : X). (next x).job)) then_.stops;
  files = then_changes names store mid after (wider names store mid first.files) then_.files;
}

-- a stage that writes, before a function that says the rest without the store
pub wrote_does : {X V A : Type 0} {names : List (List ℕ)} {store mid : StoreView} {stage : Stage X} {value : V → X} {v : V} {r : Result (Vec ℕ A) Stop} (next : X → Task)
    → DoesStage names store mid stage value (Ok v) → ((any : StoreView) → Fulfils [] any any (next (value v)) r) → Fulfils names store mid (after_stage stage next) r
wrote_does {X} {names = names} {store} {mid} {stage} {value} {v} {r = Ok text} next first says = record {
  done = (first.goes (λ (x : X). (next x).job)).ends mid Done text.items (says mid).done;
  reports = λ before same. record { value = value v; known = first.gives before same; reports = (says before).reports before (stay_same before) };
  stops = tt;
  files = first.files;
}
wrote_does {X} {names = names} {store} {mid} {stage} {value} {v} {r = Err s} next first says =
    record { done = tt; reports = tt; stops = StopsSo-on store mid mid (stage.job (λ (x : X). (next x).job)) (next (value v)).job s (first.goes (λ (x : X). (next x).job)) (says mid).stops; files = first.files }

-- what stopped the stage stops the task
pub stop_does : {X V A : Type 0} {names : List (List ℕ)} {store after : StoreView} {stage : Stage X} {value : V → X} {s : Stop} (next : X → Task)
    → DoesStage names store after stage value (Err s) → Fulfils {A = A} names store after (after_stage stage next) (Err s)
stop_does {X} next first = record { done = tt; reports = tt; stops = first.stops (λ (x : X). (next x).job); files = first.files }

pub unread_does : {X V A : Type 0} (names : List (List ℕ)) {store after : StoreView} {stage : Stage X} {value : V → X} {s : Stop} (next : X → Task)
    → DoesStage [] store after stage value (Err s) → Fulfils {A = A} names store after (after_stage stage next) (Err s)
unread_does {X} names {store} {after} next first = record { done = tt; reports = tt; stops = first.stops (λ (x : X). (next x).job); files = wider names store after first.files }

-- ---- at once
-- a report
pub report_does : {A : Type 0} (store : StoreView) {report : List ℕ} {Holds : List ℕ → Type 0} (text : Vec ℕ A) → text.items ≡ report → Holds text.items
    → Fulfils [] store store (report_task report Holds) (Ok text)
report_does store text e holds = record { done = (refl, e, stay_same store, ((refl, refl), (refl, refl))); reports = λ before same. holds; stops = tt; files = none_changes [] store }

-- memory could not be had
pub none_does : {A : Type 0} (names : List (List ℕ)) (store : StoreView) (task : Task) {r : Result (Vec ℕ A) Stop} → IsErrAnd r (λ stop. stop ≡ NoMemory) → Fulfils names store store task r
none_does {A} names store task {r} h =
    let p = err_from_is_err_and r h in
    let stops : StopsSo store store task.job NoMemory = stay_cut store store task.job (stay_same store) in
    subst (Fulfils names store store task) (sym p.1) (record { done = tt; reports = tt; stops = subst (StopsSo store store task.job) (sym p.2) stops; files = none_changes names store })

-- a text that is no report; or memory could not be had
pub says_does : {A : Type 0} (store : StoreView) (ending : Ending) (text : List ℕ) (s : Stop) → (ending ≡ Done → ⊥) → StopSays s (λ end said. (end ≡ ending) × (said ≡ text))
    → Fulfils {A = A} [] store store (say_task ending text) (Err s)
says_does store ending text s bad h = record {
  done = tt;
  reports = tt;
  stops = says_stops store store (Say ending text) s (λ end said. (end ≡ ending) × (said ≡ text)) (stay_same store) (λ end said k. ((λ e. bad (sym k.0 ∙ e)), (k.0, k.1, stay_same store, ((refl, refl), (refl, refl))))) h;
  files = none_changes [] store;
}

-- ---- what begins a task
pub goes_begins : {V X : Type 0} {store after : StoreView} {stage : Stage X} {value : V → X} (v : V)
    → ((next : X → Job) → JobGoesOn store after (stage.job next) (next (value v))) → ((before : StoreView) → FilesStay before store → stage.known before (value v)) → SameFiles store after
    → DoesStage [] store after stage value (Ok v)
goes_begins v goes gives same = record { goes = goes; gives = gives; stops = tt; files = same_none same }

pub stops_begins : {V X : Type 0} {store after : StoreView} {stage : Stage X} {value : V → X} (s : Stop)
    → ((next : X → Job) → StopsSo store after (stage.job next) s) → SameFiles store after → DoesStage [] store after stage value (Err s)
stops_begins s stops same = record { goes = tt; gives = tt; stops = stops; files = same_none same }

-- memory could not be had
pub none_begins : {V X : Type 0} {store after : StoreView} {stage : Stage X} {value : V → X} {r : Result V Stop} → IsErrAnd r (λ stop. stop ≡ NoMemory) → SameBut [] store after → DoesStage [] store after stage value r
none_begins {store = store} {after} {stage} {value} {r} h same =
    let p = err_from_is_err_and r h in
    let stops : (next : _) → StopsSo store after (stage.job next) p.0 = λ next. subst (StopsSo store after (stage.job next)) (sym p.2) (stay_cut store after (stage.job next) (none_stays same)) in
    subst (DoesStage [] store after stage value) (sym p.1) (record { goes = tt; gives = tt; stops = stops; files = same })

-- a text that is read by its grammar
pub read_begins : {V A : Type 0} {store mid : StoreView} {name : List ℕ} {grammar : List ℕ → Result A Refusal} {value : V → A} (v : V)
    → Reads store grammar name (value v) → SameFiles store mid → SameCounts store mid → DoesStage [] store mid (text_stage name grammar) value (Ok v)
read_begins {store = store} {mid} {name} {grammar} {value} v read same faults =
    goes_begins v (λ next. on_text store mid name grammar next (value v) read same faults) (λ before files. reads_before files read) same

-- a text that is outside of it
pub refused_begins : {V A : Type 0} {store after : StoreView} (name : List ℕ) (grammar : List ℕ → Result A Refusal) {value : V → A} (s : Stop)
    → StopSays s (Stops store after grammar name) → SameFiles store after → DoesStage [] store after (text_stage name grammar) value (Err s)
refused_begins {store = store} {after} name grammar s stop same =
    stops_begins s (λ next. says_stops store after (reading name grammar next) s (Stops store after grammar name) (files_stay store after same)
    (λ ending text k. (refused_end store after grammar name ending text k, stopped_ends store after name grammar (λ _. next) ending text same k)) stop) same

-- the same with its bytes
pub whole_begins : {V A : Type 0} {store mid : StoreView} {name : List ℕ} {grammar : List ℕ → Result A Refusal} {value : V → List ℕ × A} (v : V)
    → ReadsWhole store grammar name (value v).0 (value v).1 → SameFiles store mid → SameCounts store mid → DoesStage [] store mid (whole_stage name grammar) value (Ok v)
whole_begins {store = store} {mid} {name} {grammar} {value} v read same faults =
    goes_begins v (λ next. on_whole store mid name grammar (λ bytes a. next (bytes, a)) (value v).0 (value v).1 read same faults) (λ before files. whole_before files read) same

pub refused_whole : {V A : Type 0} {store after : StoreView} (name : List ℕ) (grammar : List ℕ → Result A Refusal) {value : V → List ℕ × A} (s : Stop)
    → StopSays s (Stops store after grammar name) → SameFiles store after → DoesStage [] store after (whole_stage name grammar) value (Err s)
refused_whole {store = store} {after} name grammar s stop same =
    stops_begins s (λ next. says_stops store after (reading_whole name grammar (λ bytes a. next (bytes, a))) s (Stops store after grammar name) (files_stay store after same)
    (λ ending text k. (refused_end store after grammar name ending text k, stopped_ends store after name grammar (λ bytes a. next (bytes, a)) ending text same k)) stop) same

-- the lines of an image
pub lines_begins : {V : Type 0} {store mid : StoreView} {name : List ℕ} {value : V → List (List ℕ)} (v : V)
    → HoldsImage store name (value v) → SameFiles store mid → SameCounts store mid → DoesStage [] store mid (lines_stage name) value (Ok v)
lines_begins {store = store} {mid} {name} {value} v h same faults =
    goes_begins v (λ next. on_image store mid name next (value v) h same faults) (λ before files. image_before files h) same

-- ---- writing a file
unwritten_end : (store after : StoreView) (name : List ℕ) (ending : Ending) (text : List ℕ) → CannotWrite store after name ending text → ending ≡ Done → ⊥
unwritten_end store after name Done text h e = h
unwritten_end store after name Usage text h e = h
unwritten_end store after name Refused text h e = h
unwritten_end store after name BadLog text h e = h
unwritten_end store after name ReadFault text h e = h
unwritten_end store after name WriteFault text h e = cc e
unwritten_end store after name Faulty text h e = h
unwritten_end store after name Judged text h e = h

unwritten_stops : (store after : StoreView) (name bytes : List ℕ) (next : Job) (s : Stop) → StopSays s (CannotWrite store after name) → WriteStops store after name → StopsSo store after (Write name bytes next) s
unwritten_stops store after name bytes next (Says ending text) stop cut = (unwritten_end store after name ending text.items stop, inl stop)
unwritten_stops store after name bytes next NoMemory stop cut = inl cut

-- all images were written
pub wrote_begins : {V : Type 0} (v : V) (store new : StoreView) (logs : List ℕ) (images : List (List (List ℕ))) (i : ℕ) → length images ≤ i → WroteSo store new logs images i
    → DoesStage (log_names logs 0 (length images)) store new (writing_stage logs images) (λ (v : V). tt) (Ok v)
wrote_begins v store new logs images i most so = record {
  goes = λ next. subst (λ l. JobGoesOn store new (writing_images logs 0 images (next tt)) (writing_images logs i l (next tt))) (drop_all i images most) (so.on (next tt));
  gives = λ before same. tt;
  stops = tt;
  files = so.others;
}

-- the next image is not written
pub unwritten_begins : {V : Type 0} (store mid new : StoreView) (logs : List ℕ) (images : List (List (List ℕ))) (i : ℕ) (s : Stop) → i < length images
    → WroteSo store mid logs images i → StopSays s (CannotWrite mid new (log_name logs i)) → WriteStops mid new (log_name logs i) → SameOthers (log_name logs i) mid new
    → DoesStage (log_names logs 0 (length images)) store new (writing_stage logs images) (λ (v : V). tt) (Err s)
unwritten_begins store mid new logs images i s less so stop cut others = record {
  goes = tt;
  gives = tt;
  stops = λ next.
      let last = next tt in
      StopsSo-on store mid new (writing_images logs 0 images last) (writing_images logs i (drop i images) last) s (so.on last)
      (subst (λ l. StopsSo mid new (writing_images logs i l last) s) (sym (drop_more images i [] less))
      (unwritten_stops mid new (log_name logs i) (image_bytes (get_or images i [])) (writing_images logs (suc i) (drop (i + 1) images) last) s stop cut));
  files = others_on store mid new logs (length images) i less so.others others;
}

-- memory could not be had after so many
pub cut_begins : {V : Type 0} {r : Result V Stop} (store mid : StoreView) (logs : List ℕ) (images : List (List (List ℕ))) (i : ℕ) → WroteSo store mid logs images i → IsErrAnd r (λ stop. stop ≡ NoMemory)
    → DoesStage (log_names logs 0 (length images)) store mid (writing_stage logs images) (λ (v : V). tt) r
cut_begins {V} {r} store mid logs images i so h =
    let p = err_from_is_err_and r h in
    let names = log_names logs 0 (length images) in
    let stage = writing_stage logs images in
    let stops : (next : Unit {0} → Job) → StopsSo store mid (stage.job next) p.0 =
    λ next. subst (StopsSo store mid (stage.job next)) (sym p.2) ((so.on (next tt)).cut mid (stay_cut mid mid (writing_images logs i (drop i images) (next tt)) (stay_same mid))) in
    subst (DoesStage names store mid stage (λ (v : V). tt)) (sym p.1) (record { goes = tt; gives = tt; stops = stops; files = so.others })

-- ---- one stage after the other
-- a name of a list before those after it
pub name_next : {X : Type 0} (f : X → List ℕ) (names : List X) (i : ℕ) (name : X) → i < length names → name ≡ get_or names i name → map f (drop i names) ≡ f name ∷ map f (drop (i + 1) names)
name_next f names i name h same = ap (map f) (drop_more names i name h) ∙ ap (λ x. f x ∷ map f (drop (i + 1) names)) (sym same)

-- Stages were done and gave these values: what does all of them goes on to those that are left, and has the values before theirs.
pub record ReadSo {A X : Type 0} (stage : A → Stage X) (all left : List A) (store mid : StoreView) (values : List X) : Type 0 where
  pub on : (next : List X → Job) → (rest_next : List X → Job) × ((rest : List X) → rest_next rest ≡ next (values ++ rest)) × JobGoesOn store mid (each_job stage all next) (each_job stage left rest_next)
  pub known : (before : StoreView) → FilesStay before store → (rest : List X) → AreKnown stage left before rest → AreKnown stage all before (values ++ rest)
  pub same : SameBut [] store mid

pub none_read : {A X : Type 0} (stage : A → Stage X) (all : List A) (store : StoreView) (values : List X) → values ≡ [] → ReadSo stage all all store store values
none_read stage all store values e = subst (ReadSo stage all all store store) (sym e) (record {
  on = λ next. (next, (λ rest. refl), goes_same store (each_job stage all next));
  known = λ before same rest h. h;
  same = none_changes [] store;
})

-- one value more
pub value_next : {A X V : Type 0} {stage : A → Stage X} {all before left : List A} {x : A} {store mid new : StoreView} {values more : List X} {value : V → X} {v : V}
    → ReadSo stage all before store mid values → before ≡ x ∷ left → DoesStage [] mid new (stage x) value (Ok v) → more ≡ values ++ value v ∷ [] → ReadSo stage all left store new more
value_next {A} {X} {V} {stage} {all} {before} {left} {x} {store} {mid} {new} {values} {more} {value} {v} so split first e = record {
  on = λ next.
      let o = so.on next in
      let rest_next : List X → Job = λ rest. o.0 (value v ∷ rest) in (
        rest_next,
        (λ rest. o.1 (value v ∷ rest) ∙ ap next (sym (append_assoc values (value v ∷ []) rest)) ∙ ap (λ l. next (l ++ rest)) (sym e)),
        goes_after store mid new (each_job stage all next) (each_job stage before o.0) (each_job stage left rest_next) o.2
            (subst (λ l. JobGoesOn mid new (each_job stage l o.0) (each_job stage left rest_next)) (sym split) (first.goes (λ (y : X). each_job stage left (λ rest. o.0 (y ∷ rest))))),
      );
  known = λ old same rest h.
      subst (AreKnown stage all old) (sym (ap (λ l. l ++ rest) e ∙ append_assoc values (value v ∷ []) rest))
      (so.known old same (value v ∷ rest) (subst (λ l. AreKnown stage l old (value v ∷ rest)) (sym split) (first.gives old (stay_more old store mid same (none_stays so.same)), h)));
  same = then_changes [] store mid new so.same first.files;
}

-- the next value can't be had
pub value_stops : {A X V : Type 0} {stage : A → Stage X} {all before left : List A} {x : A} {store mid new : StoreView} {values : List X} {value : V → X} {s : Stop} {W : Type 0} {made : W → List X}
    → ReadSo stage all before store mid values → before ≡ x ∷ left → DoesStage [] mid new (stage x) value (Err s) → DoesStage [] store new (each_stage stage all) made (Err s)
value_stops {A} {X} {V} {stage} {all} {before} {left} {x} {store} {mid} {new} {s = s} so split first = record {
  goes = tt;
  gives = tt;
  stops = λ next.
      let o = so.on next in
      StopsSo-on store mid new (each_job stage all next) (each_job stage before o.0) s o.2 (subst (λ l. StopsSo mid new (each_job stage l o.0) s) (sym split) (first.stops (λ (y : X). each_job stage left (λ rest. o.0 (y ∷ rest)))));
  files = then_changes [] store mid new so.same first.files;
}

-- all were had
pub values_read : {A X V : Type 0} {stage : A → Stage X} {all left : List A} {store new : StoreView} {value : V → List X} (v : V) → ReadSo stage all left store new (value v) → left ≡ []
    → DoesStage [] store new (each_stage stage all) value (Ok v)
values_read {A} {X} {V} {stage} {all} {left} {store} {new} {value} v so none = record {
  goes = λ next.
      let o = so.on next in
      subst (JobGoesOn store new (each_job stage all next)) (ap (λ l. each_job stage l o.0) none ∙ o.1 [] ∙ ap next (append-nil (value v))) o.2;
  gives = λ before same. subst (AreKnown stage all before) (append-nil (value v)) (so.known before same [] (subst (λ l. AreKnown stage l before []) (sym none) tt));
  stops = tt;
  files = so.same;
}

-- ---- where what is given only stands for the value
abbrev pub by_given : {V X : Type 0} {names : List (List ℕ)} {store after : StoreView} {stage : Stage X} {Fits : V → X → Type 0} {v : V}
    → BeginsBy names store after stage Fits (Ok v) → GoesBy store after stage (Fits v)
by_given b = b.goes

-- it is done with that value
pub by_begins : {V X : Type 0} {names : List (List ℕ)} {store after : StoreView} {stage : Stage X} {Fits : V → X → Type 0} {v : V}
    (b : BeginsBy names store after stage Fits (Ok v)) → DoesStage {V = V} names store after stage (λ _. (by_given b).value) (Ok v)
by_begins b = record { goes = b.goes.goes; gives = b.goes.gives; stops = tt; files = b.files }

pub by_stops : {V W X : Type 0} {names : List (List ℕ)} {store after : StoreView} {stage : Stage X} {Fits : V → X → Type 0} {value : W → X} {s : Stop}
    → BeginsBy names store after stage Fits (Err s) → DoesStage names store after stage value (Err s)
by_stops b = record { goes = tt; gives = tt; stops = b.stops; files = b.files }

pub begins_by : {V W X : Type 0} {names : List (List ℕ)} {store after : StoreView} {stage : Stage X} {Fits : V → X → Type 0} {w : W} (v : V) (x : X)
    → Fits v x → DoesStage {V = W} names store after stage (λ _. x) (Ok w) → BeginsBy names store after stage Fits (Ok v)
begins_by v x fits b = record { goes = record { value = x; fits = fits; goes = b.goes; gives = b.gives }; stops = tt; files = b.files }

pub stops_by : {V W X : Type 0} {names : List (List ℕ)} {store after : StoreView} {stage : Stage X} {Fits : V → X → Type 0} {value : W → X} {s : Stop}
    → DoesStage names store after stage value (Err s) → BeginsBy names store after stage Fits (Err s)
stops_by b = record { goes = tt; stops = b.stops; files = b.files }

-- memory could not be had
pub none_by : {V X : Type 0} {store after : StoreView} {stage : Stage X} {Fits : V → X → Type 0} {r : Result V Stop} → IsErrAnd r (λ stop. stop ≡ NoMemory) → SameBut [] store after → BeginsBy [] store after stage Fits r
none_by {store = store} {after} {stage} {Fits} {r} h same =
    let p = err_from_is_err_and r h in
    let stops : (next : _) → StopsSo store after (stage.job next) p.0 = λ next. subst (StopsSo store after (stage.job next)) (sym p.2) (stay_cut store after (stage.job next) (none_stays same)) in
    subst (BeginsBy [] store after stage Fits) (sym p.1) (record { goes = tt; stops = stops; files = same })
