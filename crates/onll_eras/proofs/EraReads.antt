-- How a job over the newest era goes on with what the files give.

use Rattle.std.proofs.Common.{ℕ, zero, suc, ◌≡◌, Bool, true, List, [], ◌∷◌, length, refl, sym, ap, subst, ◌⊎◌, inl, inr, ⊎_elim, Ok, Err, Result, Option}
use Rattle.onll_log.specs.ImageFile.{image_lines}
use Rattle.onll_merge.specs.declared.fault.StateFault.{StateFault}
use Rattle.onll_merge.specs.Recovered.{Recovered}
use Rattle.onll_text.specs.declared.any_object.AnyObject.{AnyObject}
use Rattle.onll_text.specs.declared.any_object.Kind.{Kind}
use Rattle.onll_text.specs.Refusal.{Refusal}
use Rattle.onll_text.specs.Init.{init_of}
use Rattle.onll_text.specs.Kinds.{ObjectKind, kind_at, on_object}
use Rattle.onll_outside.specs.Views.{StoreView}
use Rattle.onll_task.specs.declared.ending.Ending.{Ending}
use Rattle.onll_task.specs.declared.ending.Ending.TheVariants.{Done, Refused}
use Rattle.onll_open.specs.Names.{log_name, log_names}
use Rattle.onll_task.specs.Recovering.{on_recovery, recovery_of, recovery_stage}
use Rattle.onll_task.specs.Reading.{FileIsTold}
use Rattle.onll_task.specs.Writing.{FilesStay}
use Rattle.onll_task.specs.Job.{Job, Read, JobCut, JobEnds, DecidesWhere, on_value}
use Rattle.onll_task.specs.Doing.{Task, after_stage, lines_stage, each_job}
use Rattle.onll_task.proofs.Jobs.{held_bytes}
use Rattle.onll_checkpoint.specs.Checkpoint.{CheckpointState}
use Rattle.onll_areas.specs.Newest.{newest}
use Rattle.onll_eras.specs.Names.{EraNames, area_name}
use Rattle.onll_eras.specs.Eras.{Era, era_of}
use Rattle.onll_eras.specs.EraJob.{EraNext, started, on_started, era_task, with_newest}
use Rattle.onll_eras.specs.Restored.{TellLogs, RestoredTo, Restores, era_in, newest_by}
use Rattle.onll_eras.proofs.EachObject.{at_object, to_object, each_object, job_of_kind, job_of_object}

-- what goes on with what an era's logs give
abbrev pub Given : EraNext → Option CheckpointState → Era → (k : ObjectKind) → k.State → Result Recovered StateFault → Job
Given next from era k s given = on_recovery (λ r. (next from era k s r).job) given

-- what goes on with their images
abbrev pub Onward : EraNext → Option CheckpointState → Era → (k : ObjectKind) → k.State → List (List (List ℕ)) → Job
Onward next from era k s images = Given next from era k s (recovery_of k era.text images)

-- the task over an object of the era
abbrev pub OnObject : EraNext → (threads : ℕ) → Option CheckpointState → Era → (k : ObjectKind) → k.State → Task
OnObject next threads from era k s = after_stage (recovery_stage k era.text era.logs threads) (next from era k s)

-- the job after INIT was read, and after the area of even numbers too, and after both
abbrev pub after_odd : EraNames → (threads : ℕ) → EraNext → List ℕ → AnyObject → (even odd : List ℕ) → Job
after_odd names threads next bytes first even odd = (era_task names bytes threads first (newest even odd) next).job

abbrev pub after_even : EraNames → (threads : ℕ) → EraNext → List ℕ → AnyObject → (even : List ℕ) → Job
after_even names threads next bytes first even = Read (area_name names.ckpt 1) (λ odd. after_odd names threads next bytes first even odd)

abbrev pub after_init : EraNames → (threads : ℕ) → EraNext → List ℕ → AnyObject → Job
after_init names threads next bytes first = Read (area_name names.ckpt 0) (λ even. after_even names threads next bytes first even)

-- ---- a job that is done
-- the logs of an era are told, with so many images, of which this holds
pub record LogsRead (store : StoreView) (logs : List ℕ) (t n : ℕ) (P : List (List (List ℕ)) → Type 0) : Type 0 where
  pub images : List (List (List ℕ))
  pub told : TellLogs store logs t images
  pub many : length images ≡ n
  pub goes : P images

-- the newest era is told, and this holds of its checkpoint, itself, its images, and the kind and state of its object
pub record EraRead (store : StoreView) (names : EraNames) (threads : ℕ)
    (P : Option CheckpointState → Era → List (List (List ℕ)) → (k : ObjectKind) → k.State → Type 0) : Type 0 where
  pub bytes : List ℕ
  pub first : AnyObject
  pub init_told : FileIsTold store names.init bytes
  pub init_read : init_of bytes ≡ Ok first
  pub even : List ℕ
  pub odd : List ℕ
  pub even_told : FileIsTold store (area_name names.ckpt 0) even
  pub odd_told : FileIsTold store (area_name names.ckpt 1) odd
  pub object : AnyObject
  pub began : started first (newest even odd) ≡ Ok object
  pub images : List (List (List ℕ))
  pub logs_told : TellLogs store (era_of names bytes (newest even odd)).logs 0 images
  pub many : length images ≡ threads
  pub goes : on_object (λ k s. P (newest even odd) (era_of names bytes (newest even odd)) images k s) object

module _ (store after : StoreView) (tells : store.tells ≡ true) (said : List ℕ) where
  logs_end : (logs : List ℕ) (t n : ℕ) (go : List (List (List ℕ)) → Job) → JobEnds store after (each_job lines_stage (log_names logs t n) go) Done said
      → LogsRead store logs t n (λ images. JobEnds store after (go images) Done said)
  logs_end logs t zero go h = record { images = []; told = tt; many = refl; goes = h }
  logs_end logs t (suc n) go (inl h) = absurd h.0
  logs_end logs t (suc n) go (inr h) =
      let rest = logs_end logs (suc t) n (λ images. go (image_lines h.0 ∷ images)) h.1.1 in
      record {
        images = image_lines h.0 ∷ rest.images;
        told = (record { bytes = h.0; told = record { tells = tells; file = h.1.0 tells }; image = refl }, rest.told);
        many = ap suc rest.many;
        goes = rest.goes;
      }

  module _ (names : EraNames) (threads : ℕ) (next : EraNext) where
    abbrev pub EndsHere : Option CheckpointState → Era → List (List (List ℕ)) → (k : ObjectKind) → k.State → Type 0
    EndsHere from era images k s = JobEnds store after (Onward next from era k s images) Done said

    -- the object of the era, and its logs
    record ObjectRead (from : Option CheckpointState) (era : Era) (v : Result AnyObject Refusal) : Type 0 where
      object : AnyObject
      is : v ≡ Ok object
      logs : LogsRead store era.logs 0 threads (λ images. on_object (λ k s. EndsHere from era images k s) object)

    object_end : (from : Option CheckpointState) (era : Era) (v : Result AnyObject Refusal)
        → JobEnds store after (on_started era v (λ k s. OnObject next threads from era k s)).job Done said → ObjectRead from era v
    object_end from era (Err refusal) h = absurd (let no : Done ≡ Refused = h.0 in (cc))
    object_end from era (Ok object) h = record {
      object = object;
      is = refl;
      logs = at_object (λ k s. JobEnds store after (OnObject next threads from era k s).job Done said)
          (λ o. LogsRead store era.logs 0 threads (λ images. on_object (λ k s. EndsHere from era images k s) o))
          (λ kind s ends.
          let logs = logs_end era.logs 0 threads (λ images. Onward next from era (kind_at kind) s images) ends in
          record { images = logs.images; told = logs.told; many = logs.many; goes = to_object (λ k s. EndsHere from era logs.images k s) kind s logs.goes })
          object (job_of_kind (λ k s. OnObject next threads from era k s) (λ job. JobEnds store after job Done said) object h);
    }

    odd_end : (bytes : List ℕ) (first : AnyObject) (even odd : List ℕ) → FileIsTold store names.init bytes → init_of bytes ≡ Ok first → FileIsTold store (area_name names.ckpt 0) even → FileIsTold store (area_name names.ckpt 1) odd
        → JobEnds store after (after_odd names threads next bytes first even odd) Done said → EraRead store names threads EndsHere
    odd_end bytes first even odd told read even_told odd_told h =
        let o = object_end (newest even odd) (era_of names bytes (newest even odd)) (started first (newest even odd)) h in
        record {
          bytes = bytes;
          first = first;
          init_told = told;
          init_read = read;
          even = even;
          odd = odd;
          even_told = even_told;
          odd_told = odd_told;
          object = o.object;
          began = o.is;
          images = o.logs.images;
          logs_told = o.logs.told;
          many = o.logs.many;
          goes = o.logs.goes;
        }

    even_end : (bytes : List ℕ) (first : AnyObject) (even : List ℕ) → FileIsTold store names.init bytes → init_of bytes ≡ Ok first → FileIsTold store (area_name names.ckpt 0) even
        → JobEnds store after (after_even names threads next bytes first even) Done said → EraRead store names threads EndsHere
    even_end bytes first even told read even_told (inl h) = absurd h.0
    even_end bytes first even told read even_told (inr h) = odd_end bytes first even h.0 told read even_told (record { tells = tells; file = h.1.0 tells }) h.1.1

    init_end : (bytes : List ℕ) (first : AnyObject) → FileIsTold store names.init bytes → init_of bytes ≡ Ok first
        → JobEnds store after (after_init names threads next bytes first) Done said → EraRead store names threads EndsHere
    init_end bytes first told read (inl h) = absurd h.0
    init_end bytes first told read (inr h) = even_end bytes first h.0 told read (record { tells = tells; file = h.1.0 tells }) h.1.1

    value_end : (bytes : List ℕ) (v : Result AnyObject Refusal) → FileIsTold store names.init bytes → init_of bytes ≡ v
        → JobEnds store after (on_value names.init (λ first. after_init names threads next bytes first) v) Done said → EraRead store names threads EndsHere
    value_end bytes (Err refusal) told e h = absurd (let no : Done ≡ Refused = h.0 in (cc))
    value_end bytes (Ok first) told e h = init_end bytes first told e h

    pub ends_read : JobEnds store after (with_newest names threads next).job Done said → EraRead store names threads EndsHere
    ends_read (inl h) = absurd h.0
    ends_read (inr h) = value_end h.0 (init_of h.0) (record { tells = tells; file = h.1.0 tells }) refl h.1.1

-- what was read gives what its object gives
abbrev pub restores_of : {store : StoreView} {names : EraNames} {threads : ℕ} {P : Option CheckpointState → Era → List (List (List ℕ)) → (k : ObjectKind) → k.State → Type 0}
    (e : EraRead store names threads P) (place : ℕ) (text : List ℕ)
    → on_object (λ k s. RestoredTo k (era_of names e.bytes (newest e.even e.odd)) s e.images place text) e.object → Restores store names threads place text
restores_of e place text restored = record {
  bytes = e.bytes;
  first = e.first;
  init_told = e.init_told;
  init_read = e.init_read;
  even = e.even;
  odd = e.odd;
  even_told = e.even_told;
  odd_told = e.odd_told;
  object = e.object;
  began = e.began;
  images = e.images;
  logs_told = e.logs_told;
  many = e.many;
  restored = restored;
}

-- ---- what the files decide
module _ (hold : Bool) (store : StoreView) (ending : Ending) (said : List ℕ) where
  logs_decide : (logs : List ℕ) (t : ℕ) (images : List (List (List ℕ))) (go : List (List (List ℕ)) → Job) → TellLogs store logs t images
      → DecidesWhere hold store (go images) ending said → DecidesWhere hold store (each_job lines_stage (log_names logs t (length images)) go) ending said
  logs_decide logs t [] go told d = d
  logs_decide logs t (image ∷ images) go told d = (
    told.0.bytes,
    (
      told.0.told,
      logs_decide logs (suc t) images (λ rest. go (image_lines told.0.bytes ∷ rest)) told.1
          (subst (λ (lines : List (List ℕ)). DecidesWhere hold store (go (lines ∷ images)) ending said) told.0.image d),
    ),
  )

  module _ {names : EraNames} {threads place : ℕ} {text : List ℕ} (next : EraNext) (r : Restores store names threads place text) where
    abbrev Decided : Job → Type 0
    Decided job = DecidesWhere hold store job ending said

    object_decides : (kind : Kind) (s : (kind_at kind).State) → Decided (Onward next (newest_by r) (era_in r) (kind_at kind) s r.images)
        → Decided (OnObject next threads (newest_by r) (era_in r) (kind_at kind) s).job
    object_decides kind s d =
        subst (λ (n : ℕ). Decided (each_job lines_stage (log_names (era_in r).logs 0 n) (λ images. Onward next (newest_by r) (era_in r) (kind_at kind) s images))) r.many
        (logs_decide (era_in r).logs 0 r.images (λ images. Onward next (newest_by r) (era_in r) (kind_at kind) s images) r.logs_told d)

    pub decides_read : on_object (λ k s. DecidesWhere hold store (Onward next (newest_by r) (era_in r) k s r.images) ending said) r.object
        → DecidesWhere hold store (with_newest names threads next).job ending said
    decides_read d =
        let Next : (k : ObjectKind) → k.State → Task = λ k s. OnObject next threads (newest_by r) (era_in r) k s in
        let each = each_object (λ k s. Decided (Onward next (newest_by r) (era_in r) k s r.images)) (λ k s. Decided (OnObject next threads (newest_by r) (era_in r) k s).job) object_decides r.object d in
        let here : Decided (on_started (era_in r) (Ok r.object) Next).job = job_of_object Next Decided r.object each in
        let odd : Decided (after_odd names threads next r.bytes r.first r.even r.odd) = subst (λ (v : Result AnyObject Refusal). Decided (on_started (era_in r) v Next).job) (sym r.began) here in
        let all : Decided (after_init names threads next r.bytes r.first) = (r.even, (r.even_told, (r.odd, (r.odd_told, odd)))) in
        (r.bytes, (r.init_told, subst (λ (v : Result AnyObject Refusal). Decided (on_value names.init (λ first. after_init names threads next r.bytes first) v)) (sym r.init_read) all))

-- ---- where a job stops
module _ (store after : StoreView) where
  -- of a file that is told, a job that reads it stops there with nothing changed, or goes on with what it holds
  read_cut : (name bytes : List ℕ) (go : List ℕ → Job) → FileIsTold store name bytes → JobCut store after (Read name go) → FilesStay store after ⊎ JobCut store after (go bytes)
  read_cut name bytes go told (inl h) = inl h
  read_cut name bytes go told (inr h) = inr (subst (λ (found : List ℕ). JobCut store after (go found)) (held_bytes store name bytes h.0 told h.1.0) h.1.1)

  logs_cut : (logs : List ℕ) (t : ℕ) (images : List (List (List ℕ))) (go : List (List (List ℕ)) → Job) → TellLogs store logs t images
      → JobCut store after (each_job lines_stage (log_names logs t (length images)) go) → FilesStay store after ⊎ JobCut store after (go images)
  logs_cut logs t [] go told h = inr h
  logs_cut logs t (image ∷ images) go told h = ⊎_elim
      (λ (s : FilesStay store after). inl s)
      (λ k. logs_cut logs (suc t) images (λ rest. go (image ∷ rest)) told.1
      (subst (λ (lines : List (List ℕ)). JobCut store after (each_job lines_stage (log_names logs (suc t) (length images)) (λ rest. go (lines ∷ rest)))) (sym told.0.image) k))
      (read_cut (log_name logs t) told.0.bytes (λ bytes. each_job lines_stage (log_names logs (suc t) (length images)) (λ rest. go (image_lines bytes ∷ rest))) told.0.told h)

  module _ {names : EraNames} {threads place : ℕ} {text : List ℕ} (next : EraNext) (r : Restores store names threads place text) where
    object_cut : (kind : Kind) (s : (kind_at kind).State) → JobCut store after (OnObject next threads (newest_by r) (era_in r) (kind_at kind) s).job
        → FilesStay store after ⊎ JobCut store after (Onward next (newest_by r) (era_in r) (kind_at kind) s r.images)
    object_cut kind s h =
        logs_cut (era_in r).logs 0 r.images (λ images. Onward next (newest_by r) (era_in r) (kind_at kind) s images) r.logs_told
        (subst (λ (n : ℕ). JobCut store after (each_job lines_stage (log_names (era_in r).logs 0 n) (λ images. Onward next (newest_by r) (era_in r) (kind_at kind) s images))) (sym r.many) h)

    abbrev Here : Type 0
    Here = FilesStay store after ⊎ on_object (λ k s. JobCut store after (Onward next (newest_by r) (era_in r) k s r.images)) r.object

    odd_cut : JobCut store after (after_odd names threads next r.bytes r.first r.even r.odd) → Here
    odd_cut h =
        let Next : (k : ObjectKind) → k.State → Task = λ k s. OnObject next threads (newest_by r) (era_in r) k s in
        let here : JobCut store after (on_started (era_in r) (Ok r.object) Next).job = subst (λ (v : Result AnyObject Refusal). JobCut store after (on_started (era_in r) v Next).job) r.began h in
        at_object (λ k s. JobCut store after (OnObject next threads (newest_by r) (era_in r) k s).job)
        (λ o. FilesStay store after ⊎ on_object (λ k s. JobCut store after (Onward next (newest_by r) (era_in r) k s r.images)) o)
        (λ kind s cut. ⊎_elim (λ (stay : FilesStay store after). inl stay)
        (λ on. inr (to_object (λ k s. JobCut store after (Onward next (newest_by r) (era_in r) k s r.images)) kind s on)) (object_cut kind s cut))
        r.object (job_of_kind Next (λ job. JobCut store after job) r.object here)

    even_cut : JobCut store after (after_even names threads next r.bytes r.first r.even) → Here
    even_cut h = ⊎_elim (λ (stay : FilesStay store after). inl stay) (λ cut. odd_cut cut)
        (read_cut (area_name names.ckpt 1) r.odd (λ odd. after_odd names threads next r.bytes r.first r.even odd) r.odd_told h)

    init_cut : JobCut store after (after_init names threads next r.bytes r.first) → Here
    init_cut h = ⊎_elim (λ (stay : FilesStay store after). inl stay) (λ cut. even_cut cut)
        (read_cut (area_name names.ckpt 0) r.even (λ even. after_even names threads next r.bytes r.first even) r.even_told h)

    pub cut_read : JobCut store after (with_newest names threads next).job
        → FilesStay store after ⊎ on_object (λ k s. JobCut store after (Onward next (newest_by r) (era_in r) k s r.images)) r.object
    cut_read h = ⊎_elim (λ (stay : FilesStay store after). inl stay)
        (λ cut. init_cut (subst (λ (v : Result AnyObject Refusal). JobCut store after (on_value names.init (λ first. after_init names threads next r.bytes first) v)) r.init_read cut))
        (read_cut names.init r.bytes (λ bytes. on_value names.init (λ first. after_init names threads next bytes first) (init_of bytes)) r.init_told h)
