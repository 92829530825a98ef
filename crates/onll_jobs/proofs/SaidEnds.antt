-- Where a job ends as neither a file nor a text makes it end, each text and each image that it reads was read, and it went on.

use Rattle.std.proofs.Common.{ℕ, zero, suc, List, [], ◌∷◌, ◌≡◌, ◌≤◌, ◌⊎◌, inl, inr, length, Result, Ok, Err, refl, ap, subst}
use Rattle.std.specs.List.{AllByRecursion}
use Rattle.onll_model.specs.declared.call.Call.{Call}
use Rattle.onll_model.specs.Calls.{updates_in}
use Rattle.onll_log.specs.ImageFile.{image_lines}
use Rattle.onll_text.specs.Refusal.{Refusal}
use Rattle.onll_text.specs.Wording.{Wording}
use Rattle.onll_text.specs.Script.{script_of}
use Rattle.onll_text.proofs.FewCalls.{few_calls}
use Rattle.onll_outside.specs.Views.{StoreView}
use Rattle.onll_task.specs.declared.ending.Ending.{Ending}
use Rattle.onll_task.specs.declared.ending.Ending.TheVariants.{Done, Usage, Refused, BadLog, ReadFault, WriteFault, Faulty, Judged}
use Rattle.onll_task.specs.Doing.{lines_stage, each_job, AreKnown}
use Rattle.onll_open.specs.Names.{log_names}
use Rattle.onll_task.specs.Reading.{ReadsWhole, RefusesFile, CannotRead}
use Rattle.onll_task.specs.Writing.{CannotWrite}
use Rattle.onll_task.specs.Job.{Job, JobEnds, on_value, reading_whole}
use Rattle.onll_task.specs.Scripts.{ReadScripts, scripts_stage}

-- ---- endings that neither a file nor a text gives
abbrev pub IsSaid : Ending → Type 0
IsSaid Done = Unit {0}
IsSaid Usage = Unit {0}
IsSaid BadLog = Unit {0}
IsSaid Refused = ⊥
IsSaid ReadFault = ⊥
IsSaid WriteFault = ⊥
IsSaid Faulty = Unit {0}
IsSaid Judged = Unit {0}

-- no file that can't be read gives it
abbrev pub IsHeld : Ending → Type 0
IsHeld Done = Unit {0}
IsHeld Usage = Unit {0}
IsHeld Refused = Unit {0}
IsHeld BadLog = Unit {0}
IsHeld ReadFault = ⊥
IsHeld WriteFault = Unit {0}
IsHeld Faulty = Unit {0}
IsHeld Judged = Unit {0}

-- nor a text that is refused
abbrev pub IsRead : Ending → Type 0
IsRead ending = IsHeld ending × (ending ≡ Refused → ⊥)

can_read : (store after : StoreView) (name : List ℕ) (ending : Ending) (text : List ℕ) → IsHeld ending → CannotRead store after name ending text → ⊥
can_read store after name Done text said h = h
can_read store after name Usage text said h = h
can_read store after name BadLog text said h = h
can_read store after name Refused text said h = h
can_read store after name ReadFault text said h = said
can_read store after name WriteFault text said h = h
can_read store after name Faulty text said h = h
can_read store after name Judged text said h = h

pub can_write : (store after : StoreView) (name : List ℕ) (ending : Ending) (text : List ℕ) → IsSaid ending → CannotWrite store after name ending text → ⊥
can_write store after name Done text said h = h
can_write store after name Usage text said h = h
can_write store after name BadLog text said h = h
can_write store after name Refused text said h = said
can_write store after name ReadFault text said h = said
can_write store after name WriteFault text said h = said
can_write store after name Faulty text said h = h
can_write store after name Judged text said h = h

said_held : (ending : Ending) → IsSaid ending → IsHeld ending
said_held Done said = tt
said_held Usage said = tt
said_held Refused said = tt
said_held BadLog said = tt
said_held ReadFault said = said
said_held WriteFault said = tt
said_held Faulty said = tt
said_held Judged said = tt

pub said_read : (ending : Ending) → IsSaid ending → IsRead ending
said_read ending said = (said_held ending said, λ e. subst IsSaid e said)

-- ---- what was read
-- a text was read, and the job went on
pub record WholeEnds {A : Type 0} (store after : StoreView) (name : List ℕ) (grammar : List ℕ → Result A Refusal) (next : List ℕ → A → Job) (ending : Ending) (text : List ℕ) : Type 0 where
  pub bytes : List ℕ
  pub value : A
  pub read : ReadsWhole store grammar name bytes value
  pub ends : JobEnds store after (next bytes value) ending text

-- so were scripts
pub record ScriptsEnd {State Op Query Reply : Type 0} (w : Wording State Op Query Reply) (store after : StoreView) (names : List (List ℕ)) (next : List (List (Call State Op Query Reply)) → Job) (ending : Ending) (text : List ℕ) : Type 0 where
  pub scripts : List (List (Call State Op Query Reply))
  pub read : ReadScripts w store names scripts
  pub ends : JobEnds store after (next scripts) ending text

-- so were images
pub record ImagesEnd (store after : StoreView) (names : List (List ℕ)) (next : List (List (List ℕ)) → Job) (ending : Ending) (text : List ℕ) : Type 0 where
  pub images : List (List (List ℕ))
  pub known : AreKnown lines_stage names store images
  pub ends : JobEnds store after (next images) ending text

module _ (after : StoreView) (ending : Ending) (text : List ℕ) (held : IsHeld ending) where
  -- a text is refused, or it was read
  pub whole_or : {A : Type 0} (store : StoreView) (name : List ℕ) (grammar : List ℕ → Result A Refusal) (next : List ℕ → A → Job) → JobEnds store after (reading_whole name grammar next) ending text
      → ((ending ≡ Refused) × RefusesFile store grammar name text) ⊎ WholeEnds store after name grammar next ending text
  whole_or store name grammar next (inl h) = absurd (can_read store after name ending text held h.0)
  whole_or {A = A} store name grammar next (inr h) = by (grammar h.0) refl h.1.1
    where
      by : (r : Result A Refusal) → grammar h.0 ≡ r → JobEnds store after (on_value name (next h.0) r) ending text
          → ((ending ≡ Refused) × RefusesFile store grammar name text) ⊎ WholeEnds store after name grammar next ending text
      by (Ok value) e k = inr (record { bytes = h.0; value = value; read = record { held = h.1.0; accepted = e }; ends = k })
      by (Err refusal) e k = inl (k.0, record { bytes = h.0; refusal = refusal; held = h.1.0; outside = e; line = k.1 })

  pub images_read : (store : StoreView) (names : List (List ℕ)) (next : List (List (List ℕ)) → Job) → JobEnds store after (each_job lines_stage names next) ending text → ImagesEnd store after names next ending text
  images_read store [] next h = record { images = []; known = tt; ends = h }
  images_read store (name ∷ names) next (inl h) = absurd (can_read store after name ending text held h.0)
  images_read store (name ∷ names) next (inr h) =
      let rest = images_read store names (λ images. next (image_lines h.0 ∷ images)) h.1.1 in
      record { images = image_lines h.0 ∷ rest.images; known = (record { bytes = h.0; held = h.1.0; image = refl }, rest.known); ends = rest.ends }

module _ (after : StoreView) (ending : Ending) (text : List ℕ) (was : IsRead ending) where
  pub whole_ends : {A : Type 0} (store : StoreView) (name : List ℕ) (grammar : List ℕ → Result A Refusal) (next : List ℕ → A → Job) → JobEnds store after (reading_whole name grammar next) ending text → WholeEnds store after name grammar next ending text
  whole_ends {A = A} store name grammar next h = by (whole_or after ending text was.0 store name grammar next h)
    where
      by : ((ending ≡ Refused) × RefusesFile store grammar name text) ⊎ WholeEnds store after name grammar next ending text → WholeEnds store after name grammar next ending text
      by (inl refused) = absurd (was.1 refused.0)
      by (inr read) = read

  pub scripts_end : {State Op Query Reply : Type 0} (w : Wording State Op Query Reply) (store : StoreView) (names : List (List ℕ)) (next : List (List (Call State Op Query Reply)) → Job) → JobEnds store after ((scripts_stage w names).job next) ending text → ScriptsEnd w store after names next ending text
  scripts_end w store [] next h = record { scripts = []; read = tt; ends = h }
  scripts_end w store (name ∷ names) next h =
      let first = whole_ends store name (script_of w) (λ bytes calls. (scripts_stage w names).job (λ scripts. next (calls ∷ scripts))) h in
      let rest = scripts_end w store names (λ scripts. next (first.value ∷ scripts)) first.ends in
      record { scripts = first.value ∷ rest.scripts; read = (record { bytes = first.bytes; held = first.read.held; accepted = first.read.accepted }, rest.read); ends = rest.ends }

-- ---- how much
module _ {State Op Query Reply : Type 0} (w : Wording State Op Query Reply) (store : StoreView) where
  -- there is a script for each name
  pub many_scripts : (names : List (List ℕ)) (scripts : List (List (Call State Op Query Reply))) → ReadScripts w store names scripts → length scripts ≡ length names
  many_scripts [] [] h = refl
  many_scripts [] (script ∷ scripts) h = absurd h
  many_scripts (name ∷ names) [] h = absurd h
  many_scripts (name ∷ names) (script ∷ scripts) h = ap suc (many_scripts names scripts h.1)

  -- with few updates
  pub few_updates : (names : List (List ℕ)) (scripts : List (List (Call State Op Query Reply))) → ReadScripts w store names scripts → AllByRecursion (λ (script : List (Call State Op Query Reply)). updates_in script ≤ 4096) scripts
  few_updates [] [] h = tt
  few_updates [] (script ∷ scripts) h = absurd h
  few_updates (name ∷ names) [] h = absurd h
  few_updates (name ∷ names) (script ∷ scripts) h = ((few_calls w h.0.bytes script h.0.accepted).0, few_updates names scripts h.1)

-- an image was read for each thread
pub known_many : (store : StoreView) (logs : List ℕ) (i n : ℕ) (images : List (List (List ℕ))) → AreKnown lines_stage (log_names logs i n) store images → length images ≡ n
known_many store logs i zero [] h = refl
known_many store logs i zero (image ∷ images) h = absurd h
known_many store logs i (suc n) [] h = absurd h
known_many store logs i (suc n) (image ∷ images) h = ap suc (known_many store logs (suc i) n images h.1)
