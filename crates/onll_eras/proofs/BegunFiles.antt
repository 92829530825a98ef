-- What the stages of a checkpoint leave of the files, wherever they stop.

use Rattle.std.proofs.Common.{ℕ, zero, suc, ◌≡◌, ◌+◌, ◌<◌, ◌≤◌, true, List, [], ◌∷◌, ◌++◌, length, refl, sym, ap, ◌∙◌, subst, arith, ◌⊎◌, inl, inr, ⊎_elim, Some, Option, cond, Bool, false}
use Rattle.std.specs.Prelude.{codes, decimal}
use Rattle.std.specs.List.{AllByRecursion}
use Rattle.std.specs.Str.{bytes_eq}
use Rattle.std.proofs.lemmas.Bool.{cases_Bool}
use Rattle.std.proofs.lemmas.Slice.Eq.{bytes_eq-Decides}
use Rattle.onll_model.specs.Limits.{greatest_code}
use Rattle.onll_outside.specs.Views.{StoreView, AreZeros, image_bytes}
use Rattle.onll_task.specs.declared.ending.Ending.{Ending}
use Rattle.onll_task.specs.declared.ending.Ending.TheVariants.{Done}
use Rattle.onll_open.specs.Names.{log_name, log_names}
use Rattle.onll_task.specs.Writing.{FilesStay, AllButStay, written}
use Rattle.onll_areas.specs.Keeping.{HasKeptLines, OthersStay}
use Rattle.onll_task.specs.Job.{Job, Say, Write, Keep, JobCut, JobEnds}
use Rattle.onll_checkpoint.specs.Checkpoint.{CheckpointState, FitsCheckpoint}
use Rattle.onll_checkpoint.specs.Text.{lines_for}
use Rattle.onll_checkpoint.specs.Grammar.{checkpoint_image}
use Rattle.onll_eras.specs.Names.{area_name, text_name, area_files}
use Rattle.onll_eras.specs.Restored.{TellLogs}
use Rattle.onll_eras.specs.Begun.{header_image, header_images, HoldsNoCheckpoint, IsBegunEra}
use Rattle.onll_eras.specs.EraJob.{area_said, area_of, keeping_headers, begun_stage}
use Rattle.onll_eras.proofs.HeadersAlone.{length-header_images}
use Rattle.onll_eras.proofs.NamesApart.{same_thread, log_not_text, longer}
use Rattle.onll_eras.proofs.HeaderLines.{header_back}
use Rattle.onll_areas.proofs.Zeros.{none_in_zeros}
use Rattle.onll_areas.proofs.WholeAreas.{found_in_area}

-- ---- few files change
stay_all : (names : List (List ℕ)) (store : StoreView) → AllButStay names store store
stay_all names store = record { tells = refl; file = λ tells other differs. refl }

stay_then : (names : List (List ℕ)) (store mid after : StoreView) → AllButStay names store mid → AllButStay names mid after → AllButStay names store after
stay_then names store mid after a b =
    record { tells = b.tells ∙ a.tells; file = λ tells other differs. b.file (a.tells ∙ tells) other differs ∙ a.file tells other differs }

-- a file of these names
abbrev IsIn : List (List ℕ) → List ℕ → Type 0
IsIn names name = (other : List ℕ) → AllByRecursion (λ n. other ≡ n → ⊥) names → other ≡ name → ⊥

stay_one : (names : List (List ℕ)) (name : List ℕ) (store after : StoreView) → IsIn names name → OthersStay name store after → AllButStay names store after
stay_one names name store after in_ o = record { tells = o.tells; file = λ tells other differs. o.file tells other (in_ other differs) }

stay_files : (names : List (List ℕ)) (store after : StoreView) → FilesStay store after → AllButStay names store after
stay_files names store after f = record { tells = f.tells; file = λ tells other differs. f.file tells other }

front_of : (xs ys : List (List ℕ)) (other : List ℕ) → AllByRecursion (λ n. other ≡ n → ⊥) (xs ++ ys) → AllByRecursion (λ n. other ≡ n → ⊥) xs
front_of [] ys other d = tt
front_of (x ∷ xs) ys other d = (d.0, front_of xs ys other d.1)

back_of : (xs ys : List (List ℕ)) (other : List ℕ) → AllByRecursion (λ n. other ≡ n → ⊥) (xs ++ ys) → AllByRecursion (λ n. other ≡ n → ⊥) ys
back_of [] ys other d = d
back_of (x ∷ xs) ys other d = back_of xs ys other d.1

-- fewer names
fewer : (names more : List (List ℕ)) (store after : StoreView) → ((other : List ℕ) → AllByRecursion (λ n. other ≡ n → ⊥) more → AllByRecursion (λ n. other ≡ n → ⊥) names)
    → AllButStay names store after → AllButStay more store after
fewer names more store after f a = record { tells = a.tells; file = λ tells other d. a.file tells other (f other d) }

-- ---- logs that are told stay told
tell_on : (store after : StoreView) (logs : List ℕ) (t : ℕ) (images : List (List (List ℕ))) → after.tells ≡ store.tells
    → ((i : ℕ) → i < length images → after.file (log_name logs (t + i)) ≡ store.file (log_name logs (t + i))) → TellLogs store logs t images → TellLogs after logs t images
tell_on store after logs t [] tells same told = tt
tell_on store after logs t (image ∷ images) tells same told =
    let here : after.file (log_name logs t) ≡ store.file (log_name logs t) =
    (let e : t + 0 ≡ t = omega arith in subst (λ (i : ℕ). after.file (log_name logs i) ≡ store.file (log_name logs i)) e (same 0 (omega arith))) in (
      record { bytes = told.0.bytes; told = record { tells = tells ∙ told.0.told.tells; file = here ∙ told.0.told.file }; image = told.0.image },
      tell_on store after logs (suc t) images tells
          (λ i l. let e : t + suc i ≡ suc t + i = omega arith in subst (λ (j : ℕ). after.file (log_name logs j) ≡ store.file (log_name logs j)) e (same (suc i) (omega arith))) told.1,
    )

written_other : (store : StoreView) (name bytes other : List ℕ) → (other ≡ name → ⊥) → (written store name bytes).file other ≡ store.file other
written_other store name bytes other n = ⊎_elim
    (λ (t : bytes_eq other name ≡ true). absurd (n ((bytes_eq-Decides other name).0 t)))
    (λ (t : bytes_eq other name ≡ false). ap (λ (b : Bool). cond {A = Option (List ℕ)} b (Some bytes) (store.file other)) t)
    (cases_Bool (bytes_eq other name))

-- ---- the logs
module _ (logs : List ℕ) (code : ℕ) (text : List ℕ) (threads : ℕ) (few : threads ≤ 16) (known : code ≤ greatest_code) (Goes : StoreView → Type 0) where
  -- they were kept, and it goes on
  record KeptAll (store : StoreView) (t n : ℕ) : Type 0 where
    kept : StoreView
    others : AllButStay (log_names logs t n) store kept
    told : TellLogs kept logs t (header_images code text threads t n)
    on : Goes kept

  more_kept : (store mid : StoreView) (t n : ℕ) → t < threads → store.tells ≡ true → HasKeptLines store mid (log_name logs t) (header_image code text threads t) 1
      → t + suc n ≤ 16 → KeptAll mid (suc t) n → KeptAll store t (suc n)
  more_kept store mid t n l tells h within k =
      let rest : List (List ℕ) = log_names logs (suc t) n in
      let name = log_name logs t in
      let on : mid.tells ≡ true = h.others.tells ∙ tells in
      record {
        kept = k.kept;
        others = stay_then (name ∷ rest) store mid k.kept (stay_one (name ∷ rest) name store mid (λ other d. d.0) h.others) (fewer rest (name ∷ rest) mid k.kept (λ other d. d.1) k.others);
        told = (
          record {
            bytes = image_bytes (header_image code text threads t);
            told = record { tells = k.others.tells ∙ on; file = k.others.file on name (apart (suc t) n (omega arith) (omega arith)) ∙ h.file tells };
            image = header_back code threads t text l few known;
          },
          k.told,
        );
        on = k.on;
      }
    where
      apart : (u m : ℕ) → t < u → u + m ≤ 16 → AllByRecursion (λ n. log_name logs t ≡ n → ⊥) (log_names logs u m)
      apart u zero b w = tt
      apart u (suc m) b w = ((λ e. let same = same_thread logs t u (omega arith) (omega arith) e in omega arith), apart (suc u) m (omega arith) (omega arith))

module _ (logs : List ℕ) (code : ℕ) (text : List ℕ) (threads : ℕ) (few : threads ≤ 16) (known : code ≤ greatest_code) (next : Job) (after : StoreView) where
  abbrev Cut : StoreView → Type 0
  Cut kept = JobCut kept after next

  headers_cut : (store : StoreView) (t n : ℕ) → t + n ≤ threads → store.tells ≡ true → JobCut store after (keeping_headers logs code text threads t n next)
      → AllButStay (log_names logs t n) store after ⊎ KeptAll logs code text threads few known Cut store t n
  headers_cut store t zero l tells h = inr (record { kept = store; others = stay_all [] store; told = tt; on = h })
  headers_cut store t (suc n) l tells (inl h) = inl (stay_one (log_name logs t ∷ log_names logs (suc t) n) (log_name logs t) store after (λ other d. d.0) h.others)
  headers_cut store t (suc n) l tells (inr h) = ⊎_elim
      (λ (s : AllButStay (log_names logs (suc t) n) h.0 after).
      inl (stay_then (log_name logs t ∷ log_names logs (suc t) n) store h.0 after
      (stay_one (log_name logs t ∷ log_names logs (suc t) n) (log_name logs t) store h.0 (λ other d. d.0) h.1.others)
      (fewer (log_names logs (suc t) n) (log_name logs t ∷ log_names logs (suc t) n) h.0 after (λ other d. d.1) s)))
      (λ (k : KeptAll logs code text threads few known Cut h.0 (suc t) n). inr (more_kept logs code text threads few known Cut store h.0 t n (omega arith) tells h.1 (omega arith) k))
      (headers_cut h.0 (suc t) n (omega arith) (h.1.others.tells ∙ tells) h.2)

  -- a job that is done kept them all
  module _ (said : List ℕ) where
    abbrev Ends : StoreView → Type 0
    Ends kept = JobEnds kept after next Done said

    headers_done : (store : StoreView) (t n : ℕ) → t + n ≤ threads → store.tells ≡ true → JobEnds store after (keeping_headers logs code text threads t n next) Done said
        → KeptAll logs code text threads few known Ends store t n
    headers_done store t zero l tells h = record { kept = store; others = stay_all [] store; told = tt; on = h }
    headers_done store t (suc n) l tells (inl h) = absurd h
    headers_done store t (suc n) l tells (inr h) =
        more_kept logs code text threads few known Ends store h.0 t n (omega arith) tells h.1 (omega arith) (headers_done h.0 (suc t) n (omega arith) (h.1.others.tells ∙ tells) h.2)

written_this : (store : StoreView) (name bytes : List ℕ) → (written store name bytes).file name ≡ Some bytes
written_this store name bytes = ap (λ (b : Bool). cond {A = Option (List ℕ)} b (Some bytes) (store.file name)) ((bytes_eq-Decides name name).1 refl)

-- ---- the whole
module _ (ckpt : List ℕ) (code threads : ℕ) (c : CheckpointState) (fits : FitsCheckpoint c) (few : threads ≤ 16) (known : code ≤ greatest_code) (ending : Ending) (text : List ℕ)
    (store after : StoreView) (tells : store.tells ≡ true) where
  abbrev this : List ℕ
  this = area_name ckpt (area_of c)

  abbrev init : List ℕ
  init = text_name ckpt (area_of c)

  abbrev logs : List (List ℕ)
  logs = log_names this 0 threads

  abbrev files : List (List ℕ)
  files = area_files ckpt (area_of c) threads

  abbrev lines : List (List ℕ)
  lines = checkpoint_image c (lines_for (length c.text))

  abbrev images : List (List (List ℕ))
  images = header_images code c.text threads 0 threads

  abbrev Begun : Type 0
  Begun = IsBegunEra after ckpt threads code c

  abbrev Area : Type 0
  Area = (after.file this ≡ store.file this) ⊎ HoldsNoCheckpoint after this ⊎ Begun

  abbrev Left : Type 0
  Left = AllButStay files store after × Area

  in_logs : (other : List ℕ) → AllByRecursion (λ n. other ≡ n → ⊥) files → AllByRecursion (λ n. other ≡ n → ⊥) logs
  in_logs other d = front_of logs (init ∷ []) other d.1

  in_init : IsIn files init
  in_init other d = (back_of logs (init ∷ []) other d.1).0

  in_this : IsIn files this
  in_this other d = d.0

  -- the area is none of the other files
  area_alone : (t n : ℕ) → AllByRecursion (λ name. this ≡ name → ⊥) (log_names this t n)
  area_alone t zero = tt
  area_alone t (suc n) = ((λ e. longer this (codes "." ++ decimal t) (omega arith) (sym e)), area_alone (suc t) n)

  area_not_init : this ≡ init → ⊥
  area_not_init e = longer this (codes ".init") (omega arith) (sym e)

  area_same : (mid : StoreView) → AllButStay logs store mid → mid.file this ≡ store.file this
  area_same mid o = o.file tells this (area_alone 0 threads)

  log_not_this : (t : ℕ) → log_name this t ≡ this → ⊥
  log_not_this t e = longer this (codes "." ++ decimal t) (omega arith) e

  -- the area holds the checkpoint, over a store that has its text and its logs
  begun : (mid : StoreView) → mid.tells ≡ true → mid.file init ≡ Some c.text → TellLogs mid this 0 images → after.file this ≡ Some (image_bytes lines)
      → OthersStay this mid after → Begun
  begun mid on said told e others = record {
    bytes = image_bytes lines;
    told = record { tells = others.tells ∙ on; file = e };
    found = found_in_area c fits;
    text = record { tells = others.tells ∙ on; file = others.file on init (λ same. area_not_init (sym same)) ∙ said };
    logs = tell_on mid after this 0 images others.tells (λ i l. others.file on (log_name this (0 + i)) (log_not_this (0 + i))) told;
  }

  -- the area was kept, and nothing changed since
  area_whole : (mid kept : StoreView) → AllButStay files store mid → mid.file init ≡ Some c.text → TellLogs mid this 0 images → HasKeptLines mid kept this lines 2 → FilesStay kept after
      → AllButStay files store after × Begun
  area_whole mid kept o said told k last =
      let on : mid.tells ≡ true = o.tells ∙ tells in
      let kept_on : kept.tells ≡ true = k.others.tells ∙ on in (
        stay_then files store mid after o (stay_then files mid kept after (stay_one files this mid kept in_this k.others) (stay_files files kept after last)),
        begun mid on said told (last.file kept_on this ∙ k.file on) (record {
          tells = last.tells ∙ k.others.tells;
          file = λ at other differs. last.file kept_on other ∙ k.others.file at other differs;
        }),
      )

  -- it stops at the area, or there are all its files
  at_area : (mid : StoreView) → AllButStay files store mid → mid.file this ≡ store.file this → mid.file init ≡ Some c.text → TellLogs mid this 0 images
      → JobCut mid after (Keep this lines 2 (area_said (area_of c)) (Say ending text)) → Left
  at_area mid o same said told (inl h) = (
    stay_then files store mid after o (stay_one files this mid after in_this h.others),
    ⊎_elim (λ (e : after.file this ≡ mid.file this). inl (e ∙ same))
        (λ r. ⊎_elim
        (λ (z : (bytes : List ℕ) × (after.file this ≡ Some bytes) × AreZeros bytes). inr (inl (none z)))
        (λ (e : after.file this ≡ Some (image_bytes lines)). inr (inr (begun mid (o.tells ∙ tells) said told e h.others))) r)
        (h.file (o.tells ∙ tells)),
  )
    where
      none : (bytes : List ℕ) × (after.file this ≡ Some bytes) × AreZeros bytes → HoldsNoCheckpoint after this
      none z = record { bytes = z.0; told = record { tells = h.others.tells ∙ (o.tells ∙ tells); file = z.1 }; none = none_in_zeros z.0 z.2 }
  at_area mid o same said told (inr h) = let left = area_whole mid h.0 o said told h.1 h.2 in (left.0, inr (inr left.1))

  -- the text was written
  text_whole : (kept : StoreView) → AllButStay logs store kept → TellLogs kept this 0 images
      → AllButStay files store (written kept init c.text) × TellLogs (written kept init c.text) this 0 images
  text_whole kept o told =
      let mid = written kept init c.text in (
        stay_then files store kept mid (fewer logs files store kept in_logs o)
            (stay_one files init kept mid in_init (record { tells = refl; file = λ on other differs. written_other kept init c.text other differs })),
        tell_on kept mid this 0 images refl
            (λ i l. let n = length-header_images code c.text threads 0 threads in
            written_other kept init c.text (log_name this (0 + i)) (log_not_text ckpt (area_of c) (0 + i) (omega arith))) told,
      )

  at_text : (kept : StoreView) → AllButStay logs store kept → TellLogs kept this 0 images
      → JobCut kept after (Write init c.text (Keep this lines 2 (area_said (area_of c)) (Say ending text))) → Left
  at_text kept o told (inl h) =
      let wide = fewer logs files store kept in_logs o in
      let on : kept.tells ≡ true = o.tells ∙ tells in
      ⊎_elim
      (λ (f : FilesStay kept after). (stay_then files store kept after wide (stay_files files kept after f), inl (f.file on this ∙ area_same kept o)))
      (λ w. (stay_then files store kept after wide (stay_one files init kept after in_init w.others), inl (w.others.file on this area_not_init ∙ area_same kept o))) h
  at_text kept o told (inr h) =
      let w = text_whole kept o told in
      at_area (written kept init c.text) w.0 (written_other kept init c.text this area_not_init ∙ area_same kept o) (written_this kept init c.text) w.1 h

  pub begun_leaves : JobCut store after ((begun_stage ckpt code threads c).job (λ _. Say ending text))
      → AllButStay (area_files ckpt (area_of c) threads) store after
      × ((after.file (area_name ckpt (area_of c)) ≡ store.file (area_name ckpt (area_of c))) ⊎ HoldsNoCheckpoint after (area_name ckpt (area_of c)) ⊎ IsBegunEra after ckpt threads code c)
  begun_leaves h = ⊎_elim
      (λ (o : AllButStay logs store after). (fewer logs files store after in_logs o, inl (area_same after o)))
      (λ k. at_text k.kept k.others k.told k.on)
      (headers_cut this code c.text threads few known (Write init c.text (Keep this lines 2 (area_said (area_of c)) (Say ending text))) after store 0 threads (omega arith) tells h)

  -- a job that is done leaves them all, and says its text
  abbrev Whole : List ℕ → Type 0
  Whole said = AllButStay files store after × Begun × (said ≡ text)

  area_ends : (mid : StoreView) (said : List ℕ) → AllButStay files store mid → mid.file init ≡ Some c.text → TellLogs mid this 0 images
      → JobEnds mid after (Keep this lines 2 (area_said (area_of c)) (Say ending text)) Done said → Whole said
  area_ends mid said o held told (inl h) = absurd h
  area_ends mid said o held told (inr h) = let whole = area_whole mid h.0 o held told h.1 h.2.2 in (whole.0, whole.1, h.2.1)

  text_ends : (kept : StoreView) (said : List ℕ) → AllButStay logs store kept → TellLogs kept this 0 images
      → JobEnds kept after (Write init c.text (Keep this lines 2 (area_said (area_of c)) (Say ending text))) Done said → Whole said
  text_ends kept said o told (inl h) = absurd h
  text_ends kept said o told (inr h) = let w = text_whole kept o told in area_ends (written kept init c.text) said w.0 (written_this kept init c.text) w.1 h

  pub begun_ends : (said : List ℕ) → JobEnds store after ((begun_stage ckpt code threads c).job (λ _. Say ending text)) Done said
      → AllButStay (area_files ckpt (area_of c) threads) store after × IsBegunEra after ckpt threads code c × (said ≡ text)
  begun_ends said h =
      let k = headers_done this code c.text threads few known (Write init c.text (Keep this lines 2 (area_said (area_of c)) (Say ending text))) after said store 0 threads (omega arith) tells h in
      text_ends k.kept said k.others k.told k.on
