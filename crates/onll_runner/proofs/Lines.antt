-- How many lines devices have over which scripts are run, and what their files are.

use Rattle.std.proofs.Common.{ℕ, suc, true, false, List, [], ◌∷◌, ◌≡◌, ◌+◌, ◌*◌, ◌≤◌, max, length, map, replicate, Option, Some, None, is_some, refl, sym, ap, ◌∙◌, subst, arith}
use Rattle.std.specs.List.{AllByRecursion}
use Rattle.onll_model.specs.declared.call.Call.{Call}
use Rattle.onll_model.specs.Calls.{updates_in}
use Rattle.onll_pmem.specs.Pmem.{DeviceView}
use Rattle.onll_log.specs.declared.head.LogHead.{LogHead}
use Rattle.onll_log.specs.Grammar.{Content, used_by}
use Rattle.onll_log.specs.ImageFile.{longest_image}
use Rattle.onll_merge.specs.declared.counts.LogCounts.{LogCounts}
use Rattle.onll_merge.specs.Recovered.{log_counts}
use Rattle.onll_outside.specs.Views.{StoreView, IsFresh, MayWipe, image_bytes, with_zeros}
use Rattle.onll_run.specs.Left.{LogLeft, no_base}
use Rattle.onll_run.specs.Making.{HeldBefore}
use Rattle.onll_run.specs.Ran.{IsRoomyFor, AreRoomy}
use Rattle.onll_open.specs.Names.{log_name, log_names}
use Rattle.onll_open.specs.Devices.{AreReopened, AreWithin, front_by, fronts_by, no_counts}
use Rattle.onll_open.specs.Files.{KeepsFront, KeepFronts}
use Rattle.onll_open.proofs.Reopening.{IsSound, AreSound, all_used, front_short, long_zeros, stands_at}
use Rattle.onll_task.specs.Running.{FileStands, StandsByHead, AllStand, HaveSizes}
use Rattle.onll_runner.specs.Ground.{AreFitting, lines_over}
use Rattle.onll_runner.specs.ResumeJob.{AreLong}
use Rattle.onll_runner.specs.RunEnds.{lines_left}

-- ---- files
-- a file that keeps some lines begins with them
keeps_some : (name : List ℕ) (front : List (List ℕ)) (old new : StoreView) → 1 ≤ length front → KeepsFront name front old new → MayWipe name (image_bytes front) old new
keeps_some name [] old new some h = absurd (omega (arith, some))
keeps_some name (line ∷ front) old new some h = h

-- the files stand as they are left over which devices were had
pub logs_stay : (name : List ℕ) (t : ℕ) (logs : List Content) (images : List (List (List ℕ))) (old new : StoreView) → AreSound logs images → KeepFronts name t (fronts_by (map log_counts logs) images) old new
    → AllStand (FileStands old new) (log_names name t (length logs)) logs
logs_stay name t [] [] old new s w = tt
logs_stay name t [] (image ∷ images) old new s w = absurd s
logs_stay name t (log ∷ logs) [] old new s w = absurd s
logs_stay name t (log ∷ logs) (image ∷ images) old new s w = (by log.head refl, logs_stay name (suc t) logs images old new s.1 w.1)
  where
    by : (head : Option LogHead) → log.head ≡ head → StandsByHead log.head old new (log_name name t) log
    by None e = subst (λ (o : Option LogHead). StandsByHead o old new (log_name name t) log) (sym e)
        (λ on. subst (λ (o : Option LogHead). KeepsFront (log_name name t) (front_by (is_some o) image) old new) e w.0)
    by (Some head) e =
        let used = all_used log image head s.0 e in
        subst (λ (o : Option LogHead). StandsByHead o old new (log_name name t) log) (sym e)
        (image, s.0.holds, used.0, keeps_some (log_name name t) image old new used.1 (subst (λ (o : Option LogHead). KeepsFront (log_name name t) (front_by (is_some o) image) old new) e w.0))

-- ---- lines
module _ {State Op Query Reply : Type 0} where
  -- the lines that a device is made with are enough
  enough : (threads : ℕ) (log : Content) (image : List (List ℕ)) (count : ℕ) (script : List (Call State Op Query Reply)) → IsSound log image
      → length image ≤ max (max 1 (used_by log) + (threads + 1) * updates_in script) count
  enough threads log image count script s = let most = s.most in omega (arith, most)

  pub are_within : (threads : ℕ) (logs : List Content) (images : List (List (List ℕ))) (counts : List ℕ) (scripts : List (List (Call State Op Query Reply))) → AreSound logs images → length counts ≡ length logs → length scripts ≡ length logs
      → AreWithin images (lines_over threads (map log_counts logs) counts scripts)
  are_within threads [] [] counts scripts s e f = tt
  are_within threads [] (image ∷ images) counts scripts s e f = absurd s
  are_within threads (log ∷ logs) [] counts scripts s e f = absurd s
  are_within threads (log ∷ logs) (image ∷ images) [] scripts s e f = absurd (omega (arith, e))
  are_within threads (log ∷ logs) (image ∷ images) (count ∷ counts) [] s e f = absurd (omega (arith, f))
  are_within threads (log ∷ logs) (image ∷ images) (count ∷ counts) (script ∷ scripts) s e f =
      (enough threads log image count script s.0, are_within threads logs images counts scripts s.1 (omega (arith, e)) (omega (arith, f)))

  -- and no more than are read of a file
  pub lines_small : (threads : ℕ) (logs : List LogCounts) (counts : List ℕ) (scripts : List (List (Call State Op Query Reply))) → AreFitting (threads + 1) logs scripts → AllByRecursion (λ n. 64 * n ≤ longest_image) counts
      → AllByRecursion (λ n. 64 * n ≤ longest_image) (lines_over threads logs counts scripts)
  lines_small threads [] counts scripts fit few = tt
  lines_small threads (log ∷ logs) [] scripts fit few = tt
  lines_small threads (log ∷ logs) (count ∷ counts) [] fit few = tt
  lines_small threads (log ∷ logs) (count ∷ counts) (script ∷ scripts) fit few =
      (let room = fit.0 in let low = few.0 in omega (arith, room, low), lines_small threads logs counts scripts fit.1 few.1)

  -- so large are the logs on such devices
  pub sizes_again : (threads : ℕ) (store : StoreView) (name : List ℕ) (t : ℕ) (logs : List Content) (counts : List ℕ) (scripts : List (List (Call State Op Query Reply))) (left : List LogLeft)
      → map lines_left left ≡ lines_over threads (map log_counts logs) counts scripts → AreLong name t counts store → length counts ≡ length logs → length scripts ≡ length logs
      → HaveSizes true threads store (log_names name t (length scripts)) logs scripts left
  sizes_again threads store name t [] counts [] [] e long many few = tt
  sizes_again threads store name t [] counts [] (l ∷ left) e long many few = absurd (omega (arith, ap length e))
  sizes_again threads store name t [] counts (script ∷ scripts) left e long many few = absurd (omega (arith, few))
  sizes_again threads store name t (log ∷ logs) [] scripts left e long many few = absurd (omega (arith, many))
  sizes_again threads store name t (log ∷ logs) (count ∷ counts) [] left e long many few = absurd (omega (arith, few))
  sizes_again threads store name t (log ∷ logs) (count ∷ counts) (script ∷ scripts) [] e long many few = absurd (omega (arith, ap length e))
  sizes_again threads store name t (log ∷ logs) (count ∷ counts) (script ∷ scripts) (l ∷ left) e long many few =
      let here : lines_left l ≡ max (max 1 (used_by log) + (threads + 1) * updates_in script) count = (cc) in
      let rest : map lines_left left ≡ lines_over threads (map log_counts logs) counts scripts = (cc) in (
        (omega (arith, here), (λ on bytes is. let read = long.0 on bytes is in omega (arith, here, read))),
        sizes_again threads store name (suc t) logs counts scripts left rest long.1 (omega (arith, many)) (omega (arith, few)),
      )

  module _ {Device : Type 0} (means : Device → DeviceView) where
    is_roomy : (threads : ℕ) (log : Content) (image : List (List ℕ)) (count : ℕ) (script : List (Call State Op Query Reply)) (d : Device) → IsSound log image
        → IsFresh (with_zeros (front_by (is_some log.head) image) (max (max 1 (used_by log) + (threads + 1) * updates_in script) count)) (means d) → IsRoomyFor means threads log script d
    is_roomy threads log image count script d s fresh =
        let n : ℕ = max (max 1 (used_by log) + (threads + 1) * updates_in script) count in
        let low = enough threads log image count script s in
        let short = front_short (is_some log.head) image in
        let long : length (means d).read ≡ n = ap length fresh.read ∙ long_zeros (front_by (is_some log.head) image) n (omega (arith, low, short)) in
        record {
          fences = fresh.fences;
          faults = fresh.faults;
          settled = fresh.settled;
          stands = subst (HeldBefore log) (sym fresh.read) (stands_at log image n s (omega arith) low);
          lines = omega (arith, long);
        }

    pub roomy_again : (threads : ℕ) (logs : List Content) (images : List (List (List ℕ))) (counts : List ℕ) (scripts : List (List (Call State Op Query Reply))) (devices : List Device) → AreSound logs images → length scripts ≡ length logs
        → AreReopened means (fronts_by (map log_counts logs) images) (lines_over threads (map log_counts logs) counts scripts) devices → AreRoomy means threads logs scripts devices
    roomy_again threads [] [] counts [] [] s many r = tt
    roomy_again threads [] [] counts [] (d ∷ ds) s many r = absurd r
    roomy_again threads [] [] counts (script ∷ scripts) ds s many r = absurd (omega (arith, many))
    roomy_again threads [] (image ∷ images) counts scripts ds s many r = absurd s
    roomy_again threads (log ∷ logs) [] counts scripts ds s many r = absurd s
    roomy_again threads (log ∷ logs) (image ∷ images) [] scripts ds s many r = absurd r
    roomy_again threads (log ∷ logs) (image ∷ images) (count ∷ counts) [] ds s many r = absurd r
    roomy_again threads (log ∷ logs) (image ∷ images) (count ∷ counts) (script ∷ scripts) [] s many r = absurd r
    roomy_again threads (log ∷ logs) (image ∷ images) (count ∷ counts) (script ∷ scripts) (d ∷ ds) s many r =
        (is_roomy threads log image count script d s.0 r.0, roomy_again threads logs images counts scripts ds s.1 (omega (arith, many)) r.1)

module _ {Device : Type 0} (means : Device → DeviceView) where
  -- nor have the devices
  pub small_again : (fronts : List (List (List ℕ))) (lines : List ℕ) (devices : List Device) → AreWithin fronts lines → AllByRecursion (λ n. 64 * n ≤ longest_image) lines → AreReopened means fronts lines devices
      → AllByRecursion (λ (d : Device). 64 * length (means d).read ≤ longest_image) devices
  small_again [] [] [] w small r = tt
  small_again [] [] (d ∷ ds) w small r = absurd r
  small_again [] (n ∷ lines) ds w small r = absurd w
  small_again (front ∷ fronts) [] ds w small r = absurd w
  small_again (front ∷ fronts) (n ∷ lines) [] w small r = absurd r
  small_again (front ∷ fronts) (n ∷ lines) (d ∷ ds) w small r =
      let long : length (means d).read ≡ n = ap length r.0.read ∙ long_zeros front n w.0 in
      let low = small.0 in
      (omega (arith, long, low), small_again fronts lines ds w.1 small.1 r.1)

  -- they have the lines that they were asked for
  pub lines_reopened : (fronts : List (List (List ℕ))) (lines : List ℕ) (devices : List Device) → AreWithin fronts lines → AreReopened means fronts lines devices → map (λ (d : Device). length (means d).read) devices ≡ lines
  lines_reopened [] [] [] w r = refl
  lines_reopened [] [] (d ∷ ds) w r = absurd r
  lines_reopened [] (n ∷ lines) ds w r = absurd w
  lines_reopened (front ∷ fronts) [] ds w r = absurd w
  lines_reopened (front ∷ fronts) (n ∷ lines) [] w r = absurd r
  lines_reopened (front ∷ fronts) (n ∷ lines) (d ∷ ds) w r =
      let long : length (means d).read ≡ n = ap length r.0.read ∙ long_zeros front n w.0 in
      ap (λ m. m ∷ map (λ (x : Device). length (means x).read) ds) long ∙ ap (λ ms. n ∷ ms) (lines_reopened fronts lines ds w.1 r.1)

-- the lines with which devices begin are no more than the images have
pub fronts_within : (held : List LogCounts) (images : List (List (List ℕ))) (lines : List ℕ) → length held ≡ length images → AreWithin images lines → AreWithin (fronts_by held images) lines
fronts_within [] [] lines many w = w
fronts_within [] (image ∷ images) lines many w = absurd (omega (arith, many))
fronts_within (log ∷ held) [] lines many w = absurd (omega (arith, many))
fronts_within (log ∷ held) (image ∷ images) [] many w = absurd w
fronts_within (log ∷ held) (image ∷ images) (n ∷ lines) many w =
    (let short = front_short log.head image in let low = w.0 in omega (arith, short, low), fronts_within held images lines (omega (arith, many)) w.1)

-- ---- logs that are begun
module _ {State Op Query Reply : Type 0} where
  pub sizes_new : (threads : ℕ) (store : StoreView) (name : List ℕ) (t : ℕ) (scripts : List (List (Call State Op Query Reply))) (left : List LogLeft)
      → map lines_left left ≡ lines_over threads (replicate (length scripts) no_counts) (replicate (length scripts) 0) scripts
      → HaveSizes false threads store (log_names name t (length scripts)) (no_base (length scripts)).logs scripts left
  sizes_new threads store name t [] [] e = tt
  sizes_new threads store name t [] (l ∷ left) e = absurd (omega (arith, ap length e))
  sizes_new threads store name t (script ∷ scripts) [] e = absurd (omega (arith, ap length e))
  sizes_new threads store name t (script ∷ scripts) (l ∷ left) e =
      let here : lines_left l ≡ max (max 1 0 + (threads + 1) * updates_in script) 0 = (cc) in
      let rest : map lines_left left ≡ lines_over threads (replicate (length scripts) no_counts) (replicate (length scripts) 0) scripts = (cc) in
      (omega (arith, here), sizes_new threads store name (suc t) scripts left rest)
