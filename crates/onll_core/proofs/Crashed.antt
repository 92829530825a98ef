use Rattle.std.proofs.Common.{ℕ, zero, suc, ◌≡◌, ◌≤◌, ◌⊎◌, inl, inr, ⊎_elim, List, [], ◌∷◌, ◌++◌, length, map, take, Some, Result, Ok, Err, IfOk, option_to_list, sym, refl, ap, ◌∙◌, subst, arith}
use Rattle.std.proofs.lemmas.List.{length-take-le}
use Rattle.std.specs.List.{AllByRecursion, slice_get}
use Rattle.onll_model.specs.declared.node.Node.{Node}
use Rattle.onll_model.specs.Object.{Behaviour}
use Rattle.onll_model.specs.Segment.{Segment}
use Rattle.onll_model.proofs.Lists.{same_some}
use Rattle.onll_pmem.specs.Device.{IsImage, image_of}
use Rattle.onll_log.specs.declared.head.LogHead.{LogHead}
use Rattle.onll_log.specs.Grammar.{Content, content_of}
use Rattle.onll_log.specs.Torn.{Holds}
use Rattle.onll_merge.specs.Merge.{top_of}
use Rattle.onll_merge.specs.FrameLogs.{AreLogsOf}
use Rattle.onll_merge.proofs.FrameLogs.{merge_to_front}
use Rattle.onll_core.specs.declared.returned.Returned.{Returned}
use Rattle.onll_core.specs.Core.{CoreThread, CoreState}
use Rattle.onll_core.specs.CoreFrame.{seen_in, pending_in, fenced_entries, frame_thread, frame_of}
use Rattle.onll_core.specs.Outcomes.{script_of}
use Rattle.onll_core.specs.Consistent.{IsConsistent}
use Rattle.onll_core.specs.Crash.{AreImages, images_of, heads_of, HasUpTo, Recovers}
use Rattle.onll_core.proofs.CoreFrames.{part_at}
use Rattle.onll_core.specs.Step.{steps_of}
use Rattle.onll_core.proofs.Kept.{steps_consistent}
use Rattle.onll_core.proofs.Images.{image_either, picked_image}
use Rattle.onll_core.proofs.Stays.{steps_stay}

-- What is recovered from the images of a core's devices.

-- ---- one image for each thread
module _ {State Op Query Reply : Type 0} where
  picked_from : (keep : ℕ) (ths : List (CoreThread State Op Query Reply)) → ((t : ℕ) (th : CoreThread State Op Query Reply) → slice_get ths t ≡ Some th → IsImage th.device (image_of th.device keep)) → AreImages ths (images_of keep ths)
  picked_from keep [] h = tt
  picked_from keep (th ∷ ths) h = (h 0 th refl, picked_from keep ths (λ t w e. h (suc t) w e))

  pub picked_images : (count : ℕ) (c : CoreState State Op Query Reply) (keep : ℕ) → IsConsistent count c → AreImages c.threads (images_of keep c.threads)
  picked_images count c keep k = picked_from keep c.threads (λ t th at. picked_image count c k t th at keep)

  pub images_many : (ths : List (CoreThread State Op Query Reply)) (images : List (List (List ℕ))) → AreImages ths images → length images ≡ length ths
  images_many [] [] a = refl
  images_many [] (image ∷ images) a = absurd a
  images_many (th ∷ ths) [] a = absurd a
  images_many (th ∷ ths) (image ∷ images) a = ap suc (images_many ths images a.1)

  -- an image holds the fenced entries, or these and the one being written
  abbrev HoldsEither : List Node → CoreThread State Op Query Reply → List (List ℕ) → Type 0
  HoldsEither trace th image = Holds image th.head (fenced_entries th.head th.device) ⊎ Holds image th.head (fenced_entries th.head th.device ++ option_to_list (pending_in trace th.phase))

  -- what the images hold are logs of the frame's threads
  pub record AreHeld (base : ℕ) (trace : List Node) (ths : List (CoreThread State Op Query Reply)) (images : List (List (List ℕ))) : Type 0 where
    pub logs : List Content
    pub contents : map content_of images ≡ map Some logs
    pub left : AreLogsOf (map (frame_thread base trace) ths) (heads_of ths) logs

  one_more : (base : ℕ) (trace : List Node) (th : CoreThread State Op Query Reply) (ths : List (CoreThread State Op Query Reply)) (image : List (List ℕ)) (images : List (List (List ℕ))) (ss : List Segment)
      → Holds image th.head ss → (ss ≡ fenced_entries th.head th.device) ⊎ (ss ≡ fenced_entries th.head th.device ++ option_to_list (pending_in trace th.phase)) → AreHeld base trace ths images
      → AreHeld base trace (th ∷ ths) (image ∷ images)
  one_more base trace th ths image images ss holds which rest = let here : Content = record { head = Some th.head; entries = ss } in let more = rest.contents in record {
    logs = here ∷ rest.logs;
    contents = λ i. holds i ∷ more i;
    left = (record { head_kept = refl; segments = which }, rest.left);
  }

  pub are_held : (base : ℕ) (trace : List Node) (ths : List (CoreThread State Op Query Reply)) (images : List (List (List ℕ))) → AreImages ths images
      → ((t : ℕ) (th : CoreThread State Op Query Reply) → slice_get ths t ≡ Some th → (image : List (List ℕ)) → IsImage th.device image → HoldsEither trace th image) → AreHeld base trace ths images
  are_held base trace [] [] a h = record { logs = []; contents = refl; left = tt }
  are_held base trace [] (image ∷ images) a h = absurd a
  are_held base trace (th ∷ ths) [] a h = absurd a
  are_held base trace (th ∷ ths) (image ∷ images) a h =
      let fenced : List Segment = fenced_entries th.head th.device in
      let rest = are_held base trace ths images a.1 (λ t w e. h (suc t) w e) in
      ⊎_elim (λ (k : Holds image th.head fenced). one_more base trace th ths image images fenced k (inl refl) rest)
      (λ (k : Holds image th.head (fenced ++ option_to_list (pending_in trace th.phase))). one_more base trace th ths image images (fenced ++ option_to_list (pending_in trace th.phase)) k (inr refl) rest)
      (h 0 th refl image a.0)

-- ---- what a front of the trace has
pub take_take : (m p : ℕ) (xs : List Node) → p ≤ m → take p (take m xs) ≡ take p xs
take_take m zero xs l = refl
take_take zero (suc p) xs l = absurd (omega arith)
take_take (suc m) (suc p) [] l = refl
take_take (suc m) (suc p) (x ∷ xs) l = ap (λ (z : List Node). x ∷ z) (take_take m p xs (omega arith))

has_up_to : (trace : List Node) (m p : ℕ) → m ≤ length trace → p ≤ m → HasUpTo trace (take m trace) p
has_up_to trace m p high l = let e = length-take-le m trace high in record { long = omega arith; same = take_take m p trace l }

all_seen : {State Op Query Reply : Type 0} (base m : ℕ) (trace : List Node) (rs : List (Returned State Op Query Reply)) → m ≤ length trace → seen_in base rs ≤ m
    → AllByRecursion (λ (r : Returned State Op Query Reply). HasUpTo trace (take m trace) r.place) rs
all_seen base m trace [] high l = tt
all_seen base m trace (r ∷ rs) high l = (has_up_to trace m r.place high (omega arith), all_seen base m trace rs high (omega arith))

-- ---- all images recover
pub recovers : {State Op Query Reply : Type 0} (count : ℕ) (c : CoreState State Op Query Reply) (images : List (List (List ℕ))) → IsConsistent count c → AreImages c.threads images → Recovers (heads_of c.threads) c images
recovers count c images k a =
    let held = are_held c.base c.trace c.threads images a (λ t th at image i. image_either count c k t th at image i) in
    let m : ℕ = top_of held.logs in
    let merged = merge_to_front count (frame_of c) (heads_of c.threads) held.logs k.sound held.left in
    record {
      logs = held.logs;
      contents = held.contents;
      nodes = take m c.trace;
      recovered = merged.merged;
      front = refl;
      all_places = length-take-le m c.trace merged.within;
      from_base = has_up_to c.trace m c.base merged.within (merged.available c.base (k.based.available c.base (omega arith)));
      each_returned = λ t th at. all_seen c.base m c.trace th.returned merged.within (merged.available (seen_in c.base th.returned) (k.sound.seen t (frame_thread c.base c.trace th) (part_at c t th at th.phase refl)));
    }

-- ---- after any steps
-- threads of which a part is the same
same_parts : {State Op Query Reply A : Type 0} (part : CoreThread State Op Query Reply → A) (old new : List (CoreThread State Op Query Reply)) → length new ≡ length old
    → ((t : ℕ) (th : CoreThread State Op Query Reply) → slice_get old t ≡ Some th → (w : CoreThread State Op Query Reply) × (slice_get new t ≡ Some w) × (part w ≡ part th)) → map part new ≡ map part old
same_parts part [] [] e h = refl
same_parts part [] (w ∷ ws) e h = absurd (omega arith)
same_parts part (th ∷ ths) [] e h = absurd (omega arith)
same_parts part (th ∷ ths) (w ∷ ws) e h =
    let x = h 0 th refl in
    let here : part w ≡ part th = ap part (same_some w x.0 x.1) ∙ x.2 in
    let rest = same_parts part ths ws (omega arith) (λ t v at. h (suc t) v at) in
    λ i. here i ∷ rest i

module _ {State Op Query Reply : Type 0} (b : Behaviour State Op Query Reply) where
  pub steps_heads : (c : CoreState State Op Query Reply) (ts : List ℕ) → heads_of (steps_of b c ts).threads ≡ heads_of c.threads
  steps_heads c ts = let s = steps_stay b c ts in same_parts (λ th. th.head) c.threads (steps_of b c ts).threads s.all_threads (λ t th at. let x = s.threads t th at in (x.0, x.1, x.2.head))

  pub steps_scripts : (c : CoreState State Op Query Reply) (ts : List ℕ) → map script_of (steps_of b c ts).threads ≡ map script_of c.threads
  steps_scripts c ts = let s = steps_stay b c ts in same_parts script_of c.threads (steps_of b c ts).threads s.all_threads (λ t th at. let x = s.threads t th at in (x.0, x.1, x.2.script))

  pub later_recovers : (count : ℕ) (c : CoreState State Op Query Reply) (ts : List ℕ) (images : List (List (List ℕ))) → IsConsistent count c → AreImages (steps_of b c ts).threads images
      → Recovers (heads_of c.threads) (steps_of b c ts) images
  later_recovers count c ts images k a =
      subst (λ (heads : List LogHead). Recovers heads (steps_of b c ts) images) (steps_heads c ts) (recovers count (steps_of b c ts) images (steps_consistent b count c ts k) a)

-- ---- what code finds
-- the same contents are the same logs
pub some_same : (xs ys : List Content) → map Some xs ≡ map Some ys → xs ≡ ys
some_same [] [] e = refl
some_same [] (y ∷ ys) e = absurd (cc)
some_same (x ∷ xs) [] e = absurd (cc)
some_same (x ∷ xs) (y ∷ ys) e = let a : Some x ≡ Some y = (cc) in let b : map Some xs ≡ map Some ys = (cc) in let here = same_some x y a in let rest = some_same xs ys b in λ i. here i ∷ rest i

-- a crash leaves images of a core
pub own_crash : {State Op Query Reply V E : Type 0} (lines : V → List (List (List ℕ))) (count : ℕ) (c : CoreState State Op Query Reply) (keep : ℕ) (ths : List (CoreThread State Op Query Reply)) → IsConsistent count c → ths ≡ c.threads
    → (result : Result V E) → IfOk result (λ v. lines v ≡ images_of keep ths) → IfOk result (λ v. AreImages c.threads (lines v))
own_crash lines count c keep ths k same (Ok v) h = subst (λ (images : List (List (List ℕ))). AreImages c.threads images) (sym (h ∙ ap (images_of keep) same)) (picked_images count c keep k)
own_crash lines count c keep ths k same (Err e) h = tt
