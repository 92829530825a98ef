use Rattle.std.proofs.Common.{ℕ, zero, suc, ◌≡◌, ◌+◌, ◌<◌, ◌≤◌, Bool, List, [], ◌∷◌, ◌++◌, length, map, take, drop, get_or, sym, refl, ap, ◌∙◌, subst, arith, append_assoc, append-nil, length-append}
use Rattle.std.specs.Prelude.{max, if◌then◌else◌}
use Rattle.std.proofs.lemmas.Bool.{ne_eqb}
use Rattle.std.proofs.lemmas.List.{length-replicate, length-take-le, get_or-map}
use Rattle.onll_model.specs.declared.call.Call.{Call}
use Rattle.onll_pmem.specs.Device.{zero_line, zero_lines, fenced_device}
use Rattle.onll_pmem.specs.Memory.{MemoryState}
use Rattle.onll_log.specs.declared.head.LogHead.{LogHead}
use Rattle.onll_log.specs.Head.{head_line}
use Rattle.onll_merge.specs.declared.counts.LogCounts.{LogCounts}
use Rattle.onll_core.specs.declared.phase.Phase.TheVariants as phases
use Rattle.onll_core.specs.Core.{CoreThread}
use Rattle.onll_core.specs.Kept.{KeepsWorker}
use Rattle.onll_core.specs.Found.{front_lines, found_thread, found_threads, HasLogRoom, HaveLogRoom}

-- What the code of a core keeps of threads that go on in their logs.

front_long : (head : LogHead) (lines : ℕ) (image : List (List ℕ)) → lines ≤ length image → length (front_lines head lines image) ≡ max 1 lines
front_long head zero image low = refl
front_long head (suc n) image low =
    let some : (suc n ≡ 0) → ⊥ = λ z. omega arith in
    let e : front_lines head (suc n) image ≡ take (suc n) image = ap (λ (q : Bool). if q then head_line head ∷ [] else take (suc n) image) (ne_eqb (suc n) 0 some) in
    let k = length-take-le (suc n) image low in
    let l = ap length e in
    omega arith

pub found_worker : {State Op Query Reply : Type 0} (head : LogHead) (script : List (Call State Op Query Reply)) (lines entries room used most : ℕ) (image : List (List ℕ)) (device : MemoryState)
    → device ≡ record { device = fenced_device (front_lines head lines image ++ zero_lines room); failing = [] } → lines ≤ length image → used ≡ max 1 lines → entries < max 1 lines → max 1 lines + room ≤ 1000000 → length script ≤ most
    → KeepsWorker {State = State} {Op = Op} {Query = Query} {Reply = Reply} device.failing most (record { head = head; script = script; returned = []; phase = phases.Idle; began = 0; used = used; logged = entries; before = 0; device = device.device })
found_worker head script lines entries room used most image device is low used_is few space fits =
    let front = front_long head lines image low in
    let zeros : length (zero_lines room) ≡ room = length-replicate room zero_line in
    let size : length device.device.read ≡ length (front_lines head lines image) + length (zero_lines room) = ap (λ (m : MemoryState). length m.device.read) is ∙ length-append (front_lines head lines image) (zero_lines room) in
    record {
      never_fails = ap (λ (m : MemoryState). m.failing) is;
      room = fits;
      lines = omega arith;
      fences = omega arith;
      few = let e : device.device.fences ≡ 0 = ap (λ (m : MemoryState). m.device.fences) is in omega arith;
      entries = omega arith;
      within = omega arith;
    }

-- ---- one thread more
drop_head : {A : Type 0} (xs : List A) (t : ℕ) (x d : A) (ys : List A) → drop t xs ≡ x ∷ ys → (t < length xs) × (get_or xs t d ≡ x) × (drop (t + 1) xs ≡ ys)
drop_head [] zero x d ys e = absurd (cc)
drop_head [] (suc t) x d ys e = absurd (cc)
drop_head (y ∷ xs) zero x d ys e = (omega arith, (cc), (cc))
drop_head (y ∷ xs) (suc t) x d ys e = let h = drop_head xs t x d ys e in let z : suc t + 1 ≡ suc (t + 1) = omega arith in (omega (arith, h.0), h.1, ap (λ n. drop n (y ∷ xs)) z ∙ h.2)

module _ {State Op Query Reply : Type 0} where
  -- the first of lists that are roomy
  record RoomyFirst (heads : List LogHead) (images : List (List (List ℕ))) (logs : List LogCounts) (script : List (Call State Op Query Reply)) (scripts : List (List (Call State Op Query Reply))) : Type 0 where
    pub head : LogHead
    pub heads' : List LogHead
    pub image : List (List ℕ)
    pub images' : List (List (List ℕ))
    pub log : LogCounts
    pub logs' : List LogCounts
    pub heads_are : heads ≡ head ∷ heads'
    pub images_are : images ≡ image ∷ images'
    pub logs_are : logs ≡ log ∷ logs'
    pub here : HasLogRoom head image log script
    pub rest : HaveLogRoom heads' images' logs' scripts

  roomy_first : (heads : List LogHead) (images : List (List (List ℕ))) (logs : List LogCounts) (script : List (Call State Op Query Reply)) (scripts : List (List (Call State Op Query Reply))) → HaveLogRoom heads images logs (script ∷ scripts)
      → RoomyFirst heads images logs script scripts
  roomy_first [] [] [] s ss r = absurd r
  roomy_first [] [] (c ∷ cs) s ss r = absurd r
  roomy_first [] (i ∷ is) cs s ss r = absurd r
  roomy_first (h ∷ hs) [] cs s ss r = absurd r
  roomy_first (h ∷ hs) (i ∷ is) [] s ss r = absurd r
  roomy_first (h ∷ hs) (i ∷ is) (c ∷ cs) s ss r = record { head = h; heads' = hs; image = i; images' = is; log = c; logs' = cs; heads_are = refl; images_are = refl; logs_are = refl; here = r.0; rest = r.1 }

  -- what stands of the thread t, and of those after it
  pub record RoomyAt (heads : List LogHead) (images : List (List (List ℕ))) (logs : List LogCounts) (t : ℕ) (dh : LogHead) (dl : LogCounts) (script : List (Call State Op Query Reply)) (scripts : List (List (Call State Op Query Reply))) : Type 0 where
    pub low_head : t < length heads
    pub low_image : t < length images
    pub low_log : t < length logs
    pub here : HasLogRoom (get_or heads t dh) (get_or images t []) (get_or logs t dl) script
    pub rest : HaveLogRoom (drop (t + 1) heads) (drop (t + 1) images) (drop (t + 1) logs) scripts
    pub more : (made made' : List (CoreThread State Op Query Reply)) (w : CoreThread State Op Query Reply) → w ≡ found_thread (get_or heads t dh) (get_or images t []) (get_or logs t dl) script → made' ≡ made ++ w ∷ []
        → made' ++ found_threads (drop (t + 1) heads) (drop (t + 1) images) (drop (t + 1) logs) scripts ≡ made ++ found_threads (drop t heads) (drop t images) (drop t logs) (script ∷ scripts)

  pub roomy_at : (heads : List LogHead) (images : List (List (List ℕ))) (logs : List LogCounts) (t : ℕ) (dh : LogHead) (dl : LogCounts) (script : List (Call State Op Query Reply)) (scripts : List (List (Call State Op Query Reply)))
      → HaveLogRoom (drop t heads) (drop t images) (drop t logs) (script ∷ scripts) → RoomyAt heads images logs t dh dl script scripts
  roomy_at heads images logs t dh dl script scripts r =
      let f = roomy_first (drop t heads) (drop t images) (drop t logs) script scripts r in
      let h = drop_head heads t f.head dh f.heads' f.heads_are in
      let i = drop_head images t f.image [] f.images' f.images_are in
      let l = drop_head logs t f.log dl f.logs' f.logs_are in
      let h1 = h.1 in
      let i1 = i.1 in
      let l1 = l.1 in
      let h2 = h.2 in
      let i2 = i.2 in
      let l2 = l.2 in
      let hf = f.heads_are in
      let im = f.images_are in
      let lf = f.logs_are in
      record {
        low_head = h.0;
        low_image = i.0;
        low_log = l.0;
        here = subst (λ (x : LogHead × List (List ℕ) × LogCounts). HasLogRoom x.0 x.1 x.2 script) (sym (λ j. (h1 j, i1 j, l1 j))) f.here;
        rest = subst (λ (x : List LogHead × List (List (List ℕ)) × List LogCounts). HaveLogRoom x.0 x.1 x.2 scripts) (sym (λ j. (h2 j, i2 j, l2 j))) f.rest;
        more = λ made made' w is made_is.
            let tail : ℕ → List (CoreThread State Op Query Reply) = (λ n. found_threads (drop n heads) (drop n images) (drop n logs) scripts) in
            ap (λ (ys : List (CoreThread State Op Query Reply)). ys ++ tail (t + 1)) made_is
            ∙ (append_assoc made (w ∷ []) (tail (t + 1))
            ∙ ((λ j. made ++ (is ∙ (λ k. found_thread (h1 k) (i1 k) (l1 k) script)) j ∷ found_threads (h2 j) (i2 j) (l2 j) scripts)
            ∙ sym (λ j. made ++ found_threads (hf j) (im j) (lf j) (script ∷ scripts))));
      }

-- an image of a list, as the code has it
pub image_at : {V : Type 0} (f : V → List (List ℕ)) (images : List V) (t : ℕ) (image : V) → t < length images → image ≡ get_or images t image → get_or (map f images) t [] ≡ f image
image_at f images t image low is = get_or-map f images t image [] low ∙ ap f (sym is)

-- no script, no thread
found_none : {State Op Query Reply : Type 0} (heads : List LogHead) (images : List (List (List ℕ))) (logs : List LogCounts) → found_threads {State = State} {Op = Op} {Query = Query} {Reply = Reply} heads images logs [] ≡ []
found_none [] is cs = refl
found_none (h ∷ hs) [] cs = refl
found_none (h ∷ hs) (i ∷ is) [] = refl
found_none (h ∷ hs) (i ∷ is) (c ∷ cs) = refl

pub all_found : {State Op Query Reply S : Type 0} (f : S → List (Call State Op Query Reply)) (heads : List LogHead) (images : List (List (List ℕ))) (logs : List LogCounts) (left : List S) (made all : List (CoreThread State Op Query Reply))
    → made ++ found_threads heads images logs (map f left) ≡ all → length left ≡ 0 → made ≡ all
all_found f heads images logs [] made all e none = sym (append-nil made) ∙ (ap (λ l. made ++ l) (sym (found_none heads images logs)) ∙ e)
all_found f heads images logs (s ∷ ss) made all e none = absurd (omega arith)
