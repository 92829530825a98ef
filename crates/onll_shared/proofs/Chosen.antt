use Rattle.std.proofs.Common.{◌≡◌, ℕ, zero, suc, ◌<◌, ◌≤◌, ◌⊎◌, inl, inr, ⊎_elim, List, [], ◌∷◌, ◌++◌, length, map, take, get_or, Option, Some, Ok, option_to_list, refl, sym, ap, ◌∙◌, subst, arith}
use Rattle.std.specs.Prelude.{IfSome}
use Rattle.std.specs.List.{AllByRecursion, Contains, slice_get}
use Rattle.onll_model.specs.Segment.{Segment, Agrees, LiesIn, Rises}
use Rattle.onll_model.specs.Frames.{Thread, Frame, Sound, IsAvailable, IsSoundSegment, segments_of, fenced_segments}
use Rattle.onll_model.proofs.Lists.{same_some, some_not_none, inside, present, all_left, all_right, all_map, take_before}
use Rattle.onll_model.proofs.Segments.{lies_left, lies_right, lies_in_thread}
use Rattle.onll_pmem.specs.Device.{zero_lines}
use Rattle.onll_pmem.proofs.Mixes.{FillsLines-then}
use Rattle.onll_log.specs.declared.head.LogHead.{LogHead}
use Rattle.onll_log.specs.Encoding.{FitsEntry, FitEntries, entry_lines, log_lines}
use Rattle.onll_log.specs.Grammar.{Content, content_of}
use Rattle.onll_log.specs.Torn.{Among, Holds}
use Rattle.onll_log.proofs.Torn.{Mixed-front, Among-mixed, Holds-among, Holds-log_image, log_image-more}
use Rattle.onll_merge.specs.Merge.{merge, top_of}
use Rattle.onll_merge.specs.Laws.{all_segments, EachSegment, HeadsFit, HoldOne}
use Rattle.onll_merge.proofs.Fronts.{merge-front, top_of-lies}
use Rattle.onll_merge.proofs.FrameLogs.{front_rises, HasBelow, covers_logs, within_logs}
use Rattle.onll_trace.specs.Spots.{SpotView, TraceView, IsLawful}
use Rattle.onll_trace.specs.Closing.{AreAll, IsIn}
use Rattle.onll_shared.specs.Passes.{PassView, spot_of}
use Rattle.onll_shared.specs.Crash.{IsLogOfPart, IsWhole, IsTorn, IsLeft, AreLeft, HasLog, IsMoment, IsKept, PassesRecover, head_of}
use Rattle.onll_shared.proofs.Parts.{take_take}

-- What is left of the logs of passes, and what it merges to.

-- ---- lists
pub get_map : {A B : Type 0} (f : A → B) (xs : List A) (i : ℕ) (x : A) → slice_get xs i ≡ Some x → slice_get (map f xs) i ≡ Some (f x)
get_map f [] i x e = some_not_none x (sym e)
get_map f (y ∷ xs) zero x e = ap (λ (z : _). Some (f z)) (same_some y x e)
get_map f (y ∷ xs) (suc i) x e = get_map f xs i x e

pub map_get : {A B : Type 0} (f : A → B) (xs : List A) (k : ℕ) (y : B) → slice_get (map f xs) k ≡ Some y → (x : A) × (slice_get xs k ≡ Some x) × (f x ≡ y)
map_get f [] k y e = some_not_none y (sym e)
map_get f (x ∷ xs) zero y e = (x, refl, same_some (f x) y e)
map_get f (x ∷ xs) (suc k) y e = map_get f xs k y e

pub index_of : {A : Type 0} (xs : List A) (i : ℕ) (x d : A) → slice_get xs i ≡ Some x → get_or xs i d ≡ x
index_of [] i x d e = some_not_none x (sym e)
index_of (y ∷ xs) zero x d e = same_some y x e
index_of (y ∷ xs) (suc i) x d e = index_of xs i x d e

pub contained : {A : Type 0} (ys : List A) (y : A) → Contains ys y → (k : ℕ) × (slice_get ys k ≡ Some y)
contained ys y c = let z = present ys c.0 c.1 in (c.0, z.1 ∙ ap Some (sym (index_of ys c.0 z.0 y z.1) ∙ c.2))

pub all_get : {A : Type 0} (P : A → Type 0) (xs : List A) → AllByRecursion P xs → (i : ℕ) (x : A) → slice_get xs i ≡ Some x → P x
all_get P [] a i x e = some_not_none x (sym e)
all_get P (y ∷ xs) a zero x e = subst P (same_some y x e) a.0
all_get P (y ∷ xs) a (suc i) x e = all_get P xs a.1 i x e

-- ---- the log of one pass
module _ (head : LogHead) (part : Thread) (l : IsLogOfPart head part) where
  fenced_fit : FitEntries head.threads part.fenced
  fenced_fit = all_left (FitsEntry head.threads) part.fenced (option_to_list part.pending) l.fit

  -- an image that is left holds the fenced segments, or these and the pending one
  pub held : (image : List (List ℕ)) → IsLeft head part image → (ss : List Segment) × Holds image head ss × ((ss ≡ part.fenced) ⊎ (ss ≡ segments_of part))
  held image left = ⊎_elim
      (λ (w : IsWhole head part image). (part.fenced, subst (λ (i : List (List ℕ)). Holds i head part.fenced) (sym w.image_is) (Holds-log_image head part.fenced w.zeros l.fits fenced_fit), inl refl))
      torn left
    where
      torn : IsTorn head part image → (ss : List Segment) × Holds image head ss × ((ss ≡ part.fenced) ⊎ (ss ≡ segments_of part))
      torn t =
          let s : Segment = t.segment in
          let whole : List (List ℕ) = entry_lines head (length part.fenced) s ++ zero_lines t.after in
          let more : FitEntries head.threads (part.fenced ++ s ∷ []) = subst (λ (o : Option Segment). FitEntries head.threads (part.fenced ++ option_to_list o)) t.pending l.fit in
          let fits : FitsEntry head.threads s = (all_right (FitsEntry head.threads) part.fenced (s ∷ []) more).0 in
          let front = Mixed-front (log_lines head part.fenced) (zero_lines t.before) t.written image t.mixed in
          let partial : Among whole front.0 = FillsLines-then front.0 t.written whole (Among-mixed t.before t.written front.0 front.2) t.among in
          ⊎_elim
          (λ (h : Holds (log_lines head part.fenced ++ front.0) head part.fenced). (part.fenced, subst (λ (i : List (List ℕ)). Holds i head part.fenced) (sym front.1) h, inl refl))
          (λ (e : front.0 ≡ whole). (
            part.fenced ++ s ∷ [],
            subst (λ (i : List (List ℕ)). Holds i head (part.fenced ++ s ∷ []))
                (log_image-more head part.fenced s t.after ∙ (ap (λ (w : List (List ℕ)). log_lines head part.fenced ++ w) (sym e) ∙ sym front.1))
                (Holds-log_image head (part.fenced ++ s ∷ []) t.after l.fits more),
            inr (ap (λ (o : Option Segment). part.fenced ++ option_to_list o) (sym t.pending)),
          ))
          (Holds-among head part.fenced s t.after front.0 l.fits l.format fenced_fit fits partial)

-- ---- a log for each pass, with its head, and its fenced segments or these and the pending one
module _ {State Device : Type 0} where
  abbrev pub IsChosen : PassView State Device → Content → Type 0
  IsChosen p c = (c.head ≡ Some p.log.head) × ((c.entries ≡ p.spot.me.part.fenced) ⊎ (c.entries ≡ segments_of p.spot.me.part))

  abbrev pub AreChosen : List (PassView State Device) → List Content → Type 0
  AreChosen [] [] = Unit {0}
  AreChosen [] (c ∷ cs) = ⊥
  AreChosen (p ∷ ps) [] = ⊥
  AreChosen (p ∷ ps) (c ∷ cs) = IsChosen p c × AreChosen ps cs

  pub chosen : (passes : List (PassView State Device)) (images : List (List (List ℕ))) → AllByRecursion HasLog passes → AreLeft passes images → (logs : List Content) × (map content_of images ≡ map Some logs) × AreChosen passes logs
  chosen [] [] a l = ([], refl, tt)
  chosen [] (i ∷ is) a l = absurd l
  chosen (p ∷ ps) [] a l = absurd l
  chosen (p ∷ ps) (i ∷ is) a l =
      let h = held p.log.head p.spot.me.part a.0 i l.0 in
      let r = chosen ps is a.1 l.1 in
      (record { head = Some p.log.head; entries = h.0 } ∷ r.0, (λ j. h.1 j ∷ r.1 j), ((refl, h.2), r.2))

  heads_fit : (passes : List (PassView State Device)) (logs : List Content) → AreChosen passes logs → HeadsFit logs (map head_of passes)
  heads_fit [] [] a = tt
  heads_fit [] (c ∷ cs) a = absurd a
  heads_fit (p ∷ ps) [] a = absurd a
  heads_fit (p ∷ ps) (c ∷ cs) a = (subst (λ (o : Option LogHead). IfSome o (λ head. head ≡ p.log.head)) (sym a.0.0) refl, heads_fit ps cs a.1)

  -- what is fenced is in the log
  lies_chosen : (passes : List (PassView State Device)) (logs : List Content) → AreChosen passes logs → (i : ℕ) (p : PassView State Device) → slice_get passes i ≡ Some p → (q : ℕ) → LiesIn q p.spot.me.part.fenced → LiesIn q (all_segments logs)
  lies_chosen [] [] a i p e q l = some_not_none p (sym e)
  lies_chosen [] (c ∷ cs) a i p e q l = absurd a
  lies_chosen (x ∷ ps) [] a i p e q l = absurd a
  lies_chosen (x ∷ ps) (c ∷ cs) a zero p e q l = let here = subst (λ (v : PassView State Device). LiesIn q v.spot.me.part.fenced) (sym (same_some x p e)) l in
      lies_left q c.entries (all_segments cs) (⊎_elim
      (λ (f : c.entries ≡ x.spot.me.part.fenced). subst (LiesIn q) (sym f) here)
      (λ (f : c.entries ≡ segments_of x.spot.me.part). subst (LiesIn q) (sym f) (lies_left q x.spot.me.part.fenced (option_to_list x.spot.me.part.pending) here)) a.0.1)
  lies_chosen (x ∷ ps) (c ∷ cs) a (suc i) p e q l = lies_right q c.entries (all_segments cs) (lies_chosen ps cs a.1 i p e q l)

  module _ (f : Frame) where
    pub shown_at : (passes : List (PassView State Device)) → AllByRecursion (IsIn f) (map spot_of passes) → (i : ℕ) (p : PassView State Device) → slice_get passes i ≡ Some p → IsIn f p.spot
    shown_at passes a i p e = all_get (IsIn f) (map spot_of passes) a i p.spot (get_map spot_of passes i p e)

    -- a fact of each thread's segments that each front of them has, too
    each_chosen : (Q : List Segment → Type 0) → ((xs ys : List Segment) → Q (xs ++ ys) → Q xs) → (passes : List (PassView State Device)) (logs : List Content) → AreChosen passes logs → AllByRecursion (IsIn f) (map spot_of passes)
        → ((t : ℕ) (th : Thread) → slice_get f.threads t ≡ Some th → Q (segments_of th)) → AllByRecursion (λ (c : Content). Q c.entries) logs
    each_chosen Q front [] [] a s h = tt
    each_chosen Q front [] (c ∷ cs) a s h = absurd a
    each_chosen Q front (p ∷ ps) [] a s h = absurd a
    each_chosen Q front (p ∷ ps) (c ∷ cs) a s h = let all = h p.spot.me.thread p.spot.me.part s.0.part in (
      ⊎_elim (λ (e : c.entries ≡ p.spot.me.part.fenced). subst Q (sym e) (front p.spot.me.part.fenced (option_to_list p.spot.me.part.pending) all))
          (λ (e : c.entries ≡ segments_of p.spot.me.part). subst Q (sym e) all) a.0.1,
      each_chosen Q front ps cs a.1 s.1 h,
    )

    module _ (b : TraceView) (passes : List (PassView State Device)) (sound : Sound b.plan.threads f) (all : AreAll b (map spot_of passes)) (shown : AllByRecursion (IsIn f) (map spot_of passes)) where
      -- the pass of a thread
      pub pass_of : (t : ℕ) → t < b.plan.threads → (i : ℕ) × (p : PassView State Device) × (slice_get passes i ≡ Some p) × (p.spot.me.thread ≡ t)
      pass_of t l =
          let k = contained (map (λ (s : SpotView). s.me.thread) (map spot_of passes)) t (all.each t l) in
          let s = map_get (λ (s : SpotView). s.me.thread) (map spot_of passes) k.0 t k.1 in
          let p = map_get spot_of passes k.0 s.0 s.1 in
          (k.0, p.0, p.1, ap (λ (v : SpotView). v.me.thread) p.2 ∙ s.2)

      module _ (logs : List Content) (a : AreChosen passes logs) where
        pub fenced_left : (q : ℕ) → LiesIn q (fenced_segments f.threads) → LiesIn q (all_segments logs)
        fenced_left q h =
            let r = lies_in_thread q f.threads h in
            let p = pass_of r.0 (let n = inside f.threads r.0 r.1 r.2 in let m = sound.threads in omega arith) in
            let here = shown_at passes shown p.0 p.1 p.2 in
            let same : p.1.spot.me.part ≡ r.1 = same_some p.1.spot.me.part r.1 (sym here.part ∙ (ap (slice_get f.threads) p.3 ∙ r.2)) in
            lies_chosen passes logs a p.0 p.1 p.2 q (subst (λ (th : Thread). LiesIn q th.fenced) (sym same) r.3)

        sound_segments : EachSegment (IsSoundSegment b.plan.threads f.trace (fenced_segments f.threads)) logs
        sound_segments = let P : Segment → Type 0 = IsSoundSegment b.plan.threads f.trace (fenced_segments f.threads) in each_chosen (AllByRecursion P) (λ xs ys h. all_left P xs ys h) passes logs a shown sound.segments

        each_segment : (P : Segment → Type 0) → ((g : Segment) → IsSoundSegment b.plan.threads f.trace (fenced_segments f.threads) g → P g) → EachSegment P logs
        each_segment P h = all_map (λ (c : Content). AllByRecursion (IsSoundSegment b.plan.threads f.trace (fenced_segments f.threads)) c.entries) (λ (c : Content). AllByRecursion P c.entries) logs
            (λ c s. all_map (IsSoundSegment b.plan.threads f.trace (fenced_segments f.threads)) P c.entries h s) sound_segments

        pub hold_one : HoldOne f.trace (map head_of passes) logs
        hold_one = record {
          heads_fit = heads_fit passes logs a;
          agree = each_segment (Agrees f.trace) (λ g h. h.agrees);
          rise = each_chosen (Rises 0) (λ xs ys r. front_rises 0 xs ys r) passes logs a shown sound.rising;
          cover = covers_logs (all_segments logs) logs (λ q l. l) (each_segment (HasBelow (all_segments logs)) (λ g h q low high. fenced_left q (h.below q low high)));
          numbered = sound.numbered;
        }

        pub merged_front : merge (map head_of passes) logs ≡ Ok (take (top_of logs) f.trace)
        merged_front = merge-front f.trace (map head_of passes) logs hold_one

        pub within_trace : top_of logs ≤ length f.trace
        within_trace = within_logs f.trace logs hold_one.agree

        pub available_held : (p : ℕ) → IsAvailable f p → p ≤ top_of logs
        available_held zero v = omega arith
        available_held (suc p) v = top_of-lies logs (suc p) (fenced_left (suc p) (sound.covered (suc p) v (suc p) (omega arith) (omega arith)))

        all_kept : (ps : List (PassView State Device)) → AllByRecursion (IsIn f) (map spot_of ps) → AllByRecursion IsLawful (map spot_of ps) → AllByRecursion (IsKept f (top_of logs)) ps
        all_kept [] s k = tt
        all_kept (p ∷ ps) s k =
            let n : ℕ = p.spot.me.part.seen in
            let low = available_held n (sound.seen p.spot.me.thread p.spot.me.part s.0.part) in
            let known = s.0.known in (
              record { within = low; same = take_take n (top_of logs) f.trace low ∙ (ap (take n) (sym known.1) ∙ take_before p.spot.known known.0 n (k.0.told.part.seen.1)) },
              all_kept ps s.1 k.1,
            )

        pub kept : AllByRecursion IsLawful (map spot_of passes) → AllByRecursion (IsKept f (top_of logs)) passes
        kept k = all_kept passes shown k

-- Whatever is left at a moment recovers.
pub crash_recovers : {State Device : Type 0} (b : TraceView) (f : Frame) (passes : List (PassView State Device)) (images : List (List (List ℕ))) → IsMoment b f passes → AreLeft passes images → PassesRecover f passes images
crash_recovers b f passes images m l =
    let c = chosen passes images m.logs l in
    record {
      logs = c.0;
      contents = c.1;
      merged = merged_front f b passes m.sound.sound m.all m.shown c.0 c.2;
      within = within_trace f b passes m.sound.sound m.all m.shown c.0 c.2;
      available = available_held f b passes m.sound.sound m.all m.shown c.0 c.2;
      seen = kept f b passes m.sound.sound m.all m.shown c.0 c.2 m.lawful;
    }
