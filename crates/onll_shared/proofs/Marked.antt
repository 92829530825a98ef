use Rattle.std.proofs.Common.{◌≡◌, ℕ, zero, suc, ◌+◌, ◌-◌, ◌<◌, ◌≤◌, ◌==◌, Bool, List, [], ◌∷◌, ◌++◌, length, map, drop, Some, refl, sym, ap, ◌∙◌, subst, arith, append_assoc, append-nil, eq-eqb, ne_eqb}
use Rattle.std.specs.Prelude.{if◌then◌else◌, Ok}
use Rattle.std.specs.List.{AllByRecursion, slice_get, slice_index_or}
use Rattle.std.specs.Option.{option_map_or}
use Rattle.std.proofs.lemmas.List.{length-map}
use Rattle.onll_model.specs.declared.node.Node.{Node}
use Rattle.onll_model.specs.declared.mark.Mark.{Mark}
use Rattle.onll_model.specs.Segment.{Segment, Agrees}
use Rattle.onll_model.specs.Frames.{resumed_frame}
use Rattle.onll_model.specs.FrameLaws.{SoundOver, IsResumable}
use Rattle.onll_model.specs.Limits.{most_threads}
use Rattle.onll_model.specs.Events.{window}
use Rattle.onll_model.specs.Marks.{marked_of, marked_from, marked}
use Rattle.onll_model.proofs.FirstFrames.{resumed_sound}
use Rattle.onll_model.proofs.Lists.{all_append}
use Rattle.onll_log.specs.Encoding.{FitsEntry, FitEntries}
use Rattle.onll_log.specs.declared.cursor.EntryView.{EntryView}
use Rattle.onll_log.specs.Cursor.{CursorState, entries_left, first_view, lines_passed, one_further}
use Rattle.onll_log.specs.Grammar.{Content, content_of}
use Rattle.onll_log.specs.Log.{LogState}
use Rattle.onll_log.proofs.Cursors.{gone_on, viewed}
use Rattle.onll_merge.specs.Merge.{merge}
use Rattle.onll_merge.specs.Laws.{EachSegment}
use Rattle.onll_merge.proofs.Backs.{merge-back}
use Rattle.onll_merge.proofs.Resumed.{can_go_on}
use Rattle.onll_shared.specs.Starts.{AreLogs, entries_of}
use Rattle.onll_shared.specs.Found.{HoldBase, content_held, head_held, image_entries, marks_of, marks_from}

-- The marks of logs name what they hold.

module _ (base : List Node) where
  -- the segments that one mark names of a thread
  abbrev named : Bool → Mark → List Segment
  named q m = if q then window base (m.place - m.count) m.place ∷ [] else []

  marked_more : (t : ℕ) (xs ys : List Mark) → marked_of t base (xs ++ ys) ≡ marked_of t base xs ++ marked_of t base ys
  marked_more t [] ys = refl
  marked_more t (m ∷ ms) ys =
      ap (λ (l : List Segment). named (m.thread == t) m ++ l) (marked_more t ms ys)
      ∙ sym (append_assoc (named (m.thread == t) m) (marked_of t base ms) (marked_of t base ys))

  marked_none : (t : ℕ) (ms : List Mark) → AllByRecursion (λ (m : Mark). m.thread ≡ t → ⊥) ms → marked_of t base ms ≡ []
  marked_none t [] none = refl
  marked_none t (m ∷ ms) none =
      ap (λ (q : Bool). named q m ++ marked_of t base ms) (ne_eqb m.thread t none.0) ∙ marked_none t ms none.1

  marked_own : (t : ℕ) (ss : List Segment) → AllByRecursion (Agrees base) ss → marked_of t base (marks_of t ss) ≡ ss
  marked_own t [] agree = refl
  marked_own t (s ∷ ss) agree =
      ap (λ (q : Bool). named q (record { thread = t; place = s.place; count = length s.nodes }) ++ marked_of t base (marks_of t ss)) (eq-eqb t t refl)
      ∙ (λ k. record { place = s.place; nodes = sym agree.0.nodes k } ∷ marked_own t ss agree.1 k)

  -- marks of other threads
  none_below : (t : ℕ) (ms : List Mark) → AllByRecursion (λ (m : Mark). m.thread < t) ms → AllByRecursion (λ (m : Mark). m.thread ≡ t → ⊥) ms
  none_below t [] low = tt
  none_below t (m ∷ ms) low = ((λ e. let l = low.0 in omega arith), none_below t ms low.1)

  none_above : (t : ℕ) (ms : List Mark) → AllByRecursion (λ (m : Mark). t < m.thread) ms → AllByRecursion (λ (m : Mark). m.thread ≡ t → ⊥) ms
  none_above t [] high = tt
  none_above t (m ∷ ms) high = ((λ e. let l = high.0 in omega arith), none_above t ms high.1)

  of_thread : (Q : ℕ → Type 0) (t : ℕ) (ss : List Segment) → Q t → AllByRecursion (λ (m : Mark). Q m.thread) (marks_of t ss)
  of_thread Q t [] q = tt
  of_thread Q t (s ∷ ss) q = (q, of_thread Q t ss q)

  of_threads : (Q : ℕ → Type 0) (t : ℕ) (logs : List (List Segment)) → ((u : ℕ) → t ≤ u → u < t + length logs → Q u) → AllByRecursion (λ (m : Mark). Q m.thread) (marks_from t logs)
  of_threads Q t [] q = tt
  of_threads Q t (ss ∷ rest) q = all_append (λ (m : Mark). Q m.thread) (marks_of t ss) (marks_from (suc t) rest)
      (of_thread Q t ss (q t (omega arith) (omega arith)))
      (of_threads Q (suc t) rest (λ u low high. q u (omega arith) (omega arith)))

  raised : (t : ℕ) (ms : List Mark) → AllByRecursion (λ (m : Mark). m.thread < t) ms → AllByRecursion (λ (m : Mark). m.thread < suc t) ms
  raised t [] low = tt
  raised t (m ∷ ms) low = ((let l = low.0 in omega arith), raised t ms low.1)

  -- behind marks of lower threads, the marks of logs name the segments of these
  marked_all : (t : ℕ) (before : List Mark) (logs : List (List Segment)) → AllByRecursion (λ (m : Mark). m.thread < t) before → AllByRecursion (AllByRecursion (Agrees base)) logs
      → marked_from t (length logs) base (before ++ marks_from t logs) ≡ logs
  marked_all t before [] low agree = refl
  marked_all t before (ss ∷ rest) low agree = λ k. here k
      ∷ there (marked_all (suc t) (before ++ marks_of t ss) rest
      (all_append (λ (m : Mark). m.thread < suc t) before (marks_of t ss) (raised t before low) (of_thread (λ u. u < suc t) t ss (omega arith))) agree.1) k
    where
      none_later : marked_of t base (marks_from (suc t) rest) ≡ []
      none_later = marked_none t (marks_from (suc t) rest) (none_above t (marks_from (suc t) rest) (of_threads (λ u. t < u) (suc t) rest (λ u low high. omega arith)))

      mine : marked_of t base (marks_of t ss ++ marks_from (suc t) rest) ≡ ss
      mine = marked_more t (marks_of t ss) (marks_from (suc t) rest)
          ∙ ((λ k. marked_own t ss agree.0 k ++ none_later k) ∙ append-nil ss)

      here : marked_of t base (before ++ (marks_of t ss ++ marks_from (suc t) rest)) ≡ ss
      here = marked_more t before (marks_of t ss ++ marks_from (suc t) rest)
          ∙ (λ k. marked_none t before (none_below t before low) k ++ mine k)

      there : marked_from (suc t) (length rest) base ((before ++ marks_of t ss) ++ marks_from (suc t) rest) ≡ rest
          → marked_from (suc t) (length rest) base (before ++ (marks_of t ss ++ marks_from (suc t) rest)) ≡ rest
      there others = ap (marked_from (suc t) (length rest) base) (sym (append_assoc before (marks_of t ss) (marks_from (suc t) rest))) ∙ others

-- ---- marking one entry after the other, and one log after the other
pub marks_more : (t : ℕ) (c next : CursorState) (e : EntryView) (ms new whole : List Mark) → Some e ≡ first_view (lines_passed c) (entries_left c)
    → ms ++ marks_of t (entries_left c) ≡ whole → new ≡ ms ++ record { thread = t; place = e.place; count = e.count } ∷ [] → next ≡ one_further c
    → new ++ marks_of t (entries_left next) ≡ whole
marks_more t c next e ms new whole shown held new_is next_is =
    let v = viewed (lines_passed c) (entries_left c) e shown in
    let left : entries_left next ≡ v.more = ap entries_left next_is ∙ (gone_on c.content.entries c.passed v.s v.more v.split).left in
    let mark : Mark = record { thread = t; place = e.place; count = e.count } in
    (λ k. new_is k ++ marks_of t (left k))
    ∙ (append_assoc ms (mark ∷ []) (marks_of t v.more)
    ∙ ((λ k. ms ++ record { thread = t; place = v.place k; count = v.count k } ∷ marks_of t v.more)
    ∙ (ap (λ (ss : List Segment). ms ++ marks_of t ss) (sym v.split) ∙ held)))

entries_at : (images : List (List (List ℕ))) (t : ℕ) (x : List (List ℕ)) → t < length images → x ≡ slice_index_or images t x
    → drop t (map image_entries images) ≡ image_entries x ∷ drop (suc t) (map image_entries images)
entries_at [] t x low is = absurd (omega arith)
entries_at (image ∷ images) zero x low is = ap (λ (i : List (List ℕ)). image_entries i ∷ map image_entries images) (sym is)
entries_at (image ∷ images) (suc t) x low is = entries_at images t x (omega arith) is

pub marks_next : (images : List (List (List ℕ))) (t : ℕ) (x : List (List ℕ)) (ms new whole : List Mark) → t < length images → x ≡ slice_index_or images t x
    → ms ++ marks_from t (drop t (map image_entries images)) ≡ whole → new ≡ ms ++ marks_of t (image_entries x)
    → new ++ marks_from (t + 1) (drop (t + 1) (map image_entries images)) ≡ whole
marks_next images t x ms new whole low is held new_is =
    let next : t + 1 ≡ suc t = omega arith in
    (λ k. new_is k ++ marks_from (next k) (drop (next k) (map image_entries images)))
    ∙ (append_assoc ms (marks_of t (image_entries x)) (marks_from (suc t) (drop (suc t) (map image_entries images)))
    ∙ (ap (λ (es : List (List Segment)). ms ++ marks_from t es) (sym (entries_at images t x low is)) ∙ held))

-- ---- the logs of all threads
module _ {Device : Type 0} where
  contents_long : (logs : List (LogState Device)) → length (map content_held logs) ≡ length logs
  contents_long [] = refl
  contents_long (log ∷ logs) = ap suc (contents_long logs)

  entries_same : (logs : List (LogState Device)) → map (λ (c : Content). c.entries) (map content_held logs) ≡ map entries_of logs
  entries_same [] = refl
  entries_same (log ∷ logs) = ap (λ (l : List (List Segment)). log.entries ∷ l) (entries_same logs)

  -- images that hold the logs have their entries
  pub images_have : (images : List (List (List ℕ))) (logs : List (LogState Device)) → map content_of images ≡ map Some (map content_held logs)
      → map image_entries images ≡ map entries_of logs
  images_have [] [] e = refl
  images_have [] (log ∷ logs) e = absurd (cc)
  images_have (image ∷ images) [] e = absurd (cc)
  images_have (image ∷ images) (log ∷ logs) e =
      let first : content_of image ≡ Some (content_held log) = (cc) in
      let rest : map content_of images ≡ map Some (map content_held logs) = (cc) in
      λ k. option_map_or (λ (c : Content). c.entries) (first k) [] ∷ images_have images logs rest k

  -- the entries of a log of this many threads
  fit_all : (count : ℕ) (logs : List (LogState Device)) → AllByRecursion (λ (log : LogState Device). log.head.threads ≡ count) logs
      → AllByRecursion (λ (log : LogState Device). FitEntries log.head.threads log.entries) logs → EachSegment (FitsEntry count) (map content_held logs)
  fit_all count [] threads fit = tt
  fit_all count (log ∷ logs) threads fit = (subst (λ n. FitEntries n log.entries) threads.0 fit.0, fit_all count logs threads.1 fit.1)

  threads_all : (count : ℕ) (logs : List (LogState Device)) → ((u : ℕ) (log : LogState Device) → slice_get logs u ≡ Some log → log.head.threads ≡ count)
      → AllByRecursion (λ (log : LogState Device). log.head.threads ≡ count) logs
  threads_all count [] are = tt
  threads_all count (log ∷ logs) are = (are 0 log refl, threads_all count logs (λ u x e. are (suc u) x e))

  agree_all : (count : ℕ) (base : List Node) (logs : List (LogState Device)) → EachSegment (λ s. 1 ≤ length s.nodes → Agrees base s) (map content_held logs)
      → EachSegment (FitsEntry count) (map content_held logs) → AllByRecursion (AllByRecursion (Agrees base)) (map entries_of logs)
  agree_all count base [] agree fit = tt
  agree_all count base (log ∷ logs) agree fit = (own log.entries agree.0 fit.0, agree_all count base logs agree.1 fit.1)
    where
      own : (ss : List Segment) → AllByRecursion (λ (s : Segment). 1 ≤ length s.nodes → Agrees base s) ss → AllByRecursion (FitsEntry count) ss → AllByRecursion (Agrees base) ss
      own [] a f = tt
      own (s ∷ ss) a f = (a.0 f.0.some_nodes, own ss a.1 f.1)

  pub holds_base : (logs : List (LogState Device)) (base : List Node) (marks : List Mark) → (1 ≤ length logs) × (length logs ≤ most_threads) → AreLogs logs
      → AllByRecursion (λ (log : LogState Device). FitEntries log.head.threads log.entries) logs
      → merge (map head_held logs) (map content_held logs) ≡ Ok base → marks ≡ marks_from 0 (map entries_of logs)
      → HoldBase logs base marks
  holds_base logs base marks many are fit merged marks_is = record {
    merged = merged;
    entries = entries;
    resumable = λ rooms long room. record {
      threads = ((let l = many.0 in omega arith), (let l = many.1 in omega arith));
      marks = subst (λ (ms : List Mark). AllByRecursion (λ (m : Mark). m.thread < length rooms) ms) (sym marks_is)
          (of_threads base (λ u. u < length rooms) 0 (map entries_of logs) (λ u low high. let l = length-map logs entries_of in omega arith));
      sound = subst (λ (ss : List (List Segment)). SoundOver (length rooms) (length base) (resumed_frame base ss)) (entries ∙ ap (λ (n : ℕ). marked n base marks) (sym long))
          (subst (λ (n : ℕ). SoundOver n (length base) (resumed_frame base (map entries_of logs))) (sym long) sound);
      rooms = room;
    };
  }
    where
      fits : EachSegment (FitsEntry (length logs)) (map content_held logs)
      fits = fit_all (length logs) logs (threads_all (length logs) logs (λ u x e. (are u x e).threads)) fit

      agree : AllByRecursion (AllByRecursion (Agrees base)) (map entries_of logs)
      agree = agree_all (length logs) base logs (merge-back base (map head_held logs) (map content_held logs) merged).agree fits

      entries : map entries_of logs ≡ marked (length logs) base marks
      entries = sym (marked_all base 0 [] (map entries_of logs) tt agree)
          ∙ ((λ k. marked_from 0 (length-map logs entries_of k) base (marks_from 0 (map entries_of logs)))
          ∙ ap (marked (length logs) base) (sym marks_is))

      sound : SoundOver (length logs) (length base) (resumed_frame base (map entries_of logs))
      sound = resumed_sound (length logs) base (map entries_of logs)
          (subst (IsResumable (length logs) base) (entries_same logs)
          (can_go_on (length logs) base (map head_held logs) (map content_held logs) merged (contents_long logs) fits).resumable)
