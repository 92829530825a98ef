use Rattle.std.proofs.Common.{ℕ, zero, suc, ◌≡◌, ◌+◌, ◌*◌, ◌<◌, ◌≤◌, Bool, List, [], ◌∷◌, ◌++◌, length, map, take, drop, Option, Some, None, sym, refl, ap, ◌∙◌, subst, arith, count_by}
use Rattle.std.specs.Prelude.{max, if◌then◌else◌, IfSome}
use Rattle.std.specs.List.{AllByRecursion, slice_get}
use Rattle.std.proofs.lemmas.Bool.{ne_eqb}
use Rattle.onll_model.specs.declared.node.Node.{Node}
use Rattle.onll_model.specs.declared.call.Call.{Call}
use Rattle.onll_model.specs.Trace.{is_of_thread}
use Rattle.onll_model.specs.Segment.{Segment}
use Rattle.onll_model.specs.Calls.{updates_in}
use Rattle.onll_model.proofs.Lists.{same_some, some_not_none}
use Rattle.onll_pmem.specs.Device.{zero_lines, fenced_device}
use Rattle.onll_log.specs.declared.head.LogHead.{LogHead}
use Rattle.onll_log.specs.Head.{head_line}
use Rattle.onll_log.specs.Encoding.{log_lines, FitEntries, FitsEntry}
use Rattle.onll_log.specs.Grammar.{Content, content_of, lines_in, used_with, used_by}
use Rattle.onll_log.specs.Torn.{AreLines}
use Rattle.onll_log.proofs.Encoded.{length-log_lines}
use Rattle.onll_log.proofs.Written.{IsWritten-Holds, IsEmptyLog-no_head, take-used}
use Rattle.onll_merge.specs.declared.counts.LogCounts.{LogCounts}
use Rattle.onll_merge.specs.Recovered.{log_counts}
use Rattle.onll_merge.specs.Laws.{EachSegment, HeadsFit}
use Rattle.onll_merge.specs.Resumed.{entries_of}
use Rattle.onll_start.specs.declared.fault.ResumeFault.TheVariants.{TooMany}
use Rattle.onll_start.specs.Start.{most_lines, is_too_many, too_many}
use Rattle.onll_start.proofs.Contents.{unless_some, has_room}
use Rattle.onll_core.specs.declared.phase.Phase.TheVariants as phases
use Rattle.onll_core.specs.Resumed.{resumed_core_thread, resumed_core_threads}
use Rattle.onll_core.specs.Found.{front_lines, found_thread, found_threads, HaveLogRoom}

-- What the logs of images are, and the threads that go on in them.

-- ---- a log
-- an image of a log that this head fits: its used lines are those of a log of this head
pub record LogFits (head : LogHead) (image : List (List ℕ)) (c : Content) : Type 0 where
  pub fits : FitEntries head.threads c.entries
  pub front : front_lines head (used_by c) image ≡ log_lines head c.entries
  pub within : used_by c ≤ length image
  pub used : max 1 (used_by c) ≡ suc (lines_in c.entries)
  pub entries : length c.entries < max 1 (used_by c)

few_entries : (ss : List Segment) → length ss ≤ lines_in ss
few_entries [] = omega arith
few_entries (s ∷ ss) = let h = few_entries ss in omega arith

length_appended : {A : Type 0} (xs ys : List A) → length xs ≤ length (xs ++ ys)
length_appended [] ys = omega arith
length_appended (x ∷ xs) ys = let h = length_appended xs ys in omega arith

log_fits_of : (head : LogHead) (image : List (List ℕ)) (o : Option LogHead) (ss : List Segment) → AreLines image → content_of image ≡ Some (record { head = o; entries = ss }) → IfSome o (λ h. h ≡ head)
    → LogFits head image (record { head = o; entries = ss })
log_fits_of head image None ss eight e h =
    let empty = IsEmptyLog-no_head image ss eight e in
    subst (λ (z : List Segment). LogFits head image (record { head = None; entries = z })) (sym empty.no_entries) (record {
      fits = tt;
      front = refl;
      within = omega arith;
      used = refl;
      entries = omega arith;
    })
log_fits_of head image (Some h) ss eight e is =
    let written = IsWritten-Holds image h ss eight e in
    let n : ℕ = used_with (Some h) ss in
    let taken : take n image ≡ log_lines h ss = take-used image h ss eight e in
    let some : (n ≡ 0) → ⊥ = λ z. omega arith in
    let front : front_lines h n image ≡ log_lines h ss = ap (λ (q : Bool). if q then head_line h ∷ [] else take n image) (ne_eqb n 0 some) ∙ taken in
    let few = few_entries ss in
    let long = length_appended (log_lines h ss) (drop n image) in
    let all : length image ≡ length (log_lines h ss ++ drop n image) = ap length written.lines in
    let count = length-log_lines h ss in
    subst (λ (z : LogHead). LogFits z image (record { head = Some h; entries = ss })) is (record {
      fits = written.fit_entries;
      front = front;
      within = omega arith;
      used = omega arith;
      entries = omega arith;
    })

abbrev pub LogsFit : List LogHead → List (List (List ℕ)) → List Content → Type 0
LogsFit [] [] [] = Unit {0}
LogsFit (head ∷ heads) (image ∷ images) (c ∷ cs) = LogFits head image c × LogsFit heads images cs
LogsFit heads images cs = ⊥

pub logs_fit : (heads : List LogHead) (images : List (List (List ℕ))) (logs : List Content) → length heads ≡ length images → AllByRecursion AreLines images → map content_of images ≡ map Some logs → HeadsFit logs heads
    → LogsFit heads images logs
logs_fit [] [] [] n eight e h = tt
logs_fit [] [] (c ∷ cs) n eight e h = absurd (cc)
logs_fit [] (image ∷ images) cs n eight e h = absurd (omega arith)
logs_fit (head ∷ heads) [] cs n eight e h = absurd (omega arith)
logs_fit (head ∷ heads) (image ∷ images) [] n eight e h = absurd (cc)
logs_fit (head ∷ heads) (image ∷ images) (c ∷ cs) n eight e h =
    let a : content_of image ≡ Some c = (cc) in
    let b : map content_of images ≡ map Some cs = (cc) in
    (log_fits_of head image c.head c.entries eight.0 a h.0, logs_fit heads images cs (omega arith) eight.1 b h.1)

pub length_fit : (heads : List LogHead) (images : List (List (List ℕ))) (logs : List Content) → LogsFit heads images logs → length logs ≡ length heads
length_fit [] [] [] f = refl
length_fit [] [] (c ∷ cs) f = absurd f
length_fit [] (image ∷ images) cs f = absurd f
length_fit (head ∷ heads) [] cs f = absurd f
length_fit (head ∷ heads) (image ∷ images) [] f = absurd f
length_fit (head ∷ heads) (image ∷ images) (c ∷ cs) f = ap suc (length_fit heads images cs f.1)

-- each segment of each log can be held by an entry
pub segments_fit : (count : ℕ) (heads : List LogHead) (images : List (List (List ℕ))) (logs : List Content) → AllByRecursion (λ (h : LogHead). h.threads ≡ count) heads → LogsFit heads images logs → EachSegment (FitsEntry count) logs
segments_fit count [] [] [] t f = tt
segments_fit count [] [] (c ∷ cs) t f = absurd f
segments_fit count [] (image ∷ images) cs t f = absurd f
segments_fit count (head ∷ heads) [] cs t f = absurd f
segments_fit count (head ∷ heads) (image ∷ images) [] t f = absurd f
segments_fit count (head ∷ heads) (image ∷ images) (c ∷ cs) t f = (subst (λ (n : ℕ). FitEntries n c.entries) t.0 f.0.fits, segments_fit count heads images cs t.1 f.1)

-- ---- threads
module _ {State Op Query Reply : Type 0} where
  same_thread : (head : LogHead) (image : List (List ℕ)) (c : Content) (script : List (Call State Op Query Reply)) → LogFits head image c → found_thread head image (log_counts c) script ≡ resumed_core_thread head c.entries script
  same_thread head image c script f =
      let used = f.used in
      let front = f.front in
      λ i. record {
        head = head;
        script = script;
        returned = [];
        phase = phases.Idle;
        began = 0;
        used = used i;
        logged = length c.entries;
        before = 0;
        device = fenced_device (front i ++ zero_lines (updates_in script * (head.threads + 1)));
      }

  -- the threads that the code makes are those that go on in the logs
  pub same_threads : (heads : List LogHead) (images : List (List (List ℕ))) (logs : List Content) (scripts : List (List (Call State Op Query Reply))) → LogsFit heads images logs
      → found_threads heads images (map log_counts logs) scripts ≡ resumed_core_threads heads (entries_of logs) scripts
  same_threads [] [] [] scripts f = refl
  same_threads [] [] (c ∷ cs) scripts f = absurd f
  same_threads [] (image ∷ images) cs scripts f = absurd f
  same_threads (head ∷ heads) [] cs scripts f = absurd f
  same_threads (head ∷ heads) (image ∷ images) [] scripts f = absurd f
  same_threads (head ∷ heads) (image ∷ images) (c ∷ cs) [] f = refl
  same_threads (head ∷ heads) (image ∷ images) (c ∷ cs) (script ∷ scripts) f =
      let here = same_thread head image c script f.0 in
      let rest = same_threads heads images cs scripts f.1 in
      λ i. here i ∷ rest i

  pub are_roomy : (threads : ℕ) (nodes : List Node) (t : ℕ) (heads : List LogHead) (images : List (List (List ℕ))) (logs : List Content) (scripts : List (List (Call State Op Query Reply))) → LogsFit heads images logs → length scripts ≡ length heads
      → AllByRecursion (λ (h : LogHead). h.threads ≡ threads) heads → threads ≤ 16 → AllByRecursion (λ (s : List (Call State Op Query Reply)). updates_in s ≤ 4096) scripts
      → too_many threads nodes t (map log_counts logs) scripts ≡ None → HaveLogRoom heads images (map log_counts logs) scripts
  are_roomy threads nodes t [] [] [] [] f n h few u e = tt
  are_roomy threads nodes t [] [] [] (s ∷ ss) f n h few u e = absurd (omega arith)
  are_roomy threads nodes t [] [] (c ∷ cs) ss f n h few u e = absurd f
  are_roomy threads nodes t [] (image ∷ images) cs ss f n h few u e = absurd f
  are_roomy threads nodes t (head ∷ heads) [] cs ss f n h few u e = absurd f
  are_roomy threads nodes t (head ∷ heads) (image ∷ images) [] ss f n h few u e = absurd f
  are_roomy threads nodes t (head ∷ heads) (image ∷ images) (c ∷ cs) [] f n h few u e = absurd (omega arith)
  are_roomy threads nodes t (head ∷ heads) (image ∷ images) (c ∷ cs) (s ∷ ss) f n h few u e =
      let x = unless_some (is_too_many threads (count_by (is_of_thread t) nodes) (used_by c) (updates_in s)) (TooMany t) (too_many threads nodes (t + 1) (map log_counts cs) ss) e in
      let room = has_room threads (count_by (is_of_thread t) nodes) (used_by c) (updates_in s) x.0 in
      let same = h.0 in (
        record {
          threads = omega arith;
          updates = u.0;
          within = f.0.within;
          entries = f.0.entries;
          room = subst (λ (n : ℕ). max 1 (used_by c) + updates_in s * (n + 1) ≤ most_lines) (sym same) room.1;
        },
        are_roomy threads nodes (t + 1) heads images cs ss f.1 (omega arith) h.1 few u.1 x.1,
      )

  pub each_has_names : (threads : ℕ) (nodes : List Node) (t : ℕ) (logs : List LogCounts) (scripts : List (List (Call State Op Query Reply))) → length logs ≡ length scripts → too_many threads nodes t logs scripts ≡ None
      → (i : ℕ) (script : List (Call State Op Query Reply)) → slice_get scripts i ≡ Some script → count_by (is_of_thread (t + i)) nodes + updates_in script ≤ 4096
  each_has_names threads nodes t logs [] n e i script at = some_not_none script (sym at)
  each_has_names threads nodes t [] (s ∷ ss) n e i script at = absurd (omega arith)
  each_has_names threads nodes t (c ∷ cs) (s ∷ ss) n e zero script at =
      let x = unless_some (is_too_many threads (count_by (is_of_thread t) nodes) c.lines (updates_in s)) (TooMany t) (too_many threads nodes (t + 1) cs ss) e in
      let z : t ≡ t + 0 = omega arith in
      subst (λ (m : ℕ). count_by (is_of_thread m) nodes + updates_in script ≤ 4096) z
      (subst (λ (w : List (Call State Op Query Reply)). count_by (is_of_thread t) nodes + updates_in w ≤ 4096) (same_some s script at) (has_room threads (count_by (is_of_thread t) nodes) c.lines (updates_in s) x.0).0)
  each_has_names threads nodes t (c ∷ cs) (s ∷ ss) n e (suc i) script at =
      let x = unless_some (is_too_many threads (count_by (is_of_thread t) nodes) c.lines (updates_in s)) (TooMany t) (too_many threads nodes (t + 1) cs ss) e in
      let z : t + 1 + i ≡ t + suc i = omega arith in
      subst (λ (m : ℕ). count_by (is_of_thread m) nodes + updates_in script ≤ 4096) z (each_has_names threads nodes (t + 1) cs ss (omega arith) x.1 i script at)
