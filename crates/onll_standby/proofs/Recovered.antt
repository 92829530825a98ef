-- A stream of all entries of a crash's logs is followed as far as recovery goes.
use Rattle.std.proofs.Common.{◌≡◌, ℕ, zero, suc, ◌+◌, ◌<◌, ◌≤◌, ◌==◌, ◌⊎◌, inl, inr, ⊎_elim, Bool, List, [], ◌∷◌, ◌++◌, length, take, sym, refl, ap, subst, ◌∙◌, arith, Option, Some, Ok, option_to_list, cond, append-nil}
use Rattle.std.specs.Option.{option_or}
use Rattle.std.specs.List.{AllByRecursion, slice_get}
use mathlib.Core.Logic.{dite}
use Rattle.std.proofs.lemmas.Bool.{cases_eq, ne_eqb}
use Rattle.onll_model.specs.declared.node.Node.{Node}
use Rattle.onll_model.specs.Object.{Behaviour}
use Rattle.onll_model.specs.Segment.{Segment, Within, LiesIn}
use Rattle.onll_model.specs.Frames.{Thread, Frame, Sound, segments_of}
use Rattle.onll_model.proofs.Segments.{lies_left, lies_right}
use Rattle.onll_log.specs.declared.head.LogHead.{LogHead}
use Rattle.onll_log.specs.Grammar.{Content}
use Rattle.onll_merge.specs.Merge.{node_in_segment, node_in_log, top_of}
use Rattle.onll_merge.specs.Laws.{all_segments}
use Rattle.onll_merge.specs.FrameLogs.{AreLogsOf}
use Rattle.onll_merge.proofs.Asked.{by_option}
use Rattle.onll_merge.proofs.Backs.{node_in_log-lies}
use Rattle.onll_merge.proofs.Fronts.{node_among-has, top_of-lies, LiesIn-append}
use Rattle.onll_merge.proofs.FrameLogs.{hold_one, merge_to_front}
use Rattle.onll_standby.specs.Held.{HeldEntry, segments_held, log_held, node_held, node_then, nodes_from, greatest_place, covered}
use Rattle.onll_standby.specs.Stream.{AreStreamHeads, Course, lines_course}
use Rattle.onll_standby.specs.Shipped.{IsOfThreads, AreFronts, AreAllOf, IsLogNode, IsFrontOf, stream_lines}
use Rattle.onll_standby.specs.Laws.{FollowsMerge}
use Rattle.onll_standby.proofs.Entries.{log_held-own}
use Rattle.onll_standby.proofs.OneMore.{followed-all}
use Rattle.onll_standby.proofs.Followed.{short, stream_held, followed, follows_trace}

-- ---- each thread's log
log_at : (ths : List Thread) (heads : List LogHead) (logs : List Content) → AreLogsOf ths heads logs → (t : ℕ) (th : Thread) → slice_get ths t ≡ Some th
    → (c : Content) × (slice_get logs t ≡ Some c) × IsFrontOf c.entries (segments_of th)
log_at [] heads logs a t th e = absurd (cc)
log_at (x ∷ ths) [] logs a t th e = absurd a
log_at (x ∷ ths) (h ∷ heads) [] a t th e = absurd a
log_at (x ∷ ths) (h ∷ heads) (c ∷ logs) a zero th e =
    let same : x ≡ th = (cc) in
    let front : IsFrontOf c.entries (segments_of x) = ⊎_elim
    (λ (k : c.entries ≡ x.fenced). (option_to_list x.pending, ap (λ (l : List Segment). l ++ option_to_list x.pending) (sym k)))
    (λ (k : c.entries ≡ segments_of x). ([], sym k ∙ sym (append-nil c.entries))) a.0.segments in
    (c, refl, subst (λ (y : Thread). IsFrontOf c.entries (segments_of y)) same front)
log_at (x ∷ ths) (h ∷ heads) (c ∷ logs) a (suc t) th e = log_at ths heads logs a.1 t th e

-- ---- the same places
own_lies : (p : ℕ) (t : ℕ) (es : List HeldEntry) → LiesIn p (log_held t es) → LiesIn p (segments_held es)
own_lies p t [] h = absurd h
own_lies p t (e ∷ es) h = ⊎_elim
    (λ (own : e.thread ≡ t). let k : LiesIn p (e.segment ∷ log_held t es) = subst (LiesIn p) (subst (λ (u : ℕ). log_held u (e ∷ es) ≡ e.segment ∷ log_held u es) own (log_held-own e es)) h in
    ⊎_elim (λ (w : Within p e.segment). inl w) (λ (l : LiesIn p (log_held t es)). inr (own_lies p t es l)) k)
    (λ (other : e.thread ≡ t → ⊥). let k : LiesIn p (log_held t es) = subst (LiesIn p) (ap (λ (b : Bool). cond {A = List Segment} b (e.segment ∷ []) [] ++ log_held t es) (ne_eqb e.thread t other)) h in inr (own_lies p t es k))
    (cases_eq e.thread t)

in_log : (p : ℕ) (es : List HeldEntry) → LiesIn p (segments_held es) → (t : ℕ) × LiesIn p (log_held t es)
in_log p [] h = absurd h
in_log p (e ∷ es) (inl w) = (e.thread, subst (LiesIn p) (sym (log_held-own e es)) (inl w))
in_log p (e ∷ es) (inr l) = let r = in_log p es l in (r.0, lies_right p (cond {A = List Segment} (e.thread == r.0) (e.segment ∷ []) []) (log_held r.0 es) r.1)

log_of : (p : ℕ) (logs : List Content) → LiesIn p (all_segments logs) → (t : ℕ) × (c : Content) × (slice_get logs t ≡ Some c) × LiesIn p c.entries
log_of p [] h = absurd h
log_of p (c ∷ logs) h = ⊎_elim (λ (k : LiesIn p c.entries). (0, c, refl, k)) (λ (k : LiesIn p (all_segments logs)). let r = log_of p logs k in (suc r.0, r.1, r.2, r.3)) (LiesIn-append p c.entries (all_segments logs) h)

of_log : (p : ℕ) (logs : List Content) (t : ℕ) (c : Content) → slice_get logs t ≡ Some c → LiesIn p c.entries → LiesIn p (all_segments logs)
of_log p [] t c e h = absurd (cc)
of_log p (d ∷ logs) zero c e h = let same : c ≡ d = (cc) in lies_left p d.entries (all_segments logs) (subst (λ (z : Content). LiesIn p z.entries) same h)
of_log p (d ∷ logs) (suc t) c e h = lies_right p d.entries (all_segments logs) (of_log p logs t c e h)

-- ---- how many places are covered
log_has : (ss : List Segment) (p : ℕ) → LiesIn p ss → (x : Node) × (node_in_log ss p ≡ Some x)
log_has [] p h = absurd h
log_has (s ∷ ss) p (inl h) = let a = h.0 in let b = h.1 in let r = node_among-has s.place s.nodes p a b in (r.0, ap (λ (o : Option Node). option_or o (node_in_log ss p)) r.1)
log_has (s ∷ ss) p (inr h) = let r = log_has ss p h in let P : Option Node → Type 0 = λ o. (x : Node) × (option_or o (node_in_log ss p) ≡ Some x) in by_option P (node_in_segment s p) (λ _. r) (λ x _. (x, refl))

at_least : (held : ℕ → Option Node) (k q m : ℕ) → m ≤ k → ((p : ℕ) → q < p → p ≤ q + m → (x : Node) × (held p ≡ Some x)) → m ≤ length (nodes_from held k (q + 1))
at_least held k q zero l h = omega arith
at_least held zero q (suc m) l h = absurd (omega arith)
at_least held (suc k) q (suc m) l h =
    let here = h (q + 1) (omega arith) (omega arith) in
    let rest = at_least held k (q + 1) m (omega arith) (λ p a b. h p (omega arith) (omega arith)) in
    let e : nodes_from held (suc k) (q + 1) ≡ here.0 ∷ nodes_from held k (q + 1 + 1) = ap (λ (o : Option Node). node_then o (nodes_from held k (q + 1 + 1))) here.1 in
    let n = ap (λ (l : List Node). length l) e in omega arith

at_most : (held : ℕ → Option Node) (top k q : ℕ) → ((p : ℕ) (x : Node) → 1 ≤ p → held p ≡ Some x → p ≤ top) → q ≤ top → q + length (nodes_from held k (q + 1)) ≤ top
at_most held top zero q h l = omega arith
at_most held top (suc k) q h l =
    let P : Option Node → Type 0 = λ o. q + length (node_then o (nodes_from held k (q + 1 + 1))) ≤ top in
    by_option P (held (q + 1)) (λ _. omega arith)
    (λ x e. let here = h (q + 1) x (omega arith) e in let rest = at_most held top k (q + 1) h here in omega arith)

module _ {State Op Query Reply : Type 0} (b : Behaviour State Op Query Reply) (count : ℕ) (f : Frame) (heads : List LogHead) (logs : List Content) (es : List HeldEntry) (sound : Sound count f)
    (many : length heads ≡ count) (are : AreStreamHeads heads) (updates : AllByRecursion (IsLogNode b count) f.trace) (left : AreLogsOf f.threads heads logs) (all : AreAllOf count logs es) where
  fronts : AreFronts count f es
  fronts = record {
    threads = all.threads;
    fronts = λ t th e. let c = log_at f.threads heads logs left t th e in
        subst (λ (l : List Segment). IsFrontOf l (segments_of th)) (sym (all.entries t c.0 c.1)) c.2;
  }

  lies_in_logs : (p : ℕ) → LiesIn p (segments_held es) → LiesIn p (all_segments logs)
  lies_in_logs p h =
      let own = in_log p es h in
      let t : ℕ = own.0 in
      ⊎_elim
      (λ (e : t < count). let n = sound.threads in let th = Rattle.onll_model.proofs.Lists.present f.threads t (omega arith) in let c = log_at f.threads heads logs left t th.0 th.1 in
      of_log p logs t c.0 c.1 (subst (LiesIn p) (all.entries t c.0 c.1) own.1))
      (λ (e : t < count → ⊥). absurd (no_such t e es all.threads own.1))
      (below t)
    where
      below : (t : ℕ) → (t < count) ⊎ (t < count → ⊥)
      below t = dite (native.Mathlib.Decide.dec_le (suc t) count) (λ l. inl l) (λ g. inr (λ l. omega arith))

      no_such : (t : ℕ) → (t < count → ⊥) → (ds : List HeldEntry) → AllByRecursion (IsOfThreads count) ds → LiesIn p (log_held t ds) → ⊥
      no_such t n [] a h = h
      no_such t n (d ∷ ds) a h = let m : d.thread ≡ t → ⊥ = (λ e. n (subst (λ (u : ℕ). u < count) e a.0)) in
          no_such t n ds a.1 (subst (LiesIn p) (ap (λ (z : Bool). cond {A = List Segment} z (d.segment ∷ []) [] ++ log_held t ds) (ne_eqb d.thread t m)) h)

  lies_in_stream : (p : ℕ) → LiesIn p (all_segments logs) → LiesIn p (segments_held es)
  lies_in_stream p h = let r = log_of p logs h in own_lies p r.0 es (subst (LiesIn p) (sym (all.entries r.0 r.1 r.2)) r.3)

  covers : length (covered (length heads) es) ≡ top_of logs
  covers =
      let one = hold_one count f heads logs sound left in
      let front = merge_to_front count f heads logs sound left in
      let s = short b count f heads sound many are updates in
      let w = front.within in
      let low = at_least (node_held es) (greatest_place (length heads)) 0 (top_of logs) (omega arith) (λ p a c. log_has (segments_held es) p (lies_in_stream p (one.cover p (omega arith) (omega arith)))) in
      let high = at_most (node_held es) (top_of logs) (greatest_place (length heads)) 0 (λ p x a e. top_of-lies logs p (lies_in_logs p (node_in_log-lies (segments_held es) p x e))) (omega arith) in
      omega arith

  pub follows_merge : FollowsMerge b heads logs (lines_course b heads (stream_lines heads es))
  follows_merge =
      let t = follows_trace b count f heads sound many are updates es fronts in
      let clean = (followed b count f heads sound many are updates es fronts es [] (sym (append-nil es))).2 in
      let is : (lines_course b heads (stream_lines heads es)).nodes ≡ covered (length heads) es =
      ap (λ (c : Course). c.nodes) (stream_held b count f heads sound many are updates es fronts) ∙ followed-all b [] (covered (length heads) es) clean in
      let n : length (lines_course b heads (stream_lines heads es)).nodes ≡ top_of logs = ap (λ (l : List Node). length l) is ∙ covers in
      let front = merge_to_front count f heads logs sound left in
      record {
        no_fault = t.no_fault;
        followed = n;
        merged = front.merged ∙ ap Ok (sym (t.nodes ∙ ap (λ (k : ℕ). take k f.trace) n));
      }
