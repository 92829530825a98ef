-- A stream of fronts of the logs of a sound frame is followed along its trace.
use Rattle.std.proofs.Common.{◌≡◌, ◌≢◌, ℕ, suc, ◌+◌, ◌-◌, ◌*◌, ◌<◌, ◌≤◌, Bool, true, List, [], ◌∷◌, ◌++◌, length, take, sym, refl, ap, subst, ◌∙◌, arith, Option, Some, None, cond, append_assoc, append-nil}
use Rattle.std.specs.Option.{option_map}
use Rattle.std.specs.List.{AllByRecursion, slice_get}
use Rattle.std.proofs.lemmas.Bool.{le-leb}
use Rattle.std.proofs.lemmas.List.{length-map}
use Rattle.onll_model.specs.declared.node.Node.{Node}
use Rattle.onll_model.specs.Object.{Behaviour}
use Rattle.onll_model.specs.Segment.{Segment, Agrees, Rises}
use Rattle.onll_model.specs.Frames.{Thread, Frame, Sound, IsSoundSegment, segments_of, fenced_segments}
use Rattle.onll_model.proofs.Lists.{present, all_map, all_left, all_right, all_take, all_drop}
use Rattle.onll_log.specs.declared.head.LogHead.{LogHead}
use Rattle.onll_log.specs.Head.{head_line}
use Rattle.onll_log.specs.Encoding.{entry_lines, FitsNode, FitsEntry}
use Rattle.onll_merge.proofs.FrameLogs.{front_rises}
use Rattle.onll_standby.specs.declared.fault.FeedFault.{FeedFault}
use Rattle.onll_standby.specs.declared.fault.FeedFault.TheVariants.{Disorder, Clash}
use Rattle.onll_standby.specs.Held.{HeldEntry, segments_held, log_held, greatest_place, clash_with, goes_up, entry_fault, followed_above, node_fault_above, nodes_followed, node_fault}
use Rattle.onll_standby.specs.Stream.{AreStreamHeads, byte_at, waits, entries_course, after_heads, lines_course}
use Rattle.onll_standby.specs.Shipped.{IsOfThreads, AreFronts, IsLogNode, IsFrontOf, lines_of_entry, lines_of_entries, head_lines, stream_lines}
use Rattle.onll_standby.specs.Laws.{FollowsTrace}
use Rattle.onll_model.proofs.Counting.{short_trace}
use Rattle.onll_standby.proofs.OnTrace.{no_clash, nodes_from-front, numbered_take, take_length, all_followed}
use Rattle.onll_standby.proofs.Entries.{log_held-append, log_held-own, all_held, rises_after, head_at, no_foreign_line, skipped, entry_held}

module _ {State Op Query Reply : Type 0} (b : Behaviour State Op Query Reply) (count : ℕ) (f : Frame) (heads : List LogHead) (sound : Sound count f)
    (many : length heads ≡ count) (are : AreStreamHeads heads) (updates : AllByRecursion (IsLogNode b count) f.trace) where
  -- ---- each segment of the frame
  fit_nodes : AllByRecursion (FitsNode count) f.trace
  fit_nodes = all_map (IsLogNode b count) (FitsNode count) f.trace (λ x h. h.0) updates

  operations : AllByRecursion (λ (x : Node). b.op_at x.row ≢ None) f.trace
  operations = all_map (IsLogNode b count) (λ (x : Node). b.op_at x.row ≢ None) f.trace (λ x h. h.1) updates

  pub short : length f.trace ≤ 4096 * count
  short = short_trace 4096 count f.trace sound.numbered (all_map (FitsNode count) (λ (x : Node). x.number ≤ 4096) f.trace (λ x h. h.number.1) fit_nodes) sound.below

  abbrev FollowsCourse : Segment → Type 0
  FollowsCourse s = Agrees f.trace s × FitsEntry count s

  held : (s : Segment) → IsSoundSegment count f.trace (fenced_segments f.threads) s → FollowsCourse s
  held s h = let a = h.agrees.in_trace in let l = short in (
    h.agrees,
    record {
      some_nodes = h.agrees.some_nodes;
      few_nodes = h.few;
      from_one = h.agrees.from_one;
      place = omega arith;
      nodes = subst (AllByRecursion (FitsNode count)) (sym h.agrees.nodes) (all_drop (FitsNode count) (s.place - length s.nodes) (take s.place f.trace) (all_take (FitsNode count) s.place f.trace fit_nodes));
    },
  )

  -- ---- all entries
  module _ (all : List HeldEntry) (fronts : AreFronts count f all) where
    log_front : (t : ℕ) → t < count → (th : Thread) × (slice_get f.threads t ≡ Some th) × IsFrontOf (log_held t all) (segments_of th)
    log_front t l = let n = sound.threads in let th = present f.threads t (omega arith) in (th.0, th.1, fronts.fronts t th.0 th.1)

    log_held-all : (t : ℕ) → t < count → AllByRecursion FollowsCourse (log_held t all)
    log_held-all t l = let h = log_front t l in
        all_left FollowsCourse (log_held t all) h.2.0 (subst (AllByRecursion FollowsCourse) h.2.1
        (all_map (IsSoundSegment count f.trace (fenced_segments f.threads)) FollowsCourse (segments_of h.0) held (sound.segments t h.0 h.1)))

    log_rises : (t : ℕ) → t < count → Rises 0 (log_held t all)
    log_rises t l = let h = log_front t l in front_rises 0 (log_held t all) h.2.0 (subst (Rises 0) h.2.1 (sound.rising t h.0 h.1))

    segments_all : AllByRecursion FollowsCourse (segments_held all)
    segments_all = all_held FollowsCourse count all fronts.threads log_held-all

    segments_held-append : (es ds : List HeldEntry) → segments_held (es ++ ds) ≡ segments_held es ++ segments_held ds
    segments_held-append [] ds = refl
    segments_held-append (e ∷ es) ds = ap (λ (l : List Segment). e.segment ∷ l) (segments_held-append es ds)

    front_agrees : (es ds : List HeldEntry) → all ≡ es ++ ds → AllByRecursion (Agrees f.trace) (segments_held es)
    front_agrees es ds e = all_map FollowsCourse (Agrees f.trace) (segments_held es) (λ s h. h.0)
        (all_left FollowsCourse (segments_held es) (segments_held ds) (subst (AllByRecursion FollowsCourse) (ap segments_held e ∙ segments_held-append es ds) segments_all))

    -- ---- what a front of them covers is a front of the trace
    abbrev pub Followed : List HeldEntry → Type 0
    Followed es = (n : ℕ) × (nodes_followed b (length heads) es ≡ take n f.trace) × (node_fault b (length heads) es ≡ None)

    pub followed : (es ds : List HeldEntry) → all ≡ es ++ ds → Followed es
    followed es ds e =
        let c = nodes_from-front f.trace (segments_held es) (front_agrees es ds e) (greatest_place (length heads)) 0 in
        let front : List Node = take c.0 f.trace in
        let k = all_followed b [] front (numbered_take [] f.trace c.0 sound.numbered) (all_take (λ (x : Node). b.op_at x.row ≢ None) c.0 f.trace operations) in
        (c.0, ap (followed_above b []) c.1 ∙ k.0, ap (node_fault_above b []) c.1 ∙ k.1)

    -- ---- the entry after a front of them
    module _ (es : List HeldEntry) (e : HeldEntry) (more : List HeldEntry) (is : all ≡ es ++ e ∷ more) where
      joined : all ≡ (es ++ e ∷ []) ++ more
      joined = is ∙ sym (append_assoc es (e ∷ []) more)

      of_thread : e.thread < count
      of_thread = (all_right (IsOfThreads count) es (e ∷ more) (subst (AllByRecursion (IsOfThreads count)) is fronts.threads)).0

      entry_is_held : FollowsCourse e.segment
      entry_is_held = (all_right FollowsCourse (segments_held es) (segments_held (e ∷ more)) (subst (AllByRecursion FollowsCourse) (ap segments_held is ∙ segments_held-append es (e ∷ more)) segments_all)).0

      goes : goes_up es e ≡ true
      goes = let t : ℕ = e.thread in
          let split : log_held t all ≡ log_held t es ++ e.segment ∷ log_held t more = ap (log_held t) is ∙ (log_held-append t es (e ∷ more) ∙ ap (λ (l : List Segment). log_held t es ++ l) (log_held-own e more)) in
          le-leb _ _ (rises_after 0 (log_held t es) e.segment (log_held t more) (subst (Rises 0) split (log_rises t of_thread)))

      no_fault : (at : ℕ) → entry_fault es at e ≡ None
      no_fault at =
          ap (λ (t : Bool). cond {A = Option FeedFault} t (option_map (Clash at) (clash_with es e.segment)) (Some (Disorder at))) goes
          ∙ ap (option_map (Clash at)) (no_clash f.trace (segments_held es) e.segment (front_agrees es (e ∷ more) is) entry_is_held.0)

      -- it is held, and the rest goes on from it
      one_held : (at : ℕ) (rest : List (List ℕ)) → (end : ℕ) × (entries_course b heads es at 0 (lines_of_entry (slice_get heads e.thread) es e ++ rest) ≡ entries_course b heads (es ++ e ∷ []) end 0 rest)
      one_held at rest =
          let l = of_thread in
          let h = present heads e.thread (omega arith) in
          let n = head_at 0 (length heads) heads e.thread h.0 are.numbered h.1 in
          let z : 0 + e.thread ≡ e.thread = omega arith in
          let own : h.0.thread ≡ e.thread = n.0 ∙ z in
          let same : record { thread = h.0.thread; segment = e.segment } ≡ e = λ i. record { thread = own i; segment = e.segment } in
          let threads : count ≡ h.0.threads = sym many ∙ sym n.1 in
          let fits : FitsEntry h.0.threads e.segment = subst (λ (m : ℕ). FitsEntry m e.segment) threads entry_is_held.1 in
          let named : slice_get heads h.0.thread ≡ Some h.0 = ap (slice_get heads) own ∙ h.1 in
          let f1 : entry_fault es (byte_at at) (record { thread = h.0.thread; segment = e.segment }) ≡ None = ap (entry_fault es (byte_at at)) same ∙ no_fault (byte_at at) in
          let f2 : node_fault b (length heads) (es ++ record { thread = h.0.thread; segment = e.segment } ∷ []) ≡ None = ap (λ (d : HeldEntry). node_fault b (length heads) (es ++ d ∷ [])) same ∙ (followed (es ++ e ∷ []) more joined).2 in
          let step = entry_held b heads es at h.0 e.segment rest fits named f1 f2 in
          let first : lines_of_entry (slice_get heads e.thread) es e ≡ entry_lines h.0 (length (log_held h.0.thread es)) e.segment =
          ap (λ (o : Option LogHead). lines_of_entry o es e) h.1 ∙ ap (λ (t : ℕ). entry_lines h.0 (length (log_held t es)) e.segment) (sym own) in (
            at + suc (length e.segment.nodes),
            ap (λ (ls : List (List ℕ)). entries_course b heads es at 0 (ls ++ rest)) first ∙ (step ∙ ap (λ (d : HeldEntry). entries_course b heads (es ++ d ∷ []) (at + suc (length e.segment.nodes)) 0 rest) same),
          )

    all_entries_held : (es more : List HeldEntry) (at : ℕ) → all ≡ es ++ more → entries_course b heads es at 0 (lines_of_entries heads es more) ≡ waits b heads all []
    all_entries_held es [] at is = ap (λ (ds : List HeldEntry). waits b heads ds []) (sym (is ∙ append-nil es))
    all_entries_held es (e ∷ more) at is = let one = one_held es e more is at (lines_of_entries heads (es ++ e ∷ []) more) in
        one.1 ∙ all_entries_held (es ++ e ∷ []) more one.0 (joined es e more is)

    -- the whole stream
    pub stream_held : lines_course b heads (stream_lines heads all) ≡ waits b heads all []
    stream_held =
        let body : List (List ℕ) = lines_of_entries heads [] all in
        let n : length heads ≡ length (head_lines heads) = sym (length-map heads head_line) in
        ap (λ (o : Option ℕ). after_heads b heads o (head_lines heads ++ body)) (no_foreign_line 0 heads body)
        ∙ (skipped b heads [] (length heads) (length heads) (head_lines heads) body n
        ∙ all_entries_held [] all (length heads) refl)

    pub follows_trace : FollowsTrace b f all (lines_course b heads (stream_lines heads all))
    follows_trace =
        let w = followed all [] (sym (append-nil all)) in
        let t = take_length w.0 f.trace in
        subst (FollowsTrace b f all) (sym stream_held) record {
          entries = refl;
          no_fault = refl;
          nothing_left = refl;
          within = subst (λ (ns : List Node). length ns ≤ length f.trace) (sym w.1) t.1;
          nodes = subst (λ (ns : List Node). ns ≡ take (length ns) f.trace) (sym w.1) (sym t.0);
        }
