-- Logs that merge can be gone on from.
use Rattle.std.proofs.Common.{◌≡◌, ℕ, suc, ◌+◌, ◌-◌, ◌<◌, ◌≤◌, List, [], ◌∷◌, ◌++◌, length, map, Some, Ok, sym, refl, ap, subst, ◌∙◌, arith}
use Rattle.std.specs.List.{AllByRecursion, slice_get}
use Rattle.std.proofs.lemmas.List.{length-map}
use Rattle.onll_model.specs.declared.node.Node.{Node}
use Rattle.onll_model.specs.Segment.{Segment, Agrees, LiesIn, Covers, Rises}
use Rattle.onll_model.specs.Frames.{IsSoundSegment, fenced_segments, resumed_thread, resumed_frame}
use Rattle.onll_model.proofs.Lists.{same_some, all_at, all_from, all_append, all_map, present, inside, at_window}
use Rattle.onll_model.proofs.Segments.{lies_at}
use Rattle.onll_log.specs.declared.head.LogHead.{LogHead}
use Rattle.onll_log.specs.Encoding.{FitsNode, FitsEntry}
use Rattle.onll_log.specs.Grammar.{Content}
use Rattle.onll_merge.specs.Merge.{merge}
use Rattle.onll_merge.specs.Laws.{all_segments, EachSegment, HoldMerged}
use Rattle.onll_merge.specs.Resumed.{entries_of, CanGoOn}
use Rattle.onll_merge.proofs.Backs.{merge-back}

-- ---- facts of each segment
all_both : {A : Type 0} (P Q : A → Type 0) (xs : List A) → AllByRecursion P xs → AllByRecursion Q xs → AllByRecursion (λ x. P x × Q x) xs
all_both P Q [] h k = tt
all_both P Q (x ∷ xs) h k = ((h.0, k.0), all_both P Q xs h.1 k.1)

each_both : (P Q : Segment → Type 0) (logs : List Content) → EachSegment P logs → EachSegment Q logs → EachSegment (λ s. P s × Q s) logs
each_both P Q [] h k = tt
each_both P Q (c ∷ cs) h k = (all_both P Q c.entries h.0 k.0, each_both P Q cs h.1 k.1)

pub each_entries : (Q : List Segment → Type 0) (logs : List Content) → AllByRecursion (λ (c : Content). Q c.entries) logs → AllByRecursion Q (entries_of logs)
each_entries Q [] h = tt
each_entries Q (c ∷ cs) h = (h.0, each_entries Q cs h.1)

each_of_all : (P : Segment → Type 0) (logs : List Content) → EachSegment P logs → AllByRecursion P (all_segments logs)
each_of_all P [] h = tt
each_of_all P (c ∷ cs) h = all_append P c.entries (all_segments cs) h.0 (each_of_all P cs h.1)

-- the segments that were found are fenced
fenced_is_all : (b : ℕ) (logs : List Content) → fenced_segments (map (resumed_thread b) (entries_of logs)) ≡ all_segments logs
fenced_is_all b [] = refl
fenced_is_all b (c ∷ cs) = ap (λ (l : List Segment). c.entries ++ l) (fenced_is_all b cs)

module _ (count : ℕ) (nodes : List Node) (heads : List LogHead) (logs : List Content) (m : HoldMerged nodes heads logs) (all : length logs ≡ count) (fits : EachSegment (FitsEntry count) logs) where
  -- each segment is one of the nodes', and can be held by an entry
  abbrev IsFound : Segment → Type 0
  IsFound s = Agrees nodes s × FitsEntry count s

  found : EachSegment IsFound logs
  found = all_map (λ (c : Content). AllByRecursion (λ (s : Segment). (1 ≤ length s.nodes → Agrees nodes s) × FitsEntry count s) c.entries) (λ (c : Content). AllByRecursion IsFound c.entries) logs
      (λ c h. all_map (λ (s : Segment). (1 ≤ length s.nodes → Agrees nodes s) × FitsEntry count s) IsFound c.entries (λ s k. (k.0 k.1.some_nodes, k.1)) h)
      (each_both (λ (s : Segment). 1 ≤ length s.nodes → Agrees nodes s) (FitsEntry count) logs m.agree fits)

  fenced : List Segment
  fenced = fenced_segments (resumed_frame nodes (entries_of logs)).threads

  covers : (p : ℕ) → p ≤ length nodes → Covers fenced p
  unfolding fenced
  covers p high q low below = let whole = m.whole in subst (LiesIn q) (sym (fenced_is_all (length nodes) logs)) (m.cover q low (omega arith))

  sound : (s : Segment) → IsFound s → IsSoundSegment count nodes fenced s
  sound s h = let high = h.0.in_trace in record { agrees = h.0; few = h.1.few_nodes; below = covers (s.place - length s.nodes) (omega arith) }

  node_fits : (i : ℕ) (x : Node) → slice_get nodes i ≡ Some x → FitsNode count x
  node_fits i x at =
      let whole = m.whole in
      let low = inside nodes i x at in
      let lies = lies_at (suc i) (all_segments logs) (m.cover (suc i) (omega arith) (omega arith)) in
      let s : Segment = lies.1 in
      let is = all_at IsFound (all_segments logs) (each_of_all IsFound logs found) lies.0 s lies.2 in
      let w = lies.3 in
      let up = w.0 in
      let down = w.1 in
      let from_one = is.0.from_one in
      let d : ℕ = s.place - length s.nodes in
      let here = present s.nodes (i - d) (omega arith) in
      let there = at_window nodes d s.place (i - d) here.0 (ap (λ (l : List Node). slice_get l (i - d)) (sym is.0.nodes) ∙ here.1) in
      let back : d + (i - d) ≡ i = omega arith in
      let same : here.0 ≡ x = same_some here.0 x (sym there.0 ∙ (ap (slice_get nodes) back ∙ at)) in
      subst (FitsNode count) same (all_at (FitsNode count) s.nodes is.1.nodes (i - d) here.0 here.1)

  go_on : CanGoOn count nodes logs
  unfolding fenced
  go_on = let fit : AllByRecursion (FitsNode count) nodes = all_from (FitsNode count) nodes node_fits in record {
    resumable = record {
      threads = length-map logs (λ (c : Content). c.entries) ∙ all;
      numbered = m.numbered;
      below = all_map (FitsNode count) (λ (x : Node). x.thread < count) nodes (λ x h. h.thread) fit;
      segments = each_entries (AllByRecursion (IsSoundSegment count nodes fenced)) logs (all_map (λ (c : Content). AllByRecursion IsFound c.entries) (λ (c : Content). AllByRecursion (IsSoundSegment count nodes fenced) c.entries) logs
          (λ c h. all_map IsFound (IsSoundSegment count nodes fenced) c.entries sound h) found);
      rising = each_entries (Rises 0) logs m.rise;
      covered = covers (length nodes) (omega arith);
    };
    fit = fit;
  }

pub can_go_on : (count : ℕ) (nodes : List Node) (heads : List LogHead) (logs : List Content) → merge heads logs ≡ Ok nodes → length logs ≡ count → EachSegment (FitsEntry count) logs → CanGoOn count nodes logs
can_go_on count nodes heads logs e all fits = go_on count nodes heads logs (merge-back nodes heads logs e) all fits
