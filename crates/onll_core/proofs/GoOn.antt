use Rattle.std.proofs.Common.{ℕ, zero, suc, ◌≡◌, ◌+◌, ◌-◌, ◌≤◌, List, [], ◌∷◌, length, take, drop, Some, sym, refl, ap, ◌∙◌, subst, arith}
use Rattle.std.proofs.lemmas.List.{length-map}
use Rattle.std.specs.List.{AllByRecursion, slice_get}
use Rattle.onll_model.specs.declared.node.Node.{Node}
use Rattle.onll_model.specs.declared.call.Call.{Call}
use Rattle.onll_model.specs.declared.call.Call.TheVariants.{Update, Ask}
use Rattle.onll_model.specs.Object.{Behaviour}
use Rattle.onll_model.specs.Trace.{node_at, reply_after, answer_after}
use Rattle.onll_model.specs.Segment.{Segment}
use Rattle.onll_model.specs.Frames.{Thread, IsSoundSegment, fenced_segments}
use Rattle.onll_model.proofs.Lists.{same_some, all_at, all_from, all_map, present, inside, at_window}
use Rattle.onll_log.specs.declared.head.LogHead.{LogHead}
use Rattle.onll_log.specs.Encoding.{FitsNode, FitsEntry}
use Rattle.onll_log.specs.Grammar.{Content}
use Rattle.onll_merge.specs.Laws.{EachSegment}
use Rattle.onll_merge.specs.FrameLogs.{AreLogsOf}
use Rattle.onll_merge.specs.Resumed.{entries_of}
use Rattle.onll_merge.proofs.FrameLogs.{sound_segments}
use Rattle.onll_merge.proofs.Resumed.{each_entries, can_go_on}
use Rattle.onll_core.specs.declared.returned.Returned.{Returned}
use Rattle.onll_core.specs.Core.{CoreThread, CoreState}
use Rattle.onll_core.specs.CoreFrame.{frame_of}
use Rattle.onll_core.specs.First.{IsHeadOf}
use Rattle.onll_core.specs.Resumed.{AreResumed}
use Rattle.onll_core.specs.Consistent.{IsConsistent}
use Rattle.onll_core.specs.Crash.{AreImages, heads_of, Recovers, HoldsCall}
use Rattle.onll_core.specs.CrashLaws.{AreScripts, GoOnLaw, MoreNodesLaw, NextCrashLaw}
use Rattle.onll_core.proofs.CoreFrames.{get_map}
use Rattle.onll_core.proofs.Windows.{threads_count, trace_short, node_fits}
use Rattle.onll_core.proofs.Images.{image_either}
use Rattle.onll_core.proofs.ReachedCores.{reached_consistent}
use Rattle.onll_core.proofs.Crashed.{are_held, some_same, take_take}
use Rattle.onll_core.proofs.Recovered.{node_same, resumed_recovers}

-- A core can go on from what is recovered, and what returned stays.

length_logs : (ths : List Thread) (heads : List LogHead) (logs : List Content) → AreLogsOf ths heads logs → length logs ≡ length ths
length_logs [] [] [] a = refl
length_logs [] [] (c ∷ cs) a = absurd a
length_logs [] (x ∷ xs) cs a = absurd a
length_logs (th ∷ ths) [] cs a = absurd a
length_logs (th ∷ ths) (x ∷ xs) [] a = absurd a
length_logs (th ∷ ths) (x ∷ xs) (c ∷ cs) a = ap suc (length_logs ths xs cs a.1)

module _ {State Op Query Reply : Type 0} (count : ℕ) (c : CoreState State Op Query Reply) (k : IsConsistent count c) where
  -- an entry can hold each sound segment
  sound_fits : (s : Segment) → IsSoundSegment count c.trace (fenced_segments (frame_of c).threads) s → FitsEntry count s
  sound_fits s h =
      let a = h.agrees in
      let high = a.in_trace in
      let all = trace_short count c k in
      let d : ℕ = s.place - length s.nodes in
      record {
        some_nodes = a.some_nodes;
        few_nodes = h.few;
        from_one = a.from_one;
        place = omega arith;
        nodes = all_from (FitsNode count) s.nodes (λ i x e. node_fits count c k (d + i) x (at_window c.trace d s.place i x (ap (λ (l : List Node). slice_get l i) (sym a.nodes) ∙ e)).0);
      }

  head_is : (t : ℕ) (head : LogHead) → slice_get (heads_of c.threads) t ≡ Some head → IsHeadOf count t head
  head_is t head at =
      let low = inside (heads_of c.threads) t head at in
      let same_length = length-map c.threads (λ (th : CoreThread State Op Query Reply). th.head) in
      let th = present c.threads t (omega arith) in
      let same : th.0.head ≡ head = same_some th.0.head head (sym (get_map (λ (w : CoreThread State Op Query Reply). w.head) c.threads t th.0 th.1) ∙ at) in
      let tie = k.tied t th.0 th.1 in
      subst (IsHeadOf count t) same (record { fits = tie.head; thread = tie.own.0; threads = tie.own.1; format = tie.own.2 })

  go_on : (images : List (List (List ℕ))) (scripts : List (List (Call State Op Query Reply))) → AreImages c.threads images → (r : Recovers (heads_of c.threads) c images) → AreScripts count r.nodes scripts
      → AreResumed count r.nodes (heads_of c.threads) (entries_of r.logs) scripts
  go_on images scripts a r s =
      let held = are_held c.base c.trace c.threads images a (λ t th at image i. image_either count c k t th at image i) in
      let same : held.logs ≡ r.logs = some_same held.logs r.logs (sym held.contents ∙ r.contents) in
      let P : Segment → Type 0 = IsSoundSegment count c.trace (fenced_segments (frame_of c).threads) in
      let sound = sound_segments count (frame_of c) (heads_of c.threads) held.logs k.sound held.left in
      let fits : EachSegment (FitsEntry count) r.logs = subst (EachSegment (FitsEntry count)) same
      (all_map (λ (l : Content). AllByRecursion P l.entries) (λ (l : Content). AllByRecursion (FitsEntry count) l.entries) held.logs (λ l h. all_map P (FitsEntry count) l.entries sound_fits h) sound) in
      let all : length r.logs ≡ count = ap length (sym same) ∙ (length_logs (frame_of c).threads (heads_of c.threads) held.logs held.left ∙ k.sound.threads) in
      let on = can_go_on count r.nodes (heads_of c.threads) r.logs r.recovered all fits in
      record {
        few = k.few;
        rows = all_map (FitsNode count) (λ (n : Node). length n.row.w ≡ 7) r.nodes (λ n h. h.row) on.fit;
        resumable = on.resumable;
        all_heads = length-map c.threads (λ (th : CoreThread State Op Query Reply). th.head) ∙ threads_count count c k;
        all_scripts = s.all_scripts;
        each_head = head_is;
        each_log = λ t log at. all_at (AllByRecursion (FitsEntry count)) (entries_of r.logs) (each_entries (AllByRecursion (FitsEntry count)) r.logs fits) t log at;
        each_script = s.each_script;
      }

pub can_resume : {State Op Query Reply : Type 0} → GoOnLaw State Op Query Reply
can_resume count c images scripts k a r s = go_on count c k images scripts a r s

-- ---- more nodes
-- what a front of nodes is at a place up to its end, the nodes are
front_of : (nodes more : List Node) (p : ℕ) → take (length nodes) more ≡ nodes → p ≤ length nodes → take p more ≡ take p nodes
front_of nodes more p e l = sym (take_take (length nodes) p more l) ∙ ap (take p) e

node_inside : (nodes : List Node) (p : ℕ) (x : Node) → node_at nodes p ≡ Some x → p ≤ length nodes
node_inside nodes zero x e = omega arith
node_inside nodes (suc p) x e = let l = inside nodes p x e in omega arith

front_long : (nodes more : List Node) → take (length nodes) more ≡ nodes → length nodes ≤ length more
front_long [] more e = omega arith
front_long (n ∷ nodes) [] e = absurd (let l = ap length e in omega arith)
front_long (n ∷ nodes) (m ∷ more) e = let rest : take (length nodes) more ≡ nodes = ap (drop 1) e in let l = front_long nodes more rest in omega arith

module _ {State Op Query Reply : Type 0} (b : Behaviour State Op Query Reply) where
  still_held : (s : State) (t : ℕ) (nodes more : List Node) → take (length nodes) more ≡ nodes → (call : Call State Op Query Reply) (r : Returned State Op Query Reply) → HoldsCall b s t nodes call r → HoldsCall b s t more call r
  still_held s t nodes more e (Update op) r h =
      let low = node_inside nodes r.place h.node h.here in
      record {
        node = h.node;
        here = node_same nodes more r.place (front_of nodes more r.place e low) ∙ h.here;
        own = h.own;
        row_is = h.row_is;
        reply_is = h.reply_is ∙ ap (λ (l : List Node). reply_after b s l op) (sym (front_of nodes more (r.place - 1) e (omega arith)));
      }
  still_held s t nodes more e (Ask query) r h =
      let low = h.all_there in
      let long = front_long nodes more e in
      record { all_there = omega arith; answer_is = h.answer_is ∙ ap (λ (l : List Node). answer_after b s l query) (sym (front_of nodes more r.place e low)) }

  pub more_nodes : MoreNodesLaw b
  more_nodes c nodes more e h t th at i r returned = let x = h t th at i r returned in (x.0, x.1, still_held c.initial t nodes more e x.0 r x.2)

  pub next_recovers : NextCrashLaw b
  next_recovers count c images next_images scripts ts h a all s next =
      let heads : List LogHead = heads_of c.threads in
      let r = all.recovers in
      let x = resumed_recovers b count c.initial r.nodes heads (entries_of r.logs) scripts ts next_images (can_resume count c images scripts (reached_consistent b count c h) a r s) next in
      (x.0, x.1, more_nodes c r.nodes x.0.recovers.nodes x.1 all.calls)
