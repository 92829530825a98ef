use Rattle.std.proofs.Common.{ℕ, zero, suc, ◌≡◌, ◌+◌, ◌*◌, ◌≤◌, Bool, true, List, length, map, replicate, Option, Some, None, Result, Ok, Err, sym, refl, ap, ◌∙◌, subst, arith, count_by}
use Rattle.std.specs.List.{AllByRecursion, slice_get}
use Rattle.std.proofs.lemmas.List.{length-map, take_all}
use Rattle.onll_model.specs.declared.node.Node.{Node}
use Rattle.onll_model.specs.declared.call.Call.{Call}
use Rattle.onll_model.specs.Object.{Behaviour}
use Rattle.onll_model.specs.Trace.{is_of_thread, state_after}
use Rattle.onll_model.specs.Calls.{updates_in}
use Rattle.onll_model.proofs.Lists.{same_some, some_not_none, all_at, all_from, all_map}
use Rattle.onll_log.specs.declared.head.LogHead.{LogHead}
use Rattle.onll_log.specs.Encoding.{FitsNode, FitsEntry}
use Rattle.onll_log.specs.Torn.{AreLines}
use Rattle.onll_merge.specs.declared.counts.LogCounts.{LogCounts}
use Rattle.onll_merge.specs.Merge.{unless}
use Rattle.onll_merge.specs.Recovered.{log_counts, Recovered}
use Rattle.onll_merge.specs.Resumed.{entries_of}
use Rattle.onll_merge.proofs.Backs.{merge-back}
use Rattle.onll_merge.proofs.Resumed.{each_entries, can_go_on}
use Rattle.onll_start.specs.declared.fault.ResumeFault.{ResumeFault}
use Rattle.onll_start.specs.Heads.{created_heads}
use Rattle.onll_start.specs.Start.{Found, found_in, too_many}
use Rattle.onll_start.specs.Found.{IsFound}
use Rattle.onll_start.proofs.Contents.{contents_are}
use Rattle.onll_start.proofs.Finding.{HasFound, has_found}
use Rattle.onll_core.specs.declared.local.Local.{Local}
use Rattle.onll_core.specs.declared.returned.Returned.{Returned}
use Rattle.onll_core.specs.Core.{CoreThread, CoreState}
use Rattle.onll_core.specs.CoreFrame.{seen_in}
use Rattle.onll_core.specs.Created.{IsWithinLimits}
use Rattle.onll_core.specs.Resumed.{resumed_core, AreResumed}
use Rattle.onll_core.specs.Resume.{going_on, resumed}
use Rattle.onll_core.specs.Found.{found_threads, HaveLogRoom, locals_from}
use Rattle.onll_core.specs.Consistent.{IsConsistent}
use Rattle.onll_core.specs.Reached.{IsReached}
use Rattle.onll_core.specs.Kept.{own_place, IsLocal, KeepsCore}
use Rattle.onll_core.proofs.Created.{are_first}
use Rattle.onll_core.proofs.FirstCore.{resumed_consistent}
use Rattle.onll_core.proofs.ReachedCores.{resumed_reached, resumed_fresh}
use Rattle.onll_core.proofs.Windows.{threads_count}
use Rattle.onll_core.proofs.FoundLogs.{LogsFit, logs_fit, length_fit, segments_fit, same_threads, are_roomy, each_has_names}

-- A core that goes on from images: from what, that it can go on, and what its code keeps.

-- ---- what it goes on from
module _ {State Op Query Reply : Type 0} where
  of_going : (initial : State) (heads : List LogHead) (scripts : List (List (Call State Op Query Reply))) (r : Result Found ResumeFault) (c : CoreState State Op Query Reply) → going_on initial heads scripts r ≡ Ok c
      → (f : Found) × (r ≡ Ok f) × (unless (too_many (length heads) f.nodes 0 (map log_counts f.logs) scripts) (resumed_core initial f.nodes heads (entries_of f.logs) scripts) ≡ Ok c)
  of_going initial heads scripts (Ok f) c h = (f, refl, h)
  of_going initial heads scripts (Err e) c h = absurd (cc)

  of_unless : (o : Option ResumeFault) (v c : CoreState State Op Query Reply) → unless o v ≡ Ok c → (o ≡ None) × (v ≡ c)
  of_unless None v c h = (refl, (cc))
  of_unless (Some e) v c h = absurd (cc)

  -- a core that goes on from images goes on from what was found, with room
  pub record GoesOnFrom (b : Behaviour State Op Query Reply) (heads : List LogHead) (initial : State) (images : List (List (List ℕ))) (scripts : List (List (Call State Op Query Reply))) (c : CoreState State Op Query Reply) : Type 0 where
    pub found : Found
    pub is : found_in b heads images ≡ Ok found
    pub room : too_many (length heads) found.nodes 0 (map log_counts found.logs) scripts ≡ None
    pub core : resumed_core initial found.nodes heads (entries_of found.logs) scripts ≡ c

  pub goes_on_from : (b : Behaviour State Op Query Reply) (code : ℕ) (init : List ℕ) (initial : State) (images : List (List (List ℕ))) (scripts : List (List (Call State Op Query Reply))) (c : CoreState State Op Query Reply) → resumed b code init initial images scripts ≡ Ok c
      → GoesOnFrom b (created_heads code init scripts) initial images scripts c
  goes_on_from b code init initial images scripts c h =
      let x = of_going initial (created_heads code init scripts) scripts (found_in b (created_heads code init scripts) images) c h in
      let y = of_unless _ _ c x.2 in
      record { found = x.0; is = x.1; room = y.0; core = y.1 }

-- ---- it can go on
module _ {State Op Query Reply : Type 0} (b : Behaviour State Op Query Reply) (code : ℕ) (init : List ℕ) (initial : State) (scripts : List (List (Call State Op Query Reply))) (within : IsWithinLimits code scripts)
    (images : List (List (List ℕ))) (eight : AllByRecursion AreLines images) (as_many : length images ≡ length scripts) (f : Found) (h : HasFound b (created_heads code init scripts) images f)
    (room : too_many (length (created_heads code init scripts)) f.nodes 0 (map log_counts f.logs) scripts ≡ None) where
  abbrev heads : List LogHead
  heads = created_heads code init scripts

  long : length heads ≡ length scripts
  long = (are_first initial code init scripts within).all_heads

  threads_each : AllByRecursion (λ (x : LogHead). x.threads ≡ length scripts) heads
  threads_each = all_from (λ (x : LogHead). x.threads ≡ length scripts) heads (λ i x e. ((are_first initial code init scripts within).each_head i x e).threads)

  pub fit : LogsFit heads images f.logs
  fit = logs_fit heads images f.logs (long ∙ sym as_many) eight (contents_are 0 images f.logs h.contents) (merge-back f.nodes heads f.logs h.merged).heads_fit

  pub are_resumed : AreResumed (length scripts) f.nodes heads (entries_of f.logs) scripts
  are_resumed =
      let count : ℕ = length scripts in
      let first = are_first initial code init scripts within in
      let segments = segments_fit count heads images f.logs threads_each fit in
      let all : length f.logs ≡ count = length_fit heads images f.logs fit ∙ long in
      let on = can_go_on count f.nodes heads f.logs h.merged all segments in
      record {
        few = within.few;
        rows = all_map (FitsNode count) (λ (n : Node). length n.row.w ≡ 7) f.nodes (λ n k. k.row) on.fit;
        resumable = on.resumable;
        all_heads = long;
        all_scripts = refl;
        each_head = first.each_head;
        each_log = λ t log at. all_at (AllByRecursion (FitsEntry count)) (entries_of f.logs) (each_entries (AllByRecursion (FitsEntry count)) f.logs segments) t log at;
        each_script = λ t script at. let z : 0 + t ≡ t = omega arith in subst (λ (m : ℕ). count_by (is_of_thread m) f.nodes + updates_in script ≤ 4096) z
            (each_has_names (length heads) f.nodes 0 (map log_counts f.logs) scripts (length-map f.logs log_counts ∙ all) room t script at);
      }

  abbrev core : CoreState State Op Query Reply
  core = resumed_core initial f.nodes heads (entries_of f.logs) scripts

  pub roomy : HaveLogRoom heads images (map log_counts f.logs) scripts
  roomy = are_roomy (length heads) f.nodes 0 heads images f.logs scripts fit (sym long) (subst (λ (n : ℕ). AllByRecursion (λ (x : LogHead). x.threads ≡ n) heads) (sym long) threads_each) (omega (arith, long, within.few)) within.updates room

  threads_are : found_threads heads images (map log_counts f.logs) scripts ≡ core.threads
  threads_are = same_threads heads images f.logs scripts fit

  consistent : IsConsistent (length scripts) core
  consistent = resumed_consistent (length scripts) initial f.nodes heads (entries_of f.logs) scripts are_resumed

  count_threads : length core.threads ≡ length scripts
  count_threads = threads_count (length scripts) core consistent

  length_locals : (object : State) (t n : ℕ) → length (locals_from {Op = Op} {Query = Query} {Reply = Reply} object f.nodes t n) ≡ n
  length_locals object t zero = refl
  length_locals object t (suc n) = ap suc (length_locals object (suc t) n)

  local_at : (object : State) (t n u : ℕ) (l : Local State Op Query Reply) → slice_get (locals_from object f.nodes t n) u ≡ Some l → record { object = object; place = length f.nodes; linked = count_by (is_of_thread (t + u)) f.nodes } ≡ l
  local_at object t zero u l e = some_not_none l (sym e)
  local_at object t (suc n) zero l e = let z : t + 0 ≡ t = omega arith in ap (λ (m : ℕ). record { object = object; place = length f.nodes; linked = count_by (is_of_thread m) f.nodes }) z ∙ same_some _ l e
  local_at object t (suc n) (suc u) l e = let z : t + suc u ≡ suc t + u = omega arith in ap (λ (m : ℕ). record { object = object; place = length f.nodes; linked = count_by (is_of_thread m) f.nodes }) z ∙ local_at object (suc t) n u l e

  keeps : (object : State) → object ≡ state_after b initial f.nodes → KeepsCore b (4096 * length scripts) (4096 * length scripts) (locals_from object f.nodes 0 (length scripts)) core
  keeps object is =
      let fresh = resumed_fresh initial f.nodes heads (entries_of f.logs) scripts in
      record {
        consistent = subst (λ (n : ℕ). IsConsistent n core) (sym count_threads) consistent;
        reached = subst (λ (n : ℕ). IsReached b n core) (sym count_threads) (resumed_reached b (length scripts) initial f.nodes heads (entries_of f.logs) scripts are_resumed);
        own = λ u v e op p call place. some_not_none p (sym place ∙ ap own_place (fresh.idle u v e));
        nodes_room = subst (λ (n : ℕ). 4096 * n ≤ 4096 * length scripts) (sym count_threads) (omega arith);
        flags_room = subst (λ (n : ℕ). 4096 * n ≤ 4096 * length scripts) (sym count_threads) (omega arith);
        as_many = length_locals object 0 (length scripts) ∙ sym count_threads;
        replicas = λ u v e l le. subst (IsLocal b core u v) (local_at object 0 (length scripts) u l le) (record {
          state = is ∙ ap (state_after b initial) (sym (take_all (length f.nodes) f.nodes (omega arith)));
          seen = subst (λ (rs : List (Returned State Op Query Reply)). length f.nodes ≤ seen_in (length f.nodes) rs) (sym (fresh.returned u v e)) (omega arith);
          linked = let z : 0 + u ≡ u = omega arith in ap (λ (m : ℕ). count_by (is_of_thread m) f.nodes) z;
        });
      }

-- ---- as the code makes it
module _ {State Op Query Reply : Type 0} (b : Behaviour State Op Query Reply) (code : ℕ) (init : List ℕ) (initial : State) (scripts : List (List (Call State Op Query Reply))) (within : IsWithinLimits code scripts)
    (images : List (List (List ℕ))) (eight : AllByRecursion AreLines images) (as_many : length images ≡ length scripts) (hs : List LogHead) (heads_are : hs ≡ created_heads code init scripts) (r : Recovered) (found : IsFound (found_in b hs images) r) where
  abbrev the_heads : List LogHead
  the_heads = created_heads code init scripts

  is_found : found_in b the_heads images ≡ Ok found.all
  is_found = subst (λ (x : List LogHead). found_in b x images ≡ Ok found.all) heads_are found.is

  logs_told : r.logs ≡ map log_counts found.all.logs
  logs_told = ap (λ (x : Recovered). x.logs) found.told

  nodes_told : r.nodes ≡ found.all.nodes
  nodes_told = ap (λ (x : Recovered). x.nodes) found.told

  pub logs_many : length r.logs ≡ length scripts
  logs_many =
      let h = has_found b the_heads images found.all is_found in
      let m : length found.all.logs ≡ length images = sym (length-map found.all.logs Some) ∙ (ap length (sym (contents_are 0 images found.all.logs h.contents)) ∙ length-map images _) in
      ap length logs_told ∙ (length-map found.all.logs log_counts ∙ (m ∙ as_many))

  heads_long : length the_heads ≡ length scripts
  heads_long = (are_first initial code init scripts within).all_heads

  told_room : (n : ℕ) → n ≡ length scripts → too_many n r.nodes 0 r.logs scripts ≡ too_many (length the_heads) found.all.nodes 0 (map log_counts found.all.logs) scripts
  told_room n e = let m = e ∙ sym heads_long in let a = nodes_told in let l = logs_told in λ i. too_many (m i) (a i) 0 (l i) scripts

  pub refused : (n : ℕ) (e : ResumeFault) → n ≡ length scripts → too_many n r.nodes 0 r.logs scripts ≡ Some e → resumed b code init initial images scripts ≡ Err e
  refused n e size some = ap (going_on initial the_heads scripts) is_found ∙ ap (λ (o : Option ResumeFault). unless o (resumed_core initial found.all.nodes the_heads (entries_of found.all.logs) scripts)) (sym (told_room n size) ∙ some)

  module _ (n : ℕ) (size : n ≡ length scripts) (none : too_many n r.nodes 0 r.logs scripts ≡ None) where
    the_room : too_many (length the_heads) found.all.nodes 0 (map log_counts found.all.logs) scripts ≡ None
    the_room = sym (told_room n size) ∙ none

    pub made_roomy : HaveLogRoom hs images r.logs scripts
    made_roomy =
        let a = sym heads_are in
        let l = sym logs_told in
        subst (λ (x : List LogHead × List LogCounts). HaveLogRoom x.0 images x.1 scripts) (λ i. (a i, l i)) (roomy b code init initial scripts within images eight as_many found.all (has_found b the_heads images found.all is_found) the_room)

    module _ (object : State) (after : object ≡ state_after b initial r.nodes) (base nodes flags : ℕ) (trace : List Node) (fs : List Bool) (threads : List (CoreThread State Op Query Reply)) (locals : List (Local State Op Query Reply))
        (base_is : base ≡ length r.nodes) (trace_is : (trace ≡ r.nodes) × (4096 * n ≤ nodes)) (flags_are : (fs ≡ replicate base true) × (4096 * n ≤ flags))
        (threads_made : threads ≡ found_threads hs images r.logs scripts) (locals_made : locals ≡ locals_from object r.nodes 0 n) where
      abbrev the_core : CoreState State Op Query Reply
      the_core = resumed_core initial found.all.nodes the_heads (entries_of found.all.logs) scripts

      same_core : the_core ≡ record { initial = initial; base = base; trace = trace; flags = fs; clock = 0; threads = threads }
      same_core =
          let base_same : length found.all.nodes ≡ base = sym (base_is ∙ ap length nodes_told) in
          let trace_same : found.all.nodes ≡ trace = sym (trace_is.0 ∙ nodes_told) in
          let flags_same : replicate (length found.all.nodes) true ≡ fs = ap (λ (m : ℕ). replicate m true) base_same ∙ sym flags_are.0 in
          let a = heads_are in
          let l = logs_told in
          let ths : the_core.threads ≡ threads = sym (threads_made ∙ ((λ i. found_threads (a i) images (l i) scripts) ∙ threads_are b code init initial scripts within images eight as_many found.all (has_found b the_heads images found.all is_found) the_room)) in
          λ i. record { initial = initial; base = base_same i; trace = trace_same i; flags = flags_same i; clock = 0; threads = ths i }

      pub made_keeps : KeepsCore b nodes flags locals (record { initial = initial; base = base; trace = trace; flags = fs; clock = 0; threads = threads })
      made_keeps =
          let k = keeps b code init initial scripts within images eight as_many found.all (has_found b the_heads images found.all is_found) the_room object (after ∙ ap (state_after b initial) nodes_told) in
          let a = nodes_told in
          let same_locals : locals_from object found.all.nodes 0 (length scripts) ≡ locals = sym (locals_made ∙ (λ i. locals_from object (a i) 0 (size i))) in
          let core = same_core in
          let k' = subst (λ (x : List (Local State Op Query Reply) × CoreState State Op Query Reply). KeepsCore b (4096 * length scripts) (4096 * length scripts) x.0 x.1) (λ i. (same_locals i, core i)) k in
          let low = k'.nodes_room in
          let flag_low = k'.flags_room in
          let t = trace_is.1 in
          let g = flags_are.1 in
          record {
            consistent = k'.consistent;
            reached = k'.reached;
            own = k'.own;
            nodes_room = omega arith;
            flags_room = omega arith;
            as_many = k'.as_many;
            replicas = k'.replicas;
          }

      pub made_is : resumed b code init initial images scripts ≡ Ok (record { initial = initial; base = base; trace = trace; flags = fs; clock = 0; threads = threads })
      made_is = ap (going_on initial the_heads scripts) is_found ∙ (ap (λ (o : Option ResumeFault). unless o the_core) the_room ∙ ap Ok same_core)
