use Rattle.std.proofs.Common.{ℕ, zero, suc, ◌≡◌, ◌+◌, ◌==◌, inl, inr, Bool, true, false, List, [], ◌∷◌, length, map, take, Option, Some, None, Result, Ok, Err, IsSome, sym, refl, ap, ◌∙◌, subst, arith, count_by, eq-eqb}
use Rattle.std.specs.Prelude.{if◌then◌else◌, IfSome}
use Rattle.std.specs.List.{AllByRecursion, slice_get}
use Rattle.std.proofs.lemmas.List.{length-map, take_at}
use Rattle.std.proofs.lemmas.Bool.{ne_eqb}
use Rattle.onll_model.specs.declared.node.Node.{Node}
use Rattle.onll_model.specs.declared.call.Call.{Call}
use Rattle.onll_model.specs.Object.{Behaviour}
use Rattle.onll_model.specs.Recovered.{where_some, operations_front}
use Rattle.onll_model.specs.Trace.{is_of_thread}
use Rattle.onll_model.specs.Calls.{updates_in}
use Rattle.onll_model.proofs.Lists.{all_from}
use Rattle.onll_pmem.specs.Device.{MixedWords, Mixed}
use Rattle.onll_log.specs.declared.head.LogHead.{LogHead}
use Rattle.onll_log.specs.Grammar.{Content, content_of}
use Rattle.onll_log.specs.Torn.{AreLines}
use Rattle.onll_log.proofs.Lines.{AreLines-log_image}
use Rattle.onll_merge.specs.declared.counts.LogCounts.{LogCounts}
use Rattle.onll_merge.specs.Merge.{unless}
use Rattle.onll_merge.specs.Laws.{HeadsFit}
use Rattle.onll_merge.specs.Recovered.{log_counts}
use Rattle.onll_merge.proofs.Images.{their_contents}
use Rattle.onll_merge.proofs.Backs.{merge-back}
use Rattle.onll_start.specs.declared.fault.ResumeFault.{ResumeFault}
use Rattle.onll_start.specs.declared.fault.ResumeFault.TheVariants.{OldFormat, NotOp, TooMany}
use Rattle.onll_start.specs.Heads.{created_heads}
use Rattle.onll_start.specs.Start.{Found, is_old, old_format, found_merged, found_newer, found_logs, found_in, is_too_many, too_many}
use Rattle.onll_start.proofs.Finding.{has_found, whole_operations}
use Rattle.onll_core.specs.Core.{CoreThread, CoreState}
use Rattle.onll_core.specs.Step.{steps_of}
use Rattle.onll_core.specs.Consistent.{IsConsistent}
use Rattle.onll_core.specs.Created.{created_core, IsWithinLimits}
use Rattle.onll_log.specs.Head.{heads_from}
use Rattle.onll_core.specs.Resume.{going_on, resumed}
use Rattle.onll_core.specs.Crash.{AreImages, RecoversAll}
use Rattle.onll_core.specs.Durable.{CoreGoesOn}
use Rattle.onll_core.specs.Generations.{Generation, IsGeneration, AreGenerations, LeavesAll, GenerationsLaw, PrefixLaw, OnlyTooManyLaw}
use Rattle.onll_core.proofs.Created.{are_first}
use Rattle.onll_core.proofs.Operations.{AllOperations, steps_operations}
use Rattle.onll_core.proofs.Stays.{steps_stay}
use Rattle.onll_core.proofs.ReachedCores.{steps_reached, reached_consistent}
use Rattle.onll_core.proofs.Crashed.{images_many}
use Rattle.onll_core.proofs.Recovered.{later}
use Rattle.onll_core.proofs.Windows.{threads_count}
use Rattle.onll_core.proofs.FoundCores.{goes_on_from}
use Rattle.onll_core.proofs.Durable.{StartsSo, begun_starts}

-- What any number of generations leave.

-- ---- lines
mixed_line : (xs ys zs : List ℕ) → MixedWords xs ys zs → length zs ≡ length xs
mixed_line [] [] [] m = refl
mixed_line [] [] (z ∷ zs) m = absurd m
mixed_line [] (y ∷ ys) zs m = absurd m
mixed_line (x ∷ xs) [] zs m = absurd m
mixed_line (x ∷ xs) (y ∷ ys) [] m = absurd m
mixed_line (x ∷ xs) (y ∷ ys) (z ∷ zs) m = ap suc (mixed_line xs ys zs m.1)

mixed_lines : (xs ys zs : List (List ℕ)) → Mixed xs ys zs → AreLines xs → AreLines zs
mixed_lines [] [] [] m h = tt
mixed_lines [] [] (z ∷ zs) m h = absurd m
mixed_lines [] (y ∷ ys) zs m h = absurd m
mixed_lines (x ∷ xs) [] zs m h = absurd m
mixed_lines (x ∷ xs) (y ∷ ys) [] m h = absurd m
mixed_lines (x ∷ xs) (y ∷ ys) (z ∷ zs) m h = (mixed_line x y z m.0 ∙ h.0, mixed_lines xs ys zs m.1 h.1)

-- ---- heads
no_old : (i : ℕ) (logs : List Content) (heads : List LogHead) → length logs ≡ length heads → HeadsFit logs heads → AllByRecursion (λ (h : LogHead). h.format ≡ 2) heads → old_format i logs ≡ None
no_old i [] heads n f h = refl
no_old i (c ∷ cs) [] n f h = absurd (omega arith)
no_old i (c ∷ cs) (head ∷ heads) n f h = ap (λ (q : Bool). if q then Some (OldFormat i) else old_format (i + 1) cs) (newer c.head f.0) ∙ no_old (i + 1) cs heads (omega arith) f.1 h.1
  where
    newer : (o : Option LogHead) → IfSome o (λ x. x ≡ head) → is_old o ≡ false
    newer None e = refl
    newer (Some x) e = let two : x.format ≡ 2 = ap (λ (y : LogHead). y.format) e ∙ h.0 in let other : (x.format ≡ 1) → ⊥ = λ z. omega arith in ne_eqb x.format 1 other

module _ {State Op Query Reply : Type 0} (b : Behaviour State Op Query Reply) where
  -- ---- rows
  front_whole : (nodes : List Node) → AllOperations b nodes → operations_front b nodes ≡ nodes
  front_whole [] h = refl
  front_whole (n ∷ nodes) h = by_row (b.op_at n.row) h.0 ∙ ap (λ (l : List Node). n ∷ l) (front_whole nodes h.1)
    where
      by_row : (o : Option Op) → IsSome o → where_some o (n ∷ operations_front b nodes) ≡ n ∷ operations_front b nodes
      by_row None e = absurd (cc)
      by_row (Some op) e = refl

  all_taken : (m : ℕ) (nodes : List Node) → AllOperations b nodes → AllOperations b (take m nodes)
  all_taken zero nodes h = tt
  all_taken (suc m) [] h = tt
  all_taken (suc m) (n ∷ nodes) h = (h.0, all_taken m nodes h.1)

  -- ---- images
  images_lines : (ths : List (CoreThread State Op Query Reply)) (images : List (List (List ℕ))) → AreImages ths images → ((t : ℕ) (th : CoreThread State Op Query Reply) → slice_get ths t ≡ Some th → AreLines th.device.fenced) → AllByRecursion AreLines images
  images_lines [] [] a h = tt
  images_lines [] (image ∷ images) a h = absurd a
  images_lines (th ∷ ths) [] a h = absurd a
  images_lines (th ∷ ths) (image ∷ images) a h = (mixed_lines th.device.fenced th.device.read image a.0 (h 0 th refl), images_lines ths images a.1 (λ t w e. h (suc t) w e))

  left_lines : (count : ℕ) (c : CoreState State Op Query Reply) (images : List (List (List ℕ))) → IsConsistent count c → AreImages c.threads images → AllByRecursion AreLines images
  left_lines count c images k a = images_lines c.threads images a (λ t th at. let tie = k.tied t th at in subst AreLines (sym tie.fenced) (AreLines-log_image th.head tie.log _ tie.head tie.fits))

  -- ---- what images of a core give
  module _ (code : ℕ) (init : List ℕ) (initial : State) where
    gives_all : (scripts : List (List (Call State Op Query Reply))) (within : IsWithinLimits code scripts) (first : CoreState State Op Query Reply) (ts : List ℕ) (images : List (List (List ℕ))) → StartsSo b (created_heads code init scripts) initial scripts first
        → AllOperations b first.trace → AreImages (steps_of b first ts).threads images → (all : RecoversAll b (created_heads code init scripts) (steps_of b first ts) images)
        → found_in b (created_heads code init scripts) images ≡ Ok (record { logs = all.recovers.logs; nodes = all.recovers.nodes })
    gives_all scripts within first ts images s rows left all =
        let heads = created_heads code init scripts in
        let c = steps_of b first ts in
        let r = all.recovers in
        let is_first = are_first initial code init scripts within in
        let contents = their_contents 0 images r.logs r.contents in
        let k = reached_consistent b (length scripts) c (steps_reached b (length scripts) first ts s.reached) in
        let many : length r.logs ≡ length heads = sym (length-map r.logs Some) ∙ (ap length (sym r.contents) ∙ (length-map images content_of ∙ (images_many c.threads images left ∙ (threads_count (length scripts) c k ∙ sym is_first.all_heads)))) in
        let formats = all_from (λ (h : LogHead). h.format ≡ 2) heads (λ i x e. (is_first.each_head i x e).format) in
        let newer = no_old 0 r.logs heads many (merge-back r.nodes heads r.logs r.recovered).heads_fit formats in
        let operations : AllOperations b r.nodes = subst (AllOperations b) (sym r.front) (all_taken _ c.trace (steps_operations b first ts rows)) in
        let whole : length (operations_front b r.nodes) ≡ length r.nodes = ap length (front_whole r.nodes operations) in
        ap (found_logs b heads) contents ∙ (ap (found_newer b heads r.logs) newer ∙ (ap (found_merged b heads r.logs) r.recovered
        ∙ (ap (λ (n : ℕ). if n == length r.nodes then Ok (record { logs = r.logs; nodes = r.nodes }) else Err (NotOp (n + 1))) whole
        ∙ ap (λ (q : Bool). if q then Ok (record { logs = r.logs; nodes = r.nodes }) else Err (NotOp (length r.nodes + 1))) (same_test (length r.nodes)))))
      where
        same_test : (n : ℕ) → (n == n) ≡ true
        same_test n = eq-eqb n n refl

    -- ---- generations
    -- how a generation starts
    pub record Starts (count : ℕ) (older : List (Generation State Op Query Reply)) (g : Generation State Op Query Reply) (is : IsGeneration b code init initial count older g) : Type 0 where
      pub starts : StartsSo b (created_heads code init g.scripts) initial g.scripts is.core
      pub rows : AllOperations b is.core.trace

    pub generation_starts : (count : ℕ) (older : List (Generation State Op Query Reply)) (g : Generation State Op Query Reply) (is : IsGeneration b code init initial count older g) → AreGenerations b code init initial count older → Starts count older g is
    generation_starts count [] g is all =
        let e : created_core initial code init g.scripts ≡ is.core = (let same = is.begun in cc) in record {
          starts = begun_starts b code init initial g.scripts is.within is.core (inl e);
          rows = subst (λ (z : CoreState State Op Query Reply). AllOperations b z.trace) e tt;
        }
    generation_starts count (h ∷ older) g is all =
        let before = generation_starts count older h all.0 all.1 in
        let c = steps_of b all.0.core h.steps in
        let k = reached_consistent b (length h.scripts) c (steps_reached b (length h.scripts) all.0.core h.steps before.starts.reached) in
        let many : length h.images ≡ length g.scripts = images_many c.threads h.images all.0.left ∙ (threads_count (length h.scripts) c k ∙ (all.0.many ∙ sym is.many)) in
        let goes : CoreGoesOn b code init initial g.scripts is.core = record { images = h.images; lines = left_lines (length h.scripts) c h.images k all.0.left; as_many = many; resumed = is.begun } in
        let from = goes_on_from b code init initial h.images g.scripts is.core is.begun in
        let found = has_found b (created_heads code init g.scripts) h.images from.found from.is in record {
          starts = begun_starts b code init initial g.scripts is.within is.core (inr goes);
          rows = subst (λ (z : CoreState State Op Query Reply). AllOperations b z.trace) from.core (whole_operations b from.found.nodes found.rows);
        }

    -- what a generation leaves, with any heads
    record LeavesWith (heads : List LogHead) (c : CoreState State Op Query Reply) (images : List (List (List ℕ))) (base : List Node) : Type 0 where
      pub found : Found
      pub gives : found_in b heads images ≡ Ok found
      pub all : RecoversAll b heads c images
      pub nodes : all.recovers.nodes ≡ found.nodes
      pub front : take (length base) found.nodes ≡ base

    same_heads : (count : ℕ) (scripts : List (List (Call State Op Query Reply))) → length scripts ≡ count → created_heads code init scripts ≡ heads_from count code init 0 count
    same_heads count scripts e = ap (λ (n : ℕ). heads_from n code init 0 n) e

    leaves_all : (count : ℕ) (older : List (Generation State Op Query Reply)) (g : Generation State Op Query Reply) (is : IsGeneration b code init initial count older g) → AreGenerations b code init initial count older → LeavesAll b code init initial count older g is
    leaves_all count older g is earlier =
        let starts = generation_starts count older g is earlier in
        let s = starts.starts in
        let c = steps_of b is.core g.steps in
        let all = later b (length g.scripts) is.core g.steps (created_heads code init g.scripts) g.images s.reached s.heads_are is.left in
        let stays = steps_stay b is.core g.steps in
        let long : c.base ≡ length is.core.trace = stays.base ∙ s.base_is in
        let front : take (length is.core.trace) all.recovers.nodes ≡ is.core.trace =
        subst (λ (n : ℕ). take n all.recovers.nodes ≡ take n c.trace) long all.recovers.from_base.same ∙ (ap (take (length is.core.trace)) stays.trace.1 ∙ take_at is.core.trace stays.trace.0 (length is.core.trace) refl) in
        let x = subst (λ (heads : List LogHead). LeavesWith heads c g.images is.core.trace) (same_heads count g.scripts is.many) (record {
          found = record { logs = all.recovers.logs; nodes = all.recovers.nodes };
          gives = gives_all g.scripts is.within is.core g.steps g.images s starts.rows is.left all;
          all = all;
          nodes = refl;
          front = front;
        }) in
        record { found = x.found; gives = x.gives; all = x.all; nodes = x.nodes; front = x.front }

    same_found : (r : Result Found ResumeFault) (x y : Found) → r ≡ Ok x → r ≡ Ok y → x ≡ y
    same_found r x y e f = let same : Ok x ≡ Ok y = sym e ∙ f in (cc)

    front_kept : (count : ℕ) (older : List (Generation State Op Query Reply)) (g next : Generation State Op Query Reply) (earlier later : Found) → AreGenerations b code init initial count (next ∷ g ∷ older)
        → found_in b (heads_from count code init 0 count) g.images ≡ Ok earlier → found_in b (heads_from count code init 0 count) next.images ≡ Ok later → take (length earlier.nodes) later.nodes ≡ earlier.nodes
    front_kept count older g next earlier later all e l =
        let is = all.0 in
        let from = goes_on_from b code init initial g.images next.scripts is.core is.begun in
        let here : found_in b (heads_from count code init 0 count) g.images ≡ Ok from.found = subst (λ (heads : List LogHead). found_in b heads g.images ≡ Ok from.found) (same_heads count next.scripts is.many) from.is in
        let begins : is.core.trace ≡ earlier.nodes = ap (λ (z : CoreState State Op Query Reply). z.trace) (sym from.core) ∙ ap (λ (f : Found). f.nodes) (same_found _ from.found earlier here e) in
        let left = leaves_all count (g ∷ older) next is all.1 in
        let ends : left.found.nodes ≡ later.nodes = ap (λ (f : Found). f.nodes) (same_found _ left.found later left.gives l) in
        subst (λ (x : List Node × List Node). take (length x.0) x.1 ≡ x.0) (λ i. (begins i, ends i)) left.front

    -- ---- refusals
    too_many_is : (threads : ℕ) (nodes : List Node) (t : ℕ) (logs : List LogCounts) (scripts : List (List (Call State Op Query Reply))) (e : ResumeFault) → too_many threads nodes t logs scripts ≡ Some e → (thread : ℕ) × (e ≡ TooMany thread)
    too_many_is threads nodes t [] scripts e h = absurd (cc)
    too_many_is threads nodes t (log ∷ logs) [] e h = absurd (cc)
    too_many_is threads nodes t (log ∷ logs) (script ∷ scripts) e h = by_test (is_too_many threads (count_by (is_of_thread t) nodes) log.lines (updates_in script)) (too_many_is threads nodes (t + 1) logs scripts e) h
      where
        by_test : (q : Bool) → (too_many threads nodes (t + 1) logs scripts ≡ Some e → (thread : ℕ) × (e ≡ TooMany thread)) → (if q then Some (TooMany t) else too_many threads nodes (t + 1) logs scripts) ≡ Some e → (thread : ℕ) × (e ≡ TooMany thread)
        by_test true rest x = (t, (cc))
        by_test false rest x = rest x

    unless_err : {A : Type 0} (o : Option ResumeFault) (v : A) (e : ResumeFault) → unless o v ≡ Err e → o ≡ Some e
    unless_err None v e h = absurd (cc)
    unless_err (Some x) v e h = (cc)

    only_too_many : (count : ℕ) (older : List (Generation State Op Query Reply)) (g : Generation State Op Query Reply) (scripts : List (List (Call State Op Query Reply))) (e : ResumeFault) → AreGenerations b code init initial count (g ∷ older) → length scripts ≡ count
        → resumed b code init initial g.images scripts ≡ Err e → (thread : ℕ) × (e ≡ TooMany thread)
    only_too_many count older g scripts e all many refused =
        let heads = created_heads code init scripts in
        let left = leaves_all count older g all.0 all.1 in
        let f = left.found in
        let gives : found_in b heads g.images ≡ Ok f = subst (λ (hs : List LogHead). found_in b hs g.images ≡ Ok f) (sym (same_heads count scripts many)) left.gives in
        let none = sym (ap (going_on initial heads scripts) gives) ∙ refused in
        too_many_is (length heads) f.nodes 0 (map log_counts f.logs) scripts e (unless_err _ _ e none)

  pub generations_leave : GenerationsLaw b
  generations_leave code init initial count older g is earlier = leaves_all code init initial count older g is earlier

  pub prefixes : PrefixLaw b
  prefixes code init initial count older g next earlier later all e l = front_kept code init initial count older g next earlier later all e l

  pub refused_only : OnlyTooManyLaw b
  refused_only code init initial count older g scripts e all many refused = only_too_many code init initial count older g scripts e all many refused
