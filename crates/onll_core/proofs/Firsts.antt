use Rattle.std.proofs.Common.{ℕ, zero, suc, ◌≡◌, ◌+◌, ◌*◌, ◌≤◌, Bool, List, [], ◌∷◌, ◌++◌, length, map, replicate, Some, sym, refl, ap, ◌∙◌, subst, arith, append_assoc}
use Rattle.onll_model.specs.Limits.{greatest_code}
use Rattle.std.specs.List.{slice_get, All}
use Rattle.std.proofs.lemmas.List.{length-set, length-replicate, length-map}
use Rattle.std.proofs.lemmas.List.Elements.{All-head, All-tail}
use Rattle.onll_model.specs.declared.call.Call.{Call}
use Rattle.onll_model.specs.Object.{Behaviour}
use Rattle.onll_model.proofs.Lists.{same_some, some_not_none}
use Rattle.std.specs.List.{AllByRecursion}
use Rattle.onll_pmem.specs.Device.{zero_lines}
use Rattle.onll_pmem.specs.Memory.{MemoryState}
use Rattle.onll_log.specs.declared.head.LogHead.{LogHead}
use Rattle.onll_log.specs.Head.{head_for, head_line, heads_from}
use Rattle.onll_core.specs.declared.phase.Phase.TheVariants as phases
use Rattle.onll_core.specs.declared.local.Local.{Local}
use Rattle.onll_core.specs.Core.{CoreThread, CoreState}
use Rattle.onll_core.specs.First.{first_device, first_thread, first_threads}
use Rattle.onll_core.specs.Created.{created_core, IsWithinLimits}
use Rattle.onll_model.specs.declared.node.Node.{Node}
use Rattle.onll_model.specs.Calls.{updates_in}
use Rattle.onll_core.specs.Consistent.{IsConsistent}
use Rattle.onll_core.proofs.Windows.{threads_count}
use Rattle.onll_core.specs.Reached.{IsReached}
use Rattle.onll_core.specs.Kept.{own_place, KeepsWorker, IsLocal, KeepsCore}
use Rattle.onll_core.proofs.Created.{created_consistent}
use Rattle.onll_core.proofs.ReachedCores.{created_reached}

-- What the code of a core keeps before any step.

-- a thread that has done nothing
pub first_worker : {State Op Query Reply : Type 0} (head : LogHead) (script : List (Call State Op Query Reply)) (lines most : ℕ) (device : MemoryState) → device ≡ record { device = first_device head lines; failing = [] }
    → 1 ≤ lines → lines ≤ 1000000 → length script ≤ most
    → KeepsWorker {State = State} {Op = Op} {Query = Query} {Reply = Reply} device.failing most (record { head = head; script = script; returned = []; phase = phases.Idle; began = 0; used = 1; logged = 0; before = 1; device = device.device })
first_worker head script lines most device is one few room =
    let size : length device.device.read ≡ lines = ap (λ (m : MemoryState). length m.device.read) is ∙ (length-set (zero_lines lines) 0 (head_line head) ∙ length-replicate lines _) in
    record {
      never_fails = ap (λ (m : MemoryState). m.failing) is;
      room = room;
      lines = omega arith;
      fences = let e = ap (λ (m : MemoryState). m.device.fences) is in omega arith;
      few = let e = ap (λ (m : MemoryState). m.device.fences) is in omega arith;
      entries = omega arith;
      within = omega arith;
    }

-- one more thread is made
pub one_made : {State Op Query Reply A : Type 0} (f : A → List (Call State Op Query Reply)) (count object : ℕ) (init : List ℕ) (t : ℕ) (made made' : List (CoreThread State Op Query Reply)) (x : A) (left before : List A) (w : CoreThread State Op Query Reply)
    → before ≡ x ∷ left → w ≡ first_thread (head_for 2 t count object init) (f x) → made' ≡ made ++ w ∷ []
    → made' ++ first_threads (heads_from count object init (t + 1) (length left)) (map f left) ≡ made ++ first_threads (heads_from count object init t (length before)) (map f before)
one_made {State} {Op} {Query} {Reply} {A} f count object init t made made' x left before w split w_is made_is =
    let rest : ℕ → List (CoreThread State Op Query Reply) = (λ n. first_threads (heads_from count object init n (length left)) (map f left)) in
    let next : t + 1 ≡ suc t = omega arith in
    ap (λ (ys : List (CoreThread State Op Query Reply)). ys ++ rest (t + 1)) made_is ∙
    (append_assoc made (w ∷ []) (rest (t + 1)) ∙
    ((λ i. made ++ w_is i ∷ rest (next i)) ∙
    ap (λ (xs : List A). made ++ first_threads (heads_from count object init t (length xs)) (map f xs)) (sym split)))

-- ---- a core
module _ {State Op Query Reply : Type 0} where
  idle_first : (heads : List LogHead) (scripts : List (List (Call State Op Query Reply))) (u : ℕ) (v : CoreThread State Op Query Reply) → slice_get (first_threads heads scripts) u ≡ Some v → v.phase ≡ phases.Idle
  idle_first [] scripts u v e = some_not_none v (sym e)
  idle_first (h ∷ heads) [] u v e = some_not_none v (sym e)
  idle_first (h ∷ heads) (s ∷ scripts) zero v e = sym (ap (λ (z : CoreThread State Op Query Reply). z.phase) (same_some (first_thread h s) v e))
  idle_first (h ∷ heads) (s ∷ scripts) (suc u) v e = idle_first heads scripts u v e

at_replicate : {A : Type 0} (n : ℕ) (x y : A) (i : ℕ) → slice_get (replicate n x) i ≡ Some y → x ≡ y
at_replicate zero x y i e = some_not_none y (sym e)
at_replicate (suc n) x y zero e = same_some x y e
at_replicate (suc n) x y (suc i) e = at_replicate n x y i e

module _ {State Op Query Reply : Type 0} (b : Behaviour State Op Query Reply) (initial : State) (object : ℕ) (init : List ℕ) (scripts : List (List (Call State Op Query Reply))) (l : IsWithinLimits object scripts) where
  abbrev first : CoreState State Op Query Reply
  first = created_core initial object init scripts

  abbrev new_local : Local State Op Query Reply
  new_local = record { object = initial; place = 0; linked = 0 }

  count : length first.threads ≡ length scripts
  count = threads_count (length scripts) first (created_consistent initial object init scripts l)

  first_keeps : KeepsCore b (4096 * length scripts) (4096 * length scripts) (replicate (length scripts) new_local) first
  first_keeps = record {
    consistent = subst (λ (n : ℕ). IsConsistent n first) (sym count) (created_consistent initial object init scripts l);
    reached = subst (λ (n : ℕ). IsReached b n first) (sym count) (created_reached b initial object init scripts l);
    own = λ u v e op p call place. some_not_none p (sym place ∙ ap own_place (idle_first (heads_from (length scripts) object init 0 (length scripts)) scripts u v e));
    nodes_room = subst (λ (n : ℕ). 4096 * n ≤ 4096 * length scripts) (sym count) (omega arith);
    flags_room = subst (λ (n : ℕ). 4096 * n ≤ 4096 * length scripts) (sym count) (omega arith);
    as_many = length-replicate (length scripts) new_local ∙ sym count;
    replicas = λ u v e o oe. subst (IsLocal b first u v) (at_replicate (length scripts) new_local o u oe) (record { state = refl; seen = omega arith; linked = refl });
  }

  -- as the code makes it
  pub created_keeps : (n : ℕ) → n ≡ length scripts → (nodes flags : ℕ) (trace : List Node) (fs : List Bool) (threads : List (CoreThread State Op Query Reply)) (locals : List (Local State Op Query Reply))
      → (trace ≡ []) × (nodes ≡ 4096 * n) → (fs ≡ []) × (flags ≡ 4096 * n) → threads ≡ first_threads (heads_from n object init 0 n) scripts → locals ≡ replicate n new_local
      → KeepsCore b nodes flags locals (record { initial = initial; base = 0; trace = trace; flags = fs; clock = 0; threads = threads })
  created_keeps n size nodes flags trace fs threads locals t f w o =
      let full = t.1 in
      let full_flags = f.1 in
      let room : 4096 * length scripts ≡ nodes = omega arith in
      let flag_room : 4096 * length scripts ≡ flags = omega arith in
      let ws : first.threads ≡ threads = sym (w ∙ ap (λ (m : ℕ). first_threads (heads_from m object init 0 m) scripts) size) in
      let os : replicate (length scripts) new_local ≡ locals = sym (o ∙ ap (λ (m : ℕ). replicate m new_local) size) in
      let no_nodes : [] ≡ trace = sym t.0 in
      let no_flags : [] ≡ fs = sym f.0 in
      subst (λ (x : ℕ × ℕ × List (Local State Op Query Reply) × List Node × List Bool × List (CoreThread State Op Query Reply)). KeepsCore b x.0 x.1 x.2 (record { initial = initial; base = 0; trace = x.3; flags = x.4; clock = 0; threads = x.5 }))
      (λ i. (room i, flag_room i, os i, no_nodes i, no_flags i, ws i)) first_keeps

-- scripts that the code holds
pub within_limits : {State Op Query Reply A : Type 0} (f : A → List (Call State Op Query Reply)) (object : ℕ) (scripts : List A) → (1 ≤ object) × (object ≤ greatest_code) → length scripts ≤ 16 → All (λ (s : A). updates_in (f s) ≤ 4096) scripts → IsWithinLimits object (map f scripts)
within_limits {State} {Op} {Query} {Reply} {A} f object scripts code few updates = record { code = code; few = omega (arith, length-map scripts f); updates = each scripts updates }
  where
    each : (xs : List A) → All (λ (s : A). updates_in (f s) ≤ 4096) xs → AllByRecursion (λ (script : List (Call State Op Query Reply)). updates_in script ≤ 4096) (map f xs)
    each [] h = tt
    each (x ∷ xs) h = (All-head (λ (s : A). updates_in (f s) ≤ 4096) x xs h, each xs (All-tail (λ (s : A). updates_in (f s) ≤ 4096) x xs h))

-- a log of up to 4,096 updates of up to 16 threads
pub lines_few : (updates threads : ℕ) → updates ≤ 4096 → threads ≤ 16 → 1 + updates * (threads + 1) ≤ 1000000
lines_few updates threads u t = grind arith
