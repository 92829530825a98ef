use Rattle.std.proofs.Common.{ℕ, zero, suc, ◌≡◌, ◌+◌, ◌*◌, ◌≤◌, Bool, true, false, List, [], ◌∷◌, ◌++◌, length, replicate, Some, sym, refl, ap, ◌∙◌, subst, arith, count_by}
use Rattle.std.proofs.lemmas.List.{length-replicate}
use Rattle.std.specs.List.{slice_get}
use Rattle.onll_model.specs.declared.call.Call.{Call}
use Rattle.onll_model.specs.declared.node.Node.{Node}
use Rattle.onll_model.specs.Trace.{is_of_thread}
use Rattle.onll_model.specs.Segment.{Segment}
use Rattle.onll_model.proofs.Lists.{same_some, some_not_none}
use Rattle.onll_model.proofs.FirstFrames.{created_resumable}
use Rattle.onll_model.specs.Calls.{updates_in}
use Rattle.onll_pmem.specs.Device.{zero_line, zero_lines, settled, fenced_device}
use Rattle.onll_log.specs.declared.head.LogHead.{LogHead}
use Rattle.onll_log.specs.Encoding.{log_lines, FitEntries}
use Rattle.onll_start.specs.Start.{lines_for}
use Rattle.onll_core.specs.Core.{CoreThread}
use Rattle.onll_core.specs.Consistent.{IsConsistent}
use Rattle.onll_core.specs.First.{IsHeadOf, first_device, first_thread, first_threads, first_core, AreFirst}
use Rattle.onll_core.specs.Resumed.{resumed_core_thread, resumed_core_threads, resumed_core, AreResumed}
use Rattle.onll_core.specs.Fences.{CountsFences}
use Rattle.onll_core.proofs.Begin.{DeviceHolds, HasBegun, IsBegun, begun_consistent, begun_counts}

-- The first states of a core: of one that begins anew, and of one that goes on.

-- ---- lines
settled_same : (bs : List Bool) (ls : List (List ℕ)) → settled bs ls ls ≡ ls
settled_same [] ls = refl
settled_same (b ∷ bs) [] = refl
settled_same (true ∷ bs) (l ∷ ls) = ap (λ (z : List (List ℕ)). l ∷ z) (settled_same bs ls)
settled_same (false ∷ bs) (l ∷ ls) = ap (λ (z : List (List ℕ)). l ∷ z) (settled_same bs ls)

add_one : (n : ℕ) → n + 1 ≡ suc n
add_one n = omega arith

-- the device of a log that is begun
pub first_device_holds : (head : LogHead) (lines free : ℕ) → lines ≡ suc free → DeviceHolds head [] free (first_device head lines)
first_device_holds head lines free e = subst (λ (n : ℕ). DeviceHolds head [] free (first_device head n)) (sym e) (record {
  fenced = ap (λ (l : List (List ℕ)). log_lines head [] ++ l) (settled_same (replicate free false) (zero_lines free));
  read = refl;
  marks = ap suc (length-replicate free false ∙ sym (length-replicate free zero_line));
})

-- and of one that is found
pub found_device_holds : (head : LogHead) (log : List Segment) (lines free : ℕ) → lines ≡ free → DeviceHolds head log free (fenced_device (log_lines head log ++ zero_lines lines))
found_device_holds head log lines free e = let same = ap (λ (n : ℕ). log_lines head log ++ zero_lines n) e in
    record { fenced = same; read = same; marks = length-replicate (length (log_lines head log ++ zero_lines lines)) false }

of_replicate : {A : Type 0} (n t : ℕ) (x y : A) → slice_get (replicate n x) t ≡ Some y → y ≡ x
of_replicate zero t x y e = some_not_none y (sym e)
of_replicate (suc n) zero x y e = sym (same_some x y e)
of_replicate (suc n) (suc t) x y e = of_replicate n t x y e

module _ {State Op Query Reply : Type 0} where
  -- ---- a core that begins anew
  -- a thread of the first state has its head and its script
  first_at : (heads : List LogHead) (scripts : List (List (Call State Op Query Reply))) (t : ℕ) (th : CoreThread State Op Query Reply) → slice_get (first_threads heads scripts) t ≡ Some th
      → (head : LogHead) × (script : List (Call State Op Query Reply)) × (slice_get heads t ≡ Some head) × (slice_get scripts t ≡ Some script) × (first_thread head script ≡ th)
  first_at [] scripts t th e = some_not_none th (sym e)
  first_at (head ∷ heads) [] t th e = some_not_none th (sym e)
  first_at (head ∷ heads) (script ∷ scripts) zero th e = (head, script, refl, refl, same_some (first_thread head script) th e)
  first_at (head ∷ heads) (script ∷ scripts) (suc t) th e = first_at heads scripts t th e

  pub length-first_threads : (heads : List LogHead) (scripts : List (List (Call State Op Query Reply))) → length heads ≡ length scripts → length (first_threads heads scripts) ≡ length heads
  length-first_threads [] scripts e = refl
  length-first_threads (head ∷ heads) [] e = absurd (omega arith)
  length-first_threads (head ∷ heads) (script ∷ scripts) e = ap suc (length-first_threads heads scripts (omega arith))

  first_has_begun : (count t : ℕ) (head : LogHead) (script : List (Call State Op Query Reply)) → IsHeadOf count t head → updates_in script ≤ 4096 → HasBegun count t [] [] (first_thread head script)
  first_has_begun count t head script h few =
      let one : head.threads + 1 ≡ suc head.threads = omega arith in
      record {
        head = h;
        fits = tt;
        returned = refl;
        phase = refl;
        used = refl;
        logged = refl;
        device = first_device_holds head (lines_for (updates_in script) head.threads) (updates_in script * suc head.threads) (after_one (updates_in script * (head.threads + 1)) ∙ ap (λ (n : ℕ). suc (updates_in script * n)) one);
        fenced = refl;
        low = omega arith;
        names = low (updates_in script) few;
      }
    where
      after_one : (n : ℕ) → 1 + n ≡ suc n
      after_one n = omega arith

      low : (n : ℕ) → n ≤ 4096 → 0 + n ≤ 4096
      low n l = omega arith

  first_begun : (count : ℕ) (initial : State) (heads : List LogHead) (scripts : List (List (Call State Op Query Reply))) → AreFirst count heads scripts → IsBegun count (replicate count []) (first_core initial heads scripts)
  first_begun count initial heads scripts a = record {
    few = a.few;
    base = refl;
    flags = refl;
    rows = tt;
    resumable = created_resumable count;
    all_threads = length-first_threads heads scripts (a.all_heads ∙ sym a.all_scripts) ∙ a.all_heads;
    begun = λ t th at log here. let x = first_at heads scripts t th at in subst (λ (z : List Segment × CoreThread State Op Query Reply). HasBegun count t [] z.0 z.1)
        (let e = sym (of_replicate count t [] log here) in let w = x.4 in λ i. (e i, w i)) (first_has_begun count t x.0 x.1 (a.each_head t x.0 x.2) (a.each_script t x.1 x.3));
  }

  pub first_consistent : (count : ℕ) (initial : State) (heads : List LogHead) (scripts : List (List (Call State Op Query Reply))) → AreFirst count heads scripts → IsConsistent count (first_core initial heads scripts)
  first_consistent count initial heads scripts a = begun_consistent count (replicate count []) (first_core initial heads scripts) (first_begun count initial heads scripts a)

  pub first_counts : (count : ℕ) (initial : State) (heads : List LogHead) (scripts : List (List (Call State Op Query Reply))) → AreFirst count heads scripts → CountsFences (first_core initial heads scripts)
  first_counts count initial heads scripts a = begun_counts count (replicate count []) (first_core initial heads scripts) (first_begun count initial heads scripts a)

  -- ---- a core that goes on
  resumed_at : (heads : List LogHead) (logs : List (List Segment)) (scripts : List (List (Call State Op Query Reply))) (t : ℕ) (th : CoreThread State Op Query Reply) (log : List Segment)
      → slice_get (resumed_core_threads heads logs scripts) t ≡ Some th → slice_get logs t ≡ Some log
      → (head : LogHead) × (script : List (Call State Op Query Reply)) × (slice_get heads t ≡ Some head) × (slice_get scripts t ≡ Some script) × (resumed_core_thread head log script ≡ th)
  resumed_at [] logs scripts t th log e l = some_not_none th (sym e)
  resumed_at (head ∷ heads) [] scripts t th log e l = some_not_none th (sym e)
  resumed_at (head ∷ heads) (x ∷ logs) [] t th log e l = some_not_none th (sym e)
  resumed_at (head ∷ heads) (x ∷ logs) (script ∷ scripts) zero th log e l = (head, script, refl, refl, ap (λ (z : List Segment). resumed_core_thread head z script) (sym (same_some x log l)) ∙ same_some (resumed_core_thread head x script) th e)
  resumed_at (head ∷ heads) (x ∷ logs) (script ∷ scripts) (suc t) th log e l = resumed_at heads logs scripts t th log e l

  length-resumed_core_threads : (heads : List LogHead) (logs : List (List Segment)) (scripts : List (List (Call State Op Query Reply))) → length heads ≡ length logs → length heads ≡ length scripts
      → length (resumed_core_threads heads logs scripts) ≡ length heads
  length-resumed_core_threads [] logs scripts e f = refl
  length-resumed_core_threads (head ∷ heads) [] scripts e f = absurd (omega arith)
  length-resumed_core_threads (head ∷ heads) (log ∷ logs) [] e f = absurd (omega arith)
  length-resumed_core_threads (head ∷ heads) (log ∷ logs) (script ∷ scripts) e f = ap suc (length-resumed_core_threads heads logs scripts (omega arith) (omega arith))

  resumed_has_begun : (count t : ℕ) (base : List Node) (head : LogHead) (log : List Segment) (script : List (Call State Op Query Reply)) → IsHeadOf count t head → FitEntries count log
      → count_by (is_of_thread t) base + updates_in script ≤ 4096 → HasBegun count t base log (resumed_core_thread head log script)
  resumed_has_begun count t base head log script h fits names = record {
    head = h;
    fits = subst (λ (n : ℕ). FitEntries n log) (sym h.threads) fits;
    returned = refl;
    phase = refl;
    used = refl;
    logged = refl;
    device = found_device_holds head log (updates_in script * (head.threads + 1)) (updates_in script * suc head.threads) (ap (λ (n : ℕ). updates_in script * n) (add_one head.threads));
    fenced = refl;
    low = omega arith;
    names = names;
  }

  resumed_begun : (count : ℕ) (initial : State) (base : List Node) (heads : List LogHead) (logs : List (List Segment)) (scripts : List (List (Call State Op Query Reply))) → AreResumed count base heads logs scripts
      → IsBegun count logs (resumed_core initial base heads logs scripts)
  resumed_begun count initial base heads logs scripts a = record {
    few = a.few;
    base = refl;
    flags = refl;
    rows = a.rows;
    resumable = a.resumable;
    all_threads = length-resumed_core_threads heads logs scripts (a.all_heads ∙ sym a.resumable.threads) (a.all_heads ∙ sym a.all_scripts) ∙ a.all_heads;
    begun = λ t th at log here. let x = resumed_at heads logs scripts t th log at here in subst (λ (z : CoreThread State Op Query Reply). HasBegun count t base log z) x.4
        (resumed_has_begun count t base x.0 log x.1 (a.each_head t x.0 x.2) (a.each_log t log here) (a.each_script t x.1 x.3));
  }

  pub resumed_consistent : (count : ℕ) (initial : State) (base : List Node) (heads : List LogHead) (logs : List (List Segment)) (scripts : List (List (Call State Op Query Reply))) → AreResumed count base heads logs scripts
      → IsConsistent count (resumed_core initial base heads logs scripts)
  resumed_consistent count initial base heads logs scripts a = begun_consistent count logs (resumed_core initial base heads logs scripts) (resumed_begun count initial base heads logs scripts a)

  pub resumed_counts : (count : ℕ) (initial : State) (base : List Node) (heads : List LogHead) (logs : List (List Segment)) (scripts : List (List (Call State Op Query Reply))) → AreResumed count base heads logs scripts
      → CountsFences (resumed_core initial base heads logs scripts)
  resumed_counts count initial base heads logs scripts a = begun_counts count logs (resumed_core initial base heads logs scripts) (resumed_begun count initial base heads logs scripts a)
