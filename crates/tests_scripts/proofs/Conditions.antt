-- What runs of short scripts on a bank need.
use Rattle.std.proofs.Common.{◌≡◌, ℕ, suc, ◌+◌, ◌*◌, ◌≤◌, List, [], ◌∷◌, ◌++◌, length, refl, sym, ap, subst, arith}
use Rattle.std.specs.List.{AllByRecursion}
use Rattle.std.proofs.lemmas.Nat.{mul-le}
use Rattle.onll_model.specs.Limits.{most_updates}
use Rattle.onll_model.specs.declared.call.Call.{Call}
use Rattle.onll_model.specs.declared.call.Call.TheVariants.{Update, Ask}
use Rattle.onll_model.specs.Calls.{updates_in}
use Rattle.onll_model.proofs.Lists.{same_some}
use Rattle.onll_pmem.specs.Device.{new_device, zero_lines}
use Rattle.onll_pmem.specs.Memory.{MemoryState, memory_view}
use Rattle.onll_log.specs.declared.head.LogHead.{LogHead}
use Rattle.onll_outside.specs.Views.{IsFresh}
use Rattle.onll_log.specs.Head.{IsThreadHead, AreHeads}
use Rattle.onll_run.specs.Left.{no_base}
use Rattle.onll_run.specs.Ran.{AreRoomy, CanRun}
use Rattle.onll_run.proofs.Anew.{new_base, new_roomy}

-- one head more
pub heads_more : (count t : ℕ) (heads : List LogHead) (head : LogHead) → AreHeads count t heads → IsThreadHead count (t + length heads) head → AreHeads count t (heads ++ head ∷ [])
heads_more count t [] head a n = (subst (λ (k : ℕ). IsThreadHead count k head) (let e : t + 0 ≡ t = omega arith in e) n, tt)
heads_more count t (x ∷ heads) head a n = (a.0, heads_more count (t + 1) heads head a.1 (subst (λ (k : ℕ). IsThreadHead count k head) (let e : t + suc (length heads) ≡ t + 1 + length heads = omega arith in e) n))

-- a new device is fresh
pub fresh_new : (lines : ℕ) (failing : List ℕ) (m : MemoryState) → m ≡ record { device = new_device lines; failing = failing } → IsFresh (zero_lines lines) (memory_view m)
fresh_new lines failing m e = subst (λ (z : MemoryState). IsFresh (zero_lines lines) (memory_view z)) (sym e)
    (record { read = refl; fences = refl; faults = refl; settled = λ t is. sym (ap (λ k. k.fenced) (same_some _ t is)) })

module _ {State Op Query Reply : Type 0} where
  few_updates : (calls : List (Call State Op Query Reply)) → updates_in calls ≤ length calls
  few_updates [] = omega arith
  few_updates (Update op ∷ calls) = let r = few_updates calls in omega arith
  few_updates (Ask query ∷ calls) = let r = few_updates calls in omega arith

  abbrev pub AreShort : List (List (Call State Op Query Reply)) → Type 0
  AreShort = AllByRecursion (λ (calls : List (Call State Op Query Reply)). length calls ≤ 8)

  few_each : (scripts : List (List (Call State Op Query Reply))) → AreShort scripts → AllByRecursion (λ (calls : List (Call State Op Query Reply)). updates_in calls ≤ most_updates) scripts
  few_each [] short = tt
  few_each (s ∷ scripts) short = (let updates = few_updates s in let calls = short.0 in omega arith, few_each scripts short.1)

  roomy : (threads : ℕ) (scripts : List (List (Call State Op Query Reply))) (devices : List MemoryState) → threads ≤ 4 → AreShort scripts → length devices ≡ length scripts
      → AllByRecursion (λ (d : MemoryState). IsFresh (zero_lines 41) (memory_view d)) devices → AreRoomy memory_view threads (no_base (length scripts)).logs scripts devices
  roomy threads [] [] few short many fresh = tt
  roomy threads [] (d ∷ devices) few short many fresh = absurd (omega arith)
  roomy threads (s ∷ scripts) [] few short many fresh = absurd (omega arith)
  roomy threads (s ∷ scripts) (d ∷ devices) few short many fresh =
      let updates = few_updates s in
      let calls = short.0 in
      let lines : (threads + 1) * updates_in s ≤ 5 * 8 = mul-le (threads + 1) (updates_in s) 5 8 (omega arith) (omega arith) in (
        new_roomy memory_view threads 41 s d fresh.0 (omega arith),
        roomy threads scripts devices few short.1 (omega arith) fresh.1,
      )

  pub can_run : (heads : List LogHead) (scripts : List (List (Call State Op Query Reply))) (devices : List MemoryState) → 1 ≤ length scripts → length scripts ≤ 4 → AreShort scripts
      → length devices ≡ length scripts → AllByRecursion (λ (d : MemoryState). IsFresh (zero_lines 41) (memory_view d)) devices → length heads ≡ length scripts → AreHeads (length scripts) 0 heads
      → CanRun memory_view heads (no_base (length heads)).logs scripts devices
  can_run heads scripts devices some_thread few short many fresh long are = record {
    some_thread = some_thread;
    few = omega arith;
    many = long;
    heads_are = are;
    base = new_base heads (length heads) scripts (few_each scripts short);
    devices_are = subst (λ (n : ℕ). AreRoomy memory_view (length scripts) (no_base n).logs scripts devices) (sym long) (roomy (length scripts) scripts devices few short many fresh);
  }
