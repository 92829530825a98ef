use Rattle.std.proofs.Common.{ℕ, zero, suc, ◌≡◌, ◌+◌, ◌<◌, ◌≤◌, List, length, Some, sym, refl, ◌∙◌, subst, arith}
use Rattle.onll_model.specs.Limits.{greatest_code}
use Rattle.std.specs.List.{slice_get}
use Rattle.onll_model.specs.declared.call.Call.{Call}
use Rattle.onll_model.proofs.Lists.{same_some, some_not_none, all_at}
use Rattle.onll_model.specs.Calls.{updates_in}
use Rattle.onll_log.specs.declared.head.LogHead.{LogHead}
use Rattle.onll_log.specs.Head.{head_for, heads_from}
use Rattle.onll_log.proofs.Lines.{length-digest_words}
use Rattle.onll_start.proofs.Heads.{length-heads_from}
use Rattle.onll_core.specs.Consistent.{IsConsistent}
use Rattle.onll_core.specs.First.{IsHeadOf}
use Rattle.onll_core.specs.First.{AreFirst}
use Rattle.onll_core.specs.Created.{created_core, IsWithinLimits}
use Rattle.onll_core.specs.Fences.{CountsFences}
use Rattle.onll_core.proofs.FirstCore.{first_consistent, first_counts, length-first_threads}

-- A core that is made of scripts within the limits.

pub head_for_is : (count object : ℕ) (init : List ℕ) (t : ℕ) → count ≤ 16 → (1 ≤ object) × (object ≤ greatest_code) → t < count → IsHeadOf count t (head_for 2 t count object init)
head_for_is count object init t few code low = record {
  fits = record { thread = low; threads = few; object = code; format = (omega arith, omega arith); digest = length-digest_words _ };
  thread = refl;
  threads = refl;
  format = refl;
}

heads_are : (count object : ℕ) (init : List ℕ) (t n : ℕ) → count ≤ 16 → (1 ≤ object) × (object ≤ greatest_code) → t + n ≤ count → (i : ℕ) (head : LogHead) → slice_get (heads_from count object init t n) i ≡ Some head → IsHeadOf count (t + i) head
heads_are count object init t zero few code low i head e = some_not_none head (sym e)
heads_are count object init t (suc n) few code low zero head e = let z : t ≡ t + 0 = omega arith in
    subst (λ (m : ℕ). IsHeadOf count m head) z (subst (IsHeadOf count t) (same_some (head_for 2 t count object init) head e) (head_for_is count object init t few code (omega arith)))
heads_are count object init t (suc n) few code low (suc i) head e = let z : suc t + i ≡ t + suc i = omega arith in subst (λ (m : ℕ). IsHeadOf count m head) z (heads_are count object init (suc t) n few code (omega arith) i head e)

pub created_threads : {State Op Query Reply : Type 0} (initial : State) (object : ℕ) (init : List ℕ) (scripts : List (List (Call State Op Query Reply))) → length (created_core initial object init scripts).threads ≡ length scripts
created_threads initial object init scripts =
    let long = length-heads_from (length scripts) object init 0 (length scripts) in
    length-first_threads (heads_from (length scripts) object init 0 (length scripts)) scripts long ∙ long

module _ {State Op Query Reply : Type 0} (initial : State) (object : ℕ) (init : List ℕ) (scripts : List (List (Call State Op Query Reply))) (l : IsWithinLimits object scripts) where
  pub are_first : AreFirst (length scripts) (heads_from (length scripts) object init 0 (length scripts)) scripts
  are_first = record {
    few = l.few;
    all_heads = length-heads_from (length scripts) object init 0 (length scripts);
    all_scripts = refl;
    each_head = λ t head e. let z : 0 + t ≡ t = omega arith in subst (λ (m : ℕ). IsHeadOf (length scripts) m head) z (heads_are (length scripts) object init 0 (length scripts) l.few l.code (omega arith) t head e);
    each_script = λ t script e. all_at (λ (s : List (Call State Op Query Reply)). updates_in s ≤ 4096) scripts l.updates t script e;
  }

  pub created_consistent : IsConsistent (length scripts) (created_core initial object init scripts)
  created_consistent = first_consistent (length scripts) initial (heads_from (length scripts) object init 0 (length scripts)) scripts are_first

  pub created_counts : CountsFences (created_core initial object init scripts)
  created_counts = first_counts (length scripts) initial (heads_from (length scripts) object init 0 (length scripts)) scripts are_first
