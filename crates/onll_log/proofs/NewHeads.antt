-- The heads of new logs, made one after the other.
use Rattle.std.proofs.Common.{ℕ, zero, suc, List, [], ◌∷◌, ◌++◌, ◌≡◌, ◌+◌, ◌-◌, ◌<◌, length, refl, sym, ap, ◌∙◌, subst, arith, append_assoc, append-nil, length-append}
use Rattle.std.specs.List.{AllByRecursion}
use Rattle.onll_model.proofs.Lists.{all_append}
use Rattle.onll_log.specs.declared.head.LogHead.{LogHead}
use Rattle.onll_log.specs.Head.{AreHeads, FitsHead, head_for, heads_from}

-- the heads of the threads before, of all these threads
pub record HeadsSo (object : ℕ) (init : List ℕ) (threads thread : ℕ) (heads : List LogHead) : Type 0 where
  pub all : heads ++ heads_from threads object init thread (threads - thread) ≡ heads_from threads object init 0 threads
  pub count : length heads ≡ thread
  pub fit : AllByRecursion FitsHead heads

pub heads_start : (object : ℕ) (init : List ℕ) (threads : ℕ) (heads : List LogHead) → heads ≡ [] → HeadsSo object init threads 0 heads
heads_start object init threads heads none = record {
  all = ap (λ hs. hs ++ heads_from threads object init 0 (threads - 0)) none ∙ (let e : threads - 0 ≡ threads = omega arith in ap (heads_from threads object init 0) e);
  count = ap length none;
  fit = subst (AllByRecursion FitsHead) (sym none) tt;
}

pub heads_next : (object : ℕ) (init : List ℕ) (threads thread : ℕ) (heads pushed : List LogHead) (head : LogHead) → thread < threads → pushed ≡ heads ++ head ∷ [] → head ≡ head_for 2 thread threads object init → FitsHead head
    → HeadsSo object init threads thread heads → HeadsSo object init threads (thread + 1) pushed
heads_next object init threads thread heads pushed head low p is fits so =
    let rest : List LogHead = heads_from threads object init (thread + 1) (threads - (thread + 1)) in
    let one : threads - thread ≡ suc (threads - (thread + 1)) = omega arith in
    let next : suc thread ≡ thread + 1 = omega arith in
    let here : heads_from threads object init thread (threads - thread) ≡ head ∷ rest =
    ap (heads_from threads object init thread) one ∙ ap (λ (h : LogHead). h ∷ heads_from threads object init (suc thread) (threads - (thread + 1))) (sym is) ∙ ap (λ t. head ∷ heads_from threads object init t (threads - (thread + 1))) next in
    record {
      all = ap (λ (hs : List LogHead). hs ++ rest) p ∙ append_assoc heads (head ∷ []) rest ∙ ap (λ (hs : List LogHead). heads ++ hs) (sym here) ∙ so.all;
      count = ap length p ∙ length-append heads (head ∷ []) ∙ ap (λ n. n + 1) so.count;
      fit = subst (AllByRecursion FitsHead) (sym p) (all_append FitsHead heads (head ∷ []) so.fit (fits, tt));
    }

pub heads_end : (object : ℕ) (init : List ℕ) (threads thread : ℕ) (heads : List LogHead) → threads - thread ≡ 0 → HeadsSo object init threads thread heads → heads ≡ heads_from threads object init 0 threads
heads_end object init threads thread heads none so = sym (append-nil heads) ∙ ap (λ n. heads ++ heads_from threads object init thread n) (sym none) ∙ so.all

are_heads : (object : ℕ) (init : List ℕ) (threads t n : ℕ) → AllByRecursion FitsHead (heads_from threads object init t n) → AreHeads threads t (heads_from threads object init t n)
are_heads object init threads t zero fit = tt
are_heads object init threads t (suc n) fit =
    let next : suc t ≡ t + 1 = omega arith in (
      record { thread = refl; threads = refl; format = refl; fits = fit.0 },
      subst (λ m. AreHeads threads m (heads_from threads object init (suc t) n)) next (are_heads object init threads (suc t) n fit.1),
    )

pub heads_fit : (object : ℕ) (init : List ℕ) (threads thread : ℕ) (heads : List LogHead) → threads - thread ≡ 0 → HeadsSo object init threads thread heads → AreHeads threads 0 heads
heads_fit object init threads thread heads none so =
    let is = heads_end object init threads thread heads none so in
    subst (AreHeads threads 0) (sym is) (are_heads object init threads 0 threads (subst (AllByRecursion FitsHead) is so.fit))
