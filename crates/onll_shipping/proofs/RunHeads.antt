-- The heads of the logs of one run are those of a stream.
use Rattle.std.proofs.Common.{ℕ, zero, suc, List, ◌≡◌, ◌+◌, ◌≤◌, length, refl, sym, ap, subst, arith}
use Rattle.onll_model.specs.Limits.{most_threads}
use Rattle.onll_log.specs.Head.{heads_from}
use Rattle.onll_standby.specs.Stream.{NumberedHeads, AreStreamHeads}

module _ (object : ℕ) (init : List ℕ) (threads : ℕ) where
  numbered : (t n : ℕ) → NumberedHeads t threads (heads_from threads object init t n)
  numbered t zero = tt
  numbered t (suc n) = let next : suc t ≡ t + 1 = omega arith in (refl, refl, refl, subst (λ (m : ℕ). NumberedHeads m threads (heads_from threads object init (suc t) n)) next (numbered (suc t) n))

  many : (t n : ℕ) → length (heads_from threads object init t n) ≡ n
  many t zero = refl
  many t (suc n) = ap suc (many (suc t) n)

  -- they are the heads that a standby expects
  pub run_heads_expected : 1 ≤ threads → threads ≤ most_threads → AreStreamHeads (heads_from threads object init 0 threads)
  run_heads_expected some few = let n = many 0 threads in record {
    some_heads = omega arith;
    few_heads = omega arith;
    numbered = subst (λ (m : ℕ). NumberedHeads 0 m (heads_from threads object init 0 threads)) (sym n) (numbered 0 threads);
  }
