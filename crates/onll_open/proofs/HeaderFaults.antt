-- Devices that are given up where a header's fence failed.
use Rattle.std.proofs.Common.{ℕ, zero, suc, false, List, [], ◌∷◌, ◌≡◌, ◌+◌, ◌≤◌, length, map, reverse, sum_by, is_some, refl, sym, ap, ◌∙◌, arith}
use Rattle.std.proofs.lemmas.List.{length-map, length-reverse}
use Rattle.std.proofs.lemmas.List.Sorted.{sum_by-IsPermutation, IsPermutation-reverse}
use Rattle.std.proofs.lemmas.List.Sums.{sum_by-cons}
use Rattle.onll_pmem.specs.Pmem.{DeviceView}
use Rattle.onll_log.specs.declared.head.LogHead.{LogHead}
use Rattle.onll_log.specs.Grammar.{Content}
use Rattle.onll_merge.specs.Recovered.{log_counts}
use Rattle.onll_outside.specs.Views.{StoreView, counted, HandsEach, risen, fault_of}
use Rattle.onll_run.specs.Making.{HeaderFailed, HeadersTo}
use Rattle.onll_open.specs.Devices.{HeadIs}

pub counted_twice : (n a b : ℕ) → counted (counted n a) b ≡ counted n (a + b)
counted_twice n a b = omega arith

-- a count after each of these devices is the count after all of them
pub risen_all : (g : DeviceView → ℕ) (n : ℕ) (d : DeviceView) (ds : List DeviceView) → risen n (map g (d ∷ ds)) ≡ counted n (sum_by g (d ∷ ds))
risen_all g n d [] = let one = sum_by-cons g d [] in ap (counted n) (omega (arith, one))
risen_all g n d (e ∷ ds) = risen_all g (counted n (g d)) e ds ∙ counted_twice n (g d) (sum_by g (e ∷ ds)) ∙ ap (counted n) (sym (sum_by-cons g d (e ∷ ds)))

pub risen_some : (g : DeviceView → ℕ) (n : ℕ) (ds : List DeviceView) → 1 ≤ length ds → risen n (map g ds) ≡ counted n (sum_by g ds)
risen_some g n [] some = absurd (omega arith)
risen_some g n (d ∷ ds) some = risen_all g n d ds

module _ {Device : Type 0} (means : Device → DeviceView) where
  sum_means : (g : DeviceView → ℕ) (ds : List Device) → sum_by g (map means ds) ≡ sum_by (λ (d : Device). g (means d)) ds
  sum_means g [] = refl
  sum_means g (d ∷ ds) =
      let here = sum_by-cons g (means d) (map means ds) in
      let there = sum_by-cons (λ (x : Device). g (means x)) d ds in
      let rest = sum_means g ds in
      omega (arith, here, there, rest)

  pub given_back : (g : DeviceView → ℕ) (n : ℕ) (ds : List Device) → 1 ≤ length ds → risen n (map g (map means (reverse ds))) ≡ counted n (sum_by (λ (d : Device). g (means d)) ds)
  given_back g n ds some =
      let mapped = length-map (reverse ds) means in
      let long = length-reverse ds in
      let there : 1 ≤ length (map means (reverse ds)) = omega (arith, mapped, long, some) in
      risen_some g n (map means (reverse ds)) there
      ∙ ap (counted n) (sum_means g (reverse ds) ∙ sum_by-IsPermutation (λ (d : Device). g (means d)) ds (reverse ds) (IsPermutation-reverse ds))

  some_back : (t : ℕ) (heads : List LogHead) (logs : List Content) (olds news : List Device) → HeadersTo means t heads logs olds news → 1 ≤ length news
  some_back zero [] logs olds news h = absurd h
  some_back zero (x ∷ heads) [] olds news h = absurd h
  some_back zero (x ∷ heads) (c ∷ logs) [] news h = absurd h
  some_back zero (x ∷ heads) (c ∷ logs) (o ∷ olds) [] h = absurd h
  some_back zero (x ∷ heads) (c ∷ logs) (o ∷ olds) (n ∷ news) h = omega arith
  some_back (suc t) [] logs olds news h = absurd h
  some_back (suc t) (x ∷ heads) [] olds news h = absurd h
  some_back (suc t) (x ∷ heads) (c ∷ logs) [] news h = absurd h
  some_back (suc t) (x ∷ heads) (c ∷ logs) (o ∷ olds) [] h = absurd h
  some_back (suc t) (x ∷ heads) (c ∷ logs) (o ∷ olds) (n ∷ news) h = omega arith

  -- the log whose header failed had no head
  pub headless : (t : ℕ) (heads : List LogHead) (logs : List Content) (olds news : List Device) → HeadersTo means t heads logs olds news → HeadIs false t (map log_counts logs)
  headless zero [] logs olds news h = absurd h
  headless zero (x ∷ heads) [] olds news h = absurd h
  headless zero (x ∷ heads) (c ∷ logs) [] news h = absurd h
  headless zero (x ∷ heads) (c ∷ logs) (o ∷ olds) [] h = absurd h
  headless zero (x ∷ heads) (c ∷ logs) (o ∷ olds) (n ∷ news) h = ap is_some h.0
  headless (suc t) [] logs olds news h = absurd h
  headless (suc t) (x ∷ heads) [] olds news h = absurd h
  headless (suc t) (x ∷ heads) (c ∷ logs) [] news h = absurd h
  headless (suc t) (x ∷ heads) (c ∷ logs) (o ∷ olds) [] h = absurd h
  headless (suc t) (x ∷ heads) (c ∷ logs) (o ∷ olds) (n ∷ news) h = headless t heads logs olds news h.1

  -- one device with a fault is handed back
  pub one_risen : (heads : List LogHead) (logs : List Content) (olds news : List Device) (thread : ℕ) (mid new : StoreView) → HeaderFailed means heads logs olds thread news
      → HandsEach (map means (reverse news)) mid new → new.device_faults ≡ counted mid.device_faults 1
  one_risen heads logs olds news thread mid new failed hands =
      hands.faults ∙ given_back fault_of mid.device_faults news (some_back thread heads logs olds news failed.headers) ∙ ap (counted mid.device_faults) failed.faults
