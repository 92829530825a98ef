-- Passes of which one made a call.
use Rattle.std.proofs.Common.{ℕ, zero, suc, List, [], ◌∷◌, ◌≡◌, ◌<◌, length, map, set, get_or, refl, sym, ap, ◌∙◌, subst, arith}
use Rattle.std.specs.List.{AllByRecursion, Contains}
use Rattle.onll_pmem.specs.Pmem.{DeviceView}
use Rattle.onll_trace.specs.Spots.{SpotView, IsOf}
use Rattle.onll_shared.specs.Passes.{OnllView, PassView, IsTied, spot_of}
use Rattle.onll_rows.specs.Sketch.{behaviour_of}
use Rattle.onll_counter.specs.declared.Count.{Count}
use Rattle.onll_counter.specs.Counter.{counter}
use Rattle.onll_count.specs.Turns.{AreBetween}

pub all_get : {A : Type 0} (P : A → Type 0) (xs : List A) (i : ℕ) (d : A) → AllByRecursion P xs → i < length xs → P (get_or xs i d)
all_get P [] i d h l = absurd (omega arith)
all_get P (y ∷ xs) zero d h l = h.0
all_get P (y ∷ xs) (suc i) d h l = all_get P xs i d h.1 (omega arith)

all_set : {A : Type 0} (P : A → Type 0) (xs : List A) (i : ℕ) (x : A) → AllByRecursion P xs → P x → AllByRecursion P (set xs i x)
all_set P [] i x h g = tt
all_set P (y ∷ xs) zero x h g = (g, h.1)
all_set P (y ∷ xs) (suc i) x h g = (h.0, all_set P xs i x h.1 g)

module _ {Device : Type 0} (means : Device → DeviceView) (onll : OnllView Count) where
  of_tied : (passes : List (PassView Count Device)) → AllByRecursion (IsTied (behaviour_of counter) means onll) passes
      → AllByRecursion (IsOf onll.trace) (map spot_of passes)
  of_tied [] h = tt
  of_tied (p ∷ ps) h = (h.0.of, of_tied ps h.1)

  threads_same : (passes : List (PassView Count Device)) (i : ℕ) (d new : PassView Count Device)
      → new.spot.me.thread ≡ (get_or passes i d).spot.me.thread
      → map (λ (p : SpotView). p.me.thread) (map spot_of (set passes i new)) ≡ map (λ (p : SpotView). p.me.thread) (map spot_of passes)
  threads_same [] i d new e = refl
  threads_same (p ∷ ps) zero d new e = ap (λ t. t ∷ map (λ (p : SpotView). p.me.thread) (map spot_of ps)) e
  threads_same (p ∷ ps) (suc i) d new e = ap (λ ts. p.spot.me.thread ∷ ts) (threads_same ps i d new e)

  count_same : (passes : List (PassView Count Device)) (i : ℕ) (new : PassView Count Device)
      → length (map spot_of (set passes i new)) ≡ length (map spot_of passes)
  count_same [] i new = refl
  count_same (p ∷ ps) zero new = refl
  count_same (p ∷ ps) (suc i) new = ap suc (count_same ps i new)

  -- all are there still
  pub turned : (passes : List (PassView Count Device)) (i : ℕ) (d new : PassView Count Device) → AreBetween means onll passes
      → IsTied (behaviour_of counter) means onll new → new.spot.me.thread ≡ (get_or passes i d).spot.me.thread → AreBetween means onll (set passes i new)
  turned passes i d new h tied e =
      let all : AllByRecursion (IsTied (behaviour_of counter) means onll) (set passes i new) = all_set (IsTied (behaviour_of counter) means onll) passes i new h.tied tied in
      record {
        all = record {
          of = of_tied (set passes i new) all;
          count = count_same passes i new ∙ h.all.count;
          each = λ t low. subst (λ ts. Contains ts t) (sym (threads_same passes i d new e)) (h.all.each t low);
        };
        tied = all;
      }
