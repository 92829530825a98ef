-- The counts of each thread's nodes, one node after the other.
use Rattle.std.proofs.Common.{◌≡◌, ℕ, ◌+◌, ◌<◌, ◌≤◌, ◌⊎◌, inl, inr, Bool, true, false, cond, List, [], length, get_or, set, take, drop, refl, sym, ap, ◌∙◌, arith, eq-eqb}
use Rattle.std.specs.Prelude.{count_by}
use Rattle.std.proofs.lemmas.Bool.{cases_eq, ne_eqb}
use Rattle.std.proofs.lemmas.List.{take_more, drop_more, get_or-set_same, get_or-set_other, length-set}
use Rattle.std.proofs.lemmas.List.Sums.{count_by_more_yes, count_by_more_no}
use Rattle.onll_model.specs.Limits.{most_threads}
use Rattle.onll_model.specs.declared.node.Node.{Node}
use Rattle.onll_model.specs.Trace.{is_of_thread}
use Rattle.onll_merge.specs.Merge.{stray_above}

-- what is counted of each thread that a run can have, and what is asked of the nodes that are left
pub record Counted (counts : List ℕ) (nodes : List Node) (below : ℕ) : Type 0 where
  pub many : length counts ≡ most_threads
  pub counts_are : (t : ℕ) → t < most_threads → get_or counts t 0 ≡ count_by (is_of_thread t) (take below nodes)
  pub rest_is : stray_above (take below nodes) (drop below nodes) ≡ stray_above [] nodes

taken : {A : Type 0} (b : Bool) (x y : A) → b ≡ true → cond b x y ≡ x
taken true x y e = refl
taken false x y e = absurd (cc)

-- one node more, which has the next number of its thread
module _ (nodes : List Node) (below : ℕ) (d : Node) (low : below < length nodes) where
  abbrev x : Node
  x = get_or nodes below d

  module _ (next : x.number ≡ count_by (is_of_thread x.thread) (take below nodes) + 1) where
    rest_more : stray_above (take below nodes) (drop below nodes) ≡ stray_above [] nodes → stray_above (take (below + 1) nodes) (drop (below + 1) nodes) ≡ stray_above [] nodes
    rest_more rest = sym (ap (stray_above (take below nodes)) (drop_more nodes below d low)
        ∙ (taken _ _ _ (eq-eqb x.number (count_by (is_of_thread x.thread) (take below nodes) + 1) next)
        ∙ ap (λ (ns : List Node). stray_above ns (drop (below + 1) nodes)) (sym (take_more nodes below d low)))) ∙ rest

    own_more : count_by (is_of_thread x.thread) (take (below + 1) nodes) ≡ x.number
    own_more = count_by_more_yes (is_of_thread x.thread) nodes below d low (eq-eqb x.thread x.thread refl) ∙ sym next

    others_more : (t : ℕ) → (x.thread ≡ t → ⊥) → count_by (is_of_thread t) (take (below + 1) nodes) ≡ count_by (is_of_thread t) (take below nodes)
    others_more t e = count_by_more_no (is_of_thread t) nodes below d low (ne_eqb x.thread t e)

    -- its thread's count is kept
    pub counted_more : (counts : List ℕ) → x.thread < most_threads → Counted counts nodes below → Counted (set counts x.thread x.number) nodes (below + 1)
    counted_more counts small h = record {
      many = length-set counts x.thread x.number ∙ h.many;
      counts_are = λ t few. at t few (cases_eq x.thread t);
      rest_is = rest_more h.rest_is;
    }
      where
        at : (t : ℕ) → t < most_threads → (x.thread ≡ t) ⊎ (x.thread ≡ t → ⊥) → get_or (set counts x.thread x.number) t 0 ≡ count_by (is_of_thread t) (take (below + 1) nodes)
        at t few (inl e) = ap (λ (n : ℕ). get_or (set counts x.thread x.number) n 0) (sym e) ∙ (get_or-set_same counts x.thread x.number 0 (let m = h.many in omega arith)
            ∙ (sym own_more ∙ ap (λ (n : ℕ). count_by (is_of_thread n) (take (below + 1) nodes)) e))
        at t few (inr e) = get_or-set_other counts x.thread t x.number 0 (λ same. e (sym same)) ∙ (h.counts_are t few ∙ sym (others_more t e))

    -- it is of a thread that no run has
    pub counted_other : (counts : List ℕ) → most_threads ≤ x.thread → Counted counts nodes below → Counted counts nodes (below + 1)
    counted_other counts large h = record {
      many = h.many;
      counts_are = λ t few. h.counts_are t few ∙ sym (others_more t (λ (e : x.thread ≡ t). omega arith));
      rest_is = rest_more h.rest_is;
    }
