use Rattle.std.proofs.Common.{ℕ, zero, suc, List, [], ◌∷◌, ◌++◌, ◌≡◌, ◌+◌, ◌-◌, ◌≤◌, length, take, drop, slice_get, Option, Some, ap, sym, ◌∙◌, arith, true, min, inl, inr}
use Rattle.std.proofs.Math.Seq.{take-add}
use Rattle.std.proofs.lemmas.Option.{same_Some}
use Rattle.std.proofs.lemmas.Slice.Eq.{bytes_eq-Decides}
use Rattle.std.proofs.lemmas.List.{take_all}
use Rattle.std.proofs.lemmas.Bool.{cases_lt}
use Rattle.std.specs.Str.{bytes_eq}
use Rattle.onll_words.specs.declared.line.OpRow.{OpRow}
use Rattle.onll_model.specs.declared.node.Node.{Node}
use Rattle.onll_model.specs.Object.{Behaviour}
use Rattle.onll_model.specs.Trace.{state_after, after_row}
use Rattle.onll_model.proofs.States.{state_after-append}
use Rattle.onll_audit.specs.Verdict.{IsNextRow}

module _ {State Op Query Reply : Type 0} (b : Behaviour State Op Query Reply) where
  -- on over the nodes from one place to another
  pub state_on : (s state : State) (nodes : List Node) (at place : ℕ) → at ≤ place → state ≡ state_after b s (take at nodes)
      → state_after b state (take (place - at) (drop at nodes)) ≡ state_after b s (take place nodes)
  state_on s state nodes at place le e =
      let sum : at + (place - at) ≡ place = omega arith in
      ap (λ (x : State). state_after b x (take (place - at) (drop at nodes))) e
      ∙ sym (state_after-append b s (take at nodes) (take (place - at) (drop at nodes)))
      ∙ ap (state_after b s) (sym (take-add at (place - at) nodes))
      ∙ ap (λ (k : ℕ). state_after b s (take k nodes)) sum

  take_next : (nodes : List Node) (at : ℕ) (n : Node) → slice_get nodes at ≡ Some n → take (suc at) nodes ≡ take at nodes ++ n ∷ []
  take_next [] at n e = cc
  take_next (x ∷ nodes) zero n e = ap (λ (y : Node). y ∷ []) (same_Some x n e)
  take_next (x ∷ nodes) (suc at) n e = ap (λ (ns : List Node). x ∷ ns) (take_next nodes at n e)

  pub within_next : (nodes : List Node) (at : ℕ) (row : _) → IsNextRow nodes at row → at + 1 ≤ length nodes
  within_next [] at row h = cc h.1
  within_next (x ∷ nodes) zero row h = omega arith
  within_next (x ∷ nodes) (suc at) row h = omega (arith, within_next nodes at row h)

  -- on over the next node
  pub state_next : (s state : State) (nodes : List Node) (at : ℕ) (op : Op) → IsNextRow nodes at (b.row_of op) → state ≡ state_after b s (take at nodes)
      → b.next state op ≡ state_after b s (take (at + 1) nodes)
  state_next s state nodes at op h e =
      let up : at + 1 ≡ suc at = omega arith in
      ap (λ (x : State). b.next x op) e
      ∙ ap (λ (o : Option Op). after_row b (state_after b s (take at nodes)) o) (sym (ap b.op_at h.2 ∙ b.op_of_its_row op))
      ∙ sym (state_after-append b s (take at nodes) (h.0 ∷ []))
      ∙ ap (state_after b s) (sym (take_next nodes at h.0 h.1))
      ∙ ap (λ (k : ℕ). state_after b s (take k nodes)) (sym up)

pub next_row : (nodes : List Node) (at : ℕ) (n : Node) (row : OpRow) → slice_get nodes at ≡ Some n → bytes_eq n.row.w row.w ≡ true → IsNextRow nodes at row
next_row nodes at n row e h = (n, e, ap (λ (w : List ℕ). record { w = w }) ((bytes_eq-Decides n.row.w row.w).0 h))

-- up to the end alone
take_front : (nodes : List Node) (k : ℕ) → take (min k (length nodes)) nodes ≡ take k nodes
take_front nodes k = elim (cases_lt k (length nodes)) [
  | inl less ↦ let e : min k (length nodes) ≡ k = omega arith in ap (λ (n : ℕ). take n nodes) e
  | inr more ↦
      let e : min k (length nodes) ≡ length nodes = omega arith in
      ap (λ (n : ℕ). take n nodes) e ∙ take_all (length nodes) nodes (omega arith) ∙ sym (take_all k nodes (omega arith))
]

pub asked_at : {State Op Query Reply : Type 0} (b : Behaviour State Op Query Reply) (s : State) (nodes : List Node) (at k : ℕ) → at ≡ min k (length nodes)
    → state_after b s (take at nodes) ≡ state_after b s (take k nodes)
asked_at b s nodes at k e = ap (λ (n : ℕ). state_after b s (take n nodes)) e ∙ ap (state_after b s) (take_front nodes k)

pub next_first : (nodes : List Node) (at : ℕ) (n : Node) (row : OpRow) → slice_get (drop at nodes) 0 ≡ Some n → bytes_eq n.row.w row.w ≡ true → IsNextRow nodes at row
next_first nodes at n row e h = next_row nodes at n row (at_drop nodes at n e) h
  where
    at_drop : (nodes : List Node) (at : ℕ) (n : Node) → slice_get (drop at nodes) 0 ≡ Some n → slice_get nodes at ≡ Some n
    at_drop [] zero n e = e
    at_drop [] (suc at) n e = cc e
    at_drop (x ∷ nodes) zero n e = e
    at_drop (x ∷ nodes) (suc at) n e = at_drop nodes at n e

pub ruleset nexts = (next_row, next_first)

pub ruleset asked = (asked_at)

pub ruleset moving = (state_on)

pub ruleset asking = (state_next, within_next)
