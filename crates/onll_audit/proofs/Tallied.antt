-- The counts of each thread's nodes, one node after the other.
use Rattle.std.proofs.Common.{ℕ, ◌≡◌, ◌++◌, ◌+◌, ◌<◌, ◌≤◌, ◌⊎◌, ◌==◌, ◌&&◌, inl, inr, Bool, true, false, cond, List, [], ◌∷◌, Option, Some, None, length, get_or, set, take, drop, slice_get, zero, suc, refl, sym, ap, ◌∙◌, arith, eq-eqb, count_by}
use Rattle.std.proofs.lemmas.Bool.{cases_eq, cases_lt, ne_eqb}
use Rattle.std.proofs.lemmas.List.{take_more, drop_more, get_or-set_same, get_or-set_other, length-set, drop_all}
use Rattle.std.proofs.lemmas.List.Sums.{count_by_more_yes, count_by_more_no}
use Rattle.onll_words.specs.declared.line.OpRow.{OpRow}
use Rattle.onll_model.specs.declared.node.Node.{Node}
use Rattle.onll_model.specs.Trace.{is_of_thread}
use Rattle.onll_audit.specs.declared.verdict.Why.{Why}
use Rattle.onll_audit.specs.declared.verdict.Why.TheVariants as whys
use Rattle.onll_audit.specs.Verdict.{same_row, nth_row, node_after, node_right, nodes_wrong}
use Rattle.onll_audit.proofs.Following.{both, eq_fact}

-- the counts are those of the nodes below, for as many threads as there are lists of rows
pub record IsTally (rows : List (List OpRow)) (counts : List ℕ) (nodes : List Node) (below : ℕ) : Type 0 where
  pub many : length counts ≡ length rows
  pub counted : (t : ℕ) → t < length rows → get_or counts t 0 ≡ count_by (is_of_thread t) (take below nodes)

no_row : {A : Type 0} (xs : List A) (t : ℕ) → length xs ≤ t → slice_get xs t ≡ None
no_row [] t le = refl
no_row (x ∷ xs) zero le = absurd (omega arith)
no_row (x ∷ xs) (suc t) le = no_row xs t (omega arith)

never : (a : Bool) → (a && false) ≡ false
never true = refl
never false = refl

-- the test by the counts is that by the nodes
pub right_by : (rows : List (List OpRow)) (counts : List ℕ) (nodes : List Node) (below : ℕ) (x : Node) → IsTally rows counts nodes below
    → node_after rows (get_or counts x.thread 0) x ≡ node_right rows (take below nodes) x
right_by rows counts nodes below x h = elim (cases_lt x.thread (length rows)) [
  | inl less ↦ ap (λ (count : ℕ). node_after rows count x) (h.counted x.thread less)
  | inr past ↦ none (get_or counts x.thread 0) past ∙ sym (none (count_by (is_of_thread x.thread) (take below nodes)) past)
]
  where
    none : (count : ℕ) → length rows ≤ x.thread → node_after rows count x ≡ false
    none count le = ap (λ (o : Option (List OpRow)). (x.number == count + 1) && same_row x.row (nth_row o count)) (no_row rows x.thread le) ∙ never (x.number == count + 1)

module _ (rows : List (List OpRow)) (n : ℕ) (nodes : List Node) (below : ℕ) (d : Node) (low : below < length nodes) where
  abbrev x : Node
  x = get_or nodes below d

  -- what is left, by its first node
  pub left_more : nodes_wrong rows (n + below) (take below nodes) (drop below nodes)
      ≡ cond (node_right rows (take below nodes) x) (nodes_wrong rows (n + (below + 1)) (take (below + 1) nodes) (drop (below + 1) nodes)) (Some (n + below, whys.Node))
  left_more =
      let up : n + below + 1 ≡ n + (below + 1) = omega arith in
      ap (nodes_wrong rows (n + below) (take below nodes)) (drop_more nodes below d low)
      ∙ ap (λ (k : ℕ). cond {A = Option (ℕ × Why)} (node_right rows (take below nodes) x) (nodes_wrong rows k (take below nodes ++ x ∷ []) (drop (below + 1) nodes)) (Some (n + below, whys.Node))) up
      ∙ ap (λ (ns : List Node). cond {A = Option (ℕ × Why)} (node_right rows (take below nodes) x) (nodes_wrong rows (n + (below + 1)) ns (drop (below + 1) nodes)) (Some (n + below, whys.Node)))
      (sym (take_more nodes below d low))

  pub left_right : node_right rows (take below nodes) x ≡ true
      → nodes_wrong rows (n + below) (take below nodes) (drop below nodes) ≡ nodes_wrong rows (n + (below + 1)) (take (below + 1) nodes) (drop (below + 1) nodes)
  left_right e = left_more ∙ ap (λ (right : Bool). cond {A = Option (ℕ × Why)} right (nodes_wrong rows (n + (below + 1)) (take (below + 1) nodes) (drop (below + 1) nodes)) (Some (n + below, whys.Node))) e

  pub left_wrong : node_right rows (take below nodes) x ≡ false → nodes_wrong rows (n + below) (take below nodes) (drop below nodes) ≡ Some (n + below, whys.Node)
  left_wrong e = left_more ∙ ap (λ (right : Bool). cond {A = Option (ℕ × Why)} right (nodes_wrong rows (n + (below + 1)) (take (below + 1) nodes) (drop (below + 1) nodes)) (Some (n + below, whys.Node))) e

  -- a right node is counted
  pub tally_more : (counts : List ℕ) → node_right rows (take below nodes) x ≡ true → x.thread < length counts → IsTally rows counts nodes below
      → IsTally rows (set counts x.thread x.number) nodes (below + 1)
  tally_more counts right small h = record {
    many = length-set counts x.thread x.number ∙ h.many;
    counted = λ t few. at t few (cases_eq x.thread t);
  }
    where
      next : x.number ≡ count_by (is_of_thread x.thread) (take below nodes) + 1
      next = eq_fact x.number (count_by (is_of_thread x.thread) (take below nodes) + 1) (both (x.number == count_by (is_of_thread x.thread) (take below nodes) + 1) _ right).0

      own : count_by (is_of_thread x.thread) (take (below + 1) nodes) ≡ x.number
      own = count_by_more_yes (is_of_thread x.thread) nodes below d low (eq-eqb x.thread x.thread refl) ∙ sym next

      other : (t : ℕ) → (x.thread ≡ t → ⊥) → count_by (is_of_thread t) (take (below + 1) nodes) ≡ count_by (is_of_thread t) (take below nodes)
      other t e = count_by_more_no (is_of_thread t) nodes below d low (ne_eqb x.thread t e)

      at : (t : ℕ) → t < length rows → (x.thread ≡ t) ⊎ (x.thread ≡ t → ⊥) → get_or (set counts x.thread x.number) t 0 ≡ count_by (is_of_thread t) (take (below + 1) nodes)
      at t few (inl e) = ap (λ (k : ℕ). get_or (set counts x.thread x.number) k 0) (sym e)
          ∙ (get_or-set_same counts x.thread x.number 0 small ∙ (sym own ∙ ap (λ (k : ℕ). count_by (is_of_thread k) (take (below + 1) nodes)) e))
      at t few (inr e) = get_or-set_other counts x.thread t x.number 0 (λ same. e (sym same)) ∙ (h.counted t few ∙ sym (other t e))

-- none is left
pub left_end : (rows : List (List OpRow)) (n : ℕ) (nodes : List Node) (below : ℕ) → length nodes ≤ below
    → nodes_wrong rows (n + below) (take below nodes) (drop below nodes) ≡ None
left_end rows n nodes below le = ap (nodes_wrong rows (n + below) (take below nodes)) (drop_all below nodes le)

pub ruleset tallying = (left_end)
