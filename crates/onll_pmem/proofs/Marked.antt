-- The lines that wait: their marks, and the list of them.
use Rattle.std.proofs.Common.{◌≡◌, ℕ, zero, suc, ◌+◌, ◌<◌, ◌≤◌, cond, Bool, true, false, ◌||◌, List, [], ◌∷◌, ◌++◌, length, get_or, set, sym, ap, ◌∙◌, ◌==◌, ◌⊎◌, inl, inr, eqb-true, arith, true≢false}
use Rattle.std.proofs.Math.Bool.{or-false}
use Rattle.std.proofs.Math.Seq.{get_or-append_seam}
use Rattle.std.proofs.lemmas.Bool.{cases_eq, false_from_ne_true}
use Rattle.std.proofs.lemmas.List.{length-append, length-set, get_or-set_same, get_or-set_other, get_or_append_left}
use Rattle.std.proofs.lemmas.List.Folds.{list_any-append}
use Rattle.std.proofs.lemmas.List.Sums.{count_by-le-length, sum_by-cons, sum_by-set}
use Rattle.std.specs.List.{list_any}
use Rattle.onll_pmem.specs.Device.{is_marked}
use Rattle.onll_pmem.specs.Waiting.{marked_count, Lists}

marked_count-cons : (mark : Bool) (marks : List Bool) → marked_count (mark ∷ marks) ≡ cond mark 1 0 + marked_count marks
marked_count-cons mark marks = sum_by-cons (λ (m : Bool). cond {A = ℕ} m 1 0) mark marks

-- where one isn't marked, not all are
pub marked_count_lt_length : (marks : List Bool) (line : ℕ) → is_marked marks line ≡ false → line < length marks → marked_count marks < length marks
marked_count_lt_length [] line e l = absurd (omega arith)
marked_count_lt_length (true ∷ marks) zero e l = absurd (true≢false e)
marked_count_lt_length (false ∷ marks) zero e l = let h : marked_count marks ≤ length marks = count_by-le-length (λ (mark : Bool). mark) marks in omega (arith, marked_count-cons false marks)
marked_count_lt_length (true ∷ marks) (suc line) e l = let h = marked_count_lt_length marks line e (omega arith) in omega (arith, marked_count-cons true marks)
marked_count_lt_length (false ∷ marks) (suc line) e l = let h = marked_count_lt_length marks line e (omega arith) in omega (arith, marked_count-cons false marks)

-- one that is unset was counted at most once
marked_count-unset : (marks : List Bool) (line : ℕ) → line < length marks → marked_count marks ≤ marked_count (set marks line false) + 1
marked_count-unset marks line l = let h = sum_by-set (λ (m : Bool). cond {A = ℕ} m 1 0) marks line false false l in
    let few : cond {A = ℕ} (is_marked marks line) 1 0 ≤ 1 = at_most_one (is_marked marks line) in omega (arith, h, few)
  where
    at_most_one : (b : Bool) → cond {A = ℕ} b 1 0 ≤ 1
    at_most_one true = omega arith
    at_most_one false = omega arith

-- the last of the list is taken out of it, and unset
pub Lists-taken : (marks : List Bool) (lines rest : List ℕ) (line most : ℕ) → lines ≡ rest ++ line ∷ [] → Lists marks lines most
    → Lists (set marks line false) rest most
Lists-taken marks lines rest line most same h = record {
  listed = λ i marked. at i (cases_eq i line) marked;
  below = λ k l. let e : get_or lines k 0 ≡ get_or rest k 0 = ap (λ (ls : List ℕ). get_or ls k 0) same ∙ get_or_append_left rest (line ∷ []) 0 k l in
      let b = h.below k (omega (arith, count)) in omega (arith, b, e, length-set marks line false);
  few = let f = h.few in omega (arith, f, count, marked_count-unset marks line within);
  room = let r = h.room in omega (arith, r, length-set marks line false);
}
  where
    count : length lines ≡ length rest + 1
    count = ap length same ∙ length-append rest (line ∷ [])

    within : line < length marks
    within = let b = h.below (length rest) (omega (arith, count)) in
        let e : get_or lines (length rest) 0 ≡ line = ap (λ (ls : List ℕ). get_or ls (length rest) 0) same ∙ get_or-append_seam rest line [] 0 in
        omega (arith, b, e)

    at : (i : ℕ) → (i ≡ line) ⊎ (i ≡ line → ⊥) → is_marked (set marks line false) i ≡ true → list_any (λ x. x == i) rest ≡ true
    at i (inl e) marked = absurd (true≢false (sym marked ∙ (ap (is_marked (set marks line false)) e ∙ get_or-set_same marks line false false within)))
    at i (inr n) marked =
        let other : (line == i) ≡ false = false_from_ne_true (line == i) (λ t. n (sym (eqb-true line i t))) in
        let among : list_any (λ x. x == i) lines ≡ true = h.listed i (sym (get_or-set_other marks line i false false n) ∙ marked) in
        sym (or-false (list_any (λ x. x == i) rest))
        ∙ (ap (λ (b : Bool). list_any (λ x. x == i) rest || (b || false)) (sym other)
        ∙ (sym (list_any-append (λ x. x == i) rest (line ∷ [])) ∙ (ap (list_any (λ x. x == i)) (sym same) ∙ among)))
