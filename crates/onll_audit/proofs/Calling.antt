-- The least wrong line of calls, thread by thread.
use Rattle.std.proofs.Common.{ℕ, List, [], ◌∷◌, ◌≡◌, ◌+◌, ◌≤◌, length, min, map, drop, None, refl, ap, ◌∙◌, arith, inl, inr}
use Rattle.std.specs.Option.{option_or}
use Rattle.std.proofs.lemmas.List.{drop_all, length-map}
use Rattle.std.proofs.lemmas.Bool.{cases_lt}
use Rattle.onll_model.specs.declared.node.Node.{Node}
use Rattle.onll_model.specs.declared.call.Call.{Call}
use Rattle.onll_model.specs.Object.{Behaviour}
use Rattle.onll_text.specs.Wording.{Wording}
use Rattle.onll_audit.specs.Verdict.{no_past, thread_places, thread_wrong, calls_wrong, total_lines}

pub total_more : (i : ℕ) (groups : List (List (List ℕ))) (lines : List (List ℕ)) → drop i groups ≡ lines ∷ drop (i + 1) groups
    → total_lines (drop i groups) ≡ length lines + total_lines (drop (i + 1) groups)
total_more i groups lines here = ap total_lines here

pub total_end : (i : ℕ) (groups : List (List (List ℕ))) → length groups ≤ i → total_lines (drop i groups) ≡ 0
total_end i groups le = ap total_lines (drop_all i groups le)

module _ {State Op Query Reply : Type 0} (b : Behaviour State Op Query Reply) (w : Wording State Op Query Reply) (s : State) (nodes : List Node) where
  pub calls_more : (i n : ℕ) (scripts : List (List (Call State Op Query Reply))) (groups : List (List (List ℕ))) (script : List (Call State Op Query Reply))
      (lines : List (List ℕ)) → drop i scripts ≡ script ∷ drop (i + 1) scripts → drop i groups ≡ lines ∷ drop (i + 1) groups
      → calls_wrong b w s nodes i n (drop i scripts) (drop i groups)
      ≡ option_or (thread_wrong b w s nodes i (thread_places i nodes) n no_past script lines)
      (calls_wrong b w s nodes (i + 1) (n + length lines) (drop (i + 1) scripts) (drop (i + 1) groups))
  calls_more i n scripts groups script lines here there =
      ap (λ (ss : List (List (Call State Op Query Reply))). calls_wrong b w s nodes i n ss (drop i groups)) here
      ∙ ap (λ (gs : List (List (List ℕ))). calls_wrong b w s nodes i n (script ∷ drop (i + 1) scripts) gs) there

  no_groups : (t n : ℕ) (scripts : List (List (Call State Op Query Reply))) → calls_wrong b w s nodes t n scripts [] ≡ None
  no_groups t n [] = refl
  no_groups t n (script ∷ scripts) = refl

  pub calls_end : {A B : Type 0} (f : A → List (Call State Op Query Reply)) (h : B → List (List ℕ)) (i n : ℕ) (scripts : List A) (groups : List B)
      → min (length scripts) (length groups) ≤ i → calls_wrong b w s nodes i n (drop i (map f scripts)) (drop i (map h groups)) ≡ None
  calls_end f h i n scripts groups le =
      let many = length-map scripts f in
      let lines = length-map groups h in
      elim (cases_lt i (length scripts)) [
        | inl less ↦
            ap (λ (gs : List (List (List ℕ))). calls_wrong b w s nodes i n (drop i (map f scripts)) gs) (drop_all i (map h groups) (omega (arith, lines)))
            ∙ no_groups i n (drop i (map f scripts))
        | inr past ↦
            ap (λ (ss : List (List (Call State Op Query Reply))). calls_wrong b w s nodes i n ss (drop i (map h groups))) (drop_all i (map f scripts) (omega (arith, many)))
      ]

pub ruleset calling = (calls_more, calls_end, total_more, total_end)
