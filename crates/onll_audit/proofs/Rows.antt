-- The rows of updates with a place, line by line and thread by thread.
use Rattle.std.proofs.Common.{ℕ, List, [], ◌∷◌, ◌++◌, ◌≡◌, ◌+◌, ◌<◌, ◌≤◌, length, min, map, drop, get_or, refl, ap, ◌∙◌, arith, inl, inr}
use Rattle.std.specs.Option.{option_map}
use Rattle.std.proofs.lemmas.List.{drop_all, length-map}
use Rattle.std.proofs.lemmas.Bool.{cases_lt}
use Rattle.onll_model.specs.declared.call.Call.{Call}
use Rattle.onll_model.specs.Object.{Behaviour}
use Rattle.onll_text.specs.Wording.{Wording}
use Rattle.onll_audit.specs.declared.said.Said.{Said}
use Rattle.onll_audit.specs.Verdict.{end_of_call, row_said, rows_said, all_rows}
use Rattle.onll_audit.proofs.Indexed.{at_place}

module _ {State Op Query Reply : Type 0} (b : Behaviour State Op Query Reply) (w : Wording State Op Query Reply) where
  -- a line more
  pub said_more : (t i : ℕ) (script : List (Call State Op Query Reply)) (lines : List (List ℕ)) (line : List ℕ) (call : Call State Op Query Reply)
      → drop i lines ≡ line ∷ drop (i + 1) lines → i < length script → call ≡ get_or script i call
      → rows_said b w t i (drop i script) (drop i lines)
      ≡ row_said b call (option_map (λ (r : List ℕ × Said). r.1) (end_of_call w t (i + 1) call line)) ++ rows_said b w t (i + 1) (drop (i + 1) script) (drop (i + 1) lines)
  said_more t i script lines line call here lt e =
      ap (λ (ls : List (List ℕ)). rows_said b w t i (drop i script) ls) here
      ∙ ap (λ (cs : List (Call State Op Query Reply)). rows_said b w t i cs (line ∷ drop (i + 1) lines)) (at_place script i call lt e)

  -- no line or no call is left
  no_calls : (t k : ℕ) (lines : List (List ℕ)) → rows_said b w t k [] lines ≡ []
  no_calls t k [] = refl
  no_calls t k (l ∷ lines) = refl

  pub said_end : (t i : ℕ) (script : List (Call State Op Query Reply)) (lines : List (List ℕ)) → min (length script) (length lines) ≤ i
      → rows_said b w t i (drop i script) (drop i lines) ≡ []
  said_end t i script lines le = elim (cases_lt i (length script)) [
    | inl less ↦ ap (λ (ls : List (List ℕ)). rows_said b w t i (drop i script) ls) (drop_all i lines (omega arith))
    | inr past ↦ ap (λ (cs : List (Call State Op Query Reply)). rows_said b w t i cs (drop i lines)) (drop_all i script past) ∙ no_calls t i (drop i lines)
  ]

  -- a thread more
  pub rows_more : (i : ℕ) (scripts : List (List (Call State Op Query Reply))) (groups : List (List (List ℕ))) (script : List (Call State Op Query Reply))
      (lines : List (List ℕ)) → drop i scripts ≡ script ∷ drop (i + 1) scripts → drop i groups ≡ lines ∷ drop (i + 1) groups
      → all_rows b w i (drop i scripts) (drop i groups) ≡ rows_said b w i 0 script lines ∷ all_rows b w (i + 1) (drop (i + 1) scripts) (drop (i + 1) groups)
  rows_more i scripts groups script lines here there =
      ap (λ (ss : List (List (Call State Op Query Reply))). all_rows b w i ss (drop i groups)) here
      ∙ ap (λ (gs : List (List (List ℕ))). all_rows b w i (script ∷ drop (i + 1) scripts) gs) there

  -- no thread is left
  no_groups : (t : ℕ) (scripts : List (List (Call State Op Query Reply))) → all_rows b w t scripts [] ≡ []
  no_groups t [] = refl
  no_groups t (script ∷ scripts) = refl

  pub rows_end : {A B : Type 0} (f : A → List (Call State Op Query Reply)) (h : B → List (List ℕ)) (i : ℕ) (scripts : List A) (groups : List B)
      → min (length scripts) (length groups) ≤ i → all_rows b w i (drop i (map f scripts)) (drop i (map h groups)) ≡ []
  rows_end f h i scripts groups le =
      let many = length-map scripts f in
      let lines = length-map groups h in
      elim (cases_lt i (length scripts)) [
        | inl less ↦
            ap (λ (gs : List (List (List ℕ))). all_rows b w i (drop i (map f scripts)) gs) (drop_all i (map h groups) (omega (arith, lines)))
            ∙ no_groups i (drop i (map f scripts))
        | inr past ↦
            ap (λ (ss : List (List (Call State Op Query Reply))). all_rows b w i ss (drop i (map h groups))) (drop_all i (map f scripts) (omega (arith, many)))
      ]

pub ruleset saying = (said_more, said_end)

pub ruleset all_saying = (rows_more, rows_end)
