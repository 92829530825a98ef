use Rattle.std.proofs.Common.{◌≡◌, ℕ, suc, ◌+◌, Bool, List, [], ◌∷◌, ◌++◌, length, Some, refl, sym, ap, ◌∙◌, subst, arith, append-nil, append_assoc, cond, eq-eqb, ne_eqb, ◌≢◌}
use Rattle.std.specs.List.{slice_get}
use Rattle.onll_words.specs.declared.line.OpRow.{OpRow}
use Rattle.onll_model.specs.declared.node.Node.{Node}
use Rattle.onll_model.specs.declared.call.Call.{Call}
use Rattle.onll_model.specs.declared.call.Call.TheVariants.{Update, Ask}
use Rattle.onll_model.specs.declared.call.CallEnd.{CallEnd}
use Rattle.onll_model.specs.declared.call.CallEnd.TheVariants.{Running}
use Rattle.onll_model.specs.Object.{Behaviour}
use Rattle.onll_model.specs.Trace.{is_of_thread}
use Rattle.onll_model.specs.Legal.{place_in, at_place, placed_updates, placed_rows, EachEnd, EachLaterEnd}
use Rattle.onll_model.proofs.Lists.{same_some, some_not_none}

-- A thread's outcomes with one more at their end, and its nodes with one more.

module _ {State Op Query Reply : Type 0} where
  pub each_end_more : (P : Call State Op Query Reply → CallEnd State Op Query Reply → Type 0) (calls : List (Call State Op Query Reply)) (ends : List (CallEnd State Op Query Reply)) (c : Call State Op Query Reply) (e : CallEnd State Op Query Reply)
      → EachEnd P calls ends → slice_get calls (length ends) ≡ Some c → P c e → EachEnd P calls (ends ++ e ∷ [])
  each_end_more P [] [] c e h at p = some_not_none c (sym at)
  each_end_more P (d ∷ calls) [] c e h at p = (subst (λ (z : Call State Op Query Reply). P z e) (sym (same_some d c at)) p, tt)
  each_end_more P [] (f ∷ ends) c e h at p = h
  each_end_more P (d ∷ calls) (f ∷ ends) c e h at p = (h.0, each_end_more P calls ends c e h.1 at p)

  pub each_end_map : (P Q : Call State Op Query Reply → CallEnd State Op Query Reply → Type 0) (calls : List (Call State Op Query Reply)) (ends : List (CallEnd State Op Query Reply))
      → ((c : Call State Op Query Reply) (e : CallEnd State Op Query Reply) → P c e → Q c e) → EachEnd P calls ends → EachEnd Q calls ends
  each_end_map P Q calls [] f h = tt
  each_end_map P Q [] (e ∷ ends) f h = h
  each_end_map P Q (c ∷ calls) (e ∷ ends) f h = (f c e h.0, each_end_map P Q calls ends f h.1)

  pub each_later_more : (R : Call State Op Query Reply → CallEnd State Op Query Reply → Call State Op Query Reply → CallEnd State Op Query Reply → Type 0) (calls : List (Call State Op Query Reply)) (ends : List (CallEnd State Op Query Reply)) (c : Call State Op Query Reply) (e : CallEnd State Op Query Reply)
      → EachLaterEnd R calls ends → slice_get calls (length ends) ≡ Some c → EachEnd (λ d f. R d f c e) calls ends → EachLaterEnd R calls (ends ++ e ∷ [])
  each_later_more R [] [] c e h at earlier = some_not_none c (sym at)
  each_later_more R (d ∷ calls) [] c e h at earlier = (tt, tt)
  each_later_more R [] (f ∷ ends) c e h at earlier = h
  each_later_more R (d ∷ calls) (f ∷ ends) c e h at earlier = (each_end_more (R d f) calls ends c e h.0 at earlier.0, each_later_more R calls ends c e h.1 at earlier.1)

  pub none_placed : (b : Behaviour State Op Query Reply) (calls : List (Call State Op Query Reply)) → placed_updates b calls [] ≡ []
  none_placed b [] = refl
  none_placed b (c ∷ calls) = refl

  pub placed_update : (b : Behaviour State Op Query Reply) (calls : List (Call State Op Query Reply)) (ends : List (CallEnd State Op Query Reply)) (op : Op) (e : CallEnd State Op Query Reply)
      → slice_get calls (length ends) ≡ Some (Update op) → placed_updates b calls (ends ++ e ∷ []) ≡ placed_updates b calls ends ++ at_place (b.row_of op) (place_in e)
  placed_update b [] [] op e at = some_not_none (Update op) (sym at)
  placed_update b [] (f ∷ ends) op e at = some_not_none (Update op) (sym at)
  placed_update b (Update o ∷ calls) [] op e at = let same : o ≡ op = (cc) in
      ap (λ l. at_place (b.row_of o) (place_in e) ++ l) (none_placed b calls) ∙ (append-nil (at_place (b.row_of o) (place_in e)) ∙ ap (λ z. at_place (b.row_of z) (place_in e)) same)
  placed_update b (Ask query ∷ calls) [] op e at = absurd (cc)
  placed_update b (Update o ∷ calls) (f ∷ ends) op e at = ap (λ l. at_place (b.row_of o) (place_in f) ++ l) (placed_update b calls ends op e at)
      ∙ sym (append_assoc (at_place (b.row_of o) (place_in f)) (placed_updates b calls ends) (at_place (b.row_of op) (place_in e)))
  placed_update b (Ask query ∷ calls) (f ∷ ends) op e at = placed_update b calls ends op e at

  pub placed_ask : (b : Behaviour State Op Query Reply) (calls : List (Call State Op Query Reply)) (ends : List (CallEnd State Op Query Reply)) (query : Query) (e : CallEnd State Op Query Reply)
      → slice_get calls (length ends) ≡ Some (Ask query) → placed_updates b calls (ends ++ e ∷ []) ≡ placed_updates b calls ends
  placed_ask b [] [] query e at = some_not_none (Ask query) (sym at)
  placed_ask b [] (f ∷ ends) query e at = some_not_none (Ask query) (sym at)
  placed_ask b (Update o ∷ calls) [] query e at = absurd (cc)
  placed_ask b (Ask q ∷ calls) [] query e at = none_placed b calls
  placed_ask b (Update o ∷ calls) (f ∷ ends) query e at = ap (λ l. at_place (b.row_of o) (place_in f) ++ l) (placed_ask b calls ends query e at)
  placed_ask b (Ask q ∷ calls) (f ∷ ends) query e at = placed_ask b calls ends query e at

  -- a running call has no place
  pub placed_running : (b : Behaviour State Op Query Reply) (calls : List (Call State Op Query Reply)) (ends : List (CallEnd State Op Query Reply)) (c : Call State Op Query Reply)
      → slice_get calls (length ends) ≡ Some c → placed_updates b calls (ends ++ Running ∷ []) ≡ placed_updates b calls ends
  placed_running b calls ends (Update op) at = placed_update b calls ends op Running at ∙ append-nil (placed_updates b calls ends)
  placed_running b calls ends (Ask query) at = placed_ask b calls ends query Running at

-- a thread's places with its next node
pub rows_own : (t below : ℕ) (nodes : List Node) (x : Node) → x.thread ≡ t → placed_rows t below (nodes ++ x ∷ []) ≡ placed_rows t below nodes ++ (x.row, below + length nodes + 1) ∷ []
rows_own t below [] x e = let k : below + 1 ≡ below + 0 + 1 = omega arith in
    ap (λ (c : Bool). cond c ((x.row, below + 1) ∷ []) [] ++ []) (eq-eqb x.thread t e) ∙ ap (λ (n : ℕ). (x.row, n) ∷ []) k
rows_own t below (y ∷ nodes) x e = let k : below + 1 + length nodes + 1 ≡ below + suc (length nodes) + 1 = omega arith in let first : List (OpRow × ℕ) = cond (is_of_thread t y) ((y.row, below + 1) ∷ []) [] in
    ap (λ l. first ++ l) (rows_own t (below + 1) nodes x e ∙ ap (λ (n : ℕ). placed_rows t (below + 1) nodes ++ (x.row, n) ∷ []) k) ∙ sym (append_assoc first (placed_rows t (below + 1) nodes) ((x.row, below + suc (length nodes) + 1) ∷ []))

-- another thread's node changes nothing
pub rows_other : (t below : ℕ) (nodes : List Node) (x : Node) → x.thread ≢ t → placed_rows t below (nodes ++ x ∷ []) ≡ placed_rows t below nodes
rows_other t below [] x e = ap (λ (c : Bool). cond c ((x.row, below + 1) ∷ []) [] ++ []) (ne_eqb x.thread t e)
rows_other t below (y ∷ nodes) x e = ap (λ l. cond (is_of_thread t y) ((y.row, below + 1) ∷ []) [] ++ l) (rows_other t (below + 1) nodes x e)
