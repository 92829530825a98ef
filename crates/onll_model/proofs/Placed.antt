use Rattle.std.proofs.Common.{◌≡◌, ℕ, zero, suc, ◌+◌, ◌⊎◌, inl, inr, ⊎_elim, Bool, true, false, List, [], ◌∷◌, ◌++◌, drop, Option, Some, refl, sym, ap, ◌∙◌, subst, arith, eqb-true, if◌then◌else◌}
use Rattle.std.specs.List.{slice_get}
use Rattle.onll_words.specs.declared.line.OpRow.{OpRow}
use Rattle.onll_model.specs.declared.node.Node.{Node}
use Rattle.onll_model.specs.declared.call.Call.{Call}
use Rattle.onll_model.specs.declared.call.Call.TheVariants.{Update, Ask}
use Rattle.onll_model.specs.declared.call.CallEnd.{CallEnd}
use Rattle.onll_model.specs.Object.{Behaviour}
use Rattle.onll_model.specs.Trace.{node_at, is_of_thread}
use Rattle.onll_model.specs.Legal.{place_in, at_place, placed_updates, placed_rows, EachEnd}
use Rattle.onll_model.proofs.Lists.{same_some, some_not_none, get_dropped}

-- An update that has a place has its node there.

-- one of the list
abbrev IsIn : {A : Type 0} → A → List A → Type 0
IsIn x [] = ⊥
IsIn x (y ∷ ys) = (x ≡ y) ⊎ IsIn x ys

in_right : {A : Type 0} (x : A) (xs ys : List A) → IsIn x ys → IsIn x (xs ++ ys)
in_right x [] ys h = h
in_right x (y ∷ xs) ys h = inr (in_right x xs ys h)

module _ {State Op Query Reply : Type 0} where
  -- the outcome of a call
  pub each_end_at : (P : Call State Op Query Reply → CallEnd State Op Query Reply → Type 0) (calls : List (Call State Op Query Reply)) (ends : List (CallEnd State Op Query Reply)) (i : ℕ) (c : Call State Op Query Reply) (e : CallEnd State Op Query Reply)
      → EachEnd P calls ends → slice_get calls i ≡ Some c → slice_get ends i ≡ Some e → P c e
  each_end_at P calls [] i c e h at is = some_not_none e (sym is)
  each_end_at P [] (x ∷ ends) i c e h at is = absurd h
  each_end_at P (d ∷ calls) (x ∷ ends) zero c e h at is = subst (λ (z : Call State Op Query Reply × CallEnd State Op Query Reply). P z.0 z.1) (let a = same_some d c at in let b = same_some x e is in λ i. (a i, b i)) h.0
  each_end_at P (d ∷ calls) (x ∷ ends) (suc i) c e h at is = each_end_at P calls ends i c e h.1 at is

  -- each outcome has its call
  pub each_end_call : (P : Call State Op Query Reply → CallEnd State Op Query Reply → Type 0) (calls : List (Call State Op Query Reply)) (ends : List (CallEnd State Op Query Reply)) (i : ℕ) (e : CallEnd State Op Query Reply)
      → EachEnd P calls ends → slice_get ends i ≡ Some e → (c : Call State Op Query Reply) × (slice_get calls i ≡ Some c)
  each_end_call P calls [] i e h is = some_not_none e (sym is)
  each_end_call P [] (x ∷ ends) i e h is = absurd h
  each_end_call P (c ∷ calls) (x ∷ ends) zero e h is = (c, refl)
  each_end_call P (c ∷ calls) (x ∷ ends) (suc i) e h is = each_end_call P calls ends i e h.1 is

  placed_in : (b : Behaviour State Op Query Reply) (calls : List (Call State Op Query Reply)) (ends : List (CallEnd State Op Query Reply)) (i : ℕ) (op : Op) (e : CallEnd State Op Query Reply) (p : ℕ)
      → slice_get calls i ≡ Some (Update op) → slice_get ends i ≡ Some e → place_in e ≡ Some p → IsIn (b.row_of op, p) (placed_updates b calls ends)
  placed_in b [] ends i op e p at is place = some_not_none (Update op) (sym at)
  placed_in b (c ∷ calls) [] i op e p at is place = some_not_none e (sym is)
  placed_in b (Update o ∷ calls) (x ∷ ends) zero op e p at is place =
      let same : Update o ≡ Update op = same_some (Update o) (Update op) at in
      let o_is : o ≡ op = (cc) in
      let x_place : place_in x ≡ Some p = ap place_in (same_some x e is) ∙ place in
      subst (λ (z : Op × Option ℕ). IsIn (b.row_of op, p) (at_place (b.row_of z.0) z.1 ++ placed_updates b calls ends)) (λ i. (sym o_is i, sym x_place i)) (inl refl)
  placed_in b (Ask q ∷ calls) (x ∷ ends) zero op e p at is place = let same : Ask q ≡ Update op = same_some (Ask q) (Update op) at in absurd (cc)
  placed_in b (Update o ∷ calls) (x ∷ ends) (suc i) op e p at is place = in_right (b.row_of op, p) (at_place (b.row_of o) (place_in x)) (placed_updates b calls ends) (placed_in b calls ends i op e p at is place)
  placed_in b (Ask q ∷ calls) (x ∷ ends) (suc i) op e p at is place = placed_in b calls ends i op e p at is place

-- a thread's node, with this row
pub record IsOwnNode (trace : List Node) (t : ℕ) (row : OpRow) (place : ℕ) : Type 0 where
  pub node : Node
  pub here : node_at trace place ≡ Some node
  pub own : node.thread ≡ t
  pub row_is : node.row ≡ row

record IsRowAt (t below : ℕ) (nodes : List Node) (row : OpRow) (place : ℕ) : Type 0 where
  pub index : ℕ
  pub node : Node
  pub here : slice_get nodes index ≡ Some node
  pub place_is : place ≡ suc (below + index)
  pub own : node.thread ≡ t
  pub row_is : node.row ≡ row

row_at : (t below : ℕ) (nodes : List Node) (row : OpRow) (place : ℕ) → IsIn (row, place) (placed_rows t below nodes) → IsRowAt t below nodes row place
row_at t below [] row place h = absurd h
row_at t below (n ∷ nodes) row place h = by (is_of_thread t n) refl (λ k. row_at t (below + 1) nodes row place k) h
  where
    later : IsRowAt t (below + 1) nodes row place → IsRowAt t below (n ∷ nodes) row place
    later r = let e = r.place_is in record { index = suc r.index; node = r.node; here = r.here; place_is = omega arith; own = r.own; row_is = r.row_is }

    by : (b : Bool) → is_of_thread t n ≡ b → (IsIn (row, place) (placed_rows t (below + 1) nodes) → IsRowAt t (below + 1) nodes row place)
        → IsIn (row, place) ((if b then (n.row, below + 1) ∷ [] else []) ++ placed_rows t (below + 1) nodes) → IsRowAt t below (n ∷ nodes) row place
    by false e rest k = later (rest k)
    by true e rest k = ⊎_elim
        (λ (same : (row, place) ≡ (n.row, below + 1)). let p = ap (λ z. z.1) same in record { index = 0; node = n; here = refl; place_is = omega arith; own = eqb-true n.thread t e; row_is = sym (ap (λ z. z.0) same) })
        (λ (more : IsIn (row, place) (placed_rows t (below + 1) nodes)). later (rest more)) k

-- where a thread's placed updates are its nodes above the base, each stands at its place
pub own_node : {State Op Query Reply : Type 0} (b : Behaviour State Op Query Reply) (base : ℕ) (trace : List Node) (t : ℕ) (calls : List (Call State Op Query Reply)) (ends : List (CallEnd State Op Query Reply))
    → placed_updates b calls ends ≡ placed_rows t base (drop base trace) → (i : ℕ) (op : Op) (e : CallEnd State Op Query Reply) (p : ℕ) → slice_get calls i ≡ Some (Update op) → slice_get ends i ≡ Some e → place_in e ≡ Some p
    → IsOwnNode trace t (b.row_of op) p
own_node b base trace t calls ends places i op e p at is place =
    let r = row_at t base (drop base trace) (b.row_of op) p (subst (IsIn (b.row_of op, p)) places (placed_in b calls ends i op e p at is place)) in
    record { node = r.node; here = ap (node_at trace) r.place_is ∙ (sym (get_dropped base trace r.index) ∙ r.here); own = r.own; row_is = r.row_is }
