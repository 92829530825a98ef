use Rattle.std.proofs.Common.{ℕ, zero, suc, ◌≡◌, List, [], ◌∷◌, ◌++◌, length, take, drop, Some, refl, ap}
use Rattle.std.specs.List.{slice_get}
use Rattle.onll_model.specs.declared.call.Call.{Call}
use Rattle.onll_model.specs.declared.call.Call.TheVariants.{Update, Ask}
use Rattle.onll_model.specs.Calls.{updates_in}

-- On the calls of a script.

pub length_snoc : {A : Type 0} (xs : List A) (x : A) → length (xs ++ x ∷ []) ≡ suc (length xs)
length_snoc [] x = refl
length_snoc (y ∷ xs) x = ap suc (length_snoc xs x)

module _ {State Op Query Reply : Type 0} where
  -- what an update leaves of the updates of a script, and what a read leaves
  pub update_left : (xs : List (Call State Op Query Reply)) (n : ℕ) (op : Op) → slice_get xs n ≡ Some (Update op) → updates_in (drop n xs) ≡ suc (updates_in (drop (suc n) xs))
  update_left [] n op e = absurd (cc)
  update_left (x ∷ xs) zero op e = let same : x ≡ Update op = (cc) in ap (λ (c : Call State Op Query Reply). updates_in (c ∷ xs)) same
  update_left (x ∷ xs) (suc n) op e = update_left xs n op e

  pub ask_left : (xs : List (Call State Op Query Reply)) (n : ℕ) (query : Query) → slice_get xs n ≡ Some (Ask query) → updates_in (drop n xs) ≡ updates_in (drop (suc n) xs)
  ask_left [] n query e = absurd (cc)
  ask_left (x ∷ xs) zero query e = let same : x ≡ Ask query = (cc) in ap (λ (c : Call State Op Query Reply). updates_in (c ∷ xs)) same
  ask_left (x ∷ xs) (suc n) query e = ask_left xs n query e

  -- the updates of a front of a script, with one call more
  pub update_taken : (xs : List (Call State Op Query Reply)) (n : ℕ) (op : Op) → slice_get xs n ≡ Some (Update op) → updates_in (take (suc n) xs) ≡ suc (updates_in (take n xs))
  update_taken [] n op e = absurd (cc)
  update_taken (x ∷ xs) zero op e = let same : x ≡ Update op = (cc) in ap (λ (c : Call State Op Query Reply). updates_in (c ∷ [])) same
  update_taken (Update o ∷ xs) (suc n) op e = ap suc (update_taken xs n op e)
  update_taken (Ask q ∷ xs) (suc n) op e = update_taken xs n op e

  pub ask_taken : (xs : List (Call State Op Query Reply)) (n : ℕ) (query : Query) → slice_get xs n ≡ Some (Ask query) → updates_in (take (suc n) xs) ≡ updates_in (take n xs)
  ask_taken [] n query e = absurd (cc)
  ask_taken (x ∷ xs) zero query e = let same : x ≡ Ask query = (cc) in ap (λ (c : Call State Op Query Reply). updates_in (c ∷ [])) same
  ask_taken (Update o ∷ xs) (suc n) query e = ap suc (ask_taken xs n query e)
  ask_taken (Ask q ∷ xs) (suc n) query e = ask_taken xs n query e
