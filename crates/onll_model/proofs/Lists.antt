use Rattle.std.proofs.Common.{◌≡◌, ◌≢◌, ℕ, zero, suc, ◌+◌, ◌-◌, ◌<◌, ◌≤◌, ◌⊎◌, inl, inr, List, [], ◌∷◌, ◌++◌, length, take, drop, set, Some, None, refl, sym, ap, ◌∙◌, subst, ⊎_elim, arith}
use Rattle.std.specs.List.{AllByRecursion, slice_get}

-- On lists read by place.

module _ {A : Type 0} where
  pub same_some : (x y : A) → Some x ≡ Some y → x ≡ y
  same_some x y e = (cc)

  pub some_not_none : {B : Type 0} (x : A) → Some x ≡ None → B
  some_not_none x e = absurd (cc)

  pub inside : (xs : List A) (p : ℕ) (x : A) → slice_get xs p ≡ Some x → p < length xs
  inside [] p x e = some_not_none x (sym e)
  inside (y ∷ xs) zero x e = omega arith
  inside (y ∷ xs) (suc p) x e = let h = inside xs p x e in omega arith

  pub present : (xs : List A) (p : ℕ) → p < length xs → (x : A) × (slice_get xs p ≡ Some x)
  present [] p l = absurd (omega arith)
  present (y ∷ xs) zero l = (y, refl)
  present (y ∷ xs) (suc p) l = present xs p (omega arith)

  pub at_set : (l : List A) (i j : ℕ) (a b : A) → slice_get (set l i a) j ≡ Some b → ((j ≡ i) × (a ≡ b)) ⊎ ((j ≢ i) × (slice_get l j ≡ Some b))
  at_set [] i j a b e = some_not_none b (sym e)
  at_set (x ∷ xs) zero zero a b e = inl (refl, same_some a b e)
  at_set (x ∷ xs) zero (suc j) a b e = inr ((λ h. omega arith), e)
  at_set (x ∷ xs) (suc i) zero a b e = inr ((λ h. omega arith), e)
  at_set (x ∷ xs) (suc i) (suc j) a b e = ⊎_elim (λ t. inl (ap suc t.0, t.1)) (λ t. let n = t.0 in inr ((λ h. n (omega arith)), t.1)) (at_set xs i j a b e)

  pub set_here : (l : List A) (i : ℕ) (a b : A) → slice_get l i ≡ Some b → slice_get (set l i a) i ≡ Some a
  set_here [] i a b e = some_not_none b (sym e)
  set_here (x ∷ xs) zero a b e = refl
  set_here (x ∷ xs) (suc i) a b e = set_here xs i a b e

  pub set_else : (l : List A) (i j : ℕ) (a : A) → j ≢ i → slice_get (set l i a) j ≡ slice_get l j
  set_else [] i j a n = refl
  set_else (x ∷ xs) zero zero a n = absurd (n refl)
  set_else (x ∷ xs) zero (suc j) a n = refl
  set_else (x ∷ xs) (suc i) zero a n = refl
  set_else (x ∷ xs) (suc i) (suc j) a n = set_else xs i j a (λ e. n (ap suc e))

  pub set_same : (xs : List A) (i : ℕ) (x : A) → slice_get xs i ≡ Some x → set xs i x ≡ xs
  set_same [] i x e = refl
  set_same (y ∷ xs) zero x e = ap (λ z. z ∷ xs) (sym (same_some y x e))
  set_same (y ∷ xs) (suc i) x e = ap (λ l. y ∷ l) (set_same xs i x e)

  pub set_set : (xs : List A) (i : ℕ) (x y : A) → set (set xs i x) i y ≡ set xs i y
  set_set [] i x y = refl
  set_set (z ∷ xs) zero x y = refl
  set_set (z ∷ xs) (suc i) x y = ap (λ l. z ∷ l) (set_set xs i x y)

  pub at_snoc : (xs : List A) (x y : A) (p : ℕ) → slice_get (xs ++ x ∷ []) p ≡ Some y → (slice_get xs p ≡ Some y) ⊎ ((p ≡ length xs) × (x ≡ y))
  at_snoc [] x y zero e = inr (refl, same_some x y e)
  at_snoc [] x y (suc p) e = some_not_none y (sym e)
  at_snoc (z ∷ xs) x y zero e = inl e
  at_snoc (z ∷ xs) x y (suc p) e = ⊎_elim (λ (h : slice_get xs p ≡ Some y). inl h) (λ (h : (p ≡ length xs) × (x ≡ y)). inr (ap suc h.0, h.1)) (at_snoc xs x y p e)

  pub at_before : (xs ys : List A) (p : ℕ) → p < length xs → slice_get (xs ++ ys) p ≡ slice_get xs p
  at_before [] ys p l = absurd (omega arith)
  at_before (x ∷ xs) ys zero l = refl
  at_before (x ∷ xs) ys (suc p) l = at_before xs ys p (omega arith)

  pub at_end : (xs : List A) (x : A) → slice_get (xs ++ x ∷ []) (length xs) ≡ Some x
  at_end [] x = refl
  at_end (y ∷ xs) x = at_end xs x

  pub length_dropped : (m : ℕ) (xs : List A) → m ≤ length xs → m + length (drop m xs) ≡ length xs
  length_dropped zero xs low = omega arith
  length_dropped (suc m) [] low = absurd (omega (arith, low))
  length_dropped (suc m) (x ∷ xs) low = let rest = length_dropped m xs (omega (arith, low)) in omega (arith, rest)

  pub get_dropped : (m : ℕ) (xs : List A) (i : ℕ) → slice_get (drop m xs) i ≡ slice_get xs (m + i)
  get_dropped zero xs i = let z : i ≡ 0 + i = omega arith in ap (slice_get xs) z
  get_dropped (suc m) [] i = refl
  get_dropped (suc m) (x ∷ xs) i = let z : suc m + i ≡ suc (m + i) = omega arith in get_dropped m xs i ∙ sym (ap (slice_get (x ∷ xs)) z)

  pub take_before : (xs ys : List A) (p : ℕ) → p ≤ length xs → take p (xs ++ ys) ≡ take p xs
  take_before xs ys zero l = refl
  take_before [] ys (suc p) l = absurd (omega arith)
  take_before (x ∷ xs) ys (suc p) l = ap (λ zs. x ∷ zs) (take_before xs ys p (omega arith))

  pub take_all : (xs : List A) → take (length xs) xs ≡ xs
  take_all [] = refl
  take_all (x ∷ xs) = ap (λ l. x ∷ l) (take_all xs)

  -- the elements above d, up to p

  pub length_window : (xs : List A) (d p : ℕ) → d ≤ p → p ≤ length xs → length (drop d (take p xs)) ≡ p - d
  length_window xs zero zero a b = omega arith
  length_window [] zero (suc p) a b = absurd (omega arith)
  length_window (x ∷ xs) zero (suc p) a b = let h = length_window xs zero p (omega arith) (omega arith) in omega arith
  length_window xs (suc d) zero a b = absurd (omega arith)
  length_window [] (suc d) (suc p) a b = absurd (omega arith)
  length_window (x ∷ xs) (suc d) (suc p) a b = let h = length_window xs d p (omega arith) (omega arith) in omega arith

  pub at_window : (xs : List A) (d p i : ℕ) (x : A) → slice_get (drop d (take p xs)) i ≡ Some x → (slice_get xs (d + i) ≡ Some x) × (d + i < p)
  at_window xs zero zero i x e = some_not_none x (sym e)
  at_window [] zero (suc p) i x e = some_not_none x (sym e)
  at_window (y ∷ xs) zero (suc p) zero x e = let k : 0 + 0 ≡ 0 = omega arith in (ap (slice_get (y ∷ xs)) k ∙ e, omega arith)
  at_window (y ∷ xs) zero (suc p) (suc i) x e = let h = at_window xs zero p i x e in let k : 0 + suc i ≡ suc (0 + i) = omega arith in (ap (slice_get (y ∷ xs)) k ∙ h.0, let l = h.1 in omega arith)
  at_window xs (suc d) zero i x e = some_not_none x (sym e)
  at_window [] (suc d) (suc p) i x e = some_not_none x (sym e)
  at_window (y ∷ xs) (suc d) (suc p) i x e = let h = at_window xs d p i x e in let k : suc d + i ≡ suc (d + i) = omega arith in (ap (slice_get (y ∷ xs)) k ∙ h.0, let l = h.1 in omega arith)

  -- a fact of each element

  module _ (P : A → Type 0) where
    pub all_at : (xs : List A) → AllByRecursion P xs → (i : ℕ) (x : A) → slice_get xs i ≡ Some x → P x
    all_at [] h i x e = some_not_none x (sym e)
    all_at (y ∷ xs) h zero x e = subst P (same_some y x e) h.0
    all_at (y ∷ xs) h (suc i) x e = all_at xs h.1 i x e

    pub all_from : (xs : List A) → ((i : ℕ) (x : A) → slice_get xs i ≡ Some x → P x) → AllByRecursion P xs
    all_from [] h = tt
    all_from (y ∷ xs) h = (h 0 y refl, all_from xs (λ i x e. h (suc i) x e))

    pub all_append : (xs ys : List A) → AllByRecursion P xs → AllByRecursion P ys → AllByRecursion P (xs ++ ys)
    all_append [] ys h k = k
    all_append (x ∷ xs) ys h k = (h.0, all_append xs ys h.1 k)

    pub all_left : (xs ys : List A) → AllByRecursion P (xs ++ ys) → AllByRecursion P xs
    all_left [] ys h = tt
    all_left (x ∷ xs) ys h = (h.0, all_left xs ys h.1)

    pub all_right : (xs ys : List A) → AllByRecursion P (xs ++ ys) → AllByRecursion P ys
    all_right [] ys h = h
    all_right (x ∷ xs) ys h = all_right xs ys h.1

    pub all_take : (n : ℕ) (xs : List A) → AllByRecursion P xs → AllByRecursion P (take n xs)
    all_take zero xs h = tt
    all_take (suc n) [] h = tt
    all_take (suc n) (x ∷ xs) h = (h.0, all_take n xs h.1)

    pub all_drop : (n : ℕ) (xs : List A) → AllByRecursion P xs → AllByRecursion P (drop n xs)
    all_drop zero xs h = h
    all_drop (suc n) [] h = tt
    all_drop (suc n) (x ∷ xs) h = all_drop n xs h.1

  pub all_map : (P Q : A → Type 0) (xs : List A) → ((x : A) → P x → Q x) → AllByRecursion P xs → AllByRecursion Q xs
  all_map P Q [] f h = tt
  all_map P Q (x ∷ xs) f h = (f x h.0, all_map P Q xs f h.1)
