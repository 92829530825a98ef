use Rattle.std.proofs.Common.{Bool, true, false, List, [], ◌∷◌, ◌≡◌, cond, map, filter, refl, ap, ◌∙◌}

-- What stays of names, from what stays of the strings that hold them.

map-cond : {X Y : Type 0} (f : X → Y) (b : Bool) (x : X) (xs : List X) → map f (cond b (x ∷ xs) xs) ≡ cond b (f x ∷ map f xs) (map f xs)
map-cond f true x xs = refl
map-cond f false x xs = refl

pub map-filter : {X Y : Type 0} (f : X → Y) (p : Y → Bool) (xs : List X) → map f (filter (λ x. p (f x)) xs) ≡ filter p (map f xs)
map-filter f p [] = refl
map-filter f p (x ∷ xs) =
    map-cond f (p (f x)) x (filter (λ y. p (f y)) xs) ∙ ap (λ ys. cond (p (f x)) (f x ∷ ys) ys) (map-filter f p xs)
