-- Elements that are taken from the end of one list and put into another.
use Rattle.std.proofs.Common.{◌≡◌, List, [], ◌∷◌, ◌++◌, map, sym, ap, ◌∙◌, append_assoc}
use Rattle.std.specs.Prelude.{reverse}
use Rattle.std.proofs.lemmas.List.{map-append, reverse-append}
use Rattle.onll_shared.proofs.Making.{map_reverse}

-- one element more, the last one first
pub back_one : {A B : Type 0} (f : A → B) (now front : List A) (x : A) (done done' whole : List B)
    → map f now ++ reverse done ≡ whole → now ≡ front ++ x ∷ [] → done' ≡ done ++ f x ∷ [] → map f front ++ reverse done' ≡ whole
back_one f now front x done done' whole all is put =
    ap (λ (ys : List _). map f front ++ ys) (ap reverse put ∙ reverse-append done (f x ∷ []))
    ∙ (sym (append_assoc (map f front) (f x ∷ []) (reverse done))
    ∙ (ap (λ (ys : List _). ys ++ reverse done) (sym (ap (map f) is ∙ map-append f front (x ∷ []))) ∙ all))

-- all were put there
pub back_all : {A B C : Type 0} (f : A → C) (h : B → C) (now : List A) (done result : List B) (whole : List C)
    → map f now ++ reverse (map h done) ≡ whole → now ≡ [] → result ≡ reverse done → map h result ≡ whole
back_all f h now done result whole all none is =
    ap (map h) is ∙ (map_reverse h done ∙ (ap (λ (xs : List _). map f xs ++ reverse (map h done)) (sym none) ∙ all))
