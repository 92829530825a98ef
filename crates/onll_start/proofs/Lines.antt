use Rattle.std.proofs.Common.{ℕ, ◌≡◌, ◌+◌, ◌-◌, ◌<◌, List, [], ◌∷◌, length, map, take, get_or, sym, ap, ◌∙◌, subst, arith}
use Rattle.std.specs.List.{AllByRecursion}
use Rattle.std.proofs.lemmas.List.{take_more, get_or-map, length-map}
use Rattle.onll_words.specs.declared.line.Line.{Line}
use Rattle.onll_model.proofs.Lists.{all_append}
use Rattle.onll_pmem.specs.Pmem.{words_of}
use Rattle.onll_pmem.specs.Device.{line_at}
use Rattle.onll_log.specs.Torn.{IsLine, AreLines}

-- Images whose lines are looked at one by one.

-- one line more has eight words
pub eight_more : (image : List Line) (i : ℕ) (line : List ℕ) → i < length image → line ≡ line_at (words_of image) i → length line ≡ 8 → AreLines (take i (words_of image)) → AreLines (take (i + 1) (words_of image))
eight_more image i line low is eight h =
    let words : List (List ℕ) = words_of image in
    let count : length words ≡ length image = length-map image (λ (l : Line). l.w) in
    let one : IsLine (get_or words i []) = ap length (sym is) ∙ eight in
    subst AreLines (sym (take_more words i [] (omega arith))) (all_append IsLine (take i words) (get_or words i [] ∷ []) h (one, tt))

-- one image more has such lines
pub lines_more : {V : Type 0} (items : V → List Line) (images : List V) (i : ℕ) (image : V) → i < length images → image ≡ get_or images i image → AreLines (words_of (items image))
    → AllByRecursion AreLines (take i (map (λ v. words_of (items v)) images)) → AllByRecursion AreLines (take (i + 1) (map (λ v. words_of (items v)) images))
lines_more {V} items images i image low is eight h =
    let f : V → List (List ℕ) = (λ v. words_of (items v)) in
    let all : List (List (List ℕ)) = map f images in
    let count : length all ≡ length images = length-map images f in
    let here : get_or all i [] ≡ f image = get_or-map f images i image [] low ∙ ap f (sym is) in
    subst (AllByRecursion AreLines) (sym (take_more all i [] (omega arith))) (all_append AreLines (take i all) (get_or all i [] ∷ []) h (subst AreLines (sym here) eight, tt))
