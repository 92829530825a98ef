-- Lines in memory have eight words of 64 bits.

use Rattle.std.proofs.Common.{ℕ, ◌≡◌, ◌+◌, ◌<◌, List, [], ◌∷◌, ◌++◌, length, map, take, get_or, sym, ap, ◌∙◌}
use Rattle.std.proofs.lemmas.List.{take_more, map-append}
use Rattle.std.specs.List.{All, AllByRecursion}
use Rattle.std.proofs.lemmas.List.Elements.{All-head, All-tail}
use Rattle.onll_words.specs.declared.line.Line.{Line}
use Rattle.onll_pmem.specs.Pmem.{words_of}
use Rattle.onll_outside.specs.LineFiles.{IsWholeLine}

pub words_whole : (lines : List Line) → All (λ (line : Line). IsWholeLine line.w) lines → AllByRecursion IsWholeLine (words_of lines)
words_whole [] h = tt
words_whole (line ∷ lines) h =
    let Whole : Line → Type 0 = λ (line : Line). IsWholeLine line.w in
    (All-head Whole line lines h, words_whole lines (All-tail Whole line lines h))

-- one more of two lists that are mapped alike
pub map_more : {A B C : Type 0} (f : A → C) (g : B → C) (xs more : List A) (x : A) (ys : List B) (i : ℕ) (y : B) → i < length ys → get_or ys i y ≡ y → more ≡ xs ++ x ∷ [] → f x ≡ g y
    → map f xs ≡ map g (take i ys) → map f more ≡ map g (take (i + 1) ys)
map_more f g xs more x ys i y low at pushed same so =
    ap (map f) pushed ∙ map-append f xs (x ∷ []) ∙ (λ j. so j ++ (same ∙ ap g (sym at)) j ∷ []) ∙ sym (map-append g (take i ys) (get_or ys i y ∷ [])) ∙ sym (ap (map g) (take_more ys i y low))
