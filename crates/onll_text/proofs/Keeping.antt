use Rattle.std.proofs.Common.{ℕ, true, List, [], ◌∷◌, ◌++◌, ◌≡◌, ◌+◌, ◌<◌, ◌≤◌, ◌∙◌, length, drop, map, get_or, arith, ap, sym, subst, append_assoc}
use Rattle.std.specs.List.{flat_map}
use Rattle.std.specs.Io.{StartsWith}
use Rattle.std.proofs.lemmas.List.{take-append-le, length-take, drop_more}
use Rattle.onll_words.specs.Texts.{line_text, AreWords}
use Rattle.onll_text.specs.declared.report.Piece.{Piece}
use Rattle.onll_text.specs.Pieces.{piece_word}
use Rattle.onll_text.specs.Bytes.{begins_line, with_word, with_words, with_lines, IsFront}
use Rattle.onll_text.proofs.Appending.{with_words-append, with_words-line}

-- a front stays one when bytes are appended
pub take-append_front : (old more front : List ℕ) → StartsWith old front → StartsWith (old ++ more) front
take-append_front old more front h =
    let n : length front ≤ length old = omega (arith, length-take (length front) old, ap length h) in
    take-append-le (length front) old more n ∙ h

-- what begins the first of two parts begins both
pub part_front : (new part more whole : List ℕ) → part ++ more ≡ whole → IsFront new part → IsFront new whole
part_front new part more whole e within front f = subst (λ t. StartsWith t front) e (take-append_front part more front (within front f))

-- bytes with words begin with these bytes
pub words_front : (bytes : List ℕ) (ws : List (List ℕ)) → IsFront bytes (with_words bytes ws)
words_front bytes [] front h = h
words_front bytes (w ∷ ws) front h = words_front (with_word bytes w) ws front (take-append_front bytes _ front h)

-- what begins the first words begins all
pub more_words_front : (bytes new : List ℕ) (vs ws : List (List ℕ)) → IsFront new (with_words bytes vs) → IsFront new (with_words bytes (vs ++ ws))
more_words_front bytes new vs ws within front f =
    subst (λ t. StartsWith t front) (sym (with_words-append bytes vs ws)) (words_front (with_words bytes vs) ws front (within front f))

-- one of the pieces that are left before the rest
pub piece_front : (bytes new whole : List ℕ) (pieces : List Piece) (i : ℕ) (p : Piece) → i < length pieces → p ≡ get_or pieces i p
    → with_words bytes (map piece_word (drop i pieces)) ≡ whole → IsFront new (with_word bytes (piece_word p)) → IsFront new whole
piece_front bytes new whole pieces i p h same e within front f =
    let left : drop i pieces ≡ p ∷ drop (i + 1) pieces = drop_more pieces i p h ∙ ap (λ (q : Piece). q ∷ drop (i + 1) pieces) (sym same) in
    subst (λ t. StartsWith t front) (ap (λ ps. with_words bytes (map piece_word ps)) (sym left) ∙ e)
    (words_front (with_word bytes (piece_word p)) (map piece_word (drop (i + 1) pieces)) front (within front f))

-- the words of a line begin it
pub line_front : (old new v : List ℕ) (vs : List (List ℕ)) → begins_line old ≡ true → AreWords (v ∷ vs) → IsFront new (with_words old (v ∷ vs)) → IsFront new (old ++ line_text (v ∷ vs))
line_front old new v vs h k within = part_front new (with_words old (v ∷ vs)) (10 ∷ []) (old ++ line_text (v ∷ vs)) (with_words-line old v vs h k) within

-- and so do they with the line's end
pub line_end_front : (old began new v : List ℕ) (vs : List (List ℕ)) → began ≡ with_words old (v ∷ vs) → begins_line old ≡ true → AreWords (v ∷ vs)
    → IsFront new (began ++ 10 ∷ []) → IsFront new (old ++ line_text (v ∷ vs))
line_end_front old began new v vs e h k within front f = subst (λ t. StartsWith t front) (ap (λ t. t ++ 10 ∷ []) e ∙ with_words-line old v vs h k) (within front f)

-- the same of any pieces, where there is one
pub pieces_front : (old new : List ℕ) (pieces : List Piece) → begins_line old ≡ true → 1 ≤ length pieces → AreWords (map piece_word pieces)
    → IsFront new (with_words old (map piece_word pieces)) → IsFront new (old ++ line_text (map piece_word pieces))
pieces_front old new [] h n k within = absurd (omega arith)
pieces_front old new (p ∷ ps) h n k within = line_front old new (piece_word p) (map piece_word ps) h k within

pub pieces_end_front : (old began new : List ℕ) (pieces : List Piece) → began ≡ with_words old (map piece_word pieces) → begins_line old ≡ true → 1 ≤ length pieces → AreWords (map piece_word pieces)
    → IsFront new (began ++ 10 ∷ []) → IsFront new (old ++ line_text (map piece_word pieces))
pieces_end_front old began new [] e h n k within = absurd (omega arith)
pieces_end_front old began new (p ∷ ps) e h n k within = line_end_front old began new (piece_word p) (map piece_word ps) e h k within

-- the same where further lines come
pub first_line_front : (old new v : List ℕ) (vs : List (List ℕ)) (lines : List (List (List ℕ))) → begins_line old ≡ true → AreWords (v ∷ vs)
    → IsFront new (with_words old (v ∷ vs)) → IsFront new (with_lines old ((v ∷ vs) ∷ lines))
first_line_front old new v vs lines h k within =
    part_front new (old ++ line_text (v ∷ vs)) (flat_map line_text lines) (with_lines old ((v ∷ vs) ∷ lines)) (append_assoc old (line_text (v ∷ vs)) (flat_map line_text lines)) (line_front old new v vs h k within)

pub first_end_front : (old began new v : List ℕ) (vs : List (List ℕ)) (lines : List (List (List ℕ))) → began ≡ with_words old (v ∷ vs) → begins_line old ≡ true → AreWords (v ∷ vs)
    → IsFront new (began ++ 10 ∷ []) → IsFront new (with_lines old ((v ∷ vs) ∷ lines))
first_end_front old began new v vs lines e h k within =
    part_front new (old ++ line_text (v ∷ vs)) (flat_map line_text lines) (with_lines old ((v ∷ vs) ∷ lines)) (append_assoc old (line_text (v ∷ vs)) (flat_map line_text lines)) (line_end_front old began new v vs e h k within)

pub ruleset keeping = take-append_front
