-- Lines that are put in among others.
use Rattle.std.proofs.Common.{ℕ, suc, ◌≡◌, ◌+◌, ◌-◌, ◌<◌, ◌≤◌, List, [], ◌∷◌, ◌++◌, length, set, take, drop, sym, ap, ◌∙◌, subst, inl, inr, ◌⊎◌, arith, append_assoc, length-append}
use Rattle.std.proofs.lemmas.List.{set_split, take_at, drop_at, take-append-drop, length-take-le, length-drop, drop-drop, get_or-drop, get_or-take, get_or_append_left, get_or-append_right, drop-replicate, replicate-append-replicate}
use Rattle.onll_pmem.specs.Device.{line_at, zero_line, zero_lines, FillsLines}
use Rattle.onll_pmem.proofs.Mixes.{FillsWords-self, FillsLines-self}
use Rattle.onll_log.specs.Log.{placed_lines}
use Rattle.onll_log.specs.Torn.{AreLines}
use Rattle.onll_log.proofs.Lines.{FillsLines-zero_lines}

-- the lines up to the end of those that are put in
abbrev front : List (List ℕ) → ℕ → List (List ℕ) → List (List ℕ)
front read from lines = take from read ++ lines

length-front : (read : List (List ℕ)) (from : ℕ) (lines : List (List ℕ)) → from ≤ length read → length (front read from lines) ≡ from + length lines
length-front read from lines l = omega (arith, length-append (take from read) lines, length-take-le from read l)

in_two : (read : List (List ℕ)) (from : ℕ) (lines : List (List ℕ)) → placed_lines read from lines ≡ front read from lines ++ drop (from + length lines) read
in_two read from lines = sym (append_assoc (take from read) lines (drop (from + length lines) read))

pub placed_lines-none : (read : List (List ℕ)) (from : ℕ) → placed_lines read from [] ≡ read
placed_lines-none read from = let e : from + 0 ≡ from = omega arith in ap (λ (n : ℕ). take from read ++ drop n read) e ∙ take-append-drop from read

pub placed_lines-one : (read : List (List ℕ)) (from : ℕ) (line : List ℕ) → from < length read → set read from line ≡ placed_lines read from (line ∷ [])
placed_lines-one read from line l = let e : suc from ≡ from + 1 = omega arith in set_split read from line l ∙ ap (λ (n : ℕ). take from read ++ (line ∷ drop n read)) e

pub placed_lines-append : (read : List (List ℕ)) (from : ℕ) (xs ys : List (List ℕ)) → from + length xs ≤ length read
    → placed_lines (placed_lines read from xs) (from + length xs) ys ≡ placed_lines read from (xs ++ ys)
placed_lines-append read from xs ys l =
    let len = length-front read from xs (omega arith) in
    let rest : List (List ℕ) = drop (from + length xs) read in
    let to : from + length xs + length ys ≡ from + length (xs ++ ys) = omega (arith, length-append xs ys) in
    ap (λ (r : List (List ℕ)). placed_lines r (from + length xs) ys) (in_two read from xs)
    ∙ ap (λ (ls : List (List ℕ)). ls ++ (ys ++ drop (from + length xs + length ys) (front read from xs ++ rest))) (take_at (front read from xs) rest (from + length xs) len)
    ∙ ap (λ (ls : List (List ℕ)). front read from xs ++ (ys ++ ls)) (sym (drop-drop (length ys) (from + length xs) (front read from xs ++ rest))
    ∙ ap (drop (length ys)) (drop_at (front read from xs) rest (from + length xs) len) ∙ drop-drop (length ys) (from + length xs) read ∙ ap (λ (n : ℕ). drop n read) to)
    ∙ append_assoc (take from read) xs (ys ++ drop (from + length (xs ++ ys)) read)
    ∙ ap (λ (ls : List (List ℕ)). take from read ++ ls) (sym (append_assoc xs ys (drop (from + length (xs ++ ys)) read)))

pub length-placed_lines : (read : List (List ℕ)) (from : ℕ) (lines : List (List ℕ)) → from + length lines ≤ length read → length (placed_lines read from lines) ≡ length read
length-placed_lines read from lines l = let e = ap length (in_two read from lines) in
    omega (arith, length-front read from lines (omega arith), length-append (front read from lines) (drop (from + length lines) read), length-drop (from + length lines) read)

-- the other lines
pub line_at-placed_after : (read : List (List ℕ)) (from : ℕ) (lines : List (List ℕ)) (line : ℕ) → from + length lines ≤ length read → from + length lines ≤ line → line_at (placed_lines read from lines) line ≡ line_at read line
line_at-placed_after read from lines line l after =
    let to : from + length lines + (line - (from + length lines)) ≡ line = omega arith in
    ap (λ (ls : List (List ℕ)). line_at ls line) (in_two read from lines)
    ∙ get_or-append_right (front read from lines) (drop (from + length lines) read) (from + length lines) line [] (length-front read from lines (omega arith)) after
    ∙ get_or-drop (from + length lines) read (line - (from + length lines)) [] ∙ ap (line_at read) to

pub line_at-placed_before : (read : List (List ℕ)) (from : ℕ) (lines : List (List ℕ)) (line : ℕ) → from ≤ length read → line < from → line_at (placed_lines read from lines) line ≡ line_at read line
line_at-placed_before read from lines line l before =
    get_or_append_left (take from read) (lines ++ drop (from + length lines) read) [] line (omega (arith, length-take-le from read l)) ∙ get_or-take from read line [] before

pub line_at-placed : (read : List (List ℕ)) (from : ℕ) (lines : List (List ℕ)) (line : ℕ) → from + length lines ≤ length read → (line < from) ⊎ (from + length lines ≤ line)
    → line_at (placed_lines read from lines) line ≡ line_at read line
line_at-placed read from lines line l (inl before) = line_at-placed_before read from lines line (omega arith) before
line_at-placed read from lines line l (inr after) = line_at-placed_after read from lines line l after

-- ---- over zeros
pub placed_lines-zeros : (done : List (List ℕ)) (from : ℕ) (lines : List (List ℕ)) (zeros : ℕ) → length done ≡ from → placed_lines (done ++ zero_lines zeros) from lines ≡ done ++ (lines ++ zero_lines (zeros - length lines))
placed_lines-zeros done from lines zeros e =
    ap (λ (ls : List (List ℕ)). ls ++ (lines ++ drop (from + length lines) (done ++ zero_lines zeros))) (take_at done (zero_lines zeros) from e)
    ∙ ap (λ (ls : List (List ℕ)). done ++ (lines ++ ls)) (sym (drop-drop (length lines) from (done ++ zero_lines zeros)) ∙ ap (drop (length lines)) (drop_at done (zero_lines zeros) from e) ∙ drop-replicate (length lines) zeros zero_line)

FillsLines-after : (done xs ys : List (List ℕ)) → FillsLines xs ys → FillsLines (done ++ xs) (done ++ ys)
FillsLines-after [] xs ys f = f
FillsLines-after (d ∷ done) xs ys f = (FillsWords-self d, FillsLines-after done xs ys f)

FillsLines-before : (xs ys : List (List ℕ)) (k : ℕ) → FillsLines xs ys → FillsLines (xs ++ zero_lines k) (ys ++ zero_lines k)
FillsLines-before [] [] k f = FillsLines-self (zero_lines k)
FillsLines-before [] (y ∷ ys) k f = absurd f
FillsLines-before (x ∷ xs) [] k f = absurd f
FillsLines-before (x ∷ xs) (y ∷ ys) k f = (f.0, FillsLines-before xs ys k f.1)

-- lines that are put in over zeros change only words that were zero
pub FillsLines-zeros : (done lines : List (List ℕ)) (zeros : ℕ) → AreLines lines → length lines ≤ zeros → FillsLines (done ++ zero_lines zeros) (done ++ (lines ++ zero_lines (zeros - length lines)))
FillsLines-zeros done lines zeros a l =
    FillsLines-after done (zero_lines zeros) (lines ++ zero_lines (zeros - length lines))
    (subst (λ (ls : List (List ℕ)). FillsLines ls (lines ++ zero_lines (zeros - length lines))) (replicate-append-replicate (length lines) (zeros - length lines) zero_line ∙ ap zero_lines to)
    (FillsLines-before (zero_lines (length lines)) lines (zeros - length lines) (FillsLines-zero_lines lines a)))
  where
    to : length lines + (zeros - length lines) ≡ zeros
    to = omega arith
