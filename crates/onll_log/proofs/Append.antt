-- Lines that are written after others, one by one.
use Rattle.std.proofs.Common.{ℕ, zero, suc, ◌≡◌, ◌+◌, ◌-◌, ◌<◌, List, [], ◌∷◌, ◌++◌, length, set, take, sym, refl, ap, ◌∙◌, subst, inr, arith, append_assoc, length-append}
use Rattle.std.proofs.lemmas.List.{set_at, take_more, length-take-le, get_or-append-add}
use Rattle.onll_pmem.specs.Device.{line_at, zero_line, zero_lines, FillsWords, FillsLines}
use Rattle.onll_model.specs.Segment.{Segment}
use Rattle.onll_log.specs.declared.head.LogHead.{LogHead}
use Rattle.onll_log.specs.Encoding.{entry_lines, log_lines, FitsEntry}
use Rattle.onll_log.specs.Torn.{IsLine, log_image}
use Rattle.onll_log.specs.Append.{written_front}
use Rattle.onll_log.proofs.Lines.{FillsWords-zero_line, AreLines-entry_lines}
use Rattle.onll_log.proofs.Torn.{Among-front, log_image-more}

-- ---- first and last
pub written_front-none : (done lines : List (List ℕ)) (zeros : ℕ) → written_front done lines 0 zeros ≡ done ++ zero_lines (length lines + zeros)
written_front-none done lines zeros = let z : length lines - 0 + zeros ≡ length lines + zeros = omega arith in ap (λ (n : ℕ). done ++ zero_lines n) z

take-whole : (xs : List (List ℕ)) (n : ℕ) → n ≡ length xs → take n xs ≡ xs
take-whole [] zero e = refl
take-whole [] (suc n) e = refl
take-whole (x ∷ xs) zero e = absurd (omega arith)
take-whole (x ∷ xs) (suc n) e = ap (λ (z : List (List ℕ)). x ∷ z) (take-whole xs n (omega arith))

pub written_front-all : (done lines : List (List ℕ)) (front zeros : ℕ) → front ≡ length lines → written_front done lines front zeros ≡ done ++ (lines ++ zero_lines zeros)
written_front-all done lines front zeros e =
    let z : length lines - front + zeros ≡ zeros = omega arith in let t = take-whole lines front e in λ i. done ++ (t i ++ zero_lines (z i))

-- ---- the next line
-- the lines before the next one, and then zeros
split_next : (done lines : List (List ℕ)) (front zeros : ℕ) → front < length lines
    → written_front done lines front zeros ≡ (done ++ take front lines) ++ (zero_line ∷ zero_lines (length lines - suc front + zeros))
split_next done lines front zeros l =
    let z : length lines - front + zeros ≡ suc (length lines - suc front + zeros) = omega arith in
    ap (λ (n : ℕ). done ++ (take front lines ++ zero_lines n)) z ∙ sym (append_assoc done (take front lines) (zero_line ∷ zero_lines (length lines - suc front + zeros)))

length-before : (done lines : List (List ℕ)) (front : ℕ) → front < length lines → length (done ++ take front lines) ≡ length done + front
length-before done lines front l = omega (arith, length-append done (take front lines), length-take-le front lines (omega arith))

-- it reads as zeros
pub line_at-written_front : (done lines : List (List ℕ)) (front zeros : ℕ) → front < length lines → line_at (written_front done lines front zeros) (length done + front) ≡ zero_line
line_at-written_front done lines front zeros l =
    let before : List (List ℕ) = done ++ take front lines in let after : List (List ℕ) = zero_line ∷ zero_lines (length lines - suc front + zeros) in
    let z : length done + front ≡ length before + 0 = (let h = length-before done lines front l in omega arith) in
    ap (λ (ls : List (List ℕ)). line_at ls (length done + front)) (split_next done lines front zeros l) ∙ (ap (λ (n : ℕ). line_at (before ++ after) n) z ∙ get_or-append-add before after 0 [])

-- so it may be written
pub FillsWords-written_front : (done lines : List (List ℕ)) (front zeros : ℕ) (line : List ℕ) → front < length lines → IsLine line → FillsWords (line_at (written_front done lines front zeros) (length done + front)) line
FillsWords-written_front done lines front zeros line l e = subst (λ (old : List ℕ). FillsWords old line) (sym (line_at-written_front done lines front zeros l)) (FillsWords-zero_line line e)

-- and then one more is written
pub set-written_front : (done lines : List (List ℕ)) (front zeros : ℕ) → front < length lines → set (written_front done lines front zeros) (length done + front) (line_at lines front) ≡ written_front done lines (suc front) zeros
set-written_front done lines front zeros l =
    let rest : List (List ℕ) = zero_lines (length lines - suc front + zeros) in let line : List ℕ = line_at lines front in let plus : front + 1 ≡ suc front = omega arith in
    let more : take front lines ++ line ∷ [] ≡ take (suc front) lines = sym (take_more lines front [] l) ∙ ap (λ (n : ℕ). take n lines) plus in
    ap (λ (ls : List (List ℕ)). set ls (length done + front) line) (split_next done lines front zeros l) ∙
    (set_at (done ++ take front lines) zero_line rest line (length done + front) (length-before done lines front l) ∙
    (append_assoc done (take front lines) (line ∷ rest) ∙ ap (λ (ls : List (List ℕ)). done ++ ls) (sym (append_assoc (take front lines) (line ∷ []) rest) ∙ ap (λ (ls : List (List ℕ)). ls ++ rest) more)))

-- ---- an entry
FillsLines-after : (done xs ys : List (List ℕ)) → FillsLines xs ys → FillsLines (done ++ xs) (done ++ ys)
FillsLines-after [] xs ys f = f
FillsLines-after (d ∷ done) xs ys f = (self d, FillsLines-after done xs ys f)
  where
    self : (ws : List ℕ) → FillsWords ws ws
    self [] = tt
    self (w ∷ ws) = (inr refl, self ws)

-- while it is written only words that were zero have changed, to those of the whole
pub FillsLines-written_front : (head : LogHead) (ss : List Segment) (s : Segment) (front zeros : ℕ) → FitsEntry head.threads s
    → FillsLines (written_front (log_lines head ss) (entry_lines head (length ss) s) front zeros) (log_image head (ss ++ s ∷ []) zeros)
FillsLines-written_front head ss s front zeros f =
    let lines : List (List ℕ) = entry_lines head (length ss) s in
    subst (FillsLines (written_front (log_lines head ss) lines front zeros)) (sym (log_image-more head ss s zeros))
    (FillsLines-after (log_lines head ss) (take front lines ++ zero_lines (length lines - front + zeros)) (lines ++ zero_lines zeros) (Among-front lines front zeros (AreLines-entry_lines head (length ss) s f)))
