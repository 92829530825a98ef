-- Lines of eight words.
use Rattle.std.proofs.Common.{ℕ, zero, suc, ◌≡◌, List, [], ◌∷◌, ◌++◌, length, take, drop, refl, ap, arith, true, false, Bool, cond, ◌==◌, inl}
use Rattle.std.specs.List.{AllByRecursion}
use Rattle.onll_words.specs.Bytes.{words_in, low_word}
use Rattle.onll_pmem.specs.Device.{zero_line, zero_lines, FillsWords, FillsLines}
use Rattle.onll_model.specs.declared.node.Node.{Node}
use Rattle.onll_model.specs.Segment.{Segment}
use Rattle.onll_log.specs.declared.head.LogHead.{LogHead}
use Rattle.onll_log.specs.Head.{head_line, digest_words, FitsHead}
use Rattle.onll_log.specs.Masks.{masks}
use Rattle.onll_log.specs.Encoding.{entry_digest, guard, entry_front, entry_line, entry_lines, entries_lines, log_lines, node_lines, FitsNode, FitsEntry, FitEntries}
use Rattle.onll_log.specs.Torn.{IsLine, AreLines, log_image}

-- ---- lists of lines
pub AreLines-take : (n : ℕ) (xs : List (List ℕ)) → AreLines xs → AreLines (take n xs)
AreLines-take zero xs e = tt
AreLines-take (suc n) [] e = tt
AreLines-take (suc n) (x ∷ xs) e = (e.0, AreLines-take n xs e.1)

pub AreLines-drop : (n : ℕ) (xs : List (List ℕ)) → AreLines xs → AreLines (drop n xs)
AreLines-drop zero xs e = e
AreLines-drop (suc n) [] e = tt
AreLines-drop (suc n) (x ∷ xs) e = AreLines-drop n xs e.1

pub AreLines-append : (xs ys : List (List ℕ)) → AreLines xs → AreLines ys → AreLines (xs ++ ys)
AreLines-append [] ys a b = b
AreLines-append (x ∷ xs) ys a b = (a.0, AreLines-append xs ys a.1 b)

pub AreLines-zero_lines : (k : ℕ) → AreLines (zero_lines k)
AreLines-zero_lines zero = tt
AreLines-zero_lines (suc k) = (refl, AreLines-zero_lines k)

-- ---- the lines of a log
length-words_in : (word : List ℕ → ℕ) (n : ℕ) (bytes : List ℕ) → length (words_in word n bytes) ≡ n
unfolding words_in
length-words_in word zero bytes = refl
length-words_in word (suc n) bytes = ap suc (length-words_in word n (drop 8 bytes))

pub length-digest_words : (bytes : List ℕ) → length (digest_words bytes) ≡ 3
length-digest_words bytes = length-words_in low_word 3 _

pub length-guard : (head : LogHead) (front : List ℕ) (lines : List (List ℕ)) → length (guard head front lines) ≡ 3
length-guard head front lines = of_either (head.format == 1)
  where
    of_either : (b : Bool) → length (cond {A = List ℕ} b (entry_digest head front lines) (masks lines)) ≡ 3
    of_either true = length-digest_words _
    of_either false = refl

pub IsLine-head_line : (head : LogHead) → FitsHead head → IsLine (head_line head)
IsLine-head_line head f = let d = f.digest in omega arith

pub IsLine-entry_line : (head : LogHead) (before : ℕ) (s : Segment) → IsLine (entry_line head before s)
IsLine-entry_line head before s = let g = length-guard head (entry_front head before s) (node_lines s.nodes) in omega arith

pub AreLines-node_lines : (threads : ℕ) (ns : List Node) → AllByRecursion (FitsNode threads) ns → AreLines (node_lines ns)
AreLines-node_lines threads [] f = tt
AreLines-node_lines threads (n ∷ ns) f = let r = f.0.row in (ap suc r, AreLines-node_lines threads ns f.1)

pub AreLines-entry_lines : (head : LogHead) (before : ℕ) (s : Segment) → FitsEntry head.threads s → AreLines (entry_lines head before s)
AreLines-entry_lines head before s f = (IsLine-entry_line head before s, AreLines-node_lines head.threads s.nodes f.nodes)

pub AreLines-entries_lines : (head : LogHead) (before : ℕ) (ss : List Segment) → FitEntries head.threads ss → AreLines (entries_lines head before ss)
AreLines-entries_lines head before [] f = tt
AreLines-entries_lines head before (s ∷ ss) f = AreLines-append (entry_lines head before s) (entries_lines head (suc before) ss) (AreLines-entry_lines head before s f.0) (AreLines-entries_lines head (suc before) ss f.1)

pub AreLines-log_lines : (head : LogHead) (ss : List Segment) → FitsHead head → FitEntries head.threads ss → AreLines (log_lines head ss)
AreLines-log_lines head ss h f = (IsLine-head_line head h, AreLines-entries_lines head 0 ss f)

pub AreLines-log_image : (head : LogHead) (ss : List Segment) (k : ℕ) → FitsHead head → FitEntries head.threads ss → AreLines (log_image head ss k)
AreLines-log_image head ss k h f = AreLines-append (log_lines head ss) (zero_lines k) (AreLines-log_lines head ss h f) (AreLines-zero_lines k)

-- ---- lines over zeros
FillsWords-zeros : (zeros line : List ℕ) → length line ≡ length zeros → AllByRecursion (λ (w : ℕ). w ≡ 0) zeros → FillsWords zeros line
FillsWords-zeros [] [] l z = tt
FillsWords-zeros [] (x ∷ xs) l z = absurd (omega arith)
FillsWords-zeros (w ∷ ws) [] l z = absurd (omega arith)
FillsWords-zeros (w ∷ ws) (x ∷ xs) l z = (inl z.0, FillsWords-zeros ws xs (omega arith) z.1)

pub zero_line-zeros : AllByRecursion (λ (w : ℕ). w ≡ 0) zero_line
zero_line-zeros = (refl, (refl, (refl, (refl, (refl, (refl, (refl, (refl, tt))))))))

-- any line can be written over a line of zeros
pub FillsWords-zero_line : (line : List ℕ) → IsLine line → FillsWords zero_line line
FillsWords-zero_line line e = FillsWords-zeros zero_line line e zero_line-zeros

pub FillsLines-zero_lines : (lines : List (List ℕ)) → AreLines lines → FillsLines (zero_lines (length lines)) lines
FillsLines-zero_lines [] e = tt
FillsLines-zero_lines (l ∷ ls) e = (FillsWords-zero_line l e.0, FillsLines-zero_lines ls e.1)
