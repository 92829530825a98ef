-- The bytes of a summary determine its numbers.

use Rattle.std.proofs.Common.{ℕ, true, ◌≡◌, ◌<◌, ◌^◌, List, [], ◌∷◌, ◌++◌, codes, decimal, refl, sym, ap, ◌∙◌, append_assoc, append-nil}
use Rattle.std.specs.List.{flat_map}
use Rattle.std.proofs.lemmas.Fmt.{decimal_injective}
use Rattle.onll_words.specs.Texts.{IsWord, AreWords, line_text, AreMeaningful}
use Rattle.onll_words.proofs.Decimals.{IsWord-decimal}
use Rattle.onll_words.proofs.Joined.{text_determined, line_same}
use Rattle.onll_text.specs.Bytes.{begins_line, with_lines}
use Rattle.onll_text.specs.Reports.{SaysOnly}
use Rattle.onll_text.proofs.Appending.{begins_line-line}
use Rattle.onll_text.proofs.Determined.{says_only}
use Rattle.onll_workload.specs.declared.summary.Summary.{Summary}
use Rattle.onll_workload.specs.Made.{made_line, counted_line, summary_lines, SummaryReads}

-- ---- its lines are of words
pub made_words : (threads updates reads : ℕ) → AreWords (made_line threads updates reads)
made_words threads updates reads = (
  record { some = refl; bytes = refl },
  (
    record { some = refl; bytes = refl },
    (IsWord-decimal threads, (record { some = refl; bytes = refl }, (IsWord-decimal updates, (record { some = refl; bytes = refl }, (IsWord-decimal reads, tt))))),
  ),
)

pub counted_words : (name : List ℕ) (n : ℕ) → IsWord name → AreWords (counted_line name n)
counted_words name n h = (h, (IsWord-decimal n, tt))

pub fences_word : IsWord (codes "fences")
fences_word = record { some = refl; bytes = refl }

pub recovered_word : IsWord (codes "recovered")
recovered_word = record { some = refl; bytes = refl }

pub total_word : IsWord (codes "total")
total_word = record { some = refl; bytes = refl }

meaningful : (s : Summary) → AreMeaningful (summary_lines s)
meaningful s = (
  made_words s.threads s.updates s.reads,
  refl,
  (
    counted_words (codes "fences") s.fences fences_word,
    refl,
    (
      counted_words (codes "recovered") s.recovered recovered_word,
      refl,
      (counted_words (codes "total") s.total total_word, refl, tt),
    ),
  ),
)

-- ---- appended one after the other
pub begun : (old new : List ℕ) (ws : List (List ℕ)) → new ≡ old ++ line_text ws → begins_line new ≡ true
begun old new ws e = ap begins_line e ∙ begins_line-line old ws

pub appended : (s : Summary) (old a b c d : List ℕ) → a ≡ old ++ line_text (made_line s.threads s.updates s.reads) → b ≡ a ++ line_text (counted_line (codes "fences") s.fences)
    → c ≡ b ++ line_text (counted_line (codes "recovered") s.recovered) → d ≡ c ++ line_text (counted_line (codes "total") s.total) → d ≡ with_lines old (summary_lines s)
appended s old a b c d e₁ e₂ e₃ e₄ =
    let l₁ = line_text (made_line s.threads s.updates s.reads) in
    let l₂ = line_text (counted_line (codes "fences") s.fences) in
    let l₃ = line_text (counted_line (codes "recovered") s.recovered) in
    let l₄ = line_text (counted_line (codes "total") s.total) in
    e₄ ∙ ap (λ (z : List ℕ). z ++ l₄) (e₃ ∙ ap (λ (z : List ℕ). z ++ l₃) (e₂ ∙ ap (λ (z : List ℕ). z ++ l₂) e₁))
    ∙ four old l₁ l₂ l₃ l₄
  where
    four : (x₀ x₁ x₂ x₃ x₄ : List ℕ) → (((x₀ ++ x₁) ++ x₂) ++ x₃) ++ x₄ ≡ x₀ ++ (x₁ ++ (x₂ ++ (x₃ ++ (x₄ ++ []))))
    four x₀ x₁ x₂ x₃ x₄ =
        append_assoc ((x₀ ++ x₁) ++ x₂) x₃ x₄ ∙ append_assoc (x₀ ++ x₁) x₂ (x₃ ++ x₄) ∙ append_assoc x₀ x₁ (x₂ ++ (x₃ ++ x₄))
        ∙ ap (λ (z : List ℕ). x₀ ++ (x₁ ++ (x₂ ++ (x₃ ++ z)))) (sym (append-nil x₄))

-- ---- its numbers
-- a number that ends a line
last_same : (name : List ℕ) (m n : ℕ) → m < 2 ^ 64 → n < 2 ^ 64 → counted_line name m ≡ counted_line name n → m ≡ n
last_same name m n low under e = decimal_injective m n low under (cc)

made_same : (a b : Summary) → made_line a.threads a.updates a.reads ≡ made_line b.threads b.updates b.reads → (decimal a.threads ≡ decimal b.threads) × (decimal a.updates ≡ decimal b.updates) × (decimal a.reads ≡ decimal b.reads)
made_same a b e = (cc, cc, cc)

summary_same : (a b : Summary) → a.threads ≡ b.threads → a.updates ≡ b.updates → a.reads ≡ b.reads → a.fences ≡ b.fences → a.recovered ≡ b.recovered → a.total ≡ b.total → a ≡ b
summary_same a b e₁ e₂ e₃ e₄ e₅ e₆ = λ i. record { threads = e₁ i; updates = e₂ i; reads = e₃ i; fences = e₄ i; recovered = e₅ i; total = e₆ i }

determined : (a b : Summary) → SummaryReads a → SummaryReads b → flat_map line_text (summary_lines a) ≡ flat_map line_text (summary_lines b) → a ≡ b
determined a b g h e =
    let fences : Summary → List (List ℕ) = λ s. counted_line (codes "fences") s.fences in
    let recovered : Summary → List (List ℕ) = λ s. counted_line (codes "recovered") s.recovered in
    let total : Summary → List (List ℕ) = λ s. counted_line (codes "total") s.total in
    let lines = text_determined (summary_lines a) (summary_lines b) (meaningful a) (meaningful b) e in
    let first = line_same (made_line a.threads a.updates a.reads) (made_line b.threads b.updates b.reads) (fences a ∷ recovered a ∷ total a ∷ []) (fences b ∷ recovered b ∷ total b ∷ []) lines in
    let second = line_same (fences a) (fences b) (recovered a ∷ total a ∷ []) (recovered b ∷ total b ∷ []) first.1 in
    let third = line_same (recovered a) (recovered b) (total a ∷ []) (total b ∷ []) second.1 in
    let fourth = line_same (total a) (total b) [] [] third.1 in
    let numbers = made_same a b first.0 in
    summary_same a b
    (decimal_injective a.threads b.threads g.threads h.threads numbers.0)
    (decimal_injective a.updates b.updates g.updates h.updates numbers.1)
    (decimal_injective a.reads b.reads g.reads h.reads numbers.2)
    (last_same (codes "fences") a.fences b.fences g.fences h.fences second.0)
    (last_same (codes "recovered") a.recovered b.recovered g.recovered h.recovered third.0)
    (last_same (codes "total") a.total b.total g.total h.total fourth.0)

-- what is printed says this and nothing else
pub summary_says : (text : List ℕ) (s : Summary) → text ≡ flat_map line_text (summary_lines s) → SummaryReads s → SaysOnly summary_lines SummaryReads text s
summary_says text s e h = says_only summary_lines SummaryReads determined text s e h
