-- Logs that have headers alone give no node.

use Rattle.std.proofs.Common.{ℕ, zero, suc, ◌≡◌, ◌+◌, ◌<◌, ◌≤◌, List, [], ◌∷◌, length, map, take, refl, ap, ◌∙◌, subst, arith, Ok}
use Rattle.std.specs.Prelude.{Some}
use Rattle.onll_model.specs.Limits.{greatest_code}
use Rattle.onll_model.specs.Object.{Behaviour}
use Rattle.onll_model.specs.declared.node.Node.{Node}
use Rattle.onll_model.specs.Segment.{Agrees}
use Rattle.onll_log.specs.declared.head.LogHead.{LogHead}
use Rattle.onll_log.specs.Head.{head_for, FitsHead}
use Rattle.onll_log.specs.Grammar.{Content, content_of}
use Rattle.onll_log.proofs.Encoded.{content_of-log_lines}
use Rattle.onll_log.proofs.Lines.{length-digest_words}
use Rattle.onll_merge.specs.Laws.{HeadsFit, EachSegment, HoldOne}
use Rattle.onll_merge.specs.Merge.{merge, top_of, AllRise}
use Rattle.onll_merge.specs.Recovered.{heads_for, expected_heads, state_recovered, recovered_with, merged, with_logs, with_operations}
use Rattle.onll_merge.proofs.Fronts.{merge-front}
use Rattle.onll_merge.proofs.Images.{their_contents}
use Rattle.onll_eras.specs.Begun.{header_images}

-- what they hold
abbrev pub header_logs : (code : ℕ) → List ℕ → (threads t : ℕ) → ℕ → List Content
header_logs code text threads t zero = []
header_logs code text threads t (suc more) = record { head = Some (head_for 2 t threads code text); entries = [] } ∷ header_logs code text threads (suc t) more

pub length-header_images : (code : ℕ) (text : List ℕ) (threads t n : ℕ) → length (header_images code text threads t n) ≡ n
length-header_images code text threads t zero = refl
length-header_images code text threads t (suc n) = ap suc (length-header_images code text threads (suc t) n)

module _ (code : ℕ) (text : List ℕ) (threads : ℕ) (known : (1 ≤ code) × (code ≤ greatest_code)) (few : threads ≤ 16) where
  fits : (t : ℕ) → t < threads → FitsHead (head_for 2 t threads code text)
  fits t l = record { thread = l; threads = few; object = known; format = (omega arith, omega arith); digest = length-digest_words _ }

  hold : (t n : ℕ) → t + n ≤ threads → map content_of (header_images code text threads t n) ≡ map Some (header_logs code text threads t n)
  hold t zero l = refl
  hold t (suc n) l =
      let here = content_of-log_lines (head_for 2 t threads code text) [] 0 (fits t (omega arith)) tt in
      let rest = hold (suc t) n (omega arith) in
      λ i. here i ∷ rest i

  -- the heads that are expected are theirs
  heads_fit : (t n : ℕ) → HeadsFit (header_logs code text threads t n) (heads_for code text threads t (header_images code text threads t n))
  heads_fit t zero = tt
  heads_fit t (suc n) =
      let e : suc t ≡ t + 1 = omega arith in
      (refl, subst (λ (k : ℕ). HeadsFit (header_logs code text threads (suc t) n) (heads_for code text threads k (header_images code text threads (suc t) n))) e (heads_fit (suc t) n))

  agree : (t n : ℕ) → EachSegment (Agrees []) (header_logs code text threads t n)
  agree t zero = tt
  agree t (suc n) = (tt, agree (suc t) n)

  rise : (t n : ℕ) → AllRise (header_logs code text threads t n)
  rise t zero = tt
  rise t (suc n) = (tt, rise (suc t) n)

  no_top : (t n : ℕ) → top_of (header_logs code text threads t n) ≡ 0
  no_top t zero = refl
  no_top t (suc n) = let rest = no_top (suc t) n in omega arith

  hold_none : (heads : List LogHead) (t n : ℕ) → HeadsFit (header_logs code text threads t n) heads → HoldOne [] heads (header_logs code text threads t n)
  hold_none heads t n h = record {
    heads_fit = h;
    agree = agree t n;
    rise = rise t n;
    cover = λ p from to. absurd (let top = no_top t n in omega arith);
    numbered = tt;
  }

  none_taken : (n : ℕ) → take {A = Node} n [] ≡ []
  none_taken zero = refl
  none_taken (suc n) = refl

  pub headers_give : {State Op Query Reply : Type 0} (b : Behaviour State Op Query Reply)
      → state_recovered b (expected_heads code text (header_images code text threads 0 threads)) (header_images code text threads 0 threads)
      ≡ Ok (recovered_with (header_logs code text threads 0 threads) [])
  headers_give b =
      let n = length-header_images code text threads 0 threads in
      let all : List (List (List ℕ)) = header_images code text threads 0 threads in
      let held : List Content = header_logs code text threads 0 threads in
      let heads : List LogHead = heads_for code text threads 0 all in
      let same : expected_heads code text all ≡ heads = ap (λ k. heads_for code text k 0 all) n in
      let none : merge heads held ≡ Ok [] = merge-front [] heads held (hold_none heads 0 threads (heads_fit 0 threads)) ∙ ap Ok (none_taken (top_of held)) in
      ap (λ hs. state_recovered b hs all) same
      ∙ (ap (λ r. with_operations b (merged heads r)) (their_contents 0 all held (hold 0 threads (omega arith)))
      ∙ ap (λ r. with_operations b (with_logs held r)) none)
