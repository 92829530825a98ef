-- What logs merge to doesn't hang on the heads that they have, where each is the expected one.
use Rattle.std.proofs.Common.{◌≡◌, ℕ, zero, suc, List, [], ◌∷◌, ◌++◌, Option, Some, None, Ok, refl, sym, ap, ◌∙◌, option_to_list}
use Rattle.std.specs.Prelude.{max, if◌then◌else◌}
use Rattle.std.specs.Option.{option_or, option_map_or}
use Rattle.onll_model.specs.declared.node.Node.{Node}
use Rattle.onll_log.specs.declared.head.LogHead.{LogHead}
use Rattle.onll_log.specs.Grammar.{Content}
use Rattle.onll_merge.specs.declared.fault.RecoverFault.{RecoverFault}
use Rattle.onll_merge.specs.declared.fault.RecoverFault.TheVariants.{Clash, Gap}
use Rattle.onll_log.specs.Survey.{top_in_log}
use Rattle.onll_merge.specs.Merge.{node_in_log, node_in_logs, nodes_to, top_of, foreign, disorder_in, disorder, first_to, agrees_at, differs, clash_from, clash_at, gap_at, unlike, stray_above, unless, merge}
use Rattle.onll_merge.specs.Laws.{HeadsFit}
use Rattle.onll_merge.proofs.Backs.{merge-back}
use Rattle.onll_merge.proofs.Fronts.{no_foreign}

-- ---- entries
-- each log has the entries of the one at its place
abbrev pub SameEntries : List Content → List Content → Type 0
SameEntries [] [] = Unit {0}
SameEntries [] (d ∷ ds) = ⊥
SameEntries (c ∷ cs) [] = ⊥
SameEntries (c ∷ cs) (d ∷ ds) = (d.entries ≡ c.entries) × SameEntries cs ds

disorder_same : (i : ℕ) (cs ds : List Content) → SameEntries cs ds → disorder i ds ≡ disorder i cs
disorder_same i [] [] s = refl
disorder_same i [] (d ∷ ds) s = absurd s
disorder_same i (c ∷ cs) [] s = absurd s
disorder_same i (c ∷ cs) (d ∷ ds) s = λ k. option_or (disorder_in i (s.0 k)) (disorder_same (suc i) cs ds s.1 k)

top_same : (cs ds : List Content) → SameEntries cs ds → top_of ds ≡ top_of cs
top_same [] [] s = refl
top_same [] (d ∷ ds) s = absurd s
top_same (c ∷ cs) [] s = absurd s
top_same (c ∷ cs) (d ∷ ds) s = λ k. max (top_in_log (s.0 k)) (top_same cs ds s.1 k)

node_same : (p : ℕ) (cs ds : List Content) → SameEntries cs ds → node_in_logs ds p ≡ node_in_logs cs p
node_same p [] [] s = refl
node_same p [] (d ∷ ds) s = absurd s
node_same p (c ∷ cs) [] s = absurd s
node_same p (c ∷ cs) (d ∷ ds) s = λ k. option_or (node_in_log (s.0 k) p) (node_same p cs ds s.1 k)

nodes_same : (n : ℕ) (cs ds : List Content) → SameEntries cs ds → nodes_to ds n ≡ nodes_to cs n
nodes_same zero cs ds s = refl
nodes_same (suc n) cs ds s = λ k. nodes_same n cs ds s k ++ option_to_list (node_same (suc n) cs ds s k)

differs_same : (p i j : ℕ) (x : Node) (cs ds : List Content) → SameEntries cs ds → differs p i j x ds ≡ differs p i j x cs
differs_same p i j x [] [] s = refl
differs_same p i j x [] (d ∷ ds) s = absurd s
differs_same p i j x (c ∷ cs) [] s = absurd s
differs_same p i j x (c ∷ cs) (d ∷ ds) s = λ k. if agrees_at (s.0 k) p x then differs_same p i (suc j) x cs ds s.1 k else Some (Clash p i j)

clash_same : (p i : ℕ) (cs ds : List Content) → SameEntries cs ds → clash_from i ds p ≡ clash_from i cs p
clash_same p i [] [] s = refl
clash_same p i [] (d ∷ ds) s = absurd s
clash_same p i (c ∷ cs) [] s = absurd s
clash_same p i (c ∷ cs) (d ∷ ds) s = λ k. option_map_or (λ (x : Node). differs_same p i (suc i) x cs ds s.1 k) (node_in_log (s.0 k) p) (clash_same p (suc i) cs ds s.1 k)

gap_same : (p : ℕ) (cs ds : List Content) → SameEntries cs ds → gap_at ds p ≡ gap_at cs p
gap_same p cs ds s = ap (λ (o : Option Node). option_map_or (λ (x : Node). None) o (Some (Gap p))) (node_same p cs ds s)

first_same : (f g : ℕ → Option RecoverFault) (n : ℕ) → ((p : ℕ) → f p ≡ g p) → first_to f n ≡ first_to g n
first_same f g zero h = refl
first_same f g (suc n) h = λ k. option_or (first_same f g n h k) (h (suc n) k)

unlike_same : (n : ℕ) (cs ds : List Content) → SameEntries cs ds → unlike ds n ≡ unlike cs n
unlike_same n cs ds s = λ k. option_or (first_same (clash_at ds) (clash_at cs) n (λ p. clash_same p 0 cs ds s) k) (first_same (gap_at ds) (gap_at cs) n (λ p. gap_same p cs ds s) k)

pub merge_same : (heads : List LogHead) (cs ds : List Content) → SameEntries cs ds → foreign 0 ds heads ≡ foreign 0 cs heads → merge heads ds ≡ merge heads cs
merge_same heads cs ds s f =
    let top = top_same cs ds s in
    let alike = ap (unlike ds) top ∙ unlike_same (top_of cs) cs ds s in
    let nodes = ap (nodes_to ds) top ∙ nodes_same (top_of cs) cs ds s in
    λ k. unless (option_or (f k) (option_or (disorder_same 0 cs ds s k) (option_or (alike k) (stray_above [] (nodes k))))) (nodes k)

-- logs that merge, and others with their entries whose heads are the expected ones
pub merge_filled : (heads : List LogHead) (cs ds : List Content) (nodes : List Node) → SameEntries cs ds → HeadsFit ds heads → merge heads cs ≡ Ok nodes → merge heads ds ≡ Ok nodes
merge_filled heads cs ds nodes s fit merged =
    let fits = (merge-back nodes heads cs merged).heads_fit in
    merge_same heads cs ds s (no_foreign 0 ds heads fit ∙ sym (no_foreign 0 cs heads fits)) ∙ merged
