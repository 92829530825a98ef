use Rattle.std.proofs.Common.{ℕ, ◌+◌, ◌≡◌, ◌⊎◌, ⊎_elim, List, [], ◌∷◌, map, Option, Some, Result, Ok, Err, MatchResult, sym, refl, ap, ◌∙◌, inl, inr}
use Rattle.onll_model.specs.declared.node.Node.{Node}
use Rattle.onll_log.specs.declared.head.LogHead.{LogHead}
use Rattle.onll_log.specs.Grammar.{Content, content_of}
use Rattle.onll_merge.specs.declared.fault.RecoverFault.{RecoverFault}
use Rattle.onll_merge.specs.declared.fault.RecoverFault.TheVariants.{NoMemory}
use Rattle.onll_merge.specs.declared.fault.ImagesFault.{ImagesFault}
use Rattle.onll_merge.specs.declared.fault.ImagesFault.TheVariants.{Recover, NotLog}
use Rattle.onll_merge.specs.Merge.{merge}
use Rattle.onll_merge.specs.Recovered.{content_before, contents_from, with_logs, merged, nodes_of, merge_images}

-- Images that are logs merge as their logs do.

pub their_contents : (i : ℕ) (images : List (List (List ℕ))) (logs : List Content) → map content_of images ≡ map Some logs → contents_from i images ≡ Ok logs
their_contents i [] [] e = refl
their_contents i [] (log ∷ logs) e = absurd (cc)
their_contents i (image ∷ images) [] e = absurd (cc)
their_contents i (image ∷ images) (log ∷ logs) e =
    let a : content_of image ≡ Some log = (cc) in
    let b : map content_of images ≡ map Some logs = (cc) in
    ap (λ (o : Option Content). content_before i o (contents_from (i + 1) images)) a ∙ ap (content_before i (Some log)) (their_contents (i + 1) images logs b)

pub logs_merge : (heads : List LogHead) (images : List (List (List ℕ))) (logs : List Content) → map content_of images ≡ map Some logs → merge_images heads images ≡ nodes_of (with_logs logs (merge heads logs))
logs_merge heads images logs e = ap (λ (r : Result (List Content) ImagesFault). nodes_of (merged heads r)) (their_contents 0 images logs e)

pub logs_give : (heads : List LogHead) (images : List (List (List ℕ))) (logs : List Content) (nodes : List Node) → map content_of images ≡ map Some logs → merge heads logs ≡ Ok nodes → merge_images heads images ≡ Ok nodes
logs_give heads images logs nodes e m = logs_merge heads images logs e ∙ ap (λ (r : Result (List Node) RecoverFault). nodes_of (with_logs logs r)) m

-- what stands where the images merge, and want of memory
pub merged_only : {V : Type 0} (items : V → List Node) (merged : Result (List Node) ImagesFault) (nodes : List Node) → merged ≡ Ok nodes
    → (result : Result V ImagesFault) → MatchResult result (λ v. merged ≡ Ok (items v)) (λ e. (e ≡ Recover NoMemory) ⊎ (merged ≡ Err e))
    → MatchResult result (λ v. items v ≡ nodes) (λ e. e ≡ Recover NoMemory)
merged_only items merged nodes e (Ok v) h = let same : Ok (items v) ≡ Ok nodes = sym h ∙ e in (cc)
merged_only items merged nodes e (Err fault) h = ⊎_elim (λ (a : fault ≡ Recover NoMemory). a) (λ (b : merged ≡ Err fault). absurd (cc)) h

-- ---- what images that hold logs give is what these merge to
module _ (logs : List Content) where
  nodes_with : (r : Result (List Node) RecoverFault) (nodes : List Node) → nodes_of (with_logs logs r) ≡ Ok nodes → r ≡ Ok nodes
  nodes_with (Ok base) nodes e = (cc)
  nodes_with (Err fault) nodes e = absurd (cc)

  fault_with : (r : Result (List Node) RecoverFault) (fault : RecoverFault) → nodes_of (with_logs logs r) ≡ Err (Recover fault) → r ≡ Err fault
  fault_with (Ok base) fault e = absurd (cc)
  fault_with (Err first) fault e = (cc)

  all_with : (r : Result (List Node) RecoverFault) (i : ℕ) → nodes_of (with_logs logs r) ≡ Err (NotLog i) → ⊥
  all_with (Ok base) i e = absurd (cc)
  all_with (Err fault) i e = absurd (cc)

  module _ (heads : List LogHead) (images : List (List (List ℕ))) (held : map content_of images ≡ map Some logs) where
    pub merged_nodes : (nodes : List Node) → merge_images heads images ≡ Ok nodes → merge heads logs ≡ Ok nodes
    merged_nodes nodes e = nodes_with (merge heads logs) nodes (sym (logs_merge heads images logs held) ∙ e)

    pub merged_fault : (fault : RecoverFault) → (Recover fault ≡ Recover NoMemory) ⊎ (merge_images heads images ≡ Err (Recover fault))
        → (fault ≡ NoMemory) ⊎ (merge heads logs ≡ Err fault)
    merged_fault fault h = ⊎_elim (λ (a : Recover fault ≡ Recover NoMemory). inl (cc)) (λ (e : merge_images heads images ≡ Err (Recover fault)).
        inr (fault_with (merge heads logs) fault (sym (logs_merge heads images logs held) ∙ e))) h

    -- each image is a log
    pub each_merged : (i : ℕ) → (NotLog i ≡ Recover NoMemory) ⊎ (merge_images heads images ≡ Err (NotLog i)) → ⊥
    each_merged i h = ⊎_elim (λ (a : NotLog i ≡ Recover NoMemory). absurd (cc)) (λ (e : merge_images heads images ≡ Err (NotLog i)).
        all_with (merge heads logs) i (sym (logs_merge heads images logs held) ∙ e)) h
