-- Images that are decoded, one thread after the other.
use Rattle.std.proofs.Common.{ℕ, List, [], ◌∷◌, ◌++◌, ◌≡◌, ◌+◌, ◌<◌, length, take, drop, get_or, sym, ap, ◌∙◌, subst}
use Rattle.std.specs.List.{AllByRecursion}
use Rattle.std.proofs.lemmas.List.{take_more, drop_more, map-append}
use Rattle.onll_log.specs.declared.decoded.Decoded.{Decoded}
use Rattle.onll_log.specs.Decoded.{content_in}
use Rattle.onll_log.specs.Grammar.{Content}
use Rattle.onll_merge.specs.Merge.{contents_in}
use Rattle.onll_open.specs.Devices.{IsHeld, AreHeld}

held_one : (images : List (List (List ℕ))) (logs : List Content) (image : List (List ℕ)) (log : Content) → AreHeld images logs → IsHeld image log → AreHeld (images ++ image ∷ []) (logs ++ log ∷ [])
held_one [] [] image log h k = (k, tt)
held_one [] (c ∷ logs) image log h k = absurd h
held_one (i ∷ images) [] image log h k = absurd h
held_one (i ∷ images) (c ∷ logs) image log h k = (h.0, held_one images logs image log h.1 k)

-- one log more
pub held_more : (images : List (List (List ℕ))) (i : ℕ) (image : List (List ℕ)) (logs more : List Decoded) (log : Decoded) → i < length images → image ≡ get_or images i image → more ≡ logs ++ log ∷ []
    → AreHeld (take i images) (contents_in logs) → IsHeld image (content_in log) → AreHeld (take (i + 1) images) (contents_in more)
held_more images i image logs more log low at pushed h k =
    let lines : take (i + 1) images ≡ take i images ++ image ∷ [] = take_more images i image low ∙ ap (λ (x : List (List ℕ)). take i images ++ x ∷ []) (sym at) in
    let held : contents_in more ≡ contents_in logs ++ content_in log ∷ [] = ap contents_in pushed ∙ map-append content_in logs (log ∷ []) in
    subst (λ ls. AreHeld ls (contents_in more)) (sym lines) (subst (AreHeld (take i images ++ image ∷ [])) (sym held)
    (held_one (take i images) (contents_in logs) image (content_in log) h k))

-- the next image, and those that are left
pub logs_left : (P : List (List ℕ) → Type 0) (images : List (List (List ℕ))) (i : ℕ) (image : List (List ℕ)) → i < length images → image ≡ get_or images i image → AllByRecursion P (drop i images)
    → P image × AllByRecursion P (drop (i + 1) images)
logs_left P images i image low at h =
    subst (AllByRecursion P) (drop_more images i image low ∙ ap (λ (x : List (List ℕ)). x ∷ drop (i + 1) images) (sym at)) h
