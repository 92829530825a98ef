-- Remains of an entry stay no entry, whatever words of them are wiped.
use Rattle.std.proofs.Common.{ℕ, zero, suc, ◌+◌, true, ◌≡◌, arith, append-nil, List, [], ◌∷◌, ◌++◌, length, take, drop, sym, refl, ap, ◌∙◌, subst, ⊎_elim, ◌⊎◌, inl, inr}
use Rattle.std.specs.Prelude.{Some}
use Rattle.std.proofs.lemmas.List.{take-append-drop, drop_at}
use Rattle.onll_pmem.specs.Device.{zero_lines, FillsWords, FillsLines, Mixed}
use Rattle.onll_pmem.proofs.Mixes.{FillsLines-then}
use Rattle.onll_model.specs.Segment.{Segment}
use Rattle.onll_log.specs.declared.head.LogHead.{LogHead}
use Rattle.onll_log.specs.Encoding.{entry_lines, log_lines, FitsEntry}
use Rattle.onll_log.specs.Grammar.{are_zero_lines, used_with, lines_in, format_in}
use Rattle.onll_log.specs.Torn.{AreLines, log_image, Holds}
use Rattle.onll_log.specs.Remains.{unused, HasRemains, IsWiped, IsCut, HoldsAlone}
use Rattle.onll_log.proofs.Encoded.{length-log_lines, content_of-log_lines}
use Rattle.onll_log.proofs.Torn.{Holds-among, Mixed-front, Among-mixed, log_image-more}
use Rattle.onll_log.proofs.Written.{IsWritten-Holds, take-used}

-- ---- what fills each other is equal
same_word : (x y : ℕ) → ((x ≡ 0) ⊎ (x ≡ y)) → ((y ≡ 0) ⊎ (y ≡ x)) → x ≡ y
same_word x y (inr e) b = e
same_word x y (inl e) (inr k) = sym k
same_word x y (inl e) (inl k) = e ∙ sym k

FillsWords-both : (xs ys : List ℕ) → FillsWords xs ys → FillsWords ys xs → xs ≡ ys
FillsWords-both [] [] a b = refl
FillsWords-both [] (y ∷ ys) a b = absurd a
FillsWords-both (x ∷ xs) [] a b = absurd a
FillsWords-both (x ∷ xs) (y ∷ ys) a b = let here = same_word x y a.0 b.0 in let rest = FillsWords-both xs ys a.1 b.1 in λ i. here i ∷ rest i

pub FillsLines-both : (xs ys : List (List ℕ)) → FillsLines xs ys → FillsLines ys xs → xs ≡ ys
FillsLines-both [] [] a b = refl
FillsLines-both [] (y ∷ ys) a b = absurd a
FillsLines-both (x ∷ xs) [] a b = absurd a
FillsLines-both (x ∷ xs) (y ∷ ys) a b = let here = FillsWords-both x y a.0 b.0 in let rest = FillsLines-both xs ys a.1 b.1 in λ i. here i ∷ rest i

-- ---- remains
-- an image by its used lines and what stands after them
wiped_lines : (head : LogHead) (ss : List Segment) (image wiped : List (List ℕ)) → AreLines image → Holds image head ss → IsWiped head ss image wiped → wiped ≡ log_lines head ss ++ unused head ss wiped
wiped_lines head ss image wiped eights h i =
    sym (take-append-drop (used_with (Some head) ss) wiped) ∙ ap (λ (l : List (List ℕ)). l ++ unused head ss wiped) (i.used ∙ take-used image head ss eights h)

-- what is wiped holds what it held
pub Holds-wiped : (head : LogHead) (ss : List Segment) (image wiped : List (List ℕ)) → AreLines image → Holds image head ss → HasRemains head ss image → IsWiped head ss image wiped → Holds wiped head ss
Holds-wiped head ss image wiped eights h r i =
    let s : Segment = r.0 in let zeros : ℕ = r.1 in let a = r.2 in let w = IsWritten-Holds image head ss eights h in
    let whole : List (List ℕ) = entry_lines head (length ss) s ++ zero_lines zeros in
    subst (λ (l : List (List ℕ)). Holds l head ss) (sym (wiped_lines head ss image wiped eights h i)) (⊎_elim
    (λ (t : Holds (log_lines head ss ++ unused head ss wiped) head ss). t)
    (λ (t : unused head ss wiped ≡ whole). absurd (a.torn (FillsLines-both (unused head ss image) whole a.among (subst (λ (l : List (List ℕ)). FillsLines l (unused head ss image)) t i.rest))))
    (Holds-among head ss s zeros (unused head ss wiped) w.fits_head a.format w.fit_entries a.fits (FillsLines-then (unused head ss wiped) (unused head ss image) whole i.rest a.among)))

-- the used lines and zeros hold what the image held
are_zero_lines-zero_lines : (count : ℕ) → are_zero_lines (zero_lines count) ≡ true
are_zero_lines-zero_lines zero = refl
are_zero_lines-zero_lines (suc count) = are_zero_lines-zero_lines count

pub IsCut-Holds : (head : LogHead) (ss : List Segment) (image : List (List ℕ)) (zeros : ℕ) → AreLines image → Holds image head ss → IsCut head ss (take (used_with (Some head) ss) image ++ zero_lines zeros)
IsCut-Holds head ss image zeros eights h = let w = IsWritten-Holds image head ss eights h in
    subst (λ (l : List (List ℕ)). IsCut head ss (l ++ zero_lines zeros)) (sym (take-used image head ss eights h)) (record {
      holds = content_of-log_lines head ss zeros w.fits_head w.fit_entries;
      rest = ap are_zero_lines (drop_at (log_lines head ss) (zero_lines zeros) (used_with (Some head) ss) (length-log_lines head ss)) ∙ are_zero_lines-zero_lines zeros;
    })

-- between a log and that log with an entry of format 2 more, what isn't the whole has remains
pub HasRemains-Mixed : (head : LogHead) (ss : List Segment) (s : Segment) (n k : ℕ) (image : List (List ℕ)) → head.format ≡ 2 → FitsEntry head.threads s
    → Mixed (log_image head ss n) (log_image head (ss ++ s ∷ []) k) image → (image ≡ log_image head (ss ++ s ∷ []) k → ⊥) → HasRemains head ss image
HasRemains-Mixed head ss s n k image masked f m torn = (
  s,
  k,
  record {
    format = masked;
    fits = f;
    among = subst (λ (l : List (List ℕ)). FillsLines l whole) (sym after) (Among-mixed n whole front.0 front.2);
    torn = λ e. torn (front.1 ∙ (ap (λ (l : List (List ℕ)). log_lines head ss ++ l) (sym after ∙ e) ∙ sym (log_image-more head ss s k)));
  },
)
  where
    whole : List (List ℕ)
    whole = entry_lines head (length ss) s ++ zero_lines k

    front : (rest : List (List ℕ)) × (image ≡ log_lines head ss ++ rest) × Mixed (zero_lines n) (entry_lines head (length ss) s ++ zero_lines k) rest
    front = Mixed-front (log_lines head ss) (zero_lines n) (entry_lines head (length ss) s ++ zero_lines k) image (subst (λ (l : List (List ℕ)). Mixed (log_image head ss n) l image) (log_image-more head ss s k) m)

    after : unused head ss image ≡ front.0
    after = ap (drop (used_with (Some head) ss)) front.1 ∙ drop_at (log_lines head ss) front.0 (used_with (Some head) ss) (length-log_lines head ss)

-- the used lines alone
used_format : (image : List (List ℕ)) (n : ℕ) → format_in (take (1 + n) image) ≡ format_in image
used_format [] n = let up : 1 + n ≡ suc n = omega arith in ap (λ (m : ℕ). format_in (take m (let none : List (List ℕ) = [] in none))) up
used_format (l ∷ ls) n = let up : 1 + n ≡ suc n = omega arith in ap (λ (m : ℕ). format_in (take m (l ∷ ls))) up

pub HoldsAlone-Holds : (head : LogHead) (ss : List Segment) (image : List (List ℕ)) → AreLines image → Holds image head ss → HoldsAlone head ss image (take (used_with (Some head) ss) image)
HoldsAlone-Holds head ss image eights h = record {
  holds = subst (λ (l : List (List ℕ)). Holds l head ss) (append-nil (take (used_with (Some head) ss) image)) (IsCut-Holds head ss image 0 eights h).holds;
  format = used_format image (lines_in ss);
}
