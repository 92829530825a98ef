-- An entry of format 2 of which a changed word is missing is not accepted.
use Rattle.std.proofs.Common.{ℕ, zero, suc, ◌≡◌, ◌≢◌, ◌+◌, ◌-◌, ◌<◌, true, false, List, [], ◌∷◌, ◌++◌, length, take, drop, sym, refl, ap, ◌∙◌, subst, ⊎_elim, ◌⊎◌, inl, inr, arith, append_assoc, append-nil}
use Rattle.std.specs.Prelude.{Some}
use Rattle.std.specs.List.{AllByRecursion}
use Rattle.std.proofs.lemmas.Bool.{cases_Bool}
use Rattle.onll_pmem.specs.Device.{FillsWords, DeviceState, Step, after_steps, AreLegal, IsImage, NonePending, zero_line, zero_lines, MixedWords, Mixed}
use Rattle.onll_pmem.proofs.Mixes.{FillsWords-self, FillsLines-self, FillsLines-then, MixedWords-same, Mixed-image}
use Rattle.onll_model.specs.Segment.{Segment}
use Rattle.onll_log.specs.declared.head.LogHead.{LogHead}
use Rattle.onll_log.specs.Head.{word, FitsHead}
use Rattle.onll_log.specs.Masks.{masks}
use Rattle.onll_log.specs.Encoding.{entry_front, entry_line, entry_lines, entries_lines, log_lines, node_lines, FitsEntry, FitEntries}
use Rattle.onll_log.specs.Grammar.{is_entry, entries_from}
use Rattle.onll_log.specs.Torn.{IsLine, AreLines, Among, log_image, Holds, TornOrWhole}
use Rattle.onll_log.proofs.Lines.{zero_line-zeros, FillsWords-zero_line}
use Rattle.onll_log.proofs.Accepted.{Accepted-if, entries_from-none}
use Rattle.onll_log.proofs.Encoded.{is_entry-entry_line, entries_from-entries_lines, content_of-head_line, content_of-log_lines, drop-node_lines, log_lines-more, FitEntries-append}
use Rattle.onll_log.proofs.Masks.{guard-masks, Among-take, Among-drop, same_by_parts, Among-masks, masks-not_zero}

-- ---- words that are zero
abbrev AreZero : List ℕ → Type 0
AreZero ws = AllByRecursion (λ (w : ℕ). w ≡ 0) ws

FillsWords-zero : (xs ys : List ℕ) → FillsWords ys xs → AreZero xs → ys ≡ xs
FillsWords-zero [] [] a z = refl
FillsWords-zero [] (y ∷ ys) a z = absurd a
FillsWords-zero (x ∷ xs) [] a z = absurd a
FillsWords-zero (x ∷ xs) (y ∷ ys) a z = let here : y ≡ x = ⊎_elim (λ (e : y ≡ 0). e ∙ sym z.0) (λ (e : y ≡ x). e) a.0 in let rest : ys ≡ xs = FillsWords-zero xs ys a.1 z.1 in (cc)

-- among zeros are zeros
Among-zero_lines : (k : ℕ) (ys : List (List ℕ)) → Among (zero_lines k) ys → ys ≡ zero_lines k
Among-zero_lines zero [] a = refl
Among-zero_lines zero (y ∷ ys) a = absurd a
Among-zero_lines (suc k) [] a = absurd a
Among-zero_lines (suc k) (y ∷ ys) a = let here : y ≡ zero_line = FillsWords-zero zero_line y a.0 zero_line-zeros in let rest : ys ≡ zero_lines k = Among-zero_lines k ys a.1 in λ i. here i ∷ rest i

-- ---- the first line of an entry
word_drop : (k j : ℕ) (l : List ℕ) → word (drop k l) j ≡ word l (k + j)
word_drop zero j l = let e : 0 + j ≡ j = omega arith in sym (ap (word l) e)
word_drop (suc k) j [] = refl
word_drop (suc k) j (x ∷ l) = let e : suc k + j ≡ suc (k + j) = omega arith in word_drop k j l ∙ sym (ap (word (x ∷ l)) e)

here_same : (x y : ℕ) → ((y ≡ 0) ⊎ (y ≡ x)) → ((y ≢ 0) ⊎ (y ≡ x)) → y ≡ x
here_same x y (inr e) k = e
here_same x y (inl e) (inl n) = absurd (n e)
here_same x y (inl e) (inr k) = k

-- where each word is known not to be zero, or to be the whole one's, none is missing
pub FillsWords-same : (xs ys : List ℕ) → FillsWords ys xs → ((j : ℕ) → j < length xs → (word ys j ≢ 0) ⊎ (word ys j ≡ word xs j)) → ys ≡ xs
FillsWords-same [] [] a f = refl
FillsWords-same [] (y ∷ ys) a f = absurd a
FillsWords-same (x ∷ xs) [] a f = absurd a
FillsWords-same (x ∷ xs) (y ∷ ys) a f = let here : y ≡ x = here_same x y a.0 (f 0 (omega arith)) in let rest : ys ≡ xs = FillsWords-same xs ys a.1 (λ j l. f (suc j) (omega arith)) in (cc)

of_eight : (P : ℕ → Type 0) → P 0 → P 1 → P 2 → P 3 → P 4 → P 5 → P 6 → P 7 → (j : ℕ) → j < 8 → P j
of_eight P a b c d e f g h zero l = a
of_eight P a b c d e f g h (suc zero) l = b
of_eight P a b c d e f g h (suc (suc zero)) l = c
of_eight P a b c d e f g h (suc (suc (suc zero))) l = d
of_eight P a b c d e f g h (suc (suc (suc (suc zero)))) l = e
of_eight P a b c d e f g h (suc (suc (suc (suc (suc zero))))) l = f
of_eight P a b c d e f g h (suc (suc (suc (suc (suc (suc zero)))))) l = g
of_eight P a b c d e f g h (suc (suc (suc (suc (suc (suc (suc zero))))))) l = h
of_eight P a b c d e f g h (suc (suc (suc (suc (suc (suc (suc (suc j)))))))) l = absurd (omega arith)

-- ---- the torn entry
-- what is among an entry's line and lines, and is accepted, misses no word of them
pub is_entry-Among : (head : LogHead) (before : ℕ) (line : List ℕ) (rest : List (List ℕ)) (read : List ℕ) (image : List (List ℕ)) → head.format ≡ 2 → IsLine line
    → is_entry head before line rest ≡ true → FillsWords read line → Among rest image → is_entry head before read image ≡ true
    → (read ≡ line) × (take (word line 4) image ≡ take (word line 4) rest)
is_entry-Among head before line rest read image masked eight at a b accepted =
    let f = Accepted-if head before line rest at in let g = Accepted-if head before read image accepted in
    let guarded : drop 5 read ≡ masks (take (word read 4) image) = g.guarded ∙ guard-masks head (take 5 read) (take (word read 4) image) masked in
    let big : (j : ℕ) → j < 3 → word (drop 5 read) j ≢ 0 = (λ j l e. masks-not_zero (take (word read 4) image) j l (ap (λ (z : List ℕ). word z j) (sym guarded) ∙ e)) in
    let mark : (j : ℕ) → j < 3 → word read (5 + j) ≢ 0 = (λ j l e. big j l (word_drop 5 j read ∙ e)) in
    let same : read ≡ line = FillsWords-same line read a (λ j l. of_eight (λ j. (word read j ≢ 0) ⊎ (word read j ≡ word line j))
    (inl (λ e. let m = g.magic in omega arith)) (inr (g.own ∙ sym f.own)) (inr (g.next ∙ sym f.next)) (inl (λ e. let m = g.some_nodes in let p = g.from_one in omega arith)) (inl (λ e. let m = g.some_nodes in omega arith))
    (inl (mark 0 (omega arith))) (inl (mark 1 (omega arith))) (inl (mark 2 (omega arith))) j (omega arith)) in
    let count : word read 4 ≡ word line 4 = ap (λ (z : List ℕ). word z 4) same in
    let whole : drop 5 line ≡ masks (take (word line 4) rest) = f.guarded ∙ guard-masks head (take 5 line) (take (word line 4) rest) masked in
    let nodes : masks (take (word line 4) image) ≡ masks (take (word line 4) rest) = ap (λ (n : ℕ). masks (take n image)) (sym count) ∙ (sym guarded ∙ (ap (drop 5) same ∙ whole)) in
    (same, Among-masks (take (word line 4) rest) (take (word line 4) image) (Among-take (word line 4) rest image b) nodes)

-- every image of an entry's place and the zeros after it: no entry, or the entry whole
pub entries_from-Among : (head : LogHead) (before : ℕ) (s : Segment) (k : ℕ) (image : List (List ℕ)) → head.format ≡ 2 → FitsEntry head.threads s → Among (entry_lines head before s ++ zero_lines k) image
    → (entries_from head before 0 image ≡ []) ⊎ (image ≡ entry_lines head before s ++ zero_lines k)
entries_from-Among head before s k [] masked f a = absurd a
entries_from-Among head before s k (l ∷ image) masked f a = ⊎_elim
    (λ (e : is_entry head before l image ≡ true). inr (whole (is_entry-Among head before line rest l image masked eight (is_entry-entry_line head before s (zero_lines k) f) a.0 a.1 e)))
    (λ (e : is_entry head before l image ≡ false). inl (entries_from-none head before l image e))
    (cases_Bool (is_entry head before l image))
  where
    line : List ℕ
    line = entry_line head before s

    rest : List (List ℕ)
    rest = node_lines s.nodes ++ zero_lines k

    eight : IsLine (entry_line head before s)
    eight = ap (λ (z : List ℕ). length (entry_front head before s ++ z)) (guard-masks head (entry_front head before s) (node_lines s.nodes) masked)

    after : drop (length s.nodes) (node_lines s.nodes ++ zero_lines k) ≡ zero_lines k
    after = drop-node_lines s.nodes (zero_lines k)

    zeros : drop (length s.nodes) image ≡ zero_lines k
    zeros = Among-zero_lines k (drop (length s.nodes) image) (subst (λ (z : List (List ℕ)). Among z (drop (length s.nodes) image)) after (Among-drop (length s.nodes) rest image a.1))

    whole : (l ≡ entry_line head before s) × (take (length s.nodes) image ≡ take (length s.nodes) (node_lines s.nodes ++ zero_lines k)) → l ∷ image ≡ entry_lines head before s ++ zero_lines k
    whole e = let here = e.0 in let there = same_by_parts (length s.nodes) (node_lines s.nodes ++ zero_lines k) image e.1 (zeros ∙ sym after) in λ i. here i ∷ there i

-- ---- a front of lines, and zeros in the place of the others
pub Among-zeros : (lines : List (List ℕ)) (k : ℕ) → AreLines lines → Among (lines ++ zero_lines k) (zero_lines (length lines + k))
Among-zeros [] k e = let z : 0 + k ≡ k = omega arith in subst (λ (n : ℕ). Among (zero_lines k) (zero_lines n)) (sym z) (FillsLines-self (zero_lines k))
Among-zeros (l ∷ ls) k e = let z : suc (length ls) + k ≡ suc (length ls + k) = omega arith in
    subst (λ (n : ℕ). Among (l ∷ (ls ++ zero_lines k)) (zero_lines n)) (sym z) (FillsWords-zero_line l e.0, Among-zeros ls k e.1)

pub Among-front : (lines : List (List ℕ)) (front k : ℕ) → AreLines lines → Among (lines ++ zero_lines k) (take front lines ++ zero_lines (length lines - front + k))
Among-front lines zero k e = let z : length lines - 0 + k ≡ length lines + k = omega arith in subst (λ (m : ℕ). Among (lines ++ zero_lines k) (zero_lines m)) (sym z) (Among-zeros lines k e)
Among-front [] (suc n) k e = let z : 0 - suc n + k ≡ k = omega arith in subst (λ (m : ℕ). Among (zero_lines k) (zero_lines m)) (sym z) (FillsLines-self (zero_lines k))
Among-front (l ∷ ls) (suc n) k e = let z : suc (length ls) - suc n + k ≡ length ls - n + k = omega arith in
    subst (λ (m : ℕ). Among (l ∷ (ls ++ zero_lines k)) (l ∷ (take n ls ++ zero_lines m))) (sym z) (FillsWords-self l, Among-front ls n k e.1)

-- ---- images of a device
-- where the one and the other begin alike, so does a mix of them
pub Mixed-front : (xs us vs zs : List (List ℕ)) → Mixed (xs ++ us) (xs ++ vs) zs → (rest : List (List ℕ)) × (zs ≡ xs ++ rest) × Mixed us vs rest
Mixed-front [] us vs zs m = (zs, refl, m)
Mixed-front (x ∷ xs) us vs [] m = absurd m
Mixed-front (x ∷ xs) us vs (z ∷ zs) m = let h = Mixed-front xs us vs zs m.1 in let here = MixedWords-same x z m.0 in let there = h.1 in (h.0, (λ i. here i ∷ there i), h.2)

FillsWords-mixed : (zeros line image : List ℕ) → AreZero zeros → MixedWords zeros line image → FillsWords image line
FillsWords-mixed [] [] [] z m = tt
FillsWords-mixed [] [] (y ∷ ys) z m = absurd m
FillsWords-mixed [] (x ∷ xs) ys z m = absurd m
FillsWords-mixed (w ∷ ws) [] ys z m = absurd m
FillsWords-mixed (w ∷ ws) (x ∷ xs) [] z m = absurd m
FillsWords-mixed (w ∷ ws) (x ∷ xs) (y ∷ ys) z m = (⊎_elim (λ (e : y ≡ w). inl (e ∙ z.0)) (λ (e : y ≡ x). inr e) m.0, FillsWords-mixed ws xs ys z.1 m.1)

-- a mix of zeros and lines is among the lines
pub Among-mixed : (k : ℕ) (lines image : List (List ℕ)) → Mixed (zero_lines k) lines image → Among lines image
Among-mixed zero [] [] m = tt
Among-mixed zero [] (y ∷ ys) m = absurd m
Among-mixed zero (x ∷ xs) ys m = absurd m
Among-mixed (suc k) [] ys m = absurd m
Among-mixed (suc k) (x ∷ xs) [] m = absurd m
Among-mixed (suc k) (x ∷ xs) (y ∷ ys) m = (FillsWords-mixed zero_line x y zero_line-zeros m.0, Among-mixed k xs ys m.1)

-- the image with the entry, by its parts
pub log_image-more : (head : LogHead) (ss : List Segment) (s : Segment) (k : ℕ) → log_image head (ss ++ s ∷ []) k ≡ log_lines head ss ++ (entry_lines head (length ss) s ++ zero_lines k)
log_image-more head ss s k = ap (λ (l : List (List ℕ)). l ++ zero_lines k) (log_lines-more head ss s) ∙ append_assoc (log_lines head ss) (entry_lines head (length ss) s) (zero_lines k)

pub Holds-log_image : (head : LogHead) (ss : List Segment) (k : ℕ) → FitsHead head → FitEntries head.threads ss → Holds (log_image head ss k) head ss
Holds-log_image head ss k h f = content_of-log_lines head ss k h f

-- a log that ends with what is among an entry holds it, or doesn't
pub Holds-among : (head : LogHead) (ss : List Segment) (s : Segment) (k : ℕ) (tail : List (List ℕ)) → FitsHead head → head.format ≡ 2 → FitEntries head.threads ss → FitsEntry head.threads s
    → Among (entry_lines head (length ss) s ++ zero_lines k) tail
    → Holds (log_lines head ss ++ tail) head ss ⊎ (tail ≡ entry_lines head (length ss) s ++ zero_lines k)
Holds-among head ss s k tail h masked f g a = ⊎_elim
    (λ (e : entries_from head (length ss) 0 tail ≡ []). inl (content_of-head_line head (entries_lines head 0 ss ++ tail) h ∙
    ap (λ (l : List Segment). Some (record { head = Some head; entries = l })) (entries_from-entries_lines head ss tail f ∙ (ap (λ (l : List Segment). ss ++ l) e ∙ append-nil ss))))
    (λ (e : tail ≡ entry_lines head (length ss) s ++ zero_lines k). inr e)
    (entries_from-Among head (length ss) s k tail masked g a)

-- Where the fenced words are a log and zeros, and the words as read are that log and some of the words of an entry more,
-- every image holds that entry exactly where it is whole.
pub TornOrWhole-Among : (head : LogHead) (ss : List Segment) (s : Segment) (n k : ℕ) (read image : List (List ℕ)) → FitsHead head → head.format ≡ 2 → FitEntries head.threads ss → FitsEntry head.threads s
    → Among (entry_lines head (length ss) s ++ zero_lines k) read → Mixed (log_image head ss n) (log_lines head ss ++ read) image
    → TornOrWhole head ss s (log_image head (ss ++ s ∷ []) k) image
TornOrWhole-Among head ss s n k read image h masked f g a m = record {
  appended = λ e. subst (λ (l : List (List ℕ)). Holds l head (ss ++ s ∷ [])) (sym e) (Holds-log_image head (ss ++ s ∷ []) k h (FitEntries-append head.threads ss (s ∷ []) f (g, tt)));
  torn = λ e. subst (λ (l : List (List ℕ)). Holds l head ss) (sym front.1) (⊎_elim
      (λ (t : Holds (log_lines head ss ++ front.0) head ss). t)
      (λ (t : front.0 ≡ entry_lines head (length ss) s ++ zero_lines k). absurd (e (front.1 ∙ (ap (λ (l : List (List ℕ)). log_lines head ss ++ l) t ∙ sym (log_image-more head ss s k)))))
      (Holds-among head ss s k front.0 h masked f g (FillsLines-then front.0 read (entry_lines head (length ss) s ++ zero_lines k) (Among-mixed n read front.0 front.2) a)));
}
  where
    front : (rest : List (List ℕ)) × (image ≡ log_lines head ss ++ rest) × Mixed (zero_lines n) read rest
    front = Mixed-front (log_lines head ss) (zero_lines n) read image m

-- the torn entry
pub TornOrWhole-Mixed : (head : LogHead) (ss : List Segment) (s : Segment) (n k : ℕ) (image : List (List ℕ)) → FitsHead head → head.format ≡ 2 → FitEntries head.threads ss → FitsEntry head.threads s
    → Mixed (log_image head ss n) (log_image head (ss ++ s ∷ []) k) image → TornOrWhole head ss s (log_image head (ss ++ s ∷ []) k) image
TornOrWhole-Mixed head ss s n k image h masked f g m =
    let whole : List (List ℕ) = entry_lines head (length ss) s ++ zero_lines k in
    TornOrWhole-Among head ss s n k whole image h masked f g (FillsLines-self whole) (subst (λ (l : List (List ℕ)). Mixed (log_image head ss n) l image) (log_image-more head ss s k) m)

-- a device that is between a log and that log with an entry more
pub TornOrWhole-steps : (head : LogHead) (ss : List Segment) (s : Segment) (n k : ℕ) (d : DeviceState) (done rest : List Step) (image : List (List ℕ)) → FitsHead head → head.format ≡ 2 → FitEntries head.threads ss → FitsEntry head.threads s
    → NonePending d → d.read ≡ log_image head ss n → AreLegal d (done ++ rest) → (after_steps d (done ++ rest)).read ≡ log_image head (ss ++ s ∷ []) k → IsImage (after_steps d done) image
    → TornOrWhole head ss s (log_image head (ss ++ s ∷ []) k) image
TornOrWhole-steps head ss s n k d done rest image h masked f g settled before legal after i =
    TornOrWhole-Mixed head ss s n k image h masked f g (subst (λ (l : List (List ℕ)). Mixed (log_image head ss n) l image) after
    (subst (λ (l : List (List ℕ)). Mixed l (after_steps d (done ++ rest)).read image) before (Mixed-image d done rest image settled legal i)))
