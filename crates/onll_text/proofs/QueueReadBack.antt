use Rattle.std.proofs.Common.{ℕ, false, List, [], ◌∷◌, ◌++◌, ◌≡◌, ◌+◌, ◌^◌, ◌<◌, ◌≤◌, ◌==◌, not, length, map, decimal, codes, All, sym, ap, ◌∙◌, arith, Ok, Result, append_assoc, length-append, drop, slice_index_or, refl}
use Rattle.std.specs.List.{flat_map}
use Rattle.std.proofs.lemmas.List.{append-nil, drop_more}
use Rattle.std.proofs.lemmas.List.Elements.{All-head, All-tail}
use Rattle.std.proofs.lemmas.Bool.Decides.{nat_tests}
use Rattle.onll_words.specs.Texts.{Numbered, numbered, joined, line_text, AreWords}
use Rattle.onll_queue.specs.Items.{Items, IsQueue}
use Rattle.onll_queue.specs.Queue.{items_in}
use Rattle.onll_text.specs.declared.reason.Reason.{Reason}
use Rattle.onll_text.specs.declared.reason.Reason.TheVariants.{TooMany}
use Rattle.onll_text.specs.declared.any_object.AnyObject.TheVariants as objects
use Rattle.onll_text.specs.declared.any_object.Kind.TheVariants as kinds
use Rattle.onll_text.specs.Refusal.{Refusal, ◌>>=◌, only_if, at_line}
use Rattle.onll_text.specs.QueueText.{item_line, item_lines, with_item, with_item_line}
use Rattle.onll_text.specs.QueueLaws.{queue_in_lines, queue_is_short}
use Rattle.onll_text.specs.CallKind.{calls_of}
use Rattle.onll_text.specs.Init.{head_of}
use Rattle.onll_text.specs.Making.{after_lines}
use Rattle.onll_text.specs.ReadBack.{ReadsBack}
use Rattle.onll_text.specs.WordsAgain.{one_number-decimal}
use Rattle.onll_text.proofs.ReadBack.{capacity_of-decimal, after_lines-joined, init_of-flat_map, within_text}
use Rattle.onll_words.proofs.Decimals.{IsWord-decimal}
use Rattle.onll_text.specs.Bytes.{with_lines}

-- ---- the lines as they are put
pub item_line_in_words : (x : ℕ) → AreWords (item_line x)
item_line_in_words x = (record { some = refl; bytes = refl }, (IsWord-decimal x, tt))

-- one item's line before those of the rest
pub item_lines_more : (bytes items : List ℕ) (i d : ℕ) → i < length items
    → with_lines (bytes ++ line_text (item_line (slice_index_or items i d))) (item_lines (drop (i + 1) items)) ≡ with_lines bytes (item_lines (drop i items))
item_lines_more bytes items i d h =
    append_assoc bytes (line_text (item_line (slice_index_or items i d))) (flat_map line_text (item_lines (drop (i + 1) items)))
    ∙ sym (ap (λ t. with_lines bytes (item_lines t)) (drop_more items i d h))

-- the first line

head_of-queue : (n : ℕ) → 1 ≤ n → n ≤ 4096 → head_of (codes "queue" ∷ decimal n ∷ []) ≡ Ok (record { kind = kinds.Queue; capacity = n })
head_of-queue n least greatest = ap (λ (v : Result ℕ Reason). v >>= λ k. Ok (record { kind = kinds.Queue; capacity = k })) (capacity_of-decimal n least greatest)

-- the lines of the items

not_full : (m n : ℕ) → m < n → (m == n) ≡ false
not_full m n h = grind (arith, nat_tests)

-- the next item's line puts it last
next_item : (done : List ℕ) (x n : ℕ) → x < 2 ^ 64 → length done < n → with_item_line (items_in n done) (item_line x) ≡ Ok (items_in n (done ++ x ∷ []))
next_item done x n word h =
    ap (λ (v : Result ℕ Reason). v >>= with_item (items_in n done)) (one_number-decimal x word)
    ∙ ap (λ t. only_if (not t) TooMany (items_in n (done ++ x ∷ []))) (not_full (length done) n h)

-- the lines of the items that are left put them behind those that are there
after_lines-items : (k : ℕ) (done rest : List ℕ) (n : ℕ) → All (λ x. x < 2 ^ 64) rest → length done + length rest ≤ n
    → after_lines with_item_line (items_in n done) (numbered k (map joined (item_lines rest))) ≡ Ok (items_in n (done ++ rest))
after_lines-items k done [] n words h = ap (λ (xs : List ℕ). Ok (items_in n xs)) (sym (append-nil done))
after_lines-items k done (x ∷ rest) n words h =
    let lines : List Numbered = numbered (k + 1) (map joined (item_lines rest)) in
    after_lines-joined with_item_line (items_in n done) k (item_line x) lines (item_line_in_words x)
    ∙ ap (λ (v : Result Items Reason). at_line k v >>= λ more. after_lines with_item_line more lines) (next_item done x n (All-head (λ (m : ℕ). m < 2 ^ 64) x rest words) (omega arith))
    ∙ after_lines-items (k + 1) (done ++ x ∷ []) rest n (All-tail (λ (m : ℕ). m < 2 ^ 64) x rest words) (omega (arith, length-append done (x ∷ [])))
    ∙ ap (λ (xs : List ℕ). Ok (items_in n xs)) (append_assoc done (x ∷ []) rest)

-- what is printed of a queue reads as that queue
pub queue_reads_back : (s : Items) → IsQueue s → ReadsBack (calls_of kinds.Queue).wording objects.Queue s
queue_reads_back s h =
    init_of-flat_map (codes "queue" ∷ decimal s.room ∷ []) (item_lines s.items) (record { kind = kinds.Queue; capacity = s.room }) (queue_in_lines s) (within_text (queue_is_short s h)) (head_of-queue s.room h.least_room h.greatest_room)
    ∙ ap (λ (v : Result Items Refusal). v >>= λ items. Ok (objects.Queue items)) (after_lines-items 2 [] s.items s.room h.numbers (omega (arith, h.fits)))
