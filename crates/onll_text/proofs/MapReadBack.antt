use Rattle.std.proofs.Common.{ℕ, true, List, [], ◌∷◌, ◌++◌, ◌≡◌, ◌+◌, ◌<◌, ◌≤◌, not, length, map, decimal, codes, get_or, sym, ap, subst, ◌∙◌, arith, Option, None, Ok, Result, append_assoc, length-append, drop, slice_get, Some, refl}
use Rattle.std.specs.List.{flat_map}
use Rattle.std.specs.List.Sorted.{IsStrictlySortedBy}
use Rattle.std.specs.Map.{keys_of}
use Rattle.std.specs.Option.{is_some}
use Rattle.std.proofs.Math.ListN.{get_or-map}
use Rattle.std.proofs.Math.Seq.{get_or-append_seam}
use Rattle.std.proofs.lemmas.List.{append-nil, get_or_append_left, drop_more}
use Rattle.std.proofs.lemmas.List.Edits.{insert_end}
use Rattle.std.proofs.lemmas.Map.Keys.{Less-from_sorted}
use Rattle.std.proofs.lemmas.Map.Entries.{length-keys_of}
use Rattle.onll_words.specs.Short.{ShortText}
use Rattle.onll_words.specs.Texts.{Numbered, numbered, joined, line_text, AreWords}
use Rattle.onll_map.specs.Map.{Pairs, Entries, IsMap, key_cmp, value_at, has_room, pairs_put}
use Rattle.onll_map.specs.Places.{IsGap}
use Rattle.onll_map.proofs.Edits.{insert_entry-gap}
use Rattle.onll_map.proofs.Maps.{key_total}
use Rattle.onll_map.proofs.Steps.{value_at-gap, room_for}
use Rattle.onll_text.specs.declared.reason.Reason.{Reason}
use Rattle.onll_text.specs.declared.reason.Reason.TheVariants.{Repeated, TooMany}
use Rattle.onll_text.specs.declared.any_object.AnyObject.TheVariants as objects
use Rattle.onll_text.specs.declared.any_object.Kind.TheVariants as kinds
use Rattle.onll_text.specs.Refusal.{Refusal, ◌>>=◌, only_if, at_line}
use Rattle.onll_text.specs.MapText.{pair_line, pair_lines, with_pair, with_pair_line}
use Rattle.onll_text.specs.MapLaws.{map_in_lines, map_is_short}
use Rattle.onll_text.specs.CallKind.{calls_of}
use Rattle.onll_text.specs.Init.{head_of}
use Rattle.onll_text.specs.Making.{after_lines}
use Rattle.onll_text.specs.ReadBack.{ReadsBack}
use Rattle.onll_text.specs.WordsAgain.{two_shorts-bytes}
use Rattle.onll_text.proofs.ReadBack.{capacity_of-decimal, after_lines-joined, init_of-flat_map, within_text}
use Rattle.std.proofs.lemmas.Option.{slice_get_within, get_or_from_slice_get}
use Rattle.onll_words.proofs.ShortWord.{IsWord-short}
use Rattle.onll_text.specs.Bytes.{with_lines}

-- ---- the lines as they are put
pub pair_line_in_words : (pair : ShortText × ShortText) → AreWords (pair_line pair)
pair_line_in_words pair = (record { some = refl; bytes = refl }, (IsWord-short pair.0, (IsWord-short pair.1, tt)))

-- one pair's line before those of the rest
pub pair_lines_more : (bytes : List ℕ) (pairs : Pairs) (i : ℕ) (pair : ShortText × ShortText) → slice_get pairs i ≡ Some pair
    → with_lines (bytes ++ line_text (pair_line pair)) (pair_lines (drop (i + 1) pairs)) ≡ with_lines bytes (pair_lines (drop i pairs))
pair_lines_more bytes pairs i pair h =
    let left : drop i pairs ≡ pair ∷ drop (i + 1) pairs =
    drop_more pairs i pair (slice_get_within pairs i pair h) ∙ ap (λ p. p ∷ drop (i + 1) pairs) (get_or_from_slice_get pairs i pair pair h) in
    append_assoc bytes (line_text (pair_line pair)) (flat_map line_text (pair_lines (drop (i + 1) pairs)))
    ∙ sym (ap (λ t. with_lines bytes (pair_lines t)) left)

-- the first line

head_of-map : (n : ℕ) → 1 ≤ n → n ≤ 4096 → head_of (codes "map" ∷ decimal n ∷ []) ≡ Ok (record { kind = kinds.Map; capacity = n })
head_of-map n some few = ap (λ (v : Result ℕ Reason). v >>= λ k. Ok (record { kind = kinds.Map; capacity = k })) (capacity_of-decimal n some few)

-- the lines of the pairs

-- a pair whose key is new is put where there is room
with_pair-fits : (made : Entries) (k v : ShortText) → value_at made.pairs k ≡ None → has_room made ≡ true
    → with_pair made (k, v) ≡ Ok (record { pairs = pairs_put made.pairs k v; room = made.room })
with_pair-fits made k v e₁ e₂ =
    let more : Entries → Entries = λ m. record { pairs = pairs_put m.pairs k v; room = m.room } in
    ap (λ (o : Option ShortText). only_if (not (is_some o)) Repeated made >>= (λ m. only_if (has_room m) TooMany (more m))) e₁
    ∙ ap (λ t. only_if t TooMany (more made)) e₂

-- where keys rise, those before a key are below it
gap_at_end : (done : Pairs) (pair : ShortText × ShortText) (rest : Pairs) → IsStrictlySortedBy key_cmp (keys_of (done ++ pair ∷ rest)) → IsGap done pair.0 (length done)
gap_at_end done pair rest s = record {
  in_range = omega arith;
  below = λ j d lt.
      let all : Pairs = done ++ pair ∷ rest in
      let key_at : (n : ℕ) → get_or (keys_of all) n d.0 ≡ (get_or all n d).0 = λ n. get_or-map (λ (e : ShortText × ShortText). e.0) all n d in
      let left : get_or (keys_of all) j d.0 ≡ (get_or done j d).0 = key_at j ∙ ap (λ e. e.0) (get_or_append_left done (pair ∷ rest) d j lt) in
      let right : get_or (keys_of all) (length done) d.0 ≡ pair.0 = key_at (length done) ∙ ap (λ e. e.0) (get_or-append_seam done pair rest d) in
      sym (ap (λ q. key_cmp q (get_or (keys_of all) (length done) d.0)) left ∙ ap (key_cmp (get_or done j d).0) right)
      ∙ Less-from_sorted key_cmp (keys_of all) j (length done) d.0 s lt (omega (arith, length-keys_of all, length-append done (pair ∷ rest)));
  above = λ j d le lt. absurd (omega arith);
}

pairs_put-last : (done : Pairs) (k v : ShortText) → IsGap done k (length done) → pairs_put done k v ≡ done ++ (k, v) ∷ []
pairs_put-last done k v g = insert_entry-gap key_total k done (length done) v g.in_range g.below g.above ∙ insert_end done (k, v)

abbrev so_far : Pairs → ℕ → Entries
so_far done n = record { pairs = done; room = n }

-- the next pair's line puts it last
next_pair : (done : Pairs) (pair : ShortText × ShortText) (n : ℕ) → IsGap done pair.0 (length done) → length done < n
    → with_pair_line (so_far done n) (pair_line pair) ≡ Ok (so_far (done ++ pair ∷ []) n)
next_pair done pair n g h =
    let made : Entries = so_far done n in
    ap (λ (v : Result (ShortText × ShortText) Reason). v >>= with_pair made) (two_shorts-bytes pair.0 pair.1)
    ∙ with_pair-fits made pair.0 pair.1 (value_at-gap done pair.0 (length done) g) (room_for made h)
    ∙ ap (λ (xs : Pairs). Ok (so_far xs n)) (pairs_put-last done pair.0 pair.1 g)

-- the lines of the pairs that are left put them after those that are there
after_lines-pairs : (k : ℕ) (done rest : Pairs) (n : ℕ) → IsStrictlySortedBy key_cmp (keys_of (done ++ rest)) → length done + length rest ≤ n
    → after_lines with_pair_line (so_far done n) (numbered k (map joined (pair_lines rest))) ≡ Ok (so_far (done ++ rest) n)
after_lines-pairs k done [] n s h = ap (λ (xs : Pairs). Ok (so_far xs n)) (sym (append-nil done))
after_lines-pairs k done (pair ∷ rest) n s h =
    let whole : (done ++ pair ∷ []) ++ rest ≡ done ++ pair ∷ rest = append_assoc done (pair ∷ []) rest in
    let lines : List Numbered = numbered (k + 1) (map joined (pair_lines rest)) in
    after_lines-joined with_pair_line (so_far done n) k (pair_line pair) lines (pair_line_in_words pair)
    ∙ ap (λ (v : Result Entries Reason). at_line k v >>= λ more. after_lines with_pair_line more lines) (next_pair done pair n (gap_at_end done pair rest s) (omega arith))
    ∙ after_lines-pairs (k + 1) (done ++ pair ∷ []) rest n (subst (λ (xs : Pairs). IsStrictlySortedBy key_cmp (keys_of xs)) (sym whole) s) (omega (arith, length-append done (pair ∷ [])))
    ∙ ap (λ (xs : Pairs). Ok (so_far xs n)) whole

-- what is printed of a map reads as that map
pub map_reads_back : (s : Entries) → IsMap s → ReadsBack (calls_of kinds.Map).wording objects.Map s
map_reads_back s h =
    init_of-flat_map (codes "map" ∷ decimal s.room ∷ []) (pair_lines s.pairs) (record { kind = kinds.Map; capacity = s.room }) (map_in_lines s) (within_text (map_is_short s h)) (head_of-map s.room h.least_room h.greatest_room)
    ∙ ap (λ (v : Result Entries Refusal). v >>= λ entries. Ok (objects.Map entries)) (after_lines-pairs 2 [] s.pairs s.room h.rising (omega (arith, h.fits)))
