-- The report of a standby says what is followed, and nothing else.
use Rattle.std.proofs.Common.{◌≡◌, ℕ, ◌<◌, ◌^◌, List, [], ◌∷◌, codes, decimal, drop, refl, ap}
use Rattle.std.specs.List.{flat_map}
use Rattle.std.proofs.lemmas.Fmt.{decimal_injective}
use Rattle.onll_words.specs.Texts.{line_text, AreMeaningful}
use Rattle.onll_words.proofs.Decimals.{IsWord-decimal}
use Rattle.onll_words.proofs.Joined.{text_determined, line_same}
use Rattle.onll_text.specs.Lines.{state_lines}
use Rattle.onll_text.specs.Reports.{SaysOnly}
use Rattle.onll_text.specs.Wording.{Wording}
use Rattle.onll_text.proofs.Determined.{state_determined, state_meaningful, says_only}
use Rattle.onll_shipping.specs.FollowJob.{FollowData, FollowReads, follow_data_lines}

same_number : (word : List ℕ) (m n : ℕ) → m < 2 ^ 64 → n < 2 ^ 64 → word ∷ decimal m ∷ [] ≡ word ∷ decimal n ∷ [] → m ≡ n
same_number word m n g h e = decimal_injective m n g h (line_same (decimal m) (decimal n) [] [] (ap (drop 1) e)).0

module _ {State Op Query Reply : Type 0} (w : Wording State Op Query Reply) where
  meaningful : (said : FollowData State) → AreMeaningful (follow_data_lines w said)
  meaningful said = (
    (record { some = refl; bytes = refl }, (IsWord-decimal said.taken, tt)),
    refl,
    (
      (record { some = refl; bytes = refl }, (IsWord-decimal said.held, tt)),
      refl,
      ((record { some = refl; bytes = refl }, (IsWord-decimal said.followed, tt)), refl, state_meaningful w said.state),
    ),
  )

  determined : (said other : FollowData State) → FollowReads w said → FollowReads w other
      → flat_map line_text (follow_data_lines w said) ≡ flat_map line_text (follow_data_lines w other) → said ≡ other
  determined said other g h e =
      let lines = text_determined (follow_data_lines w said) (follow_data_lines w other) (meaningful said) (meaningful other) e in
      let numbered : List ℕ → ℕ → List (List ℕ) = λ word n. word ∷ decimal n ∷ [] in
      let third : FollowData State → List (List (List ℕ)) = λ x. (codes "followed" ∷ decimal x.followed ∷ []) ∷ state_lines w x.state in
      let second : FollowData State → List (List (List ℕ)) = λ x. (codes "held" ∷ decimal x.held ∷ []) ∷ third x in
      let a = line_same (codes "taken" ∷ decimal said.taken ∷ []) (codes "taken" ∷ decimal other.taken ∷ []) (second said) (second other) lines in
      let b = line_same (codes "held" ∷ decimal said.held ∷ []) (codes "held" ∷ decimal other.held ∷ []) (third said) (third other) a.1 in
      let c = line_same (codes "followed" ∷ decimal said.followed ∷ []) (codes "followed" ∷ decimal other.followed ∷ []) (state_lines w said.state) (state_lines w other.state) b.1 in
      let taken = same_number (codes "taken") said.taken other.taken g.taken h.taken a.0 in
      let held = same_number (codes "held") said.held other.held g.held h.held b.0 in
      let followed = same_number (codes "followed") said.followed other.followed g.followed h.followed c.0 in
      let state = state_determined w said.state other.state g.state h.state c.1 in
      λ i. record { taken = taken i; held = held i; followed = followed i; state = state i }

  pub follow_says : (text : List ℕ) (said : FollowData State) → text ≡ flat_map line_text (follow_data_lines w said) → FollowReads w said
      → SaysOnly (follow_data_lines w) (FollowReads w) text said
  follow_says text said e h = says_only (follow_data_lines w) (FollowReads w) determined text said e h
