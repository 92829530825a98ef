-- What the reports of a restoration and of a checkpoint say, and that they say nothing else.

use Rattle.std.proofs.Common.{ℕ, ◌≡◌, ◌+◌, List, [], ◌∷◌, ◌++◌, Option, Some, None, codes, decimal, length, drop, refl, sym, ap, ◌∙◌, subst, append_assoc}
use Rattle.std.specs.List.{flat_map}
use Rattle.onll_words.specs.Texts.{line_text, AreWords, AreMeaningful, says_something}
use Rattle.std.proofs.Common.{true}
use Rattle.onll_words.proofs.Decimals.{IsWord-decimal}
use Rattle.onll_words.proofs.Joined.{AreMeaningful-append, line_same, text_determined}
use Rattle.onll_model.specs.Object.{Behaviour}
use Rattle.onll_merge.specs.Recovered.{Recovered}
use Rattle.onll_text.specs.Lines.{node_lines, state_lines, recovered_line}
use Rattle.onll_text.specs.Reports.{SaysOnly}
use Rattle.onll_text.specs.Wording.{Wording}
use Rattle.onll_text.proofs.Determined.{nodes_determined, nodes_meaningful, state_determined, state_meaningful, says_only}
use Rattle.onll_task.specs.RecoverySaid.{RecoverData, held_lines, data_with}
use Rattle.onll_task.proofs.Determined.{first_number, helds_determined, helds_meaningful, logs-data, recover_same}
use Rattle.onll_task.proofs.RecoverSteps.{recovered_in_words}
use Rattle.onll_eras.specs.EraReports.{Newest, RestoreData, RestoreReads, NewestReads, CheckpointData, CheckpointReads, era_line, place_line, place_in, newest_line, restore_lines, checkpoint_lines, logs_with_nodes}

-- ---- words
pub era_in_words : (number place : ℕ) → AreWords (era_line number place)
era_in_words number place =
    (record { some = refl; bytes = refl }, (IsWord-decimal number, (record { some = refl; bytes = refl }, (IsWord-decimal place, tt))))

pub place_in_words : (place : ℕ) → AreWords (place_line place)
place_in_words place = (record { some = refl; bytes = refl }, (IsWord-decimal place, tt))

newest_in_words : (from : Option Newest) → AreWords (newest_line from)
newest_in_words None = (record { some = refl; bytes = refl }, (record { some = refl; bytes = refl }, tt))
newest_in_words (Some n) = era_in_words n.number n.place

newest_says : (from : Option Newest) → says_something (newest_line from) ≡ true
newest_says None = refl
newest_says (Some n) = refl

-- ---- the newest checkpoint
newest_same : (a b : Newest) → a.number ≡ b.number → a.place ≡ b.place → a ≡ b
newest_same a b e₁ e₂ = ap (λ (n : ℕ). record { number = n; place = a.place }) e₁ ∙ ap (λ (n : ℕ). record { number = b.number; place = n }) e₂

newest_determined : (from other : Option Newest) → NewestReads from → NewestReads other → newest_line from ≡ newest_line other → from ≡ other
newest_determined None None g h e = refl
newest_determined None (Some o) g h e = cc e
newest_determined (Some n) None g h e = cc e
newest_determined (Some n) (Some o) g h e =
    ap Some (newest_same n o
    (first_number n.number o.number (codes "place" ∷ decimal n.place ∷ []) (codes "place" ∷ decimal o.place ∷ []) g.0 h.0 (ap (drop 1) e))
    (first_number n.place o.place [] [] g.1 h.1 (ap (drop 3) e)))

restore_same : {State : Type 0} (a b : RestoreData State) → a.from ≡ b.from → a.logs ≡ b.logs → a ≡ b
restore_same {State} a b e₁ e₂ =
    ap (λ (v : Option Newest). record { from = v; logs = a.logs }) e₁ ∙ ap (λ (v : RecoverData State). record { from = b.from; logs = v }) e₂

checkpoint_same : {State : Type 0} (a b : CheckpointData State) → a.number ≡ b.number → a.place ≡ b.place → a.state ≡ b.state → a ≡ b
checkpoint_same a b e₁ e₂ e₃ = λ i. record { number = e₁ i; place = e₂ i; state = e₃ i }

module _ {State Op Query Reply : Type 0} where
  -- ---- the report of a restoration
  -- what follows the newest checkpoint's line
  abbrev after_newest : Behaviour State Op Query Reply → Wording State Op Query Reply → RestoreData State → List (List (List ℕ))
  after_newest b w said = held_lines 0 said.logs.logs ++ (recovered_line (length said.logs.nodes)
      ∷ (node_lines b w 0 said.logs.nodes ++ (place_line (place_in said.from + length said.logs.nodes) ∷ state_lines w said.logs.state)))

  restore-lines : (b : Behaviour State Op Query Reply) (w : Wording State Op Query Reply) (said : RestoreData State)
      → restore_lines b w said ≡ newest_line said.from ∷ after_newest b w said
  restore-lines b w said =
      let nodes = node_lines b w 0 said.logs.nodes in
      let rest = place_line (place_in said.from + length said.logs.nodes) ∷ state_lines w said.logs.state in
      ap (λ ls. newest_line said.from ∷ ls) (append_assoc (held_lines 0 said.logs.logs) (recovered_line (length said.logs.nodes) ∷ nodes) rest)

  restore_meaningful : (b : Behaviour State Op Query Reply) (w : Wording State Op Query Reply) (said : RestoreData State) → AreMeaningful (restore_lines b w said)
  restore_meaningful b w said =
      let nodes = node_lines b w 0 said.logs.nodes in
      let rest = place_line (place_in said.from + length said.logs.nodes) ∷ state_lines w said.logs.state in
      subst AreMeaningful (sym (restore-lines b w said)) (
        newest_in_words said.from,
        newest_says said.from,
        AreMeaningful-append (held_lines 0 said.logs.logs) (recovered_line (length said.logs.nodes) ∷ (nodes ++ rest)) (helds_meaningful 0 said.logs.logs) (
          recovered_in_words (length said.logs.nodes),
          refl,
          AreMeaningful-append nodes rest (nodes_meaningful b w 0 said.logs.nodes)
              (place_in_words (place_in said.from + length said.logs.nodes), refl, state_meaningful w said.logs.state),
        ),
      )

  restore_determined : (b : Behaviour State Op Query Reply) (w : Wording State Op Query Reply) (said other : RestoreData State) → RestoreReads b w said → RestoreReads b w other
      → flat_map line_text (restore_lines b w said) ≡ flat_map line_text (restore_lines b w other) → said ≡ other
  restore_determined b w said other g h e =
      let rest : RestoreData State → List (List (List ℕ)) = λ r. place_line (place_in r.from + length r.logs.nodes) ∷ state_lines w r.logs.state in
      let ending : RestoreData State → List (List (List ℕ)) = λ r. node_lines b w 0 r.logs.nodes ++ rest r in
      let lines = sym (restore-lines b w said) ∙ (text_determined (restore_lines b w said) (restore_lines b w other) (restore_meaningful b w said) (restore_meaningful b w other) e
      ∙ restore-lines b w other) in
      let newest = line_same (newest_line said.from) (newest_line other.from) (after_newest b w said) (after_newest b w other) lines in
      let logs = helds_determined 0 said.logs.logs other.logs.logs (recovered_line (length said.logs.nodes) ∷ ending said) (recovered_line (length other.logs.nodes) ∷ ending other)
      g.logs.logs h.logs.logs (λ ws d. cc d) (λ ws d. cc d) newest.1 in
      let counts = line_same (recovered_line (length said.logs.nodes)) (recovered_line (length other.logs.nodes)) (ending said) (ending other) logs.1 in
      let nodes = nodes_determined b w 0 said.logs.nodes other.logs.nodes (rest said) (rest other) g.logs.nodes h.logs.nodes (λ ws d. cc d) (λ ws d. cc d) counts.1 in
      let places = line_same (place_line (place_in said.from + length said.logs.nodes)) (place_line (place_in other.from + length other.logs.nodes))
      (state_lines w said.logs.state) (state_lines w other.logs.state) nodes.1 in
      restore_same said other (newest_determined said.from other.from g.from h.from newest.0)
      (recover_same said.logs other.logs logs.0 nodes.0 (state_determined w said.logs.state other.logs.state g.logs.state h.logs.state places.1))

  pub restore_says : (b : Behaviour State Op Query Reply) (w : Wording State Op Query Reply) (from : Option Newest) (state : State) (r : Recovered) (place : ℕ) (text : List ℕ)
      → place ≡ place_in from + length r.nodes
      → text ≡ flat_map line_text ((newest_line from ∷ logs_with_nodes b w r) ++ (place_line place ∷ state_lines w state))
      → RestoreReads b w (record { from = from; logs = data_with r state })
      → SaysOnly (restore_lines b w) (RestoreReads b w) text (record { from = from; logs = data_with r state })
  restore_says b w from state r place text is e h =
      let said : RestoreData State = record { from = from; logs = data_with r state } in
      let nodes = recovered_line (length r.nodes) ∷ node_lines b w 0 r.nodes in
      says_only (restore_lines b w) (RestoreReads b w) (restore_determined b w) text said
      (e ∙ (ap (λ p. flat_map line_text ((newest_line from ∷ logs_with_nodes b w r) ++ (place_line p ∷ state_lines w state))) is
      ∙ ap (λ ls. flat_map line_text ((newest_line from ∷ (ls ++ nodes)) ++ (place_line (place_in from + length r.nodes) ∷ state_lines w state))) (logs-data 0 r.logs))) h

  -- ---- the report of a checkpoint
  checkpoint_meaningful : (w : Wording State Op Query Reply) (said : CheckpointData State) → AreMeaningful (checkpoint_lines w said)
  checkpoint_meaningful w said = (era_in_words said.number said.place, refl, state_meaningful w said.state)

  checkpoint_determined : (w : Wording State Op Query Reply) (said other : CheckpointData State) → CheckpointReads w said → CheckpointReads w other
      → flat_map line_text (checkpoint_lines w said) ≡ flat_map line_text (checkpoint_lines w other) → said ≡ other
  checkpoint_determined w said other g h e =
      let lines = text_determined (checkpoint_lines w said) (checkpoint_lines w other) (checkpoint_meaningful w said) (checkpoint_meaningful w other) e in
      let first = line_same (era_line said.number said.place) (era_line other.number other.place) (state_lines w said.state) (state_lines w other.state) lines in
      checkpoint_same said other
      (first_number said.number other.number (codes "place" ∷ decimal said.place ∷ []) (codes "place" ∷ decimal other.place ∷ []) g.number h.number (ap (drop 1) first.0))
      (first_number said.place other.place [] [] g.place h.place (ap (drop 3) first.0)) (state_determined w said.state other.state g.state h.state first.1)

  pub checkpoint_says : (w : Wording State Op Query Reply) (said : CheckpointData State) (text : List ℕ) → text ≡ flat_map line_text (checkpoint_lines w said) → CheckpointReads w said
      → SaysOnly (checkpoint_lines w) (CheckpointReads w) text said
  checkpoint_says w said text e h = says_only (checkpoint_lines w) (CheckpointReads w) (checkpoint_determined w) text said e h
