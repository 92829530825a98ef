-- The era after another.
use Rattle.std.proofs.Common.{ℕ, List, ◌≡◌, ◌+◌, ◌≤◌, ap, ◌∙◌, ◌⊎◌, inl, inr, length}
use Rattle.std.specs.Prelude.{Option, Ok}
use Rattle.onll_model.specs.declared.node.Node.{Node}
use Rattle.onll_model.specs.Limits.{most_threads}
use Rattle.onll_model.specs.Object.{Behaviour}
use Rattle.onll_model.specs.Trace.{state_after}
use Rattle.onll_merge.specs.Recovered.{Recovered}
use Rattle.onll_outside.specs.Views.{StoreView}
use Rattle.onll_open.specs.Opening.{FilesGive}
use Rattle.onll_live.specs.declared.era.Era.{Era}
use Rattle.onll_live.specs.Beginning.{AreCleared, IsNextEra, StaysInEra, StaysOrBegins, next_of}
use Rattle.onll_live.specs.Eras.{IsInEra, era_heads, era_logs}

module _ {State Op Query Reply : Type 0} (b : Behaviour State Op Query Reply) where
  pub next_so : (era next : Era State) (nodes : List Node) (updates : ℕ) (state : State)
      → next ≡ record { number = era.number + 1; place = era.place + updates; state = state } → updates ≡ length nodes
      → state ≡ state_after b era.state nodes → next ≡ next_of b era nodes
  next_so era next nodes updates state e many is =
      e ∙ (ap (λ (n : ℕ). record { number = era.number + 1; place = era.place + n; state = state }) many
      ∙ ap (λ (s : State). record { number = era.number + 1; place = era.place + length nodes; state = s }) is)

  module _ (code : ℕ) (description : State → List ℕ) (read_of : List ℕ → Option State) (first : State) (name : List ℕ) (threads : ℕ) (old new : StoreView)
      (era next : Era State) (found : Recovered) (given : FilesGive b old (era_logs name era.number) (era_heads code description threads era.state) (Ok found))
      (next_is : next ≡ next_of b era found.nodes) (tells : new.tells ≡ old.tells) (few : threads ≤ most_threads) where
    pub begun_so : IsInEra read_of first new name next → AreCleared new (era_logs name next.number)
        → IsNextEra b code description read_of first name threads old new era next
    begun_so i empty = record { found = found; given = given; next_is = next_is; in_next = i; empty = empty; few = few; tells = tells }

    pub refused_so : StaysInEra read_of first name old new era
        ⊎ (IsInEra read_of first new name next × AreCleared new (era_logs name next.number))
        → StaysOrBegins b code description read_of first name threads old new era
    refused_so (inl stays) = inl stays
    refused_so (inr begins) = inr (next, begun_so begins.0 begins.1)
