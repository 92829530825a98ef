-- Measures, floors and answers over all generations of an object, killed or ended.
use Rattle.std.specs.Prelude.{ℕ, List, [], ◌∷◌, ◌≡◌, ◌+◌, ◌≤◌}
use Rattle.std.specs.List.{AllByRecursion}
use Rattle.onll_model.specs.declared.call.Call.{Call}
use Rattle.onll_model.specs.declared.call.CallEnd.{CallEnd}
use Rattle.onll_model.specs.declared.node.Node.{Node}
use Rattle.onll_model.specs.Legal.{IsLegal}
use Rattle.onll_model.specs.Object.{Behaviour}
use Rattle.onll_model.specs.Trace.{state_after}
use Rattle.onll_balance.specs.Floor.{Exact, Floor, NoneFailed}
use Rattle.onll_balance.specs.Measure.{Measure, back_by, out_by, tally}
use Rattle.onll_serve.specs.Lives.{ServedGeneration, IsLife}
use Rattle.onll_keeps.specs.Facts.{AllTold}

-- the sum over the calls of all generations
abbrev pub tally_in_life : {State Op Query Reply : Type 0} → (Call State Op Query Reply → CallEnd State Op Query Reply → ℕ)
    → List (ServedGeneration State Op Query Reply) → ℕ
tally_in_life count [] = 0
tally_in_life count (g ∷ life) = tally count g.scripts g.ends + tally_in_life count life

module _ {State Op Query Reply : Type 0} (b : Behaviour State Op Query Reply) (first : State) where
  -- what a generation did is one legal history from its base on
  abbrev pub IsLegalGeneration : ServedGeneration State Op Query Reply → Type 0
  IsLegalGeneration g = IsLegal b first g.base g.scripts g.trace g.ends

  -- Whatever the newest generation left: what all generations took out, and what is left, are no more than what there was before the first
  -- and what they put in.
  abbrev pub LifeBalanceLaw : Measure b → Type 0
  LifeBalanceLaw m = (g : ServedGeneration State Op Query Reply) (more : List (ServedGeneration State Op Query Reply)) (nodes : List Node)
      → IsLife (g ∷ more) nodes → AllByRecursion IsLegalGeneration (g ∷ more)
      → tally_in_life (out_by m.out) (g ∷ more) + m.left (state_after b first nodes)
      ≤ m.left (state_after b first g.base) + tally_in_life (back_by m.back m.most) (g ∷ more)

  -- Nothing is lost: what there was before the first generation, and what answered calls of all put in, are no more than what is left and
  -- what they took out, or may have taken out.
  abbrev pub LifeFloorLaw : Floor b → Type 0
  LifeFloorLaw f = (g : ServedGeneration State Op Query Reply) (more : List (ServedGeneration State Op Query Reply)) (nodes : List Node)
      → IsLife (g ∷ more) nodes → AllByRecursion IsLegalGeneration (g ∷ more)
      → f.left (state_after b first g.base) + tally_in_life (out_by f.put) (g ∷ more)
      ≤ f.left (state_after b first nodes) + tally_in_life (back_by f.out f.most) (g ∷ more)

  -- All generations of an object from its first state on: each went on from what the one before left, and the last left these nodes.
  abbrev pub IsWholeLife : List (ServedGeneration State Op Query Reply) → List Node → Type 0
  IsWholeLife [] nodes = nodes ≡ []
  IsWholeLife (g ∷ more) nodes = (g.base ≡ []) × IsLife (g ∷ more) nodes × AllByRecursion IsLegalGeneration (g ∷ more)

  -- Whatever generations left these nodes, with the object in this state: what they took out and what is left are no more than what there
  -- was at first and what they put in; nothing of that is lost; and where no fence failed, both are one equation.
  pub record EndsLives (nodes : List Node) (now : State) : Type 0 where
    pub balanced : (m : Measure b) (life : List (ServedGeneration State Op Query Reply)) → IsWholeLife life nodes
        → tally_in_life (out_by m.out) life + m.left now ≤ m.left first + tally_in_life (back_by m.back m.most) life
    pub lost_none : (f : Floor b) (life : List (ServedGeneration State Op Query Reply)) → IsWholeLife life nodes
        → f.left first + tally_in_life (out_by f.put) life ≤ f.left now + tally_in_life (back_by f.out f.most) life
    pub exact : (e : Exact b) (life : List (ServedGeneration State Op Query Reply)) → IsWholeLife life nodes
        → AllByRecursion (λ (g : ServedGeneration State Op Query Reply). NoneFailed g.ends) life
        → tally_in_life (out_by e.out) life + e.left now ≡ e.left first + tally_in_life (out_by e.back) life

  -- each update that was answered in whatever generations left these nodes has this with its reply
  abbrev pub ToldInLives : (Op → Reply → Type 0) → List Node → Type 0
  ToldInLives says nodes = (life : List (ServedGeneration State Op Query Reply)) → IsWholeLife life nodes
      → AllByRecursion (λ (g : ServedGeneration State Op Query Reply). AllTold says g.scripts g.ends) life
