-- How cursors stand over the images of one run whose places are asked for from below.
use Rattle.std.specs.Prelude.{ℕ, ◌≡◌, ◌<◌, ◌≤◌, List, [], ◌∷◌, map, Option, Some, None}
use Rattle.std.specs.List.{AllByRecursion}
use Rattle.onll_model.specs.declared.node.Node.{Node}
use Rattle.onll_model.specs.Segment.{Segment}
use Rattle.onll_log.specs.Grammar.{Content}
use Rattle.onll_log.specs.Cursor.{CursorState, entries_passed}
use Rattle.onll_merge.specs.declared.fault.RecoverFault.{RecoverFault}
use Rattle.onll_merge.specs.declared.fault.RecoverFault.TheVariants.{Gap}
use Rattle.onll_merge.specs.declared.second_pass.Holder.{Holder}
use Rattle.onll_merge.specs.Merge.{clash_from, differs, node_in_log}

-- what the images hold
abbrev pub contents_under : List CursorState → List Content
contents_under cursors = map (λ (c : CursorState). c.content) cursors

-- the entries that a cursor went past end below this place
abbrev pub StandsBelow : ℕ → CursorState → Type 0
StandsBelow place c = AllByRecursion (λ (s : Segment). s.place < place) (entries_passed c)

abbrev pub StandBelow : ℕ → List CursorState → Type 0
StandBelow place cursors = AllByRecursion (StandsBelow place) cursors

-- of the places that a cursor stands below, the first of which is 1, its log holds none up to this one
abbrev pub IsFree : ℕ → CursorState → Type 0
IsFree free c = (place : ℕ) → 1 ≤ place → StandsBelow place c → place ≤ free → node_in_log c.content.entries place ≡ None

-- the first of these entries, if there is one, ends at this place or above
abbrev pub Reaches : ℕ → List Segment → Type 0
Reaches place [] = Unit {0}
Reaches place (s ∷ ss) = place ≤ s.place

-- the first log among those before log i that holds the place p, if one does, and the first of these logs that differs from it
abbrev pub clash_with : Option Holder → ℕ → List Content → ℕ → Option RecoverFault
clash_with None i cs p = clash_from i cs p
clash_with (Some holder) i cs p = differs p holder.log i holder.node cs

abbrev pub held_node : Option Holder → Option Node
held_node None = None
held_node (Some holder) = Some holder.node

-- the refusal for the first place that no log holds
abbrev pub gap_fault : Option ℕ → Option RecoverFault
gap_fault None = None
gap_fault (Some place) = Some (Gap place)
