use Rattle.std.proofs.Common.{ℕ, ◌≡◌, ◌+◌, List, [], ◌∷◌, ◌++◌, length, sym, subst, arith}
use Rattle.onll_standby.specs.Held.{HeldEntry}
use Rattle.onll_standby.specs.Holdings.{KeepsEntries}
use Rattle.onll_standby.specs.Entry.{TookEntry}
use Rattle.onll_standby.specs.Stream.{byte_at, entries_course}
use Rattle.onll_standby.specs.Follower.{EntryHasBegun, IsWholeEntry, FollowsLines, LineUncounted}
use Rattle.onll_standby.proofs.Stepping.{few_lines, still_begun, whole_then, node_more, node_last}
use Rattle.onll_standby.proofs.follower.Follower.take_node.Goals as goal

pub add-requires : goal.add-requires
add-requires g c = few_lines c.args.self.now c.args.line.now.w c.requires.ready c.requires.some c.is_last-last.result c.is_last-last.ensures

pub returns-then-not-last-clause-ready : goal.returns-then-not-last-clause-ready
returns-then-not-last-clause-ready g c =
    let P : List (List ℕ) → Type 0 = λ z. EntryHasBegun c.args.self.now.heads.items c.args.self.now.holdings.logs z in
    let f = c.requires.ready.few in
    record {
      heads = c.requires.ready.heads;
      entry = subst P (sym c.add.ensures) (still_begun c.args.self.now c.args.line.now.w c.requires.ready c.requires.some c.is_last-last.result c.is_last-last.ensures c.if-not-last.true);
      few = omega arith;
      room = c.requires.ready.room;
    }

pub returns-then-not-last-clause-took : goal.returns-then-not-last-clause-took
returns-then-not-last-clause-took g c start heads ls is enough =
    let P : List (List ℕ) → Type 0 = λ z. FollowsLines g.O.Object.means start heads (ls ++ c.args.line.now.w ∷ []) (record c.args.self.now { lines = c.args.self.now.lines + 1; entry = z }) in
    subst P (sym c.add.ensures) (node_more c.args.self.now c.args.line.now.w c.requires.ready c.requires.some c.is_last-last.result c.is_last-last.ensures g.O.Object.means start heads ls is enough c.if-not-last.true)

pub take_entry-done-requires-clause-whole : goal.take_entry-done-requires-clause-whole
take_entry-done-requires-clause-whole g c κs within =
    let P : List (List ℕ) → Type 0 = λ z. IsWholeEntry c.args.self.now.heads.items c.args.self.now.holdings.logs z in
    subst P (sym c.add.ensures) (whole_then c.args.self.now c.args.line.now.w c.requires.ready c.requires.some c.is_last-last.result c.is_last-last.ensures c.if-not-last.false)

pub returns-clause-took : goal.returns-clause-took
returns-clause-took g c start heads ls is enough =
    let new = c.take_entry-done.new.self in
    let all : List (List ℕ) = ls ++ c.args.line.now.w ∷ [] in
    let took : (es : List HeldEntry) (at : ℕ) → byte_at at ≡ c.args.self.now.begins → KeepsEntries g.O.Object.means start (length c.args.self.now.heads.items) es c.args.self.now.holdings
    → TookEntry g.O.Object.means start c.args.self.now.heads.items at (c.args.self.now.entry ++ c.args.line.now.w ∷ []) (entries_course g.O.Object.means c.args.self.now.heads.items es at 0 (c.args.self.now.entry ++ c.args.line.now.w ∷ [])) c.take_entry-done.result new.holdings =
    λ es at e keeps. subst (λ (z : List (List ℕ)). TookEntry g.O.Object.means start c.args.self.now.heads.items at z (entries_course g.O.Object.means c.args.self.now.heads.items es at 0 z) c.take_entry-done.result new.holdings)
    c.add.ensures (c.take_entry-done.ensures.taken start es at e keeps) in
    let t = node_last c.args.self.now c.args.line.now.w c.requires.ready c.requires.some c.is_last-last.result c.is_last-last.ensures g.O.Object.means start heads ls is enough c.take_entry-done.result new.holdings took in
    let u : LineUncounted g.O.Object.means start heads all c.take_entry-done.result (record new { entry = [] }) =
    subst (λ (z : _). LineUncounted g.O.Object.means start heads all c.take_entry-done.result (record z { entry = [] })) (sym c.take_entry-done.ensures.same) t in
    subst (λ (z : List (List ℕ)). LineUncounted g.O.Object.means start heads all c.take_entry-done.result (record new { entry = z })) (sym c.clear.ensures) u
