use Rattle.std.proofs.Common.{rules, ◌∙◌, List, sym, ap}
use Rattle.std.specs.List.{slice_get}
use Rattle.onll_log.specs.declared.head.LogHead.{LogHead}
use Rattle.onll_log.specs.Head.{word}
use Rattle.onll_standby.proofs.Taking.{threads_of, opens_some, opens_none}
use Rattle.onll_standby.proofs.follower.Follower.opens.Goals as goal

pub is_header-requires : goal.is_header-requires
is_header-requires g c = threads_of c.args.self.now.heads.items (word c.args.line.now.w 1) c.in-Some.head c.requires.heads (ap (λ (l : List LogHead). slice_get l (word c.args.line.now.w 1)) (sym c.deref.ensures.value) ∙ (sym c.head_at.ensures ∙ c.in-Some.is))

pub returns-in-Some : goal.returns-in-Some
returns-in-Some g c d = c.is_header.ensures ∙ opens_some c.args.self.now.heads.items c.args.self.now.holdings.logs c.args.line.now.w c.in-Some.head _ d c.requires.heads (search rules) (ap (λ (l : List LogHead). slice_get l (word c.args.line.now.w 1)) (sym c.deref.ensures.value) ∙ (sym c.head_at.ensures ∙ c.in-Some.is))

pub returns-in-None : goal.returns-in-None
returns-in-None g c d = opens_none c.args.self.now.heads.items c.args.self.now.holdings.logs c.args.line.now.w d (ap (λ (l : List LogHead). slice_get l (word c.args.line.now.w 1)) (sym c.deref.ensures.value) ∙ (sym c.head_at.ensures ∙ c.in-None.is))
