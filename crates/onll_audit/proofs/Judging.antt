use Rattle.std.proofs.Common.{ℕ, Bool, true, false, List, [], ◌∷◌, ◌≡◌, ◌+◌, ◌<◌, ◌≤◌, length, drop, get_or, Option, Some, None, Result, Ok, Err, refl, ap, sym, ◌∙◌, arith}
use Rattle.std.specs.Option.{option_map}
use Rattle.std.proofs.lemmas.List.{drop_all, length-drop}
use Rattle.onll_model.specs.declared.node.Node.{Node}
use Rattle.onll_model.specs.declared.call.Call.{Call}
use Rattle.onll_model.specs.declared.call.Call.TheVariants.{Update, Ask}
use Rattle.onll_model.specs.Object.{Behaviour}
use Rattle.onll_text.specs.Wording.{Wording}
use Rattle.onll_audit.specs.declared.past.Past.{Past}
use Rattle.onll_audit.specs.declared.said.Said.{Said}
use Rattle.onll_audit.specs.declared.said.Said.TheVariants as said
use Rattle.onll_audit.specs.declared.verdict.Why.{Why}
use Rattle.onll_audit.specs.declared.verdict.Why.TheVariants as whys
use Rattle.onll_audit.proofs.Indexed.{at_place}
use Rattle.onll_audit.specs.Verdict.{next_past, right_if, outcome_right, place_right, reply_right, end_of_call, on_judged, judge_end, judge, thread_wrong}

-- what a line that is right says
abbrev right_said : Result Said Why → Option Said
right_said (Ok e) = Some e
right_said (Err why) = None

right_held : (test : Bool) (why : Why) (rest : Result Said Why) (e : Said) → right_if test why rest ≡ Ok e → rest ≡ Ok e
right_held true why rest e h = h
right_held false why rest e h = cc h

-- a call more
pub one_more : {State Op Query Reply : Type 0} (past : Past) (c : Call State Op Query Reply) (e : Said) → (next_past past c e).calls ≡ past.calls + 1
one_more past (Update op) (said.Answered place) = refl
one_more past (Update op) (said.FenceFailed place) = refl
one_more past (Update op) (said.Broken place) = refl
one_more past (Ask query) (said.Answered place) = refl
one_more past (Ask query) (said.FenceFailed place) = refl
one_more past (Ask query) (said.Broken place) = refl

-- with at most one place more
pub few_placed : {State Op Query Reply : Type 0} (past : Past) (c : Call State Op Query Reply) (e : Said) → (next_past past c e).placed ≤ past.placed + 1
few_placed past (Update op) (said.Answered place) = omega arith
few_placed past (Update op) (said.FenceFailed place) = omega arith
few_placed past (Update op) (said.Broken place) = omega arith
few_placed past (Ask query) (said.Answered place) = omega arith
few_placed past (Ask query) (said.FenceFailed place) = omega arith
few_placed past (Ask query) (said.Broken place) = omega arith

-- a line is judged by what it was read to say of its call
pub judged_by : {State Op Query Reply : Type 0} (b : Behaviour State Op Query Reply) (w : Wording State Op Query Reply) (s : State) (nodes : List Node)
    (places : List ℕ) (past : Past) (c : Call State Op Query Reply) (t k : ℕ) (line : List ℕ) (end : Option (List ℕ × Said)) (r : Result Said Why)
    → past.calls ≡ k → end ≡ end_of_call w t (k + 1) c line → r ≡ judge_end b w s nodes places past c end → judge b w s nodes t places past c line ≡ r
judged_by b w s nodes places past c t k line end r same is e =
    ap (λ (n : ℕ). judge_end b w s nodes places past c (end_of_call w t (n + 1) c line)) same
    ∙ ap (judge_end b w s nodes places past c) (sym is) ∙ sym e

-- the outcome of a line that is right is the one that it says
module _ {State Op Query Reply : Type 0} (b : Behaviour State Op Query Reply) (w : Wording State Op Query Reply) (s : State) (nodes : List Node)
    (places : List ℕ) (past : Past) (c : Call State Op Query Reply) (e : Said) where
  end_said : (end : Option (List ℕ × Said)) → judge_end b w s nodes places past c end ≡ Ok e → option_map (λ (r : List ℕ × Said). r.1) end ≡ Some e
  end_said None h = cc h
  end_said (Some r) h =
      let reply : Result Said Why = right_if (reply_right b w s nodes c r.1 r.0) whys.Reply (Ok r.1) in
      let place : Result Said Why = right_if (place_right places (length nodes) past c r.1) whys.Place reply in
      let placed : place ≡ Ok e = right_held (outcome_right past c r.1) whys.Outcome place e h in
      let replied : reply ≡ Ok e = right_held (place_right places (length nodes) past c r.1) whys.Place reply e placed in
      ap right_said (right_held (reply_right b w s nodes c r.1 r.0) whys.Reply (Ok r.1) e replied)

  pub judged_said : (t k : ℕ) (line : List ℕ) → past.calls ≡ k → judge b w s nodes t places past c line ≡ Ok e
      → option_map (λ (r : List ℕ × Said). r.1) (end_of_call w t (k + 1) c line) ≡ Some e
  judged_said t k line same h =
      ap (λ (n : ℕ). option_map (λ (r : List ℕ × Said). r.1) (end_of_call w t (n + 1) c line)) (sym same)
      ∙ end_said (end_of_call w t (past.calls + 1) c line) h

module _ {State Op Query Reply : Type 0} (b : Behaviour State Op Query Reply) (w : Wording State Op Query Reply) (s : State) (nodes : List Node)
    (t : ℕ) (places : List ℕ) (n : ℕ) (past : Past) (script : List (Call State Op Query Reply)) (lines : List (List ℕ)) (i : ℕ) where
  -- a line after the script's end
  pub past_end : i < length lines → length script ≤ i → thread_wrong b w s nodes t places n past (drop i script) (drop i lines) ≡ Some (n, whys.Script)
  past_end within le = by_rest (drop i lines) (omega (arith, length-drop i lines))
    where
      by_rest : (rest : List (List ℕ)) → 0 < length rest → thread_wrong b w s nodes t places n past (drop i script) rest ≡ Some (n, whys.Script)
      by_rest [] lt = absurd (omega arith)
      by_rest (l ∷ rest) lt = ap (λ (cs : List (Call State Op Query Reply)). thread_wrong b w s nodes t places n past cs (l ∷ rest)) (drop_all i script le)

  -- a line of a call
  pub on_line : (line : List ℕ) → drop i lines ≡ line ∷ drop (i + 1) lines → (call : Call State Op Query Reply) → i < length script → call ≡ get_or script i call
      → thread_wrong b w s nodes t places n past (drop i script) (drop i lines)
      ≡ on_judged n (judge b w s nodes t places past call line) (λ e. thread_wrong b w s nodes t places (n + 1) (next_past past call e) (drop (i + 1) script) (drop (i + 1) lines))
  on_line line here call lt e =
      ap (λ (ls : List (List ℕ)). thread_wrong b w s nodes t places n past (drop i script) ls) here
      ∙ ap (λ (cs : List (Call State Op Query Reply)). thread_wrong b w s nodes t places n past cs (line ∷ drop (i + 1) lines)) (at_place script i call lt e)

pub ruleset judging = (past_end, on_line)
