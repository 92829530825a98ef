use Rattle.std.proofs.Common.{ℕ, Bool, true, false, List, [], ◌∷◌, ◌≡◌, ◌+◌, ◌≤◌, nat_lt, cond, ap, ◌∙◌, subst, arith, Ok, Err}
use Rattle.std.proofs.lemmas.Bool.Decides.{nat_tests}
use Rattle.onll_words.specs.Texts.{Numbered, words_of, meaningful_lines}
use Rattle.onll_model.specs.declared.call.Call.{Call}
use Rattle.onll_model.specs.declared.call.Call.TheVariants.{Update, Ask}
use Rattle.onll_model.specs.Calls.{updates_in, reads_in}
use Rattle.onll_text.specs.declared.reason.Reason.TheVariants.{TooLong, TooMany}
use Rattle.onll_text.specs.declared.script.Counts.{Counts}
use Rattle.onll_text.specs.Refusal.{refused, ◌>>=◌, at_line}
use Rattle.onll_text.specs.Wording.{Wording}
use Rattle.onll_text.specs.Script.{most_calls, is_too_long, counted, call_after, calls_in, no_calls, script_of}
use Rattle.onll_text.proofs.Accepted.{accepted, accepted_if, accepted_line}

-- A script that was read has no more updates than it may have, and no more reads.

room_for_one : (count : ℕ) → nat_lt count most_calls ≡ true → count + 1 ≤ most_calls
room_for_one count h = grind (arith, nat_tests)

module _ {State Op Query Reply : Type 0} where
  -- calls that have room behind so many
  record HaveRoom (n : Counts) (calls : List (Call State Op Query Reply)) : Type 0 where
    updates : n.updates + updates_in calls ≤ most_calls
    reads : n.reads + reads_in calls ≤ most_calls

  -- where there was room for none, there is with one more that was counted
  none_more : (n : Counts) (call : Call State Op Query Reply) (m : Counts) → HaveRoom n [] → counted n call ≡ Ok m → HaveRoom m []
  none_more n (Update op) m room e =
      let k = accepted_if (nat_lt n.updates most_calls) TooMany (record { updates = n.updates + 1; reads = n.reads }) m e in
      let fits = room_for_one n.updates k.0 in
      subst (λ (c : Counts). HaveRoom c []) k.1 (record { updates = omega (arith, fits); reads = room.reads })
  none_more n (Ask query) m room e =
      let k = accepted_if (nat_lt n.reads most_calls) TooMany (record { updates = n.updates; reads = n.reads + 1 }) m e in
      let fits = room_for_one n.reads k.0 in
      subst (λ (c : Counts). HaveRoom c []) k.1 (record { updates = room.updates; reads = omega (arith, fits) })

  -- calls with the one before them
  one_more : (n : Counts) (call : Call State Op Query Reply) (m : Counts) (calls : List (Call State Op Query Reply)) → counted n call ≡ Ok m → HaveRoom m calls → HaveRoom n (call ∷ calls)
  one_more n (Update op) m calls e room =
      let k = accepted_if (nat_lt n.updates most_calls) TooMany (record { updates = n.updates + 1; reads = n.reads }) m e in
      let u : n.updates + 1 ≡ m.updates = ap (λ (c : Counts). c.updates) k.1 in
      let r : n.reads ≡ m.reads = ap (λ (c : Counts). c.reads) k.1 in
      record { updates = omega (arith, room.updates); reads = omega (arith, room.reads) }
  one_more n (Ask query) m calls e room =
      let k = accepted_if (nat_lt n.reads most_calls) TooMany (record { updates = n.updates; reads = n.reads + 1 }) m e in
      let u : n.updates ≡ m.updates = ap (λ (c : Counts). c.updates) k.1 in
      let r : n.reads + 1 ≡ m.reads = ap (λ (c : Counts). c.reads) k.1 in
      record { updates = omega (arith, room.updates); reads = omega (arith, room.reads) }

  one_line : (w : Wording State Op Query Reply) (n : Counts) (words : List (List ℕ)) (c : Call State Op Query Reply × Counts) → call_after w n words ≡ Ok c → counted n c.0 ≡ Ok c.1
  one_line w n words c e =
      let said = accepted (w.call_of words) (λ (call : Call State Op Query Reply). counted n call >>= λ (m : Counts). Ok (call, m)) c e in
      let count = accepted (counted n said.0) (λ (m : Counts). Ok (said.0, m)) c said.2 in
      let call_is : said.0 ≡ c.0 = cc count.2 in
      let count_is : count.0 ≡ c.1 = cc count.2 in
      subst (λ (x : Call State Op Query Reply). counted n x ≡ Ok c.1) call_is (count.1 ∙ ap Ok count_is)

  lines_few : (w : Wording State Op Query Reply) (n : Counts) (lines : List Numbered) (calls : List (Call State Op Query Reply)) → HaveRoom n [] → calls_in w n lines ≡ Ok calls → HaveRoom n calls
  lines_few w n [] calls room e = let same : [] ≡ calls = cc e in subst (HaveRoom n) same room
  lines_few w n (l ∷ lines) calls room e =
      let read = accepted (at_line l.number (call_after w n (words_of l.line))) (λ (c : Call State Op Query Reply × Counts). calls_in w c.1 lines >>= λ (cs : List (Call State Op Query Reply)). Ok (c.0 ∷ cs)) calls e in
      let count = one_line w n (words_of l.line) read.0 (accepted_line l.number (call_after w n (words_of l.line)) read.0 read.1) in
      let rest = accepted (calls_in w read.0.1 lines) (λ (cs : List (Call State Op Query Reply)). Ok (read.0.0 ∷ cs)) calls read.2 in
      let same : (read.0.0 ∷ rest.0) ≡ calls = cc rest.2 in
      let after = lines_few w read.0.1 lines rest.0 (none_more n read.0.0 read.0.1 room count) rest.1 in
      subst (HaveRoom n) same (one_more n read.0.0 read.0.1 rest.0 count after)

  -- the calls of lines are few enough
  pub few_calls_in : (w : Wording State Op Query Reply) (lines : List Numbered) (calls : List (Call State Op Query Reply)) → calls_in w no_calls lines ≡ Ok calls → (updates_in calls ≤ most_calls) × (reads_in calls ≤ most_calls)
  few_calls_in w lines calls e =
      let room = lines_few w no_calls lines calls (record { updates = omega arith; reads = omega arith }) e in
      (omega (arith, room.updates), omega (arith, room.reads))

  few_in_text : (w : Wording State Op Query Reply) (long : Bool) (lines : List Numbered) (calls : List (Call State Op Query Reply))
      → cond long (Err (refused 0 TooLong)) (calls_in w no_calls lines) ≡ Ok calls → (updates_in calls ≤ most_calls) × (reads_in calls ≤ most_calls)
  few_in_text w true lines calls e = cc e
  few_in_text w false lines calls e = few_calls_in w lines calls e

  -- and so are those of a script
  pub few_calls : (w : Wording State Op Query Reply) (text : List ℕ) (calls : List (Call State Op Query Reply)) → script_of w text ≡ Ok calls → (updates_in calls ≤ most_calls) × (reads_in calls ≤ most_calls)
  few_calls w text calls e = few_in_text w (is_too_long text) (meaningful_lines text) calls e
