-- A standby after more bytes.
use Rattle.std.proofs.Common.{◌≡◌, ℕ, zero, suc, ◌+◌, ◌<◌, ◌≤◌, List, [], ◌∷◌, ◌++◌, length, take, drop, sym, refl, ap, subst, ◌∙◌, arith, append_assoc, append-nil, length-append}
use Rattle.std.proofs.lemmas.List.{take-append-drop}
use Rattle.onll_words.specs.Lines.{words_of_bytes}
use Rattle.onll_model.specs.Object.{Behaviour}
use Rattle.onll_log.specs.declared.head.LogHead.{LogHead}
use Rattle.onll_log.specs.ImageFile.{whole_lines}
use Rattle.onll_standby.specs.declared.fault.FeedFault.{FeedFault}
use Rattle.onll_standby.specs.declared.follower.Follower.{Follower}
use Rattle.onll_standby.specs.Stream.{lines_course, course}
use Rattle.onll_standby.specs.Entry.{StopsAtCourse}
use Rattle.onll_standby.specs.Follower.{FollowsLines, StopsAtLine}
use Rattle.onll_standby.specs.Standby.{StandbyState, part_of, HasFollowed, IsFed, HasFault, StopsInPiece}
use Rattle.onll_standby.proofs.Taking.{stands_after}
use Rattle.onll_standby.proofs.Cutting.{same_lines, longer_part, one_line, no_part}

-- what it holds and follows is what the bytes come to
followed_of : {State Op Query Reply : Type 0} (b : Behaviour State Op Query Reply) (start : State) (heads : List LogHead) (bytes part : List ℕ) (f : Follower State Op Query Reply) (taken : ℕ)
    → FollowsLines b start heads (whole_lines bytes) f → taken ≡ length bytes → HasFollowed b start heads bytes (record { follower = f; part = part; taken = taken })
followed_of b start heads bytes part f taken at count = record {
  taken = count;
  held = at.held.keeps.held;
  applied = stands_after b start heads (course b heads bytes) f.holdings at.held;
}

-- before the first byte
pub fed_first : {State Op Query Reply : Type 0} (b : Behaviour State Op Query Reply) (start : State) (heads : List LogHead) (f : Follower State Op Query Reply) (part : List ℕ)
    → part ≡ [] → FollowsLines b start heads [] f → IsFed b start heads [] (record { follower = f; part = part; taken = 0 })
fed_first b start heads f part empty at = record { lines = at; part = empty; so = followed_of b start heads [] part f 0 at refl }

module _ {State Op Query Reply : Type 0} (b : Behaviour State Op Query Reply) (start : State) (heads : List LogHead) (bytes : List ℕ)
    (old : StandbyState State Op Query Reply) (fed : IsFed b start heads bytes old) where
  -- bytes that complete a line
  module _ (first : List ℕ) (full : length first + length old.part ≡ 64) where
    whole : length (part_of bytes) + length first ≡ 64
    whole = let n = ap (λ (z : List ℕ). length z) fed.part in omega arith

    lines : whole_lines bytes ++ words_of_bytes (old.part ++ first) ∷ [] ≡ whole_lines (bytes ++ first)
    lines = ap (λ (p : List ℕ). whole_lines bytes ++ words_of_bytes (p ++ first) ∷ []) fed.part ∙ sym (one_line bytes first whole)

    count : (taken : ℕ) → taken ≡ old.taken + length first → taken ≡ length (bytes ++ first)
    count taken e = let n = fed.so.taken in let k = length-append bytes first in omega arith

    pub line_fed : (f : Follower State Op Query Reply) (taken : ℕ) → taken ≡ old.taken + length first → FollowsLines b start heads (whole_lines bytes ++ words_of_bytes (old.part ++ first) ∷ []) f
        → IsFed b start heads (bytes ++ first) (record { follower = f; part = []; taken = taken })
    line_fed f taken e at =
        let k = subst (λ (ls : List (List ℕ)). FollowsLines b start heads ls f) lines at in
        record { lines = k; part = sym (no_part bytes first whole); so = followed_of b start heads (bytes ++ first) [] f taken k (count taken e) }

    pub line_shown : (f : Follower State Op Query Reply) (taken : ℕ) (x : FeedFault) → taken ≡ old.taken + length first → StopsAtLine b start heads (whole_lines bytes ++ words_of_bytes (old.part ++ first) ∷ []) x f
        → HasFault b start heads (bytes ++ first) x (record { follower = f; part = []; taken = taken })
    line_shown f taken x e shown =
        let k = subst (λ (ls : List (List ℕ)). StopsAtCourse b start (length ls) (lines_course b heads ls) x f.holdings) lines shown.shown in
        record {
          shown = k.shown;
          nothing_left = no_part bytes first whole;
          so = record { taken = count taken e; held = k.held; applied = k.applied };
          kept = shown.fault;
        }

  -- bytes that complete none
  pub part_fed : (more : List ℕ) → length more + length old.part < 64 → (taken : ℕ) → taken ≡ old.taken + length more → IsFed b start heads (bytes ++ more) (record { follower = old.follower; part = old.part ++ more; taken = taken })
  part_fed more short taken e =
      let n = ap (λ (z : List ℕ). length z) fed.part in
      let s : length (part_of bytes) + length more < 64 = omega arith in
      let t = fed.so.taken in let k = length-append bytes more in
      let at = subst (λ (ls : List (List ℕ)). FollowsLines b start heads ls old.follower) (sym (same_lines bytes more s)) fed.lines in
      record {
        lines = at;
        part = ap (λ (p : List ℕ). p ++ more) fed.part ∙ sym (longer_part bytes more s);
        so = followed_of b start heads (bytes ++ more) (old.part ++ more) old.follower taken at (omega arith);
      }

-- ---- a piece
take_none : (n : ℕ) → take {A = ℕ} n [] ≡ []
take_none zero = refl
take_none (suc n) = refl

take_add : (a n : ℕ) (xs : List ℕ) → take (a + n) xs ≡ take a xs ++ take n (drop a xs)
take_add zero n xs = let e : 0 + n ≡ n = omega arith in ap (λ (k : ℕ). take k xs) e
take_add (suc a) n [] = let e : suc a + n ≡ suc (a + n) = omega arith in let none : List ℕ = [] in ap (λ (k : ℕ). take k none) e ∙ sym (take_none n)
take_add (suc a) n (x ∷ xs) = let e : suc a + n ≡ suc (a + n) = omega arith in ap (λ (k : ℕ). take k (x ∷ xs)) e ∙ ap (λ (z : List ℕ). x ∷ z) (take_add a n xs)

joined : (bytes p : List ℕ) (a n : ℕ) → (bytes ++ take a p) ++ take n (drop a p) ≡ bytes ++ take (a + n) p
joined bytes p a n = append_assoc bytes (take a p) (take n (drop a p)) ∙ ap (λ (z : List ℕ). bytes ++ z) (sym (take_add a n p))

module _ {State Op Query Reply : Type 0} (b : Behaviour State Op Query Reply) (start : State) (heads : List LogHead) (bytes p : List ℕ) (s : StandbyState State Op Query Reply) where
  pub piece_more : (a n : ℕ) → IsFed b start heads ((bytes ++ take a p) ++ take n (drop a p)) s → IsFed b start heads (bytes ++ take (a + n) p) s
  piece_more a n fed = subst (λ (z : List ℕ). IsFed b start heads z s) (joined bytes p a n) fed

  pub piece_stop : (a n : ℕ) (e : FeedFault) → a + n ≤ length p → HasFault b start heads ((bytes ++ take a p) ++ take n (drop a p)) e s → StopsInPiece b start heads bytes p e s
  piece_stop a n e within k = record { count = a + n; within = within; fault = subst (λ (z : List ℕ). HasFault b start heads z e s) (joined bytes p a n) k }

  pub piece_end : (a : ℕ) → IsFed b start heads ((bytes ++ take a p) ++ drop a p) s → IsFed b start heads (bytes ++ p) s
  piece_end a fed = subst (λ (z : List ℕ). IsFed b start heads z s) (append_assoc bytes (take a p) (drop a p) ∙ ap (λ (z : List ℕ). bytes ++ z) (take-append-drop a p)) fed

  pub piece_begin : IsFed b start heads bytes s → IsFed b start heads (bytes ++ take 0 p) s
  piece_begin fed = subst (λ (z : List ℕ). IsFed b start heads z s) (sym (append-nil bytes)) fed
