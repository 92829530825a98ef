-- A stream as it is made, step by step.

use Rattle.std.proofs.Common.{ℕ, suc, ◌+◌, ◌-◌, ◌<◌, ◌≡◌, List, ◌++◌, length, length-append, map, sym, ap, ◌∙◌, arith, append_assoc}
use Rattle.std.specs.List.{flat_map}
use Rattle.std.proofs.lemmas.Grind.{flat_map-append}
use Rattle.onll_outside.specs.Views.{image_bytes}
use Rattle.onll_shipping.specs.declared.turns.Stream.{Stream}
use Rattle.onll_shipping.specs.Turns.{HasMore, first_entry, after_entry, put_in_turns}

-- ---- what is put, and what is left to be put
-- with what is left the stream is the first one with all
pub record Puts (start now : Stream) (left all : List (List (List ℕ))) : Type 0 where
  pub bytes : now.bytes.items ++ flat_map image_bytes left ≡ start.bytes.items ++ flat_map image_bytes all
  pub count : now.entries + length left ≡ start.entries + length all

pub puts_more : (start now new : Stream) (some left before all : List (List (List ℕ))) → before ≡ some ++ left → Puts start now before all → HasMore now new some → Puts start new left all
puts_more start now new some left before all split so more =
    let b : List ℕ = flat_map image_bytes left in
    let n = length-append some left in let c = more.count in let s = so.count in let k = ap (λ (l : List (List (List ℕ))). length l) split in
    record {
      bytes = ap (λ (l : List ℕ). l ++ b) more.bytes
          ∙ (append_assoc now.bytes.items (flat_map image_bytes some) b
          ∙ (ap (λ (l : List ℕ). now.bytes.items ++ l) (sym (flat_map-append image_bytes some left) ∙ ap (flat_map image_bytes) (sym split)) ∙ so.bytes));
      count = omega (arith, n, c, s, k);
    }

-- one turn before the others
pub turns_more : (i turns : ℕ) (logs after : List (List (List ℕ))) → i < turns → after ≡ map after_entry logs → put_in_turns (turns - i) logs ≡ flat_map first_entry logs ++ put_in_turns (turns - (i + 1)) after
turns_more i turns logs after low is =
    let n : turns - i ≡ suc (turns - (i + 1)) = omega (arith, low) in
    ap (λ (m : ℕ). put_in_turns m logs) n ∙ ap (λ (l : List (List (List ℕ))). flat_map first_entry logs ++ put_in_turns (turns - (i + 1)) l) (sym is)
