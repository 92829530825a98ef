use Rattle.std.proofs.Common.{List, ℕ, ◌+◌, ◌≡◌, ◌++◌, length, map, take, drop, ap, ◌∙◌, arith}
use Rattle.std.specs.List.{flat_map}
use Rattle.onll_outside.specs.Views.{image_bytes}
use Rattle.onll_shipping.specs.Turns.{put_in_turns}
use Rattle.onll_shipping.proofs.ReadyLogs.{made_bytes, made_entries}
use Rattle.onll_shipping.proofs.turns.stream_of.Goals as goal

pub returns : goal.returns
returns c logs is =
    let images : List (List (List ℕ)) = c.args.images.now in
    let n = c.most_entries.result in let new = c.put_turns.new.self in
    let first : List ℕ = c.put_heads.new.out.items in
    let eights = c.in_ok-logs.ensures.lines in
    let rest = c.in_ok-logs.ensures.rest in
    let more = c.in_ok-put_turns.ensures in
    let begins : first ≡ image_bytes (flat_map (take 1) images) = c.in_ok-logs.ensures.heads ∙ ap (λ (z : List ℕ). z ++ image_bytes (flat_map (take 1) images)) c.new-bytes.ensures.items in
    let bytes : new.bytes.items ≡ first ++ flat_map image_bytes (put_in_turns n (map (drop 1) images)) = more.bytes ∙ ap (λ (l : List (List (List ℕ))). first ++ flat_map image_bytes (put_in_turns n l)) rest in
    let counted : new.entries ≡ 0 + length (put_in_turns n (map (drop 1) images)) = more.count ∙ ap (λ (l : List (List (List ℕ))). 0 + length (put_in_turns n l)) rest in
    (made_bytes images logs eights c.requires is n first new.bytes.items c.most_entries.ensures begins bytes, made_entries images logs eights c.requires is n new.entries c.most_entries.ensures (omega (arith, counted)))
