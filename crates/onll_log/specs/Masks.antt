use Rattle.std.specs.Prelude.{ℕ, ◌+◌, ◌*◌, ◌^◌, ◌==◌, not, cond, Bool, List, [], ◌∷◌, ◌++◌, take, drop}

-- The masks of an entry's operation lines say which of their words are not zero: eight bits a line, seven lines a mask word.

-- the number of these bits, the first one lowest
abbrev pub bits : List Bool → ℕ
bits [] = 0
bits (b ∷ bs) = cond {A = ℕ} b 1 0 + 2 * bits bs

-- these bits below those of a number
abbrev pub bits_on : List Bool → ℕ → ℕ
bits_on [] above = above
bits_on (b ∷ bs) above = cond {A = ℕ} b 1 0 + 2 * bits_on bs above

-- which words of a line are not zero
abbrev pub marks_in : List ℕ → List Bool
marks_in [] = []
marks_in (w ∷ ws) = not (w == 0) ∷ marks_in ws

-- which words of lines are not zero, line by line
abbrev pub marks : List (List ℕ) → List Bool
marks [] = []
marks (l ∷ ls) = marks_in l ++ marks ls

-- the mask word of up to seven lines; its highest bit is always set
abbrev pub mask_of : List (List ℕ) → ℕ
mask_of lines = bits (marks lines) + 2 ^ 63

-- the three mask words of up to sixteen lines
abbrev pub masks : List (List ℕ) → List ℕ
masks lines = mask_of (take 7 lines) ∷ mask_of (take 7 (drop 7 lines)) ∷ mask_of (drop 14 lines) ∷ []
