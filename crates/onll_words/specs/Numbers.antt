use Rattle.std.specs.Prelude.{ℕ, Bool, List, [], ◌∷◌, ◌+◌, ◌-◌, ◌*◌, ◌^◌, Option, Some, None, if◌then◌else◌, length, take, drop, nat_le, nat_lt, ◌&&◌, ◌==◌}

-- Decimal numbers in a text: 1 to 20 digits with a value of at most 2^64 - 1; leading zeros are allowed.

abbrev pub is_digit : ℕ → Bool
is_digit b = nat_le 48 b && nat_le b 57

-- how many digits stand at the front
abbrev pub run_len : List ℕ → ℕ
run_len [] = 0
run_len (b ∷ bs) = if is_digit b then run_len bs + 1 else 0

-- the value of digits that follow digits of value n
abbrev pub value_after : ℕ → List ℕ → ℕ
value_after n [] = n
value_after n (d ∷ ds) = value_after (n * 10 + (d - 48)) ds

-- a value that fits 64 bits
abbrev pub fitting : ℕ → Option ℕ
fitting v = if nat_lt v (2 ^ 64) then Some v else None

-- the value of a run of digits, where there are 1 to 20 of them and it fits
abbrev pub value_of_digits : List ℕ → Option ℕ
value_of_digits digits =
    if nat_le 1 (length digits) && nat_le (length digits) 20 then fitting (value_after 0 digits) else None

-- the value of a whole word, where it is a number
abbrev pub number_of : List ℕ → Option ℕ
number_of word = if run_len word == length word then value_of_digits word else None

abbrev pub ending_at : ℕ → Option ℕ → Option (ℕ × ℕ)
ending_at end None = None
ending_at end (Some v) = Some (v, end)

-- the number in the longest run of digits at a place, and the place after that run
abbrev pub number_from : List ℕ → ℕ → Option (ℕ × ℕ)
number_from text from =
    let n = run_len (drop from text) in ending_at (from + n) (value_of_digits (take n (drop from text)))
