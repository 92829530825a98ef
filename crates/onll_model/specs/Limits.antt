-- The limits of a run and of its objects.

use Rattle.std.specs.Prelude.{ℕ}

-- how many threads a run has at most, and so how many logs
abbrev pub most_threads : ℕ
most_threads = 16

-- how many updates a thread makes at most
abbrev pub most_updates : ℕ
most_updates = 4096

-- how many accounts, pairs, items or resources an object has room for at most
abbrev pub most_elements : ℕ
most_elements = 4096

-- the greatest code of an object in the head of a log; the least is 1
abbrev pub greatest_code : ℕ
greatest_code = 4
