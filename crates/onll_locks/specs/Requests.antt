-- Requests, as lines say them.
use Rattle.std.specs.Prelude.{ℕ, List, [], ◌∷◌, ◌-◌, ◌==◌, Option, Some, None, Result, Ok, Err, if◌then◌else◌, codes, length, slice_index, take}
use Rattle.std.specs.Str.{bytes_eq}
use Rattle.onll_words.specs.Numbers.{number_of}
use Rattle.onll_words.specs.Texts.{words_of}
use Rattle.onll_locks.specs.declared.locks.LockOp.TheVariants.{Acquire, Release}
use Rattle.onll_locks.specs.declared.request.Asked.{Asked}
use Rattle.onll_locks.specs.declared.request.BadLine.{BadLine}
use Rattle.onll_locks.specs.declared.request.BadLine.TheVariants.{CutShort, NoClient, NoRequest, BadLock, BadToken, MoreWords}
use Rattle.onll_locks.specs.declared.request.Request.{Request}
use Rattle.onll_locks.specs.declared.request.Request.TheVariants.{Update, Ask}

-- what follows where this was accepted, and otherwise its refusal
infixl 10 ◌>>=◌
abbrev pub ◌>>=◌ : {A B : Type 0} → Result A BadLine → (A → Result B BadLine) → Result B BadLine
(Ok x) >>= f = f x
(Err e) >>= f = Err e

-- a number before the words that follow it, or this refusal
abbrev pub before : BadLine → List (List ℕ) → Option ℕ → Result (ℕ × List (List ℕ)) BadLine
before bad more None = Err bad
before bad more (Some n) = Ok (n, more)

-- the first word as a number, and the others
abbrev pub number_first : BadLine → List (List ℕ) → Result (ℕ × List (List ℕ)) BadLine
number_first bad [] = Err bad
number_first bad (w ∷ ws) = before bad ws (number_of w)

abbrev pub no_more : ℕ → List (List ℕ) → Result (Unit {0}) BadLine
no_more client [] = Ok tt
no_more client (w ∷ ws) = Err (MoreWords client)

-- what is asked by the words after the second
abbrev pub acquire_of : ℕ → List (List ℕ) → Result Request BadLine
acquire_of client ws = number_first (BadLock client) ws >>= λ l. no_more client l.1 >>= λ none. Ok (Update (Acquire l.0 client))

abbrev pub release_of : ℕ → List (List ℕ) → Result Request BadLine
release_of client ws =
    number_first (BadLock client) ws >>= λ l. number_first (BadToken client) l.1 >>= λ t. no_more client t.1 >>= λ none.
    Ok (Update (Release l.0 client t.0))

abbrev pub holder_of : ℕ → List (List ℕ) → Result Request BadLine
holder_of client ws =
    number_first (BadLock client) ws >>= λ l. no_more client l.1 >>= λ none. Ok (Ask (record { lock = l.0 }))

-- by the words after the first
abbrev pub request_of : ℕ → List (List ℕ) → Result Request BadLine
request_of client [] = Err (NoRequest client)
request_of client (w ∷ ws) =
    if bytes_eq w (codes "acquire") then acquire_of client ws
    else (if bytes_eq w (codes "release") then release_of client ws
    else (if bytes_eq w (codes "holder") then holder_of client ws
    else Err (NoRequest client)))

abbrev pub asked_of : List (List ℕ) → Result Asked BadLine
asked_of ws = number_first NoClient ws >>= λ c. request_of c.0 c.1 >>= λ r. Ok (record { client = c.0; request = r })

-- the request of a line, which has its end
abbrev pub asked_in : List ℕ → Result Asked BadLine
asked_in bytes =
    if slice_index bytes (length bytes - 1) == 10 then asked_of (words_of (take (length bytes - 1) bytes)) else Err CutShort
