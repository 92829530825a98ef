-- The rows of a map's operations.

use Rattle.std.specs.Prelude.{ℕ, List, [], ◌∷◌, ◌++◌, Option, Some, None, if◌then◌else◌, ◌==◌, ◌&&◌}
use Rattle.onll_words.specs.declared.line.OpRow.{OpRow}
use Rattle.onll_words.specs.Short.{ShortText, packed, unpacked}
use Rattle.onll_map.specs.declared.operation.MapOp.{MapOp}
use Rattle.onll_map.specs.declared.operation.MapOp.TheVariants.{Put, Del}

-- the row of an operation: its code, its texts as three words each, and zeros
abbrev pub map_row : MapOp → OpRow
map_row (Put k v) = record { w = 1 ∷ packed k.bytes ++ packed v.bytes }
map_row (Del k) = record { w = 2 ∷ packed k.bytes ++ 0 ∷ 0 ∷ 0 ∷ [] }

-- the operations of texts, where there are texts
abbrev pub put_of : Option ShortText → Option ShortText → Option MapOp
put_of (Some k) (Some v) = Some (Put k v)
put_of (Some k) None = None
put_of None v = None

abbrev pub del_of : Option ShortText → Option MapOp
del_of (Some k) = Some (Del k)
del_of None = None

-- the operation of a row's words, where they are those of one
abbrev pub op_of_words : List ℕ → Option MapOp
op_of_words (n ∷ a ∷ b ∷ c ∷ d ∷ e ∷ f ∷ []) =
    if n == 1 then put_of (unpacked (a ∷ b ∷ c ∷ [])) (unpacked (d ∷ e ∷ f ∷ []))
    else (if n == 2 && (d == 0) && (e == 0) && (f == 0) then del_of (unpacked (a ∷ b ∷ c ∷ [])) else None)
op_of_words _ = None

abbrev pub map_op_at : OpRow → Option MapOp
map_op_at row = op_of_words row.w
