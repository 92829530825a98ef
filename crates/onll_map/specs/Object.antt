-- A map as an object.

use Rattle.std.specs.Prelude.{refl}
use Rattle.onll_model.specs.Object.{Behaviour}
use Rattle.onll_map.specs.declared.operation.MapOp.{MapOp}
use Rattle.onll_map.specs.declared.operation.MapQuery.{MapQuery}
use Rattle.onll_map.specs.declared.operation.MapReply.{MapReply}
use Rattle.onll_map.specs.Map.{Entries, map_next, map_reply, map_answer}
use Rattle.onll_map.specs.Rows.{map_row, map_op_at}
use Rattle.onll_map.specs.Laws.{op_of_its_row, row_of_its_op, seven_words}

-- what a map does
abbrev pub map_object : Behaviour Entries MapOp MapQuery MapReply
map_object = record {
  next = map_next;
  reply = map_reply;
  answer = map_answer;
  row_of = map_row;
  op_at = map_op_at;
  capacity = λ s. s.room;
  capacity_stays = λ s op. refl;
  op_of_its_row = op_of_its_row;
  row_of_its_op = row_of_its_op;
  seven_words = seven_words;
}
