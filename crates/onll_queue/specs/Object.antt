-- A queue as an object.

use Rattle.onll_model.specs.Object.{Behaviour}
use Rattle.onll_queue.specs.Items.{Items}
use Rattle.onll_queue.specs.declared.operation.QueueOp.{QueueOp}
use Rattle.onll_queue.specs.declared.operation.QueueQuery.{QueueQuery}
use Rattle.onll_queue.specs.declared.operation.QueueReply.{QueueReply}
use Rattle.onll_queue.specs.Queue.{queue_next, queue_reply, queue_answer, queue_row, queue_op_at}
use Rattle.onll_queue.specs.Laws.{room-queue_next, op_of_its_row, row_of_its_op, seven_words}

-- what a queue does
abbrev pub queue : Behaviour Items QueueOp QueueQuery QueueReply
queue = record {
  next = queue_next;
  reply = queue_reply;
  answer = queue_answer;
  row_of = queue_row;
  op_at = queue_op_at;
  capacity = λ s. s.room;
  capacity_stays = room-queue_next;
  op_of_its_row = op_of_its_row;
  row_of_its_op = row_of_its_op;
  seven_words = seven_words;
}
