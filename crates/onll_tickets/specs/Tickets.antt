-- Tickets are as many as are left.
use Rattle.std.proofs.Common.{ℕ, List, [], ◌∷◌, ◌≡◌, ◌-◌, ◌++◌, Some, if◌then◌else◌, nat_lt, get_or, codes, decimal, refl}
use Rattle.onll_log.specs.declared.head.LogHead.{LogHead}
use Rattle.onll_open.specs.Heads.{heads_of}
use Rattle.onll_rows.specs.Sketch.{Coding, Sketch, row_words}
use Rattle.onll_tickets.specs.declared.tickets.Tickets.{Tickets}
use Rattle.onll_tickets.specs.declared.tickets.TicketOp.{TicketOp}
use Rattle.onll_tickets.specs.declared.tickets.TicketOp.TheVariants.{Draw}
use Rattle.onll_tickets.specs.declared.tickets.TicketQuery.{TicketQuery}
use Rattle.onll_tickets.specs.declared.tickets.TicketReply.{TicketReply}
use Rattle.onll_tickets.specs.declared.tickets.TicketReply.TheVariants as gives

abbrev pub next : Tickets → TicketOp → Tickets
next s (Draw n) = if nat_lt s.left n then s else record { left = s.left - n }

abbrev pub reply : Tickets → TicketOp → TicketReply
reply s (Draw n) = if nat_lt s.left n then gives.SoldOut else gives.Drawn

abbrev pub words : TicketOp → List ℕ
words (Draw n) = 1 ∷ n ∷ []

pub reads : (op : TicketOp) → Some (Draw (get_or (row_words (words op)) 1 0)) ≡ Some op
reads (Draw n) = refl

abbrev pub tickets : Sketch Tickets TicketOp TicketQuery TicketReply
tickets = let rows : Coding TicketOp = record { words = words; op_of = λ ws. Some (Draw (get_or ws 1 0)); reads = reads } in
    record { next = next; reply = reply; answer = λ s q. gives.Left s.left; rows = rows; text = λ s. codes "tickets " ++ decimal s.left }

-- so many tickets
abbrev pub tickets_at_first : ℕ → Tickets
tickets_at_first count = record { left = count }

-- the heads of the logs of so many buyers who draw of so many tickets
abbrev pub sale_heads : ℕ → ℕ → List LogHead
sale_heads count buyers = heads_of 4 (tickets.text (tickets_at_first count)) buyers
