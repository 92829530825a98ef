-- What buyers drew, and that no ticket is drawn twice.
use Rattle.std.proofs.Common.{ℕ, Bool, true, false, ◌≡◌, ◌+◌, ◌-◌, ◌≤◌, if◌then◌else◌, nat_lt, Option, Result, Ok, Err, refl, arith}
use Rattle.std.proofs.lemmas.Bool.Decides.{nat_tests}
use Rattle.onll_pmem.specs.Pmem.{DeviceView}
use Rattle.onll_rows.specs.Sketch.{behaviour_of}
use Rattle.onll_balance.specs.Measure.{Measure, out_by}
use Rattle.onll_keeps.specs.Tallies.{HasTallied, out_of}
use Rattle.onll_shared.specs.declared.calls.UpdateFault.{UpdateFault}
use Rattle.onll_threads.specs.Acts.{SeatView}
use Rattle.onll_tickets.specs.declared.buyer.Ending.{Ending}
use Rattle.onll_tickets.specs.declared.buyer.Ending.TheVariants as why
use Rattle.onll_tickets.specs.declared.tickets.Tickets.{Tickets}
use Rattle.onll_tickets.specs.declared.tickets.TicketOp.{TicketOp}
use Rattle.onll_tickets.specs.declared.tickets.TicketOp.TheVariants.{Draw}
use Rattle.onll_tickets.specs.declared.tickets.TicketReply.{TicketReply}
use Rattle.onll_tickets.specs.declared.tickets.TicketReply.TheVariants as gives
use Rattle.onll_tickets.specs.Tickets.{next, reply, tickets}

-- a buyer ended well: it has as many as it wanted, or none was left
abbrev pub is_good : Ending → Bool
is_good why.Bought = true
is_good why.SoldOut = true
is_good why.Full = false
is_good why.Broken = false
is_good why.NotSaid = false

-- how many tickets a draw with this reply took
abbrev pub taken : TicketOp → TicketReply → ℕ
taken (Draw n) gives.Drawn = n
taken (Draw n) gives.SoldOut = 0
taken (Draw n) (gives.Left left) = 0

pub takes_none_back : (s : Tickets) (op : TicketOp) → (next s op).left + taken op (reply s op) ≤ s.left + 0
takes_none_back s (Draw n) = by (nat_lt s.left n) refl
  where
    by : (q : Bool) → q ≡ nat_lt s.left n
        → (if q then s else record { left = s.left - n }).left + taken (Draw n) (if q then gives.SoldOut else gives.Drawn) ≤ s.left + 0
    by true e = omega arith
    by false e = let fits : n ≤ s.left = grind (arith, nat_tests) in omega (arith, fits)

-- the tickets that are left: draws take of them, and nothing puts any back
abbrev pub tickets_left : Measure (behaviour_of tickets)
tickets_left = record {
  left = λ s. s.left;
  out = taken;
  back = λ op reply. 0;
  most = λ op. 0;
  within = λ op reply. omega arith;
  step = takes_none_back;
}

-- the calls that were made at a seat took so many tickets
abbrev pub HasDrawn : {Device : Type 0} → (Device → DeviceView) → Option (SeatView Tickets Device) → ℕ → SeatView Tickets Device → Type 0
HasDrawn means first drawn now = HasTallied (behaviour_of tickets) means first (out_by taken) drawn now

-- how many tickets an update that asked for one took
abbrev pub took : Result TicketReply UpdateFault → ℕ
took drawn = out_of taken (Draw 1) drawn

-- one ticket where a buyer goes on
abbrev pub one_drawn : Result (Unit {0}) Ending → ℕ
one_drawn (Ok x) = 1
one_drawn (Err ending) = 0
