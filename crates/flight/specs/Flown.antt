-- What removing or sending messages leaves in the arrays.
use Rattle.std.specs.Prelude.{◌≡◌, List, ℕ, ◌≤◌}
use Rattle.memory.specs.Layout.{message_room}
use Rattle.memory.specs.Lent.{Lent, was}
use Rattle.views.specs.Queue.{Flight, flight}

-- the messages in flight, and how many
pub record Flown (x : Flight) (queue payloads : List ℕ) (r : ℕ) : Type 0 where
  pub is : flight queue payloads r ≡ x
  pub few : r ≤ message_room

-- the messages that the lent arrays held
abbrev pub old_flight : (queue payloads : Lent) → ℕ → Flight
old_flight queue payloads count = flight (was queue) (was payloads) count
