-- What removing or sending messages leaves in the two arrays.
use Rattle.std.specs.Prelude.{◌≡◌, ℕ, ◌+◌, ◌≤◌, ◌<◌}
use Rattle.memory.specs.declared.Counts.{Counts}
use Rattle.memory.specs.Layout.{server_room, bucket_room, message_room, slot_of}
use Rattle.memory.specs.Lent.{Lent}
use Rattle.moves.specs.declared.Move.{Move}
use Rattle.plans.specs.declared.Step.{Step}
use Rattle.refusals.specs.Refusals.{send_count}
use Rattle.views.specs.Memory.{Memory, memory}
use Rattle.views.specs.Arrays.{old_memory, new_memory}
use Rattle.views.specs.Queue.{Flight, flight, sent}

-- the messages of a memory, n of them
abbrev pub flight_of : Memory → ℕ → Flight
flight_of m n = flight m.queue m.payloads n

-- the memory with other messages in flight
abbrev pub with_flight : Memory → Flight → Memory
with_flight m x = memory m.counts m.heads m.slots m.copies m.working m.texts x.queue x.payloads

-- the messages in flight became x, r of them
pub record Flown (m : Memory) (x : Flight) (m' : Memory) (r : ℕ) : Type 0 where
  pub is : m' ≡ with_flight m x
  pub count : r ≡ x.count
  pub few : r ≤ message_room

abbrev pub Flies : (words bytes : Lent) → Flight → ℕ → Type 0
Flies words bytes x r = Flown (old_memory words bytes) x (new_memory words bytes) r

-- the messages that the lent arrays held
abbrev pub old_flight : (words bytes : Lent) → ℕ → Flight
old_flight words bytes n = flight_of (old_memory words bytes) n

-- a step has its server and bucket, and beside n messages there are places for what its move sends
pub record Sendable (n : ℕ) (c : Counts) (x : Step) (v : Move) : Type 0 where
  pub servers : c.servers ≤ server_room
  pub server : x.server < c.servers
  pub bucket : x.bucket < bucket_room
  pub room : n + send_count c.servers v.sends ≤ message_room

-- the messages once a move sent its own, where there were n
abbrev pub sent_by : Counts → Step → Move → Memory → ℕ → Flight
sent_by c x v m n =
    sent
    c.servers
    x.server
    x.bucket
    (slot_of x.server x.bucket)
    x.asked
    v
    m.working
    m.copies
    (flight_of m n)
