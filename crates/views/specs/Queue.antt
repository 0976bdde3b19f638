-- What a step makes of the messages in flight: one may be removed, then the step's own are appended.
use Rattle.std.specs.Prelude.{◌≡◌, Bool, true, false, List, ℕ, zero, suc, ◌+◌, ◌-◌, ◌≤◌, eqb, length}
use Rattle.blocks.specs.Blocks.{block}
use Rattle.blocks.specs.Order.{Ordered}
use Rattle.model.specs.Cluster as cluster
use Rattle.server.specs.declared.Message.{Message}
use Rattle.server.specs.Views.{chosen, is_broadcast}
use Rattle.memory.specs.Layout.{message_room, queue_length, content_size, order_of, place_at, without_place, put_message, put_content}
use Rattle.moves.specs.declared.Move.{Move}
use Rattle.views.specs.Memory.{flight_at}

-- the two arrays of the messages, and how many messages there are
pub record Flight : Type 0 where
  pub queue : List ℕ
  pub payloads : List ℕ
  pub count : ℕ

abbrev pub flight : List ℕ → List ℕ → ℕ → Flight
flight q l c = record { queue = q; payloads = l; count = c }

-- arrays of the lent sizes, with no more messages than there are places, and an order that names each place once
pub record Sound (x : Flight) : Type 0 where
  pub queue : length x.queue ≡ queue_length
  pub order : Ordered (order_of x.queue)
  pub payloads : length x.payloads ≡ 8192
  pub count : x.count ≤ message_room

-- the messages that it stands for
abbrev pub flight_in : Flight → List cluster.Message
flight_in x = flight_at x.count x.queue x.payloads

-- ---- a message is appended, at the first free place and with the block v as its content; one is removed, and its place is free

unfoldable pub appended : List ℕ → Message → Flight → Flight
appended v m x = flight (put_message x.queue x.count m) (put_content x.payloads (place_at x.queue x.count) v) (x.count + 1)

unfoldable pub without_message : Bool → ℕ → Flight → Flight
without_message removes i x =
    elim removes [ true ↦ flight (without_place x.count i x.queue) x.payloads (x.count - 1) | false ↦ x ]

-- ---- what is sent

abbrev pub message_to : Message → ℕ → Message
message_to m q =
    record {
      kind = m.kind;
      sender = m.sender;
      receiver = q;
      bucket = m.bucket;
      election = m.election;
      round = m.round;
      version = m.version;
    }

-- to server q, unless it is the sender
abbrev pub sent_to : List ℕ → Message → ℕ → Flight → Flight
sent_to v m q x = elim (eqb q m.sender) [ true ↦ x | false ↦ appended v (message_to m q) x ]

-- to the servers below n, without the sender
unfoldable pub spread : List ℕ → Message → ℕ → Flight → Flight
spread v m zero x = x
spread v m (suc n) x = sent_to v m n (spread v m n x)

-- PLEASEVOTE carries bucket 0 and round 0
abbrev pub broadcast_of : ℕ → ℕ → Move → Message
broadcast_of me b v =
    record {
      kind = v.sends;
      sender = me;
      receiver = me;
      bucket = chosen (eqb v.sends 1) 0 b;
      election = v.local.head.number;
      round = chosen (eqb v.sends 1) 0 v.local.head.last;
      version = v.written;
    }

abbrev pub reply_of : ℕ → Message → Move → Message
reply_of me asked v =
    record {
      kind = v.sends;
      sender = me;
      receiver = asked.sender;
      bucket = asked.bucket;
      election = asked.election;
      round = asked.round;
      version = v.written;
    }

-- a broadcast takes its content from the working contents of slot k, a reply from the contents of copies
unfoldable pub sent : ℕ → ℕ → ℕ → ℕ → Message → Move → List ℕ → List ℕ → Flight → Flight
sent n me b k asked v working copies x =
    elim (eqb v.sends 0) [
      | true ↦ x
      | false ↦
          elim (is_broadcast v.sends) [
            | true ↦ spread (block content_size k working) (broadcast_of me b v) n x
            | false ↦ appended (block content_size k copies) (reply_of me asked v) x
          ]
    ]
