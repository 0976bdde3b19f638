-- The messages in flight that the two arrays of the queue stand for, and what is left after one was appended.
use Rattle.std.specs.Prelude.{◌≡◌, List, ℕ}
use Rattle.blocks.specs.Order.{listed}
use Rattle.server.specs.declared.Message.{Message}
use Rattle.memory.specs.Layout.{content_at, order_of, place_at, header_at, put_message, put_content}

-- a message in flight: its header and 113 bytes of content, which count where its kind has a content
pub record Sent : Type 0 where
  pub header : Message
  pub content : List ℕ

-- what lies at place p
abbrev pub sent_at : List ℕ → List ℕ → ℕ → Sent
sent_at queue payloads p = record { header = header_at queue p; content = content_at payloads p }

-- the first n messages, by the order
unfoldable pub messages_at : ℕ → List ℕ → List ℕ → List Sent
messages_at n queue payloads = listed (sent_at queue payloads) n (order_of queue)

-- the arrays after a message was appended to n, with the block v as its content
pub record Appended (queue payloads : List ℕ) (n : ℕ) (m : Message) (v queue' payloads' : List ℕ) : Type 0 where
  pub headers : queue' ≡ put_message queue n m
  pub contents : payloads' ≡ put_content payloads (place_at queue n) v
