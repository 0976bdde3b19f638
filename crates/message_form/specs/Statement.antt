-- Every message in flight has a datagram, which is written and read back. This file is the whole statement: how a message stands in a
-- datagram, and three claims. Theorems: `in_flight_have_form`, `message_back` and `one_message` in proofs/Theorem.antt. The datagram
-- form is that of crates/fields/specs/Form.antt.
use Rattle.std.specs.Prelude.{◌≡◌, true, ℕ, ◌-◌, ◌≤◌, length, get_or, drop}
use mathlib.Core.List.{List, [], ◌∷◌, ◌++◌, Memᴰ}
use Rattle.std.proofs.Math.Option.{some}
use Rattle.bucket.specs.Answers.{numbered}
use Rattle.fields.specs.Form.{Datagram, version, length_of, well_formed, table_fits, datagram_bytes, taken, read_datagram, write_datagram}
use Rattle.model.specs.Cluster.{Copy, copy_of, fresh_copy, Body, please_vote, ack_vote, nack_vote, replica_write, ack_write, nack_write, replica_read, ack_read, nack_read, kind_number, Message, Cluster}
use Rattle.model.specs.Lines.{initial_state}
use Rattle.model.specs.Run.{state_after}

-- ---- a message as a datagram

-- the copy that kinds 4 and 8 carry; the others have version (0, 0) and no entries
unfoldable pub copy_in : Body → Copy
copy_in please_vote = fresh_copy
copy_in ack_vote = fresh_copy
copy_in nack_vote = fresh_copy
copy_in (replica_write c) = c
copy_in ack_write = fresh_copy
copy_in nack_write = fresh_copy
copy_in replica_read = fresh_copy
copy_in (ack_read c) = c
copy_in nack_read = fresh_copy

unfoldable pub datagram_of : Message → Datagram
datagram_of m =
    let c = copy_in m.body in
    record {
      kind = kind_number m.body;
      from = m.sender;
      to = m.receiver;
      bucket = m.bucket;
      election = m.election;
      round = m.round;
      version = version c.version.election c.version.counter;
      table = c.table;
    }

abbrev pub message_bytes : Message → List ℕ
message_bytes m = datagram_bytes (datagram_of m)

-- ---- a datagram as a message

-- the kinds from 1 on
unfoldable pub body_of : ℕ → Copy → Body
body_of kind c = get_or (please_vote ∷ ack_vote ∷ nack_vote ∷ replica_write c ∷ ack_write ∷ nack_write ∷ replica_read ∷ ack_read c ∷ nack_read ∷ []) (kind - 1) please_vote

unfoldable pub message_of : Datagram → Message
message_of d =
    record {
      sender = d.from;
      receiver = d.to;
      bucket = d.bucket;
      election = d.election;
      round = d.round;
      body = body_of d.kind (copy_of (record { election = d.version.election; counter = d.version.counter }) d.table);
    }

-- ---- the claims

-- a message whose datagram is well formed: it is written where there is room, and read back
pub record HasForm (m : Message) : Type 0 where
  pub is_well_formed : well_formed (datagram_of m) ≡ true
  pub table_is_fit : table_fits (datagram_of m) ≡ true
  pub written : (out : List ℕ) → length_of (kind_number m.body) ≤ length out → write_datagram (datagram_of m) out ≡ numbered 0 (message_bytes m ++ drop (length_of (kind_number m.body)) out)
  pub read_back : read_datagram (message_bytes m) ≡ taken (datagram_of m)

-- after any lines of a script, every message in flight is such a one
abbrev pub InFlightHaveForm : Type 0
InFlightHaveForm = (ls : List (List ℕ)) (c : Cluster) → (state_after initial_state ls).cluster ≡ some c → (m : Message) → Memᴰ m c.messages → HasForm m

-- a datagram gives its message back
abbrev pub MessageBack : Type 0
MessageBack = (m : Message) → message_of (datagram_of m) ≡ m

-- so bytes are those of one message
abbrev pub OneMessage : Type 0
OneMessage = (m k : Message) → HasForm m → HasForm k → message_bytes m ≡ message_bytes k → m ≡ k
