-- The message tally beside the messages in flight: sent and copied together equal delivered, lost and in flight; in flight is the
-- length of the list, which has at most 64. Every line keeps that (`balanced`, `in_flight`, `at_most_64` in proofs/Always.antt).
use Rattle.std.specs.Prelude.{◌≡◌, List, ◌+◌, ◌≤◌, length}
use Rattle.model.specs.Measures.{max_messages}
use Rattle.model.specs.Cluster.{Message}
use Rattle.model.specs.Lines.{Tally}

-- the tally agrees with itself and with the list
pub record Tallied (messages : List Message) (t : Tally) : Type 0 where
  pub balance : t.sent + t.copied ≡ t.delivered + t.lost + t.count_in_flight
  pub flight : t.count_in_flight ≡ length messages
  pub room : length messages ≤ max_messages
