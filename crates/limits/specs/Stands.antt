-- A cluster that stands within the measures, and its tally: what every line keeps (`within_always` in proofs/Always.antt).
use Rattle.std.specs.Prelude.{◌≡◌, List, [], ℕ, ◌*◌, ◌≤◌}
use Rattle.std.proofs.Math.Option.{Option, none, some}
use Rattle.model.specs.Measures.{max_servers, max_buckets, max_messages, max_accepted, max_election}
use Rattle.model.specs.Cluster.{Message, Cluster}
use Rattle.model.specs.Lines.{initial_state, Tally}
use Rattle.limits.specs.Tally.{Tallied}
use Rattle.limits.specs.Measures.{ClusterWithin}

-- a cluster that stands, with no election number above `top`, and the tally of its messages, which agrees with itself and the list
pub record StandsUpTo (top : ℕ) (c : Cluster) (t : Tally) : Type 0 where
  pub servers : ℕ
  pub buckets : ℕ
  pub some_servers : 1 ≤ servers
  pub few_servers : servers ≤ max_servers
  pub some_buckets : 1 ≤ buckets
  pub few_buckets : buckets ≤ max_buckets
  pub within : ClusterWithin top servers buckets c.accepted c
  pub accepted : c.accepted ≤ max_accepted
  pub sent : t.sent ≤ max_messages * c.accepted
  pub copied : t.copied ≤ max_messages * c.accepted
  pub tallied : Tallied c.messages t

-- election numbers up to the greatest (RULES, Measures 6)
abbrev pub Stands : Cluster → Tally → Type 0
Stands = StandsUpTo max_election

-- before there is a cluster nothing is counted
abbrev pub MeasuredUpTo : ℕ → Option Cluster → Tally → Type 0
MeasuredUpTo top none t = t ≡ initial_state.tally
MeasuredUpTo top (some c) t = StandsUpTo top c t

abbrev pub Measured : Option Cluster → Tally → Type 0
Measured = MeasuredUpTo max_election

-- the messages in flight; none before there is a cluster
abbrev pub messages_of : Option Cluster → List Message
messages_of none = []
messages_of (some c) = c.messages
