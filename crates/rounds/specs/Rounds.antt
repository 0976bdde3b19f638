-- What the rules of rounds make of a round and of its sender's head, number by number. The laws in proofs/RoundLaws.antt tie
-- each to the definition of the same name in crates/model. A number that is raised wraps at 2 ^ 32.
use Rattle.std.specs.Prelude.{ℕ, ◌+◌, ◌%◌, ◌^◌, Bool, true, false, List, take, replicate, ◌==◌, nat_eq, slice_index_or, slice_set}
use Rattle.std.proofs.Math.Option.{Option, none, some}
use Rattle.entries.specs.Entries.{Entry}
use Rattle.model.specs.Cluster as cluster
use Rattle.server.specs.declared.Version.{Version}
use Rattle.server.specs.declared.Head.{Head}
use Rattle.server.specs.declared.Round.{Round}
use Rattle.server.specs.declared.Counted.{Counted}
use Rattle.server.specs.Views.{version_in, mark_in}

unfoldable pub is_silent : cluster.Mark → Bool
is_silent cluster.silent = true
is_silent cluster.acknowledged = false
is_silent cluster.refused = false

unfoldable pub pick_version : Bool → Version → Version → Version
pick_version b v w = elim b [ true ↦ v | false ↦ w ]

abbrev pub no_version : Version
no_version = record { election = 0; counter = 0 }

-- only a recovery read looks at the versions that replicas report
unfoldable pub reported : ℕ → Version → Version
reported purpose v = pick_version (purpose == 1) v no_version

abbrev pub round_with : ℕ → ℕ → ℕ → Version → List ℕ → Round
round_with purpose number election best marks = record { purpose = purpose; number = number; election = election; best = best; marks = marks }

-- the sender's own acknowledgement is the only mark
abbrev pub new_round_of : ℕ → ℕ → Head → Version → Round
new_round_of me purpose h v =
    round_with purpose ((h.last + 1) % 2 ^ 32) h.number (reported purpose v) (slice_set (replicate 7 0) me 1)

abbrev pub head_with : ℕ → ℕ → Head → Head
head_with me k h =
    record { number = h.number; vote = h.number; leader = me; role = h.role; last = k; stopped = h.stopped; votes = h.votes }

abbrev pub opened_head : ℕ → Head → Head
opened_head me h = head_with me ((h.last + 1) % 2 ^ 32) h

unfoldable pub improves : ℕ → Version → Version → Bool
improves purpose report best = elim (purpose == 1) [ true ↦ cluster.above (version_in report) (version_in best) | false ↦ false ]

abbrev pub counted_with : Round → List ℕ → Version → Bool → Counted
counted_with r marks best better =
    record { round = round_with r.purpose r.number r.election best marks; better = better }

-- the reply of q counts where q has no mark among the first n
unfoldable pub counted_of : ℕ → ℕ → ℕ → Version → Round → Counted
counted_of n q mark report r =
    let better = improves r.purpose report r.best in
    elim (is_silent (mark_in (slice_index_or (take n r.marks) q 2))) [
      | true ↦ counted_with r (slice_set r.marks q mark) (pick_version better report r.best) better
      | false ↦ record { round = r; better = false }
    ]

unfoldable pub pick_table : Bool → List Entry → List Entry → List Entry
pick_table b t u = elim b [ true ↦ t | false ↦ u ]

-- a reply counts only for an open round, with its election number and round
unfoldable pub matching : ℕ → ℕ → Option cluster.Round → Bool
matching e k none = false
matching e k (some r) = elim (e == r.election) [ true ↦ nat_eq k r.number | false ↦ false ]
