-- The handling by kind number is the handling of the messages of crates/model.
use Rattle.std.proofs.Common.{◌≡◌, ℕ, ◌<◌, ◌≤◌, false, refl, sym, ap, ◌∙◌, le-leb}
use borrow.Author.Tests.{lt-leb}
use Rattle.model.specs.Cluster as cluster
use Rattle.server.specs.Views.{among}
use Rattle.rounds.specs.Kinds.{handling_in, handling_of}

pub handling_means : (body : cluster.Body) → handling_in (cluster.kind_number body) ≡ handling_of body
unfolding handling_in handling_of cluster.kind_number among
handling_means cluster.please_vote = refl
handling_means cluster.ack_vote = refl
handling_means cluster.nack_vote = refl
handling_means (cluster.replica_write c) = refl
handling_means cluster.ack_write = refl
handling_means cluster.nack_write = refl
handling_means cluster.replica_read = refl
handling_means (cluster.ack_read c) = refl
handling_means cluster.nack_read = refl

pub handling_told : (kind : ℕ) (body : cluster.Body) → cluster.kind_number body ≡ kind → handling_of body ≡ handling_in kind
handling_told kind body e = sym (handling_means body) ∙ ap handling_in e

-- a kind past the votes
pub past_votes : (k : ℕ) → 3 < k → 1 ≤ k → among 3 k ≡ false
unfolding among
past_votes k hi lo = rw (among, le-leb _ _ lo, lt-leb _ _ hi)
